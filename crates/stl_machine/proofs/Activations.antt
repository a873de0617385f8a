-- The activations of a run: which instruction is next, and what is known of it in an accepted program.
use Rattle.std.proofs.Common.{◌≡◌, ◌≢◌, ℕ, ◌+◌, ◌-◌, ◌<◌, ◌^◌, List, [], ◌∷◌, length, slice_get, Option, Some, refl, sym, ap, ◌∙◌, subst, arith}
use Rattle.std.specs.Prelude.{Contains, option_and_then}
use Rattle.std.proofs.lemmas.List.Elements.{All-contains}
use Rattle.std.proofs.lemmas.Option.{get_or_from_slice_get, slice_get_within}
use Rattle.block_calls.specs.Fitting.{AreActivationsOf, IsActivationOf, IsCallBy, StandsIn, StandsInBody}
use Rattle.block_calls.specs.Scenes.{IsRunningBlock}
use Rattle.memory_areas.proofs.SameFaults.{reached_exists}
use Rattle.memory_areas.specs.declared.place.Place.{Place}
use Rattle.s7_base.specs.declared.word.Width.{Width}
use Rattle.s7_base.specs.declared.word.Width.TheVariants as width
use Rattle.stl_machine.specs.inner.Operands.{HasPlaceOf, HasPlaces}
use Rattle.stl_tree.specs.Accepted.{HasOperand, IsAccepted, IsAcceptedBlock, IsOperand, widths_named}
use Rattle.stl_tree.specs.Calls.{going_on, going_on_at}
use Rattle.stl_tree.specs.Jumps.{position_of}
use Rattle.stl_tree.specs.Now.{Activation, depth}
use Rattle.stl_tree.specs.Operands.{formal_place}
use Rattle.stl_tree.specs.StlRun.{instruction}
use Rattle.stl_tree.specs.declared.program.ArLoad.TheVariants as ar_load
use Rattle.stl_tree.specs.declared.program.ArStore.TheVariants as ar_store
use Rattle.stl_tree.specs.declared.program.BitArg.TheVariants as arg
use Rattle.stl_tree.specs.declared.program.Block.{Block}
use Rattle.stl_tree.specs.declared.program.BlockCall.{BlockCall}
use Rattle.stl_tree.specs.declared.program.Instr.{Instr}
use Rattle.stl_tree.specs.declared.program.LoadArg.TheVariants as load
use Rattle.stl_tree.specs.declared.program.Op.{Op}
use Rattle.stl_tree.specs.declared.program.Op.TheVariants as op
use Rattle.stl_tree.specs.declared.program.OpenArg.TheVariants as open_arg
use Rattle.stl_tree.specs.declared.program.Operand.{Operand}
use Rattle.stl_tree.specs.declared.program.Operand.TheVariants as operand
use Rattle.stl_tree.specs.declared.program.Program.{Program}

-- where the running block goes on does not change how many wait
pub number_of_running : (at : ℕ) (activations : List Activation) → depth (going_on_at at activations) ≡ length activations - 1
number_of_running at [] = refl
number_of_running at (a ∷ waiting) = omega arith

pub formal_found : (k at : ℕ) (activations : List Activation) (p : Place)
    → formal_place k activations ≡ Some p → formal_place k (going_on_at at activations) ≡ Some p
formal_found k at [] p e = e
formal_found k at (a ∷ waiting) p e = e

pub position_there : (at : ℕ) (activations : List Activation) → activations ≢ [] → position_of (going_on_at at activations) ≡ at
position_there at [] some = absurd (some refl)
position_there at (a ∷ waiting) some = refl

-- the running block goes on after its instruction, or at a position
pub goes_on : (at : ℕ) (activations : List Activation) → going_on (going_on_at at activations) ≡ going_on_at (at + 1) activations
goes_on at [] = refl
goes_on at (a ∷ waiting) = refl

pub goes_to : (to at : ℕ) (activations : List Activation) → going_on_at to (going_on_at at activations) ≡ going_on_at to activations
goes_to to at [] = refl
goes_to to at (a ∷ waiting) = refl

-- the instruction at a position of the running block
pub next_is_there : (p : Program) (at block : ℕ) (activations : List Activation) (b : Block) → IsRunningBlock activations block
    → slice_get p.blocks block ≡ Some b → instruction p (going_on_at at activations) ≡ slice_get b.body at
next_is_there p at block [] b r e = absurd r
next_is_there p at block (a ∷ waiting) b r e =
    ap (λ n. option_and_then (λ (c : Block). slice_get c.body at) (slice_get p.blocks n)) r
    ∙ ap (λ (o : Option Block). option_and_then (λ (c : Block). slice_get c.body at) o) e

-- What is known of the next instruction of an accepted program

module _ (p : Program) (accepted : IsAccepted p) where
  contains_at : {X : Type 0} (xs : List X) (k : ℕ) (x : X) → slice_get xs k ≡ Some x → Contains xs x
  contains_at xs k x e = (k, slice_get_within xs k x e, get_or_from_slice_get xs k x x e)

  module _ (at : ℕ) (a : Activation) (waiting : List Activation) (fits : IsActivationOf p (length waiting) a) (i : Instr)
      (next : instruction p (going_on_at at (a ∷ waiting)) ≡ Some i) where
    stands : slice_get fits.block.body at ≡ Some i
    stands = sym (ap (λ (o : Option Block). option_and_then (λ (c : Block). slice_get c.body at) o) fits.there) ∙ next

    good : IsAcceptedBlock fits.block
    good = All-contains IsAcceptedBlock p.blocks fits.block accepted.blocks (contains_at p.blocks a.block fits.block fits.there)

    operand_right : HasOperand (widths_named fits.block.name fits.block.formals) i.op
    operand_right =
        All-contains (λ (j : Instr). HasOperand (widths_named fits.block.name fits.block.formals) j.op) fits.block.body i good.operands
        (contains_at fits.block.body at i stands)

    pub room : at < 2 ^ 31
    room = omega (arith, slice_get_within fits.block.body at i stands, good.few)

    pub call_stands : (call : BlockCall) → IsCallBy call i.op → StandsIn p (a ∷ waiting) call
    call_stands call h = subst (StandsInBody call) (sym fits.there) (i, contains_at fits.block.body at i stands, h)

    abbrev Named : Operand → Type 0
    Named o = HasPlaceOf o (a ∷ waiting)

    named : (w : Width) (o : Operand) → IsOperand (widths_named fits.block.name fits.block.formals) w o → Named o
    named w (operand.Formal k) h =
        let known = fits.named k w h in
        (known.0, ap (λ (o : Option (Option Place)). option_and_then (λ q. q) o) known.1, reached_exists p.dbs known.0 w known.2)
    named w (operand.Direct b byte x) h = tt
    named w (operand.Opened n byte x) h = tt
    named w (operand.ByMemory b c byte) h = tt
    named w (operand.ByRegister b c byte) h = tt
    named w (operand.Crossing b byte) h = tt

    by_op : (o : Op) → HasOperand (widths_named fits.block.name fits.block.formals) o → HasPlaces o (a ∷ waiting)
    by_op (op.Check c (arg.At o)) h = named width.Bit o h
    by_op (op.Check c (arg.Flag t)) h = tt
    by_op (op.Assign o) h = named width.Bit o h
    by_op (op.Set o) h = named width.Bit o h
    by_op (op.Reset o) h = named width.Bit o h
    by_op (op.EdgeUp o) h = named width.Bit o h
    by_op (op.EdgeDown o) h = named width.Bit o h
    by_op (op.Load (load.At o w)) h = named w o h.1
    by_op (op.Load (load.Constant c)) h = tt
    by_op (op.Transfer o w) h = named w o h.1
    by_op (op.LoadAr r (ar_load.At o)) h = named width.Dword o h.1
    by_op (op.LoadAr r ar_load.Accu1) h = tt
    by_op (op.LoadAr r (ar_load.Constant c)) h = tt
    by_op (op.LoadAr r ar_load.OtherAr) h = tt
    by_op (op.StoreAr r (ar_store.At o)) h = named width.Dword o h.1
    by_op (op.StoreAr r ar_store.Accu1) h = tt
    by_op (op.StoreAr r ar_store.OtherAr) h = tt
    by_op (op.OpenDb (open_arg.At o)) h = named width.Word o h.1
    by_op (op.OpenDb (open_arg.Number n)) h = tt
    by_op (op.OpenDi (open_arg.At o)) h = named width.Word o h.1
    by_op (op.OpenDi (open_arg.Number n)) h = tt
    by_op op.OrAlone h = tt
    by_op (op.Bracket c) h = tt
    by_op op.Close h = tt
    by_op op.SetRlo h = tt
    by_op op.ClearRlo h = tt
    by_op op.NotRlo h = tt
    by_op op.Save h = tt
    by_op op.LoadStw h = tt
    by_op op.TransferStw h = tt
    by_op op.LoadDbNo h = tt
    by_op op.LoadDiNo h = tt
    by_op (op.Arith r) h = tt
    by_op (op.AddWord n) h = tt
    by_op (op.AddDword n) h = tt
    by_op (op.Inc n) h = tt
    by_op (op.Dec n) h = tt
    by_op (op.Compare t w) h = tt
    by_op (op.Shift s n) h = tt
    by_op op.Rlda h = tt
    by_op op.Rrda h = tt
    by_op (op.Logic l c) h = tt
    by_op (op.Unary u) h = tt
    by_op op.Tak h = tt
    by_op op.Push h = tt
    by_op op.Pop h = tt
    by_op op.ExchangeAr h = tt
    by_op (op.AddAr r n) h = tt
    by_op op.ExchangeDb h = tt
    by_op op.Nop h = tt
    by_op (op.Jump t to) h = tt
    by_op (op.Loop to) h = tt
    by_op (op.JumpList n to) h = tt
    by_op op.BlockEnd h = tt
    by_op op.BlockEndIf h = tt
    by_op (op.Call c) h = tt
    by_op (op.CallIf c) h = tt

    pub places_named : HasPlaces i.op (a ∷ waiting)
    places_named = by_op i.op operand_right

-- what is known of the next instruction: the formals that it names have places, and what it calls stands in the running
-- block
pub record IsKnown (p : Program) (at : ℕ) (activations : List Activation) (i : Instr) : Type 0 where
  pub running : activations ≢ []
  pub room : at < 2 ^ 31
  pub places : HasPlaces i.op activations
  pub calls : (call : BlockCall) → IsCallBy call i.op → StandsIn p activations call

pub known_next : (p : Program) → IsAccepted p → (at : ℕ) (activations : List Activation) (i : Instr) → AreActivationsOf p activations
    → instruction p (going_on_at at activations) ≡ Some i → IsKnown p at activations i
known_next p accepted at [] i fits e = absurd cc
known_next p accepted at (a ∷ waiting) i fits e = record {
  running = λ none. absurd cc;
  room = room p accepted at a waiting fits.0 i e;
  places = places_named p accepted at a waiting fits.0 i e;
  calls = call_stands p accepted at a waiting fits.0 i e;
}
