-- Rows that read or write a place of memory: what an access does there, by a direct variable or by a pointer in a local.
use Rattle.std.proofs.Common.{◌≡◌, ℕ, ◌^◌, ◌<◌, ◌≤◌, pos, List, ◌∷◌, length, Result, Ok, Err, Some, refl, ap, subst, ◌∙◌, arith}
use Rattle.std.specs.Prelude.{slice_get}
use Rattle.memory_areas.specs.Access.{HoldsBytes, and_then, place_aimed, aim_of_pointer}
use Rattle.memory_areas.specs.Areas.{Contents}
use Rattle.memory_areas.specs.declared.place.AreaName.{AreaName}
use Rattle.memory_areas.specs.declared.place.Place.{Place}
use Rattle.s7_base.specs.declared.outcome.Fault.{Fault}
use Rattle.s7_base.specs.declared.register.Reg.TheVariants as reg
use Rattle.s7_base.specs.declared.word.Width.{Width}
use Rattle.stl_tree.specs.Now.{Effect, Now, depth, with_value}
use Rattle.st_tree.specs.Meaning.{Calls, Faults, Out, body_meaning, state_or_fault, then_do}
use Rattle.st_tree.specs.State.{Activation as Running, State, area_read, area_write, depth as depth_of_state, own_of, place_of, pointed_at, read_place, write_at, write_place}
use Rattle.st_tree.specs.Value.{value}
use Rattle.st_tree.specs.Values.{pattern, type_of_width}
use Rattle.st_tree.specs.declared.expr.Expr.{Expr}
use Rattle.st_tree.specs.declared.expr.Expr.TheVariants as expr
use Rattle.st_tree.specs.declared.expr.StType.{StType}
use Rattle.st_tree.specs.declared.expr.Var.TheVariants as var
use Rattle.st_tree.specs.declared.program.Located.{Located}
use Rattle.st_tree.specs.declared.program.Stmt.{Stmt}
use Rattle.st_tree.specs.declared.program.Stmt.TheVariants as stmt
use Rattle.st_tree.specs.declared.state.Reference.TheVariants as reference
use Rattle.st_tree.specs.declared.state.Value.{Value}
use Rattle.st_tree.proofs.FittingMemory.{AfterHolds, place_holds}
use Rattle.st_tree.proofs.Equations.{meaning_area_write, meaning_assign, value_area_read, value_read}
use Rattle.template_parts.specs.Builders.{local_of}
use Rattle.template_parts.specs.Related.{Frames, Related}
use Rattle.template_parts.proofs.Alike.{as_deep_as, place_now, same_db, same_di, same_place}
use Rattle.template_parts.specs.DoesInstruction.{DoesInstruction, Stops}
use Rattle.st_tree.proofs.Locals.{as_deep, local_read, own_other, with_own}
use Rattle.template_parts.proofs.Pointers.{dword}

-- a row by a value that a fault may stand in the place of
pub by_value : {A : Type 0} (ended : Out) (units used : ℕ) (frames : Frames) (s : State) (memory : Contents) (effect : A → Effect) (r : Result A Fault)
    → ((x : A) → r ≡ Ok x → DoesInstruction ended units used frames s memory (effect x)) → ((f : Fault) → r ≡ Err f → Stops ended memory f)
    → DoesInstruction ended units used frames s memory (with_value r effect)
by_value ended units used frames s memory effect (Ok x) goes stops = goes x refl
by_value ended units used frames s memory effect (Err f) goes stops = stops f refl

-- States in which an access reaches the same place

-- as many units run in a state u as in t, and the open data blocks and the first locals are the same
pub record KeepsWay (many : ℕ) (t u : State) : Type 0 where
  pub db : u.registers reg.DbNo ≡ t.registers reg.DbNo
  pub di : u.registers reg.DiNo ≡ t.registers reg.DiNo
  pub deep : length u.activations ≡ length t.activations
  pub locals : (i : ℕ) → i < many → slice_get (own_of u.activations) i ≡ slice_get (own_of t.activations) i

pub keeps_itself : (many : ℕ) (t : State) → KeepsWay many t t
keeps_itself many t = record { db = refl; di = refl; deep = refl; locals = λ i h. refl }

-- a way that is kept with more locals is kept
pub fewer : (many few : ℕ) (t u : State) → few ≤ many → KeepsWay many t u → KeepsWay few t u
fewer many few t u h keeps = record { db = keeps.db; di = keeps.di; deep = keeps.deep; locals = λ i small. keeps.locals i (omega arith) }

-- and so from a state before
pub kept_on : (many : ℕ) (t u x : State) → KeepsWay many t u → KeepsWay many u x → KeepsWay many t x
kept_on many t u x h k =
    record { db = k.db ∙ h.db; di = k.di ∙ h.di; deep = k.deep ∙ h.deep; locals = λ i small. k.locals i small ∙ h.locals i small }

-- registers and memory may change
pub registers_kept : (many : ℕ) (t u : State) → u.activations ≡ t.activations
    → u.registers reg.DbNo ≡ t.registers reg.DbNo → u.registers reg.DiNo ≡ t.registers reg.DiNo → KeepsWay many t u
registers_kept many t u activations db di =
    record {
      db = db;
      di = di;
      deep = ap length activations;
      locals = λ i small. ap (λ (running : List Running). slice_get (own_of running) i) activations;
    }

-- and so may a local behind those of the way
pub local_kept : (many i : ℕ) (v : Value) (t : State) → many ≤ i → KeepsWay many t (with_own i v t)
local_kept many i v t h =
    record {
      db = refl;
      di = refl;
      deep = as_deep t.activations (depth_of_state t) i v;
      locals = λ j small. own_other i v t j (λ same. absurd (omega arith));
    }

-- What an access does

module _ (g : List Located) (ty : StType) (target : Result Place Fault) (u : State) where
  -- an expression is worth what is read at a place, or meets the fault that stands in its place
  abbrev pub IsReadAt : Expr → Type 0
  IsReadAt e = value g e u ≡ and_then target (λ p. read_place ty p u.memory)

  -- the state once a value was written there
  abbrev pub put_at : Value → Result State Fault
  put_at v = and_then target (λ p. and_then (write_place ty p v u.memory) (λ m. Ok (record u { memory = m })))

  -- a statement with an expression writes what that is worth there
  abbrev pub Writes : (Expr → Stmt) → Type 0
  Writes with_expression =
      (calls : Calls) (units : ℕ) (e : Expr) (rest : List Stmt)
      → body_meaning g calls (with_expression e ∷ rest) units u ≡ then_do (state_or_fault (and_then (value g e u) put_at) units u) (body_meaning g calls rest)

-- how a statement that writes goes on, or stops, once its expression has a value
module _ (g : List Located) (ty : StType) (p : Place) (u : State) (with_expression : Expr → Stmt) (writes : Writes g ty (Ok p) u with_expression)
    (calls : Calls) (units : ℕ) (e : Expr) (rest : List Stmt) where
  abbrev after : Result State Fault → Out
  after r = then_do (state_or_fault r units u) (body_meaning g calls rest)

  pub write_goes_on : (v : Value) (m : Contents) → value g e u ≡ Ok v → write_place ty p v u.memory ≡ Ok m
      → body_meaning g calls (with_expression e ∷ rest) units u ≡ body_meaning g calls rest units (record u { memory = m })
  write_goes_on v m h k =
      writes calls units e rest
      ∙ ap (λ r. after (and_then r (put_at g ty (Ok p) u))) h
      ∙ ap (λ r. after (and_then r (λ m. Ok (record u { memory = m })))) k

  pub write_stops_at_place : (v : Value) (f : Fault) → value g e u ≡ Ok v → write_place ty p v u.memory ≡ Err f
      → body_meaning g calls (with_expression e ∷ rest) units u ≡ Faults f u
  write_stops_at_place v f h k =
      writes calls units e rest
      ∙ ap (λ r. after (and_then r (put_at g ty (Ok p) u))) h
      ∙ ap (λ r. after (and_then r (λ m. Ok (record u { memory = m })))) k

  pub write_stops_at_value : (f : Fault) → value g e u ≡ Err f → body_meaning g calls (with_expression e ∷ rest) units u ≡ Faults f u
  write_stops_at_value f h = writes calls units e rest ∙ ap (λ r. after (and_then r (put_at g ty (Ok p) u))) h

-- or meets a fault in the place of its place
pub write_misses : (g : List Located) (ty : StType) (target : Result Place Fault) (u : State) (with_expression : Expr → Stmt)
    → Writes g ty target u with_expression
    → (calls : Calls) (units : ℕ) (e : Expr) (rest : List Stmt) (v : Value) (f : Fault) → value g e u ≡ Ok v → target ≡ Err f
    → body_meaning g calls (with_expression e ∷ rest) units u ≡ Faults f u
write_misses g ty target u with_expression writes calls units e rest v f h none =
    writes calls units e rest
    ∙ ap (λ r. then_do (state_or_fault (and_then r (put_at g ty target u)) units u) (body_meaning g calls rest)) h
    ∙ ap (λ r. then_do (state_or_fault (put_at g ty r u v) units u) (body_meaning g calls rest)) none

-- what is written at a place leaves bytes
pub written_holds : (ty : StType) (p : Place) (v : Value) (before after : Contents)
    → HoldsBytes before → write_place ty p v before ≡ Ok after → HoldsBytes after
written_holds ty p v before after holds e = subst AfterHolds e (place_holds ty p v before holds)

-- Both kinds of access

module _ (g : List Located) (frames : Frames) (now : Now) (t : State) (related : Related frames now t) (many : ℕ) (u : State) (keeps : KeepsWay many t u) where
  same_direct : (a : AreaName) (byte x : ℕ) → place_of a byte x u ≡ place_now a byte x now
  same_direct a byte x =
      let here : place_of a byte x u ≡ place_of a byte x t = rw (keeps.db, keeps.di, keeps.deep) refl in
      here ∙ same_place frames now t related a byte x

  -- by a direct variable
  pub direct_reads : (a : AreaName) (byte x : ℕ) (w : Width) → IsReadAt g (type_of_width w) (Ok (place_now a byte x now)) u (expr.Read (var.Direct a byte x w))
  direct_reads a byte x w =
      value_read g (var.Direct a byte x w) u ∙ ap (λ (p : Place). read_place (type_of_width w) p u.memory) (same_direct a byte x)

  pub direct_writes : (a : AreaName) (byte x : ℕ) (w : Width) → Writes g (type_of_width w) (Ok (place_now a byte x now)) u (stmt.Assign (var.Direct a byte x w))
  direct_writes a byte x w calls units e rest =
      ap (λ (out : Out). then_do out (body_meaning g calls rest)) (meaning_assign g calls units u (var.Direct a byte x w) e)
      ∙ ap (λ (p : Place). then_do (state_or_fault (and_then (value g e u) (put_at g (type_of_width w) (Ok p) u)) units u) (body_meaning g calls rest))
      (same_direct a byte x)

  -- by a pointer in one of the locals
  module _ (q i : ℕ) (small : q < 2 ^ 32) (kept : i < many) (there : slice_get (own_of t.activations) i ≡ Some (dword q))
      (target : Result Place Fault) (means : place_aimed (aim_of_pointer q now.registers.db now.registers.di (depth now.activations)) ≡ target) where
    pointer_read : value g (local_of i) u ≡ Ok (dword q)
    pointer_read = local_read g i (dword q) u (keeps.locals i kept ∙ there)

    same_pointed : pointed_at (dword q) u ≡ target
    same_pointed =
        let whole : pattern 32 (pos q) ≡ q = omega arith in
        let here : pointed_at (dword q) u ≡ pointed_at (dword q) t = rw (keeps.db, keeps.di, keeps.deep) refl in
        let same : pointed_at (dword q) t ≡ place_aimed (aim_of_pointer q now.registers.db now.registers.di (depth now.activations)) =
        rw (whole, same_db frames now t related, same_di frames now t related, as_deep_as frames now t related) refl in
        here ∙ same ∙ means

    pub pointer_reads : (w : Width) → IsReadAt g (type_of_width w) target u (expr.AreaRead w (local_of i))
    pointer_reads w =
        value_area_read g w (local_of i) u
        ∙ ap (λ r. and_then r (λ v. area_read w v u)) pointer_read
        ∙ ap (λ r. and_then r (λ (p : Place). read_place (type_of_width w) p u.memory)) same_pointed

    pub pointer_writes : (w : Width) → Writes g (type_of_width w) target u (stmt.AreaWrite w (local_of i))
    pointer_writes w calls units e rest =
        ap (λ (out : Out). then_do out (body_meaning g calls rest)) (meaning_area_write g calls units u w (local_of i) e)
        ∙ ap (λ r. then_do (state_or_fault (and_then r (λ at. and_then (value g e u) (λ v. area_write w at v u))) units u) (body_meaning g calls rest))
        pointer_read
        ∙ ap
        (λ r. then_do (state_or_fault (and_then (value g e u) (λ v. and_then r (λ (p : Place). write_at (reference.Place p (type_of_width w)) v u))) units u)
        (body_meaning g calls rest)) same_pointed
