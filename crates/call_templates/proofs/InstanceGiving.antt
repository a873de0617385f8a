-- What an instance gives back, once its block has ended and DBNO and DINO are those of the calling block again.
use Rattle.std.proofs.Common.{◌≡◌, ℕ, ◌+◌, Bool, true, false, if◌then◌else◌, List, [], ◌∷◌, ◌++◌, length, Option, Some, None, Result, Ok, refl, sym, ap, subst, ◌∙◌}
use Rattle.std.specs.Prelude.{All}
use Rattle.std.proofs.lemmas.List.Elements.{All-head, All-tail}
use Rattle.call_templates.proofs.ConstantActuals.{number_as, number_fits, number_put}
use Rattle.call_templates.proofs.Given.{block_place, block_reads, operand_puts, place_named, place_or_none}
use Rattle.call_templates.proofs.InstancePlaces.{ArePlaced, IsFound}
use Rattle.call_templates.proofs.OperandsRead.{read_as}
use Rattle.call_templates.specs.CallLaw.{frames_on}
use Rattle.call_templates.specs.Calls.{copies, copy_back, in_instance, variable_of}
use Rattle.memory_areas.specs.Access.{aim_of_place, and_then, area_named}
use Rattle.memory_areas.specs.Areas.{Contents}
use Rattle.memory_areas.specs.declared.place.Place.{Place}
use Rattle.s7_base.specs.declared.outcome.Fault.{Fault}
use Rattle.stl_tree.proofs.KeptFaults.{number_is_written}
use Rattle.stl_tree.specs.Accepted.{AreActuals, IsOperand, LiesInInstance, is_written, takes_constants}
use Rattle.stl_tree.specs.Accumulators.{write_number}
use Rattle.stl_tree.specs.Calls.{all_copied, copied_back, going_on, is_given_back, with_copy}
use Rattle.stl_tree.specs.Now.{Activation, Now, depth}
use Rattle.stl_tree.specs.Operands.{formal_place}
use Rattle.stl_tree.specs.declared.program.Actual.{Actual}
use Rattle.stl_tree.specs.declared.program.Actual.TheVariants as actual
use Rattle.stl_tree.specs.declared.program.Formal.{Formal}
use Rattle.stl_tree.specs.declared.program.Mode.{Mode}
use Rattle.stl_tree.specs.declared.program.Mode.TheVariants as mode
use Rattle.stl_tree.specs.declared.program.Operand.{Operand}
use Rattle.stl_tree.specs.declared.program.Operand.TheVariants as operand
use Rattle.st_tree.proofs.TwoParts.{goes_on_behind}
use Rattle.st_tree.specs.Meaning.{Calls, Normal, body_meaning}
use Rattle.st_tree.specs.State.{State, own_of, write_place}
use Rattle.st_tree.specs.Values.{type_of_width}
use Rattle.st_tree.specs.declared.expr.Expr.TheVariants as expr
use Rattle.st_tree.specs.declared.program.Located.{Located}
use Rattle.st_tree.specs.declared.program.Stmt.{Stmt}
use Rattle.st_tree.specs.declared.program.Stmt.TheVariants as stmt
use Rattle.template_parts.proofs.Putting.{Puts, PutsAt}
use Rattle.template_parts.specs.Related.{Frames, Related}

-- a formal that takes constants is an input
input_alone : (m : Mode) → takes_constants m ≡ true → is_given_back m ≡ false
input_alone mode.Input h = refl
input_alone other h = cc

-- Places, when the calling block goes on

-- the state in which the calling block goes on, before anything is given back
abbrev pub back_on : Now → List Activation → Now → Now
back_on now blocks done =
    record done {
      registers = record done.registers { db = now.registers.db; di = now.registers.di };
      activations = going_on blocks;
    }

formal_still : (k : ℕ) (acts : List Activation) → formal_place k (going_on acts) ≡ formal_place k acts
formal_still k [] = refl
formal_still k (a ∷ waiting) = refl

depth_still : (acts : List Activation) → depth (going_on acts) ≡ depth acts
depth_still [] = refl
depth_still (a ∷ waiting) = refl

-- an operand names the same place as before the call
named_back : (now : Now) (done : Now) (o : Operand) → place_named o (back_on now now.activations done) ≡ place_named o now
named_back now done (operand.Direct a byte x) =
    ap (λ (d : ℕ). record { area = area_named a now.registers.db now.registers.di d; byte = byte; bit = x }) (depth_still now.activations)
named_back now done (operand.Opened k byte x) = refl
named_back now done (operand.Formal k) = ap place_or_none (formal_still k now.activations)
named_back now done o = refl

module _ (g : List Located) (calls : Calls) (units : ℕ) (frames : Frames) (now : Now) (done : Now) (instance : ℕ)
    (blocks : now.activations ≡ frames.blocks) where
  abbrev pub back : Contents → Now
  back m = record (back_on now frames.blocks done) { memory = m }

  -- statements copy back as the program does
  pub record CopiesBack (made : Contents → Result Contents Fault) (m : Contents) (body : List Stmt) (s : State) : Type 0 where
    pub new : Contents
    pub to : State
    pub is : made m ≡ Ok new
    pub goes : body_meaning g calls body units s ≡ Normal units to
    pub related : Related (frames_on frames) (back new) to
    pub own : own_of to.activations ≡ own_of s.activations

  none_copied : (m : Contents) (s : State) → Related (frames_on frames) (back m) s → CopiesBack (λ x. Ok x) m [] s
  none_copied m s related = record { new = m; to = s; is = refl; goes = refl; related = related; own = refl }

  named_at : (m : Contents) (o : Operand) → place_named o (back m) ≡ place_named o now
  named_at m o =
      ap (λ (acts : List Activation). place_named o (back_on now acts (record done { memory = m }))) (sym blocks)
      ∙ named_back now (record done { memory = m }) o

  module _ (m : Contents) (s : State) (related : Related (frames_on frames) (back m) s) (f : Formal) (lies : LiesInInstance frames.dbs instance f)
      (o : Operand) (written : is_written o ≡ true) (is : IsOperand frames.formals f.width o) (p : Place) (same : p ≡ place_named o now)
      (found : IsFound (length now.activations) frames.dbs f.width p) where
    abbrev from : Place
    from = block_place instance f.byte f.bit

    abbrev body : List Stmt
    body = stmt.Assign (variable_of o f.width) (expr.Read (in_instance instance f)) ∷ []

    number_back : CopiesBack (with_copy f.width from p) m body s
    number_back =
        let read = read_as f.width from m related.bytes (related.faults (aim_of_place from) f.width ∙ lies) in
        let wrote = number_is_written f.width p read.number m (related.faults (aim_of_place p) f.width ∙ found.lies) in
        let put : write_place (type_of_width f.width) p (number_as f.width read.number) m ≡ Ok wrote.0 =
        number_put f.width p read.number m read.small ∙ wrote.1 in
        let puts : PutsAt g (frames_on frames) f.width (Ok p) (back m) s (stmt.Assign (variable_of o f.width)) =
        subst (λ (q : Place). PutsAt g (frames_on frames) f.width (Ok q) (back m) s (stmt.Assign (variable_of o f.width))) (named_at m o ∙ sym same)
        (operand_puts g (frames_on frames) (back m) s related o f.width written is) in
        let gone =
        subst (λ (r : Result Contents Fault). Puts (body_meaning g calls body units s) (body_meaning g calls []) units (frames_on frames) (back m) s r) put
        (puts.puts calls units (expr.Read (in_instance instance f)) (number_as f.width read.number) [] (number_fits f.width read.number read.small)
        (block_reads g (frames_on frames) (back m) s related instance f.byte f.bit f.width ∙ read.is_value)) in
        record {
          new = wrote.0;
          to = gone.to;
          is = ap (λ (r : Result ℕ Fault). and_then r (λ x. write_number f.width p x m)) read.is_number ∙ wrote.1;
          goes = gone.goes;
          related = gone.related;
          own = gone.own;
        }

    if_given : (b : Bool) → CopiesBack (λ x. if b then with_copy f.width from p x else Ok x) m (if b then body else []) s
    if_given true = number_back
    if_given false = none_copied m s related

  both_copied : (one two : Contents → Result Contents Fault) (m : Contents) (xs ys : List Stmt) (s : State) (h : CopiesBack one m xs s)
      → CopiesBack two h.new ys h.to → CopiesBack (λ x. and_then (one x) two) m (xs ++ ys) s
  both_copied one two m xs ys s h k =
      record {
        new = k.new;
        to = k.to;
        is = ap (λ (r : Result Contents Fault). and_then r two) h.is ∙ k.is;
        goes = goes_on_behind g calls xs units s ys units h.to h.goes ∙ k.goes;
        related = k.related;
        own = k.own ∙ h.own;
      }

  -- a constant is never given back, since its formal is an input
  constant_kept : (f : Formal) (p : Place) (m : Contents) (s : State) → Related (frames_on frames) (back m) s → is_given_back f.mode ≡ false
      → CopiesBack (copied_back instance f (Some p)) m [] s
  constant_kept f p m s related input =
      subst (λ (b : Bool). CopiesBack (λ x. if b then with_copy f.width (block_place instance f.byte f.bit) p x else Ok x) m [] s) (sym input)
      (none_copied m s related)

  pub instance_gives : (formals : List Formal) (actuals : List Actual) (places : List (Option Place)) (k : ℕ) (m : Contents) (s : State)
      → Related (frames_on frames) (back m) s → All (LiesInInstance frames.dbs instance) formals → AreActuals frames.formals true formals actuals
      → ArePlaced (length now.activations) frames.dbs now k formals actuals places
      → CopiesBack (all_copied (copied_back instance) formals places) m (copies (copy_back instance) formals actuals) s
  instance_gives [] [] [] k m s related lie are placed = none_copied m s related
  instance_gives (f ∷ formals) (actual.Missing ∷ actuals) (None ∷ places) k m s related lie are placed =
      instance_gives formals actuals places (k + 1) m s related (All-tail (LiesInInstance frames.dbs instance) f formals lie) are.1 placed
  instance_gives (f ∷ formals) (actual.Constant c ∷ actuals) (Some p ∷ places) k m s related lie are placed =
      let one = constant_kept f p m s related (input_alone f.mode are.0.0) in
      both_copied (copied_back instance f (Some p)) (all_copied (copied_back instance) formals places) m [] (copies (copy_back instance) formals actuals) s one
      (instance_gives formals actuals places (k + 1) one.new one.to one.related (All-tail (LiesInInstance frames.dbs instance) f formals lie) are.1 placed.1)
  instance_gives (f ∷ formals) (actual.At o ∷ actuals) (Some p ∷ places) k m s related lie are placed =
      let one =
      if_given m s related f (All-head (LiesInInstance frames.dbs instance) f formals lie) o are.0.0 are.0.1 p placed.0 placed.1 (is_given_back f.mode) in
      both_copied (copied_back instance f (Some p)) (all_copied (copied_back instance) formals places) m (copy_back instance f (actual.At o))
      (copies (copy_back instance) formals actuals) s one
      (instance_gives formals actuals places (k + 1) one.new one.to one.related (All-tail (LiesInInstance frames.dbs instance) f formals lie) are.1 placed.2)
  instance_gives formals actuals places k m s related lie are placed = absurd placed
