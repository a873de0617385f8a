-- Texts whose units have the same heads: the same calls fit them.
use Rattle.std.proofs.Common.{◌≡◌, ℕ, Bool, true, false, cond, List, [], ◌∷◌, Option, Some, None, sym, subst, ◌∙◌}
use Rattle.memory_areas.specs.declared.call.BlockName.{BlockName}
use Rattle.memory_areas.specs.declared.call.BlockName.TheVariants as name
use Rattle.memory_areas.specs.declared.call.Call.{Call}
use Rattle.memory_areas.specs.declared.data_block.DataBlock.{DataBlock}
use Rattle.memory_areas.specs.declared.place.Place.{Place}
use Rattle.s7_base.specs.declared.word.Width.{Width}
use Rattle.condition_laws.specs.Kept.{KeepsHead}
use Rattle.st_globals.proofs.With.{both}
use Rattle.st_tree.specs.Fitting.{Paired}
use Rattle.st_tree.specs.StRun.{FitFormals, FitsIfThere, FitsSt, FitsUnit, is_meant, is_program, is_same_kind, called_name, unit_called}
use Rattle.std.specs.Prelude.{◌&&◌}
use Rattle.std.specs.Str.{str_eq_ignore_ascii_case}
use Rattle.st_tree.specs.declared.program.Local.{Local}
use Rattle.st_tree.specs.declared.program.Pou.{Pou}
use Rattle.st_tree.specs.declared.program.StProgram.{StProgram}

-- heads are kept, both ways
head_back : (u v : Pou) → KeepsHead u v → KeepsHead v u
head_back u v h = record { kind = sym h.kind; name = sym h.name; formals = sym h.formals; locals = sym h.locals }

heads_back : (us vs : List Pou) → Paired KeepsHead us vs → Paired KeepsHead vs us
heads_back [] [] h = tt
heads_back [] (v ∷ vs) h = h
heads_back (u ∷ us) [] h = h
heads_back (u ∷ us) (v ∷ vs) h = (head_back u v h.0, heads_back us vs h.1)

-- two units that are both there, with the same head, or both not
abbrev HaveHead : Option Pou → Option Pou → Type 0
HaveHead None None = Unit {0}
HaveHead None (Some v) = ⊥
HaveHead (Some u) None = ⊥
HaveHead (Some u) (Some v) = KeepsHead u v

meant : (called : BlockName) (u v : Pou) → KeepsHead u v → is_meant called v ≡ is_meant called u
meant called u v h =
    both (λ (n : List ℕ) (k : Bool). str_eq_ignore_ascii_case n (called_name called) && is_same_kind (is_program called) k) h.name
    h.kind

either : (b : Bool) (u v : Pou) (o p : Option Pou) → KeepsHead u v → HaveHead o p → HaveHead (cond b (Some u) o) (cond b (Some v) p)
either true u v o p h k = h
either false u v o p h k = k

found : (called : BlockName) (us vs : List Pou) → Paired KeepsHead us vs → HaveHead (unit_called called us) (unit_called called vs)
found called [] [] h = tt
found called [] (v ∷ vs) h = absurd h
found called (u ∷ us) [] h = absurd h
found called (u ∷ us) (v ∷ vs) h =
    subst
    (λ (b : Bool). HaveHead (cond (is_meant called u) (Some u) (unit_called called us)) (cond b (Some v) (unit_called called vs)))
    (sym (meant called u v h.0))
    (either (is_meant called u) u v (unit_called called us) (unit_called called vs) h.0 (found called us vs h.1))

unit_fits : (blocks : List DataBlock) (u v : Pou) → KeepsHead u v → (called : BlockName) (instance : ℕ) (actuals : List (Place × Width))
    → FitsUnit blocks u called instance actuals → FitsUnit blocks v called instance actuals
unit_fits blocks u v h (name.Ob n) instance actuals fits = fits
unit_fits blocks u v h (name.Fc n) instance actuals fits =
    subst (λ (formals : List Local). FitFormals blocks formals actuals) (sym h.formals) fits
unit_fits blocks u v h (name.Fb n) instance actuals fits = record { formals = h.formals ∙ fits.formals; block = fits.block }

there : (old new : StProgram) (call : Call) (o p : Option Pou) → new.dbs ≡ old.dbs → HaveHead o p → FitsIfThere old call o
    → FitsIfThere new call p
there old new call None None e h fits = fits
there old new call None (Some v) e h fits = absurd h
there old new call (Some u) None e h fits = absurd h
there old new call (Some u) (Some v) e h fits =
    subst (λ (blocks : List DataBlock). FitsUnit blocks v call.block call.instance call.actuals) (sym e)
    (unit_fits old.dbs u v h call.block call.instance call.actuals fits)

pub fits : (old new : StProgram) → new.dbs ≡ old.dbs → Paired KeepsHead old.pous new.pous → (call : Call) → FitsSt old call
    → FitsSt new call
fits old new e h call k =
    there old new call (unit_called call.block old.pous) (unit_called call.block new.pous) e (found call.block old.pous new.pous h) k

pub fits_back : (old new : StProgram) → new.dbs ≡ old.dbs → Paired KeepsHead old.pous new.pous → (call : Call) → FitsSt new call
    → FitsSt old call
fits_back old new e h call k = fits new old (sym e) (heads_back old.pous new.pous h) call k
