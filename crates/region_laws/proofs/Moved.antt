-- A call that fits a unit fits one with the same formals.
use Rattle.std.proofs.Common.{◌≡◌, ℕ, List, sym, ◌∙◌, subst}
use Rattle.memory_areas.specs.declared.call.BlockName.{BlockName}
use Rattle.memory_areas.specs.declared.call.BlockName.TheVariants as name
use Rattle.memory_areas.specs.declared.data_block.DataBlock.{DataBlock}
use Rattle.memory_areas.specs.declared.place.Place.{Place}
use Rattle.s7_base.specs.declared.word.Width.{Width}
use Rattle.st_tree.specs.StRun.{FitFormals, FitsUnit}
use Rattle.st_tree.specs.declared.program.Local.{Local}
use Rattle.st_tree.specs.declared.program.Pou.{Pou}

-- what a call asks of a unit it asks of its formals
pub fits_moves : (blocks : List DataBlock) (a b : Pou) → a.formals ≡ b.formals → (called : BlockName) (instance : ℕ) (actuals : List (Place × Width))
    → FitsUnit blocks a called instance actuals → FitsUnit blocks b called instance actuals
fits_moves blocks a b e (name.Ob n) instance actuals h = tt
fits_moves blocks a b e (name.Fc n) instance actuals h = subst (λ (formals : List Local). FitFormals blocks formals actuals) e h
fits_moves blocks a b e (name.Fb n) instance actuals h = record { formals = sym e ∙ h.formals; block = h.block }
