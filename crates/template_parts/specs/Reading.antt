-- Which registers are read.
use Rattle.std.specs.Prelude.{◌≡◌, List, [], ◌∷◌, ◌⊎◌}
use Rattle.s7_base.specs.declared.register.Reg.{Reg}
use Rattle.st_tree.specs.declared.expr.Var.{Var}
use Rattle.st_tree.specs.declared.expr.Var.TheVariants as var

-- a register is one of some
abbrev pub IsAmong : Reg → List Reg → Type 0
IsAmong r [] = ⊥
IsAmong r (q ∷ rest) = (r ≡ q) ⊎ IsAmong r rest

-- a property of each register among some variables
abbrev pub EachRegister : (Reg → Type 0) → List Var → Type 0
EachRegister P [] = Unit {0}
EachRegister P (var.Register r ∷ rest) = P r × EachRegister P rest
EachRegister P (other ∷ rest) = EachRegister P rest
