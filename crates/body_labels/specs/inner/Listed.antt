-- The JU of jump lists, as code counts them.
use Rattle.std.specs.Prelude.{Bool, false, List, [], ◌∷◌}
use Rattle.stl_rules.specs.Labels.{is_listed}
use Rattle.stl_tree.specs.declared.raw.RawInstr.{RawInstr}

-- an instruction is a JU without a label
unfoldable pub is_ju : RawInstr → Bool
is_ju raw = is_listed raw

-- the first of some instructions is one
abbrev pub begins_with_ju : List RawInstr → Bool
begins_with_ju [] = false
begins_with_ju (raw ∷ rest) = is_ju raw
