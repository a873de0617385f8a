-- Which statements an IF and a CASE choose.
use Rattle.std.specs.Prelude.{ℕ, suc, Bool, if◌then◌else◌, ℤ, List, [], ◌∷◌, map, Option, None, Some, Result, Ok}
use Rattle.std.specs.List.{list_any}
use Rattle.std.specs.Ordering.{int_eq}
use Rattle.memory_areas.specs.Access.{and_then}
use Rattle.s7_base.specs.declared.outcome.Fault.{Fault}
use Rattle.st_tree.specs.State.{State}
use Rattle.st_tree.specs.Value.{value}
use Rattle.st_tree.specs.Values.{is_set}
use Rattle.st_tree.specs.declared.program.Arm.{Arm}
use Rattle.st_tree.specs.declared.program.CaseArm.{CaseArm}
use Rattle.st_tree.specs.declared.program.Located.{Located}
use Rattle.st_tree.specs.declared.program.Stmt.{Stmt}

-- the body of the first arm whose test is TRUE, or else the statements after ELSE
abbrev pub if_body : List Located → List Arm → List Stmt → State → Result (List Stmt) Fault
if_body globals [] other s = Ok other
if_body globals (arm ∷ rest) other s =
    and_then (value globals arm.test s) (λ v. if is_set v then Ok arm.body else if_body globals rest other s)

-- an arm has a value
unfoldable pub has_label : List ℤ → ℤ → Bool
has_label labels n = list_any (λ label. int_eq label n) labels

-- the body of the first arm that has a value, or else the statements after ELSE
abbrev pub case_body : ℤ → List CaseArm → List Stmt → List Stmt
case_body n [] other = other
case_body n (arm ∷ rest) other = if has_label arm.labels n then arm.body else case_body n rest other

-- the labels of each arm
abbrev pub labels_of : List CaseArm → List (List ℤ)
labels_of arms = map (λ (arm : CaseArm). arm.labels) arms

-- the position of the first arm that has a value, by the labels of each arm, behind so many arms
abbrev pub place_from : ℕ → ℤ → List (List ℤ) → Option ℕ
place_from at n [] = None
place_from at n (labels ∷ rest) = if has_label labels n then Some at else place_from (suc at) n rest
