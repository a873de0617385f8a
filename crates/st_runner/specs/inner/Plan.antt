-- The plan of a text: a part for each IF, CASE, WHILE and arm of an IF, with the parts of what is inside of it behind
-- it. What waits has the place of its parts, so that a CASE finds its table.
use Rattle.std.specs.Prelude.{◌≡◌, ℕ, ◌+◌, ℤ, List, [], ◌∷◌, ◌++◌, map, drop, length, get_or}
use Rattle.std.specs.List.{flat_map}
use Rattle.st_runner.specs.inner.Choice.{labels_of}
use Rattle.st_runner.specs.declared.frame.At.{At}
use Rattle.st_runner.specs.declared.frame.At.TheVariants as at
use Rattle.st_runner.specs.declared.frame.Frame.{Frame}
use Rattle.st_runner.specs.declared.frame.Frame.TheVariants as frame
use Rattle.st_runner.specs.declared.plan.Part.{Part}
use Rattle.st_runner.specs.declared.plan.Part.TheVariants as part
use Rattle.st_tree.specs.declared.program.Arm.{Arm, fold-Arm}
use Rattle.st_tree.specs.declared.program.CaseArm.{CaseArm, fold-CaseArm}
use Rattle.st_tree.specs.declared.program.Pou.{Pou}
use Rattle.st_tree.specs.declared.program.Stmt.{Stmt, fold-Stmt}
use Rattle.st_tree.specs.declared.program.Stmt.TheOpen as S

-- The parts of statements

-- an arm of a CASE: its labels, and the parts of its statements
abbrev pub LabelledParts : Type 0
LabelledParts = List ℤ × List Part

-- the parts of several, one after another
abbrev pub all_parts : List (List Part) → List Part
all_parts all = flat_map (λ (parts : List Part). parts) all

-- a part for what has these inside of it
abbrev pub with_head : List Part → List Part
with_head inside = part.Inside (length inside) ∷ inside

-- where the parts of each of several start, behind so many
abbrev pub starts_from : ℕ → List (List Part) → List ℕ
starts_from n [] = []
starts_from n (parts ∷ rest) = n ∷ starts_from (n + length parts) rest

-- the parts of a CASE: its own, those after ELSE, and those of its arms
abbrev pub case_with_head : List Part → List LabelledParts → List Part
case_with_head other arms =
    part.Choice (length (other ++ all_parts (map (λ a. a.1) arms))) (map (λ a. a.0) arms)
    (starts_from (length other) (map (λ a. a.1) arms))
    ∷ other ++ all_parts (map (λ a. a.1) arms)

-- the parts of a statement, by those of the statements in it
abbrev pub parts_step : S.Stmt-F (List Part) (List Part) LabelledParts → List Part
parts_step (S.Assign v e) = []
parts_step (S.AreaWrite w p e) = []
parts_step (S.Invoke n actuals) = []
parts_step (S.If arms other) = with_head (all_parts arms ++ all_parts other)
parts_step (S.Case e arms other) = case_with_head (all_parts other) arms
parts_step (S.While test body) = with_head (all_parts body)
parts_step S.Exit = []
parts_step S.Continue = []
parts_step S.Return = []

-- the parts of an arm of an IF
abbrev pub arm_step : S.Arm-F (List Part) (List Part) LabelledParts → List Part
arm_step arm = with_head (all_parts arm.body)

-- an arm of a CASE
abbrev pub case_step : S.CaseArm-F (List Part) (List Part) LabelledParts → LabelledParts
case_step arm = (arm.labels, all_parts arm.body)

-- the parts of a statement
abbrev pub parts_of : Stmt → List Part
parts_of = fold-Stmt (List Part) (List Part) LabelledParts parts_step arm_step case_step

-- the parts of an arm of an IF
abbrev pub arm_parts : Arm → List Part
arm_parts = fold-Arm (List Part) (List Part) LabelledParts parts_step arm_step case_step

-- the labels of an arm of a CASE, and the parts of its statements
abbrev pub case_parts : CaseArm → LabelledParts
case_parts = fold-CaseArm (List Part) (List Part) LabelledParts parts_step arm_step case_step

-- the parts of a list of statements
abbrev pub body_parts : List Stmt → List Part
body_parts body = all_parts (map parts_of body)

-- the parts of all arms of an IF
abbrev pub arms_parts : List Arm → List Part
arms_parts arms = all_parts (map arm_parts arms)

-- the parts of the statements of each arm of a CASE
abbrev pub each_parts : List CaseArm → List (List Part)
each_parts arms = map (λ (arm : CaseArm). body_parts arm.body) arms

-- the parts of an IF
abbrev pub if_parts : List Arm → List Stmt → List Part
if_parts arms other = with_head (arms_parts arms ++ body_parts other)

-- what is inside of a CASE
abbrev pub inside_case : List CaseArm → List Stmt → List Part
inside_case arms other = body_parts other ++ all_parts (each_parts arms)

-- the part of a CASE
abbrev pub case_part : List CaseArm → List Stmt → Part
case_part arms other =
    part.Choice (length (inside_case arms other)) (labels_of arms)
    (starts_from (length (body_parts other)) (each_parts arms))

-- where a part stands, its list gets the part that knows what is inside of it
abbrev pub Closes : ℕ → (List Part → Part) → List Part → List Part → Type 0
Closes place head old new =
    (before inside : List Part) (first : Part) → length before ≡ place → old ≡ before ++ first ∷ inside
    → new ≡ before ++ head inside ∷ inside

-- Places in a plan

-- how many parts are inside of a part's statement
abbrev pub inside_of : Part → ℕ
inside_of (part.Inside n) = n
inside_of (part.Choice n labels starts) = n

-- how many parts are inside of the part at a place
abbrev pub inside_at : List Part → ℕ → ℕ
inside_at plan place = inside_of (get_or plan place (part.Inside 0))

-- some parts stand in a plan from a place on
pub record Stands (plan : List Part) (place : ℕ) (parts : List Part) : Type 0 where
  pub behind : List Part
  pub is : drop place plan ≡ parts ++ behind

-- What waits

-- a frame has the place of the parts of its statements
abbrev pub IsFramePlanned : List Part → Frame → Type 0
IsFramePlanned plan (frame.Rest body place) = Stands plan place (body_parts body.now)
IsFramePlanned plan (frame.Again test body place) = Stands plan place (body_parts body.now)
IsFramePlanned plan frame.Unit = Unit {0}

-- each frame has
abbrev pub ArePlanned : List Part → List Frame → Type 0
ArePlanned plan [] = Unit {0}
ArePlanned plan (f ∷ rest) = IsFramePlanned plan f × ArePlanned plan rest

-- what comes next has the place of the parts of its statements
abbrev pub IsNextPlanned : List Part → At → Type 0
IsNextPlanned plan at.Work = Unit {0}
IsNextPlanned plan (at.Test test body place) = Stands plan place (body_parts body.now)
IsNextPlanned plan (at.Call n actuals) = Unit {0}
IsNextPlanned plan (at.Over f) = Unit {0}

-- what waits and what comes next have their places
pub record IsPlanned (plan : List Part) (work : List Frame) (next : At) : Type 0 where
  pub frames : ArePlanned plan work
  pub coming : IsNextPlanned plan next

-- each unit has the place of the parts of its statements
abbrev pub AreStarts : List Part → List ℕ → List Pou → Type 0
AreStarts plan [] [] = Unit {0}
AreStarts plan [] (unit ∷ units) = ⊥
AreStarts plan (start ∷ starts) [] = ⊥
AreStarts plan (start ∷ starts) (unit ∷ units) = Stands plan start (body_parts unit.body) × AreStarts plan starts units
