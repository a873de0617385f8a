-- Broken rules, and which of them is named. That is the first by line, and on one line the one whose rule has the
-- least number.
-- Held against: this project's own reasons.
use Rattle.std.specs.Prelude.{ℕ, Bool, ◌&&◌, ◌||◌, ◌==◌, nat_lt, if◌then◌else◌, List, [], ◌∷◌, Option, Some, None}
use Rattle.std.specs.List.{fold}
use Rattle.s7_base.specs.declared.rule_break.Break.{Break}
use Rattle.s7_base.specs.declared.reason.Line.{Line}
use Rattle.s7_base.specs.declared.reason.Reason.{Reason}
use Rattle.s7_base.specs.declared.reason.Reason.TheVariants as reason

-- the number of a rule, which orders rules on one line
abbrev pub rule_number : Reason → ℕ
rule_number reason.BadToken = 1
rule_number reason.BadStatement = 2
rule_number (reason.Unsupported k) = 3
rule_number reason.UnknownName = 4
rule_number reason.UnknownBlock = 5
rule_number reason.BadOperand = 6
rule_number reason.BadAddress = 7
rule_number reason.DuplicateBlock = 8
rule_number reason.DuplicateName = 9
rule_number reason.BadType = 10
rule_number reason.TooLarge = 11
rule_number reason.DuplicateLabel = 12
rule_number reason.UnknownLabel = 13
rule_number reason.BracketOpen = 14
rule_number reason.BracketMissing = 15
rule_number reason.TooManyBrackets = 16
rule_number reason.BadJumpList = 17
rule_number reason.TooManyInstructions = 18
rule_number reason.TooManyParameters = 19
rule_number reason.CallCycle = 20
rule_number reason.CallTooDeep = 21
rule_number reason.NoBlocks = 22
rule_number reason.BadSyntax = 23
rule_number reason.TooDeep = 24
rule_number reason.TypeMismatch = 25

-- a broken rule comes before another: on a line before, or with a lesser number on one line
abbrev pub comes_before : Break → Break → Bool
comes_before a b =
    nat_lt a.line.0 b.line.0 || (a.line.0 == b.line.0 && nat_lt (rule_number a.rule) (rule_number b.rule))

-- the first of some broken rules, after one more is considered
abbrev pub sooner : Option Break → Break → Option Break
sooner None b = Some b
sooner (Some a) b = if comes_before b a then Some b else Some a

-- the first of some broken rules by line, then by number
abbrev pub first_of_all : List Break → Option Break
first_of_all breaks = fold sooner None breaks

-- a rule that is broken on a line
abbrev pub rule_break : Line → Reason → List Break
rule_break line rule = record { line = line; rule = rule } ∷ []
