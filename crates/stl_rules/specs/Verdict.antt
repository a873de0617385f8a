-- The verdict on a source. It is the program, or the line and the reason of the first broken rule: first all tokens
-- are judged, then all items, then the rules of the raw program, stage by stage.
-- Held against: this project's own rules.
use Rattle.std.specs.Prelude.{ℕ, List, Option, Some, None, Result, Ok, Err}
use Rattle.s7_base.specs.Broken.{first_of_all}
use Rattle.s7_base.specs.declared.rule_break.Break.{Break}
use Rattle.s7_base.specs.declared.reason.Rejection.{Rejection}
use Rattle.s7_base.specs.declared.reason.Rejection.TheVariants.{Refused}
use Rattle.stl_rules.specs.Programs.{program_of}
use Rattle.stl_grammar.specs.RawPrograms.{raw_text}
use Rattle.stl_rules.specs.Stages.{first_broken, names, stages}
use Rattle.stl_tree.specs.declared.program.Program.{Program}
use Rattle.stl_tree.specs.declared.raw.RawProgram.{RawProgram}

-- the answer to a raw program, by its first broken rule
abbrev pub program_unless : RawProgram → Option Break → Result Program Rejection
program_unless raw None = Ok (program_of raw)
program_unless raw (Some first) = Err (Refused first.line first.rule)

-- the program of a raw program whose names, blocks and layout break no rule, or the first of these that is broken
abbrev pub resolved_program : RawProgram → Result Program Rejection
resolved_program raw = program_unless raw (first_of_all (names raw))

-- the program of a raw program, or its first broken rule
unfoldable pub checked_program : RawProgram → Result Program Rejection
checked_program raw = program_unless raw (first_broken (stages raw))

-- the program of a raw program that is read
abbrev pub judged_by : Result RawProgram Rejection → Result Program Rejection
judged_by (Ok raw) = checked_program raw
judged_by (Err refused) = Err refused

-- the program of a text, or its first broken rule
unfoldable pub verdict : List ℕ → Result Program Rejection
verdict bytes = judged_by (raw_text bytes)
