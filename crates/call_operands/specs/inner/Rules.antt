-- The rule of the least number so far and of some more, and what a call breaks by its mnemonic.
use Rattle.std.specs.Prelude.{Bool, if◌then◌else◌, List, Option, Some, None}
use Rattle.std.specs.List.{fold}
use Rattle.s7_base.specs.declared.reason.Reason.{Reason}
use Rattle.s7_base.specs.declared.reason.Reason.TheVariants.{BadOperand}
use Rattle.s7_base.specs.declared.rule_break.Break.{Break}
use Rattle.stl_rules.specs.Calls.{with_rule}
use Rattle.stl_statement_grammar.specs.declared.mnemonic.Mnemonic.{Mnemonic}
use Rattle.stl_statement_grammar.specs.declared.mnemonic.Mnemonic.TheVariants as is

-- the rule of the least number so far and of some more
unfoldable pub with_rules : Option Reason → List Reason → Option Reason
with_rules least rules = fold with_rule least rules

-- a broken rule on a line that all rules of a call share
abbrev pub on_line : Reason → Break
on_line rule = record { line = record { 0 = 0 }; rule = rule }

-- the rule that a call breaks by its mnemonic, which breaks none by itself, and gives nothing or something
abbrev pub unless_bare : Bool → Option Reason
unless_bare bare = if bare then None else Some BadOperand

abbrev pub rule_of_mnemonic : Option Mnemonic → Bool → Option Reason
rule_of_mnemonic (Some is.Call) bare = None
rule_of_mnemonic (Some is.CallAlone) bare = unless_bare bare
rule_of_mnemonic (Some is.CallIf) bare = unless_bare bare
rule_of_mnemonic other bare = Some BadOperand
