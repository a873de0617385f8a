-- The texts that are accepted. The verdict accepts exactly these.
use Rattle.std.specs.Prelude.{◌≡◌, List, [], All, Ok}
use Rattle.s7_base.specs.declared.rule_break.Break.{Break}
use Rattle.s7_base.specs.declared.reason.Line.{Line}
use Rattle.s7_base.specs.declared.token.Token.{Token}
use Rattle.stl_grammar.specs.Grammar.{AreItems}
use Rattle.stl_rules.specs.Programs.{program_of}
use Rattle.stl_grammar.specs.RawPrograms.{raw_of, raw_program}
use Rattle.stl_rules.specs.Stages.{stages}
use Rattle.stl_rules.specs.Verdict.{judged_by}
use Rattle.stl_grammar.specs.declared.item.Item.{Item}
use Rattle.stl_grammar.specs.declared.item.Where.TheVariants.{Start}
use Rattle.stl_tree.specs.declared.program.Program.{Program}

-- a list of broken rules is empty
abbrev pub IsKept : List Break → Type 0
IsKept breaks = breaks ≡ []

-- the tokens of a text are items whose raw program keeps the rules of each stage, and this is its program
pub record IsText (end : Line) (tokens : List Token) (program : Program) : Type 0 where
  pub items : List Item
  pub are : AreItems end Start tokens items
  pub kept : All IsKept (stages (raw_of items))
  pub program_is : program_of (raw_of items) ≡ program

-- what the verdict accepts are the texts of the grammar, each as its program
pub record AcceptsTheGrammar : Type 0 where
  pub sound : (end : Line) (tokens : List Token) (program : Program) → judged_by (raw_program end tokens) ≡ Ok program
      → IsText end tokens program
  pub complete : (end : Line) (tokens : List Token) (program : Program) → IsText end tokens program
      → judged_by (raw_program end tokens) ≡ Ok program
