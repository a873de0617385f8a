-- The verdict accepts the texts of the grammar, and nothing else.
use Rattle.std.proofs.Common.{◌≡◌, List, length, Option, Result, Ok, Err, refl, ap, ◌∙◌, arith}
use Rattle.s7_base.specs.declared.rule_break.Break.{Break}
use Rattle.s7_base.specs.declared.reason.Line.{Line}
use Rattle.s7_base.specs.declared.reason.Rejection.{Rejection}
use Rattle.s7_base.specs.declared.token.Token.{Token}
use Rattle.stl_rules.specs.Accepting.{IsText, AcceptsTheGrammar}
use Rattle.stl_grammar.specs.Items.{items_of}
use Rattle.stl_grammar.specs.RawPrograms.{raw_of, raw_by, raw_program}
use Rattle.stl_rules.specs.Stages.{stages, first_broken}
use Rattle.stl_rules.specs.Verdict.{program_unless, checked_program, judged_by}
use Rattle.stl_grammar.specs.declared.item.Item.{Item}
use Rattle.stl_grammar.specs.declared.item.Where.TheVariants.{Start}
use Rattle.stl_tree.specs.declared.program.Program.{Program}
use Rattle.source_laws.proofs.GrammarLaws.{sound_items, complete_items}
use Rattle.verdict_laws.proofs.StageLaws.{accepts, kept, none_broken}

-- Texts

text_of : (end : Line) (tokens : List Token) (program : Program) (r : Result (List Item) Rejection)
    → items_of end tokens ≡ r → judged_by (raw_by r) ≡ Ok program → IsText end tokens program
unfolding checked_program
text_of end tokens program (Ok items) found e =
    let a = accepts (raw_of items) (first_broken (stages (raw_of items))) program refl e in
    record {
      items = items;
      are = sound_items (length tokens) end Start tokens items (omega arith) found;
      kept = kept (stages (raw_of items)) a.none_named;
      program_is = a.same;
    }
text_of end tokens program (Err refused) found e = absurd cc

sound : (end : Line) (tokens : List Token) (program : Program) → judged_by (raw_program end tokens) ≡ Ok program → IsText end tokens program
unfolding raw_program
sound end tokens program e = text_of end tokens program (items_of end tokens) refl e

complete : (end : Line) (tokens : List Token) (program : Program) → IsText end tokens program → judged_by (raw_program end tokens) ≡ Ok program
unfolding raw_program checked_program
complete end tokens program text =
    ap (λ (r : Result (List Item) Rejection). judged_by (raw_by r)) (complete_items text.are)
    ∙ ap (λ (o : Option Break). program_unless (raw_of text.items) o) (none_broken (stages (raw_of text.items)) text.kept)
    ∙ ap (λ (p : Program). Ok p) text.program_is

-- the verdict and the grammar agree
pub agree : AcceptsTheGrammar
agree = record { sound = sound; complete = complete }
