-- The stages one after another.
use Rattle.std.proofs.Common.{◌≡◌, Option, Some, None, Ok, Err, refl, sym, ap, ◌∙◌}
use Rattle.s7_base.specs.Broken.{first_of_all}
use Rattle.s7_base.specs.declared.rule_break.Break.{Break}
use Rattle.s7_base.specs.declared.reason.Line.{Line}
use Rattle.s7_base.specs.declared.reason.Reason.{Reason}
use Rattle.s7_base.specs.declared.reason.Rejection.TheVariants.{Refused}
use Rattle.stl_checks.proofs.Chains.{of_program}
use Rattle.stl_checks.specs.inner.Chains.{program_by_chain, first_in_chain, program_if}
use Rattle.stl_rules.specs.Programs.{program_of}
use Rattle.stl_rules.specs.Stages.{bodies, chain, first_broken, names, or_later, stages}
use Rattle.stl_rules.specs.Verdict.{program_unless, checked_program, resolved_program}
use Rattle.stl_tree.specs.declared.program.Program.{Program}
use Rattle.stl_tree.specs.declared.raw.RawProgram.{RawProgram}

or_none : (o : Option Break) → or_later o None ≡ o
or_none None = refl
or_none (Some first) = refl

-- the first of all stages
staged : (raw : RawProgram)
    → first_broken (stages raw) ≡ or_later (first_of_all (names raw)) (or_later (first_of_all (bodies raw)) (first_of_all (chain raw)))
staged raw =
    ap (λ last. or_later (first_of_all (names raw)) (or_later (first_of_all (bodies raw)) last)) (or_none (first_of_all (chain raw)))

-- the answer by the first rule of each stage
pub judged : (raw : RawProgram) (a b c : Option Break) → a ≡ first_of_all (names raw) → b ≡ first_of_all (bodies raw) → c ≡ first_of_all (chain raw)
    → checked_program raw ≡ program_unless raw (or_later a (or_later b c))
unfolding checked_program
judged raw a b c e f g =
    ap (program_unless raw) (staged raw
    ∙ ap (λ o. or_later o (or_later (first_of_all (bodies raw)) (first_of_all (chain raw)))) (sym e)
    ∙ ap (λ o. or_later a (or_later o (first_of_all (chain raw)))) (sym f) ∙ ap (λ o. or_later a (or_later b o)) (sym g))

-- bodies break a rule, and names and blocks break one or none
pub names_broken : (raw : RawProgram) (first : Break) → Some first ≡ first_of_all (names raw)
    → checked_program raw ≡ Err (Refused first.line first.rule)
names_broken raw first e = judged raw (Some first) (first_of_all (bodies raw)) (first_of_all (chain raw)) e refl refl

pub bodies_broken : (raw : RawProgram) (later : Break) → None ≡ first_of_all (names raw) → Some later ≡ first_of_all (bodies raw)
    → checked_program raw ≡ Err (Refused later.line later.rule)
bodies_broken raw later e f = judged raw None (Some later) (first_of_all (chain raw)) e f refl

pub ruleset refused_laws = (names_broken, bodies_broken)

-- what names, blocks and layouts break
pub not_resolved : (raw : RawProgram) (line : Line) (rule : Reason)
    → resolved_program raw ≡ Err (Refused line rule) → checked_program raw ≡ Err (Refused line rule)
not_resolved raw line rule e = by_cases (first_of_all (names raw)) refl e
  where
    by_cases : (b : Option Break) → b ≡ first_of_all (names raw) → program_unless raw b ≡ Err (Refused line rule)
        → checked_program raw ≡ Err (Refused line rule)
    by_cases None is q = absurd cc
    by_cases (Some first) is q = names_broken raw first is ∙ q

-- where they break nothing, and bodies neither, what the chain of calls does
module _ (raw : RawProgram) (program : Program) (resolves : resolved_program raw ≡ Ok program) (none : None ≡ first_of_all (bodies raw)) where
  names_kept : None ≡ first_of_all (names raw)
  names_kept = by_cases (first_of_all (names raw)) resolves
    where
      by_cases : (b : Option Break) → program_unless raw b ≡ Ok program → None ≡ b
      by_cases None q = refl
      by_cases (Some first) q = absurd cc

  is_program : program_of raw ≡ program
  is_program = by_cases (first_of_all (names raw)) resolves
    where
      by_cases : (b : Option Break) → program_unless raw b ≡ Ok program → program_of raw ≡ program
      by_cases None q = cc
      by_cases (Some first) q = absurd cc

  in_chain : first_in_chain program.blocks ≡ first_of_all (chain raw)
  in_chain = ap (λ (p : Program). first_in_chain p.blocks) (sym is_program) ∙ ap first_of_all (of_program raw)

  pub chain_broken : (first : Break) → Some first ≡ first_in_chain program.blocks → checked_program raw ≡ Err (Refused first.line first.rule)
  chain_broken first e = judged raw None None (Some first) names_kept none (e ∙ in_chain)

  pub none_broken : None ≡ first_in_chain program.blocks → checked_program raw ≡ Ok program
  none_broken e = judged raw None None None names_kept none (e ∙ in_chain) ∙ ap (λ (p : Program). Ok p) is_program

-- the answer to the program is that to the raw program
pub chained_is : (raw : RawProgram) (program : Program) → resolved_program raw ≡ Ok program → None ≡ first_of_all (bodies raw)
    → program_by_chain program ≡ checked_program raw
chained_is raw program resolves none = by_cases (first_in_chain program.blocks) refl
  where
    by_cases : (o : Option Break) → o ≡ first_in_chain program.blocks → program_if program o ≡ checked_program raw
    by_cases None e = sym (none_broken raw program resolves none e)
    by_cases (Some first) e = sym (chain_broken raw program resolves none first e)
