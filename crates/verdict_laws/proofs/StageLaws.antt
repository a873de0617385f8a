-- The stages of rules, one after another.
use Rattle.std.proofs.Common.{◌≡◌, List, [], ◌∷◌, Option, Some, None, Ok, refl, ap, ◌∙◌}
use Rattle.std.specs.Prelude.{All}
use Rattle.std.proofs.lemmas.List.Elements.{All-cons, All-nil, All-head, All-tail}
use Rattle.s7_base.proofs.FirstBreak.{first_of_all_is_first}
use Rattle.s7_base.specs.Broken.{first_of_all}
use Rattle.s7_base.specs.declared.rule_break.Break.{Break}
use Rattle.stl_rules.specs.Accepting.{IsKept}
use Rattle.stl_rules.specs.Programs.{program_of}
use Rattle.stl_rules.specs.Stages.{stages, or_later, first_broken}
use Rattle.stl_rules.specs.Verdict.{program_unless}
use Rattle.stl_tree.specs.declared.program.Program.{Program}
use Rattle.stl_tree.specs.declared.raw.RawProgram.{RawProgram}

-- Stages

neither : (first later : Option Break) → or_later first later ≡ None → (first ≡ None) × (later ≡ None)
neither None later e = (refl, e)
neither (Some first) later e = absurd cc

pub kept : (list : List (List Break)) → first_broken list ≡ None → All IsKept list
kept [] e = All-nil IsKept
kept (stage ∷ later) e =
    let both = neither (first_of_all stage) (first_broken later) e in
    All-cons IsKept stage later (first_of_all_is_first.none stage both.0) (kept later both.1)

pub none_broken : (list : List (List Break)) → All IsKept list → first_broken list ≡ None
none_broken [] h = refl
none_broken (stage ∷ later) h =
    ap (λ (breaks : List Break). or_later (first_of_all breaks) (first_broken later)) (All-head IsKept stage later h)
    ∙ none_broken later (All-tail IsKept stage later h)

-- a raw program that is accepted
pub record Accepts (raw : RawProgram) (program : Program) : Type 0 where
  pub none_named : first_broken (stages raw) ≡ None
  pub same : program_of raw ≡ program

pub accepts : (raw : RawProgram) (o : Option Break) (program : Program)
    → first_broken (stages raw) ≡ o → program_unless raw o ≡ Ok program → Accepts raw program
accepts raw None program o e = record { none_named = o; same = cc }
accepts raw (Some first) program o e = absurd cc
