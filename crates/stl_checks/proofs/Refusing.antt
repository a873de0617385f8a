-- The broken rule that the verdict names, by its stage.
use Rattle.std.proofs.Common.{◌≡◌, ℕ, List, Option, Some, None, Result, Ok, Err, refl, sym, ap, ◌∙◌}
use Rattle.s7_base.proofs.FirstBreak.{first_of_all_is_first}
use Rattle.s7_base.specs.Answers.{Answers, IfRefused}
use Rattle.s7_base.specs.Broken.{first_of_all}
use Rattle.s7_base.specs.Tokens.{line_at_end, tokens_of}
use Rattle.s7_base.specs.declared.reason.Line.{Line}
use Rattle.s7_base.specs.declared.reason.Reason.{Reason}
use Rattle.s7_base.specs.declared.reason.Rejection.{Rejection}
use Rattle.s7_base.specs.declared.reason.Rejection.TheVariants.{Refused, NoMemory}
use Rattle.s7_base.specs.declared.rule_break.Break.{Break}
use Rattle.s7_base.specs.declared.token.Token.{Token}
use Rattle.stl_grammar.specs.Items.{items_of}
use Rattle.stl_grammar.specs.RawPrograms.{raw_by, raw_by_tokens, raw_of, raw_program, raw_text}
use Rattle.stl_grammar.specs.declared.item.Item.{Item}
use Rattle.stl_checks.proofs.Accepting.{answers_unread, answers_verdict}
use Rattle.stl_checks.proofs.Judging.{judged}
use Rattle.stl_checks.specs.Refusals.{IsFirstOn, IsNamed, of_bodies, of_chain, of_item, of_names, of_token}
use Rattle.stl_rules.specs.Stages.{bodies, chain, names, or_later}
use Rattle.stl_rules.specs.Verdict.{checked_program, judged_by, program_unless, verdict}
use Rattle.stl_tree.specs.declared.program.Program.{Program}
use Rattle.stl_tree.specs.declared.raw.RawProgram.{RawProgram}

module _ (bytes : List ℕ) (line : Line) (rule : Reason) where
  abbrev its : Break
  its = record { line = line; rule = rule }

  first_on : (breaks : List Break) → first_of_all breaks ≡ Some its → IsFirstOn breaks line rule
  first_on breaks e = first_of_all_is_first.some breaks its e

  same_break : (raw : RawProgram) (first : Break) → program_unless raw (Some first) ≡ Err (Refused line rule) → first ≡ its
  same_break raw first e =
      let make : Line → Reason → Break = λ l r. record { line = l; rule = r } in
      let on : first.line ≡ line = cc in
      let by_rule : first.rule ≡ rule = cc in
      ap (λ l. make l first.rule) on ∙ ap (make line) by_rule

  by_stages : (raw : RawProgram) → raw_text bytes ≡ Ok raw → checked_program raw ≡ Err (Refused line rule) → IsNamed bytes line rule
  by_stages raw is e =
      by (first_of_all (names raw)) (first_of_all (bodies raw)) (first_of_all (chain raw)) refl refl refl
      (sym (judged raw (first_of_all (names raw)) (first_of_all (bodies raw)) (first_of_all (chain raw)) refl refl refl) ∙ e)
    where
      by : (a b c : Option Break) → first_of_all (names raw) ≡ a → first_of_all (bodies raw) ≡ b → first_of_all (chain raw) ≡ c
          → program_unless raw (or_later a (or_later b c)) ≡ Err (Refused line rule) → IsNamed bytes line rule
      by (Some a) b c p q r h = of_names raw is (first_on (names raw) (p ∙ ap (λ (x : Break). Some x) (same_break raw a h)))
      by None (Some b) c p q r h =
          of_bodies raw is (first_of_all_is_first.none (names raw) p)
          (first_on (bodies raw) (q ∙ ap (λ (x : Break). Some x) (same_break raw b h)))
      by None None (Some c) p q r h =
          of_chain raw is (first_of_all_is_first.none (names raw) p) (first_of_all_is_first.none (bodies raw) q)
          (first_on (chain raw) (r ∙ ap (λ (x : Break). Some x) (same_break raw c h)))
      by None None None p q r h = absurd cc

  by_items : (tokens : List Token) (items : Result (List Item) Rejection) → tokens_of bytes ≡ Ok tokens → items_of (line_at_end bytes) tokens ≡ items
      → judged_by (raw_by items) ≡ Err (Refused line rule) → IsNamed bytes line rule
  unfolding raw_text raw_program
  by_items tokens (Ok items) cut is e =
      by_stages (raw_of items) (ap (raw_by_tokens (line_at_end bytes)) cut ∙ ap raw_by is) e
  by_items tokens (Err refused) cut is e = let same : refused ≡ Refused line rule = cc in of_item tokens cut (is ∙ ap (λ r. Err r) same)

  by_tokens : (tokens : Result (List Token) Rejection) → tokens_of bytes ≡ tokens
      → judged_by (raw_by_tokens (line_at_end bytes) tokens) ≡ Err (Refused line rule) → IsNamed bytes line rule
  unfolding raw_program
  by_tokens (Ok tokens) cut e = by_items tokens (items_of (line_at_end bytes) tokens) cut refl e
  by_tokens (Err refused) cut e = let same : refused ≡ Refused line rule = cc in of_token (cut ∙ ap (λ r. Err r) same)

  pub refusal_named : verdict bytes ≡ Err (Refused line rule) → IsNamed bytes line rule
  unfolding verdict raw_text
  refusal_named e = by_tokens (tokens_of bytes) refl e

answer_refused : (bytes : List ℕ) (answer : Result Program Rejection) → Answers answer (verdict bytes) → IfRefused answer (IsNamed bytes)
answer_refused bytes (Ok program) e = tt
answer_refused bytes (Err (Refused line reason)) e = refusal_named bytes line reason e
answer_refused bytes (Err NoMemory) e = tt

-- the answer to a text that is read
pub refuses : (bytes : List ℕ) (raw : RawProgram) (answer : Result Program Rejection)
    → raw_text bytes ≡ Ok raw → Answers answer (checked_program raw) → IfRefused answer (IsNamed bytes)
refuses bytes raw answer e h = answer_refused bytes answer (answers_verdict bytes raw answer e h)

-- the answer to a text that is not read
pub unread_refuses : (bytes : List ℕ) (refused : Rejection) → Answers {X = RawProgram} (Err refused) (raw_text bytes)
    → IfRefused {X = Program} (Err refused) (IsNamed bytes)
unread_refuses bytes refused e = answer_refused bytes (Err refused) (answers_unread bytes refused e)
