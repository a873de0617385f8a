-- Which of the broken rules of a text is named.
-- Held against: this project's own rules.
use Rattle.std.specs.Prelude.{◌≡◌, ℕ, List, [], Ok, Err}
use Rattle.s7_base.specs.BrokenLaws.{IsFirst}
use Rattle.s7_base.specs.Tokens.{line_at_end, tokens_of}
use Rattle.s7_base.specs.declared.reason.Line.{Line}
use Rattle.s7_base.specs.declared.reason.Reason.{Reason}
use Rattle.s7_base.specs.declared.reason.Rejection.TheVariants.{Refused}
use Rattle.s7_base.specs.declared.rule_break.Break.{Break}
use Rattle.s7_base.specs.declared.token.Token.{Token}
use Rattle.stl_grammar.specs.Items.{items_of}
use Rattle.stl_grammar.specs.RawPrograms.{raw_text}
use Rattle.stl_rules.specs.Stages.{bodies, chain, names}
use Rattle.stl_tree.specs.declared.raw.RawProgram.{RawProgram}

-- a rule on a line is one of some broken rules, and none of them comes before it
abbrev pub IsFirstOn : List Break → Line → Reason → Type 0
IsFirstOn breaks line rule = IsFirst breaks (record { line = line; rule = rule })

-- a rule on a line is named: that of the first bad token; or else of the first item that does not fit; or else the
-- first broken rule of names, blocks and layouts; or else that of bodies; or else that of the text as a whole
pub data IsNamed (bytes : List ℕ) (line : Line) (rule : Reason) : Type 0 where
  of_token : tokens_of bytes ≡ Err (Refused line rule) → IsNamed bytes line rule
  of_item : (tokens : List Token) → tokens_of bytes ≡ Ok tokens
      → items_of (line_at_end bytes) tokens ≡ Err (Refused line rule) → IsNamed bytes line rule
  of_names : (raw : RawProgram) → raw_text bytes ≡ Ok raw → IsFirstOn (names raw) line rule → IsNamed bytes line rule
  of_bodies : (raw : RawProgram) → raw_text bytes ≡ Ok raw → names raw ≡ [] → IsFirstOn (bodies raw) line rule
      → IsNamed bytes line rule
  of_chain : (raw : RawProgram) → raw_text bytes ≡ Ok raw → names raw ≡ [] → bodies raw ≡ []
      → IsFirstOn (chain raw) line rule → IsNamed bytes line rule
