-- Brackets by numbers.
use Rattle.std.proofs.Common.{◌≡◌, ◌≢◌, ℕ, zero, suc, ◌-◌, [], Some, refl}
use native.Mathlib.Numerals.{unary_clauses}
use Rattle.s7_base.specs.Broken.{rule_break}
use Rattle.s7_base.specs.declared.reason.Line.{Line}
use Rattle.s7_base.specs.declared.reason.Reason.TheVariants.{BracketMissing, BracketOpen}
use Rattle.stl_rules.specs.BodyRules.{brackets_at, none_open, open_then}
use Rattle.stl_statement_grammar.specs.declared.mnemonic.Mnemonic.TheVariants as is

pub close_missing : (line : Line) → brackets_at line (Some is.Close) 0 ≡ rule_break line BracketMissing
close_missing line = refl

pub close_there : (line : Line) (n : ℕ) → n ≢ 0 → brackets_at line (Some is.Close) n ≡ []
close_there line zero h = absurd (h refl)
close_there line (suc n) h = refl

pub end_closed : (line : Line) → none_open line 0 ≡ []
end_closed line = refl

pub end_open : (line : Line) (n : ℕ) → n ≢ 0 → none_open line n ≡ rule_break line BracketOpen
end_open line zero h = absurd (h refl)
end_open line (suc n) h = refl

pub close_then : (n : ℕ) → open_then (Some is.Close) n ≡ n - 1
close_then zero = refl
close_then (suc n) = simp unary_clauses refl
