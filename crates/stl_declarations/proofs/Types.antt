-- How a type that opens a level is read.
use Rattle.std.proofs.Common.{◌≡◌, ℕ, zero, suc, ◌-◌, ◌<◌, Bool, true, false, if◌then◌else◌, List, drop, refl, ap, ◌∙◌, arith}
use Rattle.std.specs.Prelude.{codes}
use Rattle.s7_base.specs.declared.token.Token.{Token}
use Rattle.stl_grammar.specs.Declarations.{alone, array_at, array_with, one_word_at, opening_type, type_at}
use Rattle.stl_statement_grammar.specs.Lists.{begins_with_word}
use Rattle.stl_grammar.specs.declared.declaration.Innermost.TheVariants as inner
use Rattle.stl_statement_grammar.specs.declared.mnemonic.Read.TheVariants.{Fits}

if_true : {A : Type 0} (b : Bool) (x y : A) → true ≡ b → x ≡ (if b then x else y)
if_true true x y h = refl
if_true false x y h = absurd cc

if_false : {A : Type 0} (b : Bool) (x y : A) → false ≡ b → y ≡ (if b then x else y)
if_false true x y h = absurd cc
if_false false x y h = refl

deeper : (left : ℕ) (tokens : List Token) → 0 < left → opening_type (λ behind. type_at (left - 1) behind) tokens ≡ type_at left tokens
deeper zero tokens h = absurd (omega arith)
deeper (suc left) tokens h = let e : suc left - 1 ≡ left = omega arith in ap (λ (n : ℕ). opening_type (λ behind. type_at n behind) tokens) e

pub as_struct : (left : ℕ) (tokens : List Token) → 0 < left
    → true ≡ begins_with_word (codes "STRUCT") tokens → Fits (alone inner.Struct) 1 ≡ type_at left tokens
as_struct left tokens h struct = if_true (begins_with_word (codes "STRUCT") tokens) _ _ struct ∙ deeper left tokens h

pub as_word : (left : ℕ) (tokens : List Token) → 0 < left → false ≡ begins_with_word (codes "STRUCT") tokens → false ≡ begins_with_word (codes "ARRAY") tokens →
    one_word_at tokens ≡ type_at left tokens
as_word left tokens h no_struct no_array =
    if_false (begins_with_word (codes "ARRAY") tokens)
    (array_with (drop 1 tokens) (array_at (drop 1 tokens)) (λ behind. type_at (left - 1) behind)) (one_word_at tokens) no_array
    ∙ if_false (begins_with_word (codes "STRUCT") tokens) (Fits (alone inner.Struct) 1) _ no_struct ∙ deeper left tokens h

pub as_array : (left : ℕ) (tokens : List Token) → 0 < left → false ≡ begins_with_word (codes "STRUCT") tokens → true ≡ begins_with_word (codes "ARRAY") tokens →
    array_with (drop 1 tokens) (array_at (drop 1 tokens)) (λ behind. type_at (left - 1) behind) ≡ type_at left tokens
as_array left tokens h no_struct array =
    if_true (begins_with_word (codes "ARRAY") tokens)
    (array_with (drop 1 tokens) (array_at (drop 1 tokens)) (λ behind. type_at (left - 1) behind)) (one_word_at tokens) array
    ∙ if_false (begins_with_word (codes "STRUCT") tokens) (Fits (alone inner.Struct) 1) _ no_struct ∙ deeper left tokens h
