-- How long statements are.
use Rattle.std.proofs.Common.{◌≡◌, ℕ, ◌+◌, ◌<◌, Bool, true, false, not, cond, List, [], ◌∷◌, ◌++◌, length, take, refl, ap, ◌∙◌, arith}
use Rattle.std.proofs.Math.Seq.{take-append_seam}
use Rattle.s7_base.specs.declared.token.Token.{Token}
use Rattle.stl_grammar.specs.Items.{is_semicolon, statement_size}

pub size_open : (first : Token) (rest : List Token) → is_semicolon first ≡ false → statement_size (first ∷ rest) ≡ 1 + statement_size rest
size_open first rest test = ap (λ (b : Bool). cond (not b) (1 + statement_size rest) 0) test

pub size_closed : (first : Token) (rest : List Token) → is_semicolon first ≡ true → statement_size (first ∷ rest) ≡ 0
size_closed first rest test = ap (λ (b : Bool). cond (not b) (1 + statement_size rest) 0) test

-- a statement that reaches its `;`, the `;` and what stands after it
pub record Split (tokens : List Token) : Type 0 where
  pub front : List Token
  pub sign : Token
  pub rest : List Token
  pub split : tokens ≡ front ++ (sign ∷ rest)
  pub ends : is_semicolon sign ≡ true
  pub alone : statement_size front ≡ length front
  pub size : statement_size tokens ≡ length front

split_closed : (first : Token) (rest : List Token) → is_semicolon first ≡ true → Split (first ∷ rest)
split_closed first rest test = record { front = []; sign = first; rest = rest; split = refl; ends = test; alone = refl; size = size_closed first rest test }

split_open : (first : Token) (rest : List Token) → is_semicolon first ≡ false → Split rest → Split (first ∷ rest)
split_open first rest test s = record {
  front = first ∷ s.front;
  sign = s.sign;
  rest = s.rest;
  split = ap (λ (ts : List Token). first ∷ ts) s.split;
  ends = s.ends;
  alone = size_open first s.front test ∙ omega (arith, s.alone);
  size = size_open first rest test ∙ omega (arith, s.size);
}

split_by : (b : Bool) (first : Token) (rest : List Token) → is_semicolon first ≡ b → (is_semicolon first ≡ false → Split rest) → Split (first ∷ rest)
split_by true first rest test more = split_closed first rest test
split_by false first rest test more = split_open first rest test (more test)

pub split_of : (tokens : List Token) → statement_size tokens < length tokens → Split tokens
split_of [] h = absurd (omega arith)
split_of (first ∷ rest) h =
    split_by (is_semicolon first) first rest refl
    (λ (test : is_semicolon first ≡ false). split_of rest (let e : statement_size (first ∷ rest) ≡ 1 + statement_size rest =
    size_open first rest test in omega arith))

pub taken : (tokens front : List Token) (sign : Token) (rest : List Token) (size : ℕ)
    → tokens ≡ front ++ (sign ∷ rest) → size ≡ length front → take size tokens ≡ front
taken tokens front sign rest size split e =
    ap (λ (n : ℕ). take n tokens) e ∙ ap (λ (ts : List Token). take (length front) ts) split ∙ take-append_seam front (sign ∷ rest)

-- the first token of a statement is no `;`
open_by : (b : Bool) (first : Token) (front : List Token) → is_semicolon first ≡ b → statement_size (first ∷ front) ≡ length (first ∷ front) → b ≡ false
open_by true first front test whole = let size : statement_size (first ∷ front) ≡ 0 = size_closed first front test in absurd (omega arith)
open_by false first front test whole = refl

pub first_open : (first : Token) (front : List Token) → statement_size (first ∷ front) ≡ length (first ∷ front) → is_semicolon first ≡ false
first_open first front whole = open_by (is_semicolon first) first front refl whole

-- a statement is as long as it says, whatever stands after its `;`
pub size_append : (front : List Token) (sign : Token) (rest : List Token) → statement_size front ≡ length front → is_semicolon sign ≡ true →
    statement_size (front ++ (sign ∷ rest)) ≡ length front
size_append [] sign rest whole ends = size_closed sign rest ends
size_append (first ∷ front) sign rest whole ends =
    let no_end : is_semicolon first ≡ false = first_open first front whole in
    let size : statement_size (first ∷ front) ≡ 1 + statement_size front = size_open first front no_end in
    let less : statement_size front ≡ length front = omega arith in
    size_open first (front ++ (sign ∷ rest)) no_end ∙ omega (arith, size_append front sign rest less ends)
