-- What is read at the front of tokens, in both directions: to the form that stands there, and from it.
use Rattle.std.proofs.Common.{◌≡◌, ℕ, Bool, true, false, ◌&&◌, if◌then◌else◌, List, Option, Some, None, refl, sym, ap, ◌∙◌}
use Rattle.std.proofs.lemmas.Bool.{and_parts}
use Rattle.std.proofs.lemmas.Slice.Eq.{bytes_eq-Decides}
use Rattle.std.specs.Prelude.{option_and_then, option_map}
use Rattle.std.specs.Str.{bytes_eq, str_to_ascii_lowercase}
use Rattle.s7_base.specs.Tokens.{is_same_word}
use Rattle.s7_base.specs.declared.token.Token.{Token}
use Rattle.s7_base.specs.declared.token.TokenKind.{TokenKind}
use Rattle.s7_base.specs.declared.token.TokenKind.TheVariants.{Word, Quoted, Text, Sign}
use Rattle.stl_statement_grammar.specs.Readers.{fitting, or_else, read_as}
use Rattle.stl_statement_grammar.specs.Words.{is_joined, is_quoted_kind, is_sign, is_sign_kind, is_text_kind, is_word, is_word_kind}
use Rattle.stl_statement_grammar.specs.declared.mnemonic.Read.{Read}
use Rattle.stl_statement_grammar.specs.declared.mnemonic.Read.TheVariants.{Fits, LeftOut, No}

-- Tests

pub if_true : {A : Type 0} (b : Bool) (x y : A) → b ≡ true → (if b then x else y) ≡ x
if_true true x y h = refl
if_true false x y h = absurd cc

pub if_false : {A : Type 0} (b : Bool) (x y : A) → b ≡ false → (if b then x else y) ≡ y
if_false true x y h = absurd cc
if_false false x y h = refl

-- a test that passed
pub taken : {A : Type 0} (b : Bool) (o : Option A) (x : A) → (if b then o else None) ≡ Some x → (b ≡ true) × (o ≡ Some x)
taken true o x e = (refl, e)
taken false o x e = absurd cc

-- something that was made of what was found
pub record Mapped {A B : Type 0} (make : A → B) (o : Option A) (b : B) : Type 0 where
  pub a : A
  pub found : o ≡ Some a
  pub made : make a ≡ b

pub mapped : {A B : Type 0} (make : A → B) (o : Option A) (b : B) → option_map make o ≡ Some b → Mapped make o b
mapped make None b e = absurd cc
mapped make (Some a) b e = record { a = a; found = refl; made = same e }
  where
    same : Some (make a) ≡ Some b → make a ≡ b
    same h = cc

pub record Chained {A B : Type 0} (make : A → Option B) (o : Option A) (b : B) : Type 0 where
  pub a : A
  pub found : o ≡ Some a
  pub made : make a ≡ Some b

pub chained : {A B : Type 0} (make : A → Option B) (o : Option A) (b : B) → option_and_then make o ≡ Some b → Chained make o b
chained make None b e = absurd cc
chained make (Some a) b e = record { a = a; found = refl; made = e }

-- Tokens

-- a word is no sign
pub no_sign : (sign : List ℕ) (token : Token) → is_word_kind token.kind ≡ true → is_sign sign token ≡ false
no_sign sign token h = by token.kind h _
  where
    by : (kind : TokenKind) → is_word_kind kind ≡ true → (b : Bool) → (is_sign_kind kind && b) ≡ false
    by Word h b = refl
    by Quoted h b = refl
    by Text h b = refl
    by Sign h b = absurd cc

-- a sign is no word
pub no_word : (sign : List ℕ) (token : Token) → is_sign sign token ≡ true → is_word_kind token.kind ≡ false
no_word sign token h = by token.kind _ h
  where
    by : (kind : TokenKind) (b : Bool) → (is_sign_kind kind && b) ≡ true → is_word_kind kind ≡ false
    by Word b h = absurd cc
    by Quoted b h = refl
    by Text b h = refl
    by Sign b h = refl

-- neither is a text
pub word_no_text : (token : Token) → is_word_kind token.kind ≡ true → is_text_kind token.kind ≡ false
word_no_text token h = by token.kind h
  where
    by : (kind : TokenKind) → is_word_kind kind ≡ true → is_text_kind kind ≡ false
    by Word h = refl
    by Quoted h = refl
    by Text h = absurd cc
    by Sign h = refl

pub sign_no_text : (sign : List ℕ) (token : Token) → is_sign sign token ≡ true → is_text_kind token.kind ≡ false
sign_no_text sign token h = by token.kind _ h
  where
    by : (kind : TokenKind) (b : Bool) → (is_sign_kind kind && b) ≡ true → is_text_kind kind ≡ false
    by Word b h = refl
    by Quoted b h = refl
    by Text b h = absurd cc
    by Sign b h = refl

pub text_no_word : (token : Token) → is_text_kind token.kind ≡ true → is_word_kind token.kind ≡ false
text_no_word token h = by token.kind h
  where
    by : (kind : TokenKind) → is_text_kind kind ≡ true → is_word_kind kind ≡ false
    by Word h = absurd cc
    by Quoted h = absurd cc
    by Text h = refl
    by Sign h = absurd cc

-- a sign is no name in quotes, nor is a word
pub sign_no_quoted : (sign : List ℕ) (token : Token) → is_sign sign token ≡ true → is_quoted_kind token.kind ≡ false
sign_no_quoted sign token h = by token.kind _ h
  where
    by : (kind : TokenKind) (b : Bool) → (is_sign_kind kind && b) ≡ true → is_quoted_kind kind ≡ false
    by Word b h = refl
    by Quoted b h = absurd cc
    by Text b h = refl
    by Sign b h = refl

pub word_no_quoted : (token : Token) → is_word_kind token.kind ≡ true → is_quoted_kind token.kind ≡ false
word_no_quoted token h = by token.kind h
  where
    by : (kind : TokenKind) → is_word_kind kind ≡ true → is_quoted_kind kind ≡ false
    by Word h = refl
    by Quoted h = absurd cc
    by Text h = refl
    by Sign h = refl

-- texts that are the same, in any case
pub same_letters : (a b : List ℕ) → is_same_word a b ≡ true → str_to_ascii_lowercase a ≡ str_to_ascii_lowercase b
same_letters a b h = equal (str_to_ascii_lowercase a) (str_to_ascii_lowercase b) h
  where
    equal : (xs ys : List ℕ) → bytes_eq xs ys ≡ true → xs ≡ ys
    equal xs ys e = (bytes_eq-Decides xs ys).0 e

-- two texts that are the same as a third are the same
pub alike : (t a b : List ℕ) → is_same_word t a ≡ true → is_same_word t b ≡ true → is_same_word b a ≡ true
alike t a b p q =
    let same : str_to_ascii_lowercase b ≡ str_to_ascii_lowercase a = sym (same_letters t b q) ∙ same_letters t a p in
    itself (str_to_ascii_lowercase b) (str_to_ascii_lowercase a) same
  where
    itself : (xs ys : List ℕ) → xs ≡ ys → bytes_eq xs ys ≡ true
    itself xs ys e = (bytes_eq-Decides xs ys).1 e

-- a token that is one sign is not another
pub other_sign : (sign other : List ℕ) (token : Token) → is_sign sign token ≡ true → is_same_word other sign ≡ false → is_sign other token ≡ false
other_sign sign other token h differ = by (is_sign other token) refl
  where
    by : (b : Bool) → is_sign other token ≡ b → b ≡ false
    by true e =
        let p = and_parts (is_sign_kind token.kind) (is_same_word token.text sign) h in
        let q = and_parts (is_sign_kind token.kind) (is_same_word token.text other) e in
        let clash : true ≡ false = sym (alike token.text sign other p.1 q.1) ∙ differ in
        absurd cc
    by false e = refl

-- a token that is one word is not another
pub other_word : (word other : List ℕ) (token : Token) → is_word word token ≡ true → is_same_word other word ≡ false → is_word other token ≡ false
other_word word other token h differ = by (is_word other token) refl
  where
    by : (b : Bool) → is_word other token ≡ b → b ≡ false
    by true e =
        let p = and_parts (is_word_kind token.kind) (is_same_word token.text word) h in
        let q = and_parts (is_word_kind token.kind) (is_same_word token.text other) e in
        let clash : true ≡ false = sym (alike token.text word other p.1 q.1) ∙ differ in
        absurd cc
    by false e = refl

pub joined_sign : (sign : List ℕ) (token : Token) → is_joined sign token ≡ true → is_sign sign token ≡ true
joined_sign sign token h = (and_parts (is_sign sign token) token.glued h).0

-- From what is read to its form

-- what was read of so many tokens is so
abbrev pub AllOf : {A : Type 0} → ℕ → (A → Type 0) → Read A → Type 0
AllOf n P No = Unit {0}
AllOf n P (LeftOut kind) = Unit {0}
AllOf n P (Fits a size) = size ≡ n → P a

pub fitting_all : {A : Type 0} (n size : ℕ) (P : A → Type 0) (o : Option A) → ((a : A) → o ≡ Some a → size ≡ n → P a) → AllOf n P (fitting size o)
fitting_all n size P None make = tt
fitting_all n size P (Some a) make = make a refl

pub or_all : {A : Type 0} (n : ℕ) (P : A → Type 0) (a b : Read A) → AllOf n P a → AllOf n P b → AllOf n P (or_else a b)
or_all n P No b p q = q
or_all n P (LeftOut kind) b p q = p
or_all n P (Fits a size) b p q = p

pub as_all : {A B : Type 0} (n : ℕ) (make : A → B) (P : A → Type 0) (Q : B → Type 0)
    → ((a : A) → P a → Q (make a)) → (r : Read A) → AllOf n P r → AllOf n Q (read_as make r)
as_all n make P Q h No p = tt
as_all n make P Q h (LeftOut kind) p = tt
as_all n make P Q h (Fits a size) p = λ e. h a (p e)

pub weaker : {A : Type 0} (n : ℕ) (P Q : A → Type 0) → ((a : A) → P a → Q a) → (r : Read A) → AllOf n P r → AllOf n Q r
weaker n P Q h No p = tt
weaker n P Q h (LeftOut kind) p = tt
weaker n P Q h (Fits a size) p = λ e. h a (p e)

-- From a form to what is read of it

pub or_no : {A : Type 0} (a b : Read A) → a ≡ No → or_else a b ≡ b
or_no a b e = ap (λ (r : Read _). or_else r b) e

pub or_this : {A : Type 0} (a b : Read A) (x : A) (size : ℕ) → a ≡ Fits x size → or_else a b ≡ Fits x size
or_this a b x size e = ap (λ (r : Read _). or_else r b) e
