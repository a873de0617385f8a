-- Items that stand one behind the other.
use Rattle.std.proofs.Common.{◌≡◌, ℕ, zero, suc, ◌+◌, ◌-◌, ◌≤◌, List, [], ◌∷◌, ◌++◌, length, drop, refl, sym, ap, ◌∙◌, arith}
use Rattle.std.proofs.lemmas.List.{append-nil, append_assoc}
use Rattle.s7_base.specs.declared.token.Token.{Token}
use Rattle.stl_statement_grammar.specs.Readers.{further, read_as, all_items, with_item}
use Rattle.stl_statement_grammar.specs.declared.mnemonic.Read.{Read}
use Rattle.stl_statement_grammar.specs.declared.mnemonic.Read.TheVariants.{Fits, LeftOut, No}

-- Sums of tokens

further_none : {A : Type 0} (r : Read A) → further 0 r ≡ r
further_none No = refl
further_none (LeftOut kind) = refl
further_none (Fits a size) = let same : 0 + size ≡ size = omega arith in ap (Fits a) same

further_twice : {A : Type 0} (m n : ℕ) (r : Read A) → further m (further n r) ≡ further (m + n) r
further_twice m n No = refl
further_twice m n (LeftOut kind) = refl
further_twice m n (Fits a size) = let same : m + (n + size) ≡ m + n + size = omega arith in ap (Fits a) same

as_further : {A B : Type 0} (make : A → B) (n : ℕ) (r : Read A) → read_as make (further n r) ≡ further n (read_as make r)
as_further make n No = refl
as_further make n (LeftOut kind) = refl
as_further make n (Fits a size) = refl

-- behind tokens that still belong to an item
skipped : {A : Type 0} (read : List Token → Read A) (left : ℕ) (tokens : List Token) → left ≤ length tokens
    → all_items read left tokens ≡ further left (all_items read 0 (drop left tokens))
skipped read zero tokens h = sym (further_none (all_items read 0 tokens))
skipped read (suc left) [] h = absurd (omega (arith, h))
skipped read (suc left) (token ∷ rest) h =
    let fewer : left ≤ length rest = omega (arith, h) in
    let more : 1 + left ≡ suc left = omega arith in
    ap (further 1) (skipped read left rest fewer)
    ∙ further_twice 1 left (all_items read 0 (drop left rest))
    ∙ ap (λ (n : ℕ). further n (all_items read 0 (drop left rest))) more

-- an item stands here, and others may behind it
pub item_there : {A : Type 0} (read : List Token → Read A) (tokens : List Token) (a : A) (size : ℕ)
    → read tokens ≡ Fits a size → 1 ≤ size → size ≤ length tokens
    → all_items read 0 tokens ≡ further size (read_as (λ items. a ∷ items) (all_items read 0 (drop size tokens)))
item_there read tokens a zero e some most = absurd (omega (arith, some))
item_there read [] a (suc left) e some most = absurd (omega (arith, most))
item_there read (token ∷ rest) a (suc left) e some most =
    let fewer : left ≤ length rest = omega (arith, most) in
    let one : suc left - 1 ≡ left = omega arith in
    let more : 1 + left ≡ suc left = omega arith in
    ap (λ (r : Read _). with_item r (λ n. all_items read n rest)) e
    ∙ ap (λ (n : ℕ). further 1 (read_as (λ items. a ∷ items) (all_items read n rest))) one
    ∙ ap (λ (r : Read (List _)). further 1 (read_as (λ items. a ∷ items) r)) (skipped read left rest fewer)
    ∙ ap (further 1) (as_further (λ items. a ∷ items) left (all_items read 0 (drop left rest)))
    ∙ further_twice 1 left (read_as (λ items. a ∷ items) (all_items read 0 (drop left rest)))
    ∙ ap (λ (n : ℕ). further n (read_as (λ items. a ∷ items) (all_items read 0 (drop left rest)))) more

-- nothing fits
abbrev pub IsNone : {A : Type 0} → Read A → Type 0
IsNone No = Unit {0}
IsNone (LeftOut kind) = Unit {0}
IsNone (Fits a size) = ⊥

pub no_item : {A : Type 0} (read : List Token → Read A) (tokens : List Token) → IsNone (read tokens) → all_items read 0 tokens ≡ Fits [] 0
no_item read [] none = refl
no_item read (token ∷ rest) none = by (read (token ∷ rest)) none
  where
    by : (r : Read _) → IsNone r → with_item r (λ n. all_items read n rest) ≡ Fits [] 0
    by No none = refl
    by (LeftOut kind) none = refl
    by (Fits a size) none = absurd none

-- Loops

-- behind some items that take so many tokens
abbrev pub before : {A : Type 0} → List A → ℕ → Read (List A) → Read (List A)
before done taken r = further taken (read_as (λ more. done ++ more) r)

join : {A : Type 0} (done : List A) (a : A) (taken size : ℕ) (r : Read (List A))
    → before (done ++ a ∷ []) (taken + size) r ≡ before done taken (further size (read_as (λ items. a ∷ items) r))
join done a taken size No = refl
join done a taken size (LeftOut kind) = refl
join done a taken size (Fits items n) =
    let same : taken + size + n ≡ taken + (size + n) = omega arith in
    ap (λ (all : List _). Fits all (taken + size + n)) (append_assoc done (a ∷ []) items) ∙ ap (Fits (done ++ a ∷ items)) same

-- one item further
pub item_done : {A : Type 0} (read : List Token → Read A) (done : List A) (taken : ℕ) (tokens : List Token) (a : A) (size : ℕ)
    → read tokens ≡ Fits a size → 1 ≤ size → size ≤ length tokens
    → before (done ++ a ∷ []) (taken + size) (all_items read 0 (drop size tokens)) ≡ before done taken (all_items read 0 tokens)
item_done read done taken tokens a size e some most =
    join done a taken size (all_items read 0 (drop size tokens)) ∙ ap (before done taken) (sym (item_there read tokens a size e some most))

-- at the end
pub all_done : {A : Type 0} (read : List Token → Read A) (done : List A) (taken : ℕ) (tokens : List Token)
    → IsNone (read tokens) → before done taken (all_items read 0 tokens) ≡ Fits done taken
all_done read done taken tokens none =
    let same : taken + 0 ≡ taken = omega arith in
    ap (before done taken) (no_item read tokens none) ∙ ap (λ (all : List _). Fits all (taken + 0)) (append-nil done) ∙ ap (Fits done) same

-- at the begin
pub first_done : {A : Type 0} (a : A) (r : Read (List A)) → before (a ∷ []) 0 r ≡ read_as (λ items. a ∷ items) r
first_done a r = further_none (read_as (λ items. a ∷ items) r)
