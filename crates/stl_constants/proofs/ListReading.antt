-- How a loop over the elements of a list follows what they are read as.
use Rattle.std.proofs.Common.{◌≡◌, ℕ, zero, suc, ◌+◌, Bool, true, false, if◌then◌else◌, List, [], ◌∷◌, ◌++◌, drop, refl, sym, ap, ◌∙◌, arith, append_assoc}
use Rattle.std.specs.Prelude.{codes}
use Rattle.s7_base.specs.declared.reason.Kind.{Kind}
use Rattle.s7_base.specs.declared.token.Token.{Token}
use Rattle.stl_statement_grammar.specs.Lists.{elements_behind, elements_from, elements_with, with_element}
use Rattle.stl_constants.specs.inner.Lists.{next_of, read_further}
use Rattle.stl_constants.specs.declared.lists.Next.TheVariants.{End, More, Other}
use Rattle.stl_statement_grammar.specs.Readers.{further, read_as}
use Rattle.stl_statement_grammar.specs.Words.{is_sign}
use Rattle.stl_statement_grammar.specs.declared.mnemonic.Read.{Read}
use Rattle.stl_statement_grammar.specs.declared.mnemonic.Read.TheVariants.{Fits, LeftOut, No}

ends_by : {A : Type 0} (b c : Bool) (x y z : A) → (if b then End else if c then More else Other) ≡ End → (if b then x else if c then y else z) ≡ x
ends_by true c x y z e = refl
ends_by false true x y z e = absurd cc
ends_by false false x y z e = absurd cc

more_by : {A : Type 0} (b c : Bool) (x y z : A) → (if b then End else if c then More else Other) ≡ More → (if b then x else if c then y else z) ≡ y
more_by true c x y z e = absurd cc
more_by false true x y z e = refl
more_by false false x y z e = absurd cc

other_by : {A : Type 0} (b c : Bool) (x y z : A) → (if b then End else if c then More else Other) ≡ Other → (if b then x else if c then y else z) ≡ z
other_by true c x y z e = absurd cc
other_by false true x y z e = absurd cc
other_by false false x y z e = refl

next_ends : {A : Type 0} (close : List ℕ) (a : A) (size : ℕ) (behind : List Token) (more : ℕ → Read (List A)) → next_of close behind ≡ End →
    elements_behind close a size behind more ≡ Fits (a ∷ []) (size + 1)
next_ends close a size [] more e = absurd cc
next_ends close a size (sign ∷ rest) more e = ends_by (is_sign close sign) (is_sign (codes ",") sign) _ _ _ e

next_goes_on : {A : Type 0} (close : List ℕ) (a : A) (size : ℕ) (behind : List Token) (more : ℕ → Read (List A)) → next_of close behind ≡ More →
    elements_behind close a size behind more ≡ further (size + 1) (read_as (with_element a) (more size))
next_goes_on close a size [] more e = absurd cc
next_goes_on close a size (sign ∷ rest) more e = more_by (is_sign close sign) (is_sign (codes ",") sign) _ _ _ e

next_stops : {A : Type 0} (close : List ℕ) (a : A) (size : ℕ) (behind : List Token) (more : ℕ → Read (List A)) → next_of close behind ≡ Other →
    elements_behind close a size behind more ≡ No
next_stops close a size [] more e = refl
next_stops close a size (sign ∷ rest) more e = other_by (is_sign close sign) (is_sign (codes ",") sign) _ _ _ e

skipped : {A : Type 0} (element : List Token → Read A) (close : List ℕ) (n : ℕ) (tokens : List Token) →
    elements_from element close n tokens ≡ elements_from element close 0 (drop n tokens)
skipped element close zero tokens = refl
skipped element close (suc n) [] = refl
skipped element close (suc n) (first ∷ rest) = skipped element close n rest

nothing : (n : ℕ) → drop {A = Token} n [] ≡ []
nothing zero = refl
nothing (suc n) = refl

pub begun : {A : Type 0} (read : Read (List A)) → read_further [] 0 read ≡ read
begun No = refl
begun (LeftOut kind) = refl
begun (Fits more size) = let e : 0 + size ≡ size = omega arith in ap (λ (n : ℕ). Fits more n) e

joined : {A : Type 0} (done : List A) (a : A) (size taken : ℕ) (read : Read (List A)) →
    read_further (done ++ (a ∷ [])) (size + (taken + 1)) read ≡ read_further done size (further (taken + 1) (read_as (with_element a) read))
joined done a size taken No = refl
joined done a size taken (LeftOut kind) = refl
joined {A = A} done a size taken (Fits more n) =
    let e : size + (taken + 1) + n ≡ size + (taken + 1 + n) = omega arith in
    ap (λ (xs : List A). Fits xs (size + (taken + 1) + n)) (append_assoc done (a ∷ []) more) ∙ ap (λ (m : ℕ). Fits (done ++ (a ∷ more)) m) e

-- the sign that ends the list
pub ended : {A : Type 0} (element : List Token → Read A) (close : List ℕ) (done : List A)
    (size : ℕ) (tokens : List Token) (a : A) (taken : ℕ) (whole : Read (List A))
    → Fits a taken ≡ element tokens → End ≡ next_of close (drop taken tokens) → read_further done size (elements_from element close 0 tokens) ≡ whole
    → Fits (done ++ (a ∷ [])) (size + (taken + 1)) ≡ whole
ended element close done size [] a taken whole is next e =
    let none : next_of close (drop taken []) ≡ Other = ap (λ (ts : List Token). next_of close ts) (nothing taken) in
    let apart : End ≡ Other = next ∙ none in absurd cc
ended {A = A} element close done size (first ∷ rest) a taken whole is next e =
    ap (λ (r : Read (List A)). read_further done size r)
    (sym (next_ends close a taken (drop taken (first ∷ rest)) (λ n. elements_from element close n rest) (sym next))
    ∙ ap (λ (r : Read A). elements_with close (first ∷ rest) r (λ n. elements_from element close n rest)) is)
    ∙ e

-- a comma, and what stands behind it
pub went_on : {A : Type 0} (element : List Token → Read A) (close : List ℕ) (done : List A)
    (size : ℕ) (tokens : List Token) (a : A) (taken : ℕ) (whole : Read (List A))
    → Fits a taken ≡ element tokens → More ≡ next_of close (drop taken tokens) → read_further done size (elements_from element close 0 tokens) ≡ whole
    → read_further (done ++ (a ∷ [])) (size + (taken + 1)) (elements_from element close 0 (drop taken (drop 1 tokens))) ≡ whole
went_on element close done size [] a taken whole is next e =
    let none : next_of close (drop taken []) ≡ Other = ap (λ (ts : List Token). next_of close ts) (nothing taken) in
    let apart : More ≡ Other = next ∙ none in absurd cc
went_on {A = A} element close done size (first ∷ rest) a taken whole is next e =
    ap (λ (r : Read (List A)). read_further (done ++ (a ∷ [])) (size + (taken + 1)) r) (sym (skipped element close taken rest))
    ∙ joined done a size taken (elements_from element close taken rest)
    ∙ ap (λ (r : Read (List A)). read_further done size r)
    (sym (next_goes_on close a taken (drop taken (first ∷ rest)) (λ n. elements_from element close n rest) (sym next))
    ∙ ap (λ (r : Read A). elements_with close (first ∷ rest) r (λ n. elements_from element close n rest)) is)
    ∙ e

-- neither
pub stopped : {A : Type 0} (element : List Token → Read A) (close : List ℕ) (done : List A)
    (size : ℕ) (tokens : List Token) (a : A) (taken : ℕ) (whole : Read (List A))
    → Fits a taken ≡ element tokens → Other ≡ next_of close (drop taken tokens) → read_further done size (elements_from element close 0 tokens) ≡ whole
    → No ≡ whole
stopped element close done size [] a taken whole is next e = e
stopped {A = A} element close done size (first ∷ rest) a taken whole is next e =
    ap (λ (r : Read (List A)). read_further done size r)
    (sym (next_stops close a taken (drop taken (first ∷ rest)) (λ n. elements_from element close n rest) (sym next))
    ∙ ap (λ (r : Read A). elements_with close (first ∷ rest) r (λ n. elements_from element close n rest)) is)
    ∙ e

-- no element
pub missing : {A : Type 0} (element : List Token → Read A) (close : List ℕ) (done : List A) (size : ℕ) (tokens : List Token) (whole : Read (List A)) →
    No ≡ element tokens → read_further done size (elements_from element close 0 tokens) ≡ whole → No ≡ whole
missing element close done size [] whole is e = e
missing {A = A} element close done size (first ∷ rest) whole is e =
    ap (λ (r : Read A). read_further done size (elements_with close (first ∷ rest) r (λ n. elements_from element close n rest))) is ∙ e

-- an element that is left out
pub left_out : {A : Type 0} (element : List Token → Read A) (close : List ℕ)
    (done : List A) (size : ℕ) (tokens : List Token) (kind : Kind) (whole : Read (List A))
    → element [] ≡ No → LeftOut kind ≡ element tokens → read_further done size (elements_from element close 0 tokens) ≡ whole → LeftOut kind ≡ whole
left_out element close done size [] kind whole none is e = let apart : LeftOut kind ≡ No = is ∙ none in absurd cc
left_out {A = A} element close done size (first ∷ rest) kind whole none is e =
    ap (λ (r : Read A). read_further done size (elements_with close (first ∷ rest) r (λ n. elements_from element close n rest))) is ∙ e
