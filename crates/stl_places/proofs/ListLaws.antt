-- Lists with commas between their elements are read exactly where one of their forms stands.
use Rattle.std.proofs.Common.{◌≡◌, ℕ, zero, suc, ◌+◌, ◌≤◌, Bool, true, false, if◌then◌else◌, List, [], ◌∷◌, ◌++◌, length, drop, refl, sym, ap, subst, ◌∙◌, arith, append_assoc, length-append}
use Rattle.std.proofs.Math.Seq.{drop-append_seam}
use Rattle.std.specs.Prelude.{codes}
use Rattle.s7_base.specs.Tokens.{is_same_word}
use Rattle.s7_base.specs.declared.reason.Kind.{Kind}
use Rattle.s7_base.specs.declared.token.Token.{Token}
use Rattle.stl_constants.proofs.Reading.{if_false, if_true, other_sign}
use Rattle.stl_places.proofs.ConstantFronts.{IsStop, Stops, stop_by}
use Rattle.stl_places.proofs.Outs.{OutOf, as_out, further_out, weaker_out}
use Rattle.stl_statement_grammar.specs.Lists.{elements_behind, elements_from, elements_with, with_element}
use Rattle.stl_statement_grammar.specs.ListForms.{AreElements, last, more, LeavesOutElement, here, behind}
use Rattle.stl_places.proofs.Fronts.{FrontOf, as_front, further_front}
use Rattle.stl_statement_grammar.specs.Readers.{further, read_as}
use Rattle.stl_statement_grammar.specs.Words.{is_sign}
use Rattle.stl_statement_grammar.specs.declared.mnemonic.Read.{Read}
use Rattle.stl_statement_grammar.specs.declared.mnemonic.Read.TheVariants.{Fits, LeftOut, No}

-- an element is read exactly where one of its forms stands, and left out where one of those stands that are
pub record Agrees {A : Type 0} (element : List Token → Read A) (P : List Token → A → Type 0) (Q : List Token → Kind → Type 0) : Type 0 where
  pub front : (tokens : List Token) → FrontOf tokens P (element tokens)
  pub out : (tokens : List Token) → OutOf (λ k. Q tokens k) (element tokens)
  pub read : (front : List Token) (a : A) → P front a → (rest : List Token) → Stops rest → element (front ++ rest) ≡ Fits a (length front)
  pub left : (tokens : List Token) (k : Kind) → Q tokens k → element tokens ≡ LeftOut k
  pub some : (front : List Token) (a : A) → P front a → 1 ≤ length front
  pub none : element [] ≡ No

-- a sign that ends lists
pub record Closes (close : List ℕ) : Type 0 where
  pub apart : is_same_word close (codes ",") ≡ false
  pub stop : (sign : Token) → is_sign close sign ≡ true → IsStop sign

pub skipped : {A : Type 0} (element : List Token → Read A) (close : List ℕ) (n : ℕ) (tokens : List Token) →
    elements_from element close n tokens ≡ elements_from element close 0 (drop n tokens)
skipped element close zero tokens = refl
skipped element close (suc n) [] = refl
skipped element close (suc n) (first ∷ rest) = skipped element close n rest

nothing : (n : ℕ) → drop {A = Token} n [] ≡ []
nothing zero = refl
nothing (suc n) = refl

-- what stands behind the first token of the rest
drop_next : (n : ℕ) (x : Token) (xs : List Token) (y : Token) (ys : List Token) → drop n (x ∷ xs) ≡ y ∷ ys → drop n xs ≡ ys
drop_next zero x xs y ys e = cc
drop_next (suc n) x [] y ys e = let none : drop {A = Token} n [] ≡ [] = nothing n in absurd cc
drop_next (suc n) x (z ∷ xs) y ys e = drop_next n z xs y ys e

comma_stop : (comma : Token) → is_sign (codes ",") comma ≡ true → IsStop comma
comma_stop comma sign = stop_by (codes ",") comma sign refl refl refl refl

-- From what is read to its form

behind_front : {A : Type 0} (P : List Token → A → Type 0) (close : List ℕ) (front : List Token) (a : A) (rest : List Token) (next : ℕ → Read (List A))
    → P front a
    → ((sign : Token) (left : List Token) → rest ≡ sign ∷ left → FrontOf left (AreElements P close) (next (length front)))
    → FrontOf (front ++ rest) (AreElements P close) (elements_behind close a (length front) rest next)
behind_front P close front a [] next is reads = tt
behind_front {A = A} P close front a (sign ∷ left) next is reads = by (is_sign close sign) refl (is_sign (codes ",") sign) refl
  where
    goes_on : is_sign (codes ",") sign ≡ true
        → FrontOf ((front ++ (sign ∷ [])) ++ left) (AreElements P close)
        (further (length (front ++ (sign ∷ []))) (read_as (with_element a) (next (length front))))
    goes_on comma =
        further_front (front ++ (sign ∷ [])) left (AreElements P close) (read_as (with_element a) (next (length front)))
        (as_front left (with_element a) (AreElements P close) (λ tail all. AreElements P close ((front ++ (sign ∷ [])) ++ tail) all)
        (λ tail end others at are.
        subst (λ (ts : List Token). AreElements P close ts (a ∷ others))
        (sym (append_assoc front (sign ∷ []) tail)) (more front sign tail a others is comma are))
        (next (length front)) (reads sign left refl))

    by : (b : Bool) → is_sign close sign ≡ b → (c : Bool) → is_sign (codes ",") sign ≡ c →
        FrontOf (front ++ (sign ∷ left)) (AreElements P close)
        (if b then Fits (a ∷ []) (length front + 1) else if c then further (length front + 1) (read_as (with_element a) (next (length front))) else No)
    by true ends c comma =
        record {
          front = front ++ (sign ∷ []);
          rest = left;
          is = append_assoc front (sign ∷ []) left;
          size_is = omega (arith, length-append front (sign ∷ []));
          holds = last front sign a is ends;
        }
    by false ends false comma = tt
    by false ends true comma =
        let size : length (front ++ (sign ∷ [])) ≡ length front + 1 = omega (arith, length-append front (sign ∷ [])) in
        let sized : FrontOf ((front ++ (sign ∷ [])) ++ left) (AreElements P close)
        (further (length front + 1) (read_as (with_element a) (next (length front)))) =
        subst (λ (n : ℕ). FrontOf ((front ++ (sign ∷ [])) ++ left) (AreElements P close) (further n (read_as (with_element a) (next (length front))))) size
        (goes_on comma) in
        subst (λ (ts : List Token). FrontOf ts (AreElements P close) (further (length front + 1) (read_as (with_element a) (next (length front)))))
        (append_assoc front (sign ∷ []) left) sized

-- what an element leaves behind it
record Left (first : Token) (rest front after : List Token) : Type 0 where
  dropped : drop (length front) (first ∷ rest) ≡ after
  next : (sign : Token) (left : List Token) → after ≡ sign ∷ left → drop (length front) rest ≡ left
  fewer : (sign : Token) (left : List Token) → after ≡ sign ∷ left → length left ≤ length rest

left_of : (first : Token) (rest front after : List Token) → front ++ after ≡ first ∷ rest → Left first rest front after
left_of first rest front after is =
    let whole : drop (length front) (first ∷ rest) ≡ after = ap (λ (ts : List Token). drop (length front) ts) (sym is) ∙ drop-append_seam front after in
    let sum : length front + length after ≡ length (first ∷ rest) = sym (length-append front after) ∙ ap (λ (ts : List Token). length ts) is in
    record {
      dropped = whole;
      next = λ sign left at. drop_next (length front) first rest sign left (whole ∙ at);
      fewer = λ sign left at. let size : length after ≡ length (sign ∷ left) = ap (λ (ts : List Token). length ts) at in omega (arith, sum, size);
    }

elements_bounded : {A : Type 0} (element : List Token → Read A) (P : List Token → A → Type 0) (Q : List Token → Kind → Type 0)
    → Agrees element P Q → (close : List ℕ) (n : ℕ) (tokens : List Token)
    → length tokens ≤ n → FrontOf tokens (AreElements P close) (elements_from element close 0 tokens)
elements_bounded element P Q agrees close n [] h = tt
elements_bounded element P Q agrees close zero (first ∷ rest) h = absurd (omega (arith, h))
elements_bounded {A = A} element P Q agrees close (suc n) (first ∷ rest) h =
    by (element (first ∷ rest)) (agrees.front (first ∷ rest)) (λ left fewer. elements_bounded element P Q agrees close n left fewer)
  where
    by : (r : Read A) → FrontOf (first ∷ rest) P r
        → ((left : List Token) → length left ≤ n → FrontOf left (AreElements P close) (elements_from element close 0 left))
        → FrontOf (first ∷ rest) (AreElements P close) (elements_with close (first ∷ rest) r (λ size. elements_from element close size rest))
    by No f next = tt
    by (LeftOut k) f next = tt
    by (Fits a size) f next =
        let l = left_of first rest f.front f.rest f.is in
        let G : List Token → List A → Type 0 = AreElements P close in
        let read : ℕ → Read (List A) = λ s. elements_from element close s rest in
        let base : FrontOf (f.front ++ f.rest) G (elements_behind close a (length f.front) f.rest read) =
        behind_front P close f.front a f.rest read f.holds
        (λ sign left at.
        let fewer : length left ≤ length rest = l.fewer sign left at in
        let there : elements_from element close (length f.front) rest ≡ elements_from element close 0 left =
        skipped element close (length f.front) rest ∙ ap (λ (ts : List Token). elements_from element close 0 ts) (l.next sign left at) in
        subst (λ (r : Read (List A)). FrontOf left G r) (sym there) (next left (omega (arith, h, fewer)))) in
        let one : FrontOf (f.front ++ f.rest) G (elements_behind close a (length f.front) (drop (length f.front) (first ∷ rest)) read) =
        subst (λ (ts : List Token). FrontOf (f.front ++ f.rest) G (elements_behind close a (length f.front) ts read)) (sym l.dropped) base in
        let two : FrontOf (f.front ++ f.rest) G (elements_behind close a size (drop size (first ∷ rest)) read) =
        subst (λ (s : ℕ). FrontOf (f.front ++ f.rest) G (elements_behind close a s (drop s (first ∷ rest)) read)) f.size_is one in
        subst (λ (ts : List Token). FrontOf ts G (elements_behind close a size (drop size (first ∷ rest)) read)) f.is two

pub elements_front : {A : Type 0} (element : List Token → Read A) (P : List Token → A → Type 0) (Q : List Token → Kind → Type 0)
    → Agrees element P Q → (close : List ℕ) (tokens : List Token)
    → FrontOf tokens (AreElements P close) (elements_from element close 0 tokens)
elements_front element P Q agrees close tokens =
    let same : length tokens ≤ length tokens = omega arith in
    elements_bounded element P Q agrees close (length tokens) tokens same

-- From what is left out to its form

behind_out : {A : Type 0} (P : List Token → A → Type 0) (Q : List Token → Kind → Type 0) (close : List ℕ)
    (front : List Token) (a : A) (rest : List Token) (next : ℕ → Read (List A)) → P front a
    → ((sign : Token) (left : List Token) → rest ≡ sign ∷ left → OutOf (λ k. LeavesOutElement P Q left k) (next (length front)))
    → OutOf (λ k. LeavesOutElement P Q (front ++ rest) k) (elements_behind close a (length front) rest next)
behind_out P Q close front a [] next is outs = tt
behind_out {A = A} P Q close front a (sign ∷ left) next is outs = by (is_sign close sign) (is_sign (codes ",") sign) refl
  where
    by : (b c : Bool) → is_sign (codes ",") sign ≡ c →
        OutOf {A = List A} (λ k. LeavesOutElement P Q (front ++ (sign ∷ left)) k)
        (if b then Fits (a ∷ []) (length front + 1) else if c then further (length front + 1) (read_as (with_element a) (next (length front))) else No)
    by true c comma = tt
    by false false comma = tt
    by false true comma =
        further_out (λ k. LeavesOutElement P Q (front ++ (sign ∷ left)) k) (length front + 1) (read_as (with_element a) (next (length front)))
        (as_out (λ k. LeavesOutElement P Q (front ++ (sign ∷ left)) k) (with_element a) (next (length front))
        (weaker_out (λ k. LeavesOutElement P Q left k) (λ k. LeavesOutElement P Q (front ++ (sign ∷ left)) k) (λ k out. behind front sign left a k is comma out)
        (next (length front)) (outs sign left refl)))

out_bounded : {A : Type 0} (element : List Token → Read A) (P : List Token → A → Type 0) (Q : List Token → Kind → Type 0)
    → Agrees element P Q → (close : List ℕ) (n : ℕ) (tokens : List Token)
    → length tokens ≤ n → OutOf (λ k. LeavesOutElement P Q tokens k) (elements_from element close 0 tokens)
out_bounded element P Q agrees close n [] h = tt
out_bounded element P Q agrees close zero (first ∷ rest) h = absurd (omega (arith, h))
out_bounded {A = A} element P Q agrees close (suc n) (first ∷ rest) h =
    by (element (first ∷ rest)) (agrees.front (first ∷ rest)) (agrees.out (first ∷ rest)) (λ left fewer. out_bounded element P Q agrees close n left fewer)
  where
    by : (r : Read A) → FrontOf (first ∷ rest) P r → OutOf (λ k. Q (first ∷ rest) k) r →
        ((left : List Token) → length left ≤ n → OutOf (λ k. LeavesOutElement P Q left k) (elements_from element close 0 left)) →
        OutOf (λ k. LeavesOutElement P Q (first ∷ rest) k) (elements_with close (first ∷ rest) r (λ size. elements_from element close size rest))
    by No f out next = tt
    by (LeftOut k) f out next = here (first ∷ rest) k out
    by (Fits a size) f out next =
        let l = left_of first rest f.front f.rest f.is in
        let G : List Token → Kind → Type 0 = LeavesOutElement P Q in
        let read : ℕ → Read (List A) = λ s. elements_from element close s rest in
        let base : OutOf (λ k. G (f.front ++ f.rest) k) (elements_behind close a (length f.front) f.rest read) =
        behind_out P Q close f.front a f.rest read f.holds
        (λ sign left at.
        let fewer : length left ≤ length rest = l.fewer sign left at in
        let there : elements_from element close (length f.front) rest ≡ elements_from element close 0 left =
        skipped element close (length f.front) rest ∙ ap (λ (ts : List Token). elements_from element close 0 ts) (l.next sign left at) in
        subst (λ (r : Read (List A)). OutOf (λ k. G left k) r) (sym there) (next left (omega (arith, h, fewer)))) in
        let one : OutOf (λ k. G (f.front ++ f.rest) k) (elements_behind close a (length f.front) (drop (length f.front) (first ∷ rest)) read) =
        subst (λ (ts : List Token). OutOf (λ k. G (f.front ++ f.rest) k) (elements_behind close a (length f.front) ts read)) (sym l.dropped) base in
        let two : OutOf (λ k. G (f.front ++ f.rest) k) (elements_behind close a size (drop size (first ∷ rest)) read) =
        subst (λ (s : ℕ). OutOf (λ k. G (f.front ++ f.rest) k) (elements_behind close a s (drop s (first ∷ rest)) read)) f.size_is one in
        subst (λ (ts : List Token). OutOf (λ k. G ts k) (elements_behind close a size (drop size (first ∷ rest)) read)) f.is two

pub elements_out : {A : Type 0} (element : List Token → Read A) (P : List Token → A → Type 0) (Q : List Token → Kind → Type 0)
    → Agrees element P Q → (close : List ℕ) (tokens : List Token)
    → OutOf (λ k. LeavesOutElement P Q tokens k) (elements_from element close 0 tokens)
elements_out element P Q agrees close tokens =
    let same : length tokens ≤ length tokens = omega arith in
    out_bounded element P Q agrees close (length tokens) tokens same

-- From a form to what is read of it

split_read : {A : Type 0} (element : List Token → Read A) (P : List Token → A → Type 0) (Q : List Token → Kind → Type 0)
    → Agrees element P Q → (close : List ℕ) (front : List Token) (sign : Token) (left : List Token) (a : A)
    → P front a → IsStop sign
    → elements_from element close 0 (front ++ (sign ∷ left))
    ≡ (if is_sign close sign then Fits (a ∷ []) (length front + 1)
    else if is_sign (codes ",") sign then further (length front + 1) (read_as (with_element a) (elements_from element close 0 left)) else No)
split_read element P Q agrees close [] sign left a is stop = let some : 1 ≤ length {A = Token} [] = agrees.some [] a is in absurd (omega (arith, some))
split_read {A = A} element P Q agrees close (first ∷ tail) sign left a is stop =
    let rest = tail ++ (sign ∷ left) in
    let n = length (first ∷ tail) in
    let seam : drop (length (first ∷ tail)) (first ∷ rest) ≡ sign ∷ left = drop-append_seam (first ∷ tail) (sign ∷ left) in
    ap (λ (r : Read A). elements_with close (first ∷ rest) r (λ s. elements_from element close s rest)) (agrees.read (first ∷ tail) a is (sign ∷ left) stop)
    ∙ ap (λ (ts : List Token). elements_behind close a n ts (λ s. elements_from element close s rest)) seam
    ∙ ap (λ (r : Read (List A)). if is_sign close sign then Fits (a ∷ []) (n + 1)
    else if is_sign (codes ",") sign then further (n + 1) (read_as (with_element a) r) else No)
    (skipped element close n rest ∙ ap (λ (ts : List Token). elements_from element close 0 ts) (drop_next n first rest sign left seam))

pub elements_read : {A : Type 0} (element : List Token → Read A) (P : List Token → A → Type 0) (Q : List Token → Kind → Type 0)
    → Agrees element P Q → (close : List ℕ) → Closes close
    → (tokens : List Token) (all : List A) → AreElements P close tokens all → (rest : List Token)
    → elements_from element close 0 (tokens ++ rest) ≡ Fits all (length tokens)
elements_read element P Q agrees close closes tokens all (last front sign a is ends) rest =
    let size : length front + 1 ≡ length (front ++ (sign ∷ [])) = omega (arith, length-append front (sign ∷ [])) in
    ap (λ (ts : List Token). elements_from element close 0 ts) (append_assoc front (sign ∷ []) rest)
    ∙ split_read element P Q agrees close front sign rest a is (closes.stop sign ends)
    ∙ if_true (is_sign close sign) _ _ ends ∙ ap (λ (n : ℕ). Fits (a ∷ []) n) size
elements_read {A = A} element P Q agrees close closes tokens all (more front comma left a others is sign are) rest =
    let size : length front + 1 + length left ≡ length (front ++ (comma ∷ left)) = omega (arith, length-append front (comma ∷ left)) in
    ap (λ (ts : List Token). elements_from element close 0 ts) (append_assoc front (comma ∷ left) rest)
    ∙ split_read element P Q agrees close front comma (left ++ rest) a is (comma_stop comma sign)
    ∙ if_false (is_sign close comma) _ _ (other_sign (codes ",") close comma sign closes.apart)
    ∙ if_true (is_sign (codes ",") comma) _ No sign
    ∙ ap (λ (r : Read (List A)). further (length front + 1) (read_as (with_element a) r)) (elements_read element P Q agrees close closes left others are rest)
    ∙ ap (λ (n : ℕ). Fits (a ∷ others) n) size

pub elements_left : {A : Type 0} (element : List Token → Read A) (P : List Token → A → Type 0) (Q : List Token → Kind → Type 0)
    → Agrees element P Q → (close : List ℕ) → Closes close
    → (tokens : List Token) (k : Kind) → LeavesOutElement P Q tokens k → elements_from element close 0 tokens ≡ LeftOut k
elements_left element P Q agrees close closes tokens k (here [] its is) = let lost : No ≡ LeftOut its = sym agrees.none ∙ agrees.left [] its is in absurd cc
elements_left {A = A} element P Q agrees close closes tokens k (here (first ∷ rest) its is) =
    ap (λ (r : Read A). elements_with close (first ∷ rest) r (λ s. elements_from element close s rest)) (agrees.left (first ∷ rest) its is)
elements_left {A = A} element P Q agrees close closes tokens k (behind front comma left a its is sign out) =
    split_read element P Q agrees close front comma left a is (comma_stop comma sign)
    ∙ if_false (is_sign close comma) _ _ (other_sign (codes ",") close comma sign closes.apart)
    ∙ if_true (is_sign (codes ",") comma) _ No sign
    ∙ ap (λ (r : Read (List A)). further (length front + 1) (read_as (with_element a) r)) (elements_left element P Q agrees close closes left its out)
