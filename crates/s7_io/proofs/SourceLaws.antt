-- What a source gives in one read after another.
use Rattle.std.proofs.Common.{◌≡◌, ℕ, ◌+◌, ◌-◌, ◌≤◌, List, ◌++◌, length, take, drop, Option, None, Some, sym, ap, ◌∙◌, append_assoc, length-append, arith}
use Rattle.std.proofs.lemmas.List.{length-take-le, take_rest, take_at, drop-drop, take-append-drop}
use Rattle.s7_io.specs.Source.{Gave, GaveExactly, GaveAtMost}

-- what two reads gave stands in the order of the reads
pub Gave-more : (a b c : Option (List ℕ)) (xs ys : List ℕ)
    → Gave a b xs → Gave b c ys → Gave a c (xs ++ ys)
Gave-more None None None xs ys first second = tt
Gave-more None None (Some c) xs ys first second = second
Gave-more None (Some b) c xs ys first second = absurd first
Gave-more (Some a) None c xs ys first second = absurd first
Gave-more (Some a) (Some b) None xs ys first second = second
Gave-more (Some a) (Some b) (Some c) xs ys first second =
    rw first (rw second (sym (append_assoc xs ys c)))

length-append-take : (xs piece : List ℕ) (n : ℕ) → n ≤ length piece
    → length (xs ++ take n piece) ≡ length xs + n
length-append-take xs piece n within =
    omega (arith, length-append xs (take n piece), length-take-le n piece within)

-- the bytes so far and the piece that came last are what is gone
pub GaveExactly-piece : (a b c : Option (List ℕ)) (xs piece : List ℕ) (n all : ℕ)
    → Gave a b xs → Gave b c (take n piece) → n ≤ length piece → length xs + n ≡ all
    → GaveExactly a c all
GaveExactly-piece a b c xs piece n all first second within whole = (
  xs ++ take n piece,
  length-append-take xs piece n within ∙ whole,
  Gave-more a b c xs (take n piece) first second,
)

pub GaveAtMost-piece : (a b c : Option (List ℕ)) (xs piece : List ℕ) (n most : ℕ)
    → Gave a b xs → Gave b c (take n piece) → n ≤ length piece → length xs + n ≤ most
    → GaveAtMost a c most
GaveAtMost-piece a b c xs piece n most first second within few = (
  xs ++ take n piece,
  omega (arith, length-append-take xs piece n within),
  Gave-more a b c xs (take n piece) first second,
)

-- the piece that was copied to the front of a buffer, and the bytes after it, were to come
pub copied-front : (bytes shown copied tail : List ℕ) (next n : ℕ) → shown ≡ bytes
    → copied ≡ take n (take (length shown - next) (drop next shown)) → length copied ≡ n
    → drop next bytes ≡ take n (copied ++ tail) ++ drop (next + n) bytes
copied-front bytes shown copied tail next n same copy len =
    let rest : copied ≡ take n (drop next bytes) =
    copy ∙ rw take_rest (ap (λ (xs : List ℕ). take n (drop next xs)) same) in
    let left : List ℕ = drop next bytes in
    sym (rw (take_at copied tail n len, rest, ← drop-drop n next bytes) (take-append-drop n left))
