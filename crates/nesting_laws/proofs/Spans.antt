-- The loops, plain jumps and jump lists that are opened around a part: at most 64.
use Rattle.std.proofs.Common.{◌≡◌, ℕ, suc, ◌+◌, ◌<◌, ◌≤◌, List, [], ◌∷◌, ◌++◌, length, length-append, refl, arith}
use Rattle.stl_tree.specs.Segments.{AreAscending, AreAscendingAfter}
use Rattle.stl_tree.specs.Flows.{AreHeadsAround, IsInLoop, IsLoop, Segment}
use Rattle.stl_tree.specs.WellNested.{AreSpansOver, IsShallow, IsSpan}

-- all of some numbers are below another
abbrev pub AreBelow : ℕ → List ℕ → Type 0
AreBelow n [] = Unit {0}
AreBelow n (m ∷ rest) = (m < n) × AreBelow n rest

below_more : (n k : ℕ) (xs : List ℕ) → n ≤ k → AreBelow n xs → AreBelow k xs
below_more n k [] x all = tt
below_more n k (m ∷ rest) x (y, all) = (omega arith, below_more n k rest x all)

below_last : (n : ℕ) (xs : List ℕ) → AreBelow n xs → AreBelow (suc n) (xs ++ n ∷ [])
below_last n [] all = (omega arith, tt)
below_last n (m ∷ rest) (y, all) = (omega arith, below_last n rest all)

ascending_after_last : (m n : ℕ) (xs : List ℕ) → m < n → AreAscendingAfter m xs → AreBelow n xs → AreAscendingAfter m (xs ++ n ∷ [])
ascending_after_last m n [] x up all = (x, tt)
ascending_after_last m n (k ∷ rest) x (y, up) (z, all) = (y, ascending_after_last k n rest z up all)

ascending_last : (n : ℕ) (xs : List ℕ) → AreAscending xs → AreBelow n xs → AreAscending (xs ++ n ∷ [])
ascending_last n [] up all = tt
ascending_last n (m ∷ rest) up (z, all) = ascending_after_last m n rest z up all

heads_last : (g : Segment) (b h l : ℕ) (xs : List ℕ) → IsInLoop g h l b → AreHeadsAround g b xs → AreHeadsAround g b (xs ++ h ∷ [])
heads_last g b h l [] is all = ((l, is), tt)
heads_last g b h l (k ∷ rest) is (one, all) = (one, heads_last g b h l rest is all)

sources_last : (g : Segment) (b s t : ℕ) (xs : List ℕ) → IsSpan g s t → s ≤ b → b ≤ t → AreSpansOver g b xs → AreSpansOver g b (xs ++ s ∷ [])
sources_last g b s t [] is x y all = ((t, is, x, y), tt)
sources_last g b s t (k ∷ rest) is x y (one, all) = (one, sources_last g b s t rest is x y all)

-- so many spans around a part, with heads and sources below two blocks
pub record Spans (g : Segment) (m top_head top_source lo hi : ℕ) : Type 0 where
  pub heads : List ℕ
  pub sources : List ℕ
  pub count : length heads + length sources ≡ m
  pub heads_ascend : AreAscending heads
  pub heads_below : AreBelow top_head heads
  pub heads_around : (b : ℕ) → lo ≤ b → b < hi → AreHeadsAround g b heads
  pub sources_ascend : AreAscending sources
  pub sources_below : AreBelow top_source sources
  pub sources_over : (b : ℕ) → lo ≤ b → b < hi → AreSpansOver g b sources

pub no_spans : (g : Segment) (lo hi : ℕ) → Spans g 0 lo lo lo hi
no_spans g lo hi = record {
  heads = [];
  sources = [];
  count = refl;
  heads_ascend = tt;
  heads_below = tt;
  heads_around = λ b x y. tt;
  sources_ascend = tt;
  sources_below = tt;
  sources_over = λ b x y. tt;
}

pub few_spans : (g : Segment) (m top_head top_source lo hi : ℕ) → IsShallow g → Spans g m top_head top_source lo hi → lo < hi → m ≤ 64
few_spans g m top_head top_source lo hi shallow s x =
    let most = shallow lo s.heads s.sources s.heads_ascend (s.heads_around lo (omega arith) x) s.sources_ascend (s.sources_over lo (omega arith) x) in
    omega (arith, s.count)

pub inner_spans : (g : Segment) (m top_head top_source lo hi : ℕ) → Spans g m top_head top_source lo hi → (c d i j : ℕ) → lo ≤ c → d ≤ hi
    → top_head ≤ i → top_source ≤ j → Spans g m i j c d
inner_spans g m top_head top_source lo hi s c d i j x y z w = record {
  heads = s.heads;
  sources = s.sources;
  count = s.count;
  heads_ascend = s.heads_ascend;
  heads_below = below_more top_head i s.heads z s.heads_below;
  heads_around = λ b u v. s.heads_around b (omega arith) (omega arith);
  sources_ascend = s.sources_ascend;
  sources_below = below_more top_source j s.sources w s.sources_below;
  sources_over = λ b u v. s.sources_over b (omega arith) (omega arith);
}

-- with one loop more
pub loop_spans : (g : Segment) (m top_source lo hi l : ℕ) → Spans g m lo top_source lo hi → IsLoop g lo l → l < hi
    → Spans g (suc m) (suc lo) top_source lo (suc l)
loop_spans g m top_source lo hi l s is x = record {
  heads = s.heads ++ lo ∷ [];
  sources = s.sources;
  count = let e : length (s.heads ++ lo ∷ []) ≡ length s.heads + 1 = length-append s.heads (lo ∷ []) in omega (arith, s.count);
  heads_ascend = ascending_last lo s.heads s.heads_ascend s.heads_below;
  heads_below = below_last lo s.heads s.heads_below;
  heads_around = λ b u v. heads_last g b lo l s.heads (record { loop = is; low = u; high = omega arith }) (s.heads_around b u (omega arith));
  sources_ascend = s.sources_ascend;
  sources_below = s.sources_below;
  sources_over = λ b u v. s.sources_over b u (omega arith);
}

-- with one plain jump or jump list more, over a smaller part
pub jump_spans : (g : Segment) (m top_head top_source lo hi : ℕ) → Spans g m top_head top_source lo hi → (s t c d : ℕ) → IsSpan g s t
    → top_source ≤ s → s ≤ c → d ≤ suc t → lo ≤ c → d ≤ hi → Spans g (suc m) top_head (suc s) c d
jump_spans g m top_head top_source lo hi spans s t c d is x y z u v = record {
  heads = spans.heads;
  sources = spans.sources ++ s ∷ [];
  count = let e : length (spans.sources ++ s ∷ []) ≡ length spans.sources + 1 = length-append spans.sources (s ∷ []) in omega (arith, spans.count);
  heads_ascend = spans.heads_ascend;
  heads_below = spans.heads_below;
  heads_around = λ b i j. spans.heads_around b (omega arith) (omega arith);
  sources_ascend = ascending_last s spans.sources spans.sources_ascend (below_more top_source s spans.sources x spans.sources_below);
  sources_below = below_last s spans.sources (below_more top_source s spans.sources x spans.sources_below);
  sources_over = λ b i j. sources_last g b s t spans.sources is (omega arith) (omega arith) (spans.sources_over b (omega arith) (omega arith));
}
