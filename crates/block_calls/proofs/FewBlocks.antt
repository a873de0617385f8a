-- A program has no more blocks than there are names of blocks, so the position of one has 32 bits.
use Rattle.std.proofs.Common.{◌≡◌, ℕ, suc, ◌+◌, ◌<◌, ◌≤◌, ◌==◌, Bool, true, false, nat_lt, List, [], ◌∷◌, length, map, All, Option, Some, None, refl, sym, ap, ◌∙◌, subst, arith, eqb-true}
use Rattle.std.specs.Prelude.{cond, not, ◌||◌}
use Rattle.std.specs.List.{AllByRecursion, IsDistinct, list_any, position, prefix_len}
use Rattle.std.proofs.lemmas.Bool.Decides.{nat_tests}
use Rattle.std.proofs.lemmas.List.{length-map}
use Rattle.std.proofs.lemmas.List.Elements.{All-head, All-tail}
use Rattle.std.proofs.lemmas.Map.Keys.{IsDistinct-cons, IsDistinct-from_apart}
use Rattle.std.proofs.lemmas.Map.Steps.{length-le_from_distinct_below}
use Rattle.block_calls.proofs.Fitting.{same_itself, some_below}
use Rattle.memory_areas.specs.declared.call.BlockName.{BlockName}
use Rattle.memory_areas.specs.declared.call.BlockName.TheVariants as name
use Rattle.stl_tree.specs.Accepted.{AreDistinct, IsAccepted, IsAcceptedBlock, IsBlockNumber}
use Rattle.stl_tree.specs.StlRun.{block_named, is_same_name}
use Rattle.stl_tree.specs.declared.program.Block.{Block}
use Rattle.stl_tree.specs.declared.program.Program.{Program}

-- a number for each name
abbrev code_of : BlockName → ℕ
code_of (name.Ob n) = n
code_of (name.Fc n) = 65536 + n
code_of (name.Fb n) = 131072 + n

code_below : (n : BlockName) → IsBlockNumber n → code_of n < 196608
code_below (name.Ob n) h = omega (arith, h.1)
code_below (name.Fc n) h = omega (arith, h)
code_below (name.Fb n) h = omega (arith, h)

-- two names with numbers that a block may have, and with one code, are one
same_code : (m n : BlockName) → IsBlockNumber m → IsBlockNumber n → code_of m ≡ code_of n → m ≡ n
same_code (name.Ob m) (name.Ob n) g h e = ap name.Ob e
same_code (name.Fc m) (name.Fc n) g h e = let s : m ≡ n = omega (arith, e) in ap name.Fc s
same_code (name.Fb m) (name.Fb n) g h e = let s : m ≡ n = omega (arith, e) in ap name.Fb s
same_code (name.Ob m) (name.Fc n) g h e = absurd (omega (arith, e, g.1))
same_code (name.Ob m) (name.Fb n) g h e = absurd (omega (arith, e, g.1))
same_code (name.Fc m) (name.Ob n) g h e = absurd (omega (arith, e, h.1))
same_code (name.Fc m) (name.Fb n) g h e = absurd (omega (arith, e, g))
same_code (name.Fb m) (name.Ob n) g h e = absurd (omega (arith, e, h.1))
same_code (name.Fb m) (name.Fc n) g h e = absurd (omega (arith, e, h))

-- where no block has a name, the first one has another, and the rest has none
abbrev first_by : (Block → Bool) → List Block → Bool → Option ℕ
first_by q blocks t =
    cond (nat_lt (cond (not t) (1 + prefix_len (λ x. not (q x)) blocks) 0) (suc (length blocks)))
    (Some (cond (not t) (1 + prefix_len (λ x. not (q x)) blocks) 0)) None

none_behind : (k len : ℕ) (t : Bool) → nat_lt k len ≡ t → cond (nat_lt (1 + k) (suc len)) (Some (1 + k)) None ≡ None → cond t (Some k) None ≡ None
none_behind k len true g f =
    let less : nat_lt (1 + k) (suc len) ≡ true = grind (arith, nat_tests, g) in
    let some : Some (1 + k) ≡ None = sym (ap (λ t. cond t (Some (1 + k)) None) less) ∙ f in absurd cc
none_behind k len false g f = refl

none_first : (q : Block → Bool) (b : Block) (blocks : List Block) → position q (b ∷ blocks) ≡ None → (q b ≡ false) × (position q blocks ≡ None)
none_first q b blocks e = by (q b) refl e
  where
    by : (t : Bool) → q b ≡ t → first_by q blocks (q b) ≡ None → (q b ≡ false) × (position q blocks ≡ None)
    by true g f =
        let some : ◌≡◌ {A = Option ℕ} (Some 0) None = sym (ap (first_by q blocks) g ∙ ap (λ t. cond t (Some 0) None) (some_below (length blocks))) ∙ f in
        absurd cc
    by false g f = (
      g,
      none_behind (prefix_len (λ x. not (q x)) blocks) (length blocks) (nat_lt (prefix_len (λ x. not (q x)) blocks) (length blocks)) refl
          (sym (ap (first_by q blocks) g) ∙ f),
    )

abbrev codes_of : List Block → List ℕ
codes_of blocks = map (λ (b : Block). code_of b.name) blocks

apart : (called : BlockName) → IsBlockNumber called → (blocks : List Block) → All IsAcceptedBlock blocks → block_named called blocks ≡ None
    → AllByRecursion (λ c. (code_of called == c) ≡ false) (codes_of blocks)
apart called number [] good none = tt
apart called number (b ∷ blocks) good none =
    let first = none_first (λ (x : Block). is_same_name x.name called) b blocks none in
    (by (code_of called == code_of b.name) refl first.0, apart called number blocks (All-tail IsAcceptedBlock b blocks good) first.1)
  where
    by : (t : Bool) → (code_of called == code_of b.name) ≡ t → is_same_name b.name called ≡ false → (code_of called == code_of b.name) ≡ false
    by false e other = e
    by true e other =
        let same : called ≡ b.name =
        same_code called b.name number (All-head IsAcceptedBlock b blocks good).number (eqb-true (code_of called) (code_of b.name) e) in
        let both : is_same_name b.name called ≡ true = ap (is_same_name b.name) same ∙ same_itself b.name in absurd cc

all_apart : (blocks : List Block) → All IsAcceptedBlock blocks → AreDistinct blocks → IsDistinct ◌==◌ (codes_of blocks)
all_apart [] good h = IsDistinct-from_apart ◌==◌ [] (λ i j d l m. absurd (omega (arith, m)))
all_apart (b ∷ blocks) good h =
    IsDistinct-cons ◌==◌ (code_of b.name) (codes_of blocks)
    (apart b.name (All-head IsAcceptedBlock b blocks good).number blocks (All-tail IsAcceptedBlock b blocks good) h.0)
    (all_apart blocks (All-tail IsAcceptedBlock b blocks good) h.1)

below : (blocks : List Block) → All IsAcceptedBlock blocks → (q : ℕ) → list_any (λ c. q == c) (codes_of blocks) ≡ true → q < 196608
below [] good q h = absurd cc
below (b ∷ blocks) good q h = by (below blocks (All-tail IsAcceptedBlock b blocks good) q) (q == code_of b.name) refl h
  where
    by : (list_any (λ c. q == c) (codes_of blocks) ≡ true → q < 196608) → (t : Bool)
        → (q == code_of b.name) ≡ t → (t || list_any (λ c. q == c) (codes_of blocks)) ≡ true → q < 196608
    by more true e f =
        subst (λ c. c < 196608) (sym (eqb-true q (code_of b.name) e)) (code_below b.name (All-head IsAcceptedBlock b blocks good).number)
    by more false e f = more f

pub few_blocks : (p : Program) → IsAccepted p → length p.blocks ≤ 196608
few_blocks p accepted =
    let few = length-le_from_distinct_below (codes_of p.blocks) 196608 (all_apart p.blocks accepted.blocks accepted.names) (below p.blocks accepted.blocks) in
    subst (λ n. n ≤ 196608) (length-map p.blocks (λ (b : Block). code_of b.name)) few
