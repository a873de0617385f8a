-- The units that are made of some blocks at the front of the order, and of one more.
use Rattle.std.proofs.Common.{◌≡◌, ℕ, zero, suc, ◌+◌, ◌<◌, ◌≤◌, Bor, List, [], ◌∷◌, ◌++◌, drop, length, take, Option, Some, None, Result, Ok, Err, refl, sym, ap, subst, ◌∙◌, arith}
use Rattle.std.specs.Prelude.{All, IfOk, slice_get}
use Rattle.std.specs.Slice.{IsItemAt}
use Rattle.std.proofs.lemmas.List.Elements.{All-get_or}
use Rattle.std.proofs.lemmas.Option.{get_or_from_slice_get, slice_get_past, slice_get_read, slice_get_within}
use Rattle.instruction_lowering.proofs.PositionLaws.{first_left, none_left}
use Rattle.instruction_lowering.specs.inner.Lowering.{AreFew, AreMadeOf, IsFew, IsMadeOf}
use Rattle.instruction_lowering.specs.inner.UnitOrder.{AreBlocksAt}
use Rattle.stl_tree.specs.Accepted.{IsAcceptedBlock}
use Rattle.st_tree.specs.declared.graph.GraphPou.{GraphPou}
use Rattle.stl_tree.specs.declared.program.Block.{Block}

-- what stands at a position that is read
pub read_there : {X : Type 0} (xs : List X) (i : ℕ) (b : Bor X) → IsItemAt xs i (Some b) → slice_get xs i ≡ Some b.now
read_there xs i b h = slice_get_read xs (length xs) i b.now refl h.3.0 h.1

read_past : {X : Type 0} (xs : List X) (i : ℕ) → IsItemAt xs i None → slice_get xs i ≡ None
read_past xs i h = slice_get_past xs i h.3

pub accepted_at : (blocks : List Block) (i : ℕ) (b : Block) → All IsAcceptedBlock blocks → slice_get blocks i ≡ Some b → IsAcceptedBlock b
accepted_at blocks i b all e =
    subst IsAcceptedBlock (get_or_from_slice_get blocks i b b e) (All-get_or IsAcceptedBlock blocks i b (slice_get_within blocks i b e) all)

longer : (units : List GraphPou) (unit : GraphPou) → length (units ++ unit ∷ []) ≡ suc (length units)
longer [] unit = refl
longer (u ∷ units) unit = ap suc (longer units unit)

module _ (program : List Block) where
  -- one more block
  few_next : (blocks : List Block) (i : ℕ) (b : Block) → AreFew program (take i blocks) → slice_get blocks i ≡ Some b → IsFew program b
      → AreFew program (take (suc i) blocks)
  few_next [] i b all there few = cc
  few_next (x ∷ rest) zero b all there few = let same : x ≡ b = cc in (subst (IsFew program) (sym same) few, tt)
  few_next (x ∷ rest) (suc i) b all there few = (all.0, few_next rest i b all.1 there few)

  made_next : (blocks : List Block) (i : ℕ) (b : Block) (units : List GraphPou) (unit : GraphPou) → AreMadeOf program (take i blocks) units
      → slice_get blocks i ≡ Some b → IsMadeOf program b unit → AreMadeOf program (take (suc i) blocks) (units ++ unit ∷ [])
  made_next [] i b units unit made there one = cc
  made_next (x ∷ rest) zero b [] unit made there one = let same : x ≡ b = cc in (subst (λ (y : Block). IsMadeOf program y unit) (sym same) one, tt)
  made_next (x ∷ rest) zero b (u ∷ units) unit made there one = elim made [ ]
  made_next (x ∷ rest) (suc i) b [] unit made there one = elim made [ ]
  made_next (x ∷ rest) (suc i) b (u ∷ units) unit made there one = (made.0, made_next rest i b units unit made.1 there one)

  -- all of them
  all_few : (blocks : List Block) (i : ℕ) → length blocks ≤ i → AreFew program (take i blocks) → AreFew program blocks
  all_few [] i h few = tt
  all_few (x ∷ rest) zero h few = absurd (omega arith)
  all_few (x ∷ rest) (suc i) h few = (few.0, all_few rest i (omega arith) few.1)

  all_made : (blocks : List Block) (i : ℕ) (units : List GraphPou) → length blocks ≤ i → AreMadeOf program (take i blocks) units
      → AreMadeOf program blocks units
  all_made [] zero units h made = made
  all_made [] (suc i) units h made = made
  all_made (x ∷ rest) zero units h made = absurd (omega arith)
  all_made (x ∷ rest) (suc i) [] h made = elim made [ ]
  all_made (x ∷ rest) (suc i) (u ∷ units) h made = (made.0, all_made rest i units (omega arith) made.1)

  -- so many units are made of the first blocks of an order, and the others stand at the positions that are left
  abbrev pub AreMadeSoFar : List Block → List GraphPou → List ℕ → Type 0
  AreMadeSoFar order units rest =
      AreMadeOf program (take (length units) order) units × AreFew program (take (length units) order)
      × AreBlocksAt program rest (drop (length units) order)

  pub none_made : (order : List Block) (units : List GraphPou) (rest : List ℕ) → units ≡ [] → AreBlocksAt program rest order
      → AreMadeSoFar order units rest
  none_made order units rest e are = subst (λ (us : List GraphPou). AreMadeSoFar order us rest) (sym e) (none order are)
    where
      none : (order : List Block) → AreBlocksAt program rest order → AreMadeSoFar order [] rest
      none [] are = (tt, tt, are)
      none (b ∷ order) are = (tt, tt, are)

  pub one_more_made : (order : List Block) (units more : List GraphPou) (unit : GraphPou) (rest behind : List ℕ) (position : ℕ) (b : Block)
      → AreMadeSoFar order units rest → rest ≡ position ∷ behind → slice_get program position ≡ Some b → IsMadeOf program b unit → IsFew program b
      → more ≡ units ++ unit ∷ [] → AreMadeSoFar order more behind
  one_more_made order units more unit rest behind position b made e there one few f =
      let n : ℕ = length units in
      let left = first_left program position behind order n (subst (λ (ps : List ℕ). AreBlocksAt program ps (drop n order)) e made.2) in
      let same : slice_get order n ≡ Some b = left.2 ∙ sym left.1 ∙ there in
      let grown : length (units ++ unit ∷ []) ≡ suc n = longer units unit in
      subst (λ (us : List GraphPou). AreMadeSoFar order us behind) (sym f)
      (subst (λ (k : ℕ). AreMadeOf program (take k order) (units ++ unit ∷ []) × AreFew program (take k order) × AreBlocksAt program behind (drop k order))
      (sym grown) (made_next order n b units unit made.0 same one, few_next order n b made.1 same few, left.3))

  -- at each position that is left stands a block
  pub none_missing : (order : List Block) (units : List GraphPou) (rest behind : List ℕ) (position : ℕ) → AreMadeSoFar order units rest
      → rest ≡ position ∷ behind → IsItemAt program position None → ⊥
  none_missing order units rest behind position made e missing =
      let n : ℕ = length units in
      let left = first_left program position behind order n (subst (λ (ps : List ℕ). AreBlocksAt program ps (drop n order)) e made.2) in
      nothing left.0 (sym (read_past program position missing) ∙ left.1)
    where
      nothing : (b : Block) → None ≡ Some b → ⊥
      nothing b e = cc

  pub all_are_made : (order : List Block) (units : List GraphPou) (rest : List ℕ) → AreMadeSoFar order units rest → rest ≡ []
      → AreMadeOf program order units × AreFew program order
  all_are_made order units rest made e =
      let n : ℕ = length units in
      let long : length order ≤ n = none_left program order n (subst (λ (ps : List ℕ). AreBlocksAt program ps (drop n order)) e made.2) in
      (all_made order n units long made.0, all_few order n long made.1)

-- what follows from what is said of an answer
pub weaker_ok : {T E : Type 0} (r : Result T E) (P Q : T → Type 0) → ((x : T) → P x → Q x) → IfOk r P → IfOk r Q
weaker_ok (Ok x) P Q more h = more x h
weaker_ok (Err e) P Q more h = h
