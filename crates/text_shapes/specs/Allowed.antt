-- What the blocks of a unit allow its statements to be: a segment that is well nested its loops, any other one a
-- dispatch loop with an arm for each of its blocks.
-- Held against: this project's own readable texts.
use Rattle.std.specs.Prelude.{◌≡◌, ◌⊎◌, ℕ, suc, ◌+◌, List, [], ◌∷◌, length}
use Rattle.stl_tree.specs.Segments.{AreCuts}
use Rattle.stl_tree.specs.Flows.{AreHeads, AreSegmentsFrom, Flow, Segment, blocks_of}
use Rattle.stl_tree.specs.WellNested.{IsWellNested}

-- Segments

-- the segments of a body, in their order; the first begins at its first block
abbrev pub AreSegmentsOf : Flow → List Segment → Type 0
AreSegmentsOf flow segments =
    (cuts : List ℕ) × AreCuts (blocks_of flow) (0 ∷ cuts) × AreSegmentsFrom flow 0 cuts segments

-- segments are among others, in their order
abbrev pub AreAmong : List Segment → List Segment → Type 0
AreAmong [] others = Unit {0}
AreAmong (g ∷ gs) [] = ⊥
AreAmong (g ∷ gs) (h ∷ hs) = ((g ≡ h) × AreAmong gs hs) ⊎ AreAmong (g ∷ gs) hs

-- Judgements

-- what is known of a segment: it is well nested, and has so many loops; or it is not, and has so many blocks
pub data Judgement : Type 0 where
  nested : ℕ → Judgement
  crossed : ℕ → Judgement

abbrev pub IsJudged : Segment → Judgement → Type 0
IsJudged g (nested loops) = IsWellNested g × (heads : List ℕ) × AreHeads g heads × (length heads ≡ loops)
IsJudged g (crossed blocks) = (IsWellNested g → ⊥) × (g.first + blocks ≡ g.past)

-- what is known of each of some segments
abbrev pub AreJudged : List Segment → List Judgement → Type 0
AreJudged [] [] = Unit {0}
AreJudged [] (j ∷ js) = ⊥
AreJudged (g ∷ gs) [] = ⊥
AreJudged (g ∷ gs) (j ∷ js) = IsJudged g j × AreJudged gs js

-- Bounds

-- the WHILE statements that segments allow: one for each loop of a segment that is well nested, and for each other
-- segment
abbrev pub loops_allowed : List Judgement → ℕ
loops_allowed [] = 0
loops_allowed (nested loops ∷ rest) = loops + loops_allowed rest
loops_allowed (crossed blocks ∷ rest) = suc (loops_allowed rest)

-- the CASE statements over the selector that they allow: one for each segment that is not well nested
abbrev pub selectors_allowed : List Judgement → ℕ
selectors_allowed [] = 0
selectors_allowed (nested loops ∷ rest) = selectors_allowed rest
selectors_allowed (crossed blocks ∷ rest) = suc (selectors_allowed rest)

-- the arms of these: one for each block of such a segment
abbrev pub arms_allowed : List Judgement → ℕ
arms_allowed [] = 0
arms_allowed (nested loops ∷ rest) = arms_allowed rest
arms_allowed (crossed blocks ∷ rest) = blocks + arms_allowed rest
