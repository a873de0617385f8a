-- Blocks, exits and cuts of small bodies, by computing them.
use Rattle.std.proofs.Common.{◌≡◌, ◌<◌, ◌≤◌, ◌⊎◌, ℕ, zero, suc, Bool, true, false, List, [], ◌∷◌, ◌++◌, Some, length, map, refl, sym, subst, inl, inr, arith}
use Rattle.stl_tree.specs.Blocks.{AreBlocksOf, Extent, IsBlock, always, begins_at, instructions_of, on, one_of, stops, way_of}
use Rattle.stl_tree.specs.Segments.{AreCuts, IsCut, IsOneOf, JumpsTo, PassesOver, Ways, first}
use Rattle.stl_tree.specs.declared.program.Instr.{Instr}
use Rattle.stl_tree.specs.declared.program.JumpTest.TheVariants as jump
use Rattle.stl_tree.specs.declared.program.Op.{Op}
use Rattle.stl_tree.specs.declared.program.Op.TheVariants as op

-- a body with these instructions and its end word
abbrev body_of : List Op → List Instr
body_of ops = map (λ (o : Op). record { line = record { 0 = 3 }; op = o }) (ops ++ op.BlockEnd ∷ [])

abbrev ju : ℕ → Op
ju to = op.Jump jump.Always to

abbrev block_of : ℕ → ℕ → Extent
block_of from past = record { first = from; past = past }

abbrev ways_on : List ℕ → Bool → Ways
ways_on jumps falls = record { jumps = jumps; falls = falls }

-- JU z; JU a; n: NOP 0; a: NOP 0; z: NOP 0; has five blocks; none begins at the end word

abbrev five_blocks : List Instr
five_blocks = body_of (ju 4 ∷ ju 3 ∷ op.Nop ∷ op.Nop ∷ op.Nop ∷ [])

five_blocks_begin : map (begins_at five_blocks) (0 ∷ 1 ∷ 2 ∷ 3 ∷ 4 ∷ 5 ∷ []) ≡ true ∷ true ∷ true ∷ true ∷ true ∷ false ∷ []
five_blocks_begin = refl

-- a block of one instruction
single : (body : List Instr) (at : ℕ) → (suc at < length body → begins_at body (suc at) ≡ true) → suc at ≤ length body → IsBlock body at (block_of at (suc at))
single body at next within = record {
  first = refl;
  some = omega arith;
  inside = λ k a b. absurd (omega (arith, a, b));
  next = next;
  within = within;
}

five_blocks_are : AreBlocksOf five_blocks (block_of 0 1 ∷ block_of 1 2 ∷ block_of 2 3 ∷ block_of 3 4 ∷ block_of 4 6 ∷ [])
five_blocks_are = (
  single five_blocks 0 (λ h. refl) (omega arith),
  (
    single five_blocks 1 (λ h. refl) (omega arith),
    (
      single five_blocks 2 (λ h. refl) (omega arith),
      (
        single five_blocks 3 (λ h. refl) (omega arith),
        (
          record {
            first = refl;
            some = omega arith;
            inside = λ k a b. let e : 5 ≡ k = omega (arith, a, b) in subst (λ n. begins_at five_blocks n ≡ false) e refl;
            next = λ h. absurd (omega (arith, h));
            within = omega arith;
          },
          refl,
        ),
      ),
    ),
  ),
)

-- BEU; a: NOP 0; JU a; where no path leads to a, its jump counts nothing, and each block is a segment

abbrev after_end : List Instr
after_end = body_of (op.BlockEnd ∷ op.Nop ∷ ju 1 ∷ [])

after_end_begins : map (begins_at after_end) (0 ∷ 1 ∷ 2 ∷ 3 ∷ []) ≡ true ∷ true ∷ false ∷ true ∷ []
after_end_begins = refl

after_end_ways : map (λ (block : Extent). way_of (instructions_of after_end block)) (block_of 0 1 ∷ block_of 1 3 ∷ block_of 3 4 ∷ [])
    ≡ stops ∷ always 1 ∷ stops ∷ []
after_end_ways = refl

abbrev three_blocks : List Ways
three_blocks = ways_on [] false ∷ ways_on (1 ∷ []) false ∷ ways_on [] false ∷ []

same_ways : (w ways : Ways) (t : ℕ) → Some w ≡ Some ways → IsOneOf t ways.jumps → IsOneOf t w.jumps
same_ways w ways t e o = let f : w ≡ ways = cc in subst (λ (v : Ways). IsOneOf t v.jumps) (sym f) o

no_jump_passes : (s t q : ℕ) → JumpsTo three_blocks s t → PassesOver s t q → ⊥
no_jump_passes zero t q j p = absurd (same_ways (ways_on [] false) j.0 t j.1 j.2)
no_jump_passes (suc zero) t q j p = by (same_ways (ways_on (1 ∷ []) false) j.0 t j.1 j.2) p
  where
    by : (t ≡ 1) ⊎ ⊥ → PassesOver 1 t q → ⊥
    by (inl e) (inl h) = omega (arith, e, h.0, h.1)
    by (inl e) (inr h) = omega (arith, e, h.0, h.1)
    by (inr n) h = n
no_jump_passes (suc (suc zero)) t q j p = absurd (same_ways (ways_on [] false) j.0 t j.1 j.2)
no_jump_passes (suc (suc (suc s))) t q j p = cc

three_cuts : AreCuts three_blocks (0 ∷ 1 ∷ 2 ∷ [])
three_cuts = record {
  ascending = (omega arith, (omega arith, tt));
  each = λ q o. record { there = within q o; free = λ s t r j p. no_jump_passes s t q j p };
  all = λ q cut. one_of_three q cut.there;
}
  where
    within : (q : ℕ) → IsOneOf q (0 ∷ 1 ∷ 2 ∷ []) → q < 3
    within q (inl e) = omega (arith, e)
    within q (inr (inl e)) = omega (arith, e)
    within q (inr (inr (inl e))) = omega (arith, e)
    within q (inr (inr (inr n))) = absurd n

    one_of_three : (q : ℕ) → q < 3 → IsOneOf q (0 ∷ 1 ∷ 2 ∷ [])
    one_of_three zero h = inl refl
    one_of_three (suc zero) h = inr (inl refl)
    one_of_three (suc (suc zero)) h = inr (inr (inl refl))
    one_of_three (suc (suc (suc q))) h = absurd (omega (arith, h))

-- JU z; a: NOP 0; JU a; z: NOP 0; where JU z passes over the block of a, which is in the segment before it

abbrev over_loop : List Instr
over_loop = body_of (ju 3 ∷ op.Nop ∷ ju 1 ∷ op.Nop ∷ [])

over_loop_begins : map (begins_at over_loop) (0 ∷ 1 ∷ 2 ∷ 3 ∷ 4 ∷ []) ≡ true ∷ true ∷ false ∷ true ∷ false ∷ []
over_loop_begins = refl

over_loop_ways : map (λ (block : Extent). way_of (instructions_of over_loop block)) (block_of 0 1 ∷ block_of 1 3 ∷ block_of 3 5 ∷ [])
    ≡ always 3 ∷ always 1 ∷ stops ∷ []
over_loop_ways = refl

abbrev over_loop_blocks : List Ways
over_loop_blocks = ways_on (2 ∷ []) false ∷ ways_on (1 ∷ []) false ∷ ways_on [] false ∷ []

none_passes_two : (s t : ℕ) → JumpsTo over_loop_blocks s t → PassesOver s t 2 → ⊥
none_passes_two zero t j p = by (same_ways (ways_on (2 ∷ []) false) j.0 t j.1 j.2) p
  where
    by : (t ≡ 2) ⊎ ⊥ → PassesOver 0 t 2 → ⊥
    by (inl e) (inl h) = omega (arith, e, h.0, h.1)
    by (inl e) (inr h) = omega (arith, e, h.0, h.1)
    by (inr n) h = n
none_passes_two (suc zero) t j p = by (same_ways (ways_on (1 ∷ []) false) j.0 t j.1 j.2) p
  where
    by : (t ≡ 1) ⊎ ⊥ → PassesOver 1 t 2 → ⊥
    by (inl e) (inl h) = omega (arith, e, h.0, h.1)
    by (inl e) (inr h) = omega (arith, e, h.0, h.1)
    by (inr n) h = n
none_passes_two (suc (suc zero)) t j p = absurd (same_ways (ways_on [] false) j.0 t j.1 j.2)
none_passes_two (suc (suc (suc s))) t j p = cc

over_loop_cuts : AreCuts over_loop_blocks (0 ∷ 2 ∷ [])
over_loop_cuts = record {
  ascending = (omega arith, tt);
  each = cut;
  all = λ q c. found q c;
}
  where
    at_first : (s t : ℕ) → PassesOver s t 0 → ⊥
    at_first s t (inl h) = omega (arith, h.0)
    at_first s t (inr h) = omega (arith, h.0)

    cut : (q : ℕ) → IsOneOf q (0 ∷ 2 ∷ []) → IsCut over_loop_blocks q
    cut q (inl e) = subst (IsCut over_loop_blocks) (sym e) (record { there = omega arith; free = λ s t r j p. at_first s t p })
    cut q (inr (inl e)) = subst (IsCut over_loop_blocks) (sym e) (record { there = omega arith; free = λ s t r j p. none_passes_two s t j p })
    cut q (inr (inr n)) = absurd n

    found : (q : ℕ) → IsCut over_loop_blocks q → IsOneOf q (0 ∷ 2 ∷ [])
    found zero c = inl refl
    found (suc zero) c = absurd (c.free 0 2 first (ways_on (2 ∷ []) false, refl, inl refl) (inl (omega arith, omega arith)))
    found (suc (suc zero)) c = inr (inl refl)
    found (suc (suc (suc q))) c = let h : suc (suc (suc q)) < 3 = c.there in absurd (omega (arith, h))

-- JL d; JU a; JU b; d: NOP 0; a: NOP 0; b: NOP 0; where the list is one block with its JU

abbrev with_list : List Instr
with_list = body_of (op.JumpList 2 3 ∷ ju 4 ∷ ju 5 ∷ op.Nop ∷ op.Nop ∷ op.Nop ∷ [])

with_list_begins : map (begins_at with_list) (0 ∷ 1 ∷ 2 ∷ 3 ∷ 4 ∷ 5 ∷ 6 ∷ []) ≡ true ∷ false ∷ false ∷ true ∷ true ∷ true ∷ false ∷ []
with_list_begins = refl

with_list_ways : map (λ (block : Extent). way_of (instructions_of with_list block)) (block_of 0 3 ∷ block_of 3 4 ∷ block_of 4 5 ∷ block_of 5 7 ∷ [])
    ≡ one_of (4 ∷ 5 ∷ []) 3 ∷ on ∷ on ∷ stops ∷ []
with_list_ways = refl
