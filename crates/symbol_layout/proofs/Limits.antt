-- Lengths that are kept, held against a limit.
use Rattle.std.specs.Prelude.{◌≡◌, ℕ, ◌+◌, ◌/◌, ◌^◌, ◌≤◌, ◌<◌, Bool, true, false, cond, if◌then◌else◌, List, [], ◌∷◌, length, get_or, drop, Option, Some, None, ◌⊎◌}
use Rattle.std.specs.Int.{next_multiple_of}
use Rattle.std.specs.Option.{option_or}
use Rattle.std.proofs.Common.{refl, sym, ap, ◌∙◌, arith, subst}
use Rattle.std.proofs.Math.Logic.{inl, inr}
use Rattle.std.proofs.Math.Nat.{le_of_lt, min-eq_left, min-eq_right}
use Rattle.std.proofs.lemmas.Bool.{cases_lt}
use Rattle.std.proofs.lemmas.List.{at_drop_more}
use Rattle.s7_base.specs.declared.reason.Line.{Line}
use Rattle.stl_tree.specs.declared.raw.Declaration.{Declaration}
use Rattle.symbol_layout.proofs.Capped.{capped_end}
use Rattle.stl_rules.proofs.Equations.{inside_its_type}
use Rattle.symbol_layout.proofs.Places.{at_least}
use Rattle.stl_rules.specs.Extents.{IsLeast, end_behind, end_of, end_of_sections, extent_of, place_behind}
use Rattle.stl_rules.specs.Layouts.{length_of}
use Rattle.stl_rules.specs.TooLarge.{first_large, inside, length_to, passes}
use Rattle.symbol_layout.specs.Kept.{IsAlignment, capped_bits, capped_extent}
use Rattle.symbol_layout.specs.inner.Capped.{end_within}

-- what passes every limit
far : (limit n : ℕ) → limit < 2 ^ 32 → 2 ^ 60 ≤ n → passes limit n ≡ true
far limit n small h =
    let least : IsLeast 16 n (next_multiple_of n 16) = at_least n (record { alignment = 16; bits = 0 }) (omega arith) in
    let behind : n ≤ next_multiple_of n 16 = least.is_behind in
    grind (arith, small, h, behind)

judged : (limit n : ℕ) → limit < 2 ^ 32 → (n < 2 ^ 60) ⊎ (2 ^ 60 ≤ n)
    → (if passes limit (capped_bits n) then None else Some (capped_bits n)) ≡ (if passes limit n then None else Some n)
judged limit n small (inl h) = ap (λ m. if passes limit m then None else Some m) (min-eq_left (le_of_lt h))
judged limit n small (inr h) =
    ap (λ b. cond b None (Some (capped_bits n))) (far limit (capped_bits n) small (omega (arith, h)))
    ∙ sym (ap (λ b. cond b None (Some n)) (far limit n small h))

pub within : (limit end : ℕ) (d : Declaration) → limit < 2 ^ 32 → end ≤ 2 ^ 60 → IsAlignment (extent_of d.ty).alignment
    → (if passes limit (capped_bits (end_behind end (capped_extent (extent_of d.ty))))
    then None else Some (capped_bits (end_behind end (capped_extent (extent_of d.ty)))))
    ≡ end_within limit end d
within limit end d small low is =
    let kept : capped_bits (end_behind end (capped_extent (extent_of d.ty))) ≡ capped_bits (end_of end d)
    = ap (λ n. capped_bits (end_behind n (capped_extent (extent_of d.ty)))) (sym (min-eq_left low)) ∙ capped_end end (extent_of d.ty) is in
    ap (λ n. if passes limit n then None else Some n) kept ∙ judged limit (end_of end d) small (cases_lt (end_of end d) (2 ^ 60))

pub first_cons : (limit end : ℕ) (d : Declaration) (decls : List Declaration)
    → first_large limit end (d ∷ decls)
    ≡ option_or (inside limit d.ty (place_behind end (extent_of d.ty)))
    (if passes limit (end_of end d) then Some d.line else first_large limit (end_of end d) decls)
unfolding first_large
first_cons limit end d decls =
    ap (λ (o : Option Line). option_or o (if passes limit (end_of end d) then Some d.line else first_large limit (end_of end d) decls))
    (inside_its_type limit d (place_behind end (extent_of d.ty)))

-- One turn of a loop over declarations

module _ (limit start end i : ℕ) (decls : List Declaration) (d : Declaration) (before : i < length decls) (item : d ≡ get_or decls i d)
    (so_far : first_large limit end (drop i decls) ≡ first_large limit start decls) where
  abbrev rest : Option Line
  rest = first_large limit (end_of end d) (drop (i + 1) decls)

  turn : first_large limit start decls
      ≡ option_or (inside limit d.ty (place_behind end (extent_of d.ty))) (if passes limit (end_of end d) then Some d.line else rest)
  turn =
      sym so_far ∙ at_drop_more (first_large limit end) decls i d before
      ∙ ap (λ x. first_large limit end (x ∷ drop (i + 1) decls)) (sym item)
      ∙ first_cons limit end d (drop (i + 1) decls)

  pub large_inside : (line : Line) → inside limit d.ty (place_behind end (extent_of d.ty)) ≡ Some line
      → Some line ≡ first_large limit start decls
  large_inside line e = sym (turn ∙ ap (λ o. option_or o (if passes limit (end_of end d) then Some d.line else rest)) e)

  ended : (b : Bool) → cond b None (Some (end_of end d)) ≡ None → cond b (Some d.line) rest ≡ Some d.line
  ended true e = refl
  ended false e = cc

  went : (b : Bool) (next : ℕ) → cond b None (Some (end_of end d)) ≡ Some next
      → cond b (Some d.line) rest ≡ first_large limit next (drop (i + 1) decls)
  went true next e = cc
  went false next e = ap (λ n. first_large limit n (drop (i + 1) decls)) cc

  pub large_here : inside limit d.ty (place_behind end (extent_of d.ty)) ≡ None → end_within limit end d ≡ None
      → Some d.line ≡ first_large limit start decls
  large_here e w =
      sym (turn ∙ ap (λ o. option_or o (if passes limit (end_of end d) then Some d.line else rest)) e
      ∙ ended (passes limit (end_of end d)) w)

  pub goes_on : (next : ℕ) → inside limit d.ty (place_behind end (extent_of d.ty)) ≡ None → end_within limit end d ≡ Some next
      → first_large limit next (drop (i + 1) decls) ≡ first_large limit start decls
  goes_on next e w =
      sym (turn ∙ ap (λ o. option_or o (if passes limit (end_of end d) then Some d.line else rest)) e
      ∙ went (passes limit (end_of end d)) next w)

pub none_left : (limit start end i : ℕ) (decls : List Declaration) → drop i decls ≡ []
    → first_large limit end (drop i decls) ≡ first_large limit start decls → None ≡ first_large limit start decls
unfolding first_large
none_left limit start end i decls nothing so_far = sym (ap (first_large limit end) nothing) ∙ so_far

-- Lengths

pub capped_length : (sections : List (List Declaration)) → next_multiple_of (capped_bits (end_of_sections 0 sections)) 16 / 8 < 2 ^ 32
    → next_multiple_of (capped_bits (end_of_sections 0 sections)) 16 / 8 ≡ length_of sections
capped_length sections low = exact (end_of_sections 0 sections) (cases_lt (end_of_sections 0 sections) (2 ^ 60)) low
  where
    exact : (n : ℕ) → (n < 2 ^ 60) ⊎ (2 ^ 60 ≤ n) → next_multiple_of (capped_bits n) 16 / 8 < 2 ^ 32
        → next_multiple_of (capped_bits n) 16 / 8 ≡ length_to n
    exact n (inl h) l = ap length_to (min-eq_left (le_of_lt h))
    exact n (inr h) l =
        let top : capped_bits n ≡ 2 ^ 60 = min-eq_right h in
        let whole : next_multiple_of (2 ^ 60) 16 / 8 < 2 ^ 32 = subst (λ k. next_multiple_of k 16 / 8 < 2 ^ 32) top l in
        omega (arith, whole)
