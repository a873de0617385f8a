-- The component that a path names lies inside the declarations.
use Rattle.std.proofs.Common.{◌≡◌, ℕ, zero, suc, ◌+◌, ◌*◌, ◌%◌, ◌<◌, ◌≤◌, ℤ, List, [], ◌∷◌, Bool, true, false, if◌then◌else◌, Option, Some, None, refl, sym, subst, arith}
use Rattle.std.specs.Prelude.{IfSome, int_le, unsigned_abs, ◌-ℤ◌, option_and_then, option_map}
use Rattle.std.specs.Int.{next_multiple_of}
use Rattle.std.specs.List.{fold}
use Rattle.std.specs.Option.{option_or}
use Rattle.std.proofs.Math.Nat.{mul-le-mul_right}
use Rattle.std.proofs.lemmas.Bool.{and_parts}
use Rattle.std.proofs.lemmas.Int.{ints}
use Rattle.s7_base.specs.Tokens.{is_same_word}
use Rattle.stl_tree.specs.declared.raw.Declaration.{Declaration}
use Rattle.stl_tree.specs.declared.raw.DeclType.{DeclType}
use Rattle.stl_tree.specs.declared.raw.DeclType.TheOpen as T
use Rattle.stl_tree.specs.declared.raw.PathStep.{PathStep}
use Rattle.stl_tree.specs.declared.raw.PathStep.TheVariants as step
use Rattle.stl_rules.specs.Extents.{elements_in, end_of, end_of_all, end_of_sections, extent_of, even_extent, indices_in, place_behind, section_behind}
use Rattle.stl_rules.specs.Paths.{Placed, element_at, elements_before, named_by_path, is_index, named_behind, named_in, after_step, stepped_in, after_path}
use Rattle.stl_rules.specs.declared.layout.Extent.{Extent}
use Rattle.stl_rules.proofs.Ends.{IsEven, bit, byte, word, all_end_behind, all_moved, behind, whole}
use Rattle.stl_rules.proofs.Equations.{extent_array, extent_struct, step_array, step_date, step_elementary, step_struct}
use Rattle.stl_rules.proofs.TypeInduction.{every_type}

-- something of an extent stands at a multiple of its alignment, and ends where all ends or before
pub record Lies (end place : ℕ) (x : Extent) : Type 0 where
  pub multiple : place % x.alignment ≡ 0
  pub within : place + x.bits ≤ end

abbrev pub LiesIn : ℕ → Placed → Type 0
LiesIn end at = Lies end at.0 (extent_of at.1)

-- Names

at_multiple : (end a b : ℕ) → IsEven a b → next_multiple_of end a % a ≡ 0
at_multiple end a b bit = omega arith
at_multiple end a b (byte e) = omega arith
at_multiple end a b (word e) = omega arith

named_inside : (decls : List Declaration) (end : ℕ) (name : List ℕ) → IfSome (named_behind end decls name) (LiesIn (end_of_all end decls))
named_inside [] end name = tt
named_inside (d ∷ decls) end name = either (is_same_word d.name name) (named_inside decls (end_of end d) name)
  where
    here : Lies (end_of_all end (d ∷ decls)) (place_behind end (extent_of d.ty)) (extent_of d.ty)
    here = record {
      multiple = at_multiple end (extent_of d.ty).alignment (extent_of d.ty).bits (whole d.ty);
      within = all_end_behind (end_of end d) decls;
    }

    either : (b : Bool) → IfSome (named_behind (end_of end d) decls name) (LiesIn (end_of_all end (d ∷ decls)))
        → IfSome (if b then Some (place_behind end (extent_of d.ty), d.ty) else named_behind (end_of end d) decls name)
        (LiesIn (end_of_all end (d ∷ decls)))
    either true more = here
    either false more = more

-- Elements

-- elements before rows and one row more
abbrev counted_from : ℕ → List (ℤ × ℤ) → ℕ
counted_from rows bounds = fold (λ count dimension. count * indices_in dimension) rows bounds

counts_more : (bounds : List (ℤ × ℤ)) (a b : ℕ) → a ≤ b → counted_from a bounds ≤ counted_from b bounds
counts_more [] a b h = h
counts_more (x ∷ bounds) a b h = counts_more bounds (a * indices_in x) (b * indices_in x) (mul-le-mul_right (indices_in x) h)

below : (low high i : ℤ) → int_le low i ≡ true → int_le i high ≡ true → unsigned_abs (i -ℤ low) < indices_in (low, high)
below low high i f g = grind (arith, ints)

before_all : (bounds : List (ℤ × ℤ)) (indices : List ℤ) (rows : ℕ) → IfSome (elements_before rows bounds indices) (λ k. k + 1 ≤ counted_from (rows + 1) bounds)
before_all [] [] rows = omega arith
before_all [] (i ∷ is) rows = tt
before_all (x ∷ more) [] rows = tt
before_all (x ∷ more) (i ∷ is) rows = either (is_index x i) refl (before_all more is (rows * indices_in x + unsigned_abs (i -ℤ x.0)))
  where
    next : ℕ
    next = rows * indices_in x + unsigned_abs (i -ℤ x.0)

    further : unsigned_abs (i -ℤ x.0) < indices_in x → (o : Option ℕ) → IfSome o (λ k. k + 1 ≤ counted_from (next + 1) more)
        → IfSome o (λ k. k + 1 ≤ counted_from (rows + 1) (x ∷ more))
    further h None l = tt
    further h (Some k) l =
        let product : (rows + 1) * indices_in x ≡ rows * indices_in x + indices_in x = omega arith in
        let up : counted_from (next + 1) more ≤ counted_from ((rows + 1) * indices_in x) more
        = counts_more more (next + 1) ((rows + 1) * indices_in x) (omega (arith, h, product)) in
        omega (arith, l, up)

    either : (b : Bool) → is_index x i ≡ b → IfSome (elements_before next more is) (λ k. k + 1 ≤ counted_from (next + 1) more)
        → IfSome (if b then elements_before next more is else None) (λ k. k + 1 ≤ counted_from (rows + 1) (x ∷ more))
    either true e l =
        let p = and_parts (int_le x.0 i) (int_le i x.1) e in
        further (below x.0 x.1 i p.0 p.1) (elements_before next more is) l
    either false e l = tt

whole_times : (k a b : ℕ) → IsEven a b → (k * b) % a ≡ 0
whole_times k a b bit = omega arith
whole_times k a b (byte e) = times k
  where
    times : (n : ℕ) → (n * b) % 8 ≡ 0
    times zero = omega arith
    times (suc n) = let h = times n in let one : suc n * b ≡ b + n * b = omega arith in omega (arith, h, one, e)
whole_times k a b (word e) = times k
  where
    times : (n : ℕ) → (n * b) % 16 ≡ 0
    times zero = omega arith
    times (suc n) = let h = times n in let one : suc n * b ≡ b + n * b = omega arith in omega (arith, h, one, e)

shifted : (place n a b : ℕ) → IsEven a b → place % 16 ≡ 0 → n % a ≡ 0 → (place + n) % a ≡ 0
shifted place n a b bit h e = omega arith
shifted place n a b (byte f) h e = omega (arith, h, e)
shifted place n a b (word f) h e = omega (arith, h, e)

element_inside : (end place : ℕ) (bounds : List (ℤ × ℤ)) (e : DeclType) (indices : List ℤ)
    → Lies end place (even_extent (elements_in bounds * (extent_of e).bits))
    → IfSome (element_at place bounds e indices) (LiesIn end)
element_inside end place bounds e indices h = by (elements_before 0 bounds indices) (before_all bounds indices 0)
  where
    bits : ℕ
    bits = (extent_of e).bits

    lies : (k : ℕ) → k + 1 ≤ elements_in bounds → LiesIn end (place + k * bits, e)
    lies k l =
        let room : (k + 1) * bits ≤ elements_in bounds * bits = mul-le-mul_right bits l in
        let one : (k + 1) * bits ≡ k * bits + bits = omega arith in
        let up = behind (elements_in bounds * bits) 16 in
        let within = h.within in
        record {
          multiple = shifted place (k * bits) (extent_of e).alignment bits (whole e) h.multiple (whole_times k (extent_of e).alignment bits (whole e));
          within = omega (arith, room, one, up, within);
        }

    by : (o : Option ℕ) → IfSome o (λ k. k + 1 ≤ counted_from (0 + 1) bounds) → IfSome (option_map (λ k. (place + k * bits, e)) o) (LiesIn end)
    by None l = tt
    by (Some k) l = lies k l

-- Steps

abbrev StepsInside : DeclType → Type 0
StepsInside ty = (end place : ℕ) (s : PathStep) → Lies end place (extent_of ty) → IfSome (after_step place ty s) (LiesIn end)

abbrev Inside : ℕ → Option Placed → Type 0
Inside end o = IfSome o (LiesIn end)

array_inside : (bounds : List (ℤ × ℤ)) (e : DeclType) (end place : ℕ) (s : PathStep)
    → Lies end place (even_extent (elements_in bounds * (extent_of e).bits)) → Inside end (stepped_in place (T.Array bounds e) s)
array_inside bounds e end place (step.Name name) h = tt
array_inside bounds e end place (step.Index indices) h = element_inside end place bounds e indices h

wider : (a b : ℕ) (o : Option Placed) → a ≤ b → Inside a o → Inside b o
wider a b None h l = tt
wider a b (Some at) h l = let within = l.within in record { multiple = l.multiple; within = omega (arith, h, within) }

struct_inside : (parts : List Declaration) (end place : ℕ) (s : PathStep) → Lies end place (even_extent (end_of_all 0 parts))
    → Inside end (stepped_in place (T.Struct parts) s)
struct_inside parts end place (step.Name name) h =
    let all : end_of_all (place + 0) parts ≡ place + end_of_all 0 parts = all_moved place 0 parts h.multiple in
    let up = behind (end_of_all 0 parts) 16 in
    let within = h.within in
    let same : end_of_all place parts ≡ place + end_of_all 0 parts = subst (λ n. end_of_all n parts ≡ place + end_of_all 0 parts) (omega arith) all in
    wider (end_of_all place parts) end (named_behind place parts name) (omega (arith, same, up, within)) (named_inside parts place name)
struct_inside parts end place (step.Index indices) h = tt

step_inside : (ty : DeclType) → StepsInside ty
step_inside =
    every_type StepsInside (record {
      elementary = λ e end place s h. subst (Inside end) (sym (step_elementary place e s)) tt;
      date = λ end place s h. subst (Inside end) (sym (step_date place s)) tt;
      array = λ bounds e p end place s h.
          subst (Inside end) (sym (step_array place bounds e s))
          (array_inside bounds e end place s (subst (Lies end place) (extent_array bounds e) h));
      struct = λ parts p end place s h.
          subst (Inside end) (sym (step_struct place parts s))
          (struct_inside parts end place s (subst (Lies end place) (extent_struct parts) h));
    })

walk_inside : (path : List PathStep) (end : ℕ) (at : Placed) → LiesIn end at → Inside end (after_path path at)
walk_inside [] end at h = h
walk_inside (s ∷ path) end at h = further (λ x l. walk_inside path end x l) (after_step at.0 at.1 s) (step_inside at.1 end at.0 s h)
  where
    further : ((x : Placed) → LiesIn end x → Inside end (after_path path x)) → (o : Option Placed) → Inside end o
        → Inside end (option_and_then (after_path path) o)
    further more None l = tt
    further more (Some x) l = more x l

-- what a path names lies inside the declarations
pub found_inside : (decls : List Declaration) (path : List PathStep) → IfSome (named_by_path (decls ∷ []) path) (LiesIn (end_of_all 0 decls))
found_inside decls [] = tt
found_inside decls (step.Name name ∷ path) = further (named_behind 0 decls name) (named_inside decls 0 name)
  where
    further : (o : Option Placed) → Inside (end_of_all 0 decls) o
        → Inside (end_of_all 0 decls) (option_and_then (after_path path) (option_or o None))
    further None l = tt
    further (Some at) l = walk_inside path (end_of_all 0 decls) at l
found_inside decls (step.Index indices ∷ path) = tt

-- Sections

sections_end_behind : (end : ℕ) (sections : List (List Declaration)) → end ≤ end_of_sections end sections
sections_end_behind end [] = omega arith
sections_end_behind end (s ∷ sections) =
    let up = behind end 16 in
    let own = all_end_behind (section_behind end) s in
    let more = sections_end_behind (end_of_all (section_behind end) s) sections in
    omega (arith, up, own, more)

named_in_inside : (sections : List (List Declaration)) (end : ℕ) (name : List ℕ) → Inside (end_of_sections end sections) (named_in end sections name)
named_in_inside [] end name = tt
named_in_inside (s ∷ sections) end name =
    by (named_behind (section_behind end) s name)
    (wider (end_of_all (section_behind end) s) (end_of_sections (end_of_all (section_behind end) s) sections) (named_behind (section_behind end) s name)
    (sections_end_behind (end_of_all (section_behind end) s) sections) (named_inside s (section_behind end) name))
    (named_in_inside sections (end_of_all (section_behind end) s) name)
  where
    by : (o : Option Placed) → Inside (end_of_sections (end_of_all (section_behind end) s) sections) o
        → Inside (end_of_sections (end_of_all (section_behind end) s) sections) (named_in (end_of_all (section_behind end) s) sections name)
        → Inside (end_of_sections (end_of_all (section_behind end) s) sections) (option_or o (named_in (end_of_all (section_behind end) s) sections name))
    by None h more = more
    by (Some at) h more = h

-- what a path names lies inside the sections
pub found_in_sections : (sections : List (List Declaration)) (path : List PathStep) → IfSome (named_by_path sections path) (LiesIn (end_of_sections 0 sections))
found_in_sections sections [] = tt
found_in_sections sections (step.Name name ∷ path) = further (named_in 0 sections name) (named_in_inside sections 0 name)
  where
    further : (o : Option Placed) → Inside (end_of_sections 0 sections) o → Inside (end_of_sections 0 sections) (option_and_then (after_path path) o)
    further None l = tt
    further (Some at) l = walk_inside path (end_of_sections 0 sections) at l
found_in_sections sections (step.Index indices ∷ path) = tt
