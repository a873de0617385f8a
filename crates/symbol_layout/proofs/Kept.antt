-- Places that are kept within the most bits, along declarations, indices and paths.
use Rattle.std.specs.Prelude.{◌≡◌, ℕ, ◌+◌, ◌*◌, ℤ, ◌-ℤ◌, unsigned_abs, Bool, true, false, cond, List, [], ◌∷◌, Option, Some, None, option_and_then, option_map}
use Rattle.std.proofs.Common.{refl, sym, ap, ◌∙◌, subst, arith}
use Rattle.s7_base.specs.Tokens.{is_same_word}
use Rattle.s7_base.specs.declared.word.Width.{Width}
use Rattle.s7_base.specs.declared.word.Width.TheVariants as width
use Rattle.stl_tree.specs.declared.raw.Declaration.{Declaration, fold-Declaration}
use Rattle.stl_tree.specs.declared.raw.DeclType.{DeclType, fold-roll-DeclType, map-DeclType, out-DeclType, roll-out-DeclType}
use Rattle.stl_tree.specs.declared.raw.DeclType.TheOpen as T
use Rattle.stl_tree.specs.declared.raw.PathStep.{PathStep}
use Rattle.stl_tree.specs.declared.raw.PathStep.TheVariants as step
use Rattle.symbol_layout.proofs.Capped.{capped_end, capped_place, capped_product}
use Rattle.stl_rules.proofs.Equations.{own_type}
use Rattle.stl_rules.specs.Extents.{end_behind, end_of, extent_of, extent_of_width, extent_step, indices_in, place_behind, width_of}
use Rattle.stl_rules.specs.Paths.{Placed, elements_before, is_index, named_behind, after_step, stepped_in, after_path}
use Rattle.stl_rules.specs.declared.layout.Extent.{Extent}
use Rattle.symbol_layout.specs.Kept.{IsAlignment, capped_bits, capped_extent, capped_placed}

-- Each type has an alignment

by_width : (w : Width) → IsAlignment (extent_of_width w).alignment
by_width width.Bit = (omega arith, omega arith, refl)
by_width width.Byte = (omega arith, omega arith, refl)
by_width width.Word = (omega arith, omega arith, refl)
by_width width.Dword = (omega arith, omega arith, refl)

abbrev sized : T.DeclType-F DeclType Declaration → T.DeclType-F Extent Extent
sized y = map-DeclType DeclType Declaration Extent Extent extent_of (fold-Declaration Extent Extent extent_step own_type) y

by_form : (y : T.DeclType-F DeclType Declaration) → IsAlignment (extent_step (sized y)).alignment
by_form (T.Elementary e) = by_width (width_of e)
by_form T.DateAndTime = (omega arith, omega arith, refl)
by_form (T.Array bounds e) = (omega arith, omega arith, refl)
by_form (T.Struct parts) = (omega arith, omega arith, refl)

pub is_aligned : (ty : DeclType) → IsAlignment (extent_of ty).alignment
is_aligned ty =
    subst (λ (x : Extent). IsAlignment x.alignment)
    (sym (ap extent_of (sym (roll-out-DeclType ty)) ∙ fold-roll-DeclType Extent Extent extent_step own_type (out-DeclType ty)))
    (by_form (out-DeclType ty))

-- Along declarations

pub capped_twice : (n : ℕ) → capped_bits (capped_bits n) ≡ capped_bits n
capped_twice n = omega arith

place_kept : (n : ℕ) (ty : DeclType) → capped_bits (place_behind (capped_bits n) (extent_of ty)) ≡ capped_bits (place_behind n (extent_of ty))
place_kept n ty =
    ap capped_bits (sym (capped_place n (extent_of ty).alignment (is_aligned ty))) ∙ capped_twice (place_behind n (extent_of ty))

pub end_kept : (n : ℕ) (ty : DeclType) → capped_bits (end_behind (capped_bits n) (extent_of ty)) ≡ capped_bits (end_behind n (extent_of ty))
end_kept n ty =
    sym (capped_end (capped_bits n) (extent_of ty) (is_aligned ty))
    ∙ ap (λ k. capped_bits (end_behind k (capped_extent (extent_of ty)))) (capped_twice n)
    ∙ capped_end n (extent_of ty) (is_aligned ty)

pub kept_named : (decls : List Declaration) (name : List ℕ) (n : ℕ)
    → capped_placed (named_behind (capped_bits n) decls name) ≡ capped_placed (named_behind n decls name)
kept_named [] name n = refl
kept_named (d ∷ decls) name n =
    either (is_same_word d.name name)
    (sym (kept_named decls name (end_of (capped_bits n) d))
    ∙ ap (λ k. capped_placed (named_behind k decls name)) (end_kept n d.ty)
    ∙ kept_named decls name (end_of n d))
  where
    either : (b : Bool)
        → capped_placed (named_behind (end_of (capped_bits n) d) decls name) ≡ capped_placed (named_behind (end_of n d) decls name)
        → capped_placed (cond b (Some (place_behind (capped_bits n) (extent_of d.ty), d.ty)) (named_behind (end_of (capped_bits n) d) decls name))
        ≡ capped_placed (cond b (Some (place_behind n (extent_of d.ty), d.ty)) (named_behind (end_of n d) decls name))
    either true more = ap (λ k. Some (k, d.ty)) (place_kept n d.ty)
    either false more = more

-- Along indices

pub rows_kept : (rows count inner : ℕ) → capped_bits (capped_bits (rows * capped_bits count) + inner) ≡ capped_bits (rows * count + inner)
rows_kept rows count inner =
    let twice : capped_bits (rows * capped_bits count) ≡ capped_bits (rows * count)
    = sym (capped_product rows (capped_bits count)) ∙ ap (λ k. capped_bits (capped_bits rows * k)) (capped_twice count) ∙ capped_product rows count in
    omega (arith, twice)

one_row : (rows count inner : ℕ) → capped_bits (capped_bits rows * count + inner) ≡ capped_bits (rows * count + inner)
one_row rows count inner =
    let twice : capped_bits (capped_bits rows * count) ≡ capped_bits (rows * count)
    = sym (capped_product (capped_bits rows) count) ∙ ap (λ k. capped_bits (k * capped_bits count)) (capped_twice rows) ∙ capped_product rows count in
    omega (arith, twice)

pub kept_elements : (bounds : List (ℤ × ℤ)) (indices : List ℤ) (rows : ℕ)
    → option_map capped_bits (elements_before (capped_bits rows) bounds indices) ≡ option_map capped_bits (elements_before rows bounds indices)
kept_elements [] [] rows = ap Some (capped_twice rows)
kept_elements [] (i ∷ is) rows = refl
kept_elements (b ∷ more) [] rows = refl
kept_elements (b ∷ more) (i ∷ is) rows =
    either (is_index b i)
    (sym (kept_elements more is (capped_bits rows * indices_in b + unsigned_abs (i -ℤ b.0)))
    ∙ ap (λ k. option_map capped_bits (elements_before k more is)) (one_row rows (indices_in b) (unsigned_abs (i -ℤ b.0)))
    ∙ kept_elements more is (rows * indices_in b + unsigned_abs (i -ℤ b.0)))
  where
    either : (t : Bool)
        → option_map capped_bits (elements_before (capped_bits rows * indices_in b + unsigned_abs (i -ℤ b.0)) more is)
        ≡ option_map capped_bits (elements_before (rows * indices_in b + unsigned_abs (i -ℤ b.0)) more is)
        → option_map capped_bits (cond t (elements_before (capped_bits rows * indices_in b + unsigned_abs (i -ℤ b.0)) more is) None)
        ≡ option_map capped_bits (cond t (elements_before (rows * indices_in b + unsigned_abs (i -ℤ b.0)) more is) None)
    either true e = e
    either false e = refl

-- Along paths

pub kept_element : (place before bits : ℕ) → capped_bits (place + capped_bits (capped_bits before * capped_bits bits)) ≡ capped_bits (place + before * bits)
kept_element place before bits =
    let product : capped_bits (capped_bits before * capped_bits bits) ≡ capped_bits (before * bits) = capped_product before bits in
    omega (arith, product)

element_kept : (place bits : ℕ) (e : DeclType) (before : Option ℕ)
    → capped_placed (option_map (λ k. (capped_bits place + k * bits, e)) before) ≡ capped_placed (option_map (λ k. (place + k * bits, e)) before)
element_kept place bits e None = refl
element_kept place bits e (Some k) =
    let same : capped_bits (capped_bits place + k * bits) ≡ capped_bits (place + k * bits) = omega arith in
    ap (λ n. Some (n, e)) same

stepped_kept : (n : ℕ) (y : T.DeclType-F DeclType Declaration) (s : PathStep)
    → capped_placed (stepped_in (capped_bits n) y s) ≡ capped_placed (stepped_in n y s)
stepped_kept n (T.Elementary e) s = refl
stepped_kept n T.DateAndTime s = refl
stepped_kept n (T.Array bounds e) (step.Name name) = refl
stepped_kept n (T.Array bounds e) (step.Index indices) = element_kept n (extent_of e).bits e (elements_before 0 bounds indices)
stepped_kept n (T.Struct parts) (step.Name name) = kept_named parts name n
stepped_kept n (T.Struct parts) (step.Index indices) = refl

pub kept_walked : (path : List PathStep) (n : ℕ) (ty : DeclType)
    → capped_placed (after_path path (capped_bits n, ty)) ≡ capped_placed (after_path path (n, ty))
kept_walked [] n ty = ap (λ k. Some (k, ty)) (capped_twice n)
kept_walked (s ∷ path) n ty =
    further (λ k t. kept_walked path k t) (after_step (capped_bits n) ty s) (after_step n ty s) (stepped_kept n (out-DeclType ty) s)
  where
    further : ((k : ℕ) (t : DeclType) → capped_placed (after_path path (capped_bits k, t)) ≡ capped_placed (after_path path (k, t)))
        → (a b : Option Placed) → capped_placed a ≡ capped_placed b
        → capped_placed (option_and_then (after_path path) a) ≡ capped_placed (option_and_then (after_path path) b)
    further more None None e = refl
    further more None (Some b) e = cc
    further more (Some a) None e = cc
    further more (Some a) (Some b) e =
        sym (more a.0 a.1)
        ∙ ap (λ (o : Option Placed). capped_placed (option_and_then (after_path path) o)) e
        ∙ more b.0 b.1
