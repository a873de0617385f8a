-- Where types begin and end: at multiples of their alignments, one behind the other.
use Rattle.std.proofs.Common.{◌≡◌, ℕ, ◌+◌, ◌%◌, ◌≤◌, List, [], ◌∷◌, Option, Some, None, refl, sym, ap, subst, ◌∙◌, arith}
use Rattle.std.specs.Int.{next_multiple_of}
use Rattle.s7_base.specs.declared.word.Width.{Width}
use Rattle.s7_base.specs.declared.word.Width.TheVariants as width
use Rattle.stl_tree.specs.declared.raw.Declaration.{Declaration}
use Rattle.stl_tree.specs.declared.raw.DeclType.{DeclType}
use Rattle.stl_tree.specs.declared.raw.DeclType.TheVariants as type
use Rattle.stl_tree.specs.declared.raw.ElemType.{ElemType}
use Rattle.stl_rules.specs.DeclarationRules.{elementary}
use Rattle.stl_rules.specs.Extents.{end_of, end_of_all, extent_of, extent_of_width, width_of}
use Rattle.stl_rules.specs.declared.layout.Extent.{Extent}
use Rattle.stl_rules.proofs.Equations.{elementary_of_array, elementary_of_date, elementary_of_elementary, elementary_of_struct, extent_array, extent_date, extent_elementary, extent_struct}
use Rattle.stl_rules.proofs.TypeInduction.{every_type}

-- an alignment, and a length that is a multiple of it
pub data IsEven : ℕ → ℕ → Type 0 where
  bit : {bits : ℕ} → IsEven 1 bits
  byte : {bits : ℕ} → bits % 8 ≡ 0 → IsEven 8 bits
  word : {bits : ℕ} → bits % 16 ≡ 0 → IsEven 16 bits

abbrev pub IsWhole : Extent → Type 0
IsWhole x = IsEven x.alignment x.bits

whole_width : (w : Width) → IsWhole (extent_of_width w)
whole_width width.Bit = bit
whole_width width.Byte = byte refl
whole_width width.Word = word refl
whole_width width.Dword = word refl

pub filled_up : (n : ℕ) → next_multiple_of n 16 % 16 ≡ 0
filled_up n = omega arith

-- each type is as long as a multiple of its alignment
pub whole : (ty : DeclType) → IsWhole (extent_of ty)
whole =
    every_type (λ ty. IsWhole (extent_of ty)) (record {
      elementary = λ e. subst IsWhole (sym (extent_elementary e)) (whole_width (width_of e));
      date = subst IsWhole (sym extent_date) (word refl);
      array = λ bounds e h. subst IsWhole (sym (extent_array bounds e)) (word (filled_up _));
      struct = λ parts h. subst IsWhole (sym (extent_struct parts)) (word (filled_up (end_of_all 0 parts)));
    })

-- Ends

pub behind : (end alignment : ℕ) → end ≤ next_multiple_of end alignment
behind end alignment = omega arith

pub ends_behind : (end : ℕ) (d : Declaration) → end ≤ end_of end d
ends_behind end d = let h = behind end (extent_of d.ty).alignment in omega (arith, h)

pub all_end_behind : (end : ℕ) (decls : List Declaration) → end ≤ end_of_all end decls
all_end_behind end [] = omega arith
all_end_behind end (d ∷ decls) =
    let here = ends_behind end d in let more = all_end_behind (end_of end d) decls in omega (arith, here, more)

-- Behind a multiple of 16 all stands as behind 0

moved : (place n a b : ℕ) → IsEven a b → place % 16 ≡ 0 → next_multiple_of (place + n) a + b ≡ place + (next_multiple_of n a + b)
moved place n a b bit h = omega arith
moved place n a b (byte e) h = omega (arith, h)
moved place n a b (word e) h = omega (arith, h)

pub all_moved : (place n : ℕ) (decls : List Declaration) → place % 16 ≡ 0 → end_of_all (place + n) decls ≡ place + end_of_all n decls
all_moved place n [] h = refl
all_moved place n (d ∷ decls) h =
    ap (λ end. end_of_all end decls) (moved place n (extent_of d.ty).alignment (extent_of d.ty).bits (whole d.ty) h)
    ∙ all_moved place (end_of n d) decls h

-- Elementary types

abbrev IsElementary : DeclType → Type 0
IsElementary ty = (e : ElemType) → elementary ty ≡ Some e → extent_of ty ≡ extent_of_width (width_of e)

no_value : {X : Type 0} (o : Option X) (x : X) → o ≡ None → o ≡ Some x → ⊥
no_value o x e f = cc

-- an elementary type takes what its width takes
pub of_elementary : (ty : DeclType) → IsElementary ty
of_elementary =
    every_type IsElementary (record {
      elementary = λ x e h.
          let both : Some x ≡ Some e = sym (elementary_of_elementary x) ∙ h in
          let same : x ≡ e = cc in
          extent_elementary x ∙ ap (λ (y : ElemType). extent_of_width (width_of y)) same;
      date = λ e h. absurd (no_value (elementary type.DateAndTime) e elementary_of_date h);
      array = λ bounds x p e h. absurd (no_value (elementary (type.Array bounds x)) e (elementary_of_array bounds x) h);
      struct = λ parts p e h. absurd (no_value (elementary (type.Struct parts)) e (elementary_of_struct parts) h);
    })
