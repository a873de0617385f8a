-- The STRUCT inside a type, and what types take by what it takes.
use Rattle.std.proofs.Common.{◌≡◌, ℕ, ℤ, List, [], ◌∷◌, map, Option, Some, None, refl, sym, ap, ◌∙◌, subst}
use Rattle.stl_tree.specs.declared.raw.Declaration.{Declaration, para-Declaration}
use Rattle.stl_tree.specs.declared.raw.DeclType.{DeclType}
use Rattle.stl_tree.specs.declared.raw.DeclType.TheVariants as type
use Rattle.stl_tree.specs.declared.raw.ElemType.{ElemType}
use Rattle.stl_rules.proofs.Equations.{at_array, at_date, at_elementary, at_struct, extent_equations}
use Rattle.symbol_layout.proofs.Capped.{capped_filled, capped_product}
use Rattle.symbol_layout.specs.Structs.{AreBits, no_result, struct_in, struct_step}

abbrev Found : Type 0
Found = Option (List Declaration)

pub inner_elementary : (e : ElemType) → struct_in (type.Elementary e) ≡ None
unfolding struct_in
inner_elementary e = at_elementary Found (Unit {0}) struct_step no_result e

pub inner_date : struct_in type.DateAndTime ≡ None
unfolding struct_in
inner_date = at_date Found (Unit {0}) struct_step no_result

pub inner_array : (bounds : List (ℤ × ℤ)) (e : DeclType) → struct_in (type.Array bounds e) ≡ struct_in e
unfolding struct_in
inner_array bounds e = at_array Found (Unit {0}) struct_step no_result bounds e

parts_alone : {X : Type 0} (f : Declaration → X) (parts : List Declaration) → map (λ (p : Declaration × X). p.0) (map (λ d. (d, f d)) parts) ≡ parts
parts_alone f [] = refl
parts_alone f (d ∷ parts) = ap (λ ds. d ∷ ds) (parts_alone f parts)

pub inner_struct : (parts : List Declaration) → struct_in (type.Struct parts) ≡ Some parts
unfolding struct_in
inner_struct parts =
    at_struct Found (Unit {0}) struct_step no_result parts
    ∙ ap Some (parts_alone (para-Declaration Found (Unit {0}) struct_step no_result) parts)

pub ruleset inner_equations = (inner_elementary, inner_date, inner_array, inner_struct)

-- Steps into a type

pub array_bits : (bits : ℕ) (ty : DeclType) (bounds : List (ℤ × ℤ)) (e inside : DeclType) → ty ≡ type.Array bounds e → inside ≡ e
    → AreBits bits (struct_in ty) → AreBits bits (struct_in inside)
array_bits bits ty bounds e inside is same h =
    subst (AreBits bits) (ap struct_in is ∙ inner_array bounds e ∙ ap struct_in (sym same)) h

pub ruleset extent_laws = (capped_product, capped_filled, extent_equations, inner_equations)
