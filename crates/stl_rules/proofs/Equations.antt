-- What definitions over types and declarations give at each form of type, and of a declaration.
use Rattle.std.specs.Prelude.{◌≡◌, ℕ, ◌*◌, ◌-◌, ℤ, Bool, List, [], ◌∷◌, ◌++◌, map, length, Some, None}
use Rattle.std.specs.List.{flat_map, fold}
use Rattle.std.proofs.Common.{refl, sym, ap, ◌∙◌}
use Rattle.s7_base.specs.declared.rule_break.Break.{Break}
use Rattle.s7_base.specs.declared.reason.Line.{Line}
use Rattle.stl_tree.specs.declared.raw.Constant.{Constant}
use Rattle.stl_tree.specs.declared.raw.Declaration.{Declaration, Declaration-F, fold-Declaration, fold_out-Declaration, out-Declaration, para-Declaration, para-roll-Declaration, roll-out-Declaration}
use Rattle.stl_tree.specs.declared.raw.DeclType.{DeclType, fold-roll-DeclType, map-DeclType, out-DeclType, out-roll-DeclType, para-DeclType, para-roll-DeclType, roll-DeclType}
use Rattle.stl_tree.specs.declared.raw.DeclType.TheOpen as T
use Rattle.stl_tree.specs.declared.raw.DeclType.TheVariants as type
use Rattle.stl_tree.specs.declared.raw.ElemType.{ElemType}
use Rattle.stl_tree.specs.declared.raw.PathStep.{PathStep}
use Rattle.stl_rules.specs.Contents.{bits_behind, bits_step, declaration_bits, declared_step, filled_to, laid_behind, times, type_bits, value_bits, values_of, zeros}
use Rattle.stl_rules.specs.Extents.{elements_in, end_behind, end_of, end_of_all, extent_of, extent_of_width, extent_step, even_extent, width_of}
use Rattle.stl_rules.specs.DeclarationRules.{array_breaks, declaration_breaks, declaration_step, elementary, elementary_step, is_named, key_of, break_if_repeated, scope_breaks, takes, takes_step, type_breaks, type_step, value_breaks, with_name}
use Rattle.stl_rules.specs.Paths.{after_step, stepped_in}
use Rattle.stl_rules.specs.TooLarge.{Inside, first_large, inside, inside_declaration, inside_step, of_type}
use Rattle.stl_rules.specs.declared.layout.Extent.{Extent}

-- Types, opened

pub out_elementary : (e : ElemType) → out-DeclType (type.Elementary e) ≡ T.Elementary e
out_elementary e = ap out-DeclType (sym (type.rolls-Elementary e)) ∙ out-roll-DeclType (T.Elementary e)

pub out_date : out-DeclType type.DateAndTime ≡ T.DateAndTime
out_date = ap out-DeclType (sym type.rolls-DateAndTime) ∙ out-roll-DeclType T.DateAndTime

pub out_array : (bounds : List (ℤ × ℤ)) (e : DeclType) → out-DeclType (type.Array bounds e) ≡ T.Array bounds e
out_array bounds e = ap out-DeclType (sym (type.rolls-Array bounds e)) ∙ out-roll-DeclType (T.Array bounds e)

pub out_struct : (parts : List Declaration) → out-DeclType (type.Struct parts) ≡ T.Struct parts
out_struct parts = ap out-DeclType (sym (type.rolls-Struct parts)) ∙ out-roll-DeclType (T.Struct parts)

pub elementary_of_elementary : (e : ElemType) → elementary (type.Elementary e) ≡ Some e
elementary_of_elementary e = ap elementary_step (out_elementary e)

pub elementary_of_date : elementary type.DateAndTime ≡ None
elementary_of_date = ap elementary_step out_date

pub elementary_of_array : (bounds : List (ℤ × ℤ)) (e : DeclType) → elementary (type.Array bounds e) ≡ None
elementary_of_array bounds e = ap elementary_step (out_array bounds e)

pub elementary_of_struct : (parts : List Declaration) → elementary (type.Struct parts) ≡ None
elementary_of_struct parts = ap elementary_step (out_struct parts)

-- Any definition by parts

module _ (A B : Type 0) (step : T.DeclType-F (DeclType × A) (Declaration × B) → A)
    (own : Declaration-F (DeclType × A) (Declaration × B) → B) where
  abbrev by_parts : DeclType → A
  by_parts = para-DeclType A B step own

  abbrev by_type : Declaration → B
  by_type = para-Declaration A B step own

  opened : (x : DeclType) (y : T.DeclType-F DeclType Declaration) → x ≡ roll-DeclType y
      → by_parts x ≡ step (map-DeclType DeclType Declaration (DeclType × A) (Declaration × B)
      (λ t. (t, by_parts t)) (λ d. (d, by_type d)) y)
  opened x y e = ap by_parts e ∙ para-roll-DeclType A B step own y

  pub at_elementary : (e : ElemType) → by_parts (type.Elementary e) ≡ step (T.Elementary e)
  at_elementary e = opened (type.Elementary e) (T.Elementary e) (sym (type.rolls-Elementary e))

  pub at_date : by_parts type.DateAndTime ≡ step T.DateAndTime
  at_date = opened type.DateAndTime T.DateAndTime (sym type.rolls-DateAndTime)

  pub at_array : (bounds : List (ℤ × ℤ)) (e : DeclType)
      → by_parts (type.Array bounds e) ≡ step (T.Array bounds (e, by_parts e))
  at_array bounds e = opened (type.Array bounds e) (T.Array bounds e) (sym (type.rolls-Array bounds e))

  pub at_struct : (parts : List Declaration)
      → by_parts (type.Struct parts) ≡ step (T.Struct (map (λ d. (d, by_type d)) parts))
  at_struct parts = opened (type.Struct parts) (T.Struct parts) (sym (type.rolls-Struct parts))

  pub at_declaration : (d : Declaration)
      → by_type d ≡ own (record { name = d.name; line = d.line; ty = (d.ty, by_parts d.ty); initial = d.initial })
  at_declaration d =
      ap by_type (sym (roll-out-Declaration d)) ∙ para-roll-Declaration A B step own (out-Declaration d)

-- Extents

abbrev pub own_type : Declaration-F Extent Extent → Extent
own_type d = d.ty

extent_opened : (x : DeclType) (y : T.DeclType-F DeclType Declaration) → x ≡ roll-DeclType y
    → extent_of x ≡ extent_step (map-DeclType DeclType Declaration Extent Extent extent_of
    (fold-Declaration Extent Extent extent_step own_type) y)
extent_opened x y e = ap extent_of e ∙ fold-roll-DeclType Extent Extent extent_step own_type y

pub extent_elementary : (e : ElemType) → extent_of (type.Elementary e) ≡ extent_of_width (width_of e)
extent_elementary e = extent_opened (type.Elementary e) (T.Elementary e) (sym (type.rolls-Elementary e))

pub extent_date : extent_of type.DateAndTime ≡ record { alignment = 16; bits = 64 }
extent_date = extent_opened type.DateAndTime T.DateAndTime (sym type.rolls-DateAndTime)

pub extent_array : (bounds : List (ℤ × ℤ)) (e : DeclType)
    → extent_of (type.Array bounds e) ≡ even_extent (elements_in bounds * (extent_of e).bits)
extent_array bounds e = extent_opened (type.Array bounds e) (T.Array bounds e) (sym (type.rolls-Array bounds e))

extent_declaration : (d : Declaration) → fold-Declaration Extent Extent extent_step own_type d ≡ extent_of d.ty
extent_declaration d = fold_out-Declaration Extent Extent extent_step own_type d

ends : (end : ℕ) (parts : List Declaration)
    → fold end_behind end (map (fold-Declaration Extent Extent extent_step own_type) parts) ≡ end_of_all end parts
ends end [] = refl
ends end (d ∷ parts) =
    ap (λ (x : Extent). fold end_behind (end_behind end x) (map (fold-Declaration Extent Extent extent_step own_type) parts))
    (extent_declaration d)
    ∙ ends (end_of end d) parts

pub extent_struct : (parts : List Declaration) → extent_of (type.Struct parts) ≡ even_extent (end_of_all 0 parts)
extent_struct parts =
    extent_opened (type.Struct parts) (T.Struct parts) (sym (type.rolls-Struct parts)) ∙ ap even_extent (ends 0 parts)

pub ruleset extent_equations = (extent_elementary, extent_date, extent_array, extent_struct)

-- What is too large

pub inside_elementary : (limit : ℕ) (e : ElemType) (place : ℕ) → inside limit (type.Elementary e) place ≡ None
unfolding inside
inside_elementary limit e place =
    ap (λ (f : Inside). f place) (at_elementary Inside Inside (inside_step limit) of_type e)

pub inside_date : (limit place : ℕ) → inside limit type.DateAndTime place ≡ None
unfolding inside
inside_date limit place = ap (λ (f : Inside). f place) (at_date Inside Inside (inside_step limit) of_type)

pub inside_array : (limit : ℕ) (bounds : List (ℤ × ℤ)) (e : DeclType) (place : ℕ)
    → inside limit (type.Array bounds e) place ≡ inside limit e place
unfolding inside
inside_array limit bounds e place =
    ap (λ (f : Inside). f place) (at_array Inside Inside (inside_step limit) of_type bounds e)

pub inside_struct : (limit : ℕ) (parts : List Declaration) (place : ℕ)
    → inside limit (type.Struct parts) place ≡ first_large limit place parts
unfolding inside inside_declaration first_large
inside_struct limit parts place =
    ap (λ (f : Inside). f place) (at_struct Inside Inside (inside_step limit) of_type parts)

pub inside_its_type : (limit : ℕ) (d : Declaration) (place : ℕ)
    → inside_declaration limit d place ≡ inside limit d.ty place
unfolding inside inside_declaration
inside_its_type limit d place =
    ap (λ (f : Inside). f place) (at_declaration Inside Inside (inside_step limit) of_type d)

pub ruleset inside_equations = (inside_elementary, inside_date, inside_array, inside_struct, inside_its_type)

-- Broken rules

abbrev On : Type 0
On = Line → List Break

pub takes_elementary : (e : ElemType) → takes (type.Elementary e) ≡ Some (e, 1)
takes_elementary e = ap takes_step (out_elementary e)

pub takes_date : takes type.DateAndTime ≡ None
takes_date = ap takes_step out_date

pub takes_array : (bounds : List (ℤ × ℤ)) (e : DeclType)
    → takes (type.Array bounds e) ≡ takes_step (T.Array bounds e)
takes_array bounds e = ap takes_step (out_array bounds e)

pub takes_struct : (parts : List Declaration) → takes (type.Struct parts) ≡ None
takes_struct parts = ap takes_step (out_struct parts)

pub ruleset elementary_equations = (elementary_of_elementary, elementary_of_date, elementary_of_array, elementary_of_struct)

pub ruleset takes_equations = (takes_elementary, takes_date, takes_array, takes_struct)

pub breaks_elementary : (e : ElemType) (line : Line) → type_breaks (type.Elementary e) line ≡ []
unfolding type_breaks
breaks_elementary e line =
    ap (λ (f : On). f line) (at_elementary On (List Break) type_step declaration_step e)

pub breaks_date : (line : Line) → type_breaks type.DateAndTime line ≡ []
unfolding type_breaks
breaks_date line = ap (λ (f : On). f line) (at_date On (List Break) type_step declaration_step)

pub breaks_array : (bounds : List (ℤ × ℤ)) (e : DeclType) (line : Line)
    → type_breaks (type.Array bounds e) line ≡ array_breaks line bounds ++ type_breaks e line
unfolding type_breaks
breaks_array bounds e line =
    ap (λ (f : On). f line) (at_array On (List Break) type_step declaration_step bounds e)

pub breaks_struct : (parts : List Declaration) (line : Line)
    → type_breaks (type.Struct parts) line ≡ scope_breaks [] parts
unfolding type_breaks declaration_breaks scope_breaks
breaks_struct parts line =
    ap (λ (f : On). f line) (at_struct On (List Break) type_step declaration_step parts)

pub breaks_declaration : (d : Declaration)
    → declaration_breaks d ≡ type_breaks d.ty d.line ++ value_breaks d.line (takes d.ty) d.initial
unfolding type_breaks declaration_breaks
breaks_declaration d = at_declaration On (List Break) type_step declaration_step d

pub scope_nil : (names : List (List ℕ)) → scope_breaks names [] ≡ []
unfolding scope_breaks
scope_nil names = refl

pub scope_cons : (names : List (List ℕ)) (d : Declaration) (decls : List Declaration)
    → scope_breaks names (d ∷ decls)
    ≡ break_if_repeated d.line (is_named (key_of d.name) names) ++ declaration_breaks d ++ scope_breaks (with_name (key_of d.name) names) decls
unfolding scope_breaks
scope_cons names d decls = refl

pub ruleset scope_equations = (scope_nil, scope_cons)

pub ruleset judge_equations = (breaks_elementary, breaks_date, breaks_array, breaks_struct)

pub ruleset rule_equations = (
  out_elementary,
  out_date,
  out_array,
  out_struct,
  breaks_elementary,
  breaks_date,
  breaks_array,
  breaks_struct,
  breaks_declaration,
  scope_nil,
  scope_cons,
)

-- Contents

abbrev Of : Type 0
Of = List Constant → List Bool

pub bits_elementary : (e : ElemType) (values : List Constant)
    → type_bits (type.Elementary e) values ≡ value_bits (width_of e) values
unfolding type_bits
bits_elementary e values =
    ap (λ (f : Of). f values) (at_elementary Of (List Bool) bits_step declared_step e)

pub bits_date : (values : List Constant) → type_bits type.DateAndTime values ≡ zeros 64
unfolding type_bits
bits_date values = ap (λ (f : Of). f values) (at_date Of (List Bool) bits_step declared_step)

pub bits_array : (bounds : List (ℤ × ℤ)) (e : DeclType) (values : List Constant)
    → type_bits (type.Array bounds e) values
    ≡ filled_to 16 (flat_map (λ (c : Constant). type_bits e (c ∷ [])) values
    ++ times (elements_in bounds - length values) (type_bits e []))
unfolding type_bits
bits_array bounds e values =
    ap (λ (f : Of). f values) (at_array Of (List Bool) bits_step declared_step bounds e)

pub bits_struct : (parts : List Declaration) (values : List Constant)
    → type_bits (type.Struct parts) values ≡ filled_to 16 (bits_behind [] parts)
unfolding type_bits declaration_bits bits_behind
bits_struct parts values =
    ap (λ (f : Of). f values) (at_struct Of (List Bool) bits_step declared_step parts)

pub bits_declaration : (d : Declaration) → declaration_bits d ≡ type_bits d.ty (values_of d.initial)
unfolding type_bits declaration_bits
bits_declaration d = at_declaration Of (List Bool) bits_step declared_step d

pub laid_nil : (bits : List Bool) → bits_behind bits [] ≡ bits
unfolding bits_behind
laid_nil bits = refl

pub laid_cons : (bits : List Bool) (d : Declaration) (decls : List Declaration)
    → bits_behind bits (d ∷ decls)
    ≡ bits_behind (filled_to (extent_of d.ty).alignment bits ++ type_bits d.ty (values_of d.initial)) decls
unfolding bits_behind
laid_cons bits d decls =
    ap (λ own. fold laid_behind (filled_to (extent_of d.ty).alignment bits ++ own) (map (λ (x : Declaration). (x, declaration_bits x)) decls))
    (bits_declaration d)

pub ruleset laid_equations = (laid_nil, laid_cons)

pub ruleset bits_equations = (bits_elementary, bits_date, bits_array, bits_struct, bits_declaration, laid_nil, laid_cons)

-- Steps of a path

pub step_elementary : (place : ℕ) (e : ElemType) (s : PathStep) → after_step place (type.Elementary e) s ≡ None
step_elementary place e s = ap (λ y. stepped_in place y s) (out_elementary e)

pub step_date : (place : ℕ) (s : PathStep) → after_step place type.DateAndTime s ≡ None
step_date place s = ap (λ y. stepped_in place y s) out_date

pub step_array : (place : ℕ) (bounds : List (ℤ × ℤ)) (e : DeclType) (s : PathStep)
    → after_step place (type.Array bounds e) s ≡ stepped_in place (T.Array bounds e) s
step_array place bounds e s = ap (λ y. stepped_in place y s) (out_array bounds e)

pub step_struct : (place : ℕ) (parts : List Declaration) (s : PathStep)
    → after_step place (type.Struct parts) s ≡ stepped_in place (T.Struct parts) s
step_struct place parts s = ap (λ y. stepped_in place y s) (out_struct parts)

pub ruleset step_equations = (step_elementary, step_date, step_array, step_struct)
