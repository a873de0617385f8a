-- Declarations that break no rule have as many initial bytes as they are long, and no more than the limit.
use Rattle.std.proofs.Common.{◌≡◌, ℕ, zero, suc, ◌+◌, ◌-◌, ◌*◌, ◌/◌, ◌^◌, ◌<◌, ◌≤◌, ℤ, List, [], ◌∷◌, ◌++◌, length, Bool, true, false, if◌then◌else◌, Option, Some, None, refl, sym, ap, subst, ◌∙◌, arith, length-append}
use Rattle.std.specs.Prelude.{nat_le, option_map, drop}
use Rattle.std.specs.Int.{next_multiple_of}
use Rattle.std.specs.List.{flat_map}
use Rattle.std.specs.Option.{option_or}
use Rattle.std.proofs.Math.Nat.{le-mul_of_pos_right}
use Rattle.std.proofs.lemmas.Bool.{and_parts, leb-true, ltb-false}
use Rattle.std.proofs.lemmas.List.{append-nil, length-replicate}
use Rattle.std.proofs.lemmas.List.Concat.{flat_map-cons}
use Rattle.s7_base.specs.Broken.{rule_break}
use Rattle.s7_base.specs.declared.reason.Line.{Line}
use Rattle.s7_base.specs.declared.reason.Reason.TheVariants.{BadOperand}
use Rattle.s7_base.specs.declared.word.Width.{Width}
use Rattle.s7_base.specs.declared.word.Width.TheVariants as width
use Rattle.stl_tree.specs.declared.raw.Constant.{Constant}
use Rattle.stl_tree.specs.declared.raw.Declaration.{Declaration}
use Rattle.stl_tree.specs.declared.raw.DeclType.{DeclType, out-DeclType}
use Rattle.stl_tree.specs.declared.raw.DeclType.TheOpen as T
use Rattle.stl_tree.specs.declared.raw.DeclType.TheVariants as type
use Rattle.stl_tree.specs.declared.raw.ElemType.{ElemType}
use Rattle.stl_tree.specs.declared.raw.InitialItem.{InitialItem}
use Rattle.stl_rules.specs.Contents.{bits_behind, bits_of_sections, filled_to, first_bytes, times, type_bits, value_bits, values_of, zeros}
use Rattle.stl_rules.specs.DeclarationRules.{all_fit, are_values, array_breaks, capped_count, declaration_breaks, elementary, elementary_step, is_named, key_of, break_if_repeated, scope_breaks, section_breaks, takes, takes_step, type_breaks, value_breaks, values_in, with_name}
use Rattle.stl_rules.specs.Extents.{elements_in, end_of, end_of_all, end_of_sections, extent_of, extent_of_width, even_extent, place_behind, section_behind, width_of}
use Rattle.stl_rules.specs.Layouts.{breaks_in, initial_of, too_large}
use Rattle.stl_rules.specs.TooLarge.{first_large, first_large_in, inside, length_to, passes}
use Rattle.stl_rules.proofs.Ends.{behind, of_elementary}
use Rattle.stl_rules.proofs.Equations.{bits_array, bits_date, bits_elementary, bits_struct, breaks_array, breaks_declaration, breaks_struct, extent_array, extent_date, extent_elementary, extent_struct, inside_array, inside_its_type, inside_struct, laid_cons, laid_nil, scope_cons, scope_nil, takes_array, takes_date, takes_elementary, takes_struct}
use Rattle.stl_rules.proofs.Lists.{no_parts}
use Rattle.stl_rules.proofs.Scopes.{names_behind, scope_parts}
use Rattle.stl_rules.proofs.TypeInduction.{Each, TypeSteps, each_type, every_type}

-- Lengths of lists

length_times : {X : Type 0} (n : ℕ) (xs : List X) → length (times n xs) ≡ n * length xs
length_times zero xs = omega arith
length_times (suc n) xs =
    let all = length-append xs (times n xs) in
    let more = length_times n xs in
    let one : suc n * length xs ≡ length xs + n * length xs = omega arith in
    omega (arith, all, more, one)

length_filled : (alignment : ℕ) (bits : List Bool) → length (filled_to alignment bits) ≡ next_multiple_of (length bits) alignment
length_filled alignment bits =
    let all = length-append bits (zeros (next_multiple_of (length bits) alignment - length bits)) in
    let more = length-replicate (next_multiple_of (length bits) alignment - length bits) false in
    let up = behind (length bits) alignment in
    omega (arith, all, more, up)

length_first : (count : ℕ) (bits : List Bool) → length (first_bytes count bits) ≡ count
length_first zero bits = refl
length_first (suc count) bits = ap suc (length_first count (drop 8 bits))

length_value : (w : Width) (values : List Constant) → length (value_bits w values) ≡ (extent_of_width w).bits
length_value width.Bit [] = refl
length_value width.Byte [] = refl
length_value width.Word [] = refl
length_value width.Dword [] = refl
length_value width.Bit (c ∷ more) = refl
length_value width.Byte (c ∷ more) = refl
length_value width.Word (c ∷ more) = refl
length_value width.Dword (c ∷ more) = refl

length_values : (items : List InitialItem) → length (values_of items) ≡ values_in items
length_values [] = refl
length_values (item ∷ items) =
    let each = λ (i : InitialItem). times i.count i.values in
    let all = ap length (flat_map-cons each item items) in
    let both = length-append (times item.count item.values) (values_of items) in
    let first = length_times item.count item.values in
    let more = length_values items in
    omega (arith, all, both, first, more)

-- Values

-- so many values may stand where these may
abbrev Fits : Option (ElemType × ℕ) → ℕ → Type 0
Fits None n = n ≡ 0
Fits (Some most) n = n ≤ most.1

-- an element that takes a value takes one
one_fits : (y : T.DeclType-F DeclType Declaration) (x : ElemType) → elementary_step y ≡ Some x → Fits (takes_step y) 1
one_fits (T.Elementary e) x h = omega arith
one_fits T.DateAndTime x h = absurd cc
one_fits (T.Array bounds e) x h = absurd cc
one_fits (T.Struct parts) x h = absurd cc

-- no type takes more values than it has bits
abbrev IsBounded : DeclType → Type 0
IsBounded ty = (most : ElemType × ℕ) → takes ty ≡ Some most → most.1 ≤ (extent_of ty).bits

some_bits : (w : Width) → 1 ≤ (extent_of_width w).bits
some_bits width.Bit = omega arith
some_bits width.Byte = omega arith
some_bits width.Word = omega arith
some_bits width.Dword = omega arith

one_value : (e : ElemType) (most : ElemType × ℕ) → takes (type.Elementary e) ≡ Some most → most.1 ≤ (extent_of_width (width_of e)).bits
one_value e most h =
    let same : Some (e, 1) ≡ Some most = sym (takes_elementary e) ∙ h in
    let pair : (e, 1) ≡ most = cc in
    let one : 1 ≡ most.1 = ap (λ (p : ElemType × ℕ). p.1) pair in
    let some = some_bits (width_of e) in
    omega (arith, one, some)

no_values : {o : Option (ElemType × ℕ)} (most : ElemType × ℕ) → o ≡ None → o ≡ Some most → ⊥
no_values most e f = cc

elements_bounded : (bounds : List (ℤ × ℤ)) (e : DeclType) (most : ElemType × ℕ) (o : Option ElemType) → elementary e ≡ o
    → option_map (λ (x : ElemType). (x, elements_in bounds)) o ≡ Some most → most.1 ≤ (even_extent (elements_in bounds * (extent_of e).bits)).bits
elements_bounded bounds e most None f h = absurd cc
elements_bounded bounds e most (Some x) f h =
    let pair : (x, elements_in bounds) ≡ most = cc in
    let count : elements_in bounds ≡ most.1 = ap (λ (p : ElemType × ℕ). p.1) pair in
    let extent : (extent_of e).bits ≡ (extent_of_width (width_of x)).bits = ap (λ y. y.bits) (of_elementary e x f) in
    let some = some_bits (width_of x) in
    let wide : elements_in bounds ≤ elements_in bounds * (extent_of e).bits = le-mul_of_pos_right (elements_in bounds) (omega (arith, extent, some)) in
    let up = behind (elements_in bounds * (extent_of e).bits) 16 in
    omega (arith, count, wide, up)

bounded : (ty : DeclType) → IsBounded ty
bounded =
    every_type IsBounded (record {
      elementary = λ e most h. subst (λ x. most.1 ≤ x.bits) (sym (extent_elementary e)) (one_value e most h);
      date = λ most h. absurd (no_values most takes_date h);
      array = λ bounds e p most h.
          subst (λ x. most.1 ≤ x.bits) (sym (extent_array bounds e))
          (elements_bounded bounds e most (elementary e) refl (sym (takes_array bounds e) ∙ h));
      struct = λ parts p most h. absurd (no_values most (takes_struct parts) h);
    })

-- declarations that break no rule have no more values than may stand there
fitting : (o : Option (ElemType × ℕ)) (items : List InitialItem) → ((most : ElemType × ℕ) → o ≡ Some most → most.1 < 2 ^ 60)
    → are_values o items ≡ true → Fits o (length (values_of items))
fitting None [] low h = refl
fitting None (item ∷ items) low h = absurd cc
fitting (Some most) items low h =
    let p = and_parts (all_fit (width_of most.0) items) (nat_le (capped_count (values_in items)) (capped_count most.1)) h in
    let few = leb-true (capped_count (values_in items)) (capped_count most.1) p.1 in
    let small = low most refl in
    let all = length_values items in
    omega (arith, few, small, all)

no_break : (line : Line) (o : Option (ElemType × ℕ)) (items : List InitialItem) → value_breaks line o items ≡ [] → are_values o items ≡ true
no_break line o items h = by (are_values o items) h
  where
    by : (b : Bool) → (if b then [] else rule_break line BadOperand) ≡ [] → b ≡ true
    by true e = refl
    by false e = absurd cc

-- Declarations one after another

module _ (limit : ℕ) (small : limit < 2 ^ 32) where
  -- a type has as many bits as it takes, whatever its values are
  abbrev HasLength : DeclType → Type 0
  HasLength ty = (place : ℕ) (line : Line) → type_breaks ty line ≡ [] → inside limit ty place ≡ None
      → (values : List Constant) → Fits (takes ty) (length values) → length (type_bits ty values) ≡ (extent_of ty).bits

  -- the first of some declarations is not too large, nor is one inside it, nor one behind it
  record Goes (end : ℕ) (d : Declaration) (decls : List Declaration) : Type 0 where
    inner : inside limit d.ty (place_behind end (extent_of d.ty)) ≡ None
    here : passes limit (end_of end d) ≡ false
    more : first_large limit (end_of end d) decls ≡ None

  first_cons : (end : ℕ) (d : Declaration) (decls : List Declaration)
      → first_large limit end (d ∷ decls)
      ≡ option_or (inside limit d.ty (place_behind end (extent_of d.ty)))
      (if passes limit (end_of end d) then Some d.line else first_large limit (end_of end d) decls)
  unfolding first_large
  first_cons end d decls =
      ap (λ (o : Option Line). option_or o (if passes limit (end_of end d) then Some d.line else first_large limit (end_of end d) decls))
      (inside_its_type limit d (place_behind end (extent_of d.ty)))

  goes : (end : ℕ) (d : Declaration) (decls : List Declaration) → first_large limit end (d ∷ decls) ≡ None → Goes end d decls
  goes end d decls h =
      by (inside limit d.ty (place_behind end (extent_of d.ty))) (passes limit (end_of end d)) refl refl (sym (first_cons end d decls) ∙ h)
    where
      by : (o : Option Line) (b : Bool) → inside limit d.ty (place_behind end (extent_of d.ty)) ≡ o → passes limit (end_of end d) ≡ b
          → option_or o (if b then Some d.line else first_large limit (end_of end d) decls) ≡ None → Goes end d decls
      by None true i p e = absurd cc
      by None false i p e = record { inner = i; here = p; more = e }
      by (Some line) b i p e = absurd cc

  low_end : (end : ℕ) → passes limit end ≡ false → end ≤ limit * 8
  low_end end h = let l = ltb-false limit (length_to end) h in omega (arith, l)

  declared : (end : ℕ) (d : Declaration) (decls : List Declaration) → HasLength d.ty → declaration_breaks d ≡ [] → Goes end d decls
      → length (type_bits d.ty (values_of d.initial)) ≡ (extent_of d.ty).bits
  declared end d decls has e g =
      let parts = no_parts (type_breaks d.ty d.line) (value_breaks d.line (takes d.ty) d.initial) (sym (breaks_declaration d) ∙ e) in
      let low = low_end (end_of end d) g.here in
      has (place_behind end (extent_of d.ty)) d.line parts.0 g.inner (values_of d.initial)
      (fitting (takes d.ty) d.initial (λ most t. let few = bounded d.ty most t in omega (arith, few, low, small))
      (no_break d.line (takes d.ty) d.initial parts.1))

  length_laid_out : (decls : List Declaration) → Each HasLength decls → (names : List (List ℕ)) (end : ℕ) (bits : List Bool)
      → scope_breaks names decls ≡ [] → first_large limit end decls ≡ None
      → length (bits_behind bits decls) ≡ end_of_all (length bits) decls
  length_laid_out [] has names end bits e g = ap length (laid_nil bits)
  length_laid_out (d ∷ decls) has names end bits e g =
      let parts =
      no_parts (break_if_repeated d.line (is_named (key_of d.name) names) ++ declaration_breaks d)
      (scope_breaks (with_name (key_of d.name) names) decls) (sym (scope_cons names d decls) ∙ e) in
      let own = no_parts (break_if_repeated d.line (is_named (key_of d.name) names)) (declaration_breaks d) parts.0 in
      let on = goes end d decls g in
      let before : List Bool = filled_to (extent_of d.ty).alignment bits in
      let value = declared end d decls has.0 own.1 on in
      let up = length_filled (extent_of d.ty).alignment bits in
      let both = length-append before (type_bits d.ty (values_of d.initial)) in
      let next : length (before ++ type_bits d.ty (values_of d.initial)) ≡ end_of (length bits) d = omega (arith, value, up, both) in
      ap length (laid_cons bits d decls)
      ∙ length_laid_out decls has.1 (with_name (key_of d.name) names) (end_of end d) (before ++ type_bits d.ty (values_of d.initial)) parts.1 on.more
      ∙ ap (λ n. end_of_all n decls) next

  -- the last end is within the limit
  ends_low : (decls : List Declaration) (end : ℕ) → end ≤ limit * 8 → first_large limit end decls ≡ None → end_of_all end decls ≤ limit * 8
  ends_low [] end low g = low
  ends_low (d ∷ decls) end low g =
      let on = goes end d decls g in ends_low decls (end_of end d) (low_end (end_of end d) on.here) on.more

  -- Types

  all_elements : (f : Constant → List Bool) (n : ℕ) (values : List Constant) → ((c : Constant) → length (f c) ≡ n)
      → length (flat_map f values) ≡ length values * n
  all_elements f n [] h = omega arith
  all_elements f n (c ∷ values) h =
      let all = ap length (flat_map-cons f c values) in
      let both = length-append (f c) (flat_map f values) in
      let first = h c in
      let more = all_elements f n values h in
      let one : (length values + 1) * n ≡ n + length values * n = omega arith in
      let whole : length (c ∷ values) ≡ length values + 1 = omega arith in
      omega (arith, all, both, first, more, ap (λ k. k * n) whole, one)

  array_bits : (bounds : List (ℤ × ℤ)) (e : DeclType) (values : List Constant) (n : ℕ) → length values ≤ elements_in bounds
      → length (flat_map (λ (c : Constant). type_bits e (c ∷ [])) values) ≡ length values * n → length (type_bits e []) ≡ n
      → length (filled_to 16 (flat_map (λ (c : Constant). type_bits e (c ∷ [])) values ++ times (elements_in bounds - length values) (type_bits e [])))
      ≡ (even_extent (elements_in bounds * n)).bits
  array_bits bounds e values n few first more =
      let given_bits : List Bool = flat_map (λ (c : Constant). type_bits e (c ∷ [])) values in
      let left : List Bool = times (elements_in bounds - length values) (type_bits e []) in
      let both = length-append given_bits left in
      let times_left = length_times (elements_in bounds - length values) (type_bits e []) in
      let rest : (elements_in bounds - length values) * length (type_bits e []) ≡ (elements_in bounds - length values) * n
      = ap (λ k. (elements_in bounds - length values) * k) more in
      let sum : length values + (elements_in bounds - length values) ≡ elements_in bounds = omega (arith, few) in
      let product : length values * n + (elements_in bounds - length values) * n ≡ (length values + (elements_in bounds - length values)) * n = omega arith in
      let all : length (given_bits ++ left) ≡ elements_in bounds * n
      = omega (arith, both, times_left, rest, first, product, ap (λ k. k * n) sum) in
      length_filled 16 (given_bits ++ left) ∙ ap (λ k. next_multiple_of k 16) all

  array_has : (bounds : List (ℤ × ℤ)) (e : DeclType) → HasLength e → HasLength (type.Array bounds e)
  array_has bounds e has place line b i values fit =
      ap length (bits_array bounds e values)
      ∙ by (elementary e) refl (subst (λ o. Fits o (length values)) (takes_array bounds e) fit)
      ∙ sym (ap (λ x. x.bits) (extent_array bounds e))
    where
      bits : ℕ
      bits = (extent_of e).bits

      inner : (more : List Constant) → Fits (takes e) (length more) → length (type_bits e more) ≡ bits
      inner more f =
          has place line (no_parts (array_breaks line bounds) (type_breaks e line) (sym (breaks_array bounds e line) ∙ b)).1
          (sym (inside_array limit bounds e place) ∙ i) more f

      none_fits : (o : Option (ElemType × ℕ)) → Fits o 0
      none_fits None = refl
      none_fits (Some most) = omega arith

      blank : length (type_bits e []) ≡ bits
      blank = inner [] (none_fits (takes e))

      by : (o : Option ElemType) → elementary e ≡ o → Fits (option_map (λ (x : ElemType). (x, elements_in bounds)) o) (length values)
          → length (filled_to 16 (flat_map (λ (c : Constant). type_bits e (c ∷ [])) values ++ times (elements_in bounds - length values) (type_bits e [])))
          ≡ (even_extent (elements_in bounds * bits)).bits
      by None h f = array_bits bounds e values bits (omega (arith, f)) (none values f) blank
        where
          none : (more : List Constant) → length more ≡ 0 → length (flat_map (λ (c : Constant). type_bits e (c ∷ [])) more) ≡ length more * bits
          none [] g = omega arith
          none (c ∷ more) g = absurd (omega (arith, g))
      by (Some x) h f =
          array_bits bounds e values bits f
          (all_elements (λ (c : Constant). type_bits e (c ∷ [])) bits values (λ c. inner (c ∷ []) (one_fits (out-DeclType e) x h))) blank

  struct_has : (parts : List Declaration) → Each HasLength parts → HasLength (type.Struct parts)
  struct_has parts has place line b i values fit =
      ap length (bits_struct parts values)
      ∙ length_filled 16 (bits_behind [] parts)
      ∙ ap (λ n. next_multiple_of n 16) (length_laid_out parts has [] place [] (sym (breaks_struct parts line) ∙ b) (sym (inside_struct limit parts place) ∙ i))
      ∙ sym (ap (λ x. x.bits) (extent_struct parts))

  steps : TypeSteps HasLength
  steps = record {
    elementary = λ e place line b i values fit.
        ap length (bits_elementary e values) ∙ length_value (width_of e) values ∙ sym (ap (λ x. x.bits) (extent_elementary e));
    date = λ place line b i values fit. ap length (bits_date values) ∙ sym (ap (λ x. x.bits) extent_date);
    array = array_has;
    struct = struct_has;
  }

  -- All

  -- what declarations that break no rule have in bytes: an even length within the limit
  pub record Sized (decls : List Declaration) : Type 0 where
    pub is : length (initial_of (decls ∷ [])) ≡ length_to (end_of_all 0 decls)
    pub within : end_of_all 0 decls ≤ limit * 8

  no_line : (o : Option Line) → too_large (option_or o None) ≡ [] → o ≡ None
  no_line None e = refl
  no_line (Some line) e = absurd cc

  pub sized : (decls : List Declaration) → breaks_in limit (decls ∷ []) ≡ [] → Sized decls
  sized decls e =
      let parts = no_parts (section_breaks (decls ∷ [])) (too_large (first_large_in limit 0 (decls ∷ []))) e in
      let scope : scope_breaks [] decls ≡ [] = sym (ap (λ ds. scope_breaks [] ds) (append-nil decls)) ∙ parts.0 in
      let large = no_line (first_large limit 0 decls) parts.1 in
      let all = length_laid_out decls (each_type HasLength steps decls) [] 0 [] scope large in
      record {
        is = length_first (next_multiple_of (length (bits_behind [] decls)) 16 / 8) (filled_to 16 (bits_behind [] decls)) ∙ ap length_to all;
        within = ends_low decls 0 (omega arith) large;
      }

  -- Sections

  neither : (a b : Option Line) → option_or a b ≡ None → (a ≡ None) × (b ≡ None)
  neither None b e = (refl, e)
  neither (Some line) b e = absurd cc

  sections_laid : (sections : List (List Declaration)) (names : List (List ℕ)) (end : ℕ) (bits : List Bool)
      → scope_breaks names (flat_map (λ section. section) sections) ≡ [] → first_large_in limit end sections ≡ None
      → length (bits_of_sections bits sections) ≡ end_of_sections (length bits) sections
  sections_laid [] names end bits e g = refl
  sections_laid (s ∷ sections) names end bits e g =
      let more = flat_map (λ section. section) sections in
      let parts = scope_parts names s more (sym (ap (scope_breaks names) (flat_map-cons (λ section. section) s sections)) ∙ e) in
      let large = neither (first_large limit (section_behind end) s) (first_large_in limit (end_of_all (section_behind end) s) sections) g in
      let here : length (bits_behind (filled_to 16 bits) s) ≡ end_of_all (section_behind (length bits)) s
      = length_laid_out s (each_type HasLength steps s) names (section_behind end) (filled_to 16 bits) parts.0 large.0
      ∙ ap (λ n. end_of_all n s) (length_filled 16 bits) in
      sections_laid sections (names_behind names s) (end_of_all (section_behind end) s) (bits_behind (filled_to 16 bits) s) parts.1 large.1
      ∙ ap (λ n. end_of_sections n sections) here

  section_low : (decls : List Declaration) (end : ℕ) → section_behind end ≤ limit * 8 → first_large limit end decls ≡ None
      → section_behind (end_of_all end decls) ≤ limit * 8
  section_low [] end low g = low
  section_low (d ∷ decls) end low g =
      let on = goes end d decls g in
      let l = ltb-false limit (length_to (end_of end d)) on.here in
      section_low decls (end_of end d) (omega (arith, l)) on.more

  sections_low : (sections : List (List Declaration)) (end : ℕ) → section_behind end ≤ limit * 8 → first_large_in limit end sections ≡ None
      → end_of_sections end sections ≤ limit * 8
  sections_low [] end low g = omega (arith, low)
  sections_low (s ∷ sections) end low g =
      let large = neither (first_large limit (section_behind end) s) (first_large_in limit (end_of_all (section_behind end) s) sections) g in
      let again : section_behind (section_behind end) ≤ limit * 8 = omega (arith, low) in
      sections_low sections (end_of_all (section_behind end) s) (section_low s (section_behind end) again large.0) large.1

  -- what sections that break no rule have in bytes: an even length within the limit
  pub record AreSized (sections : List (List Declaration)) : Type 0 where
    pub is : length (initial_of sections) ≡ length_to (end_of_sections 0 sections)
    pub within : end_of_sections 0 sections ≤ limit * 8

  none_large : (o : Option Line) → too_large o ≡ [] → o ≡ None
  none_large None e = refl
  none_large (Some line) e = absurd cc

  pub are_sized : (sections : List (List Declaration)) → breaks_in limit sections ≡ [] → AreSized sections
  are_sized sections e =
      let parts = no_parts (section_breaks sections) (too_large (first_large_in limit 0 sections)) e in
      let large = none_large (first_large_in limit 0 sections) parts.1 in
      let bits = bits_of_sections [] sections in
      record {
        is = length_first (next_multiple_of (length bits) 16 / 8) (filled_to 16 bits)
            ∙ ap length_to (sections_laid sections [] 0 [] parts.0 large);
        within = sections_low sections 0 (omega arith) large;
      }
