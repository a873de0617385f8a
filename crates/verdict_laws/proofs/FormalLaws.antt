-- The formals of a block that breaks no rule. Each has a name of its own, and those of a function block lie in the
-- bytes of its interface.
use Rattle.std.proofs.Common.{◌≡◌, ℕ, ◌+◌, ◌*◌, ◌%◌, ◌≤◌, List, [], ◌∷◌, ◌++◌, map, Bool, true, false, ◌||◌, nat_eq, if◌then◌else◌, Option, Some, None, refl, sym, ap, subst, ◌∙◌, arith, append_assoc}
use Rattle.std.specs.Prelude.{All, IfSome, option_and_then, option_map, slice_index_or}
use Rattle.std.specs.Cmp.Lexicographic.{pointwise}
use Rattle.std.specs.List.{flat_map}
use Rattle.std.specs.Option.{option_or}
use Rattle.std.proofs.lemmas.Bool.{both_ways, le-ltb}
use Rattle.std.proofs.lemmas.List.{map-append}
use Rattle.std.proofs.lemmas.List.Elements.{All-append, All-cons, All-head, All-nil, All-tail, All-weaker}
use Rattle.std.proofs.lemmas.List.Folds.{list_any-append}
use Rattle.std.proofs.lemmas.Slice.Eq.{bytes_eq-Decides}
use Rattle.memory_areas.specs.Access.{bytes_wide, is_unaligned}
use Rattle.name_tables.proofs.Firsts.{name_sound, same_words}
use Rattle.s7_base.specs.Tokens.{is_same_word}
use Rattle.s7_base.specs.declared.word.Width.{Width}
use Rattle.s7_base.specs.declared.word.Width.TheVariants as width
use Rattle.stl_rules.specs.DeclarationRules.{break_if_repeated, declaration_breaks, elementary, is_named, key_of, scope_breaks, section_breaks, with_name}
use Rattle.stl_rules.specs.Extents.{end_of, end_of_all, end_of_sections, extent_of, extent_of_width, place_behind, section_behind, width_of}
use Rattle.stl_rules.specs.Interfaces.{formal_at, formal_named, formals_by, formals_declared, formals_in, formals_of, instance_of, interface_breaks, interface_large, interface_of, outputs_of, width_or_bit}
use Rattle.stl_rules.specs.Paths.{Placed, component_at, component_in, named_behind, named_by_path, named_in}
use Rattle.stl_rules.specs.TooLarge.{length_to}
use Rattle.stl_rules.specs.declared.layout.Component.{Component}
use Rattle.stl_rules.proofs.Components.{Lies, LiesIn, found_in_sections}
use Rattle.stl_rules.proofs.Ends.{of_elementary}
use Rattle.stl_rules.proofs.Equations.{scope_cons}
use Rattle.stl_rules.proofs.Lists.{no_parts}
use Rattle.stl_tree.specs.declared.program.Formal.{Formal}
use Rattle.stl_tree.specs.declared.program.Mode.{Mode}
use Rattle.stl_tree.specs.declared.program.Mode.TheVariants as mode
use Rattle.stl_tree.specs.declared.raw.BlockKind.{BlockKind}
use Rattle.stl_tree.specs.declared.raw.BlockKind.TheVariants as block
use Rattle.stl_tree.specs.declared.raw.Declaration.{Declaration}
use Rattle.stl_tree.specs.declared.raw.ElemType.{ElemType}
use Rattle.stl_tree.specs.declared.raw.PathStep.TheVariants as step
use Rattle.stl_tree.specs.declared.raw.RawBlock.{RawBlock}

-- Lists

pub all_both : {X : Type 0} (P Q R : X → Type 0) → ((x : X) → P x → Q x → R x) → (xs : List X) → All P xs → All Q xs → All R xs
all_both P Q R f [] p q = All-nil R
all_both P Q R f (x ∷ xs) p q =
    All-cons R x xs (f x (All-head P x xs p) (All-head Q x xs q)) (all_both P Q R f xs (All-tail P x xs p) (All-tail Q x xs q))

pub all_left : {X : Type 0} (P : X → Type 0) (xs ys : List X) → All P (xs ++ ys) → All P xs
all_left P [] ys h = All-nil P
all_left P (x ∷ xs) ys h = All-cons P x xs (All-head P x (xs ++ ys) h) (all_left P xs ys (All-tail P x (xs ++ ys) h))

pub all_right : {X : Type 0} (P : X → Type 0) (xs ys : List X) → All P (xs ++ ys) → All P ys
all_right P [] ys h = h
all_right P (x ∷ xs) ys h = all_right P xs ys (All-tail P x (xs ++ ys) h)

all_of_map : {X Y : Type 0} (P : Y → Type 0) (f : X → Y) (xs : List X) → All P (map f xs) → All (λ x. P (f x)) xs
all_of_map P f [] h = All-nil (λ x. P (f x))
all_of_map P f (x ∷ xs) h =
    All-cons (λ y. P (f y)) x xs (All-head P (f x) (map f xs) h) (all_of_map P f xs (All-tail P (f x) (map f xs) h))

-- Words

pub same_key : (a b : List ℕ) → is_same_word a b ≡ true → key_of a ≡ key_of b
same_key a b h = sym (name_sound (key_of b) (key_of a) (sym (same_words a b) ∙ h))

itself : (key : List ℕ) → pointwise nat_eq key key ≡ true
itself key = (bytes_eq-Decides key key).1 refl

pub key_same : (a b : List ℕ) → key_of a ≡ key_of b → is_same_word a b ≡ true
key_same a b e = same_words a b ∙ ap (λ key. pointwise nat_eq (key_of b) key) e ∙ itself (key_of b)

differs : (a b : List ℕ) → (key_of a ≡ key_of b → ⊥) → is_same_word a b ≡ false
differs a b h = by (is_same_word a b) refl
  where
    by : (t : Bool) → is_same_word a b ≡ t → t ≡ false
    by true e = absurd (h (same_key a b e))
    by false e = refl

-- Names of their own

module _ {X : Type 0} (name : X → List ℕ) where
  -- none of some things has a key
  abbrev pub IsApart : List ℕ → List X → Type 0
  IsApart key xs = All (λ (x : X). key_of (name x) ≡ key → ⊥) xs

  -- no two of some things have the same name
  abbrev pub AreApart : List X → Type 0
  AreApart [] = Unit {0}
  AreApart (x ∷ xs) = IsApart (key_of (name x)) xs × AreApart xs

  pub apart_left : (xs ys : List X) → AreApart (xs ++ ys) → AreApart xs
  apart_left [] ys a = tt
  apart_left (x ∷ xs) ys a = (all_left (λ (y : X). key_of (name y) ≡ key_of (name x) → ⊥) xs ys a.0, apart_left xs ys a.1)

  pub apart_right : (xs ys : List X) → AreApart (xs ++ ys) → AreApart ys
  apart_right [] ys a = a
  apart_right (x ∷ xs) ys a = apart_right xs ys a.1

  -- those of a second part have no name of the first
  pub apart_across : (xs ys : List X) → AreApart (xs ++ ys) → All (λ (y : X). IsApart (key_of (name y)) xs) ys
  apart_across [] ys a = λ k d l. All-nil (λ (x : X). key_of (name x) ≡ key_of (name (slice_index_or ys k d)) → ⊥)
  apart_across (x ∷ xs) ys a =
      all_both (λ (y : X). key_of (name y) ≡ key_of (name x) → ⊥) (λ (y : X). IsApart (key_of (name y)) xs) (λ (y : X). IsApart (key_of (name y)) (x ∷ xs))
      (λ y p q. All-cons (λ (z : X). key_of (name z) ≡ key_of (name y) → ⊥) x xs (λ e. p (sym e)) q) ys
      (all_right (λ (y : X). key_of (name y) ≡ key_of (name x) → ⊥) xs ys a.0) (apart_across xs ys a.1)

-- things that are made of others have their names
pub apart_made : {X Y : Type 0} (of : X → List ℕ) (name : Y → List ℕ) (f : X → Y) → ((x : X) → name (f x) ≡ of x) → (xs : List X)
    → AreApart of xs → AreApart name (map f xs)
apart_made of name f is [] a = tt
apart_made {X = X} of name f is (x ∷ xs) a = (from_head xs a.0, apart_made of name f is xs a.1)
  where
    from_head : (ys : List X) → IsApart of (key_of (of x)) ys → IsApart name (key_of (name (f x))) (map f ys)
    from_head [] h = All-nil (λ z. key_of (name z) ≡ key_of (name (f x)) → ⊥)
    from_head (y ∷ ys) h =
        All-cons (λ z. key_of (name z) ≡ key_of (name (f x)) → ⊥) (f y) (map f ys)
        (λ e. All-head (λ z. key_of (of z) ≡ key_of (of x) → ⊥) y ys h (ap key_of (sym (is y)) ∙ e ∙ ap key_of (is x)))
        (from_head ys (All-tail (λ z. key_of (of z) ≡ key_of (of x) → ⊥) y ys h))

pub apart_of_map : {X Y : Type 0} (of : X → List ℕ) (name : Y → List ℕ) (f : X → Y) → ((x : X) → name (f x) ≡ of x) → (xs : List X)
    → AreApart name (map f xs) → AreApart of xs
apart_of_map of name f is [] a = tt
apart_of_map of name f is (x ∷ xs) a = (
  All-weaker (λ y. key_of (name (f y)) ≡ key_of (name (f x)) → ⊥) (λ y. key_of (of y) ≡ key_of (of x) → ⊥)
      (λ y h e. h (ap key_of (is y) ∙ e ∙ ap key_of (sym (is x)))) xs
      (all_of_map (λ z. key_of (name z) ≡ key_of (name (f x)) → ⊥) f xs a.0),
  apart_of_map of name f is xs a.1,
)

-- Declarations

abbrev pub name_of : Declaration → List ℕ
name_of d = d.name

not_repeated : (b : Bool) (d : Declaration) → break_if_repeated d.line b ≡ [] → b ≡ false
not_repeated true d e = absurd cc
not_repeated false d e = refl

-- the rules of a scope, at its first declaration
scope_split : (names : List (List ℕ)) (d : Declaration) (decls : List Declaration) → scope_breaks names (d ∷ decls) ≡ []
    → (is_named (key_of d.name) names ≡ false) × (scope_breaks (with_name (key_of d.name) names) decls ≡ [])
scope_split names d decls e =
    let here = break_if_repeated d.line (is_named (key_of d.name) names) in
    let parts = no_parts (here ++ declaration_breaks d) (scope_breaks (with_name (key_of d.name) names) decls) (sym (scope_cons names d decls) ∙ e) in
    (not_repeated (is_named (key_of d.name) names) d (no_parts here (declaration_breaks d) parts.0).0, parts.1)

or_true : (b : Bool) → (b || true) ≡ true
or_true true = refl
or_true false = refl

stays : (key more : List ℕ) (names : List (List ℕ)) → is_named key names ≡ true → is_named key (with_name more names) ≡ true
stays key more names h = by (is_named more names)
  where
    by : (b : Bool) → is_named key (if b then names else names ++ more ∷ []) ≡ true
    by true = h
    by false = list_any-append (pointwise nat_eq key) names (more ∷ []) ∙ ap (λ b. b || (pointwise nat_eq key more || false)) h

comes : (key : List ℕ) (names : List (List ℕ)) → is_named key (with_name key names) ≡ true
comes key names = by (is_named key names) refl
  where
    by : (b : Bool) → is_named key names ≡ b → is_named key (if b then names else names ++ key ∷ []) ≡ true
    by true e = e
    by false e =
        list_any-append (pointwise nat_eq key) names (key ∷ []) ∙ ap (λ b. is_named key names || (b || false)) (itself key) ∙ or_true (is_named key names)

not_named : (names : List (List ℕ)) (decls : List Declaration) → scope_breaks names decls ≡ [] → (key : List ℕ) → is_named key names ≡ true
    → IsApart name_of key decls
not_named names [] e key h = All-nil (λ (d : Declaration). key_of d.name ≡ key → ⊥)
not_named names (d ∷ decls) e key h =
    let p = scope_split names d decls e in
    All-cons (λ (x : Declaration). key_of x.name ≡ key → ⊥) d decls
    (λ same. both_ways (is_named key names) (subst (λ k. is_named k names ≡ false) same p.0) h)
    (not_named (with_name (key_of d.name) names) decls p.1 key (stays key (key_of d.name) names h))

scope_apart : (names : List (List ℕ)) (decls : List Declaration) → scope_breaks names decls ≡ [] → AreApart name_of decls
scope_apart names [] e = tt
scope_apart names (d ∷ decls) e =
    let p = scope_split names d decls e in (
      not_named (with_name (key_of d.name) names) decls p.1 (key_of d.name) (comes (key_of d.name) names),
      scope_apart (with_name (key_of d.name) names) decls p.1,
    )

-- What names mean in sections

none_behind : (end : ℕ) (decls : List Declaration) (name : List ℕ) → IsApart name_of (key_of name) decls → named_behind end decls name ≡ None
none_behind end [] name h = refl
none_behind end (d ∷ decls) name h =
    ap (λ b. if b then Some (place_behind end (extent_of d.ty), d.ty) else named_behind (end_of end d) decls name)
    (differs d.name name (All-head (λ (x : Declaration). key_of x.name ≡ key_of name → ⊥) d decls h))
    ∙ none_behind (end_of end d) decls name (All-tail (λ (x : Declaration). key_of x.name ≡ key_of name → ⊥) d decls h)

-- a declaration is what its name means
abbrev IsFound : Option Placed → Declaration → Type 0
IsFound o d = (place : ℕ) × (o ≡ Some (place, d.ty))

found_behind : (end : ℕ) (decls : List Declaration) → AreApart name_of decls
    → All (λ (d : Declaration). IsFound (named_behind end decls d.name) d) decls
found_behind end [] a = All-nil (λ (d : Declaration). IsFound (named_behind end [] d.name) d)
found_behind end (d ∷ decls) a =
    All-cons (λ (x : Declaration). IsFound (named_behind end (d ∷ decls) x.name) x) d decls (
      place_behind end (extent_of d.ty),
      ap (λ b. if b then Some (place_behind end (extent_of d.ty), d.ty) else named_behind (end_of end d) decls d.name) (key_same d.name d.name refl),
    )
    (all_both (λ (x : Declaration). key_of x.name ≡ key_of d.name → ⊥) (λ (x : Declaration). IsFound (named_behind (end_of end d) decls x.name) x)
    (λ (x : Declaration). IsFound (named_behind end (d ∷ decls) x.name) x) (λ x other h. later x other h) decls a.0 (found_behind (end_of end d) decls a.1))
  where
    later : (x : Declaration) → (key_of x.name ≡ key_of d.name → ⊥) → IsFound (named_behind (end_of end d) decls x.name) x
        → IsFound (named_behind end (d ∷ decls) x.name) x
    later x other h = (
      h.0,
      ap (λ b. if b then Some (place_behind end (extent_of d.ty), d.ty) else named_behind (end_of end d) decls x.name)
          (differs d.name x.name (λ e. other (sym e))) ∙ h.1,
    )

abbrev flat : List (List Declaration) → List Declaration
flat sections = flat_map (λ section. section) sections

found_in : (end : ℕ) (sections : List (List Declaration)) → AreApart name_of (flat sections)
    → All (λ (d : Declaration). IsFound (named_in end sections d.name) d) (flat sections)
found_in end [] a = All-nil (λ (d : Declaration). IsFound (named_in end [] d.name) d)
found_in end (s ∷ sections) a =
    All-append (λ (d : Declaration). IsFound (named_in end (s ∷ sections) d.name) d) s (flat sections)
    (All-weaker (λ (d : Declaration). IsFound (named_behind (section_behind end) s d.name) d)
    (λ (d : Declaration). IsFound (named_in end (s ∷ sections) d.name) d) here s
    (found_behind (section_behind end) s (apart_left name_of s (flat sections) a)))
    (all_both (λ (d : Declaration). IsApart name_of (key_of d.name) s) (λ (d : Declaration). IsFound (named_in next sections d.name) d)
    (λ (d : Declaration). IsFound (named_in end (s ∷ sections) d.name) d) there (flat sections)
    (apart_across name_of s (flat sections) a) (found_in next sections (apart_right name_of s (flat sections) a)))
  where
    next : ℕ
    next = end_of_all (section_behind end) s

    here : (d : Declaration) → IsFound (named_behind (section_behind end) s d.name) d → IsFound (named_in end (s ∷ sections) d.name) d
    here d h = (h.0, ap (λ (o : Option Placed). option_or o (named_in next sections d.name)) h.1)

    there : (d : Declaration) → IsApart name_of (key_of d.name) s → IsFound (named_in next sections d.name) d
        → IsFound (named_in end (s ∷ sections) d.name) d
    there d other h =
        (h.0, ap (λ (o : Option Placed). option_or o (named_in next sections d.name)) (none_behind (section_behind end) s d.name other) ∙ h.1)

-- Formals

abbrev pub formal_name : Formal → List ℕ
formal_name f = f.name

abbrev pub declared_name : Mode × Declaration → List ℕ
declared_name f = f.1.name

made_name : (f : Mode × Declaration) (o : Option Component) → (formal_at f o).name ≡ f.1.name
made_name f None = refl
made_name f (Some at) = refl

with_mode : (its : Mode) (decls : List Declaration) → map (λ (f : Mode × Declaration). f.1) (map (λ (d : Declaration). (its, d)) decls) ≡ decls
with_mode its [] = refl
with_mode its (d ∷ decls) = ap (λ ds. d ∷ ds) (with_mode its decls)

-- the declarations of formals come first in an interface
declared_first : (raw : RawBlock) → map (λ (f : Mode × Declaration). f.1) (formals_by raw) ++ (raw.statics ++ []) ≡ flat (interface_of raw)
declared_first raw =
    let second = λ (f : Mode × Declaration). f.1 in
    let ins : List (Mode × Declaration) = map (λ (d : Declaration). (mode.Input, d)) raw.inputs in
    let outs : List (Mode × Declaration) = map (λ (d : Declaration). (mode.Output, d)) (outputs_of raw) in
    let both : List (Mode × Declaration) = map (λ (d : Declaration). (mode.InOut, d)) raw.in_outs in
    let rest : List Declaration = raw.statics ++ [] in
    ap (λ l. l ++ rest)
    (map-append second (ins ++ outs) both ∙ ap (λ l. l ++ map second both) (map-append second ins outs)
    ∙ ap (λ l. (l ++ map second outs) ++ map second both) (with_mode mode.Input raw.inputs)
    ∙ ap (λ l. (raw.inputs ++ l) ++ map second both) (with_mode mode.Output (outputs_of raw))
    ∙ ap (λ l. (raw.inputs ++ outputs_of raw) ++ l) (with_mode mode.InOut raw.in_outs))
    ∙ append_assoc (raw.inputs ++ outputs_of raw) raw.in_outs rest
    ∙ append_assoc raw.inputs (outputs_of raw) (raw.in_outs ++ rest)

interface_apart : (raw : RawBlock) → interface_breaks raw ≡ [] → AreApart name_of (flat (interface_of raw))
interface_apart raw e =
    scope_apart [] (flat (interface_of raw)) (no_parts (section_breaks (interface_of raw)) (interface_large raw.kind (interface_of raw)) e).0

pub declared_apart : (raw : RawBlock) → interface_breaks raw ≡ [] → AreApart declared_name (formals_by raw)
declared_apart raw e =
    apart_of_map declared_name name_of (λ (f : Mode × Declaration). f.1) (λ f. refl) (formals_by raw)
    (apart_left name_of (map (λ (f : Mode × Declaration). f.1) (formals_by raw)) (raw.statics ++ [])
    (subst (AreApart name_of) (sym (declared_first raw)) (interface_apart raw e)))

-- the first formal with a name that is a formal's own is that formal
pub named_first : (k : ℕ) (formals : List Formal) → AreApart formal_name formals
    → All (λ (f : Formal). (name : List ℕ) → is_same_word f.name name ≡ true → (n : ℕ) × (formal_named k formals name ≡ Some (n, f))) formals
named_first k [] a = All-nil (λ (f : Formal). (name : List ℕ) → is_same_word f.name name ≡ true → (n : ℕ) × (formal_named k [] name ≡ Some (n, f)))
named_first k (f ∷ formals) a =
    All-cons Named f formals (λ name h. (k, ap (λ b. if b then Some (k, f) else formal_named (k + 1) formals name) h))
    (all_both (λ (x : Formal). key_of x.name ≡ key_of f.name → ⊥)
    (λ (x : Formal). (name : List ℕ) → is_same_word x.name name ≡ true → (n : ℕ) × (formal_named (k + 1) formals name ≡ Some (n, x)))
    Named later formals a.0 (named_first (k + 1) formals a.1))
  where
    Named : Formal → Type 0
    Named x = (name : List ℕ) → is_same_word x.name name ≡ true → (n : ℕ) × (formal_named k (f ∷ formals) name ≡ Some (n, x))

    later : (x : Formal) → (key_of x.name ≡ key_of f.name → ⊥)
        → ((name : List ℕ) → is_same_word x.name name ≡ true → (n : ℕ) × (formal_named (k + 1) formals name ≡ Some (n, x))) → Named x
    later x other more name h =
        let m = more name h in (
          m.0,
          ap (λ b. if b then Some (k, f) else formal_named (k + 1) formals name)
              (differs f.name name (λ e. other (same_key x.name name h ∙ sym e))) ∙ m.1,
        )

-- Places

-- a formal has a bit number of its width, and ends within so many bytes
pub record Stands (size : ℕ) (f : Formal) : Type 0 where
  pub aligned : is_unaligned f.width f.bit ≡ false
  pub within : f.byte + bytes_wide f.width ≤ size

-- a component of an elementary type
width_stands : (end : ℕ) (at : Placed) (w : Width) → end ≤ 16384 * 8 → Lies end at.0 (extent_of_width w)
    → (is_unaligned w (component_at at).bit ≡ false) × ((component_at at).byte + bytes_wide w ≤ length_to end)
width_stands end at width.Bit low l =
    let inside : at.0 + 1 ≤ end = l.within in (le-ltb 7 (component_at at).bit (omega arith), omega (arith, low, inside))
width_stands end at width.Byte low l =
    let inside : at.0 + 8 ≤ end = l.within in
    let even : at.0 % 8 ≡ 0 = l.multiple in
    (le-ltb 0 (component_at at).bit (omega (arith, low, inside, even)), omega (arith, low, inside, even))
width_stands end at width.Word low l =
    let inside : at.0 + 16 ≤ end = l.within in
    let even : at.0 % 16 ≡ 0 = l.multiple in
    (le-ltb 0 (component_at at).bit (omega (arith, low, inside, even)), omega (arith, low, inside, even))
width_stands end at width.Dword low l =
    let inside : at.0 + 32 ≤ end = l.within in
    let even : at.0 % 16 ≡ 0 = l.multiple in
    (le-ltb 0 (component_at at).bit (omega (arith, low, inside, even)), omega (arith, low, inside, even))

elementary_stands : (end : ℕ) (at : Placed) (e : ElemType) → end ≤ 16384 * 8 → elementary at.1 ≡ Some e → LiesIn end at
    → (is_unaligned (width_of e) (component_at at).bit ≡ false) × ((component_at at).byte + bytes_wide (width_of e) ≤ length_to end)
elementary_stands end at e low k l = width_stands end at (width_of e) low (subst (Lies end at.0) (of_elementary at.1 e k) l)

-- a declaration of an elementary type
abbrev pub IsElementary : Declaration → Type 0
IsElementary d = (e : ElemType) × (elementary d.ty ≡ Some e)

declared_stands : (sections : List (List Declaration)) → end_of_sections 0 sections ≤ 16384 * 8 → (f : Mode × Declaration)
    → IsFound (named_in 0 sections f.1.name) f.1 → IsElementary f.1
    → Stands (length_to (end_of_sections 0 sections)) (formal_at f (component_in sections (step.Name f.1.name ∷ [])))
declared_stands sections low f found type =
    subst (λ (o : Option Component). Stands (length_to end) (formal_at f o)) (sym there) (stands type.1)
  where
    end : ℕ
    end = end_of_sections 0 sections

    at : Placed
    at = (found.0, f.1.ty)

    path_is : named_by_path sections (step.Name f.1.name ∷ []) ≡ Some at
    path_is = ap (λ (o : Option Placed). option_and_then (λ (p : Placed). Some p) o) found.1

    there : component_in sections (step.Name f.1.name ∷ []) ≡ Some (component_at at)
    there = ap (option_map component_at) path_is

    lies : LiesIn end at
    lies = subst (λ (o : Option Placed). IfSome o (LiesIn end)) path_is (found_in_sections sections (step.Name f.1.name ∷ []))

    stands : elementary f.1.ty ≡ Some type.0 → Stands (length_to end) (formal_at f (Some (component_at at)))
    stands k =
        let s = elementary_stands end at type.0 low k lies in
        let wide : width_of type.0 ≡ width_or_bit (elementary f.1.ty) = sym (ap width_or_bit k) in
        record {
          aligned = subst (λ w. is_unaligned w (component_at at).bit ≡ false) wide s.0;
          within = subst (λ w. (component_at at).byte + bytes_wide w ≤ length_to end) wide s.1;
        }

-- the formals of a function block lie in its interface
pub formals_stand : (raw : RawBlock) → interface_breaks raw ≡ [] → end_of_sections 0 (interface_of raw) ≤ 16384 * 8
    → All (λ (f : Mode × Declaration). IsElementary f.1) (formals_by raw)
    → All (λ (f : Mode × Declaration). Stands (length_to (end_of_sections 0 (interface_of raw)))
    (formal_at f (component_in (interface_of raw) (step.Name f.1.name ∷ [])))) (formals_by raw)
formals_stand raw e low types =
    let all = found_in 0 (interface_of raw) (interface_apart raw e) in
    let first = all_left (λ (d : Declaration). IsFound (named_in 0 (interface_of raw) d.name) d) (map (λ (f : Mode × Declaration). f.1) (formals_by raw))
    (raw.statics ++ []) (subst (All (λ (d : Declaration). IsFound (named_in 0 (interface_of raw) d.name) d)) (sym (declared_first raw)) all) in
    all_both (λ (f : Mode × Declaration). IsFound (named_in 0 (interface_of raw) f.1.name) f.1) (λ (f : Mode × Declaration). IsElementary f.1)
    (λ (f : Mode × Declaration). Stands (length_to (end_of_sections 0 (interface_of raw)))
    (formal_at f (component_in (interface_of raw) (step.Name f.1.name ∷ [])))) (λ f found type. declared_stands (interface_of raw) low f found type)
    (formals_by raw)
    (all_of_map (λ (d : Declaration). IsFound (named_in 0 (interface_of raw) d.name) d) (λ (f : Mode × Declaration). f.1) (formals_by raw) first)
    types

-- no two formals of a block have the same name
pub formals_apart : (raw : RawBlock) → interface_breaks raw ≡ [] → AreApart formal_name (formals_of raw)
formals_apart raw e =
    apart_made declared_name formal_name (λ f. formal_at f (component_in (instance_of raw raw.kind) (step.Name f.1.name ∷ [])))
    (λ f. made_name f (component_in (instance_of raw raw.kind) (step.Name f.1.name ∷ []))) (formals_declared raw) (by raw.kind)
  where
    by : (kind : BlockKind) → AreApart declared_name (formals_in raw kind)
    by block.Fc = declared_apart raw e
    by block.Fb = declared_apart raw e
    by block.Ob = tt
    by block.Db = tt
