-- The globals of a text: each is one that a text may have, no two have one name, and none the name of anything else.
use Rattle.std.proofs.Common.{◌≡◌, ◌≢◌, ℕ, Bool, true, false, not, ◌&&◌, ◌||◌, if◌then◌else◌, List, [], ◌∷◌, ◌++◌, map, refl, sym, subst, ap, ◌∙◌, arith}
use Rattle.std.specs.Prelude.{All, fold}
use Rattle.std.specs.List.{list_any}
use Rattle.std.proofs.lemmas.Bool.{and_from, and_parts}
use Rattle.std.proofs.lemmas.Cmp.{nat_list_eq_equiv}
use Rattle.std.proofs.lemmas.List.Elements.{All-append, All-cons, All-head, All-nil, All-tail}
use Rattle.memory_areas.specs.declared.place.Area.{Area}
use Rattle.memory_areas.specs.declared.place.Area.TheVariants as place
use Rattle.memory_areas.specs.Access.{is_byte_in, is_unaligned}
use Rattle.memory_areas.specs.declared.place.AreaName.TheVariants as area
use Rattle.s7_base.specs.declared.word.Width.{Width}
use Rattle.s7_base.specs.declared.word.Width.TheVariants as width
use Rattle.st_tree.specs.Naming.{are_apart, is_free, is_name, is_new, is_same, key_of}
use Rattle.st_tree.specs.PlaceRules.{is_bit_of, is_located}
use Rattle.st_tree.specs.Proper.{IsGlobal}
use Rattle.st_tree.specs.Values.{type_of_width, width_at}
use Rattle.st_tree.specs.WellTyped.{keys_of}
use Rattle.st_tree.specs.declared.expr.StType.TheVariants as type
use Rattle.st_tree.specs.declared.expr.Var.{Var}
use Rattle.st_tree.specs.declared.program.Located.{Located}
use Rattle.st_tree.specs.declared.program.Pou.{Pou}
use Rattle.stl_tree.specs.Accepted.{AreSymbolBytes, IsSymbol}
use Rattle.stl_tree.specs.declared.program.Symbol.{Symbol}
use Rattle.st_globals.specs.Globals.{global_names, globals_of, is_needed, located, may_have_name, names_in, unit_names, with_symbol}
use Rattle.st_globals.specs.Variables.{unit_variables}

-- Keys

not_or : (a b : Bool) → not (a || b) ≡ (not a && not b)
not_or true b = refl
not_or false b = refl

or_assoc : (a b c : Bool) → (a || (b || c)) ≡ ((a || b) || c)
or_assoc true b c = refl
or_assoc false b c = refl

pub any_append : {X : Type 0} (p : X → Bool) (xs ys : List X) → list_any p (xs ++ ys) ≡ (list_any p xs || list_any p ys)
any_append p [] ys = refl
any_append p (x ∷ xs) ys = ap (λ b. p x || b) (any_append p xs ys) ∙ or_assoc (p x) (list_any p xs) (list_any p ys)

-- a key is none of two lists
pub new_append : (key : List ℕ) (xs ys : List (List ℕ)) → is_new key (xs ++ ys) ≡ (is_new key xs && is_new key ys)
new_append key xs ys =
    ap not (any_append (λ other. is_same key other) xs ys)
    ∙ not_or (list_any (λ other. is_same key other) xs) (list_any (λ other. is_same key other) ys)

pub new_parts : (key : List ℕ) (xs ys : List (List ℕ)) → is_new key (xs ++ ys) ≡ true → (is_new key xs ≡ true) × (is_new key ys ≡ true)
new_parts key xs ys h = and_parts (is_new key xs) (is_new key ys) (sym (new_append key xs ys) ∙ h)

both_true : (a b : Bool) → a ≡ true → b ≡ true → (a && b) ≡ true
both_true a b h k = and_from a b h k

pub new_both : (key : List ℕ) (xs ys : List (List ℕ)) → is_new key xs ≡ true → is_new key ys ≡ true → is_new key (xs ++ ys) ≡ true
new_both key xs ys h k = new_append key xs ys ∙ both_true (is_new key xs) (is_new key ys) h k

same_sym : (a b : List ℕ) → is_same a b ≡ is_same b a
same_sym a b = nat_list_eq_equiv.symm a b

not_parts : (a b : Bool) → not (a || b) ≡ true → (a ≡ false) × (not b ≡ true)
not_parts true b h = cc
not_parts false b h = (refl, h)

one : (b : Bool) → b ≡ false → not (b || false) ≡ true
one true h = cc
one false h = refl

-- keys that are apart stay so with one behind them that is new
apart_more : (keys : List (List ℕ)) (key : List ℕ) → are_apart keys ≡ true → is_new key keys ≡ true → are_apart (keys ++ key ∷ []) ≡ true
apart_more [] key h k = refl
apart_more (first ∷ keys) key h k =
    let p = and_parts (is_new first keys) (are_apart keys) h in
    let q = not_parts (is_same key first) (list_any (λ other. is_same key other) keys) k in
    both_true (is_new first (keys ++ key ∷ [])) (are_apart (keys ++ key ∷ []))
    (new_both first keys (key ∷ []) p.0 (one (is_same first key) (same_sym first key ∙ q.0))) (apart_more keys key p.1 q.1)

pub apart_append : (xs ys : List (List ℕ)) → are_apart xs ≡ true → are_apart ys ≡ true
    → All (λ (key : List ℕ). is_new key ys ≡ true) xs → are_apart (xs ++ ys) ≡ true
apart_append [] ys h k l = k
apart_append (x ∷ xs) ys h k l =
    let p = and_parts (is_new x xs) (are_apart xs) h in
    both_true (is_new x (xs ++ ys)) (are_apart (xs ++ ys))
    (new_both x xs ys p.0 (All-head (λ (key : List ℕ). is_new key ys ≡ true) x xs l))
    (apart_append xs ys p.1 k (All-tail (λ (key : List ℕ). is_new key ys ≡ true) x xs l))

-- A symbol as a global

bit_is : (w : Width) (bit : ℕ) → is_unaligned w bit ≡ false → is_bit_of w bit ≡ true
bit_is width.Bit bit h = grind (arith, h)
bit_is width.Byte bit h = grind (arith, h)
bit_is width.Word bit h = grind (arith, h)
bit_is width.Dword bit h = grind (arith, h)

no_lint : (w : Width) → type_of_width w ≢ type.Lint
no_lint width.Bit h = cc
no_lint width.Byte h = cc
no_lint width.Word h = cc
no_lint width.Dword h = cc

width_is : (w : Width) → w ≡ width_at (type_of_width w)
width_is width.Bit = refl
width_is width.Byte = refl
width_is width.Word = refl
width_is width.Dword = refl

located_by : (a : Area) (w : Width) (byte bit : ℕ) → AreSymbolBytes a w byte → is_bit_of w bit ≡ true → is_located a w byte bit ≡ true
located_by place.I w byte bit h k = both_true (is_byte_in area.I w byte) (is_bit_of w bit) h k
located_by place.Q w byte bit h k = both_true (is_byte_in area.Q w byte) (is_bit_of w bit) h k
located_by place.M w byte bit h k = both_true (is_byte_in area.M w byte) (is_bit_of w bit) h k
located_by (place.Local d) w byte bit h k = absurd h
located_by (place.Cell d) w byte bit h k = absurd h
located_by (place.Db n) w byte bit h k = absurd h

is_global : (s : Symbol) → IsSymbol s → is_name s.name ≡ true → is_free s.name ≡ true → IsGlobal (located s)
is_global s h name free =
    record {
      name = name;
      free = free;
      type = no_lint s.width;
      place =
          subst (λ (w : Width). is_located s.place.area w s.place.byte s.place.bit ≡ true) (width_is s.width)
          (located_by s.place.area s.width s.place.byte s.place.bit h.0 (bit_is s.width s.place.bit h.1));
    }

-- Globals that are chosen

pub record AreChosen (names : List (List ℕ)) (globals : List Located) : Type 0 where
  pub globals_are : All IsGlobal globals
  pub apart : are_apart (global_names globals) ≡ true
  pub new : All (λ (g : Located). is_new (key_of g.name) names ≡ true) globals

names_append : (xs : List Located) (g : Located) → global_names (xs ++ g ∷ []) ≡ global_names xs ++ key_of g.name ∷ []
names_append [] g = refl
names_append (x ∷ xs) g = ap (λ (rest : List (List ℕ)). key_of x.name ∷ rest) (names_append xs g)

module _ (names : List (List ℕ)) (vars : List Var) where
  add : (before : List Located) (s : Symbol) → IsSymbol s → AreChosen names before → may_have_name names before (located s) ≡ true
      → AreChosen names (before ++ located s ∷ [])
  add before s is h m =
      let p = and_parts (is_name s.name && is_free s.name) (is_new (key_of s.name) (names ++ global_names before)) m in
      let q = and_parts (is_name s.name) (is_free s.name) p.0 in
      let r = new_parts (key_of s.name) names (global_names before) p.1 in
      record {
        globals_are =
            All-append IsGlobal before (located s ∷ []) h.globals_are
            (All-cons IsGlobal (located s) [] (is_global s is q.0 q.1) (All-nil IsGlobal));
        apart =
            ap are_apart (names_append before (located s)) ∙ apart_more (global_names before) (key_of s.name) h.apart r.1;
        new =
            All-append (λ (g : Located). is_new (key_of g.name) names ≡ true) before (located s ∷ []) h.new
            (All-cons (λ (g : Located). is_new (key_of g.name) names ≡ true) (located s) [] r.0
            (All-nil (λ (g : Located). is_new (key_of g.name) names ≡ true)));
      }

  add_if : (before : List Located) (s : Symbol) → IsSymbol s → AreChosen names before → (a b : Bool)
      → (b ≡ true → may_have_name names before (located s) ≡ true)
      → AreChosen names (if a && b then before ++ located s ∷ [] else before)
  add_if before s is h true true m = add before s is h (m refl)
  add_if before s is h true false m = h
  add_if before s is h false b m = h

  chosen_from : (symbols : List Symbol) (before : List Located) → All IsSymbol symbols → AreChosen names before
      → AreChosen names (fold (with_symbol names vars) before symbols)
  chosen_from [] before are h = h
  chosen_from (s ∷ symbols) before are h =
      chosen_from symbols (with_symbol names vars before s) (All-tail IsSymbol s symbols are)
      (add_if before s (All-head IsSymbol s symbols are) h (is_needed vars before (located s)) (may_have_name names before (located s))
      (λ e. e))

pub chosen : (units : List Pou) (symbols : List Symbol) → All IsSymbol symbols → AreChosen (names_in units) (globals_of units symbols)
chosen units symbols are =
    chosen_from (names_in units) (unit_variables units) symbols [] are
    (record {
      globals_are = All-nil IsGlobal;
      apart = refl;
      new = All-nil (λ (g : Located). is_new (key_of g.name) (names_in units) ≡ true);
    })

-- What a new name is not: the name of a unit, of a formal, of a local

pub not_unit : (units : List Pou) (key : List ℕ) → is_new key (names_in units) ≡ true → is_new key (map (λ (u : Pou). key_of u.name) units) ≡ true
not_unit [] key h = refl
not_unit (u ∷ units) key h =
    let p = new_parts key (unit_names u) (names_in units) h in
    let q = new_parts key (key_of u.name ∷ []) (keys_of u.formals ++ keys_of u.locals) p.0 in
    new_both key (key_of u.name ∷ []) (map (λ (x : Pou). key_of x.name) units) q.0 (not_unit units key p.1)

pub not_inside : (units : List Pou) (key : List ℕ) → is_new key (names_in units) ≡ true
    → All (λ (u : Pou). is_new key (keys_of u.formals ++ keys_of u.locals) ≡ true) units
not_inside [] key h = All-nil (λ (u : Pou). is_new key (keys_of u.formals ++ keys_of u.locals) ≡ true)
not_inside (u ∷ units) key h =
    let p = new_parts key (unit_names u) (names_in units) h in
    let q = new_parts key (key_of u.name ∷ []) (keys_of u.formals ++ keys_of u.locals) p.0 in
    All-cons (λ (x : Pou). is_new key (keys_of x.formals ++ keys_of x.locals) ≡ true) u units q.1 (not_inside units key p.1)
