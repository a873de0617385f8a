-- Tables of places: what is found in them, and what a symbol adds.
use Rattle.std.proofs.Common.{◌≡◌, ℕ, suc, ◌+◌, Bool, true, false, not, cond, ◌&&◌, ◌||◌, if◌then◌else◌, List, [], ◌∷◌, ◌++◌, length, map, Option, Some, refl, sym, ap, ◌∙◌, arith, eqb-true, is_some}
use Rattle.std.specs.Prelude.{nat_eq}
use Rattle.std.specs.List.{list_any}
use Rattle.std.specs.Map.{lookup}
use Rattle.std.proofs.lemmas.Bool.{and_parts}
use Rattle.std.proofs.lemmas.Cmp.{nat_eq_equiv}
use Rattle.indexmap.specs.IndexMap.{insert_entry}
use Rattle.memory_areas.specs.Access.{code_of}
use Rattle.memory_areas.specs.declared.place.Area.{Area}
use Rattle.memory_areas.specs.declared.place.Area.TheVariants as place
use Rattle.memory_areas.specs.declared.place.AreaName.{AreaName}
use Rattle.memory_areas.specs.declared.place.AreaName.TheVariants as area
use Rattle.s7_base.specs.declared.word.Width.{Width}
use Rattle.s7_base.specs.declared.word.Width.TheVariants as width
use Rattle.st_tree.specs.Naming.{is_new, key_of}
use Rattle.st_tree.specs.TypeRules.{is_type}
use Rattle.st_tree.specs.Values.{type_of_width}
use Rattle.st_tree.specs.declared.expr.StType.{StType}
use Rattle.st_tree.specs.declared.expr.StType.TheVariants as type
use Rattle.st_tree.specs.declared.expr.Var.{Var}
use Rattle.st_tree.specs.declared.expr.Var.TheVariants as var
use Rattle.st_tree.specs.declared.program.Located.{Located}
use Rattle.st_tree.specs.declared.program.StProgram.{StProgram}
use Rattle.stl_tree.specs.declared.program.Symbol.{Symbol}
use Rattle.st_globals.specs.Globals.{global_names, global_or, globals_of, is_named, is_needed, named_var, number_from, stands_for}
use Rattle.st_globals.specs.NamedText.{named_text}
use Rattle.st_globals.specs.WithVariables.{unit_with}
use Rattle.st_globals.specs.inner.Tables.{PlaceKey, Tracks, area_code, is_same_key, key_at, keys_with_numbers, place_key, type_code, var_by, width_code, with_key, with_keys}
use Rattle.st_globals.proofs.Chosen.{any_append, new_append}

-- Keys of places

same_area : (a : Area) (n : AreaName) → nat_eq (code_of n) (area_code a) ≡ is_named a n
same_area place.I area.I = refl
same_area place.I area.Q = refl
same_area place.I area.M = refl
same_area place.I area.L = refl
same_area place.I area.Db = refl
same_area place.I area.Di = refl
same_area place.Q area.I = refl
same_area place.Q area.Q = refl
same_area place.Q area.M = refl
same_area place.Q area.L = refl
same_area place.Q area.Db = refl
same_area place.Q area.Di = refl
same_area place.M area.I = refl
same_area place.M area.Q = refl
same_area place.M area.M = refl
same_area place.M area.L = refl
same_area place.M area.Db = refl
same_area place.M area.Di = refl
same_area (place.Local d) area.I = refl
same_area (place.Local d) area.Q = refl
same_area (place.Local d) area.M = refl
same_area (place.Local d) area.L = refl
same_area (place.Local d) area.Db = refl
same_area (place.Local d) area.Di = refl
same_area (place.Cell d) area.I = refl
same_area (place.Cell d) area.Q = refl
same_area (place.Cell d) area.M = refl
same_area (place.Cell d) area.L = refl
same_area (place.Cell d) area.Db = refl
same_area (place.Cell d) area.Di = refl
same_area (place.Db d) area.I = refl
same_area (place.Db d) area.Q = refl
same_area (place.Db d) area.M = refl
same_area (place.Db d) area.L = refl
same_area (place.Db d) area.Db = refl
same_area (place.Db d) area.Di = refl

same_width : (w : Width) (ty : StType) → nat_eq (width_code w) (type_code ty) ≡ is_type (type_of_width w) ty
same_width width.Bit type.Bool = refl
same_width width.Bit type.Byte = refl
same_width width.Bit type.Word = refl
same_width width.Bit type.Dword = refl
same_width width.Bit type.Int = refl
same_width width.Bit type.Dint = refl
same_width width.Bit type.Lint = refl
same_width width.Byte type.Bool = refl
same_width width.Byte type.Byte = refl
same_width width.Byte type.Word = refl
same_width width.Byte type.Dword = refl
same_width width.Byte type.Int = refl
same_width width.Byte type.Dint = refl
same_width width.Byte type.Lint = refl
same_width width.Word type.Bool = refl
same_width width.Word type.Byte = refl
same_width width.Word type.Word = refl
same_width width.Word type.Dword = refl
same_width width.Word type.Int = refl
same_width width.Word type.Dint = refl
same_width width.Word type.Lint = refl
same_width width.Dword type.Bool = refl
same_width width.Dword type.Byte = refl
same_width width.Dword type.Word = refl
same_width width.Dword type.Dword = refl
same_width width.Dword type.Int = refl
same_width width.Dword type.Dint = refl
same_width width.Dword type.Lint = refl

-- the key of a place that is named directly is that of a global exactly where the global stands for it
same_place : (g : Located) (a : AreaName) (byte bit : ℕ) (w : Width) → is_same_key (key_at a byte bit w) (place_key g)
    ≡ stands_for g (var.Direct a byte bit w)
same_place g a byte bit w =
    ap (λ (b : Bool). b && nat_eq byte g.place.byte && nat_eq bit g.place.bit && nat_eq (width_code w) (type_code g.ty))
    (same_area g.place.area a)
    ∙ ap (λ (b : Bool). is_named g.place.area a && nat_eq byte g.place.byte && nat_eq bit g.place.bit && b) (same_width w g.ty)

numbers_sym : (m n : ℕ) → nat_eq m n ≡ nat_eq n m
numbers_sym m n = nat_eq_equiv.symm m n

key_sym : (a b : PlaceKey) → is_same_key a b ≡ is_same_key b a
key_sym a b =
    ap (λ (t : Bool). t && nat_eq a.1 b.1 && nat_eq a.2 b.2 && nat_eq a.3 b.3) (numbers_sym a.0 b.0)
    ∙ ap (λ (t : Bool). nat_eq b.0 a.0 && t && nat_eq a.2 b.2 && nat_eq a.3 b.3) (numbers_sym a.1 b.1)
    ∙ ap (λ (t : Bool). nat_eq b.0 a.0 && nat_eq b.1 a.1 && t && nat_eq a.3 b.3) (numbers_sym a.2 b.2)
    ∙ ap (λ (t : Bool). nat_eq b.0 a.0 && nat_eq b.1 a.1 && nat_eq b.2 a.2 && t) (numbers_sym a.3 b.3)

number_is : (m n : ℕ) → nat_eq m n ≡ true → m ≡ n
number_is m n h = eqb-true m n h

key_is : (a b : PlaceKey) → is_same_key a b ≡ true → a ≡ b
key_is a b h =
    let p = and_parts (nat_eq a.0 b.0 && nat_eq a.1 b.1 && nat_eq a.2 b.2) (nat_eq a.3 b.3) h in
    let q = and_parts (nat_eq a.0 b.0 && nat_eq a.1 b.1) (nat_eq a.2 b.2) p.0 in
    let r = and_parts (nat_eq a.0 b.0) (nat_eq a.1 b.1) q.0 in
    ap (λ (n : ℕ). (n, a.1, a.2, a.3)) (number_is a.0 b.0 r.0) ∙ ap (λ (n : ℕ). (b.0, n, a.2, a.3)) (number_is a.1 b.1 r.1)
    ∙ ap (λ (n : ℕ). (b.0, b.1, n, a.3)) (number_is a.2 b.2 q.1) ∙ ap (λ (n : ℕ). (b.0, b.1, b.2, n)) (number_is a.3 b.3 p.1)

-- The number of a global

found_number : (n : ℕ) (globals : List Located) (a : AreaName) (byte bit : ℕ) (w : Width)
    → lookup (is_same_key (key_at a byte bit w)) (keys_with_numbers n globals) ≡ number_from n globals (var.Direct a byte bit w)
found_number n [] a byte bit w = refl
found_number n (g ∷ rest) a byte bit w =
    ap (λ (b : Bool). cond b (Some n) (lookup (is_same_key (key_at a byte bit w)) (keys_with_numbers (suc n) rest))) (same_place g a byte bit w)
    ∙ ap (cond (stands_for g (var.Direct a byte bit w)) (Some n)) (found_number (suc n) rest a byte bit w)

var_found : (globals : List Located) (v : Var) → var_by (keys_with_numbers 0 globals) v ≡ named_var globals v
var_found globals (var.Direct a byte bit w) =
    ap (λ (o : Option ℕ). global_or o (var.Direct a byte bit w)) (found_number 0 globals a byte bit w)
var_found globals (var.Register r) = refl
var_found globals (var.Local i) = refl
var_found globals (var.Formal i) = refl
var_found globals (var.Global i) = refl
var_found globals (var.InBlock n byte bit w) = refl

abbrev text_of : StProgram → List Located → (Var → Var) → StProgram
text_of tree globals f = record tree { globals = globals; pous = map (unit_with f) tree.pous }

pub text_is : (tree : StProgram) (symbols : List Symbol) (globals : List Located) (entries : List (PlaceKey × ℕ))
    → globals ≡ globals_of tree.pous symbols → entries ≡ keys_with_numbers 0 globals
    → text_of tree globals (var_by entries) ≡ named_text symbols tree
text_is tree symbols globals entries h k =
    ap (λ (es : List (PlaceKey × ℕ)). text_of tree globals (var_by es)) k
    ∙ ap (λ (f : Var → Var). text_of tree globals f) (λ i v. var_found globals v i)
    ∙ ap (λ (gs : List Located). text_of tree gs (named_var gs)) h

-- The places that a text names

or_true : (b : Bool) → (b || true) ≡ true
or_true true = refl
or_true false = refl

or_none : (b : Bool) → b ≡ (b || false)
or_none true = refl
or_none false = refl

abbrev is_at : PlaceKey → Var → Bool
is_at key (var.Direct a byte bit w) = is_same_key key (key_at a byte bit w)
is_at key v = false

among_next : (key k : PlaceKey) (keys : List PlaceKey) (t b : Bool) → t ≡ list_any (is_same_key k) keys → b ≡ is_same_key key k
    → list_any (is_same_key key) (if t then keys else keys ++ k ∷ []) ≡ (list_any (is_same_key key) keys || b)
among_next key k keys true true h e =
    ap (λ (x : PlaceKey). list_any (is_same_key x) keys) (key_is key k (sym e)) ∙ sym h
    ∙ sym (or_true (list_any (is_same_key key) keys))
among_next key k keys true false h e = or_none (list_any (is_same_key key) keys)
among_next key k keys false b h e =
    any_append (is_same_key key) keys (k ∷ []) ∙ ap (λ (t : Bool). list_any (is_same_key key) keys || t) (sym (or_none (is_same_key key k)) ∙ sym e)

among_key : (key : PlaceKey) (keys : List PlaceKey) (v : Var)
    → list_any (is_same_key key) (with_key keys v) ≡ (list_any (is_same_key key) keys || is_at key v)
among_key key keys (var.Direct a byte bit w) =
    among_next key (key_at a byte bit w) keys (list_any (is_same_key (key_at a byte bit w)) keys)
    (is_same_key key (key_at a byte bit w)) refl refl
among_key key keys (var.Register r) = or_none (list_any (is_same_key key) keys)
among_key key keys (var.Local i) = or_none (list_any (is_same_key key) keys)
among_key key keys (var.Formal i) = or_none (list_any (is_same_key key) keys)
among_key key keys (var.Global i) = or_none (list_any (is_same_key key) keys)
among_key key keys (var.InBlock n byte bit w) = or_none (list_any (is_same_key key) keys)

or_assoc : (a b c : Bool) → ((a || b) || c) ≡ (a || (b || c))
or_assoc true b c = refl
or_assoc false b c = refl

among_keys : (key : PlaceKey) (vars : List Var) (keys : List PlaceKey)
    → list_any (is_same_key key) (with_keys keys vars) ≡ (list_any (is_same_key key) keys || list_any (is_at key) vars)
among_keys key [] keys = or_none (list_any (is_same_key key) keys)
among_keys key (v ∷ vars) keys =
    among_keys key vars (with_key keys v) ∙ ap (λ (b : Bool). b || list_any (is_at key) vars) (among_key key keys v)
    ∙ or_assoc (list_any (is_same_key key) keys) (is_at key v) (list_any (is_at key) vars)

at_is : (g : Located) (v : Var) → is_at (place_key g) v ≡ stands_for g v
at_is g (var.Direct a byte bit w) = key_sym (place_key g) (key_at a byte bit w) ∙ same_place g a byte bit w
at_is g (var.Register r) = refl
at_is g (var.Local i) = refl
at_is g (var.Formal i) = refl
at_is g (var.Global i) = refl
at_is g (var.InBlock n byte bit w) = refl

any_same : {X : Type 0} (p q : X → Bool) → ((x : X) → p x ≡ q x) → (xs : List X) → list_any p xs ≡ list_any q xs
any_same p q h [] = refl
any_same p q h (x ∷ xs) = ap (λ b. b || list_any p xs) (h x) ∙ ap (λ b. q x || b) (any_same p q h xs)

pub is_used : (g : Located) (vars : List Var) → list_any (is_same_key (place_key g)) (with_keys [] vars)
    ≡ list_any (λ (v : Var). stands_for g v) vars
is_used g vars = among_keys (place_key g) vars [] ∙ any_same (is_at (place_key g)) (λ (v : Var). stands_for g v) (at_is g) vars

-- Whether a symbol is needed

no_one : (a : Bool) → (a && false) ≡ false
no_one true = refl
no_one false = refl

found_either : (n : ℕ) (o : Option ℕ) (t : Bool) → is_some o ≡ t → (b : Bool) → is_some (cond b (Some n) o) ≡ (b || t)
found_either n o t e true = refl
found_either n o t e false = e

found_in : (n : ℕ) (globals : List Located) (key : PlaceKey) → is_some (lookup (is_same_key key) (keys_with_numbers n globals))
    ≡ list_any (λ (g : Located). is_same_key key (place_key g)) globals
found_in n [] key = refl
found_in n (g ∷ rest) key = found_either n (lookup (is_same_key key) (keys_with_numbers (suc n) rest))
    (list_any (λ (x : Located). is_same_key key (place_key x)) rest) (found_in (suc n) rest key) (is_same_key key (place_key g))

-- where a global stands for a variable, what stands for this one is what has the global's place
stands_alike : (g : Located) (v : Var) (before : List Located) → stands_for g v ≡ true
    → list_any (λ (x : Located). stands_for x v) before ≡ list_any (λ (x : Located). is_same_key (place_key g) (place_key x)) before
stands_alike g (var.Direct a byte bit w) before h =
    any_same (λ (x : Located). stands_for x (var.Direct a byte bit w)) (λ (x : Located). is_same_key (place_key g) (place_key x))
    (λ x. sym (same_place x a byte bit w)
    ∙ ap (λ (k : PlaceKey). is_same_key k (place_key x)) (key_is (key_at a byte bit w) (place_key g) (same_place g a byte bit w ∙ h)))
    before
stands_alike g (var.Register r) before h = cc
stands_alike g (var.Local i) before h = cc
stands_alike g (var.Formal i) before h = cc
stands_alike g (var.Global i) before h = cc
stands_alike g (var.InBlock n byte bit w) before h = cc

abbrev has_place : Located → List Located → Bool
has_place g before = list_any (λ (x : Located). is_same_key (place_key g) (place_key x)) before

needed_one : (g : Located) (v : Var) (before : List Located) (b : Bool) → stands_for g v ≡ b
    → (b && not (list_any (λ (x : Located). stands_for x v) before)) ≡ (b && not (has_place g before))
needed_one g v before true h = ap not (stands_alike g v before h)
needed_one g v before false h = refl

either : (a b c : Bool) → ((a && c) || (b && c)) ≡ ((a || b) && c)
either true true true = refl
either true true false = refl
either true false true = refl
either true false false = refl
either false true true = refl
either false true false = refl
either false false true = refl
either false false false = refl

needed_any : (g : Located) (before : List Located) (vars : List Var)
    → is_needed vars before g ≡ (list_any (λ (v : Var). stands_for g v) vars && not (has_place g before))
needed_any g before [] = refl
needed_any g before (v ∷ vars) =
    ap (λ b. b || is_needed vars before g) (needed_one g v before (stands_for g v) refl)
    ∙ ap (λ b. (stands_for g v && not (has_place g before)) || b) (needed_any g before vars)
    ∙ either (stands_for g v) (list_any (λ (x : Var). stands_for g x) vars) (not (has_place g before))

-- by the tables: its place is one that is named, and no global has it
pub needed_is : (g : Located) (before : List Located) (vars : List Var) (keys : List PlaceKey) (entries : List (PlaceKey × ℕ))
    → keys ≡ with_keys [] vars → entries ≡ keys_with_numbers 0 before
    → is_needed vars before g ≡ (list_any (is_same_key (place_key g)) keys && not (is_some (lookup (is_same_key (place_key g)) entries)))
needed_is g before vars keys entries h k =
    needed_any g before vars
    ∙ ap (λ b. b && not (has_place g before)) (sym (is_used g vars) ∙ ap (list_any (is_same_key (place_key g))) (sym h))
    ∙ ap (λ b. list_any (is_same_key (place_key g)) keys && not b)
    (sym (found_in 0 before (place_key g)) ∙ ap (λ (es : List (PlaceKey × ℕ)). is_some (lookup (is_same_key (place_key g)) es)) (sym k))

-- The tables with a symbol more

numbered_more : (n : ℕ) (globals : List Located) (g : Located)
    → keys_with_numbers n (globals ++ g ∷ []) ≡ keys_with_numbers n globals ++ (place_key g, n + length globals) ∷ []
numbered_more n [] g = ap (λ (m : ℕ). (place_key g, m) ∷ []) (omega arith)
numbered_more n (x ∷ rest) g =
    ap (λ (es : List (PlaceKey × ℕ)). (place_key x, n) ∷ es)
    (numbered_more (suc n) rest g ∙ ap (λ (m : ℕ). keys_with_numbers (suc n) rest ++ (place_key g, m) ∷ []) (omega arith))

inserted_by : (key : PlaceKey) (n : ℕ) (e : PlaceKey × ℕ) (es : List (PlaceKey × ℕ))
    → (is_some (lookup (is_same_key key) es) ≡ false → insert_entry is_same_key es key n ≡ es ++ (key, n) ∷ []) → (b : Bool)
    → is_some (cond b (Some e.1) (lookup (is_same_key key) es)) ≡ false
    → (if b then (e.0, n) ∷ es else e ∷ insert_entry is_same_key es key n) ≡ e ∷ (es ++ (key, n) ∷ [])
inserted_by key n e es more true h = cc
inserted_by key n e es more false h = ap (λ (rest : List (PlaceKey × ℕ)). e ∷ rest) (more h)

inserted : (key : PlaceKey) (n : ℕ) (es : List (PlaceKey × ℕ)) → is_some (lookup (is_same_key key) es) ≡ false
    → insert_entry is_same_key es key n ≡ es ++ (key, n) ∷ []
inserted key n [] h = refl
inserted key n (e ∷ es) h = inserted_by key n e es (inserted key n es) (is_same_key key e.0) h

names_more : (globals : List Located) (g : Located) → global_names (globals ++ g ∷ []) ≡ global_names globals ++ key_of g.name ∷ []
names_more [] g = refl
names_more (x ∷ xs) g = ap (λ (rest : List (List ℕ)). key_of x.name ∷ rest) (names_more xs g)

from_zero : (n : ℕ) → n ≡ 0 + n
from_zero n = omega arith

append_three : {X : Type 0} (xs ys zs : List X) → (xs ++ ys) ++ zs ≡ xs ++ (ys ++ zs)
append_three [] ys zs = refl
append_three (x ∷ xs) ys zs = ap (λ rest. x ∷ rest) (append_three xs ys zs)

pub tracks_more : (names keys : List (List ℕ)) (globals : List Located) (entries new : List (PlaceKey × ℕ)) (g : Located) (n : ℕ)
    → Tracks names globals keys entries → n ≡ length globals → is_some (lookup (is_same_key (place_key g)) entries) ≡ false
    → new ≡ insert_entry is_same_key entries (place_key g) n
    → Tracks names (globals ++ g ∷ []) (keys ++ key_of g.name ∷ []) new
tracks_more names keys globals entries new g n h len free e =
    record {
      same = λ key.
          new_append key keys (key_of g.name ∷ []) ∙ ap (λ b. b && is_new key (key_of g.name ∷ [])) (h.same key)
          ∙ sym (new_append key (names ++ global_names globals) (key_of g.name ∷ []))
          ∙ ap (is_new key) (append_three names (global_names globals) (key_of g.name ∷ []))
          ∙ ap (λ (ks : List (List ℕ)). is_new key (names ++ ks)) (sym (names_more globals g));
      numbers =
          e ∙ inserted (place_key g) n entries free
          ∙ ap (λ (es : List (PlaceKey × ℕ)). es ++ (place_key g, n) ∷ []) h.numbers
          ∙ ap (λ (m : ℕ). keys_with_numbers 0 globals ++ (place_key g, m) ∷ []) (len ∙ from_zero (length globals))
          ∙ sym (numbered_more 0 globals g);
    }
