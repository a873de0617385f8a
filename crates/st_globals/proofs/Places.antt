-- What stands for a variable: a global that has its place. It means what the variable meant, and has its type.
use Rattle.std.proofs.Common.{◌≡◌, ℕ, zero, suc, ◌+◌, Bool, true, false, ◌&&◌, ◌||◌, ◌==◌, if◌then◌else◌, List, [], ◌∷◌, length, Option, Some, None, Result, Ok, refl, sym, subst, ap, ◌∙◌, arith, eqb-true}
use Rattle.std.specs.Prelude.{All, slice_get}
use Rattle.std.specs.List.{list_any}
use Rattle.std.proofs.lemmas.List.Elements.{All-head, All-tail}
use Rattle.std.proofs.lemmas.Option.{slice_get_past}
use Rattle.memory_areas.specs.Access.{and_then, area_named}
use Rattle.memory_areas.specs.declared.place.Area.{Area}
use Rattle.memory_areas.specs.declared.place.Area.TheVariants as place
use Rattle.memory_areas.specs.declared.place.AreaName.{AreaName}
use Rattle.memory_areas.specs.declared.place.AreaName.TheVariants as area
use Rattle.memory_areas.specs.declared.place.Place.{Place}
use Rattle.s7_base.specs.declared.outcome.Fault.{Fault}
use Rattle.s7_base.specs.declared.word.Width.{Width}
use Rattle.s7_base.specs.declared.word.Width.TheVariants as width
use Rattle.st_tree.specs.Calls.{check_access, located_actual}
use Rattle.st_tree.specs.PlaceRules.{is_located, is_place}
use Rattle.st_tree.specs.Proper.{IsGlobal}
use Rattle.st_tree.specs.State.{State, db_number, depth, di_number, place_of, reference_of, there}
use Rattle.st_tree.specs.TypeRules.{is_type, where_true}
use Rattle.st_tree.specs.Values.{type_of_width, width_at}
use Rattle.st_tree.specs.WellTyped.{UnitScope, is_seen, type_outside, variable_type}
use Rattle.st_tree.specs.declared.expr.StType.{StType}
use Rattle.st_tree.specs.declared.expr.StType.TheVariants as type
use Rattle.st_tree.specs.declared.expr.Var.{Var}
use Rattle.st_tree.specs.declared.expr.Var.TheVariants as var
use Rattle.st_tree.specs.declared.program.Located.{Located}
use Rattle.st_tree.specs.declared.state.Reference.{Reference}
use Rattle.st_tree.specs.declared.state.Reference.TheVariants as reference
use Rattle.st_tree.proofs.Common.{and_parts}
use Rattle.st_globals.specs.Globals.{global_or, is_named, named_var, number_from, stands_for}

-- equal numbers
equal : (m n : ℕ) → (m == n) ≡ true → m ≡ n
equal m n h = eqb-true m n h

-- A global that stands for a place

-- its area is the one that the name means, whatever blocks are open
area_is : (a : Area) (n : AreaName) → is_named a n ≡ true → (db di activation : ℕ) → a ≡ area_named n db di activation
area_is place.I area.I h db di activation = refl
area_is place.Q area.Q h db di activation = refl
area_is place.M area.M h db di activation = refl
area_is a n h db di activation = cc

same_type : (w : Width) (ty : StType) → is_type (type_of_width w) ty ≡ true → type_of_width w ≡ ty
same_type width.Bit type.Bool h = refl
same_type width.Byte type.Byte h = refl
same_type width.Word type.Word h = refl
same_type width.Dword type.Dword h = refl
same_type w ty h = cc

width_is : (w : Width) → width_at (type_of_width w) ≡ w
width_is width.Bit = refl
width_is width.Byte = refl
width_is width.Word = refl
width_is width.Dword = refl

located_is : (a : Area) (n : AreaName) → is_named a n ≡ true → (w : Width) (byte bit : ℕ) → is_located a w byte bit ≡ is_place n w byte bit
located_is place.I area.I h w byte bit = refl
located_is place.Q area.Q h w byte bit = refl
located_is place.M area.M h w byte bit = refl
located_is a n h w byte bit = cc

-- what a global and the place for which it stands have in common
pub record Stands (g : Located) (a : AreaName) (byte bit : ℕ) (w : Width) : Type 0 where
  pub area : is_named g.place.area a ≡ true
  pub byte_is : byte ≡ g.place.byte
  pub bit_is : bit ≡ g.place.bit
  pub type : type_of_width w ≡ g.ty

stands_by : (g : Located) (a : AreaName) (byte bit : ℕ) (w : Width) → stands_for g (var.Direct a byte bit w) ≡ true
    → Stands g a byte bit w
stands_by g a byte bit w h =
    let p = and_parts (is_named g.place.area a && byte == g.place.byte && bit == g.place.bit) (is_type (type_of_width w) g.ty) h in
    let q = and_parts (is_named g.place.area a && byte == g.place.byte) (bit == g.place.bit) p.0 in
    let r = and_parts (is_named g.place.area a) (byte == g.place.byte) q.0 in
    record {
      area = r.0;
      byte_is = equal byte g.place.byte r.1;
      bit_is = equal bit g.place.bit q.1;
      type = same_type w g.ty p.1;
    }

abbrev place_at : Area → ℕ → ℕ → Place
place_at x byte bit = record { area = x; byte = byte; bit = bit }

place_is : (g : Located) (a : AreaName) (byte bit : ℕ) (w : Width) → Stands g a byte bit w → (s : State) → place_of a byte bit s ≡ g.place
place_is g a byte bit w h s =
    ap (λ (x : Area). place_at x byte bit) (sym (area_is g.place.area a h.area (db_number s) (di_number s) (depth s)))
    ∙ ap (λ (n : ℕ). place_at g.place.area n bit) h.byte_is ∙ ap (λ (n : ℕ). place_at g.place.area g.place.byte n) h.bit_is

-- The global that is found

-- the global of a number that was found, where the first has a number
abbrev Found : ℕ → List Located → Var → Option ℕ → Type 0
Found k globals v None = list_any (λ (g : Located). stands_for g v) globals ≡ false
Found k globals v (Some n) = (m : ℕ) × (g : Located) × (n ≡ k + m) × (slice_get globals m ≡ Some g) × (stands_for g v ≡ true)

any_next : (a b : Bool) → a ≡ false → b ≡ false → (a || b) ≡ false
any_next true b h k = cc
any_next false b h k = k

found_next : (k : ℕ) (g : Located) (rest : List Located) (v : Var) → stands_for g v ≡ false → (o : Option ℕ) → Found (suc k) rest v o
    → Found k (g ∷ rest) v o
found_next k g rest v apart None h = any_next (stands_for g v) (list_any (λ (x : Located). stands_for x v) rest) apart h
found_next k g rest v apart (Some n) h = (suc h.0, h.1, omega (arith, h.2), h.3, h.4)

found_by : (k : ℕ) (g : Located) (rest : List Located) (v : Var) → Found (suc k) rest v (number_from (suc k) rest v) → (b : Bool)
    → stands_for g v ≡ b → Found k (g ∷ rest) v (if b then Some k else number_from (suc k) rest v)
found_by k g rest v h true e = (0, g, omega arith, refl, e)
found_by k g rest v h false e = found_next k g rest v e (number_from (suc k) rest v) h

found_at : (k : ℕ) (globals : List Located) (v : Var) → Found k globals v (number_from k globals v)
found_at k [] v = refl
found_at k (g ∷ rest) v = found_by k g rest v (found_at (suc k) rest v) (stands_for g v) refl

abbrev FoundFirst : List Located → Var → Option ℕ → Type 0
FoundFirst globals v None = list_any (λ (g : Located). stands_for g v) globals ≡ false
FoundFirst globals v (Some n) = (g : Located) × (slice_get globals n ≡ Some g) × (stands_for g v ≡ true)

first_by : (globals : List Located) (v : Var) (o : Option ℕ) → Found 0 globals v o → FoundFirst globals v o
first_by globals v None h = h
first_by globals v (Some n) h =
    let e : h.0 ≡ n = omega (arith, h.2) in (h.1, subst (λ (m : ℕ). slice_get globals m ≡ Some h.1) e h.3, h.4)

found_first : (globals : List Located) (v : Var) → FoundFirst globals v (number_from 0 globals v)
found_first globals v = first_by globals v (number_from 0 globals v) (found_at 0 globals v)

-- No statement names the place of a global

none_for : (n : ℕ) (globals : List Located) → list_any (λ (g : Located). stands_for g (var.Global n)) globals ≡ false
none_for n [] = refl
none_for n (g ∷ rest) = none_for n rest

none_by : (globals : List Located) (v : Var) (o : Option ℕ) → FoundFirst globals v o
    → list_any (λ (g : Located). stands_for g (global_or o v)) globals ≡ false
none_by globals v None h = h
none_by globals v (Some n) h = none_for n globals

pub no_place : (globals : List Located) (v : Var) → list_any (λ (g : Located). stands_for g (named_var globals v)) globals ≡ false
no_place globals (var.Direct a byte bit w) =
    none_by globals (var.Direct a byte bit w) (number_from 0 globals (var.Direct a byte bit w))
    (found_first globals (var.Direct a byte bit w))
no_place [] v = refl
no_place (g ∷ rest) (var.Register r) = no_place rest (var.Register r)
no_place (g ∷ rest) (var.Local i) = no_place rest (var.Local i)
no_place (g ∷ rest) (var.Formal i) = no_place rest (var.Formal i)
no_place (g ∷ rest) (var.Global i) = no_place rest (var.Global i)
no_place (g ∷ rest) (var.InBlock n byte bit w) = no_place rest (var.InBlock n byte bit w)

-- A text that has no globals names none. So what stands for one does not matter, and may be one that does not exist

abbrev pub safe_var : List Located → Var → Var
safe_var globals (var.Global i) = var.Global (length globals + i)
safe_var globals (var.Direct a byte bit w) = named_var globals (var.Direct a byte bit w)
safe_var globals v = v

-- References

past : (globals : List Located) (i : ℕ) → slice_get globals (length globals + i) ≡ None
past globals i = slice_get_past globals (length globals + i) (omega arith)

nothing : (i : ℕ) → slice_get {X = Located} [] i ≡ None
nothing i = refl

reference_by : (globals : List Located) (a : AreaName) (byte bit : ℕ) (w : Width) (o : Option ℕ)
    → FoundFirst globals (var.Direct a byte bit w) o → (s : State)
    → reference_of globals (global_or o (var.Direct a byte bit w)) s ≡ reference_of [] (var.Direct a byte bit w) s
reference_by globals a byte bit w None h s = refl
reference_by globals a byte bit w (Some n) h s =
    let stands : Stands h.0 a byte bit w = stands_by h.0 a byte bit w h.2 in
    ap (λ (o : Option Located). and_then (there o) (λ (g : Located). Ok (reference.Place g.place g.ty))) h.1
    ∙ ap (λ (p : Place). Ok (reference.Place p h.0.ty)) (sym (place_is h.0 a byte bit w stands s))
    ∙ ap (λ (ty : StType). Ok (reference.Place (place_of a byte bit s) ty)) (sym stands.type)

pub same_reference : (globals : List Located) (v : Var) → reference_of globals (safe_var globals v) ≡ reference_of [] v
same_reference globals (var.Register r) = refl
same_reference globals (var.Local i) = refl
same_reference globals (var.Formal i) = refl
same_reference globals (var.Global i) =
    λ k s. and_then (there (past globals i k)) (λ (g : Located). Ok (reference.Place g.place g.ty))
same_reference globals (var.Direct a byte bit w) =
    λ k s. reference_by globals a byte bit w (number_from 0 globals (var.Direct a byte bit w))
    (found_first globals (var.Direct a byte bit w)) s k
same_reference globals (var.InBlock n byte bit w) = refl

-- but for a formal, an actual is located by its reference
actual_by : (globals : List Located) (a : AreaName) (byte bit : ℕ) (w : Width) (o : Option ℕ) (s : State)
    → located_actual globals (global_or o (var.Direct a byte bit w)) s
    ≡ and_then (reference_of globals (global_or o (var.Direct a byte bit w)) s) (λ r. check_access r s)
actual_by globals a byte bit w None s = refl
actual_by globals a byte bit w (Some n) s = refl

pub same_actual : (globals : List Located) (v : Var) (s : State) → located_actual globals (safe_var globals v) s ≡ located_actual [] v s
same_actual globals (var.Register r) s = refl
same_actual globals (var.Local i) s = refl
same_actual globals (var.Formal i) s = refl
same_actual globals (var.Global i) s =
    λ k. and_then (same_reference globals (var.Global i) k s) (λ r. check_access r s)
same_actual globals (var.Direct a byte bit w) s =
    actual_by globals a byte bit w (number_from 0 globals (var.Direct a byte bit w)) s
    ∙ ap (λ (r : Result Reference Fault). and_then r (λ x. check_access x s))
    (reference_by globals a byte bit w (number_from 0 globals (var.Direct a byte bit w)) (found_first globals (var.Direct a byte bit w)) s)
same_actual globals (var.InBlock n byte bit w) s = refl

-- Types

-- what all have, one that is found has
some_is : {X : Type 0} (y x : X) → Some y ≡ Some x → y ≡ x
some_is y x e = cc

found_all : (P : Located → Type 0) (gs : List Located) → All P gs → (k : ℕ) (x : Located) → slice_get gs k ≡ Some x → P x
found_all P [] h k x e = cc
found_all P (y ∷ gs) h zero x e = subst P (some_is y x e) (All-head P y gs h)
found_all P (y ∷ gs) h (suc k) x e = found_all P gs (All-tail P y gs h) k x e

placed : (a : AreaName) (byte bit : ℕ) (w : Width) (x : Located) → Stands x a byte bit w → IsGlobal x → is_place a w byte bit ≡ true
placed a byte bit w x stands h =
    sym (located_is x.place.area a stands.area w byte bit)
    ∙ ap (λ (v : Width). is_located x.place.area v byte bit) (sym (width_is w) ∙ ap width_at stands.type)
    ∙ ap (λ (n : ℕ). is_located x.place.area (width_at x.ty) n bit) stands.byte_is
    ∙ ap (λ (n : ℕ). is_located x.place.area (width_at x.ty) x.place.byte n) stands.bit_is
    ∙ h.place

clash : (o : Option StType) (ty : StType) → o ≡ None → o ≡ Some ty → ⊥
clash o ty e f = cc

module _ (sight : UnitScope) (empty : sight.globals ≡ []) (globals : List Located) (are : All IsGlobal globals)
    (seen : All (λ (g : Located). is_seen sight g.name ≡ true) globals)
  where
    abbrev wide : UnitScope
    wide = record sight { globals = globals }

    none_outside : (i : ℕ) → type_outside sight (slice_get sight.globals i) ≡ None
    none_outside i = ap (λ (gs : List Located). type_outside sight (slice_get gs i)) empty ∙ ap (type_outside sight) (nothing i)

    type_by : (a : AreaName) (byte bit : ℕ) (w : Width) (o : Option ℕ) → FoundFirst globals (var.Direct a byte bit w) o
        → variable_type wide (global_or o (var.Direct a byte bit w)) ≡ variable_type sight (var.Direct a byte bit w)
    type_by a byte bit w None h = refl
    type_by a byte bit w (Some n) h =
        let g : Located = h.0 in
        let stands : Stands h.0 a byte bit w = stands_by h.0 a byte bit w h.2 in
        let is_global : IsGlobal g = found_all IsGlobal globals are n g h.1 in
        ap (type_outside wide) h.1
        ∙ ap (λ b. where_true b g.ty) (found_all (λ (x : Located). is_seen sight x.name ≡ true) globals seen n g h.1)
        ∙ ap Some (sym stands.type)
        ∙ sym (ap (λ b. where_true b (type_of_width w)) (placed a byte bit w g stands is_global))

    pub same_variable : (v : Var) → variable_type wide (safe_var globals v) ≡ variable_type sight v
    same_variable (var.Register r) = refl
    same_variable (var.Local i) = refl
    same_variable (var.Formal i) = refl
    same_variable (var.Global i) = ap (type_outside wide) (past globals i) ∙ sym (none_outside i)
    same_variable (var.Direct a byte bit w) =
        type_by a byte bit w (number_from 0 globals (var.Direct a byte bit w)) (found_first globals (var.Direct a byte bit w))
    same_variable (var.InBlock n byte bit w) = refl

    -- what has a type is no global
    pub safe_is : (v : Var) (ty : StType) → variable_type sight v ≡ Some ty → safe_var globals v ≡ named_var globals v
    safe_is (var.Register r) ty h = refl
    safe_is (var.Local i) ty h = refl
    safe_is (var.Formal i) ty h = refl
    safe_is (var.Global i) ty h = absurd (clash (type_outside sight (slice_get sight.globals i)) ty (none_outside i) h)
    safe_is (var.Direct a byte bit w) ty h = refl
    safe_is (var.InBlock n byte bit w) ty h = refl
