-- What operators give is of the type that the rules say, by one lemma a class of operators.
use Rattle.st_tree.proofs.Common.{◌≡◌, ℕ, ◌<◌, ◌^◌, Bool, true, false, ◌&&◌, if◌then◌else◌, ℤ, pos, negsuc, int_lt, Option, Some, None, Result, Ok, Err, int_eq, refl, sym, ap, ◌∙◌, subst, arith, ints, and_parts, and_then, Contents, Place, Fault, Width, IsOf, is_conversion, binary_value, selected_value, converted_value, shift_value, unary_value, State, pointed_at, has_bits, is_type, type_of_binary, type_of_choice, type_of_conversion, type_of_read, type_of_shift, type_of_unary, type_on_equals, where_true, Value, fit, flag, is_set, pattern, type_of_width, typed, on_type, BinaryOp, ShiftOp, StType, UnaryOp}
use Rattle.std.proofs.Common.{pow_pos}
use Rattle.memory_areas.specs.Access.{read_bit}
use Rattle.bcd_words.specs.Bcd.{bcd_value}
use Rattle.st_tree.specs.Operators.{from_digits}
use Rattle.st_tree.specs.State.{area_read, read_place}
use Rattle.st_tree.specs.declared.expr.BinaryOp.TheVariants as binary
use Rattle.st_tree.specs.declared.expr.StType.TheVariants as type
use Rattle.st_tree.specs.declared.expr.UnaryOp.TheVariants as unary
use Rattle.st_tree.proofs.TypingEquations.{same_type}

-- a value, where there are a type and one, is of the type
abbrev pub Typed : Option StType → Result Value Fault → Type 0
Typed None r = Unit {0}
Typed (Some ty) (Ok v) = IsOf ty v
Typed (Some ty) (Err f) = Unit {0}

-- A number that was fitted to a type fits it

pub pattern_below : (k : ℕ) (z : ℤ) → pattern k z < 2 ^ k
pattern_below k (pos n) = let p = pow_pos k in omega arith
pattern_below k (negsuc n) = let p = pow_pos k in omega arith

pub fits_again : (ty : StType) (z : ℤ) → fit ty (fit ty z) ≡ fit ty z
fits_again type.Bool z = grind (arith, ints)
fits_again ty z = grind (arith, ints)

pub typed_is : (ty : StType) (z : ℤ) → IsOf ty (typed ty z)
typed_is ty z = record { type = refl; number = fits_again ty z }

-- a value of a type is the one that its number leaves there
pub is_typed : (ty : StType) (v : Value) → IsOf ty v → v ≡ typed ty v.n
is_typed ty v h =
    ap (λ (t : StType). record { ty = t; n = v.n }) h.type ∙ ap (λ n. record { ty = ty; n = n }) (sym h.number)

-- of the type of an operand
typed_as : (ty : StType) (v : Value) (z : ℤ) → IsOf ty v → IsOf ty (typed v.ty z)
typed_as ty v z h = subst (λ (t : StType). IsOf t (typed v.ty z)) h.type (typed_is v.ty z)

pub flag_is : (b : Bool) → IsOf type.Bool (flag b)
flag_is true = record { type = refl; number = refl }
flag_is false = record { type = refl; number = refl }

-- Tests of types

pub fault_typed : (o : Option StType) (f : Fault) → Typed o (Err f)
fault_typed None f = tt
fault_typed (Some ty) f = tt

pub where_typed : (b : Bool) (ty : StType) (r : Result Value Fault) → (b ≡ true → Typed (Some ty) r)
    → Typed (where_true b ty) r
where_typed true ty r h = h refl
where_typed false ty r h = tt

if_typed : (b : Bool) (o : Option StType) (r : Result Value Fault) → (b ≡ true → Typed o r)
    → Typed (if b then o else None) r
if_typed true o r h = h refl
if_typed false o r h = tt

pub then_typed : {A : Type 0} (r : Result A Fault) (f : A → Value) (ty : StType) → ((x : A) → IsOf ty (f x))
    → Typed (Some ty) (and_then r (λ x. Ok (f x)))
then_typed (Ok x) f ty h = h x
then_typed (Err e) f ty h = tt

-- Operands

-- by the operand's type and value, where it has them
pub on_then : (rule : StType → Option StType) (f : Value → Result Value Fault)
    → ((ty : StType) (v : Value) → IsOf ty v → Typed (rule ty) (f v))
    → (o : Option StType) (r : Result Value Fault) → Typed o r → Typed (on_type o rule) (and_then r f)
on_then rule f given None r h = tt
on_then rule f given (Some ty) (Ok v) h = given ty v h
on_then rule f given (Some ty) (Err e) h = fault_typed (rule ty) e

-- by those of two operands
pub on_both : (rule : StType → StType → Option StType) (f : Value → Value → Result Value Fault)
    → ((s t : StType) (v w : Value) → IsOf s v → IsOf t w → Typed (rule s t) (f v w))
    → (a b : Option StType) (r q : Result Value Fault) → Typed a r → Typed b q
    → Typed (on_type a (λ ty. on_type b (rule ty))) (and_then r (λ v. and_then q (f v)))
on_both rule f given a b r q h k =
    on_then (λ ty. on_type b (rule ty)) (λ v. and_then q (f v))
    (λ s v i. on_then (rule s) (f v) (λ t w j. given s t v w i j) b q k) a r h

-- Operators

digits_typed : (ty : StType) (r : Result ℤ Fault) → Typed (Some ty) (from_digits ty r)
digits_typed ty (Ok z) = typed_is ty z
digits_typed ty (Err f) = tt

pub one_typed : (op : UnaryOp) (ty : StType) (v : Value) → IsOf ty v → Typed (type_of_unary op ty) (unary_value op v)
one_typed unary.BcdToInt ty v h =
    where_typed (is_type ty type.Word) type.Int _ (λ e. digits_typed type.Int (bcd_value 3 (pattern 16 v.n)))
one_typed unary.BcdToDint ty v h =
    where_typed (is_type ty type.Dword) type.Dint _ (λ e. digits_typed type.Dint (bcd_value 7 (pattern 32 v.n)))
one_typed op ty v h = where_typed _ ty _ (λ e. typed_as ty v _ h)

divided_typed : (b : Bool) (f : Fault) (ty : StType) (v : Value) → IsOf ty v
    → Typed (Some ty) (if b then Err f else Ok v)
divided_typed true f ty v h = tt
divided_typed false f ty v h = h

equals_typed : (op : BinaryOp) (ty : StType) (v w : Value) → IsOf ty v
    → Typed (type_on_equals op ty) (binary_value op v w)
equals_typed binary.Lt ty v w h = flag_is _
equals_typed binary.Gt ty v w h = flag_is _
equals_typed binary.Le ty v w h = flag_is _
equals_typed binary.Ge ty v w h = flag_is _
equals_typed binary.Eq ty v w h = flag_is _
equals_typed binary.Ne ty v w h = flag_is _
equals_typed binary.Div ty v w h =
    where_typed _ ty _ (λ e. divided_typed (int_eq w.n (pos 0)) _ ty _ (typed_as ty v _ h))
equals_typed binary.Mod ty v w h =
    where_typed _ ty _ (λ e. divided_typed (int_eq w.n (pos 0)) _ ty _ (typed_as ty v _ h))
equals_typed op ty v w h = where_typed _ ty _ (λ e. typed_as ty v _ h)

pub two_typed : (op : BinaryOp) (s t : StType) (v w : Value) → IsOf s v → IsOf t w
    → Typed (type_of_binary op s t) (binary_value op v w)
two_typed op s t v w h k =
    if_typed (is_type s t) (type_on_equals op s) (binary_value op v w) (λ e. equals_typed op s v w h)

pub converted_typed : (from to ty : StType) (v : Value)
    → Typed (on_type (type_of_conversion from to ty) (where_true (is_conversion from to))) (Ok (converted_value to v))
converted_typed from to ty v = by (is_type ty from) (is_conversion from to)
  where
    by : (b c : Bool) → Typed (on_type (where_true b to) (where_true c)) (Ok (converted_value to v))
    by true true = typed_is to v.n
    by true false = tt
    by false c = tt

-- a number of two that fits
pub either_fits : (b : Bool) (ty : StType) (m n : ℤ) → (b ≡ true → fit ty m ≡ m) → fit ty n ≡ n
    → fit ty (if b then m else n) ≡ (if b then m else n)
either_fits true ty m n h k = h refl
either_fits false ty m n h k = k

pub choice_typed : (gate : Value) (g a b : StType) (v w : Value) → IsOf a v → IsOf b w
    → Typed (type_of_choice g a b) (Ok (selected_value gate v w))
choice_typed gate g a b v w h k =
    where_typed (is_type g type.Bool && is_type a b) a (Ok (selected_value gate v w))
    (λ e.
    let same : b ≡ a = sym (same_type a b (and_parts (is_type g type.Bool) (is_type a b) e).1) in
    let other : IsOf a w = subst (λ (t : StType). IsOf t w) same k in
    record { type = h.type; number = either_fits (is_set gate) a w.n v.n (λ set. other.number) h.number })

shifted_is : (b : Bool) (ty : StType) (v w : Value) → IsOf ty v → IsOf ty w → IsOf ty (if b then v else w)
shifted_is true ty v w h k = h
shifted_is false ty v w h k = k

pub shifted_typed : (op : ShiftOp) (s t : StType) (v count : Value) → IsOf s v → IsOf t count
    → Typed (type_of_shift s t) (Ok (shift_value op v count))
shifted_typed op s t v count h k =
    where_typed (has_bits s && is_type t type.Int) s (Ok (shift_value op v count))
    (λ e. shifted_is (int_lt count.n (pos 0)) s v _ h (typed_as s v _ h))

-- Places

pub place_typed : (ty : StType) (p : Place) (m : Contents) → Typed (Some ty) (read_place ty p m)
place_typed type.Bool p m = then_typed (read_bit p m) flag type.Bool flag_is
place_typed ty p m = then_typed _ _ ty (λ n. typed_is ty (pos n))

pointed_typed : (ty : StType) (r : Result Place Fault) (m : Contents)
    → Typed (Some ty) (and_then r (λ place. read_place ty place m))
pointed_typed ty (Ok p) m = place_typed ty p m
pointed_typed ty (Err f) m = tt

pub area_typed : (w : Width) (ty : StType) (p : Value) (s : State) → Typed (type_of_read w ty) (area_read w p s)
area_typed w ty p s =
    where_typed (is_type ty type.Dword) (type_of_width w) (area_read w p s)
    (λ e. pointed_typed (type_of_width w) (pointed_at p s) s.memory)
