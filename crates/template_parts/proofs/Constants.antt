-- Waiting units, one of which has a constant that takes a value, as the program has it in a cell.
use Rattle.std.proofs.Common.{◌≡◌, ◌≢◌, ◌⊎◌, inl, inr, ⊎_elim, ℕ, zero, suc, ◌+◌, ◌<◌, List, [], ◌∷◌, ◌++◌, length, Option, Some, None, Ok, refl, sym, ap, subst, ◌∙◌, arith}
use Rattle.std.specs.Prelude.{option_and_then, slice_get, slice_set}
use Rattle.std.proofs.lemmas.Bool.{cases_eq}
use Rattle.std.proofs.lemmas.Option.{slice_get_within}
use Rattle.memory_areas.specs.Areas.{Contents}
use Rattle.memory_areas.specs.declared.place.Place.{Place}
use Rattle.s7_base.specs.declared.word.Width.{Width}
use Rattle.stl_tree.specs.Calls.{cell_of}
use Rattle.st_tree.specs.Fitting.{IsOf}
use Rattle.st_tree.specs.State.{Activation as Running, locals_of, read_place, with_local, write_place}
use Rattle.st_tree.specs.Values.{type_of_width}
use Rattle.st_tree.specs.declared.state.Value.{Value}
use Rattle.st_tree.proofs.Locals.{set_length, set_other, set_same}
use Rattle.template_parts.specs.Related.{AreApart, AreHeld, Constant, HasNoConstant, IsHeld, StaysAsWas, Wait, Waiting, constant_at}
use Rattle.template_parts.proofs.AfterWrites.{other_cell, read_after}

-- Constants of a call

-- the constant at a position, none where the call gives a variable
abbrev pub entry : List (Option Constant) → ℕ → Option Constant
entry constants a = option_and_then (λ c. c) (slice_get constants a)

-- a local that has none of them is not the local of one
no_local : (constants : List (Option Constant)) (i a : ℕ) (c : Constant) → HasNoConstant constants i → entry constants a ≡ Some c → c.local ≢ i
no_local [] i a c h e = cc
no_local (None ∷ constants) i zero c h e = cc
no_local (None ∷ constants) i (suc a) c h e = no_local constants i a c h e
no_local (Some x ∷ constants) i zero c h e = λ same. h.0 cc
no_local (Some x ∷ constants) i (suc a) c h e = no_local constants i a c h.1 e

-- two of them have two locals
apart_at : (constants : List (Option Constant)) (a b : ℕ) (c x : Constant) → AreApart constants → entry constants a ≡ Some c → entry constants b ≡ Some x
    → a ≢ b → x.local ≢ c.local
apart_at [] a b c x h e f other = cc
apart_at (None ∷ constants) zero b c x h e f other = cc
apart_at (None ∷ constants) (suc a) zero c x h e f other = cc
apart_at (None ∷ constants) (suc a) (suc b) c x h e f other = apart_at constants a b c x h e f (λ same. other (ap suc same))
apart_at (Some y ∷ constants) zero zero c x h e f other = absurd (other refl)
apart_at (Some y ∷ constants) zero (suc b) c x h e f other =
    λ same. no_local constants y.local b x h.0 f (same ∙ sym (ap (λ (z : Constant). z.local) (some_of y c e)))
  where
    some_of : (y c : Constant) → Some y ≡ Some c → y ≡ c
    some_of y c e = cc
apart_at (Some y ∷ constants) (suc a) zero c x h e f other =
    λ same. no_local constants y.local a c h.0 e (sym same ∙ sym (ap (λ (z : Constant). z.local) (some_of y x f)))
  where
    some_of : (y c : Constant) → Some y ≡ Some c → y ≡ c
    some_of y c e = cc
apart_at (Some y ∷ constants) (suc a) (suc b) c x h e f other = apart_at constants a b c x h.1 e f (λ same. other (ap suc same))

-- Reading a constant

-- one that is held has a value
abbrev pub Held : Contents → Place → Width → Option Value → Type 0
Held memory p w o = (v : Value) × (o ≡ Some v) × (read_place (type_of_width w) p memory ≡ Ok v)

held : (memory : Contents) (p : Place) (w : Width) (o : Option Value) → IsHeld memory p w o → Held memory p w o
held memory p w None h = elim h [ ]
held memory p w (Some v) h = (v, refl, h)

held_in : (memory : Contents) (depth k : ℕ) (constants : List (Option Constant)) (unit : Running) (a : ℕ) (c : Constant)
    → AreHeld memory depth k constants unit → entry constants a ≡ Some c → IsHeld memory (cell_of depth (k + a)) c.width (slice_get unit.locals c.local)
held_in memory depth k [] unit a c h e = cc
held_in memory depth k (None ∷ constants) unit zero c h e = cc
held_in memory depth k (None ∷ constants) unit (suc a) c h e =
    let same : suc k + a ≡ k + suc a = omega arith in
    subst (λ n. IsHeld memory (cell_of depth n) c.width (slice_get unit.locals c.local)) same (held_in memory depth (suc k) constants unit a c h e)
held_in memory depth k (Some x ∷ constants) unit zero c h e =
    let here : x ≡ c = cc in
    let same : k ≡ k + zero = omega arith in
    subst (λ n. IsHeld memory (cell_of depth n) c.width (slice_get unit.locals c.local)) same
    (subst (λ (y : Constant). IsHeld memory (cell_of depth k) y.width (slice_get unit.locals y.local)) here h.0)
held_in memory depth k (Some x ∷ constants) unit (suc a) c h e =
    let same : suc k + a ≡ k + suc a = omega arith in
    subst (λ n. IsHeld memory (cell_of depth n) c.width (slice_get unit.locals c.local)) same (held_in memory depth (suc k) constants unit a c h.1 e)

-- that of a waiting unit
held_at : (memory : Contents) (start : ℕ) (waiting : List Waiting) (units : List Running) (d k : ℕ) (c : Constant)
    → Wait memory start waiting units → constant_at waiting d k ≡ Some c
    → IsHeld memory (cell_of (suc (start + d)) k) c.width (slice_get (locals_of (slice_get units d)) c.local)
held_at memory start [] units d k c h e = cc
held_at memory start (was ∷ waiting) [] d k c h e = absurd h
held_at memory start (was ∷ waiting) (unit ∷ units) zero k c h e =
    let same : suc start ≡ suc (start + zero) = omega arith in
    let first : 0 + k ≡ k = omega arith in
    subst (λ n. IsHeld memory (cell_of n k) c.width (slice_get unit.locals c.local)) same
    (subst (λ n. IsHeld memory (cell_of (suc start) n) c.width (slice_get unit.locals c.local)) first
    (held_in memory (suc start) 0 was.constants unit k c h.1 e))
held_at memory start (was ∷ waiting) (unit ∷ units) (suc d) k c h e =
    let same : suc (suc start + d) ≡ suc (start + suc d) = omega arith in
    subst (λ n. IsHeld memory (cell_of n k) c.width (slice_get (locals_of (slice_get units d)) c.local)) same
    (held_at memory (suc start) waiting units d k c h.2 e)

pub constant_held : (memory : Contents) (waiting : List Waiting) (units : List Running) (d k : ℕ) (c : Constant)
    → Wait memory 0 waiting units → constant_at waiting d k ≡ Some c
    → Held memory (cell_of (suc d) k) c.width (slice_get (locals_of (slice_get units d)) c.local)
constant_held memory waiting units d k c h e =
    let same : suc (0 + d) ≡ suc d = omega arith in
    held memory (cell_of (suc d) k) c.width (slice_get (locals_of (slice_get units d)) c.local)
    (subst (λ n. IsHeld memory (cell_of n k) c.width (slice_get (locals_of (slice_get units d)) c.local)) same
    (held_at memory 0 waiting units d k c h e))

-- Writing it

module _ (before after : Contents) (d k i : ℕ) (w : Width) (v : Value) (fits : IsOf (type_of_width w) v)
    (wrote : write_place (type_of_width w) (cell_of (suc d) k) v before ≡ Ok after) where
  abbrev given : Constant
  given = record { local = i; width = w }

  -- another one is held as before
  still : (at j : ℕ) (u : Width) (o : Option Value) → (at ≡ suc d → j ≡ k → ⊥) → IsHeld before (cell_of at j) u o → IsHeld after (cell_of at j) u o
  still at j u None apart h = h
  still at j u (Some x) apart h = other_cell (suc d) k w v before after wrote at j u apart ∙ h

  other_unit : (at : ℕ) → at ≢ suc d → (j : ℕ) (constants : List (Option Constant)) (unit : Running)
      → AreHeld before at j constants unit → AreHeld after at j constants unit
  other_unit at apart j [] unit h = tt
  other_unit at apart j (None ∷ constants) unit h = other_unit at apart (suc j) constants unit h
  other_unit at apart j (Some c ∷ constants) unit h = (
    still at j c.width (slice_get unit.locals c.local) (λ same equal. apart same) h.0,
    other_unit at apart (suc j) constants unit h.1,
  )

  -- the unit that gave it, with the value in the local
  abbrev changed : Running → Running
  changed unit = record unit { locals = slice_set unit.locals i v }

  own_unit : (j : ℕ) (constants : List (Option Constant)) (unit : Running) → i < length unit.locals
      → ((a : ℕ) (c : Constant) → entry constants a ≡ Some c → j + a ≡ k → c ≡ given)
      → ((a : ℕ) (c : Constant) → entry constants a ≡ Some c → j + a ≢ k → c.local ≢ i)
      → AreHeld before (suc d) j constants unit → AreHeld after (suc d) j constants (changed unit)
  own_unit j [] unit room own other h = tt
  own_unit j (None ∷ constants) unit room own other h =
      own_unit (suc j) constants unit room (λ a c e same. own (suc a) c e (omega arith)) (λ a c e apart. other (suc a) c e (λ same. apart (omega arith))) h
  own_unit j (Some c ∷ constants) unit room own other h = (
    ⊎_elim here there (cases_eq j k),
    own_unit (suc j) constants unit room (λ a x e same. own (suc a) x e (omega arith)) (λ a x e apart. other (suc a) x e (λ same. apart (omega arith))) h.1,
  )
    where
      here : j ≡ k → IsHeld after (cell_of (suc d) j) c.width (slice_get (slice_set unit.locals i v) c.local)
      here same =
          let is : c ≡ given = own 0 c refl (omega arith) in
          subst (λ (x : Constant). IsHeld after (cell_of (suc d) j) x.width (slice_get (slice_set unit.locals i v) x.local)) (sym is)
          (subst (λ (o : Option Value). IsHeld after (cell_of (suc d) j) w o) (sym (set_same unit.locals i v room))
          (subst (λ n. read_place (type_of_width w) (cell_of (suc d) n) after ≡ Ok v) (sym same)
          (read_after w (cell_of (suc d) k) v before after fits wrote)))

      there : (j ≡ k → ⊥) → IsHeld after (cell_of (suc d) j) c.width (slice_get (slice_set unit.locals i v) c.local)
      there apart =
          subst (λ (o : Option Value). IsHeld after (cell_of (suc d) j) c.width o)
          (sym (set_other unit.locals i c.local v (other 0 c refl (λ same. apart (omega arith)))))
          (still (suc d) j c.width (slice_get unit.locals c.local) (λ deep equal. apart equal) h.0)

  -- it stays as it was
  stays : (was : Waiting) (unit : Running) → entry was.constants k ≡ Some given → StaysAsWas was unit → StaysAsWas was (changed unit)
  stays was unit e h =
      record {
        apart = h.apart;
        formals = h.formals;
        as_many = set_length unit.locals i v ∙ h.as_many;
        locals = λ j none. set_other unit.locals i j v (λ same. no_local was.constants j k given none e (sym same)) ∙ h.locals j none;
      }

  others_wait : (start : ℕ) → d < start → (waiting : List Waiting) (units : List Running) → Wait before start waiting units → Wait after start waiting units
  others_wait start behind [] [] h = tt
  others_wait start behind (was ∷ waiting) (unit ∷ units) h = (
    h.0,
    other_unit (suc start) (λ same. absurd (omega arith)) 0 was.constants unit h.1,
    others_wait (suc start) (omega arith) waiting units h.2,
  )
  others_wait start behind waiting units h = absurd h

  wait_from : (start n : ℕ) → start + n ≡ d → (waiting : List Waiting) (units : List Running) → constant_at waiting n k ≡ Some given
      → i < length (locals_of (slice_get units n)) → Wait before start waiting units → Wait after start waiting (with_local n i v units)
  wait_from start n same [] units e room h = cc
  wait_from start n same (was ∷ waiting) [] e room h = absurd h
  wait_from start zero same (was ∷ waiting) (unit ∷ units) e room h =
      let here : start ≡ d = omega arith in (
        stays was unit e h.0,
        subst (λ n. AreHeld after (suc n) 0 was.constants (changed unit)) (sym here)
            (own_unit 0 was.constants unit room (λ a c f at. the_same was a c e f (omega arith))
            (λ a c f apart. apart_at was.constants k a given c h.0.apart e f (λ at. apart (omega arith)))
            (subst (λ n. AreHeld before (suc n) 0 was.constants unit) here h.1)),
        others_wait (suc start) (omega arith) waiting units h.2,
      )
    where
      the_same : (was : Waiting) (a : ℕ) (c : Constant) → entry was.constants k ≡ Some given → entry was.constants a ≡ Some c → a ≡ k → c ≡ given
      the_same was a c e f at = cc
  wait_from start (suc n) same (was ∷ waiting) (unit ∷ units) e room h = (
    h.0,
    other_unit (suc start) (λ at. absurd (omega arith)) 0 was.constants unit h.1,
    wait_from (suc start) n (omega arith) waiting units e room h.2,
  )

  pub wait_put : (waiting : List Waiting) (units : List Running) → constant_at waiting d k ≡ Some given
      → i < length (locals_of (slice_get units d)) → Wait before 0 waiting units → Wait after 0 waiting (with_local d i v units)
  wait_put waiting units e room h = wait_from 0 d (omega arith) waiting units e room h
