-- What lets a type hold itself through `Boxed`, as an expression holds its operands.
--
-- The check has to be told that a `Boxed` holds one value, and that it owns, lends and is coded by what
-- that value is. It looks for this file by the struct's name, and checks every line of it against the
-- struct.
use mathlib.Core.Path.{◌≡◌, refl}
use mathlib.Core.Former.{Former, this, const, pair, via}
use base.Stored.{gnil}
use base.Fml.{ftrue}
use denote.RattleType.{RattleType}
use denote.Memory.{part_of}
use denote.RawPtr.{Ptr}
use denote.Sharing.{nothing}
use denote.HoleLaws.{Alike}
use denote.HolePlaces.{Recodes, struct_places, laid, one_value}
use denote.Hole.Fix.{over}
use denote.Param.Weighed.{Weighed}
use denote.Model.Placed.{view_places}
use Rattle.std.specs.declared.boxed.Box.{Box}
use Rattle.std.specs.contracts.boxed.Box as box
use Rattle.std.specs.declared.alloc.Global.{Global}
use Rattle.std.specs.contracts.alloc.Global as heap
use Rattle.std.specs.contracts.impls.GlobalAllocator.TheImpl.{ghosts}
use Rattle.s7_base.specs.declared.boxed.Boxed.TheInside.{Inside}
use Rattle.s7_base.specs.declared.boxed.Boxed.TheView.{view, invariant}
use Rattle.s7_base.specs.contracts.boxed.Boxed as seen
use Rattle.s7_base.specs.contracts.boxed.Boxed.TheInside as stored

-- ---- as contracts see it: the value in the box

-- what a box holds is what its value holds
abbrev pub the_former : Former {0} → Former {0}
the_former value = value

-- a box is as deep as its value, so that a recursion down a tree is seen to end
abbrev pub the_weighed : {value : Former {0}} → Weighed value → Weighed (the_former value)
the_weighed depth = depth

-- ---- as memory has it: a struct of one field, a `Box`

-- where a box lies, which no type of its value changes
abbrev Location : Type 0
Location = Ptr × Global

-- the box that lies there with this value in it
abbrev box_at : {T : Type 0} → Location → T → Box T Global
box_at location value = record { ptr = location.0; alloc = location.1; value = value }

-- the fields of a box, and the location and value that they are
abbrev parts_of : (T : Type 0) → Inside T → Location × T
parts_of T fields = ((fields.inner.ptr, fields.inner.alloc), fields.inner.value)

-- the fields of a box that lies at this location and holds this value
abbrev fields_of : (T : Type 0) → Location × T → Inside T
fields_of T parts = record { inner = box_at parts.0 parts.1 }

-- what the fields hold is the value, beside the location
abbrev in_fields : Former {0}
in_fields = via (pair (const Location) this) Inside parts_of fields_of (λ T fields. refl) (λ T parts. refl)

-- the box with another value in it
abbrev box_with : {X Y : Type 0} → Box X Global → Y → Box Y Global
box_with b value = box_at (b.ptr, b.alloc) value

-- the type of the boxes of a type's values
abbrev boxes_of : RattleType → RattleType
boxes_of value = box.the_row value heap.the_row ghosts

-- ---- the same box with a value of another type, `to` in place of `from`

module _ (from to : RattleType) (change : from.Denot → to.Denot) where
  -- one value of the one type, turned bit by bit into the value of the other that it becomes
  abbrev turned : Alike from to change → (v : from.Denot)
      → one_value from to.mir (to.own_val (change v)) (to.shr_at (change v)) gnil
      ≡ one_value from from.mir (from.own_val v) (from.shr_at v) gnil
  turned alike v = λ i. one_value from (alike.mir_same i) (alike.own_same v i) (alike.shr_same v i) gnil

  -- a `Box` asks of its value's type no more than how that one value is laid out, owned and lent
  box_alike : Alike from to change → Alike (boxes_of from) (boxes_of to) (λ b. box_with b (change b.value))
  unfolding part_of
  box_alike alike = record {
    mir_same = λ i. (boxes_of (one_value from (alike.mir_same i) (λ _. ftrue) (λ _ _. nothing) gnil)).mir;
    own_same = λ b i. (boxes_of (turned alike b.value i)).own_val (box_with b tt);
    shr_same = λ b i. (boxes_of (turned alike b.value i)).shr_at (box_with b tt);
  }

  -- the struct places nothing itself: its `Box` places the value
  struct_alike : Alike from to change
      → Alike (stored.the_row from) (stored.the_row to) (in_fields.map from.Denot to.Denot change)
  struct_alike alike =
      struct_places (stored.the_type from) (stored.the_type to) ((λ b. box_with b (change b.value)), tt) _
      (λ fields. refl) refl (laid _ _ _ (box_alike alike), tt)

  -- boxes of values that are laid out, owned and lent alike are so too: the view shows the value and
  -- hides the location, a change of the value leaves the location alone, and no value of the fields is
  -- ruled out
  pub the_places : Alike from to change
      → Alike (seen.the_row from) (seen.the_row to) ((the_former this).map from.Denot to.Denot change)
  the_places alike =
      view_places in_fields (the_former this) view (λ X Y f fields. refl) (λ X fields. refl)
      from.Denot to.Denot change (seen.the_row from).coded (seen.the_row to).coded
      (invariant from.Denot) (invariant to.Denot)
      (λ fields p q. refl) (λ fields p q. refl) (λ fields p. tt) (λ fields p. tt)
      (over (stored.the_row from)) (over (stored.the_row to)) (struct_alike alike)

  -- a box has the code of its value
  pub the_codes_placed : Recodes from to change
      → Recodes (seen.the_row from) (seen.the_row to) ((the_former this).map from.Denot to.Denot change)
  the_codes_placed same value = same value
