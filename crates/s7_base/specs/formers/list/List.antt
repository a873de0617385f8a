-- What lets a type hold itself through `List`, as a statement holds the statements of its body.
--
-- A value of such a type is not a plain piece of data, so the check has to be told which items a `List`
-- holds, and that the `List` owns, lends and is coded by nothing but those items, one by one. It looks
-- for this file by the struct's name, and checks every line of it against the struct.
use mathlib.Core.Path.{◌≡◌, refl, sym}
use mathlib.Core.List.{List, []}
use mathlib.Core.Former.{Former, this, list, via, children}
use base.Stored.{code_map}
use denote.RattleType.{RattleType}
use denote.HoleLaws.{Alike}
use denote.HolePlaces.{Recodes, struct_places, laid}
use denote.Hole.Carrier.{listed, list-listed}
use denote.Hole.Fix.{over}
use denote.Param.Weighed.{Weighed, w_list}
use denote.Model.Placed.{view_places}
use Rattle.std.specs.declared.vec.Vec.{Vec}
use Rattle.std.specs.formers.vec.Vec as vec
use Rattle.std.specs.declared.alloc.Global.{Global}
use Rattle.std.specs.contracts.alloc.Global as heap
use Rattle.std.specs.contracts.impls.GlobalAllocator.TheImpl.{ghosts}
use Rattle.s7_base.specs.declared.list.List.TheInside.{Inside}
use Rattle.s7_base.specs.declared.list.List.TheView.{view, invariant}
use Rattle.s7_base.specs.contracts.list.List as seen
use Rattle.s7_base.specs.contracts.list.List.TheInside as stored

-- ---- as contracts see it: a plain list

-- what a list holds: its items, each with all that the item holds
abbrev pub the_former : Former {0} → Former {0}
the_former item = list item

-- a list is as deep as its deepest item, so that a recursion down a tree is seen to end
abbrev pub the_weighed : {item : Former {0}} → Weighed item → Weighed (the_former item)
the_weighed depth = w_list depth

-- a list may hold nothing, which is where a type that holds itself begins
pub the_empty : List ⊥
the_empty = []

-- the items in their order, which is the order that a fold over a tree sees
abbrev pub the_items : (T : Type 0) → List T → List T
the_items T items = items

-- what a list holds is its items, none left out and none twice
pub the_items_listed : (T : Type 0) (items : List T)
    → listed _ (children (the_former this) T items) ≡ the_items T items
the_items_listed = list-listed

-- ---- as memory has it: a struct of one field, a `Vec`

-- the fields of a list, and the `Vec` that they are
abbrev items_of : (T : Type 0) → Inside T → Vec T Global
items_of T fields = fields.items

-- the fields of a list that keeps its items in this `Vec`
abbrev fields_of : (T : Type 0) → Vec T Global → Inside T
fields_of T items = record { items = items }

-- what the fields hold is what their `Vec` holds
abbrev in_fields : Former {0}
in_fields = via (vec.the_former this Global) Inside items_of fields_of (λ T fields. refl) (λ T items. refl)

-- ---- the same list over items of another type, `to` in place of `from`

module _ (from to : RattleType) (change : from.Denot → to.Denot) where
  -- the struct places nothing itself: its `Vec` places the items
  struct_alike : Alike from to change
      → Alike (stored.the_row from) (stored.the_row to) (in_fields.map from.Denot to.Denot change)
  struct_alike alike =
      struct_places (stored.the_type from) (stored.the_type to) (vec.mapped change, tt) _ (λ fields. refl) refl
      (laid _ _ _ (vec.the_places heap.the_row ghosts from to change alike), tt)

  -- lists of items that are laid out, owned and lent alike are so too: the view shows each item of the
  -- fields once, in their order, a change of the items leaves the rest alone, and no value of the fields
  -- is ruled out
  pub the_places : Alike from to change
      → Alike (seen.the_row from) (seen.the_row to) ((the_former this).map from.Denot to.Denot change)
  the_places alike =
      view_places in_fields (the_former this) view (λ X Y f fields. refl) (λ X fields. refl)
      from.Denot to.Denot change (seen.the_row from).coded (seen.the_row to).coded
      (invariant from.Denot) (invariant to.Denot)
      (λ fields p q. refl) (λ fields p q. refl) (λ fields p. tt) (λ fields p. tt)
      (over (stored.the_row from)) (over (stored.the_row to)) (struct_alike alike)

  -- lists of items with the same codes have the same code
  pub the_codes_placed : Recodes from to change
      → Recodes (seen.the_row from) (seen.the_row to) ((the_former this).map from.Denot to.Denot change)
  the_codes_placed same items =
      sym (code_map from.coded.code to.coded.code change (λ item. sym (same item)) items)
