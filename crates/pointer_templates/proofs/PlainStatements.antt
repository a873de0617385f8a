-- The statements of each instruction are well typed, for locals of its types, and nest little, and their expressions
-- are low.
use Rattle.std.proofs.Common.{◌≡◌, ℕ, ◌≤◌, ◌<◌, ◌^◌, ◌==◌, pos, Bool, true, false, if◌then◌else◌, List, [], ◌∷◌, ◌++◌, Option, Some, None, refl, subst, arith}
use Rattle.std.proofs.lemmas.Int.{ints}
use Rattle.pointer_templates.specs.Pointers.{pointer_sum_of, pointed_of, pointer_exchange_of, pointer_load_of, pointer_move_of, pointer_store_of, types_of_pointer_exchange, types_of_pointer_load, types_of_pointer_store}
use Rattle.template_parts.specs.Builders.{constant_of, read_of, set_of}
use Rattle.template_parts.specs.Fetching.{fetched_value_of, writing_of}
use Rattle.template_parts.proofs.FetchBounds.{fetch_plain, fetched_is, reach_plain, writing_plain}
use Rattle.template_parts.specs.Templates.{AreTyped, HasFormals, IsPlainBody}
use Rattle.template_parts.proofs.Typing.{IsOf, binary_is, constant_is, convert_is, first_typed, local_is, local_plain, more, register_is, set_plain}
use Rattle.s7_base.specs.declared.register.Reg.TheVariants as reg
use Rattle.s7_base.specs.declared.word.Width.TheVariants as width
use Rattle.st_tree.specs.State.{type_of_register}
use Rattle.st_tree.specs.WellTyped.{UnitScope, is_value, variable_type}
use Rattle.st_tree.specs.declared.expr.BinaryOp.TheVariants as binary
use Rattle.st_tree.specs.declared.expr.Expr.{Expr}
use Rattle.st_tree.specs.declared.expr.StType.{StType}
use Rattle.st_tree.specs.declared.expr.StType.TheVariants as type
use Rattle.st_tree.specs.declared.expr.Var.TheVariants as var
use Rattle.st_tree.specs.declared.program.Stmt.{Stmt}
use Rattle.stl_tree.specs.Accepted.{HasOperand, Widths}
use Rattle.stl_tree.specs.AddressRegisters.{other_of}
use Rattle.stl_tree.specs.Reads.{register_of}
use Rattle.stl_tree.specs.declared.program.Ar.{Ar}
use Rattle.stl_tree.specs.declared.program.ArLoad.{ArLoad}
use Rattle.stl_tree.specs.declared.program.ArLoad.TheVariants as load
use Rattle.stl_tree.specs.declared.program.ArStore.{ArStore}
use Rattle.stl_tree.specs.declared.program.ArStore.TheVariants as store
use Rattle.stl_tree.specs.declared.program.Ar.TheVariants as ar
use Rattle.stl_tree.specs.declared.program.Op.TheVariants as op

-- constants of their types

pointer_value : (p : ℕ) → p < 2 ^ 32 → is_value type.Dword (pos p) ≡ true
pointer_value p h = grind (arith, ints)

offset_value : (n : ℕ) → n < 2 ^ 19 → is_value type.Dint (pos n) ≡ true
offset_value n h = grind (arith, ints)

-- an address register is a DWORD
same_type : (a : Ar) → type_of_register (register_of a) ≡ type.Dword
same_type ar.One = refl
same_type ar.Two = refl

module _ (sight : UnitScope) where
  held_is : (a : Ar) → IsOf sight type.Dword 1 (read_of (register_of a))
  held_is a = subst (λ (ty : StType). IsOf sight ty 1 (read_of (register_of a))) (same_type a) (register_is sight (register_of a))

  moved_is : {n : ℕ} {e : Expr} (a : Ar) → n ≤ 20 → IsOf sight type.Dint n e → IsOf sight type.Dword 25 (pointer_sum_of a e)
  moved_is a small h =
      more sight (omega arith)
      (binary_is sight binary.Or tt refl (binary_is sight binary.And tt refl (held_is a) (constant_is sight refl))
      (binary_is sight binary.And tt refl
      (convert_is sight refl (binary_is sight binary.Add tt refl (convert_is sight refl (held_is a)) h)) (constant_is sight refl)))

  module _ (rest : List Stmt) (plain : IsPlainBody sight rest) where
    -- an address register takes a pointer
    pointed_plain : {n : ℕ} (a : Ar) (e : Expr) → n ≤ 32 → IsOf sight type.Dword n e → IsPlainBody sight (pointed_of a e ++ rest)
    pointed_plain ar.One e small h = set_plain sight reg.Ar1 e rest small h plain
    pointed_plain ar.Two e small h = set_plain sight reg.Ar2 e rest small h plain

    pub pointer_load_plain : (formals : Widths) → HasFormals sight formals → (first : ℕ) (a : Ar) (from : ArLoad)
        → HasOperand formals (op.LoadAr a from) → AreTyped sight first (types_of_pointer_load from)
        → IsPlainBody sight (pointer_load_of first a from ++ rest)
    pointer_load_plain formals named first a load.Accu1 h own = pointed_plain a (read_of reg.Accu1) (omega arith) (register_is sight reg.Accu1)
    pointer_load_plain formals named first a (load.Constant p) h own =
        pointed_plain a (constant_of type.Dword (pos p)) (omega arith) (constant_is sight (pointer_value p h))
    pointer_load_plain formals named first a (load.At o) h own =
        let e : Expr = fetched_value_of first o width.Dword in
        fetch_plain sight formals named first o width.Dword (pointed_of a e) rest h.1 own
        (pointed_plain a e (omega arith) (fetched_is sight formals named first o width.Dword h.1 own))
    pointer_load_plain formals named first a load.OtherAr h own = pointed_plain a (read_of (register_of (other_of a))) (omega arith) (held_is (other_of a))

    pub pointer_store_plain : (formals : Widths) → HasFormals sight formals → (first : ℕ) (a : Ar) (to : ArStore)
        → HasOperand formals (op.StoreAr a to) → AreTyped sight first (types_of_pointer_store to)
        → IsPlainBody sight (pointer_store_of first a to ++ rest)
    pointer_store_plain formals named first a store.Accu1 h own =
        set_plain sight reg.Accu2 (read_of reg.Accu1) (set_of reg.Accu1 (read_of (register_of a)) ∷ rest) (omega arith) (register_is sight reg.Accu1)
        (set_plain sight reg.Accu1 (read_of (register_of a)) rest (omega arith) (held_is a) plain)
    pointer_store_plain formals named first a (store.At o) h own =
        let e : Expr = read_of (register_of a) in
        reach_plain sight formals named first o width.Dword (writing_of first o width.Dword e ∷ []) rest h.1 own
        (writing_plain sight formals named first o width.Dword e rest (omega arith) h.1 own (held_is a) plain)
    pointer_store_plain formals named first a store.OtherAr h own = pointed_plain (other_of a) (read_of (register_of a)) (omega arith) (held_is a)

    pub pointer_exchange_plain : (first : ℕ) → AreTyped sight first types_of_pointer_exchange → IsPlainBody sight (pointer_exchange_of first ++ rest)
    pointer_exchange_plain first own =
        let local : variable_type sight (var.Local first) ≡ Some type.Dword = first_typed sight first type.Dword [] own in
        local_plain sight _ _ _ (omega arith) local (held_is ar.One)
        (set_plain sight reg.Ar1 _ _ (omega arith) (held_is ar.Two) (set_plain sight reg.Ar2 _ _ (omega arith) (local_is sight local) plain))

    pub pointer_move_plain : (a : Ar) (amount : Option ℕ) → HasOperand [] (op.AddAr a amount) → IsPlainBody sight (pointer_move_of a amount ++ rest)
    pointer_move_plain a None h =
        pointed_plain a _ (omega arith) (moved_is a (omega arith) (convert_is sight refl (convert_is sight refl (register_is sight reg.Accu1))))
    pointer_move_plain a (Some offset) h = by (offset == 0)
      where
        by : (b : Bool) → IsPlainBody sight ((if b then [] else pointed_of a (pointer_sum_of a (constant_of type.Dint (pos offset)))) ++ rest)
        by true = plain
        by false = pointed_plain a _ (omega arith) (moved_is a (omega arith) (constant_is sight (offset_value offset h)))
