-- What is promised of the statements of the instructions on address registers.
use Rattle.std.specs.Prelude.{ℕ, [], Option}
use Rattle.pointer_templates.specs.Pointers.{pointer_exchange_of, pointer_load_of, pointer_move_of, pointer_store_of, types_of_pointer_exchange, types_of_pointer_load, types_of_pointer_store}
use Rattle.template_parts.specs.Templates.{Serves}
use Rattle.stl_tree.specs.Accepted.{HasOperand}
use Rattle.stl_tree.specs.declared.program.Ar.{Ar}
use Rattle.stl_tree.specs.declared.program.ArLoad.{ArLoad}
use Rattle.stl_tree.specs.declared.program.ArStore.{ArStore}
use Rattle.stl_tree.specs.declared.program.Op.TheVariants as op

-- the statements of each instruction on address registers serve it
pub record PointersServe : Type 0 where
  pub loads : (a : Ar) (from : ArLoad) → (first : ℕ)
      → Serves (op.LoadAr a from) first (types_of_pointer_load from) (pointer_load_of first a from)
  pub stores : (a : Ar) (to : ArStore) → (first : ℕ)
      → Serves (op.StoreAr a to) first (types_of_pointer_store to) (pointer_store_of first a to)
  pub exchanges : (first : ℕ) → Serves op.ExchangeAr first types_of_pointer_exchange (pointer_exchange_of first)
  pub moves : (a : Ar) (amount : Option ℕ) → (first : ℕ)
      → Serves (op.AddAr a amount) first [] (pointer_move_of a amount)
