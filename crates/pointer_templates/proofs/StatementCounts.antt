-- The statements of each instruction write one thing each, are few, of few nodes, and set their locals in order.
use Rattle.std.proofs.Common.{◌≡◌, ℕ, ◌+◌, ◌≤◌, ◌==◌, pos, Bool, true, false, if◌then◌else◌, List, [], ◌∷◌, Option, Some, None, refl, ap, arith}
use Rattle.std.proofs.lemmas.List.{length-append}
use Rattle.graph_rules.proofs.Runs.{disorder_in_parts, locals_set, missed, order_equations, sets_in_parts}
use Rattle.pointer_templates.specs.Pointers.{pointer_sum_of, pointed_of, pointer_exchange_of, pointer_load_of, pointer_move_of, pointer_store_of, types_of_pointer_exchange, types_of_pointer_load, types_of_pointer_store}
use Rattle.template_parts.specs.Builders.{constant_of, read_of}
use Rattle.template_parts.specs.Fetching.{fetch_of, fetched_value_of, reach_of, writing_of}
use Rattle.template_parts.specs.Nodes.{nodes}
use Rattle.template_parts.proofs.FetchBounds.{fetch_length, fetch_nodes, fetch_writes, fetched_nodes, reach_length, reach_nodes, reach_writes, writes_in_parts, writing_nodes, writing_writes}
use Rattle.template_parts.proofs.FetchOrder.{fetch_disorder, fetch_sets, fetched_misses, misses, reach_disorder, reach_sets, writing_disorder, writing_sets}
use Rattle.template_parts.proofs.Sizes.{counts, of_append, of_assign, of_constant, of_nothing, of_register}
use Rattle.s7_base.specs.declared.register.Reg.TheVariants as reg
use Rattle.s7_base.specs.declared.word.Width.TheVariants as width
use Rattle.st_tree.proofs.PartEquations.{reads_of_read}
use Rattle.st_tree.specs.declared.expr.Expr.{Expr}
use Rattle.st_tree.specs.declared.expr.StType.TheVariants as type
use Rattle.st_tree.specs.declared.expr.Var.TheVariants as var
use Rattle.st_tree.specs.declared.program.Stmt.{Stmt}
use Rattle.template_parts.proofs.Obligations.{HasSizes, with_sizes}
use Rattle.stl_tree.specs.AddressRegisters.{other_of}
use Rattle.stl_tree.specs.Reads.{register_of}
use Rattle.stl_tree.specs.declared.program.Ar.{Ar}
use Rattle.stl_tree.specs.declared.program.ArLoad.{ArLoad}
use Rattle.stl_tree.specs.declared.program.ArLoad.TheVariants as load
use Rattle.stl_tree.specs.declared.program.ArStore.{ArStore}
use Rattle.stl_tree.specs.declared.program.ArStore.TheVariants as store

module _ (first : ℕ) where
  -- an address register takes a pointer
  pointed_sizes : (a : Ar) (e : Expr) (n : ℕ) → nodes e ≡ n → n ≤ 5 → misses first first e ≡ 0 → HasSizes first [] (pointed_of a e)
  pointed_sizes a e n same few none =
      record {
        writes = tt;
        few = omega arith;
        small = omega (arith, of_assign (var.Register (register_of a)) e [], of_nothing);
        order = omega (arith, none);
        sets = refl;
      }

  register_misses : (n : ℕ) (a : Ar) → misses first n (read_of (register_of a)) ≡ 0
  register_misses n a = ap (missed first n) (reads_of_read (var.Register (register_of a)))

  pub pointer_load_sizes : (a : Ar) (from : ArLoad) → HasSizes first (types_of_pointer_load from) (pointer_load_of first a from)
  pointer_load_sizes a load.Accu1 = pointed_sizes a (read_of reg.Accu1) 1 (of_register reg.Accu1) (omega arith) (simp order_equations)
  pointer_load_sizes a (load.Constant p) =
      pointed_sizes a (constant_of type.Dword (pos p)) 1 (of_constant type.Dword (pos p)) (omega arith) (simp order_equations)
  pointer_load_sizes a (load.At o) =
      let before : List Stmt = fetch_of first o width.Dword in
      let e : Expr = fetched_value_of first o width.Dword in
      let none : misses first (first + locals_set before) e ≡ 0 =
      fetched_misses first o width.Dword (first + locals_set before) (omega (arith, fetch_sets first o width.Dword)) in
      record {
        writes = writes_in_parts before (pointed_of a e) (fetch_writes first o width.Dword) tt;
        few = omega (arith, length-append before (pointed_of a e), fetch_length first o width.Dword);
        small = omega (
          arith,
          of_append before (pointed_of a e),
          fetch_nodes first o width.Dword,
          of_assign (var.Register (register_of a)) e [],
          fetched_nodes first o width.Dword,
          of_nothing,
        );
        order = disorder_in_parts first first before (pointed_of a e) (fetch_disorder first o width.Dword) (omega (arith, none));
        sets = omega (arith, sets_in_parts before (pointed_of a e), fetch_sets first o width.Dword);
      }
  pointer_load_sizes a load.OtherAr =
      pointed_sizes a (read_of (register_of (other_of a))) 1 (of_register (register_of (other_of a))) (omega arith) (register_misses first (other_of a))

  pub pointer_store_sizes : (a : Ar) (to : ArStore) → HasSizes first (types_of_pointer_store to) (pointer_store_of first a to)
  pointer_store_sizes a store.Accu1 =
      with_sizes (pointer_store_of first a store.Accu1) 2 2 tt refl (simp counts) (omega arith) (omega arith) (simp order_equations) refl
  pointer_store_sizes a (store.At o) =
      let e : Expr = read_of (register_of a) in
      let own : List Stmt = writing_of first o width.Dword e ∷ [] in
      let w : ℕ = first + locals_set (reach_of first o) in
      record {
        writes = writes_in_parts (reach_of first o) own (reach_writes first o) (writing_writes first o width.Dword e [] tt);
        few = omega (arith, length-append (reach_of first o) own, reach_length first o);
        small = omega (
          arith,
          of_append (reach_of first o) own,
          reach_nodes first o,
          writing_nodes first o width.Dword e [],
          of_register (register_of a),
          of_nothing,
        );
        order = disorder_in_parts first first (reach_of first o) own (reach_disorder first o)
            (writing_disorder w first o width.Dword e [] (omega (arith, reach_sets first o)) (register_misses w a) refl);
        sets = omega (arith, sets_in_parts (reach_of first o) own, reach_sets first o, writing_sets first o width.Dword e []);
      }
  pointer_store_sizes a store.OtherAr =
      pointed_sizes (other_of a) (read_of (register_of a)) 1 (of_register (register_of a)) (omega arith) (register_misses first a)

  pub pointer_exchange_sizes : HasSizes first types_of_pointer_exchange (pointer_exchange_of first)
  pointer_exchange_sizes =
      with_sizes (pointer_exchange_of first) 3 3 tt refl (simp counts) (omega arith) (omega arith) (simp order_equations (omega arith)) refl

  pub pointer_move_sizes : (a : Ar) (amount : Option ℕ) → HasSizes first [] (pointer_move_of a amount)
  pointer_move_sizes a None = with_sizes (pointer_move_of a None) 1 13 tt refl (simp counts) (omega arith) (omega arith) (simp order_equations) refl
  pointer_move_sizes a (Some offset) = by (offset == 0)
    where
      by : (b : Bool) → HasSizes first [] (if b then [] else pointed_of a (pointer_sum_of a (constant_of type.Dint (pos offset))))
      by true = with_sizes [] 0 0 tt refl of_nothing (omega arith) (omega arith) refl refl
      by false =
          with_sizes (pointed_of a (pointer_sum_of a (constant_of type.Dint (pos offset)))) 1 11 tt refl
          (simp counts) (omega arith) (omega arith) (simp order_equations) refl
