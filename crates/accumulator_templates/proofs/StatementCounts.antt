-- The statements of each instruction write one thing each, are few, and so are the nodes of their expressions, and
-- write their locals in order.
use Rattle.std.proofs.Common.{◌≡◌, ℕ, ◌+◌, ◌≤◌, pos, Bool, true, false, if◌then◌else◌, List, [], ◌∷◌, ◌++◌, length, Option, Some, None, refl, ap, ◌∙◌, arith}
use Rattle.std.specs.Prelude.{ℤ}
use Rattle.std.specs.Ordering.{int_eq}
use Rattle.std.proofs.lemmas.List.{length-append}
use Rattle.s7_base.specs.declared.register.Reg.{Reg}
use Rattle.s7_base.specs.declared.register.Reg.TheVariants as reg
use Rattle.s7_base.specs.declared.word.Width.{Width}
use Rattle.s7_base.specs.declared.word.Width.TheVariants as width
use Rattle.stl_tree.specs.Reads.{is_fixed}
use Rattle.stl_tree.specs.declared.accumulator.LogicRow.{LogicRow}
use Rattle.stl_tree.specs.declared.accumulator.LogicRow.TheVariants as row
use Rattle.stl_tree.specs.declared.program.LoadArg.{LoadArg}
use Rattle.stl_tree.specs.declared.program.LoadArg.TheVariants as arg
use Rattle.stl_tree.specs.declared.program.OpenArg.{OpenArg}
use Rattle.stl_tree.specs.declared.program.OpenArg.TheVariants as open_arg
use Rattle.stl_tree.specs.declared.program.Operand.{Operand}
use Rattle.st_tree.specs.declared.expr.Expr.{Expr}
use Rattle.st_tree.specs.declared.expr.Var.TheVariants as var
use Rattle.st_tree.specs.declared.program.Stmt.{Stmt}
use Rattle.accumulator_templates.specs.Conversions.{cad_of, caw_of, invd_of, invi_of, itd_of}
use Rattle.accumulator_templates.specs.DataBlocks.{block_exchange_of, block_open_of, number_load_of, types_of_block_exchange, types_of_block_open}
use Rattle.accumulator_templates.specs.Logic.{computed_of, fixed_of, logic_of, type_of_logic, types_of_logic}
use Rattle.accumulator_templates.specs.Moves.{exchange_of, load_of, pop_of, push_of, status_load_of, status_store_of, taken_of, transfer_of, types_of_exchange, types_of_load}
use Rattle.accumulator_templates.specs.AccumulatorParts.{zero_extension_of}
use Rattle.accumulator_templates.specs.Sums.{add_dword_of, add_word_of, dec_of, inc_of, unless_zero}
use Rattle.graph_rules.specs.Writes.{AreWrites}
use Rattle.template_parts.specs.Builders.{set_of}
use Rattle.template_parts.specs.Fetching.{fetch_of, fetched_value_of, reach_of, types_fetched, types_reached, writing_of}
use Rattle.template_parts.specs.Nodes.{nodes, nodes_in}
use Rattle.graph_rules.proofs.Runs.{disorder, disorder_in_parts, locals_set, order_equations, sets_in_parts}
use Rattle.template_parts.proofs.Obligations.{HasSizes, with_sizes}
use Rattle.template_parts.proofs.FetchBounds.{fetch_length, fetch_nodes, fetch_writes, fetched_nodes, reach_length, reach_nodes, reach_writes, writes_in_parts, writing_nodes, writing_writes}
use Rattle.template_parts.proofs.FetchOrder.{fetch_disorder, fetch_sets, fetched_misses, misses, reach_disorder, reach_sets, writing_disorder, writing_sets}
use Rattle.template_parts.proofs.Sizes.{counts, of_append, of_assign, of_nothing}

-- Loading, storing and moving

-- statements behind those that fetch an operand, which set no more locals
behind_few : (first : ℕ) (o : Operand) (w : Width) (body : List Stmt) (statements nodes : ℕ) → AreWrites body → length body ≡ statements → nodes_in body ≡ nodes
    → statements ≤ 8 → nodes ≤ 78 → disorder first (first + length (types_fetched o w)) body ≡ 0 → locals_set body ≡ 0
    → HasSizes first (types_fetched o w) (fetch_of first o w ++ body)
behind_few first o w body statements nodes b e f h k order none =
    let before : List Stmt = fetch_of first o w in
    let sets : locals_set before ≡ length (types_fetched o w) = fetch_sets first o w in
    record {
      writes = writes_in_parts before body (fetch_writes first o w) b;
      few = omega (arith, length-append before body, fetch_length first o w);
      small = omega (arith, of_append before body, fetch_nodes first o w);
      order = disorder_in_parts first first before body (fetch_disorder first o w) (ap (λ (n : ℕ). disorder first (first + n) body) sets ∙ order);
      sets = omega (arith, sets_in_parts before body);
    }

taken_disorder : (first n : ℕ) (w : Width) (e : Expr) → misses first n e ≡ 0 → disorder first n (taken_of (zero_extension_of w e)) ≡ 0
taken_disorder first n width.Bit e low = simp (order_equations, low)
taken_disorder first n width.Byte e low = simp (order_equations, low)
taken_disorder first n width.Word e low = simp (order_equations, low)
taken_disorder first n width.Dword e low = simp (order_equations, low)

-- L of an operand, by the expression as which it is read
fetched_few : (first : ℕ) (o : Operand) (w : Width) (e : Expr) → nodes e ≡ 1 → misses first (first + length (types_fetched o w)) e ≡ 0
    → HasSizes first (types_fetched o w) (fetch_of first o w ++ taken_of (zero_extension_of w e))
fetched_few first o w e one low = by w (taken_disorder first (first + length (types_fetched o w)) w e low)
  where
    by : (u : Width) → disorder first (first + length (types_fetched o w)) (taken_of (zero_extension_of u e)) ≡ 0
        → HasSizes first (types_fetched o w) (fetch_of first o w ++ taken_of (zero_extension_of u e))
    by width.Bit order = behind_few first o w _ 2 5 tt refl (simp (counts, one)) (omega arith) (omega arith) order refl
    by width.Byte order = behind_few first o w _ 2 3 tt refl (simp (counts, one)) (omega arith) (omega arith) order refl
    by width.Word order = behind_few first o w _ 2 3 tt refl (simp (counts, one)) (omega arith) (omega arith) order refl
    by width.Dword order = behind_few first o w _ 2 2 tt refl (simp (counts, one)) (omega arith) (omega arith) order refl

pub load_few : (first : ℕ) (a : LoadArg) → HasSizes first (types_of_load a) (load_of first a)
load_few first (arg.At o w) = fetched_few first o w (fetched_value_of first o w) (fetched_nodes first o w) (fetched_misses first o w _ (omega arith))
load_few first (arg.Constant c) = with_sizes _ 2 2 tt refl (simp counts) (omega arith) (omega arith) (simp order_equations) refl

-- T of an operand, by the expression that it writes
reached_few : (first : ℕ) (o : Operand) (w : Width) (e : Expr) (n : ℕ) → nodes e ≡ n → n ≤ 5 → ((many : ℕ) → misses first many e ≡ 0)
    → HasSizes first (types_reached o) (reach_of first o ++ (writing_of first o w e ∷ []))
reached_few first o w e n same few none =
    let before : List Stmt = reach_of first o in
    let own : List Stmt = writing_of first o w e ∷ [] in
    let many : ℕ = first + length (types_reached o) in
    record {
      writes = writes_in_parts before own (reach_writes first o) (writing_writes first o w e [] tt);
      few = omega (arith, length-append before own, reach_length first o);
      small = omega (arith, of_append before own, reach_nodes first o, writing_nodes first o w e [], of_nothing);
      order = disorder_in_parts first first before own (reach_disorder first o)
          (ap (λ (n : ℕ). disorder first (first + n) own) (reach_sets first o) ∙ writing_disorder many first o w e [] (omega arith) (none many) refl);
      sets = omega (arith, sets_in_parts before own, reach_sets first o, writing_sets first o w e []);
    }

pub transfer_few : (first : ℕ) (o : Operand) (w : Width) → HasSizes first (types_reached o) (transfer_of first o w)
transfer_few first o width.Bit = reached_few first o width.Bit _ 5 (simp counts) (omega arith) (λ many. simp order_equations)
transfer_few first o width.Byte = reached_few first o width.Byte _ 2 (simp counts) (omega arith) (λ many. simp order_equations)
transfer_few first o width.Word = reached_few first o width.Word _ 2 (simp counts) (omega arith) (λ many. simp order_equations)
transfer_few first o width.Dword = reached_few first o width.Dword _ 1 (simp counts) (omega arith) (λ many. simp order_equations)

pub status_load_few : (first : ℕ) → HasSizes first [] status_load_of
status_load_few first = with_sizes _ 2 30 tt refl (simp counts) (omega arith) (omega arith) (simp order_equations) refl

pub status_store_few : (first : ℕ) → HasSizes first [] status_store_of
status_store_few first = with_sizes _ 6 30 tt refl (simp counts) (omega arith) (omega arith) (simp order_equations) refl

pub exchange_few : (first : ℕ) → HasSizes first types_of_exchange (exchange_of first)
exchange_few first = with_sizes _ 3 3 tt refl (simp counts) (omega arith) (omega arith) (simp order_equations (omega arith)) refl

pub push_few : (first : ℕ) → HasSizes first [] push_of
push_few first = with_sizes _ 1 1 tt refl (simp counts) (omega arith) (omega arith) (simp order_equations) refl

pub pop_few : (first : ℕ) → HasSizes first [] pop_of
pop_few first = with_sizes _ 1 1 tt refl (simp counts) (omega arith) (omega arith) (simp order_equations) refl

-- Numbers of data blocks

pub block_open_few : (first : ℕ) (r : Reg) (d : OpenArg) → HasSizes first (types_of_block_open d) (block_open_of first r d)
block_open_few first r (open_arg.Number n) = with_sizes _ 1 1 tt refl (simp counts) (omega arith) (omega arith) (simp order_equations) refl
block_open_few first r (open_arg.At o) =
    let e : Expr = fetched_value_of first o width.Word in
    let many : ℕ = first + length (types_fetched o width.Word) in
    behind_few first o width.Word (set_of r e ∷ []) 1 1 tt refl (omega (arith, of_assign (var.Register r) e [], fetched_nodes first o width.Word, of_nothing))
    (omega arith) (omega arith) (omega (arith, fetched_misses first o width.Word many (omega arith))) refl

pub block_exchange_few : (first : ℕ) → HasSizes first types_of_block_exchange (block_exchange_of first)
block_exchange_few first = with_sizes _ 3 3 tt refl (simp counts) (omega arith) (omega arith) (simp order_equations (omega arith)) refl

pub number_load_few : (first : ℕ) (r : Reg) → HasSizes first [] (number_load_of r)
number_load_few first r = with_sizes _ 2 3 tt refl (simp counts) (omega arith) (omega arith) (simp order_equations) refl

-- Constants

unless_zero_few : (first : ℕ) (n : ℤ) (e : Expr) → HasSizes first [] (set_of reg.Accu1 e ∷ []) → HasSizes first [] (unless_zero n e)
unless_zero_few first n e h = by (int_eq n (pos 0))
  where
    by : (b : Bool) → HasSizes first [] (if b then [] else set_of reg.Accu1 e ∷ [])
    by true = with_sizes _ 0 0 tt refl of_nothing (omega arith) (omega arith) refl refl
    by false = h

pub add_word_few : (first : ℕ) (n : ℤ) → HasSizes first [] (add_word_of n)
add_word_few first n = unless_zero_few first n _ (with_sizes _ 1 10 tt refl (simp counts) (omega arith) (omega arith) (simp order_equations) refl)

pub add_dword_few : (first : ℕ) (n : ℤ) → HasSizes first [] (add_dword_of n)
add_dword_few first n = unless_zero_few first n _ (with_sizes _ 1 5 tt refl (simp counts) (omega arith) (omega arith) (simp order_equations) refl)

pub inc_few : (first n : ℕ) → HasSizes first [] (inc_of n)
inc_few first n = unless_zero_few first (pos n) _ (with_sizes _ 1 10 tt refl (simp counts) (omega arith) (omega arith) (simp order_equations) refl)

pub dec_few : (first n : ℕ) → HasSizes first [] (dec_of n)
dec_few first n = unless_zero_few first (pos n) _ (with_sizes _ 1 10 tt refl (simp counts) (omega arith) (omega arith) (simp order_equations) refl)

-- Word logic

fixed_few : (first c : ℕ) → HasSizes first [] (fixed_of c)
fixed_few first c = with_sizes _ 4 4 tt refl (simp counts) (omega arith) (omega arith) (simp order_equations) refl

computed_few : (first : ℕ) (l : LogicRow) (c : Option ℕ) → HasSizes first (type_of_logic l ∷ []) (computed_of first l c)
computed_few first row.Aw None = with_sizes _ 5 16 tt refl (simp counts) (omega arith) (omega arith) (simp order_equations (omega arith)) refl
computed_few first row.Aw (Some c) = with_sizes _ 5 15 tt refl (simp counts) (omega arith) (omega arith) (simp order_equations (omega arith)) refl
computed_few first row.Ow None = with_sizes _ 5 16 tt refl (simp counts) (omega arith) (omega arith) (simp order_equations (omega arith)) refl
computed_few first row.Ow (Some c) = with_sizes _ 5 15 tt refl (simp counts) (omega arith) (omega arith) (simp order_equations (omega arith)) refl
computed_few first row.Xow None = with_sizes _ 5 16 tt refl (simp counts) (omega arith) (omega arith) (simp order_equations (omega arith)) refl
computed_few first row.Xow (Some c) = with_sizes _ 5 15 tt refl (simp counts) (omega arith) (omega arith) (simp order_equations (omega arith)) refl
computed_few first row.Ad None = with_sizes _ 5 9 tt refl (simp counts) (omega arith) (omega arith) (simp order_equations (omega arith)) refl
computed_few first row.Ad (Some c) = with_sizes _ 5 9 tt refl (simp counts) (omega arith) (omega arith) (simp order_equations (omega arith)) refl
computed_few first row.Od None = with_sizes _ 5 9 tt refl (simp counts) (omega arith) (omega arith) (simp order_equations (omega arith)) refl
computed_few first row.Od (Some c) = with_sizes _ 5 9 tt refl (simp counts) (omega arith) (omega arith) (simp order_equations (omega arith)) refl
computed_few first row.Xod None = with_sizes _ 5 9 tt refl (simp counts) (omega arith) (omega arith) (simp order_equations (omega arith)) refl
computed_few first row.Xod (Some c) = with_sizes _ 5 9 tt refl (simp counts) (omega arith) (omega arith) (simp order_equations (omega arith)) refl

pub logic_few : (first : ℕ) (l : LogicRow) (c : Option ℕ) → HasSizes first (types_of_logic l c) (logic_of first l c)
logic_few first l None = computed_few first l None
logic_few first l (Some c) = by (is_fixed l c)
  where
    by : (b : Bool) → HasSizes first (if b then [] else type_of_logic l ∷ []) (if b then fixed_of c else computed_of first l (Some c))
    by true = fixed_few first c
    by false = computed_few first l (Some c)

-- Conversions

pub itd_few : (first : ℕ) → HasSizes first [] itd_of
itd_few first = with_sizes _ 1 3 tt refl (simp counts) (omega arith) (omega arith) (simp order_equations) refl

pub invi_few : (first : ℕ) → HasSizes first [] invi_of
invi_few first = with_sizes _ 1 8 tt refl (simp counts) (omega arith) (omega arith) (simp order_equations) refl

pub invd_few : (first : ℕ) → HasSizes first [] invd_of
invd_few first = with_sizes _ 1 2 tt refl (simp counts) (omega arith) (omega arith) (simp order_equations) refl

pub caw_few : (first : ℕ) → HasSizes first [] caw_of
caw_few first = with_sizes _ 1 9 tt refl (simp counts) (omega arith) (omega arith) (simp order_equations) refl

pub cad_few : (first : ℕ) → HasSizes first [] cad_of
cad_few first = with_sizes _ 1 27 tt refl (simp counts) (omega arith) (omega arith) (simp order_equations) refl
