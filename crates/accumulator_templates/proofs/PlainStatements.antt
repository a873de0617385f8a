-- The statements of each instruction are well typed, for locals of its types, and nest little, and their expressions
-- are low.
use Rattle.std.proofs.Common.{◌≡◌, ℕ, ◌+◌, ◌≤◌, ◌<◌, ◌^◌, pos, Bool, true, false, if◌then◌else◌, List, [], ◌∷◌, ◌++◌, Option, Some, None, refl, sym, subst, arith}
use Rattle.std.specs.Prelude.{ℤ, ◌==◌, not}
use Rattle.std.specs.Ordering.{int_eq}
use Rattle.std.proofs.lemmas.Int.{ints}
use Rattle.s7_base.specs.SignedNumbers.{is_over}
use Rattle.s7_base.specs.declared.register.Reg.{Reg}
use Rattle.s7_base.specs.declared.register.Reg.TheVariants as reg
use Rattle.s7_base.specs.declared.word.Width.{Width}
use Rattle.s7_base.specs.declared.word.Width.TheVariants as width
use Rattle.memory_areas.specs.Access.{bits_wide}
use Rattle.stl_tree.specs.Accepted.{HasOperand, IsOfWidth, IsOpenArg, Widths}
use Rattle.stl_tree.specs.Reads.{is_fixed}
use Rattle.stl_tree.specs.WordLogic.{width_of}
use Rattle.stl_tree.specs.declared.accumulator.LogicRow.{LogicRow}
use Rattle.stl_tree.specs.declared.accumulator.LogicRow.TheVariants as row
use Rattle.stl_tree.specs.declared.program.LoadArg.{LoadArg}
use Rattle.stl_tree.specs.declared.program.LoadArg.TheVariants as arg
use Rattle.stl_tree.specs.declared.program.Op.TheVariants as op
use Rattle.stl_tree.specs.declared.program.OpenArg.{OpenArg}
use Rattle.stl_tree.specs.declared.program.OpenArg.TheVariants as open_arg
use Rattle.stl_tree.specs.declared.program.Operand.{Operand}
use Rattle.st_tree.specs.State.{type_of_register}
use Rattle.st_tree.specs.Values.{type_of_width}
use Rattle.st_tree.specs.WellTyped.{UnitScope, is_value, variable_type}
use Rattle.st_tree.specs.declared.expr.BinaryOp.TheVariants as binary
use Rattle.st_tree.specs.declared.expr.Expr.{Expr}
use Rattle.st_tree.specs.declared.expr.Expr.TheVariants as expr
use Rattle.st_tree.specs.declared.expr.ShiftOp.TheVariants as shift
use Rattle.st_tree.specs.declared.expr.StType.{StType}
use Rattle.st_tree.specs.declared.expr.StType.TheVariants as type
use Rattle.st_tree.specs.declared.expr.UnaryOp.TheVariants as unary
use Rattle.st_tree.specs.declared.expr.Var.TheVariants as var
use Rattle.st_tree.specs.declared.program.Stmt.{Stmt}
use Rattle.accumulator_templates.specs.Conversions.{byte_above_of, cad_of, caw_of, invd_of, invi_of, itd_of, low_byte_of, reversed_value}
use Rattle.accumulator_templates.specs.DataBlocks.{block_exchange_of, block_open_of, number_load_of, types_of_block_exchange, types_of_block_open}
use Rattle.accumulator_templates.specs.Logic.{logic_value_of, computed_of, fixed_of, logic_of, other_of, result_of, type_of_logic, types_of_logic, with_pattern_of}
use Rattle.accumulator_templates.specs.Moves.{exchange_of, load_of, pop_of, push_of, status_load_of, status_store_of, status_value, taken_of, transfer_of, types_of_exchange, types_of_load, with_flag_of}
use Rattle.accumulator_templates.specs.AccumulatorParts.{any_bit_of, bits_where_of, lowest_bits_of, dword_of, zero_extension_of, with_byte_of, with_low_of}
use Rattle.accumulator_templates.specs.Sums.{add_dword_of, add_word_of, dec_of, inc_of, unless_zero}
use Rattle.template_parts.specs.Builders.{constant_of, convert_of, read_of, set_of}
use Rattle.template_parts.specs.Fetching.{fetched_value_of, types_reached, writing_of}
use Rattle.template_parts.proofs.FetchBounds.{fetch_plain, fetched_is, reach_plain, writing_plain}
use Rattle.template_parts.specs.Templates.{AreTyped, HasFormals, IsPlainBody}
use Rattle.template_parts.proofs.Typing.{IsOf, binary_is, constant_is, convert_is, first_typed, literal_is, local_is, local_plain, more, register_is, select_is, set_plain, shift_is, unary_is}

-- constants of their types

dword_value : (c : ℕ) → c < 2 ^ 32 → is_value type.Dword (pos c) ≡ true
dword_value c h = grind (arith, ints)

word_value : (c : ℕ) → c < 2 ^ 16 → is_value type.Word (pos c) ≡ true
word_value c h = grind (arith, ints)

int_value : (n : ℤ) → is_over 16 n ≡ false → is_value type.Int n ≡ true
int_value n h = grind (arith, ints)

dint_value : (n : ℤ) → is_over 32 n ≡ false → is_value type.Dint n ≡ true
dint_value n h = grind (arith, ints)

byte_value : (n : ℕ) → n < 2 ^ 8 → is_value type.Int (pos n) ≡ true
byte_value n h = grind (arith, ints)

module _ (sight : UnitScope) where
  -- Parts

  one_is : IsOf sight type.Dword 1 (read_of reg.Accu1)
  one_is = register_is sight reg.Accu1

  two_is : IsOf sight type.Dword 1 (read_of reg.Accu2)
  two_is = register_is sight reg.Accu2

  any_bit_is : {n : ℕ} {e : Expr} (mask : ℕ) → is_value type.Dword (pos mask) ≡ true
      → IsOf sight type.Dword n e → IsOf sight type.Bool (3 + n) (any_bit_of e mask)
  any_bit_is mask h k =
      more sight (omega arith) (binary_is sight binary.Ne tt refl (binary_is sight binary.And tt refl k (constant_is sight h)) (constant_is sight refl))

  bits_where_is : {n : ℕ} {e : Expr} (mask : ℕ) → is_value type.Dword (pos mask) ≡ true
      → IsOf sight type.Bool n e → IsOf sight type.Dword (3 + n) (bits_where_of e mask)
  bits_where_is mask h k = more sight (omega arith) (select_is sight k (constant_is sight refl) (constant_is sight h))

  cut_is : {n : ℕ} {e : Expr} (w : Width) → IsOf sight type.Dword n e → IsOf sight (type_of_width w) (3 + n) (lowest_bits_of w e)
  cut_is width.Bit h = any_bit_is 1 refl h
  cut_is width.Byte h = more sight (omega arith) (convert_is sight refl h)
  cut_is width.Word h = more sight (omega arith) (convert_is sight refl h)
  cut_is width.Dword h = more sight (omega arith) h

  extended_is : {n : ℕ} {e : Expr} (w : Width) → IsOf sight (type_of_width w) n e → IsOf sight type.Dword (3 + n) (zero_extension_of w e)
  extended_is width.Bit h = bits_where_is 1 refl h
  extended_is width.Byte h = more sight (omega arith) (convert_is sight refl h)
  extended_is width.Word h = more sight (omega arith) (convert_is sight refl h)
  extended_is width.Dword h = more sight (omega arith) h

  with_byte_is : {n : ℕ} {e : Expr} → IsOf sight type.Byte n e → IsOf sight type.Dword (4 + n) (with_byte_of e)
  with_byte_is h =
      more sight (omega arith)
      (binary_is sight binary.Or tt refl (binary_is sight binary.And tt refl one_is (constant_is sight refl)) (extended_is width.Byte h))

  with_low_is : {n : ℕ} {e : Expr} → IsOf sight type.Word n e → IsOf sight type.Dword (4 + n) (with_low_of e)
  with_low_is h =
      more sight (omega arith)
      (binary_is sight binary.Or tt refl (binary_is sight binary.And tt refl one_is (constant_is sight refl)) (extended_is width.Word h))

  zero_is : (w : Width) → IsOf sight (type_of_width w) 1 (expr.Literal (type_of_width w) (pos 0))
  zero_is width.Bit = constant_is sight refl
  zero_is width.Byte = constant_is sight refl
  zero_is width.Word = constant_is sight refl
  zero_is width.Dword = constant_is sight refl

  with_flag_is : {n : ℕ} {e : Expr} (r : Reg) (mask : ℕ) → type_of_register r ≡ type.Bool → is_value type.Dword (pos mask) ≡ true → IsOf sight type.Dword n e
      → IsOf sight type.Dword (5 + n) (with_flag_of e r mask)
  with_flag_is r mask t h k =
      more sight (omega arith)
      (binary_is sight binary.Or tt refl k (bits_where_is mask h (subst (λ (ty : StType). IsOf sight ty 1 (read_of r)) t (register_is sight r))))

  -- Word logic

  other_is : (l : LogicRow) (c : Option ℕ) → IsOfWidth (width_of l) c → IsOf sight (type_of_logic l) 4 (other_of l c)
  other_is row.Aw (Some c) h = more sight (omega arith) (constant_is sight (word_value c h))
  other_is row.Ow (Some c) h = more sight (omega arith) (constant_is sight (word_value c h))
  other_is row.Xow (Some c) h = more sight (omega arith) (constant_is sight (word_value c h))
  other_is row.Ad (Some c) h = more sight (omega arith) (constant_is sight (dword_value c h))
  other_is row.Od (Some c) h = more sight (omega arith) (constant_is sight (dword_value c h))
  other_is row.Xod (Some c) h = more sight (omega arith) (constant_is sight (dword_value c h))
  other_is l None h = cut_is (width_of l) two_is

  combined_is : (l : LogicRow) (c : Option ℕ) → IsOfWidth (width_of l) c → IsOf sight (type_of_logic l) 5 (logic_value_of l c)
  combined_is row.Aw c h = binary_is sight binary.And tt refl (cut_is width.Word one_is) (other_is row.Aw c h)
  combined_is row.Ow c h = binary_is sight binary.Or tt refl (cut_is width.Word one_is) (other_is row.Ow c h)
  combined_is row.Xow c h = binary_is sight binary.Xor tt refl (cut_is width.Word one_is) (other_is row.Xow c h)
  combined_is row.Ad c h = binary_is sight binary.And tt refl (cut_is width.Dword one_is) (other_is row.Ad c h)
  combined_is row.Od c h = binary_is sight binary.Or tt refl (cut_is width.Dword one_is) (other_is row.Od c h)
  combined_is row.Xod c h = binary_is sight binary.Xor tt refl (cut_is width.Dword one_is) (other_is row.Xod c h)

  placed_is : (l : LogicRow) (e : Expr) → IsOf sight (type_of_logic l) 1 e → IsOf sight type.Dword 5 (with_pattern_of l e)
  placed_is row.Aw e h = with_low_is h
  placed_is row.Ow e h = with_low_is h
  placed_is row.Xow e h = with_low_is h
  placed_is row.Ad e h = more sight (omega arith) h
  placed_is row.Od e h = more sight (omega arith) h
  placed_is row.Xod e h = more sight (omega arith) h

  is_dword : (l : LogicRow) (c : ℕ) → c < 2 ^ bits_wide (width_of l) → c < 2 ^ 32
  is_dword row.Aw c h = omega arith
  is_dword row.Ow c h = omega arith
  is_dword row.Xow c h = omega arith
  is_dword row.Ad c h = h
  is_dword row.Od c h = h
  is_dword row.Xod c h = h

  -- Bytes in reverse order

  low_byte_is : {n : ℕ} {e : Expr} → IsOf sight type.Dword n e → IsOf sight type.Dword (2 + n) (low_byte_of e)
  low_byte_is h = more sight (omega arith) (convert_is sight refl (convert_is sight {to = type.Byte} refl h))

  byte_above_is : (n : ℕ) → is_value type.Int (pos n) ≡ true → IsOf sight type.Dword 4 (byte_above_of n)
  byte_above_is n h = low_byte_is (shift_is sight shift.Shr refl one_is (constant_is sight h))

  -- Statements

  module _ (rest : List Stmt) (plain : IsPlainBody sight rest) where
    -- ACCU1 takes a value
    one_plain : {n : ℕ} (e : Expr) → n ≤ 32 → IsOf sight type.Dword n e → IsPlainBody sight (set_of reg.Accu1 e ∷ rest)
    one_plain e small h = set_plain sight reg.Accu1 e rest small h plain

    taken_plain : {n : ℕ} (e : Expr) → n ≤ 32 → IsOf sight type.Dword n e → IsPlainBody sight (taken_of e ++ rest)
    taken_plain e small h = set_plain sight reg.Accu2 (read_of reg.Accu1) (set_of reg.Accu1 e ∷ rest) (omega arith) one_is (one_plain e small h)

    pub load_plain : (formals : Widths) → HasFormals sight formals → (first : ℕ) (a : LoadArg)
        → HasOperand formals (op.Load a) → AreTyped sight first (types_of_load a) → IsPlainBody sight (load_of first a ++ rest)
    load_plain formals named first (arg.At o w) h own =
        let e : Expr = fetched_value_of first o w in
        fetch_plain sight formals named first o w (taken_of (zero_extension_of w e)) rest h.1 own
        (taken_plain (zero_extension_of w e) (omega arith) (extended_is w (fetched_is sight formals named first o w h.1 own)))
    load_plain formals named first (arg.Constant c) h own = taken_plain (dword_of c) (omega arith) (constant_is sight (dword_value c h))

    pub transfer_plain : (formals : Widths) → HasFormals sight formals → (first : ℕ) (o : Operand) (w : Width)
        → HasOperand formals (op.Transfer o w) → AreTyped sight first (types_reached o)
        → IsPlainBody sight (transfer_of first o w ++ rest)
    transfer_plain formals named first o w h own =
        let e : Expr = lowest_bits_of w (read_of reg.Accu1) in
        reach_plain sight formals named first o w (writing_of first o w e ∷ []) rest h.1 own
        (writing_plain sight formals named first o w e rest (omega arith) h.1 own (cut_is w one_is) plain)

    pub status_load_plain : IsPlainBody sight (status_load_of ++ rest)
    status_load_plain =
        taken_plain status_value (omega arith)
        (with_flag_is reg.Br 0x100 refl refl
        (with_flag_is reg.Cc1 0x80 refl refl
        (with_flag_is reg.Cc0 0x40 refl refl
        (with_flag_is reg.Ov 0x20 refl refl (with_flag_is reg.Os 0x10 refl refl (bits_where_is 0x2 refl (register_is sight reg.Rlo)))))))

    pub status_store_plain : IsPlainBody sight (status_store_of ++ rest)
    status_store_plain =
        set_plain sight reg.Rlo _ _ (omega arith) (any_bit_is 0x2 refl one_is)
        (set_plain sight reg.Os _ _ (omega arith) (any_bit_is 0x10 refl one_is)
        (set_plain sight reg.Ov _ _ (omega arith) (any_bit_is 0x20 refl one_is)
        (set_plain sight reg.Cc0 _ _ (omega arith) (any_bit_is 0x40 refl one_is)
        (set_plain sight reg.Cc1 _ _ (omega arith) (any_bit_is 0x80 refl one_is)
        (set_plain sight reg.Br _ _ (omega arith) (any_bit_is 0x100 refl one_is) plain)))))

    pub exchange_plain : (first : ℕ) → AreTyped sight first types_of_exchange → IsPlainBody sight (exchange_of first ++ rest)
    exchange_plain first own =
        let local : variable_type sight (var.Local first) ≡ Some type.Dword = first_typed sight first type.Dword [] own in
        local_plain sight _ _ _ (omega arith) local one_is
        (set_plain sight reg.Accu1 _ _ (omega arith) two_is (set_plain sight reg.Accu2 _ _ (omega arith) (local_is sight local) plain))

    pub push_plain : IsPlainBody sight (push_of ++ rest)
    push_plain = set_plain sight reg.Accu2 (read_of reg.Accu1) rest (omega arith) one_is plain

    pub pop_plain : IsPlainBody sight (pop_of ++ rest)
    pop_plain = one_plain (read_of reg.Accu2) (omega arith) two_is

    -- Numbers of data blocks

    -- OPN, of a register that is a WORD
    block_open_plain : (formals : Widths) → HasFormals sight formals → (r : Reg) → type_of_register r ≡ type.Word
        → (first : ℕ) (d : OpenArg) → IsOpenArg formals d → AreTyped sight first (types_of_block_open d)
        → IsPlainBody sight (block_open_of first r d ++ rest)
    block_open_plain formals named r t first d h own = by d h own
      where
        takes : (e : Expr) → IsOf sight type.Word 1 e → IsPlainBody sight (set_of r e ∷ rest)
        takes e k = set_plain sight r e rest (omega arith) (subst (λ (ty : StType). IsOf sight ty 1 e) (sym t) k) plain

        by : (d : OpenArg) → IsOpenArg formals d → AreTyped sight first (types_of_block_open d) → IsPlainBody sight (block_open_of first r d ++ rest)
        by (open_arg.Number n) h own =
            let most : n ≤ 65535 = h.1 in takes (constant_of type.Word (pos n)) (constant_is sight (word_value n (omega arith)))
        by (open_arg.At o) h own =
            fetch_plain sight formals named first o width.Word (set_of r (fetched_value_of first o width.Word) ∷ []) rest h.1 own
            (takes (fetched_value_of first o width.Word) (fetched_is sight formals named first o width.Word h.1 own))

    pub open_db_plain : (formals : Widths) → HasFormals sight formals → (first : ℕ) (d : OpenArg)
        → IsOpenArg formals d → AreTyped sight first (types_of_block_open d)
        → IsPlainBody sight (block_open_of first reg.DbNo d ++ rest)
    open_db_plain formals named first d h own = block_open_plain formals named reg.DbNo refl first d h own

    pub open_di_plain : (formals : Widths) → HasFormals sight formals → (first : ℕ) (d : OpenArg)
        → IsOpenArg formals d → AreTyped sight first (types_of_block_open d)
        → IsPlainBody sight (block_open_of first reg.DiNo d ++ rest)
    open_di_plain formals named first d h own = block_open_plain formals named reg.DiNo refl first d h own

    pub block_exchange_plain : (first : ℕ) → AreTyped sight first types_of_block_exchange → IsPlainBody sight (block_exchange_of first ++ rest)
    block_exchange_plain first own =
        let local : variable_type sight (var.Local first) ≡ Some type.Word = first_typed sight first type.Word [] own in
        local_plain sight _ _ _ (omega arith) local (register_is sight reg.DbNo)
        (set_plain sight reg.DbNo _ _ (omega arith) (register_is sight reg.DiNo) (set_plain sight reg.DiNo _ _ (omega arith) (local_is sight local) plain))

    pub db_number_load_plain : IsPlainBody sight (number_load_of reg.DbNo ++ rest)
    db_number_load_plain = taken_plain (convert_of type.Word type.Dword (read_of reg.DbNo)) (omega arith) (convert_is sight refl (register_is sight reg.DbNo))

    pub di_number_load_plain : IsPlainBody sight (number_load_of reg.DiNo ++ rest)
    di_number_load_plain = taken_plain (convert_of type.Word type.Dword (read_of reg.DiNo)) (omega arith) (convert_is sight refl (register_is sight reg.DiNo))

    -- Constants; they are ones of the widths that the instructions give them

    unless_zero_plain : {m : ℕ} (n : ℤ) (e : Expr) → m ≤ 32 → IsOf sight type.Dword m e → IsPlainBody sight (unless_zero n e ++ rest)
    unless_zero_plain n e small h = by (int_eq n (pos 0))
      where
        by : (b : Bool) → IsPlainBody sight ((if b then [] else set_of reg.Accu1 e ∷ []) ++ rest)
        by true = plain
        by false = one_plain e small h

    pub add_word_plain : (n : ℤ) → is_over 16 n ≡ false → IsPlainBody sight (add_word_of n ++ rest)
    add_word_plain n h =
        unless_zero_plain n _ (omega arith)
        (with_low_is (convert_is sight refl (binary_is sight binary.Add tt refl (convert_is sight refl one_is) (constant_is sight (int_value n h)))))

    pub add_dword_plain : (n : ℤ) → is_over 32 n ≡ false → IsPlainBody sight (add_dword_of n ++ rest)
    add_dword_plain n h =
        unless_zero_plain n _ (omega arith)
        (convert_is sight refl (binary_is sight binary.Add tt refl (convert_is sight refl one_is) (constant_is sight (dint_value n h))))

    pub inc_plain : (n : ℕ) → n < 2 ^ 8 → IsPlainBody sight (inc_of n ++ rest)
    inc_plain n h =
        unless_zero_plain (pos n) _ (omega arith)
        (with_byte_is (convert_is sight refl (binary_is sight binary.Add tt refl (convert_is sight refl one_is) (constant_is sight (byte_value n h)))))

    pub dec_plain : (n : ℕ) → n < 2 ^ 8 → IsPlainBody sight (dec_of n ++ rest)
    dec_plain n h =
        unless_zero_plain (pos n) _ (omega arith)
        (with_byte_is (convert_is sight refl (binary_is sight binary.Sub tt refl (convert_is sight refl one_is) (constant_is sight (byte_value n h)))))

    -- Word logic

    result_plain : {m n : ℕ} (nonzero accu1 : Expr) → m ≤ 32 → n ≤ 32 → IsOf sight type.Bool m nonzero → IsOf sight type.Dword n accu1
        → IsPlainBody sight (result_of nonzero accu1 ++ rest)
    result_plain nonzero accu1 low high h k =
        set_plain sight reg.Cc1 nonzero _ low h
        (set_plain sight reg.Cc0 _ _ (omega arith) (literal_is sight false)
        (set_plain sight reg.Ov _ _ (omega arith) (literal_is sight false) (one_plain accu1 high k)))

    fixed_plain : (c : ℕ) → c < 2 ^ 32 → IsPlainBody sight (fixed_of c ++ rest)
    fixed_plain c h = result_plain _ _ (omega arith) (omega arith) (literal_is sight (not (c == 0))) (constant_is sight (dword_value c h))

    computed_plain : (first : ℕ) (l : LogicRow) (c : Option ℕ) → IsOfWidth (width_of l) c → variable_type sight (var.Local first) ≡ Some (type_of_logic l)
        → IsPlainBody sight (computed_of first l c ++ rest)
    computed_plain first l c h own =
        local_plain sight _ _ _ (omega arith) own (combined_is l c h)
        (result_plain _ _ (omega arith) (omega arith)
        (binary_is sight binary.Ne tt refl (local_is sight own) (zero_is (width_of l))) (placed_is l _ (local_is sight own)))

    pub logic_plain : (first : ℕ) (l : LogicRow) (c : Option ℕ) → HasOperand [] (op.Logic l c) → AreTyped sight first (types_of_logic l c)
        → IsPlainBody sight (logic_of first l c ++ rest)
    logic_plain first l None h own = computed_plain first l None h (first_typed sight first (type_of_logic l) [] own)
    logic_plain first l (Some c) h own = by (is_fixed l c) own
      where
        by : (b : Bool) → AreTyped sight first (if b then [] else type_of_logic l ∷ [])
            → IsPlainBody sight ((if b then fixed_of c else computed_of first l (Some c)) ++ rest)
        by true none = fixed_plain c (is_dword l c h)
        by false one = computed_plain first l (Some c) h (first_typed sight first (type_of_logic l) [] one)

    -- Conversions

    pub itd_plain : IsPlainBody sight (itd_of ++ rest)
    itd_plain = one_plain _ (omega arith) (convert_is sight refl (convert_is sight refl one_is))

    pub invi_plain : IsPlainBody sight (invi_of ++ rest)
    invi_plain = one_plain _ (omega arith) (with_low_is (unary_is sight unary.Not refl (cut_is width.Word one_is)))

    pub invd_plain : IsPlainBody sight (invd_of ++ rest)
    invd_plain = one_plain _ (omega arith) (unary_is sight unary.Not refl one_is)

    pub caw_plain : IsPlainBody sight (caw_of ++ rest)
    caw_plain = one_plain _ (omega arith) (with_low_is (shift_is sight shift.Rol refl (cut_is width.Word one_is) (constant_is sight refl)))

    pub cad_plain : IsPlainBody sight (cad_of ++ rest)
    cad_plain =
        one_plain reversed_value (omega arith)
        (binary_is sight binary.Or tt refl
        (binary_is sight binary.Or tt refl
        (binary_is sight binary.Or tt refl
        (shift_is sight shift.Shl refl (low_byte_is one_is) (constant_is sight refl))
        (shift_is sight shift.Shl refl (byte_above_is 8 refl) (constant_is sight refl)))
        (shift_is sight shift.Shl refl (byte_above_is 16 refl) (constant_is sight refl)))
        (byte_above_is 24 refl))
