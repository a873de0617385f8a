-- What the statements before a row add to the bounds of a body: few nodes, writes alone, no register read but those that
-- the operand is found by, good types. Where it is said of statements with others behind them, those are a template and
-- the rest of the body, as the statements of an instruction have them.
use Rattle.std.proofs.Common.{◌≡◌, ℕ, ◌+◌, ◌*◌, ◌^◌, ◌<◌, ◌≤◌, pos, Bool, true, false, if◌then◌else◌, List, [], ◌∷◌, ◌++◌, length, Some, inl, refl, sym, subst, arith}
use Rattle.std.proofs.lemmas.Int.{ints}
use Rattle.std.proofs.lemmas.List.{append_assoc, length-append}
use Rattle.memory_areas.specs.declared.place.AreaName.{AreaName}
use Rattle.memory_areas.specs.declared.place.AreaName.TheVariants as area
use Rattle.s7_base.specs.declared.register.Reg.{Reg}
use Rattle.s7_base.specs.declared.register.Reg.TheVariants as reg
use Rattle.s7_base.specs.declared.word.Width.{Width}
use Rattle.s7_base.specs.declared.word.Width.TheVariants as width
use Rattle.stl_tree.specs.Accepted.{IsOperand, Widths}
use Rattle.memory_areas.specs.Access.{code_of}
use Rattle.stl_tree.specs.Reads.{found_by, register_of}
use Rattle.stl_tree.specs.declared.program.Ar.{Ar}
use Rattle.stl_tree.specs.declared.program.Ar.TheVariants as ar
use Rattle.stl_tree.specs.declared.program.Operand.{Operand}
use Rattle.stl_tree.specs.declared.program.Operand.TheVariants as operand
use Rattle.st_tree.specs.Values.{type_of_width}
use Rattle.st_tree.specs.WellTyped.{UnitScope, is_value, variable_type}
use Rattle.st_tree.specs.declared.expr.BinaryOp.TheVariants as binary
use Rattle.st_tree.specs.declared.expr.Expr.{Expr}
use Rattle.st_tree.specs.declared.expr.Expr.TheVariants as expr
use Rattle.st_tree.specs.declared.expr.StType.TheVariants as type
use Rattle.st_tree.specs.declared.expr.Var.TheVariants as var
use Rattle.st_tree.specs.declared.program.Stmt.{Stmt}
use Rattle.st_tree.specs.declared.program.Stmt.TheVariants as stmt
use Rattle.graph_rules.specs.Writes.{AreWrites}
use Rattle.template_parts.specs.Builders.{and_of, binary_of, constant_of, convert_of, local_of, read_of, set_local_of}
use Rattle.template_parts.specs.Fetching.{fetch_of, fetched_value_of, may_fault, reach_of, reading_of, types_fetched, types_reached, writing_of}
use Rattle.template_parts.specs.Nodes.{nodes, nodes_in}
use Rattle.template_parts.specs.Pointing.{crossing_of, in_area_of, place_in_of, sum_of}
use Rattle.template_parts.proofs.ReadRegisters.{AllRead, Has, Reads, area_read_reads, area_write_reads, assigned_reads, constant_reads, convert_reads, direct_reads, formal_reads, joined_reads, local_reads, register_reads}
use Rattle.template_parts.proofs.Sizes.{counts, of_append, of_area_read, of_area_write, of_assign, of_nothing, of_read}
use Rattle.template_parts.specs.Templates.{AreTyped, HasFormals, IsPlainBody}
use Rattle.template_parts.proofs.Typing.{IsOf, area_read_is, area_written, assigned, binary_is, constant_is, convert_is, direct_typed, first_typed, left_typed, local_is, local_plain, more, read_is, register_is, right_typed, set_plain}

-- what holds of a list with a list behind it, in either grouping
regrouped : (P : List Stmt → Type 0) (xs ys rest : List Stmt) → P (xs ++ (ys ++ rest)) → P (xs ++ ys ++ rest)
regrouped P xs ys rest h = subst P (sym (append_assoc xs ys rest)) h

-- the statement that fetches an operand, where one does
abbrev taking : ℕ → Operand → Width → Bool → List Stmt
taking first o w b = if b then set_local_of (first + length (types_reached o)) (reading_of first o w) ∷ [] else []

-- How many

pub reach_length : (first : ℕ) (o : Operand) → length (reach_of first o) ≤ 2
reach_length first (operand.Direct a byte x) = omega arith
reach_length first (operand.Opened n byte x) = omega arith
reach_length first (operand.Formal k) = omega arith
reach_length first (operand.ByMemory a pointer_area byte) = omega arith
reach_length first (operand.ByRegister a r offset) = omega arith
reach_length first (operand.Crossing r offset) = omega arith

pub fetch_length : (first : ℕ) (o : Operand) (w : Width) → length (fetch_of first o w) ≤ 3
fetch_length first o w = by (may_fault o)
  where
    by : (b : Bool) → length (reach_of first o ++ taking first o w b) ≤ 3
    by true = omega (arith, reach_length first o, length-append (reach_of first o) (taking first o w true))
    by false = omega (arith, reach_length first o, length-append (reach_of first o) [])

pub reached_length : (o : Operand) → length (types_reached o) ≤ 2
reached_length (operand.Direct a byte x) = omega arith
reached_length (operand.Opened n byte x) = omega arith
reached_length (operand.Formal k) = omega arith
reached_length (operand.ByMemory a pointer_area byte) = omega arith
reached_length (operand.ByRegister a r offset) = omega arith
reached_length (operand.Crossing r offset) = omega arith

pub types_length : (o : Operand) (w : Width) → length (types_fetched o w) ≤ 3
types_length o w = by (may_fault o)
  where
    by : (b : Bool) → length (types_reached o ++ (if b then type_of_width w ∷ [] else [])) ≤ 3
    by true = omega (arith, reached_length o, length-append (types_reached o) (type_of_width w ∷ []))
    by false = omega (arith, reached_length o, length-append (types_reached o) [])

-- the locals of the way are some of those of an operand that is fetched
pub reached_fewer : (o : Operand) (w : Width) → length (types_reached o) ≤ length (types_fetched o w)
reached_fewer o w = omega (arith, length-append (types_reached o) (if may_fault o then type_of_width w ∷ [] else []))

-- Nodes

memory_nodes : (first : ℕ) (a pointer_area : AreaName) (byte : ℕ) → nodes_in (reach_of first (operand.ByMemory a pointer_area byte)) ≡ 6
memory_nodes first a pointer_area byte = simp counts

register_nodes : (first : ℕ) (a : AreaName) (r : Ar) (offset : ℕ) → nodes_in (reach_of first (operand.ByRegister a r offset)) ≡ 9
register_nodes first a r offset = simp counts

crossing_nodes : (first : ℕ) (r : Ar) (offset : ℕ) → nodes_in (reach_of first (operand.Crossing r offset)) ≡ 11
crossing_nodes first r offset = simp counts

opened_nodes : (first n byte x : ℕ) → nodes_in (reach_of first (operand.Opened n byte x)) ≡ 1
opened_nodes first n byte x = simp counts

pub reach_nodes : (first : ℕ) (o : Operand) → nodes_in (reach_of first o) ≤ 11
reach_nodes first (operand.Direct a byte x) = omega (arith, of_nothing)
reach_nodes first (operand.Opened n byte x) = omega (arith, opened_nodes first n byte x)
reach_nodes first (operand.Formal k) = omega (arith, of_nothing)
reach_nodes first (operand.ByMemory a pointer_area byte) = omega (arith, memory_nodes first a pointer_area byte)
reach_nodes first (operand.ByRegister a r offset) = omega (arith, register_nodes first a r offset)
reach_nodes first (operand.Crossing r offset) = omega (arith, crossing_nodes first r offset)

by_pointer : (i : ℕ) (w : Width) → nodes (expr.AreaRead w (local_of i)) ≤ 2
by_pointer i w = omega (arith, of_area_read w (local_of i), of_read (var.Local i))

pub reading_nodes : (first : ℕ) (o : Operand) (w : Width) → nodes (reading_of first o w) ≤ 2
reading_nodes first (operand.Direct a byte x) w = omega (arith, of_read (var.Direct a byte x w))
reading_nodes first (operand.Opened n byte x) w = omega (arith, of_read (var.Direct area.Db byte x w))
reading_nodes first (operand.Formal k) w = omega (arith, of_read (var.Formal k))
reading_nodes first (operand.ByMemory a pointer_area byte) w = by_pointer (first + 1) w
reading_nodes first (operand.ByRegister a r offset) w = by_pointer first w
reading_nodes first (operand.Crossing r offset) w = by_pointer first w

area_write_nodes : (i : ℕ) (w : Width) (e : Expr) (rest : List Stmt) → nodes_in (stmt.AreaWrite w (local_of i) e ∷ rest) ≤ 1 + nodes e + nodes_in rest
area_write_nodes i w e rest = omega (arith, of_area_write w (local_of i) e rest, of_read (var.Local i))

pub writing_nodes : (first : ℕ) (o : Operand) (w : Width) (e : Expr) (rest : List Stmt) → nodes_in (writing_of first o w e ∷ rest) ≤ 1 + nodes e + nodes_in rest
writing_nodes first (operand.Direct a byte x) w e rest = omega (arith, of_assign (var.Direct a byte x w) e rest)
writing_nodes first (operand.Opened n byte x) w e rest = omega (arith, of_assign (var.Direct area.Db byte x w) e rest)
writing_nodes first (operand.Formal k) w e rest = omega (arith, of_assign (var.Formal k) e rest)
writing_nodes first (operand.ByMemory a pointer_area byte) w e rest = area_write_nodes (first + 1) w e rest
writing_nodes first (operand.ByRegister a r offset) w e rest = area_write_nodes first w e rest
writing_nodes first (operand.Crossing r offset) w e rest = area_write_nodes first w e rest

pub fetch_nodes : (first : ℕ) (o : Operand) (w : Width) → nodes_in (fetch_of first o w) ≤ 13
fetch_nodes first o w = by (may_fault o)
  where
    by : (b : Bool) → nodes_in (reach_of first o ++ taking first o w b) ≤ 13
    by true =
        omega (
          arith,
          reach_nodes first o,
          of_append (reach_of first o) (taking first o w true),
          of_assign (var.Local (first + length (types_reached o))) (reading_of first o w) [],
          reading_nodes first o w,
          of_nothing,
        )
    by false = omega (arith, reach_nodes first o, of_append (reach_of first o) [], of_nothing)

-- an operand that is fetched or needs no fetching is a variable
pub fetched_nodes : (first : ℕ) (o : Operand) (w : Width) → nodes (fetched_value_of first o w) ≡ 1
fetched_nodes first (operand.Direct a byte x) w = by (may_fault (operand.Direct a byte x))
  where
    by : (b : Bool) → nodes (if b then local_of (first + 0) else expr.Read (var.Direct a byte x w)) ≡ 1
    by true = of_read (var.Local (first + 0))
    by false = of_read (var.Direct a byte x w)
fetched_nodes first (operand.Opened n byte x) w = of_read (var.Local (first + 0))
fetched_nodes first (operand.Formal k) w = of_read (var.Local (first + 0))
fetched_nodes first (operand.ByMemory a pointer_area byte) w = of_read (var.Local (first + 2))
fetched_nodes first (operand.ByRegister a r offset) w = of_read (var.Local (first + 1))
fetched_nodes first (operand.Crossing r offset) w = of_read (var.Local (first + 1))

-- Writes

pub writes_in_parts : (xs ys : List Stmt) → AreWrites xs → AreWrites ys → AreWrites (xs ++ ys)
writes_in_parts [] ys h k = k
writes_in_parts (stmt.Assign v e ∷ xs) ys h k = writes_in_parts xs ys h k
writes_in_parts (stmt.AreaWrite w p e ∷ xs) ys h k = writes_in_parts xs ys h k
writes_in_parts (x ∷ xs) ys h k = elim h [ ]

pub reach_writes : (first : ℕ) (o : Operand) → AreWrites (reach_of first o)
reach_writes first (operand.Direct a byte x) = tt
reach_writes first (operand.Opened n byte x) = tt
reach_writes first (operand.Formal k) = tt
reach_writes first (operand.ByMemory a pointer_area byte) = tt
reach_writes first (operand.ByRegister a r offset) = tt
reach_writes first (operand.Crossing r offset) = tt

pub fetch_writes : (first : ℕ) (o : Operand) (w : Width) → AreWrites (fetch_of first o w)
fetch_writes first o w = by (may_fault o)
  where
    by : (b : Bool) → AreWrites (reach_of first o ++ taking first o w b)
    by true = writes_in_parts (reach_of first o) (taking first o w true) (reach_writes first o) tt
    by false = writes_in_parts (reach_of first o) [] (reach_writes first o) tt

pub writing_writes : (first : ℕ) (o : Operand) (w : Width) (e : Expr) (rest : List Stmt) → AreWrites rest → AreWrites (writing_of first o w e ∷ rest)
writing_writes first (operand.Direct a byte x) w e rest h = h
writing_writes first (operand.Opened n byte x) w e rest h = h
writing_writes first (operand.Formal k) w e rest h = h
writing_writes first (operand.ByMemory a pointer_area byte) w e rest h = h
writing_writes first (operand.ByRegister a r offset) w e rest h = h
writing_writes first (operand.Crossing r offset) w e rest h = h

-- Registers that are read

module _ (P : Reg → Type 0) where
  place_reads : (e : Expr) → Reads P e → Reads P (place_in_of e)
  place_reads e h = joined_reads P binary.And e (constant_of type.Dword (pos 524287)) h (constant_reads P type.Dword (pos 524287))

  in_area_reads : (a : AreaName) (e : Expr) → Reads P e → Reads P (in_area_of a e)
  in_area_reads a e h =
      joined_reads P binary.Or (place_in_of e) (constant_of type.Dword (pos (code_of a * 2 ^ 24)))
      (place_reads e h) (constant_reads P type.Dword (pos (code_of a * 2 ^ 24)))

  sum_reads : (r : Ar) (offset : ℕ) → P (register_of r) → Reads P (sum_of r offset)
  sum_reads r offset h =
      let number : Expr = convert_of type.Dword type.Dint (read_of (register_of r)) in
      convert_reads P type.Dint type.Dword (binary_of binary.Add number (constant_of type.Dint (pos offset)))
      (joined_reads P binary.Add number (constant_of type.Dint (pos offset))
      (convert_reads P type.Dword type.Dint (read_of (register_of r)) (register_reads P (register_of r) h))
      (constant_reads P type.Dint (pos offset)))

  crossing_reads : (r : Ar) (offset : ℕ) → P (register_of r) → Reads P (crossing_of r offset)
  crossing_reads r offset h =
      joined_reads P binary.Or (and_of (read_of (register_of r)) (constant_of type.Dword (pos 4294443008))) (place_in_of (sum_of r offset))
      (joined_reads P binary.And (read_of (register_of r)) (constant_of type.Dword (pos 4294443008))
      (register_reads P (register_of r) h) (constant_reads P type.Dword (pos 4294443008)))
      (place_reads (sum_of r offset) (sum_reads r offset h))

  pub reach_reads_alone : (first : ℕ) (o : Operand) (rest : List Stmt) → Has P (found_by o) → AllRead P rest → AllRead P (reach_of first o ++ rest)
  reach_reads_alone first (operand.Direct a byte x) rest h k = k
  reach_reads_alone first (operand.Opened n byte x) rest h k =
      assigned_reads P (var.Register reg.DbNo) (constant_of type.Word (pos n)) rest (constant_reads P type.Word (pos n)) k
  reach_reads_alone first (operand.Formal k) rest h more = more
  reach_reads_alone first (operand.ByMemory a pointer_area byte) rest h k =
      assigned_reads P (var.Local first) (expr.Read (var.Direct pointer_area byte 0 width.Dword))
      (set_local_of (first + 1) (in_area_of a (local_of first)) ∷ rest)
      (direct_reads P pointer_area byte 0 width.Dword)
      (assigned_reads P (var.Local (first + 1)) (in_area_of a (local_of first)) rest (in_area_reads a (local_of first) (local_reads P first)) k)
  reach_reads_alone first (operand.ByRegister a r offset) rest h k =
      assigned_reads P (var.Local first) (in_area_of a (sum_of r offset)) rest
      (in_area_reads a (sum_of r offset) (sum_reads r offset (h (register_of r) (inl refl)))) k
  reach_reads_alone first (operand.Crossing r offset) rest h k =
      assigned_reads P (var.Local first) (crossing_of r offset) rest (crossing_reads r offset (h (register_of r) (inl refl))) k

  -- the operand, read and written
  pub reading_reads : (first : ℕ) (o : Operand) (w : Width) → Reads P (reading_of first o w)
  reading_reads first (operand.Direct a byte x) w = direct_reads P a byte x w
  reading_reads first (operand.Opened n byte x) w = direct_reads P area.Db byte x w
  reading_reads first (operand.Formal k) w = formal_reads P k
  reading_reads first (operand.ByMemory a pointer_area byte) w = area_read_reads P w (local_of (first + 1)) (local_reads P (first + 1))
  reading_reads first (operand.ByRegister a r offset) w = area_read_reads P w (local_of first) (local_reads P first)
  reading_reads first (operand.Crossing r offset) w = area_read_reads P w (local_of first) (local_reads P first)

  pub writing_reads : (first : ℕ) (o : Operand) (w : Width) (e : Expr) (rest : List Stmt)
      → Reads P e → AllRead P rest → AllRead P (writing_of first o w e ∷ rest)
  writing_reads first (operand.Direct a byte x) w e rest h k = assigned_reads P (var.Direct a byte x w) e rest h k
  writing_reads first (operand.Opened n byte x) w e rest h k = assigned_reads P (var.Direct area.Db byte x w) e rest h k
  writing_reads first (operand.Formal n) w e rest h k = assigned_reads P (var.Formal n) e rest h k
  writing_reads first (operand.ByMemory a pointer_area byte) w e rest h k = area_write_reads P w (local_of (first + 1)) e rest (local_reads P (first + 1)) h k
  writing_reads first (operand.ByRegister a r offset) w e rest h k = area_write_reads P w (local_of first) e rest (local_reads P first) h k
  writing_reads first (operand.Crossing r offset) w e rest h k = area_write_reads P w (local_of first) e rest (local_reads P first) h k

  pub fetch_reads_alone : (first : ℕ) (o : Operand) (w : Width) (rest : List Stmt)
      → Has P (found_by o) → AllRead P rest → AllRead P (fetch_of first o w ++ rest)
  fetch_reads_alone first o w rest h k = by (may_fault o)
    where
      by : (b : Bool) → AllRead P (reach_of first o ++ taking first o w b ++ rest)
      by true =
          regrouped (AllRead P) (reach_of first o) (taking first o w true) rest
          (reach_reads_alone first o (taking first o w true ++ rest) h
          (assigned_reads P (var.Local (first + length (types_reached o))) (reading_of first o w) rest (reading_reads first o w) k))
      by false = regrouped (AllRead P) (reach_of first o) [] rest (reach_reads_alone first o rest h k)

  pub reach_reads : (first : ℕ) (o : Operand) (own rest : List Stmt) → Has P (found_by o)
      → AllRead P (own ++ rest) → AllRead P (reach_of first o ++ own ++ rest)
  reach_reads first o own rest h k = regrouped (AllRead P) (reach_of first o) own rest (reach_reads_alone first o (own ++ rest) h k)

  pub fetch_reads : (first : ℕ) (o : Operand) (w : Width) (own rest : List Stmt)
      → Has P (found_by o) → AllRead P (own ++ rest) → AllRead P (fetch_of first o w ++ own ++ rest)
  fetch_reads first o w own rest h k = regrouped (AllRead P) (fetch_of first o w) own rest (fetch_reads_alone first o w (own ++ rest) h k)

  pub fetched_reads : (first : ℕ) (o : Operand) (w : Width) → Reads P (fetched_value_of first o w)
  fetched_reads first o w = by (may_fault o)
    where
      by : (b : Bool) → Reads P (if b then local_of (first + length (types_reached o)) else reading_of first o w)
      by true = local_reads P (first + length (types_reached o))
      by false = reading_reads first o w

-- Types

number_value : (n : ℕ) → n < 2 ^ 16 → is_value type.Word (pos n) ≡ true
number_value n h = grind (arith, ints)

offset_value : (n : ℕ) → n < 2 ^ 19 → is_value type.Dint (pos n) ≡ true
offset_value n h = grind (arith, ints)

code_value : (a : AreaName) → is_value type.Dword (pos (code_of a * 2 ^ 24)) ≡ true
code_value area.I = refl
code_value area.Q = refl
code_value area.M = refl
code_value area.L = refl
code_value area.Db = refl
code_value area.Di = refl

module _ (sight : UnitScope) where
  -- Pointers

  place_is : {n : ℕ} {e : Expr} → IsOf sight type.Dword n e → IsOf sight type.Dword (2 + n) (place_in_of e)
  place_is {n} {e} h = more sight (omega arith) (binary_is sight binary.And tt refl h (constant_is sight refl))

  in_area_is : {n : ℕ} {e : Expr} (a : AreaName) → IsOf sight type.Dword n e → IsOf sight type.Dword (3 + n) (in_area_of a e)
  in_area_is {n} {e} a h = more sight (omega arith) (binary_is sight binary.Or tt refl (place_is h) (constant_is sight (code_value a)))

  address_is : (r : Ar) → IsOf sight type.Dword 1 (read_of (register_of r))
  address_is ar.One = register_is sight reg.Ar1
  address_is ar.Two = register_is sight reg.Ar2

  sum_is : (r : Ar) (offset : ℕ) → offset < 2 ^ 19 → IsOf sight type.Dword 4 (sum_of r offset)
  sum_is r offset h =
      convert_is sight refl (binary_is sight binary.Add tt refl (convert_is sight refl (address_is r)) (constant_is sight (offset_value offset h)))

  crossing_is : (r : Ar) (offset : ℕ) → offset < 2 ^ 19 → IsOf sight type.Dword 7 (crossing_of r offset)
  crossing_is r offset h =
      binary_is sight binary.Or tt refl (binary_is sight binary.And tt refl (address_is r) (constant_is sight refl)) (place_is (sum_is r offset h))

  -- Operands, in a unit with formals of these widths

  module _ (formals : Widths) (named : HasFormals sight formals) where
    pub reach_plain_alone : (first : ℕ) (o : Operand) (w : Width) (rest : List Stmt)
        → IsOperand formals w o → AreTyped sight first (types_reached o) → IsPlainBody sight rest
        → IsPlainBody sight (reach_of first o ++ rest)
    reach_plain_alone first (operand.Direct a byte x) w rest h locals plain = plain
    reach_plain_alone first (operand.Opened n byte x) w rest h locals plain =
        let most : n ≤ 65535 = h.0.1 in
        set_plain sight reg.DbNo (constant_of type.Word (pos n)) rest (omega arith) (constant_is sight (number_value n (omega arith))) plain
    reach_plain_alone first (operand.Formal k) w rest h locals plain = plain
    reach_plain_alone first (operand.ByMemory a pointer_area byte) w rest h locals plain =
        let one = first_typed sight first type.Dword (type.Dword ∷ []) locals in
        local_plain sight first (expr.Read (var.Direct pointer_area byte 0 width.Dword))
        (set_local_of (first + 1) (in_area_of a (local_of first)) ∷ rest) (omega arith) one
        (read_is sight (var.Direct pointer_area byte 0 width.Dword) (direct_typed sight pointer_area byte 0 width.Dword h.1 refl))
        (local_plain sight (first + 1) (in_area_of a (local_of first)) rest (omega arith) (locals 1 type.Dword refl) (in_area_is a (local_is sight one)) plain)
    reach_plain_alone first (operand.ByRegister a r offset) w rest h locals plain =
        local_plain sight first (in_area_of a (sum_of r offset)) rest (omega arith)
        (first_typed sight first type.Dword [] locals) (in_area_is a (sum_is r offset h)) plain
    reach_plain_alone first (operand.Crossing r offset) w rest h locals plain =
        local_plain sight first (crossing_of r offset) rest (omega arith) (first_typed sight first type.Dword [] locals) (crossing_is r offset h) plain

    -- the operand, read and written
    pub reading_is : (first : ℕ) (o : Operand) (w : Width) → IsOperand formals w o
        → AreTyped sight first (types_reached o) → IsOf sight (type_of_width w) 2 (reading_of first o w)
    reading_is first (operand.Direct a byte x) w h locals =
        more sight (omega arith) (read_is sight (var.Direct a byte x w) (direct_typed sight a byte x w h.0 h.1))
    reading_is first (operand.Opened n byte x) w h locals =
        more sight (omega arith) (read_is sight (var.Direct area.Db byte x w) (direct_typed sight area.Db byte x w h.1 h.2))
    reading_is first (operand.Formal k) w h locals = more sight (omega arith) (read_is sight (var.Formal k) (named k w h))
    reading_is first (operand.ByMemory a pointer_area byte) w h locals = area_read_is sight w (local_is sight (locals 1 type.Dword refl))
    reading_is first (operand.ByRegister a r offset) w h locals = area_read_is sight w (local_is sight (first_typed sight first type.Dword [] locals))
    reading_is first (operand.Crossing r offset) w h locals = area_read_is sight w (local_is sight (first_typed sight first type.Dword [] locals))

    pub writing_plain : {n : ℕ} (first : ℕ) (o : Operand) (w : Width) (e : Expr) (rest : List Stmt)
        → n ≤ 32 → IsOperand formals w o → AreTyped sight first (types_reached o)
        → IsOf sight (type_of_width w) n e → IsPlainBody sight rest → IsPlainBody sight (writing_of first o w e ∷ rest)
    writing_plain first (operand.Direct a byte x) w e rest small h locals k plain =
        assigned sight (var.Direct a byte x w) e rest small (direct_typed sight a byte x w h.0 h.1) k plain
    writing_plain first (operand.Opened n byte x) w e rest small h locals k plain =
        assigned sight (var.Direct area.Db byte x w) e rest small (direct_typed sight area.Db byte x w h.1 h.2) k plain
    writing_plain first (operand.Formal n) w e rest small h locals k plain = assigned sight (var.Formal n) e rest small (named n w h) k plain
    writing_plain first (operand.ByMemory a pointer_area byte) w e rest small h locals k plain =
        area_written sight w (local_of (first + 1)) e rest (omega arith) small (local_is sight (locals 1 type.Dword refl)) k plain
    writing_plain first (operand.ByRegister a r offset) w e rest small h locals k plain =
        area_written sight w (local_of first) e rest (omega arith) small (local_is sight (first_typed sight first type.Dword [] locals)) k plain
    writing_plain first (operand.Crossing r offset) w e rest small h locals k plain =
        area_written sight w (local_of first) e rest (omega arith) small (local_is sight (first_typed sight first type.Dword [] locals)) k plain

    -- the locals of the way, and the one that takes what is read
    pub way_typed : (first : ℕ) (o : Operand) (w : Width) → AreTyped sight first (types_fetched o w) → AreTyped sight first (types_reached o)
    way_typed first o w locals = left_typed sight first (types_reached o) (if may_fault o then type_of_width w ∷ [] else []) locals

    taken_typed : (first : ℕ) (o : Operand) (w : Width) → AreTyped sight first (types_reached o ++ type_of_width w ∷ [])
        → variable_type sight (var.Local (first + length (types_reached o))) ≡ Some (type_of_width w)
    taken_typed first o w locals =
        first_typed sight (first + length (types_reached o)) (type_of_width w) []
        (right_typed sight first (first + length (types_reached o)) (types_reached o) (type_of_width w ∷ []) refl locals)

    pub fetch_plain_alone : (first : ℕ) (o : Operand) (w : Width) (rest : List Stmt)
        → IsOperand formals w o → AreTyped sight first (types_fetched o w) → IsPlainBody sight rest
        → IsPlainBody sight (fetch_of first o w ++ rest)
    fetch_plain_alone first o w rest h locals plain = by (may_fault o) locals
      where
        way : AreTyped sight first (types_reached o)
        way = way_typed first o w locals

        by : (b : Bool) → AreTyped sight first (types_reached o ++ (if b then type_of_width w ∷ [] else []))
            → IsPlainBody sight (reach_of first o ++ taking first o w b ++ rest)
        by true own =
            regrouped (IsPlainBody sight) (reach_of first o) (taking first o w true) rest
            (reach_plain_alone first o w (taking first o w true ++ rest) h way
            (local_plain sight (first + length (types_reached o)) (reading_of first o w) rest
            (omega arith) (taken_typed first o w own) (reading_is first o w h way) plain))
        by false own = regrouped (IsPlainBody sight) (reach_of first o) [] rest (reach_plain_alone first o w rest h way plain)

    pub reach_plain : (first : ℕ) (o : Operand) (w : Width) (own rest : List Stmt) → IsOperand formals w o
        → AreTyped sight first (types_reached o) → IsPlainBody sight (own ++ rest)
        → IsPlainBody sight (reach_of first o ++ own ++ rest)
    reach_plain first o w own rest h locals plain =
        regrouped (IsPlainBody sight) (reach_of first o) own rest (reach_plain_alone first o w (own ++ rest) h locals plain)

    pub fetch_plain : (first : ℕ) (o : Operand) (w : Width) (own rest : List Stmt) → IsOperand formals w o
        → AreTyped sight first (types_fetched o w) → IsPlainBody sight (own ++ rest)
        → IsPlainBody sight (fetch_of first o w ++ own ++ rest)
    fetch_plain first o w own rest h locals plain =
        regrouped (IsPlainBody sight) (fetch_of first o w) own rest (fetch_plain_alone first o w (own ++ rest) h locals plain)

    -- the operand as the row reads it
    pub fetched_is : (first : ℕ) (o : Operand) (w : Width) → IsOperand formals w o
        → AreTyped sight first (types_fetched o w) → IsOf sight (type_of_width w) 1 (fetched_value_of first o w)
    fetched_is first (operand.Direct a byte x) w h locals = by (may_fault (operand.Direct a byte x)) locals
      where
        by : (b : Bool) → AreTyped sight first (if b then type_of_width w ∷ [] else [])
            → IsOf sight (type_of_width w) 1 (if b then local_of (first + 0) else expr.Read (var.Direct a byte x w))
        by true own = local_is sight (own 0 (type_of_width w) refl)
        by false own = read_is sight (var.Direct a byte x w) (direct_typed sight a byte x w h.0 h.1)
    fetched_is first (operand.Opened n byte x) w h locals = local_is sight (locals 0 (type_of_width w) refl)
    fetched_is first (operand.Formal k) w h locals = local_is sight (locals 0 (type_of_width w) refl)
    fetched_is first (operand.ByMemory a pointer_area byte) w h locals = local_is sight (locals 2 (type_of_width w) refl)
    fetched_is first (operand.ByRegister a r offset) w h locals = local_is sight (locals 1 (type_of_width w) refl)
    fetched_is first (operand.Crossing r offset) w h locals = local_is sight (locals 1 (type_of_width w) refl)
