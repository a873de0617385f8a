-- The way to an operand: what the statements before an access lead to. Its data block is opened, or a local takes its
-- pointer, where the pointer's own access does not fault. In the state that they lead to the access has a place, or the
-- fault that stands in its place: a pointer may name no area.
use Rattle.std.proofs.Common.{◌≡◌, ℕ, ◌+◌, ◌*◌, ◌%◌, ◌^◌, ◌<◌, ◌≤◌, pos, true, List, [], ◌∷◌, ◌++◌, length, Result, Ok, Err, ◌⊎◌, inl, inr, refl, ap, subst, ◌∙◌, arith}
use Rattle.std.specs.Prelude.{slice_get, Some}
use Rattle.memory_areas.specs.Access.{and_then, code_of, name_of_code, place_aimed, aim_of_pointer, read_dword}
use Rattle.memory_areas.specs.Areas.{Contents}
use Rattle.memory_areas.specs.Pointers.{bit_of_pointer, byte_of_pointer, code_of_pointer, with_offset}
use Rattle.memory_areas.specs.declared.place.AreaName.{AreaName}
use Rattle.memory_areas.specs.declared.place.AreaName.TheVariants as area
use Rattle.memory_areas.specs.declared.place.Place.{Place}
use Rattle.s7_base.specs.declared.outcome.Fault.{Fault}
use Rattle.s7_base.specs.declared.register.Reg.TheVariants as reg
use Rattle.s7_base.specs.declared.word.Width.{Width}
use Rattle.s7_base.specs.declared.word.Width.TheVariants as width
use Rattle.stl_tree.specs.Accepted.{IsOperand}
use Rattle.stl_tree.specs.AddressRegisters.{pointer_in}
use Rattle.stl_tree.specs.DataBlocks.{db_opened}
use Rattle.stl_tree.specs.Now.{Now, depth, with_registers}
use Rattle.stl_tree.specs.Operands.{OperandPlace, aimed_in, place_of_operand, found_at}
use Rattle.stl_tree.specs.declared.program.Ar.{Ar}
use Rattle.stl_tree.specs.declared.program.Operand.{Operand}
use Rattle.stl_tree.specs.declared.program.Operand.TheVariants as operand
use Rattle.st_tree.specs.Meaning.{Calls, body_meaning}
use Rattle.st_tree.specs.State.{State, depth as depth_of_state, own_of, read_place, with_register}
use Rattle.st_tree.specs.Value.{value}
use Rattle.st_tree.specs.Values.{type_of_width, typed}
use Rattle.st_tree.specs.declared.expr.Expr.{Expr}
use Rattle.st_tree.specs.declared.expr.Expr.TheVariants as expr
use Rattle.st_tree.specs.declared.expr.StType.TheVariants as type
use Rattle.st_tree.specs.declared.expr.Var.TheVariants as var
use Rattle.st_tree.specs.declared.program.Located.{Located}
use Rattle.st_tree.specs.declared.program.Stmt.{Stmt}
use Rattle.st_tree.specs.declared.program.Stmt.TheVariants as stmt
use Rattle.st_tree.specs.declared.state.Value.{Value}
use Rattle.st_tree.proofs.Equations.{assign_goes_on, assign_stops_at_value, value_literal}
use Rattle.template_parts.specs.Builders.{constant_of, local_of, set_local_of}
use Rattle.template_parts.specs.Fetching.{may_fault, reach_of, reading_of, types_reached, writing_of}
use Rattle.template_parts.specs.Pointing.{crossing_of, in_area_of, sum_of}
use Rattle.instruction_laws.proofs.RangeEffects.{db_kept}
use Rattle.template_parts.specs.Related.{AreAlike, Frames, Related}
use Rattle.template_parts.proofs.Alike.{keep_local, keep_registers, place_now, same_areas}
use Rattle.template_parts.proofs.Cells.{LiesInMemory, aimed_in_memory, named_in_memory, read_alike}
use Rattle.template_parts.specs.DoesInstruction.{Stops}
use Rattle.st_tree.proofs.Locals.{local_read, local_wrote, own_length, own_other, own_same, with_own}
use Rattle.template_parts.proofs.MemoryEffects.{IsReadAt, KeepsWay, Writes, direct_reads, direct_writes, keeps_itself, pointer_reads, pointer_writes, registers_kept}
use Rattle.template_parts.proofs.Putting.{PutsAt, formal_found, formal_is, formal_puts, formal_reads, memory_puts, memory_reads, same_formal}
use Rattle.template_parts.proofs.Pointers.{crossing_worth, dword, in_area_resolved, in_area_small, in_area_worth, offset_small, place_pointed, pointer_small, same_offset, sum_worth}

-- what an operand names, by its place or the fault in the place of it, and the state after it was found
abbrev pub found_with : Result Place Fault → Now → Result OperandPlace Fault
found_with target after = and_then target (λ p. Ok (record { place = p; after = after }))

-- in a state t an operand of a width was reached, with the locals below the first one as they were in s: it is read and
-- written at its place, or meets the fault, as long as the way is kept
pub record IsReached (g : List Located) (frames : Frames) (s : State) (first : ℕ)
    (w : Width) (o : Operand) (after : Now) (target : Result Place Fault) (t : State) : Type 0 where
  pub related : Related frames after t
  pub as_many : length (own_of t.activations) ≡ length (own_of s.activations)
  pub below : (i : ℕ) → i < first → slice_get (own_of t.activations) i ≡ slice_get (own_of s.activations) i
  pub reads : (u : State) → u.memory ≡ t.memory → u.activations ≡ t.activations
      → u.registers reg.DbNo ≡ t.registers reg.DbNo → u.registers reg.DiNo ≡ t.registers reg.DiNo
      → value g (reading_of first o w) u ≡ and_then target (λ p. read_place (type_of_width w) p after.memory)
  pub writes : (then : Now) (u : State) → Related frames then u → KeepsWay (first + length (types_reached o)) t u
      → PutsAt g frames w target then u (writing_of first o w)

module _ (g : List Located) (calls : Calls) (units : ℕ) (s : State) where
  -- statements lead to a state, whatever stands behind them
  abbrev pub LeadsTo : List Stmt → State → Type 0
  LeadsTo xs t = (rest : List Stmt) → body_meaning g calls (xs ++ rest) units s ≡ body_meaning g calls rest units t

  -- they end by a fault, with the areas of the memory as they were
  abbrev pub StopsBefore : List Stmt → Contents → Fault → Type 0
  StopsBefore xs memory x = (rest : List Stmt) → Stops (body_meaning g calls (xs ++ rest) units s) memory x

-- the statements before an access lead to a state in which the operand was reached; where it has no place, its access
-- may fault
pub record Reaches (g : List Located) (calls : Calls) (units : ℕ) (frames : Frames) (now : Now) (s : State) (first : ℕ) (w : Width) (o : Operand) : Type 0 where
  pub to : State
  pub after : Now
  pub target : Result Place Fault
  pub is : place_of_operand o now ≡ found_with target after
  pub memory : after.memory ≡ now.memory
  pub sure : (x : Fault) → target ≡ Err x → may_fault o ≡ true
  pub reached : IsReached g frames s first w o after target to
  pub goes : LeadsTo g calls units s (reach_of first o) to

-- or they end by the fault that the operand meets on the way
pub record Misses (g : List Located) (calls : Calls) (units : ℕ) (now : Now) (s : State) (first : ℕ) (o : Operand) : Type 0 where
  pub met : Fault
  pub is : place_of_operand o now ≡ Err met
  pub stops : StopsBefore g calls units s (reach_of first o) now.memory met

-- an operand whose place is no cell, by what an access does in the memory of the graph
module _ (g : List Located) (frames : Frames) (s : State) (first : ℕ) (w : Width) (o : Operand) (after : Now) (target : Result Place Fault)
    (lies : LiesInMemory target) (t : State) (relates : Related frames after t) where
  abbrev many : ℕ
  many = first + length (types_reached o)

  in_memory : length (own_of t.activations) ≡ length (own_of s.activations)
      → ((i : ℕ) → i < first → slice_get (own_of t.activations) i ≡ slice_get (own_of s.activations) i)
      → ((u : State) → KeepsWay many t u → IsReadAt g (type_of_width w) target u (reading_of first o w))
      → ((u : State) → KeepsWay many t u → Writes g (type_of_width w) target u (writing_of first o w))
      → IsReached g frames s first w o after target t
  in_memory as_many below reads writes =
      record {
        related = relates;
        as_many = as_many;
        below = below;
        reads = λ u memory activations db di.
            reads u (registers_kept many t u activations db di)
            ∙ ap (λ (m : Contents). and_then target (λ p. read_place (type_of_width w) p m)) (memory ∙ relates.memory)
            ∙ memory_reads after.memory (type_of_width w) target lies;
        writes = λ then u alike keeps. memory_puts g frames w then u alike (writing_of first o w) target lies (writes u keeps);
      }

module _ (g : List Located) (calls : Calls) (units : ℕ) (frames : Frames) (now : Now) where
  -- a local takes a value
  takes : (i : ℕ) (e : Expr) (v : Value) (t : State) → i < length (own_of t.activations)
      → value g e t ≡ Ok v → LeadsTo g calls units t (set_local_of i e ∷ []) (with_own i v t)
  takes i e v t room h rest = assign_goes_on g calls (var.Local i) e rest units t (with_own i v t) v h (local_wrote g i v t room)

  still_related : (i : ℕ) (v : Value) (t : State) → Related frames now t → Related frames now (with_own i v t)
  still_related i v t related = keep_local frames now t related i v

  module _ (s : State) (related : Related frames now s) (first : ℕ) (w : Width) where
    -- Operands in an area

    -- the state once a data block is open
    abbrev open_state : ℕ → State
    open_state n = record s { registers = with_register reg.DbNo (pos n) s.registers }

    open_alike : (n : ℕ) → AreAlike (db_opened n now.registers) (open_state n).registers
    open_alike n reg.DbNo asked = refl
    open_alike n q asked = related.registers q asked

    open_related : (n : ℕ) → n < 2 ^ 16 → Related frames (with_registers (db_opened n) now) (open_state n)
    open_related n small =
        keep_registers frames now s related (db_opened n now.registers) (open_state n).registers (open_alike n)
        (db_kept n now.registers related.range small)

    direct_reached : (a : AreaName) (byte x : ℕ) → Reaches g calls units frames now s first w (operand.Direct a byte x)
    direct_reached a byte x =
        record {
          to = s;
          after = now;
          target = Ok (place_now a byte x now);
          is = refl;
          memory = refl;
          sure = λ f e. absurd cc;
          reached =
              in_memory g frames s first w (operand.Direct a byte x) now (Ok (place_now a byte x now))
              (named_in_memory a now.registers.db now.registers.di (depth now.activations)) s related refl (λ i h. refl)
              (λ u keeps. direct_reads g frames now s related (first + 0) u keeps a byte x w)
              (λ u keeps. direct_writes g frames now s related (first + 0) u keeps a byte x w);
          goes = λ rest. refl;
        }

    opened_reached : (n byte x : ℕ) → n < 2 ^ 16 → Reaches g calls units frames now s first w (operand.Opened n byte x)
    opened_reached n byte x small =
        let after : Now = with_registers (db_opened n) now in
        let t : State = open_state n in
        let relates : Related frames after t = open_related n small in
        record {
          to = t;
          after = after;
          target = Ok (place_now area.Db byte x after);
          is = refl;
          memory = refl;
          sure = λ f e. refl;
          reached =
              in_memory g frames s first w (operand.Opened n byte x) after (Ok (place_now area.Db byte x after)) tt t relates refl (λ i h. refl)
              (λ u keeps. direct_reads g frames after t relates (first + 0) u keeps area.Db byte x w)
              (λ u keeps. direct_writes g frames after t relates (first + 0) u keeps area.Db byte x w);
          goes = λ rest. assign_goes_on g calls (var.Register reg.DbNo) (constant_of type.Word (pos n)) rest units s t (record { ty = type.Word; n = pos n })
              (value_literal g type.Word (pos n) s) refl;
        }

    -- Operands by a pointer

    -- the place that a pointer means, in a named area
    abbrev named : AreaName → ℕ → Place
    named a p = place_pointed a p now.registers.db now.registers.di (depth now.activations)

    module _ (r : Ar) (offset : ℕ) (room : first + 1 ≤ length (own_of s.activations)) where
      abbrev register : ℕ
      register = pointer_in r now.registers

      least : register < 2 ^ 32
      least = pointer_small g s frames now related r

      module _ (a : AreaName) where
        abbrev total : ℕ
        total = (register + offset) % 2 ^ 32

        abbrev inside : ℕ
        inside = code_of a * 2 ^ 24 + total % 2 ^ 19

        total_small : total < 2 ^ 32
        total_small = omega arith

        register_reached : Reaches g calls units frames now s first w (operand.ByRegister a r offset)
        register_reached =
            let t : State = with_own first (dword inside) s in
            let relates : Related frames now t = still_related first (dword inside) s related in
            let small : inside < 2 ^ 32 = in_area_small a total in
            let there : slice_get (own_of t.activations) first ≡ Some (dword inside) = own_same first (dword inside) s (omega arith) in
            let target : Result Place Fault = Ok (named a (with_offset register offset)) in
            let means : place_aimed (aim_of_pointer inside now.registers.db now.registers.di (depth now.activations)) ≡ target =
            in_area_resolved a (with_offset register offset) (total % 2 ^ 19) now.registers.db now.registers.di
            (depth now.activations) (same_offset register offset) in
            record {
              to = t;
              after = now;
              target = target;
              is = refl;
              memory = refl;
              sure = λ f e. refl;
              reached =
                  in_memory g frames s first w (operand.ByRegister a r offset) now target
                  (named_in_memory a now.registers.db now.registers.di (depth now.activations)) t relates
                  (own_length first (dword inside) s) (λ i h. own_other first (dword inside) s i (λ same. absurd (omega arith)))
                  (λ u keeps. pointer_reads g frames now t relates (first + 1) u keeps inside first small (omega arith) there target means w)
                  (λ u keeps. pointer_writes g frames now t relates (first + 1) u keeps inside first small (omega arith) there target means w);
              goes = takes first (in_area_of a (sum_of r offset)) (dword inside) s (omega arith)
                  (in_area_worth g s a (sum_of r offset) total total_small (sum_worth g s frames now related r offset));
            }

      abbrev crossed : ℕ
      crossed = with_offset register offset

      crossing_reached : Reaches g calls units frames now s first w (operand.Crossing r offset)
      crossing_reached =
          let t : State = with_own first (dword crossed) s in
          let relates : Related frames now t = still_related first (dword crossed) s related in
          let small : crossed < 2 ^ 32 = offset_small register offset least in
          let there : slice_get (own_of t.activations) first ≡ Some (dword crossed) = own_same first (dword crossed) s (omega arith) in
          let target : Result Place Fault = place_aimed (aim_of_pointer crossed now.registers.db now.registers.di (depth now.activations)) in
          record {
            to = t;
            after = now;
            target = target;
            is = refl;
            memory = refl;
            sure = λ f e. refl;
            reached =
                in_memory g frames s first w (operand.Crossing r offset) now target
                (aimed_in_memory (name_of_code (code_of_pointer crossed)) now.registers.db now.registers.di
                (depth now.activations) (byte_of_pointer crossed) (bit_of_pointer crossed)) t relates
                (own_length first (dword crossed) s) (λ i h. own_other first (dword crossed) s i (λ same. absurd (omega arith)))
                (λ u keeps. pointer_reads g frames now t relates (first + 1) u keeps crossed first small (omega arith) there target refl w)
                (λ u keeps. pointer_writes g frames now t relates (first + 1) u keeps crossed first small (omega arith) there target refl w);
            goes = takes first (crossing_of r offset) (dword crossed) s (omega arith) (crossing_worth g s frames now related r offset);
          }

    module _ (a pointer_area : AreaName) (byte : ℕ) (room : first + 2 ≤ length (own_of s.activations)) where
      -- the pointer, read
      abbrev pointer : Expr
      pointer = expr.Read (var.Direct pointer_area byte 0 width.Dword)

      abbrev is_there : Result ℕ Fault
      is_there = read_dword (place_now pointer_area byte 0 now) now.memory

      -- and what an operand makes of it
      abbrev found_by_pointer : Result ℕ Fault → Result OperandPlace Fault
      found_by_pointer r = and_then r (λ p. found_at (aimed_in a p now) now)

      pointer_read : (r : Result ℕ Fault) → is_there ≡ r → value g pointer s ≡ and_then r (λ n. Ok (typed type.Dword (pos n)))
      pointer_read r e =
          direct_reads g frames now s related 0 s (keeps_itself 0 s) pointer_area byte 0 width.Dword
          ∙ ap (λ (m : Contents). and_then (read_dword (place_now pointer_area byte 0 now) m) (λ n. Ok (typed type.Dword (pos n)))) related.memory
          ∙ read_alike (place_now pointer_area byte 0 now) now.memory
          (named_in_memory pointer_area now.registers.db now.registers.di (depth now.activations)) type.Dword
          ∙ ap (λ (q : Result ℕ Fault). and_then q (λ n. Ok (typed type.Dword (pos n)))) e

      memory_missed : (x : Fault) → is_there ≡ Err x → Misses g calls units now s first (operand.ByMemory a pointer_area byte)
      memory_missed x e =
          record {
            met = x;
            is = ap found_by_pointer e;
            stops = λ rest. record {
              at = s;
              stops =
                  assign_stops_at_value g calls (var.Local first) pointer
                  (set_local_of (first + 1) (in_area_of a (local_of first)) ∷ rest) units s x (pointer_read (Err x) e);
              areas = same_areas frames now s related;
            };
          }

      module _ (p : ℕ) (e : is_there ≡ Ok p) where
        abbrev kept : ℕ
        kept = p % 2 ^ 32

        abbrev put_inside : ℕ
        put_inside = code_of a * 2 ^ 24 + kept % 2 ^ 19

        abbrev taken : State
        taken = with_own first (dword kept) s

        kept_small : kept < 2 ^ 32
        kept_small = omega arith

        same_place_in : kept % 2 ^ 19 ≡ p % 2 ^ 19
        same_place_in = omega arith

        as_many_taken : length (own_of taken.activations) ≡ length (own_of s.activations)
        as_many_taken = own_length first (dword kept) s

        pointer_taken : value g (local_of first) taken ≡ Ok (dword kept)
        pointer_taken = local_read g first (dword kept) taken (own_same first (dword kept) s (omega arith))

        goes_by_memory : LeadsTo g calls units s (reach_of first (operand.ByMemory a pointer_area byte)) (with_own (first + 1) (dword put_inside) taken)
        goes_by_memory rest =
            let many : length (own_of taken.activations) ≡ length (own_of s.activations) = as_many_taken in
            takes first pointer (dword kept) s (omega arith) (pointer_read (Ok p) e) (set_local_of (first + 1) (in_area_of a (local_of first)) ∷ rest)
            ∙ takes (first + 1) (in_area_of a (local_of first)) (dword put_inside) taken (omega arith)
            (in_area_worth g taken a (local_of first) kept kept_small pointer_taken) rest

        memory_reached : Reaches g calls units frames now s first w (operand.ByMemory a pointer_area byte)
        memory_reached =
            let t : State = with_own (first + 1) (dword put_inside) taken in
            let relates : Related frames now t = still_related (first + 1) (dword put_inside) taken (still_related first (dword kept) s related) in
            let small : put_inside < 2 ^ 32 = in_area_small a kept in
            let many : length (own_of taken.activations) ≡ length (own_of s.activations) = as_many_taken in
            let there : slice_get (own_of t.activations) (first + 1) ≡ Some (dword put_inside) = own_same (first + 1) (dword put_inside) taken (omega arith) in
            let target : Result Place Fault = Ok (named a p) in
            let means : place_aimed (aim_of_pointer put_inside now.registers.db now.registers.di (depth now.activations)) ≡ target =
            in_area_resolved a p (kept % 2 ^ 19) now.registers.db now.registers.di (depth now.activations) same_place_in in
            record {
              to = t;
              after = now;
              target = target;
              is = ap found_by_pointer e;
              memory = refl;
              sure = λ f e. refl;
              reached =
                  in_memory g frames s first w (operand.ByMemory a pointer_area byte) now target
                  (named_in_memory a now.registers.db now.registers.di (depth now.activations)) t relates
                  (own_length (first + 1) (dword put_inside) taken ∙ many)
                  (λ i h. own_other (first + 1) (dword put_inside) taken i (λ same. absurd (omega arith))
                  ∙ own_other first (dword kept) s i (λ same. absurd (omega arith)))
                  (λ u keeps. pointer_reads g frames now t relates (first + 2) u keeps put_inside (first + 1) small (omega arith) there target means w)
                  (λ u keeps. pointer_writes g frames now t relates (first + 2) u keeps put_inside (first + 1) small (omega arith) there target means w);
              goes = goes_by_memory;
            }

      by_memory : (r : Result ℕ Fault) → is_there ≡ r
          → Reaches g calls units frames now s first w (operand.ByMemory a pointer_area byte)
          ⊎ Misses g calls units now s first (operand.ByMemory a pointer_area byte)
      by_memory (Ok p) e = inl (memory_reached p e)
      by_memory (Err x) e = inr (memory_missed x e)

    -- Formals

    formal_reached : (k : ℕ) → slice_get frames.formals k ≡ Some w → Reaches g calls units frames now s first w (operand.Formal k)
    formal_reached k named =
        record {
          to = s;
          after = now;
          target = Ok (formal_is g frames now s related k w named);
          is = formal_found g frames now s related k w named;
          memory = refl;
          sure = λ f e. refl;
          reached = record {
            related = related;
            as_many = refl;
            below = λ i h. refl;
            reads = λ u memory activations db di. formal_reads g frames now s related k w named u memory activations;
            writes = λ then u alike keeps.
                subst (λ (p : Place). PutsAt g frames w (Ok p) then u (stmt.Assign (var.Formal k)))
                (same_formal frames now then s u related alike k w g named) (formal_puts g frames then u alike k w named);
          };
          goes = λ rest. refl;
        }

    -- both ways out
    pub reaches : (o : Operand) → IsOperand frames.formals w o → first + length (types_reached o) ≤ length (own_of s.activations)
        → Reaches g calls units frames now s first w o ⊎ Misses g calls units now s first o
    reaches (operand.Direct a byte x) lies room = inl (direct_reached a byte x)
    reaches (operand.Opened n byte x) lies room =
        let most : n ≤ 65535 = lies.0.1 in
        inl (opened_reached n byte x (omega arith))
    reaches (operand.Formal k) lies room = inl (formal_reached k lies)
    reaches (operand.ByMemory a pointer_area byte) lies room =
        by_memory a pointer_area byte room (read_dword (place_now pointer_area byte 0 now) now.memory) refl
    reaches (operand.ByRegister a r offset) lies room = inl (register_reached r offset room a)
    reaches (operand.Crossing r offset) lies room = inl (crossing_reached r offset room)
