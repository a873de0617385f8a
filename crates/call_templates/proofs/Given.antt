-- Operands that are given to calls. Their variables are located, read and written at their places.
use Rattle.std.proofs.Common.{◌≡◌, ℕ, zero, suc, ◌<◌, ◌≤◌, true, List, [], ◌∷◌, ◌++◌, length, Option, Some, None, Result, Ok, Err, refl, sym, ap, subst, ◌∙◌, arith}
use Rattle.std.specs.Prelude.{option_and_then, slice_get}
use Rattle.std.proofs.lemmas.List.{length-append}
use Rattle.call_templates.specs.Calls.{variable_of}
use Rattle.memory_areas.specs.Access.{aim_of_place, and_then, area_named, fault_of, unless}
use Rattle.memory_areas.specs.Areas.{Contents}
use Rattle.memory_areas.specs.declared.data_block.DataBlock.{DataBlock}
use Rattle.memory_areas.specs.declared.place.Area.{Area}
use Rattle.memory_areas.specs.declared.place.Area.TheVariants as area
use Rattle.memory_areas.specs.declared.place.AreaName.{AreaName}
use Rattle.memory_areas.specs.declared.place.AreaName.TheVariants as name
use Rattle.memory_areas.specs.declared.place.Place.{Place}
use Rattle.s7_base.specs.declared.outcome.Fault.{Fault}
use Rattle.s7_base.specs.declared.word.Width.{Width}
use Rattle.s7_base.specs.declared.word.Width.TheVariants as width
use Rattle.stl_tree.specs.Accepted.{IsOperand, is_written}
use Rattle.stl_tree.specs.Calls.{given_place, tested_place}
use Rattle.stl_tree.specs.Now.{Now, depth}
use Rattle.stl_tree.specs.Operands.{OperandPlace, formal_place, found_formal}
use Rattle.stl_tree.specs.declared.program.Operand.{Operand}
use Rattle.stl_tree.specs.declared.program.Operand.TheVariants as operand
use Rattle.st_tree.proofs.Equations.{meaning_assign, value_read}
use Rattle.st_tree.specs.Calls.{check_access, located_actual}
use Rattle.st_tree.specs.Meaning.{Out, body_meaning, then_do}
use Rattle.st_tree.specs.State.{State, place_of, read_place, reference_of}
use Rattle.st_tree.specs.Value.{value}
use Rattle.st_tree.specs.Values.{type_of_width, width_at}
use Rattle.st_tree.specs.declared.expr.Expr.TheVariants as expr
use Rattle.st_tree.specs.declared.expr.Var.TheVariants as var
use Rattle.st_tree.specs.declared.program.Located.{Located}
use Rattle.st_tree.specs.declared.program.Stmt.TheVariants as stmt
use Rattle.st_tree.specs.declared.state.Reference.{Reference}
use Rattle.st_tree.specs.declared.state.Reference.TheVariants as reference
use Rattle.template_parts.proofs.Alike.{as_deep_as, as_many_wait, place_now, same_place}
use Rattle.template_parts.proofs.Cells.{named_in_memory, read_alike}
use Rattle.template_parts.proofs.MemoryEffects.{direct_reads, direct_writes, keeps_itself}
use Rattle.template_parts.proofs.Putting.{PutsAt, formal, formal_found, formal_is, formal_puts, formal_reads, memory_puts, refers}
use Rattle.template_parts.specs.Related.{Constant, Frames, IsInMemory, IsReached, Related, StandForSame, Waiting, constant_at, constants_of, without_cells}

-- Places

abbrev pub place_or_none : Option Place → Place
place_or_none None = record { area = area.I; byte = 0; bit = 0 }
place_or_none (Some p) = p

abbrev pub block_place : ℕ → ℕ → ℕ → Place
block_place n byte x = record { area = area.Db n; byte = byte; bit = x }

-- the place that a written operand names; an operand that is found by a pointer is none
abbrev pub place_named : Operand → Now → Place
place_named (operand.Direct a byte x) now = place_now a byte x now
place_named (operand.Opened n byte x) now = block_place n byte x
place_named (operand.Formal k) now = place_or_none (formal_place k now.activations)
place_named pointed now = place_or_none None

found_is : (o : Option Place) (now : Now) (p : Place) → found_formal o now ≡ Ok (record { place = p; after = now }) → place_or_none o ≡ p
found_is None now p e = cc
found_is (Some q) now p e =
    let same : ◌≡◌ {A = OperandPlace} (record { place = q; after = now }) (record { place = p; after = now }) = cc in
    ap (λ (f : OperandPlace). f.place) same

module _ (g : List Located) (frames : Frames) (now : Now) (s : State) (related : Related frames now s) where
  -- Reading and writing

  pub block_reads : (n byte x : ℕ) (w : Width)
      → value g (expr.Read (var.InBlock n byte x w)) s ≡ read_place (type_of_width w) (block_place n byte x) now.memory
  block_reads n byte x w =
      value_read g (var.InBlock n byte x w) s
      ∙ ap (λ (m : Contents). read_place (type_of_width w) (block_place n byte x) m) related.memory
      ∙ read_alike (block_place n byte x) now.memory tt (type_of_width w)

  pub block_puts : (n byte x : ℕ) (w : Width) → PutsAt g frames w (Ok (block_place n byte x)) now s (stmt.Assign (var.InBlock n byte x w))
  block_puts n byte x w =
      memory_puts g frames w now s related (stmt.Assign (var.InBlock n byte x w)) (Ok (block_place n byte x)) tt
      (λ calls units e rest. ap (λ (out : Out). then_do out (body_meaning g calls rest)) (meaning_assign g calls units s (var.InBlock n byte x w) e))

  pub formal_place_is : (k : ℕ) (w : Width) (named : slice_get frames.formals k ≡ Some w)
      → place_named (operand.Formal k) now ≡ formal_is g frames now s related k w named
  formal_place_is k w named =
      found_is (formal_place k now.activations) now (formal_is g frames now s related k w named) (formal_found g frames now s related k w named)

  pub operand_reads : (o : Operand) (w : Width) → is_written o ≡ true → IsOperand frames.formals w o
      → value g (expr.Read (variable_of o w)) s ≡ read_place (type_of_width w) (place_named o now) now.memory
  operand_reads (operand.Direct a byte x) w written is =
      direct_reads g frames now s related 0 s (keeps_itself 0 s) a byte x w
      ∙ ap (λ (m : Contents). read_place (type_of_width w) (place_now a byte x now) m) related.memory
      ∙ read_alike (place_now a byte x now) now.memory (named_in_memory a now.registers.db now.registers.di (depth now.activations)) (type_of_width w)
  operand_reads (operand.Opened n byte x) w written is = block_reads n byte x w
  operand_reads (operand.Formal k) w written is =
      formal_reads g frames now s related k w is s refl refl
      ∙ ap (λ (p : Place). read_place (type_of_width w) p now.memory) (sym (formal_place_is k w is))
  operand_reads o w written is = cc

  pub operand_puts : (o : Operand) (w : Width) → is_written o ≡ true → IsOperand frames.formals w o
      → PutsAt g frames w (Ok (place_named o now)) now s (stmt.Assign (variable_of o w))
  operand_puts (operand.Direct a byte x) w written is =
      memory_puts g frames w now s related (stmt.Assign (var.Direct a byte x w)) (Ok (place_now a byte x now))
      (named_in_memory a now.registers.db now.registers.di (depth now.activations))
      (direct_writes g frames now s related 0 s (keeps_itself 0 s) a byte x w)
  operand_puts (operand.Opened n byte x) w written is = block_puts n byte x w
  operand_puts (operand.Formal k) w written is =
      subst (λ (p : Place). PutsAt g frames w (Ok p) now s (stmt.Assign (var.Formal k))) (sym (formal_place_is k w is))
      (formal_puts g frames now s related k w is)
  operand_puts o w written is = cc

-- Locating

-- an actual is located by the program and by its graph: both meet the same fault, or what they find means the same
abbrev pub AreSameGiven : List Waiting → List DataBlock → Width → Result (Option Place) Fault → Result Reference Fault → Type 0
AreSameGiven waiting dbs w (Ok (Some p)) (Ok r) = StandForSame waiting dbs w p r
AreSameGiven waiting dbs w (Err f) (Err e) = f ≡ e
AreSameGiven waiting dbs w p r = ⊥

same_width : (w : Width) → width_at (type_of_width w) ≡ w
same_width width.Bit = refl
same_width width.Byte = refl
same_width width.Word = refl
same_width width.Dword = refl

-- cells don't matter for an access outside them
fault_alike : (a : Area) → IsInMemory a → (byte x : ℕ) (w : Width) (m : Contents)
    → fault_of (aim_of_place (record { area = a; byte = byte; bit = x })) w (without_cells m)
    ≡ fault_of (aim_of_place (record { area = a; byte = byte; bit = x })) w m
fault_alike (area.Cell d) h byte x w m = elim h [ ]
fault_alike area.I h byte x w m = refl
fault_alike area.Q h byte x w m = refl
fault_alike area.M h byte x w m = refl
fault_alike (area.Local d) h byte x w m = refl
fault_alike (area.Db n) h byte x w m = refl

-- what means the same while some units wait, does while one more waits
get_front : {X : Type 0} → (xs ys : List X) (i : ℕ) (x : X) → slice_get xs i ≡ Some x → slice_get (xs ++ ys) i ≡ Some x
get_front [] ys i x e = cc
get_front (y ∷ xs) ys zero x e = e
get_front (y ∷ xs) ys (suc i) x e = get_front xs ys i x e

more_constants : (waiting more : List Waiting) (d k : ℕ) (c : Constant) → constant_at waiting d k ≡ Some c → constant_at (waiting ++ more) d k ≡ Some c
more_constants waiting more d k c e = by (slice_get waiting d) refl e
  where
    by : (o : Option Waiting) → slice_get waiting d ≡ o → option_and_then (λ x. x) (slice_get (constants_of o) k) ≡ Some c
        → constant_at (waiting ++ more) d k ≡ Some c
    by None f e = cc
    by (Some was) f e =
        ap (λ (o : Option Waiting). option_and_then (λ x. x) (slice_get (constants_of o) k)) (get_front waiting more d was f) ∙ e

reached_more : (d e : ℕ) (a : Area) → d ≤ e → IsReached d a → IsReached e a
reached_more d e area.I less h = tt
reached_more d e area.Q less h = tt
reached_more d e area.M less h = tt
reached_more d e (area.Db n) less h = tt
reached_more d e (area.Local n) less h = omega arith
reached_more d e (area.Cell n) less h = elim h [ ]

stand_still : (waiting : List Waiting) (more : Waiting) (dbs : List DataBlock) (w : Width) (p : Place) (r : Reference)
    → StandForSame waiting dbs w p r → StandForSame (waiting ++ more ∷ []) dbs w p r
stand_still waiting more dbs w p (reference.Place q ty) h =
    let longer : length waiting ≤ length (waiting ++ more ∷ []) = omega (arith, length-append waiting (more ∷ [])) in
    (h.0, h.1, record { reached = reached_more (length waiting) (length (waiting ++ more ∷ [])) p.area longer h.2.reached; lies = h.2.lies })
stand_still waiting more dbs w p (reference.Local d i) h =
    record { position = h.position; cell = h.cell; local = more_constants waiting (more ∷ []) d h.position (record { local = i; width = w }) h.local }
stand_still waiting more dbs w p (reference.Register r) h = elim h [ ]

-- a named area is reached by the block that the running one calls
named_reached : (a : AreaName) (db di activation depth : ℕ) → activation < depth → IsReached depth (area_named a db di activation)
named_reached name.I db di activation depth h = tt
named_reached name.Q db di activation depth h = tt
named_reached name.M db di activation depth h = tt
named_reached name.L db di activation depth h = h
named_reached name.Db db di activation depth h = tt
named_reached name.Di db di activation depth h = tt

module _ (g : List Located) (frames : Frames) (now : Now) (s : State) (related : Related frames now s) (more : Waiting) where
  abbrev Same : Width → Result (Option Place) Fault → Result Reference Fault → Type 0
  Same = AreSameGiven (frames.waiting ++ more ∷ []) frames.dbs

  one_more : length (frames.waiting ++ more ∷ []) ≡ suc (length frames.waiting)
  one_more = omega (arith, length-append frames.waiting (more ∷ []))

  place_located : (p q : Place) (w : Width) → q ≡ p → IsReached (length (frames.waiting ++ more ∷ [])) p.area → IsInMemory p.area
      → Same w (tested_place w p now.memory) (check_access (reference.Place q (type_of_width w)) s)
  place_located p q w same reached lies =
      subst (Same w (tested_place w p now.memory)) (sym located) (by (fault_of (aim_of_place p) w now.memory) refl)
    where
      found : Option Fault → Result Reference Fault
      found f = unless f (reference.Place q (type_of_width w))

      located : check_access (reference.Place q (type_of_width w)) s ≡ found (fault_of (aim_of_place p) w now.memory)
      located =
          ap (λ (u : Width). found (fault_of (aim_of_place q) u s.memory)) (same_width w)
          ∙ ap (λ (x : Place). found (fault_of (aim_of_place x) w s.memory)) same
          ∙ ap (λ (m : Contents). found (fault_of (aim_of_place p) w m)) related.memory
          ∙ ap found (fault_alike p.area lies p.byte p.bit w now.memory)

      by : (f : Option Fault) → fault_of (aim_of_place p) w now.memory ≡ f → Same w (unless f (Some p)) (found f)
      by None e = (same, refl, record { reached = reached; lies = sym (related.faults (aim_of_place p) w) ∙ e })
      by (Some f) e = refl

  pub operand_located : (o : Operand) (w : Width) → is_written o ≡ true → IsOperand frames.formals w o
      → Same w (given_place w o now) (located_actual g (variable_of o w) s)
  operand_located (operand.Direct a byte x) w written is =
      let deep : depth now.activations ≡ length frames.waiting = sym (as_deep_as frames now s related) ∙ as_many_wait frames now s related in
      place_located (place_now a byte x now) (place_of a byte x s) w (same_place frames now s related a byte x)
      (named_reached a now.registers.db now.registers.di (depth now.activations) (length (frames.waiting ++ more ∷ [])) (omega (arith, one_more)))
      (named_in_memory a now.registers.db now.registers.di (depth now.activations))
  operand_located (operand.Opened n byte x) w written is = place_located (block_place n byte x) (block_place n byte x) w refl tt tt
  operand_located (operand.Formal k) w written is =
      let known = formal g frames now s related k w is in
      subst (λ (r : Result (Option Place) Fault). Same w r (reference_of g (var.Formal k) s))
      (sym (ap (λ (r : Result OperandPlace Fault). and_then r (λ f. Ok (Some f.place))) (formal_found g frames now s related k w is)))
      (subst (Same w (Ok (Some known.place))) (sym (refers g frames now s related k w is s refl))
      (stand_still frames.waiting more frames.dbs w known.place known.reference known.same))
  operand_located o w written is = cc
