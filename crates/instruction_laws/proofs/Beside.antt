-- Two states side by side that differ in registers alone, and the forms of rows: what is alike before is alike after.
use Rattle.std.proofs.Common.{◌≡◌, ℕ, List, [], ◌∷◌, ◌++◌, Option, Some, None, Result, Ok, Err, refl, sym, subst, ◌∙◌}
use Rattle.memory_areas.specs.Access.{Aim, and_then, place_aimed, read_dword}
use Rattle.memory_areas.specs.Areas.{Contents}
use Rattle.memory_areas.specs.Pointers.{with_offset}
use Rattle.memory_areas.specs.declared.place.AreaName.TheVariants as area
use Rattle.memory_areas.specs.declared.place.Place.{Place}
use Rattle.s7_base.specs.declared.outcome.Fault.{Fault}
use Rattle.s7_base.specs.declared.register.Reg.{Reg}
use Rattle.s7_base.specs.declared.register.Reg.TheVariants as reg
use Rattle.s7_base.specs.declared.word.Width.{Width}
use Rattle.stl_tree.specs.Accumulators.{read_number, write_number}
use Rattle.stl_tree.specs.AddressRegisters.{pointer_in}
use Rattle.stl_tree.specs.DataBlocks.{db_opened}
use Rattle.stl_tree.specs.Instructions.{on_registers, write_operand, taken}
use Rattle.stl_tree.specs.Now.{Now, Effect, next, go, enter, leave, with_registers, with_value}
use Rattle.stl_tree.specs.Operands.{OperandPlace, aimed_by, aimed_in, formal_place, found_at, found_formal, place_in, with_place}
use Rattle.stl_tree.specs.Reads.{found_by, register_of}
use Rattle.stl_tree.specs.Registers.{RegisterValues}
use Rattle.stl_tree.specs.declared.program.Ar.{Ar}
use Rattle.stl_tree.specs.declared.program.Ar.TheVariants as ar
use Rattle.stl_tree.specs.declared.program.Operand.{Operand}
use Rattle.stl_tree.specs.declared.program.Operand.TheVariants as operand
use Rattle.instruction_laws.specs.Agreement.{AreLikeStates, AreLike, AreSame, IsLike, IsSame, is_kept, is_same}

-- other registers, but for the numbers of the data blocks
abbrev pub beside : RegisterValues → RegisterValues → RegisterValues
beside r s = record s { db = r.db; di = r.di }

-- a state with those
abbrev pub next_to : Now → RegisterValues → Now
next_to now s = record now { registers = beside now.registers s }

-- each register is alike
abbrev pub Alike : RegisterValues → RegisterValues → RegisterValues → RegisterValues → Type 0
Alike r s after_r after_s = (q : Reg) → IsLike q r s after_r after_s

-- an instruction does alike to a state and to one with other registers
abbrev pub DoesAlike : Now → RegisterValues → (Now → Effect) → Type 0
DoesAlike now s effect = AreLike now.registers (beside now.registers s) (effect now) (effect (next_to now s))

-- what is kept is alike
pub kept_alike : (r s : RegisterValues) → Alike r s r s
kept_alike r s reg.Accu1 = is_kept refl refl
kept_alike r s q = is_kept refl refl

-- Lists of registers

pub first_same : (xs ys : List Reg) (r s : RegisterValues) → AreSame (xs ++ ys) r s → AreSame xs r s
first_same [] ys r s h = tt
first_same (x ∷ xs) ys r s h = (h.0, first_same xs ys r s h.1)

pub second_same : (xs ys : List Reg) (r s : RegisterValues) → AreSame (xs ++ ys) r s → AreSame ys r s
second_same [] ys r s h = h
second_same (x ∷ xs) ys r s h = second_same xs ys r s h.1

-- Values that a fault may stand in the place of

pub by_value : {A : Type 0} (r s : RegisterValues) (f g : A → Effect) (x : Result A Fault) → ((v : A) → AreLike r s (f v) (g v))
    → AreLike r s (with_value x f) (with_value x g)
by_value r s f g (Ok v) h = h v
by_value r s f g (Err e) h = refl

-- what is made of the same value
pub by_one_value : {A : Type 0} (r s : RegisterValues) (make : A → Result Contents Fault) (v w : A) (f g : Contents → Effect) → v ≡ w
    → ((m : Contents) → AreLike r s (f m) (g m)) → AreLike r s (with_value (make v) f) (with_value (make w) g)
by_one_value r s make v w f g e h =
    subst (λ x. AreLike r s (with_value (make v) f) (with_value (make x) g)) e (by_value r s f g (make v) h)

-- where the DB register was given a number first, on both sides
opened_first : (n : ℕ) (r s x y : RegisterValues) → Alike (db_opened n r) (db_opened n s) x y → Alike r s x y
opened_first n r s x y h reg.DbNo = by (h reg.DbNo)
  where
    by : IsLike reg.DbNo (db_opened n r) (db_opened n s) x y → IsLike reg.DbNo r s x y
    by (is_same e) = is_same e
    by (is_kept e f) = is_same (sym e ∙ f)
opened_first n r s x y h q = by (h q)
  where
    by : IsLike q (db_opened n r) (db_opened n s) x y → IsLike q r s x y
    by (is_same e) = is_same e
    by (is_kept e f) = is_kept e f

after_opened : (n : ℕ) (r s : RegisterValues) (one other : Now) → AreLikeStates (db_opened n r) (db_opened n s) one other → AreLikeStates r s one other
after_opened n r s one other h =
    record { memory = h.memory; brackets = h.brackets; activations = h.activations; registers = opened_first n r s one.registers other.registers h.registers }

effect_opened : (n : ℕ) (r s : RegisterValues) (one other : Effect) → AreLike (db_opened n r) (db_opened n s) one other → AreLike r s one other
effect_opened n r s (next one) (next other) h = after_opened n r s one other h
effect_opened n r s (go to one) (go there other) h = (h.0, after_opened n r s one other h.1)
effect_opened n r s (enter call one) (enter other_call other) h = (h.0, after_opened n r s one other h.1)
effect_opened n r s (leave one) (leave other) h = after_opened n r s one other h
effect_opened n r s one other h = h

-- it changes nothing of what is asked
still_same : (n : ℕ) (r s : RegisterValues) (q : Reg) → IsSame q r s → IsSame q (db_opened n r) (db_opened n s)
still_same n r s reg.DbNo h = refl
still_same n r s q h = h

all_same : (n : ℕ) (r s : RegisterValues) (asked : List Reg) → AreSame asked r s → AreSame asked (db_opened n r) (db_opened n s)
all_same n r s [] h = tt
all_same n r s (q ∷ rest) h = (still_same n r s q h.0, all_same n r s rest h.1)

-- Operands

-- an operand's place is the same on both sides, and what is asked of them stays
module _ (now : Now) (s : RegisterValues) (effect : Place → Now → Effect) where
  -- an aim
  at_aim : (aim : Aim) → ((p : Place) → DoesAlike now s (effect p)) → DoesAlike now s (λ n. with_value (found_at aim n) (λ f. effect f.place f.after))
  at_aim aim h = by (place_aimed aim)
    where
      by : (r : Result Place Fault)
          → DoesAlike now s (λ n. with_value (and_then r (λ p. Ok (record { place = p; after = n }))) (λ (f : OperandPlace). effect f.place f.after))
      by (Ok p) = h p
      by (Err e) = refl

  -- one that a pointer in memory or in an address register says
  at_pointer : (aim : ℕ → Aim) (p : Result ℕ Fault) → ((p : Place) → DoesAlike now s (effect p))
      → DoesAlike now s (λ n. with_value (and_then p (λ v. found_at (aim v) n)) (λ f. effect f.place f.after))
  at_pointer aim (Ok v) h = at_aim (aim v) h
  at_pointer aim (Err e) h = refl

  by_pointer : (aim : ℕ → Aim) (v w : ℕ) → v ≡ w → ((p : Place) → DoesAlike now s (effect p))
      → AreLike now.registers (beside now.registers s) (with_value (found_at (aim v) now) (λ f. effect f.place f.after))
      (with_value (found_at (aim w) (next_to now s)) (λ f. effect f.place f.after))
  by_pointer aim v w e h =
      subst
      (λ x. AreLike now.registers (beside now.registers s) (with_value (found_at (aim v) now) (λ f. effect f.place f.after))
      (with_value (found_at (aim x) (next_to now s)) (λ f. effect f.place f.after)))
      e (at_aim (aim v) h)

pointer_same : (a : Ar) (r s : RegisterValues) → AreSame (register_of a ∷ []) r s → pointer_in a r ≡ pointer_in a s
pointer_same ar.One r s h = h.0
pointer_same ar.Two r s h = h.0

-- an operand
pub at_place : (o : Operand) (asked : List Reg) (now : Now) (s : RegisterValues) (effect : Place → Now → Effect)
    → AreSame (found_by o) now.registers (beside now.registers s) → AreSame asked now.registers (beside now.registers s)
    → ((p : Place) (n : Now) → AreSame asked n.registers (beside n.registers s) → DoesAlike n s (effect p))
    → DoesAlike now s (λ n. with_place o n effect)
at_place (operand.Direct a byte x) asked now s effect found h does = does (place_in a byte x now) now h
at_place (operand.Opened n byte x) asked now s effect found h does =
    let after : Now = with_registers (db_opened n) now in
    let other : Now = with_registers (db_opened n) (next_to now s) in
    let p : Place = place_in area.Db byte x after in
    effect_opened n now.registers (beside now.registers s) (effect p after) (effect p other)
    (does p after (all_same n now.registers (beside now.registers s) asked h))
at_place (operand.Formal k) asked now s effect found h does = by (formal_place k now.activations)
  where
    by : (o : Option Place) → DoesAlike now s (λ n. with_value (found_formal o n) (λ f. effect f.place f.after))
    by None = refl
    by (Some p) = does p now h
at_place (operand.ByMemory a pointer_area byte) asked now s effect found h does =
    at_pointer now s effect (λ p. aimed_in a p now) (read_dword (place_in pointer_area byte 0 now) now.memory) (λ p. does p now h)
at_place (operand.ByRegister a r offset) asked now s effect found h does =
    by_pointer now s effect (λ p. aimed_in a (with_offset p offset) now) (pointer_in r now.registers) (pointer_in r (beside now.registers s))
    (pointer_same r now.registers (beside now.registers s) found) (λ p. does p now h)
at_place (operand.Crossing r offset) asked now s effect found h does =
    by_pointer now s effect (λ p. aimed_by (with_offset p offset) now) (pointer_in r now.registers) (pointer_in r (beside now.registers s))
    (pointer_same r now.registers (beside now.registers s) (found.0, tt)) (λ p. does p now h)

-- Rows

-- registers take a number at an operand
pub takes : (w : Width) (row : ℕ → RegisterValues → RegisterValues) (o : Operand) (asked : List Reg) (now : Now) (s : RegisterValues)
    → AreSame (found_by o) now.registers (beside now.registers s) → AreSame asked now.registers (beside now.registers s)
    → ((v : ℕ) (r t : RegisterValues) → AreSame asked r t → Alike r t (row v r) (row v t)) → DoesAlike now s (taken w row o)
takes w row o asked now s found h alike =
    at_place o asked now s (λ p after. with_value (read_number w p after.memory) (λ v. on_registers (row v) after)) found h
    (λ p n k. by_value n.registers (beside n.registers s) (λ v. on_registers (row v) n) (λ v. on_registers (row v) (next_to n s)) (read_number w p n.memory)
    (λ v. record { memory = refl; brackets = refl; activations = refl; registers = alike v n.registers (beside n.registers s) k }))

-- a number is written at an operand
pub puts : (w : Width) (value : RegisterValues → ℕ) (o : Operand) (asked : List Reg) (now : Now) (s : RegisterValues)
    → AreSame (found_by o) now.registers (beside now.registers s) → AreSame asked now.registers (beside now.registers s)
    → ((r t : RegisterValues) → AreSame asked r t → value r ≡ value t) → DoesAlike now s (write_operand w value o)
puts w value o asked now s found h equal =
    at_place o asked now s (λ p after. with_value (write_number w p (value after.registers) after.memory) (λ m. next (record after { memory = m }))) found h
    (λ p n k. by_one_value n.registers (beside n.registers s) (λ v. write_number w p v n.memory) (value n.registers) (value (beside n.registers s))
    (λ m. next (record n { memory = m })) (λ m. next (record (next_to n s) { memory = m })) (equal n.registers (beside n.registers s) k)
    (λ m. record { memory = refl; brackets = refl; activations = refl; registers = λ q. kept_alike n.registers (beside n.registers s) q }))
