-- A value is written at the place of an operand, by the program and by its graph: in the memory, or in a constant, which
-- the program has in a cell, and the graph in a local of a waiting unit.
use Rattle.std.proofs.Common.{◌≡◌, ℕ, zero, suc, ◌+◌, ◌-◌, ◌<◌, ◌==◌, pos, Bool, true, false, if◌then◌else◌, List, [], ◌∷◌, ◌++◌, length, Option, Some, None, Result, Ok, Err, refl, sym, ap, subst, ◌∙◌, arith}
use Rattle.std.specs.Prelude.{option_and_then, slice_get}
use Rattle.std.proofs.lemmas.List.{length-append}
use Rattle.std.proofs.lemmas.Option.{slice_get_within}
use Rattle.memory_areas.specs.Access.{and_then, bytes_for_access, write_bytes}
use Rattle.memory_areas.specs.Areas.{Contents, bit_of_byte, byte_at, byte_with, bytes_of_dword, bytes_of_word, dword_at, word_at}
use Rattle.memory_areas.specs.declared.data_block.DataBlock.{DataBlock}
use Rattle.memory_areas.specs.declared.place.Area.{Area}
use Rattle.memory_areas.specs.declared.place.Area.TheVariants as area
use Rattle.memory_areas.specs.declared.place.Place.{Place}
use Rattle.s7_base.specs.declared.outcome.Fault.{Fault}
use Rattle.s7_base.specs.declared.word.Width.{Width}
use Rattle.s7_base.specs.declared.word.Width.TheVariants as width
use Rattle.stl_tree.specs.Accepted.{Widths}
use Rattle.stl_tree.specs.Calls.{cell_of}
use Rattle.stl_tree.specs.Now.{Activation, Now}
use Rattle.stl_tree.specs.Operands.{OperandPlace, formal_place, found_formal, place_of_operand}
use Rattle.stl_tree.specs.declared.program.Operand.TheVariants as operand
use Rattle.st_tree.specs.Fitting.{IsOf}
use Rattle.st_tree.specs.Meaning.{Calls, Faults, Out, Sem, body_meaning, state_or_fault, then_do}
use Rattle.st_tree.specs.State.{Activation as Running, State, depth, formals_of, locals_of, own_of, read_at, read_place, reference_of, there, with_local, write, write_at, write_place}
use Rattle.st_tree.specs.Value.{value}
use Rattle.st_tree.specs.Values.{flag, is_set, pattern, type_of_width, typed}
use Rattle.st_tree.specs.declared.expr.Expr.{Expr}
use Rattle.st_tree.specs.declared.expr.Expr.TheVariants as expr
use Rattle.st_tree.specs.declared.expr.StType.{StType}
use Rattle.st_tree.specs.declared.expr.StType.TheVariants as type
use Rattle.st_tree.specs.declared.expr.Var.TheVariants as var
use Rattle.st_tree.specs.declared.program.Located.{Located}
use Rattle.st_tree.specs.declared.program.Stmt.{Stmt}
use Rattle.st_tree.specs.declared.program.Stmt.TheVariants as stmt
use Rattle.st_tree.specs.declared.state.Reference.{Reference}
use Rattle.st_tree.specs.declared.state.Reference.TheVariants as reference
use Rattle.st_tree.specs.declared.state.Value.{Value}
use Rattle.st_tree.proofs.Equations.{assign_goes_on, assign_stops_at_value, meaning_assign, value_read}
use Rattle.template_parts.specs.Related.{AreFormals, Constant, Frames, IsConstantOf, IsGiven, IsInMemory, IsReached, Related, StandForSame, Waiting, formals_of_block, without_cells}
use Rattle.template_parts.proofs.AfterWrites.{faults_after, rest_after, sizes_after}
use Rattle.template_parts.proofs.Alike.{as_many_wait, keep_memory, wait_length}
use Rattle.template_parts.proofs.Cells.{LiesInMemory, read_alike, write_alike, write_keeps_cells}
use Rattle.template_parts.proofs.Constants.{Held, constant_held, wait_put}
use Rattle.template_parts.proofs.MemoryEffects.{Writes, put_at, write_goes_on, write_misses, write_stops_at_place, written_holds}

-- What a write is

-- statements go on with others, in a state that is related to the one after a write, with the registers and the locals
-- of the running unit as they were
pub record GoesOn (ended : Out) (rest : Sem) (units : ℕ) (frames : Frames) (after : Now) (u : State) : Type 0 where
  pub to : State
  pub goes : ended ≡ rest units to
  pub related : Related frames after to
  pub registers : to.registers ≡ u.registers
  pub own : own_of to.activations ≡ own_of u.activations

-- or they end by the fault of the write
abbrev pub Puts : Out → Sem → ℕ → Frames → Now → State → Result Contents Fault → Type 0
Puts ended rest units frames now u (Ok m) = GoesOn ended rest units frames (record now { memory = m }) u
Puts ended rest units frames now u (Err f) = ended ≡ Faults f u

-- a statement with an expression writes what that is worth at a place, or meets the fault that stands in the place of it;
-- or it ends by the fault of the expression
pub record PutsAt (g : List Located) (frames : Frames) (w : Width) (target : Result Place Fault)
    (now : Now) (u : State) (with_expression : Expr → Stmt) : Type 0 where
  pub puts : (calls : Calls) (units : ℕ) (e : Expr) (v : Value) (rest : List Stmt) → IsOf (type_of_width w) v → value g e u ≡ Ok v
      → Puts (body_meaning g calls (with_expression e ∷ rest) units u) (body_meaning g calls rest) units frames now u
      (and_then target (λ p. write_place (type_of_width w) p v now.memory))
  pub stops : (calls : Calls) (units : ℕ) (e : Expr) (f : Fault) (rest : List Stmt) → value g e u ≡ Err f
      → body_meaning g calls (with_expression e ∷ rest) units u ≡ Faults f u

-- a truth value is one of a BOOL
pub flag_fits : (b : Bool) → IsOf type.Bool (flag b)
flag_fits true = record { type = refl; number = refl }
flag_fits false = record { type = refl; number = refl }

-- In the memory

module _ (g : List Located) (frames : Frames) (w : Width) (now : Now) (u : State) (related : Related frames now u) (with_expression : Expr → Stmt) where
  module _ (calls : Calls) (units : ℕ) (e : Expr) (v : Value) (rest : List Stmt) (h : value g e u ≡ Ok v) where
    abbrev Here : Result Contents Fault → Type 0
    Here = Puts (body_meaning g calls (with_expression e ∷ rest) units u) (body_meaning g calls rest) units frames now u

    wrote : (p : Place) → IsInMemory p.area → (r : Result Contents Fault) → write_place (type_of_width w) p v now.memory ≡ r
        → write_place (type_of_width w) p v u.memory ≡ and_then r (λ m. Ok (without_cells m))
    wrote p lies r k =
        ap (write_place (type_of_width w) p v) related.memory ∙ write_alike p now.memory lies (type_of_width w) v
        ∙ ap (λ (x : Result Contents Fault). and_then x (λ m. Ok (without_cells m))) k

    place_puts : (p : Place) → IsInMemory p.area → Writes g (type_of_width w) (Ok p) u with_expression
        → (r : Result Contents Fault) → write_place (type_of_width w) p v now.memory ≡ r → Here r
    place_puts p lies writes (Ok m) k =
        record {
          to = record u { memory = without_cells m };
          goes = write_goes_on g (type_of_width w) p u with_expression writes calls units e rest v (without_cells m) h (wrote p lies (Ok m) k);
          related =
              keep_memory frames now u related m (written_holds (type_of_width w) p v now.memory m related.bytes k)
              (sizes_after (type_of_width w) p v now.memory m related.sizes k)
              (λ aim x. faults_after (type_of_width w) p v now.memory m k aim x ∙ related.faults aim x)
              (write_keeps_cells p now.memory lies (type_of_width w) v m k);
          registers = refl;
          own = refl;
        }
    place_puts p lies writes (Err f) k =
        write_stops_at_place g (type_of_width w) p u with_expression writes calls units e rest v f h (wrote p lies (Err f) k)

    target_puts : (target : Result Place Fault) → LiesInMemory target → Writes g (type_of_width w) target u with_expression
        → Here (and_then target (λ p. write_place (type_of_width w) p v now.memory))
    target_puts (Ok p) lies writes = place_puts p lies writes (write_place (type_of_width w) p v now.memory) refl
    target_puts (Err f) lies writes = write_misses g (type_of_width w) (Err f) u with_expression writes calls units e rest v f h refl

  pub memory_puts : (target : Result Place Fault) → LiesInMemory target → Writes g (type_of_width w) target u with_expression
      → PutsAt g frames w target now u with_expression
  memory_puts target lies writes =
      record {
        puts = λ calls units e v rest of h. target_puts calls units e v rest h target lies writes;
        stops = λ calls units e f rest h.
            writes calls units e rest
            ∙ ap (λ r. then_do (state_or_fault (and_then r (put_at g (type_of_width w) target u)) units u) (body_meaning g calls rest)) h;
      }

-- what is read in the memory of the graph is what is read in that of the program
pub memory_reads : (m : Contents) (ty : StType) (target : Result Place Fault) → LiesInMemory target
    → and_then target (λ p. read_place ty p (without_cells m)) ≡ and_then target (λ p. read_place ty p m)
memory_reads m ty (Ok p) lies = read_alike p m lies ty
memory_reads m ty (Err f) lies = refl

-- Formals

-- the formal at a position, as its block and its unit have it
pub record IsFormalAt (waiting : List Waiting) (dbs : List DataBlock) (w : Width) (places : List (Option Place)) (references : List Reference)
    (k : ℕ) : Type 0 where
  pub place : Place
  pub reference : Reference
  pub there : slice_get places k ≡ Some (Some place)
  pub given : slice_get references k ≡ Some reference
  pub same : StandForSame waiting dbs w place reference

pub formal_at : (waiting : List Waiting) (dbs : List DataBlock) (widths : Widths)
    (places : List (Option Place)) (references : List Reference) (k : ℕ) (w : Width)
    → AreFormals waiting dbs widths places references → slice_get widths k ≡ Some w → IsFormalAt waiting dbs w places references k
formal_at waiting dbs [] places references k w h e = cc
formal_at waiting dbs (x ∷ widths) [] references k w h e = absurd h
formal_at waiting dbs (x ∷ widths) (None ∷ places) references k w h e = absurd h
formal_at waiting dbs (x ∷ widths) (Some p ∷ places) [] k w h e = absurd h
formal_at waiting dbs (x ∷ widths) (Some p ∷ places) (r ∷ references) zero w h e =
    let is : x ≡ w = cc in
    record { place = p; reference = r; there = refl; given = refl; same = subst (λ (y : Width). StandForSame waiting dbs y p r) is h.0 }
formal_at waiting dbs (x ∷ widths) (Some p ∷ places) (r ∷ references) (suc k) w h e =
    let found = formal_at waiting dbs widths places references k w h.1 e in
    record { place = found.place; reference = found.reference; there = found.there; given = found.given; same = found.same }

-- the formals of a running block, which has no instance where one is there
named_there : (b : Bool) (formals : List (Option Place)) (k : ℕ) (p : Place) → slice_get (if b then formals else []) k ≡ Some (Some p)
    → slice_get formals k ≡ Some (Some p)
named_there true formals k p e = e
named_there false formals k p e = cc

found_there : (blocks : List Activation) (now : Now) (k : ℕ) (p : Place) → slice_get (formals_of_block blocks) k ≡ Some (Some p)
    → found_formal (formal_place k blocks) now ≡ Ok (record { place = p; after = now })
found_there [] now k p e = cc
found_there (a ∷ waiting) now k p e =
    ap (λ (o : Option (Option Place)). found_formal (option_and_then (λ x. x) o) now) (named_there (a.instance == 0) a.formals k p e)

-- the last of some activations
pub last_there : (units : List Running) (running : Running) → slice_get (units ++ running ∷ []) (length units) ≡ Some running
last_there [] running = refl
last_there (a ∷ units) running = last_there units running

-- one before it
before_last : (units : List Running) (running : Running) (d : ℕ) → d < length units → slice_get (units ++ running ∷ []) d ≡ slice_get units d
before_last [] running d h = absurd (omega arith)
before_last (a ∷ units) running zero h = refl
before_last (a ∷ units) running (suc d) h = before_last units running d (omega arith)

changed_before_last : (units : List Running) (running : Running) (d i : ℕ) (v : Value) → d < length units
    → with_local d i v (units ++ running ∷ []) ≡ with_local d i v units ++ running ∷ []
changed_before_last [] running d i v h = absurd (omega arith)
changed_before_last (a ∷ units) running zero i v h = refl
changed_before_last (a ∷ units) running (suc d) i v h = ap (λ (rest : List Running). a ∷ rest) (changed_before_last units running d i v (omega arith))

-- the locals of the last of some activations
pub own_last : (units : List Running) (running : Running) → own_of (units ++ running ∷ []) ≡ running.locals
own_last units running =
    let long : length (units ++ running ∷ []) ≡ length units + 1 = length-append units (running ∷ []) in
    let last : length (units ++ running ∷ []) - 1 ≡ length units = omega arith in
    ap (λ (n : ℕ). locals_of (slice_get (units ++ running ∷ []) n)) last ∙ ap locals_of (last_there units running)

-- what a call may give is no cell
pub reached_lies : (d : ℕ) (a : Area) → IsReached d a → IsInMemory a
reached_lies d area.I h = tt
reached_lies d area.Q h = tt
reached_lies d area.M h = tt
reached_lies d (area.Db n) h = tt
reached_lies d (area.Local n) h = tt
reached_lies d (area.Cell n) h = elim h [ ]

-- what can be read can be written
never_refused : (w : Width) (p : Place) (m : Contents) (x v : Value) (f : Fault) → read_place (type_of_width w) p m ≡ Ok x
    → write_place (type_of_width w) p v m ≡ Err f → ⊥
never_refused width.Bit p m x v f e h = by (bytes_for_access p width.Bit m) e h
  where
    by : (r : Result (List ℕ) Fault) → and_then (and_then r (λ bytes. Ok (bit_of_byte (byte_at bytes p.byte) p.bit))) (λ b. Ok (flag b)) ≡ Ok x
        → and_then r (λ bytes. Ok (write_bytes p bytes (byte_with (byte_at bytes p.byte) p.bit (is_set v) ∷ []) m)) ≡ Err f → ⊥
    by (Ok bytes) e h = cc
    by (Err y) e h = cc
never_refused width.Byte p m x v f e h = by (bytes_for_access p width.Byte m) e h
  where
    by : (r : Result (List ℕ) Fault) → and_then (and_then r (λ bytes. Ok (byte_at bytes p.byte))) (λ n. Ok (typed type.Byte (pos n))) ≡ Ok x
        → and_then r (λ bytes. Ok (write_bytes p bytes (pattern 8 v.n ∷ []) m)) ≡ Err f → ⊥
    by (Ok bytes) e h = cc
    by (Err y) e h = cc
never_refused width.Word p m x v f e h = by (bytes_for_access p width.Word m) e h
  where
    by : (r : Result (List ℕ) Fault) → and_then (and_then r (λ bytes. Ok (word_at bytes p.byte))) (λ n. Ok (typed type.Word (pos n))) ≡ Ok x
        → and_then r (λ bytes. Ok (write_bytes p bytes (bytes_of_word (pattern 16 v.n)) m)) ≡ Err f → ⊥
    by (Ok bytes) e h = cc
    by (Err y) e h = cc
never_refused width.Dword p m x v f e h = by (bytes_for_access p width.Dword m) e h
  where
    by : (r : Result (List ℕ) Fault) → and_then (and_then r (λ bytes. Ok (dword_at bytes p.byte))) (λ n. Ok (typed type.Dword (pos n))) ≡ Ok x
        → and_then r (λ bytes. Ok (write_bytes p bytes (bytes_of_dword (pattern 32 v.n)) m)) ≡ Err f → ⊥
    by (Ok bytes) e h = cc
    by (Err y) e h = cc

-- a unit that does not exist has no locals
some_unit : (units : List Running) (d i : ℕ) (v : Value) → slice_get (locals_of (slice_get units d)) i ≡ Some v → d < length units
some_unit [] d i v e = cc
some_unit (a ∷ units) zero i v e = omega arith
some_unit (a ∷ units) (suc d) i v e = let rest : d < length units = some_unit units d i v e in omega arith

module _ (g : List Located) (frames : Frames) (now : Now) (s : State) (related : Related frames now s) (k : ℕ) (w : Width)
    (named : slice_get frames.formals k ≡ Some w) where
  abbrev pub formal : IsFormalAt frames.waiting frames.dbs w (formals_of_block frames.blocks) related.running.formals k
  formal = formal_at frames.waiting frames.dbs frames.formals (formals_of_block frames.blocks) related.running.formals k w related.formals named

  -- its place
  abbrev pub formal_is : Place
  formal_is = formal.place

  pub formal_found : place_of_operand (operand.Formal k) now ≡ Ok (record { place = formal_is; after = now })
  formal_found =
      ap (λ (blocks : List Activation). found_formal (formal_place k blocks) now) related.blocks
      ∙ found_there frames.blocks now k formal_is formal.there

  -- the running unit
  pub running_there : slice_get s.activations (depth s) ≡ Some related.running
  running_there =
      let many : length related.units ≡ length frames.waiting = wait_length now.memory 0 frames.waiting related.units related.wait in
      ap (slice_get s.activations) (as_many_wait frames now s related ∙ sym many)
      ∙ ap (λ (acts : List Running). slice_get acts (length related.units)) related.activations
      ∙ last_there related.units related.running

  -- its reference, in each state with these units
  pub refers : (u : State) → u.activations ≡ s.activations → reference_of g (var.Formal k) u ≡ Ok formal.reference
  refers u e =
      ap (λ (acts : List Running). there (slice_get (formals_of (slice_get acts (length acts - 1))) k)) e
      ∙ ap (λ (o : Option Running). there (slice_get (formals_of o) k)) running_there
      ∙ ap (λ (o : Option Reference). there o) formal.given

  -- It is read

  reads_by : (r : Reference) → StandForSame frames.waiting frames.dbs w formal_is r → (u : State) → u.memory ≡ s.memory → u.activations ≡ s.activations
      → read_at r u ≡ read_place (type_of_width w) formal_is now.memory
  reads_by (reference.Register q) same u memory units = elim same [ ]
  reads_by (reference.Place q ty) same u memory units =
      let lies : IsInMemory formal_is.area = reached_lies (length frames.waiting) formal_is.area same.2.reached in
      ap (λ (x : StType). read_place x q u.memory) same.1
      ∙ ap (λ (x : Place). read_place (type_of_width w) x u.memory) same.0
      ∙ ap (read_place (type_of_width w) formal_is) (memory ∙ related.memory)
      ∙ read_alike formal_is now.memory lies (type_of_width w)
  reads_by (reference.Local d i) same u memory units =
      let c : Constant = record { local = i; width = w } in
      let holds : Held now.memory (cell_of (suc d) same.position) w (slice_get (locals_of (slice_get related.units d)) i) =
      constant_held now.memory frames.waiting related.units d same.position c related.wait same.local in
      let inside : d < length related.units = some_unit related.units d i holds.0 holds.1 in
      ap (λ (acts : List Running). there (slice_get (locals_of (slice_get acts d)) i)) (units ∙ related.activations)
      ∙ ap (λ (o : Option Running). there (slice_get (locals_of o) i)) (before_last related.units related.running d inside)
      ∙ ap (λ (o : Option Value). there o) holds.1
      ∙ sym (ap (λ (p : Place). read_place (type_of_width w) p now.memory) same.cell ∙ holds.2)

  pub formal_reads : (u : State) → u.memory ≡ s.memory → u.activations ≡ s.activations
      → value g (expr.Read (var.Formal k)) u ≡ read_place (type_of_width w) formal_is now.memory
  formal_reads u memory units =
      value_read g (var.Formal k) u ∙ ap (λ r. and_then r (λ x. read_at x u)) (refers u units)
      ∙ reads_by formal.reference formal.same u memory units

  -- It is written

  place_put : (q : Place) (ty : StType) → reference_of g (var.Formal k) s ≡ Ok (reference.Place q ty)
      → StandForSame frames.waiting frames.dbs w formal_is (reference.Place q ty) → PutsAt g frames w (Ok formal_is) now s (stmt.Assign (var.Formal k))
  place_put q ty is same =
      memory_puts g frames w now s related (stmt.Assign (var.Formal k)) (Ok formal_is) (reached_lies (length frames.waiting) formal_is.area same.2.reached)
      (λ calls units e rest.
      ap (λ (out : Out). then_do out (body_meaning g calls rest)) (meaning_assign g calls units s (var.Formal k) e)
      ∙ ap (λ r. then_do (state_or_fault (and_then (value g e s) (λ v. and_then r (λ x. write_at x v s))) units s) (body_meaning g calls rest))
      (is ∙ ap (λ (x : StType). Ok (reference.Place q x)) same.1 ∙ ap (λ (x : Place). Ok (reference.Place x (type_of_width w))) same.0))

  module _ (d i : ℕ) (same : IsConstantOf frames.waiting w formal_is d i) (is : reference_of g (var.Formal k) s ≡ Ok (reference.Local d i))
      (v : Value) (of : IsOf (type_of_width w) v) where
    abbrev given : Constant
    given = record { local = i; width = w }

    holds : Held now.memory (cell_of (suc d) same.position) w (slice_get (locals_of (slice_get related.units d)) i)
    holds = constant_held now.memory frames.waiting related.units d same.position given related.wait same.local

    inside : d < length related.units
    inside = some_unit related.units d i holds.0 holds.1

    room : i < length (locals_of (slice_get related.units d))
    room = slice_get_within (locals_of (slice_get related.units d)) i holds.0 holds.1

    abbrev to : State
    to = record s { activations = with_local d i v s.activations }

    running_to : to.activations ≡ with_local d i v related.units ++ related.running ∷ []
    running_to = ap (with_local d i v) related.activations ∙ changed_before_last related.units related.running d i v inside

    wrote_constant : write g (var.Formal k) v s ≡ Ok to
    wrote_constant =
        ap (λ r. and_then r (λ x. write_at x v s)) is
        ∙ ap (λ (acts : List Running). and_then (there (slice_get (locals_of (slice_get acts d)) i)) (λ (old : Value). Ok to)) related.activations
        ∙ ap (λ (o : Option Running). and_then (there (slice_get (locals_of o) i)) (λ (old : Value). Ok to))
        (before_last related.units related.running d inside)
        ∙ ap (λ (o : Option Value). and_then (there o) (λ (old : Value). Ok to)) holds.1

    same_but_cells : (m : Contents) → m.areas ≡ now.memory.areas → m.locals ≡ now.memory.locals → without_cells now.memory ≡ without_cells m
    same_but_cells m e f = rw (e, f) refl

    constant_put : (calls : Calls) (units : ℕ) (e : Expr) (rest : List Stmt) → value g e s ≡ Ok v
        → (r : Result Contents Fault) → write_place (type_of_width w) formal_is v now.memory ≡ r
        → Puts (body_meaning g calls (stmt.Assign (var.Formal k) e ∷ rest) units s) (body_meaning g calls rest) units frames now s r
    constant_put calls units e rest h (Ok m) written =
        let cell_written : write_place (type_of_width w) (cell_of (suc d) same.position) v now.memory ≡ Ok m =
        ap (λ (p : Place). write_place (type_of_width w) p v now.memory) (sym same.cell) ∙ written in
        let kept : (m.areas ≡ now.memory.areas) × (m.locals ≡ now.memory.locals) =
        rest_after (suc d) same.position (type_of_width w) v now.memory m cell_written in
        record {
          to = to;
          goes = assign_goes_on g calls (var.Formal k) e rest units s to v h wrote_constant;
          related = record {
            registers = related.registers;
            range = related.range;
            memory = related.memory ∙ same_but_cells m kept.0 kept.1;
            bytes = written_holds (type_of_width w) formal_is v now.memory m related.bytes written;
            sizes = sizes_after (type_of_width w) formal_is v now.memory m related.sizes written;
            faults = λ aim x. faults_after (type_of_width w) formal_is v now.memory m written aim x ∙ related.faults aim x;
            blocks = related.blocks;
            depth = related.depth;
            units = with_local d i v related.units;
            wait = wait_put now.memory m d same.position i w v of cell_written frames.waiting related.units same.local room related.wait;
            running = related.running;
            activations = running_to;
            formals = related.formals;
          };
          registers = refl;
          own =
              ap own_of running_to ∙ own_last (with_local d i v related.units) related.running
              ∙ sym (own_last related.units related.running) ∙ sym (ap own_of related.activations);
        }
    constant_put calls units e rest h (Err f) written =
        absurd
        (never_refused w formal_is now.memory holds.0 v f
        (ap (λ (p : Place). read_place (type_of_width w) p now.memory) same.cell ∙ holds.2) written)

  puts_by : (r : Reference) → reference_of g (var.Formal k) s ≡ Ok r → StandForSame frames.waiting frames.dbs w formal_is r
      → PutsAt g frames w (Ok formal_is) now s (stmt.Assign (var.Formal k))
  puts_by (reference.Register q) is same = elim same [ ]
  puts_by (reference.Place q ty) is same = place_put q ty is same
  puts_by (reference.Local d i) is same =
      record {
        puts = λ calls units e v rest of h.
            constant_put d i same is v of calls units e rest h (write_place (type_of_width w) formal_is v now.memory) refl;
        stops = λ calls units e f rest h. assign_stops_at_value g calls (var.Formal k) e rest units s f h;
      }

  pub formal_puts : PutsAt g frames w (Ok formal_is) now s (stmt.Assign (var.Formal k))
  formal_puts = puts_by formal.reference (refers s refl) formal.same

-- it has the same place in each state that is related with these frames
pub same_formal : (frames : Frames) (one other : Now) (s u : State) (first : Related frames one s) (second : Related frames other u) (k : ℕ) (w : Width)
    (g : List Located) (named : slice_get frames.formals k ≡ Some w)
    → formal_is g frames other u second k w named ≡ formal_is g frames one s first k w named
same_formal frames one other s u first second k w g named =
    let here = formal g frames one s first k w named in
    let there = formal g frames other u second k w named in
    both (slice_get (formals_of_block frames.blocks) k) there.place here.place there.there here.there
  where
    both : (o : Option (Option Place)) (p q : Place) → o ≡ Some (Some p) → o ≡ Some (Some q) → p ≡ q
    both o p q e f = cc
