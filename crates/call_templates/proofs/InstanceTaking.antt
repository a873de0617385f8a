-- What an instance takes. The graph copies before the called unit begins; the program does once the called block has
-- local data and cells of its own, so its memory has these too.
use Rattle.std.proofs.Common.{◌≡◌, ℕ, ◌+◌, ◌^◌, ◌<◌, pos, Bool, true, false, if◌then◌else◌, List, [], ◌∷◌, ◌++◌, length, Option, Some, None, Result, Ok, Err, refl, sym, ap, subst, ◌∙◌}
use Rattle.std.specs.Prelude.{◌==◌, All, nat_lt, slice_get}
use Rattle.std.proofs.lemmas.List.Elements.{All-head, All-tail}
use Rattle.call_templates.proofs.ConstantActuals.{AreRead, number_as, number_fits, number_put}
use Rattle.call_templates.proofs.Given.{block_place, block_puts, operand_reads, place_named}
use Rattle.call_templates.proofs.InstancePlaces.{ArePlaced, IsBefore, IsFound, no_fault}
use Rattle.call_templates.proofs.OperandsRead.{read_as}
use Rattle.call_templates.specs.Calls.{copies, copy_in, in_instance, number_of_width, variable_of}
use Rattle.instruction_laws.proofs.RangeEffects.{number_written}
use Rattle.memory_areas.specs.Access.{HoldsBytes, aim_of_place, and_then, bits_wide, bytes_for_access, bytes_wide, is_unaligned, or_none, unless, write_bytes}
use Rattle.memory_areas.specs.Areas.{Areas, Contents, byte_at, byte_with, bytes_of_dword, bytes_of_word, overwrite, with_block}
use Rattle.memory_areas.specs.Memory.{HasBlocks}
use Rattle.memory_areas.specs.declared.data_block.DataBlock.{DataBlock}
use Rattle.memory_areas.specs.declared.place.Area.{Area}
use Rattle.memory_areas.specs.declared.place.Area.TheVariants as area
use Rattle.memory_areas.specs.declared.place.Place.{Place}
use Rattle.s7_base.specs.declared.outcome.Fault.{Fault}
use Rattle.s7_base.specs.declared.outcome.Fault.TheVariants.{Alignment, AreaLength}
use Rattle.s7_base.specs.declared.word.Width.{Width}
use Rattle.s7_base.specs.declared.word.Width.TheVariants as width
use Rattle.stl_tree.proofs.KeptFaults.{blocks_kept, number_is_written, number_leaves_faults}
use Rattle.stl_tree.specs.Accepted.{AreActuals, IsOperand, LiesInInstance, is_written}
use Rattle.stl_tree.specs.Accumulators.{read_number, write_number}
use Rattle.stl_tree.specs.Calls.{all_copied, cell_of, copied_in, is_taken, with_copy}
use Rattle.stl_tree.specs.Now.{Now}
use Rattle.stl_tree.specs.declared.program.Actual.{Actual}
use Rattle.stl_tree.specs.declared.program.Actual.TheVariants as actual
use Rattle.stl_tree.specs.declared.program.Formal.{Formal}
use Rattle.stl_tree.specs.declared.program.Operand.{Operand}
use Rattle.stl_tree.specs.declared.program.Operand.TheVariants as operand
use Rattle.st_tree.proofs.Equations.{value_literal}
use Rattle.st_tree.proofs.FittingMemory.{AfterHolds}
use Rattle.st_tree.proofs.TwoParts.{goes_on_behind}
use Rattle.st_tree.specs.Meaning.{Calls, Normal, body_meaning}
use Rattle.st_tree.specs.State.{State, own_of, read_place, write_place}
use Rattle.st_tree.specs.Value.{value}
use Rattle.st_tree.specs.Values.{type_of_width}
use Rattle.st_tree.specs.declared.expr.Expr.{Expr}
use Rattle.st_tree.specs.declared.expr.Expr.TheVariants as expr
use Rattle.st_tree.specs.declared.program.Located.{Located}
use Rattle.st_tree.specs.declared.program.Stmt.{Stmt}
use Rattle.st_tree.specs.declared.program.Stmt.TheVariants as stmt
use Rattle.st_tree.specs.declared.state.Value.{Value}
use Rattle.template_parts.proofs.Cells.{cell_read_alike}
use Rattle.template_parts.proofs.Putting.{Puts}
use Rattle.template_parts.specs.Related.{Frames, Related}

-- Two memories

-- an access to the bytes of an activation
abbrev access_of : ℕ → ℕ → Width → Option (List ℕ) → Result (List ℕ) Fault
access_of byte x w o =
    unless
    (if is_unaligned w x then Some Alignment
    else if nat_lt (length (or_none o)) (byte + bytes_wide w) then Some AreaLength else None)
    (or_none o)

-- both have the same areas, and local data and cells of the activations before one
pub record AreAlikeBefore (depth : ℕ) (m n : Contents) : Type 0 where
  pub areas : n.areas ≡ m.areas
  pub locals : (d : ℕ) → d < depth → slice_get n.locals d ≡ slice_get m.locals d
  pub cells : (d : ℕ) → d < depth → slice_get n.cells d ≡ slice_get m.cells d

accessed_alike : (depth : ℕ) (m n : Contents) → AreAlikeBefore depth m n → (a : Area) → IsBefore depth a → (byte x : ℕ) (w : Width)
    → bytes_for_access (record { area = a; byte = byte; bit = x }) w n ≡ bytes_for_access (record { area = a; byte = byte; bit = x }) w m
accessed_alike depth m n h area.I old byte x w =
    ap (λ (ar : Areas). bytes_for_access (record { area = area.I; byte = byte; bit = x }) w (record n { areas = ar })) h.areas
accessed_alike depth m n h area.Q old byte x w =
    ap (λ (ar : Areas). bytes_for_access (record { area = area.Q; byte = byte; bit = x }) w (record n { areas = ar })) h.areas
accessed_alike depth m n h area.M old byte x w =
    ap (λ (ar : Areas). bytes_for_access (record { area = area.M; byte = byte; bit = x }) w (record n { areas = ar })) h.areas
accessed_alike depth m n h (area.Db k) old byte x w =
    ap (λ (ar : Areas). bytes_for_access (record { area = area.Db k; byte = byte; bit = x }) w (record n { areas = ar })) h.areas
accessed_alike depth m n h (area.Local d) old byte x w = ap (access_of byte x w) (h.locals d old)
accessed_alike depth m n h (area.Cell d) old byte x w = ap (access_of byte x w) (h.cells d old)

number_alike : (w : Width) (p : Place) (m n : Contents) → ((u : Width) → bytes_for_access p u n ≡ bytes_for_access p u m)
    → read_number w p n ≡ read_number w p m
number_alike width.Bit p m n same = simp same
number_alike width.Byte p m n same = simp same
number_alike width.Word p m n same = simp same
number_alike width.Dword p m n same = simp same

-- a write into a data block is the same in both
pub record IsWrittenToo (w : Width) (p : Place) (v : ℕ) (m n after : Contents) : Type 0 where
  pub other : write_number w p v n ≡ Ok (record n { areas = after.areas })
  pub locals : after.locals ≡ m.locals
  pub cells : after.cells ≡ m.cells

module _ (k byte x : ℕ) (m n after : Contents) (same : n.areas ≡ m.areas) where
  abbrev block_at : Place
  block_at = block_place k byte x

  -- of bytes that are made of those that are there
  abbrev put_in : (List ℕ → List ℕ) → Contents → Result (List ℕ) Fault → Result Contents Fault
  put_in new memory r = and_then r (λ bytes. Ok (write_bytes block_at bytes (new bytes) memory))

  abbrev WrittenToo : (List ℕ → List ℕ) → Width → Type 0
  WrittenToo new u =
      (put_in new n (bytes_for_access block_at u n) ≡ Ok (record n { areas = after.areas })) × (after.locals ≡ m.locals) × (after.cells ≡ m.cells)

  one_written : (u : Width) (new : List ℕ → List ℕ) → put_in new m (bytes_for_access block_at u m) ≡ Ok after → WrittenToo new u
  one_written u new e =
      by (bytes_for_access block_at u m) (ap (λ (ar : Areas). bytes_for_access block_at u (record n { areas = ar })) same) e
    where
      by : (r : Result (List ℕ) Fault) → bytes_for_access block_at u n ≡ r → put_in new m r ≡ Ok after → WrittenToo new u
      by (Err f) g e = cc
      by (Ok bytes) g e =
          let is : write_bytes block_at bytes (new bytes) m ≡ after = cc in (
            ap (put_in new n) g
                ∙ ap (λ (ar : Areas). Ok (record n { areas = record ar { blocks = with_block k (overwrite bytes byte (new bytes)) ar.blocks } })) same
                ∙ ap (λ (c : Contents). Ok (record n { areas = c.areas })) is,
            ap (λ (c : Contents). c.locals) (sym is),
            ap (λ (c : Contents). c.cells) (sym is),
          )

  block_written : (w : Width) (v : ℕ) → write_number w block_at v m ≡ Ok after → IsWrittenToo w block_at v m n after
  block_written width.Bit v e =
      let h = one_written width.Bit (λ bytes. byte_with (byte_at bytes byte) x (v == 1) ∷ []) e in
      record { other = h.0; locals = h.1; cells = h.2 }
  block_written width.Byte v e =
      let h = one_written width.Byte (λ bytes. v ∷ []) e in record { other = h.0; locals = h.1; cells = h.2 }
  block_written width.Word v e =
      let h = one_written width.Word (λ bytes. bytes_of_word v) e in record { other = h.0; locals = h.1; cells = h.2 }
  block_written width.Dword v e =
      let h = one_written width.Dword (λ bytes. bytes_of_dword v) e in record { other = h.0; locals = h.1; cells = h.2 }

-- Copies

same_number : (w : Width) (x c : ℕ) → ◌≡◌ {A = Result Value Fault} (Ok (number_as w x)) (Ok (number_as w c)) → x ≡ c
same_number w x c e =
    let same : number_as w x ≡ number_as w c = cc in
    let numbers : pos x ≡ pos c = ap (λ (v : Value). v.n) same in
    cc

-- a memory before the called block has anything, and one once it has, in which it begins as it does in another
pub record AreTwins (now : Now) (start : Contents) (dbs : List DataBlock) (m n : Contents) : Type 0 where
  pub areas : n.areas ≡ m.areas
  pub locals : n.locals ≡ start.locals
  pub cells : n.cells ≡ start.cells
  pub old_locals : m.locals ≡ now.memory.locals
  pub old_cells : m.cells ≡ now.memory.cells
  pub bytes : HoldsBytes n
  pub faults : HasBlocks dbs n

-- statements copy as the program does
pub record Copies (g : List Located) (calls : Calls) (units : ℕ) (frames : Frames) (now : Now) (start : Contents)
    (made : Contents → Result Contents Fault) (n : Contents) (body : List Stmt) (s : State) : Type 0 where
  pub old : Contents
  pub new : Contents
  pub to : State
  pub is : made n ≡ Ok new
  pub goes : body_meaning g calls body units s ≡ Normal units to
  pub related : Related frames (record now { memory = old }) to
  pub twins : AreTwins now start frames.dbs old new
  pub own : own_of to.activations ≡ own_of s.activations

module _ (g : List Located) (calls : Calls) (units : ℕ) (frames : Frames) (now : Now) (start : Contents) (instance : ℕ)
    (start_locals : (d : ℕ) → d < length now.activations → slice_get start.locals d ≡ slice_get now.memory.locals d)
    (start_cells : (d : ℕ) → d < length now.activations → slice_get start.cells d ≡ slice_get now.memory.cells d) where
  abbrev Does : (Contents → Result Contents Fault) → Contents → List Stmt → State → Type 0
  Does = Copies g calls units frames now start

  twins_before : (m n : Contents) → AreTwins now start frames.dbs m n → AreAlikeBefore (length now.activations) m n
  twins_before m n h =
      record {
        areas = h.areas;
        locals = λ d less.
            ap (λ (xs : List (List ℕ)). slice_get xs d) h.locals ∙ start_locals d less ∙ ap (λ (xs : List (List ℕ)). slice_get xs d) (sym h.old_locals);
        cells = λ d less.
            ap (λ (xs : List (List ℕ)). slice_get xs d) h.cells ∙ start_cells d less ∙ ap (λ (xs : List (List ℕ)). slice_get xs d) (sym h.old_cells);
      }

  -- nothing is copied
  none_copied : (m n : Contents) (s : State) → Related frames (record now { memory = m }) s → AreTwins now start frames.dbs m n → Does (λ x. Ok x) n [] s
  none_copied m n s related twins = record { old = m; new = n; to = s; is = refl; goes = refl; related = related; twins = twins; own = refl }

  module _ (m n : Contents) (s : State) (related : Related frames (record now { memory = m }) s) (twins : AreTwins now start frames.dbs m n)
      (f : Formal) (lies : LiesInInstance frames.dbs instance f) where
    abbrev there : Place
    there = block_place instance f.byte f.bit

    -- a number is copied from a place where the program reads it
    number_copied : (p : Place) (e : Expr) (v : ℕ) → v < 2 ^ bits_wide f.width → value g e s ≡ Ok (number_as f.width v) → read_number f.width p n ≡ Ok v
        → Does (with_copy f.width p there) n (stmt.Assign (in_instance instance f) e ∷ []) s
    number_copied p e v small worth reads =
        let wrote = number_is_written f.width there v m (related.faults (aim_of_place there) f.width ∙ lies) in
        let too = block_written instance f.byte f.bit m n wrote.0 twins.areas f.width v wrote.1 in
        let after : Contents = record n { areas = wrote.0.areas } in
        let put : write_place (type_of_width f.width) there (number_as f.width v) m ≡ Ok wrote.0 = number_put f.width there v m small ∙ wrote.1 in
        let body : List Stmt = stmt.Assign (in_instance instance f) e ∷ [] in
        let done =
        subst (λ (r : Result Contents Fault). Puts (body_meaning g calls body units s) (body_meaning g calls []) units frames (record now { memory = m }) s r)
        put
        ((block_puts g frames (record now { memory = m }) s related instance f.byte f.bit f.width).puts calls units e (number_as f.width v) []
        (number_fits f.width v small) worth) in
        record {
          old = wrote.0;
          new = after;
          to = done.to;
          is = ap (λ (r : Result ℕ Fault). and_then r (λ x. write_number f.width there x n)) reads ∙ too.other;
          goes = done.goes;
          related = done.related;
          twins = record {
            areas = refl;
            locals = twins.locals;
            cells = twins.cells;
            old_locals = too.locals ∙ twins.old_locals;
            old_cells = too.cells ∙ twins.old_cells;
            bytes = subst AfterHolds too.other (number_written f.width there v n twins.bytes small);
            faults = blocks_kept frames.dbs n after (number_leaves_faults f.width there v n after too.other) twins.faults;
          };
          own = done.own;
        }

    if_taken : (b : Bool) (p : Place) (e : Expr) (v : ℕ) → v < 2 ^ bits_wide f.width → value g e s ≡ Ok (number_as f.width v)
        → read_number f.width p n ≡ Ok v
        → Does (λ x. if b then with_copy f.width p there x else Ok x) n (if b then stmt.Assign (in_instance instance f) e ∷ [] else []) s
    if_taken true p e v small worth reads = number_copied p e v small worth reads
    if_taken false p e v small worth reads = none_copied m n s related twins

    operand_taken : (o : Operand) → is_written o ≡ true → IsOperand frames.formals f.width o → (p : Place) → p ≡ place_named o now
        → IsFound (length now.activations) frames.dbs f.width p → Does (copied_in instance f (Some p)) n (copy_in instance f (actual.At o)) s
    operand_taken o written is p same found =
        let read = read_as f.width p m related.bytes (related.faults (aim_of_place p) f.width ∙ found.lies) in
        if_taken (is_taken f.mode) p (expr.Read (variable_of o f.width)) read.number read.small
        (operand_reads g frames (record now { memory = m }) s related o f.width written is
        ∙ ap (λ (q : Place). read_place (type_of_width f.width) q m) (named_still o ∙ sym same) ∙ read.is_value)
        (number_alike f.width p m n (λ u. accessed_alike (length now.activations) m n (twins_before m n twins) p.area found.old p.byte p.bit u)
        ∙ read.is_number)
      where
        named_still : (o : Operand) → place_named o (record now { memory = m }) ≡ place_named o now
        named_still (operand.Direct a byte x) = refl
        named_still (operand.Opened k byte x) = refl
        named_still (operand.Formal k) = refl
        named_still o = refl

    constant_taken : (c k : ℕ) → c < 2 ^ bits_wide f.width → (p : Place) → p ≡ cell_of (length now.activations) k
        → read_place (type_of_width f.width) (cell_of (length now.activations) k) start ≡ Ok (number_as f.width c)
        → Does (copied_in instance f (Some p)) n (copy_in instance f (actual.Constant c)) s
    constant_taken c k small p same reads =
        let cell : Place = cell_of (length now.activations) k in
        let is_there : read_place (type_of_width f.width) cell n ≡ Ok (number_as f.width c) =
        cell_read_alike cell tt (type_of_width f.width) n start twins.cells ∙ reads in
        let read = read_as f.width cell n twins.bytes (no_fault f.width cell n (number_as f.width c) is_there) in
        if_taken (is_taken f.mode) p (number_of_width f.width c) c small (value_literal g (type_of_width f.width) (pos c) s)
        (ap (λ (q : Place). read_number f.width q n) same ∙ read.is_number
        ∙ ap (λ (x : ℕ). Ok x) (same_number f.width read.number c (sym read.is_value ∙ is_there)))

  -- one after another
  both_copied : (one two : Contents → Result Contents Fault) (n : Contents) (xs ys : List Stmt) (s : State) (h : Does one n xs s) → Does two h.new ys h.to
      → Does (λ x. and_then (one x) two) n (xs ++ ys) s
  both_copied one two n xs ys s h k =
      record {
        old = k.old;
        new = k.new;
        to = k.to;
        is = ap (λ (r : Result Contents Fault). and_then r two) h.is ∙ k.is;
        goes = goes_on_behind g calls xs units s ys units h.to h.goes ∙ k.goes;
        related = k.related;
        twins = k.twins;
        own = k.own ∙ h.own;
      }

  pub instance_takes : (formals : List Formal) (actuals : List Actual) (places : List (Option Place)) (k : ℕ) (m n : Contents) (s : State)
      → Related frames (record now { memory = m }) s → AreTwins now start frames.dbs m n → All (LiesInInstance frames.dbs instance) formals
      → AreActuals frames.formals true formals actuals → ArePlaced (length now.activations) frames.dbs now k formals actuals places
      → AreRead start (length now.activations) k formals actuals
      → Does (all_copied (copied_in instance) formals places) n (copies (copy_in instance) formals actuals) s
  instance_takes [] [] [] k m n s related twins lie are placed reads = none_copied m n s related twins
  instance_takes (f ∷ formals) (actual.Missing ∷ actuals) (None ∷ places) k m n s related twins lie are placed reads =
      instance_takes formals actuals places (k + 1) m n s related twins (All-tail (LiesInInstance frames.dbs instance) f formals lie) are.1 placed reads
  instance_takes (f ∷ formals) (actual.Constant c ∷ actuals) (Some p ∷ places) k m n s related twins lie are placed reads =
      let one =
      constant_taken m n s related twins f (All-head (LiesInInstance frames.dbs instance) f formals lie) c k are.0.1 p placed.0 reads.0 in
      both_copied (copied_in instance f (Some p)) (all_copied (copied_in instance) formals places) n (copy_in instance f (actual.Constant c))
      (copies (copy_in instance) formals actuals) s one
      (instance_takes formals actuals places (k + 1) one.old one.new one.to one.related one.twins
      (All-tail (LiesInInstance frames.dbs instance) f formals lie) are.1 placed.1 reads.1)
  instance_takes (f ∷ formals) (actual.At o ∷ actuals) (Some p ∷ places) k m n s related twins lie are placed reads =
      let one =
      operand_taken m n s related twins f (All-head (LiesInInstance frames.dbs instance) f formals lie) o are.0.0 are.0.1 p placed.0 placed.1 in
      both_copied (copied_in instance f (Some p)) (all_copied (copied_in instance) formals places) n (copy_in instance f (actual.At o))
      (copies (copy_in instance) formals actuals) s one
      (instance_takes formals actuals places (k + 1) one.old one.new one.to one.related one.twins
      (All-tail (LiesInInstance frames.dbs instance) f formals lie) are.1 placed.2 reads)
  instance_takes formals actuals places k m n s related twins lie are placed reads = absurd placed
