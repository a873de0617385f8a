-- Constant actuals: the program has them in the cells of the called activation, and the graph in locals of the calling
-- unit.
use Rattle.std.proofs.Common.{◌≡◌, ℕ, zero, suc, ◌+◌, ◌*◌, ◌^◌, ◌<◌, ◌≤◌, pos, Bool, false, List, [], ◌∷◌, length, Option, Some, None, Result, Ok, Err, refl, sym, ap, subst, ◌∙◌, arith}
use Rattle.std.specs.Prelude.{◌==◌, if◌then◌else◌, nat_lt, slice_get, slice_set}
use Rattle.std.proofs.lemmas.List.{get_or-replicate, length-replicate}
use Rattle.std.proofs.lemmas.Option.{slice_get-get_or}
use Rattle.std.proofs.lemmas.Bool.Decides.{nat_tests}
use Rattle.call_templates.proofs.Surroundings.{OnlyLocals, changed_on, local_changed, nothing_changed, takes}
use Rattle.call_templates.specs.Calls.{constants_set, number_of_width, types_of_constants}
use Rattle.memory_areas.specs.Access.{HoldsBytes, aim_of_place, and_then, bits_wide, bytes_for_access, fault_of, or_none, write_byte, write_bytes, write_dword, write_word}
use Rattle.memory_areas.specs.Areas.{Contents, byte_at, byte_with, bytes_of_dword, bytes_of_word, fresh, no_locals, zero_locals}
use Rattle.memory_areas.specs.Memory.{HasActivations, HasBlocks}
use Rattle.memory_areas.specs.declared.data_block.DataBlock.{DataBlock}
use Rattle.memory_areas.specs.declared.place.Place.{Place}
use Rattle.memory_areas.specs.declared.sizes.TheConstants.{ACTIVATIONS, LOCAL_BYTES}
use Rattle.s7_base.specs.declared.outcome.Fault.{Fault}
use Rattle.s7_base.specs.declared.outcome.Fault.TheVariants.{AreaLength}
use Rattle.s7_base.specs.declared.word.Width.{Width}
use Rattle.s7_base.specs.declared.word.Width.TheVariants as width
use Rattle.stl_tree.proofs.KeptFaults.{number_is_written}
use Rattle.stl_tree.specs.Accepted.{AreActuals, Widths}
use Rattle.stl_tree.specs.Accumulators.{write_number}
use Rattle.stl_tree.specs.Calls.{cell_of, with_constants}
use Rattle.stl_tree.specs.Now.{Now}
use Rattle.stl_tree.specs.declared.program.Actual.{Actual}
use Rattle.stl_tree.specs.declared.program.Actual.TheVariants as actual
use Rattle.stl_tree.specs.declared.program.Formal.{Formal}
use Rattle.st_tree.proofs.Equations.{value_literal}
use Rattle.st_tree.proofs.Locals.{own_length, own_same, with_own}
use Rattle.st_tree.specs.Fitting.{IsOf}
use Rattle.st_tree.specs.Meaning.{Calls, Normal, body_meaning}
use Rattle.st_tree.specs.State.{Activation as Running, State, own_of, read_place, write_place}
use Rattle.st_tree.specs.Values.{pattern, type_of_width}
use Rattle.st_tree.specs.declared.program.Located.{Located}
use Rattle.st_tree.specs.declared.state.Value.{Value}
use Rattle.template_parts.proofs.AfterWrites.{faults_after, other_cell, read_after, rest_after, sizes_after}
use Rattle.template_parts.proofs.MemoryEffects.{written_holds}
use Rattle.template_parts.specs.Related.{AreApart, AreHeld, Constant, Frames, HasNoConstant, IsHeld, Related}

-- Numbers

-- a number of a width as a value
abbrev pub number_as : Width → ℕ → Value
number_as w c = record { ty = type_of_width w; n = pos c }

pub number_fits : (w : Width) (c : ℕ) → c < 2 ^ bits_wide w → IsOf (type_of_width w) (number_as w c)
number_fits width.Bit c h = record { type = refl; number = grind arith }
number_fits width.Byte c h = record { type = refl; number = grind arith }
number_fits width.Word c h = record { type = refl; number = grind arith }
number_fits width.Dword c h = record { type = refl; number = grind arith }

-- a value of a width is written as the number
pub number_put : (w : Width) (p : Place) (c : ℕ) (m : Contents) → c < 2 ^ bits_wide w
    → write_place (type_of_width w) p (number_as w c) m ≡ write_number w p c m
number_put width.Bit p zero m h = refl
number_put width.Bit p (suc zero) m h = refl
number_put width.Bit p (suc (suc c)) m h = absurd (omega arith)
number_put width.Byte p c m h = let e : pattern 8 (pos c) ≡ c = omega arith in ap (λ (n : ℕ). write_byte p n m) e
number_put width.Word p c m h = let e : pattern 16 (pos c) ≡ c = omega arith in ap (λ (n : ℕ). write_word p n m) e
number_put width.Dword p c m h = let e : pattern 32 (pos c) ≡ c = omega arith in ap (λ (n : ℕ). write_dword p n m) e

-- The program

-- what is known of a memory that has the constants of some formals, from the one at a position on, in the cells of an
-- activation
pub record HasConstants (dbs : List DataBlock) (depth k : ℕ) (before after : Contents) : Type 0 where
  pub areas : after.areas ≡ before.areas
  pub locals : after.locals ≡ before.locals
  pub bytes : HoldsBytes after
  pub sizes : HasActivations after
  pub faults : HasBlocks dbs after
  pub cells : (at : ℕ) → (at ≡ depth → ⊥) → slice_get after.cells at ≡ slice_get before.cells at
  pub others : (at j : ℕ) (u : Width) → (at ≡ depth → k ≤ j → ⊥)
      → read_place (type_of_width u) (cell_of at j) after ≡ read_place (type_of_width u) (cell_of at j) before

pub get_other : {X : Type 0} → (xs : List X) (i j : ℕ) (x : X) → (j ≡ i → ⊥) → slice_get (slice_set xs i x) j ≡ slice_get xs j
get_other [] i j x apart = refl
get_other (y ∷ xs) zero zero x apart = absurd (apart refl)
get_other (y ∷ xs) zero (suc j) x apart = refl
get_other (y ∷ xs) (suc i) zero x apart = refl
get_other (y ∷ xs) (suc i) (suc j) x apart = get_other xs i j x (λ e. apart (ap suc e))

-- a write into a cell leaves those of other activations
module _ (d k at : ℕ) (m after : Contents) (apart : at ≡ d → ⊥) where
  one_other : (new : List ℕ → List ℕ) (r : Result (List ℕ) Fault)
      → and_then r (λ bytes. Ok (write_bytes (cell_of d k) bytes (new bytes) m)) ≡ Ok after → slice_get after.cells at ≡ slice_get m.cells at
  one_other new (Ok bytes) e =
      let is : write_bytes (cell_of d k) bytes (new bytes) m ≡ after = cc in
      ap (λ (c : Contents). slice_get c.cells at) (sym is) ∙ get_other m.cells d at _ apart
  one_other new (Err f) e = cc

other_cells : (d k at : ℕ) (w : Width) (v : ℕ) (m after : Contents) → (at ≡ d → ⊥) → write_number w (cell_of d k) v m ≡ Ok after
    → slice_get after.cells at ≡ slice_get m.cells at
other_cells d k at width.Bit v m after apart e =
    one_other d k at m after apart (λ bytes. byte_with (byte_at bytes (4 * k)) 0 (v == 1) ∷ []) (bytes_for_access (cell_of d k) width.Bit m) e
other_cells d k at width.Byte v m after apart e =
    one_other d k at m after apart (λ bytes. v ∷ []) (bytes_for_access (cell_of d k) width.Byte m) e
other_cells d k at width.Word v m after apart e =
    one_other d k at m after apart (λ bytes. bytes_of_word v) (bytes_for_access (cell_of d k) width.Word m) e
other_cells d k at width.Dword v m after apart e =
    one_other d k at m after apart (λ bytes. bytes_of_dword v) (bytes_for_access (cell_of d k) width.Dword m) e

-- each constant is read in its cell
abbrev pub AreRead : Contents → ℕ → ℕ → List Formal → List Actual → Type 0
AreRead m depth k [] actuals = Unit {0}
AreRead m depth k (f ∷ formals) [] = Unit {0}
AreRead m depth k (f ∷ formals) (actual.Constant c ∷ actuals) =
    (read_place (type_of_width f.width) (cell_of depth k) m ≡ Ok (number_as f.width c)) × AreRead m depth (k + 1) formals actuals
AreRead m depth k (f ∷ formals) (other ∷ actuals) = AreRead m depth (k + 1) formals actuals

not_less : (n m : ℕ) → m ≤ n → nat_lt n m ≡ false
not_less n m h = grind (arith, nat_tests)

-- a cell can be written
cell_there : (dbs : List DataBlock) (d k : ℕ) (w : Width) → d < ACTIVATIONS → k < 64 → fault_of (aim_of_place (cell_of d k)) w (fresh dbs) ≡ None
cell_there dbs d k w deep few = by w
  where
    there : slice_get no_locals d ≡ Some zero_locals
    there =
        let many : length no_locals ≡ ACTIVATIONS = length-replicate ACTIVATIONS zero_locals in
        slice_get-get_or no_locals d zero_locals (omega arith) ∙ ap (λ (x : List ℕ). Some x) (get_or-replicate ACTIVATIONS d zero_locals zero_locals deep)

    long : length (or_none (slice_get no_locals d)) ≡ LOCAL_BYTES
    long = ap (λ (o : Option (List ℕ)). length (or_none o)) there ∙ length-replicate {A = ℕ} LOCAL_BYTES 0

    inside : (n : ℕ) → n ≤ 4 → nat_lt (length (or_none (slice_get no_locals d))) (4 * k + n) ≡ false
    inside n less = not_less (length (or_none (slice_get no_locals d))) (4 * k + n) (omega (arith, long))

    by : (w : Width) → fault_of (aim_of_place (cell_of d k)) w (fresh dbs) ≡ None
    by width.Bit = ap (λ (b : Bool). if b then Some AreaLength else None) (inside 1 (omega arith))
    by width.Byte = ap (λ (b : Bool). if b then Some AreaLength else None) (inside 1 (omega arith))
    by width.Word = ap (λ (b : Bool). if b then Some AreaLength else None) (inside 2 (omega arith))
    by width.Dword = ap (λ (b : Bool). if b then Some AreaLength else None) (inside 4 (omega arith))

module _ (dbs : List DataBlock) (wide : Widths) (optional : Bool) (depth : ℕ) (deep : depth < ACTIVATIONS) where
  abbrev Written : ℕ → List Formal → List Actual → Contents → Type 0
  Written k formals actuals m =
      (after : Contents) × (with_constants depth k formals actuals m ≡ Ok after) × HasConstants dbs depth k m after
      × AreRead after depth k formals actuals

  none_written : (k : ℕ) (m : Contents) → HoldsBytes m → HasActivations m → HasBlocks dbs m → HasConstants dbs depth k m m
  none_written k m bytes sizes faults =
      record { areas = refl; locals = refl; bytes = bytes; sizes = sizes; faults = faults; cells = λ at apart. refl; others = λ at j u apart. refl }

  from_earlier : (k : ℕ) (m after : Contents) → HasConstants dbs depth (k + 1) m after → HasConstants dbs depth k m after
  from_earlier k m after h =
      record {
        areas = h.areas;
        locals = h.locals;
        bytes = h.bytes;
        sizes = h.sizes;
        faults = h.faults;
        cells = h.cells;
        others = λ at j u apart. h.others at j u (λ same later. apart same (omega arith));
      }

  pub constants_written : (formals : List Formal) (actuals : List Actual) (k : ℕ) (m : Contents) → AreActuals wide optional formals actuals
      → k + length formals ≤ 64 → HoldsBytes m → HasActivations m → HasBlocks dbs m → Written k formals actuals m
  constants_written [] actuals k m are few bytes sizes faults = (m, refl, none_written k m bytes sizes faults, tt)
  constants_written (f ∷ formals) [] k m are few bytes sizes faults = absurd are
  constants_written (f ∷ formals) (actual.Constant c ∷ actuals) k m are few bytes sizes faults =
      let cell : Place = cell_of depth k in
      let v : Value = number_as f.width c in
      let small : c < 2 ^ bits_wide f.width = are.0.1 in
      let wrote = number_is_written f.width cell c m (faults (aim_of_place cell) f.width ∙ cell_there dbs depth k f.width deep (omega arith)) in
      let put : write_place (type_of_width f.width) cell v m ≡ Ok wrote.0 = number_put f.width cell c m small ∙ wrote.1 in
      let kept = rest_after depth k (type_of_width f.width) v m wrote.0 put in
      let rest =
      constants_written formals actuals (k + 1) wrote.0 are.1 (omega arith) (written_holds (type_of_width f.width) cell v m wrote.0 bytes put)
      (sizes_after (type_of_width f.width) cell v m wrote.0 sizes put)
      (λ aim x. faults_after (type_of_width f.width) cell v m wrote.0 put aim x ∙ faults aim x) in (
        rest.0,
        ap (λ (r : Result Contents Fault). and_then r (with_constants depth (k + 1) formals actuals)) wrote.1 ∙ rest.1,
        record {
          areas = rest.2.areas ∙ kept.0;
          locals = rest.2.locals ∙ kept.1;
          bytes = rest.2.bytes;
          sizes = rest.2.sizes;
          faults = rest.2.faults;
          cells = λ at apart. rest.2.cells at apart ∙ other_cells depth k at f.width c m wrote.0 apart wrote.1;
          others = λ at j u apart.
              rest.2.others at j u (λ same later. apart same (omega arith))
              ∙ other_cell depth k f.width v m wrote.0 put at j u (λ same equal. apart same (omega arith));
        },
        (
          rest.2.others depth k f.width (λ same later. absurd (omega arith))
              ∙ read_after f.width cell v m wrote.0 (number_fits f.width c small) put,
          rest.3,
        ),
      )
  constants_written (f ∷ formals) (actual.At o ∷ actuals) k m are few bytes sizes faults =
      let rest = constants_written formals actuals (k + 1) m are.1 (omega arith) bytes sizes faults in
      (rest.0, rest.1, from_earlier k m rest.0 rest.2, rest.3)
  constants_written (f ∷ formals) (actual.Missing ∷ actuals) k m are few bytes sizes faults =
      let rest = constants_written formals actuals (k + 1) m are.1 (omega arith) bytes sizes faults in
      (rest.0, rest.1, from_earlier k m rest.0 rest.2, rest.3)

-- The graph

-- the constants of a call, whose locals are those from one on
abbrev pub constants_given : ℕ → List Formal → List Actual → List (Option Constant)
constants_given next [] actuals = []
constants_given next (f ∷ formals) [] = []
constants_given next (f ∷ formals) (actual.Constant c ∷ actuals) =
    Some (record { local = next; width = f.width }) ∷ constants_given (next + 1) formals actuals
constants_given next (f ∷ formals) (other ∷ actuals) = None ∷ constants_given next formals actuals

-- they have locals from this one on
pub none_before : (next : ℕ) (formals : List Formal) (actuals : List Actual) (i : ℕ) → i < next → HasNoConstant (constants_given next formals actuals) i
none_before next [] actuals i h = tt
none_before next (f ∷ formals) [] i h = tt
none_before next (f ∷ formals) (actual.Constant c ∷ actuals) i h =
    (λ same. absurd (omega arith), none_before (next + 1) formals actuals i (omega arith))
none_before next (f ∷ formals) (actual.At o ∷ actuals) i h = none_before next formals actuals i h
none_before next (f ∷ formals) (actual.Missing ∷ actuals) i h = none_before next formals actuals i h

pub given_apart : (next : ℕ) (formals : List Formal) (actuals : List Actual) → AreApart (constants_given next formals actuals)
given_apart next [] actuals = tt
given_apart next (f ∷ formals) [] = tt
given_apart next (f ∷ formals) (actual.Constant c ∷ actuals) =
    (none_before (next + 1) formals actuals next (omega arith), given_apart (next + 1) formals actuals)
given_apart next (f ∷ formals) (actual.At o ∷ actuals) = given_apart next formals actuals
given_apart next (f ∷ formals) (actual.Missing ∷ actuals) = given_apart next formals actuals

-- each constant is in its local
abbrev pub AreKeptIn : List Value → ℕ → List Formal → List Actual → Type 0
AreKeptIn own next [] actuals = Unit {0}
AreKeptIn own next (f ∷ formals) [] = Unit {0}
AreKeptIn own next (f ∷ formals) (actual.Constant c ∷ actuals) =
    (slice_get own next ≡ Some (number_as f.width c)) × AreKeptIn own (next + 1) formals actuals
AreKeptIn own next (f ∷ formals) (other ∷ actuals) = AreKeptIn own next formals actuals

-- so the locals have what the cells have
pub given_held : (m : Contents) (depth k next : ℕ) (formals : List Formal) (actuals : List Actual) (unit : Running)
    → AreRead m depth k formals actuals → AreKeptIn unit.locals next formals actuals
    → AreHeld m depth k (constants_given next formals actuals) unit
given_held m depth k next [] actuals unit reads kept = tt
given_held m depth k next (f ∷ formals) [] unit reads kept = tt
given_held m depth k next (f ∷ formals) (actual.Constant c ∷ actuals) unit reads kept =
    let e : k + 1 ≡ suc k = omega arith in (
      subst (IsHeld m (cell_of depth k) f.width) (sym kept.0) reads.0,
      given_held m depth (suc k) (next + 1) formals actuals unit (subst (λ (n : ℕ). AreRead m depth n formals actuals) e reads.1) kept.1,
    )
given_held m depth k next (f ∷ formals) (actual.At o ∷ actuals) unit reads kept =
    let e : k + 1 ≡ suc k = omega arith in
    given_held m depth (suc k) next formals actuals unit (subst (λ (n : ℕ). AreRead m depth n formals actuals) e reads) kept
given_held m depth k next (f ∷ formals) (actual.Missing ∷ actuals) unit reads kept =
    let e : k + 1 ≡ suc k = omega arith in
    given_held m depth (suc k) next formals actuals unit (subst (λ (n : ℕ). AreRead m depth n formals actuals) e reads) kept

-- the statements that put the constants into locals lead to a state that has them
pub record KeepsConstants (g : List Located) (calls : Calls) (units : ℕ) (frames : Frames) (now : Now) (next : ℕ) (formals : List Formal)
    (actuals : List Actual) (s : State) : Type 0 where
  pub to : State
  pub goes : body_meaning g calls (constants_set next formals actuals) units s ≡ Normal units to
  pub only : OnlyLocals frames now next s to
  pub kept : AreKeptIn (own_of to.activations) next formals actuals

module _ (g : List Located) (calls : Calls) (units : ℕ) (frames : Frames) (now : Now) where
  abbrev Keeps : ℕ → List Formal → List Actual → State → Type 0
  Keeps = KeepsConstants g calls units frames now

  none_set : (next : ℕ) (formals : List Formal) (actuals : List Actual) (s : State) → Related frames now s → constants_set next formals actuals ≡ []
      → AreKeptIn (own_of s.activations) next formals actuals → Keeps next formals actuals s
  none_set next formals actuals s related none kept =
      record {
        to = s;
        goes = ap (λ body. body_meaning g calls body units s) none;
        only = nothing_changed frames now next s related;
        kept = kept;
      }

  pub constants_keep : (next : ℕ) (formals : List Formal) (actuals : List Actual) (s : State) → Related frames now s
      → next + length (types_of_constants formals actuals) ≤ length (own_of s.activations) → Keeps next formals actuals s
  constants_keep next [] actuals s related room = none_set next [] actuals s related refl tt
  constants_keep next (f ∷ formals) [] s related room = none_set next (f ∷ formals) [] s related refl tt
  constants_keep next (f ∷ formals) (actual.Constant c ∷ actuals) s related room =
      let v : Value = number_as f.width c in
      let t : State = with_own next v s in
      let one = local_changed frames now s related next v in
      let many : length (own_of t.activations) ≡ length (own_of s.activations) = own_length next v s in
      let rest = constants_keep (next + 1) formals actuals t one.related (omega (arith, many)) in
      record {
        to = rest.to;
        goes =
            takes g calls units next (number_of_width f.width c) v (constants_set (next + 1) formals actuals) s (omega arith)
            (value_literal g (type_of_width f.width) (pos c) s)
            ∙ rest.goes;
        only = changed_on frames now next (next + 1) s t rest.to (omega arith) one rest.only;
        kept = (rest.only.below next (omega arith) ∙ own_same next v s (omega arith), rest.kept);
      }
  constants_keep next (f ∷ formals) (actual.At o ∷ actuals) s related room =
      let rest = constants_keep next formals actuals s related room in
      record { to = rest.to; goes = rest.goes; only = rest.only; kept = rest.kept }
  constants_keep next (f ∷ formals) (actual.Missing ∷ actuals) s related room =
      let rest = constants_keep next formals actuals s related room in
      record { to = rest.to; goes = rest.goes; only = rest.only; kept = rest.kept }
