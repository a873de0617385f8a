-- A call from outside begins in a state that fits, and its run leads to no other.
use Rattle.st_tree.proofs.Common.{◌≡◌, ℕ, zero, suc, ◌≤◌, ◌<◌, ◌^◌, ◌==◌, Bool, true, false, cond, pos, List, [], ◌∷◌, map, replicate, slice_get, All, Contains, Option, Some, IsSome, refl, sym, ap, ◌∙◌, subst, arith, eqb-true, and_parts, position_or_len, find_at, All-cons, All-head, All-nil, All-tail, or_none, Areas, IsMemoryOf, Match, block_of, bytes_in, zero_locals, DataBlock, Place, ACTIVATIONS, Width, BlockName, Call, calls_to, EndsFit, Fits, HoldsBytes, Paired, RegistersFit, StandsFor, body_meaning, IsDataBlock, IsProperUnit, Proper, FitFormals, FitsIfThere, FitsSt, FitsUnit, all_zero, formals_given, is_meant, references, state_at_start, unit_called, type_of_register, head_of, Local, Pou, StProgram, Reference}
use Rattle.std.specs.Prelude.{find}
use Rattle.std.specs.Str.{str_eq_ignore_ascii_case}
use Rattle.std.proofs.Common.{mod-eq_of_lt}
use Rattle.memory_areas.specs.Areas.{with_areas}
use Rattle.memory_areas.specs.declared.place.Area.TheVariants as area
use Rattle.s7_base.specs.declared.register.Reg.TheVariants.{DiNo}
use Rattle.memory_areas.specs.declared.call.BlockName.TheVariants as name
use Rattle.st_tree.specs.StRun.{called_name, registers_at_start}
use Rattle.st_tree.proofs.FittingCalls.{at_position, calls_fit, is_in, register_fits, statements_keep, zero_fits, zeros_fit}
use Rattle.st_tree.proofs.FittingMemory.{AreBytes, zeros_small}

-- The unit that is called

-- a unit that is found passes the test
passes : (p : Pou → Bool) (xs : List Pou) (x : Pou) → find p xs ≡ Some x → p x ≡ true
passes p [] x e = cc
passes p (y ∷ xs) x e = by (p y) refl e (passes p xs x)
  where
    by : (b : Bool) → p y ≡ b → cond b (Some y) (find p xs) ≡ Some x → (find p xs ≡ Some x → p x ≡ true) → p x ≡ true
    by true t h rest = let same : y ≡ x = cc in subst (λ (u : Pou). p u ≡ true) same t
    by false t h rest = rest h

-- Registers

all_zero_fits : RegistersFit all_zero
all_zero_fits r = zero_fits (type_of_register r)

block_small : (n : ℕ) (bs : List DataBlock) → IsSome (block_of n bs) → All IsDataBlock bs → n ≤ 65535
block_small n [] h all = cc
block_small n (b ∷ bs) h all = by (b.number == n) refl h (λ k. block_small n bs k (All-tail IsDataBlock b bs all))
  where
    by : (t : Bool) → (b.number == n) ≡ t → IsSome (cond t (Some b) (block_of n bs))
        → (IsSome (block_of n bs) → n ≤ 65535) → n ≤ 65535
    by true e k more =
        let same : b.number ≡ n = eqb-true b.number n e in
        let small : b.number ≤ 65535 = (All-head IsDataBlock b bs all).number in
        omega arith
    by false e k more = more k

registers_fit : (tree : StProgram) (unit : Pou) (block : BlockName) (instance : ℕ) (actuals : List (Place × Width))
    → Proper tree → FitsUnit tree.dbs unit block instance actuals → RegistersFit (registers_at_start block instance)
registers_fit tree unit (name.Ob n) instance actuals proper fits = all_zero_fits
registers_fit tree unit (name.Fc n) instance actuals proper fits = all_zero_fits
registers_fit tree unit (name.Fb n) instance actuals proper fits =
    let small : instance ≤ 65535 = block_small instance tree.dbs fits.block proper.bytes in
    let below : instance < 2 ^ 16 = omega arith in
    register_fits DiNo (pos instance) all_zero (ap (λ k. pos k) (mod-eq_of_lt below)) all_zero_fits

-- Memory

local_small : (k d : ℕ) → AreBytes (or_none (slice_get (replicate k zero_locals) d))
local_small zero d = All-nil (λ b. b < 256)
local_small (suc k) zero = zeros_small
local_small (suc k) (suc d) = local_small k d

blocks_small : (n : ℕ) (bs given : List DataBlock) → Match bs given → AreBytes (or_none (bytes_in (block_of n bs)))
blocks_small n [] given h = All-nil (λ b. b < 256)
blocks_small n (b ∷ bs) [] h = absurd h
blocks_small n (b ∷ bs) (g ∷ gs) h = by (b.number == n) (blocks_small n bs gs h.2)
  where
    by : (t : Bool) → AreBytes (or_none (bytes_in (block_of n bs)))
        → AreBytes (or_none (bytes_in (cond t (Some b) (block_of n bs))))
    by true more = h.1.bytes
    by false more = more

pub memory_holds : (blocks : List DataBlock) (areas : Areas) → IsMemoryOf blocks areas → HoldsBytes (with_areas areas)
memory_holds blocks areas h area.I = h.inputs.bytes
memory_holds blocks areas h area.Q = h.outputs.bytes
memory_holds blocks areas h area.M = h.markers.bytes
memory_holds blocks areas h (area.Local d) = local_small ACTIVATIONS d
memory_holds blocks areas h (area.Cell d) = local_small ACTIVATIONS d
memory_holds blocks areas h (area.Db n) = blocks_small n areas.blocks blocks h.matching

-- Formals

abbrev AreGiven : List Local → List Reference → Type 0
AreGiven fs rs = Paired (λ (f : Local) r. StandsFor [] f.ty r) fs rs

places_given : (blocks : List DataBlock) (fs : List Local) (actuals : List (Place × Width))
    → FitFormals blocks fs actuals → AreGiven fs (references fs actuals)
places_given blocks [] actuals h = tt
places_given blocks (f ∷ fs) [] h = absurd h
places_given blocks (f ∷ fs) (a ∷ actuals) h = (refl, places_given blocks fs actuals h.1)

formals_fit : (tree : StProgram) (unit : Pou) (block : BlockName) (instance : ℕ) (actuals : List (Place × Width))
    → IsProperUnit tree.globals (map head_of tree.pous) unit → is_meant block unit ≡ true
    → FitsUnit tree.dbs unit block instance actuals
    → AreGiven unit.formals (formals_given block unit.formals actuals)
formals_fit tree unit (name.Ob n) instance actuals proper meant fits =
    let program = (and_parts (str_eq_ignore_ascii_case unit.name (called_name (name.Ob n))) unit.program meant).1 in
    rw (proper.program program) tt
formals_fit tree unit (name.Fc n) instance actuals proper meant fits =
    places_given tree.dbs unit.formals actuals fits
formals_fit tree unit (name.Fb n) instance actuals proper meant fits = rw fits.formals tt

-- States

module _ (tree : StProgram) (call : Call) (unit : Pou) (areas : Areas) (proper : Proper tree)
    (there : unit_called call.block tree.pous ≡ Some unit) (fits : FitsSt tree call)
    (memory : IsMemoryOf tree.dbs areas)
  where
    at : slice_get tree.pous (position_or_len (is_meant call.block) tree.pous) ≡ Some unit
    at = sym (find_at (is_meant call.block) tree.pous) ∙ there

    own : IsProperUnit tree.globals (map head_of tree.pous) unit
    own = at_position (IsProperUnit tree.globals (map head_of tree.pous)) tree.pous _ unit proper.units at

    fits_unit : FitsUnit tree.dbs unit call.block call.instance call.actuals
    fits_unit = subst (λ (o : Option Pou). FitsIfThere tree call o) there fits

    pub start_fits : Fits tree [] unit (state_at_start unit call areas)
    start_fits =
        record {
          units =
              All-cons (Contains tree.pous) unit [] (is_in tree.pous _ unit at)
              (All-nil (Contains tree.pous));
          registers = registers_fit tree unit call.block call.instance call.actuals proper fits_unit;
          memory = memory_holds tree.dbs areas memory;
          activations = (
            record {
              locals = zeros_fit unit.locals;
              formals = formals_fit tree unit call.block call.instance call.actuals own
                  (passes (is_meant call.block) tree.pous unit there) fits_unit;
            },
            tt,
          );
        }

    pub run_fits : (units : ℕ) → EndsFit tree [] unit
        (body_meaning tree.globals (calls_to units tree) unit.body units (state_at_start unit call areas))
    run_fits units =
        statements_keep tree [] unit (calls_to units tree) (calls_fit tree units proper) false unit.body own.typed units
        (state_at_start unit call areas) start_fits
