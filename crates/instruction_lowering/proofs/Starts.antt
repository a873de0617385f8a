-- Calls from outside: one that fits a program fits its graph program, and both begin in related states.
use Rattle.std.proofs.Common.{◌≡◌, ℕ, zero, suc, ◌+◌, ◌^◌, ◌<◌, ◌≤◌, ◌==◌, Bool, true, false, cond, if◌then◌else◌, List, [], ◌∷◌, ◌++◌, map, length, Option, Some, None, refl, sym, ap, ◌∙◌, subst, arith}
use Rattle.std.specs.Prelude.{All, IsSome, find, option_map, slice_get}
use Rattle.std.proofs.lemmas.List.Elements.{All-contains, All-head, All-tail}
use Rattle.instruction_laws.specs.Ranges.{AreInRange}
use Rattle.instruction_lowering.proofs.DistinctBlocks.{found_in_order, same_as_itself, same_name_is}
use Rattle.instruction_lowering.proofs.FormalNames.{types_of_formals}
use Rattle.instruction_lowering.proofs.Names.{IsAt, IsNumbered, block_at as position_at, block_of, found_each, found_named, found_numbered, found_of, meant, position_of}
use Rattle.instruction_lowering.proofs.PlainProgram.{differ}
use Rattle.instruction_lowering.proofs.UnitOrder.{Ascend, follow_at}
use Rattle.instruction_lowering.specs.UnitNames.{formals_from, in_order, name_of_formal, order_of, unit_formals}
use Rattle.instruction_lowering.specs.inner.Lowering.{AreMadeOf, graph_program_with, head_for}
use Rattle.memory_areas.proofs.SameFaults.{blocks_at_start}
use Rattle.memory_areas.specs.Access.{aim_of_place, fault_of}
use Rattle.memory_areas.specs.Areas.{Areas, IsMemoryOf, block_of as data_block_of, fresh, with_areas}
use Rattle.memory_areas.specs.OutsideActuals.{FitWidths, IsOutsidePlace}
use Rattle.memory_areas.specs.declared.call.BlockName.{BlockName}
use Rattle.memory_areas.specs.declared.call.BlockName.TheVariants as name
use Rattle.memory_areas.specs.declared.call.Call.{Call}
use Rattle.memory_areas.specs.declared.data_block.DataBlock.{DataBlock}
use Rattle.memory_areas.specs.declared.place.Area.{Area}
use Rattle.memory_areas.specs.declared.place.Area.TheVariants as area
use Rattle.memory_areas.specs.declared.place.Place.{Place}
use Rattle.s7_base.specs.declared.register.Reg.TheVariants as reg
use Rattle.s7_base.specs.declared.word.Width.{Width}
use Rattle.s7_base.specs.declared.word.Width.TheVariants as width
use Rattle.st_tree.specs.Naming.{key_of}
use Rattle.st_tree.specs.GraphRun.{FitsGraph, heads_of}
use Rattle.st_tree.specs.StRun.{FitFormals, FitsIfThere as FitsHead, FitsUnit, formals_given, is_meant, references, registers_at_start, unit_called as head_called}
use Rattle.st_tree.specs.Values.{type_of_width, width_at}
use Rattle.st_tree.specs.declared.graph.GraphPou.{GraphPou}
use Rattle.st_tree.specs.declared.program.Local.{Local}
use Rattle.st_tree.specs.declared.program.Pou.{Pou}
use Rattle.st_tree.specs.declared.program.StProgram.{StProgram}
use Rattle.st_tree.specs.declared.state.Reference.{Reference}
use Rattle.stl_tree.specs.Accepted.{IsAccepted, IsAcceptedBlock, IsInstanceOf, Widths, widths_named}
use Rattle.stl_tree.specs.Now.{Activation}
use Rattle.stl_tree.specs.Registers.{start}
use Rattle.stl_tree.specs.StlRun.{Fits, FitsBlock, FitsIfThere, HasNoInstance, IsInstance, block_at, block_named, instance_called, is_same_name, places_given, widths_of}
use Rattle.stl_tree.specs.declared.program.Block.{Block}
use Rattle.stl_tree.specs.declared.program.Formal.{Formal}
use Rattle.stl_tree.specs.declared.program.Instance.{Instance}
use Rattle.stl_tree.specs.declared.program.Program.{Program}
use Rattle.template_parts.specs.Related.{AreAlike, AreFormals, IsReached, formals_of_block}

-- Formals

-- a type of a width has this width
same_width : (w : Width) → width_at (type_of_width w) ≡ w
same_width width.Bit = refl
same_width width.Byte = refl
same_width width.Word = refl
same_width width.Dword = refl

same_widths : (widths : List Width) → map width_at (map type_of_width widths) ≡ widths
same_widths [] = refl
same_widths (w ∷ widths) = rw (same_width w, same_widths widths) refl

by_types : (formals : List Local) → map (λ (f : Local). width_at f.ty) formals ≡ map width_at (map (λ (f : Local). f.ty) formals)
by_types [] = refl
by_types (f ∷ formals) = ap (λ (ws : List Width). width_at f.ty ∷ ws) (by_types formals)

-- the formals of a function's unit have the widths of those of its block
unit_widths : (fs : List Formal) → map (λ (f : Local). width_at f.ty) (formals_from [] 0 fs) ≡ map (λ (f : Formal). f.width) fs
unit_widths fs =
    by_types (formals_from [] 0 fs) ∙ ap (map width_at) (types_of_formals [] 0 fs) ∙ same_widths (map (λ (f : Formal). f.width) fs)

-- Which block is called

-- the block that a call finds
pub record IsCalled (program : Program) (call : Call) : Type 0 where
  pub i : ℕ
  pub named : block_named call.block program.blocks ≡ Some i
  pub block : Block
  pub there : slice_get program.blocks i ≡ Some block
  pub found : block_of call.block program.blocks ≡ Some block
  pub name : block.name ≡ call.block
  pub fits : FitsBlock program block call.block call.instance call.actuals

pub called_of : (program : Program) (call : Call) → Fits program call → IsCalled program call
called_of program call fits = by (block_named call.block program.blocks) refl fits
  where
    by : (o : Option ℕ) → block_named call.block program.blocks ≡ o → FitsIfThere program call (block_at program.blocks o) → IsCalled program call
    by None e fits = elim fits [ ]
    by (Some i) e fits =
        let at = position_at call.block program.blocks i e in
        record {
          i = i;
          named = e;
          block = at.block;
          there = at.there;
          found = at.found;
          name = same_name_is at.block.name call.block (found_named call.block program.blocks at.block at.found);
          fits = subst (FitsIfThere program call) at.there fits;
        }

-- a head is found as its unit is
find_in_map : (called : BlockName) (units : List GraphPou)
    → head_called called (map (λ (u : GraphPou). u.head) units) ≡ option_map (λ (u : GraphPou). u.head) (find (λ (u : GraphPou). is_meant called u.head) units)
find_in_map called [] = refl
find_in_map called (u ∷ units) = by (is_meant called u.head) (find_in_map called units)
  where
    by : (t : Bool)
        → head_called called (map (λ (u : GraphPou). u.head) units)
        ≡ option_map (λ (u : GraphPou). u.head) (find (λ (u : GraphPou). is_meant called u.head) units)
        → cond t (Some u.head) (head_called called (map (λ (u : GraphPou). u.head) units))
        ≡ option_map (λ (u : GraphPou). u.head) (cond t (Some u) (find (λ (u : GraphPou). is_meant called u.head) units))
    by true others = refl
    by false others = others

-- a unit is found where the unit of the block stands
pub unit_found : (program : List Block) (called : BlockName) → IsNumbered called → (blocks : List Block) (units : List GraphPou)
    → AreMadeOf program blocks units → All IsAcceptedBlock blocks → Ascend blocks → (j : ℕ) (b : Block) → slice_get blocks j ≡ Some b → b.name ≡ called
    → find (λ (u : GraphPou). is_meant called u.head) units ≡ slice_get units j
unit_found program called h [] units made formed ascend j b e f = cc
unit_found program called h (x ∷ blocks) [] made formed ascend j b e f = elim made [ ]
unit_found program called h (x ∷ blocks) (u ∷ units) made formed ascend zero b e f =
    let same : x ≡ b = cc in
    let name : x.name ≡ called = ap (λ (y : Block). y.name) same ∙ f in
    ap (λ (t : Bool). cond t (Some u) (find (λ (u : GraphPou). is_meant called u.head) units))
    (ap (λ (v : GraphPou). is_meant called v.head) made.0.unit ∙ meant program called h x (All-head IsAcceptedBlock x blocks formed)
    ∙ ap (λ (n : BlockName). is_same_name n called) name ∙ same_as_itself called)
unit_found program called h (x ∷ blocks) (u ∷ units) made formed ascend (suc j) b e f =
    let less : order_of x.name < order_of b.name = follow_at (order_of x.name) blocks j b ascend.0 e in
    ap (λ (t : Bool). cond t (Some u) (find (λ (u : GraphPou). is_meant called u.head) units))
    (ap (λ (v : GraphPou). is_meant called v.head) made.0.unit ∙ meant program called h x (All-head IsAcceptedBlock x blocks formed)
    ∙ no_other x.name b.name called less f)
    ∙ unit_found program called h blocks units made.1 (All-tail IsAcceptedBlock x blocks formed) ascend.1 j b e f
  where
    no_other : (m n called : BlockName) → order_of m < order_of n → n ≡ called → is_same_name m called ≡ false
    no_other m n called less same = by (is_same_name m called) refl
      where
        by : (t : Bool) → is_same_name m called ≡ t → t ≡ false
        by false g = refl
        by true g =
            let equal : order_of m ≡ order_of n = ap order_of (same_name_is m called g ∙ sym same) in absurd (omega arith)

-- Calls that fit

module _ (program : Program) (accepted : IsAccepted program) (units : List GraphPou) (made : AreMadeOf program.blocks (in_order program.blocks) units) where
  -- the heads of the units are those of the blocks
  heads_made : (blocks : List Block) (us : List GraphPou) → AreMadeOf program.blocks blocks us
      → map (λ (u : GraphPou). u.head) us ≡ map (head_for program.blocks) blocks
  heads_made [] [] made = refl
  heads_made [] (u ∷ us) made = elim made [ ]
  heads_made (b ∷ bs) [] made = elim made [ ]
  heads_made (b ∷ bs) (u ∷ us) made =
      ap (λ (u : GraphPou). u.head ∷ map (λ (u : GraphPou). u.head) us) made.0.unit
      ∙ ap (λ (hs : List Pou). head_for program.blocks b ∷ hs) (heads_made bs us made.1)

  -- they are found as blocks are
  heads_found : (called : BlockName) → IsNumbered called → All IsAcceptedBlock (in_order program.blocks)
      → head_called called (map (λ (u : GraphPou). u.head) units) ≡ option_map (head_for program.blocks) (block_of called program.blocks)
  heads_found called h formed =
      ap (head_called called) (heads_made (in_order program.blocks) units made)
      ∙ found_of Pou (head_for program.blocks) (is_meant called) called (meant program.blocks called h) (in_order program.blocks) formed
      ∙ ap (option_map (head_for program.blocks)) (found_in_order called program.blocks (differ program accepted units made))

  abbrev text : StProgram
  text = heads_of (graph_program_with program units)

  -- its actuals fit the unit where they fit the block
  fits_head : (b : Block) (called : BlockName) (instance : ℕ) (actuals : List (Place × Width)) → b.name ≡ called
      → FitsBlock program b called instance actuals → FitsUnit program.dbs (head_for program.blocks b) called instance actuals
  fits_head b (name.Ob n) instance actuals e fits = tt
  fits_head b (name.Fc n) instance actuals e fits =
      subst (λ (m : BlockName). FitWidths program.dbs (map (λ (f : Local). width_at f.ty) (unit_formals m b.formals)) actuals) (sym e)
      (subst (λ (ws : List Width). FitWidths program.dbs ws actuals) (sym (unit_widths b.formals)) fits)
  fits_head b (name.Fb n) instance actuals e fits =
      let of : IsInstanceOf program (record { db = instance; fb = n }) =
      All-contains (IsInstanceOf program) program.instances (record { db = instance; fb = n }) accepted.instances fits in
      record { formals = ap (λ (m : BlockName). unit_formals m b.formals) e; block = of.db }

  pub fits_graph : (call : Call) → All IsAcceptedBlock (in_order program.blocks) → IsCalled program call → FitsGraph (graph_program_with program units) call
  fits_graph call formed called =
      let numbered : IsNumbered call.block = found_numbered call.block program.blocks called.block called.found accepted.blocks in
      subst (FitsHead text call)
      (sym (heads_found call.block numbered formed ∙ ap (option_map (head_for program.blocks)) called.found))
      (fits_head called.block call.block call.instance call.actuals called.name called.fits)

  fits_block : (b : Block) (called : BlockName) (instance : ℕ) (actuals : List (Place × Width)) → HasNoInstance called → b.name ≡ called
      → FitsUnit program.dbs (head_for program.blocks b) called instance actuals → FitsBlock program b called instance actuals
  fits_block b (name.Ob n) instance actuals small e fits = tt
  fits_block b (name.Fc n) instance actuals small e fits =
      subst (λ (ws : List Width). FitWidths program.dbs ws actuals) (unit_widths b.formals)
      (subst (λ (m : BlockName). FitWidths program.dbs (map (λ (f : Local). width_at f.ty) (unit_formals m b.formals)) actuals) e fits)
  fits_block b (name.Fb n) instance actuals none e fits = absurd none

  small_number : (called : BlockName) → HasNoInstance called → IsNumbered called
  small_number (name.Ob n) h = h
  small_number (name.Fc n) h = h
  small_number (name.Fb n) h = absurd h

  -- a call of a graph program is one of the block that its unit was made of
  pub fits_program : (call : Call) → All IsAcceptedBlock (in_order program.blocks) → HasNoInstance call.block
      → FitsGraph (graph_program_with program units) call → Fits program call
  fits_program call formed small fits =
      by (block_of call.block program.blocks) refl (subst (FitsHead text call) (heads_found call.block (small_number call.block small) formed) fits)
    where
      at_block : (b : Block) → block_of call.block program.blocks ≡ Some b
          → FitsUnit program.dbs (head_for program.blocks b) call.block call.instance call.actuals
          → (o : Option ℕ) → block_named call.block program.blocks ≡ o → IsSome o → FitsIfThere program call (block_at program.blocks o)
      at_block b e fits None f some = cc
      at_block b e fits (Some i) f some =
          let at = position_at call.block program.blocks i f in
          let same : at.block ≡ b = same_blocks at.block b (sym at.found ∙ e) in
          subst (FitsIfThere program call) (sym (at.there ∙ ap Some same))
          (fits_block b call.block call.instance call.actuals small
          (same_name_is b.name call.block (found_named call.block program.blocks b e)) fits)
        where
          same_blocks : (x y : Block) → Some x ≡ Some y → x ≡ y
          same_blocks x y e = cc

      by : (o : Option Block) → block_of call.block program.blocks ≡ o → FitsHead text call (option_map (head_for program.blocks) o) → Fits program call
      by None e fits = absurd fits
      by (Some b) e fits =
          at_block b e fits (block_named call.block program.blocks) refl (position_of call.block program.blocks (rw e refl))

-- The start

-- both begin with the same registers
pub start_alike : (called : BlockName) (instance : ℕ) → AreAlike (record start { di = instance_called called instance }) (registers_at_start called instance)
start_alike (name.Ob n) instance = zeros
  where
    zeros : AreAlike (record start { di = 0 }) (registers_at_start (name.Ob n) instance)
    zeros reg.Sta asked = elim asked [ ]
    zeros q asked = refl
start_alike (name.Fc n) instance = zeros
  where
    zeros : AreAlike (record start { di = 0 }) (registers_at_start (name.Fc n) instance)
    zeros reg.Sta asked = elim asked [ ]
    zeros q asked = refl
start_alike (name.Fb n) instance = zeros
  where
    zeros : AreAlike (record start { di = instance }) (registers_at_start (name.Fb n) instance)
    zeros reg.Sta asked = elim asked [ ]
    zeros q asked = refl

-- the instance of a function block has a number of 16 bits
small_instance : (program : Program) → IsAccepted program → (b : Block) (called : BlockName) (instance : ℕ) (actuals : List (Place × Width))
    → FitsBlock program b called instance actuals → instance_called called instance < 2 ^ 16
small_instance program accepted b (name.Ob n) instance actuals fits = omega arith
small_instance program accepted b (name.Fc n) instance actuals fits = omega arith
small_instance program accepted b (name.Fb n) instance actuals fits =
    let of : IsInstanceOf program (record { db = instance; fb = n }) =
    All-contains (IsInstanceOf program) program.instances (record { db = instance; fb = n }) accepted.instances fits in
    let high : instance ≤ 65535 = of.number.1 in
    omega arith

pub start_range : (program : Program) → IsAccepted program → (b : Block) (called : BlockName) (instance : ℕ) (actuals : List (Place × Width))
    → FitsBlock program b called instance actuals → AreInRange (record start { di = instance_called called instance })
start_range program accepted b called instance actuals fits =
    record {
      accu1 = omega arith;
      accu2 = omega arith;
      ar1 = omega arith;
      ar2 = omega arith;
      db = omega arith;
      di = small_instance program accepted b called instance actuals fits;
    }

outside_reached : (a : Area) → IsOutsidePlace a → IsReached 0 a
outside_reached area.I h = tt
outside_reached area.Q h = tt
outside_reached area.M h = tt
outside_reached (area.Db n) h = tt
outside_reached (area.Local d) h = absurd h
outside_reached (area.Cell d) h = absurd h

-- the actuals of a function are what its formals stand for
given_alike : (dbs : List DataBlock) (earlier : List (List ℕ)) (k : ℕ) (fs : List Formal) (actuals : List (Place × Width))
    → FitWidths dbs (map (λ (f : Formal). f.width) fs) actuals
    → AreFormals [] dbs (map (λ (f : Formal). f.width) fs)
    (map (λ (actual : Place × Width). Some actual.0) actuals) (references (formals_from earlier k fs) actuals)
given_alike dbs earlier k [] [] fits = tt
given_alike dbs earlier k [] (a ∷ actuals) fits = elim fits [ ]
given_alike dbs earlier k (f ∷ fs) [] fits = elim fits [ ]
given_alike dbs earlier k (f ∷ fs) (a ∷ actuals) fits =
    let one = fits.0 in (
      (
        refl,
        refl,
        record {
          reached = outside_reached a.0.area one.outside;
          lies = ap (λ (w : Width). fault_of (aim_of_place a.0) w (fresh dbs)) (sym one.width) ∙ one.lies;
        },
      ),
      given_alike dbs (earlier ++ key_of (name_of_formal earlier k f.name) ∷ []) (k + 1) fs actuals fits.1,
    )

-- the formals of the block and of its unit stand for the same
pub start_formals : (program : Program) (b : Block) (called : BlockName) (instance : ℕ) (actuals : List (Place × Width)) (i : ℕ) → b.name ≡ called
    → FitsBlock program b called instance actuals
    → AreFormals [] program.dbs (widths_named b.name b.formals)
    (formals_of_block (record {
      block = i;
      at = 0;
      instance = instance_called called instance;
      db = 0;
      di = 0;
      formals = places_given called actuals;
    } ∷ []))
    (formals_given called (unit_formals b.name b.formals) actuals)
start_formals program b (name.Ob n) instance actuals i e fits =
    subst (λ (m : BlockName). AreFormals [] program.dbs (widths_named m b.formals) [] []) (sym e) tt
start_formals program b (name.Fc n) instance actuals i e fits =
    subst (λ (m : BlockName). AreFormals [] program.dbs (widths_named m b.formals) (map (λ (actual : Place × Width). Some actual.0) actuals)
    (references (unit_formals m b.formals) actuals)) (sym e) (given_alike program.dbs [] 0 b.formals actuals fits)
start_formals program b (name.Fb n) instance actuals i e fits =
    subst (λ (m : BlockName). AreFormals [] program.dbs (widths_named m b.formals) (if instance == 0 then [] else []) []) (sym e)
    (by (instance == 0))
  where
    by : (t : Bool) → AreFormals [] program.dbs [] (if t then [] else []) []
    by true = tt
    by false = tt
