-- The trees that texts can have. These are the rules of the language, on the tree itself. What is asked of a unit
-- names that unit, the globals and the heads of the others alone.
-- Held against: IEC 61131-3, 'Program organization units', and this project's own bounds.
use Rattle.std.specs.Prelude.{◌≡◌, ◌≢◌, ℕ, ◌≤◌, ◌<◌, true, false, ◌++◌, List, [], map, All, Some, slice_get}
use Rattle.memory_areas.specs.Areas.{AreBlocks}
use Rattle.memory_areas.specs.declared.data_block.DataBlock.{DataBlock}
use Rattle.memory_areas.specs.declared.sizes.TheConstants.{ACTIVATIONS}
use Rattle.st_tree.specs.Chains.{chain_of}
use Rattle.st_tree.specs.Depth.{deepest}
use Rattle.st_tree.specs.Naming.{are_apart, is_free, is_name, key_of, may_name_local, may_name_unit}
use Rattle.st_tree.specs.Nesting.{body_nesting}
use Rattle.st_tree.specs.PlaceRules.{is_located}
use Rattle.st_tree.specs.Values.{width_at}
use Rattle.st_tree.specs.WellTyped.{Head, are_well_typed, head_of, keys_of, unit_scope_of}
use Rattle.st_tree.specs.declared.expr.StType.TheVariants as type
use Rattle.st_tree.specs.declared.program.Local.{Local}
use Rattle.st_tree.specs.declared.program.Located.{Located}
use Rattle.st_tree.specs.declared.program.Pou.{Pou}
use Rattle.st_tree.specs.declared.program.StProgram.{StProgram}

-- a data block has a number of 16 bits, and its items are bytes
pub record IsDataBlock (block : DataBlock) : Type 0 where
  pub number : block.number ≤ 65535
  pub bytes : All (λ b. b < 256) block.bytes

-- a global has a free name, which is that of no register, data block or numbered unit, and a place of its type's
-- width on I, Q or M; a LINT has no place
pub record IsGlobal (global : Located) : Type 0 where
  pub name : is_name global.name ≡ true
  pub free : is_free global.name ≡ true
  pub type : global.ty ≢ type.Lint
  pub place : is_located global.place.area (width_at global.ty) global.place.byte global.place.bit ≡ true

-- a formal has a free name and another type than LINT
pub record IsFormal (formal : Local) : Type 0 where
  pub name : is_name formal.name ≡ true
  pub free : is_free formal.name ≡ true
  pub type : formal.ty ≢ type.Lint

-- a local has a free name, or is `NEXT`
pub record IsLocal (local : Local) : Type 0 where
  pub name : is_name local.name ≡ true
  pub free : may_name_local local.name ≡ true

-- a unit among some globals and heads: its name is one for a unit; only functions have formals; no two of its
-- formals and locals have one name; its statements are well typed and nest no deeper than they may
pub record IsProperUnit (globals : List Located) (heads : List Head) (unit : Pou) : Type 0 where
  pub name : is_name unit.name ≡ true
  pub free : may_name_unit unit.name ≡ true
  pub program : unit.program ≡ true → unit.formals ≡ []
  pub formals : All IsFormal unit.formals
  pub locals : All IsLocal unit.locals
  pub apart : are_apart (keys_of unit.formals ++ keys_of unit.locals) ≡ true
  pub typed : are_well_typed (unit_scope_of globals heads unit) false unit.body ≡ true
  pub nesting : body_nesting unit.body ≤ deepest

-- the keys of what is declared outside the units, but for data blocks, whose names nothing else has
abbrev pub outer_keys : StProgram → List (List ℕ)
outer_keys tree =
    map (λ (g : Located). key_of g.name) tree.globals ++ map (λ (u : Pou). key_of u.name) tree.pous

-- a tree that a text can have: a memory may have its data blocks; no two globals or units have one name; there
-- is a unit, each is proper, and no chain of calls has more units than may run at a time, so that none calls
-- itself
pub record Proper (tree : StProgram) : Type 0 where
  pub blocks : AreBlocks tree.dbs
  pub bytes : All IsDataBlock tree.dbs
  pub globals : All IsGlobal tree.globals
  pub apart : are_apart (outer_keys tree) ≡ true
  pub some : tree.pous ≢ []
  pub units : All (IsProperUnit tree.globals (map head_of tree.pous)) tree.pous
  pub chains : (n : ℕ) (unit : Pou) → slice_get tree.pous n ≡ Some unit → chain_of tree n ≤ ACTIVATIONS
