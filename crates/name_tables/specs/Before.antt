-- The blocks of a text by kind and number, and the names of its symbols, that stand before others.
use Rattle.std.specs.Prelude.{ℕ, Bool, ◌&&◌, List, [], map, Result}
use Rattle.std.specs.List.{fold}
use Rattle.s7_base.specs.declared.reason.Reason.{Reason}
use Rattle.stl_rules.specs.DeclarationRules.{key_of, with_name}
use Rattle.stl_rules.specs.Names.{block_number, is_number, is_same_kind}
use Rattle.stl_rules.specs.Stages.{with_block_number}
use Rattle.stl_tree.specs.declared.raw.BlockKind.{BlockKind}
use Rattle.stl_tree.specs.declared.raw.BlockKind.TheVariants as block
use Rattle.stl_tree.specs.declared.raw.RawBlock.{RawBlock}
use Rattle.stl_tree.specs.declared.raw.RawData.{RawData}
use Rattle.stl_tree.specs.declared.raw.SymbolLine.{SymbolLine}

-- a data block by its kind and its number, and a block of another kind
abbrev pub number_of_db : List SymbolLine → RawData → BlockKind × Result ℕ Reason
number_of_db symbols d = (block.Db, block_number symbols block.Db d.name)

abbrev pub number_of_block : List SymbolLine → RawBlock → BlockKind × Result ℕ Reason
number_of_block symbols raw = (raw.kind, block_number symbols raw.kind raw.name)

-- some data blocks by kind and number, and some other blocks
abbrev pub db_numbers : List SymbolLine → List RawData → List (BlockKind × Result ℕ Reason)
db_numbers symbols dbs = map (number_of_db symbols) dbs

abbrev pub block_numbers : List SymbolLine → List RawBlock → List (BlockKind × Result ℕ Reason)
block_numbers symbols blocks = map (number_of_block symbols) blocks

-- a block has a kind and a number
abbrev pub is_block : BlockKind → ℕ → BlockKind × Result ℕ Reason → Bool
is_block kind n b = is_same_kind kind b.0 && is_number n b.1

-- some blocks by kind and number with one more
abbrev pub with_block : List (BlockKind × ℕ) → BlockKind × Result ℕ Reason → List (BlockKind × ℕ)
with_block before b = with_block_number b.0 before b.1

-- the kinds and numbers of those of some blocks that have a number
abbrev pub numbers_before : List (BlockKind × Result ℕ Reason) → List (BlockKind × ℕ)
numbers_before blocks = fold with_block [] blocks

-- the keys of lines of the symbol table
abbrev pub names_before : List SymbolLine → List (List ℕ)
names_before lines = fold (λ names (line : SymbolLine). with_name (key_of line.name) names) [] lines
