-- What names mean in a source. A name is that of a symbol, which has an address, or gives the number of a block. One
-- that is there twice means its first line.
-- Held against: this project's own rules.
use Rattle.std.specs.Prelude.{ℕ, Bool, true, false, ◌==◌, ◌&&◌, nat_le, if◌then◌else◌, List, Option, Some, None, option_map, Result, Ok, Err}
use Rattle.std.specs.List.{find, position}
use Rattle.s7_base.specs.Tokens.{is_same_word}
use Rattle.s7_base.specs.declared.reason.Reason.{Reason}
use Rattle.s7_base.specs.declared.reason.Reason.TheVariants.{BadOperand, UnknownName}
use Rattle.stl_tree.specs.declared.raw.BlockKind.{BlockKind}
use Rattle.stl_tree.specs.declared.raw.BlockKind.TheVariants as block
use Rattle.stl_tree.specs.declared.raw.RawBlock.{RawBlock}
use Rattle.stl_tree.specs.declared.raw.RawData.{RawData}
use Rattle.stl_tree.specs.declared.raw.RawName.{RawName}
use Rattle.stl_tree.specs.declared.raw.RawName.TheVariants as raw_name
use Rattle.stl_tree.specs.declared.raw.RawProgram.{RawProgram}
use Rattle.stl_tree.specs.declared.raw.SymbolAddress.{SymbolAddress}
use Rattle.stl_tree.specs.declared.raw.SymbolAddress.TheVariants as address
use Rattle.stl_tree.specs.declared.raw.SymbolLine.{SymbolLine}

-- Symbols

-- the address of a name in the symbol table; the case of letters says nothing
abbrev pub symbol_named : List SymbolLine → List ℕ → Option SymbolAddress
symbol_named symbols name =
    option_map (λ (line : SymbolLine). line.address) (find (λ (line : SymbolLine). is_same_word line.name name) symbols)

-- Blocks

abbrev pub is_same_kind : BlockKind → BlockKind → Bool
is_same_kind block.Ob block.Ob = true
is_same_kind block.Fc block.Fc = true
is_same_kind block.Fb block.Fb = true
is_same_kind block.Db block.Db = true
is_same_kind kind other = false

-- the number of a block of a kind by the address of its symbol
abbrev pub number_at : BlockKind → Option SymbolAddress → Result ℕ Reason
number_at kind None = Err UnknownName
number_at kind (Some (address.Block its_kind n)) = if is_same_kind kind its_kind then Ok n else Err BadOperand
number_at kind (Some elsewhere) = Err BadOperand

-- the number of a block of a kind, which may be written as a symbol
abbrev pub block_number : List SymbolLine → BlockKind → RawName → Result ℕ Reason
block_number symbols kind (raw_name.Number n) = Ok n
block_number symbols kind (raw_name.Name name) = number_at kind (symbol_named symbols name)

-- the least number that a block of a kind may have
abbrev pub least_number : BlockKind → ℕ
least_number block.Ob = 1
least_number block.Fc = 0
least_number block.Fb = 0
least_number block.Db = 1

-- a block of a kind may have a number
abbrev pub may_have : BlockKind → ℕ → Bool
may_have kind n = nat_le (least_number kind) n && nat_le n 65535

-- Data blocks

abbrev pub is_number : ℕ → Result ℕ Reason → Bool
is_number n (Ok its_number) = its_number == n
is_number n (Err reason) = false

-- the data block of a number: the first where there are several
abbrev pub db_numbered : List SymbolLine → List RawData → ℕ → Option RawData
db_numbered symbols dbs n = find (λ (d : RawData). is_number n (block_number symbols block.Db d.name)) dbs

-- Blocks of code

-- a block has a kind and a number
abbrev pub is_block : List SymbolLine → BlockKind → ℕ → RawBlock → Bool
is_block symbols kind n raw = is_same_kind kind raw.kind && is_number n (block_number symbols raw.kind raw.name)

-- the position of the block of a kind and a number, the first where there are several
abbrev pub block_position : RawProgram → BlockKind → ℕ → Option ℕ
block_position text kind n = position (is_block text.symbols kind n) text.blocks

-- the block of a kind and a number, the first where there are several
abbrev pub block_numbered : RawProgram → BlockKind → ℕ → Option RawBlock
block_numbered text kind n = find (is_block text.symbols kind n) text.blocks

-- the block of a kind and a number, if the number is known
abbrev pub block_found : RawProgram → BlockKind → Result ℕ Reason → Option RawBlock
block_found text kind (Ok n) = block_numbered text kind n
block_found text kind (Err reason) = None
