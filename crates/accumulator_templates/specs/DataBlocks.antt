-- The numbers of the open data blocks: opening, exchanging, loading them.
use Rattle.std.specs.Prelude.{ℕ, pos, List, [], ◌∷◌, ◌++◌}
use Rattle.accumulator_templates.specs.Moves.{taken_of}
use Rattle.template_parts.specs.Builders.{constant_of, convert_of, local_of, read_of, set_local_of, set_of}
use Rattle.template_parts.specs.Fetching.{fetch_of, fetched_value_of, types_fetched}
use Rattle.s7_base.specs.declared.register.Reg.{Reg}
use Rattle.s7_base.specs.declared.register.Reg.TheVariants as reg
use Rattle.s7_base.specs.declared.word.Width.TheVariants as width
use Rattle.st_tree.specs.declared.expr.StType.{StType}
use Rattle.st_tree.specs.declared.expr.StType.TheVariants as type
use Rattle.st_tree.specs.declared.program.Stmt.{Stmt}
use Rattle.stl_tree.specs.declared.program.OpenArg.{OpenArg}
use Rattle.stl_tree.specs.declared.program.OpenArg.TheVariants as arg

-- the statements of OPN, of DBNO or of DINO; the number in a word is fetched into the locals from this one on
abbrev pub block_open_of : ℕ → Reg → OpenArg → List Stmt
block_open_of first r (arg.Number n) = set_of r (constant_of type.Word (pos n)) ∷ []
block_open_of first r (arg.At o) = fetch_of first o width.Word ++ (set_of r (fetched_value_of first o width.Word) ∷ [])

-- the types of the locals of OPN
abbrev pub types_of_block_open : OpenArg → List StType
types_of_block_open (arg.Number n) = []
types_of_block_open (arg.At o) = types_fetched o width.Word

-- the statements of CDB
abbrev pub block_exchange_of : ℕ → List Stmt
block_exchange_of first =
    set_local_of first (read_of reg.DbNo) ∷ set_of reg.DbNo (read_of reg.DiNo) ∷ set_of reg.DiNo (local_of first) ∷ []

-- the types of the locals of CDB
abbrev pub types_of_block_exchange : List StType
types_of_block_exchange = type.Word ∷ []

-- the statements of L DBNO and L DINO
abbrev pub number_load_of : Reg → List Stmt
number_load_of r = taken_of (convert_of type.Word type.Dword (read_of r))
