-- Data blocks that a graph may have.
use Rattle.std.proofs.Common.{List, [], ◌∷◌, ◌++◌}
use Rattle.std.specs.Prelude.{All}
use Rattle.std.proofs.lemmas.List.Elements.{All-append, All-cons, All-nil}
use Rattle.memory_areas.specs.declared.data_block.DataBlock.{DataBlock}
use Rattle.st_tree.specs.Proper.{IsDataBlock}

-- some, and one more of them
pub one_more : (bs : List DataBlock) (b : DataBlock) → All IsDataBlock bs → IsDataBlock b → All IsDataBlock (bs ++ (b ∷ []))
one_more bs b all h = All-append IsDataBlock bs (b ∷ []) all (All-cons IsDataBlock b [] h (All-nil IsDataBlock))
