-- A block that follows the last one.
use Rattle.std.specs.Prelude.{Option}
use Rattle.stl_grammar.specs.RawPrograms.{blocks_in, dbs_in}
use Rattle.stl_grammar.specs.declared.item.Reading.{Reading}
use Rattle.stl_tree.specs.declared.raw.RawBlock.{RawBlock}
use Rattle.stl_tree.specs.declared.raw.RawData.{RawData}

-- the text so far, whose last block has ended, and this one follows
abbrev pub with_last : Option RawBlock → Reading → Reading
with_last next reading = record reading { done = blocks_in reading; last = next }

-- the text so far, whose last data block has ended, and this one follows
abbrev pub with_last_db : Option RawData → Reading → Reading
with_last_db next reading = record reading { dbs = dbs_in reading; last_db = next }
