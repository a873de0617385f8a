use Rattle.std.proofs.Common.{rules, ◌≡◌, List, [], sym, subst, ◌∙◌, arith}
use Rattle.std.proofs.lemmas.Grind.{common_steps}
use Rattle.std.specs.Prelude.{All}
use Rattle.memory_areas.specs.declared.data_block.DataBlock.{DataBlock}
use Rattle.graph_rules.specs.Plain.{Plain}
use Rattle.st_tree.specs.Proper.{IsDataBlock}
use Rattle.st_tree.specs.declared.graph.GraphPou.{GraphPou}
use Rattle.st_tree.specs.declared.graph.GraphProgram.{GraphProgram}
use Rattle.st_tree.specs.declared.program.Located.{Located}
use Rattle.stl_tree.specs.Accepted.{AreDistinct, IsAcceptedBlock}
use Rattle.stl_tree.specs.declared.program.Block.{Block}
use Rattle.instruction_lowering.specs.Lowered.{Lowered}
use Rattle.instruction_lowering.specs.UnitNames.{in_order}
use Rattle.instruction_lowering.specs.inner.Lowering.{AreFew, AreMadeOf}
use Rattle.instruction_lowering.proofs.PlainProgram.{plain_graph}
use Rattle.instruction_lowering.proofs.Same.{lowered_same}
use Rattle.instruction_lowering.proofs.units.lower.Goals as goal

-- what holds of the lowered program holds of a graph program with its parts
by_parts : (P : GraphProgram → Type 0) (dbs blocks : List DataBlock) (globals : List Located) (pous : List GraphPou)
    → dbs ≡ blocks → globals ≡ [] → P (record { dbs = blocks; globals = []; pous = pous }) → P (record { dbs = dbs; globals = globals; pous = pous })
by_parts P dbs blocks globals pous e f h =
    subst (λ x. P (record { dbs = x; globals = globals; pous = pous })) (sym e)
    (subst (λ x. P (record { dbs = blocks; globals = x; pous = pous })) (sym f) h)

pub unit_positions-requires-clause-accepted : goal.unit_positions-requires-clause-accepted
unit_positions-requires-clause-accepted c = subst (All IsAcceptedBlock) (sym c.as_slice-blocks.ensures) c.requires.blocks

pub unit_positions-requires-clause-distinct : goal.unit_positions-requires-clause-distinct
unit_positions-requires-clause-distinct c = subst AreDistinct (sym c.as_slice-blocks.ensures) c.requires.names

pub units-requires-clause-accepted : goal.units-requires-clause-accepted
units-requires-clause-accepted c = subst (All IsAcceptedBlock) (sym c.as_slice-blocks.ensures) c.requires.blocks

pub returns-clause-plain : goal.returns-clause-plain
returns-clause-plain c =
    by_parts Plain c.in_ok-dbs.dbs c.args.program.now.dbs c.new.result c.in_ok-pous.pous (c.in_ok-dbs.ensures.copies ∙ c.as_slice.ensures) c.new.ensures
    (plain_graph c.args.program.now c.requires c.in_ok-pous.pous
    (subst (λ (bs : List Block). AreMadeOf bs (in_order bs) c.in_ok-pous.pous) c.as_slice-blocks.ensures c.in_ok-pous.ensures.units)
    (subst (All IsDataBlock) c.as_slice.ensures c.in_ok-dbs.ensures.bytes)
    (subst (λ (bs : List Block). AreFew bs (in_order bs)) c.as_slice-blocks.ensures c.in_ok-pous.ensures.few))

pub returns-clause-same : goal.returns-clause-same
returns-clause-same c =
    by_parts (Lowered c.args.program.now) c.in_ok-dbs.dbs c.args.program.now.dbs c.new.result c.in_ok-pous.pous
    (c.in_ok-dbs.ensures.copies ∙ c.as_slice.ensures) c.new.ensures
    (lowered_same c.args.program.now c.requires c.in_ok-pous.pous
    (subst (λ (bs : List Block). AreMadeOf bs (in_order bs) c.in_ok-pous.pous) c.as_slice-blocks.ensures c.in_ok-pous.ensures.units))
