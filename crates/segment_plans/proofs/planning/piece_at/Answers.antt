use Rattle.std.proofs.Common.{rules, Some, arith}
use Rattle.std.proofs.lemmas.Grind.{common_steps}
use Rattle.segment_plans.specs.declared.planning.Piece.TheVariants as piece
use Rattle.segment_plans.proofs.Inside.{inside}
use Rattle.segment_plans.proofs.Pieces.{fits_there}
use Rattle.segment_plans.proofs.planning.piece_at.Goals as goal

pub returns-then-not-is_reached-clause-fits : goal.returns-then-not-is_reached-clause-fits
returns-then-not-is_reached-clause-fits c =
    fits_there c.args.blocks.now c.args.part c.args.at c.args.paid (Some piece.Skip) c.requires (first_of (search rules, grind (arith, common_steps)))

pub returns-then-paid-clause-fits : goal.returns-then-paid-clause-fits
returns-then-paid-clause-fits c =
    fits_there c.args.blocks.now c.args.part c.args.at c.args.paid c.piece_within.result c.requires (first_of (search rules, grind (arith, common_steps)))

pub returns-in-Some-clause-fits : goal.returns-in-Some-clause-fits
returns-in-Some-clause-fits c =
    fits_there c.args.blocks.now c.args.part c.args.at c.args.paid c.loop_if.result c.requires (first_of (search rules, grind (arith, common_steps)))

pub returns-in-None-clause-fits : goal.returns-in-None-clause-fits
returns-in-None-clause-fits c =
    fits_there c.args.blocks.now c.args.part c.args.at c.args.paid c.piece_within-in-None.result c.requires
    (first_of (search rules, grind (arith, common_steps)))

pub returns-then-paid-clause-within : goal.returns-then-paid-clause-within
returns-then-paid-clause-within c = inside c.args.blocks.now c.args.part c.args.at c.piece_within.result c.requires c.piece_within.ensures

pub returns-in-None-clause-within : goal.returns-in-None-clause-within
returns-in-None-clause-within c =
    inside c.args.blocks.now c.args.part c.args.at c.piece_within-in-None.result c.requires c.piece_within-in-None.ensures
