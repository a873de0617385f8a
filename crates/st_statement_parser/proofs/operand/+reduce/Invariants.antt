use Rattle.std.proofs.Common.{length}
use Rattle.st_statement_parser.proofs.operand.+reduce.Given as goal

abbrev pub decreases-reduce : goal.decreases-reduce
decreases-reduce l = length l.at.now.frames
