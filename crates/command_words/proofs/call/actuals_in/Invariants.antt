use Rattle.std.proofs.Common.{◌≡◌, length}
use Rattle.command_words.specs.CallWord.{pieces, actuals_in}
use Rattle.command_words.proofs.CallPieces.{before}
use Rattle.command_words.proofs.call.actuals_in.Given as goal

-- the actuals so far, before those of the rest, are those of the whole text
abbrev pub invariant-loop-actual : goal.invariant-loop-actual
invariant-loop-actual l = before l.actuals (actuals_in (pieces l.rest)) ≡ actuals_in (pieces l.text)

abbrev pub decreases-loop-actual : goal.decreases-loop-actual
decreases-loop-actual l = length l.rest
