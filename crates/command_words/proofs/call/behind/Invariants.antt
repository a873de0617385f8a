use Rattle.std.proofs.Common.{◌≡◌, drop}
use Rattle.command_words.specs.CallWord.{behind}
use Rattle.command_words.proofs.call.behind.Given as goal

-- what stands after the letters that are left, in the rest, stands after all of them
abbrev pub invariant-loop-letter : goal.invariant-loop-letter
invariant-loop-letter l = behind (drop l.letter-index l.letters) l.rest ≡ behind l.letters l.text
