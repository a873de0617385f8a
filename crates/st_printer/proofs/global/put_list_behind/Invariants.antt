use Rattle.st_tree.proofs.Common.{◌≡◌, ◌++◌, ◌+◌, ◌≤◌, length, list_behind}
use Rattle.st_printer.proofs.global.put_list_behind.Given as goal

-- what is written and what is still to be written are the whole list; there are no more equal bytes
-- than were passed
abbrev pub invariant-loop-rest : goal.invariant-loop-rest
invariant-loop-rest l =
    (l.out.items ++ list_behind l.count l.byte l.rest ≡ l.initial.out.items ++ list_behind 1 l.first l.bytes) × (l.count + length l.rest ≤ length l.bytes + 1)

abbrev pub decreases-loop-rest : goal.decreases-loop-rest
decreases-loop-rest l = length l.rest
