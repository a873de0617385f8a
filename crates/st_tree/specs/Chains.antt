-- The longest chains of calls. A chain is a unit, a unit that it calls, a unit that this one calls, and so on.
-- Held against: this project's own bounds.
use Rattle.std.specs.Prelude.{ℕ, zero, suc, List, map, Option, Some, None, slice_get}
use Rattle.memory_areas.specs.declared.sizes.TheConstants.{ACTIVATIONS}
use Rattle.s7_base.specs.Numbers.{greatest}
use Rattle.st_tree.specs.BodyParts.{calls_in}
use Rattle.st_tree.specs.declared.expr.Var.{Var}
use Rattle.st_tree.specs.declared.program.Pou.{Pou}
use Rattle.st_tree.specs.declared.program.StProgram.{StProgram}
use Rattle.st_tree.specs.declared.program.Stmt.{Stmt}

-- the positions of the units that a body calls
abbrev pub called_in : List Stmt → List ℕ
called_in body = map (λ (call : ℕ × List Var). call.0) (calls_in body)

-- the length of the chain of a unit and the longest chain that begins at a unit which it calls; a unit that does not
-- exist counts as more than was counted
abbrev pub unit_chain : (ℕ → ℕ) → ℕ → Option Pou → ℕ
unit_chain chain most None = suc most
unit_chain chain most (Some unit) = suc (greatest (map chain (called_in unit.body)))

-- how many units the longest chain has that begins at the unit of a position, counted up to a number
abbrev pub chain_to : ℕ → StProgram → ℕ → ℕ
chain_to zero tree n = 0
chain_to (suc most) tree n = unit_chain (chain_to most tree) most (slice_get tree.pous n)

-- the length of the longest chain that begins at a unit, where 9 means each that is longer than 8
abbrev pub chain_of : StProgram → ℕ → ℕ
chain_of tree n = chain_to (suc ACTIVATIONS) tree n
