-- The calls on cycles, line by line. A call lies on a cycle where its unit is reached again from the one that it calls.
-- Held against: this project's own bounds.
use Rattle.std.specs.Prelude.{ℕ, zero, suc, ◌+◌, Bool, ◌||◌, ◌==◌, if◌then◌else◌, List, [], ◌∷◌, ◌++◌, length, slice_get, Option, Some, None}
use Rattle.std.specs.List.{flat_map, list_any}
use Rattle.call_chains.specs.Chain.{Graph}
use Rattle.call_chains.specs.declared.call.Call.{Call}
use Rattle.s7_base.specs.declared.reason.Line.{Line}

-- the calls of a unit, none where it does not exist
abbrev pub calls_of : Option (List Call) → List Call
calls_of None = []
calls_of (Some calls) = calls

-- a unit is reached from another by at most n calls one after another
abbrev pub is_reached : ℕ → Graph → ℕ → ℕ → Bool
is_reached zero graph to i = i == to
is_reached (suc n) graph to i =
    i == to || list_any (λ (c : Call). is_reached n graph to c.callee) (calls_of (slice_get graph i))

-- a call of a unit lies on a cycle: as many calls as there are units lead as far as any number of them
abbrev pub is_on_cycle : Graph → ℕ → Call → Bool
is_on_cycle graph unit c = is_reached (length graph) graph unit c.callee

-- the lines of the calls on cycles among those of units from one on
abbrev pub lines_from : Graph → ℕ → List (List Call) → List Line
lines_from graph i [] = []
lines_from graph i (calls ∷ units) =
    flat_map (λ (c : Call). if is_on_cycle graph i c then c.line ∷ [] else []) calls ++ lines_from graph (i + 1) units

-- the lines of all calls on cycles
abbrev pub cycle_lines : Graph → List Line
cycle_lines graph = lines_from graph 0 graph
