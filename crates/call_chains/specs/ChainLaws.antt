-- Laws of cycles and chains of calls.
use Rattle.std.specs.Prelude.{◌≡◌, ℕ, ◌<◌, true, false, List, length, get_or, Contains, Option, Some}
use Rattle.call_chains.specs.Chain.{Graph, IsFirstCycle, OnCycle, chains, follow}
use Rattle.call_chains.specs.CycleLines.{cycle_lines}
use Rattle.call_chains.specs.declared.call.Call.{Call}
use Rattle.s7_base.specs.declared.reason.Line.{Line}

-- n calls one after another are followed from a unit to a unit that exists
pub record IsFollowed (graph : Graph) (n i : ℕ) : Type 0 where
  pub calls : List ℕ
  pub last : ℕ
  pub size : length calls ≡ n
  pub followed : follow graph i calls ≡ Some last
  pub there : last < length graph

-- chains of n calls begin at the units from which n calls are followed, and at no other
pub record ChainsAreFollowed : Type 0 where
  pub sound : (graph : Graph) (n i : ℕ) → get_or (chains graph n) i false ≡ true → IsFollowed graph n i
  pub complete : (graph : Graph) (n i : ℕ) → IsFollowed graph n i → get_or (chains graph n) i false ≡ true

-- calls have a first line on which one lies on a cycle, or none of them lies on one
abbrev pub EachHasFirstCycle : Type 0
EachHasFirstCycle = (graph : Graph) → (first : Option Line) × IsFirstCycle graph first

-- a call on a cycle stands on a line
pub record IsCycleLine (graph : Graph) (line : Line) : Type 0 where
  pub unit : ℕ
  pub number : ℕ
  pub call : Call
  pub cycle : OnCycle graph unit number call
  pub on_line : call.line ≡ line

-- the lines of the calls on cycles are those that are named, and no others
pub record CycleLinesAreNamed : Type 0 where
  pub sound : (graph : Graph) (line : Line) → Contains (cycle_lines graph) line → IsCycleLine graph line
  pub complete : (graph : Graph) (i k : ℕ) (c : Call) → OnCycle graph i k c → Contains (cycle_lines graph) c.line
