-- Cycles and long chains of calls. Which calls between units are on a cycle, and at which units chains of so many
-- calls begin.
-- Held against: IEC 61131-3, 'Program organization units', and this project's own bounds.
use Rattle.std.specs.Prelude.{◌≡◌, ℕ, zero, suc, ◌≤◌, Bool, true, false, List, [], ◌∷◌, map, length, replicate, get_or, slice_get, Option, Some, None}
use Rattle.std.specs.List.{list_any}
use Rattle.s7_base.specs.declared.reason.Line.{Line}
use Rattle.call_chains.specs.declared.call.Call.{Call}

-- the calls of each unit
abbrev pub Graph : Type 0
Graph = List (List Call)

-- Cycles

-- call k of some calls, if both exist
abbrev pub call_in : Option (List Call) → ℕ → Option Call
call_in None k = None
call_in (Some calls) k = slice_get calls k

-- call k of unit i
abbrev pub call_at : Graph → ℕ → ℕ → Option Call
call_at graph i k = call_in (slice_get graph i) k

-- the result for a call, if the call exists
abbrev pub with_call : Option Call → (Call → Option ℕ) → Option ℕ
with_call None next = None
with_call (Some c) next = next c

-- the unit that is reached from unit i by some calls, of which each has its number in its unit
abbrev pub follow : Graph → ℕ → List ℕ → Option ℕ
follow graph i [] = Some i
follow graph i (k ∷ ks) = with_call (call_at graph i k) (λ c. follow graph c.callee ks)

-- a unit is reached from another by some calls, or is the same
abbrev pub Reaches : Graph → ℕ → ℕ → Type 0
Reaches graph i j = (ks : List ℕ) × (follow graph i ks ≡ Some j)

-- call k of unit i, which is c, lies on a cycle of calls
pub record OnCycle (graph : Graph) (i k : ℕ) (c : Call) : Type 0 where
  pub is_call : call_at graph i k ≡ Some c
  pub back : Reaches graph c.callee i

-- no call lies on a cycle
abbrev pub NoCycle : Graph → Type 0
NoCycle graph = (i k : ℕ) (c : Call) → OnCycle graph i k c → ⊥

-- a line is the first on which a call lies on a cycle
pub record FirstCycle (graph : Graph) (line : Line) : Type 0 where
  pub unit : ℕ
  pub number : ℕ
  pub call : Call
  pub cycle : OnCycle graph unit number call
  pub on_line : call.line ≡ line
  pub first : (i k : ℕ) (c : Call) → OnCycle graph i k c → line.0 ≤ c.line.0

-- the first line on which a call lies on a cycle, if there is one
abbrev pub IsFirstCycle : Graph → Option Line → Type 0
IsFirstCycle graph None = NoCycle graph
IsFirstCycle graph (Some line) = FirstCycle graph line

-- Chains

-- a unit calls one of some units
abbrev pub calls_one : List Bool → List Call → Bool
calls_one some calls = list_any (λ (c : Call). get_or some c.callee false) calls

-- whether n calls one after another begin at each unit
abbrev pub chains : Graph → ℕ → List Bool
chains graph zero = replicate (length graph) true
chains graph (suc n) = map (calls_one (chains graph n)) graph
