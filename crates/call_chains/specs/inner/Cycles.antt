-- How the first call on a cycle is found. Units may have numbers that no call makes greater; a call that
-- makes them less then lies on no cycle.
use Rattle.std.specs.Prelude.{◌≡◌, ◌⊎◌, ℕ, ◌+◌, ◌<◌, ◌≤◌, Bool, true, ◌&&◌, nat_le, if◌then◌else◌, List, [], ◌∷◌, get_or, Option, Some, None}
use Rattle.std.specs.List.{fold, list_all}
use Rattle.s7_base.specs.declared.reason.Line.{Line}
use Rattle.call_chains.specs.Chain.{Graph, OnCycle}
use Rattle.call_chains.specs.declared.call.Call.{Call}
use Rattle.call_chains.specs.declared.candidate.Candidate.{Candidate}

-- calls of a unit with a number call units with no greater one
abbrev pub fall : List ℕ → ℕ → List Call → Bool
fall numbers n calls = list_all (λ (c : Call). nat_le (get_or numbers c.callee 0) n) calls

-- the calls of all units from unit i on call units with no greater number
abbrev pub all_fall : List ℕ → ℕ → Graph → Bool
all_fall numbers i [] = true
all_fall numbers i (calls ∷ graph) = fall numbers (get_or numbers i 0) calls && all_fall numbers (i + 1) graph

-- a call of a unit may lie on a cycle: it makes no number less
abbrev pub may_return : List ℕ → ℕ → Call → Bool
may_return numbers unit c = nat_le (get_or numbers unit 0) (get_or numbers c.callee 0)

-- the candidate on the first line, of the one so far and a new one
abbrev pub or_sooner : Option Candidate → Candidate → Option Candidate
or_sooner None new = Some new
or_sooner (Some first) new = if nat_le first.call.line.0 new.call.line.0 then Some first else Some new

-- the candidate so far and one more call of a unit
abbrev pub candidate_with : List ℕ → ℕ → Option Candidate → Call → Option Candidate
candidate_with numbers unit first c =
    if may_return numbers unit c then or_sooner first (record { unit = unit; call = c }) else first

-- the candidate so far and the calls of units from unit i on
abbrev pub candidate_from : List ℕ → ℕ → Option Candidate → Graph → Option Candidate
candidate_from numbers i first [] = first
candidate_from numbers i first (calls ∷ graph) =
    candidate_from numbers (i + 1) (fold (candidate_with numbers i) first calls) graph

-- the first line after one more call is considered, which lies on a cycle where P is true
abbrev pub Considers : Type 0 → Line → Option Line → Option Line → Type 0
Considers P line None None = P → ⊥
Considers P line None (Some new) = P × (new ≡ line)
Considers P line (Some old) None = ⊥
Considers P line (Some old) (Some new) = ((new ≡ old) × (P → old.0 ≤ line.0)) ⊎ ((new ≡ line) × P × (line.0 < old.0))

-- call m of unit j comes before call k of unit i
abbrev pub Before : ℕ → ℕ → ℕ → ℕ → Type 0
Before i k j m = (j < i) ⊎ ((j ≡ i) × (m < k))

-- a line is the first on which a call before call k of unit i lies on a cycle
pub record FirstBefore (graph : Graph) (i k : ℕ) (line : Line) : Type 0 where
  pub unit : ℕ
  pub number : ℕ
  pub call : Call
  pub cycle : OnCycle graph unit number call
  pub on_line : call.line ≡ line
  pub first : (j m : ℕ) (c : Call) → Before i k j m → OnCycle graph j m c → line.0 ≤ c.line.0

-- the first line before call k of unit i, if there is one
abbrev pub IsFirstBefore : Graph → ℕ → ℕ → Option Line → Type 0
IsFirstBefore graph i k None = (j m : ℕ) (c : Call) → Before i k j m → OnCycle graph j m c → ⊥
IsFirstBefore graph i k (Some line) = FirstBefore graph i k line
