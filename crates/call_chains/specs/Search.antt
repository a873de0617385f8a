-- A search for the units that are reached from one.
use Rattle.std.specs.Prelude.{◌≡◌, ◌⊎◌, ℕ, suc, ◌<◌, ◌≤◌, Bool, true, false, ◌||◌, ◌==◌, if◌then◌else◌, List, [], ◌∷◌, ◌++◌, length, get_or, slice_set, Some, Contains}
use Rattle.call_chains.specs.Chain.{Graph, Reaches, call_at}
use Rattle.call_chains.specs.declared.call.Call.{Call}

-- a truth value says whether something is true
abbrev pub Decides : Type 0 → Bool → Type 0
Decides P true = P
Decides P false = P → ⊥

-- a unit is seen: the one where the search begins, one with a mark, or one that does not exist
abbrev pub has : ℕ → List Bool → ℕ → Bool
has from seen i = i == from || get_or seen i true

-- the marks after one more unit is met
abbrev pub marks_after : ℕ → ℕ → List Bool → List Bool
marks_after from i seen = if has from seen i then seen else slice_set seen i true

-- how many units have no mark
abbrev pub count_unmarked : List Bool → ℕ
count_unmarked [] = 0
count_unmarked (true ∷ seen) = count_unmarked seen
count_unmarked (false ∷ seen) = suc (count_unmarked seen)

-- the units that wait after one more unit is met; one that is seen already does not wait again
abbrev pub work_after : ℕ → ℕ → List Bool → List ℕ → List ℕ
work_after from i seen work = if has from seen i then work else work ++ i ∷ []

-- all of some units are reached
abbrev pub AllReached : Graph → ℕ → List ℕ → Type 0
AllReached graph from [] = Unit {0}
AllReached graph from (j ∷ js) = Reaches graph from j × AllReached graph from js

-- the units with a mark, and those that wait, are reached from the one where the search begins
pub record IsSound (graph : Graph) (from : ℕ) (seen : List Bool) (work : List ℕ) : Type 0 where
  pub size : length seen ≡ length graph
  pub marked : (i : ℕ) → i < length seen → get_or seen i true ≡ true → Reaches graph from i
  pub waiting : AllReached graph from work

-- the unit that call k of unit i leads to is seen, or unit i waits, or the call is one of `unit` from call n on
abbrev pub Followed : ℕ → List Bool → List ℕ → ℕ → ℕ → ℕ → ℕ → Call → Type 0
Followed from seen work unit n i k c = ((i ≡ unit) × (n ≤ k)) ⊎ (Contains work i ⊎ (has from seen c.callee ≡ true))

-- what the calls of seen units lead to is seen, but for units that wait, and for one unit's calls from call n on
abbrev pub AreFollowed : Graph → ℕ → List Bool → List ℕ → ℕ → ℕ → Type 0
AreFollowed graph from seen work unit n = (i k : ℕ) (c : Call) → call_at graph i k ≡ Some c → has from seen i ≡ true
    → Followed from seen work unit n i k c

-- what the calls of seen units lead to is seen, but for units that wait
abbrev pub IsClosedButFor : Graph → ℕ → List Bool → List ℕ → Type 0
IsClosedButFor graph from seen work = (i k : ℕ) (c : Call) → call_at graph i k ≡ Some c → has from seen i ≡ true
    → Contains work i ⊎ (has from seen c.callee ≡ true)

-- what the calls of seen units lead to is seen
abbrev pub IsClosed : Graph → ℕ → List Bool → Type 0
IsClosed graph from seen = (i k : ℕ) (c : Call) → call_at graph i k ≡ Some c → has from seen i ≡ true
    → has from seen c.callee ≡ true
