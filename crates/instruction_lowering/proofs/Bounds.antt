-- All that is said of steps, nodes, passes and units. In one direction the program has ended within n steps, in the
-- other the graph has, within so many units, each of which pays for as many steps as the largest block has.
use Rattle.std.proofs.Common.{ℕ, suc, ◌+◌, ◌-◌, ◌*◌, ◌≤◌, arith}
use Rattle.std.proofs.Math.Nat.{le-mul_of_pos_right, suc-mul}

-- from a program's end to a graph's, and back
pub data Side : Type 0 where
  forth : Side
  back : Side

-- a node of a block begins, whose unit of work is taken: how many steps n there are, how many units are left, how
-- many nodes may follow, the position in the block, and what callers are owed behind it
abbrev pub Begun : Side → ℕ → ℕ → ℕ → ℕ → ℕ → ℕ → Type 0
Begun forth size n units most at debt = (n ≤ suc units) × (n ≤ most)
Begun back size n units most at debt = units * size + size + debt ≤ n + at

-- a step of it has been taken
abbrev pub Within : Side → ℕ → ℕ → ℕ → ℕ → ℕ → ℕ → Type 0
Within forth size n units most at debt = (n ≤ units) × (n ≤ most)
Within back size n units most at debt = units * size + size + debt ≤ n + at

-- the block has ended
abbrev pub Behind : Side → ℕ → ℕ → ℕ → ℕ → Type 0
Behind forth size n units debt = n ≤ units
Behind back size n units debt = units * size + debt ≤ n

-- the first step of a node, which needs a node
pub first_step : (side : Side) (size n units most at debt : ℕ) → Begun side size (suc n) units (suc most) at debt → Within side size n units most (at + 1) debt
first_step forth size n units most at debt h = let a = h.0 in let b = h.1 in (omega arith, omega arith)
first_step back size n units most at debt h = omega arith

-- a further one
pub next_step : (side : Side) (size n units most at debt : ℕ) → Within side size (suc n) units most at debt → Within side size n units most (at + 1) debt
next_step forth size n units most at debt h = let a = h.0 in let b = h.1 in (omega arith, omega arith)
next_step back size n units most at debt h = omega arith

-- the one with which the block ends
pub last_step : (side : Side) (size n units most at debt : ℕ) → at + 1 ≤ size → Within side size n units most (at + 1) debt → Behind side size n units debt
last_step forth size n units most at debt within h = h.0
last_step back size n units most at debt within h = omega arith

-- the first node of a called block begins, whose unit of work is taken; its caller is owed what it has left behind the
-- call, at most as many steps as the largest block has
abbrev pub owed : ℕ → ℕ → ℕ → ℕ
owed size at debt = (size - at) + debt

pub called_step : (side : Side) (size n units most at debt : ℕ) → at ≤ size → Within side size n (suc units) most at debt
    → Begun side size n units most 0 (owed size at debt)
called_step forth size n units most at debt small within = let a = within.0 in let b = within.1 in (omega arith, omega arith)
called_step back size n units most at debt small within = omega (arith, suc-mul units size)

-- the called block has ended, and its caller goes on
pub returned_step : (side : Side) (size n j units others most at debt : ℕ) → at ≤ size → j ≤ n → Within side size n others most at debt
    → Behind side size j units (owed size at debt) → Within side size j units most at debt
returned_step forth size n j units others most at debt small less within behind = let b = within.1 in (behind, omega arith)
returned_step back size n j units others most at debt small less within behind = omega arith

-- the same steps from further on in the block
pub far_step : (side : Side) (size n units most at to debt : ℕ) → at ≤ to → Within side size n units most at debt → Within side size n units most to debt
far_step forth size n units most at to debt further within = within
far_step back size n units most at to debt further within = omega arith

-- a way to a node that is counted takes a unit of work; one that is not leads on
pub counted_way : (side : Side) (size n units most at to debt : ℕ) → at ≤ size → Within side size n (suc units) most at debt
    → Begun side size n units most to debt
counted_way forth size n units most at to debt small within = let a = within.0 in let b = within.1 in (omega arith, omega arith)
counted_way back size n units most at to debt small within = omega (arith, suc-mul units size)

pub free_way : (side : Side) (size n units most at to debt : ℕ) → at ≤ to → Within side size n units most at debt → Begun side size n units most to debt
free_way forth size n units most at to debt further within = let a = within.0 in let b = within.1 in (omega arith, omega arith)
free_way back size n units most at to debt further within = omega arith

-- the two sides
abbrev pub IsForth : Side → Type 0
IsForth forth = Unit {0}
IsForth back = ⊥

abbrev pub IsBack : Side → Type 0
IsBack forth = ⊥
IsBack back = Unit {0}

-- where no step is left the program has not ended, so it is its end that is asked for
pub no_step : (side : Side) (size units most at debt : ℕ) → at + 1 ≤ size → Within side size 0 units most at debt → IsForth side
no_step forth size units most at debt small within = tt
no_step back size units most at debt small within = absurd (omega arith)

pub no_first_step : (side : Side) (size units most at debt : ℕ) → at + 1 ≤ size → Begun side size 0 units most at debt → IsForth side
no_first_step forth size units most at debt small begun = tt
no_first_step back size units most at debt small begun = absurd (omega arith)

-- where no unit is left for a way that is counted, the program has no step left, or the graph has not ended
abbrev pub HasNoStep : Side → ℕ → Type 0
HasNoStep forth n = n ≤ 0
HasNoStep back n = Unit {0}

pub no_unit : (side : Side) (size n most at debt : ℕ) → Within side size n 0 most at debt → HasNoStep side n
no_unit forth size n most at debt within = within.0
no_unit back size n most at debt within = tt

-- where no node may follow the graph has not ended
pub no_node : (side : Side) (size n units at debt : ℕ) → Begun side size (suc n) units 0 at debt → IsBack side
no_node forth size n units at debt begun = let b = begun.1 in absurd (omega arith)
no_node back size n units at debt begun = tt

-- the start
pub begun_forth : (size n long : ℕ) → Begun forth size (suc n) n (suc (suc n) * suc long) 0 0
begun_forth size n long =
    let more : suc (suc n) ≤ suc (suc n) * suc long = le-mul_of_pos_right (suc (suc n)) (omega arith) in
    (omega arith, omega arith)

pub begun_back : (size units most : ℕ) → Begun back size (suc units * size) units most 0 0
begun_back size units most = omega (arith, suc-mul units size)
