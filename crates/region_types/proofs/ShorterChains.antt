-- Where units call no more, no chain of calls is longer.
use Rattle.std.proofs.Common.{ℕ, zero, suc, ◌≤◌, List, [], ◌∷◌, map, Option, Some, None, arith}
use Rattle.std.specs.Prelude.{All, Contains, slice_get}
use Rattle.std.proofs.lemmas.List.Elements.{All-cons, All-contains, All-head, All-nil, All-tail, All-weaker}
use Rattle.memory_areas.specs.declared.sizes.TheConstants.{ACTIVATIONS}
use Rattle.region_types.specs.TextLaws.{CallsNoMore, FewerCallsAreShorter, UnitCallsNoMore}
use Rattle.s7_base.specs.Numbers.{greatest}
use Rattle.st_tree.specs.BodyParts.{calls_in}
use Rattle.st_tree.specs.Chains.{chain_to, unit_chain}
use Rattle.st_tree.specs.declared.expr.Var.{Var}
use Rattle.st_tree.specs.declared.program.Pou.{Pou}
use Rattle.st_tree.specs.declared.program.StProgram.{StProgram}

abbrev Call : Type 0
Call = ℕ × List Var

-- the longest chain of some calls
abbrev longest : (ℕ → ℕ) → List Call → ℕ
longest chain calls = greatest (map chain (map (λ (call : Call). call.0) calls))

each_within : (chain : ℕ → ℕ) (calls : List Call) → All (λ (c : Call). chain c.0 ≤ longest chain calls) calls
each_within chain [] = All-nil (λ (c : Call). chain c.0 ≤ longest chain [])
each_within chain (x ∷ calls) =
    All-cons (λ (c : Call). chain c.0 ≤ longest chain (x ∷ calls)) x calls (omega arith)
    (All-weaker (λ (c : Call). chain c.0 ≤ longest chain calls) (λ (c : Call). chain c.0 ≤ longest chain (x ∷ calls)) (λ c l. omega (arith, l)) calls
    (each_within chain calls))

no_longer : (chain more : ℕ → ℕ) → ((n : ℕ) → chain n ≤ more n) → (xs ys : List Call) → All (Contains ys) xs → longest chain xs ≤ longest more ys
no_longer chain more h [] ys all = omega arith
no_longer chain more h (x ∷ xs) ys all =
    let own : more x.0 ≤ longest more ys =
    All-contains (λ (c : Call). more c.0 ≤ longest more ys) ys x (each_within more ys) (All-head (Contains ys) x xs all) in
    let first : chain x.0 ≤ more x.0 = h x.0 in
    let rest : longest chain xs ≤ longest more ys = no_longer chain more h xs ys (All-tail (Contains ys) x xs all) in
    omega arith

one_shorter : (chain more : ℕ → ℕ) → ((n : ℕ) → chain n ≤ more n) → (most : ℕ) (o p : Option Pou) → UnitCallsNoMore o p
    → unit_chain chain most o ≤ unit_chain more most p
one_shorter chain more h most None None k = omega arith
one_shorter chain more h most None (Some other) k = elim k [ ]
one_shorter chain more h most (Some unit) None k = elim k [ ]
one_shorter chain more h most (Some unit) (Some other) k =
    let within : longest chain (calls_in unit.body) ≤ longest more (calls_in other.body) =
    no_longer chain more h (calls_in unit.body) (calls_in other.body) k in
    omega arith

chains_shorter : (tree other : StProgram) → CallsNoMore tree other → (most n : ℕ) → chain_to most tree n ≤ chain_to most other n
chains_shorter tree other h zero n = omega arith
chains_shorter tree other h (suc most) n =
    one_shorter (chain_to most tree) (chain_to most other) (chains_shorter tree other h most) most (slice_get tree.pous n) (slice_get other.pous n) (h n)

pub fewer_calls_are_shorter : FewerCallsAreShorter
fewer_calls_are_shorter tree other h n = chains_shorter tree other h (suc ACTIVATIONS) n
