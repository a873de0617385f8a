-- A unit with a dispatch loop, whose text by a region is as the laws ask for.
use Rattle.std.proofs.Common.{◌≡◌, ℕ, zero, suc, ◌==◌, Bool, true, false, [], ◌∷◌, Some, refl, subst, arith}
use Rattle.std.specs.List.{list_any}
use Rattle.std.specs.Prelude.{codes, slice_get}
use Rattle.region_laws.specs.NextLocal.{next_local}
use Rattle.region_laws.specs.RegionLaw.{marked_nodes}
use Rattle.region_laws.specs.Regions.{Fits, IsNode, LeadsOnward, Mark, Marked, MayBegin, Region, arm_of, at, fork, inside, is_arm, leaves, no_loop, node, off, out, selected, selector, text_of, turn_to, unmarked}
use Rattle.region_types.specs.ProperLaw.{IsProperText}
use Rattle.region_types.specs.UsesNext.{UsesNext}
use Rattle.s7_base.specs.declared.register.Reg.TheVariants.{Rlo}
use Rattle.st_tree.specs.declared.expr.Expr.{Expr}
use Rattle.st_tree.specs.declared.expr.Expr.TheVariants as expr
use Rattle.st_tree.specs.declared.expr.Var.TheVariants as var
use Rattle.st_tree.specs.declared.graph.GraphPou.{GraphPou}
use Rattle.st_tree.specs.declared.graph.StExit.{StExit}
use Rattle.st_tree.specs.declared.graph.StExit.TheVariants as exit
use Rattle.st_tree.specs.declared.graph.StNode.{StNode}
use Rattle.st_tree.specs.declared.program.Pou.{Pou}

abbrev test : Expr
test = expr.Read (var.Register Rlo)

abbrev node_of : StExit → StNode
node_of exit = record { steps = []; exit = exit; only_end = false }

-- a unit whose first node leads back to itself, or to the second one, which ends it
abbrev unit : GraphPou
unit =
    record {
      head = record { program = true; name = codes "OB1"; formals = []; locals = []; body = [] };
      graph = record { nodes = node_of (exit.Branch test 0) ∷ node_of exit.End ∷ [] };
    }

abbrev marks : ℕ → Mark
marks zero = arm_of 0
marks (suc zero) = arm_of 0
marks (suc (suc i)) = unmarked

abbrev by_next : ℕ → Region
by_next zero = fork [] test (turn_to 0 off) (turn_to 1 off) (selected 0) off
by_next (suc i) = node [] leaves

abbrev region : Region
region = turn_to 0 (selector (0 ∷ 1 ∷ []) by_next out off)

abbrev text : Pou
text = record unit.head { locals = next_local ∷ []; body = text_of 0 region }

abbrev marked : Marked
marked = marked_nodes unit (λ i. true) marks

is_node : (turn : Bool) (i : ℕ) (x : StExit) → slice_get marked.nodes i ≡ Some (node_of x) → MayBegin turn (marks i) → IsNode marked turn i [] x
is_node turn i x there free = record { reached = refl; node = node_of x; there = there; steps_are = refl; exit_is = refl; free = free }

labels : (i : ℕ) → list_any (λ label. label == i) (0 ∷ 1 ∷ []) ≡ is_arm 0 (marks i)
labels zero = refl
labels (suc zero) = refl
labels (suc (suc i)) = grind arith

arms : (i : ℕ) → marks i ≡ arm_of 0 → Fits marked true (by_next i) (at i) (selected 0) (inside (selected 0) out)
arms zero e = (
  0,
  0,
  refl,
  is_node true 0 (exit.Branch test 0) refl tt,
  (0, refl, refl, refl, (refl, refl)),
  (0, refl, refl, refl, (refl, refl)),
  (refl, refl),
)
arms (suc zero) e = (1, exit.End, out, refl, is_node true 1 exit.End refl tt, refl, (refl, refl))
arms (suc (suc i)) e = cc

fits : Fits marked false region (at 0) out no_loop
fits = (0, refl, refl, refl, (0, refl, refl, labels, arms, (refl, refl)))

onward : (i : ℕ) (x : StNode) → slice_get marked.nodes i ≡ Some x → LeadsOnward marked i x.exit
onward zero x e =
    let same : node_of (exit.Branch test 0) ≡ x = cc in
    subst (λ (y : StNode). LeadsOnward marked 0 y.exit) same
    (record { reached = refl; behind = λ q. cc }, record { reached = refl; behind = λ q. cc })
onward (suc zero) x e =
    let same : node_of exit.End ≡ x = cc in subst (λ (y : StNode). LeadsOnward marked 1 y.exit) same tt
onward (suc (suc i)) x e = cc

uses : (i : ℕ) → UsesNext true 2 (by_next i)
uses zero = ((refl, omega arith, tt), (refl, omega arith, tt), tt)
uses (suc i) = tt

text_fits : IsProperText unit text
text_fits =
    record {
      is =
          record {
            region = region;
            reached = λ i. true;
            marks = marks;
            without_next = false;
            kind = refl;
            name = refl;
            formals = refl;
            locals = refl;
            arms = λ e. cc;
            body = refl;
            first = refl;
            fits = fits;
            onward = λ i x r e. onward i x e;
          };
      uses = (refl, omega arith, (refl, (λ e. cc), (λ i l. uses i), tt));
      low = omega arith;
    }
