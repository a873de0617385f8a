-- A unit and its text: which locals they share, and what an arrival at a node does where states are near.
use Rattle.std.proofs.Common.{◌≡◌, ℕ, zero, suc, ◌<◌, ◌≤◌, Bool, true, false, List, length, map, Some, refl, sym, ap, ◌∙◌, subst, arith}
use Rattle.std.specs.Prelude.{option_map, slice_get}
use Rattle.std.proofs.lemmas.Option.{slice_get-map}
use Rattle.st_tree.specs.Calls.{zero_of}
use Rattle.st_tree.specs.GraphRun.{for_one_unit}
use Rattle.st_tree.specs.Meaning.{Out, Sem, then_do}
use Rattle.st_tree.specs.State.{State, depth, own_of}
use Rattle.st_tree.specs.WellTyped.{Head}
use Rattle.st_tree.specs.declared.graph.GraphPou.{GraphPou}
use Rattle.st_tree.specs.declared.graph.GraphProgram.{GraphProgram}
use Rattle.st_tree.specs.declared.program.Local.{Local}
use Rattle.st_tree.specs.declared.program.Located.{Located}
use Rattle.st_tree.proofs.Locals.{with_own}
use Rattle.region_laws.specs.NextLocal.{locals_of_text}
use Rattle.region_laws.specs.Regions.{Mark, arm_of, is_arm, loop_head, takes_unit, unmarked}
use Rattle.region_laws.proofs.Matches.{Matches}
use Rattle.region_laws.proofs.Means.{reach, same_arm}
use Rattle.region_laws.proofs.Near.{Near, Shape, next_near}
use Rattle.region_laws.proofs.Starts.{one_local_more, same_zeros}
use Rattle.region_laws.proofs.Statements.{at_node, set_done}
use Rattle.region_laws.proofs.Typed.{IsTypedUnit}
use Rattle.region_laws.proofs.Units.{Translated, graph_unit, next_of}

-- the unit at a position, and that it is well typed
pub unit_at : (graph : GraphProgram) (zs : List Translated) → map graph_unit zs ≡ graph.pous → (n : ℕ)
    → slice_get graph.pous n ≡ option_map graph_unit (slice_get zs n)
unit_at graph zs units n = ap (λ (us : List GraphPou). slice_get us n) (sym units) ∙ slice_get-map graph_unit zs n

pub typed_of : (graph : GraphProgram) (heads : List Head) (zs : List Translated) → map graph_unit zs ≡ graph.pous
    → ((n : ℕ) (u : GraphPou) → slice_get graph.pous n ≡ Some u → IsTypedUnit graph heads u)
    → (n : ℕ) (z : Translated) → slice_get zs n ≡ Some z → IsTypedUnit graph heads z.0
typed_of graph heads zs units typed n z e = typed n z.0 (unit_at graph zs units n ∙ ap (option_map graph_unit) e)

-- the locals of the unit begin alike in its text
pub shared_zeros : (z : Translated) (i : ℕ) → i < length z.0.head.locals
    → slice_get (map zero_of z.0.head.locals) i ≡ slice_get (map zero_of z.1.locals) i
shared_zeros z i h = same_zeros z.2.without_next z.0.head.locals i h ∙ ap (λ (ls : List Local). slice_get (map zero_of ls) i) (sym z.2.locals)

-- where a node is one of a dispatch loop, the text has NEXT
pub next_there : (z : Translated) (j k : ℕ) → z.2.marks j ≡ arm_of k → next_of z < length z.1.locals
next_there z j k e = by z.2.without_next refl
  where
    by : (b : Bool) → z.2.without_next ≡ b → next_of z < length z.1.locals
    by true q =
        let none : is_arm k (z.2.marks j) ≡ false = z.2.arms q j k in
        let one : is_arm k (z.2.marks j) ≡ true = ap (is_arm k) e ∙ same_arm k in
        cc
    by false q =
        let many : length z.1.locals ≡ suc (length z.0.head.locals) =
        ap (λ (ls : List Local). length ls) (z.2.locals ∙ ap (λ (b : Bool). locals_of_text b z.0.head.locals) q) ∙ one_local_more z.0.head.locals in
        omega arith

module _ (g : List Located) (next : ℕ) where
  -- an arrival at a node of a dispatch loop
  pub reach_arm : (k j u : ℕ) (f : Sem) (s : State) → next < length (own_of s.activations)
      → reach g next (arm_of k) j f u s ≡ for_one_unit f u (with_own next (at_node j) s)
  reach_arm k j u f s h = ap (λ (o : Out). then_do o (for_one_unit f)) (set_done g next j u s h)

  module _ (shape : Shape) (beyond : shape.shared shape.waiting ≤ next) where
    own_second : (s t : State) → Near shape s t → next < shape.second shape.waiting → next < length (own_of t.activations)
    own_second s t near h =
        let e : length (own_of t.activations) ≡ shape.second (depth t) = near.second (depth t) in
        let d : depth t ≡ shape.waiting = omega (arith, near.others) in
        let f : shape.second (depth t) ≡ shape.second shape.waiting = ap shape.second d in
        omega arith

    own_first : (s t : State) → Near shape s t → next < shape.first shape.waiting → next < length (own_of s.activations)
    own_first s t near h =
        let e : length (own_of s.activations) ≡ shape.first (depth s) = near.first (depth s) in
        let d : depth s ≡ shape.waiting = omega (arith, near.deep) in
        let f : shape.first (depth s) ≡ shape.first shape.waiting = ap shape.first d in
        omega arith

    pub second_reach : (k j u : ℕ) (f : Sem) (s t : State) → Near shape s t → next < shape.second shape.waiting
        → reach g next (arm_of k) j f u t ≡ for_one_unit f u (with_own next (at_node j) t)
    second_reach k j u f s t near h = reach_arm k j u f t (own_second s t near h)

    -- what an arrival does matches, where what follows it does
    module _ (R : ℕ → ℕ → Type 0) (p : Out) (t : State) (f : Sem) (j : ℕ) where
      paid_matches : (a : ℕ) (s : State) → Near shape s t → ((v : ℕ) → a ≡ suc v → (x : State) → Near shape x t → Matches shape R (f v x) p)
          → Matches shape R (for_one_unit f a s) p
      paid_matches zero s near paid = tt
      paid_matches (suc v) s near paid = paid v refl s near

      pub arrival_matches : (m : Mark) → ((k : ℕ) → m ≡ arm_of k → next < shape.first shape.waiting) → (a : ℕ) (s : State) → Near shape s t
          → (takes_unit m ≡ false → Matches shape R (f a s) p)
          → ((v : ℕ) → a ≡ suc v → (x : State) → Near shape x t → Matches shape R (f v x) p)
          → Matches shape R (reach g next m j f a s) p
      arrival_matches unmarked there a s near free paid = free refl
      arrival_matches loop_head there a s near free paid = paid_matches a s near paid
      arrival_matches (arm_of k) there a s near free paid =
          subst (λ (o : Out). Matches shape R o p) (sym (reach_arm k j a f s (own_first s t near (there k refl))))
          (paid_matches a (with_own next (at_node j) s) (next_near shape s t near next (at_node j) beyond) paid)
