-- The states in which a unit begins, as a graph and as its text, are near; and NEXT begins at the first node.
use Rattle.std.proofs.Common.{◌≡◌, ℕ, zero, suc, ◌<◌, Bool, true, false, List, [], ◌∷◌, length, map, Some, refl, sym, ap, ◌∙◌, subst, arith}
use Rattle.std.specs.Prelude.{slice_get}
use Rattle.std.proofs.lemmas.List.{length-map}
use Rattle.memory_areas.specs.Areas.{Areas}
use Rattle.memory_areas.specs.declared.call.BlockName.{BlockName}
use Rattle.memory_areas.specs.declared.call.BlockName.TheVariants as name
use Rattle.memory_areas.specs.declared.call.Call.{Call}
use Rattle.memory_areas.specs.declared.place.Place.{Place}
use Rattle.s7_base.specs.declared.word.Width.{Width}
use Rattle.st_tree.specs.Calls.{zero_of}
use Rattle.st_tree.specs.State.{State, formals_of}
use Rattle.st_tree.specs.StRun.{formals_given, references, state_at_start}
use Rattle.st_tree.specs.declared.graph.GraphPou.{GraphPou}
use Rattle.st_tree.specs.declared.program.Local.{Local}
use Rattle.st_tree.specs.declared.program.Pou.{Pou}
use Rattle.st_tree.specs.declared.state.Reference.{Reference}
use Rattle.st_tree.specs.declared.state.Reference.TheVariants as reference
use Rattle.region_laws.specs.NextLocal.{locals_of_text}
use Rattle.region_laws.proofs.Statements.{at_node}
use Rattle.region_laws.proofs.Near.{IsInside, Near, Shape, locals_at}

-- so many of the first activation, and none of others
abbrev pub of_first : ℕ → ℕ → ℕ
of_first n zero = n
of_first n (suc d) = 0

-- the text may have one local more, as the second state or as the first
abbrev pub text_second : GraphPou → Pou → Shape
text_second u text =
    record {
      waiting = 0;
      shared = of_first (length u.head.locals);
      first = of_first (length u.head.locals);
      second = of_first (length text.locals);
    }

abbrev pub text_first : GraphPou → Pou → Shape
text_first u text =
    record {
      waiting = 0;
      shared = of_first (length u.head.locals);
      first = of_first (length text.locals);
      second = of_first (length u.head.locals);
    }

pub same_zeros : (one : Bool) (locals : List Local) (i : ℕ) → i < length locals
    → slice_get (map zero_of locals) i ≡ slice_get (map zero_of (locals_of_text one locals)) i
same_zeros true locals i h = refl
same_zeros false [] i h = absurd (omega arith)
same_zeros false (x ∷ locals) zero h = refl
same_zeros false (x ∷ locals) (suc i) h = same_zeros false locals i (omega arith)

-- NEXT begins at the first node
pub next_zero : (one : Bool) (locals : List Local) → one ≡ false → slice_get (map zero_of (locals_of_text one locals)) (length locals) ≡ Some (at_node 0)
next_zero true locals e = cc
next_zero false [] e = refl
next_zero false (x ∷ locals) e = next_zero false locals refl

pub one_local_more : (locals : List Local) → length (locals_of_text false locals) ≡ suc (length locals)
one_local_more [] = refl
one_local_more (x ∷ locals) = ap suc (one_local_more locals)

-- formals that are given from outside are places
places_inside : (shape : Shape) (d : ℕ) (formals : List Local) (actuals : List (Place × Width)) (k : ℕ) (r : Reference)
    → slice_get (references formals actuals) k ≡ Some r → IsInside shape d r
places_inside shape d [] actuals k r e = cc
places_inside shape d (f ∷ formals) [] k r e = cc
places_inside shape d (f ∷ formals) (a ∷ actuals) zero r e =
    let same : reference.Place a.0 f.ty ≡ r = cc in subst (IsInside shape d) same tt
places_inside shape d (f ∷ formals) (a ∷ actuals) (suc k) r e = places_inside shape d formals actuals k r e

given_inside : (shape : Shape) (d : ℕ) (called : BlockName) (formals : List Local) (actuals : List (Place × Width)) (k : ℕ) (r : Reference)
    → slice_get (formals_given called formals actuals) k ≡ Some r → IsInside shape d r
given_inside shape d (name.Ob n) formals actuals k r e = cc
given_inside shape d (name.Fc n) formals actuals k r e = places_inside shape d formals actuals k r e
given_inside shape d (name.Fb n) formals actuals k r e = cc

module _ (one : Bool) (u : GraphPou) (text : Pou) (formals : text.formals ≡ u.head.formals) (locals : text.locals ≡ locals_of_text one u.head.locals)
    (call : Call) (memory : Areas)
  where
    abbrev graph_start : State
    graph_start = state_at_start u.head call memory

    abbrev text_start : State
    text_start = state_at_start text call memory

    shared_zeros : (d i : ℕ) → i < of_first (length u.head.locals) d → slice_get (locals_at d graph_start) i ≡ slice_get (locals_at d text_start) i
    shared_zeros zero i h = same_zeros one u.head.locals i h ∙ ap (λ (ls : List Local). slice_get (map zero_of ls) i) (sym locals)
    shared_zeros (suc d) i h = refl

    graph_many : (d : ℕ) → length (locals_at d graph_start) ≡ of_first (length u.head.locals) d
    graph_many zero = length-map u.head.locals zero_of
    graph_many (suc d) = refl

    text_many : (d : ℕ) → length (locals_at d text_start) ≡ of_first (length text.locals) d
    text_many zero = length-map text.locals zero_of
    text_many (suc d) = refl

    same_formals : (d : ℕ) → formals_of (slice_get graph_start.activations d) ≡ formals_of (slice_get text_start.activations d)
    same_formals zero = ap (λ (fs : List Local). formals_given call.block fs call.actuals) (sym formals)
    same_formals (suc d) = refl

    graph_inside : (shape : Shape) (d k : ℕ) (r : Reference) → slice_get (formals_of (slice_get graph_start.activations d)) k ≡ Some r → IsInside shape d r
    graph_inside shape zero k r e = given_inside shape 0 call.block u.head.formals call.actuals k r e
    graph_inside shape (suc d) k r e = cc

    text_inside : (shape : Shape) (d k : ℕ) (r : Reference) → slice_get (formals_of (slice_get text_start.activations d)) k ≡ Some r → IsInside shape d r
    text_inside shape zero k r e = given_inside shape 0 call.block text.formals call.actuals k r e
    text_inside shape (suc d) k r e = cc

    pub near_second : Near (text_second u text) graph_start text_start
    near_second =
        record {
          memory = refl;
          registers = refl;
          deep = refl;
          others = refl;
          first = graph_many;
          second = text_many;
          same = shared_zeros;
          formals = same_formals;
          inside = graph_inside (text_second u text);
        }

    pub near_first : Near (text_first u text) text_start graph_start
    near_first =
        record {
          memory = refl;
          registers = refl;
          deep = refl;
          others = refl;
          first = text_many;
          second = graph_many;
          same = λ d i h. sym (shared_zeros d i h);
          formals = λ d. sym (same_formals d);
          inside = text_inside (text_first u text);
        }
