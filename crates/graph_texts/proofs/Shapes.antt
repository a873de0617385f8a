-- The nodes of a plain unit leave `NEXT` alone, which is the last local of its text, if it is there; and one text more has
-- its shape.
use Rattle.std.proofs.Common.{◌≡◌, ℕ, suc, Bool, true, false, if◌then◌else◌, List, [], ◌∷◌, ◌++◌, length, map, Option, Some, None, refl, sym, ap, ◌∙◌, subst}
use Rattle.std.specs.Prelude.{All}
use Rattle.std.specs.Option.{option_map}
use Rattle.std.proofs.lemmas.List.Elements.{All-cons, All-head, All-nil, All-tail}
use Rattle.graph_rules.specs.Flow.{flow_of}
use Rattle.graph_rules.specs.Plain.{IsTemporary, Plain, listed_text, node_statements}
use Rattle.graph_texts.proofs.TypedLocals.{leave_next}
use Rattle.graph_texts.specs.NextOf.{next_of}
use Rattle.graph_texts.specs.Shapes.{HasShapeOf, HaveShapes}
use Rattle.graph_texts.specs.inner.OwnLocals.{LeavesNext}
use Rattle.region_laws.specs.NextLocal.{locals_of_text, next_local}
use Rattle.restructure.specs.Structures.{needs_no_selector}
use Rattle.restructure.specs.TextShape.{HasShape}
use Rattle.restructure.specs.declared.structured.Structured.{Structured}
use Rattle.st_tree.specs.Naming.{is_next}
use Rattle.st_tree.specs.Proper.{IsProperUnit}
use Rattle.st_tree.specs.WellTyped.{Head, head_of, unit_scope_of}
use Rattle.st_tree.specs.declared.graph.GraphPou.{GraphPou}
use Rattle.st_tree.specs.declared.graph.GraphProgram.{GraphProgram}
use Rattle.st_tree.specs.declared.program.Local.{Local}
use Rattle.st_tree.specs.declared.program.Located.{Located}
use Rattle.st_tree.specs.declared.program.Pou.{Pou}
use Rattle.stl_tree.specs.Flows.{Flow}
use Rattle.text_shapes.specs.IsShaped.{IsShaped}
use Rattle.text_shapes.specs.NodeCounts.{conditionals_of, lists_of}

-- NEXT is the last local, or none

not_next : (local : Local) → IsTemporary local → is_next local.name ≡ false
not_next local h = ap is_next h.name

abbrev next_where : Bool → ℕ → Option ℕ
next_where without n = if without then None else Some n

one_before : (without : Bool) (n : ℕ) → option_map suc (next_where without n) ≡ next_where without (suc n)
one_before true n = refl
one_before false n = refl

next_among : (without : Bool) (locals : List Local) → All IsTemporary locals
    → next_of (locals_of_text without locals) ≡ (if without then None else Some (length locals))
next_among true [] h = refl
next_among false [] h = refl
next_among true (l ∷ locals) h =
    ap (λ (b : Bool). if b then Some 0 else option_map suc (next_of locals)) (not_next l (All-head IsTemporary l locals h))
    ∙ ap (option_map suc) (next_among true locals (All-tail IsTemporary l locals h))
next_among false (l ∷ locals) h =
    ap (λ (b : Bool). if b then Some 0 else option_map suc (next_of (locals ++ next_local ∷ []))) (not_next l (All-head IsTemporary l locals h))
    ∙ ap (option_map suc) (next_among false locals (All-tail IsTemporary l locals h))

-- the text of a unit has the shape that its nodes allow
pub shape_of_unit : (unit : GraphPou) (made : Structured) (next : ℕ) (locals : List Local) → next ≡ length unit.head.locals
    → locals ≡ locals_of_text (needs_no_selector made) unit.head.locals → All IsTemporary unit.head.locals
    → HasShape unit.graph.nodes next made → HasShapeOf unit (record unit.head { locals = locals; body = made.body })
shape_of_unit unit made next locals e l temporaries h = subst (shaped (flow_of unit.graph.nodes)) same h
  where
    shaped : Flow → Option ℕ → Type 0
    shaped flow o = IsShaped flow (conditionals_of unit.graph.nodes) (lists_of unit.graph.nodes) o made.body

    same : next_where (needs_no_selector made) next ≡ next_of locals
    same =
        ap (next_where (needs_no_selector made)) e
        ∙ sym (ap next_of l ∙ next_among (needs_no_selector made) unit.head.locals temporaries)

-- Plain units

unit_leaves : (globals : List Located) (heads : List Head) (units : List GraphPou)
    → All (IsProperUnit globals heads) (map (λ (u : GraphPou). record u.head { body = node_statements u.graph.nodes }) units)
    → All LeavesNext units
unit_leaves globals heads [] h = All-nil LeavesNext
unit_leaves globals heads (u ∷ units) h =
    let text : Pou = record u.head { body = node_statements u.graph.nodes } in
    let texts : List Pou = map (λ (u : GraphPou). record u.head { body = node_statements u.graph.nodes }) units in
    All-cons LeavesNext u units
    (leave_next (unit_scope_of globals heads text) false (node_statements u.graph.nodes)
    (All-head (IsProperUnit globals heads) text texts h).typed)
    (unit_leaves globals heads units (All-tail (IsProperUnit globals heads) text texts h))

pub units_leave : (graph : GraphProgram) → Plain graph → All LeavesNext graph.pous
units_leave graph plain =
    unit_leaves (listed_text graph).globals (map head_of (listed_text graph).pous) graph.pous plain.text.units

-- one text more
pub one_shape_more : (units : List GraphPou) (texts : List Pou) (unit : GraphPou) (text : Pou) (all : List Pou) → all ≡ texts ++ text ∷ []
    → HaveShapes units texts → HasShapeOf unit text → HaveShapes (units ++ unit ∷ []) all
one_shape_more units texts unit text all e t own = subst (HaveShapes (units ++ unit ∷ [])) (sym e) (by units texts t)
  where
    by : (units : List GraphPou) (texts : List Pou) → HaveShapes units texts → HaveShapes (units ++ unit ∷ []) (texts ++ text ∷ [])
    by [] [] t = (own, tt)
    by [] (x ∷ texts) t = absurd t
    by (u ∷ units) [] t = absurd t
    by (u ∷ units) (x ∷ texts) t = (t.0, by units texts t.1)
