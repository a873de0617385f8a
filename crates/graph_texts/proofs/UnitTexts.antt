-- The text of a unit, and one text more.
use Rattle.std.proofs.Common.{◌≡◌, ℕ, ◌≤◌, List, [], ◌∷◌, ◌++◌, length, refl, sym, ap, ◌∙◌, subst, arith}
use Rattle.graph_rules.specs.Plain.{IsPlainUnit}
use Rattle.region_laws.specs.NextLocal.{locals_of_text}
use Rattle.region_laws.specs.Regions.{text_of}
use Rattle.region_types.specs.ProperLaw.{AreProperTexts, IsProperText}
use Rattle.region_laws.specs.RegionDepth.{depth}
use Rattle.restructure.specs.Structures.{AreUnitNodes, IsStructured, needs_no_selector}
use Rattle.restructure.specs.declared.structured.Structured.{Structured}
use Rattle.st_tree.specs.declared.graph.GraphPou.{GraphPou}
use Rattle.st_tree.specs.declared.program.Local.{Local}
use Rattle.st_tree.specs.declared.program.Pou.{Pou}

-- the nodes of a plain unit may be restructured
pub unit_nodes : (unit : GraphPou) → IsPlainUnit unit → AreUnitNodes unit.graph.nodes
unit_nodes unit plain =
    record {
      some = plain.some;
      few = plain.few;
      plain = plain.nodes;
    }

-- the text of a unit is its head with these statements, and with these locals
pub proper_unit : (unit : GraphPou) (made : Structured) (next : ℕ) (locals : List Local) → next ≡ length unit.head.locals
    → locals ≡ locals_of_text (needs_no_selector made) unit.head.locals → IsStructured unit.graph.nodes next made
    → IsProperText unit (record unit.head { locals = locals; body = made.body })
proper_unit unit made next locals e l s =
    let low : depth s.region ≤ 65 = s.low in
    record {
      is =
          record {
            region = s.region;
            reached = s.reached;
            marks = s.marks;
            without_next = needs_no_selector made;
            kind = refl;
            name = refl;
            formals = refl;
            locals = l;
            arms = s.arms;
            body = s.body ∙ ap (λ (n : ℕ). text_of n s.region) e;
            first = s.first;
            fits = s.fits;
            onward = s.onward;
          };
      uses = s.uses;
      low = omega (arith, low);
    }

-- one text more
pub one_more : (units : List GraphPou) (texts : List Pou) (unit : GraphPou) (text : Pou) (all : List Pou) → all ≡ texts ++ text ∷ []
    → AreProperTexts units texts → IsProperText unit text → AreProperTexts (units ++ unit ∷ []) all
one_more units texts unit text all e t own = subst (AreProperTexts (units ++ unit ∷ [])) (sym e) (by units texts t)
  where
    by : (units : List GraphPou) (texts : List Pou) → AreProperTexts units texts → AreProperTexts (units ++ unit ∷ []) (texts ++ text ∷ [])
    by [] [] t = (own, tt)
    by [] (x ∷ texts) t = absurd t
    by (u ∷ units) [] t = absurd t
    by (u ∷ units) (x ∷ texts) t = (t.0, by units texts t.1)
