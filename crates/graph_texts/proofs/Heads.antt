-- Each unit keeps its head in its text.
use Rattle.std.proofs.Common.{Bool, true, false, List, [], ◌∷◌, inl, inr, refl, sym, subst}
use Rattle.std.specs.Prelude.{All}
use Rattle.std.proofs.lemmas.List.Elements.{All-head, All-push, All-tail}
use Rattle.graph_rules.specs.Plain.{IsPlainUnit, IsTemporary}
use Rattle.st_tree.specs.declared.graph.GraphPou.{GraphPou}
use Rattle.st_tree.specs.declared.program.Local.{Local}
use Rattle.st_tree.specs.declared.program.Pou.{Pou}
use Rattle.graph_texts.specs.Heads.{IsNamedLocal, KeepHeads, KeepsHead}
use Rattle.region_laws.specs.NextLocal.{locals_of_text, next_local}
use Rattle.region_laws.specs.RegionLaw.{IsUnitOf}
use Rattle.region_types.specs.ProperLaw.{AreProperTexts}

named : (locals : List Local) → All IsTemporary locals → All IsNamedLocal locals
named locals h = λ k d lt. let own = h k d lt in inl (record { number = own.number; is = own.name })

all_named : (without : Bool) (locals : List Local) → All IsTemporary locals → All IsNamedLocal (locals_of_text without locals)
all_named true locals h = named locals h
all_named false locals h = All-push IsNamedLocal locals next_local (named locals h) (inr refl)

kept : (unit : GraphPou) (text : Pou) → IsUnitOf unit text → All IsTemporary unit.head.locals → KeepsHead unit text
kept unit text is h =
    record {
      kind = is.kind;
      name = is.name;
      formals = is.formals;
      locals = subst (All IsNamedLocal) (sym is.locals) (all_named is.without_next unit.head.locals h);
    }

pub keep_heads : (units : List GraphPou) (texts : List Pou) → All IsPlainUnit units → AreProperTexts units texts → KeepHeads units texts
keep_heads [] [] h t = tt
keep_heads [] (text ∷ texts) h t = absurd t
keep_heads (unit ∷ units) [] h t = absurd t
keep_heads (unit ∷ units) (text ∷ texts) h t =
    (kept unit text t.0.is (All-head IsPlainUnit unit units h).names, keep_heads units texts (All-tail IsPlainUnit unit units h) t.1)
