-- The text that is made: of one that is no larger than the one before and runs alike, that with symbols.
use Rattle.std.proofs.Common.{◌≡◌, List, [], ◌∷◌, map, refl, ◌∙◌}
use Rattle.std.specs.Prelude.{All}
use Rattle.std.proofs.lemmas.List.Elements.{All-cons, All-head, All-nil, All-tail}
use Rattle.condition_laws.specs.Elsif.{AllHaveElsif, HasElsif}
use Rattle.condition_laws.specs.Kept.{KeepsHead, KeepsHeads}
use Rattle.condition_laws.specs.NoLarger.{HasNoLarger, IsNoLarger}
use Rattle.condition_laws.specs.SameRuns.{RunsAlike}
use Rattle.st_globals.proofs.Whole.{named_runs, none_direct}
use Rattle.st_globals.specs.Globals.{named_var}
use Rattle.st_globals.specs.NamedText.{named_text}
use Rattle.st_globals.specs.WithVariables.{unit_with}
use Rattle.st_polish.proofs.Fits.{fits, fits_back}
use Rattle.st_polish.proofs.Larger.{elsif_kept, named_no_larger, no_larger_than}
use Rattle.st_polish.specs.Names.{KeepsNames}
use Rattle.st_polish.specs.SameRuns.{RunsAsBefore}
use Rattle.st_tree.specs.BodyParts.{statements_in}
use Rattle.st_tree.specs.Fitting.{Paired}
use Rattle.st_tree.specs.Proper.{Proper}
use Rattle.st_tree.specs.declared.expr.Var.{Var}
use Rattle.st_tree.specs.declared.program.Located.{Located}
use Rattle.st_tree.specs.declared.program.Pou.{Pou}
use Rattle.st_tree.specs.declared.program.StProgram.{StProgram}
use Rattle.st_tree.specs.declared.program.Stmt.{Stmt, out-Stmt}
use Rattle.stl_tree.specs.Accepted.{IsSymbol}
use Rattle.stl_tree.specs.declared.program.Symbol.{Symbol}

-- Units

heads_with : (f : Var → Var) (old units : List Pou) → Paired KeepsHead old units → Paired KeepsHead old (map (unit_with f) units)
heads_with f [] [] h = tt
heads_with f [] (v ∷ units) h = h
heads_with f (u ∷ old) [] h = h
heads_with f (u ∷ old) (v ∷ units) h =
    (record { kind = h.0.kind; name = h.0.name; formals = h.0.formals; locals = h.0.locals }, heads_with f old units h.1)

abbrev Smaller : Pou → Pou → Type 0
Smaller u v = IsNoLarger u.body v.body

units_with : (globals : List Located) (old units : List Pou) → Paired Smaller old units
    → Paired Smaller old (map (unit_with (named_var globals)) units)
units_with globals [] [] h = tt
units_with globals [] (v ∷ units) h = h
units_with globals (u ∷ old) [] h = h
units_with globals (u ∷ old) (v ∷ units) h =
    (no_larger_than u.body v.body (unit_with (named_var globals) v).body h.0 (named_no_larger globals v.body), units_with globals old units h.1)

abbrev UnitHasElsif : Pou → Type 0
UnitHasElsif unit = All (λ (x : Stmt). HasElsif (out-Stmt x)) (statements_in unit.body)

elsif_with : (f : Var → Var) (units : List Pou) → All UnitHasElsif units → All UnitHasElsif (map (unit_with f) units)
elsif_with f [] h = All-nil UnitHasElsif
elsif_with f (u ∷ units) h =
    All-cons UnitHasElsif (unit_with f u) (map (unit_with f) units) (elsif_kept f u.body (All-head UnitHasElsif u units h))
    (elsif_with f units (All-tail UnitHasElsif u units h))

-- Texts

module _ (old tree : StProgram) (symbols : List Symbol) where
  abbrev pub new : StProgram
  new = named_text symbols tree

  pub new_is_no_larger : HasNoLarger old tree → HasNoLarger old new
  new_is_no_larger h = units_with new.globals old.pous tree.pous h

  pub new_has_elsif : AllHaveElsif tree → AllHaveElsif new
  new_has_elsif h = elsif_with (named_var new.globals) tree.pous h

  module _ (kept : KeepsHeads old tree) (proper : Proper tree) (empty : old.globals ≡ []) (are : All IsSymbol symbols) where
    none : tree.globals ≡ []
    none = kept.globals ∙ empty

    heads : Paired KeepsHead old.pous new.pous
    heads = heads_with (named_var new.globals) old.pous tree.pous kept.units

    pub new_names : KeepsNames symbols old new
    new_names =
        record {
          units = heads;
          named =
              record { units = tree.pous; statements = refl; globals = refl; direct = none_direct tree proper none symbols are };
        }

    pub new_runs : RunsAlike old tree → RunsAsBefore old new
    new_runs alike =
        record {
          blocks = kept.blocks;
          fits = fits old new kept.blocks heads;
          fits_back = fits_back old new kept.blocks heads;
          runs = λ call areas units call_fits memory.
              (named_runs tree proper none symbols are).runs call areas units ∙ alike call areas units call_fits memory;
        }
