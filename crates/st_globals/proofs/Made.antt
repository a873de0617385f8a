-- The text that is made from the tables.
use Rattle.std.proofs.Common.{◌≡◌, ℕ, List, [], map, sym, subst, ap, ◌∙◌}
use Rattle.std.specs.Prelude.{All}
use Rattle.st_tree.specs.Proper.{Proper}
use Rattle.st_tree.specs.declared.program.Located.{Located}
use Rattle.st_tree.specs.declared.program.Pou.{Pou}
use Rattle.st_tree.specs.declared.program.StProgram.{StProgram}
use Rattle.stl_tree.specs.Accepted.{IsSymbol}
use Rattle.stl_tree.specs.declared.program.Symbol.{Symbol}
use Rattle.st_globals.specs.Globals.{globals_of}
use Rattle.st_globals.specs.NamedText.{HaveSameRuns, NamesNoGlobalDirectly, named_text}
use Rattle.st_globals.specs.WithVariables.{unit_with}
use Rattle.st_globals.specs.inner.Tables.{PlaceKey, keys_with_numbers, var_by}
use Rattle.st_globals.proofs.Numbers.{text_is}
use Rattle.st_globals.proofs.Whole.{named_proper, named_runs, none_direct}

module _ (tree : StProgram) (symbols : List Symbol) (globals : List Located) (units : List Pou) (entries : List (PlaceKey × ℕ))
    (list : globals ≡ globals_of tree.pous symbols) (numbers : entries ≡ keys_with_numbers 0 globals)
    (renamed : units ≡ map (unit_with (var_by entries)) tree.pous)
  where
    abbrev with_units : List Pou → StProgram
    with_units us = record { dbs = tree.dbs; globals = globals; pous = us }

    abbrev pub made : StProgram
    made = with_units units

    pub made_is : made ≡ named_text symbols tree
    made_is =
        ap with_units renamed
        ∙ text_is tree symbols globals entries list numbers

    module _ (proper : Proper tree) (empty : tree.globals ≡ []) (are : All IsSymbol symbols) where
      pub made_proper : Proper made
      made_proper = subst Proper (sym made_is) (named_proper tree proper empty symbols are)

      pub made_runs : HaveSameRuns tree made
      made_runs = subst (HaveSameRuns tree) (sym made_is) (named_runs tree proper empty symbols are)

      pub made_direct : NamesNoGlobalDirectly made
      made_direct = subst NamesNoGlobalDirectly (sym made_is) (none_direct tree proper empty symbols are)
