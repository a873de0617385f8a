-- The actual of a formal by its name.
use Rattle.std.proofs.Common.{◌≡◌, ℕ, List, option_and_then, slice_get, sym, ap, ◌∙◌}
use Rattle.call_operands.specs.inner.ActualPlaces.{has_actual_key}
use Rattle.name_tables.proofs.Firsts.{same_words}
use Rattle.name_tables.proofs.Places.{find_first, first_same}
use Rattle.name_tables.specs.Places.{first_place}
use Rattle.stl_rules.specs.Calls.{actual_named, is_given}
use Rattle.stl_rules.specs.DeclarationRules.{key_of}
use Rattle.stl_tree.specs.declared.raw.RawActual.{RawActual}

pub named_at : (actuals : List RawActual) (name : List ℕ)
    → option_and_then (λ n. slice_get actuals n) (first_place (has_actual_key (key_of name)) actuals) ≡ actual_named actuals name
named_at actuals name =
    sym (find_first (is_given name) actuals
    ∙ ap (option_and_then (λ n. slice_get actuals n)) (first_same (is_given name) (has_actual_key (key_of name)) (λ a. same_words a.formal name) actuals))
