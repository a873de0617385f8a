use Rattle.std.proofs.Common.{◌≡◌, Some, ap, sym, ◌∙◌, subst}
use Rattle.std.specs.Prelude.{option_map}
use Rattle.stl_rules.specs.DeclarationRules.{key_of}
use Rattle.stl_rules.specs.Paths.{named_in}
use Rattle.symbol_layout.specs.Kept.{sections_now}
use Rattle.component_index.specs.inner.Scopes.{AreScopes, LeadsTo, component_behind, entry_of, declarations_in, placed_of_entry, table_of}
use Rattle.component_index.proofs.Finding.{found_behind}
use Rattle.component_index.proofs.index.Components.component_behind.Goals as goal

pub after_path-requires-clause-scopes : goal.after_path-requires-clause-scopes
after_path-requires-clause-scopes c = subst AreScopes (sym c.as_slice-2.ensures.value) c.self.invariant.0

pub returns : goal.returns
returns c =
    let own = c.self.inside in
    let sections = sections_now own.sections.items in
    let name = c.args.name.now in
    let found : entry_of (key_of name) (table_of own.names) ≡ Some c.in-Some.start
    = sym (ap (λ key. entry_of key (table_of own.names)) (c.as_slice.ensures.value ∙ c.in_ok-key.ensures)) ∙ sym c.find.ensures ∙ c.in-Some.is in
    let h : LeadsTo (declarations_in own.scopes.items) (named_in 0 sections name) (Some c.in-Some.start)
    = subst (LeadsTo (declarations_in own.scopes.items) (named_in 0 sections name)) found (c.self.invariant.1 name) in
    c.component_of.ensures
    ∙ found_behind sections name c.args.path.now (placed_of_entry c.in-Some.start) h.0 (option_map placed_of_entry c.in_ok-at.at) c.in_ok-at.ensures
    ∙ ap (λ ss. component_behind ss name c.args.path.now) c.self.view_is
