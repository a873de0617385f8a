use Rattle.std.proofs.Common.{◌≡◌, ap, is_some, sym, ◌∙◌}
use Rattle.stl_rules.specs.DeclarationRules.{key_of}
use Rattle.stl_rules.specs.Interfaces.{is_declared}
use Rattle.stl_rules.specs.Paths.{named_in}
use Rattle.symbol_layout.specs.Kept.{sections_now}
use Rattle.component_index.specs.inner.Scopes.{LeadsTo, declarations_in, entry_of, table_of}
use Rattle.component_index.proofs.Finding.{is_found}
use Rattle.component_index.proofs.index.Components.declares.Goals as goal

pub returns : goal.returns
returns c =
    let own = c.self.inside in
    let sections = sections_now own.sections.items in
    let name = c.args.name.now in
    let found : entry_of (key_of name) (table_of own.names) ≡ c.find.result
    = sym (ap (λ key. entry_of key (table_of own.names)) (c.as_slice.ensures.value ∙ c.in_ok-key.ensures)) ∙ sym c.find.ensures in
    let h : LeadsTo (declarations_in own.scopes.items) (named_in 0 sections name) (entry_of (key_of name) (table_of own.names))
    = c.self.invariant.1 name in
    c.is_some.ensures ∙ ap is_some (sym found) ∙ is_found sections name (entry_of (key_of name) (table_of own.names)) h.0 ∙ ap (is_declared name) c.self.view_is
