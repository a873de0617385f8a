use Rattle.std.proofs.Common.{◌≡◌, ap, sym, ◌∙◌, subst}
use Rattle.std.specs.Prelude.{option_map}
use Rattle.stl_rules.specs.DeclarationRules.{key_of}
use Rattle.stl_rules.specs.Paths.{after_step}
use Rattle.stl_tree.specs.declared.raw.DeclType.TheVariants as type
use Rattle.stl_tree.specs.declared.raw.PathStep.TheVariants as step
use Rattle.component_index.specs.inner.Scopes.{LeadsTo, entry_at, declarations_in, entry_from}
use Rattle.component_index.proofs.Growing.{if_ok}
use Rattle.symbol_layout.proofs.Structs.{array_bits}
use Rattle.component_index.proofs.Stepping.{element_leads, struct_leads}
use Rattle.component_index.proofs.walking.after_step.Goals as goal

pub element_at-requires : goal.element_at-requires
element_at-requires c =
    array_bits c.args.at.inner.bits c.args.at.ty.now c.in-Array.bounds c.in-Array.element c.get.result.now c.in-Array.is c.get.ensures c.requires.at.2.1

pub returns-in-Index : goal.returns-in-Index
returns-in-Index c =
    element_leads (declarations_in c.args.scopes.now) c.args.at c.as_slice.result.now c.get.result.now
    (c.in-Array.is ∙ ap (λ bounds. type.Array bounds c.in-Array.element) (sym c.as_slice.ensures)
    ∙ ap (type.Array c.as_slice.result.now) (sym c.get.ensures)) c.requires.at
    c.as_slice-in-Index.result.now c.args.step.now (c.in-Index.is ∙ ap step.Index (sym c.as_slice-in-Index.ensures))
    c.element_at.result c.element_at.ensures.same c.element_at.ensures.inner c.element_at.ensures.its_type

pub returns-in-Name-step : goal.returns-in-Name-step
returns-in-Name-step c =
    let all = declarations_in c.args.scopes.now in
    let name = c.as_slice-in-Name-step.result.now in
    if_ok (λ found. found ≡ option_map (entry_from c.args.at.place) (entry_at c.args.scopes.now c.args.at.inner.scope (key_of name)))
    (LeadsTo all (after_step c.args.at.place c.args.at.ty.now c.args.step.now)) c.entry_of_name.result
    (λ found h. subst (LeadsTo all (after_step c.args.at.place c.args.at.ty.now c.args.step.now)) (sym h)
    (struct_leads c.args.scopes.now c.args.at c.in-Struct.field-0 name c.args.step.now c.in-Struct.is
    (c.in-Name-step.is ∙ ap step.Name (sym c.as_slice-in-Name-step.ensures)) c.requires.scopes c.requires.at))
    c.entry_of_name.ensures
