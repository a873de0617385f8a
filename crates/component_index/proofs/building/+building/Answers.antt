use Rattle.std.proofs.Common.{ℕ, List, Some, ap, subst, sym, ◌∙◌}
use Rattle.stl_rules.specs.DeclarationRules.{key_of}
use Rattle.symbol_layout.specs.Structs.{struct_in}
use Rattle.symbol_layout.proofs.Structs.{inner_array, inner_date, inner_elementary, inner_struct}
use Rattle.component_index.specs.inner.Scopes.{IsInner, IsOf, declarations_in, table_of, with_entry}
use Rattle.component_index.proofs.Growing.{if_ok, no_inner, own_inner, same_inner}
use Rattle.component_index.proofs.Tables.{end_turn, entry_turn}
use Rattle.component_index.proofs.building.«+building».Goals as goal

pub put_inner-returns-in-Elementary-clause-inner : goal.put_inner-returns-in-Elementary-clause-inner
put_inner-returns-in-Elementary-clause-inner t c =
    no_inner (declarations_in c.args.scopes.now.items) (record { scope = 0; bits = 0 }) c.args.ty.now
    (ap struct_in c.in-Elementary.is ∙ inner_elementary c.in-Elementary.field-0)

pub put_inner-returns-in-DateAndTime-clause-inner : goal.put_inner-returns-in-DateAndTime-clause-inner
put_inner-returns-in-DateAndTime-clause-inner t c =
    no_inner (declarations_in c.args.scopes.now.items) (record { scope = 0; bits = 0 }) c.args.ty.now (ap struct_in c.in-DateAndTime.is ∙ inner_date)

pub put_inner-returns-in-Array-clause-inner : goal.put_inner-returns-in-Array-clause-inner
put_inner-returns-in-Array-clause-inner t c =
    let all = declarations_in c.put_inner.new.scopes.items in
    if_ok (λ inner. IsInner all inner c.get.result.now) (λ inner. IsInner all inner c.args.ty.now) c.put_inner.result
    (λ inner h. same_inner all inner c.get.result.now c.args.ty.now
    (ap struct_in c.in-Array.is ∙ inner_array c.in-Array.field-0 c.in-Array.element ∙ ap struct_in (sym c.get.ensures)) h)
    c.put_inner.ensures.inner

pub put_inner-returns-in_ok-end-in-Struct-clause-inner : goal.put_inner-returns-in_ok-end-in-Struct-clause-inner
put_inner-returns-in_ok-end-in-Struct-clause-inner t c =
    let all = declarations_in c.put_scope.new.scopes.items in
    if_ok (λ inner. IsOf all inner c.as_slice-in-Struct.result.now) (λ inner. IsInner all inner c.args.ty.now) c.put_scope.result
    (λ inner h. own_inner all inner c.as_slice-in-Struct.result.now c.args.ty.now
    (ap struct_in c.in-Struct.is ∙ inner_struct c.in-Struct.parts ∙ ap Some (sym c.as_slice-in-Struct.ensures)) h)
    c.put_scope.ensures.own

pub put_section-loop-d-preserved : goal.put_section-loop-d-preserved
put_section-loop-d-preserved t c =
    let decls = c.args.decls.now in
    let i = c.loop-d.d-index in
    let d = c.d-item.result in
    let all = declarations_in c.put_inner.new.scopes.items in
    let e = c.entry_behind.result in (
      c.in_ok-inner.ensures.scopes,
      λ n ds h. c.in_ok-inner.ensures.grown n ds (c.loop-d.invariant.1 n ds h),
      end_turn decls i d c.loop-d-test.true c.d-item.is c.args.start c.loop-d.end c.loop-d.invariant.2 c.end_of-end.result c.end_of-end.ensures,
      entry_turn decls i d c.loop-d-test.true c.d-item.is c.args.start c.loop-d.end c.loop-d.invariant.2 (declarations_in c.loop-d.scopes.items) all
          c.in_ok-inner.ensures.grown (table_of c.reserve.new.self) (table_of c.loop-d.names) (table_of c.add_entry.new.self) e c.loop-d.invariant.3
          c.entry_behind.ensures.place c.entry_behind.ensures.its_type
          (subst (λ inner. IsInner all inner d.ty) (sym c.entry_behind.ensures.inner) c.in_ok-inner.ensures.inner)
          (c.in_ok-add_entry.ensures ∙ ap (λ (name : List ℕ). with_entry (key_of name) e (table_of c.loop-d.names)) c.as_slice.ensures),
    )
