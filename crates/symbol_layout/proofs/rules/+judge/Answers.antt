use Rattle.std.proofs.Common.{◌++◌, ap, sym, ◌∙◌, arith, drop}
use Rattle.std.proofs.Math.ListN.{drop_of_length-le}
use Rattle.stl_tree.specs.declared.raw.DeclType.TheVariants as type
use Rattle.stl_rules.proofs.Equations.{breaks_date, breaks_elementary}
use Rattle.symbol_layout.proofs.Judging.{names_next, noted_all, noted_array, noted_declaration, noted_next, noted_none, noted_struct, on_ok}
use Rattle.stl_rules.specs.DeclarationRules.{scope_breaks}
use Rattle.symbol_layout.proofs.rules.«+judge».Goals as goal

pub judge_declaration-returns : goal.judge_declaration-returns
judge_declaration-returns t c =
    on_ok c.judge_values.result
    (noted_declaration c.args.breaks.now c.judge_type.new.breaks c.judge_values.new.breaks c.args.d.now c.in_ok-judge_type.ensures)
    c.judge_values.ensures

pub judge_scope-loop-d-preserved : goal.judge_scope-loop-d-preserved
judge_scope-loop-d-preserved t c = (
  names_next c.loop-d.names c.judge_name.new.names c.reserve.new.self c.args.decls.now c.loop-d.d-index c.d-item.result c.loop-d-test.true c.d-item.is
      c.loop-d.invariant.0 c.in_ok-judge_name.ensures.names,
  noted_next (c.args.breaks.now ++ scope_breaks c.reserve.new.self c.args.decls.now) c.loop-d.breaks c.judge_name.new.breaks c.judge_declaration.new.breaks
      c.loop-d.names c.judge_name.new.names c.args.decls.now c.loop-d.d-index c.d-item.result c.loop-d-test.true c.d-item.is
      c.in_ok-judge_name.ensures.names c.in_ok-judge_name.ensures.breaks c.in_ok-judge_declaration.ensures c.loop-d.invariant.1,
)

pub judge_scope-returns-clause-breaks : goal.judge_scope-returns-clause-breaks
judge_scope-returns-clause-breaks t c =
    noted_all (c.args.breaks.now ++ scope_breaks c.reserve.new.self c.args.decls.now) c.loop-d.breaks c.loop-d.names (drop c.loop-d.d-index c.args.decls.now)
    (drop_of_length-le c.args.decls.now (omega (arith, c.loop-d-test.false))) c.loop-d.invariant.1
    ∙ ap (λ ns. c.args.breaks.now ++ scope_breaks ns c.args.decls.now) c.in_ok-reserve.ensures

pub judge_type-returns-in-Elementary : goal.judge_type-returns-in-Elementary
judge_type-returns-in-Elementary t c =
    noted_none c.args.breaks.now c.args.ty.now (type.Elementary c.in-Elementary.field-0) c.args.line c.in-Elementary.is
    (breaks_elementary c.in-Elementary.field-0 c.args.line)

pub judge_type-returns-in-DateAndTime : goal.judge_type-returns-in-DateAndTime
judge_type-returns-in-DateAndTime t c =
    noted_none c.args.breaks.now c.args.ty.now type.DateAndTime c.args.line c.in-DateAndTime.is (breaks_date c.args.line)

pub judge_type-returns-in_ok-judge_array-in-Array : goal.judge_type-returns-in_ok-judge_array-in-Array
judge_type-returns-in_ok-judge_array-in-Array t c =
    on_ok c.judge_type.result
    (noted_array c.args.breaks.now c.judge_array.new.breaks c.judge_type.new.breaks c.args.ty.now c.as_slice.result.now c.get.result.now
    c.args.line
    (c.in-Array.is ∙ ap (λ bounds. type.Array bounds c.in-Array.element) (sym c.as_slice.ensures)
    ∙ ap (type.Array c.as_slice.result.now) (sym c.get.ensures))
    c.in_ok-judge_array-in-Array.ensures)
    c.judge_type.ensures

pub judge_type-returns-in-Struct : goal.judge_type-returns-in-Struct
judge_type-returns-in-Struct t c =
    on_ok c.judge_scope.result
    (λ noted. noted_struct c.args.breaks.now c.judge_scope.new.breaks c.args.ty.now c.as_slice-in-Struct.result.now c.args.line
    (c.in-Struct.is ∙ ap type.Struct (sym c.as_slice-in-Struct.ensures))
    (noted ∙ ap (λ ns. c.args.breaks.now ++ scope_breaks ns c.as_slice-in-Struct.result.now) c.new-names.ensures))
    c.judge_scope.ensures.breaks
