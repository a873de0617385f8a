use Rattle.std.proofs.Common.{[], ◌++◌, ◌-◌, List, ℤ, Bool, length, ap, ◌∙◌}
use Rattle.stl_tree.specs.declared.raw.Constant.{Constant}
use Rattle.stl_tree.specs.declared.raw.DeclType.{DeclType}
use Rattle.stl_tree.specs.declared.raw.InitialItem.{InitialItem}
use Rattle.symbol_layout.proofs.Laying.{array_laid, laid_all, laid_next}
use Rattle.stl_rules.specs.Contents.{bits_behind, filled_to, times, type_bits, values_of}
use Rattle.stl_rules.specs.Extents.{elements_in}
use Rattle.stl_rules.specs.declared.layout.Extent.{Extent}
use Rattle.symbol_layout.proofs.contents.«+contents».Goals as goal

pub put_bits-loop-d-preserved : goal.put_bits-loop-d-preserved
put_bits-loop-d-preserved t c =
    laid_next (bits_behind c.args.bits.now.items c.args.decls.now) c.loop-d.bits.items c.fill.new.bits.items c.in_ok-own.own.items
    c.extend_from_slice.new.self.items c.args.decls.now c.loop-d.d-index c.d-item.result c.loop-d-test.true c.d-item.is
    (c.in_ok-fill.ensures ∙ ap (λ (x : Extent). filled_to x.alignment c.loop-d.bits.items) c.extent_of.ensures.same)
    (c.in_ok-own.ensures
    ∙ ap (λ (values : List Constant). type_bits c.d-item.result.ty values)
    (c.as_slice-in-loop-d.ensures.value ∙ c.in_ok-values.ensures ∙ ap (λ (items : List InitialItem). values_of items) c.as_slice.ensures))
    (c.in_ok-extend_from_slice.ensures.items
    ∙ ap (λ (own : List Bool). c.fill.new.bits.items ++ own) c.as_slice-in-loop-d-2.ensures.value)
    c.loop-d.invariant

pub put_bits-returns : goal.put_bits-returns
put_bits-returns t c =
    laid_all (bits_behind c.args.bits.now.items c.args.decls.now) c.loop-d.bits.items c.args.decls.now c.loop-d.d-index c.loop-d-test.false
    c.loop-d.invariant

pub type_bits-returns-in_ok-fill-in-Array : goal.type_bits-returns-in_ok-fill-in-Array
type_bits-returns-in_ok-fill-in-Array t c =
    array_laid c.args.ty.now c.in-Array.element c.in-Array.bounds c.args.values.now c.loop-value.value-index c.loop-value.bits.items
    c.put_blank.new.bits.items c.fill.new.bits.items c.in-Array.is c.loop-value-test.false c.loop-value.invariant
    (c.in_ok-put_blank-in-Array.ensures
    ∙ ap (λ (bounds : List (ℤ × ℤ)). c.loop-value.bits.items ++ times (elements_in bounds - length c.args.values.now) c.as_slice-in-Array-2.result.now)
    c.as_slice-in-Array.ensures
    ∙ ap (λ (blank : List Bool). c.loop-value.bits.items ++ times (elements_in c.in-Array.bounds - length c.args.values.now) blank)
    (c.as_slice-in-Array-2.ensures.value ∙ c.in_ok-blank-in-Array.ensures
    ∙ ap (λ (e : DeclType). type_bits e []) c.get-in-Array.ensures))
    c.in_ok-fill-in-Array.ensures
