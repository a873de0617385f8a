use Rattle.std.proofs.Common.{ap, sym, ◌∙◌, arith}
use Rattle.s7_base.specs.Tokens.{is_same_word}
use Rattle.symbol_layout.proofs.Capped.{end_of_kept}
use Rattle.symbol_layout.proofs.Turns.{goes_past}
use Rattle.stl_rules.specs.Extents.{end_behind, extent_of}
use Rattle.stl_rules.specs.declared.layout.Extent.{Extent}
use Rattle.symbol_layout.specs.Kept.{capped_bits}
use Rattle.symbol_layout.proofs.path.named_behind.Goals as goal

pub loop-d-preserved : goal.loop-d-preserved
loop-d-preserved c = (
  omega (arith, c.end_behind-end.ensures),
  goes_past c.args.start c.loop-d.end c.loop-d.d-index c.args.decls.now c.args.name.now c.d-item.result
      c.loop-d-test.true c.d-item.is c.loop-d.invariant.1 c.end_behind-end.result
      (c.end_behind-end.ensures ∙ ap (λ (x : Extent). capped_bits (end_behind c.loop-d.end x)) c.extent_of-extent.ensures.same
      ∙ end_of_kept c.loop-d.end (extent_of c.d-item.result.ty))
      (ap (λ n. is_same_word n c.args.name.now) (sym c.as_slice.ensures) ∙ sym c.is_same_name.ensures ∙ c.if-is_same_name.false),
)
