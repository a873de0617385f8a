use Rattle.std.proofs.Common.{subst}
use Rattle.symbol_layout.specs.Kept.{sections_now}
use Rattle.data_contents.specs.inner.Inside.{AreKept}
use Rattle.data_contents.proofs.Filling.{laid_kept}
use Rattle.data_contents.proofs.content.content_of.Goals as goal

pub content_with_values-requires-clause-kept : goal.content_with_values-requires-clause-kept
content_with_values-requires-clause-kept c =
    subst AreKept c.sections.ensures (laid_kept (sections_now c.sections.result.now) c.in-Ok.layout c.in-Ok.ensures)
