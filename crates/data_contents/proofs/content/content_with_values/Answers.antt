use Rattle.std.proofs.Common.{length, sym, subst, ◌∙◌}
use Rattle.data_contents.specs.inner.Inside.{AreInside}
use Rattle.data_contents.proofs.Insides.{all_inside}
use Rattle.data_contents.proofs.content.content_with_values.Goals as goal

pub put_values-requires : goal.put_values-requires
put_values-requires c =
    subst (λ bytes. AreInside (length bytes) c.args.components.now)
    (sym (c.as_mut_slice.ensures.value ∙ c.into_vec-bytes.ensures ∙ c.requires.initial))
    (all_inside c.args.components.now c.requires.kept)
