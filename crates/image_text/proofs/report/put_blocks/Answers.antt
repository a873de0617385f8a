use Rattle.std.proofs.Common.{◌≡◌, ◌++◌, ap, ◌∙◌, arith}
use Rattle.std.specs.List.{flat_map}
use Rattle.std.proofs.lemmas.Grind.{common_steps}
use Rattle.memory_areas.specs.Areas.{numbers_of}
use Rattle.image_text.specs.inner.Fields.{numbered_text}
use Rattle.image_text.proofs.Shown.{shown}
use Rattle.image_text.proofs.report.put_blocks.Goals as goal

pub returns : goal.returns
returns c =
    let all : c.loop-number.out.items ≡ c.args.out.now.items ++ flat_map (numbered_text c.args.memory.now) (numbers_of c.args.memory.now.areas.blocks) =
    grind (arith, common_steps) in
    all
    ∙ ap (λ text. c.args.out.now.items ++ text)
    (shown c.args.memory.now c.numbers-number-items.result.now c.numbers-number-items.ensures.value c.numbers-number-items.ensures.ascend)
