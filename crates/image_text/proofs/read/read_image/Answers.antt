use Rattle.std.proofs.Common.{◌≡◌, ◌==◌, ◌<◌, length, sym, ap, ◌∙◌, arith}
use Rattle.std.specs.List.{slice_split}
use Rattle.std.proofs.lemmas.Grind.{common_steps}
use Rattle.s7_base.specs.Tokens.{line_after}
use Rattle.image_text.specs.Image.{lines_on}
use Rattle.image_text.proofs.Lines.{left_behind, line_done}
use Rattle.image_text.proofs.read.read_image.Goals as goal

pub loop-memory-preserved : goal.loop-memory-preserved
loop-memory-preserved c =
    let some : 0 < length c.cut_line.result.1.now = grind (arith, common_steps) in
    let next : c.saturating_add-line.result ≡ line_after c.loop-memory.line = grind (arith, common_steps) in
    let rest = left_behind (λ b. b == 10) c.cut_line.result.1.now some in
    let done = rw c.strip_return.ensures at c.in_ok-apply_line.ensures.done in
    let behind =
    line_done c.loop-memory.line c.saturating_add-line.result c.loop-memory.rest.now
    c.cut_line.result.0.now c.cut_line.result.1.now c.loop-memory.memory c.apply_line.new.memory _
    c.cut_line.ensures.cut c.loop-memory.invariant.same done next in
    record {
      usable = c.in_ok-apply_line.ensures.usable;
      same = ap (λ text. lines_on c.saturating_add-line.result (slice_split (λ b. b == 10) text) c.apply_line.new.memory) c.rest_after-rest.ensures
          ∙ ap (λ pieces. lines_on c.saturating_add-line.result pieces c.apply_line.new.memory) (sym rest) ∙ behind;
      memory = c.in_ok-apply_line.ensures.stays c.args.blocks.now c.loop-memory.invariant.memory;
    }
