use Rattle.std.proofs.Common.{◌≡◌, ◌++◌, drop, take, arith}
use Rattle.std.proofs.lemmas.Grind.{common_steps}
use Rattle.image_text.specs.Report.{row_shown}
use Rattle.image_text.proofs.ReportLines.{further}
use Rattle.image_text.proofs.report.put_area.Goals as goal

pub loop-at-preserved : goal.loop-at-preserved
loop-at-preserved c =
    let more : c.show_row.new.out.items
    ≡ c.loop-at.out.items ++ row_shown c.args.all c.args.name.now c.loop-at.at (take 16 (drop c.loop-at.at c.args.bytes.now)) =
    grind (arith, common_steps) in
    record {
      at = omega arith;
      same =
          further c.args.all c.args.name.now c.loop-at.at c.args.bytes.now c.loop-at.out.items c.show_row.new.out.items _ c.loop-at.invariant.at
          (omega arith) c.loop-at.invariant.same more;
    }
