use Rattle.std.proofs.Common.{◌≡◌, ◌++◌, ◌%◌, ◌-◌, drop, length}
use Rattle.image_text.specs.Report.{area_text}
use Rattle.image_text.proofs.report.put_area.Given as goal

-- what is written and the lines that are left are all lines
abbrev pub invariant-loop-at : goal.invariant-loop-at
invariant-loop-at l = record {
  at : l.at % 16 ≡ 0;
  same : l.out.items ++ area_text l.all l.name l.at (drop l.at l.bytes) ≡ l.initial.out.items ++ area_text l.all l.name 0 l.bytes;
}

abbrev pub decreases-loop-at : goal.decreases-loop-at
decreases-loop-at l = length l.bytes - l.at
