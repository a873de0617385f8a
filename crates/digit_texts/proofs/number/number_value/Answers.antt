use Rattle.std.proofs.Common.{◌≡◌, ◌+◌, ◌*◌, ◌-◌, get_or, arith}
use Rattle.std.proofs.lemmas.Grind.{common_steps}
use Rattle.digit_texts.specs.Digits.{capped_number}
use Rattle.digit_texts.proofs.Kept.{digit_further}
use Rattle.digit_texts.proofs.number.number_value.Goals as goal

pub loop-digit-preserved : goal.loop-digit-preserved
loop-digit-preserved c =
    let value : c.with_digit-value.result ≡ capped_number (c.loop-digit.value * 10 + (get_or c.args.digits.now c.loop-digit.digit-index 0 - 48)) =
    grind (arith, common_steps) in
    record {
      within = omega arith;
      same =
          digit_further c.loop-digit.value c.with_digit-value.result c.loop-digit.digit-index _ c.args.digits.now
          (omega arith) value c.loop-digit.invariant.same;
    }
