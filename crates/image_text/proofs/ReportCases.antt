-- Reports of small memories.
use Rattle.std.proofs.Common.{◌≡◌, refl, [], ◌∷◌, ◌++◌, Some, None}
use Rattle.std.specs.Prelude.{codes, replicate}
use Rattle.std.specs.Fmt.{digits}
use Rattle.s7_base.specs.declared.outcome.Fault.TheVariants.{DbNotOpen, DbMissing, AreaCode, Alignment, AreaLength, BcdDigit, DivideByZero}
use Rattle.s7_base.specs.declared.outcome.Outcome.TheVariants.{Ended, Going}
use Rattle.image_text.specs.Report.{report}

going : report Going (record { inputs = 1 ∷ []; outputs = []; markers = []; blocks = [] }) ≡ codes "# GOING\n"
unfolding digits
going = refl

one_marker : report (Ended None) (record { inputs = replicate 32 0; outputs = replicate 32 0; markers = 0 ∷ 5 ∷ replicate 30 0; blocks = [] })
    ≡ codes "# ENDED\nM 0: 00 05 00 00 00 00 00 00 00 00 00 00 00 00 00 00\n"
unfolding digits
one_marker = refl

second_line : report (Ended (Some DbMissing)) (record { inputs = replicate 31 0 ++ 171 ∷ []; outputs = 9 ∷ replicate 15 0; markers = []; blocks = [] })
    ≡ codes "# FAULT DbMissing\nI 16: 00 00 00 00 00 00 00 00 00 00 00 00 00 00 00 AB\nQ 0: 09 00 00 00 00 00 00 00 00 00 00 00 00 00 00 00\n"
unfolding digits
second_line = refl

two_blocks : report (Ended (Some DivideByZero)) (record {
  inputs = [];
  outputs = [];
  markers = [];
  blocks = record { number = 3; bytes = 0 ∷ 0 ∷ [] } ∷ record { number = 12; bytes = replicate 16 0 ++ 240 ∷ 15 ∷ [] } ∷ [];
}) ≡ codes "# FAULT DivideByZero\nDB3 0: 00 00\nDB12 0: 00 00 00 00 00 00 00 00 00 00 00 00 00 00 00 00\nDB12 16: F0 0F\n"
unfolding digits
two_blocks = refl

fault_not_open : report (Ended (Some DbNotOpen)) (record { inputs = []; outputs = []; markers = []; blocks = [] }) ≡ codes "# FAULT DbNotOpen\n"
unfolding digits
fault_not_open = refl

fault_code : report (Ended (Some AreaCode)) (record { inputs = []; outputs = []; markers = []; blocks = [] }) ≡ codes "# FAULT AreaCode\n"
unfolding digits
fault_code = refl

fault_alignment : report (Ended (Some Alignment)) (record { inputs = []; outputs = []; markers = []; blocks = [] }) ≡ codes "# FAULT Alignment\n"
unfolding digits
fault_alignment = refl

fault_length : report (Ended (Some AreaLength)) (record { inputs = []; outputs = []; markers = []; blocks = [] }) ≡ codes "# FAULT AreaLength\n"
unfolding digits
fault_length = refl

fault_digit : report (Ended (Some BcdDigit)) (record { inputs = []; outputs = []; markers = []; blocks = [] }) ≡ codes "# FAULT BcdDigit\n"
unfolding digits
fault_digit = refl
