-- How an answer stands to the defined one, whose place out of memory may take.
use Rattle.std.specs.Prelude.{◌≡◌, Result, Ok, Err}
use Rattle.s7_base.specs.declared.reason.Line.{Line}
use Rattle.s7_base.specs.declared.reason.Reason.{Reason}
use Rattle.s7_base.specs.declared.reason.Rejection.{Rejection}
use Rattle.s7_base.specs.declared.reason.Rejection.TheVariants.{Refused, NoMemory}

-- the answer is the defined one, or memory ran out
abbrev pub Answers : {X : Type 0} → Result X Rejection → Result X Rejection → Type 0
Answers (Ok x) defined = defined ≡ Ok x
Answers (Err (Refused line reason)) defined = defined ≡ Err (Refused line reason)
Answers (Err NoMemory) defined = Unit {0}

-- a property of a refusal's line and reason; memory may run out at any time
abbrev pub IfRefused : {X : Type 0} → Result X Rejection → (Line → Reason → Type 0) → Type 0
IfRefused (Ok x) P = Unit {0}
IfRefused (Err (Refused line reason)) P = P line reason
IfRefused (Err NoMemory) P = Unit {0}
