-- What the loop over a text's tokens keeps, beside the judgement that it gives.
use Rattle.std.specs.Prelude.{◌≡◌, Bool, true, false, Option, Some, None, Result, Ok, Err}
use Rattle.s7_base.specs.declared.reason.Rejection.{Rejection}
use Rattle.s7_base.specs.declared.reason.Rejection.TheVariants.{Refused, NoMemory}
use Rattle.st_grammar.specs.inner.Judge.{text_in}
use Rattle.st_grammar.specs.inner.Machine.{code, TextSoFar, State}
use Rattle.st_syntax.specs.inner.Views.{state_of}
use Rattle.st_syntax.specs.declared.state.State.{State as CodeState}

-- the state of the code in a text, as a state of the pass; opaque, so that proofs of the whole don't open it
unfoldable pub state_view : CodeState → State code
state_view state = state_of state

-- the state after a token, if the token can follow
abbrev pub leads_to : Bool → CodeState → Option (State code)
leads_to true state = Some (state_view state)
leads_to false state = None

-- a judgement that is good has this text
abbrev pub HasText : Result (State code) Rejection → TextSoFar code → Type 0
HasText (Ok q) text = text_in q ≡ Some text
HasText (Err refused) text = ⊥

-- the code's answer is the judgement, or memory ran out
abbrev pub JudgedIs : State code → Option Rejection → Result (State code) Rejection → Type 0
JudgedIs state None given = given ≡ Ok state
JudgedIs state (Some (Refused line reason)) given = given ≡ Err (Refused line reason)
JudgedIs state (Some NoMemory) given = Unit {0}
