-- The code's states as those of the pass.
use Rattle.std.specs.Prelude.{if◌then◌else◌, Option, Some, None}
use Rattle.st_statement_parser.specs.inner.BodyStates.{body_state_of}
use Rattle.st_grammar.specs.inner.Machine as machine
use Rattle.st_grammar.specs.inner.Machine.{code}
use Rattle.st_grammar.specs.inner.Steps.{may_type}
use Rattle.st_grammar.specs.declared.kind.Fixed.TheVariants as fixed
use Rattle.st_grammar.specs.declared.kind.GrammarKind.{GrammarKind}
use Rattle.st_grammar.specs.declared.kind.GrammarKind.TheVariants as kind
use Rattle.st_syntax.specs.declared.state.GlobalTail.{GlobalTail}
use Rattle.st_syntax.specs.declared.state.GlobalTail.TheVariants as global_tail
use Rattle.st_syntax.specs.declared.state.Typing.{Typing}
use Rattle.st_syntax.specs.declared.state.Typing.TheVariants as typing
use Rattle.st_syntax.specs.declared.state.TextSoFar.{TextSoFar}
use Rattle.st_syntax.specs.declared.state.BegunUnit.{BegunUnit}
use Rattle.st_syntax.specs.declared.state.SectionKind.{SectionKind}
use Rattle.st_syntax.specs.declared.state.SectionKind.TheVariants as section_kind
use Rattle.st_syntax.specs.declared.state.State.{State}
use Rattle.st_syntax.specs.declared.state.State.TheVariants as state

-- the part of a global after its name
abbrev pub tail_of : GlobalTail → machine.GlobalTail code
tail_of global_tail.AtWord = machine.at_word
tail_of global_tail.AtPlace = machine.at_place
tail_of (global_tail.AtColon v) = machine.at_colon v
tail_of (global_tail.AtType v) = machine.at_type v
tail_of (global_tail.AtSquare v) = machine.at_square v
tail_of (global_tail.AtZero v) = machine.at_zero v
tail_of (global_tail.AtDots v) = machine.at_dots v
tail_of (global_tail.AtLast v) = machine.at_last v
tail_of (global_tail.AtClose v last) = machine.at_close v last
tail_of (global_tail.AtOf v last) = machine.at_of v last
tail_of (global_tail.AtByte v last) = machine.at_byte v last
tail_of (global_tail.AtBecomes v last) = machine.at_becomes v last
tail_of (global_tail.AtOpen v last) = machine.at_open v last
tail_of (global_tail.AtItem v last items) = machine.at_item v last items
tail_of (global_tail.AtCount v last items count) = machine.at_count v last items count
tail_of (global_tail.AtValue v last items count) = machine.at_value v last items count
tail_of (global_tail.AtValueEnd v last items count b) = machine.at_value_end v last items count b
tail_of (global_tail.AtComma v last items) = machine.at_comma v last items
tail_of (global_tail.AtEnd v ty) = machine.at_end v ty

-- the part of a local after its name
abbrev pub typing_of : Typing → machine.Typing
typing_of typing.Colon = machine.local_colon
typing_of typing.Type = machine.local_type
typing_of (typing.End ty) = machine.local_end ty

-- the text so far
abbrev pub text_so_far_of : TextSoFar → machine.TextSoFar code
text_so_far_of text = record { globals = text.globals; units = text.units }

-- a unit that has begun
abbrev pub begun_unit_of : BegunUnit → machine.BegunUnit code
begun_unit_of begun = record { text = text_so_far_of begun.text; head = begun.head }

-- which section is read
abbrev pub section_kind_of : SectionKind → machine.SectionKind code
section_kind_of section_kind.Formals = machine.formals
section_kind_of (section_kind.Temps before) = machine.temps before

-- a token of a formal or a local after its name, but the `;`
abbrev pub typing_step : machine.SectionKind code → machine.Typing → GrammarKind → Option machine.Typing
typing_step which machine.local_colon (kind.Fixed fixed.Colon) = Some machine.local_type
typing_step which machine.local_type (kind.Fixed (fixed.Type ty)) =
    if may_type code which ty then Some (machine.local_end ty) else None
typing_step which x k = None

-- where the pass is in a text
abbrev pub state_of : State → machine.State code
state_of state.Start = machine.start
state_of (state.Globals done) = machine.globals done
state_of (state.GlobalTail begun x) = machine.global_tail begun.before begun.name begun.line (tail_of x)
state_of (state.Between text) = machine.between (text_so_far_of text)
state_of (state.Heading text program line) = machine.heading (text_so_far_of text) program line
state_of (state.Opened begun) = machine.opened (begun_unit_of begun)
state_of (state.FormalsDone begun before) = machine.formals_done (begun_unit_of begun) before
state_of (state.Section begun) =
    machine.section (begun_unit_of begun.unit) (section_kind_of begun.which) begun.done
state_of (state.Typing begun name line x) =
    machine.typing (begun_unit_of begun.unit) (section_kind_of begun.which) begun.done name line (typing_of x)
state_of (state.Inside unit at) =
    machine.inside (begun_unit_of unit.begun) unit.formals unit.locals (body_state_of at)
state_of (state.Over text) = machine.over (text_so_far_of text)
