-- Status bits after bit logic. The bits of the status word, and what checks, brackets, assignments, edges, the
-- instructions on the RLO alone, jumps and ends of blocks make of them, an equation for each mnemonic.
-- Held against: the manual's chapters 'Bit Logic', 'Logic Control' and 'Program Control'.
use Rattle.std.specs.Prelude.{Bool, true, false, not, ◌&&◌, ◌||◌, if◌then◌else◌}
use Rattle.s7_base.specs.declared.check.Check.{Check}
use Rattle.s7_base.specs.declared.check.Check.TheVariants as check
use Rattle.s7_base.specs.declared.check.Entry.{Entry}
use Rattle.status_word.specs.declared.test.Test.{Test}
use Rattle.status_word.specs.declared.test.Test.TheVariants as test

-- a truth value for each bit of the status word: /FC, which is set while a chain of checks goes on; the
-- result of logic operation; the status; OR; stored overflow and overflow; the condition codes; the
-- binary result
pub record StatusBits : Type 0 where
  pub nfc : Bool
  pub rlo : Bool
  pub sta : Bool
  pub orb : Bool
  pub os : Bool
  pub ov : Bool
  pub cc0 : Bool
  pub cc1 : Bool
  pub br : Bool

-- the bits at the first instruction: all zero
abbrev pub all_clear : StatusBits
all_clear =
    record {
      nfc = false;
      rlo = false;
      sta = false;
      orb = false;
      os = false;
      ov = false;
      cc0 = false;
      cc1 = false;
      br = false;
    }

-- the RLO after a check of bit b: at a first check, where /FC is 0, it counts as set before an AND, and
-- before the others it is the bit alone
abbrev pub rlo_after : Check → Bool → StatusBits → Bool
rlo_after check.A b s = ((s.rlo || not s.nfc) && b) || s.orb
rlo_after check.An b s = ((s.rlo || not s.nfc) && not b) || s.orb
rlo_after check.O b s = if s.nfc then s.rlo || b else b
rlo_after check.On b s = if s.nfc then s.rlo || not b else not b
rlo_after check.X b s = if s.nfc then (if s.rlo then not b else b) else b
rlo_after check.Xn b s = if s.nfc then (if s.rlo then b else not b) else not b

-- OR after a check: an AND keeps it, the others clear it
abbrev pub orb_after : Check → StatusBits → Bool
orb_after check.A s = s.orb
orb_after check.An s = s.orb
orb_after check.O s = false
orb_after check.On s = false
orb_after check.X s = false
orb_after check.Xn s = false

-- the status bits after A, AN, O, ON, X or XN of bit b
abbrev pub after_check : Check → Bool → StatusBits → StatusBits
after_check c b s = record s { rlo = rlo_after c b s; orb = orb_after c s; sta = b; nfc = true }

-- the answer to a test of the status word, CC1 before CC0: 00; 01 or 10; 10; 01; 00 or 10; 00 or 01; 11; the flag
-- itself
abbrev pub answer_to : Test → StatusBits → Bool
answer_to test.Eq s = not s.cc1 && not s.cc0
answer_to test.Ne s = (not s.cc1 && s.cc0) || (s.cc1 && not s.cc0)
answer_to test.Gt s = s.cc1 && not s.cc0
answer_to test.Lt s = not s.cc1 && s.cc0
answer_to test.Ge s = not s.cc0
answer_to test.Le s = not s.cc1
answer_to test.Uo s = s.cc1 && s.cc0
answer_to test.Ov s = s.ov
answer_to test.Os s = s.os
answer_to test.Br s = s.br

-- the status bits after O without operand: an AND before an OR is kept in OR, and the next check is a first one
abbrev pub after_or : StatusBits → StatusBits
after_or s = record s { orb = s.rlo && s.nfc; sta = true; nfc = false }

-- what an opening bracket keeps until it is closed
abbrev pub entry_of : Check → StatusBits → Entry
entry_of c s = record { check = c; rlo = s.rlo; orb = s.orb; nfc = s.nfc }

-- the status bits after an opening bracket, in which the next check is a first one
abbrev pub after_open : StatusBits → StatusBits
after_open s = record s { orb = false; sta = true; nfc = false }

-- the status bits with RLO, OR and /FC as a bracket kept them
abbrev pub with_bracket_entry : Entry → StatusBits → StatusBits
with_bracket_entry e s = record s { rlo = e.rlo; orb = e.orb; nfc = e.nfc }

-- the status bits after a closing bracket: the check that opened it, of the RLO inside, on what the bracket kept
abbrev pub after_close : Entry → StatusBits → StatusBits
after_close e s =
    record s {
      rlo = rlo_after e.check s.rlo (with_bracket_entry e s);
      orb = orb_after e.check (with_bracket_entry e s);
      sta = true;
      nfc = true;
    }

-- the status bits after =, S or R, by the new value of the bit
abbrev pub after_store : Bool → StatusBits → StatusBits
after_store b s = record s { sta = b; orb = false; nfc = false }

-- the status bits after SET
abbrev pub after_set : StatusBits → StatusBits
after_set s = record s { rlo = true; sta = true; orb = false; nfc = false }

-- the status bits after CLR
abbrev pub after_clear : StatusBits → StatusBits
after_clear s = record s { rlo = false; sta = false; orb = false; nfc = false }

-- the status bits after NOT
abbrev pub after_not : StatusBits → StatusBits
after_not s = record s { rlo = not s.rlo; sta = true }

-- the status bits after SAVE
abbrev pub after_save : StatusBits → StatusBits
after_save s = record s { br = s.rlo }

-- the RLO after FP, where the edge is a rising one, or FN, by the edge bit
abbrev pub rlo_at_edge : Bool → Bool → StatusBits → Bool
rlo_at_edge rising e s = if rising then s.rlo && not e else not s.rlo && e

-- the status bits after FP or FN, by the edge bit
abbrev pub after_edge : Bool → Bool → StatusBits → StatusBits
after_edge rising e s =
    record s { rlo = rlo_at_edge rising e s; sta = rlo_at_edge rising e s; orb = false; nfc = true }

-- the status bits after the end word of a block
abbrev pub after_end : StatusBits → StatusBits
after_end s = record s { os = false; orb = false; sta = true; nfc = false }

-- the status bits after JC, whether it jumps or not
abbrev pub after_jump : StatusBits → StatusBits
after_jump s = record s { orb = false; sta = true; rlo = true; nfc = false }
