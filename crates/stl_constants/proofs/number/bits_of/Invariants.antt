use Rattle.std.proofs.Common.{◌≡◌, drop}
use Rattle.stl_statement_grammar.specs.Numbers.{bits_from}
use Rattle.stl_constants.specs.inner.Bits.{AreBits}
use Rattle.stl_constants.proofs.number.bits_of.Given as goal

-- the digits that are left, behind those so far, give those of all
abbrev pub invariant-loop-b : goal.invariant-loop-b
invariant-loop-b l = AreBits l.bits × (bits_from l.bits (drop l.b-index l.text) ≡ bits_from (record { count = 0; value = 0 }) l.text)
