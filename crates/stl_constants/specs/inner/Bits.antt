-- Binary digits have room in 32 bits.
use Rattle.std.specs.Prelude.{◌≤◌, ◌<◌, ◌^◌}
use Rattle.stl_statement_grammar.specs.declared.number.Bits.{Bits}

-- at most 32 binary digits, and a number that they can write
abbrev pub AreBits : Bits → Type 0
AreBits bits = (bits.count ≤ 32) × (bits.value < 2 ^ bits.count)
