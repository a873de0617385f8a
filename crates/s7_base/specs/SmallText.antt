-- The bytes of a short text, wherever they are.
use Rattle.std.specs.Prelude.{ℕ, List, take}
use Rattle.s7_base.specs.declared.small_text.Bytes.{Bytes}
use Rattle.s7_base.specs.declared.small_text.Bytes.TheVariants.{Here, There}

-- the bytes of a text
abbrev pub bytes_of : Bytes → List ℕ
bytes_of (Here size room) = take size room
bytes_of (There list) = list
