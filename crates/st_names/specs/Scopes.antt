-- What a name means in a unit. It is a register, else a formal or a local, else what is declared outside.
-- Held against: IEC 61131-3, 'Variables', and this project's own register variables.
use Rattle.std.specs.Prelude.{ℕ, List, find, Option, Some, None}
use Rattle.s7_base.specs.declared.register.Reg.{Reg}
use Rattle.st_names.specs.Names.{look_up}
use Rattle.st_tree.specs.Naming.{is_same}
use Rattle.st_tree.specs.Words.{register_word}
use Rattle.st_names.specs.declared.scope.Meaning.{Meaning}
use Rattle.st_names.specs.declared.scope.Meaning.TheVariants as meaning
use Rattle.st_names.specs.declared.scope.NameScope.{NameScope}
use Rattle.st_names.specs.declared.scope.TheConstants.{REGISTERS}

-- the register that a key names
unfoldable pub register_named : List ℕ → Option Reg
register_named key = find (λ r. is_same (register_word r) key) REGISTERS

-- the first of two meanings, or the second where there is none
abbrev pub or_else : Option Meaning → Option Meaning → Option Meaning
or_else None other = other
or_else (Some m) other = Some m

-- the meaning of a register's name
abbrev pub as_register : Option Reg → Option Meaning
as_register None = None
as_register (Some r) = Some (meaning.Register r)

-- what a key means in a unit: a register, else its formal or local, else what is declared outside
abbrev pub meaning_in : NameScope → List ℕ → Option Meaning
meaning_in scope key =
    or_else (as_register (register_named key)) (or_else (look_up key scope.inner) (look_up key scope.outer))
