-- Sections of declarations. With which words they begin and end, which blocks have them, in which order, and what may
-- be in them.
-- Held against: this project's own source form.
use Rattle.std.specs.Prelude.{ℕ, Bool, true, false, ◌&&◌, nat_lt, if◌then◌else◌, List, codes, Option, Some, None}
use Rattle.s7_base.specs.declared.token.Token.{Token}
use Rattle.stl_grammar.specs.declared.declaration.Section.{Section}
use Rattle.stl_grammar.specs.declared.declaration.Section.TheVariants as part
use Rattle.stl_statement_grammar.specs.Words.{is_word}
use Rattle.stl_tree.specs.declared.raw.BlockKind.{BlockKind}
use Rattle.stl_tree.specs.declared.raw.BlockKind.TheVariants as block

-- Words

-- the word with which a section begins
abbrev pub section_word : Section → List ℕ
section_word part.Input = codes "VAR_INPUT"
section_word part.Output = codes "VAR_OUTPUT"
section_word part.InOut = codes "VAR_IN_OUT"
section_word part.Static = codes "VAR"
section_word part.Temp = codes "VAR_TEMP"
section_word part.Own = codes "STRUCT"

-- the word with which a section ends
abbrev pub end_of_section : Section → List ℕ
end_of_section part.Own = codes "END_STRUCT"
end_of_section other = codes "END_VAR"

-- a section is the STRUCT of a data block
abbrev pub is_own : Section → Bool
is_own part.Own = true
is_own other = false

-- a section of formals, by its word
abbrev pub formal_section : Token → Option Section
formal_section word =
    if is_word (codes "VAR_INPUT") word then Some part.Input
    else if is_word (codes "VAR_OUTPUT") word then Some part.Output
    else if is_word (codes "VAR_IN_OUT") word then Some part.InOut
    else None

-- a section that is not one of formals, by its word
abbrev pub inner_section : Token → Option Section
inner_section word =
    if is_word (codes "VAR") word then Some part.Static
    else if is_word (codes "VAR_TEMP") word then Some part.Temp
    else if is_word (codes "STRUCT") word then Some part.Own
    else None

abbrev pub formal_or_inner : Option Section → Option Section → Option Section
formal_or_inner (Some section) inner = Some section
formal_or_inner None inner = inner

-- the section that begins with a word
abbrev pub section_named : Token → Option Section
section_named word = formal_or_inner (formal_section word) (inner_section word)

-- Which may open

-- a block of this kind has formals
abbrev pub has_formals : BlockKind → Bool
has_formals block.Ob = false
has_formals block.Fc = true
has_formals block.Fb = true
has_formals block.Db = false

-- a block of this kind may have this section: each block of code has temporaries, and a function block variables that
-- stay in its instance
abbrev pub has_section : BlockKind → Section → Bool
has_section block.Db part.Own = true
has_section block.Db other = false
has_section kind part.Own = false
has_section kind part.Temp = true
has_section block.Fb part.Static = true
has_section kind part.Static = false
has_section kind formals = has_formals kind

-- the rank of a section in the order of sections
abbrev pub rank_of : Section → ℕ
rank_of part.Input = 0
rank_of part.Output = 1
rank_of part.InOut = 2
rank_of part.Static = 3
rank_of part.Temp = 4
rank_of part.Own = 5

-- a section may come after another one, or after none
abbrev pub is_later : Option Section → Section → Bool
is_later None section = true
is_later (Some before) section = nat_lt (rank_of before) (rank_of section)

-- a section may open in a block of this kind, after another one or after none
abbrev pub may_open : BlockKind → Option Section → Section → Bool
may_open kind before section = has_section kind section && is_later before section

abbrev pub if_open : BlockKind → Option Section → Option Section → Option Section
if_open kind before None = None
if_open kind before (Some section) = if may_open kind before section then Some section else None

-- the section that a word opens in a block of this kind, after another section or after none
abbrev pub section_at : BlockKind → Option Section → Token → Option Section
section_at kind before word = if_open kind before (section_named word)

-- What may be in a section

-- a section is one of formals
abbrev pub is_formal : Section → Bool
is_formal part.Input = true
is_formal part.Output = true
is_formal part.InOut = true
is_formal other = false

-- the declarations of a section may have initial values: what stays in a data block has them
abbrev pub takes_values : BlockKind → Section → Bool
takes_values block.Fc section = false
takes_values kind part.Temp = false
takes_values kind other = true

-- a declaration of a section may be of DATE_AND_TIME
abbrev pub takes_dates : Section → Bool
takes_dates part.Temp = true
takes_dates other = false
