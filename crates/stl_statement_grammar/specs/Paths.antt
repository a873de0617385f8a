-- Names and paths as operands. A name of the symbol table, a path in a data block, a path that begins with a
-- variable. Blanks are free inside the brackets of an index, and before them.
-- Held against: this project's own source form.
use Rattle.std.specs.Prelude.{ℕ, ℤ, pos, neg_ℤ, ◌&&◌, if◌then◌else◌, List, [], ◌∷◌, codes, Option, None, option_map}
use Rattle.s7_base.specs.declared.token.Token.{Token}
use Rattle.stl_statement_grammar.specs.Constants.{begins_glued}
use Rattle.digit_texts.specs.Digits.{kept_number}
use Rattle.stl_statement_grammar.specs.Readers.{and_then, fitting, further, or_else, read_as, all_items}
use Rattle.stl_statement_grammar.specs.Words.{is_joined, is_joined_word, is_quoted_kind, is_sign, is_word_kind}
use Rattle.stl_statement_grammar.specs.declared.mnemonic.Read.{Read}
use Rattle.stl_statement_grammar.specs.declared.mnemonic.Read.TheVariants.{Fits, No}
use Rattle.stl_tree.specs.declared.raw.PathStep.{PathStep}
use Rattle.stl_tree.specs.declared.raw.PathStep.TheVariants.{Index, Name}
use Rattle.stl_tree.specs.declared.raw.RawOperand.{RawOperand}
use Rattle.stl_tree.specs.declared.raw.RawOperand.TheVariants.{InBlock, Local, Named}

-- Indices

-- a word that is a number of any size
abbrev pub number_word : Token → Option ℕ
number_word token = if is_word_kind token.kind then kept_number token.text else None

-- a number after a minus, with no blank between them
abbrev pub minus_number : Token → Option ℤ
minus_number token = if token.glued then option_map (λ n. neg_ℤ (pos n)) (number_word token) else None

abbrev pub plain_number : Token → Option ℤ
plain_number token = option_map pos (number_word token)

-- a whole number
abbrev pub whole_at : List Token → Read ℤ
whole_at [] = No
whole_at (first ∷ []) = fitting 1 (plain_number first)
whole_at (first ∷ second ∷ rest) =
    if is_sign (codes "-") first then fitting 2 (minus_number second) else fitting 1 (plain_number first)

-- a comma and a whole number
abbrev pub next_index_at : List Token → Read ℤ
next_index_at [] = No
next_index_at (comma ∷ rest) = if is_sign (codes ",") comma then further 1 (whole_at rest) else No

-- indices, if the bracket that closes them follows
abbrev pub after_indices : List ℤ → List Token → Read (List ℤ)
after_indices indices [] = No
after_indices indices (first ∷ rest) = if is_sign (codes "]") first then Fits indices 1 else No

-- the indices after a first one, and the bracket that closes them
abbrev pub indices_behind : ℤ → List Token → Read (List ℤ)
indices_behind index tokens =
    and_then tokens (all_items next_index_at 0 tokens) (λ indices rest. after_indices (index ∷ indices) rest)

-- the indices after a bracket, one or several, and the bracket that closes them
abbrev pub indices_at : List Token → Read (List ℤ)
indices_at tokens = and_then tokens (whole_at tokens) (λ index rest. indices_behind index rest)

-- Steps

-- a point and a name, with no blank before either
abbrev pub component_at : List Token → Read PathStep
component_at [] = No
component_at (a ∷ []) = No
component_at (point ∷ word ∷ rest) =
    if is_joined (codes ".") point && is_joined_word word then Fits (Name word.text) 2 else No

-- indices in brackets
abbrev pub element_at : List Token → Read PathStep
element_at [] = No
element_at (first ∷ rest) = if is_sign (codes "[") first then further 1 (read_as Index (indices_at rest)) else No

abbrev pub step_at : List Token → Read PathStep
step_at tokens = or_else (component_at tokens) (element_at tokens)

-- a path: a name, and all steps after it
abbrev pub path_at : List Token → Read (List PathStep)
path_at [] = No
path_at (word ∷ rest) =
    if is_word_kind word.kind then further 1 (read_as (λ steps. Name word.text ∷ steps) (all_items step_at 0 rest))
    else No

-- Names

-- a path in a data block, after the name of the block: a point and the path, with no blank before either
abbrev pub in_block_behind : List ℕ → List Token → Read RawOperand
in_block_behind name [] = No
in_block_behind name (point ∷ rest) =
    if is_joined (codes ".") point && begins_glued rest then further 2 (read_as (InBlock name) (path_at rest)) else No

-- a name of the symbol table, or a path in the data block of this name
abbrev pub named_behind : List ℕ → List Token → Read RawOperand
named_behind name rest = or_else (in_block_behind name rest) (Fits (Named name) 1)

-- a variable: `#` and a path, with no blank between them
abbrev pub local_behind : List Token → Read RawOperand
local_behind rest = if begins_glued rest then further 1 (read_as Local (path_at rest)) else No

-- the name at a place where a place of memory may be written
abbrev pub named_at : List Token → Read RawOperand
named_at [] = No
named_at (first ∷ rest) =
    if is_quoted_kind first.kind then named_behind first.text rest
    else if is_sign (codes "#") first then local_behind rest
    else No
