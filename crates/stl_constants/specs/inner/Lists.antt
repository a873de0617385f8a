-- How far a list is read.
use Rattle.std.specs.Prelude.{ℕ, if◌then◌else◌, List, [], ◌∷◌, ◌++◌, codes}
use Rattle.s7_base.specs.declared.token.Token.{Token}
use Rattle.stl_constants.specs.declared.lists.Next.{Next}
use Rattle.stl_constants.specs.declared.lists.Next.TheVariants.{End, More, Other}
use Rattle.stl_statement_grammar.specs.Readers.{further, read_as}
use Rattle.stl_statement_grammar.specs.Words.{is_sign}
use Rattle.stl_statement_grammar.specs.declared.mnemonic.Read.{Read}

-- what follows an element of a list
abbrev pub next_of : List ℕ → List Token → Next
next_of close [] = Other
next_of close (sign ∷ rest) = if is_sign close sign then End else if is_sign (codes ",") sign then More else Other

-- elements of this many tokens, and what is read after them
abbrev pub read_further : {A : Type 0} → List A → ℕ → Read (List A) → Read (List A)
read_further done size behind = further size (read_as (λ more. done ++ more) behind)
