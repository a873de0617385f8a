-- The raw tree of a text. It is the tree before names are looked up, or the line and the reason of a refusal: first
-- all tokens count, then syntax and depth from the front.
-- Held against: IEC 61131-3, 'Structured Text', and this project's own rules.
use Rattle.std.specs.Prelude.{◌≡◌, ℕ, ◌≤◌, ◌<◌, List, [], ◌∷◌, ◌++◌, length, drop, map, Ok, Err}
use Rattle.s7_base.specs.Tokens.{line_at_end}
use Rattle.s7_base.specs.declared.reason.Line.{Line}
use Rattle.s7_base.specs.declared.reason.Reason.{Reason}
use Rattle.s7_base.specs.declared.reason.Reason.TheVariants as reason
use Rattle.s7_base.specs.declared.reason.Rejection.TheVariants.{Refused}
use Rattle.st_lexer.specs.StTokens.{tokens_of}
use Rattle.st_tree.specs.declared.token.StToken.{StToken}
use Rattle.st_grammar.specs.Forms.{Source}
use Rattle.st_grammar.specs.Grammar.{SourceFits, spell_source, raw_tree}
use Rattle.st_grammar.specs.Kinds.{kind_of}
use Rattle.st_tree.specs.Depth.{deepest}
use Rattle.st_grammar.specs.Levels.{levels_source}
use Rattle.st_grammar.specs.declared.kind.Fixed.TheVariants as fixed
use Rattle.st_grammar.specs.declared.kind.GrammarKind.{GrammarKind}
use Rattle.st_grammar.specs.declared.kind.GrammarKind.TheVariants as kind
use Rattle.st_tree.specs.declared.raw.RawSt.{RawSt}

-- a kind, and its line
pub record Lined : Type 0 where
  pub kind : GrammarKind
  pub line : Line

-- the kind of a token, with its line
abbrev pub with_line : StToken → Lined
with_line token = record { kind = kind_of token; line = token.line }

-- the end of a text on its last line
abbrev pub end_on : Line → Lined
end_on line = record { kind = kind.Fixed fixed.End; line = line }

-- the kinds of a text's tokens with that of its end
abbrev pub all_lined : List StToken → Line → List Lined
all_lined tokens line = map with_line tokens ++ end_on line ∷ []

-- the kinds of tokens, without their lines
abbrev pub kinds : List Lined → List GrammarKind
kinds items = map (λ (item : Lined). item.kind) items

-- these kinds are a text
pub record Reads (all : List GrammarKind) (source : Source) : Type 0 where
  pub fits : SourceFits source
  pub spelled : spell_source source ≡ all

-- no level is above a number
abbrev pub AllWithin : ℕ → List ℕ → Type 0
AllWithin most [] = Unit {0}
AllWithin most (level ∷ others) = (level ≤ most) × AllWithin most others

-- some text begins with these kinds
pub record Begins (front : List GrammarKind) : Type 0 where
  pub source : Source
  pub more : List GrammarKind
  pub reads : Reads (front ++ more) source

-- the levels of these kinds in the text that begins with them, the last one first
abbrev pub levels_in : {front : List GrammarKind} → Begins front → List ℕ
levels_in begins = drop (length begins.more) (levels_source begins.source)

-- some text begins with these kinds, and none of them makes a level too many
pub record BeginsWithin (front : List GrammarKind) : Type 0 where
  pub begins : Begins front
  pub within : AllWithin deepest (levels_in begins)

-- the first token that cannot follow, or the end where it cannot, is on this line
pub record FirstWrong (all : List Lined) (line : Line) : Type 0 where
  pub front : List Lined
  pub item : Lined
  pub back : List Lined
  pub split : all ≡ front ++ item ∷ back
  pub on_line : item.line ≡ line
  pub may_begin : BeginsWithin (kinds front)
  pub cannot_follow : Begins (kinds front ++ item.kind ∷ []) → ⊥

-- the first token that makes a level too many is on this line
pub record FirstDeep (all : List Lined) (line : Line) : Type 0 where
  pub front : List Lined
  pub item : Lined
  pub back : List Lined
  pub split : all ≡ front ++ item ∷ back
  pub on_line : item.line ≡ line
  pub can_follow : Begins (kinds front ++ item.kind ∷ [])
  pub level : ℕ
  pub others : List ℕ
  pub levels : levels_in can_follow ≡ level ∷ others
  pub too_deep : deepest < level
  pub within : AllWithin deepest others

-- the text has these tokens
abbrev pub HasLined : List ℕ → List Lined → Type 0
HasLined bytes all =
    (tokens : List StToken) × (tokens_of bytes ≡ Ok tokens) × (all_lined tokens (line_at_end bytes) ≡ all)

-- the text reads as this tree
pub record HasRawTree (bytes : List ℕ) (raw : RawSt) : Type 0 where
  pub all : List Lined
  pub found : HasLined bytes all
  pub source : Source
  pub reads : Reads (kinds all) source
  pub within : AllWithin deepest (levels_source source)
  pub same : raw_tree source ≡ raw

-- the text is refused on this line for this reason
abbrev pub IsSyntaxRefused : List ℕ → Line → Reason → Type 0
IsSyntaxRefused bytes line reason.BadToken = tokens_of bytes ≡ Err (Refused line reason.BadToken)
IsSyntaxRefused bytes line reason.BadSyntax = (all : List Lined) × HasLined bytes all × FirstWrong all line
IsSyntaxRefused bytes line reason.TooDeep = (all : List Lined) × HasLined bytes all × FirstDeep all line
IsSyntaxRefused bytes line other = ⊥
