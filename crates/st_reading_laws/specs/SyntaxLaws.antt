-- Laws of syntax: a text has one raw tree or one refusal, and the grammar by binding strengths has the
-- expressions of the forms.
use Rattle.std.specs.Prelude.{◌≡◌, ◌⊎◌, ℕ, List}
use Rattle.s7_base.specs.declared.reason.Line.{Line}
use Rattle.s7_base.specs.declared.reason.Reason.{Reason}
use Rattle.st_grammar.specs.Derives.{Derives, IsSpelled}
use Rattle.st_grammar.specs.Syntax.{HasRawTree, IsSyntaxRefused}
use Rattle.st_grammar.specs.declared.kind.GrammarKind.{GrammarKind}
use Rattle.st_tree.specs.declared.raw.RawExpr.{RawExpr}
use Rattle.st_tree.specs.declared.raw.RawSt.{RawSt}

-- two trees of a text before its names are looked up are the same
abbrev pub OneRawTree : Type 0
OneRawTree = (bytes : List ℕ) (r s : RawSt) → HasRawTree bytes r → HasRawTree bytes s → r ≡ s

-- two refusals of a text for its tokens or its syntax have the same line and the same reason
abbrev pub OneSyntaxRefusal : Type 0
OneSyntaxRefusal =
    (bytes : List ℕ) (l m : Line) (q r : Reason) → IsSyntaxRefused bytes l q
    → IsSyntaxRefused bytes m r → (l ≡ m) × (q ≡ r)

-- no text has both a raw tree and a refusal for its tokens or its syntax
abbrev pub NotBothSyntaxes : Type 0
NotBothSyntaxes =
    (bytes : List ℕ) (raw : RawSt) (line : Line) (why : Reason)
    → HasRawTree bytes raw → IsSyntaxRefused bytes line why → ⊥

-- each text has a raw tree or a refusal for its tokens or its syntax
abbrev pub EachHasOneSyntax : Type 0
EachHasOneSyntax =
    (bytes : List ℕ)
    → ((raw : RawSt) × HasRawTree bytes raw) ⊎ ((line : Line) × (why : Reason) × IsSyntaxRefused bytes line why)

-- the grammar by binding strengths and the forms that keep their brackets are one
abbrev pub OneGrammar : Type 0
OneGrammar =
    (k : ℕ) (ts : List GrammarKind) (e : RawExpr)
    → (Derives k ts e → IsSpelled k ts e) × (IsSpelled k ts e → Derives k ts e)
