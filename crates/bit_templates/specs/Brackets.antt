-- The statements of brackets: what is kept when one is opened, and the check when it is closed.
use Rattle.std.specs.Prelude.{◌≡◌, ℕ, ◌+◌, ◌≤◌, true, false, List, [], ◌∷◌, slice_get, Some}
use Rattle.bit_templates.specs.Bits.{keep_of, next_rlo}
use Rattle.bit_templates.specs.declared.chain.Chain.{Chain}
use Rattle.bit_templates.specs.declared.chain.OpenBracket.{OpenBracket}
use Rattle.s7_base.specs.declared.check.Check.{Check}
use Rattle.s7_base.specs.declared.check.Check.TheVariants as check
use Rattle.s7_base.specs.declared.check.Entry.{Entry}
use Rattle.s7_base.specs.declared.register.Reg.TheVariants as reg
use Rattle.st_tree.specs.Values.{flag}
use Rattle.st_tree.specs.declared.expr.Expr.TheVariants as expr
use Rattle.st_tree.specs.declared.expr.StType.{StType}
use Rattle.st_tree.specs.declared.expr.StType.TheVariants as type
use Rattle.st_tree.specs.declared.expr.Var.{Var}
use Rattle.st_tree.specs.declared.expr.Var.TheVariants as var
use Rattle.st_tree.specs.declared.program.Stmt.{Stmt}
use Rattle.st_tree.specs.declared.state.Value.{Value}
use Rattle.template_parts.specs.Builders.{clear_or, literal_of, read_of, set_of}

-- the chain that is kept by three locals, this one and the next two
abbrev pub chain_at : ℕ → Chain
chain_at first = record { rlo = var.Local first; nfc = var.Local (first + 2); orb = var.Local (first + 1) }

-- a bracket is opened: the next three locals keep RLO, OR and NFC
abbrev pub open_of : ℕ → List Stmt
open_of first = keep_of first reg.Rlo ∷ keep_of (first + 1) reg.Orb ∷ keep_of (first + 2) reg.Nfc ∷ clear_or false

-- the end of a closed bracket: an AND puts OR back, the others clear it
abbrev pub behind_close : Check → Var → List Stmt
behind_close check.A orb = set_of reg.Orb (expr.Read orb) ∷ set_of reg.Nfc (literal_of true) ∷ []
behind_close check.An orb = set_of reg.Orb (expr.Read orb) ∷ set_of reg.Nfc (literal_of true) ∷ []
behind_close check.O orb = clear_or true
behind_close check.On orb = clear_or true
behind_close check.X orb = clear_or true
behind_close check.Xn orb = clear_or true

-- a bracket is closed: the RLO inside is checked in the chain that the bracket kept
abbrev pub close_of : OpenBracket → List Stmt
close_of o = set_of reg.Rlo (next_rlo o.kept o.check (read_of reg.Rlo)) ∷ behind_close o.check o.kept.orb

-- the bracket of a check, whose chain the locals from one on keep
abbrev pub bracket_at : ℕ → Check → OpenBracket
bracket_at first c = record { check = c; kept = chain_at first }

-- the types of the locals of a bracket
abbrev pub types_of_bracket : List StType
types_of_bracket = type.Bool ∷ type.Bool ∷ type.Bool ∷ []

-- What locals keep

-- three locals with numbers below `used` have the values that an open bracket has kept
pub record KeepsBracket (used : ℕ) (o : OpenBracket) (e : Entry) (locals : List Value) : Type 0 where
  pub first : ℕ
  pub kept : o.kept ≡ chain_at first
  pub below : first + 3 ≤ used
  pub check : o.check ≡ e.check
  pub rlo : slice_get locals first ≡ Some (flag e.rlo)
  pub orb : slice_get locals (first + 1) ≡ Some (flag e.orb)
  pub nfc : slice_get locals (first + 2) ≡ Some (flag e.nfc)

-- the locals have the values of all open brackets, those of a text and those of a run, the innermost ones first
abbrev pub KeepBrackets : ℕ → List OpenBracket → List Entry → List Value → Type 0
KeepBrackets used [] [] locals = Unit {0}
KeepBrackets used [] (e ∷ entries) locals = ⊥
KeepBrackets used (o ∷ outer) [] locals = ⊥
KeepBrackets used (o ∷ outer) (e ∷ entries) locals =
    KeepsBracket used o e locals × KeepBrackets used outer entries locals
