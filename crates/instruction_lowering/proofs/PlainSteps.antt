-- Steps that are plain, of which some may call.
use Rattle.std.proofs.Common.{◌≡◌, ℕ, ◌≤◌, true, false, List, [], ◌∷◌, ◌++◌, sym, subst, arith}
use Rattle.std.specs.Prelude.{All}
use Rattle.std.proofs.lemmas.List.Elements.{All-append, All-nil}
use Rattle.graph_rules.proofs.Divisors as division
use Rattle.graph_rules.specs.Divisors.{IsSureDivisor, divisors_in}
use Rattle.graph_rules.specs.Plain.{IsGivenOn}
use Rattle.st_tree.proofs.PartEquations.{expressions_in_append, gathered_append}
use Rattle.st_tree.specs.BodyParts.{call_step, calls_in, expressions_in}
use Rattle.st_tree.specs.Depth.{deepest}
use Rattle.st_tree.specs.Nesting.{body_nesting}
use Rattle.st_tree.specs.WellTyped.{UnitScope, are_well_typed}
use Rattle.st_tree.specs.declared.expr.Var.{Var}
use Rattle.st_tree.specs.declared.program.Stmt.{Stmt}
use Rattle.template_parts.proofs.Obligations.{nesting_in_parts, well_typed_in_parts}
use Rattle.template_parts.specs.Templates.{IsLow, IsPlainBody}

-- a call gives on no register variable, and is one of such a unit
abbrev pub IsUnitOf : (ℕ → Type 0) → ℕ × List Var → Type 0
IsUnitOf P call = All IsGivenOn call.1 × P call.0

-- a body, in a unit that sees these variables, is plain, and calls such units alone
pub record ArePlainSteps (P : ℕ → Type 0) (sight : UnitScope) (body : List Stmt) : Type 0 where
  pub typed : are_well_typed sight false body ≡ true
  pub low : body_nesting body ≤ deepest
  pub high : All IsLow (expressions_in body)
  pub divisors : All IsSureDivisor (divisors_in body)
  pub calls : All (IsUnitOf P) (calls_in body)

module _ (P : ℕ → Type 0) (sight : UnitScope) where
  -- one that calls nothing is
  pub without_calls : (body : List Stmt) → IsPlainBody sight body → ArePlainSteps P sight body
  without_calls body h =
      record {
        typed = h.typed;
        low = h.low;
        high = h.high;
        divisors = h.divisors;
        calls = subst (All (IsUnitOf P)) (sym h.calls) (All-nil (IsUnitOf P));
      }

  pub steps_in_parts : (xs ys : List Stmt) → ArePlainSteps P sight xs → ArePlainSteps P sight ys → ArePlainSteps P sight (xs ++ ys)
  steps_in_parts xs ys h k =
      record {
        typed = well_typed_in_parts sight xs ys h.typed k.typed;
        low = omega (arith, nesting_in_parts xs ys, h.low, k.low);
        high = subst (All IsLow) (sym (expressions_in_append xs ys)) (All-append IsLow (expressions_in xs) (expressions_in ys) h.high k.high);
        divisors = subst (All IsSureDivisor) (sym (division.in_parts xs ys))
            (All-append IsSureDivisor (divisors_in xs) (divisors_in ys) h.divisors k.divisors);
        calls = subst (All (IsUnitOf P)) (sym (gathered_append call_step xs ys))
            (All-append (IsUnitOf P) (calls_in xs) (calls_in ys) h.calls k.calls);
      }
