-- The labels of an arm of a CASE that have a type.
use Rattle.st_tree.proofs.Common.{◌≡◌, true, ◌&&◌, cond, ℤ, List, [], ◌∷◌, map, Some, refl, ap, ◌∙◌, Line, rule_break, is_type}
use Rattle.s7_base.specs.declared.reason.Reason.TheVariants.{TypeMismatch}
use Rattle.st_rules.proofs.Common.{have_type, label_breaks, StType}
use Rattle.st_tree.proofs.TypingEquations as tree_types
use Rattle.st_tree.specs.declared.expr.StType.TheVariants as type
use Rattle.st_reading_laws.proofs.Parts.{values}

-- Types

pub same_type : (a b : StType) → is_type a b ≡ true → a ≡ b
same_type a b h = tree_types.same_type a b h

pub is_own_type : (a : StType) → is_type a a ≡ true
is_own_type type.Bool = refl
is_own_type other = refl

-- Lists of labels

-- labels of a type by their values
abbrev pub of_type : StType → List ℤ → List (StType × ℤ)
of_type ty ns = map (λ (n : ℤ). (ty, n)) ns

pub values_of : (ty : StType) (ns : List ℤ) → values (of_type ty ns) ≡ ns
values_of ty [] = refl
values_of ty (n ∷ ns) = ap (λ l. n ∷ l) (values_of ty ns)

have_own_type : (ty : StType) (ns : List ℤ) → have_type ty (of_type ty ns) ≡ true
have_own_type ty [] = refl
have_own_type ty (n ∷ ns) = ap (λ b. b && have_type ty (of_type ty ns)) (is_own_type ty) ∙ have_own_type ty ns

pub no_label_breaks : (l : Line) (ty : StType) (ns : List ℤ) → label_breaks l (Some ty) (of_type ty ns) ≡ []
no_label_breaks l ty ns = ap (λ b. cond b [] (rule_break l TypeMismatch)) (have_own_type ty ns)
