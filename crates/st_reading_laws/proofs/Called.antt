-- Calls: the types of formals that have keys of their own stand under these keys, and what a call is of which all
-- is given.
use Rattle.st_tree.proofs.Common.{◌≡◌, ℕ, false, List, [], ◌∷◌, ◌++◌, Option, Some, refl, sym, subst, fold, slice_get, Line, key_of}
use Rattle.std.proofs.lemmas.List.{append_assoc, append-nil}
use Rattle.st_rules.proofs.Common.{sound, Actual, GivenActuals, given_by, in_order, lacks, meaning_in, statement, Table, look_up, with_entry, StType, Local}
use Rattle.st_names.specs.declared.scope.Formals.{Formals}
use Rattle.st_names.specs.declared.scope.Meaning.TheVariants as meaning
use Rattle.st_names.specs.declared.scope.NameScope.{NameScope}
use Rattle.st_tree.specs.declared.expr.Var.{Var}
use Rattle.st_tree.specs.declared.program.Stmt.TheVariants as stmt
use Rattle.st_tree.specs.declared.raw.RawStmtKind.TheVariants as raw
use Rattle.st_reading_laws.proofs.Actions.{act_invoke, on_line}
use Rattle.st_reading_laws.proofs.Declared.{types_of_locals}
use Rattle.st_reading_laws.proofs.Keyed.{AreAbsent, AreDistinct, absent_also, found_behind, none_absent}

abbrev entries : List Local → Table StType
entries [] = []
entries (l ∷ ls) = (key_of l.name, l.ty) ∷ entries ls

abbrev with_type : Table StType → Local → Table StType
with_type types l = with_entry (key_of l.name) l.ty types

gathered : (types : Table StType) (ls : List Local) → AreAbsent types ls → AreDistinct ls
    → fold with_type types ls ≡ types ++ entries ls
gathered types [] a d = sym (append-nil types)
gathered types (l ∷ ls) a d =
    let e : List ℕ × StType = (key_of l.name, l.ty) in
    rw (a.0, ← append_assoc types (e ∷ []) (entries ls))
    (gathered (types ++ e ∷ []) ls (absent_also types (key_of l.name) l.ty ls a.1 d.0) d.1)

-- each formal has its type in a table
abbrev pub AreTyped : Table StType → List Local → Type 0
AreTyped types [] = Unit {0}
AreTyped types (l ∷ ls) = (look_up (key_of l.name) types ≡ Some l.ty) × AreTyped types ls

typed_behind : (types : Table StType) (ls : List Local) → AreAbsent types ls → AreDistinct ls → AreTyped (types ++ entries ls) ls
typed_behind types [] a d = tt
typed_behind types (l ∷ ls) a d =
    let e : List ℕ × StType = (key_of l.name, l.ty) in (
      found_behind types (key_of l.name) l.ty (entries ls) a.0,
      subst (λ t. AreTyped t ls) (append_assoc types (e ∷ []) (entries ls))
          (typed_behind (types ++ e ∷ []) ls (absent_also types (key_of l.name) l.ty ls a.1 d.0) d.1),
    )

pub are_typed : (ls : List Local) → AreDistinct ls → AreTyped (types_of_locals ls) ls
are_typed ls d =
    subst (λ t. AreTyped t ls) (sym (gathered [] ls (none_absent StType ls) d)) (typed_behind [] ls (none_absent StType ls) d)

-- A call

-- what is given without a broken rule
abbrev pub given_with : Table (Option Var) → GivenActuals
given_with vars = record { vars = vars; breaks = [] }

-- a call of a function that is there
pub call_is : (s : NameScope) (m : Line) (name : List ℕ) (actuals : List Actual) (i : ℕ) (formals : Formals) (table : Table (Option Var))
    → meaning_in s (key_of name) ≡ Some (meaning.Function i)
    → slice_get s.formals i ≡ Some formals → given_by s m formals.types actuals ≡ given_with table → lacks table formals.keys ≡ false
    → statement s (on_line m (raw.Invoke name actuals)) ≡ sound (stmt.Invoke i (in_order table formals.keys))
call_is s m name actuals i formals table h there given none =
    rw (act_invoke s m name actuals, h, there, given, none) refl
