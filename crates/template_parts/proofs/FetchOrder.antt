-- The way to an operand writes its locals in their order, and reads those alone that it has written.
use Rattle.std.proofs.Common.{◌≡◌, ℕ, ◌+◌, ◌≤◌, Bool, true, false, if◌then◌else◌, List, [], ◌∷◌, ◌++◌, length, refl, ap, ◌∙◌, arith}
use Rattle.std.proofs.lemmas.List.{length-append}
use Rattle.s7_base.specs.declared.word.Width.{Width}
use Rattle.stl_tree.specs.declared.program.Operand.{Operand}
use Rattle.stl_tree.specs.declared.program.Operand.TheVariants as operand
use Rattle.st_tree.proofs.PartEquations.{reads_of_area_read, reads_of_read}
use Rattle.st_tree.specs.BodyParts.{reads_of}
use Rattle.st_tree.specs.Values.{type_of_width}
use Rattle.st_tree.specs.declared.expr.Expr.{Expr}
use Rattle.st_tree.specs.declared.expr.Expr.TheVariants as expr
use Rattle.st_tree.specs.declared.expr.Var.TheVariants as var
use Rattle.st_tree.specs.declared.program.Stmt.{Stmt}
use Rattle.st_tree.specs.declared.program.Stmt.TheVariants as stmt
use Rattle.graph_rules.proofs.Runs.{disorder, disorder_in_parts, locals_set, missed, order_equations, sets_in_parts}
use Rattle.template_parts.specs.Builders.{local_of, set_local_of}
use Rattle.template_parts.specs.Fetching.{fetch_of, fetched_value_of, may_fault, reach_of, reading_of, types_fetched, types_reached, writing_of}

-- how far the locals that an expression reads lie below the lowest one, and above the first so many
abbrev pub misses : ℕ → ℕ → Expr → ℕ
misses low n e = missed low n (reads_of e)

local_misses : (low n i : ℕ) → low ≤ i → i + 1 ≤ n → misses low n (local_of i) ≡ 0
local_misses low n i above h = ap (missed low n) (reads_of_read (var.Local i)) ∙ omega (arith, above, h)

-- The way

pub reach_disorder : (first : ℕ) (o : Operand) → disorder first first (reach_of first o) ≡ 0
reach_disorder first (operand.Direct a byte x) = refl
reach_disorder first (operand.Opened n byte x) = simp order_equations
reach_disorder first (operand.Formal k) = refl
reach_disorder first (operand.ByMemory a pointer_area byte) = simp order_equations (omega arith)
reach_disorder first (operand.ByRegister a r offset) = simp order_equations (omega arith)
reach_disorder first (operand.Crossing r offset) = simp order_equations (omega arith)

pub reach_sets : (first : ℕ) (o : Operand) → locals_set (reach_of first o) ≡ length (types_reached o)
reach_sets first (operand.Direct a byte x) = refl
reach_sets first (operand.Opened n byte x) = refl
reach_sets first (operand.Formal k) = refl
reach_sets first (operand.ByMemory a pointer_area byte) = refl
reach_sets first (operand.ByRegister a r offset) = refl
reach_sets first (operand.Crossing r offset) = refl

-- The access

by_pointer : (low n i : ℕ) (w : Width) → low ≤ i → i + 1 ≤ n → misses low n (expr.AreaRead w (local_of i)) ≡ 0
by_pointer low n i w above h = ap (missed low n) (reads_of_area_read w (local_of i)) ∙ local_misses low n i above h

pub reading_misses : (n first : ℕ) (o : Operand) (w : Width) → first + length (types_reached o) ≤ n → misses first n (reading_of first o w) ≡ 0
reading_misses n first (operand.Direct a byte x) w h = simp order_equations
reading_misses n first (operand.Opened m byte x) w h = simp order_equations
reading_misses n first (operand.Formal k) w h = simp order_equations
reading_misses n first (operand.ByMemory a pointer_area byte) w h = by_pointer first n (first + 1) w (omega arith) (omega arith)
reading_misses n first (operand.ByRegister a r offset) w h = by_pointer first n first w (omega arith) (omega arith)
reading_misses n first (operand.Crossing r offset) w h = by_pointer first n first w (omega arith) (omega arith)

through : (low n i : ℕ) (w : Width) (e : Expr) (rest : List Stmt) → low ≤ i → i + 1 ≤ n → misses low n e ≡ 0
    → disorder low n rest ≡ 0 → disorder low n (stmt.AreaWrite w (local_of i) e ∷ rest) ≡ 0
through low n i w e rest above h k l = omega (arith, local_misses low n i above h, k, l)

pub writing_disorder : (n first : ℕ) (o : Operand) (w : Width) (e : Expr) (rest : List Stmt)
    → first + length (types_reached o) ≤ n → misses first n e ≡ 0 → disorder first n rest ≡ 0
    → disorder first n (writing_of first o w e ∷ rest) ≡ 0
writing_disorder n first (operand.Direct a byte x) w e rest h k l = omega (arith, k, l)
writing_disorder n first (operand.Opened m byte x) w e rest h k l = omega (arith, k, l)
writing_disorder n first (operand.Formal m) w e rest h k l = omega (arith, k, l)
writing_disorder n first (operand.ByMemory a pointer_area byte) w e rest h k l = through first n (first + 1) w e rest (omega arith) (omega arith) k l
writing_disorder n first (operand.ByRegister a r offset) w e rest h k l = through first n first w e rest (omega arith) (omega arith) k l
writing_disorder n first (operand.Crossing r offset) w e rest h k l = through first n first w e rest (omega arith) (omega arith) k l

pub writing_sets : (first : ℕ) (o : Operand) (w : Width) (e : Expr) (rest : List Stmt) → locals_set (writing_of first o w e ∷ rest) ≡ locals_set rest
writing_sets first (operand.Direct a byte x) w e rest = refl
writing_sets first (operand.Opened m byte x) w e rest = refl
writing_sets first (operand.Formal m) w e rest = refl
writing_sets first (operand.ByMemory a pointer_area byte) w e rest = refl
writing_sets first (operand.ByRegister a r offset) w e rest = refl
writing_sets first (operand.Crossing r offset) w e rest = refl

-- Fetching

module _ (first : ℕ) (o : Operand) (w : Width) where
  abbrev later : ℕ
  later = first + length (types_reached o)

  abbrev taking : Bool → List Stmt
  taking b = if b then set_local_of later (reading_of first o w) ∷ [] else []

  taking_disorder : (b : Bool) → disorder first (first + locals_set (reach_of first o)) (taking b) ≡ 0
  taking_disorder true = omega (arith, reach_sets first o, reading_misses (first + locals_set (reach_of first o)) first o w (omega (arith, reach_sets first o)))
  taking_disorder false = refl

  pub fetch_disorder : disorder first first (fetch_of first o w) ≡ 0
  fetch_disorder = disorder_in_parts first first (reach_of first o) (taking (may_fault o)) (reach_disorder first o) (taking_disorder (may_fault o))

  pub fetch_sets : locals_set (fetch_of first o w) ≡ length (types_fetched o w)
  fetch_sets = by (may_fault o)
    where
      by : (b : Bool) → locals_set (reach_of first o ++ taking b) ≡ length (types_reached o ++ (if b then type_of_width w ∷ [] else []))
      by true =
          omega (arith, sets_in_parts (reach_of first o) (taking true), reach_sets first o, length-append (types_reached o) (type_of_width w ∷ []))
      by false = omega (arith, sets_in_parts (reach_of first o) (taking false), reach_sets first o, length-append (types_reached o) [])

  pub fetched_misses : (n : ℕ) → first + length (types_fetched o w) ≤ n → misses first n (fetched_value_of first o w) ≡ 0
  fetched_misses n h = by (may_fault o) h
    where
      by : (b : Bool) → first + length (types_reached o ++ (if b then type_of_width w ∷ [] else [])) ≤ n
          → misses first n (if b then local_of later else reading_of first o w) ≡ 0
      by true k = local_misses first n later (omega arith) (omega (arith, length-append (types_reached o) (type_of_width w ∷ [])))
      by false k = reading_misses n first o w (omega (arith, length-append (types_reached o) []))
