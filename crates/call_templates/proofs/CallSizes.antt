-- The statements of calls as parts.
use Rattle.std.proofs.Common.{◌≡◌, ℕ, suc, ◌+◌, ◌*◌, ◌==◌, ◌<◌, ◌≤◌, pos, Bool, true, false, if◌then◌else◌, List, [], ◌∷◌, ◌++◌, length, inl, inr, refl, sym, ap, subst, ◌∙◌, arith}
use Rattle.std.specs.Prelude.{All}
use Rattle.std.specs.List.{sum_by}
use Rattle.std.proofs.lemmas.List.Elements.{All-cons, All-nil}
use Rattle.std.proofs.lemmas.List.Sums.{sum_by-cons}
use Rattle.call_templates.proofs.CallParts.{IsPart, ReadBetween, both_parts, invoke_part, local_part, more_part, no_part, other_part, then_part}
use Rattle.call_templates.specs.Calls.{call_of, constants_set, copies, copy_back, copy_in, end_word_of, function_block_call_of, function_call_of, in_instance, number_of_width, one_if_given, opened_call_of, operands_read, put_back_of, saved_of, types_of_call, types_of_constants, types_of_operands, variable_of, variables_given}
use Rattle.graph_rules.specs.Runs.{locals_of, written_step}
use Rattle.s7_base.specs.declared.register.Reg.{Reg}
use Rattle.s7_base.specs.declared.register.Reg.TheVariants as reg
use Rattle.s7_base.specs.declared.word.Width.{Width}
use Rattle.stl_tree.specs.Calls.{is_given_back, is_taken}
use Rattle.stl_tree.specs.declared.program.Actual.{Actual}
use Rattle.stl_tree.specs.declared.program.Actual.TheVariants as actual
use Rattle.stl_tree.specs.Reads.{reads_of}
use Rattle.stl_tree.specs.declared.program.BlockCall.{BlockCall}
use Rattle.stl_tree.specs.declared.program.Op.TheVariants as op
use Rattle.stl_tree.specs.declared.program.Formal.{Formal}
use Rattle.stl_tree.specs.declared.program.Operand.{Operand}
use Rattle.stl_tree.specs.declared.program.Operand.TheVariants as operand
use Rattle.st_tree.proofs.PartEquations.{reads_of_literal, reads_of_read}
use Rattle.st_tree.specs.BodyParts.{reads_of as variables_of}
use Rattle.st_tree.specs.declared.expr.Expr.{Expr}
use Rattle.st_tree.specs.declared.expr.Expr.TheVariants as expr
use Rattle.st_tree.specs.declared.expr.StType.{StType}
use Rattle.st_tree.specs.declared.expr.StType.TheVariants as type
use Rattle.st_tree.specs.declared.expr.Var.{Var}
use Rattle.st_tree.specs.declared.expr.Var.TheVariants as var
use Rattle.st_tree.specs.declared.program.Stmt.{Stmt}
use Rattle.st_tree.specs.declared.program.Stmt.TheOpen as S
use Rattle.st_tree.specs.declared.program.Stmt.TheVariants as stmt
use Rattle.template_parts.proofs.ReadRegisters.{Reads, constant_reads, local_reads, register_reads}
use Rattle.template_parts.proofs.Sizes.{of_constant, of_read}
use Rattle.template_parts.specs.Builders.{constant_of, literal_of, local_of, read_of, set_local_of, set_of}
use Rattle.template_parts.specs.Nodes.{nodes}
use Rattle.template_parts.specs.Reading.{EachRegister, IsAmong}

-- What is read and written

no_locals_between : (low first : ℕ) (vs : List Var) → locals_of vs ≡ [] → ReadBetween low first vs
no_locals_between low first vs e =
    subst (All (λ (i : ℕ). (low ≤ i) × (i < first))) (sym e) (All-nil (λ (i : ℕ). (low ≤ i) × (i < first)))

no_local_of : (v : Var) → locals_of (v ∷ []) ≡ [] → locals_of (variables_of (expr.Read v)) ≡ []
no_local_of v e = ap locals_of (reads_of_read v) ∙ e

literal_local : (ty : StType) (n : _) → locals_of (variables_of (expr.Literal ty n)) ≡ []
literal_local ty n = ap locals_of (reads_of_literal ty n)

-- a place or a formal is no local and no register
pub record IsNoLocal (P : Reg → Type 0) (v : Var) : Type 0 where
  pub locals : locals_of (v ∷ []) ≡ []
  pub writes : (e : Expr) (written : List ℕ) → written_step written (S.Assign v e) ≡ written
  pub reads : EachRegister P (v ∷ [])

module _ (P : Reg → Type 0) (low : ℕ) where
  place_kind : (o : Operand) (w : Width) → IsNoLocal P (variable_of o w)
  place_kind (operand.Direct a byte x) w = record { locals = refl; writes = λ e written. refl; reads = tt }
  place_kind (operand.Opened n byte x) w = record { locals = refl; writes = λ e written. refl; reads = tt }
  place_kind (operand.Formal k) w = record { locals = refl; writes = λ e written. refl; reads = tt }
  place_kind o w = record { locals = refl; writes = λ e written. refl; reads = tt }

  instance_kind : (instance : ℕ) (f : Formal) → IsNoLocal P (in_instance instance f)
  instance_kind instance f = record { locals = refl; writes = λ e written. refl; reads = tt }

  read_place : (v : Var) → IsNoLocal P v → Reads P (expr.Read v)
  read_place v kind = subst (EachRegister P) (sym (reads_of_read v)) kind.reads

  -- Around a call

  -- a literal is put into a register
  setting : (first : ℕ) (r : Reg) (ty : StType) (n : _) → IsPart P low first 0 1 1 (set_of r (constant_of ty n) ∷ [])
  setting first r ty n =
      other_part P low first (var.Register r) (constant_of ty n) (λ written. refl) (of_constant ty n) (constant_reads P ty n)
      (no_locals_between low first (variables_of (constant_of ty n)) (literal_local ty n))

  end_part : (first : ℕ) → IsPart P low first 0 3 3 end_word_of
  end_part first =
      then_part P low first 0 1 2 1 2 (set_of reg.Orb (literal_of false) ∷ [])
      (set_of reg.Nfc (literal_of false) ∷ set_of reg.Os (literal_of false) ∷ []) (setting first reg.Orb type.Bool (pos 0))
      (then_part P low first 0 1 1 1 1 (set_of reg.Nfc (literal_of false) ∷ []) (set_of reg.Os (literal_of false) ∷ [])
      (setting first reg.Nfc type.Bool (pos 0)) (setting first reg.Os type.Bool (pos 0)))

  -- a register is kept in the next local
  keeping : (first : ℕ) (r : Reg) → P r → IsPart P low first 1 1 1 (set_local_of first (read_of r) ∷ [])
  keeping first r h =
      local_part P low first (read_of r) (of_read (var.Register r)) (register_reads P r h) (no_local_of (var.Register r) refl)

  saved_part : (first : ℕ) → P reg.DbNo → P reg.DiNo → IsPart P low first 2 2 2 (saved_of first)
  saved_part first db di =
      both_parts P low first (first + 1) 1 1 1 1 1 1 (set_local_of first (read_of reg.DbNo) ∷ []) (set_local_of (first + 1) (read_of reg.DiNo) ∷ []) refl
      (keeping first reg.DbNo db) (keeping (first + 1) reg.DiNo di)

  -- and put back from one
  putting : (first : ℕ) (r : Reg) (i : ℕ) → low ≤ i → i < first → IsPart P low first 0 1 1 (set_of r (local_of i) ∷ [])
  putting first r i above below =
      other_part P low first (var.Register r) (local_of i) (λ written. refl) (of_read (var.Local i)) (local_reads P i)
      (subst (λ (vs : List Var). ReadBetween low first vs) (sym (reads_of_read (var.Local i)))
      (All-cons (λ (i : ℕ). (low ≤ i) × (i < first)) i [] (above, below) (All-nil (λ (i : ℕ). (low ≤ i) × (i < first)))))

  put_back_part : (slot first : ℕ) → low ≤ slot → slot + 2 ≤ first → IsPart P low first 0 2 2 (put_back_of slot)
  put_back_part slot first above below =
      then_part P low first 0 1 1 1 1 (set_of reg.DbNo (local_of slot) ∷ []) (set_of reg.DiNo (local_of (slot + 1)) ∷ [])
      (putting first reg.DbNo slot above (omega arith)) (putting first reg.DiNo (slot + 1) (omega arith) (omega arith))

  -- Actuals

  -- one more is given, or none
  abbrev Of : ℕ → ℕ → List Actual → List Stmt → Type 0
  Of first count actuals body = IsPart P low first count (sum_by one_if_given actuals) (sum_by one_if_given actuals) body

  left_out : (first count : ℕ) (a : Actual) (actuals : List Actual) (body : List Stmt) → Of first count actuals body → Of first count (a ∷ actuals) body
  left_out first count a actuals body h =
      more_part P low first count count (sum_by one_if_given actuals) (sum_by one_if_given (a ∷ actuals)) (sum_by one_if_given actuals)
      (sum_by one_if_given (a ∷ actuals)) body refl (omega (arith, sum_by-cons one_if_given a actuals))
      (omega (arith, sum_by-cons one_if_given a actuals)) h

  given : (first middle one count : ℕ) (a : Actual) (actuals : List Actual) (xs ys : List Stmt) → one_if_given a ≡ 1 → middle ≡ first + one
      → IsPart P low first one 1 1 xs → Of middle count actuals ys → Of first (one + count) (a ∷ actuals) (xs ++ ys)
  given first middle one count a actuals xs ys is e h k =
      let more : sum_by one_if_given (a ∷ actuals) ≡ 1 + sum_by one_if_given actuals =
      sum_by-cons one_if_given a actuals ∙ ap (λ (n : ℕ). n + sum_by one_if_given actuals) is in
      more_part P low first (one + count) (one + count) (1 + sum_by one_if_given actuals) (sum_by one_if_given (a ∷ actuals))
      (1 + sum_by one_if_given actuals) (sum_by one_if_given (a ∷ actuals)) (xs ++ ys) refl (omega (arith, more)) (omega (arith, more))
      (both_parts P low first middle one count 1 (sum_by one_if_given actuals) 1 (sum_by one_if_given actuals) xs ys e h k)

  none_of : (first : ℕ) (actuals : List Actual) → Of first 0 actuals []
  none_of first actuals =
      more_part P low first 0 0 0 (sum_by one_if_given actuals) 0 (sum_by one_if_given actuals) [] refl (omega arith) (omega arith) (no_part P low first)

  next_local : (next count : ℕ) (a : Actual) (actuals : List Actual) (e : Expr) (ys : List Stmt) → one_if_given a ≡ 1
      → IsPart P low next 1 1 1 (set_local_of next e ∷ []) → Of (next + 1) count actuals ys → Of next (suc count) (a ∷ actuals) (set_local_of next e ∷ ys)
  next_local next count a actuals e ys is h k =
      let same : 1 + count ≡ suc count = omega arith in
      subst (λ (c : ℕ). Of next c (a ∷ actuals) (set_local_of next e ∷ ys)) same
      (given next (next + 1) 1 count a actuals (set_local_of next e ∷ []) ys is refl h k)

  pub constants_part : (formals : List Formal) (actuals : List Actual) (next : ℕ)
      → Of next (length (types_of_constants formals actuals)) actuals (constants_set next formals actuals)
  constants_part [] actuals next = none_of next actuals
  constants_part (f ∷ formals) [] next = none_of next []
  constants_part (f ∷ formals) (actual.Constant c ∷ actuals) next =
      next_local next (length (types_of_constants formals actuals)) (actual.Constant c) actuals (number_of_width f.width c)
      (constants_set (next + 1) formals actuals) refl
      (local_part P low next (number_of_width f.width c) (of_constant _ _) (constant_reads P _ _) (literal_local _ _))
      (constants_part formals actuals (next + 1))
  constants_part (f ∷ formals) (actual.At o ∷ actuals) next =
      left_out next (length (types_of_constants formals actuals)) (actual.At o) actuals
      (constants_set next formals actuals) (constants_part formals actuals next)
  constants_part (f ∷ formals) (actual.Missing ∷ actuals) next =
      left_out next (length (types_of_constants formals actuals)) actual.Missing actuals
      (constants_set next formals actuals) (constants_part formals actuals next)

  pub operands_part : (formals : List Formal) (actuals : List Actual) (next : ℕ)
      → Of next (length (types_of_operands formals actuals)) actuals (operands_read next formals actuals)
  operands_part [] actuals next = none_of next actuals
  operands_part (f ∷ formals) [] next = none_of next []
  operands_part (f ∷ formals) (actual.At o ∷ actuals) next =
      let v : Var = variable_of o f.width in
      next_local next (length (types_of_operands formals actuals)) (actual.At o) actuals (expr.Read v) (operands_read (next + 1) formals actuals) refl
      (local_part P low next (expr.Read v) (of_read v) (read_place v (place_kind o f.width)) (no_local_of v (place_kind o f.width).locals))
      (operands_part formals actuals (next + 1))
  operands_part (f ∷ formals) (actual.Constant c ∷ actuals) next =
      left_out next (length (types_of_operands formals actuals)) (actual.Constant c) actuals (operands_read next formals actuals)
      (operands_part formals actuals next)
  operands_part (f ∷ formals) (actual.Missing ∷ actuals) next =
      left_out next (length (types_of_operands formals actuals)) actual.Missing actuals
      (operands_read next formals actuals) (operands_part formals actuals next)

  -- a place or a formal takes a value, or not
  copied : (first : ℕ) (b : Bool) (v : Var) (e : Expr) → IsNoLocal P v → nodes e ≡ 1 → Reads P e → locals_of (variables_of e) ≡ []
      → IsPart P low first 0 1 1 (if b then stmt.Assign v e ∷ [] else [])
  copied first true v e kind one reads none =
      other_part P low first v e (λ written. kind.writes e written) one reads (no_locals_between low first (variables_of e) none)
  copied first false v e kind one reads none = more_part P low first 0 0 0 1 0 1 [] refl (omega arith) (omega arith) (no_part P low first)

  copies_with : (copy : Formal → Actual → List Stmt) → ((first : ℕ) (f : Formal) → IsPart P low first 0 0 0 (copy f actual.Missing))
      → ((first : ℕ) (f : Formal) (a : Actual) → one_if_given a ≡ 1 → IsPart P low first 0 1 1 (copy f a))
      → (formals : List Formal) (actuals : List Actual) (first : ℕ) → Of first 0 actuals (copies copy formals actuals)
  copies_with copy missing each [] actuals first = none_of first actuals
  copies_with copy missing each (f ∷ formals) [] first = none_of first []
  copies_with copy missing each (f ∷ formals) (actual.Missing ∷ actuals) first =
      left_out first 0 actual.Missing actuals (copy f actual.Missing ++ copies copy formals actuals)
      (more_part P low first 0 0 (0 + sum_by one_if_given actuals) (sum_by one_if_given actuals) (0 + sum_by one_if_given actuals)
      (sum_by one_if_given actuals) (copy f actual.Missing ++ copies copy formals actuals) refl (omega arith) (omega arith)
      (then_part P low first 0 0 (sum_by one_if_given actuals) 0 (sum_by one_if_given actuals) (copy f actual.Missing) (copies copy formals actuals)
      (missing first f) (copies_with copy missing each formals actuals first)))
  copies_with copy missing each (f ∷ formals) (actual.Constant c ∷ actuals) first =
      given first first 0 0 (actual.Constant c) actuals (copy f (actual.Constant c)) (copies copy formals actuals) refl (omega arith)
      (each first f (actual.Constant c) refl) (copies_with copy missing each formals actuals first)
  copies_with copy missing each (f ∷ formals) (actual.At o ∷ actuals) first =
      given first first 0 0 (actual.At o) actuals (copy f (actual.At o)) (copies copy formals actuals) refl (omega arith)
      (each first f (actual.At o) refl) (copies_with copy missing each formals actuals first)

  pub takings_part : (instance : ℕ) (formals : List Formal) (actuals : List Actual) (first : ℕ)
      → Of first 0 actuals (copies (copy_in instance) formals actuals)
  takings_part instance formals actuals first = copies_with (copy_in instance) (λ first f. no_part P low first) each formals actuals first
    where
      each : (first : ℕ) (f : Formal) (a : Actual) → one_if_given a ≡ 1 → IsPart P low first 0 1 1 (copy_in instance f a)
      each first f actual.Missing is = cc
      each first f (actual.Constant c) is =
          copied first (is_taken f.mode) (in_instance instance f) (number_of_width f.width c) (instance_kind instance f) (of_constant _ _)
          (constant_reads P _ _) (literal_local _ _)
      each first f (actual.At o) is =
          let v : Var = variable_of o f.width in
          copied first (is_taken f.mode) (in_instance instance f) (expr.Read v) (instance_kind instance f) (of_read v)
          (read_place v (place_kind o f.width)) (no_local_of v (place_kind o f.width).locals)

  pub givings_part : (instance : ℕ) (formals : List Formal) (actuals : List Actual) (first : ℕ)
      → Of first 0 actuals (copies (copy_back instance) formals actuals)
  givings_part instance formals actuals first = copies_with (copy_back instance) (λ first f. no_part P low first) each formals actuals first
    where
      each : (first : ℕ) (f : Formal) (a : Actual) → one_if_given a ≡ 1 → IsPart P low first 0 1 1 (copy_back instance f a)
      each first f actual.Missing is = cc
      each first f (actual.Constant c) is = more_part P low first 0 0 0 1 0 1 [] refl (omega arith) (omega arith) (no_part P low first)
      each first f (actual.At o) is =
          let v : Var = in_instance instance f in
          copied first (is_given_back f.mode) (variable_of o f.width) (expr.Read v) (place_kind o f.width) (of_read v)
          (read_place v (instance_kind instance f)) (no_local_of v refl)

-- Whole calls

-- the locals that a function is given
skips : (o : Operand) (w : Width) (vs : List Var) → locals_of (variable_of o w ∷ vs) ≡ locals_of vs
skips (operand.Direct a byte x) w vs = refl
skips (operand.Opened n byte x) w vs = refl
skips (operand.Formal k) w vs = refl
skips o w vs = refl

given_between : (low : ℕ) (formals : List Formal) (actuals : List Actual) (next past : ℕ) → low ≤ next
    → next + length (types_of_constants formals actuals) ≡ past → ReadBetween low past (variables_given next formals actuals)
given_between low [] actuals next past above e = All-nil (λ (i : ℕ). (low ≤ i) × (i < past))
given_between low (f ∷ formals) [] next past above e = All-nil (λ (i : ℕ). (low ≤ i) × (i < past))
given_between low (f ∷ formals) (actual.Constant c ∷ actuals) next past above e =
    All-cons (λ (i : ℕ). (low ≤ i) × (i < past)) next (locals_of (variables_given (next + 1) formals actuals)) (above, omega arith)
    (given_between low formals actuals (next + 1) past (omega arith) (omega arith))
given_between low (f ∷ formals) (actual.At o ∷ actuals) next past above e =
    subst (All (λ (i : ℕ). (low ≤ i) × (i < past))) (sym (skips o f.width (variables_given next formals actuals)))
    (given_between low formals actuals next past above e)
given_between low (f ∷ formals) (actual.Missing ∷ actuals) next past above e = given_between low formals actuals next past above e

module _ (P : Reg → Type 0) (db : P reg.DbNo) (di : P reg.DiNo) (first unit : ℕ) (formals : List Formal) (actuals : List Actual) where
  abbrev many : ℕ
  many = sum_by one_if_given actuals

  -- from a local on, which is the first one behind those of the call
  called_part : (past : ℕ) (vars : List Var) → ReadBetween first past vars → first + 2 ≤ past
      → IsPart P first past 0 3 2 (stmt.Invoke unit vars ∷ put_back_of first)
  called_part past vars between room =
      then_part P first past 0 1 2 0 2 (stmt.Invoke unit vars ∷ []) (put_back_of first) (invoke_part P first past unit vars between)
      (put_back_part P first first past (omega arith) room)

  pub function_part : IsPart P first first (suc (suc (length (types_of_constants formals actuals)))) (8 + many) (7 + many)
      (function_call_of first unit formals actuals)
  function_part =
      let k : ℕ = length (types_of_constants formals actuals) in
      let past : ℕ = first + (2 + k) in
      let set =
      both_parts P first first (first + 2) 2 k 2 many 2 many (saved_of first) (constants_set (first + 2) formals actuals) refl
      (saved_part P first first db di) (constants_part P first formals actuals (first + 2)) in
      let over =
      both_parts P first first past (2 + k) 0 (2 + many) 3 (2 + many) 3 (saved_of first ++ constants_set (first + 2) formals actuals) end_word_of refl set
      (end_part P first past) in
      let last =
      called_part past (variables_given (first + 2) formals actuals)
      (given_between first formals actuals (first + 2) past (omega arith) (omega arith)) (omega arith) in
      more_part P first first (2 + k + 0 + 0) (suc (suc k)) (2 + many + 3 + 3) (8 + many) (2 + many + 3 + 2) (7 + many)
      (function_call_of first unit formals actuals) (omega arith) (omega arith) (omega arith)
      (both_parts P first first past (2 + k + 0) 0 (2 + many + 3) 3 (2 + many + 3) 2
      ((saved_of first ++ constants_set (first + 2) formals actuals) ++ end_word_of)
      (stmt.Invoke unit (variables_given (first + 2) formals actuals) ∷ put_back_of first) (omega arith) over last)

  pub block_part : (instance : ℕ) → IsPart P first first (suc (suc (length (types_of_operands formals actuals)))) (9 + 3 * many) (8 + 3 * many)
      (function_block_call_of first unit instance formals actuals)
  block_part instance =
      let k : ℕ = length (types_of_operands formals actuals) in
      let past : ℕ = first + (2 + k) in
      let fetches : List Stmt = saved_of first ++ operands_read (first + 2) formals actuals in
      let takings : List Stmt = copies (copy_in instance) formals actuals in
      let givings : List Stmt = copies (copy_back instance) formals actuals in
      let read =
      both_parts P first first (first + 2) 2 k 2 many 2 many (saved_of first) (operands_read (first + 2) formals actuals) refl
      (saved_part P first first db di) (operands_part P first formals actuals (first + 2)) in
      let taken =
      both_parts P first first past (2 + k) 0 (2 + many) many (2 + many) many fetches takings refl read
      (takings_part P first instance formals actuals past) in
      let over =
      both_parts P first first past (2 + k + 0) 0 (2 + many + many) 3 (2 + many + many) 3 (fetches ++ takings) end_word_of (omega arith) taken
      (end_part P first past) in
      let opened =
      then_part P first past 0 1 3 1 2 (set_of reg.DiNo (constant_of type.Word (pos instance)) ∷ []) (stmt.Invoke unit [] ∷ put_back_of first)
      (setting P first past reg.DiNo type.Word (pos instance)) (called_part past [] (All-nil (λ (i : ℕ). (first ≤ i) × (i < past))) (omega arith)) in
      let called =
      both_parts P first first past (2 + k + 0 + 0) 0 (2 + many + many + 3) 4 (2 + many + many + 3) 3 ((fetches ++ takings) ++ end_word_of)
      (opened_call_of first unit instance) (omega arith) over opened in
      more_part P first first (2 + k + 0 + 0 + 0 + 0) (suc (suc k)) (2 + many + many + 3 + 4 + many) (9 + 3 * many) (2 + many + many + 3 + 3 + many)
      (8 + 3 * many) (function_block_call_of first unit instance formals actuals) (omega arith) (omega arith) (omega arith)
      (both_parts P first first past (2 + k + 0 + 0 + 0) 0 (2 + many + many + 3 + 4) many (2 + many + many + 3 + 3) many
      (((fetches ++ takings) ++ end_word_of) ++ opened_call_of first unit instance) givings (omega arith) called
      (givings_part P first instance formals actuals past))

-- of functions and of function blocks
pub call_part : (first unit : ℕ) (formals : List Formal) (c : BlockCall)
    → IsPart (λ (r : Reg). IsAmong r (reads_of (op.Call c))) first first (length (types_of_call formals c)) (11 + 3 * sum_by one_if_given c.actuals)
    (91 + 3 * sum_by one_if_given c.actuals) (call_of first unit formals c)
call_part first unit formals c = by (c.instance == 0)
  where
    by : (b : Bool)
        → IsPart (λ (r : Reg). IsAmong r (reads_of (op.Call c))) first first
        (suc (suc (length (if b then types_of_constants formals c.actuals else types_of_operands formals c.actuals))))
        (11 + 3 * sum_by one_if_given c.actuals) (91 + 3 * sum_by one_if_given c.actuals)
        (if b then function_call_of first unit formals c.actuals else function_block_call_of first unit c.instance formals c.actuals)
    by true =
        more_part (λ (r : Reg). IsAmong r (reads_of (op.Call c))) first first (suc (suc (length (types_of_constants formals c.actuals))))
        (suc (suc (length (types_of_constants formals c.actuals)))) (8 + sum_by one_if_given c.actuals) (11 + 3 * sum_by one_if_given c.actuals)
        (7 + sum_by one_if_given c.actuals) (91 + 3 * sum_by one_if_given c.actuals) (function_call_of first unit formals c.actuals) refl
        (omega arith) (omega arith)
        (function_part (λ (r : Reg). IsAmong r (reads_of (op.Call c))) (inl refl) (inr (inl refl)) first unit formals c.actuals)
    by false =
        more_part (λ (r : Reg). IsAmong r (reads_of (op.Call c))) first first (suc (suc (length (types_of_operands formals c.actuals))))
        (suc (suc (length (types_of_operands formals c.actuals)))) (9 + 3 * sum_by one_if_given c.actuals) (11 + 3 * sum_by one_if_given c.actuals)
        (8 + 3 * sum_by one_if_given c.actuals) (91 + 3 * sum_by one_if_given c.actuals)
        (function_block_call_of first unit c.instance formals c.actuals) refl (omega arith) (omega arith)
        (block_part (λ (r : Reg). IsAmong r (reads_of (op.Call c))) (inl refl) (inr (inl refl)) first unit formals c.actuals c.instance)

-- Those of CC: before its IF, and in it

module _ (P : Reg → Type 0) where
  pub asking_part : (first : ℕ) → P reg.Rlo
      → IsPart P first first 1 5 5 (set_local_of first (read_of reg.Rlo) ∷ set_of reg.Rlo (literal_of true) ∷ end_word_of)
  asking_part first rlo =
      both_parts P first first (first + 1) 1 0 1 4 1 4 (set_local_of first (read_of reg.Rlo) ∷ []) (set_of reg.Rlo (literal_of true) ∷ end_word_of) refl
      (keeping P first first reg.Rlo rlo)
      (then_part P first (first + 1) 0 1 3 1 3 (set_of reg.Rlo (literal_of true) ∷ []) end_word_of
      (setting P first (first + 1) reg.Rlo type.Bool (pos 1)) (end_part P first (first + 1)))

  pub guarded_part : (slot unit : ℕ) → P reg.DbNo → P reg.DiNo → IsPart P slot slot 2 5 4 (saved_of slot ++ stmt.Invoke unit [] ∷ put_back_of slot)
  guarded_part slot unit db di =
      both_parts P slot slot (slot + 2) 2 0 2 3 2 2 (saved_of slot) (stmt.Invoke unit [] ∷ put_back_of slot) refl (saved_part P slot slot db di)
      (called_part P db di slot unit [] [] (slot + 2) [] (All-nil (λ (i : ℕ). (slot ≤ i) × (i < slot + 2))) (omega arith))
