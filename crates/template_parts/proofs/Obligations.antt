-- How an instruction's statements are shown to be its template, and what holds of two templates one after the other.
use Rattle.std.proofs.Common.{◌≡◌, ℕ, ◌+◌, ◌≤◌, max, ◌&&◌, Bool, true, false, List, [], ◌∷◌, ◌++◌, length, sym, ap, subst, ◌∙◌, arith}
use Rattle.std.specs.Prelude.{All}
use Rattle.std.specs.List.{flat_map}
use Rattle.std.proofs.lemmas.List.{append-nil}
use Rattle.std.proofs.lemmas.List.Elements.{All-append}
use Rattle.s7_base.specs.declared.register.Reg.{Reg}
use Rattle.stl_tree.specs.Accepted.{HasOperand, Widths}
use Rattle.stl_tree.specs.Reads.{reads_of}
use Rattle.stl_tree.specs.declared.program.Op.{Op}
use Rattle.st_tree.proofs.Common.{flat_map-append}
use Rattle.st_tree.proofs.PartEquations.{expressions_in_append}
use Rattle.st_tree.specs.Nesting.{body_nesting}
use Rattle.st_tree.specs.BodyParts.{call_step, calls_in, expressions_in, inner_statements, statements_in}
use Rattle.st_tree.specs.WellTyped.{UnitScope, are_well_typed, is_well_typed}
use Rattle.st_tree.specs.declared.expr.StType.{StType}
use Rattle.st_tree.specs.declared.expr.Var.{Var}
use Rattle.st_tree.specs.declared.program.Stmt.{Stmt, out-Stmt}
use Rattle.graph_rules.proofs.Divisors as division
use Rattle.graph_rules.proofs.Runs.{disorder, in_order, locals_set, lower_start, run_in_parts, written_in_parts}
use Rattle.graph_rules.specs.Divisors.{IsSureDivisor, divisors_in}
use Rattle.graph_rules.specs.Runs.{IsWritten, written_by_more}
use Rattle.template_parts.specs.Nodes.{nodes_in}
use Rattle.template_parts.specs.Reading.{IsAmong}
use Rattle.template_parts.specs.Templates.{AreInOrder, AreTyped, Do, HasFormals, IsLow, IsPlainBody, IsTemplate, Serves}
use Rattle.graph_rules.specs.Writes.{AreWrites}
use Rattle.template_parts.proofs.ReadRegisters.{AllRead, Has}

-- what holds of statements with none behind them holds of them
pub alone : (P : List Stmt → Type 0) (xs : List Stmt) → P (xs ++ []) → P xs
alone P xs h = subst P (append-nil xs) h

-- Locals

-- statements without disorder are in order
pub ordered : (low first count : ℕ) (body : List Stmt) → disorder low first body ≡ 0 → locals_set body ≡ count → AreInOrder low first count body
ordered low first count body h sets =
    record {
      run = λ from written below there. (in_order from first written body (lower_start from low first body below h) there).run;
      more = λ from written below there i above less.
          (in_order from first written body (lower_start from low first body below h) there).more i above (omega (arith, less, sets));
    }

-- those that read no local below one read none below a lower one
pub lower_order : (from low first count : ℕ) (body : List Stmt) → from ≤ low → AreInOrder low first count body → AreInOrder from first count body
lower_order from low first count body below h =
    record {
      run = λ start written less there. h.run start written (omega (arith, less, below)) there;
      more = λ start written less there. h.more start written (omega (arith, less, below)) there;
    }

-- those of two bodies
pub order_in_parts : (low first middle one two : ℕ) (xs ys : List Stmt) → middle ≡ first + one → AreInOrder low first one xs → AreInOrder low middle two ys
    → AreInOrder low first (one + two) (xs ++ ys)
order_in_parts low first middle one two xs ys e h k =
    record {
      run =
          λ from written below there. run_in_parts written xs ys (h.run from written below there)
          (k.run from (written_by_more written xs) below (λ i above less. h.more from written below there i above (omega (arith, less, e))));
      more = λ from written below there i above less.
          subst (λ (now : List ℕ). IsWritten now i) (sym (written_in_parts written xs ys))
          (k.more from (written_by_more written xs) below (λ j over small. h.more from written below there j over (omega (arith, small, e))) i above
          (omega (arith, less, e)));
    }

-- Templates

-- a template, by what is shown of its statements one thing at a time
pub is_template : (o : Op) (first : ℕ) (types : List StType) (body : List Stmt) → AreWrites body → length body ≤ 11 → nodes_in body ≤ 91
    → ((P : Reg → Type 0) → Has P (reads_of o) → AllRead P (body ++ [])) → disorder first first body ≡ 0 → locals_set body ≡ length types
    → ((sight : UnitScope) (formals : Widths) → HasFormals sight formals → HasOperand formals o → AreTyped sight first types → IsPlainBody sight (body ++ []))
    → IsTemplate o first types body
is_template o first types body writes few small reads order sets plain =
    record {
      writes = writes;
      few = few;
      small = small;
      reads = alone (AllRead (λ (r : Reg). IsAmong r (reads_of o))) body (reads (λ (r : Reg). IsAmong r (reads_of o)) (λ r h. h));
      locals = ordered first first (length types) body order sets;
      plain = λ sight formals named operand typed. alone (IsPlainBody sight) body (plain sight formals named operand typed);
    }

-- What is counted of statements whose locals have these types

pub record HasSizes (first : ℕ) (types : List StType) (body : List Stmt) : Type 0 where
  pub writes : AreWrites body
  pub few : length body ≤ 11
  pub small : nodes_in body ≤ 91
  pub order : disorder first first body ≡ 0
  pub sets : locals_set body ≡ length types

-- by their exact numbers
pub with_sizes : {first : ℕ} {types : List StType} (body : List Stmt) (m n : ℕ) → AreWrites body → length body ≡ m → nodes_in body ≡ n → m ≤ 11 → n ≤ 91
    → disorder first first body ≡ 0 → locals_set body ≡ length types → HasSizes first types body
with_sizes body m n writes e f few small order sets =
    record { writes = writes; few = omega arith; small = omega arith; order = order; sets = sets }

-- statements with sizes serve an instruction, by what they do and read and how they are typed
pub by_sizes : (o : Op) (first : ℕ) (types : List StType) (body : List Stmt) → HasSizes first types body → Do o first types body
    → ((P : Reg → Type 0) → Has P (reads_of o) → AllRead P (body ++ []))
    → ((sight : UnitScope) (formals : Widths) → HasFormals sight formals → HasOperand formals o → AreTyped sight first types → IsPlainBody sight (body ++ []))
    → Serves o first types body
by_sizes o first types body sizes does reads plain =
    record { does = does; template = is_template o first types body sizes.writes sizes.few sizes.small reads sizes.order sizes.sets plain }

-- Plain bodies

pub well_typed_in_parts : (sight : UnitScope) (xs ys : List Stmt) → are_well_typed sight false xs ≡ true → are_well_typed sight false ys ≡ true
    → are_well_typed sight false (xs ++ ys) ≡ true
well_typed_in_parts sight [] ys h k = k
well_typed_in_parts sight (x ∷ xs) ys h k =
    by (is_well_typed sight x false) h (λ e. well_typed_in_parts sight xs ys e k)
  where
    by : (b : Bool) → b && are_well_typed sight false xs ≡ true
        → (are_well_typed sight false xs ≡ true → are_well_typed sight false (xs ++ ys) ≡ true) → b && are_well_typed sight false (xs ++ ys) ≡ true
    by true e others = others e
    by false e others = absurd cc

pub nesting_in_parts : (xs ys : List Stmt) → body_nesting (xs ++ ys) ≡ max (body_nesting xs) (body_nesting ys)
nesting_in_parts [] ys = omega arith
nesting_in_parts (x ∷ xs) ys = omega (arith, nesting_in_parts xs ys)

pub calls_in_parts : (xs ys : List Stmt) → calls_in (xs ++ ys) ≡ calls_in xs ++ calls_in ys
calls_in_parts xs ys =
    ap (flat_map (λ (x : Stmt). call_step (out-Stmt x))) (flat_map-append (λ (x : Stmt). x ∷ inner_statements x) xs ys)
    ∙ flat_map-append (λ (x : Stmt). call_step (out-Stmt x)) (statements_in xs) (statements_in ys)

pub plain_in_parts : (sight : UnitScope) (xs ys : List Stmt) → IsPlainBody sight xs → IsPlainBody sight ys → IsPlainBody sight (xs ++ ys)
plain_in_parts sight xs ys h k =
    record {
      typed = well_typed_in_parts sight xs ys h.typed k.typed;
      low = omega (arith, nesting_in_parts xs ys, h.low, k.low);
      high = subst (All IsLow) (sym (expressions_in_append xs ys)) (All-append IsLow (expressions_in xs) (expressions_in ys) h.high k.high);
      divisors = subst (All IsSureDivisor) (sym (division.in_parts xs ys)) (All-append IsSureDivisor (divisors_in xs) (divisors_in ys) h.divisors k.divisors);
      calls = calls_in_parts xs ys ∙ ap (λ (calls : List (ℕ × List Var)). calls ++ calls_in ys) h.calls ∙ k.calls;
    }
