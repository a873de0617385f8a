-- Where blocks begin, as it is found and as it is defined.
use Rattle.std.proofs.Common.{◌≡◌, ℕ, zero, suc, ◌+◌, ◌<◌, Bool, true, false, ◌||◌, ◌&&◌, ◌==◌, List, [], ◌∷◌, Option, Some, None, fold, get_or, length, replicate, slice_set, refl, sym, ap, subst, ◌∙◌, arith, add-zero, length-set, eqb-true}
use Rattle.std.proofs.Math.Bool.{or_assoc, or_comm, or-false, or-true}
use Rattle.std.proofs.lemmas.Bool.{eqb-false}
use Rattle.std.proofs.lemmas.List.{get_or-replicate, get_or-set_same, get_or-set_other, length-replicate}
use Rattle.std.specs.List.{list_any}
use Rattle.std.specs.Prelude.{option_to_list}
use Rattle.stl_tree.specs.Accepted.{targets_of}
use Rattle.stl_tree.specs.Blocks.{begins_at, goes_elsewhere, is_aimed_at, is_last_at, still_listed}
use Rattle.stl_tree.specs.declared.program.Instr.{Instr}
use Rattle.flow_graph.specs.inner.Beginnings.{AreBeginnings, begins_from, mark, mark_all, mark_of}

-- marks after the one position to which an instruction may jump is marked
pub mark_one : (marks : List Bool) (target : Option ℕ) (targets : List ℕ) → option_to_list target ≡ targets → mark marks target ≡ mark_all marks targets
mark_one marks None targets e = subst (λ ts. marks ≡ mark_all marks ts) e refl
mark_one marks (Some to) targets e = subst (λ ts. slice_set marks to true ≡ mark_all marks ts) e refl

-- Where jumps lead

length_all : (targets : List ℕ) (marks : List Bool) → length (mark_all marks targets) ≡ length marks
length_all [] marks = refl
length_all (to ∷ targets) marks = length_all targets (slice_set marks to true) ∙ length-set marks to true

length_aimed : (body : List Instr) (marks : List Bool) → length (fold mark_of marks body) ≡ length marks
length_aimed [] marks = refl
length_aimed (i ∷ body) marks = length_aimed body (mark_of marks i) ∙ length_all (targets_of i.op) marks

marked : (marks : List Bool) (to k : ℕ) → k < length marks → get_or (slice_set marks to true) k false ≡ (get_or marks k false || (to == k))
marked marks to k h = by (to == k) refl
  where
    by : (t : Bool) → (to == k) ≡ t → get_or (slice_set marks to true) k false ≡ (get_or marks k false || t)
    by true e =
        subst (λ n. get_or (slice_set marks n true) k false ≡ (get_or marks k false || true)) (sym (eqb-true to k e))
        (get_or-set_same marks k true false h ∙ sym (or-true (get_or marks k false)))
    by false e =
        get_or-set_other marks to k true false (λ q. eqb-false to k e (sym q)) ∙ sym (or-false (get_or marks k false))

aimed_by : (targets : List ℕ) (marks : List Bool) (k : ℕ) → k < length marks
    → get_or (mark_all marks targets) k false ≡ (get_or marks k false || list_any (λ to. to == k) targets)
aimed_by [] marks k h = sym (or-false (get_or marks k false))
aimed_by (to ∷ targets) marks k h =
    aimed_by targets (slice_set marks to true) k (subst (λ n. k < n) (sym (length-set marks to true)) h)
    ∙ ap (λ b. b || list_any (λ to. to == k) targets) (marked marks to k h)
    ∙ or_assoc (get_or marks k false) (to == k) (list_any (λ to. to == k) targets)

aimed_in : (body : List Instr) (marks : List Bool) (k : ℕ) → k < length marks
    → get_or (fold mark_of marks body) k false ≡ (get_or marks k false || is_aimed_at body k)
aimed_in [] marks k h = sym (or-false (get_or marks k false))
aimed_in (i ∷ body) marks k h =
    aimed_in body (mark_of marks i) k (subst (λ n. k < n) (sym (length_all (targets_of i.op) marks)) h)
    ∙ ap (λ b. b || is_aimed_at body k) (aimed_by (targets_of i.op) marks k h)
    ∙ or_assoc (get_or marks k false) (list_any (λ to. to == k) (targets_of i.op)) (is_aimed_at body k)

pub size_of_aimed : (body : List Instr) → length (fold mark_of (replicate (length body) false) body) ≡ length body
size_of_aimed body = length_aimed body (replicate (length body) false) ∙ length-replicate (length body) false

aimed_is : (body : List Instr) (k : ℕ) → k < length body → get_or (fold mark_of (replicate (length body) false) body) k false ≡ is_aimed_at body k
aimed_is body k h =
    aimed_in body (replicate (length body) false) k (subst (λ n. k < n) (sym (length-replicate (length body) false)) h)
    ∙ ap (λ b. b || is_aimed_at body k) (get_or-replicate (length body) k false false h)

-- What follows the last instruction of a block

-- an instruction follows the last one of a block, where it is known whether the first one does
abbrev follows : Bool → ℕ → List Instr → ℕ → Bool
follows after n body zero = after
follows after n body (suc k) = is_last_at n body k

follows_on : (i : Instr) (n k : ℕ) (rest : List Instr)
    → follows (goes_elsewhere i.op && (still_listed i.op n == 0)) (still_listed i.op n) rest k ≡ is_last_at n (i ∷ rest) k
follows_on i n zero rest = refl
follows_on i n (suc k) rest = refl

length_begins : (rest : List Instr) (aimed : List Bool) (after : Bool) (n at : ℕ) → length (begins_from aimed after n at rest) ≡ length rest
length_begins [] aimed after n at = refl
length_begins (i ∷ rest) aimed after n at =
    ap suc (length_begins rest aimed (goes_elsewhere i.op && (still_listed i.op n == 0)) (still_listed i.op n) (suc at))

begins_is : (rest : List Instr) (aimed : List Bool) (after : Bool) (n at k : ℕ) → k < length rest
    → get_or (begins_from aimed after n at rest) k false ≡ (follows after n rest k || get_or aimed (at + k) false)
begins_is [] aimed after n at k h = absurd (omega (arith, h))
begins_is (i ∷ rest) aimed after n at zero h = ap (λ m. after || get_or aimed m false) (sym (add-zero at))
begins_is (i ∷ rest) aimed after n at (suc k) h =
    let e : suc at + k ≡ at + suc k = omega arith in
    begins_is rest aimed (goes_elsewhere i.op && (still_listed i.op n == 0)) (still_listed i.op n) (suc at) k (omega (arith, h))
    ∙ ap (λ m. follows (goes_elsewhere i.op && (still_listed i.op n == 0)) (still_listed i.op n) rest k || get_or aimed m false) e
    ∙ ap (λ b. b || get_or aimed (at + suc k) false) (follows_on i n k rest)

-- Both

begins_so : (body : List Instr) (k : ℕ) → (follows true 0 body k || is_aimed_at body k) ≡ begins_at body k
begins_so body zero = refl
begins_so body (suc k) = or_comm (is_last_at 0 body k) (is_aimed_at body (suc k))

-- what is found is what is defined
pub are_beginnings : (body : List Instr) (aimed begins : List Bool) → aimed ≡ fold mark_of (replicate (length body) false) body
    → begins ≡ begins_from aimed true 0 0 body → AreBeginnings body begins
are_beginnings body aimed begins e f = record {
  size = ap length f ∙ length_begins body aimed true 0 0;
  each = λ k h. ap (λ (bs : List Bool). get_or bs k false) f ∙ begins_is body aimed true 0 0 k h
      ∙ ap (λ b. follows true 0 body k || b) (at_aimed k h) ∙ begins_so body k;
}
  where
    at_aimed : (k : ℕ) → k < length body → get_or aimed (0 + k) false ≡ is_aimed_at body k
    at_aimed k h =
        let same : 0 + k ≡ k = omega arith in
        ap (λ (bs : List Bool). get_or bs (0 + k) false) e ∙ ap (λ m. get_or (fold mark_of (replicate (length body) false) body) m false) same
        ∙ aimed_is body k h
