-- The jumps of a body that breaks no rule lead to its instructions, and its jump lists are whole.
use Rattle.std.proofs.Common.{◌≡◌, ℕ, zero, suc, ◌+◌, ◌-◌, ◌≤◌, ◌<◌, ◌⊎◌, inl, inr, List, [], ◌∷◌, ◌++◌, length, drop, get_or, Bool, true, false, not, cond, ◌&&◌, ◌==◌, Option, Some, None, is_none, refl, sym, ap, subst, ◌∙◌, arith}
use Rattle.std.specs.Prelude.{All, nat_le, nat_lt, option_and_then, slice_get}
use Rattle.std.specs.List.{prefix_len}
use Rattle.std.proofs.Math.Nat.{min-eq_left, min-le_left}
use Rattle.std.proofs.lemmas.Bool.{and_parts, eqb-true, leb-false, leb-true, ltb-false, ltb-true, not-false}
use Rattle.std.proofs.lemmas.List.{get_or-drop}
use Rattle.std.proofs.lemmas.List.Elements.{All-cons, All-head, All-nil, All-tail}
use Rattle.std.proofs.lemmas.List.Sums.{passes_at_first}
use Rattle.std.proofs.lemmas.Option.{slice_get_cases}
use Rattle.s7_base.specs.declared.reason.Line.{Line}
use Rattle.s7_base.specs.declared.reason.Reason.TheVariants.{BadJumpList, UnknownLabel}
use Rattle.stl_rules.specs.BodyRules.{brackets_at, brackets_from, instruction_too_many, is_list, label_breaks, label_closed, labels_at, labels_from, list_breaks, most_instructions, open_then, target_breaks}
use Rattle.stl_rules.specs.Labels.{has_label, is_always, is_listed, is_same_label, label_of, list_count, listed_in, most_listed, target_in}
use Rattle.stl_rules.specs.Programs.{body_of, instr_of, instrs_of, op_of, or_any, with_list}
use Rattle.stl_rules.specs.Raw.{OperandScope}
use Rattle.stl_rules.specs.Stages.{instr_breaks}
use Rattle.stl_rules.proofs.Lists.{no_parts}
use Rattle.stl_statement_grammar.specs.Mnemonics.{mnemonic_named}
use Rattle.stl_statement_grammar.specs.declared.mnemonic.Mnemonic.{Mnemonic}
use Rattle.stl_statement_grammar.specs.declared.mnemonic.Mnemonic.TheVariants as is
use Rattle.stl_tree.specs.Accepted.{AreJumps, AreListed, HasList, HaveLists, IsAlways, IsOutside, IsTarget, Widths, open_at, targets_of}
use Rattle.stl_tree.specs.declared.program.Instr.{Instr}
use Rattle.stl_tree.specs.declared.program.JumpTest.TheVariants as jump
use Rattle.stl_tree.specs.declared.program.Op.{Op}
use Rattle.stl_tree.specs.declared.program.Op.TheVariants as op
use Rattle.stl_tree.specs.declared.raw.RawInstr.{RawInstr}
use Rattle.verdict_laws.proofs.DataBlockLaws.{not_broken}
use Rattle.verdict_laws.proofs.ProgramLaws.{AimsAt, HasPart, IsClear, always, behind_instr, instr_is, lists, turn_by, turn_of, widths_of_block}

-- Labels

-- a label that is there, with no bracket open at it
label_zero : (line : Line) (o : Option (List ℕ)) (label : List ℕ) (n : ℕ) → is_same_label label o ≡ true → label_closed line o n ≡ [] → n ≡ 0
label_zero line None label n h e = absurd cc
label_zero line (Some own) label zero h e = refl
label_zero line (Some own) label (suc n) h e = absurd cc

-- an instruction with a label is no JU of a jump list
not_both : (label : List ℕ) (raw : RawInstr) → is_listed raw ≡ true → has_label label raw ≡ true → ⊥
not_both label raw listed h = by raw.label (and_parts (is_none raw.label) (is_always (mnemonic_named raw.op.mnemonic)) listed).0 h
  where
    by : (o : Option (List ℕ)) → is_none o ≡ true → is_same_label label o ≡ true → ⊥
    by None none same = cc
    by (Some own) none same = cc

-- what comes before the end of a prefix passes
before_prefix : {X : Type 0} (test : X → Bool) (xs : List X) (k : ℕ) (d : X) → k < prefix_len test xs → test (get_or xs k d) ≡ true
before_prefix test [] k d h = absurd (omega (arith, h))
before_prefix test (x ∷ xs) k d h = by (test x) refl k h (λ j more. before_prefix test xs j d more)
  where
    by : (b : Bool) → test x ≡ b → (k : ℕ) → k < cond b (1 + prefix_len test xs) 0 → ((j : ℕ) → j < prefix_len test xs → test (get_or xs j d) ≡ true)
        → test (get_or (x ∷ xs) k d) ≡ true
    by true t zero h next = t
    by true t (suc k) h next = next k (omega (arith, h))
    by false t k h next = absurd (omega (arith, h))

drop_one_more : {X : Type 0} (xs : List X) (n : ℕ) (x : X) (rest : List X) → x ∷ rest ≡ drop n xs → rest ≡ drop (suc n) xs
drop_one_more [] zero x rest e = absurd cc
drop_one_more [] (suc n) x rest e = absurd cc
drop_one_more (y ∷ xs) zero x rest e = cc
drop_one_more (y ∷ xs) (suc n) x rest e = drop_one_more xs n x rest e

-- Mnemonics of jumps

list_mnemonic : (what : Option Mnemonic) → turn_by what ≡ lists → what ≡ Some is.JumpList
list_mnemonic (Some is.JumpList) e = refl
list_mnemonic (Some (is.Jump jump.Always)) e = absurd cc
list_mnemonic other e = absurd cc

always_mnemonic : (what : Option Mnemonic) → is_always what ≡ true → turn_by what ≡ always
always_mnemonic (Some (is.Jump jump.Always)) e = refl
always_mnemonic other e = absurd cc

always_op : (rest : List RawInstr) (o : Op) → turn_of o ≡ always → IsAlways (with_list rest o)
always_op rest (op.Jump jump.Always to) e = tt
always_op rest other e = absurd cc

-- the targets of an instruction aim so
aimed : (formals : Widths) (rest : List RawInstr) (o : Op) (aim Q : ℕ → Type 0) → ((to : ℕ) → aim to → Q to) → HasPart formals aim o
    → All Q (targets_of (with_list rest o))
aimed formals rest (op.Jump t to) aim Q k h = All-cons Q to [] (k to h.1) (All-nil Q)
aimed formals rest (op.Loop to) aim Q k h = All-cons Q to [] (k to h) (All-nil Q)
aimed formals rest (op.JumpList count to) aim Q k h = All-cons Q to [] (k to h) (All-nil Q)
aimed formals rest other aim Q k h = All-nil Q

-- Bodies

module _ (scope : OperandScope) (clear : IsClear scope) where
  abbrev body : List RawInstr
  body = scope.block.body

  abbrev last : List Instr
  last = record { line = scope.block.end_line; op = op.BlockEnd } ∷ []

  -- an instruction that breaks no rule of names
  abbrev Kept : RawInstr → Type 0
  Kept raw = instr_breaks scope raw ≡ []

  -- a position of a label that is there
  record Known (to : ℕ) : Type 0 where
    label : List ℕ
    is : to ≡ target_in body label
    there : target_in body label < length body

  known : (label : Option (List ℕ)) (line : Line) (to : ℕ) → AimsAt scope label to → target_breaks body line label ≡ [] → Known to
  known None line to aim e = absurd aim
  known (Some label) line to aim e =
      let found : Bool = nat_lt (target_in body label) (length body) in
      record { label = label; is = aim; there = ltb-true (target_in body label) (length body) (not-false found (not_broken (not found) line UnknownLabel e)) }

  -- the rules of labels that an instruction keeps
  record Parts (at : ℕ) (raw : RawInstr) (rest : List RawInstr) : Type 0 where
    target : target_breaks body raw.line (label_of raw.op.operand) ≡ []
    list : list_breaks body at (listed_in rest) raw.line (label_of raw.op.operand) (mnemonic_named raw.op.mnemonic) ≡ []
    more : labels_from body (at + 1) rest ≡ []

  parts : (at : ℕ) (raw : RawInstr) (rest : List RawInstr) → labels_from body at (raw ∷ rest) ≡ [] → Parts at raw rest
  parts at raw rest e =
      let label = label_breaks body at raw.line raw.label in
      let target = target_breaks body raw.line (label_of raw.op.operand) in
      let list = list_breaks body at (listed_in rest) raw.line (label_of raw.op.operand) (mnemonic_named raw.op.mnemonic) in
      let all = no_parts (labels_at body at raw rest) (labels_from body (at + 1) rest) e in
      let own = no_parts (label ++ target) list all.0 in
      record { target = (no_parts label target own.0).1; list = own.1; more = all.1 }

  -- what holds of the position of each label that is there holds of all targets
  all_targets : (Q : ℕ → Type 0) → ((label : List ℕ) → target_in body label < length body → Q (target_in body label)) → (at : ℕ) (raws : List RawInstr)
      → All Kept raws → labels_from body at raws ≡ [] → All (λ (i : Instr). All Q (targets_of i.op)) (instrs_of scope raws ++ last)
  all_targets Q k at [] all e =
      All-cons (λ (i : Instr). All Q (targets_of i.op)) (record { line = scope.block.end_line; op = op.BlockEnd }) []
      (All-nil Q) (All-nil (λ (i : Instr). All Q (targets_of i.op)))
  all_targets Q k at (raw ∷ rest) all e =
      let p = parts at raw rest e in
      let label = label_of raw.op.operand in
      let of_known : (to : ℕ) → AimsAt scope label to → Q to =
      λ to aim. let t = known label raw.line to aim p.target in subst Q (sym t.is) (k t.label t.there) in
      All-cons (λ (i : Instr). All Q (targets_of i.op)) (instr_of scope raw rest) (instrs_of scope rest ++ last)
      (aimed (widths_of_block scope.block) rest (or_any (op_of scope raw.op))
      (AimsAt scope label) Q of_known (instr_is scope raw clear (All-head Kept raw rest all)).0)
      (all_targets Q k (at + 1) rest (All-tail Kept raw rest all) p.more)

  -- no bracket is open at a label
  open_here : (label : List ℕ) (n : ℕ) (raws : List RawInstr) → All Kept raws → brackets_from scope.block.end_line n raws ≡ []
      → target_in raws label < length raws → open_at n (instrs_of scope raws ++ last) (target_in raws label) ≡ Some 0
  open_here label n [] all e h = absurd (omega (arith, h))
  open_here label n (raw ∷ rest) all e h =
      by (has_label label raw) refl h
      (λ inside. open_here label (open_then (mnemonic_named raw.op.mnemonic) n) rest (All-tail Kept raw rest all) split.1 inside)
    where
      what : Option Mnemonic
      what = mnemonic_named raw.op.mnemonic

      split : ((label_closed raw.line raw.label n ++ brackets_at raw.line what n) ≡ [])
          × (brackets_from scope.block.end_line (open_then what n) rest ≡ [])
      split = no_parts (label_closed raw.line raw.label n ++ brackets_at raw.line what n) (brackets_from scope.block.end_line (open_then what n) rest) e

      own : (label_closed raw.line raw.label n ≡ []) × (brackets_at raw.line what n ≡ [])
      own = no_parts (label_closed raw.line raw.label n) (brackets_at raw.line what n) split.0

      goes_on : (to : ℕ) → open_at (open_then what n) (instrs_of scope rest ++ last) to ≡ Some 0
          → open_at n (instr_of scope raw rest ∷ (instrs_of scope rest ++ last)) (suc to) ≡ Some 0
      goes_on to next =
          ap (λ o. option_and_then (λ m. open_at m (instrs_of scope rest ++ last) to) o)
          (behind_instr scope raw rest n clear (All-head Kept raw rest all) own.1)
          ∙ next

      by : (b : Bool) → has_label label raw ≡ b → cond (not b) (1 + target_in rest label) 0 < length (raw ∷ rest)
          → (target_in rest label < length rest
          → open_at (open_then what n) (instrs_of scope rest ++ last) (target_in rest label) ≡ Some 0)
          → open_at n (instr_of scope raw rest ∷ (instrs_of scope rest ++ last)) (cond (not b) (1 + target_in rest label) 0) ≡ Some 0
      by true own_label inside next = ap (λ m. Some m) (label_zero raw.line raw.label label n own_label own.0)
      by false other inside next =
          let one : 1 + target_in rest label ≡ suc (target_in rest label) = omega arith in
          ap (open_at n (instr_of scope raw rest ∷ (instrs_of scope rest ++ last))) one
          ∙ goes_on (target_in rest label) (next (omega (arith, inside)))

  -- Jump lists

  -- a jump list that breaks no rule
  pub record Whole (at : ℕ) (rest : List RawInstr) (to : ℕ) : Type 0 where
    pub some : 1 ≤ listed_in rest
    pub few : listed_in rest ≤ most_listed
    pub label : to ≡ at + 1 + listed_in rest

  whole : (at : ℕ) (rest : List RawInstr) (line : Line) (label : Option (List ℕ)) (to : ℕ) → AimsAt scope label to
      → list_breaks body at (listed_in rest) line label (Some is.JumpList) ≡ [] → Whole at rest to
  whole at rest line None to aim e = absurd aim
  whole at rest line (Some label) to aim e =
      let count = listed_in rest in
      let target = target_in body label in
      let good : is_list body at count target ≡ true =
      not-false (is_list body at count target) (not_broken (not (is_list body at count target)) line BadJumpList e) in
      let a = and_parts (nat_le 1 count && nat_le count most_listed && target == at + 1 + count) (nat_lt target (length body)) good in
      let b = and_parts (nat_le 1 count && nat_le count most_listed) (target == at + 1 + count) a.0 in
      let c = and_parts (nat_le 1 count) (nat_le count most_listed) b.0 in
      record {
        some = leb-true 1 count c.0;
        few = leb-true count most_listed c.1;
        label = aim ∙ eqb-true target (at + 1 + count) b.1;
      }

  pub whole_of : (at : ℕ) (raw : RawInstr) (rest : List RawInstr) (to : ℕ) → AimsAt scope (label_of raw.op.operand) to
      → turn_by (mnemonic_named raw.op.mnemonic) ≡ lists → labels_from body at (raw ∷ rest) ≡ [] → Whole at rest to
  whole_of at raw rest to aim t e =
      let label = label_of raw.op.operand in
      whole at rest raw.line label to aim
      (sym (ap (list_breaks body at (listed_in rest) raw.line label) (list_mnemonic (mnemonic_named raw.op.mnemonic) t)) ∙ (parts at raw rest e).list)

  -- a jump list has a JU, and what comes after an instruction keeps the rules too
  pub list_some : (at : ℕ) (raw : RawInstr) (rest : List RawInstr) → Kept raw → labels_from body at (raw ∷ rest) ≡ []
      → (turn_by (mnemonic_named raw.op.mnemonic) ≡ lists → 1 ≤ listed_in rest) × (labels_from body (at + 1) rest ≡ [])
  list_some at raw rest own e =
      let i = instr_is scope raw clear own in
      ((λ t. by (or_any (op_of scope raw.op)) i.0 i.1 t), (parts at raw rest e).more)
    where
      by : (o : Op) → HasPart (widths_of_block scope.block) (AimsAt scope (label_of raw.op.operand)) o → turn_of o ≡ turn_by (mnemonic_named raw.op.mnemonic)
          → turn_by (mnemonic_named raw.op.mnemonic) ≡ lists → 1 ≤ listed_in rest
      by (op.JumpList count to) part is t = (whole_of at raw rest to part t e).some
      by (op.Jump jump.Always to) part is t = let apart : always ≡ lists = is ∙ t in absurd cc
      by other part is t = let apart : turn_of other ≡ lists = is ∙ t in absurd cc

  listed_are : (n : ℕ) (rest : List RawInstr) → n ≤ listed_in rest → All Kept rest → AreListed n (instrs_of scope rest ++ last)
  listed_are zero rest h all = tt
  listed_are (suc n) [] h all = absurd (omega (arith, h))
  listed_are (suc n) (raw ∷ rest) h all = by (is_listed raw) refl h (λ inside. listed_are n rest inside (All-tail Kept raw rest all))
    where
      is_ju : is_listed raw ≡ true → IsAlways (instr_of scope raw rest).op
      is_ju listed =
          let what = mnemonic_named raw.op.mnemonic in
          let t : turn_by what ≡ always = always_mnemonic what (and_parts (is_none raw.label) (is_always what) listed).1 in
          always_op rest (or_any (op_of scope raw.op)) ((instr_is scope raw clear (All-head Kept raw rest all)).1 ∙ t)

      by : (b : Bool) → is_listed raw ≡ b → suc n ≤ cond b (1 + listed_in rest) 0
          → (n ≤ listed_in rest → AreListed n (instrs_of scope rest ++ last))
          → IsAlways (instr_of scope raw rest).op × AreListed n (instrs_of scope rest ++ last)
      by true listed inside next = (is_ju listed, next (omega (arith, inside)))
      by false other inside next = absurd (omega (arith, inside))

  -- no label is at the JU of a jump list
  outside : (at count : ℕ) (raw : RawInstr) (rest : List RawInstr) → rest ≡ drop (suc at) body → count ≤ listed_in rest → (label : List ℕ)
      → target_in body label < length body → IsOutside at count (target_in body label)
  outside at count raw rest is few label there = by (nat_le to at) refl (nat_lt (at + count) to) refl
    where
      to : ℕ
      to = target_in body label

      inside : at < to → to ≤ at + count → ⊥
      inside after before =
          let k : ℕ = to - suc at in
          let place : suc at + k ≡ to = omega (arith, after) in
          let same : get_or rest k raw ≡ get_or body to raw =
          ap (λ l. get_or l k raw) is ∙ get_or-drop (suc at) body k raw ∙ ap (λ i. get_or body i raw) place in
          let listed : is_listed (get_or rest k raw) ≡ true = before_prefix is_listed rest k raw (omega (arith, after, before, few)) in
          not_both label (get_or body to raw) (sym (ap is_listed same) ∙ listed) (passes_at_first (has_label label) body raw there)

      by : (a : Bool) → nat_le to at ≡ a → (b : Bool) → nat_lt (at + count) to ≡ b → IsOutside at count to
      by true a b c = inl (leb-true to at a)
      by false a true b = inr (ltb-true (at + count) to b)
      by false a false b = absurd (inside (leb-false to at a) (ltb-false (at + count) to b))

  module _ (kept : All Kept body) (labels : labels_from body 0 body ≡ []) where
    has_list : (at : ℕ) (raw : RawInstr) (rest : List RawInstr) → Kept raw → All Kept rest → rest ≡ drop (suc at) body
        → labels_from body at (raw ∷ rest) ≡ [] → HasList (body_of scope) at (instr_of scope raw rest).op (instrs_of scope rest ++ last)
    has_list at raw rest own all is e =
        let i = instr_is scope raw clear own in
        by (or_any (op_of scope raw.op)) i.0 (sym i.1)
      where
        by : (o : Op) → HasPart (widths_of_block scope.block) (AimsAt scope (label_of raw.op.operand)) o → turn_by (mnemonic_named raw.op.mnemonic) ≡ turn_of o
            → HasList (body_of scope) at (with_list rest o) (instrs_of scope rest ++ last)
        by (op.JumpList count to) part t =
            let w = whole_of at raw rest to part t e in
            let full : list_count rest ≡ listed_in rest = min-eq_left w.few in (
              listed_are (list_count rest) rest (min-le_left (listed_in rest) most_listed) all,
              all_targets (IsOutside at (list_count rest)) (outside at (list_count rest) raw rest is (min-le_left (listed_in rest) most_listed)) 0 body
                  kept labels,
              w.label ∙ ap (λ n. at + 1 + n) (sym full),
            )
        by other part t = tt

    have_lists : (at : ℕ) (raws : List RawInstr) → All Kept raws → raws ≡ drop at body → labels_from body at raws ≡ []
        → HaveLists (body_of scope) at (instrs_of scope raws ++ last)
    have_lists at [] all is e = (tt, tt)
    have_lists at (raw ∷ rest) all is e =
        let more : rest ≡ drop (suc at) body = drop_one_more body at raw rest is in
        let next : suc at ≡ at + 1 = omega arith in (
          has_list at raw rest (All-head Kept raw rest all) (All-tail Kept raw rest all) more e,
          have_lists (at + 1) rest (All-tail Kept raw rest all) (more ∙ ap (λ n. drop n body) next) (parts at raw rest e).more,
        )

    pub are_jumps : brackets_from scope.block.end_line 0 body ≡ [] → AreJumps (body_of scope)
    are_jumps closed =
        record {
          targets = all_targets (IsTarget (body_of scope)) (λ label there. open_here label 0 body kept closed there) 0 body kept labels;
          lists = have_lists 0 body kept refl labels;
        }

-- How many there are

few_instructions : (raws : List RawInstr) → instruction_too_many (slice_get raws most_instructions) ≡ [] → length raws ≤ most_instructions
few_instructions raws e = by (slice_get_cases raws most_instructions).1
  where
    told : (raw : RawInstr) → slice_get raws most_instructions ≡ Some raw → ⊥
    told raw is = let some : instruction_too_many (Some raw) ≡ [] = sym (ap instruction_too_many is) ∙ e in cc

    by : ((raw : RawInstr) × (most_instructions < length raws) × (slice_get raws most_instructions ≡ Some raw) × (get_or raws most_instructions raw ≡ raw))
        ⊎ ((length raws ≤ most_instructions) × (slice_get raws most_instructions ≡ None))
        → length raws ≤ most_instructions
    by (inl some) = absurd (told some.0 some.2)
    by (inr none) = none.0

as_many : (scope : OperandScope) (raws : List RawInstr) (i : Instr) → length (instrs_of scope raws ++ i ∷ []) ≡ suc (length raws)
as_many scope [] i = refl
as_many scope (raw ∷ rest) i = ap suc (as_many scope rest i)

pub few : (scope : OperandScope) → instruction_too_many (slice_get scope.block.body most_instructions) ≡ [] → length (body_of scope) ≤ 32769
few scope e =
    let end : Instr = record { line = scope.block.end_line; op = op.BlockEnd } in
    omega (arith, few_instructions scope.block.body e, as_many scope scope.block.body end)
