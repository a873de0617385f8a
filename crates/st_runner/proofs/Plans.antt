-- Parts in a plan: where they stand, and what they are.
use Rattle.st_tree.proofs.Common.{◌≡◌, ℕ, zero, suc, ◌+◌, ◌-◌, ◌<◌, ◌≤◌, ℤ, List, [], ◌∷◌, ◌++◌, length, map, drop, get_or, slice_get, slice_set, take, append-nil, Bor, Some, Result, Ok, Err, Fault, State, refl, sym, ap, subst, ◌∙◌, arith, append_assoc, length-append, length-drop}
use Rattle.std.proofs.lemmas.List.{drop-drop, drop_at, get_or-drop, map_more, take_more}
use Rattle.st_runner.proofs.Common.{Arm, At, CaseArm, Frame, Located, Pou, Stmt, if_body, map-Stmt, roll-Stmt}
use Rattle.st_runner.specs.inner.Choice.{labels_of}
use Rattle.st_runner.specs.inner.Plan.{ArePlanned, AreStarts, Closes, IsFramePlanned, IsPlanned, LabelledParts, Stands, arm_parts, arm_step, arms_parts, body_parts, case_part, case_parts, case_step, each_parts, with_head, if_parts, inside_at, inside_case, inside_of, all_parts, parts_of, parts_step, starts_from}
use Rattle.st_runner.specs.inner.Ready.{next_of}
use Rattle.st_runner.specs.inner.Waiting.{or_none, with_rest}
use Rattle.st_runner.specs.declared.frame.At.TheVariants as at
use Rattle.st_runner.specs.declared.frame.Frame.TheVariants as frame
use Rattle.st_runner.specs.declared.plan.Part.{Part}
use Rattle.st_runner.specs.declared.plan.Part.TheVariants as part
use Rattle.st_tree.specs.declared.expr.Expr.{Expr}
use Rattle.st_tree.specs.declared.expr.Var.{Var}
use Rattle.st_tree.specs.declared.program.Arm.{fold_out-Arm}
use Rattle.st_tree.specs.declared.program.CaseArm.{fold_out-CaseArm}
use Rattle.st_tree.specs.declared.program.Stmt.TheOpen as S
use Rattle.st_tree.specs.declared.program.Stmt.TheVariants as stmt
use Rattle.st_tree.proofs.Equations.{fold_stmt}

-- What the parts of statements are

parts_stmt : {x : Stmt} (y : S.Stmt-F Stmt Arm CaseArm) → roll-Stmt y ≡ x
    → parts_of x ≡ parts_step (map-Stmt Stmt Arm CaseArm (List Part) (List Part) LabelledParts parts_of arm_parts case_parts y)
parts_stmt y e = fold_stmt (List Part) (List Part) LabelledParts parts_step arm_step case_step y e

pub arm_is : (arm : Arm) → arm_parts arm ≡ with_head (body_parts arm.body)
arm_is arm = fold_out-Arm (List Part) (List Part) LabelledParts parts_step arm_step case_step arm

case_is : (arm : CaseArm) → case_parts arm ≡ (arm.labels, body_parts arm.body)
case_is arm = fold_out-CaseArm (List Part) (List Part) LabelledParts parts_step arm_step case_step arm

pub if_is : (arms : List Arm) (other : List Stmt) → parts_of (stmt.If arms other) ≡ if_parts arms other
if_is arms other = parts_stmt (S.If arms other) (stmt.rolls-If arms other)

pub assign_is : (v : Var) (e : Expr) → parts_of (stmt.Assign v e) ≡ []
assign_is v e = parts_stmt (S.Assign v e) (stmt.rolls-Assign v e)

pub while_is : (test : Expr) (body : List Stmt) → parts_of (stmt.While test body) ≡ with_head (body_parts body)
while_is test body = parts_stmt (S.While test body) (stmt.rolls-While test body)

labels_are : (arms : List CaseArm) → map (λ (a : LabelledParts). a.0) (map case_parts arms) ≡ labels_of arms
labels_are [] = refl
labels_are (arm ∷ arms) =
    ap (λ (a : LabelledParts). a.0 ∷ map (λ (b : LabelledParts). b.0) (map case_parts arms)) (case_is arm)
    ∙ ap (λ (rest : List (List ℤ)). arm.labels ∷ rest) (labels_are arms)

bodies_are : (arms : List CaseArm) → map (λ (a : LabelledParts). a.1) (map case_parts arms) ≡ each_parts arms
bodies_are [] = refl
bodies_are (arm ∷ arms) =
    ap (λ (a : LabelledParts). a.1 ∷ map (λ (b : LabelledParts). b.1) (map case_parts arms)) (case_is arm)
    ∙ ap (λ (rest : List (List Part)). body_parts arm.body ∷ rest) (bodies_are arms)

abbrev by_parts : List Part → List (List ℤ) → List (List Part) → List Part
by_parts other labels bodies =
    part.Choice (length (other ++ all_parts bodies)) labels (starts_from (length other) bodies) ∷ other ++ all_parts bodies

pub choice_is : (e : Expr) (arms : List CaseArm) (other : List Stmt) → parts_of (stmt.Case e arms other) ≡ case_part arms other ∷ inside_case arms other
choice_is e arms other =
    parts_stmt (S.Case e arms other) (stmt.rolls-Case e arms other)
    ∙ ap (λ (ls : List (List ℤ)). by_parts (body_parts other) ls (map (λ (a : LabelledParts). a.1) (map case_parts arms))) (labels_are arms)
    ∙ ap (λ (ps : List (List Part)). by_parts (body_parts other) (labels_of arms) ps) (bodies_are arms)

-- The parts of lists as they grow

pub starts_more : (n : ℕ) (ps : List (List Part)) (p : List Part) → starts_from n (ps ++ p ∷ []) ≡ starts_from n ps ++ (n + length (all_parts ps)) ∷ []
starts_more n [] p = let none : n ≡ n + 0 = omega arith in ap (λ (k : ℕ). k ∷ []) none
starts_more n (q ∷ ps) p =
    let more : n + length q + length (all_parts ps) ≡ n + length (q ++ all_parts ps) = omega (arith, length-append q (all_parts ps)) in
    ap (λ (ks : List ℕ). n ∷ ks) (starts_more (n + length q) ps p)
    ∙ ap (λ (k : ℕ). n ∷ starts_from (n + length q) ps ++ k ∷ []) more

case_more : (arms : List CaseArm) (i : ℕ) (d : CaseArm) → i < length arms
    → each_parts (take (i + 1) arms) ≡ each_parts (take i arms) ++ body_parts (get_or arms i d).body ∷ []
case_more arms i d l = map_more (λ (arm : CaseArm). body_parts arm.body) arms i d l

-- one arm of a CASE more
pub arm_turn : (old now new : List Part) (i : ℕ) (arms : List CaseArm) (d : CaseArm) → i < length arms
    → now ≡ old ++ all_parts (each_parts (take i arms)) → new ≡ now ++ body_parts (get_or arms i d).body
    → new ≡ old ++ all_parts (each_parts (take (i + 1) arms))
arm_turn old now new i arms d l is more =
    let before = each_parts (take i arms) in
    let p = body_parts (get_or arms i d).body in
    more
    ∙ ap (λ (xs : List Part). xs ++ p) is
    ∙ append_assoc old (all_parts before) p
    ∙ ap (λ (xs : List Part). old ++ xs) (last before p)
    ∙ ap (λ (ps : List (List Part)). old ++ all_parts ps) (sym (case_more arms i d l))
  where
    last : (ps : List (List Part)) (p : List Part) → all_parts ps ++ p ≡ all_parts (ps ++ p ∷ [])
    last [] p = sym (append-nil p)
    last (q ∷ ps) p = append_assoc q (all_parts ps) p ∙ ap (λ (xs : List Part). q ++ xs) (last ps p)

pub starts_turn : (old now : List Part) (from i len : ℕ) (arms : List CaseArm) (d : CaseArm) (starts later : List ℕ) → i < length arms
    → now ≡ old ++ all_parts (each_parts (take i arms)) → ((n : ℕ) → length old ≡ from + n → starts ≡ starts_from n (each_parts (take i arms)))
    → len ≡ length now → later ≡ starts ++ (len - from) ∷ []
    → (n : ℕ) → length old ≡ from + n → later ≡ starts_from n (each_parts (take (i + 1) arms))
starts_turn old now from i len arms d starts later l is so_far e more n m =
    let before = each_parts (take i arms) in
    let place : len - from ≡ n + length (all_parts before) =
    omega (arith, e, m, ap (λ (xs : List Part). length xs) is, length-append old (all_parts before)) in
    more
    ∙ ap (λ (ks : List ℕ). ks ++ (len - from) ∷ []) (so_far n m)
    ∙ ap (λ (k : ℕ). starts_from n before ++ k ∷ []) place
    ∙ sym (starts_more n before (body_parts (get_or arms i d).body))
    ∙ ap (λ (ps : List (List Part)). starts_from n ps) (sym (case_more arms i d l))

pub set_at : (before inside : List Part) (x y : Part) → slice_set (before ++ x ∷ inside) (length before) y ≡ before ++ y ∷ inside
set_at [] inside x y = refl
set_at (b ∷ before) inside x y = ap (λ (ps : List Part). b ∷ ps) (set_at before inside x y)

pub closed : (old : List Part) (place n : ℕ) (head : ℕ → Part) → n ≡ length old
    → Closes place (λ (inside : List Part). head (length inside)) old (slice_set old place (head (n - place - 1)))
closed old place n head e = λ before inside first len is.
    let count : n - place - 1 ≡ length inside =
    omega (arith, e, len, ap (λ (xs : List Part). length xs) is, length-append before (first ∷ inside)) in
    ap (λ (k : ℕ). slice_set old place (head k)) count
    ∙ ap (λ (xs : List Part). slice_set xs place (head (length inside))) is
    ∙ ap (λ (k : ℕ). slice_set (before ++ first ∷ inside) k (head (length inside))) (sym len)
    ∙ set_at before inside first (head (length inside))

filled : (old a b c : List Part) (x : Part) (p q : List Part) → a ≡ old ++ x ∷ [] → b ≡ a ++ p → c ≡ b ++ q → c ≡ old ++ x ∷ (p ++ q)
filled old a b c x p q e f g =
    g
    ∙ ap (λ (xs : List Part). xs ++ q) (f ∙ ap (λ (xs : List Part). xs ++ p) e)
    ∙ append_assoc (old ++ x ∷ []) p q
    ∙ append_assoc old (x ∷ []) (p ++ q)

pub if_closed : (old a b c new : List Part) (place : ℕ) (s : Stmt) (arms : List Arm) (other : List Stmt) → s ≡ stmt.If arms other → place ≡ length old
    → a ≡ old ++ part.Inside 0 ∷ [] → b ≡ a ++ arms_parts arms → c ≡ b ++ body_parts other
    → Closes place (λ (inside : List Part). part.Inside (length inside)) c new → new ≡ old ++ parts_of s
if_closed old a b c new place s arms other is l e f g closes =
    closes old (arms_parts arms ++ body_parts other) (part.Inside 0) (sym l) (filled old a b c (part.Inside 0) (arms_parts arms) (body_parts other) e f g)
    ∙ ap (λ (xs : List Part). old ++ xs) (sym (ap parts_of is ∙ if_is arms other))

pub case_closed : (old a b c new : List Part) (place : ℕ) (s : Stmt) (x : Expr) (arms : List CaseArm) (other : List Stmt)
    (labels : List (List ℤ)) (starts : List ℕ) → s ≡ stmt.Case x arms other → place ≡ length old
    → a ≡ old ++ part.Inside 0 ∷ [] → b ≡ a ++ body_parts other → c ≡ b ++ all_parts (each_parts arms)
    → labels ≡ labels_of arms → ((n : ℕ) → length b ≡ (place + 1) + n → starts ≡ starts_from n (each_parts arms))
    → Closes place (λ (inside : List Part). part.Choice (length inside) labels starts) c new → new ≡ old ++ parts_of s
case_closed old a b c new place s x arms other labels starts is l e f g table begin closes =
    let inside = inside_case arms other in
    let so_many : length b ≡ (place + 1) + length (body_parts other) =
    omega (
      arith,
      l,
      ap (λ (xs : List Part). length xs) f,
      length-append a (body_parts other),
      ap (λ (xs : List Part). length xs) e,
      length-append old (part.Inside 0 ∷ []),
    ) in
    closes old inside (part.Inside 0) (sym l) (filled old a b c (part.Inside 0) (body_parts other) (all_parts (each_parts arms)) e f g)
    ∙ ap (λ (ls : List (List ℤ)). old ++ part.Choice (length inside) ls starts ∷ inside) table
    ∙ ap (λ (ks : List ℕ). old ++ part.Choice (length inside) (labels_of arms) ks ∷ inside) (begin (length (body_parts other)) so_many)
    ∙ ap (λ (xs : List Part). old ++ xs) (sym (ap parts_of is ∙ choice_is x arms other))

pub if_none : (g : List Located) (arms : List Arm) (other : List Stmt) (s : State) → length arms ≡ 0 → if_body g arms other s ≡ Ok other
if_none g [] other s e = refl
if_none g (arm ∷ arms) other s e = absurd (omega arith)

-- Where parts stand

module _ (plan : List Part) where
  pub first_stands : (n : ℕ) (p q : List Part) → Stands plan n (p ++ q) → Stands plan n p
  first_stands n p q h = record { behind = q ++ h.behind; is = h.is ∙ append_assoc p q h.behind }

  pub rest_stands : (n : ℕ) (p q : List Part) → Stands plan n (p ++ q) → Stands plan (n + length p) q
  rest_stands n p q h =
      record {
        behind = h.behind;
        is =
            sym (drop-drop (length p) n plan)
            ∙ ap (λ (xs : List Part). drop (length p) xs) (h.is ∙ append_assoc p q h.behind)
            ∙ drop_at p (q ++ h.behind) (length p) refl;
      }

  pub inside_stands : (n : ℕ) (x : Part) (q : List Part) → Stands plan n (x ∷ q) → Stands plan (n + 1) q
  inside_stands n x q h = rest_stands n (x ∷ []) q h

  pub same_stands : (n : ℕ) (p q : List Part) → p ≡ q → Stands plan n p → Stands plan n q
  same_stands n p q e h = subst (λ (x : List Part). Stands plan n x) e h

  pub at_stands : (n m : ℕ) (p : List Part) → n ≡ m → Stands plan n p → Stands plan m p
  at_stands n m p e h = subst (λ (k : ℕ). Stands plan k p) e h

  -- a part with what is inside of it
  pub part_there : (n : ℕ) (x : Part) (q : List Part) → Stands plan n (x ∷ q) → n < length plan
  part_there n x q h = omega (arith, length-drop n plan, ap (λ (xs : List Part). length xs) h.is)

  pub part_within : (n : ℕ) (x : Part) (q : List Part) → Stands plan n (x ∷ q) → n + (1 + length q) ≤ length plan
  part_within n x q h =
      omega (arith, length-drop n plan, ap (λ (xs : List Part). length xs) h.is, length-append q h.behind)

  pub part_at : (n : ℕ) (x : Part) (q : List Part) (d : Part) → Stands plan n (x ∷ q) → get_or plan n d ≡ x
  part_at n x q d h =
      let none : n ≡ n + 0 = omega arith in
      ap (λ (k : ℕ). get_or plan k d) none
      ∙ sym (get_or-drop n plan 0 d)
      ∙ ap (λ (xs : List Part). get_or xs 0 d) h.is

  pub inside_is : (n : ℕ) (x : Part) (q : List Part) → inside_of x ≡ length q → Stands plan n (x ∷ q) → inside_at plan n ≡ length q
  inside_is n x q e h = ap inside_of (part_at n x q (part.Inside 0) h) ∙ e

  -- the place behind a part and those inside of it
  pub record IsHeaded (n : ℕ) (parts : List Part) : Type 0 where
    pub there : n < length plan
    pub within : n + (1 + inside_at plan n) ≤ length plan
    pub over : n + (1 + inside_at plan n) ≡ n + length parts

  pub headed_at : (n : ℕ) (x : Part) (q : List Part) → inside_of x ≡ length q → Stands plan n (x ∷ q) → IsHeaded n (x ∷ q)
  headed_at n x q e h =
      record {
        there = part_there n x q h;
        within = omega (arith, part_within n x q h, inside_is n x q e h);
        over = omega (arith, inside_is n x q e h);
      }

  headed_as : (n : ℕ) (s : Stmt) (x : Part) (q : List Part) → parts_of s ≡ x ∷ q → inside_of x ≡ length q → Stands plan n (parts_of s) → IsHeaded n (parts_of s)
  headed_as n s x q is e h = subst (λ (p : List Part). IsHeaded n p) (sym is) (headed_at n x q e (same_stands n (parts_of s) (x ∷ q) is h))

  pub if_headed_at : (n : ℕ) (s : Stmt) (arms : List Arm) (other : List Stmt) → s ≡ stmt.If arms other → Stands plan n (parts_of s) → IsHeaded n (parts_of s)
  if_headed_at n s arms other is h =
      let inside = arms_parts arms ++ body_parts other in
      headed_as n s (part.Inside (length inside)) inside (ap parts_of is ∙ if_is arms other) refl h

  pub while_headed_at : (n : ℕ) (s : Stmt) (test : Expr) (body : List Stmt) → s ≡ stmt.While test body → Stands plan n (parts_of s) → IsHeaded n (parts_of s)
  while_headed_at n s test body is h =
      headed_as n s (part.Inside (length (body_parts body))) (body_parts body) (ap parts_of is ∙ while_is test body) refl h

  pub case_headed_at : (n : ℕ) (s : Stmt) (e : Expr) (arms : List CaseArm) (other : List Stmt) → s ≡ stmt.Case e arms other
      → Stands plan n (parts_of s) → IsHeaded n (parts_of s)
  case_headed_at n s e arms other is h =
      headed_as n s (case_part arms other) (inside_case arms other) (ap parts_of is ∙ choice_is e arms other) refl h

  -- What waits

  pub planned_below : (fs : List Frame) (f : Frame) → ArePlanned plan (fs ++ f ∷ []) → ArePlanned plan fs
  planned_below [] f h = tt
  planned_below (g ∷ fs) f h = (h.0, planned_below fs f h.1)

  pub planned_top : (fs : List Frame) (f : Frame) → ArePlanned plan (fs ++ f ∷ []) → IsFramePlanned plan f
  planned_top [] f h = h.0
  planned_top (g ∷ fs) f h = planned_top fs f h.1

  pub planned_push : (fs : List Frame) (f : Frame) → ArePlanned plan fs → IsFramePlanned plan f → ArePlanned plan (fs ++ f ∷ [])
  planned_push [] f h k = (k, tt)
  planned_push (g ∷ fs) f h k = (h.0, planned_push fs f h.1 k)

  pub planned_as : (fs gs : List Frame) → gs ≡ fs → ArePlanned plan fs → ArePlanned plan gs
  planned_as fs gs e h = subst (λ (x : List Frame). ArePlanned plan x) (sym e) h

  planned_or : (xs : List Stmt) (below above : List Frame) → ArePlanned plan below → ArePlanned plan above → ArePlanned plan (or_none xs below above)
  planned_or [] below above h k = h
  planned_or (x ∷ xs) below above h k = k

  pub planned_rest : (fs gs : List Frame) (r : Bor (List Stmt)) (n : ℕ) → gs ≡ with_rest fs r n → ArePlanned plan fs
      → Stands plan n (body_parts r.now) → ArePlanned plan gs
  planned_rest fs gs r n e h k =
      planned_as (with_rest fs r n) gs e (planned_or r.now fs (fs ++ frame.Rest r n ∷ []) h (planned_push fs (frame.Rest r n) h k))

  pub popped : (ws fs : List Frame) (f : Frame) → ws ≡ fs ++ f ∷ [] → ArePlanned plan ws → ArePlanned plan fs × IsFramePlanned plan f
  popped ws fs f e h =
      let k = subst (λ (x : List Frame). ArePlanned plan x) e h in
      (planned_below fs f k, planned_top fs f k)

  pub pushed : (fs gs : List Frame) (f : Frame) → gs ≡ fs ++ f ∷ [] → ArePlanned plan fs → IsFramePlanned plan f → ArePlanned plan gs
  pushed fs gs f e h k = planned_as (fs ++ f ∷ []) gs e (planned_push fs f h k)

  pub goes_on : (ws : List Frame) → ArePlanned plan ws → IsPlanned plan ws at.Work
  goes_on ws h = record { frames = h; coming = tt }

  pub after_done : (ws : List Frame) (r : Result (Unit {0}) Fault) (next : At) → next ≡ next_of r → ArePlanned plan ws → IsPlanned plan ws next
  after_done ws (Ok done) next e h = subst (λ (a : At). IsPlanned plan ws a) (sym e) (goes_on ws h)
  after_done ws (Err f) next e h = subst (λ (a : At). IsPlanned plan ws a) (sym e) (record { frames = h; coming = tt })

  -- the first statement of a list, and the rest
  pub first_planned : (n : ℕ) (b : List Stmt) (x : Stmt) (rest : List Stmt) → b ≡ x ∷ rest → Stands plan n (body_parts b) → Stands plan n (parts_of x)
  first_planned n b x rest e h = first_stands n (parts_of x) (body_parts rest) (same_stands n (body_parts b) (body_parts (x ∷ rest)) (ap body_parts e) h)

  pub rest_planned : (n m : ℕ) (b : List Stmt) (x : Stmt) (rest : List Stmt) → b ≡ x ∷ rest → m ≡ n + length (parts_of x)
      → Stands plan n (body_parts b) → Stands plan m (body_parts rest)
  rest_planned n m b x rest e same h =
      at_stands (n + length (parts_of x)) m (body_parts rest) (sym same)
      (rest_stands n (parts_of x) (body_parts rest) (same_stands n (body_parts b) (body_parts (x ∷ rest)) (ap body_parts e) h))

  -- statements by their parts
  pub if_planned : (n : ℕ) (s : Stmt) (es : List Arm) (os : List Stmt) (arms : List Arm) (other : List Stmt) → s ≡ stmt.If arms other
      → es ≡ arms → os ≡ other → Stands plan n (parts_of s) → Stands plan n (if_parts es os)
  if_planned n s es os arms other is e f h =
      same_stands n (parts_of s) (if_parts es os)
      (ap parts_of is ∙ if_is arms other ∙ ap (λ (xs : List Arm). if_parts xs other) (sym e) ∙ ap (λ (xs : List Stmt). if_parts es xs) (sym f)) h

  pub case_planned : (n : ℕ) (s : Stmt) (v : Expr) (es : List CaseArm) (os : List Stmt) (arms : List CaseArm) (other : List Stmt)
      → s ≡ stmt.Case v arms other → es ≡ arms → os ≡ other → Stands plan n (parts_of s) → Stands plan n (case_part es os ∷ inside_case es os)
  case_planned n s v es os arms other is e f h =
      same_stands n (parts_of s) (case_part es os ∷ inside_case es os)
      (ap parts_of is ∙ choice_is v arms other ∙ ap (λ (xs : List CaseArm). case_part xs other ∷ inside_case xs other) (sym e)
      ∙ ap (λ (xs : List Stmt). case_part es xs ∷ inside_case es xs) (sym f)) h

  pub while_planned : (n : ℕ) (s : Stmt) (test : Expr) (bs body : List Stmt) → s ≡ stmt.While test body → bs ≡ body
      → Stands plan n (parts_of s) → Stands plan (n + 1) (body_parts bs)
  while_planned n s test bs body is e h =
      same_stands (n + 1) (body_parts body) (body_parts bs) (ap body_parts (sym e))
      (inside_stands n (part.Inside (length (body_parts body))) (body_parts body)
      (same_stands n (parts_of s) (with_head (body_parts body)) (ap parts_of is ∙ while_is test body) h))

  -- the first of the arms of an IF that are left
  pub record ArmThere (n : ℕ) (arm : Arm) (behind : List Arm) (q : List Part) : Type 0 where
    pub there : n < length plan
    pub one : n + 1 ≤ length plan
    pub within : n + (1 + inside_at plan n) ≤ length plan
    pub body : Stands plan (n + 1) (body_parts arm.body)
    pub next : Stands plan (n + (1 + inside_at plan n)) (arms_parts behind ++ q)

  pub arm_there : (n : ℕ) (rest : List Arm) (arm : Arm) (behind : List Arm) (q : List Part) → rest ≡ arm ∷ behind
      → Stands plan n (arms_parts rest ++ q) → ArmThere n arm behind q
  arm_there n rest arm behind q e h =
      let inside = body_parts arm.body in
      let all : Stands plan n (with_head inside ++ (arms_parts behind ++ q)) =
      same_stands n (arms_parts rest ++ q) (with_head inside ++ (arms_parts behind ++ q))
      (ap (λ (xs : List Arm). arms_parts xs ++ q) e
      ∙ append_assoc (arm_parts arm) (arms_parts behind) q
      ∙ ap (λ (p : List Part). p ++ (arms_parts behind ++ q)) (arm_is arm)) h in
      let own : Stands plan n (with_head inside) = first_stands n (with_head inside) (arms_parts behind ++ q) all in
      let room : IsHeaded n (with_head inside) = headed_at n (part.Inside (length inside)) inside refl own in
      record {
        there = room.there;
        one = omega (arith, room.there);
        within = room.within;
        body = inside_stands n (part.Inside (length inside)) inside own;
        next =
            at_stands (n + length (with_head inside)) (n + (1 + inside_at plan n)) (arms_parts behind ++ q) (sym room.over)
            (rest_stands n (with_head inside) (arms_parts behind ++ q) all);
      }

  pub arms_end : (n : ℕ) (rest : List Arm) (q : List Part) → length rest ≡ 0 → Stands plan n (arms_parts rest ++ q) → Stands plan n q
  arms_end n [] q e h = h
  arms_end n (arm ∷ rest) q e h = absurd (omega arith)

  pub one_further : (n : ℕ) (x : Part) (q : List Part) → Stands plan n (x ∷ q) → n + 1 ≤ length plan
  one_further n x q h = omega (arith, part_within n x q h)

-- Where the parts of each arm of a CASE start

arm_stands : (plan : List Part) (n m i : ℕ) (arms : List CaseArm) (d : CaseArm) → i < length arms → Stands plan (n + m) (all_parts (each_parts arms))
    → Stands plan (n + get_or (starts_from m (each_parts arms)) i 0) (body_parts (get_or arms i d).body)
arm_stands plan n m i [] d h k = absurd (omega arith)
arm_stands plan n m zero (arm ∷ arms) d h k = first_stands plan (n + m) (body_parts arm.body) (all_parts (each_parts arms)) k
arm_stands plan n m (suc i) (arm ∷ arms) d h k =
    let more : n + m + length (body_parts arm.body) ≡ n + (m + length (body_parts arm.body)) = omega arith in
    arm_stands plan n (m + length (body_parts arm.body)) i arms d (omega (arith, h))
    (at_stands plan (n + m + length (body_parts arm.body)) (n + (m + length (body_parts arm.body))) (all_parts (each_parts arms)) more
    (rest_stands plan (n + m) (body_parts arm.body) (all_parts (each_parts arms)) k))

starts_there : (m : ℕ) (arms : List CaseArm) → length (starts_from m (each_parts arms)) ≡ length arms
starts_there m [] = refl
starts_there m (arm ∷ arms) =
    let h : length (starts_from (m + length (body_parts arm.body)) (each_parts arms)) ≡ length arms = starts_there (m + length (body_parts arm.body)) arms in
    omega arith

pub starts_length : (arms : List CaseArm) (other : List Stmt) → length (starts_from (length (body_parts other)) (each_parts arms)) ≡ length arms
starts_length arms other = starts_there (length (body_parts other)) arms

start_within : (m i : ℕ) (ps : List (List Part)) → i < length ps → get_or (starts_from m ps) i 0 ≤ m + length (all_parts ps)
start_within m i [] h = absurd (omega arith)
start_within m zero (p ∷ ps) h = omega arith
start_within m (suc i) (p ∷ ps) h = omega (arith, start_within (m + length p) i ps (omega (arith, h)), length-append p (all_parts ps))

each_length : (arms : List CaseArm) → length (each_parts arms) ≡ length arms
each_length [] = refl
each_length (arm ∷ arms) = let h : length (each_parts arms) ≡ length arms = each_length arms in omega arith

module _ (plan : List Part) (n : ℕ) (arms : List CaseArm) (other : List Stmt) (h : Stands plan n (case_part arms other ∷ inside_case arms other)) where
  inside : Stands plan (n + 1) (inside_case arms other)
  inside = inside_stands plan n (case_part arms other) (inside_case arms other) h

  pub other_chosen : Stands plan (n + 1) (body_parts other)
  other_chosen = first_stands plan (n + 1) (body_parts other) (all_parts (each_parts arms)) inside

  pub arm_chosen : (i : ℕ) (d : CaseArm) → i < length arms
      → Stands plan (n + 1 + get_or (starts_from (length (body_parts other)) (each_parts arms)) i 0) (body_parts (get_or arms i d).body)
  arm_chosen i d l =
      arm_stands plan (n + 1) (length (body_parts other)) i arms d l
      (rest_stands plan (n + 1) (body_parts other) (all_parts (each_parts arms)) inside)

  pub start_further : (i : ℕ) → i < length arms
      → (n + 1) + get_or (starts_from (length (body_parts other)) (each_parts arms)) i 0 ≤ length plan
  start_further i l =
      omega (
        arith,
        part_within plan n (case_part arms other) (inside_case arms other) h,
        start_within (length (body_parts other)) i (each_parts arms) (omega (arith, l, each_length arms)),
        length-append (body_parts other) (all_parts (each_parts arms)),
      )

  abbrev labels_in : Part → List (List ℤ)
  labels_in (part.Inside k) = []
  labels_in (part.Choice k labels starts) = labels

  abbrev starts_in : Part → List ℕ
  starts_in (part.Inside k) = []
  starts_in (part.Choice k labels starts) = starts

  -- the part that is found is that of the CASE
  pub is_case : (x : Part) → x ≡ get_or plan n x → x ≡ case_part arms other
  is_case x e = e ∙ part_at plan n (case_part arms other) (inside_case arms other) x h

  pub labels_found : (x : Part) (k : ℕ) (labels : List (List ℤ)) (starts : List ℕ) → x ≡ get_or plan n x → x ≡ part.Choice k labels starts
      → labels ≡ labels_of arms
  labels_found x k labels starts e is = ap labels_in (sym is ∙ is_case x e)

  pub starts_found : (x : Part) (k : ℕ) (labels : List (List ℤ)) (starts : List ℕ) → x ≡ get_or plan n x → x ≡ part.Choice k labels starts
      → starts ≡ starts_from (length (body_parts other)) (each_parts arms)
  starts_found x k labels starts e is = ap starts_in (sym is ∙ is_case x e)

  -- where the arm at a place starts
  pub record StartAt (i : ℕ) (starts : List ℕ) (m : ℕ) : Type 0 where
    pub within : i < length starts
    pub further : m + get_or starts i 0 ≤ length plan
    pub stands : (d : CaseArm) → Stands plan (m + get_or starts i 0) (body_parts (get_or arms i d).body)

  pub arm_start : (i : ℕ) (starts : List ℕ) (m : ℕ) → starts ≡ starts_from (length (body_parts other)) (each_parts arms) → m ≡ n + 1
      → i < length arms → StartAt i starts m
  arm_start i starts m e f l =
      subst (λ (ks : List ℕ). StartAt i ks m) (sym e)
      (subst (λ (k : ℕ). StartAt i (starts_from (length (body_parts other)) (each_parts arms)) k) (sym f)
      (record { within = omega (arith, l, starts_length arms other); further = start_further i l; stands = λ d. arm_chosen i d l }))

-- Where the parts of each unit start

grow : (plan more : List Part) (n : ℕ) (p b : List Part) → drop n plan ≡ p ++ b → (c : List Part) × (drop n (plan ++ more) ≡ p ++ c)
grow plan more zero p b e = (b ++ more, ap (λ (xs : List Part). xs ++ more) e ∙ append_assoc p b more)
grow [] more (suc n) [] b e = (drop (suc n) more, refl)
grow [] more (suc n) (x ∷ p) b e = cc
grow (y ∷ plan) more (suc n) p b e = grow plan more n p b e

more_stands : (plan more : List Part) (n : ℕ) (p : List Part) → Stands plan n p → Stands (plan ++ more) n p
more_stands plan more n p h = let g = grow plan more n p h.behind h.is in record { behind = g.0; is = g.1 }

starts_grow : (plan more : List Part) (starts : List ℕ) (units : List Pou) → AreStarts plan starts units → AreStarts (plan ++ more) starts units
starts_grow plan more [] [] h = tt
starts_grow plan more [] (u ∷ units) h = absurd h
starts_grow plan more (s ∷ starts) [] h = absurd h
starts_grow plan more (s ∷ starts) (u ∷ units) h = (more_stands plan more s (body_parts u.body) h.0, starts_grow plan more starts units h.1)

starts_push : (plan : List Part) (starts : List ℕ) (units : List Pou) (s : ℕ) (u : Pou)
    → AreStarts plan starts units → Stands plan s (body_parts u.body) → AreStarts plan (starts ++ s ∷ []) (units ++ u ∷ [])
starts_push plan [] [] s u h k = (k, tt)
starts_push plan [] (v ∷ units) s u h k = absurd h
starts_push plan (t ∷ starts) [] s u h k = absurd h
starts_push plan (t ∷ starts) (v ∷ units) s u h k = (h.0, starts_push plan starts units s u h.1 k)

-- one unit more, whose parts come next
pub next_start : (old new : List Part) (starts later : List ℕ) (units : List Pou) (i s : ℕ) (d : Pou) → i < length units
    → s ≡ length old → new ≡ old ++ body_parts (get_or units i d).body → later ≡ starts ++ s ∷ []
    → AreStarts old starts (take i units) → AreStarts new later (take (i + 1) units)
next_start old new starts later units i s d l e n k h =
    let u = get_or units i d in
    let there : Stands (old ++ body_parts u.body) s (body_parts u.body) =
    record { behind = []; is = drop_at old (body_parts u.body) s (sym e) ∙ sym (append-nil (body_parts u.body)) } in
    subst (λ (xs : List Pou). AreStarts new later xs) (sym (take_more units i d l))
    (subst (λ (ks : List ℕ). AreStarts new ks (take i units ++ u ∷ [])) (sym k)
    (subst (λ (ps : List Part). AreStarts ps (starts ++ s ∷ []) (take i units ++ u ∷ [])) (sym n)
    (starts_push (old ++ body_parts u.body) starts (take i units) s u (starts_grow old (body_parts u.body) starts (take i units) h) there)))

pub start_at : (plan : List Part) (starts : List ℕ) (units : List Pou) (n d : ℕ) (u : Pou) → AreStarts plan starts units
    → slice_get units n ≡ Some u → (n < length starts) × Stands plan (get_or starts n d) (body_parts u.body)
start_at plan [] [] n d u h e = cc
start_at plan [] (v ∷ units) n d u h e = absurd h
start_at plan (s ∷ starts) [] n d u h e = absurd h
start_at plan (s ∷ starts) (v ∷ units) zero d u h e =
    let same : v ≡ u = cc in
    (omega arith, subst (λ (x : Pou). Stands plan s (body_parts x.body)) same h.0)
start_at plan (s ∷ starts) (v ∷ units) (suc n) d u h e =
    let more = start_at plan starts units n d u h.1 e in
    (omega (arith, more.0), more.1)
