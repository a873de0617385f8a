-- The region of a part weighs no more than its blocks, and is as deep as its plan lets it be.
use Rattle.std.proofs.Common.{◌≡◌, ℕ, zero, suc, ◌+◌, ◌-◌, ◌<◌, ◌≤◌, ◌==◌, nat_lt, max, Bool, true, false, ◌&&◌, if◌then◌else◌, List, [], ◌∷◌, ◌++◌, slice_get, Option, Some, None, refl, ap, subst, arith}
use Rattle.std.proofs.lemmas.Bool.{and_parts, cond_both, eqb-false, eqb-true, leb-true, ltb-true}
use Rattle.st_tree.specs.declared.graph.StExit.{StExit}
use Rattle.st_tree.specs.declared.graph.StExit.TheVariants as exit
use Rattle.st_tree.specs.declared.graph.StNode.{StNode}
use Rattle.st_tree.specs.declared.program.Stmt.{Stmt}
use Rattle.stl_tree.specs.Flows.{Segment}
use Rattle.nesting_laws.specs.Plans.{Around, IsPlan, IsRow, Kind, Plan, arm, arms, blocks, cases, done, inside, levels, list_arm, list_arms, loop, next, no_loop, one, skip}
use Rattle.region_laws.specs.RegionDepth.{depth, most_of}
use Rattle.region_laws.specs.Regions.{Place, Region, again, at, choose, ended, fork, is_among, leaves, loop_head, node, off, quit}
use Rattle.region_plans.specs.Charts.{IsCharted, IsFirst, IsPart}
use Rattle.region_plans.specs.PlanRegion.{Chart, arm_from, cases_region, end_of, exit_region, fork_region, is_at, is_end, is_last, is_out, later_starts, list_region, loop_region, nodes_of, one_region, region_of, rest_from, starts_from, tail_out, tail_to, test_region, way_to}
use Rattle.region_plans.specs.RegionCounts.{IsSimple, IsWithin, Weights, before, block_weight, exit_weight, mark_weight, node_weight, sum_of, way_weight, weight}
use Rattle.region_plans.specs.RegionLaws.{PartIsFlat, PartIsWithin}
use Rattle.region_plans.proofs.Fitting.{arm_top, head_marked, head_reached, label_ahead, no_arm_behind}
use Rattle.region_plans.proofs.ListNodes.{among_first, among_more, start_is}

-- Sums

before_further : (f : ℕ → ℕ) (a n : ℕ) → before f a ≤ before f (n + a)
before_further f a zero = subst (λ b. before f a ≤ before f b) (let e : a ≡ zero + a = omega arith in e) (omega arith)
before_further f a (suc n) =
    subst (λ b. before f a ≤ before f b) (let e : suc (n + a) ≡ suc n + a = omega arith in e)
    (let l : before f a ≤ before f (n + a) = before_further f a n in omega arith)

pub before_more : (f : ℕ → ℕ) (a b : ℕ) → a ≤ b → before f a ≤ before f b
before_more f a b h =
    let e : (b - a) + a ≡ b = omega arith in subst (λ b. before f a ≤ before f b) e (before_further f a (b - a))

pub sum_append : (f : ℕ → ℕ) (xs ys : List ℕ) → sum_of f (xs ++ ys) ≡ sum_of f xs + sum_of f ys
sum_append f [] ys = omega arith
sum_append f (x ∷ xs) ys = let h = sum_append f xs ys in omega arith

pub sum_where : (f h : ℕ → ℕ) (xs : List ℕ) → ((n : ℕ) → is_among n xs ≡ true → f n ≡ h n) → sum_of f xs ≡ sum_of h xs
sum_where f h [] same = refl
sum_where f h (n ∷ xs) same =
    let e = same n (among_first n xs) in let more = sum_where f h xs (λ m e. same m (among_more m n xs e)) in omega arith

-- Weights

module _ (w : Weights) (c : Chart) where
  abbrev Blocks : ℕ → ℕ
  Blocks = before (block_weight w c)

  end_within : (t : ℕ) → weight w (end_of c t) ≤ way_weight w c
  end_within t = cond_both (is_end c t) (node c.end_steps ended) off (λ r. weight w r ≤ way_weight w c) (λ e. omega arith) (λ n. omega arith)

  way_within : (a : Around) (t : ℕ) → weight w (way_to c a t) ≤ way_weight w c
  way_within no_loop t = end_within t
  way_within (inside left h l) t =
      cond_both (t == h) again (if left && (t == suc l) then leaves else end_of c t) (λ r. weight w r ≤ way_weight w c) (λ e. omega arith)
      (λ n. cond_both (left && (t == suc l)) leaves (end_of c t) (λ r. weight w r ≤ way_weight w c) (λ e. omega arith) (λ m. end_within t))

  -- what begins with a block
  begun_within : (turn : Bool) (lo hi : ℕ) (r : Region) → weight w r + mark_weight w (c.unit.marks lo) + Blocks lo ≤ Blocks hi
      → IsWithin w c turn lo hi r
  begun_within true lo hi r l = l
  begun_within false lo hi r l = omega arith

  off_within : (turn : Bool) (lo hi : ℕ) → lo < hi → IsWithin w c turn lo hi off
  off_within turn lo hi x =
      let l = before_more (block_weight w c) (suc lo) hi x in
      let e : Blocks (suc lo) ≡ Blocks lo + block_weight w c lo = refl in
      begun_within turn lo hi off (omega arith)

  module _ (turn : Bool) (lo hi : ℕ) (follow : Place) (a : Around) (rest : Region) (x : lo < hi) (is : IsWithin w c false (suc lo) hi rest) where
    leaf_within : (r : Region) → weight w r ≤ way_weight w c → weight w r + Blocks (suc lo) ≤ Blocks hi + way_weight w c
    leaf_within r l = let m = before_more (block_weight w c) (suc lo) hi x in omega arith

    tail_within : (t : ℕ) → weight w (tail_to c lo hi follow a rest t) + Blocks (suc lo) ≤ Blocks hi + way_weight w c
    tail_within t =
        cond_both ((t == c.next lo) && nat_lt t hi) rest (if is_at follow t && is_last c lo hi then off else way_to c a t)
        (λ r. weight w r + Blocks (suc lo) ≤ Blocks hi + way_weight w c)
        (λ e. let l : weight w rest + 0 + Blocks (suc lo) ≤ Blocks hi = is in omega arith)
        (λ n. leaf_within (if is_at follow t && is_last c lo hi then off else way_to c a t)
        (cond_both (is_at follow t && is_last c lo hi) off (way_to c a t) (λ r. weight w r ≤ way_weight w c) (λ e. omega arith) (λ m. way_within a t)))

    -- what the block weighs, where its node has these steps and this exit
    abbrev Weighs : List Stmt → StExit → Type 0
    Weighs steps y =
        Blocks (suc lo) ≡ Blocks lo + (w.steps steps + exit_weight w y + mark_weight w (c.unit.marks lo) + (way_weight w c + way_weight w c))

    node_within : (steps : List Stmt) (y : StExit) (r : Region) → exit_weight w y ≡ 0 → Weighs steps y
        → weight w r + Blocks (suc lo) ≤ Blocks hi + way_weight w c → IsWithin w c turn lo hi (node steps r)
    node_within steps y r none e l = begun_within turn lo hi (node steps r) (omega arith)

    exit_within : (steps : List Stmt) (y : StExit) → Weighs steps y → IsWithin w c turn lo hi (exit_region c lo hi follow a rest steps y)
    exit_within steps exit.Fall e = node_within steps exit.Fall (tail_to c lo hi follow a rest (suc lo)) refl e (tail_within (suc lo))
    exit_within steps (exit.Jump t) e = node_within steps (exit.Jump t) (tail_to c lo hi follow a rest t) refl e (tail_within t)
    exit_within steps (exit.Branch test t) e =
        cond_both (is_at follow t && is_last c lo hi)
        (fork steps test off (tail_to c lo hi follow a rest (suc lo)) follow off)
        (fork steps test (way_to c a t) off (at (suc lo)) (tail_to c lo hi follow a rest (suc lo)))
        (IsWithin w c turn lo hi)
        (λ q. forked off (tail_to c lo hi follow a rest (suc lo)) off follow (let l = tail_within (suc lo) in omega arith))
        (λ q. forked (way_to c a t) off (tail_to c lo hi follow a rest (suc lo)) (at (suc lo))
        (let l = tail_within (suc lo) in let m = way_within a t in omega arith))
      where
        forked : (there behind r : Region) (join : Place)
            → weight w there + weight w behind + weight w r + Blocks (suc lo) ≤ Blocks hi + (way_weight w c + way_weight w c)
            → IsWithin w c turn lo hi (fork steps test there behind join r)
        forked there behind r join l = begun_within turn lo hi (fork steps test there behind join r) (omega arith)
    exit_within steps (exit.EndIf test) e = quitting (tail_to c lo hi follow a rest (suc lo)) (tail_within (suc lo))
      where
        quitting : (r : Region) → weight w r + Blocks (suc lo) ≤ Blocks hi + way_weight w c → IsWithin w c turn lo hi (quit steps test r)
        quitting r l = begun_within turn lo hi (quit steps test r) (omega arith)
    exit_within steps (exit.Table test targets last) e = off_within turn lo hi x
    exit_within steps exit.End e =
        node_within steps exit.End (tail_out c lo hi follow) refl e
        (leaf_within (tail_out c lo hi follow)
        (cond_both (is_out follow && is_last c lo hi) off ended (λ r. weight w r ≤ way_weight w c) (λ e. omega arith) (λ n. omega arith)))

    one_within : IsWithin w c turn lo hi (one_region c lo hi follow a rest (slice_get c.unit.nodes lo))
    one_within = by (slice_get c.unit.nodes lo) refl
      where
        by : (o : Option StNode) → Blocks (suc lo) ≡ Blocks lo + (node_weight w o + mark_weight w (c.unit.marks lo) + (way_weight w c + way_weight w c))
            → IsWithin w c turn lo hi (one_region c lo hi follow a rest o)
        by None e = off_within turn lo hi x
        by (Some n) e = exit_within n.steps n.exit (omega arith)

  fork_within : (turn : Bool) (lo hi : ℕ) (there behind rest : Region) (join : Place) → lo < hi
      → weight w there + weight w behind + weight w rest + Blocks (suc lo) ≤ Blocks hi
      → IsWithin w c turn lo hi (fork_region there behind join rest (slice_get c.unit.nodes lo))
  fork_within turn lo hi there behind rest join x l = by (slice_get c.unit.nodes lo) refl
    where
      tested : (steps : List Stmt) (y : StExit)
          → Blocks (suc lo) ≡ Blocks lo + (w.steps steps + exit_weight w y + mark_weight w (c.unit.marks lo) + (way_weight w c + way_weight w c))
          → IsWithin w c turn lo hi (test_region there behind join rest steps y)
      tested steps (exit.Branch test t) e = begun_within turn lo hi (fork steps test there behind join rest) (omega arith)
      tested steps other e = off_within turn lo hi x

      by : (o : Option StNode) → Blocks (suc lo) ≡ Blocks lo + (node_weight w o + mark_weight w (c.unit.marks lo) + (way_weight w c + way_weight w c))
          → IsWithin w c turn lo hi (fork_region there behind join rest o)
      by None e = off_within turn lo hi x
      by (Some n) e = tested n.steps n.exit (omega arith)

  -- a block with a jump list
  cases_within : (turn : Bool) (lo e hi : ℕ) (inner : Plan) (by_node : ℕ → Region) (other rest : Region) → lo < hi
      → ((targets : List ℕ) → sum_of (λ j. weight w (by_node j)) (nodes_of inner e targets) + weight w other + weight w rest + Blocks (suc lo)
      ≤ Blocks hi + way_weight w c)
      → IsWithin w c turn lo hi (cases_region inner e by_node other rest (slice_get c.unit.nodes lo))
  cases_within turn lo e hi inner by_node other rest x l = by (slice_get c.unit.nodes lo) refl
    where
      listed : (steps : List Stmt) (y : StExit)
          → Blocks (suc lo) ≡ Blocks lo + (w.steps steps + exit_weight w y + mark_weight w (c.unit.marks lo) + (way_weight w c + way_weight w c))
          → IsWithin w c turn lo hi (list_region inner e by_node other rest steps y)
      listed steps (exit.Table test targets last) q =
          let m = l targets in begun_within turn lo hi (choose steps test targets (nodes_of inner e targets) by_node other (at e) rest) (omega arith)
      listed steps other_exit q = off_within turn lo hi x

      by : (o : Option StNode) → Blocks (suc lo) ≡ Blocks lo + (node_weight w o + mark_weight w (c.unit.marks lo) + (way_weight w c + way_weight w c))
          → IsWithin w c turn lo hi (cases_region inner e by_node other rest o)
      by None q = off_within turn lo hi x
      by (Some n) q = listed n.steps n.exit (omega arith)

  rest_within : (e hi : ℕ) (follow : Place) (a : Around) (rest : Region) → e ≤ hi → weight w rest + Blocks e ≤ Blocks hi
      → weight w (rest_from c e hi follow a rest) + Blocks e ≤ Blocks hi + way_weight w c
  rest_within e hi follow a rest x l =
      let m = before_more (block_weight w c) e hi x in
      cond_both (nat_lt e hi) rest (if is_at follow e then off else way_to c a e) (λ r. weight w r + Blocks e ≤ Blocks hi + way_weight w c)
      (λ y. omega arith)
      (λ n. cond_both (is_at follow e) off (way_to c a e) (λ r. weight w r + Blocks e ≤ Blocks hi + way_weight w c) (λ y. omega arith)
      (λ y. let v = way_within a e in omega arith))

  -- what arms weigh, the first one apart or not
  later_sum : (plan : Plan) (lo e : ℕ) (a : Around)
      → sum_of (λ j. weight w (arm_from c plan lo e a j)) (later_starts plan) + weight w (arm_from c plan lo e a lo)
      ≡ sum_of (λ j. weight w (arm_from c plan lo e a j)) (starts_from plan lo)
  later_sum (next d inner others) lo e a = omega arith
  later_sum other lo e a = refl

  loop_within : (flag : Bool) (lo l hi : ℕ) (body rest : Region) (follow : Place) → l < hi → c.unit.marks lo ≡ loop_head
      → IsWithin w c true lo (suc l) body → IsWithin w c false (suc l) hi rest → IsWithin w c false lo hi (loop_region flag body l follow rest)
  loop_within flag lo l hi body rest follow x head is more = by flag (ap (mark_weight w) head) is more
    where
      by : (flag : Bool) → mark_weight w (c.unit.marks lo) ≡ w.turn
          → weight w body + mark_weight w (c.unit.marks lo) + Blocks lo ≤ Blocks (suc l) → weight w rest + 0 + Blocks (suc l) ≤ Blocks hi
          → IsWithin w c false lo hi (loop_region flag body l follow rest)
      by true e m n = omega arith
      by false e m n = let o = before_more (block_weight w c) (suc l) hi x in omega arith

  module _ (g : Segment) (ok : IsCharted c g) where
    mutual
      within : (plan : Plan) (turn : Bool) (lo hi f : ℕ) (a : Around) (k : Kind) (follow : Place) → IsPlan g plan turn lo hi f a k → IsRow k
          → IsPart c g turn lo hi → IsWithin w c turn lo hi (region_of c plan lo hi follow a)
      within done true lo hi f a k follow is row part = absurd (let x : lo < hi = (part.turned refl).high in omega arith)
      within done false lo hi f a k follow is row part = let l = before_more (block_weight w c) lo hi (omega arith) in omega arith
      within (skip rest) true lo hi f a k follow (x, row', none, is) row part = absurd (none ((ok.reached lo).0 (part.turned refl).reached))
      within (skip rest) false lo hi f a k follow (x, row', none, is) row part =
          let low : g.first ≤ lo = part.low in let r = region_of c rest (suc lo) hi follow a in
          let l : weight w r + 0 + Blocks (suc lo) ≤ Blocks hi
          = within rest false (suc lo) hi f a k follow is row (record { low = (omega arith); high = part.high; turned = λ e. absurd cc }) in
          let m = before_more (block_weight w c) lo (suc lo) (omega arith) in omega arith
      within (one rest) turn lo hi f a k follow (x, row', is_one, is) row part =
          let low : g.first ≤ lo = part.low in
          one_within turn lo hi follow a (region_of c rest (suc lo) hi follow a) x
          (within rest false (suc lo) hi f a k follow is row (record { low = (omega arith); high = part.high; turned = λ e. absurd cc }))
      within (arm t d inner rest) turn lo hi f a k follow (x, row', fresh, branch, none, is, is') row part =
          let low : g.first ≤ lo = part.low in let high : hi ≤ g.past = part.high in
          let ahead : lo < d = branch.ahead in let top : d ≤ hi = arm_top c g ok hi f t d k branch.ends in
          let m = region_of c inner (suc lo) d (at t) a in let r = region_of c rest d hi follow a in
          let l : weight w m + 0 + Blocks (suc lo) ≤ Blocks d
          = within inner false (suc lo) d t a k (at t) is row (record { low = (omega arith); high = (omega arith); turned = λ e. absurd cc }) in
          let n : weight w r + 0 + Blocks d ≤ Blocks hi
          = within rest false d hi f a k follow is' row (record { low = (omega arith); high = high; turned = λ e. absurd cc }) in
          fork_within turn lo hi off m r (at t) x (omega arith)
      within (arms t u d inner other_inner rest) turn lo hi f a k follow (x, row', fresh, branch, other, is, is', is'') row part =
          let low : g.first ≤ lo = part.low in let high : hi ≤ g.past = part.high in
          let ahead : lo < t = branch.ahead in let far : t < d = other.ahead in let top : d ≤ hi = arm_top c g ok hi f u d k other.ends in
          let m = region_of c inner (suc lo) t (at u) a in let m' = region_of c other_inner t d (at u) a in let r = region_of c rest d hi follow a in
          let l : weight w m + 0 + Blocks (suc lo) ≤ Blocks t
          = within inner false (suc lo) t u a blocks (at u) is tt (record { low = (omega arith); high = (omega arith); turned = λ e. absurd cc }) in
          let l' : weight w m' + 0 + Blocks t ≤ Blocks d
          = within other_inner false t d u a k (at u) is' row (record { low = (omega arith); high = (omega arith); turned = λ e. absurd cc }) in
          let n : weight w r + 0 + Blocks d ≤ Blocks hi
          = within rest false d hi f a k follow is'' row (record { low = (omega arith); high = high; turned = λ e. absurd cc }) in
          fork_within turn lo hi m' m r (at u) x (omega arith)
      within (loop left l body rest) true lo hi f a k follow (row', opened, may, is, is') row part = absurd (let e : true ≡ false = opened.free in cc)
      within (loop left l body rest) false lo hi f a k follow (row', opened, may, is, is') row part =
          let low : g.first ≤ lo = part.low in let high : hi ≤ g.past = part.high in
          let long : lo ≤ l = opened.loop.ordered in let top : l < hi = opened.within in
          let head : IsFirst c lo (suc l) lo = record {
            low = (omega arith);
            high = (omega arith);
            reached = head_reached c g ok lo l opened.loop;
            bare = λ q y z. absurd (omega arith);
          } in
          loop_within (left && c.unit.reached (suc l)) lo l hi (region_of c body lo (suc l) (at lo) (inside left lo l))
          (region_of c rest (suc l) hi follow a) follow
          top (head_marked c g ok lo l opened.loop low (omega arith))
          (within body true lo (suc l) lo (inside left lo l) blocks (at lo) is tt (record { low = low; high = (omega arith); turned = λ e. head }))
          (within rest false (suc l) hi f a k follow is' row (record { low = (omega arith); high = high; turned = λ e. absurd cc }))
      within (cases e inner rest) turn lo hi f a k follow (x, row', fresh, choice, is, is') row part =
          let low : g.first ≤ lo = part.low in let high : hi ≤ g.past = part.high in
          let top : e ≤ hi = choice.within in let ahead : lo < e = label_ahead c g ok lo hi f a e choice in
          let by_node : ℕ → Region = arm_from c inner (suc lo) e a in let r = region_of c rest e hi follow a in
          let l : sum_of (λ j. weight w (by_node j)) (starts_from inner (suc lo)) + Blocks (suc lo) ≤ Blocks e
          = arms_within inner false lo (suc lo) e a is (omega arith) (omega arith) in
          let s : sum_of (λ j. weight w (by_node j)) (later_starts inner) + weight w (by_node (suc lo))
          ≡ sum_of (λ j. weight w (by_node j)) (starts_from inner (suc lo)) = later_sum inner (suc lo) e a in
          let m : weight w r + 0 + Blocks e ≤ Blocks hi
          = within rest false e hi f a k follow is' row (record { low = (omega arith); high = high; turned = λ e. absurd cc }) in
          let n = rest_within e hi follow a r top (omega arith) in
          cases_within turn lo e hi inner by_node (by_node (suc lo)) (rest_from c e hi follow a r) x
          (λ targets.
          let f : sum_of (λ j. weight w (by_node j)) (nodes_of inner e targets)
          ≡ sum_of (λ j. weight w (by_node j)) (later_starts inner) + sum_of (λ j. weight w (by_node j)) (if is_among e targets then e ∷ [] else [])
          = sum_append (λ j. weight w (by_node j)) (later_starts inner) (if is_among e targets then e ∷ [] else []) in
          let z : sum_of (λ j. weight w (by_node j)) (if is_among e targets then e ∷ [] else []) ≡ 0
          = cond_both (is_among e targets) (e ∷ []) [] (λ xs. sum_of (λ j. weight w (by_node j)) xs ≡ 0)
          (λ y. let none : weight w (by_node e) ≡ 0 = ap (weight w) (no_arm_behind c g ok inner false lo (suc lo) e a is) in omega arith) (λ y. refl) in
          omega arith)
      within (next d inner others) turn lo hi f a blocks follow is row part = absurd is
      within (next d inner others) turn lo hi f a list_arm follow is row part = absurd is
      within (next d inner others) turn lo hi f a (list_arms x) follow is row part = absurd row

      -- the arms of a jump list weigh no more than their blocks
      arms_within : (plan : Plan) (turn : Bool) (x lo e : ℕ) (a : Around) → IsPlan g plan turn lo e e a (list_arms x) → g.first ≤ lo → e ≤ g.past
          → sum_of (λ j. weight w (arm_from c plan lo e a j)) (starts_from plan lo) + Blocks lo ≤ Blocks e
      arms_within done turn x lo e a is low high = let l = before_more (block_weight w c) lo e (omega arith) in omega arith
      arms_within (skip rest) turn x lo e a is low high = absurd is.1
      arms_within (one rest) turn x lo e a is low high = absurd is.1
      arms_within (arm t d inner rest) turn x lo e a is low high = absurd is.1
      arms_within (arms t u d inner other rest) turn x lo e a is low high = absurd is.1
      arms_within (loop left l body rest) turn x lo e a is low high = absurd is.0
      arms_within (cases d inner rest) turn x lo e a is low high = absurd is.1
      arms_within (next d inner others) turn x lo e a (same, one_is, is, more) low high =
          let some : lo < d = one_is.some in let top : d ≤ e = one_is.within in
          let m = region_of c inner lo d (at e) a in
          let own : ℕ → ℕ = λ j. weight w (arm_from c (next d inner others) lo e a j) in
          let l : weight w m + 0 + Blocks lo ≤ Blocks d
          = within inner false lo d e a list_arm (at e) is tt (record { low = low; high = (omega arith); turned = λ e. absurd cc }) in
          let first : own lo ≡ weight w m
          = cond_both (lo == lo) m (arm_from c others d e a lo) (λ r. weight w r ≡ weight w m) (λ q. refl)
          (λ q. absurd (eqb-false lo lo q refl)) in
          let others_are : sum_of own (starts_from others d) ≡ sum_of (λ j. weight w (arm_from c others d e a j)) (starts_from others d)
          = sum_where own (λ j. weight w (arm_from c others d e a j)) (starts_from others d)
          (λ j h. let s = start_is g x e a others false d more j h in let y : d ≤ j = s.low in
          cond_both (j == lo) m (arm_from c others d e a j) (λ r. weight w r ≡ weight w (arm_from c others d e a j))
          (λ q. absurd (let equal : j ≡ lo = eqb-true j lo q in omega arith)) (λ q. refl)) in
          let h : sum_of (λ j. weight w (arm_from c others d e a j)) (starts_from others d) + Blocks d ≤ Blocks e
          = arms_within others false x d e a more (omega arith) high in omega arith

pub part_is_within : PartIsWithin
part_is_within w c g plan turn lo hi f a k follow ok is row part = within w c g ok plan turn lo hi f a k follow is row part

-- Depth

abbrev IsFlat : ℕ → Region → Type 0
IsFlat deep r = IsSimple r × (depth r ≤ deep)

end_flat : (c : Chart) (t : ℕ) → IsFlat 0 (end_of c t)
end_flat c t = cond_both (is_end c t) (node c.end_steps ended) off (IsFlat 0) (λ e. (tt, omega arith)) (λ n. (tt, omega arith))

way_flat : (c : Chart) (a : Around) (t : ℕ) → IsFlat 0 (way_to c a t)
way_flat c no_loop t = end_flat c t
way_flat c (inside left h l) t =
    cond_both (t == h) again (if left && (t == suc l) then leaves else end_of c t) (IsFlat 0) (λ e. (tt, omega arith))
    (λ n. cond_both (left && (t == suc l)) leaves (end_of c t) (IsFlat 0) (λ e. (tt, omega arith)) (λ m. end_flat c t))

module _ (c : Chart) (lo hi : ℕ) (follow : Place) (a : Around) (deep : ℕ) (rest : Region) (is : IsFlat (suc deep) rest) where
  out_flat : (t : ℕ) → IsFlat 0 (if is_at follow t && is_last c lo hi then off else way_to c a t)
  out_flat t = cond_both (is_at follow t && is_last c lo hi) off (way_to c a t) (IsFlat 0) (λ e. (tt, omega arith)) (λ n. way_flat c a t)

  tail_flat : (t : ℕ) → IsFlat (suc deep) (tail_to c lo hi follow a rest t)
  tail_flat t =
      cond_both ((t == c.next lo) && nat_lt t hi) rest (if is_at follow t && is_last c lo hi then off else way_to c a t) (IsFlat (suc deep))
      (λ e. is) (λ n. let o = out_flat t in (o.0, omega (arith, o.1)))

  -- where the part ends with the block
  last_flat : is_last c lo hi ≡ true → (t : ℕ) → IsFlat 0 (tail_to c lo hi follow a rest t)
  last_flat last t =
      cond_both ((t == c.next lo) && nat_lt t hi) rest (if is_at follow t && is_last c lo hi then off else way_to c a t) (IsFlat 0)
      (λ e. let both = and_parts (t == c.next lo) (nat_lt t hi) e in
      let same : t ≡ c.next lo = eqb-true t (c.next lo) both.0 in let y : t < hi = ltb-true t hi both.1 in
      let z : hi ≤ c.next lo = leb-true hi (c.next lo) last in absurd (omega arith))
      (λ n. out_flat t)

  exit_flat : (steps : List Stmt) (y : StExit) → IsFlat (suc deep) (exit_region c lo hi follow a rest steps y)
  exit_flat steps exit.Fall = tail_flat (suc lo)
  exit_flat steps (exit.Jump t) = tail_flat t
  exit_flat steps (exit.Branch test t) =
      cond_both (is_at follow t && is_last c lo hi)
      (fork steps test off (tail_to c lo hi follow a rest (suc lo)) follow off)
      (fork steps test (way_to c a t) off (at (suc lo)) (tail_to c lo hi follow a rest (suc lo)))
      (IsFlat (suc deep))
      (λ q. let o = last_flat (and_parts (is_at follow t) (is_last c lo hi) q).1 (suc lo) in ((tt, o.0, tt), omega (arith, o.1)))
      (λ q. let o = way_flat c a t in let p = tail_flat (suc lo) in ((o.0, tt, p.0), omega (arith, o.1, p.1)))
  exit_flat steps (exit.EndIf test) = let p = tail_flat (suc lo) in (p.0, omega (arith, p.1))
  exit_flat steps (exit.Table test targets last) = (tt, omega arith)
  exit_flat steps exit.End = cond_both (is_out follow && is_last c lo hi) off ended (IsFlat (suc deep)) (λ e. (tt, omega arith)) (λ n. (tt, omega arith))

  one_flat : (o : Option StNode) → IsFlat (suc deep) (one_region c lo hi follow a rest o)
  one_flat None = (tt, omega arith)
  one_flat (Some n) = exit_flat n.steps n.exit

test_flat : (deep : ℕ) (there behind rest : Region) (join : Place) → IsSimple there × IsSimple behind × IsSimple rest
    → max (suc (max (depth there) (depth behind))) (depth rest) ≤ suc deep → (steps : List Stmt) (y : StExit)
    → IsFlat (suc deep) (test_region there behind join rest steps y)
test_flat deep there behind rest join simple l steps (exit.Branch test t) = (simple, l)
test_flat deep there behind rest join simple l steps other = (tt, omega arith)

fork_flat : (deep : ℕ) (there behind rest : Region) (join : Place) → IsSimple there × IsSimple behind × IsSimple rest
    → max (suc (max (depth there) (depth behind))) (depth rest) ≤ suc deep → (o : Option StNode)
    → IsFlat (suc deep) (fork_region there behind join rest o)
fork_flat deep there behind rest join simple l None = (tt, omega arith)
fork_flat deep there behind rest join simple l (Some n) = test_flat deep there behind rest join simple l n.steps n.exit

loop_flat : (flag : Bool) (deep deep' : ℕ) (body rest : Region) (l : ℕ) (follow : Place) → IsFlat (suc deep) body → IsFlat (suc deep') rest
    → IsFlat (suc (max (suc deep) deep')) (loop_region flag body l follow rest)
loop_flat true deep deep' body rest l follow o p = ((o.0, p.0), omega (arith, o.1, p.1))
loop_flat false deep deep' body rest l follow o p = ((o.0, tt), omega (arith, o.1))

-- the deepest of some regions
most_flat : (deep : ℕ) (by_node : ℕ → Region) → ((j : ℕ) → IsFlat deep (by_node j)) → (nodes : List ℕ) → most_of (λ j. depth (by_node j)) nodes ≤ deep
most_flat deep by_node each [] = omega arith
most_flat deep by_node each (j ∷ nodes) = let (simple, l) = each j in let h = most_flat deep by_node each nodes in omega arith

list_flat : (deep deep' e : ℕ) (inner : Plan) (by_node : ℕ → Region) (other rest : Region) → ((j : ℕ) → IsFlat (suc deep) (by_node j))
    → IsFlat (suc deep) other → IsFlat (suc deep') rest → (steps : List Stmt) (y : StExit)
    → IsFlat (suc (max (suc deep) deep')) (list_region inner e by_node other rest steps y)
list_flat deep deep' e inner by_node other rest each own more steps (exit.Table test targets last) =
    let m = most_flat (suc deep) by_node each (nodes_of inner e targets) in
    (((λ j. (each j).0), own.0, more.0), omega (arith, m, own.1, more.1))
list_flat deep deep' e inner by_node other rest each own more steps other_exit = (tt, omega arith)

cases_flat : (deep deep' e : ℕ) (inner : Plan) (by_node : ℕ → Region) (other rest : Region) → ((j : ℕ) → IsFlat (suc deep) (by_node j))
    → IsFlat (suc deep) other → IsFlat (suc deep') rest → (o : Option StNode)
    → IsFlat (suc (max (suc deep) deep')) (cases_region inner e by_node other rest o)
cases_flat deep deep' e inner by_node other rest each own more None = (tt, omega arith)
cases_flat deep deep' e inner by_node other rest each own more (Some n) = list_flat deep deep' e inner by_node other rest each own more n.steps n.exit

rest_flat : (c : Chart) (e hi : ℕ) (follow : Place) (a : Around) (deep : ℕ) (rest : Region) → IsFlat (suc deep) rest
    → IsFlat (suc deep) (rest_from c e hi follow a rest)
rest_flat c e hi follow a deep rest is =
    cond_both (nat_lt e hi) rest (if is_at follow e then off else way_to c a e) (IsFlat (suc deep)) (λ y. is)
    (λ n. cond_both (is_at follow e) off (way_to c a e) (IsFlat (suc deep)) (λ y. (tt, omega arith))
    (λ y. let o = way_flat c a e in (o.0, omega (arith, o.1))))

mutual
  flat : (c : Chart) (plan : Plan) (lo hi : ℕ) (follow : Place) (a : Around) → IsFlat (suc (levels plan)) (region_of c plan lo hi follow a)
  flat c done lo hi follow a = (tt, omega arith)
  flat c (skip rest) lo hi follow a = flat c rest (suc lo) hi follow a
  flat c (one rest) lo hi follow a =
      one_flat c lo hi follow a (levels rest) (region_of c rest (suc lo) hi follow a) (flat c rest (suc lo) hi follow a) (slice_get c.unit.nodes lo)
  flat c (arm t d inner rest) lo hi follow a =
      let o = flat c inner (suc lo) d (at t) a in let p = flat c rest d hi follow a in
      fork_flat (levels (arm t d inner rest)) off (region_of c inner (suc lo) d (at t) a) (region_of c rest d hi follow a) (at t) (tt, o.0, p.0)
      (omega (arith, o.1, p.1)) (slice_get c.unit.nodes lo)
  flat c (arms t u d inner other_inner rest) lo hi follow a =
      let n = flat c other_inner t d (at u) a in let o = flat c inner (suc lo) t (at u) a in let p = flat c rest d hi follow a in
      fork_flat (levels (arms t u d inner other_inner rest)) (region_of c other_inner t d (at u) a) (region_of c inner (suc lo) t (at u) a)
      (region_of c rest d hi follow a) (at u) (n.0, o.0, p.0) (omega (arith, n.1, o.1, p.1)) (slice_get c.unit.nodes lo)
  flat c (loop left l body rest) lo hi follow a =
      loop_flat (left && c.unit.reached (suc l)) (levels body) (levels rest) (region_of c body lo (suc l) (at lo) (inside left lo l))
      (region_of c rest (suc l) hi follow a) l follow (flat c body lo (suc l) (at lo) (inside left lo l)) (flat c rest (suc l) hi follow a)
  flat c (cases e inner rest) lo hi follow a =
      cases_flat (levels inner) (levels rest) e inner (arm_from c inner (suc lo) e a) (arm_from c inner (suc lo) e a (suc lo))
      (rest_from c e hi follow a (region_of c rest e hi follow a)) (λ j. arm_flat c inner (suc lo) e a j) (arm_flat c inner (suc lo) e a (suc lo))
      (rest_flat c e hi follow a (levels rest) (region_of c rest e hi follow a) (flat c rest e hi follow a)) (slice_get c.unit.nodes lo)
  flat c (next d inner others) lo hi follow a = (tt, omega arith)

  arm_flat : (c : Chart) (plan : Plan) (lo e : ℕ) (a : Around) (j : ℕ) → IsFlat (suc (levels plan)) (arm_from c plan lo e a j)
  arm_flat c (next d inner others) lo e a j =
      let o = flat c inner lo d (at e) a in let p = arm_flat c others d e a j in
      cond_both (j == lo) (region_of c inner lo d (at e) a) (arm_from c others d e a j) (IsFlat (suc (levels (next d inner others))))
      (λ q. (o.0, omega (arith, o.1))) (λ q. (p.0, omega (arith, p.1)))
  arm_flat c done lo e a j = (tt, omega arith)
  arm_flat c (skip rest) lo e a j = (tt, omega arith)
  arm_flat c (one rest) lo e a j = (tt, omega arith)
  arm_flat c (arm t d inner rest) lo e a j = (tt, omega arith)
  arm_flat c (arms t u d inner other rest) lo e a j = (tt, omega arith)
  arm_flat c (loop left l body rest) lo e a j = (tt, omega arith)
  arm_flat c (cases d inner rest) lo e a j = (tt, omega arith)

pub part_is_flat : PartIsFlat
part_is_flat c plan lo hi follow a = flat c plan lo hi follow a
