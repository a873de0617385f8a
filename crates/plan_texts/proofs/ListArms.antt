-- The arms of a CASE in place of a jump list, as they are written one after another.
use Rattle.std.proofs.Common.{◌≡◌, ℕ, ◌-◌, ◌<◌, ◌≤◌, Bool, true, false, ◌&&◌, ◌==◌, if◌then◌else◌, nat_lt, cond, List, [], ◌∷◌, ◌++◌, drop, fold, max, append_assoc, append-nil, refl, sym, ap, subst, ◌∙◌, arith}
use Rattle.std.specs.Bool.{Decides}
use Rattle.std.proofs.lemmas.Bool.Decides.{Decides-and, Decides-ltb}
use Rattle.st_tree.specs.declared.graph.StNode.{StNode}
use Rattle.st_tree.specs.declared.program.CaseArm.{CaseArm}
use Rattle.st_tree.specs.declared.program.Stmt.{Stmt}
use Rattle.stl_tree.specs.Flows.{Segment}
use Rattle.nesting_laws.specs.Plans.{Around as PlanAround, IsNextArm, IsPlan, Plan, arm as arm_plan, arms as arms_plan, cases as cases_plan, done, levels, list_arm as in_list_arm, list_arms, loop as loop_plan, next as next_plan, one as one_plan, skip as skip_plan}
use Rattle.region_laws.specs.Regions.{Region, arms_of_nodes, at as place_at, is_among, off, text_of}
use Rattle.region_plans.specs.PlanRegion.{Chart, arm_from, nodes_of, region_of, starts_from}
use Rattle.unit_regions.specs.UnitCharts.{blocks_between}
use Rattle.dispatch_loops.specs.Charted.{chart_in}
use Rattle.segment_plans.specs.Arms.{nearer, next_arm, targets_at}
use Rattle.segment_plans.specs.Planned.{HasArms, HasPlan, IsPartOf, around_of, list_arm}
use Rattle.segment_plans.specs.declared.blocks.Blocks.{Blocks}
use Rattle.segment_plans.specs.declared.planning.Part.{Part}
use Rattle.plan_texts.specs.inner.Leads.{ForPart}
use Rattle.plan_texts.specs.inner.Lists.{WritesArms, arms_along, last_arm, node_arm}
use Rattle.plan_texts.specs.inner.Steps.{WritesInner}
use Rattle.plan_texts.proofs.Exiting.{other_test, same_test}
use Rattle.plan_texts.proofs.Found.{arm_found}

-- Tests

met : (b : Bool) (x y : Region) → b ≡ true → cond b x y ≡ x
met true x y e = refl
met false x y e = absurd cc

not_met : (b : Bool) (x y : Region) → b ≡ false → cond b x y ≡ y
not_met true x y e = absurd cc
not_met false x y e = refl

-- Arms in a row

-- a plan of arms has nothing, or an arm and others
pub arms_elim : (g : Segment) (x lo e : ℕ) (a : PlanAround) (P : Plan → Type 0) → (lo ≡ e → P done)
    → ((d : ℕ) (inner others : Plan) → IsNextArm g x lo e d → IsPlan g inner false lo d e a in_list_arm
    → IsPlan g others false d e e a (list_arms x) → P (next_plan d inner others))
    → (plan : Plan) → IsPlan g plan false lo e e a (list_arms x) → P plan
arms_elim g x lo e a P n s done p = n p
arms_elim g x lo e a P n s (skip_plan rest) p = absurd p.1
arms_elim g x lo e a P n s (one_plan rest) p = absurd p.1
arms_elim g x lo e a P n s (arm_plan t d inner rest) p = absurd p.1
arms_elim g x lo e a P n s (arms_plan t u d first second rest) p = absurd p.1
arms_elim g x lo e a P n s (loop_plan left l inner rest) p = absurd p.0
arms_elim g x lo e a P n s (cases_plan f inner rest) p = absurd p.1
arms_elim g x lo e a P n s (next_plan d inner others) p = s d inner others p.1 p.2 p.3

-- the arm that begins at a block is the one that begins there; the others begin later
arm_here : (e : ℕ) (a : PlanAround) (c : Chart) (d : ℕ) (inner others : Plan) (lo : ℕ)
    → arm_from c (next_plan d inner others) lo e a lo ≡ region_of c inner lo d (place_at e) a
arm_here e a c d inner others lo =
    met (lo == lo) (region_of c inner lo d (place_at e) a) (arm_from c others d e a lo) (same_test lo lo refl)

arm_later : (e : ℕ) (a : PlanAround) (c : Chart) (d : ℕ) (inner others : Plan) (lo j : ℕ) → lo < j
    → arm_from c (next_plan d inner others) lo e a j ≡ arm_from c others d e a j
arm_later e a c d inner others lo j low =
    not_met (j == lo) (region_of c inner lo d (place_at e) a) (arm_from c others d e a j) (other_test j lo (λ f. omega (arith, f, low)))

-- none begins where all end
no_arm : (g : Segment) (x e : ℕ) (a : PlanAround) (c : Chart) (plan : Plan) (lo : ℕ) → IsPlan g plan false lo e e a (list_arms x)
    → arm_from c plan lo e a e ≡ off
no_arm g x e a c done lo p = refl
no_arm g x e a c (skip_plan rest) lo p = absurd p.1
no_arm g x e a c (one_plan rest) lo p = absurd p.1
no_arm g x e a c (arm_plan t d inner rest) lo p = absurd p.1
no_arm g x e a c (arms_plan t u d first second rest) lo p = absurd p.1
no_arm g x e a c (loop_plan left l inner rest) lo p = absurd p.0
no_arm g x e a c (cases_plan f inner rest) lo p = absurd p.1
no_arm g x e a c (next_plan d inner others) lo p =
    let some : lo < d = p.1.some in
    let within : d ≤ e = p.1.within in
    arm_later e a c d inner others lo e (omega (arith, some, within)) ∙ no_arm g x e a c others d p.3

-- so the arms of the nodes where arms begin are those one after another
along : (g : Segment) (x e : ℕ) (a : PlanAround) (c : Chart) (name : ℕ) (targets : List ℕ) (bodies : ℕ → List Stmt) (plan : Plan) (lo : ℕ)
    → IsPlan g plan false lo e e a (list_arms x) → ((j : ℕ) → lo ≤ j → bodies j ≡ text_of name (arm_from c plan lo e a j))
    → arms_of_nodes targets bodies (starts_from plan lo) ≡ arms_along name c targets e a plan lo
along g x e a c name targets bodies done lo p same = refl
along g x e a c name targets bodies (skip_plan rest) lo p same = absurd p.1
along g x e a c name targets bodies (one_plan rest) lo p same = absurd p.1
along g x e a c name targets bodies (arm_plan t d inner rest) lo p same = absurd p.1
along g x e a c name targets bodies (arms_plan t u d first second rest) lo p same = absurd p.1
along g x e a c name targets bodies (loop_plan left l inner rest) lo p same = absurd p.0
along g x e a c name targets bodies (cases_plan f inner rest) lo p same = absurd p.1
along g x e a c name targets bodies (next_plan d inner others) lo p same =
    let some : lo < d = p.1.some in
    ap (λ (l : List Stmt). node_arm targets lo l ∷ arms_of_nodes targets bodies (starts_from others d))
    (same lo (omega arith) ∙ ap (text_of name) (arm_here e a c d inner others lo))
    ∙ ap (λ (l : List CaseArm). node_arm targets lo (text_of name (region_of c inner lo d (place_at e) a)) ∷ l)
    (along g x e a c name targets bodies others d p.3
    (λ j low. same j (omega (arith, low, some)) ∙ ap (text_of name) (arm_later e a c d inner others lo j (omega (arith, low, some)))))

of_both : (targets : List ℕ) (bodies : ℕ → List Stmt) (xs ys : List ℕ)
    → arms_of_nodes targets bodies (xs ++ ys) ≡ arms_of_nodes targets bodies xs ++ arms_of_nodes targets bodies ys
of_both targets bodies [] ys = refl
of_both targets bodies (j ∷ xs) ys = ap (λ (l : List CaseArm). node_arm targets j (bodies j) ∷ l) (of_both targets bodies xs ys)

of_last : (targets : List ℕ) (bodies : ℕ → List Stmt) (e : ℕ) (b : Bool) → bodies e ≡ []
    → arms_of_nodes targets bodies (if b then e ∷ [] else []) ≡ (if b then node_arm targets e [] ∷ [] else [])
of_last targets bodies e true h = ap (λ (l : List Stmt). node_arm targets e l ∷ []) h
of_last targets bodies e false h = refl

-- The arm of the label, and the others

-- the first of the arms ends where one is found to end, and the others go on there
pub record AreLed (g : Segment) (x lo e past : ℕ) (a : PlanAround) (plan : Plan) : Type 0 where
  pub first : Plan
  pub others : Plan
  pub is_first : IsPlan g first false lo past e a in_list_arm
  pub are_others : IsPlan g others false past e e a (list_arms x)
  pub first_few : levels first ≤ levels plan
  pub others_few : levels others ≤ levels plan
  pub label : (c : Chart) → arm_from c plan lo e a lo ≡ region_of c first lo past (place_at e) a
  pub arms : (c : Chart) (name : ℕ) (targets : List ℕ)
      → arms_of_nodes targets (λ j. text_of name (arm_from c plan lo e a j)) (nodes_of plan e targets)
      ≡ arms_along name c targets e a others past ++ last_arm targets e

pub led : (g : Segment) (x lo e past : ℕ) (a : PlanAround) (plan : Plan) → ((d : ℕ) → IsNextArm g x lo e d → d ≡ past) → lo ≤ past → past ≤ e
    → IsPlan g plan false lo e e a (list_arms x) → AreLed g x lo e past a plan
led g x lo e past a plan found low up p = arms_elim g x lo e a (AreLed g x lo e past a) alone more plan p
  where
    alone : lo ≡ e → AreLed g x lo e past a done
    alone q = record {
      first = done;
      others = done;
      is_first = omega (arith, q, low, up);
      are_others = omega (arith, q, low, up);
      first_few = omega arith;
      others_few = omega arith;
      label = λ c. refl;
      arms = λ c name targets. of_last targets (λ j. text_of name (arm_from c done lo e a j)) e (is_among e targets) refl;
    }

    more : (d : ℕ) (inner others : Plan) → IsNextArm g x lo e d → IsPlan g inner false lo d e a in_list_arm
        → IsPlan g others false d e e a (list_arms x) → AreLed g x lo e past a (next_plan d inner others)
    more d inner others i f o =
        let some : lo < d = i.some in
        let within : d ≤ e = i.within in
        let same : d ≡ past = found d i in
        subst (λ n. AreLed g x lo e n a (next_plan d inner others)) same
        (record {
          first = inner;
          others = others;
          is_first = f;
          are_others = o;
          first_few = omega arith;
          others_few = omega arith;
          label = λ c. arm_here e a c d inner others lo;
          arms = λ c name targets.
              of_both targets (λ j. text_of name (arm_from c (next_plan d inner others) lo e a j)) (starts_from others d)
              (if is_among e targets then e ∷ [] else [])
              ∙ ap (λ (l : List CaseArm). l ++ arms_of_nodes targets (λ j. text_of name (arm_from c (next_plan d inner others) lo e a j))
              (if is_among e targets then e ∷ [] else []))
              (along g x e a c name targets (λ j. text_of name (arm_from c (next_plan d inner others) lo e a j)) others d o
              (λ j high. ap (text_of name) (arm_later e a c d inner others lo j (omega (arith, high, some)))))
              ∙ ap (λ (l : List CaseArm). arms_along name c targets e a others d ++ l)
              (of_last targets (λ j. text_of name (arm_from c (next_plan d inner others) lo e a j)) e (is_among e targets)
              (ap (text_of name) (arm_later e a c d inner others lo e (omega (arith, some, within)) ∙ no_arm g x e a c others d o)));
        })

-- no arm ends behind where all end
nothing_nearer : (at e : ℕ) (targets : List ℕ) → e ≤ at → fold (nearer at) e targets ≡ e
nothing_nearer at e [] h = refl
nothing_nearer at e (t ∷ targets) h =
    ap (λ n. fold (nearer at) n targets) (by (nat_lt at t && nat_lt t e) (Decides-and (nat_lt at t) (nat_lt t e) (Decides-ltb at t) (Decides-ltb t e)))
    ∙ nothing_nearer at e targets h
  where
    by : (b : Bool) → Decides b ((at < t) × (t < e)) → (if b then t else e) ≡ e
    by true d = let low : at < t = (d.0 refl).0 in let high : t < e = (d.0 refl).1 in absurd (omega (arith, low, high, h))
    by false d = refl

pub no_next : (blocks : Blocks) (x at e : ℕ) → e ≤ at → e ≡ next_arm blocks x at e
no_next blocks x at e h = sym (nothing_nearer at e (targets_at blocks x) h)

-- The loop over the arms

-- the arms from one block up to another are written: the nodes before that one are taken, and the others are left
pub record ArmsSoFar (c : Chart) (g : Segment) (left : ℕ) (part : Part) (x e : ℕ) (targets : List ℕ) (first : ℕ) (plan : Plan) (nodes : List StNode)
    (arms : List CaseArm) (at : ℕ) : Type 0 where
  pub taken : nodes ≡ drop at c.unit.nodes
  pub rest : HasArms g (left - 1) part x e at
  pub adds : (name : ℕ)
      → arms ++ arms_along name c targets e (around_of part.around) rest.0 at ≡ arms_along name c targets e (around_of part.around) plan first

abbrev pub WroteArms : Blocks → List Stmt → ℕ → Part → ℕ → ℕ → List ℕ → ℕ → List StNode → List StNode → List CaseArm → ℕ → Type 0
WroteArms blocks steps left part x e targets first nodes rest arms at =
    ForPart blocks steps part first (λ all g. (plan : HasArms g (left - 1) part x e first) → 0 < left → e ≤ part.past → nodes ≡ drop first all
    → ArmsSoFar (chart_in all blocks) g left part x e targets first plan.0 rest arms at)

pub no_arms_yet : (blocks : Blocks) (steps : List Stmt) (left : ℕ) (part : Part) (x e : ℕ) (targets : List ℕ) (first : ℕ) (nodes : List StNode)
    (arms : List CaseArm) → arms ≡ [] → WroteArms blocks steps left part x e targets first nodes nodes arms first
no_arms_yet blocks steps left part x e targets first nodes arms begun = λ all from past unit within plan some up f. record {
  taken = f;
  rest = plan;
  adds = λ name. ap (λ (l : List CaseArm). l ++ arms_along name (chart_in all blocks) targets e (around_of part.around) plan.0 first) begun;
}

-- what follows of the plan of the arms that are left
abbrev AfterArm : (c : Chart) (g : Segment) (left : ℕ) (part : Part) (x e : ℕ) (targets : List ℕ) (first : ℕ) (plan : Plan) (more : List StNode)
    (arms : List CaseArm) (at past : ℕ) (body : List Stmt) → Plan → Type 0
AfterArm c g left part x e targets first plan more arms at past body others = levels others ≤ left - 1
    → ((name : ℕ) → arms ++ arms_along name c targets e (around_of part.around) others at
    ≡ arms_along name c targets e (around_of part.around) plan first)
    → ArmsSoFar c g left part x e targets first plan more (arms ++ node_arm targets at body ∷ []) past

-- an arm more
one_more : (c : Chart) (g : Segment) (left : ℕ) (part : Part) (x e : ℕ) (targets : List ℕ) (first : ℕ) (plan : Plan) (nodes more : List StNode)
    (arms : List CaseArm) (at past : ℕ) (body : List Stmt) → at < e → ((d : ℕ) → IsNextArm g x at e d → d ≡ past)
    → ArmsSoFar c g left part x e targets first plan nodes arms at
    → ((inner : HasPlan g (left - 1) (list_arm part past e) false at)
    → (more ≡ drop past c.unit.nodes) × ((name : ℕ) → body ≡ text_of name (region_of c inner.0 at past (place_at e) (around_of part.around))))
    → ArmsSoFar c g left part x e targets first plan more (arms ++ node_arm targets at body ∷ []) past
one_more c g left part x e targets first plan nodes more arms at past body low found so_far writes =
    arms_elim g x at e (around_of part.around) (AfterArm c g left part x e targets first plan more arms at past body) nothing next so_far.rest.0
    so_far.rest.1 so_far.rest.2 so_far.adds
  where
    nothing : at ≡ e → AfterArm c g left part x e targets first plan more arms at past body done
    nothing q = absurd (omega (arith, q, low))

    next : (d : ℕ) (inner others : Plan) → IsNextArm g x at e d → IsPlan g inner false at d e (around_of part.around) in_list_arm
        → IsPlan g others false d e e (around_of part.around) (list_arms x)
        → AfterArm c g left part x e targets first plan more arms at past body (next_plan d inner others)
    next d inner others i f o few adds =
        let same : d ≡ past = found d i in
        let all : max (levels inner) (levels others) ≤ left - 1 = few in
        let w = writes (inner, subst (λ n. IsPlan g inner false at n e (around_of part.around) in_list_arm) same f, omega (arith, all)) in
        record {
          taken = w.0;
          rest = (others, subst (λ n. IsPlan g others false n e e (around_of part.around) (list_arms x)) same o, omega (arith, all));
          adds = λ name.
              append_assoc arms (node_arm targets at body ∷ []) (arms_along name c targets e (around_of part.around) others past)
              ∙ ap (λ (l : List Stmt). arms ++ node_arm targets at l ∷ arms_along name c targets e (around_of part.around) others past) (w.1 name)
              ∙ ap (λ n. arms ++ node_arm targets at (text_of name (region_of c inner at n (place_at e) (around_of part.around)))
              ∷ arms_along name c targets e (around_of part.around) others n) (sym same)
              ∙ adds name;
        }

arm_in : (g : Segment) (part : Part) (at past e : ℕ) → g.first ≤ at → at < past → past ≤ e → e ≤ part.past → part.past ≤ g.past
    → IsPartOf g (list_arm part past e) at
arm_in g part at past e first low up within last =
    record { low = first; ordered = omega (arith, low); high = omega (arith, up, within, last) }

pub wrote_arm : (blocks : Blocks) (steps : List Stmt) (left : ℕ) (part inner_part : Part) (x e : ℕ) (targets : List ℕ) (first : ℕ)
    (nodes rest more : List StNode) (arms new : List CaseArm) (at past : ℕ) (body : List Stmt) (y : CaseArm) → first ≤ at → at < e
    → past ≡ next_arm blocks x at e → at < past → past ≤ e → inner_part ≡ list_arm part past e → y ≡ node_arm targets at body → new ≡ arms ++ y ∷ []
    → WroteArms blocks steps left part x e targets first nodes rest arms at
    → WritesInner blocks steps left inner_part at false rest more body
    → WroteArms blocks steps left part x e targets first nodes more new past
wrote_arm blocks steps left part inner_part x e targets first nodes rest more arms new at past body y order low is some up same i n before inner =
    λ all from last unit within plan levels_left high f.
    let g : Segment = blocks_between all from last in
    let so_far = before all from last unit within plan levels_left high f in
    let there : IsPartOf g (list_arm part past e) at = arm_in g part at past e (omega (arith, order, within.low)) some up high within.high in
    subst (λ (l : List CaseArm). ArmsSoFar (chart_in all blocks) g left part x e targets first plan.0 more l past)
    (sym (n ∙ ap (λ (z : CaseArm). arms ++ z ∷ []) i))
    (one_more (chart_in all blocks) g left part x e targets first plan.0 rest more arms at past body low
    (λ d next. arm_found g blocks unit.segment unit.known x at e d next ∙ sym is) so_far
    (λ deeper. (subst (λ q. WritesInner blocks steps left q at false rest more body) same inner) all from last unit there deeper levels_left so_far.taken))

pub all_arms : (blocks : Blocks) (steps : List Stmt) (left : ℕ) (part : Part) (x e : ℕ) (targets : List ℕ) (first : ℕ) (nodes rest : List StNode)
    (arms : List CaseArm) (at : ℕ) → at ≤ e → e ≤ at → WroteArms blocks steps left part x e targets first nodes rest arms at
    → WritesArms blocks steps left part x e targets first nodes rest arms
all_arms blocks steps left part x e targets first nodes rest arms at low up before = λ all from last unit within plan some high f.
    let g : Segment = blocks_between all from last in
    let so_far = before all from last unit within plan some high f in
    let same : at ≡ e = omega (arith, low, up) in
    let ended : so_far.rest.0 ≡ done =
    arms_elim g x at e (around_of part.around) (λ p. p ≡ done) (λ q. refl)
    (λ d inner others i p o. absurd (omega (arith, i.some, i.within, same))) so_far.rest.0 so_far.rest.1 in (
      so_far.taken ∙ ap (λ n. drop n all) same,
      λ name.
          sym (append-nil arms)
          ∙ sym (ap (λ p. arms ++ arms_along name (chart_in all blocks) targets e (around_of part.around) p at) ended) ∙ so_far.adds name,
    )
