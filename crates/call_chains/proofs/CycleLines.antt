-- The lines that are named as those of calls on cycles. As many calls as there are units lead as far as any number of
-- them: with each call more there is one unit more from which a unit is reached, or there never is one again.
use Rattle.std.proofs.Common.{◌≡◌, ◌⊎◌, inl, inr, ⊎_elim, ◌<◌, ◌≤◌, ◌+◌, ℕ, zero, suc, Bool, true, false, ◌||◌, ◌==◌, if◌then◌else◌, List, [], ◌∷◌, length, slice_get, Option, Some, None, refl, sym, ap, subst, ◌∙◌, arith, eqb-true}
use Rattle.std.specs.Prelude.{Contains}
use Rattle.std.specs.List.{flat_map, list_any}
use Rattle.std.proofs.lemmas.Bool.{cases_eq, eqb-false}
use Rattle.std.proofs.lemmas.List.Elements.{Contains-append_cases, Contains-append_left, Contains-append_right}
use Rattle.std.proofs.lemmas.Option.{slice_get_cases, slice_get_past}
use Rattle.s7_base.specs.declared.reason.Line.{Line}
use Rattle.call_chains.specs.Chain.{Graph, OnCycle, Reaches, call_at, call_in, follow, with_call}
use Rattle.call_chains.specs.ChainLaws.{CycleLinesAreNamed, IsCycleLine}
use Rattle.call_chains.specs.CycleLines.{calls_of, cycle_lines, is_on_cycle, is_reached, lines_from}
use Rattle.call_chains.specs.declared.call.Call.{Call}

-- Truth values

or_left : (a b : Bool) → a ≡ true → (a || b) ≡ true
or_left true b e = refl
or_left false b e = cc

or_right : (a b : Bool) → b ≡ true → (a || b) ≡ true
or_right true b e = refl
or_right false b e = e

or_cases : (a b : Bool) → (a || b) ≡ true → (a ≡ true) ⊎ (b ≡ true)
or_cases true b e = inl refl
or_cases false b e = inr e

-- Some of a list

any_at : {X : Type 0} (p : X → Bool) (xs : List X) (k : ℕ) (x : X) → slice_get xs k ≡ Some x → p x ≡ true → list_any p xs ≡ true
any_at p [] k x h e = cc
any_at {X = X} p (y ∷ xs) zero x h e = or_left (p y) (list_any p xs) (ap p (same y x h) ∙ e)
  where
    same : (a b : X) → Some a ≡ Some b → a ≡ b
    same a b e = cc
any_at p (y ∷ xs) (suc k) x h e = or_right (p y) (list_any p xs) (any_at p xs k x h e)

any_true : {X : Type 0} (p : X → Bool) (xs : List X) → list_any p xs ≡ true → (k : ℕ) × (x : X) × (slice_get xs k ≡ Some x) × (p x ≡ true)
any_true p [] h = absurd cc
any_true {X = X} p (y ∷ xs) h = ⊎_elim here (there (any_true p xs)) (or_cases (p y) (list_any p xs) h)
  where
    here : p y ≡ true → (k : ℕ) × (x : X) × (slice_get (y ∷ xs) k ≡ Some x) × (p x ≡ true)
    here e = (0, y, refl, e)

    there : (list_any p xs ≡ true → (k : ℕ) × (x : X) × (slice_get xs k ≡ Some x) × (p x ≡ true))
        → list_any p xs ≡ true → (k : ℕ) × (x : X) × (slice_get (y ∷ xs) k ≡ Some x) × (p x ≡ true)
    there more e = let r = more e in (suc r.0, r.1, r.2, r.3)

any_more : {X : Type 0} (p q : X → Bool) (xs : List X) → ((x : X) → p x ≡ true → q x ≡ true) → list_any p xs ≡ true → list_any q xs ≡ true
any_more p q xs h e = let r = any_true p xs e in any_at q xs r.0 r.1 r.2 (h r.1 r.3)

-- How many numbers below one pass a test

abbrev count : (ℕ → Bool) → ℕ → ℕ
count f zero = 0
count f (suc n) = count f n + (if f n then 1 else 0)

count_few : (f : ℕ → Bool) (n : ℕ) → count f n ≤ n
count_few f zero = omega arith
count_few f (suc n) = by (f n) (count_few f n)
  where
    by : (t : Bool) → count f n ≤ n → count f n + (if t then 1 else 0) ≤ suc n
    by true h = omega (arith, h)
    by false h = omega (arith, h)

abbrev IsMore : (ℕ → Bool) → (ℕ → Bool) → Type 0
IsMore f g = (i : ℕ) → f i ≡ true → g i ≡ true

one_more : (s t : Bool) (a b : ℕ) → (s ≡ true → t ≡ true) → a ≤ b → a + (if s then 1 else 0) ≤ b + (if t then 1 else 0)
one_more true true a b h l = omega (arith, l)
one_more true false a b h l = let e : false ≡ true = h refl in absurd cc
one_more false true a b h l = omega (arith, l)
one_more false false a b h l = omega (arith, l)

count_more : (f g : ℕ → Bool) (n : ℕ) → IsMore f g → count f n ≤ count g n
count_more f g zero h = omega arith
count_more f g (suc n) h = one_more (f n) (g n) (count f n) (count g n) (h n) (count_more f g n h)

abbrev AgreeOrMore : (ℕ → Bool) → (ℕ → Bool) → ℕ → Bool → Bool → Type 0
AgreeOrMore f g n s t = ((i : ℕ) → i < suc n → g i ≡ true → f i ≡ true) ⊎ (suc (count f n + (if s then 1 else 0)) ≤ count g n + (if t then 1 else 0))

-- two tests agree below a number, or the second one passes more
agree_or_more : (f g : ℕ → Bool) (n : ℕ) → IsMore f g → ((i : ℕ) → i < n → g i ≡ true → f i ≡ true) ⊎ (suc (count f n) ≤ count g n)
agree_or_more f g zero h = inl (λ i l e. absurd (omega (arith, l)))
agree_or_more f g (suc n) h = by (f n) (g n) refl refl (agree_or_more f g n h)
  where
    up_to : ((i : ℕ) → i < n → g i ≡ true → f i ≡ true) → (g n ≡ true → f n ≡ true) → (i : ℕ) → i < suc n → g i ≡ true → f i ≡ true
    up_to below last i l e = ⊎_elim (λ (s : i ≡ n). ap f s ∙ last (ap g (sym s) ∙ e)) (λ (s : i ≡ n → ⊥). below i (omega (arith, l, s)) e) (cases_eq i n)

    by : (s t : Bool) → f n ≡ s → g n ≡ t → ((i : ℕ) → i < n → g i ≡ true → f i ≡ true) ⊎ (suc (count f n) ≤ count g n) → AgreeOrMore f g n s t
    by s true a b (inr more) = inr (omega (arith, more, few s))
      where
        few : (x : Bool) → (if x then 1 else 0) ≤ 1
        few true = omega arith
        few false = omega arith
    by true false a b (inr more) = let e : g n ≡ true = h n a in absurd cc
    by false false a b (inr more) = inr (omega (arith, more))
    by true t a b (inl below) = inl (up_to below (λ e. a))
    by false true a b (inl below) = inr (omega (arith, count_more f g n h))
    by false false a b (inl below) = inl (up_to below (λ e. absurd cc))

-- where all pass, each does
all_pass : (f : ℕ → Bool) (n : ℕ) → n ≤ count f n → (i : ℕ) → i < n → f i ≡ true
all_pass f zero h i l = absurd (omega (arith, l))
all_pass f (suc n) h i l = by (all_pass f n) (f n) refl h
  where
    by : (n ≤ count f n → (j : ℕ) → j < n → f j ≡ true) → (t : Bool) → f n ≡ t → suc n ≤ count f n + (if t then 1 else 0) → f i ≡ true
    by more true e g =
        ⊎_elim (λ (s : i ≡ n). ap f s ∙ e) (λ (s : i ≡ n → ⊥). more (omega (arith, g)) i (omega (arith, l, s))) (cases_eq i n)
    by more false e g = absurd (omega (arith, g, count_few f n))

-- Units from which one is reached by few calls

module _ (graph : Graph) (to : ℕ) where
  abbrev within : ℕ → ℕ → Bool
  within n i = is_reached n graph to i

  same_unit : (to == to) ≡ true
  same_unit = by (to == to) refl
    where
      by : (t : Bool) → (to == to) ≡ t → t ≡ true
      by true e = refl
      by false e = absurd (eqb-false to to e refl)

  itself : (n : ℕ) → within n to ≡ true
  itself zero = same_unit
  itself (suc n) = or_left (to == to) (list_any (λ (c : Call). within n c.callee) (calls_of (slice_get graph to))) same_unit

  abbrev reached_next : (ℕ → Bool) → ℕ → Bool
  reached_next f i = (i == to) || list_any (λ (c : Call). f c.callee) (calls_of (slice_get graph i))

  next_more : (f g : ℕ → Bool) → IsMore f g → IsMore (reached_next f) (reached_next g)
  next_more f g h i e =
      ⊎_elim (λ s. or_left (i == to) (list_any (λ (c : Call). g c.callee) (calls_of (slice_get graph i))) s)
      (λ s. or_right (i == to) (list_any (λ (c : Call). g c.callee) (calls_of (slice_get graph i)))
      (any_more (λ (c : Call). f c.callee) (λ (c : Call). g c.callee) (calls_of (slice_get graph i)) (λ c. h c.callee) s))
      (or_cases (i == to) (list_any (λ (c : Call). f c.callee) (calls_of (slice_get graph i))) e)

  more_calls : (n : ℕ) → IsMore (within n) (within (suc n))
  more_calls zero i e = or_left (i == to) (list_any (λ (c : Call). within 0 c.callee) (calls_of (slice_get graph i))) e
  more_calls (suc n) i e = next_more (within n) (within (suc n)) (more_calls n) i e

  -- one call more makes no difference
  abbrev IsStable : ℕ → Type 0
  IsStable n = IsMore (within (suc n)) (within n)

  stable_on : (n : ℕ) → IsStable n → IsStable (suc n)
  stable_on n h i e = next_more (within (suc n)) (within n) h i e

  -- a unit that does not exist calls none
  outside : (n i : ℕ) → length graph ≤ i → within (suc n) i ≡ true → within n i ≡ true
  outside n i l e = ⊎_elim here there (or_cases (i == to) (list_any (λ (c : Call). within n c.callee) (calls_of (slice_get graph i))) e)
    where
      here : (i == to) ≡ true → within n i ≡ true
      here s = ap (within n) (eqb-true i to s) ∙ itself n

      there : list_any (λ (c : Call). within n c.callee) (calls_of (slice_get graph i)) ≡ true → within n i ≡ true
      there s =
          let none : false ≡ true =
          sym (ap (λ (o : Option (List Call)). list_any (λ (c : Call). within n c.callee) (calls_of o)) (slice_get_past graph i l)) ∙ s in absurd cc

  everywhere : (n : ℕ) → ((i : ℕ) → i < length graph → within (suc n) i ≡ true → within n i ≡ true) → IsStable n
  everywhere n h i e = ⊎_elim (λ (l : i < length graph). h i l e) (λ (l : length graph ≤ i). outside n i l e) (in_or_out i)
    where
      in_or_out : (j : ℕ) → (j < length graph) ⊎ (length graph ≤ j)
      in_or_out j = ⊎_elim (λ x. inl x.1) (λ x. inr x.0) (slice_get_cases graph j).1

  stable_or_many : (n : ℕ) → IsStable n ⊎ (n ≤ count (within n) (length graph))
  stable_or_many zero = inr (omega arith)
  stable_or_many (suc n) = ⊎_elim (λ h. inl (stable_on n h)) next (stable_or_many n)
    where
      next : n ≤ count (within n) (length graph) → IsStable (suc n) ⊎ (suc n ≤ count (within (suc n)) (length graph))
      next many =
          ⊎_elim (λ h. inl (stable_on n (everywhere n h))) (λ h. inr (omega (arith, h, many)))
          (agree_or_more (within n) (within (suc n)) (length graph) (more_calls n))

  stable : IsStable (length graph)
  stable =
      ⊎_elim (λ h. h) (λ many. everywhere (length graph) (λ i l e. all_pass (within (length graph)) (length graph) many i l)) (stable_or_many (length graph))

  -- what is reached is reached by few calls
  along : (ks : List ℕ) (i : ℕ) → follow graph i ks ≡ Some to → within (length graph) i ≡ true
  along [] i p = ap (within (length graph)) (same i to p) ∙ itself (length graph)
    where
      same : (a b : ℕ) → Some a ≡ Some b → a ≡ b
      same a b e = cc
  along (k ∷ ks) i p = by (along ks) (slice_get graph i) refl p
    where
      by_call : ((j : ℕ) → follow graph j ks ≡ Some to → within (length graph) j ≡ true)
          → (calls : List Call) → slice_get graph i ≡ Some calls → (o : Option Call) → slice_get calls k ≡ o
          → with_call o (λ c. follow graph c.callee ks) ≡ Some to → within (length graph) i ≡ true
      by_call more calls e None f q = absurd cc
      by_call more calls e (Some c) f q =
          let called : list_any (λ (d : Call). within (length graph) d.callee) (calls_of (slice_get graph i)) ≡ true =
          ap (λ (o : Option (List Call)). list_any (λ (d : Call). within (length graph) d.callee) (calls_of o)) e
          ∙ any_at (λ (d : Call). within (length graph) d.callee) calls k c f (more c.callee q) in
          stable i (or_right (i == to) (list_any (λ (d : Call). within (length graph) d.callee) (calls_of (slice_get graph i))) called)

      by : ((j : ℕ) → follow graph j ks ≡ Some to → within (length graph) j ≡ true) → (u : Option (List Call)) → slice_get graph i ≡ u
          → with_call (call_in u k) (λ c. follow graph c.callee ks) ≡ Some to → within (length graph) i ≡ true
      by more None e q = absurd cc
      by more (Some calls) e q = by_call more calls e (slice_get calls k) refl q

  -- and what is reached by few calls is reached
  back : (n i : ℕ) → within n i ≡ true → Reaches graph i to
  back zero i e = ([], ap Some (eqb-true i to e))
  back (suc n) i e = ⊎_elim here (there (back n)) (or_cases (i == to) (list_any (λ (c : Call). within n c.callee) (calls_of (slice_get graph i))) e)
    where
      here : (i == to) ≡ true → Reaches graph i to
      here s = ([], ap Some (eqb-true i to s))

      by : ((j : ℕ) → within n j ≡ true → Reaches graph j to) → (u : Option (List Call)) → slice_get graph i ≡ u
          → list_any (λ (c : Call). within n c.callee) (calls_of u) ≡ true → Reaches graph i to
      by more None f s = absurd cc
      by more (Some calls) f s =
          let found = any_true (λ (c : Call). within n c.callee) calls s in
          let rest = more found.1.callee found.3 in
          let call : call_at graph i found.0 ≡ Some found.1 = ap (λ (o : Option (List Call)). call_in o found.0) f ∙ found.2 in
          (found.0 ∷ rest.0, ap (λ (o : Option Call). with_call o (λ c. follow graph c.callee rest.0)) call ∙ rest.1)

      there : ((j : ℕ) → within n j ≡ true → Reaches graph j to) → list_any (λ (c : Call). within n c.callee) (calls_of (slice_get graph i)) ≡ true
          → Reaches graph i to
      there more s = by more (slice_get graph i) refl s

-- Lines

-- the line of a call, where it lies on a cycle
abbrev line_if : Graph → ℕ → Call → List Line
line_if graph i c = if is_on_cycle graph i c then c.line ∷ [] else []

contained : {X A : Type 0} (f : X → List A) (xs : List X) (k : ℕ) (x : X) (y : A) → slice_get xs k ≡ Some x → Contains (f x) y → Contains (flat_map f xs) y
contained f [] k x y e d = cc
contained {X = X} {A = A} f (z ∷ xs) zero x y e d = Contains-append_left (f z) (flat_map f xs) y (subst (λ v. Contains (f v) y) (sym (same z x e)) d)
  where
    same : (a b : X) → Some a ≡ Some b → a ≡ b
    same a b e = cc
contained f (z ∷ xs) (suc k) x y e d = Contains-append_right (f z) (flat_map f xs) y (contained f xs k x y e d)

contained_by : {X A : Type 0} (f : X → List A) (xs : List X) (y : A) → Contains (flat_map f xs) y
    → (k : ℕ) × (x : X) × (slice_get xs k ≡ Some x) × Contains (f x) y
contained_by f [] y c = absurd (omega (arith, c.1))
contained_by {X = X} f (z ∷ xs) y c = ⊎_elim here (there (contained_by f xs y)) (Contains-append_cases (f z) (flat_map f xs) y c)
  where
    here : Contains (f z) y → (k : ℕ) × (x : X) × (slice_get (z ∷ xs) k ≡ Some x) × Contains (f x) y
    here d = (0, z, refl, d)

    there : (Contains (flat_map f xs) y → (k : ℕ) × (x : X) × (slice_get xs k ≡ Some x) × Contains (f x) y)
        → Contains (flat_map f xs) y → (k : ℕ) × (x : X) × (slice_get (z ∷ xs) k ≡ Some x) × Contains (f x) y
    there more d = let r = more d in (suc r.0, r.1, r.2, r.3)

named : (graph : Graph) (i : ℕ) (units : List (List Call)) (j k : ℕ) (calls : List Call) (c : Call)
    → slice_get units j ≡ Some calls → slice_get calls k ≡ Some c
    → is_on_cycle graph (i + j) c ≡ true → Contains (lines_from graph i units) c.line
named graph i [] j k calls c e f g = cc
named graph i (unit ∷ units) zero k calls c e f g =
    let at : i + 0 ≡ i = omega arith in
    let on : is_on_cycle graph i c ≡ true = ap (λ n. is_on_cycle graph n c) (sym at) ∙ g in
    let one : Contains (line_if graph i c) c.line = subst (λ (t : Bool). Contains (if t then c.line ∷ [] else []) c.line) (sym on) (0, omega arith, refl) in
    Contains-append_left (flat_map (line_if graph i) unit) (lines_from graph (i + 1) units) c.line
    (contained (line_if graph i) unit k c c.line (ap (λ (cs : List Call). slice_get cs k) (same unit calls e) ∙ f) one)
  where
    same : (a b : List Call) → Some a ≡ Some b → a ≡ b
    same a b e = cc
named graph i (unit ∷ units) (suc j) k calls c e f g =
    let at : i + suc j ≡ i + 1 + j = omega arith in
    Contains-append_right (flat_map (line_if graph i) unit) (lines_from graph (i + 1) units) c.line
    (named graph (i + 1) units j k calls c e f (ap (λ n. is_on_cycle graph n c) (sym at) ∙ g))

complete : (graph : Graph) (i k : ℕ) (c : Call) → OnCycle graph i k c → Contains (cycle_lines graph) c.line
complete graph i k c o = by (slice_get graph i) refl o.is_call
  where
    by : (u : Option (List Call)) → slice_get graph i ≡ u → call_in u k ≡ Some c → Contains (cycle_lines graph) c.line
    by None e q = absurd cc
    by (Some calls) e q =
        let at : 0 + i ≡ i = omega arith in
        named graph 0 graph i k calls c e q (ap (λ n. is_on_cycle graph n c) at ∙ along graph i o.back.0 c.callee o.back.1)

-- a line that is named, in units from one on
abbrev IsNamed : Graph → ℕ → List (List Call) → Line → Type 0
IsNamed graph i units line =
    (j : ℕ) × (k : ℕ) × (calls : List Call) × (c : Call) × (slice_get units j ≡ Some calls) × (slice_get calls k ≡ Some c)
    × (is_on_cycle graph (i + j) c ≡ true) × (c.line ≡ line)

who_is_named : (graph : Graph) (i : ℕ) (units : List (List Call)) (line : Line) → Contains (lines_from graph i units) line → IsNamed graph i units line
who_is_named graph i [] line h = absurd (omega (arith, h.1))
who_is_named graph i (unit ∷ units) line h =
    ⊎_elim here (there (who_is_named graph (i + 1) units line))
    (Contains-append_cases (flat_map (line_if graph i) unit) (lines_from graph (i + 1) units) line h)
  where
    there : (Contains (lines_from graph (i + 1) units) line → IsNamed graph (i + 1) units line)
        → Contains (lines_from graph (i + 1) units) line → IsNamed graph i (unit ∷ units) line
    there more d =
        let r = more d in
        let at : i + 1 + r.0 ≡ i + suc r.0 = omega arith in
        (suc r.0, r.1, r.2, r.3, r.4, r.5, ap (λ n. is_on_cycle graph n r.3) (sym at) ∙ r.6, r.7)

    by : (c : Call) (t : Bool) → is_on_cycle graph i c ≡ t → Contains (if t then c.line ∷ [] else []) line → (is_on_cycle graph i c ≡ true) × (c.line ≡ line)
    by c true e (zero, l, f) = (e, f)
    by c true e (suc n, l, f) = absurd (omega (arith, l))
    by c false e d = absurd (omega (arith, d.1))

    here : Contains (flat_map (line_if graph i) unit) line → IsNamed graph i (unit ∷ units) line
    here d =
        let r = contained_by (line_if graph i) unit line d in
        let on = by r.1 (is_on_cycle graph i r.1) refl r.3 in
        let at : i ≡ i + 0 = omega arith in
        (0, r.0, unit, r.1, refl, r.2, ap (λ n. is_on_cycle graph n r.1) (sym at) ∙ on.0, on.1)

sound : (graph : Graph) (line : Line) → Contains (cycle_lines graph) line → IsCycleLine graph line
sound graph line h =
    let r = who_is_named graph 0 graph line h in
    let at : 0 + r.0 ≡ r.0 = omega arith in
    record {
      unit = r.0;
      number = r.1;
      call = r.3;
      cycle = record {
        is_call = ap (λ (o : Option (List Call)). call_in o r.1) r.4 ∙ r.5;
        back = back graph r.0 (length graph) r.3.callee (ap (λ n. is_on_cycle graph n r.3) (sym at) ∙ r.6);
      };
      on_line = r.7;
    }

pub lines_are_named : CycleLinesAreNamed
lines_are_named = record { sound = sound; complete = complete }
