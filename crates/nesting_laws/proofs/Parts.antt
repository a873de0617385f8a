-- Parts of a segment: what is kept where a well-nested segment is split. A part is some blocks in a row with the block
-- that follows it and the loop around it.
use Rattle.std.proofs.Common.{◌≡◌, ◌⊎◌, inl, inr, ⊎_elim, ℕ, suc, ◌<◌, ◌≤◌, Bool, true, false, length, refl, sym, subst, arith}
use Rattle.std.proofs.lemmas.Bool.{cases_eq, cases_lt}
use Rattle.stl_tree.specs.Flows.{IsEndBlock, IsInLoop, IsInnermost, IsJump, IsList, IsLoop, IsUnconditional, Segment}
use Rattle.stl_tree.specs.WellNested.{IsCaseEnd, IsTarget, IsWellNestedByPaths}
use Rattle.nesting_laws.specs.Plans.{Around, IsListArm, IsWayOut, Kind, LeadsTo, blocks, inside, no_loop}
use Rattle.nesting_laws.proofs.Exits.{leads_cases}
use Rattle.nesting_laws.proofs.Facts.{Facts, back_loop, innermost, same_last}
use Rattle.nesting_laws.proofs.Lists.{case_entries, forced_jump, in_arms}
use Rattle.nesting_laws.proofs.Reaching.{IsKnown, known_both, known_either, known_true}

-- Where a part may lead

-- a block falls off the part: at its end; by an unconditional jump where it is a last one; or from an arm of a jump list
-- to the end of all arms
abbrev pub Follows : Segment → Type 0 → ℕ → ℕ → Kind → ℕ → ℕ → Type 0
Follows g is_last hi follow k b t =
    (t ≡ follow) × ((follow ≡ hi) ⊎ ((is_last × IsUnconditional g b) ⊎ ((hi < follow) × IsListArm k)))

abbrev pub Lands : Segment → Type 0 → ℕ → ℕ → ℕ → Around → Kind → ℕ → ℕ → Type 0
Lands g is_last lo hi follow a k b t =
    ((lo ≤ t) × (t < hi)) ⊎ (IsWayOut a t ⊎ (IsEndBlock g.flow t ⊎ Follows g is_last hi follow k b t))

-- a jump from a loop stays in it, or leads behind it or to the end word
abbrev pub LoopLands : Segment → ℕ → ℕ → ℕ → Type 0
LoopLands g h l t = ((h ≤ t) × (t ≤ l)) ⊎ ((t ≡ suc l) ⊎ IsEndBlock g.flow t)

pub known_way_out : (a : Around) (t : ℕ) → IsKnown (IsWayOut a t)
known_way_out no_loop t = inr (λ w. w)
known_way_out (inside left k l) t = known_either (cases_eq t k) (known_both (known_true left) (cases_eq t (suc l)))

pub known_end : (g : Segment) (t : ℕ) → IsKnown (IsEndBlock g.flow t)
known_end g t = known_both (known_true g.flow.ends_alone) (cases_eq (suc t) (length g.flow.ways))

-- The loop around a part

-- the loop around is a loop of the segment, and holds the part
abbrev pub IsAround : Segment → Around → ℕ → ℕ → Type 0
IsAround g no_loop lo hi = Unit {0}
IsAround g (inside left k l) lo hi = IsLoop g k l × (k ≤ lo) × (hi ≤ suc l)

pub narrow_around : (g : Segment) (a : Around) (lo hi c d : ℕ) → lo ≤ c → d ≤ hi → IsAround g a lo hi → IsAround g a c d
narrow_around g no_loop lo hi c d x y o = tt
narrow_around g (inside left k l) lo hi c d x y (loop, i, j) = (loop, omega arith, omega arith)

-- nothing leaves a loop for the block after it
abbrev pub IsEndless : Segment → ℕ → ℕ → Type 0
IsEndless g k l = (b : ℕ) → LeadsTo g b (suc l) → k ≤ b → b ≤ l → ⊥

-- the loop around may be left, or nothing leaves it
abbrev pub MayLeave : Segment → Around → Type 0
MayLeave g no_loop = Unit {0}
MayLeave g (inside true k l) = Unit {0}
MayLeave g (inside false k l) = IsEndless g k l

-- a loop is opened already
abbrev pub Holds : Around → ℕ → Type 0
Holds no_loop h = ⊥
Holds (inside left k l) h = h ≤ k

pub holds_low : (g : Segment) (a : Around) (lo hi h : ℕ) → IsAround g a lo hi → Holds a h → h ≤ lo
holds_low g no_loop lo hi h o x = absurd x
holds_low g (inside left k l) lo hi h (loop, i, j) x = omega arith

pub holds_way : (g : Segment) (a : Around) (lo hi h : ℕ) → IsAround g a lo hi → lo ≤ h → Holds a h → IsWayOut a h
holds_way g no_loop lo hi h o y x = absurd x
holds_way g (inside left k l) lo hi h (loop, i, j) y x = inl (omega arith)

-- Parts

-- the end of a part is that of the segment or of a loop around it, or a jump from before it leads there
abbrev pub IsMet : Segment → ℕ → ℕ → Type 0
IsMet g lo hi =
    (hi ≡ g.past)
    ⊎ (((k : ℕ) × (l : ℕ) × IsLoop g k l × (k ≤ lo) × (hi ≡ suc l)) ⊎ ((s : ℕ) × IsJump g s hi × (s < lo)))

-- a part is an arm of a jump list, which ends before another arm
pub record IsArmOf (g : Segment) (lo hi follow : ℕ) : Type 0 where
  pub list : ℕ
  pub case : IsCaseEnd g list follow
  pub before : list < lo
  pub next : IsTarget g list hi

-- the arms of a jump list before a part end before it, or one of them holds it
abbrev pub IsOver : Segment → ℕ → ℕ → ℕ → ℕ → Type 0
IsOver g lo hi x e = (e ≤ lo) ⊎ ((hi ≤ e) × ((u : ℕ) → IsTarget g x u → (u ≤ lo) ⊎ (hi ≤ u)))

pub record IsPart (g : Segment) (lo hi follow : ℕ) (a : Around) (k : Kind) : Type 0 where
  pub low : g.first ≤ lo
  pub high : hi ≤ g.past
  pub around : IsAround g a lo hi
  pub left : MayLeave g a
  pub met : IsMet g lo hi
  pub arm : IsListArm k → hi < follow → IsArmOf g lo hi follow
  pub lands : (b t : ℕ) → LeadsTo g b t → lo ≤ b → b < hi → Lands g (suc b ≡ hi) lo hi follow a k b t
  pub loops : (h l : ℕ) → IsLoop g h l → h < hi → lo ≤ l → ((lo ≤ h) × (l < hi)) ⊎ Holds a h
  pub cases : (x e : ℕ) → IsCaseEnd g x e → x < lo → IsOver g lo hi x e

-- no loop that is not opened yet begins here
abbrev pub IsSettled : Segment → Around → ℕ → Type 0
IsSettled g a lo = (h l : ℕ) → IsLoop g h l → h ≡ lo → Holds a h

-- no loop that begins behind a block holds what stands before another, and that one
abbrev pub IsClear : Segment → ℕ → ℕ → Type 0
IsClear g lo d = (h l : ℕ) → IsLoop g h l → lo < h → h < d → d ≤ l → ⊥

-- the arms of jump lists between two blocks end between them
abbrev pub IsFree : Segment → ℕ → ℕ → Type 0
IsFree g lo d = (x e : ℕ) → IsCaseEnd g x e → lo < x → x < d → e ≤ d

-- the arms of the jump list of the first block are over before a part, or one of them holds it
abbrev pub IsOwn : Segment → ℕ → ℕ → ℕ → Type 0
IsOwn g lo c d = (e : ℕ) → IsCaseEnd g lo e → IsOver g c d lo e

pub clear_next : (g : Segment) (lo : ℕ) → IsClear g lo (suc lo)
clear_next g lo h l loop x y z = omega arith

pub free_next : (g : Segment) (lo : ℕ) → IsFree g lo (suc lo)
free_next g lo x e case y z = omega arith

pub own_none : (g : Segment) (lo c d : ℕ) → (IsList g lo → ⊥) → IsOwn g lo c d
own_none g lo c d none e case = absurd (none case.list)

pub clear_end : {g : Segment} {lo hi follow : ℕ} {a : Around} {k : Kind} → IsPart g lo hi follow a k → IsClear g lo hi
clear_end {g} {lo} {hi} {follow} {a} {k} part h l loop x y z =
    ⊎_elim (λ i. omega arith) (λ i. let w = holds_low g a lo hi h part.around i in omega arith) (part.loops h l loop y (omega arith))

module _ {g : Segment} (facts : Facts g) (well : IsWellNestedByPaths g) where
  -- a jump from outside of a loop into it
  enters_head : (s t h l : ℕ) → IsJump g s t → IsLoop g h l → (s < h) ⊎ (l < s) → h ≤ t → t ≤ l → t ≡ h
  enters_head s t h l jump loop o x y = ⊎_elim
      (λ is. absurd (⊎_elim (λ z. omega (arith, is.low)) (λ z. omega (arith, is.high)) o))
      (λ e. e) (well.entries s t h l jump (record { loop = loop; low = x; high = y }))

  -- where a block leads
  pub clear_lead : (lo d : ℕ) → LeadsTo g lo d → IsClear g lo d
  clear_lead lo d lead h l loop x y z = ⊎_elim
      (λ j. let e = enters_head lo d h l j loop (inl x) (omega arith) z in omega arith)
      (λ e. omega arith) (leads_cases g lo d lead)

  -- where the block before a clear place jumps over it
  pub clear_over : (lo s t : ℕ) → IsClear g lo (suc s) → IsJump g s t → suc s < t → IsClear g lo t
  clear_over lo s t clear jump ahead h l loop x y z = ⊎_elim
      (λ k. let e = enters_head s t h l jump loop (inl k) (omega arith) z in omega arith)
      (λ k. clear h l loop x (omega arith) (omega arith)) (cases_lt s h)

  -- a jump from a block to behind a list leads behind its arms
  jump_free : (s t x e : ℕ) → IsJump g s t → IsCaseEnd g x e → s < x → x < t → e ≤ t
  jump_free s t x e jump case y z = ⊎_elim
      (λ w. absurd (⊎_elim (λ i. omega arith) (λ o. omega (arith, o.0)) (case_entries facts case s t jump z w))) (λ w. w) (cases_lt t e)

  pub free_lead : (lo d : ℕ) → LeadsTo g lo d → IsFree g lo d
  free_lead lo d lead x e case y z =
      ⊎_elim (λ j. jump_free lo d x e j case y z) (λ q. absurd (omega arith)) (leads_cases g lo d lead)

  -- a jump from a loop, be it the innermost one or not
  pub loop_lands : (b t h l : ℕ) → IsJump g b t → IsInLoop g h l b → LoopLands g h l t
  loop_lands b t h l jump is = by (innermost facts b h l is)
    where
      by : (k : ℕ) × (m : ℕ) × IsInnermost g k m b → LoopLands g h l t
      by (k, m, inner) = let x = low in let y = high in
          ⊎_elim (λ z. inl (omega arith, omega arith)) (λ o. ⊎_elim onto (λ e. inr (inr e)) o) (well.exits b t k m jump inner)
        where
          low : h ≤ k
          low = inner.inner h l is

          high : m ≤ l
          high = let x = low in ⊎_elim (λ z. absurd (omega (arith, inner.around.low, is.high)))
              (λ o. ⊎_elim (λ z. absurd (omega (arith, inner.around.high, is.low)))
              (λ o. ⊎_elim (λ z. z.1) (λ z. same_last facts h l k m is.loop inner.around.loop (omega arith)) o) o)
              (well.loops h l k m is.loop inner.around.loop)

          onto : t ≡ suc m → LoopLands g h l t
          onto e = let x = high in ⊎_elim
              (λ z. inl (omega (arith, is.low, inner.around.high), omega arith)) (λ z. inr (inl (omega arith))) (cases_lt m l)

  -- Smaller parts

  module _ {lo hi follow : ℕ} {a : Around} {k : Kind} (part : IsPart g lo hi follow a k) where
    -- the arms of a list of a part end in it
    pub case_within : (x e : ℕ) → IsCaseEnd g x e → lo ≤ x → x < hi → e ≤ hi
    case_within x e case y z = ⊎_elim (λ w. absurd (over w)) (λ w. w) (cases_lt hi e)
      where
        beyond : g.past < e → ⊥
        beyond w = let (s, i, j, jump) = forced_jump facts case in omega (arith, facts.leads_high s e (jump_to s e jump))
          where
            jump_to : (s t : ℕ) → IsJump g s t → LeadsTo g s t
            jump_to s t jump = (jump.0, jump.1, inl jump.2)

        over : hi < e → ⊥
        over w = ⊎_elim (λ q. beyond (omega arith))
            (λ o. ⊎_elim
            (λ (h, l, loop, i, q). omega (
              arith,
              case.fits.loops h l hi (record { loop = loop; low = omega arith; high = omega arith })
                  (in_arms facts x e hi case.list z w),
            ))
            (λ (s, jump, i). let j = jump_free s hi x e jump case (omega arith) z in omega arith) o) part.met

    pub free_end : IsFree g lo hi
    free_end x e case y z = case_within x e case (omega arith) z

    module _ (settled : IsSettled g a lo) where
      -- a block that leads back, but not before a clear place, leads to the head of the opened loop
      back_way : (c : ℕ) → IsClear g lo c → (b t : ℕ) → LeadsTo g b t → c ≤ b → lo ≤ t → t < c → IsWayOut a t
      back_way c clear b t lead y z w =
          let (l, loop, u) = back_loop facts b t lead (omega arith) in
          ⊎_elim (λ m. absurd (clear t l loop m w (omega arith)))
          (λ m. holds_way g a lo hi t part.around z (settled t l loop (omega arith))) (cases_lt lo t)

      pub sub_loops : (c d : ℕ) → IsClear g lo c → IsClear g lo d → lo < c → d ≤ hi → (h l : ℕ) → IsLoop g h l → h < d → c ≤ l
          → ((c ≤ h) × (l < d)) ⊎ Holds a h
      sub_loops c d clear free x y h l loop z w = ⊎_elim
          (λ i. ⊎_elim
          (λ m. ⊎_elim (λ n. absurd (clear h l loop n m w)) (λ n. inr (settled h l loop (omega arith))) (cases_lt lo h))
          (λ m. ⊎_elim (λ n. inl (m, n)) (λ n. absurd (free h l loop (omega arith) z n)) (cases_lt l d)) (cases_lt h c))
          inr (part.loops h l loop (omega arith) (omega arith))

      pub sub_cases : (c d : ℕ) → IsFree g lo c → IsOwn g lo c d → lo < c → d ≤ hi → (x e : ℕ) → IsCaseEnd g x e → x < c → IsOver g c d x e
      sub_cases c d free own y z x e case w = ⊎_elim
          (λ v. ⊎_elim (λ i. inl (omega arith))
          (λ i. inr (omega (arith, i.0), λ u t. ⊎_elim (λ m. inl (omega arith)) (λ m. inr (omega arith)) (i.1 u t))) (part.cases x e case v))
          (λ v. ⊎_elim
          (λ q. subst (λ x. IsOver g c d x e) (sym q) (own e (subst (λ x. IsCaseEnd g x e) q case)))
          (λ n. inl (free x e case (omega arith) w)) (cases_eq x lo)) (cases_lt x lo)

      -- what is left to show of a part of a part: what leads behind it
      abbrev Beyond : ℕ → ℕ → ℕ → Kind → Type 0
      Beyond c d to m = (b t : ℕ) → LeadsTo g b t → c ≤ b → b < d → (IsWayOut a t → ⊥) → (IsEndBlock g.flow t → ⊥)
          → ((d ≤ t) × (t < hi)) ⊎ Follows g (suc b ≡ hi) hi follow k b t → Lands g (suc b ≡ d) c d to a m b t

      sub_lands : (c d to : ℕ) (m : Kind) → IsClear g lo c → lo < c → d ≤ hi → Beyond c d to m → (b t : ℕ) → LeadsTo g b t → c ≤ b → b < d
          → Lands g (suc b ≡ d) c d to a m b t
      sub_lands c d to m clear x y beyond b t lead z w = by (known_way_out a t) (known_end g t)
        where
          by : IsKnown (IsWayOut a t) → IsKnown (IsEndBlock g.flow t) → Lands g (suc b ≡ d) c d to a m b t
          by (inl v) e = inr (inl v)
          by (inr v) (inl e) = inr (inr (inl e))
          by (inr v) (inr e) = ⊎_elim
              (λ i. ⊎_elim (λ m. absurd (v (back_way c clear b t lead z i.0 m)))
              (λ m. ⊎_elim (λ n. inl (m, n)) (λ n. beyond b t lead z w v e (inl (n, i.1))) (cases_lt t d)) (cases_lt t c))
              (λ o. ⊎_elim (λ u. absurd (v u)) (λ o. ⊎_elim (λ u. absurd (e u)) (λ f. beyond b t lead z w v e (inr f)) o) o)
              (part.lands b t lead (omega arith) (omega arith))

      pub sub_part : (c d to : ℕ) (m : Kind) → IsClear g lo c → IsClear g lo d → IsFree g lo c → IsOwn g lo c d → lo < c → d ≤ hi
          → IsMet g c d → (IsListArm m → d < to → IsArmOf g c d to) → Beyond c d to m → IsPart g c d to a m
      sub_part c d to m clear clear' free own x y met arm beyond = record {
        low = omega (arith, part.low);
        high = omega (arith, part.high);
        around = narrow_around g a lo hi c d (omega arith) y part.around;
        left = part.left;
        met = met;
        arm = arm;
        lands = sub_lands c d to m clear x y beyond;
        loops = sub_loops c d clear clear' x y;
        cases = sub_cases c d free own x y;
      }

      met_on : (c : ℕ) → lo < c → IsMet g c hi
      met_on c x = ⊎_elim inl (λ o. inr (⊎_elim (λ (h, l, loop, i, q). inl (h, l, loop, omega arith, q))
          (λ (s, jump, i). inr (s, jump, omega arith)) o)) part.met

      arm_on : (c : ℕ) → lo < c → IsListArm k → hi < follow → IsArmOf g c hi follow
      arm_on c x y z = let is = part.arm y z in record { list = is.list; case = is.case; before = omega (arith, is.before); next = is.next }

      -- the rest of a part
      pub rest_part : (c : ℕ) → IsClear g lo c → IsFree g lo c → IsOwn g lo c hi → lo < c → IsPart g c hi follow a k
      rest_part c clear free own x = sub_part c hi follow k clear (clear_end part) free own x (omega arith) (met_on c x) (arm_on c x)
          (λ b t lead y z v e o. ⊎_elim (λ m. absurd (omega arith)) (λ f. inr (inr (inr f))) o)

  -- Loops

  pub body_part : {lo hi follow : ℕ} {a : Around} {k : Kind} (left : Bool) (l : ℕ) → IsPart g lo hi follow a k → IsLoop g lo l → l < hi
      → MayLeave g (inside left lo l) → IsPart g lo (suc l) lo (inside left lo l) blocks
  body_part {lo} {hi} {follow} {a} {k} left l part loop x may = record {
    low = part.low;
    high = omega (arith, part.high);
    around = (loop, omega arith, omega arith);
    left = may;
    met = inr (inl (lo, l, loop, omega arith, refl));
    arm = λ y z. absurd y;
    lands = λ b t lead y z. ⊎_elim inl (λ o. inr (⊎_elim (λ e. inl (inr (leaves left may b t lead y (omega arith) e, e))) (λ e. inr (inl e)) o))
        (at b t lead y (omega arith));
    loops = λ h m other y z. ⊎_elim (λ w. absurd (omega arith)) (λ o. ⊎_elim (λ w. absurd (omega arith))
        (λ o. ⊎_elim (λ w. inl (w.0, omega arith)) (λ w. inr w.0) o) o) (well.loops lo l h m loop other);
    cases = λ y e case z. ⊎_elim inl
        (λ i. inr (omega (arith, i.0), λ u t. ⊎_elim inl (λ m. inr (omega arith)) (i.1 u t))) (part.cases y e case z);
  }
    where
      leaves : (left : Bool) → MayLeave g (inside left lo l) → (b t : ℕ) → LeadsTo g b t → lo ≤ b → b ≤ l → t ≡ suc l → left ≡ true
      leaves true may b t lead y z e = refl
      leaves false may b t lead y z e = absurd (may b (subst (λ t. LeadsTo g b t) e lead) y z)

      at : (b t : ℕ) → LeadsTo g b t → lo ≤ b → b ≤ l → ((lo ≤ t) × (t < suc l)) ⊎ ((t ≡ suc l) ⊎ IsEndBlock g.flow t)
      at b t lead y z = ⊎_elim
          (λ j. ⊎_elim (λ i. inl (i.0, omega arith)) inr (loop_lands b t lo l j (record { loop = loop; low = y; high = z })))
          (λ e. ⊎_elim (λ w. inl (omega arith, omega arith)) (λ w. inr (inl (omega arith))) (cases_lt b l)) (leads_cases g b t lead)

  -- what stands behind a loop
  pub behind_part : {lo hi follow : ℕ} {a : Around} {k : Kind} (l : ℕ) → IsPart g lo hi follow a k → IsLoop g lo l → l < hi
      → IsPart g (suc l) hi follow a k
  behind_part {lo} {hi} {follow} {a} {k} l part loop low = record {
    low = omega (arith, part.low, loop.ordered);
    high = part.high;
    around = narrow_around g a lo hi (suc l) hi (omega (arith, loop.ordered)) (omega arith) part.around;
    left = part.left;
    met = let x = loop.ordered in ⊎_elim inl (λ o. inr (⊎_elim (λ (h, m, other, i, q). inl (h, m, other, omega arith, q))
        (λ (s, jump, i). inr (s, jump, omega arith)) o)) part.met;
    arm = λ y z. let is = part.arm y z in
        record { list = is.list; case = is.case; before = omega (arith, is.before, loop.ordered); next = is.next };
    lands = λ b t lead x y. ⊎_elim
        (λ i. ⊎_elim (λ m. absurd (into b t lead x i.0 m)) (λ m. inl (m, i.1)) (cases_lt t (suc l)))
        inr (part.lands b t lead (omega (arith, loop.ordered)) y);
    loops = λ h m other x y. ⊎_elim
        (λ i. ⊎_elim (λ z. absurd (from h m other i.0 y z)) (λ z. inl (z, i.1)) (cases_lt h (suc l)))
        inr (part.loops h m other x (omega (arith, loop.ordered)));
    cases = λ y e case z. let long = loop.ordered in ⊎_elim
        (λ w. ⊎_elim (λ i. inl (omega arith)) (λ i. inr (i.0, λ u t. ⊎_elim (λ m. inl (omega arith)) inr (i.1 u t))) (part.cases y e case w))
        (λ w. inl (held y e case w z)) (cases_lt y lo);
  }
    where
      held : (y e : ℕ) → IsCaseEnd g y e → lo ≤ y → y < suc l → e ≤ suc l
      held y e case w z = ⊎_elim
          (λ v. absurd (omega (
            arith,
            case.fits.loops lo l (suc l) (record { loop = loop; low = w; high = omega arith })
                (in_arms facts y e (suc l) case.list z v),
          )))
          (λ v. v) (cases_lt (suc l) e)

      into : (b t : ℕ) → LeadsTo g b t → l < b → lo ≤ t → t < suc l → ⊥
      into b t lead x y z = ⊎_elim
          (λ j. let e = enters_head b t lo l j loop (inr x) y (omega arith) in
          let w = loop.greatest b (subst (λ t. IsJump g b t) e j) in omega arith)
          (λ e. omega arith) (leads_cases g b t lead)

      from : (h m : ℕ) → IsLoop g h m → lo ≤ h → l < m → h < suc l → ⊥
      from h m other x y z = ⊎_elim (λ w. omega arith) (λ o. ⊎_elim (λ w. omega (arith, other.ordered)) (λ o. ⊎_elim (λ w. omega arith)
          (λ w. let v = same_last facts lo l h m loop other (omega arith) in omega arith) o) o) (well.loops lo l h m loop other)
