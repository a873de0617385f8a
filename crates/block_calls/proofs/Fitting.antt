-- Calls of an accepted program: their actuals are found in places that are reached, and the activation that begins is one of
-- the program again.
use Rattle.std.proofs.Common.{◌≡◌, ◌≢◌, ◌⊎◌, inl, inr, ℕ, zero, suc, ◌+◌, ◌*◌, ◌<◌, ◌≤◌, Bool, true, false, nat_lt, List, [], ◌∷◌, length, map, slice_get, All, Option, Some, None, Result, Ok, Err, refl, sym, ap, ◌∙◌, subst, arith, eqb-true}
use Rattle.std.specs.Prelude.{Contains, cond, not, option_and_then}
use Rattle.std.specs.List.{flat_map, position, prefix_len}
use Rattle.std.proofs.lemmas.Bool.Decides.{nat_tests}
use Rattle.std.proofs.lemmas.List.Elements.{All-cons, All-contains, All-nil, Contains-append_left, Contains-append_right}
use Rattle.std.proofs.lemmas.List.{get_or-replicate, length-replicate}
use Rattle.std.proofs.lemmas.Option.{get_or_from_slice_get, slice_get-get_or, slice_get_within}
use Rattle.block_calls.specs.Fitting.{AreCopied, AreNamed, AreReached, IsActivationOf, IsCallBy, IsReached, StandsIn, StandsInBody}
use Rattle.block_calls.specs.inner.Views.{AreSmall, IsGivable, IsGivableActual, IsSmall, now_of}
use Rattle.memory_areas.specs.Access.{aim_of_place, and_then, fault_of, first_fault, or_none, unless}
use Rattle.memory_areas.specs.Areas.{Contents, no_locals, zero_locals}
use Rattle.memory_areas.specs.Memory.{HasBlocks}
use Rattle.memory_areas.specs.declared.call.BlockName.{BlockName}
use Rattle.memory_areas.specs.declared.call.BlockName.TheVariants as name
use Rattle.memory_areas.specs.declared.data_block.DataBlock.{DataBlock}
use Rattle.memory_areas.specs.declared.place.Area.TheVariants as place_area
use Rattle.memory_areas.specs.declared.place.Place.{Place}
use Rattle.memory_areas.specs.declared.sizes.TheConstants.{ACTIVATIONS, LOCAL_BYTES}
use Rattle.s7_base.specs.declared.outcome.Fault.{Fault}
use Rattle.s7_base.specs.declared.outcome.Fault.TheVariants.{AreaLength}
use Rattle.s7_base.specs.declared.word.Width.{Width}
use Rattle.s7_base.specs.declared.word.Width.TheVariants as width
use Rattle.stl_tree.specs.Accepted.{AreActuals, AreDistinct, AsksFor, BlockCallsRight, CallsRight, EndsWithin, IsAccepted, IsAcceptedBlock, IsActual, IsCall, IsCallIf, IsInstanceOf, IsOperand, LiesInInstance, Widths, called_by, called_in, formals_named, is_written, widths_named}
use Rattle.stl_tree.specs.Calls.{actual_place, actual_places, cell_of, formals_of, given_place, tested_place}
use Rattle.stl_tree.specs.Now.{Activation, Now}
use Rattle.stl_tree.specs.Operands.{formal_place, found_formal, place_in}
use Rattle.stl_tree.specs.Registers.{RegisterValues}
use Rattle.stl_tree.specs.StlRun.{IsInstance, block_at, block_named, formals_at, is_same_name}
use Rattle.stl_tree.specs.declared.program.Actual.{Actual}
use Rattle.stl_tree.specs.declared.program.Actual.TheVariants as actual
use Rattle.stl_tree.specs.declared.program.Block.{Block}
use Rattle.stl_tree.specs.declared.program.BlockCall.{BlockCall}
use Rattle.stl_tree.specs.declared.program.Formal.{Formal}
use Rattle.stl_tree.specs.declared.program.Instance.{Instance}
use Rattle.stl_tree.specs.declared.program.Instr.{Instr}
use Rattle.stl_tree.specs.declared.program.Op.{Op}
use Rattle.stl_tree.specs.declared.program.Op.TheVariants as op
use Rattle.stl_tree.specs.declared.program.Operand.{Operand}
use Rattle.stl_tree.specs.declared.program.Operand.TheVariants as operand
use Rattle.stl_tree.specs.declared.program.Program.{Program}

-- Lists

contained-flat_map : {X A : Type 0} (f : X → List A) (xs : List X) (x : X) (y : A) → Contains xs x → Contains (f x) y → Contains (flat_map f xs) y
contained-flat_map f [] x y c d = absurd (omega (arith, c.1))
contained-flat_map f (z ∷ xs) x y (zero, l, e) d =
    Contains-append_left (f z) (flat_map f xs) y (subst (λ v. Contains (f v) y) (sym e) d)
contained-flat_map f (z ∷ xs) x y (suc k, l, e) d =
    Contains-append_right (f z) (flat_map f xs) y (contained-flat_map f xs x y (k, omega (arith, l), e) d)

-- Names

pub same_itself : (n : BlockName) → is_same_name n n ≡ true
same_itself (name.Ob n) = grind (arith, nat_tests)
same_itself (name.Fc n) = grind (arith, nat_tests)
same_itself (name.Fb n) = grind (arith, nat_tests)

pub same_name : (m n : BlockName) → is_same_name m n ≡ true → m ≡ n
same_name (name.Ob m) (name.Ob n) e = ap name.Ob (eqb-true m n e)
same_name (name.Fc m) (name.Fc n) e = ap name.Fc (eqb-true m n e)
same_name (name.Fb m) (name.Fb n) e = ap name.Fb (eqb-true m n e)
same_name m n e = absurd cc

pub some_below : (n : ℕ) → nat_lt 0 (suc n) ≡ true
some_below n = grind (arith, nat_tests)

position_first : (q : Block → Bool) (b : Block) (blocks : List Block) → q b ≡ true → position q (b ∷ blocks) ≡ Some 0
position_first q b blocks e =
    ap (λ t. cond (nat_lt (cond (not t) (1 + prefix_len (λ x. not (q x)) blocks) 0) (length (b ∷ blocks)))
    (Some (cond (not t) (1 + prefix_len (λ x. not (q x)) blocks) 0)) None) e
    ∙ ap (λ t. cond t (Some 0) None) (some_below (length blocks))

position_behind : (q : Block → Bool) (b : Block) (blocks : List Block) (i : ℕ)
    → q b ≡ false → position q blocks ≡ Some i → position q (b ∷ blocks) ≡ Some (suc i)
position_behind q b blocks i e f =
    ap (λ t. cond (nat_lt (cond (not t) (1 + prefix_len (λ x. not (q x)) blocks) 0) (length (b ∷ blocks)))
    (Some (cond (not t) (1 + prefix_len (λ x. not (q x)) blocks) 0)) None) e
    ∙ by (prefix_len (λ x. not (q x)) blocks) (length blocks) (nat_lt (prefix_len (λ x. not (q x)) blocks) (length blocks)) refl f
  where
    some_number : (m n : ℕ) → Some m ≡ Some n → m ≡ n
    some_number m n e = cc

    by : (n len : ℕ) (t : Bool) → nat_lt n len ≡ t → cond t (Some n) None ≡ Some i → cond (nat_lt (1 + n) (suc len)) (Some (1 + n)) None ≡ Some (suc i)
    by n len true g h =
        let less : nat_lt (1 + n) (suc len) ≡ true = grind (arith, nat_tests, g) in
        let same : 1 + n ≡ suc i = omega (arith, some_number n i h) in
        ap (λ t. cond t (Some (1 + n)) None) less ∙ ap (λ k. Some k) same
    by n len false g h = absurd cc

first_named : (blocks : List Block) (i : ℕ) (b : Block) → AreDistinct blocks → slice_get blocks i ≡ Some b → block_named b.name blocks ≡ Some i
first_named [] i b h e = absurd cc
first_named (c ∷ blocks) zero b h e =
    let same : c ≡ b = some_block c b e in
    position_first (λ (x : Block). is_same_name x.name b.name) c blocks (ap (λ (x : Block). is_same_name x.name b.name) same ∙ same_itself b.name)
  where
    some_block : (x y : Block) → Some x ≡ Some y → x ≡ y
    some_block x y e = cc
first_named (c ∷ blocks) (suc i) b h e = by (first_named blocks i b h.1 e) (is_same_name c.name b.name) refl
  where
    by : block_named b.name blocks ≡ Some i → (t : Bool) → is_same_name c.name b.name ≡ t → block_named b.name (c ∷ blocks) ≡ Some (suc i)
    by rest true t =
        let twice : Some i ≡ None = sym rest ∙ ap (λ (n : BlockName). block_named n blocks) (sym (same_name c.name b.name t)) ∙ h.0 in absurd cc
    by rest false t = position_behind (λ (x : Block). is_same_name x.name b.name) c blocks i t rest

-- Cells

zero_there : (d : ℕ) → d < ACTIVATIONS → slice_get no_locals d ≡ Some zero_locals
zero_there d h =
    slice_get-get_or no_locals d zero_locals (omega (arith, h, length-replicate ACTIVATIONS zero_locals))
    ∙ ap (λ (x : List ℕ). Some x) (get_or-replicate ACTIVATIONS d zero_locals zero_locals h)

-- the cell of a formal holds its width
pub cell_reached : (dbs : List DataBlock) (d k : ℕ) (w : Width) → d < ACTIVATIONS → k < 64 → IsReached dbs w (cell_of d k)
cell_reached dbs d k w room few = by w
  where
    long : (n : ℕ) → n ≤ 4 → first_fault ((nat_lt (length (or_none (slice_get no_locals d))) (4 * k + n), AreaLength) ∷ []) ≡ None
    long n h =
        let size : length (or_none (slice_get no_locals d)) ≡ LOCAL_BYTES =
        ap (λ (o : Option (List ℕ)). length (or_none o)) (zero_there d room) ∙ length-replicate {A = ℕ} LOCAL_BYTES 0 in
        let fits : nat_lt (length (or_none (slice_get no_locals d))) (4 * k + n) ≡ false = grind (arith, nat_tests, size, few, h) in
        ap (λ b. first_fault ((b, AreaLength) ∷ [])) fits

    by : (v : Width) → IsReached dbs v (cell_of d k)
    by width.Bit = long 1 (omega arith)
    by width.Byte = long 1 (omega arith)
    by width.Word = long 2 (omega arith)
    by width.Dword = long 4 (omega arith)

-- What a call of an accepted program gives

-- the call is one of a block, in a body that may name formals of these widths
no_formals_left : (has : Bool) (formals : List Formal) (wide : Widths) → AreActuals [] has formals [] → AreActuals wide has formals []
no_formals_left has [] wide h = tt
no_formals_left has (f ∷ formals) wide h = absurd h

asks_without : (instances : List Instance) (wide : Widths) (b : Block) (n : BlockName) (call : BlockCall) → call.actuals ≡ []
    → AsksFor instances [] b n call → AsksFor instances wide b n call
asks_without instances wide b (name.Ob n) call e h = absurd h
asks_without instances wide b (name.Fc n) call e h =
    (h.0, subst (AreActuals wide false b.formals) (sym e) (no_formals_left false b.formals wide (subst (AreActuals [] false b.formals) e h.1)))
asks_without instances wide b (name.Fb n) call e h =
    (h.0, subst (AreActuals wide true b.formals) (sym e) (no_formals_left true b.formals wide (subst (AreActuals [] true b.formals) e h.1)))

call_of : (p : Program) (wide : Widths) (call : BlockCall) (o : Op) → IsCallBy call o → CallsRight p wide o → IsCall p wide call
call_of p wide call (op.Call c) e h = subst (IsCall p wide) e h
call_of p wide call (op.CallIf c) e h =
    let right : IsCallIf p call = subst (IsCallIf p) e h in
    (right.0.0, right.0.1, asks_without p.instances wide right.0.0 right.0.0.name call right.2 right.0.2)
call_of p wide call o e h = absurd e

calls_its_block : (call : BlockCall) (o : Op) → IsCallBy call o → Contains (called_by o) call.block
calls_its_block call (op.Call c) e = (0, omega arith, ap (λ (x : BlockCall). x.block) e)
calls_its_block call (op.CallIf c) e = (0, omega arith, ap (λ (x : BlockCall). x.block) e)
calls_its_block call o e = absurd e

-- what stands in the body of a block that is there
stands_in : (call : BlockCall) (o : Option Block) (b : Block) → o ≡ Some b → StandsInBody call o → StandsInBody call (Some b)
stands_in call o b e h = subst (StandsInBody call) e h

module _ (p : Program) (accepted : IsAccepted p) where
  contains_at : {X : Type 0} (xs : List X) (k : ℕ) (x : X) → slice_get xs k ≡ Some x → Contains xs x
  contains_at xs k x e = (k, slice_get_within xs k x e, get_or_from_slice_get xs k x x e)

  pub right_call : (i : ℕ) (b : Block) (call : BlockCall) → slice_get p.blocks i ≡ Some b → StandsInBody call (Some b)
      → IsCall p (widths_named b.name b.formals) call
  right_call i b call e h =
      let calls : BlockCallsRight p b = All-contains (BlockCallsRight p) p.blocks b accepted.calls (contains_at p.blocks i b e) in
      let wide : Widths = widths_named b.name b.formals in
      call_of p wide call h.0.op h.2 (All-contains (λ (j : Instr). CallsRight p wide j.op) b.body h.0 calls h.1)

  accepted_block : (i : ℕ) (b : Block) → slice_get p.blocks i ≡ Some b → IsAcceptedBlock b
  accepted_block i b e = All-contains IsAcceptedBlock p.blocks b accepted.blocks (contains_at p.blocks i b e)

  pub formals_there : (i : ℕ) (b : Block) → slice_get p.blocks i ≡ Some b → formals_at p i ≡ b.formals
  formals_there i b e = ap formals_of e

  few_of : (o : Option Block) → ((b : Block) → o ≡ Some b → length b.formals ≤ 64) → length (formals_of o) ≤ 64
  few_of None h = omega arith
  few_of (Some b) h = h b refl

  pub few_formals : (i : ℕ) → length (formals_at p i) ≤ 64
  few_formals i = few_of (slice_get p.blocks i) (λ b e. (accepted_block i b e).few_formals)

  -- Places

  module _ (r : RegisterValues) (m : Contents) (a : Activation) (waiting : List Activation) (has : HasBlocks p.dbs m) where
    abbrev now : Now
    now = now_of r m (a ∷ waiting)

    tested_reached : (w : Width) (q : Place) (o : Option Place) → tested_place w q m ≡ Ok o → (o ≡ Some q) × IsReached p.dbs w q
    tested_reached w q o e = by (fault_of (aim_of_place q) w m) refl e
      where
        by : (f : Option Fault) → fault_of (aim_of_place q) w m ≡ f
            → ◌≡◌ {A = Result (Option Place) Fault} (unless f (Some q)) (Ok o) → (o ≡ Some q) × IsReached p.dbs w q
        by None g h = (cc, sym (has (aim_of_place q) w) ∙ g)
        by (Some f) g h = absurd cc

    -- the place of an actual is reached, and only an instance may do without it
    abbrev Reaches : Bool → Width → Option Place → Type 0
    Reaches optional w None = optional ≡ true
    Reaches optional w (Some q) = IsReached p.dbs w q

    some_reaches : (optional : Bool) (w : Width) (q : Place) (o : Option Place) → (o ≡ Some q) × IsReached p.dbs w q → Reaches optional w o
    some_reaches optional w q o h = subst (Reaches optional w) (sym h.0) h.1

    some_is : (x y : Option Place) → ◌≡◌ {A = Result (Option Place) Fault} (Ok x) (Ok y) → x ≡ y
    some_is x y e = cc

    given_reaches : (wide : Widths) (optional : Bool) (w : Width) (o : Operand) (place : Option Place) → AreNamed p.dbs wide a.formals
        → is_written o ≡ true → IsOperand wide w o → given_place w o now ≡ Ok place → Reaches optional w place
    given_reaches wide optional w (operand.Direct b byte x) place named is fits e =
        let q : Place = place_in b byte x now in some_reaches optional w q place (tested_reached w q place e)
    given_reaches wide optional w (operand.Opened n byte x) place named is fits e =
        let q : Place = record { area = place_area.Db n; byte = byte; bit = x } in some_reaches optional w q place (tested_reached w q place e)
    given_reaches wide optional w (operand.Formal k) place named is fits e =
        let known = named k w fits in
        let found : formal_place k (a ∷ waiting) ≡ Some known.0 = ap (λ (o : Option (Option Place)). option_and_then (λ q. q) o) known.1 in
        let given : ◌≡◌ {A = Result (Option Place) Fault} (given_place w (operand.Formal k) now) (Ok (Some known.0)) =
        ap (λ (o : Option Place). and_then (found_formal o now) (λ f. Ok (Some f.place))) found in
        some_reaches optional w known.0 place (sym (some_is (Some known.0) place (sym given ∙ e)), known.2)
    given_reaches wide optional w (operand.ByMemory b c byte) place named is fits e = absurd cc
    given_reaches wide optional w (operand.ByRegister b c byte) place named is fits e = absurd cc
    given_reaches wide optional w (operand.Crossing b byte) place named is fits e = absurd cc

    actual_reaches : (wide : Widths) (optional : Bool) (d k : ℕ) (f : Formal) (x : Actual) (place : Option Place) → AreNamed p.dbs wide a.formals
        → d < ACTIVATIONS → k < 64 → IsActual wide optional f x → actual_place d k f.width x now ≡ Ok place → Reaches optional f.width place
    actual_reaches wide optional d k f actual.Missing place named room few is e = subst (Reaches optional f.width) (some_is None place e) is
    actual_reaches wide optional d k f (actual.Constant c) place named room few is e =
        subst (Reaches optional f.width) (some_is (Some (cell_of d k)) place e) (cell_reached p.dbs d k f.width room few)
    actual_reaches wide optional d k f (actual.At o) place named room few is e = given_reaches wide optional f.width o place named is.0 is.1 e

    -- the places of all actuals
    abbrev pub AllReach : Bool → List Formal → List (Option Place) → Type 0
    AllReach optional [] [] = Unit {0}
    AllReach optional (f ∷ formals) (q ∷ places) = Reaches optional f.width q × AllReach optional formals places
    AllReach optional formals places = ⊥

    parts : (r : Result (Option Place) Fault) (rest : Result (List (Option Place)) Fault) (places : List (Option Place))
        → ◌≡◌ {A = Result (List (Option Place)) Fault} (and_then r (λ q. and_then rest (λ more. Ok (q ∷ more)))) (Ok places)
        → (q : Option Place) × (more : List (Option Place)) × (r ≡ Ok q) × (rest ≡ Ok more) × (q ∷ more ≡ places)
    parts (Ok q) (Ok more) places e = (q, more, refl, refl, cc)
    parts (Ok q) (Err f) places e = absurd cc
    parts (Err f) rest places e = absurd cc

    pub all_reach : (wide : Widths) (optional : Bool) (d k : ℕ) (formals : List Formal) (actuals : List Actual) (places : List (Option Place))
        → AreNamed p.dbs wide a.formals → d < ACTIVATIONS → k + length formals ≤ 64
        → AreActuals wide optional formals actuals → actual_places d k formals actuals now ≡ Ok places → AllReach optional formals places
    all_reach wide optional d k [] [] places named room few is e = subst (AllReach optional []) (none places e) tt
      where
        none : (xs : List (Option Place)) → ◌≡◌ {A = Result (List (Option Place)) Fault} (Ok []) (Ok xs) → [] ≡ xs
        none xs e = cc
    all_reach wide optional d k [] (x ∷ actuals) places named room few is e = absurd is
    all_reach wide optional d k (f ∷ formals) [] places named room few is e = absurd is
    all_reach wide optional d k (f ∷ formals) (x ∷ actuals) places named room few is e =
        let both = parts (actual_place d k f.width x now) (actual_places d (k + 1) formals actuals now) places e in
        subst (AllReach optional (f ∷ formals)) both.4 (
          actual_reaches wide optional d k f x both.0 named room (omega arith) is.0 both.2,
          all_reach wide optional d (k + 1) formals actuals both.1 named room (omega arith) is.1 both.3,
        )

    pub reached_all : (optional : Bool) (formals : List Formal) (places : List (Option Place))
        → AllReach optional formals places → AreReached p.dbs formals places
    reached_all optional [] places h = tt
    reached_all optional (f ∷ formals) [] h = tt
    reached_all optional (f ∷ formals) (None ∷ places) h = (tt, reached_all optional formals places h.1)
    reached_all optional (f ∷ formals) (Some q ∷ places) h = (h.0, reached_all optional formals places h.1)

    named_all : (formals : List Formal) (places : List (Option Place)) → AllReach false formals places
        → AreNamed p.dbs (map (λ (f : Formal). f.width) formals) places
    named_all [] places h k w e = absurd cc
    named_all (f ∷ formals) [] h k w e = absurd h
    named_all (f ∷ formals) (None ∷ places) h zero w e = absurd cc
    named_all (f ∷ formals) (Some q ∷ places) h zero w e = (q, refl, subst (λ v. IsReached p.dbs v q) (width_is f.width w e) h.0)
      where
        width_is : (v u : Width) → Some v ≡ Some u → v ≡ u
        width_is v u e = cc
    named_all (f ∷ formals) (q ∷ places) h (suc k) w e = named_all formals places h.1 k w e

    -- the actuals are ones that are found
    all_givable : (wide : Widths) (optional : Bool) (formals : List Formal) (actuals : List Actual) → AreNamed p.dbs wide a.formals
        → AreActuals wide optional formals actuals → All (λ (x : Actual). IsGivableActual x (a ∷ waiting)) actuals
    all_givable wide optional [] [] named is = All-nil (λ (x : Actual). IsGivableActual x (a ∷ waiting))
    all_givable wide optional [] (x ∷ actuals) named is = absurd is
    all_givable wide optional (f ∷ formals) [] named is = absurd is
    all_givable wide optional (f ∷ formals) (x ∷ actuals) named is =
        All-cons (λ (y : Actual). IsGivableActual y (a ∷ waiting)) x actuals (one x is.0) (all_givable wide optional formals actuals named is.1)
      where
        written : (o : Operand) → is_written o ≡ true → IsOperand wide f.width o → IsGivable o (a ∷ waiting)
        written (operand.Direct b byte y) w h = tt
        written (operand.Opened n byte y) w h = tt
        written (operand.Formal k) w h =
            let known = named k f.width h in (known.0, ap (λ (o : Option (Option Place)). option_and_then (λ q. q) o) known.1)
        written (operand.ByMemory b c byte) w h = absurd cc
        written (operand.ByRegister b c byte) w h = absurd cc
        written (operand.Crossing b byte) w h = absurd cc

        one : (y : Actual) → IsActual wide optional f y → IsGivableActual y (a ∷ waiting)
        one actual.Missing h = tt
        one (actual.Constant c) h = tt
        one (actual.At o) h = written o h.0 h.1

  all_small : (wide : Widths) (optional : Bool) (formals : List Formal) (actuals : List Actual)
      → AreActuals wide optional formals actuals → AreSmall formals actuals
  all_small wide optional [] [] is = tt
  all_small wide optional [] (x ∷ actuals) is = absurd is
  all_small wide optional (f ∷ formals) [] is = absurd is
  all_small wide optional (f ∷ formals) (x ∷ actuals) is = (one x is.0, all_small wide optional formals actuals is.1)
    where
      one : (y : Actual) → IsActual wide optional f y → IsSmall f.width y
      one actual.Missing h = tt
      one (actual.Constant c) h = h.1
      one (actual.At o) h = tt

  -- Chains

  chain_on : (most i : ℕ) (b : Block) (called : ℕ) → EndsWithin most p.blocks i → slice_get p.blocks i ≡ Some b → Contains (called_in b) called
      → (m : ℕ) × (suc m ≡ most) × EndsWithin m p.blocks called
  chain_on zero i b called h e c = absurd h
  chain_on (suc m) i b called h e c = (m, refl, All-contains (EndsWithin m p.blocks) (called_in b) called (h b e) c)

  at_least_one : (most i : ℕ) → EndsWithin most p.blocks i → 1 ≤ most
  at_least_one zero i h = absurd h
  at_least_one (suc m) i h = omega arith

  called_there : (b : Block) (call : BlockCall) → StandsInBody call (Some b) → Contains (called_in b) call.block
  called_there b call h = in_flat b.body h.0 h.1 (calls_its_block call h.0.op h.2)
    where
      in_flat : (body : List Instr) (i : Instr) → Contains body i → Contains (called_by i.op) call.block
          → Contains (flat_map (λ (j : Instr). called_by j.op) body) call.block
      in_flat body i c d = contained-flat_map (λ (j : Instr). called_by j.op) body i call.block c d

  -- Instances

  named_at : (blocks : List Block) (i : ℕ) (b : Block) → AreDistinct blocks → slice_get blocks i ≡ Some b → block_named b.name blocks ≡ Some i
  named_at blocks i b h e = first_named blocks i b h e

  pub lies : (fb i : ℕ) (b : Block) (instance : ℕ) → slice_get p.blocks i ≡ Some b → b.name ≡ name.Fb fb → IsInstance p.instances instance fb
      → All (LiesInInstance p.dbs instance) b.formals
  lies fb i b instance e n is =
      let of = All-contains (IsInstanceOf p) p.instances (record { db = instance; fb = fb }) accepted.instances is in
      let at : block_named (name.Fb fb) p.blocks ≡ Some i = ap (λ (x : BlockName). block_named x p.blocks) (sym n) ∙ named_at p.blocks i b accepted.names e in
      let formals : formals_named (name.Fb fb) p.blocks ≡ b.formals = ap (λ o. formals_of (block_at p.blocks o)) at ∙ ap formals_of e in
      subst (All (LiesInInstance p.dbs instance)) formals of.formals

  -- The activation that a call begins

  module _ (r : RegisterValues) (m : Contents) (a : Activation) (waiting : List Activation) (has : HasBlocks p.dbs m)
      (fits : IsActivationOf p (length waiting) a) (call : BlockCall) (stands : StandsIn p (a ∷ waiting) call) where
    here : StandsInBody call (Some fits.block)
    here = stands_in call (slice_get p.blocks a.block) fits.block fits.there stands

    abbrev wide : Widths
    wide = widths_named fits.block.name fits.block.formals

    right : IsCall p (widths_named fits.block.name fits.block.formals) call
    right = right_call a.block fits.block call fits.there here

    chain : (n : ℕ) × (suc n ≡ fits.most) × EndsWithin n p.blocks call.block
    chain = chain_on fits.most a.block fits.block call.block fits.chain fits.there (called_there fits.block call here)

    pub room : length (a ∷ waiting) < ACTIVATIONS
    room =
        let some : 1 ≤ chain.0 = at_least_one chain.0 call.block chain.2 in
        omega (arith, chain.1, fits.room, some)

    -- what the called block asks for, by its name
    optional_of : (n : BlockName) → AsksFor p.instances wide right.0 n call → (optional : Bool) × AreActuals wide optional right.0.formals call.actuals
    optional_of (name.Ob n) h = absurd h
    optional_of (name.Fc n) h = (false, h.1)
    optional_of (name.Fb n) h = (true, h.1)

    actuals_right : (optional : Bool) × AreActuals wide optional right.0.formals call.actuals
    actuals_right = optional_of right.0.name right.2

    pub givable : All (λ (x : Actual). IsGivableActual x (a ∷ waiting)) call.actuals
    givable = all_givable r m a waiting has wide actuals_right.0 right.0.formals call.actuals fits.named actuals_right.1

    same_formals : formals_at p call.block ≡ right.0.formals
    same_formals = formals_there call.block right.0 right.1

    pub small : AreSmall (formals_at p call.block) call.actuals
    small = subst (λ fs. AreSmall fs call.actuals) (sym same_formals) (all_small wide actuals_right.0 right.0.formals call.actuals actuals_right.1)

    few : length right.0.formals ≤ 64
    few = subst (λ (fs : List Formal). length fs ≤ 64) same_formals (few_formals call.block)

    module _ (places : List (Option Place))
        (found : actual_places (length (a ∷ waiting)) 0 (formals_at p call.block) call.actuals (now_of r m (a ∷ waiting)) ≡ Ok places) where
      located : actual_places (length (a ∷ waiting)) 0 right.0.formals call.actuals (now_of r m (a ∷ waiting)) ≡ Ok places
      located = subst (λ fs. actual_places (length (a ∷ waiting)) 0 fs call.actuals (now_of r m (a ∷ waiting)) ≡ Ok places) same_formals found

      reach : (optional : Bool) → AreActuals wide optional right.0.formals call.actuals → AllReach r m a waiting has optional right.0.formals places
      reach optional is =
          all_reach r m a waiting has wide optional (length (a ∷ waiting)) 0 right.0.formals call.actuals places fits.named room (omega (arith, few)) is located

      abbrev IsRight : BlockName → Type 0
      IsRight n =
          AreNamed p.dbs (widths_named n right.0.formals) places × ((call.instance ≡ 0) ⊎ AreCopied p.dbs call.instance right.0.formals places)

      by_name : (n : BlockName) → right.0.name ≡ n → AsksFor p.instances wide right.0 n call → IsRight n
      by_name (name.Ob n) e h = absurd h
      by_name (name.Fc n) e h = (named_all r m a waiting has right.0.formals places (reach false h.1), inl h.0)
      by_name (name.Fb n) e h = (
        λ k w none. absurd cc,
        inr (record {
          lie = lies n call.block right.0 call.instance right.1 e h.0;
          reached = reached_all r m a waiting has true right.0.formals places (reach true h.1);
        }),
      )

      known : IsRight right.0.name
      known = by_name right.0.name refl right.2

      pub begins : (db di : ℕ) → IsActivationOf p (length (a ∷ waiting))
          (record { block = call.block; at = 0; instance = call.instance; db = db; di = di; formals = places })
      begins db di = record {
        block = right.0;
        there = right.1;
        most = chain.0;
        room = omega (arith, chain.1, fits.room);
        chain = chain.2;
        named = known.0;
        copied = known.1;
      }

      -- what an instance takes
      pub takes : call.instance ≢ 0 → All (LiesInInstance p.dbs call.instance) (formals_at p call.block) × AreReached p.dbs (formals_at p call.block) places
      takes some = by known.1
        where
          by : (call.instance ≡ 0) ⊎ AreCopied p.dbs call.instance right.0.formals places
              → All (LiesInInstance p.dbs call.instance) (formals_at p call.block) × AreReached p.dbs (formals_at p call.block) places
          by (inl none) = absurd (some none)
          by (inr h) =
              (subst (All (LiesInInstance p.dbs call.instance)) (sym same_formals) h.lie, subst (λ fs. AreReached p.dbs fs places) (sym same_formals) h.reached)
