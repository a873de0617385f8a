-- Actuals that are located one after another.
use Rattle.st_tree.proofs.Common.{◌≡◌, ℕ, suc, zero, ◌<◌, List, [], ◌∷◌, ◌++◌, length, take, slice_index_or, Result, Ok, Err, refl, sym, ap, ◌∙◌, arith, rules, ◌+◌, subst, and_then, Fault, located_actual, located_actuals, State}
use Rattle.st_runner.proofs.Common.{AreReachable, IsReachable, state_of, Var, Located, Reference}
use Rattle.std.proofs.lemmas.List.{length-append}
use Rattle.st_runner.proofs.state.State.locate_actuals.Goals as goal

pub reachable_push : (rs : List Reference) (r : Reference) → AreReachable rs → IsReachable r → AreReachable (rs ++ r ∷ [])
reachable_push [] r h k = (k, tt)
reachable_push (x ∷ rs) r h k = (h.0, reachable_push rs r h.1 k)

module _ (g : List Located) (s : State) where
  -- one more, with the first already located, or a fault
  then_one : (r : Result Reference Fault) (more : Result (List Reference) Fault) (rs : List Reference) →
      and_then r (λ a. and_then more (λ b. Ok (a ∷ b))) ≡ Ok rs → (a : Reference) × (b : List Reference) × (r ≡ Ok a) × (more ≡ Ok b) × (rs ≡ a ∷ b)
  then_one (Ok a) (Ok b) rs e = (a, b, refl, refl, cc)
  then_one (Ok a) (Err f) rs e = cc
  then_one (Err f) more rs e = cc

  pub located_more : (vs : List Var) (i : ℕ) (d : Var) (rs : List Reference) (r : Reference) → i < length vs
      → located_actuals g (take i vs) s ≡ Ok rs → located_actual g (slice_index_or vs i d) s ≡ Ok r
      → located_actuals g (take (suc i) vs) s ≡ Ok (rs ++ r ∷ [])
  located_more [] i d rs r h e k = absurd (omega arith)
  located_more (v ∷ vs) zero d rs r h e k =
      let none : rs ≡ [] = cc in
      ap (λ q. and_then q (λ a. and_then (located_actuals g [] s) (λ b. Ok (a ∷ b)))) k ∙ ap (λ (ys : List Reference). Ok (ys ++ r ∷ [])) (sym none)
  located_more (v ∷ vs) (suc i) d rs r h e k =
      let parts = then_one (located_actual g v s) (located_actuals g (take i vs) s) rs e in
      ap (λ q. and_then q (λ a. and_then (located_actuals g (take (suc i) vs) s) (λ b. Ok (a ∷ b)))) parts.2
      ∙ ap (λ q. and_then q (λ b. Ok (parts.0 ∷ b))) (located_more vs i d parts.1 r (omega arith) parts.3 k)
      ∙ ap (λ (ys : List Reference). Ok (ys ++ r ∷ [])) (sym parts.4)

  pub located_fault : (vs : List Var) (i : ℕ) (d : Var) (rs : List Reference) (f : Fault) → i < length vs
      → located_actuals g (take i vs) s ≡ Ok rs → located_actual g (slice_index_or vs i d) s ≡ Err f
      → located_actuals g vs s ≡ Err f
  located_fault [] i d rs f h e k = absurd (omega arith)
  located_fault (v ∷ vs) zero d rs f h e k = ap (λ q. and_then q (λ a. and_then (located_actuals g vs s) (λ b. Ok (a ∷ b)))) k
  located_fault (v ∷ vs) (suc i) d rs f h e k =
      let parts = then_one (located_actual g v s) (located_actuals g (take i vs) s) rs e in
      ap (λ q. and_then q (λ a. and_then (located_actuals g vs s) (λ b. Ok (a ∷ b)))) parts.2
      ∙ ap (λ q. and_then q (λ b. Ok (parts.0 ∷ b))) (located_fault vs i d parts.1 f (omega arith) parts.3 k)

pub returns-in-Err-clause-fault : goal.returns-in-Err-clause-fault
returns-in-Err-clause-fault c =
    located_fault c.args.globals.now (state_of c.args.self.now) c.args.actuals.now c.loop-actual.actual-index
    _ c.loop-actual.formals.items c.in-Err.fault c.loop-actual-test.true c.loop-actual.invariant.0
    (sym c.located_actual.ensures.value ∙ c.in-Err.is)

pub loop-actual-preserved : goal.loop-actual-preserved
loop-actual-preserved c =
    let g = c.args.globals.now in
    let s = state_of c.args.self.now in
    let rs = c.loop-actual.formals.items in
    let r = c.in-Ok.reference in
    let more =
    located_more g s c.args.actuals.now c.loop-actual.actual-index _ rs r c.loop-actual-test.true c.loop-actual.invariant.0
    (sym c.located_actual.ensures.value ∙ c.in-Ok.is) in
    let one : suc c.loop-actual.actual-index ≡ c.loop-actual.actual-index + 1 = omega arith in
    let items = c.push_reserved.ensures.items in (
      ap (λ n. located_actuals g (take n c.args.actuals.now) s) (sym one) ∙ more ∙ ap (λ (ys : List Reference). Ok ys) (sym items),
      subst (λ (ys : List Reference). AreReachable ys) (sym items) (reachable_push rs r c.loop-actual.invariant.1 (search rules)),
      c.push_reserved.ensures.capacity ∙ c.loop-actual.invariant.2,
      ap length items ∙ length-append rs (r ∷ []) ∙ ap (λ n. n + 1) c.loop-actual.invariant.3,
    )
