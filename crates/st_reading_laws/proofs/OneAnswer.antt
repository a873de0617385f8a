-- A text has one answer.
use Rattle.st_tree.proofs.Common.{◌≡◌, ◌≤◌, List, [], map, Some, None, refl, sym, ap, ◌∙◌, subst, arith, Line, Reason, Break}
use Rattle.st_rules.proofs.Common.{RawPou, RawSt, first_long_chain, BreaksChain, IsChain, calls_in, chained, cycle, long, named, names_of, no_unit, formals_of, calls_of_unit}
use Rattle.call_chains.specs.Chain.{Graph, NoCycle, FirstCycle, call_at}
use Rattle.st_reading_laws.specs.TypedLaws.{NotBoth, OneRefusal, OneTree}

same_line : (l m : Line) → l.0 ≡ m.0 → l ≡ m
same_line l m e = λ i. record { 0 = e i }

-- one broken rule
line_of : (a b : Break) → Some a ≡ Some b → (a.line ≡ b.line) × (a.rule ≡ b.rule)
line_of a b e = let same : a ≡ b = cc in (ap (λ (x : Break). x.line) same, ap (λ (x : Break). x.rule) same)

-- a cycle shows that some call lies on one
some_cycle : (graph : Graph) (l : Line) → NoCycle graph → FirstCycle graph l → ⊥
some_cycle graph l none f = none f.unit f.number f.call f.cycle

-- the first line on which a call lies on a cycle is one
one_cycle : (graph : Graph) (l m : Line) → FirstCycle graph l → FirstCycle graph m → l ≡ m
one_cycle graph l m f g =
    let a : l.0 ≤ g.call.line.0 = f.first g.unit g.number g.call g.cycle in
    let b : m.0 ≤ f.call.line.0 = g.first f.unit f.number f.call f.cycle in
    let e : f.call.line.0 ≡ l.0 = ap (λ (x : Line). x.0) f.on_line in
    let h : g.call.line.0 ≡ m.0 = ap (λ (x : Line). x.0) g.on_line in
    same_line l m (omega (arith, a, b, e, h))

no_long : (graph : Graph) (b : Break) (units : List RawPou) → units ≡ [] → first_long_chain graph units ≡ Some b → ⊥
no_long graph b units e h = let f : first_long_chain graph [] ≡ Some b = subst (λ us. first_long_chain graph us ≡ Some b) e h in absurd cc

-- a chain of calls has one refusal; one without units has no calls
one_of_chain : (graph : Graph) (units : List RawPou) → (units ≡ [] → NoCycle graph)
    → (l m : Line) (q r : Reason) → BreaksChain graph units l q → BreaksChain graph units m r
    → (l ≡ m) × (q ≡ r)
one_of_chain graph units empty l m q r (cycle f) (cycle g) = (one_cycle graph l m f g, refl)
one_of_chain graph units empty l m q r (cycle f) (long none g) = absurd (some_cycle graph l none f)
one_of_chain graph units empty l m q r (cycle f) (no_unit e g) = absurd (some_cycle graph l (empty e) f)
one_of_chain graph units empty l m q r (long none f) (cycle g) = absurd (some_cycle graph m none g)
one_of_chain graph units empty l m q r (long none f) (long other g) = line_of (record { line = l; rule = q }) (record { line = m; rule = r }) (sym f ∙ g)
one_of_chain graph units empty l m q r (long none f) (no_unit e g) = absurd (no_long graph _ units e f)
one_of_chain graph units empty l m q r (no_unit e f) (cycle g) = absurd (some_cycle graph m (empty e) g)
one_of_chain graph units empty l m q r (no_unit e f) (long none g) = absurd (no_long graph _ units e g)
one_of_chain graph units empty l m q r (no_unit e f) (no_unit other g) = (same_line l m (f ∙ sym g), refl)

-- without units there is no call
no_calls : (raw : RawSt) → raw.pous ≡ [] → NoCycle (calls_in raw)
no_calls raw e = λ i k c o.
    let none : calls_in raw ≡ [] = ap (map (calls_of_unit (names_of raw) (map formals_of raw.pous))) e in
    let call : call_at [] i k ≡ Some c = subst (λ (g : Graph). call_at g i k ≡ Some c) none o.is_call in
    absurd cc

pub one_tree : OneTree
one_tree raw s t a b = a.same ∙ sym b.same

pub one_refusal : OneRefusal
one_refusal raw l m q r (named f) (named g) = line_of (record { line = l; rule = q }) (record { line = m; rule = r }) (sym f ∙ g)
one_refusal raw l m q r (named f) (chained e g) = let c : Some (record { line = l; rule = q }) ≡ None = sym f ∙ e in absurd cc
one_refusal raw l m q r (chained e f) (named g) = let c : Some (record { line = m; rule = r }) ≡ None = sym g ∙ e in absurd cc
one_refusal raw l m q r (chained e f) (chained h g) = one_of_chain (calls_in raw) raw.pous (no_calls raw) l m q r f g

chain_or_not : (graph : Graph) (units : List RawPou) (l : Line) (r : Reason) → IsChain graph units → BreaksChain graph units l r → ⊥
chain_or_not graph units l r s (cycle f) = some_cycle graph l s.no_cycle f
chain_or_not graph units l r s (long none f) = let c : Some (record { line = l; rule = r }) ≡ None = sym f ∙ s.short in absurd cc
chain_or_not graph units l r s (no_unit e f) = s.some e

pub not_both : NotBoth
not_both raw t l r a (named f) = let c : Some (record { line = l; rule = r }) ≡ None = sym f ∙ a.sound in absurd cc
not_both raw t l r a (chained e f) = chain_or_not (calls_in raw) raw.pous l r a.chain f
