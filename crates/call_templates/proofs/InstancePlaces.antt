-- The places of the actuals of a function block, as its call found them.
use Rattle.std.proofs.Common.{◌≡◌, ℕ, zero, suc, ◌+◌, ◌<◌, ◌≤◌, Bool, true, List, [], ◌∷◌, length, Option, Some, None, Result, Ok, Err, refl, sym, ap, subst, ◌∙◌, arith}
use Rattle.call_templates.proofs.Given.{formal_place_is, place_named}
use Rattle.memory_areas.specs.Access.{aim_of_place, and_then, area_named, fault_of, unless}
use Rattle.memory_areas.specs.Areas.{Contents, fresh}
use Rattle.memory_areas.specs.declared.data_block.DataBlock.{DataBlock}
use Rattle.memory_areas.specs.declared.place.Area.{Area}
use Rattle.memory_areas.specs.declared.place.Area.TheVariants as area
use Rattle.memory_areas.specs.declared.place.AreaName.{AreaName}
use Rattle.memory_areas.specs.declared.place.AreaName.TheVariants as name
use Rattle.memory_areas.specs.declared.place.Place.{Place}
use Rattle.s7_base.specs.declared.outcome.Fault.{Fault}
use Rattle.s7_base.specs.declared.word.Width.{Width}
use Rattle.s7_base.specs.declared.word.Width.TheVariants as width
use Rattle.stl_tree.specs.Accepted.{AreActuals, IsActual, IsOperand, is_written}
use Rattle.stl_tree.specs.Calls.{actual_place, actual_places, cell_of, given_place}
use Rattle.stl_tree.specs.Now.{Now, depth}
use Rattle.stl_tree.specs.Operands.{OperandPlace}
use Rattle.stl_tree.specs.declared.program.Actual.{Actual}
use Rattle.stl_tree.specs.declared.program.Actual.TheVariants as actual
use Rattle.stl_tree.specs.declared.program.Formal.{Formal}
use Rattle.stl_tree.specs.declared.program.Operand.{Operand}
use Rattle.stl_tree.specs.declared.program.Operand.TheVariants as operand
use Rattle.st_tree.specs.State.{State, read_place}
use Rattle.st_tree.specs.Values.{type_of_width}
use Rattle.st_tree.specs.declared.program.Located.{Located}
use Rattle.st_tree.specs.declared.state.Reference.{Reference}
use Rattle.st_tree.specs.declared.state.Reference.TheVariants as reference
use Rattle.st_tree.specs.declared.state.Value.{Value}
use Rattle.template_parts.proofs.Alike.{as_deep_as, as_many_wait}
use Rattle.template_parts.proofs.Constants.{constant_held}
use Rattle.template_parts.proofs.Putting.{formal, formal_found}
use Rattle.template_parts.specs.Related.{Constant, Frames, IsReached, Related, StandForSame, Waiting, constant_at}

-- an area is none of the local data and cells of an activation, or of one after it
abbrev pub IsBefore : ℕ → Area → Type 0
IsBefore depth (area.Local d) = d < depth
IsBefore depth (area.Cell d) = d < depth
IsBefore depth a = Unit {0}

-- a place that a call found for an operand of a width: an access to it has no fault
pub record IsFound (depth : ℕ) (dbs : List DataBlock) (w : Width) (p : Place) : Type 0 where
  pub old : IsBefore depth p.area
  pub lies : fault_of (aim_of_place p) w (fresh dbs) ≡ None

-- what was read has no fault
unfaulted : {A B C : Type 0} (o : Option Fault) (x : A) (f : A → B) (h : B → C) (v : C)
    → ◌≡◌ {A = Result C Fault} (and_then (and_then (unless o x) (λ b. Ok (f b))) (λ c. Ok (h c))) (Ok v) → o ≡ None
unfaulted None x f h v e = refl
unfaulted (Some y) x f h v e = cc

pub no_fault : (w : Width) (p : Place) (m : Contents) (v : Value) → read_place (type_of_width w) p m ≡ Ok v → fault_of (aim_of_place p) w m ≡ None
no_fault width.Bit p m v e = unfaulted (fault_of (aim_of_place p) width.Bit m) _ _ _ v e
no_fault width.Byte p m v e = unfaulted (fault_of (aim_of_place p) width.Byte m) _ _ _ v e
no_fault width.Word p m v e = unfaulted (fault_of (aim_of_place p) width.Word m) _ _ _ v e
no_fault width.Dword p m v e = unfaulted (fault_of (aim_of_place p) width.Dword m) _ _ _ v e

reached_before : (d depth : ℕ) (a : Area) → d ≤ depth → IsReached d a → IsBefore depth a
reached_before d depth area.I less h = tt
reached_before d depth area.Q less h = tt
reached_before d depth area.M less h = tt
reached_before d depth (area.Db n) less h = tt
reached_before d depth (area.Local n) less h = omega arith
reached_before d depth (area.Cell n) less h = elim h [ ]

-- a unit that has a constant waits
constant_waits : (waiting : List Waiting) (d k : ℕ) (c : Constant) → constant_at waiting d k ≡ Some c → d < length waiting
constant_waits [] d k c e = cc
constant_waits (x ∷ waiting) zero k c e = omega arith
constant_waits (x ∷ waiting) (suc d) k c e = let rest : d < length waiting = constant_waits waiting d k c e in omega arith

named_before : (a : AreaName) (db di activation depth : ℕ) → activation < depth → IsBefore depth (area_named a db di activation)
named_before name.I db di activation depth h = tt
named_before name.Q db di activation depth h = tt
named_before name.M db di activation depth h = tt
named_before name.L db di activation depth h = h
named_before name.Db db di activation depth h = tt
named_before name.Di db di activation depth h = tt

module _ (g : List Located) (frames : Frames) (now : Now) (s : State) (related : Related frames now s) where
  abbrev deep : ℕ
  deep = length now.activations

  one_deeper : deep ≡ suc (length frames.waiting)
  one_deeper = ap length related.blocks ∙ sym related.depth

  -- a written operand has the place that it names, or the fault of an access to that
  pub record IsNamed (w : Width) (o : Operand) : Type 0 where
    pub given : given_place w o now ≡ unless (fault_of (aim_of_place (place_named o now)) w now.memory) (Some (place_named o now))
    pub old : IsBefore deep (place_named o now).area

  formal_before : (w : Width) (p : Place) (r : Reference) → StandForSame frames.waiting frames.dbs w p r → IsBefore deep p.area
  formal_before w p (reference.Register q) h = elim h [ ]
  formal_before w p (reference.Place q ty) h = reached_before (length frames.waiting) deep p.area (omega (arith, one_deeper)) h.2.reached
  formal_before w p (reference.Local d i) h =
      let c : Constant = record { local = i; width = w } in
      let inside : d < length frames.waiting = constant_waits frames.waiting d h.position c h.local in
      let less : suc d < deep = omega (arith, one_deeper) in
      subst (λ (q : Place). IsBefore deep q.area) (sym h.cell) less

  formal_lies : (w : Width) (p : Place) (r : Reference) → StandForSame frames.waiting frames.dbs w p r → fault_of (aim_of_place p) w now.memory ≡ None
  formal_lies w p (reference.Register q) h = elim h [ ]
  formal_lies w p (reference.Place q ty) h = related.faults (aim_of_place p) w ∙ h.2.lies
  formal_lies w p (reference.Local d i) h =
      let c : Constant = record { local = i; width = w } in
      let holds = constant_held now.memory frames.waiting related.units d h.position c related.wait h.local in
      no_fault w p now.memory holds.0 (ap (λ (q : Place). read_place (type_of_width w) q now.memory) h.cell ∙ holds.2)

  pub operand_named : (o : Operand) (w : Width) → is_written o ≡ true → IsOperand frames.formals w o → IsNamed w o
  operand_named (operand.Direct a byte x) w written is =
      let at : depth now.activations ≡ length frames.waiting = sym (as_deep_as frames now s related) ∙ as_many_wait frames now s related in
      record {
        given = refl;
        old = named_before a now.registers.db now.registers.di (depth now.activations) deep (omega (arith, one_deeper));
      }
  operand_named (operand.Opened n byte x) w written is = record { given = refl; old = tt }
  operand_named (operand.Formal k) w written is =
      let known = formal g frames now s related k w is in
      let same = formal_place_is g frames now s related k w is in
      record {
        given =
            ap (λ (r : Result OperandPlace Fault). and_then r (λ f. Ok (Some f.place))) (formal_found g frames now s related k w is)
            ∙ ap (λ (f : Option Fault). unless f (Some known.place)) (sym (formal_lies w known.place known.reference known.same))
            ∙ ap (λ (p : Place). unless (fault_of (aim_of_place p) w now.memory) (Some p)) (sym same);
        old = subst (λ (p : Place). IsBefore deep p.area) (sym same) (formal_before w known.place known.reference known.same);
      }
  operand_named o w written is = cc

-- The places that a call found

-- those of some formals, from the one at a position on
abbrev pub ArePlaced : ℕ → List DataBlock → Now → ℕ → List Formal → List Actual → List (Option Place) → Type 0
ArePlaced depth dbs now k [] [] [] = Unit {0}
ArePlaced depth dbs now k (f ∷ formals) (actual.Missing ∷ actuals) (None ∷ places) = ArePlaced depth dbs now (k + 1) formals actuals places
ArePlaced depth dbs now k (f ∷ formals) (actual.Constant c ∷ actuals) (Some p ∷ places) =
    (p ≡ cell_of depth k) × ArePlaced depth dbs now (k + 1) formals actuals places
ArePlaced depth dbs now k (f ∷ formals) (actual.At o ∷ actuals) (Some p ∷ places) =
    (p ≡ place_named o now) × IsFound depth dbs f.width p × ArePlaced depth dbs now (k + 1) formals actuals places
ArePlaced depth dbs now k formals actuals places = ⊥

module _ (g : List Located) (frames : Frames) (now : Now) (s : State) (related : Related frames now s) where
  abbrev Placed : ℕ → List Formal → List Actual → List (Option Place) → Type 0
  Placed = ArePlaced (length now.activations) frames.dbs now

  named_given : (o : Operand) (w : Width) (r : Option Place) → IsNamed g frames now s related w o → given_place w o now ≡ Ok r
      → (r ≡ Some (place_named o now)) × IsFound (length now.activations) frames.dbs w (place_named o now)
  named_given o w r h e = by (fault_of (aim_of_place (place_named o now)) w now.memory) refl (sym h.given ∙ e)
    where
      by : (f : Option Fault) → fault_of (aim_of_place (place_named o now)) w now.memory ≡ f
          → ◌≡◌ {A = Result (Option Place) Fault} (unless f (Some (place_named o now))) (Ok r)
          → (r ≡ Some (place_named o now)) × IsFound (length now.activations) frames.dbs w (place_named o now)
      by None same e = (cc, record { old = h.old; lies = sym (related.faults (aim_of_place (place_named o now)) w) ∙ same })
      by (Some f) same e = cc

  -- where a call finds all of them, they are placed so
  pub all_placed : (optional : Bool) (formals : List Formal) (actuals : List Actual) (k : ℕ) (places : List (Option Place))
      → AreActuals frames.formals optional formals actuals → actual_places (length now.activations) k formals actuals now ≡ Ok places
      → Placed k formals actuals places
  all_placed optional [] [] k places are e = let none : places ≡ [] = cc in subst (Placed k [] []) (sym none) tt
  all_placed optional [] (a ∷ actuals) k places are e = absurd are
  all_placed optional (f ∷ formals) [] k places are e = absurd are
  all_placed optional (f ∷ formals) (a ∷ actuals) k places are e =
      one (actual_place (length now.activations) k f.width a now) refl (actual_places (length now.activations) (k + 1) formals actuals now) refl
      (λ ps others. all_placed optional formals actuals (k + 1) ps are.1 others) e
    where
      at : (a : Actual) → IsActual frames.formals optional f a → (p : Option Place) (ps : List (Option Place))
          → actual_place (length now.activations) k f.width a now ≡ Ok p → Placed (k + 1) formals actuals ps
          → Placed k (f ∷ formals) (a ∷ actuals) (p ∷ ps)
      at actual.Missing is p ps e rest =
          let none : p ≡ None = cc in subst (λ (q : Option Place). Placed k (f ∷ formals) (actual.Missing ∷ actuals) (q ∷ ps)) (sym none) rest
      at (actual.Constant c) is p ps e rest =
          let some : p ≡ Some (cell_of (length now.activations) k) = cc in
          subst (λ (q : Option Place). Placed k (f ∷ formals) (actual.Constant c ∷ actuals) (q ∷ ps)) (sym some) (refl, rest)
      at (actual.At o) is p ps e rest =
          let found = named_given o f.width p (operand_named g frames now s related o f.width is.0 is.1) e in
          subst (λ (q : Option Place). Placed k (f ∷ formals) (actual.At o ∷ actuals) (q ∷ ps)) (sym found.0) (refl, found.1, rest)

      one : (r : Result (Option Place) Fault) → actual_place (length now.activations) k f.width a now ≡ r
          → (rs : Result (List (Option Place)) Fault) → actual_places (length now.activations) (k + 1) formals actuals now ≡ rs
          → ((ps : List (Option Place)) → actual_places (length now.activations) (k + 1) formals actuals now ≡ Ok ps → Placed (k + 1) formals actuals ps)
          → and_then r (λ p. and_then rs (λ ps. Ok (p ∷ ps))) ≡ Ok places → Placed k (f ∷ formals) (a ∷ actuals) places
      one (Ok p) first (Ok ps) others later e =
          let same : p ∷ ps ≡ places = cc in
          subst (Placed k (f ∷ formals) (a ∷ actuals)) same (at a are.0 p ps first (later ps others))
      one (Ok p) first (Err x) others later e = cc
      one (Err x) first rs others later e = cc
