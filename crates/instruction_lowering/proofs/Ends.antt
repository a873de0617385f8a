-- What is seen of the ends of a program's run and of its graph's, and what follows a unit.
use Rattle.std.proofs.Common.{◌≡◌, ℕ, Option, Some, refl, sym, ap, ◌∙◌}
use Rattle.memory_areas.specs.Areas.{Areas}
use Rattle.memory_areas.specs.End.{End, Ended, Going}
use Rattle.s7_base.specs.declared.outcome.Fault.{Fault}
use Rattle.st_tree.specs.Calls.{after_unit, left}
use Rattle.st_tree.specs.Meaning.{Continues, Exits, Faults, NoUnits, Normal, Out, Returns, Sem, then_do}
use Rattle.st_tree.specs.State.{State}
use Rattle.instruction_lowering.proofs.Bounds.{IsBack, IsForth, Side, back, forth}

-- one side sees what the other has ended with: e is the program's end, t the graph's
abbrev pub Sees : Side → End → End → Type 0
Sees forth e t = (after : Areas) (f : Option Fault) → e ≡ Ended after f → t ≡ Ended after f
Sees back e t = (after : Areas) (f : Option Fault) → t ≡ Ended after f → e ≡ Ended after f

pub both_end : (side : Side) (e t : End) → e ≡ t → Sees side e t
both_end forth e t same = λ after f ended. sym same ∙ ended
both_end back e t same = λ after f ended. same ∙ ended

-- a side that has not ended says nothing
pub none_forth : (side : Side) (t : End) → IsForth side → Sees side Going t
none_forth forth t h = λ after f ended. cc
none_forth back t h = elim h [ ]

pub none_back : (side : Side) (e : End) → IsBack side → Sees side e Going
none_back forth e h = elim h [ ]
none_back back e h = λ after f ended. cc

-- what follows the end of a unit, which RETURN leads to as well, and EXIT and CONTINUE, which stand in loops alone
abbrev pub through : Out → (ℕ → State → End) → End
through (Normal units s) k = k units s
through (Exits units s) k = k units s
through (Continues units s) k = k units s
through (Returns units s) k = k units s
through (Faults f s) k = Ended s.memory.areas (Some f)
through (NoUnits s) k = Going

-- what follows a called unit: what stands behind the call, then the rest of the node, then what follows that
abbrev pub behind_call : Sem → Sem → (ℕ → State → End) → ℕ → State → End
behind_call more rest k units t = through (then_do (more units (left t)) rest) k

pub through_call : (o : Out) (more rest : Sem) (k : ℕ → State → End)
    → through (then_do (then_do (after_unit o) more) rest) k ≡ through o (behind_call more rest k)
through_call (Normal units s) more rest k = refl
through_call (Exits units s) more rest k = refl
through_call (Continues units s) more rest k = refl
through_call (Returns units s) more rest k = refl
through_call (Faults f s) more rest k = refl
through_call (NoUnits s) more rest k = refl
