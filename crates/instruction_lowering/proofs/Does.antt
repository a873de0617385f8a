-- What the statements of an instruction owe: from related states they lead to where its effect leads.
use Rattle.std.proofs.Common.{◌≡◌, ℕ, ◌≤◌, List, sym, subst, ◌∙◌}
use Rattle.memory_areas.specs.Areas.{Contents}
use Rattle.s7_base.specs.declared.check.Entry.{Entry}
use Rattle.stl_tree.specs.Now.{Effect, enter, fault, go, leave, next}
use Rattle.st_tree.specs.Meaning.{Out, Faults, Normal}
use Rattle.st_tree.specs.State.{State, own_of}
use Rattle.bit_templates.specs.Brackets.{KeepBrackets}
use Rattle.bit_templates.specs.declared.chain.OpenBracket.{OpenBracket}
use Rattle.template_parts.specs.DoesInstruction.{DoesInstruction}
use Rattle.template_parts.specs.Related.{Frames, Related}
use Rattle.instruction_lowering.specs.declared.statements.LoweringContext.{LoweringContext}
use Rattle.instruction_lowering.proofs.LeftBrackets.{LeavesBrackets}
use Rattle.instruction_lowering.proofs.Temporaries.{Keeps, kept_below}

-- how its statements ended that began with these units and this memory: in a state that is related to the one
-- after the instruction and keeps the brackets that are open at the spot behind it, with no unit taken; or by the
-- same fault, with the areas of the memory as they were
abbrev pub Does : Out → ℕ → ℕ → LoweringContext → Frames → Contents → Effect → Type 0
Does ended units total p frames memory (next after) =
    (t : State) × (ended ≡ Normal units t) × Related frames after t × Keeps total p after.brackets t.activations
Does ended units total p frames memory (fault f) = (t : State) × (ended ≡ Faults f t) × (t.memory.areas ≡ memory.areas)
Does ended units total p frames memory (go to after) = ⊥
Does ended units total p frames memory (enter call after) = ⊥
Does ended units total p frames memory (leave after) = ⊥

-- Instructions that open and close no bracket

-- what it does, its statements do at any spot with the same brackets before and behind
pub does_instruction : (ended : Out) (units total : ℕ) (p q : LoweringContext)
    (frames : Frames) (s : State) (memory : Contents) (entries : List Entry) (effect : Effect)
    → q.brackets ≡ p.brackets → p.used ≤ q.used → LeavesBrackets entries effect → Keeps total p entries s.activations
    → DoesInstruction ended units p.used frames s memory effect → Does ended units total q frames memory effect
does_instruction ended units total p q frames s memory entries (next after) same more left keeps row = (
  row.to,
  row.goes,
  row.related,
  (
    row.as_many ∙ keeps.0,
    subst (λ (open_now : List Entry). KeepBrackets q.used q.brackets open_now (own_of row.to.activations)) (sym left)
        (subst (λ (brackets : List OpenBracket). KeepBrackets q.used brackets entries (own_of row.to.activations)) (sym same)
        (kept_below p.used q.used p.brackets entries (own_of s.activations) (own_of row.to.activations) more row.below keeps.1)),
  ),
)
does_instruction ended units total p q frames s memory entries (fault f) same more left keeps row = (row.at, row.stops, row.areas)
does_instruction ended units total p q frames s memory entries (go to after) same more left keeps row = elim row [ ]
does_instruction ended units total p q frames s memory entries (enter call after) same more left keeps row = elim row [ ]
does_instruction ended units total p q frames s memory entries (leave after) same more left keeps row = elim row [ ]
