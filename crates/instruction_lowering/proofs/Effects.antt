-- Each instruction that stands inside a node: its statements do what it does, and keep the open brackets.
use Rattle.nesting_stack.specs.Entries.{most_open}
use Rattle.std.proofs.Common.{◌≡◌, ◌≢◌, ℕ, suc, ◌+◌, ◌≤◌, Bool, true, false, if◌then◌else◌, List, [], ◌∷◌, length, Some, None, refl, sym, ap, subst, ◌∙◌, arith}
use Rattle.std.specs.Prelude.{nat_lt}
use Rattle.s7_base.specs.declared.check.Check.{Check}
use Rattle.s7_base.specs.declared.check.Entry.{Entry}
use Rattle.status_word.specs.StatusBits.{entry_of}
use Rattle.stl_tree.specs.Accepted.{HasOperand}
use Rattle.stl_tree.specs.Brackets.{WithNumber, after_bracket, closed_with, open_behind, push_bracket}
use Rattle.stl_tree.specs.Instructions.{effect_of}
use Rattle.stl_tree.specs.Now.{Now}
use Rattle.stl_tree.specs.declared.program.Block.{Block}
use Rattle.stl_tree.specs.declared.program.Op.{Op}
use Rattle.stl_tree.specs.declared.program.Op.TheVariants as op
use Rattle.st_tree.specs.Meaning.{Calls, body_meaning}
use Rattle.st_tree.specs.State.{State, own_of}
use Rattle.st_tree.specs.declared.program.Located.{Located}
use Rattle.bit_templates.proofs.Serving.{bit_logic}
use Rattle.bit_templates.specs.Brackets.{KeepBrackets, KeepsBracket, bracket_at, close_of}
use Rattle.bit_templates.specs.declared.chain.Chain.{Chain}
use Rattle.bit_templates.specs.declared.chain.OpenBracket.{OpenBracket}
use Rattle.template_parts.specs.DoesInstruction.{Leads}
use Rattle.template_parts.specs.Related.{Frames, Related}
use Rattle.instruction_lowering.specs.inner.Temporaries.{types_of}
use Rattle.instruction_lowering.specs.declared.statements.LoweringContext.{LoweringContext}
use Rattle.instruction_lowering.specs.inner.Templates.{context_after, close_innermost, more, outer_of, statements_of}
use Rattle.instruction_lowering.proofs.LeftBrackets.{IsStraight, brackets_left}
use Rattle.flow_laws.specs.Ways.{IsInside}
use Rattle.instruction_lowering.proofs.Does.{Does, does_instruction}
use Rattle.instruction_lowering.proofs.Serving.{serves}
use Rattle.instruction_lowering.proofs.Temporaries.{Keeps, as_many, kept_below}

-- an instruction is no call
abbrev pub IsNoCall : Op → Type 0
IsNoCall (op.Call c) = ⊥
IsNoCall (op.CallIf c) = ⊥
IsNoCall other = Unit {0}

-- an instruction may stand at a spot
abbrev pub CanStand : Op → LoweringContext → Type 0
CanStand o p = WithNumber (open_behind o (length p.brackets)) (λ n. Unit {0})

free : (b : Bool) (n : ℕ) → WithNumber (if b then Some (suc n) else None) (λ n. Unit {0}) → b ≡ true
free true n h = refl
free false n h = elim h [ ]

some_open : (brackets : List OpenBracket) → WithNumber (open_behind op.Close (length brackets)) (λ n. Unit {0}) → brackets ≢ []
some_open [] h e = elim h [ ]
some_open (o ∷ outer) h e = cc

-- the spot behind an instruction that opens and closes no bracket
pub straight_behind : (program : List Block) (o : Op) → IsStraight o → (p : LoweringContext) → context_after program o p ≡ more (types_of program o) p
straight_behind program (op.Bracket c) h p = elim h [ ]
straight_behind program op.Close h p = elim h [ ]
straight_behind program (op.Jump t to) h p = elim h [ ]
straight_behind program (op.Loop to) h p = elim h [ ]
straight_behind program (op.JumpList count label) h p = elim h [ ]
straight_behind program op.BlockEnd h p = elim h [ ]
straight_behind program op.BlockEndIf h p = elim h [ ]
straight_behind program (op.Call c) h p = elim h [ ]
straight_behind program (op.CallIf c) h p = elim h [ ]
straight_behind program o h p = refl

module _ (program : List Block) (g : List Located) (calls : Calls) (units : ℕ) (frames : Frames) (now : Now) (s : State)
    (related : Related frames now s) (total : ℕ) (p : LoweringContext) (keeps : Keeps total p now.brackets s.activations) where
  -- what an instruction's statements do at the spot
  abbrev DoesHere : Op → Type 0
  DoesHere o = Does (body_meaning g calls (statements_of program p o) units s) units total (context_after program o p) frames now.memory (effect_of o now)

  straight_does : (o : Op) → IsStraight o → HasOperand frames.formals o → (context_after program o p).used ≤ total → DoesHere o
  straight_does o straight h room =
      let e = straight_behind program o straight p in
      let used : (context_after program o p).used ≡ p.used + length (types_of program o) = ap (λ (q : LoweringContext). q.used) e in
      let long : length (own_of s.activations) ≡ total = keeps.0 in
      does_instruction (body_meaning g calls (statements_of program p o) units s) units total p
      (context_after program o p) frames s now.memory now.brackets (effect_of o now)
      (ap (λ (q : LoweringContext). q.brackets) e) (omega (arith, used)) (brackets_left now o straight) keeps
      ((serves program o straight p).does g calls units frames now s h related (omega (arith, used, long, room)))

  -- A bracket is opened

  -- there is room for one more
  pushes : (e : Entry) → nat_lt (length p.brackets) most_open ≡ true → push_bracket e now.brackets ≡ e ∷ now.brackets
  pushes e room =
      ap (λ n. if nat_lt n most_open then e ∷ now.brackets else now.brackets) (as_many p.used p.brackets now.brackets (own_of s.activations) keeps.1)
      ∙ ap (λ b. if b then e ∷ now.brackets else now.brackets) room

  open_does : (c : Check) → nat_lt (length p.brackets) most_open ≡ true → p.used + 3 ≤ total → DoesHere (op.Bracket c)
  open_does c free room =
      let long : length (own_of s.activations) ≡ total = keeps.0 in
      let opens = (bit_logic.opening c p.used).does g calls units frames now s related (omega (arith, long, room)) in
      let e : Entry = entry_of c now.registers.status in (
        opens.leads.to,
        opens.leads.goes,
        opens.leads.related,
        (
          opens.leads.as_many ∙ keeps.0,
          subst (λ (entries : List Entry). KeepBrackets (p.used + 3) (bracket_at p.used c ∷ p.brackets) entries (own_of opens.leads.to.activations))
              (sym (pushes e free)) (
                opens.keeps,
                kept_below p.used (p.used + 3) p.brackets now.brackets (own_of s.activations)
                    (own_of opens.leads.to.activations) (omega arith) opens.leads.below keeps.1,
              ),
        ),
      )

  -- One is closed

  close_effect : (o : OpenBracket) (e : Entry) (entries : List Entry) → now.brackets ≡ e ∷ entries → KeepsBracket p.used o e (own_of s.activations)
      → Leads (body_meaning g calls (close_of o) units s) units p.used frames s (after_bracket now)
  close_effect o e entries same k =
      subst
      (λ (chain : Chain). Leads (body_meaning g calls (close_of (record { check = o.check; kept = chain })) units s) units p.used frames s (after_bracket now))
      (sym k.kept)
      ((bit_logic.closing k.first o.check p.used k.below).does g calls units frames now s related e entries same
      (subst (λ (chain : Chain). KeepsBracket p.used (record { check = o.check; kept = chain }) e (own_of s.activations)) k.kept k))

  by_open : (brackets : List OpenBracket) (entries : List Entry) → p.brackets ≡ brackets
      → now.brackets ≡ entries → brackets ≢ [] → KeepBrackets p.used brackets entries (own_of s.activations)
      → DoesHere op.Close
  by_open [] entries e f some kept = absurd (some refl)
  by_open (o ∷ outer) [] e f some kept = elim kept [ ]
  by_open (o ∷ outer) (x ∷ entries) e f some kept =
      let row = close_effect o x entries f kept.0 in
      subst
      (λ (brackets : List OpenBracket). Does (body_meaning g calls (close_innermost brackets) units s) units total
      (record { used = p.used; brackets = outer_of brackets }) frames now.memory (effect_of op.Close now))
      (sym e) (
        row.to,
        row.goes,
        row.related,
        (
          row.as_many ∙ keeps.0,
          subst (λ (open_now : List Entry). KeepBrackets p.used outer open_now (own_of row.to.activations))
              (sym (ap (λ (es : List Entry). (closed_with es now).brackets) f))
              (kept_below p.used p.used outer entries (own_of s.activations) (own_of row.to.activations) (omega arith) row.below kept.1),
        ),
      )

  -- Each

  pub does : (o : Op) → IsInside o → IsNoCall o → HasOperand frames.formals o → CanStand o p → (context_after program o p).used ≤ total → DoesHere o
  does (op.Bracket c) inside straight operand stands room = open_does c (free (nat_lt (length p.brackets) most_open) (length p.brackets) stands) room
  does op.Close inside straight operand stands room =
      by_open p.brackets now.brackets refl refl (some_open p.brackets stands) keeps.1
  does (op.Jump t to) inside straight operand stands room = elim inside [ ]
  does (op.Loop to) inside straight operand stands room = elim inside [ ]
  does (op.JumpList count label) inside straight operand stands room = elim inside [ ]
  does op.BlockEnd inside straight operand stands room = elim inside [ ]
  does op.BlockEndIf inside straight operand stands room = elim inside [ ]
  does (op.Call c) inside straight operand stands room = elim straight [ ]
  does (op.CallIf c) inside straight operand stands room = elim straight [ ]
  does o inside straight operand stands room = straight_does o tt operand room
