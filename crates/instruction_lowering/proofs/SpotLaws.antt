-- What is known at a spot: the instructions that are left of a block, the locals that they use, and the open brackets.
use Rattle.nesting_stack.specs.Entries.{most_open}
use Rattle.std.proofs.Common.{◌≡◌, ℕ, zero, suc, ◌+◌, ◌≤◌, Bool, true, false, if◌then◌else◌, List, [], ◌∷◌, ◌++◌, length, Option, Some, None, refl, ap, ◌∙◌, subst, arith}
use Rattle.std.specs.Prelude.{nat_lt, slice_get}
use Rattle.std.proofs.lemmas.List.{length-append}
use Rattle.flow_graph.specs.Graphs.{BeginsAt}
use Rattle.flow_graph.specs.declared.graph.Exit.{Exit}
use Rattle.flow_graph.specs.declared.graph.Node.{Node}
use Rattle.flow_laws.specs.Ways.{AreListedTo, GoesBy, HasFrom, IsInside}
use Rattle.s7_base.specs.declared.check.Entry.{Entry}
use Rattle.stl_tree.specs.Accepted.{HasOperand, Widths}
use Rattle.stl_tree.specs.Brackets.{WithNumber, none_open, open_behind}
use Rattle.stl_tree.specs.declared.program.Block.{Block}
use Rattle.stl_tree.specs.declared.program.Instr.{Instr}
use Rattle.stl_tree.specs.declared.program.JumpTest.TheVariants as jump
use Rattle.stl_tree.specs.declared.program.Op.{Op}
use Rattle.stl_tree.specs.declared.program.Op.TheVariants as op
use Rattle.instruction_lowering.specs.inner.Temporaries.{types_in, types_of}
use Rattle.instruction_lowering.specs.inner.Lowering.{steps_of, used_behind}
use Rattle.instruction_lowering.specs.inner.Templates.{context_after, outer_of, statements_of}
use Rattle.bit_templates.specs.declared.chain.OpenBracket.{OpenBracket}
use Rattle.instruction_lowering.specs.declared.statements.LoweringContext.{LoweringContext}

-- Bodies

pub has_first : (body : List Instr) (at : ℕ) (i : Instr) (is : List Instr) → HasFrom body at (i ∷ is) → slice_get body at ≡ Some i
has_first body at i is has = let e : at ≡ at + 0 = omega arith in ap (slice_get body) e ∙ has 0 i refl

pub has_rest : (body : List Instr) (at : ℕ) (i : Instr) (is : List Instr) → HasFrom body at (i ∷ is) → HasFrom body (at + 1) is
has_rest body at i is has j x there = let e : at + 1 + j ≡ at + suc j = omega arith in ap (slice_get body) e ∙ has (suc j) x there

-- Spots

abbrev pub HasItsOperand : Widths → Instr → Type 0
HasItsOperand formals i = HasOperand formals i.op

-- an instruction takes as many temporaries as it has types of them
pub used_behind_one : (program : List Block) (o : Op) (q : LoweringContext) → (context_after program o q).used ≡ q.used + length (types_of program o)
used_behind_one program (op.Bracket c) q = refl
used_behind_one program op.Close q = omega arith
used_behind_one program o q = refl

pub more_used : (program : List Block) (o : Op) (q : LoweringContext) → q.used ≤ (context_after program o q).used
more_used program o q = let e : (context_after program o q).used ≡ q.used + length (types_of program o) = used_behind_one program o q in omega arith

-- and so do those of a body
pub used_behind_all : (program : List Block) (is : List Instr) (q : LoweringContext) → used_behind program q is ≡ q.used + length (types_in program is)
used_behind_all program [] q = omega arith
used_behind_all program (i ∷ is) q =
    let one : (context_after program i.op q).used ≡ q.used + length (types_of program i.op) = used_behind_one program i.op q in
    let all : used_behind program (context_after program i.op q) is ≡ (context_after program i.op q).used + length (types_in program is) =
    used_behind_all program is (context_after program i.op q) in
    omega (arith, length-append (types_of program i.op) (types_in program is))

pub used_grows : (program : List Block) (is : List Instr) (q : LoweringContext) → q.used ≤ used_behind program q is
used_grows program is q = let e : used_behind program q is ≡ q.used + length (types_in program is) = used_behind_all program is q in omega arith

closed_behind : (P : ℕ → Type 0) (n : ℕ) → WithNumber (none_open n) P → P n
closed_behind P zero h = h
closed_behind P (suc n) h = elim h [ ]

-- what holds of the brackets behind an instruction
pub nested_behind : (program : List Block) (P : ℕ → Type 0) (o : Op) (q : LoweringContext)
    → WithNumber (open_behind o (length q.brackets)) P → P (length (context_after program o q).brackets)
nested_behind program P (op.Bracket c) q h = by (nat_lt (length q.brackets) most_open) h
  where
    by : (b : Bool) → WithNumber (if b then Some (suc (length q.brackets)) else None) P → P (suc (length q.brackets))
    by true h = h
    by false h = elim h [ ]
nested_behind program P op.Close q h = by q.brackets h
  where
    by : (brackets : List OpenBracket) → WithNumber (open_behind op.Close (length brackets)) P → P (length (outer_of brackets))
    by [] h = elim h [ ]
    by (o ∷ outer) h = h
nested_behind program P op.BlockEnd q h = closed_behind P (length q.brackets) h
nested_behind program P op.BlockEndIf q h = closed_behind P (length q.brackets) h
nested_behind program P (op.Jump t to) q h = closed_behind P (length q.brackets) h
nested_behind program P (op.Loop to) q h = closed_behind P (length q.brackets) h
nested_behind program P (op.JumpList count label) q h = closed_behind P (length q.brackets) h
nested_behind program P (op.Call c) q h = closed_behind P (length q.brackets) h
nested_behind program P (op.CallIf c) q h = closed_behind P (length q.brackets) h
nested_behind program P o q h = h

pub can_stand : (P : ℕ → Type 0) (n : Option ℕ) → WithNumber n P → WithNumber n (λ n. Unit {0})
can_stand P None h = h
can_stand P (Some n) h = tt

-- none is open at a jump
pub none_there : (P : ℕ → Type 0) (n : ℕ) → WithNumber (none_open n) P → n ≡ 0
none_there P zero h = refl
none_there P (suc n) h = elim h [ ]

pub no_entries : (entries : List Entry) → length entries ≡ 0 → entries ≡ []
no_entries [] e = refl
no_entries (x ∷ entries) e = cc

-- how an instruction inside a block goes on
pub goes_later : (blocks : List Node) (i at : ℕ) (o : Op) (rest : List Instr) (exit : Exit) (later : Type 0) → IsInside o
    → GoesBy blocks i at o rest exit later → later
goes_later blocks i at op.BlockEnd rest exit later inside h = elim inside [ ]
goes_later blocks i at op.BlockEndIf rest exit later inside h = elim inside [ ]
goes_later blocks i at (op.Jump t to) rest exit later inside h = elim inside [ ]
goes_later blocks i at (op.Loop to) rest exit later inside h = elim inside [ ]
goes_later blocks i at (op.JumpList count label) rest exit later inside h = elim inside [ ]
goes_later blocks i at o rest exit later inside h = h

-- the instruction of a number in a jump list, and the node to which it leads
pub record Listed (blocks : List Node) (is : List Instr) (n j : ℕ) : Type 0 where
  pub to : ℕ
  pub instr : Instr
  pub there : slice_get is n ≡ Some instr
  pub is_jump : instr.op ≡ op.Jump jump.Always to
  pub begins : BeginsAt blocks j to

pub listed_at : (blocks : List Node) (is : List Instr) (js : List ℕ) (n j : ℕ) → AreListedTo blocks is js → slice_get js n ≡ Some j → Listed blocks is n j
listed_at blocks [] [] n j h e = cc
listed_at blocks [] (k ∷ js) n j h e = elim h [ ]
listed_at blocks (i ∷ is) [] n j h e = elim h [ ]
listed_at blocks (i ∷ is) (k ∷ js) zero j h e =
    let same : k ≡ j = cc in
    record { to = h.0.0; instr = i; there = refl; is_jump = h.0.1; begins = subst (λ (m : ℕ). BeginsAt blocks m h.0.0) same h.0.2 }
listed_at blocks (i ∷ is) (k ∷ js) (suc n) j h e =
    let found = listed_at blocks is js n j h.1 e in
    record { to = found.to; instr = found.instr; there = found.there; is_jump = found.is_jump; begins = found.begins }

pub as_many_listed : (blocks : List Node) (is : List Instr) (js : List ℕ) → AreListedTo blocks is js → length is ≡ length js
as_many_listed blocks [] [] h = refl
as_many_listed blocks [] (j ∷ js) h = elim h [ ]
as_many_listed blocks (i ∷ is) [] h = elim h [ ]
as_many_listed blocks (i ∷ is) (j ∷ js) h = ap suc (as_many_listed blocks is js h.1)

-- the JU of a list have no statements and no locals
pub no_steps : (program : List Block) (blocks : List Node) (q : LoweringContext) (is : List Instr) (js : List ℕ)
    → AreListedTo blocks is js → steps_of program q is ≡ []
no_steps program blocks q [] [] h = refl
no_steps program blocks q [] (j ∷ js) h = elim h [ ]
no_steps program blocks q (i ∷ is) [] h = elim h [ ]
no_steps program blocks q (i ∷ is) (j ∷ js) h =
    ap (λ (o : Op). statements_of program q o ++ steps_of program (context_after program i.op q) is) h.0.1
    ∙ no_steps program blocks (context_after program i.op q) is js h.1

pub no_locals_used : (program : List Block) (blocks : List Node) (q : LoweringContext) (is : List Instr) (js : List ℕ)
    → AreListedTo blocks is js → used_behind program q is ≡ q.used
no_locals_used program blocks q [] [] h = refl
no_locals_used program blocks q [] (j ∷ js) h = elim h [ ]
no_locals_used program blocks q (i ∷ is) [] h = elim h [ ]
no_locals_used program blocks q (i ∷ is) (j ∷ js) h =
    let one : (context_after program i.op q).used ≡ q.used + 0 = ap (λ (o : Op). (context_after program o q).used) h.0.1 in
    let others : used_behind program (context_after program i.op q) is ≡ (context_after program i.op q).used =
    no_locals_used program blocks (context_after program i.op q) is js h.1 in
    omega arith

pub not_listed : (js : List ℕ) (v : ℕ) → slice_get js v ≡ None → length js ≤ v
not_listed [] v e = omega arith
not_listed (j ∷ js) zero e = cc
not_listed (j ∷ js) (suc v) e = let l : length js ≤ v = not_listed js v e in omega arith
