-- Opening and closing a bracket. What that does to the state, and where brackets may be in a body.
-- Held against: the manual's chapter 'Bit Logic'.
use Rattle.std.specs.Prelude.{ℕ, zero, suc, nat_lt, if◌then◌else◌, List, [], ◌∷◌, length, Option, Some, None}
use Rattle.s7_base.specs.declared.check.Check.{Check}
use Rattle.s7_base.specs.declared.check.Entry.{Entry}
use Rattle.nesting_stack.specs.Entries.{most_open}
use Rattle.status_word.specs.StatusBits.{after_close, after_open, entry_of}
use Rattle.stl_tree.specs.Now.{Now, with_status}
use Rattle.stl_tree.specs.declared.program.Instr.{Instr}
use Rattle.stl_tree.specs.declared.program.Op.{Op}
use Rattle.stl_tree.specs.declared.program.Op.TheVariants as op

-- the open brackets with one more, where there is room for it
abbrev pub push_bracket : Entry → List Entry → List Entry
push_bracket e entries = if nat_lt (length entries) most_open then e ∷ entries else entries

-- the state in a bracket of a check
abbrev pub in_bracket_of : Check → Now → Now
in_bracket_of c now =
    with_status after_open (record now { brackets = push_bracket (entry_of c now.registers.status) now.brackets })

-- the state after a bracket is closed, given those that are open
abbrev pub closed_with : List Entry → Now → Now
closed_with [] now = now
closed_with (e ∷ outer) now = with_status (after_close e) (record now { brackets = outer })

-- the state after the innermost open bracket is closed
abbrev pub after_bracket : Now → Now
after_bracket now = closed_with now.brackets now

-- none is open where this many are
abbrev pub none_open : ℕ → Option ℕ
none_open zero = Some 0
none_open (suc n) = None

-- how many brackets are open after an instruction before which this many are, where it may be there: a bracket opens
-- where there is room for one, one closes where one is open, and none is open at a jump, at a call
-- and at the end of a block
abbrev pub open_behind : Op → ℕ → Option ℕ
open_behind (op.Bracket c) n = if nat_lt n most_open then Some (suc n) else None
open_behind op.Close zero = None
open_behind op.Close (suc n) = Some n
open_behind (op.Jump t to) n = none_open n
open_behind (op.Loop to) n = none_open n
open_behind (op.JumpList count label) n = none_open n
open_behind op.BlockEnd n = none_open n
open_behind op.BlockEndIf n = none_open n
open_behind (op.Call c) n = none_open n
open_behind (op.CallIf c) n = none_open n
open_behind (op.Check c b) n = Some n
open_behind op.OrAlone n = Some n
open_behind (op.Assign o) n = Some n
open_behind (op.Set o) n = Some n
open_behind (op.Reset o) n = Some n
open_behind op.SetRlo n = Some n
open_behind op.ClearRlo n = Some n
open_behind op.NotRlo n = Some n
open_behind op.Save n = Some n
open_behind (op.EdgeUp o) n = Some n
open_behind (op.EdgeDown o) n = Some n
open_behind (op.Load a) n = Some n
open_behind (op.Transfer o w) n = Some n
open_behind op.LoadStw n = Some n
open_behind op.TransferStw n = Some n
open_behind op.LoadDbNo n = Some n
open_behind op.LoadDiNo n = Some n
open_behind (op.Arith a) n = Some n
open_behind (op.AddWord k) n = Some n
open_behind (op.AddDword k) n = Some n
open_behind (op.Inc k) n = Some n
open_behind (op.Dec k) n = Some n
open_behind (op.Compare t w) n = Some n
open_behind (op.Shift s count) n = Some n
open_behind op.Rlda n = Some n
open_behind op.Rrda n = Some n
open_behind (op.Logic l c) n = Some n
open_behind (op.Unary u) n = Some n
open_behind op.Tak n = Some n
open_behind op.Push n = Some n
open_behind op.Pop n = Some n
open_behind (op.LoadAr a from) n = Some n
open_behind (op.StoreAr a to) n = Some n
open_behind op.ExchangeAr n = Some n
open_behind (op.AddAr a amount) n = Some n
open_behind (op.OpenDb d) n = Some n
open_behind (op.OpenDi d) n = Some n
open_behind op.ExchangeDb n = Some n
open_behind op.Nop n = Some n

-- a property of a number, which must exist
abbrev pub WithNumber : Option ℕ → (ℕ → Type 0) → Type 0
WithNumber None P = ⊥
WithNumber (Some n) P = P n

-- each instruction may be at its place, this many brackets being open before the first
abbrev pub AreNested : List Instr → ℕ → Type 0
AreNested [] n = Unit {0}
AreNested (i ∷ rest) n = WithNumber (open_behind i.op n) (AreNested rest)
