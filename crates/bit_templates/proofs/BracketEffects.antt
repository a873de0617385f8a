-- Brackets: what their statements do, and keep.
use Rattle.std.proofs.Common.{◌≡◌, ℕ, pos, ◌+◌, ◌<◌, ◌≤◌, Bool, true, false, List, [], ◌∷◌, length, Some, Ok, refl, sym, ap, ◌∙◌, subst, arith}
use Rattle.std.specs.Prelude.{ℤ, slice_get, slice_set}
use Rattle.status_word.specs.StatusBits.{StatusBits, after_close, after_open, entry_of, orb_after, with_bracket_entry, rlo_after}
use Rattle.s7_base.specs.declared.check.Check.{Check}
use Rattle.s7_base.specs.declared.check.Check.TheVariants as check
use Rattle.s7_base.specs.declared.check.Entry.{Entry}
use Rattle.s7_base.specs.declared.register.Reg.{Reg}
use Rattle.s7_base.specs.declared.register.Reg.TheVariants as reg
use Rattle.stl_tree.specs.Brackets.{closed_with, push_bracket}
use Rattle.stl_tree.specs.Instructions.{effect_of}
use Rattle.stl_tree.specs.Now.{Now, next, with_status}
use Rattle.stl_tree.specs.declared.program.Op.TheVariants as op
use Rattle.st_tree.specs.Meaning.{Calls, Normal, body_meaning}
use Rattle.st_tree.specs.State.{State, own_of, type_of_register, with_register}
use Rattle.st_tree.specs.Value.{value}
use Rattle.st_tree.specs.declared.state.Value.{Value}
use Rattle.st_tree.specs.Values.{flag, number_of}
use Rattle.st_tree.specs.declared.expr.Expr.TheVariants as expr
use Rattle.st_tree.specs.declared.expr.StType.TheVariants as type
use Rattle.st_tree.specs.declared.expr.Var.{Var}
use Rattle.st_tree.specs.declared.expr.Var.TheVariants as var
use Rattle.st_tree.specs.declared.program.Located.{Located}
use Rattle.st_tree.specs.declared.program.Stmt.{Stmt}
use Rattle.st_tree.proofs.Equations.{assign_goes_on}
use Rattle.bit_templates.specs.declared.chain.Chain.{Chain}
use Rattle.bit_templates.specs.declared.chain.OpenBracket.{OpenBracket}
use Rattle.bit_templates.specs.Bits.{keep_of, next_rlo}
use Rattle.bit_templates.specs.Brackets.{KeepsBracket, behind_close, bracket_at, close_of, open_of}
use Rattle.template_parts.specs.Builders.{clear_or, literal_of, read_of, set_of}
use Rattle.template_parts.specs.Related.{AreAlike, Frames, Related}
use Rattle.template_parts.proofs.Alike.{keep_bits, keep_brackets, keep_local}
use Rattle.template_parts.specs.DoesInstruction.{DoesInstruction, Leads}
use Rattle.bit_templates.specs.BitLaw.{Opens}
use Rattle.template_parts.proofs.Operands.{cleared_registers, clears, rlo_worth, sets}
use Rattle.st_tree.proofs.Locals.{local_read, local_wrote, own_set, set_length, set_other, set_same, with_own}
use Rattle.bit_templates.proofs.Chains.{IsChain, checked_worth}
use Rattle.template_parts.proofs.Truths.{literal_worth, register_worth}

module _ (g : List Located) (calls : Calls) (units : ℕ) where
  -- a local of the running unit takes the value of a register
  keeps_value : (i : ℕ) (r : Reg) (b : Bool) (rest : List Stmt) (s : State) → i < length (own_of s.activations)
      → type_of_register r ≡ type.Bool → s.registers r ≡ number_of b
      → body_meaning g calls (keep_of i r ∷ rest) units s ≡ body_meaning g calls rest units (with_own i (flag b) s)
  keeps_value i r b rest s h ty e =
      assign_goes_on g calls (var.Local i) (read_of r) rest units s (with_own i (flag b) s)
      (flag b) (register_worth g s r b ty e) (local_wrote g i (flag b) s h)

-- three values put into locals
abbrev three_set : List Value → ℕ → Value → Value → Value → List Value
three_set xs first a b c = slice_set (slice_set (slice_set xs first a) (first + 1) b) (first + 2) c

three_length : (xs : List Value) (first : ℕ) (a b c : Value) → length (three_set xs first a b c) ≡ length xs
three_length xs first a b c =
    set_length (slice_set (slice_set xs first a) (first + 1) b) (first + 2) c
    ∙ set_length (slice_set xs first a) (first + 1) b ∙ set_length xs first a

three_other : (xs : List Value) (first i : ℕ) (a b c : Value) → i < first → slice_get (three_set xs first a b c) i ≡ slice_get xs i
three_other xs first i a b c h =
    set_other (slice_set (slice_set xs first a) (first + 1) b) (first + 2) i c (λ e. absurd (omega arith))
    ∙ set_other (slice_set xs first a) (first + 1) i b (λ e. absurd (omega arith)) ∙ set_other xs first i a (λ e. absurd (omega arith))

first_got : (xs : List Value) (first : ℕ) (a b c : Value) → first + 3 ≤ length xs → slice_get (three_set xs first a b c) first ≡ Some a
first_got xs first a b c h =
    set_other (slice_set (slice_set xs first a) (first + 1) b) (first + 2) first c (λ e. absurd (omega arith))
    ∙ set_other (slice_set xs first a) (first + 1) first b (λ e. absurd (omega arith)) ∙ set_same xs first a (omega arith)

second_got : (xs : List Value) (first : ℕ) (a b c : Value) → first + 3 ≤ length xs → slice_get (three_set xs first a b c) (first + 1) ≡ Some b
second_got xs first a b c h =
    let long : length (slice_set xs first a) ≡ length xs = set_length xs first a in
    set_other (slice_set (slice_set xs first a) (first + 1) b) (first + 2) (first + 1) c (λ e. absurd (omega arith))
    ∙ set_same (slice_set xs first a) (first + 1) b (omega arith)

third_got : (xs : List Value) (first : ℕ) (a b c : Value) → first + 3 ≤ length xs → slice_get (three_set xs first a b c) (first + 2) ≡ Some c
third_got xs first a b c h =
    let long : length (slice_set xs first a) ≡ length xs = set_length xs first a in
    let longer : length (slice_set (slice_set xs first a) (first + 1) b) ≡ length (slice_set xs first a) = set_length (slice_set xs first a) (first + 1) b in
    set_same (slice_set (slice_set xs first a) (first + 1) b) (first + 2) c (omega arith)

module _ (g : List Located) (calls : Calls) (units : ℕ) (frames : Frames) (now : Now) (s : State) (related : Related frames now s) (used : ℕ) where
  abbrev bits : StatusBits
  bits = now.registers.status

  abbrev own : List Value
  own = own_of s.activations

  -- A bracket is opened

  open_alike : AreAlike (record now.registers { status = after_open bits }) (cleared_registers g calls units false s.registers)
  open_alike reg.Nfc asked = refl
  open_alike reg.Orb asked = refl
  open_alike reg.Sta asked = elim asked [ ]
  open_alike q asked = related.registers q asked

  abbrev one : State
  one = with_own used (flag bits.rlo) s

  abbrev two : State
  two = with_own (used + 1) (flag bits.orb) one

  abbrev three : State
  three = with_own (used + 2) (flag bits.nfc) two

  own_three : own_of three.activations ≡ three_set own used (flag bits.rlo) (flag bits.orb) (flag bits.nfc)
  own_three =
      own_set (used + 2) (flag bits.nfc) two
      ∙ ap (λ xs. slice_set xs (used + 2) (flag bits.nfc)) (own_set (used + 1) (flag bits.orb) one)
      ∙ ap (λ xs. slice_set (slice_set xs (used + 1) (flag bits.orb)) (used + 2) (flag bits.nfc)) (own_set used (flag bits.rlo) s)

  as_long_one : length (own_of one.activations) ≡ length own
  as_long_one = ap length (own_set used (flag bits.rlo) s) ∙ set_length own used (flag bits.rlo)

  as_long_two : length (own_of two.activations) ≡ length (own_of one.activations)
  as_long_two = ap length (own_set (used + 1) (flag bits.orb) one) ∙ set_length (own_of one.activations) (used + 1) (flag bits.orb)

  -- the locals keep the bracket, and those below are as they were
  opened_keeps : (c : Check) → used + 3 ≤ length own → KeepsBracket (used + 3) (bracket_at used c) (entry_of c bits) (own_of three.activations)
  opened_keeps c room =
      let kept : KeepsBracket (used + 3) (bracket_at used c) (entry_of c bits) (three_set own used (flag bits.rlo) (flag bits.orb) (flag bits.nfc)) =
      record {
        first = used;
        kept = refl;
        below = omega arith;
        check = refl;
        rlo = first_got own used (flag bits.rlo) (flag bits.orb) (flag bits.nfc) room;
        orb = second_got own used (flag bits.rlo) (flag bits.orb) (flag bits.nfc) room;
        nfc = third_got own used (flag bits.rlo) (flag bits.orb) (flag bits.nfc) room;
      } in
      subst (KeepsBracket (used + 3) (bracket_at used c) (entry_of c bits)) (sym own_three) kept

  pub open_does : (c : Check) → used + 3 ≤ length own → Opens (body_meaning g calls (open_of used) units s) units used frames s c now
  open_does c room =
      let long_one = as_long_one in
      let long_two = as_long_two in
      let entries : List Entry = push_bracket (entry_of c bits) now.brackets in
      let after : Now = record now { brackets = entries } in
      let begun : Related frames after s = keep_brackets frames now s related entries in
      let first : Related frames after one = keep_local frames after s begun used (flag bits.rlo) in
      let second : Related frames after two = keep_local frames after one first (used + 1) (flag bits.orb) in
      let third : Related frames after three = keep_local frames after two second (used + 2) (flag bits.nfc) in
      let u : State = record three { registers = cleared_registers g calls units false s.registers } in
      record {
        leads = record {
          to = u;
          goes =
              keeps_value g calls units used reg.Rlo bits.rlo (keep_of (used + 1) reg.Orb ∷ keep_of (used + 2) reg.Nfc ∷ clear_or false) s
              (omega arith) refl (related.registers reg.Rlo tt)
              ∙ keeps_value g calls units (used + 1) reg.Orb bits.orb
              (keep_of (used + 2) reg.Nfc ∷ clear_or false) one (omega arith) refl (related.registers reg.Orb tt)
              ∙ keeps_value g calls units (used + 2) reg.Nfc bits.nfc (clear_or false) two (omega arith) refl (related.registers reg.Nfc tt)
              ∙ clears g calls units false three;
          related = keep_bits frames after three third (after_open bits) u.registers open_alike;
          as_many = ap length own_three ∙ three_length own used (flag bits.rlo) (flag bits.orb) (flag bits.nfc);
          below = λ i below. ap (λ (xs : List Value). slice_get xs i) own_three ∙ three_other own used i (flag bits.rlo) (flag bits.orb) (flag bits.nfc) below;
        };
        keeps = opened_keeps c room;
      }

  -- One is closed

  -- the registers behind the RLO of a bracket, by what OR was before it
  abbrev close_registers : Check → Bool → (Reg → ℤ) → Reg → ℤ
  close_registers check.A orb registers = with_register reg.Nfc (pos 1) (with_register reg.Orb (number_of orb) registers)
  close_registers check.An orb registers = with_register reg.Nfc (pos 1) (with_register reg.Orb (number_of orb) registers)
  close_registers check.O orb registers = cleared_registers g calls units true registers
  close_registers check.On orb registers = cleared_registers g calls units true registers
  close_registers check.X orb registers = cleared_registers g calls units true registers
  close_registers check.Xn orb registers = cleared_registers g calls units true registers

  put_back : (v : Var) (orb : Bool) (t : State) → value g (expr.Read v) t ≡ Ok (flag orb)
      → body_meaning g calls (set_of reg.Orb (expr.Read v) ∷ set_of reg.Nfc (literal_of true) ∷ []) units t
      ≡ Normal units (record t { registers = with_register reg.Nfc (pos 1) (with_register reg.Orb (number_of orb) t.registers) })
  put_back v orb t h =
      let u : State = record t { registers = with_register reg.Orb (number_of orb) t.registers } in
      sets g calls units reg.Orb (expr.Read v) orb (set_of reg.Nfc (literal_of true) ∷ []) t h
      ∙ sets g calls units reg.Nfc (literal_of true) true [] u (literal_worth g u true)

  goes_behind : (c : Check) (v : Var) (orb : Bool) (t : State) → value g (expr.Read v) t ≡ Ok (flag orb)
      → body_meaning g calls (behind_close c v) units t ≡ Normal units (record t { registers = close_registers c orb t.registers })
  goes_behind check.A v orb t h = put_back v orb t h
  goes_behind check.An v orb t h = put_back v orb t h
  goes_behind check.O v orb t h = clears g calls units true t
  goes_behind check.On v orb t h = clears g calls units true t
  goes_behind check.X v orb t h = clears g calls units true t
  goes_behind check.Xn v orb t h = clears g calls units true t

  abbrev closing : Check → Entry → StatusBits
  closing c e = record bits { rlo = rlo_after c bits.rlo (with_bracket_entry e bits); orb = orb_after c (with_bracket_entry e bits); sta = true; nfc = true }

  orb_back : (c : Check) (e : Entry) → orb_after c (with_bracket_entry e bits) ≡ e.orb
      → AreAlike (record now.registers { status = closing c e })
      (with_register reg.Nfc (pos 1)
      (with_register reg.Orb (number_of e.orb) (with_register reg.Rlo (number_of (rlo_after c bits.rlo (with_bracket_entry e bits))) s.registers)))
  orb_back c e same reg.Rlo asked = refl
  orb_back c e same reg.Nfc asked = refl
  orb_back c e same reg.Orb asked = ap number_of (sym same)
  orb_back c e same reg.Sta asked = elim asked [ ]
  orb_back c e same q asked = related.registers q asked

  orb_clear : (c : Check) (e : Entry) → orb_after c (with_bracket_entry e bits) ≡ false
      → AreAlike (record now.registers { status = closing c e })
      (cleared_registers g calls units true (with_register reg.Rlo (number_of (rlo_after c bits.rlo (with_bracket_entry e bits))) s.registers))
  orb_clear c e same reg.Rlo asked = refl
  orb_clear c e same reg.Nfc asked = refl
  orb_clear c e same reg.Orb asked = ap number_of (sym same)
  orb_clear c e same reg.Sta asked = elim asked [ ]
  orb_clear c e same q asked = related.registers q asked

  close_alike : (c : Check) (e : Entry)
      → AreAlike (record now.registers { status = closing c e })
      (close_registers c e.orb (with_register reg.Rlo (number_of (rlo_after c bits.rlo (with_bracket_entry e bits))) s.registers))
  close_alike check.A e = orb_back check.A e refl
  close_alike check.An e = orb_back check.An e refl
  close_alike check.O e = orb_clear check.O e refl
  close_alike check.On e = orb_clear check.On e refl
  close_alike check.X e = orb_clear check.X e refl
  close_alike check.Xn e = orb_clear check.Xn e refl

  -- the three locals, as the chain from before the bracket
  chain_kept : (o : OpenBracket) (e : Entry) (t : State) → t.activations ≡ s.activations
      → KeepsBracket used o e own → IsChain g t o.kept (with_bracket_entry e bits)
  chain_kept o e t same k =
      let at : own_of t.activations ≡ own = ap own_of same in
      subst (λ (chain : Chain). IsChain g t chain (with_bracket_entry e bits)) (sym k.kept)
      (record {
        rlo = local_read g k.first (flag e.rlo) t (ap (λ xs. slice_get xs k.first) at ∙ k.rlo);
        nfc = local_read g (k.first + 2) (flag e.nfc) t (ap (λ xs. slice_get xs (k.first + 2)) at ∙ k.nfc);
        orb = local_read g (k.first + 1) (flag e.orb) t (ap (λ xs. slice_get xs (k.first + 1)) at ∙ k.orb);
      })

  -- the check of a bracket is that of its entry
  by_check : (e : Entry) (c : Check) → c ≡ e.check → closing c e ≡ after_close e bits
  by_check e c same = ap (λ c. closing c e) same

  -- the innermost bracket, which the locals keep
  close_goes : (o : OpenBracket) (e : Entry) (entries : List Entry) → KeepsBracket used o e own
      → Leads (body_meaning g calls (close_of o) units s) units used frames s (with_status (after_close e) (record now { brackets = entries }))
  close_goes o e entries k =
      let c : Check = o.check in
      let rlo : Bool = rlo_after c bits.rlo (with_bracket_entry e bits) in
      let t : State = record s { registers = with_register reg.Rlo (number_of rlo) s.registers } in
      let u : State = record t { registers = close_registers c e.orb t.registers } in
      let here = chain_kept o e s refl k in
      let there = chain_kept o e t refl k in
      subst (λ (status : StatusBits). Leads (body_meaning g calls (close_of o) units s) units used frames s
      (record now { registers = record now.registers { status = status }; brackets = entries }))
      (by_check e c k.check)
      (record {
        to = u;
        goes = sets g calls units reg.Rlo (next_rlo o.kept c (read_of reg.Rlo)) rlo (behind_close c o.kept.orb) s
            (checked_worth g s o.kept (with_bracket_entry e bits) here c (read_of reg.Rlo) bits.rlo (rlo_worth g frames now s related))
            ∙ goes_behind c o.kept.orb e.orb t there.orb;
        related =
            keep_bits frames (record now { brackets = entries }) s (keep_brackets frames now s related entries) (closing c e) u.registers (close_alike c e);
        as_many = refl;
        below = λ i small. refl;
      })

  pub close_does : (o : OpenBracket) (e : Entry) (entries : List Entry) → now.brackets ≡ e ∷ entries → KeepsBracket used o e own
      → DoesInstruction (body_meaning g calls (close_of o) units s) units used frames s now.memory (effect_of op.Close now)
  close_does o e entries same k =
      subst (λ (all : List Entry). DoesInstruction (body_meaning g calls (close_of o) units s) units used frames s now.memory (next (closed_with all now)))
      (sym same)
      (close_goes o e entries k)
