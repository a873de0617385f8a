-- An entry is kept where there is room for it.
use Rattle.std.proofs.Common.{◌≡◌, nat_lt, true, false, List, ◌∷◌, length, Result, Ok, Err, sym, ◌∙◌, ap, arith}
use Rattle.std.proofs.lemmas.Bool.Decides.{nat_tests}
use Rattle.std.specs.Prelude.{if◌then◌else◌}
use Rattle.nesting_stack.specs.Entries.{IsPushed, most_open}
use Rattle.nesting_stack.specs.declared.nesting.Full.{Full}
use Rattle.s7_base.specs.declared.check.Entry.{Entry}
use Rattle.stl_tree.specs.Brackets.{push_bracket}

pub is_pushed : (e : Entry) (r : Result Unit Full) (old new : List Entry) → IsPushed e r old new → new ≡ push_bracket e old
is_pushed e (Ok done) old new h =
    let room : nat_lt (length old) most_open ≡ true = grind (arith, nat_tests, h.0) in
    h.1 ∙ sym (ap (λ b. if b then e ∷ old else old) room)
is_pushed e (Err full) old new h =
    let none : nat_lt (length old) most_open ≡ false = grind (arith, nat_tests, h.0) in
    h.1 ∙ sym (ap (λ b. if b then e ∷ old else old) none)
