-- Chains of checks: what the variables of a chain are worth, and the checks in it.
use Rattle.std.proofs.Common.{◌≡◌, Bool, true, false, not, ◌&&◌, ◌||◌, if◌then◌else◌, List, Ok, refl, ap, ◌∙◌}
use Rattle.s7_base.specs.declared.check.Check.{Check}
use Rattle.s7_base.specs.declared.check.Check.TheVariants as check
use Rattle.s7_base.specs.declared.outcome.Fault.{Fault}
use Rattle.s7_base.specs.declared.register.Reg.TheVariants as reg
use Rattle.stl_tree.specs.Now.{Now}
use Rattle.template_parts.specs.Related.{Frames, Related}
use Rattle.template_parts.proofs.Operands.{nfc_worth, rlo_worth}
use Rattle.template_parts.proofs.Truths.{IsWorth, Stops, and_worth, left_stops, not_stops, not_worth, or_worth, register_worth, right_stops, xor_worth}
use Rattle.status_word.specs.StatusBits.{StatusBits, rlo_after}
use Rattle.st_tree.specs.State.{State}
use Rattle.st_tree.specs.Values.{flag}
use Rattle.st_tree.specs.declared.expr.BinaryOp.TheVariants as binary
use Rattle.st_tree.specs.declared.expr.Expr.{Expr}
use Rattle.st_tree.specs.declared.expr.Expr.TheVariants as expr
use Rattle.st_tree.specs.declared.program.Located.{Located}
use Rattle.bit_templates.specs.declared.chain.Chain.{Chain}
use Rattle.bit_templates.specs.Bits.{and_joined, next_rlo, rlo_before_and, rlo_before_or, running_chain}
use Rattle.template_parts.specs.Builders.{and_of, not_of, or_of, xor_of}

module _ (g : List Located) (s : State) where
  -- a chain keeps these bits
  pub record IsChain (chain : Chain) (bits : StatusBits) : Type 0 where
    pub rlo : IsWorth g s (expr.Read chain.rlo) bits.rlo
    pub nfc : IsWorth g s (expr.Read chain.nfc) bits.nfc
    pub orb : IsWorth g s (expr.Read chain.orb) bits.orb

  module _ (chain : Chain) (bits : StatusBits) (kept : IsChain chain bits) where
    before_and : IsWorth g s (rlo_before_and chain) (bits.rlo || not bits.nfc)
    before_and =
        or_worth g s (expr.Read chain.rlo) (not_of (expr.Read chain.nfc)) bits.rlo
        (not bits.nfc) kept.rlo (not_worth g s (expr.Read chain.nfc) bits.nfc kept.nfc)

    before_or : IsWorth g s (rlo_before_or chain) (bits.rlo && bits.nfc)
    before_or = and_worth g s (expr.Read chain.rlo) (expr.Read chain.nfc) bits.rlo bits.nfc kept.rlo kept.nfc

    joined : (e : Expr) (b : Bool) → IsWorth g s e b → IsWorth g s (and_joined chain e) (((bits.rlo || not bits.nfc) && b) || bits.orb)
    joined e b h =
        or_worth g s (and_of (rlo_before_and chain) e) (expr.Read chain.orb) ((bits.rlo || not bits.nfc) && b) bits.orb
        (and_worth g s (rlo_before_and chain) e (bits.rlo || not bits.nfc) b before_and h) kept.orb

    or_effect : (rlo nfc b : Bool) → ((rlo && nfc) || b) ≡ (if nfc then rlo || b else b)
    or_effect true true b = refl
    or_effect true false b = refl
    or_effect false true b = refl
    or_effect false false b = refl

    xor_effect : (rlo nfc b : Bool) → (if rlo && nfc then not b else b) ≡ (if nfc then (if rlo then not b else b) else b)
    xor_effect true true b = refl
    xor_effect true false b = refl
    xor_effect false true b = refl
    xor_effect false false b = refl

    or_else : (e : Expr) (b : Bool) → IsWorth g s e b → IsWorth g s (or_of (rlo_before_or chain) e) (if bits.nfc then bits.rlo || b else b)
    or_else e b h =
        or_worth g s (rlo_before_or chain) e (bits.rlo && bits.nfc) b before_or h ∙ ap (λ x. Ok (flag x)) (or_effect bits.rlo bits.nfc b)

    xor_else : (e : Expr) (b : Bool) → IsWorth g s e b → IsWorth g s (xor_of (rlo_before_or chain) e) (if bits.nfc then (if bits.rlo then not b else b) else b)
    xor_else e b h =
        xor_worth g s (rlo_before_or chain) e (bits.rlo && bits.nfc) b before_or h ∙ ap (λ x. Ok (flag x)) (xor_effect bits.rlo bits.nfc b)

    twice : (nfc rlo b : Bool) → (if nfc then (if rlo then not (not b) else not b) else not b) ≡ (if nfc then (if rlo then b else not b) else not b)
    twice true true true = refl
    twice true true false = refl
    twice true false b = refl
    twice false rlo b = refl

    -- what the RLO becomes at a check
    pub checked_worth : (c : Check) (e : Expr) (b : Bool) → IsWorth g s e b → IsWorth g s (next_rlo chain c e) (rlo_after c b bits)
    checked_worth check.A e b h = joined e b h
    checked_worth check.An e b h = joined (not_of e) (not b) (not_worth g s e b h)
    checked_worth check.O e b h = or_else e b h
    checked_worth check.On e b h = or_else (not_of e) (not b) (not_worth g s e b h)
    checked_worth check.X e b h = xor_else e b h
    checked_worth check.Xn e b h = xor_else (not_of e) (not b) (not_worth g s e b h) ∙ ap (λ x. Ok (flag x)) (twice bits.nfc bits.rlo b)

    joined_stops : (e : Expr) (f : Fault) → Stops g s e f → Stops g s (and_joined chain e) f
    joined_stops e f h =
        left_stops g s binary.Or (and_of (rlo_before_and chain) e) (expr.Read chain.orb) f
        (right_stops g s binary.And (rlo_before_and chain) e (bits.rlo || not bits.nfc) f before_and h)

    -- it faults where what is checked does
    pub checked_stops : (c : Check) (e : Expr) (f : Fault) → Stops g s e f → Stops g s (next_rlo chain c e) f
    checked_stops check.A e f h = joined_stops e f h
    checked_stops check.An e f h = joined_stops (not_of e) f (not_stops g s e f h)
    checked_stops check.O e f h = right_stops g s binary.Or (rlo_before_or chain) e (bits.rlo && bits.nfc) f before_or h
    checked_stops check.On e f h = right_stops g s binary.Or (rlo_before_or chain) (not_of e) (bits.rlo && bits.nfc) f before_or (not_stops g s e f h)
    checked_stops check.X e f h = right_stops g s binary.Xor (rlo_before_or chain) e (bits.rlo && bits.nfc) f before_or h
    checked_stops check.Xn e f h = right_stops g s binary.Xor (rlo_before_or chain) (not_of e) (bits.rlo && bits.nfc) f before_or (not_stops g s e f h)

module _ (g : List Located) (frames : Frames) (now : Now) (s : State) (related : Related frames now s) where
  -- the registers keep the chain
  pub chain_runs : IsChain g s running_chain now.registers.status
  chain_runs =
      record {
        rlo = rlo_worth g frames now s related;
        nfc = nfc_worth g frames now s related;
        orb = register_worth g s reg.Orb now.registers.status.orb refl (related.registers reg.Orb tt);
      }
