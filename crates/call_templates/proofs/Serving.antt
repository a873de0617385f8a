-- The statements of each call serve it.
use Rattle.std.proofs.Common.{◌≡◌, ℕ, suc, ◌+◌, ◌==◌, ◌≤◌, Bool, true, false, if◌then◌else◌, List, [], length, inl, inr, refl, sym, ap, subst, arith}
use Rattle.std.specs.Prelude.{map}
use Rattle.call_templates.proofs.BlockCalling.{block_called}
use Rattle.call_templates.proofs.CallIfs as guarded
use Rattle.call_templates.proofs.CallSizes.{call_part}
use Rattle.call_templates.proofs.CallTyping.{call_plain}
use Rattle.call_templates.proofs.Calling.{after_by}
use Rattle.call_templates.proofs.FunctionCalling.{call_left_out, call_made, function_does}
use Rattle.call_templates.specs.CallLaw.{CallsServe, DoCall, DoesCall, Entering, MayCall, ServesCall, ServesCallIf, calls_by}
use Rattle.call_templates.specs.Calls.{call_if_of, call_of, function_block_call_of, function_call_of, types_of_call, types_of_constants, types_of_operands}
use Rattle.s7_base.specs.declared.register.Reg.{Reg}
use Rattle.s7_base.specs.declared.register.Reg.TheVariants as reg
use Rattle.status_word.specs.StatusBits.{after_end}
use Rattle.stl_tree.specs.Jumps.{after_asking}
use Rattle.stl_tree.specs.Now.{Now, with_status}
use Rattle.stl_tree.specs.Reads.{reads_of}
use Rattle.stl_tree.specs.declared.program.BlockCall.{BlockCall}
use Rattle.stl_tree.specs.declared.program.Formal.{Formal}
use Rattle.stl_tree.specs.declared.program.Op.TheVariants as op
use Rattle.st_tree.specs.Meaning.{body_meaning}
use Rattle.st_tree.specs.State.{State, own_of}
use Rattle.st_tree.specs.declared.program.Located.{Located}
use Rattle.template_parts.specs.Reading.{IsAmong}
use Rattle.template_parts.specs.Related.{Frames, Related}

module _ (first unit : ℕ) (formals : List Formal) (c : BlockCall) where
  -- a call, by whether it has no instance
  module _ (g : List Located) (enter : Entering) (units : ℕ) (frames : Frames) (now : Now) (s : State) (may : MayCall frames formals c)
      (related : Related frames now s) where
    abbrev Does : Bool → Type 0
    Does b =
        DoesCall
        (body_meaning g (calls_by g enter)
        (if b then function_call_of first unit formals c.actuals else function_block_call_of first unit c.instance formals c.actuals) units s)
        enter units first unit frames s now.memory formals (if b then map (λ (f : Formal). f.width) formals else [])
        (after_by b formals c (with_status after_end now))

    does_by : (b : Bool) → (c.instance == 0) ≡ b
        → first + suc (suc (length (if b then types_of_constants formals c.actuals else types_of_operands formals c.actuals)))
        ≤ length (own_of s.activations) → Does b
    does_by true e room = function_does g enter units first unit frames now s related formals c may e (omega arith)
    does_by false e room = block_called g enter units first unit frames now s related formals c may e (omega arith)

  call_does : DoCall first unit (types_of_call formals c) formals c (call_of first unit formals c) (with_status after_end)
  call_does g enter units frames now s may related room = does_by g enter units frames now s may related (c.instance == 0) refl room

  serves_call : ServesCall first unit formals c
  serves_call =
      let part = call_part first unit formals c in
      record {
        does = call_does;
        steps = part.steps;
        guards = part.guards;
        few = part.few;
        small = part.small;
        reads = part.reads;
        locals = part.locals;
        plain = call_plain first unit formals c;
      }

  serves_call_if : c.instance ≡ 0 → c.actuals ≡ [] → ServesCallIf first unit formals c
  serves_call_if alone none =
      let no_instance : (c.instance == 0) ≡ true = ap (λ (n : ℕ). n == 0) alone in
      let rlo : IsAmong reg.Rlo (reads_of (op.CallIf c)) = inl refl in
      let db : IsAmong reg.DbNo (reads_of (op.CallIf c)) = inr (inl refl) in
      let di : IsAmong reg.DiNo (reads_of (op.CallIf c)) = inr (inr (inl refl)) in
      record {
        made = λ g enter units frames now s may related room asked.
            subst
            (λ (b : Bool). DoesCall (body_meaning g (calls_by g enter) (call_if_of first unit) units s) enter units first unit frames s now.memory formals
            (if b then map (λ (f : Formal). f.width) formals else []) (after_by b formals c (with_status after_asking now)))
            (sym no_instance) (call_made g enter units first unit frames now s related room formals c may no_instance none asked);
        left_out = λ g enter units frames now s related room asked. call_left_out g enter units first unit frames now s related room asked;
        steps = guarded.steps first unit (λ (r : Reg). IsAmong r (reads_of (op.CallIf c))) rlo db di;
        guards = guarded.guards first unit (λ (r : Reg). IsAmong r (reads_of (op.CallIf c))) rlo db di;
        few = guarded.few first unit (λ (r : Reg). IsAmong r (reads_of (op.CallIf c))) rlo db di;
        small = guarded.small first unit (λ (r : Reg). IsAmong r (reads_of (op.CallIf c))) rlo db di;
        reads = guarded.reads first unit (λ (r : Reg). IsAmong r (reads_of (op.CallIf c))) rlo db di;
        run = guarded.run first unit (λ (r : Reg). IsAmong r (reads_of (op.CallIf c))) rlo db di;
        inner = guarded.inner_run first unit (λ (r : Reg). IsAmong r (reads_of (op.CallIf c))) rlo db di;
        ends = guarded.ends first unit (λ (r : Reg). IsAmong r (reads_of (op.CallIf c))) rlo db di;
        plain = λ sight called own. guarded.call_if_plain first unit sight called own;
      }

pub calls_serve : CallsServe
calls_serve =
    record {
      call = λ first unit formals c. serves_call first unit formals c;
      call_if = λ first unit formals c alone none. serves_call_if first unit formals c alone none;
    }
