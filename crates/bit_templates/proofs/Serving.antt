-- The statements of each instruction of bit logic serve it.
use Rattle.st_tree.specs.State.{own_of}
use Rattle.std.proofs.Common.{ℕ, ◌+◌, ◌≤◌, true, false, [], ◌∷◌, length, refl, arith}
use Rattle.std.proofs.lemmas.List.{length-append}
use Rattle.s7_base.specs.declared.check.Check.{Check}
use Rattle.s7_base.specs.declared.register.Reg.{Reg}
use Rattle.s7_base.specs.declared.word.Width.TheVariants as width
use Rattle.stl_tree.specs.Reads.{reads_of}
use Rattle.stl_tree.specs.declared.program.BitArg.{BitArg}
use Rattle.stl_tree.specs.declared.program.BitArg.TheVariants as arg
use Rattle.stl_tree.specs.declared.program.Op.TheVariants as op
use Rattle.stl_tree.specs.declared.program.Operand.{Operand}
use Rattle.st_tree.specs.declared.expr.StType.TheVariants as type
use Rattle.template_parts.specs.Fetching.{types_fetched, types_reached}
use Rattle.template_parts.specs.Reading.{IsAmong}
use Rattle.template_parts.specs.Templates.{IsPlainBody, Serves}
use Rattle.template_parts.proofs.Obligations.{alone, is_template, ordered}
use Rattle.template_parts.proofs.ReadRegisters.{AllRead}
use Rattle.template_parts.proofs.Sizes.{of_nothing}
use Rattle.graph_rules.proofs.Runs.{order_equations}
use Rattle.template_parts.proofs.Typing.{no_statement}
use Rattle.bit_templates.specs.BitLaw.{BitLogicServes, ServesClosing, ServesOpening}
use Rattle.bit_templates.specs.Bits.{assigned_of, checked_bit_of, edge_at, falling, inverted_of, or_alone_of, reset_value, rising, rlo_set, saved_of, set_value, stored_of, types_checked, types_of_edge}
use Rattle.bit_templates.specs.Brackets.{bracket_at, close_of, open_of, types_of_bracket}
use Rattle.bit_templates.proofs.BitEffects.{assign_effect, check_goes, check_effect, reset_effect, set_effect}
use Rattle.bit_templates.proofs.BracketEffects.{close_does, open_does}
use Rattle.bit_templates.proofs.CountBits.{assign_length, assign_nodes, assign_writes, check_length, check_nodes, check_writes, close_length, close_nodes, close_writes, down_nodes, inverted_nodes, length_of_edge, length_of_stored, of_opened, or_alone_nodes, reset_nodes, rlo_set_nodes, saved_nodes, set_nodes, up_nodes, writes_of_edge, writes_of_stored}
use Rattle.bit_templates.proofs.EdgeEffects.{down_effect, up_effect}
use Rattle.bit_templates.proofs.OrderBits.{assign_disorder, assign_sets, check_disorder, check_sets, close_disorder, close_sets, edge_at_disorder, edge_at_sets, falling_adds, open_disorder, reset_adds, rising_adds, rlo_set_disorder, set_adds, stored_disorder, stored_sets}
use Rattle.bit_templates.proofs.PlainBits.{assign_plain, bracket_bool, bracket_plain, check_plain_at, down_plain, inverted_plain, open_plain, or_alone_plain, reset_plain, rlo_set_plain, saved_plain, set_plain_at, up_plain}
use Rattle.bit_templates.proofs.ReadBits.{assign_reads, bracket_reads, check_reads_at, close_reads, down_reads, inverted_reads, open_reads, or_alone_reads, reset_reads, rlo_set_reads, saved_reads, set_reads, up_reads}
use Rattle.bit_templates.proofs.StatusEffects.{answer_worth, clear_rlo_does, nop_does, not_does, or_does, save_does, set_rlo_does}

-- Checks

check_serves : (c : Check) (b : BitArg) (first : ℕ) → Serves (op.Check c b) first (types_checked b) (checked_bit_of first c b)
check_serves c (arg.At o) first =
    record {
      does = λ g calls units frames now s operand related room. check_effect g calls units frames now s related first o operand c room;
      template =
          is_template (op.Check c (arg.At o)) first (types_checked (arg.At o)) (checked_bit_of first c (arg.At o)) (check_writes first c (arg.At o))
          (check_length first c (arg.At o)) (check_nodes first c (arg.At o))
          (λ P has. check_reads_at P first [] tt c (arg.At o) has) (check_disorder first c (arg.At o))
          (check_sets first c (arg.At o))
          (λ sight formals named operand own. check_plain_at sight formals named c (arg.At o) first [] operand own (no_statement sight));
    }
check_serves c (arg.Flag t) first =
    record {
      does = λ g calls units frames now s operand related room.
          check_goes g calls units frames now s related first c _ _ (answer_worth g calls units frames now s related first t);
      template =
          is_template (op.Check c (arg.Flag t)) first (types_checked (arg.Flag t))
          (checked_bit_of first c (arg.Flag t)) (check_writes first c (arg.Flag t))
          (check_length first c (arg.Flag t)) (check_nodes first c (arg.Flag t))
          (λ P has. check_reads_at P first [] tt c (arg.Flag t) has) (check_disorder first c (arg.Flag t))
          (check_sets first c (arg.Flag t))
          (λ sight formals named operand own. check_plain_at sight formals named c (arg.Flag t) first [] operand own (no_statement sight));
    }

or_alone_serves : (first : ℕ) → Serves op.OrAlone first [] or_alone_of
or_alone_serves first =
    record {
      does = λ g calls units frames now s operand related room. or_does g calls units frames now s related first;
      template = is_template op.OrAlone first [] or_alone_of tt (omega arith) or_alone_nodes (λ P has. or_alone_reads P first [] tt has)
          (simp order_equations) refl (λ sight formals named operand own. or_alone_plain sight [] (no_statement sight));
    }

-- Bits

module _ (o : Operand) (first : ℕ) where
  assign_serves : Serves (op.Assign o) first (types_reached o) (assigned_of first o)
  assign_serves =
      record {
        does = λ g calls units frames now s operand related room. assign_effect g calls units frames now s related first o operand room;
        template =
            is_template (op.Assign o) first (types_reached o) (assigned_of first o)
            (assign_writes first o) (assign_length first o) (assign_nodes first o)
            (λ P has. assign_reads P first [] tt o has) (assign_disorder first o) (assign_sets first o)
            (λ sight formals named operand own. assign_plain sight formals named first o [] operand own (no_statement sight));
      }

  set_serves : Serves (op.Set o) first (types_fetched o width.Bit) (stored_of first o set_value)
  set_serves =
      record {
        does = λ g calls units frames now s operand related room. set_effect g calls units frames now s related first o operand room;
        template = is_template (op.Set o) first (types_fetched o width.Bit) (stored_of first o set_value) (writes_of_stored first o set_value)
            (length_of_stored first o set_value) (set_nodes first o) (λ P has. set_reads P first [] tt o has) (stored_disorder first o set_value set_adds)
            (stored_sets first o set_value) (λ sight formals named operand own. set_plain_at sight formals named first o [] operand own (no_statement sight));
      }

  reset_serves : Serves (op.Reset o) first (types_fetched o width.Bit) (stored_of first o reset_value)
  reset_serves =
      record {
        does = λ g calls units frames now s operand related room. reset_effect g calls units frames now s related first o operand room;
        template = is_template (op.Reset o) first (types_fetched o width.Bit) (stored_of first o reset_value) (writes_of_stored first o reset_value)
            (length_of_stored first o reset_value) (reset_nodes first o)
            (λ P has. reset_reads P first [] tt o has) (stored_disorder first o reset_value reset_adds)
            (stored_sets first o reset_value) (λ sight formals named operand own. reset_plain sight formals named first o [] operand own (no_statement sight));
      }

  -- an edge has a local behind those of its bit
  edge_room : (own : ℕ) → first + length (types_of_edge o) ≤ own → first + length (types_fetched o width.Bit) + 1 ≤ own
  edge_room own h = omega (arith, length-append (types_fetched o width.Bit) (type.Bool ∷ []))

  up_serves : Serves (op.EdgeUp o) first (types_of_edge o) (edge_at first o rising)
  up_serves =
      record {
        does =
            λ g calls units frames now s operand related room.
            up_effect g calls units frames now s related first o operand (edge_room (length (own_of s.activations)) room);
        template = is_template (op.EdgeUp o) first (types_of_edge o) (edge_at first o rising) (writes_of_edge first o rising)
            (length_of_edge first o rising) (up_nodes first o) (λ P has. up_reads P first [] tt o has) (edge_at_disorder first o rising rising_adds)
            (edge_at_sets first o rising) (λ sight formals named operand own. up_plain sight formals named first o [] operand own (no_statement sight));
      }

  down_serves : Serves (op.EdgeDown o) first (types_of_edge o) (edge_at first o falling)
  down_serves =
      record {
        does =
            λ g calls units frames now s operand related room. down_effect g calls units frames now s related first o operand
            (edge_room (length (own_of s.activations)) room);
        template = is_template (op.EdgeDown o) first (types_of_edge o) (edge_at first o falling) (writes_of_edge first o falling)
            (length_of_edge first o falling) (down_nodes first o) (λ P has. down_reads P first [] tt o has) (edge_at_disorder first o falling falling_adds)
            (edge_at_sets first o falling) (λ sight formals named operand own. down_plain sight formals named first o [] operand own (no_statement sight));
      }

-- The RLO

module _ (first : ℕ) where
  set_rlo_serves : Serves op.SetRlo first [] (rlo_set true)
  set_rlo_serves =
      record {
        does = λ g calls units frames now s operand related room. set_rlo_does g calls units frames now s related first;
        template = is_template op.SetRlo first [] (rlo_set true) tt (omega arith) (rlo_set_nodes true) (λ P has. rlo_set_reads P first [] tt true)
            (rlo_set_disorder first true) refl (λ sight formals named operand own. rlo_set_plain sight true [] (no_statement sight));
      }

  clear_rlo_serves : Serves op.ClearRlo first [] (rlo_set false)
  clear_rlo_serves =
      record {
        does = λ g calls units frames now s operand related room. clear_rlo_does g calls units frames now s related first;
        template =
            is_template op.ClearRlo first [] (rlo_set false) tt (omega arith) (rlo_set_nodes false) (λ P has. rlo_set_reads P first [] tt false)
            (rlo_set_disorder first false) refl (λ sight formals named operand own. rlo_set_plain sight false [] (no_statement sight));
      }

  invert_serves : Serves op.NotRlo first [] inverted_of
  invert_serves =
      record {
        does = λ g calls units frames now s operand related room. not_does g calls units frames now s related first;
        template = is_template op.NotRlo first [] inverted_of tt (omega arith) inverted_nodes (λ P has. inverted_reads P first [] tt has)
            (simp order_equations) refl (λ sight formals named operand own. inverted_plain sight [] (no_statement sight));
      }

  save_serves : Serves op.Save first [] saved_of
  save_serves =
      record {
        does = λ g calls units frames now s operand related room. save_does g calls units frames now s related first;
        template = is_template op.Save first [] saved_of tt (omega arith) saved_nodes (λ P has. saved_reads P first [] tt has)
            (simp order_equations) refl (λ sight formals named operand own. saved_plain sight [] (no_statement sight));
      }

  nop_serves : Serves op.Nop first [] []
  nop_serves =
      record {
        does = λ g calls units frames now s operand related room. nop_does g calls units frames now s related first;
        template =
            is_template op.Nop first [] [] tt (omega arith) (omega (arith, of_nothing))
            (λ P has. tt) refl refl (λ sight formals named operand own. no_statement sight);
      }

-- Brackets

opening_serves : (c : Check) (first : ℕ) → ServesOpening c first
opening_serves c first =
    record {
      does = λ g calls units frames now s related room. open_does g calls units frames now s related first c room;
      template = is_template (op.Bracket c) first types_of_bracket (open_of first) tt (omega arith) (omega (arith, of_opened first))
          (λ P has. open_reads P first [] tt c has) (open_disorder first) refl
          (λ sight formals named operand own. open_plain sight first [] own (no_statement sight));
    }

closing_serves : (kept : ℕ) (c : Check) (used : ℕ) → kept + 3 ≤ used → ServesClosing kept c used
closing_serves kept c used room =
    let body = close_of (bracket_at kept c) in
    let P : Reg → Type 0 = λ (r : Reg). IsAmong r (reads_of op.Close) in
    record {
      does = λ g calls units frames now s related e entries same keeps.
          close_does g calls units frames now s related used (bracket_at kept c) e entries same keeps;
      writes = close_writes (bracket_at kept c);
      few = close_length (bracket_at kept c);
      small = close_nodes (bracket_at kept c);
      reads = alone (AllRead P) body (close_reads P used [] tt (bracket_at kept c) (λ r among. among) (bracket_reads P used [] tt kept));
      locals = ordered kept used 0 body (close_disorder used kept c room) (close_sets kept c);
      plain = λ sight own. alone (IsPlainBody sight) body (bracket_plain sight (bracket_at kept c) [] (bracket_bool sight kept own) (no_statement sight));
    }

-- The law

pub bit_logic : BitLogicServes
bit_logic =
    record {
      check = check_serves;
      or_alone = or_alone_serves;
      assign = assign_serves;
      set = set_serves;
      reset = reset_serves;
      set_rlo = set_rlo_serves;
      clear_rlo = clear_rlo_serves;
      invert = invert_serves;
      save = save_serves;
      edge_up = up_serves;
      edge_down = down_serves;
      nothing = nop_serves;
      opening = opening_serves;
      closing = closing_serves;
    }
