-- A graph program and a text whose units are those of its units mean the same.
use Rattle.std.proofs.Common.{◌≡◌, ℕ, suc, ◌+◌, ◌*◌, Bool, List, [], ◌∷◌, map, Option, Some, None, refl, sym, ap, ◌∙◌, subst, arith}
use Rattle.std.specs.Prelude.{find, option_map, slice_get}
use Rattle.std.specs.List.{position_or_len}
use Rattle.memory_areas.specs.Areas.{Areas}
use Rattle.memory_areas.specs.End.{Ended}
use Rattle.memory_areas.specs.declared.call.Call.{Call}
use Rattle.memory_areas.specs.declared.data_block.DataBlock.{DataBlock}
use Rattle.s7_base.specs.declared.outcome.Fault.{Fault}
use Rattle.st_tree.specs.GraphRun.{FitsGraph, each_node, each_pass, graph_run, heads_of, pass_run, run_of_graph}
use Rattle.st_tree.specs.StRun.{FitsIfThere, FitsSt, FitsUnit, end_seen, is_meant, run_of_unit, st_run, state_at_start, unit_called}
use Rattle.st_tree.specs.declared.graph.GraphPou.{GraphPou}
use Rattle.st_tree.specs.declared.graph.GraphProgram.{GraphProgram}
use Rattle.st_tree.specs.declared.program.Located.{Located}
use Rattle.st_tree.specs.declared.program.Pou.{Pou}
use Rattle.st_tree.specs.declared.program.StProgram.{StProgram}
use Rattle.st_tree.proofs.Common.{find_at}
use Rattle.graph_rules.specs.Plain.{Plain}
use Rattle.region_laws.specs.RegionLaw.{AreUnitsOf, HasRegions, RegionsAreRight}
use Rattle.region_laws.proofs.Arrivals.{typed_of}
use Rattle.region_laws.proofs.Back.{run_back}
use Rattle.region_laws.proofs.Forth.{run_forth}
use Rattle.region_laws.proofs.Found.{found_of}
use Rattle.region_laws.proofs.Moved.{fits_moves}
use Rattle.region_laws.proofs.Steps.{HavePlainSteps}
use Rattle.region_laws.proofs.Typed.{heads_in, typed_at}
use Rattle.region_laws.proofs.Units.{Translated, arrival_of, graph_unit, text_run, text_unit, walk_calls}

-- Each unit with its text

abbrev paired : (us : List GraphPou) (ts : List Pou) → AreUnitsOf us ts → List Translated
paired [] [] h = []
paired [] (t ∷ ts) h = elim h [ ]
paired (u ∷ us) [] h = elim h [ ]
paired (u ∷ us) (t ∷ ts) h = (u, t, h.0) ∷ paired us ts h.1

units_paired : (us : List GraphPou) (ts : List Pou) (h : AreUnitsOf us ts) → map graph_unit (paired us ts h) ≡ us
units_paired [] [] h = refl
units_paired [] (t ∷ ts) h = elim h [ ]
units_paired (u ∷ us) [] h = elim h [ ]
units_paired (u ∷ us) (t ∷ ts) h = ap (λ (rest : List GraphPou). u ∷ rest) (units_paired us ts h.1)

texts_paired : (us : List GraphPou) (ts : List Pou) (h : AreUnitsOf us ts) → map text_unit (paired us ts h) ≡ ts
texts_paired [] [] h = refl
texts_paired [] (t ∷ ts) h = elim h [ ]
texts_paired (u ∷ us) [] h = elim h [ ]
texts_paired (u ∷ us) (t ∷ ts) h = ap (λ (rest : List Pou). t ∷ rest) (texts_paired us ts h.1)

module _ (graph : GraphProgram) (tree : StProgram) (plain : Plain graph) (has : HasRegions graph tree) where
  abbrev zs : List Translated
  zs = paired graph.pous tree.pous has.units

  units : map graph_unit zs ≡ graph.pous
  units = units_paired graph.pous tree.pous has.units

  texts : map text_unit zs ≡ tree.pous
  texts = texts_paired graph.pous tree.pous has.units

  plain_steps : (n : ℕ) (z : Translated) → slice_get zs n ≡ Some z → HavePlainSteps z.0.graph.nodes
  plain_steps n z e = (typed_of graph (heads_in graph) zs units (typed_at graph plain) n z e).plain

  -- Calls from outside

  module _ (call : Call) where
    -- the unit that the call means
    abbrev meant : Translated → Bool
    meant z = is_meant call.block z.0.head

    abbrev found : Option Translated
    found = find meant zs

    same_name : (z : Translated) → is_meant call.block z.1 ≡ meant z
    same_name z = rw (z.2.name, z.2.kind) refl

    found_unit : find (λ (u : GraphPou). is_meant call.block u.head) graph.pous ≡ option_map graph_unit found
    found_unit =
        ap (find (λ (u : GraphPou). is_meant call.block u.head)) (sym units)
        ∙ found_of graph_unit (λ (u : GraphPou). is_meant call.block u.head) zs

    found_text : unit_called call.block tree.pous ≡ option_map text_unit found
    found_text =
        ap (unit_called call.block) (sym texts)
        ∙ found_of text_unit (is_meant call.block) zs
        ∙ ap (λ (p : Translated → Bool). option_map text_unit (find p zs)) (λ i z. same_name z i)

    found_head : unit_called call.block (heads_of graph).pous ≡ option_map (λ (u : GraphPou). u.head) (option_map graph_unit found)
    found_head =
        found_of (λ (u : GraphPou). u.head) (is_meant call.block) graph.pous ∙ ap (option_map (λ (u : GraphPou). u.head)) found_unit

    to_text : (o : Option Translated) → FitsIfThere (heads_of graph) call (option_map (λ (u : GraphPou). u.head) (option_map graph_unit o))
        → FitsIfThere tree call (option_map text_unit o)
    to_text None h = absurd h
    to_text (Some z) h =
        subst (λ (blocks : List DataBlock). FitsUnit blocks z.1 call.block call.instance call.actuals) (sym has.blocks)
        (fits_moves graph.dbs z.0.head z.1 (sym z.2.formals) call.block call.instance call.actuals h)

    to_head : (o : Option Translated) → FitsIfThere tree call (option_map text_unit o)
        → FitsIfThere (heads_of graph) call (option_map (λ (u : GraphPou). u.head) (option_map graph_unit o))
    to_head None h = absurd h
    to_head (Some z) h =
        fits_moves graph.dbs z.1 z.0.head z.2.formals call.block call.instance call.actuals
        (subst (λ (blocks : List DataBlock). FitsUnit blocks z.1 call.block call.instance call.actuals) has.blocks h)

    in_text : FitsGraph graph call → FitsSt tree call
    in_text h =
        subst (λ (o : Option Pou). FitsIfThere tree call o) (sym found_text)
        (to_text found (subst (λ (o : Option Pou). FitsIfThere (heads_of graph) call o) found_head h))

    in_graph : FitsSt tree call → FitsGraph graph call
    in_graph h =
        subst (λ (o : Option Pou). FitsIfThere (heads_of graph) call o) (sym found_head)
        (to_head found (subst (λ (o : Option Pou). FitsIfThere tree call o) found_text h))

    -- Runs

    module _ (memory : Areas) where
      there : (z : Translated) → found ≡ Some z → slice_get zs (position_or_len meant zs) ≡ Some z
      there z e = sym (find_at meant zs) ∙ e

      -- the run of the text is that of its nodes
      run_is : (z : Translated) → found ≡ Some z → (k : ℕ)
          → run_of_unit tree (Some z.1) call memory k
          ≡ end_seen (arrival_of graph.globals (walk_calls graph.globals zs k) z 0 k (state_at_start z.1 call memory))
      run_is z e k =
          text_run tree zs texts plain_steps (position_or_len meant zs) z (there z e) k k (state_at_start z.1 call memory)
          ∙ ap (λ (g : List Located). end_seen (arrival_of g (walk_calls g zs k) z 0 k (state_at_start z.1 call memory))) has.globals

      forth_by : (o : Option Translated) → found ≡ o → (n : ℕ) (after : Areas) (fault : Option Fault)
          → run_of_graph each_node graph (option_map graph_unit o) call memory n ≡ Ended after fault
          → run_of_unit tree (option_map text_unit o) call memory (2 * n) ≡ Ended after fault
      forth_by None e n after fault q = cc
      forth_by (Some z) e n after fault q =
          run_is z e (2 * n)
          ∙ run_forth graph (heads_in graph) zs units (typed_at graph plain) call memory (position_or_len meant zs) z (there z e) n after fault q

      back_by : (o : Option Translated) → found ≡ o → (n : ℕ) (after : Areas) (fault : Option Fault)
          → run_of_unit tree (option_map text_unit o) call memory n ≡ Ended after fault
          → run_of_graph each_pass graph (option_map graph_unit o) call memory (suc n) ≡ Ended after fault
      back_by None e n after fault q = cc
      back_by (Some z) e n after fault q =
          run_back graph (heads_in graph) zs units (typed_at graph plain) call memory (position_or_len meant zs) z (there z e) n after fault
          (sym (run_is z e n) ∙ q)

      text_ends : (n : ℕ) (after : Areas) (fault : Option Fault) → graph_run graph call memory n ≡ Ended after fault
          → st_run tree call memory (2 * n) ≡ Ended after fault
      text_ends n after fault q =
          ap (λ (o : Option Pou). run_of_unit tree o call memory (2 * n)) found_text
          ∙ forth_by found refl n after fault (ap (λ (o : Option GraphPou). run_of_graph each_node graph o call memory n) (sym found_unit) ∙ q)

      graph_ends : (n : ℕ) (after : Areas) (fault : Option Fault) → st_run tree call memory n ≡ Ended after fault
          → pass_run graph call memory (n + 1) ≡ Ended after fault
      graph_ends n after fault q =
          let one : n + 1 ≡ suc n = omega arith in
          ap (λ (k : ℕ). pass_run graph call memory k) one
          ∙ ap (λ (o : Option GraphPou). run_of_graph each_pass graph o call memory (suc n)) found_unit
          ∙ back_by found refl n after fault (ap (λ (o : Option Pou). run_of_unit tree o call memory n) (sym found_text) ∙ q)

pub regions_right : RegionsAreRight
regions_right graph tree plain has =
    record {
      blocks = has.blocks;
      fits = λ call h. in_text graph tree plain has call h;
      fits_back = λ call h. in_graph graph tree plain has call h;
      forth = λ call memory n after fault e. text_ends graph tree plain has call memory n after fault e;
      back = λ call memory n after fault e. graph_ends graph tree plain has call memory n after fault e;
    }
