use Rattle.std.proofs.Common.{rules, ◌≡◌, ℕ, suc, ◌<◌, List, [], ◌∷◌, length, map, drop, replicate, set, refl, sym, ap, subst, ◌∙◌, arith}
use Rattle.std.proofs.lemmas.Grind.{common_steps}
use Rattle.std.proofs.lemmas.List.{length-map}
use Rattle.instruction_lowering.specs.UnitNames.{in_order, unit_position}
use Rattle.instruction_lowering.specs.inner.UnitOrder.{AreBlocksAt}
use Rattle.instruction_lowering.proofs.PositionLaws.{all_written, next_unit, none_written, written, written_positions}
use Rattle.instruction_lowering.proofs.unit_order.unit_positions.Goals as goal
use Rattle.instruction_lowering.proofs.unit_order.unit_positions.Goals.{in-Some-get_mut, in_default-get_mut}
use Rattle.stl_tree.specs.declared.program.Block.{Block}

pub loop-block-init : goal.loop-block-init
loop-block-init c =
    let zeros : c.resize.new.self.items ≡ replicate (length c.args.blocks.now) 0 = first_of (search rules, grind (arith, common_steps)) in
    (zeros ∙ none_written c.args.blocks.now c.args.blocks.now, c.requires.order)

pub loop-block-preserved : goal.loop-block-preserved
loop-block-preserved c =
    let blocks : List Block = c.args.blocks.now in
    let unit : ℕ = c.loop-block.unit in
    let position : ℕ = c.in-Some.block.now in
    let rest : c.loop-block.rest.now ≡ position ∷ c.in-Some.behind.now = first_of (search rules, grind (arith, common_steps)) in
    let next_is : c.in_ok-unit.unit ≡ suc unit = first_of (search rules, grind (arith, common_steps)) in
    let next =
    next_unit blocks c.requires.accepted c.requires.distinct position c.in-Some.behind.now unit
    (subst (λ (ps : List ℕ). AreBlocksAt blocks ps (drop unit (in_order blocks))) rest c.loop-block.invariant.1) in
    let long : length c.loop-block.positions.items ≡ length blocks =
    ap length c.loop-block.invariant.0 ∙ length-map blocks (λ (b : Block). written unit (unit_position blocks b.name)) in
    let within : position < length c.loop-block.positions.items = subst (λ (n : ℕ). position < n) (sym long) next.within in
    let set_there : c.match-get_mut.positions.items ≡ set c.loop-block.positions.items position unit =
    elim c.match-get_mut.branch [
      | in-Some-get_mut w ↦ first_of (search rules, grind (arith, common_steps))
      | in_default-get_mut w ↦ first_of (search rules, grind (arith, common_steps))
    ] in (
      set_there ∙ ap (λ (ps : List ℕ). set ps position unit) c.loop-block.invariant.0 ∙ next.written_there
          ∙ ap (written_positions blocks) (sym next_is),
      subst (λ (n : ℕ). AreBlocksAt blocks c.in-Some.behind.now (drop n (in_order blocks))) (sym next_is) next.left,
    )

pub returns : goal.returns
returns c =
    let none : c.loop-block.rest.now ≡ [] = first_of (search rules, grind (arith, common_steps)) in
    c.loop-block.invariant.0
    ∙ all_written c.args.blocks.now c.requires.accepted c.requires.distinct c.loop-block.unit
    (subst (λ (ps : List ℕ). AreBlocksAt c.args.blocks.now ps (drop c.loop-block.unit (in_order c.args.blocks.now))) none c.loop-block.invariant.1)
