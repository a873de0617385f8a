use Rattle.std.proofs.Common.{◌∙◌, [], sym, ap, Some, Vec, Global, List, ℕ, rules, arith}
use Rattle.std.proofs.lemmas.List.{get_or-map}
use Rattle.std.proofs.lemmas.Grind.{common_steps}
use Rattle.memory_areas.proofs.Blocks.{not_stored, stored_at, within_stored}
use Rattle.memory_areas.proofs.memory.block.Goals as goal

pub offset_bounds-blocks-position : goal.offset_bounds-blocks-position
offset_bounds-blocks-position c =
    let within = within_stored c.args.number c.args.numbers.now c.args.blocks.now c.in-Some.position c.requires.1 (sym c.in-Some.ensures) in
    search rules

pub bounds-blocks-position : goal.bounds-blocks-position
bounds-blocks-position c = within_stored c.args.number c.args.numbers.now c.args.blocks.now c.in-Some.position c.requires.1 (sym c.in-Some.ensures)

pub returns-in-Some : goal.returns-in-Some
returns-in-Some c =
    let at = stored_at c.args.number c.args.numbers.now c.args.blocks.now [] c.in-Some.position c.requires.1 (sym c.in-Some.ensures) in
    let within = within_stored c.args.number c.args.numbers.now c.args.blocks.now c.in-Some.position c.requires.1 (sym c.in-Some.ensures) in
    at.bytes
    ∙ ap (λ (bytes : List ℕ). Some bytes)
    (get_or-map (λ (b : Vec ℕ Global). b.items) c.args.blocks.now c.in-Some.position c.index-blocks-position.result [] within
    ∙ first_of (search rules, grind (arith, common_steps)))

pub returns-in-None : goal.returns-in-None
returns-in-None c = not_stored c.args.number c.args.numbers.now c.args.blocks.now c.requires.1 (sym c.in-None.ensures)
