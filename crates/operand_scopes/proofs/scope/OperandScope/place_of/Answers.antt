use Rattle.std.proofs.Common.{◌≡◌, slice_get, ap, ◌∙◌}
use Rattle.std.specs.Prelude.{option_and_then}
use Rattle.name_tables.specs.Before.{block_numbers, is_block}
use Rattle.name_tables.specs.Places.{first_place}
use Rattle.name_tables.proofs.Places.{block_at}
use Rattle.operand_scopes.proofs.Blocks.{at_position}
use Rattle.stl_rules.specs.Raw.{OperandScope}
use Rattle.operand_scopes.proofs.scope.OperandScope.place_of.Goals as goal

pub returns : goal.returns
returns c =
    let text = c.args.self.now.text in
    let are = c.blocks-2.ensures ∙ ap (λ (s : OperandScope). block_numbers s.text.symbols s.text.blocks) c.self.view_is in
    let first : c.place_of.result ≡ first_place (is_block c.args.kind c.args.number) (block_numbers text.symbols text.blocks)
    = c.place_of.ensures ∙ ap (first_place (is_block c.args.kind c.args.number)) are in
    record {
      position = first ∙ at_position text c.args.kind c.args.number;
      lookup = ap (option_and_then (λ place. slice_get text.blocks place)) first ∙ block_at text c.args.kind c.args.number;
    }
