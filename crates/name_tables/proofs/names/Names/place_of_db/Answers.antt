use Rattle.std.proofs.Common.{slice_get, ap, ◌∙◌}
use Rattle.std.specs.Prelude.{option_and_then}
use Rattle.name_tables.specs.Places.{first_place}
use Rattle.stl_tree.specs.declared.raw.BlockKind.TheVariants as block
use Rattle.stl_tree.specs.declared.raw.RawProgram.{RawProgram}
use Rattle.name_tables.specs.Before.{db_numbers, is_block}
use Rattle.name_tables.proofs.Places.{db_at}
use Rattle.name_tables.proofs.names.Names.place_of_db.Goals as goal

pub returns : goal.returns
returns c =
    let text = c.args.self.now in
    let are = c.self.invariant.1 ∙ ap (λ (t : RawProgram). db_numbers t.symbols t.dbs) c.self.view_is in
    ap (option_and_then (λ place. slice_get text.dbs place)) (c.place_of.ensures ∙ ap (first_place (is_block block.Db c.args.number)) are)
    ∙ db_at text.symbols text.dbs c.args.number
