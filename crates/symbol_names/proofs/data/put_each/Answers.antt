use Rattle.std.proofs.Common.{◌≡◌, ◌++◌, map, refl, ap, sym, take, ◌∙◌}
use Rattle.std.specs.List.{filter_map}
use Rattle.std.proofs.lemmas.List.{append-nil, take_all}
use Rattle.stl_rules.specs.Names.{block_number}
use Rattle.stl_tree.specs.declared.raw.BlockKind.TheVariants as block
use Rattle.block_variables.specs.Firsts.{with_breaks}
use Rattle.symbol_names.specs.inner.Kept.{data_kept, db_breaks, instance_kept}
use Rattle.name_tables.specs.Before.{db_numbers, number_of_db, numbers_before}
use Rattle.operand_scopes.specs.Refused.{own_of}
use Rattle.name_tables.proofs.Lists.{map_turn}
use Rattle.symbol_names.proofs.Filtered.{put_turn}
use Rattle.symbol_names.proofs.Turns.{db_turn, dbs_ended, long_enough, number_is}
use Rattle.symbol_names.proofs.data.put_each.Goals as goal

pub loop-place-init : goal.loop-place-init
loop-place-init c =
    (sym (append-nil c.args.found.now.declarations.items), sym (append-nil c.args.found.now.made), sym (append-nil c.args.found.now.instances), refl)

-- the data blocks of the text are those that are gone over
pub number_at-number-requires : goal.number_at-number-requires
number_at-number-requires c =
    let symbols = c.args.names.now.symbols in
    long_enough (number_of_db symbols) c.args.dbs.now c.loop-place.place c.index-dbs-place.result c.loop-place-test.true c.index-dbs-place.is
    c.dbs.result.now (c.dbs.ensures ∙ ap (db_numbers symbols) (sym c.requires.dbs))

pub put_data-requires-clause-number : goal.put_data-requires-clause-number
put_data-requires-clause-number c =
    let symbols = c.args.names.now.symbols in
    number_is (number_of_db symbols) c.args.dbs.now c.loop-place.place c.index-dbs-place.result c.loop-place-test.true c.index-dbs-place.is
    c.dbs.result.now c.number_at-number.result (c.dbs.ensures ∙ ap (db_numbers symbols) (sym c.requires.dbs)) c.number_at-number.ensures

pub loop-place-preserved : goal.loop-place-preserved
loop-place-preserved c =
    let d = c.index-dbs-place.result in
    let place = c.loop-place.place in
    let symbols = c.args.names.now.symbols in
    let first = c.loop-place.found.first in
    let noted : c.put_data.new.found.first
    ≡ with_breaks first (db_breaks c.args.names.now (numbers_before (take place (db_numbers symbols c.args.dbs.now))) d (block_number symbols block.Db d.name))
    = c.in_ok-put_data.ensures.first
    ∙ ap (λ all. with_breaks first (db_breaks c.args.names.now (numbers_before (take place (db_numbers symbols all))) d (block_number symbols block.Db d.name)))
    (sym c.requires.dbs) in (
      map_turn own_of c.args.found.now.declarations.items c.loop-place.found.declarations.items
          c.put_data.new.found.declarations.items c.args.dbs.now place d c.loop-place-test.true
          c.index-dbs-place.is c.loop-place.invariant.0 c.in_ok-put_data.ensures.declarations,
      put_turn (data_kept c.args.keep c.args.names.now) c.args.found.now.made c.loop-place.found.made c.put_data.new.found.made c.args.dbs.now place d
          c.loop-place-test.true c.index-dbs-place.is c.loop-place.invariant.1 c.in_ok-put_data.ensures.made,
      put_turn (instance_kept c.args.names.now) c.args.found.now.instances c.loop-place.found.instances c.put_data.new.found.instances c.args.dbs.now place d
          c.loop-place-test.true c.index-dbs-place.is c.loop-place.invariant.2 c.in_ok-put_data.ensures.instances,
      db_turn c.args.names.now first c.put_data.new.found.first _ c.args.dbs.now place
          d c.loop-place-test.true c.index-dbs-place.is noted c.loop-place.invariant.3,
    )

pub returns-clause-declarations : goal.returns-clause-declarations
returns-clause-declarations c =
    c.loop-place.invariant.0
    ∙ ap (λ dbs. c.args.found.now.declarations.items ++ map own_of dbs) (take_all c.loop-place.place c.args.dbs.now c.loop-place-test.false)

pub returns-clause-made : goal.returns-clause-made
returns-clause-made c =
    c.loop-place.invariant.1
    ∙ ap (λ dbs. c.args.found.now.made ++ filter_map (data_kept c.args.keep c.args.names.now) dbs)
    (take_all c.loop-place.place c.args.dbs.now c.loop-place-test.false)

pub returns-clause-instances : goal.returns-clause-instances
returns-clause-instances c =
    c.loop-place.invariant.2
    ∙ ap (λ dbs. c.args.found.now.instances ++ filter_map (instance_kept c.args.names.now) dbs)
    (take_all c.loop-place.place c.args.dbs.now c.loop-place-test.false)

pub returns-clause-first : goal.returns-clause-first
returns-clause-first c =
    dbs_ended c.args.names.now c.loop-place.found.first _ c.args.dbs.now c.loop-place.place c.loop-place-test.false c.loop-place.invariant.3
