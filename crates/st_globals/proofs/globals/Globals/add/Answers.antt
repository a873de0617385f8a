use Rattle.std.proofs.Common.{rules}
use Rattle.st_globals.proofs.Adding.{accepted, not_needed, on_ok, refused}
use Rattle.st_globals.proofs.globals.Globals.add.Goals as goal

pub returns-then-not-is_needed : goal.returns-then-not-is_needed
returns-then-not-is_needed c = λ names vars used tracks. (
  tracks,
  not_needed c.args.symbol.now names vars c.args.self.now.list c.args.self.now.names c.args.places.now.keys
      c.args.self.now.numbers.entries used tracks (search rules),
)

pub returns-then-not-branch : goal.returns-then-not-branch
returns-then-not-branch c = λ names vars used tracks.
    refused c.args.symbol.now names vars c.args.self.now.list c.args.self.now.names c.args.places.now.keys
    c.args.self.now.numbers.entries used tracks c.as_slice.result.now c.as_slice.ensures c.in_ok-insert_global.field-0
    c.in_ok-insert_global.ensures.new (search rules) c.insert_global.new.self c.in_ok-insert_global.ensures.names

pub returns : goal.returns
returns c =
    on_ok c.push.result c.push.ensures.ok
    (λ pushed names vars used tracks.
    accepted c.args.symbol.now names vars c.args.self.now.list c.args.self.now.names c.args.places.now.keys
    c.args.self.now.numbers.entries used tracks (search rules) c.as_slice.result.now c.as_slice.ensures
    c.in_ok-insert_global.field-0 c.in_ok-insert_global.ensures.new (search rules) c.insert_global.new.self
    c.in_ok-insert_global.ensures.names c.key_of_symbol-key.result c.key_of_symbol-key.ensures c.in_ok-number.number
    (search rules) c.insert.new.self.entries c.in_ok-insert.ensures.entries c.in_ok-located.field-0 c.in_ok-located.ensures
    c.push.new.self pushed)
