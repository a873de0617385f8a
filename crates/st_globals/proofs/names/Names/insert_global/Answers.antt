use Rattle.st_tree.specs.Naming.{key_of}
use Rattle.st_globals.proofs.NameTables.{added}
use Rattle.st_globals.proofs.names.Names.insert_global.Goals as goal

pub returns-clause-names : goal.returns-clause-names
returns-clause-names c =
    added c.insert.result (key_of c.args.name.now) c.args.self.now c.insert.new.self c.insert.ensures.new c.insert.ensures.names
