use Rattle.std.proofs.Common.{sym, subst}
use Rattle.component_index.specs.declared.scope.StructScope.{StructScope}
use Rattle.component_index.specs.inner.Scopes.{AreScopes}
use Rattle.component_index.proofs.Growing.{pushed_scopes}
use Rattle.component_index.proofs.building.put_scope.Goals as goal

pub returns-clause-scopes : goal.returns-clause-scopes
returns-clause-scopes c =
    let s : StructScope = record { decls = c.args.decls; names = c.args.names } in
    subst AreScopes (sym c.in_ok-push.ensures.items) (pushed_scopes c.args.scopes.now.items s c.requires.scopes c.requires.names)
