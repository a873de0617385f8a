use Rattle.std.proofs.Common.{◌∙◌, ap, Option}
use Rattle.std.specs.Prelude.{option_map}
use Rattle.stl_statement_grammar.specs.Constants.{has_prefix}
use Rattle.stl_constants.specs.declared.constant.Prefixed.{Prefixed}
use Rattle.stl_constants.specs.inner.Rows.{prefixed_of}
use Rattle.stl_constants.proofs.Tables.{find_map}
use Rattle.stl_constants.proofs.constant.first_prefix.Goals as goal

pub returns : goal.returns
returns c = ap (λ (o : Option Prefixed). option_map prefixed_of o) c.prefix_found.ensures ∙ find_map prefixed_of (has_prefix c.args.tokens.now) c.args.table.now
