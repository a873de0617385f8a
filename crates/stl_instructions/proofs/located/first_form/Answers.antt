use Rattle.std.proofs.Common.{◌∙◌, ap, Option}
use Rattle.std.specs.Prelude.{option_map}
use Rattle.stl_statement_grammar.specs.LocatedOperands.{has_form}
use Rattle.stl_instructions.specs.declared.located.NamedForm.{NamedForm}
use Rattle.stl_instructions.specs.inner.Rows.{named_form_of}
use Rattle.stl_constants.proofs.Tables.{find_map}
use Rattle.stl_instructions.proofs.located.first_form.Goals as goal

pub returns : goal.returns
returns c =
    ap (λ (o : Option NamedForm). option_map named_form_of o) c.form_found.ensures ∙ find_map named_form_of (has_form c.args.tokens.now) c.args.table.now
