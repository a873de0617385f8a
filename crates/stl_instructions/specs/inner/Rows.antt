-- The rows of the code's table of forms as those of the definition.
use Rattle.stl_instructions.specs.declared.located.NamedForm.{NamedForm as FoundForm}
use Rattle.stl_statement_grammar.specs.LocatedOperands.{NamedForm}

-- a form that is not supported, as the definition has it
abbrev pub named_form_of : FoundForm → NamedForm
named_form_of form = record { word = form.word.now; is_indirect = form.is_indirect; kind = form.kind }
