-- What is kept of the variables of a block.
use Rattle.std.specs.Prelude.{◌≡◌, ℕ, Bool, List, [], ◌∷◌, ◌++◌, map, Option}
use Rattle.block_variables.specs.declared.rules.VariableRules.{VariableRules}
use Rattle.std.specs.List.{list_any}
use Rattle.s7_base.specs.Broken.{first_of_all}
use Rattle.s7_base.specs.Tokens.{is_same_word}
use Rattle.stl_rules.specs.Interfaces.{are_temporaries_refused, formal_at, instance_of, is_interface_refused, result_declared, variable_breaks}
use Rattle.stl_rules.specs.Paths.{component_in}
use Rattle.stl_rules.specs.declared.layout.Component.{Component}
use Rattle.stl_tree.specs.declared.program.Formal.{Formal}
use Rattle.stl_tree.specs.declared.program.Mode.{Mode}
use Rattle.stl_tree.specs.declared.program.Mode.TheVariants as mode
use Rattle.stl_tree.specs.declared.raw.Declaration.{Declaration}
use Rattle.stl_tree.specs.declared.raw.PathStep.TheVariants as step
use Rattle.stl_tree.specs.declared.raw.RawBlock.{RawBlock}

-- the sections of an interface, but for the result of a function
abbrev pub own_sections : RawBlock → List (List Declaration)
own_sections raw = raw.inputs ∷ raw.outputs ∷ raw.in_outs ∷ raw.statics ∷ []

-- what the variables of a block break is what the rules say
pub record AreRules (raw : RawBlock) (rules : VariableRules) : Type 0 where
  pub interface : rules.interface ≡ is_interface_refused raw
  pub temporaries : rules.temporaries ≡ are_temporaries_refused raw
  pub first : rules.first ≡ first_of_all (variable_breaks raw)

-- the component of a formal, where it has one
abbrev pub component_of : RawBlock → List ℕ → Option Component
component_of raw name = component_in (instance_of raw raw.kind) (step.Name name ∷ [])

-- a declaration of a mode as a formal
abbrev pub formal_of : RawBlock → Mode → Declaration → Formal
formal_of raw mode d = formal_at (mode, d) (component_of raw d.name)

-- the formals of a function or a function block: those of its inputs, outputs, result and in-outs
abbrev pub formals_made : RawBlock → List Formal
formals_made raw =
    ((map (formal_of raw mode.Input) raw.inputs ++ map (formal_of raw mode.Output) raw.outputs)
    ++ map (formal_of raw mode.Output) (result_declared raw.kind raw.line raw.result))
    ++ map (formal_of raw mode.InOut) raw.in_outs

-- a name is one of some declarations
abbrev pub has_name : List ℕ → List Declaration → Bool
has_name name decls = list_any (λ (d : Declaration). is_same_word d.name name) decls
