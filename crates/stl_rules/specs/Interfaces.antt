-- The variables of a block. What it shares with its caller, what it keeps in an instance, and its temporaries; and
-- where each of them is found.
-- Held against: this project's own rules.
use Rattle.std.specs.Prelude.{ℕ, ◌+◌, Bool, true, false, ◌&&◌, ◌||◌, if◌then◌else◌, List, [], ◌∷◌, ◌++◌, codes, map, Option, Some, None}
use Rattle.std.specs.List.{list_any}
use Rattle.std.specs.Option.{is_some}
use Rattle.memory_areas.specs.declared.place.AreaName.TheVariants as area
use Rattle.s7_base.specs.Broken.{first_of_all}
use Rattle.s7_base.specs.Tokens.{is_same_word}
use Rattle.s7_base.specs.declared.reason.Line.{Line}
use Rattle.s7_base.specs.declared.rule_break.Break.{Break}
use Rattle.s7_base.specs.declared.word.Width.{Width}
use Rattle.s7_base.specs.declared.word.Width.TheVariants as width
use Rattle.stl_rules.specs.DeclarationRules.{elementary, section_breaks}
use Rattle.stl_rules.specs.Extents.{width_of}
use Rattle.stl_rules.specs.Layouts.{breaks_in, too_large}
use Rattle.stl_rules.specs.Paths.{component_in}
use Rattle.stl_rules.specs.TooLarge.{first_large_in}
use Rattle.stl_rules.specs.declared.layout.Component.{Component}
use Rattle.stl_tree.specs.declared.program.Formal.{Formal}
use Rattle.stl_tree.specs.declared.program.Mode.{Mode}
use Rattle.stl_tree.specs.declared.program.Mode.TheVariants as mode
use Rattle.stl_tree.specs.declared.raw.BlockKind.{BlockKind}
use Rattle.stl_tree.specs.declared.raw.BlockKind.TheVariants as block
use Rattle.stl_tree.specs.declared.raw.DeclType.TheVariants as of
use Rattle.stl_tree.specs.declared.raw.Declaration.{Declaration}
use Rattle.stl_tree.specs.declared.raw.ElemType.{ElemType}
use Rattle.stl_tree.specs.declared.raw.PathStep.{PathStep}
use Rattle.stl_tree.specs.declared.raw.PathStep.TheVariants as step
use Rattle.stl_tree.specs.declared.raw.RawBlock.{RawBlock}

-- Limits

-- the most bytes of a data block or an instance, and of local data
abbrev pub most_in_block : ℕ
most_in_block = 16384

abbrev pub most_local : ℕ
most_local = 256

-- Sections

-- the result of a function as an output, on the line of the heading; no other block has one
abbrev pub result_declared : BlockKind → Line → Option ElemType → List Declaration
result_declared block.Fc line (Some type) =
    record { name = codes "RET_VAL"; line = line; ty = of.Elementary type; initial = [] } ∷ []
result_declared kind line result = []

-- the outputs of a block, the result last
abbrev pub outputs_of : RawBlock → List Declaration
outputs_of raw = raw.outputs ++ result_declared raw.kind raw.line raw.result

-- the sections of the variables that a block shares with its caller, or keeps in an instance
abbrev pub interface_of : RawBlock → List (List Declaration)
interface_of raw = raw.inputs ∷ outputs_of raw ∷ raw.in_outs ∷ raw.statics ∷ []

-- the sections of a block's temporaries
abbrev pub temporaries_of : RawBlock → List (List Declaration)
temporaries_of raw = raw.temps ∷ []

-- Rules

-- the interface of a function block is as long as a data block may be; that of another block lies nowhere
abbrev pub interface_large : BlockKind → List (List Declaration) → List Break
interface_large block.Fb sections = too_large (first_large_in most_in_block 0 sections)
interface_large other sections = []

-- the rules that the interface of a block breaks by itself
abbrev pub interface_breaks : RawBlock → List Break
interface_breaks raw = section_breaks (interface_of raw) ++ interface_large raw.kind (interface_of raw)

-- the rules that the variables of a block break: they are one scope
abbrev pub variable_breaks : RawBlock → List Break
variable_breaks raw =
    section_breaks (interface_of raw ++ temporaries_of raw) ++ interface_large raw.kind (interface_of raw)
    ++ too_large (first_large_in most_local 0 (temporaries_of raw))

-- the interface, or the temporaries, of a block break a rule by themselves; a path into them is not judged
abbrev pub is_interface_refused : RawBlock → Bool
is_interface_refused raw = is_some (first_of_all (interface_breaks raw))

abbrev pub are_refused : ℕ → List (List Declaration) → Bool
are_refused limit sections = is_some (first_of_all (breaks_in limit sections))

abbrev pub are_temporaries_refused : RawBlock → Bool
are_temporaries_refused raw = are_refused most_local (temporaries_of raw)

-- a path begins with the name of a variable of some sections
abbrev pub is_declared : List ℕ → List (List Declaration) → Bool
is_declared name sections =
    list_any (λ (section : List Declaration). list_any (λ (d : Declaration). is_same_word d.name name) section) sections

abbrev pub begins_in : List (List Declaration) → List PathStep → Bool
begins_in sections [] = false
begins_in sections (step.Name name ∷ path) = is_declared name sections
begins_in sections (step.Index indices ∷ path) = false

-- Formals

-- the formals of a function or a function block in their order: inputs, outputs, in-outs; another block has none
abbrev pub formals_by : RawBlock → List (Mode × Declaration)
formals_by raw =
    map (λ (d : Declaration). (mode.Input, d)) raw.inputs
    ++ map (λ (d : Declaration). (mode.Output, d)) (outputs_of raw)
    ++ map (λ (d : Declaration). (mode.InOut, d)) raw.in_outs

abbrev pub formals_in : RawBlock → BlockKind → List (Mode × Declaration)
formals_in raw block.Fc = formals_by raw
formals_in raw block.Fb = formals_by raw
formals_in raw other = []

abbrev pub formals_declared : RawBlock → List (Mode × Declaration)
formals_declared raw = formals_in raw raw.kind

-- the width of an elementary type; formals have no other
abbrev pub width_or_bit : Option ElemType → Width
width_or_bit None = width.Bit
width_or_bit (Some type) = width_of type

-- a formal at the place of a component
abbrev pub formal_at : Mode × Declaration → Option Component → Formal
formal_at formal None =
    record { name = formal.1.name; mode = formal.0; width = width_or_bit (elementary formal.1.ty); byte = 0; bit = 0 }
formal_at formal (Some at) =
    record {
      name = formal.1.name;
      mode = formal.0;
      width = width_or_bit (elementary formal.1.ty);
      byte = at.byte;
      bit = at.bit;
    }

-- where the formals of a block lie: those of a function block in its instance
abbrev pub instance_of : RawBlock → BlockKind → List (List Declaration)
instance_of raw block.Fb = interface_of raw
instance_of raw other = []

-- the formals of a block
abbrev pub formals_of : RawBlock → List Formal
formals_of raw =
    map (λ (f : Mode × Declaration). formal_at f (component_in (instance_of raw raw.kind) (step.Name f.1.name ∷ [])))
    (formals_declared raw)

-- the position of the first formal of a name, from one on
abbrev pub formal_named : ℕ → List Formal → List ℕ → Option (ℕ × Formal)
formal_named k [] name = None
formal_named k (f ∷ formals) name =
    if is_same_word f.name name then Some (k, f) else formal_named (k + 1) formals name
