-- The lines of the formals of a block.
use Rattle.std.specs.Prelude.{List, ◌++◌, map}
use Rattle.s7_base.specs.declared.reason.Line.{Line}
use Rattle.stl_rules.specs.Interfaces.{formals_declared, result_declared}
use Rattle.stl_tree.specs.declared.program.Mode.{Mode}
use Rattle.stl_tree.specs.declared.raw.Declaration.{Declaration}
use Rattle.stl_tree.specs.declared.raw.RawBlock.{RawBlock}

abbrev pub lines_of : List Declaration → List Line
lines_of decls = map (λ (d : Declaration). d.line) decls

-- those of a function or a function block: of its inputs, outputs, result and in-outs
abbrev pub lines_made : RawBlock → List Line
lines_made raw =
    ((lines_of raw.inputs ++ lines_of raw.outputs) ++ lines_of (result_declared raw.kind raw.line raw.result))
    ++ lines_of raw.in_outs

abbrev pub formal_lines : RawBlock → List Line
formal_lines raw = map (λ (f : Mode × Declaration). f.1.line) (formals_declared raw)
