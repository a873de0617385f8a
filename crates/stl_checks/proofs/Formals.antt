-- The lines of the formals of a block.
use Rattle.std.proofs.Common.{◌≡◌, List, [], ◌∷◌, ◌++◌, map, slice_get, Option, Some, None, option_map, refl, sym, ap, ◌∙◌, append_assoc}
use Rattle.std.proofs.lemmas.List.{append-nil, map-append}
use Rattle.std.proofs.lemmas.Option.{slice_get-map}
use Rattle.s7_base.specs.Broken.{rule_break}
use Rattle.s7_base.specs.declared.rule_break.Break.{Break}
use Rattle.s7_base.specs.declared.reason.Line.{Line}
use Rattle.s7_base.specs.declared.reason.Reason.TheVariants.{TooManyParameters}
use Rattle.stl_checks.specs.inner.Formals.{formal_lines, lines_made, lines_of}
use Rattle.stl_rules.specs.BodyRules.{formal_too_many, most_formals}
use Rattle.stl_rules.specs.Interfaces.{formals_by, formals_declared, formals_in, outputs_of, result_declared}
use Rattle.stl_tree.specs.declared.program.Mode.{Mode}
use Rattle.stl_tree.specs.declared.program.Mode.TheVariants as mode
use Rattle.stl_tree.specs.declared.raw.BlockKind.TheVariants as block
use Rattle.stl_tree.specs.declared.raw.Declaration.{Declaration}
use Rattle.stl_tree.specs.declared.raw.RawBlock.{RawBlock}

abbrev line_of : Mode × Declaration → Line
line_of f = f.1.line

each_mode : (its : Mode) (decls : List Declaration) → map line_of (map (λ (d : Declaration). (its, d)) decls) ≡ lines_of decls
each_mode its [] = refl
each_mode its (d ∷ decls) = ap (λ lines. d.line ∷ lines) (each_mode its decls)

made : (raw : RawBlock) → lines_made raw ≡ map line_of (formals_by raw)
made raw =
    let ins : List (Mode × Declaration) = map (λ (d : Declaration). (mode.Input, d)) raw.inputs in
    let outs : List (Mode × Declaration) = map (λ (d : Declaration). (mode.Output, d)) (outputs_of raw) in
    let both : List (Mode × Declaration) = map (λ (d : Declaration). (mode.InOut, d)) raw.in_outs in
    let result : List Declaration = result_declared raw.kind raw.line raw.result in
    let last : List Line = lines_of raw.in_outs in
    ap (λ l. l ++ last)
    (append_assoc (lines_of raw.inputs) (lines_of raw.outputs) (lines_of result)
    ∙ ap (λ l. lines_of raw.inputs ++ l) (sym (map-append (λ (d : Declaration). d.line) raw.outputs result)))
    ∙ sym (ap (λ l. (l ++ lines_of (outputs_of raw)) ++ last) (each_mode mode.Input raw.inputs))
    ∙ sym (ap (λ l. (map line_of ins ++ l) ++ last) (each_mode mode.Output (outputs_of raw)))
    ∙ sym (ap (λ l. (map line_of ins ++ map line_of outs) ++ l) (each_mode mode.InOut raw.in_outs))
    ∙ ap (λ l. l ++ map line_of both) (sym (map-append line_of ins outs))
    ∙ sym (map-append line_of (ins ++ outs) both)

pub of_function : (raw : RawBlock) → raw.kind ≡ block.Fc → lines_made raw ≡ formal_lines raw
of_function raw is = made raw ∙ ap (λ kind. map line_of (formals_in raw kind)) (sym is)

pub of_function_block : (raw : RawBlock) → raw.kind ≡ block.Fb → lines_made raw ≡ formal_lines raw
of_function_block raw is = made raw ∙ ap (λ kind. map line_of (formals_in raw kind)) (sym is)

pub of_organization_block : (raw : RawBlock) → raw.kind ≡ block.Ob → [] ≡ formal_lines raw
of_organization_block raw is = ap (λ kind. map line_of (formals_in raw kind)) (sym is)

pub of_data_block : (raw : RawBlock) → raw.kind ≡ block.Db → [] ≡ formal_lines raw
of_data_block raw is = ap (λ kind. map line_of (formals_in raw kind)) (sym is)

pub ruleset of_kind = (of_function, of_function_block, of_organization_block, of_data_block)

-- the rule on the line of the formal too many
abbrev on_line : Option Line → List Break
on_line None = []
on_line (Some line) = rule_break line TooManyParameters

by_line : (o : Option (Mode × Declaration)) → formal_too_many o ≡ on_line (option_map line_of o)
by_line None = refl
by_line (Some f) = refl

at_line : (raw : RawBlock) → formal_too_many (slice_get (formals_declared raw) most_formals) ≡ on_line (slice_get (formal_lines raw) most_formals)
at_line raw = by_line (slice_get (formals_declared raw) most_formals) ∙ ap on_line (sym (slice_get-map line_of (formals_declared raw) most_formals))

pub one_more : (raw : RawBlock) (breaks : List Break) (line : Line) → Some line ≡ slice_get (formal_lines raw) most_formals
    → breaks ++ rule_break line TooManyParameters ≡ breaks ++ formal_too_many (slice_get (formals_declared raw) most_formals)
one_more raw breaks line e = ap (λ bs. breaks ++ bs) (ap on_line e ∙ sym (at_line raw))

pub none_more : (raw : RawBlock) (breaks : List Break) → None ≡ slice_get (formal_lines raw) most_formals
    → breaks ≡ breaks ++ formal_too_many (slice_get (formals_declared raw) most_formals)
none_more raw breaks e = sym (append-nil breaks) ∙ ap (λ bs. breaks ++ bs) (ap on_line e ∙ sym (at_line raw))

pub ruleset too_many = (one_more, none_more)
