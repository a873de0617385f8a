use Rattle.std.proofs.Common.{sym, ◌∙◌, subst}
use Rattle.std.specs.List.{slice_split}
use Rattle.image_text.specs.Image.{is_blank, area_line_of}
use Rattle.image_text.specs.inner.Fields.{LineDoes, view}
use Rattle.image_text.proofs.Lines.{line_found, line_spoken}
use Rattle.image_text.proofs.read.apply_line.Goals as goal

pub returns-clause-done : goal.returns-clause-done
returns-clause-done c =
    let spoken = line_spoken c.args.line c.args.text.now c.args.memory.now (sym c.says_nothing.ensures ∙ c.if-says_nothing.false) in
    let found =
    line_found c.args.line (area_line_of (slice_split is_blank c.args.text.now))
    (view c.in-Some.area_line) c.args.memory.now c.in-Some.ensures.area_line c.in-Some.ensures.named c.requires in
    subst (λ defined. LineDoes defined c.apply_area_line.result c.apply_area_line.new.memory) (found ∙ sym spoken) c.apply_area_line.ensures.done
