use Rattle.std.proofs.Common.{List, option_and_then, slice_get, ap, ◌∙◌}
use Rattle.call_operands.proofs.ActualLists.{named_at}
use Rattle.stl_tree.specs.declared.raw.RawActual.{RawActual}
use Rattle.call_operands.proofs.actuals.Actuals.actual_named.Goals as goal

pub returns : goal.returns
returns c =
    let actuals = c.args.self.now in
    c.actual_at.ensures ∙ ap (λ (all : List RawActual). option_and_then (λ n. slice_get all n) c.in_ok-place.place) c.self.view_is
    ∙ ap (option_and_then (λ n. slice_get actuals n)) c.in_ok-place.ensures ∙ named_at actuals c.args.name.now
