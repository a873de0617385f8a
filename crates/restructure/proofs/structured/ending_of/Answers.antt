use Rattle.std.proofs.Common.{◌≡◌, List, [], sym, ◌∙◌, subst}
use Rattle.std.proofs.lemmas.Result.{IfOk-weaker}
use Rattle.st_tree.specs.declared.program.Stmt.{Stmt}
use Rattle.graph_rules.specs.Plain.{AreSettings}
use Rattle.unit_regions.specs.MadeCharts.{ending_of}
use Rattle.restructure.proofs.Units.{ending_empty, ending_none, ending_steps}
use Rattle.restructure.proofs.structured.ending_of.Goals as goal
use Rattle.restructure.proofs.structured.ending_of.Goals.{in_default-via-in-Some+else-node, in_default-via-in_default}

pub settings-requires : goal.settings-requires
settings-requires c =
    subst AreSettings (sym c.as_slice.ensures) ((c.requires.plain _ c.in-Some.node.now (sym c.in-Some.ensures.value)).only_end c.if-node.true).settings

pub returns-in-Some : goal.returns-in-Some
returns-in-Some c =
    IfOk-weaker c.settings.result (λ (copy : List Stmt). copy ≡ c.as_slice.result.now) (λ (copy : List Stmt). copy ≡ ending_of c.args.nodes.now)
    (λ copy e. e ∙ (c.as_slice.ensures ∙ sym (ending_steps c.args.nodes.now c.in-Some.node.now (sym c.in-Some.ensures.value) c.if-node.true)))
    c.settings.ensures

pub returns-in_default : goal.returns-in_default
returns-in_default c =
    let none : ending_of c.args.nodes.now ≡ [] =
    elim c.in_default.branch [
      | in_default-via-in-Some+else-node w ↦ ending_none c.args.nodes.now w.in-Some.node.now (sym w.in-Some.ensures.value) w.if-node.false
      | in_default-via-in_default w ↦ ending_empty c.args.nodes.now w.in_default.ensures.value
    ] in
    c.new.ensures ∙ sym none
