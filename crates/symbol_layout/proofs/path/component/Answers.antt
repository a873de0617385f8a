use Rattle.std.proofs.Common.{◌≡◌, List, ℕ, ap, sym, ◌∙◌, drop}
use Rattle.std.specs.Option.{option_map}
use Rattle.std.specs.Prelude.{None, Some}
use Rattle.stl_tree.specs.declared.raw.Declaration.{Declaration}
use Rattle.stl_tree.specs.declared.raw.PathStep.{PathStep}
use Rattle.symbol_layout.proofs.Turns.{component_found}
use Rattle.stl_rules.specs.Paths.{Placed, named_in, after_path}
use Rattle.symbol_layout.specs.Kept.{capped_placed, placed_of_code}
use Rattle.symbol_layout.proofs.path.component.Goals as goal

pub returns-in_ok-at-in-Name : goal.returns-in_ok-at-in-Name
returns-in_ok-at-in-Name c =
    let start : Placed = placed_of_code c.in_ok-start-in-Name.start in
    let named : Some start ≡ capped_placed (named_in 0 c.args.decls.now.sections c.in-Name.name) =
    ap (option_map placed_of_code) (sym c.in_ok-start-in-Name.was) ∙ c.named_in.ensures
    ∙ ap (λ (sections : List (List Declaration)). capped_placed (named_in 0 sections c.as_slice-in-Name.result.now)) c.as_slice.ensures
    ∙ ap (λ (name : List ℕ). capped_placed (named_in 0 c.args.decls.now.sections name)) c.as_slice-in-Name.ensures in
    let walks : Some (placed_of_code c.in_ok-at-in-Name.at) ≡ capped_placed (after_path (drop 1 c.args.path.now) start) =
    ap (option_map placed_of_code) (sym c.in_ok-at-in-Name.was) ∙ c.after_path.ensures
    ∙ ap (λ (path : List PathStep). capped_placed (after_path path start)) c.rest_after.ensures in
    ap Some c.component_at.ensures
    ∙ component_found c.args.decls.now.sections c.args.path.now c.first-item.result c.in-Name.name c.in-len1-up.len_at_least
    c.first-item.is c.in-Name.is start named (Some (placed_of_code c.in_ok-at-in-Name.at)) walks

pub returns-in_err-at-in-Name : goal.returns-in_err-at-in-Name
returns-in_err-at-in-Name c =
    let start : Placed = placed_of_code c.in_ok-start-in-Name.start in
    let named : Some start ≡ capped_placed (named_in 0 c.args.decls.now.sections c.in-Name.name) =
    ap (option_map placed_of_code) (sym c.in_ok-start-in-Name.was) ∙ c.named_in.ensures
    ∙ ap (λ (sections : List (List Declaration)). capped_placed (named_in 0 sections c.as_slice-in-Name.result.now)) c.as_slice.ensures
    ∙ ap (λ (name : List ℕ). capped_placed (named_in 0 c.args.decls.now.sections name)) c.as_slice-in-Name.ensures in
    let walks : None ≡ capped_placed (after_path (drop 1 c.args.path.now) start) =
    c.in_err-at-in-Name.ensures ∙ ap (λ (path : List PathStep). capped_placed (after_path path start)) c.rest_after.ensures in
    c.from_residual-in_err-at-in-Name.ensures
    ∙ component_found c.args.decls.now.sections c.args.path.now c.first-item.result c.in-Name.name c.in-len1-up.len_at_least
    c.first-item.is c.in-Name.is start named None walks
