use Rattle.st_tree.proofs.Common.{◌≡◌, rules, ℤ, FitsSigned, w64, ap, ◌∙◌, int_wrapping_div, typed}
use Rattle.std.proofs.Common.{to_z, of_z}
use Rattle.std.proofs.lemmas.Int.{to_z-of_z}
use Rattle.st_runner.proofs.Wraps.{fit_quotient}
use Rattle.st_runner.proofs.operators.truncated_quotient.Goals as goal

pub returns : goal.returns
returns c =
    let x : ℤ = c.args.v.n in
    let y : ℤ = c.args.w.n in
    let d : ℤ = c.wrapping_div.result in
    let fx : FitsSigned w64 c.args.v.n = search rules in
    let fy : FitsSigned w64 c.args.w.n = search rules in
    let fd : FitsSigned w64 c.wrapping_div.result = search rules in
    let e : d ≡ int_wrapping_div w64 x y =
    c.wrapping_div.ensures
    ∙ ap (λ z. int_wrapping_div w64 z (to_z w64 (of_z w64 y))) (to_z-of_z w64 x fx)
    ∙ ap (λ z. int_wrapping_div w64 x z) (to_z-of_z w64 y fy) in
    c.typed.ensures
    ∙ ap (typed c.args.v.ty) (to_z-of_z w64 d fd ∙ e)
    ∙ ap (λ (n : ℤ). record { ty = c.args.v.ty; n = n }) (fit_quotient c.args.v.ty x y fx)
