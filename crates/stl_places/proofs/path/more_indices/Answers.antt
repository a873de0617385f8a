use Rattle.std.proofs.Common.{rules, ◌≡◌, ◌∙◌, ◌+◌, ◌∷◌, ◌++◌, [], List, ℕ, ℤ, FitsSigned, w64, length, sym, ap, arith}
use Rattle.std.proofs.lemmas.Int.{to_z-of_z}
use Rattle.std.proofs.lemmas.List.{length-drop}
use Rattle.s7_base.specs.declared.token.Token.{Token}
use Rattle.stl_statement_grammar.specs.Paths.{next_index_at}
use Rattle.stl_statement_grammar.specs.Readers.{all_items}
use Rattle.stl_places.proofs.Repeated.{before, item_done}
use Rattle.stl_places.proofs.path.more_indices.Goals as goal

pub loop-index-preserved : goal.loop-index-preserved
loop-index-preserved c =
    let done : List ℤ = c.loop-index.indices in
    let rest : List Token = c.loop-index.rest.now in
    let taken : ℕ = c.loop-index.taken in
    let index : ℤ = c.in-Fits.index in
    let size : ℕ = c.in-Fits.size in
    let fits : FitsSigned w64 c.in-Fits.index = search rules in
    let pushed : c.push-in-Fits.new.self ≡ done ++ index ∷ [] = c.in_ok-push-2.ensures.ok ∙ ap (λ (z : ℤ). done ++ z ∷ []) (to_z-of_z w64 index fits) in
    record {
      within = omega (
        arith,
        length-drop size rest,
        ap (λ (ts : List Token). length ts) c.rest_after-rest.ensures,
        c.loop-index.invariant.within,
        c.in-Fits.ensures.within.0,
        c.in-Fits.ensures.within.1,
      );
      same =
          ap (λ (all : List ℤ). before all (taken + size) (all_items next_index_at 0 c.rest_after-rest.result.now)) pushed
          ∙ ap (λ (ts : List Token). before (done ++ index ∷ []) (taken + size) (all_items next_index_at 0 ts)) c.rest_after-rest.ensures
          ∙ item_done next_index_at done taken rest index size (sym c.in-Fits.ensures.value) c.in-Fits.ensures.within.0 c.in-Fits.ensures.within.1
          ∙ c.loop-index.invariant.same;
    }
