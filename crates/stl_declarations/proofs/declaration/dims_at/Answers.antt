use Rattle.std.proofs.Common.{List, refl, sym, ap, ◌∙◌}
use Rattle.std.specs.Prelude.{codes}
use Rattle.s7_base.specs.declared.token.Token.{Token}
use Rattle.stl_grammar.specs.Declarations.{bounds_at, dims_at}
use Rattle.stl_constants.specs.inner.Lists.{next_of}
use Rattle.stl_constants.proofs.ListReading.{begun, ended, went_on, stopped, missing, left_out}
use Rattle.stl_declarations.proofs.declaration.dims_at.Goals as goal

pub loop-rest-init : goal.loop-rest-init
loop-rest-init c = rw c.new-dims.ensures (begun (dims_at c.args.tokens.now))

pub returns-in-End : goal.returns-in-End
returns-in-End c =
    rw (c.in_ok-push-in-Fits.ensures.ok, c.in_ok-size-in-Fits.ensures)
    (ended bounds_at (codes "]") c.loop-rest.dims c.loop-rest.size c.loop-rest.rest.now c.in-Fits.bounds c.in-Fits.taken _
    (sym c.in-Fits.is ∙ c.in_ok-bounds.ensures)
    (c.in-End.ensures ∙ ap (λ (ts : List Token). next_of (codes "]") ts) c.rest_after.ensures) c.loop-rest.invariant)

pub loop-rest-preserved : goal.loop-rest-preserved
loop-rest-preserved c =
    rw (c.in_ok-push-in-Fits.ensures.ok, c.in_ok-size-in-Fits.ensures, c.rest_after-rest.ensures, c.rest_after-in-More.ensures)
    (went_on bounds_at (codes "]") c.loop-rest.dims c.loop-rest.size c.loop-rest.rest.now c.in-Fits.bounds c.in-Fits.taken _
    (sym c.in-Fits.is ∙ c.in_ok-bounds.ensures)
    (c.in-More.ensures ∙ ap (λ (ts : List Token). next_of (codes "]") ts) c.rest_after.ensures) c.loop-rest.invariant)

pub returns-in-Other : goal.returns-in-Other
returns-in-Other c =
    stopped bounds_at (codes "]") c.loop-rest.dims c.loop-rest.size c.loop-rest.rest.now
    c.in-Fits.bounds c.in-Fits.taken _ (sym c.in-Fits.is ∙ c.in_ok-bounds.ensures)
    (c.in-Other.ensures ∙ ap (λ (ts : List Token). next_of (codes "]") ts) c.rest_after.ensures) c.loop-rest.invariant

pub returns-in-LeftOut : goal.returns-in-LeftOut
returns-in-LeftOut c =
    left_out bounds_at (codes "]") c.loop-rest.dims c.loop-rest.size c.loop-rest.rest.now c.in-LeftOut.kind _ refl
    (sym c.in-LeftOut.is ∙ c.in_ok-bounds.ensures) c.loop-rest.invariant

pub returns-in-No : goal.returns-in-No
returns-in-No c =
    missing bounds_at (codes "]") c.loop-rest.dims c.loop-rest.size c.loop-rest.rest.now _ (sym c.in-No.is ∙ c.in_ok-bounds.ensures) c.loop-rest.invariant
