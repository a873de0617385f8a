use Rattle.st_tree.proofs.Common.{◌≡◌, map, slice_set, sym, subst, with_local}
use Rattle.st_runner.proofs.Frames.{changed, frame_there, set_frames, set_seen}
use Rattle.st_runner.specs.inner.View.{AreFrames, activation_view}
use Rattle.st_runner.specs.declared.state.Activation.{Activation as Kept}
use Rattle.st_runner.proofs.state.put_local.Goals as goal

pub returns-clause-change : goal.returns-clause-change
returns-clause-change c =
    let a = c.index_mut-activation.result.now in
    let xs = c.args.activations.now.items in
    let d = c.args.d in
    subst (λ (z : Kept). map activation_view (slice_set xs d (changed z c.args.i c.args.v)) ≡ with_local d c.args.i c.args.v (map activation_view xs))
    (sym c.index_mut-activation.ensures.value)
    (set_seen xs d c.args.i c.args.v a (frame_there xs d c.args.i c.requires))

pub returns-clause-frames : goal.returns-clause-frames
returns-clause-frames c = λ l f frames.
    let a = c.index_mut-activation.result.now in
    let xs = c.args.activations.now.items in
    let d = c.args.d in
    subst (λ (z : Kept). AreFrames l f (slice_set xs d (changed z c.args.i c.args.v))) (sym c.index_mut-activation.ensures.value)
    (set_frames l f xs d c.args.i c.args.v a (frame_there xs d c.args.i c.requires) frames)
