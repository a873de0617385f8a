use Rattle.std.proofs.Common.{◌≡◌, ◌∙◌, map, drop, sym}
use Rattle.block_calls.proofs.Stacking.{popped}
use Rattle.block_calls.specs.inner.Views.{activation}
use Rattle.block_calls.proofs.stack.Stack.pop.Goals as goal

pub returns : goal.returns
returns c =
    let s : c.args.self.now ≡ map activation (drop c.self.inside.free c.self.inside.frames.items) = sym c.self.view_is in
    let r = popped c.self.inside.frames.items c.self.inside.free (λ e. c.requires (s ∙ e)) in
    (r.0, s ∙ r.1)
