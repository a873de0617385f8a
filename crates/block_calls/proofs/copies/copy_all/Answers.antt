use Rattle.std.proofs.Common.{rules, ◌≡◌, ◌⊎◌, ◌∙◌, ◌<◌, ◌≤◌, List, Some, ap, sym, None, get_or, length, slice_get, arith}
use Rattle.std.proofs.lemmas.Option.{slice_get-get_or}
use Rattle.block_calls.proofs.Copying.{copied_next, none_left}
use Rattle.block_calls.specs.inner.Copies.{copied_by}
use Rattle.stl_tree.specs.Calls.{all_copied}
use Rattle.stl_tree.specs.declared.program.Formal.{Formal}
use Rattle.block_calls.proofs.copies.copy_all.Goals as goal

pub loop-k-preserved : goal.loop-k-preserved
loop-k-preserved c =
    let formals = c.formals_at-formals.result.now in
    let places = c.args.places.now in
    let k = c.loop-k.k in
    let f = c.index-formals-k.result in
    let some_formal : c.loop-k.k < length c.formals_at-formals.result.now = first_of (search rules, omega arith) in
    let some_place : c.loop-k.k < length c.args.places.now = first_of (search rules, omega arith) in
    let at_formal : slice_get c.formals_at-formals.result.now c.loop-k.k ≡ Some c.index-formals-k.result =
    slice_get-get_or formals k f some_formal ∙ ap (λ (x : Formal). Some x) (sym c.index-formals-k.is) in
    copied_next c.args.program.now.dbs c.args.way c.args.instance formals places k f
    (get_or places k None) c.copy_one.result c.loop-k.memory c.copy_one.new.memory
    (all_copied (copied_by c.args.way c.args.instance) formals places c.args.memory.now)
    at_formal (slice_get-get_or places k None some_place) c.loop-k.invariant.0 c.loop-k.invariant.1 (search rules) c.loop-k.invariant.2 c.copy_one.ensures

pub returns-clause-copied : goal.returns-clause-copied
returns-clause-copied c =
    let none : (length c.formals_at-formals.result.now ≤ c.loop-k.k) ⊎ (length c.args.places.now ≤ c.loop-k.k) = search rules in
    sym (ap (λ (fs : List Formal). all_copied (copied_by c.args.way c.args.instance) fs c.args.places.now c.args.memory.now) c.formals_at-formals.ensures)
    ∙ c.loop-k.invariant.0
    ∙ none_left (copied_by c.args.way c.args.instance) c.formals_at-formals.result.now c.args.places.now c.loop-k.k c.loop-k.memory none
