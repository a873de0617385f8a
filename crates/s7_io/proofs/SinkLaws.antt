-- What a sink takes in one write after another.
use Rattle.std.proofs.Common.{ℕ, List, ◌++◌, Option, None, Some, append_assoc}
use Rattle.s7_io.specs.Sink.{Took}

-- what two writes put there stands in the order of the writes
pub Took-more : (a b c : Option (List ℕ)) (xs ys : List ℕ)
    → Took a b xs → Took b c ys → Took a c (xs ++ ys)
Took-more None None None xs ys first second = tt
Took-more None None (Some c) xs ys first second = second
Took-more None (Some b) c xs ys first second = absurd first
Took-more (Some a) None c xs ys first second = absurd first
Took-more (Some a) (Some b) None xs ys first second = second
Took-more (Some a) (Some b) (Some c) xs ys first second =
    rw second (rw first (append_assoc a xs ys))
