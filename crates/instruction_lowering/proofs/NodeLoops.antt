-- The nodes of a body, one block after another: how many locals and which instructions are left behind some blocks.
use Rattle.std.proofs.Common.{◌≡◌, ℕ, ◌+◌, ◌==◌, List, [], ◌∷◌, ◌++◌, drop, take, refl, sym, ap, ◌∙◌}
use Rattle.flow_graph.specs.declared.graph.Node.{Node}
use Rattle.instruction_lowering.specs.inner.Lowering.{count_of, node_of, nodes_from, used_behind}
use Rattle.instruction_lowering.specs.inner.Templates.{context_from}
use Rattle.stl_tree.specs.declared.program.Block.{Block}
use Rattle.stl_tree.specs.declared.program.Instr.{Instr}
use Rattle.st_tree.specs.declared.graph.StNode.{StNode}

-- how many locals are used behind some blocks
abbrev pub used_after : List Block → ℕ → List Instr → List Node → ℕ
used_after program used rest [] = used
used_after program used rest (x ∷ xs) =
    used_after program (used_behind program (context_from used) (take (count_of x) rest)) (drop (count_of x) rest) xs

-- which instructions follow them
abbrev pub left_after : List Instr → List Node → List Instr
left_after rest [] = rest
left_after rest (x ∷ xs) = left_after (drop (count_of x) rest) xs

pub used_end : (program : List Block) (used : ℕ) (rest : List Instr) (xs : List Node) (x : Node)
    → used_after program used rest (xs ++ x ∷ [])
    ≡ used_behind program (context_from (used_after program used rest xs)) (take (count_of x) (left_after rest xs))
used_end program used rest [] x = refl
used_end program used rest (y ∷ xs) x =
    used_end program (used_behind program (context_from used) (take (count_of y) rest)) (drop (count_of y) rest) xs x

pub left_end : (rest : List Instr) (xs : List Node) (x : Node) → left_after rest (xs ++ x ∷ []) ≡ drop (count_of x) (left_after rest xs)
left_end rest [] x = refl
left_end rest (y ∷ xs) x = left_end (drop (count_of y) rest) xs x

pub nodes_end : (program : List Block) (size used : ℕ) (rest : List Instr) (xs : List Node) (x : Node)
    → nodes_from program size used rest (xs ++ x ∷ [])
    ≡ nodes_from program size used rest xs
    ++ node_of program (context_from (used_after program used rest xs)) (take (count_of x) (left_after rest xs)) x.exit (x.first + 1 == size) ∷ []
nodes_end program size used rest [] x = refl
nodes_end program size used rest (y ∷ xs) x =
    ap (λ (nodes : List StNode). node_of program (context_from used) (take (count_of y) rest) y.exit (y.first + 1 == size) ∷ nodes)
    (nodes_end program size (used_behind program (context_from used) (take (count_of y) rest)) (drop (count_of y) rest) xs x)

-- One more block

module _ (program : List Block) (body : List Instr) (xs : List Node) (x : Node) where
  pub next_left : (rest after : List Instr) → rest ≡ left_after body xs → after ≡ drop (count_of x) rest → after ≡ left_after body (xs ++ x ∷ [])
  next_left rest after e f = f ∙ ap (drop (count_of x)) e ∙ sym (left_end body xs x)

  pub next_used : (rest : List Instr) (used after : ℕ) → rest ≡ left_after body xs → used ≡ used_after program 0 body xs
      → after ≡ used_behind program (context_from used) (take (count_of x) rest) → after ≡ used_after program 0 body (xs ++ x ∷ [])
  next_used rest used after e f g =
      g ∙ ap (λ (n : ℕ). used_behind program (context_from n) (take (count_of x) rest)) f
      ∙ ap (λ (ys : List Instr). used_behind program (context_from (used_after program 0 body xs)) (take (count_of x) ys)) e
      ∙ sym (used_end program 0 body xs x)

  pub next_nodes : (size : ℕ) (rest : List Instr) (used : ℕ) (nodes after : List StNode) (node : StNode) → rest ≡ left_after body xs
      → used ≡ used_after program 0 body xs → nodes ≡ nodes_from program size 0 body xs
      → node ≡ node_of program (context_from used) (take (count_of x) rest) x.exit (x.first + 1 == size) → after ≡ nodes ++ node ∷ []
      → after ≡ nodes_from program size 0 body (xs ++ x ∷ [])
  next_nodes size rest used nodes after node e f g h k =
      k ∙ ap (λ (ns : List StNode). ns ++ node ∷ []) g
      ∙ ap (λ (n : StNode). nodes_from program size 0 body xs ++ n ∷ [])
      (h ∙ ap (λ (n : ℕ). node_of program (context_from n) (take (count_of x) rest) x.exit (x.first + 1 == size)) f
      ∙ ap (λ (ys : List Instr). node_of program (context_from (used_after program 0 body xs)) (take (count_of x) ys) x.exit (x.first + 1 == size)) e)
      ∙ sym (nodes_end program size 0 body xs x)
