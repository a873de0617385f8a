-- The graph of a body has its nodes and their cuts.
use Rattle.std.proofs.Common.{◌≡◌, ℕ, List, subst, sym}
use Rattle.stl_tree.specs.Segments.{AreCuts}
use Rattle.stl_tree.specs.declared.program.Instr.{Instr}
use Rattle.flow_graph.specs.Graphs.{IsGraphOf, ways_after}
use Rattle.flow_graph.specs.declared.graph.Exit.{Exit}
use Rattle.flow_graph.specs.declared.graph.Node.{Node}
use Rattle.flow_graph.specs.inner.Making.{AreBlocks, joined_from}
use Rattle.flow_graph.proofs.Making.{exits_joined}

pub is_graph : (body : List Instr) (bounds : List ℕ) (exits : List Exit) (nodes : List Node) (cuts : List ℕ) → AreBlocks body bounds exits
    → nodes ≡ joined_from 0 bounds exits → AreCuts (ways_after exits) cuts → IsGraphOf body (record { nodes = nodes; cuts = cuts })
is_graph body bounds exits nodes cuts made same cut =
    subst (λ ns. IsGraphOf body (record { nodes = ns; cuts = cuts })) (sym same) (record {
      nodes = made.blocks;
      exits = made.lead;
      cuts = subst (λ ways. AreCuts ways cuts) (sym (exits_joined 0 bounds exits)) cut;
    })
