-- Runs of small graph programs, held against worked rows by computing them.
use Rattle.st_tree.proofs.Common.{◌≡◌, refl, ℕ, true, false, List, [], ◌∷◌, pos, negsuc, Some, None, codes, digits, Areas, End, Ended, Going, Expr, GraphPou, GraphProgram, StNode, Local, Stmt}
use Rattle.memory_areas.specs.declared.place.AreaName.TheVariants as area
use Rattle.s7_base.specs.declared.outcome.Fault.TheVariants.{DbMissing}
use Rattle.s7_base.specs.declared.word.Width.TheVariants as width
use Rattle.memory_areas.specs.declared.call.BlockName.TheVariants.{Ob}
use Rattle.st_tree.specs.GraphRun.{chosen_node, each_pass, graph_run, pass_run}
use Rattle.st_tree.specs.declared.expr.Expr.TheVariants as expr
use Rattle.st_tree.specs.declared.expr.StType.TheVariants as type
use Rattle.st_tree.specs.declared.expr.Var.TheVariants as var
use Rattle.st_tree.specs.declared.graph.StExit.{StExit}
use Rattle.st_tree.specs.declared.graph.StExit.TheVariants as exit
use Rattle.st_tree.specs.declared.program.Stmt.TheVariants as stmt
use Rattle.st_tree.proofs.Equations.{meaning_equations}

abbrev node : List Stmt → StExit → StNode
node steps exit = record { steps = steps; exit = exit; only_end = false }

abbrev function : List Local → List StNode → GraphPou
function formals nodes =
    record {
      head = record { program = false; name = codes "F"; formals = formals; locals = []; body = [] };
      graph = record { nodes = nodes };
    }

-- a graph program of a program `OB1`, and of some functions; its one data block is DB 7
abbrev graph_of : List GraphPou → List StNode → GraphProgram
graph_of functions nodes =
    record {
      dbs = record { number = 7; bytes = 1 ∷ 2 ∷ [] } ∷ [];
      globals = [];
      pous =
          record {
            head = record { program = true; name = codes "OB1"; formals = []; locals = []; body = [] };
            graph = record { nodes = nodes };
          } ∷ functions;
    }

abbrev memory_of : ℕ → Areas
memory_of output = record { inputs = []; outputs = output ∷ []; markers = []; blocks = record { number = 7; bytes = 1 ∷ 2 ∷ [] } ∷ [] }

abbrev nodes_run : List GraphPou → List StNode → ℕ → End
nodes_run functions nodes n = graph_run (graph_of functions nodes) (record { block = Ob 1; instance = 0; actuals = [] }) (memory_of 0) n

abbrev passes_run : List GraphPou → List StNode → ℕ → End
passes_run functions nodes n = pass_run (graph_of functions nodes) (record { block = Ob 1; instance = 0; actuals = [] }) (memory_of 0) n

abbrev writes : ℕ → Stmt
writes n = stmt.Assign (var.Direct area.Q 0 0 width.Byte) (expr.Literal type.Byte (pos n))

abbrev flag_of : ℕ → Expr
flag_of n = expr.Literal type.Bool (pos n)

-- a node falls, and the second one of two ends the unit
abbrev two : List StNode
two = node (writes 1 ∷ []) exit.Fall ∷ node (writes 2 ∷ []) exit.End ∷ []

-- each node that is begun counts; a way forward is no pass
second_node_missed : nodes_run [] two 1 ≡ Going
unfolding digits
second_node_missed = simp meaning_equations

both_nodes : nodes_run [] two 2 ≡ Ended (memory_of 2) None
unfolding digits
both_nodes = simp meaning_equations

one_pass : passes_run [] two 1 ≡ Ended (memory_of 2) None
unfolding digits
one_pass = simp meaning_equations

no_pass : passes_run [] two 0 ≡ Going
unfolding digits
no_pass = refl

-- a way to the same node or an earlier one is a pass
pass_back : each_pass 2 1 ≡ true
pass_back = refl

pass_to_itself : each_pass 1 1 ≡ true
pass_to_itself = refl

pass_forward : each_pass 1 2 ≡ false
pass_forward = refl

-- a branch jumps where its test is TRUE, and else the next node follows
abbrev choice : ℕ → List StNode
choice test = node [] (exit.Branch (flag_of test) 2) ∷ node (writes 3 ∷ []) exit.End ∷ node (writes 4 ∷ []) exit.End ∷ []

jumps : passes_run [] (choice 1) 1 ≡ Ended (memory_of 4) None
unfolding digits
jumps = simp meaning_equations

goes_on : passes_run [] (choice 0) 1 ≡ Ended (memory_of 3) None
unfolding digits
goes_on = simp meaning_equations

-- a unit ends where its test is TRUE
ends_at_test : nodes_run [] (node [] (exit.EndIf (flag_of 1)) ∷ node (writes 5 ∷ []) exit.End ∷ []) 1 ≡ Ended (memory_of 0) None
unfolding digits
ends_at_test = simp meaning_equations

-- a table has an entry for 0, 1, 2 and so on, and a node for all other numbers
first_entry : chosen_node (pos 0) (4 ∷ 5 ∷ []) 9 ≡ 4
first_entry = refl

past_table : chosen_node (pos 2) (4 ∷ 5 ∷ []) 9 ≡ 9
past_table = refl

below_table : chosen_node (negsuc 0) (4 ∷ 5 ∷ []) 9 ≡ 9
below_table = refl

-- a called unit's node counts in both runs
abbrev calls : List StNode
calls = node (stmt.Invoke 1 [] ∷ []) exit.End ∷ []

call_missed : passes_run (function [] (node (writes 6 ∷ []) exit.End ∷ []) ∷ []) calls 1 ≡ Going
unfolding digits
call_missed = simp meaning_equations

call_counts : nodes_run (function [] (node (writes 6 ∷ []) exit.End ∷ []) ∷ []) calls 2 ≡ Ended (memory_of 6) None
unfolding digits
call_counts = simp meaning_equations

-- actuals are located before a unit counts: the fault of one that is not there comes within one node
fault_before_call : nodes_run (function (record { name = codes "x"; ty = type.Byte } ∷ []) (node [] exit.End ∷ []) ∷ [])
    (node (stmt.Invoke 1 (var.InBlock 5 0 0 width.Byte ∷ []) ∷ []) exit.End ∷ []) 1 ≡ Ended (memory_of 0) (Some DbMissing)
unfolding digits
fault_before_call = simp meaning_equations
