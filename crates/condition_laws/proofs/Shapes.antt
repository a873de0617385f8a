-- The bodies of the tree that is made of another are no larger than those of that one, and keep its shape.
use Rattle.std.proofs.Common.{ℕ, List, [], ◌∷◌, map, Option, arith}
use Rattle.condition_laws.proofs.Counts.{arms_stay, loops_stay, others_stay, selectors_stay, tests_stay}
use Rattle.condition_laws.proofs.Depths.{no_deeper}
use Rattle.condition_laws.proofs.Keeping.{low_stays, selector_stays}
use Rattle.condition_laws.proofs.Rewrites.{bodies}
use Rattle.condition_laws.specs.NoLarger.{HasNoLarger, IsNoLarger}
use Rattle.condition_laws.specs.inner.Rewriting.{rewrite_program, rewrite_unit}
use Rattle.st_tree.specs.Fitting.{Paired}
use Rattle.st_tree.specs.declared.program.Pou.{Pou}
use Rattle.st_tree.specs.declared.program.StProgram.{StProgram}
use Rattle.st_tree.specs.declared.program.Stmt.{Stmt}
use Rattle.stl_tree.specs.Flows.{Flow}
use Rattle.text_shapes.specs.IsShaped.{IsShaped}

body_no_larger : (body : List Stmt) → IsNoLarger body (bodies 131 body)
body_no_larger body =
    record {
      loops = loops_stay 131 body;
      tests = tests_stay 131 body;
      selectors = λ next. selectors_stay next 131 body;
      arms = λ next. arms_stay next 131 body;
      cases = λ next. others_stay next 131 body;
      selector = λ next. selector_stays next 131 body;
      low = low_stays 131 body;
      depth = no_deeper 131 body;
    }

units_no_larger : (units : List Pou) → Paired (λ (u : Pou) (v : Pou). IsNoLarger u.body v.body) units (map rewrite_unit units)
units_no_larger [] = tt
units_no_larger (x ∷ xs) = (body_no_larger x.body, units_no_larger xs)

pub no_larger : (tree : StProgram) → HasNoLarger tree (rewrite_program tree)
no_larger tree = units_no_larger tree.pous

-- a body that is no larger has the shape
pub shape_stays : (flow : Flow) (conditionals lists : ℕ) (next : Option ℕ) (old new : List Stmt) → IsNoLarger old new
    → IsShaped flow conditionals lists next old → IsShaped flow conditionals lists next new
shape_stays flow conditionals lists next old new less is =
    record {
      segments = is.segments;
      written = is.written;
      judgements = is.judgements;
      all = is.all;
      some = is.some;
      judged = is.judged;
      declared = is.declared;
      selector = less.selector next is.selector;
      selectors = (let a = less.selectors next in let b = is.selectors in omega arith);
      arms = (let a = less.arms next in let b = is.arms in omega arith);
      cases = (let a = less.cases next in let b = is.cases in omega arith);
      loops = (let a = less.loops in let b = is.loops in omega arith);
      tests = (let a = less.tests in let b = is.tests in omega arith);
    }
