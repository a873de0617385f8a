-- Statements with other variables do the same, where each of these means what the variable in its place meant. So do the
-- calls of a text, and its runs.
use Rattle.std.proofs.Common.{◌≡◌, ℕ, zero, suc, Bool, true, false, cond, List, [], ◌∷◌, map, Option, Some, None, Result, Ok, refl, sym, subst, ap, ◌∙◌}
use Rattle.std.specs.Prelude.{option_map, slice_get}
use Rattle.std.proofs.lemmas.Option.{slice_get-map}
use Rattle.memory_areas.specs.Access.{and_then}
use Rattle.memory_areas.specs.Areas.{Areas}
use Rattle.memory_areas.specs.declared.call.BlockName.{BlockName}
use Rattle.memory_areas.specs.declared.call.BlockName.TheVariants as name
use Rattle.memory_areas.specs.declared.call.Call.{Call}
use Rattle.memory_areas.specs.declared.place.Place.{Place}
use Rattle.s7_base.specs.declared.outcome.Fault.{Fault}
use Rattle.s7_base.specs.declared.word.Width.{Width}
use Rattle.st_tree.specs.Calls.{after_unit, calls_to, enter_with, located_actual, located_actuals, state_on_entry, unit_call, unit_step}
use Rattle.st_tree.specs.Meaning.{Calls, Guarded, Labelled, NoUnits, Sem, arm_step, body_meaning, case_step, first_with, in_order, loop, state_or_fault, stmt_step, with_value}
use Rattle.st_tree.specs.StRun.{FitsIfThere, FitsUnit, end_seen, is_meant, run_of_unit, state_at_start, unit_called}
use Rattle.st_tree.specs.State.{State, area_write, read_at, reference_of, write_at}
use Rattle.st_tree.specs.Value.{Worth, value, value_step}
use Rattle.st_tree.specs.declared.expr.Expr.{Expr}
use Rattle.st_tree.specs.declared.expr.Expr.TheOpen as E
use Rattle.st_tree.specs.declared.expr.Var.{Var}
use Rattle.st_tree.specs.declared.program.Located.{Located}
use Rattle.st_tree.specs.declared.program.Pou.{Pou}
use Rattle.st_tree.specs.declared.program.StProgram.{StProgram}
use Rattle.st_tree.specs.declared.program.Stmt.{Stmt}
use Rattle.st_tree.specs.declared.program.Stmt.TheOpen as S
use Rattle.st_tree.specs.declared.state.Reference.{Reference}
use Rattle.st_globals.specs.NamedText.{HaveSameRuns}
use Rattle.st_globals.specs.WithVariables.{body_with, expr_with, unit_with}
use Rattle.st_globals.proofs.With.{arm_layer, body_fold, both, expr_fold, expr_layer, stmt_layer}

module _ (old new : List Located) (f : Var → Var) (same : (v : Var) → reference_of new (f v) ≡ reference_of old v) where
  value_layers : (y : E.Expr-F Worth) → value_step new (expr_layer f y) ≡ value_step old y
  value_layers (E.Literal ty n) = refl
  value_layers (E.Read v) = λ i s. and_then (same v i s) (λ (r : Reference). read_at r s)
  value_layers (E.Unary op a) = refl
  value_layers (E.Binary op a b) = refl
  value_layers (E.Convert from to a) = refl
  value_layers (E.Select gate a b) = refl
  value_layers (E.Shift op a b) = refl
  value_layers (E.AreaRead w a) = refl

  pub values_same : (e : Expr) → value new (expr_with f e) ≡ value old e
  values_same e = expr_fold f (value_step new) (value_step old) value_layers e

  module _ (calls : Calls) where
    -- calls that are given the other variables
    abbrev pub calls_with : Calls
    calls_with n vars = calls n (map f vars)

    stmt_layers : (y : S.Stmt-F Sem Guarded Labelled) → stmt_step new calls (stmt_layer f y) ≡ stmt_step old calls_with y
    stmt_layers (S.Assign v e) =
        λ i units s. state_or_fault (and_then (values_same e i s) (λ w. and_then (same v i s) (λ (r : Reference). write_at r w s))) units s
    stmt_layers (S.AreaWrite w p e) =
        λ i units s.
        state_or_fault (and_then (values_same p i s) (λ at. and_then (values_same e i s) (λ v. area_write w at v s))) units s
    stmt_layers (S.Invoke n actuals) = refl
    stmt_layers (S.If arms other) = refl
    stmt_layers (S.Case e arms other) =
        λ i units s. with_value (values_same e i s) units s (λ v. first_with v.n arms (in_order other) units s)
    stmt_layers (S.While test body) = λ i units s. loop (values_same test i) (in_order body) units s
    stmt_layers S.Exit = refl
    stmt_layers S.Continue = refl
    stmt_layers S.Return = refl

    arm_layers : (y : S.Arm-F Sem Guarded Labelled) → arm_step new (arm_layer f y) ≡ arm_step old y
    arm_layers y = λ i. (values_same y.test i, in_order y.body)

    pub bodies_same : (body : List Stmt) → body_meaning new calls (body_with f body) ≡ body_meaning old calls_with body
    bodies_same body =
        ap in_order
        (body_fold f (stmt_step new calls) (stmt_step old calls_with) (arm_step new) (arm_step old) case_step case_step stmt_layers
        arm_layers (λ y. refl) body)

-- Texts

module _ (tree : StProgram) (new : List Located) (f : Var → Var)
    (same : (v : Var) → reference_of new (f v) ≡ reference_of tree.globals v)
    (actual_same : (v : Var) (s : State) → located_actual new (f v) s ≡ located_actual tree.globals v s)
  where
    abbrev other : StProgram
    other = record tree { globals = new; pous = map (unit_with f) tree.pous }

    actuals_same : (vars : List Var) (s : State) → located_actuals new (map f vars) s ≡ located_actuals tree.globals vars s
    actuals_same [] s = refl
    actuals_same (v ∷ vars) s =
        both (λ (a : Result Reference Fault) (b : Result (List Reference) Fault). and_then a (λ r. and_then b (λ more. Ok (r ∷ more))))
        (actual_same v s) (actuals_same vars s)

    entered : (calls now : Calls) → calls_with tree.globals new f same calls ≡ now → (o : Option Pou) (formals : List Reference)
        (units : ℕ) (s : State)
        → unit_step other calls (option_map (unit_with f) o) formals units s ≡ unit_step tree now o formals units s
    entered calls now e None formals units s = refl
    entered calls now e (Some unit) formals units s =
        ap (λ (m : Sem). after_unit (m units (state_on_entry unit formals s)))
        (bodies_same tree.globals new f same calls unit.body ∙ ap (λ (c : Calls). body_meaning tree.globals c unit.body) e)

    unit_entered : (calls now : Calls) → calls_with tree.globals new f same calls ≡ now → (n : ℕ)
        → unit_step other calls (slice_get (map (unit_with f) tree.pous) n) ≡ unit_step tree now (slice_get tree.pous n)
    unit_entered calls now e n =
        ap (unit_step other calls) (slice_get-map (unit_with f) tree.pous n)
        ∙ (λ i formals units s. entered calls now e (slice_get tree.pous n) formals units s i)

    one_deeper : (deep : ℕ) → calls_with tree.globals new f same (calls_to deep other) ≡ calls_to deep tree → (n : ℕ) (vars : List Var)
        (units : ℕ) (s : State)
        → unit_call other (calls_to deep other) n (map f vars) units s ≡ unit_call tree (calls_to deep tree) n vars units s
    one_deeper deep e n vars zero s = refl
    one_deeper deep e n vars (suc units) s =
        both (λ (enter : List Reference → Sem) (r : Result (List Reference) Fault). enter_with enter r units s)
        (unit_entered (calls_to deep other) (calls_to deep tree) e n) (actuals_same vars s)

    pub calls_same : (deep : ℕ) → calls_with tree.globals new f same (calls_to deep other) ≡ calls_to deep tree
    calls_same zero = λ i n vars units s. NoUnits s
    calls_same (suc deep) = λ i n vars units s. one_deeper deep (calls_same deep) n vars units s i

    unit_run : (o : Option Pou) (call : Call) (memory : Areas) (units : ℕ)
        → run_of_unit other (option_map (unit_with f) o) call memory units ≡ run_of_unit tree o call memory units
    unit_run None call memory units = refl
    unit_run (Some unit) call memory units =
        ap (λ (m : Sem). end_seen (m units (state_at_start unit call memory)))
        (bodies_same tree.globals new f same (calls_to units other) unit.body
        ∙ ap (λ (c : Calls). body_meaning tree.globals c unit.body) (calls_same units))

    find_next : (unit : Pou) (b : Bool) (o now : Option Pou) → o ≡ option_map (unit_with f) now
        → cond b (Some (unit_with f unit)) o ≡ option_map (unit_with f) (cond b (Some unit) now)
    find_next unit true o now e = refl
    find_next unit false o now e = e

    found : (called : BlockName) (units : List Pou) → unit_called called (map (unit_with f) units)
        ≡ option_map (unit_with f) (unit_called called units)
    found called [] = refl
    found called (unit ∷ units) =
        find_next unit (is_meant called unit) (unit_called called (map (unit_with f) units)) (unit_called called units)
        (found called units)

    fits_unit : (unit : Pou) (called : BlockName) (instance : ℕ) (actuals : List (Place × Width))
        → FitsUnit tree.dbs unit called instance actuals → FitsUnit tree.dbs (unit_with f unit) called instance actuals
    fits_unit unit (name.Ob n) instance actuals h = h
    fits_unit unit (name.Fc n) instance actuals h = h
    fits_unit unit (name.Fb n) instance actuals h = record { formals = h.formals; block = h.block }

    unit_fits : (unit : Pou) (called : BlockName) (instance : ℕ) (actuals : List (Place × Width))
        → FitsUnit tree.dbs (unit_with f unit) called instance actuals → FitsUnit tree.dbs unit called instance actuals
    unit_fits unit (name.Ob n) instance actuals h = h
    unit_fits unit (name.Fc n) instance actuals h = h
    unit_fits unit (name.Fb n) instance actuals h = record { formals = h.formals; block = h.block }

    fits_there : (call : Call) (o : Option Pou) → FitsIfThere tree call o → FitsIfThere other call (option_map (unit_with f) o)
    fits_there call None h = h
    fits_there call (Some unit) h = fits_unit unit call.block call.instance call.actuals h

    there_fits : (call : Call) (o : Option Pou) → FitsIfThere other call (option_map (unit_with f) o) → FitsIfThere tree call o
    there_fits call None h = h
    there_fits call (Some unit) h = unit_fits unit call.block call.instance call.actuals h

    pub same_runs : HaveSameRuns tree other
    same_runs =
        record {
          fits = λ call h.
              subst (FitsIfThere other call) (sym (found call.block tree.pous)) (fits_there call (unit_called call.block tree.pous) h);
          fits_back = λ call h.
              there_fits call (unit_called call.block tree.pous) (subst (FitsIfThere other call) (found call.block tree.pous) h);
          runs = λ call memory units.
              ap (λ (o : Option Pou). run_of_unit other o call memory units) (found call.block tree.pous)
              ∙ unit_run (unit_called call.block tree.pous) call memory units;
        }
