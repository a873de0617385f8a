-- What is said of a text is said of it as it is polished.
use Rattle.std.proofs.Common.{List, [], ◌∷◌, length, Result, Ok, Err, sym, subst, ◌∙◌}
use Rattle.std.specs.Prelude.{◌*◌, All, IfOk}
use Rattle.condition_laws.proofs.Shapes.{shape_stays}
use Rattle.condition_laws.specs.Kept.{KeepsHead}
use Rattle.condition_laws.specs.NoLarger.{HasNoLarger, IsNoLarger}
use Rattle.flow_graph.specs.Graphs.{flow_of}
use Rattle.graph_texts.specs.Heads.{IsNamedLocal}
use Rattle.graph_texts.specs.NextOf.{next_of}
use Rattle.instruction_lowering.specs.UnitNames.{in_order}
use Rattle.memory_areas.specs.Areas.{IsMemoryOf}
use Rattle.memory_areas.specs.declared.data_block.DataBlock.{DataBlock}
use Rattle.st_polish.specs.Names.{KeepsNames}
use Rattle.st_polish.specs.SameRuns.{RunsAsBefore}
use Rattle.st_tree.specs.Fitting.{Paired}
use Rattle.st_tree.specs.declared.program.Local.{Local}
use Rattle.st_tree.specs.declared.program.Pou.{Pou}
use Rattle.st_tree.specs.declared.program.StProgram.{StProgram}
use Rattle.stl_tree.specs.declared.program.Block.{Block}
use Rattle.stl_tree.specs.declared.program.Program.{Program}
use Rattle.text_shapes.specs.IsShaped.{IsShaped}
use Rattle.stl_translate.specs.Named.{AreNamedAs, IsNamedAs, Named}
use Rattle.stl_translate.specs.Same.{Same}
use Rattle.stl_translate.specs.Shape.{AreShapedBy, IsShapedBy, Shape, conditionals_in, lists_in}

-- what two clauses of one result give together
pub if_both : {X E : Type 0} (r : Result X E) (P Q R : X → Type 0) → ((x : X) → P x → Q x → R x) → IfOk r P → IfOk r Q → IfOk r R
if_both (Ok x) P Q R f p q = f x p q
if_both (Err e) P Q R f p q = tt

-- Runs

pub same_polished : (program : Program) (text tree : StProgram) → Same program text → RunsAsBefore text tree → Same program tree
same_polished program text tree same before =
    record {
      blocks = before.blocks ∙ same.blocks;
      fits = λ call fits. before.fits call (same.fits call fits);
      fits_back = λ call numbered fits. same.fits_back call numbered (before.fits_back call fits);
      runs = λ call fits.
          record {
            forth = λ memory valid n after fault e.
                before.runs call memory (2 * n) (same.fits call fits)
                (subst (λ (blocks : List DataBlock). IsMemoryOf blocks memory) (sym same.blocks) valid)
                ∙ (same.runs call fits).forth memory valid n after fault e;
            back = λ memory valid units after fault e.
                (same.runs call fits).back memory valid units after fault
                (sym
                (before.runs call memory units (same.fits call fits)
                (subst (λ (blocks : List DataBlock). IsMemoryOf blocks memory) (sym same.blocks) valid))
                ∙ e);
          };
    }

-- Names

named_as : (block : Block) (text unit : Pou) → KeepsHead text unit → IsNamedAs block text → IsNamedAs block unit
named_as block text unit h k =
    record {
      kind = h.kind ∙ k.kind;
      name = h.name ∙ k.name;
      formals = h.formals ∙ k.formals;
      locals = subst (All IsNamedLocal) (sym h.locals) k.locals;
    }

are_named_as : (blocks : List Block) (texts units : List Pou) → Paired KeepsHead texts units → AreNamedAs blocks texts
    → AreNamedAs blocks units
are_named_as [] [] [] h k = tt
are_named_as (block ∷ blocks) (text ∷ texts) (unit ∷ units) h k =
    (named_as block text unit h.0 k.0, are_named_as blocks texts units h.1 k.1)
are_named_as [] [] (unit ∷ units) h k = absurd h
are_named_as [] (text ∷ texts) units h k = absurd k
are_named_as (block ∷ blocks) [] units h k = absurd k
are_named_as (block ∷ blocks) (text ∷ texts) [] h k = absurd h

pub named_polished : (program : Program) (text tree : StProgram) → AreNamedAs (in_order program.blocks) text.pous
    → KeepsNames program.symbols text tree → Named program tree
named_polished program text tree named names =
    record { units = are_named_as (in_order program.blocks) text.pous tree.pous names.units named; symbols = names.named }

-- Shapes

abbrev Smaller : Pou → Pou → Type 0
Smaller u v = IsNoLarger u.body v.body

shaped_by : (block : Block) (text unit : Pou) → KeepsHead text unit → Smaller text unit → IsShapedBy block text → IsShapedBy block unit
shaped_by block text unit h less s =
    record {
      graph = s.graph;
      is_graph = s.is_graph;
      shape =
          shape_stays (flow_of (length block.body) s.graph.nodes) (conditionals_in block.body) (lists_in block.body)
          (next_of unit.locals) text.body unit.body less
          (subst
          (λ (locals : List Local).
          IsShaped (flow_of (length block.body) s.graph.nodes) (conditionals_in block.body) (lists_in block.body) (next_of locals) text.body)
          (sym h.locals) s.shape);
    }

are_shaped_by : (blocks : List Block) (texts units : List Pou) → Paired KeepsHead texts units → Paired Smaller texts units
    → AreShapedBy blocks texts → AreShapedBy blocks units
are_shaped_by [] [] [] h less s = tt
are_shaped_by (block ∷ blocks) (text ∷ texts) (unit ∷ units) h less s =
    (shaped_by block text unit h.0 less.0 s.0, are_shaped_by blocks texts units h.1 less.1 s.1)
are_shaped_by [] [] (unit ∷ units) h less s = absurd h
are_shaped_by [] (text ∷ texts) units h less s = absurd s
are_shaped_by (block ∷ blocks) [] units h less s = absurd s
are_shaped_by (block ∷ blocks) (text ∷ texts) [] h less s = absurd h

pub shape_polished : (program : Program) (text tree : StProgram) → Shape program text → Paired KeepsHead text.pous tree.pous
    → HasNoLarger text tree → Shape program tree
shape_polished program text tree shape heads less = are_shaped_by (in_order program.blocks) text.pous tree.pous heads less shape
