-- A program, its graph program and the text of that: what holds of both steps holds of the whole.
use Rattle.std.proofs.Common.{◌+◌, ◌∙◌}
use Rattle.region_laws.specs.SameRuns.{SameAsGraph}
use Rattle.instruction_lowering.specs.Lowered.{Lowered}
use Rattle.st_tree.specs.declared.graph.GraphProgram.{GraphProgram}
use Rattle.st_tree.specs.declared.program.StProgram.{StProgram}
use Rattle.stl_tree.specs.declared.program.Program.{Program}
use Rattle.stl_translate.specs.Same.{Same}

pub same_whole : (program : Program) (graph : GraphProgram) (tree : StProgram) → Lowered program graph → SameAsGraph graph tree → Same program tree
same_whole program graph tree lowered same =
    record {
      blocks = same.blocks ∙ lowered.blocks;
      fits = λ call fits. same.fits call (lowered.fits call fits);
      fits_back = λ call numbered fits. lowered.fits_back call numbered (same.fits_back call fits);
      runs = λ call fits.
          record {
            forth = λ memory valid n after fault e. same.forth call memory n after fault ((lowered.runs call fits).forth memory valid n after fault e);
            back = λ memory valid units after fault e.
                (lowered.runs call fits).back memory valid (units + 1) after fault (same.back call memory units after fault e);
          };
    }
