-- The calls of an accepted program: they give what the called block asks for.
use Rattle.std.proofs.Common.{◌≡◌, ℕ, zero, suc, ◌≤◌, ◌==◌, Bool, true, false, not, if◌then◌else◌, List, [], length, map, Option, Some, None, refl, sym, ap, ◌∙◌, subst, arith}
use Rattle.std.specs.Prelude.{All, IsSome, slice_get}
use Rattle.std.proofs.lemmas.Bool.Decides.{nat_tests}
use Rattle.std.proofs.lemmas.List.Elements.{All-contains}
use Rattle.call_templates.specs.CallLaw.{IsCallOf, widths_inside}
use Rattle.memory_areas.specs.declared.call.BlockName.{BlockName}
use Rattle.memory_areas.specs.declared.call.BlockName.TheVariants as name
use Rattle.s7_base.specs.declared.word.Width.{Width}
use Rattle.st_tree.proofs.FittingCalls.{at_position}
use Rattle.st_tree.specs.StRun.{is_program}
use Rattle.stl_tree.specs.Accepted.{AsksFor, IsAccepted, IsAcceptedBlock, IsBlockOpened, IsCall, IsInstanceOf, LiesInInstance, Widths, formals_named, widths_named}
use Rattle.stl_tree.specs.Calls.{formals_of}
use Rattle.stl_tree.specs.StlRun.{IsInstance, block_at, block_named}
use Rattle.stl_tree.specs.declared.program.Block.{Block}
use Rattle.stl_tree.specs.declared.program.BlockCall.{BlockCall}
use Rattle.stl_tree.specs.declared.program.Formal.{Formal}
use Rattle.stl_tree.specs.declared.program.Instance.{Instance}
use Rattle.stl_tree.specs.declared.program.Program.{Program}
use Rattle.instruction_lowering.proofs.CallFacts.{IsCallable, same_block}
use Rattle.instruction_lowering.proofs.DistinctBlocks.{found_at}
use Rattle.instruction_lowering.proofs.Names.{block_at as position_at, block_of, position_of}

some_opened : (n : ℕ) → IsBlockOpened n → (n == 0) ≡ false
some_opened n h = let some : 1 ≤ n = h.0 in grind (arith, nat_tests)

no_instance : (n : ℕ) → n ≡ 0 → (n == 0) ≡ true
no_instance n e = grind (arith, nat_tests)

module _ (program : Program) (accepted : IsAccepted program) where
  -- the formals of the block that its name finds
  named_formals : (i : ℕ) (b : Block) → slice_get program.blocks i ≡ Some b → formals_named b.name program.blocks ≡ b.formals
  named_formals i b there = by (block_named b.name program.blocks) refl (position_of b.name program.blocks (rw found refl))
    where
      found : block_of b.name program.blocks ≡ Some b
      found = found_at program.blocks accepted.names i b there

      by : (o : Option ℕ) → block_named b.name program.blocks ≡ o → IsSome o → formals_of (block_at program.blocks o) ≡ b.formals
      by None e some = cc
      by (Some k) e some =
          let at = position_at b.name program.blocks k e in
          ap formals_of at.there ∙ ap (λ (x : Block). x.formals) (same_block at.block b (sym at.found ∙ found))

  pub callable : (formals : Widths) (c : BlockCall) → IsCall program formals c → IsCallable program formals c
  callable formals c (b, there, asks) = by b.name refl asks
    where
      block : IsAcceptedBlock b
      block = at_position IsAcceptedBlock program.blocks c.block b accepted.blocks there

      by : (n : BlockName) → b.name ≡ n → AsksFor program.instances formals b n c → IsCallable program formals c
      by (name.Ob n) e asks = elim asks [ ]
      by (name.Fc n) e asks =
          let none : (c.instance == 0) ≡ true = no_instance c.instance asks.0 in
          record {
            block = b;
            there = there;
            right = record {
              actuals = rw none asks.1;
              number = λ f. absurd (both_ways (sym none ∙ f));
              lies = λ f. absurd (both_ways (sym none ∙ f));
              few = block.few_formals;
            };
            function = ap is_program e;
            inside = ap (λ (t : Bool). if t then map (λ (f : Formal). f.width) b.formals else []) none
                ∙ sym (ap (λ (n : BlockName). widths_named n b.formals) e);
          }
        where
          both_ways : true ≡ false → ⊥
          both_ways e = cc
      by (name.Fb n) e asks =
          let instance : Instance = record { db = c.instance; fb = n } in
          let of : IsInstanceOf program instance =
          All-contains (IsInstanceOf program) program.instances instance accepted.instances asks.0 in
          let some : (c.instance == 0) ≡ false = some_opened c.instance of.number in
          record {
            block = b;
            there = there;
            right = record {
              actuals = rw some asks.1;
              number = λ f. of.number;
              lies = λ f.
                  subst (All (LiesInInstance program.dbs c.instance))
                  (ap (λ (called : BlockName). formals_named called program.blocks) (sym e) ∙ named_formals c.block b there) of.formals;
              few = block.few_formals;
            };
            function = ap is_program e;
            inside = ap (λ (t : Bool). if t then map (λ (f : Formal). f.width) b.formals else []) some
                ∙ sym (ap (λ (n : BlockName). widths_named n b.formals) e);
          }
