-- Which calls from outside fit.
use Rattle.st_tree.proofs.Common.{◌≡◌, ℕ, Bool, true, false, List, [], ◌∷◌, length, Option, Some, None, refl, sym, ◌∙◌, arith, is_some, IsSome, Contents, IsMemoryOf, block_of, DataBlock}
use Rattle.memory_areas.proofs.SameFaults.{block_same}
use Rattle.st_tree.specs.StRun.{FitsInstance}
use Rattle.st_runner.proofs.Common.{Decides, Local, Pou}

module _ (blocks : List DataBlock) (m : Contents) (is : IsMemoryOf blocks m.areas) where
  some_there : (o : Option DataBlock) → is_some o ≡ true → IsSome o
  some_there None h = cc
  some_there (Some b) h = refl

  there_some : (o : Option DataBlock) → IsSome o → is_some o ≡ true
  there_some None h = cc
  there_some (Some b) h = refl

  pub instance_decides : (b : Bool) (unit : Pou) (n : ℕ) → unit.formals ≡ [] → b ≡ is_some (block_of n m.areas.blocks) → Decides b (FitsInstance blocks unit n)
  instance_decides true unit n e h = record { formals = e; block = some_there (block_of n blocks) (sym (h ∙ block_same blocks m is n)) }
  instance_decides false unit n e h = λ fits. no (is_some (block_of n blocks)) (h ∙ block_same blocks m is n) (there_some (block_of n blocks) fits.block)
    where
      no : (x : Bool) → false ≡ x → x ≡ true → ⊥
      no x p q = cc

pub none_declared : (xs : List Local) → length xs ≡ 0 → xs ≡ []
none_declared [] e = refl
none_declared (x ∷ xs) e = absurd (omega arith)
