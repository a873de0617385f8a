-- Where a data block goes among others.
use Rattle.st_tree.proofs.Common.{◌≡◌, ℕ, ◌+◌, Bool, true, false, cond, nat_lt, List, [], ◌∷◌, suc, refl, ap, ◌∙◌, arith, insert, prefix_len, DataBlock}
use Rattle.memory_areas.specs.Areas.{insert_data_block}

further : (n : ℕ) (c b : DataBlock) (cs : List DataBlock) → insert (c ∷ cs) (1 + n) b ≡ c ∷ insert cs n b
further n c b cs = let e : 1 + n ≡ suc n = omega arith in ap (λ k. insert (c ∷ cs) k b) e

-- it goes after those with lesser numbers at the front
pub placed : (b : DataBlock) (cs : List DataBlock) → insert cs (prefix_len (λ (c : DataBlock). nat_lt c.number b.number) cs) b ≡ insert_data_block b cs
placed b [] = refl
placed b (c ∷ cs) = step (nat_lt c.number b.number) (placed b cs)
  where
    step : (t : Bool) → insert cs (prefix_len (λ (d : DataBlock). nat_lt d.number b.number) cs) b ≡ insert_data_block b cs
        → insert (c ∷ cs) (cond t (1 + prefix_len (λ (d : DataBlock). nat_lt d.number b.number) cs) 0) b ≡ cond t (c ∷ insert_data_block b cs) (b ∷ c ∷ cs)
    step true h = further _ c b cs ∙ ap (λ l. c ∷ l) h
    step false h = refl
