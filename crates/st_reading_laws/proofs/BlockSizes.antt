-- A data block in the tree has the number that its name says, and a size that a data block may have.
use Rattle.st_tree.proofs.Common.{◌≡◌, ◌≤◌, ◌+◌, ℕ, Bool, true, false, cond, ◌&&◌, List, [], ◌∷◌, length, replicate, Some, None, refl, subst, ◌∙◌, arith, eqb-true, length-append, nat_tests, length-replicate, flat_map-cons, IsSized, DataBlock}
use Rattle.std.specs.List.{flat_map}
use Rattle.st_rules.proofs.Common.{RawGlobalType, RawVar, block_at, block_number, block_of, contents, fills, has_block_address, has_block_form, is_small_enough, total}
use Rattle.st_tree.specs.declared.raw.RawGlobalType.TheVariants as type

-- runs have as many bytes as their counts say
pub runs_size : (runs : List (ℕ × ℕ)) → length (flat_map (λ (r : ℕ × ℕ). replicate r.0 r.1) runs) ≡ total runs
runs_size [] = refl
runs_size (r ∷ runs) = simp (flat_map-cons, length-append, length-replicate) (omega (arith, runs_size runs))

contents_size : (last : ℕ) (list : List (ℕ × ℕ)) → fills last list ≡ true → length (contents last list) ≡ last + 1
contents_size last [] h = length-replicate (last + 1) 0
contents_size last (run ∷ runs) h = runs_size (run ∷ runs) ∙ eqb-true (total (run ∷ runs)) (last + 1) h

-- a data block of a number, as one in the tree is
pub record IsBlock (n : ℕ) (b : DataBlock) : Type 0 where
  pub number : b.number ≡ n
  pub some : 1 ≤ n
  pub small : n ≤ 65535
  pub sized : IsSized b

block_is : (n : ℕ) (at : RawVar) (last : ℕ) (list : List (ℕ × ℕ)) (b : DataBlock) → block_at n at last list ≡ Some b → IsBlock n b
block_is n at last list b h = by_test (has_block_address n at && is_small_enough last && has_block_form n at last list) refl h
  where
    made : DataBlock
    made = record { number = n; bytes = contents last list }

    by_test : (t : Bool) → (has_block_address n at && is_small_enough last && has_block_form n at last list) ≡ t
        → cond t (Some made) None ≡ Some b → IsBlock n b
    by_test false e f = absurd cc
    by_test true e f =
        let size : length (contents last list) ≡ last + 1 = contents_size last list (grind arith) in
        let same : made ≡ b = cc in
        subst (IsBlock n) same (record {
          number = refl;
          some = grind (arith, nat_tests);
          small = grind (arith, nat_tests);
          sized = (grind (arith, nat_tests), grind (arith, nat_tests));
        })

pub is_block : (ty : RawGlobalType) (name : List ℕ) (at : RawVar) (b : DataBlock) → block_of ty name at ≡ Some b → IsBlock (block_number name) b
is_block (type.Plain ty) name at b h = absurd cc
is_block (type.Bytes last list) name at b h = block_is (block_number name) at last list b h
