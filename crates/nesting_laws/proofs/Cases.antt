-- Cases of what holds in one of several ways.
use Rattle.std.proofs.Common.{◌⊎◌, inl, inr}

module _ {A B C P : Type 0} (f : A → P) (g : B → P) (h : C → P) where
  pub of_three : A ⊎ (B ⊎ C) → P
  of_three (inl x) = f x
  of_three (inr (inl y)) = g y
  of_three (inr (inr z)) = h z

module _ {A B C D P : Type 0} (f : A → P) (g : B → P) (h : C → P) (k : D → P) where
  pub of_four : A ⊎ (B ⊎ (C ⊎ D)) → P
  of_four (inl x) = f x
  of_four (inr o) = of_three g h k o

module _ {A B C D E P : Type 0} (f : A → P) (g : B → P) (h : C → P) (k : D → P) (m : E → P) where
  pub of_five : A ⊎ (B ⊎ (C ⊎ (D ⊎ E))) → P
  of_five (inl x) = f x
  of_five (inr o) = of_four g h k m o
