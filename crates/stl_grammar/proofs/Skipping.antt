-- Items one after another.
use Rattle.std.proofs.Common.{◌≡◌, ℕ, zero, suc, List, [], ◌∷◌, drop, refl}
use Rattle.s7_base.specs.declared.reason.Line.{Line}
use Rattle.s7_base.specs.declared.token.Token.{Token}
use Rattle.stl_grammar.specs.Items.{items_from}
use Rattle.stl_grammar.specs.declared.item.Where.{Where}

-- tokens that belong to the item before are passed over
pub skipped : (end : Line) (n : ℕ) (place : Where) (tokens : List Token) → items_from end n place tokens ≡ items_from end 0 place (drop n tokens)
skipped end zero place tokens = refl
skipped end (suc n) place [] = refl
skipped end (suc n) place (first ∷ rest) = skipped end n place rest
