use Rattle.std.proofs.Common.{◌≡◌, refl, [], ◌∷◌, Ok, Err, true, false}
use Rattle.std.specs.Prelude.{codes}
use Rattle.s7_base.specs.Tokens.{tokens_of}
use Rattle.s7_base.specs.declared.reason.Reason.TheVariants.{BadToken}
use Rattle.s7_base.specs.declared.reason.Rejection.TheVariants.{Refused}
use Rattle.s7_base.specs.declared.token.TokenKind.TheVariants.{Word, Quoted, Sign}

tokens_of_text : tokens_of (codes "A I 0.0; // x\nTITLE == it's\n+{q};:=\"a b\"") ≡ Ok (
    record { kind = Word; text = codes "A"; line = record { 0 = 1 }; glued = true }
    ∷ record { kind = Word; text = codes "I"; line = record { 0 = 1 }; glued = false }
    ∷ record { kind = Word; text = codes "0"; line = record { 0 = 1 }; glued = false }
    ∷ record { kind = Sign; text = codes "."; line = record { 0 = 1 }; glued = true }
    ∷ record { kind = Word; text = codes "0"; line = record { 0 = 1 }; glued = true }
    ∷ record { kind = Sign; text = codes ";"; line = record { 0 = 1 }; glued = true }
    ∷ record { kind = Sign; text = codes "+"; line = record { 0 = 3 }; glued = true }
    ∷ record { kind = Sign; text = codes ";"; line = record { 0 = 3 }; glued = true }
    ∷ record { kind = Sign; text = codes ":="; line = record { 0 = 3 }; glued = true }
    ∷ record { kind = Quoted; text = codes "a b"; line = record { 0 = 3 }; glued = true }
    ∷ [])
unfolding tokens_of
tokens_of_text = refl

open_quote : tokens_of (codes "A\n B 'x\n'") ≡ Err (Refused (record { 0 = 2 }) BadToken)
unfolding tokens_of
open_quote = refl
