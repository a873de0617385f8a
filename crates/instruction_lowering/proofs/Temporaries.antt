-- Temporaries: what the locals of the running unit keep of open brackets.
use Rattle.std.proofs.Common.{◌≡◌, ℕ, suc, ◌+◌, ◌<◌, ◌≤◌, List, [], ◌∷◌, length, refl, ap, ◌∙◌, arith}
use Rattle.std.specs.Prelude.{slice_get}
use Rattle.s7_base.specs.declared.check.Entry.{Entry}
use Rattle.st_tree.specs.State.{Activation, own_of}
use Rattle.st_tree.specs.declared.state.Value.{Value}
use Rattle.bit_templates.specs.Brackets.{KeepBrackets, KeepsBracket}
use Rattle.bit_templates.specs.declared.chain.OpenBracket.{OpenBracket}
use Rattle.instruction_lowering.specs.declared.statements.LoweringContext.{LoweringContext}

-- the running unit has so many locals, which keep the brackets that are open at a spot
abbrev pub Keeps : ℕ → LoweringContext → List Entry → List Activation → Type 0
Keeps total p entries acts = (length (own_of acts) ≡ total) × KeepBrackets p.used p.brackets entries (own_of acts)

-- what lies below is all that counts
pub kept_below : (used more : ℕ) (brackets : List OpenBracket) (entries : List Entry) (xs ys : List Value) → used ≤ more
    → ((i : ℕ) → i < used → slice_get ys i ≡ slice_get xs i) → KeepBrackets used brackets entries xs → KeepBrackets more brackets entries ys
kept_below used more [] [] xs ys h same keeps = tt
kept_below used more [] (e ∷ entries) xs ys h same keeps = elim keeps [ ]
kept_below used more (o ∷ outer) [] xs ys h same keeps = elim keeps [ ]
kept_below used more (o ∷ outer) (e ∷ entries) xs ys h same keeps =
    let k = keeps.0 in
    let below : k.first + 3 ≤ used = k.below in
    let all : KeepsBracket more o e ys =
    record {
      first = k.first;
      kept = k.kept;
      below = omega arith;
      check = k.check;
      rlo = same k.first (omega arith) ∙ k.rlo;
      orb = same (k.first + 1) (omega arith) ∙ k.orb;
      nfc = same (k.first + 2) (omega arith) ∙ k.nfc;
    } in
    (all, kept_below used more outer entries xs ys h same keeps.1)

-- as many brackets are open on both sides
pub as_many : (used : ℕ) (brackets : List OpenBracket) (entries : List Entry) (locals : List Value) → KeepBrackets used brackets entries locals
    → length entries ≡ length brackets
as_many used [] [] locals keeps = refl
as_many used [] (e ∷ entries) locals keeps = elim keeps [ ]
as_many used (o ∷ outer) [] locals keeps = elim keeps [ ]
as_many used (o ∷ outer) (e ∷ entries) locals keeps = ap suc (as_many used outer entries locals keeps.1)
