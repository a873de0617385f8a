-- What the pass over a text's tokens judges is the raw tree or the refusal of the text.
use Rattle.st_tree.proofs.Common.{◌≡◌, ℕ, List, Some, Result, Ok, Err, IfOk, IfRefused, Rejection}
use Rattle.s7_base.specs.declared.reason.Rejection.TheVariants.{Refused, NoMemory}
use Rattle.st_grammar.proofs.Common.{HasRawTree, IsSyntaxRefused, tree_at, verdict}
use Rattle.st_reading_laws.proofs.JudgedSyntax.{judged_refusals, judged_trees}
use Rattle.st_tree.specs.declared.raw.RawSt.{RawSt}

pub has_tree : (bytes : List ℕ) (given : Result RawSt Rejection) → IfOk given (λ raw. tree_at (verdict bytes) ≡ Some raw) → IfOk given (HasRawTree bytes)
has_tree bytes (Ok raw) h = (judged_trees bytes raw).0 h
has_tree bytes (Err refused) h = tt

pub is_refused : (bytes : List ℕ) (given : Result RawSt Rejection)
    → IfRefused given (λ line why. verdict bytes ≡ Err (Refused line why)) → IfRefused given (IsSyntaxRefused bytes)
is_refused bytes (Ok raw) h = tt
is_refused bytes (Err (Refused line why)) h = (judged_refusals bytes line why).0 h
is_refused bytes (Err NoMemory) h = tt
