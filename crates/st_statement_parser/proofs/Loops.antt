-- Whether a WHILE is open does not depend on the order in which the frames are looked at.
use Rattle.st_tree.proofs.Common.{◌≡◌, Bool, true, false, List, [], ◌∷◌, ◌++◌, map, refl, sym, ap, ◌∙◌, ◌||◌, list_any}
use Rattle.std.proofs.Common.{reverse}
use Rattle.std.proofs.lemmas.List.{reverse-append}
use Rattle.st_grammar.specs.inner.Machine.{code, Frame}
use Rattle.st_grammar.specs.inner.Steps.{is_loop, in_loop}
use Rattle.st_statement_parser.specs.inner.BodyStates.{frame_of, stack_of}
use Rattle.st_statement_parser.specs.declared.body_state.Frame.{Frame as CodeFrame}

or_assoc : (a b c : Bool) → (a || (b || c)) ≡ ((a || b) || c)
or_assoc true b c = refl
or_assoc false b c = refl

or_turned : (a b : Bool) → (a || (b || false)) ≡ (b || a)
or_turned true true = refl
or_turned true false = refl
or_turned false true = refl
or_turned false false = refl

in_loop_append : (s t : List (Frame code)) → in_loop code (s ++ t) ≡ (in_loop code s || in_loop code t)
in_loop_append [] t = refl
in_loop_append (f ∷ s) t = ap (λ (b : Bool). is_loop code f || b) (in_loop_append s t) ∙ or_assoc (is_loop code f) (in_loop code s) (in_loop code t)

pub in_loop_is : (fs : List CodeFrame) → list_any (λ f. is_loop code (frame_of f)) fs ≡ in_loop code (stack_of fs)
in_loop_is [] = refl
in_loop_is (f ∷ fs) =
    ap (λ (b : Bool). is_loop code (frame_of f) || b) (in_loop_is fs)
    ∙ sym (ap (λ (s : List (Frame code)). in_loop code s) (reverse-append (frame_of f ∷ []) (map frame_of fs))
    ∙ in_loop_append (reverse (map frame_of fs)) (frame_of f ∷ [])
    ∙ or_turned (in_loop code (reverse (map frame_of fs))) (is_loop code (frame_of f)))
