use Rattle.st_tree.proofs.Common.{◌-◌, ◌++◌, ◌∷◌, [], List, ℕ, sym, ap, ◌∙◌, append_assoc, append-nil, ◌/◌, hexadecimal}
use Rattle.st_printer.proofs.Pieces.{hexadecimal_up, hexadecimal_none}
use Rattle.st_printer.proofs.text.+put_hexadecimal.Goals as goal

pub returns-then-count-eq0 : goal.returns-then-count-eq0
returns-then-count-eq0 t c =
    let old : List ℕ = c.args.out.now.items in
    sym (append-nil old)
    ∙ ap (λ (xs : List ℕ). old ++ xs) (sym (hexadecimal_none c.args.number))
    ∙ ap (λ (k : ℕ). old ++ hexadecimal k c.args.number) (sym c.if-count-eq0.true)

pub returns : goal.returns
returns t c =
    let old : List ℕ = c.args.out.now.items in
    let last : List ℕ = c.hex_digit.result ∷ [] in
    let front : List ℕ = hexadecimal (c.args.count - 1) (c.args.number / 16) in
    c.in_ok-push.ensures.items ∙ ap (λ (xs : List ℕ). xs ++ last) c.in_ok-put_hexadecimal.ensures ∙ append_assoc old front last
    ∙ ap (λ (d : ℕ). old ++ (front ++ d ∷ [])) c.hex_digit.ensures
    ∙ ap (λ (xs : List ℕ). old ++ xs) (sym (hexadecimal_up c.args.count c.args.number c.if-count-eq0.false))
