use Rattle.st_tree.proofs.Common.{◌≡◌, ◌++◌, take, codes, map, flat_map, arm_text, case_text, body_text, names_in}
use Rattle.st_printer.proofs.statement.+statements.Given as goal

-- what was passed so far stands after what stood there
abbrev pub invariant-put_body-loop-statement : goal.invariant-put_body-loop-statement
invariant-put_body-loop-statement l =
    l.out.items ≡ l.initial.out.items ++ body_text (names_in l.at.tree.now l.at.unit.now) l.at.level (take l.statement-index l.body)

abbrev pub invariant-put_arms-loop-arm : goal.invariant-put_arms-loop-arm
invariant-put_arms-loop-arm l =
    l.out.items
    ≡ l.initial.out.items ++ flat_map (λ arm. arm (codes "ELSIF ") l.at.level) (map (arm_text (names_in l.at.tree.now l.at.unit.now)) (take l.arm-index l.more))

abbrev pub invariant-put_cases-loop-arm : goal.invariant-put_cases-loop-arm
invariant-put_cases-loop-arm l =
    l.out.items
    ≡ l.initial.out.items ++ flat_map (λ arm. arm l.ty l.at.level) (map (case_text (names_in l.at.tree.now l.at.unit.now)) (take l.arm-index l.arms))
