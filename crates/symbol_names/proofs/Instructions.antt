-- The instructions of a body, one after another.
use Rattle.std.proofs.Common.{◌≡◌, ◌≤◌, ◌<◌, ℕ, List, [], ◌∷◌, ◌++◌, length, drop, get_or, Option, Some, None, Result, Ok, Err, refl, sym, ap, subst, ◌∙◌, arith, append_assoc}
use Rattle.std.proofs.lemmas.List.{append-nil}
use Rattle.std.proofs.lemmas.List.Concat.{flat_map-cons}
use Rattle.std.specs.List.{flat_map}
use Rattle.std.specs.Result.{result_err}
use Rattle.s7_base.specs.Broken.{rule_break}
use Rattle.s7_base.specs.declared.rule_break.Break.{Break}
use Rattle.s7_base.specs.declared.reason.Line.{Line}
use Rattle.s7_base.specs.declared.reason.Reason.{Reason}
use Rattle.stl_rules.specs.Programs.{instr_of, instrs_of}
use Rattle.stl_rules.specs.Raw.{OperandScope}
use Rattle.stl_rules.specs.Stages.{broken_by, instr_breaks}
use Rattle.stl_tree.specs.declared.program.Instr.{Instr}
use Rattle.stl_tree.specs.declared.raw.RawInstr.{RawInstr}
use Rattle.block_variables.proofs.Firsts.{behind, none_more}
use Rattle.block_variables.specs.Firsts.{with_breaks}

-- one instruction more of a body that is made
pub made_more : (scope : OperandScope) (made : List Instr) (raw : RawInstr) (rest : List RawInstr) (whole : List Instr)
    → 1 ≤ length rest → raw ≡ get_or rest 0 raw → made ++ instrs_of scope rest ≡ whole
    → (made ++ instr_of scope raw (drop 1 rest) ∷ []) ++ instrs_of scope (drop 1 rest) ≡ whole
made_more scope made raw [] whole some is e = absurd (omega arith)
made_more scope made raw (x ∷ rest) whole some is e =
    append_assoc made (instr_of scope raw rest ∷ []) (instrs_of scope rest)
    ∙ ap (λ (y : RawInstr). made ++ instr_of scope y rest ∷ instrs_of scope rest) is ∙ e

pub found_more : (scope : OperandScope) (first : Option Break) (raw : RawInstr) (rest : List RawInstr) (whole : Option Break)
    → 1 ≤ length rest → raw ≡ get_or rest 0 raw → with_breaks first (flat_map (instr_breaks scope) rest) ≡ whole
    → with_breaks (with_breaks first (instr_breaks scope raw)) (flat_map (instr_breaks scope) (drop 1 rest)) ≡ whole
found_more scope first raw [] whole some is e = absurd (omega arith)
found_more scope first raw (x ∷ rest) whole some is e =
    sym (behind first (instr_breaks scope raw) (flat_map (instr_breaks scope) rest))
    ∙ ap (λ (y : RawInstr). with_breaks first (instr_breaks scope y ++ flat_map (instr_breaks scope) rest)) is
    ∙ ap (with_breaks first) (sym (flat_map-cons (instr_breaks scope) x rest)) ∙ e

-- where none is left
pub made_all : (scope : OperandScope) (made whole : List Instr) (rest : List RawInstr) → length rest < 1 → made ++ instrs_of scope rest ≡ whole → made ≡ whole
made_all scope made whole [] none e = sym (append-nil made) ∙ e
made_all scope made whole (x ∷ rest) none e = absurd (omega arith)

pub found_all : (scope : OperandScope) (first whole : Option Break) (rest : List RawInstr) → length rest < 1
    → with_breaks first (flat_map (instr_breaks scope) rest) ≡ whole → first ≡ whole
found_all scope first whole [] none e = sym (none_more first) ∙ e
found_all scope first whole (x ∷ rest) none e = absurd (omega arith)

pub ruleset more_laws = (made_more, found_more, made_all)

-- what is noted of a result, by its rule
pub rule_noted : {X : Type 0} (first : Option Break) (line : Line) (made : Result X Reason) (rule : Reason) → Some rule ≡ result_err made
    → with_breaks first (rule_break line rule) ≡ with_breaks first (broken_by line made)
rule_noted first line (Ok x) rule e = absurd cc
rule_noted first line (Err other) rule e =
    let same : rule ≡ other = cc in
    ap (λ r. with_breaks first (rule_break line r)) same

pub none_noted : {X : Type 0} (first : Option Break) (line : Line) (made : Result X Reason) → None ≡ result_err made
    → first ≡ with_breaks first (broken_by line made)
none_noted first line (Ok x) e = sym (none_more first)
none_noted first line (Err other) e = absurd cc

pub ruleset noted_laws = (rule_noted, none_noted)
