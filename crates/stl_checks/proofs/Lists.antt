-- Lists of instructions, item by item.
use Rattle.std.proofs.Common.{◌≡◌, ◌≤◌, ◌<◌, ℕ, ◌+◌, Bool, List, [], ◌∷◌, ◌++◌, length, drop, get_or, slice_get, None, sym, ap, ◌∙◌, arith, append_assoc}
use Rattle.std.proofs.lemmas.List.{append-nil}
use Rattle.s7_base.specs.declared.rule_break.Break.{Break}
use Rattle.s7_base.specs.declared.reason.Line.{Line}
use Rattle.stl_rules.specs.BodyRules.{brackets_at, brackets_from, broken_if, label_closed, labels_at, labels_from, open_then}
use Rattle.s7_base.specs.declared.reason.Reason.TheVariants.{CallTooDeep}
use Rattle.stl_checks.specs.inner.Chains.{headings_of}
use Rattle.stl_rules.specs.Stages.{deep_breaks}
use Rattle.stl_statement_grammar.specs.Mnemonics.{mnemonic_named}
use Rattle.stl_tree.specs.declared.program.Block.{Block}
use Rattle.stl_tree.specs.declared.raw.RawInstr.{RawInstr}

-- the rules that an instruction and those after it break
abbrev both : Line → ℕ → RawInstr → List RawInstr → List Break
both end n raw rest =
    label_closed raw.line raw.label n ++ brackets_at raw.line (mnemonic_named raw.op.mnemonic) n
    ++ brackets_from end (open_then (mnemonic_named raw.op.mnemonic) n) rest

-- one instruction more of a body whose brackets are judged
pub brackets_more : (breaks : List Break) (end : Line) (n : ℕ) (raw : RawInstr) (rest : List RawInstr) (whole : List Break)
    → 1 ≤ length rest → raw ≡ get_or rest 0 raw
    → breaks ++ brackets_from end n rest ≡ whole
    → ((breaks ++ label_closed raw.line raw.label n) ++ brackets_at raw.line (mnemonic_named raw.op.mnemonic) n)
    ++ brackets_from end (open_then (mnemonic_named raw.op.mnemonic) n) (drop 1 rest)
    ≡ whole
brackets_more breaks end n raw [] whole some is e = absurd (omega arith)
brackets_more breaks end n raw (first ∷ rest) whole some is e =
    let label = label_closed raw.line raw.label n in
    let own = brackets_at raw.line (mnemonic_named raw.op.mnemonic) n in
    let more = brackets_from end (open_then (mnemonic_named raw.op.mnemonic) n) rest in
    append_assoc (breaks ++ label) own more ∙ append_assoc breaks label (own ++ more)
    ∙ ap (λ ys. breaks ++ ys) (sym (append_assoc label own more))
    ∙ ap (λ (i : RawInstr). breaks ++ both end n i rest) is ∙ e

-- one instruction more of a body whose labels are judged
pub labels_more : (breaks : List Break) (body : List RawInstr) (at : ℕ) (raw : RawInstr) (rest : List RawInstr) (whole : List Break)
    → 1 ≤ length rest → raw ≡ get_or rest 0 raw
    → breaks ++ labels_from body at rest ≡ whole
    → (breaks ++ labels_at body at raw (drop 1 rest)) ++ labels_from body (at + 1) (drop 1 rest) ≡ whole
labels_more breaks body at raw [] whole some is e = absurd (omega arith)
labels_more breaks body at raw (first ∷ rest) whole some is e =
    append_assoc breaks (labels_at body at raw rest) (labels_from body (at + 1) rest)
    ∙ ap (λ (i : RawInstr). breaks ++ (labels_at body at i rest ++ labels_from body (at + 1) rest)) is ∙ e

-- where none is left
pub labels_all : (breaks : List Break) (body : List RawInstr) (at : ℕ) (rest : List RawInstr) (whole : List Break) → length rest < 1
    → breaks ++ labels_from body at rest ≡ whole → breaks ≡ whole
labels_all breaks body at [] whole none e = sym (append-nil breaks) ∙ e
labels_all breaks body at (raw ∷ rest) whole none e = absurd (omega arith)

-- one heading more of those that are judged
pub deep_more : (breaks : List Break) (begins : List Bool) (blocks : List Block) (whole : List Break) (b : Bool) (block : Block)
    → 1 ≤ length begins → 1 ≤ length blocks → b ≡ get_or begins 0 b → block ≡ get_or blocks 0 block
    → breaks ++ deep_breaks begins (headings_of blocks) ≡ whole
    → (breaks ++ broken_if b block.line CallTooDeep) ++ deep_breaks (drop 1 begins) (headings_of (drop 1 blocks)) ≡ whole
deep_more breaks [] blocks whole b block some others is at e = absurd (omega arith)
deep_more breaks (t ∷ begins) [] whole b block some others is at e = absurd (omega arith)
deep_more breaks (t ∷ begins) (x ∷ blocks) whole b block some others is at e =
    append_assoc breaks (broken_if b block.line CallTooDeep) (deep_breaks begins (headings_of blocks))
    ∙ ap (λ c. breaks ++ (broken_if c block.line CallTooDeep ++ deep_breaks begins (headings_of blocks))) is
    ∙ ap (λ (y : Block). breaks ++ (broken_if t y.line CallTooDeep ++ deep_breaks begins (headings_of blocks))) at ∙ e

-- where none is left
pub deep_all : (breaks : List Break) (begins : List Bool) (blocks : List Block) (whole : List Break) → length begins < 1
    → breaks ++ deep_breaks begins (headings_of blocks) ≡ whole → breaks ≡ whole
deep_all breaks [] blocks whole none e = sym (append-nil breaks) ∙ e
deep_all breaks (t ∷ begins) blocks whole none e = absurd (omega arith)

-- where there is no block left
pub deep_end : (breaks : List Break) (begins : List Bool) (blocks : List Block) (whole : List Break) → slice_get blocks 0 ≡ None
    → breaks ++ deep_breaks begins (headings_of blocks) ≡ whole → breaks ≡ whole
deep_end breaks [] [] whole none e = sym (append-nil breaks) ∙ e
deep_end breaks (t ∷ begins) [] whole none e = sym (append-nil breaks) ∙ e
deep_end breaks begins (b ∷ blocks) whole none e = absurd cc
