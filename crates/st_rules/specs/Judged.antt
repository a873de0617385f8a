-- Parts of a text after judgement. What a part is in the tree, if it has its place there, and the rules that are
-- broken in it.
-- Held against: this project's own rules.
use Rattle.std.specs.Prelude.{◌≡◌, List, [], ◌∷◌, ◌++◌, Option, Some, None, Result, Ok, Err}
use Rattle.std.specs.List.{flat_map}
use Rattle.s7_base.specs.Broken.{rule_break}
use Rattle.s7_base.specs.declared.rule_break.Break.{Break}
use Rattle.s7_base.specs.declared.reason.Line.{Line}
use Rattle.s7_base.specs.declared.reason.Reason.{Reason}
use Rattle.s7_base.specs.declared.reason.Reason.TheVariants as reason
use Rattle.st_names.specs.Lists.{as_list}

-- the rule that is broken where a key is declared again on a line
abbrev pub twice : {T : Type 0} → Line → Option T → List Break
twice line None = []
twice line (Some first) = rule_break line reason.DuplicateName

-- a part of a text as it is judged: its part of the tree, if there is one, and the rules that are broken in it
pub record Judged (T : Type 0) : Type 0 where
  pub found : Option T
  pub breaks : List Break

-- a part of the tree without a broken rule
abbrev pub sound : {T : Type 0} → T → Judged T
sound x = record { found = Some x; breaks = [] }

-- no part of the tree, without a broken rule
abbrev pub nothing : {T : Type 0} → Judged T
nothing = record { found = None; breaks = [] }

-- no part of the tree, and a broken rule
abbrev pub breaks_rule : {T : Type 0} → Line → Reason → Judged T
breaks_rule line rule = record { found = None; breaks = rule_break line rule }

-- a part after parts that break some rules
abbrev pub after_breaks : {T : Type 0} → List Break → Judged T → Judged T
after_breaks breaks j = record { found = j.found; breaks = breaks ++ j.breaks }

-- all parts of the tree that some judged parts have
abbrev pub found_in : {T : Type 0} → List (Judged T) → List T
found_in {T} js = flat_map (λ (j : Judged T). as_list j.found) js

-- the rules that are broken in some parts
abbrev pub breaks_in : {T : Type 0} → List (Judged T) → List Break
breaks_in {T} js = flat_map (λ (j : Judged T). j.breaks) js

-- a call found a part of the tree and noted its broken rules after those before, or it failed
abbrev pub IsJudged : {T E : Type 0} → Result (Option T) E → List Break → List Break → Judged T → Type 0
IsJudged (Ok found) before after part = (found ≡ part.found) × (after ≡ before ++ part.breaks)
IsJudged (Err failed) before after part = Unit {0}

-- a call found some parts of the tree and noted their broken rules after those before, or it failed
abbrev pub AreJudged : {T E : Type 0} → Result (List T) E → List Break → List Break → List (Judged T) → Type 0
AreJudged (Ok found) before after parts = (found ≡ found_in parts) × (after ≡ before ++ breaks_in parts)
AreJudged (Err failed) before after parts = Unit {0}
