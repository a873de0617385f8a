-- What a part spells, tokens can have where they can have what stands behind it.
use Rattle.st_tree.proofs.Common.{◌≡◌, Bool, true, false, List, refl, Line}
use Rattle.st_text_laws.proofs.Common.{AreSpelled, is_spelled, GrammarKind}
use Rattle.st_grammar.proofs.Common.{Actuals, no_actual, actual, Arms, no_arm, arm, Items, no_item, arm_word, comma_behind, comma_past, end_word, spell_initial, spell_items, unit_word}

-- tokens can have what is spelled before others
abbrev pub Spells : (List GrammarKind → List GrammarKind) → Type 0
Spells spelled = (more : List GrammarKind) → AreSpelled more → AreSpelled (spelled more)

pub comma_spells : (a : Actuals) → Spells (comma_behind a)
comma_spells no_actual ks s = s
comma_spells (actual others name line v place) ks s = (refl, s)

pub arm_word_spelled : (line : Line) (a : Arms) → is_spelled (arm_word line a) ≡ true
arm_word_spelled line no_arm = refl
arm_word_spelled line (arm others e body) = refl

pub past_spells : (items : Items) → Spells (comma_past items)
past_spells no_item ks s = s
past_spells items ks s = (refl, s)

pub initial_spells : (items : Items) → Spells (spell_items items) → Spells (spell_initial items)
initial_spells no_item h ks s = s
initial_spells items h ks s = (refl, (refl, h _ (refl, s)))

pub unit_word_spelled : (program : Bool) (line : Line) → is_spelled (unit_word program line) ≡ true
unit_word_spelled true line = refl
unit_word_spelled false line = refl

pub end_word_spelled : (program : Bool) → is_spelled (end_word program) ≡ true
end_word_spelled true = refl
end_word_spelled false = refl
