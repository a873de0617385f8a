-- The section that a word opens.
use Rattle.std.proofs.Common.{◌≡◌, ℕ, Bool, true, false, ◌&&◌, if◌then◌else◌, List, [], ◌∷◌, Option, Some, None, refl, ap, ◌∙◌, arith}
use Rattle.std.proofs.lemmas.Bool.{and_parts, or_parts}
use Rattle.std.specs.Prelude.{codes}
use Rattle.std.specs.Str.{str_to_ascii_lowercase}
use Rattle.s7_base.specs.Tokens.{is_same_word}
use Rattle.s7_base.specs.declared.token.Token.{Token}
use Rattle.stl_constants.proofs.Reading.{if_false, if_true, other_word, same_letters, word_no_quoted}
use Rattle.stl_places.proofs.BlockNameLaws.{Starts, no_name, other_start}
use Rattle.stl_statement_grammar.specs.BlockNames.{begins_with_number, is_numbered, name_at}
use Rattle.stl_grammar.specs.Sections.{formal_or_inner, formal_section, if_open, inner_section, may_open, section_at, section_named, section_word}
use Rattle.stl_grammar.specs.declared.declaration.Section.{Section}
use Rattle.stl_grammar.specs.declared.declaration.Section.TheVariants as part
use Rattle.stl_statement_grammar.specs.Words.{is_word, is_word_kind}
use Rattle.stl_statement_grammar.specs.declared.mnemonic.Read.TheVariants as read
use Rattle.stl_tree.specs.declared.raw.BlockKind.{BlockKind}

-- From a word to its section

no_formal : (word : Token) (text : List ℕ) → is_word text word ≡ true
    → is_same_word (codes "VAR_INPUT") text ≡ false → is_same_word (codes "VAR_OUTPUT") text ≡ false
    → is_same_word (codes "VAR_IN_OUT") text ≡ false → formal_section word ≡ None
no_formal word text is a b c =
    if_false (is_word (codes "VAR_INPUT") word) _ _ (other_word text (codes "VAR_INPUT") word is a)
    ∙ if_false (is_word (codes "VAR_OUTPUT") word) _ _ (other_word text (codes "VAR_OUTPUT") word is b)
    ∙ if_false (is_word (codes "VAR_IN_OUT") word) _ _ (other_word text (codes "VAR_IN_OUT") word is c)

inner_read : (word : Token) (section : Section) → formal_section word ≡ None → inner_section word ≡ Some section → section_named word ≡ Some section
inner_read word section none is = ap (λ (o : Option Section). formal_or_inner o (inner_section word)) none ∙ is

formal_read : (word : Token) (section : Section) → formal_section word ≡ Some section → section_named word ≡ Some section
formal_read word section is = ap (λ (o : Option Section). formal_or_inner o (inner_section word)) is

named_read : (section : Section) (word : Token) → is_word (section_word section) word ≡ true → section_named word ≡ Some section
named_read part.Input word is = formal_read word part.Input (if_true (is_word (codes "VAR_INPUT") word) _ _ is)
named_read part.Output word is =
    formal_read word part.Output
    (if_false (is_word (codes "VAR_INPUT") word) _ _ (other_word (codes "VAR_OUTPUT") (codes "VAR_INPUT") word is refl)
    ∙ if_true (is_word (codes "VAR_OUTPUT") word) _ _ is)
named_read part.InOut word is =
    formal_read word part.InOut
    (if_false (is_word (codes "VAR_INPUT") word) _ _ (other_word (codes "VAR_IN_OUT") (codes "VAR_INPUT") word is refl)
    ∙ if_false (is_word (codes "VAR_OUTPUT") word) _ _ (other_word (codes "VAR_IN_OUT") (codes "VAR_OUTPUT") word is refl)
    ∙ if_true (is_word (codes "VAR_IN_OUT") word) _ _ is)
named_read part.Static word is = inner_read word part.Static (no_formal word (codes "VAR") is refl refl refl) (if_true (is_word (codes "VAR") word) _ _ is)
named_read part.Temp word is =
    inner_read word part.Temp (no_formal word (codes "VAR_TEMP") is refl refl refl)
    (if_false (is_word (codes "VAR") word) _ _ (other_word (codes "VAR_TEMP") (codes "VAR") word is refl) ∙ if_true (is_word (codes "VAR_TEMP") word) _ _ is)
named_read part.Own word is =
    inner_read word part.Own (no_formal word (codes "STRUCT") is refl refl refl)
    (if_false (is_word (codes "VAR") word) _ _ (other_word (codes "STRUCT") (codes "VAR") word is refl)
    ∙ if_false (is_word (codes "VAR_TEMP") word) _ _ (other_word (codes "STRUCT") (codes "VAR_TEMP") word is refl)
    ∙ if_true (is_word (codes "STRUCT") word) _ _ is)

pub section_read : (kind : BlockKind) (before : Option Section) (section : Section) (word : Token)
    → is_word (section_word section) word ≡ true → may_open kind before section ≡ true
    → section_at kind before word ≡ Some section
section_read kind before section word is may =
    ap (λ (o : Option Section). if_open kind before o) (named_read section word is) ∙ if_true (may_open kind before section) _ _ may

-- no section begins with BEGIN
pub no_begin_word : (section : Section) (word : Token) → is_word (section_word section) word ≡ true → is_word (codes "BEGIN") word ≡ false
no_begin_word part.Input word is = other_word (codes "VAR_INPUT") (codes "BEGIN") word is refl
no_begin_word part.Output word is = other_word (codes "VAR_OUTPUT") (codes "BEGIN") word is refl
no_begin_word part.InOut word is = other_word (codes "VAR_IN_OUT") (codes "BEGIN") word is refl
no_begin_word part.Static word is = other_word (codes "VAR") (codes "BEGIN") word is refl
no_begin_word part.Temp word is = other_word (codes "VAR_TEMP") (codes "BEGIN") word is refl
no_begin_word part.Own word is = other_word (codes "STRUCT") (codes "BEGIN") word is refl

-- From the section to its word

abbrev Named : Token → Option Section → Type 0
Named word None = Unit {0}
Named word (Some section) = is_word (section_word section) word ≡ true

formal_is : (word : Token) → Named word (formal_section word)
formal_is word = by (is_word (codes "VAR_INPUT") word) refl (is_word (codes "VAR_OUTPUT") word) refl (is_word (codes "VAR_IN_OUT") word) refl
  where
    by : (a : Bool) → is_word (codes "VAR_INPUT") word ≡ a → (b : Bool)
        → is_word (codes "VAR_OUTPUT") word ≡ b → (c : Bool) → is_word (codes "VAR_IN_OUT") word ≡ c
        → Named word (if a then Some part.Input else if b then Some part.Output else if c then Some part.InOut else None)
    by true is b is_b c is_c = is
    by false no_a true is c is_c = is
    by false no_a false no_b true is = is
    by false no_a false no_b false no_c = tt

inner_is : (word : Token) → Named word (inner_section word)
inner_is word = by (is_word (codes "VAR") word) refl (is_word (codes "VAR_TEMP") word) refl (is_word (codes "STRUCT") word) refl
  where
    by : (a : Bool) → is_word (codes "VAR") word ≡ a → (b : Bool) → is_word (codes "VAR_TEMP") word ≡ b → (c : Bool) → is_word (codes "STRUCT") word ≡ c →
        Named word (if a then Some part.Static else if b then Some part.Temp else if c then Some part.Own else None)
    by true is b is_b c is_c = is
    by false no_a true is c is_c = is
    by false no_a false no_b true is = is
    by false no_a false no_b false no_c = tt

named_is : (word : Token) → Named word (section_named word)
named_is word = by (formal_section word) (formal_is word)
  where
    by : (o : Option Section) → Named word o → Named word (formal_or_inner o (inner_section word))
    by None is = inner_is word
    by (Some section) is = is

-- the word of a section, which may open there
abbrev pub OpensHere : BlockKind → Option Section → Token → Option Section → Type 0
OpensHere kind before word None = Unit {0}
OpensHere kind before word (Some section) = (is_word (section_word section) word ≡ true) × (may_open kind before section ≡ true)

pub section_is : (kind : BlockKind) (before : Option Section) (word : Token) → OpensHere kind before word (section_at kind before word)
section_is kind before word = by (section_named word) (named_is word)
  where
    at : (section : Section) → is_word (section_word section) word ≡ true → (b : Bool)
        → may_open kind before section ≡ b → OpensHere kind before word (if b then Some section else None)
    at section is true may = (is, may)
    at section is false may = tt

    by : (o : Option Section) → Named word o → OpensHere kind before word (if_open kind before o)
    by None is = tt
    by (Some section) is = at section is (may_open kind before section) refl

-- No section begins as the name of a function block does

word_no_block : (word : Token) (text : List ℕ) (b : ℕ) (more : List ℕ) → is_word text word ≡ true → str_to_ascii_lowercase text ≡ b ∷ more
    → (b ≡ 102 → ⊥) → is_same_word (codes "FB") text ≡ false → (rest : List Token) → name_at (codes "FB") (word ∷ rest) ≡ read.No
word_no_block word text b more is low apart_from differ rest =
    let p = and_parts (is_word_kind word.kind) (is_same_word word.text text) is in
    let starts : Starts b word = record { kind_is = p.0; tail = more; low_is = same_letters word.text text p.1 ∙ low } in
    let number = or_parts (is_word (codes "FB") word && begins_with_number rest) (is_numbered (codes "FB") word)
    (other_start (codes "FB") b 102 (98 ∷ []) word rest refl apart_from starts) in
    no_name (codes "FB") word rest (word_no_quoted word p.0) (other_word text (codes "FB") word is differ) number.1

pub section_no_block : (its : Section) (word : Token) (rest : List Token) → is_word (section_word its) word ≡ true
    → name_at (codes "FB") (word ∷ rest) ≡ read.No
section_no_block part.Input word rest is = word_no_block word (codes "VAR_INPUT") 118 _ is refl (λ (same : 118 ≡ 102). omega (arith, same)) refl rest
section_no_block part.Output word rest is = word_no_block word (codes "VAR_OUTPUT") 118 _ is refl (λ (same : 118 ≡ 102). omega (arith, same)) refl rest
section_no_block part.InOut word rest is = word_no_block word (codes "VAR_IN_OUT") 118 _ is refl (λ (same : 118 ≡ 102). omega (arith, same)) refl rest
section_no_block part.Static word rest is = word_no_block word (codes "VAR") 118 _ is refl (λ (same : 118 ≡ 102). omega (arith, same)) refl rest
section_no_block part.Temp word rest is = word_no_block word (codes "VAR_TEMP") 118 _ is refl (λ (same : 118 ≡ 102). omega (arith, same)) refl rest
section_no_block part.Own word rest is = word_no_block word (codes "STRUCT") 115 _ is refl (λ (same : 115 ≡ 102). omega (arith, same)) refl rest
