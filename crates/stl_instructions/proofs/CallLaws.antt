-- The operand of a call is read exactly where one of its forms stands.
use Rattle.std.proofs.Common.{◌≡◌, ℕ, suc, ◌+◌, Bool, true, false, ◌&&◌, if◌then◌else◌, List, [], ◌∷◌, ◌++◌, length, take, Option, None, refl, sym, ap, subst, ◌∙◌, inl, inr, arith}
use Rattle.std.proofs.lemmas.Bool.{and_left, and_right, or_from}
use Rattle.std.proofs.lemmas.List.{append-nil}
use Rattle.std.specs.List.{prefix_len}
use Rattle.std.specs.Prelude.{codes, not}
use Rattle.std.specs.Str.{str_to_ascii_lowercase}
use Rattle.digit_texts.specs.Digits.{kept_number}
use Rattle.s7_base.specs.declared.reason.Kind.{Kind}
use Rattle.s7_base.specs.declared.reason.Kind.TheVariants as kind
use Rattle.s7_base.specs.declared.token.Token.{Token}
use Rattle.s7_base.specs.declared.word.Width.{Width}
use Rattle.stl_constants.proofs.Reading.{AllOf, as_all, if_false, if_true, no_sign, or_all, or_no, or_this, other_sign, taken, word_no_quoted}
use Rattle.stl_constants.proofs.Tables.{none_among}
use Rattle.stl_instructions.proofs.ActualLaws.{actuals_front, actuals_read}
use Rattle.stl_instructions.proofs.NameLaws.{located_read, quoted_mark}
use Rattle.stl_places.proofs.BlockNameLaws.{Begins, Begun, StartsName, Starts, a_quote, a_word, begins_otherwise, by_number, by_word, name_begun, name_front, name_read, name_starts, no_name, no_other_number, starts_apart}
use Rattle.stl_places.proofs.Fronts.{FrontOf, and_then_front, and_then_none, and_then_read, as_front, front_all, further_front, further_read, refined}
use Rattle.stl_places.proofs.NoPlaces.{no_place_begins}
use Rattle.stl_places.proofs.PlaceTokens.{is_begin, letters_low}
use Rattle.stl_statement_grammar.specs.BlockNames.{has_number, is_numbered, name_at}
use Rattle.stl_statement_grammar.specs.CallForms.{AreActuals, IsCalled, IsCalledAlone, IsName, apart, quoted, together}
use Rattle.stl_statement_grammar.specs.CallForms as form
use Rattle.stl_statement_grammar.specs.CallOperands.{actuals_at, called_alone_at, called_at, function_alone, function_at, function_behind, function_call, indirect_block_at, instance_at, instance_behind, instance_call, instance_call_at, is_indirect_block, is_of_system, is_symbol, is_variable, left_out_if, left_out_place, system_at, variable_at}
use Rattle.stl_statement_grammar.specs.ConstantForms.{IsAmong}
use Rattle.stl_statement_grammar.specs.InstructionForms as located
use Rattle.stl_statement_grammar.specs.Lists.{begins_with_sign}
use Rattle.stl_statement_grammar.specs.LocatedOperands.{NamedForm, has_form, left_out_at, left_out_by, left_out_forms, located_at, place_operand, placed_at}
use Rattle.stl_statement_grammar.specs.PathForms as named
use Rattle.stl_statement_grammar.specs.Paths.{named_at, named_behind, path_at}
use Rattle.stl_statement_grammar.specs.Places.{is_no_digit, letters_of, place_at}
use Rattle.stl_statement_grammar.specs.Pointers.{crossing_at, crossing_by, indirect_at, width_named}
use Rattle.stl_statement_grammar.specs.Readers.{further, or_else, read_as}
use Rattle.stl_statement_grammar.specs.Words.{is_joined, is_quoted_kind, is_sign, is_word, is_word_kind}
use Rattle.stl_statement_grammar.specs.declared.mnemonic.Read.{Read}
use Rattle.stl_statement_grammar.specs.declared.mnemonic.Read.TheVariants.{Fits, LeftOut, No}
use Rattle.stl_tree.specs.declared.raw.PathStep.{PathStep}
use Rattle.stl_tree.specs.declared.raw.RawActual.{RawActual}
use Rattle.stl_tree.specs.declared.raw.RawName.{RawName}
use Rattle.stl_tree.specs.declared.raw.RawName.TheVariants.{Name, Number}
use Rattle.stl_tree.specs.declared.raw.RawOperand.{RawOperand}
use Rattle.stl_tree.specs.declared.raw.RawOperand.TheVariants.{At, InBlock, Named}

-- From what is read to its form

left_out_all : (n : ℕ) (P : RawOperand → Type 0) (b : Bool) (k : Kind) → AllOf n P (left_out_if b k)
left_out_all n P true k = tt
left_out_all n P false k = tt

function_front : (tokens : List Token) → FrontOf tokens IsCalled (function_at tokens)
function_front tokens =
    and_then_front tokens (IsName (codes "FC")) IsCalled (name_at (codes "FC") tokens) function_behind (name_front (codes "FC") tokens)
    (λ front rest name is.
    as_front rest (function_call name) AreActuals (λ more operand. IsCalled (front ++ more) operand)
    (λ more left actuals split are. form.function front more name actuals is are) (actuals_at rest) (actuals_front rest))

-- a comma and the name of a data block
data IsInstance : List Token → RawName → Type 0 where
  behind_comma : (comma : Token) (names : List Token) (db : RawName) →
      is_sign (codes ",") comma ≡ true → IsName (codes "DB") names db → IsInstance (comma ∷ names) db

instance_front : (tokens : List Token) → FrontOf tokens IsInstance (instance_at tokens)
instance_front [] = tt
instance_front (comma ∷ rest) = by (is_sign (codes ",") comma) refl
  where
    by : (b : Bool) → is_sign (codes ",") comma ≡ b → FrontOf (comma ∷ rest) IsInstance (if b then further 1 (name_at (codes "DB") rest) else No)
    by false sign = tt
    by true sign =
        further_front (comma ∷ []) rest IsInstance (name_at (codes "DB") rest)
        (refined rest (IsName (codes "DB")) (λ more db. IsInstance (comma ∷ more) db)
        (λ more left db split is. behind_comma comma more db sign is) (name_at (codes "DB") rest) (name_front (codes "DB") rest))

behind_front : (front : List Token) (name : RawName) → IsName (codes "FB") front name → (tokens : List Token) →
    FrontOf tokens (λ more operand. IsCalled (front ++ more) operand) (instance_behind name tokens)
behind_front front name is tokens =
    and_then_front tokens IsInstance (λ more operand. IsCalled (front ++ more) operand) (instance_at tokens)
    (λ db rest. read_as (instance_call name db) (actuals_at rest)) (instance_front tokens)
    (λ middle rest db at.
    as_front rest (instance_call name db) AreActuals (λ more operand. IsCalled (front ++ (middle ++ more)) operand)
    (λ more left actuals split are. called middle more db actuals at are) (actuals_at rest) (actuals_front rest))
  where
    called : (middle more : List Token) (db : RawName) (actuals : List RawActual) → IsInstance middle db → AreActuals more actuals
        → IsCalled (front ++ (middle ++ more)) (instance_call name db actuals)
    called middle more db actuals (behind_comma comma names its sign named) are = form.function_block front comma names more name its actuals is sign named are

called_front : (tokens : List Token) → FrontOf tokens IsCalled (instance_call_at tokens)
called_front tokens =
    and_then_front tokens (IsName (codes "FB")) IsCalled (name_at (codes "FB") tokens) instance_behind (name_front (codes "FB") tokens)
    (λ front rest name is. behind_front front name is rest)

pub called_all : (tokens : List Token) → AllOf (length tokens) (IsCalled tokens) (called_at tokens)
called_all tokens =
    or_all (length tokens) (IsCalled tokens) (system_at tokens) _ (left_out_all (length tokens) (IsCalled tokens) (is_of_system tokens) kind.SystemCall)
    (or_all (length tokens) (IsCalled tokens) (variable_at tokens) _
    (left_out_all (length tokens) (IsCalled tokens) (is_variable (named_at tokens)) kind.MultiInstance)
    (or_all (length tokens) (IsCalled tokens) (function_at tokens) (instance_call_at tokens)
    (front_all tokens IsCalled (function_at tokens) (function_front tokens)) (front_all tokens IsCalled (instance_call_at tokens) (called_front tokens))))

indirect_all : (n : ℕ) (P : RawOperand → Type 0) (r : Read RawOperand) → AllOf n P (left_out_place r)
indirect_all n P No = tt
indirect_all n P (LeftOut k) = tt
indirect_all n P (Fits operand size) = left_out_all n P (not (is_symbol operand)) kind.IndirectBlock

pub called_alone_all : (tokens : List Token) → AllOf (length tokens) (IsCalledAlone tokens) (called_alone_at tokens)
called_alone_all tokens =
    let n = length tokens in
    let P : RawOperand → Type 0 = IsCalledAlone tokens in
    or_all n P (system_at tokens) _ (left_out_all n P (is_of_system tokens) kind.SystemCall)
    (or_all n P (indirect_block_at tokens) _
    (or_all n P (left_out_if (is_indirect_block tokens) kind.IndirectBlock) (left_out_place (located_at tokens))
    (left_out_all n P (is_indirect_block tokens) kind.IndirectBlock) (indirect_all n P (located_at tokens)))
    (as_all n function_alone (λ name. IsName (codes "FC") tokens name) P (λ name is. form.alone tokens name is) (name_at (codes "FC") tokens)
    (front_all tokens (IsName (codes "FC")) (name_at (codes "FC") tokens) (name_front (codes "FC") tokens))))

-- From a form to what is read of it

not_left_out : (b : Bool) (k : Kind) → b ≡ false → left_out_if b k ≡ No
not_left_out true k h = absurd cc
not_left_out false k h = refl

-- neither a block of the system nor a variable begins as a name does
no_system : (first : Token) (rest : List Token) → StartsName 102 first → system_at (first ∷ rest) ≡ No
no_system first rest starts =
    not_left_out (is_of_system (first ∷ rest)) kind.SystemCall
    (or_from (has_number (codes "SFC") first rest) (has_number (codes "SFB") first rest)
    (no_other_number (codes "SFC") 102 115 (102 ∷ 99 ∷ []) first rest refl (λ (same : 102 ≡ 115). omega (arith, same)) starts)
    (no_other_number (codes "SFB") 102 115 (102 ∷ 98 ∷ []) first rest refl (λ (same : 102 ≡ 115). omega (arith, same)) starts))

-- what is read of a name in quotes is no variable
quoted_no_variable : (name : List ℕ) (rest : List Token) → is_variable (named_behind name rest) ≡ false
quoted_no_variable name [] = refl
quoted_no_variable name (point ∷ []) = by (is_joined (codes ".") point)
  where
    by : (b : Bool) → is_variable (or_else (if b && false then further 2 (read_as (InBlock name) No) else No) (Fits (Named name) 1)) ≡ false
    by true = refl
    by false = refl
quoted_no_variable name (point ∷ word ∷ rest) = by (is_joined (codes ".") point && word.glued) (path_at (word ∷ rest))
  where
    by : (b : Bool) (r : Read (List PathStep)) →
        is_variable (or_else (if b then further 2 (read_as (InBlock name) r) else No) (Fits (Named name) 1)) ≡ false
    by false r = refl
    by true No = refl
    by true (LeftOut k) = refl
    by true (Fits steps size) = refl

no_variable : (first : Token) (rest : List Token) → StartsName 102 first → variable_at (first ∷ rest) ≡ No
no_variable first rest (a_quote is) =
    not_left_out (is_variable (named_at (first ∷ rest))) kind.MultiInstance
    (ap is_variable (if_true (is_quoted_kind first.kind) _ _ is) ∙ quoted_no_variable first.text rest)
no_variable first rest (a_word starts) =
    not_left_out (is_variable (named_at (first ∷ rest))) kind.MultiInstance
    (ap is_variable
    (if_false (is_quoted_kind first.kind) _ _ (word_no_quoted first starts.kind_is)
    ∙ if_false (is_sign (codes "#") first) _ No (no_sign (codes "#") first starts.kind_is)))

-- the first token of a call
fc_starts : (first : Token) → Begins (codes "FC") first → StartsName 102 first
fc_starts first begins = name_starts (codes "FC") 102 (99 ∷ []) first refl begins

fb_starts : (first : Token) → Begins (codes "FB") first → StartsName 102 first
fb_starts first begins = name_starts (codes "FB") 102 (98 ∷ []) first refl begins

plain_call : (first : Token) (rest : List Token) → StartsName 102 first
    → called_at (first ∷ rest) ≡ or_else (function_at (first ∷ rest)) (instance_call_at (first ∷ rest))
plain_call first rest starts =
    or_no (system_at (first ∷ rest)) _ (no_system first rest starts) ∙ or_no (variable_at (first ∷ rest)) _ (no_variable first rest starts)

-- the same for all tokens of a name and others behind them
before_call : (names rest : List Token) (letters : List ℕ) → ((first : Token) → Begins letters first → StartsName 102 first) → Begun letters names
    → called_at (names ++ rest) ≡ or_else (function_at (names ++ rest)) (instance_call_at (names ++ rest))
before_call names rest letters starts b =
    subst (λ (ts : List Token). called_at (ts ++ rest) ≡ or_else (function_at (ts ++ rest)) (instance_call_at (ts ++ rest))) b.is
    (plain_call b.first (b.rest ++ rest) (starts b.first b.begins))

no_actuals : (comma : Token) (rest : List Token) → is_sign (codes ",") comma ≡ true → actuals_at (comma ∷ rest) ≡ No
no_actuals comma rest sign = if_false (is_sign (codes "(") comma) _ No (other_sign (codes ",") (codes "(") comma sign refl)

-- the name of a function block with its instance is no function
no_function : (names : List Token) (name : RawName) → IsName (codes "FB") names name → (comma : Token) (rest : List Token) → is_sign (codes ",") comma ≡ true
    → function_at (names ++ (comma ∷ rest)) ≡ No
no_function names name (quoted its word is) comma rest sign =
    and_then_read (word ∷ []) (comma ∷ rest) (name_at (codes "FC") (word ∷ comma ∷ rest))
    (Name word.text) function_behind (if_true (is_quoted_kind word.kind) _ _ is)
    ∙ ap (λ (r : Read (List RawActual)). further 1 (read_as (function_call (Name word.text)) r)) (no_actuals comma rest sign)
no_function names name (apart its word number n no_quotes is found) comma rest sign =
    let none = begins_otherwise 70 66 70 67 word refl (by_word is) in
    and_then_none (word ∷ number ∷ comma ∷ rest) (name_at (codes "FC") (word ∷ number ∷ comma ∷ rest)) function_behind
    (no_name (codes "FC") word (number ∷ comma ∷ rest) no_quotes none.0 none.1)
no_function names name (together its word n no_quotes no_word numbered found) comma rest sign =
    let none = begins_otherwise 70 66 70 67 word refl (by_number numbered) in
    and_then_none (word ∷ comma ∷ rest) (name_at (codes "FC") (word ∷ comma ∷ rest)) function_behind
    (no_name (codes "FC") word (comma ∷ rest) no_quotes none.0 none.1)

pub called_read : (tokens : List Token) (operand : RawOperand) → IsCalled tokens operand → called_at tokens ≡ Fits operand (length tokens)
called_read tokens operand (form.function front rest name actuals is are) =
    before_call front rest (codes "FC") fc_starts (name_begun (codes "FC") front name is)
    ∙ or_this (function_at (front ++ rest)) (instance_call_at (front ++ rest)) (function_call name actuals) (length (front ++ rest))
    (and_then_read front rest (name_at (codes "FC") (front ++ rest)) name function_behind (name_read (codes "FC") front name is rest)
    ∙ further_read front rest (function_behind name rest) (function_call name actuals) (ap (read_as (function_call name)) (actuals_read rest actuals are)))
called_read tokens operand (form.function_block front comma middle rest name db actuals is sign at are) =
    let behind = comma ∷ (middle ++ rest) in
    before_call front behind (codes "FB") fb_starts (name_begun (codes "FB") front name is)
    ∙ or_no (function_at (front ++ behind)) (instance_call_at (front ++ behind)) (no_function front name is comma (middle ++ rest) sign)
    ∙ and_then_read front behind (name_at (codes "FB") (front ++ behind)) name instance_behind (name_read (codes "FB") front name is behind)
    ∙ further_read front behind (instance_behind name behind) (instance_call name db actuals)
    (and_then_read (comma ∷ middle) rest (instance_at behind) db (λ its more. read_as (instance_call name its) (actuals_at more))
    (if_true (is_sign (codes ",") comma) _ No sign
    ∙ further_read (comma ∷ []) middle (name_at (codes "DB") (middle ++ rest)) db (name_read (codes "DB") middle db at rest))
    ∙ further_read (comma ∷ middle) rest (read_as (instance_call name db) (actuals_at rest)) (instance_call name db actuals)
    (ap (read_as (instance_call name db)) (actuals_read rest actuals are)))

-- Functions alone

-- a word begins with another letter
record OtherLetter (word : List ℕ) : Type 0 where
  letter : ℕ
  tail : List ℕ
  low : str_to_ascii_lowercase word ≡ letter ∷ tail
  differs : 102 ≡ letter → ⊥

other_letters : (word : List ℕ) (first : Token) → OtherLetter word → Starts 102 first → (is_word word first ≡ false) × (is_numbered word first ≡ false)
other_letters word first o starts = (by_letters (is_word word first) refl, by_digits (is_numbered word first) refl)
  where
    clash : Starts o.letter first → ⊥
    clash its = o.differs (starts_apart 102 o.letter first starts its)

    named_so : StartsName o.letter first → ⊥
    named_so (a_quote is) = let apart_from : true ≡ false = sym is ∙ word_no_quoted first starts.kind_is in absurd cc
    named_so (a_word its) = clash its

    by_letters : (b : Bool) → is_word word first ≡ b → b ≡ false
    by_letters true is = absurd (named_so (name_starts word o.letter o.tail first o.low (by_word is)))
    by_letters false is = refl

    by_digits : (b : Bool) → is_numbered word first ≡ b → b ≡ false
    by_digits true is = absurd (named_so (name_starts word o.letter o.tail first o.low (by_number is)))
    by_digits false is = refl

letter_of : (its : NamedForm) → IsAmong its left_out_forms → OtherLetter its.word
letter_of its (inl e) =
    subst (λ (f : NamedForm). OtherLetter f.word) (sym e)
    (record { letter = 116; tail = []; low = refl; differs = λ (same : 102 ≡ 116). omega (arith, same) })
letter_of its (inr (inl e)) =
    subst (λ (f : NamedForm). OtherLetter f.word) (sym e)
    (record { letter = 99; tail = []; low = refl; differs = λ (same : 102 ≡ 99). omega (arith, same) })
letter_of its (inr (inr (inl e))) =
    subst (λ (f : NamedForm). OtherLetter f.word) (sym e)
    (record { letter = 112; tail = 105 ∷ 98 ∷ []; low = refl; differs = λ (same : 102 ≡ 112). omega (arith, same) })
letter_of its (inr (inr (inr (inl e)))) =
    subst (λ (f : NamedForm). OtherLetter f.word) (sym e)
    (record { letter = 112; tail = 105 ∷ 119 ∷ []; low = refl; differs = λ (same : 102 ≡ 112). omega (arith, same) })
letter_of its (inr (inr (inr (inr (inl e))))) =
    subst (λ (f : NamedForm). OtherLetter f.word) (sym e)
    (record { letter = 112; tail = 105 ∷ 100 ∷ []; low = refl; differs = λ (same : 102 ≡ 112). omega (arith, same) })
letter_of its (inr (inr (inr (inr (inr (inl e)))))) =
    subst (λ (f : NamedForm). OtherLetter f.word) (sym e)
    (record { letter = 112; tail = 113 ∷ 98 ∷ []; low = refl; differs = λ (same : 102 ≡ 112). omega (arith, same) })
letter_of its (inr (inr (inr (inr (inr (inr (inl e))))))) =
    subst (λ (f : NamedForm). OtherLetter f.word) (sym e)
    (record { letter = 112; tail = 113 ∷ 119 ∷ []; low = refl; differs = λ (same : 102 ≡ 112). omega (arith, same) })
letter_of its (inr (inr (inr (inr (inr (inr (inr (inl e)))))))) =
    subst (λ (f : NamedForm). OtherLetter f.word) (sym e)
    (record { letter = 112; tail = 113 ∷ 100 ∷ []; low = refl; differs = λ (same : 102 ≡ 112). omega (arith, same) })
letter_of its (inr (inr (inr (inr (inr (inr (inr (inr none)))))))) = elim none [ ]

no_form : (first : Token) (rest : List Token) → Starts 102 first → (its : NamedForm) → IsAmong its left_out_forms → has_form (first ∷ rest) its ≡ false
no_form first rest starts its among =
    let never = other_letters its.word first (letter_of its among) starts in
    or_from _ _ (and_left _ _ never.0) never.1

f_is_no_place : (tail : List ℕ) → is_begin (letters_of (102 ∷ tail)) ≡ false
f_is_no_place tail =
    let n = prefix_len is_no_digit tail in
    let e : 1 + n ≡ suc n = omega arith in
    ap (λ (k : ℕ). is_begin (take k (102 ∷ tail))) e

no_place : (first : Token) (rest : List Token) → Starts 102 first → place_operand (first ∷ rest) ≡ No
no_place first rest starts =
    or_no (place_at (first ∷ rest)) (left_out_at left_out_forms (first ∷ rest))
    (no_place_begins first rest
    (ap is_begin (letters_low first.text ∙ ap (λ (low : List ℕ). letters_of low) starts.low_is) ∙ f_is_no_place starts.tail))
    ∙ ap left_out_by (none_among (has_form (first ∷ rest)) left_out_forms (no_form first rest starts))

no_indirect : (first : Token) (rest : List Token) → begins_with_sign (codes "[") rest ≡ false → indirect_at (first ∷ rest) ≡ No
no_indirect first [] h = refl
no_indirect first (before ∷ rest) h = if_false (is_sign (codes "[") before) _ No h

no_width : (first : Token) → Starts 102 first → width_named first ≡ None
no_width first starts =
    if_false (is_word (codes "B") first) _ _
    (other_letters (codes "B") first (record { letter = 98; tail = []; low = refl; differs = λ (same : 102 ≡ 98). omega (arith, same) }) starts).0
    ∙ if_false (is_word (codes "W") first) _ _
    (other_letters (codes "W") first (record { letter = 119; tail = []; low = refl; differs = λ (same : 102 ≡ 119). omega (arith, same) }) starts).0
    ∙ if_false (is_word (codes "D") first) _ _
    (other_letters (codes "D") first (record { letter = 100; tail = []; low = refl; differs = λ (same : 102 ≡ 100). omega (arith, same) }) starts).0

no_located : (first : Token) (rest : List Token) → Starts 102 first → begins_with_sign (codes "[") rest ≡ false → located_at (first ∷ rest) ≡ No
no_located first rest starts h =
    let ts = first ∷ rest in
    or_no (placed_at ts) (crossing_at ts)
    (or_no (read_as At (place_operand ts)) _ (ap (read_as At) (no_place first rest starts))
    ∙ or_no (named_at ts) (indirect_at ts)
    (if_false (is_quoted_kind first.kind) _ _ (word_no_quoted first starts.kind_is)
    ∙ if_false (is_sign (codes "#") first) _ No (no_sign (codes "#") first starts.kind_is))
    ∙ no_indirect first rest h)
    ∙ if_false (is_sign (codes "[") first) _ _ (no_sign (codes "[") first starts.kind_is)
    ∙ ap (λ (o : Option Width). crossing_by o rest) (no_width first starts)

no_indirect_block : (first : Token) (rest : List Token) → is_word (codes "FB") first ≡ false → is_numbered (codes "FB") first ≡ false
    → (is_word (codes "FC") first && begins_with_sign (codes "[") rest) ≡ false → is_sign (codes "[") first ≡ false → is_indirect_block (first ∷ rest) ≡ false
no_indirect_block first rest no_word no_number no_function no_bracket =
    or_from _ _ (or_from _ _ (or_from _ _ (or_from _ _ (and_left _ _ no_word) no_number) (and_left _ _ no_word)) no_function) no_bracket

-- what is read of a function alone, where no block is found at run time
alone_by : (tokens : List Token) (name : RawName) → system_at tokens ≡ No → is_indirect_block tokens ≡ false → left_out_place (located_at tokens) ≡ No
    → name_at (codes "FC") tokens ≡ Fits name (length tokens) → called_alone_at tokens ≡ Fits (function_alone name) (length tokens)
alone_by tokens name no_system_there no_block no_operand read =
    or_no (system_at tokens) _ no_system_there
    ∙ or_no (indirect_block_at tokens) _
    (or_no (left_out_if (is_indirect_block tokens) kind.IndirectBlock) _ (not_left_out (is_indirect_block tokens) kind.IndirectBlock no_block) ∙ no_operand)
    ∙ ap (read_as function_alone) read

name_alone : (tokens : List Token) (name : RawName) → IsName (codes "FC") tokens name → name_at (codes "FC") tokens ≡ Fits name (length tokens)
name_alone tokens name is =
    subst (λ (ts : List Token). name_at (codes "FC") ts ≡ Fits name (length tokens)) (append-nil tokens) (name_read (codes "FC") tokens name is [])

word_alone : (first : Token) (rest : List Token) (name : RawName) → IsName (codes "FC") (first ∷ rest) name → Begins (codes "FC") first
    → Starts 102 first → begins_with_sign (codes "[") rest ≡ false → called_alone_at (first ∷ rest) ≡ Fits (function_alone name) (length (first ∷ rest))
word_alone first rest name is begins starts no_bracket =
    let none = begins_otherwise 70 67 70 66 first refl begins in
    alone_by (first ∷ rest) name (no_system first rest (a_word starts))
    (no_indirect_block first rest none.0 none.1 (and_right _ _ no_bracket) (no_sign (codes "[") first starts.kind_is))
    (ap left_out_place (no_located first rest starts no_bracket)) (name_alone (first ∷ rest) name is)

pub called_alone_read : (tokens : List Token) (operand : RawOperand) → IsCalledAlone tokens operand → called_alone_at tokens ≡ Fits operand (length tokens)
called_alone_read tokens operand (form.alone ts name is) = by ts name is
  where
    of_word : (first : Token) (rest : List Token) (name : RawName) → IsName (codes "FC") (first ∷ rest) name → Begins (codes "FC") first
        → begins_with_sign (codes "[") rest ≡ false → is_quoted_kind first.kind ≡ false → StartsName 102 first
        → called_alone_at (first ∷ rest) ≡ Fits (function_alone name) (length (first ∷ rest))
    of_word first rest name is begins no_bracket no_quotes (a_quote quotes) = let clash : true ≡ false = sym quotes ∙ no_quotes in absurd cc
    of_word first rest name is begins no_bracket no_quotes (a_word starts) = word_alone first rest name is begins starts no_bracket

    by : (ts : List Token) (name : RawName) → IsName (codes "FC") ts name → called_alone_at ts ≡ Fits (function_alone name) (length ts)
    by ts name (quoted its word quotes) =
        let m = quoted_mark word quotes in
        let located_name = located.placed (word ∷ []) (Named word.text) (located.named (word ∷ []) (Named word.text) (named.name word quotes)) in
        alone_by (word ∷ []) (Name word.text) (no_system word [] (a_quote quotes))
        (no_indirect_block word [] (and_left _ _ m.no_word) (and_left _ _ (and_left _ _ m.no_word))
        (and_left _ _ (and_left _ _ m.no_word)) (m.other (codes "[") refl))
        (ap left_out_place (located_read (word ∷ []) (Named word.text) located_name)) (if_true (is_quoted_kind word.kind) _ _ quotes)
    by ts name (apart its word number n no_quotes is found) =
        of_word word (number ∷ []) (Number n) (apart its word number n no_quotes is found) (by_word is)
        (no_sign (codes "[") number (taken (is_word_kind number.kind) (kept_number number.text) n found).0) no_quotes (fc_starts word (by_word is))
    by ts name (together its word n no_quotes no_word numbered found) =
        of_word word [] (Number n) (together its word n no_quotes no_word numbered found)
        (by_number numbered) refl no_quotes (fc_starts word (by_number numbered))
