-- What is given to a formal is read exactly where one of its forms stands, and so are the actuals of a call.
use Rattle.std.proofs.Common.{◌≡◌, ℕ, ◌≤◌, Bool, true, false, ◌&&◌, if◌then◌else◌, List, [], ◌∷◌, ◌++◌, length, Option, Some, None, refl, sym, ap, subst, ◌∙◌, arith}
use Rattle.std.proofs.lemmas.Bool.{and_from, and_left, and_parts}
use Rattle.std.proofs.lemmas.List.{append-nil}
use Rattle.std.specs.List.{find}
use Rattle.std.specs.Prelude.{codes, not}
use Rattle.s7_base.specs.declared.reason.Kind.{Kind}
use Rattle.s7_base.specs.declared.token.Token.{Token}
use Rattle.s7_base.specs.declared.word.Width.TheVariants as width
use Rattle.stl_constants.proofs.ConstantLaws.{pointer_no_constant, word_is}
use Rattle.stl_constants.proofs.Reading.{if_false, if_true, or_no, or_this, other_word, sign_no_quoted}
use Rattle.stl_instructions.proofs.LeftOutLaws.{no_place}
use Rattle.stl_instructions.proofs.NameLaws.{IsMark, named_front, no_constant, quoted_mark, sign_mark}
use Rattle.stl_places.proofs.ConstantFronts.{Stops, constant_before, constant_front, stop_by}
use Rattle.stl_places.proofs.Fronts.{FrontOf, as_front, further_front, further_read, or_front, refined}
use Rattle.stl_places.proofs.ListLaws.{Agrees, Closes, elements_front, elements_read}
use Rattle.stl_places.proofs.Outs.{OutOf}
use Rattle.stl_places.proofs.PathLaws.{path_read_before}
use Rattle.stl_places.proofs.PlaceLaws.{glued_before, place_at_read, place_front}
use Rattle.stl_places.proofs.PlaceTokens.{no_hash, place_before_no_constant, place_before_no_word}
use Rattle.stl_places.proofs.PointerLaws.{pointer_constant_front, pointer_hashed}
use Rattle.stl_places.proofs.Repeated.{IsNone}
use Rattle.stl_places.proofs.ValueFronts.{constant_other, name_none, no_truth, pointer_before}
use Rattle.stl_statement_grammar.specs.CallForms.{AreActuals, IsActual, IsActualValue}
use Rattle.stl_statement_grammar.specs.CallForms as form
use Rattle.stl_statement_grammar.specs.CallOperands.{actual, actual_at, actual_value_at, actuals_at, actuals_behind}
use Rattle.stl_statement_grammar.specs.ConstantForms.{IsConstant}
use Rattle.stl_statement_grammar.specs.Constants.{begins_glued, constant, constant_at, truth_at}
use Rattle.stl_statement_grammar.specs.ListForms.{AreElements}
use Rattle.stl_statement_grammar.specs.LocatedOperands.{NamedForm, any_constant_at, has_form, left_out_at, left_out_by, left_out_forms, place_operand}
use Rattle.stl_statement_grammar.specs.PathForms.{IsNamed}
use Rattle.stl_statement_grammar.specs.PathForms as named
use Rattle.stl_statement_grammar.specs.Paths.{component_at, in_block_behind, named_at, path_at, step_at}
use Rattle.stl_statement_grammar.specs.PlaceForms.{IsPlace}
use Rattle.stl_statement_grammar.specs.Places.{place_at}
use Rattle.stl_statement_grammar.specs.PointerForms.{IsPointerConstant}
use Rattle.stl_statement_grammar.specs.Pointers.{pointer_at}
use Rattle.stl_statement_grammar.specs.Readers.{fitting, further, read_as}
use Rattle.stl_statement_grammar.specs.Words.{is_joined, is_joined_word, is_quoted_kind, is_sign, is_word, is_word_kind}
use Rattle.stl_statement_grammar.specs.declared.mnemonic.Read.{Read}
use Rattle.stl_statement_grammar.specs.declared.mnemonic.Read.TheVariants.{Fits, LeftOut, No}
use Rattle.stl_tree.specs.declared.raw.PathStep.{PathStep}
use Rattle.stl_tree.specs.declared.raw.RawActual.{RawActual}
use Rattle.stl_tree.specs.declared.raw.RawOperand.{RawOperand}
use Rattle.stl_tree.specs.declared.raw.RawOperand.TheVariants.{At, Constant, InBlock, Local, Pointer}

-- From what is read to its form

truth_front : (tokens : List Token) → FrontOf tokens IsActualValue (read_as Constant (truth_at tokens))
truth_front [] = tt
truth_front (first ∷ rest) = by (is_word (codes "TRUE") first) refl (is_word (codes "FALSE") first) refl
  where
    by : (b : Bool) → is_word (codes "TRUE") first ≡ b → (c : Bool) → is_word (codes "FALSE") first ≡ c →
        FrontOf (first ∷ rest) IsActualValue
        (read_as Constant (fitting 1 (if b then Some (constant width.Bit 1) else if c then Some (constant width.Bit 0) else None)))
    by true is c other = record { front = first ∷ []; rest = rest; is = refl; size_is = refl; holds = form.truth first is }
    by false none true is = record { front = first ∷ []; rest = rest; is = refl; size_is = refl; holds = form.falsity first is }
    by false none false other = tt

any_constant_front : (tokens : List Token) → FrontOf tokens IsActualValue (any_constant_at tokens)
any_constant_front tokens =
    or_front tokens IsActualValue (read_as Constant (constant_at tokens)) (read_as Pointer (pointer_at tokens))
    (as_front tokens Constant IsConstant IsActualValue (λ front rest c at is. form.constant_given front c is) (constant_at tokens) (constant_front tokens))
    (as_front tokens Pointer IsPointerConstant IsActualValue (λ front rest p at is. form.pointer_given front p is) (pointer_at tokens)
    (pointer_constant_front tokens))

left_out_front : (tokens : List Token) → FrontOf tokens IsPlace (left_out_at left_out_forms tokens)
left_out_front tokens = by (find (has_form tokens) left_out_forms)
  where
    by : (o : Option NamedForm) → FrontOf tokens IsPlace (left_out_by o)
    by None = tt
    by (Some form) = tt

value_front : (tokens : List Token) → FrontOf tokens IsActualValue (actual_value_at tokens)
value_front tokens =
    or_front tokens IsActualValue (read_as Constant (truth_at tokens)) _ (truth_front tokens)
    (or_front tokens IsActualValue (any_constant_at tokens) _ (any_constant_front tokens)
    (or_front tokens IsActualValue (read_as At (place_operand tokens)) (named_at tokens)
    (as_front tokens At IsPlace IsActualValue (λ front rest place at is. form.place_given front place is) (place_operand tokens)
    (or_front tokens IsPlace (place_at tokens) (left_out_at left_out_forms tokens) (place_front tokens) (left_out_front tokens)))
    (refined tokens IsNamed IsActualValue (λ front rest o at is. form.name_given front o is) (named_at tokens) (named_front tokens))))

actual_front : (tokens : List Token) → FrontOf tokens IsActual (actual_at tokens)
actual_front [] = tt
actual_front (name ∷ []) = tt
actual_front (name ∷ assign ∷ rest) = by (is_word_kind name.kind && is_sign (codes ":=") assign) refl
  where
    by : (b : Bool) → (is_word_kind name.kind && is_sign (codes ":=") assign) ≡ b →
        FrontOf (name ∷ assign ∷ rest) IsActual (if b then further 2 (read_as (actual name) (actual_value_at rest)) else No)
    by false h = tt
    by true h =
        let p = and_parts (is_word_kind name.kind) (is_sign (codes ":=") assign) h in
        further_front (name ∷ assign ∷ []) rest IsActual (read_as (actual name) (actual_value_at rest))
        (as_front rest (actual name) IsActualValue (λ more a. IsActual (name ∷ assign ∷ more) a)
        (λ more left value split is. form.assigned name assign more value p.0 p.1 is) (actual_value_at rest) (value_front rest))

-- From a form to what is read of it, before what ends it

-- a pointer begins with P
no_pointer : (tokens : List Token) → word_is (codes "P") tokens ≡ false → pointer_at tokens ≡ No
no_pointer [] h = refl
no_pointer (word ∷ []) h = refl
no_pointer (word ∷ hash ∷ rest) h =
    if_false (is_word (codes "P") word && is_joined (codes "#") hash && begins_glued rest) _ No (and_left _ _ (and_left _ _ h))

no_any_constant : (tokens : List Token) → constant_at tokens ≡ No → pointer_at tokens ≡ No → any_constant_at tokens ≡ No
no_any_constant tokens c p = or_no (read_as Constant (constant_at tokens)) _ (ap (read_as Constant) c) ∙ ap (read_as Pointer) p

stops_no_hash : (rest : List Token) → Stops rest → no_hash rest ≡ true
stops_no_hash [] stop = refl
stops_no_hash (sign ∷ rest) stop = ap not stop.hash

-- a value that is neither a truth value nor a constant nor a place
only_name : (tokens : List Token) → truth_at tokens ≡ No → any_constant_at tokens ≡ No → place_operand tokens ≡ No
    → actual_value_at tokens ≡ named_at tokens
only_name tokens truth constant_there place =
    or_no (read_as Constant (truth_at tokens)) _ (ap (read_as Constant) truth) ∙ or_no (any_constant_at tokens) _ constant_there
    ∙ or_no (read_as At (place_operand tokens)) (named_at tokens) (ap (read_as At) place)

-- no step of a path follows
no_step : (rest : List Token) → Stops rest → IsNone (step_at rest)
no_step [] stop = absurd stop
no_step (sign ∷ []) stop =
    let none : step_at (sign ∷ []) ≡ No = if_false (is_sign (codes "[") sign) _ No stop.square in
    subst (λ (r : Read PathStep). IsNone r) (sym none) tt
no_step (sign ∷ next ∷ rest) stop =
    let none : step_at (sign ∷ next ∷ rest) ≡ No =
    or_no (component_at (sign ∷ next ∷ rest)) _
    (if_false (is_joined (codes ".") sign && is_joined_word next) _ No (and_left _ _ (and_left _ _ stop.point)))
    ∙ if_false (is_sign (codes "[") sign) _ No stop.square in
    subst (λ (r : Read PathStep). IsNone r) (sym none) tt

no_block : (name : List ℕ) (rest : List Token) → Stops rest → in_block_behind name rest ≡ No
no_block name [] stop = refl
no_block name (sign ∷ rest) stop = if_false (is_joined (codes ".") sign && begins_glued rest) _ No (and_left _ _ (and_left _ _ stop.point))

named_before : (tokens : List Token) (operand : RawOperand) → IsNamed tokens operand
    → (rest : List Token) → Stops rest → named_at (tokens ++ rest) ≡ Fits operand (length tokens)
named_before tokens operand (named.name quoted kind) rest stop =
    if_true (is_quoted_kind quoted.kind) _ _ kind ∙ or_no (in_block_behind quoted.text rest) _ (no_block quoted.text rest stop)
named_before tokens operand (named.in_block quoted point more steps kind at glued is) rest stop =
    if_true (is_quoted_kind quoted.kind) _ _ kind
    ∙ or_this (in_block_behind quoted.text (point ∷ (more ++ rest))) _ (InBlock quoted.text steps) (length (quoted ∷ point ∷ more))
    (if_true (is_joined (codes ".") point && begins_glued (more ++ rest)) _ No (and_from _ _ at (glued_before more rest glued))
    ∙ further_read (quoted ∷ point ∷ []) more (read_as (InBlock quoted.text) (path_at (more ++ rest))) (InBlock quoted.text steps)
    (ap (read_as (InBlock quoted.text)) (path_read_before more steps is rest (no_step rest stop))))
named_before tokens operand (named.local hash more steps sign glued is) rest stop =
    if_false (is_quoted_kind hash.kind) _ _ (sign_no_quoted (codes "#") hash sign)
    ∙ if_true (is_sign (codes "#") hash) _ No sign
    ∙ if_true (begins_glued (more ++ rest)) _ No (glued_before more rest glued)
    ∙ further_read (hash ∷ []) more (read_as Local (path_at (more ++ rest))) (Local steps)
    (ap (read_as Local) (path_read_before more steps is rest (no_step rest stop)))

marked_value : (first : Token) (rest : List Token) → IsMark first → actual_value_at (first ∷ rest) ≡ named_at (first ∷ rest)
marked_value first rest m =
    only_name (first ∷ rest) (no_truth (first ∷ rest) (and_left _ _ m.no_word) (and_left _ _ m.no_word))
    (no_any_constant (first ∷ rest) (no_constant first rest m) (no_pointer (first ∷ rest) (and_left _ _ m.no_word))) (no_place first rest m.no_word)

named_value : (tokens : List Token) (operand : RawOperand) → IsNamed tokens operand
    → (rest : List Token) → actual_value_at (tokens ++ rest) ≡ named_at (tokens ++ rest)
named_value tokens operand (named.name quoted kind) rest = marked_value quoted rest (quoted_mark quoted kind)
named_value tokens operand (named.in_block quoted point more steps kind at glued is) rest =
    marked_value quoted (point ∷ (more ++ rest)) (quoted_mark quoted kind)
named_value tokens operand (named.local hash more steps sign glued is) rest = marked_value hash (more ++ rest) (sign_mark hash sign)

value_read : (tokens : List Token) (value : RawOperand) → IsActualValue tokens value
    → (rest : List Token) → Stops rest → actual_value_at (tokens ++ rest) ≡ Fits value (length tokens)
value_read tokens value (form.truth word is) rest stop =
    or_this (read_as Constant (truth_at (word ∷ rest))) _ (Constant (constant width.Bit 1)) 1
    (ap (read_as Constant) (ap (fitting 1) (if_true (is_word (codes "TRUE") word) _ _ is)))
value_read tokens value (form.falsity word is) rest stop =
    or_this (read_as Constant (truth_at (word ∷ rest))) _ (Constant (constant width.Bit 0)) 1
    (ap (read_as Constant)
    (ap (fitting 1)
    (if_false (is_word (codes "TRUE") word) _ _ (other_word (codes "FALSE") (codes "TRUE") word is refl) ∙ if_true (is_word (codes "FALSE") word) _ _ is)))
value_read tokens value (form.constant_given ts c is) rest stop =
    let one = constant_other ts c (codes "TRUE") is (record { letter = refl; other = refl }) rest in
    let two = constant_other ts c (codes "FALSE") is (record { letter = refl; other = refl }) rest in
    or_no (read_as Constant (truth_at (ts ++ rest))) _ (ap (read_as Constant) (no_truth (ts ++ rest) one two))
    ∙ or_this (any_constant_at (ts ++ rest)) _ (Constant c) (length ts)
    (or_this (read_as Constant (constant_at (ts ++ rest))) _ (Constant c) (length ts) (ap (read_as Constant) (constant_before ts c is rest stop)))
value_read tokens value (form.pointer_given ts p is) rest stop =
    let h = pointer_hashed ts p is in
    let all = h.word ∷ h.hash ∷ (h.rest ++ rest) in
    let same : ts ++ rest ≡ all = ap (λ (x : List Token). x ++ rest) (sym h.all) in
    or_no (read_as Constant (truth_at (ts ++ rest))) _
    (ap (read_as Constant)
    (ap truth_at same
    ∙ no_truth all (other_word (codes "P") (codes "TRUE") h.word h.word_is refl) (other_word (codes "P") (codes "FALSE") h.word h.word_is refl)))
    ∙ or_this (any_constant_at (ts ++ rest)) _ (Pointer p) (length ts)
    (or_no (read_as Constant (constant_at (ts ++ rest))) _
    (ap (read_as Constant)
    (ap constant_at same ∙ pointer_no_constant h.word h.hash (h.rest ++ rest) h.word_is h.hash_is (name_none h.rest rest h.no_name stop)))
    ∙ ap (read_as Pointer) (pointer_before ts p is rest))
value_read tokens value (form.place_given ts place is) rest stop =
    or_no (read_as Constant (truth_at (ts ++ rest))) _
    (ap (read_as Constant)
    (no_truth (ts ++ rest) (place_before_no_word ts place (codes "TRUE") is rest (record { other = refl; digits = refl }))
    (place_before_no_word ts place (codes "FALSE") is rest (record { other = refl; digits = refl }))))
    ∙ or_no (any_constant_at (ts ++ rest)) _
    (no_any_constant (ts ++ rest) (place_before_no_constant ts place is rest (stops_no_hash rest stop))
    (no_pointer (ts ++ rest) (place_before_no_word ts place (codes "P") is rest (record { other = refl; digits = refl }))))
    ∙ or_this (read_as At (place_operand (ts ++ rest))) (named_at (ts ++ rest)) (At place) (length ts)
    (ap (read_as At) (or_this (place_at (ts ++ rest)) (left_out_at left_out_forms (ts ++ rest)) place (length ts) (place_at_read ts place is rest)))
value_read tokens value (form.name_given ts o is) rest stop = named_value ts o is rest ∙ named_before ts o is rest stop

actual_read : (front : List Token) (a : RawActual) → IsActual front a → (rest : List Token) → Stops rest
    → actual_at (front ++ rest) ≡ Fits a (length front)
actual_read front a (form.assigned name assign more value kind sign is) rest stop =
    if_true (is_word_kind name.kind && is_sign (codes ":=") assign) _ No (and_from _ _ kind sign)
    ∙ further_read (name ∷ assign ∷ []) more (read_as (actual name) (actual_value_at (more ++ rest))) (actual name value)
    (ap (read_as (actual name)) (value_read more value is rest stop))

-- Lists of actuals

actual_some : (front : List Token) (a : RawActual) → IsActual front a → 1 ≤ length front
actual_some front a (form.assigned name assign more value kind sign is) = omega arith

-- what is left out is read so
abbrev IsOut : List Token → Kind → Type 0
IsOut tokens kind = actual_at tokens ≡ LeftOut kind

actual_out : (tokens : List Token) → OutOf (λ k. IsOut tokens k) (actual_at tokens)
actual_out tokens = by (actual_at tokens) refl
  where
    by : (r : Read RawActual) → actual_at tokens ≡ r → OutOf (λ k. IsOut tokens k) r
    by No e = tt
    by (LeftOut kind) e = e
    by (Fits a size) e = tt

actuals_agree : Agrees actual_at IsActual IsOut
actuals_agree = record { front = actual_front; out = actual_out; read = actual_read; left = λ tokens k e. e; some = actual_some; none = refl }

closes_bracket : Closes (codes ")")
closes_bracket = record { apart = refl; stop = λ sign is. stop_by (codes ")") sign is refl refl refl refl }

pub actuals_front : (tokens : List Token) → FrontOf tokens AreActuals (actuals_at tokens)
actuals_front [] = record { front = []; rest = []; is = refl; size_is = refl; holds = form.none_given }
actuals_front (before ∷ rest) = by (is_sign (codes "(") before) refl
  where
    by : (b : Bool) → is_sign (codes "(") before ≡ b → FrontOf (before ∷ rest) AreActuals (if b then further 1 (actuals_behind rest) else No)
    by false sign = tt
    by true sign =
        further_front (before ∷ []) rest AreActuals (actuals_behind rest)
        (refined rest (AreElements IsActual (codes ")")) (λ more all. AreActuals (before ∷ more) all)
        (λ more left all split are. form.some_given before more all sign are) (actuals_behind rest)
        (elements_front actual_at IsActual IsOut actuals_agree (codes ")") rest))

pub actuals_read : (tokens : List Token) (actuals : List RawActual) → AreActuals tokens actuals → actuals_at tokens ≡ Fits actuals (length tokens)
actuals_read tokens actuals form.none_given = refl
actuals_read tokens actuals (form.some_given before rest all sign are) =
    if_true (is_sign (codes "(") before) _ No sign
    ∙ further_read (before ∷ []) rest (actuals_behind rest) all
    (subst (λ (ts : List Token). actuals_behind ts ≡ Fits all (length rest)) (append-nil rest)
    (elements_read actual_at IsActual IsOut actuals_agree (codes ")") closes_bracket rest all are []))
