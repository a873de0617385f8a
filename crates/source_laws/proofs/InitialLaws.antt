-- Initial values are read exactly where one of their forms stands.
use Rattle.std.proofs.Common.{◌≡◌, ℕ, zero, suc, ◌-◌, ◌≤◌, Bool, true, false, ◌&&◌, if◌then◌else◌, List, [], ◌∷◌, ◌++◌, length, Option, Some, None, refl, sym, ap, subst, ◌∙◌, arith, append_assoc, length-append}
use Rattle.std.proofs.lemmas.Bool.{and_from, and_left}
use Rattle.std.specs.Prelude.{codes}
use Rattle.s7_base.specs.declared.reason.Kind.{Kind}
use Rattle.s7_base.specs.declared.reason.Line.{Line}
use Rattle.s7_base.specs.declared.token.Token.{Token}
use Rattle.s7_base.specs.declared.word.Width.{Width}
use Rattle.s7_base.specs.declared.word.Width.TheVariants as width
use Rattle.stl_constants.proofs.ConstantLaws.{constant_there, pointer_no_constant}
use Rattle.stl_constants.proofs.Reading.{if_false, if_true, joined_sign, no_sign, or_no, or_this, other_sign, other_word}
use Rattle.source_laws.proofs.LeftOutValues.{constant_left, constant_out, left_no_bracket, left_no_word}
use Rattle.stl_places.proofs.ConstantFronts.{Stops, constant_before, constant_front, stop_by}
use Rattle.stl_places.proofs.ListLaws.{Agrees, Closes, elements_front, elements_left, elements_out, elements_read}
use Rattle.stl_places.proofs.Outs.{OutOf, and_then_left, and_then_out, as_out, fitting_out, further_out, or_left, or_out, weaker_out}
use Rattle.stl_statement_grammar.specs.Lists.{begins_with_sign}
use Rattle.stl_grammar.specs.InitialForms.{IsEnding, IsInitial, IsLast, IsListItem, IsValue, LeavesOutEnding, LeavesOutInitial, LeavesOutItem, LeavesOutValue}
use Rattle.stl_grammar.specs.InitialForms as form
use Rattle.stl_grammar.specs.Initials.{alone, closed_value, count_of, ending_at, group_behind, initial, initial_at, initial_behind, item_of_list, last_value, list_at, once, path_value_at, pointer_of, times, value_at, values_at}
use Rattle.stl_statement_grammar.specs.ListForms.{AreElements, LeavesOutElement}
use Rattle.stl_grammar.specs.Sections.{takes_values}
use Rattle.stl_grammar.specs.declared.declaration.Section.{Section}
use Rattle.stl_places.proofs.Fronts.{FrontOf, and_then_front, and_then_read, as_front, further_front, further_read, or_front, refined}
use Rattle.stl_places.proofs.PathLaws.{path_front, path_read_before}
use Rattle.stl_places.proofs.PointerLaws.{pointer_constant_front, pointer_hashed}
use Rattle.stl_statement_grammar.specs.ConstantForms.{IsConstant, IsPrefixed, IsSigned}
use Rattle.stl_statement_grammar.specs.ConstantForms as constant_form
use Rattle.stl_statement_grammar.specs.Constants.{constant, constant_at, prefixes, truth_at}
use Rattle.stl_statement_grammar.specs.PathForms.{IsPath}
use Rattle.stl_statement_grammar.specs.Paths.{component_at, path_at, step_at}
use Rattle.stl_statement_grammar.specs.PointerForms.{IsPointerConstant}
use Rattle.stl_statement_grammar.specs.Pointers.{is_in_reach, pointer_at, value_of}
use Rattle.stl_statement_grammar.specs.Readers.{fitting, further, read_as, all_items, with_item}
use Rattle.stl_statement_grammar.specs.Words.{is_joined, is_joined_word, is_sign, is_word, is_word_kind}
use Rattle.stl_statement_grammar.specs.declared.mnemonic.Read.{Read}
use Rattle.stl_statement_grammar.specs.declared.mnemonic.Read.TheVariants.{Fits, LeftOut, No}
use Rattle.stl_tree.specs.declared.raw.BlockKind.{BlockKind}
use Rattle.stl_tree.specs.declared.raw.Constant.{Constant}
use Rattle.stl_tree.specs.declared.raw.InitialItem.{InitialItem}
use Rattle.stl_tree.specs.declared.raw.PathStep.{PathStep}
use Rattle.stl_tree.specs.declared.raw.PathStep.TheVariants as step
use Rattle.stl_tree.specs.declared.raw.RawInitial.{RawInitial}
use Rattle.stl_tree.specs.declared.raw.RawPointer.{RawPointer}
use Rattle.stl_places.proofs.ValueFronts.{constant_other, name_none, no_truth, pointer_before}

-- Values

truth_front : (tokens : List Token) → FrontOf tokens IsValue (truth_at tokens)
truth_front [] = tt
truth_front (first ∷ rest) = by (is_word (codes "TRUE") first) refl (is_word (codes "FALSE") first) refl
  where
    by : (b : Bool) → is_word (codes "TRUE") first ≡ b → (c : Bool) → is_word (codes "FALSE") first ≡ c →
        FrontOf (first ∷ rest) IsValue (fitting 1 (if b then Some (constant width.Bit 1) else if c then Some (constant width.Bit 0) else None))
    by true is c other = record { front = first ∷ []; rest = rest; is = refl; size_is = refl; holds = form.truth first is }
    by false none true is = record { front = first ∷ []; rest = rest; is = refl; size_is = refl; holds = form.falsity first is }
    by false none false other = tt

pointer_front : (tokens : List Token) → FrontOf tokens IsValue (pointer_of (pointer_at tokens))
pointer_front tokens = by (pointer_at tokens) (pointer_constant_front tokens)
  where
    by : (r : Read RawPointer) → FrontOf tokens IsPointerConstant r → FrontOf tokens IsValue (pointer_of r)
    by No f = tt
    by (LeftOut k) f = tt
    by (Fits p size) f = at (is_in_reach p) refl
      where
        at : (b : Bool) → is_in_reach p ≡ b → FrontOf tokens IsValue (fitting size (if b then Some (constant width.Dword (value_of p)) else None))
        at true reach = record { front = f.front; rest = f.rest; is = f.is; size_is = f.size_is; holds = form.pointer f.front p f.holds reach }
        at false reach = tt

pub value_front : (tokens : List Token) → FrontOf tokens IsValue (value_at tokens)
value_front tokens =
    or_front tokens IsValue (truth_at tokens) _ (truth_front tokens)
    (or_front tokens IsValue (constant_at tokens) (pointer_of (pointer_at tokens))
    (refined tokens IsConstant IsValue (λ front rest c at is. form.number front c is) (constant_at tokens) (constant_front tokens)) (pointer_front tokens))

truth_out : (Q : Kind → Type 0) (tokens : List Token) → OutOf Q (truth_at tokens)
truth_out Q [] = tt
truth_out Q (first ∷ rest) = fitting_out Q 1 _

pointer_out : (Q : Kind → Type 0) (r : Read RawPointer) → OutOf Q (pointer_of r)
pointer_out Q No = tt
pointer_out Q (LeftOut k) = tt
pointer_out Q (Fits p size) = fitting_out Q size _

pub value_out : (tokens : List Token) → OutOf (λ k. LeavesOutValue tokens k) (value_at tokens)
value_out tokens =
    let Q : Kind → Type 0 = λ k. LeavesOutValue tokens k in
    or_out Q (truth_at tokens) _ (truth_out Q tokens)
    (or_out Q (constant_at tokens) (pointer_of (pointer_at tokens)) (constant_out tokens) (pointer_out Q (pointer_at tokens)))

pub value_read : (tokens : List Token) (c : Constant) → IsValue tokens c → (rest : List Token) → Stops rest → value_at (tokens ++ rest) ≡ Fits c (length tokens)
value_read tokens c (form.truth word is) rest stop =
    or_this (truth_at (word ∷ rest)) _ (constant width.Bit 1) 1 (ap (fitting 1) (if_true (is_word (codes "TRUE") word) _ _ is))
value_read tokens c (form.falsity word is) rest stop =
    or_this (truth_at (word ∷ rest)) _ (constant width.Bit 0) 1
    (ap (fitting 1)
    (if_false (is_word (codes "TRUE") word) _ _ (other_word (codes "FALSE") (codes "TRUE") word is refl) ∙ if_true (is_word (codes "FALSE") word) _ _ is))
value_read tokens c (form.number ts k is) rest stop =
    let one = constant_other ts k (codes "TRUE") is (record { letter = refl; other = refl }) rest in
    let two = constant_other ts k (codes "FALSE") is (record { letter = refl; other = refl }) rest in
    or_no (truth_at (ts ++ rest)) _ (no_truth (ts ++ rest) one two)
    ∙ or_this (constant_at (ts ++ rest)) _ k (length ts) (constant_before ts k is rest stop)
value_read tokens c (form.pointer ts p is reach) rest stop =
    let h = pointer_hashed ts p is in
    let all = h.word ∷ h.hash ∷ (h.rest ++ rest) in
    let same : ts ++ rest ≡ all = ap (λ (x : List Token). x ++ rest) (sym h.all) in
    or_no (truth_at (ts ++ rest)) _
    (ap truth_at same
    ∙ no_truth all (other_word (codes "P") (codes "TRUE") h.word h.word_is refl) (other_word (codes "P") (codes "FALSE") h.word h.word_is refl))
    ∙ or_no (constant_at (ts ++ rest)) _
    (ap constant_at same ∙ pointer_no_constant h.word h.hash (h.rest ++ rest) h.word_is h.hash_is (name_none h.rest rest h.no_name stop))
    ∙ ap pointer_of (pointer_before ts p is rest) ∙ ap (fitting (length ts)) (if_true (is_in_reach p) _ None reach)

pub value_left : (tokens : List Token) (k : Kind) → LeavesOutValue tokens k → value_at tokens ≡ LeftOut k
value_left tokens k out =
    or_no (truth_at tokens) _
    (no_truth tokens (left_no_word tokens k (codes "TRUE") out (record { letter = refl; other = refl }))
    (left_no_word tokens k (codes "FALSE") out (record { letter = refl; other = refl })))
    ∙ or_left (constant_at tokens) (pointer_of (pointer_at tokens)) k (constant_left tokens k out)

some_there : (tokens : List Token) → (tokens ≡ [] → ⊥) → 1 ≤ length tokens
some_there [] some = absurd (some refl)
some_there (first ∷ rest) some = omega arith

value_some : (tokens : List Token) (c : Constant) → IsValue tokens c → 1 ≤ length tokens
value_some tokens c (form.truth word is) = omega arith
value_some tokens c (form.falsity word is) = omega arith
value_some tokens c (form.number ts k is) = some_there ts (λ e. constant_there ts k is e)
value_some tokens c (form.pointer ts p is reach) =
    let h = pointer_hashed ts p is in
    some_there ts (λ e. let none : h.word ∷ h.hash ∷ h.rest ≡ [] = h.all ∙ e in absurd cc)

values_agree : Agrees value_at IsValue LeavesOutValue
values_agree = record { front = value_front; out = value_out; read = value_read; left = value_left; some = value_some; none = refl }

-- Items of lists

closes_bracket : Closes (codes ")")
closes_bracket = record { apart = refl; stop = λ sign is. stop_by (codes ")") sign is refl refl refl refl }

closes_semicolon : Closes (codes ";")
closes_semicolon = record { apart = refl; stop = λ sign is. stop_by (codes ";") sign is refl refl refl refl }

single_front : (tokens : List Token) → FrontOf tokens IsListItem (read_as once (value_at tokens))
single_front tokens = as_front tokens once IsValue IsListItem (λ front rest c at is. form.value front c is) (value_at tokens) (value_front tokens)

group_front : (first before : Token) (more : List Token) → is_sign (codes "(") before ≡ true
    → FrontOf (first ∷ before ∷ more) IsListItem (further 2 (group_behind (count_of first) more))
group_front first before more sign = by (count_of first) refl
  where
    by : (o : Option ℕ) → count_of first ≡ o → FrontOf (first ∷ before ∷ more) IsListItem (further 2 (group_behind o more))
    by None count = tt
    by (Some n) count =
        further_front (first ∷ before ∷ []) more IsListItem (read_as (times n) (values_at more))
        (as_front more (times n) (AreElements IsValue (codes ")")) (λ tail item. IsListItem (first ∷ before ∷ tail) item)
        (λ tail end values at are. form.group first before tail n values count sign are) (values_at more)
        (elements_front value_at IsValue LeavesOutValue values_agree (codes ")") more))

item_front : (tokens : List Token) → FrontOf tokens IsListItem (item_of_list tokens)
item_front [] = tt
item_front (first ∷ []) = single_front (first ∷ [])
item_front (first ∷ before ∷ more) = by (is_sign (codes "(") before) refl
  where
    by : (b : Bool) → is_sign (codes "(") before ≡ b
        → FrontOf (first ∷ before ∷ more) IsListItem
        (if b then further 2 (group_behind (count_of first) more) else read_as once (value_at (first ∷ before ∷ more)))
    by true sign = group_front first before more sign
    by false sign = single_front (first ∷ before ∷ more)

single_out : (tokens : List Token) → OutOf (λ k. LeavesOutItem tokens k) (read_as once (value_at tokens))
single_out tokens =
    as_out (λ k. LeavesOutItem tokens k) once (value_at tokens)
    (weaker_out (λ k. LeavesOutValue tokens k) (λ k. LeavesOutItem tokens k) (λ k out. form.alone tokens k out) (value_at tokens) (value_out tokens))

group_out : (first before : Token) (more : List Token) → is_sign (codes "(") before ≡ true
    → OutOf (λ k. LeavesOutItem (first ∷ before ∷ more) k) (further 2 (group_behind (count_of first) more))
group_out first before more sign = by (count_of first) refl
  where
    by : (o : Option ℕ) → count_of first ≡ o → OutOf (λ k. LeavesOutItem (first ∷ before ∷ more) k) (further 2 (group_behind o more))
    by None count = tt
    by (Some n) count =
        let Q : Kind → Type 0 = λ k. LeavesOutItem (first ∷ before ∷ more) k in
        further_out Q 2 (read_as (times n) (values_at more))
        (as_out Q (times n) (values_at more)
        (weaker_out (λ k. LeavesOutElement IsValue LeavesOutValue more k) Q (λ k out. form.in_group first before more n k count sign out) (values_at more)
        (elements_out value_at IsValue LeavesOutValue values_agree (codes ")") more)))

item_out : (tokens : List Token) → OutOf (λ k. LeavesOutItem tokens k) (item_of_list tokens)
item_out [] = tt
item_out (first ∷ []) = single_out (first ∷ [])
item_out (first ∷ before ∷ more) = by (is_sign (codes "(") before) refl
  where
    by : (b : Bool) → is_sign (codes "(") before ≡ b
        → OutOf (λ k. LeavesOutItem (first ∷ before ∷ more) k)
        (if b then further 2 (group_behind (count_of first) more) else read_as once (value_at (first ∷ before ∷ more)))
    by true sign = group_out first before more sign
    by false sign = single_out (first ∷ before ∷ more)

-- no bracket stands behind the first token of a value

stop_no_bracket : (rest : List Token) → Stops rest → begins_with_sign (codes "(") rest ≡ false
stop_no_bracket [] stop = absurd stop
stop_no_bracket (sign ∷ rest) stop = stop.bracket

constant_no_bracket : (first : Token) (more : List Token) (c : Constant) → IsConstant (first ∷ more) c
    → (rest : List Token) → Stops rest → begins_with_sign (codes "(") (more ++ rest) ≡ false
constant_no_bracket first more c is rest stop = by (first ∷ more) c is first more refl
  where
    prefix_no_bracket : (tokens : List Token) (c : Constant) → IsPrefixed prefixes tokens c
        → (first : Token) (more : List Token) → tokens ≡ first ∷ more → begins_with_sign (codes "(") (more ++ rest) ≡ false
    prefix_no_bracket tokens c (constant_form.behind t row word hash left k among is joined behind) first more e =
        let tail : hash ∷ left ≡ more = cc in
        ap (λ (ts : List Token). begins_with_sign (codes "(") (ts ++ rest)) (sym tail)
        ∙ other_sign (codes "#") (codes "(") hash (joined_sign (codes "#") hash joined) refl

    signed_no_bracket : (w : Width) (tokens : List Token) (v : ℕ) → IsSigned w tokens v
        → (first : Token) (more : List Token) → tokens ≡ first ∷ more → begins_with_sign (codes "(") (more ++ rest) ≡ false
    signed_no_bracket w tokens v (constant_form.positive u word n is) first more e =
        let tail : [] ≡ more = cc in ap (λ (ts : List Token). begins_with_sign (codes "(") (ts ++ rest)) (sym tail) ∙ stop_no_bracket rest stop
    signed_no_bracket w tokens v (constant_form.minus u sign word n minus glued is) first more e =
        let tail : word ∷ [] ≡ more = cc in ap (λ (ts : List Token). begins_with_sign (codes "(") (ts ++ rest)) (sym tail) ∙ no_sign (codes "(") word is.kind

    by : (tokens : List Token) (c : Constant) → IsConstant tokens c → (first : Token) (more : List Token)
        → tokens ≡ first ∷ more → begins_with_sign (codes "(") (more ++ rest) ≡ false
    by tokens c (constant_form.number ts v is) first more e = signed_no_bracket width.Word ts v is first more e
    by tokens c (constant_form.prefixed_word ts k is) first more e = prefix_no_bracket ts k is first more e
    by tokens c (constant_form.text token k is of) first more e =
        let tail : [] ≡ more = cc in ap (λ (ts : List Token). begins_with_sign (codes "(") (ts ++ rest)) (sym tail) ∙ stop_no_bracket rest stop

value_no_bracket : (first : Token) (more : List Token) (c : Constant) → IsValue (first ∷ more) c
    → (rest : List Token) → Stops rest → begins_with_sign (codes "(") (more ++ rest) ≡ false
value_no_bracket first more c is rest stop = by (first ∷ more) c is first more refl
  where
    by : (tokens : List Token) (c : Constant) → IsValue tokens c → (first : Token) (more : List Token)
        → tokens ≡ first ∷ more → begins_with_sign (codes "(") (more ++ rest) ≡ false
    by tokens c (form.truth word is) first more e =
        let tail : [] ≡ more = cc in ap (λ (ts : List Token). begins_with_sign (codes "(") (ts ++ rest)) (sym tail) ∙ stop_no_bracket rest stop
    by tokens c (form.falsity word is) first more e =
        let tail : [] ≡ more = cc in ap (λ (ts : List Token). begins_with_sign (codes "(") (ts ++ rest)) (sym tail) ∙ stop_no_bracket rest stop
    by tokens c (form.number ts k is) first more e = constant_no_bracket first more k (subst (λ (x : List Token). IsConstant x k) e is) rest stop
    by tokens c (form.pointer ts p is reach) first more e =
        let h = pointer_hashed ts p is in
        let same : h.word ∷ h.hash ∷ h.rest ≡ first ∷ more = h.all ∙ e in
        let tail : h.hash ∷ h.rest ≡ more = cc in
        ap (λ (ts : List Token). begins_with_sign (codes "(") (ts ++ rest)) (sym tail)
        ∙ other_sign (codes "#") (codes "(") h.hash (joined_sign (codes "#") h.hash h.hash_is) refl

single_read : (tokens : List Token) (c : Constant) → IsValue tokens c → (rest : List Token)
    → Stops rest → item_of_list (tokens ++ rest) ≡ Fits (once c) (length tokens)
single_read [] c is rest stop = let some : 1 ≤ length {A = Token} [] = value_some [] c is in absurd (omega (arith, some))
single_read (first ∷ more) c is rest stop =
    if_false (begins_with_sign (codes "(") (more ++ rest)) _ _ (value_no_bracket first more c is rest stop)
    ∙ ap (read_as once) (value_read (first ∷ more) c is rest stop)

item_read : (tokens : List Token) (item : InitialItem) → IsListItem tokens item
    → (rest : List Token) → Stops rest → item_of_list (tokens ++ rest) ≡ Fits item (length tokens)
item_read tokens item (form.value ts c is) rest stop = single_read ts c is rest stop
item_read tokens item (form.group number before more n values count sign are) rest stop =
    if_true (is_sign (codes "(") before) _ _ sign
    ∙ ap (λ (o : Option ℕ). further 2 (group_behind o (more ++ rest))) count
    ∙ further_read (number ∷ before ∷ []) more (read_as (times n) (values_at (more ++ rest))) (times n values)
    (ap (read_as (times n)) (elements_read value_at IsValue LeavesOutValue values_agree (codes ")") closes_bracket more values are rest))

single_left : (tokens : List Token) (k : Kind) → LeavesOutValue tokens k → item_of_list tokens ≡ LeftOut k
single_left [] k out = let lost : No ≡ LeftOut k = value_left [] k out in absurd cc
single_left (first ∷ rest) k out =
    if_false (begins_with_sign (codes "(") rest) _ _ (left_no_bracket first rest k out) ∙ ap (read_as once) (value_left (first ∷ rest) k out)

item_left : (tokens : List Token) (k : Kind) → LeavesOutItem tokens k → item_of_list tokens ≡ LeftOut k
item_left tokens k (form.alone ts its out) = single_left ts its out
item_left tokens k (form.in_group number before more n its count sign out) =
    if_true (is_sign (codes "(") before) _ _ sign
    ∙ ap (λ (o : Option ℕ). further 2 (group_behind o more)) count
    ∙ ap (λ (r : Read (List Constant)). further 2 (read_as (times n) r))
    (elements_left value_at IsValue LeavesOutValue values_agree (codes ")") closes_bracket more its out)

item_some : (tokens : List Token) (item : InitialItem) → IsListItem tokens item → 1 ≤ length tokens
item_some tokens item (form.value ts c is) = value_some ts c is
item_some tokens item (form.group number before more n values count sign are) = omega arith

items_agree : Agrees item_of_list IsListItem LeavesOutItem
items_agree = record { front = item_front; out = item_out; read = item_read; left = item_left; some = item_some; none = refl }

-- A value and its end

closed_front : (front : List Token) (c : Constant) → IsValue front c → (rest : List Token)
    → FrontOf rest (λ more its. IsLast (front ++ more) its) (closed_value c rest)
closed_front front c is [] = tt
closed_front front c is (sign ∷ rest) = by (is_sign (codes ";") sign) refl
  where
    by : (b : Bool) → is_sign (codes ";") sign ≡ b → FrontOf (sign ∷ rest) (λ more its. IsLast (front ++ more) its) (if b then Fits c 1 else No)
    by true ends = record { front = sign ∷ []; rest = rest; is = refl; size_is = refl; holds = form.last front sign c is ends }
    by false ends = tt

last_front : (tokens : List Token) → FrontOf tokens IsLast (last_value tokens)
last_front tokens = and_then_front tokens IsValue IsLast (value_at tokens) closed_value (value_front tokens) (λ front rest c is. closed_front front c is rest)

closed_out : (Q : Kind → Type 0) (c : Constant) (rest : List Token) → OutOf Q (closed_value c rest)
closed_out Q c rest = by (begins_with_sign (codes ";") rest)
  where
    by : (b : Bool) → OutOf Q (if b then Fits c 1 else No)
    by true = tt
    by false = tt

last_out : (tokens : List Token) → OutOf (λ k. LeavesOutValue tokens k) (last_value tokens)
last_out tokens =
    and_then_out tokens IsValue (λ k. LeavesOutValue tokens k) (value_at tokens) closed_value (value_front tokens) (value_out tokens)
    (λ front rest c at is. closed_out (λ k. LeavesOutValue tokens k) c rest)

last_read : (tokens : List Token) (c : Constant) → IsLast tokens c → (rest : List Token) → last_value (tokens ++ rest) ≡ Fits c (length tokens)
last_read tokens c (form.last front sign k is ends) rest =
    ap last_value (append_assoc front (sign ∷ []) rest)
    ∙ and_then_read front (sign ∷ rest) (value_at (front ++ (sign ∷ rest))) k closed_value
    (value_read front k is (sign ∷ rest) (stop_by (codes ";") sign ends refl refl refl refl))
    ∙ further_read front (sign ∷ []) (closed_value k (sign ∷ rest)) k (if_true (is_sign (codes ";") sign) _ _ ends)

last_left : (tokens : List Token) (k : Kind) → LeavesOutValue tokens k → last_value tokens ≡ LeftOut k
last_left tokens k out = and_then_left tokens (value_at tokens) closed_value k (value_left tokens k out)

-- Ends of declarations

list_front : (tokens : List Token) → FrontOf tokens (AreElements IsListItem (codes ";")) (list_at tokens)
list_front tokens = elements_front item_of_list IsListItem LeavesOutItem items_agree (codes ";") tokens

pub ending_front : (of : BlockKind) (section : Section) (in_array : Bool) (tokens : List Token)
    → FrontOf tokens (IsEnding of section in_array) (ending_at of section in_array tokens)
ending_front of section in_array [] = tt
ending_front of section in_array (sign ∷ rest) = by in_array (takes_values of section) refl (is_sign (codes ";") sign) refl (is_sign (codes ":=") sign) refl
  where
    by : (in_array : Bool) (v : Bool) → takes_values of section ≡ v → (b : Bool) → is_sign (codes ";") sign ≡ b → (c : Bool) → is_sign (codes ":=") sign ≡ c →
        FrontOf (sign ∷ rest) (IsEnding of section in_array) (if b then Fits [] 1 else if v && c then further 1 (initial_at in_array rest) else No)
    by in_array v takes true ends c assign = record { front = sign ∷ []; rest = rest; is = refl; size_is = refl; holds = form.nothing in_array sign ends }
    by in_array false takes false ends c assign = tt
    by in_array true takes false ends false assign = tt
    by true true takes false ends true assign =
        further_front (sign ∷ []) rest (IsEnding of section true) (list_at rest)
        (refined rest (AreElements IsListItem (codes ";")) (λ more items. IsEnding of section true (sign ∷ more) items)
        (λ more end items at are. form.with_list sign more items takes assign are) (list_at rest) (list_front rest))
    by false true takes false ends true assign =
        further_front (sign ∷ []) rest (IsEnding of section false) (read_as alone (last_value rest))
        (as_front rest alone IsLast (λ more items. IsEnding of section false (sign ∷ more) items)
        (λ more end c at is. form.with_value sign more c takes assign is)
        (last_value rest) (last_front rest))

pub ending_out : (of : BlockKind) (section : Section) (in_array : Bool) (tokens : List Token)
    → OutOf (λ k. LeavesOutEnding of section in_array tokens k) (ending_at of section in_array tokens)
ending_out of section in_array [] = tt
ending_out of section in_array (sign ∷ rest) = by in_array (takes_values of section) refl (is_sign (codes ";") sign) (is_sign (codes ":=") sign) refl
  where
    by : (in_array : Bool) (v : Bool) → takes_values of section ≡ v → (b : Bool) → (c : Bool) → is_sign (codes ":=") sign ≡ c
        → OutOf {A = List InitialItem} (λ k. LeavesOutEnding of section in_array (sign ∷ rest) k)
        (if b then Fits [] 1 else if v && c then further 1 (initial_at in_array rest) else No)
    by in_array v takes true c assign = tt
    by in_array false takes false c assign = tt
    by in_array true takes false false assign = tt
    by true true takes false true assign =
        let Q : Kind → Type 0 = λ k. LeavesOutEnding of section true (sign ∷ rest) k in
        further_out Q 1 (list_at rest)
        (weaker_out (λ k. LeavesOutElement IsListItem LeavesOutItem rest k) Q (λ k out. form.in_list sign rest k takes assign out) (list_at rest)
        (elements_out item_of_list IsListItem LeavesOutItem items_agree (codes ";") rest))
    by false true takes false true assign =
        let Q : Kind → Type 0 = λ k. LeavesOutEnding of section false (sign ∷ rest) k in
        further_out Q 1 (read_as alone (last_value rest))
        (as_out Q alone (last_value rest)
        (weaker_out (λ k. LeavesOutValue rest k) Q (λ k out. form.in_value sign rest k takes assign out) (last_value rest) (last_out rest)))

assigns : (of : BlockKind) (section : Section) (sign : Token) (in_array : Bool) (rest : List Token)
    → takes_values of section ≡ true → is_sign (codes ":=") sign ≡ true
    → ending_at of section in_array (sign ∷ rest) ≡ further 1 (initial_at in_array rest)
assigns of section sign in_array rest takes assign =
    if_false (is_sign (codes ";") sign) _ _ (other_sign (codes ":=") (codes ";") sign assign refl)
    ∙ if_true (takes_values of section && is_sign (codes ":=") sign) _ No (and_from (takes_values of section) _ takes assign)

pub ending_read : (of : BlockKind) (section : Section) (in_array : Bool) (tokens : List Token) (items : List InitialItem)
    → IsEnding of section in_array tokens items → (rest : List Token)
    → ending_at of section in_array (tokens ++ rest) ≡ Fits items (length tokens)
ending_read of section in_array tokens items (form.nothing a sign ends) rest = if_true (is_sign (codes ";") sign) _ _ ends
ending_read of section in_array tokens items (form.with_value sign more c takes assign is) rest =
    assigns of section sign false (more ++ rest) takes assign
    ∙ further_read (sign ∷ []) more (read_as alone (last_value (more ++ rest))) (once c ∷ []) (ap (read_as alone) (last_read more c is rest))
ending_read of section in_array tokens items (form.with_list sign more its takes assign are) rest =
    assigns of section sign true (more ++ rest) takes assign
    ∙ further_read (sign ∷ []) more (list_at (more ++ rest)) its
    (elements_read item_of_list IsListItem LeavesOutItem items_agree (codes ";") closes_semicolon more its are rest)

pub ending_left : (of : BlockKind) (section : Section) (in_array : Bool) (tokens : List Token) (k : Kind)
    → LeavesOutEnding of section in_array tokens k → ending_at of section in_array tokens ≡ LeftOut k
ending_left of section in_array tokens k (form.in_value sign rest its takes assign out) =
    assigns of section sign false rest takes assign ∙ ap (λ (r : Read Constant). further 1 (read_as alone r)) (last_left rest its out)
ending_left of section in_array tokens k (form.in_list sign rest its takes assign out) =
    assigns of section sign true rest takes assign
    ∙ ap (λ (r : Read (List InitialItem)). further 1 r)
    (elements_left item_of_list IsListItem LeavesOutItem items_agree (codes ";") closes_semicolon rest its out)

-- Initial values of a data block

behind_front : (line : Line) (path : List PathStep) (front rest : List Token) → IsPath front path
    → FrontOf rest (λ more its. IsInitial line (front ++ more) its) (initial_behind line path rest)
behind_front line path front [] is = tt
behind_front line path front (sign ∷ rest) is = by (is_sign (codes ":=") sign) refl
  where
    by : (b : Bool) → is_sign (codes ":=") sign ≡ b →
        FrontOf (sign ∷ rest) (λ more its. IsInitial line (front ++ more) its) (if b then further 1 (read_as (initial line path) (last_value rest)) else No)
    by false assign = tt
    by true assign =
        further_front (sign ∷ []) rest (λ more its. IsInitial line (front ++ more) its) (read_as (initial line path) (last_value rest))
        (as_front rest (initial line path) IsLast (λ more its. IsInitial line (front ++ (sign ∷ more)) its)
        (λ more end c at ends. form.at_path front sign more path c is assign ends)
        (last_value rest) (last_front rest))

pub initial_front : (line : Line) (tokens : List Token) → FrontOf tokens (IsInitial line) (path_value_at line tokens)
initial_front line tokens =
    and_then_front tokens IsPath (IsInitial line) (path_at tokens) (initial_behind line)
    (path_front tokens) (λ front rest path is. behind_front line path front rest is)

pub initial_some : (line : Line) (tokens : List Token) (its : RawInitial) → IsInitial line tokens its → 1 ≤ length tokens
initial_some line tokens its (form.at_path front sign more path c is assign ends) = omega (arith, length-append front (sign ∷ more))

behind_out : (line : Line) (path : List PathStep) (front rest : List Token) → IsPath front path
    → OutOf (λ k. LeavesOutInitial (front ++ rest) k) (initial_behind line path rest)
behind_out line path front [] is = tt
behind_out line path front (sign ∷ rest) is = by (is_sign (codes ":=") sign) refl
  where
    by : (b : Bool) → is_sign (codes ":=") sign ≡ b →
        OutOf (λ k. LeavesOutInitial (front ++ (sign ∷ rest)) k) (if b then further 1 (read_as (initial line path) (last_value rest)) else No)
    by false assign = tt
    by true assign =
        let Q : Kind → Type 0 = λ k. LeavesOutInitial (front ++ (sign ∷ rest)) k in
        further_out Q 1 (read_as (initial line path) (last_value rest))
        (as_out Q (initial line path) (last_value rest)
        (weaker_out (λ k. LeavesOutValue rest k) Q (λ k out. form.behind_path front sign rest path k is assign out) (last_value rest) (last_out rest)))

-- steps that stand one behind the other are never left out

with_out : {A : Type 0} (Q : Kind → Type 0) (r : Read A) (more : ℕ → Read (List A)) → ((n : ℕ) → OutOf Q (more n)) → OutOf Q (with_item r more)
with_out Q No more outs = tt
with_out Q (LeftOut k) more outs = tt
with_out Q (Fits a size) more outs = further_out Q 1 _ (as_out Q _ (more (size - 1)) (outs (size - 1)))

repeated_out : {A : Type 0} (Q : Kind → Type 0) (read : List Token → Read A) (left : ℕ) (tokens : List Token) → OutOf Q (all_items read left tokens)
repeated_out Q read left [] = tt
repeated_out Q read (suc left) (token ∷ rest) = further_out Q 1 (all_items read left rest) (repeated_out Q read left rest)
repeated_out Q read zero (token ∷ rest) = with_out Q (read (token ∷ rest)) (λ n. all_items read n rest) (λ n. repeated_out Q read n rest)

path_never : (Q : Kind → Type 0) (tokens : List Token) → OutOf Q (path_at tokens)
path_never Q [] = tt
path_never Q (word ∷ rest) = by (is_word_kind word.kind)
  where
    by : (b : Bool) → OutOf Q (if b then further 1 (read_as (λ steps. step.Name word.text ∷ steps) (all_items step_at 0 rest)) else No)
    by true =
        further_out Q 1 (read_as (λ steps. step.Name word.text ∷ steps) (all_items step_at 0 rest))
        (as_out Q (λ steps. step.Name word.text ∷ steps) (all_items step_at 0 rest) (repeated_out Q step_at 0 rest))
    by false = tt

pub initial_out : (line : Line) (tokens : List Token) → OutOf (λ k. LeavesOutInitial tokens k) (path_value_at line tokens)
initial_out line tokens =
    and_then_out tokens IsPath (λ k. LeavesOutInitial tokens k) (path_at tokens)
    (initial_behind line) (path_front tokens) (path_never (λ k. LeavesOutInitial tokens k) tokens)
    (λ front rest path at is. subst (λ (ts : List Token). OutOf (λ k. LeavesOutInitial ts k) (initial_behind line path rest)) at
    (behind_out line path front rest is))

-- no step begins with `:=`

abbrev IsNothing : Read PathStep → Type 0
IsNothing No = Unit {0}
IsNothing (LeftOut k) = Unit {0}
IsNothing (Fits a size) = ⊥

no_step : (sign : Token) (rest : List Token) → is_sign (codes ":=") sign ≡ true → step_at (sign ∷ rest) ≡ No
no_step sign [] assign = if_false (is_sign (codes "[") sign) _ _ (other_sign (codes ":=") (codes "[") sign assign refl)
no_step sign (next ∷ rest) assign =
    or_no (component_at (sign ∷ next ∷ rest)) _
    (if_false (is_joined (codes ".") sign && is_joined_word next) _ _ (and_left _ _ (and_left _ _ (other_sign (codes ":=") (codes ".") sign assign refl))))
    ∙ if_false (is_sign (codes "[") sign) _ _ (other_sign (codes ":=") (codes "[") sign assign refl)

path_before : (tokens : List Token) (path : List PathStep) → IsPath tokens path → (sign : Token) (rest : List Token) → is_sign (codes ":=") sign ≡ true →
    path_at (tokens ++ (sign ∷ rest)) ≡ Fits path (length tokens)
path_before tokens path is sign rest assign =
    path_read_before tokens path is (sign ∷ rest) (subst (λ (r : Read PathStep). IsNothing r) (sym (no_step sign rest assign)) tt)

pub initial_read : (line : Line) (tokens : List Token) (its : RawInitial) → IsInitial line tokens its
    → (rest : List Token) → path_value_at line (tokens ++ rest) ≡ Fits its (length tokens)
initial_read line tokens its (form.at_path front sign more path c is assign ends) rest =
    ap (path_value_at line) (append_assoc front (sign ∷ more) rest)
    ∙ and_then_read front (sign ∷ (more ++ rest)) (path_at (front ++ (sign ∷ (more ++ rest)))) path
    (initial_behind line) (path_before front path is sign (more ++ rest) assign)
    ∙ further_read front (sign ∷ more) (initial_behind line path (sign ∷ (more ++ rest))) (initial line path c)
    (if_true (is_sign (codes ":=") sign) _ No assign
    ∙ further_read (sign ∷ []) more (read_as (initial line path) (last_value (more ++ rest)))
    (initial line path c) (ap (read_as (initial line path)) (last_read more c ends rest)))

pub initial_left : (line : Line) (tokens : List Token) (k : Kind) → LeavesOutInitial tokens k → path_value_at line tokens ≡ LeftOut k
initial_left line tokens k (form.behind_path front sign rest path its is assign out) =
    and_then_read front (sign ∷ rest) (path_at (front ++ (sign ∷ rest))) path (initial_behind line) (path_before front path is sign rest assign)
    ∙ ap (λ (r : Read RawInitial). further (length front) r)
    (if_true (is_sign (codes ":=") sign) _ No assign ∙ ap (λ (r : Read Constant). further 1 (read_as (initial line path) r)) (last_left rest its out))
