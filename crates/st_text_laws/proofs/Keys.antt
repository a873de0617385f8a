-- The key of a name in a tree is the one by which the text's names are compared; and what keys register
-- variables, data blocks and other names have.
use Rattle.st_tree.proofs.Common.{◌≡◌, ℕ, ◌<◌, ◌≤◌, Bool, true, false, not, ◌&&◌, ◌||◌, cond, List, [], ◌∷◌, ◌++◌, map, take, drop, Option, Some, None, refl, sym, ap, ◌∙◌, arith, codes, decimal, to_ascii_lowercase, to_ascii_uppercase, list_all, list_any, str_to_ascii_lowercase, nat_tests, drop-map, take-map, are_digits, is_digit, is_same_word, Reg, is_free, is_same, key_of, may_name_local, may_name_unit, names_block, register_word}
use Rattle.std.specs.Prelude.{find}
use Rattle.std.specs.Str.{bytes_eq}
use Rattle.std.proofs.lemmas.Str.Ascii.{lowercase-uppercase}
use Rattle.s7_base.specs.Tokens.{is_among}
use Rattle.st_lexer.proofs.Words.{and_both, not_true}
use Rattle.st_text_laws.proofs.SameNames.{of_same, same_of}
use Rattle.st_rules.proofs.Common.{number_in, register_named}
use Rattle.st_tree.specs.Naming.{is_next, is_numbered, is_register, is_unit_number, register_names}
use Rattle.st_names.specs.declared.scope.TheConstants.{REGISTERS}
use Rattle.st_reading_laws.proofs.Apart.{same_keys}
use Rattle.st_reading_laws.proofs.Lists.{both_true}
use Rattle.st_reading_laws.proofs.PlainNumbers.{plain_number}

-- Names of data blocks

digits_back : (name : List ℕ) → list_all is_digit (map to_ascii_uppercase name) ≡ true → list_all is_digit name ≡ true
digits_back [] h = refl
digits_back (c ∷ name) h = grind (arith, nat_tests, digits_back name)

-- a name whose capitals are digits is digits
are_back : (name : List ℕ) → are_digits (map to_ascii_uppercase name) ≡ true → are_digits name ≡ true
are_back [] h = h
are_back (c ∷ name) h = digits_back (c ∷ name) h

lower_upper : (name : List ℕ) → str_to_ascii_lowercase (map to_ascii_uppercase name) ≡ str_to_ascii_lowercase name
lower_upper [] = refl
lower_upper (c ∷ name) = rw (lowercase-uppercase c, lower_upper name) refl

block_back : (name : List ℕ) → names_block (map to_ascii_uppercase name) ≡ true → names_block name ≡ true
block_back name h =
    let capitals = map to_ascii_uppercase name in
    let parts = and_both (is_same_word (take 2 capitals) (codes "DB")) (are_digits (drop 2 capitals)) h in
    let rest = map to_ascii_uppercase (drop 2 name) in
    let digits : are_digits rest ≡ true = ap are_digits (sym (drop-map to_ascii_uppercase 2 name)) ∙ parts.1 in
    let letters : is_same_word (take 2 name) (codes "DB") ≡ true =
    of_same (take 2 name) (codes "DB")
    (sym (lower_upper (take 2 name)) ∙ ap str_to_ascii_lowercase (sym (take-map to_ascii_uppercase 2 name))
    ∙ same_of (take 2 capitals) (codes "DB") parts.0) in
    both_true (is_same_word (take 2 name) (codes "DB")) (are_digits (drop 2 name)) letters (are_back (drop 2 name) digits)

not_block : (name : List ℕ) → names_block name ≡ false → names_block (map to_ascii_uppercase name) ≡ false
not_block name h = grind (arith, block_back name)

-- the key of another name is its capitals
key_is : (name : List ℕ) → names_block name ≡ false → key_of name ≡ map to_ascii_uppercase name
unfolding key_of
key_is name h = rw (not_block name h) refl

-- Registers

is_word : (name w : List ℕ) → is_same w (map to_ascii_uppercase name) ≡ true → is_same_word name w ≡ true
is_word name w h =
    of_same name w (sym (lower_upper name)
    ∙ ap str_to_ascii_lowercase (sym (same_keys w (map to_ascii_uppercase name) h)))

-- the first of some things is not found where its test fails
not_first : {X : Type 0} (t u v : Bool) (x : X) (o : Option X) → (t ≡ true → u ≡ true) → (v ≡ false → o ≡ None)
    → (u || v) ≡ false → cond t (Some x) o ≡ None
not_first {X} t u v x o f g h = grind arith

not_found : (name : List ℕ) (rs : List Reg) → is_among (map register_word rs) name ≡ false
    → find (λ r. is_same (register_word r) (map to_ascii_uppercase name)) rs ≡ None
not_found name [] h = refl
not_found name (r ∷ rs) h = not_first _ _ _ r _ (is_word name (register_word r)) (not_found name rs) h

no_register : (name : List ℕ) → names_block name ≡ false → is_register name ≡ false
    → register_named (key_of name) ≡ None
unfolding register_named
no_register name h g =
    ap (λ k. find (λ r. is_same (register_word r) k) REGISTERS) (key_is name h)
    ∙ not_found name REGISTERS g

-- What a name is that names no register and no data block

pub record IsOther (name : List ℕ) : Type 0 where
  pub block : names_block (key_of name) ≡ false
  pub register : register_named (key_of name) ≡ None

is_other : (name : List ℕ) → names_block name ≡ false → is_register name ≡ false → IsOther name
is_other name h g =
    record { block = ap names_block (key_is name h) ∙ not_block name h; register = no_register name h g }

pub free_name : (name : List ℕ) → is_free name ≡ true → IsOther name
free_name name h =
    let all = and_both (not (is_register name) && not (is_next name) && not (names_block name))
    (not (is_unit_number name)) h in
    let three = and_both (not (is_register name) && not (is_next name)) (not (names_block name)) all.0 in
    let two = and_both (not (is_register name)) (not (is_next name)) three.0 in
    is_other name (not_true (names_block name) three.1) (not_true (is_register name) two.0)

-- what a word that is the same in any case is among
same_among : (ws : List (List ℕ)) (name word : List ℕ) → is_same_word name word ≡ true
    → is_among ws name ≡ is_among ws word
same_among [] name word h = refl
same_among (w ∷ ws) name word h = cc (same_of name word h, same_among ws name word h)

next_letters : (name : List ℕ) → is_next name ≡ true → is_same_word (take 2 name) (codes "DB") ≡ false
next_letters name h =
    ap (λ l. bytes_eq l (codes "db")) (sym (take-map to_ascii_lowercase 2 name) ∙ ap (take 2) (same_of name (codes "NEXT") h))

no_letters : (name : List ℕ) → is_same_word (take 2 name) (codes "DB") ≡ false → names_block name ≡ false
no_letters name h = ap (λ t. t && are_digits (drop 2 name)) h

-- a name that begins with other letters than each of some words is none of them
begins_other : (ws : List (List ℕ)) (name letters : List ℕ) → is_same_word (take 2 name) letters ≡ true
    → list_any (λ w. is_same_word letters (take 2 w)) ws ≡ false → is_among ws name ≡ false
begins_other [] name letters h g = refl
begins_other (w ∷ ws) name letters h g =
    let begins : is_same_word name w ≡ true → is_same_word letters (take 2 w) ≡ true = λ e. of_same letters (take 2 w)
    (sym (same_of (take 2 name) letters h) ∙ sym (take-map to_ascii_lowercase 2 name) ∙ ap (take 2) (same_of name w e)
    ∙ take-map to_ascii_lowercase 2 w) in
    grind (arith, begins, begins_other ws name letters h)

numbered : (name letters : List ℕ) → is_numbered letters name ≡ true
    → bytes_eq (str_to_ascii_lowercase letters) (codes "db") ≡ false
    → list_any (λ w. is_same_word letters (take 2 w)) register_names ≡ false → IsOther name
numbered name letters h g r =
    let same = (and_both (is_same_word (take 2 name) letters) (are_digits (drop 2 name)) h).0 in
    is_other name (no_letters name (ap (λ l. bytes_eq l (codes "db")) (same_of (take 2 name) letters same) ∙ g))
    (begins_other register_names name letters same r)

next_name : (name : List ℕ) → is_next name ≡ true → IsOther name
next_name name h = is_other name (no_letters name (next_letters name h))
    (same_among register_names name (codes "NEXT") h)

-- what holds where either of two tests does
either : {P : Type 0} (a b : Bool) → (a ≡ true → P) → (b ≡ true → P) → (a || b) ≡ true → P
either true b f g h = f refl
either false b f g h = g h

pub local_name : (name : List ℕ) → may_name_local name ≡ true → IsOther name
local_name name h = either (is_next name) (is_free name) (next_name name) (free_name name) h

unit_number : (name : List ℕ) → is_unit_number name ≡ true → IsOther name
unit_number name h =
    either (is_numbered (codes "OB") name || is_numbered (codes "FC") name) (is_numbered (codes "FB") name)
    (either (is_numbered (codes "OB") name) (is_numbered (codes "FC") name) (λ e. numbered name (codes "OB") e refl refl)
    (λ e. numbered name (codes "FC") e refl refl)) (λ e. numbered name (codes "FB") e refl refl) h

pub unit_name : (name : List ℕ) → may_name_unit name ≡ true → IsOther name
unit_name name h = either (is_unit_number name) (is_free name) (unit_number name) (free_name name) h

-- the key of a data block is that of no other name, and of no data block of another number
pub block_key : (n : ℕ) → 1 ≤ n → n ≤ 65535 → names_block (key_of (codes "DB" ++ decimal n)) ≡ true
block_key n some small = grind (arith, plain_number n some small)

differ : (k l : List ℕ) → (k ≡ l → ⊥) → is_same k l ≡ false
differ k l h = grind (arith, same_keys k l)

pub other_key : (key : List ℕ) (name : List ℕ) → names_block key ≡ true → IsOther name
    → is_same key (key_of name) ≡ false
other_key key name h o = differ key (key_of name) (λ e. let is = ap names_block e in let no = o.block in absurd cc)

pub other_number : (n m : ℕ) → 1 ≤ n → n < m → m ≤ 65535
    → is_same (key_of (codes "DB" ++ decimal n)) (key_of (codes "DB" ++ decimal m)) ≡ false
other_number n m some less small =
    differ (key_of (codes "DB" ++ decimal n)) (key_of (codes "DB" ++ decimal m)) (λ e.
    let equal : n ≡ m =
    sym (plain_number n some (omega arith)) ∙ ap number_in e ∙ plain_number m (omega arith) small in
    omega arith)
