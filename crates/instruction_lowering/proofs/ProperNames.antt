-- The names of the units of a program's blocks: a text may have them, and no two are the same.
use Rattle.std.proofs.Common.{◌≡◌, ℕ, ◌+◌, ◌%◌, ◌^◌, ◌<◌, ◌≤◌, ◌==◌, Bool, true, false, ◌||◌, cond, List, [], ◌∷◌, ◌++◌, map, length, Option, Some, None, refl, ap, ◌∙◌, arith}
use Rattle.std.specs.Prelude.{All, IsSome, decimal}
use Rattle.std.proofs.lemmas.List.Elements.{All-head, All-tail}
use Rattle.std.specs.Char.{to_ascii_uppercase}
use Rattle.std.specs.List.{list_all}
use Rattle.std.proofs.lemmas.Bool.Decides.{nat_tests}
use Rattle.std.proofs.lemmas.Fmt.{decimal_by_steps}
use Rattle.std.proofs.lemmas.List.{length-append}
use Rattle.std.proofs.lemmas.List.Folds.{list_all-append}
use Rattle.digit_texts.proofs.SomeDigits.{some_digits}
use Rattle.s7_base.specs.Tokens.{is_between, is_word_byte}
use Rattle.st_tree.specs.Naming.{are_apart, is_name, is_new, is_same, key_of, may_name_unit}
use Rattle.st_tree.specs.StRun.{called_name}
use Rattle.instruction_lowering.proofs.Names.{IsNumbered, block_of, numbered, position_of, same_number}
use Rattle.stl_tree.specs.Accepted.{AreDistinct, IsAcceptedBlock}
use Rattle.stl_tree.specs.StlRun.{block_named, is_same_name}
use Rattle.stl_tree.specs.declared.program.Block.{Block}
use Rattle.memory_areas.specs.declared.call.BlockName.{BlockName}
use Rattle.memory_areas.specs.declared.call.BlockName.TheVariants as name

-- Names

-- a decimal is a digit and more
pub record Digits (ds : List ℕ) : Type 0 where
  pub digits : list_all (λ b. is_between 48 57 b) ds ≡ true
  pub bytes : list_all is_word_byte ds ≡ true
  pub some : 0 < length ds

is_digit : (n : ℕ) → n < 10 → is_between 48 57 (48 + n) ≡ true
is_digit n h = grind (arith, nat_tests)

is_byte : (n : ℕ) → n < 10 → is_word_byte (48 + n) ≡ true
is_byte n h = ap (λ (d : Bool). d || is_between 65 90 (48 + n) || is_between 97 122 (48 + n) || 48 + n == 95) (is_digit n h)

one_digit : (n : ℕ) → n < 10 → Digits ((48 + n) ∷ [])
one_digit n h = record { digits = rw (is_digit n h) refl; bytes = rw (is_byte n h) refl; some = omega arith }

more_digits : (n : ℕ) (ds : List ℕ) → 10 ≤ n → Digits ds → Digits (ds ++ ((48 + n % 10) ∷ []))
more_digits n ds h d =
    let last : n % 10 < 10 = omega arith in
    record {
      digits = list_all-append (λ b. is_between 48 57 b) ds ((48 + n % 10) ∷ []) ∙ rw (d.digits, is_digit (n % 10) last) refl;
      bytes = list_all-append is_word_byte ds ((48 + n % 10) ∷ []) ∙ rw (d.bytes, is_byte (n % 10) last) refl;
      some = omega (arith, length-append ds ((48 + n % 10) ∷ []));
    }

pub decimal_digits : (n : ℕ) → n < 2 ^ 64 → Digits (decimal n)
decimal_digits n h = decimal_by_steps (λ n ds. Digits ds) one_digit more_digits n h

pub has_name : (b : BlockName) → IsNumbered b → is_name (called_name b) ≡ true
has_name (name.Ob n) h = rw (decimal_digits n (omega arith)).bytes refl
has_name (name.Fc n) h = rw (decimal_digits n (omega arith)).bytes refl
has_name (name.Fb n) h = rw (decimal_digits n (omega arith)).bytes refl

pub names_unit : (b : BlockName) → IsNumbered b → may_name_unit (called_name b) ≡ true
names_unit (name.Ob n) h = let d = decimal_digits n (omega arith) in rw (some_digits (decimal n) d.some d.digits) refl
names_unit (name.Fc n) h = let d = decimal_digits n (omega arith) in rw (some_digits (decimal n) d.some d.digits) refl
names_unit (name.Fb n) h = let d = decimal_digits n (omega arith) in rw (some_digits (decimal n) d.some d.digits) refl

-- Names of blocks that are not the same

pub upper_digit : (n : ℕ) → n < 10 → to_ascii_uppercase (48 + n) ≡ 48 + n
upper_digit n h = grind (arith, nat_tests)

turned : (m n : ℕ) → (m == n) ≡ (n == m)
turned m n = grind (arith, nat_tests)

-- two units have one name exactly where their blocks have
pub same_keys : (b c : BlockName) → IsNumbered b → IsNumbered c → is_same (key_of (called_name b)) (key_of (called_name c)) ≡ is_same_name c b
unfolding key_of
same_keys (name.Ob m) (name.Ob n) h k = same_number to_ascii_uppercase upper_digit m n (omega arith) (omega arith) ∙ turned m n
same_keys (name.Fc m) (name.Fc n) h k = same_number to_ascii_uppercase upper_digit m n (omega arith) (omega arith) ∙ turned m n
same_keys (name.Fb m) (name.Fb n) h k = same_number to_ascii_uppercase upper_digit m n (omega arith) (omega arith) ∙ turned m n
same_keys (name.Ob m) (name.Fc n) h k = refl
same_keys (name.Ob m) (name.Fb n) h k = refl
same_keys (name.Fc m) (name.Ob n) h k = refl
same_keys (name.Fc m) (name.Fb n) h k = refl
same_keys (name.Fb m) (name.Ob n) h k = refl
same_keys (name.Fb m) (name.Fc n) h k = refl

pub nothing_named : (called : BlockName) (blocks : List Block) → block_named called blocks ≡ None → block_of called blocks ≡ None
nothing_named called blocks e = by (block_of called blocks) refl
  where
    no_position : (o : Option ℕ) → o ≡ None → IsSome o → ⊥
    no_position None e h = cc
    no_position (Some n) e h = cc

    by : (o : Option Block) → block_of called blocks ≡ o → o ≡ None
    by None is = refl
    by (Some b) is =
        absurd (no_position (block_named called blocks) e (position_of called blocks (rw is refl)))

pub first_not : (test : Bool) (b : Block) (o : Option Block) → cond test (Some b) o ≡ None → (test ≡ false) × (o ≡ None)
first_not true b o e = absurd cc
first_not false b o e = (refl, e)
