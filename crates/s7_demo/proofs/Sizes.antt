-- How long the source of the demo is at most.
use Rattle.std.proofs.Common.{◌≡◌, ℕ, zero, suc, ◌+◌, ◌-◌, ◌*◌, ◌/◌, ◌%◌, ◌==◌, ◌≤◌, ◌<◌, ◌++◌, Bool, true, false, if◌then◌else◌, List, length, codes, decimal, flat_map, min, subst, sym, arith, length-append}
use Rattle.std.specs.List.{range_with_len}
use Rattle.std.proofs.lemmas.Fmt.{length-decimal-le}
use Rattle.s7_demo.specs.Demo.{bit_text, word_text, label_text, test_word, test_line, jump_line, sum_lines, target_line, network_text, networks_of, function_text, call_line, functions_of, demo_source}

-- Pieces

three : (a b c : List ℕ) → length (a ++ b ++ c) ≡ length a + length b + length c
three a b c = omega (arith, length-append (a ++ b) c, length-append a b)

four : (a b c d : List ℕ) → length (a ++ b ++ c ++ d) ≡ length a + length b + length c + length d
four a b c d = omega (arith, length-append (a ++ b ++ c) d, three a b c)

five : (a b c d e : List ℕ) → length (a ++ b ++ c ++ d ++ e) ≡ length a + length b + length c + length d + length e
five a b c d e = omega (arith, length-append (a ++ b ++ c ++ d) e, four a b c d)

-- Networks

bit_size : (i : ℕ) → length (bit_text i) ≤ 8
bit_size i =
    let d : length (decimal (i % 4000)) ≤ 4 = length-decimal-le 4 (i % 4000) (omega arith) (omega arith) (omega arith) in
    omega (arith, three (codes "M ") (decimal (i % 4000)) (codes ".0"))

word_size : (i : ℕ) → length (word_text i) ≤ 7
word_size i =
    let n : ℕ = 4000 + 2 * (i % 2000) in
    let d : length (decimal n) ≤ 4 = length-decimal-le 4 n (omega arith) (omega arith) (omega arith) in
    omega (arith, length-append (codes "MW ") (decimal n))

test_word_size : (i : ℕ) → length (test_word i) ≤ 3
test_word_size i = chosen (i % 2 == 0)
  where
    chosen : (even : Bool) → length (if even then codes "A " else codes "AN ") ≤ 3
    chosen true = omega arith
    chosen false = omega arith

sum_size : (i : ℕ) → length (sum_lines i) ≤ 31
sum_size i = omega (arith, five (codes "L ") (word_text i) (codes ";\nL 1;\n+I;\nT ") (word_text i) (codes ";\n"), word_size i)

network_size : (i : ℕ) → length (network_text i) ≤ 65
network_size i =
    omega (
      arith,
      four (test_line i) (jump_line i) (sum_lines i) (target_line i),
      three (test_word i) (bit_text i) (codes ";\n"),
      test_word_size i,
      bit_size i,
      three (codes "JCN ") (label_text i) (codes ";\n"),
      sum_size i,
      length-append (label_text i) (codes ": NOP 0;\n"),
    )

networks_size : (first count : ℕ) → length (flat_map network_text (range_with_len first count)) ≤ 65 * count
networks_size first zero = omega arith
networks_size first (suc count) =
    omega (
      arith,
      length-append (network_text first) (flat_map network_text (range_with_len (first + 1) count)),
      network_size first,
      networks_size (first + 1) count,
    )

-- Functions

function_size : (n k : ℕ) → k < 1000 → length (function_text n k) ≤ 65 * min 100 (n - 100 * (k - 1)) + 42
function_size n k small =
    let d : length (decimal k) ≤ 3 = length-decimal-le 3 k (omega arith) (omega arith) (omega arith) in
    omega (
      arith,
      five (codes "FUNCTION FC ") (decimal k) (codes " : VOID\nBEGIN\n") (flat_map network_text (networks_of n k)) (codes "END_FUNCTION\n"),
      networks_size (100 * (k - 1)) (min 100 (n - 100 * (k - 1))),
    )

-- functions from one on have no more networks than are left
functions_size : (n k count : ℕ) → k + count < 1000
    → length (flat_map (function_text n) (range_with_len (k + 1) count)) ≤ 65 * (n - 100 * k) + 42 * count
functions_size n k zero small = omega arith
functions_size n k (suc count) small =
    omega (
      arith,
      length-append (function_text n (k + 1)) (flat_map (function_text n) (range_with_len (k + 1 + 1) count)),
      function_size n (k + 1) (omega arith),
      functions_size n (k + 1) count (omega arith),
    )

call_size : (k : ℕ) → k < 1000 → length (call_line k) ≤ 13
call_size k small =
    let d : length (decimal k) ≤ 3 = length-decimal-le 3 k (omega arith) (omega arith) (omega arith) in
    omega (arith, three (codes "CALL FC ") (decimal k) (codes ";\n"))

calls_size : (k count : ℕ) → k + count < 1000 → length (flat_map call_line (range_with_len k count)) ≤ 13 * count
calls_size k zero small = omega arith
calls_size k (suc count) small =
    omega (
      arith,
      length-append (call_line k) (flat_map call_line (range_with_len (k + 1) count)),
      call_size k (omega arith),
      calls_size (k + 1) count (omega arith),
    )

-- the source is no longer than the room that is taken for it
source_size : (n : ℕ) → n ≤ 50000 → length (demo_source n) ≤ 66 * n + 108
source_size n most =
    let count : ℕ = (n + 99) / 100 in
    omega (
      arith,
      four (flat_map (function_text n) (functions_of n)) (codes "ORGANIZATION_BLOCK OB 1\nBEGIN\n")
          (flat_map call_line (functions_of n)) (codes "END_ORGANIZATION_BLOCK\n"),
      functions_size n 0 count (omega arith),
      calls_size 1 count (omega arith),
    )

pub is_short : (n : ℕ) (text : List ℕ) → n ≤ 50000 → text ≡ demo_source n → length text ≤ 66 * n + 108
is_short n text most e = subst (λ (t : List ℕ). length t ≤ 66 * n + 108) (sym e) (source_size n most)
