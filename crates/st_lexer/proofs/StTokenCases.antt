-- Worked texts, each with its tokens or the line of its first bad token.
use Rattle.st_tree.proofs.Common.{◌≡◌, ℕ, refl, List, [], ◌∷◌, ◌++◌, Some, None, Result, Ok, Err, codes, pos, negsuc, Rejection}
use Rattle.memory_areas.specs.declared.place.AreaName.TheVariants as area
use Rattle.s7_base.specs.declared.reason.Reason.TheVariants.{BadToken}
use Rattle.s7_base.specs.declared.reason.Rejection.TheVariants.{Refused}
use Rattle.s7_base.specs.declared.word.Width.TheVariants as width
use Rattle.st_lexer.proofs.Common.{direct_of, tokens_of, StKind, StToken}
use Rattle.st_lexer.specs.Literals.{literal_value}
use Rattle.st_tree.specs.declared.expr.StType.TheVariants as type
use Rattle.st_tree.specs.declared.token.StKind.TheVariants.{Word, Direct, Literal, Sign}

abbrev token : StKind → List ℕ → ℕ → StToken
token kind text line = record { kind = kind; text = text; line = record { 0 = line } }

abbrev bad : ℕ → Result (List StToken) Rejection
bad line = Err (Refused (record { 0 = line }) BadToken)

a_statement : tokens_of (codes "a:=16#fF; (* x *) // y\n%q0.1")
    ≡ Ok
    (token Word (codes "a") 1 ∷ token Sign (codes ":=") 1 ∷ token Literal (codes "16#fF") 1 ∷ token Sign (codes ";") 1 ∷ token Direct (codes "%q0.1") 2 ∷ [])
unfolding tokens_of
a_statement = refl

blanks : tokens_of (codes "\t\r\n a\n\n b") ≡ Ok (token Word (codes "a") 2 ∷ token Word (codes "b") 4 ∷ [])
unfolding tokens_of
blanks = refl

nothing : tokens_of (codes "") ≡ Ok ([])
unfolding tokens_of
nothing = refl

truth_words : tokens_of (codes "TRUE false _x1") ≡ Ok (token Word (codes "TRUE") 1 ∷ token Word (codes "false") 1 ∷ token Word (codes "_x1") 1 ∷ [])
unfolding tokens_of
truth_words = refl

runs : tokens_of (codes "16#FFG 5abc 1__0 5_ %MW0x 1=1AND")
    ≡ Ok (token Literal (codes "16#FF") 1 ∷ token Word (codes "G") 1 ∷ token Literal (codes "5") 1 ∷ token Word (codes "abc") 1
    ∷ token Literal (codes "1") 1 ∷ token Word (codes "__0") 1 ∷ token Literal (codes "5") 1 ∷ token Word (codes "_") 1 ∷ token Direct (codes "%MW0") 1
    ∷ token Word (codes "x") 1 ∷ token Literal (codes "1") 1 ∷ token Sign (codes "=") 1 ∷ token Literal (codes "1") 1 ∷ token Word (codes "AND") 1 ∷ [])
unfolding tokens_of
runs = refl

runs_of_digits : tokens_of (codes "2#12 INT#5x 8#78") ≡ Ok (token Literal (codes "2#1") 1 ∷ token Literal (codes "2") 1
    ∷ token Literal (codes "INT#5") 1 ∷ token Word (codes "x") 1 ∷ token Literal (codes "8#7") 1 ∷ token Literal (codes "8") 1 ∷ [])
unfolding tokens_of
runs_of_digits = refl

signs : tokens_of (codes ": ; , ( ) [ ] + - * / = < > & := .. <= >= <>")
    ≡ Ok (token Sign (codes ":") 1 ∷ token Sign (codes ";") 1 ∷ token Sign (codes ",") 1 ∷ token Sign (codes "(") 1 ∷ token Sign (codes ")") 1
    ∷ token Sign (codes "[") 1 ∷ token Sign (codes "]") 1 ∷ token Sign (codes "+") 1 ∷ token Sign (codes "-") 1 ∷ token Sign (codes "*") 1
    ∷ token Sign (codes "/") 1 ∷ token Sign (codes "=") 1 ∷ token Sign (codes "<") 1 ∷ token Sign (codes ">") 1 ∷ token Sign (codes "&") 1
    ∷ token Sign (codes ":=") 1 ∷ token Sign (codes "..") 1 ∷ token Sign (codes "<=") 1 ∷ token Sign (codes ">=") 1 ∷ token Sign (codes "<>") 1 ∷ [])
unfolding tokens_of
signs = refl

point_behind_two : tokens_of (codes "=>**<<=:==..(.)") ≡ bad 1
unfolding tokens_of
point_behind_two = refl

longest_signs : tokens_of (codes "=>**<<=:==..") ≡ Ok (token Sign (codes "=") 1 ∷ token Sign (codes ">") 1 ∷ token Sign (codes "*") 1 ∷ token Sign (codes "*") 1
    ∷ token Sign (codes "<") 1 ∷ token Sign (codes "<=") 1 ∷ token Sign (codes ":=") 1 ∷ token Sign (codes "=") 1 ∷ token Sign (codes "..") 1 ∷ [])
unfolding tokens_of
longest_signs = refl

a_point : tokens_of (codes "a\n.b") ≡ bad 2
unfolding tokens_of
a_point = refl

a_hash : tokens_of (codes "a\n#b") ≡ bad 2
unfolding tokens_of
a_hash = refl

a_mark_without_digits : tokens_of (codes "a\n16#") ≡ bad 2
unfolding tokens_of
a_mark_without_digits = refl

another_mark : tokens_of (codes "1\n2#2") ≡ bad 2
unfolding tokens_of
another_mark = refl

nested_comment : tokens_of (codes "(* (* *) *)") ≡ Ok (token Sign (codes "*") 1 ∷ token Sign (codes ")") 1 ∷ [])
unfolding tokens_of
nested_comment = refl

open_comment : tokens_of (codes "a\n(*)\nb") ≡ bad 2
unfolding tokens_of
open_comment = refl

open_comment_in_a_comment : tokens_of (codes "(*)*) (* // *) // (* ") ≡ Ok ([])
unfolding tokens_of
open_comment_in_a_comment = refl

lines_in_a_comment : tokens_of (codes "(*\n\n*) a") ≡ Ok (token Word (codes "a") 3 ∷ [])
unfolding tokens_of
lines_in_a_comment = refl

unwritten_bytes : tokens_of (codes "a \"") ≡ bad 1
unfolding tokens_of
unwritten_bytes = refl

dints : tokens_of (codes "2147483647 002147483647 2_147_483_647")
    ≡ Ok (token Literal (codes "2147483647") 1 ∷ token Literal (codes "002147483647") 1 ∷ token Literal (codes "2_147_483_647") 1 ∷ [])
unfolding tokens_of
dints = refl

beyond_dint : tokens_of (codes "a\n2147483648\n;") ≡ bad 2
unfolding tokens_of
beyond_dint = refl

minus_beyond_dint : tokens_of (codes "-\n2147483648") ≡ bad 2
unfolding tokens_of
minus_beyond_dint = refl

least_dint : tokens_of (codes "DINT#-2147483648") ≡ Ok (token Literal (codes "DINT#-2147483648") 1 ∷ [])
unfolding tokens_of
least_dint = refl

beyond_least_dint : tokens_of (codes "DINT#-2147483649") ≡ bad 1
unfolding tokens_of
beyond_least_dint = refl

behind_dots : tokens_of (codes "[0..3000000000]")
    ≡ Ok
    (token Sign (codes "[") 1 ∷ token Literal (codes "0") 1 ∷ token Sign (codes "..") 1 ∷ token Literal (codes "3000000000") 1 ∷ token Sign (codes "]") 1 ∷ [])
unfolding tokens_of
behind_dots = refl

behind_dots_and_a_comment : tokens_of (codes ".. (* x *)\n 3000000000") ≡ Ok (token Sign (codes "..") 1 ∷ token Literal (codes "3000000000") 2 ∷ [])
unfolding tokens_of
behind_dots_and_a_comment = refl

before_a_bracket : tokens_of (codes "[5000000000 (**) (16#00)]") ≡ Ok (token Sign (codes "[") 1 ∷ token Literal (codes "5000000000") 1
    ∷ token Sign (codes "(") 1 ∷ token Literal (codes "16#00") 1 ∷ token Sign (codes ")") 1 ∷ token Sign (codes "]") 1 ∷ [])
unfolding tokens_of
before_a_bracket = refl

behind_other_tokens : tokens_of (codes ".. x\n3000000000") ≡ bad 2
unfolding tokens_of
behind_other_tokens = refl

great_before_another_bad_token : tokens_of (codes "3000000000\n$") ≡ bad 1
unfolding tokens_of
great_before_another_bad_token = refl

bracket_before_another_bad_token : tokens_of (codes "3000000000(\n$") ≡ bad 2
unfolding tokens_of
bracket_before_another_bad_token = refl

great_twice : tokens_of (codes "3000000000(\n3000000000") ≡ bad 2
unfolding tokens_of
great_twice = refl

dwords : tokens_of (codes "16#FFFF_FFFF 2#1_0 8#17 16#0_5")
    ≡ Ok (token Literal (codes "16#FFFF_FFFF") 1 ∷ token Literal (codes "2#1_0") 1 ∷ token Literal (codes "8#17") 1 ∷ token Literal (codes "16#0_5") 1 ∷ [])
unfolding tokens_of
dwords = refl

beyond_dword : tokens_of (codes "16#100000000") ≡ bad 1
unfolding tokens_of
beyond_dword = refl

mark_behind_dots : tokens_of (codes "..16#100000000") ≡ bad 1
unfolding tokens_of
mark_behind_dots = refl

typed : tokens_of (codes "int#-5 LINT#5 word#16#0005 INT#16#7F BYTE#15 BOOL#1 bool#true BOOL#01")
    ≡ Ok (token Literal (codes "int#-5") 1 ∷ token Literal (codes "LINT#5") 1 ∷ token Literal (codes "word#16#0005") 1 ∷ token Literal (codes "INT#16#7F") 1
    ∷ token Literal (codes "BYTE#15") 1 ∷ token Literal (codes "BOOL#1") 1 ∷ token Literal (codes "bool#true") 1 ∷ token Literal (codes "BOOL#01") 1 ∷ [])
unfolding tokens_of
typed = refl

types : tokens_of (codes "INT BOOL INT1") ≡ Ok (token Word (codes "INT") 1 ∷ token Word (codes "BOOL") 1 ∷ token Word (codes "INT1") 1 ∷ [])
unfolding tokens_of
types = refl

bad_sign_plus : tokens_of (codes "a\nINT#+5") ≡ bad 2
unfolding tokens_of
bad_sign_plus = refl

bad_minus_before_a_mark : tokens_of (codes "a\nINT#-16#5") ≡ bad 2
unfolding tokens_of
bad_minus_before_a_mark = refl

bad_word_minus : tokens_of (codes "a\nWORD#-1") ≡ bad 2
unfolding tokens_of
bad_word_minus = refl

bad_bool_mark : tokens_of (codes "a\nBOOL#16#1") ≡ bad 2
unfolding tokens_of
bad_bool_mark = refl

bad_bool_two : tokens_of (codes "a\nBOOL#2") ≡ bad 2
unfolding tokens_of
bad_bool_two = refl

bad_bool_ten : tokens_of (codes "a\nBOOL#10") ≡ bad 2
unfolding tokens_of
bad_bool_ten = refl

bad_bool_word : tokens_of (codes "a\nBOOL#TRUEx") ≡ bad 2
unfolding tokens_of
bad_bool_word = refl

bad_int_word : tokens_of (codes "a\nINT#x") ≡ bad 2
unfolding tokens_of
bad_int_word = refl

bad_int_pattern : tokens_of (codes "a\nINT#16#FFFF") ≡ bad 2
unfolding tokens_of
bad_int_pattern = refl

bad_byte_256 : tokens_of (codes "a\nBYTE#256") ≡ bad 2
unfolding tokens_of
bad_byte_256 = refl

bad_word_65536 : tokens_of (codes "a\nWORD#65536") ≡ bad 2
unfolding tokens_of
bad_word_65536 = refl

bad_dword_great : tokens_of (codes "a\nDWORD#16#1_0000_0000") ≡ bad 2
unfolding tokens_of
bad_dword_great = refl

bad_int_great : tokens_of (codes "a\nINT#32768") ≡ bad 2
unfolding tokens_of
bad_int_great = refl

bad_int_least : tokens_of (codes "a\nINT#-32769") ≡ bad 2
unfolding tokens_of
bad_int_least = refl

bad_lint_great : tokens_of (codes "a\nLINT#9223372036854775808") ≡ bad 2
unfolding tokens_of
bad_lint_great = refl

bad_lint_least : tokens_of (codes "a\nLINT#-9223372036854775809") ≡ bad 2
unfolding tokens_of
bad_lint_least = refl

bad_lint_huge : tokens_of (codes "a\nLINT#99999999999999999999999999") ≡ bad 2
unfolding tokens_of
bad_lint_huge = refl

bad_no_type : tokens_of (codes "a\nx#5") ≡ bad 2
unfolding tokens_of
bad_no_type = refl

bad_type_alone : tokens_of (codes "a\nINT#") ≡ bad 2
unfolding tokens_of
bad_type_alone = refl

bad_type_and_blank : tokens_of (codes "a\nINT #5") ≡ bad 2
unfolding tokens_of
bad_type_and_blank = refl

bounds : tokens_of (codes "INT#32767 INT#-32768 LINT#9223372036854775807 LINT#-9223372036854775808 DINT#2147483647 BYTE#255 WORD#65535 DWORD#4294967295 BOOL#0")
    ≡ Ok (token Literal (codes "INT#32767") 1 ∷ token Literal (codes "INT#-32768") 1 ∷ token Literal (codes "LINT#9223372036854775807") 1
    ∷ token Literal (codes "LINT#-9223372036854775808") 1 ∷ token Literal (codes "DINT#2147483647") 1 ∷ token Literal (codes "BYTE#255") 1
    ∷ token Literal (codes "WORD#65535") 1 ∷ token Literal (codes "DWORD#4294967295") 1 ∷ token Literal (codes "BOOL#0") 1 ∷ [])
unfolding tokens_of
bounds = refl

directs : tokens_of (codes
    "%IX0.0 %q1.7 %MB3 %lw4 %MD5 %DBX0.0 %DBB1 %dbw2 %DBD3 %DIX0.1 %DIB1 %DIW2 %did3 %DB5.DBX0.0 %db5.dbb1 %DB5.DBW2 %DB5.DBD3 %MW1_0 %MW010 %I99999999999.9")
    ≡ Ok (token Direct (codes "%IX0.0") 1 ∷ token Direct (codes "%q1.7") 1 ∷ token Direct (codes "%MB3") 1 ∷ token Direct (codes "%lw4") 1
    ∷ token Direct (codes "%MD5") 1 ∷ token Direct (codes "%DBX0.0") 1 ∷ token Direct (codes "%DBB1") 1 ∷ token Direct (codes "%dbw2") 1
    ∷ token Direct (codes "%DBD3") 1 ∷ token Direct (codes "%DIX0.1") 1 ∷ token Direct (codes "%DIB1") 1 ∷ token Direct (codes "%DIW2") 1
    ∷ token Direct (codes "%did3") 1 ∷ token Direct (codes "%DB5.DBX0.0") 1 ∷ token Direct (codes "%db5.dbb1") 1 ∷ token Direct (codes "%DB5.DBW2") 1
    ∷ token Direct (codes "%DB5.DBD3") 1 ∷ token Direct (codes "%MW1_0") 1 ∷ token Direct (codes "%MW010") 1 ∷ token Direct (codes "%I99999999999.9") 1 ∷ [])
unfolding tokens_of
directs = refl

no_direct_percent : tokens_of (codes "a\n%") ≡ bad 2
unfolding tokens_of
no_direct_percent = refl

no_direct_area : tokens_of (codes "a\n%Z0.0") ≡ bad 2
unfolding tokens_of
no_direct_area = refl

no_direct_no_point : tokens_of (codes "a\n%I0") ≡ bad 2
unfolding tokens_of
no_direct_no_point = refl

no_direct_no_bit : tokens_of (codes "a\n%I0.") ≡ bad 2
unfolding tokens_of
no_direct_no_bit = refl

no_direct_no_number : tokens_of (codes "a\n%MB") ≡ bad 2
unfolding tokens_of
no_direct_no_number = refl

no_direct_db_bit : tokens_of (codes "a\n%DB0.0") ≡ bad 2
unfolding tokens_of
no_direct_db_bit = refl

no_direct_di_bit : tokens_of (codes "a\n%DI0.0") ≡ bad 2
unfolding tokens_of
no_direct_di_bit = refl

no_direct_db_alone : tokens_of (codes "a\n%DB5") ≡ bad 2
unfolding tokens_of
no_direct_db_alone = refl

no_direct_db_other : tokens_of (codes "a\n%DB5.DIB0") ≡ bad 2
unfolding tokens_of
no_direct_db_other = refl

no_direct_db_letter : tokens_of (codes "a\n%DB5.B0") ≡ bad 2
unfolding tokens_of
no_direct_db_letter = refl

no_direct_other_width : tokens_of (codes "a\n%MQ0") ≡ bad 2
unfolding tokens_of
no_direct_other_width = refl

no_direct_underscore : tokens_of (codes "a\n%MB_1") ≡ bad 2
unfolding tokens_of
no_direct_underscore = refl

a_form_feed : tokens_of (97 ∷ 10 ∷ 12 ∷ []) ≡ bad 2
unfolding tokens_of
a_form_feed = refl

bytes_above_127 : tokens_of (codes "(*" ++ 255 ∷ 12 ∷ codes "*) //" ++ 195 ∷ 10 ∷ 195 ∷ []) ≡ bad 2
unfolding tokens_of
bytes_above_127 = refl

-- Values

least_lint : literal_value (codes "LINT#-9223372036854775808") ≡ Some (type.Lint, negsuc 9223372036854775807)
least_lint = refl

truth : literal_value (codes "bool#True") ≡ Some (type.Bool, pos 1)
truth = refl

falsehood : literal_value (codes "BOOL#FALSE") ≡ Some (type.Bool, pos 0)
falsehood = refl

a_pattern : literal_value (codes "WORD#16#0_a5") ≡ Some (type.Word, pos 165)
a_pattern = refl

a_dword : literal_value (codes "8#17") ≡ Some (type.Dword, pos 15)
a_dword = refl

a_dint : literal_value (codes "1_000") ≡ Some (type.Dint, pos 1000)
a_dint = refl

no_literal : literal_value (codes "INT#x") ≡ None
no_literal = refl

a_bit : direct_of (codes "%q1.99999999999") ≡ Some (record { area = area.Q; block = None; width = width.Bit; byte = 1; bit = 4294967295; size = 15 })
a_bit = refl

a_byte : direct_of (codes "%MB0") ≡ Some (record { area = area.M; block = None; width = width.Byte; byte = 0; bit = 0; size = 4 })
a_byte = refl

of_a_block : direct_of (codes "%db5.dbx1_0.7") ≡ Some (record { area = area.Db; block = Some 5; width = width.Bit; byte = 10; bit = 7; size = 13 })
of_a_block = refl

of_the_open_block : direct_of (codes "%DIW2") ≡ Some (record { area = area.Di; block = None; width = width.Word; byte = 2; bit = 0; size = 5 })
of_the_open_block = refl
