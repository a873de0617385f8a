-- CALL words, and lists of words, by computation.
use Rattle.std.proofs.Common.{◌≡◌, refl, ℕ, List, [], ◌∷◌, Option, Some, None}
use Rattle.std.specs.Prelude.{codes}
use Rattle.memory_areas.specs.declared.place.Area.{Area}
use Rattle.memory_areas.specs.declared.place.Area.TheVariants as area
use Rattle.memory_areas.specs.declared.place.Place.{Place}
use Rattle.s7_base.specs.declared.word.Width.{Width}
use Rattle.s7_base.specs.declared.word.Width.TheVariants as width
use Rattle.memory_areas.specs.declared.call.BlockName.TheVariants.{Ob, Fc, Fb}
use Rattle.memory_areas.specs.declared.call.Call.{Call}
use Rattle.command_words.specs.CallWord.{call_meant}
use Rattle.command_words.specs.Command.{command_meant, run_with, steps_meant, image_meant}
use Rattle.command_words.specs.declared.command.Command.TheVariants.{Translate, Check, RunStl, RunSt}

-- a call of a function
calls : ℕ → List (Place × Width) → Option Call
calls number actuals = Some (record { block = Fc number; instance = 0; actuals = actuals })

-- an actual
at : Area → ℕ → ℕ → Width → Place × Width
at area byte bit width = (record { area = area; byte = byte; bit = bit }, width)

ob1 : call_meant (codes "ob1") ≡ Some (record { block = Ob 1; instance = 0; actuals = [] })
ob1 = refl

ob_with_zeros : call_meant (codes "OB00001") ≡ Some (record { block = Ob 1; instance = 0; actuals = [] })
ob_with_zeros = refl

fc_bare : call_meant (codes "FC10") ≡ calls 10 []
unfolding calls
fc_bare = refl

fc_small : call_meant (codes "fc10(mw4,M0.0)") ≡ calls 10 (at area.M 4 0 width.Word ∷ at area.M 0 0 width.Bit ∷ [])
unfolding calls at
fc_small = refl

fc_capital : call_meant (codes "FC10(MW4,M0.0)") ≡ calls 10 (at area.M 4 0 width.Word ∷ at area.M 0 0 width.Bit ∷ [])
unfolding calls at
fc_capital = refl

fb_with_instance : call_meant (codes "FB1/db5") ≡ Some (record { block = Fb 1; instance = 5; actuals = [] })
fb_with_instance = refl

fc_with_blocks : call_meant (codes "FC1(DB5.DBX0.7,DB5.DBB4,db5.dbw65535,DB5.DBD0)") ≡ calls 1
    (at (area.Db 5) 0 7 width.Bit ∷ at (area.Db 5) 4 0 width.Byte ∷ at (area.Db 5) 65535 0 width.Word ∷ at (area.Db 5) 0 0 width.Dword ∷ [])
unfolding calls at
fc_with_blocks = refl

areas : call_meant (codes "FC65535(I0.7,qb00004,ID65535)") ≡ calls 65535
    (at area.I 0 7 width.Bit ∷ at area.Q 4 0 width.Byte ∷ at area.I 65535 0 width.Dword ∷ [])
unfolding calls at
areas = refl

-- No calls

no_actual : call_meant (codes "FC10()") ≡ None
no_actual = refl

bit_8 : call_meant (codes "FC10(M0.8)") ≡ None
bit_8 = refl

bit_00 : call_meant (codes "FC10(M0.00)") ≡ None
bit_00 = refl

x_of_an_area : call_meant (codes "FC10(IX0.0)") ≡ None
x_of_an_area = refl

block_too_great : call_meant (codes "OB65536") ≡ None
block_too_great = refl

six_digits : call_meant (codes "OB000001") ≡ None
six_digits = refl

no_number : call_meant (codes "OB") ≡ None
no_number = refl

no_instance : call_meant (codes "FB1") ≡ None
no_instance = refl

instance_in_brackets : call_meant (codes "FB1(DB5)") ≡ None
instance_in_brackets = refl

byte_too_great : call_meant (codes "FC1(MB70000)") ≡ None
byte_too_great = refl

comma_at_the_end : call_meant (codes "FC1(M0.0,)") ≡ None
comma_at_the_end = refl

comma_at_the_front : call_meant (codes "FC1(,M0.0)") ≡ None
comma_at_the_front = refl

blank : call_meant (codes "FC1 (M0.0)") ≡ None
blank = refl

never_closed : call_meant (codes "FC10(M0.0") ≡ None
never_closed = refl

text_behind : call_meant (codes "fc10(m0.0)x") ≡ None
text_behind = refl

closed_twice : call_meant (codes "FC1(M0.0))") ≡ None
closed_twice = refl

ob_with_actuals : call_meant (codes "OB1(M0.0)") ≡ None
ob_with_actuals = refl

fc_with_instance : call_meant (codes "FC1/DB2") ≡ None
fc_with_instance = refl

local_data : call_meant (codes "FC1(LB0)") ≡ None
local_data = refl

no_block : call_meant (codes "DB5") ≡ None
no_block = refl

block_without_part : call_meant (codes "FC1(DB5)") ≡ None
block_without_part = refl

byte_of_no_width : call_meant (codes "FC1(M4)") ≡ None
byte_of_no_width = refl

nothing : call_meant (codes "") ≡ None
nothing = refl

-- Steps

zero_steps : steps_meant (codes "0") ≡ Some 0
zero_steps = refl

zeros_in_front : steps_meant (codes "007") ≡ Some 7
zeros_in_front = refl

most_steps : steps_meant (codes "18446744073709551615") ≡ Some 18446744073709551615
most_steps = refl

one_too_many : steps_meant (codes "18446744073709551616") ≡ None
one_too_many = refl

more_digits : steps_meant (codes "000000000000000000001") ≡ None
more_digits = refl

no_digits : steps_meant (codes "") ≡ None
no_digits = refl

plus_one : steps_meant (codes "+1") ≡ None
plus_one = refl

-- Lists of words

translate : command_meant (codes "translate" ∷ []) ≡ Some Translate
unfolding run_with
translate = refl

check : command_meant (codes "check" ∷ []) ≡ Some Check
unfolding run_with
check = refl

check_in_capitals : command_meant (codes "Check" ∷ []) ≡ None
unfolding run_with
check_in_capitals = refl

run : command_meant (codes "run-stl" ∷ codes "5" ∷ codes "OB1" ∷ codes "x" ∷ []) ≡ Some (RunStl 5 (record { block = Ob 1; instance = 0; actuals = [] }))
unfolding run_with
run = refl

run_in_capitals : command_meant (codes "RUN-STL" ∷ codes "5" ∷ codes "OB1" ∷ codes "x" ∷ []) ≡ None
unfolding run_with
run_in_capitals = refl

run_of_text : command_meant (codes "run-st" ∷ codes "5" ∷ codes "OB1" ∷ codes "x" ∷ []) ≡ Some (RunSt 5 (record { block = Ob 1; instance = 0; actuals = [] }))
unfolding run_with
run_of_text = refl

empty_image : command_meant (codes "run-stl" ∷ codes "5" ∷ codes "OB1" ∷ codes "" ∷ []) ≡ None
unfolding run_with
empty_image = refl

three_words : command_meant (codes "run-stl" ∷ codes "5" ∷ codes "OB1" ∷ []) ≡ None
unfolding run_with
three_words = refl

five_words : command_meant (codes "run-stl" ∷ codes "5" ∷ codes "OB1" ∷ codes "x" ∷ codes "y" ∷ []) ≡ None
unfolding run_with
five_words = refl

no_words : command_meant ([]) ≡ None
unfolding run_with
no_words = refl

two_words : command_meant (codes "translate" ∷ codes "x" ∷ []) ≡ None
unfolding run_with
two_words = refl

other_command : command_meant (codes "demo" ∷ codes "5" ∷ codes "OB1" ∷ codes "x" ∷ []) ≡ None
unfolding run_with
other_command = refl

-- The image

fourth_word : image_meant (codes "run-stl" ∷ codes "5" ∷ codes "OB1" ∷ codes "x" ∷ []) ≡ Some (codes "x")
fourth_word = refl

no_fourth_word : image_meant (codes "run-stl" ∷ codes "5" ∷ codes "OB1" ∷ []) ≡ None
no_fourth_word = refl

fifth_word : image_meant (codes "run-stl" ∷ codes "5" ∷ codes "OB1" ∷ codes "x" ∷ codes "y" ∷ []) ≡ None
fifth_word = refl
