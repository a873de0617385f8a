-- Names, tables, places and types, computed.
use Rattle.st_tree.proofs.Common.{◌≡◌, ℕ, true, false, [], ◌∷◌, Some, None, Ok, Err, refl, codes, type_of_register, key_of, type_of_binary, type_of_choice, type_of_conversion, type_of_read, type_of_shift, type_of_unary, has_width}
use Rattle.memory_areas.specs.declared.place.AreaName.TheVariants as area
use Rattle.s7_base.specs.declared.reason.Reason.TheVariants.{BadAddress, TypeMismatch, UnknownName}
use Rattle.s7_base.specs.declared.register.Reg.TheVariants as reg
use Rattle.s7_base.specs.declared.word.Width.TheVariants as width
use Rattle.st_tree.specs.declared.expr.BinaryOp.TheVariants as binary
use Rattle.st_tree.specs.declared.expr.StType.TheVariants as type
use Rattle.st_tree.specs.declared.expr.UnaryOp.TheVariants as unary
use Rattle.st_tree.specs.declared.expr.Var.TheVariants as var
use Rattle.st_rules.proofs.Common.{look_up, with_entry, meaning_in, register_named, is_address, variable_named}
use Rattle.st_names.specs.Variables.{place_at}
use Rattle.st_names.specs.declared.scope.Meaning.TheVariants as meaning

-- Names in any case; data blocks by number; the names of units as texts

small : key_of (codes "Start_1") ≡ codes "START_1"
unfolding key_of
small = refl

block : key_of (codes "db05") ≡ codes "DB5"
unfolding key_of
block = refl

block_zero : key_of (codes "DB00") ≡ codes "DB0"
unfolding key_of
block_zero = refl

no_block : key_of (codes "DB0x") ≡ codes "DB0X"
unfolding key_of
no_block = refl

letters_alone : key_of (codes "DB") ≡ codes "DB"
unfolding key_of
letters_alone = refl

unit : key_of (codes "FC010") ≡ codes "FC010"
unfolding key_of
unit = refl

-- The first declaration counts

first : look_up {T = ℕ} (codes "A") (with_entry (codes "A") 2 (with_entry (codes "A") 1 [])) ≡ Some 1
first = refl

-- Registers, then what the unit declares, then what is declared outside

register : meaning_in (record { outer = (codes "RLO", meaning.Program) ∷ []; formals = []; inner = [] }) (codes "RLO") ≡ Some (meaning.Register reg.Rlo)
unfolding register_named
register = refl

hidden : meaning_in (record { outer = (codes "F", meaning.Function 0) ∷ []; formals = []; inner = (codes "F", meaning.Local 3 type.Int) ∷ [] }) (codes "F")
    ≡ Some (meaning.Local 3 type.Int)
unfolding register_named
hidden = refl

unknown : meaning_in (record { outer = (codes "F", meaning.Function 0) ∷ []; formals = []; inner = [] }) (codes "G") ≡ None
unfolding register_named
unknown = refl

-- Variables

double : type_of_register reg.Ar2 ≡ type.Dword
double = refl

word : type_of_register reg.DiNo ≡ type.Word
word = refl

status : type_of_register reg.Cc1 ≡ type.Bool
status = refl

unit_read : variable_named (Some meaning.Program) ≡ Err TypeMismatch
unit_read = refl

nobody : variable_named None ≡ Err UnknownName
nobody = refl

last_word : place_at area.L None width.Word 254 0 ≡ Ok (record { ty = type.Word; var = var.Direct area.L 254 0 width.Word })
last_word = refl

word_beyond : place_at area.L None width.Word 255 0 ≡ Err BadAddress
word_beyond = refl

last_input : is_address area.I None width.Bit 2047 7 ≡ true
last_input = refl

input_beyond : is_address area.I None width.Byte 2048 0 ≡ false
input_beyond = refl

bit_eight : is_address area.M None width.Bit 0 8 ≡ false
bit_eight = refl

last_marker : is_address area.M None width.Dword 8188 0 ≡ true
last_marker = refl

marker_beyond : is_address area.M None width.Dword 8189 0 ≡ false
marker_beyond = refl

far_in_block : is_address area.Db (Some 5) width.Dword 65535 0 ≡ true
far_in_block = refl

too_far_in_block : is_address area.Di None width.Byte 65536 0 ≡ false
too_far_in_block = refl

block_number_zero : is_address area.Db (Some 0) width.Byte 0 0 ≡ false
block_number_zero = refl

block_number_great : is_address area.Db (Some 65536) width.Byte 0 0 ≡ false
block_number_great = refl

-- Types

sum : type_of_binary binary.Add type.Int type.Int ≡ Some type.Int
sum = refl

mixed_sum : type_of_binary binary.Add type.Int type.Dint ≡ None
mixed_sum = refl

sum_of_words : type_of_binary binary.Add type.Word type.Word ≡ None
sum_of_words = refl

compared_words : type_of_binary binary.Lt type.Word type.Word ≡ Some type.Bool
compared_words = refl

word_and_int : type_of_binary binary.Eq type.Word type.Int ≡ None
word_and_int = refl

numbers_anded : type_of_binary binary.And type.Int type.Int ≡ None
numbers_anded = refl

words_anded : type_of_binary binary.Xor type.Dword type.Dword ≡ Some type.Dword
words_anded = refl

minus_word : type_of_unary unary.Minus type.Word ≡ None
minus_word = refl

not_int : type_of_unary unary.Not type.Int ≡ None
not_int = refl

from_bcd : type_of_unary unary.BcdToDint type.Dword ≡ Some type.Dint
from_bcd = refl

converted : type_of_conversion type.Int type.Word type.Int ≡ Some type.Word
converted = refl

not_converted : type_of_conversion type.Int type.Word type.Word ≡ None
not_converted = refl

chosen : type_of_choice type.Bool type.Lint type.Lint ≡ Some type.Lint
chosen = refl

bit_shifted : type_of_shift type.Bool type.Int ≡ Some type.Bool
bit_shifted = refl

number_shifted : type_of_shift type.Int type.Int ≡ None
number_shifted = refl

shifted_by_double : type_of_shift type.Word type.Dint ≡ None
shifted_by_double = refl

read_by_pointer : type_of_read width.Byte type.Dword ≡ Some type.Byte
read_by_pointer = refl

int_in_word : has_width type.Int width.Word ≡ true
int_in_word = refl

lint_nowhere : has_width type.Lint width.Dword ≡ false
lint_nowhere = refl
