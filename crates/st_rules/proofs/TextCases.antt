-- Broken rules, declarations, data blocks, calls and chains, computed.
use Rattle.st_tree.proofs.Common.{◌≡◌, ℕ, true, false, List, [], ◌∷◌, ◌++◌, Some, None, refl, codes, replicate, Line, rule_break, first_of_all, key_of}
use Rattle.memory_areas.specs.declared.place.AreaName.TheVariants as area
use Rattle.s7_base.specs.declared.reason.Reason.TheVariants.{BadAddress, DuplicateName, TooLarge, TypeMismatch, UnknownName}
use Rattle.s7_base.specs.declared.word.Width.TheVariants as width
use Rattle.st_tree.specs.declared.expr.StType.TheVariants as type
use Rattle.st_tree.specs.declared.expr.Var.TheVariants as var
use Rattle.st_tree.specs.declared.program.Stmt.TheVariants as stmt
use Rattle.st_rules.proofs.Common.{RawVar, breaks_rule, sound, one_too_many, block_breaks, block_number, contents, fits_type, insert_data_block, formal_breaks}
use Rattle.st_tree.specs.declared.raw.RawVar.TheVariants as raw
use Rattle.call_chains.specs.Chain.{Graph, chains, follow}
use Rattle.st_rules.specs.Invocations.{call_with, no_call}
use Rattle.st_names.specs.declared.scope.NameScope.{NameScope}

abbrev line : ℕ → Line
line n = record { 0 = n }

-- The least line, and on it the least number

first_line : first_of_all (rule_break (line 3) UnknownName ++ rule_break (line 2) TypeMismatch) ≡ Some (record { line = line 2; rule = TypeMismatch })
first_line = refl

first_number : first_of_all (rule_break (line 3) TypeMismatch ++ rule_break (line 3) DuplicateName ++ rule_break (line 3) TooLarge)
    ≡ Some (record { line = line 3; rule = DuplicateName })
first_number = refl

-- A formal: unknown, given twice, of another type

unknown : formal_breaks (line 5) None None (Some (record { ty = type.Word; var = var.Local 0 })) ≡ rule_break (line 5) UnknownName
unknown = refl

again : formal_breaks (line 5) (Some type.Word) (Some None) (Some (record { ty = type.Int; var = var.Local 0 })) ≡ rule_break (line 5) DuplicateName
again = refl

of_width_alone : formal_breaks (line 5) (Some type.Word) None (Some (record { ty = type.Int; var = var.Local 0 })) ≡ rule_break (line 5) TypeMismatch
of_width_alone = refl

in_order : call_with (line 5) 2 ((codes "B", Some (var.Local 1)) ∷ (codes "A", Some (var.Local 0)) ∷ []) (codes "A" ∷ codes "B" ∷ [])
    ≡ sound (stmt.Invoke 2 (var.Local 0 ∷ var.Local 1 ∷ []))
in_order = refl

left_out : call_with (line 5) 2 ((codes "B", Some (var.Local 1)) ∷ []) (codes "A" ∷ codes "B" ∷ []) ≡ breaks_rule (line 5) TypeMismatch
left_out = refl

-- What is called is no function: a name that is given twice is noted behind what is called

abbrev nowhere : NameScope
nowhere = record { outer = []; formals = []; inner = [] }

given_twice : (no_call nowhere (line 5) TypeMismatch
    ((codes "a", raw.Direct area.M None width.Word 0 0) ∷ (codes "A", raw.Direct area.M None width.Word 2 0) ∷ [])).breaks
    ≡ rule_break (line 5) TypeMismatch ++ rule_break (line 5) DuplicateName
unfolding key_of
given_twice = refl

-- Data blocks: number, location, size, list

abbrev start : ℕ → RawVar
start n = raw.Direct area.Db (Some n) width.Byte 0 0

number : block_number (codes "db065535") ≡ 65535
unfolding key_of
number = refl

sound_block : block_breaks (line 2) 5 (start 5) 1 [] ≡ []
sound_block = refl

other_number : block_breaks (line 2) 5 (start 6) 1 [] ≡ rule_break (line 2) TypeMismatch
other_number = refl

number_zero : block_breaks (line 2) 0 (start 0) 1 [] ≡ rule_break (line 2) BadAddress
number_zero = refl

one_byte : block_breaks (line 2) 5 (start 5) 0 [] ≡ rule_break (line 2) TypeMismatch
one_byte = refl

greatest : block_breaks (line 2) 5 (start 5) 16383 [] ≡ []
greatest = refl

too_great : block_breaks (line 2) 5 (start 5) 16384 [] ≡ rule_break (line 2) TooLarge
too_great = refl

short_list : block_breaks (line 2) 5 (start 5) 2 ((1, 0) ∷ []) ≡ rule_break (line 2) TypeMismatch
short_list = refl

long_list : block_breaks (line 2) 5 (start 5) 1 ((4294967295, 0) ∷ (3, 1) ∷ []) ≡ rule_break (line 2) TypeMismatch
long_list = refl

zeros : contents 2 [] ≡ 0 ∷ 0 ∷ 0 ∷ []
zeros = refl

runs : contents 2 ((2, 7) ∷ (0, 9) ∷ (1, 1) ∷ []) ≡ 7 ∷ 7 ∷ 1 ∷ []
runs = refl

by_number : insert_data_block (record { number = 5; bytes = [] }) (record { number = 3; bytes = [] } ∷ record { number = 7; bytes = [] } ∷ [])
    ≡ record { number = 3; bytes = [] } ∷ record { number = 5; bytes = [] } ∷ record { number = 7; bytes = [] } ∷ []
by_number = refl

last_block : one_too_many (line 2) true 1023 ≡ []
last_block = refl

one_more : one_too_many (line 2) true 1024 ≡ rule_break (line 2) TooLarge
one_more = refl

not_local : fits_type type.Word (raw.Direct area.L None width.Word 0 0) ≡ false
not_local = refl

not_so_wide : fits_type type.Int (raw.Direct area.M None width.Byte 0 0) ≡ false
not_so_wide = refl

-- Chains: eight units in a row, and nine

abbrev calls : List ℕ → Graph
calls [] = []
calls (n ∷ ns) = (record { line = line 1; callee = n } ∷ []) ∷ calls ns

abbrev last : Graph
last = [] ∷ []

eight : chains (calls (1 ∷ 2 ∷ 3 ∷ 4 ∷ 5 ∷ 6 ∷ 7 ∷ []) ++ last) 7 ≡ true ∷ replicate 7 false
eight = refl

no_ninth : chains (calls (1 ∷ 2 ∷ 3 ∷ 4 ∷ 5 ∷ 6 ∷ 7 ∷ []) ++ last) 8 ≡ replicate 8 false
no_ninth = refl

nine : chains (calls (1 ∷ 2 ∷ 3 ∷ 4 ∷ 5 ∷ 6 ∷ 7 ∷ 8 ∷ []) ++ last) 8 ≡ true ∷ replicate 8 false
nine = refl

followed : follow (calls (1 ∷ 2 ∷ 0 ∷ [])) 0 (0 ∷ 0 ∷ 0 ∷ []) ≡ Some 0
followed = refl

not_followed : follow (calls (1 ∷ 2 ∷ 0 ∷ [])) 0 (0 ∷ 1 ∷ []) ≡ None
not_followed = refl
