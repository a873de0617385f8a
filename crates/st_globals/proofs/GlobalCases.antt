-- Which symbols become globals, held against worked tables.
use Rattle.std.proofs.Common.{◌≡◌, ℕ, List, [], ◌∷◌, refl}
use Rattle.std.specs.Prelude.{codes, fold}
use Rattle.memory_areas.specs.declared.place.Area.TheVariants as place
use Rattle.memory_areas.specs.declared.place.AreaName.TheVariants as area
use Rattle.s7_base.specs.declared.word.Width.{Width}
use Rattle.s7_base.specs.declared.word.Width.TheVariants as width
use Rattle.st_tree.specs.Naming.{key_of}
use Rattle.st_tree.specs.declared.expr.Var.{Var}
use Rattle.st_tree.specs.declared.expr.Var.TheVariants as var
use Rattle.st_tree.specs.declared.program.Located.{Located}
use Rattle.stl_tree.specs.declared.program.Symbol.{Symbol}
use Rattle.st_globals.specs.Globals.{located, named_var, with_symbol}

abbrev input : List ℕ → ℕ → Width → Symbol
input name byte w = record { name = name; place = record { area = place.I; byte = byte; bit = 0 }; width = w }

abbrev bit_of : ℕ → Var
bit_of byte = var.Direct area.I byte 0 width.Bit

abbrev chosen : List (List ℕ) → List Var → List Symbol → List Located
chosen names vars symbols = fold (with_symbol names vars) [] symbols

-- a reserved word leaves the place to the next symbol, and the third one is not the first
reserved_name : chosen [] (bit_of 0 ∷ [])
    (input (codes "IF") 0 width.Bit ∷ input (codes "Start") 0 width.Bit ∷ input (codes "Begin") 0 width.Bit ∷ [])
    ≡ located (input (codes "Start") 0 width.Bit) ∷ []
unfolding key_of
reserved_name = refl

-- those of two places stand in the order of the table
in_order : chosen [] (bit_of 1 ∷ bit_of 0 ∷ []) (input (codes "Start") 0 width.Bit ∷ input (codes "Stop") 1 width.Bit ∷ [])
    ≡ located (input (codes "Start") 0 width.Bit) ∷ located (input (codes "Stop") 1 width.Bit) ∷ []
unfolding key_of
in_order = refl

-- a name of the text, in any case; a place in another width; a place that no statement names; a name that differs in
-- case alone from that of a global
name_of_text : chosen (codes "START" ∷ []) (bit_of 0 ∷ []) (input (codes "Start") 0 width.Bit ∷ []) ≡ []
unfolding key_of
name_of_text = refl

other_width : chosen [] (bit_of 0 ∷ []) (input (codes "Start") 0 width.Byte ∷ []) ≡ []
unfolding key_of
other_width = refl

unused : chosen [] (bit_of 1 ∷ []) (input (codes "Start") 0 width.Bit ∷ []) ≡ []
unfolding key_of
unused = refl

same_name : chosen [] (bit_of 0 ∷ bit_of 1 ∷ []) (input (codes "Start") 0 width.Bit ∷ input (codes "START") 1 width.Bit ∷ [])
    ≡ located (input (codes "Start") 0 width.Bit) ∷ []
unfolding key_of
same_name = refl

-- what stands for a variable: the global of its place, in its width alone
named : named_var (located (input (codes "Start") 0 width.Bit) ∷ located (input (codes "Stop") 1 width.Bit) ∷ []) (bit_of 1)
    ≡ var.Global 1
named = refl

not_named : named_var (located (input (codes "Start") 0 width.Bit) ∷ []) (var.Direct area.I 0 0 width.Byte)
    ≡ var.Direct area.I 0 0 width.Byte
not_named = refl
