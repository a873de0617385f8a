-- What the spelling gives for some expressions, by computation: where brackets stand, and each word.
use Rattle.st_tree.proofs.Common.{◌≡◌, ℕ, List, [], pos, codes, refl, digits, canon, literal_text, form_text, var_text, Names, Expr}
use Rattle.memory_areas.specs.declared.place.AreaName.TheVariants as area
use Rattle.s7_base.specs.declared.register.Reg.TheVariants as reg
use Rattle.s7_base.specs.declared.word.Width.TheVariants as width
use Rattle.st_tree.proofs.Equations.{canon_equations}
use Rattle.st_tree.specs.declared.expr.StType.TheVariants as type
use Rattle.st_tree.specs.declared.expr.UnaryOp.TheVariants as unary
use Rattle.st_tree.specs.declared.expr.BinaryOp.TheVariants as binary
use Rattle.st_tree.specs.declared.expr.Var.TheVariants as var
use Rattle.st_tree.specs.declared.expr.Expr.TheVariants as expr

-- nothing is declared
abbrev nothing : Names
nothing = record { globals = []; units = []; formals = []; locals = [] }

abbrev text_of : Expr → List ℕ
text_of e = form_text nothing (canon e)

abbrev rlo : Expr
rlo = expr.Read (var.Register reg.Rlo)

abbrev nfc : Expr
nfc = expr.Read (var.Register reg.Nfc)

abbrev br : Expr
br = expr.Read (var.Register reg.Br)

-- OR has a lower precedence than AND
or_in_and : text_of (expr.Binary binary.And (expr.Binary binary.Or rlo nfc) br) ≡ codes "(RLO OR NFC) AND BR"
or_in_and = simp canon_equations

and_in_or : text_of (expr.Binary binary.Or (expr.Binary binary.And rlo nfc) br) ≡ codes "RLO AND NFC OR BR"
and_in_or = simp canon_equations

-- operators of one level group to the left
left_or : text_of (expr.Binary binary.Or (expr.Binary binary.Or rlo nfc) br) ≡ codes "RLO OR NFC OR BR"
left_or = simp canon_equations

right_or : text_of (expr.Binary binary.Or rlo (expr.Binary binary.Or nfc br)) ≡ codes "RLO OR (NFC OR BR)"
right_or = simp canon_equations

right_and : text_of (expr.Binary binary.And rlo (expr.Binary binary.And nfc br)) ≡ codes "RLO AND (NFC AND BR)"
right_and = simp canon_equations

-- NOT binds more tightly than both, and stands before another NOT without brackets
not_of_or : text_of (expr.Unary unary.Not (expr.Binary binary.Or rlo nfc)) ≡ codes "NOT (RLO OR NFC)"
not_of_or = simp canon_equations

not_in_and : text_of (expr.Binary binary.And rlo (expr.Unary unary.Not nfc)) ≡ codes "RLO AND NOT NFC"
not_in_and = simp canon_equations

not_of_not : text_of (expr.Unary unary.Not (expr.Unary unary.Not br)) ≡ codes "NOT NOT BR"
not_of_not = simp canon_equations

-- the two values of BOOL
false_word : text_of (expr.Literal type.Bool (pos 0)) ≡ codes "FALSE"
unfolding literal_text
false_word = simp canon_equations

true_word : text_of (expr.Literal type.Bool (pos 1)) ≡ codes "TRUE"
unfolding literal_text
true_word = simp canon_equations

-- places in memory
marker_bit : var_text nothing (var.Direct area.M 10 7 width.Bit) ≡ codes "%MX10.7"
unfolding digits
marker_bit = refl

output_byte : var_text nothing (var.Direct area.Q 4 0 width.Byte) ≡ codes "%QB4"
unfolding digits
output_byte = refl

local_dword : var_text nothing (var.Direct area.L 255 0 width.Dword) ≡ codes "%LD255"
unfolding digits
local_dword = refl

block_word : var_text nothing (var.Direct area.Db 65535 0 width.Word) ≡ codes "%DBW65535"
unfolding digits
block_word = refl

instance_bit : var_text nothing (var.Direct area.Di 0 3 width.Bit) ≡ codes "%DIX0.3"
unfolding digits
instance_bit = refl
