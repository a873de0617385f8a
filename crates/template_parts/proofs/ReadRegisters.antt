-- Which registers statements read.
use Rattle.std.proofs.Common.{ℕ, Bool, List, [], ◌∷◌, ◌++◌, inl, inr, sym, subst}
use Rattle.std.specs.Prelude.{ℤ, false}
use Rattle.memory_areas.specs.declared.place.AreaName.{AreaName}
use Rattle.s7_base.specs.declared.register.Reg.{Reg}
use Rattle.s7_base.specs.declared.register.Reg.TheVariants as reg
use Rattle.s7_base.specs.declared.word.Width.{Width}
use Rattle.st_tree.proofs.PartEquations.{reads_in_area_write, reads_in_assign, reads_of_area_read, reads_of_binary, reads_of_convert, reads_of_literal, reads_of_read, reads_of_select, reads_of_shift, reads_of_unary}
use Rattle.st_tree.specs.BodyParts.{reads_in, reads_of as variables_of}
use Rattle.st_tree.specs.declared.expr.BinaryOp.{BinaryOp}
use Rattle.st_tree.specs.declared.expr.Expr.{Expr}
use Rattle.st_tree.specs.declared.expr.Expr.TheVariants as expr
use Rattle.st_tree.specs.declared.expr.ShiftOp.{ShiftOp}
use Rattle.st_tree.specs.declared.expr.StType.{StType}
use Rattle.st_tree.specs.declared.expr.UnaryOp.{UnaryOp}
use Rattle.st_tree.specs.declared.expr.UnaryOp.TheVariants as unary
use Rattle.st_tree.specs.declared.expr.Var.{Var}
use Rattle.st_tree.specs.declared.expr.Var.TheVariants as var
use Rattle.st_tree.specs.declared.program.Stmt.{Stmt}
use Rattle.st_tree.specs.declared.program.Stmt.TheVariants as stmt
use Rattle.template_parts.specs.Builders.{clear_or, literal_of, local_of, not_of, read_of, set_of}
use Rattle.template_parts.specs.Reading.{EachRegister, IsAmong}

pub among_left : (r : Reg) (xs ys : List Reg) → IsAmong r xs → IsAmong r (xs ++ ys)
among_left r [] ys h = elim h [ ]
among_left r (x ∷ xs) ys (inl e) = inl e
among_left r (x ∷ xs) ys (inr h) = inr (among_left r xs ys h)

pub among_right : (r : Reg) (xs ys : List Reg) → IsAmong r ys → IsAmong r (xs ++ ys)
among_right r [] ys h = h
among_right r (x ∷ xs) ys h = inr (among_right r xs ys h)

module _ (P : Reg → Type 0) where
  pub both_read : (xs ys : List Var) → EachRegister P xs → EachRegister P ys → EachRegister P (xs ++ ys)
  both_read [] ys h k = k
  both_read (var.Register r ∷ xs) ys h k = (h.0, both_read xs ys h.1 k)
  both_read (v ∷ xs) ys h k = both_read xs ys h k

  -- an expression reads such registers alone
  abbrev pub Reads : Expr → Type 0
  Reads e = EachRegister P (variables_of e)

  pub register_reads : (r : Reg) → P r → Reads (read_of r)
  register_reads r h = subst (EachRegister P) (sym (reads_of_read (var.Register r))) (h, tt)

  pub local_reads : (i : ℕ) → Reads (local_of i)
  local_reads i = subst (EachRegister P) (sym (reads_of_read (var.Local i))) tt

  pub direct_reads : (a : AreaName) (byte x : ℕ) (w : Width) → Reads (expr.Read (var.Direct a byte x w))
  direct_reads a byte x w = subst (EachRegister P) (sym (reads_of_read (var.Direct a byte x w))) tt

  pub formal_reads : (i : ℕ) → Reads (expr.Read (var.Formal i))
  formal_reads i = subst (EachRegister P) (sym (reads_of_read (var.Formal i))) tt

  pub constant_reads : (ty : StType) (n : ℤ) → Reads (expr.Literal ty n)
  constant_reads ty n = subst (EachRegister P) (sym (reads_of_literal ty n)) tt

  pub literal_reads : (b : Bool) → Reads (literal_of b)
  literal_reads b = constant_reads _ _

  pub unary_reads : (op : UnaryOp) (e : Expr) → Reads e → Reads (expr.Unary op e)
  unary_reads op e h = subst (EachRegister P) (sym (reads_of_unary op e)) h

  pub not_reads : (e : Expr) → Reads e → Reads (not_of e)
  not_reads e h = unary_reads unary.Not e h

  pub joined_reads : (op : BinaryOp) (e f : Expr) → Reads e → Reads f → Reads (expr.Binary op e f)
  joined_reads op e f h k = subst (EachRegister P) (sym (reads_of_binary op e f)) (both_read (variables_of e) (variables_of f) h k)

  pub convert_reads : (from to : StType) (e : Expr) → Reads e → Reads (expr.Convert from to e)
  convert_reads from to e h = subst (EachRegister P) (sym (reads_of_convert from to e)) h

  pub select_reads : (gate e f : Expr) → Reads gate → Reads e → Reads f → Reads (expr.Select gate e f)
  select_reads gate e f g h k =
      subst (EachRegister P) (sym (reads_of_select gate e f))
      (both_read (variables_of gate ++ variables_of e) (variables_of f) (both_read (variables_of gate) (variables_of e) g h) k)

  pub area_read_reads : (w : Width) (e : Expr) → Reads e → Reads (expr.AreaRead w e)
  area_read_reads w e h = subst (EachRegister P) (sym (reads_of_area_read w e)) h

  pub shift_reads : (op : ShiftOp) (e count : Expr) → Reads e → Reads count → Reads (expr.Shift op e count)
  shift_reads op e count h k = subst (EachRegister P) (sym (reads_of_shift op e count)) (both_read (variables_of e) (variables_of count) h k)

  -- all registers of a list are such
  abbrev pub Has : List Reg → Type 0
  Has registers = (r : Reg) → IsAmong r registers → P r

  pub has_left : (xs ys : List Reg) → Has (xs ++ ys) → Has xs
  has_left xs ys h r among = h r (among_left r xs ys among)

  pub has_right : (xs ys : List Reg) → Has (xs ++ ys) → Has ys
  has_right xs ys h r among = h r (among_right r xs ys among)

  -- Statements

  abbrev pub AllRead : List Stmt → Type 0
  AllRead body = EachRegister P (reads_in body)

  pub assigned_reads : (v : Var) (e : Expr) (rest : List Stmt) → Reads e → AllRead rest → AllRead (stmt.Assign v e ∷ rest)
  assigned_reads v e rest h k = subst (EachRegister P) (sym (reads_in_assign v e rest)) (both_read (variables_of e) (reads_in rest) h k)

  pub area_write_reads : (w : Width) (p e : Expr) (rest : List Stmt) → Reads p → Reads e → AllRead rest → AllRead (stmt.AreaWrite w p e ∷ rest)
  area_write_reads w p e rest l h k =
      subst (EachRegister P) (sym (reads_in_area_write w p e rest))
      (both_read (variables_of p) (variables_of e ++ reads_in rest) l (both_read (variables_of e) (reads_in rest) h k))

  pub nfc_reads : (b : Bool) (rest : List Stmt) → AllRead rest → AllRead (set_of reg.Nfc (literal_of b) ∷ rest)
  nfc_reads b rest k = assigned_reads (var.Register reg.Nfc) (literal_of b) rest (literal_reads b) k

  pub cleared_reads : (b : Bool) (rest : List Stmt) → AllRead rest → AllRead (clear_or b ++ rest)
  cleared_reads b rest k =
      assigned_reads (var.Register reg.Orb) (literal_of false) (set_of reg.Nfc (literal_of b) ∷ rest) (literal_reads false) (nfc_reads b rest k)

-- the variables that given statements read, as a list
pub ruleset variables_read = (
  reads_in_assign,
  reads_in_area_write,
  reads_of_literal,
  reads_of_read,
  reads_of_unary,
  reads_of_binary,
  reads_of_convert,
  reads_of_select,
  reads_of_shift,
  reads_of_area_read,
)
