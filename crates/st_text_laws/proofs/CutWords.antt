-- The words and signs of a canonical text, each before what is read after it.
use Rattle.st_tree.proofs.Common.{◌≡◌, ℕ, suc, Bool, true, false, ◌&&◌, List, [], ◌∷◌, ◌++◌, length, Option, Some, None, refl, codes, is_none, list_all, is_word_byte, begins_with, Line, infix_word, type_word}
use Rattle.s7_base.specs.declared.word.Width.TheVariants as width
use Rattle.st_lexer.proofs.Words.{and_both}
use Rattle.st_lexer.proofs.Common.{ends_word, is_letter, token, piece_at, BinaryOp, ShiftOp, StType}
use Rattle.st_tree.specs.declared.token.StKind.TheVariants as sort
use Rattle.st_text_laws.proofs.Cuts.{has_no_line, ReadsOn, begins_with_times, reads_token, reads_word, reads_blank, where_spelled}
use Rattle.st_text_laws.proofs.Common.{on, is_function, is_name, is_unreserved, Fixed, GrammarKind, Word}
use Rattle.st_grammar.specs.Kinds.{conversion_named, fixed_text, lead_text, name_kind, sign_named, text_kind, word_kind, word_named, word_text}
use Rattle.st_grammar.specs.declared.kind.Fixed.TheVariants as fixed
use Rattle.st_grammar.specs.declared.kind.Function.TheVariants as function
use Rattle.st_grammar.specs.declared.kind.Jump.TheVariants as jump
use Rattle.st_grammar.specs.declared.kind.GrammarKind.TheVariants as kind
use Rattle.st_grammar.specs.declared.kind.Lead.{Lead}
use Rattle.st_grammar.specs.declared.kind.Lead.TheVariants as lead
use Rattle.st_grammar.specs.declared.kind.OneOperand.TheVariants as one
use Rattle.st_tree.specs.Words.{shift_word}
use Rattle.st_tree.specs.declared.expr.BinaryOp.TheVariants as binary
use Rattle.st_tree.specs.declared.expr.ShiftOp.TheVariants as shift_op
use Rattle.st_tree.specs.declared.expr.StType.TheVariants as type
use Rattle.st_tree.specs.declared.raw.RawVar.TheVariants as var

-- Words

-- a letter and more bytes of a word
abbrev pub is_keyword : List ℕ → Bool
is_keyword [] = false
is_keyword (b ∷ w) = is_letter b && list_all is_word_byte w

pub reads_keyword : {line : ℕ} {more : List ℕ} {k : GrammarKind} {ks : List GrammarKind} (text : List ℕ)
    → is_keyword text ≡ true → ends_word more ≡ true → text_kind sort.Word text (on line) ≡ k
    → ReadsOn line more ks → ReadsOn line (text ++ more) (k ∷ ks)
reads_keyword [] h ends same r = absurd cc
reads_keyword (b ∷ w) h ends same r = let both = and_both (is_letter b) (list_all is_word_byte w) h in reads_word b w both.0 both.1 ends same r

fixed_kind : (f : Fixed) (line : Line) → is_keyword (fixed_text f) ≡ true → text_kind sort.Word (fixed_text f) line ≡ kind.Fixed f
unfolding word_named word_text
fixed_kind fixed.VarGlobal line h = refl
fixed_kind (fixed.Between binary.Mul) line h = absurd cc
fixed_kind (fixed.Between binary.Div) line h = absurd cc
fixed_kind (fixed.Between binary.Add) line h = absurd cc
fixed_kind (fixed.Between binary.Sub) line h = absurd cc
fixed_kind (fixed.Between binary.Lt) line h = absurd cc
fixed_kind (fixed.Between binary.Gt) line h = absurd cc
fixed_kind (fixed.Between binary.Le) line h = absurd cc
fixed_kind (fixed.Between binary.Ge) line h = absurd cc
fixed_kind (fixed.Between binary.Eq) line h = absurd cc
fixed_kind (fixed.Between binary.Ne) line h = absurd cc
fixed_kind (fixed.Type type.Bool) line h = refl
fixed_kind (fixed.Function (function.One (one.Convert from to))) line h = absurd cc
fixed_kind (fixed.Function (function.One (one.AreaRead width.Bit))) line h = refl
fixed_kind (fixed.Function (function.Shift shift_op.Shl)) line h = refl
fixed_kind fixed.Becomes line h = absurd cc
fixed_kind fixed.Colon line h = absurd cc
fixed_kind fixed.Semicolon line h = absurd cc
fixed_kind fixed.Comma line h = absurd cc
fixed_kind fixed.Open line h = absurd cc
fixed_kind fixed.Close line h = absurd cc
fixed_kind fixed.OpenSquare line h = absurd cc
fixed_kind fixed.CloseSquare line h = absurd cc
fixed_kind fixed.Dots line h = absurd cc
fixed_kind fixed.End line h = absurd cc
fixed_kind other line h = refl

pub reads_fixed : {line : ℕ} {more : List ℕ} {ks : List GrammarKind} (f : Fixed)
    → is_keyword (fixed_text f) ≡ true → ends_word more ≡ true → ReadsOn line more ks
    → ReadsOn line (fixed_text f ++ more) (kind.Fixed f ∷ ks)
reads_fixed {line} f h ends r = reads_keyword (fixed_text f) h ends (fixed_kind f (on line) h) r

lead_kind : (l : Lead) (line : Line) → text_kind sort.Word (lead_text l) line ≡ kind.Lead l line
unfolding word_named word_text
lead_kind lead.If line = refl
lead_kind (lead.Jump jump.Exit) line = refl
lead_kind (lead.AreaWrite width.Bit) line = refl
lead_kind other line = refl

lead_keyword : (l : Lead) → is_keyword (lead_text l) ≡ true
lead_keyword lead.If = refl
lead_keyword (lead.Jump jump.Exit) = refl
lead_keyword (lead.AreaWrite width.Bit) = refl
lead_keyword other = refl

pub reads_lead : {line : ℕ} {more : List ℕ} {ks : List GrammarKind} (l : Lead) → ends_word more ≡ true → ReadsOn line more ks
    → ReadsOn line (lead_text l ++ more) (kind.Lead l (on line) ∷ ks)
reads_lead {line} l ends r = reads_keyword (lead_text l) (lead_keyword l) ends (lead_kind l (on line)) r

-- Names

no_word : (o : Option Word) (text : List ℕ) (line : Line) → is_none o ≡ true
    → is_none (conversion_named text) ≡ true → word_kind o text line ≡ kind.Variable (var.Name text) line
no_word (Some w) text line h free = absurd cc
no_word None text line h free = by (conversion_named text) free
  where
    by : (c : Option _) → is_none c ≡ true → name_kind c text line ≡ kind.Variable (var.Name text) line
    by (Some op) h = absurd cc
    by None h = refl

name_reads : {line : ℕ} {more : List ℕ} {ks : List GrammarKind} (name : List ℕ) → is_name name ≡ true → ends_word more ≡ true → ReadsOn line more ks
    → ReadsOn line (name ++ more) (kind.Variable (var.Name name) (on line) ∷ ks)
name_reads [] h ends r = absurd cc
name_reads {line} (b ∷ w) h ends r =
    let outer = and_both (is_letter b && list_all is_word_byte w) (is_unreserved (b ∷ w)) h in
    let both = and_both (is_letter b) (list_all is_word_byte w) outer.0 in
    let free = and_both (is_none (word_named (b ∷ w))) (is_none (conversion_named (b ∷ w))) outer.1 in
    reads_word b w both.0 both.1 ends (no_word (word_named (b ∷ w)) (b ∷ w) (on line) free.0 free.1) r

pub reads_name : {line : ℕ} {more : List ℕ} {ks : List GrammarKind} (name : List ℕ) → ends_word more ≡ true → ReadsOn line more ks
    → ReadsOn line (name ++ more) (kind.Variable (var.Name name) (on line) ∷ ks)
reads_name name ends r = where_spelled (λ h. name_reads name h ends r)

-- Types, shifts and conversions

type_keyword : (ty : StType) → is_keyword (fixed_text (fixed.Type ty)) ≡ true
type_keyword type.Bool = refl
type_keyword other = refl

shift_keyword : (op : ShiftOp) → is_keyword (fixed_text (fixed.Function (function.Shift op))) ≡ true
shift_keyword shift_op.Shl = refl
shift_keyword other = refl

pub reads_type : {line : ℕ} {more : List ℕ} {ks : List GrammarKind} (ty : StType) → ends_word more ≡ true → ReadsOn line more ks
    → ReadsOn line (type_word ty ++ more) (kind.Fixed (fixed.Type ty) ∷ ks)
reads_type ty ends r = reads_fixed (fixed.Type ty) (type_keyword ty) ends r

pub reads_shift : {line : ℕ} {more : List ℕ} {ks : List GrammarKind} (op : ShiftOp) → ends_word more ≡ true → ReadsOn line more ks
    → ReadsOn line (shift_word op ++ more) (kind.Fixed (fixed.Function (function.Shift op)) ∷ ks)
reads_shift op ends r = reads_fixed (fixed.Function (function.Shift op)) (shift_keyword op) ends r

convert_kind : (from to : StType) (line : Line) → is_function (one.Convert from to) ≡ true
    → text_kind sort.Word (type_word from ++ codes "_TO_" ++ type_word to) line ≡ kind.Fixed (fixed.Function (function.One (one.Convert from to)))
unfolding word_named word_text
convert_kind from type.Bool line h = absurd cc
convert_kind type.Byte type.Byte line h = absurd cc
convert_kind type.Word type.Word line h = absurd cc
convert_kind type.Dword type.Dword line h = absurd cc
convert_kind type.Int type.Int line h = absurd cc
convert_kind type.Dint type.Dint line h = absurd cc
convert_kind type.Lint type.Lint line h = absurd cc
convert_kind from to line h = refl

convert_keyword : (from to : StType) → is_keyword (type_word from ++ codes "_TO_" ++ type_word to) ≡ true
convert_keyword type.Bool type.Bool = refl
convert_keyword from type.Bool = refl
convert_keyword from to = refl

pub reads_convert : {line : ℕ} {more : List ℕ} {ks : List GrammarKind} (from to : StType) → ends_word more ≡ true → ReadsOn line more ks
    → ReadsOn line ((type_word from ++ codes "_TO_" ++ type_word to) ++ more) (kind.Fixed (fixed.Function (function.One (one.Convert from to))) ∷ ks)
reads_convert {line} from to ends r = where_spelled (λ h.
    reads_keyword (type_word from ++ codes "_TO_" ++ type_word to) (convert_keyword from to) ends (convert_kind from to (on line) h) r)

-- Signs

-- a sign of one byte, whatever stands behind it
reads_sign : {line : ℕ} {more : List ℕ} {k : GrammarKind} {ks : List GrammarKind} (b : ℕ) → piece_at (b ∷ []) ≡ Some (token sort.Sign 1)
    → ((c : ℕ) (rest : List ℕ) → piece_at (b ∷ c ∷ rest) ≡ Some (token sort.Sign 1))
    → has_no_line (b ∷ []) ≡ true → text_kind sort.Sign (b ∷ []) (on line) ≡ k → ReadsOn line more ks
    → ReadsOn line (b ∷ more) (k ∷ ks)
reads_sign {more = []} b alone before plain same r = reads_token sort.Sign b [] alone plain same refl r
reads_sign {more = c ∷ rest} b alone before plain same r = reads_token sort.Sign b [] (before c rest) plain same refl r

module _ {line : ℕ} {more : List ℕ} {ks : List GrammarKind} where
  pub reads_semicolon : ReadsOn line more ks → ReadsOn line (59 ∷ more) (kind.Fixed fixed.Semicolon ∷ ks)
  unfolding sign_named
  reads_semicolon r = reads_sign 59 refl (λ c rest. refl) refl refl r

  pub reads_comma : ReadsOn line more ks → ReadsOn line (44 ∷ more) (kind.Fixed fixed.Comma ∷ ks)
  unfolding sign_named
  reads_comma r = reads_sign 44 refl (λ c rest. refl) refl refl r

  pub reads_close : ReadsOn line more ks → ReadsOn line (41 ∷ more) (kind.Fixed fixed.Close ∷ ks)
  unfolding sign_named
  reads_close r = reads_sign 41 refl (λ c rest. refl) refl refl r

  pub reads_minus : ReadsOn line more ks → ReadsOn line (45 ∷ more) (kind.Fixed (fixed.Between binary.Sub) ∷ ks)
  unfolding sign_named
  reads_minus r = reads_sign 45 refl (λ c rest. refl) refl refl r

  pub reads_open_square : ReadsOn line more ks → ReadsOn line (91 ∷ more) (kind.Fixed fixed.OpenSquare ∷ ks)
  unfolding sign_named
  reads_open_square r = reads_sign 91 refl (λ c rest. refl) refl refl r

  pub reads_close_square : ReadsOn line more ks → ReadsOn line (93 ∷ more) (kind.Fixed fixed.CloseSquare ∷ ks)
  unfolding sign_named
  reads_close_square r = reads_sign 93 refl (λ c rest. refl) refl refl r

  pub reads_becomes : ReadsOn line more ks → ReadsOn line (58 ∷ 61 ∷ more) (kind.Fixed fixed.Becomes ∷ ks)
  unfolding sign_named
  reads_becomes r = reads_token sort.Sign 58 (61 ∷ []) refl refl refl refl r

  pub reads_dots : ReadsOn line more ks → ReadsOn line (46 ∷ 46 ∷ more) (kind.Fixed fixed.Dots ∷ ks)
  unfolding sign_named
  reads_dots r = reads_token sort.Sign 46 (46 ∷ []) refl refl refl refl r

  -- a colon before a blank or the end of a line
  pub reads_colon : ReadsOn line (32 ∷ more) ks → ReadsOn line (58 ∷ 32 ∷ more) (kind.Fixed fixed.Colon ∷ ks)
  unfolding sign_named
  reads_colon r = reads_token sort.Sign 58 [] refl refl refl refl r

  pub reads_last_colon : ReadsOn line (10 ∷ more) ks → ReadsOn line (58 ∷ 10 ∷ more) (kind.Fixed fixed.Colon ∷ ks)
  unfolding sign_named
  reads_last_colon r = reads_token sort.Sign 58 [] refl refl refl refl r

-- a bracket opens a comment where `*` stands after it
open_at : (more : List ℕ) → begins_with 42 more ≡ false → piece_at (40 ∷ more) ≡ Some (token sort.Sign 1)
open_at [] h = refl
open_at (b ∷ more) h = rw h refl

no_star : (t : Bool) (ks : List GrammarKind) → (t ≡ true → begins_with_times ks ≡ true) → begins_with_times ks ≡ false → t ≡ false
no_star false ks star h = refl
no_star true ks star h = absurd (let is = star refl in cc)

pub reads_open : {line : ℕ} {more : List ℕ} {ks : List GrammarKind} → begins_with_times ks ≡ false
    → ReadsOn line more ks → ReadsOn line (40 ∷ more) (kind.Fixed fixed.Open ∷ ks)
unfolding sign_named
reads_open {more = more} {ks = ks} h r =
    record { read = λ s. (reads_token sort.Sign 40 [] (open_at more (no_star (begins_with 42 more) ks (r.read s.1).star h)) refl refl refl r).read s }

-- a sign of the operators between operands, before a blank
infix_sign : {line : ℕ} {more : List ℕ} {k : GrammarKind} {ks : List GrammarKind} (b : ℕ) (w : List ℕ)
    → piece_at (b ∷ (w ++ 32 ∷ more)) ≡ Some (token sort.Sign (suc (length w)))
    → has_no_line (b ∷ w) ≡ true → text_kind sort.Sign (b ∷ w) (on line) ≡ k → ReadsOn line more ks → ReadsOn line (32 ∷ b ∷ (w ++ 32 ∷ more)) (k ∷ ks)
infix_sign b w found plain same r = reads_blank (reads_token sort.Sign b w found plain same refl (reads_blank r))

pub reads_infix : {line : ℕ} {more : List ℕ} {ks : List GrammarKind} (op : BinaryOp)
    → ReadsOn line more ks → ReadsOn line (infix_word op ++ more) (kind.Fixed (fixed.Between op) ∷ ks)
unfolding sign_named
reads_infix binary.Mod r = reads_blank (reads_fixed (fixed.Between binary.Mod) refl refl (reads_blank r))
reads_infix binary.And r = reads_blank (reads_fixed (fixed.Between binary.And) refl refl (reads_blank r))
reads_infix binary.Xor r = reads_blank (reads_fixed (fixed.Between binary.Xor) refl refl (reads_blank r))
reads_infix binary.Or r = reads_blank (reads_fixed (fixed.Between binary.Or) refl refl (reads_blank r))
reads_infix binary.Mul r = infix_sign 42 [] refl refl refl r
reads_infix binary.Div r = infix_sign 47 [] refl refl refl r
reads_infix binary.Add r = infix_sign 43 [] refl refl refl r
reads_infix binary.Sub r = infix_sign 45 [] refl refl refl r
reads_infix binary.Lt r = infix_sign 60 [] refl refl refl r
reads_infix binary.Gt r = infix_sign 62 [] refl refl refl r
reads_infix binary.Le r = infix_sign 60 (61 ∷ []) refl refl refl r
reads_infix binary.Ge r = infix_sign 62 (61 ∷ []) refl refl refl r
reads_infix binary.Eq r = infix_sign 61 [] refl refl refl r
reads_infix binary.Ne r = infix_sign 60 (62 ∷ []) refl refl refl r

pub infix_ends : (op : BinaryOp) (more : List ℕ) → ends_word (infix_word op ++ more) ≡ true
infix_ends binary.Mul more = refl
infix_ends other more = refl
