-- Declarations are read exactly where one of their forms stands.
use Rattle.std.proofs.Common.{◌≡◌, ℕ, ◌+◌, ◌<◌, Bool, true, false, ◌&&◌, if◌then◌else◌, List, [], ◌∷◌, ◌++◌, length, drop, refl, sym, ap, subst, ◌∙◌, arith, append_assoc, length-append}
use Rattle.std.proofs.Math.Seq.{drop-append_seam}
use Rattle.std.proofs.lemmas.Bool.{and_from, and_parts, lt-ltb, or_from, or_left, or_right}
use Rattle.std.specs.Prelude.{codes}
use Rattle.s7_base.specs.Tokens.{is_same_word}
use Rattle.s7_base.specs.declared.reason.Kind.{Kind}
use Rattle.s7_base.specs.declared.reason.Kind.TheVariants as kind
use Rattle.s7_base.specs.declared.token.Token.{Token}
use Rattle.stl_constants.proofs.Reading.{if_false, if_true, other_word}
use Rattle.source_laws.proofs.InitialLaws.{ending_front, ending_left, ending_out, ending_read}
use Rattle.source_laws.proofs.TypeLaws.{type_front, type_read, type_out, type_left}
use Rattle.stl_places.proofs.Outs.{OutOf, as_out, dropped, further_out, weaker_out}
use Rattle.stl_grammar.specs.DeclarationForms.{HasEnd, IsDeclaration, BeginsDeclaration, IsType, LeavesOutDeclaration, LeavesOutType, MayBeOf, elem_word, is_complex}
use Rattle.stl_grammar.specs.DeclarationForms as form
use Rattle.stl_grammar.specs.Declarations.{begins_complex, closed_behind, closed_by, declaration_at, in_array, type_at, type_in, with_initial, is_struct}
use Rattle.stl_grammar.specs.InitialForms.{IsEnding, LeavesOutEnding}
use Rattle.stl_grammar.specs.Initials.{ending_at}
use Rattle.stl_grammar.specs.declared.declaration.Innermost.{Innermost}
use Rattle.stl_grammar.specs.declared.declaration.Innermost.TheVariants as inner
use Rattle.stl_grammar.specs.Sections.{is_formal, takes_dates}
use Rattle.stl_grammar.specs.declared.declaration.Section.{Section}
use Rattle.stl_grammar.specs.declared.declaration.Written.{Written}
use Rattle.stl_places.proofs.Fronts.{Front, FrontOf, as_front, further_front, refined}
use Rattle.stl_statement_grammar.specs.Readers.{further, read_as}
use Rattle.stl_statement_grammar.specs.Words.{is_sign, is_word, is_word_kind}
use Rattle.stl_statement_grammar.specs.declared.mnemonic.Read.{Read}
use Rattle.stl_statement_grammar.specs.declared.mnemonic.Read.TheVariants.{Fits, LeftOut, No}
use Rattle.stl_tree.specs.declared.raw.BlockKind.{BlockKind}
use Rattle.stl_tree.specs.declared.raw.ElemType.{ElemType}
use Rattle.stl_tree.specs.declared.raw.ElemType.TheVariants as elem
use Rattle.stl_tree.specs.declared.raw.InitialItem.{InitialItem}

-- what stands behind what was read of the tokens in front
behind_at : {B : Type 0} (tokens : List Token) (size : ℕ) (P : List Token → Type 0)
    (f : Front tokens size P) (Q : List Token → B → Type 0) (next : List Token → Read B)
    → FrontOf f.rest (λ more b. Q (f.front ++ more) b) (next f.rest) → FrontOf tokens Q (further size (next (drop size tokens)))
behind_at {B = B} tokens size P f Q next reads =
    let base : FrontOf (f.front ++ f.rest) Q (further (length f.front) (next f.rest)) = further_front f.front f.rest Q (next f.rest) reads in
    let one : FrontOf tokens Q (further (length f.front) (next f.rest)) =
    subst (λ (ts : List Token). FrontOf ts Q (further (length f.front) (next f.rest))) f.is base in
    let two : FrontOf tokens Q (further size (next f.rest)) = subst (λ (n : ℕ). FrontOf tokens Q (further n (next f.rest))) f.size_is one in
    subst (λ (ts : List Token). FrontOf tokens Q (further size (next ts))) (sym (dropped tokens size P f)) two

-- Types of formals

elementary_plain : (type : ElemType) → (is_same_word (codes "ARRAY") (elem_word type) ≡ false) × (is_same_word (codes "STRUCT") (elem_word type) ≡ false)
elementary_plain elem.Bool = (refl, refl)
elementary_plain elem.Byte = (refl, refl)
elementary_plain elem.Char = (refl, refl)
elementary_plain elem.Word = (refl, refl)
elementary_plain elem.Int = (refl, refl)
elementary_plain elem.Dword = (refl, refl)
elementary_plain elem.Dint = (refl, refl)

-- a type has an array or a STRUCT where it begins with one
complex_is : (left : ℕ) (front : List Token) (type : Written) → IsType left front type → (rest : List Token) → begins_complex (front ++ rest) ≡ is_complex type
complex_is left front type (form.elementary l word its is) rest =
    let plain = elementary_plain its in
    or_from (is_word (codes "ARRAY") word) (is_word (codes "STRUCT") word) (other_word (elem_word its) (codes "ARRAY") word is plain.0)
    (other_word (elem_word its) (codes "STRUCT") word is plain.1)
complex_is left front type (form.date_and_time l word is) rest =
    or_from (is_word (codes "ARRAY") word) (is_word (codes "STRUCT") word) (other_word (codes "DATE_AND_TIME") (codes "ARRAY") word is refl)
    (other_word (codes "DATE_AND_TIME") (codes "STRUCT") word is refl)
complex_is left front type (form.struct l word is) rest = or_right (is_word (codes "ARRAY") word) (is_word (codes "STRUCT") word) is
complex_is left front type (form.array l word more tail dims its is are of) rest =
    let some : 0 < length (dims ∷ its.arrays) = omega arith in
    or_left (is_word (codes "ARRAY") word) (is_word (codes "STRUCT") word) is
    ∙ sym (or_left (in_array (length (dims ∷ its.arrays))) (is_struct its.innermost) (lt-ltb _ _ some))

-- a type that may be one of the section
abbrev IsTypeIn : Section → ℕ → List Token → Written → Type 0
IsTypeIn section left front type = IsType left front type × MayBeOf section type

type_in_front : (section : Section) (left : ℕ) (tokens : List Token) → FrontOf tokens (IsTypeIn section left) (type_in section left tokens)
type_in_front section left tokens = by (is_formal section && begins_complex tokens) refl
  where
    by : (b : Bool) → (is_formal section && begins_complex tokens) ≡ b →
        FrontOf tokens (IsTypeIn section left) (if b then LeftOut kind.ComplexParameter else type_at left tokens)
    by true complex = tt
    by false plain =
        refined tokens (IsType left) (IsTypeIn section left)
        (λ front rest type at is.
        (is, ap (λ (b : Bool). is_formal section && b) (sym (complex_is left front type is rest) ∙ ap begins_complex at) ∙ plain))
        (type_at left tokens) (type_front left tokens)

type_in_read : (section : Section) (left : ℕ) (front : List Token) (type : Written) → IsType left front type → MayBeOf section type → (rest : List Token)
    → type_in section left (front ++ rest) ≡ Fits type (length front)
type_in_read section left front type is may rest =
    if_false (is_formal section && begins_complex (front ++ rest)) _ _ (ap (λ (b : Bool). is_formal section && b) (complex_is left front type is rest) ∙ may)
    ∙ type_read left front type is rest

-- Declarations

named_by : (name colon : Token) → (is_word_kind name.kind && is_sign (codes ":") colon) ≡ true → BeginsDeclaration name colon
named_by name colon h = let p = and_parts (is_word_kind name.kind) (is_sign (codes ":") colon) h in record { name_is = p.0; colon_is = p.1 }

-- what ends a declaration that has its own end
end_at : (of : BlockKind) (section : Section) (what : Innermost) (type : Written) (size : ℕ) (behind : List Token) → HasEnd section what →
    closed_by of section what type size behind ≡ further size (read_as (with_initial type) (ending_at of section (in_array (length type.arrays)) behind))
end_at of section (inner.Elementary its) type size behind has = refl
end_at of section inner.DateAndTime type size behind has = if_true (takes_dates section) _ _ has
end_at of section inner.Struct type size behind has = absurd has

closed_front : (of : BlockKind) (section : Section) (left : ℕ) (name colon : Token) → BeginsDeclaration name colon
    → (rest : List Token) (r : Read Written) → FrontOf rest (IsTypeIn section left) r
    → FrontOf rest (λ more type. IsDeclaration of section left name (colon ∷ more) type) (closed_behind of section rest r)
closed_front of section left name colon named rest No f = tt
closed_front of section left name colon named rest (LeftOut k) f = tt
closed_front of section left name colon named rest (Fits type size) f = by type.innermost refl (takes_dates section) refl
  where
    with_end : HasEnd section type.innermost
        → FrontOf rest (λ more w. IsDeclaration of section left name (colon ∷ more) w)
        (further size (read_as (with_initial type) (ending_at of section (in_array (length type.arrays)) (drop size rest))))
    with_end has =
        let a : Bool = in_array (length type.arrays) in
        behind_at rest size (λ front. IsTypeIn section left front type) f (λ more w. IsDeclaration of section left name (colon ∷ more) w)
        (λ ts. read_as (with_initial type) (ending_at of section a ts))
        (as_front f.rest (with_initial type) (IsEnding of section a) (λ more w. IsDeclaration of section left name (colon ∷ (f.front ++ more)) w)
        (λ more end items at is. form.variable colon f.front more type items named f.holds.0 f.holds.1 has is)
        (ending_at of section a f.rest) (ending_front of section a f.rest))

    by : (what : Innermost) → type.innermost ≡ what → (d : Bool) → takes_dates section ≡ d →
        FrontOf rest (λ more w. IsDeclaration of section left name (colon ∷ more) w) (closed_by of section what type size (drop size rest))
    by inner.Struct what d takes =
        record { front = f.front; rest = f.rest; is = f.is; size_is = f.size_is; holds = form.struct_head colon f.front type named f.holds.0 f.holds.1 what }
    by inner.DateAndTime what true takes =
        subst (λ (r : Read Written). FrontOf rest (λ more w. IsDeclaration of section left name (colon ∷ more) w) r)
        (sym (if_true (takes_dates section) _ _ takes))
        (with_end (subst (λ (i : Innermost). HasEnd section i) (sym what) takes))
    by inner.DateAndTime what false takes =
        subst (λ (r : Read Written). FrontOf rest (λ more w. IsDeclaration of section left name (colon ∷ more) w) r)
        (sym (if_false (takes_dates section) _ _ takes)) tt
    by (inner.Elementary its) what d takes = with_end (subst (λ (i : Innermost). HasEnd section i) (sym what) tt)

pub declaration_front : (of : BlockKind) (section : Section) (left : ℕ) (name : Token) (tokens : List Token)
    → FrontOf tokens (IsDeclaration of section left name) (declaration_at of section left name tokens)
declaration_front of section left name [] = tt
declaration_front of section left name (colon ∷ rest) = by (is_word_kind name.kind && is_sign (codes ":") colon) refl
  where
    by : (b : Bool) → (is_word_kind name.kind && is_sign (codes ":") colon) ≡ b →
        FrontOf (colon ∷ rest) (IsDeclaration of section left name) (if b then further 1 (closed_behind of section rest (type_in section left rest)) else No)
    by false h = tt
    by true h =
        further_front (colon ∷ []) rest (IsDeclaration of section left name) (closed_behind of section rest (type_in section left rest))
        (closed_front of section left name colon (named_by name colon h) rest (type_in section left rest) (type_in_front section left rest))

closed_out : (of : BlockKind) (section : Section) (left : ℕ) (name colon : Token) → BeginsDeclaration name colon
    → (rest : List Token) (r : Read Written) → FrontOf rest (IsTypeIn section left) r
    → OutOf (λ k. LeavesOutDeclaration of section left name (colon ∷ rest) k) r
    → OutOf (λ k. LeavesOutDeclaration of section left name (colon ∷ rest) k) (closed_behind of section rest r)
closed_out of section left name colon named rest No f out = tt
closed_out of section left name colon named rest (LeftOut k) f out = out
closed_out of section left name colon named rest (Fits type size) f out = by type.innermost refl (takes_dates section) refl
  where
    with_end : HasEnd section type.innermost
        → OutOf (λ k. LeavesOutDeclaration of section left name (colon ∷ rest) k)
        (further size (read_as (with_initial type) (ending_at of section (in_array (length type.arrays)) (drop size rest))))
    with_end has =
        let a : Bool = in_array (length type.arrays) in
        let Q : Kind → Type 0 = λ k. LeavesOutDeclaration of section left name (colon ∷ rest) k in
        let there : OutOf (λ k. LeavesOutEnding of section a f.rest k) (ending_at of section a (drop size rest)) =
        subst (λ (ts : List Token). OutOf (λ k. LeavesOutEnding of section a f.rest k) (ending_at of section a ts))
        (sym (dropped rest size (λ front. IsTypeIn section left front type) f)) (ending_out of section a f.rest) in
        further_out Q size (read_as (with_initial type) (ending_at of section a (drop size rest)))
        (as_out Q (with_initial type) (ending_at of section a (drop size rest))
        (weaker_out (λ k. LeavesOutEnding of section a f.rest k) Q
        (λ k end. subst (λ (ts : List Token). LeavesOutDeclaration of section left name (colon ∷ ts) k) f.is
        (form.in_ending colon f.front f.rest type k named f.holds.0 f.holds.1 has end))
        (ending_at of section a (drop size rest)) there))

    by : (what : Innermost) → type.innermost ≡ what → (d : Bool) → takes_dates section ≡ d
        → OutOf (λ k. LeavesOutDeclaration of section left name (colon ∷ rest) k) (closed_by of section what type size (drop size rest))
    by inner.Struct what d takes = tt
    by inner.DateAndTime what true takes =
        subst (λ (r : Read Written). OutOf (λ k. LeavesOutDeclaration of section left name (colon ∷ rest) k) r) (sym (if_true (takes_dates section) _ _ takes))
        (with_end (subst (λ (i : Innermost). HasEnd section i) (sym what) takes))
    by inner.DateAndTime what false takes =
        subst (λ (r : Read Written). OutOf (λ k. LeavesOutDeclaration of section left name (colon ∷ rest) k) r) (sym (if_false (takes_dates section) _ _ takes))
        (subst (λ (ts : List Token). LeavesOutDeclaration of section left name (colon ∷ ts) kind.DateTime) f.is
        (form.with_date colon f.front f.rest type named f.holds.0 f.holds.1 what takes))
    by (inner.Elementary its) what d takes = with_end (subst (λ (i : Innermost). HasEnd section i) (sym what) tt)

type_in_out : (of : BlockKind) (section : Section) (left : ℕ) (name colon : Token) → BeginsDeclaration name colon → (rest : List Token)
    → OutOf (λ k. LeavesOutDeclaration of section left name (colon ∷ rest) k) (type_in section left rest)
type_in_out of section left name colon named rest = by (is_formal section && begins_complex rest) refl
  where
    by : (b : Bool) → (is_formal section && begins_complex rest) ≡ b →
        OutOf (λ k. LeavesOutDeclaration of section left name (colon ∷ rest) k) (if b then LeftOut kind.ComplexParameter else type_at left rest)
    by true complex = let p = and_parts (is_formal section) (begins_complex rest) complex in form.complex_formal colon rest named p.0 p.1
    by false plain =
        weaker_out (λ k. LeavesOutType left rest k) (λ k. LeavesOutDeclaration of section left name (colon ∷ rest) k)
        (λ k out. form.in_type colon rest k named plain out) (type_at left rest) (type_out left rest)

pub declaration_out : (of : BlockKind) (section : Section) (left : ℕ) (name : Token) (tokens : List Token)
    → OutOf (λ k. LeavesOutDeclaration of section left name tokens k) (declaration_at of section left name tokens)
declaration_out of section left name [] = tt
declaration_out of section left name (colon ∷ rest) = by (is_word_kind name.kind && is_sign (codes ":") colon) refl
  where
    by : (b : Bool) → (is_word_kind name.kind && is_sign (codes ":") colon) ≡ b
        → OutOf (λ k. LeavesOutDeclaration of section left name (colon ∷ rest) k)
        (if b then further 1 (closed_behind of section rest (type_in section left rest)) else No)
    by false h = tt
    by true h =
        further_out (λ k. LeavesOutDeclaration of section left name (colon ∷ rest) k) 1 (closed_behind of section rest (type_in section left rest))
        (closed_out of section left name colon (named_by name colon h) rest (type_in section left rest) (type_in_front section left rest)
        (type_in_out of section left name colon (named_by name colon h) rest))

named_reads : (of : BlockKind) (section : Section) (left : ℕ) (name colon : Token) (rest : List Token) → BeginsDeclaration name colon
    → declaration_at of section left name (colon ∷ rest) ≡ further 1 (closed_behind of section rest (type_in section left rest))
named_reads of section left name colon rest named =
    if_true (is_word_kind name.kind && is_sign (codes ":") colon) _ No (and_from _ _ named.name_is named.colon_is)

-- a declaration by its type, with what stands behind that
typed_reads : (of : BlockKind) (section : Section) (left : ℕ) (name colon : Token) (front rest : List Token) (type : Written)
    → BeginsDeclaration name colon → IsType left front type → MayBeOf section type
    → declaration_at of section left name (colon ∷ (front ++ rest)) ≡ further 1 (closed_by of section type.innermost type (length front) rest)
typed_reads of section left name colon front rest type named is may =
    named_reads of section left name colon (front ++ rest) named
    ∙ ap (λ (r : Read Written). further 1 (closed_behind of section (front ++ rest) r)) (type_in_read section left front type is may rest)
    ∙ ap (λ (ts : List Token). further 1 (closed_by of section type.innermost type (length front) ts)) (drop-append_seam front rest)

pub declaration_read : (of : BlockKind) (section : Section) (left : ℕ) (name : Token) (tokens : List Token) (type : Written)
    → IsDeclaration of section left name tokens type → (rest : List Token)
    → declaration_at of section left name (tokens ++ rest) ≡ Fits type (length tokens)
declaration_read of section left name tokens type (form.variable colon front more its items named is may has ends) rest =
    let a : Bool = in_array (length its.arrays) in
    let size : 1 + (length front + length more) ≡ length (colon ∷ (front ++ more)) = omega (arith, length-append front more) in
    ap (λ (ts : List Token). declaration_at of section left name (colon ∷ ts)) (append_assoc front more rest)
    ∙ typed_reads of section left name colon front (more ++ rest) its named is may
    ∙ ap (further 1) (end_at of section its.innermost its (length front) (more ++ rest) has)
    ∙ ap (λ (r : Read (List InitialItem)). further 1 (further (length front) (read_as (with_initial its) r))) (ending_read of section a more items ends rest)
    ∙ ap (λ (n : ℕ). Fits (with_initial its items) n) size
declaration_read of section left name tokens type (form.struct_head colon front its named is may struct) rest =
    let size : 1 + length front ≡ length (colon ∷ front) = omega arith in
    typed_reads of section left name colon front rest its named is may
    ∙ ap (λ (what : Innermost). further 1 (closed_by of section what its (length front) rest)) struct
    ∙ ap (λ (n : ℕ). Fits its n) size

pub declaration_left : (of : BlockKind) (section : Section) (left : ℕ) (name : Token) (tokens : List Token) (k : Kind)
    → LeavesOutDeclaration of section left name tokens k → declaration_at of section left name tokens ≡ LeftOut k
declaration_left of section left name tokens k (form.complex_formal colon rest named formal complex) =
    named_reads of section left name colon rest named
    ∙ ap (λ (r : Read Written). further 1 (closed_behind of section rest r))
    (if_true (is_formal section && begins_complex rest) _ _ (and_from _ _ formal complex))
declaration_left of section left name tokens k (form.in_type colon rest its named plain out) =
    named_reads of section left name colon rest named
    ∙ ap (λ (r : Read Written). further 1 (closed_behind of section rest r))
    (if_false (is_formal section && begins_complex rest) _ _ plain ∙ type_left left rest its out)
declaration_left of section left name tokens k (form.with_date colon front rest type named is may date has) =
    typed_reads of section left name colon front rest type named is may
    ∙ ap (λ (what : Innermost). further 1 (closed_by of section what type (length front) rest)) date
    ∙ ap (further 1) (if_false (takes_dates section) _ _ has)
declaration_left of section left name tokens k (form.in_ending colon front rest type its named is may has out) =
    let a : Bool = in_array (length type.arrays) in
    typed_reads of section left name colon front rest type named is may
    ∙ ap (further 1) (end_at of section type.innermost type (length front) rest has)
    ∙ ap (λ (r : Read (List InitialItem)). further 1 (further (length front) (read_as (with_initial type) r))) (ending_left of section a rest its out)
