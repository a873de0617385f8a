-- The heading of a function is read exactly where its form stands.
use Rattle.std.proofs.Common.{inl, inr, ◌≡◌, ℕ, ◌+◌, ◌-◌, Bool, true, false, if◌then◌else◌, List, [], ◌∷◌, ◌++◌, length, drop, Option, Some, None, option_map, refl, sym, ap, subst, ◌∙◌}
use Rattle.std.specs.Option.{option_or}
use Rattle.std.specs.Prelude.{codes}
use Rattle.std.specs.Str.{str_to_ascii_lowercase}
use Rattle.s7_base.specs.declared.reason.Kind.{Kind}
use Rattle.s7_base.specs.declared.reason.Kind.TheVariants as kind
use Rattle.s7_base.specs.declared.reason.Line.{Line}
use Rattle.s7_base.specs.declared.token.Token.{Token}
use Rattle.source_laws.proofs.TypeLaws.{LeftKind, among_at, at_letters, elementary_word, is_spelt, kind_by, kind_is, small_by, user_starts, wide_by}
use Rattle.stl_constants.proofs.Reading.{if_true}
use Rattle.stl_grammar.specs.DeclarationForms.{IsLeftOut, elem_word}
use Rattle.stl_grammar.specs.DeclarationForms as declared
use Rattle.stl_grammar.specs.Declarations.{elementary_type, is_user_type, pointer_types, time_types, type_kind}
use Rattle.stl_grammar.specs.Grammar.{IsResult, LeavesOutResult, date_result, elementary_result, no_result, other_result}
use Rattle.stl_grammar.specs.Headings.{function_at, line_of, result_at, result_behind, result_kind, result_or, result_read}
use Rattle.stl_places.proofs.BlockNameLaws.{name_front, name_read}
use Rattle.stl_places.proofs.Fronts.{FrontOf, and_then_front, and_then_read, as_front, further_front, refined}
use Rattle.stl_places.proofs.Outs.{OutOf, and_then_out, as_out, fitting_out, further_out, weaker_out}
use Rattle.stl_statement_grammar.specs.BlockNames.{name_at, number_behind, number_within}
use Rattle.stl_statement_grammar.specs.CallForms.{IsName, apart, quoted, together}
use Rattle.stl_statement_grammar.specs.ConstantForms.{IsAmong}
use Rattle.stl_statement_grammar.specs.Readers.{fitting, further, read_as}
use Rattle.stl_statement_grammar.specs.Words.{is_quoted_kind, is_sign, is_word, is_word_among, is_word_kind}
use Rattle.stl_statement_grammar.specs.declared.mnemonic.Read.{Read}
use Rattle.stl_statement_grammar.specs.declared.mnemonic.Read.TheVariants as read
use Rattle.stl_tree.specs.declared.raw.ElemType.{ElemType}
use Rattle.stl_tree.specs.declared.raw.ElemType.TheVariants as elem
use Rattle.stl_tree.specs.declared.raw.RawName.{RawName}
use Rattle.stl_tree.specs.declared.raw.RawName.TheVariants.{Name, Number}

-- the type of a function
data IsOne : List Token → Option ElemType → Type 0 where
  one : (word : Token) (result : Option ElemType) → IsResult word result → IsOne (word ∷ []) result

data LeavesOutOne : List Token → Kind → Type 0 where
  one_out : (word : Token) (rest : List Token) (k : Kind) → LeavesOutResult word rest k → LeavesOutOne (word ∷ rest) k

-- a colon and the type
data IsColonResult : List Token → Option ElemType → Type 0 where
  behind_colon : (colon type : Token) (result : Option ElemType) →
      is_sign (codes ":") colon ≡ true → IsResult type result → IsColonResult (colon ∷ type ∷ []) result

data LeavesOutColonResult : List Token → Kind → Type 0 where
  behind_colon_out : (colon type : Token) (rest : List Token) (k : Kind) →
      is_sign (codes ":") colon ≡ true → LeavesOutResult type rest k → LeavesOutColonResult (colon ∷ type ∷ rest) k

-- the name of a function, a colon and the type
pub data IsFunction : List Token → RawName × Option ElemType → Type 0 where
  function : (names : List Token) (colon type : Token) (name : RawName) (result : Option ElemType) → IsName (codes "FC") names name
      → is_sign (codes ":") colon ≡ true → IsResult type result → IsFunction (names ++ (colon ∷ type ∷ [])) (name, result)

pub data LeavesOutFunction : List Token → Kind → Type 0 where
  function_left_out : (names : List Token) (colon type : Token) (rest : List Token) (name : RawName) (k : Kind) → IsName (codes "FC") names name
      → is_sign (codes ":") colon ≡ true → LeavesOutResult type rest k → LeavesOutFunction (names ++ (colon ∷ type ∷ rest)) k

-- the type that is read behind the name
abbrev behind_name : RawName → List Token → Read (RawName × Option ElemType)
behind_name name rest = read_as (λ result. (name, result)) (result_behind rest)

-- From what is read to its form

one_front : (tokens : List Token) → FrontOf tokens IsOne (result_at tokens)
one_front [] = tt
one_front (word ∷ rest) = by (elementary_type word) refl (result_kind word rest)
  where
    made : (result : Option ElemType) → IsResult word result → FrontOf (word ∷ rest) IsOne (read.Fits result 1)
    made result is = record { front = word ∷ []; rest = rest; is = refl; size_is = refl; holds = one word result is }

    void : (v : Bool) → is_word (codes "VOID") word ≡ v → (k : Option Kind)
        → FrontOf (word ∷ rest) IsOne (result_read (if v then Some None else None) k)
    void true is k = made None (no_result word is)
    void false is None = tt
    void false is (Some k) = tt

    by : (e : Option ElemType) → elementary_type word ≡ e → (k : Option Kind) → FrontOf (word ∷ rest) IsOne (result_read (result_or e word) k)
    by (Some type) e k = made (Some type) (elementary_result word type (elementary_word word type e))
    by None e k = void (is_word (codes "VOID") word) refl k

behind_front : (tokens : List Token) → FrontOf tokens IsColonResult (result_behind tokens)
behind_front [] = tt
behind_front (colon ∷ rest) = by (is_sign (codes ":") colon) refl
  where
    made : is_sign (codes ":") colon ≡ true → (more : List Token) (result : Option ElemType) → IsOne more result → IsColonResult (colon ∷ more) result
    made sign more result (one word its is) = behind_colon colon word its sign is

    by : (b : Bool) → is_sign (codes ":") colon ≡ b → FrontOf (colon ∷ rest) IsColonResult (if b then further 1 (result_at rest) else read.No)
    by false sign = tt
    by true sign =
        further_front (colon ∷ []) rest IsColonResult (result_at rest)
        (refined rest IsOne (λ more result. IsColonResult (colon ∷ more) result) (λ more left result at is. made sign more result is)
        (result_at rest) (one_front rest))

pub function_front : (tokens : List Token) → FrontOf tokens IsFunction (function_at tokens)
function_front tokens =
    and_then_front tokens (IsName (codes "FC")) IsFunction (name_at (codes "FC") tokens) behind_name (name_front (codes "FC") tokens)
    (λ front rest name is.
    as_front rest (λ result. (name, result)) IsColonResult (λ more its. IsFunction (front ++ more) its)
    (λ more left result split colon. made front more name result is colon) (result_behind rest) (behind_front rest))
  where
    made : (front more : List Token) (name : RawName) (result : Option ElemType) → IsName (codes "FC") front name → IsColonResult more result
        → IsFunction (front ++ more) (name, result)
    made front more name result is (behind_colon colon type its sign its_is) = function front colon type name its is sign its_is

-- From what is left out to its form

one_out_of : (tokens : List Token) → OutOf (λ k. LeavesOutOne tokens k) (result_at tokens)
one_out_of [] = tt
one_out_of (word ∷ rest) = by (elementary_type word)
  where
    typed : (o : Option Kind) → LeftKind word rest o → OutOf {A = Option ElemType} (λ k. LeavesOutOne (word ∷ rest) k) (result_read None o)
    typed None is = tt
    typed (Some k) is = one_out word rest k (other_result word rest k is)

    dated : (d : Bool) → is_word (codes "DATE_AND_TIME") word ≡ d →
        OutOf {A = Option ElemType} (λ k. LeavesOutOne (word ∷ rest) k) (result_read None (if d then Some kind.DateTime else type_kind word rest))
    dated true is = one_out word rest kind.DateTime (date_result word rest is)
    dated false is = typed (type_kind word rest) (kind_is word rest)

    void : (v : Bool) → OutOf {A = Option ElemType} (λ k. LeavesOutOne (word ∷ rest) k) (result_read (if v then Some None else None) (result_kind word rest))
    void true = tt
    void false = dated (is_word (codes "DATE_AND_TIME") word) refl

    by : (e : Option ElemType) → OutOf {A = Option ElemType} (λ k. LeavesOutOne (word ∷ rest) k) (result_read (result_or e word) (result_kind word rest))
    by (Some type) = tt
    by None = void (is_word (codes "VOID") word)

behind_out_of : (tokens : List Token) → OutOf (λ k. LeavesOutColonResult tokens k) (result_behind tokens)
behind_out_of [] = tt
behind_out_of (colon ∷ rest) = by (is_sign (codes ":") colon) refl
  where
    moved : is_sign (codes ":") colon ≡ true → (tokens : List Token) (k : Kind) → LeavesOutOne tokens k → LeavesOutColonResult (colon ∷ tokens) k
    moved sign tokens k (one_out word more its out) = behind_colon_out colon word more its sign out

    by : (b : Bool) → is_sign (codes ":") colon ≡ b →
        OutOf {A = Option ElemType} (λ k. LeavesOutColonResult (colon ∷ rest) k) (if b then further 1 (result_at rest) else read.No)
    by false sign = tt
    by true sign =
        further_out (λ k. LeavesOutColonResult (colon ∷ rest) k) 1 (result_at rest)
        (weaker_out (λ k. LeavesOutOne rest k) (λ k. LeavesOutColonResult (colon ∷ rest) k) (λ k out. moved sign rest k out) (result_at rest) (one_out_of rest))

pub name_out : (Q : Kind → Type 0) (letters : List ℕ) (tokens : List Token) → OutOf Q (name_at letters tokens)
name_out Q letters [] = tt
name_out Q letters (first ∷ rest) = by (is_quoted_kind first.kind) (is_word letters first)
  where
    by : (q w : Bool) → OutOf Q (if q then read.Fits (Name first.text) 1
        else if w then fitting 2 (option_map Number (number_behind rest)) else fitting 1 (option_map Number (number_within letters first)))
    by true w = tt
    by false true = fitting_out Q 2 (option_map Number (number_behind rest))
    by false false = fitting_out Q 1 (option_map Number (number_within letters first))

pub function_out : (tokens : List Token) → OutOf (λ k. LeavesOutFunction tokens k) (function_at tokens)
function_out tokens =
    and_then_out tokens (IsName (codes "FC")) (λ k. LeavesOutFunction tokens k) (name_at (codes "FC") tokens) behind_name (name_front (codes "FC") tokens)
    (name_out (λ k. LeavesOutFunction tokens k) (codes "FC") tokens)
    (λ front rest name at is.
    subst (λ (ts : List Token). OutOf (λ k. LeavesOutFunction ts k) (behind_name name rest)) at
    (as_out (λ k. LeavesOutFunction (front ++ rest) k) (λ result. (name, result)) (result_behind rest)
    (weaker_out (λ k. LeavesOutColonResult rest k) (λ k. LeavesOutFunction (front ++ rest) k) (λ k out. moved front rest name k is out)
    (result_behind rest) (behind_out_of rest))))
  where
    moved : (front rest : List Token) (name : RawName) (k : Kind) → IsName (codes "FC") front name → LeavesOutColonResult rest k
        → LeavesOutFunction (front ++ rest) k
    moved front rest name k is (behind_colon_out colon type more its sign out) = function_left_out front colon type more name its is sign out

-- From a form to what is read of it, by the letters of the type

abbrev or_void : Option ElemType → Bool → Option (Option ElemType)
or_void (Some type) v = Some (Some type)
or_void None v = if v then Some None else None

or_void_is : (e : Option ElemType) (word : Token) → result_or e word ≡ or_void e (is_word (codes "VOID") word)
or_void_is (Some type) word = refl
or_void_is None word = refl

abbrev result_by : Bool → List ℕ → Bool → Read (Option ElemType)
result_by k low user =
    result_read (or_void (option_or (small_by k low) (wide_by k low)) (is_spelt k low (codes "VOID")))
    (if is_spelt k low (codes "DATE_AND_TIME") then Some kind.DateTime else kind_by k low user)

result_is : (word : Token) (rest : List Token)
    → result_at (word ∷ rest) ≡ result_by (is_word_kind word.kind) (str_to_ascii_lowercase word.text) (is_user_type word rest)
result_is word rest = ap (λ (o : Option (Option ElemType)). result_read o (result_kind word rest)) (or_void_is (elementary_type word) word)

-- what is read at these letters
abbrev Reads : Read (Option ElemType) → Bool → List ℕ → Bool → Type 0
Reads r k low user = result_by k low user ≡ r

by_letters : (word : Token) (rest : List Token) (text : List ℕ) (r : Read (Option ElemType)) → is_word text word ≡ true
    → Reads r true (str_to_ascii_lowercase text) (is_user_type word rest) → result_at (word ∷ rest) ≡ r
by_letters word rest text r is reads = result_is word rest ∙ at_letters (Reads r) word (is_user_type word rest) text is reads

by_table : (word : Token) (rest : List Token) (table : List (List ℕ)) (r : Read (Option ElemType)) → is_word_among table word ≡ true
    → ((entry : List ℕ) → IsAmong entry table → Reads r true (str_to_ascii_lowercase entry) (is_user_type word rest)) → result_at (word ∷ rest) ≡ r
by_table word rest table r is reads = result_is word rest ∙ among_at (Reads r) word (is_user_type word rest) table is reads

elementary_reads : (type : ElemType) (user : Bool) → Reads (read.Fits (Some type) 1) true (str_to_ascii_lowercase (elem_word type)) user
elementary_reads elem.Bool user = refl
elementary_reads elem.Byte user = refl
elementary_reads elem.Char user = refl
elementary_reads elem.Word user = refl
elementary_reads elem.Int user = refl
elementary_reads elem.Dword user = refl
elementary_reads elem.Dint user = refl

result_read_of : (word : Token) (result : Option ElemType) → IsResult word result → (rest : List Token) → result_at (word ∷ rest) ≡ read.Fits result 1
result_read_of word result (no_result its is) rest = by_letters its rest (codes "VOID") (read.Fits None 1) is refl
result_read_of word result (elementary_result its type is) rest =
    by_letters its rest (elem_word type) (read.Fits (Some type) 1) is (elementary_reads type (is_user_type its rest))

abbrev Left : Kind → Bool → List ℕ → Type 0
Left k user entry = Reads (read.LeftOut k) true (str_to_ascii_lowercase entry) user

pointers_left : (user : Bool) (entry : List ℕ) → IsAmong entry pointer_types → Left kind.PointerType user entry
pointers_left user entry (inl e) = subst (Left kind.PointerType user) (sym e) refl
pointers_left user entry (inr (inl e)) = subst (Left kind.PointerType user) (sym e) refl
pointers_left user entry (inr (inr (inl e))) = subst (Left kind.PointerType user) (sym e) refl
pointers_left user entry (inr (inr (inr (inl e)))) = subst (Left kind.PointerType user) (sym e) refl
pointers_left user entry (inr (inr (inr (inr (inl e))))) = subst (Left kind.PointerType user) (sym e) refl
pointers_left user entry (inr (inr (inr (inr (inr (inl e)))))) = subst (Left kind.PointerType user) (sym e) refl
pointers_left user entry (inr (inr (inr (inr (inr (inr (inl e))))))) = subst (Left kind.PointerType user) (sym e) refl
pointers_left user entry (inr (inr (inr (inr (inr (inr (inr (inl e)))))))) = subst (Left kind.PointerType user) (sym e) refl
pointers_left user entry (inr (inr (inr (inr (inr (inr (inr (inr none)))))))) = elim none [ ]

times_left : (user : Bool) (entry : List ℕ) → IsAmong entry time_types → Left kind.DateTime user entry
times_left user entry (inl e) = subst (Left kind.DateTime user) (sym e) refl
times_left user entry (inr (inl e)) = subst (Left kind.DateTime user) (sym e) refl
times_left user entry (inr (inr (inl e))) = subst (Left kind.DateTime user) (sym e) refl
times_left user entry (inr (inr (inr (inl e)))) = subst (Left kind.DateTime user) (sym e) refl
times_left user entry (inr (inr (inr (inr none)))) = elim none [ ]

user_reads : (tail : List ℕ) → Reads (read.LeftOut kind.UserType) true (117 ∷ tail) true
user_reads tail = refl

kind_left : (word : Token) (rest : List Token) (k : Kind) → IsLeftOut word rest k → result_at (word ∷ rest) ≡ read.LeftOut k
kind_left word rest k (declared.real w ts is) = by_letters w ts (codes "REAL") (read.LeftOut kind.Real) is refl
kind_left word rest k (declared.pointer w ts is) =
    by_table w ts pointer_types (read.LeftOut kind.PointerType) is (pointers_left (is_user_type w ts))
kind_left word rest k (declared.string w ts is) = by_letters w ts (codes "STRING") (read.LeftOut kind.StringType) is refl
kind_left word rest k (declared.time w ts is) = by_table w ts time_types (read.LeftOut kind.DateTime) is (times_left (is_user_type w ts))
kind_left word rest k (declared.user w ts is) =
    let s = user_starts w ts is in
    let r : Read (Option ElemType) = read.LeftOut kind.UserType in
    result_is w ts
    ∙ subst (λ (it : Bool). Reads r it (str_to_ascii_lowercase w.text) (is_user_type w ts)) (sym s.kind_is)
    (subst (λ (low : List ℕ). Reads r true low (is_user_type w ts)) (sym s.low_is)
    (subst (λ (it : Bool). Reads r true (117 ∷ s.tail) it) (sym is) (user_reads s.tail)))

result_left : (word : Token) (rest : List Token) (k : Kind) → LeavesOutResult word rest k → result_at (word ∷ rest) ≡ read.LeftOut k
result_left word rest k (date_result w ts is) = by_letters w ts (codes "DATE_AND_TIME") (read.LeftOut kind.DateTime) is refl
result_left word rest k (other_result w ts its is) = kind_left w ts its is

-- the heading of a function, and the line of its last token

pub function_read : (names : List Token) (colon type : Token) (name : RawName) (result : Option ElemType) → IsName (codes "FC") names name
    → is_sign (codes ":") colon ≡ true → IsResult type result → (rest : List Token)
    → function_at (names ++ (colon ∷ type ∷ rest)) ≡ read.Fits (name, result) (length names + 2)
function_read names colon type name result is sign of rest =
    and_then_read names (colon ∷ type ∷ rest) (name_at (codes "FC") (names ++ (colon ∷ type ∷ rest))) name behind_name
    (name_read (codes "FC") names name is (colon ∷ type ∷ rest))
    ∙ ap (λ (r : Read (Option ElemType)). further (length names) (read_as (λ its. (name, its)) r))
    (if_true (is_sign (codes ":") colon) _ _ sign ∙ ap (further 1) (result_read_of type result of rest))

pub function_left : (tokens : List Token) (k : Kind) → LeavesOutFunction tokens k → function_at tokens ≡ read.LeftOut k
function_left tokens k (function_left_out names colon type rest name its is sign out) =
    and_then_read names (colon ∷ type ∷ rest) (name_at (codes "FC") (names ++ (colon ∷ type ∷ rest))) name behind_name
    (name_read (codes "FC") names name is (colon ∷ type ∷ rest))
    ∙ ap (λ (r : Read (Option ElemType)). further (length names) (read_as (λ result. (name, result)) r))
    (if_true (is_sign (codes ":") colon) _ _ sign ∙ ap (further 1) (result_left type rest its out))

pub function_line : (line : Line) (names : List Token) (colon type : Token) (name : RawName) → IsName (codes "FC") names name → (rest : List Token)
    → line_of line (drop (length names + 2 - 1) (names ++ (colon ∷ type ∷ rest))) ≡ type.line
function_line line names colon type name (quoted its word is) rest = refl
function_line line names colon type name (apart its word number n no_quotes is found) rest = refl
function_line line names colon type name (together its word n no_quotes no_word numbered found) rest = refl
