-- Why an item is refused is what its forms say.
use Rattle.std.proofs.Common.{◌≡◌, ℕ, Bool, true, false, if◌then◌else◌, List, [], ◌∷◌, ◌++◌, Option, Some, None, refl, sym, ap, subst, ◌∙◌, arith}
use Rattle.std.specs.Prelude.{codes}
use Rattle.s7_base.specs.Tokens.{is_same_word}
use Rattle.s7_base.specs.declared.reason.Kind.{Kind}
use Rattle.s7_base.specs.declared.reason.Kind.TheVariants.{SystemCall, UserType}
use Rattle.s7_base.specs.declared.reason.Line.{Line}
use Rattle.s7_base.specs.declared.reason.Reason.{Reason}
use Rattle.s7_base.specs.declared.reason.Reason.TheVariants.{BadStatement, Unsupported}
use Rattle.s7_base.specs.declared.token.Token.{Token}
use Rattle.stl_constants.proofs.Reading.{if_false, if_true, other_word}
use Rattle.source_laws.proofs.DeclarationLaws.{declaration_left, declaration_out}
use Rattle.source_laws.proofs.FunctionLaws.{LeavesOutFunction, function_left, function_left_out}
use Rattle.source_laws.proofs.InitialLaws.{ending_left, ending_out, initial_left, initial_out}
use Rattle.stl_places.proofs.BlockNameLaws.{Starts, number_starts, other_start}
use Rattle.stl_places.proofs.Outs.{OutOf}
use Rattle.stl_grammar.specs.DeclarationForms.{LeavesOutDeclaration}
use Rattle.stl_grammar.specs.Declarations.{declaration_at, ends_level, is_user_type, left_of}
use Rattle.stl_grammar.specs.Grammar.{MayOpen, LeavesOutForm}
use Rattle.stl_grammar.specs.Grammar as form
use Rattle.stl_grammar.specs.Headings.{function_at, heading_kind}
use Rattle.stl_grammar.specs.InitialForms.{LeavesOutEnding, LeavesOutInitial}
use Rattle.stl_grammar.specs.Initials.{ending_at, path_value_at}
use Rattle.stl_grammar.specs.Items.{behind_reason, data_reason, heading_reason, is_complete, read_reason}
use Rattle.stl_grammar.specs.declared.declaration.Level.{Level}
use Rattle.stl_grammar.specs.declared.declaration.Section.{Section}
use Rattle.stl_grammar.specs.declared.declaration.Written.{Written}
use Rattle.stl_grammar.specs.declared.item.Where.{Where}
use Rattle.stl_grammar.specs.declared.item.Where.TheVariants.{Start, Table, Between, Heading, Inside, Behind, Body, Values}
use Rattle.stl_statement_grammar.specs.BlockNames.{has_number}
use Rattle.stl_statement_grammar.specs.Words.{is_word}
use Rattle.stl_statement_grammar.specs.declared.mnemonic.Read.{Read}
use Rattle.stl_statement_grammar.specs.declared.mnemonic.Read.TheVariants as read
use Rattle.stl_tree.specs.declared.raw.BlockKind.{BlockKind}
use Rattle.stl_tree.specs.declared.raw.BlockKind.TheVariants as block
use Rattle.stl_tree.specs.declared.raw.ElemType.{ElemType}
use Rattle.stl_tree.specs.declared.raw.InitialItem.{InitialItem}
use Rattle.stl_tree.specs.declared.raw.RawInitial.{RawInitial}
use Rattle.stl_tree.specs.declared.raw.RawName.{RawName}

-- What is said at each place

-- why a function's heading is refused, and why what begins where a block may open is
abbrev pub function_reason : Read (RawName × Option ElemType) → Reason
function_reason read.No = BadStatement
function_reason (read.LeftOut kind) = Unsupported kind
function_reason (read.Fits its size) = BadStatement

abbrev pub opening_reason : List Token → Reason
opening_reason [] = BadStatement
opening_reason (first ∷ rest) =
    if is_word (codes "FUNCTION") first then function_reason (function_at rest) else heading_reason (first ∷ rest)

-- why an item is refused that begins with the word that ends the innermost STRUCT or the section
abbrev pub closing_reason : BlockKind → Section → List Level → List Token → List Token → Reason
closing_reason kind section [] tokens rest = BadStatement
closing_reason kind section (level ∷ levels) tokens rest =
    read_reason tokens (ending_at kind section level.in_array rest)

-- why an item is refused among declarations
abbrev pub inside_reason : BlockKind → Section → List Level → List Token → Reason
inside_reason kind section levels [] = BadStatement
inside_reason kind section levels (first ∷ rest) =
    if ends_level section levels first
    then closing_reason kind section levels (first ∷ rest) rest
    else read_reason (first ∷ rest) (declaration_at kind section (left_of levels) first rest)

-- why an item is refused among the initial values of a data block
abbrev pub value_reason : List Token → Reason
value_reason [] = BadStatement
value_reason (first ∷ rest) = read_reason (first ∷ rest) (path_value_at first.line (first ∷ rest))

-- why an item is refused at a place
abbrev pub misfit_reason : Where → List Token → Reason
misfit_reason Start tokens = opening_reason tokens
misfit_reason Between tokens = opening_reason tokens
misfit_reason (Heading block.Db line) tokens = data_reason tokens
misfit_reason (Inside kind section levels) tokens = inside_reason kind section levels tokens
misfit_reason Values tokens = value_reason tokens
misfit_reason elsewhere tokens = BadStatement

-- Words with numbers

sfb_starts : (word : Token) (rest : List Token) → has_number (codes "SFB") word rest ≡ true → Starts 115 word
sfb_starts word rest h = number_starts (codes "SFB") 115 (102 ∷ 98 ∷ []) word rest refl h

no_user_type : (first : Token) (rest : List Token) → Starts 115 first → is_user_type first rest ≡ false
no_user_type first rest starts =
    other_start (codes "UDT") 115 117 (100 ∷ 116 ∷ []) first rest refl (λ (same : 115 ≡ 117). omega (arith, same)) starts

-- From a form that is left out to the reason

type_says : (place : Where) (first : Token) (rest : List Token) → MayOpen place
    → is_word (codes "TYPE") first ≡ true → misfit_reason place (first ∷ rest) ≡ Unsupported UserType
type_says place first rest may word = by place may
  where
    reason : opening_reason (first ∷ rest) ≡ Unsupported UserType
    reason =
        if_false (is_word (codes "FUNCTION") first) _ _ (other_word (codes "TYPE") (codes "FUNCTION") first word refl)
        ∙ if_true (is_word (codes "TYPE") first) _ _ word

    by : (place : Where) → MayOpen place → misfit_reason place (first ∷ rest) ≡ Unsupported UserType
    by Start may = reason
    by (Table line) may = absurd may
    by Between may = reason
    by (Heading kind line) may = absurd may
    by (Inside kind section levels) may = absurd may
    by (Behind kind section) may = absurd may
    by (Body kind) may = absurd may
    by Values may = absurd may

function_says : (place : Where) (first : Token) (tokens : List Token) (k : Kind) → MayOpen place
    → is_word (codes "FUNCTION") first ≡ true → LeavesOutFunction tokens k → misfit_reason place (first ∷ tokens) ≡ Unsupported k
function_says place first tokens k may word out = by place may
  where
    reason : opening_reason (first ∷ tokens) ≡ Unsupported k
    reason = if_true (is_word (codes "FUNCTION") first) _ _ word ∙ ap function_reason (function_left tokens k out)

    by : (place : Where) → MayOpen place → misfit_reason place (first ∷ tokens) ≡ Unsupported k
    by Start may = reason
    by (Table line) may = absurd may
    by Between may = reason
    by (Heading kind line) may = absurd may
    by (Inside kind section levels) may = absurd may
    by (Behind kind section) may = absurd may
    by (Body kind) may = absurd may
    by Values may = absurd may

tokens_say : (place : Where) (tokens : List Token) (k : Kind) → LeavesOutForm place tokens k → misfit_reason place tokens ≡ Unsupported k
tokens_say place tokens k (form.user_type its first rest may word) = type_says its first rest may word
tokens_say place tokens k (form.function_of_a_type its first names colon type rest name its_kind may word is sign out) =
    function_says its first (names ++ (colon ∷ type ∷ rest)) its_kind may word (function_left_out names colon type rest name its_kind is sign out)
tokens_say place tokens k (form.data_of_a_type line first rest is) = if_true (is_user_type first rest) _ _ is
tokens_say place tokens k (form.data_of_the_system line first rest is) =
    if_false (is_user_type first rest) _ _ (no_user_type first rest (sfb_starts first rest is))
    ∙ if_true (has_number (codes "SFB") first rest) _ _ is
tokens_say place tokens k (form.in_a_declaration kind part levels name rest its no_end out complete) =
    if_false (ends_level part levels name) _ _ no_end
    ∙ ap (λ (r : Read Written). read_reason (name ∷ rest) r) (declaration_left kind part (left_of levels) name rest its out)
    ∙ if_true (is_complete (name ∷ rest)) _ _ complete
tokens_say place tokens k (form.at_a_struct_end kind part level levels first rest its word out complete) =
    if_true (is_word (codes "END_STRUCT") first) _ _ word
    ∙ ap (λ (r : Read (List InitialItem)). read_reason (first ∷ rest) r) (ending_left kind part level.in_array rest its out)
    ∙ if_true (is_complete (first ∷ rest)) _ _ complete
tokens_say place tokens k (form.in_a_value first rest its out complete) =
    ap (λ (r : Read RawInitial). read_reason (first ∷ rest) r) (initial_left first.line (first ∷ rest) its out)
    ∙ if_true (is_complete (first ∷ rest)) _ _ complete

pub left_says : (place : Where) (first : Token) (rest : List Token) (k : Kind)
    → LeavesOutForm place (first ∷ rest) k → misfit_reason place (first ∷ rest) ≡ Unsupported k
left_says place first rest k out = tokens_say place (first ∷ rest) k out

-- Where nothing is left out

abbrev pub NoneLeft : Where → Token → List Token → Type 0
NoneLeft place first rest = (k : Kind) → LeavesOutForm place (first ∷ rest) k → ⊥

-- why an item without a form is refused: it has one that is left out, or there is none
pub data Says (place : Where) (first : Token) (rest : List Token) : Reason → Type 0 where
  by_left : (k : Kind) → LeavesOutForm place (first ∷ rest) k → Says place first rest (Unsupported k)
  by_plain : NoneLeft place first rest → Says place first rest BadStatement

-- where something else is said nothing is left out
pub plain_says : (place : Where) (first : Token) (rest : List Token) → misfit_reason place (first ∷ rest) ≡ BadStatement → NoneLeft place first rest
plain_says place first rest is k out = let apart : BadStatement ≡ Unsupported k = sym is ∙ left_says place first rest k out in absurd cc

pub choose : {A : Type 0} (R : A → Type 0) (b : Bool) (x y : A) → (b ≡ true → R x) → (b ≡ false → R y) → R (if b then x else y)
choose R true x y f g = f refl
choose R false x y f g = g refl

pub no_left_body : (kind : BlockKind) (first : Token) (rest : List Token) (k : Kind) → LeavesOutForm (Body kind) (first ∷ rest) k → ⊥
no_left_body kind first rest k out = plain_says (Body kind) first rest refl k out

-- where a block may open, with no heading of a function

plain_open : (place : Where) (first : Token) (rest : List Token) → MayOpen place → opening_reason (first ∷ rest) ≡ BadStatement → NoneLeft place first rest
plain_open Start first rest may is = plain_says Start first rest is
plain_open (Table line) first rest may is = absurd may
plain_open Between first rest may is = plain_says Between first rest is
plain_open (Heading kind line) first rest may is = absurd may
plain_open (Inside kind section levels) first rest may is = absurd may
plain_open (Behind kind section) first rest may is = absurd may
plain_open (Body kind) first rest may is = absurd may
plain_open Values first rest may is = absurd may

pub other_says : (place : Where) (first : Token) (rest : List Token) → MayOpen place → is_word (codes "FUNCTION") first ≡ false →
    Says place first rest (heading_reason (first ∷ rest))
other_says place first rest may no_function =
    choose (Says place first rest) (is_word (codes "TYPE") first) (Unsupported UserType) BadStatement
    (λ word. by_left UserType (form.user_type place first rest may word))
    (λ no_word. by_plain (plain_open place first rest may
    (if_false (is_word (codes "FUNCTION") first) _ _ no_function ∙ if_false (is_word (codes "TYPE") first) _ _ no_word)))

-- a heading of another kind

pub record Opening (first : Token) : Type 0 where
  pub word : List ℕ
  pub is : is_word word first ≡ true
  pub no_type : is_same_word (codes "TYPE") word ≡ false
  pub no_function : is_same_word (codes "FUNCTION") word ≡ false

pub opening_of : (first : Token) (kind : BlockKind) → heading_kind first ≡ Some kind → Opening first
opening_of first kind e =
    by (is_word (codes "ORGANIZATION_BLOCK") first) refl (is_word (codes "FUNCTION_BLOCK") first) refl (is_word (codes "DATA_BLOCK") first) refl e
  where
    by : (a : Bool) → is_word (codes "ORGANIZATION_BLOCK") first ≡ a → (b : Bool) → is_word (codes "FUNCTION_BLOCK") first ≡ b
        → (c : Bool) → is_word (codes "DATA_BLOCK") first ≡ c
        → (if a then Some block.Ob else if b then Some block.Fb else if c then Some block.Db else None) ≡ Some kind → Opening first
    by true is b is_b c is_c e = record { word = codes "ORGANIZATION_BLOCK"; is = is; no_type = refl; no_function = refl }
    by false no_a true is c is_c e = record { word = codes "FUNCTION_BLOCK"; is = is; no_type = refl; no_function = refl }
    by false no_a false no_b true is e = record { word = codes "DATA_BLOCK"; is = is; no_type = refl; no_function = refl }
    by false no_a false no_b false no_c e = absurd cc

pub heading_says : (place : Where) (first : Token) (rest : List Token) → MayOpen place → Opening first → Says place first rest BadStatement
heading_says place first rest may o =
    by_plain (plain_open place first rest may
    (if_false (is_word (codes "FUNCTION") first) _ _ (other_word o.word (codes "FUNCTION") first o.is o.no_function)
    ∙ if_false (is_word (codes "TYPE") first) _ _ (other_word o.word (codes "TYPE") first o.is o.no_type)))

-- the heading of a function

pub function_plain : (place : Where) (first : Token) (rest : List Token) → MayOpen place → is_word (codes "FUNCTION") first ≡ true
    → function_at rest ≡ read.No → Says place first rest BadStatement
function_plain place first rest may word none =
    by_plain (plain_open place first rest may (if_true (is_word (codes "FUNCTION") first) _ _ word ∙ ap function_reason none))

pub function_left_says : (place : Where) (first : Token) (rest : List Token) (k : Kind) → MayOpen place → is_word (codes "FUNCTION") first ≡ true
    → LeavesOutFunction rest k → Says place first rest (Unsupported k)
function_left_says place first rest k may word (function_left_out names colon type more name its is sign out) =
    by_left its (form.function_of_a_type place first names colon type more name its may word is sign out)

-- behind the heading of a data block

data_says : (line : Line) (first : Token) (rest : List Token) → Says (Heading block.Db line) first rest (data_reason (first ∷ rest))
data_says line first rest =
    let R : Reason → Type 0 = Says (Heading block.Db line) first rest in
    choose R (is_user_type first rest) (Unsupported UserType) _ (λ user. by_left UserType (form.data_of_a_type line first rest user))
    (λ no_user. choose R (has_number (codes "SFB") first rest) (Unsupported SystemCall) BadStatement
    (λ system. by_left SystemCall (form.data_of_the_system line first rest system))
    (λ no_system. by_plain (plain_says (Heading block.Db line) first rest
    (if_false (is_user_type first rest) _ _ no_user ∙ if_false (has_number (codes "SFB") first rest) _ _ no_system))))

-- among declarations, by what was read

read_says : {A : Type 0} (place : Where) (first : Token) (rest : List Token) (r : Read A) → misfit_reason place (first ∷ rest) ≡ read_reason (first ∷ rest) r
    → ((k : Kind) → r ≡ read.LeftOut k → is_complete (first ∷ rest) ≡ true → LeavesOutForm place (first ∷ rest) k)
    → Says place first rest (read_reason (first ∷ rest) r)
read_says place first rest read.No is out = by_plain (plain_says place first rest is)
read_says place first rest (read.Fits a size) is out = by_plain (plain_says place first rest is)
read_says place first rest (read.LeftOut k) is out = by (is_complete (first ∷ rest)) refl is
  where
    by : (b : Bool) → is_complete (first ∷ rest) ≡ b → misfit_reason place (first ∷ rest) ≡ (if b then Unsupported k else BadStatement)
        → Says place first rest (if b then Unsupported k else BadStatement)
    by true complete is = by_left k (out k refl complete)
    by false cut is = by_plain (plain_says place first rest is)

-- what was left out is so
out_is : {A : Type 0} (Q : Kind → Type 0) (r : Read A) (k : Kind) → OutOf Q r → r ≡ read.LeftOut k → Q k
out_is Q r k out e = subst (λ (its : Read _). OutOf Q its) e out

struct_says : (kind : BlockKind) (section : Section) (level : Level) (levels : List Level) (first : Token) (rest : List Token)
    → is_word (codes "END_STRUCT") first ≡ true
    → Says (Inside kind section (level ∷ levels)) first rest (read_reason (first ∷ rest) (ending_at kind section level.in_array rest))
struct_says kind section level levels first rest word =
    read_says (Inside kind section (level ∷ levels)) first rest (ending_at kind section level.in_array rest)
    (if_true (is_word (codes "END_STRUCT") first) _ _ word)
    (λ k e complete. form.at_a_struct_end kind section level levels first rest k word
    (out_is (λ its. LeavesOutEnding kind section level.in_array rest its) (ending_at kind section level.in_array rest) k
    (ending_out kind section level.in_array rest) e) complete)

pub closing_says : (kind : BlockKind) (section : Section) (levels : List Level) (first : Token) (rest : List Token) → ends_level section levels first ≡ true →
    Says (Inside kind section levels) first rest (closing_reason kind section levels (first ∷ rest) rest)
closing_says kind section [] first rest ends =
    by_plain (plain_says (Inside kind section []) first rest (if_true (ends_level section [] first) _ _ ends))
closing_says kind section (level ∷ levels) first rest ends = struct_says kind section level levels first rest ends

pub declaration_says : (kind : BlockKind) (section : Section) (levels : List Level) (first : Token) (rest : List Token)
    → ends_level section levels first ≡ false
    → Says (Inside kind section levels) first rest (read_reason (first ∷ rest) (declaration_at kind section (left_of levels) first rest))
declaration_says kind section levels first rest no_end =
    read_says (Inside kind section levels) first rest (declaration_at kind section (left_of levels) first rest)
    (if_false (ends_level section levels first) _ _ no_end)
    (λ k e complete. form.in_a_declaration kind section levels first rest k no_end
    (out_is (λ its. LeavesOutDeclaration kind section (left_of levels) first rest its) (declaration_at kind section (left_of levels) first rest) k
    (declaration_out kind section (left_of levels) first rest) e) complete)

pub value_says : (first : Token) (rest : List Token) → Says Values first rest (read_reason (first ∷ rest) (path_value_at first.line (first ∷ rest)))
value_says first rest =
    read_says Values first rest (path_value_at first.line (first ∷ rest)) refl
    (λ k e complete. form.in_a_value first rest k
    (out_is (λ its. LeavesOutInitial (first ∷ rest) its) (path_value_at first.line (first ∷ rest)) k (initial_out first.line (first ∷ rest)) e) complete)

-- behind a heading

pub behind_says : (kind : BlockKind) (line : Line) (first : Token) (rest : List Token) → Says (Heading kind line) first rest (behind_reason kind (first ∷ rest))
behind_says block.Ob line first rest = by_plain (plain_says (Heading block.Ob line) first rest refl)
behind_says block.Fc line first rest = by_plain (plain_says (Heading block.Fc line) first rest refl)
behind_says block.Fb line first rest = by_plain (plain_says (Heading block.Fb line) first rest refl)
behind_says block.Db line first rest = data_says line first rest
