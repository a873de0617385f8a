-- What stands at a place of a text is what the forms of items say.
use Rattle.std.proofs.Common.{◌≡◌, ℕ, ◌+◌, ◌-◌, ◌<◌, ◌≤◌, Bool, true, false, not, ◌&&◌, List, [], ◌∷◌, ◌++◌, length, drop, Option, Some, None, Result, Ok, Err, refl, sym, ap, subst, ◌∙◌, arith, append_assoc, length-append}
use Rattle.std.proofs.lemmas.Bool.{and_from, and_parts, lt-ltb, ltb-true, not-true, or_parts}
use Rattle.std.specs.Prelude.{codes}
use Rattle.s7_base.specs.declared.reason.Kind.{Kind}
use Rattle.s7_base.specs.declared.reason.Line.{Line}
use Rattle.s7_base.specs.declared.reason.Reason.{Reason}
use Rattle.s7_base.specs.declared.reason.Rejection.{Rejection}
use Rattle.s7_base.specs.declared.reason.Rejection.TheVariants.{Refused, NoMemory}
use Rattle.s7_base.specs.declared.token.Token.{Token}
use Rattle.source_laws.proofs.StatementSizes.{Split, size_open, size_append, split_of, taken}
use Rattle.stl_grammar.specs.Grammar.{MayOpen, last_line, IsForm, heading, table, symbol, table_end, skipped_line, begin, first_section, section_end, data_end, struct_end, declaration, begin_behind, later_section, value, values_end, skipped_word, end_word, statement, has_statement, LeavesOutForm, HasNoForm, IsItem, form, left_out, no_instruction, none, at_start, in_a_table, behind_a_block, behind_a_heading, in_a_section, in_a_struct, behind_a_section, in_a_body, among_values, ItemsHaveForms, IsResult, function, instance}
use Rattle.source_laws.proofs.AddressLaws.{address_is, address_read}
use Rattle.source_laws.proofs.DeclarationLaws.{declaration_front, declaration_read}
use Rattle.source_laws.proofs.InitialLaws.{ending_front, ending_read, initial_front, initial_read, initial_some}
use Rattle.source_laws.proofs.SectionLaws.{OpensHere, no_begin_word, section_is, section_no_block, section_read}
use Rattle.stl_grammar.specs.Sections.{is_own, may_open, section_at, section_word}
use Rattle.stl_grammar.specs.declared.declaration.Section.{Section}
use Rattle.stl_grammar.specs.declared.declaration.Section.TheVariants as part
use Rattle.source_laws.proofs.MisfitLaws.{Says, by_left, by_plain, behind_says, choose, closing_says, declaration_says, function_left_says, function_plain, heading_says, left_says, no_left_body, opening_of, other_says, plain_says, value_says}
use Rattle.stl_grammar.specs.DeclarationForms.{IsDeclaration}
use Rattle.stl_grammar.specs.InitialForms.{IsEnding, IsInitial}
use Rattle.stl_places.proofs.Fronts.{FrontOf}
use Rattle.stl_grammar.specs.Declarations.{declaration_at, ends_level, left_of, levels_behind}
use Rattle.stl_grammar.specs.Initials.{ending_at, path_value_at}
use Rattle.stl_grammar.specs.declared.declaration.Level.{Level}
use Rattle.stl_grammar.specs.declared.declaration.Written.{Written}
use Rattle.s7_base.specs.declared.reason.Reason.TheVariants.{BadStatement, Unsupported}
use Rattle.stl_grammar.specs.Headings.{block_heading, function_at, function_heading, heading_kind, is_behind, is_skipped, line_of, opened_by}
use Rattle.stl_grammar.specs.Items.{begins_body, behind_at, closing_at, declaration_found, is_data, read_reason, section_end_found, section_found, struct_found, value_found, values_at, inside_at, level_line, misfit_line, is_semicolon, is_skipped_alone, is_end, statement_size, statement_at, is_complete, table_at, symbol_found, in_table, behind_heading, statement_found, statement_from, body_at, at_token, item_at, behind_reason, data_reason, instance_found, instance_or}
use Rattle.stl_grammar.specs.Symbols.{address_of, ends_table, is_next, symbol_at, symbol_with, trimmed_field}
use Rattle.stl_statement_grammar.specs.BlockNames.{kind_word, name_at}
use Rattle.stl_statement_grammar.specs.Statements.{begins_with_label, instruction_from, on_line, statement as statement_said, instruction_of}
use Rattle.stl_statement_grammar.specs.Words.{is_word, is_quoted_kind, is_sign}
use Rattle.stl_statement_grammar.specs.declared.mnemonic.Read.{Read}
use Rattle.stl_statement_grammar.specs.declared.mnemonic.Read.TheVariants as read
use Rattle.stl_grammar.specs.declared.item.NextItem.{NextItem}
use Rattle.stl_grammar.specs.declared.item.NextItem.TheVariants.{Fits, Misfit}
use Rattle.stl_grammar.specs.declared.item.Item.{Item}
use Rattle.stl_grammar.specs.declared.item.Item.TheVariants.{Opens, Mark, Starts, Symbol, Declares, InstanceOf, Closes, Instr, Initial}
use Rattle.stl_grammar.specs.declared.item.Where.{Where}
use Rattle.stl_grammar.specs.declared.item.Where.TheVariants.{Start, Table, Between, Heading, Inside, Behind, Body, Values}
use Rattle.stl_tree.specs.declared.raw.BlockKind.{BlockKind}
use Rattle.stl_tree.specs.declared.raw.BlockKind.TheVariants as block
use Rattle.stl_tree.specs.declared.raw.InitialItem.{InitialItem}
use Rattle.stl_tree.specs.declared.raw.RawInitial.{RawInitial}
use Rattle.stl_tree.specs.declared.raw.RawInstr.{RawInstr}
use Rattle.stl_tree.specs.declared.raw.RawOp.{RawOp}
use Rattle.stl_tree.specs.declared.raw.RawName.{RawName}
use Rattle.stl_tree.specs.declared.raw.SymbolAddress.{SymbolAddress}
use Rattle.stl_tree.specs.declared.raw.SymbolLine.{SymbolLine}
use Rattle.source_laws.proofs.FunctionLaws.{IsFunction, LeavesOutFunction, function as is_function, function_front, function_line, function_out, function_read}
use Rattle.stl_statement_grammar.specs.CallForms.{IsName, apart, quoted, together}
use Rattle.stl_tree.specs.declared.raw.ElemType.{ElemType}
use Rattle.stl_places.proofs.BlockNameLaws.{name_front, name_read}
use Rattle.stl_places.proofs.Outs.{OutOf}
use Rattle.stl_constants.proofs.Reading.{if_false, if_true, other_word}
use Rattle.s7_base.specs.Tokens.{is_same_word}

-- From a form to what is found

-- the line of the last token of a name
name_line : {kind : List ℕ} {names : List Token} {name : RawName} (line : Line) (rest : List Token) → IsName kind names name →
    line_of line (drop (length names - 1) (names ++ rest)) ≡ last_line line names
name_line line rest (quoted kind word is) = refl
name_line line rest (apart kind word number n no_quotes is found) = refl
name_line line rest (together kind word n no_quotes no_word numbered found) = refl

opened_found : (kind : BlockKind) (other : NextItem) (first : Token) {names : List Token} {name : RawName} (rest : List Token)
    → heading_kind first ≡ Some kind → IsName (kind_word kind) names name
    → opened_by (heading_kind first) other first (names ++ rest)
    ≡ Fits (Opens first.line kind name None) (length names) (Heading kind (last_line first.line names))
opened_found kind other first {names = names} {name = name} rest is named =
    ap (λ (o : Option BlockKind). opened_by o other first (names ++ rest)) is
    ∙ ap (λ (r : Read RawName). block_heading kind first (names ++ rest) r) (name_read (kind_word kind) names name named rest)
    ∙ ap (λ (line : Line). Fits (Opens first.line kind name None) (length names) (Heading kind line)) (name_line first.line rest named)

heading_found : (end : Line) (place : Where) (kind : BlockKind) (first : Token) {names : List Token} {name : RawName} (rest : List Token)
    → MayOpen place → heading_kind first ≡ Some kind → IsName (kind_word kind) names name
    → item_at end place (first ∷ (names ++ rest)) ≡ Fits (Opens first.line kind name None) (length names) (Heading kind (last_line first.line names))
unfolding item_at
heading_found end Start kind first rest may is named = opened_found kind _ first rest is named
heading_found end (Table line) kind first rest may is named = absurd may
heading_found end Between kind first rest may is named = opened_found kind _ first rest is named
heading_found end (Heading other line) kind first rest may is named = absurd may
heading_found end (Inside other section levels) kind first rest may is named = absurd may
heading_found end (Behind other section) kind first rest may is named = absurd may
heading_found end (Body other) kind first rest may is named = absurd may
heading_found end Values kind first rest may is named = absurd may

-- a word that opens no other kind of block
no_kind : (first : Token) (word : List ℕ) → is_word word first ≡ true → is_same_word (codes "ORGANIZATION_BLOCK") word ≡ false
    → is_same_word (codes "FUNCTION_BLOCK") word ≡ false → is_same_word (codes "DATA_BLOCK") word ≡ false → heading_kind first ≡ None
no_kind first word is a b c =
    if_false (is_word (codes "ORGANIZATION_BLOCK") first) _ _ (other_word word (codes "ORGANIZATION_BLOCK") first is a)
    ∙ if_false (is_word (codes "FUNCTION_BLOCK") first) _ _ (other_word word (codes "FUNCTION_BLOCK") first is b)
    ∙ if_false (is_word (codes "DATA_BLOCK") first) _ _ (other_word word (codes "DATA_BLOCK") first is c)

function_opened : (other : NextItem) (first : Token) (names : List Token) (colon type : Token) (rest : List Token) (name : RawName)
    (result : Option ElemType) → is_word (codes "FUNCTION") first ≡ true → IsName (codes "FC") names name → is_sign (codes ":") colon ≡ true
    → IsResult type result
    → opened_by (heading_kind first) other first (names ++ (colon ∷ type ∷ rest))
    ≡ Fits (Opens first.line block.Fc name result) (length names + 2) (Heading block.Fc type.line)
function_opened other first names colon type rest name result word is sign of =
    ap (λ (o : Option BlockKind). opened_by o other first (names ++ (colon ∷ type ∷ rest))) (no_kind first (codes "FUNCTION") word refl refl refl)
    ∙ if_true (is_word (codes "FUNCTION") first) _ _ word
    ∙ ap (function_heading first (names ++ (colon ∷ type ∷ rest))) (function_read names colon type name result is sign of rest)
    ∙ ap (λ (line : Line). Fits (Opens first.line block.Fc name result) (length names + 2) (Heading block.Fc line))
    (function_line first.line names colon type name is rest)

function_found : (end : Line) (place : Where) (first : Token) (names : List Token) (colon type : Token) (rest : List Token) (name : RawName)
    (result : Option ElemType) → MayOpen place → is_word (codes "FUNCTION") first ≡ true → IsName (codes "FC") names name
    → is_sign (codes ":") colon ≡ true → IsResult type result
    → item_at end place (first ∷ (names ++ (colon ∷ type ∷ rest)))
    ≡ Fits (Opens first.line block.Fc name result) (length names + 2) (Heading block.Fc type.line)
unfolding item_at
function_found end Start first names colon type rest name result may word is sign of =
    function_opened _ first names colon type rest name result word is sign of
function_found end (Table line) first names colon type rest name result may word is sign of = absurd may
function_found end Between first names colon type rest name result may word is sign of =
    function_opened _ first names colon type rest name result word is sign of
function_found end (Heading other line) first names colon type rest name result may word is sign of = absurd may
function_found end (Inside other section levels) first names colon type rest name result may word is sign of = absurd may
function_found end (Behind other section) first names colon type rest name result may word is sign of = absurd may
function_found end (Body other) first names colon type rest name result may word is sign of = absurd may
function_found end Values first names colon type rest name result may word is sign of = absurd may

-- where no function block is named
no_instance : (kind : BlockKind) (tokens : List Token) (other : NextItem) → name_at (codes "FB") tokens ≡ read.No → instance_found kind tokens other ≡ other
no_instance block.Ob tokens other unnamed = refl
no_instance block.Fc tokens other unnamed = refl
no_instance block.Fb tokens other unnamed = refl
no_instance block.Db tokens other unnamed = ap (λ (r : Read RawName). instance_or r other) unnamed

section_ends : (kind : BlockKind) (its : Section) (first : Token) (rest : List Token) → is_own its ≡ false → is_word (codes "END_VAR") first ≡ true →
    inside_at kind its [] (first ∷ rest) first rest ≡ Fits Mark 0 (Behind kind its)
section_ends kind part.Own first rest no_own word = absurd cc
section_ends kind its first rest no_own word = if_true (is_word (codes "END_VAR") first) _ _ word

statement_read : (place : Where) (first : Token) (more : List Token) (sign : Token) (rest : List Token) (instr : RawInstr) →
    statement_size (first ∷ more) ≡ length (first ∷ more) → instruction_of (first ∷ more) ≡ Ok instr → is_semicolon sign ≡ true
    → statement_from place first.line (first ∷ (more ++ (sign ∷ rest))) ≡ Fits (Instr instr) (length (first ∷ more)) place
statement_read place first more sign rest instr whole is ends =
    let tokens = first ∷ (more ++ (sign ∷ rest)) in
    let size : statement_size tokens ≡ length (first ∷ more) = size_append (first ∷ more) sign rest whole ends in
    let enough : statement_size tokens < length tokens = omega (arith, size, length-append more (sign ∷ rest)) in
    let front : statement_at tokens ≡ first ∷ more = taken tokens (first ∷ more) sign rest (statement_size tokens) refl size in
    if_true (is_complete tokens) _ _ (lt-ltb _ _ enough)
    ∙ ap (λ (ts : List Token). statement_found place tokens first.line (instruction_of ts)) front
    ∙ ap (λ (r : Result RawInstr Rejection). statement_found place tokens first.line r) is
    ∙ ap (λ (n : ℕ). Fits (Instr instr) n place) size

form_found : (end : Line) (place next : Where) (tokens : List Token) (item : Item) (size : ℕ) → IsForm place tokens item size next →
    item_at end place tokens ≡ Fits item size next
unfolding item_at
form_found end place next tokens item size (heading its_place kind first rest may is named) = heading_found end its_place kind first rest may is named
form_found end place next tokens item size (function its_place first {names = names} colon type rest {name = name} {result = result} may word is sign of) =
    function_found end its_place first names colon type rest name result may word is sign of
form_found end place next tokens item size (table first rest word) =
    ap (λ (o : Option BlockKind). opened_by o (table_at (first ∷ rest) first) first rest) (no_kind first (codes "SYMBOL_TABLE") word refl refl refl)
    ∙ if_false (is_word (codes "FUNCTION") first) _ _ (other_word (codes "SYMBOL_TABLE") (codes "FUNCTION") first word refl)
    ∙ if_true (is_word (codes "SYMBOL_TABLE") first) _ _ word
form_found end place next tokens item size (symbol line name a its b type c comment rest address no_end behind quoted_name one two three is) =
    let behind_name = a ∷ its ∷ b ∷ type ∷ c ∷ comment ∷ rest in
    if_false (ends_table line name behind_name) _ _ no_end
    ∙ ap (λ (o : Option SymbolLine). symbol_found name o)
    (if_true (is_behind line name) _ _ behind
    ∙ if_true _ _ _ (and_from _ _ (and_from _ _ (and_from (is_quoted_kind name.kind) (is_next name.line a its) quoted_name one) two) three))
    ∙ ap (λ (found : SymbolAddress). Fits (Symbol (symbol_with name found)) 6 (Table name.line)) (address_read (trimmed_field its.text) address is)
form_found end place next tokens item size (table_end line first rest ends) = if_true (ends_table line first rest) _ _ ends
form_found end place next tokens item size (skipped_line kind line first rest is) = if_true (is_skipped line first rest) _ _ is
form_found end place next tokens item size (begin kind line first rest no_line no_data word) =
    if_false (is_skipped line first rest) _ _ no_line
    ∙ if_true (begins_body kind first) _ _ (and_from (not (is_data kind)) (is_word (codes "BEGIN") first) (ap not no_data) word)
form_found end place next tokens item size (first_section kind line its first rest no_line no_begin word may) =
    if_false (is_skipped line first rest) _ _ no_line ∙ if_false (begins_body kind first) _ _ no_begin
    ∙ no_instance kind (first ∷ rest) _ (section_no_block its first rest word)
    ∙ ap (λ (o : Option Section). section_found kind (behind_reason kind (first ∷ rest)) first o) (section_read kind None its first word may)
form_found end place next tokens item size (instance line first names rest name no_line is) =
    let size : length (first ∷ names) - 1 ≡ length names = omega arith in
    if_false (is_skipped line first (names ++ rest)) _ _ no_line
    ∙ ap (λ (r : Read RawName). instance_or r (section_found block.Db (data_reason (first ∷ (names ++ rest))) first (section_at block.Db None first)))
    (name_read (codes "FB") (first ∷ names) name is rest)
    ∙ ap (λ (n : ℕ). Fits (InstanceOf name) n (Behind block.Db part.Own)) size
form_found end place next tokens item size (section_end kind its first rest no_own word) = section_ends kind its first rest no_own word
form_found end place next tokens item size (data_end kind first sign rest word ends) =
    if_true (is_word (codes "END_STRUCT") first) _ _ word ∙ if_true (is_semicolon sign) _ _ ends
form_found end place next tokens item size (struct_end kind its level levels first front rest items word is) =
    if_true (is_word (codes "END_STRUCT") first) _ _ word
    ∙ ap (λ (found : Read (List InitialItem)). struct_found kind its level.line levels (first ∷ (front ++ rest)) found)
    (ending_read kind its level.in_array front items is rest)
form_found end place next tokens item size (declaration kind its levels name front rest type no_end is) =
    if_false (ends_level its levels name) _ _ no_end
    ∙ ap (λ (found : Read Written). declaration_found kind its levels (name ∷ (front ++ rest)) name found)
    (declaration_read kind its (left_of levels) name front type is rest)
form_found end place next tokens item size (begin_behind kind before first rest word) = if_true (is_word (codes "BEGIN") first) _ _ word
form_found end place next tokens item size (later_section kind before its first rest word may) =
    if_false (is_word (codes "BEGIN") first) _ _ (no_begin_word its first word)
    ∙ ap (λ (o : Option Section). section_found kind BadStatement first o)
    (section_read kind (Some before) its first word may)
form_found end place next tokens item size (value first front rest its no_end is) =
    let size : length (first ∷ front) - 1 ≡ length front = omega arith in
    if_false (is_end block.Db first) _ _ no_end
    ∙ ap (λ (found : Read RawInitial). value_found (first ∷ (front ++ rest)) first found) (initial_read first.line (first ∷ front) its is rest)
    ∙ ap (λ (n : ℕ). Fits (Initial its) n Values) size
form_found end place next tokens item size (values_end first rest word) = if_true (is_end block.Db first) _ _ word
form_found end place next tokens item size (skipped_word kind first rest is) = if_true (is_skipped_alone first) _ _ is
form_found end place next tokens item size (end_word kind first rest no_skip word) =
    if_false (is_skipped_alone first) _ _ no_skip ∙ if_true (is_end kind first) _ _ word
form_found end place next tokens item size (statement kind first more sign rest instr no_skip no_end whole is ends) =
    if_false (is_skipped_alone first) _ _ no_skip
    ∙ if_false (is_end kind first) _ _ no_end ∙ statement_read (Body kind) first more sign rest instr whole is ends

-- From what is found to a form

-- what is found at a place is a form, a misfit without a statement, or a statement that is no instruction
data Reads : Where → Token → List Token → NextItem → Type 0 where
  fits : {place next : Where} {first : Token} {rest : List Token} {item : Item} {size : ℕ} →
      IsForm place (first ∷ rest) item size next → Reads place first rest (Fits item size next)
  misses : (place : Where) (first : Token) (rest : List Token) {reason : Reason} →
      has_statement place (first ∷ rest) ≡ false → Says place first rest reason → Reads place first rest (Misfit (misfit_line place first) reason)
  refuses : (kind : BlockKind) (first : Token) (rest : List Token) (its_line : Line) (reason : Reason) →
      is_skipped_alone first ≡ false → is_end kind first ≡ false → is_complete (first ∷ rest) ≡ true
      → instruction_of (statement_at (first ∷ rest)) ≡ Err (Refused its_line reason)
      → Reads (Body kind) first rest (Misfit first.line reason)

-- headings

-- at these places an item that fits no form is refused on its own line, and none is a statement
missed_open : (place : Where) (first : Token) (rest : List Token) {reason : Reason} → MayOpen place → Says place first rest reason
    → Reads place first rest (Misfit first.line reason)
missed_open Start first rest may says = misses Start first rest refl says
missed_open (Table line) first rest may says = absurd may
missed_open Between first rest may says = misses Between first rest refl says
missed_open (Heading kind line) first rest may says = absurd may
missed_open (Inside kind section levels) first rest may says = absurd may
missed_open (Behind kind section) first rest may says = absurd may
missed_open (Body kind) first rest may says = absurd may
missed_open Values first rest may says = absurd may

opened_reads : (place : Where) (kind : BlockKind) (first : Token) (tokens : List Token) (found : Read RawName) → MayOpen place
    → heading_kind first ≡ Some kind → FrontOf tokens (IsName (kind_word kind)) found → Reads place first tokens (block_heading kind first tokens found)
opened_reads place kind first tokens read.No may is f = missed_open place first tokens may (heading_says place first tokens may (opening_of first kind is))
opened_reads place kind first tokens (read.LeftOut k) may is f =
    missed_open place first tokens may (heading_says place first tokens may (opening_of first kind is))
opened_reads place kind first tokens (read.Fits name size) may is f =
    let R : List Token → ℕ → Line → Type 0 = λ ts n line. Reads place first ts (Fits (Opens first.line kind name None) n (Heading kind line)) in
    let S : List Token → ℕ → Type 0 = λ ts n. R ts n (line_of first.line (drop (n - 1) ts)) in
    let whole : S (f.front ++ f.rest) (length f.front) =
    subst (R (f.front ++ f.rest) (length f.front)) (sym (name_line first.line f.rest f.holds)) (fits (heading place kind first f.rest may is f.holds)) in
    subst (λ (ts : List Token). S ts size) f.is (subst (λ (n : ℕ). S (f.front ++ f.rest) n) f.size_is whole)

-- the heading of a function

function_fits : (place : Where) (first : Token) (front rest : List Token) (its : RawName × Option ElemType) → MayOpen place
    → is_word (codes "FUNCTION") first ≡ true → IsFunction front its
    → Reads place first (front ++ rest) (function_heading first (front ++ rest) (read.Fits its (length front)))
function_fits place first front rest its may word (is_function names colon type name result is sign of) =
    let all = names ++ (colon ∷ type ∷ rest) in
    let split : (names ++ (colon ∷ type ∷ [])) ++ rest ≡ all = append_assoc names (colon ∷ type ∷ []) rest in
    let size : length names + 2 ≡ length (names ++ (colon ∷ type ∷ [])) = omega (arith, length-append names (colon ∷ type ∷ [])) in
    let R : Line → Type 0 = λ line. Reads place first all (Fits (Opens first.line block.Fc name result) (length names + 2) (Heading block.Fc line)) in
    let whole : Reads place first all (function_heading first all (read.Fits (name, result) (length names + 2))) =
    subst R (sym (function_line first.line names colon type name is rest)) (fits (function place first colon type rest may word is sign of)) in
    subst (λ (ts : List Token). Reads place first ts (function_heading first ts (read.Fits (name, result) (length (names ++ (colon ∷ type ∷ [])))))) (sym split)
    (subst (λ (n : ℕ). Reads place first all (function_heading first all (read.Fits (name, result) n))) size whole)

function_reads : (place : Where) (first : Token) (tokens : List Token) (found : Read (RawName × Option ElemType)) → MayOpen place
    → is_word (codes "FUNCTION") first ≡ true → function_at tokens ≡ found → FrontOf tokens IsFunction found
    → OutOf (λ k. LeavesOutFunction tokens k) found → Reads place first tokens (function_heading first tokens found)
function_reads place first tokens read.No may word e f out = missed_open place first tokens may (function_plain place first tokens may word e)
function_reads place first tokens (read.LeftOut k) may word e f out =
    missed_open place first tokens may (function_left_says place first tokens k may word out)
function_reads place first tokens (read.Fits its size) may word e f out =
    subst (λ (ts : List Token). Reads place first ts (function_heading first ts (read.Fits its size))) f.is
    (subst (λ (n : ℕ). Reads place first (f.front ++ f.rest) (function_heading first (f.front ++ f.rest) (read.Fits its n))) f.size_is
    (function_fits place first f.front f.rest its may word f.holds))

kind_reads : (place : Where) (other : NextItem) (first : Token) (rest : List Token) (o : Option BlockKind) → MayOpen place
    → heading_kind first ≡ o → (is_word (codes "FUNCTION") first ≡ false → Reads place first rest other) → Reads place first rest (opened_by o other first rest)
kind_reads place other first rest (Some kind) may is reads =
    opened_reads place kind first rest (name_at (kind_word kind) rest) may is (name_front (kind_word kind) rest)
kind_reads place other first rest None may is reads =
    choose (Reads place first rest) (is_word (codes "FUNCTION") first) _ other
    (λ word. function_reads place first rest (function_at rest) may word refl (function_front rest) (function_out rest)) (λ no_word. reads no_word)

-- the symbol table

table_reads : (first : Token) (rest : List Token) → is_word (codes "FUNCTION") first ≡ false → Reads Start first rest (table_at (first ∷ rest) first)
table_reads first rest no_function =
    let R : NextItem → Type 0 = λ found. Reads Start first rest found in
    choose R (is_word (codes "SYMBOL_TABLE") first) _ _ (λ word. fits (table first rest word))
    (λ no_word. misses Start first rest refl (other_says Start first rest tt no_function))

-- a line of the table that does not fit
no_symbol : (line : Line) (first : Token) (rest : List Token) → Reads (Table line) first rest (Misfit first.line BadStatement)
no_symbol line first rest = misses (Table line) first rest refl (by_plain (plain_says (Table line) first rest refl))

symbol_reads : (line : Line) (name : Token) (rest : List Token) → ends_table line name rest ≡ false → is_behind line name ≡ true →
    Reads (Table line) name rest (symbol_found name (symbol_at name rest))
symbol_reads line name [] no_end behind = no_symbol line name []
symbol_reads line name (a ∷ []) no_end behind = no_symbol line name (a ∷ [])
symbol_reads line name (a ∷ its ∷ []) no_end behind = no_symbol line name (a ∷ its ∷ [])
symbol_reads line name (a ∷ its ∷ b ∷ []) no_end behind = no_symbol line name (a ∷ its ∷ b ∷ [])
symbol_reads line name (a ∷ its ∷ b ∷ type ∷ []) no_end behind = no_symbol line name (a ∷ its ∷ b ∷ type ∷ [])
symbol_reads line name (a ∷ its ∷ b ∷ type ∷ c ∷ []) no_end behind = no_symbol line name (a ∷ its ∷ b ∷ type ∷ c ∷ [])
symbol_reads line name (a ∷ its ∷ b ∷ type ∷ c ∷ comment ∷ rest) no_end behind =
    let R : Option SymbolLine → Type 0 = λ found. Reads (Table line) name (a ∷ its ∷ b ∷ type ∷ c ∷ comment ∷ rest)
    (symbol_found name found) in
    choose R (is_quoted_kind name.kind && is_next name.line a its && is_next name.line b type && is_next name.line c comment) _ _
    (λ all. let three = and_parts (is_quoted_kind name.kind && is_next name.line a its && is_next name.line b type) (is_next name.line c comment) all in
    let two = and_parts (is_quoted_kind name.kind && is_next name.line a its) (is_next name.line b type) three.0 in
    let one = and_parts (is_quoted_kind name.kind) (is_next name.line a its) two.0 in
    fits (symbol line name a its b type c comment rest (address_of (trimmed_field its.text)) no_end behind one.0 one.1 two.1 three.1
    (address_is (trimmed_field its.text))))
    (λ other. no_symbol line name (a ∷ its ∷ b ∷ type ∷ c ∷ comment ∷ rest))

in_table_reads : (line : Line) (first : Token) (rest : List Token) → Reads (Table line) first rest (in_table line first rest)
in_table_reads line first rest =
    let R : NextItem → Type 0 = λ found. Reads (Table line) first rest found in
    let S : Option SymbolLine → Type 0 = λ found. Reads (Table line) first rest (symbol_found first found) in
    choose R (ends_table line first rest) _ _ (λ ends. fits (table_end line first rest ends))
    (λ no_end. choose S (is_behind line first) _ _ (λ behind. symbol_reads line first rest no_end behind)
    (λ same_line. no_symbol line first rest))

-- a section that opens

opens_reads : (place : Where) (kind : BlockKind) (before : Option Section) (reason : Reason) (first : Token) (rest : List Token)
    → Reads place first rest (Misfit first.line reason)
    → ((its : Section) → is_word (section_word its) first ≡ true → may_open kind before its ≡ true
    → Reads place first rest (Fits (Starts its) 0 (Inside kind its [])))
    → Reads place first rest (section_found kind reason first (section_at kind before first))
opens_reads place kind before reason first rest missed opens = by (section_at kind before first) (section_is kind before first)
  where
    by : (o : Option Section) → OpensHere kind before first o → Reads place first rest (section_found kind reason first o)
    by None is = missed
    by (Some its) is = opens its is.0 is.1

-- behind a heading

-- a name has a token
name_some : {letters : List ℕ} {name : RawName} (names : List Token) → IsName letters names name → names ≡ [] → ⊥
name_some names (quoted kind word is) e = absurd cc
name_some names (apart kind word number n no_quotes is found) e = absurd cc
name_some names (together kind word n no_quotes no_word numbered found) e = absurd cc

-- the function block of a data block
instance_reads : (line : Line) (first : Token) (rest : List Token) (found : Read RawName) (other : NextItem) → is_skipped line first rest ≡ false
    → FrontOf (first ∷ rest) (IsName (codes "FB")) found → Reads (Heading block.Db line) first rest other
    → Reads (Heading block.Db line) first rest (instance_or found other)
instance_reads line first rest read.No other no_line f reads = reads
instance_reads line first rest (read.LeftOut k) other no_line f reads = reads
instance_reads line first rest (read.Fits name size) other no_line f reads = by f.front f.is f.size_is f.holds
  where
    by : (front : List Token) → front ++ f.rest ≡ first ∷ rest → length front ≡ size → IsName (codes "FB") front name
        → Reads (Heading block.Db line) first rest (Fits (InstanceOf name) (size - 1) (Behind block.Db part.Own))
    by [] at sized is = absurd (name_some [] is refl)
    by (head ∷ names) at sized is =
        let same : head ≡ first = cc in
        let tail : names ++ f.rest ≡ rest = cc in
        let less : length names ≡ size - 1 = omega (arith, sized) in
        let named : IsName (codes "FB") (first ∷ names) name = subst (λ (t : Token). IsName (codes "FB") (t ∷ names) name) same is in
        let R : List Token → ℕ → Type 0 = λ ts n. Reads (Heading block.Db line) first ts (Fits (InstanceOf name) n (Behind block.Db part.Own)) in
        subst (λ (ts : List Token). R ts (size - 1)) tail
        (subst (λ (n : ℕ). R (names ++ f.rest) n) less
        (fits (instance line first names f.rest name (subst (λ (ts : List Token). is_skipped line first ts ≡ false) (sym tail) no_line) named)))

found_reads : (kind : BlockKind) (line : Line) (first : Token) (rest : List Token) (other : NextItem) → is_skipped line first rest ≡ false
    → Reads (Heading kind line) first rest other → Reads (Heading kind line) first rest (instance_found kind (first ∷ rest) other)
found_reads block.Ob line first rest other no_line reads = reads
found_reads block.Fc line first rest other no_line reads = reads
found_reads block.Fb line first rest other no_line reads = reads
found_reads block.Db line first rest other no_line reads =
    instance_reads line first rest (name_at (codes "FB") (first ∷ rest)) other no_line (name_front (codes "FB") (first ∷ rest)) reads

behind_heading_reads : (kind : BlockKind) (line : Line) (first : Token) (rest : List Token)
    → Reads (Heading kind line) first rest (behind_heading kind line (first ∷ rest) first rest)
behind_heading_reads kind line first rest =
    let R : NextItem → Type 0 = λ found. Reads (Heading kind line) first rest found in
    choose R (is_skipped line first rest) _ _ (λ is. fits (skipped_line kind line first rest is))
    (λ no_line. choose R (begins_body kind first) _ _
    (λ all. let parts = and_parts (not (is_data kind)) (is_word (codes "BEGIN") first) all in
    fits (begin kind line first rest no_line (not-true _ parts.0) parts.1))
    (λ no_begin. found_reads kind line first rest _ no_line
    (opens_reads (Heading kind line) kind None (behind_reason kind (first ∷ rest)) first rest
    (misses (Heading kind line) first rest refl (behind_says kind line first rest))
    (λ its word may. fits (first_section kind line its first rest no_line no_begin word may)))))

-- among declarations

-- the end of a STRUCT that does not fit has the line of its declaration
unclosed : (kind : BlockKind) (section : Section) (level : Level) (levels : List Level) (first : Token) (rest : List Token) (found : Read (List InitialItem))
    → is_word (codes "END_STRUCT") first ≡ true
    → ending_at kind section level.in_array rest ≡ found
    → Reads (Inside kind section (level ∷ levels)) first rest (Misfit level.line (read_reason (first ∷ rest) found))
unclosed kind section level levels first rest found word is =
    let place = Inside kind section (level ∷ levels) in
    let said = read_reason (first ∷ rest) found in
    let line : misfit_line place first ≡ level.line = if_true (is_word (codes "END_STRUCT") first) _ _ word in
    let says : Says place first rest said =
    subst (λ (r : Read (List InitialItem)). Says place first rest (read_reason (first ∷ rest) r)) is
    (closing_says kind section (level ∷ levels) first rest word) in
    subst (λ (l : Line). Reads place first rest (Misfit l said)) line (misses place first rest refl says)

struct_reads : (kind : BlockKind) (section : Section) (level : Level) (levels : List Level) (first : Token)
    (rest : List Token) (found : Read (List InitialItem)) → is_word (codes "END_STRUCT") first ≡ true
    → ending_at kind section level.in_array rest ≡ found → FrontOf rest (IsEnding kind section level.in_array) found
    → Reads (Inside kind section (level ∷ levels)) first rest (struct_found kind section level.line levels (first ∷ rest) found)
struct_reads kind section level levels first rest (read.Fits items size) word is f =
    let R : List Token → ℕ → Type 0 = λ ts n. Reads (Inside kind section (level ∷ levels)) first ts (Fits (Closes items) n (Inside kind section levels)) in
    subst (λ (ts : List Token). R ts size) f.is
    (subst (λ (n : ℕ). R (f.front ++ f.rest) n) f.size_is (fits (struct_end kind section level levels first f.front f.rest items word f.holds)))
struct_reads kind section level levels first rest (read.LeftOut its) word is f = unclosed kind section level levels first rest (read.LeftOut its) word is
struct_reads kind section level levels first rest read.No word is f = unclosed kind section level levels first rest read.No word is

-- the end of a data block's STRUCT that does not fit has its own
unended : (kind : BlockKind) (first : Token) (rest : List Token) → is_word (codes "END_STRUCT") first ≡ true
    → Reads (Inside kind part.Own []) first rest (Misfit first.line BadStatement)
unended kind first rest word = misses (Inside kind part.Own []) first rest refl (closing_says kind part.Own [] first rest word)

end_reads : (kind : BlockKind) (section : Section) (first : Token) (rest : List Token) → ends_level section [] first ≡ true
    → Reads (Inside kind section []) first rest (section_end_found kind section first rest)
end_reads kind part.Own first [] word = unended kind first [] word
end_reads kind part.Own first (sign ∷ rest) word =
    let R : NextItem → Type 0 = λ found. Reads (Inside kind part.Own []) first (sign ∷ rest) found in
    choose R (is_semicolon sign) _ _ (λ ends. fits (data_end kind first sign rest word ends)) (λ no_end. unended kind first (sign ∷ rest) word)
end_reads kind part.Input first rest word = fits (section_end kind part.Input first rest refl word)
end_reads kind part.Output first rest word = fits (section_end kind part.Output first rest refl word)
end_reads kind part.InOut first rest word = fits (section_end kind part.InOut first rest refl word)
end_reads kind part.Static first rest word = fits (section_end kind part.Static first rest refl word)
end_reads kind part.Temp first rest word = fits (section_end kind part.Temp first rest refl word)

closing_reads : (kind : BlockKind) (section : Section) (levels : List Level) (first : Token) (rest : List Token) → ends_level section levels first ≡ true →
    Reads (Inside kind section levels) first rest (closing_at kind section levels (first ∷ rest) first rest)
closing_reads kind section [] first rest word = end_reads kind section first rest word
closing_reads kind section (level ∷ levels) first rest word =
    struct_reads kind section level levels first rest (ending_at kind section level.in_array rest) word refl (ending_front kind section level.in_array rest)

-- a declaration that does not fit has the line of its name
inside_line : (kind : BlockKind) (section : Section) (levels : List Level) (first : Token)
    → ends_level section levels first ≡ false → level_line levels first ≡ first.line
inside_line kind section [] first no_end = refl
inside_line kind section (level ∷ levels) first no_end = if_false (is_word (codes "END_STRUCT") first) _ _ no_end

undeclared : (kind : BlockKind) (section : Section) (levels : List Level) (first : Token) (rest : List Token) (found : Read Written)
    → ends_level section levels first ≡ false → declaration_at kind section (left_of levels) first rest ≡ found
    → Reads (Inside kind section levels) first rest (Misfit first.line (read_reason (first ∷ rest) found))
undeclared kind section levels first rest found no_end is =
    let place = Inside kind section levels in
    let said = read_reason (first ∷ rest) found in
    let says : Says place first rest said =
    subst (λ (r : Read Written). Says place first rest (read_reason (first ∷ rest) r)) is (declaration_says kind section levels first rest no_end) in
    subst (λ (l : Line). Reads place first rest (Misfit l said)) (inside_line kind section levels first no_end) (misses place first rest refl says)

declaration_reads : (kind : BlockKind) (section : Section) (levels : List Level) (first : Token) (rest : List Token) (found : Read Written)
    → ends_level section levels first ≡ false → declaration_at kind section (left_of levels) first rest ≡ found
    → FrontOf rest (IsDeclaration kind section (left_of levels) first) found
    → Reads (Inside kind section levels) first rest (declaration_found kind section levels (first ∷ rest) first found)
declaration_reads kind section levels first rest (read.Fits type size) no_end is f =
    let R : List Token → ℕ → Type 0 = λ ts n. Reads (Inside kind section levels) first ts
    (Fits (Declares first.text first.line type) n (Inside kind section (levels_behind levels first.line type.innermost (length type.arrays)))) in
    subst (λ (ts : List Token). R ts size) f.is
    (subst (λ (n : ℕ). R (f.front ++ f.rest) n) f.size_is (fits (declaration kind section levels first f.front f.rest type no_end f.holds)))
declaration_reads kind section levels first rest (read.LeftOut its) no_end is f = undeclared kind section levels first rest (read.LeftOut its) no_end is
declaration_reads kind section levels first rest read.No no_end is f = undeclared kind section levels first rest read.No no_end is

inside_reads : (kind : BlockKind) (section : Section) (levels : List Level) (first : Token) (rest : List Token)
    → Reads (Inside kind section levels) first rest (inside_at kind section levels (first ∷ rest) first rest)
inside_reads kind section levels first rest =
    let R : NextItem → Type 0 = λ found. Reads (Inside kind section levels) first rest found in
    choose R (ends_level section levels first) _ _ (λ word. closing_reads kind section levels first rest word)
    (λ no_end. declaration_reads kind section levels first rest
    (declaration_at kind section (left_of levels) first rest) no_end refl (declaration_front kind section (left_of levels) first rest))

-- among the initial values of a data block

unvalued : (first : Token) (rest : List Token) (found : Read RawInitial) → path_value_at first.line (first ∷ rest) ≡ found →
    Reads Values first rest (Misfit first.line (read_reason (first ∷ rest) found))
unvalued first rest found is =
    misses Values first rest refl (subst (λ (r : Read RawInitial). Says Values first rest (read_reason (first ∷ rest) r)) is (value_says first rest))

value_fits : (first : Token) (rest front behind : List Token) (its : RawInitial) (size : ℕ)
    → is_end block.Db first ≡ false → front ++ behind ≡ first ∷ rest → length front ≡ size
    → IsInitial first.line front its → Reads Values first rest (Fits (Initial its) (size - 1) Values)
value_fits first rest [] behind its size no_end at sized is =
    let some : 1 ≤ length {A = Token} [] = initial_some first.line [] its is in
    absurd (omega (arith, some))
value_fits first rest (head ∷ front) behind its size no_end at sized is =
    let same : head ≡ first = cc in
    let tail : front ++ behind ≡ rest = cc in
    let less : length front ≡ size - 1 = omega (arith, sized) in
    let its_form : IsInitial first.line (first ∷ front) its = subst (λ (t : Token). IsInitial first.line (t ∷ front) its) same is in
    subst (λ (ts : List Token). Reads Values first ts (Fits (Initial its) (size - 1) Values)) tail
    (subst (λ (n : ℕ). Reads Values first (front ++ behind) (Fits (Initial its) n Values)) less (fits (value first front behind its no_end its_form)))

value_reads : (first : Token) (rest : List Token) (found : Read RawInitial) → is_end block.Db first ≡ false → path_value_at first.line (first ∷ rest) ≡ found →
    FrontOf (first ∷ rest) (IsInitial first.line) found → Reads Values first rest (value_found (first ∷ rest) first found)
value_reads first rest (read.Fits its size) no_end is f = value_fits first rest f.front f.rest its size no_end f.is f.size_is f.holds
value_reads first rest (read.LeftOut its) no_end is f = unvalued first rest (read.LeftOut its) is
value_reads first rest read.No no_end is f = unvalued first rest read.No is

values_reads : (first : Token) (rest : List Token) → Reads Values first rest (values_at (first ∷ rest) first)
values_reads first rest =
    let R : NextItem → Type 0 = λ found. Reads Values first rest found in
    choose R (is_end block.Db first) _ _ (λ word. fits (values_end first rest word))
    (λ no_end. value_reads first rest (path_value_at first.line (first ∷ rest)) no_end refl (initial_front first.line (first ∷ rest)))

behind_reads_begin : (kind : BlockKind) (before : Section) (first : Token) (rest : List Token)
    → Reads (Behind kind before) first rest (behind_at kind before first)
behind_reads_begin kind before first rest =
    let R : NextItem → Type 0 = λ found. Reads (Behind kind before) first rest found in
    choose R (is_word (codes "BEGIN") first) _ _ (λ word. fits (begin_behind kind before first rest word))
    (λ no_word. opens_reads (Behind kind before) kind (Some before) BadStatement first rest
    (misses (Behind kind before) first rest refl (by_plain (plain_says (Behind kind before) first rest refl)))
    (λ its word may. fits (later_section kind before its first rest word may)))

-- in a body

-- no instruction is answered for want of memory
never_lost : (label : Option (List ℕ)) (line : Line) (said : Result RawOp Reason) → on_line label line said ≡ Err NoMemory → ⊥
never_lost label line (Ok op) e = absurd cc
never_lost label line (Err reason) e = absurd cc

never_from : (labelled : Bool) (first : Token) (rest : List Token) → instruction_from labelled first rest ≡ Err NoMemory → ⊥
never_from true first rest e = never_lost (Some first.text) first.line (statement_said (drop 1 rest)) e
never_from false first rest e = never_lost None first.line (statement_said (first ∷ rest)) e

never : (tokens : List Token) → instruction_of tokens ≡ Err NoMemory → ⊥
unfolding instruction_of
never [] e = absurd cc
never (first ∷ rest) e = never_from (begins_with_label (first ∷ rest)) first rest e

statement_reads : (kind : BlockKind) (first : Token) (rest : List Token) (said : Result RawInstr Rejection)
    → is_skipped_alone first ≡ false → is_end kind first ≡ false
    → is_complete (first ∷ rest) ≡ true → instruction_of (statement_at (first ∷ rest)) ≡ said
    → Reads (Body kind) first rest (statement_found (Body kind) (first ∷ rest) first.line said)
statement_reads kind first rest (Ok instr) no_skip no_end complete is =
    let tokens = first ∷ rest in
    let reaches : statement_size tokens < length tokens = ltb-true _ _ complete in
    let no_sign : is_semicolon first ≡ false = (or_parts _ _ no_skip).0 in
    let size : statement_size tokens ≡ 1 + statement_size rest = size_open first rest no_sign in
    let s : Split rest = split_of rest (let less : statement_size rest < length rest = omega arith in less) in
    let whole : statement_size tokens ≡ length (first ∷ s.front) = omega (arith, s.size) in
    let front : statement_at tokens ≡ first ∷ s.front =
    taken tokens (first ∷ s.front) s.sign s.rest (statement_size tokens) (ap (λ (ts : List Token). first ∷ ts) s.split) whole in
    let P : List Token → Type 0 = λ ts. Reads (Body kind) first ts (Fits (Instr instr) (length (first ∷ s.front)) (Body kind)) in
    let Q : ℕ → Type 0 = λ n. Reads (Body kind) first rest (Fits (Instr instr) n (Body kind)) in
    subst Q (sym whole) (subst P (sym s.split)
    (fits (statement kind first s.front s.sign s.rest instr no_skip no_end
    (size_open first s.front no_sign ∙ omega (arith, s.alone)) (sym (ap instruction_of front) ∙ is) s.ends)))
statement_reads kind first rest (Err (Refused its_line reason)) no_skip no_end complete is = refuses kind first rest its_line reason no_skip no_end complete is
statement_reads kind first rest (Err NoMemory) no_skip no_end complete is = absurd (never (statement_at (first ∷ rest)) is)

body_reads : (kind : BlockKind) (first : Token) (rest : List Token) → Reads (Body kind) first rest (body_at kind (first ∷ rest) first)
body_reads kind first rest =
    let R : NextItem → Type 0 = λ found. Reads (Body kind) first rest found in
    choose R (is_skipped_alone first) _ _ (λ is. fits (skipped_word kind first rest is))
    (λ no_skip. choose R (is_end kind first) _ _ (λ word. fits (end_word kind first rest no_skip word))
    (λ no_end. choose R (is_complete (first ∷ rest)) _ _
    (λ complete. statement_reads kind first rest (instruction_of (statement_at (first ∷ rest))) no_skip no_end complete refl)
    (λ cut. misses (Body kind) first rest cut (by_plain (plain_says (Body kind) first rest refl)))))

token_reads : (place : Where) (first : Token) (rest : List Token) → Reads place first rest (at_token place (first ∷ rest) first rest)
token_reads Start first rest =
    kind_reads Start _ first rest (heading_kind first) tt refl (λ no_function. table_reads first rest no_function)
token_reads (Table line) first rest = in_table_reads line first rest
token_reads Between first rest =
    kind_reads Between _ first rest (heading_kind first) tt refl
    (λ no_function. misses Between first rest refl (other_says Between first rest tt no_function))
token_reads (Heading kind line) first rest = behind_heading_reads kind line first rest
token_reads (Inside kind its levels) first rest = inside_reads kind its levels first rest
token_reads (Behind kind before) first rest = behind_reads_begin kind before first rest
token_reads (Body kind) first rest = body_reads kind first rest
token_reads Values first rest = values_reads first rest

-- no form stands where a misfit was found
formless : (end : Line) (place : Where) (tokens : List Token) (line : Line) (reason : Reason) → item_at end place tokens ≡ Misfit line reason →
    (item : Item) (size : ℕ) (next : Where) → IsForm place tokens item size next → ⊥
formless end place tokens line reason misfit item size next is =
    let found : item_at end place tokens ≡ Fits item size next = form_found end place next tokens item size is in
    let apart : Fits item size next ≡ Misfit line reason = sym found ∙ misfit in absurd cc

missed : (end : Line) (place : Where) (first : Token) (rest : List Token) (reason : Reason)
    → Says place first rest reason → HasNoForm place (first ∷ rest) → has_statement place (first ∷ rest) ≡ false
    → IsItem end place (first ∷ rest) (Misfit (misfit_line place first) reason)
missed end place first rest reason (by_left kind out) no_form no_statement = left_out first rest kind no_form out
missed end place first rest reason (by_plain no_left) no_form no_statement = none first rest no_form no_left no_statement

settled : (end : Line) (place : Where) (first : Token) (rest : List Token) (found : NextItem)
    → Reads place first rest found → item_at end place (first ∷ rest) ≡ found
    → IsItem end place (first ∷ rest) found
settled end place first rest found (fits is) e = form is
settled end place first rest found (misses its_place its_first its_rest {reason = reason} no_statement says) e =
    missed end place first rest reason says (formless end place (first ∷ rest) _ _ e) no_statement
settled end place first rest found (refuses kind its_first its_rest its_line reason no_skip no_end complete is) e =
    no_instruction kind first rest no_skip no_end complete is

end_is : (end : Line) (place : Where) → IsItem end place [] (item_at end place [])
unfolding item_at
end_is end Start = at_start
end_is end (Table line) = in_a_table line
end_is end Between = behind_a_block
end_is end (Heading kind line) = behind_a_heading kind line
end_is end (Inside kind its []) = in_a_section kind its
end_is end (Inside kind its (level ∷ levels)) = in_a_struct kind its level levels
end_is end (Behind kind its) = behind_a_section kind its
end_is end (Body kind) = in_a_body kind
end_is end Values = among_values

token_is : (end : Line) (place : Where) (first : Token) (rest : List Token) → IsItem end place (first ∷ rest) (item_at end place (first ∷ rest))
unfolding item_at
token_is end place first rest = settled end place first rest _ (token_reads place first rest) refl

pub sound : (end : Line) (place : Where) (tokens : List Token) → IsItem end place tokens (item_at end place tokens)
sound end place [] = end_is end place
sound end place (first ∷ rest) = token_is end place first rest

-- From the relation to what is found

-- two answers of the relation to one place are one

one_left : (end : Line) (place : Where) (first : Token) (rest : List Token) (kind : Kind) (found : NextItem)
    → IsItem end place (first ∷ rest) found → HasNoForm place (first ∷ rest)
    → LeavesOutForm place (first ∷ rest) kind → found ≡ Misfit (misfit_line place first) (Unsupported kind)
one_left end place first rest kind found (form is) no_form out = absurd (no_form _ _ _ is)
one_left end place first rest kind found (no_instruction its its_first its_rest no_skip no_end complete is) no_form out =
    absurd (no_left_body its first rest kind out)
one_left end place first rest kind found (left_out its_first its_rest its no_other its_out) no_form out =
    let same : Unsupported its ≡ Unsupported kind = sym (left_says place first rest its its_out) ∙ left_says place first rest kind out in
    ap (λ (reason : Reason). Misfit (misfit_line place first) reason) same
one_left end place first rest kind found (none its_first its_rest no_other no_left no_more) no_form out = absurd (no_left kind out)

one : (end : Line) (place : Where) (first : Token) (rest : List Token) (found : NextItem)
    → IsItem end place (first ∷ rest) found → HasNoForm place (first ∷ rest)
    → ((kind : Kind) → LeavesOutForm place (first ∷ rest) kind → ⊥) → has_statement place (first ∷ rest) ≡ false
    → found ≡ Misfit (misfit_line place first) BadStatement
one end place first rest found (form is) no_form no_left no_statement = absurd (no_form _ _ _ is)
one end place first rest found (no_instruction kind its_first its_rest no_skip no_end complete is) no_form no_left no_statement = absurd cc
one end place first rest found (left_out its_first its_rest kind no_other out) no_form no_left no_statement = absurd (no_left kind out)
one end place first rest found (none its_first its_rest no_other none_left no_more) no_form no_left no_statement = refl

pub complete : (end : Line) (place : Where) (tokens : List Token) (found : NextItem) → IsItem end place tokens found → item_at end place tokens ≡ found
unfolding item_at
complete end place tokens found (form {next = next} {item = item} {size = size} is) = form_found end place next tokens item size is
complete end place tokens found (no_instruction kind first rest no_skip no_end whole is) =
    if_false (is_skipped_alone first) _ _ no_skip ∙ if_false (is_end kind first) _ _ no_end
    ∙ if_true (is_complete (first ∷ rest)) _ _ whole
    ∙ ap (λ (r : Result RawInstr Rejection). statement_found (Body kind) (first ∷ rest) first.line r) is
complete end place tokens found (left_out first rest kind no_form out) =
    one_left end place first rest kind (item_at end place (first ∷ rest)) (sound end place (first ∷ rest)) no_form out
complete end place tokens found (none first rest no_form no_left no_statement) =
    one end place first rest (item_at end place (first ∷ rest)) (sound end place (first ∷ rest)) no_form no_left no_statement
complete end place tokens found at_start = refl
complete end place tokens found (in_a_table line) = refl
complete end place tokens found behind_a_block = refl
complete end place tokens found (behind_a_heading kind line) = refl
complete end place tokens found (in_a_section kind its) = refl
complete end place tokens found (in_a_struct kind its level levels) = refl
complete end place tokens found (behind_a_section kind its) = refl
complete end place tokens found (in_a_body kind) = refl
complete end place tokens found among_values = refl

pub have_forms : ItemsHaveForms
have_forms = record { sound = sound; complete = complete }
