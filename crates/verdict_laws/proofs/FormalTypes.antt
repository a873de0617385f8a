-- The formals of the blocks of a text are of elementary types: a section of formals has no ARRAY, STRUCT or
-- DATE_AND_TIME.
use Rattle.std.proofs.Common.{◌≡◌, ℕ, zero, suc, List, [], ◌∷◌, ◌++◌, length, drop, map, Bool, true, false, ◌&&◌, ◌||◌, if◌then◌else◌, Option, Some, None, Result, Ok, Err, refl, sym, ap, subst, ◌∙◌, arith}
use Rattle.std.specs.Prelude.{All, IfOk, IfSome, codes, option_map}
use Rattle.std.specs.Option.{option_to_list}
use Rattle.std.proofs.lemmas.List.Elements.{All-append, All-cons, All-map, All-nil, All-weaker}
use Rattle.s7_base.specs.Tokens.{line_at_end, tokens_of}
use Rattle.s7_base.specs.declared.reason.Kind.{Kind}
use Rattle.s7_base.specs.declared.reason.Kind.TheVariants.{ComplexParameter, DateTime}
use Rattle.s7_base.specs.declared.reason.Line.{Line}
use Rattle.s7_base.specs.declared.reason.Reason.{Reason}
use Rattle.s7_base.specs.declared.reason.Reason.TheVariants.{BadStatement}
use Rattle.s7_base.specs.declared.reason.Rejection.{Rejection}
use Rattle.s7_base.specs.declared.reason.Rejection.TheVariants as rejection
use Rattle.s7_base.specs.declared.token.Token.{Token}
use Rattle.stl_grammar.specs.Declarations.{alone, array_at, array_with, begins_complex, closed_behind, closed_by, declaration_at, elementary_or, elementary_type, ends_level, in_array, is_struct, left_of, left_out_type, levels_behind, one_word, one_word_at, type_at, type_in, variable_kind, with_initial}
use Rattle.stl_grammar.specs.Headings.{block_heading, function_at, function_heading, heading_kind, is_skipped, opened_by, size_on}
use Rattle.stl_grammar.specs.Initials.{ending_at, path_value_at}
use Rattle.stl_grammar.specs.Items.{at_end, at_token, begins_body, behind_at, behind_heading, behind_reason, body_at, body_of, closing_at, declaration_found, declaration_item, heading_reason, inside_at, instance_found, instance_or, is_complete, is_end, is_skipped_alone, item_at, items_from, items_of, prepend_item, section_end_found, section_found, statement_at, statement_found, statement_from, struct_found, symbol_found, table_at, value_found, values_at, with_found}
use Rattle.stl_grammar.specs.RawPrograms.{after_struct_end, block_from_heading, blocks_in, declaration, nothing_read, raw_by, raw_by_tokens, raw_program, raw_text, with_declared, with_end, with_heading, with_instr, with_item, with_items, with_last, with_part, with_type}
use Rattle.stl_grammar.specs.Sections.{is_formal, section_at, takes_dates}
use Rattle.stl_grammar.specs.Symbols.{ends_table, symbol_behind}
use Rattle.stl_grammar.specs.declared.declaration.Innermost.{Innermost}
use Rattle.stl_grammar.specs.declared.declaration.Innermost.TheVariants as inner
use Rattle.stl_grammar.specs.declared.declaration.Level.{Level}
use Rattle.stl_grammar.specs.declared.declaration.OpenStruct.{OpenStruct}
use Rattle.stl_grammar.specs.declared.declaration.Section.{Section}
use Rattle.stl_grammar.specs.declared.declaration.Section.TheVariants as part
use Rattle.stl_grammar.specs.declared.declaration.Written.{Written}
use Rattle.stl_grammar.specs.declared.item.Item.{Item}
use Rattle.stl_grammar.specs.declared.item.Item.TheVariants.{Mark, Ends}
use Rattle.stl_grammar.specs.declared.item.NextItem.{NextItem}
use Rattle.stl_grammar.specs.declared.item.NextItem.TheVariants.{Fits, Misfit, Ended}
use Rattle.stl_grammar.specs.declared.item.Reading.{Reading}
use Rattle.stl_grammar.specs.declared.item.Where.{Where}
use Rattle.stl_grammar.specs.declared.item.Where.TheVariants.{Start, Table, Between, Heading, Inside, Behind, Body, Values}
use Rattle.stl_rules.specs.Interfaces.{outputs_of, result_declared}
use Rattle.stl_rules.proofs.Equations.{elementary_of_elementary}
use Rattle.stl_statement_grammar.specs.BlockNames.{kind_word, name_at}
use Rattle.stl_statement_grammar.specs.Lists.{begins_with_sign, begins_with_word}
use Rattle.stl_statement_grammar.specs.Readers.{further, read_as}
use Rattle.stl_statement_grammar.specs.Statements.{instruction_of}
use Rattle.stl_statement_grammar.specs.Words.{is_sign, is_word, is_word_kind}
use Rattle.stl_statement_grammar.specs.declared.mnemonic.Read.{Read}
use Rattle.stl_statement_grammar.specs.declared.mnemonic.Read.TheVariants as read
use Rattle.stl_tree.specs.declared.program.Mode.{Mode}
use Rattle.stl_tree.specs.declared.program.Mode.TheVariants as mode
use Rattle.stl_tree.specs.declared.raw.BlockKind.{BlockKind}
use Rattle.stl_tree.specs.declared.raw.BlockKind.TheVariants as block
use Rattle.stl_tree.specs.declared.raw.Declaration.{Declaration}
use Rattle.stl_tree.specs.declared.raw.DeclType.TheVariants as of
use Rattle.stl_tree.specs.declared.raw.ElemType.{ElemType}
use Rattle.stl_tree.specs.declared.raw.InitialItem.{InitialItem}
use Rattle.stl_tree.specs.declared.raw.RawBlock.{RawBlock}
use Rattle.stl_tree.specs.declared.raw.RawInitial.{RawInitial}
use Rattle.stl_tree.specs.declared.raw.RawInstr.{RawInstr}
use Rattle.stl_tree.specs.declared.raw.RawName.{RawName}
use Rattle.stl_tree.specs.declared.raw.RawProgram.{RawProgram}
use Rattle.stl_tree.specs.declared.raw.SymbolLine.{SymbolLine}
use Rattle.verdict_laws.proofs.FormalLaws.{IsElementary}
use Rattle.verdict_laws.proofs.InstanceLaws.{HasSimpleFormals}

-- Blocks

-- the declarations of formals of a block are of elementary types
record IsSimple (raw : RawBlock) : Type 0 where
  inputs : All IsElementary raw.inputs
  outputs : All IsElementary raw.outputs
  in_outs : All IsElementary raw.in_outs

result_simple : (kind : BlockKind) (line : Line) (result : Option ElemType) → All IsElementary (result_declared kind line result)
result_simple block.Fc line (Some type) =
    All-cons IsElementary (record { name = codes "RET_VAL"; line = line; ty = of.Elementary type; initial = [] }) [] (type, elementary_of_elementary type)
    (All-nil IsElementary)
result_simple block.Fc line None = All-nil IsElementary
result_simple block.Fb line result = All-nil IsElementary
result_simple block.Ob line result = All-nil IsElementary
result_simple block.Db line result = All-nil IsElementary

with_mode : (its : Mode) (decls : List Declaration) → All IsElementary decls
    → All (λ (f : Mode × Declaration). IsElementary f.1) (map (λ (d : Declaration). (its, d)) decls)
with_mode its decls h = All-map (λ (f : Mode × Declaration). IsElementary f.1) (λ (d : Declaration). (its, d)) decls h

formals_simple : (raw : RawBlock) → IsSimple raw → HasSimpleFormals raw
formals_simple raw h =
    let P = λ (f : Mode × Declaration). IsElementary f.1 in
    let ins : List (Mode × Declaration) = map (λ (d : Declaration). (mode.Input, d)) raw.inputs in
    let outs : List (Mode × Declaration) = map (λ (d : Declaration). (mode.Output, d)) (outputs_of raw) in
    let both : List (Mode × Declaration) = map (λ (d : Declaration). (mode.InOut, d)) raw.in_outs in
    All-append P (ins ++ outs) both
    (All-append P ins outs (with_mode mode.Input raw.inputs h.inputs)
    (with_mode mode.Output (outputs_of raw)
    (All-append IsElementary raw.outputs (result_declared raw.kind raw.line raw.result) h.outputs (result_simple raw.kind raw.line raw.result))))
    (with_mode mode.InOut raw.in_outs h.in_outs)

-- Texts as far as they are read

record ReadsSimple (reading : Reading) : Type 0 where
  done : All IsSimple reading.done
  last : IfSome reading.last IsSimple

of_last : (last : Option RawBlock) → IfSome last IsSimple → All IsSimple (option_to_list last)
of_last None h = All-nil IsSimple
of_last (Some raw) h = All-cons IsSimple raw [] h (All-nil IsSimple)

all_simple : (reading : Reading) → ReadsSimple reading → All IsSimple (blocks_in reading)
all_simple reading h = All-append IsSimple reading.done (option_to_list reading.last) h.done (of_last reading.last h.last)

headed : (line : Line) (kind : BlockKind) (name : RawName) (result : Option ElemType) → IsSimple (block_from_heading line kind name result)
headed line kind name result = record { inputs = All-nil IsElementary; outputs = All-nil IsElementary; in_outs = All-nil IsElementary }

opened_simple : (line : Line) (kind : BlockKind) (name : RawName) (result : Option ElemType) (reading : Reading) → ReadsSimple reading
    → ReadsSimple (with_heading line kind name result reading)
opened_simple line block.Db name result reading h = record { done = all_simple reading h; last = tt }
opened_simple line block.Ob name result reading h = record { done = all_simple reading h; last = headed line block.Ob name result }
opened_simple line block.Fc name result reading h = record { done = all_simple reading h; last = headed line block.Fc name result }
opened_simple line block.Fb name result reading h = record { done = all_simple reading h; last = headed line block.Fb name result }

changed : (f : RawBlock → RawBlock) → ((raw : RawBlock) → IsSimple raw → IsSimple (f raw))
    → (last : Option RawBlock) → IfSome last IsSimple → IfSome (option_map f last) IsSimple
changed f k None h = tt
changed f k (Some raw) h = k raw h

-- a declaration of a section of formals is of an elementary type
abbrev MayDeclare : Section → Declaration → Type 0
MayDeclare section one = is_formal section ≡ true → IsElementary one

one_more : (decls : List Declaration) (one : Declaration) → All IsElementary decls → IsElementary one → All IsElementary (decls ++ (one ∷ []))
one_more decls one all h = All-append IsElementary decls (one ∷ []) all (All-cons IsElementary one [] h (All-nil IsElementary))

part_simple : (section : Section) (one : Declaration) → MayDeclare section one → (raw : RawBlock) → IsSimple raw → IsSimple (with_part section one raw)
part_simple part.Input one may raw h =
    record { inputs = one_more raw.inputs one h.inputs (may refl); outputs = h.outputs; in_outs = h.in_outs }
part_simple part.Output one may raw h =
    record { inputs = h.inputs; outputs = one_more raw.outputs one h.outputs (may refl); in_outs = h.in_outs }
part_simple part.InOut one may raw h =
    record { inputs = h.inputs; outputs = h.outputs; in_outs = one_more raw.in_outs one h.in_outs (may refl) }
part_simple part.Static one may raw h = record { inputs = h.inputs; outputs = h.outputs; in_outs = h.in_outs }
part_simple part.Temp one may raw h = record { inputs = h.inputs; outputs = h.outputs; in_outs = h.in_outs }
part_simple part.Own one may raw h = h

-- Where an item stands

-- as many STRUCTs are open as the place has levels, and in a section of formals none
record IsInside (section : Section) (levels : List Level) (reading : Reading) : Type 0 where
  same : reading.section ≡ section
  deep : length reading.structs ≡ length levels
  flat : is_formal section ≡ true → levels ≡ []

abbrev IsAt : Where → Reading → Type 0
IsAt (Inside kind section levels) reading = IsInside section levels reading
IsAt elsewhere reading = reading.structs ≡ []

-- what is found at a place keeps this
abbrev Keeps : Reading → NextItem → Type 0
Keeps reading (Fits item size next) = IsAt next (with_item reading item) × ReadsSimple (with_item reading item)
Keeps reading other = Unit {0}

none_open : (structs : List OpenStruct) → length structs ≡ 0 → structs ≡ []
none_open [] e = refl
none_open (s ∷ structs) e = absurd (omega (arith, e))

-- Headings and sections

named_kept : (kind : BlockKind) (first : Token) (rest : List Token) (r : Read RawName) (reading : Reading) → reading.structs ≡ [] → ReadsSimple reading
    → Keeps reading (block_heading kind first rest r)
named_kept block.Ob first rest (read.Fits name size) reading at h = (at, opened_simple first.line block.Ob name None reading h)
named_kept block.Fc first rest (read.Fits name size) reading at h = (at, opened_simple first.line block.Fc name None reading h)
named_kept block.Fb first rest (read.Fits name size) reading at h = (at, opened_simple first.line block.Fb name None reading h)
named_kept block.Db first rest (read.Fits name size) reading at h = (at, opened_simple first.line block.Db name None reading h)
named_kept kind first rest (read.LeftOut its) reading at h = tt
named_kept kind first rest read.No reading at h = tt

function_kept : (first : Token) (rest : List Token) (r : Read (RawName × Option ElemType)) (reading : Reading) → reading.structs ≡ []
    → ReadsSimple reading → Keeps reading (function_heading first rest r)
function_kept first rest (read.Fits its size) reading at h = (at, opened_simple first.line block.Fc its.0 its.1 reading h)
function_kept first rest (read.LeftOut kind) reading at h = tt
function_kept first rest read.No reading at h = tt

either : (b : Bool) (reading : Reading) (one other : NextItem) → Keeps reading one → Keeps reading other → Keeps reading (if b then one else other)
either true reading one other h k = h
either false reading one other h k = k

heading_kept : (o : Option BlockKind) (other : NextItem) (first : Token) (rest : List Token) (reading : Reading) → reading.structs ≡ []
    → ReadsSimple reading → Keeps reading other → Keeps reading (opened_by o other first rest)
heading_kept (Some kind) other first rest reading at h k = named_kept kind first rest (name_at (kind_word kind) rest) reading at h
heading_kept None other first rest reading at h k =
    either (is_word (codes "FUNCTION") first) reading (function_heading first rest (function_at rest)) other
    (function_kept first rest (function_at rest) reading at h) k

table_kept : (tokens : List Token) (first : Token) (reading : Reading) → reading.structs ≡ [] → ReadsSimple reading → Keeps reading (table_at tokens first)
table_kept tokens first reading at h =
    either (is_word (codes "SYMBOL_TABLE") first) reading (Fits Mark 0 (Table first.line)) (Misfit first.line (heading_reason tokens)) (at, h) tt

symbol_kept : (first : Token) (o : Option SymbolLine) (reading : Reading) → reading.structs ≡ [] → ReadsSimple reading → Keeps reading (symbol_found first o)
symbol_kept first None reading at h = tt
symbol_kept first (Some its) reading at h = (at, record { done = h.done; last = h.last })

section_kept : (kind : BlockKind) (reason : Reason) (first : Token) (o : Option Section) (reading : Reading) → reading.structs ≡ [] → ReadsSimple reading
    → Keeps reading (section_found kind reason first o)
section_kept kind reason first None reading at h = tt
section_kept kind reason first (Some section) reading at h =
    (record { same = refl; deep = ap length at; flat = λ e. refl }, record { done = h.done; last = h.last })

instance_kept : (r : Read RawName) (other : NextItem) (reading : Reading) → reading.structs ≡ [] → ReadsSimple reading → Keeps reading other
    → Keeps reading (instance_or r other)
instance_kept (read.Fits name size) other reading at h k = (at, record { done = h.done; last = h.last })
instance_kept (read.LeftOut kind) other reading at h k = k
instance_kept read.No other reading at h k = k

of_kind_kept : (kind : BlockKind) (tokens : List Token) (other : NextItem) (reading : Reading) → reading.structs ≡ [] → ReadsSimple reading
    → Keeps reading other → Keeps reading (instance_found kind tokens other)
of_kind_kept block.Db tokens other reading at h k = instance_kept (name_at (codes "FB") tokens) other reading at h k
of_kind_kept block.Ob tokens other reading at h k = k
of_kind_kept block.Fc tokens other reading at h k = k
of_kind_kept block.Fb tokens other reading at h k = k

behind_kept : (kind : BlockKind) (line : Line) (tokens : List Token) (first : Token) (rest : List Token) (reading : Reading) → reading.structs ≡ []
    → ReadsSimple reading → Keeps reading (behind_heading kind line tokens first rest)
behind_kept kind line tokens first rest reading at h =
    let section = section_found kind (behind_reason kind tokens) first (section_at kind None first) in
    let later = instance_found kind tokens section in
    either (is_skipped line first rest) reading (Fits Mark (size_on first.line rest) (Heading kind first.line))
    (if begins_body kind first then Fits Mark 0 (Body kind) else later) (at, h)
    (either (begins_body kind first) reading (Fits Mark 0 (Body kind)) later (at, h)
    (of_kind_kept kind tokens section reading at h (section_kept kind (behind_reason kind tokens) first (section_at kind None first) reading at h)))

-- Declarations

-- what is read is so
abbrev IfRead : Read Written → (Written → Type 0) → Type 0
IfRead (read.Fits type size) P = P type
IfRead other P = Unit {0}

-- a type of one word
abbrev IsSmall : Written → Type 0
IsSmall type = (type.arrays ≡ []) × (is_struct type.innermost ≡ false)

-- an elementary type
abbrev IsPlain : Written → Type 0
IsPlain type = (type.arrays ≡ []) × ((its : ElemType) × (type.innermost ≡ inner.Elementary its))

word_small : (first : Token) (rest : List Token) → IfRead (one_word first rest) IsSmall
word_small first rest = by (is_word (codes "DATE_AND_TIME") first)
  where
    left_out : (o : Option Kind) → IfRead (left_out_type o) IsSmall
    left_out None = tt
    left_out (Some kind) = tt

    else_word : (o : Option ElemType) (kind : Option Kind) → IfRead (elementary_or o kind) IsSmall
    else_word (Some type) kind = (refl, refl)
    else_word None kind = left_out kind

    by : (b : Bool) → IfRead (if b then read.Fits (alone inner.DateAndTime) 1 else elementary_or (elementary_type first) (variable_kind first rest)) IsSmall
    by true = (refl, refl)
    by false = else_word (elementary_type first) (variable_kind first rest)

words_small : (tokens : List Token) → IfRead (one_word_at tokens) IsSmall
words_small [] = tt
words_small (first ∷ rest) = word_small first rest

-- a type that begins with no ARRAY and no STRUCT is of one word
type_small : (left : ℕ) (tokens : List Token) → begins_complex tokens ≡ false → IfRead (type_at left tokens) IsSmall
type_small zero tokens e = words_small tokens
type_small (suc left) tokens e = by (begins_with_word (codes "STRUCT") tokens) (begins_with_word (codes "ARRAY") tokens) refl refl e
  where
    by : (s a : Bool) → begins_with_word (codes "STRUCT") tokens ≡ s → begins_with_word (codes "ARRAY") tokens ≡ a → (a || s) ≡ false
        → IfRead (if s then read.Fits (alone inner.Struct) 1
        else if a then array_with (drop 1 tokens) (array_at (drop 1 tokens)) (λ behind. type_at left behind)
        else one_word_at tokens) IsSmall
    by false false p q h = words_small tokens
    by true true p q h = absurd cc
    by true false p q h = absurd cc
    by false true p q h = absurd cc

formal_small : (section : Section) (left : ℕ) (tokens : List Token) → is_formal section ≡ true → IfRead (type_in section left tokens) IsSmall
formal_small section left tokens formal = by (is_formal section) (begins_complex tokens) formal refl
  where
    by : (f b : Bool) → f ≡ true → begins_complex tokens ≡ b → IfRead (if f && b then read.LeftOut ComplexParameter else type_at left tokens) IsSmall
    by true true e g = tt
    by true false e g = type_small left tokens g
    by false b e g = absurd cc

kept_by : (type : Written) (r : Read (List InitialItem)) (size : ℕ) → IsPlain type → IfRead (further size (read_as (with_initial type) r)) IsPlain
kept_by type (read.Fits items n) size h = h
kept_by type (read.LeftOut kind) size h = tt
kept_by type read.No size h = tt

no_dates : (section : Section) → is_formal section ≡ true → takes_dates section ≡ false
no_dates part.Input e = refl
no_dates part.Output e = refl
no_dates part.InOut e = refl
no_dates part.Static e = absurd cc
no_dates part.Temp e = absurd cc
no_dates part.Own e = absurd cc

closed_plain : (kind : BlockKind) (section : Section) (tokens : List Token) (r : Read Written) → is_formal section ≡ true → IfRead r IsSmall
    → IfRead (closed_behind kind section tokens r) IsPlain
closed_plain kind section tokens read.No formal h = tt
closed_plain kind section tokens (read.LeftOut its) formal h = tt
closed_plain kind section tokens (read.Fits type size) formal h = by type.innermost refl h.1
  where
    dates : (b : Bool) → b ≡ false
        → IfRead (if b then further size (read_as (with_initial type) (ending_at kind section (in_array (length type.arrays)) (drop size tokens)))
        else read.LeftOut DateTime) IsPlain
    dates true e = absurd cc
    dates false e = tt

    by : (i : Innermost) → type.innermost ≡ i → is_struct i ≡ false → IfRead (closed_by kind section i type size (drop size tokens)) IsPlain
    by inner.Struct is e = absurd cc
    by inner.DateAndTime is e = dates (takes_dates section) (no_dates section formal)
    by (inner.Elementary its) is e =
        kept_by type (ending_at kind section (in_array (length type.arrays)) (drop size tokens)) size (h.0, (its, is))

formal_plain : (kind : BlockKind) (section : Section) (left : ℕ) (name : Token) (tokens : List Token) → is_formal section ≡ true
    → IfRead (declaration_at kind section left name tokens) IsPlain
formal_plain kind section left name [] formal = tt
formal_plain kind section left name (colon ∷ rest) formal =
    by (is_word_kind name.kind && is_sign (codes ":") colon)
    (one_further (closed_behind kind section rest (type_in section left rest))
    (closed_plain kind section rest (type_in section left rest) formal (formal_small section left rest formal)))
  where
    one_further : (r : Read Written) → IfRead r IsPlain → IfRead (further 1 r) IsPlain
    one_further (read.Fits type size) h = h
    one_further (read.LeftOut its) h = tt
    one_further read.No h = tt

    by : (b : Bool) → IfRead (further 1 (closed_behind kind section rest (type_in section left rest))) IsPlain
        → IfRead (if b then further 1 (closed_behind kind section rest (type_in section left rest)) else read.No) IsPlain
    by true h = h
    by false h = tt

-- a declaration is put where it belongs
last_kept : (section : Section) (one : Declaration) (reading : Reading) → MayDeclare section one → ReadsSimple reading
    → ((with_last one section reading).structs ≡ []) × ((with_last one section reading).section ≡ reading.section)
    × ReadsSimple (with_last one section reading)
last_kept part.Own one reading may h = (refl, refl, record { done = h.done; last = h.last })
last_kept part.Input one reading may h =
    (refl, refl, record { done = h.done; last = changed (with_part part.Input one) (part_simple part.Input one may) reading.last h.last })
last_kept part.Output one reading may h =
    (refl, refl, record { done = h.done; last = changed (with_part part.Output one) (part_simple part.Output one may) reading.last h.last })
last_kept part.InOut one reading may h =
    (refl, refl, record { done = h.done; last = changed (with_part part.InOut one) (part_simple part.InOut one may) reading.last h.last })
last_kept part.Static one reading may h =
    (refl, refl, record { done = h.done; last = changed (with_part part.Static one) (part_simple part.Static one may) reading.last h.last })
last_kept part.Temp one reading may h =
    (refl, refl, record { done = h.done; last = changed (with_part part.Temp one) (part_simple part.Temp one may) reading.last h.last })

-- the state after a declaration, where these STRUCTs are open
declared_kept : (section : Section) (levels : List Level) (one : Declaration) (structs : List OpenStruct) (reading : Reading) → reading.section ≡ section
    → length structs ≡ length levels → (is_formal section ≡ true → levels ≡ []) → MayDeclare section one → ReadsSimple reading
    → IsInside section levels (with_declared one structs reading) × ReadsSimple (with_declared one structs reading)
declared_kept section levels one [] reading same deep flat may h =
    let k = last_kept reading.section one reading (λ e. may (ap is_formal (sym same) ∙ e)) h in
    (record { same = k.1 ∙ same; deep = ap length k.0 ∙ deep; flat = flat }, k.2)
declared_kept section levels one (s ∷ outer) reading same deep flat may h =
    (record { same = same; deep = deep; flat = flat }, record { done = h.done; last = h.last })

item_kept : (kind : BlockKind) (section : Section) (levels : List Level) (first : Token) (type : Written) (size : ℕ) (reading : Reading)
    → IsInside section levels reading → ReadsSimple reading → (is_formal section ≡ true → IsPlain type)
    → Keeps reading (declaration_item kind section levels first type size)
item_kept kind section levels first type size reading at h plain = by type.innermost refl
  where
    -- a section of formals has elementary types alone
    other : (i : Innermost) → ((its : ElemType) → i ≡ inner.Elementary its → ⊥) → type.innermost ≡ i → is_formal section ≡ true → ⊥
    other i apart is formal = let p = plain formal in apart p.1.0 (sym is ∙ p.1.1)

    simple : (its : ElemType) → type.innermost ≡ inner.Elementary its → is_formal section ≡ true
        → IsElementary (declaration first.text first.line type.arrays (of.Elementary its) type.initial)
    simple its is formal =
        let p = plain formal in
        subst (λ arrays. IsElementary (declaration first.text first.line arrays (of.Elementary its) type.initial)) (sym p.0)
        (its, elementary_of_elementary its)

    by : (i : Innermost) → type.innermost ≡ i
        → IsInside section (levels_behind levels first.line i (length type.arrays)) (with_type first.text first.line type i reading)
        × ReadsSimple (with_type first.text first.line type i reading)
    by (inner.Elementary its) is =
        declared_kept section levels (declaration first.text first.line type.arrays (of.Elementary its) type.initial) reading.structs reading
        at.same at.deep at.flat (simple its is) h
    by inner.DateAndTime is =
        declared_kept section levels (declaration first.text first.line type.arrays of.DateAndTime type.initial) reading.structs reading
        at.same at.deep at.flat (λ formal. absurd (other inner.DateAndTime (λ its e. cc) is formal)) h
    by inner.Struct is = (
      record { same = at.same; deep = ap suc at.deep; flat = λ formal. absurd (other inner.Struct (λ its e. cc) is formal) },
      record { done = h.done; last = h.last },
    )

found_kept : (kind : BlockKind) (section : Section) (levels : List Level) (tokens : List Token) (first : Token) (r : Read Written) (reading : Reading)
    → IsInside section levels reading → ReadsSimple reading → (is_formal section ≡ true → IfRead r IsPlain)
    → Keeps reading (declaration_found kind section levels tokens first r)
found_kept kind section levels tokens first (read.Fits type size) reading at h plain = item_kept kind section levels first type size reading at h plain
found_kept kind section levels tokens first (read.LeftOut its) reading at h plain = tt
found_kept kind section levels tokens first read.No reading at h plain = tt

section_end_kept : (kind : BlockKind) (section : Section) (first : Token) (rest : List Token) (reading : Reading) → reading.structs ≡ [] → ReadsSimple reading
    → Keeps reading (section_end_found kind section first rest)
section_end_kept kind part.Own first rest reading at h =
    either (begins_with_sign (codes ";") rest) reading (Fits Mark 1 (Behind kind part.Own)) (Misfit first.line BadStatement) (at, h) tt
section_end_kept kind part.Input first rest reading at h = (at, h)
section_end_kept kind part.Output first rest reading at h = (at, h)
section_end_kept kind part.InOut first rest reading at h = (at, h)
section_end_kept kind part.Static first rest reading at h = (at, h)
section_end_kept kind part.Temp first rest reading at h = (at, h)

struct_end_kept : (kind : BlockKind) (section : Section) (level : Level) (levels : List Level) (line : Line) (tokens : List Token)
    (r : Read (List InitialItem)) (reading : Reading)
    → IsInside section (level ∷ levels) reading → ReadsSimple reading → Keeps reading (struct_found kind section line levels tokens r)
struct_end_kept kind section level levels line tokens (read.LeftOut its) reading at h = tt
struct_end_kept kind section level levels line tokens read.No reading at h = tt
struct_end_kept kind section level levels line tokens (read.Fits items size) reading at h = by reading.structs at.deep
  where
    never : is_formal section ≡ true → ⊥
    never formal = let none = at.flat formal in cc

    by : (structs : List OpenStruct) → length structs ≡ length (level ∷ levels)
        → IsInside section levels (after_struct_end items structs reading) × ReadsSimple (after_struct_end items structs reading)
    by [] e = absurd (omega (arith, e))
    by (s ∷ outer) e =
        declared_kept section levels (declaration s.name s.line s.arrays (of.Struct s.members) items) outer reading at.same (omega (arith, e))
        (λ formal. absurd (never formal)) (λ formal. absurd (never formal)) h

closing_kept : (kind : BlockKind) (section : Section) (levels : List Level) (tokens : List Token) (first : Token) (rest : List Token) (reading : Reading)
    → IsInside section levels reading → ReadsSimple reading → Keeps reading (closing_at kind section levels tokens first rest)
closing_kept kind section [] tokens first rest reading at h = section_end_kept kind section first rest reading (none_open reading.structs at.deep) h
closing_kept kind section (level ∷ levels) tokens first rest reading at h =
    struct_end_kept kind section level levels level.line tokens (ending_at kind section level.in_array rest) reading at h

inside_kept : (kind : BlockKind) (section : Section) (levels : List Level) (tokens : List Token) (first : Token) (rest : List Token) (reading : Reading)
    → IsInside section levels reading → ReadsSimple reading → Keeps reading (inside_at kind section levels tokens first rest)
inside_kept kind section levels tokens first rest reading at h =
    let r = declaration_at kind section (left_of levels) first rest in
    either (ends_level section levels first) reading (closing_at kind section levels tokens first rest)
    (declaration_found kind section levels tokens first r) (closing_kept kind section levels tokens first rest reading at h)
    (found_kept kind section levels tokens first r reading at h (λ formal. formal_plain kind section (left_of levels) first rest formal))

-- Bodies

begun : (kind : BlockKind) (reading : Reading) → reading.structs ≡ [] → IsAt (body_of kind) reading
begun block.Db reading at = at
begun block.Ob reading at = at
begun block.Fc reading at = at
begun block.Fb reading at = at

after_section_kept : (kind : BlockKind) (section : Section) (first : Token) (reading : Reading) → reading.structs ≡ [] → ReadsSimple reading
    → Keeps reading (behind_at kind section first)
after_section_kept kind section first reading at h =
    let next = section_found kind BadStatement first (section_at kind (Some section) first) in
    either (is_word (codes "BEGIN") first) reading (Fits Mark 0 (body_of kind)) next (begun kind reading at, h)
    (section_kept kind BadStatement first (section_at kind (Some section) first) reading at h)

ended : (line : Line) (reading : Reading) → reading.structs ≡ [] → ReadsSimple reading → Keeps reading (Fits (Ends line) 0 Between)
ended line reading at h = (
  at,
  record {
    done = h.done;
    last = changed (with_end line) (λ raw k. record { inputs = k.inputs; outputs = k.outputs; in_outs = k.in_outs }) reading.last h.last;
  },
)

statement_kept : (kind : BlockKind) (tokens : List Token) (line : Line) (r : Result RawInstr Rejection) (reading : Reading) → reading.structs ≡ []
    → ReadsSimple reading → Keeps reading (statement_found (Body kind) tokens line r)
statement_kept kind tokens line (Ok instr) reading at h = (
  at,
  record {
    done = h.done;
    last = changed (with_instr instr) (λ raw k. record { inputs = k.inputs; outputs = k.outputs; in_outs = k.in_outs }) reading.last h.last;
  },
)
statement_kept kind tokens line (Err (rejection.Refused its reason)) reading at h = tt
statement_kept kind tokens line (Err rejection.NoMemory) reading at h = tt

body_kept : (kind : BlockKind) (tokens : List Token) (first : Token) (reading : Reading) → reading.structs ≡ [] → ReadsSimple reading
    → Keeps reading (body_at kind tokens first)
body_kept kind tokens first reading at h =
    let found = statement_found (Body kind) tokens first.line (instruction_of (statement_at tokens)) in
    let statement = statement_from (Body kind) first.line tokens in
    either (is_skipped_alone first) reading (Fits Mark 0 (Body kind)) (if is_end kind first then Fits (Ends first.line) 0 Between else statement) (at, h)
    (either (is_end kind first) reading (Fits (Ends first.line) 0 Between) statement (ended first.line reading at h)
    (either (is_complete tokens) reading found (Misfit first.line BadStatement)
    (statement_kept kind tokens first.line (instruction_of (statement_at tokens)) reading at h) tt))

value_kept : (tokens : List Token) (first : Token) (r : Read RawInitial) (reading : Reading) → reading.structs ≡ [] → ReadsSimple reading
    → Keeps reading (value_found tokens first r)
value_kept tokens first (read.Fits value size) reading at h = (at, record { done = h.done; last = h.last })
value_kept tokens first (read.LeftOut its) reading at h = tt
value_kept tokens first read.No reading at h = tt

values_kept : (tokens : List Token) (first : Token) (reading : Reading) → reading.structs ≡ [] → ReadsSimple reading → Keeps reading (values_at tokens first)
values_kept tokens first reading at h =
    either (is_end block.Db first) reading (Fits (Ends first.line) 0 Between) (value_found tokens first (path_value_at first.line tokens))
    (ended first.line reading at h) (value_kept tokens first (path_value_at first.line tokens) reading at h)

-- Items

token_kept : (place : Where) (tokens : List Token) (first : Token) (rest : List Token) (reading : Reading) → IsAt place reading → ReadsSimple reading
    → Keeps reading (at_token place tokens first rest)
token_kept Start tokens first rest reading at h =
    heading_kept (heading_kind first) (table_at tokens first) first rest reading at h (table_kept tokens first reading at h)
token_kept (Table line) tokens first rest reading at h =
    either (ends_table line first rest) reading (Fits Mark 0 Between) (symbol_found first (symbol_behind line first rest)) (at, h)
    (symbol_kept first (symbol_behind line first rest) reading at h)
token_kept Between tokens first rest reading at h =
    heading_kept (heading_kind first) (Misfit first.line (heading_reason tokens)) first rest reading at h tt
token_kept (Heading kind line) tokens first rest reading at h = behind_kept kind line tokens first rest reading at h
token_kept (Inside kind section levels) tokens first rest reading at h = inside_kept kind section levels tokens first rest reading at h
token_kept (Behind kind section) tokens first rest reading at h = after_section_kept kind section first reading at h
token_kept (Body kind) tokens first rest reading at h = body_kept kind tokens first reading at h
token_kept Values tokens first rest reading at h = values_kept tokens first reading at h

-- the items from a place on keep the formals simple
abbrev KeepAll : Reading → Result (List Item) Rejection → Type 0
KeepAll reading r = IfOk r (λ items. ReadsSimple (with_items reading items))

prepended : (item : Item) (reading : Reading) (r : Result (List Item) Rejection) → KeepAll (with_item reading item) r → KeepAll reading (prepend_item item r)
prepended item reading (Ok items) h = h
prepended item reading (Err refused) h = tt

at_end_kept : (end : Line) (place : Where) (reading : Reading) → ReadsSimple reading → KeepAll reading (with_found (at_end end place) (λ size next. Ok []))
at_end_kept end Start reading h = h
at_end_kept end Between reading h = h
at_end_kept end (Table line) reading h = tt
at_end_kept end (Heading kind line) reading h = tt
at_end_kept end (Inside kind section levels) reading h = tt
at_end_kept end (Behind kind section) reading h = tt
at_end_kept end (Body kind) reading h = tt
at_end_kept end Values reading h = tt

items_kept : (end : Line) (skip : ℕ) (place : Where) (tokens : List Token) (reading : Reading) → IsAt place reading → ReadsSimple reading
    → KeepAll reading (items_from end skip place tokens)
unfolding item_at
items_kept end skip place [] reading at h = at_end_kept end place reading h
items_kept end (suc skip) place (first ∷ rest) reading at h = items_kept end skip place rest reading at h
items_kept end zero place (first ∷ rest) reading at h =
    by (at_token place (first ∷ rest) first rest) (token_kept place (first ∷ rest) first rest reading at h)
    (λ size next other there simple. items_kept end size next rest other there simple)
  where
    by : (n : NextItem) → Keeps reading n
        → ((size : ℕ) (next : Where) (other : Reading) → IsAt next other → ReadsSimple other → KeepAll other (items_from end size next rest))
        → KeepAll reading (with_found n (λ size next. items_from end size next rest))
    by (Fits item size next) k more = prepended item reading (items_from end size next rest) (more size next (with_item reading item) k.0 k.1)
    by (Misfit line reason) k more = tt
    by Ended k more = h

-- Texts

-- the formals of the blocks of a raw program are of elementary types
abbrev pub HoldsSimpleFormals : RawProgram → Type 0
HoldsSimpleFormals raw = All HasSimpleFormals raw.blocks

by_items : (r : Result (List Item) Rejection) → KeepAll nothing_read r → IfOk (raw_by r) HoldsSimpleFormals
by_items (Ok items) h =
    All-weaker IsSimple HasSimpleFormals formals_simple (blocks_in (with_items nothing_read items)) (all_simple (with_items nothing_read items) h)
by_items (Err refused) h = tt

of_tokens : (end : Line) (tokens : List Token) → IfOk (raw_program end tokens) HoldsSimpleFormals
unfolding raw_program
of_tokens end tokens =
    by_items (items_of end tokens) (items_kept end 0 Start tokens nothing_read refl (record { done = All-nil IsSimple; last = tt }))

by_tokens : (end : Line) (r : Result (List Token) Rejection) → IfOk (raw_by_tokens end r) HoldsSimpleFormals
by_tokens end (Ok tokens) = of_tokens end tokens
by_tokens end (Err refused) = tt

-- those of the raw program of a text are
pub formals_of_text : (bytes : List ℕ) → IfOk (raw_text bytes) HoldsSimpleFormals
unfolding raw_text
formals_of_text bytes = by_tokens (line_at_end bytes) (tokens_of bytes)
