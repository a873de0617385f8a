-- The rules of a source, by stages. Each stage gives all that breaks its rules: names, blocks and layout, then
-- bodies, then the text as a whole.
-- Held against: this project's own rules.
use Rattle.std.specs.Prelude.{ℕ, ◌+◌, Bool, true, false, not, ◌==◌, ◌&&◌, if◌then◌else◌, List, [], ◌∷◌, ◌++◌, map, slice_get, Option, Some, None, Result, Ok, Err}
use Rattle.std.specs.List.{flat_map, list_any}
use Rattle.std.specs.Option.{is_none}
use Rattle.memory_areas.specs.declared.sizes.TheConstants.{ACTIVATIONS, MOST_BLOCKS}
use Rattle.s7_base.specs.Broken.{rule_break, first_of_all}
use Rattle.s7_base.specs.declared.rule_break.Break.{Break}
use Rattle.s7_base.specs.declared.reason.Line.{Line}
use Rattle.s7_base.specs.declared.reason.Reason.{Reason}
use Rattle.s7_base.specs.declared.reason.Reason.TheVariants.{BadAddress, BadOperand, CallCycle, CallTooDeep, DuplicateBlock, DuplicateName, NoBlocks, TooLarge, UnknownBlock, UnknownName}
use Rattle.stl_rules.specs.BodyRules.{body_breaks, broken_if}
use Rattle.call_chains.specs.Chain.{Graph, chains}
use Rattle.call_chains.specs.CycleLines.{cycle_lines}
use Rattle.call_chains.specs.declared.call.Call.{Call}
use Rattle.stl_rules.specs.Interfaces.{are_refused, interface_of, is_interface_refused, most_in_block, variable_breaks}
use Rattle.stl_rules.specs.Names.{block_found, block_number, block_numbered, is_same_kind, may_have}
use Rattle.stl_rules.specs.Programs.{op_of, or_any}
use Rattle.stl_rules.specs.Raw.{OperandScope}
use Rattle.stl_statement_grammar.specs.Statements.{is_in_area}
use Rattle.stl_tree.specs.declared.raw.BlockKind.{BlockKind}
use Rattle.stl_tree.specs.declared.raw.BlockKind.TheVariants as block
use Rattle.stl_tree.specs.declared.raw.Constant.{Constant}
use Rattle.stl_tree.specs.declared.raw.Declaration.{Declaration}
use Rattle.stl_tree.specs.declared.raw.ElemType.{ElemType}
use Rattle.stl_tree.specs.declared.raw.RawBlock.{RawBlock}
use Rattle.stl_tree.specs.declared.raw.RawData.{RawData}
use Rattle.stl_tree.specs.declared.raw.RawDataKind.{RawDataKind}
use Rattle.stl_tree.specs.declared.raw.RawDataKind.TheVariants as data_kind
use Rattle.stl_tree.specs.declared.raw.RawInitial.{RawInitial}
use Rattle.stl_tree.specs.declared.raw.RawInstr.{RawInstr}
use Rattle.stl_tree.specs.declared.raw.RawProgram.{RawProgram}
use Rattle.stl_tree.specs.declared.raw.SymbolAddress.{SymbolAddress}
use Rattle.stl_tree.specs.declared.raw.SymbolAddress.TheVariants as address
use Rattle.stl_tree.specs.declared.raw.SymbolLine.{SymbolLine}
use Rattle.stl_tree.specs.declared.program.Op.{Op}
use Rattle.stl_tree.specs.declared.program.Op.TheVariants as op
use Rattle.stl_rules.specs.Extents.{width_of}
use Rattle.stl_rules.specs.Layouts.{breaks_in}
use Rattle.stl_rules.specs.Paths.{component_in}
use Rattle.stl_rules.specs.DeclarationRules.{fits_width, is_named, key_of, with_name}
use Rattle.stl_rules.specs.declared.layout.Component.{Component}

-- Names, blocks and layout

-- the rules of the symbol table: a name is declared once, and an address is one of its area or a number of its kind
abbrev pub is_address : SymbolAddress → Bool
is_address (address.At place) = is_in_area place
is_address (address.Block kind n) = may_have kind n
is_address elsewhere = true

abbrev pub symbols_behind : List (List ℕ) → List SymbolLine → List Break
symbols_behind before [] = []
symbols_behind before (line ∷ lines) =
    broken_if (is_named (key_of line.name) before) line.line DuplicateName
    ++ broken_if (not (is_address line.address)) line.line BadAddress
    ++ symbols_behind (with_name (key_of line.name) before) lines

-- one of some blocks has this kind and this number
abbrev pub is_among : BlockKind → ℕ → List (BlockKind × ℕ) → Bool
is_among kind n blocks = list_any (λ (b : BlockKind × ℕ). is_same_kind kind b.0 && b.1 == n) blocks

-- the rules that a heading breaks: its name is declared for a block of its kind, its number is one of its kind, and
-- no block before has the same kind and number
abbrev pub heading_breaks : BlockKind → Line → List (BlockKind × ℕ) → Result ℕ Reason → List Break
heading_breaks kind line before (Err reason) = rule_break line reason
heading_breaks kind line before (Ok n) =
    broken_if (not (may_have kind n)) line BadAddress ++ broken_if (is_among kind n before) line DuplicateBlock

-- the blocks before by kind and number, with one more
abbrev pub with_block_number : BlockKind → List (BlockKind × ℕ) → Result ℕ Reason → List (BlockKind × ℕ)
with_block_number kind before (Ok n) = before ++ (kind, n) ∷ []
with_block_number kind before (Err reason) = before

-- a constant is a value of a component, if that has an elementary type
abbrev pub fits_kind : Constant → Option ElemType → Bool
fits_kind c None = false
fits_kind c (Some e) = fits_width (width_of e) c

-- the rules that an initial value breaks: its path names a component of the declarations, which has the width of the
-- constant
abbrev pub value_breaks : Constant → Option Component → List Reason
value_breaks c None = UnknownName ∷ []
value_breaks c (Some at) = if fits_kind c at.kind then [] else BadOperand ∷ []

-- the rules that an initial value breaks at a component, and in sections
abbrev pub breaks_at : RawInitial → Option Component → List Break
breaks_at v at = map (λ reason. record { line = v.line; rule = reason }) (value_breaks v.value at)

abbrev pub initial_breaks : List (List Declaration) → RawInitial → List Break
initial_breaks sections v = breaks_at v (component_in sections v.path)

-- the rules that sections and initial values of a data block break; a path into sections that break a rule breaks
-- none
abbrev pub valued_breaks : List (List Declaration) → List RawInitial → List Break
valued_breaks sections values =
    breaks_in most_in_block sections
    ++ (if are_refused most_in_block sections then [] else flat_map (initial_breaks sections) values)

-- the rules that the name of an instance's function block breaks, on the line of the heading
abbrev pub fb_breaks : Line → RawProgram → Result ℕ Reason → List Break
fb_breaks line text (Err reason) = rule_break line reason
fb_breaks line text (Ok n) =
    broken_if (is_none (block_numbered text block.Fb n)) line UnknownBlock
    ++ broken_if (not (may_have block.Fb n)) line BadAddress

-- the rules that the initial values of a data block break in sections that are judged elsewhere
abbrev pub values_in : List (List Declaration) → List RawInitial → List Break
values_in sections values = flat_map (initial_breaks sections) values

-- the rules that the initial values of an instance break: the interface of its function block is judged there, and a
-- path into one that breaks a rule breaks none
abbrev pub instance_values : Option RawBlock → List RawInitial → List Break
instance_values None values = values_in [] values
instance_values (Some raw) values = if is_interface_refused raw then [] else values_in (interface_of raw) values

-- the rules that a data block breaks, but for its own name: the declarations of its own are one section
abbrev pub content_breaks : RawProgram → Line → List RawInitial → RawDataKind → List Break
content_breaks text line values (data_kind.Own decls) = valued_breaks (decls ∷ []) values
content_breaks text line values (data_kind.Instance name) =
    let fb = block_number text.symbols block.Fb name in
    fb_breaks line text fb ++ instance_values (block_found text block.Fb fb) values

-- the rules that data blocks break after these blocks
abbrev pub dbs_behind : RawProgram → List (BlockKind × ℕ) → List RawData → List Break
dbs_behind text before [] = []
dbs_behind text before (d ∷ dbs) =
    let number = block_number text.symbols block.Db d.name in
    heading_breaks block.Db d.line before number ++ content_breaks text d.line d.initial d.kind
    ++ dbs_behind text (with_block_number block.Db before number) dbs

-- the rule that is broken where there is a data block too many, whatever their numbers are
abbrev pub one_too_many : Option RawData → List Break
one_too_many None = []
one_too_many (Some d) = rule_break d.line TooLarge

-- the broken rule of a result, on a line
abbrev pub broken_by : {X : Type 0} → Line → Result X Reason → List Break
broken_by line (Ok x) = []
broken_by line (Err rule) = rule_break line rule

-- the rule that an instruction breaks
abbrev pub instr_breaks : OperandScope → RawInstr → List Break
instr_breaks scope raw = broken_by raw.line (op_of scope raw.op)

-- the rules that blocks break after these blocks: in headings, variables and instructions
abbrev pub blocks_behind : RawProgram → List (BlockKind × ℕ) → List RawBlock → List Break
blocks_behind text before [] = []
blocks_behind text before (raw ∷ raws) =
    let number = block_number text.symbols raw.kind raw.name in
    heading_breaks raw.kind raw.line before number ++ variable_breaks raw
    ++ flat_map (instr_breaks (record { text = text; block = raw })) raw.body
    ++ blocks_behind text (with_block_number raw.kind before number) raws

abbrev pub names : RawProgram → List Break
names raw =
    symbols_behind [] raw.symbols ++ dbs_behind raw [] raw.dbs ++ one_too_many (slice_get raw.dbs MOST_BLOCKS)
    ++ blocks_behind raw [] raw.blocks

-- Bodies

abbrev pub bodies : RawProgram → List Break
bodies raw = flat_map body_breaks raw.blocks

-- The text as a whole

-- the calls of an instruction, by the position of its block, on its line
abbrev pub calls_of : RawInstr → Op → List Call
calls_of raw (op.Call c) = record { callee = c.block; line = raw.line } ∷ []
calls_of raw (op.CallIf c) = record { callee = c.block; line = raw.line } ∷ []
calls_of raw other = []

abbrev pub calls_in : RawProgram → RawBlock → List Call
calls_in text raw =
    flat_map (λ (i : RawInstr). calls_of i (or_any (op_of (record { text = text; block = raw }) i.op))) raw.body

-- the calls of each block of a text
abbrev pub call_graph : RawProgram → Graph
call_graph text = map (calls_in text) text.blocks

-- the rule that a call breaks that lies on a cycle
abbrev pub cycle_breaks : Graph → List Break
cycle_breaks graph = flat_map (λ (line : Line). rule_break line CallCycle) (cycle_lines graph)

-- the rules that are broken on the lines of headings where longer chains begin than may run at a time
abbrev pub deep_breaks : List Bool → List Line → List Break
deep_breaks [] lines = []
deep_breaks (begins ∷ more) [] = []
deep_breaks (begins ∷ more) (line ∷ lines) = broken_if begins line CallTooDeep ++ deep_breaks more lines

-- the rules that chains of calls break: those of cycles, or where there is none, those of long chains
abbrev pub or_deep : List Break → List Break → List Break
or_deep [] deep = deep
or_deep (cycle ∷ cycles) deep = cycle ∷ cycles

-- the rule that a text without a block breaks
abbrev pub none_among : List Line → List Break
none_among [] = rule_break (record { 0 = 1 }) NoBlocks
none_among (heading ∷ rest) = []

-- those of the calls of blocks, by the lines of their headings
abbrev pub chain_breaks : Graph → List Line → List Break
chain_breaks graph headings =
    or_deep (cycle_breaks graph) (deep_breaks (chains graph ACTIVATIONS) headings) ++ none_among headings

abbrev pub chain : RawProgram → List Break
chain raw = chain_breaks (call_graph raw) (map (λ (b : RawBlock). b.line) raw.blocks)

-- The stages

-- all rules that a raw program breaks, a list for each stage
abbrev pub stages : RawProgram → List (List Break)
stages raw = names raw ∷ bodies raw ∷ chain raw ∷ []

-- the first of some broken rules, or else one of another stage
abbrev pub or_later : Option Break → Option Break → Option Break
or_later None later = later
or_later (Some first) later = Some first

-- the broken rule that is named: the first by line, then by number, of the first stage that has one
abbrev pub first_broken : List (List Break) → Option Break
first_broken [] = None
first_broken (stage ∷ later) = or_later (first_of_all stage) (first_broken later)
