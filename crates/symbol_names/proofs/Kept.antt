-- Where no rule of names, blocks and layouts is broken, the parts that are made are those of the program.
use Rattle.std.proofs.Common.{◌≡◌, ℕ, Bool, true, false, not, cond, List, [], ◌∷◌, ◌++◌, Option, Some, None, is_none, map, slice_get, Result, Ok, Err, refl, sym, ap, ◌∙◌}
use Rattle.std.specs.Prelude.{All, IfSome, ◌&&◌, nat_le}
use Rattle.std.specs.List.{cons_option, filter_map, find, flat_map}
use Rattle.std.specs.Option.{is_some}
use Rattle.std.proofs.lemmas.Bool.{and_parts}
use Rattle.std.proofs.lemmas.List.Elements.{All-cons, All-head, All-nil, All-tail}
use Rattle.memory_areas.specs.declared.call.BlockName.TheVariants.{Ob}
use Rattle.memory_areas.specs.declared.data_block.DataBlock.{DataBlock}
use Rattle.memory_areas.specs.declared.sizes.TheConstants.{MOST_BLOCKS}
use Rattle.s7_base.proofs.FirstBreak.{first_of_all_is_first}
use Rattle.s7_base.specs.Broken.{first_of_all}
use Rattle.s7_base.specs.declared.rule_break.Break.{Break}
use Rattle.s7_base.specs.declared.reason.Line.{Line}
use Rattle.s7_base.specs.declared.reason.Reason.{Reason}
use Rattle.s7_base.specs.declared.reason.Reason.TheVariants.{BadAddress, DuplicateBlock, DuplicateName, UnknownBlock}
use Rattle.s7_base.specs.declared.reason.Rejection.TheVariants.{Refused}
use Rattle.name_tables.proofs.Places.{kind_sound}
use Rattle.stl_rules.specs.DataBlocks.{bytes_with, data_numbered, data_of, in_order, instance_in, instance_of, instance_with, sections_in, sections_of}
use Rattle.stl_rules.specs.DeclarationRules.{is_named, key_of, section_breaks, with_name}
use Rattle.stl_rules.specs.Interfaces.{interface_breaks, interface_large, interface_of, most_in_block, variable_breaks}
use Rattle.stl_rules.specs.Layouts.{breaks_in}
use Rattle.stl_rules.specs.Names.{block_found, block_number, block_numbered, is_block, is_number, is_same_kind, may_have}
use Rattle.stl_rules.proofs.Scopes.{variables_kept}
use Rattle.stl_rules.specs.Programs.{block_name, block_of, block_with, symbol_of}
use Rattle.stl_rules.specs.Raw.{OperandScope}
use Rattle.stl_rules.specs.BodyRules.{broken_if}
use Rattle.stl_rules.specs.Stages.{blocks_behind, content_breaks, dbs_behind, fb_breaks, heading_breaks, instance_values, instr_breaks, valued_breaks, values_in, is_address, is_among, names, one_too_many, symbols_behind, with_block_number}
use Rattle.stl_rules.specs.Verdict.{program_unless, resolved_program}
use Rattle.stl_tree.specs.declared.program.Block.{Block}
use Rattle.stl_tree.specs.declared.program.Instance.{Instance}
use Rattle.stl_tree.specs.declared.program.Program.{Program}
use Rattle.stl_tree.specs.declared.program.Symbol.{Symbol}
use Rattle.stl_tree.specs.declared.raw.BlockKind.{BlockKind}
use Rattle.stl_tree.specs.declared.raw.BlockKind.TheVariants as block
use Rattle.stl_tree.specs.declared.raw.Declaration.{Declaration}
use Rattle.stl_tree.specs.declared.raw.RawBlock.{RawBlock}
use Rattle.stl_tree.specs.declared.raw.RawData.{RawData}
use Rattle.stl_tree.specs.declared.raw.RawDataKind.{RawDataKind}
use Rattle.stl_tree.specs.declared.raw.RawDataKind.TheVariants as data_kind
use Rattle.stl_tree.specs.declared.raw.RawInitial.{RawInitial}
use Rattle.stl_tree.specs.declared.raw.RawProgram.{RawProgram}
use Rattle.stl_tree.specs.declared.raw.SymbolLine.{SymbolLine}
use Rattle.symbol_names.specs.inner.Kept.{block_within, bytes_in, bytes_kept, bytes_of_sections, bytes_unless, data_by, data_kept, instance_by, instance_if, instance_in_kind, instance_kept, name_within, symbol_kept}

-- Lists without an item

pub front_empty : {X : Type 0} (xs ys : List X) → xs ++ ys ≡ [] → xs ≡ []
front_empty [] ys h = refl
front_empty (x ∷ xs) ys h = absurd cc

back_empty : {X : Type 0} (xs ys : List X) → xs ++ ys ≡ [] → ys ≡ []
back_empty [] ys h = h
back_empty (x ∷ xs) ys h = absurd cc

-- a rule that is not broken where something holds
holds_not : (b : Bool) (line : Line) (rule : Reason) → broken_if (not b) line rule ≡ [] → b ≡ true
holds_not true line rule h = refl
holds_not false line rule h = absurd cc

-- Symbols

symbols_kept : (before : List (List ℕ)) (lines : List SymbolLine) → symbols_behind before lines ≡ []
    → filter_map symbol_kept lines ≡ filter_map symbol_of lines
symbols_kept before [] h = refl
symbols_kept before (line ∷ lines) h =
    let own : broken_if (is_named (key_of line.name) before) line.line DuplicateName ++ broken_if (not (is_address line.address)) line.line BadAddress ≡ []
    = front_empty (broken_if (is_named (key_of line.name) before) line.line DuplicateName ++ broken_if (not (is_address line.address)) line.line BadAddress)
    (symbols_behind (with_name (key_of line.name) before) lines) h in
    let later : symbols_behind (with_name (key_of line.name) before) lines ≡ []
    = back_empty (broken_if (is_named (key_of line.name) before) line.line DuplicateName ++ broken_if (not (is_address line.address)) line.line BadAddress)
    (symbols_behind (with_name (key_of line.name) before) lines) h in
    let good : is_address line.address ≡ true
    = holds_not (is_address line.address) line.line BadAddress
    (back_empty (broken_if (is_named (key_of line.name) before) line.line DuplicateName)
    (broken_if (not (is_address line.address)) line.line BadAddress) own) in
    ap (λ b. cons_option (cond b (symbol_of line) None) (filter_map symbol_kept lines)) good
    ∙ ap (cons_option (symbol_of line)) (symbols_kept (with_name (key_of line.name) before) lines later)

-- Headings

-- a number of its kind, where a heading breaks nothing
number_kept : (kind : BlockKind) (line : Line) (before : List (BlockKind × ℕ)) (n : ℕ) → heading_breaks kind line before (Ok n) ≡ [] → may_have kind n ≡ true
number_kept kind line before n h =
    holds_not (may_have kind n) line BadAddress
    (front_empty (broken_if (not (may_have kind n)) line BadAddress) (broken_if (is_among kind n before) line DuplicateBlock) h)

-- Data blocks

bytes_are : (values : List RawInitial) (sections : List (List Declaration)) → valued_breaks sections values ≡ []
    → bytes_of_sections values sections ≡ Some (bytes_with sections values)
bytes_are values sections h = ap (λ bs. bytes_unless (first_of_all bs) (bytes_with sections values)) h

-- a block whose interface breaks no rule by itself
abbrev pub IsWhole : RawBlock → Type 0
IsWhole raw = interface_breaks raw ≡ []

abbrev IsFunctionBlock : RawBlock → Type 0
IsFunctionBlock raw = IsWhole raw × (raw.kind ≡ block.Fb)

-- what is found is a function block
found_whole : (symbols : List SymbolLine) (n : ℕ) (raws : List RawBlock) → All IsWhole raws
    → IfSome (find (is_block symbols block.Fb n) raws) IsFunctionBlock
found_whole symbols n [] all = tt
found_whole symbols n (raw ∷ raws) all =
    by (is_block symbols block.Fb n raw) refl (found_whole symbols n raws (All-tail IsWhole raw raws all))
  where
    by : (b : Bool) → is_block symbols block.Fb n raw ≡ b → IfSome (find (is_block symbols block.Fb n) raws) IsFunctionBlock
        → IfSome (cond b (Some raw) (find (is_block symbols block.Fb n) raws)) IsFunctionBlock
    by true e more = (
      All-head IsWhole raw raws all,
      sym (kind_sound block.Fb raw.kind (and_parts (is_same_kind block.Fb raw.kind) (is_number n (block_number symbols raw.kind raw.name)) e).0),
    )
    by false e more = more

-- the interface of a function block is judged as that of a data block
as_data : (raw : RawBlock) → IsFunctionBlock raw → breaks_in most_in_block (interface_of raw) ≡ []
as_data raw h = sym (ap (λ kind. section_breaks (interface_of raw) ++ interface_large kind (interface_of raw)) h.1) ∙ h.0

valued : (sections : List (List Declaration)) (values : List RawInitial) → breaks_in most_in_block sections ≡ []
    → values_in sections values ≡ [] → valued_breaks sections values ≡ []
valued sections values e f =
    ap (λ bs. bs ++ cond (is_some (first_of_all bs)) [] (values_in sections values)) e ∙ f

judged : (raw : RawBlock) (values : List RawInitial) → IsWhole raw → instance_values (Some raw) values ≡ [] → values_in (interface_of raw) values ≡ []
judged raw values w h = sym (ap (λ bs. cond (is_some (first_of_all bs)) [] (values_in (interface_of raw) values)) w) ∙ h

in_instance : (values : List RawInitial) (o : Option RawBlock) → IfSome o IsFunctionBlock → is_none o ≡ false → instance_values o values ≡ []
    → bytes_in values o ≡ Some (bytes_with (sections_of o) values)
in_instance values None w none h = absurd cc
in_instance values (Some raw) w none h =
    bytes_are values (interface_of raw) (valued (interface_of raw) values (as_data raw w) (judged raw values w.0 h))

-- a rule that is not broken where something does not hold
holds : (b : Bool) (line : Line) (rule : Reason) → broken_if b line rule ≡ [] → b ≡ false
holds true line rule h = absurd cc
holds false line rule h = refl

-- the bytes of an instance, by the number of its function block
instance_bytes : (text : RawProgram) (line : Line) (values : List RawInitial) (fb : Result ℕ Reason) → All IsWhole text.blocks
    → fb_breaks line text fb ++ instance_values (block_found text block.Fb fb) values ≡ []
    → bytes_in values (block_found text block.Fb fb) ≡ Some (bytes_with (sections_of (block_found text block.Fb fb)) values)
instance_bytes text line values (Err reason) all h = absurd cc
instance_bytes text line values (Ok n) all h =
    let found = block_numbered text block.Fb n in
    let own = front_empty (fb_breaks line text (Ok n)) (instance_values found values) h in
    in_instance values found (found_whole text.symbols n text.blocks all)
    (holds (is_none found) line UnknownBlock
    (front_empty (broken_if (is_none found) line UnknownBlock) (broken_if (not (may_have block.Fb n)) line BadAddress) own))
    (back_empty (fb_breaks line text (Ok n)) (instance_values found values) h)

kept_bytes : (text : RawProgram) (line : Line) (values : List RawInitial) (kind : RawDataKind) → All IsWhole text.blocks
    → content_breaks text line values kind ≡ [] → bytes_kept text values kind ≡ Some (bytes_with (sections_in text kind) values)
kept_bytes text line values (data_kind.Own decls) all h = bytes_are values (decls ∷ []) h
kept_bytes text line values (data_kind.Instance name) all h =
    instance_bytes text line values (block_number text.symbols block.Fb name) all h

data_is : (text : RawProgram) (before : List (BlockKind × ℕ)) (d : RawData) (number : Result ℕ Reason) → All IsWhole text.blocks
    → heading_breaks block.Db d.line before number ≡ [] → content_breaks text d.line d.initial d.kind ≡ []
    → data_by number (bytes_kept text d.initial d.kind) ≡ data_numbered text d number
data_is text before d (Err reason) all h k = absurd cc
data_is text before d (Ok n) all h k =
    ap (data_by (Ok n)) (kept_bytes text d.line d.initial d.kind all k)
    ∙ ap (λ b. cond b (Some (record { number = n; bytes = bytes_with (sections_in text d.kind) d.initial })) None) (number_kept block.Db d.line before n h)

-- an instance by two numbers
abbrev with_numbers : Result ℕ Reason → Result ℕ Reason → Option Instance
with_numbers (Ok db) fb = instance_with db fb
with_numbers (Err reason) fb = None

-- an instance whose numbers break nothing
instance_by_is : (text : RawProgram) (line other : Line) (before : List (BlockKind × ℕ)) (values : List RawInitial) (db fb : Result ℕ Reason)
    → heading_breaks block.Db line before db ≡ [] → fb_breaks other text fb ++ instance_values (block_found text block.Fb fb) values ≡ []
    → instance_by db fb ≡ with_numbers db fb
instance_by_is text line other before values (Err reason) fb h k = absurd cc
instance_by_is text line other before values (Ok db) (Err reason) h k = absurd cc
instance_by_is text line other before values (Ok db) (Ok fb) h k =
    let found = block_numbered text block.Fb fb in
    let own = front_empty (fb_breaks other text (Ok fb)) (instance_values found values) k in
    let low = number_kept block.Db line before db h in
    let its =
    holds_not (may_have block.Fb fb) other BadAddress
    (back_empty (broken_if (is_none found) other UnknownBlock) (broken_if (not (may_have block.Fb fb)) other BadAddress) own) in
    ap (λ b. instance_if (b && nat_le fb 65535) db fb) (and_parts (nat_le 1 db) (nat_le db 65535) low).1
    ∙ ap (λ b. instance_if (true && b) db fb) (and_parts (nat_le 0 fb) (nat_le fb 65535) its).1

instance_is : (text : RawProgram) (before : List (BlockKind × ℕ)) (line : Line) (values : List RawInitial) (kind : RawDataKind) (db : Result ℕ Reason)
    → heading_breaks block.Db line before db ≡ [] → content_breaks text line values kind ≡ []
    → instance_in_kind text db kind ≡ instance_in text kind db
instance_is text before line values (data_kind.Own decls) db h k = refl
instance_is text before line values (data_kind.Instance name) (Err reason) h k = absurd cc
instance_is text before line values (data_kind.Instance name) (Ok db) h k =
    instance_by_is text line line before values (Ok db) (block_number text.symbols block.Fb name) h k

module _ (text : RawProgram) (whole : All IsWhole text.blocks) where
  dbs_kept : (before : List (BlockKind × ℕ)) (dbs : List RawData) → dbs_behind text before dbs ≡ []
      → (filter_map (data_kept true text) dbs ≡ filter_map (data_of text) dbs) × (filter_map (instance_kept text) dbs ≡ filter_map (instance_of text) dbs)
  dbs_kept before [] h = (refl, refl)
  dbs_kept before (d ∷ dbs) h =
      let number : Result ℕ Reason = block_number text.symbols block.Db d.name in
      let heading : List Break = heading_breaks block.Db d.line before number in
      let content : List Break = content_breaks text d.line d.initial d.kind in
      let rest : List Break = dbs_behind text (with_block_number block.Db before number) dbs in
      let own : heading ++ content ≡ [] = front_empty (heading ++ content) rest h in
      let good = front_empty heading content own in
      let filled = back_empty heading content own in
      let more = dbs_kept (with_block_number block.Db before number) dbs (back_empty (heading ++ content) rest h) in (
        ap (λ o. cons_option o (filter_map (data_kept true text) dbs)) (data_is text before d number whole good filled)
            ∙ ap (cons_option (data_of text d)) more.0,
        ap (λ o. cons_option o (filter_map (instance_kept text) dbs)) (instance_is text before d.line d.initial d.kind number good filled)
            ∙ ap (cons_option (instance_of text d)) more.1,
      )

-- data blocks of which there are not too many are kept
few_enough : (o : Option RawData) → one_too_many o ≡ [] → is_none o ≡ true
few_enough None h = refl
few_enough (Some d) h = absurd cc

-- Blocks

name_is : (kind : BlockKind) (line : Line) (before : List (BlockKind × ℕ)) (number : Result ℕ Reason) → heading_breaks kind line before number ≡ []
    → name_within kind number ≡ block_name kind number
name_is kind line before (Ok n) h = ap (λ b. cond b (block_name kind (Ok n)) (Ob 0)) (number_kept kind line before n h)
name_is kind line before (Err reason) h = absurd cc

blocks_kept : (text : RawProgram) (before : List (BlockKind × ℕ)) (raws : List RawBlock) → blocks_behind text before raws ≡ []
    → (map (block_within text) raws ≡ map (block_of text) raws) × All IsWhole raws
blocks_kept text before [] h = (refl, All-nil IsWhole)
blocks_kept text before (raw ∷ raws) h =
    let scope : OperandScope = record { text = text; block = raw } in
    let number : Result ℕ Reason = block_number text.symbols raw.kind raw.name in
    let heading : List Break = heading_breaks raw.kind raw.line before number in
    let variables : List Break = variable_breaks raw in
    let body : List Break = flat_map (instr_breaks scope) raw.body in
    let rest : List Break = blocks_behind text (with_block_number raw.kind before number) raws in
    let own : (heading ++ variables) ++ body ≡ [] = front_empty ((heading ++ variables) ++ body) rest h in
    let both : heading ++ variables ≡ [] = front_empty (heading ++ variables) body own in
    let more = blocks_kept text (with_block_number raw.kind before number) raws (back_empty ((heading ++ variables) ++ body) rest h) in (
      ap (λ name. block_with scope name ∷ map (block_within text) raws) (name_is raw.kind raw.line before number (front_empty heading variables both))
          ∙ ap (λ blocks. block_of text raw ∷ blocks) more.0,
      All-cons IsWhole raw raws (variables_kept raw (back_empty heading variables both)).0 more.1,
    )

-- The whole

abbrev program_with : List DataBlock → List Instance → List Block → List Symbol → Program
program_with dbs instances blocks symbols = record { dbs = dbs; instances = instances; blocks = blocks; symbols = symbols }

same_program : {ds es : List DataBlock} {is js : List Instance} {bs cs : List Block} {ss ts : List Symbol} → ds ≡ es → is ≡ js → bs ≡ cs → ss ≡ ts
    → program_with ds is bs ss ≡ program_with es js cs ts
same_program {ds} {es} {is} {js} {bs} {cs} {ss} {ts} d i b s =
    ap (λ x. program_with x is bs ss) d ∙ ap (λ x. program_with es x bs ss) i ∙ ap (λ x. program_with es js x ss) b ∙ ap (λ x. program_with es js cs x) s

module _ (raw : RawProgram) where
  pub refused_at : (first : Break) → Some first ≡ first_of_all (names raw) → resolved_program raw ≡ Err (Refused first.line first.rule)
  refused_at first h = sym (ap (program_unless raw) h)

  pub accepted_as : (dbs : List DataBlock) (instances : List Instance) (blocks : List Block) (symbols : List Symbol) → None ≡ first_of_all (names raw)
      → dbs ≡ in_order (filter_map (data_kept (is_none (slice_get raw.dbs MOST_BLOCKS)) raw) raw.dbs)
      → instances ≡ filter_map (instance_kept raw) raw.dbs
      → blocks ≡ map (block_within raw) raw.blocks → symbols ≡ filter_map symbol_kept raw.symbols
      → resolved_program raw ≡ Ok (record { dbs = dbs; instances = instances; blocks = blocks; symbols = symbols })
  accepted_as dbs instances blocks symbols h d i b s =
      let empty : names raw ≡ [] = first_of_all_is_first.none (names raw) (sym h) in
      let own_symbols : List Break = symbols_behind [] raw.symbols in
      let own_dbs : List Break = dbs_behind raw [] raw.dbs in
      let many : List Break = one_too_many (slice_get raw.dbs MOST_BLOCKS) in
      let own_blocks : List Break = blocks_behind raw [] raw.blocks in
      let front : (own_symbols ++ own_dbs) ++ many ≡ [] = front_empty ((own_symbols ++ own_dbs) ++ many) own_blocks empty in
      let two : own_symbols ++ own_dbs ≡ [] = front_empty (own_symbols ++ own_dbs) many front in
      let keep : is_none (slice_get raw.dbs MOST_BLOCKS) ≡ true = few_enough (slice_get raw.dbs MOST_BLOCKS) (back_empty (own_symbols ++ own_dbs) many front) in
      let of_blocks = blocks_kept raw [] raw.blocks (back_empty ((own_symbols ++ own_dbs) ++ many) own_blocks empty) in
      let of_dbs = dbs_kept raw of_blocks.1 [] raw.dbs (back_empty own_symbols own_dbs two) in
      let dbs_are : dbs ≡ in_order (filter_map (data_of raw) raw.dbs)
      = d ∙ ap (λ b. in_order (filter_map (data_kept b raw) raw.dbs)) keep ∙ ap in_order of_dbs.0 in
      let symbols_are : symbols ≡ filter_map symbol_of raw.symbols = s ∙ symbols_kept [] raw.symbols (front_empty own_symbols own_dbs two) in
      sym (ap (program_unless raw) h)
      ∙ ap (λ (p : Program). Ok p) (sym (same_program dbs_are (i ∙ of_dbs.1) (b ∙ of_blocks.0) symbols_are))

pub ruleset resolve_laws = (refused_at, accepted_as)
