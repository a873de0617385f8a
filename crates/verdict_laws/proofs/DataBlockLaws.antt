-- The data blocks of a program are ones that a memory may have.
use Rattle.std.proofs.Common.{◌≡◌, ◌⊎◌, inl, inr, get_or, ℕ, suc, ◌+◌, ◌*◌, ◌^◌, ◌<◌, ◌≤◌, List, [], ◌∷◌, ◌++◌, length, take, drop, Bool, true, false, cond, not, if◌then◌else◌, Option, Some, None, Result, Ok, Err, refl, sym, ap, subst, ◌∙◌, arith, length-append, length-drop}
use Rattle.std.specs.Prelude.{All, IfSome, nat_lt, option_map, slice_get, ◌==◌, ◌&&◌, ◌||◌}
use Rattle.std.specs.List.{cons_option, filter_map, find, flat_map, fold}
use Rattle.std.proofs.lemmas.Bool.{and_parts, both_ways, eq-eqb, ltb-false, ltb-true, not-false}
use Rattle.std.proofs.lemmas.List.{length-take-le}
use Rattle.std.proofs.lemmas.List.Elements.{All-cons, All-head, All-nil, All-tail}
use Rattle.std.proofs.lemmas.List.Folds.{list_any-append}
use Rattle.std.proofs.lemmas.Option.{slice_get_cases}
use Rattle.memory_areas.specs.Areas.{AreBlocks, Ascend, IsSized, byte_at, byte_with, bytes_of_dword, bytes_of_word, insert_data_block, numbers_of, overwrite}
use Rattle.memory_areas.specs.declared.data_block.DataBlock.{DataBlock}
use Rattle.memory_areas.specs.declared.sizes.TheConstants.{LEAST_BLOCK_BYTES, MOST_BLOCKS, MOST_BLOCK_BYTES}
use Rattle.s7_base.specs.declared.reason.Line.{Line}
use Rattle.s7_base.specs.declared.reason.Reason.{Reason}
use Rattle.s7_base.specs.declared.reason.Reason.TheVariants.{BadAddress, DuplicateBlock}
use Rattle.s7_base.specs.declared.word.Width.{Width}
use Rattle.s7_base.specs.declared.word.Width.TheVariants as width
use Rattle.stl_statement_grammar.specs.Constants.{value_in}
use Rattle.stl_tree.specs.Accumulators.{part}
use Rattle.stl_tree.specs.declared.raw.BlockKind.{BlockKind}
use Rattle.stl_tree.specs.declared.raw.BlockKind.TheVariants as block
use Rattle.stl_tree.specs.declared.raw.Constant.{Constant}
use Rattle.stl_tree.specs.declared.raw.Declaration.{Declaration}
use Rattle.stl_tree.specs.declared.raw.ElemType.{ElemType}
use Rattle.stl_tree.specs.declared.raw.RawBlock.{RawBlock}
use Rattle.stl_tree.specs.declared.raw.RawData.{RawData}
use Rattle.stl_tree.specs.declared.raw.RawDataKind.{RawDataKind}
use Rattle.stl_tree.specs.declared.raw.RawDataKind.TheVariants as data_kind
use Rattle.stl_tree.specs.declared.raw.RawInitial.{RawInitial}
use Rattle.stl_tree.specs.declared.raw.RawProgram.{RawProgram}
use Rattle.stl_tree.specs.declared.raw.SymbolLine.{SymbolLine}
use Rattle.stl_rules.specs.DataBlocks.{bytes_with, data_numbered, data_of, in_order, or_two, sections_in, sections_of, with_constant, with_number, with_value, with_value_at}
use Rattle.stl_rules.specs.DeclarationRules.{elementary, section_breaks}
use Rattle.stl_rules.specs.Extents.{end_of_sections, extent_of, extent_of_width, width_of}
use Rattle.stl_rules.specs.Layouts.{breaks_in, initial_of}
use Rattle.stl_rules.specs.Names.{block_found, block_number, block_numbered, is_block, is_number, is_same_kind, may_have}
use Rattle.stl_rules.specs.Paths.{Placed, component_at, named_by_path}
use Rattle.stl_rules.specs.Interfaces.{are_refused, interface_breaks, interface_large, interface_of, most_in_block}
use Rattle.stl_rules.specs.BodyRules.{broken_if}
use Rattle.stl_rules.specs.Stages.{content_breaks, dbs_behind, heading_breaks, initial_breaks, is_among, one_too_many, with_block_number}
use Rattle.stl_rules.specs.TooLarge.{length_to}
use Rattle.stl_rules.specs.declared.layout.Component.{Component}
use Rattle.stl_rules.proofs.Components.{LiesIn, found_in_sections}
use Rattle.stl_rules.proofs.Ends.{of_elementary}
use Rattle.stl_rules.proofs.Lengths.{AreSized, are_sized}
use Rattle.stl_rules.proofs.Lists.{few_made, no_parts}
use Rattle.verdict_laws.proofs.ProgramLaws.{found_is, opened}

-- Values

length_replaced : (bytes : List ℕ) (i : ℕ) (new : List ℕ) → i + length new ≤ length bytes → length (overwrite bytes i new) ≡ length bytes
length_replaced bytes i new h =
    let front = length-take-le i bytes (omega (arith, h)) in
    let before = length-append (take i bytes) new in
    let whole = length-append (take i bytes ++ new) (drop (i + length new) bytes) in
    let dropped = length-drop (i + length new) bytes in
    omega (arith, front, before, whole, dropped, h)

-- bytes keep their length where a number of a width is written that lies inside them
numbered : (bytes : List ℕ) (at : Component) (w : Width) (n : ℕ) → at.byte * 8 + (extent_of_width w).bits ≤ length bytes * 8
    → length (with_number bytes at w n) ≡ length bytes
numbered bytes at width.Bit n h =
    length_replaced bytes at.byte (byte_with (byte_at bytes at.byte) at.bit (n == 1) ∷ []) (omega (arith, h))
numbered bytes at width.Byte n h = length_replaced bytes at.byte (n ∷ []) (omega (arith, h))
numbered bytes at width.Word n h = length_replaced bytes at.byte (bytes_of_word n) (omega (arith, h))
numbered bytes at width.Dword n h = length_replaced bytes at.byte (bytes_of_dword n) (omega (arith, h))

pub small : most_in_block < 2 ^ 32
small = omega arith

-- a place inside sections, whose bytes are as many
module _ (sections : List (List Declaration)) (s : AreSized most_in_block small sections) where
  abbrev pub end : ℕ
  end = end_of_sections 0 sections

  of_kind : (bytes : List ℕ) (c : Constant) (at : Placed) (o : Option ElemType) → elementary at.1 ≡ o → LiesIn end at
      → length bytes ≡ length_to end → length (with_constant bytes (component_at at) c o) ≡ length bytes
  of_kind bytes c at None k l h = refl
  of_kind bytes c at (Some e) k l h =
      let low = s.within in
      let inside = l.within in
      let wide : (extent_of at.1).bits ≡ (extent_of_width (width_of e)).bits = ap (λ x. x.bits) (of_elementary at.1 e k) in
      numbered bytes (component_at at) (width_of e) (part (width_of e) (value_in (width_of e) c)) (omega (arith, low, inside, wide, h))

  valued : (bytes : List ℕ) (c : Constant) (o : Option Placed) → IfSome o (LiesIn end)
      → length bytes ≡ length_to end → length (with_value_at bytes c (option_map component_at o)) ≡ length bytes
  valued bytes c None l h = refl
  valued bytes c (Some at) l h = of_kind bytes c at (elementary at.1) refl l h

  all_valued : (values : List RawInitial) (bytes : List ℕ) → length bytes ≡ length_to end
      → length (fold (with_value sections) bytes values) ≡ length_to end
  all_valued [] bytes h = h
  all_valued (v ∷ values) bytes h =
      all_valued values (with_value sections bytes v)
      (valued bytes v.value (named_by_path sections v.path) (found_in_sections sections v.path) h ∙ h)

  -- at least two bytes, and at least those of the sections
  pub record Holds (bytes : List ℕ) : Type 0 where
    pub two : LEAST_BLOCK_BYTES ≤ length bytes
    pub few : length bytes ≤ MOST_BLOCK_BYTES
    pub all : length_to end ≤ length bytes

  two_at_least : (bytes : List ℕ) → length bytes ≡ length_to end → Holds (or_two bytes)
  two_at_least [] h = record { two = omega arith; few = omega arith; all = omega (arith, h) }
  two_at_least (b ∷ bytes) h =
      let low = s.within in
      let some : 1 ≤ length (b ∷ bytes) = omega arith in
      record { two = omega (arith, h, some); few = omega (arith, low, h); all = omega (arith, h) }

  pub bytes_held : (values : List RawInitial) → Holds (bytes_with sections values)
  bytes_held values = two_at_least (fold (with_value sections) (initial_of sections) values) (all_valued values (initial_of sections) s.is)

-- Headings

pub not_broken : (b : Bool) (line : Line) (rule : Reason) → broken_if b line rule ≡ [] → b ≡ false
not_broken true line rule e = absurd cc
not_broken false line rule e = refl

-- a heading that breaks no rule has a number of its kind that none of its kind has before
pub numbers : (kind : BlockKind) (line : Line) (before : List (BlockKind × ℕ)) (n : ℕ) → heading_breaks kind line before (Ok n) ≡ []
    → (may_have kind n ≡ true) × (is_among kind n before ≡ false)
numbers kind line before n e =
    let parts = no_parts (broken_if (not (may_have kind n)) line BadAddress) (broken_if (is_among kind n before) line DuplicateBlock) e in
    (not-false (may_have kind n) (not_broken (not (may_have kind n)) line BadAddress parts.0), not_broken (is_among kind n before) line DuplicateBlock parts.1)

pub stays_among : (other : BlockKind) (m : ℕ) (kind : BlockKind) (before : List (BlockKind × ℕ)) (r : Result ℕ Reason)
    → is_among other m before ≡ true → is_among other m (with_block_number kind before r) ≡ true
stays_among other m kind before (Err reason) h = h
stays_among other m kind before (Ok n) h =
    list_any-append (λ (b : BlockKind × ℕ). is_same_kind other b.0 && b.1 == m) before ((kind, n) ∷ [])
    ∙ ap (λ b. b || is_among other m ((kind, n) ∷ [])) h

pub comes_among : (kind : BlockKind) (n : ℕ) (before : List (BlockKind × ℕ)) → is_among kind n (with_block_number kind before (Ok n)) ≡ true
comes_among kind n before =
    list_any-append (λ (b : BlockKind × ℕ). is_same_kind kind b.0 && b.1 == n) before ((kind, n) ∷ [])
    ∙ last (is_among kind n before) (is_same_kind kind kind && n == n) (itself kind)
  where
    itself : (kind : BlockKind) → (is_same_kind kind kind && n == n) ≡ true
    itself block.Ob = eq-eqb n n refl
    itself block.Fc = eq-eqb n n refl
    itself block.Fb = eq-eqb n n refl
    itself block.Db = eq-eqb n n refl

    last : (a b : Bool) → b ≡ true → (a || (b || false)) ≡ true
    last true b h = refl
    last false true h = refl
    last false false h = absurd cc

-- Order

-- no block of some has a number
abbrev Absent : ℕ → List DataBlock → Type 0
Absent n blocks = All (λ (b : DataBlock). b.number ≡ n → ⊥) blocks

ascends : (b : DataBlock) (rest : List DataBlock) (least : ℕ) → least ≤ b.number → Absent b.number rest → Ascend least (numbers_of rest)
    → Ascend least (numbers_of (insert_data_block b rest))
ascends b [] least h apart a = (h, tt)
ascends b (c ∷ rest) least h apart a =
    by (nat_lt c.number b.number) refl (λ g. ascends b rest (c.number + 1) g (All-tail (λ (x : DataBlock). x.number ≡ b.number → ⊥) c rest apart) a.1)
  where
    by : (t : Bool) → nat_lt c.number b.number ≡ t → (c.number + 1 ≤ b.number → Ascend (c.number + 1) (numbers_of (insert_data_block b rest)))
        → Ascend least (numbers_of (if t then c ∷ insert_data_block b rest else b ∷ c ∷ rest))
    by true e more = (a.0, more (omega (arith, ltb-true c.number b.number e)))
    by false e more =
        let other : c.number ≡ b.number → ⊥ = All-head (λ (x : DataBlock). x.number ≡ b.number → ⊥) c rest apart in
        (h, (omega (arith, ltb-false c.number b.number e, other), a.1))

-- what holds of all holds of all in order
all_inserted : (P : DataBlock → Type 0) (b : DataBlock) (rest : List DataBlock) → P b → All P rest → All P (insert_data_block b rest)
all_inserted P b [] h all = All-cons P b [] h all
all_inserted P b (c ∷ rest) h all =
    by (nat_lt c.number b.number) (all_inserted P b rest h (All-tail P c rest all))
  where
    by : (t : Bool) → All P (insert_data_block b rest) → All P (if t then c ∷ insert_data_block b rest else b ∷ c ∷ rest)
    by true more = All-cons P c (insert_data_block b rest) (All-head P c rest all) more
    by false more = All-cons P b (c ∷ rest) h all

all_in_order : (P : DataBlock → Type 0) (blocks : List DataBlock) → All P blocks → All P (in_order blocks)
all_in_order P [] all = all
all_in_order P (b ∷ rest) all = all_inserted P b (in_order rest) (All-head P b rest all) (all_in_order P rest (All-tail P b rest all))

as_many : (b : DataBlock) (rest : List DataBlock) → length (insert_data_block b rest) ≡ suc (length rest)
as_many b [] = refl
as_many b (c ∷ rest) = by (nat_lt c.number b.number) (as_many b rest)
  where
    by : (t : Bool) → length (insert_data_block b rest) ≡ suc (length rest)
        → length (if t then c ∷ insert_data_block b rest else b ∷ c ∷ rest) ≡ suc (length (c ∷ rest))
    by true h = ap suc h
    by false h = refl

all_as_many : (blocks : List DataBlock) → length (in_order blocks) ≡ length blocks
all_as_many [] = refl
all_as_many (b ∷ rest) = as_many b (in_order rest) ∙ ap suc (all_as_many rest)

-- Data blocks

-- what data blocks become that stand behind these
record AreKept (before : List (BlockKind × ℕ)) (blocks : List DataBlock) : Type 0 where
  ascend : Ascend 1 (numbers_of (in_order blocks))
  sized : All IsSized blocks
  others : (n : ℕ) → is_among block.Db n before ≡ true → Absent n blocks

-- a data block has the number of its heading and a size that one may have
abbrev IsMade : ℕ → DataBlock → Type 0
IsMade n b = (b.number ≡ n) × IsSized b

-- the interface of a function block breaks no rule by itself
abbrev pub HasInterface : RawBlock → Type 0
HasInterface raw = interface_breaks raw ≡ []

-- a function block of the text
found_kind : (symbols : List SymbolLine) (n : ℕ) (raws : List RawBlock)
    → IfSome (find (is_block symbols block.Fb n) raws) (λ (raw : RawBlock). raw.kind ≡ block.Fb)
found_kind symbols n [] = tt
found_kind symbols n (raw ∷ raws) = by (is_block symbols block.Fb n raw) refl (found_kind symbols n raws)
  where
    its_kind : (kind : BlockKind) → is_same_kind block.Fb kind ≡ true → kind ≡ block.Fb
    its_kind block.Fb e = refl
    its_kind other e = absurd cc

    by : (b : Bool) → is_block symbols block.Fb n raw ≡ b
        → IfSome (find (is_block symbols block.Fb n) raws) (λ (x : RawBlock). x.kind ≡ block.Fb)
        → IfSome (cond b (Some raw) (find (is_block symbols block.Fb n) raws)) (λ (x : RawBlock). x.kind ≡ block.Fb)
    by true e more =
        its_kind raw.kind (and_parts (is_same_kind block.Fb raw.kind) (is_number n (block_number symbols raw.kind raw.name)) e).0
    by false e more = more

pub sized_interface : (raw : RawBlock) → raw.kind ≡ block.Fb → HasInterface raw → AreSized most_in_block small (interface_of raw)
sized_interface raw kind e =
    are_sized most_in_block small (interface_of raw)
    (sym (ap (λ k. section_breaks (interface_of raw) ++ interface_large k (interface_of raw)) kind) ∙ e)

-- the sections of a data block that breaks no rule
sized_found : (o : Option RawBlock) → IfSome o (λ (raw : RawBlock). raw.kind ≡ block.Fb) → IfSome o HasInterface
    → AreSized most_in_block small (sections_of o)
sized_found None kind h = record { is = refl; within = omega arith }
sized_found (Some raw) kind h = sized_interface raw kind h

sized_fb : (text : RawProgram) (r : Result ℕ Reason) → All HasInterface text.blocks
    → AreSized most_in_block small (sections_of (block_found text block.Fb r))
sized_fb text (Err reason) all = record { is = refl; within = omega arith }
sized_fb text (Ok n) all =
    sized_found (block_numbered text block.Fb n) (found_kind text.symbols n text.blocks)
    (found_is HasInterface (is_block text.symbols block.Fb n) text.blocks all)

pub sized_kind : (text : RawProgram) (line : Line) (values : List RawInitial) (kind : RawDataKind) → All HasInterface text.blocks
    → content_breaks text line values kind ≡ [] → AreSized most_in_block small (sections_in text kind)
sized_kind text line values (data_kind.Own decls) all e =
    are_sized most_in_block small (decls ∷ [])
    (no_parts (breaks_in most_in_block (decls ∷ []))
    (if are_refused most_in_block (decls ∷ []) then [] else flat_map (initial_breaks (decls ∷ [])) values) e).0
sized_kind text line values (data_kind.Instance name) all e = sized_fb text (block_number text.symbols block.Fb name) all

made : (text : RawProgram) (n : ℕ) (d : RawData) → All HasInterface text.blocks → content_breaks text d.line d.initial d.kind ≡ []
    → IsMade n (record { number = n; bytes = bytes_with (sections_in text d.kind) d.initial })
made text n d all e =
    let h = bytes_held (sections_in text d.kind) (sized_kind text d.line d.initial d.kind all e) d.initial in (refl, (h.two, h.few))

with_one : (n : ℕ) (before : List (BlockKind × ℕ)) (b : DataBlock) (rest : List DataBlock)
    → 1 ≤ n → is_among block.Db n before ≡ false → IsMade n b
    → AreKept (with_block_number block.Db before (Ok n)) rest → AreKept before (b ∷ rest)
with_one n before b rest low new is k =
    record {
      ascend = ascends b (in_order rest) 1 (omega (arith, low, is.0)) (all_in_order (λ (x : DataBlock). x.number ≡ b.number → ⊥) rest apart) k.ascend;
      sized = All-cons IsSized b rest is.1 k.sized;
      others = λ m h.
          All-cons (λ (x : DataBlock). x.number ≡ m → ⊥) b rest
          (λ e. absurd (both_ways (is_among block.Db n before) new (subst (λ i. is_among block.Db i before ≡ true) (sym e ∙ is.0) h)))
          (k.others m (stays_among block.Db m block.Db before (Ok n) h));
    }
  where
    apart : Absent b.number rest
    apart = subst (λ i. Absent i rest) (sym is.0) (k.others n (comes_among block.Db n before))

headed : (text : RawProgram) (d : RawData) (before : List (BlockKind × ℕ)) (r : Result ℕ Reason) (rest : List DataBlock) → All HasInterface text.blocks
    → heading_breaks block.Db d.line before r ≡ []
    → content_breaks text d.line d.initial d.kind ≡ [] → AreKept (with_block_number block.Db before r) rest
    → AreKept before (cons_option (data_numbered text d r) rest)
headed text d before (Err reason) rest all e f k = absurd cc
headed text d before (Ok n) rest all e f k =
    let h = numbers block.Db d.line before n e in
    with_one n before (record { number = n; bytes = bytes_with (sections_in text d.kind) d.initial }) rest (opened n h.0).0 h.1 (made text n d all f) k

-- the rules that data blocks keep, one by one
pub record Parts (text : RawProgram) (before : List (BlockKind × ℕ)) (d : RawData) (dbs : List RawData) : Type 0 where
  pub heading : heading_breaks block.Db d.line before (block_number text.symbols block.Db d.name) ≡ []
  pub content : content_breaks text d.line d.initial d.kind ≡ []
  pub more : dbs_behind text (with_block_number block.Db before (block_number text.symbols block.Db d.name)) dbs ≡ []

pub parts_of : (text : RawProgram) (before : List (BlockKind × ℕ)) (d : RawData) (dbs : List RawData) → dbs_behind text before (d ∷ dbs) ≡ []
    → Parts text before d dbs
parts_of text before d dbs e =
    let number = block_number text.symbols block.Db d.name in
    let all = no_parts (heading_breaks block.Db d.line before number ++ content_breaks text d.line d.initial d.kind)
    (dbs_behind text (with_block_number block.Db before number) dbs) e in
    let own = no_parts (heading_breaks block.Db d.line before number) (content_breaks text d.line d.initial d.kind) all.0 in
    record { heading = own.0; content = own.1; more = all.1 }

kept : (text : RawProgram) (before : List (BlockKind × ℕ)) (dbs : List RawData) → All HasInterface text.blocks → dbs_behind text before dbs ≡ []
    → AreKept before (filter_map (data_of text) dbs)
kept text before [] all e = record { ascend = tt; sized = All-nil IsSized; others = λ n h. All-nil (λ (x : DataBlock). x.number ≡ n → ⊥) }
kept text before (d ∷ dbs) all e =
    let number = block_number text.symbols block.Db d.name in
    let p = parts_of text before d dbs e in
    headed text d before number (filter_map (data_of text) dbs) all p.heading p.content (kept text (with_block_number block.Db before number) dbs all p.more)

few_blocks : (dbs : List RawData) → one_too_many (slice_get dbs MOST_BLOCKS) ≡ [] → length dbs ≤ MOST_BLOCKS
few_blocks dbs e = by (slice_get_cases dbs MOST_BLOCKS).1
  where
    told : (d : RawData) → slice_get dbs MOST_BLOCKS ≡ Some d → ⊥
    told d is = let some : one_too_many (Some d) ≡ [] = sym (ap one_too_many is) ∙ e in cc

    by : ((d : RawData) × (MOST_BLOCKS < length dbs) × (slice_get dbs MOST_BLOCKS ≡ Some d) × (get_or dbs MOST_BLOCKS d ≡ d))
        ⊎ ((length dbs ≤ MOST_BLOCKS) × (slice_get dbs MOST_BLOCKS ≡ None))
        → length dbs ≤ MOST_BLOCKS
    by (inl some) = absurd (told some.0 some.2)
    by (inr none) = none.0

-- the data blocks of a program are ones that a memory may have
pub are_blocks : (text : RawProgram) → All HasInterface text.blocks → dbs_behind text [] text.dbs ≡ []
    → one_too_many (slice_get text.dbs MOST_BLOCKS) ≡ [] → AreBlocks (in_order (filter_map (data_of text) text.dbs))
are_blocks text all e few =
    let k = kept text [] text.dbs all e in
    let count = all_as_many (filter_map (data_of text) text.dbs) in
    let made_of = few_made (data_of text) text.dbs in
    let read = few_blocks text.dbs few in
    record {
      ascend = k.ascend;
      few = omega (arith, count, made_of, read);
      sized = all_in_order IsSized (filter_map (data_of text) text.dbs) k.sized;
    }
