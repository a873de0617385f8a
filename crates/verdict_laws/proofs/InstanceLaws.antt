-- The instances of a program are instances: their function blocks are there, and the formals of these lie in their bytes.
use Rattle.std.proofs.Common.{◌≡◌, ℕ, ◌+◌, ◌<◌, ◌≤◌, List, [], ◌∷◌, length, map, Bool, true, false, not, ◌&&◌, ◌==◌, if◌then◌else◌, Option, Some, None, Result, Ok, Err, refl, sym, ap, subst, ◌∙◌, arith, eqb-true}
use Rattle.std.specs.Prelude.{All, IfSome, is_none, nat_lt, option_and_then, option_map}
use Rattle.std.specs.List.{cons_option, filter_map, position_or_len}
use Rattle.std.specs.Option.{is_some}
use Rattle.std.proofs.lemmas.Bool.{both_ways, eq-eqb, le-ltb, ltb-true, ne_eqb}
use Rattle.std.proofs.lemmas.List.{length-map}
use Rattle.std.proofs.lemmas.List.Elements.{All-cons, All-map, All-nil, All-weaker}
use Rattle.std.proofs.lemmas.Option.{slice_get-map}
use Rattle.memory_areas.specs.Access.{bytes_there, bytes_wide, first_fault, is_unaligned, or_none}
use Rattle.memory_areas.specs.Areas.{block_of as data_block_of, bytes_in, fresh, insert_data_block}
use Rattle.memory_areas.specs.declared.call.BlockName.TheVariants as name
use Rattle.memory_areas.specs.declared.place.Area.TheVariants as area
use Rattle.memory_areas.specs.declared.data_block.DataBlock.{DataBlock}
use Rattle.s7_base.specs.declared.outcome.Fault.TheVariants.{DbNotOpen, DbMissing, AreaCode, Alignment, AreaLength}
use Rattle.s7_base.specs.declared.reason.Reason.{Reason}
use Rattle.s7_base.specs.declared.reason.Reason.TheVariants.{BadAddress, UnknownBlock}
use Rattle.s7_base.specs.declared.word.Width.{Width}
use Rattle.s7_base.specs.declared.word.Width.TheVariants as width
use Rattle.stl_rules.specs.BodyRules.{broken_if}
use Rattle.stl_rules.specs.DataBlocks.{bytes_with, data_numbered, data_of, in_order, instance_in, instance_of as instance_made, instance_with, sections_in, sections_of}
use Rattle.stl_rules.specs.Extents.{end_of_sections}
use Rattle.stl_rules.specs.Interfaces.{formal_at, formals_by, formals_in, formals_of, instance_of, interface_of}
use Rattle.stl_rules.specs.Names.{block_found, block_number, block_numbered, db_numbered, is_block, is_number, is_same_kind, may_have}
use Rattle.stl_rules.specs.Paths.{component_in}
use Rattle.stl_rules.specs.Programs.{block_name, block_of, program_of}
use Rattle.stl_rules.specs.Stages.{content_breaks, dbs_behind, fb_breaks, heading_breaks, instance_values, is_among, with_block_number}
use Rattle.stl_rules.specs.TooLarge.{length_to}
use Rattle.stl_rules.proofs.Lists.{all_made, no_parts}
use Rattle.stl_tree.specs.Accepted.{IsFormal, IsInstanceOf, LiesInInstance, formals_named}
use Rattle.stl_tree.specs.Calls.{formals_of as formals_of_block}
use Rattle.stl_tree.specs.StlRun.{block_at, block_named, is_same_name}
use Rattle.stl_tree.specs.declared.program.Block.{Block}
use Rattle.stl_tree.specs.declared.program.Formal.{Formal}
use Rattle.stl_tree.specs.declared.program.Mode.{Mode}
use Rattle.stl_tree.specs.declared.raw.BlockKind.{BlockKind}
use Rattle.stl_tree.specs.declared.raw.BlockKind.TheVariants as block
use Rattle.stl_tree.specs.declared.raw.Declaration.{Declaration}
use Rattle.stl_tree.specs.declared.raw.PathStep.TheVariants as step
use Rattle.stl_tree.specs.declared.raw.RawBlock.{RawBlock}
use Rattle.stl_tree.specs.declared.raw.RawData.{RawData}
use Rattle.stl_tree.specs.declared.raw.RawDataKind.{RawDataKind}
use Rattle.stl_tree.specs.declared.raw.RawDataKind.TheVariants as data_kind
use Rattle.stl_tree.specs.declared.raw.RawName.{RawName}
use Rattle.stl_tree.specs.declared.raw.RawProgram.{RawProgram}
use Rattle.verdict_laws.proofs.CallLaws.{numbered_found, place_found, position_found}
use Rattle.verdict_laws.proofs.DataBlockLaws.{HasInterface, bytes_held, comes_among, numbers, parts_of, sized_interface, sized_kind, stays_among}
use Rattle.verdict_laws.proofs.FormalLaws.{IsElementary, Stands, all_both, formals_stand}
use Rattle.verdict_laws.proofs.ProgramLaws.{found_is, opened}

-- Formals of a block

-- the formals of a block are of elementary types
abbrev pub HasSimpleFormals : RawBlock → Type 0
HasSimpleFormals raw = All (λ (f : Mode × Declaration). IsElementary f.1) (formals_by raw)

-- the bytes of an interface
abbrev size_of : RawBlock → ℕ
size_of raw = length_to (end_of_sections 0 (interface_of raw))

-- the formals of a block, of a kind
abbrev made_for : RawBlock → BlockKind → List Formal
made_for raw kind =
    map (λ (f : Mode × Declaration). formal_at f (component_in (instance_of raw kind) (step.Name f.1.name ∷ []))) (formals_in raw kind)

-- those of a function block lie in its interface
stand_inside : (raw : RawBlock) → raw.kind ≡ block.Fb → HasInterface raw → HasSimpleFormals raw → All (Stands (size_of raw)) (made_for raw block.Fb)
stand_inside raw kind e types =
    let s = sized_interface raw kind e in
    let low = s.within in
    All-map (Stands (size_of raw)) (λ (f : Mode × Declaration). formal_at f (component_in (interface_of raw) (step.Name f.1.name ∷ []))) (formals_by raw)
    (formals_stand raw e low types)

pub formals_inside : (raw : RawBlock) → raw.kind ≡ block.Fb → HasInterface raw → HasSimpleFormals raw → All (Stands (size_of raw)) (formals_of raw)
formals_inside raw kind e types = subst (λ k. All (Stands (size_of raw)) (made_for raw k)) (sym kind) (stand_inside raw kind e types)

at_zero : (w : Width) → is_unaligned w 0 ≡ false
at_zero width.Bit = refl
at_zero width.Byte = refl
at_zero width.Word = refl
at_zero width.Dword = refl

pub formals_aligned : (raw : RawBlock) → HasInterface raw → HasSimpleFormals raw → All IsFormal (formals_of raw)
formals_aligned raw e types = by raw.kind refl
  where
    by : (kind : BlockKind) → raw.kind ≡ kind → All IsFormal (made_for raw kind)
    by block.Fb k = All-weaker (Stands (size_of raw)) IsFormal (λ f s. s.aligned) (made_for raw block.Fb) (stand_inside raw k e types)
    by block.Fc k =
        All-map IsFormal (λ (f : Mode × Declaration). formal_at f (component_in [] (step.Name f.1.name ∷ []))) (formals_by raw)
        (All-weaker (λ (f : Mode × Declaration). IsElementary f.1) (λ (f : Mode × Declaration). IsFormal (formal_at f None))
        (λ f t. at_zero (formal_at f None).width) (formals_by raw) types)
    by block.Ob k = All-nil IsFormal
    by block.Db k = All-nil IsFormal

-- Blocks by their names

same_test : (n : ℕ) (kind : BlockKind) (r : Result ℕ Reason)
    → is_same_name (block_name kind r) (name.Fb n) ≡ (is_same_kind block.Fb kind && is_number n r)
same_test n block.Fb (Ok m) = refl
same_test n block.Fb (Err reason) = refl
same_test n block.Fc (Ok m) = refl
same_test n block.Fc (Err reason) = refl
same_test n block.Ob (Ok m) = refl
same_test n block.Ob (Err reason) = refl
same_test n block.Db (Ok m) = refl
same_test n block.Db (Err reason) = refl

place_mapped : (text : RawProgram) (n : ℕ) (raws : List RawBlock)
    → position_or_len (λ (b : Block). is_same_name b.name (name.Fb n)) (map (block_of text) raws) ≡ position_or_len (is_block text.symbols block.Fb n) raws
place_mapped text n [] = refl
place_mapped text n (raw ∷ raws) =
    ap (λ b. if not b then 1 + position_or_len (λ (x : Block). is_same_name x.name (name.Fb n)) (map (block_of text) raws) else 0)
    (same_test n raw.kind (block_number text.symbols raw.kind raw.name))
    ∙ ap (λ k. if not (is_block text.symbols block.Fb n raw) then 1 + k else 0) (place_mapped text n raws)

-- the function block of a number is the one that is found in the text
pub fb_named : (text : RawProgram) (n : ℕ) (raw : RawBlock) → block_numbered text block.Fb n ≡ Some raw
    → block_named (name.Fb n) (program_of text).blocks ≡ Some (position_or_len (is_block text.symbols block.Fb n) text.blocks)
fb_named text n raw e =
    ap (λ k. if nat_lt k (length (map (block_of text) text.blocks)) then Some k else None) (place_mapped text n text.blocks)
    ∙ ap (λ l. if nat_lt (position_or_len (is_block text.symbols block.Fb n) text.blocks) l
    then Some (position_or_len (is_block text.symbols block.Fb n) text.blocks) else None) (length-map text.blocks (block_of text))
    ∙ position_found (is_block text.symbols block.Fb n) text.blocks raw e

formals_found : (text : RawProgram) (n : ℕ) (raw : RawBlock) → block_numbered text block.Fb n ≡ Some raw
    → formals_named (name.Fb n) (program_of text).blocks ≡ formals_of raw
formals_found text n raw e =
    let place = position_or_len (is_block text.symbols block.Fb n) text.blocks in
    ap (λ o. formals_of_block (block_at (program_of text).blocks o)) (fb_named text n raw e)
    ∙ ap formals_of_block
    (slice_get-map (block_of text) text.blocks place
    ∙ ap (option_map (block_of text)) (place_found (is_block text.symbols block.Fb n) text.blocks raw e).1)

-- Data blocks by their numbers

-- the order changes nothing
inserted : (n : ℕ) (b : DataBlock) (rest : List DataBlock)
    → data_block_of n (insert_data_block b rest) ≡ (if b.number == n then Some b else data_block_of n rest)
inserted n b [] = refl
inserted n b (c ∷ rest) = by (nat_lt c.number b.number) refl (inserted n b rest)
  where
    passed : c.number < b.number → (p q : Bool) → (c.number == n) ≡ p → (b.number == n) ≡ q
        → data_block_of n (insert_data_block b rest) ≡ (if q then Some b else data_block_of n rest)
        → (if p then Some c else data_block_of n (insert_data_block b rest)) ≡ (if q then Some b else (if p then Some c else data_block_of n rest))
    passed less true true e f more = absurd (omega (arith, less, eqb-true c.number n e, eqb-true b.number n f))
    passed less true false e f more = refl
    passed less false true e f more = more
    passed less false false e f more = more

    by : (t : Bool) → nat_lt c.number b.number ≡ t → data_block_of n (insert_data_block b rest) ≡ (if b.number == n then Some b else data_block_of n rest)
        → data_block_of n (if t then c ∷ insert_data_block b rest else b ∷ c ∷ rest)
        ≡ (if b.number == n then Some b else data_block_of n (c ∷ rest))
    by true e more = passed (ltb-true c.number b.number e) (c.number == n) (b.number == n) refl refl more
    by false e more = refl

ordered : (n : ℕ) (blocks : List DataBlock) → data_block_of n (in_order blocks) ≡ data_block_of n blocks
ordered n [] = refl
ordered n (b ∷ rest) = inserted n b (in_order rest) ∙ ap (λ o. if b.number == n then Some b else o) (ordered n rest)

filtered : (text : RawProgram) (n : ℕ) (dbs : List RawData)
    → data_block_of n (filter_map (data_of text) dbs) ≡ option_and_then (data_of text) (db_numbered text.symbols dbs n)
filtered text n [] = refl
filtered text n (d ∷ dbs) = by (block_number text.symbols block.Db d.name) refl (filtered text n dbs)
  where
    here : (r : Result ℕ Reason) (b : Bool) → block_number text.symbols block.Db d.name ≡ r → data_of text d ≡ data_numbered text d r
    here r b e = ap (data_numbered text d) e

    chosen : (m : ℕ) (b : Bool) → data_of text d ≡ data_numbered text d (Ok m)
        → data_block_of n (filter_map (data_of text) dbs) ≡ option_and_then (data_of text) (db_numbered text.symbols dbs n)
        → (if b then data_numbered text d (Ok m) else data_block_of n (filter_map (data_of text) dbs))
        ≡ option_and_then (data_of text) (if b then Some d else db_numbered text.symbols dbs n)
    chosen m true is more = sym is
    chosen m false is more = more

    by : (r : Result ℕ Reason) → block_number text.symbols block.Db d.name ≡ r
        → data_block_of n (filter_map (data_of text) dbs) ≡ option_and_then (data_of text) (db_numbered text.symbols dbs n)
        → data_block_of n (cons_option (data_numbered text d r) (filter_map (data_of text) dbs))
        ≡ option_and_then (data_of text) (if is_number n r then Some d else db_numbered text.symbols dbs n)
    by (Ok m) e more = chosen m (m == n) (here (Ok m) true e) more
    by (Err reason) e more = more

-- no data block has the number of another
record IsFirst (text : RawProgram) (before : List (BlockKind × ℕ)) (dbs : List RawData) (d : RawData) (m : ℕ) : Type 0 where
  new : is_among block.Db m before ≡ false
  found : db_numbered text.symbols dbs m ≡ Some d
  low : may_have block.Db m ≡ true

abbrev AreFirst : RawProgram → List (BlockKind × ℕ) → List RawData → RawData → Type 0
AreFirst text before dbs d = (m : ℕ) → block_number text.symbols block.Db d.name ≡ Ok m → IsFirst text before dbs d m

first_numbers : (text : RawProgram) (before : List (BlockKind × ℕ)) (dbs : List RawData) → dbs_behind text before dbs ≡ []
    → All (AreFirst text before dbs) dbs
first_numbers text before [] e = All-nil (AreFirst text before [])
first_numbers text before (d ∷ dbs) e =
    let p = parts_of text before d dbs e in
    let number = block_number text.symbols block.Db d.name in
    All-cons (AreFirst text before (d ∷ dbs)) d dbs (λ m is. head m is p.heading)
    (All-weaker (AreFirst text (with_block_number block.Db before number) dbs) (AreFirst text before (d ∷ dbs)) later dbs
    (first_numbers text (with_block_number block.Db before number) dbs p.more))
  where
    head : (m : ℕ) → block_number text.symbols block.Db d.name ≡ Ok m
        → heading_breaks block.Db d.line before (block_number text.symbols block.Db d.name) ≡ [] → IsFirst text before (d ∷ dbs) d m
    head m is h =
        let n = numbers block.Db d.line before m (sym (ap (heading_breaks block.Db d.line before) is) ∙ h) in
        record {
          new = n.1;
          found =
              ap (λ b. if b then Some d else db_numbered text.symbols dbs m)
              (ap (is_number m) is ∙ eq-eqb m m refl);
          low = n.0;
        }

    older : (m : ℕ) (r : Result ℕ Reason) → is_among block.Db m (with_block_number block.Db before r) ≡ false → is_among block.Db m before ≡ false
    older m r h = by (is_among block.Db m before) refl
      where
        by : (b : Bool) → is_among block.Db m before ≡ b → b ≡ false
        by true t = absurd (both_ways (is_among block.Db m (with_block_number block.Db before r)) h (stays_among block.Db m block.Db before r t))
        by false t = refl

    other : (m : ℕ) (r : Result ℕ Reason) → is_among block.Db m (with_block_number block.Db before r) ≡ false → is_number m r ≡ false
    other m (Err reason) h = refl
    other m (Ok n) h =
        ne_eqb n m (λ same. both_ways (is_among block.Db m (with_block_number block.Db before (Ok n))) h
        (subst (λ k. is_among block.Db k (with_block_number block.Db before (Ok n)) ≡ true) same (comes_among block.Db n before)))

    later : (x : RawData) → AreFirst text (with_block_number block.Db before (block_number text.symbols block.Db d.name)) dbs x
        → AreFirst text before (d ∷ dbs) x
    later x h m is =
        let f = h m is in
        record {
          new = older m (block_number text.symbols block.Db d.name) f.new;
          found =
              ap (λ b. if b then Some d else db_numbered text.symbols dbs m) (other m (block_number text.symbols block.Db d.name) f.new) ∙ f.found;
          low = f.low;
        }

-- Instances

passes : (a b c d : Bool) → a ≡ false → b ≡ false → c ≡ false → d ≡ false
    → first_fault ((a, DbNotOpen) ∷ (b, DbMissing) ∷ (false, AreaCode) ∷ (c, Alignment) ∷ (d, AreaLength) ∷ []) ≡ None
passes false false false false e f g h = refl
passes true b c d e f g h = absurd cc
passes a true c d e f g h = absurd cc
passes a b true d e f g h = absurd cc
passes a b c true e f g h = absurd cc

-- a formal that ends within the bytes of a data block lies in it
lies : (dbs : List DataBlock) (n : ℕ) (b : DataBlock) (size : ℕ) (f : Formal) → 1 ≤ n → data_block_of n dbs ≡ Some b → size ≤ length b.bytes
    → Stands size f → LiesInInstance dbs n f
lies dbs n b size f low found enough s =
    let within = s.within in
    passes (n == 0) (is_none (data_block_of n dbs)) (is_unaligned f.width f.bit)
    (nat_lt (length (bytes_there (Some (area.Db n)) (fresh dbs))) (f.byte + bytes_wide f.width))
    (ne_eqb n 0 (λ e. omega (arith, low, e))) (ap is_none found) s.aligned
    (ap (λ o. nat_lt (length (or_none (bytes_in o))) (f.byte + bytes_wide f.width)) found
    ∙ le-ltb (length b.bytes) (f.byte + bytes_wide f.width) (omega (arith, enough, within)))

-- what is asked of a text
module _ (text : RawProgram) (interfaces : All HasInterface text.blocks) (types : All HasSimpleFormals text.blocks) where
  -- an instance by its numbers, with its function block
  is_instance_of : (d : RawData) (its : RawName) (db fb : ℕ) (raw : RawBlock) → d.kind ≡ data_kind.Instance its
      → block_number text.symbols block.Db d.name ≡ Ok db → block_number text.symbols block.Fb its ≡ Ok fb → block_numbered text block.Fb fb ≡ Some raw
      → HasInterface raw → HasSimpleFormals raw → IsFirst text [] text.dbs d db
      → content_breaks text d.line d.initial d.kind ≡ [] → IsInstanceOf (program_of text) (record { db = db; fb = fb })
  is_instance_of d its db fb raw kind number fb_number there interface simple first content =
      record {
        number = opened db first.low;
        fb = ap is_some (fb_named text fb raw there);
        formals = subst (All (LiesInInstance (program_of text).dbs db)) (sym (formals_found text fb raw there))
            (All-weaker (Stands (size_of raw)) (LiesInInstance (program_of text).dbs db)
            (λ f s. lies (program_of text).dbs db bytes (size_of raw) f (opened db first.low).0 found enough s) (formals_of raw)
            (formals_inside raw (numbered_found text block.Fb fb raw there).kind_is interface simple));
        db = ap is_some found;
      }
    where
      bytes : DataBlock
      bytes = record { number = db; bytes = bytes_with (sections_in text d.kind) d.initial }

      found : data_block_of db (program_of text).dbs ≡ Some bytes
      found =
          ordered db (filter_map (data_of text) text.dbs) ∙ filtered text db text.dbs
          ∙ ap (option_and_then (data_of text)) first.found ∙ ap (data_numbered text d) number

      sections : sections_in text d.kind ≡ interface_of raw
      sections =
          ap (sections_in text) kind ∙ ap (λ r. sections_of (block_found text block.Fb r)) fb_number ∙ ap sections_of there

      held : length_to (end_of_sections 0 (sections_in text d.kind)) ≤ length bytes.bytes
      held =
          let h = bytes_held (sections_in text d.kind) (sized_kind text d.line d.initial d.kind interfaces content) d.initial in h.all

      enough : size_of raw ≤ length bytes.bytes
      enough = subst (λ s. length_to (end_of_sections 0 s) ≤ length bytes.bytes) sections held

  instance_is : (d : RawData) → AreFirst text [] text.dbs d → content_breaks text d.line d.initial d.kind ≡ []
      → IfSome (instance_made text d) (IsInstanceOf (program_of text))
  instance_is d first content = by d.kind refl
    where
      of_fb : (its : RawName) (db fb : ℕ) (o : Option RawBlock) → d.kind ≡ data_kind.Instance its → block_number text.symbols block.Db d.name ≡ Ok db
          → block_number text.symbols block.Fb its ≡ Ok fb → block_numbered text block.Fb fb ≡ o → IfSome o HasInterface → IfSome o HasSimpleFormals
          → (broken_if (is_none o) d.line UnknownBlock ≡ []) → IsInstanceOf (program_of text) (record { db = db; fb = fb })
      of_fb its db fb None kind number fb_number there interface simple h = absurd cc
      of_fb its db fb (Some raw) kind number fb_number there interface simple h =
          is_instance_of d its db fb raw kind number fb_number there interface simple (first db number) content

      fb_kept : (its : RawName) (fb : ℕ) → d.kind ≡ data_kind.Instance its → block_number text.symbols block.Fb its ≡ Ok fb
          → broken_if (is_none (block_numbered text block.Fb fb)) d.line UnknownBlock ≡ []
      fb_kept its fb kind fb_number =
          let all = sym (ap (content_breaks text d.line d.initial) kind) ∙ content in
          let own = (no_parts (fb_breaks d.line text (block_number text.symbols block.Fb its))
          (instance_values (block_found text block.Fb (block_number text.symbols block.Fb its)) d.initial) all).0 in
          (no_parts (broken_if (is_none (block_numbered text block.Fb fb)) d.line UnknownBlock) (broken_if (not (may_have block.Fb fb)) d.line BadAddress)
          (sym (ap (fb_breaks d.line text) fb_number) ∙ own)).0

      by_numbers : (its : RawName) (db fb : Result ℕ Reason) → d.kind ≡ data_kind.Instance its → block_number text.symbols block.Db d.name ≡ db
          → block_number text.symbols block.Fb its ≡ fb
          → IfSome (instance_in text (data_kind.Instance its) db) (IsInstanceOf (program_of text))
      by_numbers its (Err reason) fb kind number fb_number = tt
      by_numbers its (Ok db) (Err reason) kind number fb_number =
          subst (λ r. IfSome (instance_with db r) (IsInstanceOf (program_of text))) (sym fb_number) tt
      by_numbers its (Ok db) (Ok fb) kind number fb_number =
          subst (λ r. IfSome (instance_with db r) (IsInstanceOf (program_of text))) (sym fb_number)
          (of_fb its db fb (block_numbered text block.Fb fb) kind number fb_number refl
          (found_is HasInterface (is_block text.symbols block.Fb fb) text.blocks interfaces)
          (found_is HasSimpleFormals (is_block text.symbols block.Fb fb) text.blocks types) (fb_kept its fb kind fb_number))

      by : (kind : RawDataKind) → d.kind ≡ kind
          → IfSome (instance_in text kind (block_number text.symbols block.Db d.name)) (IsInstanceOf (program_of text))
      by (data_kind.Own decls) kind = tt
      by (data_kind.Instance its) kind =
          by_numbers its (block_number text.symbols block.Db d.name) (block_number text.symbols block.Fb its) kind refl refl

  -- the data blocks of a text keep the rules of their contents
  contents_kept : (before : List (BlockKind × ℕ)) (dbs : List RawData) → dbs_behind text before dbs ≡ []
      → All (λ (d : RawData). content_breaks text d.line d.initial d.kind ≡ []) dbs
  contents_kept before [] e = All-nil (λ (d : RawData). content_breaks text d.line d.initial d.kind ≡ [])
  contents_kept before (d ∷ dbs) e =
      let p = parts_of text before d dbs e in
      All-cons (λ (x : RawData). content_breaks text x.line x.initial x.kind ≡ []) d dbs p.content
      (contents_kept (with_block_number block.Db before (block_number text.symbols block.Db d.name)) dbs p.more)

  pub instances_are : dbs_behind text [] text.dbs ≡ [] → All (IsInstanceOf (program_of text)) (program_of text).instances
  instances_are e =
      all_made (λ (d : RawData). IfSome (instance_made text d) (IsInstanceOf (program_of text))) (IsInstanceOf (program_of text)) (instance_made text)
      (λ d h. h) text.dbs
      (all_both (AreFirst text [] text.dbs) (λ (d : RawData). content_breaks text d.line d.initial d.kind ≡ [])
      (λ (d : RawData). IfSome (instance_made text d) (IsInstanceOf (program_of text))) instance_is text.dbs
      (first_numbers text [] text.dbs e) (contents_kept [] text.dbs e))
