-- A canonical text reads as its form: its declarations, units and globals, each before what is read after it.
use Rattle.st_tree.proofs.Common.{◌≡◌, ℕ, List, [], ◌∷◌, ◌++◌, map, false, Option, None, Ok, refl, sym, ap, ◌∙◌, append-nil, Bool, true, append_assoc, ◌+◌, ◌-◌, ◌==◌, length, Some, flat_map, codes, if◌then◌else◌, decimal, line_at_end, line_after, Line, unit_text, local_text, names_in, bit_text, block_text, byte_text, global_text, list_behind, place_text, digits, DataBlock, Area, Width, width_at, area_word, width_word}
use Rattle.st_lexer.proofs.Common.{answer, answer_to, first_bad, tokens_of, StToken, StProgram, Local, Pou, ends_word, place_in, Located}
use Rattle.st_text_laws.proofs.Cuts.{IsCut, ReadsOn, reads_as, reads_end, reads_blank, reads_line, reads_line_end}
use Rattle.st_text_laws.proofs.Common.{globals_from, source_of, units_from, body_from, locals_from, on, section_from, statement_from, unit_from, area_form, block_name, blocks_from, items_behind, items_form, located_from, run_behind, GrammarKind, Fixed}
use Rattle.st_text_laws.specs.CanonicalLaws.{CanonicalTextReads}
use Rattle.st_grammar.proofs.Common.{no_unit, Locals, no_local, local, Units, Globals, no_global, global, Items, no_item, single, times, plain, bytes, spell_source, spell_units, end_word, spell_all, spell_formals, spell_head, spell_locals, spell_section, spell_temps, comma_past, spell_globals, spell_initial, spell_items, spell_type, kind_of, fixed_text, all_lined, kinds}
use Rattle.st_grammar.specs.declared.kind.Fixed.TheVariants as fixed
use Rattle.st_grammar.specs.declared.kind.GrammarKind.TheVariants as kind
use Rattle.st_tree.specs.Spelling.{globals_text, spelling, line as line_text, section_text, unit_word, initial_text, place_word, run_text}
use Rattle.st_text_laws.proofs.CutExpressions.{two, three}
use Rattle.st_text_laws.proofs.CutStatements.{Passes, reads_body, PassesWord}
use Rattle.st_text_laws.proofs.CutWords.{is_keyword, reads_colon, reads_fixed, reads_lead, reads_name, reads_semicolon, reads_type, reads_becomes, reads_close, reads_close_square, reads_comma, reads_dots, reads_open, reads_open_square}
use Rattle.st_grammar.specs.Grammar as grammar
use Rattle.st_grammar.specs.declared.kind.Lead.TheVariants as lead
use Rattle.st_tree.specs.declared.raw.RawVar.TheVariants as var
use Rattle.memory_areas.specs.declared.place.Area.TheVariants as place
use Rattle.memory_areas.specs.declared.place.AreaName.TheVariants as area
use Rattle.s7_base.specs.declared.word.Width.TheVariants as width
use Rattle.st_text_laws.proofs.CutLiterals.{reads_byte, reads_decimal, reads_place}
use Rattle.st_tree.specs.declared.expr.StType.TheVariants as type

-- a word alone on a line
pub reads_word_line : {line : ℕ} {more : List ℕ} {ks : List GrammarKind} (level : ℕ) (f : Fixed)
    → is_keyword (fixed_text f) ≡ true → ReadsOn (line_after line) more ks
    → ReadsOn line (line_text level (fixed_text f) ++ more) (kind.Fixed f ∷ ks)
reads_word_line level f h r = reads_line _ _ _ (reads_fixed f h refl (reads_line_end r))

-- Locals

reads_local : (first : Local) (line : ℕ)
    → Passes line (line_after line) (λ more. local_text first ++ more)
    (λ ks. kind.Variable (var.Name first.name) (on line) ∷ kind.Fixed fixed.Colon ∷ kind.Fixed (fixed.Type first.ty) ∷ kind.Fixed fixed.Semicolon ∷ ks)
unfolding local_text
reads_local first line more ks r =
    reads_line _ _ _ (simp append_assoc (reads_name first.name refl (reads_blank (reads_colon (reads_blank (reads_type first.ty refl (reads_semicolon
    (reads_line_end r))))))))

reads_locals : (others : Locals) (xs : List Local) (start line : ℕ) (written : List ℕ → List ℕ) → Passes start line written (spell_locals others)
    → Passes start (locals_from others line xs).1 (λ more. written (flat_map local_text xs ++ more)) (spell_locals (locals_from others line xs).0)
reads_locals others [] start line written before more ks r = before more ks r
reads_locals others (x ∷ xs) start line written before more ks r =
    simp append_assoc (reads_locals (local others x.name (on line) x.ty) xs start (line_after line) (λ bytes. written (local_text x ++ bytes))
    (λ bytes ls rest. before _ _ (reads_local x line bytes ls rest)) more ks r)

reads_section : (f : Fixed) (xs : List Local) (line : ℕ) → is_keyword (fixed_text f) ≡ true
    → Passes line (section_from line xs).1 (λ more. section_text (fixed_text f) xs ++ more) (spell_section (kind.Fixed f) spell_locals (section_from line xs).0)
reads_section f [] line h more ks r = r
reads_section f (x ∷ xs) line h more ks r =
    reads_as (two _ (flat_map local_text (x ∷ xs)) _ _)
    (reads_word_line 1 f h (reads_locals no_local (x ∷ xs) _ (line_after line) (λ bytes. bytes) (λ bytes ls rest. rest) _ _
    (reads_word_line 1 fixed.EndVar refl r)))

-- Units

reads_unit_word : {line : ℕ} {more : List ℕ} {ks : List GrammarKind} (program : Bool) → ReadsOn line (32 ∷ more) ks
    → ReadsOn line (unit_word program ++ 32 ∷ more) (grammar.unit_word program (on line) ∷ ks)
reads_unit_word true r = reads_lead lead.Program refl r
reads_unit_word false r = reads_lead lead.Function refl r

reads_end_word : {line : ℕ} {more : List ℕ} {ks : List GrammarKind} (program : Bool) → ReadsOn (line_after line) more ks
    → ReadsOn line (line_text 0 (codes "END_" ++ unit_word program) ++ more) (end_word program ∷ ks)
reads_end_word true r = reads_word_line 0 fixed.EndProgram refl r
reads_end_word false r = reads_word_line 0 fixed.EndFunction refl r

reads_unit : (text : StProgram) (u : Pou) (others : Units) (line : ℕ)
    → Passes line (unit_from text others line u).1 (λ more. unit_text text u ++ more) (λ ks.
    let formals = section_from (line_after line) u.formals in
    let locals = section_from formals.1 u.locals in
    spell_head (record { program = u.program; name = u.name; line = on line; place = on line })
    (spell_formals formals.0
    (spell_temps locals.0 (spell_all (body_from locals.1 (map (statement_from (names_in text u)) u.body)).0 (end_word u.program ∷ ks)))))
unfolding unit_text
reads_unit text u others line more ks r =
    simp append_assoc (reads_line _ _ _ (simp append_assoc (reads_unit_word u.program (reads_blank (reads_name u.name refl (reads_line_end
    (reads_section fixed.VarInOut u.formals _ refl _ _ (reads_section fixed.VarTemp u.locals _ refl _ _
    (reads_body (names_in text u) u.body 1 _ _ _ (reads_end_word u.program r))))))))))

reads_more_units : (text : StProgram) (others : Units) (us : List Pou) (start line : ℕ) (written : List ℕ → List ℕ)
    → Passes start line written (spell_units others)
    → Passes start (units_from text others line us).1 (λ more. written (flat_map (unit_text text) us ++ more)) (spell_units (units_from text others line us).0)
reads_more_units text others [] start line written before more ks r = before more ks r
reads_more_units text others (u ∷ us) start line written before more ks r =
    let here = unit_from text others line u in
    simp append_assoc (reads_more_units text here.0 us start here.1 (λ bytes. written (unit_text text u ++ bytes))
    (λ bytes ls rest. before _ _ (reads_unit text u others line bytes ls rest)) more ks r)

pub reads_units : (text : StProgram) (us : List Pou) (line : ℕ)
    → Passes line (units_from text no_unit line us).1 (λ more. flat_map (unit_text text) us ++ more) (spell_units (units_from text no_unit line us).0)
reads_units text us line = reads_more_units text no_unit us line line (λ bytes. bytes) (λ bytes ls rest. rest)

-- Globals

-- Bytes of a data block

-- bytes before the comma of the next ones
abbrev comma_items : Items → List GrammarKind → List GrammarKind
comma_items others ks = spell_items others (comma_past others ks)

-- so many equal bytes after others
reads_run : (others : Items) (count b line : ℕ) (written : List ℕ → List ℕ) → Passes line line written (comma_items others)
    → PassesWord line (λ more. written (run_text count b ++ more)) (spell_items (run_behind others count b))
reads_run others count b line written before more ks ends r = by (count == 1)
  where
    by : (t : Bool)
        → ReadsOn line (written ((if t then byte_text b else decimal count ++ codes "(" ++ byte_text b ++ codes ")") ++ more)) (spell_items
        (if t then single others b else times others count b) ks)
    by true = before _ _ (reads_byte b ends r)
    by false = before _ _ (reads_as (three _ _ (byte_text b) _ _) (reads_decimal count refl (reads_open refl (reads_byte b refl (reads_close r)))))

run_comma : (others : Items) (count b : ℕ) (ks : List GrammarKind) → comma_past (run_behind others count b) ks ≡ kind.Fixed fixed.Comma ∷ ks
run_comma others count b ks = by (count == 1)
  where
    by : (t : Bool) → comma_past (if t then single others b else times others count b) ks ≡ kind.Fixed fixed.Comma ∷ ks
    by true = refl
    by false = refl

-- some bytes are written after `:=` in square brackets
abbrev IsInitial : Items → List GrammarKind → Type 0
IsInitial items ks = spell_initial items ks ≡ kind.Fixed fixed.Becomes ∷ kind.Fixed fixed.OpenSquare ∷ spell_items items (kind.Fixed fixed.CloseSquare ∷ ks)

run_initial : (others : Items) (count b : ℕ) (ks : List GrammarKind) → IsInitial (run_behind others count b) ks
run_initial others count b ks = by (count == 1)
  where
    by : (t : Bool) → IsInitial (if t then single others b else times others count b) ks
    by true = refl
    by false = refl

items_initial : (rest : List ℕ) (others : Items) (count b : ℕ) (ks : List GrammarKind) → IsInitial (items_behind others count b rest) ks
items_initial [] others count b ks = run_initial others count b ks
items_initial (next ∷ rest) others count b ks =
    by (b == next) (items_initial rest others (count + 1) b ks) (items_initial rest (run_behind others count b) 1 next ks)
  where
    by : (t : Bool) → IsInitial (items_behind others (count + 1) b rest) ks → IsInitial (items_behind (run_behind others count b) 1 next rest) ks
        → IsInitial (if t then items_behind others (count + 1) b rest else items_behind (run_behind others count b) 1 next rest) ks
    by true same new = same
    by false same new = new

reads_items : (rest : List ℕ) (others : Items) (count b line : ℕ) (written : List ℕ → List ℕ) → Passes line line written (comma_items others)
    → PassesWord line (λ more. written (list_behind count b rest ++ more)) (spell_items (items_behind others count b rest))
reads_items [] others count b line written before more ks ends r = reads_run others count b line written before more ks ends r
reads_items (next ∷ rest) others count b line written before more ks ends r =
    by (b == next) (reads_items rest others (count + 1) b line written before more ks ends r)
    (reads_items rest (run_behind others count b) 1 next line (λ bytes. written (run_text count b ++ 44 ∷ 32 ∷ bytes))
    (λ bytes ls q. rw (run_comma others count b ls) (reads_run others count b line written before _ _ refl (reads_comma (reads_blank q)))) more ks ends r)
  where
    by : (t : Bool) → ReadsOn line (written (list_behind (count + 1) b rest ++ more)) (spell_items (items_behind others (count + 1) b rest) ks)
        → ReadsOn line (written (run_text count b ++ 44 ∷ 32 ∷ (list_behind 1 next rest ++ more)))
        (spell_items (items_behind (run_behind others count b) 1 next rest) ks)
        → ReadsOn line (written ((if t then list_behind (count + 1) b rest else run_text count b ++ codes ", " ++ list_behind 1 next rest) ++ more))
        (spell_items (if t then items_behind others (count + 1) b rest else items_behind (run_behind others count b) 1 next rest) ks)
    by true same new = same
    by false same new = reads_as (ap written (two (run_text count b) (codes ", ") (list_behind 1 next rest) more)) new

-- the initial value, where there is one
reads_initial : {line : ℕ} {more : List ℕ} {ks : List GrammarKind} (bs : List ℕ)
    → ReadsOn line more ks → ReadsOn line (initial_text bs ++ more) (spell_initial (items_form bs) ks)
reads_initial [] r = r
reads_initial {line} {more} {ks} (b ∷ rest) r =
    rw (items_initial rest no_item 1 b ks) (reads_as (two (codes " := [") (list_behind 1 b rest) (codes "]") more)
    (reads_blank
    (reads_becomes (reads_blank (reads_open_square (reads_items rest no_item 1 b line (λ bytes. bytes) (λ bytes ls q. q) _ _ refl (reads_close_square r)))))))

initial_ends : (bs more : List ℕ) → ends_word (initial_text bs ++ 59 ∷ more) ≡ true
initial_ends [] more = refl
initial_ends (b ∷ rest) more = refl

-- Data blocks

zero_text : (more : List ℕ) → 48 ∷ more ≡ decimal 0 ++ more
unfolding digits
zero_text more = refl

place_zero : place_text width.Byte 0 0 ≡ codes "B0"
unfolding digits
place_zero = refl

block_place : (n : ℕ) (more : List ℕ) → codes "%DB" ++ (decimal n ++ (codes ".DBB0" ++ more)) ≡ place_in area.Db (Some n) width.Byte 0 0 ++ more
block_place n more =
    sym (three (codes "%DB") (decimal n) (codes ".DB") (codes "B0") more)
    ∙ ap (λ (x : List ℕ). (((codes "%DB" ++ decimal n) ++ codes ".DB") ++ x) ++ more) (sym place_zero)

reads_block : (block : DataBlock) (line : ℕ)
    → Passes line (line_after line) (λ more. block_text block ++ more) (λ ks. kind.Variable (var.Name (block_name block.number)) (on line) ∷ kind.Fixed fixed.At
    ∷ kind.Variable (var.Direct area.Db (Some block.number) width.Byte 0 0) (on line) ∷ kind.Fixed fixed.Colon
    ∷ spell_type (bytes (length block.bytes - 1) (items_form block.bytes)) (kind.Fixed fixed.Semicolon ∷ ks))
unfolding block_text
reads_block block line more ks r =
    reads_line _ _ _ (simp append_assoc (reads_name (block_name block.number) refl (reads_blank (reads_fixed fixed.At refl refl (reads_blank (reads_as
    (block_place block.number _)
    (reads_place area.Db (Some block.number) width.Byte 0 0 refl
    (reads_blank (reads_colon (reads_blank (reads_fixed fixed.Array refl refl (reads_open_square (reads_as
    (zero_text _)
    (reads_decimal 0 refl (reads_dots (reads_decimal (length block.bytes - 1) refl (reads_close_square (reads_blank (reads_fixed fixed.Of refl refl (reads_blank
    (reads_fixed (fixed.Type type.Byte) refl (initial_ends block.bytes _) (reads_initial block.bytes (reads_semicolon (reads_line_end r))))))))))))))))))))))))

-- a data block and what stands after it
abbrev with_block : Globals → ℕ → DataBlock → Globals
with_block others line b =
    global others (block_name b.number) (on line) (var.Direct area.Db (Some b.number) width.Byte 0 0)
    (on line) (bytes (length b.bytes - 1) (items_form b.bytes))

reads_blocks : (others : Globals) (bs : List DataBlock) (start line : ℕ) (written : List ℕ → List ℕ) → Passes start line written (spell_globals others)
    → Passes start (blocks_from others line bs).1 (λ more. written (flat_map block_text bs ++ more)) (spell_globals (blocks_from others line bs).0)
reads_blocks others [] start line written before more ks r = before more ks r
reads_blocks others (b ∷ bs) start line written before more ks r =
    simp append_assoc (reads_blocks (with_block others line b) bs start (line_after line) (λ bytes. written (block_text b ++ bytes))
    (λ bytes ls rest. before _ _ (reads_block b line bytes ls rest)) more ks r)

-- Other globals

same_area : (a : Area) → place_word a ≡ area_word (area_form a)
same_area place.I = refl
same_area other = refl

plain_place : (a : Area) (w : Width) (byte bit : ℕ) (more : List ℕ)
    → codes "%" ++ (place_word a ++ (width_word w ++ (decimal byte ++ (bit_text w bit ++ more)))) ≡ place_in (area_form a) None w byte bit ++ more
plain_place a w byte bit more =
    rw (same_area a) (ap (λ (x : List ℕ). 37 ∷ (area_word (area_form a) ++ x)) (sym (two (width_word w) (decimal byte) (bit_text w bit) more))
    ∙ sym (append_assoc (codes "%" ++ area_word (area_form a)) (place_text w byte bit) more))

reads_global : (g : Located) (line : ℕ)
    → Passes line (line_after line) (λ more. global_text g ++ more) (λ ks. kind.Variable (var.Name g.name) (on line) ∷ kind.Fixed fixed.At
    ∷ kind.Variable (var.Direct (area_form g.place.area) None (width_at g.ty) g.place.byte g.place.bit) (on line)
    ∷ kind.Fixed fixed.Colon ∷ kind.Fixed (fixed.Type g.ty)
    ∷ kind.Fixed fixed.Semicolon ∷ ks)
unfolding global_text
reads_global g line more ks r =
    reads_line _ _ _ (simp append_assoc (reads_name g.name refl (reads_blank (reads_fixed fixed.At refl refl (reads_blank
    (reads_as (plain_place g.place.area (width_at g.ty) g.place.byte g.place.bit _)
    (reads_place (area_form g.place.area) None (width_at g.ty) g.place.byte g.place.bit refl
    (reads_blank (reads_colon (reads_blank (reads_type g.ty refl (reads_semicolon (reads_line_end r)))))))))))))

abbrev with_global : Globals → ℕ → Located → Globals
with_global others line g =
    global others g.name (on line) (var.Direct (area_form g.place.area) None (width_at g.ty) g.place.byte g.place.bit) (on line) (plain g.ty)

reads_located : (others : Globals) (gs : List Located) (start line : ℕ) (written : List ℕ → List ℕ) → Passes start line written (spell_globals others)
    → Passes start (located_from others line gs).1 (λ more. written (flat_map global_text gs ++ more)) (spell_globals (located_from others line gs).0)
reads_located others [] start line written before more ks r = before more ks r
reads_located others (g ∷ gs) start line written before more ks r =
    simp append_assoc (reads_located (with_global others line g) gs start (line_after line) (λ bytes. written (global_text g ++ bytes))
    (λ bytes ls rest. before _ _ (reads_global g line bytes ls rest)) more ks r)

-- The section

-- data blocks and other globals from VAR_GLOBAL to END_VAR
reads_present : (bs : List DataBlock) (gs : List Located) (line : ℕ) →
    let first = blocks_from no_global (line_after line) bs in
    let all = located_from first.0 first.1 gs in
    Passes line (line_after all.1) (λ more. (line_text 0 (codes "VAR_GLOBAL") ++ flat_map block_text bs ++ flat_map global_text gs ++ line_text 0
    (codes "END_VAR")) ++ more)
    (λ ks. kind.Fixed fixed.VarGlobal ∷ spell_globals all.0 (kind.Fixed fixed.EndVar ∷ ks))
reads_present bs gs line more ks r =
    let first = blocks_from no_global (line_after line) bs in
    reads_as (three _ (flat_map block_text bs) (flat_map global_text gs) _ _)
    (reads_word_line 0 fixed.VarGlobal refl (reads_located first.0 gs (line_after line) first.1 (λ bytes. flat_map block_text bs ++ bytes)
    (reads_blocks no_global bs (line_after line) (line_after line) (λ bytes. bytes) (λ bytes ls rest. rest)) _ _ (reads_word_line 0 fixed.EndVar refl r)))

pub reads_globals : (bs : List DataBlock) (gs : List Located) (line : ℕ)
    → Passes line (globals_from line bs gs).1 (λ more. globals_text bs gs ++ more)
    (spell_section (kind.Fixed fixed.VarGlobal) spell_globals (globals_from line bs gs).0)
reads_globals [] [] line more ks r = r
reads_globals [] (g ∷ gs) line more ks r = reads_present [] (g ∷ gs) line more ks r
reads_globals (b ∷ bs) gs line more ks r = reads_present (b ∷ bs) gs line more ks r

-- The whole text

-- the canonical text is cut into the tokens of the canonical form
reads_text : (text : StProgram) → ReadsOn 1 (spelling text) (spell_source (source_of text))
reads_text text =
    let globals = globals_from 1 text.dbs text.globals in
    let units = units_from text no_unit globals.1 text.pous in
    reads_as (ap (λ (x : List ℕ). globals_text text.dbs text.globals ++ x) (sym (append-nil (flat_map (unit_text text) text.pous))))
    (reads_globals text.dbs text.globals 1 (flat_map (unit_text text) text.pous ++ []) (spell_units units.0 (kind.Fixed fixed.End ∷ []))
    (reads_units text text.pous globals.1 [] (kind.Fixed fixed.End ∷ []) (reads_end units.1)))

-- what is cut to its end without a decimal that is too great has these tokens
has_tokens : (whole : List ℕ) (ks : List GrammarKind) (r : IsCut 1 whole ks) → tokens_of whole ≡ Ok r.tokens
unfolding tokens_of
has_tokens whole ks r = ap answer_to r.cut ∙ ap (λ (o : Option Line). answer (first_bad o None) r.tokens) (r.calm false)

same_kinds : (tokens : List StToken) (line : Line) → kinds (all_lined tokens line) ≡ map kind_of tokens ++ kind.Fixed fixed.End ∷ []
same_kinds [] line = refl
same_kinds (first ∷ rest) line = ap (λ (ks : List GrammarKind). kind_of first ∷ ks) (same_kinds rest line)

-- where the form is of the language, can be spelled and lies within the levels, its text has its raw tree
pub canonical_text_reads : CanonicalTextReads
canonical_text_reads text fits spelled within =
    let whole : List ℕ = spelling text in
    let r : IsCut 1 whole (spell_source (source_of text)) = (reads_text text).read spelled in
    record {
      all = all_lined r.tokens (line_at_end whole);
      found = (r.tokens, has_tokens whole (spell_source (source_of text)) r, refl);
      source = source_of text;
      reads = record { fits = fits; spelled = sym (same_kinds r.tokens (line_at_end whole) ∙ r.same) };
      within = within;
      same = refl;
    }
