-- The section of globals of a proper tree: it is of the language, tokens can have its parts, it
-- nests no deeper than it may, and it declares what the tree has.
use Rattle.st_text_laws.proofs.Spells.{Spells, initial_spells}
use Rattle.st_grammar.specs.declared.kind.Fixed.TheVariants as fixed
use Rattle.st_grammar.specs.declared.kind.GrammarKind.TheVariants as kind
use Rattle.st_lexer.proofs.Common.{is_decimal, Located, RawGlobal, RawVar}
use Rattle.st_lexer.specs.Spelled.{is_place}
use Rattle.st_tree.proofs.Common.{is_free, ◌≡◌, ℕ, ◌-◌, ◌≤◌, true, List, [], ◌∷◌, ◌++◌, length, Some, None, refl, sym, ap, ◌∙◌, arith, nat_tests, DataBlock, AreaName, line_after, width_at}
use Rattle.memory_areas.specs.declared.place.AreaName.TheVariants as area
use Rattle.s7_base.specs.declared.word.Width.TheVariants as width
use Rattle.st_text_laws.specs.Canonical.{area_form, block_name, blocks_from, globals_form, globals_from, items_form, located_from, on}
use Rattle.st_grammar.proofs.Common.{Items, plain, bytes, Globals, no_global, global, Section, present, GlobalsFit, IfPresent, section_items, spell_globals, spell_initial, spell_items, spell_section, tree_globals, tree_items, levels_globals, levels_section}
use Rattle.st_grammar.specs.Grammar.{spell_array}
use Rattle.st_text_laws.specs.Spelled.{is_name, is_variable}
use Rattle.st_text_laws.proofs.BlockForms.{AreWithin, IsFull, block_is_name, block_is_named, globals_within, is_written, low}
use Rattle.st_reading_laws.proofs.Lists.{Behind, Each, none_behind, one_behind}
use Rattle.st_tree.specs.declared.raw.RawGlobalType.TheVariants as type
use Rattle.st_tree.specs.declared.raw.RawVar.TheVariants as raw
use Rattle.st_reading_laws.proofs.Redeclared.{AreBlocksAt, AreLocatedAt, IsBlockAt, IsLocatedAt, name_of_area}

-- a global of a proper tree
pub record IsPlain (g : Located) : Type 0 where
  pub name : is_name g.name ≡ true
  pub free : is_free g.name ≡ true
  pub placed : is_place (area_form g.place.area) None (width_at g.ty) g.place.byte g.place.bit ≡ true
  pub known : name_of_area g.place.area ≡ area_form g.place.area

-- globals of the language that tokens can have
record AreSound (gs : Globals) : Type 0 where
  fit : GlobalsFit gs
  spelled : Spells (spell_globals gs)

-- Data blocks

block_placed : (b : DataBlock) → IsFull b → is_variable (raw.Direct area.Db (Some b.number) width.Byte 0 0) ≡ true
block_placed b f = let s : b.number ≤ 65535 = f.block.small in grind (arith, nat_tests)

-- what it declares
abbrev block_global : DataBlock → ℕ → RawGlobal
block_global b line = record {
  name = block_name b.number;
  line = on line;
  at = raw.Direct area.Db (Some b.number) width.Byte 0 0;
  ty = type.Bytes (length b.bytes - 1) (tree_items (items_form b.bytes));
}

block_at : (b : DataBlock) (line : ℕ) → IsFull b → IsBlockAt b (block_global b line)
block_at b line f =
    let w = is_written b f in
    record {
      last = length b.bytes - 1;
      list = tree_items (items_form b.bytes);
      named = refl;
      placed = refl;
      typed = refl;
      greatest = refl;
      bytes = w.same;
      size = w.size;
    }

list_spells : (last : ℕ) (items : Items) → is_decimal last ≡ true → Spells (spell_items items)
    → Spells (λ ks. spell_array last (spell_initial items ks))
list_spells last items h s ks q =
    (refl, (refl, (refl, (refl, (h, (refl, (refl, (refl, initial_spells items s ks q))))))))

abbrev with_block : DataBlock → Globals → ℕ → Globals
with_block b others line = global others (block_name b.number) (on line)
    (raw.Direct area.Db (Some b.number) width.Byte 0 0) (on line) (bytes (length b.bytes - 1) (items_form b.bytes))

block_sound : (b : DataBlock) (others : Globals) (line : ℕ) → IsFull b → AreSound others
    → AreSound (with_block b others line)
block_sound b others line f s =
    let w = is_written b f in
    let named = block_is_name b.number f.block.small in
    let there = block_placed b f in
    let list = list_spells (length b.bytes - 1) (items_form b.bytes) w.last w.spelled in
    record {
      fit = (s.fit, refl, block_is_named b.number f.block.small);
      spelled = λ ks q. s.spelled _ (named, (refl, (there, (refl, list _ (refl, q)))));
    }

blocks_sound : (bs : List DataBlock) (others : Globals) (line : ℕ) → Each IsFull bs → AreSound others
    → AreSound (blocks_from others line bs).0
blocks_sound [] others line h s = s
blocks_sound (b ∷ bs) others line h s = blocks_sound bs _ (line_after line) h.1 (block_sound b others line h.0 s)

blocks_behind : (bs : List DataBlock) (others : Globals) (line : ℕ) → Each IsFull bs
    → Behind tree_globals IsBlockAt others (blocks_from others line bs).0 bs
blocks_behind [] others line h = none_behind tree_globals IsBlockAt others
blocks_behind (b ∷ bs) others line h =
    one_behind others (with_block b others line) (block_global b line) refl (block_at b line h.0)
    (blocks_behind bs (with_block b others line) (line_after line) h.1)

-- Other globals

abbrev at_place : Located → RawVar
at_place g = raw.Direct (area_form g.place.area) None (width_at g.ty) g.place.byte g.place.bit

abbrev located_global : Located → ℕ → RawGlobal
located_global g line =
    record { name = g.name; line = on line; at = at_place g; ty = type.Plain g.ty }

located_global_at : (g : Located) (line : ℕ) → IsPlain g → IsLocatedAt g (located_global g line)
located_global_at g line p = record {
  named = refl;
  placed = ap (λ (a : AreaName). raw.Direct a None (width_at g.ty) g.place.byte g.place.bit) (sym p.known);
  typed = refl;
}

abbrev with_located : Located → Globals → ℕ → Globals
with_located g others line = global others g.name (on line) (at_place g) (on line) (plain g.ty)

located_sound : (gs : List Located) (others : Globals) (line : ℕ) → Each IsPlain gs → AreSound others
    → AreSound (located_from others line gs).0
located_sound [] others line h s = s
located_sound (g ∷ gs) others line h s = located_sound gs (with_located g others line) (line_after line) h.1 (record {
  fit = (s.fit, refl, h.0.free);
  spelled = λ ks q. s.spelled _ (h.0.name, (refl, (h.0.placed, (refl, (refl, (refl, q))))));
})

located_behind : (gs : List Located) (others : Globals) (line : ℕ) → Each IsPlain gs
    → Behind tree_globals IsLocatedAt others (located_from others line gs).0 gs
located_behind [] others line h = none_behind tree_globals IsLocatedAt others
located_behind (g ∷ gs) others line h =
    one_behind others (with_located g others line) (located_global g line) refl (located_global_at g line h.0)
    (located_behind gs (with_located g others line) (line_after line) h.1)

-- Both

-- what the section of globals is
pub record IsSection (bs : List DataBlock) (gs : List Located) (section : Section Globals) : Type 0 where
  pub fit : IfPresent GlobalsFit section
  pub spelled : Spells (spell_section (kind.Fixed fixed.VarGlobal) spell_globals section)
  pub within : (before : List ℕ) → AreWithin before → AreWithin (levels_section levels_globals section before)
  pub blocks : List RawGlobal
  pub others : List RawGlobal
  pub globals : section_items tree_globals section ≡ blocks ++ others
  pub are_blocks : AreBlocksAt bs blocks
  pub are_located : AreLocatedAt gs others

written : (bs : List DataBlock) (gs : List Located) (line : ℕ) → Each IsFull bs → Each IsPlain gs
    → IsSection bs gs (present (globals_form line bs gs).0)
written bs gs line h k =
    let none : AreSound no_global = record { fit = tt; spelled = λ ks q. q } in
    let blocks = blocks_from no_global line bs in
    let first = blocks_behind bs no_global line h in
    let second = located_behind gs blocks.0 blocks.1 k in
    let sound = located_sound gs blocks.0 blocks.1 k (blocks_sound bs no_global line h none) in
    record {
      fit = sound.fit;
      spelled = λ ks q. (refl, sound.spelled _ (refl, q));
      within = λ before w. (low, globals_within (globals_form line bs gs).0 (0 ∷ before) (low, w));
      blocks = first.more;
      others = second.more;
      globals = second.same ∙ ap (λ xs. xs ++ second.more) first.same;
      are_blocks = first.are;
      are_located = second.are;
    }

-- the section of globals of a proper tree
pub is_section : (bs : List DataBlock) (gs : List Located) (line : ℕ) → Each IsFull bs → Each IsPlain gs
    → IsSection bs gs (globals_from line bs gs).0
is_section [] [] line h k = record {
  fit = tt;
  spelled = λ ks q. q;
  within = λ before w. w;
  blocks = [];
  others = [];
  globals = refl;
  are_blocks = tt;
  are_located = tt;
}
is_section [] (g ∷ gs) line h k = written [] (g ∷ gs) (line_after line) h k
is_section (b ∷ bs) [] line h k = written (b ∷ bs) [] (line_after line) h k
is_section (b ∷ bs) (g ∷ gs) line h k = written (b ∷ bs) (g ∷ gs) (line_after line) h k
