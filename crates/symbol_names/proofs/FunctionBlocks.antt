-- The function block of an instance, and the values in its interface.
use Rattle.std.proofs.Common.{◌≡◌, ℕ, Bool, Bor, true, false, not, cond, List, [], ◌∷◌, ◌++◌, slice_get, Option, Some, None, option_and_then, option_map, Result, Ok, Err, refl, sym, ap, subst, ◌∙◌}
use Rattle.std.specs.Option.{is_none, is_some}
use Rattle.std.specs.Prelude.{IfSome}
use Rattle.block_variables.proofs.Firsts.{joins, of_two}
use Rattle.block_variables.specs.Firsts.{first_of_two, with_breaks}
use Rattle.name_tables.proofs.Places.{block_at, kind_found}
use Rattle.name_tables.specs.Before.{block_numbers, is_block}
use Rattle.name_tables.specs.Places.{first_place}
use Rattle.s7_base.proofs.FirstBreak.{first_of_all_is_first}
use Rattle.s7_base.specs.Broken.{first_of_all}
use Rattle.s7_base.specs.declared.reason.Line.{Line}
use Rattle.s7_base.specs.declared.reason.Reason.{Reason}
use Rattle.s7_base.specs.declared.reason.Reason.TheVariants.{BadAddress, UnknownBlock}
use Rattle.s7_base.specs.declared.rule_break.Break.{Break}
use Rattle.stl_rules.specs.BodyRules.{broken_if}
use Rattle.stl_rules.specs.DataBlocks.{bytes_with}
use Rattle.stl_rules.specs.DeclarationRules.{section_breaks}
use Rattle.stl_rules.specs.Interfaces.{are_refused, interface_breaks, interface_large, interface_of, is_interface_refused, most_in_block}
use Rattle.stl_rules.specs.Layouts.{breaks_in}
use Rattle.stl_rules.specs.Names.{block_found, block_number, block_numbered, may_have}
use Rattle.stl_rules.specs.Stages.{content_breaks, fb_breaks, instance_values, valued_breaks, values_in}
use Rattle.stl_tree.specs.declared.raw.BlockKind.{BlockKind}
use Rattle.stl_tree.specs.declared.raw.BlockKind.TheVariants as block
use Rattle.stl_tree.specs.declared.raw.Declaration.{Declaration}
use Rattle.stl_tree.specs.declared.raw.RawBlock.{RawBlock}
use Rattle.stl_tree.specs.declared.raw.RawDataKind.TheVariants as data_kind
use Rattle.stl_tree.specs.declared.raw.RawInitial.{RawInitial}
use Rattle.stl_tree.specs.declared.raw.RawName.{RawName}
use Rattle.stl_tree.specs.declared.raw.RawProgram.{RawProgram}
use Rattle.symbol_names.proofs.Kept.{front_empty}
use Rattle.symbol_names.specs.inner.Kept.{bytes_in, bytes_kept, bytes_of_sections, bytes_unless, function_block_breaks}

-- The function block of a number

-- by the place where its number stands first
pub at_place : (text : RawProgram) (n : ℕ) (numbers : List (BlockKind × Result ℕ Reason)) (place : Option ℕ) (blocks : List RawBlock)
    (found : Option (Bor RawBlock)) → numbers ≡ block_numbers text.symbols text.blocks → place ≡ first_place (is_block block.Fb n) numbers
    → blocks ≡ text.blocks
    → option_map (λ (b : Bor RawBlock). b.now) found ≡ option_and_then (λ i. slice_get blocks i) place
    → option_map (λ (b : Bor RawBlock). b.now) found ≡ block_numbered text block.Fb n
at_place text n numbers place blocks found are is same e =
    e ∙ ap (λ bs. option_and_then (λ i. slice_get bs i) place) same
    ∙ ap (option_and_then (λ i. slice_get text.blocks i)) (is ∙ ap (first_place (is_block block.Fb n)) are) ∙ block_at text block.Fb n

-- the rules of its name, by whether it is found
breaks_of_number : (line : Line) (text : RawProgram) (number : Result ℕ Reason) (is_found : Bool) → not is_found ≡ is_none (block_found text block.Fb number)
    → function_block_breaks line number is_found ≡ fb_breaks line text number
breaks_of_number line text (Err reason) is_found e = refl
breaks_of_number line text (Ok n) is_found e =
    ap (λ b. broken_if b line UnknownBlock ++ broken_if (not (may_have block.Fb n)) line BadAddress) e

module _ (text : RawProgram) (number : Result ℕ Reason) (found : Option (Bor RawBlock))
    (is : option_map (λ (b : Bor RawBlock). b.now) found ≡ block_found text block.Fb number) where
  -- what is found is a function block
  pub found_kind : IfSome found (λ b. b.now.kind ≡ block.Fb)
  found_kind = by found (subst (λ o. IfSome o (λ (raw : RawBlock). raw.kind ≡ block.Fb)) (sym is) (kind_found text block.Fb number))
    where
      by : (o : Option (Bor RawBlock)) → IfSome (option_map (λ (b : Bor RawBlock). b.now) o) (λ (raw : RawBlock). raw.kind ≡ block.Fb)
          → IfSome o (λ b. b.now.kind ≡ block.Fb)
      by None h = tt
      by (Some b) h = h

  is_not_found : (o : Option (Bor RawBlock)) → not (is_some o) ≡ is_none (option_map (λ (b : Bor RawBlock). b.now) o)
  is_not_found None = refl
  is_not_found (Some b) = refl

  -- the first rule of an instance: one of the name of its function block, or of its values
  pub instance_first : (name : RawName) (line : Line) (initial values : List RawInitial) (is_found : Bool) (noted more last : Option Break)
      → number ≡ block_number text.symbols block.Fb name → values ≡ initial → is_found ≡ is_some found
      → noted ≡ with_breaks None (function_block_breaks line number is_found)
      → more ≡ first_of_all (instance_values (option_map (λ (b : Bor RawBlock). b.now) found) values) → last ≡ first_of_two noted more
      → last ≡ first_of_all (content_breaks text line initial (data_kind.Instance name))
  instance_first name line initial values is_found noted more last named same there first later e =
      let its : List Break = instance_values (block_found text block.Fb number) initial in
      let own : function_block_breaks line number is_found ≡ fb_breaks line text number
      = breaks_of_number line text number is_found (ap (λ b. not b) there ∙ is_not_found found ∙ ap (λ o. is_none o) is) in
      of_two noted last (fb_breaks line text number) its (first ∙ ap (with_breaks None) own)
      (e
      ∙ ap (first_of_two noted)
      (later ∙ ap (λ o. first_of_all (instance_values o values)) is ∙ ap (λ vs. first_of_all (instance_values (block_found text block.Fb number) vs)) same)
      ∙ joins noted its)
      ∙ ap (λ n. first_of_all (fb_breaks line text n ++ instance_values (block_found text block.Fb n) initial)) named

  -- its bytes
  pub instance_bytes : (name : RawName) (initial values : List RawInitial) (bytes : Option (List ℕ)) → number ≡ block_number text.symbols block.Fb name
      → values ≡ initial → bytes ≡ bytes_in values (option_map (λ (b : Bor RawBlock). b.now) found)
      → bytes ≡ bytes_kept text initial (data_kind.Instance name)
  instance_bytes name initial values bytes named same e =
      e ∙ ap (bytes_in values) is ∙ ap (λ vs. bytes_in vs (block_found text block.Fb number)) same
      ∙ ap (λ n. bytes_in initial (block_found text block.Fb n)) named

-- the interface of a function block is refused as the declarations of a data block are
as_declarations : (raw : RawBlock) → raw.kind ≡ block.Fb → is_interface_refused raw ≡ are_refused most_in_block (interface_of raw)
as_declarations raw h =
    ap (λ kind. is_some (first_of_all (section_breaks (interface_of raw) ++ interface_large kind (interface_of raw)))) h

pub interface_kept : (raw : RawBlock) → raw.kind ≡ block.Fb → is_interface_refused raw ≡ false → are_refused most_in_block (interface_of raw) ≡ false
interface_kept raw h e = sym (as_declarations raw h) ∙ e

pub refused_first : (raw : RawBlock) (values : List RawInitial) → is_interface_refused raw ≡ true
    → None ≡ first_of_all (instance_values (Some raw) values)
refused_first raw values e = sym (ap (λ b. first_of_all (cond b [] (values_in (interface_of raw) values))) e)

pub kept_first : (raw : RawBlock) (values : List RawInitial) (first : Option Break) → is_interface_refused raw ≡ false
    → first ≡ first_of_all (values_in (interface_of raw) values) → first ≡ first_of_all (instance_values (Some raw) values)
kept_first raw values first e h = h ∙ sym (ap (λ b. first_of_all (cond b [] (values_in (interface_of raw) values))) e)

-- no bytes of declarations that break a rule
refused_bytes : (sections : List (List Declaration)) (values : List RawInitial) → are_refused most_in_block sections ≡ true
    → None ≡ bytes_of_sections values sections
refused_bytes sections values h = by (first_of_all (valued_breaks sections values)) refl
  where
    broken : List Break
    broken = breaks_in most_in_block sections

    more : List Break
    more = cond (are_refused most_in_block sections) [] (values_in sections values)

    by : (o : Option Break) → first_of_all (valued_breaks sections values) ≡ o → None ≡ bytes_unless o (bytes_with sections values)
    by None e =
        let empty : broken ≡ [] = front_empty broken more (first_of_all_is_first.none (valued_breaks sections values) e) in
        let none : false ≡ true = sym (ap (λ bs. is_some (first_of_all bs)) empty) ∙ h in
        absurd cc
    by (Some first) e = refl

pub refused_instance : (raw : RawBlock) (values : List RawInitial) → raw.kind ≡ block.Fb → is_interface_refused raw ≡ true
    → None ≡ bytes_of_sections values (interface_of raw)
refused_instance raw values h e = refused_bytes (interface_of raw) values (sym (as_declarations raw h) ∙ e)

pub ruleset instance_laws = (interface_kept, refused_first, kept_first, refused_instance)
