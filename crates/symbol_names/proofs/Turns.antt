-- One turn of a loop that judges items one after another.
use Rattle.std.proofs.Common.{◌≡◌, ◌<◌, ◌≤◌, ℕ, ◌+◌, List, [], ◌∷◌, ◌++◌, length, take, drop, get_or, map, slice_get, option_map, Option, Result, refl, sym, ap, subst, ◌∙◌, arith}
use Rattle.std.specs.Prelude.{IfSome}
use Rattle.std.proofs.lemmas.List.{at_drop_more, drop_all, get_or-map, length-map}
use Rattle.std.proofs.lemmas.List.Sums.{fold_more}
use Rattle.std.proofs.lemmas.Option.{slice_get-map, slice_get_read}
use Rattle.s7_base.specs.declared.rule_break.Break.{Break}
use Rattle.s7_base.specs.declared.reason.Reason.{Reason}
use Rattle.stl_rules.specs.DeclarationRules.{key_of, with_name}
use Rattle.stl_rules.specs.Names.{block_number}
use Rattle.stl_rules.specs.Stages.{blocks_behind, dbs_behind, symbols_behind}
use Rattle.stl_tree.specs.declared.raw.BlockKind.{BlockKind}
use Rattle.stl_tree.specs.declared.raw.BlockKind.TheVariants as block
use Rattle.stl_tree.specs.declared.raw.RawBlock.{RawBlock}
use Rattle.stl_tree.specs.declared.raw.RawData.{RawData}
use Rattle.stl_tree.specs.declared.raw.RawProgram.{RawProgram}
use Rattle.stl_tree.specs.declared.raw.SymbolLine.{SymbolLine}
use Rattle.block_variables.specs.Firsts.{with_breaks}
use Rattle.symbol_names.specs.inner.Kept.{block_breaks, db_breaks, line_breaks}
use Rattle.name_tables.specs.Before.{block_numbers, db_numbers, names_before, number_of_block, number_of_db, numbers_before, with_block}
use Rattle.std.specs.List.{flat_map}
use Rattle.symbol_names.proofs.Filtered.{flat_more}
use Rattle.block_variables.proofs.Firsts.{behind, none_more}

-- a stage that judges items, each in a state
module _ {S X : Type 0} (all : S → List X → List Break) (item : S → X → List Break) (next : S → X → S)
    (none : (s : S) → all s [] ≡ []) (cons : (s : S) (x : X) (xs : List X) → all s (x ∷ xs) ≡ item s x ++ all (next s x) xs) where
  pub turn : (first later whole : Option Break) (s after : S) (xs : List X) (i : ℕ) (x : X) → i < length xs → x ≡ get_or xs i x
      → after ≡ next s x → later ≡ with_breaks first (item s x) → with_breaks first (all s (drop i xs)) ≡ whole
      → with_breaks later (all after (drop (i + 1) xs)) ≡ whole
  turn first later whole s after xs i x before is moved e so_far =
      ap (λ t. with_breaks later (all t (drop (i + 1) xs))) moved
      ∙ ap (λ f. with_breaks f (all (next s x) (drop (i + 1) xs))) e
      ∙ sym (behind first (item s x) (all (next s x) (drop (i + 1) xs)))
      ∙ ap (with_breaks first) (sym (cons s x (drop (i + 1) xs)))
      ∙ ap (λ y. with_breaks first (all s (y ∷ drop (i + 1) xs))) is
      ∙ sym (at_drop_more (λ ys. with_breaks first (all s ys)) xs i x before)
      ∙ so_far

  pub ended : (first whole : Option Break) (s : S) (xs : List X) (i : ℕ) → length xs ≤ i → with_breaks first (all s (drop i xs)) ≡ whole → first ≡ whole
  ended first whole s xs i past so_far =
      sym (none_more first) ∙ ap (with_breaks first) (sym (ap (all s) (drop_all i xs past) ∙ none s)) ∙ so_far

-- a stage that judges each item alone
pub item_turn : {X : Type 0} (f : X → List Break) (start first later : Option Break) (xs : List X) (i : ℕ) (x : X) → i < length xs → x ≡ get_or xs i x
    → first ≡ with_breaks start (flat_map f (take i xs)) → later ≡ with_breaks first (f x) → later ≡ with_breaks start (flat_map f (take (i + 1) xs))
item_turn f start first later xs i x before is so_far e =
    e ∙ ap (λ a. with_breaks a (f x)) so_far ∙ sym (behind start (flat_map f (take i xs)) (f x))
    ∙ ap (with_breaks start) (sym (flat_more f xs i x before is))

-- Symbols

abbrev next_name : List (List ℕ) → SymbolLine → List (List ℕ)
next_name names line = with_name (key_of line.name) names

pub symbol_turn : (first later whole : Option Break) (lines : List SymbolLine) (i : ℕ) (line : SymbolLine) → i < length lines → line ≡ get_or lines i line
    → later ≡ with_breaks first (line_breaks (names_before (take i lines)) line)
    → with_breaks first (symbols_behind (names_before (take i lines)) (drop i lines)) ≡ whole
    → with_breaks later (symbols_behind (names_before (take (i + 1) lines)) (drop (i + 1) lines)) ≡ whole
symbol_turn first later whole lines i line before is e so_far =
    turn symbols_behind line_breaks next_name (λ s. refl) (λ s x xs. refl) first later whole
    (names_before (take i lines)) (names_before (take (i + 1) lines)) lines i line before is
    (fold_more next_name [] lines i line before ∙ ap (next_name (names_before (take i lines))) (sym is)) e so_far

pub symbols_ended : (first whole : Option Break) (lines : List SymbolLine) (i : ℕ) → length lines ≤ i
    → with_breaks first (symbols_behind (names_before (take i lines)) (drop i lines)) ≡ whole → first ≡ whole
symbols_ended first whole lines i past so_far =
    ended symbols_behind line_breaks next_name (λ s. refl) (λ s x xs. refl) first whole (names_before (take i lines)) lines i past so_far

-- Blocks

module _ {X : Type 0} (number : X → BlockKind × Result ℕ Reason) (xs : List X) (i : ℕ) (x : X) (before : i < length xs) (is : x ≡ get_or xs i x) where
  -- the blocks before by kind and number, with one more
  numbers_more : numbers_before (take (i + 1) (map number xs)) ≡ with_block (numbers_before (take i (map number xs))) (number x)
  numbers_more =
      let long : i < length (map number xs) = omega (arith, before, length-map xs number) in
      fold_more with_block [] (map number xs) i (number x) long
      ∙ ap (with_block (numbers_before (take i (map number xs)))) (get_or-map number xs i x (number x) before ∙ ap number (sym is))

  -- a block is numbered as often as it stands in a list
  pub long_enough : (blocks : List (BlockKind × Result ℕ Reason)) → blocks ≡ map number xs → i < length blocks
  long_enough blocks are = subst (λ l. i < length l) (sym are) (omega (arith, before, length-map xs number))

  -- what stands at its place is its number
  pub number_is : (blocks : List (BlockKind × Result ℕ Reason)) (n : Result ℕ Reason) → blocks ≡ map number xs
      → IfSome (slice_get blocks i) (λ b. n ≡ b.1) → n ≡ (number x).1
  number_is blocks n are h =
      subst (λ o. IfSome o (λ (b : BlockKind × Result ℕ Reason). n ≡ b.1))
      (ap (λ l. slice_get l i) are ∙ slice_get-map number xs i ∙ ap (option_map number) (slice_get_read xs (length xs) i x refl before is)) h

module _ (text : RawProgram) where
  abbrev db_item : List (BlockKind × ℕ) → RawData → List Break
  db_item before d = db_breaks text before d (block_number text.symbols block.Db d.name)

  abbrev next_db : List (BlockKind × ℕ) → RawData → List (BlockKind × ℕ)
  next_db before d = with_block before (number_of_db text.symbols d)

  pub db_turn : (first later whole : Option Break) (dbs : List RawData) (i : ℕ) (d : RawData) → i < length dbs → d ≡ get_or dbs i d
      → later ≡ with_breaks first (db_breaks text (numbers_before (take i (db_numbers text.symbols dbs))) d (block_number text.symbols block.Db d.name))
      → with_breaks first (dbs_behind text (numbers_before (take i (db_numbers text.symbols dbs))) (drop i dbs)) ≡ whole
      → with_breaks later (dbs_behind text (numbers_before (take (i + 1) (db_numbers text.symbols dbs))) (drop (i + 1) dbs)) ≡ whole
  db_turn first later whole dbs i d before is e so_far =
      turn (dbs_behind text) db_item next_db (λ s. refl) (λ s x xs. refl) first later whole
      (numbers_before (take i (db_numbers text.symbols dbs))) (numbers_before (take (i + 1) (db_numbers text.symbols dbs))) dbs i d before is
      (numbers_more (number_of_db text.symbols) dbs i d before is) e so_far

  pub dbs_ended : (first whole : Option Break) (dbs : List RawData) (i : ℕ) → length dbs ≤ i
      → with_breaks first (dbs_behind text (numbers_before (take i (db_numbers text.symbols dbs))) (drop i dbs)) ≡ whole → first ≡ whole
  dbs_ended first whole dbs i past so_far =
      ended (dbs_behind text) db_item next_db (λ s. refl) (λ s x xs. refl) first whole (numbers_before (take i (db_numbers text.symbols dbs))) dbs i past so_far

module _ (text : RawProgram) where
  abbrev next_block : List (BlockKind × ℕ) → RawBlock → List (BlockKind × ℕ)
  next_block before raw = with_block before (number_of_block text.symbols raw)

  pub block_turn : (first later whole : Option Break) (raws : List RawBlock) (i : ℕ) (raw : RawBlock) → i < length raws → raw ≡ get_or raws i raw
      → later ≡ with_breaks first (block_breaks text (numbers_before (take i (block_numbers text.symbols raws))) raw)
      → with_breaks first (blocks_behind text (numbers_before (take i (block_numbers text.symbols raws))) (drop i raws)) ≡ whole
      → with_breaks later (blocks_behind text (numbers_before (take (i + 1) (block_numbers text.symbols raws))) (drop (i + 1) raws)) ≡ whole
  block_turn first later whole raws i raw before is e so_far =
      turn (blocks_behind text) (block_breaks text) next_block (λ s. refl) (λ s x xs. refl) first later whole
      (numbers_before (take i (block_numbers text.symbols raws))) (numbers_before (take (i + 1) (block_numbers text.symbols raws))) raws i raw before is
      (numbers_more (number_of_block text.symbols) raws i raw before is) e so_far

  pub blocks_ended : (first whole : Option Break) (raws : List RawBlock) (i : ℕ) → length raws ≤ i
      → with_breaks first (blocks_behind text (numbers_before (take i (block_numbers text.symbols raws))) (drop i raws)) ≡ whole → first ≡ whole
  blocks_ended first whole raws i past so_far =
      ended (blocks_behind text) (block_breaks text) next_block (λ s. refl) (λ s x xs. refl) first whole
      (numbers_before (take i (block_numbers text.symbols raws))) raws i past so_far
