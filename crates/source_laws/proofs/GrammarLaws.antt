-- The items of a text are what the grammar says, up to the end of the text.
use Rattle.std.proofs.Common.{◌≡◌, ℕ, zero, suc, ◌≤◌, List, [], ◌∷◌, length, drop, Result, Ok, Err, refl, sym, ap, subst, ◌∙◌, arith, length-drop}
use Rattle.s7_base.specs.declared.reason.Line.{Line}
use Rattle.s7_base.specs.declared.reason.Rejection.{Rejection}
use Rattle.s7_base.specs.declared.token.Token.{Token}
use Rattle.stl_grammar.specs.Grammar.{IsForm, heading, function, table, symbol, table_end, skipped_line, begin, first_section, instance, section_end, data_end, struct_end, declaration, begin_behind, later_section, value, values_end, skipped_word, end_word, statement, IsItem, form, left_out, no_instruction, none, at_start, in_a_table, behind_a_block, behind_a_heading, in_a_section, in_a_struct, behind_a_section, in_a_body, among_values, AreItems, none_more, one_more}
use Rattle.stl_grammar.specs.Items.{item_at, prepend_item, with_found, items_from}
use Rattle.stl_grammar.specs.declared.item.NextItem.{NextItem}
use Rattle.stl_grammar.specs.declared.item.NextItem.TheVariants.{Fits, Misfit, Ended}
use Rattle.stl_grammar.specs.declared.item.Item.{Item}
use Rattle.stl_grammar.specs.declared.item.Where.{Where}
use Rattle.source_laws.proofs.ItemLaws.{sound as item_is, complete as item_found}
use Rattle.stl_grammar.proofs.Skipping.{skipped}

abbrev IsSome : List Token → Type 0
IsSome [] = ⊥
IsSome (first ∷ rest) = Unit {0}

-- an item has a first token
form_some : {place next : Where} {tokens : List Token} {item : Item} {size : ℕ} → IsForm place tokens item size next → IsSome tokens
form_some (heading place kind first rest may is named) = tt
form_some (function place first {names = names} colon type rest may word is sign of) = tt
form_some (table first rest word) = tt
form_some (symbol line name a its b type c comment rest address no_end behind quoted_name one two three is) = tt
form_some (table_end line first rest ends) = tt
form_some (skipped_line kind line first rest is) = tt
form_some (begin kind line first rest no_line no_data word) = tt
form_some (first_section kind line its first rest no_line no_begin word may) = tt
form_some (instance line first names rest name no_line is) = tt
form_some (section_end kind its first rest no_own word) = tt
form_some (data_end kind first sign rest word ends) = tt
form_some (struct_end kind its level levels first front rest items word is) = tt
form_some (declaration kind its levels name front rest type no_end is) = tt
form_some (begin_behind kind before first rest word) = tt
form_some (later_section kind before its first rest word may) = tt
form_some (value first front rest its no_end is) = tt
form_some (values_end first rest word) = tt
form_some (skipped_word kind first rest is) = tt
form_some (end_word kind first rest no_skip word) = tt
form_some (statement kind first more sign rest instr no_skip no_end whole is ends) = tt

-- what ends a text has no token
abbrev AtEnd : List Token → NextItem → Type 0
AtEnd [] found = Unit {0}
AtEnd (first ∷ rest) Ended = ⊥
AtEnd (first ∷ rest) (Fits item size next) = Unit {0}
AtEnd (first ∷ rest) (Misfit line reason) = Unit {0}

fits_at_end : (tokens : List Token) (item : Item) (size : ℕ) (next : Where) → AtEnd tokens (Fits item size next)
fits_at_end [] item size next = tt
fits_at_end (first ∷ rest) item size next = tt

ended : {end : Line} {place : Where} {tokens : List Token} {found : NextItem} → IsItem end place tokens found → AtEnd tokens found
ended {tokens = tokens} (form {next = next} {item = item} {size = size} is) = fits_at_end tokens item size next
ended (no_instruction kind first rest no_sign no_end whole is) = tt
ended (left_out first rest kind no_form out) = tt
ended (none first rest no_form no_left no_statement) = tt
ended at_start = tt
ended (in_a_table line) = tt
ended behind_a_block = tt
ended (behind_a_heading kind line) = tt
ended (in_a_section kind its) = tt
ended (in_a_struct kind its level levels) = tt
ended (behind_a_section kind its) = tt
ended (in_a_body kind) = tt
ended among_values = tt

at_no_token : (end : Line) (place : Where) (items : List Item) (found : NextItem) → IsItem end place [] found
    → with_found found (λ size next. Ok []) ≡ Ok items → AreItems end place [] items
at_no_token end place items (Fits item size next) (form is) e = absurd (form_some is)
at_no_token end place items (Misfit line reason) is e = absurd cc
at_no_token end place items Ended is e =
    let same : [] ≡ items = cc in
    let P : List Item → Type 0 = λ more. AreItems end place [] more in
    subst P same (none_more is)

abbrev Sound : ℕ → Type 0
Sound n =
    (end : Line) (place : Where) (tokens : List Token) (items : List Item) → length tokens ≤ n
    → items_from end 0 place tokens ≡ Ok items → AreItems end place tokens items

prepended : (n : ℕ) → Sound n
    → (end : Line) (place next : Where) (first : Token) (rest : List Token) (item : Item) (size : ℕ) (items : List Item) (behind : Result (List Item) Rejection)
    → length rest ≤ n → IsItem end place (first ∷ rest) (Fits item size next) → items_from end size next rest ≡ behind
    → prepend_item item behind ≡ Ok items → AreItems end place (first ∷ rest) items
prepended n sound end place next first rest item size items (Ok more) h is found e =
    let same : item ∷ more ≡ items = cc in
    let shorter : length (drop size rest) ≤ n = omega (arith, h, length-drop size rest) in
    let P : List Item → Type 0 = λ all. AreItems end place (first ∷ rest) all in
    subst P same (one_more first rest is (sound end next (drop size rest) more shorter (sym (skipped end size next rest) ∙ found)))
prepended n sound end place next first rest item size items (Err refused) h is found e = absurd cc

at_a_token : (n : ℕ) → Sound n → (end : Line) (place : Where) (first : Token) (rest : List Token) (items : List Item) (found : NextItem)
    → length rest ≤ n → IsItem end place (first ∷ rest) found
    → with_found found (λ size next. items_from end size next rest) ≡ Ok items → AreItems end place (first ∷ rest) items
at_a_token n sound end place first rest items (Fits item size next) h is e =
    prepended n sound end place next first rest item size items (items_from end size next rest) h is refl e
at_a_token n sound end place first rest items (Misfit line reason) h is e = absurd cc
at_a_token n sound end place first rest items Ended h is e = absurd (ended is)

pub sound_items : (n : ℕ) → Sound n
sound_items n end place [] items h e = at_no_token end place items (item_at end place []) (item_is end place []) e
sound_items zero end place (first ∷ rest) items h e = absurd (omega arith)
sound_items (suc n) end place (first ∷ rest) items h e =
    at_a_token n (sound_items n) end place first rest items (item_at end place (first ∷ rest)) (omega arith) (item_is end place (first ∷ rest)) e

pub complete_items : {end : Line} {place : Where} {tokens : List Token} {items : List Item}
    → AreItems end place tokens items → items_from end 0 place tokens ≡ Ok items
complete_items {end = end} {place = place} (none_more is) =
    ap (λ (found : NextItem). with_found found (λ size next. Ok [])) (item_found end place [] Ended is)
complete_items {end = end} {place = place} (one_more {next = next} first rest {item = item} {size = size} {items = items} is are) =
    ap (λ (found : NextItem). with_found found (λ taken after. items_from end taken after rest)) (item_found end place (first ∷ rest) (Fits item size next) is)
    ∙ ap (λ (r : Result (List Item) Rejection). prepend_item item r) (skipped end size next rest ∙ complete_items are)
