-- The first rule of the names of a text, and its blocks beside their variables.
use Rattle.std.proofs.Common.{◌≡◌, ◌<◌, ℕ, List, [], ◌++◌, length, get_or, slice_get, Option, Some, None, refl, sym, ap, subst, ◌∙◌}
use Rattle.std.proofs.lemmas.Option.{slice_get_read}
use Rattle.memory_areas.specs.declared.sizes.TheConstants.{MOST_BLOCKS}
use Rattle.s7_base.specs.Broken.{first_of_all}
use Rattle.s7_base.specs.declared.rule_break.Break.{Break}
use Rattle.block_variables.proofs.Firsts.{of_four}
use Rattle.block_variables.specs.Firsts.{with_breaks}
use Rattle.stl_rules.specs.Stages.{blocks_behind, dbs_behind, names, one_too_many, symbols_behind}
use Rattle.stl_tree.specs.declared.raw.RawProgram.{RawProgram}

pub first_of_names : (raw text : RawProgram) (a b many last : Option Break) → text ≡ raw → a ≡ with_breaks None (symbols_behind [] text.symbols)
    → b ≡ with_breaks a (dbs_behind text [] raw.dbs) → many ≡ with_breaks b (one_too_many (slice_get raw.dbs MOST_BLOCKS))
    → last ≡ with_breaks many (blocks_behind text [] raw.blocks) → last ≡ first_of_all (names raw)
first_of_names raw text a b many last is e f g h =
    of_four a b many last (symbols_behind [] raw.symbols) (dbs_behind raw [] raw.dbs)
    (one_too_many (slice_get raw.dbs MOST_BLOCKS)) (blocks_behind raw [] raw.blocks)
    (e ∙ ap (λ (t : RawProgram). with_breaks None (symbols_behind [] t.symbols)) is)
    (f ∙ ap (λ (t : RawProgram). with_breaks a (dbs_behind t [] raw.dbs)) is) g
    (h ∙ ap (λ (t : RawProgram). with_breaks many (blocks_behind t [] raw.blocks)) is)

-- at one place of two equal lists stands the same
pub same_at : {X : Type 0} (xs ys : List X) (i : ℕ) (a b : X) → xs ≡ ys → i < length ys → a ≡ get_or xs i a → b ≡ get_or ys i b → a ≡ b
same_at xs ys i a b e before is other =
    let long : i < length xs = subst (λ l. i < length l) (sym e) before in
    let first : slice_get xs i ≡ Some a = slice_get_read xs (length xs) i a refl long is in
    let second : slice_get ys i ≡ Some b = slice_get_read ys (length ys) i b refl before other in
    let same : Some a ≡ Some b = sym first ∙ ap (λ l. slice_get l i) e ∙ second in
    cc
