-- The sections of an interface, as code borrows them.
use Rattle.std.proofs.Common.{◌≡◌, ℕ, Bool, true, false, ◌||◌, List, [], ◌∷◌, ◌++◌, Option, None, refl, sym, ap, ◌∙◌, append_assoc}
use Rattle.std.proofs.lemmas.List.{append-nil}
use Rattle.std.proofs.lemmas.List.Folds.{list_any-append}
use Rattle.block_variables.specs.Firsts.{first_of_two, with_breaks}
use Rattle.block_variables.specs.inner.Kept.{has_name, own_sections}
use Rattle.block_variables.proofs.Firsts.{behind, from_none, joins}
use Rattle.s7_base.specs.Broken.{first_of_all}
use Rattle.s7_base.specs.Tokens.{is_same_word}
use Rattle.s7_base.specs.declared.rule_break.Break.{Break}
use Rattle.stl_rules.specs.DeclarationRules.{scope_breaks, section_breaks}
use Rattle.stl_rules.specs.Interfaces.{interface_large, interface_of, is_declared, most_in_block, result_declared}
use Rattle.stl_rules.specs.Layouts.{too_large}
use Rattle.stl_rules.specs.TooLarge.{first_large_in}
use Rattle.stl_tree.specs.declared.raw.BlockKind.TheVariants as block
use Rattle.stl_tree.specs.declared.raw.Declaration.{Declaration}
use Rattle.stl_tree.specs.declared.raw.RawBlock.{RawBlock}

-- the first of the rules of two lists
pub first_both : (xs ys : List Break) → first_of_two (first_of_all xs) (first_of_all ys) ≡ first_of_all (xs ++ ys)
first_both xs ys =
    joins (first_of_all xs) ys ∙ ap (λ o. with_breaks o ys) (sym (from_none xs))
    ∙ sym (behind None xs ys) ∙ from_none (xs ++ ys)

-- sections of one scope may be cut in two
pub in_parts : (a b r c d : List Declaration)
    → section_breaks (a ∷ b ∷ r ∷ c ∷ d ∷ []) ≡ section_breaks (a ∷ (b ++ r) ∷ c ∷ d ∷ [])
in_parts a b r c d = ap (λ l. scope_breaks [] (a ++ l)) (sym (append_assoc b r (c ++ (d ++ []))))

pub all_in_parts : (a b r c d t : List Declaration)
    → section_breaks (a ∷ b ∷ r ∷ c ∷ d ∷ t ∷ []) ≡ section_breaks (a ∷ (b ++ r) ∷ c ∷ d ∷ t ∷ [])
all_in_parts a b r c d t = ap (λ l. scope_breaks [] (a ++ l)) (sym (append_assoc b r (c ++ (d ++ (t ++ [])))))

-- a function block has no result
pub of_function_block : (raw : RawBlock) → raw.kind ≡ block.Fb → own_sections raw ≡ interface_of raw
of_function_block raw is =
    ap (λ l. raw.inputs ∷ l ∷ raw.in_outs ∷ raw.statics ∷ [])
    (sym (append-nil raw.outputs) ∙ ap (λ kind. raw.outputs ++ result_declared kind raw.line raw.result) (sym is))

-- the first of the rules of three lists
pub first_of_three : (a b c : Option Break) (xs ys zs : List Break) → a ≡ first_of_all xs
    → b ≡ first_of_two a (first_of_all ys) → c ≡ first_of_two b (first_of_all zs) → c ≡ first_of_all (xs ++ ys ++ zs)
first_of_three a b c xs ys zs e f g =
    g ∙ ap (λ o. first_of_two o (first_of_all zs)) (f ∙ ap (λ o. first_of_two o (first_of_all ys)) e ∙ first_both xs ys)
    ∙ first_both (xs ++ ys) zs

-- the rule of an interface that is too long
pub large_of_function_block : (raw : RawBlock) → raw.kind ≡ block.Fb
    → first_of_all (too_large (first_large_in most_in_block 0 (own_sections raw))) ≡ first_of_all (interface_large raw.kind (interface_of raw))
large_of_function_block raw is =
    ap (λ s. first_of_all (too_large (first_large_in most_in_block 0 s))) (of_function_block raw is)
    ∙ ap (λ kind. first_of_all (interface_large kind (interface_of raw))) (sym is)

pub ruleset large_laws = (large_of_function_block)

-- Names

-- a name is declared in some sections, one of them cut in two
pub declared_in_parts : (name : List ℕ) (a b r c d : List Declaration)
    → is_declared name (a ∷ (b ++ r) ∷ c ∷ d ∷ []) ≡ (is_declared name (a ∷ b ∷ c ∷ d ∷ []) || has_name name r)
declared_in_parts name a b r c d =
    ap (λ t. has_name name a || (t || (has_name name c || (has_name name d || false))))
    (list_any-append (λ (x : Declaration). is_same_word x.name name) b r)
    ∙ by (has_name name a) (has_name name b) (has_name name r) (has_name name c || (has_name name d || false))
  where
    by : (p q s u : Bool) → (p || ((q || s) || u)) ≡ ((p || (q || u)) || s)
    by true q s u = refl
    by false true s u = refl
    by false false true true = refl
    by false false true false = refl
    by false false false true = refl
    by false false false false = refl
