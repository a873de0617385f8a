-- What a data block holds, by its content.
use Rattle.std.proofs.Common.{◌≡◌, ℕ, Bool, true, false, List, [], ◌∷◌, ◌++◌, Option, Some, None, Result, cond, refl, sym, ap, ◌∙◌}
use Rattle.std.specs.Option.{is_some}
use Rattle.s7_base.proofs.FirstBreak.{first_of_all_is_first}
use Rattle.s7_base.specs.Broken.{first_of_all}
use Rattle.s7_base.specs.declared.reason.Reason.{Reason}
use Rattle.block_variables.proofs.Firsts.{behind, joins}
use Rattle.data_contents.specs.Contents.{Breaks}
use Rattle.s7_base.specs.declared.rule_break.Break.{Break}
use Rattle.stl_rules.specs.DataBlocks.{bytes_with}
use Rattle.stl_rules.specs.DeclarationRules.{scope_breaks}
use Rattle.stl_rules.specs.Interfaces.{are_refused, most_in_block}
use Rattle.stl_rules.specs.Layouts.{breaks_in}
use Rattle.stl_rules.specs.Stages.{valued_breaks, values_in}
use Rattle.stl_rules.specs.TooLarge.{first_large}
use Rattle.stl_tree.specs.declared.raw.Declaration.{Declaration}
use Rattle.stl_tree.specs.declared.raw.RawDataKind.{RawDataKind}
use Rattle.stl_tree.specs.declared.raw.RawDataKind.TheVariants as data_kind
use Rattle.stl_tree.specs.declared.raw.RawInitial.{RawInitial}
use Rattle.symbol_names.specs.inner.Kept.{bytes_of_sections, bytes_unless, data_by, kept_if}
use Rattle.operand_scopes.specs.Refused.{decls_of, is_refused}

pub with_bytes : (sections : List (List Declaration)) (values : List RawInitial) (bytes : List ℕ) → Breaks sections values false None
    → bytes ≡ bytes_with sections values → Some bytes ≡ bytes_of_sections values sections
with_bytes sections values bytes b e =
    ap (λ (bs : List ℕ). Some bs) e ∙ sym (ap (λ o. bytes_unless o (bytes_with sections values)) b.first_is)

pub without : (sections : List (List Declaration)) (values : List RawInitial) (refused : Bool) (first : Break)
    → Breaks sections values refused (Some first) → None ≡ bytes_of_sections values sections
without sections values refused first b = sym (ap (λ o. bytes_unless o (bytes_with sections values)) b.first_is)

pub ruleset content_laws = (with_bytes, without)

-- no declarations break no rule
none_refused : are_refused most_in_block ([] ∷ []) ≡ false
unfolding scope_breaks first_large
none_refused = refl

-- the declarations of a data block break a rule where they are its own and break one
pub refused_is : (kind : RawDataKind) → is_refused kind ≡ are_refused most_in_block (decls_of kind ∷ [])
refused_is (data_kind.Own decls) = refl
refused_is (data_kind.Instance name) = sym none_refused

-- what is kept of bytes that are the same where they are kept
pub kept_same : (keep : Bool) (number : Result ℕ Reason) (a b : Option (List ℕ)) → (keep ≡ true → a ≡ b)
    → kept_if keep (data_by number a) ≡ kept_if keep (data_by number b)
kept_same true number a b h = ap (data_by number) (h refl)
kept_same false number a b h = refl

pub ruleset put_laws = (behind, joins, refused_is, kept_same)

-- Declarations that are judged elsewhere

none_by : (o : Option Break) → is_some o ≡ false → o ≡ None
none_by None h = refl
none_by (Some first) h = absurd cc

-- the values of declarations that break no rule
values_alone : (sections : List (List Declaration)) (values : List RawInitial) → are_refused most_in_block sections ≡ false
    → valued_breaks sections values ≡ values_in sections values
values_alone sections values h =
    let broken : List Break = breaks_in most_in_block sections in
    let kept : broken ≡ [] = first_of_all_is_first.none broken (none_by (first_of_all broken) h) in
    ap (λ bs. bs ++ cond (is_some (first_of_all bs)) [] (values_in sections values)) kept

pub first_of_values : (sections : List (List Declaration)) (values : List RawInitial) (refused : Bool) (first : Option Break)
    → are_refused most_in_block sections ≡ false → Breaks sections values refused first → first ≡ first_of_all (values_in sections values)
first_of_values sections values refused first h b = sym b.first_is ∙ ap first_of_all (values_alone sections values h)

pub not_refused : (sections : List (List Declaration)) (values : List RawInitial) (first : Option Break)
    → are_refused most_in_block sections ≡ false → Breaks sections values true first → ⊥
not_refused sections values first h b = let e : false ≡ true = sym h ∙ b.refused_is in absurd cc

pub ruleset kept_laws = (with_bytes, without, first_of_values, not_refused)
