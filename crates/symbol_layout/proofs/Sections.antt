-- Sections one after another, as they are kept, and one turn of the loops over them.
use Rattle.std.specs.Prelude.{◌≡◌, ℕ, ◌+◌, ◌^◌, ◌≤◌, ◌<◌, Bool, true, false, cond, List, [], ◌∷◌, ◌++◌, length, get_or, drop, Option, Some, None}
use Rattle.std.specs.Borrow.{Bor}
use Rattle.std.specs.List.{flat_map}
use Rattle.std.specs.Option.{option_or}
use Rattle.std.proofs.Common.{refl, sym, ap, ◌∙◌, arith, append_assoc}
use Rattle.std.proofs.Math.Nat.{min-eq_left}
use Rattle.std.proofs.lemmas.List.{at_drop_more}
use Rattle.s7_base.specs.declared.rule_break.Break.{Break}
use Rattle.s7_base.specs.declared.reason.Line.{Line}
use Rattle.stl_tree.specs.declared.raw.Declaration.{Declaration}
use Rattle.stl_rules.proofs.Equations.{scope_cons, scope_nil}
use Rattle.stl_rules.specs.Contents.{bits_behind, bits_of_sections, filled_to}
use Rattle.stl_rules.specs.DeclarationRules.{declaration_breaks, is_named, key_of, break_if_repeated, scope_breaks, with_name}
use Rattle.stl_rules.specs.Extents.{end_of, end_of_all, end_of_sections, extent_of, place_behind, section_behind}
use Rattle.stl_rules.specs.Paths.{Placed, named_behind, named_in}
use Rattle.stl_rules.specs.TooLarge.{first_large, first_large_in, inside, passes}
use Rattle.symbol_layout.proofs.Capped.{capped_place}
use Rattle.symbol_layout.proofs.Kept.{capped_twice, end_kept, kept_named}
use Rattle.symbol_layout.proofs.Limits.{first_cons}
use Rattle.symbol_layout.specs.Kept.{sections_now, capped_bits, capped_placed}
use Rattle.symbol_layout.specs.inner.Scopes.{names_behind}

-- Ends

all_kept : (decls : List Declaration) (n : ℕ) → capped_bits (end_of_all (capped_bits n) decls) ≡ capped_bits (end_of_all n decls)
all_kept [] n = capped_twice n
all_kept (d ∷ decls) n =
    sym (all_kept decls (end_of (capped_bits n) d))
    ∙ ap (λ k. capped_bits (end_of_all k decls)) (end_kept n d.ty)
    ∙ all_kept decls (end_of n d)

pub section_kept : (n : ℕ) → capped_bits (section_behind n) ≡ section_behind (capped_bits n)
section_kept n = capped_place n 16 (omega arith, omega arith, refl)

pub section_end : (n : ℕ) (section : List Declaration)
    → capped_bits (end_of_all (section_behind (capped_bits n)) section) ≡ capped_bits (end_of_all (section_behind n) section)
section_end n section = ap (λ k. capped_bits (end_of_all k section)) (sym (section_kept n)) ∙ all_kept section (section_behind n)

pub sections_kept : (sections : List (List Declaration)) (n : ℕ)
    → capped_bits (end_of_sections (capped_bits n) sections) ≡ capped_bits (end_of_sections n sections)
sections_kept [] n = capped_twice n
sections_kept (s ∷ sections) n =
    sym (sections_kept sections (end_of_all (section_behind (capped_bits n)) s))
    ∙ ap (λ k. capped_bits (end_of_sections k sections)) (section_end n s)
    ∙ sections_kept sections (end_of_all (section_behind n) s)

-- Names

pub named_kept : (sections : List (List Declaration)) (name : List ℕ) (n : ℕ)
    → capped_placed (named_in (capped_bits n) sections name) ≡ capped_placed (named_in n sections name)
named_kept [] name n = refl
named_kept (s ∷ sections) name n =
    either (named_behind (section_behind (capped_bits n)) s name) (named_behind (section_behind n) s name)
    (ap (λ k. capped_placed (named_behind k s name)) (sym (section_kept n)) ∙ kept_named s name (section_behind n))
    (named_in (end_of_all (section_behind (capped_bits n)) s) sections name) (named_in (end_of_all (section_behind n) s) sections name)
    (sym (named_kept sections name (end_of_all (section_behind (capped_bits n)) s))
    ∙ ap (λ k. capped_placed (named_in k sections name)) (section_end n s)
    ∙ named_kept sections name (end_of_all (section_behind n) s))
  where
    either : (a b : Option Placed) → capped_placed a ≡ capped_placed b → (x y : Option Placed) → capped_placed x ≡ capped_placed y
        → capped_placed (option_or a x) ≡ capped_placed (option_or b y)
    either None None e x y f = f
    either None (Some b) e x y f = absurd cc
    either (Some a) None e x y f = absurd cc
    either (Some a) (Some b) e x y f = e

-- Lengths

-- where no length passes a limit, the end is less than the most bits
pub ends_low : (limit : ℕ) → limit < 2 ^ 32 → (decls : List Declaration) (start : ℕ) → start ≤ 2 ^ 60 → first_large limit start decls ≡ None
    → end_of_all start decls ≤ 2 ^ 60
ends_low limit small [] start low none = low
ends_low limit small (d ∷ decls) start low none =
    by (inside limit d.ty (place_behind start (extent_of d.ty))) (passes limit (end_of start d)) refl (sym (first_cons limit start d decls) ∙ none)
    (λ h e. ends_low limit small decls (end_of start d) h e)
  where
    low_end : passes limit (end_of start d) ≡ false → end_of start d ≤ 2 ^ 60
    low_end e = grind (arith, e, small)

    by : (o : Option Line) (b : Bool) → passes limit (end_of start d) ≡ b
        → option_or o (cond b (Some d.line) (first_large limit (end_of start d) decls)) ≡ None
        → (end_of start d ≤ 2 ^ 60 → first_large limit (end_of start d) decls ≡ None → end_of_all start (d ∷ decls) ≤ 2 ^ 60)
        → end_of_all start (d ∷ decls) ≤ 2 ^ 60
    by (Some line) b e f more = absurd cc
    by None true e f more = absurd cc
    by None false e f more = more (low_end e) f

-- Rules

scope_append : (names : List (List ℕ)) (a b : List Declaration)
    → scope_breaks names (a ++ b) ≡ scope_breaks names a ++ scope_breaks (names_behind names a) b
scope_append names [] b = ap (λ bs. bs ++ scope_breaks names b) (sym (scope_nil names))
scope_append names (d ∷ a) b =
    let next = with_name (key_of d.name) names in
    let twice = break_if_repeated d.line (is_named (key_of d.name) names) in
    scope_cons names d (a ++ b)
    ∙ ap (λ bs. twice ++ declaration_breaks d ++ bs) (scope_append next a b)
    ∙ sym (append_assoc (twice ++ declaration_breaks d) (scope_breaks next a) (scope_breaks (names_behind next a) b))
    ∙ ap (λ bs. bs ++ scope_breaks (names_behind next a) b) (sym (scope_cons names d a))

-- One turn of a loop over sections

abbrev pub flat : List (List Declaration) → List Declaration
flat sections = flat_map (λ section. section) sections

module _ (sections : List (Bor (List Declaration))) (i : ℕ) (s : Bor (List Declaration)) (before : i < length sections)
    (item : s ≡ get_or sections i s) where
  abbrev rest : List (List Declaration)
  rest = sections_now (drop (i + 1) sections)

  opened : {X : Type 0} (f : List (List Declaration) → X) → f (sections_now (drop i sections)) ≡ f (s.now ∷ rest)
  opened f =
      at_drop_more (λ (ss : List (Bor (List Declaration))). f (sections_now ss)) sections i s before
      ∙ ap (λ (x : Bor (List Declaration)). f (x.now ∷ rest)) (sym item)

  pub end_turn : (end next all : ℕ) → next ≡ capped_bits (end_of_all (section_behind end) s.now)
      → capped_bits (end_of_sections end (sections_now (drop i sections))) ≡ all → capped_bits (end_of_sections next rest) ≡ all
  end_turn end next all e so_far =
      ap (λ k. capped_bits (end_of_sections k rest)) e
      ∙ sections_kept rest (end_of_all (section_behind end) s.now)
      ∙ sym (opened (λ ss. capped_bits (end_of_sections end ss)))
      ∙ so_far

  pub judge_turn : (all before after : List Break) (names next : List (List ℕ)) → next ≡ names_behind names s.now
      → after ≡ before ++ scope_breaks names s.now
      → before ++ scope_breaks names (flat (sections_now (drop i sections))) ≡ all → after ++ scope_breaks next (flat rest) ≡ all
  judge_turn all before after names next n a so_far =
      ap (λ bs. bs ++ scope_breaks next (flat rest)) a
      ∙ ap (λ ns. (before ++ scope_breaks names s.now) ++ scope_breaks ns (flat rest)) n
      ∙ append_assoc before (scope_breaks names s.now) (scope_breaks (names_behind names s.now) (flat rest))
      ∙ ap (λ bs. before ++ bs) (sym (opened (λ ss. scope_breaks names (flat ss)) ∙ scope_append names s.now (flat rest)))
      ∙ so_far

  pub bits_turn : (all bits filled next : List Bool) → filled ≡ filled_to 16 bits → next ≡ bits_behind filled s.now
      → bits_of_sections bits (sections_now (drop i sections)) ≡ all → bits_of_sections next rest ≡ all
  bits_turn all bits filled next f n so_far =
      ap (λ bs. bits_of_sections bs rest) (n ∙ ap (λ bs. bits_behind bs s.now) f)
      ∙ sym (opened (λ ss. bits_of_sections bits ss))
      ∙ so_far

  module _ (limit : ℕ) (small : limit < 2 ^ 32) (end start : ℕ) (at : start ≡ section_behind end) (all : Option Line)
      (so_far : first_large_in limit end (sections_now (drop i sections)) ≡ all) where
    large_opened : all ≡ option_or (first_large limit start s.now) (first_large_in limit (end_of_all start s.now) rest)
    large_opened =
        sym so_far ∙ opened (first_large_in limit end)
        ∙ ap (λ k. option_or (first_large limit k s.now) (first_large_in limit (end_of_all k s.now) rest)) (sym at)

    pub large_here : (line : Line) → first_large limit start s.now ≡ Some line → Some line ≡ all
    large_here line e = sym (large_opened ∙ ap (λ o. option_or o (first_large_in limit (end_of_all start s.now) rest)) e)

    pub large_turn : (next : ℕ) → start ≤ 2 ^ 60 → first_large limit start s.now ≡ None → next ≡ capped_bits (end_of_all start s.now)
        → first_large_in limit next rest ≡ all
    large_turn next low e n =
        ap (λ k. first_large_in limit k rest) (n ∙ min-eq_left (ends_low limit small s.now start low e))
        ∙ sym (large_opened ∙ ap (λ o. option_or o (first_large_in limit (end_of_all start s.now) rest)) e)

-- The same over sections that are no borrows

module _ (sections : List (List Declaration)) (i : ℕ) (s : List Declaration) (before : i < length sections) (item : s ≡ get_or sections i s)
    (name : List ℕ) (end start : ℕ) (at : start ≡ section_behind end) (all : Option Placed)
    (so_far : capped_placed (named_in end (drop i sections) name) ≡ all) where
  named_opened : all ≡ capped_placed (option_or (named_behind start s name) (named_in (end_of_all start s) (drop (i + 1) sections) name))
  named_opened =
      sym so_far ∙ at_drop_more (λ (ss : List (List Declaration)). capped_placed (named_in end ss name)) sections i s before
      ∙ ap (λ x. capped_placed (named_in end (x ∷ drop (i + 1) sections) name)) (sym item)
      ∙ ap (λ k. capped_placed (option_or (named_behind k s name) (named_in (end_of_all k s) (drop (i + 1) sections) name))) (sym at)

  pub named_here : (found : Placed) → Some found ≡ capped_placed (named_behind start s name) → Some found ≡ all
  named_here found e = here (named_behind start s name) e ∙ sym named_opened
    where
      here : (o : Option Placed) → Some found ≡ capped_placed o
          → Some found ≡ capped_placed (option_or o (named_in (end_of_all start s) (drop (i + 1) sections) name))
      here None e = absurd cc
      here (Some x) e = e

  pub named_turn : (next : ℕ) → None ≡ capped_placed (named_behind start s name) → next ≡ capped_bits (end_of_all start s)
      → capped_placed (named_in next (drop (i + 1) sections) name) ≡ all
  named_turn next e n =
      ap (λ k. capped_placed (named_in k (drop (i + 1) sections) name)) n
      ∙ named_kept (drop (i + 1) sections) name (end_of_all start s)
      ∙ further (named_behind start s name) e
      ∙ sym named_opened
    where
      further : (o : Option Placed) → None ≡ capped_placed o
          → capped_placed (named_in (end_of_all start s) (drop (i + 1) sections) name)
          ≡ capped_placed (option_or o (named_in (end_of_all start s) (drop (i + 1) sections) name))
      further None f = refl
      further (Some x) f = absurd cc
