-- One turn of the loops over declarations, indices and paths, and the component that is found.
use Rattle.std.specs.Prelude.{◌≡◌, ℕ, ◌+◌, ◌*◌, ◌/◌, ◌%◌, ◌^◌, ◌<◌, ◌≤◌, min, ◌-◌, ℤ, ◌-ℤ◌, unsigned_abs, Bool, true, false, cond, List, [], ◌∷◌, length, get_or, drop, Option, Some, None, option_and_then, option_map, if◌then◌else◌}
use Rattle.std.proofs.Common.{refl, sym, ap, ◌∙◌, arith}
use Rattle.std.proofs.lemmas.List.{at_drop_more}
use Rattle.s7_base.specs.Tokens.{is_same_word}
use Rattle.stl_tree.specs.declared.raw.Declaration.{Declaration}
use Rattle.stl_tree.specs.declared.raw.DeclType.{DeclType}
use Rattle.stl_tree.specs.declared.raw.PathStep.{PathStep}
use Rattle.stl_tree.specs.declared.raw.PathStep.TheVariants as step
use Rattle.symbol_layout.proofs.Kept.{kept_elements, kept_named, kept_walked}
use Rattle.stl_rules.specs.Extents.{end_behind, end_of, extent_of, indices_in, place_behind}
use Rattle.stl_rules.specs.Paths.{Placed, component_at, component_in, elements_before, is_index, named_behind, named_in, after_step, after_path}
use Rattle.stl_rules.specs.DeclarationRules.{elementary}
use Rattle.stl_rules.specs.declared.layout.Component.{Component}
use Rattle.symbol_layout.specs.Kept.{capped_bits, capped_placed}
use Rattle.symbol_layout.specs.inner.Capped.{next_row}

-- Names

module _ (start end i : ℕ) (decls : List Declaration) (name : List ℕ) (d : Declaration) (before : i < length decls)
    (item : d ≡ get_or decls i d)
    (so_far : capped_placed (named_behind end (drop i decls) name) ≡ capped_placed (named_behind start decls name)) where
  abbrev choice : Bool → Option Placed
  choice b = cond b (Some (place_behind end (extent_of d.ty), d.ty)) (named_behind (end_of end d) (drop (i + 1) decls) name)

  turn : capped_placed (named_behind start decls name) ≡ capped_placed (choice (is_same_word d.name name))
  turn =
      sym so_far ∙ at_drop_more (λ (ds : List Declaration). capped_placed (named_behind end ds name)) decls i d before
      ∙ ap (λ x. capped_placed (named_behind end (x ∷ drop (i + 1) decls) name)) (sym item)

  pub goes_past : (next : ℕ) → next ≡ capped_bits (end_behind end (extent_of d.ty)) → is_same_word d.name name ≡ false
      → capped_placed (named_behind next (drop (i + 1) decls) name) ≡ capped_placed (named_behind start decls name)
  goes_past next is other =
      ap (λ k. capped_placed (named_behind k (drop (i + 1) decls) name)) is
      ∙ kept_named (drop (i + 1) decls) name (end_of end d)
      ∙ sym (turn ∙ ap (λ b. capped_placed (choice b)) other)

-- Indices

module _ (more : List (ℤ × ℤ)) (is : List ℤ) where
  abbrev behind : ℕ → Option ℕ
  behind k = elements_before k more is

  pub row_found : (row : Option ℕ) (n : ℕ) → Some n ≡ option_map capped_bits row
      → (n ≤ 2 ^ 60) × (option_map capped_bits (behind n) ≡ option_map capped_bits (option_and_then behind row))
  row_found None n e = cc
  row_found (Some k) n e =
      let same : n ≡ capped_bits k = cc in
      (omega (arith, same), ap (λ m. option_map capped_bits (behind m)) same ∙ kept_elements more is k)

row_opened : (rows : ℕ) (b : ℤ × ℤ) (more : List (ℤ × ℤ)) (rest : List ℤ)
    → elements_before rows (b ∷ more) rest ≡ option_and_then (behind more (drop 1 rest)) (next_row rows b rest)
row_opened rows b more [] = refl
row_opened rows b more (i ∷ is) = either (is_index b i)
  where
    either : (t : Bool) → (if t then elements_before (rows * indices_in b + unsigned_abs (i -ℤ b.0)) more is else None)
        ≡ option_and_then (behind more is) (if t then Some (rows * indices_in b + unsigned_abs (i -ℤ b.0)) else None)
    either true = refl
    either false = refl

module _ (rows i : ℕ) (bounds : List (ℤ × ℤ)) (d : ℤ × ℤ) (rest : List ℤ) (before : i < length bounds) (all : Option ℕ)
    (so_far : option_map capped_bits (elements_before rows (drop i bounds) rest) ≡ all) where
  opened : all ≡ option_map capped_bits (option_and_then (behind (drop (i + 1) bounds) (drop 1 rest)) (next_row rows (get_or bounds i d) rest))
  opened =
      sym so_far ∙ at_drop_more (λ (bs : List (ℤ × ℤ)). option_map capped_bits (elements_before rows bs rest)) bounds i d before
      ∙ ap (option_map capped_bits) (row_opened rows (get_or bounds i d) (drop (i + 1) bounds) rest)

  pub further : (n : ℕ) → Some n ≡ option_map capped_bits (next_row rows (get_or bounds i d) rest)
      → (n ≤ 2 ^ 60) × (option_map capped_bits (elements_before n (drop (i + 1) bounds) (drop 1 rest)) ≡ all)
  further n e =
      let found = row_found (drop (i + 1) bounds) (drop 1 rest) (next_row rows (get_or bounds i d) rest) n e in
      (found.0, found.1 ∙ sym opened)

-- Paths

pub walks_on : (path : List PathStep) (found : Option Placed) (at : Placed) → Some at ≡ capped_placed found
    → capped_placed (after_path path at) ≡ capped_placed (option_and_then (after_path path) found)
walks_on path None at e = cc
walks_on path (Some b) at e =
    ap (λ (o : Option Placed). capped_placed (option_and_then (after_path path) o)) e ∙ kept_walked path b.0 b.1

module _ (path : List PathStep) (i : ℕ) (s : PathStep) (at : Placed) (before : i < length path) (item : s ≡ get_or path i s)
    (all : Option Placed) (so_far : capped_placed (after_path (drop i path) at) ≡ all) where
  step_opened : all ≡ capped_placed (option_and_then (after_path (drop (i + 1) path)) (after_step at.0 at.1 s))
  step_opened =
      sym so_far ∙ at_drop_more (λ (p : List PathStep). capped_placed (after_path p at)) path i s before
      ∙ ap (λ x. capped_placed (after_path (x ∷ drop (i + 1) path) at)) (sym item)

  pub one_step : (next : Placed) → Some next ≡ capped_placed (after_step at.0 at.1 s) → capped_placed (after_path (drop (i + 1) path) next) ≡ all
  one_step next e = walks_on (drop (i + 1) path) (after_step at.0 at.1 s) next e ∙ sym step_opened

pub kept_low : (found : Option Placed) (at : Placed) → Some at ≡ capped_placed found → at.0 ≤ 2 ^ 60
kept_low None at e = cc
kept_low (Some b) at e =
    let same : at.0 ≡ capped_bits b.0 = ap (λ (o : Option Placed). place_of o) e in
    omega (arith, same)
  where
    place_of : Option Placed → ℕ
    place_of None = 0
    place_of (Some x) = x.0

-- Components

abbrev made : ℕ → DeclType → Component
made place ty = record { byte = place / 8; bit = place % 8; kind = elementary ty }

component_kept : (a b : Option Placed) → a ≡ capped_placed b → option_map component_at a ≡ option_map component_at b
component_kept a None e = ap (option_map component_at) e
component_kept a (Some b) e =
    let same : min (capped_bits b.0) (2 ^ 35 - 1) ≡ min b.0 (2 ^ 35 - 1) = omega arith in
    ap (option_map component_at) e ∙ ap (λ place. Some (made place b.1)) same

path_opened : (path : List PathStep) (s : PathStep) → 1 ≤ length path → s ≡ get_or path 0 s → path ≡ s ∷ drop 1 path
path_opened [] s some item = absurd (omega (arith, some))
path_opened (x ∷ path) s some item = ap (λ y. y ∷ path) (sym item)

pub component_found : (sections : List (List Declaration)) (path : List PathStep) (s : PathStep) (name : List ℕ) → 1 ≤ length path
    → s ≡ get_or path 0 s → s ≡ step.Name name → (start : Placed) → Some start ≡ capped_placed (named_in 0 sections name)
    → (at : Option Placed) → at ≡ capped_placed (after_path (drop 1 path) start)
    → option_map component_at at ≡ component_in sections path
component_found sections path s name some item is start named at walks =
    component_kept at (option_and_then (after_path (drop 1 path)) (named_in 0 sections name))
    (walks ∙ walks_on (drop 1 path) (named_in 0 sections name) start named)
    ∙ ap (component_in sections) (sym (path_opened path s some item ∙ ap (λ x. x ∷ drop 1 path) is))
