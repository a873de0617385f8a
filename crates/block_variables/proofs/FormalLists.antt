-- The formals of a block, and where one of a name stands.
use Rattle.std.proofs.Common.{◌≡◌, ℕ, suc, ◌+◌, Bool, true, false, cond, if◌then◌else◌, List, [], ◌∷◌, ◌++◌, map, slice_get, Option, Some, None, option_map, refl, sym, ap, ◌∙◌, arith, append_assoc}
use Rattle.std.proofs.lemmas.List.{map-append}
use Rattle.block_variables.specs.inner.FormalPlaces.{formal_found, has_formal_key}
use Rattle.block_variables.specs.inner.Kept.{component_of, formal_of, formals_made}
use Rattle.name_tables.proofs.Firsts.{same_words}
use Rattle.name_tables.specs.Places.{first_place}
use Rattle.stl_rules.specs.DeclarationRules.{key_of}
use Rattle.stl_rules.specs.Interfaces.{formal_at, formal_named, formals_by, formals_in, formals_of, outputs_of, result_declared}
use Rattle.stl_tree.specs.declared.program.Formal.{Formal}
use Rattle.stl_tree.specs.declared.program.Mode.{Mode}
use Rattle.stl_tree.specs.declared.program.Mode.TheVariants as mode
use Rattle.stl_tree.specs.declared.raw.BlockKind.TheVariants as block
use Rattle.stl_tree.specs.declared.raw.Declaration.{Declaration}
use Rattle.stl_tree.specs.declared.raw.RawBlock.{RawBlock}

-- the formal of a name is the first one with its key
abbrev later : ℕ → Option (ℕ × Formal) → Option (ℕ × Formal)
later k found = option_map (λ (p : ℕ × Formal). (k + p.0, p.1)) found

one_later : (k : ℕ) (f : Formal) (formals : List Formal) (place : Option ℕ)
    → later (k + 1) (formal_found formals place) ≡ later k (formal_found (f ∷ formals) (option_map (λ n. suc n) place))
one_later k f formals None = refl
one_later k f formals (Some n) = by (slice_get formals n)
  where
    by : (o : Option Formal)
        → later (k + 1) (option_map (λ (g : Formal). (n, g)) o) ≡ later k (option_map (λ (g : Formal). (suc n, g)) o)
    by None = refl
    by (Some g) = let e : k + 1 + n ≡ k + suc n = omega arith in ap (λ m. Some (m, g)) e

named_from : (k : ℕ) (formals : List Formal) (name : List ℕ)
    → formal_named k formals name ≡ later k (formal_found formals (first_place (has_formal_key (key_of name)) formals))
named_from k [] name = refl
named_from k (f ∷ formals) name =
    ap (λ b. if b then Some (k, f) else formal_named (k + 1) formals name) (same_words f.name name)
    ∙ by (has_formal_key (key_of name) f) (named_from (k + 1) formals name)
  where
    by : (b : Bool) → formal_named (k + 1) formals name ≡ later (k + 1) (formal_found formals (first_place (has_formal_key (key_of name)) formals))
        → (if b then Some (k, f) else formal_named (k + 1) formals name)
        ≡ later k (formal_found (f ∷ formals) (cond b (Some 0) (option_map (λ n. suc n) (first_place (has_formal_key (key_of name)) formals))))
    by true e = let z : k ≡ k + 0 = omega arith in ap (λ m. Some (m, f)) z
    by false e = e ∙ one_later k f formals (first_place (has_formal_key (key_of name)) formals)

from_start : (found : Option (ℕ × Formal)) → later 0 found ≡ found
from_start None = refl
from_start (Some p) = let z : 0 + p.0 ≡ p.0 = omega arith in ap (λ m. Some (m, p.1)) z

pub named_at : (formals : List Formal) (name : List ℕ)
    → formal_found formals (first_place (has_formal_key (key_of name)) formals) ≡ formal_named 0 formals name
named_at formals name =
    sym (named_from 0 formals name ∙ from_start (formal_found formals (first_place (has_formal_key (key_of name)) formals)))

-- Formals from declarations

each_mode : (raw : RawBlock) (its : Mode) (decls : List Declaration) (make : Mode × Declaration → Formal)
    → ((d : Declaration) → make (its, d) ≡ formal_of raw its d)
    → map make (map (λ (d : Declaration). (its, d)) decls) ≡ map (formal_of raw its) decls
each_mode raw its [] make h = refl
each_mode raw its (d ∷ decls) make h =
    ap (λ f. f ∷ map make (map (λ (x : Declaration). (its, x)) decls)) (h d)
    ∙ ap (λ fs. formal_of raw its d ∷ fs) (each_mode raw its decls make h)

-- the formals of a function or a function block are those of its inputs, outputs, result and in-outs
in_parts : (raw : RawBlock) (make : Mode × Declaration → Formal) → ((its : Mode) (d : Declaration) → make (its, d) ≡ formal_of raw its d)
    → formals_made raw ≡ map make (formals_by raw)
in_parts raw make h =
    let ins : List (Mode × Declaration) = map (λ (d : Declaration). (mode.Input, d)) raw.inputs in
    let outs : List (Mode × Declaration) = map (λ (d : Declaration). (mode.Output, d)) (outputs_of raw) in
    let both : List (Mode × Declaration) = map (λ (d : Declaration). (mode.InOut, d)) raw.in_outs in
    let result : List Declaration = result_declared raw.kind raw.line raw.result in
    let last : List Formal = map (formal_of raw mode.InOut) raw.in_outs in
    ap (λ l. l ++ last)
    (append_assoc (map (formal_of raw mode.Input) raw.inputs) (map (formal_of raw mode.Output) raw.outputs) (map (formal_of raw mode.Output) result)
    ∙ ap (λ l. map (formal_of raw mode.Input) raw.inputs ++ l) (sym (map-append (formal_of raw mode.Output) raw.outputs result)))
    ∙ sym (ap (λ l. (l ++ map (formal_of raw mode.Output) (outputs_of raw)) ++ last) (each_mode raw mode.Input raw.inputs make (h mode.Input)))
    ∙ sym (ap (λ l. (map make ins ++ l) ++ last) (each_mode raw mode.Output (outputs_of raw) make (h mode.Output)))
    ∙ sym (ap (λ l. (map make ins ++ map make outs) ++ l) (each_mode raw mode.InOut raw.in_outs make (h mode.InOut)))
    ∙ ap (λ l. l ++ map make both) (sym (map-append make ins outs))
    ∙ sym (map-append make (ins ++ outs) both)

-- by the kind of the block
abbrev make : RawBlock → Mode × Declaration → Formal
make raw f = formal_at f (component_of raw f.1.name)

made : (raw : RawBlock) → formals_made raw ≡ map (make raw) (formals_by raw)
made raw = in_parts raw (make raw) (λ its d. refl)

pub of_function : (raw : RawBlock) → raw.kind ≡ block.Fc → formals_made raw ≡ formals_of raw
of_function raw is = made raw ∙ ap (λ kind. map (make raw) (formals_in raw kind)) (sym is)

pub of_function_block : (raw : RawBlock) → raw.kind ≡ block.Fb → formals_made raw ≡ formals_of raw
of_function_block raw is = made raw ∙ ap (λ kind. map (make raw) (formals_in raw kind)) (sym is)

pub of_organization_block : (raw : RawBlock) → raw.kind ≡ block.Ob → [] ≡ formals_of raw
of_organization_block raw is = ap (λ kind. map (make raw) (formals_in raw kind)) (sym is)

pub of_data_block : (raw : RawBlock) → raw.kind ≡ block.Db → [] ≡ formals_of raw
of_data_block raw is = ap (λ kind. map (make raw) (formals_in raw kind)) (sym is)

pub ruleset of_kind = (of_function, of_function_block, of_organization_block, of_data_block)
