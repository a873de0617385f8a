-- A variable that a unit may name, as the canonical text writes it: it means the variable, and tokens can have it.
use Rattle.st_tree.proofs.Common.{◌≡◌, ℕ, List, Bool, true, false, ◌&&◌, Option, Some, None, Ok, refl, ap, subst, ◌∙◌, slice_get, Reg, key_of, is_block_number, is_place, type_of_register, Names, type_of_width, where_true, is_seen, on_type, type_inside, type_outside, variable_type, register_word}
use Rattle.memory_areas.specs.declared.place.AreaName.TheVariants as area
use Rattle.s7_base.specs.declared.register.Reg.TheVariants as reg
use Rattle.st_text_laws.proofs.Common.{raw_var, is_name, is_variable}
use Rattle.st_grammar.specs.Kinds.{word_named, word_text}
use Rattle.st_lexer.proofs.Words.{and_both}
use Rattle.st_text_laws.proofs.NameScope.{Means, Sees, unit_scope_by}
use Rattle.st_text_laws.proofs.ValueForms.{block_place, placed, plain_place, small_number}
use Rattle.st_rules.proofs.Common.{register_named, variable, variable_named}
use Rattle.st_names.specs.declared.scope.Meaning.{Meaning}
use Rattle.st_names.specs.declared.scope.Meaning.TheVariants as meaning
use Rattle.st_names.specs.declared.scope.NameScope.{NameScope}
use Rattle.st_names.specs.declared.variable.TypedVar.{TypedVar}
use Rattle.st_tree.specs.Spelling.{global_name, local_name}
use Rattle.st_lexer.proofs.Common.{StType, Var, Local, Located}
use Rattle.st_tree.specs.declared.expr.Var.TheVariants as var
use Rattle.st_tree.specs.declared.raw.RawVar.TheVariants as raw

-- Types that a rule gives

-- an operand has a type, from which a rule gives this one
pub record Given (o : Option StType) (rule : StType → Option StType) (ty : StType) : Type 0 where
  pub first : StType
  pub is : o ≡ Some first
  pub rest : rule first ≡ Some ty

pub given : (o : Option StType) (rule : StType → Option StType) (ty : StType) → on_type o rule ≡ Some ty
    → Given o rule ty
given None rule ty h = absurd cc
given (Some x) rule ty h = record { first = x; is = refl; rest = h }

pub where_given : (t : Bool) (x y : StType) → where_true t x ≡ Some y → (t ≡ true) × (x ≡ y)
where_given true x y h = let same : x ≡ y = cc in (refl, same)
where_given false x y h = absurd cc

-- Variables as they are written

-- what holds of a variable of the tree as it is written
pub record Written (names : Names) (s : NameScope) (v : TypedVar) : Type 0 where
  pub means : variable s (raw_var names v.var) ≡ Ok v
  pub spelled : is_variable (raw_var names v.var) ≡ true

-- Registers

register_good : (r : Reg) → (register_named (key_of (register_word r)) ≡ Some r) × (is_name (register_word r) ≡ true)
unfolding key_of register_named word_named word_text
register_good reg.Accu1 = (refl, refl)
register_good other = (refl, refl)

-- All variables

-- a variable of a type
abbrev pub of_type : StType → Var → TypedVar
of_type ty v = record { ty = ty; var = v }

module _ (s : NameScope) (names : Names) (sees : Sees s names) where
  abbrev Good : StType → Var → Type 0
  Good ty v = Written names s (of_type ty v)

  -- a variable that is written by a name, which means it
  named : (name : List ℕ) (v : Var) (ty : StType) (m : Meaning) → raw_var names v ≡ raw.Name name
      → variable_named (Some m) ≡ Ok (of_type ty v) → Means s name m → Good ty v
  named name v ty m e g h =
      record { means = ap (variable s) e ∙ ap variable_named h.0 ∙ g; spelled = ap is_variable e ∙ h.1 }

  local : (i : ℕ) (ty : StType) (o : Option Local) → slice_get names.locals i ≡ o → type_inside o ≡ Some ty
      → Good ty (var.Local i)
  local i ty None e h = absurd cc
  local i ty (Some l) e h =
      let same : l.ty ≡ ty = cc in
      subst (λ t. Good t (var.Local i)) same (named l.name (var.Local i) l.ty (meaning.Local i l.ty)
      (ap (λ p. raw.Name (local_name p)) e) refl (sees.local i l e))

  formal : (i : ℕ) (ty : StType) (o : Option Local) → slice_get names.formals i ≡ o → type_inside o ≡ Some ty
      → Good ty (var.Formal i)
  formal i ty None e h = absurd cc
  formal i ty (Some l) e h =
      let same : l.ty ≡ ty = cc in
      subst (λ t. Good t (var.Formal i)) same (named l.name (var.Formal i) l.ty (meaning.Formal i l.ty)
      (ap (λ p. raw.Name (local_name p)) e) refl (sees.formal i l e))

  global : (i : ℕ) (ty : StType) (o : Option Located) → slice_get names.globals i ≡ o
      → type_outside (unit_scope_by names) o ≡ Some ty → Good ty (var.Global i)
  global i ty None e h = absurd cc
  global i ty (Some g) e h =
      let w = where_given (is_seen (unit_scope_by names) g.name) g.ty ty h in
      subst (λ t. Good t (var.Global i)) w.1 (named g.name (var.Global i) g.ty (meaning.Global i g.ty)
      (ap (λ p. raw.Name (global_name p)) e) refl (sees.global i g e w.0))

  -- a variable of a type that the unit may name
  pub written : (v : Var) (ty : StType) → variable_type (unit_scope_by names) v ≡ Some ty → Good ty v
  written (var.Register r) ty h =
      let same : type_of_register r ≡ ty = cc in
      let g = register_good r in
      subst (λ t. Good t (var.Register r)) same (record { means = rw g.0 refl; spelled = g.1 })
  written (var.Local i) ty h = local i ty (slice_get names.locals i) refl h
  written (var.Formal i) ty h = formal i ty (slice_get names.formals i) refl h
  written (var.Global i) ty h = global i ty (slice_get names.globals i) refl h
  written (var.Direct a byte bit w) ty h =
      let g = where_given (is_place a w byte bit) (type_of_width w) ty h in
      let p = placed a w byte bit g.0 in
      let there = plain_place a w byte bit p in
      subst (λ t. Good t (var.Direct a byte bit w)) g.1 (record { means = rw p.rules refl; spelled = there })
  written (var.InBlock n byte bit w) ty h =
      let g = where_given (is_block_number n && is_place area.Db w byte bit) (type_of_width w) ty h in
      let both = and_both (is_block_number n) (is_place area.Db w byte bit) g.0 in
      let p = placed area.Db w byte bit both.1 in
      let there = block_place n w byte bit (small_number n both.0) p in
      subst (λ t. Good t (var.InBlock n byte bit w)) g.1 (record { means = rw (both.0, p.rules) refl; spelled = there })
