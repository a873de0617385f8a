-- Induction over types: a fact holds of each where it is shown at each form, with the fact of the parts.
use Rattle.std.specs.Prelude.{◌≡◌, ℤ, List, [], ◌∷◌, map}
use Rattle.std.proofs.Common.{sym, subst}
use Rattle.stl_tree.specs.declared.raw.Declaration.{Declaration, Declaration-F, map-Declaration, roll-Declaration}
use Rattle.stl_tree.specs.declared.raw.DeclType.{DeclType, ind-DeclType, map-DeclType, roll-DeclType}
use Rattle.stl_tree.specs.declared.raw.DeclType.TheOpen as T
use Rattle.stl_tree.specs.declared.raw.DeclType.TheVariants as type
use Rattle.stl_tree.specs.declared.raw.ElemType.{ElemType}

-- a fact of the type of each declaration
abbrev pub Each : (DeclType → Type 0) → List Declaration → Type 0
Each P [] = Unit {0}
Each P (d ∷ decls) = P d.ty × Each P decls

-- what shows a fact of every type
pub record TypeSteps (P : DeclType → Type 0) : Type 0 where
  pub elementary : (e : ElemType) → P (type.Elementary e)
  pub date : P type.DateAndTime
  pub array : (bounds : List (ℤ × ℤ)) (e : DeclType) → P e → P (type.Array bounds e)
  pub struct : (parts : List Declaration) → Each P parts → P (type.Struct parts)

module _ (P : DeclType → Type 0) (h : TypeSteps P) where
  -- a part with its fact
  abbrev AType : Type 0
  AType = (x : DeclType) × P x

  abbrev ADecl : Type 0
  ADecl = (d : Declaration) × P d.ty

  all_hold : (ys : List ADecl) → Each P (map (λ (y : ADecl). y.0) ys)
  all_hold [] = tt
  all_hold (y ∷ ys) = (y.1, all_hold ys)

  abbrev bare : T.DeclType-F AType ADecl → T.DeclType-F DeclType Declaration
  bare y = map-DeclType AType ADecl DeclType Declaration (λ e. e.0) (λ e. e.0) y

  core : (y : T.DeclType-F AType ADecl) → P (roll-DeclType (bare y))
  core (T.Elementary e) = subst P (sym (type.rolls-Elementary e)) (h.elementary e)
  core T.DateAndTime = subst P (sym type.rolls-DateAndTime) h.date
  core (T.Array bounds e) = subst P (sym (type.rolls-Array bounds e.0)) (h.array bounds e.0 e.1)
  core (T.Struct parts) = subst P (sym (type.rolls-Struct _)) (h.struct _ (all_hold parts))

  step : (x : T.DeclType-F DeclType Declaration) (y : T.DeclType-F AType ADecl) → bare y ≡ x → P (roll-DeclType x)
  step x y e = subst (λ (z : T.DeclType-F DeclType Declaration). P (roll-DeclType z)) e (core y)

  abbrev bare_own : Declaration-F AType ADecl → Declaration-F DeclType Declaration
  bare_own y = map-Declaration AType ADecl DeclType Declaration (λ e. e.0) (λ e. e.0) y

  abbrev OfOwn : Declaration → Type 0
  OfOwn d = P d.ty

  own : (x : Declaration-F DeclType Declaration) (y : Declaration-F AType ADecl) → bare_own y ≡ x → OfOwn (roll-Declaration x)
  own x y e = subst (λ (z : Declaration-F DeclType Declaration). OfOwn (roll-Declaration z)) e y.ty.1

  pub every_type : (ty : DeclType) → P ty
  every_type = ind-DeclType P OfOwn step own

  pub each_type : (decls : List Declaration) → Each P decls
  each_type [] = tt
  each_type (d ∷ decls) = (every_type d.ty, each_type decls)
