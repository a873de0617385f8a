-- Broken rules noted one after another.
use Rattle.std.specs.Prelude.{◌≡◌, ℕ, ◌+◌, ◌<◌, ℤ, List, [], ◌∷◌, ◌++◌, length, get_or, drop, take, Result, Ok, Err, OnOk}
use Rattle.std.proofs.Common.{refl, sym, ap, ◌∙◌, append_assoc}
use Rattle.std.proofs.lemmas.List.{append-nil, at_drop_more, take_more}
use Rattle.s7_base.specs.declared.rule_break.Break.{Break}
use Rattle.s7_base.specs.declared.reason.Line.{Line}
use Rattle.stl_tree.specs.declared.raw.Declaration.{Declaration}
use Rattle.stl_tree.specs.declared.raw.DeclType.{DeclType}
use Rattle.stl_tree.specs.declared.raw.DeclType.TheVariants as type
use Rattle.stl_rules.proofs.Equations.{breaks_array, breaks_declaration, breaks_struct, scope_cons, scope_nil}
use Rattle.stl_rules.specs.DeclarationRules.{array_breaks, declaration_breaks, is_named, key_of, break_if_repeated, scope_breaks, takes, type_breaks, value_breaks, with_name}
use Rattle.symbol_layout.specs.inner.Scopes.{names_behind}

-- what holds where a call answers Ok
pub on_ok : {X E P Q : Type 0} (r : Result X E) → (P → Q) → OnOk r P → OnOk r Q
on_ok (Ok x) f p = f p
on_ok (Err e) f p = tt

-- nothing is noted where nothing is broken
pub noted_none : (before : List Break) (ty made : DeclType) (line : Line) → ty ≡ made → type_breaks made line ≡ []
    → before ≡ before ++ type_breaks ty line
noted_none before ty made line is none =
    sym (ap (λ bs. before ++ bs) (ap (λ t. type_breaks t line) is ∙ none) ∙ append-nil before)

pub noted_array : (before middle after : List Break) (ty : DeclType) (bounds : List (ℤ × ℤ)) (e : DeclType) (line : Line)
    → ty ≡ type.Array bounds e → middle ≡ before ++ array_breaks line bounds → after ≡ middle ++ type_breaks e line
    → after ≡ before ++ type_breaks ty line
noted_array before middle after ty bounds e line is m a =
    a ∙ ap (λ bs. bs ++ type_breaks e line) m ∙ append_assoc before (array_breaks line bounds) (type_breaks e line)
    ∙ ap (λ bs. before ++ bs) (sym (ap (λ t. type_breaks t line) is ∙ breaks_array bounds e line))

pub noted_struct : (before after : List Break) (ty : DeclType) (parts : List Declaration) (line : Line)
    → ty ≡ type.Struct parts → after ≡ before ++ scope_breaks [] parts → after ≡ before ++ type_breaks ty line
noted_struct before after ty parts line is a =
    a ∙ ap (λ bs. before ++ bs) (sym (ap (λ t. type_breaks t line) is ∙ breaks_struct parts line))

pub noted_declaration : (before middle after : List Break) (d : Declaration) → middle ≡ before ++ type_breaks d.ty d.line
    → after ≡ middle ++ value_breaks d.line (takes d.ty) d.initial → after ≡ before ++ declaration_breaks d
noted_declaration before middle after d m a =
    a ∙ ap (λ bs. bs ++ value_breaks d.line (takes d.ty) d.initial) m
    ∙ append_assoc before (type_breaks d.ty d.line) (value_breaks d.line (takes d.ty) d.initial)
    ∙ ap (λ bs. before ++ bs) (sym (breaks_declaration d))

-- one turn of the loop over a scope
pub noted_next : (all before named after : List Break) (names next : List (List ℕ)) (decls : List Declaration) (i : ℕ) (d : Declaration)
    → i < length decls → d ≡ get_or decls i d → next ≡ with_name (key_of d.name) names
    → named ≡ before ++ break_if_repeated d.line (is_named (key_of d.name) names) → after ≡ named ++ declaration_breaks d
    → before ++ scope_breaks names (drop i decls) ≡ all → after ++ scope_breaks next (drop (i + 1) decls) ≡ all
noted_next all before named after names next decls i d h item n m a so_far =
    let rest : List Break = scope_breaks (with_name (key_of d.name) names) (drop (i + 1) decls) in
    let twice : List Break = break_if_repeated d.line (is_named (key_of d.name) names) in
    let opened : scope_breaks names (drop i decls) ≡ twice ++ declaration_breaks d ++ rest
    = at_drop_more (scope_breaks names) decls i d h ∙ ap (λ x. scope_breaks names (x ∷ drop (i + 1) decls)) (sym item)
    ∙ scope_cons names d (drop (i + 1) decls) in
    ap (λ ns. after ++ scope_breaks ns (drop (i + 1) decls)) n
    ∙ ap (λ bs. bs ++ rest) (a ∙ ap (λ bs. bs ++ declaration_breaks d) m)
    ∙ ap (λ bs. bs ++ rest) (append_assoc before twice (declaration_breaks d))
    ∙ append_assoc before (twice ++ declaration_breaks d) rest
    ∙ ap (λ bs. before ++ bs) (sym opened)
    ∙ so_far

names_more : (names : List (List ℕ)) (decls : List Declaration) (d : Declaration)
    → names_behind names (decls ++ d ∷ []) ≡ with_name (key_of d.name) (names_behind names decls)
names_more names [] d = refl
names_more names (x ∷ decls) d = names_more (with_name (key_of x.name) names) decls d

pub names_next : (names next first : List (List ℕ)) (decls : List Declaration) (i : ℕ) (d : Declaration) → i < length decls → d ≡ get_or decls i d
    → names ≡ names_behind first (take i decls) → next ≡ with_name (key_of d.name) names → next ≡ names_behind first (take (i + 1) decls)
names_next names next first decls i d before item so_far n =
    n ∙ ap (with_name (key_of d.name)) so_far
    ∙ sym (names_more first (take i decls) d)
    ∙ ap (names_behind first) (ap (λ (y : Declaration). take i decls ++ y ∷ []) item ∙ sym (take_more decls i d before))

pub noted_all : (all before : List Break) (names : List (List ℕ)) (left : List Declaration) → left ≡ []
    → before ++ scope_breaks names left ≡ all → before ≡ all
noted_all all before names left none so_far =
    sym (append-nil before) ∙ ap (λ bs. before ++ bs) (sym (ap (scope_breaks names) none ∙ scope_nil names)) ∙ so_far
