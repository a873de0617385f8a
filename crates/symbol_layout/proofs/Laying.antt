-- Bits laid one after another.
use Rattle.std.specs.Prelude.{◌≡◌, ℕ, ◌+◌, ◌-◌, ◌<◌, ◌≤◌, ℤ, Bool, List, [], ◌∷◌, ◌++◌, length, get_or, take, drop}
use Rattle.std.specs.List.{flat_map}
use Rattle.std.proofs.Common.{sym, ap, ◌∙◌}
use Rattle.std.proofs.lemmas.List.{at_drop_more, drop_all, take_all}
use Rattle.stl_tree.specs.declared.raw.Constant.{Constant}
use Rattle.stl_tree.specs.declared.raw.Declaration.{Declaration}
use Rattle.stl_tree.specs.declared.raw.DeclType.{DeclType}
use Rattle.stl_tree.specs.declared.raw.DeclType.TheVariants as type
use Rattle.stl_rules.proofs.Equations.{bits_array, laid_cons, laid_nil}
use Rattle.stl_rules.specs.Contents.{bits_behind, filled_to, times, type_bits, values_of}
use Rattle.stl_rules.specs.Extents.{elements_in, extent_of}

pub laid_next : (all bits filled own next : List Bool) (decls : List Declaration) (i : ℕ) (d : Declaration) → i < length decls
    → d ≡ get_or decls i d → filled ≡ filled_to (extent_of d.ty).alignment bits → own ≡ type_bits d.ty (values_of d.initial)
    → next ≡ filled ++ own → bits_behind bits (drop i decls) ≡ all → bits_behind next (drop (i + 1) decls) ≡ all
laid_next all bits filled own next decls i d before item f o n so_far =
    let rest : List Declaration = drop (i + 1) decls in
    let opened : bits_behind bits (drop i decls) ≡ bits_behind (filled_to (extent_of d.ty).alignment bits ++ type_bits d.ty (values_of d.initial)) rest
    = at_drop_more (bits_behind bits) decls i d before ∙ ap (λ (x : Declaration). bits_behind bits (x ∷ rest)) (sym item)
    ∙ laid_cons bits d rest in
    ap (λ bs. bits_behind bs rest) (n ∙ ap (λ bs. bs ++ own) f ∙ ap (λ bs. filled_to (extent_of d.ty).alignment bits ++ bs) o)
    ∙ sym opened ∙ so_far

pub laid_all : (all bits : List Bool) (decls : List Declaration) (i : ℕ) → length decls ≤ i
    → bits_behind bits (drop i decls) ≡ all → bits ≡ all
laid_all all bits decls i past so_far =
    sym (ap (bits_behind bits) (drop_all i decls past) ∙ laid_nil bits) ∙ so_far

pub array_laid : (ty e : DeclType) (bounds : List (ℤ × ℤ)) (values : List Constant) (i : ℕ) (given both filled : List Bool)
    → ty ≡ type.Array bounds e → length values ≤ i
    → given ≡ flat_map (λ (c : Constant). type_bits e (c ∷ [])) (take i values)
    → both ≡ given ++ times (elements_in bounds - length values) (type_bits e [])
    → filled ≡ filled_to 16 both → filled ≡ type_bits ty values
array_laid ty e bounds values i given both filled is past g b f =
    f
    ∙ ap (filled_to 16)
    (b ∙ ap (λ bits. bits ++ times (elements_in bounds - length values) (type_bits e []))
    (g ∙ ap (λ (cs : List Constant). flat_map (λ (c : Constant). type_bits e (c ∷ [])) cs) (take_all i values past)))
    ∙ sym (ap (λ (t : DeclType). type_bits t values) is ∙ bits_array bounds e values)
