-- Tables of names with one declaration more, and with one section more.
use Rattle.std.proofs.Common.{◌≡◌, ◌<◌, ℕ, ◌+◌, Bool, true, false, cond, nat_eq, List, [], ◌∷◌, ◌++◌, length, take, get_or, map, Option, Some, None, is_some, refl, sym, ap, subst, ◌∙◌}
use Rattle.std.specs.Borrow.{Bor}
use Rattle.std.specs.Cmp.Lexicographic.{pointwise}
use Rattle.std.specs.Map.{lookup}
use Rattle.std.specs.Option.{option_or}
use Rattle.std.proofs.lemmas.List.{map-append, take_more}
use Rattle.indexmap.specs.IndexMap.{insert_entry}
use Rattle.name_tables.proofs.Firsts.{name_sound, same_words}
use Rattle.name_tables.proofs.PlaceTables.{appended, none}
use Rattle.s7_base.specs.Tokens.{is_same_word}
use Rattle.stl_rules.proofs.Ends.{whole}
use Rattle.stl_rules.specs.DeclarationRules.{key_of}
use Rattle.stl_rules.specs.Extents.{end_behind, end_of, end_of_all, end_of_sections, extent_of, place_behind, section_behind}
use Rattle.stl_rules.specs.Paths.{Placed, named_behind, named_in}
use Rattle.stl_tree.specs.declared.raw.Declaration.{Declaration}
use Rattle.symbol_layout.proofs.Capped.{capped_end, capped_place, end_of_kept}
use Rattle.symbol_layout.proofs.Kept.{is_aligned, kept_named}
use Rattle.symbol_layout.proofs.Sections.{section_end, section_kept}
use Rattle.symbol_layout.specs.Kept.{sections_now, capped_bits, capped_placed}
use Rattle.component_index.specs.declared.scope.Entry.{Entry}
use Rattle.component_index.specs.inner.Scopes.{Added, Adds, Entries, Held, IsInner, IsTable, LeadsTo, entry_of, with_entry}
use Rattle.component_index.proofs.Aligned.{at_multiple}
use Rattle.component_index.proofs.Growing.{Stays, leads_stay, table_stays}
use Rattle.component_index.proofs.Stepping.{is_at}

-- Maps

lookup_append : {X T : Type 0} (test : X → Bool) (entries : List (X × T)) (key : X) (v : T)
    → lookup test (entries ++ (key, v) ∷ []) ≡ option_or (lookup test entries) (cond (test key) (Some v) None)
lookup_append test [] key v = refl
lookup_append test (e ∷ es) key v = by_test (test e.0) (lookup_append test es key v)
  where
    by_test : (b : Bool) → lookup test (es ++ (key, v) ∷ []) ≡ option_or (lookup test es) (cond (test key) (Some v) None)
        → cond b (Some e.1) (lookup test (es ++ (key, v) ∷ []))
        ≡ option_or (cond b (Some e.1) (lookup test es)) (cond (test key) (Some v) None)
    by_test true h = refl
    by_test false h = h

-- Keys in vectors

module _ {K : Type 0} (items : K → List ℕ) where
  abbrev view : List (K × Entry) → Entries
  view es = map (λ e. (items e.0, e.1)) es

  -- the first key that is the same is found in either form
  pub looks : (key : List ℕ) (es : List (K × Entry)) → lookup (λ k. pointwise nat_eq key (items k)) es ≡ entry_of key (view es)
  looks key [] = refl
  looks key (e ∷ es) = ap (cond (pointwise nat_eq key (items e.0)) (Some e.1)) (looks key es)

  pub add_entry : (k : K) (e : Entry) (es new : List (K × Entry)) → is_some (entry_of (items k) (view es)) ≡ false
      → new ≡ insert_entry (λ x y. pointwise nat_eq (items x) (items y)) es k e → view new ≡ with_entry (items k) e (view es)
  add_entry k e es new h made =
      let absent : lookup (λ x. pointwise nat_eq (items k) (items x)) es ≡ None
      = looks (items k) es ∙ none (entry_of (items k) (view es)) h in
      ap view (made ∙ appended (λ x y. pointwise nat_eq (items x) (items y)) k e es absent)
      ∙ map-append (λ (x : K × Entry). (items x.0, x.1)) es ((k, e) ∷ [])
      ∙ sym (ap (λ b. cond b (view es) (view es ++ (items k, e) ∷ [])) h)

-- What a key finds

-- behind one more entry
entry_more : (entries : Entries) (key : List ℕ) (e : Entry) (k : List ℕ)
    → entry_of k (with_entry key e entries) ≡ option_or (entry_of k entries) (cond (pointwise nat_eq k key) (Some e) None)
entry_more entries key e k = by (entry_of key entries) refl (pointwise nat_eq k key) refl
  where
    some_or : (o : Option Entry) (p : Entry) (q : Option Entry) → o ≡ Some p → o ≡ option_or o q
    some_or None p q f = absurd cc
    some_or (Some n) p q f = refl

    or_none : (o : Option Entry) → o ≡ option_or o None
    or_none None = refl
    or_none (Some n) = refl

    by : (o : Option Entry) → entry_of key entries ≡ o → (b : Bool) → pointwise nat_eq k key ≡ b
        → entry_of k (cond (is_some o) entries (entries ++ (key, e) ∷ [])) ≡ option_or (entry_of k entries) (cond b (Some e) None)
    by None f b g = lookup_append (pointwise nat_eq k) entries key e ∙ ap (λ t. option_or (entry_of k entries) (cond t (Some e) None)) g
    by (Some p) f true g = some_or (entry_of k entries) p (Some e) (ap (λ q. entry_of q entries) (name_sound k key g) ∙ f)
    by (Some p) f false g = or_none (entry_of k entries)

-- Names

named_more : (n : ℕ) (decls : List Declaration) (d : Declaration) (name : List ℕ)
    → named_behind n (decls ++ d ∷ []) name
    ≡ option_or (named_behind n decls name)
    (cond (is_same_word d.name name) (Some (place_behind (end_of_all n decls) (extent_of d.ty), d.ty)) None)
named_more n [] d name = refl
named_more n (x ∷ decls) d name =
    either (is_same_word x.name name) (place_behind n (extent_of x.ty), x.ty) (named_behind (end_of n x) (decls ++ d ∷ []) name)
    (named_behind (end_of n x) decls name)
    (cond (is_same_word d.name name) (Some (place_behind (end_of_all (end_of n x) decls) (extent_of d.ty), d.ty)) None)
    (named_more (end_of n x) decls d name)
  where
    either : (b : Bool) (here : Placed) (all before last : Option Placed) → all ≡ option_or before last
        → cond b (Some here) all ≡ option_or (cond b (Some here) before) last
    either true here all before last h = refl
    either false here all before last h = h

in_more : (n : ℕ) (sections : List (List Declaration)) (s : List Declaration) (name : List ℕ)
    → named_in n (sections ++ s ∷ []) name
    ≡ option_or (named_in n sections name) (named_behind (section_behind (end_of_sections n sections)) s name)
in_more n [] s name = or_none (named_behind (section_behind n) s name)
  where
    or_none : (o : Option Placed) → option_or o None ≡ o
    or_none None = refl
    or_none (Some x) = refl
in_more n (x ∷ sections) s name =
    let next = end_of_all (section_behind n) x in
    either (named_behind (section_behind n) x name) (named_in next (sections ++ s ∷ []) name) (named_in next sections name)
    (named_behind (section_behind (end_of_sections next sections)) s name) (in_more next sections s name)
  where
    either : (o all before last : Option Placed) → all ≡ option_or before last → option_or o all ≡ option_or (option_or o before) last
    either None all before last h = h
    either (Some y) all before last h = refl

-- Ends

end_more : (end : ℕ) (decls : List Declaration) (d : Declaration) → end_of_all end (decls ++ d ∷ []) ≡ end_of (end_of_all end decls) d
end_more end [] d = refl
end_more end (y ∷ decls) d = end_more (end_of end y) decls d

sections_more : (end : ℕ) (sections : List (List Declaration)) (s : List Declaration)
    → end_of_sections end (sections ++ s ∷ []) ≡ end_of_all (section_behind (end_of_sections end sections)) s
sections_more end [] s = refl
sections_more end (x ∷ sections) s = sections_more (end_of_all (section_behind end) x) sections s

-- One declaration more

added_stays : (a b : Held) → Stays a b → (real : Option Placed) (old new : Option Entry) → Added a real old new → Added b real old new
added_stays a b s real None new h = leads_stay a b s real new h
added_stays a b s real (Some e) new h = h

added_more : (all : Held) (real : Option Placed) (old mid : Option Entry) (x : Placed) (e : Entry) (same : Bool) → Added all real old mid
    → LeadsTo all (Some x) (Some e)
    → Added all (option_or real (cond same (Some x) None)) old (option_or mid (cond same (Some e) None))
added_more all real (Some y) None x e same h one = absurd cc
added_more all real (Some y) (Some z) x e same h one = h
added_more all None None None x e true h one = one
added_more all None None None x e false h one = h
added_more all None None (Some z) x e same h one = let none = h.0 in absurd cc
added_more all (Some y) None None x e same h one = let none = h.0 in absurd cc
added_more all (Some y) None (Some z) x e same h one = h

module _ (decls : List Declaration) (i : ℕ) (d : Declaration) (before : i < length decls) (item : d ≡ get_or decls i d) (start end : ℕ)
    (is : end ≡ capped_bits (end_of_all start (take i decls))) where
  abbrev real : ℕ
  real = end_of_all start (take i decls)

  more : take i decls ++ d ∷ [] ≡ take (i + 1) decls
  more = ap (λ (y : Declaration). take i decls ++ y ∷ []) item ∙ sym (take_more decls i d before)

  pub end_turn : (next : ℕ) → next ≡ capped_bits (end_behind end (extent_of d.ty)) → next ≡ capped_bits (end_of_all start (take (i + 1) decls))
  end_turn next e =
      e ∙ ap (λ n. capped_bits (end_behind n (extent_of d.ty))) is
      ∙ sym (end_of_kept (capped_bits real) (extent_of d.ty))
      ∙ capped_end real (extent_of d.ty) (is_aligned d.ty)
      ∙ ap capped_bits (sym (end_more start (take i decls) d))
      ∙ ap (λ ds. capped_bits (end_of_all start ds)) more

  pub entry_turn : (a b : Held) → Stays a b → (old mid new : Entries) (e : Entry) → Adds a (named_behind start (take i decls)) old mid
      → e.place ≡ place_behind end (extent_of d.ty) → e.ty.now ≡ d.ty → IsInner b e.inner d.ty → new ≡ with_entry (key_of d.name) e mid
      → Adds b (named_behind start (take (i + 1) decls)) old new
  entry_turn a b stays old mid new e h place ty inner add_entry name =
      let x : Placed = (place_behind real (extent_of d.ty), d.ty) in
      let key = key_of name in
      let kept : e.place ≡ capped_bits (place_behind real (extent_of d.ty))
      = place ∙ ap (λ n. place_behind n (extent_of d.ty)) is ∙ sym (capped_place real (extent_of d.ty).alignment (is_aligned d.ty)) in
      let one : LeadsTo b (Some x) (Some e) = (
        ap (λ n. Some (n, e.ty.now)) kept ∙ ap (λ t. Some (capped_bits (place_behind real (extent_of d.ty)), t)) ty,
        is_at b e (place_behind real (extent_of d.ty)) d.ty kept ty
            (at_multiple real (extent_of d.ty).alignment (extent_of d.ty).bits (whole d.ty)) inner,
      ) in
      let found : option_or (entry_of key mid) (cond (is_same_word d.name name) (Some e) None) ≡ entry_of key new
      = ap (λ t. option_or (entry_of key mid) (cond t (Some e) None)) (same_words d.name name) ∙ sym (entry_more mid (key_of d.name) e key)
      ∙ ap (entry_of key) (sym add_entry) in
      let meant : option_or (named_behind start (take i decls) name) (cond (is_same_word d.name name) (Some x) None)
      ≡ named_behind start (take (i + 1) decls) name
      = sym (named_more start (take i decls) d name) ∙ ap (λ ds. named_behind start ds name) more in
      subst (λ (r : Option Placed). Added b r (entry_of key old) (entry_of key new)) meant
      (subst
      (λ (f : Option Entry). Added b (option_or (named_behind start (take i decls) name) (cond (is_same_word d.name name) (Some x) None)) (entry_of key old) f)
      found
      (added_more b (named_behind start (take i decls) name) (entry_of key old) (entry_of key mid) x e (is_same_word d.name name)
      (added_stays a b stays (named_behind start (take i decls) name) (entry_of key old) (entry_of key mid) (h name)) one))

-- One section more

joined : (all : Held) (first second kept : Option Placed) (old new : Option Entry) → LeadsTo all first old → Added all second old new
    → capped_placed second ≡ capped_placed kept → LeadsTo all (option_or first kept) new
joined all None second kept None new h a e = (a.0 ∙ e, a.1)
joined all None second kept (Some x) new h a e = let none = h.0 in absurd cc
joined all (Some y) second kept None new h a e = let none = h.0 in absurd cc
joined all (Some y) second kept (Some x) new h a e = subst (LeadsTo all (Some y)) (sym a) h

module _ (sections : List (Bor (List Declaration))) (i : ℕ) (s : Bor (List Declaration)) (before : i < length sections)
    (item : s ≡ get_or sections i s) (end start : ℕ) (is : end ≡ capped_bits (end_of_sections 0 (sections_now (take i sections))))
    (at : start ≡ section_behind end) where
  abbrev done : List (List Declaration)
  done = sections_now (take i sections)

  all_done : done ++ s.now ∷ [] ≡ sections_now (take (i + 1) sections)
  all_done =
      sym (map-append (λ (x : Bor (List Declaration)). x.now) (take i sections) (s ∷ []))
      ∙ ap sections_now (ap (λ (y : Bor (List Declaration)). take i sections ++ y ∷ []) item ∙ sym (take_more sections i s before))

  begins : start ≡ section_behind (capped_bits (end_of_sections 0 done))
  begins = at ∙ ap section_behind is

  pub section_turn : (next : ℕ) → next ≡ capped_bits (end_of_all start s.now) → next ≡ capped_bits (end_of_sections 0 (sections_now (take (i + 1) sections)))
  section_turn next e =
      e ∙ ap (λ n. capped_bits (end_of_all n s.now)) begins
      ∙ section_end (end_of_sections 0 done) s.now
      ∙ ap capped_bits (sym (sections_more 0 done s.now))
      ∙ ap (λ ss. capped_bits (end_of_sections 0 ss)) all_done

  pub table_turn : (a b : Held) → Stays a b → (old new : Entries) → IsTable a (named_in 0 done) old → Adds b (named_behind start s.now) old new
      → IsTable b (named_in 0 (sections_now (take (i + 1) sections))) new
  table_turn a b stays old new h added name =
      let place : ℕ = section_behind (end_of_sections 0 done) in
      let same : capped_placed (named_behind start s.now name) ≡ capped_placed (named_behind place s.now name)
      = ap (λ n. capped_placed (named_behind n s.now name)) (begins ∙ sym (section_kept (end_of_sections 0 done))) ∙ kept_named s.now name place in
      subst (λ (r : Option Placed). LeadsTo b r (entry_of (key_of name) new)) (sym (in_more 0 done s.now name) ∙ ap (λ ss. named_in 0 ss name) all_done)
      (joined b (named_in 0 done name) (named_behind start s.now name) (named_behind place s.now name) (entry_of (key_of name) old) (entry_of (key_of name) new)
      (table_stays a b stays (named_in 0 done) old h name) (added name) same)
