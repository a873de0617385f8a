-- What a text reads as is proper; chains of calls in its tree are short, where it breaks no rule.
use Rattle.st_grammar.specs.declared.kind.Fixed.TheVariants as fixed
use Rattle.st_grammar.specs.declared.kind.GrammarKind.TheVariants as kind
use Rattle.st_tree.proofs.Common.{◌≡◌, ◌≢◌, ℕ, ◌+◌, ◌≤◌, max, true, false, List, [], ◌∷◌, map, Some, refl, sym, ap, subst, ◌∙◌, arith, zero, suc, Bool, ◌||◌, length, get_or, Option, None, slice_get, replicate, body_nesting, IsDataBlock, IsFormal, IsGlobal, IsLocal, IsProperUnit, Proper, are_well_typed, head_of, unit_scope_in, Head, list_any, get_or_from_slice_get, slice_get_within, ACTIVATIONS, Line, chain_of, chain_to, unit_chain}
use Rattle.st_grammar.proofs.Common.{Globals, Section, Source, absent, present, GlobalsFit, IfPresent, SourceFits, section_items, raw_tree, tree_all, tree_globals, spell_globals, spell_section, spell_source, spell_units, deepest, levels_globals, levels_section, levels_source, AllWithin}
use Rattle.st_text_laws.proofs.ReadBodies.{found_all}
use Rattle.st_text_laws.proofs.Sees.{inner_apart, outer_apart, unit_sees}
use Rattle.st_reading_laws.proofs.Apart.{Lists}
use Rattle.st_reading_laws.proofs.Bounds.{bound_all, bound}
use Rattle.st_reading_laws.proofs.Keyed.{AreDistinct, distinct_of}
use Rattle.st_reading_laws.proofs.Lists.{Each, each_all, each_at, each_from, mapped_at, mapped_from, nil_at, nil_second, nil_first}
use Rattle.st_text_laws.proofs.ReadGlobals.{are_globals, are_data_blocks}
use Rattle.st_text_laws.proofs.Levels.{top_all}
use Rattle.st_reading_laws.proofs.Parts.{found_of}
use Rattle.st_text_laws.proofs.ReadStatements.{FoundAll, of_heads, cost_of}
use Rattle.st_text_laws.proofs.ReadUnits.{IsHeaded, WasRead, are_headed, were_read}
use Rattle.st_text_laws.specs.ReadProper.{ReadsAreProper}
use Rattle.st_text_laws.proofs.Worded.{AreWorded, Worded, globals_behind, section_behind, read_worded}
use Rattle.st_rules.proofs.Common.{breaks_in, found_in, all_calls, all_inside, formals_of, all_blocks, all_located, statements, HasTree, calls_in, names_of, breaks_of_unit, calls_of_unit, scope_in, unit_of, long_chains}
use Rattle.st_names.specs.declared.scope.NameScope.{NameScope}
use Rattle.st_tree.proofs.CalledMost.{called_most}
use Rattle.st_lexer.proofs.Common.{Pou, StProgram, Stmt, RawPou, RawSt}
use Rattle.st_tree.specs.declared.raw.RawStmt.{RawStmt}
use Rattle.st_reading_laws.proofs.DeclaredNames.{gather_inside, inner_entries, local_entries}
use Rattle.st_reading_laws.proofs.DeclaredTree.{IsDeclared, are_blocks, sound_units, formals_same, is_declared, scope_declares, unit_there}
use Rattle.std.proofs.lemmas.List.{get_or-replicate}
use Rattle.call_chains.specs.Chain.{Graph, calls_one, chains}
use Rattle.call_chains.specs.declared.call.Call.{Call}
use Rattle.st_rules.specs.LongChains.{chain_break}
use Rattle.s7_base.proofs.FirstBreak.{first_of_all_is_first}

-- the calls of a unit, which cost no less than its statements
pub record HasCalls (tree : StProgram) (graph : Graph) (n : ℕ) (unit : Pou) : Type 0 where
  pub calls : List Call
  pub there : slice_get graph n ≡ Some calls
  pub most : (f : ℕ → ℕ) → called_most f unit.body ≤ bound (of_heads (map head_of tree.pous) f) calls

-- each unit has its calls in a graph
abbrev pub HaveCalls : StProgram → Graph → Type 0
HaveCalls tree graph = (n : ℕ) (unit : Pou) → slice_get tree.pous n ≡ Some unit → HasCalls tree graph n unit

-- calls cost little where each of those does that pass no test
within_calls : (g : ℕ → ℕ) (b : ℕ) (p : Call → Bool) (cs : List Call) → list_any p cs ≡ false
    → ((c : Call) → p c ≡ false → g c.callee ≤ b) → bound g cs ≤ b
within_calls g b p [] h f = omega arith
within_calls g b p (c ∷ cs) h f =
    let parts = neither (p c) (list_any p cs) h in
    omega (arith, f c parts.0, within_calls g b p cs parts.1 f)
  where
    neither : (s t : Bool) → (s || t) ≡ false → (s ≡ false) × (t ≡ false)
    neither true t e = absurd cc
    neither false t e = (refl, e)

module _ (tree : StProgram) (graph : Graph) (have : HaveCalls tree graph) where
  cost_within : (i m : ℕ) (f : ℕ → ℕ) (o : Option Head) → slice_get (map head_of tree.pous) i ≡ o
      → ((unit : Pou) → slice_get tree.pous i ≡ Some unit → f i ≤ m) → cost_of o (f i) ≤ m
  cost_within i m f None e h = omega arith
  cost_within i m f (Some head) e h =
      let u = mapped_from head_of tree.pous i head e in h u.0 u.1

  chain_within : (m n : ℕ) (unit : Pou) → slice_get tree.pous n ≡ Some unit → get_or (chains graph m) n false ≡ false
      → chain_to (suc m) tree n ≤ m
  chain_within zero n unit q h =
      let c = have n unit q in
      let there : get_or (replicate (length graph) true) n false ≡ true =
      get_or-replicate (length graph) n true false (slice_get_within graph n c.calls c.there) in
      absurd cc
  chain_within (suc m) n unit q h =
      let c = have n unit q in
      let f = chain_to (suc m) tree in
      let here : get_or (chains graph (suc m)) n false ≡ calls_one (chains graph m) c.calls =
      get_or_from_slice_get (map (calls_one (chains graph m)) graph) n (calls_one (chains graph m) c.calls) false
      (mapped_at (calls_one (chains graph m)) graph n c.calls c.there) in
      let few : bound (of_heads (map head_of tree.pous) f) c.calls ≤ m =
      within_calls (of_heads (map head_of tree.pous) f) m (λ d. get_or (chains graph m) d.callee false) c.calls (sym here ∙ h)
      (λ d no. cost_within d.callee m f (slice_get (map head_of tree.pous) d.callee) refl
      (λ u p. chain_within m d.callee u p no)) in
      let is : chain_to (suc (suc m)) tree n ≡ suc (called_most f unit.body) = ap (unit_chain f (suc m)) q in
      omega (arith, is, few, c.most f)

-- Headings

no_break : (t : Bool) (line : Line) → chain_break t line ≡ [] → t ≡ false
no_break true line h = absurd cc
no_break false line h = refl

none_long : (begins : List Bool) (i : ℕ) (units : List RawPou) (n : ℕ) (u : RawPou) → long_chains begins i units ≡ []
    → slice_get units n ≡ Some u → get_or begins (i + n) false ≡ false
none_long begins i [] n u h q = absurd cc
none_long begins i (v ∷ units) zero u h q =
    let e : i ≡ i + 0 = omega arith in
    subst (λ m. get_or begins m false ≡ false) e
    (no_break (get_or begins i false) v.line
    (nil_first (chain_break (get_or begins i false) v.line) (long_chains begins (i + 1) units) h))
none_long begins i (v ∷ units) (suc n) u h q =
    let e : i + 1 + n ≡ i + suc n = omega arith in
    subst (λ m. get_or begins m false ≡ false) e
    (none_long begins (i + 1) units n u
    (nil_second (chain_break (get_or begins i false) v.line) (long_chains begins (i + 1) units) h) q)

-- no chain of calls is too long
pub short_chains : (raw : RawSt) (tree : StProgram) → HasTree raw tree → HaveCalls tree (calls_in raw) → (n : ℕ) (unit : Pou)
    → slice_get tree.pous n ≡ Some unit → chain_of tree n ≤ ACTIVATIONS
short_chains raw tree h have n unit q =
    let same : slice_get (map (unit_of (names_of raw) (map formals_of raw.pous)) raw.pous) n ≡ Some unit =
    sym (ap (λ (t : StProgram). slice_get t.pous n) h.same) ∙ q in
    let u = mapped_from (unit_of (names_of raw) (map formals_of raw.pous)) raw.pous n unit same in
    let begins = chains (calls_in raw) ACTIVATIONS in
    let none = first_of_all_is_first.none (long_chains begins 0 raw.pous) h.chain.short in
    let e : 0 + n ≡ n = omega arith in
    chain_within tree (calls_in raw) have ACTIVATIONS n unit q
    (subst (λ m. get_or begins m false ≡ false) e (none_long begins 0 raw.pous n u.0 none u.1))

-- What is read

blocks_held : (s : Section Globals) → Worded (spell_section (kind.Fixed fixed.VarGlobal) spell_globals s)
    → Each IsDataBlock (all_blocks (section_items tree_globals s))
blocks_held absent w = tt
blocks_held (present gs) w = are_data_blocks gs (_, w.1.1)

globals_held : (s : Section Globals) → IfPresent GlobalsFit s → Worded (spell_section (kind.Fixed fixed.VarGlobal) spell_globals s)
    → Each IsGlobal (all_located (section_items tree_globals s))
globals_held absent f w = tt
globals_held (present gs) f w = are_globals gs f (_, w.1.1)

some_mapped : {X Y : Type 0} (f : X → Y) (xs : List X) (ys : List Y) → ys ≡ map f xs → xs ≢ [] → ys ≢ []
some_mapped f [] ys e some none = some refl
some_mapped f (x ∷ xs) ys e some none = let never : f x ∷ map f xs ≡ [] = sym e ∙ none in absurd cc

module _ (source : Source) (t : StProgram) (fits : SourceFits source) (worded : AreWorded (spell_source source))
    (within : AllWithin deepest (levels_source source)) (typed : HasTree (raw_tree source) t) where
  abbrev raw : RawSt
  raw = raw_tree source

  abbrev scope_of : RawPou → NameScope
  scope_of u = scope_in (names_of raw) (map formals_of raw.pous) u

  units_worded : AreWorded (spell_units source.units (kind.Fixed fixed.End ∷ []))
  units_worded = section_behind (kind.Fixed fixed.VarGlobal) spell_globals globals_behind source.globals _ worded

  declared : IsDeclared raw t
  declared = is_declared raw t typed

  -- the unit of the text that stands where one of the tree does
  record At (n : ℕ) (p : Pou) : Type 0 where
    u : RawPou
    there : slice_get raw.pous n ≡ Some u
    same : p ≡ unit_of (names_of raw) (map formals_of raw.pous) u
    inner : Lists (all_inside u.formals u.locals).names (inner_entries p)

  at : (n : ℕ) (p : Pou) → slice_get t.pous n ≡ Some p → At n p
  at n p q =
      let same : slice_get (map (unit_of (names_of raw) (map formals_of raw.pous)) raw.pous) n ≡ Some p =
      sym (ap (λ (s : StProgram). slice_get s.pous n) typed.same) ∙ q in
      let u = mapped_from (unit_of (names_of raw) (map formals_of raw.pous)) raw.pous n p same in
      let own = unit_there t.pous raw.pous declared.units n p u.0 q u.1 in
      record {
        u = u.0;
        there = u.1;
        same = u.2;
        inner = gather_inside p u.0 own.formals own.locals (declared.inside n u.0 u.1);
      }

  keys : Each (λ (p : Pou). AreDistinct p.formals) t.pous
  keys =
      each_from (λ (p : Pou). AreDistinct p.formals) t.pous
      (λ n p q. distinct_of 0 p.formals (local_entries 0 p.locals) (at n p q).inner.apart)

  -- its statements, and what they are in the tree
  record HasBody (p : Pou) (u : RawPou) : Type 0 where
    read : WasRead u
    found : FoundAll (scope_of u) (unit_scope_in t p) false read.body
    same : p.body ≡ found.xs

  has_body : (n : ℕ) (p : Pou) → slice_get t.pous n ≡ Some p → (a : At n p) → HasBody p a.u
  has_body n p q a =
      let formals = formals_same t.pous raw.pous declared.units in
      let declares = scope_declares t p (scope_of a.u) a.inner declared.names formals in
      let sees = unit_sees t p (scope_of a.u) a.inner declared.names formals keys declares in
      let none = nil_at (breaks_of_unit (names_of raw) (map formals_of raw.pous)) raw.pous n a.u (sound_units raw typed.sound) a.there in
      let read = each_at WasRead raw.pous n a.u
      (were_read source.units (levels_section levels_globals source.globals []) fits.1 (_, units_worded) within.1) a.there in
      let clean : breaks_in (statements (scope_of a.u) (tree_all read.body)) ≡ [] =
      subst (λ (b : List RawStmt). breaks_in (statements (scope_of a.u) b) ≡ []) read.same
      (nil_second (all_inside a.u.formals a.u.locals).breaks (breaks_in (statements (scope_of a.u) a.u.body)) none) in
      let f = found_all (scope_of a.u) (unit_scope_in t p) sees false read.body read.spelled read.fit clean in
      record {
        read = read;
        found = f;
        same = ap (λ (x : Pou). x.body) a.same ∙ ap (λ (b : List RawStmt). found_in (statements (scope_of a.u) b)) read.same
            ∙ found_of (statements (scope_of a.u) (tree_all read.body)) f.xs f.found;
      }

  proper_unit : (n : ℕ) (p : Pou) → slice_get t.pous n ≡ Some p → IsHeaded p → IsProperUnit t.globals (map head_of t.pous) p
  proper_unit n p q headed =
      let a = at n p q in
      let b = has_body n p q a in
      let low : 0 + body_nesting b.found.xs ≤ max 0 (top_all 0 b.read.body) = b.found.low 0 in
      let top : top_all 0 b.read.body ≤ deepest = b.read.within in
      let few : body_nesting b.found.xs ≤ deepest = omega (arith, low, top) in
      record {
        name = headed.name;
        free = headed.free;
        program = headed.program;
        formals = each_all IsFormal p.formals headed.formals;
        locals = each_all IsLocal p.locals headed.locals;
        apart = inner_apart p a.inner.apart;
        typed = subst (λ (b : List Stmt). are_well_typed (unit_scope_in t p) false b ≡ true) (sym b.same) b.found.typed;
        nesting = subst (λ (b : List Stmt). body_nesting b ≤ deepest) (sym b.same) few;
      }

  proper_units : Each (IsProperUnit t.globals (map head_of t.pous)) t.pous
  proper_units =
      let headed = subst (λ (s : StProgram). Each IsHeaded s.pous) (sym typed.same)
      (are_headed (names_of raw) (map formals_of raw.pous) source.units fits.1 (_, units_worded)) in
      each_from (IsProperUnit t.globals (map head_of t.pous)) t.pous
      (λ n p q. proper_unit n p q (each_at IsHeaded t.pous n p headed q))

  have_calls : HaveCalls t (calls_in raw)
  have_calls n p q =
      let a = at n p q in
      let b = has_body n p q a in
      record {
        calls = all_calls (scope_of a.u) a.u.body;
        there = mapped_at (calls_of_unit (names_of raw) (map formals_of raw.pous)) raw.pous n a.u a.there;
        most = λ f.
            subst (λ (xs : List Stmt). called_most f xs ≤ bound_all (of_heads (map head_of t.pous) f) (scope_of a.u) a.u.body) (sym b.same)
            (subst (λ (rs : List RawStmt). called_most f b.found.xs ≤ bound_all (of_heads (map head_of t.pous) f) (scope_of a.u) rs)
            (sym b.read.same) (b.found.calls f));
      }

  proper : Proper t
  proper = record {
    blocks = are_blocks raw t declared;
    bytes = each_all IsDataBlock t.dbs (subst (λ (s : StProgram). Each IsDataBlock s.dbs) (sym typed.same) (blocks_held source.globals (_, worded)));
    globals =
        each_all IsGlobal t.globals (subst (λ (s : StProgram). Each IsGlobal s.globals) (sym typed.same) (globals_held source.globals fits.0 (_, worded)));
    apart = outer_apart t declared.names.apart;
    some = some_mapped (unit_of (names_of raw) (map formals_of raw.pous)) raw.pous t.pous (ap (λ (s : StProgram). s.pous) typed.same) typed.chain.some;
    units = each_all (IsProperUnit t.globals (map head_of t.pous)) t.pous proper_units;
    chains = short_chains raw t typed have_calls;
  }

-- what is read is proper
pub read_proper : ReadsAreProper
read_proper bytes raw t reads typed =
    proper reads.source t reads.reads.fits (read_worded bytes raw reads) reads.within
    (subst (λ (r : RawSt). HasTree r t) (sym reads.same) typed)
