-- The text of a plain graph program by regions is proper.
use Rattle.std.proofs.Common.{◌≡◌, ◌≢◌, ℕ, zero, suc, ◌+◌, ◌≤◌, Bool, true, false, not, ◌&&◌, List, [], ◌∷◌, ◌++◌, length, map, Option, Some, None, refl, sym, ap, ◌∙◌, subst, arith}
use Rattle.std.specs.Prelude.{All, Contains, slice_get}
use Rattle.std.proofs.lemmas.List.Elements.{All-cons, All-head, All-nil, All-push, All-tail}
use Rattle.memory_areas.specs.Areas.{AreBlocks}
use Rattle.memory_areas.specs.declared.sizes.TheConstants.{ACTIVATIONS}
use Rattle.graph_rules.specs.Plain.{IsPlainUnit, listed_text, node_statements}
use Rattle.region_laws.proofs.Typed.{listed_unit}
use Rattle.region_laws.proofs.Whole.{regions_right}
use Rattle.region_laws.specs.NextLocal.{locals_of_text, next_local}
use Rattle.region_laws.specs.RegionLaw.{AreUnitsOf, IsUnitOf, marked_nodes}
use Rattle.region_laws.specs.Regions.{Region, at, no_loop, out, text_of}
use Rattle.region_types.proofs.Calls.{text_calls}
use Rattle.region_types.proofs.NewName.{names_apart, still_seen}
use Rattle.region_types.proofs.Nests.{text_is_low}
use Rattle.region_types.proofs.PlainNests.{plain_nodes_are_low}
use Rattle.region_types.proofs.ShorterChains.{fewer_calls_are_shorter}
use Rattle.region_types.proofs.Still.{both_true, has}
use Rattle.region_types.proofs.Typed.{text_is_typed}
use Rattle.region_types.specs.ProperLaw.{AreProperTexts, IsProperText, TextIsProper, TextIsRight}
use Rattle.region_laws.specs.RegionDepth.{depth}
use Rattle.region_types.specs.TextLaws.{CallsNoMore, IsWider, UnitCallsNoMore}
use Rattle.st_tree.specs.BodyParts.{calls_in}
use Rattle.st_tree.specs.Chains.{chain_of}
use Rattle.st_tree.specs.Naming.{are_apart, key_of, may_name_unit}
use Rattle.st_tree.specs.Nesting.{body_nesting}
use Rattle.st_tree.specs.Proper.{IsDataBlock, IsGlobal, IsLocal, IsProperUnit, outer_keys}
use Rattle.st_tree.specs.WellTyped.{Head, UnitScope, are_given, has_type, head_of, is_call, is_seen, keys_of, type_inside, type_outside, variable_type}
use Rattle.st_tree.specs.declared.expr.StType.{StType}
use Rattle.st_tree.specs.declared.expr.StType.TheVariants as type
use Rattle.st_tree.specs.declared.expr.Var.{Var}
use Rattle.st_tree.specs.declared.expr.Var.TheVariants as var
use Rattle.st_tree.specs.declared.graph.GraphPou.{GraphPou}
use Rattle.st_tree.specs.declared.program.Local.{Local}
use Rattle.st_tree.specs.declared.program.Located.{Located}
use Rattle.st_tree.specs.declared.program.Pou.{Pou}
use Rattle.st_tree.specs.declared.program.Stmt.{Stmt}
use Rattle.st_tree.proofs.Common.{and_parts}
use Rattle.st_tree.proofs.TypingEquations.{type_had}

-- the text of a unit by a region
abbrev unit_by : GraphPou → Bool → Region → Pou
unit_by u without_next region =
    record u.head { locals = locals_of_text without_next u.head.locals; body = text_of (length u.head.locals) region }

text_is : (u : GraphPou) (text : Pou) (t : IsUnitOf u text) → text ≡ unit_by u t.without_next t.region
text_is u text t =
    ap (λ (x : Bool). record text { program = x }) t.kind
    ∙ ap (λ (x : List ℕ). record text { program = u.head.program; name = x }) t.name
    ∙ ap (λ (x : List Local). record text { program = u.head.program; name = u.head.name; formals = x }) t.formals
    ∙ ap (λ (x : List Local). record u.head { locals = x; body = text.body }) t.locals
    ∙ ap (λ (x : List Stmt). record u.head { locals = locals_of_text t.without_next u.head.locals; body = x }) t.body

-- NEXT as the last local

-- a local before NEXT is still there, with its type
still_local : (locals : List Local) (i : ℕ) (ty : StType) → type_inside (slice_get locals i) ≡ Some ty
    → type_inside (slice_get (locals ++ next_local ∷ []) i) ≡ Some ty
still_local [] i ty h = cc
still_local (x ∷ locals) zero ty h = h
still_local (x ∷ locals) (suc i) ty h = still_local locals i ty h

next_type : (locals : List Local) → type_inside (slice_get (locals ++ next_local ∷ []) (length locals)) ≡ Some type.Dint
next_type [] = refl
next_type (x ∷ locals) = next_type locals

-- the name of each unit is one for a unit
abbrev AreNamed : List Head → Type 0
AreNamed heads = (n : ℕ) (head : Head) → slice_get heads n ≡ Some head → may_name_unit head.name ≡ true

are_named : (globals : List Located) (heads : List Head) (units : List Pou) → All (IsProperUnit globals heads) units → AreNamed (map head_of units)
are_named globals heads [] all n head e = cc
are_named globals heads (x ∷ units) all zero head e =
    let same : head_of x ≡ head = cc in
    subst (λ (h : Head). may_name_unit h.name ≡ true) same (All-head (IsProperUnit globals heads) x units all).free
are_named globals heads (x ∷ units) all (suc n) head e = are_named globals heads units (All-tail (IsProperUnit globals heads) x units all) n head e

-- The rules of a unit

module _ (heads : List Head) (named : AreNamed heads) (u : GraphPou) where
  -- the scope of the unit as it is listed, and with locals of its text
  abbrev scope_with : List Local → UnitScope
  scope_with locals = record { globals = []; heads = heads; formals = u.head.formals; locals = locals }

  abbrev small : UnitScope
  small = scope_with u.head.locals

  abbrev large : UnitScope
  large = scope_with (u.head.locals ++ next_local ∷ [])

  no_global : (i : ℕ) (ty : StType) → type_outside small (slice_get [] i) ≡ Some ty → type_outside large (slice_get [] i) ≡ Some ty
  no_global i ty h = cc

  still_declared : (v : Var) (ty : StType) → variable_type small v ≡ Some ty → variable_type large v ≡ Some ty
  still_declared (var.Register r) ty h = h
  still_declared (var.Local i) ty h = still_local u.head.locals i ty h
  still_declared (var.Formal i) ty h = h
  still_declared (var.Global i) ty h = no_global i ty h
  still_declared (var.Direct a byte bit w) ty h = h
  still_declared (var.InBlock n byte bit w) ty h = h

  given_still : (formals : List Local) (vars : List Var) → are_given small formals vars ≡ true → are_given large formals vars ≡ true
  given_still [] [] h = refl
  given_still [] (v ∷ vars) h = cc
  given_still (f ∷ formals) [] h = cc
  given_still (f ∷ formals) (v ∷ vars) h =
      let parts = and_parts (has_type f.ty (variable_type small v)) (are_given small formals vars) h in
      both_true _ _ (has f.ty _ (still_declared v f.ty (type_had f.ty (variable_type small v) parts.0))) (given_still formals vars parts.1)

  calls_still : (n : ℕ) (vars : List Var) → is_call small (slice_get heads n) vars ≡ true → is_call large (slice_get heads n) vars ≡ true
  calls_still n vars h = by (slice_get heads n) refl h
    where
      by : (o : Option Head) → slice_get heads n ≡ o → is_call small o vars ≡ true → is_call large o vars ≡ true
      by None e q = q
      by (Some head) e q =
          let parts = and_parts (not head.program && is_seen small head.name) (are_given small head.formals vars) q in
          let first = and_parts (not head.program) (is_seen small head.name) parts.0 in
          both_true _ _ (both_true _ _ first.0 (still_seen head.name u.head.formals u.head.locals (named n head e) first.1))
          (given_still head.formals vars parts.1)

  -- what a text has of `NEXT`, where its unit has it or has it not
  record HasScope (without_next : Bool) : Type 0 where
    wider : IsWider small (scope_with (locals_of_text without_next u.head.locals))
    next : not without_next ≡ true → variable_type (scope_with (locals_of_text without_next u.head.locals)) (var.Local (length u.head.locals)) ≡ Some type.Dint

  has_scope : (without_next : Bool) → HasScope without_next
  has_scope true = record { wider = record { declared = λ v ty h. h; calls = λ n vars h. h }; next = λ e. cc }
  has_scope false = record { wider = record { declared = still_declared; calls = calls_still }; next = λ e. next_type u.head.locals }

  locals_proper : (without_next : Bool) → All IsLocal u.head.locals → All IsLocal (locals_of_text without_next u.head.locals)
  locals_proper true h = h
  locals_proper false h = All-push IsLocal u.head.locals next_local h (record { name = refl; free = refl })

  unit_proper : (text : Pou) → IsProperText u text → IsProperUnit [] heads (listed_unit u) → IsPlainUnit u → IsProperUnit [] heads text
  unit_proper text t h plain = subst (IsProperUnit [] heads) (sym (text_is u text t.is)) proper
    where
      apart : (without_next : Bool) → are_apart (keys_of u.head.formals ++ keys_of (locals_of_text without_next u.head.locals)) ≡ true
      apart true = h.apart
      apart false = names_apart u.head.formals u.head.locals h.formals plain.names h.apart

      low : body_nesting (text_of (length u.head.locals) t.is.region) ≤ 200
      low =
          let own : body_nesting (text_of (length u.head.locals) t.is.region) ≤ suc (depth t.is.region + body_nesting (node_statements u.graph.nodes)) =
          text_is_low (length u.head.locals) (marked_nodes u t.is.reached t.is.marks) false t.is.region (at 0) out no_loop t.is.fits in
          let nodes : body_nesting (node_statements u.graph.nodes) ≤ 64 = plain_nodes_are_low u plain in
          omega (arith, t.low)

      proper : IsProperUnit [] heads (unit_by u t.is.without_next t.is.region)
      proper =
          record {
            name = h.name;
            free = h.free;
            program = h.program;
            formals = h.formals;
            locals = locals_proper t.is.without_next h.locals;
            apart = apart t.is.without_next;
            typed =
                text_is_typed small (scope_with (locals_of_text t.is.without_next u.head.locals)) (not t.is.without_next) (length u.head.locals)
                (marked_nodes u t.is.reached t.is.marks) false t.is.region (at 0) out no_loop (has_scope t.is.without_next).wider
                (has_scope t.is.without_next).next h.typed (λ i x e. (plain.nodes i x e).exit) plain.few t.uses t.is.fits;
            nesting = low;
          }

-- Whole texts

units_proper : (heads : List Head) → AreNamed heads → (units : List GraphPou) (texts : List Pou) → AreProperTexts units texts
    → All (IsProperUnit [] heads) (map listed_unit units) → All IsPlainUnit units → All (IsProperUnit [] heads) texts
units_proper heads named [] [] t h plain = All-nil (IsProperUnit [] heads)
units_proper heads named [] (text ∷ texts) t h plain = elim t [ ]
units_proper heads named (u ∷ units) [] t h plain = elim t [ ]
units_proper heads named (u ∷ units) (text ∷ texts) t h plain =
    All-cons (IsProperUnit [] heads) text texts
    (unit_proper heads named u text t.0 (All-head (IsProperUnit [] heads) (listed_unit u) (map listed_unit units) h) (All-head IsPlainUnit u units plain))
    (units_proper heads named units texts t.1 (All-tail (IsProperUnit [] heads) (listed_unit u) (map listed_unit units) h) (All-tail IsPlainUnit u units plain))

same_heads : (units : List GraphPou) (texts : List Pou) → AreProperTexts units texts → map head_of (map listed_unit units) ≡ map head_of texts
same_heads [] [] t = refl
same_heads [] (text ∷ texts) t = elim t [ ]
same_heads (u ∷ units) [] t = elim t [ ]
same_heads (u ∷ units) (text ∷ texts) t =
    ap (λ (heads : List Head). head_of u.head ∷ heads) (same_heads units texts t.1)
    ∙ ap (λ (x : Pou). head_of x ∷ map head_of texts) (sym (text_is u text t.0.is))

-- the names of units by their heads
keys_by_heads : (units : List Pou) → map (λ (u : Pou). key_of u.name) units ≡ map (λ (h : Head). key_of h.name) (map head_of units)
keys_by_heads [] = refl
keys_by_heads (u ∷ units) = ap (λ (keys : List (List ℕ)). key_of u.name ∷ keys) (keys_by_heads units)

some_texts : (units : List GraphPou) (texts : List Pou) → AreProperTexts units texts → map listed_unit units ≢ [] → texts ≢ []
some_texts [] [] t h e = h refl
some_texts [] (text ∷ texts) t h e = elim t [ ]
some_texts (u ∷ units) [] t h e = elim t [ ]
some_texts (u ∷ units) (text ∷ texts) t h e = cc

-- texts call what the nodes of their units call
text_calls_no_more : (u : GraphPou) (text : Pou) → IsProperText u text → All (Contains (calls_in (node_statements u.graph.nodes))) (calls_in text.body)
text_calls_no_more u text t =
    subst (λ (x : Pou). All (Contains (calls_in (node_statements u.graph.nodes))) (calls_in x.body)) (sym (text_is u text t.is))
    (text_calls (length u.head.locals) (marked_nodes u t.is.reached t.is.marks) false t.is.region (at 0) out no_loop t.is.fits)

calls_no_more : (units : List GraphPou) (texts : List Pou) → AreProperTexts units texts → (n : ℕ)
    → UnitCallsNoMore (slice_get texts n) (slice_get (map listed_unit units) n)
calls_no_more [] [] t n = tt
calls_no_more [] (text ∷ texts) t n = elim t [ ]
calls_no_more (u ∷ units) [] t n = elim t [ ]
calls_no_more (u ∷ units) (text ∷ texts) t zero = text_calls_no_more u text t.0
calls_no_more (u ∷ units) (text ∷ texts) t (suc n) = calls_no_more units texts t.1 n

-- where a text is, there is a listed unit
listed_there : (o p : Option Pou) (text : Pou) → UnitCallsNoMore o p → o ≡ Some text → (x : Pou) × (p ≡ Some x)
listed_there None p text h e = cc
listed_there (Some unit) None text h e = elim h [ ]
listed_there (Some unit) (Some x) text h e = (x, refl)

pub text_is_proper : TextIsProper
text_is_proper graph tree plain t =
    record {
      blocks = subst AreBlocks (sym t.blocks) plain.text.blocks;
      bytes = subst (All IsDataBlock) (sym t.blocks) plain.text.bytes;
      globals = subst (All IsGlobal) (sym t.globals) plain.text.globals;
      apart = apart;
      some = some_texts graph.pous tree.pous t.units plain.text.some;
      units = units;
      chains = chains;
    }
  where
    heads : map head_of (map listed_unit graph.pous) ≡ map head_of tree.pous
    heads = same_heads graph.pous tree.pous t.units

    keys : map (λ (u : Pou). key_of u.name) tree.pous ≡ map (λ (u : Pou). key_of u.name) (map listed_unit graph.pous)
    keys =
        keys_by_heads tree.pous ∙ sym (ap (λ (hs : List Head). map (λ (h : Head). key_of h.name) hs) heads)
        ∙ sym (keys_by_heads (map listed_unit graph.pous))

    apart : are_apart (outer_keys tree) ≡ true
    apart =
        ap (λ (ks : List (List ℕ)). are_apart (map (λ (g : Located). key_of g.name) tree.globals ++ ks)) keys
        ∙ ap (λ (gs : List Located). are_apart (map (λ (g : Located). key_of g.name) gs ++ map (λ (u : Pou). key_of u.name) (map listed_unit graph.pous)))
        t.globals
        ∙ plain.text.apart

    no_globals : tree.globals ≡ []
    no_globals = t.globals ∙ plain.globals

    listed_proper : All (IsProperUnit [] (map head_of (map listed_unit graph.pous))) (map listed_unit graph.pous)
    listed_proper =
        subst (λ (globals : List Located). All (IsProperUnit globals (map head_of (map listed_unit graph.pous))) (map listed_unit graph.pous))
        plain.globals plain.text.units

    units : All (IsProperUnit tree.globals (map head_of tree.pous)) tree.pous
    units =
        subst (λ (globals : List Located). All (IsProperUnit globals (map head_of tree.pous)) tree.pous) (sym no_globals)
        (subst (λ (hs : List Head). All (IsProperUnit [] hs) tree.pous) heads
        (units_proper (map head_of (map listed_unit graph.pous))
        (are_named graph.globals (map head_of (map listed_unit graph.pous)) (map listed_unit graph.pous) plain.text.units) graph.pous tree.pous t.units
        listed_proper plain.units))

    fewer : CallsNoMore tree (listed_text graph)
    fewer n = calls_no_more graph.pous tree.pous t.units n

    chains : (n : ℕ) (unit : Pou) → slice_get tree.pous n ≡ Some unit → chain_of tree n ≤ ACTIVATIONS
    chains n unit e =
        let there = listed_there (slice_get tree.pous n) (slice_get (listed_text graph).pous n) unit (fewer n) e in
        let own : chain_of (listed_text graph) n ≤ ACTIVATIONS = plain.text.chains n there.0 there.1 in
        let less : chain_of tree n ≤ chain_of (listed_text graph) n = fewer_calls_are_shorter tree (listed_text graph) fewer n in
        omega arith

-- texts by regions

units_of : (units : List GraphPou) (texts : List Pou) → AreProperTexts units texts → AreUnitsOf units texts
units_of [] [] t = tt
units_of [] (text ∷ texts) t = elim t [ ]
units_of (u ∷ units) [] t = elim t [ ]
units_of (u ∷ units) (text ∷ texts) t = (t.0.is, units_of units texts t.1)

pub text_is_right : TextIsRight
text_is_right graph tree plain t =
    regions_right graph tree plain
    (record { blocks = t.blocks; globals = t.globals; units = units_of graph.pous tree.pous t.units })
