-- The chains of calls of a text end, where the verdict finds none that is too long.
use Rattle.std.proofs.Common.{◌≡◌, ℕ, zero, suc, List, [], ◌∷◌, ◌++◌, length, map, replicate, get_or, Bool, true, false, ◌||◌, Option, Some, None, refl, sym, ap, subst, ◌∙◌, arith}
use Rattle.std.specs.Prelude.{All, option_map, slice_get}
use Rattle.std.specs.List.{flat_map, list_any}
use Rattle.std.proofs.lemmas.List.{get_or-replicate, length-map}
use Rattle.std.proofs.lemmas.List.Elements.{All-append, All-cons, All-head, All-nil, All-tail}
use Rattle.std.proofs.lemmas.Option.{get_or_from_slice_get, slice_get-map, slice_get_within}
use Rattle.call_chains.specs.Chain.{Graph, calls_one, chains}
use Rattle.call_chains.specs.declared.call.Call.{Call}
use Rattle.memory_areas.specs.declared.sizes.TheConstants.{ACTIVATIONS}
use Rattle.s7_base.specs.declared.reason.Line.{Line}
use Rattle.s7_base.specs.declared.reason.Reason.TheVariants.{CallTooDeep}
use Rattle.s7_base.specs.declared.rule_break.Break.{Break}
use Rattle.stl_rules.specs.Programs.{block_of, instr_of, instrs_of, op_of, or_any, program_of, with_list}
use Rattle.stl_rules.specs.Raw.{OperandScope}
use Rattle.stl_rules.specs.BodyRules.{broken_if}
use Rattle.stl_rules.specs.Stages.{call_graph, calls_in, calls_of, chain, cycle_breaks, deep_breaks, none_among, or_deep}
use Rattle.stl_rules.proofs.Lists.{no_parts}
use Rattle.stl_tree.specs.Accepted.{BlockCallsRight, CallsRight, EndsWithin, Widths, called_by, called_in, widths_named}
use Rattle.stl_tree.specs.declared.program.Block.{Block}
use Rattle.stl_tree.specs.declared.program.Instr.{Instr}
use Rattle.stl_tree.specs.declared.program.Op.{Op}
use Rattle.stl_tree.specs.declared.program.Op.TheVariants as op
use Rattle.stl_tree.specs.declared.program.Program.{Program}
use Rattle.stl_tree.specs.declared.raw.RawBlock.{RawBlock}
use Rattle.stl_tree.specs.declared.raw.RawInstr.{RawInstr}
use Rattle.stl_tree.specs.declared.raw.RawProgram.{RawProgram}
use Rattle.verdict_laws.proofs.DataBlockLaws.{not_broken}
use Rattle.verdict_laws.proofs.FormalLaws.{all_both, all_left, all_right}

-- Lists

get_or_mapped : {X Y : Type 0} (f : X → Y) (xs : List X) (i : ℕ) (x : X) (d : Y) → slice_get xs i ≡ Some x → get_or (map f xs) i d ≡ f x
get_or_mapped f [] i x d e = absurd cc
get_or_mapped {X = X} f (y ∷ ys) zero x d e = ap f (same y x e)
  where
    same : (a b : X) → Some a ≡ Some b → a ≡ b
    same a b h = cc
get_or_mapped f (y ∷ ys) (suc i) x d e = get_or_mapped f ys i x d e

none_passes : {X : Type 0} (test : X → Bool) (xs : List X) → list_any test xs ≡ false → All (λ x. test x ≡ false) xs
none_passes test [] e = All-nil (λ x. test x ≡ false)
none_passes test (x ∷ xs) e =
    let p = neither (test x) (list_any test xs) e in All-cons (λ y. test y ≡ false) x xs p.0 (none_passes test xs p.1)
  where
    neither : (a b : Bool) → (a || b) ≡ false → (a ≡ false) × (b ≡ false)
    neither true b h = absurd cc
    neither false b h = (refl, h)

-- Calls of a block

one_called : (P : ℕ → Type 0) (raw : RawInstr) (rest : List RawInstr) (o : Op) → All (λ (c : Call). P c.callee) (calls_of raw o)
    → All P (called_by (with_list rest o))
one_called P raw rest (op.Call c) h =
    All-cons P c.block [] (All-head (λ (x : Call). P x.callee) (record { callee = c.block; line = raw.line }) [] h) (All-nil P)
one_called P raw rest (op.CallIf c) h =
    All-cons P c.block [] (All-head (λ (x : Call). P x.callee) (record { callee = c.block; line = raw.line }) [] h) (All-nil P)
one_called P raw rest (op.JumpList count to) h = All-nil P
one_called P raw rest other h = All-nil P

module _ (text : RawProgram) (raw : RawBlock) where
  abbrev scope : OperandScope
  scope = record { text = text; block = raw }

  -- what holds of each call that is written holds of each block that is called
  all_called : (P : ℕ → Type 0) (raws : List RawInstr) (last : List Instr) → All P (flat_map (λ (i : Instr). called_by i.op) last)
      → All (λ (c : Call). P c.callee) (flat_map (λ (i : RawInstr). calls_of i (or_any (op_of scope i.op))) raws)
      → All P (flat_map (λ (i : Instr). called_by i.op) (instrs_of scope raws ++ last))
  all_called P [] last end h = end
  all_called P (i ∷ rest) last end h =
      All-append P (called_by (instr_of scope i rest).op) (flat_map (λ (x : Instr). called_by x.op) (instrs_of scope rest ++ last))
      (one_called P i rest (or_any (op_of scope i.op))
      (all_left (λ (c : Call). P c.callee) (calls_of i (or_any (op_of scope i.op)))
      (flat_map (λ (x : RawInstr). calls_of x (or_any (op_of scope x.op))) rest) h))
      (all_called P rest last end
      (all_right (λ (c : Call). P c.callee) (calls_of i (or_any (op_of scope i.op)))
      (flat_map (λ (x : RawInstr). calls_of x (or_any (op_of scope x.op))) rest) h))

  called_all : (P : ℕ → Type 0) → All (λ (c : Call). P c.callee) (calls_in text raw) → All P (called_in (block_of text raw))
  called_all P h = all_called P raw.body (record { line = raw.end_line; op = op.BlockEnd } ∷ []) (All-nil P) h

-- Blocks that are called

module _ (program : Program) where
  -- there is a block at a position
  abbrev IsThere : ℕ → Type 0
  IsThere n = (b : Block) × (slice_get program.blocks n ≡ Some b)

  one_there : (widths : Widths) (o : Op) → CallsRight program widths o → All IsThere (called_by o)
  one_there widths (op.Call c) h = All-cons IsThere c.block [] (h.0, h.1) (All-nil IsThere)
  one_there widths (op.CallIf c) h = All-cons IsThere c.block [] (h.0.0, h.0.1) (All-nil IsThere)
  one_there widths other h = All-nil IsThere

  all_there : (widths : Widths) (body : List Instr) → All (λ (i : Instr). CallsRight program widths i.op) body
      → All IsThere (flat_map (λ (i : Instr). called_by i.op) body)
  all_there widths [] h = All-nil IsThere
  all_there widths (i ∷ rest) h =
      All-append IsThere (called_by i.op) (flat_map (λ (x : Instr). called_by x.op) rest)
      (one_there widths i.op (All-head (λ (x : Instr). CallsRight program widths x.op) i rest h))
      (all_there widths rest (All-tail (λ (x : Instr). CallsRight program widths x.op) i rest h))

-- Chains

module _ (text : RawProgram) (right : All (BlockCallsRight (program_of text)) (map (block_of text) text.blocks)) where
  abbrev blocks : List Block
  blocks = map (block_of text) text.blocks

  abbrev graph : Graph
  graph = call_graph text

  -- a block at a position is that of a raw one
  record IsMade (n : ℕ) (b : Block) : Type 0 where
    raw : RawBlock
    there : slice_get text.blocks n ≡ Some raw
    is : b ≡ block_of text raw

  made_of : (n : ℕ) (b : Block) → slice_get blocks n ≡ Some b → IsMade n b
  made_of n b e = by (slice_get text.blocks n) refl (sym (slice_get-map (block_of text) text.blocks n) ∙ e)
    where
      by : (o : Option RawBlock) → slice_get text.blocks n ≡ o → option_map (block_of text) o ≡ Some b → IsMade n b
      by None there h = absurd cc
      by (Some raw) there h = record { raw = raw; there = there; is = cc }

  right_at : (n : ℕ) (b : Block) → slice_get blocks n ≡ Some b → BlockCallsRight (program_of text) b
  right_at n b e = subst (BlockCallsRight (program_of text)) (get_or_from_slice_get blocks n b b e) (right n b (slice_get_within blocks n b e))

  ends : (most n : ℕ) → IsThere (program_of text) n → get_or (chains graph most) n false ≡ false → EndsWithin most blocks n
  ends zero n there e = absurd (both (length-map text.blocks (calls_in text)) (length-map text.blocks (block_of text)))
    where
      both : length graph ≡ length text.blocks → length blocks ≡ length text.blocks → ⊥
      both g b =
          let inside = slice_get_within blocks n there.0 there.1 in
          let one : get_or (replicate (length graph) true) n false ≡ true = get_or-replicate (length graph) n true false (omega (arith, g, b, inside)) in
          let apart : false ≡ true = sym e ∙ one in
          cc
  ends (suc most) n there e = λ b is. by b is (made_of n b is) (ends most)
    where
      by : (b : Block) → slice_get blocks n ≡ Some b → IsMade n b
          → ((k : ℕ) → IsThere (program_of text) k → get_or (chains graph most) k false ≡ false → EndsWithin most blocks k)
          → All (EndsWithin most blocks) (called_in b)
      by b is made further =
          let calls_one_is : calls_one (chains graph most) (calls_in text made.raw) ≡ false
          = sym (get_or_mapped (calls_one (chains graph most)) graph n (calls_in text made.raw) false
          (slice_get-map (calls_in text) text.blocks n ∙ ap (option_map (calls_in text)) made.there)) ∙ e in
          let short = called_all text made.raw (λ k. get_or (chains graph most) k false ≡ false)
          (none_passes (λ (c : Call). get_or (chains graph most) c.callee false) (calls_in text made.raw) calls_one_is) in
          let found = all_there (program_of text) (widths_named b.name b.formals) b.body (right_at n b is) in
          all_both (λ k. get_or (chains graph most) k false ≡ false) (IsThere (program_of text)) (EndsWithin most blocks) (λ k s t. further k t s)
          (called_in b) (subst (λ (x : Block). All (λ k. get_or (chains graph most) k false ≡ false) (called_in x)) (sym made.is) short) found

  -- Rules

  deep_none : (begins : List Bool) (lines : List Line) → length begins ≡ length lines → deep_breaks begins lines ≡ []
      → (n : ℕ) → get_or begins n false ≡ false
  deep_none [] lines size e zero = refl
  deep_none [] lines size e (suc n) = refl
  deep_none (b ∷ begins) [] size e n = absurd cc
  deep_none (b ∷ begins) (line ∷ lines) size e n =
      by n (no_parts (broken_if b line CallTooDeep) (deep_breaks begins lines) e) (deep_none begins lines (omega (arith, size)))
    where
      by : (k : ℕ) → (broken_if b line CallTooDeep ≡ []) × (deep_breaks begins lines ≡ [])
          → (deep_breaks begins lines ≡ [] → (m : ℕ) → get_or begins m false ≡ false) → get_or (b ∷ begins) k false ≡ false
      by zero p more = not_broken b line CallTooDeep p.0
      by (suc k) p more = more p.1 k

  none_deep : (cycles deep : List Break) → or_deep cycles deep ≡ [] → deep ≡ []
  none_deep [] deep e = e
  none_deep (b ∷ cycles) deep e = absurd cc

  -- the chains of a text that keeps the rules of chains
  pub chains_end : chain text ≡ [] → (n : ℕ) → EndsWithin ACTIVATIONS blocks n
  chains_end e n b is = ends 8 n (b, is) (deep_none (chains graph 8) headings size deep n) b is
    where
      headings : List Line
      headings = map (λ (raw : RawBlock). raw.line) text.blocks

      deep : deep_breaks (chains graph 8) headings ≡ []
      deep =
          none_deep (cycle_breaks graph) (deep_breaks (chains graph 8) headings)
          (no_parts (or_deep (cycle_breaks graph) (deep_breaks (chains graph 8) headings)) (none_among headings) e).0

      size : length (chains graph 8) ≡ length headings
      size =
          length-map graph (calls_one (chains graph 7)) ∙ length-map text.blocks (calls_in text)
          ∙ sym (length-map text.blocks (λ (raw : RawBlock). raw.line))
