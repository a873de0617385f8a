-- The nodes that are made of an accepted body and its graph: there is one for each block, with its instructions and its
-- exit.
use Rattle.std.proofs.Common.{◌≡◌, ℕ, zero, suc, ◌+◌, ◌-◌, ◌<◌, ◌≤◌, ◌==◌, List, [], ◌∷◌, ◌++◌, length, take, drop, Option, Some, None, refl, sym, ap, subst, ◌∙◌, arith, append_assoc}
use Rattle.std.specs.Prelude.{All, map, slice_get}
use Rattle.std.proofs.lemmas.List.{drop-drop, length-append}
use Rattle.std.proofs.lemmas.List.Elements.{All-drop, All-take}
use Rattle.std.proofs.lemmas.Option.{same_Some}
use Rattle.flow_graph.specs.Graphs.{BeginsAt, IsExitTo, IsGraphOf, extent_of}
use Rattle.flow_graph.specs.declared.graph.Graph.{Graph}
use Rattle.flow_graph.specs.declared.graph.Node.{Node}
use Rattle.flow_laws.proofs.Blocks.{IsFound, walk}
use Rattle.flow_laws.proofs.Shapes.{HasItsOperand, IsRest, has_from, taken_long}
use Rattle.instruction_lowering.proofs.SpotLaws.{used_behind_all}
use Rattle.flow_laws.specs.Ways.{Goes, HasFrom, IsClosed}
use Rattle.instruction_lowering.proofs.Spots.{HasNodes}
use Rattle.instruction_lowering.specs.inner.Lowering.{count_of, node_of, nodes_from, nodes_of, used_behind}
use Rattle.instruction_lowering.specs.inner.Temporaries.{types_in, types_of}
use Rattle.instruction_lowering.specs.inner.Templates.{context_from}
use Rattle.st_tree.specs.declared.expr.StType.{StType}
use Rattle.stl_tree.specs.Accepted.{AreJumps, CallsRight, HaveOperands, IsEnded, Widths, open_at}
use Rattle.stl_tree.specs.Blocks.{AreBlocksFrom, IsBlock, instructions_of, is_last_at, way_of}
use Rattle.stl_tree.specs.Brackets.{AreNested}
use Rattle.stl_tree.specs.declared.program.Block.{Block}
use Rattle.stl_tree.specs.declared.program.Instr.{Instr}
use Rattle.stl_tree.specs.declared.program.Program.{Program}

-- what is known of the block of a number
pub record IsShaped (p : Program) (formals : Widths) (body : List Instr) (blocks : List Node) (i : ℕ) (x : Node) : Type 0 where
  pub some : x.first < x.past
  pub within : x.past ≤ length body
  pub long : length (instructions_of body (extent_of x)) ≡ x.past - x.first
  pub has : HasFrom body x.first (instructions_of body (extent_of x))
  pub goes : Goes blocks i x.first (instructions_of body (extent_of x)) x.exit
  pub closed : IsClosed (instructions_of body (extent_of x)) 0
  pub operands : HaveOperands formals (instructions_of body (extent_of x))
  pub calls : All (λ (i : Instr). CallsRight p formals i.op) (instructions_of body (extent_of x))

types_in_parts : (program : List Block) (n : ℕ) (ys : List Instr)
    → types_in program ys ≡ types_in program (take n ys) ++ types_in program (drop n ys)
types_in_parts program zero ys = refl
types_in_parts program (suc n) [] = refl
types_in_parts program (suc n) (y ∷ ys) =
    ap (λ ts. types_of program y.op ++ ts) (types_in_parts program n ys)
    ∙ sym (append_assoc (types_of program y.op) (types_in program (take n ys)) (types_in program (drop n ys)))

-- what holds of each instruction of a body holds of those of a part of it
pub each_of_part : (P : Instr → Type 0) (body : List Instr) (first n : ℕ) → All P body → All P (take n (drop first body))
each_of_part P body first n all = All-take P n (drop first body) (All-drop P first body all)

pub past_all : (xs : List Node) (n : ℕ) → slice_get xs n ≡ None → length xs ≤ n
past_all [] n e = omega arith
past_all (x ∷ xs) zero e = cc
past_all (x ∷ xs) (suc n) e = let l : length xs ≤ n = past_all xs n e in omega arith

-- where blocks begin, from a position on
begins_above : (body : List Instr) (nodes : List Node) (at j : ℕ) (y : Node) → AreBlocksFrom body at (map extent_of nodes)
    → slice_get nodes j ≡ Some y → (at ≤ y.first) × (y.first < y.past)
begins_above body [] at j y are e = cc
begins_above body (z ∷ rest) at zero y are e =
    let block : IsBlock body at (extent_of z) = are.0 in
    let same : z ≡ y = same_Some z y e in
    let some : at < z.past = block.some in
    let first : z.first ≡ at = block.first in
    subst (λ (n : Node). (at ≤ n.first) × (n.first < n.past)) same (omega arith, omega arith)
begins_above body (z ∷ rest) at (suc j) y are e =
    let others = begins_above body rest z.past j y are.1 e in
    let some : at < z.past = are.0.some in
    (omega (arith, others.0), others.1)

first_only : (body : List Instr) (nodes : List Node) (at j : ℕ) (y : Node) → AreBlocksFrom body at (map extent_of nodes)
    → slice_get nodes j ≡ Some y → y.first ≡ at → j ≡ 0
first_only body [] at j y are e f = cc
first_only body (z ∷ rest) at zero y are e f = refl
first_only body (z ∷ rest) at (suc j) y are e f =
    let others = begins_above body rest z.past j y are.1 e in
    let some : at < z.past = are.0.some in
    absurd (omega (arith, others.0))

-- the block that begins where another ends is the next one
next_only : (body : List Instr) (nodes : List Node) (at i j : ℕ) (x y : Node) → AreBlocksFrom body at (map extent_of nodes)
    → slice_get nodes i ≡ Some x → slice_get nodes j ≡ Some y → y.first ≡ x.past → j ≡ suc i
next_only body [] at i j x y are e f g = cc
next_only body (z ∷ rest) at zero zero x y are e f g =
    let here = begins_above body (z ∷ rest) at zero y are f in
    let same : x ≡ y = sym (same_Some z x e) ∙ same_Some z y f in
    let long : x.past ≡ y.past = ap (λ (n : Node). n.past) same in
    absurd (omega (arith, here.1))
next_only body (z ∷ rest) at zero (suc j) x y are e f g =
    let past : z.past ≡ x.past = ap (λ (n : Node). n.past) (same_Some z x e) in
    ap suc (first_only body rest z.past j y are.1 f (g ∙ sym past))
next_only body (z ∷ rest) at (suc i) zero x y are e f g =
    let later = begins_above body rest z.past i x are.1 e in
    let first : z.first ≡ y.first = ap (λ (n : Node). n.first) (same_Some z y f) in
    let block : IsBlock body at (extent_of z) = are.0 in
    let some : at < z.past = block.some in
    let at_first : z.first ≡ at = block.first in
    absurd (omega (arith, later.0, later.1))
next_only body (z ∷ rest) at (suc i) (suc j) x y are e f g = ap suc (next_only body rest z.past i j x y are.1 e f g)

module _ (p : Program) (formals : Widths) (body : List Instr) (graph : Graph) (jumps : AreJumps body) (is_graph : IsGraphOf body graph) where
  abbrev blocks : List Node
  blocks = graph.nodes

  -- those from one on, which lie at these numbers
  abbrev LieAt : ℕ → List Node → Type 0
  LieAt i rest = (j : ℕ) (x : Node) → slice_get rest j ≡ Some x → slice_get blocks (i + j) ≡ Some x

  lie_behind : (i : ℕ) (y : Node) (rest : List Node) → LieAt i (y ∷ rest) → LieAt (i + 1) rest
  lie_behind i y rest lie j x e = let more : i + 1 + j ≡ i + suc j = omega arith in ap (slice_get blocks) more ∙ lie (suc j) x e

  begins_next : (past i : ℕ) (rest : List Node) → AreBlocksFrom body past (map extent_of rest) → LieAt i rest → past < length body → BeginsAt blocks i past
  begins_next past i [] are lie less = absurd (omega (arith, are))
  begins_next past i (z ∷ rest) are lie less =
      let e : i ≡ i + 0 = omega arith in (z, ap (slice_get blocks) e ∙ lie 0 z refl, are.0.first)

  -- a block, from the rest of the body where it begins
  module _ (i at : ℕ) (x : Node) (rest : List Node) (block : IsBlock body at (extent_of x)) (others : AreBlocksFrom body x.past (map extent_of rest))
      (lie : LieAt i (x ∷ rest)) (here : IsRest formals body at 0 0 (drop at body))
      (right : All (λ (i : Instr). CallsRight p formals i.op) body) where
    first : x.first ≡ at
    first = block.first

    abbrev count : ℕ
    count = x.past - at

    more : suc (count - 1) ≡ count
    more = let some : at < x.past = block.some in omega arith

    mine : slice_get blocks i ≡ Some x
    mine = let e : i ≡ i + 0 = omega arith in ap (slice_get blocks) e ∙ lie 0 x refl

    once : (j : ℕ) → BeginsAt blocks j x.past → j ≡ suc i
    once j begins = next_only body blocks 0 i j x begins.0 is_graph.nodes mine begins.1 begins.2

    instructions : instructions_of body (extent_of x) ≡ take count (drop at body)
    instructions = ap (λ (m : ℕ). take (x.past - m) (drop m body)) first

    found : IsFound formals body jumps blocks i x block.within (λ k above below. block.inside k (omega (arith, above, first)) below) block.next
        (λ less. let e : suc i ≡ i + 1 = omega arith in subst (λ (m : ℕ). BeginsAt blocks m x.past) (sym e)
        (begins_next x.past (i + 1) rest others (lie_behind i x rest lie) less)) once at 0 (suc (count - 1)) (drop at body)
    found =
        let some : at < x.past = block.some in
        walk formals body jumps blocks i x block.within (λ k above below. block.inside k (omega (arith, above, first)) below) block.next
        (λ less. let e : suc i ≡ i + 1 = omega arith in subst (λ (m : ℕ). BeginsAt blocks m x.past) (sym e)
        (begins_next x.past (i + 1) rest others (lie_behind i x rest lie) less)) once (count - 1) at 0 (drop at body) here (omega (arith, first)) (omega arith)
        (subst (λ (is : List Instr). IsExitTo blocks (way_of is) x.exit) (instructions ∙ ap (λ (n : ℕ). take n (drop at body)) (sym more))
        (is_graph.exits i x mine))

    found_all : take (suc (count - 1)) (drop at body) ≡ instructions_of body (extent_of x)
    found_all = ap (λ (n : ℕ). take n (drop at body)) more ∙ sym instructions

    shape : IsShaped p formals body blocks i x
    shape =
        let some : at < x.past = block.some in
        let within : x.past ≤ length body = block.within in
        record {
          some = omega (arith, first);
          within = within;
          long = ap length instructions ∙ taken_long count (drop at body) (omega (arith, here.size)) ∙ omega (arith, first);
          has = subst (λ (m : ℕ). HasFrom body m (instructions_of body (extent_of x))) (sym first)
              (subst (HasFrom body at) (sym instructions) (has_from formals body at 0 0 (drop at body) here count));
          goes = subst (λ (m : ℕ). Goes blocks i m (instructions_of body (extent_of x)) x.exit) (sym first)
              (subst (λ (is : List Instr). Goes blocks i at is x.exit) found_all found.goes);
          closed = subst (λ (is : List Instr). IsClosed is 0) found_all found.closed;
          operands = subst (HaveOperands formals) (sym instructions) (All-take (HasItsOperand formals) count (drop at body) here.operands);
          calls = each_of_part (λ (i : Instr). CallsRight p formals i.op) body x.first (x.past - x.first) right;
        }

    behind : IsRest formals body x.past 0 0 (drop x.past body)
    behind =
        let some : at < x.past = block.some in
        let e : at + count ≡ x.past = omega arith in
        subst (IsRest formals body x.past 0 0)
        (ap (λ (n : ℕ). drop n (drop at body)) more ∙ drop-drop count at body ∙ ap (λ (n : ℕ). drop n body) e) found.rest

  shaped : (rest : List Node) (i at : ℕ) → AreBlocksFrom body at (map extent_of rest) → LieAt i rest → IsRest formals body at 0 0 (drop at body)
      → All (λ (i : Instr). CallsRight p formals i.op) body
      → (j : ℕ) (x : Node) → slice_get rest j ≡ Some x → IsShaped p formals body blocks (i + j) x
  shaped [] i at are lie here right j x e = cc
  shaped (y ∷ rest) i at are lie here right zero x e =
      let same : y ≡ x = cc in
      let more : i ≡ i + 0 = omega arith in
      subst (λ (z : Node). IsShaped p formals body blocks (i + 0) z) same
      (subst (λ (k : ℕ). IsShaped p formals body blocks k y) more (shape i at y rest are.0 are.1 lie here right))
  shaped (y ∷ rest) i at are lie here right (suc j) x e =
      let more : i + 1 + j ≡ i + suc j = omega arith in
      subst (λ (k : ℕ). IsShaped p formals body blocks k x) more
      (shaped rest (i + 1) y.past are.1 (lie_behind i y rest lie) (behind i at y rest are.0 are.1 lie here right) right j x e)

  -- Order

  not_before : (rest : List Node) (at : ℕ) → AreBlocksFrom body at (map extent_of rest) → (j : ℕ) (x : Node) → slice_get rest j ≡ Some x → at ≤ x.first
  not_before [] at are j x e = cc
  not_before (y ∷ rest) at are zero x e =
      let same : y ≡ x = cc in let first : x.first ≡ at = ap (λ (z : Node). z.first) (sym same) ∙ are.0.first in omega arith
  not_before (y ∷ rest) at are (suc j) x e =
      let later : y.past ≤ x.first = not_before rest y.past are.1 j x e in
      let some : at < y.past = are.0.some in
      omega arith

  pub in_order : (rest : List Node) (at : ℕ) → AreBlocksFrom body at (map extent_of rest) → (i j : ℕ) (x y : Node) → i < j → slice_get rest i ≡ Some x
      → slice_get rest j ≡ Some y → x.past ≤ y.first
  in_order [] at are i j x y less e f = cc
  in_order (z ∷ rest) at are i zero x y less e f = absurd (omega arith)
  in_order (z ∷ rest) at are zero (suc j) x y less e f =
      let same : z ≡ x = cc in
      let later : z.past ≤ y.first = not_before rest z.past are.1 j y f in
      subst (λ (w : Node). w.past ≤ y.first) same later
  in_order (z ∷ rest) at are (suc i) (suc j) x y less e f = in_order rest z.past are.1 i j x y (omega arith) e f

  -- Nodes

  -- a node that was made of a block: before its locals there are those of the instructions before it
  pub record IsMade (nodes : List Node) (size used at j : ℕ) (x : Node) (all : List StType) : Type 0 where
    pub from : ℕ
    pub before : List StType
    pub node : slice_get (nodes_from p.blocks size used (drop at body) nodes) j
        ≡ Some (node_of p.blocks (context_from from) (instructions_of body (extent_of x)) x.exit (x.first + 1 == size))
    pub types : all ≡ before ++ types_in p.blocks (drop x.first body)
    pub counts : from ≡ length before

  made : (rest : List Node) (size used at : ℕ) (all before : List StType) → all ≡ before ++ types_in p.blocks (drop at body) → used ≡ length before
      → AreBlocksFrom body at (map extent_of rest) → (j : ℕ) (x : Node) → slice_get rest j ≡ Some x → IsMade rest size used at j x all
  made [] size used at all before split counts are j x e = cc
  made (y ∷ rest) size used at all before split counts are zero x e =
      let same : y ≡ x = cc in
      let first : y.first ≡ at = are.0.first in
      subst (λ (z : Node). IsMade (y ∷ rest) size used at 0 z all) same
      (record {
        from = used;
        before = before;
        node = ap (λ (m : ℕ). Some (node_of p.blocks (context_from used) (take (count_of y) (drop m body)) y.exit (y.first + 1 == size))) (sym first);
        types = split ∙ ap (λ (m : ℕ). before ++ types_in p.blocks (drop m body)) (sym first);
        counts = counts;
      })
  made (y ∷ rest) size used at all before split counts are (suc j) x e =
      let first : y.first ≡ at = are.0.first in
      let some : at < y.past = are.0.some in
      let n : ℕ = count_of y in
      let to : at + n ≡ y.past = omega arith in
      let after : ℕ = used_behind p.blocks (context_from used) (take n (drop at body)) in
      let own : List StType = types_in p.blocks (take n (drop at body)) in
      let on : drop n (drop at body) ≡ drop y.past body = drop-drop n at body ∙ ap (λ (m : ℕ). drop m body) to in
      let grown : after ≡ used + length own = used_behind_all p.blocks (take n (drop at body)) (context_from used) in
      let next : all ≡ (before ++ own) ++ types_in p.blocks (drop y.past body)
      = split ∙ ap (λ ts. before ++ ts) (types_in_parts p.blocks n (drop at body))
      ∙ sym (append_assoc before own (types_in p.blocks (drop n (drop at body))))
      ∙ ap (λ (ys : List Instr). (before ++ own) ++ types_in p.blocks ys) on in
      let others = made rest size after y.past all (before ++ own) next (omega (arith, counts, length-append before own)) are.1 j x e in
      record {
        from = others.from;
        before = others.before;
        node = ap (λ (ys : List Instr). slice_get (nodes_from p.blocks size after ys rest) j) on ∙ others.node;
        types = others.types;
        counts = others.counts;
      }

  pub as_many_nodes : (rest : List Node) (size used : ℕ) (ys : List Instr) → length (nodes_from p.blocks size used ys rest) ≡ length rest
  as_many_nodes [] size used ys = refl
  as_many_nodes (y ∷ rest) size used ys =
      ap suc (as_many_nodes rest size (used_behind p.blocks (context_from used) (take (count_of y) ys)) (drop (count_of y) ys))

  -- The whole

  module _ (operands : HaveOperands formals body) (nested : AreNested body 0) (ended : IsEnded body)
      (right : All (λ (i : Instr). CallsRight p formals i.op) body) where
    whole : IsRest formals body 0 0 0 (drop 0 body)
    whole =
        record {
          from = refl;
          size = omega arith;
          lasts = λ k. let e : 0 + k ≡ k = omega arith in ap (is_last_at 0 body) e;
          opens = λ k. let e : 0 + k ≡ k = omega arith in ap (open_at 0 body) e;
          nested = nested;
          operands = operands;
          lists = jumps.lists;
          ended = λ y more e. ended;
        }

    lie_all : LieAt 0 blocks
    lie_all j x e = let same : 0 + j ≡ j = omega arith in ap (slice_get blocks) same ∙ e

    not_empty : (xs : List Instr) → IsEnded xs → 0 < length xs
    not_empty [] h = elim h [ ]
    not_empty (x ∷ xs) h = omega arith

    pub shape_of : (i : ℕ) (x : Node) → slice_get blocks i ≡ Some x → IsShaped p formals body blocks i x
    shape_of i x e =
        let same : 0 + i ≡ i = omega arith in
        subst (λ (k : ℕ). IsShaped p formals body blocks k x) same (shaped blocks 0 0 is_graph.nodes lie_all whole right i x e)

    pub made_of : (i : ℕ) (x : Node) → slice_get blocks i ≡ Some x → IsMade blocks (length body) 0 0 i x (types_in p.blocks body)
    made_of i x e = made blocks (length body) 0 0 (types_in p.blocks body) [] refl refl is_graph.nodes i x e

    -- the types of the locals of a node
    pub own_types : (x : Node) → types_in p.blocks (drop x.first body)
        ≡ types_in p.blocks (instructions_of body (extent_of x)) ++ types_in p.blocks (drop (x.past - x.first) (drop x.first body))
    own_types x = types_in_parts p.blocks (x.past - x.first) (drop x.first body)

    -- the block that ends its body is the last one
    pub last_block : (i : ℕ) (x : Node) → slice_get blocks i ≡ Some x → x.past ≡ length body → length blocks ≤ suc i
    last_block i x e ends = by (slice_get blocks (suc i)) refl
      where
        by : (o : Option Node) → slice_get blocks (suc i) ≡ o → length blocks ≤ suc i
        by None f = past_all blocks (suc i) f
        by (Some y) f =
            let later : x.past ≤ y.first = in_order blocks 0 is_graph.nodes i (suc i) x y (omega arith) e f in
            let shape = shape_of (suc i) y f in
            absurd (omega (arith, shape.some, shape.within))

    pub has_nodes : HasNodes p formals body blocks (nodes_of p.blocks body blocks) (length (types_in p.blocks body))
    has_nodes =
        record {
          begins = begins_next 0 0 blocks is_graph.nodes lie_all (not_empty body ended);
          each = λ i x e.
              let shape = shape_of i x e in
              let is : List Instr = instructions_of body (extent_of x) in
              let made_here = made_of i x e in
              let all : length (types_in p.blocks body) ≡ length made_here.before + length (types_in p.blocks (drop x.first body))
              = ap length made_here.types ∙ length-append made_here.before (types_in p.blocks (drop x.first body)) in
              let parts : length (types_in p.blocks (drop x.first body))
              ≡ length (types_in p.blocks is) + length (types_in p.blocks (drop (x.past - x.first) (drop x.first body)))
              = ap length (types_in_parts p.blocks (x.past - x.first) (drop x.first body))
              ∙ length-append (types_in p.blocks is) (types_in p.blocks (drop (x.past - x.first) (drop x.first body))) in
              let grown : used_behind p.blocks (context_from made_here.from) is ≡ made_here.from + length (types_in p.blocks is) =
              used_behind_all p.blocks is (context_from made_here.from) in
              record {
                used = made_here.from;
                alone = x.first + 1 == length body;
                is = is;
                some = omega (arith, shape.some, shape.long);
                there = made_here.node;
                left = record {
                  has = shape.has;
                  goes = shape.goes;
                  reach = omega (arith, shape.long, shape.some);
                  within = shape.within;
                  operands = shape.operands;
                  calls = shape.calls;
                  closed = shape.closed;
                  room = omega (arith, made_here.counts);
                };
              };
          order = λ i j x y less e f. in_order blocks 0 is_graph.nodes i j x y less e f;
        }
