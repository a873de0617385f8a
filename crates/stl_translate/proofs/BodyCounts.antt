-- The blocks of a body are all of it, and each goes on by its last instruction alone; so its ends count no more than its
-- instructions do.
use Rattle.std.proofs.Common.{◌≡◌, ℕ, zero, suc, ◌+◌, ◌-◌, ◌<◌, ◌≤◌, List, [], ◌∷◌, drop, length, take, refl, sym, ap, ◌∙◌, arith}
use Rattle.std.specs.List.{sum_by}
use Rattle.std.proofs.lemmas.List.Sums.{sum_by-cons, sum_by-take-drop}
use Rattle.flow_graph.specs.Graphs.{IsExitTo, way_by as way_by_exit}
use Rattle.flow_graph.specs.declared.graph.Exit.{Exit}
use Rattle.flow_graph.specs.declared.graph.Exit.TheVariants as exit
use Rattle.flow_graph.specs.declared.graph.Node.{Node}
use Rattle.instruction_lowering.specs.Lowered.{guards_of}
use Rattle.stl_tree.specs.Blocks.{AreBlocksFrom, Extent, Way, always, if_made, instructions_of, on, one_of, stops, unless_ended, way_after, way_by, way_of}
use Rattle.stl_tree.specs.declared.program.Instr.{Instr}
use Rattle.stl_tree.specs.declared.program.JumpTest.TheVariants as jump
use Rattle.stl_tree.specs.declared.program.Op.{Op}
use Rattle.stl_tree.specs.declared.program.Op.TheVariants as op
use Rattle.stl_translate.specs.Shape.{conditionals_by, conditionals_in, lists_by, lists_in}

-- Ways

-- a block that may go on in two ways counts as one, and so does one that ends in a jump list
abbrev pub choices_by : Way → ℕ
choices_by (if_made to) = 1
choices_by unless_ended = 1
choices_by other = 0

abbrev pub tables_by : Way → ℕ
tables_by (one_of targets label) = 1
tables_by other = 0

-- the calls by CC of some instructions
abbrev pub guards_in : List Instr → ℕ
guards_in is = sum_by (λ (i : Instr). guards_of i.op) is

choices_after : (o : Op) → choices_by (way_after o) + guards_of o ≡ conditionals_by o
choices_after (op.Jump jump.Always to) = refl
choices_after (op.Jump t to) = refl
choices_after (op.Loop to) = refl
choices_after o = refl

tables_after : (o : Op) → tables_by (way_after o) ≡ lists_by o
tables_after (op.Jump jump.Always to) = refl
tables_after (op.Jump t to) = refl
tables_after o = refl

choices_behind : (o : Op) (rest : List Instr) (way : Way) → choices_by (way_by o rest way) + guards_of o ≤ conditionals_by o + choices_by way
choices_behind (op.CallIf call) rest way = omega arith
choices_behind o rest way = omega arith

tables_behind : (o : Op) (rest : List Instr) (way : Way) → tables_by (way_by o rest way) ≤ lists_by o + tables_by way
tables_behind (op.JumpList count label) rest way = omega arith
tables_behind o rest way = omega arith

pub choices_count : (is : List Instr) → choices_by (way_of is) + guards_in is ≤ conditionals_in is
choices_count [] = omega arith
choices_count (i ∷ []) = omega (arith, choices_after i.op)
choices_count (i ∷ j ∷ rest) =
    omega (
      arith,
      choices_behind i.op (j ∷ rest) (way_of (j ∷ rest)),
      choices_count (j ∷ rest),
      sum_by-cons (λ (x : Instr). guards_of x.op) i (j ∷ rest),
      sum_by-cons (λ (x : Instr). conditionals_by x.op) i (j ∷ rest),
    )

pub tables_count : (is : List Instr) → tables_by (way_of is) ≤ lists_in is
tables_count [] = omega arith
tables_count (i ∷ []) = omega (arith, tables_after i.op)
tables_count (i ∷ j ∷ rest) =
    omega (
      arith,
      tables_behind i.op (j ∷ rest) (way_of (j ∷ rest)),
      tables_count (j ∷ rest),
      sum_by-cons (λ (x : Instr). lists_by x.op) i (j ∷ rest),
    )

-- an exit goes on as its block does
pub same_choices : (nodes : List Node) (way : Way) (e : Exit) → IsExitTo nodes way e → choices_by (way_by_exit e) ≡ choices_by way
same_choices nodes on exit.Fall h = refl
same_choices nodes (always to) (exit.Jump j) h = refl
same_choices nodes (if_made to) (exit.Branch j) h = refl
same_choices nodes unless_ended exit.EndIf h = refl
same_choices nodes (one_of targets label) (exit.Table js j) h = refl
same_choices nodes stops exit.End h = refl
same_choices nodes way e h = absurd h

pub same_tables : (nodes : List Node) (way : Way) (e : Exit) → IsExitTo nodes way e → tables_by (way_by_exit e) ≡ tables_by way
same_tables nodes on exit.Fall h = refl
same_tables nodes (always to) (exit.Jump j) h = refl
same_tables nodes (if_made to) (exit.Branch j) h = refl
same_tables nodes unless_ended exit.EndIf h = refl
same_tables nodes (one_of targets label) (exit.Table js j) h = refl
same_tables nodes stops exit.End h = refl
same_tables nodes way e h = absurd h

-- Blocks

drop_none : (n : ℕ) (xs : List Instr) → xs ≡ [] → drop n xs ≡ []
drop_none zero xs e = e
drop_none (suc n) [] e = refl
drop_none (suc n) (x ∷ xs) e = cc

drop_more : (n m : ℕ) (xs : List Instr) → drop n (drop m xs) ≡ drop (m + n) xs
drop_more n zero xs = let e : 0 + n ≡ n = omega arith in ap (λ (k : ℕ). drop k xs) (sym e)
drop_more n (suc m) [] = drop_none n (drop (suc m) []) refl ∙ sym (drop_none (suc m + n) [] refl)
drop_more n (suc m) (x ∷ xs) =
    let e : suc m + n ≡ suc (m + n) = omega arith in drop_more n m xs ∙ ap (λ (k : ℕ). drop k (x ∷ xs)) (sym e)

drop_all : (xs : List Instr) → drop (length xs) xs ≡ []
drop_all [] = refl
drop_all (x ∷ xs) = drop_all xs

-- what is counted of the blocks of a body is counted of the body
module _ (count : Instr → ℕ) (body : List Instr) where
  pub counted_from : (at : ℕ) (blocks : List Extent) → AreBlocksFrom body at blocks
      → sum_by (λ (b : Extent). sum_by count (instructions_of body b)) blocks ≡ sum_by count (drop at body)
  counted_from at [] h = sym (ap (sum_by count) (ap (λ (k : ℕ). drop k body) h ∙ drop_all body))
  counted_from at (b ∷ rest) h =
      let first : b.first ≡ at = h.0.first in
      let some : at < b.past = h.0.some in
      let seam : at + (b.past - at) ≡ b.past = omega arith in
      let later : sum_by count (drop (b.past - at) (drop at body)) ≡ sum_by count (drop b.past body) =
      ap (sum_by count) (drop_more (b.past - at) at body ∙ ap (λ (k : ℕ). drop k body) seam) in
      let own : sum_by count (instructions_of body b) ≡ sum_by count (take (b.past - at) (drop at body)) =
      ap (λ (k : ℕ). sum_by count (take (b.past - k) (drop k body))) first in
      omega (
        arith,
        own,
        later,
        counted_from b.past rest h.1,
        sum_by-take-drop count (drop at body) (b.past - at),
        sum_by-cons (λ (x : Extent). sum_by count (instructions_of body x)) b rest,
      )
