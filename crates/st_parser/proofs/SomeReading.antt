-- Each text has a reading.
use Rattle.st_tree.proofs.Common.{◌≡◌, ◌⊎◌, List, [], ◌∷◌, Option, Some, None, inl, inr, refl, Line, Reason, Break}
use Rattle.s7_base.specs.declared.reason.Reason.TheVariants.{CallCycle, NoBlocks}
use Rattle.call_chains.proofs.FoundCycle.{found_cycle}
use Rattle.st_reading_laws.proofs.SomeSyntax.{each_has_one_syntax}
use Rattle.st_grammar.specs.Syntax.{HasRawTree, IsSyntaxRefused}
use Rattle.st_parser.specs.TextLaws.{EachHasOne}
use Rattle.st_parser.specs.Texts.{IsRefusedText, IsTextOf, by_rules, by_syntax}
use Rattle.st_lexer.proofs.Common.{StProgram, RawPou, RawSt}
use Rattle.call_chains.specs.Chain.{Graph, IsFirstCycle, NoCycle}
use Rattle.st_rules.proofs.Common.{first_long_chain, Breaks, BreaksChain, HasTree, IsChain, calls_in, chained, cycle, first_break, long, named, no_unit}
use Rattle.st_rules.specs.Typed as of_raw

-- a line and a reason of which something holds
abbrev ForSome : (Line → Reason → Type 0) → Type 0
ForSome P = (line : Line) × (why : Reason) × P line why

-- The chain of calls

chain_without_cycle : (graph : Graph) (units : List RawPou) (o : Option Break) → NoCycle graph
    → first_long_chain graph units ≡ o → IsChain graph units ⊎ ForSome (BreaksChain graph units)
chain_without_cycle graph units (Some b) none e = inr (b.line, b.rule, long none e)
chain_without_cycle graph [] None none e = inr (record { 0 = 1 }, NoBlocks, no_unit refl refl)
chain_without_cycle graph (unit ∷ units) None none e = inl (record { no_cycle = none; short = e; some = λ q. absurd cc })

chain : (graph : Graph) (units : List RawPou) → IsChain graph units ⊎ ForSome (BreaksChain graph units)
chain graph units = let f = found_cycle graph in by f.0 f.1
  where
    by : (first : Option Line) → IsFirstCycle graph first → IsChain graph units ⊎ ForSome (BreaksChain graph units)
    by None f = chain_without_cycle graph units (first_long_chain graph units) f refl
    by (Some line) f = inr (line, CallCycle, cycle f)

-- Names, types and places

rules : (raw : RawSt) → HasTree raw (of_raw.tree_of raw) ⊎ ForSome (Breaks raw)
rules raw = by (first_break raw) refl
  where
    with_chain : first_break raw ≡ None → IsChain (calls_in raw) raw.pous ⊎ ForSome (BreaksChain (calls_in raw) raw.pous)
        → HasTree raw (of_raw.tree_of raw) ⊎ ForSome (Breaks raw)
    with_chain e (inl c) = inl (record { sound = e; chain = c; same = refl })
    with_chain e (inr b) = inr (b.0, b.1, chained e b.2)

    by : (o : Option Break) → first_break raw ≡ o → HasTree raw (of_raw.tree_of raw) ⊎ ForSome (Breaks raw)
    by (Some b) e = inr (b.line, b.rule, named e)
    by None e = with_chain e (chain (calls_in raw) raw.pous)

-- The text

pub each_has_one : EachHasOne
each_has_one bytes = by (each_has_one_syntax bytes)
  where
    with_raw : (raw : RawSt) → HasRawTree bytes raw → HasTree raw (of_raw.tree_of raw) ⊎ ForSome (Breaks raw)
        → ((tree : StProgram) × IsTextOf bytes tree) ⊎ ForSome (IsRefusedText bytes)
    with_raw raw reads (inl t) = inl (of_raw.tree_of raw, record { raw = raw; reads = reads; typed = t })
    with_raw raw reads (inr b) = inr (b.0, b.1, by_rules reads b.2)

    by : ((raw : RawSt) × HasRawTree bytes raw) ⊎ ForSome (IsSyntaxRefused bytes) → ((tree : StProgram) × IsTextOf bytes tree) ⊎ ForSome (IsRefusedText bytes)
    by (inl r) = with_raw r.0 r.1 (rules r.0)
    by (inr b) = inr (b.0, b.1, by_syntax b.2)
