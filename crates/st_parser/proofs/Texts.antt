-- What is said of the answer to a text by that to its raw tree.
use Rattle.st_tree.proofs.Common.{ℕ, List, Result, Ok, Err, IfOk, Rejection, Proper}
use Rattle.std.specs.Prelude.{IfErr}
use Rattle.s7_base.specs.declared.reason.Rejection.TheVariants as rejection
use Rattle.st_grammar.specs.Syntax.{HasRawTree}
use Rattle.st_parser.specs.Texts.{IsRefusedAs, by_rules}
use Rattle.st_text_laws.proofs.ReadProper.{read_proper}
use Rattle.st_rules.specs.Typed.{HasTree, IsRefused}
use Rattle.st_lexer.proofs.Common.{StProgram, RawSt}

pub refused_by_rules : (bytes : List ℕ) (raw : RawSt) (r : Result StProgram Rejection)
    → HasRawTree bytes raw → IfErr r (IsRefused raw) → IfErr r (IsRefusedAs bytes)
refused_by_rules bytes raw (Ok tree) reads h = tt
refused_by_rules bytes raw (Err (rejection.Refused line reason)) reads h = by_rules reads h
refused_by_rules bytes raw (Err rejection.NoMemory) reads h = tt

pub proper_text : (bytes : List ℕ) (raw : RawSt) (r : Result StProgram Rejection) → HasRawTree bytes raw → IfOk r (HasTree raw) → IfOk r Proper
proper_text bytes raw (Ok tree) reads h = read_proper bytes raw tree reads h
proper_text bytes raw (Err refused) reads h = tt
