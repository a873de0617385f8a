-- The law of the canonical form: it is what the canonical text says.
use Rattle.st_text_laws.specs.Canonical.{source_of}
use Rattle.st_text_laws.specs.Spelled.{SourceSpelled}
use Rattle.st_grammar.specs.Grammar.{SourceFits, raw_tree}
use Rattle.st_tree.specs.Depth.{deepest}
use Rattle.st_grammar.specs.Levels.{levels_source}
use Rattle.st_grammar.specs.Syntax.{AllWithin, HasRawTree}
use Rattle.st_tree.specs.Spelling.{spelling}
use Rattle.st_tree.specs.declared.program.StProgram.{StProgram}

-- where a tree's canonical form is of the language, tokens can spell it and it nests no deeper than it may, its
-- canonical text has the raw tree of that form
abbrev pub CanonicalTextReads : Type 0
CanonicalTextReads =
    (text : StProgram) → SourceFits (source_of text) → SourceSpelled (source_of text)
    → AllWithin deepest (levels_source (source_of text)) → HasRawTree (spelling text) (raw_tree (source_of text))
