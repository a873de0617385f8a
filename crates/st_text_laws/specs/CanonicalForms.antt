-- What the canonical form of a tree has to keep so that its text reads as the tree, and that it does where the
-- tree is proper.
use Rattle.st_text_laws.specs.Canonical.{source_of}
use Rattle.st_text_laws.specs.Spelled.{SourceSpelled}
use Rattle.st_grammar.specs.Grammar.{SourceFits, raw_tree}
use Rattle.st_tree.specs.Depth.{deepest}
use Rattle.st_grammar.specs.Levels.{levels_source}
use Rattle.st_grammar.specs.Syntax.{AllWithin}
use Rattle.st_rules.specs.Typed.{HasTree}
use Rattle.st_tree.specs.Proper.{Proper}
use Rattle.st_tree.specs.declared.program.StProgram.{StProgram}

-- a tree has a canonical form: it is of the language, tokens can have its names, literals and places, it nests no
-- deeper than it may, and its names, types, places and calls break no rule and mean the tree again
pub record HasCanonicalForm (tree : StProgram) : Type 0 where
  pub fits : SourceFits (source_of tree)
  pub spelled : SourceSpelled (source_of tree)
  pub within : AllWithin deepest (levels_source (source_of tree))
  pub typed : HasTree (raw_tree (source_of tree)) tree

-- a proper tree has a canonical form
abbrev pub ProperHasForm : Type 0
ProperHasForm = (tree : StProgram) → Proper tree → HasCanonicalForm tree
