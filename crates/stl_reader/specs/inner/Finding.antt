-- How far a text is read.
use Rattle.std.specs.Prelude.{List, [], ◌∷◌, Result, Ok, Err}
use Rattle.s7_base.specs.declared.reason.Rejection.{Rejection}
use Rattle.s7_base.specs.declared.token.Token.{Token}
use Rattle.stl_grammar.specs.RawPrograms.{raw_behind}
use Rattle.stl_grammar.specs.declared.item.NextItem.{NextItem}
use Rattle.stl_grammar.specs.declared.item.NextItem.TheVariants.{Fits, Misfit, Ended}
use Rattle.stl_grammar.specs.declared.item.Item.{Item}
use Rattle.stl_grammar.specs.declared.item.Reading.{Reading}
use Rattle.stl_tree.specs.declared.raw.RawProgram.{RawProgram}

-- an item has a first token
abbrev pub HasFirst : List Token → NextItem → Type 0
HasFirst (first ∷ rest) found = Unit {0}
HasFirst [] (Fits item size next) = ⊥
HasFirst [] (Misfit line reason) = Unit {0}
HasFirst [] Ended = Unit {0}

-- the raw program of the text so far, and of the items after it, if they fit
abbrev pub read_behind : Reading → Result (List Item) Rejection → Result RawProgram Rejection
read_behind reading (Ok items) = Ok (raw_behind reading items)
read_behind reading (Err refused) = Err refused
