-- What a unit of a graph program keeps in its text: its kind, its name and its formals; its locals are temporaries, and
-- where its statements choose by `NEXT` that is one of them.
-- Held against: this project's own names.
use Rattle.std.specs.Prelude.{◌≡◌, ℕ, List, [], ◌∷◌, ◌++◌, ◌⊎◌, All, codes, decimal}
use Rattle.st_tree.specs.declared.graph.GraphPou.{GraphPou}
use Rattle.st_tree.specs.declared.program.Local.{Local}
use Rattle.st_tree.specs.declared.program.Pou.{Pou}

-- the name of a temporary is T and a number
pub record IsTemporaryName (name : List ℕ) : Type 0 where
  pub number : ℕ
  pub is : name ≡ codes "T" ++ decimal number

-- a local of a text is a temporary, or `NEXT`
abbrev pub IsNamedLocal : Local → Type 0
IsNamedLocal local = IsTemporaryName local.name ⊎ (local.name ≡ codes "NEXT")

-- the text of a unit has its head, with locals that are named so
pub record KeepsHead (unit : GraphPou) (text : Pou) : Type 0 where
  pub kind : text.program ≡ unit.head.program
  pub name : text.name ≡ unit.head.name
  pub formals : text.formals ≡ unit.head.formals
  pub locals : All IsNamedLocal text.locals

-- there is a text for each unit, in the same order
abbrev pub KeepHeads : List GraphPou → List Pou → Type 0
KeepHeads [] [] = Unit {0}
KeepHeads [] (text ∷ texts) = ⊥
KeepHeads (unit ∷ units) [] = ⊥
KeepHeads (unit ∷ units) (text ∷ texts) = KeepsHead unit text × KeepHeads units texts
