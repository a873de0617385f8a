-- Raw texts that declare what a tree has, whatever their lines are.
use Rattle.st_tree.proofs.Common.{◌≡◌, ℕ, ◌-◌, List, ◌++◌, length, Some, None, codes, decimal, DataBlock, Area, AreaName, width_at}
use Rattle.memory_areas.specs.declared.place.Area.TheVariants as place
use Rattle.memory_areas.specs.declared.place.AreaName.TheVariants as area
use Rattle.s7_base.specs.declared.word.Width.TheVariants as width
use Rattle.st_rules.proofs.Common.{Local, Located, Pou, RawGlobal, RawLocal, RawPou, RawVar, contents, total}
use Rattle.st_tree.specs.declared.raw.RawGlobalType.TheVariants as type
use Rattle.st_tree.specs.declared.raw.RawVar.TheVariants as var
use Rattle.st_reading_laws.proofs.Lists.{EachPair}

-- a data block under its plain name, at its own byte 0, with a list of all its bytes
pub record IsBlockAt (b : DataBlock) (g : RawGlobal) : Type 0 where
  pub last : ℕ
  pub list : List (ℕ × ℕ)
  pub named : g.name ≡ codes "DB" ++ decimal b.number
  pub placed : g.at ≡ var.Direct area.Db (Some b.number) width.Byte 0 0
  pub typed : g.ty ≡ type.Bytes last list
  pub greatest : last ≡ length b.bytes - 1
  pub bytes : contents last list ≡ b.bytes
  pub size : total list ≡ length b.bytes

abbrev pub AreBlocksAt : List DataBlock → List RawGlobal → Type 0
AreBlocksAt = EachPair IsBlockAt

-- the area that a global's location names; no global stands in another than I, Q and M
abbrev pub name_of_area : Area → AreaName
name_of_area place.I = area.I
name_of_area place.Q = area.Q
name_of_area place.M = area.M
name_of_area other = area.L

-- the location of a global in its type's width
abbrev pub location_of : Located → RawVar
location_of l = var.Direct (name_of_area l.place.area) None (width_at l.ty) l.place.byte l.place.bit

-- a global under its name, at its place, of its type
pub record IsLocatedAt (l : Located) (g : RawGlobal) : Type 0 where
  pub named : g.name ≡ l.name
  pub placed : g.at ≡ location_of l
  pub typed : g.ty ≡ type.Plain l.ty

abbrev pub AreLocatedAt : List Located → List RawGlobal → Type 0
AreLocatedAt = EachPair IsLocatedAt

-- a local or a formal under its name, of its type
pub record IsLocalOf (l : Local) (r : RawLocal) : Type 0 where
  pub named : r.name ≡ l.name
  pub typed : r.ty ≡ l.ty

abbrev pub AreLocalsAt : List Local → List RawLocal → Type 0
AreLocalsAt = EachPair IsLocalOf

-- a unit with its name, its formals and its locals, of any body
pub record IsUnitAt (p : Pou) (u : RawPou) : Type 0 where
  pub program : u.program ≡ p.program
  pub named : u.name ≡ p.name
  pub formals : AreLocalsAt p.formals u.formals
  pub locals : AreLocalsAt p.locals u.locals

abbrev pub AreUnitsAt : List Pou → List RawPou → Type 0
AreUnitsAt = EachPair IsUnitAt
