-- Accesses that meet a fault.
use Rattle.std.proofs.Common.{◌≡◌, ℕ, false, Some, Err, refl}
use Rattle.s7_base.specs.declared.outcome.Fault.TheVariants.{DbMissing}
use Rattle.s7_base.specs.declared.word.Width.{Width}
use Rattle.memory_areas.specs.Access.{is_closed, bytes_for_access}
use Rattle.memory_areas.specs.Areas.{Contents}
use Rattle.memory_areas.specs.Memory.{IsMissing}
use Rattle.memory_areas.specs.declared.place.Area.{Area}
use Rattle.memory_areas.specs.declared.place.Area.TheVariants as area
use Rattle.memory_areas.specs.declared.place.Place.{Place}

by_area : (a : Area) (byte x : ℕ) (w : Width) (m : Contents) → IsMissing a m → is_closed (Some a) ≡ false
    → bytes_for_access (record { area = a; byte = byte; bit = x }) w m ≡ Err DbMissing
by_area (area.Db n) byte x w m gone not_closed = rw (not_closed, gone) refl
by_area area.I byte x w m gone not_closed = absurd gone
by_area area.Q byte x w m gone not_closed = absurd gone
by_area area.M byte x w m gone not_closed = absurd gone
by_area (area.Local d) byte x w m gone not_closed = absurd gone
by_area (area.Cell d) byte x w m gone not_closed = absurd gone

-- a data block that is not there
pub missing : (p : Place) (w : Width) (m : Contents) → IsMissing p.area m → is_closed (Some p.area) ≡ false → bytes_for_access p w m ≡ Err DbMissing
missing p w m gone not_closed = by_area p.area p.byte p.bit w m gone not_closed
