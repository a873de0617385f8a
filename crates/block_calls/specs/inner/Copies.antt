-- Copies between an instance and the actuals of its formals, both ways.
use Rattle.std.specs.Prelude.{ℕ, Option, Result}
use Rattle.block_calls.specs.declared.copies.Way.{Way}
use Rattle.block_calls.specs.declared.copies.Way.TheVariants as way
use Rattle.memory_areas.specs.Areas.{Contents}
use Rattle.memory_areas.specs.declared.place.Place.{Place}
use Rattle.s7_base.specs.declared.outcome.Fault.{Fault}
use Rattle.stl_tree.specs.Calls.{copied_back, copied_in}
use Rattle.stl_tree.specs.declared.program.Formal.{Formal}

-- the memory after a formal was copied one way
abbrev pub copied_by : Way → ℕ → Formal → Option Place → Contents → Result Contents Fault
copied_by way.In = copied_in
copied_by way.Back = copied_back
