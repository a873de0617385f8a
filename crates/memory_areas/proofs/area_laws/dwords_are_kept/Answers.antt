use Rattle.memory_areas.proofs.AreaLaws.{dwords_leave_bytes, dwords_read_back}
use Rattle.memory_areas.proofs.area_laws.dwords_are_kept.Goals as goal

pub returns : goal.returns
returns c = record { back = dwords_read_back; bytes = dwords_leave_bytes }
