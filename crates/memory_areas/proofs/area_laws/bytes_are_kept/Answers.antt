use Rattle.memory_areas.proofs.AreaLaws.{bytes_leave_bytes, bytes_read_back}
use Rattle.memory_areas.proofs.area_laws.bytes_are_kept.Goals as goal

pub returns : goal.returns
returns c = record { back = bytes_read_back; bytes = bytes_leave_bytes }
