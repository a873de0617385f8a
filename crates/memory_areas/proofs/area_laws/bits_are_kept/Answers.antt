use Rattle.memory_areas.proofs.AreaLaws.{bits_leave_bits, bits_leave_bytes, bits_read_back}
use Rattle.memory_areas.proofs.area_laws.bits_are_kept.Goals as goal

pub returns : goal.returns
returns c = record { back = bits_read_back; bits = bits_leave_bits; bytes = bits_leave_bytes }
