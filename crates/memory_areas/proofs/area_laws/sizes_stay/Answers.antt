use Rattle.memory_areas.proofs.AreaLaws.{bits_leave_sizes, bytes_leave_sizes, dwords_leave_sizes, words_leave_sizes}
use Rattle.memory_areas.proofs.area_laws.sizes_stay.Goals as goal

pub returns : goal.returns
returns c = record { bit = bits_leave_sizes; byte = bytes_leave_sizes; word = words_leave_sizes; dword = dwords_leave_sizes }
