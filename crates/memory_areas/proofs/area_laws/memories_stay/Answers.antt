use Rattle.memory_areas.proofs.AreaLaws.{bits_leave_memories, bytes_leave_memories, dwords_leave_memories, words_leave_memories}
use Rattle.memory_areas.proofs.area_laws.memories_stay.Goals as goal

pub returns : goal.returns
returns c = record { bit = bits_leave_memories; byte = bytes_leave_memories; word = words_leave_memories; dword = dwords_leave_memories }
