use Rattle.memory_areas.proofs.AreaLaws.{words_leave_bytes, words_read_back}
use Rattle.memory_areas.proofs.area_laws.words_are_kept.Goals as goal

pub returns : goal.returns
returns c = record { back = words_read_back; bytes = words_leave_bytes }
