-- The exit statuses of the program.
use Rattle.std.specs.Prelude.{ℕ}
use Rattle.command_answers.specs.declared.status.Status.{Status}
use Rattle.command_answers.specs.declared.status.Status.TheVariants.{Done, Refused, Usage, BadImage, BadCall, Faulted, Going, ReadFault, WriteFault, TooLong, NoMemory}

-- the number of a status
abbrev pub status_number : Status → ℕ
status_number Done = 0
status_number Refused = 1
status_number Usage = 2
status_number BadImage = 3
status_number BadCall = 4
status_number Faulted = 5
status_number Going = 6
status_number ReadFault = 7
status_number WriteFault = 8
status_number TooLong = 9
status_number NoMemory = 10
