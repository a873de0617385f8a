-- How the call that reads an image answers.
use Rattle.std.specs.Prelude.{◌≡◌, Result, Err}
use Rattle.memory_areas.specs.Areas.{Contents}
use Rattle.image_text.specs.declared.refusal.ImageRefusal.{ImageRefusal}
use Rattle.image_text.specs.declared.refusal.ImageRefusal.TheVariants.{NoMemory}

-- the answer is the defined one, or memory ran out
abbrev pub Reads : Result Contents ImageRefusal → Result Contents ImageRefusal → Type 0
Reads (Err NoMemory) defined = Unit {0}
Reads answer defined = defined ≡ answer
