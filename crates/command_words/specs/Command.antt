-- What the program's arguments mean. They are a command with its bound, its call and the name of its image or with a
-- number of networks, or none.
-- Held against: this project's own commands.
use Rattle.std.specs.Prelude.{◌≡◌, ℕ, ◌≤◌, ◌-◌, ◌^◌, List, [], ◌∷◌, map, Option, Some, None, String, string_bytes, option_map, option_and_then, Result, Ok, Err, codes, if◌then◌else◌}
use Rattle.std.specs.Str.{bytes_eq}
use Rattle.memory_areas.specs.declared.call.Call.{Call}
use Rattle.command_words.specs.CallWord.{number_in, call_meant}
use Rattle.command_words.specs.declared.command.Command.{Command}
use Rattle.command_words.specs.declared.command.Command.TheVariants.{Translate, Check, RunStl, RunSt, Demo}
use Rattle.command_words.specs.declared.command.WordsRefusal.{WordsRefusal}
use Rattle.command_words.specs.declared.command.WordsRefusal.TheVariants.{Usage, NoMemory}

-- how many steps or units a run may take: one to twenty digits, below 2^64
abbrev pub steps_meant : List ℕ → Option ℕ
steps_meant word = number_in 20 (2 ^ 64 - 1) word

-- the bound and the call of a run, by the words of both and of its image
unfoldable pub run_with : List ℕ → List ℕ → List ℕ → Option (ℕ × Call)
run_with steps call image =
    if bytes_eq image [] then None
    else option_and_then (λ number. option_map (λ block. (number, block)) (call_meant call)) (steps_meant steps)

-- a run by the arguments after `run-stl` or `run-st`
abbrev pub run_meant : List (List ℕ) → Option (ℕ × Call)
run_meant [] = None
run_meant (a ∷ []) = None
run_meant (a ∷ b ∷ []) = None
run_meant (steps ∷ call ∷ image ∷ []) = run_with steps call image
run_meant (a ∷ b ∷ c ∷ d ∷ rest) = None

-- how many networks a demo has: one to five digits, at most 50,000
abbrev pub networks_meant : List ℕ → Option ℕ
networks_meant word = number_in 5 50000 word

-- how many networks by the arguments after `demo`
abbrev pub demo_meant : List (List ℕ) → Option ℕ
demo_meant [] = None
demo_meant (networks ∷ []) = networks_meant networks
demo_meant (a ∷ b ∷ rest) = None

-- a command of one argument
abbrev pub word_meant : List ℕ → Option Command
word_meant word =
    if bytes_eq word (codes "translate") then Some Translate
    else if bytes_eq word (codes "check") then Some Check
    else None

-- the command that arguments mean, if they are one; the first is compared exactly, case counts
abbrev pub command_meant : List (List ℕ) → Option Command
command_meant [] = None
command_meant (word ∷ []) = word_meant word
command_meant (word ∷ a ∷ rest) =
    if bytes_eq word (codes "demo") then option_map Demo (demo_meant (a ∷ rest))
    else if bytes_eq word (codes "run-stl") then option_map (λ run. RunStl run.0 run.1) (run_meant (a ∷ rest))
    else if bytes_eq word (codes "run-st") then option_map (λ run. RunSt run.0 run.1) (run_meant (a ∷ rest))
    else None

-- the command that the arguments of the program ask for
abbrev pub command_of_words : {A : Type 0} → List (String A) → Option Command
command_of_words {A = A} words = command_meant (map (λ (word : String A). string_bytes word) words)

-- the answer is the command meant, or Usage exactly where there is none; or memory ran out
abbrev pub Means : Option Command → Result Command WordsRefusal → Type 0
Means meant (Ok command) = meant ≡ Some command
Means meant (Err Usage) = meant ≡ None
Means meant (Err NoMemory) = Unit {0}

-- a demo has at most 50,000 networks
abbrev pub HasFewNetworks : Command → Type 0
HasFewNetworks (Demo networks) = networks ≤ 50000
HasFewNetworks command = Unit {0}

-- the name of the image's file: the fourth argument, where there are four
abbrev pub image_meant : List (List ℕ) → Option (List ℕ)
image_meant [] = None
image_meant (a ∷ []) = None
image_meant (a ∷ b ∷ []) = None
image_meant (a ∷ b ∷ c ∷ []) = None
image_meant (a ∷ b ∷ c ∷ d ∷ []) = Some d
image_meant (a ∷ b ∷ c ∷ d ∷ e ∷ rest) = None
