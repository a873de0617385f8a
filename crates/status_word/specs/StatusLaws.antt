-- What follows of the definitions of the status word.
use Rattle.std.specs.Prelude.{◌≡◌, ◌≢◌, Bool}
use Rattle.status_word.specs.StatusBits.{StatusBits}
use Rattle.status_word.specs.Flags.{bits_of, flag_of, with_flag, word_of, from_word}
use Rattle.status_word.specs.declared.test.Flag.{Flag}

-- a flag that is put has the value given, and the others keep theirs
pub record PutIsGot : Type 0 where
  pub same : (f : Flag) (v : Bool) (s : StatusBits) → flag_of f (with_flag f v s) ≡ v
  pub other : (f g : Flag) (v : Bool) (s : StatusBits) → g ≢ f → flag_of g (with_flag f v s) ≡ flag_of g s

-- the flags that T STW stores are loaded by L STW, whatever the other flags are
abbrev pub StoredIsLoaded : Type 0
StoredIsLoaded = (s t : StatusBits) → word_of (from_word (bits_of (word_of s)) t) ≡ word_of s

-- T STW of what L STW has just loaded changes nothing
abbrev pub LoadedIsStored : Type 0
LoadedIsStored = (s : StatusBits) → from_word (bits_of (word_of s)) s ≡ s
