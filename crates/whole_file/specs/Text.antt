-- Texts in files: the text, and zeros up to whole sectors.
use Rattle.std.specs.Prelude.{◌≡◌, ℕ, zero, suc, ◌+◌, ◌-◌, ◌*◌, ◌/◌, ◌<◌, ◌==◌, if◌then◌else◌, List, [], ◌∷◌, ◌++◌, length, replicate, All, Some}
use Rattle.sd_names.specs.declared.place.Place.{Place}
use Rattle.shared_disk.specs.Content.{Content, File, seen, sector_of}
use Rattle.shared_disk.specs.Crash.{IsSettled}

-- the longest text, in bytes
abbrev pub longest : ℕ
longest = 8192

-- how many sectors a text of so many bytes takes
abbrev pub sectors_for : ℕ → ℕ
sectors_for n = (n + 511) / 512

-- a text, and zeros up to whole sectors
abbrev pub padded : List ℕ → List ℕ
padded text = text ++ replicate (512 * sectors_for (length text) - length text) 0

-- what stands before the first zero byte
abbrev pub before_zero : List ℕ → List ℕ
before_zero [] = []
before_zero (b ∷ bs) = if b == 0 then [] else b ∷ before_zero bs

-- the bytes of the first so many sectors
abbrev pub bytes_of : (ℕ → List ℕ) → ℕ → List ℕ
bytes_of sectors zero = []
bytes_of sectors (suc n) = bytes_of sectors n ++ sectors n

-- the text that a host sees in a file that no other host is writing: up to the first zero byte, or to the file's end
abbrev pub text_of : ℕ → File → List ℕ
text_of host f = before_zero (bytes_of (seen host f) f.size)

-- no byte of the text is zero
abbrev pub HasNoZero : List ℕ → Type 0
HasNoZero text = All (λ b. 0 < b) text

-- the file has the text, then zeros to its end, and nothing in it is unsynced
pub record IsTextFile (text : List ℕ) (f : File) : Type 0 where
  pub size : f.size ≡ sectors_for (length text)
  pub sectors : (k : ℕ) → k < f.size → f.stable k ≡ sector_of (padded text) k
  pub settled : IsSettled f

-- the folder has the text at a place, on the medium
abbrev pub HasText : Content → Place → List ℕ → Type 0
HasText d place text = (f : File) × (d.file place ≡ Some f) × IsTextFile text f
