-- What a small file reads as.
use Rattle.std.specs.Prelude.{◌≡◌, ℕ, ◌<◌, ◌≤◌, nat_lt, if◌then◌else◌, List, [], length, take, Some, None, Result, Ok, Err}
use Rattle.sd_names.specs.declared.place.Place.{Place}
use Rattle.sd_names.specs.declared.refusal.Refusal.{Refusal}
use Rattle.sd_names.specs.declared.refusal.Refusal.TheVariants.{DiskFault}
use Rattle.shared_disk.specs.Content.{Content, File, without}
use Rattle.shared_disk.specs.Calls.{IsSame, ReadAt}
use Rattle.shared_disk.specs.Refusal.{refusal_of}
use Rattle.shared_disk.specs.declared.disk.DiskAnswer.{DiskAnswer}
use Rattle.shared_disk.specs.declared.disk.DiskAnswer.TheVariants.{NoFile}
use Rattle.whole_file.specs.Text.{before_zero, longest, text_of}
use Rattle.whole_file.specs.declared.read.Text.{Text}
use Rattle.whole_file.specs.declared.read.Text.TheVariants.{Absent, Long, Bytes}

-- the text that a host sees is this front of the room, or too long
abbrev pub IsText : Text → ℕ → File → List ℕ → Type 0
IsText Absent host f room = ⊥
IsText Long host f room = longest < length (text_of host f)
IsText (Bytes n) host f room = take n room ≡ text_of host f

-- a file that no other host is writing reads as its text
abbrev pub ReadsFile : Text → ℕ → Place → List ℕ → Content → Type 0
ReadsFile text host place room d = (f : File) × (d.file place ≡ Some f) × (without host f.loose ≡ [] → IsText text host f room)

-- What reading a small file answers; `faults` is the disk's count after it.
abbrev pub ReadsText : ℕ → Place → List ℕ → ℕ → Result Text Refusal → Content → Content → Type 0
ReadsText host place room faults (Ok Absent) d e = IsSame d e × (d.file place ≡ None)
ReadsText host place room faults (Ok Long) d e = IsSame d e × ReadsFile Long host place room d
ReadsText host place room faults (Ok (Bytes n)) d e = IsSame d e × ReadsFile (Bytes n) host place room d
ReadsText host place room faults (Err refusal) d e = IsSame d e × (refusal ≡ DiskFault faults)

-- the count of bytes is that of a text
abbrev pub IsShort : Text → Type 0
IsShort (Bytes n) = n ≤ longest
IsShort _ = Unit {0}

-- what the bytes that were read tell: how long the text before their first zero byte is, or that it is too long
abbrev pub text_read : List ℕ → Text
text_read bytes = if nat_lt longest (length (before_zero bytes)) then Long else Bytes (length (before_zero bytes))

-- What reading a small file answers, by what its call answered; `room` is the room after it, and `faults` the disk's count.
abbrev pub reading_answer : ℕ → List ℕ → Result ℕ DiskAnswer → Result Text Refusal
reading_answer faults room (Ok count) = Ok (text_read (take count room))
reading_answer faults room (Err NoFile) = Ok Absent
reading_answer faults room (Err answer) = Err (refusal_of answer faults)

-- The file's front is read by one call, whatever stands in the folder: some answer that fits the call, and what is
-- answered follows from it.
abbrev pub ReadsFront : ℕ → Place → ℕ → List ℕ → List ℕ → Result Text Refusal → Content → Content → Type 0
ReadsFront host place faults before after result d e =
    (answer : Result ℕ DiskAnswer) × ReadAt d host place 0 before after answer e × (result ≡ reading_answer faults after answer)
