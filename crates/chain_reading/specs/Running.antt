-- Sectors that stand side by side in a volume's file, and their read.
use Rattle.std.specs.Prelude.{◌≡◌, ℕ, ◌+◌, ◌-◌, ◌^◌, ◌<◌, ◌==◌, Bool, List, Some, Result, Ok, Err}
use Rattle.sd_names.specs.declared.place.Place.{Place}
use Rattle.sd_names.specs.declared.refusal.Refusal.{Refusal}
use Rattle.shared_disk.specs.Calls.{IsSame}
use Rattle.shared_disk.specs.Content.{Content, File, sector_of}
use Rattle.shared_disk.specs.Crash.{IsSettled}
use Rattle.image_model.specs.File.{sector_in}
use Rattle.qcow_layer.specs.Seen.{IsReadRefusal}
use Rattle.chain_reading.specs.declared.running.Run.{Run}

abbrev pub is_empty : Run → Bool
is_empty r = r.from == r.to

-- the sectors in front are those of the file, and zeros past its end
abbrev pub HasSectors : Run → File → List ℕ → Type 0
HasSectors r f bytes = (j : ℕ) → j < r.to - r.from → sector_of bytes j ≡ sector_in f.size f.stable (r.sector + j)

-- The read of a run: it changes nothing. Of a file in which nothing is unsynced it gives what is on the medium.
abbrev pub ReadsRun : ℕ → Place → Run → ℕ → Result (List ℕ) Refusal → Content → Content → Type 0
ReadsRun host place r faults (Ok bytes) d e =
    IsSame d e × ((f : File) → d.file place ≡ Some f → IsSettled f → r.sector < 2 ^ 55 → HasSectors r f bytes)
ReadsRun host place r faults (Err refusal) d e = IsSame d e × IsReadRefusal place faults refusal d
