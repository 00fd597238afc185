-- How many sectors name an image.
use Rattle.std.specs.Prelude.{◌≡◌, ℕ, Some}
use Rattle.sd_names.specs.declared.id.Id.{Id}
use Rattle.shared_disk.specs.Content.{Content, File}
use Rattle.lease_area.specs.Hold.{leases_of}
use Rattle.lease_area.specs.Record.{IsImageSlot}
use Rattle.image_creating.specs.Sectors.{IsArea, IsNamedIn, Names}

-- at most one does
abbrev pub IsOnceIn : Id → File → Type 0
IsOnceIn image f = (j k : ℕ) → IsImageSlot j → IsImageSlot k → Names image (f.stable j) → Names image (f.stable k) → j ≡ k

-- none does but this one
abbrev pub IsOnlyAt : Id → ℕ → File → Type 0
IsOnlyAt image slot f = (k : ℕ) → IsImageSlot k → Names image (f.stable k) → k ≡ slot

-- so in a domain's leases file, which is whole, with nothing unsynced
abbrev pub HasOnce : Id → Id → Content → Type 0
HasOnce sd image d = (f : File) × (d.file (leases_of sd) ≡ Some f) × IsArea f × IsOnceIn image f

abbrev pub HasOnly : Id → Id → ℕ → Content → Type 0
HasOnly sd image slot d = (f : File) × (d.file (leases_of sd) ≡ Some f) × IsArea f × IsOnlyAt image slot f

-- some sector names the image
abbrev pub HasNamed : Id → Id → Content → Type 0
HasNamed sd image d = (f : File) × (d.file (leases_of sd) ≡ Some f) × IsArea f × IsNamedIn image f
