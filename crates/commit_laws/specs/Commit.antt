-- A commit: bytes that a volume itself holds are laid over the parent of it that counts.
use Rattle.std.specs.Prelude.{◌≡◌, ℕ, ◌+◌, ◌<◌, ◌≤◌, true, Some, None}
use Rattle.sd_names.specs.declared.id.Id.{Id}
use Rattle.shared_disk.specs.Calls.{sectors_in}
use Rattle.chain_model.specs.Folder.{Volumes}
use Rattle.chain_model.specs.Flat.{IsSectorOf}
use Rattle.chain_model.specs.Own.{own}
use Rattle.chain_model.specs.Records.{is_legal}
use Rattle.chain_records.specs.Settling.{IsOver}
use Rattle.chain_laws.specs.Laid.{IsInPart, Laying, Part, sector_in_part}

-- The part is laid over the base, which is the parent that counts of the top, a LEGAL volume.
pub record IsCommit (l : Laying) (top : Id) : Type 0 where
  pub over : IsOver l.records top l.volume
  pub legal : is_legal l.records top ≡ true

-- the top itself holds each sector of the part, as the part has it
abbrev pub IsHeldBy : Laying → Id → Volumes → Type 0
IsHeldBy l top x = (k : ℕ) → IsInPart l.part k → own l.records x top k ≡ Some (sector_in_part l.part k)

-- A piece of a part: some of its sectors, as the part has them.
pub record IsPieceOf (p whole : Part) : Type 0 where
  pub from : whole.at ≤ p.at
  pub end : p.at + sectors_in p.bytes ≤ whole.at + sectors_in whole.bytes
  pub same : (k : ℕ) → IsInPart p k → sector_in_part p k ≡ sector_in_part whole k

-- A piece of the part is laid over the same volume, which reads as it did where it holds nothing itself.
pub record IsPieceLaid (l whole : Laying) (x : Volumes) : Type 0 where
  pub records : l.records ≡ whole.records
  pub volume : l.volume ≡ whole.volume
  pub piece : IsPieceOf l.part whole.part
  pub reads : (k : ℕ) → own whole.records x whole.volume k ≡ None → l.reads k ≡ whole.reads k

-- the volume holds the part's sectors below this one
abbrev pub HoldsTo : Laying → ℕ → Volumes → Type 0
HoldsTo l end x = (k : ℕ) → k < end → IsInPart l.part k → IsSectorOf l.records l.volume k → own l.records x l.volume k ≡ Some (sector_in_part l.part k)
