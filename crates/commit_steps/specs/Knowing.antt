-- What is known of an image while a cluster is committed, before a piece of it is written and behind it.
use Rattle.std.specs.Prelude.{◌≡◌, ℕ, ◌+◌, List, Contains, Some, unwrap_or}
use Rattle.sd_names.specs.declared.id.Id.{Id}
use Rattle.shared_disk.specs.Calls.{sectors_in}
use Rattle.shared_disk.specs.Content.{Content, File}
use Rattle.shared_disk.specs.Crash.{IsSettled}
use Rattle.sd_names.specs.declared.place.Name.TheVariants.{Volume}
use Rattle.volume_meta.specs.declared.record.VolumeRecord.{VolumeRecord}
use Rattle.chain_model.specs.Chain.{IsBelow}
use Rattle.chain_model.specs.Folder.{Folder, OnEachFolder, Volumes, folder_of, volumes_of}
use Rattle.chain_model.specs.Own.{own}
use Rattle.chain_laws.specs.Laid.{IsInPart, Laying, Reads, sector_in_part}
use Rattle.chain_laws.specs.Written.{ComesWritten}
use Rattle.chain_gathering.specs.Knowing.{AreSettled}
use Rattle.commit_laws.specs.Commit.{HoldsTo, IsCommit, IsPieceLaid}
use Rattle.volume_chain.specs.Chain.{dir_in, path_in, records_kept, target_of}
use Rattle.volume_chain.specs.Knowing.{KnowsChain}
use Rattle.volume_chain.specs.declared.chain.Chain.{Chain}
use Rattle.volume_chain.specs.declared.subchain.Subchain.{Subchain}
use Rattle.chain_reading.specs.Knowing.{records_of}
use Rattle.commit_reading.specs.Pieces.{end_in, first_in, first_of, front, width_in}
use Rattle.commit_reading.specs.declared.pieces.Pieces.{Pieces}

-- The part is all sectors of the cluster that both volumes have, laid over the base, a volume of the path.
pub record IsCommitOf (l : Laying) (c : Chain) (sub : Subchain) (cluster : ℕ) (x : VolumeRecord) : Type 0 where
  pub records : l.records ≡ records_of c
  pub volume : l.volume ≡ sub.base
  pub says : l.records l.volume ≡ Some x
  pub path : Contains (path_in c) l.volume
  pub commit : IsCommit l sub.top
  pub below : IsBelow l.records l.volume l.below
  pub from : l.part.at ≡ first_in c sub cluster
  pub to : l.part.at + sectors_in l.part.bytes ≡ end_in c sub cluster

-- where the top holds a sector of the part, the part has it so
abbrev pub IsAsHeld : Laying → Id → Volumes → Type 0
IsAsHeld l top x = (k : ℕ) (s : List ℕ) → IsInPart l.part k → own l.records x top k ≡ Some s → s ≡ sector_in_part l.part k

-- The folder in which the commit began: nothing was unsynced in its volumes' files, the base read as it is said, and the part is as
-- the top held it.
pub record IsStart (l : Laying) (top : Id) (start : Folder) : Type 0 where
  pub settled : (v : Id) (f : File) → start (Volume v) ≡ Some f → IsSettled f
  pub reads : OnEachFolder start (λ O. Reads l l.reads (volumes_of O))
  pub held : OnEachFolder start (λ O. IsAsHeld l top (volumes_of O))

-- Between two pieces: the chain knows the image, in which nothing is unsynced; each outcome comes from one of the begin, over which
-- sectors of the part may be laid; and the base holds those below `from` on each.
pub record KnowsCommit (l : Laying) (c : Chain) (sub : Subchain) (cluster : ℕ) (x : VolumeRecord) (host : ℕ) (start : Folder) (from : ℕ) (d : Content) : Type 0 where
  pub of : IsCommitOf l c sub cluster x
  pub begun : IsStart l sub.top start
  pub chain : KnowsChain c host d
  pub settled : AreSettled (dir_in (target_of c)) d
  pub comes : ComesWritten l start (folder_of (dir_in (target_of c)) d)
  pub laid : OnEachFolder (folder_of (dir_in (target_of c)) d) (λ O. HoldsTo l from (volumes_of O))

-- The next piece as a part that is laid over the base, which holds what it holds in these volumes, and else reads as at the begin.
abbrev pub piece_of : Laying → Volumes → Pieces → List ℕ → Laying
piece_of l x p part = record l { reads = λ k. unwrap_or (own l.records x l.volume k) (l.reads k); part = record { at = first_of p; bytes = front p part } }

-- on each outcome of the folder it is a piece of the whole part
abbrev pub AreLaid : Laying → Laying → Folder → Type 0
AreLaid piece l F = OnEachFolder F (λ O. IsPieceLaid piece l (volumes_of O))

-- another chain of the same image, whose top has clusters as large: so a write of the base leaves it
pub record IsSameFor (sub : Subchain) (c next : Chain) : Type 0 where
  pub target : target_of next ≡ target_of c
  pub path : path_in next ≡ path_in c
  pub records : records_kept next ≡ records_kept c
  pub width : width_in next sub.top ≡ width_in c sub.top
