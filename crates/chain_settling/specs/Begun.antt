-- The rewriting of a volume's text, as it begins.
use Rattle.std.specs.Prelude.{◌≡◌, ℕ, List, Some}
use Rattle.sd_names.specs.declared.id.Id.{Id}
use Rattle.sd_names.specs.declared.turn.Turn.{Turn}
use Rattle.sd_names.specs.declared.turn.Turn.TheVariants.{More, Done}
use Rattle.shared_disk.specs.Content.{Content}
use Rattle.volume_meta.specs.declared.record.VolumeRecord.{VolumeRecord}
use Rattle.volume_texts.specs.Write.{Knows, WriteSteps, file_of, new_place, stage_of, text_place, version_of as write_version, volatile_of}
use Rattle.volume_texts.specs.declared.write.TextWrite.{TextWrite}
use Rattle.whole_file.specs.declared.replace.Stage.TheVariants.{Begun}
use Rattle.chain_records.specs.Records.{files_of, ids_of, records_in}
use Rattle.chain_records.specs.Rewriting.{changed}
use Rattle.chain_records.specs.declared.volume.Volume.{Volume}
use Rattle.volume_chain.specs.Chain.{records_kept}
use Rattle.volume_chain.specs.Parts.{version_of, with_records}
use Rattle.volume_chain.specs.declared.chain.Chain.{Chain}
use Rattle.chain_settling.specs.Was.{folder_in}
use Rattle.chain_settling.specs.Work.{changed_to, record_at}
use Rattle.chain_settling.specs.Fit.{StageTurn}
use Rattle.chain_settling.specs.declared.stages.Part.{Part}
use Rattle.chain_settling.specs.declared.stages.Part.TheVariants.{Parents, Types}
use Rattle.chain_settling.specs.declared.stages.Stage.{Stage}
use Rattle.chain_settling.specs.declared.stages.Stage.TheVariants.{Texts, Writing}
use Rattle.chain_settling.specs.declared.texts.Change.{Change}

-- The volume's record is changed as it is kept, and a write of its text begins.
pub record IsBegunText (c : Chain) (p : Part) (i : ℕ) (v : Id) (change : Change) (s : Stage) : Type 0 where
  pub kept : List Volume
  pub write : TextWrite
  pub stage : s ≡ Writing (with_records c kept) p i write
  pub ids : ids_of kept ≡ ids_of (records_kept c)
  pub files : files_of kept ≡ files_of (records_kept c)
  pub records : (u : Id) → records_in kept u ≡ changed v (changed_to change) (records_in (records_kept c)) u
  pub says : VolumeRecord
  pub is : records_in kept v ≡ Some says
  pub file : file_of write ≡ text_place (folder_in c) v
  pub volatile : volatile_of write ≡ new_place (folder_in c) v
  pub version : write_version write ≡ version_of c
  pub begun : stage_of write ≡ Begun

-- what a step of the write of the record at a place leaves
abbrev pub WritesRecord : Chain → ℕ → TextWrite → ℕ → ℕ → Turn TextWrite (Unit {0}) (Unit {0}) → Content → Content → Type 0
WritesRecord c i w host faults turn d e = (y : VolumeRecord) → record_at c i ≡ Some y → Knows w host y d → WriteSteps w host faults y turn d e

-- the list has ended: VOLTYPEs follow behind parents, and behind those the chain is settled
abbrev pub IsEndTurn : Chain → Part → StageTurn → Type 0
IsEndTurn c Parents turn = turn ≡ More (Texts c Types 0)
IsEndTurn c Types turn = turn ≡ Done c
