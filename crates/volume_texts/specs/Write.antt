-- What a write of a volume's text knows, and what each of its steps leaves.
use Rattle.std.specs.Prelude.{◌≡◌, ◌⊎◌, ℕ, length, None}
use Rattle.sd_names.specs.declared.id.Id.{Id}
use Rattle.sd_names.specs.declared.place.Dir.{Dir}
use Rattle.sd_names.specs.declared.place.Name.TheVariants as name
use Rattle.sd_names.specs.declared.place.Place.{Place}
use Rattle.sd_names.specs.declared.refusal.Refusal.TheVariants.{DiskFault}
use Rattle.sd_names.specs.declared.turn.Turn.{Turn}
use Rattle.sd_names.specs.declared.turn.Turn.TheVariants.{More, Done, Ended}
use Rattle.shared_disk.specs.Content.{Content}
use Rattle.shared_disk.specs.Crash.{IsOutcome}
use Rattle.shared_disk.specs.NameCalls.{place_in}
use Rattle.volume_meta.specs.Text.{volume_text}
use Rattle.volume_meta.specs.declared.record.VolumeRecord.{VolumeRecord}
use Rattle.volume_texts.specs.Legible.{HasRecord, IsLegible}
use Rattle.volume_texts.specs.declared.write.TextWrite.{TextWrite}
use Rattle.whole_file.specs.Replace.{IsApart, IsLeft, IsSameReplace, length_of, replace_left, target_of}
use Rattle.whole_file.specs.Replace.{CallOf as ReplaceCall, Knows as KnowsReplace, stage_of as replace_stage, volatile_of as replace_volatile}
use Rattle.whole_file.specs.declared.replace.Replace.{Replace}
use Rattle.whole_file.specs.declared.replace.Stage.{Stage}

-- the file of a volume's text, and the one beside it that becomes it
abbrev pub text_place : Dir → Id → Place
text_place dir v = place_in dir (name.Meta v)

abbrev pub new_place : Dir → Id → Place
new_place dir v = place_in dir (name.MetaNew v)

-- a write: into which file, by way of which file beside it, by which version, and how far it is
abbrev pub file_of : TextWrite → Place
file_of w = target_of w.replace

abbrev pub volatile_of : TextWrite → Place
volatile_of w = replace_volatile w.replace

abbrev pub version_of : TextWrite → ℕ
version_of w = w.version

abbrev pub stage_of : TextWrite → Stage
stage_of w = replace_stage w.replace

abbrev pub write_left : TextWrite → ℕ
write_left w = replace_left w.replace

-- the write is of a text as long as that of this record
abbrev pub IsFor : VolumeRecord → TextWrite → Type 0
IsFor r w = length (volume_text w.version r) ≡ length_of w.replace

-- a write into the same file, by the same way and version, and of a text of the same length
pub record IsSameWrite (w next : TextWrite) : Type 0 where
  pub replace : IsSameReplace w.replace next.replace
  pub version : next.version ≡ w.version

-- what is known of the folder and of the file beside the text's, by the stage
abbrev pub Knows : TextWrite → ℕ → VolumeRecord → Content → Type 0
Knows w host r d = KnowsReplace w.replace host (volume_text w.version r) d

-- a turn of a write, as one of its replacement
abbrev pub replacing : Turn TextWrite (Unit {0}) (Unit {0}) → Turn Replace (Unit {0}) (Unit {0})
replacing (More w) = More w.replace
replacing (Done u) = Done u
replacing (Ended u refusal) = Ended u refusal

-- the call of a step, by its stage, whatever stands in the folder
abbrev pub CallOf : TextWrite → ℕ → ℕ → VolumeRecord → Turn TextWrite (Unit {0}) (Unit {0}) → Content → Content → Type 0
CallOf w host faults r turn d e = ReplaceCall (stage_of w) w.replace host faults (volume_text w.version r) (replacing turn) d e

-- the file is as it was, or its text reads as this record
abbrev pub IsOldOrSays : ℕ → Place → VolumeRecord → Content → Content → Type 0
IsOldOrSays version place r d e = (e.file place ≡ d.file place) ⊎ HasRecord version place r e

-- What crashes may leave at the place of the second folder: what they may leave there of the first one, or this record.
abbrev pub IsOldOrSaysOnEach : ℕ → Place → VolumeRecord → Content → Content → Type 0
IsOldOrSaysOnEach version place r d e =
    (o : Content) → IsOutcome e o → ((p : Content) × IsOutcome d p × (o.file place ≡ p.file place)) ⊎ HasRecord version place r o

-- What a step's turn tells; `faults` is the disk's count after the step. No refusal but the fault of the disk can come.
abbrev pub After : Turn TextWrite (Unit {0}) (Unit {0}) → TextWrite → ℕ → ℕ → VolumeRecord → Content → Content → Type 0
After (More next) w host faults r d e = Knows next host r e
After (Done _) w host faults r d e = (IsLegible r → HasRecord w.version (file_of w) r e) × (e.file (volatile_of w) ≡ None)
After (Ended _ refusal) w host faults r d e = (refusal ≡ DiskFault faults) × IsLeft host (volatile_of w) d e

-- What a step leaves of a folder of which the write knows what its stage says.
pub record WriteSteps (w : TextWrite) (host faults : ℕ) (r : VolumeRecord) (turn : Turn TextWrite (Unit {0}) (Unit {0})) (d e : Content) : Type 0 where
  pub apart : IsApart (file_of w) (volatile_of w) d e
  pub text : IsLegible r → IsOldOrSays w.version (file_of w) r d e
  pub outcomes : IsLegible r → IsOldOrSaysOnEach w.version (file_of w) r d e
  pub after : After turn w host faults r d e
