-- How a gathering goes on from what a call of the disk answered.
use Rattle.std.specs.Prelude.{◌≡◌, ◌⊎◌, ℕ, ◌+◌, ◌-◌, ◌^◌, min, nat_lt, if◌then◌else◌, List, take, Option, Some, None, Result, Ok, Err, MatchResult}
use Rattle.sd_names.specs.Place.{NameHasIds}
use Rattle.sd_names.specs.declared.absence.Absence.TheVariants as absence
use Rattle.sd_names.specs.declared.fault.VolumeFault.{VolumeFault}
use Rattle.sd_names.specs.declared.fault.VolumeFault.TheVariants.{TooLong}
use Rattle.sd_names.specs.declared.id.Id.{Id}
use Rattle.sd_names.specs.declared.place.Dir.{Dir}
use Rattle.sd_names.specs.declared.place.Dir.TheVariants as dir
use Rattle.sd_names.specs.declared.place.Name.{Name}
use Rattle.sd_names.specs.declared.place.Name.TheVariants as name
use Rattle.sd_names.specs.declared.refusal.Refusal.{Refusal}
use Rattle.sd_names.specs.declared.refusal.Refusal.TheVariants.{ChainTooLong, MetaCorrupt, OutOfMemory, Vanished}
use Rattle.sd_names.specs.declared.turn.Turn.{Turn}
use Rattle.sd_names.specs.declared.turn.Turn.TheVariants.{More, Done, Ended}
use Rattle.shared_disk.specs.Calls.{IsSame, Syncs}
use Rattle.shared_disk.specs.Content.{Content}
use Rattle.shared_disk.specs.NameCalls.{NextName, place_in}
use Rattle.shared_disk.specs.Step.{TurnFollows}
use Rattle.shared_disk.specs.declared.disk.DiskAnswer.{DiskAnswer}
use Rattle.whole_file.specs.Read.{ReadsText}
use Rattle.whole_file.specs.declared.read.Text.{Text as TextRead}
use Rattle.whole_file.specs.declared.read.Text.TheVariants as read
use Rattle.volume_meta.specs.Read.{read_volume}
use Rattle.volume_meta.specs.declared.record.VolumeRecord.{VolumeRecord}
use Rattle.chain_model.specs.Records.{Image}
use Rattle.chain_gathering.specs.Kept.{kept_with, noted}
use Rattle.chain_gathering.specs.Names.{name_of, volume_name}
use Rattle.chain_gathering.specs.declared.gathered.Gathered.{Gathered}
use Rattle.chain_gathering.specs.declared.gathering.Gathering.{Gathering}
use Rattle.chain_gathering.specs.declared.names.VolumeName.{VolumeName}
use Rattle.chain_gathering.specs.declared.names.VolumeName.TheVariants.{Data, Text}
use Rattle.chain_gathering.specs.declared.stages.Seen.{Seen}
use Rattle.chain_gathering.specs.declared.stages.Stage.{Stage}
use Rattle.chain_gathering.specs.declared.stages.Stage.TheVariants.{Listing, Syncing, Reading}
use Rattle.chain_gathering.specs.declared.stages.Target.{Target}

abbrev pub GatheringTurn : Type 0
GatheringTurn = Turn Gathering Gathered (Unit {0})

-- the image's folder
abbrev pub dir_in : Target → Dir
dir_in t = dir.Image t.sd t.image

abbrev pub image_in : Target → Image
image_in t = record { domain = t.sd; id = t.image; version = t.version }

abbrev pub at_stage : Gathering → Stage → Gathering
at_stage g s = record { alloc = g.alloc; target = g.target; kept = g.kept; stage = s }

-- a volume's file or text comes next and is to be synced; any other name is passed
abbrev pub met_stage : Seen → Name → Option VolumeName → Stage
met_stage seen n None = Listing (record { after = Some n; file = seen.file; count = seen.count })
met_stage seen n (Some o) = Syncing seen o

-- all names were listed: there are too many texts, or they are read
abbrev pub listed : Gathering → Seen → GatheringTurn
listed g seen = if nat_lt 32 seen.count then Ended tt (ChainTooLong seen.count) else More (at_stage g Reading)

abbrev pub MeetsNext : Gathering → Seen → GatheringTurn → Option Name → Type 0
MeetsNext g seen turn None = turn ≡ listed g seen
MeetsNext g seen turn (Some n) = NameHasIds n × (turn ≡ More (at_stage g (met_stage seen n (volume_name n))))

-- a listing is one call, whose answer decides the turn
abbrev pub Lists : Gathering → Seen → ℕ → GatheringTurn → Content → Content → Type 0
Lists g seen faults turn d e =
    (answer : Result (Option Name) DiskAnswer) × NextName d (dir_in g.target) seen.after answer e × TurnFollows answer faults turn (MeetsNext g seen turn)

-- a file was synced: a volume's own file is the last one that was listed, and the volume of a text is found
abbrev pub after_sync : Gathering → Seen → VolumeName → Gathering
after_sync g seen (Data v) = at_stage g (Listing (record { after = Some (name.Volume v); file = Some v; count = seen.count }))
after_sync g seen (Text v) = record {
  alloc = g.alloc;
  target = g.target;
  kept = record { found = noted g.kept.found v seen.file; records = g.kept.records };
  stage = Listing (record { after = Some (name.Meta v); file = seen.file; count = min (seen.count + 1) (2 ^ 64 - 1) });
}

abbrev pub SyncsFile : Gathering → Seen → VolumeName → ℕ → ℕ → GatheringTurn → Content → Content → Type 0
SyncsFile g seen o host faults turn d e =
    (answer : Result (Unit {0}) DiskAnswer) × Syncs d host (place_in (dir_in g.target) (name_of o)) answer e
    × TurnFollows answer faults turn (λ _. turn ≡ More (after_sync g seen o))

-- the text of a volume was read: its record is kept, for which there may be no memory, or its fault is told
abbrev pub KeepsRecord : Gathering → Id → Result VolumeRecord VolumeFault → GatheringTurn → Type 0
KeepsRecord g v (Ok x) turn =
    (turn ≡ Ended tt OutOfMemory) ⊎ (turn ≡ More (record { alloc = g.alloc; target = g.target; kept = kept_with g.kept v x; stage = Reading }))
KeepsRecord g v (Err fault) turn = turn ≡ Ended tt (MetaCorrupt v fault)

abbrev pub KeepsText : Gathering → Id → List ℕ → GatheringTurn → TextRead → Type 0
KeepsText g v room turn read.Absent = turn ≡ Ended tt (Vanished absence.NoFile)
KeepsText g v room turn read.Long = turn ≡ Ended tt (MetaCorrupt v TooLong)
KeepsText g v room turn (read.Bytes n) = KeepsRecord g v (read_volume g.target.version g.target.sd g.target.image (take n room)) turn

-- nothing is left to read, or a text is read by one call
abbrev pub ReadsNext : Gathering → Option Id → ℕ → ℕ → GatheringTurn → Content → Content → Type 0
ReadsNext g None host faults turn d e = IsSame d e × (turn ≡ Done g.kept)
ReadsNext g (Some v) host faults turn d e =
    (result : Result TextRead Refusal) × (room : List ℕ) × ReadsText host (place_in (dir_in g.target) (name.Meta v)) room faults result d e
    × MatchResult result (KeepsText g v room turn) (λ refusal. turn ≡ Ended tt refusal)
