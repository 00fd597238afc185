-- The steps of the gathering, and the checks behind it.
use Rattle.std.proofs.Common.{◌≡◌, ◌⊎◌, ℕ, ◌*◌, ◌<◌, ◌^◌, List, [], Option, Some, None, refl, sym, ap, ◌∙◌, subst, inl, inr}
use Rattle.sd_names.specs.Turn.{MatchTurn}
use Rattle.sd_names.specs.declared.id.Id.{Id}
use Rattle.sd_names.specs.declared.place.Dir.{Dir}
use Rattle.sd_names.specs.declared.refusal.Refusal.{Refusal}
use Rattle.sd_names.specs.declared.refusal.Refusal.TheVariants.{ChainTooLong, DiskFault, MetaCorrupt, OutOfMemory, Vanished}
use Rattle.sd_names.specs.declared.turn.Turn.TheVariants.{More, Done, Ended}
use Rattle.shared_disk.specs.Calls.{synced}
use Rattle.shared_disk.specs.Content.{Content, File}
use Rattle.shared_disk.specs.Crash.{IsAlso}
use Rattle.shared_disk.specs.NameCalls as names
use Rattle.chain_model.specs.Folder.{Volumes}
use Rattle.chain_model.specs.Opening.{OpenFault}
use Rattle.chain_model.specs.Records.{Image}
use Rattle.chain_records.specs.Checks.{FirstIs, record_checks}
use Rattle.chain_records.specs.Paths.{IsReadingPath}
use Rattle.chain_records.specs.Records.{first_missing, ids_of, records_in}
use Rattle.chain_records.specs.Shown.{AreRead, IsShown}
use Rattle.chain_records.specs.declared.volume.Volume.{Volume}
use Rattle.chain_records.proofs.Opening.{refused_by_files, refused_by_records}
use Rattle.chain_gathering.specs.Gathering as gather
use Rattle.chain_gathering.specs.Kept.{AreValid}
use Rattle.chain_gathering.specs.Knowing.{AreSettled, IsFirst, IsGathered, volumes_in}
use Rattle.chain_gathering.specs.Names.{name_of}
use Rattle.chain_gathering.specs.Stages.{GatheringTurn}
use Rattle.chain_gathering.specs.Stages as gathering
use Rattle.chain_gathering.specs.Steps.{Gathers, IsKeptFile}
use Rattle.chain_gathering.specs.Steps as steps
use Rattle.chain_gathering.specs.declared.gathered.Gathered.{Gathered}
use Rattle.chain_gathering.specs.declared.gathering.Gathering.{Gathering}
use Rattle.chain_gathering.specs.declared.stages.Stage as gathering_stages
use Rattle.chain_gathering.specs.declared.stages.Stage.TheVariants as gathering_stage
use Rattle.chain_gathering.specs.declared.names.VolumeName.TheVariants.{Data, Text}
use Rattle.chain_gathering.proofs.Records.{gathered_read}
use Rattle.volume_chain.specs.Chain.{IsShaped, dir_in, image_in, place_in}
use Rattle.volume_chain.specs.Checking.{IsChecked, IsCheckedBy, StageTurn, chain_along}
use Rattle.volume_chain.specs.Knowing.{HaveLengths, IsOfImage, StageKnows}
use Rattle.volume_chain.specs.Reached.{LacksMemory}
use Rattle.volume_chain.specs.Stages.{IsMissing, IsNoFile, IsRefused, KeepsShape, StageAfter, StageSteps}
use Rattle.volume_chain.specs.declared.stages.Stage.TheVariants as stages
use Rattle.volume_chain.specs.declared.chain.Target.{Target}
use Rattle.volume_chain.specs.declared.volumes.OpenVolume.{OpenVolume}
use Rattle.volume_chain.proofs.Begun.{still_image}
use Rattle.volume_chain.proofs.Checked.{records_no_file}
use Rattle.volume_chain.proofs.Gathered.{first_opens, longer_itself}
use Rattle.volume_chain.proofs.Reaches.{gather_lacks}

-- ---- what a step of the gathering leaves

-- a file that was kept or synced is as long as it was
kept_length : (host : ℕ) (a b : Option File) → IsAlso (IsKeptFile host) a b → ((f : File) → a ≡ Some f → 512 * f.size < 2 ^ 64) → (g : File) → b ≡ Some g → 512 * g.size < 2 ^ 64
kept_length host None None also fits g e = absurd cc
kept_length host None (Some h) also fits g e = absurd also
kept_length host (Some f) None also fits g e = absurd also
kept_length host (Some f) (Some h) also fits g e = let same : h ≡ g = cc in subst (λ (k : File). 512 * k.size < 2 ^ 64) same (go also)
  where
    go : (h ≡ f) ⊎ (h ≡ synced host f) → 512 * h.size < 2 ^ 64
    go (inl is) = subst (λ (k : File). 512 * k.size < 2 ^ 64) (sym is) (fits f refl)
    go (inr is) = subst (λ (k : File). 512 * k.size < 2 ^ 64) (sym is) (fits f refl)

still_lengths : (t : Target) (g : Gathering) (host : ℕ) (turn : GatheringTurn) (d e : Content) → IsOfImage t g → Gathers g host turn d e → HaveLengths t d → HaveLengths t e
still_lengths t g host turn d e of on lengths v f there =
    kept_length host (d.file (place_in t v)) (e.file (place_in t v))
    (subst (λ (q : Dir). IsAlso (IsKeptFile host) (d.file (names.place_in q (name_of (Data v)))) (e.file (names.place_in q (name_of (Data v))))) of.folder (on.files (Data v)))
    (λ k is. lengths v k is) f there

-- a step of the gathering keeps what it may, whatever the turn is that follows
framed : (t : Target) (vols : List OpenVolume) (g : Gathering) (host : ℕ) (told : GatheringTurn) (turn : StageTurn) (d e : Content) → Gathers g host told d e
    → MatchTurn turn (λ _. Unit {0}) (λ _. Unit {0}) (λ _ refusal. IsNoFile (stages.Gathering t vols g) d refusal)
    → ((x : Volumes) → StageKnows (stages.Gathering t vols g) host x d → StageAfter t host (volumes_in (dir_in t) e) turn e) → StageSteps (stages.Gathering t vols g) host turn d e
framed t vols g host told turn d e on gone after = record {
  dirs = on.dirs;
  files = λ shaped o.
      subst (λ (q : Dir). IsAlso (IsKeptFile host) (d.file (names.place_in q (name_of o))) (e.file (names.place_in q (name_of o)))) shaped.0.folder (on.files o);
  others = λ shaped q other. on.others q (λ o at. other o (at ∙ ap (λ (f : Dir). names.place_in f (name_of o)) shaped.0.folder));
  outcomes = on.outcomes;
  gone = gone;
  after = after;
}

-- ---- there is more to gather

pub more_gathers : (t : Target) (vols : List OpenVolume) (g next : Gathering) (host : ℕ) (d e : Content) → next.target ≡ g.target → (gather.HasValidRecords g → gather.HasValidRecords next)
    → Gathers g host (More next) d e → StageSteps (stages.Gathering t vols g) host (More (stages.Gathering t vols next)) d e
more_gathers t vols g next host d e same valid on =
    framed t vols g host (More next) (More (stages.Gathering t vols next)) d e on tt
    (λ x knows. (on.after knows.0, still_lengths t g host (More next) d e knows.2 on knows.1, still_image t g next same valid knows.2, knows.3))

-- ---- the gathering is refused

settled_of : (t : Target) (g : Gathering) (e : Content) → IsOfImage t g → AreSettled (gathering.dir_in g.target) e → AreSettled (dir_in t) e
settled_of t g e of settled = subst (λ (q : Dir). AreSettled q e) of.folder settled

first_of : (t : Target) (g : Gathering) (e : Content) (refusal : Refusal) → IsOfImage t g → IsFirst (gathering.image_in g.target) (volumes_in (gathering.dir_in g.target) e) refusal
    → OpenFault (image_in t) (volumes_in (dir_in t) e) refusal
first_of t g e refusal of first =
    first_opens (image_in t) (volumes_in (dir_in t) e) refusal
    (subst (λ (i : Image). IsFirst i (volumes_in (dir_in t) e) refusal) of.image
    (subst (λ (q : Dir). IsFirst (gathering.image_in g.target) (volumes_in q e) refusal) of.folder first))

lacks_of : (t : Target) (g : Gathering) (e : Content) → IsOfImage t g → LacksMemory (gathering.image_in g.target) (volumes_in (gathering.dir_in g.target) e) OutOfMemory → LacksMemory (image_in t) (volumes_in (dir_in t) e) OutOfMemory
lacks_of t g e of lacks =
    subst (λ (i : Image). LacksMemory i (volumes_in (dir_in t) e) OutOfMemory) of.image
    (subst (λ (q : Dir). LacksMemory (gathering.image_in g.target) (volumes_in q e) OutOfMemory) of.folder lacks)

refused_of : (t : Target) (g : Gathering) (host : ℕ) (d e : Content) (refusal : Refusal) → IsOfImage t g → gather.MayRefuse g refusal → gather.Knows g host d → Gathers g host (Ended tt refusal) d e
    → steps.IsRefused g.target g.kept refusal e → IsRefused t (volumes_in (dir_in t) e) refusal e
refused_of t g host d e (DiskFault n) of may knows on is = inl (n, refl)
refused_of t g host d e (ChainTooLong n) of may knows on is = inr (settled_of t g e of is.0, inr (first_of t g e (ChainTooLong n) of is.1))
refused_of t g host d e (MetaCorrupt v fault) of may knows on is = inr (settled_of t g e of is.0, inr (first_of t g e (MetaCorrupt v fault) of is.1))
refused_of t g host d e OutOfMemory of may knows on is = inr (settled_of t g e of is.0, inl (lacks_of t g e of (gather_lacks g.target g.kept host d e g.stage may knows on.files is.1)))
refused_of t g host d e _ of may knows on is = absurd is

missing_of : (g : Gathering) (stage : gathering_stages.Stage) (d : Content) → steps.IsGoneAt g.target g.kept stage d → IsMissing (gather.folder g) d
missing_of g (gathering_stage.Listing seen) d gone = inl gone
missing_of g (gathering_stage.Syncing seen o) d gone = inr (o, gone)
missing_of g gathering_stage.Reading d gone = inr (Text gone.0, gone.2)

no_file : (t : Target) (vols : List OpenVolume) (g : Gathering) (refusal : Refusal) (d : Content) → steps.IsGone g.target g.kept g.stage refusal d → IsNoFile (stages.Gathering t vols g) d refusal
no_file t vols g (Vanished a) d gone = (gone.0, λ shaped. subst (λ (q : Dir). IsMissing q d) shaped.0.folder (missing_of g g.stage d gone.1))
no_file t vols g _ d gone = tt

pub ended_gathers : (t : Target) (vols : List OpenVolume) (g : Gathering) (host : ℕ) (refusal : Refusal) (d e : Content) → gather.MayRefuse g refusal → Gathers g host (Ended tt refusal) d e
    → StageSteps (stages.Gathering t vols g) host (Ended tt refusal) d e
ended_gathers t vols g host refusal d e may on =
    framed t vols g host (Ended tt refusal) (Ended tt refusal) d e on (no_file t vols g refusal d on.gone) (λ x knows. refused_of t g host d e refusal knows.2 may knows.0 on (on.after knows.0))

-- ---- all was gathered, and the records are checked

read_of : (t : Target) (g : Gathering) (kept : Gathered) (e : Content) → IsOfImage t g → IsGathered g.target kept e → AreRead (image_in t) (volumes_in (dir_in t) e) kept.records
read_of t g kept e of is =
    subst (λ (i : Image). AreRead i (volumes_in (dir_in t) e) kept.records) of.image
    (subst (λ (q : Dir). AreRead (gathering.image_in g.target) (volumes_in q e) kept.records) of.folder (gathered_read g.target kept e is))

begins_path : (t : Target) (xs : List Volume) (path : List Id) (vols : List OpenVolume) (host : ℕ) (e : Content) → vols ≡ [] → AreValid xs → AreSettled (dir_in t) e → HaveLengths t e
    → IsShown (image_in t) (volumes_in (dir_in t) e) xs → FirstIs (records_in xs) (record_checks (ids_of xs)) None → IsReadingPath (records_in xs) path
    → StageKnows (stages.Along (chain_along t xs path vols)) host (volumes_in (dir_in t) e) e
begins_path t xs path vols host e empty valid settled lengths shown checked reading =
    subst (λ (os : List OpenVolume). StageKnows (stages.Along (chain_along t xs path os)) host (volumes_in (dir_in t) e) e) (sym empty) (record {
      settled = settled;
      lengths = lengths;
      shown = shown;
      longer = longer_itself (volumes_in (dir_in t) e);
      same = λ v h. refl;
      shape = record { valid = valid; checked = checked; reading = reading; each = tt };
      passed = tt;
      known = tt;
    })

pub done_gathers : (t : Target) (vols : List OpenVolume) (g : Gathering) (kept : Gathered) (host : ℕ) (turn : StageTurn) (d e : Content) → (gather.HasValidRecords g → AreValid kept.records)
    → Gathers g host (Done kept) d e → IsChecked t kept.records vols turn → StageSteps (stages.Gathering t vols g) host turn d e
done_gathers t vols g kept host turn d e valid on checked = framed t vols g host (Done kept) turn d e on (gone (first_missing kept.records) turn checked) after
  where
    gone : (o : Option Id) (turn : StageTurn) → IsCheckedBy t kept.records vols turn o → MatchTurn turn (λ _. Unit {0}) (λ _. Unit {0}) (λ _ refusal. IsNoFile (stages.Gathering t vols g) d refusal)
    gone (Some v) turn is = subst (λ (u : StageTurn). MatchTurn u (λ _. Unit {0}) (λ _. Unit {0}) (λ _ refusal. IsNoFile (stages.Gathering t vols g) d refusal)) (sym is) tt
    gone None turn (inl is) =
        subst (λ (u : StageTurn). MatchTurn u (λ _. Unit {0}) (λ _. Unit {0}) (λ _ refusal. IsNoFile (stages.Gathering t vols g) d refusal)) (sym is.2)
        (records_no_file (stages.Gathering t vols g) d (records_in kept.records) (record_checks (ids_of kept.records)) is.0 is.1)
    gone None turn (inr is) = subst (λ (u : StageTurn). MatchTurn u (λ _. Unit {0}) (λ _. Unit {0}) (λ _ refusal. IsNoFile (stages.Gathering t vols g) d refusal)) (sym is.3) tt

    y : Volumes
    y = volumes_in (dir_in t) e

    after : (x : Volumes) → StageKnows (stages.Gathering t vols g) host x d → StageAfter t host y turn e
    after x knows = go (first_missing kept.records) refl checked
      where
        gathered : IsGathered g.target kept e
        gathered = on.after knows.0

        settled : AreSettled (dir_in t) e
        settled = settled_of t g e knows.2 gathered.settled

        read : AreRead (image_in t) y kept.records
        read = read_of t g kept e knows.2 gathered

        go : (o : Option Id) → first_missing kept.records ≡ o → IsCheckedBy t kept.records vols turn o → StageAfter t host y turn e
        go (Some v) missing is =
            subst (λ (u : StageTurn). StageAfter t host y u e) (sym is) (inr (settled, inr (refused_by_files (image_in t) y kept.records v read missing)))
        go None missing (inl is) =
            subst (λ (u : StageTurn). StageAfter t host y u e) (sym is.2)
            (inr (settled, inr (refused_by_records (image_in t) y kept.records is.0 (record { read = read; there = missing }) is.1)))
        go None missing (inr is) =
            subst (λ (u : StageTurn). StageAfter t host y u e) (sym is.3)
            (begins_path t kept.records is.0 vols host e knows.3 (valid knows.2.valid) settled (still_lengths t g host (Done kept) d e knows.2 on knows.1) (record { read = read; there = missing }) is.1 is.2)

-- so a chain begins that fits, whatever the disk tells
pub done_shape : (t : Target) (vols : List OpenVolume) (g : Gathering) (kept : Gathered) (turn : StageTurn) → (gather.HasValidRecords g → AreValid kept.records) → IsChecked t kept.records vols turn
    → KeepsShape (stages.Gathering t vols g) turn
done_shape t vols g kept turn valid checked = go (first_missing kept.records) checked
  where
    go : (o : Option Id) → IsCheckedBy t kept.records vols turn o → KeepsShape (stages.Gathering t vols g) turn
    go (Some v) is = subst (λ (u : StageTurn). KeepsShape (stages.Gathering t vols g) u) (sym is) tt
    go None (inl is) = subst (λ (u : StageTurn). KeepsShape (stages.Gathering t vols g) u) (sym is.2) tt
    go None (inr is) = subst (λ (u : StageTurn). KeepsShape (stages.Gathering t vols g) u) (sym is.3) (
      refl,
      λ shaped. subst (λ (os : List OpenVolume). IsShaped (chain_along t kept.records is.0 os)) (sym shaped.2) (record { valid = valid shaped.0.valid; checked = is.1; reading = is.2; each = tt }),
    )
