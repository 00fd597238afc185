-- The steps along a path that begin or end: a raw volume's length, the begin of a layer, and the end of the path.
use Rattle.std.proofs.Common.{◌≡◌, ℕ, ◌+◌, ◌*◌, List, [], ◌∷◌, length, drop, Option, Some, None, Result, Ok, Err, refl, sym, ap, ◌∙◌, subst, inl, inr, arith, length-append}
use Rattle.std.specs.List.{Contains}
use Rattle.sd_names.specs.declared.absence.Absence.TheVariants as absence
use Rattle.sd_names.specs.declared.id.Id.{Id}
use Rattle.sd_names.specs.declared.kinds.Format.TheVariants as format
use Rattle.sd_names.specs.declared.refusal.Refusal.{Refusal}
use Rattle.sd_names.specs.declared.refusal.Refusal.TheVariants.{DiskFault, Vanished}
use Rattle.sd_names.specs.declared.turn.Turn.TheVariants.{More, Done, Ended}
use Rattle.shared_disk.specs.Calls.{HasLength}
use Rattle.shared_disk.specs.Content.{Content, File}
use Rattle.shared_disk.specs.Crash.{IsSettled}
use Rattle.shared_disk.specs.Step.{TurnFollows}
use Rattle.shared_disk.specs.declared.disk.DiskAnswer.{DiskAnswer}
use Rattle.shared_disk.specs.declared.disk.DiskAnswer.TheVariants.{NoFile, Exists, OutOfFile, NotEmpty, Failed}
use Rattle.shared_disk.proofs.Outcomes.{contains_here, contains_more}
use Rattle.volume_meta.specs.declared.record.VolumeRecord.{VolumeRecord}
use Rattle.qcow_layer.specs.Opening as layer
use Rattle.qcow_layer.specs.declared.opening.Opening.{Opening}
use Rattle.qcow_layer.proofs.Knowing.{seen_whole}
use Rattle.qcow_layer.proofs.Pieces.{same_file}
use Rattle.chain_model.specs.Chain.{path_of}
use Rattle.chain_model.specs.Folder.{Volumes}
use Rattle.chain_model.specs.Opening.{Check, Refuses, both, header, layer as layer_check}
use Rattle.chain_model.specs.Records.{Image, Records}
use Rattle.chain_model.proofs.LongerImages.{openable_kept}
use Rattle.chain_records.specs.Records.{ids_of, records_in}
use Rattle.chain_records.proofs.Opening.{opened_by_records}
use Rattle.chain_records.proofs.Opening.{same_records}
use Rattle.chain_gathering.specs.Knowing.{volumes_in}
use Rattle.chain_gathering.specs.declared.names.VolumeName.TheVariants.{Data}
use Rattle.volume_chain.specs.Chain.{IsOpenAs, dir_in, image_in, kind_of, layer_of, next_of, opened, place_in}
use Rattle.volume_chain.specs.Checking.{StageTurn}
use Rattle.volume_chain.specs.Knowing.{IsKnown, IsNextLayer, IsPassed, KnowsLayerFile, KnowsPath, StageKnows}
use Rattle.volume_chain.specs.Stages.{BeginsLayer, IsOpen, LengthOf, StageSteps}
use Rattle.volume_chain.specs.declared.chain.Chain.{Chain}
use Rattle.volume_chain.specs.declared.chain.Kind.TheVariants as kind
use Rattle.volume_chain.specs.declared.stages.Stage.TheVariants as stages
use Rattle.volume_chain.specs.declared.volumes.OpenVolume.{OpenVolume}
use Rattle.volume_chain.specs.declared.volumes.OpenVolume.TheVariants.{Raw}
use Rattle.volume_chain.proofs.Along.{along_snoc, next_begins}
use Rattle.volume_chain.proofs.Moves.{opened_is, raw_open, with_one}
use Rattle.volume_chain.proofs.PathChecks.{all_fine, none_refuses}
use Rattle.volume_chain.proofs.Shapes.{all_open, cow_next, raw_next}
use Rattle.volume_chain.proofs.Shown.{next_file, records_same, still_shown}
use Rattle.volume_chain.proofs.Steps.{same_steps}

-- what is known of fewer files that weren't asked
pub fewer_asked : (c : Chain) (host : ℕ) (x : Volumes) (rest less : List Id) (d : Content) → ((v : Id) → Contains less v → Contains rest v) → KnowsPath c host x rest d → KnowsPath c host x less d
fewer_asked c host x rest less d inside knows = record {
  settled = knows.settled;
  lengths = knows.lengths;
  shown = knows.shown;
  longer = knows.longer;
  same = λ v h. knows.same v (inside v h);
  shape = knows.shape;
  passed = knows.passed;
  known = knows.known;
}

-- one volume more is open, and known
pub path_more : (c : Chain) (v : Id) (o : OpenVolume) (host : ℕ) (x : Volumes) (d : Content) → next_of c ≡ Some v → IsOpenAs c.target v (records_in c.records v) o → IsPassed (image_in c.target) x v o
    → IsKnown c.target host d v o → KnowsPath c host x (drop (length c.volumes + 1) c.path) d → StageKnows (stages.Along (opened c o)) host x d
path_more c v o host x d next fits passed known knows =
    subst (λ (e : Chain). StageKnows (stages.Along e) host x d) (sym (opened_is c o v next)) (subst (λ (n : ℕ). KnowsPath (with_one c o) host x (drop n c.path) d) (sym (length-append c.volumes (o ∷ []))) (record {
      settled = knows.settled;
      lengths = knows.lengths;
      shown = knows.shown;
      longer = knows.longer;
      same = knows.same;
      shape = record {
        valid = knows.shape.valid;
        checked = knows.shape.checked;
        reading = knows.shape.reading;
        each = along_snoc _ c.path c.volumes v o next knows.shape.each fits;
      };
      passed = along_snoc (IsPassed (image_in c.target) x) c.path c.volumes v o next knows.passed passed;
      known = along_snoc (IsKnown c.target host d) c.path c.volumes v o next knows.known known;
    }))

-- the next volume's file is still as long as it was
next_same : (c : Chain) (v : Id) (host : ℕ) (x : Volumes) (d : Content) → next_of c ≡ Some v → KnowsPath c host x (drop (length c.volumes) c.path) d → d.file (place_in c.target v) ≡ x.file v
next_same c v host x d next knows =
    knows.same v (subst (λ (vs : List Id). Contains vs v) (sym (next_begins c.path (length c.volumes) v next)) (contains_here v (drop (length c.volumes + 1) c.path)))

rest_less : (c : Chain) (v : Id) (host : ℕ) (x : Volumes) (d : Content) → next_of c ≡ Some v → KnowsPath c host x (drop (length c.volumes) c.path) d
    → KnowsPath c host x (drop (length c.volumes + 1) c.path) d
rest_less c v host x d next knows =
    fewer_asked c host x (drop (length c.volumes) c.path) (drop (length c.volumes + 1) c.path) d
    (λ u h. subst (λ (vs : List Id). Contains vs u) (sym (next_begins c.path (length c.volumes) v next)) (contains_more v u (drop (length c.volumes + 1) c.path) h)) knows

-- ---- a raw volume

no_file : (o p : Option File) (f : File) → o ≡ None → o ≡ p → p ≡ Some f → ⊥
no_file o p f a b e = cc

pub raw_steps : (c : Chain) (v : Id) (host faults : ℕ) (turn : StageTurn) (d e : Content) → kind_of (records_in c.records) (next_of c) ≡ Some (kind.Raw v) → LengthOf c v faults turn d e
    → StageSteps (stages.Along c) host turn d e
raw_steps c v host faults turn d e k is = go is.0 is.1 is.2
  where
    next : next_of c ≡ Some v
    next = (raw_next (records_in c.records) (next_of c) v k).0

    known : (n : ℕ) (f : File) → d.file (place_in c.target v) ≡ Some f → n ≡ 512 * f.size → (x : Volumes) → KnowsPath c host x (drop (length c.volumes) c.path) d
        → StageKnows (stages.Along (opened c (Raw n))) host x d
    known n f there long x knows =
        let raw = (raw_next (records_in c.records) (next_of c) v k).1 in
        path_more c v (Raw n) host x d next (raw_open c v n (records_in c.records v) raw.0 raw.1 raw.2) (f, sym (next_same c v host x d next knows) ∙ there, long)
        (f, there, omega (arith, long)) (rest_less c v host x d next knows)

    gone : (x : Volumes) → d.file (place_in c.target v) ≡ None → KnowsPath c host x (drop (length c.volumes) c.path) d → ⊥
    gone x none knows = let file = next_file c host x _ d v knows next in no_file (d.file (place_in c.target v)) (x.file v) file.0 none (next_same c v host x d next knows) file.1

    go : (answer : Result ℕ DiskAnswer) → HasLength d (place_in c.target v) answer e → TurnFollows answer faults turn (λ n. turn ≡ More (stages.Along (opened c (Raw n))))
        → StageSteps (stages.Along c) host turn d e
    go (Ok n) has follows =
        subst (λ (t : StageTurn). StageSteps (stages.Along c) host t d e) (sym follows)
        (same_steps (stages.Along c) host (More (stages.Along (opened c (Raw n)))) d e has.0 tt (λ x knows. known n has.1 has.2 has.3 x knows))
    go (Err Failed) has follows =
        subst (λ (t : StageTurn). StageSteps (stages.Along c) host t d e) (sym follows)
        (same_steps (stages.Along c) host (Ended tt (DiskFault faults)) d e has tt (λ x knows. inl (faults, refl)))
    go (Err NoFile) has follows =
        subst (λ (t : StageTurn). StageSteps (stages.Along c) host t d e) (sym follows)
        (same_steps (stages.Along c) host (Ended tt (Vanished absence.NoFile)) d e has.0 (refl, λ shaped. inr (Data v, has.1)) (λ x knows. absurd (gone x has.1 knows)))
    go (Err Exists) has follows = absurd has
    go (Err OutOfFile) has follows = absurd has
    go (Err NotEmpty) has follows = absurd has

-- ---- a layer begins

pub begin_steps : (c : Chain) (v : Id) (capacity host : ℕ) (turn : StageTurn) (d : Content) → kind_of (records_in c.records) (next_of c) ≡ Some (kind.Cow v capacity) → BeginsLayer c v capacity turn
    → StageSteps (stages.Along c) host turn d d
begin_steps c v capacity host turn d k begins =
    subst (λ (t : StageTurn). StageSteps (stages.Along c) host t d d) (sym begins.2)
    (same_steps (stages.Along c) host (More (stages.Layer c o)) d d refl tt (λ x knows. (rest_less c v host x d cow.0 knows, next, file x knows)))
  where
    o : Opening
    o = begins.0

    cow : (next_of c ≡ Some v) × ((y : VolumeRecord) × (records_in c.records v ≡ Some y) × (y.format ≡ format.Cow) × (y.capacity ≡ capacity))
    cow = cow_next (records_in c.records) (next_of c) v capacity k

    target : layer.target_of o ≡ layer_of c.target v cow.1.0
    target = λ i. record { volume = begins.1.volume i; place = begins.1.place i; capacity = (begins.1.capacity ∙ sym cow.1.3) i; greatest = begins.1.greatest i }

    next : IsNextLayer c o
    next = record { volume = v; next = cow.0; says = cow.1.0; is = cow.1.1; cow = cow.1.2; target = target }

    file : (x : Volumes) → KnowsPath c host x (drop (length c.volumes) c.path) d → KnowsLayerFile o host x d
    file x knows =
        let f = next_file c host x _ d v knows cow.0 in
        let there : d.file (place_in c.target v) ≡ Some f.0 = next_same c v host x d cow.0 knows ∙ f.1 in
        let settled : IsSettled f.0 = knows.settled (Data v) f.0 there in
        let seen = seen_whole host (place_in c.target v) f.0 d settled there in (
          f.0,
          ap x.file begins.1.volume ∙ f.1,
          begins.1.knows host f.0.size f.0.stable d seen (ap (λ (g : File). g.size) (same_file d (place_in c.target v) seen.file f.0 seen.there there)),
        )

-- ---- the path is at its end

pub end_steps : (c : Chain) (host : ℕ) (d : Content) → kind_of (records_in c.records) (next_of c) ≡ None → StageSteps (stages.Along c) host (Done c) d d
end_steps c host d none = same_steps (stages.Along c) host (Done c) d d refl tt (λ x knows. (is_open x knows, knows.passed))
  where
    is_open : (x : Volumes) → KnowsPath c host x (drop (length c.volumes) c.path) d → IsOpen c host d
    is_open x knows = record {
      settled = knows.settled;
      volume = knows.shape.reading.0;
      below = knows.shape.reading.1;
      openable = openable_kept i x y knows.shape.reading.0 knows.shape.reading.1 knows.longer (opened_by_records i x c.records knows.shape.reading.0 knows.shape.reading.1 knows.shown knows.shape.checked knows.shape.reading.2 fine);
      path = knows.shape.reading.3 ∙ ap (λ (r : Records). path_of r knows.shape.reading.0 knows.shape.reading.1) (sym (records_same i x y knows.longer ∙ same_records (image_in c.target) x c.records knows.shown.read));
      knows = record { shown = still_shown i x y c.records knows.longer knows.shown; shape = knows.shape; all = all; known = knows.known };
    }
      where
        i : Image
        i = image_in c.target

        y : Volumes
        y = volumes_in (dir_in c.target) d

        all : length c.volumes ≡ length c.path
        all = all_open c knows.shape none

        fine : (k : Check) → Contains (both layer_check header (path_of (records_in c.records) knows.shape.reading.0 knows.shape.reading.1)) k → (e : Refusal) → Refuses i x (ids_of c.records) k e → ⊥
        fine =
            subst (λ (path : List Id). (k : Check) → Contains (both layer_check header path) k → (e : Refusal) → Refuses i x (ids_of c.records) k e → ⊥) knows.shape.reading.3
            (none_refuses i x (ids_of c.records) c.path c.volumes (all_fine c host x _ d knows) all)
