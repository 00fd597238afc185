-- What an opening knows between its steps where volume files get longer: those whose length wasn't asked are taken as long as
-- they are then.
use Rattle.std.proofs.Common.{◌≡◌, ◌≢◌, ℕ, ◌+◌, List, ◌∷◌, length, drop, Option, Some, None, refl, sym, ap, ◌∙◌, subst, arith}
use Rattle.std.specs.Prelude.{unwrap_or}
use Rattle.std.specs.List.{Contains}
use Rattle.sd_names.specs.Id.{zero_id}
use Rattle.sd_names.specs.declared.fault.LayerFault.{LayerFault}
use Rattle.sd_names.specs.declared.id.Id.{Id}
use Rattle.sd_names.specs.declared.kinds.Format.TheVariants as format
use Rattle.sd_names.specs.declared.place.Place.{Place}
use Rattle.sd_names.specs.declared.refusal.Refusal.{Refusal}
use Rattle.sd_names.specs.declared.refusal.Refusal.TheVariants.{LayerRefused, WrongParent}
use Rattle.shared_disk.specs.Content.{Content, File}
use Rattle.shared_disk.specs.Crash.{IsAlso, IsSettled}
use Rattle.shared_disk.proofs.AtPlace.{also_some}
use Rattle.shared_disk.proofs.Outcomes.{contains_here, contains_more}
use Rattle.volume_meta.specs.declared.record.VolumeRecord.{VolumeRecord}
use Rattle.image_model.specs.File.{file_of}
use Rattle.image_model.specs.Soundness.{HasFault}
use Rattle.qcow_layer.specs.Opening as layer
use Rattle.qcow_layer.specs.Seen.{IsSeen}
use Rattle.qcow_layer.specs.Stages as layers
use Rattle.qcow_layer.specs.declared.opening.Opening.{Opening}
use Rattle.qcow_layer.specs.declared.stages.Stage as layer_stage
use Rattle.qcow_layer.specs.declared.stages.Stage.TheVariants.{Begun, Sized, Walking}
use Rattle.qcow_layer.proofs.Known.{survives}
use Rattle.qcow_layer.proofs.Knowing.{in_file, seen_whole, settled_alone, settled_seen}
use Rattle.qcow_layer.proofs.Pieces.{same_file}
use Rattle.chain_model.specs.Chain.{IsBelow}
use Rattle.chain_model.specs.Folder.{Volumes}
use Rattle.chain_model.specs.Growth.{AreLonger, IsLonger, MayGrow}
use Rattle.chain_model.specs.Headers.{backing_by_record}
use Rattle.chain_model.specs.Records.{Image, Records, records_of}
use Rattle.chain_model.specs.Up.{up_of}
use Rattle.chain_records.specs.Records.{records_in}
use Rattle.chain_gathering.specs.Knowing.{AreSettled, volumes_in}
use Rattle.chain_gathering.specs.declared.names.VolumeName.TheVariants.{Data, Text}
use Rattle.chain_gathering.proofs.Alike.{also_back, may_grow_state}
use Rattle.volume_chain.specs.Chain.{dir_in, image_in, place_in}
use Rattle.volume_chain.specs.Knowing.{HaveLengths, IsNextLayer, IsPassed, KnowsLayerFile, KnowsPath, StageKnows}
use Rattle.volume_chain.specs.Stages.{target_at}
use Rattle.volume_chain.specs.declared.chain.Chain.{Chain}
use Rattle.volume_chain.specs.declared.chain.Target.{Target}
use Rattle.volume_chain.specs.declared.stages.Stage.{Stage}
use Rattle.volume_chain.specs.declared.stages.Stage.TheVariants as stages
use Rattle.volume_chain.specs.declared.volumes.OpenVolume.{OpenVolume}
use Rattle.volume_chain.specs.declared.volumes.OpenVolume.TheVariants.{Raw, Cow}
use Rattle.volume_chain.proofs.Along.{next_begins}
use Rattle.volume_chain.proofs.Apart.{along_apart, next_apart, now_among, now_early, now_either, now_late, path_apart}
use Rattle.volume_chain.proofs.Between.{HasGrown, gather_on, place_is, volume_is}
use Rattle.volume_chain.proofs.Gathered.{longer_itself}
use Rattle.volume_chain.proofs.Shown.{still_shown}
use Rattle.volume_chain.proofs.Stays.{grown_layers, grown_lengths, grown_longer, known_on}

-- ---- files

longer_on : (f g h : File) → IsLonger f g → IsLonger g h → IsLonger f h
longer_on f g h a b = record { size = omega (arith, a.size, b.size); sectors = λ k. b.sectors k ∙ a.sectors k }

also_on : (a b c : Option File) → IsAlso IsLonger a b → IsAlso IsLonger b c → IsAlso IsLonger a c
also_on None None None p q = tt
also_on None None (Some h) p q = absurd q
also_on None (Some g) c p q = absurd p
also_on (Some f) None c p q = absurd p
also_on (Some f) (Some g) None p q = absurd q
also_on (Some f) (Some g) (Some h) p q = longer_on f g h p q

also_both : (a b : Option File) (f g : File) → IsAlso IsLonger a b → a ≡ Some f → b ≡ Some g → IsLonger f g
also_both a b f g also is there =
    let at : IsAlso IsLonger (Some f) b = subst (λ (o : Option File). IsAlso IsLonger o b) is also in
    subst (λ (o : Option File). IsAlso IsLonger (Some f) o) there at

still_settled : (t : Target) (d e : Content) → HasGrown t d e → AreSettled (dir_in t) d → AreSettled (dir_in t) e
still_settled t d e grown settled (Text v) f there = settled (Text v) f (sym (grown.text v) ∙ there)
still_settled t d e grown settled (Data v) g there =
    let back = also_back MayGrow (d.file (place_in t v)) (e.file (place_in t v)) g (grown.file v) there in
    (may_grow_state 0 back.0 g back.2).settled (settled (Data v) back.0 back.1)

-- ---- a volume that passed, with other files

abbrev with_files : Volumes → (Id → Option File) → Volumes
with_files x file = record { text = x.text; file = file }

abbrev IsBadFile : Records → Id → Refusal → Option File → Type 0
IsBadFile r v e o =
    (y : VolumeRecord) × (r v ≡ Some y) × (y.format ≡ format.Cow) × (f : File) × (o ≡ Some f)
    × (fault : LayerFault) × HasFault (file_of f.size f.stable) y.capacity fault × (e ≡ LayerRefused v fault)

abbrev IsBadNamed : Records → Id → Refusal → Id → Type 0
IsBadNamed r v e named =
    (y : VolumeRecord) × (r v ≡ Some y) × (y.format ≡ format.Cow) × (vs : List Id) × IsBelow r v vs
    × (named ≢ y.parent) × (named ≢ unwrap_or (up_of r vs) zero_id) × (e ≡ WrongParent v named)

passed_same : (i : Image) (x : Volumes) (file : Id → Option File) (v : Id) (o : OpenVolume) → file v ≡ x.file v → IsPassed i x v o → IsPassed i (with_files x file) v o
passed_same i x file v (Raw n) same passed = (passed.0, same ∙ passed.1, passed.2)
passed_same i x file v (Cow l) same passed = (
  λ e bad. passed.0 e (subst (λ (o : Option File). IsBadFile (records_of i x) v e o) same bad),
  λ e bad. passed.1 e (subst (λ (named : Id). IsBadNamed (records_of i x) v e named) (ap (λ (o : Option File). unwrap_or (backing_by_record (records_of i x v) o) zero_id) same) bad),
)

-- ---- along the path

module _ (c : Chain) (host : ℕ) (x : Volumes) (rest : List Id) (d e : Content) (grown : HasGrown c.target d e) (lengths : HaveLengths c.target e) (knows : KnowsPath c host x rest d) where
  abbrev files : Id → Option File
  files v = e.file (place_in c.target v)

  -- those files are as they are now
  abbrev pub now : List Id → Volumes
  now late = with_files x (now_among late files x.file)

  pub since : AreLonger x (volumes_in (dir_in c.target) e)
  since = record {
    text = λ v. grown.text v ∙ knows.longer.text v;
    file = λ v. also_on (x.file v) (d.file (place_in c.target v)) (e.file (place_in c.target v)) (knows.longer.file v) ((grown_longer c.target d e grown).file v);
  }

  pub now_longer : (late : List Id) → AreLonger x (now late)
  now_longer late = record { text = λ v. refl; file = λ v. now_either (λ (o : Option File). IsAlso IsLonger (x.file v) o) late files x.file v (since.file v) ((longer_itself x).file v) }

  pub path_grown : (late : List Id) → ((v : Id) → Contains rest v → Contains late v) → ((v : Id) → Contains late v → Contains (drop (length c.volumes) c.path) v) → KnowsPath c host (now late) rest e
  path_grown late wide early = record {
    settled = still_settled c.target d e grown knows.settled;
    lengths = lengths;
    shown = still_shown (image_in c.target) x (now late) c.records (now_longer late) knows.shown;
    longer = record {
      text = since.text;
      file = λ v. now_either (λ (o : Option File). IsAlso IsLonger o (files v)) late files x.file v ((longer_itself (volumes_in (dir_in c.target) e)).file v) (since.file v);
    };
    same = λ v h. sym (now_late late files x.file v (wide v h));
    shape = knows.shape;
    passed = along_apart (IsPassed (image_in c.target) x) (IsPassed (image_in c.target) (now late)) c.path c.volumes (path_apart (records_in c.records) c.path knows.shape.reading)
        (λ v o none p. passed_same (image_in c.target) x (now_among late files x.file) v o (now_early late files x.file v (λ h. none (early v h))) p) knows.passed;
    known = known_on c.target host d e (records_in c.records) c.path c.volumes (grown_layers c.target host d e grown lengths) (grown_lengths c.target d e grown) knows.shape.each knows.known;
  }

-- the file of the layer that is being opened, before its length is asked and behind that
module _ (c : Chain) (o : Opening) (host : ℕ) (x : Volumes) (d e : Content) (grown : HasGrown c.target d e) (lengths : HaveLengths c.target e)
    (knows : KnowsPath c host x (drop (length c.volumes + 1) c.path) d) (next : IsNextLayer c o) (file : KnowsLayerFile o host x d) where
  abbrev v : Id
  v = next.volume

  abbrev behind : List Id
  behind = drop (length c.volumes + 1) c.path

  abbrev from : List Id
  from = drop (length c.volumes) c.path

  begins : from ≡ v ∷ behind
  begins = next_begins c.path (length c.volumes) v next.next

  inside : (u : Id) → Contains behind u → Contains from u
  inside u h = subst (λ (vs : List Id). Contains vs u) (sym begins) (contains_more v u behind h)

  first : Contains from v
  first = subst (λ (vs : List Id). Contains vs v) (sym begins) (contains_here v behind)

  was_there : d.file (place_in c.target v) ≡ Some file.2.seen.file
  was_there = subst (λ (p : Place). d.file p ≡ Some file.2.seen.file) (place_is c o next) file.2.seen.there

  is_there : (g : File) × (e.file (place_in c.target v) ≡ Some g) × MayGrow file.2.seen.file g
  is_there = also_some MayGrow (d.file (place_in c.target v)) (e.file (place_in c.target v)) file.2.seen.file (grown.file v) was_there

  abbrev g : File
  g = is_there.0

  at_place : e.file (layer.target_of o).place ≡ Some g
  at_place = subst (λ (p : Place). e.file p ≡ Some g) (sym (place_is c o next)) is_there.1

  settled : IsSettled g
  settled = still_settled c.target d e grown knows.settled (Data v) g is_there.1

  whole : IsSeen host (layer.target_of o).place g.size g.stable e
  whole = seen_whole host (layer.target_of o).place g e settled at_place

  begun : o.stage ≡ Begun → KnowsLayerFile o host (now c host x behind d e grown lengths knows from) e
  begun is = (
    g,
    subst (λ (u : Id). now_among from (λ w. e.file (place_in c.target w)) x.file u ≡ Some g) (sym (volume_is c o next))
        (now_late from (λ w. e.file (place_in c.target w)) x.file v first ∙ is_there.1),
    subst (λ (s : layer_stage.Stage). layers.Knows (layer.target_of o) host g.size g.stable s e) (sym is)
        (record { seen = whole; holds = ap (λ (k : File). k.size) (same_file e (layer.target_of o).place whole.file g whole.there at_place) }),
  )

  was : x.file v ≡ Some file.0
  was = subst (λ (u : Id). x.file u ≡ Some file.0) (volume_is c o next) file.1

  longer : IsLonger file.0 g
  longer = also_both (x.file v) (e.file (place_in c.target v)) file.0 g ((since c host x behind d e grown lengths knows).file v) was is_there.1

  seen : IsSeen host (layer.target_of o).place file.0.size file.0.stable e
  seen = record {
    file = g;
    there = at_place;
    long = longer.size;
    alone = (settled_alone host g settled).loose;
    same = λ k lt. ap (λ (s : ℕ → List ℕ). s k) (settled_seen host g settled) ∙ sym (in_file g.size k g.stable lt) ∙ longer.sectors k;
  }

  asked : layer.SameLength o.stage file.2.seen.file.size g.size → KnowsLayerFile o host (now c host x behind d e grown lengths knows behind) e
  unfolding seen is_there
  asked same = (
    file.0,
    subst (λ (u : Id). now_among behind (λ w. e.file (place_in c.target w)) x.file u ≡ Some file.0) (sym (volume_is c o next))
        (now_early behind (λ w. e.file (place_in c.target w)) x.file v (next_apart c.path (length c.volumes) v (path_apart (records_in c.records) c.path knows.shape.reading) next.next) ∙ was),
    survives (layer.target_of o) host file.0.size file.0.stable o.stage d e file.2 seen same,
  )

  abbrev Goes : Type 0
  Goes = (y : Volumes) × AreLonger x y × StageKnows (stages.Layer c o) host y e

  goes : (late : List Id) → ((u : Id) → Contains behind u → Contains late u) → ((u : Id) → Contains late u → Contains from u) → KnowsLayerFile o host (now c host x behind d e grown lengths knows late) e → Goes
  goes late wide early still = (
    now c host x behind d e grown lengths knows late,
    now_longer c host x behind d e grown lengths knows late,
    (path_grown c host x behind d e grown lengths knows late wide early, next, still),
  )

  pub layer_grown : Goes
  layer_grown = go o.stage refl
    where
      go : (s : layer_stage.Stage) → o.stage ≡ s → Goes
      go Begun is = goes from inside (λ u h. h) (begun is)
      go (Sized length) is = goes behind (λ u h. h) inside (asked (subst (λ (s : layer_stage.Stage). layer.SameLength s file.2.seen.file.size g.size) (sym is) tt))
      go (Walking w) is = goes behind (λ u h. h) inside (asked (subst (λ (s : layer_stage.Stage). layer.SameLength s file.2.seen.file.size g.size) (sym is) tt))

pub stage_grown : (s : Stage) (host : ℕ) (x : Volumes) (d e : Content) → e.dir (dir_in (target_at s)) ≡ d.dir (dir_in (target_at s)) → HasGrown (target_at s) d e → HaveLengths (target_at s) e
    → StageKnows s host x d → (y : Volumes) × AreLonger x y × StageKnows s host y e
stage_grown (stages.Gathering t vols g) host x d e there grown lengths knows = (x, longer_itself x, (gather_on t g host d e knows.2 there grown knows.0, lengths, knows.2, knows.3))
stage_grown (stages.Along c) host x d e there grown lengths knows =
    let from : List Id = drop (length c.volumes) c.path in (
      now c host x from d e grown lengths knows from,
      now_longer c host x from d e grown lengths knows from,
      path_grown c host x from d e grown lengths knows from (λ v h. h) (λ v h. h),
    )
stage_grown (stages.Layer c o) host x d e there grown lengths knows = layer_grown c o host x d e grown lengths knows.0 knows.1 knows.2
