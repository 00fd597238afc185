-- Where an opening wants for memory, the checks before have passed.
use Rattle.std.proofs.Common.{◌≡◌, ◌⊎◌, ℕ, zero, suc, ◌+◌, List, [], ◌∷◌, ◌++◌, length, map, take, drop, slice_get, Option, Some, None, Result, Ok, refl, sym, ap, ◌∙◌, subst, inl, inr, arith, append_assoc}
use Rattle.std.specs.List.{Contains}
use Rattle.std.proofs.lemmas.List.{map-append}
use Rattle.sd_names.specs.declared.fault.VolumeFault.{VolumeFault}
use Rattle.sd_names.specs.declared.id.Id.{Id}
use Rattle.sd_names.specs.declared.refusal.Refusal.{Refusal}
use Rattle.sd_names.specs.declared.refusal.Refusal.TheVariants.{OutOfMemory}
use Rattle.shared_disk.specs.Calls.{synced}
use Rattle.shared_disk.specs.Content.{Content, File, unless_by, without}
use Rattle.shared_disk.specs.Crash.{IsAlso, IsSettled}
use Rattle.shared_disk.specs.NameCalls as names
use Rattle.shared_disk.proofs.Outcomes.{cons_cases}
use Rattle.volume_meta.specs.declared.record.VolumeRecord.{VolumeRecord}
use Rattle.qcow_format.specs.declared.header.Header.{Header}
use Rattle.image_model.specs.File.{file_of}
use Rattle.image_model.specs.Soundness.{layer_header}
use Rattle.qcow_layer.specs.Opening as layer
use Rattle.qcow_layer.specs.declared.opening.Opening.{Opening}
use Rattle.qcow_layer.specs.declared.stages.Target as layers
use Rattle.qcow_layer.proofs.Knowing.{settled_seen}
use Rattle.chain_model.specs.Folder.{Volumes}
use Rattle.chain_model.specs.Opening.{Check, IsBadText, IsOpenPath, Refuses, both, checks, count, header, layer as layer_check, text}
use Rattle.chain_model.specs.Records.{Image, Records, records_of, text_of}
use Rattle.chain_model.proofs.Opened.{open_path, text_there}
use Rattle.chain_records.specs.Checks.{record_checks}
use Rattle.chain_records.specs.Paths.{IsReadingPath}
use Rattle.chain_records.specs.Records.{ids_of}
use Rattle.chain_records.proofs.Opening.{NoneRefuses, checks_are, front, none_at, none_both, passes_before_layers, same_records}
use Rattle.chain_gathering.specs.Kept.{ids_found, next_of}
use Rattle.chain_gathering.specs.Knowing.{IsRead, KnowsStage, volumes_in}
use Rattle.chain_gathering.specs.Names.{name_of}
use Rattle.chain_gathering.specs.Stages as gathering
use Rattle.chain_gathering.specs.Steps.{HasNoFault, IsGatheringRefusal, IsKeptFile}
use Rattle.chain_gathering.specs.declared.gathered.Gathered.{Gathered}
use Rattle.chain_gathering.specs.declared.names.VolumeName.{VolumeName}
use Rattle.chain_gathering.specs.declared.names.VolumeName.TheVariants.{Data, Text}
use Rattle.chain_gathering.specs.declared.stages.Stage as gather_stage
use Rattle.chain_gathering.specs.declared.stages.Stage.TheVariants.{Listing, Syncing, Reading}
use Rattle.chain_gathering.specs.declared.stages.Target as gather_target
use Rattle.chain_gathering.proofs.Lists.{mapped_in}
use Rattle.chain_gathering.proofs.Reading.{few_ids, next_split, read_well}
use Rattle.volume_chain.specs.Chain.{OnPath, image_in}
use Rattle.volume_chain.specs.Knowing.{IsNextLayer, KnowsLayerFile, KnowsPath}
use Rattle.volume_chain.specs.Reached.{LacksMemory}
use Rattle.volume_chain.specs.declared.chain.Chain.{Chain}
use Rattle.volume_chain.specs.declared.volumes.OpenVolume.{OpenVolume}
use Rattle.volume_chain.proofs.Gathered.{checks_begin, rest_of}
use Rattle.volume_chain.proofs.PathChecks.{IsFine, all_fine}

-- ---- at a text

-- a file without anything unsynced is left by a sync
synced_same : (host : ℕ) (f : File) → IsSettled f → synced host f ≡ f
synced_same host f settled = λ i. record {
  size = f.size;
  stable = settled_seen host f settled i;
  loose = (ap (without host) settled.loose ∙ sym settled.loose) i;
  fresh = (ap (unless_by host) settled.fresh ∙ sym settled.fresh) i;
}

kept_same : (host : ℕ) (a b : Option File) → IsAlso (IsKeptFile host) a b → ((f : File) → a ≡ Some f → IsSettled f) → b ≡ a
kept_same host None None also settled = refl
kept_same host None (Some g) also settled = absurd also
kept_same host (Some f) None also settled = absurd also
kept_same host (Some f) (Some g) (inl same) settled = ap (λ (h : File). Some h) same
kept_same host (Some f) (Some g) (inr put) settled = ap (λ (h : File). Some h) (put ∙ synced_same host f (settled f refl))

module _ (t : gather_target.Target) (kept : Gathered) (d : Content) (is : IsRead t kept d) (fine : HasNoFault t kept d) where
  abbrev i : Image
  i = gathering.image_in t

  abbrev x : Volumes
  x = volumes_in (gathering.dir_in t) d

  abbrev ids : List Id
  ids = ids_found kept.found

  abbrev them : List Id
  them = take (length kept.records) ids

  passes : (b : Check) → Contains (count ∷ map text them) b → (e : Refusal) → Refuses i x ids b e → ⊥
  passes b h e refuses = go (cons_cases count b (map text them) h)
    where
      go : (count ≡ b) ⊎ Contains (map text them) b → ⊥
      go (inl same) = let many : Refuses i x ids count e = subst (λ (c : Check). Refuses i x ids c e) (sym same) refuses in omega (arith, many.0, few_ids kept is.few)
      go (inr among) =
          let u = mapped_in text them b among in
          let well = read_well t kept d is u.0 u.1 in
          let bad : IsBadText u.0 (text_of i x u.0) e = subst (λ (c : Check). Refuses i x ids c e) (sym u.2) refuses in
          subst (λ (o : Option (Result VolumeRecord VolumeFault)). IsBadText u.0 o e) well.1 bad

  path_is : (path : List Id) × IsOpenPath (records_of i x) path
  path_is = open_path (records_of i x) ids (λ v y r. is.are.all v (text_there _ (x.text v) y r))

  back : List Id
  back = (next_split kept fine.0 fine.1).back

  order : checks ids path_is.0 ≡ (count ∷ map text them) ++ text fine.0 ∷ (map text back ++ rest_of ids path_is.0)
  unfolding back
  order =
      checks_begin ids path_is.0 ∙ ap (λ (us : List Id). (count ∷ map text us) ++ rest_of ids path_is.0) (next_split kept fine.0 fine.1).whole
      ∙ ap (λ (cs : List Check). (count ∷ cs) ++ rest_of ids path_is.0) (map-append text them (fine.0 ∷ back))
      ∙ append_assoc (count ∷ map text them) (text fine.0 ∷ map text back) (rest_of ids path_is.0)

  pub text_reached : LacksMemory i x OutOfMemory
  text_reached = (
    refl,
    text fine.0,
    record {
      volumes = ids;
      path = path_is.0;
      are = is.are;
      opened = path_is.1;
      before = count ∷ map text them;
      behind = map text back ++ rest_of ids path_is.0;
      order = order;
      passes = passes;
    },
    (fine.2, fine.3),
  )

-- a gathering wants for memory where it reads texts alone, and leaves the files then
pub gather_lacks : (t : gather_target.Target) (kept : Gathered) (host : ℕ) (d e : Content) (s : gather_stage.Stage) → IsGatheringRefusal kept s OutOfMemory → KnowsStage t kept host d s
    → ((o : VolumeName) → IsAlso (IsKeptFile host) (d.file (names.place_in (gathering.dir_in t) (name_of o))) (e.file (names.place_in (gathering.dir_in t) (name_of o))))
    → HasNoFault t kept e → LacksMemory (gathering.image_in t) (volumes_in (gathering.dir_in t) e) OutOfMemory
gather_lacks t kept host d e (Listing seen) may knows files fine = absurd (never may)
  where
    never : ⊥ ⊎ ⊥ → ⊥
    never (inl n) = n
    never (inr n) = n
gather_lacks t kept host d e (Syncing seen o) may knows files fine = absurd (never may)
  where
    never : ⊥ ⊎ ⊥ → ⊥
    never (inl n) = n
    never (inr n) = n
gather_lacks t kept host d e Reading may knows files fine =
    subst (λ (y : Volumes). LacksMemory (gathering.image_in t) y OutOfMemory) (sym same)
    (text_reached t kept d knows.1 (subst (λ (y : Volumes). (v : Id) × (next_of kept ≡ Some v) × (r : VolumeRecord) × (text_of (gathering.image_in t) y v ≡ Some (Ok r))) same fine))
  where
    one : (o : VolumeName) → e.file (names.place_in (gathering.dir_in t) (name_of o)) ≡ d.file (names.place_in (gathering.dir_in t) (name_of o))
    one o =
        kept_same host (d.file (names.place_in (gathering.dir_in t) (name_of o))) (e.file (names.place_in (gathering.dir_in t) (name_of o))) (files o)
        (λ f there. knows.1.settled o f there)

    same : volumes_in (gathering.dir_in t) e ≡ volumes_in (gathering.dir_in t) d
    same = λ j. record { text = λ v. one (Text v) j; file = λ v. one (Data v) j }

-- ---- at a layer

-- the checks of a path's layers up to a volume
both_split : (a b : Id → Check) (path : List Id) (n : ℕ) (v : Id) → slice_get path n ≡ Some v → both a b path ≡ both a b (take n path) ++ a v ∷ b v ∷ both a b (drop (n + 1) path)
both_split a b [] n v next = absurd cc
both_split a b (w ∷ ws) zero v next = let same : w ≡ v = cc in ap (λ (u : Id). a u ∷ b u ∷ both a b ws) same
both_split a b (w ∷ ws) (suc n) v next =
    let e : suc (n + 1) ≡ suc n + 1 = omega arith in
    ap (λ (cs : List Check). a w ∷ b w ∷ cs) (both_split a b ws n v next) ∙ ap (λ (k : ℕ). a w ∷ b w ∷ both a b (take n ws) ++ a v ∷ b v ∷ both a b (drop k (w ∷ ws))) e

-- those of the open volumes pass
fine_none : (i : Image) (x : Volumes) (all path : List Id) (os : List OpenVolume) → OnPath (IsFine i x) path os → NoneRefuses i x all (both layer_check header (take (length os) path))
fine_none i x all path [] along = tt
fine_none i x all [] (o ∷ os) along = absurd along
fine_none i x all (v ∷ vs) (o ∷ os) along = (along.0.0, (along.0.1, fine_none i x all vs os along.1))

module _ (c : Chain) (o : Opening) (host : ℕ) (x : Volumes) (rest : List Id) (d : Content) (knows : KnowsPath c host x rest d) (next : IsNextLayer c o) (file : KnowsLayerFile o host x d) (h : Header)
    (reads : layer_header (file_of file.0.size file.0.stable) (layer.target_of o).capacity ≡ Ok h) where
  abbrev all : List Id
  all = ids_of c.records

  abbrev ahead : List Check
  ahead = front all ++ record_checks all

  abbrev these : List Check
  these = both layer_check header (take (length c.volumes) c.path)

  abbrev behind : List Check
  behind = header next.volume ∷ both layer_check header (drop (length c.volumes + 1) c.path)

  along_order : checks all c.path ≡ (ahead ++ these) ++ layer_check next.volume ∷ behind
  along_order =
      checks_are all c.path ∙ ap (λ (cs : List Check). ahead ++ cs) (both_split layer_check header c.path (length c.volumes) next.volume next.next)
      ∙ sym (append_assoc ahead these (layer_check next.volume ∷ behind))

  opened : IsOpenPath (records_of (image_in c.target) x) c.path
  opened = inl (subst (λ (r : Records). IsReadingPath r c.path) (sym (same_records (image_in c.target) x c.records knows.shown.read)) knows.shape.reading)

  along_passes : NoneRefuses (image_in c.target) x all (ahead ++ these)
  along_passes = none_both (image_in c.target) x all ahead these (passes_before_layers (image_in c.target) x c.records knows.shown knows.shape.checked) (fine_none (image_in c.target) x all c.path c.volumes (all_fine c host x rest d knows))

  pub layer_reached : LacksMemory (image_in c.target) x OutOfMemory
  layer_reached =
      let volume : (layer.target_of o).volume ≡ next.volume = ap (λ (t : layers.Target). t.volume) next.target in
      let bytes : (layer.target_of o).capacity ≡ next.says.capacity = ap (λ (t : layers.Target). t.capacity) next.target in (
        refl,
        layer_check next.volume,
        record {
          volumes = all;
          path = c.path;
          are = knows.shown.read.are;
          opened = opened;
          before = ahead ++ these;
          behind = behind;
          order = along_order;
          passes = λ b g. none_at (image_in c.target) x all (ahead ++ these) along_passes b g;
        },
        (
          next.says,
          knows.shown.read.records next.volume ∙ next.is,
          file.0,
          subst (λ (v : Id). x.file v ≡ Some file.0) volume file.1,
          h,
          subst (λ (n : ℕ). layer_header (file_of file.0.size file.0.stable) n ≡ Ok h) bytes reads,
        ),
      )
