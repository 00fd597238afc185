-- What is known survives what others do.
use Rattle.std.proofs.Common.{◌≡◌, ℕ, length, List, Option, Some, None, sym, ap, ◌∙◌, subst, arith}
use Rattle.std.specs.List.{Contains}
use Rattle.std.specs.Option.{option_map}
use Rattle.std.proofs.lemmas.List.{take_all}
use Rattle.sd_names.specs.declared.id.Id.{Id}
use Rattle.sd_names.specs.declared.place.Dir.{Dir}
use Rattle.sd_names.specs.declared.place.Name.TheVariants as name
use Rattle.shared_disk.specs.Content.{Content, File}
use Rattle.shared_disk.specs.Crash.{IsAlso}
use Rattle.shared_disk.specs.NameCalls.{place_in}
use Rattle.volume_meta.specs.Read.{read_volume}
use Rattle.chain_model.specs.Folder.{folder_of}
use Rattle.chain_model.specs.Growth.{MayGrow, MayHaveGrown}
use Rattle.chain_model.specs.Opening.{AreVolumes}
use Rattle.chain_model.specs.Records.{stored_text, text_of}
use Rattle.chain_gathering.specs.Kept.{ids_found}
use Rattle.chain_gathering.specs.Knowing.{IsGathered, IsRead, KnowsStage, volumes_in}
use Rattle.chain_gathering.specs.Names.{name_of}
use Rattle.chain_gathering.specs.Stages.{dir_in, image_in}
use Rattle.chain_gathering.specs.declared.gathered.Gathered.{Gathered}
use Rattle.chain_gathering.specs.declared.names.VolumeName.{VolumeName}
use Rattle.chain_gathering.specs.declared.names.VolumeName.TheVariants.{Data, Text}
use Rattle.chain_gathering.specs.declared.stages.Stage.{Stage}
use Rattle.chain_gathering.specs.declared.stages.Stage.TheVariants.{Listing, Syncing, Reading}
use Rattle.chain_gathering.specs.declared.stages.Target.{Target}
use Rattle.chain_gathering.proofs.Alike.{IsAlike, KeepsState, also_by, folder_alike, listing_alike, may_grow_state, next_alike, same_file_there, same_volume, settled_alike, there_alike}
use Rattle.chain_gathering.proofs.Lists.{length_ids, length_records}
use Rattle.chain_gathering.proofs.Reading.{are_passed, few_ids, read_well}

same_also : (host : ℕ) (a b : Option File) → b ≡ a → IsAlso (KeepsState host) a b
same_also host a b e = subst (λ (o : Option File). IsAlso (KeepsState host) a o) (sym e) (itself a)
  where
    itself : (a : Option File) → IsAlso (KeepsState host) a a
    itself None = tt
    itself (Some f) = record { alone = λ x. x; settled = λ x. x }

grown_file : (dir : Dir) (host : ℕ) (d e : Content) (o : VolumeName) → MayHaveGrown (folder_of dir d) (folder_of dir e)
    → IsAlso (KeepsState host) (d.file (place_in dir (name_of o))) (e.file (place_in dir (name_of o)))
grown_file dir host d e (Data v) grown = also_by MayGrow (KeepsState host) (d.file (place_in dir (name.Volume v))) (e.file (place_in dir (name.Volume v))) (may_grow_state host) (grown.file v)
grown_file dir host d e (Text v) grown = same_also host (d.file (place_in dir (name.Meta v))) (e.file (place_in dir (name.Meta v))) (grown.text v)

grown_alike : (dir : Dir) (host : ℕ) (d e : Content) → e.dir dir ≡ d.dir dir → MayHaveGrown (folder_of dir d) (folder_of dir e) → IsAlike dir host d e
grown_alike dir host d e there grown = record { there = there; files = λ o. grown_file dir host d e o grown }

same_text : (t : Target) (d e : Content) (v : Id) → MayHaveGrown (folder_of (dir_in t) d) (folder_of (dir_in t) e)
    → text_of (image_in t) (volumes_in (dir_in t) e) v ≡ text_of (image_in t) (volumes_in (dir_in t) d) v
same_text t d e v grown = ap (option_map (λ (f : File). read_volume t.version t.sd t.image (stored_text f))) (grown.text v)

volumes_alike : (dir : Dir) (host : ℕ) (d e : Content) (vs : List Id) → IsAlike dir host d e → AreVolumes (volumes_in dir d) vs → AreVolumes (volumes_in dir e) vs
volumes_alike dir host d e vs alike are = record {
  rising = are.rising;
  each = λ v h. same_volume dir host d e v alike ∙ are.each v h;
  all = λ v is. are.all v (sym (same_volume dir host d e v alike) ∙ is);
}

read_survives : (t : Target) (kept : Gathered) (host : ℕ) (d e : Content) → IsAlike (dir_in t) host d e → MayHaveGrown (folder_of (dir_in t) d) (folder_of (dir_in t) e) → IsRead t kept d → IsRead t kept e
read_survives t kept host d e alike grown is = record {
  settled = settled_alike (dir_in t) host d e alike is.settled;
  are = volumes_alike (dir_in t) host d e (ids_found kept.found) alike is.are;
  few = is.few;
  files = there_alike (dir_in t) host d e kept.found alike is.files;
  short = is.short;
  order = is.order;
  texts = λ r h. same_text t d e r.id grown ∙ is.texts r h;
  own = λ r h. is.own r h ∙ sym (same_file_there (dir_in t) host d e r.id alike);
}

pub knows_survives : (t : Target) (kept : Gathered) (host : ℕ) (d e : Content) (stage : Stage) → e.dir (dir_in t) ≡ d.dir (dir_in t) → MayHaveGrown (folder_of (dir_in t) d) (folder_of (dir_in t) e)
    → KnowsStage t kept host d stage → KnowsStage t kept host e stage
knows_survives t kept host d e (Listing seen) there grown k = listing_alike (dir_in t) host seen kept d e (grown_alike (dir_in t) host d e there grown) k
knows_survives t kept host d e (Syncing seen o) there grown k =
    let alike = grown_alike (dir_in t) host d e there grown in (listing_alike (dir_in t) host seen kept d e alike k.0, next_alike (dir_in t) host seen.after o d e alike k.1)
knows_survives t kept host d e Reading there grown k =
    let alike = grown_alike (dir_in t) host d e there grown in (folder_alike (dir_in t) host d e alike k.0, read_survives t kept host d e alike grown k.1)

-- what was gathered is what was read whole
as_read : (t : Target) (kept : Gathered) (d : Content) → IsGathered t kept d → IsRead t kept d
as_read t kept d is =
    let same : length kept.records ≡ length (ids_found kept.found) = sym (length_records kept.records) ∙ ap length is.order in
    record {
      settled = is.settled;
      are = is.are;
      few = is.few;
      files = is.files;
      short = omega (arith, same, length_ids kept.found);
      order = is.order ∙ sym (take_all (length kept.records) (ids_found kept.found) (omega (arith, same)));
      texts = is.texts;
      own = is.own;
    }

pub gathered_survives : (t : Target) (kept : Gathered) (d e : Content) → e.dir (dir_in t) ≡ d.dir (dir_in t) → MayHaveGrown (folder_of (dir_in t) d) (folder_of (dir_in t) e)
    → IsGathered t kept d → IsGathered t kept e
gathered_survives t kept d e there grown is =
    let read = read_survives t kept 1 d e (grown_alike (dir_in t) 1 d e there grown) grown (as_read t kept d is) in
    record {
      settled = read.settled;
      are = read.are;
      few = read.few;
      files = read.files;
      order = is.order;
      texts = read.texts;
      own = read.own;
      passed = are_passed (image_in t) (volumes_in (dir_in t) e) (ids_found kept.found) (few_ids kept is.few)
          (λ v h. read_well t kept e read v (subst (λ (vs : List Id). Contains vs v) (sym (sym read.order ∙ is.order)) h));
    }
