-- The rewriting of a text, as it begins: what it is made of fits.
use Rattle.std.proofs.Common.{◌≡◌, ◌<◌, ◌^◌, ℕ, List, length, Option, Some, None, sym, ap, ◌∙◌, subst}
use Rattle.std.specs.Prelude.{slice_get}
use Rattle.std.specs.Option.{option_map}
use Rattle.std.proofs.lemmas.Option.{none-some}
use Rattle.sd_names.specs.declared.id.Id.{Id}
use Rattle.sd_names.specs.declared.place.Dir.{Dir}
use Rattle.volume_meta.specs.declared.record.VolumeRecord.{VolumeRecord}
use Rattle.volume_texts.specs.Write.{IsFor, file_of, new_place, stage_of, text_place, version_of as write_version, volatile_of}
use Rattle.volume_texts.specs.declared.write.TextWrite.{TextWrite}
use Rattle.whole_file.specs.declared.replace.Stage.TheVariants.{Begun}
use Rattle.chain_records.specs.Records.{files_of, ids_of, records_in}
use Rattle.chain_records.specs.Rewriting.{changed}
use Rattle.volume_chain.specs.Chain.{dir_in, open_in, path_in, records_kept, target_of}
use Rattle.volume_chain.specs.Parts.{version_of, with_records}
use Rattle.volume_chain.specs.declared.chain.Chain.{Chain}
use Rattle.chain_settling.specs.Was.{folder_in}
use Rattle.chain_settling.specs.Begun.{IsBegunText}
use Rattle.chain_settling.specs.Fit.{AreValid, IsFit, IsSameChain}
use Rattle.chain_settling.specs.Work.{IsIdAt, changed_to}
use Rattle.chain_settling.specs.declared.stages.Part.{Part}
use Rattle.chain_settling.specs.declared.stages.Stage.TheVariants.{Texts, Writing}
use Rattle.chain_settling.specs.declared.texts.Change.{Change}
use Rattle.chain_settling.proofs.Begins.{id_at, record_of}
use Rattle.chain_settling.proofs.Plans.{changed_here}
use Rattle.chain_settling.proofs.Valid.{same_length}
use Rattle.chain_settling.proofs.Writes.{record_there}

pub same_chain : (c next : Chain) → next ≡ with_records c (records_kept next) → ids_of (records_kept next) ≡ ids_of (records_kept c) → files_of (records_kept next) ≡ files_of (records_kept c) → IsSameChain c next
same_chain c next rest ids files = record {
  target = ap (λ (d : Chain). target_of d) rest;
  path = ap (λ (d : Chain). path_in d) rest;
  opened = ap (λ (d : Chain). length (open_in d)) rest;
  ids = ids;
  files = files;
}

pub fit_text : (c next : Chain) (p : Part) (i : ℕ) (v : Id) (says : VolumeRecord) (w : TextWrite) → IsFit (Texts c p i) → IsIdAt c i v → i < length (records_kept c) → next ≡ with_records c (records_kept next)
    → ids_of (records_kept next) ≡ ids_of (records_kept c) → AreValid next → records_in (records_kept next) v ≡ Some says → IsFor says w → IsFit (Writing next p i w)
fit_text c next p i v says w fit at inside rest ids valid is for_it =
    let long : length (records_kept next) ≡ length (records_kept c) = same_length (records_kept c) (records_kept next) ids in
    record {
      valid = valid;
      few = subst (λ (n : ℕ). n < 2 ^ 64) (sym (ap (λ (d : Chain). length (open_in d)) rest)) fit.few;
      short = subst (λ (n : ℕ). n < 2 ^ 64) (sym long) fit.short;
      inside = record {
        inside = subst (λ (n : ℕ). i < n) (sym long) inside;
        says = says;
        is = record_there next i v (ap (λ (vs : List Id). slice_get vs i) ids ∙ id_at c i v at) ∙ is;
        for_it = for_it;
      };
    }

pub begun_text : (c next : Chain) (p : Part) (i : ℕ) (v : Id) (change : Change) (says : VolumeRecord) (w : TextWrite) → next ≡ with_records c (records_kept next)
    → ids_of (records_kept next) ≡ ids_of (records_kept c) → files_of (records_kept next) ≡ files_of (records_kept c)
    → ((u : Id) → records_in (records_kept next) u ≡ changed v (changed_to change) (records_in (records_kept c)) u) → records_in (records_kept next) v ≡ Some says
    → (dir : Dir) (version : ℕ) → dir ≡ dir_in (target_of next) → version ≡ version_of next
    → file_of w ≡ text_place dir v → volatile_of w ≡ new_place dir v → write_version w ≡ version → stage_of w ≡ Begun → IsBegunText c p i v change (Writing next p i w)
begun_text c next p i v change says w rest ids files same is dir version dir_is version_is file volatile by begun =
    let folder : dir ≡ folder_in c = dir_is ∙ ap (λ (d : Chain). folder_in d) rest in
    record {
      kept = records_kept next;
      write = w;
      stage = ap (λ (d : Chain). Writing d p i w) rest;
      ids = ids;
      files = files;
      records = same;
      says = says;
      is = is;
      file = file ∙ ap (λ (q : Dir). text_place q v) folder;
      volatile = volatile ∙ ap (λ (q : Dir). new_place q v) folder;
      version = by ∙ version_is ∙ ap (λ (d : Chain). version_of d) rest;
      begun = begun;
    }

-- a volume of the list has a record, also once it is changed
pub never_without : (c next : Chain) (i : ℕ) (v : Id) (change : Change) → IsIdAt c i v → ((u : Id) → records_in (records_kept next) u ≡ changed v (changed_to change) (records_in (records_kept c)) u)
    → records_in (records_kept next) v ≡ None → ⊥
never_without c next i v change at same none =
    let there = record_of c i v at in
    none-some (changed_to change there.0) (sym none ∙ same v ∙ changed_here v (changed_to change) (records_in (records_kept c)) ∙ ap (λ (o : Option VolumeRecord). option_map (changed_to change) o) there.1)
