-- Records of a chain stay valid, and can be written.
use Rattle.std.proofs.Common.{◌≡◌, ◌⊎◌, ℕ, List, length, Option, Some, None, sym, ap, ◌∙◌, subst, inl, inr}
use Rattle.std.specs.Prelude.{slice_get}
use Rattle.sd_names.specs.Id.{IsIdBytes}
use Rattle.sd_names.specs.declared.id.Id.{Id}
use Rattle.volume_meta.specs.Text.{HasShortTexts}
use Rattle.volume_meta.specs.Valid.{IsValid}
use Rattle.volume_meta.specs.declared.record.VolumeRecord.{VolumeRecord}
use Rattle.chain_records.specs.Records.{ids_of, records_in}
use Rattle.chain_records.specs.Rewriting.{changed}
use Rattle.chain_records.specs.declared.volume.Volume.{Volume}
use Rattle.chain_records.proofs.Lists.{length_ids}
use Rattle.volume_chain.specs.Chain.{records_kept}
use Rattle.volume_chain.specs.declared.chain.Chain.{Chain}
use Rattle.chain_settling.specs.Fit.{AreValid}
use Rattle.chain_settling.specs.Work.{changed_to, record_at, record_by}
use Rattle.chain_settling.specs.declared.texts.Change.{Change}
use Rattle.chain_settling.specs.declared.texts.Change.TheVariants.{Parent, Voltype}
use Rattle.chain_settling.proofs.Plans.{was}

pub can_be_written : (x : VolumeRecord) → IsValid x → HasShortTexts x
can_be_written x valid = record { description = valid.description; description_line = valid.description_line; disk_type = valid.disk_type; disk_type_line = valid.disk_type_line }

-- the record at a place is valid
pub valid_at : (c : Chain) (i : ℕ) (x : VolumeRecord) → AreValid c → record_at c i ≡ Some x → IsValid x
valid_at c i x valid is = go (slice_get (records_kept c) i) is
  where
    go : (o : Option Volume) → record_by (records_in (records_kept c)) o ≡ Some x → IsValid x
    go None e = absurd cc
    go (Some z) e = valid z.id x e

-- a change that gives a parent of sixteen bytes, or a VOLTYPE
abbrev pub IsWell : Change → Type 0
IsWell (Parent up) = IsIdBytes up.0
IsWell (Voltype t) = Unit {0}

well : (change : Change) (x : VolumeRecord) → IsWell change → IsValid x → IsValid (changed_to change x)
well (Parent up) x bytes valid = record {
  capacity = valid.capacity;
  ctime = valid.ctime;
  description = valid.description;
  description_line = valid.description_line;
  disk_type = valid.disk_type;
  disk_type_some = valid.disk_type_some;
  disk_type_line = valid.disk_type_line;
  domain = valid.domain;
  generation = valid.generation;
  image = valid.image;
  merged = valid.merged;
  parent = bytes;
}
well (Voltype t) x bytes valid = record {
  capacity = valid.capacity;
  ctime = valid.ctime;
  description = valid.description;
  description_line = valid.description_line;
  disk_type = valid.disk_type;
  disk_type_some = valid.disk_type_some;
  disk_type_line = valid.disk_type_line;
  domain = valid.domain;
  generation = valid.generation;
  image = valid.image;
  merged = valid.merged;
  parent = valid.parent;
}

pub valid_changed : (c next : Chain) (v : Id) (change : Change) → IsWell change → AreValid c → ((u : Id) → records_in (records_kept next) u ≡ changed v (changed_to change) (records_in (records_kept c)) u) → AreValid next
valid_changed c next v change is valid same u y e = go (was v (changed_to change) (records_in (records_kept c)) u y (sym (same u) ∙ e))
  where
    go : (z : VolumeRecord) × (records_in (records_kept c) u ≡ Some z) × ((y ≡ z) ⊎ (y ≡ changed_to change z)) → IsValid y
    go z = by z.2
      where
        by : (y ≡ z.0) ⊎ (y ≡ changed_to change z.0) → IsValid y
        by (inl e) = subst IsValid (sym e) (valid u z.0 z.1)
        by (inr e) = subst IsValid (sym e) (well change z.0 is (valid u z.0 z.1))

-- as many volumes as before
pub same_length : (xs ys : List Volume) → ids_of ys ≡ ids_of xs → length ys ≡ length xs
same_length xs ys e = sym (length_ids ys) ∙ ap (λ (vs : List Id). length vs) e ∙ length_ids xs
