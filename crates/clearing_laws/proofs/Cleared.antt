-- A layer's header loses features: what its volume holds, and what was found of its clusters.
use Rattle.std.proofs.Common.{◌≡◌, ◌⊎◌, ◌↔◌, ℕ, ◌+◌, ◌*◌, ◌/◌, ◌%◌, ◌^◌, ◌<◌, ◌≤◌, Bool, false, Option, Some, Result, Ok, refl, sym, ap, ◌∙◌, subst, inl, inr, arith, nat_lt}
use Rattle.std.specs.Prelude.{◌&&◌}
use Rattle.std.proofs.lemmas.Bool.{cases_lt}
use Rattle.std.proofs.lemmas.Bool.Decides.{nat_tests}
use Rattle.sd_names.specs.declared.kinds.Format.TheVariants as format
use Rattle.shared_disk.specs.Content.{File}
use Rattle.shared_disk.specs.Crash.{IsFileOutcome}
use Rattle.shared_disk.specs.WellFormed.{IsWellFormedFile}
use Rattle.shared_disk.proofs.WellFormed.{outcome_file_keeps}
use Rattle.qcow_format.specs.declared.header.Header.{Header}
use Rattle.volume_meta.specs.declared.record.VolumeRecord.{VolumeRecord}
use Rattle.image_model.specs.File as image
use Rattle.image_model.specs.Layer.{entries, entry_at, has_table, l1_entry, names_table, own_byte}
use Rattle.image_model.specs.Soundness.{IsSound, item, layer_header, names}
use Rattle.layer_laws.specs.Laws.{l1_position, layer}
use Rattle.layer_heading.specs.Cleared.{IsCleared, IsOldOrCleared, cleared}
use Rattle.layer_writing.specs.Holding.{ComesBy, on_medium}
use Rattle.layer_writing.specs.Writer.{KnowsWriter}
use Rattle.qcow_layer.specs.Looking.{IsLookedUp}
use Rattle.qcow_layer.specs.Opening.{capacity_kept, header_kept}
use Rattle.qcow_layer.specs.declared.layer.Layer.{Layer}
use Rattle.qcow_layer.specs.declared.looking.Looked.{Looked}
use Rattle.chain_model.specs.Own.{header_in, own_in}
use Rattle.own_laws.specs.Sectors.{HoldAlike, IsLayerOf}
use Rattle.own_laws.proofs.Bytes.{bytes_hold}
use Rattle.chain_laws.specs.Laid.{Laying}
use Rattle.chain_laws.specs.Written.{FileWritten}
use Rattle.part_laws.proofs.Files.{known_layers}
use Rattle.part_laws.proofs.Held.{alike_written}
use Rattle.write_planning.specs.Plan.{found_at, looked_up, span_of}
use Rattle.write_planning.specs.Span.{first_of}
use Rattle.write_planning.specs.declared.plan.WritePlan.{WritePlan}
use Rattle.part_survey.specs.Survey.{HasFound}
use Rattle.clearing_laws.specs.Either.{AreEither, IsEither, IsFoundOnEach}
use Rattle.clearing_laws.proofs.Firsts.{entry_named}

-- ---- the two headers

plain_entry : (h : Header) (f : image.File) (k : ℕ) → entry_at (layer (cleared h) f) k ≡ entry_at (layer h f) k
unfolding entry_at
plain_entry h f k = refl

plain_byte : (h : Header) (f : image.File) (i : ℕ) → own_byte (layer (cleared h) f) i ≡ own_byte (layer h f) i
unfolding own_byte entry_at
plain_byte h f i = refl

plain_name : (h : Header) (f : image.File) (capacity m : ℕ) → names (layer (cleared h) f) capacity m ≡ names (layer h f) capacity m
unfolding item
plain_name h f capacity m = refl

-- what was found, by the entries and the L1 entries
found_by : (p : WritePlan) (h g : Header) (f f' : image.File) → g.cluster_bits ≡ h.cluster_bits → g.l1_size ≡ h.l1_size → ((k : ℕ) → entry_at (layer g f') k ≡ entry_at (layer h f) k)
    → ((k : ℕ) → has_table (layer g f') k ≡ has_table (layer h f) k) → HasFound p (layer h f) → HasFound p (layer g f')
found_by p h g f f' bits size same tables has = record {
  width = has.width ∙ ap (λ n. 2 ^ n) (sym bits);
  found = λ j lt.
      let was = has.found j lt in (
        was.0,
        was.1,
        record { entry = was.2.entry ∙ sym (same (first_of (span_of p) + j)); table = was.2.table ∙ sym (tables (first_of (span_of p) + j)) },
      );
}

pub find_cleared : (p : WritePlan) (h : Header) (f : image.File) → HasFound p (layer h f) → HasFound p (layer (cleared h) f)
find_cleared p h f has = found_by p h (cleared h) f f refl refl (plain_entry h f) (λ k. refl) has

pub find_old : (p : WritePlan) (h : Header) (f : image.File) → HasFound p (layer (cleared h) f) → HasFound p (layer h f)
find_old p h f has = found_by p (cleared h) h f f refl refl (λ k. sym (plain_entry h f k)) (λ k. refl) has

-- ---- an outcome that comes from one

-- each L1 entry is as its position names, by either header
first_named : (x : VolumeRecord) (h : Header) (o : File) (i : ℕ) → IsEither x h o → i < h.l1_size → l1_entry (layer h (on_medium o)) i ≡ Ok (names (layer h (on_medium o)) x.capacity (l1_position (layer h (on_medium o)) i))
first_named x h o i either lt = by either.layer
  where
    by : IsLayerOf x h o ⊎ IsLayerOf x (cleared h) o → l1_entry (layer h (on_medium o)) i ≡ Ok (names (layer h (on_medium o)) x.capacity (l1_position (layer h (on_medium o)) i))
    by (inl is) = entry_named h (on_medium o) x.capacity i is.header either.sound lt
    by (inr is) =
        entry_named (cleared h) (on_medium o) x.capacity i is.header either.sound lt
        ∙ ap (λ (a : Option ℕ). Ok a) (plain_name h (on_medium o) x.capacity (l1_position (layer h (on_medium o)) i))

table_cleared : (x : VolumeRecord) (h : Header) (o g : File) (k : ℕ) → IsEither x h o → IsCleared h x.capacity (on_medium o) (on_medium g) → has_table (layer (cleared h) (on_medium g)) k ≡ has_table (layer h (on_medium o)) k
table_cleared x h o g k either is = go (cases_lt (k / entries (layer h (on_medium o))) h.l1_size)
  where
    go : (k / entries (layer h (on_medium o)) < h.l1_size) ⊎ (h.l1_size ≤ k / entries (layer h (on_medium o))) → has_table (layer (cleared h) (on_medium g)) k ≡ has_table (layer h (on_medium o)) k
    go (inl lt) =
        let new = entry_named (cleared h) (on_medium g) x.capacity (k / entries (layer h (on_medium o))) is.header is.rest.sound lt in
        let old = first_named x h o (k / entries (layer h (on_medium o))) either lt in
        let same = is.rest.named (l1_position (layer h (on_medium o)) (k / entries (layer h (on_medium o)))) in
        ap (λ r. nat_lt (k / entries (layer h (on_medium o))) h.l1_size && names_table r) (new ∙ ap (λ (a : Option ℕ). Ok a) same ∙ sym old)
    go (inr le) = let none : nat_lt (k / entries (layer h (on_medium o))) h.l1_size ≡ false = grind (arith, nat_tests) in rw none refl

pub found_from : (p : WritePlan) (x : VolumeRecord) (h : Header) (o g : File) → IsEither x h o → IsOldOrCleared h x.capacity (on_medium o) (on_medium g) → HasFound p (layer h (on_medium o)) → HasFound p (layer h (on_medium g))
found_from p x h o g either (inl same) has = subst (λ (z : image.File). HasFound p (layer h z)) (sym same) has
found_from p x h o g either (inr is) has =
    find_old p h (on_medium g) (found_by p h (cleared h) (on_medium o) (on_medium g) refl refl is.rest.entries (λ k. table_cleared x h o g k either is) has)

pub either_from : (x : VolumeRecord) (h : Header) (o g : File) → IsEither x h o → IsWellFormedFile g → IsOldOrCleared h x.capacity (on_medium o) (on_medium g) → IsEither x h g
either_from x h o g either well (inl same) = record { layer = by either.layer; sound = subst (λ (z : image.File). IsSound z x.capacity) (sym same) either.sound }
  where
    header : (k : Header) → IsLayerOf x k o → IsLayerOf x k g
    header k is = record { cow = is.cow; header = ap (λ (z : image.File). layer_header z x.capacity) same ∙ is.header; well = well }

    by : IsLayerOf x h o ⊎ IsLayerOf x (cleared h) o → IsLayerOf x h g ⊎ IsLayerOf x (cleared h) g
    by (inl is) = inl (header h is)
    by (inr is) = inr (header (cleared h) is)
either_from x h o g either well (inr is) = record { layer = inr (record { cow = cow either.layer; header = is.header; well = well }); sound = is.rest.sound }
  where
    cow : IsLayerOf x h o ⊎ IsLayerOf x (cleared h) o → x.format ≡ format.Cow
    cow (inl a) = a.cow
    cow (inr a) = a.cow

alike_from : (x : VolumeRecord) (h : Header) (o g : File) → IsEither x h o → IsWellFormedFile g → IsOldOrCleared h x.capacity (on_medium o) (on_medium g) → HoldAlike x o g
alike_from x h o g either well (inl same) k = by either.layer
  where
    one : (a : Header) → IsLayerOf x a o → own_in x g k ≡ own_in x o k
    one a is =
        bytes_hold x a a o g k is (record { cow = is.cow; header = ap (λ (z : image.File). layer_header z x.capacity) same ∙ is.header; well = well })
        (λ i at. ap (λ (z : image.File). own_byte (layer a z) i) same)

    by : IsLayerOf x h o ⊎ IsLayerOf x (cleared h) o → own_in x g k ≡ own_in x o k
    by (inl is) = one h is
    by (inr is) = one (cleared h) is
alike_from x h o g either well (inr is) k = by either.layer
  where
    now : x.format ≡ format.Cow → IsLayerOf x (cleared h) g
    now cow = record { cow = cow; header = is.header; well = well }

    by : IsLayerOf x h o ⊎ IsLayerOf x (cleared h) o → own_in x g k ≡ own_in x o k
    by (inl a) = bytes_hold x h (cleared h) o g k a (now a.cow) (λ i at. is.rest.bytes i)
    by (inr a) = bytes_hold x (cleared h) (cleared h) o g k a (now a.cow) (λ i at. is.rest.bytes i ∙ sym (plain_byte h (on_medium o) i))

-- ---- on each outcome

pub begins : (x : VolumeRecord) (w : Layer) (host : ℕ) (f : File) → KnowsWriter w host f → IsWellFormedFile f → x.format ≡ format.Cow → x.capacity ≡ capacity_kept w → AreEither x (header_kept w) f
begins x w host f knows well cow capacity o out = record {
  layer = inl (known_layers x w host f knows well cow capacity o out);
  sound = subst (λ n. IsSound (on_medium o) n) (sym capacity) (knows.each o out).same.sound;
}

pub still : (x : VolumeRecord) (h : Header) (f g : File) → AreEither x h f → IsWellFormedFile g → ComesBy (IsOldOrCleared h x.capacity) f g → AreEither x h g
still x h f g either well comes o out =
    let from = comes o out in
    either_from x h from.0 o (either from.0 from.1) (outcome_file_keeps g o well out) from.2

pub written : (l : Laying) (x : VolumeRecord) (h : Header) (f g : File) → l.records l.volume ≡ Some x → AreEither x h f → AreEither x h g → ComesBy (IsOldOrCleared h x.capacity) f g → FileWritten l f g
written l x h f g says either now comes = alike_written l x f g says (λ o out. let from = comes o out in (from.0, from.1, alike_from x h from.0 o (either from.0 from.1) (formed (now o out).layer) from.2))
  where
    formed : {o : File} → IsLayerOf x h o ⊎ IsLayerOf x (cleared h) o → IsWellFormedFile o
    formed (inl is) = is.well
    formed (inr is) = is.well

pub found_still : (p : WritePlan) (x : VolumeRecord) (h : Header) (f g : File) → AreEither x h f → IsFoundOnEach p h f → ComesBy (IsOldOrCleared h x.capacity) f g → IsFoundOnEach p h g
found_still p x h f g either found comes o out =
    let from = comes o out in
    found_from p x h from.0 o (either from.0 from.1) from.2 (found from.0 from.1)
