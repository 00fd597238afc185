-- What is known once the volume was found.
use Rattle.std.proofs.Common.{◌≡◌, ℕ, ◌+◌, ◌%◌, ◌^◌, ◌≤◌, List, length, slice_get, Option, Some, None, sym, ap, ◌∙◌, subst, arith}
use Rattle.sd_names.specs.declared.id.Id.{Id}
use Rattle.sd_names.specs.declared.kinds.Format.TheVariants as format
use Rattle.sd_names.specs.declared.place.Place.{Place}
use Rattle.shared_disk.specs.Calls.{IsPiece}
use Rattle.shared_disk.specs.Content.{Content, File}
use Rattle.shared_disk.specs.Crash.{IsSettled}
use Rattle.volume_meta.specs.declared.record.VolumeRecord.{VolumeRecord}
use Rattle.qcow_layer.specs.Knowing.{KnowsLayer}
use Rattle.qcow_layer.specs.declared.layer.Layer.{Layer}
use Rattle.chain_model.specs.Folder.{Folder, Volumes, folder_of}
use Rattle.chain_model.specs.Records.{Records}
use Rattle.chain_laws.specs.Laid.{Laying}
use Rattle.chain_records.specs.Records.{records_in}
use Rattle.volume_chain.specs.Chain.{IsOpenAs, dir_in, place_in}
use Rattle.volume_chain.specs.declared.chain.Chain.{Chain}
use Rattle.volume_chain.specs.declared.volumes.OpenVolume.{OpenVolume}
use Rattle.volume_chain.specs.declared.volumes.OpenVolume.TheVariants as volume
use Rattle.chain_reading.specs.Knowing.{KnowsImage, place_on}
use Rattle.chain_reading.proofs.Survives.{begun_image}
use Rattle.raw_writing.specs.Writing as raw
use Rattle.raw_writing.specs.declared.writing.RawWriting.{RawWriting}
use Rattle.raw_writing.proofs.Steps.{begins as raw_begins}
use Rattle.guest_laws.specs.Write.{KnowsWrite}
use Rattle.guest_laws.proofs.Paths.{along_at}
use Rattle.guest_laws.proofs.Writes.{begins, layer_place, of_volume, open_as}
use Rattle.layer_placing.proofs.Widths.{narrow, whole, wide}
use Rattle.write_planning.specs.Part.{IsPart}
use Rattle.write_planning.specs.Span.{at_of, length_of, width_of}
use Rattle.write_planning.specs.declared.span.Span.{Span}
use Rattle.write_preparing.specs.Preparing as preparing
use Rattle.write_preparing.specs.declared.preparing.Preparing as preparings
use Rattle.write_filling.proofs.Since.{since_begun}
use Rattle.guest_writing.specs.Knowing.{IsWriteOf, KnowsBegun, KnowsPreparing, KnowsRaw}
use Rattle.guest_writing.proofs.Standing.{place_there}

module _ (v : Id) (at : ℕ) (c : Chain) (l : Laying) (x : VolumeRecord) (old : Volumes) (host : ℕ) (start : Folder) (d : Content) (of : IsWriteOf v at l old) (k : KnowsBegun c l x old host start d) where
  path_there : slice_get c.path (place_on v c.path) ≡ Some l.volume
  path_there = subst (λ (u : Id). slice_get c.path (place_on u c.path) ≡ Some l.volume) (sym of.volume) (place_there l.volume c.path k.of.path)

  raw_format : (n : ℕ) → slice_get c.volumes (place_on v c.path) ≡ Some (volume.Raw n) → x.format ≡ format.Raw
  raw_format n there =
      let says : records_in c.records l.volume ≡ Some x = ap (λ (r : Records). r l.volume) (sym k.of.records) ∙ k.of.says in
      subst (λ (q : Option VolumeRecord). IsOpenAs c.target l.volume q (volume.Raw n)) says
      (along_at (λ u o. IsOpenAs c.target u (records_in c.records u) o) c.path c.volumes (place_on v c.path) l.volume (volume.Raw n) k.may.chain.shape.each path_there there)

  pub raw_found : (w : RawWriting) (n : ℕ) → slice_get c.volumes (place_on v c.path) ≡ Some (volume.Raw n) → raw.IsBegun c v at w → KnowsRaw w c l x host start d
  raw_found w n there begun = record {
    index = place_on v c.path;
    path = path_there;
    bytes = n;
    opened = there;
    write = subst (λ (s : Folder). raw.Knows w c l x host s d) (sym k.folder)
        (raw_begins w c l x host d (subst (λ (n : ℕ). raw.IsBegun c l.volume n w) of.from (subst (λ (u : Id). raw.IsBegun c u at w) of.volume begun)) k.of (raw_format n there) k.may.chain k.may.settled);
    quiet = λ i w f other is file. k.may.quiet i w f is file;
  }

  pub layer_found : (index : ℕ) → index ≡ place_on v c.path → (w : Layer) (s : Span) (p : preparings.Preparing) → slice_get c.volumes index ≡ Some (volume.Cow w) → preparing.IsBegun s p → at_of s ≡ at → length_of s ≡ length l.part.bytes
      → width_of s ≡ 2 ^ w.work.header.cluster_bits → KnowsPreparing index p c l x old host start d
  layer_found index same w s p there begun from long wide = record {
    layer = w;
    file = write.0;
    write = subst (λ (z : Folder). KnowsWrite c index w l x host z write.0 d) (sym k.folder) write.1;
    quiet = λ i y f other is file. k.may.quiet i y f is file;
    work = begun.knows w l x host write.0 (record { says = k.of.says; cow = is.0; capacity = is.1; at = from ∙ of.from; length = long }) (k.may.quiet index w write.0 there write.1.there) wide;
    since = since_begun l x old write.0 k.of.says (ap (λ (y : Volumes). y.file l.volume) k.files ∙ here) write.3;
    below = λ u next. subst (λ (y : Volumes). KnowsImage c u host y d) (sym k.files) (begun_image c u host d k.may.chain k.may.settled);
  }
    where
      path_at : slice_get c.path index ≡ Some l.volume
      path_at = ap (λ (n : ℕ). slice_get c.path n) same ∙ path_there

      write : (f : File) × KnowsWrite c index w l x host (folder_of (dir_in c.target) d) f d × KnowsLayer w host f × IsSettled f
      write = begins c index w l x host d k.of path_at there k.may.chain k.may.settled

      is : (x.format ≡ format.Cow) × (x.capacity ≡ w.target.capacity)
      is = of_volume c index w l x host (folder_of (dir_in c.target) d) write.0 d write.1

      here : d.file (place_in c.target l.volume) ≡ Some write.0
      here = subst (λ (q : Place). d.file q ≡ Some write.0) (layer_place c l x w (open_as c l x index w k.of k.may.chain.shape path_at there)) write.1.there

-- ---- what was found

pub is_part : (at n width : ℕ) (w : Layer) → IsPiece n → at + n ≤ 2 ^ 62 → width ≡ 2 ^ w.work.header.cluster_bits → IsPart at n width
is_part at n width w piece ends is = record {
  some = omega (arith, piece.1);
  few = piece.2;
  low = subst (λ m. 4096 ≤ m) (sym is) (wide w.work.header.cluster_bits w.work.low);
  high = subst (λ m. m ≤ 2097152) (sym is) (narrow w.work.header.cluster_bits w.work.high);
  whole = subst (λ m. m % 512 ≡ 0) (sym is) (whole w.work.header.cluster_bits w.work.low);
  within = ends;
}

pub there_now : (c : Chain) (v : Id) (path : List Id) (os : List OpenVolume) (index : ℕ) (o : OpenVolume) → path ≡ c.path → os ≡ c.volumes → index ≡ place_on v path → slice_get os index ≡ Some o
    → (slice_get c.volumes index ≡ Some o) × (slice_get c.volumes (place_on v c.path) ≡ Some o) × (index ≡ place_on v c.path)
there_now c v path os index o of_path of_volumes is there =
    let at : index ≡ place_on v c.path = is ∙ ap (λ (ws : List Id). place_on v ws) of_path in
    let now : slice_get c.volumes index ≡ Some o = subst (λ (ps : List OpenVolume). slice_get ps index ≡ Some o) of_volumes there in
    (now, subst (λ (n : ℕ). slice_get c.volumes n ≡ Some o) at now, at)

pub none_past : (c : Chain) (v : Id) (o : OpenVolume) (path : List Id) (os : List OpenVolume) (index : ℕ) → path ≡ c.path → os ≡ c.volumes → index ≡ place_on v path → slice_get c.volumes (place_on v c.path) ≡ Some o → slice_get os index ≡ None → ⊥
none_past c v o path os index of_path of_volumes is there none =
    let at : index ≡ place_on v c.path = is ∙ ap (λ (ws : List Id). place_on v ws) of_path in
    let now : slice_get c.volumes (place_on v c.path) ≡ None = subst (λ (n : ℕ). slice_get c.volumes n ≡ None) at (subst (λ (ps : List OpenVolume). slice_get ps index ≡ None) of_volumes none) in
    apart (slice_get c.volumes (place_on v c.path)) there now
  where
    apart : (q : Option OpenVolume) → q ≡ Some o → q ≡ None → ⊥
    apart q a b = cc
