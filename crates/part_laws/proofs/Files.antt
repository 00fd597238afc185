-- The files of layers that writers know, and of raw volumes.
use Rattle.std.proofs.Common.{◌≡◌, ◌⊎◌, ℕ, ◌+◌, ◌<◌, ◌≤◌, Bool, true, List, Some, refl, sym, ap, ◌∙◌, subst, inl, inr, arith}
use Rattle.std.specs.Prelude.{if◌then◌else◌, nat_lt, replicate}
use Rattle.std.proofs.lemmas.Bool.{lt-ltb}
use Rattle.sd_names.specs.declared.kinds.Format.TheVariants.{Cow, Raw}
use Rattle.shared_disk.specs.Calls.{sectors_in, wrote}
use Rattle.shared_disk.specs.Content.{File}
use Rattle.shared_disk.specs.Crash.{IsPieceSector}
use Rattle.shared_disk.specs.WellFormed.{IsWellFormedFile}
use Rattle.shared_disk.proofs.Outcomes.{write_file}
use Rattle.shared_disk.proofs.WellFormed.{outcome_file_keeps}
use Rattle.qcow_layer.specs.Opening.{capacity_kept, header_kept}
use Rattle.qcow_layer.specs.declared.layer.Layer.{Layer}
use Rattle.volume_meta.specs.declared.record.VolumeRecord.{VolumeRecord}
use Rattle.image_model.specs.File.{sector_in}
use Rattle.image_model.specs.Soundness.{layer_header}
use Rattle.layer_writing.specs.Holding.{on_medium}
use Rattle.layer_writing.specs.Writer.{KnowsWriter}
use Rattle.chain_model.specs.Own.{own_in, sectors_of}
use Rattle.chain_laws.specs.Laid.{Laying, sector_in_part}
use Rattle.chain_laws.specs.Written.{FileWritten, IsHeld}
use Rattle.part_laws.specs.Steps.{AreLayers}
use Rattle.part_laws.proofs.Held.{held_by}

pub known_layers : (x : VolumeRecord) (w : Layer) (host : ℕ) (f : File) → KnowsWriter w host f → IsWellFormedFile f → x.format ≡ Cow → x.capacity ≡ capacity_kept w → AreLayers x (header_kept w) f
known_layers x w host f knows well cow capacity g out = record {
  cow = cow;
  header = ap (λ n. layer_header (on_medium g) n) capacity ∙ (knows.each g out).same.header;
  well = outcome_file_keeps f g well out;
}

raw_held : (x : VolumeRecord) (f : File) (k : ℕ) → x.format ≡ Raw → k < sectors_of x → own_in x f k ≡ Some (sector_in f.size f.stable k)
unfolding own_in
raw_held x f k raw low = let inside : nat_lt k (sectors_of x) ≡ true = lt-ltb k (sectors_of x) low in rw (inside, raw) refl

inside_file : (f : File) (k : ℕ) → k < f.size → sector_in f.size f.stable k ≡ f.stable k
inside_file f k lt = let inside : nat_lt k f.size ≡ true = lt-ltb k f.size lt in rw inside refl

pub raw_part_held : (l : Laying) (x : VolumeRecord) (f : File) (k : ℕ) → x.format ≡ Raw → k < sectors_of x → k < f.size → f.stable k ≡ sector_in_part l.part k → own_in x f k ≡ Some (sector_in_part l.part k)
raw_part_held l x f k raw low lt is = raw_held x f k raw low ∙ ap (λ (b : List ℕ). Some b) (inside_file f k lt ∙ is)

raw_sector : (l : Laying) (x : VolumeRecord) (did : ℕ → Bool) (o g : File) (k : ℕ) → x.format ≡ Raw → k < sectors_of x → l.part.at + sectors_in l.part.bytes ≤ o.size → g.size ≡ o.size
    → (g.stable k ≡ o.stable k) ⊎ IsPieceSector did l.part.at l.part.bytes k (g.stable k) → IsHeld l k (own_in x o k) (own_in x g k)
raw_sector l x did o g k raw low within size (inl same) =
    let one = ap (λ n. if nat_lt k n then g.stable k else replicate 512 0) size in
    let two = ap (λ (b : List ℕ). if nat_lt k o.size then b else replicate 512 0) same in
    inl (raw_held x g k raw low ∙ ap (λ (b : List ℕ). Some b) (one ∙ two) ∙ sym (raw_held x o k raw low))
raw_sector l x did o g k raw low within size (inr piece) =
    inr (inl ((piece.low, piece.high), raw_part_held l x g k raw low (omega (arith, size, within, piece.high)) piece.piece))

pub raw_written : (l : Laying) (x : VolumeRecord) (did : ℕ → Bool) (host : ℕ) (f : File) → l.records l.volume ≡ Some x → x.format ≡ Raw → l.part.at + sectors_in l.part.bytes ≤ f.size
    → FileWritten l f (wrote did host l.part.at l.part.bytes f)
raw_written l x did host f is raw within g' out =
    let from = write_file did host l.part.at l.part.bytes f g' out in (
      from.0,
      from.1,
      held_by l x from.0 g' is (λ k lt. raw_sector l x did from.0 g' k raw lt (subst (λ n. l.part.at + sectors_in l.part.bytes ≤ n) (sym from.1.size) within) from.2.size (from.2.sectors k)),
    )
