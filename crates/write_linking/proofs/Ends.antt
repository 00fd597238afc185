-- Behind the last sector the volume holds the part.
use Rattle.std.proofs.Common.{◌≡◌, ℕ, ◌+◌, ◌-◌, ◌*◌, ◌/◌, ◌<◌, ◌≤◌, Some, sym, ap, ◌∙◌, subst, inl, arith}
use Rattle.shared_disk.specs.Content.{File}
use Rattle.shared_disk.proofs.Outcomes.{settled_file}
use Rattle.volume_meta.specs.declared.record.VolumeRecord.{VolumeRecord}
use Rattle.qcow_layer.specs.declared.layer.Layer.{Layer}
use Rattle.chain_model.specs.Own.{own_in, sectors_of as volume_sectors}
use Rattle.chain_laws.specs.Laid.{IsInPart, Laying, sector_in_part}
use Rattle.write_planning.specs.Linked.{sectors_of, start_in}
use Rattle.write_planning.specs.Span.{count_of, first_of}
use Rattle.write_planning.proofs.Meeting.{met_inside}
use Rattle.write_planning.proofs.Sectors.{has_sector}
use Rattle.write_preparing.specs.declared.placed.Placed.{Placed}
use Rattle.write_linking.specs.Linking.{IsLinkedAll, IsReady, span_in}

module _ (p : Placed) (sector : ℕ) (w : Layer) (l : Laying) (x : VolumeRecord) (host : ℕ) (f : File) (ready : IsReady p sector w l x host f) (last : sectors_of (span_in p) ≤ sector) where
  starts_past : (j : ℕ) → j < count_of (span_in p) → j < start_in (span_in p) sector
  starts_past j lt =
      let at = has_sector (first_of (span_in p)) (count_of (span_in p)) j lt in
      omega (arith, at.1, at.3, last)

  holds : (k : ℕ) → IsInPart l.part k → k < volume_sectors x → own_in x f k ≡ Some (sector_in_part l.part k)
  holds k inside low =
      let at = ready.at in
      let same = ready.length in
      let width = ready.given.width in
      let byte : (span_in p).at + (512 * k - (span_in p).at) ≡ 512 * k = omega (arith, at, inside.0) in
      let in_it : 512 * k - (span_in p).at < (span_in p).length = omega (arith, at, same, inside.0, inside.1) in
      let met = met_inside (span_in p).at (span_in p).length (span_in p).width (512 * k / (span_in p).width) (span_in p).part (512 * k - (span_in p).at, in_it, ap (λ n. n / (span_in p).width) byte) in
      let index : first_of (span_in p) + (512 * k / (span_in p).width - first_of (span_in p)) ≡ 512 * k / (span_in p).width = omega (arith, met.0) in
      let j : ℕ = 512 * k / (span_in p).width - first_of (span_in p) in
      let lt : j < count_of (span_in p) = omega (arith, met.0, met.1) in
      ready.holds j k (record { index = lt; cluster = sym (index ∙ ap (λ n. 512 * k / n) width); inside = low }) (inl (starts_past j lt)) inside

  pub linked_all : IsLinkedAll w l x host f
  linked_all = record {
    writer = ready.writer;
    settled = ready.settled;
    holds = λ g out k among inside low. subst (λ (o : File). own_in x o k ≡ Some (sector_in_part l.part k)) (sym (settled_file f g ready.settled out)) (holds k inside low);
  }
