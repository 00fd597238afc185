-- What is known of the part after each move.
use Rattle.std.proofs.Common.{◌≡◌, ◌⊎◌, ℕ, ◌+◌, ◌-◌, ◌*◌, ◌/◌, ◌<◌, ◌≤◌, true, List, length, slice_get, Option, Some, None, refl, sym, ap, ◌∙◌, subst, inl, inr, arith}
use Rattle.std.proofs.lemmas.Bool.{cases_lt, false≢true}
use Rattle.sd_names.specs.declared.id.Id.{Id}
use Rattle.shared_disk.specs.Content.{Content, File, sector_of, zero_sector}
use Rattle.shared_disk.specs.Crash.{IsAlso}
use Rattle.qcow_layer.specs.declared.stages.Target as layers
use Rattle.chain_model.specs.Folder.{Volumes}
use Rattle.chain_model.specs.Growth.{IsLonger}
use Rattle.chain_model.specs.Own.{own}
use Rattle.volume_chain.specs.Chain.{IsOpenAs, open_in, path_in, place_in, target_of}
use Rattle.volume_chain.specs.Knowing.{IsKnown}
use Rattle.volume_chain.specs.declared.chain.Chain.{Chain}
use Rattle.volume_chain.specs.declared.volumes.OpenVolume.{OpenVolume}
use Rattle.volume_chain.specs.declared.volumes.OpenVolume.TheVariants as volumes
use Rattle.chain_reading.specs.Asked.{asked_by, asked_in, asked_of, end_in, sectors_in}
use Rattle.chain_reading.specs.Choosing.{NoneMissing, is_free, past}
use Rattle.chain_reading.specs.Knowing.{IsAsked, IsReadable, KnowsImage, KnowsPart, place_on, records_of}
use Rattle.chain_reading.specs.Laying.{AreZeros, IsLaid, is_missing}
use Rattle.chain_reading.specs.Reading.{IsBehind, IsPassed, RunsOn}
use Rattle.chain_reading.specs.Running.{HasSectors}
use Rattle.chain_reading.specs.declared.asked.Asked.{Asked}
use Rattle.chain_reading.specs.declared.part.ReadPart.{ReadPart}
use Rattle.chain_reading.specs.declared.part.Stage.{Stage}
use Rattle.chain_reading.specs.declared.running.Run.{Run}
use Rattle.chain_reading.proofs.Looks.{none_asked}
use Rattle.chain_reading.proofs.Owning.{along_at, cow_record}
use Rattle.chain_reading.proofs.Standing.{each_laid, each_passed, each_skipped, still_from}

-- ---- the volume that is asked

-- it is open, and has a file
pub record IsOpenHere (p : ReadPart) (c : Chain) (x : Volumes) (a : Asked) : Type 0 where
  pub volume : Id
  pub opened : OpenVolume
  pub file : File
  pub is : IsAsked p c x volume file
  pub open_is : slice_get (open_in c) p.index ≡ Some opened
  pub asked : asked_of c volume opened ≡ a

parts : (c : Chain) (o : Option Id) (q : Option OpenVolume) (a : Asked) → asked_by c o q ≡ Some a → (v : Id) × (w : OpenVolume) × (o ≡ Some v) × (q ≡ Some w) × (asked_of c v w ≡ a)
parts c None q a e = absurd cc
parts c (Some v) None a e = absurd cc
parts c (Some v) (Some w) a e = (v, w, refl, refl, cc)

file_before : (o q : Option File) (g : File) → IsAlso IsLonger o q → q ≡ Some g → (f : File) × (o ≡ Some f)
file_before (Some f) q g also e = (f, refl)
file_before None (Some h) g also e = absurd also
file_before None None g also e = absurd cc

file_there : (c : Chain) (host : ℕ) (d : Content) (v : Id) (o : OpenVolume) → IsOpenAs (target_of c) v (records_of c v) o → IsKnown (target_of c) host d v o
    → (f : File) × (d.file (place_in (target_of c) v) ≡ Some f)
file_there c host d v (volumes.Raw n) is known = (known.0, known.1)
file_there c host d v (volumes.Cow l) is known =
    let says = cow_record (target_of c) v l (records_of c v) is in
    (known.file, ap (λ (t : layers.Target). d.file t.place) (sym says.3) ∙ known.there)

pub open_here : (p : ReadPart) (c : Chain) (host : ℕ) (x : Volumes) (d : Content) (a : Asked) → KnowsImage c p.volume host x d → place_on p.volume (path_in c) ≤ p.index → asked_in c p.index ≡ Some a → IsOpenHere p c x a
open_here p c host x d a k from e = go (parts c (slice_get (path_in c) p.index) (slice_get (open_in c) p.index) a e)
  where
    go : (v : Id) × (w : OpenVolume) × (slice_get (path_in c) p.index ≡ Some v) × (slice_get (open_in c) p.index ≡ Some w) × (asked_of c v w ≡ a) → IsOpenHere p c x a
    go q =
        let shown = along_at (λ u o. IsOpenAs (target_of c) u (records_of c u) o) (path_in c) (open_in c) p.index q.0 q.1 k.shape.each q.2 q.3 in
        let readable : IsReadable c host x d q.0 q.1 = k.each p.index q.0 q.1 (record { from = from; volume = q.2; opened = q.3 }) in
        let there = file_there c host d q.0 q.1 shown readable.known in
        let f = file_before (x.file q.0) (d.file (place_in (target_of c) q.0)) there.0 readable.longer there.1 in
        record { volume = q.0; opened = q.1; file = f.0; is = record { volume = q.2; file = f.1 }; open_is = q.3; asked = q.4 }

pub readable_here : (p : ReadPart) (c : Chain) (host : ℕ) (x : Volumes) (d : Content) (a : Asked) → KnowsImage c p.volume host x d → place_on p.volume (path_in c) ≤ p.index → (h : IsOpenHere p c x a) → IsReadable c host x d h.volume h.opened
readable_here p c host x d a k from h = k.each p.index h.volume h.opened (record { from = from; volume = h.is.volume; opened = h.open_is })

-- ---- the run is read

pub read_moves : (p next : ReadPart) (c : Chain) (host : ℕ) (x : Volumes) (d : Content) (part part' bytes : List ℕ) (v : Id) (f g : File) (stage : Stage) → KnowsImage c p.volume host x d → IsAsked p c x v f
    → IsLonger f g → IsBehind p p.run.to stage next → KnowsPart p c x part → HasSectors p.run g bytes → IsLaid p.missing next.missing part part' p.run.from p.run.to bytes → KnowsPart next c x part'
read_moves p next c host x d part part' bytes v f g stage k asked longer moved knows has lays = record {
  each = λ j fits. each_laid p next c x part part' bytes v f p.run.from moved.part moved.index asked (omega arith) refl (omega (arith, moved.from, p.run.order)) held
      (subst (λ n. IsLaid p.missing next.missing part part' p.run.from n bytes) (sym moved.from) lays) j (knows.each j (omega (arith, fits, lays.len)));
  run = λ u h is j low high. absurd (omega (arith, low, high, moved.from, moved.to));
  low = λ less. absurd (omega (arith, less, moved.from, moved.to));
  inside = omega (arith, knows.inside, moved.to, lays.len);
  from = still_from p next c moved.part (omega (arith, moved.index)) knows.from;
}
  where
    held : (j : ℕ) → p.run.from ≤ j → j < next.run.from → own (records_of c) x v (p.first + j) ≡ Some (sector_of bytes (j - p.run.from))
    held j low high =
        knows.run v f asked j low (omega (arith, high, moved.from))
        ∙ ap (λ (s : List ℕ). Some s) (sym (has (j - p.run.from) (omega (arith, low, high, moved.from)) ∙ longer.sectors (p.run.sector + (j - p.run.from))))

-- ---- sectors behind a run that is none

pub zero_moves : (p next : ReadPart) (c : Chain) (x : Volumes) (part part' bytes : List ℕ) (v : Id) (f : File) (end : ℕ) (stage : Stage) → IsAsked p c x v f
    → is_free p → p.run.to ≤ end → end ≤ 128 → IsBehind p end stage next → KnowsPart p c x part → 512 * end ≤ length part → AreZeros bytes → IsLaid p.missing next.missing part part' p.run.to end bytes
    → ((j : ℕ) → p.run.to ≤ j → j < end → own (records_of c) x v (p.first + j) ≡ Some zero_sector) → KnowsPart next c x part'
zero_moves p next c x part part' bytes v f end stage asked free order few moved knows fits zeros lays held = record {
  each = λ j inside. each_laid p next c x part part' bytes v f p.run.to moved.part moved.index asked (omega (arith, free)) (sym free) (omega (arith, moved.from, order))
      (λ j low high. held j low (omega (arith, high, moved.from)) ∙ ap (λ (s : List ℕ). Some s) (sym (zeros (j - p.run.to) (omega (arith, high, moved.from, few)))))
      (subst (λ n. IsLaid p.missing next.missing part part' p.run.to n bytes) (sym moved.from) lays) j (knows.each j (omega (arith, inside, lays.len)));
  run = λ u h is j low high. absurd (omega (arith, low, high, moved.from, moved.to));
  low = λ less. absurd (omega (arith, less, moved.from, moved.to));
  inside = omega (arith, fits, moved.to, lays.len);
  from = still_from p next c moved.part (omega (arith, moved.index)) knows.from;
}

pub skip_moves : (p next : ReadPart) (r : Run) (c : Chain) (x : Volumes) (part : List ℕ) (v : Id) (f : File) (stage : Stage) → IsAsked p c x v f
    → is_free p → p.run.to ≤ r.from → r.from ≡ r.to → RunsOn p r stage next → KnowsPart p c x part → 512 * r.to ≤ length part
    → ((j : ℕ) → p.run.to ≤ j → j < r.from → is_missing p.missing j ≡ true → own (records_of c) x v (p.first + j) ≡ None) → KnowsPart next c x part
skip_moves p next r c x part v f stage asked free order empty moved knows fits none =
    let from : next.run.from ≡ r.from = ap (λ (q : Run). q.from) moved.run in
    let to : next.run.to ≡ r.to = ap (λ (q : Run). q.to) moved.run in
    record {
      each = λ j inside. each_skipped p next c x part v f moved.part moved.index moved.missing asked (omega (arith, from, order, free))
          (λ j low high m. none j (omega (arith, low, free)) (omega (arith, high, from)) m) j (knows.each j inside);
      run = λ u h is j low high. absurd (omega (arith, low, high, from, to, empty));
      low = λ less. absurd (omega (arith, less, from, to, empty));
      inside = omega (arith, fits, to);
      from = still_from p next c moved.part (omega (arith, moved.index)) knows.from;
    }

pub pass_moves : (p next : ReadPart) (c : Chain) (x : Volumes) (a : Asked) (part : List ℕ) → IsOpenHere p c x a
    → is_free p → NoneMissing p (end_in a p.first (length part / 512)) → IsPassed p next → KnowsPart p c x part → KnowsPart next c x part
pass_moves p next c x a part h free none moved knows = record {
  each = λ j inside. each_passed p next c x part h.volume moved.part moved.index moved.missing moved.from h.is.volume j (λ le m. held j inside le m) (knows.each j inside);
  run = λ u g is j low high. absurd (omega (arith, low, high, moved.from, moved.to));
  low = λ less. absurd (omega (arith, less, moved.from, moved.to));
  inside = omega (arith, moved.to);
  from = still_from p next c moved.part (omega (arith, moved.index)) knows.from;
}
  where
    held : (j : ℕ) → 512 * (j + 1) ≤ length part → p.run.from ≤ j → is_missing p.missing j ≡ true → own (records_of c) x h.volume (p.first + j) ≡ None
    held j inside le m = go (cases_lt j (end_in a p.first (length part / 512)))
      where
        sectors : sectors_in c h.volume ≡ a.sectors
        sectors = ap (λ (b : Asked). b.sectors) h.asked

        go : (j < end_in a p.first (length part / 512)) ⊎ (end_in a p.first (length part / 512) ≤ j) → own (records_of c) x h.volume (p.first + j) ≡ None
        go (inl less) = absurd (false≢true (sym (none j (omega (arith, le, free)) less) ∙ m))
        go (inr past) = none_asked c x h.volume (p.first + j) (omega (arith, past, inside, sectors))
