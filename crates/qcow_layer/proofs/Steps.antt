-- A step of an opening, in words of what is known before and after.
use Rattle.std.proofs.Common.{◌≡◌, inl, inr, ℕ, ◌*◌, ◌/◌, ◌^◌, ◌<◌, max, List, None, Ok, refl, sym, ap, ◌∙◌, subst, arith}
use Rattle.std.specs.Prelude.{MatchResult, not}
use Rattle.sd_names.specs.declared.fault.LayerFault.{LayerFault}
use Rattle.sd_names.specs.declared.refusal.Refusal.{Refusal}
use Rattle.sd_names.specs.declared.turn.Turn.TheVariants.{Ended}
use Rattle.sd_names.specs.Turn.{MatchTurn}
use Rattle.shared_disk.specs.Content.{Content}
use Rattle.shared_disk.specs.Calls.{IsSame}
use Rattle.qcow_format.specs.declared.header.Header.{Header}
use Rattle.qcow_format.specs.Name.{backing_id}
use Rattle.image_model.specs.File.{File, file_of, sector_in}
use Rattle.image_model.specs.Layer.{is_used}
use Rattle.image_model.specs.Soundness.{FirstFault, HasFault, IsClean, IsSound, layer_header}
use Rattle.layer_walk.specs.Items.{layer_of}
use Rattle.layer_walk.specs.Known.{IsRead, Keeps, KeepsWork, WalkKnows, tables_of, work_of}
use Rattle.layer_walk.specs.Known as walks
use Rattle.layer_walk.specs.Left.{Below, Fits, walk_left}
use Rattle.layer_walk.specs.Marks.{map_size}
use Rattle.layer_walk.specs.Walking.{IsNear, WalkTakes, place_of}
use Rattle.layer_walk.specs.declared.walk.Passed.{Passed}
use Rattle.layer_walk.specs.declared.walk.Passed.TheVariants as passed
use Rattle.layer_walk.specs.declared.walk.Walk.{Walk}
use Rattle.layer_walk.specs.declared.work.Work.{Work}
use Rattle.qcow_layer.specs.Left.{Falls}
use Rattle.qcow_layer.specs.Stages.{After, IsGone, IsRefused, IsWork, Steps, roof, turn_of}
use Rattle.qcow_layer.specs.Seen.{IsReadRefusal, IsSeen}
use Rattle.qcow_layer.specs.declared.stages.Target.{Target}
use Rattle.qcow_layer.specs.declared.stages.Stage.{Stage}
use Rattle.qcow_layer.specs.declared.stages.Stage.TheVariants.{Walking}
use Rattle.layer_walk.proofs.Numbers.{same_sector}

-- ---- a read that was refused

gone : (target : Target) (refusal : Refusal) (faults : ℕ) (d : Content) → IsReadRefusal target.place faults refusal d → IsGone target refusal d
gone target refusal faults d (inl e) = subst (λ r. IsGone target r d) (sym e) tt
gone target refusal faults d (inr e) = subst (λ r. IsGone target r d) (sym e.0) (refl, e.1)

not_there : (target : Target) (host count : ℕ) (sectors : ℕ → List ℕ) (d : Content) → IsSeen host target.place count sectors d → d.file target.place ≡ None → ⊥
not_there target host count sectors d seen e = let f = seen.there in cc

refused_read : (target : Target) (host count : ℕ) (sectors : ℕ → List ℕ) (refusal : Refusal) (faults : ℕ) (d : Content) (file : File) → IsSeen host target.place count sectors d
    → IsReadRefusal target.place faults refusal d → IsRefused target file refusal
refused_read target host count sectors refusal faults d file seen (inl e) = subst (λ r. IsRefused target file r) (sym e) tt
refused_read target host count sectors refusal faults d file seen (inr e) = absurd (not_there target host count sectors d seen e.1)

pub read_refused : (target : Target) (host faults : ℕ) (stage : Stage) (refusal : Refusal) (d e : Content) → IsSame d e → IsReadRefusal target.place faults refusal d
    → Steps target host stage (Ended tt refusal) d e
read_refused target host faults stage refusal d e same cause = record {
  same = same;
  gone = gone target refusal faults d cause;
  after = λ count sectors knows. refused_read target host count sectors refusal faults d (file_of count sectors) knows.seen cause;
}

-- ---- a sector that was read

pub size_of : (count : ℕ) (sectors : ℕ → List ℕ) → (file_of count sectors).size ≡ 512 * count
unfolding file_of
size_of count sectors = refl

-- ---- what it leaves

pub first_fault : (capacity : ℕ) (file : File) (header : Header) (fault : LayerFault) → layer_header file capacity ≡ Ok header → FirstFault (layer_of header file) capacity fault → HasFault file capacity fault
first_fault capacity file header fault e first =
    subst (λ r. MatchResult r (λ h. FirstFault (layer_of h file) capacity fault) (λ f. f ≡ fault)) (sym e) first

sound_of : (capacity : ℕ) (file : File) (header : Header) → layer_header file capacity ≡ Ok header → ((n : ℕ) → IsClean (layer_of header file) capacity n) → IsSound file capacity
sound_of capacity file header e clean = subst (λ r. MatchResult r (λ h. (n : ℕ) → IsClean (layer_of h file) capacity n) (λ f. ⊥)) (sym e) clean

-- the layer is the same
work_still : (target : Target) (file : File) (a b : Work) → KeepsWork a b → IsWork target file a → IsWork target file b
work_still target file a b keeps is = record {
  header = (is.header.0 ∙ ap (λ (h : Header). Ok h) (sym keeps.header), keeps.parent ∙ is.header.1 ∙ ap (λ (h : Header). backing_id h file.head) (sym keeps.header));
  marks = record { size = keeps.marks.size ∙ is.marks.size; cluster = keeps.marks.cluster ∙ is.marks.cluster ∙ ap (λ (h : Header). 2 ^ h.cluster_bits) (sym keeps.header) };
  room = keeps.marks.room ∙ is.room ∙ ap (λ (h : Header). map_size (max file.size (roof target.greatest)) (2 ^ h.cluster_bits)) (sym keeps.header);
}

pub turned : (target : Target) (host count : ℕ) (sectors : ℕ → List ℕ) (work : Work) (p : Passed) (d : Content) → IsSeen host target.place count sectors d
    → IsWork target (file_of count sectors) work → Keeps work p → walks.After (tables_of work (file_of count sectors)) target.capacity p → After target host count sectors (turn_of target p) d
turned target host count sectors work (passed.More next) d seen is keeps after = record {
  seen = seen;
  holds = (work_still target (file_of count sectors) work (work_of next) keeps is, subst (λ h. WalkKnows (layer_of h (file_of count sectors)) target.capacity next) (sym keeps.header) after);
}
turned target host count sectors work (passed.Sound done) d seen is keeps after = record {
  sound = sound_of target.capacity (file_of count sectors) work.header is.header.0 after.sound;
  is_work = work_still target (file_of count sectors) work done keeps.keeps is;
  free = λ c lt. after.free c lt ∙ ap (λ (h : Header). not (is_used (layer_of h (file_of count sectors)) c)) (sym keeps.keeps.header);
}
turned target host count sectors work (passed.Fault fault) d seen is keeps after =
    (refl, first_fault target.capacity (file_of count sectors) work.header fault is.header.0 after)

turned_gone : (target : Target) (p : Passed) (d : Content) → MatchTurn (turn_of target p) (λ _. Unit {0}) (λ _. Unit {0}) (λ _ refusal. IsGone target refusal d)
turned_gone target (passed.More next) d = tt
turned_gone target (passed.Sound done) d = tt
turned_gone target (passed.Fault fault) d = tt

pub walked : (target : Target) (host at : ℕ) (w : Walk) (sector : List ℕ) (p : Passed) (d e : Content) → IsNear (place_of w) at
    → ((count : ℕ) (sectors : ℕ → List ℕ) → IsSeen host target.place count sectors d → sector ≡ sector_in count sectors (at / 512 * 512 / 512)) → IsSame d e
    → Keeps (work_of w) p → WalkTakes target.capacity w sector p → Steps target host (Walking w) (turn_of target p) d e
walked target host at w sector p d e near read same keeps takes = record {
  same = same;
  gone = turned_gone target p d;
  after = λ count sectors knows.
      let small : 512 * count < 2 ^ 64 = omega (arith, knows.holds.0.marks.size, size_of count sectors, (work_of w).marks.fits) in
      let is : IsRead count sectors (place_of w) sector = read count sectors knows.seen ∙ same_sector count (place_of w) at sectors small near in
      subst (After target host count sectors (turn_of target p)) (sym same)
      (turned target host count sectors (work_of w) p d knows.seen knows.holds.0 keeps (takes count sectors knows.holds.0.marks is knows.holds.1));
}

-- ---- fewer steps are left

pub walk_falls : (target : Target) (w : Walk) (p : Passed) → Keeps (work_of w) p → Below (work_of w) (λ h tables. walk_left h tables w) p → Falls (Walking w) (turn_of target p)
walk_falls target w (passed.More next) keeps below = λ h tables anti is. (
  sym keeps.header ∙ is.0,
  let same : (work_of w).header ≡ h = sym keeps.header ∙ is.0 in
      subst (λ x. walk_left x tables next < walk_left x tables w) same (below tables anti (subst (λ x. Fits x tables next) (sym same) is.1)),
)
walk_falls target w (passed.Sound done) keeps below = tt
walk_falls target w (passed.Fault fault) keeps below = tt
