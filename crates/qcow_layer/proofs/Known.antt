-- What stays known of a file, and what an opening that knows it says of its steps.
use Rattle.std.proofs.Common.{◌≡◌, ℕ, ◌<◌, ◌≤◌, Bool, true, false, List, Option, Some, None, Result, Ok, Err, refl, sym, ap, ◌∙◌, subst, arith, nat_lt}
use Rattle.std.specs.Prelude.{unwrap_or, if◌then◌else◌}
use Rattle.std.proofs.lemmas.Bool.Decides.{nat_tests}
use Rattle.sd_names.specs.declared.fault.LayerFault.{LayerFault}
use Rattle.sd_names.specs.declared.fault.LayerFault.TheVariants.{Short, Size}
use Rattle.sd_names.specs.declared.place.Place.{Place}
use Rattle.shared_disk.specs.Changes.{grown, raised}
use Rattle.shared_disk.specs.Content.{Content, File, own_of, seen, zero_sector}
use Rattle.shared_disk.specs.SectorCalls.{IsGrown}
use Rattle.qcow_format.specs.Header.{header_of}
use Rattle.qcow_format.specs.declared.header.Header.{Header}
use Rattle.qcow_format.proofs.Kept.{backing_id-none}
use Rattle.image_model.specs.File as image
use Rattle.image_model.specs.File.{file_of, sector_in}
use Rattle.image_model.specs.Soundness.{layer_header, layer_header_of}
use Rattle.layer_walk.specs.Items.{layer_of}
use Rattle.layer_walk.specs.Known.{work_of}
use Rattle.layer_walk.specs.Left.{Fits, IsInside, positions_from}
use Rattle.layer_walk.proofs.Insides.{inside_fits}
use Rattle.layer_walk.specs.Steps.{IsStop, named_from}
use Rattle.layer_walk.proofs.Named.{walk_fits}
use Rattle.qcow_layer.specs.Left.{HasHead, IsOf, StageInside}
use Rattle.qcow_layer.specs.Opening.{SameLength}
use Rattle.qcow_layer.specs.Stages.{IsOpened, Knows, StageKnows}
use Rattle.qcow_layer.specs.Seen.{IsSeen}
use Rattle.qcow_layer.specs.declared.stages.Target.{Target}
use Rattle.layer_walk.specs.declared.work.Work.{Work}
use Rattle.qcow_layer.specs.declared.stages.Stage.{Stage}
use Rattle.qcow_layer.specs.declared.stages.Stage.TheVariants.{Begun, Sized, Walking}
use Rattle.layer_walk.proofs.Numbers.{past_end}
use Rattle.qcow_layer.proofs.Pieces.{same_file}

-- ---- the bound of an opening

one_header : (r : Result Header LayerFault) (a b : Header) → r ≡ Ok a → r ≡ Ok b → a ≡ b
one_header (Ok h) a b e f = cc
one_header (Err fault) a b e f = absurd cc

pub bounds : (target : Target) (host count stop : ℕ) (sectors : ℕ → List ℕ) (stage : Stage) (h : Header) (d : Content) → Knows target host count sectors stage d
    → layer_header (file_of count sectors) target.capacity ≡ Ok h → IsStop (layer_of h (file_of count sectors)) target.capacity stop
    → IsOf h (named_from (layer_of h (file_of count sectors)) target.capacity stop) stage
bounds target host count stop sectors Begun h d knows is stops = tt
bounds target host count stop sectors (Sized length) h d knows is stops = tt
bounds target host count stop sectors (Walking w) h d knows is stops =
    let same : (work_of w).header ≡ h = one_header (layer_header (file_of count sectors) target.capacity) (work_of w).header h knows.holds.0.header.0 is in (
      same,
      subst (λ x. IsStop (layer_of x (file_of count sectors)) target.capacity stop → Fits x (named_from (layer_of x (file_of count sectors)) target.capacity stop) w) same
          (λ s. walk_fits (layer_of (work_of w).header (file_of count sectors)) target.capacity stop s w knows.holds.1) stops,
    )

-- on every disk each position may be counted
pub inside_bounds : (h : Header) (stage : Stage) → HasHead h stage → StageInside stage → IsOf h (positions_from h) stage
inside_bounds h Begun same inside = tt
inside_bounds h (Sized length) same inside = tt
inside_bounds h (Walking w) same inside = (same, inside_fits h w (subst (λ x. IsInside x w) same inside))

-- ---- what others may do

holds_on : (target : Target) (before after count : ℕ) (sectors : ℕ → List ℕ) (stage : Stage) → StageKnows target before count sectors stage → SameLength stage before after
    → StageKnows target after count sectors stage
holds_on target before after count sectors Begun holds same = holds ∙ sym same
holds_on target before after count sectors (Sized length) holds same = holds
holds_on target before after count sectors (Walking w) holds same = holds

pub survives : (target : Target) (host count : ℕ) (sectors : ℕ → List ℕ) (stage : Stage) (d e : Content) → (knows : Knows target host count sectors stage d)
    → (s : IsSeen host target.place count sectors e) → SameLength stage knows.seen.file.size s.file.size → Knows target host count sectors stage e
survives target host count sectors stage d e knows s same = record {
  seen = s;
  holds = holds_on target knows.seen.file.size s.file.size count sectors stage knows.holds same;
}

pub untouched : (host count : ℕ) (place : Place) (sectors : ℕ → List ℕ) (d e : Content) → e.file place ≡ d.file place → IsSeen host place count sectors d → IsSeen host place count sectors e
untouched host count place sectors d e same s = record { file = s.file; there = same ∙ s.there; long = s.long; alone = s.alone; same = s.same }

module _ (host count size : ℕ) (place : Place) (sectors : ℕ → List ℕ) (d e : Content) (s : IsSeen host place count sectors d)
    (none : (k : ℕ) → s.file.size ≤ k → own_of host k s.file.loose ≡ None) where
  zeros : (k : ℕ) → s.file.size ≤ k → unwrap_or (own_of host k s.file.loose) zero_sector ≡ sector_in count sectors k
  unfolding zero_sector
  zeros k past = ap (λ (o : Option (List ℕ)). unwrap_or o zero_sector) (none k past) ∙ sym (past_end count k sectors (omega (arith, past, s.long)))

  raised_same : (k : ℕ) → seen host (raised size s.file) k ≡ sector_in count sectors k
  raised_same k = go (nat_lt k s.file.size) refl
    where
      low : nat_lt k s.file.size ≡ true → k < s.file.size
      low t = grind (arith, nat_tests)

      high : nat_lt k s.file.size ≡ false → s.file.size ≤ k
      high t = grind (arith, nat_tests)

      go : (t : Bool) → nat_lt k s.file.size ≡ t → unwrap_or (own_of host k s.file.loose) (if nat_lt k s.file.size then s.file.stable k else zero_sector) ≡ sector_in count sectors k
      go true t = ap (λ (b : Bool). unwrap_or (own_of host k s.file.loose) (if b then s.file.stable k else zero_sector)) t ∙ s.same k (low t)
      go false t = ap (λ (b : Bool). unwrap_or (own_of host k s.file.loose) (if b then s.file.stable k else zero_sector)) t ∙ zeros k (high t)

  longer : (t : Bool) → nat_lt s.file.size size ≡ t → e.file place ≡ Some (if t then raised size s.file else s.file) → IsSeen host place count sectors e
  longer false t is = record { file = s.file; there = is; long = s.long; alone = s.alone; same = s.same }
  longer true t is = record { file = raised size s.file; there = is; long = omega (arith, s.long, below t); alone = s.alone; same = λ k lt. raised_same k }
    where
      below : nat_lt s.file.size size ≡ true → s.file.size < size
      below t = grind (arith, nat_tests)

  pub longer_seen : IsGrown d place size e → IsSeen host place count sectors e
  longer_seen grows =
      let same : s.file ≡ grows.0 = same_file d place grows.0 s.file grows.1 s.there in
      longer (nat_lt s.file.size size) refl (grows.2.here ∙ ap (λ (f : File). Some (grown size f)) (sym same))

-- ---- the parent

kept_header : (h x : Header) (b : Bool) → (if b then Err (Size x.size) else Ok x) ≡ Ok h → x ≡ h
kept_header h x true e = absurd cc
kept_header h x false e = cc

header_in : (file : image.File) (capacity : ℕ) (h : Header) → layer_header file capacity ≡ Ok h → header_of file.head ≡ Ok h
unfolding layer_header
header_in file capacity h e = go (nat_lt file.size 512) (header_of file.head) refl e
  where
    go : (b : Bool) (r : Result Header LayerFault) → header_of file.head ≡ r → (if b then Err Short else layer_header_of capacity r) ≡ Ok h → header_of file.head ≡ Ok h
    go true r is e = absurd cc
    go false (Err fault) is e = absurd cc
    go false (Ok x) is e = is ∙ ap (λ (g : Header). Ok g) (kept_header h x (nat_lt x.size capacity) e)

pub parent_none : (target : Target) (file : image.File) (work : Work) → IsOpened target file work
    → (work.parent ≡ None → work.header.backing_file_offset ≡ 0) × (work.header.backing_file_offset ≡ 0 → work.parent ≡ None)
parent_none target file work opened =
    let none = backing_id-none file.head work.header (header_in file target.capacity work.header opened.is_work.header.0) in
    (λ e. none.0 (sym opened.is_work.header.1 ∙ e), λ e. opened.is_work.header.1 ∙ none.1 e)
