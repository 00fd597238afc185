-- Room that is asked for is there or short.
use Rattle.std.proofs.Common.{◌≡◌, ◌⊎◌, inl, inr, ℕ, zero, suc, ◌+◌, ◌-◌, ◌/◌, ◌^◌, ◌<◌, ◌≤◌, Bool, true, List, [], ◌∷◌, length, refl, sym, ap, ◌∙◌, subst, arith}
use Rattle.std.specs.Prelude.{◌↔◌, min, slice_index}
use Rattle.std.proofs.lemmas.Bool.{cases_lt}
use Rattle.sd_names.specs.declared.refusal.Refusal.{Refusal}
use Rattle.shared_disk.specs.Content.{Content, File}
use Rattle.shared_disk.proofs.Outcomes.{settled_itself}
use Rattle.volume_meta.specs.declared.record.VolumeRecord.{VolumeRecord}
use Rattle.image_model.specs.File as image
use Rattle.image_model.specs.Layer.{cluster_size, covered}
use Rattle.image_model.specs.Room.{end_of_room, free_below, how_many, room_of}
use Rattle.layer_laws.specs.Laws.{layer}
use Rattle.qcow_format.specs.declared.header.Header.{Header}
use Rattle.qcow_layer.specs.Knowing.{is_free, mapped}
use Rattle.qcow_layer.specs.declared.layer.Layer.{Layer}
use Rattle.layer_writing.specs.Holding.{as_seen}
use Rattle.layer_writing.specs.Writer.{MapTells, seen_tables}
use Rattle.layer_writing.proofs.Known.{settled_medium}
use Rattle.layer_heading.specs.Clearing as heading
use Rattle.layer_heading.specs.Writing.{IsQuiet}
use Rattle.layer_heading.specs.declared.clearing.Clearing.{Clearing}
use Rattle.layer_heading.specs.declared.clearing_stage.ClearingStage.{ClearingStage}
use Rattle.layer_heading.specs.declared.clearing_stage.ClearingStage.TheVariants.{Begun}
use Rattle.layer_placing.specs.Chosen.{AreLeast}
use Rattle.layer_placing.proofs.Least.{fewer_free, grows, next_counted}
use Rattle.chain_laws.specs.Laid.{Laying}
use Rattle.write_planning.specs.Plan.{span_of, wanted_of}
use Rattle.write_planning.specs.declared.plan.WritePlan.{WritePlan}
use Rattle.write_planning.specs.declared.span.Span.{Span}
use Rattle.write_planning.proofs.Counts.{counted_at}
use Rattle.write_planning.proofs.Needs.{wants_need}
use Rattle.part_survey.specs.Survey.{HasFound}
use Rattle.part_survey.proofs.Finding.{tells}
use Rattle.write_preparing.specs.Preparing.{HasRoom, KnowsAsking, KnowsClearingOf, LacksRoom}
use Rattle.write_preparing.proofs.Room.{seen_size}
use Rattle.guest_steps.specs.Room.{IsShortIn, IsShortOf, end_known, need_of, room_seen}

-- ---- the least numbers with a property

record IsNth (P : ℕ → Bool) (end n x : ℕ) : Type 0 where
  pub is : P x ≡ true
  pub below : how_many P x ≡ n
  pub inside : x < end

record AreNth (P : ℕ → Bool) (end start count : ℕ) : Type 0 where
  pub xs : List ℕ
  pub all : length xs ≡ count
  pub each : (i : ℕ) → i < length xs → IsNth P end (start + i) (slice_index xs i)

more_nth : (P : ℕ → Bool) (end start count x : ℕ) → IsNth P end start x → AreNth P end (suc start) count → AreNth P end start (suc count)
more_nth P end start count x is rest = record { xs = x ∷ rest.xs; all = ap suc rest.all; each = go }
  where
    go : (i : ℕ) → i < length (x ∷ rest.xs) → IsNth P end (start + i) (slice_index (x ∷ rest.xs) i)
    go zero lt = subst (λ n. IsNth P end n x) (omega arith) is
    go (suc i) lt = subst (λ n. IsNth P end n (slice_index rest.xs i)) (omega arith) (rest.each i (omega (arith, lt)))

nth : (P : ℕ → Bool) (end start count : ℕ) → start + count ≤ how_many P end → AreNth P end start count
nth P end start zero enough = record { xs = []; all = refl; each = λ i lt. absurd (omega (arith, lt)) }
nth P end start (suc count) enough =
    let at = counted_at P end start (omega (arith, enough)) in
    more_nth P end start count at.0 (record { is = at.2; below = at.3; inside = at.1 }) (nth P end (suc start) count (omega (arith, enough)))

-- ---- room

-- the room is the same for each file as long
same_end : (h : Header) (f g : image.File) → f.size ≡ g.size → end_of_room (room_of (layer h f)) ≡ end_of_room (room_of (layer h g))
same_end h f g same = ap (λ n. min (min n (covered (layer h f))) (2 ^ 56) / cluster_size (layer h f)) same

module _ (w : Layer) (host : ℕ) (f : File) (map : MapTells w (seen_tables w host f)) where
  free : free_below (room_seen w host f) (end_known w host f) ≡ how_many (is_free w) (end_known w host f)
  free = fewer_free w (seen_tables w host f) (end_known w host f) map (omega arith)

  there : (need : ℕ) → AreNth (is_free w) (end_known w host f) 0 need → HasRoom w f.size need
  there need found = record {
    chosen = found.xs;
    least = λ file size. subst (λ n. AreLeast w n need found.xs) (same_end w.work.header (as_seen host f) file (seen_size host f ∙ sym size)) (record {
      each = λ i lt. let is = found.each i lt in (record { free = is.is; below = is.below ∙ omega arith }, omega (arith, is.inside), omega (arith, is.inside));
      many = omega (arith, found.all);
      few = λ less. absurd (omega (arith, less, found.all));
    });
    all = found.all;
  }

  enough : (need : ℕ) → need ≤ free_below (room_seen w host f) (end_known w host f) → HasRoom w f.size need
  enough need le = there need (nth (is_free w) (end_known w host f) 0 need (omega (arith, le, free)))

  never_both : (need : ℕ) → HasRoom w f.size need → free_below (room_seen w host f) (end_known w host f) < need → ⊥
  never_both need room few =
      let last : length room.chosen - 1 < length room.chosen = omega (arith, few, room.all) in
      let at = (room.least (as_seen host f) (seen_size host f)).each (length room.chosen - 1) last in
      let x : ℕ = slice_index room.chosen (length room.chosen - 1) in
      let more = grows (is_free w) (x + 1) (end_known w host f) (omega (arith, at.1, at.2)) in
      let next = next_counted (is_free w) x at.0.free in
      omega (arith, few, free, more, next, at.0.below, room.all)

-- ---- where a write asks for it

module _ (p : WritePlan) (w : Layer) (l : Laying) (x : VolumeRecord) (host : ℕ) (f : File) (k : KnowsAsking p w l x host f) where
  wants : wanted_of p ≡ need_of (span_of p) w host f
  wants = wants_need p (room_seen w host f) k.tells

  pub short_or_found : HasRoom w f.size (wanted_of p) ⊎ IsShortOf (span_of p) w host f
  short_or_found = go (cases_lt (free_below (room_seen w host f) (end_known w host f)) (need_of (span_of p) w host f))
    where
      go : IsShortOf (span_of p) w host f ⊎ (need_of (span_of p) w host f ≤ free_below (room_seen w host f) (end_known w host f)) → HasRoom w f.size (wanted_of p) ⊎ IsShortOf (span_of p) w host f
      go (inl short) = inr short
      go (inr le) = inl (subst (λ n. HasRoom w f.size n) (sym wants) (enough w host f k.quiet.writer.knows.numbers.used (need_of (span_of p) w host f) le))

  pub not_both : HasRoom w f.size (wanted_of p) → IsShortOf (span_of p) w host f → ⊥
  not_both room short = never_both w host f k.quiet.writer.knows.numbers.used (need_of (span_of p) w host f) (subst (λ n. HasRoom w f.size n) wants room) short

-- where the preparing has gone on from there, and changed nothing yet
module _ (p : WritePlan) (c : Clearing) (w : Layer) (l : Laying) (x : VolumeRecord) (host : ℕ) (f : File) (k : KnowsClearingOf p c w l x host f) (begun : heading.stage_of c ≡ Begun) where
  quiet : IsQuiet w host f
  quiet = subst (λ (s : ClearingStage). heading.KnowsStage w host s f) begun k.knows

  found : HasFound p (seen_tables w host f)
  found = subst (λ (z : image.File). HasFound p (layer w.work.header z)) (sym (settled_medium host f quiet.settled)) (k.found f (settled_itself f quiet.settled))

  wants_still : wanted_of p ≡ need_of (span_of p) w host f
  wants_still = wants_need p (room_seen w host f) (tells p (seen_tables w host f) found k.all)

  pub not_short_there : IsShortOf (span_of p) w host f → ⊥
  not_short_there short = go (cases_lt 0 (wanted_of p))
    where
      go : (0 < wanted_of p) ⊎ (wanted_of p ≤ 0) → ⊥
      go (inl some) = never_both w host f quiet.writer.knows.numbers.used (need_of (span_of p) w host f) (subst (λ n. HasRoom w f.size n) wants_still (k.room some)) short
      go (inr none) = absurd (omega (arith, none, wants_still, short))

pub lacks : (s : Span) (w next : Layer) (host : ℕ) (refusal : Refusal) (f : File) (d e : Content) → LacksRoom s w next host refusal f d e → IsShortOf s w host f
lacks s w next host refusal f d e is = is.short.few

-- where the map goes as far as the room
pub as_defined : (s : Span) (w : Layer) (host : ℕ) (f : File) → end_of_room (room_seen w host f) ≤ mapped w → IsShortOf s w host f ↔ IsShortIn s w host f
as_defined s w host f le =
    let same : end_known w host f ≡ end_of_room (room_seen w host f) = omega (arith, le) in (
      λ short. subst (λ n. free_below (room_seen w host f) n < need_of s w host f) same short,
      λ short. subst (λ n. free_below (room_seen w host f) n < need_of s w host f) (sym same) short,
    )
