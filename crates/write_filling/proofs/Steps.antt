-- What a step of the filling leaves.
use Rattle.std.proofs.Common.{◌≡◌, ◌⊎◌, inl, inr, ℕ, ◌+◌, ◌/◌, ◌^◌, ◌<◌, ◌≤◌, Bool, List, Option, Some, None, refl, sym, ap, ◌∙◌, subst, arith}
use Rattle.std.specs.Prelude.{slice_get}
use Rattle.std.proofs.lemmas.Bool.{cases_lt}
use Rattle.sd_names.specs.Turn.{MatchTurn}
use Rattle.sd_names.specs.declared.id.Id.{Id}
use Rattle.sd_names.specs.declared.place.Place.{Place}
use Rattle.sd_names.specs.declared.refusal.Refusal.{Refusal}
use Rattle.sd_names.specs.declared.refusal.Refusal.TheVariants.{DiskFault}
use Rattle.sd_names.specs.declared.turn.Turn.TheVariants.{More, Done, Ended}
use Rattle.shared_disk.specs.Calls.{IsPut, sectors_in, synced, wrote}
use Rattle.shared_disk.specs.Content.{Content, File, seen}
use Rattle.shared_disk.specs.Refusal.{IsRisen}
use Rattle.shared_disk.specs.WellFormed.{IsWellFormed, IsWellFormedFile}
use Rattle.shared_disk.proofs.AtPlace.{one_file}
use Rattle.qcow_format.specs.declared.entry.Entry.{Entry}
use Rattle.qcow_format.specs.declared.entry.Entry.TheVariants.{Absent, Zero, Data}
use Rattle.qcow_format.specs.declared.header.Header.{Header}
use Rattle.qcow_layer.specs.Looking.{IsFault}
use Rattle.qcow_layer.specs.declared.layer.Layer.{Layer}
use Rattle.volume_meta.specs.declared.record.VolumeRecord.{VolumeRecord}
use Rattle.image_model.specs.File.{sector_in}
use Rattle.own_laws.specs.Sectors.{sector_at}
use Rattle.layer_writing.specs.Holding.{ComesBy, HoldSame, IsInCluster}
use Rattle.layer_writing.proofs.Known.{comes_itself}
use Rattle.layer_placing.proofs.Ends.{same_put}
use Rattle.chain_model.specs.Folder.{Volumes}
use Rattle.chain_model.specs.Own.{own_in}
use Rattle.chain_laws.specs.Laid.{Laying}
use Rattle.chain_laws.specs.Written.{FileWritten}
use Rattle.part_laws.proofs.Held.{alike_written}
use Rattle.volume_chain.specs.Chain.{path_in, place_in, target_of}
use Rattle.volume_chain.specs.declared.chain.Chain.{Chain}
use Rattle.chain_reading.specs.Knowing.{KnowsImage, records_of}
use Rattle.cluster_filling.specs.Cluster.{IsClusterOf, source_on}
use Rattle.cluster_filling.specs.Filled.{SeesFilled}
use Rattle.cluster_filling.specs.Filling as filling
use Rattle.cluster_filling.specs.Filling.{KnowsCluster, WritesInside, file_at}
use Rattle.cluster_filling.specs.declared.cluster.Cluster.{Cluster}
use Rattle.cluster_filling.specs.declared.cluster.NewCluster.{NewCluster}
use Rattle.cluster_filling.specs.declared.filling.Filling as one
use Rattle.cluster_filling.proofs.Medium.{file_seen}
use Rattle.cluster_filling.proofs.Paths.{source_known}
use Rattle.cluster_filling.proofs.Steps.{source_kept}
use Rattle.write_planning.specs.Linked.{place_at}
use Rattle.write_planning.specs.Plan.{found_at, span_of}
use Rattle.write_planning.specs.Span.{at_of, first_of, length_of, width_of}
use Rattle.write_preparing.specs.Filled.{AreFilled, IsFilled, StandsWhole}
use Rattle.write_preparing.specs.Placed.{clusters_of, plan_of}
use Rattle.write_preparing.specs.Preparing.{IsPrepared}
use Rattle.write_preparing.specs.declared.placed.Placed.{Placed}
use Rattle.write_filling.specs.Cluster.{IsNewCluster}
use Rattle.write_filling.specs.Said.{capacity_said, entry_found}
use Rattle.write_filling.specs.Filling.{FillingsTurn, FillsOne, GoesNext, HoldsSince, IsAtWork, IsInImage, IsPassed, IsSameWork, IsSoFar, Knows, KnowsStage, KnowsWork, many_of, next_place}
use Rattle.write_filling.specs.Stage.{under_way}
use Rattle.write_filling.specs.declared.fillings.Fillings.{Fillings}
use Rattle.write_filling.specs.declared.stage.Stage.{Stage}
use Rattle.write_filling.specs.declared.stage.Stage.TheVariants.{Fills}
use Rattle.write_filling.proofs.Beside.{comes_now, filled_now, prepared_now, written_now}
use Rattle.write_filling.proofs.Since.{since_written}
use Rattle.write_filling.proofs.Places.{IsGiven, given, place_even, wide, width_even}
use Rattle.write_filling.proofs.Whole.{stands}

-- the refusal of a step that was a fault has the count
fault_is : (before faults : ℕ) (refusal : Refusal) → IsFault refusal → IsRisen before faults refusal → refusal ≡ DiskFault faults
fault_is before faults (DiskFault n) fault risen = ap (λ m. DiskFault m) risen.1
fault_is before faults _ fault risen = absurd fault

-- the volume that is read is the next one of the path
source_next : (path : List Id) (i : ℕ) (entry : Entry) (u : Id) → source_on path i entry ≡ Some u → slice_get path (i + 1) ≡ Some u
source_next path i Absent u e = e
source_next path i (Zero place) u e = absurd cc
source_next path i (Data place) u e = absurd cc

one_place : (a b : ℕ) (o : Option ℕ) → o ≡ Some a → o ≡ Some b → a ≡ b
one_place a b o is also = cc

-- ---- the same work, further on

image_moved : (s next : Fillings) (c : Chain) (w : Layer) (l : Laying) (old : Volumes) → IsSameWork s next → IsInImage s c w l old → IsInImage next c w l old
image_moved s next c w l old same image = record {
  file = image.file ∙ ap (λ (v : Id). place_in (target_of c) v) (sym same.volume);
  volume = image.volume ∙ sym same.volume;
  records = image.records;
  shape = image.shape;
  path = ap (λ n. slice_get (path_in c) n) same.index ∙ image.path ∙ ap (λ (v : Id). Some v) (sym same.volume);
  below = image.below;
  reads = image.reads;
  at = same.at ∙ image.at;
  within = subst (λ (q : Placed). at_of (span_of (plan_of q)) + length_of (span_of (plan_of q)) ≤ w.target.capacity) (sym same.placed) image.within;
}

far_moved : (s next : Fillings) (c : Chain) (w : Layer) (l : Laying) (x : VolumeRecord) (old : Volumes) (host : ℕ) (f : File) (e : Content) (n : ℕ) → IsSameWork s next → next.done ≡ n → IsInImage s c w l old → IsPrepared s.placed w l x host f
    → AreFilled s.placed n w l x host f → HoldsSince l x old f → ((u : Id) → slice_get (path_in c) (s.index + 1) ≡ Some u → KnowsImage c u host old e) → IsSoFar next c w l x old host f e
far_moved s next c w l x old host f e n same done image prepared filled since below = record {
  image = image_moved s next c w l old same image;
  prepared = subst (λ (q : Placed). IsPrepared q w l x host f) (sym same.placed) prepared;
  filled = subst (λ (q : Placed). AreFilled q next.done w l x host f) (sym same.placed) (subst (λ m. AreFilled s.placed m w l x host f) (sym done) filled);
  since = since;
  below = λ u at. below u (ap (λ m. slice_get (path_in c) (m + 1)) (sym same.index) ∙ at);
}

gets_moved : (s next : Fillings) (place : ℕ) → IsSameWork s next → next.done ≡ s.done → next_place s ≡ Some place → next_place next ≡ Some place
gets_moved s next place same done gets =
    ap (λ (q : Placed). place_at (plan_of q) (clusters_of q) next.done) same.placed ∙ ap (λ m. place_at (plan_of s.placed) (clusters_of s.placed) m) done ∙ gets

new_moved : (s next : Fillings) (place : ℕ) (c : Chain) (n : NewCluster) → IsSameWork s next → next.done ≡ s.done → IsNewCluster s place c n → IsNewCluster next place c n
new_moved s next place c n same done is = record {
  volume = is.volume ∙ sym same.volume;
  below = is.below ∙ sym (ap (λ m. source_on (path_in c) m (entry_found (found_at (plan_of next.placed) next.done))) same.index
      ∙ ap (λ (q : Placed). source_on (path_in c) s.index (entry_found (found_at (plan_of q) next.done))) same.placed ∙ ap (λ m. source_on (path_in c) s.index (entry_found (found_at (plan_of s.placed) m))) done);
  number = is.number ∙ sym (ap (λ (q : Placed). first_of (span_of (plan_of q)) + next.done) same.placed ∙ ap (λ m. first_of (span_of (plan_of s.placed)) + m) done);
  width = is.width ∙ sym (ap (λ (q : Placed). width_of (span_of (plan_of q))) same.placed);
  target = is.target;
  capacity = is.capacity ∙ sym (ap (λ (v : Id). capacity_said (records_of c v)) same.volume);
  at = is.at ∙ sym same.at;
}

module _ (s : Fillings) (c : Chain) (w : Layer) (l : Laying) (x : VolumeRecord) (old : Volumes) (host faults : ℕ) (room : List ℕ) (f : File) (d : Content) (there : d.file w.target.place ≡ Some f) (k : IsSoFar s c w l x old host f d) where
  abbrev h : Header
  h = w.work.header

  abbrev cap : ℕ
  cap = w.target.capacity

  -- ---- a step without a call

  abbrev Behind : FillingsTurn → Type 0
  Behind turn = MatchTurn turn (λ next. Knows next c w l x old host room f d) (λ placed. (placed ≡ s.placed) × IsFilled placed w l x host f) (λ _ refusal. refusal ≡ DiskFault faults)

  nothing : (turn : FillingsTurn) → Behind turn → FillsOne s c w l x old host faults room turn f d d
  nothing turn after = record {
    now = f;
    put = same_put d d w.target.place f refl there;
    size = refl;
    comes = comes_itself h cap f;
    written = alike_written l x f f k.prepared.over.says (λ o out. (o, out, λ j. refl));
    prepared = k.prepared;
    after = after;
  }

  -- a cluster that gets no place
  passed_over : next_place s ≡ None → AreFilled s.placed (s.done + 1) w l x host f
  passed_over none j place n lt at in_c low = go (cases_lt j s.done)
    where
      go : (j < s.done) ⊎ (s.done ≤ j) → StandsWhole l n (own_in x (synced host f) n) (sector_in f.size (seen host f) (sector_at h place n))
      go (inl earlier) = k.filled j place n earlier at in_c low
      go (inr le) =
          let same : j ≡ s.done = omega (arith, le, lt) in
          let both : None ≡ Some place = sym none ∙ ap (λ m. place_at (plan_of s.placed) (clusters_of s.placed) m) (sym same) ∙ at in
          absurd cc

  -- a filling that begins
  module _ (place : ℕ) (gets : next_place s ≡ Some place) (lt : s.done < many_of s) (new : NewCluster) (is : IsNewCluster s place c new) (z : Cluster) (of : IsClusterOf new z) where
    volume_is : z.volume ≡ s.volume
    volume_is = of.volume ∙ is.volume

    pub same_file : w.target.place ≡ file_at z c
    same_file = k.image.file ∙ ap (λ (v : Id). place_in (target_of c) v) (sym volume_is)

    here : IsGiven s.placed w l x host f k.prepared s.done place
    here = given s.placed w l x host f k.prepared s.done place lt gets

    target_is : z.target ≡ place / 512
    target_is = let low = here.low in let at = is.target in of.target (omega (arith, low, at)) ∙ ap (λ m. m / 512) is.target

    count_is : z.count ≡ 2 ^ h.cluster_bits / 512
    count_is = of.count ∙ ap (λ m. m / 512) (is.width ∙ wide s.placed w l x host f k.prepared)

    cluster_known : KnowsCluster z c host old l.part.bytes 0 d
    cluster_known = record {
      source = λ u at.
          let source : source_on (path_in c) s.index (entry_found (found_at (plan_of s.placed) s.done)) ≡ Some u = sym (of.below ∙ is.below) ∙ at in
          source_known z c host old s.index (entry_found (found_at (plan_of s.placed) s.done)) u d (k.image.path ∙ ap (λ (v : Id). Some v) (sym volume_is)) source
          (k.below u (source_next (path_in c) s.index (entry_found (found_at (plan_of s.placed) s.done)) u source));
      file = record {
        file = f;
        there = ap d.file (sym same_file) ∙ there;
        alone = k.prepared.over.writer.knows.alone;
        inside = let t = target_is in let n = count_is in let within = here.inside in omega (arith, t, n, within);
        filled = λ j less. absurd (omega (arith, less));
      };
    }

    begins : (next : Fillings) (work : one.Filling) → z ≡ filling.cluster_of work → filling.IsBegun new work → IsAtWork s work next → FillsOne s c w l x old host faults room (More next) f d d
    begins next work same begun at = nothing (More next) (record {
      so_far = far_moved s next c w l x old host f d s.done at.same at.done k.image k.prepared k.filled k.since k.below;
      stage = subst (λ (st : Stage). KnowsStage st next c l old host room d) (sym at.stage_is) (record {
        place = place;
        gets = gets_moved s next place at.same at.done gets;
        new = new;
        is = new_moved s next place c new at.same at.done is;
        cluster = begun.cluster;
        knows = begun.knows c host old l.part.bytes room d (subst (λ (y : Cluster). KnowsCluster y c host old l.part.bytes 0 d) same cluster_known);
      });
    })

    -- ---- a step of it

    record Changed (now : File) (e : Content) : Type 0 where
      put : IsPut d w.target.place (Some now) e
      size : now.size ≡ f.size
      comes : ComesBy (HoldSame h cap) f now
      written : FileWritten l f now
      well : IsWellFormedFile now
      prepared : IsPrepared s.placed w l x host now
      filled : AreFilled s.placed s.done w l x host now
      since : HoldsSince l x old now
      below : (u : Id) → slice_get (path_in c) (s.index + 1) ≡ Some u → KnowsImage c u host old e

    unchanged : IsWellFormed d → Changed f d
    unchanged formed = record {
      put = same_put d d w.target.place f refl there;
      size = refl;
      comes = comes_itself h cap f;
      written = alike_written l x f f k.prepared.over.says (λ o out. (o, out, λ j. refl));
      well = formed.files w.target.place f there;
      prepared = k.prepared;
      filled = k.filled;
      since = k.since;
      below = k.below;
    }

    written_inside : (e : Content) (at : ℕ) (bytes : List ℕ) (did : ℕ → Bool) → IsWellFormed d → IsWellFormed e → z.target ≤ at → at + sectors_in bytes ≤ z.target + z.count → IsPut d w.target.place (Some (wrote did host at bytes f)) e
        → Changed (wrote did host at bytes f) e
    written_inside e at bytes did formed formed' low high put = record {
      put = put;
      size = refl;
      comes = comes_now s.placed w l x host f k.prepared well s.done place lt here did at bytes in_cluster;
      written = written_now s.placed w l x host f k.prepared well s.done place lt here did at bytes in_cluster well_now;
      well = well_now;
      prepared = prepared_now s.placed w l x host f k.prepared well s.done place lt here did at bytes in_cluster well_now;
      filled = filled_now s.placed w l x host f k.prepared well s.done place lt here did at bytes in_cluster well_now s.done (omega arith) k.filled;
      since = since_written l x old f (wrote did host at bytes f) k.prepared.over.says k.since (written_now s.placed w l x host f k.prepared well s.done place lt here did at bytes in_cluster well_now);
      below = λ u next.
          (source_kept z c host old u d e (Some (wrote did host at bytes f)) (subst (λ (q : Place). IsPut d q (Some (wrote did host at bytes f)) e) same_file put)
          (source_known z c host old s.index Absent u d (k.image.path ∙ ap (λ (v : Id). Some v) (sym volume_is)) next (k.below u next))).image;
    }
      where
        well : IsWellFormedFile f
        well = formed.files w.target.place f there

        well_now : IsWellFormedFile (wrote did host at bytes f)
        well_now = formed'.files w.target.place (wrote did host at bytes f) put.here

        in_cluster : IsInCluster (2 ^ h.cluster_bits) place at bytes
        in_cluster =
            let t = target_is in
            let n = count_is in
            let even = place_even s.placed w l x host f k.prepared s.done place here in
            let size = width_even s.placed w l x host f k.prepared in
            record { begins = here.begins; low = omega (arith, low, t, even); high = omega (arith, high, t, n, even, size) }

    changed : (e : Content) → IsWellFormed d → IsWellFormed e → WritesInside z c host d e → (now : File) × Changed now e
    changed e formed formed' (inl same) = (f, subst (λ (b : Content). Changed f b) (sym same) (unchanged formed))
    changed e formed formed' (inr (at, bytes, low, high, whole, (g, was, fits, did, put))) =
        let is_f : g ≡ f = one_file g f (d.file w.target.place) (ap d.file same_file ∙ was) there in
        let put_f = subst (λ (b : File). IsPut d w.target.place (Some (wrote did host at bytes b)) e) is_f (subst (λ (q : Place). IsPut d q (Some (wrote did host at bytes g)) e) (sym same_file) put) in
        (wrote did host at bytes f, written_inside e at bytes did formed formed' low high put_f)

    leaves : (e : Content) (turn : FillingsTurn) (now : File) → (o : Changed now e)
        → MatchTurn turn (λ next. Knows next c w l x old host room now e) (λ placed. (placed ≡ s.placed) × IsFilled placed w l x host now) (λ _ refusal. refusal ≡ DiskFault faults) → FillsOne s c w l x old host faults room turn f d e
    leaves e turn now o after = record { now = now; put = o.put; size = o.size; comes = o.comes; written = o.written; prepared = o.prepared; after = after }

    pub goes_on : (e : Content) (next : Fillings) (work : one.Filling) → IsWellFormed d → IsWellFormed e → WritesInside z c host d e → IsAtWork s work next → IsClusterOf new (filling.cluster_of work) → filling.Knows work c host old l.part.bytes room e
        → FillsOne s c w l x old host faults room (More next) f d e
    goes_on e next work formed formed' writes at cluster knows =
        let o = changed e formed formed' writes in
        leaves e (More next) o.0 o.1 (record {
          so_far = far_moved s next c w l x old host o.0 e s.done at.same at.done k.image o.1.prepared o.1.filled o.1.since o.1.below;
          stage = subst (λ (st : Stage). KnowsStage st next c l old host room e) (sym at.stage_is) (record {
            place = place;
            gets = gets_moved s next place at.same at.done gets;
            new = new;
            is = new_moved s next place c new at.same at.done is;
            cluster = cluster;
            knows = knows;
          });
        })

    pub whole : (e : Content) (next : Fillings) → IsWellFormed d → IsWellFormed e → WritesInside z c host d e → IsPassed s next → filling.IsFilled z c host old l.part.bytes e → FillsOne s c w l x old host faults room (More next) f d e
    whole e next formed formed' writes passed filled =
        let o = changed e formed formed' writes in
        leaves e (More next) o.0 o.1 (record {
          so_far = far_moved s next c w l x old host o.0 e (s.done + 1) passed.same passed.done k.image o.1.prepared (all o.0 o.1) o.1.since o.1.below;
          stage = subst (λ (st : Stage). KnowsStage st next c l old host room e) (sym passed.stage_is) tt;
        })
      where
        all : (now : File) (o : Changed now e) → AreFilled s.placed (s.done + 1) w l x host now
        all now o j q n less at in_c low = go (cases_lt j s.done)
          where
            sees : SeesFilled z c old l.part.bytes host now
            sees = file_seen z c host old l.part.bytes e now filled.file (ap e.file (sym same_file) ∙ o.put.here)

            go : (j < s.done) ⊎ (s.done ≤ j) → StandsWhole l n (own_in x (synced host now) n) (sector_in now.size (seen host now) (sector_at h q n))
            go (inl earlier) = o.filled j q n earlier at in_c low
            go (inr le) =
                let same : j ≡ s.done = omega (arith, le, less) in
                let at_done : next_place s ≡ Some q = ap (λ m. place_at (plan_of s.placed) (clusters_of s.placed) m) (sym same) ∙ at in
                let is_place : place ≡ q = one_place place q (next_place s) gets at_done in
                subst (λ m. StandsWhole l n (own_in x (synced host now) n) (sector_in now.size (seen host now) (sector_at h m n))) is_place
                (stands s c w l x old host now k.image o.prepared o.since o.well lt place gets new is z of sees n (in_c ∙ ap (λ m. first_of (span_of (plan_of s.placed)) + m) same) low)

    pub ended : (e : Content) (refusal : Refusal) (before : ℕ) → IsWellFormed d → IsWellFormed e → WritesInside z c host d e → IsFault refusal → IsRisen before faults refusal → FillsOne s c w l x old host faults room (Ended tt refusal) f d e
    ended e refusal before formed formed' writes fault risen =
        let o = changed e formed formed' writes in
        leaves e (Ended tt refusal) o.0 o.1 (fault_is before faults refusal fault risen)

  -- ---- the next cluster

  passed_none : (next : Fillings) → next_place s ≡ None → IsPassed s next → FillsOne s c w l x old host faults room (More next) f d d
  passed_none next none passed = nothing (More next) (record {
    so_far = far_moved s next c w l x old host f d (s.done + 1) passed.same passed.done k.image k.prepared (passed_over none) k.since k.below;
    stage = subst (λ (st : Stage). KnowsStage st next c l old host room d) (sym passed.stage_is) tt;
  })

  all_done : (placed : Placed) → placed ≡ s.placed → many_of s ≤ s.done → FillsOne s c w l x old host faults room (Done placed) f d d
  all_done placed same le = nothing (Done placed) (
    same,
    subst (λ (q : Placed). IsFilled q w l x host f) (sym same) (record {
      prepared = k.prepared;
      within = k.image.within;
      filled = λ j q n lt at in_c low. k.filled j q n (omega (arith, lt, le)) at in_c low;
    }),
  )

  pub goes_next : (turn : FillingsTurn) → GoesNext s c turn → FillsOne s c w l x old host faults room turn f d d
  goes_next (More next) (lt, inl (none, passed)) = passed_none next none passed
  goes_next (More next) (lt, inr b) = begins b.place b.gets lt b.new b.is (filling.cluster_of b.work) b.begun.cluster next b.work refl b.begun b.next_is
  goes_next (Done placed) (same, le) = all_done placed same le
  goes_next (Ended b refusal) none = absurd none

  -- ---- a step of the next cluster's filling

  module _ (work : one.Filling) (at_work : s.stage ≡ Fills work) (before given : List ℕ) (knows : KnowsStage s.stage s c l old host before d) (same : l.part.bytes ≡ given) (e : Content) (formed : IsWellFormed d) (formed' : IsWellFormed e) where
    stage_known : KnowsWork s work c l old host before d
    stage_known = subst (λ (st : Stage). KnowsStage st s c l old host before d) at_work knows

    under : s.done < many_of s
    under = let one : under_way s.stage ≡ 1 = ap under_way at_work in let within = s.within in omega (arith, one, within)

    on_part : (turn : filling.FillTurn) → filling.FillsOn work c host given before room turn d e → filling.FillsOn work c host l.part.bytes before room turn d e
    on_part turn call = subst (λ (b : List ℕ). filling.FillsOn work c host b before room turn d e) (sym same) call

    pub more_on : (after : one.Filling) (next : Fillings) → filling.KeepsCluster work (More after) → IsAtWork s after next → filling.FillsOn work c host given before room (More after) d e → FillsOne s c w l x old host faults room (More next) f d e
    more_on after next keeps at call =
        let k' = stage_known in
        let on = on_part (More after) call in
        goes_on k'.place k'.gets under k'.new k'.is (filling.cluster_of work) k'.cluster e next after formed formed' on.writes at (subst (λ (z : Cluster). IsClusterOf k'.new z) (sym keeps) k'.cluster) (on.leaves old k'.knows)

    pub done_on : (next : Fillings) → IsPassed s next → filling.FillsOn work c host given before room (Done tt) d e → FillsOne s c w l x old host faults room (More next) f d e
    done_on next passed call =
        let k' = stage_known in
        let on = on_part (Done tt) call in
        whole k'.place k'.gets under k'.new k'.is (filling.cluster_of work) k'.cluster e next formed formed' on.writes passed (on.leaves old k'.knows)

    pub ended_on : (refusal : Refusal) (was : ℕ) → IsRisen was faults refusal → filling.FillsOn work c host given before room (Ended tt refusal) d e → FillsOne s c w l x old host faults room (Ended tt refusal) f d e
    ended_on refusal was risen call =
        let k' = stage_known in
        let on = on_part (Ended tt refusal) call in
        ended k'.place k'.gets under k'.new k'.is (filling.cluster_of work) k'.cluster e refusal was formed formed' on.writes (on.leaves old k'.knows) risen
