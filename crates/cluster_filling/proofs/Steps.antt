-- What the steps of a piece leave.
use Rattle.std.proofs.Common.{◌≡◌, ◌≢◌, ◌⊎◌, ℕ, ◌+◌, ◌-◌, ◌*◌, ◌/◌, ◌%◌, ◌<◌, ◌≤◌, Bool, true, List, [], ◌++◌, length, replicate, take, Option, Some, None, Result, Ok, Err, unwrap_or, refl, sym, ap, ap₂, ◌∙◌, subst, inl, inr, arith}
use Rattle.std.proofs.Math.Seq.{take-append_seam}
use Rattle.std.proofs.lemmas.Bool.{cases_lt}
use Rattle.std.proofs.lemmas.List.{length-replicate}
use Rattle.sd_names.specs.Turn.{MatchTurn}
use Rattle.sd_names.specs.declared.id.Id.{Id}
use Rattle.sd_names.specs.declared.place.Name.TheVariants.{Volume}
use Rattle.sd_names.specs.declared.place.Place.{Place}
use Rattle.sd_names.specs.declared.refusal.Refusal.{Refusal}
use Rattle.sd_names.specs.declared.refusal.Refusal.TheVariants.{Vanished}
use Rattle.sd_names.specs.declared.turn.Turn.TheVariants.{More, Done, Ended}
use Rattle.shared_disk.specs.Calls.{IsPut, PartWritten, WriteAt, sectors_in, wrote}
use Rattle.shared_disk.specs.Content.{Content, File, seen, sector_of, zero_sector}
use Rattle.shared_disk.specs.Crash.{IsAlone}
use Rattle.shared_disk.specs.Step.{TurnFollows}
use Rattle.shared_disk.specs.declared.disk.DiskAnswer.{DiskAnswer}
use Rattle.shared_disk.specs.declared.disk.DiskAnswer.TheVariants.{NoFile, Exists, OutOfFile, NotEmpty, Failed}
use Rattle.shared_disk.proofs.OwnWrites.{own_outside, own_within, without_writes}
use Rattle.shared_disk.proofs.Sectors.{sector_of_zeros}
use Rattle.qcow_layer.specs.Looking.{IsFault}
use Rattle.chain_model.specs.Flat.{flat}
use Rattle.chain_model.specs.Folder.{Volumes}
use Rattle.volume_chain.specs.Chain.{place_in, target_of}
use Rattle.volume_chain.specs.declared.chain.Chain.{Chain}
use Rattle.volume_chain.specs.declared.chain.Target.{Target}
use Rattle.chain_reading.specs.Knowing.{IsReadAs, records_of}
use Rattle.chain_reading.specs.Reading.{PartTurn, ReadsOn, first_sector, volume_of}
use Rattle.chain_reading.specs.Reading as reads
use Rattle.chain_reading.specs.declared.part.ReadPart.{ReadPart}
use Rattle.chain_reading.proofs.Survives.{image_untouched}
use Rattle.cluster_filling.specs.Cluster.{IsIn, IsWanted, ReadsBelow, piece_at}
use Rattle.cluster_filling.specs.Filling.{BeginsPiece, BeginsRead, FillTurn, FillsIn, FillsOn, FillsPiece, GoesWith, HasBelow, IsAdvanced, IsAt, IsFilled, IsGone, KnowsCluster, KnowsIn, KnowsPiece, KnowsSource, ReadsPiece, Skips, WritesInside, WritesPiece, WritesZeros, file_at, front, here, piece_of}
use Rattle.cluster_filling.specs.Laying.{IsLaid, IsLaidSector}
use Rattle.cluster_filling.specs.declared.cluster.Cluster.{Cluster}
use Rattle.cluster_filling.specs.declared.filling.Filling.{Filling}
use Rattle.cluster_filling.specs.declared.filling.Stage.{Stage}
use Rattle.cluster_filling.specs.declared.filling.Stage.TheVariants.{Begun, Reading, Read}

-- ---- what is known of the volumes below while the volume's file changes

other_place : (t : Target) (w v : Id) → w ≢ v → place_in t w ≢ place_in t v
other_place t w v apart e =
    let named : Volume w ≡ Volume v = ap (λ (q : Place). q.name) e in
    let same : w ≡ v = cc in
    apart same

pub source_kept : (k : Cluster) (c : Chain) (host : ℕ) (x : Volumes) (u : Id) (d e : Content) (file : Option File) → IsPut d (file_at k c) file e → KnowsSource k c host x u d → KnowsSource k c host x u e
source_kept k c host x u d e file put s = record {
  image = image_untouched c c u host x d e (record { shape = s.image.shape; target = refl; path = refl; all = refl; opened = λ i from. refl })
      (λ w at. put.others (place_in (target_of c) w) (other_place (target_of c) w k.volume (s.apart w at))) s.image;
  volume = s.volume;
  apart = s.apart;
}

-- ---- a piece is written

pub one_file : (o : Option File) (f g : File) → o ≡ Some f → o ≡ Some g → f ≡ g
one_file o f g a b = cc

no_file : (o : Option File) (f : File) → o ≡ Some f → o ≡ None → ⊥
no_file o f a b = cc

pub alone_still : (did : ℕ → Bool) (host at : ℕ) (bytes : List ℕ) (f : File) → IsAlone host f → IsAlone host (wrote did host at bytes f)
alone_still did host at bytes f alone = record { loose = without_writes did host at (sectors_in bytes) bytes f.loose ∙ alone.loose; fresh = alone.fresh }

pub seen_beside : (did : ℕ → Bool) (host at n : ℕ) (bytes : List ℕ) (f : File) → (n < at) ⊎ (at + sectors_in bytes ≤ n) → seen host (wrote did host at bytes f) n ≡ seen host f n
seen_beside did host at n bytes f side = ap (λ o. unwrap_or o (f.stable n)) (own_outside did host at (sectors_in bytes) n bytes f.loose side)

pub seen_inside : (host at n : ℕ) (bytes : List ℕ) (f : File) → at ≤ n → n < at + sectors_in bytes → seen host (wrote (λ _. true) host at bytes f) n ≡ sector_of bytes (n - at)
seen_inside host at n bytes f low high = ap (λ o. unwrap_or o (f.stable n)) (own_within host at (sectors_in bytes) n bytes f.loose low high)

wanted_laid : (k : Cluster) (c : Chain) (x : Volumes) (part : List ℕ) (n : ℕ) (before after : List ℕ) → IsLaidSector k part n before after → ((IsIn k (sectors_in part) n → ⊥) → n < k.capacity → ReadsBelow c x k.below n before)
    → IsWanted k c x part n after
wanted_laid k c x part n before after laid below = record {
  inside = laid.inside;
  past = laid.past;
  below = λ out low. subst (λ (s : List ℕ). ReadsBelow c x k.below n s) (sym (laid.kept out low)) (below out low);
}

module _ (p : Filling) (c : Chain) (host : ℕ) (part before after : List ℕ) (d : Content) (size : length before ≡ 512 * piece_of p) (laid : IsLaid p.cluster (here p) part (length before / 512) before after) where
  sectors : sectors_in after ≡ piece_of p
  sectors = let len = laid.len in omega (arith, len, size)

  inside : p.cluster.target + p.done + sectors_in after ≤ p.cluster.target + p.cluster.count
  inside = let s = sectors in let more = p.more in omega (arith, s, more)

  whole : length after % 512 ≡ 0
  whole = let len = laid.len in omega (arith, len, size)

  writes_part : (e : Content) → PartWritten d host (file_at p.cluster c) (p.cluster.target + p.done) after e → WritesInside p.cluster c host d e
  writes_part e written = inr (p.cluster.target + p.done, after, omega arith, inside, whole, written)

  -- the first sectors and the piece are as they are to be
  written_known : (x : Volumes) (e : Content) (f : File) → d.file (file_at p.cluster c) ≡ Some f → IsPut d (file_at p.cluster c) (Some (wrote (λ _. true) host (p.cluster.target + p.done) after f)) e
      → KnowsCluster p.cluster c host x part p.done d → HasBelow p.cluster p.done c x part before → KnowsCluster p.cluster c host x part (p.done + piece_of p) e
  written_known x e f there put k below = record {
    source = λ u is. source_kept p.cluster c host x u d e (Some (wrote (λ _. true) host (p.cluster.target + p.done) after f)) put (k.source u is);
    file = record {
      file = wrote (λ _. true) host (p.cluster.target + p.done) after f;
      there = put.here;
      alone = alone_still (λ _. true) host (p.cluster.target + p.done) after f (subst (λ (g : File). IsAlone host g) same k.file.alone);
      inside = let within = k.file.inside in let size_same = ap (λ (g : File). g.size) same in omega (arith, within, size_same);
      filled = λ j less. go j less (cases_lt j p.done);
    };
  }
    where
      same : k.file.file ≡ f
      same = one_file (d.file (file_at p.cluster c)) k.file.file f k.file.there there

      go : (j : ℕ) → j < p.done + piece_of p → (j < p.done) ⊎ (p.done ≤ j) → IsWanted p.cluster c x part (p.cluster.first + j) (seen host (wrote (λ _. true) host (p.cluster.target + p.done) after f) (p.cluster.target + j))
      go j less (inl low) =
          subst (λ (s : List ℕ). IsWanted p.cluster c x part (p.cluster.first + j) s)
          (ap (λ (g : File). seen host g (p.cluster.target + j)) same ∙ sym (seen_beside (λ _. true) host (p.cluster.target + p.done) (p.cluster.target + j) after f (inl (omega (arith, low)))))
          (k.file.filled j low)
      go j less (inr le) =
          let at : here p + (j - p.done) ≡ p.cluster.first + j = omega (arith, le) in
          let within : j - p.done < piece_of p = omega (arith, le, less) in
          let sector : p.cluster.target + j - (p.cluster.target + p.done) ≡ j - p.done = omega (arith, le) in
          let now : IsWanted p.cluster c x part (here p + (j - p.done)) (sector_of after (j - p.done)) =
          wanted_laid p.cluster c x part (here p + (j - p.done)) (sector_of before (j - p.done)) (sector_of after (j - p.done)) (laid.laid (j - p.done) (omega (arith, within, size))) (below (j - p.done) within) in
          subst (λ (s : List ℕ). IsWanted p.cluster c x part (p.cluster.first + j) s)
          (ap (sector_of after) (sym sector) ∙ sym (seen_inside host (p.cluster.target + p.done) (p.cluster.target + j) after f (omega (arith, le)) (omega (arith, le, less, sectors))))
          (subst (λ n. IsWanted p.cluster c x part n (sector_of after (j - p.done))) at now)

  -- the turn
  advances : (room : Filling → List ℕ) (x : Volumes) (turn : FillTurn) (e : Content) → IsAdvanced p turn → KnowsCluster p.cluster c host x part (p.done + piece_of p) e
      → MatchTurn turn (λ next. KnowsIn next.stage next c host x part (room next) e) (λ _. IsFilled p.cluster c host x part e) (λ _ refusal. IsFault refusal)
  advances room x (More next) e is k = record {
    cluster = subst (λ (q : Cluster). KnowsCluster q c host x part next.done e) (sym is.cluster) (subst (λ n. KnowsCluster p.cluster c host x part n e) (sym is.done) k);
    so_far = subst (λ (s : Stage). KnowsPiece s next.cluster next.done c host x part (room next) e) (sym is.stage_is) tt;
  }
  advances room x (Done b) e is k =
      let more = p.more in
      let all : p.done + piece_of p ≡ p.cluster.count = omega (arith, is, more) in
      subst (λ n. KnowsCluster p.cluster c host x part n e) all k
  advances room x (Ended b refusal) e is k = absurd is

  none_gone : (turn : FillTurn) (e : Content) → IsAdvanced p turn → MatchTurn turn (λ _. Unit {0}) (λ _. Unit {0}) (λ _ refusal. IsGone p.cluster c refusal d)
  none_gone (More next) e is = tt
  none_gone (Done b) e is = tt
  none_gone (Ended b refusal) e is = absurd is

  Leaves : Stage → (Filling → List ℕ) → FillTurn → Content → Type 0
  Leaves stage room turn e = ((x : Volumes) → KnowsIn stage p c host x part before d → HasBelow p.cluster p.done c x part before) → FillsIn stage p c host part before room turn d e

  ended : (stage : Stage) (room : Filling → List ℕ) (refusal : Refusal) (turn : FillTurn) (e : Content) → turn ≡ Ended tt refusal → WritesInside p.cluster c host d e → IsGone p.cluster c refusal d
      → ((x : Volumes) → KnowsIn stage p c host x part before d → IsFault refusal) → FillsIn stage p c host part before room turn d e
  ended stage room refusal turn e is writes gone faults =
      subst (λ (t : FillTurn). FillsIn stage p c host part before room t d e) (sym is) (record { writes = writes; gone = gone; leaves = faults })

  answered : (stage : Stage) (room : Filling → List ℕ) (faults : ℕ) (answer : Result (Unit {0}) DiskAnswer) (turn : FillTurn) (e : Content)
      → WriteAt d host (file_at p.cluster c) (p.cluster.target + p.done) after answer e → TurnFollows answer faults turn (λ _. IsAdvanced p turn) → Leaves stage room turn e
  unfolding Leaves
  answered stage room faults (Ok b) turn e wrote_at follows below = record {
    writes = writes_part e (wrote_at.0, wrote_at.1, wrote_at.2, (λ _. true), wrote_at.3);
    gone = none_gone turn e follows;
    leaves = λ x k. advances room x turn e follows (written_known x e wrote_at.0 wrote_at.1 wrote_at.3 k.cluster (below x k));
  }
  answered stage room faults (Err Failed) turn e (inl same) follows below = ended stage room _ turn e follows (inl same) tt (λ x k. tt)
  answered stage room faults (Err Failed) turn e (inr written) follows below = ended stage room _ turn e follows (writes_part e written) tt (λ x k. tt)
  answered stage room faults (Err NoFile) turn e none follows below =
      ended stage room _ turn e follows (inl none.0) (inl (refl, (file_at p.cluster c, inr refl, none.1))) (λ x k. absurd (no_file (d.file (file_at p.cluster c)) k.cluster.file.file k.cluster.file.there none.1))
  answered stage room faults (Err OutOfFile) turn e short follows below =
      ended stage room _ turn e follows (inl short.0) (inr (refl, (short.1, short.2, let fits = inside in omega (arith, short.3, fits))))
      (λ x k. absurd (let same = ap (λ (g : File). g.size) (one_file (d.file (file_at p.cluster c)) k.cluster.file.file short.1 k.cluster.file.there short.2) in let fits = inside in let room_is = k.cluster.file.inside in omega (arith, short.3, fits, same, room_is)))
  answered stage room faults (Err Exists) turn e never follows below = absurd never
  answered stage room faults (Err NotEmpty) turn e never follows below = absurd never

pub writes : (stage : Stage) (p : Filling) (c : Chain) (host : ℕ) (part before after : List ℕ) (room : Filling → List ℕ) (faults : ℕ) (turn : FillTurn) (d e : Content) → length before ≡ 512 * piece_of p
    → WritesPiece p c host part before after faults turn d e → ((x : Volumes) → KnowsIn stage p c host x part before d → HasBelow p.cluster p.done c x part before) → FillsIn stage p c host part before room turn d e
unfolding Leaves
writes stage p c host part before after room faults turn d e size written below = answered p c host part before after d size written.0 stage room faults written.1.0 turn e written.1.1 written.1.2 below

-- ---- a piece is read

none_skipped : (k : Cluster) (c : Chain) (x : Volumes) (n part : ℕ) (s : List ℕ) → IsIn k part n ⊎ (k.capacity ≤ n) → (IsIn k part n → ⊥) → n < k.capacity → ReadsBelow c x k.below n s
none_skipped k c x n part s (inl in_it) out low = absurd (out in_it)
none_skipped k c x n part s (inr past) out low = absurd (omega (arith, past, low))

read_gone : (k : Cluster) (c : Chain) (refusal : Refusal) (d : Content) → reads.IsGone c refusal d → IsGone k c refusal d
read_gone k c (Vanished a) d gone = inl (gone.0, (gone.1.0, inl gone.1.1, gone.1.2))
read_gone k c _ d gone = tt

has_read : (k : Cluster) (done : ℕ) (read : ReadPart) (c : Chain) (x : Volumes) (part piece : List ℕ) → k.below ≡ Some (volume_of read) → first_sector read ≡ k.first + done → length piece ≡ 512 * piece_at k done
    → IsReadAs read c x piece → HasBelow k done c x part piece
has_read k done read c x part piece below first size all j less out low =
    subst (λ (o : Option Id). ReadsBelow c x o (k.first + done + j) (sector_of piece j)) (sym below)
    (λ us at. all us at j (omega (arith, less, size)) ∙ ap (λ n. flat (records_of c) x (volume_of read) us (n + j)) first)

module _ (p : Filling) (c : Chain) (host : ℕ) (part after : List ℕ) (room : Filling → List ℕ) (in_room : (next : Filling) → next.cluster ≡ p.cluster → next.done ≡ p.done → room next ≡ after) where
  next_known : (stage : Stage) (next : Filling) (x : Volumes) (e : Content) → IsAt p stage next → KnowsCluster p.cluster c host x part p.done e → KnowsPiece stage p.cluster p.done c host x part after e
      → KnowsIn next.stage next c host x part (room next) e
  next_known stage next x e is k piece = record {
    cluster = subst (λ (q : Cluster). KnowsCluster q c host x part next.done e) (sym is.cluster) (subst (λ n. KnowsCluster p.cluster c host x part n e) (sym is.done) k);
    so_far = subst (λ (s : Stage). KnowsPiece s next.cluster next.done c host x part (room next) e) (sym is.stage_is)
        (subst (λ (r : List ℕ). KnowsPiece stage next.cluster next.done c host x part r e) (sym (in_room next is.cluster is.done))
        (subst (λ (q : Cluster). KnowsPiece stage q next.done c host x part after e) (sym is.cluster) (subst (λ n. KnowsPiece stage p.cluster n c host x part after e) (sym is.done) piece)));
  }

  read_more : (read r : ReadPart) (next : Filling) (x : Volumes) (before : List ℕ) (d e : Content) → reads.IsSamePart read r → ReadsOn read c host before after (More r) d e → IsAt p (Reading r) next
      → KnowsIn (Reading read) p c host x part before d → KnowsIn next.stage next c host x part (room next) e
  read_more read r next x before d e same on is k = next_known (Reading r) next x e is
      (subst (λ (z : Content). KnowsCluster p.cluster c host x part p.done z) (sym on.same) k.cluster)
      (record { below = k.so_far.below ∙ ap (λ (v : Id). Some v) (sym same.volume); first = same.first ∙ k.so_far.first; knows = on.leaves x k.so_far.knows })

  read_done : (read : ReadPart) (b : Unit {0}) (next : Filling) (x : Volumes) (before : List ℕ) (d e : Content) → length after ≡ 512 * piece_of p → ReadsOn read c host before after (Done b) d e → IsAt p Read next
      → KnowsIn (Reading read) p c host x part before d → KnowsIn next.stage next c host x part (room next) e
  read_done read b next x before d e size on is k = next_known Read next x e is
      (subst (λ (z : Content). KnowsCluster p.cluster c host x part p.done z) (sym on.same) k.cluster)
      (has_read p.cluster p.done read c x part after k.so_far.below k.so_far.first size (on.leaves x k.so_far.knows))

  read_turn : (read : ReadPart) (before : List ℕ) (d e : Content) (t : PartTurn) (turn : FillTurn) → length after ≡ 512 * piece_of p → reads.KeepsPart read t → ReadsOn read c host before after t d e → GoesWith p t turn
      → FillsIn (Reading read) p c host part before room turn d e
  read_turn read before d e (More r) (More next) size keeps on is = record { writes = inl on.same; gone = tt; leaves = λ x k. read_more read r next x before d e keeps on is k }
  read_turn read before d e (More r) (Done g) size keeps on is = absurd is
  read_turn read before d e (More r) (Ended g o) size keeps on is = absurd is
  read_turn read before d e (Done b) (More next) size keeps on is = record { writes = inl on.same; gone = tt; leaves = λ x k. read_done read b next x before d e size on is k }
  read_turn read before d e (Done b) (Done g) size keeps on is = absurd is
  read_turn read before d e (Done b) (Ended g o) size keeps on is = absurd is
  read_turn read before d e (Ended b refusal) turn size keeps on is =
      subst (λ (t : FillTurn). FillsIn (Reading read) p c host part before room t d e) (sym is)
      (record { writes = inl on.same; gone = read_gone p.cluster c refusal d on.gone; leaves = λ x k. on.leaves x k.so_far.knows })

  pub reads_on : (read : ReadPart) (before : List ℕ) (turn : FillTurn) (d e : Content) → length before ≡ 512 * piece_of p → ReadsPiece p read c host before after turn d e → FillsIn (Reading read) p c host part before room turn d e
  reads_on read before turn d e size on = read_turn read before d e on.1.0 turn (on.0 ∙ size) on.1.1 on.1.2 on.1.3

  -- ---- a piece is begun

  begun_known : (u : Id) (read : ReadPart) (next : Filling) (x : Volumes) (d : Content) → length after ≡ 512 * piece_of p → p.cluster.below ≡ Some u → reads.IsBegun read u (512 * here p) → IsAt p (Reading read) next
      → KnowsCluster p.cluster c host x part p.done d → KnowsIn next.stage next c host x part (room next) d
  begun_known u read next x d size below begun is k =
      let source = k.source u below in
      let more = p.more in
      let few = p.cluster.few in
      let low = p.cluster.first_low in
      next_known (Reading read) next x d is k (record {
        below = below ∙ ap (λ (v : Id). Some v) (sym begun.volume);
        first = let at = begun.first in omega (arith, at);
        knows = begun.knows c host x after d source.image source.volume (omega (arith, size, more, few, low));
      })

  begin_turn : (turn : FillTurn) (before : List ℕ) (d : Content) → length after ≡ 512 * piece_of p → BeginsRead p turn → FillsIn Begun p c host part before room turn d d
  begin_turn (More next) before d size is = record { writes = inl refl; gone = tt; leaves = λ x k. begun_known is.0 is.1 next x d size is.2 is.3 is.4 k.cluster }
  begin_turn (Done g) before d size is = absurd is
  begin_turn (Ended g o) before d size is = absurd is

zeros_each : (n count j : ℕ) → n ≡ 512 * count → j < count → sector_of (replicate n 0) j ≡ zero_sector
zeros_each n count j is less = sector_of_zeros [] n j (omega arith) (omega (arith, is, less))

zeros_below : (k : Cluster) (done : ℕ) (c : Chain) (x : Volumes) (part zeros : List ℕ) → ((j : ℕ) → j < piece_at k done → sector_of zeros j ≡ zero_sector)
    → ((j : ℕ) → j < piece_at k done → IsIn k (length part / 512) (k.first + done + j) ⊎ (k.capacity ≤ k.first + done + j)) ⊎ (k.below ≡ None) → HasBelow k done c x part zeros
zeros_below k done c x part zeros each (inl all) j less out low = none_skipped k c x (k.first + done + j) (length part / 512) (sector_of zeros j) (all j less) out low
zeros_below k done c x part zeros each (inr none) j less out low = subst (λ (o : Option Id). ReadsBelow c x o (k.first + done + j) (sector_of zeros j)) (sym none) (each j less)

pub zeros_written : (p : Filling) (c : Chain) (host : ℕ) (part before zeros after : List ℕ) (faults : ℕ) (turn : FillTurn) (d e : Content) → zeros ≡ replicate (length before) 0 → Skips p (length part / 512) None
    → WritesPiece p c host part zeros after faults turn d e → WritesZeros p c host part before after faults turn d e
zeros_written p c host part before zeros after faults turn d e same skips written = record { skips = skips; writes = subst (λ (z : List ℕ). WritesPiece p c host part z after faults turn d e) same written }

-- the step where the piece was made zeros, in the words of what stood there
pub begins : (p : Filling) (c : Chain) (host : ℕ) (part before after : List ℕ) (room : Filling → List ℕ) (faults : ℕ) (turn : FillTurn) (d e : Content) → length before ≡ 512 * piece_of p → length after ≡ length before
    → ((next : Filling) → next.cluster ≡ p.cluster → next.done ≡ p.done → room next ≡ after) → BeginsPiece p c host part before after faults turn d e → FillsIn Begun p c host part before room turn d e
begins p c host part before after room faults turn d e size len in_room (inl read) =
    subst (λ (z : Content). FillsIn Begun p c host part before room turn d z) (sym read.0) (begin_turn p c host part after room in_room turn before d (len ∙ size) read.1)
begins p c host part before after room faults turn d e size len in_room (inr w) =
    let zeros : length (replicate (length before) 0) ≡ length before = length-replicate (length before) 0 in
    let there = writes Begun p c host part (replicate (length before) 0) after room faults turn d e (zeros ∙ size) w.writes
    (λ x k. zeros_below p.cluster p.done c x part (replicate (length before) 0) (λ j less. zeros_each (length before) (piece_of p) j size less) w.skips) in
    record { writes = there.writes; gone = there.gone; leaves = λ x k. there.leaves x (record { cluster = k.cluster; so_far = tt }) }

-- ---- the front of the room

pub front_is : (p next : Filling) (piece rest : List ℕ) → next.cluster ≡ p.cluster → next.done ≡ p.done → length piece ≡ 512 * piece_of p → front next (piece ++ rest) ≡ piece
front_is p next piece rest cluster done size =
    let count : piece_of next ≡ piece_of p = ap₂ (λ (q : Cluster) (n : ℕ). piece_at q n) cluster done in
    ap (λ n. take (512 * n) (piece ++ rest)) count ∙ ap (λ n. take n (piece ++ rest)) (sym size) ∙ take-append_seam piece rest

-- the step in front of the room, so many sectors long, is one of the room
pub step_on : (p : Filling) (c : Chain) (host : ℕ) (part room piece rest : List ℕ) (n : ℕ) (turn : FillTurn) (d e : Content) → n ≡ piece_of p → length piece ≡ 512 * n → FillsPiece p c host part (take (512 * n) room) piece turn d e
    → FillsOn p c host part room (piece ++ rest) turn d e
step_on p c host part room piece rest n turn d e count size fills =
    subst (λ m. FillsIn p.stage p c host part (take (512 * m) room) (λ next. front next (piece ++ rest)) turn d e) count
    (fills (λ next. front next (piece ++ rest)) (λ next cluster done. front_is p next piece rest cluster done (size ∙ ap (λ m. 512 * m) count)))
