-- What each step leaves, of what is known.
use Rattle.std.proofs.Common.{◌≡◌, ◌⊎◌, ℕ, zero, suc, ◌+◌, ◌*◌, ◌/◌, ◌≤◌, List, [], ◌∷◌, length, drop, slice_get, Option, Some, None, refl, sym, ap, ap₂, ◌∙◌, subst, inl, inr, arith}
use Rattle.std.specs.Prelude.{max}
use Rattle.std.specs.List.{Contains}
use Rattle.std.proofs.lemmas.Bool.{false≢true}
use Rattle.sd_names.specs.Turn.{MatchTurn}
use Rattle.sd_names.specs.declared.id.Id.{Id}
use Rattle.sd_names.specs.declared.place.Place.{Place}
use Rattle.sd_names.specs.declared.refusal.Refusal.{Refusal}
use Rattle.sd_names.specs.declared.refusal.Refusal.TheVariants.{Vanished}
use Rattle.sd_names.specs.declared.turn.Turn.{Turn}
use Rattle.sd_names.specs.declared.turn.Turn.TheVariants.{More, Done, Ended}
use Rattle.shared_disk.specs.Content.{Content, File}
use Rattle.qcow_format.specs.declared.entry.Entry.{Entry}
use Rattle.qcow_format.specs.declared.entry.Entry.TheVariants.{Absent, Zero}
use Rattle.image_model.specs.File.{sector_in}
use Rattle.qcow_layer.specs.Looking.{IsFault, KnowsTable, cluster_of, table_of}
use Rattle.qcow_layer.specs.Opening.{place_kept, target_kept}
use Rattle.qcow_layer.specs.Seen.{IsReadRefusal}
use Rattle.qcow_layer.specs.Stages as layers
use Rattle.qcow_layer.specs.declared.layer.Layer.{Layer}
use Rattle.qcow_layer.specs.declared.looking.Looked.{Looked}
use Rattle.qcow_layer.specs.declared.looking.Looking as looking
use Rattle.chain_model.specs.Chain.{IsBelow, path_of}
use Rattle.chain_model.specs.Flat.{first_of, flat}
use Rattle.chain_model.specs.Folder.{Volumes}
use Rattle.chain_model.specs.Own.{own}
use Rattle.volume_chain.specs.Chain.{open_in, path_in, place_in, target_of}
use Rattle.volume_chain.specs.declared.chain.Chain.{Chain}
use Rattle.volume_chain.specs.declared.volumes.OpenVolume.{OpenVolume}
use Rattle.volume_chain.specs.declared.volumes.OpenVolume.TheVariants as volumes
use Rattle.chain_reading.specs.Asked.{asked_by, asked_in, asked_of, cluster_by, cluster_end, cluster_number, cluster_sectors, end_in}
use Rattle.chain_reading.specs.Choosing.{IsFit, IsNext, LooksNext, past, waits}
use Rattle.chain_reading.specs.Choosing as choosing
use Rattle.chain_reading.specs.Knowing.{IsAsked, Knows, KnowsEntry, KnowsImage, KnowsIn, KnowsLooking, KnowsPart, KnowsSoFar, number, place_on, records_of, tables_in, wanted}
use Rattle.chain_reading.specs.Laying.{LaysZeros}
use Rattle.chain_reading.specs.Looking.{LooksAt}
use Rattle.chain_reading.specs.Reading.{FillsIn, IsBehind, IsBehindThen, IsFinished, IsFoundOn, IsGone, IsPassed, IsSamePart, PartTurn, ReadsIn, RunsOn}
use Rattle.chain_reading.specs.declared.asked.Asked.{Asked}
use Rattle.chain_reading.specs.declared.choosing.Fit.TheVariants as fit
use Rattle.chain_reading.specs.declared.choosing.Next.TheVariants as next
use Rattle.chain_reading.specs.declared.part.ReadPart.{ReadPart}
use Rattle.chain_reading.specs.declared.part.Stage.{Stage}
use Rattle.chain_reading.specs.declared.part.Stage.TheVariants.{Begun, Asking, Looking, Found}
use Rattle.chain_reading.specs.declared.running.Run.{Run}
use Rattle.chain_reading.proofs.Clusters.{cluster_held, raw_moves, take_moves}
use Rattle.chain_reading.proofs.Looks.{here, looked_on}
use Rattle.chain_reading.proofs.Moving.{IsOpenHere, open_here, pass_moves, read_moves, readable_here, skip_moves, zero_moves}
use Rattle.chain_reading.proofs.Paths.{path_from}
use Rattle.chain_reading.proofs.Standing.{each_found, each_skipped, each_zero, still_from}

-- ---- more is to do

knows_next : (stage stage' : Stage) (p q : ReadPart) (c : Chain) (host : ℕ) (x : Volumes) (part part' : List ℕ) (d : Content) → q.stage ≡ stage' → IsSamePart p q → length part' ≡ length part
    → KnowsIn stage p c host x part d → KnowsSoFar stage' q c x part' → Knows q c host x part' d
knows_next stage stage' p q c host x part part' d is same len k now = record {
  image = subst (λ (v : Id). KnowsImage c v host x d) (sym same.volume) k.image;
  volume = subst (λ (v : Id). Contains (path_in c) v) (sym same.volume) k.volume;
  ends = omega (arith, k.ends, same.first, len);
  so_far = subst (λ s. KnowsSoFar s q c x part') (sym is) now;
}

-- a step without a call that goes on
abbrev Goes : Stage → ReadPart → Chain → ℕ → List ℕ → List ℕ → ReadPart → Content → Type 0
Goes stage p c host before after q d = ReadsIn stage p c host before after (More q) d d

goes : (stage stage' : Stage) (p q : ReadPart) (c : Chain) (host : ℕ) (before after : List ℕ) (d : Content) → q.stage ≡ stage' → IsSamePart p q → length after ≡ length before
    → ((x : Volumes) → KnowsIn stage p c host x before d → KnowsSoFar stage' q c x after) → Goes stage p c host before after q d
goes stage stage' p q c host before after d is same len now = record {
  same = refl;
  gone = tt;
  leaves = λ x k. knows_next stage stage' p q c host x before after d is same len k (now x k);
}

-- ---- the volume is found

pub finds : (p q : ReadPart) (c : Chain) (host : ℕ) (part : List ℕ) (d : Content) → length part ≤ 65536 → IsFoundOn p c q → Goes Begun p c host part part q d
finds p q c host part d few found = goes Begun Asking p q c host part part d found.stage found.part refl (λ x k. record {
  each = λ j inside. each_found p q c x part j found.part found.index found.from (found.all j (omega (arith, inside, few)));
  run = λ u h is j low high. absurd (omega (arith, low, high, found.from, found.to));
  low = λ less. absurd (omega (arith, less, found.from, found.to));
  inside = omega (arith, found.to);
  from = let at : place_on q.volume (path_in c) ≡ place_on p.volume (path_in c) = ap (λ (v : Id). place_on v (path_in c)) found.part.volume in omega (arith, at, found.index);
})

-- ---- no volume is left

none_past : {A : Type 0} (xs : List A) (n : ℕ) → slice_get xs n ≡ None → length xs ≤ n
none_past [] n e = omega arith
none_past (y ∷ ys) zero e = absurd cc
none_past (y ∷ ys) (suc n) e = let le = none_past ys n e in omega (arith, le)

ended : (c : Chain) (n : ℕ) (o : Option Id) (q : Option OpenVolume) → asked_by c o q ≡ None → slice_get (path_in c) n ≡ o → slice_get (open_in c) n ≡ q → length (open_in c) ≡ length (path_in c) → length (path_in c) ≤ n
ended c n None q e s t all = none_past (path_in c) n s
ended c n (Some v) None e s t all = let le = none_past (open_in c) n t in omega (arith, le, all)
ended c n (Some v) (Some w) e s t all = absurd cc

reads_flat : (p : ReadPart) (c : Chain) (host : ℕ) (x : Volumes) (d : Content) (j : ℕ) → KnowsImage c p.volume host x d → Contains (path_in c) p.volume → (us : List Id) → IsBelow (records_of c) p.volume us
    → wanted p c x j ≡ flat (records_of c) x p.volume us (p.first + j)
reads_flat p c host x d j k on us at =
    let reading = k.shape.reading in
    let path : path_in c ≡ path_of (records_of c) reading.0 reading.1 = reading.3 in
    let there : Contains (path_of (records_of c) reading.0 reading.1) p.volume = subst (λ (vs : List Id). Contains vs p.volume) path on in
    ap (λ (vs : List Id). first_of (records_of c) x (drop (place_on p.volume vs) vs) (p.first + j)) path
    ∙ ap (λ (vs : List Id). first_of (records_of c) x vs (p.first + j)) (path_from (records_of c) p.volume reading.0 reading.1 us reading.2.below there at)

pub finishes : (p : ReadPart) (c : Chain) (host : ℕ) (before after : List ℕ) (d : Content) → length before ≤ 65536 → asked_in c p.index ≡ None → IsFinished p before after
    → ReadsIn Asking p c host before after (Done tt) d d
finishes p c host before after d few none lays = record {
  same = refl;
  gone = tt;
  leaves = λ x k us at j inside.
      let past = ended c p.index (slice_get (path_in c) p.index) (slice_get (open_in c) p.index) none refl refl k.image.all in
      let laid = lays.1.2 in
      let len = laid.len in
      each_zero p c x before after lays.1.0 lays.0 (length before / 512) j past lays.1.1 (omega (arith, inside, few, len)) (omega (arith, inside, len)) laid (k.so_far.each j (omega (arith, inside, len)))
      ∙ reads_flat p c host x d j k.image k.volume us at;
}

-- ---- what is asked of a volume

pub passes : (p q : ReadPart) (c : Chain) (host : ℕ) (a : Asked) (part : List ℕ) (d : Content) → asked_in c p.index ≡ Some a → IsNext p a (length part / 512) next.Pass → IsPassed p q
    → Goes Asking p c host part part q d
passes p q c host a part d e is moved = goes Asking Asking p q c host part part d moved.stage_is moved.part refl
    (λ x k. pass_moves p q c x a part (open_here p c host x d a k.image k.so_far.from e) is.0 is.1 moved k.so_far)

pub takes_raw : (p q : ReadPart) (r : Run) (c : Chain) (host : ℕ) (a : Asked) (part : List ℕ) (d : Content) → asked_in c p.index ≡ Some a → IsNext p a (length part / 512) (next.Take r) → RunsOn p r Asking q
    → Goes Asking p c host part part q d
takes_raw p q r c host a part d e is moved = goes Asking Asking p q c host part part d moved.stage_is moved.part refl
    (λ x k. raw_moves p q r c host x d a part Asking k.image (open_here p c host x d a k.image k.so_far.from e) is moved k.ends k.so_far)

-- the same run, and the same all else
record IsOpenAt (p : ReadPart) (c : Chain) (x : Volumes) : Type 0 where
  volume : Id
  file : File
  is : IsAsked p c x volume file

stays : (p q : ReadPart) (c : Chain) (x : Volumes) (part : List ℕ) (stage : Stage) → IsOpenAt p c x → RunsOn p p.run stage q → KnowsPart p c x part → KnowsPart q c x part
stays p q c x part stage h moved knows =
    let from : q.run.from ≡ p.run.from = ap (λ (r : Run). r.from) moved.run in
    let to : q.run.to ≡ p.run.to = ap (λ (r : Run). r.to) moved.run in
    let sector : q.run.sector ≡ p.run.sector = ap (λ (r : Run). r.sector) moved.run in
    record {
      each = λ j inside. each_skipped p q c x part h.volume h.file moved.part moved.index moved.missing h.is (omega (arith, from)) (λ j low high m. absurd (omega (arith, low, high, from))) j (knows.each j inside);
      run = λ u g is j low high.
          ap (λ n. own (records_of c) x u (n + j)) moved.part.first
          ∙ knows.run u g (record { volume = ap (slice_get (path_in c)) (sym moved.index) ∙ is.volume; file = is.file }) j (omega (arith, low, from)) (omega (arith, high, to))
          ∙ ap (λ n. Some (sector_in g.size g.stable n)) (omega (arith, sector, from));
      low = λ less. omega (arith, sector, knows.low (omega (arith, less, from, to)));
      inside = omega (arith, to, knows.inside);
      from = still_from p q c moved.part (omega (arith, moved.index)) knows.from;
    }

looked_next : (p q : ReadPart) (r : Run) (c : Chain) (x : Volumes) (part : List ℕ) (stage : Stage) (a : Asked) → IsOpenHere p c x a → LooksNext p a (length part / 512) r → RunsOn p r stage q
    → KnowsPart p c x part → KnowsPart q c x part
looked_next p q r c x part stage a h looks moved knows = go looks.run
  where
    go : (r ≡ p.run) ⊎ (choosing.is_free p × (r.from ≡ r.to)) → KnowsPart q c x part
    go (inl same) = stays p q c x part stage (record { volume = h.volume; file = h.file; is = h.is }) (subst (λ (s : Run). RunsOn p s stage q) same moved) knows
    go (inr free) = skip_moves p q r c x part h.volume h.file stage h.is free.0 (omega (arith, looks.from, free.1)) free.1 moved knows (omega (arith, looks.inside))
        (λ j low high m. absurd (false≢true (sym (looks.none j low (omega (arith, high, free.1))) ∙ m)))

-- the layer that is asked
layer_of_cluster : (o : OpenVolume) (width : ℕ) → cluster_by o ≡ Some width → (l : Layer) × (o ≡ volumes.Cow l)
layer_of_cluster (volumes.Raw n) width e = absurd cc
layer_of_cluster (volumes.Cow l) width e = (l, refl)

pub looks : (p q : ReadPart) (r : Run) (l : looking.Looking) (c : Chain) (host : ℕ) (a : Asked) (part : List ℕ) (d : Content) → asked_in c p.index ≡ Some a → IsNext p a (length part / 512) (next.Look r)
    → cluster_of l ≡ cluster_number a.cluster p.first r.to → table_of l ≡ None → RunsOn p r (Looking l) q → Goes Asking p c host part part q d
looks p q r l c host a part d e is cluster table moved = goes Asking (Looking l) p q c host part part d moved.stage_is moved.part refl (λ x k. now x k (open_here p c host x d a k.image k.so_far.from e))
  where
    now : (x : Volumes) → KnowsIn Asking p c host x part d → IsOpenHere p c x a → KnowsPart q c x part × KnowsLooking q c x l
    now x k h = (looked_next p q r c x part (Looking l) a h is moved k.so_far, begun (layer_of_cluster h.opened is.width (ap (λ (b : Asked). b.cluster) h.asked ∙ is.layer)))
      where
        begun : (y : Layer) × (h.opened ≡ volumes.Cow y) → KnowsLooking q c x l
        begun y =
            let by : cluster_by (volumes.Cow y.0) ≡ a.cluster = ap cluster_by (sym y.1) ∙ ap (λ (b : Asked). b.cluster) h.asked in
            let to : q.run.to ≡ r.to = ap (λ (s : Run). s.to) moved.run in
            record {
              layer = y.0;
              file = h.file;
              asked = record {
                volume = h.volume;
                is = record { volume = ap (slice_get (path_in c)) moved.index ∙ h.is.volume; file = h.is.file };
                layer = ap (slice_get (open_in c)) moved.index ∙ h.open_is ∙ ap (λ (o : OpenVolume). Some o) y.1;
              };
              cluster = cluster ∙ ap (λ o. cluster_number o p.first r.to) (sym by) ∙ ap₂ (λ m n. cluster_number (Some (cluster_sectors y.0)) m n) (sym moved.part.first) (sym to);
              table = subst (λ t. KnowsTable (tables_in y.0 h.file) (number q y.0) t) (sym table) tt;
            }

-- ---- a look-up goes on, or found an entry

looking_stays : (p q : ReadPart) (c : Chain) (x : Volumes) (l : looking.Looking) (stage : Stage) → RunsOn p p.run stage q → KnowsLooking p c x l → KnowsLooking q c x l
looking_stays p q c x l stage moved k =
    let to : q.run.to ≡ p.run.to = ap (λ (s : Run). s.to) moved.run in
    let n : number q k.layer ≡ number p k.layer = ap₂ (λ m n. cluster_number (Some (cluster_sectors k.layer)) m n) moved.part.first to in
    record {
      layer = k.layer;
      file = k.file;
      asked = record {
        volume = k.asked.volume;
        is = record { volume = ap (slice_get (path_in c)) moved.index ∙ k.asked.is.volume; file = k.asked.is.file };
        layer = ap (slice_get (open_in c)) moved.index ∙ k.asked.layer;
      };
      cluster = k.cluster ∙ sym n;
      table = subst (λ m. KnowsTable (tables_in k.layer k.file) m (table_of l)) (sym n) k.table;
    }

entry_stays : (p q : ReadPart) (c : Chain) (x : Volumes) (e : Entry) → q.index ≡ p.index → q.first ≡ p.first → q.run.to ≡ p.run.to → KnowsEntry p c x e → KnowsEntry q c x e
entry_stays p q c x e index first to k =
    let n : number q k.layer ≡ number p k.layer = ap₂ (λ m n. cluster_number (Some (cluster_sectors k.layer)) m n) first to in
    record {
      layer = k.layer;
      file = k.file;
      asked = record {
        volume = k.asked.volume;
        is = record { volume = ap (slice_get (path_in c)) index ∙ k.asked.is.volume; file = k.asked.is.file };
        layer = ap (slice_get (open_in c)) index ∙ k.asked.layer;
      };
      low = k.low;
      held = λ m less same. k.held m less (same ∙ n);
    }

module _ (p : ReadPart) (c : Chain) (host : ℕ) (l : looking.Looking) (part : List ℕ) (d e : Content) where
  found_on : (turn : Turn looking.Looking Looked (Unit {0})) (x : Volumes) → LooksAt c p.index l host turn d e → KnowsIn (Looking l) p c host x part d
      → MatchTurn turn (λ next. KnowsLooking p c x next) (λ looked. KnowsEntry p c x looked.entry) (λ _ refusal. IsFault refusal)
  found_on turn x looks k = looked_on p c host x d e l turn k.image k.so_far.0.from k.so_far.1 (looks.looks k.so_far.1.layer k.so_far.1.asked.layer)

  open_still : (x : Volumes) → KnowsIn (Looking l) p c host x part d → KnowsPart p c x part × IsOpenAt p c x
  open_still x k = (k.so_far.0, record { volume = k.so_far.1.asked.volume; file = k.so_far.1.file; is = k.so_far.1.asked.is })

  pub look_more : (n : looking.Looking) (q : ReadPart) → LooksAt c p.index l host (More n) d e → RunsOn p p.run (Looking n) q → ReadsIn (Looking l) p c host part part (More q) d e
  look_more n q looks moved = record {
    same = looks.same;
    gone = tt;
    leaves = λ x k. subst (λ (z : Content). Knows q c host x part z) (sym looks.same)
        (knows_next (Looking l) (Looking n) p q c host x part part d moved.stage_is moved.part refl k
        (stays p q c x part (Looking n) (open_still x k).1 moved k.so_far.0, looking_stays p q c x n (Looking n) moved (found_on (More n) x looks k)));
  }

  pub look_done : (looked : Looked) (q : ReadPart) → LooksAt c p.index l host (Done looked) d e → RunsOn p p.run (Found looked.entry) q → ReadsIn (Looking l) p c host part part (More q) d e
  look_done looked q looks moved = record {
    same = looks.same;
    gone = tt;
    leaves = λ x k. subst (λ (z : Content). Knows q c host x part z) (sym looks.same)
        (knows_next (Looking l) (Found looked.entry) p q c host x part part d moved.stage_is moved.part refl k (
          stays p q c x part (Found looked.entry) (open_still x k).1 moved k.so_far.0,
          entry_stays p q c x looked.entry moved.index moved.part.first (ap (λ (s : Run). s.to) moved.run) (found_on (Done looked) x looks k),
        ));
  }

  gone_layer : (refusal : Refusal) (y : Layer) → slice_get (open_in c) p.index ≡ Some (volumes.Cow y) → layers.IsGone (target_kept y) refusal d → IsGone c refusal d
  gone_layer (Vanished a) y there gone = (gone.0, (place_kept y, (p.index, inr (y, there, refl)), gone.1))
  gone_layer _ y there gone = tt

  pub look_ended : (b : Unit {0}) (refusal : Refusal) → LooksAt c p.index l host (Ended b refusal) d e → ReadsIn (Looking l) p c host part part (Ended tt refusal) d e
  look_ended b refusal looks = record {
    same = looks.same;
    gone = gone_layer refusal looks.gone.0 looks.gone.1 looks.gone.2;
    leaves = λ x k. found_on (Ended b refusal) x looks k;
  }

-- ---- an entry is known

past_bound : (o : Option ℕ) (first at end : ℕ) → cluster_end o first at end ≤ max end at
past_bound None first at end = omega arith
past_bound (Some s) first at end = omega arith

past_low : (o : Option ℕ) (first at end : ℕ) → at ≤ cluster_end o first at end
past_low None first at end = omega arith
past_low (Some s) first at end = omega arith

pub takes : (p q : ReadPart) (r : Run) (e : Entry) (c : Chain) (host : ℕ) (a : Asked) (part : List ℕ) (d : Content) → asked_in c p.index ≡ Some a → IsFit p a (length part / 512) e (fit.Take r) → RunsOn p r Asking q
    → Goes (Found e) p c host part part q d
takes p q r e c host a part d is fits moved = goes (Found e) Asking p q c host part part d moved.stage_is moved.part refl
    (λ x k. take_moves p q r c x a part fits.0 Asking (subst (λ (f : Entry). KnowsEntry p c x f) fits.1 k.so_far.1) (open_here p c host x d a k.image k.so_far.0.from is) fits.2 moved k.so_far.0)

pub skips : (p q : ReadPart) (r : Run) (e : Entry) (end : ℕ) (c : Chain) (host : ℕ) (a : Asked) (part : List ℕ) (d : Content) → asked_in c p.index ≡ Some a → IsFit p a (length part / 512) e (fit.Skip end)
    → r.from ≡ end → r.to ≡ end → RunsOn p r Asking q → Goes (Found e) p c host part part q d
skips p q r e end c host a part d is fits from to moved = goes (Found e) Asking p q c host part part d moved.stage_is moved.part refl (λ x k. now x k (subst (λ (f : Entry). KnowsEntry p c x f) fits.0 k.so_far.1))
  where
    now : (x : Volumes) → KnowsIn (Found e) p c host x part d → KnowsEntry p c x Absent → KnowsPart q c x part
    now x k y =
        let bound = past_bound a.cluster p.first p.run.to (end_in a p.first (length part / 512)) in
        let low = past_low a.cluster p.first p.run.to (end_in a p.first (length part / 512)) in
        skip_moves p q r c x part y.asked.volume y.file Asking y.asked.is fits.1 (omega (arith, from, fits.2, low)) (from ∙ sym to) moved k.so_far.0 (omega (arith, to, fits.2, bound, k.so_far.0.inside))
        (λ j least less m. cluster_held p c x a (length part / 512) Absent y (open_here p c host x d a k.image k.so_far.0.from is) j least (omega (arith, less, from, fits.2)))

pub zeros : (p q : ReadPart) (e : Entry) (end : ℕ) (c : Chain) (host : ℕ) (a : Asked) (before after : List ℕ) (d : Content) → length before ≤ 65536 → length after ≡ length before → asked_in c p.index ≡ Some a
    → IsFit p a (length before / 512) e (fit.Zeros end) → IsBehind p end Asking q → (512 * end ≤ length before → LaysZeros p.missing q.missing before after p.run.to end) → Goes (Found e) p c host before after q d
zeros p q e end c host a before after d few len is fits moved lays = goes (Found e) Asking p q c host before after d moved.stage_is moved.part len (λ x k. now x k (subst (λ (f : Entry). KnowsEntry p c x f) fits.1 k.so_far.1))
  where
    now : (x : Volumes) → KnowsIn (Found e) p c host x before d → KnowsEntry p c x (Zero fits.0) → KnowsPart q c x after
    now x k y =
        let bound = past_bound a.cluster p.first p.run.to (end_in a p.first (length before / 512)) in
        let low = past_low a.cluster p.first p.run.to (end_in a p.first (length before / 512)) in
        let inside : 512 * end ≤ length before = omega (arith, fits.3, bound, k.so_far.0.inside) in
        let laid = lays inside in
        zero_moves p q c x before after laid.0 y.asked.volume y.file end Asking y.asked.is fits.2 (omega (arith, fits.3, low)) (omega (arith, inside, few)) moved k.so_far.0 inside laid.1 laid.2
        (λ j least less. cluster_held p c x a (length before / 512) (Zero fits.0) y (open_here p c host x d a k.image k.so_far.0.from is) j least (omega (arith, less, fits.3)))

-- where the path has no such volume the entry says nothing
pub lost : (p q : ReadPart) (e : Entry) (c : Chain) (host : ℕ) (part : List ℕ) (d : Content) → asked_in c p.index ≡ None → RunsOn p p.run Asking q → Goes (Found e) p c host part part q d
lost p q e c host part d none moved = goes (Found e) Asking p q c host part part d moved.stage_is moved.part refl
    (λ x k. absurd (cc (none, ap₂ (asked_by c) k.so_far.1.asked.is.volume k.so_far.1.asked.layer)))

-- ---- the run is read

gone_at : (c : Chain) (k : ℕ) (v : Id) (place : Place) (faults : ℕ) (refusal : Refusal) (d : Content) → slice_get (path_in c) k ≡ Some v → place ≡ place_in (target_of c) v
    → IsReadRefusal place faults refusal d → IsGone c refusal d
gone_at c k v place faults refusal d there is (inl e) = subst (λ r. IsGone c r d) (sym e) tt
gone_at c k v place faults refusal d there is (inr e) = subst (λ r. IsGone c r d) (sym e.0) (refl, (place, (k, inl (v, there, is)), e.1))

fault_of : (place : Place) (faults : ℕ) (refusal : Refusal) (f : File) (d : Content) → d.file place ≡ Some f → IsReadRefusal place faults refusal d → IsFault refusal
fault_of place faults refusal f d there (inl e) = subst (λ r. IsFault r) (sym e) tt
fault_of place faults refusal f d there (inr e) = absurd (cc (there, e.1))

asked_volume : (c : Chain) (o : Option Id) (q : Option OpenVolume) (a : Asked) → asked_by c o q ≡ Some a → (v : Id) × (o ≡ Some v) × (a.place ≡ place_in (target_of c) v)
asked_volume c None q a e = absurd cc
asked_volume c (Some v) None a e = absurd cc
asked_volume c (Some v) (Some w) a e = let same : asked_of c v w ≡ a = cc in (v, refl, ap (λ (b : Asked). b.place) (sym same))

module _ (stage : Stage) (p : ReadPart) (c : Chain) (host : ℕ) (a : Asked) (before after : List ℕ) (faults : ℕ) (d e : Content) (there : asked_in c p.index ≡ Some a) (is : p.stage ≡ stage)
    (so_far : (x : Volumes) → KnowsIn stage p c host x before d → KnowsPart p c x before)
    (still : (x : Volumes) (q : ReadPart) (s : Stage) → IsBehind p p.run.to s q → KnowsIn stage p c host x before d → KnowsPart q c x after → KnowsSoFar stage q c x after) where
  filled : (turn : PartTurn) → waits p → IsBehindThen p turn → FillsIn p a.place before after faults turn d e → ReadsIn stage p c host before after turn d e
  filled (More q) less moved fills = record {
    same = fills.same;
    gone = tt;
    leaves = λ x k. subst (λ (z : Content). Knows q c host x after z) (sym fills.same) (now x k (open_here p c host x d a k.image (so_far x k).from there));
  }
    where
      now : (x : Volumes) → KnowsIn stage p c host x before d → IsOpenHere p c x a → Knows q c host x after d
      now x k h =
          let f = here c host x d h.volume h.opened h.file (readable_here p c host x d a k.image (so_far x k).from h) h.is.file in
          let place : a.place ≡ place_in (target_of c) h.volume = ap (λ (b : Asked). b.place) (sym h.asked) in
          let known = so_far x k in
          let lays = fills.leaves f.file (ap (λ (z : Place). d.file z) place ∙ f.there) f.settled (known.low less) known.inside in
          let len = lays.2.len in
          knows_next stage stage p q c host x before after d (moved.stage_is ∙ is) moved.part len k
          (still x q p.stage moved k (read_moves p q c host x d before after lays.0 h.volume h.file f.file p.stage k.image h.is f.longer moved known lays.1 lays.2))
  filled (Done b) less moved fills = absurd moved
  filled (Ended b refusal) less moved fills = record {
    same = fills.same;
    gone = let v = asked_volume c (slice_get (path_in c) p.index) (slice_get (open_in c) p.index) a there in gone_at c p.index v.0 a.place faults refusal d v.1 v.2 fills.leaves;
    leaves = λ x k. fails x k (open_here p c host x d a k.image (so_far x k).from there);
  }
    where
      fails : (x : Volumes) → KnowsIn stage p c host x before d → IsOpenHere p c x a → IsFault refusal
      fails x k h =
          let f = here c host x d h.volume h.opened h.file (readable_here p c host x d a k.image (so_far x k).from h) h.is.file in
          let place : a.place ≡ place_in (target_of c) h.volume = ap (λ (b : Asked). b.place) (sym h.asked) in
          fault_of a.place faults refusal f.file d (ap (λ (z : Place). d.file z) place ∙ f.there) fills.leaves

pub reads_asking : (p : ReadPart) (c : Chain) (host : ℕ) (a : Asked) (before after : List ℕ) (faults : ℕ) (turn : PartTurn) (d e : Content) → asked_in c p.index ≡ Some a → p.stage ≡ Asking → waits p
    → IsBehindThen p turn → FillsIn p a.place before after faults turn d e → ReadsIn Asking p c host before after turn d e
reads_asking p c host a before after faults turn d e there is less moved fills =
    filled Asking p c host a before after faults d e there is (λ x k. k.so_far) (λ x q s b k n. n) turn less moved fills

pub reads_found : (p : ReadPart) (y : Entry) (c : Chain) (host : ℕ) (a : Asked) (before after : List ℕ) (faults : ℕ) (turn : PartTurn) (d e : Content) → asked_in c p.index ≡ Some a → p.stage ≡ Found y → waits p
    → IsBehindThen p turn → FillsIn p a.place before after faults turn d e → ReadsIn (Found y) p c host before after turn d e
reads_found p y c host a before after faults turn d e there is less moved fills =
    filled (Found y) p c host a before after faults d e there is (λ x k. k.so_far.0) (λ x q s b k n. (n, entry_stays p q c x y b.index b.part.first b.to k.so_far.1)) turn less moved fills
