-- What is known of the part once the entry of a cluster was found, or a raw volume is asked.
use Rattle.std.proofs.Common.{◌≡◌, ◌⊎◌, ℕ, ◌+◌, ◌-◌, ◌*◌, ◌/◌, ◌%◌, ◌^◌, ◌<◌, ◌≤◌, List, length, slice_get, Option, Some, None, sym, ap, ◌∙◌, inl, inr, arith}
use Rattle.std.specs.Prelude.{max}
use Rattle.std.proofs.lemmas.Bool.{cases_lt, false≢true}
use Rattle.std.proofs.lemmas.Nat.{mod_below}
use Rattle.sd_names.specs.declared.id.Id.{Id}
use Rattle.shared_disk.specs.Content.{Content, File}
use Rattle.qcow_format.specs.declared.entry.Entry.{Entry}
use Rattle.qcow_format.specs.declared.entry.Entry.TheVariants.{Data}
use Rattle.image_model.specs.File.{sector_in}
use Rattle.qcow_layer.specs.Opening.{header_kept, work_kept}
use Rattle.chain_model.specs.Folder.{Volumes}
use Rattle.chain_model.specs.Own.{own}
use Rattle.volume_chain.specs.Chain.{open_in, path_in}
use Rattle.volume_chain.specs.declared.chain.Chain.{Chain}
use Rattle.volume_chain.specs.declared.volumes.OpenVolume.{OpenVolume}
use Rattle.volume_chain.specs.declared.volumes.OpenVolume.TheVariants as volumes
use Rattle.chain_reading.specs.Asked.{cluster_by, cluster_end, cluster_sectors, end_in, offset_in, sectors_in}
use Rattle.chain_reading.specs.Choosing.{TakesCluster, TakesRaw, is_free, past, sector_at, waits}
use Rattle.chain_reading.specs.Knowing.{IsAsked, KnowsEntry, KnowsImage, KnowsPart, held_by, records_of}
use Rattle.chain_reading.specs.Reading.{RunsOn}
use Rattle.chain_reading.specs.declared.asked.Asked.{Asked}
use Rattle.chain_reading.specs.declared.part.ReadPart.{ReadPart}
use Rattle.chain_reading.specs.declared.part.Stage.{Stage}
use Rattle.chain_reading.specs.declared.running.Run.{Run}
use Rattle.chain_reading.proofs.Looks.{raw_asked}
use Rattle.chain_reading.proofs.Moving.{IsOpenHere}
use Rattle.chain_reading.proofs.Numbers.{narrow, within}
use Rattle.chain_reading.proofs.Standing.{each_skipped, still_from}

same_volume : (o : Option Id) (a b : Id) → o ≡ Some a → o ≡ Some b → a ≡ b
same_volume o a b e f = cc

same_open : (o : Option OpenVolume) (a b : OpenVolume) → o ≡ Some a → o ≡ Some b → a ≡ b
same_open o a b e f = cc

same_file : (o : Option File) (a b : File) → o ≡ Some a → o ≡ Some b → a ≡ b
same_file o a b e f = cc

-- ---- a cluster of a layer

module _ (p : ReadPart) (c : Chain) (x : Volumes) (a : Asked) (count : ℕ) (e : Entry) (k : KnowsEntry p c x e) (h : IsOpenHere p c x a) where
  cluster : a.cluster ≡ Some (cluster_sectors k.layer)
  cluster =
      ap (λ (b : Asked). b.cluster) (sym h.asked)
      ∙ ap cluster_by (same_open (slice_get (open_in c) p.index) h.opened (volumes.Cow k.layer) h.open_is k.asked.layer)

  sectors : a.sectors ≡ sectors_in c k.asked.volume
  sectors =
      ap (λ (b : Asked). b.sectors) (sym h.asked)
      ∙ ap (sectors_in c) (same_volume (slice_get (path_in c) p.index) h.volume k.asked.volume h.is.volume k.asked.is.volume)

  past_is : past p a count ≡ cluster_end (Some (cluster_sectors k.layer)) p.first p.run.to (end_in a p.first count)
  past_is = ap (λ o. cluster_end o p.first p.run.to (end_in a p.first count)) cluster

  offset_is : offset_in a.cluster p.first p.run.to ≡ (p.first + p.run.to) % max (cluster_sectors k.layer) 1
  offset_is = ap (λ o. offset_in o p.first p.run.to) cluster

  pub offset_low : offset_in a.cluster p.first p.run.to < 4097
  offset_low =
      let high : (header_kept k.layer).cluster_bits ≤ 21 = (work_kept k.layer).high in
      let few = narrow (header_kept k.layer).cluster_bits high in
      let low = mod_below (p.first + p.run.to) (max (cluster_sectors k.layer) 1) (omega arith) in
      omega (arith, low, few, offset_is)

  -- each sector of the cluster behind the run is held by the entry
  pub cluster_held : (j : ℕ) → p.run.to ≤ j → j < past p a count → own (records_of c) x k.asked.volume (p.first + j) ≡ held_by e k.file (offset_in a.cluster p.first p.run.to + (j - p.run.to))
  cluster_held j low high =
      let w : ℕ = max (cluster_sectors k.layer) 1 in
      let m : ℕ = (p.first + p.run.to) % max (cluster_sectors k.layer) 1 in
      let fits = mod_below (p.first + p.run.to) (max (cluster_sectors k.layer) 1) (omega arith) in
      let near : (p.first + p.run.to) % max (cluster_sectors k.layer) 1 + (j - p.run.to) < max (cluster_sectors k.layer) 1 = omega (arith, low, high, past_is, fits) in
      let both = within (p.first + p.run.to) (max (cluster_sectors k.layer) 1) (j - p.run.to) (omega arith) near in
      let at : p.first + j ≡ p.first + p.run.to + (j - p.run.to) = omega (arith, low) in
      let inside : p.first + j < sectors_in c k.asked.volume = omega (arith, low, high, past_is, sectors) in
      k.held (p.first + j) inside (ap (λ n. n / max (cluster_sectors k.layer) 1) at ∙ both.0)
      ∙ ap (held_by e k.file) (ap (λ n. n % max (cluster_sectors k.layer) 1) at ∙ both.1 ∙ ap (λ n. n + (j - p.run.to)) (sym offset_is))

-- a cluster of data begins a run, or lengthens the one that waits
pub take_moves : (p next : ReadPart) (r : Run) (c : Chain) (x : Volumes) (a : Asked) (part : List ℕ) (place : ℕ) (stage : Stage) → KnowsEntry p c x (Data place) → IsOpenHere p c x a
    → TakesCluster p a (length part / 512) place r → RunsOn p r stage next → KnowsPart p c x part → KnowsPart next c x part
take_moves p next r c x a part place stage k h takes moved knows = record {
  each = λ j inside. each_skipped p next c x part h.volume h.file moved.part moved.index moved.missing h.is (omega (arith, same_from))
      (λ j low high m. absurd (omega (arith, low, high, same_from))) j (knows.each j inside);
  run = λ u g is j low high. run u g is j low high;
  low = λ less. bound less takes.how;
  inside = omega (arith, to, takes.to, knows.inside, past_low);
  from = still_from p next c moved.part (omega (arith, moved.index)) knows.from;
}
  where
    from : next.run.from ≡ r.from
    from = ap (λ (q : Run). q.from) moved.run

    to : next.run.to ≡ r.to
    to = ap (λ (q : Run). q.to) moved.run

    sector : next.run.sector ≡ r.sector
    sector = ap (λ (q : Run). q.sector) moved.run

    from_by : (is_free p × (r.from ≡ p.run.to) × (r.sector ≡ sector_at p a place)) ⊎ (waits p × (r.from ≡ p.run.from) × (r.sector ≡ p.run.sector) × (sector_at p a place ≡ p.run.sector + (p.run.to - p.run.from))) → r.from ≡ p.run.from
    from_by (inl t) = t.1 ∙ sym t.0
    from_by (inr t) = t.1

    same_from : next.run.from ≡ p.run.from
    same_from = from ∙ from_by takes.how

    past_low : 512 * past p a (length part / 512) ≤ length part
    past_low = omega (arith, past_is p c x a (length part / 512) (Data place) k h, knows.inside)

    bound : next.run.from < next.run.to → (is_free p × (r.from ≡ p.run.to) × (r.sector ≡ sector_at p a place)) ⊎ (waits p × (r.from ≡ p.run.from) × (r.sector ≡ p.run.sector) × (sector_at p a place ≡ p.run.sector + (p.run.to - p.run.from))) → next.run.sector < 2 ^ 55
    bound less (inl t) = omega (arith, sector, t.2, k.low, offset_low p c x a (length part / 512) (Data place) k h)
    bound less (inr t) = omega (arith, sector, t.2, knows.low t.0)

    behind : (j : ℕ) → p.run.to ≤ j → j < next.run.to → own (records_of c) x k.asked.volume (p.first + j) ≡ Some (sector_in k.file.size k.file.stable (sector_at p a place + (j - p.run.to)))
    behind j low high = cluster_held p c x a (length part / 512) (Data place) k h j low (omega (arith, high, to, takes.to))
        ∙ ap (λ n. Some (sector_in k.file.size k.file.stable n)) (omega arith)

    by_run : (j : ℕ) → next.run.from ≤ j → j < next.run.to → (is_free p × (r.from ≡ p.run.to) × (r.sector ≡ sector_at p a place)) ⊎ (waits p × (r.from ≡ p.run.from) × (r.sector ≡ p.run.sector) × (sector_at p a place ≡ p.run.sector + (p.run.to - p.run.from)))
        → (j < p.run.to) ⊎ (p.run.to ≤ j) → own (records_of c) x k.asked.volume (p.first + j) ≡ Some (sector_in k.file.size k.file.stable (next.run.sector + (j - next.run.from)))
    by_run j low high (inl t) (inl less) = absurd (omega (arith, low, less, from, t.1))
    by_run j low high (inl t) (inr le) =
        behind j le high ∙ ap (λ n. Some (sector_in k.file.size k.file.stable n)) (omega (arith, sector, t.2, from, t.1))
    by_run j low high (inr t) (inl less) =
        knows.run k.asked.volume k.file k.asked.is j (omega (arith, low, same_from)) less
        ∙ ap (λ n. Some (sector_in k.file.size k.file.stable n)) (omega (arith, sector, t.2, same_from))
    by_run j low high (inr t) (inr le) =
        behind j le high ∙ ap (λ n. Some (sector_in k.file.size k.file.stable n)) (omega (arith, sector, t.2, t.3, same_from, low, le, p.run.order))

    run : (u : Id) (g : File) → IsAsked next c x u g → (j : ℕ) → next.run.from ≤ j → j < next.run.to
        → own (records_of c) x u (next.first + j) ≡ Some (sector_in g.size g.stable (next.run.sector + (j - next.run.from)))
    run u g is j low high =
        let volume : k.asked.volume ≡ u = same_volume (slice_get (path_in c) p.index) k.asked.volume u k.asked.is.volume (ap (slice_get (path_in c)) (sym moved.index) ∙ is.volume) in
        let file : k.file ≡ g = same_file (x.file u) k.file g (ap x.file (sym volume) ∙ k.asked.is.file) is.file in
        ap (λ n. own (records_of c) x u (n + j)) moved.part.first
        ∙ ap (λ v. own (records_of c) x v (p.first + j)) (sym volume)
        ∙ by_run j low high takes.how (cases_lt j p.run.to)
        ∙ ap (λ (f : File). Some (sector_in f.size f.stable (next.run.sector + (j - next.run.from)))) file

-- the rest of the part in a raw volume is a run
pub raw_moves : (p next : ReadPart) (r : Run) (c : Chain) (host : ℕ) (x : Volumes) (d : Content) (a : Asked) (part : List ℕ) (stage : Stage) → KnowsImage c p.volume host x d → IsOpenHere p c x a
    → TakesRaw p a (length part / 512) r → RunsOn p r stage next → 512 * p.first + length part ≤ 2 ^ 64 → KnowsPart p c x part → KnowsPart next c x part
raw_moves p next r c host x d a part stage k h takes moved ends knows = record {
  each = λ j inside. each_skipped p next c x part h.volume h.file moved.part moved.index moved.missing h.is (omega (arith, from, takes.from, takes.free))
      (λ j low high m. absurd (false≢true (sym (takes.none j (omega (arith, low, takes.free)) (omega (arith, high, from))) ∙ m))) j (knows.each j inside);
  run = λ u g is j low high. run h.opened (ap (λ (b : Asked). b.cluster) h.asked ∙ takes.raw) h.open_is u g is j low high;
  low = λ less. omega (arith, sector, takes.sector, takes.some, takes.to, ends);
  inside = omega (arith, to, takes.to);
  from = still_from p next c moved.part (omega (arith, moved.index)) knows.from;
}
  where
    from : next.run.from ≡ r.from
    from = ap (λ (q : Run). q.from) moved.run

    to : next.run.to ≡ r.to
    to = ap (λ (q : Run). q.to) moved.run

    sector : next.run.sector ≡ r.sector
    sector = ap (λ (q : Run). q.sector) moved.run

    sectors : a.sectors ≡ sectors_in c h.volume
    sectors = ap (λ (b : Asked). b.sectors) (sym h.asked)

    run : (o : OpenVolume) → cluster_by o ≡ None → slice_get (open_in c) p.index ≡ Some o → (u : Id) (g : File) → IsAsked next c x u g → (j : ℕ) → next.run.from ≤ j → j < next.run.to
        → own (records_of c) x u (next.first + j) ≡ Some (sector_in g.size g.stable (next.run.sector + (j - next.run.from)))
    run (volumes.Cow l) raw opens u g is j low high = absurd cc
    run (volumes.Raw n) raw opens u g is j low high =
        let there : slice_get (path_in c) p.index ≡ Some u = ap (slice_get (path_in c)) (sym moved.index) ∙ is.volume in
        let volume : h.volume ≡ u = same_volume (slice_get (path_in c) p.index) h.volume u h.is.volume there in
        let inside : next.first + j < sectors_in c u = omega (arith, high, to, takes.to, moved.part.first, sectors, ap (sectors_in c) volume) in
        raw_asked c p.volume host x d p.index u g n (next.first + j) k there opens is.file inside
        ∙ ap (λ m. Some (sector_in g.size g.stable m)) (omega (arith, sector, takes.sector, from, low, moved.part.first))
