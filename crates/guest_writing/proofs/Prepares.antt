-- A step of the preparing, and what is known behind it.
use Rattle.std.proofs.Common.{◌≡◌, ℕ, ◌+◌, ◌*◌, ◌/◌, ◌%◌, ◌≤◌, List, length, slice_get, Some, sym, ap, ◌∙◌, subst, inl, inr, arith}
use Rattle.std.specs.Prelude.{◌≢◌}
use Rattle.sd_names.specs.declared.id.Id.{Id}
use Rattle.sd_names.specs.declared.refusal.Refusal.{Refusal}
use Rattle.sd_names.specs.declared.refusal.Refusal.TheVariants.{NoRoom}
use Rattle.shared_disk.specs.Content.{Content, File}
use Rattle.shared_disk.proofs.AtPlace.{one_file}
use Rattle.volume_meta.specs.declared.record.VolumeRecord.{VolumeRecord}
use Rattle.qcow_layer.specs.declared.layer.Layer.{Layer}
use Rattle.qcow_layer.specs.declared.stages.Target as layer
use Rattle.layer_heading.specs.Writing.{IsQuiet}
use Rattle.chain_model.specs.Folder.{Folder, Volumes, folder_of}
use Rattle.chain_laws.specs.Laid.{Laying}
use Rattle.chain_laws.specs.Written.{ComesWritten}
use Rattle.volume_chain.specs.Chain.{dir_in, place_in}
use Rattle.volume_chain.specs.declared.chain.Chain.{Chain}
use Rattle.volume_chain.proofs.Apart.{AreApart, path_apart}
use Rattle.chain_records.specs.Records.{records_in}
use Rattle.chain_reading.specs.Knowing.{KnowsImage, place_on}
use Rattle.cluster_filling.proofs.Paths.{place_is}
use Rattle.guest_laws.proofs.Lower.{lower_known}
use Rattle.guest_laws.proofs.Writes.{layer_place, open_as}
use Rattle.write_planning.specs.Plan.{span_of}
use Rattle.write_planning.specs.Span.{at_of, length_of}
use Rattle.write_preparing.specs.Placed.{plan_of}
use Rattle.write_preparing.specs.Preparing as preparing
use Rattle.write_preparing.specs.Preparing.{IsPrepared, MayEnd, PreparingTurn}
use Rattle.write_preparing.specs.declared.placed.Placed.{Placed}
use Rattle.write_preparing.specs.declared.preparing.Preparing as preparings
use Rattle.write_preparing.specs.declared.stage.Stage as stages
use Rattle.write_preparing.specs.declared.stage.Stage.TheVariants.{Surveying, Asking, Clearing, Placing, InPlace}
use Rattle.write_filling.specs.Filling as filling
use Rattle.write_filling.specs.Filling.{HoldsSince}
use Rattle.write_filling.specs.declared.fillings.Fillings.{Fillings}
use Rattle.write_filling.proofs.Since.{since_written}
use Rattle.guest_steps.specs.Preparing.{PreparesChain}
use Rattle.guest_writing.specs.Knowing.{AreQuietBut, IsWriteOf, KnowsFilling, KnowsPreparing}
use Rattle.guest_writing.specs.Writing.{IsRefused, Leaves}
use Rattle.guest_writing.proofs.Quiet.{apart_at, may_again, only_here, quiet_kept, quiet_lent}

-- the volumes that are asked below the one that is written are others
pub below_apart : (path : List Id) (index : ℕ) (v u z : Id) → AreApart path → slice_get path index ≡ Some v → slice_get path (index + 1) ≡ Some u → (i : ℕ) → place_on u path ≤ i → slice_get path i ≡ Some z → z ≢ v
below_apart path index v u z apart here next i from at =
    let place : place_on u path ≡ index + 1 = place_is path (index + 1) u apart next in
    apart_at path i index z v apart at here (λ same. absurd (omega (arith, place, from, same)))

fits : (a n capacity : ℕ) → a + n / 512 ≤ capacity / 512 → n % 512 ≡ 0 → 512 * a + n ≤ capacity
fits a n capacity within whole = omega (arith, within, whole)

module _ (v : Id) (at : ℕ) (c next : Chain) (index : ℕ) (p : preparings.Preparing) (l : Laying) (x : VolumeRecord) (old : Volumes) (host faults : ℕ) (start : Folder) (d e : Content) (of : IsWriteOf v at l old)
    (k : KnowsPreparing index p c l x old host start d) (turn : PreparingTurn) (pc : PreparesChain p c next index k.layer l x host faults start turn k.file d e) where
  pub leaves : Leaves c l start d e
  leaves = record {
    only = only_here c index k.layer l x host start k.file pc.now d e k.write pc.put;
    comes = subst (λ (z : Chain). ComesWritten l start (folder_of (dir_in z.target) e)) pc.lent pc.write.comes;
  }

  quiet : AreQuietBut next index host e
  quiet =
      subst (λ (z : Chain). AreQuietBut z index host e) (sym pc.lent)
      (quiet_lent c index pc.after host e (quiet_kept c index l.volume host d e k.write.others.shape k.write.path leaves.only k.quiet))

  since : HoldsSince l x old pc.now
  since = since_written l x old k.file pc.now k.write.of.says k.since pc.written

  below : (u : Id) → slice_get next.path (index + 1) ≡ Some u → KnowsImage next u host old e
  below u now =
      let was : slice_get c.path (index + 1) ≡ Some u = subst (λ (z : Chain). slice_get z.path (index + 1) ≡ Some u) pc.lent now in
      subst (λ (z : Chain). KnowsImage z u host old e) (sym pc.lent)
      (lower_known c index k.layer pc.after l x host start k.file pc.now d e u old k.write pc.same.target pc.put pc.written
      (λ z asked. below_apart c.path index l.volume u z (path_apart (records_in c.records) c.path k.write.others.shape.reading) k.write.path was asked.0 asked.1 asked.2) (k.below u was))

  pub goes_on : (q : preparings.Preparing) → preparing.Knows q pc.after l x host pc.now → KnowsPreparing index q next l x old host start e
  goes_on q work = record { layer = pc.after; file = pc.now; write = pc.write; quiet = quiet; work = work; since = since; below = below }

  place : pc.after.target.place ≡ place_in next.target l.volume
  place = layer_place next l x pc.after (open_as next l x index pc.after pc.write.of pc.write.others.shape pc.write.path pc.write.layer)

  pub to_fill : (placed : Placed) (s : Fillings) (room : List ℕ) → filling.IsBegun v index at placed s → IsPrepared placed pc.after l x host pc.now → length l.part.bytes % 512 ≡ 0 → KnowsFilling index s next l x old host start room e
  to_fill placed s room begun prepared whole = record {
    layer = pc.after;
    file = pc.now;
    write = pc.write;
    quiet = quiet;
    work = begun.knows next pc.after l x old host room pc.now e (record {
      image = record {
        file = subst (λ (u : Id). pc.after.target.place ≡ place_in next.target u) volume place;
        volume = volume;
        records = pc.write.of.records;
        shape = pc.write.others.shape;
        path = subst (λ (n : ℕ). slice_get next.path n ≡ Some (filling.volume_of s)) (sym begun.index_is) (subst (λ (u : Id). slice_get next.path index ≡ Some u) volume pc.write.path);
        below = of.below;
        reads = of.reads;
        at = begun.start_is ∙ of.from;
        within = subst (λ (q : Placed). at_of (span_of (plan_of q)) + length_of (span_of (plan_of q)) ≤ pc.after.target.capacity) (sym begun.placed_is) within;
      };
      prepared = subst (λ (q : Placed). IsPrepared q pc.after l x host pc.now) (sym begun.placed_is) prepared;
      filled = λ j place k less. absurd (omega (arith, less, begun.none));
      since = since;
      below = λ u is. below u (subst (λ (n : ℕ). slice_get next.path (n + 1) ≡ Some u) begun.index_is is);
    });
  }
    where
      volume : l.volume ≡ filling.volume_of s
      volume = sym (begun.volume_is ∙ of.volume)

      within : at_of (span_of (plan_of placed)) + length_of (span_of (plan_of placed)) ≤ pc.after.target.capacity
      within =
          let inside = fits l.part.at (length l.part.bytes) x.capacity pc.write.of.within whole in
          omega (arith, inside, prepared.over.at, prepared.over.length, prepared.over.capacity)

  pub refuses : (refusal : Refusal) → MayEnd (preparing.stage_of p) k.layer pc.after host faults refusal k.file d e → IsRefused c next l host faults refusal d e
  refuses refusal ends = go p.stage k.work ends
    where
      volume : k.layer.target.volume ≡ l.volume
      volume = ap (λ (t : layer.Target). t.volume) (open_as c l x index k.layer k.write.of k.write.others.shape k.write.path k.write.layer).1

      still : e ≡ d → pc.after ≡ k.layer → IsQuiet k.layer host k.file → IsQuiet pc.after host pc.now
      still same one was =
          let there : d.file k.layer.target.place ≡ Some pc.now = subst (λ (z : Content). z.file k.layer.target.place ≡ Some pc.now) same pc.put.here in
          let file : k.file ≡ pc.now = one_file k.file pc.now (d.file k.layer.target.place) k.write.there there in
          subst (λ (w : Layer). IsQuiet w host pc.now) (sym one) (subst (λ (f : File). IsQuiet k.layer host f) file was)

      go : (s : stages.Stage) → preparing.KnowsStage s k.layer l x host k.file → MayEnd s k.layer pc.after host faults refusal k.file d e → IsRefused c next l host faults refusal d e
      go (Surveying s) knows is = inl is
      go (Clearing q r) knows is = inl is
      go (Placing t) knows is = inl is
      go (InPlace q s) knows is = inl is
      go (Asking a) knows (inl is) = inl is
      go (Asking a) knows (inr lacks) = inr (record {
        room = lacks.room;
        wanted = lacks.wanted;
        says = lacks.says ∙ ap (λ (u : Id). NoRoom u lacks.room lacks.wanted) volume;
        short = inr (record {
          index = index;
          layer = k.layer;
          path = k.write.path;
          opened = k.write.layer;
          file = k.file;
          there = k.write.there;
          span = span_of a.plan;
          at = knows.of.at;
          length_is = knows.of.length;
          short = lacks.short;
        });
        same = lacks.same;
        may = may_again next index pc.after l x host start pc.now e pc.write (still lacks.same lacks.layer knows.quiet) quiet;
      })
