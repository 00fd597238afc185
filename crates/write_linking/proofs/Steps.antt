-- What each step leaves.
use Rattle.std.proofs.Common.{◌≡◌, ◌⊎◌, inl, inr, ℕ, ◌/◌, ◌%◌, ◌^◌, Some, Ok, Err, refl, sym, ap, ◌∙◌, subst, arith, Option}
use Rattle.std.proofs.lemmas.Nat.{div-add-mod'}
use Rattle.sd_names.specs.Turn.{MatchTurn}
use Rattle.sd_names.specs.declared.refusal.Refusal.{Refusal}
use Rattle.sd_names.specs.declared.refusal.Refusal.TheVariants.{DiskFault}
use Rattle.sd_names.specs.declared.turn.Turn.{Turn}
use Rattle.sd_names.specs.declared.turn.Turn.TheVariants.{More, Done, Ended}
use Rattle.shared_disk.specs.Calls.{IsPut, IsSame, Syncs, synced}
use Rattle.shared_disk.specs.Content.{Content, File}
use Rattle.shared_disk.specs.Refusal.{IsRisen, refusal_of}
use Rattle.shared_disk.specs.WellFormed.{IsWellFormed, IsWellFormedFile}
use Rattle.shared_disk.specs.declared.disk.DiskAnswer.{DiskAnswer}
use Rattle.shared_disk.specs.declared.disk.DiskAnswer.TheVariants.{NoFile, Exists, OutOfFile, NotEmpty, Failed}
use Rattle.shared_disk.proofs.AtPlace.{no_file, one_file}
use Rattle.shared_disk.proofs.Outcomes.{settled_file, settled_itself, synced_file}
use Rattle.shared_disk.proofs.WellFormed.{outcome_file_keeps}
use Rattle.volume_meta.specs.declared.record.VolumeRecord.{VolumeRecord}
use Rattle.image_model.specs.Soundness.{layer_header}
use Rattle.layer_laws.specs.Laws.{SameContent}
use Rattle.link_laws.specs.Links.{Linked}
use Rattle.qcow_layer.specs.Looking.{IsFault}
use Rattle.qcow_layer.specs.declared.layer.Layer.{Layer}
use Rattle.layer_placing.proofs.Ends.{same_put}
use Rattle.layer_writing.specs.Holding.{ComesBy, on_medium}
use Rattle.layer_linking.specs.Calls.{CallOf, IsSameLinking, links_of, stage_of, to_of}
use Rattle.layer_linking.specs.Linking.{IsAsBefore, IsDone, IsLeftSo, IsLinked, KnowsLinking, LeavesOthers, LinksOn, behind_of}
use Rattle.layer_linking.specs.declared.linking.Linking.{Linking}
use Rattle.layer_linking.specs.declared.links.Links as links
use Rattle.layer_linking.proofs.Survives.{untouched}
use Rattle.own_laws.specs.Sectors.{cluster_of}
use Rattle.chain_laws.specs.Laid.{Laying}
use Rattle.chain_laws.specs.Written.{FileWritten}
use Rattle.part_laws.specs.Steps.{AreLayers, StandAtPlaces}
use Rattle.part_laws.proofs.Files.{known_layers}
use Rattle.part_laws.proofs.Held.{alike_written, links_written}
use Rattle.write_planning.specs.Linked.{end_in, group_in, start_in}
use Rattle.plan_laws.proofs.Places.{given}
use Rattle.place_writing.proofs.Pieces.{whole_row}
use Rattle.write_preparing.specs.Placed.{clusters_of, plan_of}
use Rattle.write_preparing.specs.declared.placed.Placed.{Placed}
use Rattle.write_preparing.specs.Filled.{IsFilled}
use Rattle.write_linking.specs.Linking.{AreLinksIn, IsLinkedAll, IsReady, KnowsLinks, KnowsStage, LinksStep, PassesOn, StageTurn, span_in}
use Rattle.write_linking.specs.declared.stage.Stage.TheVariants.{Syncing, Next, Links}
use Rattle.write_linking.proofs.Begun.{are, knows_at}
use Rattle.write_linking.proofs.Ends.{linked_all}
use Rattle.write_linking.proofs.Made.{ready_after}
use Rattle.write_linking.proofs.Onward.{goes_on}
use Rattle.write_linking.proofs.Passed.{ready_past}
use Rattle.write_linking.proofs.Synced.{ready_now}
use Rattle.write_linking.proofs.Written.{written_on}

-- a fault of the disk has the count after it
fault_is : (before after : ℕ) (refusal : Refusal) → IsFault refusal → IsRisen before after refusal → refusal ≡ DiskFault after
fault_is before after (DiskFault n) fault risen = ap (λ m. DiskFault m) risen.1
fault_is before after refusal fault risen = absurd fault

module _ (p : Placed) (w : Layer) (l : Laying) (x : VolumeRecord) (host faults : ℕ) (begun f : File) (d : Content) (there : d.file w.target.place ≡ Some f) where
  -- nothing is changed
  itself : l.records l.volume ≡ Some x → (o : File) → d.file w.target.place ≡ Some o → FileWritten l o f
  itself says o at = subst (λ (q : File). FileWritten l q f) (one_file f o (d.file w.target.place) there at) (alike_written l x f f says (λ g out. (g, out, λ j. refl)))

  same_step : (turn : StageTurn) (e : Content) → l.records l.volume ≡ Some x → IsSame d e → FileWritten l begun f
      → MatchTurn turn (λ s. KnowsStage s w l x host begun f) (λ _. IsLinkedAll w l x host f) (λ _ refusal. refusal ≡ DiskFault faults) → LinksStep w l x host faults turn begun d e
  same_step turn e says same written after = record { now = f; put = same_put d e w.target.place f same there; written = written; on = itself says; after = after }

  -- ---- the sync

  pub synced_step : (e : Content) → IsWellFormed e → IsFilled p w l x host f × FileWritten l begun f → Syncs d host w.target.place (Ok tt) e → LinksStep w l x host faults (More (Next p 0)) begun d e
  synced_step e formed (is, written) (was, at, put) =
      let here : IsPut d w.target.place (Some (synced host f)) e = subst (λ (o : File). IsPut d w.target.place (Some (synced host o)) e) (one_file was f (d.file w.target.place) at there) put in
      let on : FileWritten l begun (synced host f) = written_on l begun f (synced host f) written (alike_written l x f (synced host f) is.prepared.over.says (λ o out. (o, synced_file host f o out, λ j. refl))) in
      record {
        now = synced host f;
        put = here;
        written = on;
        on = λ o at_o. subst (λ (q : File). FileWritten l q (synced host f)) (one_file f o (d.file w.target.place) there at_o) (alike_written l x f (synced host f) is.prepared.over.says (λ g out. (g, synced_file host f g out, λ j. refl)));
        after = (ready_now p w l x host f (formed.files w.target.place (synced host f) here.here) is, on);
      }

  pub failed_step : (a : DiskAnswer) (e : Content) → IsFilled p w l x host f × FileWritten l begun f → Syncs d host w.target.place (Err a) e → LinksStep w l x host faults (Ended tt (refusal_of a faults)) begun d e
  failed_step Failed e (is, written) call = same_step (Ended tt (DiskFault faults)) e is.prepared.over.says call written refl
  failed_step NoFile e (is, written) call = absurd (no_file f (d.file w.target.place) call.1 there)
  failed_step Exists e (is, written) call = absurd call
  failed_step OutOfFile e (is, written) call = absurd call
  failed_step NotEmpty e (is, written) call = absurd call

  -- ---- the next sector

  next_known : (sector : ℕ) (turn : StageTurn) → IsReady p sector w l x host f → FileWritten l begun f → PassesOn p sector turn
      → MatchTurn turn (λ s. KnowsStage s w l x host begun f) (λ _. IsLinkedAll w l x host f) (λ _ refusal. refusal ≡ DiskFault faults)
  next_known sector (More (Syncing q)) ready written on = absurd on
  next_known sector (More (Next q next)) ready written (same, at, lt, links) = (
    subst (λ (r : Placed). IsReady r next w l x host f) (sym same) (subst (λ m. IsReady p m w l x host f) (sym at) (ready_past p sector w l x host f ready lt links)),
    written,
  )
  next_known sector (More (Links q next k)) ready written (same, at, lt, links, table, stage) =
      subst (λ (r : Placed). KnowsLinks r next k w l x host begun f) (sym same) (record {
        sector = sector;
        start = f;
        here = at;
        inside = lt;
        ready = ready;
        written = written;
        links = links;
        table = table;
        knows = λ c is. knows_at p sector w l x host f ready k lt links table stage c is;
      })
  next_known sector (Done t) ready written past = linked_all p sector w l x host f ready past
  next_known sector (Ended b refusal) ready written on = absurd on

  pub next_step : (sector : ℕ) (turn : StageTurn) → IsReady p sector w l x host f × FileWritten l begun f → PassesOn p sector turn → LinksStep w l x host faults turn begun d d
  next_step sector turn (ready, written) on = same_step turn d ready.says refl written (next_known sector turn ready written on)

  -- ---- a step of a sector's linking

  module _ (next : ℕ) (k : Linking) (e : Content) (formed : IsWellFormed e) (knows : KnowsLinks p next k w l x host begun f) (leaves : LeavesOthers w.target.place d e) (left : IsLeftSo w k host knows.start e)
      (before : IsWellFormed d) (done : Turn Linking (Unit {0}) (Unit {0})) (call : CallOf (stage_of k) k w host faults done d e) where
    abbrev start : File
    start = knows.start

    abbrev now : File
    now = left.file

    well_now : IsWellFormedFile left.file
    well_now = formed.files w.target.place left.file left.there

    old_layers : AreLayers x w.work.header knows.start
    old_layers = known_layers x w host knows.start knows.ready.writer knows.ready.well knows.ready.cow knows.ready.capacity

    now_layers : AreLayers x w.work.header left.file
    now_layers g out = record {
      cow = knows.ready.cow;
      header = ap (λ n. layer_header (on_medium g) n) knows.ready.capacity ∙ header (left.either.each g out);
      well = outcome_file_keeps left.file g well_now out;
    }
      where
        header : IsAsBefore w (on_medium knows.start) (on_medium g) ⊎ IsLinked w k (on_medium knows.start) (on_medium g) → layer_header (on_medium g) w.target.capacity ≡ Ok w.work.header
        header (inl old) = old.content.same.header
        header (inr new) = new.header

    whole : 2 ^ w.work.header.cluster_bits % 512 ≡ 0
    whole = subst (λ n. n % 512 ≡ 0) knows.ready.given.width (span_in p).part.whole

    stand : StandAtPlaces l x w.work.header (to_of k) knows.start
    stand = record {
      begins = λ c place to.
          let begins = ((are p knows.sector w l x host knows.start knows.ready k knows.inside knows.links knows.table).counted c place to).begins in
          let rows = whole_row (place / 2 ^ w.work.header.cluster_bits) (2 ^ w.work.header.cluster_bits) whole in
          let parts = div-add-mod' place (2 ^ w.work.header.cluster_bits) in
          omega (arith, rows, parts, begins);
      there = λ n place low to.
          let is = given (plan_of p) (clusters_of p) (group_in (span_in p) knows.sector) (start_in (span_in p) knows.sector) (end_in (span_in p) knows.sector) (links_of k) (cluster_of w.work.header n) place knows.links to in
          knows.ready.stands is.index place n is.low (record { index = let h = is.high in omega (arith, h); cluster = is.is; inside = low }) is.at;
    }

    comes : ComesBy (λ from to. SameContent w.work.header x.capacity from to ⊎ Linked w.work.header x.capacity (to_of k) (behind_of w k) from to) knows.start left.file
    comes g out = (knows.start, settled_itself knows.start knows.ready.settled, either (left.either.each g out))
      where
        either : IsAsBefore w (on_medium knows.start) (on_medium g) ⊎ IsLinked w k (on_medium knows.start) (on_medium g)
            → SameContent w.work.header x.capacity (on_medium knows.start) (on_medium g) ⊎ Linked w.work.header x.capacity (to_of k) (behind_of w k) (on_medium knows.start) (on_medium g)
        either (inl old) = inl (subst (λ n. SameContent w.work.header n (on_medium knows.start) (on_medium g)) (sym knows.ready.capacity) old.content)
        either (inr new) = inr (subst (λ n. Linked w.work.header n (to_of k) (behind_of w k) (on_medium knows.start) (on_medium g)) (sym knows.ready.capacity) new)

    from_start : FileWritten l knows.start left.file
    from_start =
        (links_written l x w.work.header (to_of k) (behind_of w k) knows.start left.file knows.ready.says old_layers now_layers
        (λ g out. subst (λ (o : File). StandAtPlaces l x w.work.header (to_of k) o) (sym (settled_file knows.start g knows.ready.settled out)) stand) comes)

    written_now : FileWritten l begun left.file
    written_now = written_on l begun knows.start left.file knows.written from_start

    on_now : (o : File) → d.file w.target.place ≡ Some o → FileWritten l o left.file
    on_now o at =
        subst (λ (q : File). FileWritten l q left.file) (one_file f o (d.file w.target.place) there at)
        (goes_on k w l x host faults knows.start f d e there before knows.ready.says old_layers knows.ready.capacity (knows.knows d there) left from_start done call)

    leaves_so : (turn : StageTurn) → MatchTurn turn (λ s. KnowsStage s w l x host begun left.file) (λ _. IsLinkedAll w l x host left.file) (λ _ refusal. refusal ≡ DiskFault faults)
        → LinksStep w l x host faults turn begun d e
    leaves_so turn after = record {
      now = left.file;
      put = record { dirs = leaves.dirs; here = left.there; others = leaves.files };
      written = written_now;
      on = on_now;
      after = after;
    }

    more_step : (k' : Linking) → IsSameLinking k k' → KnowsLinking k' w host knows.start e → LinksStep w l x host faults (More (Links p next k')) begun d e
    more_step k' same known =
        leaves_so (More (Links p next k')) (record {
          sector = knows.sector;
          start = knows.start;
          here = knows.here;
          inside = knows.inside;
          ready = knows.ready;
          written = knows.written;
          links = subst (λ (m : links.Links). AreLinksIn p knows.sector (Some m)) (sym same.links) knows.links;
          table = same.table ∙ knows.table;
          knows = λ c is. untouched k' w host knows.start e c (is ∙ sym left.there) known;
        })

    done_step : IsDone w k host knows.start e → LinksStep w l x host faults (More (Next p next)) begun d e
    done_step done =
        leaves_so (More (Next p next)) (
          subst (λ (o : File). IsReady p next w l x host o) (one_file done.file left.file (e.file w.target.place) done.there left.there)
              (subst (λ m. IsReady p m w l x host done.file) (sym knows.here)
              (ready_after p knows.sector w l x host knows.start knows.ready k knows.inside knows.links knows.table done.file done.linked done.knows done.settled (formed.files w.target.place done.file done.there))),
          written_now,
        )

    fault_step : (count : ℕ) (refusal : Refusal) → IsFault refusal → IsRisen count faults refusal → LinksStep w l x host faults (Ended tt refusal) begun d e
    fault_step count refusal fault risen = leaves_so (Ended tt refusal) (fault_is count faults refusal fault risen)

  pub more_links : (next : ℕ) (k k' : Linking) (e : Content) → IsWellFormed d → IsWellFormed e → IsSameLinking k k' → LeavesOthers w.target.place d e × ((start : File) → KnowsLinking k w host start d → LinksOn k w host start (More k') e)
      → CallOf (stage_of k) k w host faults (More k') d e → KnowsLinks p next k w l x host begun f → LinksStep w l x host faults (More (Links p next k')) begun d e
  more_links next k k' e before formed same (leaves, on) call knows = let step = on knows.start (knows.knows d there) in more_step next k e formed knows leaves step.left before (More k') call k' same step.after

  pub done_links : (next : ℕ) (k : Linking) (e : Content) → IsWellFormed d → IsWellFormed e → LeavesOthers w.target.place d e × ((start : File) → KnowsLinking k w host start d → LinksOn k w host start (Done tt) e)
      → CallOf (stage_of k) k w host faults (Done tt) d e → KnowsLinks p next k w l x host begun f → LinksStep w l x host faults (More (Next p next)) begun d e
  done_links next k e before formed (leaves, on) call knows = let step = on knows.start (knows.knows d there) in done_step next k e formed knows leaves step.left before (Done tt) call step.after

  pub ended_links : (next count : ℕ) (k : Linking) (refusal : Refusal) (e : Content) → IsWellFormed d → IsWellFormed e → IsRisen count faults refusal
      → LeavesOthers w.target.place d e × ((start : File) → KnowsLinking k w host start d → LinksOn k w host start (Ended tt refusal) e) → CallOf (stage_of k) k w host faults (Ended tt refusal) d e
      → KnowsLinks p next k w l x host begun f → LinksStep w l x host faults (Ended tt refusal) begun d e
  ended_links next count k refusal e before formed risen (leaves, on) call knows =
      let step = on knows.start (knows.knows d there) in fault_step next k e formed knows leaves step.left before (Ended tt refusal) call count refusal step.after risen

-- a disk tells one content
pub told_once : (o : Option Content) (a b : Content) → o ≡ Some a → o ≡ Some b → b ≡ a
told_once o a b one two = cc
