-- What the steps of a commit leave.
use Rattle.std.proofs.Common.{◌≡◌, ◌⊎◌, ℕ, ◌+◌, ◌*◌, ◌<◌, ◌≤◌, List, length, Some, None, refl, sym, ap, ◌∙◌, subst, inl, inr, arith}
use Rattle.std.specs.Prelude.{Contains}
use Rattle.std.proofs.lemmas.Bool.{cases_lt}
use Rattle.sd_names.specs.Turn.{MatchTurn}
use Rattle.sd_names.specs.declared.id.Id.{Id}
use Rattle.sd_names.specs.declared.refusal.Refusal.{Refusal}
use Rattle.sd_names.specs.declared.refusal.Refusal.TheVariants.{DiskFault}
use Rattle.sd_names.specs.declared.turn.Turn.TheVariants.{More, Done, Ended}
use Rattle.shared_disk.specs.Calls.{sectors_in}
use Rattle.shared_disk.specs.Content.{Content}
use Rattle.volume_meta.specs.declared.record.VolumeRecord.{VolumeRecord}
use Rattle.qcow_layer.specs.Looking.{IsFault}
use Rattle.chain_model.specs.Folder.{Folder, folder_of}
use Rattle.chain_model.specs.Own.{own}
use Rattle.chain_model.specs.Records.{Records}
use Rattle.chain_laws.specs.Laid.{IsInPart, Laying, sector_in_part}
use Rattle.chain_laws.specs.Written.{ComesWritten}
use Rattle.chain_gathering.specs.Knowing.{volumes_in}
use Rattle.commit_laws.proofs.Covers.{base_below}
use Rattle.volume_chain.specs.Chain.{dir_in, open_in, path_in, place_in, target_of}
use Rattle.volume_chain.specs.Layers.{IsLayerAt}
use Rattle.volume_chain.specs.declared.chain.Chain.{Chain}
use Rattle.volume_chain.specs.declared.chain.Target.{Target}
use Rattle.volume_chain.specs.declared.subchain.Subchain.{Subchain}
use Rattle.chain_reading.specs.Knowing.{place_on}
use Rattle.commit_reading.specs.Knowing.{HasPiece, HoldsFrom, KnowsTop}
use Rattle.commit_reading.specs.Knowing as reading
use Rattle.commit_reading.specs.Pieces.{IsInside, count_of, end_in, end_of, first_in, first_of, front}
use Rattle.commit_reading.specs.Reading.{IsBehind, IsNextPiece, IsRead, GoesOnWay, ReadsOn, from_of, number_of, sub_of}
use Rattle.commit_reading.specs.Reading as reads
use Rattle.commit_reading.specs.declared.pieces.Pieces.{Pieces}
use Rattle.commit_reading.specs.declared.reading.CommitReading.{CommitReading}
use Rattle.commit_steps.specs.Knowing.{IsCommitOf, IsSameFor, KnowsCommit, piece_of}
use Rattle.commit_steps.proofs.Commits as commits
use Rattle.commit_steps.proofs.Settled.{same_own, settled_files, some_outcome}
use Rattle.raw_writing.specs.Image.{IsOnMedium, OnlyChanges}
use Rattle.guest_writing.specs.Guest.{GuestLeaves, GuestWrites, IsWrittenChain}
use Rattle.guest_writing.specs.Guest as guest
use Rattle.guest_writing.specs.Knowing.{MayBeWritten}
use Rattle.guest_writing.specs.Writing as writing
use Rattle.guest_writing.specs.declared.guest.GuestWrite.{GuestWrite}
use Rattle.cluster_committing.specs.Commit.{Commits, MayBegin}
use Rattle.cluster_committing.specs.declared.commit.CommitCluster.{CommitCluster}
use Rattle.cluster_committing.specs.Committing.{CommitsIn, CommitsPiece, HeldAtBegin, IsCommitted, IsRefused, KnowsReading, KnowsStage, KnowsWriting, Leaves, OthersStay}
use Rattle.cluster_committing.specs.Way.{IsReadingOf, StageTurn}
use Rattle.cluster_committing.specs.declared.stage.Stage.{Stage}
use Rattle.cluster_committing.specs.declared.stage.Stage.TheVariants.{Reading, Writing}
use Rattle.cluster_committing.proofs.Chains.{same_itself, same_through, written_layer, written_same}

-- ---- the begin

pub begun_known : (sub : Subchain) (cluster : ℕ) (w : CommitReading) (l : Laying) (c : Chain) (x : VolumeRecord) (host : ℕ) (part : List ℕ) (d : Content) → reads.IsBegun sub cluster w → MayBegin sub cluster l c x host d
    → KnowsReading w sub cluster l c x host (folder_of (dir_in (target_of c)) d) part d
begun_known sub cluster w l c x host part d begun m = record {
  commit = subst (λ n. KnowsCommit l c sub cluster x host (folder_of (dir_in (target_of c)) d) n d) (sym (begun.from c)) first;
  quiet = m.may.quiet;
  read = begun.knows c host (volumes_in (dir_in (target_of c)) d) part d (commits.top_read l c sub cluster x host (folder_of (dir_in (target_of c)) d) (first_in c sub cluster) d first m.path m.layer);
  held = λ less. absurd (let at = begun.from c in omega (arith, less, at));
  still = λ le O out. out;
}
  where
    first : KnowsCommit l c sub cluster x host (folder_of (dir_in (target_of c)) d) (first_in c sub cluster) d
    first = commits.begins l c sub cluster x host d m.of m.may.chain m.may.settled m.reads m.held

-- ---- other volumes

others_stay : (sub : Subchain) (cluster : ℕ) (l : Laying) (c : Chain) (x : VolumeRecord) (host : ℕ) (start F : Folder) (from : ℕ) (d : Content) → KnowsCommit l c sub cluster x host start from d → HeldAtBegin l sub start → ComesWritten l start F → OthersStay l sub start F
others_stay sub cluster l c x host start F from d k held comes v vs flats reading is = commits.others l c sub cluster x start F v vs flats k.of k.begun held reading is comes

not_begun : (w : CommitReading) (sub : Subchain) (cluster : ℕ) (l : Laying) (c : Chain) (x : VolumeRecord) (host : ℕ) (start : Folder) (part : List ℕ) (d : Content) → KnowsReading w sub cluster l c x host start part d
    → from_of w c ≤ first_in c sub cluster → OthersStay l sub start (folder_of (dir_in (target_of c)) d)
not_begun w sub cluster l c x host start part d k le v vs flats reading is O out u us other legal below n s = is O (k.still le O out) u us legal below n s

read_others : (w : CommitReading) (sub : Subchain) (cluster : ℕ) (l : Laying) (c : Chain) (x : VolumeRecord) (host : ℕ) (start : Folder) (part : List ℕ) (d : Content) → KnowsReading w sub cluster l c x host start part d
    → (first_in c sub cluster < from_of w c) ⊎ (from_of w c ≤ first_in c sub cluster) → OthersStay l sub start (folder_of (dir_in (target_of c)) d)
read_others w sub cluster l c x host start part d k (inl less) = others_stay sub cluster l c x host start (folder_of (dir_in (target_of c)) d) (from_of w c) d k.commit (k.held less) k.commit.comes
read_others w sub cluster l c x host start part d k (inr le) = not_begun w sub cluster l c x host start part d k le

-- ---- a step of the read

module _ (w : CommitReading) (c : Chain) (host : ℕ) (before after : List ℕ) (l : Laying) (x : VolumeRecord) (start : Folder) (room : List ℕ) (d : Content) (k : KnowsReading w (sub_of w) (number_of w) l c x host start before d) where
  -- it changes nothing
  leaves : (turn : StageTurn) → MatchTurn turn (λ s. KnowsStage s (sub_of w) (number_of w) l c x host start after room d) (λ _. IsCommitted (sub_of w) (number_of w) l c host d) (λ _ refusal. IsFault refusal)
      → Leaves (Reading w) (sub_of w) (number_of w) l c c x host start after room turn d d
  leaves turn now = record {
    only = record { dirs = λ q. refl; files = λ q other. refl };
    same = refl;
    comes = k.commit.comes;
    others = read_others w (sub_of w) (number_of w) l c x host start before d k (cases_lt (first_in c (sub_of w) (number_of w)) (from_of w c));
    after = now;
  }

  pub may : MayBeWritten c host d
  may = record { chain = k.commit.chain; settled = k.commit.settled; quiet = k.quiet }

  pub more : (v : CommitReading) → GoesOnWay (reads.stage_of w) w c v → reading.Knows v c host (volumes_in (dir_in (target_of c)) d) after d → KnowsReading v (sub_of w) (number_of w) l c x host start after d
  more v goes read = record {
    commit = subst (λ n. KnowsCommit l c (sub_of w) (number_of w) x host start n d) (sym goes.from) k.commit;
    quiet = k.quiet;
    read = read;
    held = λ less. k.held (subst (λ n. first_in c (sub_of w) (number_of w) < n) goes.from less);
    still = λ le. k.still (subst (λ n. n ≤ first_in c (sub_of w) (number_of w)) goes.from le);
  }

  pub none : IsRead (from_of w c) (sub_of w) (number_of w) c (volumes_in (dir_in (target_of c)) d) after None → IsCommitted (sub_of w) (number_of w) l c host d
  none is = record { may = may; done = elim is [ inl nothing ↦ inl nothing | inr past ↦ inr (commits.whole l c (sub_of w) (number_of w) x host start (from_of w c) d k.commit past) ] }

  pub some : (p : Pieces) (g : GuestWrite) → length after ≡ 65536 → IsNextPiece (from_of w c) (sub_of w) (number_of w) c p → guest.IsBegun (sub_of w).base (512 * first_of p) g
      → HasPiece c (sub_of w) (volumes_in (dir_in (target_of c)) d) p after → KnowsWriting p g (sub_of w) (number_of w) l c x host start (front p after) room d
  some p g size next begun has = record {
    chain = c;
    before = d;
    commit = subst (λ n. KnowsCommit l c (sub_of w) (number_of w) x host start n d) (sym next.first) k.commit;
    same = same_itself (sub_of w) c;
    piece = piece_of l (volumes_in (dir_in (target_of c)) d) p after;
    laid = commits.piece_laid l c (sub_of w) (number_of w) x host start (from_of w c) d k.commit p after next.inside size has;
    at = refl;
    bytes = refl;
    volume = refl;
    write = begun.knows c (piece_of l (volumes_in (dir_in (target_of c)) d) p after) x host room d k.commit.of.volume refl (commits.is_part l c (sub_of w) (number_of w) x p after d k.commit.of next.inside size) may k.commit.of.below
        (commits.piece_reads l c (sub_of w) (number_of w) x host start (from_of w c) d k.commit p after);
    held = held_by (cases_lt (first_in c (sub_of w) (number_of w)) (from_of w c));
    path = k.read.top.path;
    layer = k.read.top.layer;
  }
    where
      held_by : (first_in c (sub_of w) (number_of w) < from_of w c) ⊎ (from_of w c ≤ first_in c (sub_of w) (number_of w)) → HeldAtBegin l (sub_of w) start
      held_by (inl less) = k.held less
      held_by (inr le) = commits.all_held l c (sub_of w) (number_of w) x host start (from_of w c) d k.commit
          (λ n low high. has.held n (let at = next.first in omega (arith, low, le, at)) (let end = next.inside.end in omega (arith, high, end)))

-- in the words of the commit's volumes and cluster, with the chain and the content as the step left them
in_words : (w : CommitReading) (sub : Subchain) (cluster : ℕ) (c next : Chain) (host : ℕ) (before after room : List ℕ) (turn : StageTurn) (d e : Content) → IsReadingOf w sub cluster c → next ≡ c → e ≡ d
    → CommitsIn (Reading w) (sub_of w) (number_of w) c c host before after room room turn d d → CommitsIn (Reading w) sub cluster c next host before after room room turn d e
in_words w sub cluster c next host before after room turn d e way same_chain same is =
    subst (λ (s : Subchain). CommitsIn (Reading w) s cluster c next host before after room room turn d e) way.sub_is
    (subst (λ n. CommitsIn (Reading w) (sub_of w) n c next host before after room room turn d e) way.cluster_is
    (subst (λ (z : Chain). CommitsIn (Reading w) (sub_of w) (number_of w) c z host before after room room turn d e) (sym same_chain)
    (subst (λ (z : Content). CommitsIn (Reading w) (sub_of w) (number_of w) c c host before after room room turn d z) (sym same) is)))

pub read_more : (w v : CommitReading) (sub : Subchain) (cluster : ℕ) (c next : Chain) (host : ℕ) (before after room : List ℕ) (d e : Content) → IsReadingOf w sub cluster c → next ≡ c → GoesOnWay (reads.stage_of w) w c v
    → ReadsOn w c host before after (More v) d e → CommitsIn (Reading w) sub cluster c next host before after room room (More (Reading v)) d e
read_more w v sub cluster c next host before after room d e way same_chain goes on = in_words w sub cluster c next host before after room (More (Reading v)) d e way same_chain on.same
    (λ l x start k. leaves w c host before after l x start room d k (More (Reading v))
    (more w c host before after l x start room d k v goes (subst (λ (z : Content). reading.Knows v c host (volumes_in (dir_in (target_of c)) d) after z) on.same (on.leaves (volumes_in (dir_in (target_of c)) d) way.way k.read))))

pub read_none : (w : CommitReading) (b : Unit {0}) (sub : Subchain) (cluster : ℕ) (c next : Chain) (host : ℕ) (before after room : List ℕ) (d e : Content) → IsReadingOf w sub cluster c → next ≡ c
    → ReadsOn w c host before after (Done None) d e → CommitsIn (Reading w) sub cluster c next host before after room room (Done b) d e
read_none w b sub cluster c next host before after room d e way same_chain on = in_words w sub cluster c next host before after room (Done b) d e way same_chain on.same
    (λ l x start k. leaves w c host before after l x start room d k (Done b) (none w c host before after l x start room d k (on.leaves (volumes_in (dir_in (target_of c)) d) way.way k.read)))

pub read_some : (w : CommitReading) (p : Pieces) (g : GuestWrite) (sub : Subchain) (cluster : ℕ) (c next : Chain) (host : ℕ) (before after room : List ℕ) (d e : Content) → IsReadingOf w sub cluster c → next ≡ c → length after ≡ 65536
    → IsNextPiece (from_of w c) (sub_of w) (number_of w) c p → guest.IsBegun sub.base (512 * first_of p) g → ReadsOn w c host before after (Done (Some p)) d e
    → CommitsIn (Reading w) sub cluster c next host before after room room (More (Writing p g)) d e
read_some w p g sub cluster c next host before after room d e way same_chain size piece begun on = in_words w sub cluster c next host before after room (More (Writing p g)) d e way same_chain on.same
    (λ l x start k. leaves w c host before after l x start room d k (More (Writing p g))
    (some w c host before after l x start room d k p g size piece (subst (λ (s : Subchain). guest.IsBegun s.base (512 * first_of p) g) (sym way.sub_is) begun) (on.leaves (volumes_in (dir_in (target_of c)) d) way.way k.read)))

pub read_ended : (w : CommitReading) (b b' : Unit {0}) (refusal : Refusal) (sub : Subchain) (cluster : ℕ) (c next : Chain) (host : ℕ) (before after room : List ℕ) (d e : Content) → IsReadingOf w sub cluster c → next ≡ c
    → ReadsOn w c host before after (Ended b refusal) d e → CommitsIn (Reading w) sub cluster c next host before after room room (Ended b' refusal) d e
read_ended w b b' refusal sub cluster c next host before after room d e way same_chain on = in_words w sub cluster c next host before after room (Ended b' refusal) d e way same_chain on.same
    (λ l x start k. leaves w c host before after l x start room d k (Ended b' refusal) (on.leaves (volumes_in (dir_in (target_of c)) d) way.way k.read))

-- ---- a step of the write of a piece

-- what the top holds it held at the begin
held_now : (l : Laying) (c : Chain) (sub : Subchain) (cluster : ℕ) (x : VolumeRecord) (host : ℕ) (start : Folder) (from : ℕ) (d : Content) → KnowsCommit l c sub cluster x host start from d → HeldAtBegin l sub start → (n : ℕ) → IsInPart l.part n
    → own l.records (volumes_in (dir_in (target_of c)) d) sub.top n ≡ Some (sector_in_part l.part n)
held_now l c sub cluster x host start from d k held n inside =
    let O = some_outcome (dir_in (target_of c)) d in
    let G = k.comes O.0 O.1 in
    sym (same_own (folder_of (dir_in (target_of c)) d) O.0 (settled_files (dir_in (target_of c)) d k.settled) O.1 l.records sub.top n)
    ∙ G.2.others sub.top (base_below l sub.top k.of.commit) n ∙ held G.0 G.1 n inside

module _ (p : Pieces) (g : GuestWrite) (sub : Subchain) (cluster : ℕ) (c next : Chain) (host faults : ℕ) (l : Laying) (x : VolumeRecord) (start : Folder) (bytes room room' : List ℕ) (d e : Content) (k : KnowsWriting p g sub cluster l c x host start bytes room d)
    (kept : IsWrittenChain g c next) (inside : IsInside c sub cluster p) (some' : 0 < count_of p) (size : length bytes ≡ 512 * count_of p) where
  same_next : IsSameFor sub k.chain next
  same_next = same_through sub k.chain c next k.same (written_same g sub c next kept)

  layer_next : IsLayerAt (open_in next) (place_on sub.top (path_in next))
  layer_next = subst (λ (vs : List Id). IsLayerAt (open_in next) (place_on sub.top vs)) (sym (written_same g sub c next kept).path) (written_layer g c next (place_on sub.top (path_in c)) kept k.layer)

  path_next : Contains (path_in next) sub.top
  path_next = subst (λ (vs : List Id). Contains vs sub.top) (sym (written_same g sub c next kept).path) k.path

  more_written : (h : GuestWrite) → guest.Knows h next k.piece x (volumes_in (dir_in (target_of k.chain)) k.before) host (folder_of (dir_in (target_of k.chain)) k.before) room' e → KnowsWriting p h sub cluster l next x host start bytes room' e
  more_written h knows = record {
    chain = k.chain;
    before = k.before;
    commit = k.commit;
    same = same_next;
    piece = k.piece;
    laid = k.laid;
    at = k.at;
    bytes = k.bytes;
    volume = k.volume;
    write = knows;
    held = k.held;
    path = path_next;
    layer = layer_next;
  }

  comes_there : ComesWritten k.piece (folder_of (dir_in (target_of k.chain)) k.before) (folder_of (dir_in (target_of c)) e) → ComesWritten k.piece (folder_of (dir_in (target_of k.chain)) k.before) (folder_of (dir_in (target_of k.chain)) e)
  comes_there comes = subst (λ (t : Target). ComesWritten k.piece (folder_of (dir_in (target_of k.chain)) k.before) (folder_of (dir_in t) e)) k.same.target comes

  count_is : sectors_in k.piece.part.bytes ≡ count_of p
  count_is = let len = ap (λ (b : List ℕ). length b) k.bytes in omega (arith, len, size)

  done_commit : ComesWritten k.piece (folder_of (dir_in (target_of k.chain)) k.before) (folder_of (dir_in (target_of c)) e) → IsOnMedium next k.piece host e → KnowsCommit l next sub cluster x host start (first_of p + count_of p) e
  done_commit comes medium =
      let at = k.at in
      let count = count_is in
      subst (λ n. KnowsCommit l next sub cluster x host start n e) (omega (arith, at, count))
      (commits.piece_committed k.piece l k.chain next sub cluster x host start k.before e (subst (λ n. KnowsCommit l k.chain sub cluster x host start n k.before) (sym k.at) k.commit) k.laid same_next (comes_there comes) medium)

  rest_held : KnowsCommit l next sub cluster x host start (first_of p + count_of p) e → HoldsFrom next sub (volumes_in (dir_in (target_of next)) e) (first_of p + count_of p) (end_of p)
  rest_held now n low high =
      let from = k.commit.of.from in
      let to = k.commit.of.to in
      let within : IsInPart l.part n =
      ((let first = now.of.from in let same_first = inside.first in let was = first_was in omega (arith, low, first, same_first, was)), (let end = now.of.to in let e = inside.end in let was = end_was in omega (arith, high, end, e, was))) in
      (_, subst (λ (r : Records). own r (volumes_in (dir_in (target_of next)) e) sub.top n ≡ Some (sector_in_part l.part n)) now.of.records (held_now l next sub cluster x host start (first_of p + count_of p) e now k.held n within))
    where
      of_c : IsCommitOf l c sub cluster x
      of_c = commits.next_of l k.chain c sub cluster x k.same k.commit.of

      first_was : first_in next sub cluster ≡ first_in c sub cluster
      first_was = sym now.of.from ∙ of_c.from

      end_was : end_in next sub cluster ≡ end_in c sub cluster
      end_was = sym now.of.to ∙ of_c.to

  done_reading : (v : CommitReading) (part : List ℕ) → IsBehind sub cluster p v → ComesWritten k.piece (folder_of (dir_in (target_of k.chain)) k.before) (folder_of (dir_in (target_of c)) e) → writing.IsDone next k.piece host e
      → KnowsReading v sub cluster l next x host start part e
  done_reading v part behind comes done =
      let now = done_commit comes done.0 in
      let of_c = commits.next_of l k.chain c sub cluster x k.same k.commit.of in
      let first_was : first_in next sub cluster ≡ first_in c sub cluster = sym now.of.from ∙ of_c.from in
      record {
        commit = subst (λ n. KnowsCommit l next sub cluster x host start n e) (sym (behind.from next)) now;
        quiet = done.1;
        read = behind.knows next host (volumes_in (dir_in (target_of next)) e) part e (commits.top_read l next sub cluster x host start (first_of p + count_of p) e now path_next layer_next) (rest_held now);
        held = λ less. k.held;
        still = λ le. absurd (let at = behind.from next in let first = inside.first in omega (arith, le, at, first, first_was, some'));
      }

  pub writes : (turn : StageTurn) (part : List ℕ) → writing.Leaves c k.piece (folder_of (dir_in (target_of k.chain)) k.before) d e
      → MatchTurn turn (λ s. KnowsStage s sub cluster l next x host start part room' e) (λ _. IsCommitted sub cluster l next host e) (λ _ refusal. IsRefused (Writing p g) sub c next host refusal d e)
      → Leaves (Writing p g) sub cluster l c next x host start part room' turn d e
  writes turn part left now =
      let comes = commits.piece_comes k.piece l start (folder_of (dir_in (target_of k.chain)) k.before) (folder_of (dir_in (target_of c)) e) k.commit.comes k.laid left.comes in
      record {
        only = subst (λ (v : Id). OnlyChanges (place_in (target_of c) v) d e) (k.volume ∙ k.commit.of.volume) left.only;
        same = tt;
        comes = comes;
        others = others_stay sub cluster l k.chain x host start (folder_of (dir_in (target_of c)) e) (first_of p) k.before k.commit k.held comes;
        after = now;
      }

pub write_more : (p : Pieces) (g h : GuestWrite) (sub : Subchain) (cluster : ℕ) (c next : Chain) (host faults : ℕ) (piece room room' : List ℕ) (d e : Content) → IsWrittenChain g c next → IsInside c sub cluster p → 0 < count_of p → length piece ≡ 512 * count_of p
    → GuestWrites g c next host faults piece room room' (More h) d e → CommitsPiece p g sub cluster c next host piece room room' (More (Writing p h)) d e
write_more p g h sub cluster c next host faults piece room room' d e kept inside some size on part front_is l x start k =
    let here : KnowsWriting p g sub cluster l c x host start piece room d = subst (λ (b : List ℕ). KnowsWriting p g sub cluster l c x host start b room d) front_is k in
    let left = on here.piece x (volumes_in (dir_in (target_of here.chain)) here.before) (folder_of (dir_in (target_of here.chain)) here.before) here.write here.bytes in
    writes p g sub cluster c next host faults l x start piece room room' d e here kept inside some size (More (Writing p h)) part left.leaves
    (subst (λ (b : List ℕ). KnowsWriting p h sub cluster l next x host start b room' e) (sym front_is) (more_written p g sub cluster c next host faults l x start piece room room' d e here kept inside some size h left.after))

pub write_done : (p : Pieces) (g : GuestWrite) (b : Unit {0}) (v : CommitReading) (sub : Subchain) (cluster : ℕ) (c next : Chain) (host faults : ℕ) (piece room room' : List ℕ) (d e : Content) → IsWrittenChain g c next → IsInside c sub cluster p → 0 < count_of p
    → length piece ≡ 512 * count_of p → IsBehind sub cluster p v → GuestWrites g c next host faults piece room room' (Done b) d e → CommitsPiece p g sub cluster c next host piece room room' (More (Reading v)) d e
write_done p g b v sub cluster c next host faults piece room room' d e kept inside some size behind on part front_is l x start k =
    let here : KnowsWriting p g sub cluster l c x host start piece room d = subst (λ (b : List ℕ). KnowsWriting p g sub cluster l c x host start b room d) front_is k in
    let left = on here.piece x (volumes_in (dir_in (target_of here.chain)) here.before) (folder_of (dir_in (target_of here.chain)) here.before) here.write here.bytes in
    writes p g sub cluster c next host faults l x start piece room room' d e here kept inside some size (More (Reading v)) part left.leaves
    (done_reading p g sub cluster c next host faults l x start piece room room' d e here kept inside some size v part behind left.leaves.comes left.after)

fault_is : (faults : ℕ) (refusal : Refusal) → refusal ≡ DiskFault faults → IsFault refusal
fault_is faults refusal e = subst (λ (r : Refusal). IsFault r) (sym e) tt

pub write_ended : (p : Pieces) (g : GuestWrite) (b b' : Unit {0}) (refusal : Refusal) (sub : Subchain) (cluster : ℕ) (c next : Chain) (host faults : ℕ) (piece room room' : List ℕ) (d e : Content) → IsWrittenChain g c next → IsInside c sub cluster p → 0 < count_of p
    → length piece ≡ 512 * count_of p → GuestWrites g c next host faults piece room room' (Ended b refusal) d e → CommitsPiece p g sub cluster c next host piece room room' (Ended b' refusal) d e
write_ended p g b b' refusal sub cluster c next host faults piece room room' d e kept inside some size on part front_is l x start k =
    let here : KnowsWriting p g sub cluster l c x host start piece room d = subst (λ (b : List ℕ). KnowsWriting p g sub cluster l c x host start b room d) front_is k in
    let left = on here.piece x (volumes_in (dir_in (target_of here.chain)) here.before) (folder_of (dir_in (target_of here.chain)) here.before) here.write here.bytes in
    writes p g sub cluster c next host faults l x start piece room room' d e here kept inside some size (Ended b' refusal) part left.leaves
    (elim left.after [ inl fault ↦ inl (fault_is faults refusal fault) | inr short ↦ inr (here.piece, record { volume = here.volume ∙ here.commit.of.volume; at = here.at; length_is = ap (λ (b : List ℕ). length b) here.bytes ∙ size }, short) ])

-- ---- in public words

pub commit_more : (w : CommitCluster) (s : Stage) (c next : Chain) (host : ℕ) (before after room room' : List ℕ) (d e : Content) → CommitsIn w.stage w.sub w.cluster c next host before after room room' (More s) d e
    → Commits w c next host before after room room' (More (record { sub = w.sub; cluster = w.cluster; stage = s })) d e
commit_more w s c next host before after room room' d e is l x start k =
    let left = is l x start k in
    record { only = left.only; same = left.same; comes = left.comes; others = left.others; after = left.after }

pub commit_done : (w : CommitCluster) (b b' : Unit {0}) (c next : Chain) (host : ℕ) (before after room room' : List ℕ) (d e : Content) → CommitsIn w.stage w.sub w.cluster c next host before after room room' (Done b) d e
    → Commits w c next host before after room room' (Done b') d e
commit_done w b b' c next host before after room room' d e is l x start k =
    let left = is l x start k in
    record { only = left.only; same = left.same; comes = left.comes; others = left.others; after = left.after }

pub commit_ended : (w : CommitCluster) (b b' : Unit {0}) (refusal : Refusal) (c next : Chain) (host : ℕ) (before after room room' : List ℕ) (d e : Content) → CommitsIn w.stage w.sub w.cluster c next host before after room room' (Ended b refusal) d e
    → Commits w c next host before after room room' (Ended b' refusal) d e
commit_ended w b b' refusal c next host before after room room' d e is l x start k =
    let left = is l x start k in
    record { only = left.only; same = left.same; comes = left.comes; others = left.others; after = left.after }
