-- How a cluster is committed, piece by piece.
use Rattle.std.proofs.Common.{◌≡◌, ℕ, ◌+◌, ◌-◌, ◌*◌, ◌<◌, ◌≤◌, true, List, length, slice_get, Option, Some, None, unwrap_or, refl, sym, ap, ◌∙◌, subst, inl, inr, arith}
use Rattle.std.specs.Prelude.{◌≢◌, Contains}
use Rattle.std.proofs.lemmas.List.{length-take}
use Rattle.sd_names.specs.declared.id.Id.{Id}
use Rattle.sd_names.specs.declared.place.Dir.{Dir}
use Rattle.shared_disk.specs.Calls.{sectors_in}
use Rattle.shared_disk.specs.Content.{Content, sector_of}
use Rattle.volume_meta.specs.declared.record.VolumeRecord.{VolumeRecord}
use Rattle.chain_model.specs.Chain.{IsBelow, counting}
use Rattle.chain_model.specs.Flat.{IsFlat, IsSectorOf, first_of as first_holding, flat}
use Rattle.chain_model.specs.Folder.{Folder, IsFolderOutcome, OnEachFolder, Volumes, folder_of, volumes_of}
use Rattle.chain_model.specs.Own.{own, sectors_of}
use Rattle.chain_model.specs.Reading.{IsReading}
use Rattle.chain_model.specs.Records.{Records, is_legal}
use Rattle.chain_model.proofs.Flats.{flat_alike}
use Rattle.chain_laws.specs.Laid.{IsInPart, Laying, Reads, sector_in_part}
use Rattle.chain_laws.specs.Written.{ComesWritten, HoldsPart, IsWritten}
use Rattle.chain_laws.proofs.Goes.{written_through}
use Rattle.chain_laws.proofs.Held.{HeldCase, all_same, held_case}
use Rattle.chain_laws.proofs.Outcomes.{comes_itself}
use Rattle.chain_gathering.specs.Knowing.{AreSettled, volumes_in}
use Rattle.chain_records.specs.Records.{records_in}
use Rattle.chain_records.specs.Settling.{IsOver}
use Rattle.chain_records.specs.declared.volume.Volume.{Volume}
use Rattle.commit_laws.specs.Commit.{HoldsTo, IsHeldBy, IsPieceOf}
use Rattle.commit_laws.proofs.Alike.{others_read}
use Rattle.commit_laws.proofs.Covers.{base_below}
use Rattle.commit_laws.proofs.Pieces as pieces
use Rattle.volume_chain.specs.Chain.{dir_in, open_in, path_in, target_of}
use Rattle.volume_chain.specs.Knowing.{KnowsChain}
use Rattle.volume_chain.specs.Layers.{IsLayerAt}
use Rattle.volume_chain.specs.declared.chain.Chain.{Chain}
use Rattle.volume_chain.specs.declared.chain.Target.{Target}
use Rattle.volume_chain.specs.declared.subchain.Subchain.{Subchain}
use Rattle.chain_reading.specs.Asked.{sectors_by, sectors_in as volume_sectors}
use Rattle.chain_reading.specs.Knowing.{place_on, records_of}
use Rattle.chain_reading.proofs.Survives.{begun_image}
use Rattle.commit_reading.specs.Knowing.{HasPiece, HoldsFrom, KnowsTop}
use Rattle.commit_reading.specs.Pieces.{IsInside, count_of, end_in, first_in, first_of, front, width_by, width_in}
use Rattle.commit_reading.specs.declared.pieces.Pieces.{Pieces}
use Rattle.raw_writing.specs.Image.{IsOnMedium, IsPartOf}
use Rattle.commit_steps.specs.Knowing.{AreLaid, IsAsHeld, IsCommitOf, IsSameFor, IsStart, KnowsCommit, piece_of}
use Rattle.commit_steps.proofs.Settled.{AreSettledFiles, same_own, settled_files, some_outcome}

-- ---- the begin

reads_on_each : (l : Laying) (F : Folder) → AreSettledFiles F → Reads l l.reads (volumes_of F) → OnEachFolder F (λ O. Reads l l.reads (volumes_of O))
reads_on_each l F settled reads O out k s = flat_alike l.records (volumes_of F) (volumes_of O) l.volume l.below k (λ w. same_own F O settled out l.records w k) ∙ reads k s

held_on_each : (l : Laying) (top : Id) (F : Folder) → AreSettledFiles F → IsAsHeld l top (volumes_of F) → OnEachFolder F (λ O. IsAsHeld l top (volumes_of O))
held_on_each l top F settled held O out k b inside is = held k b inside (sym (same_own F O settled out l.records top k) ∙ is)

pub begins : (l : Laying) (c : Chain) (sub : Subchain) (cluster : ℕ) (x : VolumeRecord) (host : ℕ) (d : Content) → IsCommitOf l c sub cluster x → KnowsChain c host d → AreSettled (dir_in (target_of c)) d
    → Reads l l.reads (volumes_in (dir_in (target_of c)) d) → IsAsHeld l sub.top (volumes_in (dir_in (target_of c)) d)
    → KnowsCommit l c sub cluster x host (folder_of (dir_in (target_of c)) d) (first_in c sub cluster) d
begins l c sub cluster x host d of knows settled reads held = record {
  of = of;
  begun = record {
    settled = settled_files (dir_in (target_of c)) d settled;
    reads = reads_on_each l (folder_of (dir_in (target_of c)) d) (settled_files (dir_in (target_of c)) d settled) reads;
    held = held_on_each l sub.top (folder_of (dir_in (target_of c)) d) (settled_files (dir_in (target_of c)) d settled) held;
  };
  chain = knows;
  settled = settled;
  comes = comes_itself l (folder_of (dir_in (target_of c)) d);
  laid = λ O out k low inside s. absurd (let from = of.from in let at = inside.0 in omega (arith, low, from, at));
}

pub top_read : (l : Laying) (c : Chain) (sub : Subchain) (cluster : ℕ) (x : VolumeRecord) (host : ℕ) (start : Folder) (from : ℕ) (d : Content) → KnowsCommit l c sub cluster x host start from d
    → Contains (path_in c) sub.top → IsLayerAt (open_in c) (place_on sub.top (path_in c)) → KnowsTop c sub host (volumes_in (dir_in (target_of c)) d) d
top_read l c sub cluster x host start from d k path layer = record {
  image = begun_image c sub.top host d k.chain k.settled;
  path = path;
  layer = layer;
  over = subst (λ (v : Id). IsOver (records_of c) sub.top v) k.of.volume (subst (λ (r : Records). IsOver r sub.top l.volume) k.of.records k.of.commit.over);
}

-- ---- a piece

front_size : (p : Pieces) (part : List ℕ) → length part ≡ 65536 → sectors_in (front p part) ≡ count_of p
front_size p part size = let front_is = length-take {A = ℕ} (512 * count_of p) part in omega (arith, front_is, size)

pub is_part : (l : Laying) (c : Chain) (sub : Subchain) (cluster : ℕ) (x : VolumeRecord) (p : Pieces) (part : List ℕ) (d : Content) → IsCommitOf l c sub cluster x → IsInside c sub cluster p → length part ≡ 65536
    → IsPartOf (piece_of l (volumes_in (dir_in (target_of c)) d) p part) c x
is_part l c sub cluster x p part d of inside size = record {
  records = of.records;
  says = of.says;
  path = of.path;
  within =
      let count = front_size p part size in
      let says : records_of c sub.base ≡ Some x = ap (records_of c) (sym of.volume) ∙ ap (λ (r : Records). r l.volume) (sym of.records) ∙ of.says in
      let have : volume_sectors c sub.base ≡ sectors_of x = ap sectors_by says in
      let end = inside.end in
      let order = p.order in
      omega (arith, count, have, end, order);
}

module _ (l : Laying) (c : Chain) (sub : Subchain) (cluster : ℕ) (x : VolumeRecord) (host : ℕ) (start : Folder) (from : ℕ) (d : Content) (k : KnowsCommit l c sub cluster x host start from d) where
  abbrev pub dir : Dir
  dir = dir_in (target_of c)

  abbrev pub now : Volumes
  now = volumes_in dir d

  files : AreSettledFiles (folder_of dir d)
  files = settled_files dir d k.settled

  -- an outcome, and the one of the begin from which it comes
  after : (O : Folder) × IsFolderOutcome (folder_of dir d) O
  after = some_outcome dir d

  before : (G : Folder) × IsFolderOutcome start G × IsWritten l (volumes_of G) (volumes_of after.0)
  before = k.comes after.0 after.1

  own_now : (v : Id) (n : ℕ) → own l.records (volumes_of after.0) v n ≡ own l.records now v n
  own_now v n = same_own (folder_of dir d) after.0 files after.1 l.records v n

  top_apart : sub.top ≢ l.volume
  top_apart = base_below l sub.top k.of.commit

  -- what the top holds it held at the begin, as the part has it
  pub top_held : (n : ℕ) (s : List ℕ) → IsInPart l.part n → own l.records now sub.top n ≡ Some s → s ≡ sector_in_part l.part n
  top_held n s inside is = k.begun.held before.0 before.1 n s inside (sym (before.2.others sub.top top_apart n) ∙ own_now sub.top n ∙ is)

  none_before : (n : ℕ) → own l.records now l.volume n ≡ None → own l.records (volumes_of after.0) l.volume n ≡ own l.records (volumes_of before.0) l.volume n
  none_before n none = by (held_case l (volumes_of before.0) (volumes_of after.0) n before.2)
    where
      here : own l.records (volumes_of after.0) l.volume n ≡ None
      here = own_now l.volume n ∙ none

      by : HeldCase l (volumes_of before.0) (volumes_of after.0) n → own l.records (volumes_of after.0) l.volume n ≡ own l.records (volumes_of before.0) l.volume n
      by (inl same) = same
      by (inr (s, inl h)) = absurd (let other = sym here ∙ h.1 in cc)
      by (inr (s, inr h)) = absurd (let other = sym here ∙ h.1 in cc)

  -- where the base holds nothing, it reads as at the begin
  pub reads_below : (n : ℕ) → IsSectorOf l.records l.volume n → own l.records now l.volume n ≡ None → flat l.records now l.volume l.below n ≡ l.reads n
  reads_below n s none =
      sym (flat_alike l.records now (volumes_of after.0) l.volume l.below n (λ w. own_now w n))
      ∙ flat_alike l.records (volumes_of before.0) (volumes_of after.0) l.volume l.below n (all_same l (volumes_of before.0) (volumes_of after.0) n before.2 (none_before n none))
      ∙ k.begun.reads before.0 before.1 n s

  reads_by : (n : ℕ) (o : Option (List ℕ)) → IsSectorOf l.records l.volume n → own l.records now l.volume n ≡ o → flat l.records now l.volume l.below n ≡ unwrap_or (own l.records now l.volume n) (l.reads n)
  reads_by n (Some b) s e = ap (λ (q : Option (List ℕ)). unwrap_or q (first_holding l.records now (counting l.records l.below) n)) e ∙ sym (ap (λ (q : Option (List ℕ)). unwrap_or q (l.reads n)) e)
  reads_by n None s e = reads_below n s e ∙ sym (ap (λ (q : Option (List ℕ)). unwrap_or q (l.reads n)) e)

  pub piece_reads : (p : Pieces) (part : List ℕ) → Reads (piece_of l now p part) (piece_of l now p part).reads now
  piece_reads p part n s = reads_by n (own l.records now l.volume n) s refl

  is_piece : (p : Pieces) (part : List ℕ) → IsInside c sub cluster p → length part ≡ 65536 → HasPiece c sub now p part → IsPieceOf (piece_of l now p part).part l.part
  is_piece p part inside size has = record {
    from = let first = inside.first in let at = k.of.from in omega (arith, first, at);
    end = let to = k.of.to in let end = inside.end in let order = p.order in omega (arith, to, end, order, count);
    same = λ n within. same n within;
  }
    where
      count : sectors_in (front p part) ≡ count_of p
      count = front_size p part size

      same : (n : ℕ) → IsInPart (piece_of l now p part).part n → sector_of (front p part) (n - first_of p) ≡ sector_in_part l.part n
      same n within =
          let at : first_of p + (n - first_of p) ≡ n = (let low = within.0 in omega (arith, low)) in
          let less : n - first_of p < count_of p = (let low = within.0 in let high = within.1 in omega (arith, low, high, count)) in
          let held : own (records_of c) now sub.top n ≡ Some (sector_of (front p part) (n - first_of p)) = subst (λ m. own (records_of c) now sub.top m ≡ Some (sector_of (front p part) (n - first_of p))) at (has.piece (n - first_of p) less) in
          let whole : IsInPart l.part n = (
            (let first = inside.first in let from_at = k.of.from in let low = within.0 in omega (arith, first, from_at, low)),
            (let to = k.of.to in let end = inside.end in let order = p.order in let low = within.0 in omega (arith, to, end, order, less, low)),
          ) in
          top_held n (sector_of (front p part) (n - first_of p)) whole (subst (λ (r : Records). own r now sub.top n ≡ Some (sector_of (front p part) (n - first_of p))) (sym k.of.records) held)

  pub piece_laid : (p : Pieces) (part : List ℕ) → IsInside c sub cluster p → length part ≡ 65536 → HasPiece c sub now p part → AreLaid (piece_of l now p part) l (folder_of dir d)
  piece_laid p part inside size has O out = record {
    records = refl;
    volume = refl;
    piece = is_piece p part inside size has;
    reads = λ n none. ap (λ (q : Option (List ℕ)). unwrap_or q (l.reads n)) (sym (same_own (folder_of dir d) O files out l.records l.volume n) ∙ none);
  }

  -- ---- what the top holds

  pub all_held : HoldsFrom c sub now (first_in c sub cluster) (end_in c sub cluster) → OnEachFolder start (λ O. IsHeldBy l sub.top (volumes_of O))
  all_held holds O out n inside =
      let at = k.of.from in
      let to = k.of.to in
      let low = inside.0 in
      let high = inside.1 in
      let found = holds n (omega (arith, at, low)) (omega (arith, to, high)) in
      let held : own l.records now sub.top n ≡ Some found.0 = subst (λ (r : Records). own r now sub.top n ≡ Some found.0) (sym k.of.records) found.1 in
      let started : own l.records (volumes_of O) sub.top n ≡ own l.records (volumes_of before.0) sub.top n =
      same_own start O k.begun.settled out l.records sub.top n ∙ sym (same_own start before.0 k.begun.settled before.1 l.records sub.top n) in
      started ∙ sym (before.2.others sub.top top_apart n) ∙ own_now sub.top n ∙ held ∙ ap (λ (b : List ℕ). Some b) (top_held n found.0 inside held)

-- ---- behind a piece

pub piece_comes : (piece l : Laying) (start F G : Folder) → ComesWritten l start F → AreLaid piece l F → ComesWritten piece F G → ComesWritten l start G
piece_comes piece l start F G comes laid then O out =
    let b = then O out in
    let a = comes b.0 b.1 in
    (a.0, a.1, written_through l (volumes_of a.0) (volumes_of b.0) (volumes_of O) a.2 (pieces.written piece l (volumes_of b.0) (volumes_of O) (laid b.0 b.1) b.2))

-- the commit is one with the next chain
pub next_of : (l : Laying) (c next : Chain) (sub : Subchain) (cluster : ℕ) (x : VolumeRecord) → IsSameFor sub c next → IsCommitOf l c sub cluster x → IsCommitOf l next sub cluster x
next_of l c next sub cluster x same of = record {
  records = of.records ∙ sym records;
  volume = of.volume;
  says = of.says;
  path = subst (λ (vs : List Id). Contains vs l.volume) (sym same.path) of.path;
  commit = of.commit;
  below = of.below;
  from = of.from ∙ sym first;
  to = of.to ∙ sym end;
}
  where
    records : records_of next ≡ records_of c
    records = ap (λ (xs : List Volume). records_in xs) same.records

    wide : width_in next sub.top ≡ width_in c sub.top
    wide = same.width

    end : end_in next sub cluster ≡ end_in c sub cluster
    end =
        let w = wide in
        let a : volume_sectors next sub.top ≡ volume_sectors c sub.top = ap (λ (r : Records). sectors_by (r sub.top)) records in
        let b : volume_sectors next sub.base ≡ volume_sectors c sub.base = ap (λ (r : Records). sectors_by (r sub.base)) records in
        let m : cluster * width_in next sub.top ≡ cluster * width_in c sub.top = ap (λ n. cluster * n) w in
        omega (arith, a, b, m, w)

    first : first_in next sub cluster ≡ first_in c sub cluster
    first =
        let m : cluster * width_in next sub.top ≡ cluster * width_in c sub.top = ap (λ n. cluster * n) wide in
        let e = end in
        omega (arith, m, e)

pub piece_committed : (piece l : Laying) (c next : Chain) (sub : Subchain) (cluster : ℕ) (x : VolumeRecord) (host : ℕ) (start : Folder) (d e : Content) → KnowsCommit l c sub cluster x host start piece.part.at d
    → AreLaid piece l (folder_of (dir_in (target_of c)) d) → IsSameFor sub c next → ComesWritten piece (folder_of (dir_in (target_of c)) d) (folder_of (dir_in (target_of c)) e) → IsOnMedium next piece host e
    → KnowsCommit l next sub cluster x host start (piece.part.at + sectors_in piece.part.bytes) e
piece_committed piece l c next sub cluster x host start d e k laid same comes medium = record {
  of = next_of l c next sub cluster x same k.of;
  begun = k.begun;
  chain = medium.chain;
  settled = medium.settled;
  comes = subst (λ (t : Target). ComesWritten l start (folder_of (dir_in t) e)) (sym same.target) (piece_comes piece l start (folder_of (dir_in (target_of c)) d) (folder_of (dir_in (target_of c)) e) k.comes laid comes);
  laid = λ O out. held O (subst (λ (t : Target). IsFolderOutcome (folder_of (dir_in t) e) O) same.target out) (medium.holds O out);
}
  where
    held : (O : Folder) → IsFolderOutcome (folder_of (dir_in (target_of c)) e) O → HoldsPart piece (volumes_of O) → HoldsTo l (piece.part.at + sectors_in piece.part.bytes) (volumes_of O)
    held O out part =
        let b = comes O out in
        let one = laid b.0 b.1 in
        pieces.next piece l (volumes_of b.0) (volumes_of O) one (pieces.stays l piece.part.at (volumes_of b.0) (volumes_of O) (k.laid b.0 b.1) (pieces.written piece l (volumes_of b.0) (volumes_of O) one b.2)) part

pub whole : (l : Laying) (c : Chain) (sub : Subchain) (cluster : ℕ) (x : VolumeRecord) (host : ℕ) (start : Folder) (from : ℕ) (d : Content) → KnowsCommit l c sub cluster x host start from d → end_in c sub cluster ≤ from
    → OnEachFolder (folder_of (dir_in (target_of c)) d) (λ O. HoldsPart l (volumes_of O))
whole l c sub cluster x host start from d k past O out = pieces.whole_held l from (volumes_of O) (let to = k.of.to in omega (arith, to, past)) (k.laid O out)

pub others : (l : Laying) (c : Chain) (sub : Subchain) (cluster : ℕ) (x : VolumeRecord) (start F : Folder) (v : Id) (vs : List Id) (flats : Id → ℕ → List ℕ) → IsCommitOf l c sub cluster x → IsStart l sub.top start
    → OnEachFolder start (λ O. IsHeldBy l sub.top (volumes_of O)) → IsReading l.records v vs → OnEachFolder start (λ O. IsFlat l.records flats (volumes_of O)) → ComesWritten l start F
    → OnEachFolder F (λ O. (u : Id) (us : List Id) → u ≢ sub.base → is_legal l.records u ≡ true → IsBelow l.records u us → (k : ℕ) → IsSectorOf l.records u k → flat l.records (volumes_of O) u us k ≡ flats u k)
others l c sub cluster x start F v vs flats of begun held reading is comes O out u us other legal below k s =
    let a = comes O out in
    others_read l sub.top v vs flats (volumes_of a.0) (volumes_of O) reading of.commit (held a.0 a.1) of.below (is a.0 a.1) (begun.reads a.0 a.1) a.2 u us (λ e. other (e ∙ of.volume)) legal below k s
