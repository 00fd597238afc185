-- What a volume holds once a cluster of its layer was written, or once clusters got their places.
use Rattle.std.proofs.Common.{◌≡◌, ◌≢◌, ◌⊎◌, ℕ, ◌+◌, ◌-◌, ◌*◌, ◌/◌, ◌%◌, ◌^◌, ◌<◌, ◌≤◌, ◌==◌, Bool, true, false, List, Option, Some, None, refl, sym, ap, ◌∙◌, subst, inl, inr, arith, eq-eqb, eqb-true}
use Rattle.std.specs.Prelude.{slice_index}
use Rattle.std.proofs.lemmas.Bool.{cases_lt, false≢true}
use Rattle.shared_disk.specs.Calls.{sectors_in}
use Rattle.shared_disk.specs.Content.{File, sector_of}
use Rattle.shared_disk.specs.Crash.{IsPieceSector}
use Rattle.qcow_format.specs.declared.entry.Entry.{Entry}
use Rattle.qcow_format.specs.declared.entry.Entry.TheVariants.{Data}
use Rattle.qcow_format.specs.declared.header.Header.{Header}
use Rattle.volume_meta.specs.declared.record.VolumeRecord.{VolumeRecord}
use Rattle.image_model.specs.File.{file_of, sector_in}
use Rattle.image_model.specs.Layer.{byte_behind, entry_at, own_byte}
use Rattle.layer_laws.specs.Laws.{layer}
use Rattle.link_laws.specs.Links.{Linked, byte_with, entry_with}
use Rattle.layer_writing.specs.Holding.{IsInCluster, IsRewritten, on_medium}
use Rattle.chain_model.specs.Own.{own_in, sectors_of}
use Rattle.chain_model.proofs.Held.{none_past_capacity}
use Rattle.qcow_layer.proofs.Knowing.{in_file}
use Rattle.own_laws.specs.Sectors.{HoldOver, IsLayerOf, cluster_of, offset_of, sector_at, sector_behind}
use Rattle.own_laws.proofs.Bytes.{bytes_hold, long_sector, same_sectors}
use Rattle.own_laws.proofs.Data.{data_held}
use Rattle.own_laws.proofs.Sizes.{IsSplit, IsWide, split, whole_place, wide}

same_or_not : (a b : ℕ) → (a ≡ b) ⊎ (a ≢ b)
same_or_not a b = go (a == b) refl
  where
    go : (t : Bool) → (a == b) ≡ t → (a ≡ b) ⊎ (a ≢ b)
    go true t = inl (eqb-true a b t)
    go false t = inr (λ e. false≢true (sym t ∙ eq-eqb a b e))

-- ---- a piece is written into a cluster of data

-- which sector of the piece it is
piece_index : (c n k w place at i : ℕ) → k ≡ n * c + i → w ≡ 512 * c → place % 512 ≡ 0 → place ≤ 512 * at → at ≤ place / 512 + i
    → ((n * w + (512 * at - place)) / 512 ≤ k) × (k - (n * w + (512 * at - place)) / 512 ≡ place / 512 + i - at)
piece_index c n k w place at i parts size whole low le =
    let rows : n * w ≡ 512 * (n * c) = ap (λ v. n * v) size ∙ omega arith in
    let first : (n * w + (512 * at - place)) / 512 ≡ n * c + at - place / 512 = omega (arith, rows, whole, low) in
    (omega (arith, first, parts, le), omega (arith, first, parts, le, low, whole))

pub written_held : (x : VolumeRecord) (h : Header) (c place at : ℕ) (did : ℕ → Bool) (bytes : List ℕ) (f g : File) → IsLayerOf x h g
    → (rewritten : IsRewritten h x.capacity c place did at bytes f g) → IsLayerOf x h rewritten.old
    → entry_at (layer h (on_medium rewritten.old)) c ≡ Data place → IsInCluster (2 ^ h.cluster_bits) place at bytes → at + sectors_in bytes ≤ f.size
    → HoldOver x (sector_behind h c place at) bytes rewritten.old g
written_held x h c place at did bytes f g is r was entry inside fits k = go (same_or_not (cluster_of h k) c) (cases_lt k (sectors_of x))
  where
    w : ℕ
    w = 2 ^ h.cluster_bits

    wd : IsWide h.cluster_bits
    wd = wide x g h is.header

    first : ℕ
    first = sector_behind h c place at

    Goal : Type 0
    Goal = (own_in x g k ≡ own_in x r.old k) ⊎ ((first ≤ k) × (k < first + sectors_in bytes) × (own_in x g k ≡ Some (sector_of bytes (k - first))))

    sp : IsSplit wd.sectors (512 * k) k w
    sp = split wd.sectors (512 * k) k w wd.some (omega arith) wd.size

    whole : place % 512 ≡ 0
    whole = whole_place wd.sectors place w wd.some wd.size inside.begins

    index : sector_at h place k ≡ place / 512 + offset_of h k / 512
    index = omega (arith, whole, sp.sector)

    other : cluster_of h k ≢ c → own_in x g k ≡ own_in x r.old k
    other apart = bytes_hold x h h r.old g k was is (λ i at'. let s = split wd.sectors i k w wd.some at' wd.size in r.over.bytes_kept i (λ e. apart (s.cluster ∙ e)))

    now : cluster_of h k ≡ c → k < sectors_of x → own_in x g k ≡ Some (sector_in g.size g.stable (sector_at h place k))
    now e low = data_held x h g k place is low (r.over.same.entries (cluster_of h k) ∙ ap (entry_at (layer h (on_medium r.old))) e ∙ entry)

    before : cluster_of h k ≡ c → k < sectors_of x → own_in x r.old k ≡ Some (sector_in r.old.size r.old.stable (sector_at h place k))
    before e low = data_held x h r.old k place was low (ap (entry_at (layer h (on_medium r.old))) e ∙ entry)

    piece : cluster_of h k ≡ c → k < sectors_of x → IsPieceSector did at bytes (sector_at h place k) (g.stable (sector_at h place k)) → Goal
    piece e low p =
        let parts : k ≡ c * wd.sectors + offset_of h k / 512 = sp.parts ∙ ap (λ n. n * wd.sectors + offset_of h k / 512) e in
        let low' : at ≤ place / 512 + offset_of h k / 512 = subst (λ n. at ≤ n) index p.low in
        let where' = piece_index wd.sectors c k w place at (offset_of h k / 512) parts wd.size whole inside.low low' in
        let number : k - first ≡ sector_at h place k - at = where'.1 ∙ ap (λ n. n - at) (sym index) in
        let high : sector_at h place k < at + sectors_in bytes = p.high in
        let size : g.size ≡ r.old.size = r.laid.size in
        let long : r.old.size ≡ f.size = r.outcome.size in
        inr (
          where'.0,
          omega (arith, number, high, p.low, where'.0),
          now e low
              ∙ ap (λ (s : List ℕ). Some s) (in_file g.size (sector_at h place k) g.stable (omega (arith, high, size, long, fits)) ∙ p.piece ∙ ap (sector_of bytes) (sym number)),
        )

    here : cluster_of h k ≡ c → k < sectors_of x → (g.stable (sector_at h place k) ≡ r.old.stable (sector_at h place k)) ⊎ IsPieceSector did at bytes (sector_at h place k) (g.stable (sector_at h place k)) → Goal
    here e low (inl same) =
        let sector : sector_in g.size g.stable (sector_at h place k) ≡ sector_in r.old.size r.old.stable (sector_at h place k) =
        ap (λ n. sector_in n g.stable (sector_at h place k)) r.laid.size ∙ ap (λ (s : List ℕ). sector_in r.old.size (λ _. s) (sector_at h place k)) same in
        inl (now e low ∙ ap (λ (s : List ℕ). Some s) sector ∙ sym (before e low))
    here e low (inr p) = piece e low p

    go : (cluster_of h k ≡ c) ⊎ (cluster_of h k ≢ c) → (k < sectors_of x) ⊎ (sectors_of x ≤ k) → Goal
    go at' (inr past) = inl (none_past_capacity x g k past ∙ sym (none_past_capacity x r.old k past))
    go (inl e) (inl low) = here e low (r.laid.sectors (sector_at h place k))
    go (inr apart) (inl low) = inl (other apart)

-- ---- clusters get their places

pub others_held : (x : VolumeRecord) (h : Header) (to behind : ℕ → Option ℕ) (f g : File) (k : ℕ) → IsLayerOf x h f → IsLayerOf x h g → Linked h x.capacity to behind (on_medium f) (on_medium g)
    → to (cluster_of h k) ≡ None → own_in x g k ≡ own_in x f k
others_held x h to behind f g k is now linked none =
    let wd = wide x f h is.header in
    bytes_hold x h h f g k is now (λ i at.
    let s = split wd.sectors i k (2 ^ h.cluster_bits) wd.some at wd.size in
    let stays : to (i / 2 ^ h.cluster_bits) ≡ None = ap to (sym s.cluster) ∙ none in
    linked.bytes i ∙ ap (λ (o : Option ℕ). byte_with (on_medium f) o (i % 2 ^ h.cluster_bits) (own_byte (layer h (on_medium f)) i)) stays)

some_byte : (a b : ℕ) → ◌≡◌ {A = Option ℕ} (Some a) (Some b) → a ≡ b
some_byte a b e = cc

file_byte : (f : File) (b k j : ℕ) → b ≡ 512 * k + j → j < 512 → (on_medium f).byte b ≡ slice_index (sector_in f.size f.stable k) j
unfolding file_of
file_byte f b k j is small =
    let sector : b / 512 ≡ k = omega (arith, is, small) in
    let byte : b % 512 ≡ j = omega (arith, is, small) in
    λ i. slice_index (sector_in f.size f.stable (sector i)) (byte i)

data_byte : (h : Header) (f : File) (i place : ℕ) → entry_at (layer h (on_medium f)) (i / 2 ^ h.cluster_bits) ≡ Data place
    → own_byte (layer h (on_medium f)) i ≡ Some ((on_medium f).byte (place + i % 2 ^ h.cluster_bits))
unfolding own_byte
data_byte h f i place e = ap (λ (en : Entry). byte_behind (layer h (on_medium f)) (i % 2 ^ h.cluster_bits) en) e

pub linked_held : (x : VolumeRecord) (h : Header) (to behind : ℕ → Option ℕ) (f g : File) (k place : ℕ) → IsLayerOf x h f → IsLayerOf x h g → Linked h x.capacity to behind (on_medium f) (on_medium g)
    → k < sectors_of x → place % 512 ≡ 0 → to (cluster_of h k) ≡ Some place → own_in x g k ≡ Some (sector_in f.size f.stable (sector_at h place k))
linked_held x h to behind f g k place is now linked low whole some =
    data_held x h g k place now low entry
    ∙ ap (λ (s : List ℕ). Some s) (same_sectors (sector_in g.size g.stable n) (sector_in f.size f.stable n) (long_sector g n now.well) (long_sector f n is.well) each)
  where
    n : ℕ
    n = sector_at h place k

    w : ℕ
    w = 2 ^ h.cluster_bits

    wd : IsWide h.cluster_bits
    wd = wide x f h is.header

    entry : entry_at (layer h (on_medium g)) (cluster_of h k) ≡ Data place
    entry = linked.entries (cluster_of h k) ∙ ap (λ (o : Option ℕ). entry_with o (entry_at (layer h (on_medium f)) (cluster_of h k))) some

    each : (j : ℕ) → j < 512 → slice_index (sector_in g.size g.stable n) j ≡ slice_index (sector_in f.size f.stable n) j
    each j small =
        let i = 512 * k + j in
        let s = split wd.sectors i k w wd.some (omega (arith, small)) wd.size in
        let at : place + i % w ≡ 512 * n + j = omega (arith, s.offset, s.sector, whole, small) in
        let to' : to (i / w) ≡ Some place = ap to (sym s.cluster) ∙ some in
        let entry' : entry_at (layer h (on_medium g)) (i / w) ≡ Data place = ap (entry_at (layer h (on_medium g))) (sym s.cluster) ∙ entry in
        let both = sym (data_byte h g i place entry') ∙ linked.bytes i ∙ ap (λ (o : Option ℕ). byte_with (on_medium f) o (i % w) (own_byte (layer h (on_medium f)) i)) to' in
        sym (file_byte g (place + i % w) n j at small) ∙ some_byte _ _ both ∙ file_byte f (place + i % w) n j at small
