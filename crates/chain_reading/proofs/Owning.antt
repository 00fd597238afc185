-- What a volume of the path holds, as its open file says.
use Rattle.std.proofs.Common.{◌≡◌, ℕ, zero, suc, ◌+◌, ◌*◌, ◌/◌, ◌%◌, ◌^◌, ◌<◌, ◌≤◌, Bool, true, false, nat_lt, List, [], ◌∷◌, slice_get, Option, Some, None, Result, Ok, Err, refl, ap, ap₂, ◌∙◌, subst}
use Rattle.std.specs.Prelude.{◌==◌, not, if◌then◌else◌}
use Rattle.std.proofs.lemmas.Bool.{lt-ltb}
use Rattle.sd_names.specs.declared.fault.LayerFault.{LayerFault}
use Rattle.sd_names.specs.declared.fault.LayerFault.TheVariants.{Compressed, MixedBits}
use Rattle.sd_names.specs.declared.id.Id.{Id}
use Rattle.sd_names.specs.declared.kinds.Format.TheVariants as format
use Rattle.shared_disk.specs.Content.{File}
use Rattle.qcow_format.specs.Entry.{bits_between, entry_in, is_l2_entry, offset_in}
use Rattle.qcow_format.specs.declared.entry.Entry.{Entry}
use Rattle.qcow_format.specs.declared.entry.Entry.TheVariants.{Absent, Zero, Data}
use Rattle.qcow_format.specs.declared.header.Header.{Header}
use Rattle.volume_meta.specs.declared.record.VolumeRecord.{VolumeRecord}
use Rattle.image_model.specs.File.{file_of, sector_in}
use Rattle.image_model.specs.Layer.{Tables, entries, entry_at, entry_behind, entry_or_absent, l1_entry, l2_at}
use Rattle.layer_walk.proofs.L2Walks.{offset_small}
use Rattle.qcow_layer.specs.Opening.{target_kept}
use Rattle.qcow_layer.specs.declared.layer.Layer.{Layer}
use Rattle.chain_model.specs.Folder.{Volumes}
use Rattle.chain_model.specs.Growth.{IsLonger}
use Rattle.chain_model.specs.Own.{header_in, layer_sector, own, own_by, own_in, sector_behind, sectors_of}
use Rattle.chain_model.specs.Records.{Records}
use Rattle.chain_model.proofs.Held.{none_past_capacity}
use Rattle.volume_chain.specs.Chain.{IsOpenAs, OnPath, layer_of}
use Rattle.volume_chain.specs.declared.chain.Target.{Target}
use Rattle.volume_chain.specs.declared.volumes.OpenVolume.{OpenVolume}
use Rattle.volume_chain.specs.declared.volumes.OpenVolume.TheVariants as volumes
use Rattle.chain_reading.specs.Asked.{sectors_by}
use Rattle.chain_reading.specs.Knowing.{IsLow, held_by}
use Rattle.chain_reading.proofs.Numbers.{in_cluster, sector_of_place}

-- ---- along the path

pub along_at : (R : Id → OpenVolume → Type 0) (path : List Id) (os : List OpenVolume) (n : ℕ) (v : Id) (o : OpenVolume)
    → OnPath R path os → slice_get path n ≡ Some v → slice_get os n ≡ Some o → R v o
along_at R path [] n v o along a b = absurd cc
along_at R [] (p ∷ os) n v o along a b = absurd along
along_at R (w ∷ ws) (p ∷ os) zero v o along a b =
    let e : w ≡ v = cc in
    let g : p ≡ o = cc in
    subst (λ (u : Id). R u o) e (subst (λ (q : OpenVolume). R w q) g along.0)
along_at R (w ∷ ws) (p ∷ os) (suc n) v o along a b = along_at R ws os n v o along.1 a b

-- a volume that is open has a record, which says how it is open
pub raw_record : (t : Target) (v : Id) (n : ℕ) (q : Option VolumeRecord) → IsOpenAs t v q (volumes.Raw n) → (rec : VolumeRecord) × (q ≡ Some rec) × (rec.format ≡ format.Raw)
raw_record t v n None is = absurd is
raw_record t v n (Some rec) is = (rec, refl, is)

pub cow_record : (t : Target) (v : Id) (l : Layer) (q : Option VolumeRecord) → IsOpenAs t v q (volumes.Cow l)
    → (rec : VolumeRecord) × (q ≡ Some rec) × (rec.format ≡ format.Cow) × (target_kept l ≡ layer_of t v rec)
cow_record t v l None is = absurd is
cow_record t v l (Some rec) is = (rec, refl, is.0, is.1)

-- ---- what is held

pub none_held : (q : Option VolumeRecord) (file : Option File) (k : ℕ) → sectors_by q ≤ k → own_by q file k ≡ None
none_held None file k le = refl
none_held (Some rec) None k le = refl
none_held (Some rec) (Some f) k le = none_past_capacity rec f k le

own_of_record : (r : Records) (x : Volumes) (v : Id) (rec : VolumeRecord) (f : File) (k : ℕ) → r v ≡ Some rec → x.file v ≡ Some f → own r x v k ≡ own_in rec f k
own_of_record r x v rec f k says there = ap₂ (λ (q : Option VolumeRecord) (o : Option File). own_by q o k) says there

pub raw_held : (r : Records) (x : Volumes) (v : Id) (rec : VolumeRecord) (f : File) (k : ℕ) → r v ≡ Some rec → x.file v ≡ Some f → rec.format ≡ format.Raw → k < sectors_of rec
    → own r x v k ≡ Some (sector_in f.size f.stable k)
unfolding own_in
raw_held r x v rec f k says there raw less =
    let inside : nat_lt k (sectors_of rec) ≡ true = lt-ltb k (sectors_of rec) less in
    own_of_record r x v rec f k says there ∙ rw (inside, raw) refl

abbrev pub tables : Header → File → Tables
tables h f = record { header = h; file = file_of f.size f.stable }

behind_place : (f : File) (at m : ℕ) (e : Entry) → at ≡ 512 * m → sector_behind f at e ≡ held_by e f m
behind_place f at m Absent is = refl
behind_place f at m (Zero place) is = refl
behind_place f at m (Data place) is =
    ap (λ n. Some (sector_in f.size f.stable n)) (ap (λ n. (place + n) / 512) is ∙ sector_of_place place m)

-- a layer holds of a sector what the entry of its cluster says
pub cow_held : (r : Records) (x : Volumes) (v : Id) (rec : VolumeRecord) (f : File) (h : Header) (k s : ℕ) → r v ≡ Some rec → x.file v ≡ Some f → rec.format ≡ format.Cow
    → header_in rec f ≡ Ok h → k < sectors_of rec → 0 < s → 2 ^ h.cluster_bits ≡ 512 * s → own r x v k ≡ held_by (entry_at (tables h f) (k / s)) f (k % s)
unfolding own_in
cow_held r x v rec f h k s says there cow head less some width =
    let inside : nat_lt k (sectors_of rec) ≡ true = lt-ltb k (sectors_of rec) less in
    let at = in_cluster k s (2 ^ h.cluster_bits) some width in
    let by_layer : own_in rec f k ≡ layer_sector f k (tables h f) = rw (inside, cow, head) refl in
    own_of_record r x v rec f k says there ∙ by_layer
    ∙ behind_place f (512 * k % 2 ^ h.cluster_bits) (k % s) (entry_at (tables h f) (512 * k / 2 ^ h.cluster_bits)) at.1
    ∙ ap (λ n. held_by (entry_at (tables h f) n) f (k % s)) at.0

-- in a longer file it is the same
pub held_longer : (e : Entry) (f g : File) (m : ℕ) → IsLonger f g → held_by e g m ≡ held_by e f m
held_longer Absent f g m longer = refl
held_longer (Zero place) f g m longer = refl
held_longer (Data place) f g m longer = ap (λ (s : List ℕ). Some s) (longer.sectors (place / 512 + m))

-- ---- the place of an entry

low_in : (word version at : ℕ) → IsLow (entry_or_absent (entry_in word version at))
low_in word version at = go (not (bits_between 62 63 word == 0)) (not (is_l2_entry word version)) (not (bits_between 0 1 word == 0)) (offset_in word == 0)
  where
    go : (a b c d : Bool) → IsLow (entry_or_absent (if a then Err (Compressed at) else (if b then Err (MixedBits at) else (if c then Ok (Zero (offset_in word)) else (if d then Ok Absent else Ok (Data (offset_in word)))))))
    go true b c d = tt
    go false true c d = tt
    go false false true d = tt
    go false false false true = tt
    go false false false false = offset_small word

low_behind : (t : Tables) (j : ℕ) (r : Result (Option ℕ) LayerFault) → IsLow (entry_behind t j r)
low_behind t j (Ok (Some table)) = low_in (t.file.word (l2_at table j / 8)) t.header.version (l2_at table j)
low_behind t j (Ok None) = tt
low_behind t j (Err fault) = tt

pub low_entry : (t : Tables) (k : ℕ) → IsLow (entry_at t k)
unfolding entry_at
low_entry t k = go (nat_lt (k / entries t) t.header.l1_size)
  where
    go : (b : Bool) → IsLow (if b then entry_behind t (k % entries t) (l1_entry t (k / entries t)) else Absent)
    go true = low_behind t (k % entries t) (l1_entry t (k / entries t))
    go false = tt
