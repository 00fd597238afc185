-- What a volume holds after each change of its layer's file.
use Rattle.std.proofs.Common.{◌≡◌, ◌⊎◌, ℕ, ◌+◌, ◌-◌, ◌^◌, ◌<◌, ◌≤◌, Bool, true, List, Option, Some, None, refl, sym, ap, ◌∙◌, subst, inl, inr, arith}
use Rattle.sd_names.specs.declared.place.Name.TheVariants.{Volume}
use Rattle.shared_disk.specs.Calls.{sectors_in}
use Rattle.shared_disk.specs.Content.{File, sector_of}
use Rattle.shared_disk.specs.Crash.{IsFileOutcome, OnEach}
use Rattle.qcow_format.specs.declared.entry.Entry.TheVariants.{Data}
use Rattle.qcow_format.specs.declared.header.Header.{Header}
use Rattle.volume_meta.specs.declared.record.VolumeRecord.{VolumeRecord}
use Rattle.image_model.specs.File.{sector_in}
use Rattle.image_model.specs.Layer.{entry_at}
use Rattle.layer_laws.specs.Laws.{SameContent, layer}
use Rattle.link_laws.specs.Links.{Linked}
use Rattle.layer_writing.specs.Holding.{ComesBy, HoldSame, IsInCluster, IsRewritten, on_medium}
use Rattle.chain_model.specs.Folder.{Folder, OnEachFolder, volumes_of}
use Rattle.chain_model.specs.Own.{own, own_by, own_in, sectors_of}
use Rattle.own_laws.specs.Sectors.{IsLayerOf, cluster_of, sector_at, sector_behind}
use Rattle.own_laws.proofs.Bytes.{bytes_hold}
use Rattle.own_laws.proofs.Changes as changes
use Rattle.own_laws.proofs.Data.{data_held}
use Rattle.chain_laws.specs.Laid.{IsInPart, Laying, sector_in_part}
use Rattle.chain_laws.specs.Written.{FileWritten, HoldsPart, IsHeld}
use Rattle.chain_laws.proofs.Outcomes.{some_outcome}
use Rattle.part_laws.specs.Steps.{AreLayers, ComeAlike, HoldsIn, IsPieceAt, StandAtPlaces, StandsFor}

-- one record of the volume is enough
one_record : (l : Laying) (x y : VolumeRecord) → l.records l.volume ≡ Some x → l.records l.volume ≡ Some y → x ≡ y
one_record l x y a b = cc

pub held_by : (l : Laying) (x : VolumeRecord) (g g' : File) → l.records l.volume ≡ Some x → ((k : ℕ) → k < sectors_of x → IsHeld l k (own_in x g k) (own_in x g' k))
    → (y : VolumeRecord) → l.records l.volume ≡ Some y → (k : ℕ) → k < sectors_of y → IsHeld l k (own_in y g k) (own_in y g' k)
held_by l x g g' is held y also = subst (λ (z : VolumeRecord). (k : ℕ) → k < sectors_of z → IsHeld l k (own_in z g k) (own_in z g' k)) (one_record l x y is also) held

pub alike_written : (l : Laying) (x : VolumeRecord) (f g : File) → l.records l.volume ≡ Some x → ComeAlike x f g → FileWritten l f g
alike_written l x f g is alike g' out = let from = alike g' out in (from.0, from.1, held_by l x from.0 g' is (λ k lt. inl (from.2 k)))

pub same_written : (l : Laying) (x : VolumeRecord) (h : Header) (f g : File) → l.records l.volume ≡ Some x → AreLayers x h f → AreLayers x h g → ComesBy (HoldSame h x.capacity) f g → FileWritten l f g
same_written l x h f g is old new comes =
    alike_written l x f g is (λ g' out. let from = comes g' out in (from.0, from.1, λ k. bytes_hold x h h from.0 g' k (old from.0 from.1) (new g' out) (λ i at. from.2.bytes i)))

-- a sector of a piece
over_held : (l : Laying) (x : VolumeRecord) (first : ℕ) (bytes : List ℕ) (g g' : File) (k : ℕ) → IsPieceAt l.part first bytes
    → (own_in x g' k ≡ own_in x g k) ⊎ ((first ≤ k) × (k < first + sectors_in bytes) × (own_in x g' k ≡ Some (sector_of bytes (k - first)))) → IsHeld l k (own_in x g k) (own_in x g' k)
over_held l x first bytes g g' k piece (inl same) = inl same
over_held l x first bytes g g' k piece (inr new) =
    let at : first + (k - first) ≡ k = omega (arith, new.0) in
    let lt : k - first < sectors_in bytes = omega (arith, new.0, new.1) in
    inr (inl (
      subst (λ n. IsInPart l.part n) at (piece.inside (k - first) lt),
      new.2 ∙ ap (λ (b : List ℕ). Some b) (piece.same (k - first) lt ∙ ap (sector_in_part l.part) at),
    ))

pub piece_written : (l : Laying) (x : VolumeRecord) (h : Header) (c place at : ℕ) (did : ℕ → Bool) (bytes : List ℕ) (f g : File) → l.records l.volume ≡ Some x → AreLayers x h f → AreLayers x h g
    → OnEach g (IsRewritten h x.capacity c place did at bytes f) → OnEach f (λ o. entry_at (layer h (on_medium o)) c ≡ Data place)
    → IsInCluster (2 ^ h.cluster_bits) place at bytes → at + sectors_in bytes ≤ f.size → IsPieceAt l.part (sector_behind h c place at) bytes → FileWritten l f g
piece_written l x h c place at did bytes f g is old new rewritten entry inside within piece g' out =
    let from = rewritten g' out in (
      from.old,
      from.outcome,
      held_by l x from.old g' is (λ k lt.
          over_held l x (sector_behind h c place at) bytes from.old g' k piece
          (changes.written_held x h c place at did bytes f g' (new g' out) from (old from.old from.outcome) (entry from.old from.outcome) inside within k)),
    )

stands_held : (l : Laying) (k : ℕ) (held : Option (List ℕ)) (there : List ℕ) → StandsFor l k held there → IsHeld l k held (Some there)
stands_held l k held there (inl new) = inr (inl (new.0, ap (λ (b : List ℕ). Some b) new.1))
stands_held l k None there (inr reads) = inr (inr (refl, ap (λ (b : List ℕ). Some b) reads.0))
stands_held l k (Some bytes) there (inr reads) = inl (ap (λ (b : List ℕ). Some b) (reads.0 ∙ sym (reads.1 bytes refl)))

link_held : (l : Laying) (x : VolumeRecord) (h : Header) (to behind : ℕ → Option ℕ) (o g : File) (k : ℕ) → IsLayerOf x h o → IsLayerOf x h g → StandAtPlaces l x h to o
    → k < sectors_of x → Linked h x.capacity to behind (on_medium o) (on_medium g) → IsHeld l k (own_in x o k) (own_in x g k)
link_held l x h to behind o g k old new stand lt linked = go (to (cluster_of h k)) refl
  where
    go : (t : Option ℕ) → to (cluster_of h k) ≡ t → IsHeld l k (own_in x o k) (own_in x g k)
    go None none = inl (changes.others_held x h to behind o g k old new linked none)
    go (Some place) some =
        subst (λ (b : Option (List ℕ)). IsHeld l k (own_in x o k) b) (sym (changes.linked_held x h to behind o g k place old new linked lt (stand.begins (cluster_of h k) place some) some))
        (stands_held l k (own_in x o k) (sector_in o.size o.stable (sector_at h place k)) (stand.there k place lt some))

pub links_written : (l : Laying) (x : VolumeRecord) (h : Header) (to behind : ℕ → Option ℕ) (f g : File) → l.records l.volume ≡ Some x → AreLayers x h f → AreLayers x h g
    → OnEach f (StandAtPlaces l x h to) → ComesBy (λ from now. SameContent h x.capacity from now ⊎ Linked h x.capacity to behind from now) f g → FileWritten l f g
links_written l x h to behind f g is old new stand comes g' out =
    let from = comes g' out in
    (from.0, from.1, held_by l x from.0 g' is (λ k lt. go from.0 from.1 k lt from.2))
  where
    go : (o : File) → IsFileOutcome f o → (k : ℕ) → k < sectors_of x → SameContent h x.capacity (on_medium o) (on_medium g') ⊎ Linked h x.capacity to behind (on_medium o) (on_medium g')
        → IsHeld l k (own_in x o k) (own_in x g' k)
    go o was k lt (inl same) = inl (bytes_hold x h h o g' k (old o was) (new g' out) (λ i at. same.bytes i))
    go o was k lt (inr linked) = link_held l x h to behind o g' k (old o was) (new g' out) (stand o was) lt linked

pub part_held : (l : Laying) (x : VolumeRecord) (h : Header) (f : File) (k place : ℕ) → IsLayerOf x h f → k < sectors_of x → entry_at (layer h (on_medium f)) (cluster_of h k) ≡ Data place
    → sector_in f.size f.stable (sector_at h place k) ≡ sector_in_part l.part k → own_in x f k ≡ Some (sector_in_part l.part k)
part_held l x h f k place is lt entry same = data_held x h f k place is lt entry ∙ ap (λ (b : List ℕ). Some b) same

still_held : (l : Laying) (k : ℕ) (old new : Option (List ℕ)) → old ≡ Some (sector_in_part l.part k) → IsHeld l k old new → new ≡ Some (sector_in_part l.part k)
still_held l k old new was (inl same) = same ∙ was
still_held l k old new was (inr (inl part)) = part.1
still_held l k old new was (inr (inr none)) = let e = none.0 in absurd cc

pub stay_held : (l : Laying) (x : VolumeRecord) (among : ℕ → Bool) (f g : File) → l.records l.volume ≡ Some x → FileWritten l f g → OnEach f (HoldsIn l x among) → OnEach g (HoldsIn l x among)
stay_held l x among f g is written holds g' out k in_it inside lt =
    let from = written g' out in
    still_held l k (own_in x from.0 k) (own_in x g' k) (holds from.0 from.1 k in_it inside lt) (from.2 x is k lt)

own_here : (l : Laying) (x : VolumeRecord) (g : File) (O : Folder) (k : ℕ) → l.records l.volume ≡ Some x → O (Volume l.volume) ≡ Some g → own l.records (volumes_of O) l.volume k ≡ own_in x g k
own_here l x g O k is there = ap (λ (r : Option VolumeRecord). own_by r (O (Volume l.volume)) k) is ∙ ap (λ (o : Option File). own_by (Some x) o k) there

pub part_everywhere : (l : Laying) (x : VolumeRecord) (among : ℕ → Bool) (f : File) (F : Folder) → l.records l.volume ≡ Some x → F (Volume l.volume) ≡ Some f → ((k : ℕ) → IsInPart l.part k → among k ≡ true)
    → OnEach f (HoldsIn l x among) → OnEachFolder F (λ O. HoldsPart l (volumes_of O))
part_everywhere l x among f F is there all holds O out k inside sector =
    let now = some_outcome (F (Volume l.volume)) (O (Volume l.volume)) f there (out (Volume l.volume)) in
    let lt = subst (λ (z : VolumeRecord). k < sectors_of z) (one_record l sector.0 x sector.1 is) sector.2 in
    own_here l x now.0 O k is now.1 ∙ holds now.0 now.2 k (all k inside) inside lt
