-- One folder in which nothing is unsynced means one image.
use Rattle.std.proofs.Common.{◌≡◌, ℕ, ◌<◌, List, Option, Some, None, Result, Ok, Err, refl, sym, ap, subst, ◌∙◌, inl}
use Rattle.std.specs.Prelude.{Contains, option_and_then}
use Rattle.std.specs.Option.{option_map}
use Rattle.sd_names.specs.declared.fault.VolumeFault.{VolumeFault}
use Rattle.sd_names.specs.declared.id.Id.{Id}
use Rattle.sd_names.specs.declared.place.Name.{Name}
use Rattle.sd_names.specs.declared.refusal.Refusal.{Refusal}
use Rattle.shared_disk.specs.Content.{File}
use Rattle.shared_disk.specs.Crash.{IsAlso, IsFileOutcome, IsSettled}
use Rattle.volume_meta.specs.Read.{read_volume}
use Rattle.volume_meta.specs.declared.record.VolumeRecord.{VolumeRecord}
use Rattle.image_model.specs.Room.{Room}
use Rattle.chain_model.specs.Flat.{IsSectorOf, flat}
use Rattle.chain_model.specs.Folder.{Folder, IsFolderOutcome, Volumes}
use Rattle.chain_model.specs.Opening.{AreVolumes}
use Rattle.chain_model.specs.Own.{sectors_of}
use Rattle.chain_model.specs.Records.{Image as ImageIn, Records, record_in, records_of, stored_text, text_of}
use Rattle.chain_model.proofs.Chains.{one_below}
use Rattle.chain_model.proofs.Counting.{one_counts}
use Rattle.chain_model.proofs.Opened.{openable_without, text_there}
use Rattle.chain_model.proofs.Refusals.{one_fault}
use Rattle.pool_model.specs.ImageStands.{IsImage, IsVolume, OpensAs, SaysAs, VolumeAt, room_at, settled_record, torn_room}
use Rattle.pool_model.specs.Laws.{ReadsThrough}
use Rattle.pool_model.specs.Pool.{Image, Torn, Volume}
use Rattle.pool_model.specs.Reading.{MayHaveRoom}
use Rattle.pool_model.specs.Same.{AlsoSameVolume, IsSameImage, IsSameVolume}
use Rattle.pool_model.proofs.Flats.{volume_reads}

-- ---- a folder in which nothing is unsynced is an outcome of itself

itself : (f : File) → IsSettled f → IsFileOutcome f f
itself f settled = record { size = refl; sectors = λ k. inl refl; settled = settled }

also_itself : (o : Option File) → ((f : File) → o ≡ Some f → IsSettled f) → IsAlso IsFileOutcome o o
also_itself None all = tt
also_itself (Some f) all = itself f (all f refl)

pub own_outcome : (F : Folder) → ((n : Name) (f : File) → F n ≡ Some f → IsSettled f) → IsFolderOutcome F F
own_outcome F all n = also_itself (F n) (all n)

-- ---- what each volume's text says

abbrev Says : Type 0
Says = Result VolumeRecord VolumeFault

pub known : (i : ImageIn) (x : Volumes) (all : List Id) → AreVolumes x all → (v : Id) (y : VolumeRecord) → records_of i x v ≡ Some y → Contains all v
known i x all are v y e = are.all v (text_there (λ f. read_volume i.version i.domain i.id (stored_text f)) (x.text v) y e)

one_said : (r : Records) (all : List Id) (v : Id) (t : Option Says) (a b : Says) → ((w : Id) (y : VolumeRecord) → r w ≡ Some y → Contains all w)
    → SaysAs r v t a → SaysAs r v t b → b ≡ a
one_said r all v None a b is p q = absurd p
one_said r all v (Some (Err fault)) a b is p q = q ∙ sym p
one_said r all v (Some (Ok y)) a b is p q =
    q.2 ∙ ap (λ (up : Option Id). Ok (settled_record up y)) (one_counts r all v q.0 p.0 is q.1 p.1) ∙ sym p.2

-- ---- rooms

one_room : (m n : Image) (v : Id) (a b is : Option Room) → m.torn ≡ None → n.torn ≡ None → MayHaveRoom (torn_room m.torn v) a is
    → MayHaveRoom (torn_room n.torn v) b is → b ≡ a
one_room m n v a b is e f p q =
    sym (subst (λ (o : Option Torn). MayHaveRoom (torn_room o v) b is) f q) ∙ subst (λ (o : Option Torn). MayHaveRoom (torn_room o v) a is) e p

-- ---- faults

one_opens : (i : ImageIn) (x : Volumes) (m n : Image) (a b : Option Refusal) → OpensAs i x m a → OpensAs i x n b → b ≡ a
one_opens i x m n None None p q = refl
one_opens i x m n None (Some e) p q = absurd (openable_without i x p.reading p.below e p.opens q)
one_opens i x m n (Some e) None p q = absurd (openable_without i x q.reading q.below e q.opens p)
one_opens i x m n (Some e) (Some f) p q = ap (λ (c : Refusal). Some c) (one_fault i x f e q p)

-- the image's volumes are a list
pub volumes_listed : (i : ImageIn) (x : Volumes) (m : Image) (a : Option Refusal) → OpensAs i x m a → (all : List Id) × AreVolumes x all
volumes_listed i x m None p = (p.opens.volumes, p.opens.are)
volumes_listed i x m (Some e) p = (p.volumes, p.are)

-- ---- flat lists

same_capacity : (r : Records) (v : Id) (t : Option Says) (says : Says) (z : VolumeRecord) → SaysAs r v t says → says ≡ Ok z
    → (y : VolumeRecord) × (option_and_then record_in t ≡ Some y) × (sectors_of y ≡ sectors_of z)
same_capacity r v None says z p e = absurd p
same_capacity r v (Some (Err fault)) says z p e = absurd (none says p e)
  where
    none : (s : Says) → s ≡ Err fault → s ≡ Ok z → ⊥
    none s e f = cc
same_capacity r v (Some (Ok y)) says z p e = (y, refl, ap (λ (w : VolumeRecord). sectors_of w) (same says p.2 e))
  where
    same : (s : Says) → s ≡ Ok (settled_record p.0 y) → s ≡ Ok z → settled_record p.0 y ≡ z
    same s e f = cc

one_list_read : (i : ImageIn) (x : Volumes) (v : Id) (a b : ℕ → List ℕ) → ReadsThrough i x v a → ReadsThrough i x v b → (k : ℕ)
    → IsSectorOf (records_of i x) v k → b k ≡ a k
one_list_read i x v a b p q k within =
    sym (q.2 k within) ∙ ap (λ (vs : List Id). flat (records_of i x) x v vs k) (one_below (records_of i x) v q.0 p.0 q.1 p.1) ∙ p.2 k within

-- ---- the image

one_volume : (i : ImageIn) (x : Volumes) (m n : Image) (v : Id) (a b : Volume) → IsImage i x m → IsImage i x n → m.torn ≡ None → n.torn ≡ None
    → m.volume v ≡ Some a → n.volume v ≡ Some b → IsVolume i x m v a → IsVolume i x n v b → IsSameVolume m a b
one_volume i x m n v a b p q e f has other is so = record {
  says = says;
  length = so.length ∙ sym is.length;
  room = one_room m n v a.room b.room (room_at (records_of i x v) (x.file v)) e f is.room so.room;
  flat = λ z sound said legal k within.
      let at = same_capacity (records_of i x) v (text_of i x v) a.says z is.says said in
      one_list_read i x v a.flat b.flat (volume_reads i x m v a z p sound e has said legal)
      (volume_reads i x n v b z q (one_opens i x m n m.fault n.fault p.opens q.opens ∙ sound) f other (says ∙ said) legal)
      k (at.0, at.1, subst (λ (c : ℕ). k < c) (sym at.2) within);
}
  where
    says : b.says ≡ a.says
    says = let all = volumes_listed i x m m.fault p.opens in
        one_said (records_of i x) all.0 v (text_of i x v) a.says b.says (known i x all.0 all.1) is.says so.says

no_text : (i : ImageIn) (x : Volumes) (v : Id) (says : Says) → x.text v ≡ None → SaysAs (records_of i x) v (text_of i x v) says → ⊥
no_text i x v says e p = go (text_of i x v) (ap (λ (o : Option File). option_map (λ f. read_volume i.version i.domain i.id (stored_text f)) o) e) p
  where
    go : (t : Option Says) → t ≡ None → SaysAs (records_of i x) v t says → ⊥
    go None e p = p
    go (Some t) e p = absurd cc

volume_by : (i : ImageIn) (x : Volumes) (m n : Image) (v : Id) (a b : Option Volume) → IsImage i x m → IsImage i x n → m.torn ≡ None → n.torn ≡ None
    → m.volume v ≡ a → n.volume v ≡ b → VolumeAt i x m v a → VolumeAt i x n v b → AlsoSameVolume m a b
volume_by i x m n v None None p q e f has other is so = tt
volume_by i x m n v None (Some b) p q e f has other is so = no_text i x v b.says is so.says
volume_by i x m n v (Some a) None p q e f has other is so = no_text i x v a.says so is.says
volume_by i x m n v (Some a) (Some b) p q e f has other is so = one_volume i x m n v a b p q e f has other is so

pub one_image : (i : ImageIn) (x : Volumes) (m n : Image) → IsImage i x m → IsImage i x n → m.torn ≡ None → n.torn ≡ None → IsSameImage m n
one_image i x m n p q e f = record {
  fault = one_opens i x m n m.fault n.fault p.opens q.opens;
  torn = f ∙ sym e;
  volumes = λ v. volume_by i x m n v (m.volume v) (n.volume v) p q e f refl refl (p.volumes v) (q.volumes v);
}
