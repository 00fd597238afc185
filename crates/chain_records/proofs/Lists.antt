-- Volumes of a list, and their records.
use Rattle.std.proofs.Common.{◌≡◌, ◌⊎◌, ℕ, ◌+◌, ◌<◌, ◌≤◌, Bool, true, false, List, [], ◌∷◌, length, get_or, drop, Option, Some, refl, sym, ap, ◌∙◌, subst, inl, inr, add-one, arith}
use Rattle.std.proofs.Math.Seq.{drop-cons}
use Rattle.std.proofs.lemmas.List.{drop_all}
use Rattle.std.specs.Prelude.{if◌then◌else◌}
use Rattle.std.specs.List.{Contains}
use Rattle.std.proofs.lemmas.Bool.{false≢true}
use Rattle.sd_names.specs.declared.id.Id.{Id}
use Rattle.shared_disk.specs.Places.{id_is}
use Rattle.shared_disk.proofs.Outcomes.{contains_here, contains_more, nothing_in, cons_cases}
use Rattle.shared_disk.proofs.Places.{id_is-itself, id_is-same}
use Rattle.volume_meta.specs.declared.record.VolumeRecord.{VolumeRecord}
use Rattle.chain_records.specs.declared.volume.Volume.{Volume}
use Rattle.chain_records.specs.Records.{ids_of, records_in}

-- the rest of a list from an element on
pub rest_is : {A : Type 0} (xs : List A) (i : ℕ) (x : A) → i < length xs → x ≡ get_or xs i x → drop i xs ≡ x ∷ drop (i + 1) xs
rest_is xs i x lt e = drop-cons xs i x lt ∙ (λ j. sym e j ∷ drop (sym (add-one i) j) xs)

-- a volume with a record is one of the list
pub record_among : (xs : List Volume) (v : Id) (x : VolumeRecord) → records_in xs v ≡ Some x → Contains (ids_of xs) v
record_among [] v x e = absurd cc
record_among (y ∷ ys) v x e = go (id_is y.id v) refl e (record_among ys v x)
  where
    go : (b : Bool) → id_is y.id v ≡ b → (if b then Some y.meta else records_in ys v) ≡ Some x → (records_in ys v ≡ Some x → Contains (ids_of ys) v)
        → Contains (ids_of (y ∷ ys)) v
    go true t e more = subst (λ (z : Id). Contains (ids_of (y ∷ ys)) z) (id_is-same y.id v t) (contains_here y.id (ids_of ys))
    go false t e more = contains_more y.id v (ids_of ys) (more e)

-- and each volume of the list has one
pub some_record : (xs : List Volume) (v : Id) → Contains (ids_of xs) v → (x : VolumeRecord) × (records_in xs v ≡ Some x)
some_record [] v h = absurd (nothing_in v h)
some_record (y ∷ ys) v h = go (id_is y.id v) refl (cons_cases y.id v (ids_of ys) h) (some_record ys v)
  where
    go : (b : Bool) → id_is y.id v ≡ b → (y.id ≡ v) ⊎ Contains (ids_of ys) v → (Contains (ids_of ys) v → (x : VolumeRecord) × (records_in ys v ≡ Some x))
        → (x : VolumeRecord) × ((if b then Some y.meta else records_in ys v) ≡ Some x)
    go true t h more = (y.meta, refl)
    go false t (inl e) more = absurd (false≢true (sym t ∙ subst (λ (z : Id). id_is y.id z ≡ true) e (id_is-itself y.id)))
    go false t (inr g) more = more g

pub length_ids : (xs : List Volume) → length (ids_of xs) ≡ length xs
length_ids [] = refl
length_ids (x ∷ xs) = omega (arith, length_ids xs)

-- no record of a volume is another one's
pub record_step : (x : Volume) (v : Id) (o : Option VolumeRecord) → (x.id ≡ v → ⊥) → (if id_is x.id v then Some x.meta else o) ≡ o
record_step x v o other = go (id_is x.id v) refl
  where
    go : (b : Bool) → id_is x.id v ≡ b → (if b then Some x.meta else o) ≡ o
    go true t = absurd (other (id_is-same x.id v t))
    go false t = refl

pub record_found : (x : Volume) (v : Id) (o : Option VolumeRecord) → x.id ≡ v → (if id_is x.id v then Some x.meta else o) ≡ Some x.meta
record_found x v o e = let is : id_is x.id v ≡ true = subst (λ (z : Id). id_is x.id z ≡ true) e (id_is-itself x.id) in rw is refl

-- ---- looking for a volume, from the front of the list on

pub look_found : (xs : List Volume) (i : ℕ) (x : Volume) (v : Id) → i < length xs → x ≡ get_or xs i x → records_in (drop i xs) v ≡ records_in xs v
    → x.id ≡ v → Some x.meta ≡ records_in xs v
look_found xs i x v lt is same e =
    sym (sym same ∙ ap (λ (ys : List Volume). records_in ys v) (rest_is xs i x lt is) ∙ record_found x v (records_in (drop (i + 1) xs) v) e)

pub look_on : (xs : List Volume) (i : ℕ) (x : Volume) (v : Id) → i < length xs → x ≡ get_or xs i x → records_in (drop i xs) v ≡ records_in xs v
    → (x.id ≡ v → ⊥)
    → records_in (drop (i + 1) xs) v ≡ records_in xs v
look_on xs i x v lt is same other =
    sym (record_step x v (records_in (drop (i + 1) xs) v) other) ∙ ap (λ (ys : List Volume). records_in ys v) (sym (rest_is xs i x lt is)) ∙ same

-- ---- what holds of each volume of a list

abbrev pub AllOf : (Id → Type 0) → List Volume → Type 0
AllOf P xs = (v : Id) → Contains (ids_of xs) v → P v

all_first : (P : Id → Type 0) (x : Volume) (xs : List Volume) → P x.id → AllOf P xs → AllOf P (x ∷ xs)
all_first P x xs here more v h = go (cons_cases x.id v (ids_of xs) h)
  where
    go : (x.id ≡ v) ⊎ Contains (ids_of xs) v → P v
    go (inl e) = subst P e here
    go (inr g) = more v g

pub all_on : (P : Id → Type 0) (xs : List Volume) (i : ℕ) (x : Volume) → i < length xs → x ≡ get_or xs i x → (AllOf P (drop i xs) → AllOf P xs) → P x.id
    → AllOf P (drop (i + 1) xs) → AllOf P xs
all_on P xs i x lt is whole here more = whole (subst (AllOf P) (sym (rest_is xs i x lt is)) (all_first P x (drop (i + 1) xs) here more))

pub all_end : (P : Id → Type 0) (xs : List Volume) (i : ℕ) → length xs ≤ i → (AllOf P (drop i xs) → AllOf P xs) → AllOf P xs
all_end P xs i le whole = whole (subst (AllOf P) (sym (drop_all i xs le)) (λ v h. absurd (nothing_in v h)))
