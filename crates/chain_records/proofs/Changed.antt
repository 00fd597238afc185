-- A list of volumes in which one record is changed.
use Rattle.std.proofs.Common.{◌≡◌, ℕ, zero, suc, ◌+◌, ◌<◌, Bool, true, false, List, [], ◌∷◌, length, get_or, drop, Option, Some, None, refl, sym, ap, ◌∙◌, subst, arith}
use Rattle.std.specs.Prelude.{if◌then◌else◌, slice_get, slice_set}
use Rattle.std.specs.Option.{option_map}
use Rattle.sd_names.specs.declared.id.Id.{Id}
use Rattle.shared_disk.specs.Places.{id_is}
use Rattle.shared_disk.proofs.Places.{id_is-same}
use Rattle.volume_meta.specs.declared.record.VolumeRecord.{VolumeRecord}
use Rattle.chain_records.specs.declared.volume.Volume.{Volume}
use Rattle.chain_records.specs.Records.{files_of, ids_of, records_in}
use Rattle.chain_records.specs.Rewriting.{IsAt, changed, with_meta}
use Rattle.chain_records.proofs.Lists.{rest_is}

-- ---- the place of a volume

pub at_some : (xs : List Volume) (v : Id) (i : ℕ) → IsAt xs v i → (x : Volume) × (slice_get xs i ≡ Some x) × (x.id ≡ v)
at_some [] v i at = absurd at
at_some (x ∷ xs) v zero at = (x, refl, at)
at_some (x ∷ xs) v (suc i) at = at_some xs v i at.1

pub at_here : (xs : List Volume) (i : ℕ) (x : Volume) (v : Id) → i < length xs → x ≡ get_or xs i x → ((j : ℕ) → IsAt (drop i xs) v j → IsAt xs v (i + j)) → x.id ≡ v → IsAt xs v i
at_here xs i x v lt is whole e =
    let same : i + 0 ≡ i = omega arith in
    subst (λ (n : ℕ). IsAt xs v n) same (whole 0 (subst (λ (ys : List Volume). IsAt ys v 0) (sym (rest_is xs i x lt is)) e))

pub at_later : (xs : List Volume) (i : ℕ) (x : Volume) (v : Id) (j : ℕ) → i < length xs → x ≡ get_or xs i x → ((j : ℕ) → IsAt (drop i xs) v j → IsAt xs v (i + j)) → (x.id ≡ v → ⊥)
    → IsAt (drop (i + 1) xs) v j → IsAt xs v (i + 1 + j)
at_later xs i x v j lt is whole other at =
    let same : i + suc j ≡ i + 1 + j = omega arith in
    subst (λ (n : ℕ). IsAt xs v n) same (whole (suc j) (subst (λ (ys : List Volume). IsAt ys v (suc j)) (sym (rest_is xs i x lt is)) (other, at)))

-- ---- its record changed

pub same_ids : (xs : List Volume) (i : ℕ) (x : Volume) (f : VolumeRecord → VolumeRecord) → slice_get xs i ≡ Some x → ids_of (slice_set xs i (with_meta f x)) ≡ ids_of xs
same_ids [] i x f e = refl
same_ids (z ∷ zs) zero x f e = let same : x ≡ z = cc in ap (λ (y : Volume). y.id ∷ ids_of zs) same
same_ids (z ∷ zs) (suc i) x f e = ap (λ (vs : List Id). z.id ∷ vs) (same_ids zs i x f e)

pub same_files : (xs : List Volume) (i : ℕ) (x : Volume) (f : VolumeRecord → VolumeRecord) → slice_get xs i ≡ Some x → files_of (slice_set xs i (with_meta f x)) ≡ files_of xs
same_files [] i x f e = refl
same_files (z ∷ zs) zero x f e = let same : x ≡ z = cc in ap (λ (y : Volume). y.has_file ∷ files_of zs) same
same_files (z ∷ zs) (suc i) x f e = ap (λ (vs : List Bool). z.has_file ∷ vs) (same_files zs i x f e)

record_here : (z : Volume) (f : VolumeRecord → VolumeRecord) (o : Option VolumeRecord) (u : Id)
    → (if id_is z.id u then Some (f z.meta) else o)
    ≡ (if id_is z.id u then option_map f (if id_is z.id u then Some z.meta else o) else (if id_is z.id u then Some z.meta else o))
record_here z f o u = go (id_is z.id u)
  where
    go : (b : Bool) → (if b then Some (f z.meta) else o) ≡ (if b then option_map f (if b then Some z.meta else o) else (if b then Some z.meta else o))
    go true = refl
    go false = refl

record_later : (z : Volume) (v u : Id) (f : VolumeRecord → VolumeRecord) (o a : Option VolumeRecord) → (z.id ≡ v → ⊥) → a ≡ (if id_is v u then option_map f o else o)
    → (if id_is z.id u then Some z.meta else a) ≡ (if id_is v u then option_map f (if id_is z.id u then Some z.meta else o) else (if id_is z.id u then Some z.meta else o))
record_later z v u f o a other e = go (id_is z.id u) refl (id_is v u) refl e
  where
    go : (b : Bool) → id_is z.id u ≡ b → (d : Bool) → id_is v u ≡ d → a ≡ (if d then option_map f o else o)
        → (if b then Some z.meta else a) ≡ (if d then option_map f (if b then Some z.meta else o) else (if b then Some z.meta else o))
    go true s true t g = absurd (other (id_is-same z.id u s ∙ sym (id_is-same v u t)))
    go true s false t g = refl
    go false s true t g = g
    go false s false t g = g

pub one_changed : (xs : List Volume) (v : Id) (i : ℕ) (x : Volume) (f : VolumeRecord → VolumeRecord) → IsAt xs v i → slice_get xs i ≡ Some x
    → (u : Id) → records_in (slice_set xs i (with_meta f x)) u ≡ changed v f (records_in xs) u
one_changed [] v i x f at e u = absurd at
one_changed (z ∷ zs) v zero x f at e u =
    let same : x ≡ z = cc in
    ap (λ (y : Volume). records_in (with_meta f y ∷ zs) u) same
    ∙ record_here z f (records_in zs u) u ∙ ap (λ (w : Id). changed w f (records_in (z ∷ zs)) u) at
one_changed (z ∷ zs) v (suc i) x f at e u =
    record_later z v u f (records_in zs u) (records_in (slice_set zs i (with_meta f x)) u) at.0 (one_changed zs v i x f at.1 e u)

none_changed : (o : Option VolumeRecord) (f : VolumeRecord → VolumeRecord) (b : Bool) → (b ≡ true → o ≡ None) → o ≡ (if b then option_map f o else o)
none_changed o f false none = refl
none_changed o f true none = let e = none refl in e ∙ sym (ap (λ (z : Option VolumeRecord). option_map f z) e)

pub absent_unchanged : (xs : List Volume) (v : Id) (f : VolumeRecord → VolumeRecord) → records_in xs v ≡ None → (u : Id) → records_in xs u ≡ changed v f (records_in xs) u
absent_unchanged xs v f none u =
    none_changed (records_in xs u) f (id_is v u) (λ t. subst (λ (w : Id). records_in xs w ≡ None) (id_is-same v u t) none)
