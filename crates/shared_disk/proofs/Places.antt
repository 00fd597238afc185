-- The tests on places answer exactly whether the two are equal.
use Rattle.std.proofs.Common.{◌≡◌, ◌≢◌, Bool, true, false, ◌&&◌, refl, ap, subst}
use Rattle.std.proofs.lemmas.Bool.Decides.{same_from_decides}
use Rattle.std.specs.Bool.{Decides}
use Rattle.std.proofs.lemmas.Bool.{false≢true}
use Rattle.std.proofs.lemmas.Slice.Eq.{bytes_eq-Decides}
use Rattle.sd_names.specs.declared.id.Id.{Id}
use Rattle.sd_names.specs.declared.place.Dir.{Dir}
use Rattle.sd_names.specs.declared.place.Dir.TheVariants.{Root, Domain, DomMd, Images, Image, Removed, Master, Tasks}
use Rattle.sd_names.specs.declared.place.Name.{Name}
use Rattle.sd_names.specs.declared.place.Name.TheVariants.{Metadata, MetadataNew, Leases, Inbox, Outbox, Volume, Meta, MetaNew, MetaVolatile, VolumeLease, Task, TaskNew}
use Rattle.sd_names.specs.declared.place.Place.{Place}
use Rattle.shared_disk.specs.Places.{id_is, dir_is, name_is, place_is}

both : (a b : Bool) → (a && b) ≡ true → (a ≡ true) × (b ≡ true)
both true b e = (refl, e)
both false b e = absurd (false≢true e)

and_true : (a b : Bool) → a ≡ true → b ≡ true → (a && b) ≡ true
and_true true b p q = q
and_true false b p q = absurd (false≢true p)

pub id_is-same : (a b : Id) → id_is a b ≡ true → a ≡ b
id_is-same a b e = let f = (bytes_eq-Decides a.0 b.0).0 e in λ i. record { 0 = f i }

pub id_is-itself : (a : Id) → id_is a a ≡ true
id_is-itself a = (bytes_eq-Decides a.0 a.0).1 refl

pub dir_is-same : (a b : Dir) → dir_is a b ≡ true → a ≡ b
dir_is-same Root Root e = refl
dir_is-same (Domain a) (Domain b) e = ap (λ (x : Id). Domain x) (id_is-same a b e)
dir_is-same (DomMd a) (DomMd b) e = ap (λ (x : Id). DomMd x) (id_is-same a b e)
dir_is-same (Images a) (Images b) e = ap (λ (x : Id). Images x) (id_is-same a b e)
dir_is-same (Image a c) (Image b d) e =
    let w = both _ _ e in let p = id_is-same a b w.0 in let q = id_is-same c d w.1 in λ i. Image (p i) (q i)
dir_is-same (Removed a c) (Removed b d) e =
    let w = both _ _ e in let p = id_is-same a b w.0 in let q = id_is-same c d w.1 in λ i. Removed (p i) (q i)
dir_is-same (Master a) (Master b) e = ap (λ (x : Id). Master x) (id_is-same a b e)
dir_is-same (Tasks a) (Tasks b) e = ap (λ (x : Id). Tasks x) (id_is-same a b e)
dir_is-same _ _ e = absurd (false≢true e)

pub dir_is-itself : (a : Dir) → dir_is a a ≡ true
dir_is-itself Root = refl
dir_is-itself (Domain a) = id_is-itself a
dir_is-itself (DomMd a) = id_is-itself a
dir_is-itself (Images a) = id_is-itself a
dir_is-itself (Image a b) = and_true _ _ (id_is-itself a) (id_is-itself b)
dir_is-itself (Removed a b) = and_true _ _ (id_is-itself a) (id_is-itself b)
dir_is-itself (Master a) = id_is-itself a
dir_is-itself (Tasks a) = id_is-itself a

pub name_is-same : (a b : Name) → name_is a b ≡ true → a ≡ b
name_is-same Metadata Metadata e = refl
name_is-same MetadataNew MetadataNew e = refl
name_is-same Leases Leases e = refl
name_is-same Inbox Inbox e = refl
name_is-same Outbox Outbox e = refl
name_is-same (Volume a) (Volume b) e = ap (λ (x : Id). Volume x) (id_is-same a b e)
name_is-same (Meta a) (Meta b) e = ap (λ (x : Id). Meta x) (id_is-same a b e)
name_is-same (MetaNew a) (MetaNew b) e = ap (λ (x : Id). MetaNew x) (id_is-same a b e)
name_is-same (MetaVolatile a) (MetaVolatile b) e = ap (λ (x : Id). MetaVolatile x) (id_is-same a b e)
name_is-same (VolumeLease a) (VolumeLease b) e = ap (λ (x : Id). VolumeLease x) (id_is-same a b e)
name_is-same (Task a) (Task b) e = ap (λ (x : Id). Task x) (id_is-same a b e)
name_is-same (TaskNew a) (TaskNew b) e = ap (λ (x : Id). TaskNew x) (id_is-same a b e)
name_is-same _ _ e = absurd (false≢true e)

pub name_is-itself : (a : Name) → name_is a a ≡ true
name_is-itself Metadata = refl
name_is-itself MetadataNew = refl
name_is-itself Leases = refl
name_is-itself Inbox = refl
name_is-itself Outbox = refl
name_is-itself (Volume a) = id_is-itself a
name_is-itself (Meta a) = id_is-itself a
name_is-itself (MetaNew a) = id_is-itself a
name_is-itself (MetaVolatile a) = id_is-itself a
name_is-itself (VolumeLease a) = id_is-itself a
name_is-itself (Task a) = id_is-itself a
name_is-itself (TaskNew a) = id_is-itself a

pub place_is-same : (p q : Place) → place_is p q ≡ true → p ≡ q
place_is-same p q e =
    let w = both _ _ e in let d = dir_is-same p.dir q.dir w.0 in let n = name_is-same p.name q.name w.1 in λ i. record { dir = d i; name = n i }

pub place_is-itself : (p : Place) → place_is p p ≡ true
place_is-itself p = and_true _ _ (dir_is-itself p.dir) (name_is-itself p.name)

pub dir_is-decides : (p q : Dir) → Decides (dir_is p q) (p ≡ q)
dir_is-decides p q = (dir_is-same p q, λ e. subst (λ (x : Dir). dir_is p x ≡ true) e (dir_is-itself p))

pub place_is-decides : (p q : Place) → Decides (place_is p q) (p ≡ q)
place_is-decides p q = (place_is-same p q, λ e. subst (λ (x : Place). place_is p x ≡ true) e (place_is-itself p))

-- a test that answers whether two are equal answers as these do
pub dir_is-from : (p q : Dir) (r : Bool) → Decides r (p ≡ q) → r ≡ dir_is p q
dir_is-from p q r h = same_from_decides r (dir_is p q) h (dir_is-decides p q)

pub place_is-from : (p q : Place) (r : Bool) → Decides r (p ≡ q) → r ≡ place_is p q
place_is-from p q r h = same_from_decides r (place_is p q) h (place_is-decides p q)

pub not_false : (b : Bool) → (b ≡ true → ⊥) → b ≡ false
not_false true h = absurd (h refl)
not_false false h = refl

pub place_is-apart : (p q : Place) → p ≢ q → place_is p q ≡ false
place_is-apart p q h = not_false (place_is p q) (λ e. h (place_is-same p q e))

pub dir_is-apart : (p q : Dir) → p ≢ q → dir_is p q ≡ false
dir_is-apart p q h = not_false (dir_is p q) (λ e. h (dir_is-same p q e))
