-- What the volumes of an image hold while a part is laid over one of them, sector by sector.
use Rattle.std.proofs.Common.{◌≡◌, ◌⊎◌, ℕ, ◌+◌, ◌<◌, ◌≤◌, Bool, true, false, Option, Some, None, refl, sym, ap, ◌∙◌, subst, inl, inr, arith}
use Rattle.std.specs.Prelude.{◌≢◌}
use Rattle.std.proofs.lemmas.Bool.{cases_lt, false≢true}
use Rattle.sd_names.specs.declared.id.Id.{Id}
use Rattle.shared_disk.specs.Calls.{sectors_in}
use Rattle.shared_disk.specs.Content.{File}
use Rattle.shared_disk.specs.Places.{id_is}
use Rattle.shared_disk.proofs.Places.{id_is-itself, id_is-same}
use Rattle.volume_meta.specs.declared.record.VolumeRecord.{VolumeRecord}
use Rattle.chain_model.specs.Folder.{Volumes}
use Rattle.chain_model.specs.Records.{Records}
use Rattle.chain_model.specs.Flat.{IsSectorOf}
use Rattle.chain_model.specs.Own.{own, own_by, sectors_of}
use Rattle.chain_model.proofs.Held.{none_past_capacity}
use Rattle.chain_laws.specs.Laid.{IsInPart, Laying, Part, sector_in_part}
use Rattle.chain_laws.specs.Written.{IsWritten}

pub apart : (a b : Id) → id_is a b ≡ false → a ≢ b
apart a b t e = false≢true (sym t ∙ subst (λ (z : Id). id_is a z ≡ true) e (id_is-itself a))

pub in_cases : (p : Part) (k : ℕ) → IsInPart p k ⊎ (IsInPart p k → ⊥)
in_cases p k = go (cases_lt k p.at) (cases_lt k (p.at + sectors_in p.bytes))
  where
    go : (k < p.at) ⊎ (p.at ≤ k) → (k < p.at + sectors_in p.bytes) ⊎ (p.at + sectors_in p.bytes ≤ k) → IsInPart p k ⊎ (IsInPart p k → ⊥)
    go (inl lt) end = inr (λ h. omega (arith, lt, h.0))
    go (inr le) (inl lt) = inl (le, lt)
    go (inr le) (inr past) = inr (λ h. omega (arith, past, h.1))

none_by : (x : VolumeRecord) (o : Option File) (k : ℕ) → sectors_of x ≤ k → own_by (Some x) o k ≡ None
none_by x None k le = refl
none_by x (Some f) k le = none_past_capacity x f k le

-- a volume has the sector, or holds it in no files
sector_cases : (r : Records) (v : Id) (k : ℕ) → IsSectorOf r v k ⊎ ((z : Volumes) → own r z v k ≡ None)
sector_cases r v k = go (r v) refl
  where
    go : (o : Option VolumeRecord) → r v ≡ o → IsSectorOf r v k ⊎ ((z : Volumes) → own r z v k ≡ None)
    go None e = inr (λ z. ap (λ (o : Option VolumeRecord). own_by o (z.file v) k) e)
    go (Some x) e =
        elim (cases_lt k (sectors_of x)) [ inl lt ↦ inl (x, e, lt) | inr le ↦ inr (λ z. ap (λ (o : Option VolumeRecord). own_by o (z.file v) k) e ∙ none_by x (z.file v) k le) ]

-- The volume holds the sector as before, or it has the sector and holds what the part has, or what it read.
abbrev pub HeldCase : Laying → Volumes → Volumes → ℕ → Type 0
HeldCase l x y k =
    (own l.records y l.volume k ≡ own l.records x l.volume k)
    ⊎ (IsSectorOf l.records l.volume k × ((IsInPart l.part k × (own l.records y l.volume k ≡ Some (sector_in_part l.part k)))
    ⊎ ((own l.records x l.volume k ≡ None) × (own l.records y l.volume k ≡ Some (l.reads k)))))

pub held_case : (l : Laying) (x y : Volumes) (k : ℕ) → IsWritten l x y → HeldCase l x y k
held_case l x y k written =
    elim (sector_cases l.records l.volume k) [ inl s ↦ elim (written.held k s) [ inl e ↦ inl e | inr h ↦ inr (s, h) ] | inr none ↦ inl (none y ∙ sym (none x)) ]

-- where the volume holds the sector as before, each does
pub all_same : (l : Laying) (x y : Volumes) (k : ℕ) → IsWritten l x y → own l.records y l.volume k ≡ own l.records x l.volume k → (w : Id) → own l.records y w k ≡ own l.records x w k
all_same l x y k written same w = go (id_is w l.volume) refl
  where
    go : (t : Bool) → id_is w l.volume ≡ t → own l.records y w k ≡ own l.records x w k
    go true t = subst (λ (z : Id). own l.records y z k ≡ own l.records x z k) (sym (id_is-same w l.volume t)) same
    go false t = written.others w (apart w l.volume t) k
