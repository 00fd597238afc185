-- The guest of an image is the only host that holds it.
use Rattle.std.proofs.Common.{◌≡◌, ℕ, ◌==◌, Bool, true, List, [], ◌∷◌, Option, Some, None, refl, sym, ap, subst, ◌∙◌, inl, inr}
use Rattle.std.specs.Prelude.{Contains, if◌then◌else◌}
use Rattle.std.proofs.lemmas.Bool.{eq-eqb}
use Rattle.sd_names.specs.UpSet.{Hosts}
use Rattle.sd_names.specs.declared.id.Id.{Id}
use Rattle.sd_names.specs.declared.place.Dir.TheVariants as dir
use Rattle.sd_names.specs.declared.place.Name.{Name}
use Rattle.shared_disk.specs.Content.{Content, File, Loose, unless_by, without}
use Rattle.shared_disk.specs.Crash.{IsAlone}
use Rattle.shared_disk.proofs.Outcomes.{contains_here, contains_more}
use Rattle.domain_meta.specs.declared.record.DomainRecord.{DomainRecord}
use Rattle.lease_area.specs.declared.sector.Kind.{Kind}
use Rattle.lease_area.specs.declared.sector.Kind.TheVariants.{Guest, Task}
use Rattle.lease_area.specs.declared.sector.LeaseRecord.{LeaseRecord}
use Rattle.lease_area.specs.declared.sector.Sector.{Sector}
use Rattle.lease_area.specs.declared.sector.Sector.TheVariants.{Lease}
use Rattle.chain_model.specs.Folder.{folder_of}
use Rattle.pool_model.specs.Leases.{Holds, IsGuest, NamesAt}
use Rattle.pool_model.specs.Pool.{Pool}
use Rattle.pool_model.specs.Standing.{IsVolumeName, Stands}
use Rattle.pool_model.proofs.OneDomain.{listed_here}

same_lease : (s : Sector) (a b : LeaseRecord) → s ≡ Lease a → s ≡ Lease b → a ≡ b
same_lease s a b e f = cc

-- two sectors that name one image are one, with one lease
one_lease : (up : Hosts) (d : Content) (p : Pool) (sd i : Id) (r : DomainRecord) (j k : ℕ) (a b : LeaseRecord) → Stands up d p → p.domain sd ≡ Some r
    → NamesAt p sd i j a → NamesAt p sd i k b → a ≡ b
one_lease up d p sd i r j k a b stands listed x y =
    let leases = (listed_here up d p sd r stands listed).leases in
    let same = leases.once j k a b x.slot y.slot x.lease y.lease (x.image ∙ sym y.image) in
    same_lease (p.sector sd k) a b (subst (λ (m : ℕ). p.sector sd m ≡ Lease a) same x.lease) y.lease

not_both : (k : Kind) → k ≡ Guest → k ≡ Task → ⊥
not_both k e f = cc

pub hold_alone : (up : Hosts) (d : Content) (p : Pool) (h g : ℕ) (sd i : Id) (r : DomainRecord) → Stands up d p → p.domain sd ≡ Some r
    → IsGuest p sd i g → Holds p h sd i → h ≡ g
hold_alone up d p h g sd i r stands listed (j, (a, x, kind, owner)) (inl (k, (b, y, their_kind, their_owner))) =
    sym their_owner ∙ ap (λ (l : LeaseRecord). l.owner) (sym (one_lease up d p sd i r j k a b stands listed x y)) ∙ owner
hold_alone up d p h g sd i r stands listed (j, (a, x, kind, owner)) (inr (lead, (k, (b, y, their_kind)))) =
    absurd (not_both a.kind kind (ap (λ (l : LeaseRecord). l.kind) (one_lease up d p sd i r j k a b stands listed x y) ∙ their_kind))

none_without : (g : ℕ) (ls : List Loose) → ((l : Loose) → Contains ls l → l.host ≡ g) → without g ls ≡ []
none_without g [] all = refl
none_without g (l ∷ ls) all =
    ap (λ (b : Bool). if b then without g ls else l ∷ without g ls) (itself l.host (all l (contains_here l ls)))
    ∙ none_without g ls (λ m among. all m (contains_more l m ls among))
  where
    itself : (h : ℕ) → h ≡ g → (h == g) ≡ true
    itself h e = eq-eqb h g e

none_fresh : (g : ℕ) (o : Option ℕ) → ((h : ℕ) → o ≡ Some h → h ≡ g) → unless_by g o ≡ None
none_fresh g None all = refl
none_fresh g (Some h) all = ap (λ (b : Bool). if b then None else Some h) (itself h (all h refl))
  where
    itself : (h : ℕ) → h ≡ g → (h == g) ≡ true
    itself h e = eq-eqb h g e

pub write_alone : (up : Hosts) (d : Content) (p : Pool) (g : ℕ) (sd i : Id) (r : DomainRecord) (n : Name) (f : File) → Stands up d p → p.domain sd ≡ Some r
    → IsGuest p sd i g → IsVolumeName n → folder_of (dir.Image sd i) d n ≡ Some f → IsAlone g f
write_alone up d p g sd i r n f stands listed guest is there =
    let held = (stands.image sd r listed i).held n f is (inl there) in
    record {
      loose = none_without g f.loose (λ l among. hold_alone up d p l.host g sd i r stands listed guest (held.loose l among));
      fresh = none_fresh g f.fresh (λ h made. hold_alone up d p h g sd i r stands listed guest (held.fresh h made));
    }
