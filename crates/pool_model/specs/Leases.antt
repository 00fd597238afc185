-- Who holds what in a pool.
use Rattle.std.specs.Prelude.{◌≡◌, ◌⊎◌, ℕ, ◌+◌, ◌==◌, if◌then◌else◌, Some}
use Rattle.sd_names.specs.declared.id.Id.{Id}
use Rattle.lease_area.specs.Record.{IsImageSlot}
use Rattle.lease_area.specs.declared.sector.Kind.TheVariants.{Guest, Task}
use Rattle.lease_area.specs.declared.sector.LeaseRecord.{LeaseRecord}
use Rattle.lease_area.specs.declared.sector.Sector.{Sector}
use Rattle.lease_area.specs.declared.sector.Sector.TheVariants.{Empty, Lease}
use Rattle.pool_model.specs.Pool.{History, Pool, at_id, put_sector}

-- the sector names the image
abbrev pub Names : Sector → Id → Type 0
Names Empty i = ⊥
Names (Lease r) i = r.image ≡ i

-- sector k, of 1 to 1,023, names the image, with this lease
pub record NamesAt (p : Pool) (sd i : Id) (k : ℕ) (r : LeaseRecord) : Type 0 where
  pub slot : IsImageSlot k
  pub lease : p.sector sd k ≡ Lease r
  pub image : r.image ≡ i

abbrev pub IsNamed : Pool → Id → Id → Type 0
IsNamed p sd i = (k : ℕ) × ((r : LeaseRecord) × NamesAt p sd i k r)

abbrev pub IsUnnamed : Pool → Id → Id → Type 0
IsUnnamed p sd i = (k : ℕ) (r : LeaseRecord) → NamesAt p sd i k r → ⊥

-- the host holds the image as its guest
abbrev pub IsGuest : Pool → Id → Id → ℕ → Type 0
IsGuest p sd i h = (k : ℕ) × ((r : LeaseRecord) × NamesAt p sd i k r × (r.kind ≡ Guest) × (r.owner ≡ h))

-- a task holds the image, whichever host began it
abbrev pub IsTasked : Pool → Id → Id → Type 0
IsTasked p sd i = (k : ℕ) × ((r : LeaseRecord) × NamesAt p sd i k r × (r.kind ≡ Task))

-- the host is the manager of the pool: sector 0 of the master names it
abbrev pub Leads : Pool → ℕ → Type 0
Leads p h = (m : Id) × ((r : LeaseRecord) × (p.master ≡ Some m) × (p.sector m 0 ≡ Lease r) × (r.owner ≡ h))

-- The host may change the image's files: its guest, or the manager where a task holds it.
abbrev pub Holds : Pool → ℕ → Id → Id → Type 0
Holds p h sd i = IsGuest p sd i h ⊎ (Leads p h × IsTasked p sd i)

-- ---- takes, which history counts

-- every host but this one has seen another host take the image's sector
abbrev pub taken_by_other : ℕ → History → Id → Id → History
taken_by_other h s sd i = record s {
  foreign = at_id s.foreign sd (at_id (s.foreign sd) i (λ g. if g == h then s.foreign sd i g else s.foreign sd i g + 1));
}

-- an image that had no sector has one
abbrev pub given_sector : History → Id → Id → History
given_sector s sd i = record s { named = at_id s.named sd (at_id (s.named sd) i (s.named sd i + 1)) }

-- the host has taken sector k of the image, which is now this
abbrev pub put_taken : ℕ → Pool → Id → Id → ℕ → Sector → Pool
put_taken h p sd i k s = record (put_sector p sd k s) { history = taken_by_other h p.history sd i }

-- the same of a sector that was empty
abbrev pub put_given : ℕ → Pool → Id → Id → ℕ → Sector → Pool
put_given h p sd i k s = record (put_sector p sd k s) { history = taken_by_other h (given_sector p.history sd i) sd i }
