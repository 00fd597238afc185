-- A host goes down. Its leases stay in their sectors; of what it was writing each sector is old or new from now on.
-- Claim: so it is in the disk that its crash leaves.
use Rattle.std.specs.Prelude.{◌≡◌, ◌⊎◌, ℕ, ◌==◌, not, List, Contains, Option, Some, None}
use Rattle.std.specs.List.{filter}
use Rattle.sd_names.specs.declared.id.Id.{Id}
use Rattle.pool_model.specs.Leases.{IsGuest}
use Rattle.pool_model.specs.Pool.{Box, Image, Pool, Side, Writing}
use Rattle.pool_model.specs.Rules.{Chosen}

abbrev pub AlsoChosen : Option Image → Option Image → Type 0
AlsoChosen None None = Unit {0}
AlsoChosen None (Some n) = ⊥
AlsoChosen (Some m) None = ⊥
AlsoChosen (Some m) (Some n) = Chosen m n

-- an image of which the host was the guest, or was not
pub record DownImage (p : Pool) (h : ℕ) (sd i : Id) (m n : Option Image) : Type 0 where
  pub held : IsGuest p sd i h → AlsoChosen m n
  pub other : (IsGuest p sd i h → ⊥) → n ≡ m

-- this host wrote these bytes into the box's sector k, and had not ended
abbrev pub WroteTo : ℕ → Box → ℕ → List ℕ → Type 0
WroteTo h b k bytes = (w : Writing) × Contains b.writings w × (w.host ≡ h) × (bytes ≡ w.sector k)

pub record DownBox (h : ℕ) (b c : Box) : Type 0 where
  pub sectors : (k : ℕ) → (c.sector k ≡ b.sector k) ⊎ WroteTo h b k (c.sector k)
  pub writings : c.writings ≡ filter (λ w. not (w.host == h)) b.writings

pub record DownPool (h : ℕ) (p q : Pool) : Type 0 where
  pub master : q.master ≡ p.master
  pub domain : q.domain ≡ p.domain
  pub stray : q.stray ≡ p.stray
  pub shows : q.shows ≡ p.shows
  pub sector : q.sector ≡ p.sector
  pub task : q.task ≡ p.task
  pub history : q.history ≡ p.history
  pub image : (sd i : Id) → DownImage p h sd i (p.image sd i) (q.image sd i)
  pub box : (side : Side) (sd : Id) (g : ℕ) → DownBox h (p.box side sd g) (q.box side sd g)
