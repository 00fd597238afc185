-- The pool with one sector freed that was held for a task, and what stands of it.
use Rattle.std.proofs.Common.{◌≡◌, ◌≢◌, ◌⊎◌, ℕ, ◌<◌, Bool, true, if◌then◌else◌, refl, sym, ap, subst, ◌∙◌, inl, inr, eq-eqb, arith}
use Rattle.std.specs.Prelude.{MatchBool}
use Rattle.sd_names.specs.UpSet.{Hosts}
use Rattle.sd_names.specs.declared.id.Id.{Id}
use Rattle.shared_disk.proofs.Places.{id_is-itself}
use Rattle.lease_area.specs.Move.{IsFreed, IsTaken, LeaseMove, RoleMove, TaskMove, freed}
use Rattle.lease_area.specs.declared.sector.Kind.TheVariants as kind
use Rattle.lease_area.specs.declared.sector.LeaseRecord.{LeaseRecord}
use Rattle.lease_area.specs.declared.sector.Sector.{Sector}
use Rattle.lease_area.specs.declared.sector.Sector.TheVariants.{Lease}
use Rattle.chain_model.proofs.Settled.{is_one}
use Rattle.pool_model.specs.Leases.{Holds, IsNamed, Leads, NamesAt}
use Rattle.pool_model.specs.Owned.{OwnedPool, OwnedSector}
use Rattle.pool_model.specs.Pool.{Pool, at_number, put_sector}
use Rattle.pool_model.specs.Rules.{again, here, spent}
use Rattle.pool_model.proofs.Roles.{id_apart, past_first}
use Rattle.task_settling.proofs.Emptying.{differs}
use Rattle.task_settling.proofs.Owned.{number_is}
use Rattle.sector_freeing.specs.Stepped.{FreesOnly, Passes}

one_lease : (s : Sector) (a b : LeaseRecord) → s ≡ Lease a → s ≡ Lease b → a ≡ b
one_lease s a b e f = cc

-- the pool with this sector free
abbrev pub liberated : Pool → Id → ℕ → LeaseRecord → Pool
liberated p sd k r = put_sector p sd k (Lease (freed r))

module _ (p : Pool) (sd i : Id) (k : ℕ) (r : LeaseRecord) (names : NamesAt p sd i k r) where
  abbrev q : Pool
  q = liberated p sd k r

  pub other_sectors : (a : Id) → a ≢ sd → q.sector a ≡ p.sector a
  other_sectors a apart = ap (λ (b : Bool). if b then at_number (p.sector sd) k (Lease (freed r)) else p.sector a) (id_apart a sd apart)

  pub here_sectors : q.sector sd ≡ at_number (p.sector sd) k (Lease (freed r))
  here_sectors = ap (λ (b : Bool). if b then at_number (p.sector sd) k (Lease (freed r)) else p.sector sd) (id_is-itself sd)

  pub slot_now : q.sector sd k ≡ Lease (freed r)
  slot_now = ap (λ (f : ℕ → Sector). f k) here_sectors ∙ ap (λ (b : Bool). if b then Lease (freed r) else p.sector sd k) (eq-eqb k k refl)

  pub slot_same : (a : Id) (j : ℕ) → ((a ≡ sd) → (j ≡ k) → ⊥) → q.sector a j ≡ p.sector a j
  slot_same a j other = go (is_one a sd)
    where
      go : (a ≡ sd) ⊎ (a ≢ sd) → q.sector a j ≡ p.sector a j
      go (inr apart) = ap (λ (f : ℕ → Sector). f j) (other_sectors a apart)
      go (inl same) = subst (λ (b : Id). q.sector b j ≡ p.sector b j) (sym same)
          (ap (λ (f : ℕ → Sector). f j) here_sectors ∙ ap (λ (b : Bool). if b then Lease (freed r) else p.sector sd j) (differs j k (other same)))

  -- one sector after the other: it is this one, or as it was
  pub by_slot : (P : Id → ℕ → Type 0) (a : Id) (j : ℕ) → P sd k → (((a ≡ sd) → (j ≡ k) → ⊥) → P a j) → P a j
  by_slot P a j it other = go (is_one a sd) (number_is j k)
    where
      go : (a ≡ sd) ⊎ (a ≢ sd) → (j ≡ k) ⊎ (j ≢ k) → P a j
      go (inr unlike) one = other (λ same _. unlike same)
      go (inl same) (inr unlike) = other (λ _ alike. unlike alike)
      go (inl same) (inl alike) = subst (λ (b : Id). P b j) (sym same) (subst (λ (n : ℕ). P sd n) (sym alike) it)

  -- ---- names

  here_named : NamesAt q sd i k (freed r)
  here_named = record { slot = names.slot; lease = slot_now; image = names.image }

  pub still_named : IsNamed q sd i
  still_named = (k, (freed r, here_named))

  -- a lease stood there, of the same image
  pub lease_was : (a : Id) (j : ℕ) (s : LeaseRecord) → q.sector a j ≡ Lease s → (t : LeaseRecord) × ((p.sector a j ≡ Lease t) × (t.image ≡ s.image))
  lease_was a j = by_slot (λ (b : Id) (n : ℕ). (s : LeaseRecord) → q.sector b n ≡ Lease s → (t : LeaseRecord) × ((p.sector b n ≡ Lease t) × (t.image ≡ s.image))) a j
      (λ s is. (r, (names.lease, ap (λ (l : LeaseRecord). l.image) (one_lease (q.sector sd k) (freed r) s slot_now is))))
      (λ other s is. (s, (sym (slot_same a j other) ∙ is, refl)))

  -- another image's lease is as it was
  not_it : (a j : Id) (n : ℕ) (s : LeaseRecord) → ((a ≡ sd) → (j ≡ i) → ⊥) → NamesAt p a j n s → (a ≡ sd) → (n ≡ k) → ⊥
  not_it a j n s other x same at =
      other same (sym x.image ∙ ap (λ (l : LeaseRecord). l.image)
      (one_lease (p.sector sd k) s r (subst (λ (m : ℕ). p.sector sd m ≡ Lease s) at (subst (λ (b : Id). p.sector b n ≡ Lease s) same x.lease)) names.lease) ∙ names.image)

  pub named_other : (a j : Id) → ((a ≡ sd) → (j ≡ i) → ⊥) → (n : ℕ) (s : LeaseRecord) → NamesAt p a j n s → NamesAt q a j n s
  named_other a j other n s x = record { slot = x.slot; lease = slot_same a n (not_it a j n s other x) ∙ x.lease; image = x.image }

  pub was_named : (a j : Id) → ((a ≡ sd) → (j ≡ i) → ⊥) → (n : ℕ) (s : LeaseRecord) → NamesAt q a j n s → NamesAt p a j n s
  was_named a j other n s x = record { slot = x.slot; lease = sym (slot_same a n apart) ∙ x.lease; image = x.image }
    where
      apart : (a ≡ sd) → (n ≡ k) → ⊥
      apart same at = other same
          (sym x.image ∙ ap (λ (l : LeaseRecord). l.image)
          (one_lease (q.sector sd k) s (freed r) (subst (λ (m : ℕ). q.sector sd m ≡ Lease s) at (subst (λ (b : Id). q.sector b n ≡ Lease s) same x.lease)) slot_now) ∙ names.image)

  -- whatever is held for a task was so
  pub task_was : (a : Id) (j : ℕ) (s : LeaseRecord) → q.sector a j ≡ Lease s → s.kind ≡ kind.Task → ((a ≡ sd) → (j ≡ k) → ⊥) × (p.sector a j ≡ Lease s)
  task_was a j s is held = (apart, sym (slot_same a j apart) ∙ is)
    where
      free_or_task : kind.Free ≡ kind.Task → ⊥
      free_or_task e = cc

      apart : (a ≡ sd) → (j ≡ k) → ⊥
      apart same at = free_or_task
          (ap (λ (l : LeaseRecord). l.kind)
          (one_lease (q.sector sd k) (freed r) s slot_now (subst (λ (n : ℕ). q.sector sd n ≡ Lease s) at (subst (λ (b : Id). q.sector b j ≡ Lease s) same is))) ∙ held)

  -- ---- the role stays

  pub role_stays : (m : Id) → q.sector m 0 ≡ p.sector m 0
  role_stays m = slot_same m 0 (λ _ at. first k at names.slot.low)
    where
      first : (k : ℕ) → 0 ≡ k → 0 < k → ⊥
      first k at low = omega (arith, at, low)

  pub leads_stay : (h : ℕ) → Leads p h → Leads q h
  leads_stay h (m, (s, master, sector, owner)) = (m, (s, master, role_stays m ∙ sector, owner))

  pub holds_stay : (a j : Id) → ((a ≡ sd) → (j ≡ i) → ⊥) → (h : ℕ) → Holds p h a j → Holds q h a j
  holds_stay a j other h (inl (n, (s, x, is, owner))) = inl (n, (s, named_other a j other n s x, is, owner))
  holds_stay a j other h (inr (lead, (n, (s, x, is)))) = inr (leads_stay h lead, (n, (s, named_other a j other n s x, is)))

  -- ---- the machine

  module _ (held : r.kind ≡ kind.Task) where
    pub liberated_passes : Passes p q
    liberated_passes = record {
      stays = λ c ms n. again (sd, (i, (k, (r, names, held, refl, refl)))) here;
      ends = λ nothing c ms n. again (sd, (i, (k, (r, names, held, refl, refl)))) (spent nothing here);
    }

    pub frees_only : (a : Id) (j : ℕ) → FreesOnly sd a j (p.sector a j) (q.sector a j)
    frees_only a j = by_slot (λ (b : Id) (n : ℕ). FreesOnly sd b n (p.sector b n) (q.sector b n)) a j (inr (refl, (names.slot, (r, (names.lease, (held, slot_now)))))) (λ other. inl (slot_same a j other))

    -- the manager may free the sector
    pub free_move : (up : Hosts) (h : ℕ) → LeaseMove up h true k (p.sector sd k) (Lease (freed r))
    free_move up h = subst (λ (b : Bool). MatchBool b
        (RoleMove up h (p.sector sd k) (Lease (freed r)))
        (IsTaken up h kind.Guest (p.sector sd k) (Lease (freed r))
        ⊎ (IsFreed h kind.Guest (p.sector sd k) (Lease (freed r)) ⊎ ((true ≡ true) × TaskMove up h (p.sector sd k) (Lease (freed r))))))
        (sym (past_first k names.slot)) (inr (inr (refl, inr (inr (r, names.lease, held, inl refl)))))

    pub liberated_changed : (up : Hosts) (h : ℕ) → Leads p h → OwnedPool h up p q
    liberated_changed up h lead = record {
      sectors = λ a j. by_slot (λ (b : Id) (n : ℕ). OwnedSector h up p b n (q.sector b n)) a j
          (subst (λ (s : Sector). OwnedSector h up p sd k s) (sym slot_now) (inr (true, ((λ _. lead), free_move up h)))) (λ other. inl (slot_same a j other));
      tasks = inl (λ t. refl);
      master = inl refl;
      domains = inl (λ a. refl);
      lists = λ a x listed. inl (x, listed);
      texts = λ a some. some;
      boxes = λ side a g w among. inl among;
      images = λ a j. inl refl;
    }
