-- What a host knows while it takes the role stays true beside other hosts.
use Rattle.std.proofs.Common.{◌≡◌, ℕ, Option, Some, None, sym, ap, subst, ◌∙◌, inl, inr, ◌⊎◌}
use Rattle.sd_names.specs.UpSet.{Hosts}
use Rattle.sd_names.specs.declared.id.Id.{Id}
use Rattle.shared_disk.specs.Content.{Content}
use Rattle.domain_meta.specs.declared.record.DomainRecord.{DomainRecord}
use Rattle.lease_area.specs.declared.sector.LeaseRecord.{LeaseRecord}
use Rattle.lease_area.specs.declared.sector.Sector.{Sector}
use Rattle.lease_area.specs.declared.sector.Sector.TheVariants.{Lease}
use Rattle.spm_role.specs.Spm.{master_of, role_of}
use Rattle.spm_role.specs.Start.{domain_of, stage_of}
use Rattle.spm_role.specs.declared.spm.Spm.{Spm}
use Rattle.spm_role.specs.declared.start.Stage.{Stage}
use Rattle.spm_role.specs.declared.start.Stage.TheVariants.{Begun, Known, Listed, Seen}
use Rattle.pool_model.specs.Downs.{DownPool}
use Rattle.pool_model.specs.Leases.{Leads}
use Rattle.pool_model.specs.Owned.{OwnedSector}
use Rattle.pool_model.specs.Pool.{Pool}
use Rattle.pool_model.proofs.Stable.{role_sector}
use Rattle.role_taking.specs.Knows.{IsBehind, KnowsLed, KnowsManaged, KnowsSector, KnowsStage, KnowsTaking}
use Rattle.role_taking.specs.Laws.{IsBeside}
use Rattle.role_taking.specs.declared.taking.RoleTaking.{RoleTaking}
use Rattle.role_taking.specs.declared.taking.RoleTaking.TheVariants.{Starting, Taken}
use Rattle.role_taking.proofs.Sectors.{moves_behind}

no_master : (o : Option Id) (a : Id) → o ≡ None → o ≡ Some a → ⊥
no_master o a e f = cc

one_master : (o : Option Id) (a b : Id) → o ≡ Some a → o ≡ Some b → a ≡ b
one_master o a b e f = cc

one_record : (s : Sector) (a b : LeaseRecord) → s ≡ Lease a → s ≡ Lease b → a ≡ b
one_record s a b e f = cc

module _ (up : Hosts) (d : Content) (h g : ℕ) (p q : Pool) (beside : IsBeside up d h g p q) where
  master_stays : (sd : Id) → p.master ≡ Some sd → q.master ≡ Some sd
  master_stays sd is = go beside.owned.master
    where
      go : (q.master ≡ p.master) ⊎ (p.master ≡ None) → q.master ≡ Some sd
      go (inl same) = same ∙ is
      go (inr none) = absurd (no_master p.master sd none is)

  comes_still : (x : Sector) (sd : Id) → (p.sector sd 0 ≡ x) ⊎ IsBehind x (p.sector sd 0) → OwnedSector h up p sd 0 (q.sector sd 0)
      → (q.sector sd 0 ≡ x) ⊎ IsBehind x (q.sector sd 0)
  comes_still x sd comes (inl same) = subst (λ (s : Sector). (s ≡ x) ⊎ IsBehind x s) (sym same) comes
  comes_still x sd comes (inr (spm, (leads, move))) = inr (moves_behind up h x (p.sector sd 0) (q.sector sd 0) comes move)

  sector_stays : (x : Sector) (sd : Id) → KnowsSector x sd p → KnowsSector x sd q
  sector_stays x sd knows = record {
    master = master_stays sd knows.master;
    fits = knows.fits;
    role = knows.role;
    comes = comes_still x sd knows.comes (beside.owned.sectors sd 0);
  }

  stage_stays : (stage : Stage) (sd : Id) → KnowsStage stage sd p → KnowsStage stage sd q
  stage_stays Begun sd knows = tt
  stage_stays Known sd knows = master_stays sd knows
  stage_stays (Seen x) sd knows = sector_stays x sd knows
  stage_stays (Listed x pool) sd knows = sector_stays x sd knows

  led_stays : (spm : Spm) → KnowsLed g spm p → KnowsLed g spm q
  led_stays spm knows = record {
    master = master_stays (master_of spm) knows.master;
    lease = role_sector up d p q h g beside.stands beside.apart beside.owned beside.some beside.alive (master_of spm) (role_of spm) knows.lease knows.owner
        (beside.owned.sectors (master_of spm) 0) ∙ knows.lease;
    owner = knows.owner;
  }

  pub taking_stays : (t : RoleTaking) → KnowsTaking g t p → KnowsTaking g t q
  taking_stays (Starting s) knows = stage_stays (stage_of s) (domain_of s) knows
  taking_stays (Taken spm) knows = led_stays spm knows

  -- the other host isn't the manager
  not_leading : (spm : Spm) → KnowsLed g spm p → Leads p h → ⊥
  not_leading spm knows (m, (r, is, sector, owner)) =
      let here = subst (λ (i : Id). p.sector i 0 ≡ Lease r) (one_master p.master m (master_of spm) is knows.master) sector in
      beside.apart (sym knows.owner ∙ ap (λ (y : LeaseRecord). y.owner) (one_record (p.sector (master_of spm) 0) (role_of spm) r knows.lease here) ∙ owner)

  domains_stay : (spm : Spm) → KnowsLed g spm p → (sd : Id) → q.domain sd ≡ p.domain sd
  domains_stay spm knows = go beside.owned.domains
    where
      go : ((sd : Id) → q.domain sd ≡ p.domain sd) ⊎ (Leads p h ⊎ (p.master ≡ None)) → (sd : Id) → q.domain sd ≡ p.domain sd
      go (inl same) = same
      go (inr (inl leads)) = absurd (not_leading spm knows leads)
      go (inr (inr none)) = absurd (no_master p.master (master_of spm) none knows.master)

  pub managed_stays : (spm : Spm) → KnowsManaged g spm p → KnowsManaged g spm q
  managed_stays spm (led, lists) = (
    led_stays spm led,
    record {
      rising = lists.rising;
      are = λ sd among. let is = lists.are sd among in (is.0, domains_stay spm led sd ∙ is.1);
      all = λ sd r is. lists.all sd r (sym (domains_stay spm led sd) ∙ is);
    },
  )

-- ---- a host goes down

module _ (h g : ℕ) (p q : Pool) (down : DownPool h p q) where
  same_sector : (sd : Id) → q.sector sd 0 ≡ p.sector sd 0
  same_sector sd = ap (λ (s : Id → ℕ → Sector). s sd 0) down.sector

  sector_down : (x : Sector) (sd : Id) → KnowsSector x sd p → KnowsSector x sd q
  sector_down x sd knows = record {
    master = down.master ∙ knows.master;
    fits = knows.fits;
    role = knows.role;
    comes = subst (λ (s : Sector). (s ≡ x) ⊎ IsBehind x s) (sym (same_sector sd)) knows.comes;
  }

  stage_down : (stage : Stage) (sd : Id) → KnowsStage stage sd p → KnowsStage stage sd q
  stage_down Begun sd knows = tt
  stage_down Known sd knows = down.master ∙ knows
  stage_down (Seen x) sd knows = sector_down x sd knows
  stage_down (Listed x pool) sd knows = sector_down x sd knows

  led_down : (spm : Spm) → KnowsLed g spm p → KnowsLed g spm q
  led_down spm knows = record { master = down.master ∙ knows.master; lease = same_sector (master_of spm) ∙ knows.lease; owner = knows.owner }

  pub taking_down : (t : RoleTaking) → KnowsTaking g t p → KnowsTaking g t q
  taking_down (Starting s) knows = stage_down (stage_of s) (domain_of s) knows
  taking_down (Taken spm) knows = led_down spm knows

  pub managed_down : (spm : Spm) → KnowsManaged g spm p → KnowsManaged g spm q
  managed_down spm (led, lists) = (
    led_down spm led,
    record {
      rising = lists.rising;
      are = λ sd among. let is = lists.are sd among in (is.0, same_domain sd ∙ is.1);
      all = λ sd r is. lists.all sd r (sym (same_domain sd) ∙ is);
    },
  )
    where
      same_domain : (sd : Id) → q.domain sd ≡ p.domain sd
      same_domain sd = ap (λ (f : Id → Option DomainRecord). f sd) down.domain
