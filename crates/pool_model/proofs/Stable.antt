-- What a host knows stays true beside other hosts.
use Rattle.std.proofs.Common.{◌≡◌, ◌≢◌, ◌⊎◌, ℕ, ◌≤◌, ◌==◌, ◌||◌, not, Bool, true, false, List, Option, Some, None, refl, sym, ap, subst, ◌∙◌, inl, inr, arith}
use Rattle.std.proofs.lemmas.Bool.{eqb-true, false≢true}
use Rattle.std.specs.Prelude.{MatchBool}
use Rattle.sd_names.specs.UpSet.{Hosts, is_up}
use Rattle.sd_names.specs.declared.id.Id.{Id}
use Rattle.sd_names.specs.declared.task_state.TaskState.{TaskState}
use Rattle.shared_disk.specs.Content.{Content}
use Rattle.domain_meta.specs.declared.record.DomainRecord.{DomainRecord}
use Rattle.task_store.specs.declared.task.Task.{Task}
use Rattle.lease_area.specs.Move.{IsFreed, IsTaken, RoleMove, TaskMove, freed, is_open, made_by, may_take, owner_of, taken_by}
use Rattle.lease_area.specs.Record.{IsImageSlot}
use Rattle.lease_area.specs.declared.sector.Kind.{Kind}
use Rattle.lease_area.specs.declared.sector.Kind.TheVariants as kind
use Rattle.lease_area.specs.declared.sector.LeaseRecord.{LeaseRecord}
use Rattle.lease_area.specs.declared.sector.Sector.{Sector}
use Rattle.lease_area.specs.declared.sector.Sector.TheVariants.{Empty, Lease}
use Rattle.pool_model.specs.Downs.{DownPool}
use Rattle.pool_model.specs.Knows.{Knows, KnowsLists, KnowsManager, KnowsMaking, KnowsOpened, KnowsRole, KnowsTexts}
use Rattle.pool_model.specs.Laws.{MakesNone}
use Rattle.pool_model.specs.Leases.{Holds, IsGuest, IsTasked, Leads, NamesAt}
use Rattle.pool_model.specs.Owned.{AlsoLonger, IsLeftEmpty, LaysAlike, OwnedPool, OwnedSector}
use Rattle.pool_model.specs.Pool.{Image, Pool, Torn}
use Rattle.pool_model.specs.Role.{Manager, Role, leads, outside}
use Rattle.pool_model.specs.Rules.{text_by, text_of}
use Rattle.pool_model.specs.Standing.{IsTornBy, Stands}
use Rattle.pool_model.specs.State.{HostState, Opened, Running, booted}
use Rattle.pool_model.specs.Tasks.{IsOpen}
use Rattle.pool_model.proofs.Guests.{hold_alone}
use Rattle.pool_model.proofs.OneDomain.{Said, bare_here}
use Rattle.pool_model.proofs.Roles.{past_first}

-- ---- sectors

not_empty : (s : Sector) (r : LeaseRecord) → s ≡ Empty → s ≡ Lease r → ⊥
not_empty s r e f = cc

same_record : (a b : LeaseRecord) → Lease a ≡ Lease b → a ≡ b
same_record a b e = cc

one_record : (s : Sector) (a b : LeaseRecord) → s ≡ Lease a → s ≡ Lease b → a ≡ b
one_record s a b e f = cc

free_or_task : kind.Free ≡ kind.Task → ⊥
free_or_task e = cc

guest_or_task : kind.Guest ≡ kind.Task → ⊥
guest_or_task e = cc

free_or_guest : kind.Free ≡ kind.Guest → ⊥
free_or_guest e = cc

one_master : (o : Option Id) (a b : Id) → o ≡ Some a → o ≡ Some b → a ≡ b
one_master o a b e f = cc

no_master : (o : Option Id) (a : Id) → o ≡ None → o ≡ Some a → ⊥
no_master o a e f = cc

no_domain : (o : Option DomainRecord) (r : DomainRecord) → o ≡ None → o ≡ Some r → ⊥
no_domain o r e f = cc

-- a sector of a host that is up isn't open to another one
closed : (up : Hosts) (h g : ℕ) → g ≢ h → 1 ≤ g → is_up up g ≡ true → is_open up h g ≡ false
closed up h g apart some alive = by_tests (g == 0) (g == h) (is_up up g) (zero (g == 0) refl) (other (g == h) refl) alive
  where
    by_tests : (a b c : Bool) → a ≡ false → b ≡ false → c ≡ true → (a || (b || not c)) ≡ false
    by_tests false false true e f i = refl
    by_tests true b c e f i = absurd (false≢true (sym e))
    by_tests false true c e f i = absurd (false≢true (sym f))
    by_tests false false false e f i = absurd (false≢true i)

    zero : (b : Bool) → (g == 0) ≡ b → (g == 0) ≡ false
    zero false e = e
    zero true e = absurd (low (eqb-true g 0 e) some)
      where
        low : g ≡ 0 → 1 ≤ g → ⊥
        low e some = omega (arith, e, some)

    other : (b : Bool) → (g == h) ≡ b → (g == h) ≡ false
    other false e = e
    other true e = absurd (apart (eqb-true g h e))

-- ---- one host beside another

module _ (up : Hosts) (d : Content) (p q : Pool) (h g : ℕ) (stands : Stands up d p) (apart : g ≢ h) where
  -- only one host leads
  not_leading : (m : Manager) → KnowsManager g m p → Leads p h → ⊥
  not_leading m knows lead =
      let same = one_master p.master lead.0 m.master lead.1.1 knows.master in
      let lease = subst (λ (a : Id). p.sector a 0 ≡ Lease lead.1.0) same lead.1.2 in
      apart (sym knows.held.owner ∙ ap (λ (r : LeaseRecord). r.owner) (one_record (p.sector m.master 0) knows.held.lease lead.1.0 knows.held.sector lease) ∙ lead.1.3)

  -- whoever has a guest's lease has a listed domain
  listed_of : (sd i : Id) (n : ℕ) (r : LeaseRecord) → NamesAt p sd i n r → (o : Option DomainRecord) → p.domain sd ≡ o → (s : DomainRecord) × (p.domain sd ≡ Some s)
  listed_of sd i n r names (Some s) e = (s, e)
  listed_of sd i n r names None e = absurd (not_empty (p.sector sd n) r ((bare_here up d p sd stands e).sector n) names.lease)

  guest_listed : (sd i : Id) → IsGuest p sd i g → (s : DomainRecord) × (p.domain sd ≡ Some s)
  guest_listed sd i (n, (r, names, is, owner)) = listed_of sd i n r names (p.domain sd) refl

  not_held : (sd i : Id) → IsGuest p sd i g → Holds p h sd i → ⊥
  not_held sd i guest held = let listed = guest_listed sd i guest in
      apart (sym (hold_alone up d p h g sd i listed.0 stands listed.1 guest held))

  module _ (owned : OwnedPool h up p q) (some : 1 ≤ g) (alive : is_up up g ≡ true) where
    -- a guest's sector of this host stays
    guest_sector : (sd : Id) (n : ℕ) (r : LeaseRecord) → IsImageSlot n → p.sector sd n ≡ Lease r → r.owner ≡ g → r.kind ≡ kind.Guest
        → OwnedSector h up p sd n (q.sector sd n) → q.sector sd n ≡ p.sector sd n
    guest_sector sd n r slot lease owner is (inl same) = same
    guest_sector sd n r slot lease owner is (inr (spm, (leads_is, move))) = absurd (go (subst (λ (b : Bool). MatchBool b
        (RoleMove up h (p.sector sd n) (q.sector sd n))
        (IsTaken up h kind.Guest (p.sector sd n) (q.sector sd n) ⊎ (IsFreed h kind.Guest (p.sector sd n) (q.sector sd n) ⊎ ((spm ≡ true) × TaskMove up h (p.sector sd n) (q.sector sd n)))))
        (past_first n slot) move))
      where
        taken : (k : Kind) (old new : Sector) → old ≡ Lease r → IsTaken up h k old new → ⊥
        taken k old new e (a, was, may, now) =
            let same = one_record old a r was e in
            false≢true (sym (ap (λ (o : ℕ). is_open up h o) owner ∙ closed up h g apart some alive)
            ∙ sym (ap (λ (w : Kind). may_take up h w r.owner) is) ∙ subst (λ (b : LeaseRecord). may_take up h b.kind b.owner ≡ true) same may)

        go : IsTaken up h kind.Guest (p.sector sd n) (q.sector sd n) ⊎ (IsFreed h kind.Guest (p.sector sd n) (q.sector sd n) ⊎ ((spm ≡ true) × TaskMove up h (p.sector sd n) (q.sector sd n))) → ⊥
        go (inl take) = taken kind.Guest (p.sector sd n) (q.sector sd n) lease take
        go (inr (inl (a, was, guest, host, now))) = apart (sym owner ∙ ap (λ (b : LeaseRecord). b.owner) (one_record (p.sector sd n) r a lease was) ∙ host)
        go (inr (inr (led, inl take))) = taken kind.Task (p.sector sd n) (q.sector sd n) lease take
        go (inr (inr (led, inr (inl (empty, i, now))))) = not_empty (p.sector sd n) r empty lease
        go (inr (inr (led, inr (inr (a, was, task, rest))))) =
            guest_or_task (sym is ∙ ap (λ (b : LeaseRecord). b.kind) (one_record (p.sector sd n) r a lease was) ∙ task)

    guest_stays : (sd i : Id) → IsGuest p sd i g → IsGuest q sd i g
    guest_stays sd i (n, (r, names, is, owner)) = (
      n,
      (
        r,
        record {
          slot = names.slot;
          lease = guest_sector sd n r names.slot names.lease owner is (owned.sectors sd n) ∙ names.lease;
          image = names.image;
        },
        is,
        owner,
      ),
    )

    -- and no other host's move makes this one a guest, or any image a task's without the role
    was_sector : (sd : Id) (n : ℕ) (r : LeaseRecord) → IsImageSlot n → q.sector sd n ≡ Lease r → (r.owner ≡ g) ⊎ ((r.kind ≡ kind.Task) × (Leads p h → ⊥))
        → (r.kind ≡ kind.Free → ⊥) → OwnedSector h up p sd n (q.sector sd n) → p.sector sd n ≡ Lease r
    was_sector sd n r slot lease which held (inl same) = sym same ∙ lease
    was_sector sd n r slot lease which held (inr (spm, (leads_is, move))) = absurd (go (subst (λ (b : Bool). MatchBool b
        (RoleMove up h (p.sector sd n) (q.sector sd n))
        (IsTaken up h kind.Guest (p.sector sd n) (q.sector sd n) ⊎ (IsFreed h kind.Guest (p.sector sd n) (q.sector sd n) ⊎ ((spm ≡ true) × TaskMove up h (p.sector sd n) (q.sector sd n)))))
        (past_first n slot) move))
      where
        other : (new : LeaseRecord) → q.sector sd n ≡ Lease new → new.owner ≡ h → new.kind ≡ kind.Guest → ⊥
        other new is owner guest = not_that which
          where
            same : r ≡ new
            same = one_record (q.sector sd n) r new lease is

            not_that : (r.owner ≡ g) ⊎ ((r.kind ≡ kind.Task) × (Leads p h → ⊥)) → ⊥
            not_that (inl mine) = apart (sym mine ∙ ap (λ (b : LeaseRecord). b.owner) same ∙ owner)
            not_that (inr (task, none)) = guest_or_task (sym guest ∙ ap (λ (b : LeaseRecord). b.kind) (sym same) ∙ task)

        led : (spm ≡ true) → (new : LeaseRecord) → q.sector sd n ≡ Lease new → new.owner ≡ h → ⊥
        led is new now owner = not_that which
          where
            not_that : (r.owner ≡ g) ⊎ ((r.kind ≡ kind.Task) × (Leads p h → ⊥)) → ⊥
            not_that (inl mine) = apart (sym mine ∙ ap (λ (b : LeaseRecord). b.owner) (one_record (q.sector sd n) r new lease now) ∙ owner)
            not_that (inr (task, none)) = none (leads_is is)

        free : (new : LeaseRecord) → q.sector sd n ≡ Lease new → new.kind ≡ kind.Free → ⊥
        free new now is = held (ap (λ (b : LeaseRecord). b.kind) (one_record (q.sector sd n) r new lease now) ∙ is)

        go : IsTaken up h kind.Guest (p.sector sd n) (q.sector sd n) ⊎ (IsFreed h kind.Guest (p.sector sd n) (q.sector sd n) ⊎ ((spm ≡ true) × TaskMove up h (p.sector sd n) (q.sector sd n))) → ⊥
        go (inl (a, was, may, now)) = other (taken_by h kind.Guest (p.sector sd n)) now refl refl
        go (inr (inl (a, was, guest, host, now))) = free (freed a) now refl
        go (inr (inr (is, inl (a, was, may, now)))) = led is (taken_by h kind.Task (p.sector sd n)) now refl
        go (inr (inr (is, inr (inl (empty, i, now))))) = led is (made_by h i) now refl
        go (inr (inr (is, inr (inr (a, was, task, inl now))))) = free (freed a) now refl
        go (inr (inr (is, inr (inr (a, was, task, inr now))))) = not_empty (q.sector sd n) r now lease

    guest_was : (sd i : Id) → IsGuest q sd i g → IsGuest p sd i g
    guest_was sd i (n, (r, names, is, owner)) = (
      n,
      (
        r,
        record {
          slot = names.slot;
          lease = was_sector sd n r names.slot names.lease (inl owner) (λ free. free_or_guest (sym free ∙ is)) (owned.sectors sd n);
          image = names.image;
        },
        is,
        owner,
      ),
    )

    tasked_was : (sd i : Id) → (Leads p h → ⊥) → IsTasked q sd i → IsTasked p sd i
    tasked_was sd i none (n, (r, names, is)) = (
      n,
      (
        r,
        record {
          slot = names.slot;
          lease = was_sector sd n r names.slot names.lease (inr (is, none)) (λ free. free_or_task (sym free ∙ is)) (owned.sectors sd n);
          image = names.image;
        },
        is,
      ),
    )

    -- sector 0 of a manager
    pub role_sector : (m : Id) (r : LeaseRecord) → p.sector m 0 ≡ Lease r → r.owner ≡ g → OwnedSector h up p m 0 (q.sector m 0) → q.sector m 0 ≡ p.sector m 0
    role_sector m r lease owner (inl same) = same
    role_sector m r lease owner (inr (spm, (leads_is, inl (may, now)))) =
        absurd (false≢true (sym (closed up h g apart some alive) ∙ sym (ap (λ (o : ℕ). is_open up h o) (ap owner_of lease ∙ owner)) ∙ may))
    role_sector m r lease owner (inr (spm, (leads_is, inr (a, was, host, now)))) =
        absurd (apart (sym owner ∙ ap (λ (b : LeaseRecord). b.owner) (one_record (p.sector m 0) r a lease was) ∙ host))

    same_tasks : (m : Manager) → KnowsManager g m p → (t : Id) → q.task t ≡ p.task t
    same_tasks m knows t = go owned.tasks
      where
        go : ((u : Id) → q.task u ≡ p.task u) ⊎ Leads p h → q.task t ≡ p.task t
        go (inl same) = same t
        go (inr lead) = absurd (not_leading m knows lead)

    open_was : (m : Manager) → KnowsManager g m p → (t : Id) (x : Task) → IsOpen q t x → IsOpen p t x
    open_was m knows t x is = (sym (same_tasks m knows t) ∙ is.0, is.1)

    pub manager_stays : (m : Manager) → KnowsManager g m p → KnowsManager g m q
    manager_stays m knows = record {
      master = go owned.master;
      held = record {
        lease = knows.held.lease;
        sector = role_sector m.master knows.held.lease knows.held.sector knows.held.owner (owned.sectors m.master 0) ∙ knows.held.sector;
        owner = knows.held.owner;
        version_is = knows.held.version_is;
      };
      none_open = λ rests t x is. knows.none_open rests t x (open_was m knows t x is);
      none_held = λ rests sd i is. knows.none_held rests sd i (tasked_was sd i (not_leading m knows) is);
      one_open = λ t u x begun is. knows.one_open t u x begun (open_was m knows u x is);
    }
      where
        go : (q.master ≡ p.master) ⊎ (p.master ≡ None) → q.master ≡ Some m.master
        go (inl same) = same ∙ knows.master
        go (inr none) = absurd (no_master p.master m.master none knows.master)

    same_domains : (m : Manager) → KnowsManager g m p → (sd : Id) → q.domain sd ≡ p.domain sd
    same_domains m knows sd = go owned.domains
      where
        go : ((a : Id) → q.domain a ≡ p.domain a) ⊎ (Leads p h ⊎ (p.master ≡ None)) → q.domain sd ≡ p.domain sd
        go (inl same) = same sd
        go (inr (inl lead)) = absurd (not_leading m knows lead)
        go (inr (inr none)) = absurd (no_master p.master m.master none knows.master)

    pub lists_stay : (m : Manager) (domains : List Id) (tasks : List (Id × TaskState)) → KnowsManager g m p → KnowsLists domains tasks m.begun p
        → KnowsLists domains tasks m.begun q
    lists_stay m domains tasks knows x = record {
      rising = x.rising;
      domains_are = λ sd among. let is = x.domains_are sd among in (is.0, same_domains m knows sd ∙ is.1);
      all_domains = λ sd r is. x.all_domains sd r (sym (same_domains m knows sd) ∙ is);
      order = x.order;
      tasks_are = λ t s other among. let is = x.tasks_are t s other among in (is.0, same_tasks m knows t ∙ is.1, is.2);
      all_tasks = λ t y other is. x.all_tasks t y other (sym (same_tasks m knows t) ∙ is);
    }

    role_stays : (r : Role) → KnowsRole g r p → KnowsRole g r q
    role_stays outside knows = tt
    role_stays (leads m) knows = manager_stays m knows

    -- open images
    abbrev Kept : Image → Option Image → Type 0
    Kept m o = (n : Image) × ((o ≡ Some n) × (n.fault ≡ m.fault) × ((m.torn ≡ None) → n.torn ≡ None))

    laid : (a b : Option Torn) → LaysAlike a b → a ≡ None → b ≡ None
    laid None None is e = refl
    laid None (Some u) is e = absurd is
    laid (Some t) None is e = absurd is
    laid (Some t) (Some u) is e = absurd (none (Some t) t e refl)
      where
        none : (o : Option Torn) (t : Torn) → o ≡ None → o ≡ Some t → ⊥
        none o t e f = cc

    longer : (m : Image) (a b : Option Image) → a ≡ Some m → AlsoLonger a b → Kept m b
    longer m None b e is = absurd (none None m refl e)
      where
        none : (o : Option Image) (m : Image) → o ≡ None → o ≡ Some m → ⊥
        none o m e f = cc
    longer m (Some a) None e is = absurd is
    longer m (Some a) (Some b) e is = (b, (refl, is.fault ∙ ap (λ (x : Image). x.fault) same, λ quiet. laid a.torn b.torn is.torn (ap (λ (x : Image). x.torn) same ∙ quiet)))
      where
        one : (x y : Image) → Some x ≡ Some y → x ≡ y
        one x y e = cc

        same : a ≡ m
        same = one a m e

    kept_image : (sd i : Id) (m : Image) → IsGuest p sd i g → p.image sd i ≡ Some m → Kept m (q.image sd i)
    kept_image sd i m guest there = go (owned.images sd i)
      where
        go : (q.image sd i ≡ p.image sd i) ⊎ (Holds p h sd i ⊎ (Leads p h × AlsoLonger (p.image sd i) (q.image sd i))) → Kept m (q.image sd i)
        go (inl same) = (m, (same ∙ there, refl, λ quiet. quiet))
        go (inr (inl held)) = absurd (not_held sd i guest held)
        go (inr (inr (lead, is))) = longer m (p.image sd i) (q.image sd i) there is

    listed_stays : (sd i : Id) → IsGuest p sd i g → (r : DomainRecord) → p.domain sd ≡ Some r → (s : DomainRecord) × (q.domain sd ≡ Some s)
    listed_stays sd i (n, (r, names, is, owner)) s listed = go (owned.lists sd s listed)
      where
        go : ((s : DomainRecord) × (q.domain sd ≡ Some s)) ⊎ IsLeftEmpty p sd → (s : DomainRecord) × (q.domain sd ≡ Some s)
        go (inl still) = still
        go (inr empty) = absurd (not_empty (p.sector sd n) r (empty n names.slot) names.lease)

    opened_stays : (run : Option Running) (o : Opened) → KnowsOpened g run o p → KnowsOpened g run o q
    opened_stays run o x =
        let kept = kept_image o.sd o.image x.image x.guest x.there in
        record {
          listed = listed_stays o.sd o.image x.guest x.listed.0 x.listed.1;
          guest = guest_stays o.sd o.image x.guest;
          image = kept.0;
          there = kept.1.0;
          sound = kept.1.1 ∙ x.sound;
          quiet = λ whole idle. kept.1.2 (x.quiet whole idle);
        }

    -- a write that was cut was there
    torn_was : (sd i : Id) (m : Image) (t : Torn) → IsGuest p sd i g → q.image sd i ≡ Some m → m.torn ≡ Some t
        → (a : Image) × ((u : Torn) × (p.image sd i ≡ Some a) × (a.torn ≡ Some u))
    torn_was sd i m t guest there cut = go (owned.images sd i)
      where
        back : (a b : Option Image) → b ≡ Some m → AlsoLonger a b → (x : Image) × ((u : Torn) × (a ≡ Some x) × (x.torn ≡ Some u))
        back None None e is = absurd (none None m refl e)
          where
            none : (o : Option Image) (m : Image) → o ≡ None → o ≡ Some m → ⊥
            none o m e f = cc
        back None (Some b) e is = absurd is
        back (Some a) None e is = absurd is
        back (Some a) (Some b) e is = alike a.torn b.torn refl (ap (λ (x : Image). x.torn) (one b m e) ∙ cut) is.torn
          where
            one : (x y : Image) → Some x ≡ Some y → x ≡ y
            one x y e = cc

            alike : (v w : Option Torn) → a.torn ≡ v → w ≡ Some t → LaysAlike v w → (x : Image) × ((u : Torn) × (Some a ≡ Some x) × (x.torn ≡ Some u))
            alike (Some u) w was is like = (a, (u, refl, was))
            alike None None was is like = absurd (none None t refl is)
              where
                none : (o : Option Torn) (t : Torn) → o ≡ None → o ≡ Some t → ⊥
                none o t e f = cc
            alike None (Some w) was is like = absurd like

        go : (q.image sd i ≡ p.image sd i) ⊎ (Holds p h sd i ⊎ (Leads p h × AlsoLonger (p.image sd i) (q.image sd i)))
            → (a : Image) × ((u : Torn) × (p.image sd i ≡ Some a) × (a.torn ≡ Some u))
        go (inl same) = (m, (t, sym same ∙ there, cut))
        go (inr (inl held)) = absurd (not_held sd i guest held)
        go (inr (inr (lead, is))) = back (p.image sd i) (q.image sd i) there is

    making_stays : (run : Option Running) → (q.master ≡ p.master) ⊎ MakesNone run → KnowsMaking run p → KnowsMaking run q
    making_stays None which knows = tt
    making_stays (Some run) (inl same) knows = λ r is. same ∙ knows r is
    making_stays (Some run) (inr none) knows = λ r is. absurd (none r is)

    texts_stay : (run : Option Running) → KnowsTexts run p → KnowsTexts run q
    texts_stay None knows = tt
    texts_stay (Some run) knows = λ sd had. owned.texts sd (knows sd had)

    pub others_know : (x : HostState) → (q.master ≡ p.master) ⊎ MakesNone x.running → Knows g x p → Knows g x q
    others_know x which knows = record {
      role = role_stays x.role knows.role;
      opened = λ s o low is. opened_stays x.running o (knows.opened s o low is);
      once = knows.once;
      torn = λ sd i m t guest there cut.
          let was = torn_was sd i m t (guest_was sd i guest) there cut in
          knows.torn sd i was.0 was.1.0 (guest_was sd i guest) was.1.1 was.1.2;
      making = making_stays x.running which knows.making;
      texts = texts_stay x.running knows.texts;
    }

  -- ---- where the other one goes down

  module _ (down : DownPool h p q) where
    down_names : (sd i : Id) (n : ℕ) (r : LeaseRecord) → NamesAt p sd i n r → NamesAt q sd i n r
    down_names sd i n r x = record { slot = x.slot; lease = ap (λ (s : Id → ℕ → Sector). s sd n) down.sector ∙ x.lease; image = x.image }

    up_names : (sd i : Id) (n : ℕ) (r : LeaseRecord) → NamesAt q sd i n r → NamesAt p sd i n r
    up_names sd i n r x = record { slot = x.slot; lease = sym (ap (λ (s : Id → ℕ → Sector). s sd n) down.sector) ∙ x.lease; image = x.image }

    down_guest : (sd i : Id) → IsGuest p sd i g → IsGuest q sd i g
    down_guest sd i (n, (r, names, is, owner)) = (n, (r, down_names sd i n r names, is, owner))

    up_guest : (sd i : Id) → IsGuest q sd i g → IsGuest p sd i g
    up_guest sd i (n, (r, names, is, owner)) = (n, (r, up_names sd i n r names, is, owner))

    same_image : (sd i : Id) → IsGuest p sd i g → q.image sd i ≡ p.image sd i
    same_image sd i guest = (down.image sd i).other (λ other. not_held sd i guest (inl other))

    down_open : (t : Id) (x : Task) → IsOpen q t x → IsOpen p t x
    down_open t x is = (sym (ap (λ (f : Id → Option Task). f t) down.task) ∙ is.0, is.1)

    down_role : (r : Role) → KnowsRole g r p → KnowsRole g r q
    down_role outside knows = tt
    down_role (leads m) knows = record {
      master = down.master ∙ knows.master;
      held = record {
        lease = knows.held.lease;
        sector = ap (λ (s : Id → ℕ → Sector). s m.master 0) down.sector ∙ knows.held.sector;
        owner = knows.held.owner;
        version_is = knows.held.version_is;
      };
      none_open = λ rests t x is. knows.none_open rests t x (down_open t x is);
      none_held = λ rests sd i is. knows.none_held rests sd i (is.0, (is.1.0, up_names sd i is.0 is.1.0 is.1.1, is.1.2));
      one_open = λ t u x begun is. knows.one_open t u x begun (down_open u x is);
    }

    pub down_lists : (begun : Option Id) (domains : List Id) (tasks : List (Id × TaskState)) → KnowsLists domains tasks begun p
        → KnowsLists domains tasks begun q
    down_lists begun domains tasks x = record {
      rising = x.rising;
      domains_are = λ sd among. let is = x.domains_are sd among in (is.0, ap (λ (f : Id → Option DomainRecord). f sd) down.domain ∙ is.1);
      all_domains = λ sd r is. x.all_domains sd r (sym (ap (λ (f : Id → Option DomainRecord). f sd) down.domain) ∙ is);
      order = x.order;
      tasks_are = λ t s other among. let is = x.tasks_are t s other among in (is.0, ap (λ (f : Id → Option Task). f t) down.task ∙ is.1, is.2);
      all_tasks = λ t y other is. x.all_tasks t y other (sym (ap (λ (f : Id → Option Task). f t) down.task) ∙ is);
    }

    down_opened : (run : Option Running) (o : Opened) → KnowsOpened g run o p → KnowsOpened g run o q
    down_opened run o x = record {
      listed = (x.listed.0, ap (λ (f : Id → Option DomainRecord). f o.sd) down.domain ∙ x.listed.1);
      guest = down_guest o.sd o.image x.guest;
      image = x.image;
      there = same_image o.sd o.image x.guest ∙ x.there;
      sound = x.sound;
      quiet = x.quiet;
    }

    down_making : (run : Option Running) → KnowsMaking run p → KnowsMaking run q
    down_making None knows = tt
    down_making (Some run) knows = λ r is. down.master ∙ knows r is

    down_texts : (run : Option Running) → KnowsTexts run p → KnowsTexts run q
    down_texts None knows = tt
    down_texts (Some run) knows = λ sd had none. knows sd had (sym (same sd) ∙ none)
      where
        same : (sd : Id) → text_of q sd ≡ text_of p sd
        same sd = ap (λ (f : Id → Option DomainRecord). text_by (f sd) (q.stray sd)) down.domain
            ∙ ap (λ (f : Id → Option Said). text_by (p.domain sd) (f sd)) down.stray

    pub downs_know : (x : HostState) → Knows g x p → Knows g x q
    downs_know x knows = record {
      role = down_role x.role knows.role;
      opened = λ s o low is. down_opened x.running o (knows.opened s o low is);
      once = knows.once;
      torn = λ sd i m t guest there cut.
          let was = up_guest sd i guest in knows.torn sd i m t was (sym (same_image sd i was) ∙ there) cut;
      making = down_making x.running knows.making;
      texts = down_texts x.running knows.texts;
    }

-- ---- a host that boots

nothing_open : (o : Opened) → ◌≡◌ {A = Option Opened} None (Some o) → ⊥
nothing_open o e = cc

one_image : (o : Option Image) (m n : Image) → o ≡ Some m → o ≡ Some n → m ≡ n
one_image o m n e f = cc

module _ (up : Hosts) (d : Content) (p : Pool) (h : ℕ) (stands : Stands up d p) (off : is_up up h ≡ false) where
  torn_by : (sd i : Id) (o : Option Torn) (t : Torn) (r : DomainRecord) → p.domain sd ≡ Some r → IsGuest p sd i h → o ≡ Some t → IsTornBy up p sd i o → ⊥
  torn_by sd i None t r listed guest e by = none None t refl e
    where
      none : (o : Option Torn) (t : Torn) → o ≡ None → o ≡ Some t → ⊥
      none o t e f = cc
  torn_by sd i (Some u) t r listed guest e (g, other, alive) =
      let same : g ≡ h = hold_alone up d p g h sd i r stands listed guest (inl other) in
      false≢true (sym off ∙ subst (λ (a : ℕ). is_up up a ≡ true) same alive)

  booted_torn : (sd i : Id) (m : Image) (t : Torn) → IsGuest p sd i h → p.image sd i ≡ Some m → m.torn ≡ Some t → ⊥
  booted_torn sd i m t (n, (r, names, is, owner)) there cut = go (p.domain sd) refl
    where
      go : (o : Option DomainRecord) → p.domain sd ≡ o → ⊥
      go None e = not_empty (p.sector sd n) r ((bare_here up d p sd stands e).sector n) names.lease
      go (Some s) e =
          let one = stands.image sd s e i in
          let has = one.there (n, (r, names)) (λ making. guest_or_task (sym is ∙ one.making making n r names)) in
          let same : has.0 ≡ m = one_image (p.image sd i) has.0 m has.1.image there in
          torn_by sd i has.0.torn t s e (n, (r, names, is, owner)) (ap (λ (x : Image). x.torn) same ∙ cut) has.1.torn

  pub booted_know : Knows h booted p
  booted_know = record {
    role = tt;
    opened = λ s o low is. absurd (nothing_open o is);
    once = λ sd i s r o q at to. absurd (nothing_open o at.there);
    torn = λ sd i m t guest there cut. absurd (booted_torn sd i m t guest there cut);
    making = tt;
    texts = tt;
  }
