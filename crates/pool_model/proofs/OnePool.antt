-- One disk on which nothing is unsynced stands for one pool.
use Rattle.std.proofs.Common.{◌≡◌, ℕ, ◌+◌, ◌*◌, ◌<◌, Bool, true, false, List, [], ◌∷◌, Option, Some, None, refl, sym, ap, subst, ◌∙◌, inl, inr}
use Rattle.std.specs.Prelude.{Contains, nat_lt}
use Rattle.std.proofs.lemmas.Bool.{false≢true, ltb-false, ltb-true}
use Rattle.sd_names.specs.UpSet.{Hosts, is_up}
use Rattle.sd_names.specs.declared.id.Id.{Id}
use Rattle.sd_names.specs.declared.place.Dir.TheVariants as dir
use Rattle.sd_names.specs.declared.place.Name.TheVariants as name
use Rattle.shared_disk.specs.Content.{Content, File}
use Rattle.shared_disk.specs.NameCalls.{place_in}
use Rattle.shared_disk.proofs.Outcomes.{contains_here}
use Rattle.domain_meta.specs.declared.record.DomainRecord.{DomainRecord}
use Rattle.task_store.specs.ReadTask.{task_of}
use Rattle.task_store.specs.declared.task.Task.{Task}
use Rattle.lease_area.specs.Sector.{IsSector, sector_bytes, sector_in}
use Rattle.lease_area.specs.declared.sector.LeaseRecord.{LeaseRecord}
use Rattle.lease_area.specs.declared.sector.Sector.{Sector}
use Rattle.lease_area.specs.declared.sector.Sector.TheVariants.{Empty, Lease}
use Rattle.lease_area.proofs.Fields.{sector_back}
use Rattle.chain_model.specs.Folder.{folder_of}
use Rattle.pool_model.specs.Laws.{Nobody, image_in, volumes_in}
use Rattle.pool_model.specs.Leases.{IsNamed, IsUnnamed, NamesAt}
use Rattle.pool_model.specs.Pool.{Box, Image, Pool, Side, Writing, inbox, outbox}
use Rattle.pool_model.specs.Same.{AlsoSameImage, IsSameBox, IsSameImage, SamePool}
use Rattle.pool_model.specs.Standing.{BoxesStand, HasTask, LeasesStand, MayHold, Stands, TaskAt, file_in, lease_sectors}
use Rattle.pool_model.specs.Tasks.{IsMaking}
use Rattle.pool_model.proofs.OneDomain.{bare_here, listed_here, one_domain, one_master, one_shows, one_stored, one_stray, passes_domain}
use Rattle.pool_model.proofs.OneImage.{one_image, own_outcome}
use Rattle.pool_model.proofs.Settles.{all_settled, same_image, untorn}

-- ---- sectors

same_file : (o : Option File) (f g : File) → o ≡ Some f → o ≡ Some g → f ≡ g
same_file o f g e h = cc

same_sector : (a b : Sector) → Some a ≡ Some b → a ≡ b
same_sector a b e = cc

one_spelled : (a b : Sector) → IsSector a → IsSector b → sector_bytes a ≡ sector_bytes b → a ≡ b
one_spelled a b is so e = same_sector a b (sym (sector_back a is) ∙ ap (λ (bytes : List ℕ). sector_in bytes) e ∙ sector_back b so)

one_leases : (s t : ℕ → Sector) (o : Option File) → LeasesStand s o → LeasesStand t o → (k : ℕ) → t k ≡ s k
one_leases s t o x y k = go (nat_lt k lease_sectors) refl
  where
    files : x.file ≡ y.file
    files = same_file o x.file y.file x.there y.there

    go : (b : Bool) → nat_lt k lease_sectors ≡ b → t k ≡ s k
    go true e =
        one_spelled (t k) (s k) (y.fits k) (x.fits k)
        (sym (y.each k (ltb-true k lease_sectors e)) ∙ sym (ap (λ (f : File). f.stable k) files) ∙ x.each k (ltb-true k lease_sectors e))
    go false e = y.past k (ltb-false k lease_sectors e) ∙ sym (x.past k (ltb-false k lease_sectors e))

one_sector : (up : Hosts) (d : Content) (p q : Pool) (sd : Id) (k : ℕ) → Stands up d p → Stands up d q → q.sector sd k ≡ p.sector sd k
one_sector up d p q sd k x y = go (p.domain sd) refl
  where
    go : (o : Option DomainRecord) → p.domain sd ≡ o → q.sector sd k ≡ p.sector sd k
    go (Some r) e =
        one_leases (p.sector sd) (q.sector sd) (file_in sd name.Leases d) (listed_here up d p sd r x e).leases
        (listed_here up d q sd r y (passes_domain up d p q sd r x y e)).leases k
    go None e = (bare_here up d q sd y (one_domain up d p q sd x y ∙ e)).sector k ∙ sym ((bare_here up d p sd x e).sector k)

-- ---- boxes

no_writings : (up : Hosts) → Nobody up → (ws : List Writing) → ((w : Writing) → Contains ws w → is_up up w.host ≡ true) → ws ≡ []
no_writings up nobody [] all = refl
no_writings up nobody (w ∷ ws) all = absurd (false≢true (sym (nobody w.host) ∙ all w (contains_here w ws)))

held_one : (up : Hosts) (b : Box) (k : ℕ) (bytes : List ℕ) → Nobody up → ((w : Writing) → Contains b.writings w → is_up up w.host ≡ true) → MayHold b k bytes
    → b.sector k ≡ bytes
held_one up b k bytes nobody all (inl e) = sym e
held_one up b k bytes nobody all (inr (w, among, e)) = absurd (false≢true (sym (nobody w.host) ∙ all w among))

one_boxes : (up : Hosts) (b c : ℕ → Box) (o : Option File) → Nobody up → BoxesStand up b o → BoxesStand up c o → (h : ℕ) → IsSameBox (b h) (c h)
one_boxes up b c o nobody x y h = record {
  sectors = λ k within. go (nat_lt h 251) refl k within;
  writings = no_writings up nobody (c h).writings (y.up_is h) ∙ sym (no_writings up nobody (b h).writings (x.up_is h));
}
  where
    files : x.file ≡ y.file
    files = same_file o x.file y.file x.there y.there

    go : (t : Bool) → nat_lt h 251 ≡ t → (k : ℕ) → k < 8 → (c h).sector k ≡ (b h).sector k
    go true e k within =
        held_one up (c h) k (y.file.stable (8 * h + k)) nobody (y.up_is h) (y.each h k (ltb-true h 251 e) within (y.file.stable (8 * h + k)) (inl refl))
        ∙ sym (ap (λ (f : File). f.stable (8 * h + k)) files)
        ∙ sym (held_one up (b h) k (x.file.stable (8 * h + k)) nobody (x.up_is h) (x.each h k (ltb-true h 251 e) within (x.file.stable (8 * h + k)) (inl refl)))
    go false e k within = ap (λ (a : Box). a.sector k) (y.past h (ltb-false h 251 e) ∙ sym (x.past h (ltb-false h 251 e)))

same_box : (b c : Box) → c ≡ b → IsSameBox b c
same_box b c e = record { sectors = λ k within. ap (λ (a : Box). a.sector k) e; writings = ap (λ (a : Box). a.writings) e }

one_box : (up : Hosts) (d : Content) (p q : Pool) (side : Side) (sd : Id) (h : ℕ) → Nobody up → Stands up d p → Stands up d q
    → IsSameBox (p.box side sd h) (q.box side sd h)
one_box up d p q side sd h nobody x y = go side (p.domain sd) refl
  where
    go : (s : Side) (o : Option DomainRecord) → p.domain sd ≡ o → IsSameBox (p.box s sd h) (q.box s sd h)
    go inbox (Some r) e =
        one_boxes up (p.box inbox sd) (q.box inbox sd) (file_in sd name.Inbox d) nobody (listed_here up d p sd r x e).inboxes
        (listed_here up d q sd r y (passes_domain up d p q sd r x y e)).inboxes h
    go outbox (Some r) e =
        one_boxes up (p.box outbox sd) (q.box outbox sd) (file_in sd name.Outbox d) nobody (listed_here up d p sd r x e).outboxes
        (listed_here up d q sd r y (passes_domain up d p q sd r x y e)).outboxes h
    go s None e =
        same_box (p.box s sd h) (q.box s sd h)
        ((bare_here up d q sd y (one_domain up d p q sd x y ∙ e)).box s h ∙ sym ((bare_here up d p sd x e).box s h))

-- ---- tasks

one_read : (d : Content) (m t : Id) (a b : Task) → HasTask d m t a → HasTask d m t b → Some b ≡ Some a
one_read d m t a b x y =
    sym y.reads ∙ ap (λ (text : List ℕ). task_of t text) (one_stored d (place_in (dir.Tasks m) (name.Task t)) y.text x.text y.stored x.stored) ∙ x.reads

one_task_at : (d : Content) (m t : Id) (a b : Option Task) → TaskAt d m t a → TaskAt d m t b → b ≡ a
one_task_at d m t None None x y = refl
one_task_at d m t None (Some b) x y = absurd (none (d.file (place_in (dir.Tasks m) (name.Task t))) y.stored.file x y.stored.there)
  where
    none : (o : Option File) (f : File) → o ≡ None → o ≡ Some f → ⊥
    none o f e g = cc
one_task_at d m t (Some a) None x y = absurd (none (d.file (place_in (dir.Tasks m) (name.Task t))) x.stored.file y x.stored.there)
  where
    none : (o : Option File) (f : File) → o ≡ None → o ≡ Some f → ⊥
    none o f e g = cc
one_task_at d m t (Some a) (Some b) x y = one_read d m t a b x y

one_task : (up : Hosts) (d : Content) (p q : Pool) (t : Id) → Stands up d p → Stands up d q → q.task t ≡ p.task t
one_task up d p q t x y = go p.master refl
  where
    go : (o : Option Id) → p.master ≡ o → q.task t ≡ p.task t
    go None e = y.tasks.unmade (one_master up d p q x y ∙ e) t ∙ sym (x.tasks.unmade e t)
    go (Some m) e = one_task_at d m t (p.task t) (q.task t) (x.tasks.each m t e) (y.tasks.each m t (one_master up d p q x y ∙ e))

-- ---- images

names_too : (p q : Pool) (sd i : Id) → ((k : ℕ) → q.sector sd k ≡ p.sector sd k) → (k : ℕ) (r : LeaseRecord) → NamesAt p sd i k r → NamesAt q sd i k r
names_too p q sd i same k r names = record { slot = names.slot; lease = same k ∙ names.lease; image = names.image }

making_too : (p q : Pool) (sd i : Id) → ((t : Id) → q.task t ≡ p.task t) → IsMaking q sd i → IsMaking p sd i
making_too p q sd i same (t, (x, opened, step)) = (t, (x, (sym (same t) ∙ opened.0, opened.1), step))

both_there : (o a : Option Image) (m n : Image) → o ≡ Some m → a ≡ Some n → IsSameImage m n → AlsoSameImage o a
both_there None a m n e f same = absurd cc
both_there (Some x) None m n e f same = absurd cc
both_there (Some x) (Some y) m n e f same =
    subst (λ (z : Image). IsSameImage x z) (same_image (Some y) y n refl f) (subst (λ (z : Image). IsSameImage z n) (same_image (Some x) x m refl e) same)

one_named : (up : Hosts) (d : Content) (p q : Pool) (sd i : Id) → Nobody up → Stands up d p → Stands up d q → IsNamed p sd i → (IsMaking p sd i → ⊥)
    → AlsoSameImage (p.image sd i) (q.image sd i)
one_named up d p q sd i nobody x y named idle = go (p.domain sd) refl
  where
    named_too : IsNamed q sd i
    named_too = (named.0, (named.1.0, names_too p q sd i (λ k. one_sector up d p q sd k x y) named.0 named.1.0 named.1.1))

    idle_too : IsMaking q sd i → ⊥
    idle_too making = idle (making_too p q sd i (λ t. one_task up d p q t x y) making)

    go : (o : Option DomainRecord) → p.domain sd ≡ o → AlsoSameImage (p.image sd i) (q.image sd i)
    go None e = absurd (unlisted (p.sector sd named.0) named.1.0 ((bare_here up d p sd x e).sector named.0) named.1.1.lease)
      where
        unlisted : (s : Sector) (r : LeaseRecord) → s ≡ Empty → s ≡ Lease r → ⊥
        unlisted s r e f = cc
    go (Some r) e =
        let ours = (x.image sd r e i).there named idle in
        let listed = passes_domain up d p q sd r x y e in
        let theirs = (y.image sd r listed i).there named_too idle_too in
        let outcome = own_outcome (folder_of (dir.Image sd i) d) (λ n f there. all_settled up d p nobody x (place_in (dir.Image sd i) n) f there) in
        both_there (p.image sd i) (q.image sd i) ours.0 theirs.0 ours.1.image theirs.1.image
        (one_image (image_in sd i r) (volumes_in d sd i) ours.0 theirs.0
        (ours.1.means (folder_of (dir.Image sd i) d) outcome) (theirs.1.means (folder_of (dir.Image sd i) d) outcome)
        (untorn up d p sd i r ours.0 nobody x (record { listed = e; named = named; idle = idle; image = ours.1.image }))
        (untorn up d q sd i r theirs.0 nobody y (record { listed = listed; named = named_too; idle = idle_too; image = theirs.1.image })))

one_unnamed : (up : Hosts) (d : Content) (p q : Pool) (sd i : Id) → Stands up d p → Stands up d q → IsUnnamed p sd i → q.image sd i ≡ p.image sd i
one_unnamed up d p q sd i x y none = go (p.domain sd) refl
  where
    none_too : IsUnnamed q sd i
    none_too k r names = none k r (names_too q p sd i (λ j. sym (one_sector up d p q sd j x y)) k r names)

    go : (o : Option DomainRecord) → p.domain sd ≡ o → q.image sd i ≡ p.image sd i
    go None e = (bare_here up d q sd y (one_domain up d p q sd x y ∙ e)).image i ∙ sym ((bare_here up d p sd x e).image i)
    go (Some r) e = ((y.image sd r (passes_domain up d p q sd r x y e) i).gone none_too).image ∙ sym ((x.image sd r e i).gone none).image

-- ---- the whole

pub one_pool : (up : Hosts) (d : Content) (p q : Pool) → Nobody up → Stands up d p → Stands up d q → SamePool p q
one_pool up d p q nobody x y = record {
  master = one_master up d p q x y;
  domain = λ sd. one_domain up d p q sd x y;
  stray = λ sd. one_stray up d p q sd x y;
  shows = λ sd. one_shows up d p q sd x y;
  sector = λ sd k. one_sector up d p q sd k x y;
  box = λ side sd h. one_box up d p q side sd h nobody x y;
  task = λ t. one_task up d p q t x y;
  named = λ sd i named idle. one_named up d p q sd i nobody x y named idle;
  unnamed = λ sd i none. one_unnamed up d p q sd i x y none;
}
