-- One disk has one master, and one record of each domain.
use Rattle.std.proofs.Common.{◌≡◌, ◌⊎◌, ℕ, Bool, true, false, List, Option, Some, None, Result, Ok, refl, sym, ap, subst, ◌∙◌, inl, inr}
use Rattle.std.specs.Prelude.{◌≢◌, Contains}
use Rattle.sd_names.specs.UpSet.{Hosts}
use Rattle.sd_names.specs.declared.fault.DomainFault.{DomainFault}
use Rattle.sd_names.specs.declared.id.Id.{Id}
use Rattle.sd_names.specs.declared.kinds.Role.{Role}
use Rattle.sd_names.specs.declared.kinds.Role.TheVariants.{Master, Regular}
use Rattle.sd_names.specs.declared.place.Place.{Place}
use Rattle.shared_disk.specs.Content.{Content, File}
use Rattle.domain_meta.specs.Read.{read_domain}
use Rattle.domain_meta.specs.declared.record.DomainRecord.{DomainRecord}
use Rattle.chain_model.specs.Records.{stored_text}
use Rattle.chain_model.proofs.Settled.{is_one}
use Rattle.pool_model.specs.Pool.{Pool}
use Rattle.pool_model.specs.Rules.{text_by, text_of}
use Rattle.pool_model.specs.Standing.{DomainStands, HasDomainText, HasStored, IsBare, ListedStands, MasterStands, Stands, metadata_of}

abbrev pub Said : Type 0
Said = Result DomainRecord DomainFault

same_file : (o : Option File) (f g : File) → o ≡ Some f → o ≡ Some g → f ≡ g
same_file o f g e h = cc

no_file : (o : Option File) (f : File) → o ≡ None → o ≡ Some f → ⊥
no_file o f e h = cc

pub one_stored : (d : Content) (place : Place) (a b : List ℕ) → HasStored d place a → HasStored d place b → a ≡ b
one_stored d place a b x y =
    sym x.stored ∙ ap (λ (f : File). stored_text f) (same_file (d.file place) x.file y.file x.there y.there) ∙ y.stored

pub one_text : (d : Content) (sd : Id) (t u : Said) → HasDomainText d sd t → HasDomainText d sd u → t ≡ u
one_text d sd t u x y = sym x.2 ∙ ap (λ (text : List ℕ). read_domain sd text) (one_stored d (metadata_of sd) x.0 y.0 x.1 y.1) ∙ y.2

-- what a domain's text is, where it is there
abbrev pub TextIs : Content → Id → Option Said → Type 0
TextIs d sd None = d.file (metadata_of sd) ≡ None
TextIs d sd (Some t) = HasDomainText d sd t

pub text_is : (up : Hosts) (d : Content) (p : Pool) (sd : Id) (o : Option DomainRecord) (s : Option Said) → DomainStands up d p sd o s → TextIs d sd (text_by o s)
text_is up d p sd (Some r) s stands = stands.text
text_is up d p sd None (Some t) stands = stands.text
text_is up d p sd None None stands = stands.text

one_is : (d : Content) (sd : Id) (a b : Option Said) → TextIs d sd a → TextIs d sd b → a ≡ b
one_is d sd None None x y = refl
one_is d sd None (Some u) x y = absurd (no_file (d.file (metadata_of sd)) y.1.file x y.1.there)
one_is d sd (Some t) None x y = absurd (no_file (d.file (metadata_of sd)) x.1.file y x.1.there)
one_is d sd (Some t) (Some u) x y = ap (λ (s : Said). Some s) (one_text d sd t u x y)

pub same_text : (up : Hosts) (d : Content) (p q : Pool) (sd : Id) → Stands up d p → Stands up d q → text_of p sd ≡ text_of q sd
same_text up d p q sd x y =
    one_is d sd (text_of p sd) (text_of q sd) (text_is up d p sd (p.domain sd) (p.stray sd) (x.domain sd)) (text_is up d q sd (q.domain sd) (q.stray sd)
    (y.domain sd))

-- ---- the master

not_regular : (r : Role) → r ≡ Master → r ≡ Regular → ⊥
not_regular r e f = cc

no_record : (o : Option DomainRecord) (r : DomainRecord) → o ≡ None → o ≡ Some r → ⊥
no_record o r e f = cc

no_said : (o : Option Said) (r : DomainRecord) → o ≡ None → o ≡ Some (Ok r) → ⊥
no_said o r e f = cc

said_is : (o : Option Said) (t : Said) (r : DomainRecord) → o ≡ Some t → o ≡ Some (Ok r) → t ≡ Ok r
said_is o t r e f = cc

said_one : (o : Option Said) (a b : DomainRecord) → o ≡ Some (Ok a) → o ≡ Some (Ok b) → a ≡ b
said_one o a b e f = cc

-- a listed domain whose text is a master's is the master
listed_master : (p : Pool) (sd : Id) (r : DomainRecord) (o : Option Id) → MasterStands p o → p.domain sd ≡ Some r → r.role ≡ Master → o ≡ Some sd
listed_master p sd r None unmade listed role = absurd (no_record (p.domain sd) r (unmade.domain sd) listed)
listed_master p sd r (Some m) lists listed role = go (is_one sd m)
  where
    go : (sd ≡ m) ⊎ (sd ≢ m) → Some m ≡ Some sd
    go (inl e) = ap (λ (i : Id). Some i) (sym e)
    go (inr other) = absurd (not_regular r.role role (lists.others sd r other listed))

master_by : (up : Hosts) (d : Content) (p : Pool) (sd : Id) (r : DomainRecord) (o : Option DomainRecord) (s : Option Said) → MasterStands p p.master
    → p.domain sd ≡ o → DomainStands up d p sd o s → text_by o s ≡ Some (Ok r) → r.role ≡ Master → p.master ≡ Some sd
master_by up d p sd r (Some a) s lists is stands text role =
    listed_master p sd a p.master lists is (ap (λ (x : DomainRecord). x.role) (said_one (Some (Ok a)) a r refl text) ∙ role)
master_by up d p sd r None (Some t) lists is stands text role = absurd (not_regular r.role role (stands.role r (said_is (Some t) t r refl text)))
master_by up d p sd r None None lists is stands text role = absurd (no_said None r refl text)

pub master_of : (up : Hosts) (d : Content) (p : Pool) (sd : Id) (r : DomainRecord) → Stands up d p → text_of p sd ≡ Some (Ok r) → r.role ≡ Master
    → p.master ≡ Some sd
master_of up d p sd r stands = master_by up d p sd r (p.domain sd) (p.stray sd) stands.master refl (stands.domain sd)

pub listed_text : (p : Pool) (sd : Id) (r : DomainRecord) → p.domain sd ≡ Some r → text_of p sd ≡ Some (Ok r)
listed_text p sd r e = ap (λ (o : Option DomainRecord). text_by o (p.stray sd)) e

-- the master of one is that of the other
passes_master : (up : Hosts) (d : Content) (p q : Pool) (m : Id) → Stands up d p → Stands up d q → p.master ≡ Some m → q.master ≡ Some m
passes_master up d p q m x y e =
    let lists = subst (λ (o : Option Id). MasterStands p o) e x.master in
    master_of up d q m lists.is y (sym (same_text up d p q m x y) ∙ listed_text p m lists.is lists.listed) lists.role

pub one_master : (up : Hosts) (d : Content) (p q : Pool) → Stands up d p → Stands up d q → q.master ≡ p.master
one_master up d p q x y = go p.master q.master refl refl
  where
    some : (o : Option Id) (m : Id) → o ≡ None → o ≡ Some m → ⊥
    some o m e f = cc

    go : (a b : Option Id) → p.master ≡ a → q.master ≡ b → b ≡ a
    go None None e f = refl
    go None (Some m) e f = absurd (some p.master m e (passes_master up d q p m y x f))
    go (Some m) b e f = sym f ∙ passes_master up d p q m x y e

-- ---- the domains that it lists

pub passes_domain : (up : Hosts) (d : Content) (p q : Pool) (sd : Id) (r : DomainRecord) → Stands up d p → Stands up d q → p.domain sd ≡ Some r
    → q.domain sd ≡ Some r
passes_domain up d p q sd r x y listed = go p.master refl
  where
    go : (o : Option Id) → p.master ≡ o → q.domain sd ≡ Some r
    go None e = absurd (no_record (p.domain sd) r ((subst (λ (o : Option Id). MasterStands p o) e x.master).domain sd) listed)
    go (Some m) e =
        let ours = subst (λ (o : Option Id). MasterStands p o) e x.master in
        let theirs = subst (λ (o : Option Id). MasterStands q o) (passes_master up d p q m x y e) y.master in
        let same = said_one (text_of q m) ours.is theirs.is (sym (same_text up d p q m x y)
        ∙ listed_text p m ours.is ours.listed) (listed_text q m theirs.is theirs.listed) in
        let among = subst (λ (s : DomainRecord). Contains s.domains sd) same ((ours.lists sd).1 (r, listed)) in
        let has = (theirs.lists sd).0 among in
        has.1 ∙ ap (λ (s : DomainRecord). Some s)
        (said_one (text_of q sd) has.0 r (listed_text q sd has.0 has.1) (sym (same_text up d p q sd x y) ∙ listed_text p sd r listed))

pub one_domain : (up : Hosts) (d : Content) (p q : Pool) (sd : Id) → Stands up d p → Stands up d q → q.domain sd ≡ p.domain sd
one_domain up d p q sd x y = go (p.domain sd) (q.domain sd) refl refl
  where
    go : (a b : Option DomainRecord) → p.domain sd ≡ a → q.domain sd ≡ b → b ≡ a
    go None None e f = refl
    go None (Some r) e f = absurd (no_record (p.domain sd) r e (passes_domain up d q p sd r y x f))
    go (Some r) b e f = sym f ∙ passes_domain up d p q sd r x y e

-- ---- all others

-- of a domain that isn't listed
pub bare_of : (up : Hosts) (d : Content) (p : Pool) (sd : Id) (o : Option DomainRecord) (s : Option Said) → DomainStands up d p sd o s → o ≡ None
    → IsBare d p sd
bare_of up d p sd (Some r) s stands e = absurd (no_record (Some r) r e refl)
bare_of up d p sd None (Some t) stands e = stands.bare
bare_of up d p sd None None stands e = stands.bare

pub bare_here : (up : Hosts) (d : Content) (p : Pool) (sd : Id) → Stands up d p → p.domain sd ≡ None → IsBare d p sd
bare_here up d p sd stands e = bare_of up d p sd (p.domain sd) (p.stray sd) (stands.domain sd) e

pub listed_here : (up : Hosts) (d : Content) (p : Pool) (sd : Id) (r : DomainRecord) → Stands up d p → p.domain sd ≡ Some r → ListedStands up d p sd r
listed_here up d p sd r stands e = subst (λ (o : Option DomainRecord). DomainStands up d p sd o (p.stray sd)) e (stands.domain sd)

pub one_stray : (up : Hosts) (d : Content) (p q : Pool) (sd : Id) → Stands up d p → Stands up d q → q.stray sd ≡ p.stray sd
one_stray up d p q sd x y = go (p.domain sd) refl
  where
    go : (o : Option DomainRecord) → p.domain sd ≡ o → q.stray sd ≡ p.stray sd
    go (Some r) e = (listed_here up d q sd r y (passes_domain up d p q sd r x y e)).stray ∙ sym (listed_here up d p sd r x e).stray
    go None e =
        let f = one_domain up d p q sd x y ∙ e in
        sym (ap (λ (o : Option DomainRecord). text_by o (q.stray sd)) f) ∙ sym (same_text up d p q sd x y)
        ∙ ap (λ (o : Option DomainRecord). text_by o (p.stray sd)) e

pub one_shows : (up : Hosts) (d : Content) (p q : Pool) (sd : Id) → Stands up d p → Stands up d q → q.shows sd ≡ p.shows sd
one_shows up d p q sd x y = go (p.domain sd) refl
  where
    bools : IsBare d p sd → IsBare d q sd → (a b : Bool) → p.shows sd ≡ a → q.shows sd ≡ b → b ≡ a
    bools m n true true e f = refl
    bools m n false false e f = refl
    bools m n true false e f = absurd (n.hidden f (m.shown e))
    bools m n false true e f = absurd (m.hidden e (n.shown f))

    go : (o : Option DomainRecord) → p.domain sd ≡ o → q.shows sd ≡ p.shows sd
    go (Some r) e = (listed_here up d q sd r y (passes_domain up d p q sd r x y e)).shows ∙ sym (listed_here up d p sd r x e).shows
    go None e = bools (bare_here up d p sd x e) (bare_here up d q sd y (one_domain up d p q sd x y ∙ e)) (p.shows sd) (q.shows sd) refl refl
