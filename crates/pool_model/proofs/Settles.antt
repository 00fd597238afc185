-- Without a host that is up nothing is unsynced.
use Rattle.std.proofs.Common.{◌≡◌, ℕ, true, List, [], ◌∷◌, Option, Some, None, refl, sym, subst, ◌∙◌}
use Rattle.std.specs.Prelude.{Contains}
use Rattle.std.proofs.lemmas.Bool.{false≢true}
use Rattle.sd_names.specs.UpSet.{Hosts, is_up}
use Rattle.sd_names.specs.declared.id.Id.{Id}
use Rattle.shared_disk.specs.Content.{Content, File, Loose}
use Rattle.shared_disk.specs.Crash.{IsAllSettled, IsSettled}
use Rattle.shared_disk.proofs.Outcomes.{contains_here}
use Rattle.domain_meta.specs.declared.record.DomainRecord.{DomainRecord}
use Rattle.pool_model.specs.Laws.{IsClaimed, Nobody}
use Rattle.pool_model.specs.Pool.{Image, Pool, Torn}
use Rattle.pool_model.specs.Standing.{IsAlive, IsTornBy, Stands}

no_host : (up : Hosts) (h : ℕ) → Nobody up → is_up up h ≡ true → ⊥
no_host up h nobody there = false≢true (sym (nobody h) ∙ there)

pub no_loose : (up : Hosts) → Nobody up → (ls : List Loose) → ((l : Loose) → Contains ls l → is_up up l.host ≡ true) → ls ≡ []
no_loose up nobody [] all = refl
no_loose up nobody (l ∷ ls) all = absurd (no_host up l.host nobody (all l (contains_here l ls)))

no_fresh : (up : Hosts) → Nobody up → (o : Option ℕ) → ((h : ℕ) → o ≡ Some h → is_up up h ≡ true) → o ≡ None
no_fresh up nobody None all = refl
no_fresh up nobody (Some h) all = absurd (no_host up h nobody (all h refl))

alive_settled : (up : Hosts) → Nobody up → (f : File) → IsAlive up f → IsSettled f
alive_settled up nobody f alive = record { loose = no_loose up nobody f.loose alive.loose; fresh = no_fresh up nobody f.fresh alive.fresh }

pub all_settled : (up : Hosts) (d : Content) (p : Pool) → Nobody up → Stands up d p → IsAllSettled d
all_settled up d p nobody stands q f there = alive_settled up nobody f (stands.alive q f there)

no_torn : (up : Hosts) (p : Pool) (sd i : Id) → Nobody up → (o : Option Torn) → IsTornBy up p sd i o → o ≡ None
no_torn up p sd i nobody None by = refl
no_torn up p sd i nobody (Some t) by = absurd (no_host up by.0 nobody by.2)

pub same_image : (o : Option Image) (m n : Image) → o ≡ Some m → o ≡ Some n → n ≡ m
same_image o m n e f = cc

pub untorn : (up : Hosts) (d : Content) (p : Pool) (sd i : Id) (r : DomainRecord) (m : Image) → Nobody up → Stands up d p → IsClaimed p sd i r m → m.torn ≡ None
untorn up d p sd i r m nobody stands claimed =
    let is = (stands.image sd r claimed.listed i).there claimed.named claimed.idle in
    subst (λ (n : Image). n.torn ≡ None) (same_image (p.image sd i) m is.0 claimed.image is.1.image) (no_torn up p sd i nobody is.0.torn is.1.torn)
