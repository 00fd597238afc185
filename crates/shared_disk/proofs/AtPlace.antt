-- What stands at one place of a folder, and on its outcomes.
use Rattle.std.proofs.Common.{◌≡◌, Bool, true, false, Option, Some, None, refl, sym, ap, subst, ◌∙◌}
use Rattle.std.specs.Option.{option_map}
use Rattle.std.proofs.lemmas.Bool.{false≢true}
use Rattle.std.proofs.lemmas.Option.{none-some, same_Some}
use Rattle.sd_names.specs.declared.place.Place.{Place}
use Rattle.shared_disk.specs.Calls.{IsPut}
use Rattle.shared_disk.specs.Content.{Content, File}
use Rattle.shared_disk.specs.Crash.{IsAlso, IsFileOutcome, IsOutcome, IsSettled, stable_file, stable_folder, with_file}
use Rattle.shared_disk.specs.Places.{place_is}
use Rattle.shared_disk.proofs.Outcomes.{settled_file, stable_folder_outcome, with_here, with_outcome}
use Rattle.shared_disk.proofs.Places.{place_is-itself, place_is-same}

-- a file isn't there and there
pub no_file : (f : File) (o : Option File) → o ≡ None → o ≡ Some f → ⊥
no_file f o gone there = none-some f (sym gone ∙ there)

-- one file stands at a place
pub one_file : (f g : File) (o : Option File) → o ≡ Some f → o ≡ Some g → f ≡ g
one_file f g o first second = same_Some f g (sym first ∙ second)

-- where a file is there, its related one is; where none is, there is none
pub also_some : (R : File → File → Type 0) (a b : Option File) (f : File) → IsAlso R a b → a ≡ Some f → (g : File) × (b ≡ Some g) × R f g
also_some R None b f w e = absurd (none-some f e)
also_some R (Some h) None f w e = absurd w
also_some R (Some h) (Some g) f w e = (g, refl, subst (λ (x : File). R x g) (same_Some h f e) w)

pub also_none : (R : File → File → Type 0) (a b : Option File) → IsAlso R a b → a ≡ None → b ≡ None
also_none R None None w e = refl
also_none R None (Some g) w e = absurd w
also_none R (Some f) b w e = absurd (none-some f (sym e))

-- a file with nothing unsynced is on each outcome as it is
pub settled_stays : (d o : Content) (p : Place) (f : File) → d.file p ≡ Some f → IsSettled f → IsOutcome d o → o.file p ≡ Some f
settled_stays d o p f there settled out =
    let got = also_some IsFileOutcome (d.file p) (o.file p) f (out.files p) there in
    got.1 ∙ ap (λ (g : File). Some g) (settled_file f got.0 settled got.2)

kept_step : (d e o : Content) (p : Place) (was : Option File) → d.file p ≡ was → e.file p ≡ was → IsOutcome e o → (b : Content) × IsOutcome d b × (o.file p ≡ b.file p)
kept_step d e o p None before after out =
    (stable_folder d, stable_folder_outcome d, also_none IsFileOutcome (e.file p) (o.file p) (out.files p) after ∙ sym (ap (λ (x : Option File). option_map stable_file x) before))
kept_step d e o p (Some f) before after out =
    let got = also_some IsFileOutcome (e.file p) (o.file p) f (out.files p) after in
    let b : Content = with_file p got.0 (stable_folder d) in
    (b, with_outcome d (stable_folder d) p f got.0 before got.2 (stable_folder_outcome d), got.1 ∙ sym (with_here (stable_folder d) p got.0))

-- a file that a call left as it was is on each outcome what it was on some outcome before
pub kept_on_each : (d e o : Content) (p : Place) → e.file p ≡ d.file p → IsOutcome e o → (b : Content) × IsOutcome d b × (o.file p ≡ b.file p)
kept_on_each d e o p same out = kept_step d e o p (d.file p) refl same out

-- what is put at a place where it stands already changes nothing
put_step : (d e : Content) (p q : Place) (t : Bool) → place_is q p ≡ t → IsPut d p (d.file p) e → e.file q ≡ d.file q
put_step d e p q true t put = let same = place_is-same q p t in ap (λ (x : Place). e.file x) same ∙ put.here ∙ ap (λ (x : Place). d.file x) (sym same)
put_step d e p q false t put = put.others q (λ same. false≢true (sym t ∙ ap (λ (x : Place). place_is x p) same ∙ place_is-itself p))

pub put_same : (d e : Content) (p : Place) → IsPut d p (d.file p) e → e ≡ d
put_same d e p put = λ i. record { dir = λ q. put.dirs q i; file = λ q. put_step d e p q (place_is q p) refl put i }

pub put_same_file : (d e : Content) (p : Place) (f g : File) → d.file p ≡ Some f → g ≡ f → IsPut d p (Some g) e → e ≡ d
put_same_file d e p f g there same put =
    put_same d e p (subst (λ (o : Option File). IsPut d p o e) (ap (λ (x : File). Some x) same ∙ sym there) put)
