-- The outcomes of a folder after a rename and after a removal, and what a host that has nothing unsynced in a file leaves.
use Rattle.std.proofs.Common.{◌≡◌, ◌≢◌, ℕ, ◌==◌, Bool, true, false, if◌then◌else◌, List, [], ◌∷◌, Option, Some, None, eq-eqb, eqb-true, refl, sym, ap, subst, ◌∙◌, inl, inr}
use Rattle.std.specs.List.{Contains}
use Rattle.std.proofs.lemmas.Bool.{false≢true}
use Rattle.std.proofs.lemmas.Option.{none-some}
use Rattle.sd_names.specs.declared.place.Place.{Place}
use Rattle.shared_disk.specs.Calls.{IsPut}
use Rattle.shared_disk.specs.Content.{Content, File, Loose, Sees, own_of, seen, unless_by, without}
use Rattle.shared_disk.specs.Crash.{IsAlso, IsDownFile, IsDownSector, IsFileOutcome, IsOutcome, stable_folder, with_file}
use Rattle.shared_disk.specs.NameCalls.{IsRenamed}
use Rattle.shared_disk.specs.Places.{place_is}
use Rattle.shared_disk.proofs.AtPlace.{also_none, also_some}
use Rattle.shared_disk.proofs.Outcomes.{cons_cases, contains_here, contains_more, frame, nothing_in, stable_folder_outcome, with_outcome, without_keeps}
use Rattle.shared_disk.proofs.Places.{place_is-apart, place_is-itself, place_is-same}

-- the folder before a rename: the file at its old name, and what was to go at the new one
renamed_back : Place → Place → Content → Content → Content
renamed_back from to d o = record { dir = o.dir; file = λ q. if place_is q from then o.file to else (if place_is q to then (stable_folder d).file q else o.file q) }

back_step : (d e o : Content) (from to q : Place) (a b : Bool) → place_is q from ≡ a → place_is q to ≡ b → IsRenamed d from to e → IsOutcome e o
    → IsAlso IsFileOutcome (d.file q) (if place_is q from then o.file to else (if place_is q to then (stable_folder d).file q else o.file q))
back_step d e o from to q true b s t moved out =
    let was : d.file q ≡ e.file to = ap (λ (p : Place). d.file p) (place_is-same q from s) ∙ moved.file.1 ∙ sym moved.file.2 in
    rw s (subst (λ (x : Option File). IsAlso IsFileOutcome x (o.file to)) (sym was) (out.files to))
back_step d e o from to q false true s t moved out = rw (s, t) ((stable_folder_outcome d).files q)
back_step d e o from to q false false s t moved out =
    let same : e.file q ≡ d.file q = moved.others q (λ u. false≢true (sym s ∙ subst (λ (p : Place). place_is q p ≡ true) u (place_is-itself q))) (λ u. false≢true (sym t ∙ subst (λ (p : Place). place_is q p ≡ true) u (place_is-itself q))) in
    rw (s, t) (subst (λ (x : Option File). IsAlso IsFileOutcome x (o.file q)) same (out.files q))

-- an outcome after a rename is one from before with the file at its new name
pub rename_outcome : (d e o : Content) (from to : Place) → IsRenamed d from to e → IsOutcome e o → (b : Content) × IsOutcome d b × IsRenamed b from to o
unfolding renamed_back
rename_outcome d e o from to moved out =
    let now = also_some IsFileOutcome (e.file to) (o.file to) moved.file.0 (out.files to) moved.file.2 in (
      renamed_back from to d o,
      record { dirs = λ q. out.dirs q ∙ moved.dirs q; files = λ q. back_step d e o from to q (place_is q from) (place_is q to) refl refl moved out },
      record {
        file = (now.0, (let t : place_is from from ≡ true = place_is-itself from in rw t now.1), now.1);
        gone = also_none IsFileOutcome (e.file from) (o.file from) (out.files from) moved.gone;
        dirs = λ q. refl;
        others = λ q h k. (let s : place_is q from ≡ false = place_is-apart q from h in let t : place_is q to ≡ false = place_is-apart q to k in rw (s, t) refl);
      },
    )

-- an outcome after a removal is one from before without the file, whichever outcome the file had
pub remove_outcome : (d e o : Content) (p : Place) (f g : File) → d.file p ≡ Some f → IsPut d p None e → IsFileOutcome f g → IsOutcome e o → IsOutcome d (with_file p g o) × IsPut (with_file p g o) p None o
remove_outcome d e o p f g was put w out =
    let h = frame d e o p f g None put was w out in
    let none : o.file p ≡ None = also_none IsFileOutcome (e.file p) (o.file p) (out.files p) put.here in
    (h.0, record { dirs = h.1.dirs; here = none; others = h.1.others })

-- outcomes of two files are on one outcome of the folder
pub two_outcomes : (d : Content) (p q : Place) (f g x y : File) → d.file p ≡ Some f → d.file q ≡ Some g → IsFileOutcome f x → IsFileOutcome g y → IsOutcome d (with_file p x (with_file q y (stable_folder d)))
two_outcomes d p q f g x y at by w v = with_outcome d (with_file q y (stable_folder d)) p f x at w (with_outcome d (stable_folder d) q g y by v (stable_folder_outcome d))

-- a host with a write of a sector sees one of its own
own_step : (host k : ℕ) (l m : Loose) (ls : List Loose) (a b : Bool) → (m.host == host) ≡ a → (m.sector == k) ≡ b → l.host ≡ host → l.sector ≡ k → Contains (m ∷ ls) l
    → (Contains ls l → own_of host k ls ≡ None → ⊥) → own_of host k (m ∷ ls) ≡ None → ⊥
own_step host k l m ls true true s t by at h more e = none-some m.bytes (sym (rw (s, t) at e))
own_step host k l m ls true false s t by at h more e =
    elim (cons_cases m l ls h) [ inl u ↦ false≢true (sym t ∙ eq-eqb m.sector k (ap (λ (x : Loose). x.sector) u ∙ at)) | inr g ↦ more g (rw (s, t) at e) ]
own_step host k l m ls false b s t by at h more e =
    elim (cons_cases m l ls h) [ inl u ↦ false≢true (sym s ∙ eq-eqb m.host host (ap (λ (x : Loose). x.host) u ∙ by)) | inr g ↦ more g (rw s at e) ]

pub own_there : (host k : ℕ) (l : Loose) (ls : List Loose) → l.host ≡ host → l.sector ≡ k → Contains ls l → own_of host k ls ≡ None → ⊥
own_there host k l [] by at h e = nothing_in l h
own_there host k l (m ∷ ls) by at h e = own_step host k l m ls (m.host == host) (m.sector == k) refl refl by at h (λ g u. own_there host k l ls by at g u) e

-- a host alone sees one value
pub alone_sees : (host k : ℕ) (f : File) (bytes : List ℕ) → without host f.loose ≡ [] → Sees host f k bytes → bytes ≡ seen host f k
alone_sees host k f bytes alone (inl e) = e
alone_sees host k f bytes alone (inr w) =
    let other : w.1.0.host ≢ host = λ u. own_there host k w.1.0 f.loose u w.1.2 w.1.1 w.0 in
    absurd (nothing_in w.1.0 (subst (λ (ls : List Loose). Contains ls w.1.0) alone (without_keeps host f.loose w.1.0 other w.1.1)))

-- nothing of a host
kept_step : (host : ℕ) (l : Loose) (ls : List Loose) (b : Bool) → (l.host == host) ≡ b → ((m : Loose) → Contains (l ∷ ls) m → m.host ≢ host) → without host ls ≡ ls → without host (l ∷ ls) ≡ l ∷ ls
kept_step host l ls true t none h = absurd (none l (contains_here l ls) (eqb-true l.host host t))
kept_step host l ls false t none h = rw t (ap (λ (ms : List Loose). l ∷ ms) h)

all_kept : (host : ℕ) (ls : List Loose) → ((m : Loose) → Contains ls m → m.host ≢ host) → without host ls ≡ ls
all_kept host [] none = refl
all_kept host (l ∷ ls) none = kept_step host l ls (l.host == host) refl none (all_kept host ls (λ m h. none m (contains_more l m ls h)))

unless_step : (host x : ℕ) (b : Bool) → (x == host) ≡ b → x ≢ host → unless_by host (Some x) ≡ Some x
unless_step host x true t apart = absurd (apart (eqb-true x host t))
unless_step host x false t apart = rw t refl

unless_kept : (host : ℕ) (o : Option ℕ) → o ≢ Some host → unless_by host o ≡ o
unless_kept host None apart = refl
unless_kept host (Some x) apart = unless_step host x (x == host) refl (λ e. apart (ap (λ (n : ℕ). Some n) e))

same_sector : (host k : ℕ) (f : File) (b : List ℕ) → ((m : Loose) → Contains f.loose m → m.host ≢ host) → f.fresh ≢ Some host → IsDownSector host f k b → b ≡ f.stable k
same_sector host k f b none old (inl w) = absurd (old w.0)
same_sector host k f b none old (inr (inl e)) = e
same_sector host k f b none old (inr (inr w)) = absurd (none w.0 w.1 w.2)

-- a host that has nothing unsynced in a file leaves it as it is
pub down_same : (host : ℕ) (f g : File) → ((m : Loose) → Contains f.loose m → m.host ≢ host) → f.fresh ≢ Some host → IsDownFile host f g → g ≡ f
down_same host f g none old down =
    let size : g.size ≡ f.size = down.size in
    let stable : (k : ℕ) → g.stable k ≡ f.stable k = λ k. same_sector host k f (g.stable k) none old (down.sectors k) in
    let loose : g.loose ≡ f.loose = down.loose ∙ all_kept host f.loose none in
    let fresh : g.fresh ≡ f.fresh = down.fresh ∙ unless_kept host f.fresh old in
    λ i. record { size = size i; stable = λ k. stable k i; loose = loose i; fresh = fresh i }
