-- The outcomes of a file after an exchange and after it was raised.
use Rattle.std.proofs.Common.{◌≡◌, ◌≢◌, ℕ, ◌<◌, ◌≤◌, ◌==◌, Bool, true, false, nat_lt, List, [], ◌∷◌, None, eq-eqb, eqb-true, refl, sym, ap, subst, ◌∙◌, inl, inr, arith}
use Rattle.std.specs.List.{Contains}
use Rattle.std.proofs.lemmas.Bool.{false≢true}
use Rattle.std.proofs.lemmas.Bool.Decides.{Decides-ltb}
use Rattle.shared_disk.specs.Content.{File, Loose, zero_sector}
use Rattle.shared_disk.specs.Changes.{IsChangedAt, apart_from, exchanged, raised}
use Rattle.shared_disk.specs.Crash.{IsOutcomeSector, IsFileOutcome}
use Rattle.shared_disk.proofs.Places.{not_false}
use Rattle.shared_disk.proofs.Outcomes.{contains_here, contains_more, cons_cases, nothing_in, no_host}

-- a write of another sector among some
pub record IsApart (sector : ℕ) (ls : List Loose) (m : Loose) : Type 0 where
  pub among : Contains ls m
  pub other : m.sector ≢ sector

apart_step : (sector : ℕ) (l m : Loose) (ls : List Loose) (t : Bool) → (l.sector == sector) ≡ t → (Contains (apart_from sector ls) m → IsApart sector ls m)
    → Contains (apart_from sector (l ∷ ls)) m → IsApart sector (l ∷ ls) m
apart_step sector l m ls true t more h = let w = more (rw t at h) in record { among = contains_more l m ls w.among; other = w.other }
apart_step sector l m ls false t more h =
    elim (cons_cases l m (apart_from sector ls) (rw t at h)) [
      | inl e ↦ record {
        among = subst (λ (x : Loose). Contains (l ∷ ls) x) e (contains_here l ls);
        other = λ u. false≢true (sym t ∙ eq-eqb l.sector sector (ap (λ (x : Loose). x.sector) e ∙ u));
      }
      | inr g ↦ (let w = more g in record { among = contains_more l m ls w.among; other = w.other })
    ]

pub apart_among : (sector : ℕ) (ls : List Loose) (m : Loose) → Contains (apart_from sector ls) m → IsApart sector ls m
apart_among sector [] m h = absurd (nothing_in m h)
apart_among sector (l ∷ ls) m h = apart_step sector l m ls (l.sector == sector) refl (apart_among sector ls m) h

exchanged_here : (sector : ℕ) (next : List ℕ) (f : File) (b : List ℕ) → f.fresh ≡ None → IsOutcomeSector (exchanged sector next f) sector b → b ≡ next
exchanged_here sector next f b old (inl e) = rw (eq-eqb sector sector refl) at e
exchanged_here sector next f b old (inr (inl w)) = absurd ((apart_among sector f.loose w.0 w.1).other w.2)
exchanged_here sector next f b old (inr (inr w)) = absurd (no_host w.0.0 (sym old ∙ w.0.1))

exchanged_other : (sector k : ℕ) (next : List ℕ) (f : File) (b : List ℕ) → k ≢ sector → IsOutcomeSector (exchanged sector next f) k b → IsOutcomeSector f k b
exchanged_other sector k next f b apart (inl e) = inl (rw (not_false (k == sector) (λ t. apart (eqb-true k sector t))) at e)
exchanged_other sector k next f b apart (inr (inl w)) = inr (inl (w.0, (apart_among sector f.loose w.0 w.1).among, w.2, w.3))
exchanged_other sector k next f b apart (inr (inr w)) = inr (inr w)

-- the outcome from before
record Before (sector k : ℕ) (f : File) (b : List ℕ) : Type 0 where
  was : List ℕ
  outcome : IsOutcomeSector f k was
  same : k ≢ sector → b ≡ was

before : (sector k : ℕ) (next : List ℕ) (f : File) (b : List ℕ) → IsOutcomeSector (exchanged sector next f) k b → (t : Bool) → (k == sector) ≡ t → Before sector k f b
before sector k next f b w true t = record { was = f.stable k; outcome = inl refl; same = λ apart. absurd (apart (eqb-true k sector t)) }
before sector k next f b w false t = record { was = b; outcome = exchanged_other sector k next f b (λ e. false≢true (sym t ∙ eq-eqb k sector e)) w; same = λ apart. refl }

pub exchanged_file : (sector : ℕ) (next : List ℕ) (f g : File) → f.fresh ≡ None → IsFileOutcome (exchanged sector next f) g → (o : File) × IsFileOutcome f o × IsChangedAt sector next o g
exchanged_file sector next f g old w =
    let all : (k : ℕ) → Before sector k f (g.stable k) = λ k. before sector k next f (g.stable k) (w.sectors k) (k == sector) refl in (
      record { size = g.size; stable = λ k. (all k).was; loose = []; fresh = None },
      record { size = w.size; sectors = λ k. (all k).outcome; settled = record { loose = refl; fresh = refl } },
      record { size = refl; here = exchanged_here sector next f (g.stable sector) old (w.sectors sector); others = λ k apart. (all k).same apart },
    )

-- a file that was raised
pub raised_old : (size k : ℕ) (f : File) (b : List ℕ) → k < f.size → IsOutcomeSector (raised size f) k b → IsOutcomeSector f k b
raised_old size k f b below (inl e) = let t : nat_lt k f.size ≡ true = (Decides-ltb k f.size).1 below in inl (rw t at e)
raised_old size k f b below (inr w) = inr w

pub raised_new : (size k : ℕ) (f : File) (b : List ℕ) → f.size ≤ k → f.fresh ≡ None → ((l : Loose) → Contains f.loose l → l.sector < f.size) → IsOutcomeSector (raised size f) k b → b ≡ zero_sector
raised_new size k f b past old within (inl e) = rw (not_false (nat_lt k f.size) (λ t. let lt = (Decides-ltb k f.size).0 t in omega (arith, lt, past))) at e
raised_new size k f b past old within (inr (inl w)) = let lt = within w.0 w.1 in absurd (omega (arith, lt, past, w.2))
raised_new size k f b past old within (inr (inr w)) = absurd (no_host w.0.0 (sym old ∙ w.0.1))
