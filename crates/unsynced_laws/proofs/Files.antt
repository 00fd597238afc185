-- Whose unsynced writes a file has once it was changed.
use Rattle.std.proofs.Common.{◌≡◌, ◌≢◌, ◌⊎◌, ℕ, ◌==◌, ◌&&◌, not, Bool, true, false, nat_lt, if◌then◌else◌, List, [], ◌∷◌, Option, Some, None, refl, sym, ap, subst, ◌∙◌, inl, inr, arith}
use Rattle.std.proofs.lemmas.Bool.{false≢true}
use Rattle.std.proofs.lemmas.Bool.Decides.{nat_tests}
use Rattle.std.proofs.lemmas.List.Elements.{Contains-append_cases}
use Rattle.std.specs.Prelude.{Contains}
use Rattle.shared_disk.specs.Calls.{created, sectors_in, synced, wrote}
use Rattle.shared_disk.specs.Changes.{exchanged, grown, raised}
use Rattle.shared_disk.specs.Content.{File, Loose, unless_by, without, writes}
use Rattle.shared_disk.specs.Crash.{IsDownFile, IsDownSector, IsSettledFor}
use Rattle.shared_disk.proofs.Changes.{apart_among}
use Rattle.shared_disk.proofs.Outcomes.{contains_here, contains_more, nothing_in, unless_some, without_among, without_apart, writes_among}
use Rattle.shared_disk.proofs.OwnWrites.{others_fail}
use Rattle.unsynced_laws.specs.Unsynced.{IsOnlyOf, but}

some_is : (host h : ℕ) → ◌≡◌ {A = Option ℕ} (Some host) (Some h) → host ≡ h
some_is host h e = cc

none_some : (h : ℕ) → ◌≡◌ {A = Option ℕ} None (Some h) → ⊥
none_some h e = cc

-- the host that made a file, where it isn't this one
unless_step : (host h m : ℕ) (b : Bool) → (m == host) ≡ b → (if b then None else Some m) ≡ Some h → h ≢ host
unless_step host h m true e is = absurd (none_some h is)
unless_step host h m false e is = λ same. false≢true (sym e ∙ ap (λ (n : ℕ). n == host) (some_is m h is ∙ same) ∙ itself host)
  where
    itself : (k : ℕ) → (k == k) ≡ true
    itself k = grind (arith, nat_tests)

unless_not : (host h : ℕ) (o : Option ℕ) → unless_by host o ≡ Some h → h ≢ host
unless_not host h None is = absurd (none_some h is)
unless_not host h (Some m) is = unless_step host h m (m == host) refl is

module _ (those : ℕ → Bool) where
  module _ (f : File) (x : IsOnlyOf those f) where
    pub wrote_only : (did : ℕ → Bool) (host at : ℕ) (bytes : List ℕ) → those host ≡ true → IsOnlyOf those (wrote did host at bytes f)
    wrote_only did host at bytes own = record {
      loose = λ l among. go l (Contains-append_cases (writes did host at bytes (sectors_in bytes)) f.loose l among);
      fresh = x.fresh;
    }
      where
        go : (l : Loose) → Contains (writes did host at bytes (sectors_in bytes)) l ⊎ Contains f.loose l → those l.host ≡ true
        go l (inl new) =
            let w = writes_among did host at bytes (sectors_in bytes) l new in ap (λ (m : Loose). those m.host) (sym w.is) ∙ own
        go l (inr old) = x.loose l old

    pub synced_only : (host : ℕ) → IsOnlyOf those (synced host f)
    synced_only host = record {
      loose = λ l among. x.loose l (without_among host f.loose l among);
      fresh = λ h is. x.fresh h (unless_some host h f.fresh is);
    }

    pub exchanged_only : (sector : ℕ) (next : List ℕ) → IsOnlyOf those (exchanged sector next f)
    exchanged_only sector next = record {
      loose = λ l among. x.loose l (apart_among sector f.loose l among).among;
      fresh = x.fresh;
    }

    pub grown_only : (size : ℕ) → IsOnlyOf those (grown size f)
    grown_only size = go (nat_lt f.size size)
      where
        go : (b : Bool) → IsOnlyOf those (if b then raised size f else f)
        go true = record { loose = x.loose; fresh = x.fresh }
        go false = x

    -- a host that went down
    pub down_only : (host : ℕ) (g : File) → IsDownFile host f g → IsOnlyOf (but those host) g
    down_only host g down = record {
      loose = λ l among. let was = subst (λ (ls : List Loose). Contains ls l) down.loose among in
          other l.host (x.loose l (without_among host f.loose l was)) (without_apart host f.loose l was);
      fresh = λ h is. let was = sym down.fresh ∙ is in other h (x.fresh h (unless_some host h f.fresh was)) (unless_not host h f.fresh was);
    }
      where
        other : (h : ℕ) → those h ≡ true → h ≢ host → (those h && not (h == host)) ≡ true
        other h one apart = ap (λ (b : Bool). b && not (h == host)) one ∙ ap (λ (b : Bool). not b) (others_fail h host apart)

  pub created_only : (host size : ℕ) → those host ≡ true → IsOnlyOf those (created host size)
  created_only host size own = record {
    loose = λ l among. absurd (nothing_in l among);
    fresh = λ h is. ap those (sym (some_is host h is)) ∙ own;
  }

-- ---- a file of others

without_same : (host : ℕ) (ls : List Loose) → ((l : Loose) → Contains ls l → l.host ≢ host) → without host ls ≡ ls
without_same host [] apart = refl
without_same host (l ∷ ls) apart =
    ap (λ (b : Bool). if b then without host ls else l ∷ without host ls) (others_fail l.host host (apart l (contains_here l ls)))
    ∙ ap (λ (ms : List Loose). l ∷ ms) (without_same host ls (λ m among. apart m (contains_more l m ls among)))

unless_same : (host : ℕ) (o : Option ℕ) → o ≢ Some host → unless_by host o ≡ o
unless_same host None apart = refl
unless_same host (Some m) apart =
    ap (λ (b : Bool). if b then None else Some m) (others_fail m host (λ same. apart (ap (λ (n : ℕ). Some n) same)))

pub file_of_others : (f g : File) (host : ℕ) → IsSettledFor host f → IsDownFile host f g → g ≡ f
file_of_others f g host s down =
    let stable : (k : ℕ) → g.stable k ≡ f.stable k = λ k. sector k (down.sectors k) in
    let size : g.size ≡ f.size = down.size in
    let loose : g.loose ≡ f.loose = down.loose ∙ without_same host f.loose s.loose in
    let fresh : g.fresh ≡ f.fresh = down.fresh ∙ unless_same host f.fresh s.fresh in
    λ i. record { size = size i; stable = λ k. stable k i; loose = loose i; fresh = fresh i }
  where
    sector : (k : ℕ) → IsDownSector host f k (g.stable k) → g.stable k ≡ f.stable k
    sector k (inl made) = absurd (s.fresh made.0)
    sector k (inr (inl same)) = same
    sector k (inr (inr w)) = absurd (s.loose w.0 w.1 w.2)
