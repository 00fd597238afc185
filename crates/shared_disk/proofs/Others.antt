-- What a host sees of a file in which other hosts write, and what it puts onto the medium there, sector by sector.
use Rattle.std.proofs.Common.{◌≡◌, ◌≢◌, ℕ, zero, suc, ◌+◌, ◌<◌, ◌==◌, Bool, true, false, nat_lt, List, [], ◌∷◌, ◌++◌, if◌then◌else◌, Option, Some, None, unwrap_or, eq-eqb, eqb-true, refl, sym, ap, subst, ◌∙◌, inl, inr}
use Rattle.std.specs.List.{Contains}
use Rattle.std.proofs.lemmas.Bool.{false≢true}
use Rattle.std.proofs.lemmas.Bool.Decides.{Decides-ltb}
use Rattle.shared_disk.specs.Calls.{sectors_in, synced, wrote}
use Rattle.shared_disk.specs.Changes.{apart_from, exchanged, raised}
use Rattle.shared_disk.specs.Content.{File, Loose, own_of, sector_of, seen, without, writes}
use Rattle.shared_disk.specs.Crash.{IsAlone, IsAloneAt, IsDownFile, IsDownSector, IsFileOutcome, IsOutcomeSector}
use Rattle.shared_disk.proofs.NameOutcomes.{own_there}
use Rattle.shared_disk.proofs.Outcomes.{no_host, nothing_in, without_among, without_apart, without_keeps}
use Rattle.shared_disk.proofs.OwnWrites.{others_fail}

-- a write of another host isn't a host's own
other_step : (host k : ℕ) (b : Bool) (l : Loose) (rest ls : List Loose) → (l.host == host) ≡ false → own_of host k (rest ++ ls) ≡ own_of host k ls
    → own_of host k ((if b then l ∷ rest else rest) ++ ls) ≡ own_of host k ls
other_step host k true l rest ls other more = rw other more
other_step host k false l rest ls other more = more

pub others_write : (did : ℕ → Bool) (host other at k n : ℕ) (bytes : List ℕ) (ls : List Loose) → host ≢ other → own_of host k (writes did other at bytes n ++ ls) ≡ own_of host k ls
others_write did host other at k zero bytes ls apart = refl
others_write did host other at k (suc n) bytes ls apart =
    other_step host k (did n) (record { host = other; sector = at + n; bytes = sector_of bytes n }) (writes did other at bytes n) ls (others_fail other host (λ e. apart (sym e)))
    (others_write did host other at k n bytes ls apart)

without_step : (host other k : ℕ) (l : Loose) (ls : List Loose) (t : Bool) → (l.host == other) ≡ t → host ≢ other → own_of host k (without other ls) ≡ own_of host k ls
    → own_of host k (without other (l ∷ ls)) ≡ own_of host k (l ∷ ls)
without_step host other k l ls true t apart more =
    let not_own : (l.host == host) ≡ false = others_fail l.host host (λ e. apart (sym e ∙ eqb-true l.host other t)) in rw (t, not_own) more
without_step host other k l ls false t apart more = rw (t, more) refl

-- the writes of another host may go
pub others_go : (host other k : ℕ) (ls : List Loose) → host ≢ other → own_of host k (without other ls) ≡ own_of host k ls
others_go host other k [] apart = refl
others_go host other k (l ∷ ls) apart = without_step host other k l ls (l.host == other) refl apart (others_go host other k ls apart)

sector_step : (host sector k : ℕ) (l : Loose) (ls : List Loose) (s t : Bool) → (l.sector == sector) ≡ s → (l.host == host) ≡ t → k ≢ sector → own_of host k (apart_from sector ls) ≡ own_of host k ls
    → own_of host k (apart_from sector (l ∷ ls)) ≡ own_of host k (l ∷ ls)
sector_step host sector k l ls true true s t apart more =
    let not_here : (l.sector == k) ≡ false = others_fail l.sector k (λ e. apart (sym e ∙ eqb-true l.sector sector s)) in rw (s, t, not_here) more
sector_step host sector k l ls true false s t apart more = rw (s, t) more
sector_step host sector k l ls false t s u apart more = rw (s, more) refl

-- and those of another sector
pub other_sectors_go : (host sector k : ℕ) (ls : List Loose) → k ≢ sector → own_of host k (apart_from sector ls) ≡ own_of host k ls
other_sectors_go host sector k [] apart = refl
other_sectors_go host sector k (l ∷ ls) apart = sector_step host sector k l ls (l.sector == sector) (l.host == host) refl refl apart (other_sectors_go host sector k ls apart)

-- what a host sees of a sector stays
pub seen_after_write : (did : ℕ → Bool) (host other at k : ℕ) (bytes : List ℕ) (f : File) → host ≢ other → seen host (wrote did other at bytes f) k ≡ seen host f k
seen_after_write did host other at k bytes f apart =
    ap (λ (o : Option (List ℕ)). unwrap_or o (f.stable k)) (others_write did host other at k (sectors_in bytes) bytes f.loose apart)

pub seen_after_sync : (host other k : ℕ) (f : File) → host ≢ other → own_of other k f.loose ≡ None → seen host (synced other f) k ≡ seen host f k
seen_after_sync host other k f apart none =
    ap (λ (o : Option (List ℕ)). unwrap_or o (unwrap_or (own_of other k f.loose) (f.stable k))) (others_go host other k f.loose apart)
    ∙ ap (λ (o : Option (List ℕ)). unwrap_or (own_of host k f.loose) (unwrap_or o (f.stable k))) none

stable_after_down : (other k : ℕ) (f : File) (b : List ℕ) → own_of other k f.loose ≡ None → f.fresh ≢ Some other → IsDownSector other f k b → b ≡ f.stable k
stable_after_down other k f b none made (inl w) = absurd (made w.0)
stable_after_down other k f b none made (inr (inl e)) = e
stable_after_down other k f b none made (inr (inr w)) = absurd (own_there other k w.0 f.loose w.2 w.3 w.1 none)

pub seen_after_down : (host other k : ℕ) (f g : File) → host ≢ other → own_of other k f.loose ≡ None → f.fresh ≢ Some other → IsDownFile other f g → seen host g k ≡ seen host f k
seen_after_down host other k f g apart none made down =
    ap (λ (ls : List Loose). unwrap_or (own_of host k ls) (g.stable k)) down.loose
    ∙ ap (λ (o : Option (List ℕ)). unwrap_or o (g.stable k)) (others_go host other k f.loose apart)
    ∙ ap (λ (b : List ℕ). unwrap_or (own_of host k f.loose) b) (stable_after_down other k f (g.stable k) none made (down.sectors k))

pub seen_after_exchange : (host sector k : ℕ) (next : List ℕ) (f : File) → k ≢ sector → seen host (exchanged sector next f) k ≡ seen host f k
seen_after_exchange host sector k next f apart =
    let other : (k == sector) ≡ false = others_fail k sector apart in
    ap (λ (o : Option (List ℕ)). unwrap_or o ((exchanged sector next f).stable k)) (other_sectors_go host sector k f.loose apart) ∙ rw other refl

pub seen_after_raise : (host size k : ℕ) (f : File) → k < f.size → seen host (raised size f) k ≡ seen host f k
seen_after_raise host size k f below = let t : nat_lt k f.size ≡ true = (Decides-ltb k f.size).1 below in rw t refl

-- a sync puts a sector onto the medium that no other host is writing
alone_at_sector : (host k : ℕ) (f : File) (b : List ℕ) → IsAloneAt host k f → IsOutcomeSector (synced host f) k b → b ≡ seen host f k
alone_at_sector host k f b alone (inl e) = e
alone_at_sector host k f b alone (inr (inl w)) = absurd (without_apart host f.loose w.0 w.1 (alone.loose w.0 (without_among host f.loose w.0 w.1) w.2))
alone_at_sector host k f b alone (inr (inr w)) = absurd (no_host w.0.0 (sym alone.fresh ∙ w.0.1))

pub alone_at_file : (host k : ℕ) (f g : File) → IsAloneAt host k f → IsFileOutcome (synced host f) g → g.stable k ≡ seen host f k
alone_at_file host k f g alone out = alone_at_sector host k f (g.stable k) alone (out.sectors k)

not_itself : (a b : ℕ) → (a == b) ≡ false → a ≢ b
not_itself a b t e = false≢true (sym t ∙ eq-eqb a b e)

of_host : (host : ℕ) (f : File) (l : Loose) (t : Bool) → (l.host == host) ≡ t → IsAlone host f → Contains f.loose l → l.host ≡ host
of_host host f l true t alone among = eqb-true l.host host t
of_host host f l false t alone among =
    absurd (nothing_in l (subst (λ (ls : List Loose). Contains ls l) alone.loose (without_keeps host f.loose l (λ e. not_itself l.host host t e) among)))

-- a host that is alone in a file is so at each sector
pub alone_everywhere : (host k : ℕ) (f : File) → IsAlone host f → IsAloneAt host k f
alone_everywhere host k f alone = record { loose = λ l among at. of_host host f l (l.host == host) refl alone among; fresh = alone.fresh }
