-- What the outcomes of a file and of a folder are after each call.
use Rattle.std.proofs.Common.{◌≡◌, ◌≢◌, ◌⊎◌, ℕ, zero, suc, ◌+◌, ◌-◌, ◌<◌, ◌==◌, Bool, true, false, List, [], ◌∷◌, length, get_or, Option, Some, None, unwrap_or, eq-eqb, eqb-true, refl, sym, ap, subst, ◌∙◌, inl, inr, arith}
use Rattle.std.specs.List.{Contains}
use Rattle.std.proofs.lemmas.Bool.{false≢true}
use Rattle.std.proofs.lemmas.List.Elements.{Contains-append_cases}
use Rattle.sd_names.specs.declared.place.Dir.{Dir}
use Rattle.sd_names.specs.declared.place.Place.{Place}
use Rattle.shared_disk.specs.Content.{Content, File, Loose, own_of, without, unless_by, seen, writes, sector_of}
use Rattle.shared_disk.specs.Calls.{IsPut, wrote, synced, sectors_in}
use Rattle.shared_disk.specs.Places.{place_is}
use Rattle.shared_disk.proofs.Places.{place_is-apart}
use Rattle.shared_disk.proofs.Places.{place_is-same, place_is-itself}
use Rattle.std.specs.Option.{option_map}
use Rattle.shared_disk.specs.Crash.{IsSector, IsDownSector, IsDownFile, IsAlso, DownLeaves, AllDown, IsOutcomeSector, IsSettled, IsFileOutcome, IsOutcome, IsAlone, IsPieceSector, IsLaidOver, CoversFile, Covers, IsAllSettled, with_file, stable_file, stable_folder}

-- lists of writes
pub contains_here : {X : Type 0} (l : X) (ls : List X) → Contains (l ∷ ls) l
contains_here l ls = (0, omega arith, refl)

pub contains_more : {X : Type 0} (l m : X) (ls : List X) → Contains ls m → Contains (l ∷ ls) m
contains_more l m ls h = (suc h.0, omega (arith, h.1), h.2)

pub nothing_in : {X : Type 0} (l : X) → Contains [] l → ⊥
nothing_in l h = omega (arith, h.1)

at_cases : {X : Type 0} (l m : X) (ls : List X) (k : ℕ) → k < length (l ∷ ls) → get_or (l ∷ ls) k m ≡ m → (l ≡ m) ⊎ Contains ls m
at_cases l m ls zero within is = inl is
at_cases l m ls (suc k) within is = inr (k, omega arith, is)

pub cons_cases : {X : Type 0} (l m : X) (ls : List X) → Contains (l ∷ ls) m → (l ≡ m) ⊎ Contains ls m
cons_cases l m ls h = at_cases l m ls h.0 h.1 h.2

without_step : (host : ℕ) (l m : Loose) (ls : List Loose) (t : Bool) → (l.host == host) ≡ t → (Contains (without host ls) m → Contains ls m)
    → Contains (without host (l ∷ ls)) m → Contains (l ∷ ls) m
without_step host l m ls true t more h = contains_more l m ls (more (rw t at h))
without_step host l m ls false t more h =
    elim (cons_cases l m (without host ls) (rw t at h)) [ inl e ↦ subst (λ (x : Loose). Contains (l ∷ ls) x) e (contains_here l ls) | inr g ↦ contains_more l m ls (more g) ]

-- the writes of other hosts are among all
pub without_among : (host : ℕ) (ls : List Loose) (m : Loose) → Contains (without host ls) m → Contains ls m
without_among host [] m h = h
without_among host (l ∷ ls) m h = without_step host l m ls (l.host == host) refl (without_among host ls m) h

kept_step : (host : ℕ) (l m : Loose) (ls : List Loose) (t : Bool) → (l.host == host) ≡ t → m.host ≢ host → (Contains ls m → Contains (without host ls) m)
    → Contains (l ∷ ls) m → Contains (without host (l ∷ ls)) m
kept_step host l m ls true t apart more h =
    elim (cons_cases l m ls h) [ inl e ↦ absurd (apart (ap (λ (x : Loose). x.host) (sym e) ∙ eqb-true l.host host t)) | inr g ↦ rw t (more g) ]
kept_step host l m ls false t apart more h =
    elim (cons_cases l m ls h) [ inl e ↦ rw t (subst (λ (x : Loose). Contains (l ∷ without host ls) x) e (contains_here l (without host ls))) | inr g ↦ rw t (contains_more l m (without host ls) (more g)) ]

-- a write of another host stays
pub without_keeps : (host : ℕ) (ls : List Loose) (m : Loose) → m.host ≢ host → Contains ls m → Contains (without host ls) m
without_keeps host [] m apart h = h
without_keeps host (l ∷ ls) m apart h = kept_step host l m ls (l.host == host) refl apart (without_keeps host ls m apart) h

-- a host's last write of a sector is one of its writes
pub record IsAmong (host k : ℕ) (ls : List Loose) (bytes : List ℕ) : Type 0 where
  pub write : Loose
  pub among : Contains ls write
  pub by : write.host ≡ host
  pub at : write.sector ≡ k
  pub is : write.bytes ≡ bytes

some_same : (a b : List ℕ) → ◌≡◌ {A = Option (List ℕ)} (Some a) (Some b) → a ≡ b
some_same a b e = ap (λ (o : Option (List ℕ)). unwrap_or o a) e

none_is_no : (b : List ℕ) → ◌≡◌ {A = Option (List ℕ)} None (Some b) → ⊥
none_is_no b e = cc

own_step : (host k : ℕ) (l : Loose) (ls : List Loose) (bytes : List ℕ) (s t : Bool) → (l.host == host) ≡ s → (l.sector == k) ≡ t
    → (own_of host k ls ≡ Some bytes → IsAmong host k ls bytes) → own_of host k (l ∷ ls) ≡ Some bytes → IsAmong host k (l ∷ ls) bytes
own_step host k l ls bytes true true s t more e =
    record { write = l; among = contains_here l ls; by = eqb-true l.host host s; at = eqb-true l.sector k t; is = some_same l.bytes bytes (rw (s, t) at e) }
own_step host k l ls bytes true false s t more e =
    let h = more (rw (s, t) at e) in record { write = h.write; among = contains_more l h.write ls h.among; by = h.by; at = h.at; is = h.is }
own_step host k l ls bytes false t s u more e =
    let h = more (rw s at e) in record { write = h.write; among = contains_more l h.write ls h.among; by = h.by; at = h.at; is = h.is }

pub own_among : (host k : ℕ) (ls : List Loose) (bytes : List ℕ) → own_of host k ls ≡ Some bytes → IsAmong host k ls bytes
own_among host k [] bytes e = absurd (none_is_no bytes e)
own_among host k (l ∷ ls) bytes e = own_step host k l ls bytes (l.host == host) (l.sector == k) refl refl (own_among host k ls bytes) e

-- a sync
synced_step : (host k : ℕ) (f : File) (b : List ℕ) (o : Option (List ℕ)) → own_of host k f.loose ≡ o → b ≡ unwrap_or o (f.stable k) → IsOutcomeSector f k b
synced_step host k f b None e h = inl h
synced_step host k f b (Some v) e h = let w = own_among host k f.loose v e in inr (inl (w.write, w.among, w.at, w.is ∙ sym h))

pub no_host : (x : ℕ) → ◌≡◌ {A = Option ℕ} None (Some x) → ⊥
no_host x e = cc

unless_step : (host x m : ℕ) (t : Bool) → (m == host) ≡ t → unless_by host (Some m) ≡ Some x → ◌≡◌ {A = Option ℕ} (Some m) (Some x)
unless_step host x m true t e = absurd (no_host x (rw t at e))
unless_step host x m false t e = rw t at e

pub unless_some : (host x : ℕ) (o : Option ℕ) → unless_by host o ≡ Some x → o ≡ Some x
unless_some host x None e = e
unless_some host x (Some m) e = unless_step host x m (m == host) refl e

pub synced_sector : (host k : ℕ) (f : File) (b : List ℕ) → IsOutcomeSector (synced host f) k b → IsOutcomeSector f k b
synced_sector host k f b (inl e) = synced_step host k f b (own_of host k f.loose) refl e
synced_sector host k f b (inr (inl w)) = inr (inl (w.0, without_among host f.loose w.0 w.1, w.2, w.3))
synced_sector host k f b (inr (inr w)) = inr (inr ((w.0.0, unless_some host w.0.0 f.fresh w.0.1), w.1))

pub alone_sector : (host k : ℕ) (f : File) (b : List ℕ) → IsAlone host f → IsOutcomeSector (synced host f) k b → b ≡ seen host f k
alone_sector host k f b alone (inl e) = e
alone_sector host k f b alone (inr (inl w)) = absurd (nothing_in w.0 (subst (λ (ls : List Loose). Contains ls w.0) alone.loose w.1))
alone_sector host k f b alone (inr (inr w)) = absurd (no_host w.0.0 (sym alone.fresh ∙ w.0.1))

-- a host going down
pub down_sector : (host k : ℕ) (f g : File) (b : List ℕ) → IsDownFile host f g → IsOutcomeSector g k b → IsOutcomeSector f k b
down_sector host k f g b down (inl e) =
    elim (down.sectors k) [
      | inl w ↦ inr (inr ((host, w.0), subst (λ (x : List ℕ). IsSector x) (sym e) w.1))
      | inr u ↦ elim u [ inl s ↦ inl (e ∙ s) | inr w ↦ inr (inl (w.0, w.1, w.3, w.4 ∙ sym e)) ]
    ]
down_sector host k f g b down (inr (inl w)) = inr (inl (w.0, without_among host f.loose w.0 (subst (λ (ls : List Loose). Contains ls w.0) down.loose w.1), w.2, w.3))
down_sector host k f g b down (inr (inr w)) = inr (inr ((w.0.0, unless_some host w.0.0 f.fresh (sym down.fresh ∙ w.0.1)), w.1))

-- a write
pub record IsPieceWrite (did : ℕ → Bool) (host at : ℕ) (bytes : List ℕ) (n : ℕ) (l : Loose) : Type 0 where
  pub index : ℕ
  pub within : index < n
  pub done : did index ≡ true
  pub is : record { host = host; sector = at + index; bytes = sector_of bytes index } ≡ l

writes_step : (did : ℕ → Bool) (host at : ℕ) (bytes : List ℕ) (n : ℕ) (l : Loose) (d : Bool) → did n ≡ d
    → (Contains (writes did host at bytes n) l → IsPieceWrite did host at bytes n l) → Contains (writes did host at bytes (suc n)) l → IsPieceWrite did host at bytes (suc n) l
writes_step did host at bytes n l true d more h =
    elim (cons_cases (record { host = host; sector = at + n; bytes = sector_of bytes n }) l (writes did host at bytes n) (rw d at h)) [
      | inl e ↦ record { index = n; within = omega arith; done = d; is = e }
      | inr g ↦ let w = more g in record { index = w.index; within = omega (arith, w.within); done = w.done; is = w.is }
    ]
writes_step did host at bytes n l false d more h =
    let w = more (rw d at h) in record { index = w.index; within = omega (arith, w.within); done = w.done; is = w.is }

pub writes_among : (did : ℕ → Bool) (host at : ℕ) (bytes : List ℕ) (n : ℕ) (l : Loose) → Contains (writes did host at bytes n) l → IsPieceWrite did host at bytes n l
writes_among did host at bytes zero l h = absurd (nothing_in l h)
writes_among did host at bytes (suc n) l h = writes_step did host at bytes n l (did n) refl (writes_among did host at bytes n l) h

piece_of : (did : ℕ → Bool) (host at : ℕ) (bytes : List ℕ) (l : Loose) (k : ℕ) (b : List ℕ) → IsPieceWrite did host at bytes (sectors_in bytes) l → l.sector ≡ k → l.bytes ≡ b → IsPieceSector did at bytes k b
piece_of did host at bytes l k b w s e =
    let place : at + w.index ≡ k = ap (λ (x : Loose). x.sector) w.is ∙ s in
    let j : k - at ≡ w.index = omega arith in
    record {
      low = omega arith;
      high = omega (arith, w.within);
      done = rw j w.done;
      piece = sym e ∙ ap (λ (x : Loose). x.bytes) (sym w.is) ∙ ap (λ (m : ℕ). sector_of bytes m) (sym j);
    }

pub write_sector : (did : ℕ → Bool) (host at k : ℕ) (bytes : List ℕ) (f : File) (b : List ℕ) → IsOutcomeSector (wrote did host at bytes f) k b → IsOutcomeSector f k b ⊎ IsPieceSector did at bytes k b
write_sector did host at k bytes f b (inl e) = inl (inl e)
write_sector did host at k bytes f b (inr (inl w)) =
    elim (Contains-append_cases (writes did host at bytes (sectors_in bytes)) f.loose w.0 w.1) [
      | inl g ↦ inr (piece_of did host at bytes w.0 k b (writes_among did host at bytes (sectors_in bytes) w.0 g) w.2 w.3)
      | inr g ↦ inl (inr (inl (w.0, g, w.2, w.3)))
    ]
write_sector did host at k bytes f b (inr (inr w)) = inl (inr (inr w))

-- whole files
record Choice (did : ℕ → Bool) (at : ℕ) (bytes : List ℕ) (f : File) (k : ℕ) (b : List ℕ) : Type 0 where
  was : List ℕ
  outcome : IsOutcomeSector f k was
  cases : (b ≡ was) ⊎ IsPieceSector did at bytes k b

choice : (did : ℕ → Bool) (at : ℕ) (bytes : List ℕ) (f : File) (k : ℕ) (b : List ℕ) → IsOutcomeSector f k b ⊎ IsPieceSector did at bytes k b → Choice did at bytes f k b
choice did at bytes f k b (inl w) = record { was = b; outcome = w; cases = inl refl }
choice did at bytes f k b (inr p) = record { was = f.stable k; outcome = inl refl; cases = inr p }

pub write_file : (did : ℕ → Bool) (host at : ℕ) (bytes : List ℕ) (f g : File) → IsFileOutcome (wrote did host at bytes f) g → (o : File) × IsFileOutcome f o × IsLaidOver did at bytes o g
write_file did host at bytes f g w =
    let all : (k : ℕ) → Choice did at bytes f k (g.stable k) = λ k. choice did at bytes f k (g.stable k) (write_sector did host at k bytes f (g.stable k) (w.sectors k)) in (
      record { size = g.size; stable = λ k. (all k).was; loose = []; fresh = None },
      record { size = w.size; sectors = λ k. (all k).outcome; settled = record { loose = refl; fresh = refl } },
      record { size = refl; sectors = λ k. (all k).cases },
    )

pub synced_file : (host : ℕ) (f g : File) → IsFileOutcome (synced host f) g → IsFileOutcome f g
synced_file host f g w = record { size = w.size; sectors = λ k. synced_sector host k f (g.stable k) (w.sectors k); settled = w.settled }

pub alone_file : (host : ℕ) (f g : File) → IsAlone host f → IsFileOutcome (synced host f) g → (k : ℕ) → g.stable k ≡ seen host f k
alone_file host f g alone w = λ k. alone_sector host k f (g.stable k) alone (w.sectors k)

pub down_file : (host : ℕ) (f g o : File) → IsDownFile host f g → IsFileOutcome g o → IsFileOutcome f o
down_file host f g o down w = record { size = w.size ∙ down.size; sectors = λ k. down_sector host k f g (o.stable k) down (w.sectors k); settled = w.settled }

pub settled_sector : (k : ℕ) (f : File) (b : List ℕ) → IsSettled f → IsOutcomeSector f k b → b ≡ f.stable k
settled_sector k f b s (inl e) = e
settled_sector k f b s (inr (inl w)) = absurd (nothing_in w.0 (subst (λ (ls : List Loose). Contains ls w.0) s.loose w.1))
settled_sector k f b s (inr (inr w)) = absurd (no_host w.0.0 (sym s.fresh ∙ w.0.1))

pub settled_file : (f g : File) → IsSettled f → IsFileOutcome f g → g ≡ f
settled_file f g s w =
    let stable : (k : ℕ) → g.stable k ≡ f.stable k = λ k. settled_sector k f (g.stable k) s (w.sectors k) in
    let size : g.size ≡ f.size = w.size in
    let loose : g.loose ≡ f.loose = w.settled.loose ∙ sym s.loose in
    let fresh : g.fresh ≡ f.fresh = w.settled.fresh ∙ sym s.fresh in
    λ i. record { size = size i; stable = λ k. stable k i; loose = loose i; fresh = fresh i }

pub settled_itself : (f : File) → IsSettled f → IsFileOutcome f f
settled_itself f s = record { size = refl; sectors = λ k. inl refl; settled = s }

pub stable_outcome : (f : File) → IsFileOutcome f (record { size = f.size; stable = f.stable; loose = []; fresh = None })
stable_outcome f = record { size = refl; sectors = λ k. inl refl; settled = record { loose = refl; fresh = refl } }

-- whole folders
also_through : (host : ℕ) (a b c : Option File) → IsAlso (IsDownFile host) a b → IsAlso IsFileOutcome b c → IsAlso IsFileOutcome a c
also_through host None None None x y = tt
also_through host None None (Some g) x y = absurd y
also_through host None (Some f) c x y = absurd x
also_through host (Some f) None c x y = absurd x
also_through host (Some f) (Some g) None x y = absurd y
also_through host (Some f) (Some g) (Some o) x y = down_file host f g o x y

pub down_folder : (host : ℕ) (d e o : Content) → DownLeaves d host e → IsOutcome e o → IsOutcome d o
down_folder host d e o x y = record { dirs = λ q. y.dirs q ∙ x.dirs q; files = λ p. also_through host (d.file p) (e.file p) (o.file p) (x.files p) (y.files p) }

pub all_down : (hosts : List ℕ) (d e o : Content) → AllDown d hosts e → IsOutcome e o → IsOutcome d o
all_down [] d e o x y = subst (λ (z : Content). IsOutcome z o) x y
all_down (host ∷ hosts) d e o x y = down_folder host d x.0 o x.1 (all_down hosts x.0 e o x.2 y)

itself_at : (o : Option File) → ((f : File) → o ≡ Some f → IsSettled f) → IsAlso IsFileOutcome o o
itself_at None s = tt
itself_at (Some f) s = settled_itself f (s f refl)

pub settled_folder : (d : Content) → IsAllSettled d → IsOutcome d d
settled_folder d s = record { dirs = λ q. refl; files = λ p. itself_at (d.file p) (s p) }

-- from an outcome back to the hosts that went down
record Settling (host : ℕ) (f : File) (k : ℕ) (b : List ℕ) : Type 0 where
  value : List ℕ
  down : IsDownSector host f k value
  left : (b ≡ value) ⊎ (((l : Loose) × Contains (without host f.loose) l × (l.sector ≡ k) × (l.bytes ≡ b)) ⊎ (((h : ℕ) × (unless_by host f.fresh ≡ Some h)) × IsSector b))

loose_settling : (host : ℕ) (f : File) (k : ℕ) (b : List ℕ) (l : Loose) → Contains f.loose l → l.sector ≡ k → l.bytes ≡ b → (t : Bool) → (l.host == host) ≡ t → Settling host f k b
loose_settling host f k b l among at is true t = record { value = b; down = inr (inr (l, among, eqb-true l.host host t, at, is)); left = inl refl }
loose_settling host f k b l among at is false t =
    record { value = f.stable k; down = inr (inl refl); left = inr (inl (l, without_keeps host f.loose l (λ e. false≢true (sym t ∙ eq-eqb l.host host e)) among, at, is)) }

unless_other : (host x : ℕ) → (x == host) ≡ false → unless_by host (Some x) ≡ Some x
unless_other host x t = rw t refl

fresh_settling : (host : ℕ) (f : File) (k : ℕ) (b : List ℕ) (x : ℕ) → f.fresh ≡ Some x → IsSector b → (t : Bool) → (x == host) ≡ t → Settling host f k b
fresh_settling host f k b x e s true t = record { value = b; down = inl (e ∙ ap (λ (n : ℕ). Some n) (eqb-true x host t), s); left = inl refl }
fresh_settling host f k b x e s false t =
    record { value = f.stable k; down = inr (inl refl); left = inr (inr ((x, ap (λ o. unless_by host o) e ∙ unless_other host x t), s)) }

settling : (host : ℕ) (f : File) (k : ℕ) (b : List ℕ) → IsOutcomeSector f k b → Settling host f k b
settling host f k b (inl e) = record { value = f.stable k; down = inr (inl refl); left = inl e }
settling host f k b (inr (inl w)) = loose_settling host f k b w.0 w.1 w.2 w.3 (w.0.host == host) refl
settling host f k b (inr (inr w)) = fresh_settling host f k b w.0.0 w.0.1 w.1 (w.0.0 == host) refl

-- the file between
between : (host : ℕ) (f g : File) → IsFileOutcome f g → File
between host f g w = record { size = f.size; stable = λ k. (settling host f k (g.stable k) (w.sectors k)).value; loose = without host f.loose; fresh = unless_by host f.fresh }

between_down : (host : ℕ) (f g : File) (w : IsFileOutcome f g) → IsDownFile host f (between host f g w)
unfolding between
between_down host f g w = record { size = refl; sectors = λ k. (settling host f k (g.stable k) (w.sectors k)).down; loose = refl; fresh = refl }

between_left : (host : ℕ) (f g : File) (w : IsFileOutcome f g) → IsFileOutcome (between host f g w) g
unfolding between
between_left host f g w = record { size = w.size; sectors = λ k. (settling host f k (g.stable k) (w.sectors k)).left; settled = w.settled }

record Middle (host : ℕ) (a b : Option File) : Type 0 where
  file : Option File
  down : IsAlso (IsDownFile host) a file
  left : IsAlso IsFileOutcome file b

middle : (host : ℕ) (a b : Option File) → IsAlso IsFileOutcome a b → Middle host a b
middle host None None w = record { file = None; down = tt; left = tt }
middle host None (Some g) w = absurd w
middle host (Some f) None w = absurd w
middle host (Some f) (Some g) w = record { file = Some (between host f g w); down = between_down host f g w; left = between_left host f g w }

apart_step : (host : ℕ) (l m : Loose) (ls : List Loose) (t : Bool) → (l.host == host) ≡ t → (Contains (without host ls) m → m.host ≢ host) → Contains (without host (l ∷ ls)) m → m.host ≢ host
apart_step host l m ls true t more h = more (rw t at h)
apart_step host l m ls false t more h =
    elim (cons_cases l m (without host ls) (rw t at h)) [
      | inl e ↦ (λ u. false≢true (sym t ∙ eq-eqb l.host host (ap (λ (x : Loose). x.host) e ∙ u)))
      | inr g ↦ more g
    ]

pub without_apart : (host : ℕ) (ls : List Loose) (m : Loose) → Contains (without host ls) m → m.host ≢ host
without_apart host [] m h = absurd (nothing_in m h)
without_apart host (l ∷ ls) m h = apart_step host l m ls (l.host == host) refl (without_apart host ls m) h

itself_step : (host x m : ℕ) (t : Bool) → (m == host) ≡ t → unless_by host (Some m) ≡ Some x → x ≡ host → ⊥
itself_step host x m true t e u = no_host x (rw t at e)
itself_step host x m false t e u =
    let same : ◌≡◌ {A = Option ℕ} (Some m) (Some x) = rw t at e in
    false≢true (sym t ∙ eq-eqb m host (ap (λ (o : Option ℕ). unwrap_or o m) same ∙ u))

unless_itself : (host x : ℕ) (o : Option ℕ) → unless_by host o ≡ Some x → x ≢ host
unless_itself host x None e u = no_host x e
unless_itself host x (Some m) e u = itself_step host x m (m == host) refl e u

covers_step : (host : ℕ) (hosts : List ℕ) (f g : File) → IsDownFile host f g → CoversFile (host ∷ hosts) f → CoversFile hosts g
covers_step host hosts f g down c = record {
  loose = λ l h.
      let kept : Contains (without host f.loose) l = subst (λ (ls : List Loose). Contains ls l) down.loose h in
      elim (cons_cases host l.host hosts (c.loose l (without_among host f.loose l kept))) [ inl e ↦ absurd (without_apart host f.loose l kept (sym e)) | inr g ↦ g ];
  fresh = λ x e.
      let was : unless_by host f.fresh ≡ Some x = sym down.fresh ∙ e in
      elim (cons_cases host x hosts (c.fresh x (unless_some host x f.fresh was))) [ inl u ↦ absurd (unless_itself host x f.fresh was (sym u)) | inr g ↦ g ];
}

pub no_writes : (ls : List Loose) → ((l : Loose) → Contains ls l → ⊥) → ls ≡ []
no_writes [] h = refl
no_writes (l ∷ ls) h = absurd (h l (contains_here l ls))

no_maker : (o : Option ℕ) → ((x : ℕ) → o ≡ Some x → ⊥) → o ≡ None
no_maker None h = refl
no_maker (Some x) h = absurd (h x refl)

pub covered_by_none : (f : File) → CoversFile [] f → IsSettled f
covered_by_none f c = record { loose = no_writes f.loose (λ l h. nothing_in l.host (c.loose l h)); fresh = no_maker f.fresh (λ x e. nothing_in x (c.fresh x e)) }

no_file : (g : File) → ◌≡◌ {A = Option File} None (Some g) → ⊥
no_file g e = cc

file_same : (f g : File) → ◌≡◌ {A = Option File} (Some f) (Some g) → f ≡ g
file_same f g e = ap (λ (o : Option File). unwrap_or o f) e

covers_at : (host : ℕ) (hosts : List ℕ) (a b : Option File) → IsAlso (IsDownFile host) a b → ((f : File) → a ≡ Some f → CoversFile (host ∷ hosts) f) → (g : File) → b ≡ Some g → CoversFile hosts g
covers_at host hosts None None x c g e = absurd (no_file g e)
covers_at host hosts None (Some h) x c g e = absurd x
covers_at host hosts (Some f) None x c g e = absurd x
covers_at host hosts (Some f) (Some h) x c g e = subst (λ (z : File). CoversFile hosts z) (file_same h g e) (covers_step host hosts f h x (c f refl))

pub covers_down : (host : ℕ) (hosts : List ℕ) (d m : Content) → DownLeaves d host m → Covers (host ∷ hosts) d → Covers hosts m
covers_down host hosts d m x c = λ p g e. covers_at host hosts (d.file p) (m.file p) (x.files p) (c p) g e

same_at : (a b : Option File) → ((f : File) → a ≡ Some f → CoversFile [] f) → IsAlso IsFileOutcome a b → b ≡ a
same_at None None c w = refl
same_at None (Some g) c w = absurd w
same_at (Some f) None c w = absurd w
same_at (Some f) (Some g) c w = ap (λ (x : File). Some x) (settled_file f g (covered_by_none f (c f refl)) w)

-- each outcome is what is left when the hosts go down in any order
pub in_order : (hosts : List ℕ) (d e : Content) → Covers hosts d → IsOutcome d e → AllDown d hosts e
in_order [] d e c w =
    let dirs : (q : Dir) → e.dir q ≡ d.dir q = w.dirs in
    let files : (p : Place) → e.file p ≡ d.file p = λ p. same_at (d.file p) (e.file p) (c p) (w.files p) in
    λ i. record { dir = λ q. dirs q i; file = λ p. files p i }
in_order (host ∷ hosts) d e c w =
    let mid : (p : Place) → Middle host (d.file p) (e.file p) = λ p. middle host (d.file p) (e.file p) (w.files p) in
    let m : Content = record { dir = d.dir; file = λ p. (mid p).file } in
    let down : DownLeaves d host m = record { dirs = λ q. refl; files = λ p. (mid p).down } in
    (m, down, in_order hosts m e (covers_down host hosts d m down c) (record { dirs = w.dirs; files = λ p. (mid p).left }))

pub all_settled : (hosts : List ℕ) (d e : Content) → Covers hosts d → AllDown d hosts e → IsAllSettled e
all_settled [] d e c x = subst (λ (z : Content). IsAllSettled z) (sym x) (λ p f h. covered_by_none f (c p f h))
all_settled (host ∷ hosts) d e c x = all_settled hosts x.0 e (covers_down host hosts d x.0 x.1 c) x.2

-- and what is left then is an outcome
pub from_order : (hosts : List ℕ) (d e : Content) → Covers hosts d → AllDown d hosts e → IsOutcome d e
from_order hosts d e c x = all_down hosts d e e x (settled_folder e (all_settled hosts d e c x))

-- one file of an outcome, and of a change
with_step : (d o : Content) (p q : Place) (f g : File) (t : Bool) → place_is q p ≡ t → d.file p ≡ Some f → IsFileOutcome f g → IsAlso IsFileOutcome (d.file q) (o.file q)
    → IsAlso IsFileOutcome (d.file q) ((with_file p g o).file q)
with_step d o p q f g true t e w h =
    let is : d.file q ≡ Some f = ap (λ (r : Place). d.file r) (place_is-same q p t) ∙ e in
    rw t (rw is w)
with_step d o p q f g false t e w h = rw t h

pub with_outcome : (d o : Content) (p : Place) (f g : File) → d.file p ≡ Some f → IsFileOutcome f g → IsOutcome d o → IsOutcome d (with_file p g o)
with_outcome d o p f g e w out = record { dirs = out.dirs; files = λ q. with_step d o p q f g (place_is q p) refl e w (out.files q) }

pub with_here : (o : Content) (p : Place) (g : File) → (with_file p g o).file p ≡ Some g
with_here o p g = rw (place_is-itself p) refl

pub with_other : (o : Content) (p q : Place) (g : File) → q ≢ p → (with_file p g o).file q ≡ o.file q
with_other o p q g apart = rw (place_is-apart q p apart) refl

frame_at : (d e o : Content) (p q : Place) (f g : File) (new : Option File) (t : Bool) → place_is q p ≡ t → IsPut d p new e → d.file p ≡ Some f → IsFileOutcome f g → IsAlso IsFileOutcome (e.file q) (o.file q)
    → IsAlso IsFileOutcome (d.file q) ((with_file p g o).file q)
frame_at d e o p q f g new true t put was w h =
    let is : d.file q ≡ Some f = ap (λ (r : Place). d.file r) (place_is-same q p t) ∙ was in
    rw t (rw is w)
frame_at d e o p q f g new false t put was w h =
    let same : e.file q ≡ d.file q = put.others q (λ u. false≢true (sym t ∙ subst (λ (r : Place). place_is q r ≡ true) u (place_is-itself q))) in
    rw t (subst (λ (x : Option File). IsAlso IsFileOutcome x (o.file q)) same h)

-- an outcome after a change of one file is one from before with that file changed, whatever outcome it had
pub frame : (d e o : Content) (p : Place) (f g : File) (new : Option File) → IsPut d p new e → d.file p ≡ Some f → IsFileOutcome f g → IsOutcome e o
    → IsOutcome d (with_file p g o) × IsPut (with_file p g o) p (o.file p) o
frame d e o p f g new put was w out = (
  record { dirs = λ q. out.dirs q ∙ put.dirs q; files = λ q. frame_at d e o p q f g new (place_is q p) refl put was w (out.files q) },
  record { dirs = λ q. refl; here = refl; others = λ q apart. sym (with_other o p q g apart) },
)

stable_at : (a : Option File) → IsAlso IsFileOutcome a (option_map stable_file a)
stable_at None = tt
stable_at (Some f) = stable_outcome f

pub stable_folder_outcome : (d : Content) → IsOutcome d (stable_folder d)
stable_folder_outcome d = record { dirs = λ q. refl; files = λ p. stable_at (d.file p) }
