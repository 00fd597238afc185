-- What a host's own writes of a piece leave it with, sector by sector.
use Rattle.std.proofs.Common.{◌≡◌, ◌≢◌, ℕ, zero, suc, ◌+◌, ◌-◌, ◌<◌, ◌≤◌, ◌==◌, ◌&&◌, ◌⊎◌, Bool, true, false, List, [], ◌∷◌, ◌++◌, Option, Some, None, unwrap_or, if◌then◌else◌, eq-eqb, eqb-true, refl, sym, ap, ◌∙◌, inl, inr, arith}
use Rattle.std.proofs.Math.Decide.{dec_lt}
use Rattle.std.proofs.lemmas.List.{append-nil}
use Rattle.shared_disk.specs.Content.{Loose, own_of, without, writes, sector_of}

not_true : (b : Bool) → (b ≡ true → ⊥) → b ≡ false
not_true true h = absurd (h refl)
not_true false h = refl

-- the newest of some writes is of another sector
own_other : (host s k : ℕ) (b : List ℕ) (ls : List Loose) → (s == k) ≡ false → own_of host k (record { host = host; sector = s; bytes = b } ∷ ls) ≡ own_of host k ls
own_other host s k b ls e = rw (eq-eqb host host refl, e) refl

-- two equal numbers pass the test
same_passes : (a b : ℕ) → a ≡ b → (a == b) ≡ true
same_passes a b e = eq-eqb a b e

pub others_fail : (a b : ℕ) → a ≢ b → (a == b) ≡ false
others_fail a b e = not_true (a == b) (λ t. e (eqb-true a b t))

-- a test that fails behind another
none_of : {A : Type 0} (b : Bool) (x : A) {y z : A} → y ≡ z → (if b && (true && false) then x else y) ≡ z
none_of true x e = e
none_of false x e = e

own_if : (b : Bool) (host k : ℕ) (l : Loose) (rest ls : List Loose)
    → own_of host k ((if b then l ∷ rest else rest) ++ ls) ≡ (if b && (l.host == host && l.sector == k) then Some l.bytes else own_of host k (rest ++ ls))
own_if true host k l rest ls = refl
own_if false host k l rest ls = refl

last_or : (j n : ℕ) → j < suc n → (j < n) ⊎ (j ≡ n)
last_or j n within = elim (dec_lt j n) [ yes below ↦ inl below | no above ↦ inr (omega arith) ]

hit_step : (did : ℕ → Bool) (host at : ℕ) (bytes : List ℕ) (n : ℕ) (others : Option (List ℕ)) (j : ℕ) → did j ≡ true → (j < n → others ≡ Some (sector_of bytes j)) → (j < n) ⊎ (j ≡ n)
    → (if did n && (host == host && at + n == at + j) then Some (sector_of bytes n) else others) ≡ Some (sector_of bytes j)
hit_step did host at bytes n others j done before (inl below) =
    let apart : (at + n == at + j) ≡ false = others_fail (at + n) (at + j) (omega arith) in
    rw (apart, same_passes host host refl) (none_of (did n) (Some (sector_of bytes n)) (before below))
hit_step did host at bytes n others j done before (inr is) =
    let here : did n ≡ true = ap did (sym is) ∙ done in
    rw (here, same_passes host host refl, same_passes (at + n) (at + j) (omega arith)) (ap (λ i. Some (sector_of bytes i)) (sym is))

-- a sector that was written reads as it was written
pub own_of-writes_hit : (did : ℕ → Bool) (host at : ℕ) (bytes : List ℕ) (n : ℕ) (ls : List Loose) (j : ℕ) → j < n → did j ≡ true
    → own_of host (at + j) (writes did host at bytes n ++ ls) ≡ Some (sector_of bytes j)
own_of-writes_hit did host at bytes zero ls j within done = absurd (omega arith)
own_of-writes_hit did host at bytes (suc n) ls j within done =
    own_if (did n) host (at + j) (record { host = host; sector = at + n; bytes = sector_of bytes n }) (writes did host at bytes n) ls
    ∙ hit_step did host at bytes n (own_of host (at + j) (writes did host at bytes n ++ ls)) j done (λ below. own_of-writes_hit did host at bytes n ls j below done) (last_or j n within)

miss_step : (host at : ℕ) (n k : ℕ) (b : Bool) (mine others before : Option (List ℕ)) → (b ≡ true → k ≢ at + n) → others ≡ before
    → (if b && (host == host && at + n == k) then mine else others) ≡ before
miss_step host at n k true mine others before apart rest =
    let other : (at + n == k) ≡ false = others_fail (at + n) k (λ e. apart refl (sym e)) in
    rw (other, same_passes host host refl) rest
miss_step host at n k false mine others before apart rest = rest

-- a sector that wasn't written reads as before
pub own_of-writes_miss : (did : ℕ → Bool) (host at : ℕ) (bytes : List ℕ) (n : ℕ) (ls : List Loose) (k : ℕ)
    → ((j : ℕ) → j < n → did j ≡ true → k ≢ at + j) → own_of host k (writes did host at bytes n ++ ls) ≡ own_of host k ls
own_of-writes_miss did host at bytes zero ls k apart = refl
own_of-writes_miss did host at bytes (suc n) ls k apart =
    own_if (did n) host k (record { host = host; sector = at + n; bytes = sector_of bytes n }) (writes did host at bytes n) ls
    ∙ miss_step host at n k (did n) (Some (sector_of bytes n)) (own_of host k (writes did host at bytes n ++ ls)) (own_of host k ls) (λ done. apart n (omega arith) done)
    (own_of-writes_miss did host at bytes n ls k (λ j below done. apart j (omega arith) done))

-- after a write that was done whole, the last write of each of its sectors is the piece's
pub own_within : (host at n k : ℕ) (bytes : List ℕ) (ls : List Loose) → at ≤ k → k < at + n → own_of host k (writes (λ _. true) host at bytes n ++ ls) ≡ Some (sector_of bytes (k - at))
own_within host at n k bytes ls low high =
    let is : k ≡ at + (k - at) = omega arith in
    ap (λ m. own_of host m (writes (λ _. true) host at bytes n ++ ls)) is ∙ own_of-writes_hit (λ _. true) host at bytes n ls (k - at) (omega arith) refl

-- a write leaves the last writes of all other sectors as they were
pub own_outside : (did : ℕ → Bool) (host at n k : ℕ) (bytes : List ℕ) (ls : List Loose) → (k < at) ⊎ (at + n ≤ k) → own_of host k (writes did host at bytes n ++ ls) ≡ own_of host k ls
own_outside did host at n k bytes ls out = own_of-writes_miss did host at bytes n ls k (λ j within done is. elim out [ inl l ↦ omega arith | inr r ↦ omega arith ])

-- the last write of a sector is as it was, or the piece's
pub record IsOwnOrPiece (did : ℕ → Bool) (host at n k : ℕ) (bytes : List ℕ) (ls : List Loose) : Type 0 where
  pub cases : (own_of host k (writes did host at bytes n ++ ls) ≡ own_of host k ls)
      ⊎ ((at ≤ k) × (k < at + n) × (own_of host k (writes did host at bytes n ++ ls) ≡ Some (sector_of bytes (k - at))))

either_step : (did : ℕ → Bool) (host at n k : ℕ) (bytes : List ℕ) (ls : List Loose) (d t : Bool) → did n ≡ d → (at + n == k) ≡ t
    → IsOwnOrPiece did host at n k bytes ls → IsOwnOrPiece did host at (suc n) k bytes ls
either_step did host at n k bytes ls true true d t h =
    let is : at + n ≡ k = eqb-true (at + n) k t in
    let j : n ≡ k - at = omega arith in
    record { cases = inr (omega arith, omega arith, rw (d, eq-eqb host host refl, t) (ap (λ m. Some (sector_of bytes m)) j)) }
either_step did host at n k bytes ls true false d t h =
    let other : own_of host k (writes did host at bytes (suc n) ++ ls) ≡ own_of host k (writes did host at bytes n ++ ls) =
    rw d (own_other host (at + n) k (sector_of bytes n) (writes did host at bytes n ++ ls) t) in
    record { cases = elim h.cases [ inl e ↦ inl (other ∙ e) | inr e ↦ inr (e.0, omega (arith, e.1), other ∙ e.2) ] }
either_step did host at n k bytes ls false t d e h =
    let same : own_of host k (writes did host at bytes (suc n) ++ ls) ≡ own_of host k (writes did host at bytes n ++ ls) = rw d refl in
    record { cases = elim h.cases [ inl e ↦ inl (same ∙ e) | inr e ↦ inr (e.0, omega (arith, e.1), same ∙ e.2) ] }

pub own_either : (did : ℕ → Bool) (host at n k : ℕ) (bytes : List ℕ) (ls : List Loose) → IsOwnOrPiece did host at n k bytes ls
own_either did host at zero k bytes ls = record { cases = inl refl }
own_either did host at (suc n) k bytes ls = either_step did host at n k bytes ls (did n) (at + n == k) refl refl (own_either did host at n k bytes ls)

without_step : (did : ℕ → Bool) (host at n : ℕ) (bytes : List ℕ) (ls : List Loose) (d : Bool) → did n ≡ d
    → without host (writes did host at bytes n ++ ls) ≡ without host ls → without host (writes did host at bytes (suc n) ++ ls) ≡ without host ls
without_step did host at n bytes ls true d h = rw d (rw (eq-eqb host host refl) h)
without_step did host at n bytes ls false d h = rw d h

-- a host's own writes are gone with the rest of its writes
pub without_writes : (did : ℕ → Bool) (host at n : ℕ) (bytes : List ℕ) (ls : List Loose) → without host (writes did host at bytes n ++ ls) ≡ without host ls
without_writes did host at zero bytes ls = refl
without_writes did host at (suc n) bytes ls = without_step did host at n bytes ls (did n) refl (without_writes did host at n bytes ls)

-- the same where the host had no writes in the file
pub seen_within : (host at n k : ℕ) (bytes before : List ℕ) → at ≤ k → k < at + n → unwrap_or (own_of host k (writes (λ _. true) host at bytes n)) before ≡ sector_of bytes (k - at)
seen_within host at n k bytes before low high =
    let e = rw append-nil at (own_within host at n k bytes [] low high) in rw e refl

pub seen_outside : (did : ℕ → Bool) (host at n k : ℕ) (bytes before : List ℕ) → (k < at) ⊎ (at + n ≤ k) → unwrap_or (own_of host k (writes did host at bytes n)) before ≡ before
seen_outside did host at n k bytes before out =
    let e : own_of host k (writes did host at bytes n) ≡ None = rw append-nil at (own_outside did host at n k bytes [] out) in rw e refl

pub seen_either : (did : ℕ → Bool) (host at n k : ℕ) (bytes before : List ℕ) → (unwrap_or (own_of host k (writes did host at bytes n)) before ≡ before)
    ⊎ ((at ≤ k) × (k < at + n) × (unwrap_or (own_of host k (writes did host at bytes n)) before ≡ sector_of bytes (k - at)))
seen_either did host at n k bytes before =
    let ls : List Loose = writes did host at bytes n in
    elim (own_either did host at n k bytes []).cases [
      | inl e ↦ inl (let g : own_of host k (writes did host at bytes n) ≡ None = rw append-nil at e in rw g refl)
      | inr e ↦ inr (e.0, e.1, let g : own_of host k (writes did host at bytes n) ≡ Some (sector_of bytes (k - at)) = rw append-nil at e.2 in rw g refl)
    ]
