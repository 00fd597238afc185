-- Sectors of a file that a host writes, as it sees them and on each outcome.
use Rattle.std.proofs.Common.{◌≡◌, ◌≢◌, ◌⊎◌, inl, inr, ℕ, ◌+◌, ◌-◌, ◌<◌, ◌≤◌, ◌==◌, ◌++◌, Bool, true, false, List, Option, Some, length, refl, sym, ap, ◌∙◌, subst, arith, eq-eqb, eqb-true}
use Rattle.std.specs.Prelude.{if◌then◌else◌, unwrap_or}
use Rattle.std.proofs.lemmas.Bool.{cases_lt, false≢true}
use Rattle.shared_disk.specs.Calls.{sectors_in, synced, wrote}
use Rattle.shared_disk.specs.Content.{File, Loose, own_of, sector_of, seen, unless_by, without, writes}
use Rattle.shared_disk.specs.Crash.{IsAlone, IsFileOutcome, IsLaidOver, IsPieceSector, IsSettled, OnEach}
use Rattle.shared_disk.specs.WellFormed.{IsWellFormedFile}
use Rattle.shared_disk.proofs.Outcomes.{settled_file, write_file}
use Rattle.shared_disk.proofs.OwnWrites.{own_either, own_outside, own_within, without_writes}
use Rattle.shared_disk.proofs.WellFormed.{outcome_file_keeps, seen_sector}
use Rattle.layer_writing.specs.Holding.{IsBetween, IsEither, with_sector}
use Rattle.qcow_layer.proofs.Knowing.{settled_alone, settled_seen}

-- the sectors of a piece that are laid over others, any of them
pub record LaysPiece (at : ℕ) (bytes : List ℕ) (s s' : ℕ → List ℕ) : Type 0 where
  pub sectors : (k : ℕ) → (s' k ≡ s k) ⊎ ((at ≤ k) × (k < at + sectors_in bytes) × (s' k ≡ sector_of bytes (k - at)))

pub seen_laid : (did : ℕ → Bool) (host at : ℕ) (bytes : List ℕ) (f : File) → LaysPiece at bytes (seen host f) (seen host (wrote did host at bytes f))
seen_laid did host at bytes f = record { sectors = λ k. go k (own_either did host at (sectors_in bytes) k bytes f.loose).cases }
  where
    go : (k : ℕ) → (own_of host k (writes did host at bytes (sectors_in bytes) ++ f.loose) ≡ own_of host k f.loose)
        ⊎ ((at ≤ k) × (k < at + sectors_in bytes) × (own_of host k (writes did host at bytes (sectors_in bytes) ++ f.loose) ≡ Some (sector_of bytes (k - at))))
        → (seen host (wrote did host at bytes f) k ≡ seen host f k) ⊎ ((at ≤ k) × (k < at + sectors_in bytes) × (seen host (wrote did host at bytes f) k ≡ sector_of bytes (k - at)))
    go k (inl e) = inl (ap (λ (o : Option (List ℕ)). unwrap_or o (f.stable k)) e)
    go k (inr e) = inr (e.0, e.1, ap (λ (o : Option (List ℕ)). unwrap_or o (f.stable k)) e.2)

pub outcome_laid : (did : ℕ → Bool) (at : ℕ) (bytes : List ℕ) (o g : File) → IsLaidOver did at bytes o g → LaysPiece at bytes o.stable g.stable
outcome_laid did at bytes o g laid = record { sectors = λ k. go k (laid.sectors k) }
  where
    go : (k : ℕ) → (g.stable k ≡ o.stable k) ⊎ IsPieceSector did at bytes k (g.stable k) → (g.stable k ≡ o.stable k) ⊎ ((at ≤ k) × (k < at + sectors_in bytes) × (g.stable k ≡ sector_of bytes (k - at)))
    go k (inl e) = inl e
    go k (inr p) = inr (p.low, p.high, p.piece)

-- outside the piece nothing changes
pub laid_outside : (at : ℕ) (bytes : List ℕ) (s s' : ℕ → List ℕ) → LaysPiece at bytes s s' → (k : ℕ) → (k < at) ⊎ (at + sectors_in bytes ≤ k) → s' k ≡ s k
laid_outside at bytes s s' laid k out = go (laid.sectors k) out
  where
    go : (s' k ≡ s k) ⊎ ((at ≤ k) × (k < at + sectors_in bytes) × (s' k ≡ sector_of bytes (k - at))) → (k < at) ⊎ (at + sectors_in bytes ≤ k) → s' k ≡ s k
    go (inl e) out = e
    go (inr p) (inl low) = absurd (omega (arith, p.0, low))
    go (inr p) (inr high) = absurd (omega (arith, p.1, high))

-- sectors have 512 bytes
pub seen_lengths : (host : ℕ) (f : File) → IsWellFormedFile f → (k : ℕ) → length (seen host f k) ≡ 512
seen_lengths host f formed k = (seen_sector host k f formed).len

pub outcome_lengths : (f g : File) → IsWellFormedFile f → IsFileOutcome f g → (k : ℕ) → length (g.stable k) ≡ 512
outcome_lengths f g formed out k = ((outcome_file_keeps f g formed out).stable k).len

-- ---- hosts that are alone

pub alone_writes : (did : ℕ → Bool) (host at : ℕ) (bytes : List ℕ) (f : File) → IsAlone host f → IsAlone host (wrote did host at bytes f)
alone_writes did host at bytes f alone = record { loose = without_writes did host at (sectors_in bytes) bytes f.loose ∙ alone.loose; fresh = alone.fresh }

pub alone_synced : (host : ℕ) (f : File) → IsAlone host f → IsSettled (synced host f)
alone_synced host f alone = record { loose = alone.loose; fresh = alone.fresh }

-- what the host saw is on the medium, and seen
pub synced_stable : (host : ℕ) (f : File) → (synced host f).stable ≡ seen host f
synced_stable host f = refl

-- ---- one sector

pub one_sector : (at : ℕ) (bytes : List ℕ) (s s' : ℕ → List ℕ) → sectors_in bytes ≡ 1 → LaysPiece at bytes s s' → (s' ≡ s) ⊎ (s' ≡ with_sector at (sector_of bytes 0) s)
one_sector at bytes s s' one laid = go (laid.sectors at)
  where
    apart : (k : ℕ) → k ≢ at → s' k ≡ s k
    apart k other = side (cases_lt k at)
      where
        side : (k < at) ⊎ (at ≤ k) → s' k ≡ s k
        side (inl lt) = laid_outside at bytes s s' laid k (inl lt)
        side (inr le) = laid_outside at bytes s s' laid k (inr (omega (arith, le, other, one)))

    old : s' at ≡ s at → (k : ℕ) (b : Bool) → (k == at) ≡ b → s' k ≡ s k
    old e k true t = let is = eqb-true k at t in ap s' is ∙ e ∙ sym (ap s is)
    old e k false t = apart k (λ is. false≢true (sym t ∙ eq-eqb k at is))

    new : s' at ≡ sector_of bytes 0 → (k : ℕ) (b : Bool) → (k == at) ≡ b → s' k ≡ (if k == at then sector_of bytes 0 else s k)
    new e k true t = ap s' (eqb-true k at t) ∙ e ∙ sym (ap (λ (b : Bool). if b then sector_of bytes 0 else s k) t)
    new e k false t = apart k (λ is. false≢true (sym t ∙ eq-eqb k at is)) ∙ sym (ap (λ (b : Bool). if b then sector_of bytes 0 else s k) t)

    go : (s' at ≡ s at) ⊎ ((at ≤ at) × (at < at + sectors_in bytes) × (s' at ≡ sector_of bytes (at - at))) → (s' ≡ s) ⊎ (s' ≡ with_sector at (sector_of bytes 0) s)
    go (inl e) = inl (λ i k. old e k (k == at) refl i)
    go (inr p) = let first : at - at ≡ 0 = omega arith in inr (λ i k. new (p.2 ∙ ap (sector_of bytes) first) k (k == at) refl i)

-- the host sees a sector that it wrote
pub seen_one : (host at : ℕ) (bytes : List ℕ) (f : File) → sectors_in bytes ≡ 1 → seen host (wrote (λ _. true) host at bytes f) ≡ with_sector at (sector_of bytes 0) (seen host f)
seen_one host at bytes f one = λ i k. go k (k == at) refl i
  where
    outside : (k : ℕ) → (k < at) ⊎ (at + sectors_in bytes ≤ k) → seen host (wrote (λ _. true) host at bytes f) k ≡ seen host f k
    outside k out = ap (λ (o : Option (List ℕ)). unwrap_or o (f.stable k)) (own_outside (λ _. true) host at (sectors_in bytes) k bytes f.loose out)

    side : (k : ℕ) → k ≢ at → (k < at) ⊎ (at ≤ k) → seen host (wrote (λ _. true) host at bytes f) k ≡ seen host f k
    side k other (inl lt) = outside k (inl lt)
    side k other (inr le) = outside k (inr (omega (arith, le, other, one)))

    go : (k : ℕ) (b : Bool) → (k == at) ≡ b → seen host (wrote (λ _. true) host at bytes f) k ≡ (if k == at then sector_of bytes 0 else seen host f k)
    go k true t =
        let is = eqb-true k at t in
        let here = own_within host at (sectors_in bytes) k bytes f.loose (omega (arith, is)) (omega (arith, is, one)) in
        let first : k - at ≡ 0 = omega (arith, is) in
        ap (λ (o : Option (List ℕ)). unwrap_or o (f.stable k)) here ∙ ap (sector_of bytes) first ∙ sym (ap (λ (b : Bool). if b then sector_of bytes 0 else seen host f k) t)
    go k false t = side k (λ is. false≢true (sym t ∙ eq-eqb k at is)) (cases_lt k at) ∙ sym (ap (λ (b : Bool). if b then sector_of bytes 0 else seen host f k) t)

-- each outcome of a file with nothing unsynced, after a write of one sector, is old or new
pub either_on_each : (did : ℕ → Bool) (host at : ℕ) (bytes : List ℕ) (f : File) → IsSettled f → sectors_in bytes ≡ 1
    → OnEach (wrote did host at bytes f) (IsEither f.stable (with_sector at (sector_of bytes 0) f.stable))
either_on_each did host at bytes f settled one g out =
    let from = write_file did host at bytes f g out in
    let is : from.0 ≡ f = settled_file f from.0 settled from.1 in
    one_sector at bytes f.stable g.stable one (subst (λ (o : File). LaysPiece at bytes o.stable g.stable) is (outcome_laid did at bytes from.0 g from.2))

pub between_written : (host at : ℕ) (bytes : List ℕ) (f : File) → IsSettled f → sectors_in bytes ≡ 1
    → IsBetween host f.stable (with_sector at (sector_of bytes 0) f.stable) (wrote (λ _. true) host at bytes f)
between_written host at bytes f settled one = record {
  alone = alone_writes (λ _. true) host at bytes f (settled_alone host f settled);
  made = settled.fresh;
  sees = seen_one host at bytes f one ∙ ap (with_sector at (sector_of bytes 0)) (settled_seen host f settled);
  each = either_on_each (λ _. true) host at bytes f settled one;
}
