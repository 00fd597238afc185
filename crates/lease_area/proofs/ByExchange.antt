-- What taking a sector answers and leaves, from what its exchange left.
use Rattle.std.proofs.Common.{◌≡◌, ◌≢◌, ℕ, ◌<◌, ◌≤◌, Bool, true, false, List, Option, Some, None, Result, Ok, Err, refl, sym, ap, ◌∙◌, subst, inl, inr, arith}
use Rattle.std.proofs.lemmas.Option.{none-some}
use Rattle.std.proofs.lemmas.Slice.Eq.{bytes_eq-Decides}
use Rattle.std.specs.Str.{bytes_eq}
use Rattle.sd_names.specs.declared.id.Id.{Id}
use Rattle.sd_names.specs.declared.refusal.Refusal.{Refusal}
use Rattle.shared_disk.specs.Changes.{exchanged}
use Rattle.shared_disk.specs.Content.{Content, File, Sees}
use Rattle.shared_disk.specs.Crash.{IsSettled}
use Rattle.shared_disk.specs.Refusal.{refusal_of}
use Rattle.shared_disk.specs.SectorCalls.{Exchanges, IsExchanged, IsFound}
use Rattle.shared_disk.specs.declared.disk.DiskAnswer.{DiskAnswer}
use Rattle.shared_disk.specs.declared.disk.Exchanged.{Exchanged}
use Rattle.shared_disk.specs.declared.disk.Exchanged.TheVariants.{Done, Found}
use Rattle.shared_disk.specs.declared.disk.DiskAnswer.TheVariants.{NoFile, Exists, OutOfFile, NotEmpty, Failed}
use Rattle.shared_disk.proofs.AtPlace.{one_file, put_same_file}
use Rattle.shared_disk.proofs.Toolkit.{exchanged_same, sees_settled}
use Rattle.lease_area.specs.Attempt.{attempt_answer}
use Rattle.lease_area.specs.Hold.{ByOneExchange, Stands, Takes, answer_at, answer_to, leases_of, met_answer}
use Rattle.lease_area.specs.Move.{next_sector}
use Rattle.lease_area.specs.Sector.{sector_bytes, sector_in}
use Rattle.lease_area.specs.declared.attempt.NotTaken.{NotTaken}
use Rattle.lease_area.specs.declared.attempt.NotTaken.TheVariants as not_taken
use Rattle.lease_area.specs.declared.sector.LeaseRecord.{LeaseRecord}
use Rattle.lease_area.specs.declared.sector.Sector.{Sector}

-- the bytes that an exchange saw are those that stand there
stood : (d : Content) (sd : Id) (host slot : ℕ) (bytes b : List ℕ) (f : File) → Stands d sd slot bytes → d.file (leases_of sd) ≡ Some f → Sees host f slot b → b ≡ bytes
stood d sd host slot bytes b f stands there sees =
    let same : stands.file ≡ f = one_file stands.file f (d.file (leases_of sd)) stands.there there in
    sees_settled host slot f b (subst IsSettled same stands.settled) sees ∙ sym (ap (λ (g : File). g.stable slot) same) ∙ stands.bytes_are

-- an exchange for itself
kept : (d e : Content) (sd : Id) (host slot : ℕ) (bytes b : List ℕ) → Stands d sd slot bytes → IsExchanged d host (leases_of sd) slot b b e → e ≡ d
kept d e sd host slot bytes b stands is =
    let f = is.0 in
    let same : stands.file ≡ f = one_file stands.file f (d.file (leases_of sd)) stands.there is.1 in
    let settled : IsSettled f = subst IsSettled same stands.settled in
    put_same_file d e (leases_of sd) f (exchanged slot b f) is.1 (exchanged_same slot f b settled (sym (sees_settled host slot f b settled is.3))) is.4

-- what an attempt comes to, once the refusal of what it found is known
abbrev pub finish : (Option Sector → Refusal) → Result LeaseRecord NotTaken → Result LeaseRecord Refusal
finish refuse (Ok new) = Ok new
finish refuse (Err (not_taken.Found found)) = Err (refuse found)
finish refuse (Err (not_taken.Refused refusal)) = Err refusal

finished : (new : Option LeaseRecord) (refuse : Option Sector → Refusal) (expect : Sector) (faults : ℕ) (answer : Result Exchanged DiskAnswer)
    → finish refuse (attempt_answer new expect faults answer) ≡ answer_to new refuse expect faults answer
finished (Some r) refuse expect faults (Ok Done) = refl
finished None refuse expect faults (Ok Done) = refl
finished new refuse expect faults (Ok (Found bytes)) = refl
finished new refuse expect faults (Err answer) = refl

-- the answer, where the expected sector stands there, and where another one does
met_here : (new : Option LeaseRecord) (refuse : Option Sector → Refusal) (expect : Sector) (bytes : List ℕ) → sector_bytes expect ≡ bytes
    → answer_at new refuse expect bytes ≡ met_answer new (refuse (Some expect))
met_here new refuse expect bytes is = rw ((bytes_eq-Decides bytes (sector_bytes expect)).1 (sym is)) refl

other_here : (new : Option LeaseRecord) (refuse : Option Sector → Refusal) (expect : Sector) (bytes : List ℕ) (t : Bool) → bytes_eq bytes (sector_bytes expect) ≡ t
    → bytes ≢ sector_bytes expect → answer_at new refuse expect bytes ≡ Err (refuse (sector_in bytes))
other_here new refuse expect bytes true t differs = absurd (differs ((bytes_eq-Decides bytes (sector_bytes expect)).0 t))
other_here new refuse expect bytes false t differs = rw t refl

outside : (k a b : ℕ) → a ≡ b → k < a → b ≤ k → ⊥
outside k a b same within past = omega arith

-- one exchange of a sector in which these bytes stand
module _ (host slot faults : ℕ) (sd : Id) (refuse : Option Sector → Refusal) (expect : Sector) (bytes : List ℕ) (d e : Content) (stands : Stands d sd slot bytes) where
  -- the expected sector stands there
  done : (new : Option LeaseRecord) → IsExchanged d host (leases_of sd) slot (sector_bytes expect) (sector_bytes (next_sector new expect)) e
      → Takes sd slot (answer_at new refuse expect bytes) faults (met_answer new (refuse (Some expect))) d e
  done (Some r) is = (met_here (Some r) refuse expect bytes (stood d sd host slot bytes (sector_bytes expect) is.0 stands is.1 is.3), (is.0, is.1, is.4))
  done None is = inl (
    met_here None refuse expect bytes (stood d sd host slot bytes (sector_bytes expect) is.0 stands is.1 is.3),
    kept d e sd host slot bytes (sector_bytes expect) stands is,
  )

  -- another one does
  found : (new : Option LeaseRecord) (b : List ℕ) → IsFound d host (leases_of sd) slot (sector_bytes expect) b → answer_at new refuse expect bytes ≡ Err (refuse (sector_in b))
  found new b is =
      let same = stood d sd host slot bytes b is.0 stands is.1 is.3 in
      other_here new refuse expect bytes (bytes_eq bytes (sector_bytes expect)) refl (λ equal. is.4 (same ∙ equal)) ∙ ap (λ (c : List ℕ). Err (refuse (sector_in c))) (sym same)

  -- a fault: nothing has changed, or the host took it
  failed : (new : Option LeaseRecord) (answer : DiskAnswer) → Exchanges d host (leases_of sd) slot (sector_bytes expect) (sector_bytes (next_sector new expect)) (Err answer) e
      → Takes sd slot (answer_at new refuse expect bytes) faults (Err (refusal_of answer faults)) d e
  failed new Failed (inl same) = inr (refl, inl same)
  failed (Some r) Failed (inr is) = let taken = done (Some r) is in inr (refl, inr (r, taken.0, taken.1))
  failed None Failed (inr is) = inr (refl, inl (kept d e sd host slot bytes (sector_bytes expect) stands is))
  failed new NoFile is = absurd (none-some stands.file (sym is.1 ∙ stands.there))
  failed new OutOfFile is =
      let same : stands.file ≡ is.1 = one_file stands.file is.1 (d.file (leases_of sd)) stands.there is.2 in
      absurd (outside slot stands.file.size is.1.size (ap (λ (f : File). f.size) same) stands.within is.3)
  failed new Exists is = absurd is
  failed new NotEmpty is = absurd is

  answered : (new : Option LeaseRecord) (answer : Result Exchanged DiskAnswer)
      → Exchanges d host (leases_of sd) slot (sector_bytes expect) (sector_bytes (next_sector new expect)) answer e
      → Takes sd slot (answer_at new refuse expect bytes) faults (answer_to new refuse expect faults answer) d e
  answered new (Ok Done) is = done new is
  answered new (Ok (Found b)) is = inl (found new b is.1, is.0)
  answered new (Err answer) is = failed new answer is

-- what taking a sector leaves, where it is one exchange
pub leaves : (host slot faults : ℕ) (sd : Id) (refuse : Option Sector → Refusal) (expect : Sector) (new : Option LeaseRecord) (result : Result LeaseRecord Refusal) (bytes : List ℕ) (d e : Content)
    → ByOneExchange host sd slot expect (next_sector new expect) (answer_to new refuse expect faults) result d e → Stands d sd slot bytes
    → Takes sd slot (answer_at new refuse expect bytes) faults result d e
leaves host slot faults sd refuse expect new result bytes d e by stands =
    subst (λ (r : Result LeaseRecord Refusal). Takes sd slot (answer_at new refuse expect bytes) faults r d e) (sym by.2) (answered host slot faults sd refuse expect bytes d e stands new by.0 by.1)

-- an attempt for a lease that is the one that may be taken, once its refusal is known
pub taking : (host slot faults : ℕ) (sd : Id) (refuse : Option Sector → Refusal) (expect : Sector) (made new : Option LeaseRecord) (tried : Result LeaseRecord NotTaken) (result : Result LeaseRecord Refusal)
    (d e : Content) → made ≡ new → ByOneExchange host sd slot expect (next_sector made expect) (attempt_answer made expect faults) tried d e → result ≡ finish refuse tried
    → ByOneExchange host sd slot expect (next_sector new expect) (answer_to new refuse expect faults) result d e
taking host slot faults sd refuse expect made new tried result d e same by is =
    subst (λ (o : Option LeaseRecord). ByOneExchange host sd slot expect (next_sector o expect) (answer_to o refuse expect faults) result d e) same
    (by.0, by.1, is ∙ ap (finish refuse) by.2 ∙ finished made refuse expect faults by.0)
