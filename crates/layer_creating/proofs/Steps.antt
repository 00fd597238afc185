-- What each step of a making leaves, from what its call left.
use Rattle.std.proofs.Common.{◌≡◌, ◌≢◌, ◌⊎◌, inl, inr, eq-eqb, eqb-true, ℕ, ◌+◌, ◌-◌, ◌/◌, ◌<◌, ◌≤◌, Bool, true, false, List, length, Option, Some, None, Ok, Err, unwrap_or, refl, sym, ap, ◌∙◌, subst, arith}
use Rattle.std.specs.Prelude.{◌==◌, if◌then◌else◌}
use Rattle.std.proofs.lemmas.Bool.{false≢true}
use Rattle.std.proofs.lemmas.List.{take_all}
use Rattle.sd_names.specs.Turn.{MatchTurn}
use Rattle.sd_names.specs.declared.place.Place.{Place}
use Rattle.sd_names.specs.declared.refusal.Refusal.{Refusal}
use Rattle.sd_names.specs.declared.refusal.Refusal.TheVariants.{DiskFault}
use Rattle.sd_names.specs.declared.turn.Turn.{Turn}
use Rattle.sd_names.specs.declared.turn.Turn.TheVariants.{More, Done, Ended}
use Rattle.shared_disk.specs.Calls.{IsPut, IsSame, created, sectors_in, synced, wrote}
use Rattle.shared_disk.specs.Content.{Content, File, sector_of, seen, unless_by, zero_sector}
use Rattle.shared_disk.specs.Step.{GoesOn}
use Rattle.shared_disk.specs.declared.disk.DiskAnswer.TheVariants.{NoFile, Exists, OutOfFile, NotEmpty, Failed}
use Rattle.shared_disk.proofs.AtPlace.{no_file, one_file}
use Rattle.shared_disk.proofs.OwnWrites.{own_outside, own_within, without_writes}
use Rattle.layer_creating.specs.New.{IsNewLayer, header_sector, new_sector}
use Rattle.layer_creating.specs.Creating.{CreatesFile, IsBarred, IsCause, IsIn, IsLeft, IsMade, IsUnfinished, IsWritten, Knows, KnowsFile, KnowsIn, Makes, SyncsFile, WritesSector, backing_of, capacity_of, length_of, made_of, place_of, so_far, tabled, with_sector}
use Rattle.layer_creating.specs.declared.backing.Backing.{Backing}
use Rattle.layer_creating.specs.declared.creating.Creating.{Creating}
use Rattle.layer_creating.specs.declared.creating.Made.{Made}
use Rattle.layer_creating.specs.declared.creating.Made.TheVariants.{Begun, Created, Counted, Tabled, Named, Headed}

abbrev pub Making : Type 0
Making = Turn Creating (Unit {0}) (Unit {0})

abbrev After : Making → Creating → ℕ → ℕ → Content → Content → Type 0
After turn c host faults d e = MatchTurn turn (λ next. Knows next host e) (λ _. IsMade c e) (λ _ refusal. IsCause (made_of c) c faults refusal d e × IsLeft c host d e)

-- ---- what is known next

known_in : (m : Made) (c : Creating) (host : ℕ) (d : Content) → KnowsFile c host d → KnowsIn m c host d
known_in Begun c host d knows = tt
known_in Created c host d knows = knows
known_in Counted c host d knows = knows
known_in Tabled c host d knows = knows
known_in Named c host d knows = knows
known_in Headed c host d knows = knows

-- the file as the next stage has to find it
record Ready (c : Creating) (made : Made) (host : ℕ) (e : Content) : Type 0 where
  file : File
  there : e.file (place_of c) ≡ Some file
  unfinished : IsUnfinished c host file
  sees : (k : ℕ) → seen host file k ≡ so_far (capacity_of c) (backing_of c) made k

goes_on : (c next : Creating) (made : Made) (host : ℕ) (e : Content) → IsIn c made next → Ready c made host e → Knows next host e
goes_on c next made host e g r =
    known_in (made_of next) next host e (
      r.file,
      ap (λ (p : Place). e.file p) g.same.place ∙ r.there,
      record {
        unfinished = record { size = r.unfinished.size ∙ ap (λ n. n / 512) (sym g.same.length); fresh = r.unfinished.fresh; alone = r.unfinished.alone };
        sees = λ k. r.sees k
            ∙ ap (λ n. so_far n (backing_of c) made k) (sym g.same.capacity)
            ∙ ap (λ b. so_far (capacity_of next) b made k) (sym g.same.backing)
            ∙ ap (λ m. so_far (capacity_of next) (backing_of next) m k) (sym g.now_in);
      },
    )

after_more : (c : Creating) (made : Made) (host faults : ℕ) (turn : Making) (d e : Content) → GoesOn (IsIn c made) turn → Ready c made host e → After turn c host faults d e
after_more c made host faults (More next) d e g r = goes_on c next made host e g r
after_more c made host faults (Done u) d e g r = absurd g
after_more c made host faults (Ended u x) d e g r = absurd g

-- ---- refusals

cause_in : (m : Made) (c : Creating) (faults : ℕ) (refusal : Refusal) (d e : Content) → refusal ≡ DiskFault faults → IsCause m c faults refusal d e
cause_in Begun c faults refusal d e is = inl is
cause_in Created c faults refusal d e is = is
cause_in Counted c faults refusal d e is = is
cause_in Tabled c faults refusal d e is = is
cause_in Named c faults refusal d e is = is
cause_in Headed c faults refusal d e is = is

after_fault : (c : Creating) (host faults : ℕ) (turn : Making) (d e : Content) → turn ≡ Ended tt (DiskFault faults) → IsLeft c host d e → After turn c host faults d e
after_fault c host faults turn d e is left =
    subst (λ (t : Making). After t c host faults d e) (sym is) (cause_in (made_of c) c faults (DiskFault faults) d e refl, left)

after_barred : (c : Creating) (host faults : ℕ) (refusal : Refusal) (turn : Making) (d e : Content) → turn ≡ Ended tt refusal → made_of c ≡ Begun → IsBarred c refusal d e → After turn c host faults d e
after_barred c host faults refusal turn d e is begun barred =
    let cause : IsCause (made_of c) c faults refusal d e = subst (λ (m : Made). IsCause m c faults refusal d e) (sym begun) (inr barred) in
    subst (λ (t : Making). After t c host faults d e) (sym is) (cause, inl (ap (λ (x : Content). x.file (place_of c)) barred.0))

-- ---- nothing has changed, or the file alone

same_step : (c : Creating) (host faults : ℕ) (turn : Making) (d e : Content) → IsSame d e → After turn c host faults d e → Makes c host faults turn d e
same_step c host faults turn d e same after = record {
  dirs = λ q. ap (λ (x : Content). x.dir q) same;
  others = λ q _. ap (λ (x : Content). x.file q) same;
  after = after;
}

put_step : (c : Creating) (host faults : ℕ) (turn : Making) (d e : Content) (new : File) → IsPut d (place_of c) (Some new) e → After turn c host faults d e → Makes c host faults turn d e
put_step c host faults turn d e new put after = record { dirs = put.dirs; others = put.others; after = after }

same_fault : (c : Creating) (host faults : ℕ) (turn : Making) (d e : Content) → IsSame d e → turn ≡ Ended tt (DiskFault faults) → Makes c host faults turn d e
same_fault c host faults turn d e same is =
    same_step c host faults turn d e same (after_fault c host faults turn d e is (inl (ap (λ (x : Content). x.file (place_of c)) same)))

put_fault : (c : Creating) (host faults : ℕ) (turn : Making) (d e : Content) (new : File) → IsPut d (place_of c) (Some new) e → IsUnfinished c host new → turn ≡ Ended tt (DiskFault faults) → Makes c host faults turn d e
put_fault c host faults turn d e new put unfinished is =
    put_step c host faults turn d e new put (after_fault c host faults turn d e is (inr (new, put.here, unfinished)))

-- ---- the file is made

unfinished_new : (c : Creating) (host : ℕ) → IsUnfinished c host (created host (length_of c / 512))
unfinished_new c host = record { size = refl; fresh = refl; alone = refl }

pub create_step : (c : Creating) (host faults : ℕ) (turn : Making) (d e : Content) → made_of c ≡ Begun → CreatesFile c host faults turn d e → Makes c host faults turn d e
create_step c host faults turn d e begun (Ok u, is, by) =
    let new = created host (length_of c / 512) in
    put_step c host faults turn d e new is.put (after_more c Created host faults turn d e by (record {
      file = new;
      there = is.put.here;
      unfinished = unfinished_new c host;
      sees = λ k. refl;
    }))
create_step c host faults turn d e begun (Err NoFile, is, by) = same_step c host faults turn d e is.0 (after_barred c host faults _ turn d e by begun (is.0, inl (refl, is.1)))
create_step c host faults turn d e begun (Err Exists, is, by) = same_step c host faults turn d e is.0 (after_barred c host faults _ turn d e by begun (is.0, inr (refl, is.2, is.3)))
create_step c host faults turn d e begun (Err Failed, inl same, by) = same_fault c host faults turn d e same by
create_step c host faults turn d e begun (Err Failed, inr is, by) = put_fault c host faults turn d e (created host (length_of c / 512)) is.put (unfinished_new c host) by
create_step c host faults turn d e begun (Err OutOfFile, is, by) = absurd is
create_step c host faults turn d e begun (Err NotEmpty, is, by) = absurd is

-- ---- a sector is written

unfinished_wrote : (c : Creating) (host p : ℕ) (did : ℕ → Bool) (bytes : List ℕ) (f : File) → IsUnfinished c host f → IsUnfinished c host (wrote did host p bytes f)
unfinished_wrote c host p did bytes f u = record {
  size = u.size;
  fresh = u.fresh;
  alone = without_writes did host p (sectors_in bytes) bytes f.loose ∙ u.alone;
}

one_sector : (bytes : List ℕ) → length bytes ≡ 512 → sectors_in bytes ≡ 1
one_sector bytes long = omega (arith, long)

whole_sector : (bytes : List ℕ) → length bytes ≡ 512 → sector_of bytes 0 ≡ bytes
whole_sector bytes long = take_all 512 bytes (omega (arith, long))

sees_written : (host p k : ℕ) (bytes : List ℕ) (f : File) → length bytes ≡ 512 → seen host (wrote (λ _. true) host p bytes f) k ≡ with_sector p bytes (seen host f) k
sees_written host p k bytes f long = go (k == p) refl
  where
    go : (b : Bool) → (k == p) ≡ b → seen host (wrote (λ _. true) host p bytes f) k ≡ (if b then bytes else seen host f k)
    go true same =
        let at : k ≡ p = eqb-true k p same in
        let one = one_sector bytes long in
        let first : k - p ≡ 0 = omega (arith, at) in
        ap (λ (o : Option (List ℕ)). unwrap_or o (f.stable k)) (own_within host p (sectors_in bytes) k bytes f.loose (omega (arith, at)) (omega (arith, at, one)))
        ∙ ap (λ j. sector_of bytes j) first ∙ whole_sector bytes long
    go false other =
        let apart : k ≢ p = λ at. false≢true (sym other ∙ eq-eqb k p at) in
        let one = one_sector bytes long in
        ap (λ (o : Option (List ℕ)). unwrap_or o (f.stable k)) (own_outside (λ _. true) host p (sectors_in bytes) k bytes f.loose (outside k p (sectors_in bytes) apart one))
      where
        outside : (k p n : ℕ) → k ≢ p → n ≡ 1 → (k < p) ⊎ (p + n ≤ k)
        outside k p n apart one = grind arith

-- the sector is the next one
abbrev Adds : Creating → ℕ → List ℕ → Made → Type 0
Adds c p bytes made = (k : ℕ) → with_sector p bytes (so_far (capacity_of c) (backing_of c) (made_of c)) k ≡ so_far (capacity_of c) (backing_of c) made k

laid_same : (p k : ℕ) (bytes x y : List ℕ) → x ≡ y → (if k == p then bytes else x) ≡ (if k == p then bytes else y)
laid_same p k bytes x y same = ap (λ z. if k == p then bytes else z) same

pub write_step : (c : Creating) (host p faults : ℕ) (bytes : List ℕ) (made : Made) (turn : Making) (d e : Content) → KnowsFile c host d → p < length_of c / 512 → length bytes ≡ 512 → Adds c p bytes made
    → WritesSector c host p bytes made faults turn d e → Makes c host faults turn d e
write_step c host p faults bytes made turn d e knows within long adds (Ok u, is, by) =
    let f = is.0 in
    let same : f ≡ knows.0 = one_file f knows.0 (d.file (place_of c)) is.1 knows.1 in
    let written : IsWritten c host f = subst (λ (g : File). IsWritten c host g) (sym same) knows.2 in
    let new = wrote (λ _. true) host p bytes f in
    put_step c host faults turn d e new is.3 (after_more c made host faults turn d e by (record {
      file = new;
      there = is.3.here;
      unfinished = unfinished_wrote c host p (λ _. true) bytes f written.unfinished;
      sees = λ k. sees_written host p k bytes f long ∙ laid_same p k bytes (seen host f k) (so_far (capacity_of c) (backing_of c) (made_of c) k) (written.sees k) ∙ adds k;
    }))
write_step c host p faults bytes made turn d e knows within long adds (Err NoFile, is, by) = absurd (no_file knows.0 (d.file (place_of c)) is.1 knows.1)
write_step c host p faults bytes made turn d e knows within long adds (Err OutOfFile, is, by) =
    let same : is.1.size ≡ length_of c / 512 = ap (λ (g : File). g.size) (one_file is.1 knows.0 (d.file (place_of c)) is.2 knows.1) ∙ knows.2.unfinished.size in
    let one = one_sector bytes long in
    absurd (beyond is.1.size (length_of c / 512) p (sectors_in bytes) same within one is.3)
  where
    beyond : (a b p n : ℕ) → a ≡ b → p < b → n ≡ 1 → a < p + n → ⊥
    beyond a b p n same within one less = omega (arith, same, within, one, less)
write_step c host p faults bytes made turn d e knows within long adds (Err Failed, inl same, by) = same_fault c host faults turn d e same by
write_step c host p faults bytes made turn d e knows within long adds (Err Failed, inr is, by) =
    let same : is.0 ≡ knows.0 = one_file is.0 knows.0 (d.file (place_of c)) is.1 knows.1 in
    let unfinished : IsUnfinished c host is.0 = subst (λ (g : File). IsUnfinished c host g) (sym same) knows.2.unfinished in
    put_fault c host faults turn d e (wrote is.3 host p bytes is.0) is.4 (unfinished_wrote c host p is.3 bytes is.0 unfinished) by
write_step c host p faults bytes made turn d e knows within long adds (Err Exists, is, by) = absurd is
write_step c host p faults bytes made turn d e knows within long adds (Err NotEmpty, is, by) = absurd is

-- ---- all is synced

unless_own : (host : ℕ) → unless_by host (Some host) ≡ None
unless_own host = rw (eq-eqb host host refl) refl

synced_layer : (c : Creating) (host : ℕ) (f : File) → made_of c ≡ Headed → IsWritten c host f → IsNewLayer (capacity_of c) (backing_of c) (length_of c) (synced host f)
synced_layer c host f headed w = record {
  size = w.unfinished.size;
  sectors = λ k. w.sees k ∙ ap (λ m. so_far (capacity_of c) (backing_of c) m k) headed;
  settled = record { loose = w.unfinished.alone; fresh = ap (λ o. unless_by host o) w.unfinished.fresh ∙ unless_own host };
}

pub sync_step : (c : Creating) (host faults : ℕ) (turn : Making) (d e : Content) → made_of c ≡ Headed → KnowsFile c host d → SyncsFile c host faults turn d e → Makes c host faults turn d e
sync_step c host faults turn d e headed knows (Ok u, is, by) =
    let f = is.0 in
    let same : f ≡ knows.0 = one_file f knows.0 (d.file (place_of c)) is.1 knows.1 in
    let made : IsMade c e = (synced host f, is.2.here, synced_layer c host f headed (subst (λ (g : File). IsWritten c host g) (sym same) knows.2)) in
    put_step c host faults turn d e (synced host f) is.2 (subst (λ (t : Making). After t c host faults d e) (sym by) made)
sync_step c host faults turn d e headed knows (Err NoFile, is, by) = absurd (no_file knows.0 (d.file (place_of c)) is.1 knows.1)
sync_step c host faults turn d e headed knows (Err Failed, same, by) = same_fault c host faults turn d e same by
sync_step c host faults turn d e headed knows (Err Exists, is, by) = absurd is
sync_step c host faults turn d e headed knows (Err OutOfFile, is, by) = absurd is
sync_step c host faults turn d e headed knows (Err NotEmpty, is, by) = absurd is

-- ---- what each sector adds

-- behind a name, or where there is none, the header makes the layer whole
pub adds_header_named : (capacity : ℕ) (backing : Option Backing) (k : ℕ)
    → with_sector 0 (header_sector capacity backing) (so_far capacity backing Named) k ≡ new_sector capacity backing k
unfolding new_sector
adds_header_named capacity backing k = refl

no_name : (k : ℕ) → tabled k ≡ (if k == 126 then zero_sector else tabled k)
no_name k = go (k == 126) refl
  where
    go : (b : Bool) → (k == 126) ≡ b → tabled k ≡ (if b then zero_sector else tabled k)
    go true at = ap tabled (eqb-true k 126 at)
    go false other = refl

pub adds_header_alone : (capacity : ℕ) (k : ℕ) → with_sector 0 (header_sector capacity None) (so_far capacity None Tabled) k ≡ new_sector capacity None k
unfolding new_sector
adds_header_alone capacity k = ap (λ (x : List ℕ). if k == 0 then header_sector capacity None else x) (no_name k)

-- the sector that was written, by another name
pub written : (c : Creating) (host p : ℕ) (sector : List ℕ) (made : Made) (faults : ℕ) (turn : Making) (d e : Content) (bytes : List ℕ) → sector ≡ bytes → WritesSector c host p sector made faults turn d e
    → WritesSector c host p bytes made faults turn d e
written c host p sector made faults turn d e bytes is by = subst (λ (s : List ℕ). WritesSector c host p s made faults turn d e) is by
