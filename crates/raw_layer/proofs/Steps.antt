-- What the steps of a write leave on each outcome, by the answers of their calls.
use Rattle.std.proofs.Common.{◌≡◌, ◌≢◌, ◌⊎◌, ℕ, ◌+◌, ◌-◌, ◌/◌, ◌<◌, ◌≤◌, Bool, true, false, nat_le, MatchBool, List, ◌++◌, length, Option, Some, None, Ok, Err, unwrap_or, ap, ◌∙◌, inl, inr, arith}
use Rattle.sd_names.specs.declared.refusal.Refusal.{Refusal}
use Rattle.sd_names.specs.declared.refusal.Refusal.TheVariants.{NoRoom}
use Rattle.sd_names.specs.declared.turn.Turn.{Turn}
use Rattle.sd_names.specs.declared.turn.Turn.TheVariants.{Done, Ended, More}
use Rattle.shared_disk.specs.declared.disk.DiskAnswer.TheVariants.{NoFile, Exists, OutOfFile, NotEmpty, Failed}
use Rattle.shared_disk.specs.Calls.{sectors_in, synced, wrote}
use Rattle.shared_disk.specs.Content.{Content, File, own_of, sector_of, writes}
use Rattle.shared_disk.specs.Crash.{IsDownFile, IsFileOutcome, IsFromBefore, IsLaidOver, IsOutcome}
use Rattle.shared_disk.proofs.AtPlace.{also_some, one_file}
use Rattle.shared_disk.proofs.Others.{alone_at_file, seen_after_down, seen_after_sync, seen_after_write}
use Rattle.shared_disk.proofs.OwnWrites.{own_within}
use Rattle.shared_disk.proofs.Toolkit.{failed_write_on_each, same_on_each, sync_on_each, write_on_each}
use Rattle.raw_layer.specs.Place.{volume_of}
use Rattle.raw_layer.specs.Part.{HasPart, IsAloneIn, SeesPart}
use Rattle.raw_layer.specs.Raw.{AsksLength, IsAt, ReadSteps, SyncsFile, WriteSteps, WritesPart, stage_of, write_from, write_place}
use Rattle.raw_layer.specs.declared.read.RawRead.{RawRead}
use Rattle.raw_layer.specs.declared.write.RawWrite.{RawWrite}
use Rattle.raw_layer.specs.declared.write.Stage.{Stage}
use Rattle.raw_layer.specs.declared.write.Stage.TheVariants.{Begun, Fits, Written}

-- outcomes
LaidOver : RawWrite → List ℕ → Content → Content → Type 0
LaidOver w part d o = IsOutcome d o ⊎ ((did : ℕ → Bool) × IsFromBefore d (write_place w) (IsLaidOver did (write_from w / 512) part) o)

part_outcome : (w : RawWrite) (host faults : ℕ) (part : List ℕ) (turn : Turn RawWrite (Unit {0}) (Unit {0})) (d e o : Content) → WritesPart w host faults part turn d e → IsOutcome e o → LaidOver w part d o
unfolding LaidOver
part_outcome w host faults part turn d e o (Ok t, is, follows) out = inr ((λ _. true), write_on_each d e o host (write_from w / 512) (write_place w) part is out)
part_outcome w host faults part turn d e o (Err Failed, is, follows) out = failed_write_on_each d e o host (write_from w / 512) (write_place w) part is out
part_outcome w host faults part turn d e o (Err NoFile, is, follows) out = inl (same_on_each d e o is.0 out)
part_outcome w host faults part turn d e o (Err OutOfFile, is, follows) out = inl (same_on_each d e o is.0 out)
part_outcome w host faults part turn d e o (Err Exists, is, follows) out = absurd is
part_outcome w host faults part turn d e o (Err NotEmpty, is, follows) out = absurd is

sync_outcome : (w : RawWrite) (host faults : ℕ) (turn : Turn RawWrite (Unit {0}) (Unit {0})) (d e o : Content) → SyncsFile w host faults turn d e → IsOutcome e o → IsOutcome d o
sync_outcome w host faults turn d e o (Ok t, is, follows) out = sync_on_each d e o host (write_place w) is out
sync_outcome w host faults turn d e o (Err Failed, is, follows) out = same_on_each d e o is out
sync_outcome w host faults turn d e o (Err NoFile, is, follows) out = same_on_each d e o is.0 out
sync_outcome w host faults turn d e o (Err OutOfFile, is, follows) out = absurd is
sync_outcome w host faults turn d e o (Err Exists, is, follows) out = absurd is
sync_outcome w host faults turn d e o (Err NotEmpty, is, follows) out = absurd is

length_outcome : (w : RawWrite) (faults count : ℕ) (turn : Turn RawWrite (Unit {0}) (Unit {0})) (d e o : Content) → AsksLength w faults count turn d e → IsOutcome e o → IsOutcome d o
length_outcome w faults count turn d e o (Ok n, is, follows) out = same_on_each d e o is.0 out
length_outcome w faults count turn d e o (Err Failed, is, follows) out = same_on_each d e o is out
length_outcome w faults count turn d e o (Err NoFile, is, follows) out = same_on_each d e o is.0 out
length_outcome w faults count turn d e o (Err OutOfFile, is, follows) out = absurd is
length_outcome w faults count turn d e o (Err Exists, is, follows) out = absurd is
length_outcome w faults count turn d e o (Err NotEmpty, is, follows) out = absurd is

begun_outcome : (w : RawWrite) (host faults : ℕ) (part : List ℕ) (turn : Turn RawWrite (Unit {0}) (Unit {0})) (d e o : Content) (t : Bool)
    → MatchBool t (WritesPart w host faults part turn d e) (AsksLength w faults (length part) turn d e) → IsOutcome e o → LaidOver w part d o
unfolding LaidOver
begun_outcome w host faults part turn d e o true steps out = part_outcome w host faults part turn d e o steps out
begun_outcome w host faults part turn d e o false steps out = inl (length_outcome w faults (length part) turn d e o steps out)

stage_outcome : (s : Stage) (w : RawWrite) (host faults : ℕ) (part : List ℕ) (turn : Turn RawWrite (Unit {0}) (Unit {0})) (d e o : Content) → WriteSteps s w host faults part turn d e → IsOutcome e o
    → LaidOver w part d o
unfolding LaidOver
stage_outcome (Begun known) w host faults part turn d e o steps out = begun_outcome w host faults part turn d e o (nat_le (write_from w + length part) known) steps out
stage_outcome Fits w host faults part turn d e o steps out = part_outcome w host faults part turn d e o steps out
stage_outcome Written w host faults part turn d e o steps out = inl (sync_outcome w host faults turn d e o steps out)

pub write_outcome : (w : RawWrite) (host faults : ℕ) (part : List ℕ) (turn : Turn RawWrite (Unit {0}) (Unit {0})) (d e o : Content) → WriteSteps (stage_of w) w host faults part turn d e → IsOutcome e o
    → IsOutcome d o ⊎ ((did : ℕ → Bool) × IsFromBefore d (write_place w) (IsLaidOver did (write_from w / 512) part) o)
unfolding LaidOver
write_outcome w host faults part turn d e o steps out = stage_outcome (stage_of w) w host faults part turn d e o steps out

pub read_outcome : (r : RawRead) (host faults : ℕ) (part : List ℕ) (turn : Turn RawRead (Unit {0}) (Unit {0})) (d e o : Content) → ReadSteps r host faults part turn d e → IsOutcome e o → IsOutcome d o
read_outcome r host faults part turn d e o steps out = same_on_each d e o steps.0 out

-- a part that was written is seen
pub written_seen : (host at : ℕ) (part : List ℕ) (f : File) → at + sectors_in part ≤ f.size → SeesPart host at part (wrote (λ _. true) host at part f)
written_seen host at part f fits = record {
  fits = fits;
  sectors = λ i within.
      let own : own_of host (at + i) (writes (λ _. true) host at part (sectors_in part) ++ f.loose) ≡ Some (sector_of part ((at + i) - at)) =
      own_within host at (sectors_in part) (at + i) part f.loose (omega arith) (omega arith) in
      let index : (at + i) - at ≡ i = omega arith in
      ap (λ (o : Option (List ℕ)). unwrap_or o (f.stable (at + i))) own ∙ ap (λ (j : ℕ). sector_of part j) index;
}

SeenIn : RawWrite → ℕ → List ℕ → Content → Type 0
SeenIn w host part e = (f : File) × (e.file (write_place w) ≡ Some f) × SeesPart host (write_from w / 512) part f

part_seen : (w next : RawWrite) (host faults : ℕ) (part : List ℕ) (d e : Content) → WritesPart w host faults part (More next) d e → SeenIn w host part e
unfolding SeenIn
part_seen w next host faults part d e (Ok t, is, follows) = (wrote (λ _. true) host (write_from w / 512) part is.0, is.3.here, written_seen host (write_from w / 512) part is.0 is.2)
part_seen w next host faults part d e (Err a, is, follows) = cc

not_fits : (next : RawWrite) → stage_of next ≡ Fits → stage_of next ≡ Written → ⊥
not_fits next fits at = cc

not_written_step : (w next : RawWrite) (refusal : Refusal) (t : Bool) → stage_of next ≡ Written
    → MatchBool t (IsAt w Fits next) (◌≡◌ {A = Turn RawWrite (Unit {0}) (Unit {0})} (More next) (Ended tt refusal)) → ⊥
not_written_step w next refusal true at is = not_fits next is.now_in at
not_written_step w next refusal false at is = cc

not_written : (w next : RawWrite) (faults count : ℕ) (d e : Content) → stage_of next ≡ Written → AsksLength w faults count (More next) d e → ⊥
not_written w next faults count d e at (Ok n, is, follows) =
    not_written_step w next (NoRoom (volume_of (write_place w).name) n (write_from w + count)) (nat_le (write_from w + count) n) at follows
not_written w next faults count d e at (Err a, is, follows) = cc

begun_seen : (w next : RawWrite) (host faults : ℕ) (part : List ℕ) (d e : Content) (t : Bool) → stage_of next ≡ Written
    → MatchBool t (WritesPart w host faults part (More next) d e) (AsksLength w faults (length part) (More next) d e) → SeenIn w host part e
begun_seen w next host faults part d e true at steps = part_seen w next host faults part d e steps
begun_seen w next host faults part d e false at steps = absurd (not_written w next faults (length part) d e at steps)

no_more : (w next : RawWrite) (host faults : ℕ) (d e : Content) → SyncsFile w host faults (More next) d e → ⊥
no_more w next host faults d e (Ok t, is, follows) = cc
no_more w next host faults d e (Err a, is, follows) = cc

stage_seen : (s : Stage) (w next : RawWrite) (host faults : ℕ) (part : List ℕ) (d e : Content) → WriteSteps s w host faults part (More next) d e → stage_of next ≡ Written → SeenIn w host part e
stage_seen (Begun known) w next host faults part d e steps at = begun_seen w next host faults part d e (nat_le (write_from w + length part) known) at steps
stage_seen Fits w next host faults part d e steps at = part_seen w next host faults part d e steps
stage_seen Written w next host faults part d e steps at = absurd (no_more w next host faults d e steps)

pub set_seen : (w next : RawWrite) (host faults : ℕ) (part : List ℕ) (d e : Content) → WriteSteps (stage_of w) w host faults part (More next) d e → stage_of next ≡ Written
    → (f : File) × (e.file (write_place w) ≡ Some f) × SeesPart host (write_from w / 512) part f
unfolding SeenIn
set_seen w next host faults part d e steps at = stage_seen (stage_of w) w next host faults part d e steps at

pub seen_beside_write : (did : ℕ → Bool) (host other at from : ℕ) (part bytes : List ℕ) (f : File) → host ≢ other → SeesPart host at part f → SeesPart host at part (wrote did other from bytes f)
seen_beside_write did host other at from part bytes f apart sees =
    record { fits = sees.fits; sectors = λ i within. seen_after_write did host other from (at + i) bytes f apart ∙ sees.sectors i within }

pub seen_beside_sync : (host other at : ℕ) (part : List ℕ) (f : File) → host ≢ other → ((i : ℕ) → i < sectors_in part → own_of other (at + i) f.loose ≡ None) → SeesPart host at part f
    → SeesPart host at part (synced other f)
seen_beside_sync host other at part f apart none sees =
    record { fits = sees.fits; sectors = λ i within. seen_after_sync host other (at + i) f apart (none i within) ∙ sees.sectors i within }

pub seen_beside_down : (host other at : ℕ) (part : List ℕ) (f g : File) → host ≢ other → ((i : ℕ) → i < sectors_in part → own_of other (at + i) f.loose ≡ None) → f.fresh ≢ Some other
    → IsDownFile other f g → SeesPart host at part f → SeesPart host at part g
seen_beside_down host other at part f g apart none made down sees =
    record { fits = omega (arith, sees.fits, down.size); sectors = λ i within. seen_after_down host other (at + i) f g apart (none i within) made down ∙ sees.sectors i within }

-- a write that is done
DoneOn : RawWrite → List ℕ → Content → Type 0
DoneOn w part o = (g : File) × (o.file (write_place w) ≡ Some g) × HasPart (write_from w / 512) part g

sync_done : (w : RawWrite) (host faults : ℕ) (part : List ℕ) (d e o : Content) (f : File) → d.file (write_place w) ≡ Some f → SeesPart host (write_from w / 512) part f
    → IsAloneIn host (write_from w / 512) (sectors_in part) f → SyncsFile w host faults (Done tt) d e → IsOutcome e o → DoneOn w part o
unfolding DoneOn
sync_done w host faults part d e o f there sees alone (Err a, is, follows) out = cc
sync_done w host faults part d e o f there sees alone (Ok t, is, follows) out =
    let here : e.file (write_place w) ≡ Some (synced host f) = is.2.here ∙ ap (λ (x : File). Some (synced host x)) (one_file is.0 f (d.file (write_place w)) is.1 there) in
    let now = also_some IsFileOutcome (e.file (write_place w)) (o.file (write_place w)) (synced host f) (out.files (write_place w)) here in (
      now.0,
      now.1,
      record {
        fits = omega (arith, sees.fits, now.2.size);
        sectors = λ i within. alone_at_file host (write_from w / 512 + i) f now.0 (alone i within) now.2 ∙ sees.sectors i within;
      },
    )

part_not_done : (w : RawWrite) (host faults : ℕ) (part : List ℕ) (d e : Content) → WritesPart w host faults part (Done tt) d e → ⊥
part_not_done w host faults part d e (Ok t, is, follows) = follows
part_not_done w host faults part d e (Err a, is, follows) = cc

length_step : (refusal : Refusal) (t : Bool) → MatchBool t ⊥ (◌≡◌ {A = Turn RawWrite (Unit {0}) (Unit {0})} (Done tt) (Ended tt refusal)) → ⊥
length_step refusal true is = is
length_step refusal false is = cc

length_not_done : (w : RawWrite) (faults count : ℕ) (d e : Content) → AsksLength w faults count (Done tt) d e → ⊥
length_not_done w faults count d e (Ok n, is, follows) =
    length_step (NoRoom (volume_of (write_place w).name) n (write_from w + count)) (nat_le (write_from w + count) n) follows
length_not_done w faults count d e (Err a, is, follows) = cc

begun_not_done : (w : RawWrite) (host faults : ℕ) (part : List ℕ) (d e : Content) (t : Bool)
    → MatchBool t (WritesPart w host faults part (Done tt) d e) (AsksLength w faults (length part) (Done tt) d e) → ⊥
begun_not_done w host faults part d e true steps = part_not_done w host faults part d e steps
begun_not_done w host faults part d e false steps = length_not_done w faults (length part) d e steps

stage_done : (s : Stage) (w : RawWrite) (host faults : ℕ) (part : List ℕ) (d e o : Content) (f : File) → d.file (write_place w) ≡ Some f → SeesPart host (write_from w / 512) part f
    → IsAloneIn host (write_from w / 512) (sectors_in part) f → WriteSteps s w host faults part (Done tt) d e → IsOutcome e o → DoneOn w part o
stage_done (Begun known) w host faults part d e o f there sees alone steps out = absurd (begun_not_done w host faults part d e (nat_le (write_from w + length part) known) steps)
stage_done Fits w host faults part d e o f there sees alone steps out = absurd (part_not_done w host faults part d e steps)
stage_done Written w host faults part d e o f there sees alone steps out = sync_done w host faults part d e o f there sees alone steps out

pub done_on_each : (w : RawWrite) (host faults : ℕ) (part : List ℕ) (d e o : Content) (f : File) → d.file (write_place w) ≡ Some f → SeesPart host (write_from w / 512) part f
    → IsAloneIn host (write_from w / 512) (sectors_in part) f → WriteSteps (stage_of w) w host faults part (Done tt) d e → IsOutcome e o
    → (g : File) × (o.file (write_place w) ≡ Some g) × HasPart (write_from w / 512) part g
unfolding DoneOn
done_on_each w host faults part d e o f there sees alone steps out = stage_done (stage_of w) w host faults part d e o f there sees alone steps out
