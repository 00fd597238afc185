-- A replacement that goes on has left its target as it was: the calls before the last one work on the volatile file.
use Rattle.std.proofs.Common.{◌≡◌, ◌≢◌, ℕ, ◌==◌, Bool, true, false, List, Result, Ok, Err, refl, sym, ap, ◌∙◌, inl, inr}
use Rattle.std.specs.Prelude.{MatchBool}
use Rattle.std.proofs.lemmas.Bool.{false≢true}
use Rattle.sd_names.specs.declared.place.Place.{Place}
use Rattle.sd_names.specs.declared.turn.Turn.{Turn}
use Rattle.sd_names.specs.declared.turn.Turn.TheVariants.{More, Done, Ended}
use Rattle.shared_disk.specs.Calls.{Creates, IsSame, Syncs, WriteAt}
use Rattle.shared_disk.specs.Content.{Content}
use Rattle.shared_disk.specs.NameCalls.{Removes}
use Rattle.shared_disk.specs.Step.{TurnFollows}
use Rattle.shared_disk.specs.declared.disk.DiskAnswer.{DiskAnswer}
use Rattle.shared_disk.specs.declared.disk.DiskAnswer.TheVariants.{NoFile, Exists, OutOfFile, NotEmpty, Failed}
use Rattle.whole_file.specs.Replace.{CallOf, SyncsText, Writes, length_of, target_of, volatile_of}
use Rattle.whole_file.specs.declared.replace.Replace.{Replace}
use Rattle.whole_file.specs.declared.replace.Stage.{Stage}
use Rattle.whole_file.specs.declared.replace.Stage.TheVariants.{Begun, Cleared, Created, Written, Synced}

same_at : (p : Place) (d e : Content) → IsSame d e → e.file p ≡ d.file p
same_at p d e same = ap (λ (c : Content). c.file p) same

removed_beside : (p v : Place) (d e : Content) → p ≢ v → (answer : Result (Unit {0}) DiskAnswer) → Removes d v answer e → e.file p ≡ d.file p
removed_beside p v d e apart (Ok u) is = is.2.others p apart
removed_beside p v d e apart (Err NoFile) is = same_at p d e is.0
removed_beside p v d e apart (Err Failed) (inl same) = same_at p d e same
removed_beside p v d e apart (Err Failed) (inr is) = is.2.others p apart
removed_beside p v d e apart (Err Exists) is = absurd is
removed_beside p v d e apart (Err OutOfFile) is = absurd is
removed_beside p v d e apart (Err NotEmpty) is = absurd is

created_beside : (p v : Place) (host size : ℕ) (d e : Content) → p ≢ v → (answer : Result (Unit {0}) DiskAnswer) → Creates d host v size answer e → e.file p ≡ d.file p
created_beside p v host size d e apart (Ok u) is = is.put.others p apart
created_beside p v host size d e apart (Err NoFile) is = same_at p d e is.0
created_beside p v host size d e apart (Err Exists) is = same_at p d e is.0
created_beside p v host size d e apart (Err Failed) (inl same) = same_at p d e same
created_beside p v host size d e apart (Err Failed) (inr is) = is.put.others p apart
created_beside p v host size d e apart (Err OutOfFile) is = absurd is
created_beside p v host size d e apart (Err NotEmpty) is = absurd is

written_beside : (p v : Place) (host : ℕ) (bytes : List ℕ) (d e : Content) → p ≢ v → (answer : Result (Unit {0}) DiskAnswer) → WriteAt d host v 0 bytes answer e → e.file p ≡ d.file p
written_beside p v host bytes d e apart (Ok u) is = is.3.others p apart
written_beside p v host bytes d e apart (Err NoFile) is = same_at p d e is.0
written_beside p v host bytes d e apart (Err OutOfFile) is = same_at p d e is.0
written_beside p v host bytes d e apart (Err Failed) (inl same) = same_at p d e same
written_beside p v host bytes d e apart (Err Failed) (inr is) = is.4.others p apart
written_beside p v host bytes d e apart (Err Exists) is = absurd is
written_beside p v host bytes d e apart (Err NotEmpty) is = absurd is

synced_beside : (p v : Place) (host : ℕ) (d e : Content) → p ≢ v → (answer : Result (Unit {0}) DiskAnswer) → Syncs d host v answer e → e.file p ≡ d.file p
synced_beside p v host d e apart (Ok u) is = is.2.others p apart
synced_beside p v host d e apart (Err NoFile) is = same_at p d e is.0
synced_beside p v host d e apart (Err Failed) same = same_at p d e same
synced_beside p v host d e apart (Err Exists) is = absurd is
synced_beside p v host d e apart (Err OutOfFile) is = absurd is
synced_beside p v host d e apart (Err NotEmpty) is = absurd is

goes_on : Turn Replace (Unit {0}) (Unit {0}) → Bool
goes_on (More r) = true
goes_on (Done u) = false
goes_on (Ended u refusal) = false

-- the call that gives the volatile file the target's name is the last one
last_call : (turn : Turn Replace (Unit {0}) (Unit {0})) (faults : ℕ) (answer : Result (Unit {0}) DiskAnswer) → goes_on turn ≡ true → TurnFollows answer faults turn (λ _. turn ≡ Done tt) → ⊥
unfolding goes_on
last_call turn faults (Ok u) more is = false≢true (sym (ap goes_on is) ∙ more)
last_call turn faults (Err x) more is = false≢true (sym (ap goes_on is) ∙ more)

either_call : (b : Bool) (A B C : Type 0) → (A → C) → (B → C) → MatchBool b A B → C
either_call true A B C f g is = f is
either_call false A B C f g is = g is

pub target_kept : (stage : Stage) (r next : Replace) (host faults : ℕ) (text : List ℕ) (d e : Content) → target_of r ≢ volatile_of r → CallOf stage r host faults text (More next) d e
    → e.file (target_of r) ≡ d.file (target_of r)
unfolding goes_on
target_kept Begun r next host faults text d e apart call = removed_beside (target_of r) (volatile_of r) d e apart call.0 call.1
target_kept Cleared r next host faults text d e apart call = created_beside (target_of r) (volatile_of r) host _ d e apart call.0 call.1
target_kept Created r next host faults text d e apart call =
    either_call (length_of r == 0) (SyncsText r host faults (More next) d e) (Writes r host faults text (More next) d e) (e.file (target_of r) ≡ d.file (target_of r))
    (λ is. synced_beside (target_of r) (volatile_of r) host d e apart is.0 is.1)
    (λ is. written_beside (target_of r) (volatile_of r) host _ d e apart is.0 is.1)
    call
target_kept Written r next host faults text d e apart call = synced_beside (target_of r) (volatile_of r) host d e apart call.0 call.1
target_kept Synced r next host faults text d e apart call = absurd (last_call (More next) faults call.0 refl call.2)
