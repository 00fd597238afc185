-- What the step of each stage leaves.
use Rattle.std.proofs.Common.{◌≡◌, ℕ, ◌+◌, ◌<◌, true, List, Option, Some, None, Result, Ok, Err, refl, sym, ap, subst, ◌∙◌, inl, inr, arith}
use Rattle.std.proofs.lemmas.Bool.{false≢true}
use Rattle.sd_names.specs.Id.{IsIdBytes}
use Rattle.sd_names.specs.Place.{parent_of}
use Rattle.sd_names.specs.declared.id.Id.{Id}
use Rattle.sd_names.specs.declared.place.Dir.{Dir}
use Rattle.sd_names.specs.declared.place.Dir.TheVariants as dir
use Rattle.sd_names.specs.declared.refusal.Refusal.{Refusal}
use Rattle.sd_names.specs.declared.refusal.Refusal.TheVariants.{DomainExists, PoolExists}
use Rattle.sd_names.specs.declared.turn.Turn.{Turn}
use Rattle.sd_names.specs.declared.turn.Turn.TheVariants.{More, Done, Ended}
use Rattle.shared_disk.specs.Calls.{Creates, HasLength, IsPut, IsSame, MakesDir, Syncs, created, synced}
use Rattle.shared_disk.specs.Content.{Content, File}
use Rattle.shared_disk.specs.NameCalls.{NextDir, Removes}
use Rattle.shared_disk.specs.Step.{GoesOn, TurnFollows}
use Rattle.shared_disk.specs.WellFormed.{IsWellFormed}
use Rattle.shared_disk.specs.declared.disk.DiskAnswer.{DiskAnswer}
use Rattle.shared_disk.specs.declared.disk.DiskAnswer.TheVariants.{NoFile, Exists, OutOfFile, NotEmpty, Failed}
use Rattle.shared_disk.proofs.AtPlace.{no_file, one_file}
use Rattle.sd_names.specs.declared.place.Place.{Place}
use Rattle.whole_file.specs.Replace.{IsApart as IsReplaceApart, IsOldOrNew, IsReady as IsReplaceReady, IsSameReplace, Knows as KnowsReplace, Steps as ReplaceSteps, target_of, volatile_of}
use Rattle.whole_file.specs.Text.{HasText}
use Rattle.whole_file.specs.declared.replace.Replace.{Replace}
use Rattle.whole_file.specs.declared.replace.Stage.{Stage as ReplaceStage}
use Rattle.pool_making.proofs.Listed.{none_below, none_left, none_to, under_root}
use Rattle.pool_making.proofs.Parts.{on_each, part_made, part_put, part_synced, part_there, part_written, synced_zeros}
use Rattle.pool_making.proofs.Turns.{after_fault, after_more, after_refusal, apart_area, apart_dir, apart_same, goes_on, step_in}
use Rattle.pool_making.specs.Layout.{area_after, area_place, area_size, folder_after, folder_of, metadata_of, zeros}
use Rattle.pool_making.specs.Listing.{HaveNoneBelow, HaveNoneTo}
use Rattle.pool_making.specs.Making.{IsAt, IsBehindArea, behind_folder, domain_of, record_of, stage_of, text_of}
use Rattle.pool_making.specs.Pool.{HasAreas, HasFolders, HasNoImages, IsDomain, IsNoDomain, IsNoneOrWhole, IsNoneOrWholeOnEach, IsPart, area_rank, folder_rank}
use Rattle.pool_making.specs.Steps.{After, CheckedBy, ClearedBy, Counts, IsApart, IsBehind, IsKept, IsReady, IsWriting, IsWritten, Knows, ListedBy, MadeBy, MakeSteps, SearchedBy, StepsText}
use Rattle.pool_making.specs.declared.layout.Area.{Area}
use Rattle.pool_making.specs.declared.layout.Area.TheVariants as area
use Rattle.pool_making.specs.declared.layout.Folder.{Folder}
use Rattle.pool_making.specs.declared.layout.Folder.TheVariants as folder
use Rattle.pool_making.specs.declared.making.MakePool.{MakePool}
use Rattle.pool_making.specs.declared.making.Stage.{Stage}
use Rattle.pool_making.specs.declared.making.Stage.TheVariants.{Listing, Checking, Searching, Making, Clearing, Creating, Syncing, Writing}

abbrev Turns : Type 0
Turns = Turn MakePool (Unit {0}) (Unit {0})

-- what is known in a stage
pub ready_in : (s : Stage) (m : MakePool) (host : ℕ) (d : Content) → stage_of m ≡ s → Knows m host d → IsReady s (domain_of m) (text_of m) host d
ready_in s m host d is knows = subst (λ (x : Stage). IsReady x (domain_of m) (text_of m) host d) is knows

-- the same content after a call that changed nothing
moved : (P : Content → Type 0) (d e : Content) → IsSame d e → P d → P e
moved P d e same is = subst P (sym same) is

listed : (after : Option Dir) (m : MakePool) (host faults : ℕ) (turn : Turns) (d e : Content) → stage_of m ≡ Listing after → IsSame d e → After turn m host faults d e → MakeSteps m host faults turn d e
listed after m host faults turn d e is same told = step_in (Listing after) m host faults turn d e is (apart_same (domain_of m) d e same) same told

pub list_step : (after : Option Dir) (m : MakePool) (host faults : ℕ) (turn : Turns) (d e : Content) → IsWellFormed d → IsIdBytes (domain_of m).0 → stage_of m ≡ Listing after → Knows m host d
    → (answer : Result (Option Dir) DiskAnswer) → NextDir d dir.Root after answer e → TurnFollows answer faults turn (λ next. ListedBy m next turn) → MakeSteps m host faults turn d e
list_step after m host faults turn d e well id is knows (Ok None) call by =
    let known : HaveNoneTo after d = ready_in (Listing after) m host d is knows in
    listed after m host faults turn d e is call.0 (after_more m Searching host faults turn d e by
    (moved (λ (c : Content). c.file (metadata_of (domain_of m)) ≡ None) d e call.0 (none_left d after (domain_of m) well known call.2 id)))
list_step after m host faults turn d e well id is knows (Ok (Some (dir.Domain q))) call by =
    let known : HaveNoneTo after d = ready_in (Listing after) m host d is knows in
    listed after m host faults turn d e is call.0 (after_more m (Checking q) host faults turn d e by
    (moved (λ (c : Content). HaveNoneBelow q c) d e call.0 (none_below d after q well known call.2)))
list_step after m host faults turn d e well id is knows (Ok (Some dir.Root)) call by = absurd (call.2.0.other refl)
list_step after m host faults turn d e well id is knows (Ok (Some (dir.DomMd p))) call by = absurd (false≢true (under_root d (dir.DomMd p) call.2.0))
list_step after m host faults turn d e well id is knows (Ok (Some (dir.Images p))) call by = absurd (false≢true (under_root d (dir.Images p) call.2.0))
list_step after m host faults turn d e well id is knows (Ok (Some (dir.Image p i))) call by = absurd (false≢true (under_root d (dir.Image p i) call.2.0))
list_step after m host faults turn d e well id is knows (Ok (Some (dir.Removed p i))) call by = absurd (false≢true (under_root d (dir.Removed p i) call.2.0))
list_step after m host faults turn d e well id is knows (Ok (Some (dir.Master p))) call by = absurd (false≢true (under_root d (dir.Master p) call.2.0))
list_step after m host faults turn d e well id is knows (Ok (Some (dir.Tasks p))) call by = absurd (false≢true (under_root d (dir.Tasks p) call.2.0))
list_step after m host faults turn d e well id is knows (Err NoFile) call by = absurd (false≢true (sym call.1 ∙ well.root))
list_step after m host faults turn d e well id is knows (Err Failed) call by = listed after m host faults turn d e is call (after_fault m host faults turn d e by)
list_step after m host faults turn d e well id is knows (Err Exists) call by = absurd call
list_step after m host faults turn d e well id is knows (Err OutOfFile) call by = absurd call
list_step after m host faults turn d e well id is knows (Err NotEmpty) call by = absurd call

checked : (q : Id) (m : MakePool) (host faults : ℕ) (turn : Turns) (d e : Content) → stage_of m ≡ Checking q → IsSame d e → After turn m host faults d e → MakeSteps m host faults turn d e
checked q m host faults turn d e is same told = step_in (Checking q) m host faults turn d e is (apart_same (domain_of m) d e same) same told

pub check_step : (q : Id) (m : MakePool) (host faults : ℕ) (turn : Turns) (d e : Content) → IsIdBytes q.0 → stage_of m ≡ Checking q → Knows m host d → (answer : Result ℕ DiskAnswer)
    → HasLength d (metadata_of q) answer e → CheckedBy m q faults answer turn → MakeSteps m host faults turn d e
check_step q m host faults turn d e id is knows (Ok n) call by =
    let below : HaveNoneBelow q d = ready_in (Checking q) m host d is knows in
    checked q m host faults turn d e is call.0 (after_refusal m host faults turn (PoolExists q) d e by (record { there = (call.1, call.2); least = below }))
check_step q m host faults turn d e id is knows (Err NoFile) call by =
    let below : HaveNoneBelow q d = ready_in (Checking q) m host d is knows in
    checked q m host faults turn d e is call.0 (after_more m (Listing (Some (dir.Domain q))) host faults turn d e by
    (moved (λ (c : Content). HaveNoneTo (Some (dir.Domain q)) c) d e call.0 (none_to d q below call.1 id)))
check_step q m host faults turn d e id is knows (Err Failed) call by = checked q m host faults turn d e is call (after_fault m host faults turn d e by)
check_step q m host faults turn d e id is knows (Err Exists) call by = absurd call
check_step q m host faults turn d e id is knows (Err OutOfFile) call by = absurd call
check_step q m host faults turn d e id is knows (Err NotEmpty) call by = absurd call

-- a step that leaves the domain without a text
none_left_so : (m : MakePool) (e : Content) → IsNoDomain (domain_of m) e → IsNoneOrWholeOnEach (domain_of m) (text_of m) e
none_left_so m e none = on_each (domain_of m) (text_of m) e (inl none)

searched : (m : MakePool) (host faults : ℕ) (turn : Turns) (d e : Content) → stage_of m ≡ Searching → Knows m host d → IsSame d e → After turn m host faults d e → MakeSteps m host faults turn d e
searched m host faults turn d e is knows same told =
    step_in Searching m host faults turn d e is (apart_same (domain_of m) d e same) (none_left_so m e (moved (λ (c : Content). IsNoDomain (domain_of m) c) d e same (ready_in Searching m host d is knows))) told

-- nothing of the domain is made yet
nothing_made : (m : MakePool) (host : ℕ) (d : Content) → stage_of m ≡ Searching → Knows m host d → HasNoImages (domain_of m) d → IsPart (domain_of m) 0 0 d
nothing_made m host d is knows empty = record {
  none = ready_in Searching m host d is knows;
  empty = empty;
  dirs = λ f less. absurd (nothing_less (folder_rank f) less);
  files = λ a less. absurd (nothing_less (area_rank a) less);
}
  where
    nothing_less : (n : ℕ) → n < 0 → ⊥
    nothing_less n less = omega (arith, less)

pub search_step : (m : MakePool) (host faults : ℕ) (turn : Turns) (d e : Content) → IsWellFormed d → stage_of m ≡ Searching → Knows m host d → (answer : Result (Option Dir) DiskAnswer)
    → NextDir d (dir.Images (domain_of m)) None answer e → SearchedBy m faults answer turn → MakeSteps m host faults turn d e
search_step m host faults turn d e well is knows (Ok None) call by =
    searched m host faults turn d e is knows call.0 (after_more m (Making folder.Domain) host faults turn d e by
    (moved (λ (c : Content). IsPart (domain_of m) 0 0 c) d e call.0 (nothing_made m host d is knows (λ q shows. call.2 q shows tt))))
search_step m host faults turn d e well is knows (Ok (Some q)) call by =
    searched m host faults turn d e is knows call.0 (after_refusal m host faults turn DomainExists d e by (q, call.2.0))
search_step m host faults turn d e well is knows (Err NoFile) call by =
    searched m host faults turn d e is knows call.0 (after_more m (Making folder.Domain) host faults turn d e by
    (moved (λ (c : Content). IsPart (domain_of m) 0 0 c) d e call.0 (nothing_made m host d is knows (λ q shows. false≢true (sym call.1 ∙ sym (ap (λ (x : Dir). d.dir x) shows.inside) ∙ well.parents q shows.there)))))
search_step m host faults turn d e well is knows (Err Failed) call by = searched m host faults turn d e is knows call (after_fault m host faults turn d e by)
search_step m host faults turn d e well is knows (Err Exists) call by = absurd call
search_step m host faults turn d e well is knows (Err OutOfFile) call by = absurd call
search_step m host faults turn d e well is knows (Err NotEmpty) call by = absurd call

-- what is known behind a folder
behind : (f : Folder) (sd : Id) (text : List ℕ) (host : ℕ) (e : Content) → IsPart sd (folder_rank f + 1) 0 e → IsReady (behind_folder (folder_after f)) sd text host e
behind folder.Domain sd text host e part = part
behind folder.DomMd sd text host e part = part
behind folder.Images sd text host e part = part
behind folder.Master sd text host e part = part
behind folder.Tasks sd text host e part = part

-- the folder in which a folder is made is there
above_there : (f : Folder) (sd : Id) (d : Content) → IsWellFormed d → IsPart sd (folder_rank f) 0 d → d.dir (parent_of (folder_of sd f)) ≡ true
above_there folder.Domain sd d well part = well.root
above_there folder.DomMd sd d well part = part.dirs folder.Domain (omega arith)
above_there folder.Images sd d well part = part.dirs folder.Domain (omega arith)
above_there folder.Master sd d well part = part.dirs folder.Domain (omega arith)
above_there folder.Tasks sd d well part = part.dirs folder.Master (omega arith)

-- a folder that was made, and a domain as it was
folder_made : (f : Folder) (m : MakePool) (host faults : ℕ) (turn : Turns) (d e : Content) → stage_of m ≡ Making f → IsPart (domain_of m) (folder_rank f) 0 d
    → IsNoDomain (domain_of m) e → IsSame d e → After turn m host faults d e → MakeSteps m host faults turn d e
folder_made f m host faults turn d e is part none same told = step_in (Making f) m host faults turn d e is (apart_same (domain_of m) d e same) (none_left_so m e none) told

pub make_step : (f : Folder) (m : MakePool) (host faults : ℕ) (turn : Turns) (d e : Content) → IsWellFormed d → stage_of m ≡ Making f → Knows m host d → (answer : Result (Unit {0}) DiskAnswer)
    → MakesDir d (folder_of (domain_of m) f) answer e → MadeBy m f faults answer turn → MakeSteps m host faults turn d e
make_step f m host faults turn d e well is knows (Ok u) call by =
    let part = part_made f (domain_of m) d e (ready_in (Making f) m host d is knows) call.put in
    step_in (Making f) m host faults turn d e is (apart_dir (domain_of m) f d e call.put) (none_left_so m e part.none)
    (after_more m (behind_folder (folder_after f)) host faults turn d e by (behind f (domain_of m) (text_of m) host e part))
make_step f m host faults turn d e well is knows (Err Exists) call by =
    let part = part_there f (domain_of m) d (ready_in (Making f) m host d is knows) call.2 in
    let there : IsPart (domain_of m) (folder_rank f + 1) 0 e = moved (λ (c : Content). IsPart (domain_of m) (folder_rank f + 1) 0 c) d e call.0 part in
    step_in (Making f) m host faults turn d e is (apart_same (domain_of m) d e call.0) (none_left_so m e there.none)
    (after_more m (behind_folder (folder_after f)) host faults turn d e by (behind f (domain_of m) (text_of m) host e there))
make_step f m host faults turn d e well is knows (Err NoFile) call by =
    absurd (false≢true (sym call.1 ∙ above_there f (domain_of m) d well (ready_in (Making f) m host d is knows)))
make_step f m host faults turn d e well is knows (Err Failed) (inl same) by =
    let part : IsPart (domain_of m) (folder_rank f) 0 d = ready_in (Making f) m host d is knows in
    step_in (Making f) m host faults turn d e is (apart_same (domain_of m) d e same) (none_left_so m e (moved (λ (c : Content). IsNoDomain (domain_of m) c) d e same part.none)) (after_fault m host faults turn d e by)
make_step f m host faults turn d e well is knows (Err Failed) (inr call) by =
    let part = part_made f (domain_of m) d e (ready_in (Making f) m host d is knows) call.put in
    step_in (Making f) m host faults turn d e is (apart_dir (domain_of m) f d e call.put) (none_left_so m e part.none) (after_fault m host faults turn d e by)
make_step f m host faults turn d e well is knows (Err OutOfFile) call by = absurd call
make_step f m host faults turn d e well is knows (Err NotEmpty) call by = absurd call

-- a call on a file of zeros left a part of the domain
area_put : (s : Stage) (a : Area) (m : MakePool) (host faults : ℕ) (turn : Turns) (d e : Content) (new : Option File) → stage_of m ≡ s → IsPart (domain_of m) 5 (area_rank a) d
    → IsPut d (area_place (domain_of m) a) new e → (IsNoneOrWholeOnEach (domain_of m) (text_of m) e → Counts s (domain_of m) (text_of m) d e) → After turn m host faults d e → MakeSteps m host faults turn d e
area_put s a m host faults turn d e new is part put counts told =
    step_in s m host faults turn d e is (apart_area (domain_of m) a d e new put) (counts (none_left_so m e (part_put a (domain_of m) d e new part put).none)) told

area_same : (s : Stage) (a : Area) (m : MakePool) (host faults : ℕ) (turn : Turns) (d e : Content) → stage_of m ≡ s → IsPart (domain_of m) 5 (area_rank a) d
    → IsSame d e → (IsNoneOrWholeOnEach (domain_of m) (text_of m) e → Counts s (domain_of m) (text_of m) d e) → After turn m host faults d e → MakeSteps m host faults turn d e
area_same s a m host faults turn d e is part same counts told =
    step_in s m host faults turn d e is (apart_same (domain_of m) d e same) (counts (none_left_so m e (moved (λ (c : Content). IsNoDomain (domain_of m) c) d e same part.none))) told

pub clear_step : (a : Area) (m : MakePool) (host faults : ℕ) (turn : Turns) (d e : Content) → stage_of m ≡ Clearing a → Knows m host d → (answer : Result (Unit {0}) DiskAnswer)
    → Removes d (area_place (domain_of m) a) answer e → ClearedBy m a faults answer turn → MakeSteps m host faults turn d e
clear_step a m host faults turn d e is knows (Ok u) call by =
    let part : IsPart (domain_of m) 5 (area_rank a) d = ready_in (Clearing a) m host d is knows in
    area_put (Clearing a) a m host faults turn d e None is part call.2 (λ each. each)
    (after_more m (Creating a) host faults turn d e by (part_put a (domain_of m) d e None part call.2, call.2.here))
clear_step a m host faults turn d e is knows (Err NoFile) call by =
    let part : IsPart (domain_of m) 5 (area_rank a) d = ready_in (Clearing a) m host d is knows in
    area_same (Clearing a) a m host faults turn d e is part call.0 (λ each. each)
    (after_more m (Creating a) host faults turn d e by
    (moved (λ (c : Content). IsPart (domain_of m) 5 (area_rank a) c) d e call.0 part, moved (λ (c : Content). c.file (area_place (domain_of m) a) ≡ None) d e call.0 call.1))
clear_step a m host faults turn d e is knows (Err Failed) (inl same) by =
    area_same (Clearing a) a m host faults turn d e is (ready_in (Clearing a) m host d is knows) same (λ each. each) (after_fault m host faults turn d e by)
clear_step a m host faults turn d e is knows (Err Failed) (inr call) by =
    area_put (Clearing a) a m host faults turn d e None is (ready_in (Clearing a) m host d is knows) call.2 (λ each. each) (after_fault m host faults turn d e by)
clear_step a m host faults turn d e is knows (Err Exists) call by = absurd call
clear_step a m host faults turn d e is knows (Err OutOfFile) call by = absurd call
clear_step a m host faults turn d e is knows (Err NotEmpty) call by = absurd call

pub create_step : (a : Area) (m : MakePool) (host faults : ℕ) (turn : Turns) (d e : Content) → stage_of m ≡ Creating a → Knows m host d → (answer : Result (Unit {0}) DiskAnswer)
    → Creates d host (area_place (domain_of m) a) (area_size a) answer e → TurnFollows answer faults turn (λ _. GoesOn (IsAt m (Syncing a)) turn) → MakeSteps m host faults turn d e
create_step a m host faults turn d e is knows (Ok u) call by =
    let known = ready_in (Creating a) m host d is knows in
    area_put (Creating a) a m host faults turn d e (Some (created host (area_size a))) is known.0 call.put (λ each. each)
    (after_more m (Syncing a) host faults turn d e by (part_put a (domain_of m) d e (Some (created host (area_size a))) known.0 call.put, call.put.here))
create_step a m host faults turn d e is knows (Err NoFile) call by =
    let known = ready_in (Creating a) m host d is knows in
    absurd (false≢true (sym call.1 ∙ known.0.dirs folder.DomMd (omega arith)))
create_step a m host faults turn d e is knows (Err Exists) call by =
    let known = ready_in (Creating a) m host d is knows in
    absurd (no_file call.2 (d.file (area_place (domain_of m) a)) known.1 call.3)
create_step a m host faults turn d e is knows (Err Failed) (inl same) by =
    let known = ready_in (Creating a) m host d is knows in
    area_same (Creating a) a m host faults turn d e is known.0 same (λ each. each) (after_fault m host faults turn d e by)
create_step a m host faults turn d e is knows (Err Failed) (inr call) by =
    let known = ready_in (Creating a) m host d is knows in
    area_put (Creating a) a m host faults turn d e (Some (created host (area_size a))) is known.0 call.put (λ each. each) (after_fault m host faults turn d e by)
create_step a m host faults turn d e is knows (Err OutOfFile) call by = absurd call
create_step a m host faults turn d e is knows (Err NotEmpty) call by = absurd call

-- what is known behind a file of zeros
behind_area : (a : Area) (m next : MakePool) (host : ℕ) (e : Content) → IsPart (domain_of m) 5 (area_rank a + 1) e → record_of next ≡ record_of m → IsBehindArea m (area_after a) (stage_of next) → Knows next host e
behind_area area.Leases m next host e part same is = goes_on m next (Clearing area.Inbox) host e same is part
behind_area area.Inbox m next host e part same is = goes_on m next (Clearing area.Outbox) host e same is part
behind_area area.Outbox m next host e part same is =
    goes_on m next (Writing is.0) host e same is.1 (record {
      part = part;
      target = is.2.target;
      volatile = is.2.volatile;
      replace = record {
        folder = ap (λ (p : Place). e.dir p.dir) is.2.target ∙ part.dirs folder.DomMd (omega arith);
        ready = subst (λ (s : ReplaceStage). IsReplaceReady s host (text_of m) (volatile_of is.0) e) (sym is.2.stage) tt;
      };
    })

after_synced : (a : Area) (m : MakePool) (host faults : ℕ) (turn : Turns) (d e : Content) → IsPart (domain_of m) 5 (area_rank a + 1) e → GoesOn (IsBehind m a) turn → After turn m host faults d e
after_synced a m host faults (More next) d e part is = behind_area a m next host e part is.0 is.1
after_synced a m host faults (Done u) d e part is = absurd is
after_synced a m host faults (Ended u refusal) d e part is = absurd is

pub sync_step : (a : Area) (m : MakePool) (host faults : ℕ) (turn : Turns) (d e : Content) → stage_of m ≡ Syncing a → Knows m host d → (answer : Result (Unit {0}) DiskAnswer)
    → Syncs d host (area_place (domain_of m) a) answer e → TurnFollows answer faults turn (λ _. GoesOn (IsBehind m a) turn) → MakeSteps m host faults turn d e
sync_step a m host faults turn d e is knows (Ok u) call by =
    let known = ready_in (Syncing a) m host d is knows in
    let f = call.0 in
    let made : f ≡ created host (area_size a) = one_file f (created host (area_size a)) (d.file (area_place (domain_of m) a)) call.1 known.1 in
    let here : e.file (area_place (domain_of m) a) ≡ Some (zeros (area_size a)) = call.2.here ∙ ap (λ (g : File). Some g) (ap (λ (g : File). synced host g) made ∙ synced_zeros host (area_size a)) in
    area_put (Syncing a) a m host faults turn d e (Some (synced host f)) is known.0 call.2 (λ each. each)
    (after_synced a m host faults turn d e (part_synced a (domain_of m) e (part_put a (domain_of m) d e (Some (synced host f)) known.0 call.2) here) by)
sync_step a m host faults turn d e is knows (Err NoFile) call by =
    let known = ready_in (Syncing a) m host d is knows in
    absurd (no_file (created host (area_size a)) (d.file (area_place (domain_of m) a)) call.1 known.1)
sync_step a m host faults turn d e is knows (Err Failed) call by =
    let known = ready_in (Syncing a) m host d is knows in
    area_same (Syncing a) a m host faults turn d e is known.0 call (λ each. each) (after_fault m host faults turn d e by)
sync_step a m host faults turn d e is knows (Err Exists) call by = absurd call
sync_step a m host faults turn d e is knows (Err OutOfFile) call by = absurd call
sync_step a m host faults turn d e is knows (Err NotEmpty) call by = absurd call

-- what the replacement left of the domain
written : (m : MakePool) (host : ℕ) (r : Replace) (d e : Content) → IsWriting (domain_of m) (text_of m) host r d → IsReplaceApart (target_of r) (volatile_of r) d e
    → HasNoImages (domain_of m) e × HasFolders 5 (domain_of m) e × HasAreas 3 (domain_of m) e
written m host r d e known apart =
    part_written (domain_of m) d e known.part apart.dirs (λ q target volatile. apart.files q (λ same. target (same ∙ known.target)) (λ same. volatile (same ∙ known.volatile)))

apart_text : (m : MakePool) (host : ℕ) (r : Replace) (d e : Content) → IsWriting (domain_of m) (text_of m) host r d → IsReplaceApart (target_of r) (volatile_of r) d e → IsApart (domain_of m) d e
apart_text m host r d e known apart = record {
  dirs = λ q _. apart.dirs q;
  kept = λ q there. apart.dirs q ∙ there;
  files = λ q own. apart.files q (λ same. own (inr (inr (inr (inl (same ∙ known.target)))))) (λ same. own (inr (inr (inr (inr (same ∙ known.volatile))))));
}

none_or_whole : (m : MakePool) (host : ℕ) (r : Replace) (d e : Content) → IsWriting (domain_of m) (text_of m) host r d → IsReplaceApart (target_of r) (volatile_of r) d e
    → IsOldOrNew (target_of r) (text_of m) d e → IsNoneOrWhole (domain_of m) (text_of m) e
none_or_whole m host r d e known apart (inl same) =
    inl (ap (λ (p : Place). e.file p) (sym known.target) ∙ same ∙ ap (λ (p : Place). d.file p) known.target ∙ known.part.none)
none_or_whole m host r d e known apart (inr has) =
    let rest = written m host r d e known apart in
    inr (record { text = subst (λ (p : Place). HasText e p (text_of m)) known.target has; empty = rest.0; dirs = rest.1; files = rest.2 })

whole_now : (m : MakePool) (host : ℕ) (r : Replace) (d e : Content) → IsWriting (domain_of m) (text_of m) host r d → IsReplaceApart (target_of r) (volatile_of r) d e
    → HasText e (target_of r) (text_of m) → IsDomain (domain_of m) (text_of m) e
whole_now m host r d e known apart has =
    let rest = written m host r d e known apart in
    record { text = subst (λ (p : Place). HasText e p (text_of m)) known.target has; empty = rest.0; dirs = rest.1; files = rest.2 }

-- what is known while the text is written on
written_on : (m : MakePool) (host : ℕ) (r next : Replace) (d e : Content) → IsWriting (domain_of m) (text_of m) host r d → IsReplaceApart (target_of r) (volatile_of r) d e
    → IsSameReplace r next → e.file (target_of r) ≡ d.file (target_of r) → KnowsReplace next host (text_of m) e → IsWriting (domain_of m) (text_of m) host next e
written_on m host r next d e known apart same kept knows =
    let rest = written m host r d e known apart in
    record {
      part = record {
        none = ap (λ (p : Place). e.file p) (sym known.target) ∙ kept ∙ ap (λ (p : Place). d.file p) known.target ∙ known.part.none;
        empty = rest.0;
        dirs = rest.1;
        files = rest.2;
      };
      target = same.target ∙ known.target;
      volatile = same.volatile ∙ known.volatile;
      replace = knows;
    }

text_after : (m : MakePool) (host faults : ℕ) (r : Replace) (step : Turn Replace (Unit {0}) (Unit {0})) (turn : Turns) (d e : Content) → IsWriting (domain_of m) (text_of m) host r d
    → ReplaceSteps r host faults (text_of m) step d e → IsKept r step d e → IsWritten m step turn → After turn m host faults d e
text_after m host faults r (More s) turn d e known leaves kept by =
    after_more m (Writing s) host faults turn d e by (written_on m host r s d e known leaves.apart kept.0 kept.1 leaves.after)
text_after m host faults r (Done u) turn d e known leaves kept by =
    subst (λ (t : Turns). After t m host faults d e) (sym by) (whole_now m host r d e known leaves.apart leaves.after.0)
text_after m host faults r (Ended u refusal) turn d e known leaves kept by =
    after_fault m host faults turn d e (by ∙ ap (λ (x : Refusal). Ended tt x) leaves.after.0)

pub write_step : (r : Replace) (m : MakePool) (host faults : ℕ) (turn : Turns) (d e : Content) → stage_of m ≡ Writing r → (known : IsWriting (domain_of m) (text_of m) host r d)
    → StepsText m r host faults turn d e → MakeSteps m host faults turn d e
write_step r m host faults turn d e is known by =
    step_in (Writing r) m host faults turn d e is (apart_text m host r d e known by.1.apart) (on_each (domain_of m) (text_of m) e (none_or_whole m host r d e known by.1.apart by.1.target))
    (text_after m host faults r by.0 turn d e known by.1 by.2 by.3)
