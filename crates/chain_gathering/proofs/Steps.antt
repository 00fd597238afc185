-- What each step leaves, from what its call answered.
use Rattle.std.proofs.Common.{◌≡◌, ◌≢◌, ℕ, ◌≤◌, Bool, true, false, nat_lt, if◌then◌else◌, List, ◌∷◌, length, take, Option, Some, None, Result, Ok, Err, refl, sym, ap, ◌∙◌, subst, inl, inr, arith}
use Rattle.std.specs.List.{Contains}
use Rattle.std.specs.Option.{is_some}
use Rattle.std.specs.Prelude.{MatchResult}
use Rattle.std.proofs.lemmas.List.Elements.{Contains-append_right}
use Rattle.std.proofs.lemmas.Bool.{false≢true}
use Rattle.std.proofs.lemmas.Bool.Decides.{nat_tests}
use Rattle.std.proofs.lemmas.List.{take_all}
use Rattle.sd_names.specs.Place.{NameHasIds}
use Rattle.sd_names.specs.declared.id.Id.{Id}
use Rattle.sd_names.specs.declared.place.Dir.{Dir}
use Rattle.sd_names.specs.declared.place.Name.{Name}
use Rattle.sd_names.specs.declared.place.Name.TheVariants as name
use Rattle.sd_names.specs.declared.place.Place.{Place}
use Rattle.sd_names.specs.declared.refusal.Refusal.{Refusal}
use Rattle.sd_names.specs.declared.refusal.Refusal.TheVariants.{ChainTooLong, DiskFault}
use Rattle.sd_names.specs.declared.turn.Turn.TheVariants.{More, Ended}
use Rattle.sd_names.specs.Turn.{MatchTurn}
use Rattle.sd_names.specs.declared.fault.VolumeFault.{VolumeFault}
use Rattle.sd_names.specs.declared.fault.VolumeFault.TheVariants.{TooLong}
use Rattle.shared_disk.specs.Calls.{IsPut, IsSame, Syncs, synced}
use Rattle.shared_disk.specs.Content.{Content, File}
use Rattle.shared_disk.specs.Crash.{IsAlso, IsFileOutcome, IsOutcome, IsSettled}
use Rattle.shared_disk.specs.NameCalls.{IsNextName, NextName, place_in}
use Rattle.shared_disk.specs.Places.{place_is}
use Rattle.shared_disk.specs.Step.{TurnFollows}
use Rattle.shared_disk.specs.declared.disk.DiskAnswer.{DiskAnswer}
use Rattle.shared_disk.specs.declared.disk.DiskAnswer.TheVariants.{NoFile, Exists, OutOfFile, NotEmpty, Failed}
use Rattle.shared_disk.proofs.AtPlace.{no_file}
use Rattle.shared_disk.proofs.Outcomes.{contains_here, nothing_in, synced_file}
use Rattle.shared_disk.proofs.Places.{place_is-itself, place_is-same}
use Rattle.whole_file.specs.Read.{ReadsText}
use Rattle.whole_file.specs.declared.read.Text.{Text as TextRead}
use Rattle.whole_file.specs.declared.read.Text.TheVariants as read
use Rattle.volume_meta.specs.Read.{read_volume}
use Rattle.volume_meta.specs.declared.record.VolumeRecord.{VolumeRecord}
use Rattle.chain_model.specs.Opening.{AreVolumes}
use Rattle.chain_model.specs.Records.{is_volume, text_of}
use Rattle.chain_records.specs.Records.{ids_of}
use Rattle.chain_gathering.specs.Kept.{ids_found, next_of}
use Rattle.chain_gathering.specs.Knowing.{IsNextFile, IsRead, IsThere, KnowsListing, KnowsStage, volumes_in}
use Rattle.chain_gathering.specs.Names.{name_of, volume_name}
use Rattle.chain_gathering.specs.Stages.{GatheringTurn, KeepsRecord, KeepsText, Lists, MeetsNext, ReadsNext, SyncsFile, after_sync, at_stage, dir_in, image_in, met_stage}
use Rattle.chain_gathering.specs.Steps.{After, Gathers, IsGone, IsKeptFile, IsOfText, IsShown, MeetsBy}
use Rattle.chain_gathering.specs.declared.found.Found.{Found}
use Rattle.chain_gathering.specs.declared.gathered.Gathered.{Gathered}
use Rattle.chain_gathering.specs.declared.gathering.Gathering.{Gathering}
use Rattle.chain_gathering.specs.declared.names.VolumeName.{VolumeName}
use Rattle.chain_gathering.specs.declared.names.VolumeName.TheVariants.{Data, Text}
use Rattle.chain_records.specs.declared.volume.Volume.{Volume}
use Rattle.chain_gathering.specs.declared.stages.Seen.{Seen}
use Rattle.chain_gathering.specs.declared.stages.Stage.{Stage}
use Rattle.chain_gathering.specs.declared.stages.Stage.TheVariants.{Listing, Syncing, Reading}
use Rattle.chain_gathering.specs.declared.stages.Target.{Target}
use Rattle.chain_gathering.proofs.Alike.{IsAlike, also_by, kept_state, listing_alike, next_alike, some_of, synced_settled}
use Rattle.chain_gathering.proofs.Lists.{length_found}
use Rattle.chain_gathering.proofs.Listing.{all_settled, all_volumes, is_next, pass_file, pass_other, pass_text}
use Rattle.chain_gathering.proofs.Reading.{long_read, next_split, read_all, read_bad, read_on, text_read, too_many}

-- ---- nothing has changed

kept_itself : (host : ℕ) (a : Option File) → IsAlso (IsKeptFile host) a a
kept_itself host None = tt
kept_itself host (Some f) = inl refl

-- the turn's part in what a step leaves
record Tells (g : Gathering) (host : ℕ) (turn : GatheringTurn) (d e : Content) : Type 0 where
  shows : MeetsBy (IsShown (dir_in g.target) d) g.stage turn
  gone : MatchTurn turn (λ _. Unit {0}) (λ _. Unit {0}) (λ _ refusal. IsGone g.target g.kept g.stage refusal d)
  there : MatchTurn turn (λ _. Unit {0}) (λ _. Unit {0}) (λ _ refusal. IsOfText g.target g.kept refusal d)
  after : KnowsStage g.target g.kept host d g.stage → After g host turn e

same_step : (g : Gathering) (host : ℕ) (turn : GatheringTurn) (d e : Content) → IsSame d e → Tells g host turn d d → Gathers g host turn d e
same_step g host turn d e same tells = subst (λ (c : Content). Gathers g host turn d c) (sym same) (record {
  dirs = λ q. refl;
  files = λ o. kept_itself host (d.file (place_in (dir_in g.target) (name_of o)));
  others = λ q other. refl;
  outcomes = λ o out. out;
  shows = tells.shows;
  gone = tells.gone;
  there = tells.there;
  after = tells.after;
})

-- the disk failed
tells_fault : (g : Gathering) (host faults : ℕ) (d : Content) → Tells g host (Ended tt (DiskFault faults)) d d
tells_fault g host faults d = record { shows = tt; gone = tt; there = tt; after = λ knows. tt }

-- ---- listing

few_found : (n : ℕ) (ws : List Found) (vs : List Id) → nat_lt 32 n ≡ false → n ≡ length vs → ids_found ws ≡ take 32 vs → (length ws ≤ 32) × (ids_found ws ≡ vs)
few_found n ws vs t is found =
    let few : n ≤ 32 = grind (arith, nat_tests) in
    let less : length vs ≤ 32 = omega (arith, few, is) in
    (omega (arith, less, (length_found ws vs found).2 less), found ∙ take_all 32 vs less)

begins_reading : (t : Target) (host : ℕ) (seen : Seen) (kept : Gathered) (d : Content) → nat_lt 32 seen.count ≡ false → IsNextName d (dir_in t) seen.after None
    → KnowsListing (dir_in t) host seen kept d → IsRead t kept d
begins_reading t host seen kept d few last k =
    let found = few_found seen.count kept.found k.volumes few k.count k.found in
    let none : length kept.records ≡ 0 = ap length k.unread in
    record {
      settled = all_settled (dir_in t) host seen kept d last k;
      are = subst (AreVolumes (volumes_in (dir_in t) d)) (sym found.1) (all_volumes (dir_in t) host seen kept d last k);
      few = found.0;
      files = k.files;
      short = omega (arith, none);
      order = ap ids_of k.unread ∙ ap (λ (n : ℕ). take n (ids_found kept.found)) (sym none);
      texts = λ r h. absurd (nothing_in r (subst (λ (xs : List Volume). Contains xs r) k.unread h));
      own = λ r h. absurd (nothing_in r (subst (λ (xs : List Volume). Contains xs r) k.unread h));
    }

tells_listed : (g : Gathering) (host : ℕ) (seen : Seen) (t : Bool) (d : Content) → nat_lt 32 seen.count ≡ t → IsNextName d (dir_in g.target) seen.after None
    → Tells (at_stage g (Listing seen)) host (if t then Ended tt (ChainTooLong seen.count) else More (at_stage g Reading)) d d
tells_listed g host seen true d t last = record {
  shows = tt;
  gone = tt;
  there = tt;
  after = λ k. (
    all_settled (dir_in g.target) host seen g.kept d last k,
    too_many (image_in g.target) (volumes_in (dir_in g.target) d) k.volumes seen.count (all_volumes (dir_in g.target) host seen g.kept d last k) k.count (grind (arith, nat_tests)),
  );
}
tells_listed g host seen false d t last = record {
  shows = tt;
  gone = tt;
  there = tt;
  after = λ k. (k.folder, begins_reading g.target host seen g.kept d t last k);
}

named_by : (n : Name) (o : VolumeName) → volume_name n ≡ Some o → n ≡ name_of o
named_by (name.Volume v) o e = let same : Data v ≡ o = cc in ap name_of same
named_by (name.Meta v) o e = let same : Text v ≡ o = cc in ap name_of same
named_by name.Metadata o e = absurd cc
named_by name.MetadataNew o e = absurd cc
named_by name.Leases o e = absurd cc
named_by name.Inbox o e = absurd cc
named_by name.Outbox o e = absurd cc
named_by (name.MetaNew v) o e = absurd cc
named_by (name.MetaVolatile v) o e = absurd cc
named_by (name.VolumeLease v) o e = absurd cc
named_by (name.Task v) o e = absurd cc
named_by (name.TaskNew v) o e = absurd cc

tells_met : (g : Gathering) (host : ℕ) (seen : Seen) (n : Name) (o : Option VolumeName) (d : Content) → volume_name n ≡ o → NameHasIds n → IsNextName d (dir_in g.target) seen.after (Some n)
    → Tells (at_stage g (Listing seen)) host (More (at_stage g (met_stage seen n o))) d d
tells_met g host seen n None d e ids next = record { shows = next.0; gone = tt; there = tt; after = λ k. pass_other (dir_in g.target) host seen g.kept n d e ids next k }
tells_met g host seen n (Some o) d e ids next =
    let own : IsNextName d (dir_in g.target) seen.after (Some (name_of o)) = subst (λ (m : Name). IsNextName d (dir_in g.target) seen.after (Some m)) (named_by n o e) next in
    record { shows = own.0; gone = tt; there = tt; after = λ k. (k, is_next (dir_in g.target) seen.after o d own) }

list_at : (g : Gathering) (host faults : ℕ) (seen : Seen) (turn : GatheringTurn) (d e : Content) (answer : Result (Option Name) DiskAnswer) → NextName d (dir_in g.target) seen.after answer e
    → TurnFollows answer faults turn (MeetsNext g seen turn) → Gathers (at_stage g (Listing seen)) host turn d e
list_at g host faults seen turn d e (Ok None) call by =
    same_step (at_stage g (Listing seen)) host turn d e call.0
    (subst (λ (t : GatheringTurn). Tells (at_stage g (Listing seen)) host t d d) (sym by) (tells_listed g host seen (nat_lt 32 seen.count) d refl call.2))
list_at g host faults seen turn d e (Ok (Some n)) call by =
    same_step (at_stage g (Listing seen)) host turn d e call.0
    (subst (λ (t : GatheringTurn). Tells (at_stage g (Listing seen)) host t d d) (sym by.1) (tells_met g host seen n (volume_name n) d refl by.0 call.2))
list_at g host faults seen turn d e (Err Failed) call by =
    same_step (at_stage g (Listing seen)) host turn d e call (subst (λ (t : GatheringTurn). Tells (at_stage g (Listing seen)) host t d d) (sym by) (tells_fault (at_stage g (Listing seen)) host faults d))
list_at g host faults seen turn d e (Err NoFile) call by =
    same_step (at_stage g (Listing seen)) host turn d e call.0
    (subst (λ (t : GatheringTurn). Tells (at_stage g (Listing seen)) host t d d) (sym by) (record { shows = tt; gone = (refl, call.1); there = tt; after = λ k. absurd (false≢true (sym call.1 ∙ k.folder.there)) }))
list_at g host faults seen turn d e (Err Exists) call by = absurd call
list_at g host faults seen turn d e (Err OutOfFile) call by = absurd call
list_at g host faults seen turn d e (Err NotEmpty) call by = absurd call

pub list_step : (g : Gathering) (host faults : ℕ) (seen : Seen) (turn : GatheringTurn) (d e : Content) → g.stage ≡ Listing seen → Lists g seen faults turn d e → Gathers g host turn d e
list_step g host faults seen turn d e is call =
    subst (λ (s : Stage). Gathers (at_stage g s) host turn d e) (sym is) (list_at g host faults seen turn d e call.0 call.1 call.2)

-- ---- syncing

-- each file is as it was, or synced by the host
AllKept : ℕ → Content → Content → Type 0
AllKept host d e = (q : Place) → IsAlso (IsKeptFile host) (d.file q) (e.file q)

put_kept : (host : ℕ) (p : Place) (f : File) (d e : Content) → d.file p ≡ Some f → IsPut d p (Some (synced host f)) e → AllKept host d e
unfolding AllKept
put_kept host p f d e there put q = go (place_is q p) refl
  where
    at : (a b : Option File) → a ≡ Some f → b ≡ Some (synced host f) → IsAlso (IsKeptFile host) a b
    at a b is was = subst (λ (x : Option File). IsAlso (IsKeptFile host) x b) (sym is) (subst (λ (y : Option File). IsAlso (IsKeptFile host) (Some f) y) (sym was) (inr refl))

    go : (t : Bool) → place_is q p ≡ t → IsAlso (IsKeptFile host) (d.file q) (e.file q)
    go true t = let same = place_is-same q p t in at (d.file q) (e.file q) (ap (λ (x : Place). d.file x) same ∙ there) (ap (λ (x : Place). e.file x) same ∙ put.here)
    go false t =
        let other : q ≢ p = λ same. false≢true (sym t ∙ ap (λ (x : Place). place_is x p) same ∙ place_is-itself p) in
        subst (λ (y : Option File). IsAlso (IsKeptFile host) (d.file q) y) (sym (put.others q other)) (kept_itself host (d.file q))

kept_outcome : (host : ℕ) (f g o : File) → IsKeptFile host f g → IsFileOutcome g o → IsFileOutcome f o
kept_outcome host f g o (inl same) out = subst (λ (x : File). IsFileOutcome x o) same out
kept_outcome host f g o (inr put) out = synced_file host f o (subst (λ (x : File). IsFileOutcome x o) put out)

kept_also : (host : ℕ) (a b c : Option File) → IsAlso (IsKeptFile host) a b → IsAlso IsFileOutcome b c → IsAlso IsFileOutcome a c
kept_also host None None c kept out = out
kept_also host None (Some g) c kept out = absurd kept
kept_also host (Some f) None c kept out = absurd kept
kept_also host (Some f) (Some g) None kept out = absurd out
kept_also host (Some f) (Some g) (Some o) kept out = kept_outcome host f g o kept out

outcomes_kept : (host : ℕ) (d e o : Content) → ((q : Dir) → e.dir q ≡ d.dir q) → AllKept host d e → IsOutcome e o → IsOutcome d o
unfolding AllKept
outcomes_kept host d e o dirs kept out = record {
  dirs = λ q. out.dirs q ∙ dirs q;
  files = λ p. kept_also host (d.file p) (e.file p) (o.file p) (kept p) (out.files p);
}

kept_alike : (dir : Dir) (host : ℕ) (d e : Content) → e.dir dir ≡ d.dir dir → AllKept host d e → IsAlike dir host d e
unfolding AllKept
kept_alike dir host d e there kept = record {
  there = there;
  files = λ o. also_by (IsKeptFile host) _ (d.file (place_in dir (name_of o))) (e.file (place_in dir (name_of o))) (kept_state host) (kept (place_in dir (name_of o)));
}

-- the listing goes on behind the file that was synced
sync_knows : (g : Gathering) (host : ℕ) (seen : Seen) (o : VolumeName) (f : File) (e : Content) → IsThere (dir_in g.target) o e f → IsSettled f
    → KnowsListing (dir_in g.target) host seen g.kept e → IsNextFile (dir_in g.target) seen.after o e → After (at_stage g (Syncing seen o)) host (More (after_sync g seen o)) e
sync_knows g host seen (Data v) f e there settled k next = pass_file (dir_in g.target) host seen g.kept v f e there settled next k
sync_knows g host seen (Text v) f e there settled k next = pass_text (dir_in g.target) host seen g.kept v f e there settled next k

sync_done : (g : Gathering) (host : ℕ) (seen : Seen) (o : VolumeName) (f : File) (d e : Content) → IsThere (dir_in g.target) o d f
    → IsPut d (place_in (dir_in g.target) (name_of o)) (Some (synced host f)) e → Gathers (at_stage g (Syncing seen o)) host (More (after_sync g seen o)) d e
unfolding AllKept
sync_done g host seen o f d e there put =
    let kept = put_kept host (place_in (dir_in g.target) (name_of o)) f d e there put in
    let alike = kept_alike (dir_in g.target) host d e (put.dirs (dir_in g.target)) kept in
    record {
      dirs = put.dirs;
      files = λ p. kept (place_in (dir_in g.target) (name_of p));
      others = λ q other. put.others q (other o);
      outcomes = λ c out. outcomes_kept host d e c put.dirs kept out;
      shows = tt;
      gone = tt;
      there = tt;
      after = λ knows. sync_knows g host seen o (synced host f) e put.here (synced_settled host f (knows.0.folder.alone o f there))
          (listing_alike (dir_in g.target) host seen g.kept d e alike knows.0) (next_alike (dir_in g.target) host seen.after o d e alike knows.1);
    }

sync_at : (g : Gathering) (host faults : ℕ) (seen : Seen) (o : VolumeName) (turn : GatheringTurn) (d e : Content) (answer : Result (Unit {0}) DiskAnswer)
    → Syncs d host (place_in (dir_in g.target) (name_of o)) answer e → TurnFollows answer faults turn (λ _. turn ≡ More (after_sync g seen o)) → Gathers (at_stage g (Syncing seen o)) host turn d e
sync_at g host faults seen o turn d e (Ok u) call by =
    subst (λ (t : GatheringTurn). Gathers (at_stage g (Syncing seen o)) host t d e) (sym by) (sync_done g host seen o call.0 d e call.1 call.2)
sync_at g host faults seen o turn d e (Err Failed) call by =
    same_step (at_stage g (Syncing seen o)) host turn d e call (subst (λ (t : GatheringTurn). Tells (at_stage g (Syncing seen o)) host t d d) (sym by) (tells_fault (at_stage g (Syncing seen o)) host faults d))
sync_at g host faults seen o turn d e (Err NoFile) call by =
    same_step (at_stage g (Syncing seen o)) host turn d e call.0 (subst (λ (t : GatheringTurn). Tells (at_stage g (Syncing seen o)) host t d d) (sym by) (record {
      shows = tt;
      gone = (refl, call.1);
      there = tt;
      after = λ knows. absurd (no_file knows.1.shows.0 (d.file (place_in (dir_in g.target) (name_of o))) call.1 knows.1.shows.1);
    }))
sync_at g host faults seen o turn d e (Err Exists) call by = absurd call
sync_at g host faults seen o turn d e (Err OutOfFile) call by = absurd call
sync_at g host faults seen o turn d e (Err NotEmpty) call by = absurd call

pub sync_step : (g : Gathering) (host faults : ℕ) (seen : Seen) (o : VolumeName) (turn : GatheringTurn) (d e : Content) → g.stage ≡ Syncing seen o → SyncsFile g seen o host faults turn d e → Gathers g host turn d e
sync_step g host faults seen o turn d e is call =
    subst (λ (s : Stage). Gathers (at_stage g s) host turn d e) (sym is) (sync_at g host faults seen o turn d e call.0 call.1 call.2)

-- ---- reading

-- what was read of a text that is settled
tells_record : (g : Gathering) (host : ℕ) (v : Id) (turn : GatheringTurn) (d : Content) (r : Result VolumeRecord VolumeFault) → next_of g.kept ≡ Some v → is_volume (volumes_in (dir_in g.target) d) v ≡ true
    → (KnowsStage g.target g.kept host d Reading → text_of (image_in g.target) (volumes_in (dir_in g.target) d) v ≡ Some r) → KeepsRecord g v r turn → Tells (at_stage g Reading) host turn d d
tells_record g host v turn d (Ok x) next held text (inl by) =
    subst (λ (t : GatheringTurn). Tells (at_stage g Reading) host t d d) (sym by) (record { shows = tt; gone = tt; there = (v, next, held); after = λ k. (k.1.settled, (v, next, x, text k)) })
tells_record g host v turn d (Ok x) next held text (inr by) =
    subst (λ (t : GatheringTurn). Tells (at_stage g Reading) host t d d) (sym by) (record { shows = tt; gone = tt; there = tt; after = λ k. (k.0, read_on g.target g.kept v x d k.1 next (text k)) })
tells_record g host v turn d (Err fault) next held text by =
    subst (λ (t : GatheringTurn). Tells (at_stage g Reading) host t d d) (sym by) (record { shows = tt; gone = tt; there = (next, held); after = λ k. (k.1.settled, read_bad g.target g.kept v fault d k.1 next (text k)) })

-- a volume that is listed has its text
has_text : (t : Target) (kept : Gathered) (v : Id) (d : Content) → IsRead t kept d → next_of kept ≡ Some v → is_volume (volumes_in (dir_in t) d) v ≡ true
has_text t kept v d is next =
    let split = next_split kept v next in
    is.are.each v (subst (λ (vs : List Id). Contains vs v) (sym split.whole) (Contains-append_right (take (length kept.records) (ids_found kept.found)) (v ∷ split.back) v (contains_here v split.back)))

read_text_at : (g : Gathering) (host faults : ℕ) (v : Id) (room : List ℕ) (turn : GatheringTurn) (d e : Content) (result : Result TextRead Refusal) → next_of g.kept ≡ Some v
    → ReadsText host (place_in (dir_in g.target) (name.Meta v)) room faults result d e → MatchResult result (KeepsText g v room turn) (λ refusal. turn ≡ Ended tt refusal)
    → Gathers (at_stage g Reading) host turn d e
read_text_at g host faults v room turn d e (Ok read.Absent) next call by =
    same_step (at_stage g Reading) host turn d e call.0 (subst (λ (t : GatheringTurn). Tells (at_stage g Reading) host t d d) (sym by) (record {
      shows = tt;
      gone = (refl, (v, next, call.1));
      there = tt;
      after = λ k. let f = some_of (d.file (place_in (dir_in g.target) (name.Meta v))) (has_text g.target g.kept v d k.1 next) in absurd (no_file f.0 (d.file (place_in (dir_in g.target) (name.Meta v))) call.1 f.1);
    }))
read_text_at g host faults v room turn d e (Ok read.Long) next call by =
    same_step (at_stage g Reading) host turn d e call.0
    (tells_record g host v turn d (Err TooLong) next (ap is_some call.1.1) (λ k. long_read g.target host v room d k.1.settled call.1) by)
read_text_at g host faults v room turn d e (Ok (read.Bytes n)) next call by =
    same_step (at_stage g Reading) host turn d e call.0
    (tells_record g host v turn d (read_volume g.target.version g.target.sd g.target.image (take n room)) next (ap is_some call.1.1) (λ k. text_read g.target host n v room d k.1.settled call.1) by)
read_text_at g host faults v room turn d e (Err refusal) next call by =
    same_step (at_stage g Reading) host turn d e call.0
    (subst (λ (t : GatheringTurn). Tells (at_stage g Reading) host t d d) (sym (by ∙ ap (λ (x : Refusal). Ended tt x) call.1)) (tells_fault (at_stage g Reading) host faults d))

read_at : (g : Gathering) (host faults : ℕ) (next : Option Id) (turn : GatheringTurn) (d e : Content) → next_of g.kept ≡ next → ReadsNext g next host faults turn d e → Gathers (at_stage g Reading) host turn d e
read_at g host faults None turn d e next call =
    same_step (at_stage g Reading) host turn d e call.0
    (subst (λ (t : GatheringTurn). Tells (at_stage g Reading) host t d d) (sym call.1) (record { shows = tt; gone = tt; there = tt; after = λ k. read_all g.target g.kept d k.1 next }))
read_at g host faults (Some v) turn d e next call = read_text_at g host faults v call.1 turn d e call.0 next call.2 call.3

pub read_step : (g : Gathering) (host faults : ℕ) (turn : GatheringTurn) (d e : Content) → g.stage ≡ Reading → ReadsNext g (next_of g.kept) host faults turn d e → Gathers g host turn d e
read_step g host faults turn d e is call =
    subst (λ (s : Stage). Gathers (at_stage g s) host turn d e) (sym is) (read_at g host faults (next_of g.kept) turn d e refl call)
