-- What the steps leave that make the folder and the volume's file.
use Rattle.std.proofs.Common.{◌≡◌, ℕ, ◌/◌, ◌<◌, ◌≤◌, arith, true, Option, Some, None, Result, Ok, Err, refl, sym, ap, subst, ◌∙◌, inl, inr}
use Rattle.std.proofs.lemmas.Bool.{false≢true}
use Rattle.sd_names.specs.declared.kinds.Format.{Format}
use Rattle.sd_names.specs.declared.kinds.Format.TheVariants.{Raw, Cow}
use Rattle.sd_names.specs.declared.place.Name.TheVariants as name
use Rattle.sd_names.specs.declared.place.Place.{Place}
use Rattle.sd_names.specs.declared.refusal.Refusal.{Refusal}
use Rattle.sd_names.specs.declared.refusal.Refusal.TheVariants.{DiskFault}
use Rattle.sd_names.specs.declared.turn.Turn.{Turn}
use Rattle.sd_names.specs.declared.turn.Turn.TheVariants.{More, Done, Ended}
use Rattle.shared_disk.specs.Calls.{Creates, IsPut, IsSame, MakesDir, Syncs, created, synced}
use Rattle.shared_disk.specs.Content.{Content, File}
use Rattle.shared_disk.specs.NameCalls.{place_in}
use Rattle.shared_disk.specs.Step.{GoesOn, TurnFollows}
use Rattle.shared_disk.specs.WellFormed.{IsWellFormed}
use Rattle.shared_disk.specs.declared.disk.DiskAnswer.{DiskAnswer}
use Rattle.shared_disk.specs.declared.disk.DiskAnswer.TheVariants.{NoFile, Exists, OutOfFile, NotEmpty, Failed}
use Rattle.shared_disk.proofs.AtPlace.{no_file, one_file}
use Rattle.layer_creating.specs.Creating.{IsCause, IsMade, KnowsIn, Makes, backing_of, creating_left, left_of, length_of as layer_length_of, made_of, place_of}
use Rattle.layer_creating.specs.New.{IsNewLayer}
use Rattle.layer_creating.specs.declared.backing.Backing.{Backing}
use Rattle.layer_creating.specs.declared.creating.Creating.{Creating}
use Rattle.layer_creating.specs.declared.creating.Made.{Made}
use Rattle.layer_creating.specs.declared.creating.Made.TheVariants as made
use Rattle.whole_file.specs.Replace.{IsReady as IsReplaceReady, volatile_of}
use Rattle.whole_file.specs.declared.replace.Stage.{Stage as ReplaceStage}
use Rattle.image_making.specs.Making.{IsAt, IsBehindFile, IsBehindFolder, IsFileStage, image_of, stage_of, text_of}
use Rattle.image_making.specs.NewImage.{HasNewFile, IsNewFile, folder_of, text_place, volume_place}
use Rattle.image_making.specs.Steps.{After, IsAlone, IsFilling, IsFree, IsLayered, IsLayering, IsReady, IsSameLayer, IsUnmade, MakeSteps, MakeTurn, StepsLayer}
use Rattle.image_making.specs.declared.making.ImageMaking.{ImageMaking}
use Rattle.image_making.specs.declared.making.NewImage.{NewImage}
use Rattle.image_making.specs.declared.making.Stage.{Stage}
use Rattle.image_making.specs.declared.making.Stage.TheVariants.{Syncing, Layering, Writing}
use Rattle.image_making.proofs.Parts.{alone_made, alone_put, apart_file, apart_folder, apart_same, none_in_new, places_apart, synced_zeros, text_not_file}
use Rattle.image_making.proofs.Turns.{after_fault, after_more, goes_on, unread}

-- the text isn't there, where no file is but the volume's
textless : (x : NewImage) (e : Content) → IsAlone x e → e.file (text_place x) ≡ None
textless x e alone = alone.others (name.Meta x.volume) (text_not_file x)

-- ---- the folder

-- what is known once the folder is there
ready_file : (f : Format) (m : ImageMaking) (s : Stage) (host : ℕ) (e : Content) → (image_of m).says.format ≡ f → IsFileStage f m s → IsAlone (image_of m) e → e.file (volume_place (image_of m)) ≡ None
    → IsReady s (image_of m) host e
ready_file Raw m s host e format is alone none = subst (λ (x : Stage). IsReady x (image_of m) host e) (sym is) (record { format = format; alone = alone; file_is = none })
ready_file Cow m s host e format is alone none = subst (λ (x : Stage). IsReady x (image_of m) host e) (sym is.1) (record {
  format = format;
  alone = alone;
  place_is = is.2.place_is;
  capacity_is = is.2.capacity_is;
  backing_is = is.2.backing_is;
  length_is = is.2.length_is;
  free = subst (λ (k : Made). IsFree k (place_of is.0) e) (sym is.2.made_is) (ap (λ (p : Place). e.file p) is.2.place_is ∙ none);
  knows = subst (λ (k : Made). KnowsIn k is.0 host e) (sym is.2.made_is) tt;
})

behind_folder : (m : ImageMaking) (host faults : ℕ) (turn : MakeTurn) (e : Content) → GoesOn (IsBehindFolder m) turn → IsAlone (image_of m) e × (e.file (volume_place (image_of m)) ≡ None)
    → After turn m host faults e
behind_folder m host faults (More next) e is new =
    goes_on m next (stage_of next) host e is.0 refl (ready_file (image_of m).says.format m (stage_of next) host e refl is.1 new.0 new.1)
behind_folder m host faults (Done u) e is new = absurd is
behind_folder m host faults (Ended u refusal) e is new = absurd is

pub make_step : (m : ImageMaking) (host faults : ℕ) (turn : MakeTurn) (d e : Content) → IsWellFormed d → IsUnmade (image_of m) d → (answer : Result (Unit {0}) DiskAnswer)
    → MakesDir d (folder_of (image_of m)) answer e → TurnFollows answer faults turn (λ _. GoesOn (IsBehindFolder m) turn) → MakeSteps m host faults turn d e
make_step m host faults turn d e well known (Ok u) call by =
    let new = alone_made (image_of m) d e well call in
    unread m host faults turn d e (apart_folder (image_of m) d e call.put) (textless (image_of m) e new.0) (behind_folder m host faults turn e by new)
make_step m host faults turn d e well known (Err NoFile) call by = absurd (false≢true (sym call.1 ∙ known.above))
make_step m host faults turn d e well known (Err Exists) call by = absurd (false≢true (sym known.none ∙ call.2))
make_step m host faults turn d e well known (Err Failed) (inl same) by =
    unread m host faults turn d e (apart_same (image_of m) d e same)
    (ap (λ (c : Content). c.file (text_place (image_of m))) same ∙ none_in_new (folder_of (image_of m)) (name.Meta (image_of m).volume) d well known.none) (after_fault m host faults turn e by)
make_step m host faults turn d e well known (Err Failed) (inr call) by =
    let new = alone_made (image_of m) d e well call in
    unread m host faults turn d e (apart_folder (image_of m) d e call.put) (textless (image_of m) e new.0) (after_fault m host faults turn e by)
make_step m host faults turn d e well known (Err OutOfFile) call by = absurd call
make_step m host faults turn d e well known (Err NotEmpty) call by = absurd call

-- ---- a raw volume's file

raw_put : (m : ImageMaking) (host faults : ℕ) (turn : MakeTurn) (new : Option File) (d e : Content) → IsAlone (image_of m) d → IsPut d (volume_place (image_of m)) new e → After turn m host faults e
    → MakeSteps m host faults turn d e
raw_put m host faults turn new d e alone put after =
    unread m host faults turn d e (apart_file (image_of m) d e put.dirs put.others) (textless (image_of m) e (alone_put (image_of m) new d e alone put)) after

raw_same : (m : ImageMaking) (host faults : ℕ) (turn : MakeTurn) (d e : Content) → IsAlone (image_of m) d → IsSame d e → After turn m host faults e → MakeSteps m host faults turn d e
raw_same m host faults turn d e alone same after =
    unread m host faults turn d e (apart_same (image_of m) d e same) (ap (λ (c : Content). c.file (text_place (image_of m))) same ∙ textless (image_of m) d alone) after

pub fill_step : (m : ImageMaking) (host faults : ℕ) (turn : MakeTurn) (d e : Content) → IsFilling (image_of m) None d → (answer : Result (Unit {0}) DiskAnswer)
    → Creates d host (volume_place (image_of m)) ((image_of m).says.capacity / 512) answer e → TurnFollows answer faults turn (λ _. GoesOn (IsAt m Syncing) turn) → MakeSteps m host faults turn d e
fill_step m host faults turn d e known (Ok u) call by =
    let new : Option File = Some (created host ((image_of m).says.capacity / 512)) in
    raw_put m host faults turn new d e known.alone call.put
    (after_more m Syncing host faults turn e by (record { format = known.format; alone = alone_put (image_of m) new d e known.alone call.put; file_is = call.put.here }))
fill_step m host faults turn d e known (Err NoFile) call by = absurd (false≢true (sym call.1 ∙ known.alone.folder))
fill_step m host faults turn d e known (Err Exists) call by = absurd (no_file call.2 (d.file (volume_place (image_of m))) known.file_is call.3)
fill_step m host faults turn d e known (Err Failed) (inl same) by = raw_same m host faults turn d e known.alone same (after_fault m host faults turn e by)
fill_step m host faults turn d e known (Err Failed) (inr call) by = raw_put m host faults turn (Some (created host ((image_of m).says.capacity / 512))) d e known.alone call.put (after_fault m host faults turn e by)
fill_step m host faults turn d e known (Err OutOfFile) call by = absurd call
fill_step m host faults turn d e known (Err NotEmpty) call by = absurd call

-- ---- behind the volume's file

behind_file : (m : ImageMaking) (host faults : ℕ) (turn : MakeTurn) (e : Content) → GoesOn (IsBehindFile m) turn → IsAlone (image_of m) e → HasNewFile (image_of m) e → After turn m host faults e
behind_file m host faults (More next) e is alone file =
    let r = is.1.0 in
    goes_on m next (Writing r) host e is.0 is.1.1 (record {
      folder = alone.folder;
      file = file;
      others = λ n apart _. alone.others n apart;
      target = is.1.2.target;
      volatile = is.1.2.volatile;
      replace = record {
        folder = ap (λ (p : Place). e.dir p.dir) is.1.2.target ∙ alone.folder;
        ready = subst (λ (s : ReplaceStage). IsReplaceReady s host (text_of m) (volatile_of r) e) (sym is.1.2.stage) tt;
      };
    })
behind_file m host faults (Done u) e is alone file = absurd is
behind_file m host faults (Ended u refusal) e is alone file = absurd is

raw_file : (x : NewImage) (host : ℕ) (f : File) → x.says.format ≡ Raw → f ≡ created host (x.says.capacity / 512) → IsNewFile x.says.format x.says.capacity (synced host f)
raw_file x host f format is = subst (λ (o : Format). IsNewFile o x.says.capacity (synced host f)) (sym format) (synced_zeros host (x.says.capacity / 512) f is)

pub sync_step : (m : ImageMaking) (host faults : ℕ) (turn : MakeTurn) (d e : Content) → IsFilling (image_of m) (Some (created host ((image_of m).says.capacity / 512))) d
    → (answer : Result (Unit {0}) DiskAnswer) → Syncs d host (volume_place (image_of m)) answer e → TurnFollows answer faults turn (λ _. GoesOn (IsBehindFile m) turn) → MakeSteps m host faults turn d e
sync_step m host faults turn d e known (Ok u) call by =
    let f = call.0 in
    let made : f ≡ created host ((image_of m).says.capacity / 512) = one_file f (created host ((image_of m).says.capacity / 512)) (d.file (volume_place (image_of m))) call.1 known.file_is in
    raw_put m host faults turn (Some (synced host f)) d e known.alone call.2
    (behind_file m host faults turn e by (alone_put (image_of m) (Some (synced host f)) d e known.alone call.2) (synced host f, call.2.here, raw_file (image_of m) host f known.format made))
sync_step m host faults turn d e known (Err NoFile) call by =
    absurd (no_file (created host ((image_of m).says.capacity / 512)) (d.file (volume_place (image_of m))) call.1 known.file_is)
sync_step m host faults turn d e known (Err Failed) call by = raw_same m host faults turn d e known.alone call (after_fault m host faults turn e by)
sync_step m host faults turn d e known (Err Exists) call by = absurd call
sync_step m host faults turn d e known (Err OutOfFile) call by = absurd call
sync_step m host faults turn d e known (Err NotEmpty) call by = absurd call

-- ---- a layer's file

not_begun : (k : Made) (p : Place) (e : Content) → (k ≡ made.Begun → ⊥) → IsFree k p e
not_begun made.Begun p e other = absurd (other refl)
not_begun made.Created p e other = tt
not_begun made.Counted p e other = tt
not_begun made.Tabled p e other = tt
not_begun made.Named p e other = tt
not_begun made.Headed p e other = tt

-- a making of a layer's file that went on has begun before
six_left : (k : Made) → left_of k ≤ 6
six_left made.Begun = omega arith
six_left made.Created = omega arith
six_left made.Counted = omega arith
six_left made.Tabled = omega arith
six_left made.Named = omega arith
six_left made.Headed = omega arith

pub went_on : (c next : Creating) → creating_left next < creating_left c → made_of next ≡ made.Begun → ⊥
went_on c next less is = too_many (left_of (made_of next)) (left_of (made_of c)) (ap (λ (k : Made). left_of k) is) less (six_left (made_of c))
  where
    too_many : (a b : ℕ) → a ≡ 6 → a < b → b ≤ 6 → ⊥
    too_many a b is less most = omega (arith, is, less, most)

-- where the folder is there, and no file at the place, the making of a layer's file ends by the disk's fault alone
cause_fault : (k : Made) (c : Creating) (faults : ℕ) (refusal : Refusal) (d e : Content) → IsCause k c faults refusal d e → IsFree k (place_of c) d → d.dir (place_of c).dir ≡ true → refusal ≡ DiskFault faults
cause_fault made.Begun c faults refusal d e (inl is) free there = is
cause_fault made.Begun c faults refusal d e (inr (same, inl barred)) free there = absurd (false≢true (sym barred.1 ∙ there))
cause_fault made.Begun c faults refusal d e (inr (same, inr barred)) free there = absurd (no_file barred.1 (d.file (place_of c)) free barred.2)
cause_fault made.Created c faults refusal d e is free there = is
cause_fault made.Counted c faults refusal d e is free there = is
cause_fault made.Tabled c faults refusal d e is free there = is
cause_fault made.Named c faults refusal d e is free there = is
cause_fault made.Headed c faults refusal d e is free there = is

alone_layered : (x : NewImage) (host faults : ℕ) (c : Creating) (step : Turn Creating (Unit {0}) (Unit {0})) (d e : Content) → IsLayering x host c d → Makes c host faults step d e → IsAlone x e
alone_layered x host faults c step d e known makes = record {
  folder = makes.dirs (folder_of x) ∙ known.alone.folder;
  others = λ n apart. makes.others (place_in (folder_of x) n) (λ same. places_apart (folder_of x) n (name.Volume x.volume) apart (same ∙ known.place_is)) ∙ known.alone.others n apart;
}

layer_made : (x : NewImage) (host : ℕ) (c : Creating) (d e : Content) → IsLayering x host c d → IsMade c e → HasNewFile x e
layer_made x host c d e known is =
    let f = is.0 in
    let capacity = subst (λ (n : ℕ). IsNewLayer n (backing_of c) (layer_length_of c) f) known.capacity_is is.2 in
    let backing = subst (λ (b : Option Backing). IsNewLayer x.says.capacity b (layer_length_of c) f) known.backing_is capacity in
    let length = subst (λ (n : ℕ). IsNewLayer x.says.capacity None n f) known.length_is backing in
    (f, ap (λ (p : Place). e.file p) (sym known.place_is) ∙ is.1, subst (λ (o : Format). IsNewFile o x.says.capacity f) (sym known.format) length)

abbrev Rest : ImageMaking → Creating → Turn Creating (Unit {0}) (Unit {0}) → MakeTurn → Type 0
Rest m c step turn = IsSameLayer c step × IsLayered m step turn

layer_after : (m : ImageMaking) (host faults : ℕ) (c : Creating) (step : Turn Creating (Unit {0}) (Unit {0})) (turn : MakeTurn) (d e : Content) → IsLayering (image_of m) host c d
    → IsAlone (image_of m) e → (by : Makes c host faults step d e) → Rest m c step turn → After turn m host faults e
layer_after m host faults c (More next) turn d e known alone makes (same, by) =
    after_more m (Layering next) host faults turn e by (record {
      format = known.format;
      alone = alone;
      place_is = same.0.place ∙ known.place_is;
      capacity_is = same.0.capacity ∙ known.capacity_is;
      backing_is = same.0.backing ∙ known.backing_is;
      length_is = same.0.length ∙ known.length_is;
      free = not_begun (made_of next) (place_of next) e same.1;
      knows = makes.after;
    })
layer_after m host faults c (Done u) turn d e known alone makes (same, by) = behind_file m host faults turn e by alone (layer_made (image_of m) host c d e known makes.after)
layer_after m host faults c (Ended u refusal) turn d e known alone makes (same, by) =
    after_fault m host faults turn e (by ∙ ap (λ (x : Refusal). Ended tt x)
    (cause_fault (made_of c) c faults refusal d e makes.after.0 known.free (ap (λ (p : Place). d.dir p.dir) known.place_is ∙ known.alone.folder)))

pub layer_step : (c : Creating) (m : ImageMaking) (host faults : ℕ) (turn : MakeTurn) (d e : Content) → IsLayering (image_of m) host c d → StepsLayer m c host faults turn d e → MakeSteps m host faults turn d e
layer_step c m host faults turn d e known by =
    let alone = alone_layered (image_of m) host faults c by.0 d e known by.1 in
    unread m host faults turn d e (apart_file (image_of m) d e by.1.dirs (λ q apart. by.1.others q (λ same. apart (same ∙ known.place_is))))
    (textless (image_of m) e alone) (layer_after m host faults c by.0 turn d e known alone by.1 (by.2, by.3))
