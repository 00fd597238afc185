-- What a making knows, what each of its steps asks the disk, and what it leaves.
use Rattle.std.specs.Prelude.{◌≡◌, ◌≢◌, ℕ, ◌/◌, true, false, Option, Some, None, Result}
use Rattle.sd_names.specs.Turn.{MatchTurn}
use Rattle.sd_names.specs.declared.kinds.Format.TheVariants.{Raw, Cow}
use Rattle.sd_names.specs.declared.place.Dir.{Dir}
use Rattle.sd_names.specs.declared.place.Dir.TheVariants as dir
use Rattle.sd_names.specs.declared.place.Name.{Name}
use Rattle.sd_names.specs.declared.place.Name.TheVariants as name
use Rattle.sd_names.specs.declared.place.Place.{Place}
use Rattle.sd_names.specs.declared.refusal.Refusal.TheVariants.{DiskFault}
use Rattle.sd_names.specs.declared.turn.Turn.{Turn}
use Rattle.sd_names.specs.declared.turn.Turn.TheVariants.{More, Done, Ended}
use Rattle.shared_disk.specs.Calls.{Creates, MakesDir, Syncs, created}
use Rattle.shared_disk.specs.Content.{Content, File}
use Rattle.shared_disk.specs.NameCalls.{place_in}
use Rattle.shared_disk.specs.Step.{GoesOn, TurnFollows}
use Rattle.shared_disk.specs.declared.disk.DiskAnswer.{DiskAnswer}
use Rattle.layer_creating.specs.Creating.{CallOf as LayerCall, IsSameMaking, Knows as KnowsLayer, Makes, backing_of, capacity_of, length_of as layer_length_of, made_of, place_of}
use Rattle.layer_creating.specs.declared.creating.Creating.{Creating}
use Rattle.layer_creating.specs.declared.creating.Made.{Made}
use Rattle.layer_creating.specs.declared.creating.Made.TheVariants as made
use Rattle.whole_file.specs.Replace.{CallOf as ReplaceCall, IsSameReplace, Knows as KnowsReplace, Steps as ReplaceSteps, stage_of as replace_stage, target_of, volatile_of}
use Rattle.whole_file.specs.declared.replace.Replace.{Replace}
use Rattle.image_making.specs.Making.{IsAt, IsBehindFile, IsBehindFolder, image_of, stage_of, text_of}
use Rattle.image_making.specs.NewImage.{HasNewFile, IsImage, IsNoneOrWholeOnEach, folder_of, layer_length, text_in, text_place, volatile_place, volume_place}
use Rattle.image_making.specs.declared.making.ImageMaking.{ImageMaking}
use Rattle.image_making.specs.declared.making.NewImage.{NewImage}
use Rattle.image_making.specs.declared.making.Stage.{Stage}
use Rattle.image_making.specs.declared.making.Stage.TheVariants.{Begun, Filling, Syncing, Layering, Writing}

abbrev pub MakeTurn : Type 0
MakeTurn = Turn ImageMaking (Unit {0}) (Unit {0})

-- ---- what is known

-- the folder is there, and no file in it but the volume's
pub record IsAlone (x : NewImage) (d : Content) : Type 0 where
  pub folder : d.dir (folder_of x) ≡ true
  pub others : (n : Name) → n ≢ name.Volume x.volume → d.file (place_in (folder_of x) n) ≡ None

-- what is known of a raw volume, and what stands at its file's place
pub record IsFilling (x : NewImage) (file : Option File) (d : Content) : Type 0 where
  pub format : x.says.format ≡ Raw
  pub alone : IsAlone x d
  pub file_is : d.file (volume_place x) ≡ file

-- a layer whose file isn't made yet has none
abbrev pub IsFree : Made → Place → Content → Type 0
IsFree made.Begun place d = d.file place ≡ None
IsFree _ place d = Unit {0}

-- what is known while a layer's file is made
pub record IsLayering (x : NewImage) (host : ℕ) (c : Creating) (d : Content) : Type 0 where
  pub format : x.says.format ≡ Cow
  pub alone : IsAlone x d
  pub place_is : place_of c ≡ volume_place x
  pub capacity_is : capacity_of c ≡ x.says.capacity
  pub backing_is : backing_of c ≡ None
  pub length_is : layer_length_of c ≡ layer_length
  pub free : IsFree (made_of c) (place_of c) d
  pub knows : KnowsLayer c host d

-- what is known while the text is written: the volume's file is on the medium, and there is no file beside it but the one
-- that becomes the text
pub record IsWriting (x : NewImage) (host : ℕ) (r : Replace) (d : Content) : Type 0 where
  pub folder : d.dir (folder_of x) ≡ true
  pub file : HasNewFile x d
  pub others : (n : Name) → n ≢ name.Volume x.volume → n ≢ name.MetaVolatile x.volume → d.file (place_in (folder_of x) n) ≡ None
  pub target : target_of r ≡ text_place x
  pub volatile : volatile_of r ≡ volatile_place x
  pub replace : KnowsReplace r host (text_in x) d

-- the image has no folder, and the domain's folder of images is there
pub record IsUnmade (x : NewImage) (d : Content) : Type 0 where
  pub above : d.dir (dir.Images x.says.domain) ≡ true
  pub none : d.dir (folder_of x) ≡ false

-- what is known of the folder, by the stage
abbrev pub IsReady : Stage → NewImage → ℕ → Content → Type 0
IsReady Begun x host d = IsUnmade x d
IsReady Filling x host d = IsFilling x None d
IsReady Syncing x host d = IsFilling x (Some (created host (x.says.capacity / 512))) d
IsReady (Layering c) x host d = IsLayering x host c d
IsReady (Writing r) x host d = IsWriting x host r d

abbrev pub Knows : ImageMaking → ℕ → Content → Type 0
Knows m host d = IsReady (stage_of m) (image_of m) host d

-- ---- what is left

-- Nothing but the image's folder and its three files has changed, and each folder is there still.
pub record IsApart (x : NewImage) (d e : Content) : Type 0 where
  pub dirs : (q : Dir) → q ≢ folder_of x → e.dir q ≡ d.dir q
  pub kept : (q : Dir) → d.dir q ≡ true → e.dir q ≡ true
  pub files : (q : Place) → q ≢ volume_place x → q ≢ text_place x → q ≢ volatile_place x → e.file q ≡ d.file q

-- what a turn tells; no refusal but the fault of the disk can come
abbrev pub After : MakeTurn → ImageMaking → ℕ → ℕ → Content → Type 0
After (More next) m host faults e = Knows next host e
After (Done _) m host faults e = IsImage (image_of m) e
After (Ended _ refusal) m host faults e = refusal ≡ DiskFault faults

-- What a step leaves of a folder of which the making knows what its stage says.
pub record MakeSteps (m : ImageMaking) (host faults : ℕ) (turn : MakeTurn) (d e : Content) : Type 0 where
  pub apart : IsApart (image_of m) d e
  pub stands : IsNoneOrWholeOnEach (image_of m) e
  pub after : After turn m host faults e

-- ---- the calls

-- the image's folder is made
abbrev pub MakesFolder : ImageMaking → ℕ → MakeTurn → Content → Content → Type 0
MakesFolder m faults turn d e =
    (answer : Result (Unit {0}) DiskAnswer) × MakesDir d (folder_of (image_of m)) answer e × TurnFollows answer faults turn (λ _. GoesOn (IsBehindFolder m) turn)

-- a raw volume's file of zeros is made, of the capacity's length, and put onto the medium
abbrev pub FillsFile : ImageMaking → ℕ → ℕ → MakeTurn → Content → Content → Type 0
FillsFile m host faults turn d e =
    (answer : Result (Unit {0}) DiskAnswer) × Creates d host (volume_place (image_of m)) ((image_of m).says.capacity / 512) answer e
    × TurnFollows answer faults turn (λ _. GoesOn (IsAt m Syncing) turn)

abbrev pub SyncsFile : ImageMaking → ℕ → ℕ → MakeTurn → Content → Content → Type 0
SyncsFile m host faults turn d e =
    (answer : Result (Unit {0}) DiskAnswer) × Syncs d host (volume_place (image_of m)) answer e × TurnFollows answer faults turn (λ _. GoesOn (IsBehindFile m) turn)

-- a turn of a making, as one of the making of its layer's file
abbrev pub IsLayered : ImageMaking → Turn Creating (Unit {0}) (Unit {0}) → MakeTurn → Type 0
IsLayered m (More c) turn = GoesOn (IsAt m (Layering c)) turn
IsLayered m (Done _) turn = GoesOn (IsBehindFile m) turn
IsLayered m (Ended _ refusal) turn = turn ≡ Ended tt refusal

abbrev pub LayersFile : ImageMaking → Creating → ℕ → ℕ → MakeTurn → Content → Content → Type 0
LayersFile m c host faults turn d e = (step : Turn Creating (Unit {0}) (Unit {0})) × LayerCall c host faults step d e × IsLayered m step turn

-- the same step, where the making of the layer's file knows what its stage says; one that goes on is of the same file
abbrev pub IsSameLayer : Creating → Turn Creating (Unit {0}) (Unit {0}) → Type 0
IsSameLayer c step = MatchTurn step (λ next. IsSameMaking c next × (made_of next ≡ made.Begun → ⊥)) (λ _. Unit {0}) (λ _ _. Unit {0})

abbrev pub StepsLayer : ImageMaking → Creating → ℕ → ℕ → MakeTurn → Content → Content → Type 0
StepsLayer m c host faults turn d e =
    (step : Turn Creating (Unit {0}) (Unit {0})) × Makes c host faults step d e × IsSameLayer c step × IsLayered m step turn

-- a turn of a making, as one of the replacement that gives the volume its text
abbrev pub IsWritten : ImageMaking → Turn Replace (Unit {0}) (Unit {0}) → MakeTurn → Type 0
IsWritten m (More r) turn = GoesOn (IsAt m (Writing r)) turn
IsWritten m (Done _) turn = turn ≡ Done tt
IsWritten m (Ended _ refusal) turn = turn ≡ Ended tt refusal

abbrev pub WritesText : ImageMaking → Replace → ℕ → ℕ → MakeTurn → Content → Content → Type 0
WritesText m r host faults turn d e =
    (step : Turn Replace (Unit {0}) (Unit {0})) × ReplaceCall (replace_stage r) r host faults (text_of m) step d e × IsWritten m step turn

-- the same step, where the replacement knows what its stage says; one that goes on is of the same file
abbrev pub IsSameText : Replace → Turn Replace (Unit {0}) (Unit {0}) → Type 0
IsSameText r step = MatchTurn step (λ next. IsSameReplace r next) (λ _. Unit {0}) (λ _ _. Unit {0})

abbrev pub StepsText : ImageMaking → Replace → ℕ → ℕ → MakeTurn → Content → Content → Type 0
StepsText m r host faults turn d e =
    (step : Turn Replace (Unit {0}) (Unit {0})) × ReplaceSteps r host faults (text_of m) step d e
    × ReplaceCall (replace_stage r) r host faults (text_of m) step d e × IsSameText r step × IsWritten m step turn

-- The call of a step, by its stage, whatever stands in the folder: some answer that fits the call, and the turn that follows.
abbrev pub CallOf : Stage → ImageMaking → ℕ → ℕ → MakeTurn → Content → Content → Type 0
CallOf Begun m host faults turn d e = MakesFolder m faults turn d e
CallOf Filling m host faults turn d e = FillsFile m host faults turn d e
CallOf Syncing m host faults turn d e = SyncsFile m host faults turn d e
CallOf (Layering c) m host faults turn d e = LayersFile m c host faults turn d e
CallOf (Writing r) m host faults turn d e = WritesText m r host faults turn d e
