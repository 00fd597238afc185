-- Making a new layer's file: what is known of it between the steps, and what a step leaves.
use Rattle.std.specs.Prelude.{◌≡◌, ◌≢◌, ◌⊎◌, ℕ, ◌/◌, ◌==◌, false, if◌then◌else◌, List, [], Option, Some, None, Result}
use Rattle.sd_names.specs.Turn.{MatchTurn}
use Rattle.sd_names.specs.declared.absence.Absence.TheVariants as absence
use Rattle.sd_names.specs.declared.place.Dir.{Dir}
use Rattle.sd_names.specs.declared.place.Place.{Place}
use Rattle.sd_names.specs.declared.refusal.Refusal.{Refusal}
use Rattle.sd_names.specs.declared.refusal.Refusal.TheVariants.{DiskFault, Vanished}
use Rattle.sd_names.specs.declared.turn.Turn.{Turn}
use Rattle.sd_names.specs.declared.turn.Turn.TheVariants.{Done}
use Rattle.shared_disk.specs.Content.{Content, File, seen, without, zero_sector}
use Rattle.shared_disk.specs.Calls.{Creates, IsSame, Syncs, WriteAt}
use Rattle.shared_disk.specs.Step.{GoesOn, TurnFollows}
use Rattle.shared_disk.specs.declared.disk.DiskAnswer.{DiskAnswer}
use Rattle.layer_creating.specs.New.{IsNewLayer, block_sector, header_sector, name_sector, new_sector, table_sector}
use Rattle.layer_creating.specs.declared.backing.Backing.{Backing}
use Rattle.layer_creating.specs.declared.creating.Creating.{Creating}
use Rattle.layer_creating.specs.declared.creating.Made.{Made}
use Rattle.layer_creating.specs.declared.creating.Made.TheVariants.{Begun, Created, Counted, Tabled, Named, Headed}

-- of which file a layer is made, and how far it is
abbrev pub place_of : Creating → Place
place_of c = c.place

abbrev pub capacity_of : Creating → ℕ
capacity_of c = c.capacity

abbrev pub backing_of : Creating → Option Backing
backing_of c = c.backing

abbrev pub length_of : Creating → ℕ
length_of c = c.length

abbrev pub made_of : Creating → Made
made_of c = c.made

-- how many more steps there are at the most
abbrev pub left_of : Made → ℕ
left_of Begun = 6
left_of Created = 5
left_of Counted = 4
left_of Tabled = 3
left_of Named = 2
left_of Headed = 1

abbrev pub creating_left : Creating → ℕ
creating_left c = left_of (made_of c)

pub record IsBegun (c : Creating) (place : Place) (capacity : ℕ) (backing : Option Backing) (length : ℕ) : Type 0 where
  pub place_is : place_of c ≡ place
  pub capacity_is : capacity_of c ≡ capacity
  pub backing_is : backing_of c ≡ backing
  pub length_is : length_of c ≡ length
  pub made_is : made_of c ≡ Begun

-- the making of the same file
pub record IsSameMaking (c next : Creating) : Type 0 where
  pub place : place_of next ≡ place_of c
  pub capacity : capacity_of next ≡ capacity_of c
  pub backing : backing_of next ≡ backing_of c
  pub length : length_of next ≡ length_of c

-- the same in another stage
pub record IsIn (c : Creating) (made : Made) (next : Creating) : Type 0 where
  pub same : IsSameMaking c next
  pub now_in : made_of next ≡ made

-- the sectors with one of them in place of what stood there
abbrev pub with_sector : ℕ → List ℕ → (ℕ → List ℕ) → ℕ → List ℕ
with_sector p bytes sectors k = if k == p then bytes else sectors k

-- what was written so far: the block, the refcount table's entry, the name, and the header
abbrev pub counted : ℕ → List ℕ
counted = with_sector 256 block_sector (λ _. zero_sector)

abbrev pub tabled : ℕ → List ℕ
tabled = with_sector 128 table_sector counted

abbrev pub so_far : ℕ → Option Backing → Made → ℕ → List ℕ
so_far capacity backing Begun = λ _. zero_sector
so_far capacity backing Created = λ _. zero_sector
so_far capacity backing Counted = counted
so_far capacity backing Tabled = tabled
so_far capacity backing Named = with_sector 126 (name_sector backing) tabled
so_far capacity backing Headed = new_sector capacity backing

-- The host has made the file, and no other host has anything unsynced in it. Until it is synced, a crash of the host may
-- leave any bytes there.
pub record IsUnfinished (c : Creating) (host : ℕ) (f : File) : Type 0 where
  pub size : f.size ≡ length_of c / 512
  pub fresh : f.fresh ≡ Some host
  pub alone : without host f.loose ≡ []

-- and it sees in it what was written so far
pub record IsWritten (c : Creating) (host : ℕ) (f : File) : Type 0 where
  pub unfinished : IsUnfinished c host f
  pub sees : (k : ℕ) → seen host f k ≡ so_far (capacity_of c) (backing_of c) (made_of c) k

abbrev pub KnowsFile : Creating → ℕ → Content → Type 0
KnowsFile c host d = (f : File) × (d.file (place_of c) ≡ Some f) × IsWritten c host f

-- what is known of the place between the steps: nothing, before the file is made
abbrev pub KnowsIn : Made → Creating → ℕ → Content → Type 0
KnowsIn Begun c host d = Unit {0}
KnowsIn Created c host d = KnowsFile c host d
KnowsIn Counted c host d = KnowsFile c host d
KnowsIn Tabled c host d = KnowsFile c host d
KnowsIn Named c host d = KnowsFile c host d
KnowsIn Headed c host d = KnowsFile c host d

abbrev pub Knows : Creating → ℕ → Content → Type 0
Knows c host d = KnowsIn (made_of c) c host d

-- what may stand at the place after a refusal: what stood there before the step, or the unfinished file
abbrev pub IsLeft : Creating → ℕ → Content → Content → Type 0
IsLeft c host d e = (e.file (place_of c) ≡ d.file (place_of c)) ⊎ ((f : File) × (e.file (place_of c) ≡ Some f) × IsUnfinished c host f)

-- its folder isn't there, or something stands at its place
abbrev pub IsBarred : Creating → Refusal → Content → Content → Type 0
IsBarred c refusal d e =
    IsSame d e × (((refusal ≡ Vanished absence.NoFile) × (d.dir (place_of c).dir ≡ false)) ⊎ ((refusal ≡ Vanished absence.Exists) × (f : File) × (d.file (place_of c) ≡ Some f)))

-- The causes of a refusal: the disk's fault, or in the first step that the file can't be made.
abbrev pub IsCause : Made → Creating → ℕ → Refusal → Content → Content → Type 0
IsCause Begun c faults refusal d e = (refusal ≡ DiskFault faults) ⊎ IsBarred c refusal d e
IsCause Created c faults refusal d e = refusal ≡ DiskFault faults
IsCause Counted c faults refusal d e = refusal ≡ DiskFault faults
IsCause Tabled c faults refusal d e = refusal ≡ DiskFault faults
IsCause Named c faults refusal d e = refusal ≡ DiskFault faults
IsCause Headed c faults refusal d e = refusal ≡ DiskFault faults

-- the layer's file is on the medium
abbrev pub IsMade : Creating → Content → Type 0
IsMade c e = (f : File) × (e.file (place_of c) ≡ Some f) × IsNewLayer (capacity_of c) (backing_of c) (length_of c) f

-- What a step leaves, where the making knows what its stage says. Nothing else changes.
pub record Makes (c : Creating) (host faults : ℕ) (turn : Turn Creating (Unit {0}) (Unit {0})) (d e : Content) : Type 0 where
  pub dirs : (q : Dir) → e.dir q ≡ d.dir q
  pub others : (q : Place) → q ≢ place_of c → e.file q ≡ d.file q
  pub after : MatchTurn turn
      (λ next. Knows next host e)
      (λ _. IsMade c e)
      (λ _ refusal. IsCause (made_of c) c faults refusal d e × IsLeft c host d e)

-- ---- the call of each step, whatever stands on the disk: some answer that fits the call, and the turn that follows

abbrev pub LeadsTo : Made → Creating → ℕ → Result (Unit {0}) DiskAnswer → Turn Creating (Unit {0}) (Unit {0}) → Type 0
LeadsTo made c faults answer turn = TurnFollows answer faults turn (λ _. GoesOn (IsIn c made) turn)

abbrev pub CreatesFile : Creating → ℕ → ℕ → Turn Creating (Unit {0}) (Unit {0}) → Content → Content → Type 0
CreatesFile c host faults turn d e =
    (answer : Result (Unit {0}) DiskAnswer) × Creates d host (place_of c) (length_of c / 512) answer e × LeadsTo Created c faults answer turn

abbrev pub WritesSector : Creating → ℕ → ℕ → List ℕ → Made → ℕ → Turn Creating (Unit {0}) (Unit {0}) → Content → Content → Type 0
WritesSector c host p sector made faults turn d e =
    (answer : Result (Unit {0}) DiskAnswer) × WriteAt d host (place_of c) p sector answer e × LeadsTo made c faults answer turn

abbrev pub WritesHeader : Creating → ℕ → ℕ → Turn Creating (Unit {0}) (Unit {0}) → Content → Content → Type 0
WritesHeader c host faults turn d e = WritesSector c host 0 (header_sector (capacity_of c) (backing_of c)) Headed faults turn d e

abbrev pub SyncsFile : Creating → ℕ → ℕ → Turn Creating (Unit {0}) (Unit {0}) → Content → Content → Type 0
SyncsFile c host faults turn d e =
    (answer : Result (Unit {0}) DiskAnswer) × Syncs d host (place_of c) answer e × TurnFollows answer faults turn (λ _. turn ≡ Done tt)

-- behind the refcount table's entry comes the name, where there is one
abbrev pub WritesNext : Option Backing → Creating → ℕ → ℕ → Turn Creating (Unit {0}) (Unit {0}) → Content → Content → Type 0
WritesNext None c host faults turn d e = WritesHeader c host faults turn d e
WritesNext (Some backing) c host faults turn d e = WritesSector c host 126 (name_sector (Some backing)) Named faults turn d e

abbrev pub CallIn : Made → Creating → ℕ → ℕ → Turn Creating (Unit {0}) (Unit {0}) → Content → Content → Type 0
CallIn Begun c host faults turn d e = CreatesFile c host faults turn d e
CallIn Created c host faults turn d e = WritesSector c host 256 block_sector Counted faults turn d e
CallIn Counted c host faults turn d e = WritesSector c host 128 table_sector Tabled faults turn d e
CallIn Tabled c host faults turn d e = WritesNext (backing_of c) c host faults turn d e
CallIn Named c host faults turn d e = WritesHeader c host faults turn d e
CallIn Headed c host faults turn d e = SyncsFile c host faults turn d e

abbrev pub CallOf : Creating → ℕ → ℕ → Turn Creating (Unit {0}) (Unit {0}) → Content → Content → Type 0
CallOf c host faults turn d e = CallIn (made_of c) c host faults turn d e
