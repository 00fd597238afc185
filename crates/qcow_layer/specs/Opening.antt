-- An opening between its steps, and the layer that it finds.
use Rattle.std.specs.Prelude.{◌≡◌, ℕ, ◌+◌, ◌*◌, ◌/◌, ◌^◌, ◌<◌, Bool, List, Option}
use Rattle.sd_names.specs.declared.id.Id.{Id}
use Rattle.sd_names.specs.declared.place.Place.{Place}
use Rattle.sd_names.specs.declared.turn.Turn.{Turn}
use Rattle.sd_names.specs.Turn.{MatchTurn}
use Rattle.shared_disk.specs.Content.{Content}
use Rattle.shared_disk.specs.Calls.{IsSame}
use Rattle.qcow_format.specs.declared.header.Header.{Header}
use Rattle.image_model.specs.File.{file_of}
use Rattle.layer_walk.specs.Left.{Antitone}
use Rattle.qcow_layer.specs.Left.{HasHead, IsOf, StageInside, left_of}
use Rattle.qcow_layer.specs.Stages.{IsGone, IsOpened, IsRefused, Knows, takes_map}
use Rattle.qcow_layer.specs.Seen.{IsSeen}
use Rattle.layer_walk.specs.declared.work.Work.{Work}
use Rattle.qcow_layer.specs.declared.layer.Layer.{Layer}
use Rattle.qcow_layer.specs.declared.opening.Opening.{Opening}
use Rattle.qcow_layer.specs.declared.stages.Stage.{Stage}
use Rattle.qcow_layer.specs.declared.stages.Stage.TheVariants.{Begun, Sized, Walking}
use Rattle.qcow_layer.specs.declared.stages.Target.{Target}

-- which layer is opened
abbrev pub target_of : Opening → Target
target_of o = o.target

abbrev pub target_kept : Layer → Target
target_kept layer = layer.target

abbrev pub work_kept : Layer → Work
work_kept layer = layer.work

abbrev pub volume_kept : Layer → Id
volume_kept layer = layer.target.volume

abbrev pub place_kept : Layer → Place
place_kept layer = layer.target.place

abbrev pub capacity_kept : Layer → ℕ
capacity_kept layer = layer.target.capacity

abbrev pub header_kept : Layer → Header
header_kept layer = layer.work.header

abbrev pub parent_kept : Layer → Option Id
parent_kept layer = layer.work.parent

-- What an opening knows between its steps: the host sees these sectors in the file, which has so many of them, or had
-- when its length was asked, and zeros behind them.
abbrev pub KnowsFile : Opening → ℕ → ℕ → (ℕ → List ℕ) → Content → Type 0
KnowsFile o host count sectors d = Knows o.target host count sectors o.stage d

-- what the opening looks behind is in its table, and the header is this, where it is known
abbrev pub OpensInside : Opening → Type 0
OpensInside o = StageInside o.stage

abbrev pub OpensHeader : Header → Opening → Type 0
OpensHeader h o = HasHead h o.stage

-- an opening that was begun knows each file that the host sees, as long as it is
pub record IsBegun (o : Opening) (id : Id) (at : Place) (bytes most : ℕ) : Type 0 where
  pub volume : (target_of o).volume ≡ id
  pub place : (target_of o).place ≡ at
  pub capacity : (target_of o).capacity ≡ bytes
  pub greatest : (target_of o).greatest ≡ most
  pub left : (h : Header) (tables : ℕ → ℕ) → left_of h tables o.stage ≡ 2 * (2 ^ h.cluster_bits / 512 * tables 0) + 5
  pub inside : OpensInside o
  pub knows : (host count : ℕ) (sectors : ℕ → List ℕ) (d : Content) → (seen : IsSeen host at count sectors d) → count ≡ seen.file.size → KnowsFile o host count sectors d

-- the file's length is the same, unless it was asked already
abbrev pub SameLength : Stage → ℕ → ℕ → Type 0
SameLength Begun before after = after ≡ before
SameLength (Sized length) before after = Unit {0}
SameLength (Walking w) before after = Unit {0}

abbrev pub HasSameLength : Opening → ℕ → ℕ → Type 0
HasSameLength o before after = SameLength o.stage before after

-- the layer is of the opening's volume
abbrev pub KeepsTarget : Opening → Turn Opening Layer (Unit {0}) → Type 0
KeepsTarget o turn = MatchTurn turn (λ next. target_of next ≡ target_of o) (λ layer. target_kept layer ≡ target_of o) (λ _ _. Unit {0})

-- the header is this, as far as it is known, and what was looked at is among what is counted
abbrev pub OpensFile : Header → (ℕ → ℕ) → Opening → Type 0
OpensFile h tables o = IsOf h tables o.stage

-- whether the next step takes memory
abbrev pub may_lack_memory : Opening → Bool
may_lack_memory o = takes_map o.stage

-- how many more steps an opening takes at the most, where the positions from n on name so many tables
abbrev pub steps_left : Header → (ℕ → ℕ) → Opening → ℕ
steps_left h tables o = left_of h tables o.stage

-- whatever the disk tells, an opening comes nearer to its end
abbrev pub NearsEnd : Opening → Turn Opening Layer (Unit {0}) → Type 0
NearsEnd o turn = MatchTurn turn
    (λ next. (h : Header) (tables : ℕ → ℕ) → Antitone tables → OpensFile h tables next → HasHead h o.stage × (steps_left h tables next < steps_left h tables o))
    (λ _. Unit {0})
    (λ _ _. Unit {0})

-- what it looks behind stays in its table
abbrev pub KeepsInside : Opening → Turn Opening Layer (Unit {0}) → Type 0
KeepsInside o turn = MatchTurn turn (λ next. OpensInside o → OpensInside next) (λ _. Unit {0}) (λ _ _. Unit {0})

-- A step changes nothing. Where the file is known it is known still, or the layer is sound, or the refusal has the first fault.
pub record OpensOn (o : Opening) (host : ℕ) (turn : Turn Opening Layer (Unit {0})) (d e : Content) : Type 0 where
  pub same : IsSame d e
  pub gone : MatchTurn turn (λ _. Unit {0}) (λ _. Unit {0}) (λ _ refusal. IsGone (target_of o) refusal d)
  pub after : (count : ℕ) (sectors : ℕ → List ℕ) → KnowsFile o host count sectors d → MatchTurn turn
      (λ next. KnowsFile next host count sectors e)
      (λ layer. IsOpened (target_of o) (file_of count sectors) layer.work)
      (λ _ refusal. IsRefused (target_of o) (file_of count sectors) refusal)
