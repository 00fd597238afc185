-- What a step of a settling leaves of an image that is known.
use Rattle.std.specs.Prelude.{◌≡◌, ◌≢◌, ◌⊎◌, ℕ, ◌<◌, ◌≤◌, Some}
use Rattle.sd_names.specs.Turn.{MatchTurn}
use Rattle.sd_names.specs.declared.id.Id.{Id}
use Rattle.sd_names.specs.declared.place.Dir.{Dir}
use Rattle.sd_names.specs.declared.place.Place.{Place}
use Rattle.sd_names.specs.declared.refusal.Refusal.TheVariants.{DiskFault}
use Rattle.shared_disk.specs.Content.{Content, File}
use Rattle.shared_disk.specs.Crash.{IsAlso}
use Rattle.layer_creating.specs.declared.backing.Backing.{Backing}
use Rattle.layer_heading.specs.Rebased.{IsOldOrOver}
use Rattle.layer_heading.specs.Rebasing as heading
use Rattle.layer_heading.specs.Rebasing.{KeepsLayer}
use Rattle.layer_heading.specs.Writing.{Turned}
use Rattle.layer_heading.specs.declared.rebasing.Rebasing.{Rebasing}
use Rattle.layer_writing.specs.Holding.{ComesBy}
use Rattle.qcow_layer.specs.Opening.{capacity_kept, header_kept, place_kept}
use Rattle.qcow_layer.specs.declared.layer.Layer.{Layer}
use Rattle.settling_steps.specs.Leftovers.{temporary_in}
use Rattle.settling_steps.specs.Lengthening.{IsGrownFile, LengthTurn, Lengthens}
use Rattle.settling_steps.specs.declared.lengthening.Lengthening.{Lengthening}
use Rattle.settling_steps.specs.declared.names.Temporary.{Temporary}
use Rattle.chain_model.specs.Folder.{Volumes}
use Rattle.chain_model.specs.Records.{Records}
use Rattle.chain_gathering.specs.Steps.{IsShown}
use Rattle.volume_chain.specs.Parts.{with_open}
use Rattle.volume_chain.specs.declared.chain.Chain.{Chain}
use Rattle.volume_chain.specs.declared.volumes.OpenVolume.TheVariants.{Cow}
use Rattle.chain_settling.specs.Alike.{ReadsAlike}
use Rattle.chain_settling.specs.Reopening.{OpensAlike}
use Rattle.chain_settling.specs.Was.{folder_in, image_kept, text_in}
use Rattle.chain_settling.specs.Fit.{StageTurn, chain_in}
use Rattle.chain_settling.specs.Left.{MeetsAt}
use Rattle.chain_settling.specs.Knowing.{IsSettledImage, KnowsHeaders, KnowsHeading, KnowsLengthening, KnowsLengths, KnowsTexts, KnowsTidying, KnowsWriting}
use Rattle.chain_settling.specs.Work.{IsBackingFor, IsLayerAt, IsRight}
use Rattle.chain_settling.specs.declared.stages.Stage.{Stage}
use Rattle.chain_settling.specs.declared.stages.Stage.TheVariants.{Tidying, Lengths, Headers, Heading, Texts, Writing}
use Rattle.chain_settling.specs.declared.stages.Stage.TheVariants as stages

-- what is known in each stage
abbrev pub KnowsStage : Stage → ℕ → Records → Volumes → Content → Type 0
KnowsStage (Texts c p i) host r x d = KnowsTexts c p i host r x d
KnowsStage (Writing c p i w) host r x d = KnowsWriting c p i w host r x d
KnowsStage (Tidying c t) host r x d = KnowsTidying c t host r x d
KnowsStage (Lengths c at) host r x d = KnowsLengths c at host r x d
KnowsStage (stages.Lengthening c at l) host r x d = KnowsLengthening c at l host r x d
KnowsStage (Headers c at) host r x d = KnowsHeaders c at host r x d
KnowsStage (Heading c at h) host r x d = KnowsHeading c at h host r x d

-- the file of the layer at a place of the path hasn't got its turn to be grown
abbrev pub IsBeforeGrowth : Stage → ℕ → Type 0
IsBeforeGrowth (Tidying c t) b = Unit {0}
IsBeforeGrowth (Lengths c at) b = at ≤ b
IsBeforeGrowth (stages.Lengthening c at l) b = at < b
IsBeforeGrowth s b = ⊥

-- a place that is neither that of a text or a temporary text of the image, nor that of the file of a layer of the path
pub record IsOther (c : Chain) (q : Place) : Type 0 where
  pub text : (v : Id) → q ≢ text_in (folder_in c) v
  pub temporary : (o : Temporary) → q ≢ temporary_in (folder_in c) o
  pub layer : (b : ℕ) (l : Layer) → IsLayerAt c b l → q ≢ place_kept l

-- What a step makes of the file of a layer of the path: nothing, or zeros behind its end; or, where the header names another
-- volume than the parent that counts, in a file that stays as long, each outcome is one from before, or one from before in which
-- the layer lies over that parent, with its format.
abbrev pub IsLayerStep : Records → Layer → File → File → Type 0
IsLayerStep r l f g = IsGrownFile f g ⊎ ((g.size ≡ f.size) × (b : Backing) × IsBackingFor r l (Some b) × ComesBy (IsOldOrOver (header_kept l) b (capacity_kept l)) f g)

-- The name that a step lists is in the folder. No folder is changed, and no file but texts, temporary texts and the files of the path's layers, all in the image's folder;
-- a text that has to change in nothing stays; and the image reads alike on each outcome, and opens alike. A refusal is the disk's fault.
pub record Settles (s : Stage) (host faults : ℕ) (r : Records) (x : Volumes) (turn : StageTurn) (d e : Content) : Type 0 where
  pub shows : MeetsAt (IsShown (folder_in (chain_in s)) d) s turn
  pub dirs : (q : Dir) → e.dir q ≡ d.dir q
  pub others : (q : Place) → q.dir ≢ folder_in (chain_in s) → e.file q ≡ d.file q
  pub kept : (q : Place) → IsOther (chain_in s) q → e.file q ≡ d.file q
  pub right : (v : Id) → IsRight r v → e.file (text_in (folder_in (chain_in s)) v) ≡ d.file (text_in (folder_in (chain_in s)) v)
  pub layers : (b : ℕ) (l : Layer) → IsLayerAt (chain_in s) b l → IsAlso (IsLayerStep r l) (d.file (place_kept l)) (e.file (place_kept l))
  pub alike : ReadsAlike (image_kept (chain_in s)) (folder_in (chain_in s)) r x e
  pub opens : OpensAlike (image_kept (chain_in s)) (folder_in (chain_in s)) r x e
  pub after : MatchTurn turn
      (λ next. KnowsStage next host r x e)
      (λ c. IsSettledImage c host r x e)
      (λ _ refusal. refusal ≡ DiskFault faults)

abbrev pub SettlesIn : Stage → ℕ → ℕ → StageTurn → Content → Content → Type 0
SettlesIn s host faults turn d e = (r : Records) (x : Volumes) → KnowsStage s host r x d → Settles s host faults r x turn d e

-- what a step of the growth of the layer's file at a place of the path leaves
abbrev pub LengthensAt : Chain → ℕ → Lengthening → ℕ → ℕ → LengthTurn → Content → Content → Type 0
LengthensAt c at l host faults turn d e = (m : Layer) → IsLayerAt c at m → Lengthens l m host faults turn d e

-- What a step of the rewriting of the header at a place of the path leaves: the layer there is the changed one.
abbrev pub RebasesAt : Chain → Chain → ℕ → Rebasing → ℕ → ℕ → Turned Rebasing → Content → Content → Type 0
RebasesAt c next at h host faults turn d e = (m : Layer) → IsLayerAt c at m
    → (after : Layer) × (next ≡ with_open c at (Cow after)) × KeepsLayer h m after turn × heading.Steps h m after host faults turn d e × heading.CallOf h m host faults turn d e
