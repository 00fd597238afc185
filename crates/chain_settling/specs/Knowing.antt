-- What is known in each stage of a settling.
use Rattle.std.specs.Prelude.{◌≡◌, ◌≢◌, ◌⊎◌, ℕ, ◌+◌, ◌*◌, ◌^◌, ◌<◌, ◌≤◌, slice_get, Some, None, Ok}
use Rattle.sd_names.specs.declared.id.Id.{Id}
use Rattle.sd_names.specs.declared.place.Name.TheVariants as name
use Rattle.shared_disk.specs.Content.{Content, File}
use Rattle.shared_disk.specs.Crash.{IsSettled, OnEach}
use Rattle.shared_disk.specs.WellFormed.{IsWellFormed}
use Rattle.image_model.specs.Soundness.{layer_header}
use Rattle.layer_creating.specs.declared.backing.Backing.{Backing}
use Rattle.layer_heading.specs.Rebased.{rebased}
use Rattle.layer_heading.specs.Rebasing as heading
use Rattle.layer_heading.specs.declared.rebasing.Rebasing.{Rebasing}
use Rattle.layer_writing.specs.Holding.{on_medium}
use Rattle.volume_meta.specs.declared.record.VolumeRecord.{VolumeRecord}
use Rattle.qcow_layer.specs.Knowing.{KnowsLayer}
use Rattle.qcow_layer.specs.Opening.{capacity_kept, header_kept, parent_kept, place_kept, volume_kept}
use Rattle.qcow_layer.specs.declared.layer.Layer.{Layer}
use Rattle.settling_steps.specs.Leftovers.{IsTidy, temporary_in}
use Rattle.settling_steps.specs.Leftovers as tidying
use Rattle.settling_steps.specs.Lengthening as lengthening
use Rattle.settling_steps.specs.declared.leftovers.Tidying.{Tidying}
use Rattle.settling_steps.specs.declared.lengthening.Lengthening.{Lengthening}
use Rattle.settling_steps.specs.Lengthening.{IsWhole, KnowsLong, width_of}
use Rattle.settling_steps.specs.Names.{name_of}
use Rattle.settling_steps.specs.declared.names.Temporary.{Temporary}
use Rattle.volume_texts.specs.Write as text
use Rattle.volume_texts.specs.declared.write.TextWrite.{TextWrite}
use Rattle.chain_model.specs.Folder.{Volumes}
use Rattle.chain_model.specs.Records.{Records, parent}
use Rattle.chain_records.specs.Records.{ids_of, records_in}
use Rattle.chain_records.specs.Settling.{AreRewritten, HasPassedParent, IsOver, IsRewritten}
use Rattle.volume_chain.specs.Chain.{records_kept}
use Rattle.volume_chain.specs.Parts.{version_of}
use Rattle.volume_chain.specs.declared.chain.Chain.{Chain}
use Rattle.chain_settling.specs.Alike.{AreSaid, AreSaidBut, IsCow, KnowsImage}
use Rattle.chain_settling.specs.Reopening.{named_in}
use Rattle.chain_settling.specs.Was.{file_in, folder_in}
use Rattle.chain_settling.specs.Work.{IsBackingFor, IsLayerAt, IsRight, IsRightType}
use Rattle.chain_settling.specs.declared.stages.Part.{Part}
use Rattle.chain_settling.specs.declared.stages.Part.TheVariants.{Parents, Types}

-- A layer knows its file, in which nothing is unsynced.
pub record KnowsSettled (c : Chain) (l : Layer) (host : ℕ) (d : Content) : Type 0 where
  pub place : place_kept l ≡ file_in (folder_in c) (volume_kept l)
  pub file : File
  pub there : d.file (place_kept l) ≡ Some file
  pub knows : KnowsLayer l host file
  pub settled : IsSettled file

-- The layers of the path are known from this place on, as this says, and no two of them are of one volume.
pub record KnowsLayers (c : Chain) (host : ℕ) (d : Content) : Type 0 where
  pub each : (at : ℕ) (l : Layer) → IsLayerAt c at l → KnowsSettled c l host d
  pub apart : (a b : ℕ) (l m : Layer) → IsLayerAt c a l → IsLayerAt c b m → place_kept l ≡ place_kept m → a ≡ b

-- those from a place of the path on can be grown, and those before it are of whole clusters
abbrev pub AreLongFrom : Chain → ℕ → ℕ → Content → Type 0
AreLongFrom c at host d = (b : ℕ) (l : Layer) → at ≤ b → IsLayerAt c b l → KnowsLong l host d

abbrev pub AreWholeTo : Chain → ℕ → ℕ → Content → Type 0
AreWholeTo c at host d = (b : ℕ) (l : Layer) → b < at → IsLayerAt c b l → IsWhole l host d

-- each layer of the path is known, and its file is of whole clusters
pub record KnowsRest (c : Chain) (host : ℕ) (d : Content) : Type 0 where
  pub layers : KnowsLayers c host d
  pub whole : (b : ℕ) (l : Layer) → IsLayerAt c b l → IsWhole l host d

-- ---- headers

-- The layer's header names the parent of its volume that counts, where that has a record.
abbrev pub TellsUp : Records → Layer → Type 0
TellsUp r l = (up : Id) (y : VolumeRecord) → IsOver r (volume_kept l) up → r up ≡ Some y → parent_kept l ≡ Some up

-- so does that of each layer of the path, or of each before a place
abbrev pub AreTold : Chain → Records → Type 0
AreTold c r = (b : ℕ) (l : Layer) → IsLayerAt c b l → TellsUp r l

abbrev pub AreToldTo : Chain → Records → ℕ → Type 0
AreToldTo c r at = (b : ℕ) (l : Layer) → b < at → IsLayerAt c b l → TellsUp r l

-- ---- texts

-- the record of a volume whose parent was passed over is rewritten
abbrev pub IsDone : Records → Records → Id → Type 0
IsDone r s v = HasPassedParent r v → IsRewritten r v (r v) (s v)

-- the VOLTYPE of a volume is right
abbrev pub IsTyped : Records → Records → Id → Type 0
IsTyped r s v = (y : VolumeRecord) → s v ≡ Some y → IsRightType r v y.voltype

-- this holds of the volumes before a place of the list
abbrev pub AreTo : Chain → (Id → Type 0) → ℕ → Type 0
AreTo c P i = (j : ℕ) (v : Id) → j < i → slice_get (ids_of (records_kept c)) j ≡ Some v → P v

-- what is done of the texts before a place of the list
abbrev pub IsPartDone : Chain → Records → Part → ℕ → Type 0
IsPartDone c r Parents i = AreTo c (IsDone r (records_in (records_kept c))) i
IsPartDone c r Types i = AreRewritten r (records_in (records_kept c)) × AreTo c (IsTyped r (records_in (records_kept c))) i

-- what is known while the texts are rewritten
pub record KnowsTexts (c : Chain) (p : Part) (i host : ℕ) (r : Records) (x : Volumes) (d : Content) : Type 0 where
  pub image : KnowsImage c r x d
  pub said : AreSaid c d
  pub tidy : IsTidy (folder_in c) d
  pub rest : KnowsRest c host d
  pub told : AreTold c r
  pub done : IsPartDone c r p i

-- The same while the text of one volume is written. Its record is kept as it will be, and the file beside its text may be there.
pub record KnowsWriting (c : Chain) (p : Part) (i : ℕ) (w : TextWrite) (host : ℕ) (r : Records) (x : Volumes) (d : Content) : Type 0 where
  pub image : KnowsImage c r x d
  pub volume : Id
  pub at : slice_get (ids_of (records_kept c)) i ≡ Some volume
  pub says : VolumeRecord
  pub is : records_in (records_kept c) volume ≡ Some says
  pub wrong : IsRight r volume → ⊥
  pub file : text.file_of w ≡ text.text_place (folder_in c) volume
  pub volatile : text.volatile_of w ≡ text.new_place (folder_in c) volume
  pub version : text.version_of w ≡ version_of c
  pub said : AreSaidBut c volume d
  pub tidy : (o : Temporary) → (name_of o ≡ name.MetaNew volume → ⊥) → d.file (temporary_in (folder_in c) o) ≡ None
  pub rest : KnowsRest c host d
  pub told : AreTold c r
  pub done : IsPartDone c r p (i + 1)
  pub write : text.Knows w host says d

-- ---- all stages

-- A settled image: it reads alike, the records that are kept are those of the texts, each parent is the one that counts, each
-- VOLTYPE is right, no temporary text is left, and each layer of the path is known, its file of whole clusters, and its header
-- names the parent that counts.
pub record IsSettledImage (c : Chain) (host : ℕ) (r : Records) (x : Volumes) (d : Content) : Type 0 where
  pub image : KnowsImage c r x d
  pub said : AreSaid c d
  pub rewritten : AreRewritten r (records_in (records_kept c))
  pub typed : (v : Id) → IsTyped r (records_in (records_kept c)) v
  pub tidy : IsTidy (folder_in c) d
  pub rest : KnowsRest c host d
  pub told : AreTold c r

-- ---- up to the headers

-- what is known of the image, its texts and its layers
pub record KnowsFiles (c : Chain) (host : ℕ) (r : Records) (x : Volumes) (d : Content) : Type 0 where
  pub image : KnowsImage c r x d
  pub said : AreSaid c d
  pub layers : KnowsLayers c host d

pub record KnowsTidying (c : Chain) (t : Tidying) (host : ℕ) (r : Records) (x : Volumes) (d : Content) : Type 0 where
  pub files : KnowsFiles c host r x d
  pub folder : tidying.folder_of t ≡ folder_in c
  pub long : AreLongFrom c 0 host d
  pub names : tidying.Knows t d

pub record KnowsLengths (c : Chain) (at host : ℕ) (r : Records) (x : Volumes) (d : Content) : Type 0 where
  pub files : KnowsFiles c host r x d
  pub tidy : IsTidy (folder_in c) d
  pub formed : IsWellFormed d
  pub long : AreLongFrom c at host d
  pub whole : AreWholeTo c at host d

pub record KnowsLengthening (c : Chain) (at : ℕ) (l : Lengthening) (host : ℕ) (r : Records) (x : Volumes) (d : Content) : Type 0 where
  pub files : KnowsFiles c host r x d
  pub tidy : IsTidy (folder_in c) d
  pub long : AreLongFrom c (at + 1) host d
  pub whole : AreWholeTo c at host d
  pub layer : Layer
  pub is : IsLayerAt c at layer
  pub here : lengthening.Knows l layer host d

pub record KnowsHeaders (c : Chain) (at host : ℕ) (r : Records) (x : Volumes) (d : Content) : Type 0 where
  pub image : KnowsImage c r x d
  pub said : AreSaid c d
  pub tidy : IsTidy (folder_in c) d
  pub formed : IsWellFormed d
  pub rest : KnowsRest c host d
  pub told : AreToldTo c r at

-- the header of the layer's file is the layer's own, or lies over the backing file
abbrev pub IsHeadOf : Layer → Backing → File → Type 0
IsHeadOf m b f =
    (layer_header (on_medium f) (capacity_kept m) ≡ Ok (header_kept m)) ⊎ (layer_header (on_medium f) (capacity_kept m) ≡ Ok (rebased (header_kept m) b))

-- The text and the header of the layer's volume name what they named as the settling began.
pub record IsAsNamed (c : Chain) (r : Records) (x : Volumes) (l : Layer) : Type 0 where
  pub text : parent (records_in (records_kept c)) (volume_kept l) ≡ parent r (volume_kept l)
  pub header : (f : File) → x.file (volume_kept l) ≡ Some f → named_in (r (volume_kept l)) f ≡ parent_kept l

-- While the header of one layer is rewritten, that layer's file is known as the rebasing knows it, and all others are as before.
pub record KnowsHeading (c : Chain) (at : ℕ) (h : Rebasing) (host : ℕ) (r : Records) (x : Volumes) (d : Content) : Type 0 where
  pub image : KnowsImage c r x d
  pub said : AreSaid c d
  pub tidy : IsTidy (folder_in c) d
  pub formed : IsWellFormed d
  pub layer : Layer
  pub is : IsLayerAt c at layer
  pub place : place_kept layer ≡ file_in (folder_in c) (volume_kept layer)
  pub file : File
  pub there : d.file (place_kept layer) ≡ Some file
  pub knows : heading.KnowsFile h layer host file
  pub heads : OnEach file (IsHeadOf layer (heading.backing_of h))
  pub cow : IsCow layer (r (volume_kept layer))
  pub backs : IsBackingFor r layer (Some (heading.backing_of h))
  pub named : IsAsNamed c r x layer
  pub told : AreToldTo c r at
  pub others : (b : ℕ) (l : Layer) → b ≢ at → IsLayerAt c b l → KnowsSettled c l host d
  pub wholes : (b : ℕ) (l : Layer) → b ≢ at → IsLayerAt c b l → IsWhole l host d
  pub apart : (a b : ℕ) (l n : Layer) → IsLayerAt c a l → IsLayerAt c b n → place_kept l ≡ place_kept n → a ≡ b

-- 64 bits hold the next whole length of each layer's file
abbrev pub HaveRoom : Chain → Content → Type 0
HaveRoom c d = (b : ℕ) (l : Layer) → IsLayerAt c b l → (f : File) → d.file (place_kept l) ≡ Some f → 512 * f.size + width_of l ≤ 2 ^ 64
