-- The outcomes of a layer's file in the course of a linking.
use Rattle.std.proofs.Common.{◌≡◌, ◌≢◌, inl, inr, ℕ, ◌^◌, true, List, Option, Some, None, Result, Ok, Err, refl, sym, ap, ◌∙◌, subst}
use Rattle.sd_names.specs.declared.place.Place.{Place}
use Rattle.sd_names.specs.declared.refusal.Refusal.TheVariants.{DiskFault}
use Rattle.sd_names.specs.declared.turn.Turn.{Turn}
use Rattle.sd_names.specs.declared.turn.Turn.TheVariants.{More, Done, Ended}
use Rattle.sd_names.specs.Turn.{MatchTurn}
use Rattle.shared_disk.specs.Content.{Content, File}
use Rattle.shared_disk.specs.Calls.{IsPut, IsSame, Syncs, WriteAt, wrote}
use Rattle.shared_disk.specs.Crash.{IsSettled}
use Rattle.shared_disk.specs.declared.disk.DiskAnswer.{DiskAnswer}
use Rattle.shared_disk.specs.declared.disk.DiskAnswer.TheVariants.{NoFile, Exists, OutOfFile, NotEmpty, Failed}
use Rattle.shared_disk.proofs.Outcomes.{settled_file}
use Rattle.image_model.specs.File as image
use Rattle.image_model.specs.File.{file_of}
use Rattle.layer_laws.specs.Laws as laws
use Rattle.layer_laws.specs.Laws.{SameContent, SameOutside}
use Rattle.layer_laws.proofs.Frames as frames
use Rattle.layer_laws.proofs.Heads.{parent_kept}
use Rattle.layer_laws.proofs.Sound.{header_name}
use Rattle.link_laws.specs.Links.{IsNewTable}
use Rattle.layer_writing.specs.Holding.{on_medium}
use Rattle.qcow_layer.specs.Looking.{IsFault}
use Rattle.qcow_layer.specs.Seen.{ReadsSector}
use Rattle.sd_names.specs.declared.refusal.Refusal.{Refusal}
use Rattle.qcow_layer.specs.declared.layer.Layer.{Layer}
use Rattle.qcow_layer.proofs.Knowing.{settled_alone}
use Rattle.layer_linking.specs.Calls.{at_stage, to_of}
use Rattle.layer_linking.specs.Linking.{IsAsBefore, IsDone, IsFilling, IsLeftSo, IsLinkable, KnowsLinking, KnowsStage, LeavesOthers, LinksOn}
use Rattle.layer_linking.specs.declared.linking.Linking.{Linking}
use Rattle.layer_linking.specs.declared.linking.Stage.{Stage}
use Rattle.layer_linking.proofs.Begins as begins

-- ---- all other files

pub same_others : (place : Place) (d e : Content) → IsSame d e → LeavesOthers place d e
same_others place d e same = record { dirs = λ q. ap (λ (x : Content). x.dir q) same; files = λ q _. ap (λ (x : Content). x.file q) same }

pub put_others : (place : Place) (d e : Content) (new : Option File) → IsPut d place new e → LeavesOthers place d e
put_others place d e new put = record { dirs = put.dirs; files = put.others }

pub write_others : (d e : Content) (host k : ℕ) (place : Place) (bytes : List ℕ) (answer : Result (Unit {0}) DiskAnswer) → WriteAt d host place k bytes answer e → LeavesOthers place d e
write_others d e host k place bytes (Ok u) is = put_others place d e (Some (wrote (λ _. true) host k bytes is.0)) is.3
write_others d e host k place bytes (Err Failed) (inl same) = same_others place d e same
write_others d e host k place bytes (Err Failed) (inr part) = put_others place d e (Some (wrote part.3 host k bytes part.0)) part.4
write_others d e host k place bytes (Err NoFile) is = same_others place d e is.0
write_others d e host k place bytes (Err OutOfFile) is = same_others place d e is.0
write_others d e host k place bytes (Err Exists) is = absurd is
write_others d e host k place bytes (Err NotEmpty) is = absurd is

pub sync_others : (d e : Content) (host : ℕ) (place : Place) (answer : Result (Unit {0}) DiskAnswer) → Syncs d host place answer e → LeavesOthers place d e
sync_others d e host place (Ok u) is = put_others place d e _ is.2
sync_others d e host place (Err Failed) is = same_others place d e is
sync_others d e host place (Err NoFile) is = same_others place d e is.0
sync_others d e host place (Err OutOfFile) is = absurd is
sync_others d e host place (Err Exists) is = absurd is
sync_others d e host place (Err NotEmpty) is = absurd is

pub read_others : (d e : Content) (host k n : ℕ) (place : Place) (result : Result (List ℕ) Refusal) → ReadsSector host place k n result d e → LeavesOthers place d e
read_others d e host k n place (Ok sector) is = same_others place d e is.0
read_others d e host k n place (Err refusal) is = same_others place d e is.0

-- ---- turns

abbrev After : Linking → Layer → ℕ → File → Content → Turn Linking (Unit {0}) (Unit {0}) → Type 0
After l layer host start e turn = MatchTurn turn (λ next. KnowsLinking next layer host start e) (λ _. IsDone layer l host start e) (λ _ refusal. IsFault refusal)

pub goes_on : (l : Linking) (layer : Layer) (host : ℕ) (start : File) (e : Content) (turn : Turn Linking (Unit {0}) (Unit {0})) (stage : Stage) → IsLinkable layer l host start
    → turn ≡ More (at_stage l stage) → KnowsStage stage layer (at_stage l stage) host start e → IsLeftSo layer l host start e → LinksOn l layer host start turn e
goes_on l layer host start e turn stage b is now left = record {
  left = left;
  after = subst (λ (t : Turn Linking (Unit {0}) (Unit {0})). After l layer host start e t) (sym is) (record { began = begins.began_at layer l stage host start b; now = now });
}

pub ends : (l : Linking) (layer : Layer) (host : ℕ) (start : File) (e : Content) (turn : Turn Linking (Unit {0}) (Unit {0})) → turn ≡ Done tt → IsDone layer l host start e
    → IsLeftSo layer l host start e → LinksOn l layer host start turn e
ends l layer host start e turn is done left = record { left = left; after = subst (λ (t : Turn Linking (Unit {0}) (Unit {0})). After l layer host start e t) (sym is) done }

pub faults : (l : Linking) (layer : Layer) (host n : ℕ) (start : File) (e : Content) (turn : Turn Linking (Unit {0}) (Unit {0})) → turn ≡ Ended tt (DiskFault n)
    → IsLeftSo layer l host start e → LinksOn l layer host start turn e
faults l layer host n start e turn is left = record { left = left; after = subst (λ (t : Turn Linking (Unit {0}) (Unit {0})). After l layer host start e t) (sym is) tt }

-- ---- outcomes

pub one_file : (f g : File) (o : Option File) → o ≡ Some f → o ≡ Some g → f ≡ g
one_file f g o a b = cc

pub no_file : (f : File) (o : Option File) → o ≡ None → o ≡ Some f → ⊥
no_file f o a b = let bad : None ≡ Some f = sym a ∙ b in absurd cc

module _ (layer : Layer) (l : Linking) (host : ℕ) (start : File) (b : IsLinkable layer l host start) where
  abbrev F : image.File
  F = file_of start.size start.stable

  -- a layer is as it is
  pub itself : IsAsBefore layer (file_of start.size start.stable) (file_of start.size start.stable)
  itself = record {
    size = refl;
    content = record {
      same = record {
        header = (begins.numbers layer l host start b).header;
        sound = (begins.numbers layer l host start b).sound;
        named = λ m. refl;
        entries = λ k. refl;
        tables = λ i lt. refl;
        blocks = λ k. refl;
      };
      counts = λ x. refl;
      bytes = λ i. refl;
    };
    parent = refl;
  }

  -- so is a file with nothing unsynced, of which this is known
  pub settled_left : (f : File) (e : Content) → e.file layer.target.place ≡ Some f → IsSettled f → f.size ≡ start.size → IsAsBefore layer (on_medium start) (on_medium f) → IsLeftSo layer l host start e
  settled_left f e there settled size old = record {
    file = f;
    there = there;
    size = size;
    either = record {
      alone = settled_alone host f settled;
      made = settled.fresh;
      each = λ g out. inl (subst (λ (x : File). IsAsBefore layer (on_medium start) (on_medium x)) (sym (settled_file f g settled out)) old);
    };
  }

  -- only the cluster of a new table has changed
  module _ (table : ℕ) (new : IsNewTable (laws.layer layer.work.header (file_of start.size start.stable)) layer.target.capacity (to_of l) table) where
    pub not_first : table ≢ 0
    not_first same = new.unnamed 0 (header_name layer.work.header F layer.target.capacity (begins.shape layer l host start b) (begins.clean layer l host start b) ∙ ap (λ (x : ℕ). Some x) (sym same))

    pub outside_old : (sectors : ℕ → List ℕ) → SameOutside table (2 ^ layer.work.header.cluster_bits) start.stable sectors → IsAsBefore layer (file_of start.size start.stable) (file_of start.size sectors)
    outside_old sectors outside = record {
      size = begins.size_of start.size sectors ∙ sym (begins.size_of start.size start.stable);
      content = frames.frame start.size layer.target.capacity table start.stable sectors layer.work.header (begins.are layer l host start b)
          (begins.numbers layer l host start b).header (begins.numbers layer l host start b).sound new.counted.begins outside new.unnamed;
      parent = parent_kept start.size table layer.target.capacity start.stable sectors layer.work.header (begins.are layer l host start b)
          (begins.numbers layer l host start b).header new.counted.begins not_first outside;
    }

    pub old_medium : (g : File) → g.size ≡ start.size → SameOutside table (2 ^ layer.work.header.cluster_bits) start.stable g.stable → IsAsBefore layer (on_medium start) (on_medium g)
    old_medium g size outside = subst (λ (n : ℕ). IsAsBefore layer (on_medium start) (file_of n g.stable)) (sym size) (outside_old g.stable outside)

    pub filling_left : (f : File) (e : Content) → e.file layer.target.place ≡ Some f → IsFilling layer table host start f → IsLeftSo layer l host start e
    filling_left f e there filling = record {
      file = f;
      there = there;
      size = filling.size;
      either = record { alone = filling.alone; made = filling.made; each = λ g out. inl (old_medium g (out.size ∙ filling.size) (filling.each g out)) };
    }
