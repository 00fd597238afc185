-- What a settling knows survives growth of a layer's file before its turn to be grown has come.
use Rattle.std.proofs.Common.{◌≡◌, ◌≢◌, ◌⊎◌, ℕ, ◌+◌, ◌*◌, ◌^◌, ◌≤◌, nat_lt, Bool, true, false, Option, Some, sym, ap, ◌∙◌, subst, inl, inr, arith}
use Rattle.std.specs.Prelude.{if◌then◌else◌}
use Rattle.std.proofs.lemmas.Nat.{pow_pos}
use Rattle.sd_names.specs.declared.place.Dir.{Dir}
use Rattle.sd_names.specs.declared.place.Place.{Place}
use Rattle.shared_disk.specs.Changes.{grown, raised}
use Rattle.shared_disk.specs.Content.{Content, File}
use Rattle.shared_disk.specs.Crash.{IsAlso, IsSettled}
use Rattle.shared_disk.specs.SectorCalls.{IsGrown}
use Rattle.shared_disk.specs.WellFormed.{IsWellFormed}
use Rattle.shared_disk.proofs.AtPlace.{one_file}
use Rattle.shared_disk.proofs.Toolkit.{grown_settled}
use Rattle.qcow_layer.specs.Knowing.{KnowsLayerOn}
use Rattle.qcow_layer.specs.Opening.{header_kept, place_kept, volume_kept}
use Rattle.qcow_layer.specs.declared.layer.Layer.{Layer}
use Rattle.qcow_layer.proofs.Knowing.{known_grown}
use Rattle.settling_steps.specs.Leftovers as tidying
use Rattle.settling_steps.specs.Leftovers.{IsTidy, temporary_in}
use Rattle.settling_steps.specs.Lengthening.{IsWhole, KnowsLong, width_of}
use Rattle.chain_model.specs.Folder.{Volumes}
use Rattle.chain_model.specs.Records.{Records}
use Rattle.volume_chain.specs.declared.chain.Chain.{Chain}
use Rattle.volume_chain.specs.declared.volumes.OpenVolume.TheVariants.{Cow}
use Rattle.chain_settling.specs.Fit.{chain_in}
use Rattle.chain_settling.specs.Knowing.{KnowsFiles, KnowsLayers, KnowsSettled}
use Rattle.chain_settling.specs.Steps.{IsBeforeGrowth, KnowsStage}
use Rattle.chain_settling.specs.Was.{AreLeftAlone, IsLeftAlone, file_in, folder_in, image_kept}
use Rattle.chain_settling.specs.Work.{IsLayerAt}
use Rattle.chain_settling.specs.declared.stages.Stage.{Stage}
use Rattle.chain_settling.specs.declared.stages.Stage.TheVariants.{Tidying, Lengths, Headers, Heading, Texts, Writing}
use Rattle.chain_settling.specs.declared.stages.Stage.TheVariants as stages
use Rattle.chain_settling.proofs.Alike.{said_same}
use Rattle.chain_settling.proofs.Grown.{file_same, image_grown, temporary_same, texts_same}
use Rattle.chain_settling.proofs.Grows.{nat_cases}
use Rattle.chain_settling.proofs.Kept.{long_kept, settled_kept, whole_kept}
use Rattle.chain_settling.proofs.Survives.{SameNames, also_itself, long_on, stage_on, tidy_on}

-- 64 bits hold the next whole length of the longer file too
room_after : (f : File) (size width : ℕ) → 512 * f.size + width ≤ 2 ^ 64 → 512 * size + width ≤ 2 ^ 64 → 512 * (grown size f).size + width ≤ 2 ^ 64
room_after f size width was now = go (nat_lt f.size size)
  where
    go : (b : Bool) → 512 * (if b then raised size f else f).size + width ≤ 2 ^ 64
    go true = now
    go false = was

module _ (c : Chain) (host : ℕ) (r : Records) (x : Volumes) (size b : ℕ) (l : Layer) (d e : Content) (formed : IsWellFormed d) (grows : IsGrown d (place_kept l) size e) (is : IsLayerAt c b l) (room : 512 * size + width_of l ≤ 2 ^ 64) where
  module _ (k : KnowsFiles c host r x d) where
    known : KnowsSettled c l host d
    known = k.layers.each b l is

    at_file : IsGrown d (file_in (folder_in c) (volume_kept l)) size e
    at_file = subst (λ (p : Place). IsGrown d p size e) known.place grows

    settled : IsSettled grows.0
    settled = subst IsSettled (one_file known.file grows.0 (d.file (place_kept l)) known.there grows.1) known.settled

    pub other_place : (a : ℕ) (n : Layer) → IsLayerAt c a n → a ≢ b → e.file (place_kept n) ≡ d.file (place_kept n)
    other_place a n at other = grows.2.others (place_kept n) (λ same. other (k.layers.apart a b n l at is same))

    pub one_layer : (n : Layer) → IsLayerAt c b n → n ≡ l
    one_layer n at = let h : Some (Cow n) ≡ Some (Cow l) = sym at ∙ is in cc

    now : KnowsLayerOn l host e
    now = known_grown l host size d e formed (let some = pow_pos (header_kept l).cluster_bits in omega (arith, room, some)) grows (record { file = known.file; there = known.there; knows = known.knows })

    now_is : now.file ≡ grown size grows.0
    now_is = one_file now.file (grown size grows.0) (e.file (place_kept l)) now.there grows.2.here

    own : KnowsSettled c l host e
    own = record { place = known.place; file = now.file; there = now.there; knows = now.knows; settled = subst IsSettled (sym now_is) (grown_settled size grows.0 settled) }

    pub long_now : KnowsLong l host d → KnowsLong l host e
    long_now was = record {
      file = now.file;
      there = now.there;
      knows = now.knows;
      room =
          subst (λ (f : File). 512 * f.size + width_of l ≤ 2 ^ 64) (sym now_is)
          (room_after grows.0 size (width_of l) (subst (λ (f : File). 512 * f.size + width_of l ≤ 2 ^ 64) (one_file was.file grows.0 (d.file (place_kept l)) was.there grows.1) was.room) room);
    }

    alone : AreLeftAlone c x e
    alone u off = subst (λ (o : Option File). IsAlso IsLeftAlone (x.file u) o) (sym (file_same c r x size (volume_kept l) d e formed at_file u (λ same. off b l is (sym same)))) (k.image.alone u off)

    settled_at : IsSettled at_file.0
    settled_at = subst IsSettled (one_file grows.0 at_file.0 (d.file (file_in (folder_in c) (volume_kept l))) (ap (λ (p : Place). d.file p) (sym known.place) ∙ grows.1) at_file.1) settled

    layers : KnowsLayers c host e
    layers = record { each = λ a n at. each a n at (nat_cases a b); apart = k.layers.apart }
      where
        each : (a : ℕ) (n : Layer) → IsLayerAt c a n → (a ≡ b) ⊎ (a ≢ b) → KnowsSettled c n host e
        each a n at (inl same) = subst (λ (z : Layer). KnowsSettled c z host e) (sym (one_layer n (subst (λ (i : ℕ). IsLayerAt c i n) same at))) own
        each a n at (inr other) = settled_kept c host n d e (other_place a n at other) (k.layers.each a n at)

    pub files : KnowsFiles c host r x e
    files = record {
      image = image_grown c r x size (volume_kept l) d e formed at_file k.image settled_at alone;
      said = λ v. said_same (image_kept c) (folder_in c) v d e (texts_same c r x size (volume_kept l) d e formed at_file v) ∙ k.said v;
      layers = layers;
    }

    pub names_kept : SameNames (folder_in c) d e
    names_kept o = also_itself (d.file (temporary_in (folder_in c) o)) (e.file (temporary_in (folder_in c) o)) (temporary_same c r x size (volume_kept l) d e formed at_file o)

    -- what can be grown still can, and what is whole stays so
    pub long : (a : ℕ) (n : Layer) → IsLayerAt c a n → KnowsLong n host d → KnowsLong n host e
    long a n at was = go (nat_cases a b)
      where
        go : (a ≡ b) ⊎ (a ≢ b) → KnowsLong n host e
        go (inl same) =
            let one = one_layer n (subst (λ (i : ℕ). IsLayerAt c i n) same at) in
            subst (λ (z : Layer). KnowsLong z host e) (sym one) (long_now (subst (λ (z : Layer). KnowsLong z host d) one was))
        go (inr other) = long_kept host n d e (other_place a n at other) was

    pub whole : (a : ℕ) (n : Layer) → IsLayerAt c a n → a ≢ b → IsWhole n host d → IsWhole n host e
    whole a n at other was = whole_kept host n d e (other_place a n at other) was

pub early_knows : (s : Stage) (host : ℕ) (r : Records) (x : Volumes) (size b : ℕ) (l : Layer) (d e : Content) → IsWellFormed d → IsWellFormed e → IsGrown d (place_kept l) size e → IsLayerAt (chain_in s) b l
    → 512 * size + width_of l ≤ 2 ^ 64 → IsBeforeGrowth s b → KnowsStage s host r x d → KnowsStage s host r x e
early_knows (Tidying c t) host r x size b l d e formed after grows is room before k = record {
  files = files c host r x size b l d e formed grows is room k.files;
  folder = k.folder;
  long = λ a n low at. long c host r x size b l d e formed grows is room k.files a n at (k.long a n low at);
  names = stage_on (tidying.stage_of t) (tidying.folder_of t) d e
      (subst (λ (dir : Dir). (e.dir dir ≡ d.dir dir) × SameNames dir d e) (sym k.folder) (grows.2.dirs (folder_in c), names_kept c host r x size b l d e formed grows is room k.files)) k.names;
}
early_knows (Lengths c at) host r x size b l d e formed after grows is room before k = record {
  files = files c host r x size b l d e formed grows is room k.files;
  tidy = tidy_on (folder_in c) d e (names_kept c host r x size b l d e formed grows is room k.files) k.tidy;
  formed = after;
  long = λ a n low here. long c host r x size b l d e formed grows is room k.files a n here (k.long a n low here);
  whole = λ a n low here. whole c host r x size b l d e formed grows is room k.files a n here (λ same. omega (arith, low, before, same)) (k.whole a n low here);
}
early_knows (stages.Lengthening c at m) host r x size b l d e formed after grows is room before k = record {
  files = files c host r x size b l d e formed grows is room k.files;
  tidy = tidy_on (folder_in c) d e (names_kept c host r x size b l d e formed grows is room k.files) k.tidy;
  long = λ a n low here. long c host r x size b l d e formed grows is room k.files a n here (k.long a n low here);
  whole = λ a n low here. whole c host r x size b l d e formed grows is room k.files a n here (λ same. omega (arith, low, before, same)) (k.whole a n low here);
  layer = k.layer;
  is = k.is;
  here = long_on m k.layer host d e (other_place c host r x size b l d e formed grows is room k.files at k.layer k.is (λ same. omega (arith, before, same))) k.here;
}
early_knows (Headers c at) host r x size b l d e formed after grows is room before k = absurd before
early_knows (Heading c at h) host r x size b l d e formed after grows is room before k = absurd before
early_knows (Texts c p i) host r x size b l d e formed after grows is room before k = absurd before
early_knows (Writing c p i w) host r x size b l d e formed after grows is room before k = absurd before
