-- The write that makes all entries at once, and its sync.
use Rattle.std.proofs.Common.{◌≡◌, ◌⊎◌, inl, inr, ℕ, ◌/◌, ◌%◌, Bool, true, List, length, take, Some, Ok, Err, refl, sym, ap, ◌∙◌, subst, arith}
use Rattle.std.proofs.Math.Seq.{take-length}
use Rattle.sd_names.specs.declared.turn.Turn.{Turn}
use Rattle.sd_names.specs.declared.turn.Turn.TheVariants.{Done}
use Rattle.shared_disk.specs.Content.{Content, File, sector_of}
use Rattle.shared_disk.specs.Calls.{IsPut, IsSame, sectors_in, synced, wrote}
use Rattle.shared_disk.specs.Crash.{IsSettled}
use Rattle.shared_disk.specs.declared.disk.DiskAnswer.TheVariants.{NoFile, Exists, OutOfFile, NotEmpty, Failed}
use Rattle.image_model.specs.File as image
use Rattle.image_model.specs.File.{file_of}
use Rattle.image_model.specs.Layer.{Tables, block_place, block_span, count_of, is_used}
use Rattle.layer_laws.specs.Laws as laws
use Rattle.shared_disk.proofs.Outcomes.{settled_file}
use Rattle.std.specs.Prelude.{not, ◌==◌, ◌&&◌, ◌||◌, nat_lt}
use Rattle.qcow_layer.specs.Knowing.{KnowsNumbers}
use Rattle.qcow_layer.specs.declared.layer.Layer.{Layer}
use Rattle.qcow_layer.proofs.Knowing.{settled_alone}
use Rattle.layer_writing.specs.Holding.{IsBetween, IsEither, on_medium, with_sector}
use Rattle.layer_writing.specs.Writer.{KnowsWriter}
use Rattle.layer_writing.proofs.Known.{anew, between_synced}
use Rattle.layer_writing.proofs.Sectors.{alone_writes, between_written, either_on_each}
use Rattle.layer_linking.specs.Calls.{SyncsThen, WritesThen}
use Rattle.layer_linking.specs.Linking.{HasEntered, HasLaid, IsAsBefore, IsLeftSo, IsLinkable, IsLinked, LinksOn}
use Rattle.layer_linking.specs.declared.linking.Linking.{Linking}
use Rattle.layer_linking.specs.declared.linking.Stage.TheVariants.{Entered}
use Rattle.layer_linking.proofs.Begins as begins
use Rattle.layer_linking.proofs.Outcomes as outcomes

pub one_sector : (bytes : List ℕ) → length bytes ≡ 512 → (sectors_in bytes ≡ 1) × (sector_of bytes 0 ≡ bytes)
one_sector bytes long = (omega (arith, long), sym (ap (λ (m : ℕ). take m bytes) long) ∙ take-length bytes)

-- which clusters are used
used_linked : (layer : Layer) (l : Linking) (f g : image.File) → IsLinked layer l f g → (c : ℕ) → is_used (laws.layer layer.work.header g) c ≡ is_used (laws.layer layer.work.header f) c
unfolding is_used
used_linked layer l f g linked c =
    let t : Tables = laws.layer layer.work.header f in
    ap (λ (m : ℕ). nat_lt 0 m || (c % block_span t == 0 && block_place (laws.layer layer.work.header g) (c / block_span t) == 0)) (linked.counts c)
    ∙ ap (λ (m : ℕ). nat_lt 0 (count_of t c) || (c % block_span t == 0 && m == 0)) (linked.blocks (c / block_span t))

module _ (layer : Layer) (l : Linking) (host n : ℕ) (start : File) (d e : Content) (turn : Turn Linking (Unit {0}) (Unit {0})) (b : IsLinkable layer l host start) where
  -- an outcome with the old sectors or the new ones
  either_of : (size : ℕ) (old new : ℕ → List ℕ) (g : File) → IsAsBefore layer (on_medium start) (file_of size old) → IsLinked layer l (on_medium start) (file_of size new)
      → g.size ≡ size → IsEither old new g → IsAsBefore layer (on_medium start) (on_medium g) ⊎ IsLinked layer l (on_medium start) (on_medium g)
  either_of size old new g was is long (inl same) = inl (subst (λ (x : image.File). IsAsBefore layer (on_medium start) x) (sym (ap (λ (s : ℕ → List ℕ). file_of g.size s) same ∙ ap (λ (m : ℕ). file_of m old) long)) was)
  either_of size old new g was is long (inr same) = inr (subst (λ (x : image.File). IsLinked layer l (on_medium start) x) (sym (ap (λ (s : ℕ → List ℕ). file_of g.size s) same ∙ ap (λ (m : ℕ). file_of m new) long)) is)

  size_from : (f : File) → IsAsBefore layer (on_medium start) (on_medium f) → f.size ≡ start.size
  size_from f old = let a = begins.size_of f.size f.stable in let z = begins.size_of start.size start.stable in let s = old.size in omega (arith, a, z, s)

  module _ (at : ℕ) (sector : List ℕ) (has : HasLaid layer l at sector start d) where
    size_is : has.file.size ≡ start.size
    size_is = size_from has.file has.old

    -- whichever of the sectors reached the disk
    written_left : (did : ℕ → Bool) → e.file layer.target.place ≡ Some (wrote did host (at / 512) sector has.file) → IsLeftSo layer l host start e
    written_left did there = record {
      file = wrote did host (at / 512) sector has.file;
      there = there;
      size = size_is;
      either = record {
        alone = alone_writes did host (at / 512) sector has.file (settled_alone host has.file has.settled);
        made = has.settled.fresh;
        each = λ g out. either_of has.file.size has.file.stable (with_sector (at / 512) sector has.file.stable) g has.old has.new out.size
            (subst (λ (x : List ℕ). IsEither has.file.stable (with_sector (at / 512) x has.file.stable) g) (one_sector sector has.long).1
            (either_on_each did host (at / 512) sector has.file has.settled (one_sector sector has.long).0 g out));
      };
    }

    now_there : (did : ℕ → Bool) (f : File) → d.file layer.target.place ≡ Some f → IsPut d layer.target.place (Some (wrote did host (at / 512) sector f)) e
        → e.file layer.target.place ≡ Some (wrote did host (at / 512) sector has.file)
    now_there did f there put =
        put.here ∙ ap (λ (x : File). Some (wrote did host (at / 512) sector x)) (outcomes.one_file f has.file (d.file layer.target.place) there has.there)

    same_left : IsSame d e → IsLeftSo layer l host start e
    same_left same = outcomes.settled_left layer l host start b has.file e (ap (λ (x : Content). x.file layer.target.place) same ∙ has.there) has.settled size_is has.old

    pub write_step : WritesThen l layer host (at / 512) n sector Entered turn d e → LinksOn l layer host start turn e
    write_step (Ok u, is, by) =
        let there = now_there (λ _. true) is.0 is.1 is.3 in
        outcomes.goes_on l layer host start e turn Entered b by (record {
          file = wrote (λ _. true) host (at / 512) sector has.file;
          there = there;
          sectors = has.file.stable;
          sectors' = with_sector (at / 512) sector has.file.stable;
          between = subst (λ (x : List ℕ). IsBetween host has.file.stable (with_sector (at / 512) x has.file.stable) (wrote (λ _. true) host (at / 512) sector has.file)) (one_sector sector has.long).1
              (between_written host (at / 512) sector has.file has.settled (one_sector sector has.long).0);
          size = size_is;
          old = has.old;
          new = has.new;
        }) (written_left (λ _. true) there)
    write_step (Err Failed, inl same, by) = outcomes.faults l layer host n start e turn by (same_left same)
    write_step (Err Failed, inr part, by) = outcomes.faults l layer host n start e turn by (written_left part.3 (now_there part.3 part.0 part.1 part.4))
    write_step (Err NoFile, is, by) = absurd (outcomes.no_file has.file (d.file layer.target.place) is.1 has.there)
    write_step (Err OutOfFile, is, by) =
        let same : is.1.size ≡ has.file.size = ap (λ (x : File). x.size) (outcomes.one_file is.1 has.file (d.file layer.target.place) is.2 has.there) in
        let one = (one_sector sector has.long).0 in
        let low = has.inside in
        let short = is.3 in
        absurd (omega (arith, same, one, low, short))
    write_step (Err Exists, is, by) = absurd is
    write_step (Err NotEmpty, is, by) = absurd is

  module _ (has : HasEntered layer l host start d) where
    entered_left : e.file layer.target.place ≡ Some has.file → IsLeftSo layer l host start e
    entered_left there = record {
      file = has.file;
      there = there;
      size = has.size;
      either = record {
        alone = has.between.alone;
        made = has.between.made;
        each = λ g out. either_of has.file.size has.sectors has.sectors' g has.old has.new out.size (has.between.each g out);
      };
    }

    settled : IsSettled (synced host has.file)
    settled = (between_synced host has.sectors has.sectors' has.file has.between).0

    linked : IsLinked layer l (on_medium start) (on_medium (synced host has.file))
    linked = subst (λ (s : ℕ → List ℕ). IsLinked layer l (on_medium start) (file_of has.file.size s)) (sym (between_synced host has.sectors has.sectors' has.file has.between).1) has.new

    numbers : KnowsNumbers layer (on_medium (synced host has.file))
    numbers =
        let was = begins.numbers layer l host start b in record {
          header = linked.header;
          parent = was.parent ∙ sym linked.parent;
          sound = linked.sound;
          used = λ c lt. was.used c lt ∙ ap not (sym (used_linked layer l (on_medium start) (on_medium (synced host has.file)) linked c));
        }

    knows : KnowsWriter layer host (synced host has.file)
    knows = anew layer layer host start (synced host has.file) b.knows (record { place = refl; greatest = refl; length = refl; mapped = refl; bits = refl }) has.size settled numbers

    final_left : e.file layer.target.place ≡ Some (synced host has.file) → IsLeftSo layer l host start e
    final_left there = record {
      file = synced host has.file;
      there = there;
      size = has.size;
      either = record {
        alone = settled_alone host (synced host has.file) settled;
        made = settled.fresh;
        each = λ g out. inr (subst (λ (x : File). IsLinked layer l (on_medium start) (on_medium x)) (sym (settled_file (synced host has.file) g settled out)) linked);
      };
    }

    pub sync_step : SyncsThen layer host n (Done tt) turn d e → LinksOn l layer host start turn e
    sync_step (Ok u, is, by) =
        let there = is.2.here ∙ ap (λ (x : File). Some (synced host x)) (outcomes.one_file is.0 has.file (d.file layer.target.place) is.1 has.there) in
        outcomes.ends l layer host start e turn by (record { file = synced host has.file; there = there; settled = settled; linked = linked; knows = knows }) (final_left there)
    sync_step (Err Failed, same, by) = outcomes.faults l layer host n start e turn by (entered_left (ap (λ (x : Content). x.file layer.target.place) same ∙ has.there))
    sync_step (Err NoFile, is, by) = absurd (outcomes.no_file has.file (d.file layer.target.place) is.1 has.there)
    sync_step (Err OutOfFile, is, by) = absurd is
    sync_step (Err Exists, is, by) = absurd is
    sync_step (Err NotEmpty, is, by) = absurd is
