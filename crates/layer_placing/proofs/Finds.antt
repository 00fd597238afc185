-- Reading the entry of a range, and a sector of counts.
use Rattle.std.proofs.Common.{◌≡◌, ◌≢◌, ℕ, ◌+◌, ◌-◌, ◌*◌, ◌/◌, ◌%◌, ◌^◌, ◌<◌, ◌≤◌, min, List, Some, sym, ap, ◌∙◌, subst, arith, refl}
use Rattle.std.proofs.Math.Nat.{mod-lt}
use Rattle.sd_names.specs.declared.turn.Turn.TheVariants.{More}
use Rattle.shared_disk.specs.Calls.{IsSame}
use Rattle.shared_disk.specs.Content.{Content, File, seen}
use Rattle.qcow_format.specs.Bytes.{number}
use Rattle.image_model.specs.File.{sector_in}
use Rattle.image_model.specs.Layer.{Tables, block_at, block_place, block_word}
use Rattle.layer_laws.specs.Laws as laws
use Rattle.layer_laws.proofs.Numbers.{cluster_sectors, whole_sector}
use Rattle.qcow_layer.specs.Seen.{IsSeen}
use Rattle.qcow_layer.specs.declared.layer.Layer.{Layer}
use Rattle.qcow_layer.proofs.Knowing.{in_file}
use Rattle.layer_writing.specs.Holding.{as_seen}
use Rattle.layer_writing.specs.Writer.{KnowsWriter}
use Rattle.layer_writing.proofs.Known.{comes_itself}
use Rattle.layer_placing.specs.Knows.{IsChoice, chosen_in, HasBlock, KnowsIn, Ready, StepsIn, count_sector, range_of}
use Rattle.layer_placing.specs.Stages.{IsRaised, RaisesTo, current_of, entry_place_of, span_of}
use Rattle.layer_placing.specs.declared.stage.Stage.{Stage}
use Rattle.layer_placing.specs.declared.stage.Stage.TheVariants.{Counting, Finding, Raising, Zeroing}
use Rattle.layer_placing.specs.declared.stage.Work.{Work}
use Rattle.layer_placing.specs.declared.stage.Raise.{Raise}
use Rattle.layer_placing.proofs.Ends.{same_put, stay_known}
use Rattle.layer_placing.proofs.Widths.{wide}
use Rattle.layer_placing.proofs.Tables.{block_inside, block_whole, entry_inside, word_read}

-- what the host sees of a known file
pub seen_file : (l : Layer) (host : ℕ) (f : File) (d : Content) → d.file l.target.place ≡ Some f → KnowsWriter l host f → IsSeen host l.target.place f.size (seen host f) d
seen_file l host f d there knows = record {
  file = f;
  there = there;
  long = omega arith;
  alone = knows.knows.alone.loose;
  same = λ k lt. sym (in_file f.size k (seen host f) lt);
}

-- a step that read, and goes on
pub reads_on : (l : Layer) (host faults : ℕ) (stage next : Stage) (f : File) (d e : Content) → d.file l.target.place ≡ Some f → IsSame d e → KnowsWriter l host f → KnowsIn l host f next → IsChoice l host f stage (chosen_in next)
    → StepsIn l l host faults stage (More next) f d e
reads_on l host faults stage next f d e there same writer knows choice = record {
  now = f;
  put = same_put d e l.target.place f same there;
  comes = comes_itself l.work.header l.target.capacity f;
  after = (knows, choice);
  spare = stay_known l l host f f writer (λ place is. is) (λ i lt. refl);
}

module _ (l : Layer) (host : ℕ) (f : File) (w : Work) (ready : Ready l host f w) where
  abbrev T : Tables
  T = laws.layer l.work.header (as_seen host f)

  abbrev k : ℕ
  k = range_of l w

  -- the entry of the next cluster's range lies in the file
  pub entry_fits : block_at T k + 8 ≤ 512 * f.size
  entry_fits = entry_inside l.work.header l.target.capacity f.size (seen host f) ready.writer.knows.numbers.header ready.writer.knows.numbers.sound ready.writer.whole k (ready.serves.counted w.done w.more)

  pub entry_at_is : entry_place_of l (current_of w) ≡ block_at T k
  entry_at_is = omega (arith, entry_fits, ready.writer.knows.fits)

  pub entry_sector : entry_place_of l (current_of w) / 512 < f.size
  entry_sector = omega (arith, entry_fits, entry_at_is)

  pub entry_word : block_word T k ≡ number 8 (8 * (entry_place_of l (current_of w) % 512 / 8)) (seen host f (entry_place_of l (current_of w) / 512))
  entry_word =
      word_read l.work.header l.target.capacity f.size (seen host f) ready.writer.knows.numbers.header ready.writer.knows.numbers.sound ready.writer.whole k (ready.serves.counted w.done w.more)
      ∙ ap (λ a. number 8 (8 * (a % 512 / 8)) (sector_in f.size (seen host f) (a / 512))) (sym entry_at_is)
      ∙ ap (number 8 (8 * (entry_place_of l (current_of w) % 512 / 8))) (in_file f.size (entry_place_of l (current_of w) / 512) (seen host f) entry_sector)

  module _ (faults at : ℕ) (d e : Content) (table : List ℕ) (there : d.file l.target.place ≡ Some f) (same : IsSame d e) (is : at ≡ entry_place_of l (current_of w))
      (read : (count : ℕ) (sectors : ℕ → List ℕ) → IsSeen host l.target.place count sectors d → table ≡ sector_in count sectors (at / 512 * 512 / 512)) where
    table_is : table ≡ seen host f (entry_place_of l (current_of w) / 512)
    table_is =
        let whole : at / 512 * 512 / 512 ≡ entry_place_of l (current_of w) / 512 = omega (arith, is) in
        read f.size (seen host f) (seen_file l host f d there ready.writer) ∙ ap (sector_in f.size (seen host f)) whole
        ∙ in_file f.size (entry_place_of l (current_of w) / 512) (seen host f) entry_sector

    block_is : number 8 (8 * (at % 512 / 8)) table / 512 * 512 ≡ block_place T k
    block_is =
        ap (λ a. number 8 (8 * (a % 512 / 8)) table / 512 * 512) is
        ∙ ap (λ x. number 8 (8 * (entry_place_of l (current_of w) % 512 / 8)) x / 512 * 512) table_is ∙ sym (ap (λ x. x / 512 * 512) entry_word)

    pub lacks : (word : ℕ) → word ≡ number 8 (8 * (at % 512 / 8)) table → word / 512 * 512 ≡ 0 → StepsIn l l host faults (Finding w) (More (Zeroing w table 0)) f d e
    lacks word value zero = reads_on l host faults (Finding w) (Zeroing w table 0) f d e there same ready.writer (
      record {
        ready = ready;
        none = sym block_is ∙ sym (ap (λ x. x / 512 * 512) value) ∙ zero;
        entry = table_is;
        written = λ i m lt low. absurd (omega (arith, lt));
      },
      some_width (2 ^ l.work.header.cluster_bits) (wide l.work.header.cluster_bits l.work.low),
    ) tt
      where
        some_width : (c : ℕ) → 4096 ≤ c → 0 * min c 65536 < c
        some_width c le = omega (arith, le)

    pub has : (word : ℕ) → word ≡ number 8 (8 * (at % 512 / 8)) table → word / 512 * 512 ≢ 0 → StepsIn l l host faults (Finding w) (More (Counting w (word / 512 * 512))) f d e
    has word value some = reads_on l host faults (Finding w) (Counting w (word / 512 * 512)) f d e there same ready.writer (record {
      ready = ready;
      place = sym block_is ∙ sym (ap (λ x. x / 512 * 512) value);
      there = some;
    }) tt

-- ---- a sector of counts

module _ (l : Layer) (host : ℕ) (f : File) (w : Work) (block : ℕ) (has : HasBlock l host f w block) where
  abbrev c : ℕ
  c = 2 ^ l.work.header.cluster_bits

  abbrev j : ℕ
  j = current_of w % span_of l

  there' : block_place (laws.layer l.work.header (as_seen host f)) (range_of l w) ≢ 0
  there' e = has.there (sym has.place ∙ e)

  pub fits_block : block + c ≤ 512 * f.size
  fits_block = subst (λ b. b + c ≤ 512 * f.size) has.place
      (block_inside l.work.header l.target.capacity f.size (seen host f) has.ready.writer.knows.numbers.header has.ready.writer.knows.numbers.sound has.ready.writer.whole (range_of l w) there')

  pub whole_block : block % c ≡ 0
  whole_block = subst (λ b. b % c ≡ 0) has.place
      (block_whole l.work.header l.target.capacity f.size (seen host f) has.ready.writer.knows.numbers.header has.ready.writer.knows.numbers.sound has.ready.writer.whole (range_of l w) there')

  pub width_is : c ≡ 512 * 2 ^ (l.work.header.cluster_bits - 9)
  width_is = cluster_sectors l.work.header.cluster_bits l.work.low

  pub sector_block : block % 512 ≡ 0
  sector_block = whole_sector block c (2 ^ (l.work.header.cluster_bits - 9)) width_is whole_block

  pub column_low : j < c / 2
  column_low = mod-lt (current_of w) (half c (wide l.work.header.cluster_bits l.work.low))
    where
      half : (c : ℕ) → 4096 ≤ c → 0 < c / 2
      half c le = omega (arith, le)

  pub count_at : min (block + 2 * j) (2 ^ 64 - 1) / 512 * 512 ≡ 512 * count_sector l w block
  count_at = go block j c fits_block column_low sector_block has.ready.writer.knows.fits
    where
      go : (p j c : ℕ) → p + c ≤ 512 * f.size → j < c / 2 → p % 512 ≡ 0 → 512 * f.size < 2 ^ 64 → min (p + 2 * j) (2 ^ 64 - 1) / 512 * 512 ≡ 512 * ((p / 2 + j) / 256)
      go p j c inside lt even fits = omega (arith, inside, lt, even, fits)

  pub count_inside : count_sector l w block < f.size
  count_inside = go block j c fits_block column_low sector_block
    where
      go : (p j c : ℕ) → p + c ≤ 512 * f.size → j < c / 2 → p % 512 ≡ 0 → (p / 2 + j) / 256 < f.size
      go p j c inside lt even = omega (arith, inside, lt, even)

pub counts_known : (l : Layer) (host faults : ℕ) (f : File) (r : Raise) (block : ℕ) (d e : Content) (sector : List ℕ) → HasBlock l host f r.work block → d.file l.target.place ≡ Some f → IsSame d e
    → r.at ≡ min (block + 2 * (current_of r.work % span_of l)) (2 ^ 64 - 1) / 512 * 512
    → ((count : ℕ) (sectors : ℕ → List ℕ) → IsSeen host l.target.place count sectors d → sector ≡ sector_in count sectors (r.at / 512))
    → IsRaised r.work sector r.counts r.upto → StepsIn l l host faults (Counting r.work block) (More (Raising r)) f d e
counts_known l host faults f r block d e sector has there same at read raised =
    let place : r.at ≡ 512 * count_sector l r.work block = at ∙ count_at l host f r.work block has in
    let inside : r.at / 512 < f.size = omega (arith, place, count_inside l host f r.work block has) in
    let is : sector ≡ seen host f (r.at / 512) = read f.size (seen host f) (seen_file l host f d there has.ready.writer) ∙ in_file f.size (r.at / 512) (seen host f) inside in
    reads_on l host faults (Counting r.work block) (Raising r) f d e there same has.ready.writer (record {
      block = block;
      has = has;
      at = place;
      raises = subst (λ (x : List ℕ). RaisesTo r.work x r.counts r.upto) is raised.raises;
    }) tt
