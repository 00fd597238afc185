-- What a writer knows whatever others do.
use Rattle.std.proofs.Common.{◌≡◌, ◌≢◌, ℕ, ◌*◌, ◌%◌, ◌^◌, ◌<◌, ◌≤◌, Bool, true, false, List, Contains, Some, Ok, refl, sym, ap, ◌∙◌, subst, arith, nat_lt}
use Rattle.std.specs.Prelude.{if◌then◌else◌}
use Rattle.std.proofs.lemmas.Bool.Decides.{nat_tests}
use Rattle.shared_disk.specs.Changes.{grown, raised}
use Rattle.shared_disk.specs.Content.{Content, File, Loose, seen}
use Rattle.shared_disk.specs.Crash.{DownLeaves, IsFileOutcome}
use Rattle.shared_disk.specs.SectorCalls.{IsGrown}
use Rattle.shared_disk.specs.WellFormed.{IsWellFormed}
use Rattle.shared_disk.proofs.Toolkit.{down_leaves_file}
use Rattle.qcow_format.specs.Name.{backing_id}
use Rattle.qcow_format.specs.declared.header.Header.{Header}
use Rattle.image_model.specs.File.{file_of, sector_in}
use Rattle.image_model.specs.Soundness.{IsSound, layer_header}
use Rattle.image_model.proofs.Longer.{longer_head}
use Rattle.layer_laws.proofs.Grows as laws
use Rattle.layer_walk.proofs.Numbers.{past_end}
use Rattle.qcow_layer.specs.declared.layer.Layer.{Layer}
use Rattle.qcow_layer.proofs.Knowing.{before, before_outcome, in_file, others_settled, outcome_raised, raised_known, seen_raised}
use Rattle.qcow_layer.proofs.Pieces.{same_file}
use Rattle.layer_writing.specs.Holding.{IsLike, as_seen, on_medium}
use Rattle.layer_writing.specs.Writer.{KnowsWriter, KnowsWriterOn}
use Rattle.layer_writing.proofs.Likes.{like_back, like_through}

pub writer_untouched : (l : Layer) (host : ℕ) (d e : Content) → e.file l.target.place ≡ d.file l.target.place → KnowsWriterOn l host d → KnowsWriterOn l host e
writer_untouched l host d e same knows = record { file = knows.file; there = same ∙ knows.there; knows = knows.knows }

pub writer_down : (l : Layer) (host other : ℕ) (d e : Content) → host ≢ other → DownLeaves d other e → KnowsWriterOn l host d → KnowsWriterOn l host e
writer_down l host other d e apart down knows = record {
  file = knows.file;
  there = down_leaves_file d e other l.target.place knows.file down knows.there (others_settled host other knows.file apart knows.knows.knows.alone knows.knows.knows.made);
  knows = knows.knows;
}

-- ---- a longer file

-- a file that became longer, with zeros behind what it held, is the same layer
longer_like : (h : Header) (capacity n m : ℕ) (s r : ℕ → List ℕ) → layer_header (file_of n s) capacity ≡ Ok h → IsSound (file_of n s) capacity → n ≤ m → ((k : ℕ) → sector_in m r k ≡ sector_in n s k)
    → IsLike h capacity (file_of n s) (file_of m r)
longer_like h capacity n m s r is sound le same = record {
  same = (laws.grown n m capacity s r h is sound le
      (λ k lt. sym (in_file m k r (omega (arith, lt, le))) ∙ same k ∙ in_file n k s lt)
      (λ k low lt. sym (in_file m k r lt) ∙ same k ∙ past_end n k s low)).same;
  parent = ap (backing_id h) (longer_head n m s r same);
}

module _ (l : Layer) (host size : ℕ) (f : File) (within : (x : Loose) → Contains f.loose x → x.sector < f.size) (longer : f.size < size) (fits : 512 * size < 2 ^ 64) (whole : 512 * size % 2 ^ l.work.header.cluster_bits ≡ 0)
    (knows : KnowsWriter l host f) where
  like_seen : IsLike l.work.header l.target.capacity (as_seen host f) (as_seen host (raised size f))
  like_seen = longer_like l.work.header l.target.capacity f.size size (seen host f) (seen host (raised size f)) knows.knows.numbers.header knows.knows.numbers.sound (omega (arith, longer))
      (seen_raised l host size f within longer fits knows.knows)

  each_like : (g : File) (out : IsFileOutcome (raised size f) g) → IsLike l.work.header l.target.capacity (as_seen host f) (on_medium (before l host size f within longer fits knows.knows g))
      → IsLike l.work.header l.target.capacity (as_seen host (raised size f)) (on_medium g)
  unfolding before
  each_like g out like =
      like_through l.work.header l.target.capacity (as_seen host (raised size f)) (as_seen host f) (on_medium g)
      (like_back l.work.header l.target.capacity (as_seen host f) (as_seen host (raised size f)) knows.knows.numbers.header knows.knows.numbers.sound like_seen)
      (like_through l.work.header l.target.capacity (as_seen host f) (on_medium (before l host size f within longer fits knows.knows g)) (on_medium g) like
      (subst (λ n. IsLike l.work.header l.target.capacity (on_medium (before l host size f within longer fits knows.knows g)) (file_of n g.stable)) (sym out.size)
      (longer_like l.work.header l.target.capacity f.size size (before l host size f within longer fits knows.knows g).stable g.stable like.same.header like.same.sound (omega (arith, longer))
      (outcome_raised l host size f within longer fits knows.knows g out))))

  writer_raised : KnowsWriter l host (raised size f)
  writer_raised = record {
    knows = raised_known l host size f within longer fits knows.knows;
    whole = whole;
    each = λ g out. each_like g out (knows.each (before l host size f within longer fits knows.knows g) (before_outcome l host size f within longer fits knows.knows g out));
  }

pub writer_grown : (l : Layer) (host size : ℕ) (d e : Content) → IsWellFormed d → 512 * size < 2 ^ 64 → 512 * size % 2 ^ l.work.header.cluster_bits ≡ 0 → IsGrown d l.target.place size e → KnowsWriterOn l host d → KnowsWriterOn l host e
writer_grown l host size d e formed fits whole grows knows =
    let same : grows.0 ≡ knows.file = same_file d l.target.place knows.file grows.0 knows.there grows.1 in
    record { file = grown size knows.file; there = grows.2.here ∙ ap (λ (f : File). Some (grown size f)) same; knows = go (nat_lt knows.file.size size) refl }
  where
    low : nat_lt knows.file.size size ≡ true → knows.file.size < size
    low e = grind (arith, nat_tests)

    within : (x : Loose) → Contains knows.file.loose x → x.sector < knows.file.size
    within x in_loose = ((formed.files l.target.place knows.file knows.there).loose x in_loose).within

    go : (b : Bool) → nat_lt knows.file.size size ≡ b → KnowsWriter l host (if b then raised size knows.file else knows.file)
    go true e = writer_raised l host size knows.file within (low e) fits whole knows.knows
    go false e = knows.knows
