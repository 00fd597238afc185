-- Where the counts begin, and the sectors that they read.
use Rattle.std.proofs.Common.{◌≡◌, ℕ, ◌+◌, ◌*◌, ◌/◌, ◌%◌, Bool, List, Some, sym, ap, ◌∙◌, subst, arith}
use Rattle.std.proofs.Math.Nat.{mul-mod_left}
use Rattle.qcow_format.specs.Bytes.{number}
use Rattle.qcow_format.specs.declared.header.Header.{Header}
use Rattle.image_model.specs.File.{File, file_of, sector_in}
use Rattle.image_model.specs.Layer.{block_word}
use Rattle.layer_walk.specs.Counting.{IsCounting, IsSector, counts_in, wanted_place}
use Rattle.layer_walk.specs.declared.count.Count.{Count}
use Rattle.layer_walk.specs.declared.count.Count.TheVariants.{Block, Row}
use Rattle.layer_walk.specs.declared.marks.Marks.{Marks}

-- the numbers of a sector stand in the file
pub sector_numbers : (count place : ℕ) (sectors : ℕ → List ℕ) (sector : List ℕ) → place % 512 ≡ 0 → sector ≡ sector_in count sectors (place / 512) → IsSector (file_of count sectors) place sector
unfolding file_of
sector_numbers count place sectors sector even is = record {
  words = λ j lt.
      let low : (place / 8 + j) % 64 * 8 ≡ 8 * j = omega (arith, even, lt) in
      let high : (place / 8 + j) / 64 ≡ place / 512 = omega (arith, even, lt) in
      sym (ap (λ n. number 8 n (sector_in count sectors ((place / 8 + j) / 64))) low ∙ ap (λ n. number 8 (8 * j) (sector_in count sectors n)) high ∙ ap (number 8 (8 * j)) (sym is));
  halves = λ j lt.
      let low : (place / 2 + j) % 256 * 2 ≡ j * 2 = omega (arith, even, lt) in
      let high : (place / 2 + j) / 256 ≡ place / 512 = omega (arith, even, lt) in
      sym (ap (λ n. number 2 n (sector_in count sectors ((place / 2 + j) / 256))) low ∙ ap (λ n. number 2 (j * 2) (sector_in count sectors n)) high ∙ ap (number 2 (j * 2)) (sym is));
}

-- a sector that is wanted begins where one of the file's does
pub wanted_whole : (header : Header) (file : File) (room : ℕ) (named : ℕ → Bool) (m : Marks) (count : Count) → header.refcount_table_offset % 512 ≡ 0
    → IsCounting (counts_in header file) room named m (Some count) → wanted_place header count % 512 ≡ 0
wanted_whole header file room named m (Row k) even at = row_whole header.refcount_table_offset k even at.whole
  where
    row_whole : (o k : ℕ) → o % 512 ≡ 0 → k % 64 ≡ 0 → (o + 8 * k) % 512 ≡ 0
    row_whole o k e f = omega (arith, e, f)
wanted_whole header file room named m (Block spot) even at =
    block_whole spot.place spot.part (subst (λ n. n % 512 ≡ 0) at.block (mul-mod_left (block_word (counts_in header file) spot.entry / 512) 512))
  where
    block_whole : (p s : ℕ) → p % 512 ≡ 0 → (p + 512 * s) % 512 ≡ 0
    block_whole p s e = omega (arith, e)
