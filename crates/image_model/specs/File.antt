-- A file as its numbers say it. Bytes past its end read as zeros.
use Rattle.std.specs.Prelude.{ℕ, ◌*◌, ◌/◌, ◌%◌, nat_lt, if◌then◌else◌, List, slice_index, replicate}
use Rattle.std.specs.List.{flat_map, range_with_len}
use Rattle.qcow_format.specs.Bytes.{number}

-- the size in bytes, the first 65,536 bytes, and by index the bytes and the numbers of 2 and of 8 bytes
pub record File : Type 0 where
  pub size : ℕ
  pub head : List ℕ
  pub byte : ℕ → ℕ
  pub half : ℕ → ℕ
  pub word : ℕ → ℕ

-- a sector of a file of `sectors` sectors
abbrev pub sector_in : ℕ → (ℕ → List ℕ) → ℕ → List ℕ
sector_in sectors sector k = if nat_lt k sectors then sector k else replicate 512 0

-- the file of a number of sectors with these bytes: a stable file, an outcome, or what a host sees
unfoldable pub file_of : ℕ → (ℕ → List ℕ) → File
file_of sectors sector = record {
  size = 512 * sectors;
  head = flat_map (sector_in sectors sector) (range_with_len 0 128);
  byte = λ k. slice_index (sector_in sectors sector (k / 512)) (k % 512);
  half = λ k. number 2 (k % 256 * 2) (sector_in sectors sector (k / 256));
  word = λ k. number 8 (k % 64 * 8) (sector_in sectors sector (k / 64));
}
