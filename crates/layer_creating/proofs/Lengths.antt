-- The sectors of a new layer's file have 512 bytes.
use Rattle.std.proofs.Common.{◌≡◌, ℕ, ◌≤◌, Bool, true, false, List, ◌++◌, length, replicate, Option, Some, None, ◌∙◌, arith, nat_lt}
use Rattle.std.specs.Prelude.{◌==◌, if◌then◌else◌}
use Rattle.std.proofs.lemmas.List.{length-replicate}
use Rattle.sd_names.specs.Id.{id_text}
use Rattle.sd_names.proofs.IdLemmas.{id_text-length}
use Rattle.qcow_format.specs.Bytes.{bytes_of}
use Rattle.qcow_format.specs.Written.{format_bytes, put_fields}
use Rattle.qcow_format.proofs.Again.{length-put_fields}
use Rattle.qcow_format.proofs.Put.{length-format_bytes, length-put}
use Rattle.shared_disk.specs.Content.{zero_sector}
use Rattle.image_model.specs.File.{sector_in}
use Rattle.layer_creating.specs.New.{beginning, block_sector, header_sector, name_sector, new_header, new_sector, table_sector}
use Rattle.layer_creating.specs.declared.backing.Backing.{Backing}

pub beginning_long : (bytes : List ℕ) → length bytes ≤ 512 → length (beginning bytes) ≡ 512
unfolding zero_sector
beginning_long bytes fits = length-put 0 bytes (replicate 512 0) (omega (arith, fits, zeros)) ∙ zeros
  where
    zeros : length (replicate {A = ℕ} 512 0) ≡ 512
    zeros = length-replicate {A = ℕ} 512 0

pub block_long : length block_sector ≡ 512
unfolding bytes_of
block_long = beginning_long (bytes_of 2 1 ++ (bytes_of 2 1 ++ (bytes_of 2 1 ++ bytes_of 2 1))) (omega arith)

pub table_long : length table_sector ≡ 512
unfolding bytes_of
table_long = beginning_long (bytes_of 8 131_072) (omega arith)

pub name_long : (backing : Backing) → length (name_sector (Some backing)) ≡ 512
name_long backing = beginning_long (id_text backing.parent.0) (omega (arith, id_text-length backing.parent.0))

pub header_long : (capacity : ℕ) (backing : Option Backing) → length (header_sector capacity backing) ≡ 512
unfolding zero_sector
header_long capacity None = length-put_fields (new_header capacity None) (replicate 512 0) (omega (arith, length-replicate {A = ℕ} 512 0)) ∙ length-replicate {A = ℕ} 512 0
header_long capacity (Some backing) =
    let fields = length-put_fields (new_header capacity (Some backing)) (replicate 512 0) (omega (arith, length-replicate {A = ℕ} 512 0)) ∙ length-replicate {A = ℕ} 512 0 in
    length-put 104 (format_bytes backing.format) (put_fields (new_header capacity (Some backing)) (replicate 512 0)) (omega (arith, fields, length-format_bytes backing.format)) ∙ fields

named_long : (backing : Option Backing) → length (name_sector backing) ≡ 512
unfolding zero_sector
named_long None = length-replicate {A = ℕ} 512 0
named_long (Some backing) = name_long backing

pub sector_long : (capacity n k : ℕ) (backing : Option Backing) → length (sector_in n (new_sector capacity backing) k) ≡ 512
unfolding new_sector zero_sector
sector_long capacity n k backing = outer (nat_lt k n)
  where
    zeros : length (replicate {A = ℕ} 512 0) ≡ 512
    zeros = length-replicate {A = ℕ} 512 0

    inner : (a b c d : Bool)
        → length (if a then header_sector capacity backing else if b then name_sector backing else if c then table_sector else if d then block_sector else replicate 512 0) ≡ 512
    inner true b c d = header_long capacity backing
    inner false true c d = named_long backing
    inner false false true d = table_long
    inner false false false true = block_long
    inner false false false false = zeros

    outer : (b : Bool) → length (if b then new_sector capacity backing k else replicate 512 0) ≡ 512
    outer true = inner (k == 0) (k == 126) (k == 128) (k == 256)
    outer false = zeros
