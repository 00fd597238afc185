-- What stands at the place of a cluster, sector by sector.
use Rattle.std.proofs.Common.{◌≡◌, ℕ, ◌+◌, ◌*◌, ◌/◌, ◌%◌, ◌^◌, ◌<◌, sym, ap, ap₂, ◌∙◌, arith}
use Rattle.std.specs.Prelude.{slice_index}
use Rattle.std.proofs.lemmas.Nat.{div-add-mod', mod_below}
use Rattle.shared_disk.specs.Content.{File}
use Rattle.shared_disk.specs.WellFormed.{IsWellFormedFile}
use Rattle.image_model.specs.File as image
use Rattle.image_model.specs.File.{sector_in}
use Rattle.qcow_format.specs.declared.header.Header.{Header}
use Rattle.layer_writing.specs.Holding.{on_medium}
use Rattle.own_laws.specs.Sectors.{sector_at}
use Rattle.own_laws.proofs.Bytes.{long_sector, same_sectors}
use Rattle.place_writing.proofs.Pieces.{whole_row}

-- a sector of which each byte is the same
same_sector : (f g : File) (n : ℕ) → IsWellFormedFile f → IsWellFormedFile g → ((j : ℕ) → j < 512 → (on_medium g).byte (512 * n + j) ≡ (on_medium f).byte (512 * n + j))
    → sector_in g.size g.stable n ≡ sector_in f.size f.stable n
unfolding image.file_of
same_sector f g n well also each =
    same_sectors (sector_in g.size g.stable n) (sector_in f.size f.stable n) (long_sector g n also) (long_sector f n well) (λ j low.
    let row : (512 * n + j) / 512 ≡ n = omega (arith, low) in
    let rest : (512 * n + j) % 512 ≡ j = omega (arith, low) in
    sym (ap₂ (λ (a b : ℕ). slice_index (sector_in g.size g.stable a) b) row rest) ∙ each j low ∙ ap₂ (λ (a b : ℕ). slice_index (sector_in f.size f.stable a) b) row rest)

-- so a sector in a cluster of which each byte is
pub sector_stays : (h : Header) (f g : File) (place k : ℕ) → 2 ^ h.cluster_bits % 512 ≡ 0 → 0 < 2 ^ h.cluster_bits → place % 2 ^ h.cluster_bits ≡ 0 → IsWellFormedFile f → IsWellFormedFile g
    → ((offset : ℕ) → offset < 2 ^ h.cluster_bits → (on_medium g).byte (place + offset) ≡ (on_medium f).byte (place + offset))
    → sector_in g.size g.stable (sector_at h place k) ≡ sector_in f.size f.stable (sector_at h place k)
sector_stays h f g place k whole some begins well also each =
    same_sector f g (sector_at h place k) well also (λ j low.
    let at : 512 * sector_at h place k + j ≡ place + (512 * k % 2 ^ h.cluster_bits + j) = let e = even in let r = rest_even in omega (arith, e, r) in
    ap (on_medium g).byte at ∙ each (512 * k % 2 ^ h.cluster_bits + j) (let r = rest_even in let b = below in omega (arith, r, b, whole, low)) ∙ ap (on_medium f).byte (sym at))
  where
    below : 512 * k % 2 ^ h.cluster_bits < 2 ^ h.cluster_bits
    below = mod_below (512 * k) (2 ^ h.cluster_bits) some

    rest_even : 512 * k % 2 ^ h.cluster_bits % 512 ≡ 0
    rest_even =
        let rows = whole_row (512 * k / 2 ^ h.cluster_bits) (2 ^ h.cluster_bits) whole in
        let parts = div-add-mod' (512 * k) (2 ^ h.cluster_bits) in
        omega (arith, rows, parts)

    even : place % 512 ≡ 0
    even =
        let rows = whole_row (place / 2 ^ h.cluster_bits) (2 ^ h.cluster_bits) whole in
        let parts = div-add-mod' place (2 ^ h.cluster_bits) in
        omega (arith, rows, parts, begins)
