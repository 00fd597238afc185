-- Where an entry of the L1 table stands, and the word that a sector has.
use Rattle.std.proofs.Common.{◌≡◌, ℕ, ◌+◌, ◌-◌, ◌*◌, ◌/◌, ◌%◌, ◌^◌, ◌<◌, ◌≤◌, List, sym, ap, ◌∙◌, arith}
use Rattle.std.proofs.lemmas.Nat.{pow_pos}
use Rattle.qcow_format.specs.Bytes.{number}
use Rattle.image_model.specs.File.{file_of, sector_in}
use Rattle.image_model.specs.Layer.{Tables, cluster_size, l1_at, l1_clusters}
use Rattle.image_model.specs.Soundness.{IsClean, Item, item}
use Rattle.layer_walk.proofs.Admit.{inside}
use Rattle.layer_walk.proofs.Places.{item_l1_cluster}
use Rattle.layer_walk.proofs.Sizes.{last_end, rounded, some_row}

pub l1_low : (t : Tables) (capacity i : ℕ) → ((k : ℕ) → k < l1_clusters t → IsClean t capacity (1 + k)) → t.header.cluster_bits ≤ 21
    → t.header.l1_table_offset % cluster_size t ≡ 0 → t.file.size < 2 ^ 64 → i < t.header.l1_size → l1_at t i + 8 ≤ 2 ^ 64
l1_low t capacity i known small even fits lt =
    let full : 8 * t.header.l1_size ≤ l1_clusters t * cluster_size t = rounded (8 * t.header.l1_size) (cluster_size t) (pow_pos t.header.cluster_bits) in
    let some : 0 < l1_clusters t = some_row (8 * t.header.l1_size) (l1_clusters t) (cluster_size t) i full (omega (arith, lt)) in
    let k : ℕ = l1_clusters t - 1 in
    let clean = known k (omega (arith, some)) in
    let is = item_l1_cluster t capacity k (omega (arith, some)) in
    let within : t.header.l1_table_offset + k * cluster_size t < t.file.size = inside t.file.size (item t capacity (1 + k)) _ clean.fine (ap (λ (x : Item). x.name) is) in
    let end = last_end t.header.cluster_bits t.header.l1_table_offset (l1_clusters t) 64 some even (omega (arith, small)) (omega (arith, within, fits)) in
    omega (arith, end, full, lt)

-- the word at a place, which its sector has
pub word_of_sector : (count : ℕ) (sectors : ℕ → List ℕ) (place at : ℕ) (sector : List ℕ) → place % 8 ≡ 0 → at ≡ place → sector ≡ sector_in count sectors (at / 512 * 512 / 512)
    → (file_of count sectors).word (place / 8) ≡ number 8 (8 * (at % 512 / 8)) sector
unfolding file_of
word_of_sector count sectors place at sector even same is =
    let low : place / 8 % 64 * 8 ≡ 8 * (at % 512 / 8) = omega (arith, even, same) in
    let high : place / 8 / 64 ≡ at / 512 * 512 / 512 = omega (arith, even, same) in
    ap (λ n. number 8 n (sector_in count sectors (place / 8 / 64))) low ∙ ap (λ n. number 8 (8 * (at % 512 / 8)) (sector_in count sectors n)) high ∙ ap (number 8 (8 * (at % 512 / 8))) (sym is)
