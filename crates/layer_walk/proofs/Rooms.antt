-- The room of a map.
use Rattle.std.proofs.Common.{◌≡◌, ℕ, ◌*◌, ◌<◌, ◌≤◌, arith}
use Rattle.std.specs.Int.{div_ceil}
use Rattle.std.proofs.lemmas.Grind.{div_ceil_times}
use Rattle.std.proofs.Math.Nat.{mul-le-mul_right}
use Rattle.layer_walk.specs.Marks.{map_size}

-- whole sectors of counts are whole words
pub whole_words : (x : ℕ) → 64 * div_ceil (x * 256) 64 ≡ x * 256
whole_words x = let times = div_ceil_times (x * 256) 64 (omega arith) in omega (arith, times.0, times.1)

-- the map has a bit for each cluster
pub map_enough : (bytes cluster : ℕ) → 0 < cluster → bytes ≤ map_size bytes cluster * cluster
map_enough bytes cluster pos =
    let times = div_ceil_times bytes cluster pos in
    let sectors = div_ceil_times (div_ceil bytes cluster) 256 (omega arith) in
    let more : div_ceil bytes cluster * cluster ≤ map_size bytes cluster * cluster = mul-le-mul_right cluster sectors.0 in
    omega (arith, times.0, more)
