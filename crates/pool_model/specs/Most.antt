-- The bound on the steps of a verb, by what it finds on the disk.
-- Claim: a verb has had at most so many steps while it runs, so that it ends, also where hosts crash between.
use Rattle.std.specs.Prelude.{ℕ, ◌+◌, ◌-◌, ◌*◌, ◌/◌, ◌≤◌, List, [], ◌∷◌, length, map, Option, Some, None}
use Rattle.std.specs.List.{sum}
use Rattle.sd_names.specs.declared.id.Id.{Id}
use Rattle.pool_model.specs.Pool.{Pool}
use Rattle.pool_model.specs.Sizes.{Sizes}
use Rattle.pool_model.specs.State.{Kept}
use Rattle.pool_model.specs.Verb.{Verb}
use Rattle.pool_model.specs.Verb as verb

-- how often other hosts have taken the image's sector since the verb began
abbrev pub takes_since : ℕ → Kept → Pool → Id → Id → ℕ
takes_since h k p sd i = p.history.foreign sd i h - k.foreign sd i

-- ---- pieces of 65,536 bytes, and clusters

abbrev pub pieces : ℕ → ℕ
pieces count = (count + 65535) / 65536

-- pieces in a cluster; one for a raw volume
abbrev pub pieces_in : Option ℕ → ℕ
pieces_in None = 1
pieces_in (Some cluster) = pieces cluster

-- clusters that a range meets; pieces for a raw volume
abbrev pub met : Option ℕ → ℕ → ℕ → ℕ
met None at count = pieces count
met (Some cluster) at count = (at + count + (cluster - 1)) / cluster - at / cluster

-- the bytes of the range once it is widened to whole clusters
abbrev pub widened : Option ℕ → ℕ → ℕ → ℕ
widened None at count = count
widened (Some cluster) at count = met (Some cluster) at count * cluster

abbrev pub widened_at : Option ℕ → ℕ → ℕ
widened_at None at = at
widened_at (Some cluster) at = at / cluster * cluster

-- ---- the bounds

abbrev pub most_lease : ℕ → ℕ
most_lease takes = 48 + 12 * takes

abbrev pub most_open : Sizes → ℕ
most_open s = 64 + 4 * s.names + 32 * s.volumes + 2 * s.tables

-- along the path
abbrev pub most_read : List (Option ℕ) → ℕ → ℕ → ℕ
most_read path at count = 16 + sum (map (λ c. (met c at count + pieces count) * (4 + pieces_in c)) path)

-- the reading volume is the first of the path
abbrev pub most_write : List (Option ℕ) → ℕ → ℕ → ℕ
most_write [] at count = 64
most_write (c ∷ path) at count =
    64 + met c at count * (32 + 4 * pieces_in c) + most_read (c ∷ path) (widened_at c at) (widened c at count)

abbrev pub most_recovery : Sizes → ℕ
most_recovery s =
    128 + 4 * s.tasks + 32 * s.domains + sum (map (λ n. 8 + 4 * n) s.held) + sum (map (λ n. 128 + n) s.open_steps)

-- The steps that a running verb of a host has had are within its bound. A verb that isn't built has none.
abbrev pub WithinMost : ℕ → Verb → Kept → Pool → ℕ → Type 0
WithinMost h (verb.make_pool pool sd version text) k p n = n ≤ 256 + 4 * k.sizes.folders
WithinMost h (verb.spm_start sd prev lver) k p n = n ≤ 64 + most_recovery k.sizes
WithinMost h verb.spm_stop k p n = n ≤ 32 + 4 * k.sizes.tasks
WithinMost h (verb.create t sd i v format kind capacity text) k p n = n ≤ most_lease (takes_since h k p sd i) + 256
WithinMost h (verb.delete_image t sd i) k p n = n ≤ most_lease (takes_since h k p sd i) + 128 + 4 * k.sizes.names
WithinMost h (verb.open_image sd i) k p n = n ≤ most_lease (takes_since h k p sd i) + most_open k.sizes
WithinMost h (verb.close_image sd i) k p n = n ≤ 32 + 4 * k.sizes.names
WithinMost h (verb.read sd i at count) k p n = n ≤ most_read k.sizes.path at count
WithinMost h (verb.write sd i at bytes) k p n = n ≤ most_write k.sizes.path at (length bytes)
WithinMost h verb.tasks k p n = n ≤ 32 + 4 * k.sizes.tasks
WithinMost h (verb.clear_task t) k p n = n ≤ 32 + 4 * k.sizes.tasks
WithinMost h verb.recover k p n = n ≤ most_recovery k.sizes
WithinMost h _ k p n = ⊥
