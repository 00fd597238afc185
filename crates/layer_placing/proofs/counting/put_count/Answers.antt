use Rattle.std.proofs.Common.{ℕ, ◌≡◌, ◌≢◌, ◌⊎◌, inl, inr, ◌*◌, ◌<◌, ◌≤◌, List, length, ap, ◌∙◌, arith}
use Rattle.std.proofs.lemmas.Bool.{cases_lt}
use Rattle.qcow_format.specs.Bytes.{bytes_of, number, put}
use Rattle.qcow_format.proofs.Put.{length-bytes_of, number-put_before, number-put_behind, number-put_same}
use Rattle.layer_placing.proofs.counting.put_count.Goals as goal

other : (m i : ℕ) (s : List ℕ) → length s ≡ 512 → m < 256 → i < 256 → m ≢ i → number 2 (m * 2) (put (i * 2) (bytes_of 2 1) s) ≡ number 2 (m * 2) s
other m i s long lt in_sector ne = go (cases_lt m i)
  where
    go : (m < i) ⊎ (i ≤ m) → number 2 (m * 2) (put (i * 2) (bytes_of 2 1) s) ≡ number 2 (m * 2) s
    go (inl low) = number-put_before 2 (m * 2) (i * 2) (bytes_of 2 1) s (omega (arith, long, in_sector)) (omega (arith, low))
    go (inr high) = number-put_behind 2 (m * 2) (i * 2) (bytes_of 2 1) s (omega (arith, long, in_sector)) (omega (arith, high, ne, length-bytes_of 2 1))

pub returns-clause-here : goal.returns-clause-here
returns-clause-here c = ap (number 2 (c.args.index * 2)) c.put_half.ensures ∙ number-put_same 2 (c.args.index * 2) 1 c.args.sector.now (omega (arith, c.requires)) (omega arith)

pub returns-clause-others : goal.returns-clause-others
returns-clause-others c m lt ne = ap (number 2 (m * 2)) c.put_half.ensures ∙ other m c.args.index c.args.sector.now (omega arith) lt c.requires ne
