-- The piece of a part of whole sectors that lies in a cluster: whole sectors too.
use Rattle.std.proofs.Common.{◌≡◌, ◌⊎◌, ℕ, ◌+◌, ◌-◌, ◌*◌, ◌/◌, ◌%◌, ◌<◌, ◌≤◌, List, length, take, drop, ap, ◌∙◌, inl, inr, arith}
use Rattle.std.proofs.lemmas.Bool.{cases_lt}
use Rattle.std.proofs.lemmas.List.{drop-drop, drop-take, length-drop, length-take-le, take-take}
use Rattle.shared_disk.specs.Calls.{IsPiece, sectors_in}
use Rattle.shared_disk.specs.Content.{sector_of}
use Rattle.write_planning.specs.declared.span.Piece.{Piece}
use Rattle.write_planning.proofs.Meeting.{is_quotient}

-- where a cluster begins, in whole sectors
pub whole_row : (c width : ℕ) → width % 512 ≡ 0 → c * width % 512 ≡ 0
whole_row c width whole =
    let size : width ≡ 512 * (width / 512) = omega (arith, whole) in
    let rows : c * width ≡ 512 * (c * (width / 512)) = ap (λ n. c * n) size ∙ omega arith in
    omega (arith, rows)

module _ (at length width c : ℕ) (q : Piece) (pos : 0 < width) (whole : width % 512 ≡ 0) (some : q.from < q.end) (within : q.end ≤ length) (place : at + q.from ≡ c * width + q.offset)
    (inside : q.offset + (q.end - q.from) ≤ width) (all : (i : ℕ) → i < length → (at + i) / width ≡ c → (q.from ≤ i) × (i < q.end)) where
  -- the next row
  row : (c + 1) * width ≡ c * width + width
  row = omega arith

  -- it begins with the part or with the cluster
  pub begins : (q.from ≡ 0) ⊎ (q.offset ≡ 0)
  begins = go (cases_lt 0 q.from) (cases_lt 0 q.offset)
    where
      go : (0 < q.from) ⊎ (q.from ≤ 0) → (0 < q.offset) ⊎ (q.offset ≤ 0) → (q.from ≡ 0) ⊎ (q.offset ≡ 0)
      go (inr none) rest = inl (omega (arith, none))
      go (inl f) (inr none) = inr (omega (arith, none))
      go (inl f) (inl o) =
          let row_is = row in
          let here : (at + (q.from - 1)) / width ≡ c = is_quotient (at + (q.from - 1)) c width pos (omega (arith, f, o, place)) (omega (arith, f, o, place, inside, some, row_is)) in
          let met = all (q.from - 1) (omega (arith, f, some, within)) here in
          absurd (omega (arith, f, met.0))

  -- it ends with the part or with the cluster
  pub ends : (q.end ≡ length) ⊎ (q.offset + (q.end - q.from) ≡ width)
  ends = go (cases_lt q.end length) (cases_lt (q.offset + (q.end - q.from)) width)
    where
      go : (q.end < length) ⊎ (length ≤ q.end) → (q.offset + (q.end - q.from) < width) ⊎ (width ≤ q.offset + (q.end - q.from)) → (q.end ≡ length) ⊎ (q.offset + (q.end - q.from) ≡ width)
      go (inr le) rest = inl (omega (arith, le, within))
      go (inl lt) (inr le) = inr (omega (arith, le, inside))
      go (inl lt) (inl less) =
          let row_is = row in
          let here : (at + q.end) / width ≡ c = is_quotient (at + q.end) c width pos (omega (arith, some, place)) (omega (arith, some, place, less, row_is)) in
          let met = all q.end lt here in
          absurd (omega (arith, met.1))

  module _ (even : at % 512 ≡ 0) where
    pub from_whole : q.from % 512 ≡ 0
    from_whole = go begins
      where
        go : (q.from ≡ 0) ⊎ (q.offset ≡ 0) → q.from % 512 ≡ 0
        go (inl none) = omega (arith, none)
        go (inr none) = let rows = whole_row c width whole in omega (arith, none, place, rows, even)

    pub offset_whole : q.offset % 512 ≡ 0
    offset_whole = let rows = whole_row c width whole in let from = from_whole in omega (arith, place, rows, even, from)

    pub size_whole : length % 512 ≡ 0 → (q.end - q.from) % 512 ≡ 0
    size_whole full = go ends
      where
        from : q.from % 512 ≡ 0
        from = from_whole

        offset : q.offset % 512 ≡ 0
        offset = offset_whole

        go : (q.end ≡ length) ⊎ (q.offset + (q.end - q.from) ≡ width) → (q.end - q.from) % 512 ≡ 0
        go (inl is) = let f = from in omega (arith, is, full, f, some)
        go (inr is) = let o = offset in omega (arith, is, whole, o, some)

    pub is_piece : length % 512 ≡ 0 → length ≤ 65536 → IsPiece (q.end - q.from)
    is_piece full few = let size = size_whole full in (size, omega (arith, size, some), omega (arith, within, few))

-- ---- its sectors

-- a sector of some bytes of a part
pub sector_inside : (part : List ℕ) (from size j : ℕ) → from % 512 ≡ 0 → size % 512 ≡ 0 → 512 * (j + 1) ≤ size → sector_of (take size (drop from part)) j ≡ sector_of part (from / 512 + j)
sector_inside part from size j even whole low =
    let rest : ℕ = size - 512 * j in
    let parts : size ≡ 512 * j + rest = omega (arith, low) in
    let long : 512 ≤ rest = omega (arith, low) in
    let start : from + 512 * j ≡ 512 * (from / 512 + j) = omega (arith, even) in
    ap (λ n. take 512 (drop (512 * j) (take n (drop from part)))) parts
    ∙ ap (take 512) (drop-take (512 * j) rest (drop from part))
    ∙ take-take 512 rest (drop (512 * j) (drop from part)) long
    ∙ ap (take 512) (drop-drop (512 * j) from part)
    ∙ ap (λ n. take 512 (drop n part)) start

pub sectors_inside : (part : List ℕ) (from size : ℕ) → from + size ≤ length part → sectors_in (take size (drop from part)) ≡ size / 512
sectors_inside part from size fits =
    let rest = length-drop from part in
    ap (λ n. n / 512) (length-take-le size (drop from part) (omega (arith, rest, fits)))
