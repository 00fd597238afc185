-- Data as a reply prints it, by sectors of 512 bytes.
use Rattle.std.specs.Prelude.{ℕ, zero, suc, ◌+◌, ◌/◌, ◌==◌, ◌++◌, if◌then◌else◌, List, [], ◌∷◌, length, take, drop, map, slice_index, decimal}
use Rattle.std.specs.List.{list_all, join_with_byte}
use Rattle.hex.specs.Hex.{encode_lower}

-- the first so many sectors
unfoldable pub sectors : ℕ → List ℕ → List (List ℕ)
sectors zero bytes = []
sectors (suc count) bytes = take 512 bytes ∷ sectors count (drop 512 bytes)

-- a piece of printed data: so many bytes that are all this one, or the digits of a sector
pub data Piece : Type 0 where
  run : ℕ → ℕ → Piece
  digits : List ℕ → Piece

-- a sector: a run where it holds one byte alone
abbrev pub piece_of : List ℕ → Piece
piece_of sector =
    if list_all (λ byte. byte == slice_index sector 0) sector
    then run (length sector) (slice_index sector 0)
    else digits sector

-- a piece before others: a run joins the run of the same byte that follows it
abbrev pub joined : Piece → List Piece → List Piece
joined (run n b) (run m c ∷ pieces) = if b == c then run (n + m) b ∷ pieces else run n b ∷ run m c ∷ pieces
joined piece pieces = piece ∷ pieces

-- the pieces of sectors: each run is as long as it can be
unfoldable pub pieces_of : List (List ℕ) → List Piece
pieces_of [] = []
pieces_of (sector ∷ rest) = joined (piece_of sector) (pieces_of rest)

-- `N*BB`, or the digits, in lower case
abbrev pub piece_text : Piece → List ℕ
piece_text (run count byte) = decimal count ++ 42 ∷ encode_lower (byte ∷ [])
piece_text (digits sector) = encode_lower sector

-- pieces with a `+` between each two
unfoldable pub printed_sectors : List (List ℕ) → List ℕ
printed_sectors parts = join_with_byte 43 (map piece_text (pieces_of parts))

-- data of whole sectors, printed
unfoldable pub printed : List ℕ → List ℕ
printed data_bytes = printed_sectors (sectors (length data_bytes / 512) data_bytes)

-- data of whole sectors, printed behind a `+`; nothing where there is none
unfoldable pub printed_behind : List ℕ → List ℕ
printed_behind [] = []
printed_behind (byte ∷ bytes) = 43 ∷ printed (byte ∷ bytes)
