-- Header extensions (qcow2 specification, "Header extensions"): type, length, data padded to a multiple of 8 bytes.
use Rattle.std.specs.Prelude.{ℕ, zero, suc, Bool, ◌+◌, ◌*◌, ◌/◌, ◌==◌, ◌&&◌, not, nat_lt, nat_le, if◌then◌else◌, List, [], ◌∷◌, length, take, drop, map}
use Rattle.qcow_format.specs.declared.extension.Extensions.{Extensions}
use Rattle.qcow_format.specs.Bytes.{number}

-- an extension: where it stands, its type, and how many bytes its data has
pub record Placed : Type 0 where
  pub at : ℕ
  pub kind : ℕ
  pub size : ℕ

abbrev pub placed_at : List ℕ → ℕ → Placed
placed_at head at = record { at = at; kind = number 4 at head; size = number 4 (at + 4) head }

-- where it ends, its data padded to a multiple of 8 bytes
abbrev pub end_of : Placed → ℕ
end_of e = e.at + 8 + (e.size + 7) / 8 * 8

abbrev pub data_of : List ℕ → Placed → List ℕ
data_of head e = take e.size (drop (e.at + 8) head)

-- an extension stands at a place: it isn't the closing mark, which has type 0, and doesn't run past the end
abbrev pub is_extension : List ℕ → ℕ → Bool
is_extension head at = not (number 4 at head == 0) && nat_le (end_of (placed_at head at)) (length head)

-- the extensions one after the other from a place on, n at most
unfoldable pub extensions_up_to : ℕ → List ℕ → ℕ → List Placed
extensions_up_to zero head at = []
extensions_up_to (suc n) head at =
    if is_extension head at then placed_at head at ∷ extensions_up_to n head (end_of (placed_at head at)) else []

-- all of them, since each takes a byte at least
abbrev pub extensions_at : List ℕ → ℕ → List Placed
extensions_at head at = extensions_up_to (length head) head at

-- where the last one ends
abbrev pub end_after : ℕ → List Placed → ℕ
end_after at [] = at
end_after at (e ∷ es) = end_after (end_of e) es

-- where they begin: directly behind the header, which has 72 bytes in version 2 and tells its length in version 3
abbrev pub header_end : List ℕ → ℕ
header_end head = if number 4 4 head == 2 then 72 else number 4 100 head

-- type and data of each
abbrev pub listed : List ℕ → List Placed → List (ℕ × List ℕ)
listed head es = map (λ e. (e.kind, data_of head e)) es

-- type and data of each extension of a head, one of fewer than 512 bytes having none
abbrev pub extensions_of : List ℕ → List (ℕ × List ℕ)
extensions_of head =
    if nat_lt (length head) 512 then [] else listed head (extensions_at head (header_end head))

-- those that are still to come
abbrev pub remaining : Extensions → List (ℕ × List ℕ)
remaining x = listed x.head.now (extensions_at x.head.now x.at)
