-- Backing file names, whose last part is an identifier in its text form (RFC 9562, section 4).
use Rattle.std.specs.Prelude.{ℕ, Bool, ◌+◌, ◌-◌, ◌==◌, ◌&&◌, not, nat_lt, nat_le, if◌then◌else◌, List, length, take, drop, Option, None}
use Rattle.std.specs.List.{after_last}
use Rattle.std.specs.Option.{is_some}
use Rattle.sd_names.specs.Id.{id_of}
use Rattle.sd_names.specs.declared.id.Id.{Id}
use Rattle.qcow_format.specs.declared.header.Header.{Header}

-- the text of an identifier
abbrev pub is_id : List ℕ → Bool
is_id text = is_some (id_of text)

-- the part of a path behind its last `/`, which is all of it where it has none
abbrev pub last_part : List ℕ → List ℕ
last_part name = after_last (λ b. b == 47) name

-- some of the `size` bytes from `at` on stand in the sector that begins at `sector`
abbrev pub touches : ℕ → ℕ → ℕ → Bool
touches at size sector = nat_lt at (sector + 512) && nat_lt sector (at + size)

-- A name of `size` bytes at `at` is fine in a head of `span` bytes, of which `head` holds the first ones.
abbrev pub is_name : List ℕ → ℕ → ℕ → ℕ → Bool
is_name head span at size =
    nat_le size 1023 && nat_le (at + size) (length head)
    && not (touches at size (span - 1024) && touches at size (span - 512))
    && is_id (last_part (take size (drop at head)))

-- the identifier with which the backing file's name ends, or None where there is no backing file
abbrev pub backing_id : Header → List ℕ → Option Id
backing_id h head =
    if h.backing_file_offset == 0 then None else id_of (last_part (take h.backing_file_size (drop h.backing_file_offset head)))
