-- Messages as the bytes of a slot. Numbers are big-endian.
use Rattle.std.specs.Prelude.{◌≡◌, ℕ, ◌≤◌, ◌<◌, ◌^◌, ◌-◌, ◌&&◌, List, [], ◌∷◌, ◌++◌, length, take, drop, replicate, codes, slice_index, nat_le, Option, Some, None, if◌then◌else◌, option_map}
use Rattle.std.specs.List.{filter_map, range_with_len}
use Rattle.std.specs.Str.{bytes_eq}
use Rattle.byteorder.specs.Endian.{big_bytes, big_number}
use Rattle.mail_box.specs.declared.message.Message.{Message}
use Rattle.mail_box.specs.Slots.{slot_at, is_sealed}

-- the 64 bytes of a message: `xtnd`, the status, 3 zeros, the image, the volume, the length, the mark, 12 zeros
unfoldable pub message_bytes : Message → List ℕ
message_bytes m =
    codes "xtnd" ++ m.status ∷ replicate 3 0 ++ m.image.0 ++ m.volume.0 ++ big_bytes 8 m.length ++ big_bytes 4 m.mark ++ replicate 12 0

-- the fields of a message, each in its range: the status is a request (0), done (1) or fail (2)
pub record IsMessage (m : Message) : Type 0 where
  pub status : m.status ≤ 2
  pub image : length m.image.0 ≡ 16
  pub volume : length m.volume.0 ≡ 16
  pub len : m.length < 2 ^ 64
  pub mark : m.mark < 2 ^ 32

-- what stands at the places of the fields
abbrev pub fields_of : List ℕ → Message
fields_of slot = record {
  status = slice_index slot 4;
  image = record { 0 = take 16 (drop 8 slot) };
  volume = record { 0 = take 16 (drop 24 slot) };
  length = big_number 8 (take 8 (drop 40 slot));
  mark = big_number 4 (take 4 (drop 48 slot));
}

-- the message whose bytes a slot has, if there is one
abbrev pub message_of : List ℕ → Option Message
message_of slot =
    if nat_le (fields_of slot).status 2 && bytes_eq (message_bytes (fields_of slot)) slot
    then Some (fields_of slot)
    else None

-- slot k and its message
abbrev pub message_at : List (List ℕ) → ℕ → Option (ℕ × Message)
message_at slots k = option_map (λ m. (k, m)) (message_of (slot_at slots k))

-- the messages of slots k to 62, in order
abbrev pub messages_from : List (List ℕ) → ℕ → List (ℕ × Message)
messages_from slots k = filter_map (message_at slots) (range_with_len k (63 - k))

-- the messages of a box, with their slots: none where it isn't sealed
abbrev pub messages_of : List (List ℕ) → List (ℕ × Message)
messages_of slots = if is_sealed slots then messages_from slots 0 else []
