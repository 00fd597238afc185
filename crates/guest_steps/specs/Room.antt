-- Where a write to a layer finds too little room.
use Rattle.std.specs.Prelude.{ℕ, ◌+◌, ◌<◌, min}
use Rattle.shared_disk.specs.Content.{File}
use Rattle.image_model.specs.Room.{Need, Room, end_of_room, free_below, room_of}
use Rattle.qcow_layer.specs.Knowing.{mapped}
use Rattle.qcow_layer.specs.declared.layer.Layer.{Layer}
use Rattle.layer_writing.specs.Writer.{seen_tables}
use Rattle.write_planning.specs.Span.{count_of, first_of}
use Rattle.write_planning.specs.declared.span.Span.{Span}

-- the room of a layer, as its host sees the file
abbrev pub room_seen : Layer → ℕ → File → Room
room_seen w host f = room_of (seen_tables w host f)

-- how many clusters the write of a part needs
abbrev pub need_of : Span → Layer → ℕ → File → ℕ
need_of s w host f = Need (room_seen w host f) (first_of s) (first_of s + count_of s)

-- the cluster at which the room ends, or the layer's map where that ends before
abbrev pub end_known : Layer → ℕ → File → ℕ
end_known w host f = min (end_of_room (room_seen w host f)) (mapped w)

-- fewer are free below the room, as far as the layer's map goes
abbrev pub IsShortOf : Span → Layer → ℕ → File → Type 0
IsShortOf s w host f = free_below (room_seen w host f) (end_known w host f) < need_of s w host f

-- fewer are free below the room, as the definition of room says
abbrev pub IsShortIn : Span → Layer → ℕ → File → Type 0
IsShortIn s w host f = free_below (room_seen w host f) (end_of_room (room_seen w host f)) < need_of s w host f
