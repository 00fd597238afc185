-- Entries of L1 and L2 tables (qcow2 specification, "Cluster mapping": "L1 table entry", "L2 table entry",
-- "Standard Cluster Descriptor").
use Rattle.std.specs.Prelude.{◌≡◌, ℕ, zero, suc, Bool, ◌+◌, ◌-◌, ◌*◌, ◌/◌, ◌%◌, ◌^◌, ◌<◌, ◌==◌, ◌||◌, ◌&&◌, not, if◌then◌else◌, Result, Ok, Err, Option, Some, None}
use Rattle.sd_names.specs.declared.fault.LayerFault.{LayerFault}
use Rattle.sd_names.specs.declared.fault.LayerFault.TheVariants.{Compressed, MixedBits}
use Rattle.qcow_format.specs.declared.entry.Entry.{Entry}
use Rattle.qcow_format.specs.declared.entry.Entry.TheVariants.{Absent, Zero, Data}

-- the number that the bits of a word from `low` up to `high`, which isn't among them, make
abbrev pub bits_between : ℕ → ℕ → ℕ → ℕ
bits_between low high word = word / 2 ^ low % 2 ^ (high - low)

-- bits 9 to 55: an offset in the file
abbrev pub offset_in : ℕ → ℕ
offset_in word = bits_between 9 56 word * 512

-- An L2 entry has bit 62 for a compressed cluster, bit 63 for a refcount of one, and in version 3 bit 0 for zeros.
-- The others but the offset's are reserved, and 0.
abbrev pub is_l2_entry : ℕ → ℕ → Bool
is_l2_entry word version =
    bits_between 1 9 word == 0 && bits_between 56 62 word == 0 && (bits_between 0 1 word == 0 || version == 3)

-- the cluster descriptor of an L2 entry that stands at a place
abbrev pub entry_in : ℕ → ℕ → ℕ → Result Entry LayerFault
entry_in word version at =
    if not (bits_between 62 63 word == 0) then Err (Compressed at)
    else if not (is_l2_entry word version) then Err (MixedBits at)
    else if not (bits_between 0 1 word == 0) then Ok (Zero (offset_in word))
    else if offset_in word == 0 then Ok Absent
    else Ok (Data (offset_in word))

-- the table that an L1 entry at a place names: bits 0 to 8 and 56 to 62 are reserved, and 0
abbrev pub table_in : ℕ → ℕ → Result (Option ℕ) LayerFault
table_in word at =
    if not (bits_between 0 9 word == 0 && bits_between 56 63 word == 0) then Err (MixedBits at)
    else if offset_in word == 0 then Ok None
    else Ok (Some (offset_in word))

-- the word of an entry: the offset with bit 63 where there is one, and bit 0 for zeros
abbrev pub word_of : Entry → ℕ
word_of Absent = 0
word_of (Zero zero) = 1
word_of (Zero (suc place)) = 2 ^ 63 + offset_in (suc place) + 1
word_of (Data place) = 2 ^ 63 + offset_in place

-- what an entry's offset can be
abbrev pub IsPlace : ℕ → Type 0
IsPlace place = (place % 512 ≡ 0) × (place < 2 ^ 56)

-- an entry that a word can hold
abbrev pub HasPlace : Entry → Type 0
HasPlace Absent = Unit {0}
HasPlace (Zero place) = IsPlace place
HasPlace (Data place) = IsPlace place × (0 < place)

-- an entry that version 2 has too
abbrev pub IsOfVersion2 : Entry → Type 0
IsOfVersion2 Absent = Unit {0}
IsOfVersion2 (Zero place) = ⊥
IsOfVersion2 (Data place) = Unit {0}
