-- What an event asks for on the first path, or why it is refused.
use Rattle.std.specs.Prelude.{ℕ, ◌==◌, ◌%◌, ◌≤◌, ◌&&◌, ◌^◌, Bool, true, false, List, [], ◌∷◌, length, nat_le, Result, Ok, Err, if◌then◌else◌}
use Rattle.sd_names.specs.declared.kinds.AllocKind.TheVariants.{Sparse}
use Rattle.sd_names.specs.declared.kinds.Format.TheVariants.{Raw}
use Rattle.sd_names.specs.declared.refusal.Refusal.{Refusal}
use Rattle.sd_names.specs.declared.refusal.Refusal.TheVariants.{NotBuilt}
use Rattle.script_lines.specs.Argument.{Value, id_value, number_value, bytes_value, layout_value}
use Rattle.script_lines.specs.Said.{Event, silent, refused, boot, whole}
use Rattle.script_lines.specs.declared.verb_names.VerbWord.{VerbWord}
use Rattle.script_lines.specs.declared.verb_names.VerbWord.TheVariants as word
use Rattle.pool_session.specs.Capacity.{IsCapacity}
use Rattle.pool_session.specs.declared.request.Request.{Request}
use Rattle.pool_session.specs.declared.request.Request.TheVariants as request

-- the verbs that are built
abbrev pub is_built : VerbWord → Bool
is_built word.MakePool = true
is_built word.SpmStart = true
is_built word.Create = true
is_built word.Open = true
is_built word.Read = true
is_built word.Write = true
is_built _ = false

-- whether an event has no reply
abbrev pub is_silent : Event → Bool
is_silent silent = true
is_silent _ = false

-- a request, and the bytes that it writes
abbrev pub Asked : Type 0
Asked = Request × List ℕ

-- a request with the bytes that it writes, if it is one of the first path
abbrev pub if_built : Bool → Request → List ℕ → Result Asked Refusal
if_built built asked bytes = if built then Ok (asked, bytes) else Err NotBuilt

-- a capacity that an image may have, in bytes: a multiple of 512 from 512 to 2^40
abbrev pub is_capacity : ℕ → Bool
is_capacity capacity = (capacity % 512 == 0) && nat_le 512 capacity && nat_le capacity (2 ^ 40)

-- how many bytes a part may have: 1 to 65,536. Each line that reads as an event has that many; an event is any value.
abbrev pub is_part : ℕ → Bool
is_part count = nat_le 1 count && nat_le count 65536

-- `P S 5 -`
abbrev pub make_pool_asked : List Value → Result Asked Refusal
make_pool_asked (id_value pool ∷ id_value sd ∷ number_value version ∷ bytes_value text ∷ []) =
    if_built ((version == 5) && (length text == 0)) (request.MakePool (record { 0 = sd })) []
make_pool_asked _ = Err NotBuilt

-- `S 0 0`
abbrev pub spm_start_asked : List Value → Result Asked Refusal
spm_start_asked (id_value sd ∷ number_value prev ∷ number_value lver ∷ []) =
    if_built ((prev == 0) && (lver == 0)) (request.SpmStart (record { 0 = sd })) []
spm_start_asked _ = Err NotBuilt

-- `T S I V RAW SPARSE CAP -`
abbrev pub create_asked : List Value → Result Asked Refusal
create_asked (id_value task ∷ id_value sd ∷ id_value image ∷ id_value v ∷ layout_value Raw Sparse ∷ number_value capacity ∷ bytes_value text ∷ []) =
    if_built (is_capacity capacity && (length text == 0))
    (request.Create (record { sd = record { 0 = sd }; image = record { 0 = image }; volume = record { 0 = v }; capacity = capacity })) []
create_asked _ = Err NotBuilt

-- `S I`
abbrev pub open_asked : List Value → Result Asked Refusal
open_asked (id_value sd ∷ id_value image ∷ []) = Ok (request.Open (record { 0 = sd }) (record { 0 = image }), [])
open_asked _ = Err NotBuilt

-- `S I AT LEN`
abbrev pub read_asked : List Value → Result Asked Refusal
read_asked (id_value sd ∷ id_value image ∷ number_value at ∷ number_value count ∷ []) =
    if_built (is_part count) (request.Read (record { 0 = sd }) (record { 0 = image }) at count) []
read_asked _ = Err NotBuilt

-- `S I AT DATA`
abbrev pub write_asked : List Value → Result Asked Refusal
write_asked (id_value sd ∷ id_value image ∷ number_value at ∷ bytes_value bytes ∷ []) =
    if_built (is_part (length bytes)) (request.Write (record { 0 = sd }) (record { 0 = image }) at) bytes
write_asked _ = Err NotBuilt

-- what a verb asks for
abbrev pub asked_by : VerbWord → List Value → Result Asked Refusal
asked_by word.MakePool values = make_pool_asked values
asked_by word.SpmStart values = spm_start_asked values
asked_by word.Create values = create_asked values
asked_by word.Open values = open_asked values
asked_by word.Read values = read_asked values
asked_by word.Write values = write_asked values
asked_by _ values = Err NotBuilt

-- what an event asks for: a boot of host 1, or a verb of host 1 that is run whole
abbrev pub asked_of : Event → Result Asked Refusal
asked_of (refused refusal) = Err refusal
asked_of (boot host) = if_built (host == 1) request.Boot []
asked_of (whole host call) = if host == 1 then asked_by call.verb call.values else Err NotBuilt
asked_of _ = Err NotBuilt

-- a capacity is one that an image may have, and a part has 1 to 65,536 bytes
abbrev pub IsSound : Request → List ℕ → Type 0
IsSound (request.Create image) bytes = IsCapacity image.capacity
IsSound (request.Write sd image at) bytes = (1 ≤ length bytes) × (length bytes ≤ 65536)
IsSound (request.Read sd image at count) bytes = (1 ≤ count) × (count ≤ 65536)
IsSound _ bytes = Unit {0}
