-- The backing file format name, a header extension (qcow2 specification, "Header extensions").
use Rattle.std.specs.Prelude.{ℕ, ◌+◌, ◌==◌, nat_lt, if◌then◌else◌, List, [], ◌∷◌, length, Option, Some, None, Result, Ok, Err, unwrap_or, codes}
use Rattle.std.specs.Str.{bytes_eq}
use Rattle.sd_names.specs.declared.fault.LayerFault.{LayerFault}
use Rattle.sd_names.specs.declared.fault.LayerFault.TheVariants.{HeaderShape}
use Rattle.sd_names.specs.declared.kinds.Format.{Format}
use Rattle.sd_names.specs.declared.kinds.Format.TheVariants.{Raw, Cow}
use Rattle.qcow_format.specs.Numbers.{backing_format}
use Rattle.qcow_format.specs.Extension.{Placed, data_of, extensions_at, end_after}

-- What fails hands its fault on.
infixl 10 ◌>>=◌
abbrev pub ◌>>=◌ : {A B : Type 0} → Result A LayerFault → (A → Result B LayerFault) → Result B LayerFault
(Ok x) >>= f = f x
(Err e) >>= f = Err e

-- the format that a text names
abbrev pub format_named : List ℕ → Result Format LayerFault
format_named text =
    if bytes_eq text (codes "qcow2") then Ok Cow else (if bytes_eq text (codes "raw") then Ok Raw else Err HeaderShape)

-- The format that an extension at a place names with its data, which has to end within the first 512 bytes; the place
-- with it.
unfoldable pub format_at : ℕ → List ℕ → Result (ℕ × Format) LayerFault
format_at at text = if nat_lt 512 (at + 8 + length text) then Err HeaderShape else (do
  format ← format_named text
  Ok (at, format))

-- Where the last backing format among extensions stands, and which it is. Each of them has to be fine.
unfoldable pub last_format : List ℕ → List Placed → Result (Option (ℕ × Format)) LayerFault
last_format head [] = Ok None
last_format head (e ∷ es) = if e.kind == backing_format then (do
  format ← format_at e.at (data_of head e)
  later ← last_format head es
  Ok (Some (unwrap_or later format))) else last_format head es

-- what has been found where an extension of a type stands at a place, with its data, after others
unfoldable pub found_after : Option (ℕ × Format) → ℕ → ℕ → List ℕ → Result (Option (ℕ × Format)) LayerFault
found_after found kind at text = if kind == backing_format then (do
  format ← format_at at text
  Ok (Some format)) else Ok found

-- where the extensions from a place on end, and the last backing format among them
unfoldable pub walked : List ℕ → ℕ → Result (ℕ × Option (ℕ × Format)) LayerFault
walked head start = do
  found ← last_format head (extensions_at head start)
  Ok (end_after start (extensions_at head start), found)
