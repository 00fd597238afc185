-- Identifiers in texts.
use Rattle.std.specs.Prelude.{ℕ, List, Option, Some, None, if◌then◌else◌, option_and_then}
use Rattle.std.specs.Str.{bytes_eq}
use Rattle.sd_names.specs.Id.{id_of}
use Rattle.sd_names.specs.declared.id.Id.{Id}

-- this identifier and no other: its hyphenated text (RFC 9562, section 4), in either case
unfoldable pub this_id : Id → List ℕ → Option Id
this_id id value =
    option_and_then (λ found. if bytes_eq found.0 id.0 then Some id else None) (id_of value)
