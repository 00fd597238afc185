-- Which place each cluster of the virtual disk gets.
use Rattle.std.specs.Prelude.{ℕ, ◌/◌, ◌%◌, ◌==◌, if◌then◌else◌, get_or, Option, None}
use Rattle.layer_linking.specs.declared.links.Links.{Links}

-- the sector of entries, and the place of cluster k, or None where it gets none
abbrev pub group_of : Links → ℕ
group_of links = links.group

abbrev pub to_of : Links → ℕ → Option ℕ
to_of links k = if k / 64 == links.group then get_or links.places (k % 64) None else None
