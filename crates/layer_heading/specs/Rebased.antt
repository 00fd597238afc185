-- A layer over another backing file.
use Rattle.std.specs.Prelude.{◌≡◌, ◌⊎◌, ℕ, ◌+◌, ◌-◌, ◌==◌, ◌&&◌, nat_le, not, Bool, true, if◌then◌else◌, List, Option, Some, None, Ok}
use Rattle.std.specs.Option.{option_map}
use Rattle.qcow_format.specs.declared.header.Header.{Header}
use Rattle.qcow_format.specs.Header.{head_size}
use Rattle.qcow_format.specs.Name.{backing_id, touches}
use Rattle.image_model.specs.File.{File}
use Rattle.qcow_format.specs.Written.{written}
use Rattle.image_model.specs.Soundness.{layer_header}
use Rattle.layer_laws.specs.Laws as laws
use Rattle.layer_creating.specs.declared.backing.Backing.{Backing}

-- the present name stands in the sector at a place
abbrev pub is_touched : Header → ℕ → Bool
is_touched h sector = not (h.backing_file_offset == 0) && touches h.backing_file_offset h.backing_file_size sector

-- the next name goes to the first of the head's last two sectors, unless the present one stands there
abbrev pub name_place : Header → ℕ
name_place h = if is_touched h (head_size h.cluster_bits - 1024) then head_size h.cluster_bits - 512 else head_size h.cluster_bits - 1024

-- the header over another backing file, whose format it names where it named one
abbrev pub rebased : Header → Backing → Header
rebased h backing = record h {
  backing_file_offset = name_place h;
  backing_file_size = 36;
  autoclear_features = 0;
  name = (name_place h, 36);
  format = option_map (λ _. backing.format) h.format;
}

-- A second file is the layer as it was: its header and its parent, and all else that it says.
pub record IsStill (h : Header) (capacity : ℕ) (f g : File) : Type 0 where
  pub header : layer_header g capacity ≡ Ok h
  pub parent : backing_id h g.head ≡ backing_id h f.head
  pub rest : laws.Rebased h h capacity f g

-- A second file is the layer over the backing file: its header and its parent are the new ones, and all else that the layer
-- says is as it was.
pub record IsOver (h : Header) (backing : Backing) (capacity : ℕ) (f g : File) : Type 0 where
  pub header : layer_header g capacity ≡ Ok (rebased h backing)
  pub parent : backing_id (rebased h backing) g.head ≡ Some backing.parent
  pub rest : laws.Rebased h (rebased h backing) capacity f g

-- what a step may make of a file: nothing, the layer as it was, or the layer over the new backing file
abbrev pub IsOldOrOver : Header → Backing → ℕ → File → File → Type 0
IsOldOrOver h backing capacity f g = (g ≡ f) ⊎ (IsStill h capacity f g ⊎ IsOver h backing capacity f g)

-- the backing format fits the first sector
abbrev pub has_room : Option ℕ → Bool
has_room None = true
has_room (Some at) = nat_le (at + 16) 512

-- the first sector with a header, where it fits
abbrev pub laid : Header → List ℕ → Option (List ℕ)
laid h first = if has_room h.format_at then Some (written h first) else None
