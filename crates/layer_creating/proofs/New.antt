-- A new layer's file says what it is to say.
use Rattle.std.proofs.Common.{ℕ, ◌≤◌, Option}
use Rattle.image_model.specs.File.{file_of}
use Rattle.layer_laws.proofs.Sound.{sound_of}
use Rattle.layer_creating.specs.New.{HasBytes, IsCapacity, new_header, new_sector}
use Rattle.layer_creating.specs.Says.{SaysNew}
use Rattle.layer_creating.specs.declared.backing.Backing.{Backing}
use Rattle.layer_creating.proofs.Headers.{layer_read, parent_read}
use Rattle.layer_creating.proofs.Sound.{clean, nothing_held, used_is}

pub new_layer_says : (capacity n : ℕ) (backing : Option Backing) → IsCapacity capacity → HasBytes backing → 2560 ≤ n → SaysNew capacity backing (file_of n (new_sector capacity backing))
new_layer_says capacity n backing fits bytes long =
    let header = layer_read capacity n backing long fits.1 bytes in
    record {
      header = header;
      parent = parent_read capacity n backing long bytes;
      sound = sound_of (file_of n (new_sector capacity backing)) capacity (new_header capacity backing) header (clean capacity n backing fits.1 long);
      absent = nothing_held capacity n backing fits.1 long;
      used = used_is capacity n backing fits.1 long;
    }
