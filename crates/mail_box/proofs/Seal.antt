-- A box that was sealed is sealed.
use Rattle.std.proofs.Common.{◌≡◌, ℕ, ◌<◌, List, [], length, set, true, refl, ◌∙◌}
use Rattle.std.proofs.lemmas.List.{get_or-set_same, take-set}
use Rattle.std.proofs.lemmas.Slice.Eq.{bytes_eq-Decides}
use Rattle.mail_box.specs.Slots.{slot_at, seal_of, is_sealed}

pub is_sealed-set : (slots : List (List ℕ)) (seal : List ℕ) → 63 < length slots → seal ≡ seal_of slots → is_sealed (set slots 63 seal) ≡ true
is_sealed-set slots seal long e =
    (bytes_eq-Decides (slot_at (set slots 63 seal) 63) (seal_of (set slots 63 seal))).1
    (get_or-set_same slots 63 seal [] long ∙ e ∙ rw (take-set slots 63 seal) refl)
