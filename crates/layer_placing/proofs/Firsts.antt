-- The L1 entries of a sound layer, by what their positions name.
use Rattle.std.proofs.Common.{◌≡◌, ℕ, ◌<◌, Option, Some, None, Result, Ok, Err, refl, sym, ap, ◌∙◌}
use Rattle.sd_names.specs.declared.fault.LayerFault.{LayerFault}
use Rattle.qcow_format.specs.declared.header.Header.{Header}
use Rattle.image_model.specs.File.{File}
use Rattle.image_model.specs.Layer.{l1_at, l1_entry}
use Rattle.image_model.specs.Soundness.{IsSound, Item, item, l1_item_of, layer_header, names, own_fault}
use Rattle.layer_laws.specs.Laws.{l1_position, layer}
use Rattle.layer_laws.proofs.Places.{item_l1}
use Rattle.layer_laws.proofs.Sound.{clean_of}

-- an L1 entry says what its position names
entry_named : (h : Header) (f : File) (capacity i : ℕ) → layer_header f capacity ≡ Ok h → IsSound f capacity → i < h.l1_size
    → l1_entry (layer h f) i ≡ Ok (names (layer h f) capacity (l1_position (layer h f) i))
entry_named h f capacity i is sound lt = by (l1_entry (layer h f) i) refl
  where
    at : item (layer h f) capacity (l1_position (layer h f) i) ≡ l1_item_of (layer h f) (l1_at (layer h f) i) (l1_entry (layer h f) i)
    at = item_l1 (layer h f) capacity i lt

    by : (r : Result (Option ℕ) LayerFault) → l1_entry (layer h f) i ≡ r → l1_entry (layer h f) i ≡ Ok (names (layer h f) capacity (l1_position (layer h f) i))
    by (Ok (Some table)) e = e ∙ ap (λ (o : Option ℕ). Ok o) (sym (ap (λ (x : Item). x.name) (at ∙ ap (λ r. l1_item_of (layer h f) (l1_at (layer h f) i) r) e)))
    by (Ok None) e = e ∙ ap (λ (o : Option ℕ). Ok o) (sym (ap (λ (x : Item). x.name) (at ∙ ap (λ r. l1_item_of (layer h f) (l1_at (layer h f) i) r) e)))
    by (Err fault) e =
        let bad : Some fault ≡ None = sym (ap (own_fault f.size) (at ∙ ap (λ r. l1_item_of (layer h f) (l1_at (layer h f) i) r) e)) ∙ (clean_of f capacity h is sound (l1_position (layer h f) i)).fine in
        absurd cc

-- so they are the same where these positions name the same
pub tables_by_names : (h : Header) (f g : File) (capacity : ℕ) → layer_header f capacity ≡ Ok h → IsSound f capacity → layer_header g capacity ≡ Ok h → IsSound g capacity
    → ((i : ℕ) → i < h.l1_size → names (layer h g) capacity (l1_position (layer h f) i) ≡ names (layer h f) capacity (l1_position (layer h f) i))
    → (i : ℕ) → i < h.l1_size → l1_entry (layer h g) i ≡ l1_entry (layer h f) i
tables_by_names h f g capacity is sound is' sound' same i lt =
    entry_named h g capacity i is' sound' lt ∙ ap (λ (o : Option ℕ). Ok o) (same i lt) ∙ sym (entry_named h f capacity i is sound lt)
