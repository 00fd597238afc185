-- Entries of the tables as items.
use Rattle.std.proofs.Common.{◌≡◌, ◌≢◌, ℕ, ◌*◌, ◌/◌, ◌%◌, ◌<◌, Bool, not, None, Ok, refl, sym, ap, ◌∙◌, arith, eq-eqb, ne_eqb}
use Rattle.std.specs.Prelude.{◌==◌, if◌then◌else◌}
use Rattle.sd_names.specs.declared.fault.LayerFault.TheVariants.{MixedBits}
use Rattle.image_model.specs.Layer.{Tables, block_at, block_word}
use Rattle.qcow_format.specs.declared.entry.Entry.TheVariants.{Zero}
use Rattle.image_model.specs.Soundness.{Item, nothing, placed, faulty, block_item, beyond, l2_item_of}

abbrev shape : Tables → ℕ → ℕ → Item
shape t at w = if not (w % 512 == 0) then faulty at (MixedBits at) else (if w / 512 * 512 == 0 then nothing else placed t at (w / 512 * 512))

shape_placed : (t : Tables) (at w : ℕ) → w % 512 ≡ 0 → 0 < w → shape t at w ≡ placed t at w
shape_placed t at w even some =
    let e = eq-eqb (w % 512) 0 even in
    let same : w / 512 * 512 ≡ w = omega arith in
    let f = ne_eqb w 0 (omega arith) in
    rw e (rw same (rw f refl))

pub block_placed : (t : Tables) (k at w : ℕ) → block_at t k ≡ at → block_word t k ≡ w → w % 512 ≡ 0 → 0 < w → block_item t k ≡ placed t at w
block_placed t k at w e f even some = ap (λ x. shape t x (block_word t k)) e ∙ ap (shape t at) f ∙ shape_placed t at w even some

-- an L2 entry that names a place
pub zero_placed : (t : Tables) (capacity start at place : ℕ) → place ≢ 0
    → beyond capacity start (placed t at place) ≡ l2_item_of t capacity start at (Ok (Zero place))
zero_placed t capacity start at place some =
    ap (λ (b : Bool). beyond capacity start (if b then record { at = at; wrong = None; name = None } else placed t at place)) (sym (ne_eqb place 0 some))
