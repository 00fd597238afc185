-- Texts, the sectors that they take, and what their files read as.
use Rattle.std.proofs.Common.{◌≡◌, ℕ, ◌+◌, ◌-◌, ◌*◌, ◌≤◌, List, ◌++◌, length, take, replicate, ap, ◌∙◌, arith, length-append}
use Rattle.std.proofs.Math.Seq.{take-append-add}
use Rattle.std.proofs.lemmas.List.{length-replicate, take-replicate, drop-replicate}
use Rattle.shared_disk.specs.Content.{Content}
use Rattle.shared_disk.specs.Calls.{sectors_in}
use Rattle.sd_names.specs.declared.place.Place.{Place}
use Rattle.shared_disk.specs.Crash.{IsOutcome}
use Rattle.shared_disk.proofs.AtPlace.{settled_stays}
use borrow.Rule.Slice.PartMut.{post_of}
use Rattle.whole_file.specs.Text.{HasText, padded, sectors_for}

-- a padded text has whole sectors
pub length_padded : (text : List ℕ) → length (padded text) ≡ 512 * sectors_for (length text)
length_padded text = omega (arith, length-append text (replicate {A = ℕ} (512 * sectors_for (length text) - length text) 0), length-replicate {A = ℕ} (512 * sectors_for (length text) - length text) 0)

pub sectors_padded : (text : List ℕ) → sectors_in (padded text) ≡ sectors_for (length text)
sectors_padded text = omega (arith, length_padded text)

-- a text and zeros behind it, cut after whole sectors
pub cut_to_sectors : (text : List ℕ) (n : ℕ) → 512 * sectors_for (length text) ≤ n → take (512 * sectors_for (length text)) (text ++ replicate (n - length text) 0) ≡ padded text
cut_to_sectors text n fits =
    let more : ℕ = 512 * sectors_for (length text) - length text in
    let whole : 512 * sectors_for (length text) ≡ length text + more = omega arith in
    ap (λ (m : ℕ). take m (text ++ replicate (n - length text) 0)) whole
    ∙ take-append-add text (replicate (n - length text) 0) more
    ∙ ap (λ (zeros : List ℕ). text ++ zeros) (take-replicate {X = ℕ} more (n - length text) 0 (omega arith))

-- a text on the medium is there on each outcome
pub text_stays : (d o : Content) (place : Place) (text : List ℕ) → HasText d place text → IsOutcome d o → HasText o place text
text_stays d o place text has out = (has.0, settled_stays d o place has.0 has.1 has.2.settled out, has.2)

-- a padded text in a room of zeros
pub padded_in_room : (text room : List ℕ) (n : ℕ) → length text ≤ 8192 → room ≡ replicate 8192 0 → n ≡ 512 * sectors_for (length text)
    → take n (text ++ post_of 0 (length text) room) ≡ padded text
padded_in_room text room n fits zeros is =
    ap (λ (m : ℕ). take m (text ++ post_of 0 (length text) room)) is
    ∙ ap (λ (r : List ℕ). take (512 * sectors_for (length text)) (text ++ post_of 0 (length text) r)) zeros
    ∙ ap (λ (r : List ℕ). take (512 * sectors_for (length text)) (text ++ r)) (drop-replicate {X = ℕ} (length text) 8192 0)
    ∙ cut_to_sectors text 8192 (omega arith)
