-- The texts of volumes, and which volumes are passed over.
use Rattle.std.proofs.Common.{◌≡◌, ℕ, Bool, true, false, ◌&&◌, not, List, Option, Some, None, unwrap_or, refl, sym, ap, ◌∙◌}
use Rattle.std.specs.Prelude.{option_and_then}
use Rattle.std.specs.Option.{is_some}
use Rattle.std.proofs.lemmas.Bool.{false≢true}
use Rattle.sd_names.specs.declared.id.Id.{Id}
use Rattle.sd_names.specs.declared.kinds.Legality.{Legality}
use Rattle.sd_names.specs.declared.kinds.Legality.TheVariants.{Legal, Illegal}
use Rattle.shared_disk.specs.Content.{File, Loose, own_of, seen}
use Rattle.shared_disk.specs.Crash.{IsSettled}
use Rattle.whole_file.specs.Text.{HasNoZero, IsTextFile, before_zero, bytes_of, text_of}
use Rattle.whole_file.proofs.Reading.{text_read_again}
use Rattle.volume_meta.specs.declared.record.VolumeRecord.{VolumeRecord}
use Rattle.chain_model.specs.Records.{Records, holds_in, is_passed, parent, parent_in, passed_in, stored_text}

seen_settled : (host : ℕ) (f : File) (k : ℕ) → IsSettled f → seen host f k ≡ f.stable k
seen_settled host f k s = ap (λ (ls : List Loose). unwrap_or (own_of host k ls) (f.stable k)) s.loose

pub text_seen : (host : ℕ) (f : File) → IsSettled f → text_of host f ≡ stored_text f
text_seen host f s = λ i. before_zero (bytes_of (λ k. seen_settled host f k s i) f.size)

pub text_whole : (text : List ℕ) (f : File) → HasNoZero text → IsTextFile text f → stored_text f ≡ text
text_whole text f none is = sym (text_seen 1 f is.settled) ∙ text_read_again 1 text f none is

-- ---- volumes that are passed over

pub passed_if : (r : Records) (v : Id) (y : VolumeRecord) (p : Id) → r v ≡ Some y → y.legality ≡ Illegal → y.merged ≡ true → parent r v ≡ Some p → is_passed r v ≡ true
passed_if r v y p is illegal merged e =
    let up : parent_in y ≡ Some p = sym (ap (λ (o : Option VolumeRecord). option_and_then parent_in o) is) ∙ e in
    ap (λ (o : Option VolumeRecord). holds_in passed_in o) is ∙ rw (illegal, merged, up) refl

passed_parts : (y : VolumeRecord) (p : Option Id) (l : Legality) (m : Bool) → y.legality ≡ l → y.merged ≡ m → parent_in y ≡ p
    → (not (elim l as (λ _. Bool) [ Legal ↦ true | Illegal ↦ false ]) && (m && is_some p)) ≡ true → (y.legality ≡ Illegal) × (y.merged ≡ true)
passed_parts y p Legal m e f g h = absurd (false≢true h)
passed_parts y p Illegal false e f g h = absurd (false≢true h)
passed_parts y p Illegal true e f g h = (e, f)

pub passed_only : (r : Records) (v : Id) → is_passed r v ≡ true → (y : VolumeRecord) × (r v ≡ Some y) × (y.legality ≡ Illegal) × (y.merged ≡ true)
passed_only r v passed = go (r v) refl passed
  where
    go : (o : Option VolumeRecord) → r v ≡ o → holds_in passed_in o ≡ true → (y : VolumeRecord) × (r v ≡ Some y) × (y.legality ≡ Illegal) × (y.merged ≡ true)
    go None e h = absurd (false≢true h)
    go (Some y) e h = let parts = passed_parts y (parent_in y) y.legality y.merged refl refl refl h in (y, e, parts.0, parts.1)
