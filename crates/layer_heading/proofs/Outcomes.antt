-- One sector of a quiet file is written: what its outcomes are, and what is known once it is synced.
use Rattle.std.proofs.Common.{◌≡◌, inl, inr, ℕ, List, sym, ◌∙◌, subst}
use Rattle.shared_disk.specs.Content.{File}
use Rattle.shared_disk.specs.Calls.{synced}
use Rattle.shared_disk.specs.Crash.{IsSettled, OnEach}
use Rattle.shared_disk.proofs.Outcomes.{settled_itself, synced_file}
use Rattle.image_model.specs.File as image
use Rattle.image_model.specs.File.{file_of}
use Rattle.image_model.specs.Soundness.{IsSound}
use Rattle.qcow_layer.specs.declared.layer.Layer.{Layer}
use Rattle.layer_writing.specs.Holding.{ComesBy, IsEither, on_medium, with_sector}
use Rattle.layer_writing.specs.Writer.{IsLeft}
use Rattle.layer_heading.specs.Writing.{IsQuiet}

-- nothing has changed
pub comes_same : (R : image.File → image.File → Type 0) (same : (x : image.File) → R x x) (f : File) → ComesBy R f f
comes_same R same f g out = (g, out, same (on_medium g))

pub comes_synced : (R : image.File → image.File → Type 0) (same : (x : image.File) → R x x) (host : ℕ) (f : File) → ComesBy R f (synced host f)
comes_synced R same host f g out = (g, synced_file host f g out, same (on_medium g))

module _ (R : image.File → image.File → Type 0) (same : (x : image.File) → R x x) (p : ℕ) (sector : List ℕ) (g : File) (settled : IsSettled g)
    (becomes : R (file_of g.size g.stable) (file_of g.size (with_sector p sector g.stable))) where
  -- after the write each outcome is the quiet file, or has the sector
  pub comes_written : (f : File) → f.size ≡ g.size → OnEach f (IsEither g.stable (with_sector p sector g.stable)) → ComesBy R g f
  comes_written f size each o out = (g, settled_itself g settled, go (each o out))
    where
      long : o.size ≡ g.size
      long = out.size ∙ size

      go : IsEither g.stable (with_sector p sector g.stable) o → R (on_medium g) (on_medium o)
      go (inl is) = subst (λ (x : image.File). R (on_medium g) x) (λ i. file_of (sym long i) (sym is i)) (same (on_medium g))
      go (inr is) = subst (λ (x : image.File). R (on_medium g) x) (λ i. file_of (sym long i) (sym is i)) becomes

-- both are sound
pub sound_on_each : (capacity p : ℕ) (sector : List ℕ) (g f : File) → f.size ≡ g.size → OnEach f (IsEither g.stable (with_sector p sector g.stable))
    → IsSound (file_of g.size g.stable) capacity → IsSound (file_of g.size (with_sector p sector g.stable)) capacity → OnEach f (λ o. IsSound (on_medium o) capacity)
sound_on_each capacity p sector g f size each old new o out = go (each o out)
  where
    long : o.size ≡ g.size
    long = out.size ∙ size

    go : IsEither g.stable (with_sector p sector g.stable) o → IsSound (on_medium o) capacity
    go (inl is) = subst (λ (x : image.File). IsSound x capacity) (λ i. file_of (sym long i) (sym is i)) old
    go (inr is) = subst (λ (x : image.File). IsSound x capacity) (λ i. file_of (sym long i) (sym is i)) new

-- what is left of a quiet file
pub quiet_left : (layer : Layer) (host : ℕ) (f : File) → IsQuiet layer host f → IsLeft layer host f
quiet_left layer host f q = record { alone = q.writer.knows.alone; made = q.writer.knows.made; sound = q.writer.knows.each }
