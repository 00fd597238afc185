-- What the volume holds since the write began.
use Rattle.std.proofs.Common.{◌≡◌, inl, inr, ℕ, ◌/◌, ◌<◌, List, Option, Some, sym, ap, ◌∙◌}
use Rattle.shared_disk.specs.Calls.{synced}
use Rattle.shared_disk.specs.Content.{File}
use Rattle.shared_disk.specs.Crash.{IsAlone, IsSettled}
use Rattle.shared_disk.proofs.Outcomes.{settled_file, settled_itself, synced_file}
use Rattle.volume_meta.specs.declared.record.VolumeRecord.{VolumeRecord}
use Rattle.layer_writing.proofs.Sectors.{alone_synced}
use Rattle.chain_model.specs.Folder.{Volumes}
use Rattle.chain_model.specs.Own.{own, own_by, own_in}
use Rattle.chain_laws.specs.Laid.{Laying}
use Rattle.chain_laws.specs.Written.{FileWritten, IsHeld}
use Rattle.write_filling.specs.Filling.{HoldsSince}

held_through : (l : Laying) (k : ℕ) (a b c : Option (List ℕ)) → IsHeld l k a b → IsHeld l k b c → IsHeld l k a c
held_through l k a b c (inl e) (inl f) = inl (f ∙ e)
held_through l k a b c (inr (inl h)) (inl f) = inr (inl (h.0, f ∙ h.1))
held_through l k a b c (inr (inr h)) (inl f) = inr (inr (h.0, f ∙ h.1))
held_through l k a b c first (inr (inl h)) = inr (inl h)
held_through l k a b c (inl e) (inr (inr h)) = inr (inr (sym e ∙ h.0, h.1))
held_through l k a b c (inr (inl g)) (inr (inr h)) = let none = h.0 in let some = g.1 in absurd cc
held_through l k a b c (inr (inr g)) (inr (inr h)) = let none = h.0 in let some = g.1 in absurd cc

pub since_begun : (l : Laying) (x : VolumeRecord) (old : Volumes) (f : File) → l.records l.volume ≡ Some x → old.file l.volume ≡ Some f → IsSettled f → HoldsSince l x old f
since_begun l x old f says there settled o out k lt =
    inl (ap (λ (g : File). own_in x g k) (settled_file f o settled out)
    ∙ sym (ap (λ (r : Option VolumeRecord). own_by r (old.file l.volume) k) says ∙ ap (λ (g : Option File). own_by (Some x) g k) there))

pub since_written : (l : Laying) (x : VolumeRecord) (old : Volumes) (f g : File) → l.records l.volume ≡ Some x → HoldsSince l x old f → FileWritten l f g → HoldsSince l x old g
since_written l x old f g says since written o out k lt =
    let from = written o out in
    held_through l k (own l.records old l.volume k) (own_in x from.0 k) (own_in x o k) (since from.0 from.1 k lt) (from.2 x says k lt)

-- so it is once the host has synced the file
pub since_synced : (l : Laying) (x : VolumeRecord) (old : Volumes) (host : ℕ) (f : File) (k : ℕ) → IsAlone host f → HoldsSince l x old f → k < x.capacity / 512 → IsHeld l k (own l.records old l.volume k) (own_in x (synced host f) k)
since_synced l x old host f k alone since lt = since (synced host f) (synced_file host f (synced host f) (settled_itself (synced host f) (alone_synced host f alone))) k lt
