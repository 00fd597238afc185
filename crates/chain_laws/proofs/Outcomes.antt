-- The outcomes of a folder come from those from before.
use Rattle.std.proofs.Common.{◌≡◌, ℕ, ◌<◌, Bool, true, false, List, Option, Some, None, refl, sym, ap, ◌∙◌, subst}
use Rattle.std.specs.Prelude.{◌≢◌, if◌then◌else◌}
use Rattle.std.proofs.lemmas.Bool.{false≢true}
use Rattle.sd_names.specs.declared.id.Id.{Id}
use Rattle.sd_names.specs.declared.place.Name.{Name}
use Rattle.sd_names.specs.declared.place.Name.TheVariants.{Volume}
use Rattle.shared_disk.specs.Content.{File}
use Rattle.shared_disk.specs.Crash.{IsAlso, IsFileOutcome}
use Rattle.shared_disk.specs.Places.{id_is, name_is}
use Rattle.shared_disk.proofs.Places.{id_is-itself, id_is-same, name_is-itself, name_is-same, not_false}
use Rattle.volume_meta.specs.declared.record.VolumeRecord.{VolumeRecord}
use Rattle.chain_model.specs.Chain.{IsBelow}
use Rattle.chain_model.specs.Flat.{IsFlat, IsSectorOf}
use Rattle.chain_model.specs.Folder.{Folder, IsFolderOutcome, OnEachFolder, volumes_of}
use Rattle.chain_model.specs.Own.{own, own_by, own_in, sectors_of}
use Rattle.chain_laws.specs.Laid.{AreLaid, AreMixed, IsPartCovered, Laying, Reads}
use Rattle.chain_laws.specs.Written.{ComesWritten, FileWritten, HoldsPart, IsChangedAt, IsHeld}
use Rattle.chain_laws.proofs.Goes.{written_itself, written_through}
use Rattle.chain_laws.proofs.Mixed.{laid_flats, mixed}

pub comes_itself : (l : Laying) (F : Folder) → ComesWritten l F F
comes_itself l F O out = (O, out, written_itself l (volumes_of O))

pub comes_through : (l : Laying) (F G H : Folder) → ComesWritten l F G → ComesWritten l G H → ComesWritten l F H
comes_through l F G H first second O out =
    let b = second O out in let a = first b.0 b.1 in (a.0, a.1, written_through l (volumes_of a.0) (volumes_of b.0) (volumes_of O) a.2 b.2)

pub mixed_outcomes : (l : Laying) (flats : Id → ℕ → List ℕ) (F G : Folder) → IsBelow l.records l.volume l.below
    → OnEachFolder F (λ O. IsFlat l.records flats (volumes_of O) × Reads l l.reads (volumes_of O) × IsPartCovered l (volumes_of O))
    → ComesWritten l F G → OnEachFolder G (λ O. AreMixed l flats (volumes_of O))
mixed_outcomes l flats F G below each comes O out =
    let a = comes O out in let h = each a.0 a.1 in mixed l flats (volumes_of a.0) (volumes_of O) below h.0 h.1 h.2 a.2

pub laid_outcomes : (l : Laying) (flats new : Id → ℕ → List ℕ) (F G : Folder) → IsBelow l.records l.volume l.below
    → OnEachFolder F (λ O. IsFlat l.records flats (volumes_of O) × Reads l l.reads (volumes_of O) × IsPartCovered l (volumes_of O))
    → ComesWritten l F G → OnEachFolder G (λ O. HoldsPart l (volumes_of O)) → AreLaid l flats new → OnEachFolder G (λ O. IsFlat l.records new (volumes_of O))
laid_outcomes l flats new F G below each comes holds laid O out =
    let a = comes O out in let h = each a.0 a.1 in laid_flats l flats new (volumes_of a.0) (volumes_of O) below h.0 h.1 h.2 a.2 (holds O out) laid

-- ---- one file changed

-- a folder with this file of a volume
abbrev with_volume : Id → File → Folder → Folder
with_volume v g F name = if name_is name (Volume v) then Some g else F name

pub some_outcome : (o p : Option File) (f : File) → o ≡ Some f → IsAlso IsFileOutcome o p → (g : File) × (p ≡ Some g) × IsFileOutcome f g
some_outcome o None f e h = absurd (subst (λ (q : Option File). IsAlso IsFileOutcome q None) e h)
some_outcome o (Some g) f e h = (g, refl, subst (λ (q : Option File). IsAlso IsFileOutcome q (Some g)) e h)

name_apart : (n m : Name) → name_is n m ≡ false → n ≢ m
name_apart n m t e = false≢true (sym t ∙ subst (λ (z : Name). name_is n z ≡ true) e (name_is-itself n))

from_before : (v : Id) (f f' g : File) (F F' O : Folder) → IsChangedAt v f f' F F' → IsFileOutcome f g → IsFolderOutcome F' O → IsFolderOutcome F (with_volume v g O)
from_before v f f' g F F' O at out all name = go (name_is name (Volume v)) refl
  where
    go : (t : Bool) → name_is name (Volume v) ≡ t → IsAlso IsFileOutcome (F name) (with_volume v g O name)
    go true t =
        let is : F name ≡ Some f = ap F (name_is-same name (Volume v) t) ∙ at.before in
        rw t (rw is out)
    go false t = rw t (subst (λ (q : Option File). IsAlso IsFileOutcome q (O name)) (at.others name (name_apart name (Volume v) t)) (all name))

others_held : (l : Laying) (g : File) (O : Folder) (w : Id) → w ≢ l.volume → (k : ℕ) → own l.records (volumes_of O) w k ≡ own l.records (volumes_of (with_volume l.volume g O)) w k
others_held l g O w other k =
    let t : id_is w l.volume ≡ false = not_false (id_is w l.volume) (λ is. other (id_is-same w l.volume is)) in
    sym (ap (λ (b : Bool). own_by (l.records w) (if b then Some g else O (Volume w)) k) t)

held_here : (l : Laying) (g g' : File) (O : Folder) → O (Volume l.volume) ≡ Some g'
    → ((x : VolumeRecord) → l.records l.volume ≡ Some x → (k : ℕ) → k < sectors_of x → IsHeld l k (own_in x g k) (own_in x g' k))
    → (k : ℕ) → IsSectorOf l.records l.volume k → IsHeld l k (own l.records (volumes_of (with_volume l.volume g O)) l.volume k) (own l.records (volumes_of O) l.volume k)
held_here l g g' O now held k s =
    let x = s.0 in
    let old : own l.records (volumes_of (with_volume l.volume g O)) l.volume k ≡ own_in x g k =
    ap (λ (b : Bool). own_by (l.records l.volume) (if b then Some g else O (Volume l.volume)) k) (id_is-itself l.volume) ∙ ap (λ (r : Option VolumeRecord). own_by r (Some g) k) s.1 in
    let new : own l.records (volumes_of O) l.volume k ≡ own_in x g' k =
    ap (λ (o : Option File). own_by (l.records l.volume) o k) now ∙ ap (λ (r : Option VolumeRecord). own_by r (Some g') k) s.1 in
    subst (λ (a : Option (List ℕ)). IsHeld l k a (own l.records (volumes_of O) l.volume k)) (sym old) (subst (λ (b : Option (List ℕ)). IsHeld l k (own_in x g k) b) (sym new) (held x s.1 k s.2))

pub changed_comes : (l : Laying) (f f' : File) (F F' : Folder) → IsChangedAt l.volume f f' F F' → FileWritten l f f' → ComesWritten l F F'
changed_comes l f f' F F' at written O out =
    let now = some_outcome (F' (Volume l.volume)) (O (Volume l.volume)) f' at.now (out (Volume l.volume)) in
    let was = written now.0 now.2 in (
      with_volume l.volume was.0 O,
      from_before l.volume f f' was.0 F F' O at was.1 out,
      record { others = others_held l was.0 O; held = held_here l was.0 now.0 O now.1 was.2 },
    )
