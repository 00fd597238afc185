-- What volumes read as while bytes of the top are committed.
use Rattle.std.proofs.Common.{◌≡◌, ℕ, true, List, Option, Some, unwrap_or, sym, ap, ◌∙◌, inl, inr}
use Rattle.std.specs.Prelude.{◌≢◌}
use Rattle.sd_names.specs.declared.id.Id.{Id}
use Rattle.chain_model.specs.Folder.{Volumes}
use Rattle.chain_model.specs.Records.{Records, is_legal}
use Rattle.chain_model.specs.Chain.{IsBelow, counting}
use Rattle.chain_model.specs.Flat.{IsFlat, IsSectorOf, first_of, flat}
use Rattle.chain_model.specs.Own.{own}
use Rattle.chain_model.specs.Reading.{IsReading}
use Rattle.chain_laws.specs.Laid.{IsInPart, Laying, Reads, sector_in_part}
use Rattle.chain_laws.specs.Written.{HoldsPart, IsWritten}
use Rattle.chain_laws.proofs.Mixed.{mixed}
use Rattle.commit_laws.specs.Commit.{IsCommit, IsHeldBy}
use Rattle.commit_laws.proofs.Covers.{base_below, covered}

pub others_read : (l : Laying) (top v : Id) (vs : List Id) (flats : Id → ℕ → List ℕ) (x y : Volumes) → IsReading l.records v vs → IsCommit l top → IsHeldBy l top x
    → IsBelow l.records l.volume l.below → IsFlat l.records flats x → Reads l l.reads x → IsWritten l x y
    → (u : Id) (us : List Id) → u ≢ l.volume → is_legal l.records u ≡ true → IsBelow l.records u us → (k : ℕ) → IsSectorOf l.records u k → flat l.records y u us k ≡ flats u k
others_read l top v vs flats x y reading commit holds below is reads written u us other legal under k s =
    elim (mixed l flats x y below is reads (covered l top v vs x reading commit holds) written u us legal under k s) [ inl e ↦ e | inr h ↦ absurd (other h.0) ]

held_read : (r : Records) (x : Volumes) (v : Id) (vs : List Id) (k : ℕ) (s : List ℕ) → own r x v k ≡ Some s → flat r x v vs k ≡ s
held_read r x v vs k s held = ap (λ (o : Option (List ℕ)). unwrap_or o (first_of r x (counting r vs) k)) held

pub reads_alike : (l : Laying) (top : Id) (vs below : List Id) (x y : Volumes) (k : ℕ) → IsCommit l top → IsHeldBy l top x → IsWritten l x y → HoldsPart l y
    → IsInPart l.part k → IsSectorOf l.records l.volume k → flat l.records y l.volume below k ≡ flat l.records y top vs k
reads_alike l top vs below x y k commit holds written part inside s =
    held_read l.records y l.volume below k (sector_in_part l.part k) (part k inside s)
    ∙ sym (held_read l.records y top vs k (sector_in_part l.part k) (written.others top (λ e. base_below l top commit e) k ∙ holds k inside))
