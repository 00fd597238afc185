-- A part that is laid piece by piece.
use Rattle.std.proofs.Common.{◌≡◌, ◌⊎◌, ℕ, ◌+◌, ◌<◌, ◌≤◌, List, Option, Some, None, ap, ◌∙◌, subst, inl, inr, arith}
use Rattle.std.specs.Prelude.{◌≢◌}
use Rattle.std.proofs.lemmas.Bool.{cases_lt}
use Rattle.sd_names.specs.declared.id.Id.{Id}
use Rattle.shared_disk.specs.Calls.{sectors_in}
use Rattle.chain_model.specs.Folder.{Volumes}
use Rattle.chain_model.specs.Flat.{IsSectorOf}
use Rattle.chain_model.specs.Own.{own}
use Rattle.chain_model.specs.Records.{Records}
use Rattle.chain_laws.specs.Laid.{IsInPart, Laying, Part, sector_in_part}
use Rattle.chain_laws.specs.Written.{HoldsPart, IsHeld, IsWritten}
use Rattle.commit_laws.specs.Commit.{HoldsTo, IsPieceLaid, IsPieceOf}

inside : (p whole : Part) (k : ℕ) → IsPieceOf p whole → IsInPart p k → IsInPart whole k
inside p whole k piece h = (omega (arith, piece.from, h.0), omega (arith, piece.end, h.1))

held : (l whole : Laying) (k : ℕ) (old new : Option (List ℕ)) → IsPieceOf l.part whole.part → (old ≡ None → l.reads k ≡ whole.reads k) → IsHeld l k old new → IsHeld whole k old new
held l whole k old new piece reads (inl same) = inl same
held l whole k old new piece reads (inr (inl h)) = inr (inl (inside l.part whole.part k piece h.0, h.1 ∙ ap Some (piece.same k h.0)))
held l whole k old new piece reads (inr (inr h)) = inr (inr (h.0, h.1 ∙ ap Some (reads h.0)))

pub written : (l whole : Laying) (x y : Volumes) → IsPieceLaid l whole x → IsWritten l x y → IsWritten whole x y
written l whole x y laid w =
    let others : (u : Id) → u ≢ l.volume → (k : ℕ) → own whole.records y u k ≡ own whole.records x u k =
    subst (λ (r : Records). (u : Id) → u ≢ l.volume → (k : ℕ) → own r y u k ≡ own r x u k) laid.records w.others in
    let each : (k : ℕ) → IsSectorOf whole.records l.volume k → IsHeld l k (own whole.records x l.volume k) (own whole.records y l.volume k) =
    subst (λ (r : Records). (k : ℕ) → IsSectorOf r l.volume k → IsHeld l k (own r x l.volume k) (own r y l.volume k)) laid.records w.held in
    let here : (k : ℕ) → IsSectorOf whole.records whole.volume k → IsHeld l k (own whole.records x whole.volume k) (own whole.records y whole.volume k) =
    subst (λ (v : Id). (k : ℕ) → IsSectorOf whole.records v k → IsHeld l k (own whole.records x v k) (own whole.records y v k)) laid.volume each in
    record {
      others = subst (λ (v : Id). (u : Id) → u ≢ v → (k : ℕ) → own whole.records y u k ≡ own whole.records x u k) laid.volume others;
      held = λ k s. held l whole k (own whole.records x whole.volume k) (own whole.records y whole.volume k) laid.piece (laid.reads k) (here k s);
    }

kept : (l : Laying) (k : ℕ) (old new : Option (List ℕ)) → old ≡ Some (sector_in_part l.part k) → IsHeld l k old new → new ≡ Some (sector_in_part l.part k)
kept l k old new is (inl same) = same ∙ is
kept l k old new is (inr (inl h)) = h.1
kept l k old new is (inr (inr h)) = absurd cc

pub stays : (l : Laying) (end : ℕ) (x y : Volumes) → HoldsTo l end x → IsWritten l x y → HoldsTo l end y
stays l end x y holds w k lt inside s = kept l k (own l.records x l.volume k) (own l.records y l.volume k) (holds k lt inside s) (w.held k s)

pub next : (l whole : Laying) (x y : Volumes) → IsPieceLaid l whole x → HoldsTo whole l.part.at y → HoldsPart l y → HoldsTo whole (l.part.at + sectors_in l.part.bytes) y
next l whole x y laid before part k lt inside s = go (cases_lt k l.part.at)
  where
    each : (j : ℕ) → IsInPart l.part j → IsSectorOf whole.records whole.volume j → own whole.records y whole.volume j ≡ Some (sector_in_part l.part j)
    each =
        subst (λ (v : Id). (j : ℕ) → IsInPart l.part j → IsSectorOf whole.records v j → own whole.records y v j ≡ Some (sector_in_part l.part j)) laid.volume
        (subst (λ (r : Records). (j : ℕ) → IsInPart l.part j → IsSectorOf r l.volume j → own r y l.volume j ≡ Some (sector_in_part l.part j)) laid.records part)

    go : (k < l.part.at) ⊎ (l.part.at ≤ k) → own whole.records y whole.volume k ≡ Some (sector_in_part whole.part k)
    go (inl low) = before k low inside s
    go (inr high) = each k (high, lt) s ∙ ap Some (laid.piece.same k (high, lt))

pub whole_held : (l : Laying) (end : ℕ) (x : Volumes) → l.part.at + sectors_in l.part.bytes ≤ end → HoldsTo l end x → HoldsPart l x
whole_held l end x le holds k inside s = holds k (omega (arith, le, inside.1)) inside s
