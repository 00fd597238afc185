-- A piece that is laid, sector by sector.
use Rattle.std.proofs.Common.{◌≡◌, ◌≢◌, ◌⊎◌, ℕ, ◌+◌, ◌-◌, ◌<◌, ◌≤◌, List, length, refl, sym, ◌∙◌, subst, inl, inr, arith}
use Rattle.std.proofs.lemmas.Bool.{cases_lt}
use Rattle.shared_disk.specs.Calls.{sectors_in}
use Rattle.shared_disk.specs.Content.{sector_of, zero_sector}
use Rattle.cluster_filling.specs.Cluster.{IsIn}
use Rattle.cluster_filling.specs.Laying.{IsLaid, IsLaidSector}
use Rattle.cluster_filling.specs.declared.cluster.Cluster.{Cluster}

pub none_laid : (k : Cluster) (first : ℕ) (part piece : List ℕ) → IsLaid k first part 0 piece piece
none_laid k first part piece = record { len = refl; laid = λ j less. absurd (omega (arith, less)); rest = λ j le. refl }

-- one sector more is laid
pub one_laid : (k : Cluster) (first : ℕ) (part : List ℕ) (to : ℕ) (before piece after : List ℕ) → IsLaid k first part to before piece → length after ≡ length piece
    → IsLaidSector k part (first + to) (sector_of piece to) (sector_of after to) → ((i : ℕ) → i ≢ to → sector_of after i ≡ sector_of piece i) → IsLaid k first part (to + 1) before after
one_laid k first part to before piece after laid len here others = record {
  len = len ∙ laid.len;
  laid = λ j less. go j less (cases_lt j to);
  rest = λ j le. others j (omega (arith, le)) ∙ laid.rest j (omega (arith, le));
}
  where
    go : (j : ℕ) → j < to + 1 → (j < to) ⊎ (to ≤ j) → IsLaidSector k part (first + j) (sector_of before j) (sector_of after j)
    go j less (inl low) = subst (λ (s : List ℕ). IsLaidSector k part (first + j) (sector_of before j) s) (sym (others j (omega (arith, low)))) (laid.laid j low)
    go j less (inr le) =
        let same : to ≡ j = omega (arith, less, le) in
        subst (λ n. IsLaidSector k part (first + n) (sector_of before n) (sector_of after n)) same
        (subst (λ (s : List ℕ). IsLaidSector k part (first + to) s (sector_of after to)) (laid.rest to (omega arith)) here)

-- ---- one sector

pub laid_part : (k : Cluster) (part : List ℕ) (n : ℕ) (before after : List ℕ) → IsIn k (sectors_in part) n → after ≡ sector_of part (n - k.from) → IsLaidSector k part n before after
laid_part k part n before after in_it is = record { inside = λ i. is; past = λ out le. absurd (out in_it); kept = λ out less. absurd (out in_it) }

pub laid_past : (k : Cluster) (part : List ℕ) (n : ℕ) (before after : List ℕ) → (IsIn k (sectors_in part) n → ⊥) → k.capacity ≤ n → after ≡ zero_sector → IsLaidSector k part n before after
laid_past k part n before after out le is = record { inside = λ i. absurd (out i); past = λ o l. is; kept = λ o less. absurd (omega (arith, le, less)) }

pub laid_kept : (k : Cluster) (part : List ℕ) (n : ℕ) (before after : List ℕ) → (IsIn k (sectors_in part) n → ⊥) → n < k.capacity → after ≡ before → IsLaidSector k part n before after
laid_kept k part n before after out less is = record { inside = λ i. absurd (out i); past = λ o le. absurd (omega (arith, le, less)); kept = λ o l. is }
