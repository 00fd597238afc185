-- A call of the disk in other words for the same.
use Rattle.std.proofs.Common.{◌≡◌, ℕ, ◌+◌, ◌-◌, ◌*◌, ◌/◌, ◌^◌, min, List, Result, ap, ◌∙◌, arith, subst}
use Rattle.sd_names.specs.declared.place.Place.{Place}
use Rattle.shared_disk.specs.Content.{Content}
use Rattle.shared_disk.specs.Calls.{WriteAt}
use Rattle.layer_linking.specs.Calls.{near}
use Rattle.shared_disk.specs.declared.disk.DiskAnswer.{DiskAnswer}

pub written_at : (d e : Content) (host k k' : ℕ) (p p' : Place) (bytes bytes' : List ℕ) (answer : Result (Unit {0}) DiskAnswer) → p ≡ p' → k ≡ k' → bytes ≡ bytes'
    → WriteAt d host p k bytes answer e → WriteAt d host p' k' bytes' answer e
written_at d e host k k' p p' bytes bytes' answer a b c is =
    subst (λ (x : List ℕ). WriteAt d host p' k' x answer e) c (subst (λ (x : ℕ). WriteAt d host p' x bytes answer e) b (subst (λ (x : Place). WriteAt d host x k bytes answer e) a is))

pub sector_back : (at : ℕ) → at / 512 * 512 / 512 ≡ at / 512
sector_back at = omega arith

-- where a piece stands
pub piece_at : (table piece index size size' at : ℕ) → index ≡ piece → size ≡ size' → at ≡ min (table + index * size) (2 ^ 64 - 1) → at / 512 * 512 / 512 ≡ near (table + piece * size') / 512
piece_at table piece index size size' at a b is =
    sector_back at ∙ ap (λ (x : ℕ). x / 512) (is ∙ ap (λ (x : ℕ). min (table + x * size) (2 ^ 64 - 1)) a ∙ ap (λ (x : ℕ). min (table + piece * x) (2 ^ 64 - 1)) b)
