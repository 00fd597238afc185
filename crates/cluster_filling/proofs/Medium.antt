-- A filled cluster as its host sees it, and on the medium.
use Rattle.std.proofs.Common.{◌≡◌, ◌⊎◌, ℕ, ◌+◌, ◌<◌, ◌≤◌, Bool, List, Some, sym, subst, inl, inr, arith, ◌*◌, ◌/◌, ◌%◌, ◌^◌, ap, ap₂, ◌∙◌, replicate}
use Rattle.std.specs.Prelude.{if◌then◌else◌}
use Rattle.std.proofs.lemmas.Bool.{lt-ltb}
use Rattle.std.proofs.lemmas.Nat.{div-add-mod', mod_below}
use Rattle.shared_disk.specs.Calls.{sectors_in, synced, wrote}
use Rattle.shared_disk.specs.Content.{Content, File, Loose}
use Rattle.shared_disk.specs.Crash.{IsOutcomeSector, IsSettled, OnEach}
use Rattle.shared_disk.proofs.Outcomes.{nothing_in}
use Rattle.std.specs.List.{Contains}
use Rattle.chain_model.specs.Folder.{Volumes}
use Rattle.volume_chain.specs.declared.chain.Chain.{Chain}
use Rattle.image_model.specs.File.{sector_in}
use Rattle.chain_reading.proofs.Numbers.{in_cluster, sector_of_place}
use Rattle.cluster_filling.specs.Cluster.{IsClusterOf, IsWanted}
use Rattle.cluster_filling.specs.Filled.{HasFilled, SeesFilled}
use Rattle.cluster_filling.specs.Filling.{KnowsFile, file_at}
use Rattle.cluster_filling.specs.declared.cluster.Cluster.{Cluster}
use Rattle.cluster_filling.specs.declared.cluster.NewCluster.{NewCluster}
use Rattle.cluster_filling.proofs.Steps.{one_file, seen_beside}

pub file_seen : (k : Cluster) (c : Chain) (host : ℕ) (x : Volumes) (part : List ℕ) (d : Content) (f : File) → KnowsFile k c host x part k.count d → d.file (file_at k c) ≡ Some f → SeesFilled k c x part host f
file_seen k c host x part d f knows there =
    subst (λ (g : File). SeesFilled k c x part host g) (one_file (d.file (file_at k c)) knows.file f knows.there there) (record { inside = knows.inside; each = knows.filled })

apart_from : (k : Cluster) (at n j : ℕ) → (at + n ≤ k.target) ⊎ (k.target + k.count ≤ at) → j < k.count → (k.target + j < at) ⊎ (at + n ≤ k.target + j)
apart_from k at n j (inl before) less = inr (omega (arith, before))
apart_from k at n j (inr behind) less = inl (omega (arith, behind, less))

pub beside_seen : (k : Cluster) (c : Chain) (x : Volumes) (part : List ℕ) (did : ℕ → Bool) (host at : ℕ) (bytes : List ℕ) (f : File) → (at + sectors_in bytes ≤ k.target) ⊎ (k.target + k.count ≤ at) → SeesFilled k c x part host f
    → SeesFilled k c x part host (wrote did host at bytes f)
beside_seen k c x part did host at bytes f side sees = record {
  inside = sees.inside;
  each = λ j less. subst (λ (s : List ℕ). IsWanted k c x part (k.first + j) s) (sym (seen_beside did host at (k.target + j) bytes f (apart_from k at (sectors_in bytes) j side less))) (sees.each j less);
}

pub synced_has : (k : Cluster) (c : Chain) (x : Volumes) (part : List ℕ) (host : ℕ) (f : File) → SeesFilled k c x part host f → HasFilled k c x part (synced host f)
synced_has k c x part host f sees = record { inside = sees.inside; each = sees.each }

stable_sector : (f : File) (n : ℕ) (s : List ℕ) → IsSettled f → IsOutcomeSector f n s → s ≡ f.stable n
stable_sector f n s settled (inl same) = same
stable_sector f n s settled (inr (inl loose)) = absurd (nothing_in loose.0 (subst (λ (ls : List Loose). Contains ls loose.0) settled.loose loose.1))
stable_sector f n s settled (inr (inr fresh)) = absurd (let made = fresh.0.1 in let none = settled.fresh in cc)

pub outcome_has : (k : Cluster) (c : Chain) (x : Volumes) (part : List ℕ) (f : File) → IsSettled f → HasFilled k c x part f → OnEach f (HasFilled k c x part)
outcome_has k c x part f settled has g out = record {
  inside = let size = out.size in let within = has.inside in omega (arith, size, within);
  each = λ j less. subst (λ (s : List ℕ). IsWanted k c x part (k.first + j) s) (sym (stable_sector f (k.target + j) (g.stable (k.target + j)) settled (out.sectors (k.target + j)))) (has.each j less);
}

-- a sector of the virtual disk by its cluster, as the medium has it
pub sector_there : (new : NewCluster) (k : Cluster) (c : Chain) (x : Volumes) (part : List ℕ) (f : File) (n : ℕ) → IsClusterOf new k → new.place < 2 ^ 63 → new.number * (new.width / 512) ≤ 2 ^ 54 → new.width % 512 ≡ 0
    → 512 * n / new.width ≡ new.number → HasFilled k c x part f → IsWanted k c x part n (sector_in f.size f.stable ((new.place + 512 * n % new.width) / 512))
sector_there new k c x part f n is place first whole at has =
    let count = is.count in
    let some = k.some in
    let width : new.width ≡ 512 * k.count = omega (arith, whole, count) in
    let both = in_cluster n k.count new.width (omega (arith, some)) width in
    let split : n / k.count * k.count + n % k.count ≡ n = div-add-mod' n k.count in
    let low : n % k.count < k.count = mod_below n k.count (omega (arith, some)) in
    let begins : k.first ≡ n / k.count * k.count = is.first first ∙ ap₂ (λ (a b : ℕ). a * b) (sym at ∙ both.0) (sym count) in
    let here : k.first + n % k.count ≡ n = omega (arith, begins, split) in
    let target : (new.place + 512 * n % new.width) / 512 ≡ k.target + n % k.count =
    ap (λ m. (new.place + m) / 512) both.1 ∙ sector_of_place new.place (n % k.count) ∙ ap (λ m. m + n % k.count) (sym (is.target place)) in
    let within = has.inside in
    let inside : k.target + n % k.count < f.size = omega (arith, within, low) in
    let stands : sector_in f.size f.stable (k.target + n % k.count) ≡ f.stable (k.target + n % k.count) =
    ap (λ b. if b then f.stable (k.target + n % k.count) else replicate 512 0) (lt-ltb (k.target + n % k.count) f.size inside) in
    subst (λ (s : List ℕ). IsWanted k c x part n s) (sym (ap (sector_in f.size f.stable) target ∙ stands))
    (subst (λ m. IsWanted k c x part m (f.stable (k.target + n % k.count))) here (has.each (n % k.count) low))
