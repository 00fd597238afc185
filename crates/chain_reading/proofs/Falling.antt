-- Fewer steps are left.
use Rattle.std.proofs.Common.{◌≡◌, ◌⊎◌, ℕ, zero, suc, ◌+◌, ◌-◌, ◌/◌, ◌%◌, ◌<◌, ◌≤◌, Bool, true, false, nat_lt, List, [], ◌∷◌, drop, slice_get, Option, Some, None, sym, ap, ◌∙◌, inl, inr, arith}
use Rattle.std.specs.Prelude.{if◌then◌else◌, max}
use Rattle.std.proofs.lemmas.Bool.{cases_lt, le-ltb, lt-ltb}
use Rattle.sd_names.specs.declared.id.Id.{Id}
use Rattle.volume_chain.specs.Chain.{open_in, path_in}
use Rattle.volume_chain.specs.declared.chain.Chain.{Chain}
use Rattle.volume_chain.specs.declared.volumes.OpenVolume.{OpenVolume}
use Rattle.chain_reading.specs.Asked.{asked_by, asked_in, asked_of, cluster_end, cluster_number}
use Rattle.chain_reading.specs.Left.{clusters, clusters_in, left_asking, path_steps, steps_from, volume_steps, wait}
use Rattle.chain_reading.specs.declared.asked.Asked.{Asked}
use Rattle.chain_reading.specs.declared.part.ReadPart.{ReadPart}
use Rattle.chain_reading.specs.declared.running.Run.{Run}
use Rattle.chain_reading.proofs.Numbers.{behind, rises}

-- ---- the volumes that come later

no_volume : (c : Chain) (o : Option Id) (a : Asked) → asked_by c o None ≡ Some a → ⊥
no_volume c None a e = absurd cc
no_volume c (Some v) a e = absurd cc

one_more : (c : Chain) (first count i : ℕ) (path : List Id) (os : List OpenVolume) (a : Asked) → asked_by c (slice_get path i) (slice_get os i) ≡ Some a
    → path_steps c first count (drop i path) (drop i os) ≡ volume_steps first count a + path_steps c first count (drop (i + 1) path) (drop (i + 1) os)
one_more c first count i [] os a e = absurd cc
one_more c first count i (v ∷ vs) [] a e = absurd (no_volume c (slice_get (v ∷ vs) i) a e)
one_more c first count zero (v ∷ vs) (o ∷ os) a e =
    let same : asked_of c v o ≡ a = cc in
    ap (λ (b : Asked). volume_steps first count b + path_steps c first count vs os) same
one_more c first count (suc i) (v ∷ vs) (o ∷ os) a e =
    let n : suc (i + 1) ≡ suc i + 1 = omega arith in
    one_more c first count i vs os a e ∙ ap (λ (k : ℕ). volume_steps first count a + path_steps c first count (drop k (v ∷ vs)) (drop k (o ∷ os))) n

pub steps_at : (c : Chain) (first count i : ℕ) (a : Asked) → asked_in c i ≡ Some a → steps_from c first count i ≡ volume_steps first count a + steps_from c first count (i + 1)
steps_at c first count i a e = one_more c first count i (path_in c) (open_in c) a e

-- ---- runs

pub no_wait : (r : Run) → r.from ≡ r.to → wait r ≡ 0
no_wait r e = ap (λ b. if b then 1 else 0) (le-ltb r.from r.to (omega (arith, e)))

pub one_wait : (r : Run) → r.from < r.to → wait r ≡ 1
one_wait r less = ap (λ b. if b then 1 else 0) (lt-ltb r.from r.to less)

pub few_wait : (r : Run) → wait r ≤ 1
few_wait r = go (nat_lt r.from r.to)
  where
    go : (b : Bool) → (if b then 1 else 0) ≤ 1
    go true = omega arith
    go false = omega arith

-- a volume that is asked from the part's front on, with no run
pub fresh_left : (p : ReadPart) (c : Chain) (count : ℕ) (o : Option Asked) → asked_in c p.index ≡ o → p.run.from ≡ 0 → p.run.to ≡ 0
    → left_asking p c count o ≤ steps_from c p.first count p.index + 1
fresh_left p c count None e from to = omega arith
fresh_left p c count (Some a) e from to =
    let here = steps_at c p.first count p.index a e in
    let none : wait p.run ≡ 0 = no_wait p.run (from ∙ sym to) in
    let all : clusters_in a p.first count p.run.to ≡ clusters_in a p.first count 0 = ap (clusters_in a p.first count) to in
    omega (arith, here, none, all)

-- ---- clusters

pub no_cluster : (o : Option ℕ) (first at end : ℕ) → end ≤ at → clusters o first at end ≡ 0
no_cluster o first at end le = ap (λ b. if b then cluster_number o first (end - 1) - cluster_number o first at + 1 else 0) (le-ltb at end le)

pub some_cluster : (o : Option ℕ) (first at end : ℕ) → at < end → clusters o first at end ≡ cluster_number o first (end - 1) - cluster_number o first at + 1
some_cluster o first at end less = ap (λ b. if b then cluster_number o first (end - 1) - cluster_number o first at + 1 else 0) (lt-ltb at end less)

number_rises : (o : Option ℕ) (first at to : ℕ) → at ≤ to → cluster_number o first at ≤ cluster_number o first to
number_rises None first at to le = omega arith
number_rises (Some s) first at to le = rises (first + at) (first + to) (max s 1) (omega arith) (omega (arith, le))

-- no more clusters from a later sector on
pub fewer_clusters : (o : Option ℕ) (first at to end : ℕ) → at ≤ to → clusters o first to end ≤ clusters o first at end
fewer_clusters o first at to end le = go (cases_lt to end)
  where
    go : (to < end) ⊎ (end ≤ to) → clusters o first to end ≤ clusters o first at end
    go (inl less) =
        let a = some_cluster o first to end less in
        let b = some_cluster o first at end (omega (arith, less, le)) in
        let c = number_rises o first at to le in
        omega (arith, a, b, c)
    go (inr past) = let a = no_cluster o first to end past in omega (arith, a)

-- and one fewer behind a cluster
pub one_fewer : (o : Option ℕ) (first at end : ℕ) → at < end → clusters o first (cluster_end o first at end) end + 1 ≤ clusters o first at end
one_fewer None first at end less =
    let a = no_cluster None first (max end at) end (omega arith) in
    let b = some_cluster None first at end less in
    omega (arith, a, b)
one_fewer (Some s) first at end less = go (cases_lt (at + (max s 1 - (first + at) % max s 1)) end)
  where
    go : (at + (max s 1 - (first + at) % max s 1) < end) ⊎ (end ≤ at + (max s 1 - (first + at) % max s 1))
        → clusters (Some s) first (cluster_end (Some s) first at end) end + 1 ≤ clusters (Some s) first at end
    go (inl inside) =
        let to : ℕ = at + (max s 1 - (first + at) % max s 1) in
        let e : cluster_end (Some s) first at end ≡ to = omega (arith, inside) in
        let next : (first + at + (max s 1 - (first + at) % max s 1)) / max s 1 ≡ (first + at) / max s 1 + 1 = behind (first + at) (max s 1) (omega arith) in
        let sum : first + to ≡ first + at + (max s 1 - (first + at) % max s 1) = omega arith in
        let number : cluster_number (Some s) first to ≡ cluster_number (Some s) first at + 1 = ap (λ n. n / max s 1) sum ∙ next in
        let a = some_cluster (Some s) first to end inside in
        let b = some_cluster (Some s) first at end less in
        let c = number_rises (Some s) first to (end - 1) (omega (arith, inside)) in
        let d : clusters (Some s) first (cluster_end (Some s) first at end) end ≡ clusters (Some s) first to end = ap (λ n. clusters (Some s) first n end) e in
        omega (arith, a, b, c, d, number)
    go (inr past) =
        let a = no_cluster (Some s) first (cluster_end (Some s) first at end) end (omega (arith, past)) in
        let b = some_cluster (Some s) first at end less in
        omega (arith, a, b)
