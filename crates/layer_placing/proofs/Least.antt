-- The least free clusters of a map.
use Rattle.std.proofs.Common.{◌≡◌, ◌⊎◌, inl, inr, ℕ, zero, suc, ◌+◌, ◌-◌, ◌*◌, ◌/◌, ◌^◌, ◌<◌, ◌≤◌, ◌++◌, ◌∷◌, [], min, Bool, true, false, List, length, refl, sym, ap, ◌∙◌, subst, arith, not}
use Rattle.std.specs.Prelude.{if◌then◌else◌, slice_index}
use Rattle.std.proofs.lemmas.Bool.{cases_lt}
use Rattle.std.proofs.lemmas.List.{get_or_append_left, get_or_push, length_push}
use Rattle.std.proofs.Math.Nat.{mul-le-mul_right, div-add-mod, mul_comm}
use Rattle.image_model.specs.File as image
use Rattle.layer_laws.specs.Laws as laws
use Rattle.image_model.specs.Layer.{Tables, covered, is_used}
use Rattle.image_model.specs.Room.{IsWanted, Room, Short, enough, end_of_room, free_below, how_many, never, room_of}
use Rattle.qcow_layer.specs.Knowing.{is_free, mapped}
use Rattle.qcow_layer.specs.declared.layer.Layer.{Layer}
use Rattle.layer_writing.specs.Writer.{MapTells}
use Rattle.layer_placing.specs.Chosen.{AreLeast, IsNthFree, IsShort, IsWantedLength, most_clusters}

-- ---- how many there are

one_more : (P : ℕ → Bool) (m : ℕ) → how_many P (suc m) ≡ how_many P m + (if P m then 1 else 0)
unfolding how_many
one_more P m = refl

pub none_between : (P : ℕ → Bool) (a b : ℕ) → a ≤ b → ((c : ℕ) → a ≤ c → c < b → P c ≡ false) → how_many P b ≡ how_many P a
none_between P a zero le none = let same : a ≡ zero = omega (arith, le) in ap (how_many P) (sym same)
none_between P a (suc m) le none = go (cases_lt m a) (none_between P a m)
  where
    go : (m < a) ⊎ (a ≤ m) → (a ≤ m → ((c : ℕ) → a ≤ c → c < m → P c ≡ false) → how_many P m ≡ how_many P a) → how_many P (suc m) ≡ how_many P a
    go (inl lt) before = let same : a ≡ suc m = omega (arith, le, lt) in ap (how_many P) (sym same)
    go (inr less) before =
        let rest = before less (λ c low high. none c low (omega (arith, high))) in
        one_more P m ∙ ap (λ (b : Bool). how_many P m + (if b then 1 else 0)) (none m less (omega arith)) ∙ omega (arith, rest)

pub next_counted : (P : ℕ → Bool) (x : ℕ) → P x ≡ true → how_many P (x + 1) ≡ how_many P x + 1
next_counted P x is = let e : x + 1 ≡ suc x = omega arith in ap (how_many P) e ∙ one_more P x ∙ ap (λ (b : Bool). how_many P x + (if b then 1 else 0)) is

pub grows : (P : ℕ → Bool) (n m : ℕ) → n ≤ m → how_many P n ≤ how_many P m
grows P n zero le = let same : n ≡ zero = omega (arith, le) in subst (λ x. how_many P x ≤ how_many P zero) (sym same) (omega arith)
grows P n (suc m) le = go (cases_lt m n) (grows P n m)
  where
    go : (m < n) ⊎ (n ≤ m) → (n ≤ m → how_many P n ≤ how_many P m) → how_many P n ≤ how_many P (suc m)
    go (inl lt) before = let same : n ≡ suc m = omega (arith, le, lt) in subst (λ x. how_many P x ≤ how_many P (suc m)) (sym same) (omega arith)
    go (inr less) before = let more = before less in let e = one_more P m in omega (arith, more, e)

nothing : (P : ℕ → Bool) → how_many P zero ≡ 0
unfolding how_many
nothing P = refl

pub same_many : (P Q : ℕ → Bool) (n : ℕ) → ((c : ℕ) → c < n → P c ≡ Q c) → how_many P n ≡ how_many Q n
same_many P Q zero same = nothing P ∙ sym (nothing Q)
same_many P Q (suc m) same =
    one_more P m ∙ ap (λ (b : Bool). how_many P m + (if b then 1 else 0)) (same m (omega arith))
    ∙ ap (λ n. n + (if Q m then 1 else 0)) (same_many P Q m (λ c lt. same c (omega (arith, lt)))) ∙ sym (one_more Q m)

-- ---- the loop

-- the clusters that were found below `next`, of those below `end`
pub record Collects (layer : Layer) (end next : ℕ) (xs : List ℕ) : Type 0 where
  pub each : (i : ℕ) → i < length xs → IsNthFree layer i (slice_index xs i) × (slice_index xs i < end) × (slice_index xs i < mapped layer)
  pub below : how_many (is_free layer) next ≡ length xs
  pub near : next ≤ min end (mapped layer)

pub begins : (layer : Layer) (end : ℕ) → Collects layer end 0 []
unfolding how_many
begins layer end = record { each = λ i lt. absurd (omega (arith, lt)); below = refl; near = omega arith }

pub collected : (layer : Layer) (end next cluster : ℕ) (xs : List ℕ) → Collects layer end next xs → next ≤ cluster → cluster < end → cluster < mapped layer → is_free layer cluster ≡ true
    → ((c : ℕ) → next ≤ c → c < cluster → is_free layer c ≡ false) → Collects layer end (cluster + 1) (xs ++ cluster ∷ [])
collected layer end next cluster xs before le low inside free none = record {
  each = λ i lt. go i lt (cases_lt i (length xs));
  below = next_counted (is_free layer) cluster free ∙ ap (λ n. n + 1) here ∙ sym (length_push xs cluster);
  near = omega (arith, low, inside);
}
  where
    here : how_many (is_free layer) cluster ≡ length xs
    here = none_between (is_free layer) next cluster le none ∙ before.below

    go : (i : ℕ) → i < length (xs ++ cluster ∷ []) → (i < length xs) ⊎ (length xs ≤ i)
        → IsNthFree layer i (slice_index (xs ++ cluster ∷ []) i) × (slice_index (xs ++ cluster ∷ []) i < end) × (slice_index (xs ++ cluster ∷ []) i < mapped layer)
    go i lt (inl old) =
        subst (λ y. IsNthFree layer i y × (y < end) × (y < mapped layer)) (sym (get_or_append_left xs (cluster ∷ []) 0 i old)) (before.each i old)
    go i lt (inr new) =
        let at : length xs ≡ i = omega (arith, new, lt, length_push xs cluster) in
        subst (λ y. IsNthFree layer i y × (y < end) × (y < mapped layer)) (sym (get_or_push xs cluster 0 i at))
        (record { free = free; below = here ∙ at }, low, inside)

pub complete : (layer : Layer) (end count next : ℕ) (xs : List ℕ) → Collects layer end next xs → length xs ≤ count
    → ((c : ℕ) → next ≤ c → c < end → c < mapped layer → is_free layer c ≡ false) → AreLeast layer end count xs
complete layer end count next xs found many none = record {
  each = found.each;
  many = many;
  few = λ _. none_between (is_free layer) next (min end (mapped layer)) found.near (λ c low high. none c low (omega (arith, high)) (omega (arith, high))) ∙ found.below;
}

pub enough_found : (layer : Layer) (end count next : ℕ) (xs : List ℕ) → Collects layer end next xs → length xs ≡ count → AreLeast layer end count xs
enough_found layer end count next xs found all = record { each = found.each; many = omega (arith, all); few = λ lt. absurd (omega (arith, lt, all)) }

-- ---- a length that would do

pub few_wanted : (layer : Layer) (count most cluster : ℕ) (xs : List ℕ) → cluster ≡ 2 ^ layer.work.header.cluster_bits → AreLeast layer (most / cluster) count xs → length xs < count → IsWantedLength layer count most 0
few_wanted layer count most cluster xs is least few =
    inr (refl, subst (λ c. how_many (is_free layer) (min (most / c) (mapped layer)) < count) is (subst (λ n. n < count) (sym (least.few few)) few))

pub some_wanted : (layer : Layer) (count most cluster : ℕ) (xs : List ℕ) → cluster ≡ 2 ^ layer.work.header.cluster_bits → AreLeast layer (most / cluster) count xs → length xs ≡ count → 1 ≤ count
    → IsWantedLength layer count most ((slice_index xs (length xs - 1) + 1) * cluster)
some_wanted layer count most cluster xs is least all some =
    let last : length xs - 1 < length xs = omega (arith, all, some) in
    let at = least.each (length xs - 1) last in
    let x : ℕ = slice_index xs (length xs - 1) in
    let rows : (x + 1) * cluster ≤ most / cluster * cluster = mul-le-mul_right cluster (omega (arith, at.1)) in
    let one = div-add-mod most cluster in
    let two = mul_comm (most / cluster) cluster in
    inl (
      x + 1,
      ap (λ c. (x + 1) * c) is,
      omega (arith, rows, one, two),
      omega (arith, at.2),
      omega (arith, next_counted (is_free layer) x at.0.free, at.0.below, all, some),
      λ less lt. let more = grows (is_free layer) less x (omega (arith, lt)) in omega (arith, more, at.0.below, all, some),
    )

-- ---- what is said of a file

pub same_end : (n v most b : ℕ) → most ≡ min v b → min (min n v) b ≡ min n most
same_end n v most b e = omega (arith, e)

pub fewer_free : (layer : Layer) (t : Tables) (n : ℕ) → MapTells layer t → n ≤ mapped layer → free_below (room_of t) n ≡ how_many (is_free layer) n
fewer_free layer t n tells le = same_many (λ c. not (is_used t c)) (is_free layer) n (λ c lt. sym (tells c (omega (arith, lt, le))))

pub short_in : (layer : Layer) (t : Tables) (count end most wanted : ℕ) (xs : List ℕ) → t.header ≡ layer.work.header → MapTells layer t → end ≡ end_of_room (room_of t) → most ≡ min (room_of t).covered (2 ^ 56)
    → AreLeast layer end count xs → length xs < count → IsWantedLength layer count most wanted → IsShort layer (room_of t) count (end * (room_of t).cluster) wanted
short_in layer t count end most wanted xs same tells at top least few wants = record {
  few = subst (λ e. free_below (room_of t) (min e (mapped layer)) < count) at
      (subst (λ n. n < count) (sym (fewer_free layer t (min end (mapped layer)) tells (omega arith) ∙ least.few few)) few);
  room = ap (λ e. e * (room_of t).cluster) at;
  wanted = go wants;
}
  where
    width : 2 ^ layer.work.header.cluster_bits ≡ (room_of t).cluster
    width = ap (λ h. 2 ^ h.cluster_bits) (sym same)

    zero_case : (wanted ≡ 0) → how_many (is_free layer) (min (most / 2 ^ layer.work.header.cluster_bits) (mapped layer)) < count → (mapped layer < most_clusters (room_of t)) ⊎ (most_clusters (room_of t) ≤ mapped layer)
        → IsWanted (room_of t) count wanted ⊎ ((wanted ≡ 0) × (mapped layer < most_clusters (room_of t)) × (free_below (room_of t) (mapped layer) < count))
    zero_case none less (inl lt) =
        let is : min (most / 2 ^ layer.work.header.cluster_bits) (mapped layer) ≡ mapped layer = clusters ∙ omega (arith, lt) in
        inr (none, lt, subst (λ n. n < count) (ap (how_many (is_free layer)) is ∙ sym (fewer_free layer t (mapped layer) tells (omega arith))) less)
      where
        clusters : min (most / 2 ^ layer.work.header.cluster_bits) (mapped layer) ≡ min (most_clusters (room_of t)) (mapped layer)
        clusters = ap (λ c. min (most / c) (mapped layer)) width ∙ ap (λ m. min (m / (room_of t).cluster) (mapped layer)) top
    zero_case none less (inr le) =
        let is : min (most / 2 ^ layer.work.header.cluster_bits) (mapped layer) ≡ most_clusters (room_of t) = clusters ∙ omega (arith, le) in
        inl (subst (λ n. IsWanted (room_of t) count n) (sym none) (never (subst (λ n. n < count) (ap (how_many (is_free layer)) is ∙ sym (fewer_free layer t (most_clusters (room_of t)) tells le)) less)))
      where
        clusters : min (most / 2 ^ layer.work.header.cluster_bits) (mapped layer) ≡ min (most_clusters (room_of t)) (mapped layer)
        clusters = ap (λ c. min (most / c) (mapped layer)) width ∙ ap (λ m. min (m / (room_of t).cluster) (mapped layer)) top

    go : IsWantedLength layer count most wanted → IsWanted (room_of t) count wanted ⊎ ((wanted ≡ 0) × (mapped layer < most_clusters (room_of t)) × (free_below (room_of t) (mapped layer) < count))
    go (inl w) =
        let is : wanted ≡ w.0 * (room_of t).cluster = w.1 ∙ ap (λ c. w.0 * c) width in
        inl (subst (λ n. IsWanted (room_of t) count n) (sym is) (enough {end = w.0}
        (subst (λ n. count ≤ n) (sym (fewer_free layer t w.0 tells w.3)) w.4)
        (λ less lt. subst (λ n. n < count) (sym (fewer_free layer t less tells (omega (arith, lt, w.3)))) (w.5 less lt))
        (subst (λ n. n ≤ min (room_of t).covered (2 ^ 56)) is (subst (λ n. wanted ≤ n) top w.2))))
    go (inr z) = zero_case z.0 z.1 (cases_lt (mapped layer) (most_clusters (room_of t)))

pub end_at : (layer : Layer) (file : image.File) (bytes most end cluster : ℕ) → file.size ≡ bytes → most ≡ min (covered (laws.layer layer.work.header file)) (2 ^ 56) → end ≡ min bytes most → cluster ≡ 2 ^ layer.work.header.cluster_bits
    → end / cluster ≡ end_of_room (room_of (laws.layer layer.work.header file))
end_at layer file bytes most end cluster size top low width =
    ap (λ c. end / c) width
    ∙ ap (λ n. n / 2 ^ layer.work.header.cluster_bits) (low ∙ ap (λ n. min n most) (sym size) ∙ sym (same_end file.size (covered (laws.layer layer.work.header file)) most (2 ^ 56) top))

-- ---- what the definition of room says

pub short_whole : (layer : Layer) (r : Room) (need bytes length : ℕ) → end_of_room r ≤ mapped layer → (most_clusters r ≤ mapped layer) ⊎ (need ≤ free_below r (mapped layer)) → IsShort layer r need bytes length → Short r need bytes length
short_whole layer r need bytes length low all short = record {
  few = let is : min (end_of_room r) (mapped layer) ≡ end_of_room r = omega (arith, low) in subst (λ n. free_below r n < need) is short.few;
  room = short.room;
  wanted = go short.wanted all;
}
  where
    go : IsWanted r need length ⊎ ((length ≡ 0) × (mapped layer < most_clusters r) × (free_below r (mapped layer) < need)) → (most_clusters r ≤ mapped layer) ⊎ (need ≤ free_below r (mapped layer)) → IsWanted r need length
    go (inl w) all = w
    go (inr z) (inl le) = absurd (omega (arith, z.1, le))
    go (inr z) (inr le) = absurd (omega (arith, z.2, le))
