-- Lists of volumes.
use Rattle.std.proofs.Common.{◌≡◌, ◌⊎◌, ℕ, zero, suc, ◌+◌, ◌<◌, ◌≤◌, Bool, true, false, nat_lt, if◌then◌else◌, List, [], ◌∷◌, ◌++◌, length, map, take, drop, Option, Some, None, refl, sym, ap, ◌∙◌, subst, inl, inr, arith, length-append, length-take}
use Rattle.std.proofs.lemmas.Bool.Decides.{nat_tests}
use Rattle.std.proofs.lemmas.List.{map-append, take-append-le, take_all}
use Rattle.std.proofs.lemmas.List.Elements.{All-contains, All-from_recursion}
use Rattle.std.proofs.lemmas.Map.Keys.{sorted_head, sorted_tail}
use Rattle.std.specs.List.{AllByRecursion, Contains}
use Rattle.std.specs.List.Sorted.{IsStrictlySortedBy}
use Rattle.std.specs.declared.cmp.Ordering.TheVariants.{Less}
use Rattle.sd_names.specs.declared.id.Id.{Id}
use Rattle.shared_disk.proofs.Outcomes.{contains_here, contains_more, nothing_in, cons_cases}
use Rattle.chain_model.specs.Opening.{id_cmp}
use Rattle.chain_records.specs.Records.{ids_of}
use Rattle.chain_gathering.specs.Kept.{first_id, ids_found, is_last, noted}
use Rattle.chain_gathering.specs.declared.found.Found.{Found}
use Rattle.chain_records.specs.declared.volume.Volume.{Volume}

-- an element of a list with one more at its end
pub snoc_cases : {X : Type 0} (x y : X) (xs : List X) → Contains (xs ++ y ∷ []) x → Contains xs x ⊎ (y ≡ x)
snoc_cases x y [] h = go (cons_cases y x [] h)
  where
    go : (y ≡ x) ⊎ Contains [] x → Contains [] x ⊎ (y ≡ x)
    go (inl e) = inr e
    go (inr n) = inl n
snoc_cases x y (z ∷ xs) h = go (cons_cases z x (xs ++ y ∷ []) h) (λ c. snoc_cases x y xs c)
  where
    more : Contains xs x ⊎ (y ≡ x) → Contains (z ∷ xs) x ⊎ (y ≡ x)
    more (inl c) = inl (contains_more z x xs c)
    more (inr e) = inr e

    go : (z ≡ x) ⊎ Contains (xs ++ y ∷ []) x → (Contains (xs ++ y ∷ []) x → Contains xs x ⊎ (y ≡ x)) → Contains (z ∷ xs) x ⊎ (y ≡ x)
    go (inl e) rest = inl (subst (λ u. Contains (z ∷ xs) u) e (contains_here z xs))
    go (inr c) rest = more (rest c)

pub snoc_old : {X : Type 0} (x y : X) (xs : List X) → Contains xs x → Contains (xs ++ y ∷ []) x
snoc_old x y [] h = absurd (nothing_in x h)
snoc_old x y (z ∷ xs) h = go (cons_cases z x xs h) (λ c. snoc_old x y xs c)
  where
    go : (z ≡ x) ⊎ Contains xs x → (Contains xs x → Contains (xs ++ y ∷ []) x) → Contains (z ∷ xs ++ y ∷ []) x
    go (inl e) rest = subst (λ u. Contains (z ∷ xs ++ y ∷ []) u) e (contains_here z (xs ++ y ∷ []))
    go (inr c) rest = contains_more z x (xs ++ y ∷ []) (rest c)

pub snoc_new : {X : Type 0} (y : X) (xs : List X) → Contains (xs ++ y ∷ []) y
snoc_new y [] = contains_here y []
snoc_new y (z ∷ xs) = contains_more z y (xs ++ y ∷ []) (snoc_new y xs)

-- an element of a list of values
pub mapped_in : {X Y : Type 0} (f : X → Y) (xs : List X) (y : Y) → Contains (map f xs) y → (x : X) × Contains xs x × (f x ≡ y)
mapped_in f [] y h = absurd (nothing_in y h)
mapped_in {X} {Y} f (x ∷ xs) y h = go (cons_cases (f x) y (map f xs) h) (λ c. mapped_in f xs y c)
  where
    go : (f x ≡ y) ⊎ Contains (map f xs) y → (Contains (map f xs) y → (z : X) × Contains xs z × (f z ≡ y)) → (z : X) × Contains (x ∷ xs) z × (f z ≡ y)
    go (inl e) rest = (x, contains_here x xs, e)
    go (inr c) rest = let m = rest c in (m.0, contains_more x m.0 xs m.1, m.2)

-- ---- rising lists

pub rising_none : IsStrictlySortedBy id_cmp []
unfolding IsStrictlySortedBy
rising_none = tt

rising_first : (v : Id) (vs : List Id) → ((u : Id) → Contains vs u → id_cmp v u ≡ Less) → IsStrictlySortedBy id_cmp vs → IsStrictlySortedBy id_cmp (v ∷ vs)
unfolding IsStrictlySortedBy
rising_first v vs below s = (all v vs below, s)
  where
    all : (v : Id) (vs : List Id) → ((u : Id) → Contains vs u → id_cmp v u ≡ Less) → AllByRecursion (λ y. id_cmp v y ≡ Less) vs
    all v [] below = tt
    all v (w ∷ ws) below = (below w (contains_here w ws), all v ws (λ u h. below u (contains_more w u ws h)))

pub rising_head : (v u : Id) (vs : List Id) → IsStrictlySortedBy id_cmp (v ∷ vs) → Contains vs u → id_cmp v u ≡ Less
rising_head v u vs s h = All-contains (λ y. id_cmp v y ≡ Less) vs u (All-from_recursion (λ y. id_cmp v y ≡ Less) vs (sorted_head id_cmp v vs s)) h

pub rising_snoc : (vs : List Id) (w : Id) → IsStrictlySortedBy id_cmp vs → ((u : Id) → Contains vs u → id_cmp u w ≡ Less) → IsStrictlySortedBy id_cmp (vs ++ w ∷ [])
rising_snoc [] w s below = rising_first w [] (λ u h. absurd (nothing_in u h)) rising_none
rising_snoc (v ∷ vs) w s below =
    rising_first v (vs ++ w ∷ []) (λ u h. first u (snoc_cases u w vs h)) (rising_snoc vs w (sorted_tail id_cmp v vs s) (λ u h. below u (contains_more v u vs h)))
  where
    first : (u : Id) → Contains vs u ⊎ (w ≡ u) → id_cmp v u ≡ Less
    first u (inl h) = rising_head v u vs s h
    first u (inr e) = subst (λ (x : Id). id_cmp v x ≡ Less) e (below v (contains_here v vs))

-- ---- the volumes that are kept

pub length_ids : (ws : List Found) → length (ids_found ws) ≡ length ws
length_ids [] = refl
length_ids (w ∷ ws) = omega (arith, length_ids ws)

pub length_records : (xs : List Volume) → length (ids_of xs) ≡ length xs
length_records [] = refl
length_records (x ∷ xs) = omega (arith, length_records xs)

pub length_found : (ws : List Found) (vs : List Id) → ids_found ws ≡ take 32 vs → (length ws < 32 → length vs < 32) × (32 ≤ length ws → 32 ≤ length vs) × (length vs ≤ 32 → length ws ≡ length vs)
length_found ws vs e =
    let same : length ws ≡ length (take 32 vs) = sym (length_ids ws) ∙ ap length e in
    let min = length-take 32 vs in
    (λ few. omega (arith, same, min, few), λ many. omega (arith, same, min, many), λ few. omega (arith, same, min, few))

-- one volume more
pub noted_is : (ws : List Found) (vs : List Id) (v : Id) (last : Option Id) → ids_found ws ≡ take 32 vs → ids_found (noted ws v last) ≡ take 32 (vs ++ v ∷ [])
noted_is ws vs v last e = go (nat_lt (length ws) 32) refl
  where
    w : Found
    w = record { id = v; has_file = is_last last v }

    go : (t : Bool) → nat_lt (length ws) 32 ≡ t → ids_found (if t then ws ++ record { id = v; has_file = is_last last v } ∷ [] else ws) ≡ take 32 (vs ++ v ∷ [])
    go true t =
        let few : length ws < 32 = grind (arith, nat_tests) in
        let less : length vs < 32 = (length_found ws vs e).0 few in
        map-append (λ (x : Found). x.id) ws (record { id = v; has_file = is_last last v } ∷ []) ∙ ap (λ (xs : List Id). xs ++ v ∷ []) (e ∙ take_all 32 vs (omega (arith, less)))
        ∙ sym (take_all 32 (vs ++ v ∷ []) (omega (arith, length-append vs (v ∷ []), less)))
    go false t =
        let many : 32 ≤ length ws = grind (arith, nat_tests) in
        e ∙ sym (take-append-le 32 vs (v ∷ []) ((length_found ws vs e).1 many))

pub noted_cases : (ws : List Found) (v : Id) (last : Option Id) (x : Found) → Contains (noted ws v last) x → Contains ws x ⊎ (record { id = v; has_file = is_last last v } ≡ x)
noted_cases ws v last x h = go (nat_lt (length ws) 32) h
  where
    go : (t : Bool) → Contains (if t then ws ++ record { id = v; has_file = is_last last v } ∷ [] else ws) x → Contains ws x ⊎ (record { id = v; has_file = is_last last v } ≡ x)
    go true h = snoc_cases x (record { id = v; has_file = is_last last v }) ws h
    go false h = inl h

-- ---- the volume whose text is read next

-- the volumes are those that were read, this one, and those that follow it
pub record IsSplit (vs : List Id) (k : ℕ) (v : Id) : Type 0 where
  pub back : List Id
  pub whole : vs ≡ take k vs ++ v ∷ back
  pub next : take (suc k) vs ≡ take k vs ++ v ∷ []

pub split_next : (ws : List Found) (k : ℕ) (v : Id) → first_id (drop k ws) ≡ Some v → IsSplit (ids_found ws) k v
split_next [] zero v e = absurd cc
split_next [] (suc k) v e = absurd cc
split_next (w ∷ ws) zero v e =
    let same : w.id ≡ v = cc in
    record { back = ids_found ws; whole = ap (λ (u : Id). u ∷ ids_found ws) same; next = ap (λ (u : Id). u ∷ []) same }
split_next (w ∷ ws) (suc k) v e =
    let s = split_next ws k v e in
    record { back = s.back; whole = ap (λ (vs : List Id). w.id ∷ vs) s.whole; next = ap (λ (vs : List Id). w.id ∷ vs) s.next }

-- nothing is left to read
pub none_next : (ws : List Found) (k : ℕ) → first_id (drop k ws) ≡ None → length ws ≤ k
none_next [] k e = omega arith
none_next (w ∷ ws) zero e = absurd cc
none_next (w ∷ ws) (suc k) e = omega (arith, none_next ws k e)

pub noted_length : (ws : List Found) (v : Id) (last : Option Id) → length (noted ws v last) ≤ length ws + 1
noted_length ws v last = go (nat_lt (length ws) 32)
  where
    go : (t : Bool) → length (if t then ws ++ record { id = v; has_file = is_last last v } ∷ [] else ws) ≤ length ws + 1
    go true = omega (arith, length-append ws (record { id = v; has_file = is_last last v } ∷ []))
    go false = omega arith

-- a volume more leaves those before it
pub noted_front : (ws : List Found) (v : Id) (last : Option Id) (k : ℕ) → k ≤ length ws → take k (ids_found (noted ws v last)) ≡ take k (ids_found ws)
noted_front ws v last k short = go (nat_lt (length ws) 32)
  where
    go : (t : Bool) → take k (ids_found (if t then ws ++ record { id = v; has_file = is_last last v } ∷ [] else ws)) ≡ take k (ids_found ws)
    go true =
        ap (take k) (map-append (λ (x : Found). x.id) ws (record { id = v; has_file = is_last last v } ∷ []))
        ∙ take-append-le k (ids_found ws) (v ∷ []) (omega (arith, short, length_ids ws))
    go false = refl

pub noted_longer : (ws : List Found) (v : Id) (last : Option Id) → length ws ≤ length (noted ws v last)
noted_longer ws v last = go (nat_lt (length ws) 32)
  where
    go : (t : Bool) → length ws ≤ length (if t then ws ++ record { id = v; has_file = is_last last v } ∷ [] else ws)
    go true = omega (arith, length-append ws (record { id = v; has_file = is_last last v } ∷ []))
    go false = omega arith
