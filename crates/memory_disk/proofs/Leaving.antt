-- The last unsynced write of each sector by each host, once writes leave the log.
use Rattle.std.proofs.Common.{◌≡◌, ℕ, ◌<◌, ◌≤◌, ◌&&◌, Bool, true, false, not, if◌then◌else◌, List, [], ◌∷◌, length, map, get_or, reverse, take, Option, Some, None, is_some, Decides, refl, sym, ap, subst, ◌∙◌, arith}
use Rattle.std.specs.Cmp.{IsEquivalence}
use Rattle.std.specs.List.{filter}
use Rattle.std.specs.Set.{is_member}
use Rattle.std.proofs.lemmas.List.{get_or-map, length-map, length-reverse, take_all}
use Rattle.std.proofs.lemmas.Map.Keys.{IsDistinct-from_apart}
use Rattle.std.proofs.lemmas.Map.Made.{is_member-Decides, length-le_from_is_member}
use Rattle.std.proofs.lemmas.Option.{none-some}
use Rattle.memory_disk.specs.Cells.{cell_at, key_eq}
use Rattle.memory_disk.specs.Leaving.{key_of}
use Rattle.memory_disk.specs.Sectors.{kept_count, sector_at}
use Rattle.memory_disk.specs.Store.{loose_in, loose_of}
use Rattle.memory_disk.specs.declared.cell.Cell.{Cell}
use Rattle.memory_disk.specs.declared.entry.Write.{Write}
use Rattle.memory_disk.specs.declared.sector_map.Sectors.{Sectors}
use Rattle.shared_disk.specs.Content.{own_of}
use Rattle.std.specs.HashMap.{get}
use Rattle.memory_disk.proofs.Cells.{kept_here, key_apart, key_back, key_itself, key_same, one_cell}
use Rattle.memory_disk.proofs.Synced.{filter-reverse}
use Rattle.memory_disk.proofs.Within.{own_newest}

-- the key of a write that is left out, or kept
left_step : (p : ℕ × ℕ × ℕ → Bool) (h n k : ℕ) (w : Write) (ws : List Write) (b t : Bool) → p (key_of w) ≡ b → key_eq (key_of w) (h, n, k) ≡ t
    → own_of h k (loose_in n (filter (λ v. not (p (key_of v))) ws)) ≡ (if p (h, n, k) then None else own_of h k (loose_in n ws))
    → own_of h k (loose_in n (filter (λ v. not (p (key_of v))) (w ∷ ws))) ≡ (if p (h, n, k) then None else own_of h k (loose_in n (w ∷ ws)))
left_step p h n k w ws true true e t rest =
    let out : p (h, n, k) ≡ true = ap p (sym (key_same _ _ t)) ∙ e in
    let gone : own_of h k (loose_in n (filter (λ v. not (p (key_of v))) ws)) ≡ None = rw out at rest in
    rw (e, out) gone
left_step p h n k w ws true false e t rest =
    let same : own_of h k (loose_in n (w ∷ ws)) ≡ own_of h k (loose_in n ws) = own_newest w ws h n k ∙ rw t refl in
    rw (e, same) rest
left_step p h n k w ws false true e t rest =
    let kept : p (h, n, k) ≡ false = ap p (sym (key_same _ _ t)) ∙ e in
    let here : own_of h k (loose_in n (w ∷ ws)) ≡ Some w.bytes = own_newest w ws h n k ∙ rw t refl in
    let there : own_of h k (loose_in n (w ∷ filter (λ v. not (p (key_of v))) ws)) ≡ Some w.bytes = own_newest w (filter (λ v. not (p (key_of v))) ws) h n k ∙ rw t refl in
    rw (e, kept) (there ∙ sym here)
left_step p h n k w ws false false e t rest =
    let same : own_of h k (loose_in n (w ∷ ws)) ≡ own_of h k (loose_in n ws) = own_newest w ws h n k ∙ rw t refl in
    let left : own_of h k (loose_in n (w ∷ filter (λ v. not (p (key_of v))) ws)) ≡ own_of h k (loose_in n (filter (λ v. not (p (key_of v))) ws)) = own_newest w (filter (λ v. not (p (key_of v))) ws) h n k ∙ rw t refl in
    rw (e, same) (left ∙ rest)

none_left : (b : Bool) → ◌≡◌ {A = Option (List ℕ)} None (if b then None else None)
none_left true = refl
none_left false = refl

left_in : (p : ℕ × ℕ × ℕ → Bool) (h n k : ℕ) (ws : List Write) → own_of h k (loose_in n (filter (λ v. not (p (key_of v))) ws)) ≡ (if p (h, n, k) then None else own_of h k (loose_in n ws))
left_in p h n k [] = none_left (p (h, n, k))
left_in p h n k (w ∷ ws) = left_step p h n k w ws (p (key_of w)) (key_eq (key_of w) (h, n, k)) refl refl (left_in p h n k ws)

-- none of a sector whose writes leave, and that of any other as it was
own_left : (p : ℕ × ℕ × ℕ → Bool) (h n k : ℕ) (log : List Write) → own_of h k (loose_of n (filter (λ v. not (p (key_of v))) log)) ≡ (if p (h, n, k) then None else own_of h k (loose_of n log))
own_left p h n k log = ap (λ (ws : List Write). own_of h k (loose_in n ws)) (sym (filter-reverse (λ v. not (p (key_of v))) log)) ∙ left_in p h n k (reverse log)

-- none, where it is there and leaves
none_kept_of : (b : Bool) (o : Option (List ℕ)) → (if b && is_some o then None else o) ≡ (if b then None else o)
none_kept_of true (Some x) = refl
none_kept_of true None = refl
none_kept_of false o = refl

pub disowned : (p : ℕ × ℕ × ℕ → Bool) (own own1 : Sectors) (log : List Write) (i : ℕ) → length log ≤ i → ((h n k : ℕ) → sector_at own h n k ≡ own_of h k (loose_of n log))
    → ((h n k : ℕ) → sector_at own1 h n k ≡ (if p (h, n, k) && is_some (own_of h k (loose_of n (take i log))) then None else sector_at own h n k))
    → (h n k : ℕ) → sector_at own1 h n k ≡ own_of h k (loose_of n (filter (λ v. not (p (key_of v))) log))
disowned p own own1 log i all owned gone h n k =
    gone h n k
    ∙ ap (λ (ws : List Write). if p (h, n, k) && is_some (own_of h k (loose_of n ws)) then None else sector_at own h n k) (take_all i log all)
    ∙ ap (λ (o : Option (List ℕ)). if p (h, n, k) && is_some (own_of h k (loose_of n log)) then None else o) (owned h n k)
    ∙ none_kept_of (p (h, n, k)) (own_of h k (loose_of n log)) ∙ sym (own_left p h n k log)

-- a host's last write of a sector is among the writes
member_step : (h n k : ℕ) (w : Write) (ws : List Write) (bytes : List ℕ) (t : Bool) → key_eq (key_of w) (h, n, k) ≡ t → (own_of h k (loose_in n ws) ≡ Some bytes → is_member key_eq (map key_of ws) (h, n, k) ≡ true)
    → own_of h k (loose_in n (w ∷ ws)) ≡ Some bytes → is_member key_eq (map key_of (w ∷ ws)) (h, n, k) ≡ true
member_step h n k w ws bytes true t rest e = rw (key_back (key_of w) (h, n, k) true t) refl
member_step h n k w ws bytes false t rest e =
    let same : own_of h k (loose_in n (w ∷ ws)) ≡ own_of h k (loose_in n ws) = own_newest w ws h n k ∙ rw t refl in
    rw (key_back (key_of w) (h, n, k) false t) (rest (sym same ∙ e))

own_member : (h n k : ℕ) (ws : List Write) (bytes : List ℕ) → own_of h k (loose_in n ws) ≡ Some bytes → is_member key_eq (map key_of ws) (h, n, k) ≡ true
own_member h n k [] bytes e = absurd (none-some bytes e)
own_member h n k (w ∷ ws) bytes e = member_step h n k w ws bytes (key_eq (key_of w) (h, n, k)) refl (own_member h n k ws bytes) e

key_laws : IsEquivalence key_eq
key_laws = record {
  refl = key_itself;
  symm = λ x y. sym (key_back x y (key_eq x y) refl);
  congr = λ x y z e. ap (λ (v : ℕ × ℕ × ℕ). key_eq v z) (key_same x y e);
}

key_decides : (x y : ℕ × ℕ × ℕ) → Decides (key_eq x y) (x ≡ y)
key_decides x y = (λ t. key_same x y t, λ e. subst (λ (z : ℕ × ℕ × ℕ). key_eq x z ≡ true) e (key_itself x))

keys_apart : (s : Sectors) (i j : ℕ) (d : ℕ × ℕ × ℕ) → i < j → j < length (map (λ (c : Cell). c.key) s.cells.items)
    → key_eq (get_or (map (λ (c : Cell). c.key) s.cells.items) i d) (get_or (map (λ (c : Cell). c.key) s.cells.items) j d) ≡ false
keys_apart s i j d less within =
    let len = length-map s.cells.items (λ (c : Cell). c.key) in
    let a : i < length s.cells.items = omega (arith, less, within, len) in
    let b : j < length s.cells.items = omega (arith, within, len) in
    let none : Cell = record { key = (0, 0, 0); bytes = [] } in
    let is : get_or (map (λ (c : Cell). c.key) s.cells.items) i d ≡ (cell_at s.cells.items i).key = get_or-map (λ (c : Cell). c.key) s.cells.items i none d a in
    let js : get_or (map (λ (c : Cell). c.key) s.cells.items) j d ≡ (cell_at s.cells.items j).key = get_or-map (λ (c : Cell). c.key) s.cells.items j none d b in
    rw (is, js) (key_apart _ _ (λ e. let same : i ≡ j = one_cell s.cells.items (get key_eq s.index) i j s.indexed a b e in omega (arith, same, less)))

-- where each sector that is kept is a host's last write of it, there is a write of each
member_of : (s : Sectors) (log : List Write) → ((h n k : ℕ) → sector_at s h n k ≡ own_of h k (loose_of n log)) → (q : ℕ × ℕ × ℕ) → is_member key_eq (map (λ (c : Cell). c.key) s.cells.items) q ≡ true
    → is_member key_eq (map key_of (reverse log)) q ≡ true
member_of s log owned q t =
    let at = (is_member-Decides key_decides (map (λ (c : Cell). c.key) s.cells.items) q).0 t in
    let within : at.0 < length s.cells.items = omega (arith, at.1, length-map s.cells.items (λ (c : Cell). c.key)) in
    let is : (cell_at s.cells.items at.0).key ≡ q = sym (get_or-map (λ (c : Cell). c.key) s.cells.items at.0 (record { key = (0, 0, 0); bytes = [] }) q within) ∙ at.2 in
    let named : get key_eq s.index q ≡ Some at.0 = ap (get key_eq s.index) (sym is) ∙ s.indexed at.0 within in
    own_member q.0 q.1 q.2 (reverse log) (cell_at s.cells.items at.0).bytes (sym (owned q.0 q.1 q.2) ∙ kept_here s.cells.items (get key_eq s.index q) at.0 q named within is)

-- so no more are kept than there are writes
pub owned_fit : (s : Sectors) (log : List Write) → ((h n k : ℕ) → sector_at s h n k ≡ own_of h k (loose_of n log)) → kept_count s ≤ length log
owned_fit s log owned =
    let fewer : length (map (λ (c : Cell). c.key) s.cells.items) ≤ length (map key_of (reverse log)) =
    length-le_from_is_member key_laws (map (λ (c : Cell). c.key) s.cells.items) (map key_of (reverse log)) (IsDistinct-from_apart key_eq (map (λ (c : Cell). c.key) s.cells.items) (keys_apart s)) (member_of s log owned) in
    omega (arith, fewer, length-map s.cells.items (λ (c : Cell). c.key), length-map (reverse log) key_of, length-reverse log)
