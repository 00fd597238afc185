-- What the sectors on the medium and the content of a store are after a host went down.
use Rattle.std.proofs.Common.{◌≡◌, ◌⊎◌, ℕ, ◌<◌, ◌≤◌, ◌==◌, ◌&&◌, Bool, true, false, not, if◌then◌else◌, List, [], ◌∷◌, map, reverse, replicate, Option, Some, None, unwrap_or, refl, sym, ap, subst, ◌∙◌, inl, inr, arith}
use Rattle.std.specs.List.{filter}
use Rattle.std.specs.Option.{option_map}
use Rattle.std.proofs.lemmas.List.{get_or-replicate, length-replicate}
use Rattle.std.proofs.lemmas.Option.{same_Some}
use Rattle.sd_names.specs.declared.place.Dir.{Dir}
use Rattle.sd_names.specs.declared.place.Place.{Place}
use Rattle.memory_disk.specs.declared.entry.FileEntry.{FileEntry}
use Rattle.memory_disk.specs.declared.entry.Write.{Write}
use Rattle.memory_disk.specs.declared.sector_map.Sectors.{Sectors}
use Rattle.shared_disk.specs.Content.{own_of, without, zero_sector}
use Rattle.shared_disk.specs.Crash.{DownLeaves, IsAlso, IsDownFile, IsDownSector, IsSector}
use Rattle.memory_disk.specs.Files.{entry_synced}
use Rattle.memory_disk.specs.Sectors.{sector_at}
use Rattle.memory_disk.specs.Settled.{IsPicked, IsSettling}
use Rattle.memory_disk.specs.Store.{AreApart, AreHoused, IsLogWithin, IsStableWithin, content_of, file_of, found, has_dir, loose_in, loose_of, not_by, slot, slot_size}
use Rattle.memory_disk.proofs.Cells.{key_parts}
use Rattle.shared_disk.proofs.Outcomes.{own_among}
use Rattle.memory_disk.proofs.Slots.{found_at, found_gone, found_none, found_slot, slot_map, slot_mapped}
use Rattle.memory_disk.proofs.Synced.{filter-reverse}

-- nothing is settled yet
pub settling_none : (host : ℕ) (slots : List (Option FileEntry)) (log : List Write) (s : Sectors) → IsSettling host slots log s s
settling_none host slots log s = λ n k. inl refl

-- one settling after another
pub settling_more : (host : ℕ) (slots : List (Option FileEntry)) (log : List Write) (a b c : Sectors) → IsSettling host slots log a b → IsSettling host slots log b c → IsSettling host slots log a c
settling_more host slots log a b c h g = λ n k.
    elim (g n k) [
      | inl e ↦ elim (h n k) [ inl f ↦ inl (e ∙ f) | inr w ↦ inr (w.0, e ∙ w.1, w.2) ]
      | inr w ↦ inr w
    ]

-- one sector
put_step : (host : ℕ) (slots : List (Option FileEntry)) (log : List Write) (a b : Sectors) (number k n j : ℕ) (bytes : List ℕ) (t : Bool) → (number == n && k == j) ≡ t → IsPicked host slots log number k bytes
    → sector_at b 0 n j ≡ (if t then Some bytes else sector_at a 0 n j) → (sector_at b 0 n j ≡ sector_at a 0 n j) ⊎ ((is : List ℕ) × (sector_at b 0 n j ≡ Some is) × IsPicked host slots log n j is)
put_step host slots log a b number k n j bytes true t pick at =
    let w = key_parts number k n j t in
    inr (bytes, at, subst (λ (m : ℕ). IsPicked host slots log m j bytes) w.0 (subst (λ (i : ℕ). IsPicked host slots log number i bytes) w.1 pick))
put_step host slots log a b number k n j bytes false t pick at = inl at

pub settling_put : (host : ℕ) (slots : List (Option FileEntry)) (log : List Write) (a b : Sectors) (number k : ℕ) (bytes : List ℕ) → IsPicked host slots log number k bytes
    → ((n j : ℕ) → sector_at b 0 n j ≡ (if number == n && k == j then Some bytes else sector_at a 0 n j)) → IsSettling host slots log a b
settling_put host slots log a b number k bytes pick at = λ n j. put_step host slots log a b number k n j bytes (number == n && k == j) refl pick (at n j)

-- a sector of one byte
some_bytes : (n byte : ℕ) → n ≡ 512 → byte < 256 → IsSector (replicate n byte)
some_bytes n byte size small = record {
  len = length-replicate n byte ∙ size;
  fits = λ k d within. subst (λ (b : ℕ). b < 256) (sym (get_or-replicate n k byte d (omega (arith, within, length-replicate n byte)))) small;
}

pub byte_sector : (byte : ℕ) → byte < 256 → IsSector (replicate 512 byte)
byte_sector byte small = some_bytes 512 byte refl small

-- the last write of a host lies within its file
pub own_within : (host n k : ℕ) (slots : List (Option FileEntry)) (log : List Write) (bytes : List ℕ) → IsLogWithin slots log → own_of host k (loose_of n log) ≡ Some bytes → k < slot_size (slot n slots)
own_within host n k slots log bytes within e =
    let w = own_among host k (loose_of n log) bytes e in
    let lt = within n w.write w.among in
    omega (arith, lt, w.at)

-- the sectors lie within their files still
within_step : (host n k : ℕ) (slots : List (Option FileEntry)) (log : List Write) (a b : Sectors) → IsStableWithin slots a → slot_size (slot n slots) ≤ k
    → (sector_at b 0 n k ≡ sector_at a 0 n k) ⊎ ((bytes : List ℕ) × (sector_at b 0 n k ≡ Some bytes) × IsPicked host slots log n k bytes) → sector_at b 0 n k ≡ None
within_step host n k slots log a b within past (inl e) = e ∙ within n k past
within_step host n k slots log a b within past (inr w) = let lt = w.2.within in absurd (omega (arith, lt, past))

pub settling_within : (host : ℕ) (slots : List (Option FileEntry)) (log : List Write) (a b : Sectors) → IsSettling host slots log a b → IsStableWithin slots a → IsStableWithin slots b
settling_within host slots log a b h within = λ n k past. within_step host n k slots log a b within past (h n k)

-- the writes of other hosts
by_step : (host n : ℕ) (w : Write) (ws : List Write) (a b : Bool) → (w.host == host) ≡ a → (w.file == n) ≡ b → loose_in n (filter (λ v. not (v.host == host)) ws) ≡ without host (loose_in n ws)
    → loose_in n (filter (λ v. not (v.host == host)) (w ∷ ws)) ≡ without host (loose_in n (w ∷ ws))
by_step host n w ws true true s t h = rw (s, t, s) h
by_step host n w ws true false s t h = rw (s, t) h
by_step host n w ws false true s t h = rw (s, t, s) (ap (λ ls. record { host = w.host; sector = w.sector; bytes = w.bytes } ∷ ls) h)
by_step host n w ws false false s t h = rw (s, t) h

by_in : (host n : ℕ) (ws : List Write) → loose_in n (filter (λ v. not (v.host == host)) ws) ≡ without host (loose_in n ws)
by_in host n [] = refl
by_in host n (w ∷ ws) = by_step host n w ws (w.host == host) (w.file == n) refl refl (by_in host n ws)

pub not_by_loose : (host n : ℕ) (log : List Write) → loose_of n (not_by host log) ≡ without host (loose_of n log)
not_by_loose host n log = ap (λ ws. loose_in n ws) (sym (filter-reverse (λ v. not (v.host == host)) log)) ∙ by_in host n (reverse log)

-- sizes and folders of files stay
size_step : (host : ℕ) (o : Option FileEntry) → slot_size o ≤ slot_size (option_map (entry_synced host) o)
size_step host None = omega arith
size_step host (Some f) = omega arith

pub synced_wider : (host : ℕ) (slots slots1 : List (Option FileEntry)) → slots1 ≡ map (option_map (entry_synced host)) slots → (i : ℕ) → slot_size (slot i slots) ≤ slot_size (slot i slots1)
synced_wider host slots slots1 is = λ i.
    subst (λ (o : Option FileEntry). slot_size (slot i slots) ≤ slot_size o) (sym (ap (λ (ss : List (Option FileEntry)). slot i ss) is ∙ slot_map (entry_synced host) i slots)) (size_step host (slot i slots))

pub synced_housed : (host : ℕ) (dirs : List Dir) (slots slots1 : List (Option FileEntry)) → slots1 ≡ map (option_map (entry_synced host)) slots → AreHoused dirs slots → AreHoused dirs slots1
synced_housed host dirs slots slots1 is housed = λ n g at.
    let w = slot_mapped (entry_synced host) n slots g (ap (λ (ss : List (Option FileEntry)). slot n ss) (sym is) ∙ at) in
    ap (λ (x : FileEntry). has_dir dirs x.place.dir) (sym w.2) ∙ housed n w.0 w.1

-- one file
down_step : (host n k : ℕ) (slots : List (Option FileEntry)) (log : List Write) (a b : Sectors) (f : FileEntry) → slot n slots ≡ Some f
    → (sector_at b 0 n k ≡ sector_at a 0 n k) ⊎ ((bytes : List ℕ) × (sector_at b 0 n k ≡ Some bytes) × IsPicked host slots log n k bytes)
    → IsDownSector host (file_of a log n f) k (unwrap_or (sector_at b 0 n k) zero_sector)
down_step host n k slots log a b f is (inl e) = inr (inl (ap (λ (o : Option (List ℕ)). unwrap_or o zero_sector) e))
down_step host n k slots log a b f is (inr w) =
    let here : unwrap_or (sector_at b 0 n k) zero_sector ≡ w.0 = ap (λ (o : Option (List ℕ)). unwrap_or o zero_sector) w.1 in
    elim w.2.cases [
      | inl e ↦ (let m = own_among host k (loose_of n log) w.0 e in inr (inr (m.write, m.among, m.by, m.at, m.is ∙ sym here)))
      | inr g ↦ inl (ap (λ (x : FileEntry). x.fresh) (same_Some f g.0.0 (sym is ∙ g.0.1)) ∙ g.0.2, subst (λ (x : List ℕ). IsSector x) (sym here) g.1)
    ]

down_file : (host n : ℕ) (slots : List (Option FileEntry)) (log log1 : List Write) (a b : Sectors) (f : FileEntry) → slot n slots ≡ Some f → log1 ≡ not_by host log → IsSettling host slots log a b
    → IsDownFile host (file_of a log n f) (file_of b log1 n (entry_synced host f))
down_file host n slots log log1 a b f is gone h = record {
  size = refl;
  sectors = λ k. down_step host n k slots log a b f is (h n k);
  loose = ap (λ ws. loose_of n ws) gone ∙ not_by_loose host n log;
  fresh = refl;
}

-- the whole content
also_step : (host : ℕ) (dirs dirs1 : List Dir) (slots slots1 : List (Option FileEntry)) (log log1 : List Write) (a b : Sectors) (p : Place) (o : Option (ℕ × FileEntry)) → found p 0 slots ≡ o → AreApart slots1
    → slots1 ≡ map (option_map (entry_synced host)) slots → log1 ≡ not_by host log → IsSettling host slots log a b
    → IsAlso (IsDownFile host) ((content_of dirs slots a log).file p) ((content_of dirs1 slots1 b log1).file p)
also_step host dirs dirs1 slots slots1 log log1 a b p None e apart is gone h =
    let none : found p 0 slots1 ≡ None = found_gone p slots1 (λ n g at place.
    let w = slot_mapped (entry_synced host) n slots g (ap (λ (ss : List (Option FileEntry)). slot n ss) (sym is) ∙ at) in
    found_none p 0 slots e n w.0 w.1 (ap (λ (x : FileEntry). x.place) w.2 ∙ place)) in
    rw (e, none) tt
also_step host dirs dirs1 slots slots1 log log1 a b p (Some r) e apart is gone h =
    let w = found_slot p slots r.0 r.1 e in
    let now : slot r.0 slots1 ≡ Some (entry_synced host r.1) =
    ap (λ (ss : List (Option FileEntry)). slot r.0 ss) is ∙ slot_map (entry_synced host) r.0 slots ∙ ap (λ (o : Option FileEntry). option_map (entry_synced host) o) w.0 in
    let there : found p 0 slots1 ≡ Some (r.0, entry_synced host r.1) = found_at p slots1 r.0 (entry_synced host r.1) apart now w.1 in
    rw (e, there) (down_file host r.0 slots log log1 a b r.1 w.0 gone h)

pub is_down : (host : ℕ) (dirs dirs1 : List Dir) (slots slots1 : List (Option FileEntry)) (log log1 : List Write) (a b : Sectors) → dirs1 ≡ dirs → AreApart slots1 → slots1 ≡ map (option_map (entry_synced host)) slots
    → log1 ≡ not_by host log → IsSettling host slots log a b → DownLeaves (content_of dirs slots a log) host (content_of dirs1 slots1 b log1)
is_down host dirs dirs1 slots slots1 log log1 a b folders apart is gone h = record {
  dirs = λ q. ap (λ (ds : List Dir). has_dir ds q) folders;
  files = λ p. also_step host dirs dirs1 slots slots1 log log1 a b p (found p 0 slots) refl apart is gone h;
}
