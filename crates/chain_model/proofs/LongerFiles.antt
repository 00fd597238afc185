-- Files that get longer with zeros hold what they held.
use Rattle.std.proofs.Common.{◌≡◌, ◌⊎◌, ℕ, ◌+◌, ◌*◌, ◌/◌, ◌%◌, ◌<◌, ◌≤◌, Bool, true, false, nat_lt, nat_le, List, replicate, Option, Some, None, Result, Ok, Err, refl, sym, ap, ◌∙◌, subst, inl, inr, arith}
use Rattle.std.specs.Prelude.{MatchResult, if◌then◌else◌, slice_index}
use Rattle.std.specs.List.{flat_map, range_with_len}
use Rattle.std.proofs.lemmas.Bool.{cases_lt, le-ltb, lt-leb}
use Rattle.std.proofs.lemmas.Bool.Decides.{nat_tests}
use Rattle.std.proofs.lemmas.List.{length-replicate}
use Rattle.sd_names.specs.declared.fault.LayerFault.{LayerFault}
use Rattle.sd_names.specs.declared.fault.LayerFault.TheVariants.{OutOfFile, Short, Size}
use Rattle.sd_names.specs.declared.kinds.Format.{Format}
use Rattle.sd_names.specs.declared.kinds.Format.TheVariants.{Raw, Cow}
use Rattle.shared_disk.specs.Content.{File}
use Rattle.shared_disk.specs.Crash.{IsAlso}
use Rattle.qcow_format.specs.Bytes.{number}
use Rattle.qcow_format.specs.Header.{header_of}
use Rattle.qcow_format.specs.Name.{backing_id}
use Rattle.qcow_format.specs.declared.entry.Entry.{Entry}
use Rattle.qcow_format.specs.declared.entry.Entry.TheVariants.{Absent, Zero, Data}
use Rattle.qcow_format.specs.declared.header.Header.{Header}
use Rattle.qcow_format.proofs.Again.{number-append}
use Rattle.qcow_format.proofs.Kept.{begins_with_magic}
use Rattle.qcow_format.proofs.New.{number-zeros}
use Rattle.volume_meta.specs.declared.record.VolumeRecord.{VolumeRecord}
use Rattle.image_model.specs.File as model
use Rattle.image_model.specs.File.{file_of, sector_in}
use Rattle.image_model.specs.Layer.{cluster_size, entry_at}
use Rattle.image_model.specs.Soundness.{FirstFault, HasFault, IsClean, IsSound, Item, item, layer_header, layer_header_of, outside, own_fault}
use Rattle.image_model.proofs.Faults.{clean_without_fault, sound_if_none}
use Rattle.chain_model.specs.Growth.{IsLonger}
use Rattle.chain_model.specs.Headers.{backing_by, backing_by_record, backing_in}
use Rattle.chain_model.specs.Own.{header_in, own_by, own_in, sector_behind, sector_by_format, sector_by_header, sectors_of}

-- ---- the same numbers, with another size

abbrev sized : model.File → ℕ → model.File
sized f size = record f { size = size }

same_numbers : (f g : File) → IsLonger f g → file_of g.size g.stable ≡ sized (file_of f.size f.stable) (512 * g.size)
unfolding file_of
same_numbers f g l = λ i. record {
  size = 512 * g.size;
  head = flat_map (λ k. l.sectors k i) (range_with_len 0 128);
  byte = λ k. slice_index (l.sectors (k / 512) i) (k % 512);
  half = λ k. number 2 (k % 256 * 2) (l.sectors (k / 256) i);
  word = λ k. number 8 (k % 64 * 8) (l.sectors (k / 64) i);
}

-- ---- headers

same_header : (f : model.File) (size capacity : ℕ) → 512 ≤ f.size → f.size ≤ size → layer_header (sized f size) capacity ≡ layer_header f capacity
unfolding layer_header
same_header f size capacity some le =
    let first : nat_lt size 512 ≡ false = le-ltb size 512 (omega arith) in
    let second : nat_lt f.size 512 ≡ false = le-ltb f.size 512 some in
    rw (first, second) refl

-- a file without a sector has no header, and none once it got longer with zeros
read_header : (capacity : ℕ) (r : Result Header LayerFault) (h : Header) → layer_header_of capacity r ≡ Ok h → r ≡ Ok h
read_header capacity (Err fault) h e = absurd cc
read_header capacity (Ok g) h e = go (nat_lt g.size capacity) e
  where
    go : (b : Bool) → (if b then Err (Size g.size) else Ok g) ≡ Ok h → ◌≡◌ {A = Result Header LayerFault} (Ok g) (Ok h)
    go true e = absurd cc
    go false e = e

pub header_behind : (f : model.File) (capacity : ℕ) (h : Header) → layer_header f capacity ≡ Ok h → (512 ≤ f.size) × (header_of f.head ≡ Ok h)
unfolding layer_header
header_behind f capacity h e = go (nat_lt f.size 512) refl e
  where
    go : (b : Bool) → nat_lt f.size 512 ≡ b → (if b then Err Short else layer_header_of capacity (header_of f.head)) ≡ Ok h → (512 ≤ f.size) × (header_of f.head ≡ Ok h)
    go true t e = absurd cc
    go false t e = let low : 512 ≤ f.size = grind (arith, nat_tests) in (low, read_header capacity (header_of f.head) h e)

empty_sector : (sectors : ℕ) (sector : ℕ → List ℕ) → sectors ≡ 0 → sector_in sectors sector 0 ≡ replicate 512 0
empty_sector sectors sector none = ap (λ n. sector_in n sector 0) none

zero_head : (sectors : ℕ) (sector : ℕ → List ℕ) → sectors ≡ 0 → number 4 0 (file_of sectors sector).head ≡ 0
unfolding file_of
zero_head sectors sector none =
    let first = empty_sector sectors sector none in
    number-append 4 0 (sector_in sectors sector 0) (flat_map (sector_in sectors sector) (range_with_len 1 127)) (rw first (omega (arith, length-replicate {A = ℕ} 512 0)))
    ∙ ap (number 4 0) first ∙ number-zeros 4 0 512

size_of_file : (sectors : ℕ) (sector : ℕ → List ℕ) → (file_of sectors sector).size ≡ 512 * sectors
unfolding file_of
size_of_file sectors sector = refl

none_before : (x : VolumeRecord) (f : File) (h : Header) → f.size ≡ 0 → header_in x f ≡ Ok h → ⊥
none_before x f h none e = let some = (header_behind (file_of f.size f.stable) x.capacity h e).0 in omega (arith, size_of_file f.size f.stable, some, none)

none_after : (x : VolumeRecord) (f g : File) (h : Header) → f.size ≡ 0 → IsLonger f g → header_in x g ≡ Ok h → ⊥
none_after x f g h none l e =
    let is = begins_with_magic (file_of g.size g.stable).head h (header_behind (file_of g.size g.stable) x.capacity h e).1 in
    let zeros = ap (λ (m : model.File). number 4 0 m.head) (same_numbers f g l) ∙ zero_head f.size f.stable none in
    omega (arith, is, zeros)

abbrev HasNone : VolumeRecord → File → Type 0
HasNone x f = (h : Header) → header_in x f ≡ Ok h → ⊥

headers : (x : VolumeRecord) (f g : File) → IsLonger f g → (header_in x g ≡ header_in x f) ⊎ (HasNone x f × HasNone x g)
headers x f g l = go (cases_lt 0 f.size)
  where
    go : (0 < f.size) ⊎ (f.size ≤ 0) → (header_in x g ≡ header_in x f) ⊎ (HasNone x f × HasNone x g)
    go (inl some) =
        let le : f.size ≤ g.size = l.size in
        let size = size_of_file f.size f.stable in
        inl (ap (λ (m : model.File). layer_header m x.capacity) (same_numbers f g l) ∙ same_header (file_of f.size f.stable) (512 * g.size) x.capacity (omega (arith, size)) (omega (arith, size)))
    go (inr empty) = let none : f.size ≡ 0 = omega arith in inr ((λ h e. none_before x f h none e), λ h e. none_after x f g h none l e)

-- ---- own sectors

same_entry : (h : Header) (m : model.File) (size k : ℕ) → entry_at (record { header = h; file = sized m size }) k ≡ entry_at (record { header = h; file = m }) k
unfolding entry_at
same_entry h m size k = refl

entry_grown : (h : Header) (f g : File) (k : ℕ) → IsLonger f g
    → entry_at (record { header = h; file = file_of g.size g.stable }) k ≡ entry_at (record { header = h; file = file_of f.size f.stable }) k
entry_grown h f g k l = ap (λ (m : model.File). entry_at (record { header = h; file = m }) k) (same_numbers f g l) ∙ same_entry h (file_of f.size f.stable) (512 * g.size) k

behind_grown : (f g : File) (at : ℕ) (e : Entry) → IsLonger f g → sector_behind g at e ≡ sector_behind f at e
behind_grown f g at Absent l = refl
behind_grown f g at (Zero place) l = refl
behind_grown f g at (Data place) l = ap (λ (s : List ℕ). Some s) (l.sectors ((place + at) / 512))

by_header_grown : (f g : File) (k : ℕ) (r : Result Header LayerFault) → IsLonger f g → sector_by_header g k r ≡ sector_by_header f k r
by_header_grown f g k (Err fault) l = refl
by_header_grown f g k (Ok h) l =
    let size = cluster_size (record { header = h; file = file_of f.size f.stable }) in
    ap (λ e. sector_behind g (512 * k % size) e) (entry_grown h f g (512 * k / size) l)
    ∙ behind_grown f g (512 * k % size) (entry_at (record { header = h; file = file_of f.size f.stable }) (512 * k / size)) l

none_held : (f : File) (k : ℕ) (r : Result Header LayerFault) → ((h : Header) → r ≡ Ok h → ⊥) → sector_by_header f k r ≡ None
none_held f k (Err fault) none = refl
none_held f k (Ok h) none = absurd (none h refl)

by_format_grown : (x : VolumeRecord) (f g : File) (k : ℕ) (format : Format) → IsLonger f g → sector_by_format format x g k ≡ sector_by_format format x f k
by_format_grown x f g k Raw l = ap (λ (s : List ℕ). Some s) (l.sectors k)
by_format_grown x f g k Cow l = go (headers x f g l)
  where
    go : (header_in x g ≡ header_in x f) ⊎ (HasNone x f × HasNone x g) → sector_by_header g k (header_in x g) ≡ sector_by_header f k (header_in x f)
    go (inl same) = ap (λ r. sector_by_header g k r) same ∙ by_header_grown f g k (header_in x f) l
    go (inr none) = none_held g k (header_in x g) none.1 ∙ sym (none_held f k (header_in x f) none.0)

own_in_grown : (x : VolumeRecord) (f g : File) (k : ℕ) → IsLonger f g → own_in x g k ≡ own_in x f k
unfolding own_in
own_in_grown x f g k l = ap (λ (o : Option (List ℕ)). if nat_lt k (sectors_of x) then o else None) (by_format_grown x f g k x.format l)

pub own_grown : (o : Option VolumeRecord) (a b : Option File) (k : ℕ) → IsAlso IsLonger a b → own_by o b k ≡ own_by o a k
own_grown None a b k l = refl
own_grown (Some x) None None k l = refl
own_grown (Some x) None (Some g) k l = absurd l
own_grown (Some x) (Some f) None k l = absurd l
own_grown (Some x) (Some f) (Some g) k l = own_in_grown x f g k l

-- ---- backing names

named_grown : (f g : File) (r : Result Header LayerFault) → IsLonger f g → backing_by g r ≡ backing_by f r
named_grown f g (Err fault) l = refl
named_grown f g (Ok h) l = ap (λ (m : model.File). backing_id h m.head) (same_numbers f g l)

none_named : (f : File) (r : Result Header LayerFault) → ((h : Header) → r ≡ Ok h → ⊥) → backing_by f r ≡ None
none_named f (Err fault) none = refl
none_named f (Ok h) none = absurd (none h refl)

backing_in_grown : (x : VolumeRecord) (f g : File) (format : Format) → IsLonger f g → backing_in format x g ≡ backing_in format x f
backing_in_grown x f g Raw l = refl
backing_in_grown x f g Cow l = go (headers x f g l)
  where
    go : (header_in x g ≡ header_in x f) ⊎ (HasNone x f × HasNone x g) → backing_by g (header_in x g) ≡ backing_by f (header_in x f)
    go (inl same) = ap (λ r. backing_by g r) same ∙ named_grown f g (header_in x f) l
    go (inr none) = none_named g (header_in x g) none.1 ∙ sym (none_named f (header_in x f) none.0)

pub backing_grown : (o : Option VolumeRecord) (a b : Option File) → IsAlso IsLonger a b → backing_by_record o b ≡ backing_by_record o a
backing_grown None a b l = refl
backing_grown (Some x) None None l = refl
backing_grown (Some x) None (Some g) l = absurd l
backing_grown (Some x) (Some f) None l = absurd l
backing_grown (Some x) (Some f) (Some g) l = backing_in_grown x f g x.format l

-- ---- sound layers

still_fine : (a b : ℕ) (x : Item) → a ≤ b → own_fault a x ≡ None → own_fault b x ≡ None
still_fine a b x le = go x.wrong x.name
  where
    within : (place : ℕ) (t : Bool) → nat_le a place ≡ t → (if t then Some (OutOfFile x.at) else None) ≡ None → (if nat_le b place then Some (OutOfFile x.at) else None) ≡ None
    within place true e h = absurd cc
    within place false e h = let low : place < a = grind (arith, nat_tests) in let out : nat_le b place ≡ false = lt-leb b place (omega arith) in rw out refl

    go : (wrong : Option LayerFault) (name : Option ℕ) → elim wrong as (λ _. Option LayerFault) [ None ↦ outside a x.at name | Some fault ↦ Some fault ] ≡ None
        → elim wrong as (λ _. Option LayerFault) [ None ↦ outside b x.at name | Some fault ↦ Some fault ] ≡ None
    go (Some fault) name h = absurd cc
    go None None h = refl
    go None (Some place) h = within place (nat_le a place) refl h

clean_grown : (h : Header) (m : model.File) (size capacity n : ℕ) → m.size ≤ size → IsClean (record { header = h; file = m }) capacity n → IsClean (record { header = h; file = sized m size }) capacity n
unfolding item
clean_grown h m size capacity n le c = record {
  fine = still_fine m.size size (item (record { header = h; file = m }) capacity n) le c.fine;
  once = c.once;
  counted = c.counted;
}

sound_sized : (m : model.File) (size capacity : ℕ) → m.size ≤ size → IsSound m capacity → IsSound (sized m size) capacity
sound_sized m size capacity le = go (layer_header m capacity) refl
  where
    go : (r : Result Header LayerFault) → layer_header m capacity ≡ r → MatchResult r (λ h. (n : ℕ) → IsClean (record { header = h; file = m }) capacity n) (λ e. ⊥) → IsSound (sized m size) capacity
    go (Err fault) e sound = absurd sound
    go (Ok h) e sound =
        let same = same_header m size capacity (header_behind m capacity h e).0 le ∙ e in
        rw same (λ n. clean_grown h m size capacity n le (sound n))

none_of_sound : (m : model.File) (capacity : ℕ) (fault : LayerFault) → IsSound m capacity → HasFault m capacity fault → ⊥
none_of_sound m capacity fault = go (layer_header m capacity)
  where
    go : (r : Result Header LayerFault) → MatchResult r (λ h. (n : ℕ) → IsClean (record { header = h; file = m }) capacity n) (λ e. ⊥)
        → MatchResult r (λ h. FirstFault (record { header = h; file = m }) capacity fault) (λ e. e ≡ fault) → ⊥
    go (Err e) sound f = sound
    go (Ok h) sound f = clean_without_fault (record { header = h; file = m }) capacity f.at fault (sound f.at) f.here

pub faultless_grown : (f g : File) (capacity : ℕ) → IsLonger f g → ((fault : LayerFault) → HasFault (file_of f.size f.stable) capacity fault → ⊥)
    → (fault : LayerFault) → HasFault (file_of g.size g.stable) capacity fault → ⊥
faultless_grown f g capacity l none fault h =
    let before = sound_if_none (file_of f.size f.stable) capacity none in
    let le : f.size ≤ g.size = l.size in
    let sound = sound_sized (file_of f.size f.stable) (512 * g.size) capacity (omega (arith, size_of_file f.size f.stable)) before in
    none_of_sound (file_of g.size g.stable) capacity fault (subst (λ (m : model.File). IsSound m capacity) (sym (same_numbers f g l)) sound) h
