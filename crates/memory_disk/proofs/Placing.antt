-- What a store puts onto the medium past all hosts, and what memory that it takes leaves as it is.
use Rattle.std.proofs.Common.{◌≡◌, ◌≢◌, ◌⊎◌, ℕ, zero, suc, ◌+◌, ◌<◌, ◌≤◌, ◌==◌, ◌&&◌, Bool, true, false, inl, inr, if◌then◌else◌, List, [], drop, get_or, Option, Some, None, Result, Ok, Err, unwrap_or, eq-eqb, eqb-true, refl, sym, ap, subst, ◌∙◌, arith}
use Rattle.std.specs.List.{All, Contains}
use Rattle.std.specs.Option.{option_map}
use Rattle.std.proofs.lemmas.List.{drop-drop, get_or-replicate}
use Rattle.sd_names.specs.declared.place.Dir.{Dir}
use Rattle.sd_names.specs.declared.place.Dir.TheVariants.{Root, Domain, DomMd, Images, Image, Removed, Master, Tasks}
use Rattle.sd_names.specs.declared.place.Place.{Place}
use Rattle.memory_disk.specs.declared.entry.FileEntry.{FileEntry}
use Rattle.memory_disk.specs.declared.entry.Write.{Write}
use Rattle.memory_disk.specs.declared.sector_map.Sectors.{Sectors}
use Rattle.sd_names.specs.Place.{parent_of}
use Rattle.shared_disk.specs.Calls.{IsDirPut, IsPut, sectors_in}
use Rattle.shared_disk.specs.Content.{Content, File, Loose, sector_of, zero_sector}
use Rattle.shared_disk.specs.Crash.{IsSector}
use Rattle.shared_disk.specs.WellFormed.{IsWellFormed, IsWellFormedFile}
use Rattle.shared_disk.proofs.Outcomes.{no_host, nothing_in}
use Rattle.shared_disk.proofs.WellFormed.{piece_sector, same_keeps, zeros_are}
use Rattle.std.proofs.lemmas.Bool.{cases_lt, false≢true}
use Rattle.std.proofs.lemmas.Option.{same_Some}
use Rattle.memory_disk.specs.Placed.{HasBytes, IsPathMade, IsPlaced, Places, above}
use Rattle.memory_disk.specs.Sectors.{sector_at}
use Rattle.memory_disk.specs.Store.{AreApart, AreHoused, IsCleared, IsLogWithin, IsStableWithin, content_of, file_of, found, has_dir, loose_of, slot, slot_size}
use Rattle.shared_disk.specs.Places.{dir_is, place_is}
use Rattle.shared_disk.proofs.Places.{dir_is-itself, dir_is-same, not_false, place_is-itself, place_is-same}
use Rattle.memory_disk.proofs.Slots.{found_gone, found_slot, put_itself}
use Rattle.memory_disk.proofs.Contents.{is_put}

-- a byte of a sector that isn't kept
pub zero_byte : (o : Option (List ℕ)) (i : ℕ) → i < 512 → o ≡ None → 0 ≡ get_or (unwrap_or o zero_sector) i 0
unfolding zero_sector
zero_byte o i within none = rw none (sym (get_or-replicate 512 i 0 0 within))

-- more memory
pub same_held : (dirs dirs1 : List Dir) (slots slots1 : List (Option FileEntry)) (stable stable1 : Sectors) (log log1 : List Write) → dirs1 ≡ dirs → slots1 ≡ slots
    → ((o f k : ℕ) → sector_at stable1 o f k ≡ sector_at stable o f k) → log1 ≡ log → content_of dirs1 slots1 stable1 log1 ≡ content_of dirs slots stable log
same_held dirs dirs1 slots slots1 stable stable1 log log1 d s at l = λ i.
    record {
      dir = λ q. has_dir (d i) q;
      file = λ p. option_map (λ (r : ℕ × FileEntry). record { size = r.1.size; stable = λ k. unwrap_or (at 0 r.0 k i) zero_sector; loose = loose_of r.0 (l i); fresh = r.1.fresh }) (found p 0 (s i));
    }

pub same_within : (slots slots1 : List (Option FileEntry)) (stable stable1 : Sectors) → slots1 ≡ slots → ((o f k : ℕ) → sector_at stable1 o f k ≡ sector_at stable o f k) → IsStableWithin slots stable → IsStableWithin slots1 stable1
same_within slots slots1 stable stable1 s at within = λ n k past. at 0 n k ∙ within n k (subst (λ (xs : List (Option FileEntry)). slot_size (slot n xs) ≤ k) s past)

pub same_log_within : (slots slots1 : List (Option FileEntry)) (log log1 : List Write) → slots1 ≡ slots → log1 ≡ log → IsLogWithin slots log → IsLogWithin slots1 log1
same_log_within slots slots1 log log1 s l within =
    subst (λ (xs : List (Option FileEntry)). IsLogWithin xs log1) (sym s) (subst (λ (ws : List Write). IsLogWithin slots ws) (sym l) within)

pub same_housed : (dirs dirs1 : List Dir) (slots slots1 : List (Option FileEntry)) → dirs1 ≡ dirs → slots1 ≡ slots → AreHoused dirs slots → AreHoused dirs1 slots1
same_housed dirs dirs1 slots slots1 d s housed =
    subst (λ (xs : List (Option FileEntry)). AreHoused dirs1 xs) (sym s) (subst (λ (ds : List Dir). AreHoused ds slots) (sym d) housed)

pub drop_one : (i : ℕ) (xs ys : List ℕ) → drop i xs ≡ drop i ys → drop (i + 1) xs ≡ drop (i + 1) ys
drop_one i xs ys same = sym (drop-drop 1 i xs) ∙ ap (λ (zs : List ℕ). drop 1 zs) same ∙ drop-drop 1 i ys

-- a sector that is put
pub sector_here : (number k : ℕ) (stable stable1 : Sectors) (bytes : List ℕ) → ((n j : ℕ) → sector_at stable1 0 n j ≡ (if number == n && k == j then Some bytes else sector_at stable 0 n j)) → sector_at stable1 0 number k ≡ Some bytes
sector_here number k stable stable1 bytes at = rw (eq-eqb number number refl, eq-eqb k k refl) at (at number k)

pub sector_beside : (number k j : ℕ) (stable stable1 : Sectors) (bytes : List ℕ) → j < k → ((n i : ℕ) → sector_at stable1 0 n i ≡ (if number == n && k == i then Some bytes else sector_at stable 0 n i))
    → sector_at stable1 0 number j ≡ sector_at stable 0 number j
sector_beside number k j stable stable1 bytes below at =
    let t : (k == j) ≡ false = not_false (k == j) (λ e. let u = eqb-true k j e in omega (arith, u, below)) in
    rw (eq-eqb number number refl, t) at (at number j)

pub sector_elsewhere : (number k n j : ℕ) (stable stable1 : Sectors) (bytes : List ℕ) → n ≢ number → ((m i : ℕ) → sector_at stable1 0 m i ≡ (if number == m && k == i then Some bytes else sector_at stable 0 m i))
    → sector_at stable1 0 n j ≡ sector_at stable 0 n j
sector_elsewhere number k n j stable stable1 bytes apart at =
    let t : (number == n) ≡ false = not_false (number == n) (λ e. apart (sym (eqb-true number n e))) in
    rw t at (at n j)

-- a place with no file any more
pub cleared_free : (p : Place) (slots slots1 : List (Option FileEntry)) (stable stable1 : Sectors) (log log1 : List Write) → IsCleared p slots stable log slots1 stable1 log1 → found p 0 slots1 ≡ None
cleared_free p slots slots1 stable stable1 log log1 c = found_gone p slots1 (λ n f is at. (c.kept n f is).1 at)

-- the sectors of a file with nothing unsynced are put
pub put_bytes : (dirs dirs1 : List Dir) (slots slots1 : List (Option FileEntry)) (stable stable1 : Sectors) (log log1 : List Write) (p : Place) (number : ℕ) (f : FileEntry) (bytes : List ℕ)
    → dirs1 ≡ dirs → slots1 ≡ slots → log1 ≡ log → AreApart slots → found p 0 slots ≡ Some (number, f) → f.size ≡ sectors_in bytes → f.fresh ≡ None → loose_of number log ≡ [] → IsStableWithin slots1 stable1
    → ((k : ℕ) → k < sectors_in bytes → sector_at stable1 0 number k ≡ Some (sector_of bytes k)) → ((n k : ℕ) → n ≢ number → sector_at stable1 0 n k ≡ sector_at stable 0 n k)
    → IsPut (content_of dirs slots stable log) p (Some (file_of stable1 log1 number f)) (content_of dirs1 slots1 stable1 log1) × HasBytes bytes (file_of stable1 log1 number f)
put_bytes dirs dirs1 slots slots1 stable stable1 log log1 p number f bytes d s l apart at size fresh none within here others =
    let is = found_slot p slots number f at in
    let there : slot number slots1 ≡ Some f = ap (λ (xs : List (Option FileEntry)). slot number xs) s ∙ is.0 in (
      is_put dirs dirs1 slots slots1 stable stable1 log log1 p number f f (file_of stable1 log1 number f) d (subst AreApart (sym s) apart) at refl (λ i. ap (λ xs. slot i xs) s ∙ put_itself number f slots is.0 i)
          (λ m g h. λ i. record { size = g.size; stable = λ k. unwrap_or (others m k h i) zero_sector; loose = loose_of m (l i); fresh = g.fresh }) refl,
      record {
        size = size;
        sectors = λ k h. ap (λ (o : Option (List ℕ)). unwrap_or o zero_sector) (here k (rw (← size) h));
        past = λ k h. ap (λ (o : Option (List ℕ)). unwrap_or o zero_sector) (within number k (subst (λ (o : Option FileEntry). slot_size o ≤ k) (sym there) h));
        settled = record { loose = ap (λ (ws : List Write). loose_of number ws) l ∙ none; fresh = fresh };
      },
    )

-- a folder comes
dir_kept : (d e : Content) (x q : Dir) → IsDirPut d x true e → d.dir q ≡ true → e.dir q ≡ true
dir_kept d e x q put was = go (dir_is q x) refl where
  go : (t : Bool) → dir_is q x ≡ t → e.dir q ≡ true
  go true t = ap (λ (r : Dir). e.dir r) (dir_is-same q x t) ∙ put.here
  go false t = put.others q (λ same. false≢true (sym t ∙ ap (λ (r : Dir). dir_is r x) same ∙ dir_is-itself x)) ∙ was

dir_new : (d e : Content) (x q : Dir) → IsDirPut d x true e → e.dir q ≡ true → (d.dir q ≡ true) ⊎ (q ≡ x)
dir_new d e x q put is = go (dir_is q x) refl where
  go : (t : Bool) → dir_is q x ≡ t → (d.dir q ≡ true) ⊎ (q ≡ x)
  go true t = inr (dir_is-same q x t)
  go false t = inl (sym (put.others q (λ same. false≢true (sym t ∙ ap (λ (r : Dir). dir_is r x) same ∙ dir_is-itself x))) ∙ is)

-- the root stands three levels above every folder
above_three : (n : ℕ) (dir : Dir) → above (suc (suc (suc n))) dir ≡ Root
above_three zero Root = refl
above_three zero (Domain sd) = refl
above_three zero (DomMd sd) = refl
above_three zero (Images sd) = refl
above_three zero (Image sd image) = refl
above_three zero (Removed sd image) = refl
above_three zero (Master sd) = refl
above_three zero (Tasks sd) = refl
above_three (suc n) dir = ap parent_of (above_three n dir)

-- a folder comes, after the two above it
pub path_made : (d a b e : Content) (dir : Dir) → d.dir Root ≡ true → IsDirPut d (parent_of (parent_of dir)) true a → IsDirPut a (parent_of dir) true b → IsDirPut b dir true e → IsPathMade d dir e
path_made d a b e dir root first second third = record { path = path; kept = kept; no_more = no_more } where
  kept : (q : Dir) → d.dir q ≡ true → e.dir q ≡ true
  kept q is = dir_kept b e dir q third (dir_kept a b (parent_of dir) q second (dir_kept d a (parent_of (parent_of dir)) q first is))

  path : (n : ℕ) → e.dir (above n dir) ≡ true
  path zero = third.here
  path (suc zero) = dir_kept b e dir (parent_of dir) third second.here
  path (suc (suc zero)) = dir_kept b e dir (parent_of (parent_of dir)) third (dir_kept a b (parent_of dir) (parent_of (parent_of dir)) second first.here)
  path (suc (suc (suc n))) = ap (λ (q : Dir). e.dir q) (above_three n dir) ∙ kept Root root

  no_more : (q : Dir) → e.dir q ≡ true → (d.dir q ≡ true) ⊎ ((n : ℕ) × (q ≡ above n dir))
  no_more q is = elim (dir_new b e dir q third is) [
    | inr same ↦ inr (0, same)
    | inl was ↦ elim (dir_new a b (parent_of dir) q second was) [
      | inr same ↦ inr (1, same)
      | inl before ↦ elim (dir_new d a (parent_of (parent_of dir)) q first before) [
        | inr same ↦ inr (2, same)
        | inl there ↦ inl there
      ]
    ]
  ]

-- the file goes, the folders come, a file of zeros, and its bytes
pub placed : (d a b c e : Content) (p : Place) (bytes : List ℕ) (zeros f : File) → IsPut d p None a → IsPathMade a p.dir b → ((q : Place) → b.file q ≡ a.file q) → IsPut b p (Some zeros) c → IsPut c p (Some f) e → HasBytes bytes f → IsPlaced d p bytes e
placed d a b c e p bytes zeros f gone folders same made put has = record {
  file = (f, put.here, has);
  dirs = record {
    path = λ n. put.dirs (above n p.dir) ∙ made.dirs (above n p.dir) ∙ folders.path n;
    kept = λ q h. put.dirs q ∙ made.dirs q ∙ folders.kept q (gone.dirs q ∙ h);
    no_more = λ q h. elim (folders.no_more q (sym (made.dirs q) ∙ sym (put.dirs q) ∙ h)) [ inl was ↦ inl (sym (gone.dirs q) ∙ was) | inr w ↦ inr w ];
  };
  others = λ q h. put.others q h ∙ made.others q h ∙ same q ∙ gone.others q h;
}

-- what is put is well formed
placed_file : (bytes : List ℕ) (f : File) → All (λ b. b < 256) bytes → HasBytes bytes f → IsWellFormedFile f
placed_file bytes f fit has = record {
  stable = λ k. elim (cases_lt k f.size) [
    | inl less ↦ subst (λ (b : List ℕ). IsSector b) (sym (has.sectors k less)) (piece_sector bytes k fit (subst (λ n. k < n) has.size less))
    | inr past ↦ subst (λ (b : List ℕ). IsSector b) (sym (has.past k past)) zeros_are
  ];
  loose = λ l h. absurd (nothing_in l (subst (λ (ls : List Loose). Contains ls l) has.settled.loose h));
  fresh = λ h e. absurd (no_host h (sym has.settled.fresh ∙ e));
}

placed_at : (d e : Content) (p q : Place) (bytes : List ℕ) (f : File) (t : Bool) → place_is q p ≡ t → All (λ b. b < 256) bytes → IsWellFormed d → IsPlaced d p bytes e → e.file q ≡ Some f
    → (e.dir q.dir ≡ true) × IsWellFormedFile f
placed_at d e p q bytes f true t fit ok w here =
    let same = place_is-same q p t in
    let is : w.file.0 ≡ f = same_Some w.file.0 f (sym w.file.1 ∙ ap (λ (x : Place). e.file x) (sym same) ∙ here) in
    (ap (λ (x : Place). e.dir x.dir) same ∙ w.dirs.path 0, subst (λ (x : File). IsWellFormedFile x) is (placed_file bytes w.file.0 fit w.file.2))
placed_at d e p q bytes f false t fit ok w here =
    let was : d.file q ≡ Some f = sym (w.others q (λ u. false≢true (sym t ∙ ap (λ (x : Place). place_is x p) u ∙ place_is-itself p))) ∙ here in
    (w.dirs.kept q.dir (ok.folders q f was), ok.files q f was)

pub placed_keeps : (d e : Content) (p : Place) (bytes : List ℕ) → All (λ b. b < 256) bytes → IsWellFormed d → IsPlaced d p bytes e → IsWellFormed e
placed_keeps d e p bytes fit ok w = record {
  root = w.dirs.kept Root ok.root;
  parents = λ q h. elim (w.dirs.no_more q h) [
    | inl was ↦ w.dirs.kept (parent_of q) (ok.parents q was)
    | inr u ↦ ap (λ (x : Dir). e.dir (parent_of x)) u.1 ∙ w.dirs.path (suc u.0)
  ];
  folders = λ q f h. (placed_at d e p q bytes f (place_is q p) refl fit ok w h).0;
  files = λ q f h. (placed_at d e p q bytes f (place_is q p) refl fit ok w h).1;
}

pub places_keeps : {E : Type 0} (d e : Content) (p : Place) (bytes : List ℕ) (answer : Result (Unit {0}) E) → All (λ b. b < 256) bytes → IsWellFormed d → Places d p bytes answer e → IsWellFormed e
places_keeps d e p bytes (Ok t) fit ok w = placed_keeps d e p bytes fit ok w
places_keeps d e p bytes (Err t) fit ok w = same_keeps d e ok w
