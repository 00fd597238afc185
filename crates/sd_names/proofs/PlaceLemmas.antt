-- Paths are ordered totally, and a path says which folder or file it is.
use Rattle.std.proofs.Common.{◌≡◌, ◌⊎◌, ℕ, ◌+◌, List, [], ◌∷◌, ◌++◌, length, length-append, get_or, take, drop, Bool, true, false, not, ◌&&◌, ◌==◌, if◌then◌else◌, codes, Some, unwrap_or, inl, arith, append_assoc, ⊎_elim, suc, ◌<◌, refl, sym, ap, ◌∙◌}
use Rattle.std.proofs.lemmas.Bool.{false≢true}
use Rattle.std.proofs.lemmas.Bool.Decides.{nat_tests}
use Rattle.std.proofs.lemmas.List.{take_at, drop_at, take_all, get_or-append_right}
use Rattle.std.proofs.lemmas.List.Folds.{list_all-append}
use Rattle.std.proofs.lemmas.Cmp.{nat_cmp_total, nat_list_cmp_total, on_total, then_total, tied_itself}
use Rattle.std.specs.Cmp.{IsTotalOrder}
use Rattle.std.specs.FinSet.{nat_cmp-IsAntisymmetric, slice_cmp-IsAntisymmetric}
use Rattle.std.specs.List.{list_all}
use Rattle.std.specs.Ordering.{nat_cmp, ordering_then}
use Rattle.std.specs.declared.cmp.Ordering.{Ordering}
use Rattle.std.specs.declared.cmp.Ordering.TheVariants.{Less, Equal, Greater}
use Rattle.uuid.specs.Text.{lower, parsed}
use Rattle.uuid.proofs.RoundTrips.{parses_hyphenated}
use Rattle.sd_names.specs.Id.{IsIdBytes, id_text}
use Rattle.sd_names.specs.declared.id.Id.{Id}
use Rattle.sd_names.specs.declared.place.Dir.{Dir}
use Rattle.sd_names.specs.declared.place.Dir.TheVariants.{Root, Domain, DomMd, Images, Image, Removed, Master, Tasks}
use Rattle.sd_names.specs.declared.place.Name.{Name}
use Rattle.sd_names.specs.declared.place.Name.TheVariants.{Metadata, MetadataNew, Leases, Inbox, Outbox, Volume, Meta, MetaNew, MetaVolatile, VolumeLease, Task, TaskNew}
use Rattle.sd_names.specs.declared.place.Place.{Place}
use Rattle.sd_names.specs.Place.{dir_path, name_text, place_path, name_rank, path_cmp, dir_cmp, name_cmp, place_cmp, DirHasIds, NameHasIds, PlaceHasIds}
use Rattle.sd_names.proofs.IdLemmas.{id_text-length, id_text-apart}

-- ---- total orders

pub dir_cmp-total : IsTotalOrder dir_cmp
dir_cmp-total = on_total dir_path nat_list_cmp_total

pub name_cmp-total : IsTotalOrder name_cmp
name_cmp-total = then_total (on_total name_text nat_list_cmp_total) (on_total name_rank nat_cmp_total)

pub place_cmp-total : IsTotalOrder place_cmp
place_cmp-total = then_total (on_total place_path nat_list_cmp_total) (on_total (λ (p : Place). name_rank p.name) nat_cmp_total)

path_cmp-equal : (a b : List ℕ) → path_cmp a b ≡ Equal → a ≡ b
path_cmp-equal a b e = slice_cmp-IsAntisymmetric nat_cmp-IsAntisymmetric a b e

then_equal : (x y : Ordering) → ordering_then x y ≡ Equal → (x ≡ Equal) × (y ≡ Equal)
then_equal Less y e = cc
then_equal Equal y e = (refl, e)
then_equal Greater y e = cc

-- ---- the identifier that a text begins with

id_of : List ℕ → Id
id_of text = record { 0 = unwrap_or (parsed (take 36 text)) [] }

id_of-append : (id : Id) (rest : List ℕ) → IsIdBytes id.0 → id_of (id_text id.0 ++ rest) ≡ id
unfolding id_of
id_of-append id rest is =
    let front : take 36 (id_text id.0 ++ rest) ≡ id_text id.0 = take_at (id_text id.0) rest 36 (id_text-length id.0) in
    let read : parsed (id_text id.0) ≡ Some id.0 = sym (parses_hyphenated lower id.0 (inl refl) is.sixteen is.in_range) in
    rw (front, read) refl

id_of-text : (id : Id) → IsIdBytes id.0 → id_of (id_text id.0) ≡ id
unfolding id_of
id_of-text id is =
    let front : take 36 (id_text id.0) ≡ id_text id.0 = take_all 36 (id_text id.0) (rw (id_text-length id.0) (omega arith)) in
    let read : parsed (id_text id.0) ≡ Some id.0 = sym (parses_hyphenated lower id.0 (inl refl) is.sixteen is.in_range) in
    rw (front, read) refl

-- ---- the folder of a path

read_dir : List ℕ → Dir
read_dir path =
    if length path == 0 then Root
    else if length path == 36 then Domain (id_of path)
    else if length path == 43 then
    (if get_or path 37 0 == 100 then DomMd (id_of path)
    else if get_or path 37 0 == 105 then Images (id_of path)
    else Master (id_of path))
    else if length path == 49 then Tasks (id_of path)
    else if length path == 80 then Image (id_of path) (id_of (drop 44 path))
    else Removed (id_of path) (id_of (drop 52 path))

long : (id : Id) (rest : List ℕ) (n : ℕ) → 36 + length rest ≡ n → length (id_text id.0 ++ rest) ≡ n
long id rest n e = length-append (id_text id.0) rest ∙ ap (λ k. k + length rest) (id_text-length id.0) ∙ e

letter : (id : Id) (rest : List ℕ) → get_or (id_text id.0 ++ rest) 37 0 ≡ get_or rest 1 0
letter id rest = get_or-append_right (id_text id.0) rest 36 37 0 (id_text-length id.0) (omega arith)

module _ (sd image : Id) (between : List ℕ) where
  image_long : (n : ℕ) → 72 + length between ≡ n → length (id_text sd.0 ++ between ++ id_text image.0) ≡ n
  image_long n e = length-append (id_text sd.0 ++ between) (id_text image.0) ∙ omega (arith, id_text-length image.0, long sd between (36 + length between) refl)

  image_front : IsIdBytes sd.0 → id_of (id_text sd.0 ++ between ++ id_text image.0) ≡ sd
  image_front is = rw append_assoc (id_of-append sd (between ++ id_text image.0) is)

  image_back : (n : ℕ) → 36 + length between ≡ n → IsIdBytes image.0 → id_of (drop n (id_text sd.0 ++ between ++ id_text image.0)) ≡ image
  image_back n e is = rw (drop_at (id_text sd.0 ++ between) (id_text image.0) n (long sd between n e)) (id_of-text image is)

read_dir-path : (d : Dir) → DirHasIds d → read_dir (dir_path d) ≡ d
unfolding read_dir
read_dir-path Root is = refl
read_dir-path (Domain sd) is = rw (id_text-length sd.0, id_of-text sd is) refl
read_dir-path (DomMd sd) is = rw (long sd (codes "/dom_md") 43 refl, letter sd (codes "/dom_md"), id_of-append sd (codes "/dom_md") is) refl
read_dir-path (Images sd) is = rw (long sd (codes "/images") 43 refl, letter sd (codes "/images"), id_of-append sd (codes "/images") is) refl
read_dir-path (Image sd image) is =
    rw (image_long sd image (codes "/images/") 80 refl, image_front sd image (codes "/images/") is.0, image_back sd image (codes "/images/") 44 refl is.1) refl
read_dir-path (Removed sd image) is =
    rw (image_long sd image (codes "/images/_remove_") 88 refl, image_front sd image (codes "/images/_remove_") is.0, image_back sd image (codes "/images/_remove_") 52 refl is.1) refl
read_dir-path (Master sd) is = rw (long sd (codes "/master") 43 refl, letter sd (codes "/master"), id_of-append sd (codes "/master") is) refl
read_dir-path (Tasks sd) is = rw (long sd (codes "/master/tasks") 49 refl, id_of-append sd (codes "/master/tasks") is) refl

pub dir_path-injective : (a b : Dir) → DirHasIds a → DirHasIds b → dir_path a ≡ dir_path b → a ≡ b
dir_path-injective a b is_a is_b same = sym (read_dir-path a is_a) ∙ ap read_dir same ∙ read_dir-path b is_b

pub dir_cmp-equal : (a b : Dir) → DirHasIds a → DirHasIds b → dir_cmp a b ≡ Equal → a ≡ b
dir_cmp-equal a b is_a is_b e = dir_path-injective a b is_a is_b (path_cmp-equal _ _ e)

-- ---- the name of a text

read_name : ℕ → List ℕ → Name
read_name rank text =
    if length text == 5 then Inbox
    else if length text == 6 then (if get_or text 0 0 == 108 then Leases else Outbox)
    else if length text == 8 then Metadata
    else if length text == 12 then MetadataNew
    else if length text == 36 then (if rank == 0 then Volume (id_of text) else Task (id_of text))
    else if length text == 40 then TaskNew (id_of text)
    else if length text == 41 then Meta (id_of text)
    else if length text == 42 then VolumeLease (id_of text)
    else if length text == 45 then MetaNew (id_of text)
    else MetaVolatile (id_of text)

read_name-text : (n : Name) → NameHasIds n → read_name (name_rank n) (name_text n) ≡ n
unfolding read_name
read_name-text Metadata is = refl
read_name-text MetadataNew is = refl
read_name-text Leases is = refl
read_name-text Inbox is = refl
read_name-text Outbox is = refl
read_name-text (Volume v) is = rw (id_text-length v.0, id_of-text v is) refl
read_name-text (Meta v) is = rw (long v (codes ".meta") 41 refl, id_of-append v (codes ".meta") is) refl
read_name-text (MetaNew v) is = rw (long v (codes ".meta.new") 45 refl, id_of-append v (codes ".meta.new") is) refl
read_name-text (MetaVolatile v) is = rw (long v (codes ".meta.volatile") 50 refl, id_of-append v (codes ".meta.volatile") is) refl
read_name-text (VolumeLease v) is = rw (long v (codes ".lease") 42 refl, id_of-append v (codes ".lease") is) refl
read_name-text (Task t) is = rw (id_text-length t.0, id_of-text t is) refl
read_name-text (TaskNew t) is = rw (long t (codes ".new") 40 refl, id_of-append t (codes ".new") is) refl

pub name_text-injective : (a b : Name) → NameHasIds a → NameHasIds b → name_text a ≡ name_text b → name_rank a ≡ name_rank b → a ≡ b
name_text-injective a b is_a is_b text rank =
    sym (read_name-text a is_a) ∙ ap (read_name (name_rank a)) text ∙ ap (λ (r : ℕ). read_name r (name_text b)) rank ∙ read_name-text b is_b

nat_cmp-equal : (x y : ℕ) → nat_cmp x y ≡ Equal → x ≡ y
nat_cmp-equal x y e = nat_cmp-IsAntisymmetric x y e

pub name_cmp-equal : (a b : Name) → NameHasIds a → NameHasIds b → name_cmp a b ≡ Equal → a ≡ b
name_cmp-equal a b is_a is_b e =
    let parts = then_equal (path_cmp (name_text a) (name_text b)) (nat_cmp (name_rank a) (name_rank b)) e in
    name_text-injective a b is_a is_b (path_cmp-equal _ _ parts.0) (nat_cmp-equal _ _ parts.1)

-- ---- a path's last slash stands before the name

has_no_slash : List ℕ → Bool
has_no_slash xs = list_all (λ c. not (c == 47)) xs

all_of_each : (p : ℕ → Bool) (xs : List ℕ) → ((k : ℕ) → k < length xs → p (get_or xs k 0) ≡ true) → list_all p xs ≡ true
all_of_each p [] each = refl
all_of_each p (x ∷ xs) each = rw (each 0 (omega arith), all_of_each p xs (λ k h. each (suc k) (omega arith))) refl

no_slash_id : (id : Id) → has_no_slash (id_text id.0) ≡ true
unfolding has_no_slash
no_slash_id id = all_of_each _ (id_text id.0) (λ k within. not_slash _ (id_text-apart id.0 k (rw (← id_text-length id.0) within)))
  where
    not_slash : (c : ℕ) → (47 < c) ⊎ (c ≡ 45) → not (c == 47) ≡ true
    not_slash c apart = ⊎_elim (λ above. grind (arith, nat_tests)) (λ hyphen. rw hyphen refl) apart

no_slash_id_then : (id : Id) (rest : List ℕ) → has_no_slash rest ≡ true → has_no_slash (id_text id.0 ++ rest) ≡ true
unfolding has_no_slash
no_slash_id_then id rest plain = rw (list_all-append _ (id_text id.0) rest, no_slash_id id) plain

no_slash_name : (n : Name) → has_no_slash (name_text n) ≡ true
unfolding has_no_slash
no_slash_name Metadata = refl
no_slash_name MetadataNew = refl
no_slash_name Leases = refl
no_slash_name Inbox = refl
no_slash_name Outbox = refl
no_slash_name (Volume v) = no_slash_id v
no_slash_name (Meta v) = no_slash_id_then v (codes ".meta") refl
no_slash_name (MetaNew v) = no_slash_id_then v (codes ".meta.new") refl
no_slash_name (MetaVolatile v) = no_slash_id_then v (codes ".meta.volatile") refl
no_slash_name (VolumeLease v) = no_slash_id_then v (codes ".lease") refl
no_slash_name (Task t) = no_slash_id t
no_slash_name (TaskNew t) = no_slash_id_then t (codes ".new") refl

slash_inside : (a xs : List ℕ) → has_no_slash (a ++ 47 ∷ xs) ≡ true → ⊥
unfolding has_no_slash
slash_inside [] xs plain = false≢true plain
slash_inside (c ∷ a) xs plain = slash_inside a xs (second (not (c == 47)) _ plain)
  where
    second : (x y : Bool) → (x && y) ≡ true → y ≡ true
    second true y e = e
    second false y e = absurd (false≢true e)

same_tail : (c d : ℕ) (xs ys : List ℕ) → c ∷ xs ≡ d ∷ ys → (c ≡ d) × (xs ≡ ys)
same_tail c d xs ys e = (cc, cc)

last_slash : (a b xs ys : List ℕ) → has_no_slash xs ≡ true → has_no_slash ys ≡ true → a ++ 47 ∷ xs ≡ b ++ 47 ∷ ys → (a ≡ b) × (xs ≡ ys)
last_slash [] [] xs ys p q e = (refl, (same_tail 47 47 xs ys e).1)
last_slash [] (d ∷ b) xs ys p q e = absurd (slash_inside b ys (ap has_no_slash (sym (same_tail 47 d xs (b ++ 47 ∷ ys) e).1) ∙ p))
last_slash (c ∷ a) [] xs ys p q e = absurd (slash_inside a xs (ap has_no_slash (same_tail c 47 (a ++ 47 ∷ xs) ys e).1 ∙ q))
last_slash (c ∷ a) (d ∷ b) xs ys p q e =
    let t = same_tail c d (a ++ 47 ∷ xs) (b ++ 47 ∷ ys) e in
    let rest = last_slash a b xs ys p q t.1 in
    (let h = t.0 in let r = rest.0 in cc, rest.1)

joined : List ℕ → List ℕ → List ℕ
joined dir name = if length dir == 0 then name else dir ++ 47 ∷ name

joined_some : (c : ℕ) (a n : List ℕ) → joined (c ∷ a) n ≡ c ∷ a ++ 47 ∷ n
unfolding joined
joined_some c a n = let some : (length (c ∷ a) == 0) ≡ false = grind (arith, nat_tests) in rw some refl

joined_none : (n : List ℕ) → joined [] n ≡ n
unfolding joined
joined_none n = refl

joined_same : (a b n m : List ℕ) → has_no_slash n ≡ true → has_no_slash m ≡ true → joined a n ≡ joined b m → (a ≡ b) × (n ≡ m)
joined_same [] [] n m p q e = (refl, sym (joined_none n) ∙ e ∙ joined_none m)
joined_same [] (d ∷ b) n m p q e = absurd (slash_inside (d ∷ b) m (ap has_no_slash (sym (joined_some d b m) ∙ sym e ∙ joined_none n) ∙ p))
joined_same (c ∷ a) [] n m p q e = absurd (slash_inside (c ∷ a) n (ap has_no_slash (sym (joined_some c a n) ∙ e ∙ joined_none m) ∙ q))
joined_same (c ∷ a) (d ∷ b) n m p q e = last_slash (c ∷ a) (d ∷ b) n m p q (sym (joined_some c a n) ∙ e ∙ joined_some d b m)

place_parts : (a b : Place) → place_path a ≡ place_path b → (dir_path a.dir ≡ dir_path b.dir) × (name_text a.name ≡ name_text b.name)
unfolding joined
place_parts a b e = joined_same (dir_path a.dir) (dir_path b.dir) (name_text a.name) (name_text b.name) (no_slash_name a.name) (no_slash_name b.name) e

pub place_cmp-equal : (a b : Place) → PlaceHasIds a → PlaceHasIds b → place_cmp a b ≡ Equal → a ≡ b
place_cmp-equal a b is_a is_b e =
    let parts = then_equal (path_cmp (place_path a) (place_path b)) (nat_cmp (name_rank a.name) (name_rank b.name)) e in
    let texts = place_parts a b (path_cmp-equal _ _ parts.0) in
    let dirs : a.dir ≡ b.dir = dir_path-injective a.dir b.dir is_a.0 is_b.0 texts.0 in
    let names : a.name ≡ b.name = name_text-injective a.name b.name is_a.1 is_b.1 texts.1 (nat_cmp-equal _ _ parts.1) in
    λ i. record { dir = dirs i; name = names i }

-- what an answer in this order says of equality
pub dir_cmp-decides : (r : Ordering) (a b : Dir) → DirHasIds a → DirHasIds b → r ≡ dir_cmp a b → (r ≡ Equal → a ≡ b) × (a ≡ b → r ≡ Equal)
dir_cmp-decides r a b is_a is_b is =
    (λ e. dir_cmp-equal a b is_a is_b (sym is ∙ e), λ e. is ∙ ap (λ (d : Dir). dir_cmp a d) (sym e) ∙ tied_itself dir_cmp-total a)

-- what an answer in this order says of equality
pub name_cmp-decides : (r : Ordering) (a b : Name) → NameHasIds a → NameHasIds b → r ≡ name_cmp a b → (r ≡ Equal → a ≡ b) × (a ≡ b → r ≡ Equal)
name_cmp-decides r a b is_a is_b is =
    (λ e. name_cmp-equal a b is_a is_b (sym is ∙ e), λ e. is ∙ ap (λ (d : Name). name_cmp a d) (sym e) ∙ tied_itself name_cmp-total a)

-- what an answer in this order says of equality
pub place_cmp-decides : (r : Ordering) (a b : Place) → PlaceHasIds a → PlaceHasIds b → r ≡ place_cmp a b → (r ≡ Equal → a ≡ b) × (a ≡ b → r ≡ Equal)
place_cmp-decides r a b is_a is_b is =
    (λ e. place_cmp-equal a b is_a is_b (sym is ∙ e), λ e. is ∙ ap (λ (d : Place). place_cmp a d) (sym e) ∙ tied_itself place_cmp-total a)
