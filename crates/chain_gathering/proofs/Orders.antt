-- The names of volumes are in the order of their identifiers, and what a listing has passed.
use Rattle.std.proofs.Common.{◌≡◌, ◌≢◌, ◌⊎◌, ℕ, List, [], ◌++◌, Option, Some, None, refl, sym, ap, ◌∙◌, subst, inl, inr, arith, codes, append-nil}
use Rattle.std.proofs.lemmas.Cmp.{nat_list_cmp_total, on_total, tied_itself}
use Rattle.std.specs.Cmp.{IsTotalOrder}
use Rattle.std.specs.FinSet.{nat_cmp-IsAntisymmetric, slice_cmp-IsAntisymmetric}
use Rattle.std.specs.Ordering.{nat_cmp, ordering_reverse, ordering_then}
use Rattle.std.specs.declared.cmp.Ordering.{Ordering}
use Rattle.std.specs.declared.cmp.Ordering.TheVariants.{Less, Equal, Greater}
use Rattle.sd_names.specs.Id.{IsIdBytes, id_text}
use Rattle.sd_names.specs.Place.{NameHasIds, name_cmp, name_rank, name_text, path_cmp}
use Rattle.sd_names.specs.declared.id.Id.{Id}
use Rattle.sd_names.specs.declared.place.Name.{Name}
use Rattle.sd_names.specs.declared.place.Name.TheVariants as name
use Rattle.sd_names.proofs.PlaceLemmas.{name_cmp-equal, name_cmp-total}
use Rattle.shared_disk.specs.NameCalls.{IsNameAbove}
use Rattle.chain_model.specs.Opening.{id_cmp}
use Rattle.chain_gathering.specs.Names.{IsPassed}
use Rattle.chain_gathering.proofs.Texts.{shorter_first, texts_rise}

pub id_cmp-total : IsTotalOrder id_cmp
id_cmp-total = on_total (λ (v : Id). v.0) nat_list_cmp_total

-- ---- what follows from one order

not_less_itself : (n : Name) → name_cmp n n ≡ Less → ⊥
not_less_itself n e = let tied = tied_itself name_cmp-total n in cc

pub not_less_same : (n m : Name) → n ≡ m → name_cmp n m ≡ Less → ⊥
not_less_same n m e less = not_less_itself n (subst (λ (k : Name). name_cmp n k ≡ Less) (sym e) less)

not_both_less : (n m : Name) → name_cmp n m ≡ Less → name_cmp m n ≡ Less → ⊥
not_both_less n m e f = not_less_itself n (name_cmp-total.trans n m n e f)

flipped : (o p : Ordering) → o ≡ ordering_reverse p → o ≡ Greater → p ≡ Less
flipped o Less e g = refl
flipped o Equal e g = absurd cc
flipped o Greater e g = absurd cc

flipped_less : (o p : Ordering) → o ≡ ordering_reverse p → p ≡ Less → o ≡ Greater
flipped_less o Less e l = e
flipped_less o Equal e l = absurd cc
flipped_less o Greater e l = absurd cc

pub greater_back : (n m : Name) → name_cmp n m ≡ Less → name_cmp m n ≡ Greater
greater_back n m less = flipped_less (name_cmp m n) (name_cmp n m) (name_cmp-total.antisymm m n) less

-- which of the two is less, or neither
pub which_less : (n m : Name) → (name_cmp n m ≡ Less) ⊎ ((name_cmp n m ≡ Equal) ⊎ (name_cmp m n ≡ Less))
which_less n m = go (name_cmp n m) refl
  where
    go : (o : Ordering) → name_cmp n m ≡ o → (name_cmp n m ≡ Less) ⊎ ((name_cmp n m ≡ Equal) ⊎ (name_cmp m n ≡ Less))
    go Less e = inl e
    go Equal e = inr (inl e)
    go Greater e = inr (inr (flipped (name_cmp n m) (name_cmp m n) (name_cmp-total.antisymm n m) e))

pub id_itself : (v : Id) → id_cmp v v ≢ Greater
id_itself v e = let tied = tied_itself id_cmp-total v in cc

pub id_same : (v w : Id) → id_cmp v w ≡ Equal → v ≡ w
id_same v w e = let same : v.0 ≡ w.0 = slice_cmp-IsAntisymmetric nat_cmp-IsAntisymmetric v.0 w.0 e in λ i. record { 0 = same i }

-- neither is greater than the other: they are one
pub id_between : (v w : Id) → id_cmp v w ≢ Greater → id_cmp w v ≢ Greater → v ≡ w
id_between v w low high = go (id_cmp v w) refl
  where
    go : (o : Ordering) → id_cmp v w ≡ o → v ≡ w
    go Less e = absurd (high (flipped_less (id_cmp w v) (id_cmp v w) (id_cmp-total.antisymm w v) e))
    go Equal e = id_same v w e
    go Greater e = absurd (low e)

-- ---- names of volumes

-- a name that begins with an identifier's text
record BeginsWith (n : Name) (v : Id) (rest : List ℕ) : Type 0 where
  text : name_text n ≡ id_text v.0 ++ rest
  ids : IsIdBytes v.0

named : (v : Id) → NameHasIds (name.Volume v) → BeginsWith (name.Volume v) v []
named v is = record { text = sym (append-nil (id_text v.0)); ids = is }

named_text : (v : Id) → NameHasIds (name.Meta v) → BeginsWith (name.Meta v) v (codes ".meta")
named_text v is = record { text = refl; ids = is }

name_rises : (n m : Name) (v w : Id) (rest more : List ℕ) → BeginsWith n v rest → BeginsWith m w more → id_cmp v w ≡ Less → name_cmp n m ≡ Less
name_rises n m v w rest more b c less =
    let below = texts_rise v.0 w.0 rest more b.ids c.ids less in
    let first : path_cmp (name_text n) (name_text m) ≡ Less = (λ i. path_cmp (b.text i) (c.text i)) ∙ below in
    ap (λ (o : Ordering). ordering_then o (nat_cmp (name_rank n) (name_rank m))) first

not_above : (n m : Name) (v w : Id) (rest more : List ℕ) → BeginsWith n v rest → BeginsWith m w more → name_cmp n m ≡ Less → id_cmp v w ≢ Greater
not_above n m v w rest more b c less greater =
    not_both_less n m less (name_rises m n w v more rest c b (flipped (id_cmp v w) (id_cmp w v) (id_cmp-total.antisymm v w) greater))

pub files_rise : (v w : Id) → NameHasIds (name.Volume v) → NameHasIds (name.Volume w) → name_cmp (name.Volume v) (name.Volume w) ≡ Less → id_cmp v w ≢ Greater
files_rise v w a b less = not_above (name.Volume v) (name.Volume w) v w [] [] (named v a) (named w b) less

pub file_before_text : (v w : Id) → NameHasIds (name.Volume v) → NameHasIds (name.Meta w) → name_cmp (name.Volume v) (name.Meta w) ≡ Less → id_cmp v w ≢ Greater
file_before_text v w a b less = not_above (name.Volume v) (name.Meta w) v w [] (codes ".meta") (named v a) (named_text w b) less

pub texts_are_rising : (v w : Id) → NameHasIds (name.Meta v) → NameHasIds (name.Meta w) → name_cmp (name.Meta v) (name.Meta w) ≡ Less → id_cmp v w ≡ Less
texts_are_rising v w a b less = go (id_cmp v w) refl
  where
    go : (o : Ordering) → id_cmp v w ≡ o → id_cmp v w ≡ Less
    go Less e = e
    go Equal e = absurd (not_less_same (name.Meta v) (name.Meta w) (ap (λ (u : Id). name.Meta u) (id_same v w e)) less)
    go Greater e = absurd (not_above (name.Meta v) (name.Meta w) v w (codes ".meta") (codes ".meta") (named_text v a) (named_text w b) less e)

pub own_file_first : (v : Id) → name_cmp (name.Volume v) (name.Meta v) ≡ Less
own_file_first v = ap (λ (o : Ordering). ordering_then o (nat_cmp 0 0)) (shorter_first (id_text v.0) (codes ".meta") (omega arith))

-- ---- what a listing has passed

pub above_or : (before : Option Name) (n : Name) → IsNameAbove before n ⊎ IsPassed before n
above_or None n = inl tt
above_or (Some b) n = go (name_cmp b n) refl
  where
    go : (o : Ordering) → name_cmp b n ≡ o → (name_cmp b n ≡ Less) ⊎ ((name_cmp b n ≡ Less) → ⊥)
    go Less e = inl e
    go Equal e = inr (λ less. cc)
    go Greater e = inr (λ less. cc)

-- what was passed stays so when the listing goes on
pub passed_on : (before : Option Name) (n m : Name) → IsNameAbove before m → IsPassed before n → IsPassed (Some m) n
passed_on None n m above passed less = passed tt
passed_on (Some b) n m above passed less = passed (name_cmp-total.trans b m n above less)

-- and is below the next name
pub passed_below : (before : Option Name) (n m : Name) → IsPassed before n → IsNameAbove before m → name_cmp n m ≡ Less
passed_below None n m passed above = absurd (passed tt)
passed_below (Some b) n m passed above = go (which_less b n)
  where
    go : (name_cmp b n ≡ Less) ⊎ ((name_cmp b n ≡ Equal) ⊎ (name_cmp n b ≡ Less)) → name_cmp n m ≡ Less
    go (inl less) = absurd (passed less)
    go (inr (inl e)) = sym (name_cmp-total.congr b n m e) ∙ above
    go (inr (inr less)) = name_cmp-total.trans n b m less above

pub passed_itself : (n : Name) → IsPassed (Some n) n
passed_itself n less = not_less_itself n less

-- what is passed at the next name was passed before, or is that name
pub passed_next : (before : Option Name) (n m : Name) → NameHasIds n → NameHasIds m → (IsNameAbove before n → name_cmp m n ≢ Greater) → IsPassed (Some m) n → IsPassed before n ⊎ (n ≡ m)
passed_next before n m is_n is_m least passed = go (above_or before n)
  where
    equal : (o : Ordering) → name_cmp m n ≡ o → o ≢ Less → o ≢ Greater → name_cmp m n ≡ Equal
    equal Less e low high = absurd (low refl)
    equal Equal e low high = e
    equal Greater e low high = absurd (high refl)

    go : IsNameAbove before n ⊎ IsPassed before n → IsPassed before n ⊎ (n ≡ m)
    go (inl above) = inr (sym (name_cmp-equal m n is_m is_n (equal (name_cmp m n) refl passed (least above))))
    go (inr was) = inl was
