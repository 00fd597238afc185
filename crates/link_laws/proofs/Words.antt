-- What is read in a sector in which entries were laid.
use Rattle.std.proofs.Common.{◌≡◌, ◌≢◌, ◌⊎◌, inl, inr, ℕ, zero, suc, ◌+◌, ◌-◌, ◌*◌, ◌%◌, ◌^◌, ◌<◌, ◌≤◌, Bool, List, length, Option, Some, None, Result, Ok, Err, refl, sym, ap, ◌∙◌, subst, arith, replicate}
use Rattle.std.proofs.lemmas.List.{drop-replicate, length-replicate, get_or-replicate, get_or_past}
use Rattle.byteorder.specs.Endian.{big_from}
use Rattle.std.specs.Prelude.{slice_index, ◌==◌, ◌&&◌, ◌||◌, not, if◌then◌else◌}
use Rattle.std.proofs.lemmas.Bool.{cases_lt, ne_eqb}
use Rattle.sd_names.specs.declared.fault.LayerFault.{LayerFault}
use Rattle.sd_names.specs.declared.fault.LayerFault.TheVariants.{Compressed, MixedBits}
use Rattle.qcow_format.specs.Bytes.{bytes_of, number, put}
use Rattle.qcow_format.specs.Entry.{bits_between, entry_in, offset_in, table_in, word_of}
use Rattle.qcow_format.specs.declared.entry.Entry.{Entry}
use Rattle.qcow_format.specs.declared.entry.Entry.TheVariants.{Absent, Zero, Data}
use Rattle.qcow_format.proofs.Put.{length-bytes_of, length-put, number-put_before, number-put_behind, number-put_same}
use Rattle.link_laws.specs.Links.{l1_word, laid, lay}
use Rattle.layer_laws.proofs.Positions.{same_or_not}

-- ---- the words

-- a place that a word can hold is the offset in it
pub offset_same : (place : ℕ) → place % 512 ≡ 0 → place < 2 ^ 56 → offset_in place ≡ place
offset_same place even low = omega (arith, even, low)

pub word_fits : (place : ℕ) → word_of (Data place) < 256 ^ 8
word_fits place = omega arith

-- an entry, and an L1 entry, by the numbers that the parts of its word make
abbrev entry_by : ℕ → ℕ → ℕ → ℕ → ℕ → ℕ → ℕ → Result Entry LayerFault
entry_by version at a b c d o =
    if not (a == 0) then Err (Compressed at)
    else if not (b == 0 && c == 0 && (d == 0 || version == 3)) then Err (MixedBits at)
    else if not (d == 0) then Ok (Zero o)
    else if o == 0 then Ok Absent
    else Ok (Data o)

abbrev table_by : ℕ → ℕ → ℕ → ℕ → Result (Option ℕ) LayerFault
table_by at a b o = if not (a == 0 && b == 0) then Err (MixedBits at) else if o == 0 then Ok None else Ok (Some o)

-- an entry is read again, whatever the version
pub data_read : (place version at : ℕ) → place % 512 ≡ 0 → place < 2 ^ 56 → 0 < place → entry_in (word_of (Data place)) version at ≡ Ok (Data place)
data_read place version at even low some =
    let whole : word_of (Data place) ≡ 2 ^ 63 + place = ap (λ (w : ℕ). 2 ^ 63 + w) (offset_same place even low) in
    ap (λ (w : ℕ). entry_in w version at) whole
    ∙ by (bits_between 62 63 (2 ^ 63 + place)) (bits_between 1 9 (2 ^ 63 + place)) (bits_between 56 62 (2 ^ 63 + place)) (bits_between 0 1 (2 ^ 63 + place)) (offset_in (2 ^ 63 + place))
    (omega (arith, low)) (omega (arith, even)) (omega (arith, low)) (omega (arith, even)) (omega (arith, even, low))
  where
    by : (a b c d o : ℕ) → a ≡ 0 → b ≡ 0 → c ≡ 0 → d ≡ 0 → o ≡ place → entry_by version at a b c d o ≡ Ok (Data place)
    by a b c d o ea eb ec ed eo =
        ap (λ (x : ℕ). entry_by version at x b c d o) ea
        ∙ ap (λ (x : ℕ). entry_by version at 0 x c d o) eb
        ∙ ap (λ (x : ℕ). entry_by version at 0 0 x d o) ec
        ∙ ap (λ (x : ℕ). entry_by version at 0 0 0 x o) ed
        ∙ ap (λ (x : ℕ). entry_by version at 0 0 0 0 x) eo
        ∙ ap (λ (b : Bool). if b then Ok Absent else Ok (Data place)) (ne_eqb place 0 (λ e. omega (arith, e, some)))

pub table_read : (table at : ℕ) → table % 512 ≡ 0 → table < 2 ^ 56 → 0 < table → table_in (l1_word table) at ≡ Ok (Some table)
table_read table at even low some =
    let whole : l1_word table ≡ 2 ^ 63 + table = ap (λ (w : ℕ). 2 ^ 63 + w) (offset_same table even low) in
    ap (λ (w : ℕ). table_in w at) whole
    ∙ by (bits_between 0 9 (2 ^ 63 + table)) (bits_between 56 63 (2 ^ 63 + table)) (offset_in (2 ^ 63 + table)) (omega (arith, even)) (omega (arith, low)) (omega (arith, even, low))
  where
    by : (a b o : ℕ) → a ≡ 0 → b ≡ 0 → o ≡ table → table_by at a b o ≡ Ok (Some table)
    by a b o ea eb eo =
        ap (λ (x : ℕ). table_by at x b o) ea ∙ ap (λ (x : ℕ). table_by at 0 x o) eb ∙ ap (λ (x : ℕ). table_by at 0 0 x) eo
        ∙ ap (λ (b : Bool). if b then Ok None else Ok (Some table)) (ne_eqb table 0 (λ e. omega (arith, e, some)))

-- ---- zeros

zero_from : (i w n : ℕ) → big_from i w (replicate n 0) ≡ 0
zero_from i zero n = refl
zero_from i (suc w) n =
    let here = zero_byte n i in
    let rest = zero_from (suc i) w n in
    ap (λ (x : ℕ). x * 256 ^ w + big_from (suc i) w (replicate n 0)) here ∙ sum (256 ^ w) (big_from (suc i) w (replicate n 0)) rest
  where
    zero_byte : (n i : ℕ) → slice_index (replicate n 0) i ≡ 0
    zero_byte n i = go (cases_lt i n)
      where
        go : (i < n) ⊎ (n ≤ i) → slice_index (replicate n 0) i ≡ 0
        go (inl lt) = get_or-replicate n i 0 0 lt
        go (inr le) = get_or_past (replicate n 0) i 0 (subst (λ m. m ≤ i) (sym (length-replicate n 0)) le)

    sum : (a b : ℕ) → b ≡ 0 → 0 * a + b ≡ 0
    sum a b e = omega (arith, e)

pub zero_word : (k : ℕ) → number 8 (k * 8) (replicate 512 0) ≡ 0
unfolding number
zero_word k = ap (λ xs. big_from 0 8 xs) (drop-replicate (k * 8) 512 0) ∙ zero_from 0 8 (512 - k * 8)

-- ---- the sector

pub length_lay : (o : Option ℕ) (m : ℕ) (bytes : List ℕ) → length bytes ≡ 512 → m < 64 → length (lay o m bytes) ≡ 512
length_lay None m bytes len lt = len
length_lay (Some place) m bytes len lt =
    let new : length (bytes_of 8 (word_of (Data place))) ≡ 8 = length-bytes_of 8 (word_of (Data place)) in
    length-put (m * 8) (bytes_of 8 (word_of (Data place))) bytes (omega (arith, new, len, lt)) ∙ len

pub laid_none : (to : ℕ → Option ℕ) (first : ℕ) (bytes : List ℕ) → laid to first 0 bytes ≡ bytes
unfolding laid
laid_none to first bytes = refl

pub laid_more : (to : ℕ → Option ℕ) (first m : ℕ) (bytes : List ℕ) → laid to first (suc m) bytes ≡ lay (to (first + m)) m (laid to first m bytes)
unfolding laid
laid_more to first m bytes = refl

pub length_laid : (to : ℕ → Option ℕ) (first m : ℕ) (bytes : List ℕ) → length bytes ≡ 512 → m ≤ 64 → length (laid to first m bytes) ≡ 512
unfolding laid
length_laid to first zero bytes len le = len
length_laid to first (suc m) bytes len le = length_lay (to (first + m)) m (laid to first m bytes) (length_laid to first m bytes len (omega (arith, le))) (omega (arith, le))

-- a word other than the one that was laid in
pub word_lay : (o : Option ℕ) (m k : ℕ) (bytes : List ℕ) → length bytes ≡ 512 → m < 64 → k ≢ m → number 8 (k * 8) (lay o m bytes) ≡ number 8 (k * 8) bytes
word_lay None m k bytes len lt ne = refl
word_lay (Some place) m k bytes len lt ne = go (same_or_not k m)
  where
    new : List ℕ
    new = bytes_of 8 (word_of (Data place))

    by_order : (k < m) ⊎ (m < k) → number 8 (k * 8) (put (m * 8) new bytes) ≡ number 8 (k * 8) bytes
    by_order (inl below) = number-put_before 8 (k * 8) (m * 8) new bytes (omega (arith, len, lt)) (omega (arith, below))
    by_order (inr above) = number-put_behind 8 (k * 8) (m * 8) new bytes (omega (arith, len, lt)) (let n : length new ≡ 8 = length-bytes_of 8 (word_of (Data place)) in omega (arith, n, above))

    order : (a b : ℕ) → a ≢ b → (a < b) ⊎ (b < a)
    order a b ne = grind arith

    go : (k ≡ m) ⊎ (k ≢ m) → number 8 (k * 8) (put (m * 8) new bytes) ≡ number 8 (k * 8) bytes
    go (inl e) = absurd (ne e)
    go (inr ne) = by_order (order k m ne)

-- the word that was laid in
pub word_laid_now : (place m : ℕ) (bytes : List ℕ) → length bytes ≡ 512 → m < 64 → number 8 (m * 8) (lay (Some place) m bytes) ≡ word_of (Data place)
word_laid_now place m bytes len lt = number-put_same 8 (m * 8) (word_of (Data place)) bytes (omega (arith, len, lt)) (word_fits place)

-- each of the words that were laid in
pub word_laid : (to : ℕ → Option ℕ) (first m k place : ℕ) (bytes : List ℕ) → length bytes ≡ 512 → m ≤ 64 → k < m → to (first + k) ≡ Some place → number 8 (k * 8) (laid to first m bytes) ≡ word_of (Data place)
unfolding laid
word_laid to first zero k place bytes len le lt is = absurd (omega (arith, lt))
word_laid to first (suc m) k place bytes len le lt is = go (λ lt. word_laid to first m k place bytes len (omega (arith, le)) lt is) (same_or_not k m)
  where
    low : m ≤ 64
    low = omega (arith, le)

    go : (k < m → number 8 (k * 8) (laid to first m bytes) ≡ word_of (Data place)) → (k ≡ m) ⊎ (k ≢ m)
        → number 8 (k * 8) (lay (to (first + m)) m (laid to first m bytes)) ≡ word_of (Data place)
    go below (inl e) =
        let here : to (first + m) ≡ Some place = sym (ap (λ (x : ℕ). to (first + x)) e) ∙ is in
        ap (λ (x : ℕ). number 8 (x * 8) (lay (to (first + m)) m (laid to first m bytes))) e
        ∙ ap (λ (o : Option ℕ). number 8 (m * 8) (lay o m (laid to first m bytes))) here
        ∙ word_laid_now place m (laid to first m bytes) (length_laid to first m bytes len low) (omega (arith, le))
    go below (inr ne) =
        word_lay (to (first + m)) m k (laid to first m bytes) (length_laid to first m bytes len low) (omega (arith, le)) ne
        ∙ below (omega (arith, lt, ne))
