-- Several entries of one sector of a table become data, one after the other.
use Rattle.std.proofs.Common.{◌≡◌, ◌≢◌, ◌⊎◌, inl, inr, ℕ, zero, suc, ◌+◌, ◌-◌, ◌*◌, ◌/◌, ◌%◌, ◌^◌, ◌<◌, ◌≤◌, Bool, true, false, List, length, Option, Some, None, Result, Ok, refl, sym, ap, ◌∙◌, subst, arith, nat_lt, nat_le}
use Rattle.std.specs.Prelude.{◌==◌, if◌then◌else◌, replicate}
use Rattle.std.proofs.Math.Nat.{mod-lt}
use Rattle.std.proofs.lemmas.Nat.{pow_pos}
use Rattle.std.proofs.lemmas.Bool.{cases_lt, eq-eqb, ne_eqb}
use Rattle.std.proofs.lemmas.Bool.Decides.{nat_tests}
use Rattle.sd_names.specs.declared.fault.LayerFault.{LayerFault}
use Rattle.sd_names.specs.declared.fault.LayerFault.TheVariants.{OutOfFile}
use Rattle.qcow_format.specs.Bytes.{number}
use Rattle.qcow_format.specs.Entry.{entry_in, word_of}
use Rattle.qcow_format.specs.declared.header.Header.{Header}
use Rattle.qcow_format.specs.declared.entry.Entry.{Entry}
use Rattle.qcow_format.specs.declared.entry.Entry.TheVariants.{Data}
use Rattle.image_model.specs.File.{File, file_of}
use Rattle.image_model.specs.Layer.{Tables, block_place, byte_behind, count_of, entries, entry_at, l1_entry, l2_at, l2_entry, own_byte}
use Rattle.image_model.specs.Soundness.{IsClean, IsSound, Item, item, layer_header, names, outside, own_fault}
use Rattle.layer_laws.specs.Laws.{AreSectors, Entered, IsNamedOnlyAt, OnlyWord, SameOutside, entry_position, l1_position, layer}
use Rattle.layer_laws.proofs.Clusters.{Agrees, agrees, other_byte}
use Rattle.layer_laws.proofs.Enters.{entered}
use Rattle.layer_laws.proofs.Heads.{parent_kept}
use Rattle.layer_laws.proofs.Numbers.{cluster_sectors, whole_sector}
use Rattle.layer_laws.proofs.Positions.{l1_not_l2, same_or_not}
use Rattle.layer_laws.proofs.Sound.{Shape, clean_of, entry_lt, header_name, shape_of, table_name, unique}
use Rattle.link_laws.specs.Links.{AreLinks, IsAmong, IsCounted, IsLaid, Linked, byte_with, entry_with, laid, lay, no_table, row_of, sector_at}
use Rattle.link_laws.proofs.Rows as rows
use Rattle.link_laws.proofs.Rows.{lies_whole, place_in}
use Rattle.link_laws.proofs.Words.{data_read, laid_more, laid_none, length_laid, word_laid, word_laid_now, word_lay}

-- a name without a fault lies inside the file
named_inside : (size : ℕ) (x : Item) (place : ℕ) → own_fault size x ≡ None → x.name ≡ Some place → place < size
named_inside size x place fine named = go x.wrong refl
  where
    by : (b : Bool) → nat_le size place ≡ b → (if b then Some (OutOfFile x.at) else None) ≡ None → place < size
    by true e is = absurd cc
    by false e is = grind (arith, nat_tests)

    go : (wrong : Option LayerFault) → x.wrong ≡ wrong → place < size
    go None e =
        by (nat_le size place) refl
        (sym (ap (λ (o : Option ℕ). outside size x.at o) named)
        ∙ sym (ap (λ (o : Option LayerFault). elim o as (λ _. Option LayerFault) [ None ↦ outside size x.at x.name | Some fault ↦ Some fault ]) e) ∙ fine)
    go (Some fault) e =
        let bad : Some fault ≡ None = sym (ap (λ (o : Option LayerFault). elim o as (λ _. Option LayerFault) [ None ↦ outside size x.at x.name | Some fault ↦ Some fault ]) e) ∙ fine in
        absurd cc

pub inside : (h : Header) (f : File) (capacity m place : ℕ) → IsClean (layer h f) capacity m → names (layer h f) capacity m ≡ Some place → place < f.size
inside h f capacity m place clean named = named_inside f.size (item (layer h f) capacity m) place clean.fine named

-- a word of the file
pub word_in : (n w : ℕ) (s : ℕ → List ℕ) → w / 64 < n → (file_of n s).word w ≡ number 8 (w % 64 * 8) (s (w / 64))
unfolding file_of
word_in n w s lt = let e : nat_lt (w / 64) n ≡ true = grind (arith, nat_tests) in ap (λ (b : Bool). number 8 (w % 64 * 8) (if b then s (w / 64) else replicate 512 0)) e

-- positions behind the first
late_entry : (t : Tables) (k : ℕ) → 0 ≡ entry_position t k → ⊥
late_entry t k e = omega (arith, e)

late_row : (t : Tables) (i : ℕ) → l1_position t i ≡ 0 → ⊥
late_row t i e = omega (arith, e)

pub same_some : {A : Type 0} (a b : A) (o : Option A) → o ≡ Some a → o ≡ Some b → a ≡ b
same_some a b o e f = cc

module _ (n capacity group table : ℕ) (to : ℕ → Option ℕ) (s s' : ℕ → List ℕ) (h : Header) (are : AreSectors n s) (is : layer_header (file_of n s) capacity ≡ Ok h)
    (sound : IsSound (file_of n s) capacity) (whole : 512 * n % 2 ^ h.cluster_bits ≡ 0) (low : row_of (layer h (file_of n s)) group < h.l1_size)
    (l1 : l1_entry (layer h (file_of n s)) (row_of (layer h (file_of n s)) group) ≡ Ok (Some table)) (links : AreLinks (layer h (file_of n s)) capacity group to)
    (laid_in : IsLaid to (64 * group) (sector_at (layer h (file_of n s)) table group) s s') where
  abbrev F : File
  F = file_of n s

  abbrev G : File
  G = file_of n s'

  abbrev T : Tables
  T = layer h (file_of n s)

  abbrev c : ℕ
  c = 2 ^ h.cluster_bits

  abbrev e : ℕ
  e = 2 ^ (h.cluster_bits - 9)

  abbrev first : ℕ
  first = 64 * group

  abbrev sector : ℕ
  sector = sector_at T table group

  shape : Shape h
  shape = shape_of F capacity h is

  clean : (m : ℕ) → IsClean T capacity m
  clean = clean_of F capacity h is sound

  sectors : c ≡ 512 * e
  sectors = cluster_sectors h.cluster_bits shape.low

  width : entries T ≡ 64 * e
  width = let a = sectors in omega (arith, a)

  some : 0 < e
  some = pow_pos (h.cluster_bits - 9)

  named : (names T capacity (l1_position T (row_of T group)) ≡ Some table) × (table % c ≡ 0)
  named = table_name h F capacity shape clean (row_of T group) table low l1

  even : table % 512 ≡ 0
  even = whole_sector table c e sectors named.1

  -- the table lies in the file
  fits : table + c ≤ 512 * n
  unfolding file_of
  fits = lies_whole table (512 * n) c named.1 whole (inside h F capacity (l1_position T (row_of T group)) table (clean (l1_position T (row_of T group))) named.0)

  -- ---- where entry m of the sector stands

  row : (m : ℕ) → m < 64 → (first + m) / entries T ≡ row_of T group
  row m lt = ap (λ (x : ℕ). (first + m) / x) width ∙ rows.row group e m some lt ∙ sym (ap (λ (x : ℕ). first / x) width)

  word_sector : (m : ℕ) → m < 64 → l2_at table ((first + m) % entries T) / 8 / 64 ≡ sector
  word_sector m lt =
      ap (λ (x : ℕ). (table + 8 * ((first + m) % x)) / 8 / 64) width ∙ rows.word_sector group e m some lt table even
      ∙ sym (ap (λ (x : ℕ). (table + 8 * (first % x)) / 512) width)

  word_column : (m : ℕ) → m < 64 → l2_at table ((first + m) % entries T) / 8 % 64 ≡ m
  word_column m lt = ap (λ (x : ℕ). (table + 8 * ((first + m) % x)) / 8 % 64) width ∙ rows.word_column group e m some lt table even

  sector_low : table / 512 ≤ sector
  sector_low = omega arith

  sector_high : sector < (table + c) / 512
  sector_high =
      let a = rows.sector_high group e 0 some (omega arith) table even in
      let b : sector ≡ (table + 8 * (first % (64 * e))) / 512 = ap (λ (x : ℕ). (table + 8 * (first % x)) / 512) width in
      let d = sectors in
      omega (arith, a, b, d)

  sector_lt : sector < n
  sector_lt = let a = sector_high in let b = fits in omega (arith, a, b)

  fits_in : (place : ℕ) → place < F.size → place < 512 * n
  unfolding file_of
  fits_in place lt = lt

  -- ---- the files in between: the first m entries are laid in

  abbrev at : ℕ → ℕ → List ℕ
  at m k = if k == sector then laid to first m (s sector) else s k

  abbrev below : ℕ → ℕ → Option ℕ
  below m k = if nat_lt k (first + m) then to k else None

  at_here : (m : ℕ) → at m sector ≡ laid to first m (s sector)
  at_here m = ap (λ (b : Bool). if b then laid to first m (s sector) else s sector) (eq-eqb sector sector refl)

  at_other : (m k : ℕ) → k ≢ sector → at m k ≡ s k
  at_other m k ne = ap (λ (b : Bool). if b then laid to first m (s sector) else s k) (ne_eqb k sector ne)

  are_at : (m : ℕ) → m ≤ 64 → AreSectors n (at m)
  are_at m le k lt = go (same_or_not k sector)
    where
      go : (k ≡ sector) ⊎ (k ≢ sector) → length (at m k) ≡ 512
      go (inl same) = ap (λ (x : ℕ). length (at m x)) same ∙ ap length (at_here m) ∙ length_laid to first m (s sector) (are sector sector_lt) le
      go (inr ne) = ap length (at_other m k ne) ∙ are k lt

  record Upto (new : ℕ → Option ℕ) (g : File) : Type 0 where
    pub header : layer_header g capacity ≡ Ok h
    pub stays : IsSound g capacity
    pub entries : (k : ℕ) → entry_at (layer h g) k ≡ entry_with (new k) (entry_at T k)
    pub tables : (i : ℕ) → i < h.l1_size → l1_entry (layer h g) i ≡ l1_entry T i
    pub blocks : (b : ℕ) → block_place (layer h g) b ≡ block_place T b
    pub counts : (x : ℕ) → count_of (layer h g) x ≡ count_of T x
    pub names : (m place : ℕ) → names (layer h g) capacity m ≡ Some place → (names T capacity m ≡ Some place) ⊎ IsAmong new place
    pub kept : (i : ℕ) → new (i / c) ≡ None → own_byte (layer h g) i ≡ own_byte T i

  below_in : (m k : ℕ) → k < first + m → below m k ≡ to k
  below_in m k lt = let e : nat_lt k (first + m) ≡ true = grind (arith, nat_tests) in ap (λ (b : Bool). if b then to k else None) e

  below_out : (m k : ℕ) → first + m ≤ k → below m k ≡ None
  below_out m k le = let e : nat_lt k (first + m) ≡ false = grind (arith, nat_tests) in ap (λ (b : Bool). if b then to k else None) e

  -- clusters whose entries stand elsewhere get no place
  to_none : (k : ℕ) → (k < first) ⊎ (first + 64 ≤ k) → to k ≡ None
  to_none k out = go (to k) refl
    where
      far : k / 64 ≡ group → (k < first) ⊎ (first + 64 ≤ k) → ⊥
      far e (inl lt) = omega (arith, e, lt)
      far e (inr le) = omega (arith, e, le)

      go : (o : Option ℕ) → to k ≡ o → o ≡ None
      go None e = refl
      go (Some place) e = absurd (far (links.sector k place e) out)

  -- the same clusters in the same file
  moved : (new new' : ℕ → Option ℕ) (t t' : ℕ → List ℕ) → ((k : ℕ) → new k ≡ new' k) → ((k : ℕ) → t k ≡ t' k) → Upto new (file_of n t) → Upto new' (file_of n t')
  moved new new' t t' a b upto =
      let new_is : new ≡ new' = λ i. λ k. a k i in
      let t_is : t ≡ t' = λ i. λ k. b k i in
      subst (λ (x : ℕ → Option ℕ). Upto x (file_of n t')) new_is (subst (λ (x : ℕ → List ℕ). Upto new (file_of n x)) t_is upto)

  start : Upto (below 0) (file_of n (at 0))
  start = moved (λ _. None) (below 0) s (at 0) (λ k. none k (cases_lt k first)) (λ k. same k (same_or_not k sector)) origin
    where
      origin : Upto (λ _. None) F
      origin = record {
        header = is;
        stays = sound;
        entries = λ k. refl;
        tables = λ i lt. refl;
        blocks = λ b. refl;
        counts = λ x. refl;
        names = λ m place e. inl e;
        kept = λ i e. refl;
      }

      none : (k : ℕ) → (k < first) ⊎ (first ≤ k) → None ≡ below 0 k
      none k (inl lt) = sym (below_in 0 k (omega (arith, lt)) ∙ to_none k (inl lt))
      none k (inr le) = sym (below_out 0 k (omega (arith, le)))

      same : (k : ℕ) → (k ≡ sector) ⊎ (k ≢ sector) → s k ≡ at 0 k
      same k (inl e) = ap s e ∙ sym (ap (λ (x : ℕ). at 0 x) e ∙ at_here 0 ∙ laid_none to first (s sector))
      same k (inr ne) = sym (at_other 0 k ne)

  -- an entry that gets no place
  pass : (m : ℕ) → to (first + m) ≡ None → Upto (below m) (file_of n (at m)) → Upto (below (suc m)) (file_of n (at (suc m)))
  pass m none upto = moved (below m) (below (suc m)) (at m) (at (suc m)) (λ k. same k (cases_lt k (first + m)) (same_or_not k (first + m)))
      (λ k. ap (λ (x : List ℕ). if k == sector then x else s k) (sym (laid_more to first m (s sector) ∙ ap (λ (o : Option ℕ). lay o m (laid to first m (s sector))) none))) upto
    where
      same : (k : ℕ) → (k < first + m) ⊎ (first + m ≤ k) → (k ≡ first + m) ⊎ (k ≢ first + m) → below m k ≡ below (suc m) k
      same k (inl lt) other = below_in m k lt ∙ sym (below_in (suc m) k (omega (arith, lt)))
      same k (inr le) (inl e) = below_out m k le ∙ sym (below_in (suc m) k (omega (arith, e)) ∙ ap to e ∙ none)
      same k (inr le) (inr ne) = below_out m k le ∙ sym (below_out (suc m) k (omega (arith, le, ne)))

  -- an entry that gets one
  module _ (m place : ℕ) (lt : m < 64) (given : to (first + m) ≡ Some place) (before : Upto (below m) (file_of n (at m))) where
    abbrev k : ℕ
    k = first + m

    abbrev w : ℕ
    w = l2_at table (k % entries T) / 8

    abbrev M : File
    M = file_of n (at m)

    abbrev N : File
    N = file_of n (at (suc m))

    counted : IsCounted T place
    counted = links.counted k place given

    now_laid : at (suc m) sector ≡ lay (Some place) m (laid to first m (s sector))
    now_laid = at_here (suc m) ∙ laid_more to first m (s sector) ∙ ap (λ (o : Option ℕ). lay o m (laid to first m (s sector))) given

    len : length (laid to first m (s sector)) ≡ 512
    len = length_laid to first m (s sector) (are sector sector_lt) (omega (arith, lt))

    only : OnlyWord w (at m) (at (suc m))
    only = record {
      others = λ x ne. let other : x ≢ sector = λ e. ne (e ∙ sym (word_sector m lt)) in at_other (suc m) x other ∙ sym (at_other m x other);
      rest = λ j j_lt ne.
          ap (λ (x : ℕ). number 8 (j * 8) (at (suc m) x)) (word_sector m lt) ∙ ap (number 8 (j * 8)) now_laid
          ∙ word_lay (Some place) m j (laid to first m (s sector)) len lt (λ e. ne (e ∙ sym (word_column m lt)))
          ∙ sym (ap (λ (x : ℕ). number 8 (j * 8) (at m x)) (word_sector m lt) ∙ ap (number 8 (j * 8)) (at_here m));
    }

    word : N.word w ≡ word_of (Data place)
    word =
        word_in n w (at (suc m)) (subst (λ (x : ℕ). x < n) (sym (word_sector m lt)) sector_lt)
        ∙ ap (λ (x : ℕ). number 8 (x * 8) (at (suc m) (w / 64))) (word_column m lt)
        ∙ ap (λ (x : ℕ). number 8 (m * 8) (at (suc m) x)) (word_sector m lt)
        ∙ ap (number 8 (m * 8)) now_laid
        ∙ word_laid_now place m (laid to first m (s sector)) len lt

    some_place : 0 < place
    some_place = go place refl
      where
        first_one : place ≡ 0 → ⊥
        first_one e =
            let here = links.free k place given 0 (header_name h F capacity shape clean ∙ ap (λ (x : ℕ). Some x) (sym e)) in
            late_entry T k here

        go : (p : ℕ) → place ≡ p → 0 < place
        go zero e = absurd (first_one e)
        go (suc p) e = omega (arith, e)

    new : l2_entry (layer h N) table (k % entries T) ≡ Ok (Data place)
    new = ap (λ (x : ℕ). entry_in x h.version (l2_at table (k % entries T))) word
        ∙ data_read place h.version (l2_at table (k % entries T)) (whole_sector place c e sectors counted.begins) counted.low some_place

    free : IsNamedOnlyAt (layer h M) capacity (entry_position T k) place
    free x is = go (before.names x place is)
      where
        go : (names T capacity x ≡ Some place) ⊎ IsAmong (below m) place → x ≡ entry_position T k
        go (inl was) = links.free k place given x was
        go (inr among) = absurd (again among.0 among.1 (cases_lt among.0 (first + m)))
          where
            again : (j : ℕ) → below m j ≡ Some place → (j < first + m) ⊎ (first + m ≤ j) → ⊥
            again j is (inl low) = let e = links.once j k place (sym (below_in m j low) ∙ is) given in omega (arith, e, low)
            again j is (inr high) = let e : None ≡ Some place = sym (below_out m j high) ∙ is in absurd cc

    step : Entered h capacity k place M N
    step = entered n capacity k table place (at m) (at (suc m)) h (are_at m (omega (arith, lt))) before.header before.stays
        (subst (λ (x : ℕ). x < h.l1_size) (sym (row m lt)) low)
        (ap (λ (x : ℕ). l1_entry (layer h M) x) (row m lt) ∙ before.tables (row_of T group) low ∙ l1)
        (links.inside k place given) only new counted.begins (fits_in place counted.fits) (subst (λ (x : ℕ). 0 < x) (sym (before.counts (place / c))) counted.counted) free

    one : Upto (below (suc m)) N
    one = record {
      header = step.header;
      stays = step.sound;
      entries = λ j. entries_now j (same_or_not j k);
      tables = λ i lt. step.tables i lt ∙ before.tables i lt;
      blocks = λ b. step.blocks b ∙ before.blocks b;
      counts = λ x. step.counts_kept x ∙ before.counts x;
      names = λ x p is. names_now x p is (same_or_not x (entry_position T k));
      kept = λ i none. kept_now i none (same_or_not (i / c) k);
    }
      where
        below_now : below (suc m) k ≡ Some place
        below_now = below_in (suc m) k (omega arith) ∙ given

        below_other : (j : ℕ) → j ≢ k → below (suc m) j ≡ below m j
        below_other j ne = go (cases_lt j k)
          where
            go : (j < k) ⊎ (k ≤ j) → below (suc m) j ≡ below m j
            go (inl lt) = below_in (suc m) j (omega (arith, lt)) ∙ sym (below_in m j lt)
            go (inr le) = below_out (suc m) j (omega (arith, le, ne)) ∙ sym (below_out m j le)

        entries_now : (j : ℕ) → (j ≡ k) ⊎ (j ≢ k) → entry_at (layer h N) j ≡ entry_with (below (suc m) j) (entry_at T j)
        entries_now j (inl e) = ap (entry_at (layer h N)) e ∙ step.entry ∙ sym (ap (λ (x : ℕ). entry_with (below (suc m) x) (entry_at T x)) e ∙ ap (λ (o : Option ℕ). entry_with o (entry_at T k)) below_now)
        entries_now j (inr ne) = step.entries_kept j ne ∙ before.entries j ∙ ap (λ (o : Option ℕ). entry_with o (entry_at T j)) (sym (below_other j ne))

        more : (j p : ℕ) → below m j ≡ Some p → below (suc m) j ≡ Some p
        more j p is = go (same_or_not j k)
          where
            go : (j ≡ k) ⊎ (j ≢ k) → below (suc m) j ≡ Some p
            go (inl e) = let bad : None ≡ Some p = sym (ap (below m) e ∙ below_out m k (omega arith)) ∙ is in absurd cc
            go (inr ne) = below_other j ne ∙ is

        names_now : (x p : ℕ) → names (layer h N) capacity x ≡ Some p → (x ≡ entry_position T k) ⊎ (x ≢ entry_position T k) → (names T capacity x ≡ Some p) ⊎ IsAmong (below (suc m)) p
        names_now x p is (inl e) =
            let same : place ≡ p = same_some place p (names (layer h N) capacity (entry_position T k)) step.named (sym (ap (names (layer h N) capacity) e) ∙ is) in
            inr (k, below_now ∙ ap (λ (x : ℕ). Some x) same)
        names_now x p is (inr ne) = go (before.names x p (sym (step.names_kept x ne) ∙ is))
          where
            go : (names T capacity x ≡ Some p) ⊎ IsAmong (below m) p → (names T capacity x ≡ Some p) ⊎ IsAmong (below (suc m)) p
            go (inl was) = inl was
            go (inr among) = inr (among.0, more among.0 p among.1)

        kept_now : (i : ℕ) → below (suc m) (i / c) ≡ None → (i / c ≡ k) ⊎ (i / c ≢ k) → own_byte (layer h N) i ≡ own_byte T i
        kept_now i none (inl e) = let bad : None ≡ Some place = sym none ∙ ap (below (suc m)) e ∙ below_now in absurd cc
        kept_now i none (inr ne) = step.bytes_kept i ne ∙ before.kept i (sym (below_other (i / c) ne) ∙ none)

  upto : (m : ℕ) → m ≤ 64 → Upto (below m) (file_of n (at m))
  upto zero le = start
  upto (suc m) le = go (to (first + m)) refl (upto m (omega (arith, le)))
    where
      go : (o : Option ℕ) → to (first + m) ≡ o → Upto (below m) (file_of n (at m)) → Upto (below (suc m)) (file_of n (at (suc m)))
      go None e before = pass m e before
      go (Some place) e before = one m place (omega (arith, le)) e before

  whole_of : Upto to G
  whole_of = moved (below 64) to (at 64) s' (λ k. all k (cases_lt k (first + 64))) (λ k. same k (same_or_not k sector)) (upto 64 (omega arith))
    where
      all : (k : ℕ) → (k < first + 64) ⊎ (first + 64 ≤ k) → below 64 k ≡ to k
      all k (inl lt) = below_in 64 k lt
      all k (inr le) = below_out 64 k le ∙ sym (to_none k (inr le))

      same : (k : ℕ) → (k ≡ sector) ⊎ (k ≢ sector) → at 64 k ≡ s' k
      same k (inl e) = ap (λ (x : ℕ). at 64 x) e ∙ at_here 64 ∙ sym (ap s' e ∙ laid_in.here)
      same k (inr ne) = at_other 64 k ne ∙ sym (laid_in.others k ne)

  outside_table : SameOutside table c s s'
  outside_table k out = laid_in.others k (λ e. go e out)
    where
      go : k ≡ sector → (k < table / 512) ⊎ ((table + c) / 512 ≤ k) → ⊥
      go e (inl low) = let a = sector_low in omega (arith, e, low, a)
      go e (inr high) = let a = sector_high in omega (arith, e, high, a)

  agree : Agrees c table F G
  agree = agrees n table c e s s' sectors (pow_pos h.cluster_bits) named.1 outside_table

  -- a place that only an entry names is none of a table's
  not_table : (k place : ℕ) → IsNamedOnlyAt T capacity (entry_position T k) place → place ≢ table
  not_table k place free same =
      l1_not_l2 T (row_of T group) (k / entries T) (k % entries T) (entry_lt h F capacity shape clean k)
      (free (l1_position T (row_of T group)) (named.0 ∙ ap (λ (x : ℕ). Some x) (sym same)))

  stands : (k place offset : ℕ) → place % c ≡ 0 → IsNamedOnlyAt T capacity (entry_position T k) place → offset < c → G.byte (place + offset) ≡ F.byte (place + offset)
  stands k place offset begins free lt = other_byte c (2 ^ (h.cluster_bits - 9)) table F G sectors named.1 agree place offset begins lt (not_table k place free)

  not_first : table ≢ 0
  not_first e =
      let here = unique h F capacity shape clean (l1_position T (row_of T group)) 0 table named.0 (header_name h F capacity shape clean ∙ ap (λ (x : ℕ). Some x) (sym e)) in
      late_row T (row_of T group) here

  bytes : (i : ℕ) (o : Option ℕ) → to (i / c) ≡ o → own_byte (layer h G) i ≡ byte_with F o (i % c) (own_byte T i)
  unfolding own_byte
  bytes i None e = whole_of.kept i e
  bytes i (Some place) e =
      ap (λ (x : Entry). byte_behind (layer h G) (i % c) x) (whole_of.entries (i / c) ∙ ap (λ (o : Option ℕ). entry_with o (entry_at T (i / c))) e)
      ∙ ap (λ (b : ℕ). Some b) (stands (i / c) place (i % c) (links.counted (i / c) place e).begins (links.free (i / c) place e) (mod-lt i (pow_pos h.cluster_bits)))

  word_now : (k place : ℕ) → to k ≡ Some place → G.word (l2_at table (k % entries T) / 8) ≡ word_of (Data place)
  word_now k place given =
      let at_k : k ≡ first + k % 64 = place_in k group (links.sector k place given) in
      let lt : k % 64 < 64 = omega arith in
      ap (λ (x : ℕ). G.word (l2_at table (x % entries T) / 8)) at_k ∙ go (k % 64) lt (sym (ap to at_k) ∙ given)
    where
      go : (m : ℕ) → m < 64 → to (first + m) ≡ Some place → G.word (l2_at table ((first + m) % entries T) / 8) ≡ word_of (Data place)
      go m lt is =
          let w : ℕ = l2_at table ((first + m) % entries T) / 8 in
          word_in n w s' (subst (λ (x : ℕ). x < n) (sym (word_sector m lt)) sector_lt)
          ∙ ap (λ (x : ℕ). number 8 (x * 8) (s' (w / 64))) (word_column m lt)
          ∙ ap (λ (x : ℕ). number 8 (m * 8) (s' x)) (word_sector m lt)
          ∙ ap (number 8 (m * 8)) laid_in.here
          ∙ word_laid to first 64 m place (s sector) (are sector sector_lt) (omega arith) lt is

  same_size : G.size ≡ F.size
  unfolding file_of
  same_size = refl

  pub linked : Linked h capacity to no_table F G
  linked = record {
    size = same_size;
    header = whole_of.header;
    parent = parent_kept n table capacity s s' h are is named.1 not_first outside_table;
    sound = whole_of.stays;
    entries = whole_of.entries;
    tables = whole_of.tables;
    blocks = whole_of.blocks;
    counts = whole_of.counts;
    names = λ m place is. given m place (whole_of.names m place is);
    bytes = λ i. bytes i (to (i / c)) refl;
    stands = λ k place offset begins free other lt. stands k place offset begins free lt;
    words = λ k place table' is at. word_by k place table' is at;
    l1_words = λ i table' is. absurd (never table' is);
  }
    where
      given : (m place : ℕ) → (names T capacity m ≡ Some place) ⊎ IsAmong to place → (names T capacity m ≡ Some place) ⊎ (IsAmong to place ⊎ IsAmong no_table place)
      given m place (inl was) = inl was
      given m place (inr among) = inr (inl among)

      never : (table' : ℕ) → None ≡ Some table' → ⊥
      never table' e = absurd cc

      same_ok : (a b : ℕ) (r : Result (Option ℕ) LayerFault) → r ≡ Ok (Some a) → r ≡ Ok (Some b) → a ≡ b
      same_ok a b r e f = cc

      word_by : (k place table' : ℕ) → to k ≡ Some place → l1_entry (layer h G) (k / entries T) ≡ Ok (Some table') → G.word (l2_at table' (k % entries T) / 8) ≡ word_of (Data place)
      word_by k place table' is at =
          let row_k : k / entries T ≡ row_of T group = ap (λ (x : ℕ). x / entries T) (place_in k group (links.sector k place is)) ∙ row (k % 64) (omega arith) in
          let here : table ≡ table' = same_ok table table' (l1_entry (layer h G) (row_of T group)) (whole_of.tables (row_of T group) low ∙ l1) (sym (ap (l1_entry (layer h G)) row_k) ∙ at) in
          sym (ap (λ (x : ℕ). G.word (l2_at x (k % entries T) / 8)) here) ∙ word_now k place is
