-- A file becomes longer, with zeros behind what it held.
use Rattle.std.proofs.Common.{◌≡◌, ◌⊎◌, inl, inr, ℕ, ◌+◌, ◌-◌, ◌*◌, ◌/◌, ◌%◌, ◌<◌, ◌≤◌, true, false, List, Some, Ok, refl, ap, ◌∙◌, arith, nat_lt}
use Rattle.std.specs.Prelude.{slice_index, if◌then◌else◌, ◌==◌}
use Rattle.std.proofs.lemmas.Bool.{cases_lt}
use Rattle.std.proofs.lemmas.Bool.Decides.{nat_tests}
use Rattle.qcow_format.specs.Bytes.{number}
use Rattle.qcow_format.specs.declared.header.Header.{Header}
use Rattle.qcow_format.specs.declared.entry.Entry.{Entry}
use Rattle.qcow_format.specs.declared.entry.Entry.TheVariants.{Absent, Zero, Data}
use Rattle.image_model.specs.File.{File, file_of, sector_in}
use Rattle.image_model.specs.Layer.{Tables, block_place, block_span, block_word, byte_behind, cluster_size, count_of, entry_at, l1_entry, own_byte}
use Rattle.image_model.specs.Soundness.{IsSound, Item, item, layer_header}
use Rattle.image_model.proofs.Longer.{longer_header, longer_sound}
use Rattle.layer_laws.specs.Laws.{AreZeros, SameContent, layer}
use Rattle.layer_laws.proofs.Items.{block_item_same, block_word_same, entry_same, item_by, l1_entry_same, l2_entry_same, mapping_item_same}

zeros_behind : (n n' : ℕ) (s s' : ℕ → List ℕ) → n ≤ n' → ((k : ℕ) → k < n → s' k ≡ s k) → AreZeros n n' s' → (k : ℕ) → sector_in n' s' k ≡ sector_in n s k
zeros_behind n n' s s' le same zeros k = go (cases_lt k n) (cases_lt k n')
  where
    go : (k < n) ⊎ (n ≤ k) → (k < n') ⊎ (n' ≤ k) → sector_in n' s' k ≡ sector_in n s k
    go (inl lt) rest =
        let e : nat_lt k n' ≡ true = grind (arith, nat_tests) in
        let f : nat_lt k n ≡ true = grind (arith, nat_tests) in
        rw e (rw f (same k lt))
    go (inr ge) (inl lt) =
        let e : nat_lt k n' ≡ true = grind (arith, nat_tests) in
        let f : nat_lt k n ≡ false = grind (arith, nat_tests) in
        rw e (rw f (zeros k ge lt))
    go (inr ge) (inr ge') =
        let e : nat_lt k n' ≡ false = grind (arith, nat_tests) in
        let f : nat_lt k n ≡ false = grind (arith, nat_tests) in
        rw e (rw f refl)

-- the numbers of two files are the same
pub record SameNumbers (f g : File) : Type 0 where
  pub words : (w : ℕ) → g.word w ≡ f.word w
  pub halves : (w : ℕ) → g.half w ≡ f.half w
  pub bytes : (i : ℕ) → g.byte i ≡ f.byte i

numbers_of : (n n' : ℕ) (s s' : ℕ → List ℕ) → ((k : ℕ) → sector_in n' s' k ≡ sector_in n s k) → SameNumbers (file_of n s) (file_of n' s')
unfolding file_of
numbers_of n n' s s' same = record {
  words = λ w. ap (number 8 (w % 64 * 8)) (same (w / 64));
  halves = λ w. ap (number 2 (w % 256 * 2)) (same (w / 256));
  bytes = λ i. ap (λ x. slice_index x (i % 512)) (same (i / 512));
}

module _ (h : Header) (capacity : ℕ) (f g : File) (same : SameNumbers f g) where
  abbrev T : Tables
  T = layer h f

  abbrev U : Tables
  U = layer h g

  block_still : (k : ℕ) → block_word U k ≡ block_word T k
  block_still k = block_word_same h f g capacity k (λ lt. same.words _)

  pub item_still : (n : ℕ) → item U capacity n ≡ item T capacity n
  item_still n = item_by h f g capacity n (λ k lt e. block_item_same h f g capacity k (block_still k)) (λ i r lt e.
      mapping_item_same h f g capacity i r lt (λ low. l1_entry_same h f g capacity i (same.words _)) (λ table low is some. l2_entry_same h f g capacity table (r - 1) (same.words _)))

  pub entry_still : (k : ℕ) → entry_at U k ≡ entry_at T k
  entry_still k = entry_same h f g capacity k (λ low. l1_entry_same h f g capacity _ (same.words _)) (λ table low is. l2_entry_same h f g capacity table _ (same.words _))

  pub place_still : (k : ℕ) → block_place U k ≡ block_place T k
  place_still k = ap (λ w. w / 512 * 512) (block_still k)

  pub table_still : (i : ℕ) → l1_entry U i ≡ l1_entry T i
  table_still i = l1_entry_same h f g capacity i (same.words _)

  pub count_still : (x : ℕ) → count_of U x ≡ count_of T x
  count_still x =
      ap (λ b. if b == 0 then 0 else g.half (b / 2 + x % block_span T)) (place_still (x / block_span T))
      ∙ ap (λ y. if block_place T (x / block_span T) == 0 then 0 else y) (same.halves (block_place T (x / block_span T) / 2 + x % block_span T))

  pub byte_still : (i : ℕ) → own_byte U i ≡ own_byte T i
  unfolding own_byte
  byte_still i = ap (λ e. byte_behind U (i % cluster_size T) e) (entry_still (i / cluster_size T)) ∙ go (entry_at T (i / cluster_size T))
    where
      go : (e : Entry) → byte_behind U (i % cluster_size T) e ≡ byte_behind T (i % cluster_size T) e
      go Absent = refl
      go (Zero place) = refl
      go (Data place) = ap (λ (x : ℕ). Some x) (same.bytes (place + i % cluster_size T))

pub grown : (n n' capacity : ℕ) (s s' : ℕ → List ℕ) (h : Header) → layer_header (file_of n s) capacity ≡ Ok h → IsSound (file_of n s) capacity
    → n ≤ n' → ((k : ℕ) → k < n → s' k ≡ s k) → AreZeros n n' s' → SameContent h capacity (file_of n s) (file_of n' s')
grown n n' capacity s s' h is sound le same zeros =
    let sectors = zeros_behind n n' s s' le same zeros in
    let numbers = numbers_of n n' s s' sectors in
    let f = file_of n s in
    let g = file_of n' s' in record {
      same = record {
        header = longer_header n n' s s' sectors capacity h le is;
        sound = longer_sound n n' s s' sectors capacity le sound;
        named = λ m. ap (λ (x : Item). x.name) (item_still h capacity f g numbers m);
        entries = entry_still h capacity f g numbers;
        tables = λ i lt. table_still h capacity f g numbers i;
        blocks = place_still h capacity f g numbers;
      };
      counts = count_still h capacity f g numbers;
      bytes = byte_still h capacity f g numbers;
    }
