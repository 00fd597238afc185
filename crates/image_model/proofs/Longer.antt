-- A file that became longer says the same.
use Rattle.std.proofs.Common.{◌≡◌, ℕ, ◌*◌, ◌/◌, ◌%◌, ◌≤◌, Bool, true, false, List, Option, Some, None, Result, Ok, Err, refl, sym, ap, ◌∙◌, subst, arith, nat_lt, nat_le}
use Rattle.std.specs.Prelude.{MatchResult, if◌then◌else◌, slice_index}
use Rattle.std.specs.List.{flat_map, range_with_len}
use Rattle.std.proofs.lemmas.Bool.Decides.{nat_tests}
use Rattle.sd_names.specs.declared.fault.LayerFault.{LayerFault}
use Rattle.sd_names.specs.declared.fault.LayerFault.TheVariants.{OutOfFile, Short}
use Rattle.qcow_format.specs.Bytes.{number}
use Rattle.qcow_format.specs.Header.{header_of}
use Rattle.qcow_format.specs.declared.header.Header.{Header}
use Rattle.image_model.specs.File.{File, file_of, sector_in}
use Rattle.image_model.specs.Layer.{Tables, is_used}
use Rattle.image_model.specs.Soundness.{IsClean, IsSound, Item, item, layer_header, layer_header_of, outside, own_fault}

-- the same numbers in a file of another size
abbrev resized : File → ℕ → File
resized f size = record { size = size; head = f.head; byte = f.byte; half = f.half; word = f.word }

same_numbers : (n m : ℕ) (s r : ℕ → List ℕ) → ((k : ℕ) → sector_in m r k ≡ sector_in n s k) → file_of m r ≡ resized (file_of n s) (512 * m)
unfolding file_of
same_numbers n m s r same = λ i. record {
  size = 512 * m;
  head = flat_map (λ k. same k i) (range_with_len 0 128);
  byte = λ k. slice_index (same (k / 512) i) (k % 512);
  half = λ k. number 2 (k % 256 * 2) (same (k / 256) i);
  word = λ k. number 8 (k % 64 * 8) (same (k / 64) i);
}

abbrev in_file : Header → File → Tables
in_file h f = record { header = h; file = f }

-- ---- of a layer

module _ (f : File) (size capacity : ℕ) (longer : f.size ≤ size) where
  header_still : (h : Header) → layer_header f capacity ≡ Ok h → layer_header (resized f size) capacity ≡ Ok h
  unfolding layer_header
  header_still h is = go (nat_lt f.size 512) refl is
    where
      long : nat_lt f.size 512 ≡ false → nat_lt size 512 ≡ false
      long e = grind (arith, nat_tests)

      go : (b : Bool) → nat_lt f.size 512 ≡ b → (if b then Err Short else layer_header_of capacity (header_of f.head)) ≡ Ok h
          → (if nat_lt size 512 then Err Short else layer_header_of capacity (header_of f.head)) ≡ Ok h
      go true e is = absurd cc
      go false e is = ap (λ (b : Bool). if b then Err Short else layer_header_of capacity (header_of f.head)) (long e) ∙ is

  item_still : (h : Header) (n : ℕ) → item (in_file h (resized f size)) capacity n ≡ item (in_file h f) capacity n
  unfolding item
  item_still h n = refl

  -- no name is past the end
  outside_still : (at : ℕ) (name : Option ℕ) → outside f.size at name ≡ None → outside size at name ≡ None
  outside_still at None is = refl
  outside_still at (Some place) is = go (nat_le f.size place) refl is
    where
      inside : nat_le f.size place ≡ false → nat_le size place ≡ false
      inside e = grind (arith, nat_tests)

      go : (b : Bool) → nat_le f.size place ≡ b → (if b then Some (OutOfFile at) else None) ≡ None → (if nat_le size place then Some (OutOfFile at) else None) ≡ None
      go true e is = absurd cc
      go false e is = ap (λ (b : Bool). if b then Some (OutOfFile at) else None) (inside e)

  fine_still : (x : Item) (wrong : Option LayerFault) → x.wrong ≡ wrong → own_fault f.size x ≡ None → own_fault size x ≡ None
  fine_still x None e is =
      ap (λ o. elim o as (λ _. Option LayerFault) [ None ↦ outside size x.at x.name | Some fault ↦ Some fault ]) e
      ∙ outside_still x.at x.name (sym (ap (λ o. elim o as (λ _. Option LayerFault) [ None ↦ outside f.size x.at x.name | Some fault ↦ Some fault ]) e) ∙ is)
  fine_still x (Some fault) e is =
      let bad : Some fault ≡ None = sym (ap (λ o. elim o as (λ _. Option LayerFault) [ None ↦ outside f.size x.at x.name | Some fault ↦ Some fault ]) e) ∙ is in
      absurd cc

  clean_still : (h : Header) (n : ℕ) → IsClean (in_file h f) capacity n → IsClean (in_file h (resized f size)) capacity n
  clean_still h n clean = record {
    fine = ap (own_fault size) (item_still h n) ∙ fine_still (item (in_file h f) capacity n) (item (in_file h f) capacity n).wrong refl clean.fine;
    once = λ place is before. clean.once place (sym (ap (λ (x : Item). x.name) (item_still h n)) ∙ is) (before.0, before.1, sym (ap (λ (x : Item). x.name) (item_still h before.0)) ∙ before.2);
    counted = λ place is. clean.counted place (sym (ap (λ (x : Item). x.name) (item_still h n)) ∙ is);
  }

  sound_still : IsSound f capacity → IsSound (resized f size) capacity
  sound_still sound = go (layer_header f capacity) refl sound
    where
      go : (r : Result Header LayerFault) → layer_header f capacity ≡ r → MatchResult r (λ h. (n : ℕ) → IsClean (in_file h f) capacity n) (λ e. ⊥) → IsSound (resized f size) capacity
      go (Err fault) is none = absurd none
      go (Ok h) is clean =
          subst (λ r. MatchResult r (λ h. (n : ℕ) → IsClean (in_file h (resized f size)) capacity n) (λ e. ⊥)) (sym (header_still h is)) (λ n. clean_still h n (clean n))

used_still : (f : File) (size : ℕ) (h : Header) (c : ℕ) → is_used (in_file h (resized f size)) c ≡ is_used (in_file h f) c
unfolding is_used
used_still f size h c = refl

-- ---- of sectors

module _ (n m : ℕ) (s r : ℕ → List ℕ) (same : (k : ℕ) → sector_in m r k ≡ sector_in n s k) where
  size_of : (n : ℕ) (s : ℕ → List ℕ) → (file_of n s).size ≡ 512 * n
  unfolding file_of
  size_of n s = refl

  pub longer_header : (capacity : ℕ) (h : Header) → n ≤ m → layer_header (file_of n s) capacity ≡ Ok h → layer_header (file_of m r) capacity ≡ Ok h
  longer_header capacity h le is =
      ap (λ f. layer_header f capacity) (same_numbers n m s r same) ∙ header_still (file_of n s) (512 * m) capacity (omega (arith, size_of n s, le)) h is

  pub longer_sound : (capacity : ℕ) → n ≤ m → IsSound (file_of n s) capacity → IsSound (file_of m r) capacity
  longer_sound capacity le sound =
      subst (λ f. IsSound f capacity) (sym (same_numbers n m s r same)) (sound_still (file_of n s) (512 * m) capacity (omega (arith, size_of n s, le)) sound)

  pub longer_used : (h : Header) (c : ℕ) → is_used (in_file h (file_of m r)) c ≡ is_used (in_file h (file_of n s)) c
  longer_used h c = ap (λ f. is_used (in_file h f) c) (same_numbers n m s r same) ∙ used_still (file_of n s) (512 * m) h c

  pub longer_head : (file_of m r).head ≡ (file_of n s).head
  longer_head = ap (λ (f : File). f.head) (same_numbers n m s r same)
