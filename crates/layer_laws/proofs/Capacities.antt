-- A layer of a larger volume.
use Rattle.std.proofs.Common.{◌≡◌, ℕ, ◌+◌, ◌-◌, ◌*◌, ◌<◌, ◌≤◌, Bool, true, false, Option, Some, None, Result, Ok, Err, refl, sym, ap, ◌∙◌, arith, nat_lt, nat_le}
use Rattle.std.specs.Prelude.{◌==◌, if◌then◌else◌}
use Rattle.std.proofs.lemmas.Bool.Decides.{nat_tests}
use Rattle.sd_names.specs.declared.fault.LayerFault.{LayerFault}
use Rattle.sd_names.specs.declared.fault.LayerFault.TheVariants.{Short, Size}
use Rattle.qcow_format.specs.declared.header.Header.{Header}
use Rattle.qcow_format.specs.declared.entry.Entry.{Entry}
use Rattle.qcow_format.specs.declared.entry.Entry.TheVariants.{Absent, Zero, Data}
use Rattle.qcow_format.specs.Header.{header_of}
use Rattle.image_model.specs.File.{File}
use Rattle.image_model.specs.Layer.{Tables, cluster_size, entries, l1_at, l1_entry, l2_at, l2_entry}
use Rattle.image_model.specs.Soundness.{IsClean, Item, beyond, item, l1_item_of, l2_item, l2_item_of, layer_header, layer_header_of, mapping_item, names, nothing, own_fault}
use Rattle.layer_laws.specs.Laws.{layer}
use Rattle.layer_laws.proofs.Items.{Part, part_of, header, l1_cluster, table_cluster, block, mapping}
use Rattle.layer_laws.proofs.Places.{item_block, item_header, item_l1_cluster, item_mapping, item_table_cluster}
use Rattle.layer_laws.proofs.Sound.{beyond_fine, header_read, not_wrong}

pub header_taller : (f : File) (capacity larger : ℕ) (h : Header) → layer_header f capacity ≡ Ok h → larger ≤ h.size → layer_header f larger ≡ Ok h
unfolding layer_header
header_taller f capacity larger h is le = go (nat_lt f.size 512) is
  where
    fits : nat_lt h.size larger ≡ false
    fits = grind (arith, nat_tests)

    read : header_of f.head ≡ Ok h
    read = header_read f capacity h is

    go : (b : Bool) → (if b then Err Short else layer_header_of capacity (header_of f.head)) ≡ Ok h → (if b then Err Short else layer_header_of larger (header_of f.head)) ≡ Ok h
    go true e = absurd cc
    go false e = ap (layer_header_of larger) read ∙ ap (λ (b : Bool). if b then Err (Size h.size) else Ok h) fits

pub beyond_inside : (capacity start : ℕ) (x : Item) → start < capacity → beyond capacity start x ≡ x
beyond_inside capacity start x lt = let e : nat_le capacity start ≡ false = grind (arith, nat_tests) in rw e refl

beyond_taller : (capacity larger start : ℕ) (x : Item) → capacity ≤ larger → (beyond capacity start x).wrong ≡ None → beyond larger start x ≡ beyond capacity start x
beyond_taller capacity larger start x le fine =
    let lt = (beyond_fine capacity start x fine).1 in
    beyond_inside larger start x (omega (arith, lt, le)) ∙ sym (beyond_inside capacity start x lt)

module _ (f : File) (capacity larger : ℕ) (h : Header) (le : capacity ≤ larger) where
  abbrev T : Tables
  T = layer h f

  l2_taller : (start at : ℕ) (r : Result Entry LayerFault) → (l2_item_of T capacity start at r).wrong ≡ None → l2_item_of T larger start at r ≡ l2_item_of T capacity start at r
  l2_taller start at (Err fault) fine = refl
  l2_taller start at (Ok Absent) fine = refl
  l2_taller start at (Ok (Zero place)) fine = beyond_taller capacity larger start _ le fine
  l2_taller start at (Ok (Data place)) fine = beyond_taller capacity larger start _ le fine

  behind_taller : (i j : ℕ) (r : Result (Option ℕ) LayerFault) → (l2_item T capacity i j r).wrong ≡ None → l2_item T larger i j r ≡ l2_item T capacity i j r
  behind_taller i j (Err fault) fine = refl
  behind_taller i j (Ok None) fine = refl
  behind_taller i j (Ok (Some table)) fine = l2_taller ((i * entries T + j) * cluster_size T) (l2_at table j) (l2_entry T table j) fine

  mapping_taller : (i r : ℕ) → (mapping_item T capacity i r).wrong ≡ None → mapping_item T larger i r ≡ mapping_item T capacity i r
  mapping_taller i r = go (nat_le h.l1_size i) (r == 0)
    where
      go : (a b : Bool)
          → (if a then nothing else (if b then l1_item_of T (l1_at T i) (l1_entry T i) else l2_item T capacity i (r - 1) (l1_entry T i))).wrong ≡ None
          → (if a then nothing else (if b then l1_item_of T (l1_at T i) (l1_entry T i) else l2_item T larger i (r - 1) (l1_entry T i)))
          ≡ (if a then nothing else (if b then l1_item_of T (l1_at T i) (l1_entry T i) else l2_item T capacity i (r - 1) (l1_entry T i)))
      go true b fine = refl
      go false true fine = refl
      go false false fine = behind_taller i (r - 1) (l1_entry T i) fine

  pub item_taller : (n : ℕ) → own_fault f.size (item T capacity n) ≡ None → item T larger n ≡ item T capacity n
  item_taller n fine = go (part_of T n)
    where
      go : Part T n → item T larger n ≡ item T capacity n
      go (header e) = ap (item T larger) e ∙ item_header T larger ∙ sym (item_header T capacity) ∙ ap (item T capacity) (sym e)
      go (l1_cluster k lt e) = ap (item T larger) e ∙ item_l1_cluster T larger k lt ∙ sym (item_l1_cluster T capacity k lt) ∙ ap (item T capacity) (sym e)
      go (table_cluster k lt e) = ap (item T larger) e ∙ item_table_cluster T larger k lt ∙ sym (item_table_cluster T capacity k lt) ∙ ap (item T capacity) (sym e)
      go (block k lt e) = ap (item T larger) e ∙ item_block T larger k lt ∙ sym (item_block T capacity k lt) ∙ ap (item T capacity) (sym e)
      go (mapping i r lt e) =
          let here : item T capacity n ≡ mapping_item T capacity i r = ap (item T capacity) e ∙ item_mapping T capacity i r lt in
          ap (item T larger) e ∙ item_mapping T larger i r lt ∙ mapping_taller i r (not_wrong f.size (mapping_item T capacity i r) (ap (own_fault f.size) (sym here) ∙ fine)) ∙ sym here

  module _ (clean : (n : ℕ) → IsClean T capacity n) where
    pub name_taller : (n : ℕ) → names T larger n ≡ names T capacity n
    name_taller n = ap (λ (x : Item). x.name) (item_taller n (clean n).fine)

    pub clean_taller : (n : ℕ) → IsClean T larger n
    clean_taller n = record {
      fine = ap (own_fault f.size) (item_taller n (clean n).fine) ∙ (clean n).fine;
      once = λ place is before. (clean n).once place (sym (name_taller n) ∙ is) (before.0, before.1, sym (name_taller before.0) ∙ before.2);
      counted = λ place is. (clean n).counted place (sym (name_taller n) ∙ is);
    }
