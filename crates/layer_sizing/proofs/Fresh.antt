-- What begins past a layer's capacity is absent.
use Rattle.std.proofs.Common.{◌≡◌, ℕ, ◌+◌, ◌*◌, ◌/◌, ◌%◌, ◌<◌, ◌≤◌, Bool, true, false, List, Option, Some, None, Result, Ok, Err, refl, sym, ap, ◌∙◌, arith, nat_lt}
use Rattle.std.specs.Prelude.{if◌then◌else◌}
use Rattle.std.proofs.lemmas.Bool.Decides.{nat_tests}
use Rattle.std.proofs.lemmas.Nat.{div-add-mod'}
use Rattle.sd_names.specs.declared.fault.LayerFault.{LayerFault}
use Rattle.qcow_format.specs.declared.header.Header.{Header}
use Rattle.qcow_format.specs.declared.entry.Entry.{Entry}
use Rattle.qcow_format.specs.declared.entry.Entry.TheVariants.{Absent, Zero, Data}
use Rattle.image_model.specs.File.{file_of}
use Rattle.image_model.specs.Layer.{Tables, cluster_size, entries, entry_at, entry_behind, entry_or_absent, l1_entry, l2_at, l2_entry}
use Rattle.image_model.specs.Soundness.{IsClean, IsSound, Item, beyond, item, l2_item, l2_item_of, layer_header, own_fault}
use Rattle.layer_laws.specs.Laws.{l2_position, layer}
use Rattle.layer_laws.proofs.Places.{item_l2}
use Rattle.layer_laws.proofs.Sound.{beyond_fine, clean_of, entry_lt, not_wrong, shape_of}
use Rattle.layer_sizing.specs.Sized.{cluster}

module _ (n capacity : ℕ) (r : ℕ → List ℕ) (h : Header) (is : layer_header (file_of n r) capacity ≡ Ok h) (sound : IsSound (file_of n r) capacity) where
  pub fresh : (k : ℕ) → capacity ≤ k * cluster h → entry_at (layer h (file_of n r)) k ≡ Absent
  unfolding entry_at
  fresh k past = go (nat_lt i h.l1_size) refl
    where
      T : Tables
      T = layer h (file_of n r)

      i : ℕ
      i = k / entries T

      j : ℕ
      j = k % entries T

      clean_old : (m : ℕ) → IsClean T capacity m
      clean_old = clean_of (file_of n r) capacity h is sound

      at_k : i * entries T + j ≡ k
      at_k = div-add-mod' k (entries T)

      late : (table : ℕ) (x : Item) → i < h.l1_size → item T capacity (l2_position T i j) ≡ beyond capacity ((i * entries T + j) * cluster_size T) x → ⊥
      late table x lt e =
          let fine = not_wrong (file_of n r).size (beyond capacity ((i * entries T + j) * cluster_size T) x) (ap (own_fault (file_of n r).size) (sym e) ∙ (clean_old (l2_position T i j)).fine) in
          let before = (beyond_fine capacity ((i * entries T + j) * cluster_size T) x fine).1 in
          let same : (i * entries T + j) * cluster_size T ≡ k * cluster h = ap (λ m. m * cluster_size T) at_k in
          omega (arith, before, same, past)

      inside_row : j < entries T
      inside_row = entry_lt h (file_of n r) capacity (shape_of (file_of n r) capacity h is) clean_old k

      second : (table : ℕ) (q : Result Entry LayerFault) → l2_entry T table j ≡ q → i < h.l1_size → l1_entry T i ≡ Ok (Some table) → entry_or_absent q ≡ Absent
      second table (Err fault) l2 lt l1 = refl
      second table (Ok Absent) l2 lt l1 = refl
      second table (Ok (Zero place)) l2 lt l1 =
          absurd (late table _ lt (item_l2 T capacity i j lt inside_row ∙ ap (λ q. l2_item T capacity i j q) l1 ∙ ap (λ q. l2_item_of T capacity ((i * entries T + j) * cluster_size T) (l2_at table j) q) l2))
      second table (Ok (Data place)) l2 lt l1 =
          absurd (late table _ lt (item_l2 T capacity i j lt inside_row ∙ ap (λ q. l2_item T capacity i j q) l1 ∙ ap (λ q. l2_item_of T capacity ((i * entries T + j) * cluster_size T) (l2_at table j) q) l2))

      first_level : (q : Result (Option ℕ) LayerFault) → l1_entry T i ≡ q → i < h.l1_size → entry_behind T j q ≡ Absent
      first_level (Ok (Some table)) l1 lt = second table (l2_entry T table j) refl lt l1
      first_level (Ok None) l1 lt = refl
      first_level (Err fault) l1 lt = refl

      go : (b : Bool) → nat_lt i h.l1_size ≡ b → (if b then entry_behind T j (l1_entry T i) else Absent) ≡ Absent
      go true t = first_level (l1_entry T i) refl (grind (arith, nat_tests))
      go false t = refl
