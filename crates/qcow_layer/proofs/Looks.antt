-- What is read of a table is what the layer says of a cluster.
use Rattle.std.proofs.Common.{◌≡◌, ℕ, ◌+◌, ◌-◌, ◌*◌, ◌/◌, ◌%◌, ◌^◌, ◌<◌, ◌≤◌, Bool, true, false, List, Option, Some, None, Result, Ok, refl, sym, ap, ◌∙◌, subst, arith, nat_lt}
use Rattle.std.specs.Prelude.{MatchResult, ◌&&◌, if◌then◌else◌}
use Rattle.std.proofs.lemmas.Bool.Decides.{nat_tests}
use Rattle.std.proofs.lemmas.Nat.{pow_pos}
use Rattle.std.proofs.Math.Nat.{mod-lt, pow-le-pow_right}
use Rattle.sd_names.specs.declared.fault.LayerFault.{LayerFault}
use Rattle.sd_names.specs.declared.turn.Turn.TheVariants.{More, Done}
use Rattle.shared_disk.specs.Content.{Content}
use Rattle.shared_disk.specs.Calls.{IsSame}
use Rattle.qcow_format.specs.Bytes.{number}
use Rattle.qcow_format.specs.Entry.{entry_in, table_in, offset_in}
use Rattle.qcow_format.specs.declared.entry.Entry.{Entry}
use Rattle.qcow_format.specs.declared.entry.Entry.TheVariants.{Absent}
use Rattle.image_model.specs.File.{File, file_of, sector_in}
use Rattle.image_model.specs.Layer.{Tables, entries, entry_at, entry_behind, entry_or_absent, l1_at, l1_entry, l2_at, l2_entry, names_table}
use Rattle.image_model.specs.Soundness.{IsClean}
use Rattle.layer_walk.specs.Items.{layer_of}
use Rattle.layer_walk.specs.Known.{tables_of}
use Rattle.qcow_layer.specs.Looking.{IsLookedUp, LooksUp}
use Rattle.qcow_layer.specs.Knowing.{KnowsLayerOn, KnowsNumbers}
use Rattle.qcow_layer.specs.Seen.{IsSeen}
use Rattle.qcow_layer.specs.declared.layer.Layer.{Layer}
use Rattle.layer_walk.proofs.Sizes.{by_sectors}
use Rattle.layer_walk.proofs.Spans.{pages}
use Rattle.layer_walk.proofs.L2Walks.{placed_by, offset_small, offset_even}
use Rattle.qcow_layer.proofs.Entries.{l1_low, word_of_sector}
use Rattle.qcow_layer.proofs.Steps.{size_of}

-- ---- what a layer says

below : (a b : ℕ) → a < b → nat_lt a b ≡ true
below a b lt = grind (arith, nat_tests)

not_below : (a b : ℕ) → b ≤ a → nat_lt a b ≡ false
not_below a b le = grind (arith, nat_tests)

entry_past : (t : Tables) (k : ℕ) → t.header.l1_size ≤ k / entries t → IsLookedUp t k (record { entry = Absent; table = false })
unfolding entry_at
entry_past t k past =
    let e = not_below (k / entries t) t.header.l1_size past in
    record {
      entry = sym (ap (λ (b : Bool). if b then entry_behind t (k % entries t) (l1_entry t (k / entries t)) else Absent) e);
      table = sym (ap (λ (b : Bool). b && names_table (l1_entry t (k / entries t))) e);
    }

entry_from : (t : Tables) (k : ℕ) (r : Result (Option ℕ) LayerFault) → k / entries t < t.header.l1_size → l1_entry t (k / entries t) ≡ r
    → IsLookedUp t k (record { entry = entry_behind t (k % entries t) r; table = names_table r })
unfolding entry_at
entry_from t k r lt is =
    let e = below (k / entries t) t.header.l1_size lt in
    record {
      entry = sym (ap (λ (b : Bool). if b then entry_behind t (k % entries t) (l1_entry t (k / entries t)) else Absent) e ∙ ap (entry_behind t (k % entries t)) is);
      table = sym (ap (λ (b : Bool). b && names_table (l1_entry t (k / entries t))) e ∙ ap names_table is);
    }

-- ---- what is known of a layer that was opened

all_clean : (layer : Layer) (file : File) → KnowsNumbers layer file → (n : ℕ) → IsClean (tables_of layer.work file) layer.target.capacity n
all_clean layer file knows = subst (λ r. MatchResult r (λ h. (n : ℕ) → IsClean (layer_of h file) layer.target.capacity n) (λ f. ⊥)) knows.header knows.sound

pub past_l1 : (layer : Layer) (host k : ℕ) (d : Content) → layer.work.header.l1_size ≤ k / (2 ^ layer.work.header.cluster_bits / 8)
    → LooksUp layer host k None (Done (record { entry = Absent; table = false })) d d
past_l1 layer host k d past = record {
  same = refl;
  gone = tt;
  kept = λ known. known;
  after = λ count sectors seen fits opened known. entry_past (tables_of layer.work (file_of count sectors)) k past;
}

module _ (layer : Layer) (host k at : ℕ) (sector : List ℕ) (d e : Content)
    (lt : k / (2 ^ layer.work.header.cluster_bits / 8) < layer.work.header.l1_size)
    (near : layer.work.header.l1_table_offset + 8 * (k / (2 ^ layer.work.header.cluster_bits / 8)) < 2 ^ 64 → at ≡ layer.work.header.l1_table_offset + 8 * (k / (2 ^ layer.work.header.cluster_bits / 8)))
    (read : (count : ℕ) (sectors : ℕ → List ℕ) → IsSeen host layer.target.place count sectors d → sector ≡ sector_in count sectors (at / 512 * 512 / 512))
    (same : IsSame d e) where
  l1_read : (count : ℕ) (sectors : ℕ → List ℕ) → IsSeen host layer.target.place count sectors d → 512 * count < 2 ^ 64 → KnowsNumbers layer (file_of count sectors)
      → l1_entry (tables_of layer.work (file_of count sectors)) (k / (2 ^ layer.work.header.cluster_bits / 8)) ≡ table_in (number 8 (8 * (at % 512 / 8)) sector) at
  l1_read count sectors seen fits opened =
      let file : File = file_of count sectors in
      let t : Tables = tables_of layer.work file in
      let i : ℕ = k / (2 ^ layer.work.header.cluster_bits / 8) in
      let small : file.size < 2 ^ 64 = subst (λ n. n < 2 ^ 64) (sym (size_of count sectors)) fits in
      let low : l1_at t i + 8 ≤ 2 ^ 64 =
      l1_low t layer.target.capacity i (λ j less. all_clean layer file opened (1 + j)) layer.work.high layer.work.l1_aligned small lt in
      let even = by_sectors layer.work.header.cluster_bits layer.work.header.l1_table_offset layer.work.low layer.work.l1_aligned in
      let here : at ≡ l1_at t i = near (omega (arith, low)) in
      let word = word_of_sector count sectors (l1_at t i) at sector (omega (arith, even)) here (read count sectors seen) in
      ap (λ w. table_in w (l1_at t i)) word ∙ ap (table_in (number 8 (8 * (at % 512 / 8)) sector)) (sym here)

  pub no_table : (r : Result (Option ℕ) LayerFault) → r ≡ table_in (number 8 (8 * (at % 512 / 8)) sector) at → ((t : Tables) (j : ℕ) → entry_behind t j r ≡ Absent) → names_table r ≡ false
      → LooksUp layer host k None (Done (record { entry = Absent; table = false })) d e
  no_table r is absent none = record {
    same = same;
    gone = tt;
    kept = subst (λ x. KnowsLayerOn layer host d → KnowsLayerOn layer host x) (sym same) (λ known. known);
    after = λ count sectors seen fits opened known.
        let t : Tables = tables_of layer.work (file_of count sectors) in
        let found = entry_from t k r lt (l1_read count sectors seen fits opened ∙ sym is) in
        record { entry = sym (absent t (k % entries t)) ∙ found.entry; table = sym none ∙ found.table };
  }

  pub table_found : (table : ℕ) → Ok (Some table) ≡ table_in (number 8 (8 * (at % 512 / 8)) sector) at
      → LooksUp layer host k None (More (record { cluster = k; table = Some table })) d e
  table_found table is = record {
    same = same;
    gone = tt;
    kept = subst (λ x. KnowsLayerOn layer host d → KnowsLayerOn layer host x) (sym same) (λ known. known);
    after = λ count sectors seen fits opened known. (refl, (lt, l1_read count sectors seen fits opened ∙ sym is));
  }

pub few_entries : (bits : ℕ) → bits ≤ 21 → 2 ^ bits / 8 ≤ 262144
few_entries bits high = let width : 2 ^ bits ≤ 2 ^ 21 = pow-le-pow_right (omega arith) high in omega (arith, width)

pub some_entries : (bits : ℕ) → 12 ≤ bits → 0 < 2 ^ bits / 8
some_entries bits low = let p = pages bits low in let q = pow_pos (bits - 12) in omega (arith, p, q)

module _ (layer : Layer) (host k table at : ℕ) (sector : List ℕ) (d e : Content)
    (near : table + 8 * (k % (2 ^ layer.work.header.cluster_bits / 8)) < 2 ^ 64 → at ≡ table + 8 * (k % (2 ^ layer.work.header.cluster_bits / 8)))
    (read : (count : ℕ) (sectors : ℕ → List ℕ) → IsSeen host layer.target.place count sectors d → sector ≡ sector_in count sectors (at / 512 * 512 / 512))
    (same : IsSame d e) where
  pub entry_found : (r : Result Entry LayerFault) → r ≡ entry_in (number 8 (8 * (at % 512 / 8)) sector) layer.work.header.version at
      → LooksUp layer host k (Some table) (Done (record { entry = entry_or_absent r; table = true })) d e
  entry_found r is = record {
    same = same;
    gone = tt;
    kept = subst (λ x. KnowsLayerOn layer host d → KnowsLayerOn layer host x) (sym same) (λ known. known);
    after = λ count sectors seen fits opened known.
        let file : File = file_of count sectors in
        let t : Tables = tables_of layer.work file in
        let j : ℕ = k % (2 ^ layer.work.header.cluster_bits / 8) in
        let word : ℕ = file.word (l1_at t (k / entries t) / 8) in
        let placed : offset_in word ≡ table = placed_by word (l1_at t (k / entries t)) table known.1 in
        let small : table < 2 ^ 56 = subst (λ n. n < 2 ^ 56) placed (offset_small word) in
        let even : table % 512 ≡ 0 = subst (λ n. n % 512 ≡ 0) placed (offset_even word) in
        let wide = few_entries layer.work.header.cluster_bits layer.work.high in
        let inside : j < 2 ^ layer.work.header.cluster_bits / 8 = mod-lt k (some_entries layer.work.header.cluster_bits layer.work.low) in
        let here : at ≡ l2_at table j = near (omega (arith, small, wide, inside)) in
        let bits = word_of_sector count sectors (l2_at table j) at sector (omega (arith, even)) here (read count sectors seen) in
        let entry : l2_entry t table j ≡ r =
        ap (λ w. entry_in w layer.work.header.version (l2_at table j)) bits ∙ ap (entry_in (number 8 (8 * (at % 512 / 8)) sector) layer.work.header.version) (sym here) ∙ sym is in
        let found = entry_from t k (Ok (Some table)) known.0 known.1 in
        record { entry = sym (ap entry_or_absent entry) ∙ found.entry; table = found.table };
  }
