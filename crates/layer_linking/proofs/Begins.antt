-- What follows of the file in which a linking begins.
use Rattle.std.proofs.Common.{◌≡◌, ℕ, ◌+◌, ◌-◌, ◌*◌, ◌/◌, ◌%◌, ◌^◌, ◌<◌, ◌≤◌, List, Some, refl, sym, ap, ◌∙◌, subst, arith}
use Rattle.std.proofs.lemmas.Nat.{pow_pos}
use Rattle.shared_disk.specs.Content.{Content, File}
use Rattle.sd_names.specs.declared.place.Place.{Place}
use Rattle.shared_disk.specs.Crash.{IsSettled}
use Rattle.qcow_format.specs.declared.header.Header.{Header}
use Rattle.image_model.specs.File as image
use Rattle.image_model.specs.File.{file_of, sector_in}
use Rattle.image_model.specs.Layer.{Tables, entries, l1_at, l2_at}
use Rattle.image_model.specs.Soundness.{IsClean, names}
use Rattle.layer_laws.specs.Laws as laws
use Rattle.layer_laws.specs.Laws.{AreSectors, l1_position}
use Rattle.layer_laws.proofs.Numbers.{behind, cluster_sectors, l1_inside, row_of as l1_row_of, whole_sector}
use Rattle.layer_laws.proofs.Sound.{Shape, clean_of, entry_lt, entry_width, l1_cluster_name, shape_of}
use Rattle.link_laws.specs.Links.{row_of, sector_at}
use Rattle.link_laws.proofs.Many.{inside}
use Rattle.link_laws.proofs.Rows.{lies_whole}
use Rattle.layer_writing.proofs.Known.{settled_medium}
use Rattle.qcow_layer.specs.Knowing.{KnowsNumbers}
use Rattle.qcow_layer.specs.Seen.{IsSeen}
use Rattle.qcow_layer.specs.declared.layer.Layer.{Layer}
use Rattle.layer_linking.specs.Calls.{at_stage, entries_sector, group_of, l1_place, near}
use Rattle.layer_linking.specs.Linking.{IsLinkable}
use Rattle.layer_linking.specs.declared.linking.Linking.{Linking}
use Rattle.layer_linking.specs.declared.linking.Stage.{Stage}

pub size_of : (n : ℕ) (s : ℕ → List ℕ) → (file_of n s).size ≡ 512 * n
unfolding file_of
size_of n s = refl

pub near_is : (at : ℕ) → at < 2 ^ 64 → near at ≡ at
near_is at lt = omega (arith, lt)

-- the same in another stage
pub began_at : (layer : Layer) (l : Linking) (stage : Stage) (host : ℕ) (f : File) → IsLinkable layer l host f → IsLinkable layer (at_stage l stage) host f
began_at layer l stage host f b = record { knows = b.knows; settled = b.settled; well = b.well; row = b.row; links = b.links; table = b.table }

module _ (layer : Layer) (l : Linking) (host : ℕ) (f : File) (b : IsLinkable layer l host f) where
  abbrev pub h : Header
  h = layer.work.header

  abbrev pub capacity : ℕ
  capacity = layer.target.capacity

  abbrev pub F : image.File
  F = file_of f.size f.stable

  abbrev pub T : Tables
  T = laws.layer layer.work.header (file_of f.size f.stable)

  abbrev c : ℕ
  c = 2 ^ layer.work.header.cluster_bits

  abbrev i : ℕ
  i = row_of (laws.layer layer.work.header (file_of f.size f.stable)) (group_of l)

  pub are : AreSectors f.size f.stable
  are k lt = (b.well.stable k).len

  pub numbers : KnowsNumbers layer (file_of f.size f.stable)
  numbers = subst (KnowsNumbers layer) (settled_medium host f b.settled) b.knows.knows.numbers

  pub shape : Shape layer.work.header
  shape = shape_of F capacity h numbers.header

  pub clean : (m : ℕ) → IsClean (laws.layer layer.work.header (file_of f.size f.stable)) layer.target.capacity m
  clean = clean_of F capacity h numbers.header numbers.sound

  pub width : c ≡ 8 * entries T
  width = entry_width h F capacity shape clean

  pub sectors : c ≡ 512 * 2 ^ (layer.work.header.cluster_bits - 9)
  sectors = cluster_sectors h.cluster_bits shape.low

  pub named_whole : (m p : ℕ) → names T capacity m ≡ Some p → p % c ≡ 0 → p + c ≤ 512 * f.size
  named_whole m p named even = lies_whole p (512 * f.size) c even b.knows.whole (subst (λ (x : ℕ). p < x) (size_of f.size f.stable) (inside h F capacity m p (clean m) named))

  -- ---- the L1 entry

  l1_fits : l1_at T i + 8 ≤ 512 * f.size
  l1_fits =
      let at = l1_row_of h.l1_table_offset i (entries T) c width in
      let low = l1_inside i h.l1_size (entries T) c width (pow_pos h.cluster_bits) b.row in
      let fits = named_whole (1 + i / entries T) (h.l1_table_offset + i / entries T * c) (l1_cluster_name h F capacity shape clean (i / entries T) low)
      (behind h.l1_table_offset (i / entries T) c (pow_pos h.cluster_bits) shape.l1) in
      let column = entry_lt h F capacity shape clean i in
      let w = width in
      omega (arith, at, fits, column, w)

  pub l1_is : l1_place layer.work.header (group_of l) ≡ l1_at T i
  l1_is = near_is (l1_at T i) (let a = l1_fits in let s = b.knows.knows.fits in omega (arith, a, s))

  pub l1_even : l1_at T i % 8 ≡ 0
  l1_even = let a = shape.l1 in let s = sectors in go h.l1_table_offset c (2 ^ (h.cluster_bits - 9)) i s a
    where
      go : (o c q i : ℕ) → c ≡ 512 * q → o % c ≡ 0 → (o + 8 * i) % 8 ≡ 0
      go o c q i is even = let sector = whole_sector o c q is even in omega (arith, sector)

  pub l1_sector : l1_at T i / 512 < f.size
  l1_sector = let a = l1_fits in omega (arith, a)

  -- ---- the table

  pub column_lt : 64 * group_of l % entries T < entries T
  column_lt = entry_lt h F capacity shape clean (64 * group_of l)

  pub entries_at : (table : ℕ) → table + c ≤ 512 * f.size → table % c ≡ 0 → (entries_sector layer.work.header (group_of l) table ≡ sector_at T table (group_of l)) × (sector_at T table (group_of l) < f.size)
  entries_at table fits even =
      let lt = column_lt in
      let w = width in
      let s = b.knows.knows.fits in (
        ap (λ (x : ℕ). x / 512) (near_is (l2_at table (64 * group_of l % entries T)) (omega (arith, lt, w, fits, s))),
        omega (arith, lt, w, fits),
      )
