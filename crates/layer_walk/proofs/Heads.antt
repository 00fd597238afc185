-- The clusters that the header names, one after the other.
use Rattle.std.proofs.Common.{◌≡◌, ◌≢◌, ℕ, ◌+◌, ◌-◌, ◌*◌, ◌/◌, ◌%◌, ◌^◌, ◌<◌, ◌≤◌, Bool, true, Some, None, refl, sym, ap, ◌∙◌, subst, arith, nat_le}
use Rattle.std.specs.Prelude.{if◌then◌else◌}
use Rattle.std.proofs.Math.Nat.{add-mul-mod_self_right, div-le_self, zero-mod}
use Rattle.std.proofs.lemmas.Bool.Decides.{nat_tests}
use Rattle.sd_names.specs.declared.fault.LayerFault.{LayerFault}
use Rattle.sd_names.specs.declared.fault.LayerFault.TheVariants.{OutOfFile}
use Rattle.qcow_format.specs.declared.header.Header.{Header}
use Rattle.image_model.specs.File.{File}
use Rattle.image_model.specs.Layer.{Tables}
use Rattle.image_model.specs.Soundness.{Item, item, named_by, own_fault}
use Rattle.layer_walk.specs.Items.{layer_of}
use Rattle.layer_walk.specs.Marks.{Admits}
use Rattle.layer_walk.specs.Positions.{Holds, IsHead, IsItem, IsNamed, PassesHead, l1_count}
use Rattle.layer_walk.specs.declared.head.Stop.{Stop}
use Rattle.layer_walk.specs.declared.marks.Marks.{Marks}
use Rattle.layer_walk.proofs.Moves.{moved, fits_after, keeps_same, keeps_both, same_item}
use Rattle.layer_walk.proofs.Places.{item_header, item_l1_cluster, item_table_cluster}

-- ---- one of them

pub named_far : (at place cluster : ℕ) → 2 ^ 64 ≤ place → IsNamed at place cluster (record { at = at; wrong = Some (OutOfFile at); name = None })
named_far at place cluster far = record {
  is = λ size fits. record {
    own = sym (outside size fits);
    same = λ e. let f = outside size fits in absurd cc;
  };
  aligned = λ even p fine is. absurd cc;
}
  where
    past : (size : ℕ) → size < 2 ^ 64 → nat_le size place ≡ true
    past size fits = let le : size ≤ place = omega (arith, fits, far) in grind (arith, nat_tests)

    outside : (size : ℕ) → size < 2 ^ 64 → own_fault size (named_by at place) ≡ Some (OutOfFile at)
    outside size fits = ap (λ (b : Bool). if b then Some (OutOfFile at) else None) (past size fits)

pub named_near : (at place cluster : ℕ) → IsNamed at place cluster (named_by at place)
named_near at place cluster = record {
  is = λ size fits. same_item size (named_by at place) (named_by at place) refl;
  aligned = λ even p fine is. let same : place ≡ p = cc in ap (λ x. x % cluster) (sym same) ∙ even;
}

module _ (header : Header) (n at place : ℕ) (x : Item) (named : IsNamed at place (2 ^ header.cluster_bits) x)
    (is : (file : File) (capacity : ℕ) → item (layer_of header file) capacity n ≡ named_by at place) where
  pub head_of : (header.l1_table_offset % 2 ^ header.cluster_bits ≡ 0 → header.refcount_table_offset % 2 ^ header.cluster_bits ≡ 0 → place % 2 ^ header.cluster_bits ≡ 0) → IsHead header n x
  head_of even = record {
    is = λ file capacity fits. subst (IsItem file.size x) (sym (is file capacity)) (named.is file.size fits);
    aligned = λ a b. named.aligned (even a b);
  }

pub own_head : (header : Header) (x : Item) → IsNamed 0 (0 + 0 * 2 ^ header.cluster_bits) (2 ^ header.cluster_bits) x → IsHead header 0 x
own_head header x named =
    head_of header 0 0 (0 + 0 * 2 ^ header.cluster_bits) x named
    (λ file capacity. item_header (layer_of header file) capacity ∙ ap (named_by 0) (none (2 ^ header.cluster_bits)))
    (λ a b. add-mul-mod_self_right 0 0 (2 ^ header.cluster_bits) ∙ zero-mod (2 ^ header.cluster_bits))
  where
    none : (n : ℕ) → 0 ≡ 0 + 0 * n
    none n = omega arith

even_row : (first k cluster : ℕ) → first % cluster ≡ 0 → (first + k * cluster) % cluster ≡ 0
even_row first k cluster even = add-mul-mod_self_right first k cluster ∙ even

pub l1_head : (header : Header) (n : ℕ) (x : Item) → n ≢ 0 → n ≤ l1_count header
    → IsNamed 40 (header.l1_table_offset + (n - 1) * 2 ^ header.cluster_bits) (2 ^ header.cluster_bits) x → IsHead header n x
l1_head header n x some le named =
    head_of header n 40 (header.l1_table_offset + (n - 1) * 2 ^ header.cluster_bits) x named
    (λ file capacity. ap (item (layer_of header file) capacity) (omega (arith, some)) ∙ item_l1_cluster (layer_of header file) capacity (n - 1) (omega (arith, some, le)))
    (λ a b. even_row header.l1_table_offset (n - 1) (2 ^ header.cluster_bits) a)

pub table_head : (header : Header) (n : ℕ) (x : Item) → l1_count header < n → n < 1 + l1_count header + header.refcount_table_clusters
    → IsNamed 48 (header.refcount_table_offset + (n - 1 - l1_count header) * 2 ^ header.cluster_bits) (2 ^ header.cluster_bits) x → IsHead header n x
table_head header n x more lt named =
    head_of header n 48 (header.refcount_table_offset + (n - 1 - l1_count header) * 2 ^ header.cluster_bits) x named
    (λ file capacity. ap (item (layer_of header file) capacity) (omega (arith, more)) ∙ item_table_cluster (layer_of header file) capacity (n - 1 - l1_count header) (omega (arith, more, lt)))
    (λ a b. even_row header.refcount_table_offset (n - 1 - l1_count header) (2 ^ header.cluster_bits) b)

-- the L1 table has few clusters
pub few_clusters : (size cluster : ℕ) → 0 < cluster → size < 2 ^ 32 → cluster ≤ 2 ^ 21 → (8 * size + (cluster - 1)) / cluster < 2 ^ 35 + 2 ^ 21
few_clusters size cluster pos few high = let le = div-le_self (8 * size + (cluster - 1)) cluster in omega (arith, le, few, high)

-- ---- all of them

pub no_head : (header : Header) (m : Marks) → PassesHead header 0 m m None
no_head header m = record { keeps = keeps_same m; inside = λ stop e. absurd cc; reaches = λ file capacity le even even' small fits known. known }

module _ (header : Header) (n : ℕ) (a b c : Marks) (x : Item) (p : PassesHead header n a b None) (head : IsHead header n x) where
  pub head_next : Admits b c x None → PassesHead header (n + 1) a c None
  head_next admits = record {
    keeps = keeps_both a b c p.keeps admits.keeps;
    inside = λ stop e. absurd cc;
    reaches = λ file capacity le even even' small fits known.
        let t : Tables = layer_of header file in
        subst (λ k. Holds t capacity k c) (omega arith)
        (moved t capacity n b c x None admits (fits_after t a b p.keeps fits) (head.is file capacity small) (head.aligned even even')
        (p.reaches file capacity (omega (arith, le)) even even' small fits known));
  }

  pub head_stops : (end : ℕ) (fault : LayerFault) → n < end → Admits b c x (Some fault) → PassesHead header end a c (Some (record { at = n; fault = fault }))
  head_stops end fault lt admits = record {
    keeps = keeps_both a b c p.keeps admits.keeps;
    inside = λ stop e. let same : record { at = n; fault = fault } ≡ stop = cc in subst (λ (s : Stop). s.at < end) same lt;
    reaches = λ file capacity le even even' small fits known.
        let t : Tables = layer_of header file in (
          lt,
          moved t capacity n b c x (Some fault) admits (fits_after t a b p.keeps fits) (head.is file capacity small) (head.aligned even even')
              (p.reaches file capacity (omega (arith, le, lt)) even even' small fits known),
        );
  }
