-- One position gets another name, and the others stay.
use Rattle.std.proofs.Common.{◌≡◌, ◌≢◌, ◌⊎◌, inl, inr, ℕ, ◌/◌, ◌%◌, ◌^◌, ◌<◌, Bool, true, false, Option, Some, None, sym, ap, ◌∙◌, arith, nat_le}
use Rattle.std.specs.Prelude.{◌==◌, if◌then◌else◌}
use Rattle.std.proofs.lemmas.Bool.Decides.{nat_tests}
use Rattle.sd_names.specs.declared.fault.LayerFault.TheVariants.{MixedBits, OutOfFile}
use Rattle.qcow_format.specs.declared.header.Header.{Header}
use Rattle.image_model.specs.File.{File}
use Rattle.image_model.specs.Layer.{Tables, cluster_size, count_of}
use Rattle.image_model.specs.Soundness.{IsClean, Item, item, names, own_fault, placed}
use Rattle.layer_laws.specs.Laws.{IsNamedOnlyAt, layer}
use Rattle.layer_laws.proofs.Positions.{same_or_not}

-- a place that begins a cluster inside the file is a fine name
pub placed_fine : (t : Tables) (at place size : ℕ) → place % cluster_size t ≡ 0 → place < size → own_fault size (placed t at place) ≡ None
placed_fine t at place size whole lt =
    let e : (place % cluster_size t == 0) ≡ true = ap (λ n. n == 0) whole in
    let f : nat_le size place ≡ false = grind (arith, nat_tests) in
    ap (λ (b : Bool). own_fault size (record { at = at; wrong = if b then None else Some (MixedBits at); name = Some place })) e
    ∙ ap (λ (b : Bool). if b then Some (OutOfFile at) else None) f

same_some : (p q : ℕ) (o : Option ℕ) → o ≡ Some p → o ≡ Some q → p ≡ q
same_some p q o e f = cc

module _ (h : Header) (f g : File) (capacity here place : ℕ) (clean : (n : ℕ) → IsClean (layer h f) capacity n) (size : g.size ≡ f.size)
    (fine : own_fault f.size (item (layer h g) capacity here) ≡ None) (named : names (layer h g) capacity here ≡ Some place)
    (others : (m : ℕ) → m ≢ here → item (layer h g) capacity m ≡ item (layer h f) capacity m) (only : IsNamedOnlyAt (layer h f) capacity here place)
    (counted : (m place : ℕ) → names (layer h g) capacity m ≡ Some place → 0 < count_of (layer h g) (place / 2 ^ h.cluster_bits)) where
  abbrev T : Tables
  T = layer h f

  abbrev U : Tables
  U = layer h g

  pub other_name : (m : ℕ) → m ≢ here → names U capacity m ≡ names T capacity m
  other_name m ne = ap (λ (x : Item). x.name) (others m ne)

  once : (n p m : ℕ) → names U capacity n ≡ Some p → m < n → names U capacity m ≡ Some p → ⊥
  once n p m e lt e' = go (same_or_not n here) (same_or_not m here)
    where
      go : (n ≡ here) ⊎ (n ≢ here) → (m ≡ here) ⊎ (m ≢ here) → ⊥
      go (inl a) (inl b) = omega (arith, a, b, lt)
      go (inl a) (inr b) =
          let same : p ≡ place = same_some p place (names U capacity here) (sym (ap (names U capacity) a) ∙ e) named in
          b (only m (sym (other_name m b) ∙ e' ∙ ap (λ (x : ℕ). Some x) same))
      go (inr a) (inl b) =
          let same : p ≡ place = same_some p place (names U capacity here) (sym (ap (names U capacity) b) ∙ e') named in
          a (only n (sym (other_name n a) ∙ e ∙ ap (λ (x : ℕ). Some x) same))
      go (inr a) (inr b) = (clean n).once p (sym (other_name n a) ∙ e) (m, lt, sym (other_name m b) ∙ e')

  pub clean_with : (n : ℕ) → IsClean U capacity n
  clean_with n = record {
    fine = ap (λ size. own_fault size (item U capacity n)) size ∙ go (same_or_not n here);
    once = λ p e before. once n p before.0 e before.1 before.2;
    counted = λ p e. counted n p e;
  }
    where
      go : (n ≡ here) ⊎ (n ≢ here) → own_fault f.size (item U capacity n) ≡ None
      go (inl e) = ap (λ m. own_fault f.size (item U capacity m)) e ∙ fine
      go (inr e) = ap (own_fault f.size) (others n e) ∙ (clean n).fine
