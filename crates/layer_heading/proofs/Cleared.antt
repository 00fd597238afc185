-- A head in which the features that a writer clears are 0.
use Rattle.std.proofs.Common.{◌≡◌, ◌≢◌, ◌⊎◌, inl, inr, ℕ, ◌+◌, ◌-◌, ◌%◌, ◌<◌, ◌≤◌, Bool, true, false, cond, eqb, ltb, List, length, get_or, take, Option, Some, None, Result, Ok, Err, refl, sym, ap, ◌∙◌, arith, eqb-true}
use Rattle.std.specs.Prelude.{◌==◌, ◌&&◌, ◌||◌, not, nat_le, if◌then◌else◌}
use Rattle.std.proofs.lemmas.Bool.Decides.{nat_tests}
use Rattle.sd_names.specs.declared.fault.LayerFault.{LayerFault}
use Rattle.sd_names.specs.declared.fault.LayerFault.TheVariants.{Magic, Version, Bits, Encrypted, Snapshots}
use Rattle.qcow_format.specs.Bytes.{number}
use Rattle.qcow_format.specs.Numbers.{magic}
use Rattle.qcow_format.specs.declared.header.Header.{Header}
use Rattle.qcow_format.specs.Header.{field_fault, fields_of, fields_of_version_2, fields_of_version_3, fine_fields, head_size, header_of, with_format}
use Rattle.qcow_format.specs.Name.{backing_id}
use Rattle.qcow_format.proofs.Accepted.{fine_ok}
use Rattle.qcow_format.proofs.Again.{tests}
use Rattle.qcow_format.proofs.Kept.{read_without_fault}
use Rattle.qcow_format.proofs.Put.{number-same}
use Rattle.layer_heading.specs.Cleared.{cleared}
use Rattle.layer_heading.proofs.Fields.{HasFields, IsAlike, first_zero, last_zero, parent_same, read_next}
use Rattle.layer_heading.proofs.Parts.{Parts, parts, shaped}

no_snapshots : (h : Header) → field_fault h ≡ None → h.nb_snapshots ≡ 0
unfolding field_fault
no_snapshots h e = equal h.nb_snapshots (fifth (not (eqb h.magic magic)) (not (eqb h.version 2 || eqb h.version 3)) (ltb h.cluster_bits 12 || ltb 21 h.cluster_bits) (not (eqb h.crypt_method 0)) (not (eqb h.nb_snapshots 0)) Magic Version Bits Encrypted Snapshots _ e)
  where
    fifth : (a b c d e : Bool) (r s t u v : LayerFault) (rest : Option LayerFault) → cond a (Some r) (cond b (Some s) (cond c (Some t) (cond d (Some u) (cond e (Some v) rest)))) ≡ None → e ≡ false
    fifth true b c d e r s t u v rest h = absurd cc
    fifth false true c d e r s t u v rest h = absurd cc
    fifth false false true d e r s t u v rest h = absurd cc
    fifth false false false true e r s t u v rest h = absurd cc
    fifth false false false false true r s t u v rest h = absurd cc
    fifth false false false false false r s t u v rest h = refl

    equal : (a : ℕ) → not (eqb a 0) ≡ false → a ≡ 0
    equal a e = grind (arith, nat_tests)

cleared_fault : (h : Header) → field_fault (cleared h) ≡ field_fault h
unfolding field_fault
cleared_fault h = refl

-- fields that pass their tests still do
fine_cleared : (f : Header) → fine_fields f ≡ Ok f → fine_fields (cleared f) ≡ Ok (cleared f)
fine_cleared f e = go (field_fault (cleared f)) (cleared_fault f ∙ (fine_ok f f (field_fault f) e).0)
  where
    go : (o : Option LayerFault) → o ≡ None → elim o as (λ _. Result Header LayerFault) [ None ↦ Ok (cleared f) | Some x ↦ Err x ] ≡ Ok (cleared f)
    go None e = refl
    go (Some x) e = absurd cc

-- ---- the head

cleared_alike : (h : Header) → IsAlike h (cleared h)
cleared_alike h = record { long = refl; aligned = refl; length = refl; bits = refl; name = λ head. refl; id = λ head. refl }

module _ (h : Header) (bytes bytes' : List ℕ) (is : header_of bytes ≡ Ok h) (some : h.autoclear_features ≢ 0) (len : length bytes' ≡ length bytes)
    (zeros : number 8 88 bytes' ≡ 0) (same : (k : ℕ) → (k < 88) ⊎ (96 ≤ k) → get_or bytes' k 0 ≡ get_or bytes k 0) where
  abbrev old : Parts bytes h
  old = parts bytes h is

  no_fault : field_fault h ≡ None
  no_fault = read_without_fault bytes h is

  -- version 2 has no features
  version_3 : number 4 4 bytes ≡ 3
  unfolding fields_of fields_of_version_2
  version_3 = go (number 4 4 bytes == 3) refl
    where
      go : (b : Bool) → (number 4 4 bytes == 3) ≡ b → number 4 4 bytes ≡ 3
      go true t = eqb-true (number 4 4 bytes) 3 t
      go false t =
          absurd (some (ap (λ (x : Header). x.autoclear_features) (sym old.with_found ∙ ap (λ (x : Header). with_format x old.found) (sym old.read))
          ∙ ap (λ b. (if b then fields_of_version_3 bytes else fields_of_version_2 bytes).autoclear_features) t))

  as_read : h ≡ with_format (fields_of_version_3 bytes) old.found
  unfolding fields_of
  as_read = sym old.with_found ∙ ap (λ (x : Header). with_format x old.found) (sym old.read ∙ ap (λ n. if n == 3 then fields_of_version_3 bytes else fields_of_version_2 bytes) version_3)

  version_is : h.version ≡ 3
  unfolding fields_of_version_2
  version_is = ap (λ (x : Header). x.version) as_read ∙ version_3

  snapshots_are : number 4 60 bytes ≡ 0
  unfolding fields_of_version_2
  snapshots_are = sym (ap (λ (x : Header). x.nb_snapshots) as_read) ∙ no_snapshots h no_fault

  order_is : number 4 96 bytes ≡ 4
  unfolding fields_of_version_2
  order_is = sym (ap (λ (x : Header). x.refcount_order) as_read) ∙ (tests h no_fault).2

  n : (w at : ℕ) → (at + w ≤ 88) ⊎ (96 ≤ at) → number w at bytes' ≡ number w at bytes
  n w at side = number-same w at bytes' bytes (λ k ge lt. same k (apart k ge lt side))
    where
      apart : (k : ℕ) → at ≤ k → k < at + w → (at + w ≤ 88) ⊎ (96 ≤ at) → (k < 88) ⊎ (96 ≤ k)
      apart k ge lt (inl le) = inl (omega (arith, lt, le))
      apart k ge lt (inr le) = inr (omega (arith, ge, le))

  fields_3 : fields_of_version_3 bytes' ≡ cleared (fields_of_version_3 bytes)
  unfolding fields_of_version_2
  fields_3 =
      rw (
        n 4 0 (inl (omega arith)),
        n 4 4 (inl (omega arith)),
        n 8 8 (inl (omega arith)),
        n 4 16 (inl (omega arith)),
        n 4 20 (inl (omega arith)),
        n 8 24 (inl (omega arith)),
        n 4 32 (inl (omega arith)),
        n 4 36 (inl (omega arith)),
        n 8 40 (inl (omega arith)),
        n 8 48 (inl (omega arith)),
        n 4 56 (inl (omega arith)),
        n 4 60 (inl (omega arith)),
        n 8 64 (inl (omega arith)),
        n 8 72 (inl (omega arith)),
        n 8 80 (inl (omega arith)),
        zeros,
        n 4 96 (inr (omega arith)),
        n 4 100 (inr (omega arith)),
      ) refl

  fields_are : fields_of bytes' ≡ cleared old.fields
  unfolding fields_of
  fields_are =
      ap (λ n. if n == 3 then fields_of_version_3 bytes' else fields_of_version_2 bytes') (n 4 4 (inl (omega arith)) ∙ version_3)
      ∙ fields_3
      ∙ ap cleared (ap (λ n. if n == 3 then fields_of_version_3 bytes else fields_of_version_2 bytes) (sym version_3) ∙ old.read)

  low : 104 ≤ h.header_length
  low = third h.version h.header_length version_is (shaped (take (head_size h.cluster_bits) bytes) h old.found old.shape).long
    where
      third : (v n : ℕ) → v ≡ 3 → (v == 2 || (nat_le 104 n && n % 8 == 0)) ≡ true → 104 ≤ n
      third v n three e = grind (arith, nat_tests)

  has : HasFields bytes' (cleared h) old.found
  has = record { fields = cleared old.fields; read = fields_are; fine = fine_cleared old.fields old.fine; whole = ap cleared old.with_found; fits = old.fits }

  small : number 4 96 bytes < 16_777_216
  small = let e = order_is in omega (arith, e)

  pub parent_cleared : backing_id (cleared h) bytes' ≡ backing_id h bytes
  parent_cleared =
      parent_same h (cleared h) bytes bytes' is (cleared_alike h) has len 88 96 63 96 (omega arith) (omega arith) (omega arith) (last_zero 60 bytes snapshots_are) (first_zero 96 bytes small)
      (omega (arith, low)) same

  pub read_cleared : header_of bytes' ≡ Ok (cleared h)
  read_cleared =
      read_next h (cleared h) bytes bytes' is (cleared_alike h) has len 88 96 63 96 (omega arith) (omega arith) (omega arith) (last_zero 60 bytes snapshots_are) (first_zero 96 bytes small)
      (omega (arith, low)) same
