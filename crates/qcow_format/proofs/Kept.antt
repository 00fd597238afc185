-- What holds of each header that is read: the rules on its fields, on its tables and on its backing file's name.
use Rattle.std.proofs.Common.{◌≡◌, ℕ, zero, suc, ◌+◌, ◌%◌, ◌^◌, ◌≤◌, Bool, true, false, not, List, [], ◌∷◌, w64, Option, Some, None, Ok, Err, refl, sym, ap, ◌∙◌, subst, arith, eqb-true, nat_lt, nat_le, length, take, drop}
use Rattle.std.specs.Prelude.{◌==◌, ◌&&◌, ◌||◌, ◌≢◌, ◌-◌, if◌then◌else◌, IfNone}
use Rattle.std.specs.Option.{is_some}
use Rattle.std.proofs.lemmas.Bool.{eqb-false, ne_eqb}
use Rattle.std.proofs.lemmas.Bool.Decides.{nat_tests}
use Rattle.std.proofs.lemmas.List.{drop-take, length-take}
use Rattle.sd_names.specs.Id.{id_of}
use Rattle.sd_names.specs.declared.id.Id.{Id}
use Rattle.sd_names.specs.declared.fault.LayerFault.{LayerFault}
use Rattle.sd_names.specs.declared.fault.LayerFault.TheVariants.{Short, HeaderShape, Magic, Version, Bits, Encrypted, Snapshots, Feature, RefcountOrder}
use Rattle.sd_names.specs.declared.kinds.Format.{Format}
use Rattle.qcow_format.specs.declared.header.Header.{Header}
use Rattle.std.specs.Int.{trailing_zeros}
use Rattle.qcow_format.specs.Numbers.{magic}
use Rattle.qcow_format.specs.Bytes.{number}
use Rattle.qcow_format.specs.Format.{◌>>=◌, walked}
use Rattle.qcow_format.specs.Name.{backing_id, is_id, is_name, last_part, touches}
use Rattle.qcow_format.specs.Header.{header_of, fine_fields, fields_of, fields_of_version_2, fields_of_version_3, field_fault, first_fault, shape_of, sized, with_format, head_size, has_shape, has_aligned_tables, has_length, has_name, is_closed, mapped}
use Rattle.qcow_format.proofs.Accepted.{bind_ok, fine_ok, sized_ok}

both : (a b : Bool) → (a && b) ≡ true → (a ≡ true) × (b ≡ true)
both true true e = (refl, refl)
both true false e = absurd cc
both false b e = absurd cc

-- the rules on its tables and on its backing file's name
abbrev Keeps : List ℕ → Header → Type 0
Keeps head h = (has_aligned_tables h ≡ true) × (has_name head h ≡ true)

shaped : (head : List ℕ) (h : Header) (found : Option (ℕ × Format)) → shape_of head h ≡ Ok found → Keeps head h
unfolding shape_of
shaped head h found e =
    let a = bind_ok (walked head h.header_length) (λ x. if has_shape head h x.0 then Ok x.1 else Err HeaderShape) found e in
    go a.0.0 a.0.1 (has_shape head h a.0.0) refl a.2
  where
    go : (end : ℕ) (x : Option (ℕ × Format)) (b : Bool) → has_shape head h end ≡ b → (if b then Ok x else Err HeaderShape) ≡ Ok found → Keeps head h
    go end x false is e = absurd cc
    go end x true is e =
        let most = both ((has_length h && has_aligned_tables h) && has_name head h) (is_closed head (head_size h.cluster_bits) end) is in
        let named = both (has_length h && has_aligned_tables h) (has_name head h) most.0 in
        ((both (has_length h) (has_aligned_tables h) named.0).1, named.1)

-- of the head of these bytes
pub kept : (bytes : List ℕ) (g : Header) → header_of bytes ≡ Ok g → Keeps (take (head_size g.cluster_bits) bytes) g
unfolding header_of
kept bytes g e = go (nat_lt (length bytes) 512) e
  where
    go : (b : Bool) → (if b then Err Short else (fine_fields (fields_of bytes) >>= λ h. shape_of (take (head_size h.cluster_bits) bytes) h >>= λ found. sized (with_format h found))) ≡ Ok g
        → Keeps (take (head_size g.cluster_bits) bytes) g
    go true e = absurd cc
    go false e =
        let a = bind_ok (fine_fields (fields_of bytes)) (λ h. shape_of (take (head_size h.cluster_bits) bytes) h >>= λ found. sized (with_format h found)) g e in
        let b = bind_ok (shape_of (take (head_size a.0.cluster_bits) bytes) a.0) (λ found. sized (with_format a.0 found)) g a.2 in
        let c = sized_ok (with_format a.0 b.0) g (nat_lt (mapped a.0) a.0.size) b.2 in
        subst (λ (x : Header). Keeps (take (head_size x.cluster_bits) bytes) x) c.1 (shaped (take (head_size a.0.cluster_bits) bytes) a.0 b.0 b.1)

-- ---- the size of clusters

drop_one : (t : Bool × LayerFault) (ts : List (Bool × LayerFault)) → first_fault (t ∷ ts) ≡ None → (t.0 ≡ false) × (first_fault ts ≡ None)
drop_one t ts = go t.0
  where
    go : (b : Bool) → (if b then Some t.1 else first_fault ts) ≡ None → (b ≡ false) × (first_fault ts ≡ None)
    go true e = absurd cc
    go false e = (refl, e)

abbrev later : Header → List (Bool × LayerFault)
later h =
    (not (h.crypt_method == 0), Encrypted)
    ∷ (not (h.nb_snapshots == 0), Snapshots)
    ∷ (not (h.incompatible_features == 0), Feature (trailing_zeros w64 h.incompatible_features))
    ∷ (not (h.refcount_order == 4), RefcountOrder)
    ∷ []

abbrev size_test : Header → Bool × LayerFault
size_test h = (nat_lt h.cluster_bits 12 || nat_lt 21 h.cluster_bits, Bits)

abbrev version_test : Header → Bool × LayerFault
version_test h = (not (h.version == 2 || h.version == 3), Version)

abbrev magic_test : Header → Bool × LayerFault
magic_test h = (not (h.magic == magic), Magic)

pub cluster_range : (h : Header) → field_fault h ≡ None → (12 ≤ h.cluster_bits) × (h.cluster_bits ≤ 21)
unfolding field_fault
cluster_range h e =
    go h.cluster_bits (drop_one (size_test h) (later h) (drop_one (version_test h) (size_test h ∷ later h) (drop_one (magic_test h) (version_test h ∷ size_test h ∷ later h) e).1).1).0
  where
    neither : (a b : Bool) → (a || b) ≡ false → (a ≡ false) × (b ≡ false)
    neither true b e = absurd cc
    neither false b e = (refl, e)

    go : (n : ℕ) → (nat_lt n 12 || nat_lt 21 n) ≡ false → (12 ≤ n) × (n ≤ 21)
    go n e = let parts = neither (nat_lt n 12) (nat_lt 21 n) e in let a = parts.0 in let b = parts.1 in (low n a, high n b)
      where
        low : (n : ℕ) → nat_lt n 12 ≡ false → 12 ≤ n
        low n e = grind (arith, nat_tests)

        high : (n : ℕ) → nat_lt 21 n ≡ false → n ≤ 21
        high n e = grind (arith, nat_tests)

-- ---- the fields of a header that is read have no fault, and the bytes begin with the magic number

unchanged : (h : Header) (found : Option (ℕ × Format)) → field_fault (with_format h found) ≡ field_fault h
unfolding field_fault
unchanged h found = refl

first_number : (bytes : List ℕ) → (fields_of bytes).magic ≡ number 4 0 bytes
unfolding fields_of fields_of_version_2
first_number bytes = go (number 4 4 bytes == 3)
  where
    go : (b : Bool) → (if b then fields_of_version_3 bytes else fields_of_version_2 bytes).magic ≡ number 4 0 bytes
    go true = refl
    go false = refl

fine : (bytes : List ℕ) (g : Header) → header_of bytes ≡ Ok g → (field_fault g ≡ None) × (g.magic ≡ number 4 0 bytes)
unfolding header_of
fine bytes g e = go (nat_lt (length bytes) 512) e
  where
    go : (b : Bool) → (if b then Err Short else (fine_fields (fields_of bytes) >>= λ h. shape_of (take (head_size h.cluster_bits) bytes) h >>= λ found. sized (with_format h found))) ≡ Ok g
        → (field_fault g ≡ None) × (g.magic ≡ number 4 0 bytes)
    go true e = absurd cc
    go false e =
        let a = bind_ok (fine_fields (fields_of bytes)) (λ h. shape_of (take (head_size h.cluster_bits) bytes) h >>= λ found. sized (with_format h found)) g e in
        let none = fine_ok (fields_of bytes) a.0 (field_fault (fields_of bytes)) a.1 in
        let b = bind_ok (shape_of (take (head_size a.0.cluster_bits) bytes) a.0) (λ found. sized (with_format a.0 found)) g a.2 in
        let c = sized_ok (with_format a.0 b.0) g (nat_lt (mapped a.0) a.0.size) b.2 in
        let whole = ap (λ (h : Header). with_format h b.0) none.1 ∙ c.1 in
        (sym (ap (λ (h : Header). field_fault h) whole) ∙ unchanged (fields_of bytes) b.0 ∙ none.0, sym (ap (λ (h : Header). h.magic) whole) ∙ first_number bytes)

pub read_without_fault : (bytes : List ℕ) (g : Header) → header_of bytes ≡ Ok g → field_fault g ≡ None
read_without_fault bytes g e = (fine bytes g e).0

pub begins_with_magic : (bytes : List ℕ) (g : Header) → header_of bytes ≡ Ok g → number 4 0 bytes ≡ magic
unfolding field_fault
begins_with_magic bytes g e =
    let parts = fine bytes g e in
    let test = (drop_one (magic_test g) (version_test g ∷ size_test g ∷ later g) parts.0).0 in
    sym parts.1 ∙ is_equal g.magic magic test
  where
    is_equal : (a b : ℕ) → not (a == b) ≡ false → a ≡ b
    is_equal a b e = grind (arith, nat_tests)

-- ---- where the tables stand

pub tables_aligned : (bytes : List ℕ) (h : Header) → header_of bytes ≡ Ok h → (h.l1_table_offset % 2 ^ h.cluster_bits ≡ 0) × (h.refcount_table_offset % 2 ^ h.cluster_bits ≡ 0)
tables_aligned bytes h e =
    let parts = both (h.l1_table_offset % 2 ^ h.cluster_bits == 0) (h.refcount_table_offset % 2 ^ h.cluster_bits == 0) (kept bytes h e).0 in
    (eqb-true (h.l1_table_offset % 2 ^ h.cluster_bits) 0 parts.0, eqb-true (h.refcount_table_offset % 2 ^ h.cluster_bits) 0 parts.1)

-- ---- the backing file's name

-- a name that is there lies in the bytes, and its last part is an identifier
pub record Named (bytes : List ℕ) (h : Header) : Type 0 where
  pub within : h.backing_file_offset + h.backing_file_size ≤ length bytes
  pub id : is_id (last_part (take h.backing_file_size (drop h.backing_file_offset bytes))) ≡ true

-- some bytes of the first ones
pub part_of : (n at size : ℕ) (bytes : List ℕ) → at + size ≤ length (take n bytes) → take size (drop at (take n bytes)) ≡ take size (drop at bytes)
part_of n at size bytes within =
    let fits : at + size ≤ n = omega (arith, within, length-take n bytes) in
    let split : n ≡ at + (size + (n - (at + size))) = omega (arith, fits) in
    ap (λ m. take size (drop at (take m bytes))) split ∙ ap (take size) (drop-take at (size + (n - (at + size))) bytes) ∙ shorter size (n - (at + size)) (drop at bytes)
  where
    none : (n : ℕ) → take {A = ℕ} n [] ≡ []
    none zero = refl
    none (suc n) = refl

    shorter : (n m : ℕ) (xs : List ℕ) → take n (take (n + m) xs) ≡ take n xs
    shorter n m [] = ap (take n) (none (n + m))
    shorter zero m (x ∷ xs) = refl
    shorter (suc n) m (x ∷ xs) =
        let next : suc n + m ≡ suc (n + m) = omega arith in
        ap (λ k. take (suc n) (take k (x ∷ xs))) next ∙ ap (λ (ys : List ℕ). x ∷ ys) (shorter n m xs)

pub named : (bytes : List ℕ) (h : Header) → header_of bytes ≡ Ok h → h.backing_file_offset ≢ 0 → Named bytes h
named bytes h e there =
    let at : ℕ = h.backing_file_offset in
    let size : ℕ = h.backing_file_size in
    let span : ℕ = head_size h.cluster_bits in
    let head : List ℕ = take span bytes in
    let name = second (at == 0) (is_name head span at size) (ne_eqb at 0 there) (kept bytes h e).1 in
    let apart = not (touches at size (span - 1024) && touches at size (span - 512)) in
    let all = both (nat_le size 1023 && nat_le (at + size) (length head) && apart) (is_id (last_part (take size (drop at head)))) name in
    let early = both (nat_le size 1023 && nat_le (at + size) (length head)) apart all.0 in
    let within = below (at + size) (length head) (both (nat_le size 1023) (nat_le (at + size) (length head)) early.0).1 in
    record {
      within = omega (arith, within, length-take span bytes);
      id = subst (λ (text : List ℕ). is_id (last_part text) ≡ true) (part_of span at size bytes within) all.1;
    }
  where
    second : (a b : Bool) → a ≡ false → (a || b) ≡ true → b ≡ true
    second true b e f = absurd cc
    second false b e f = f

    below : (a b : ℕ) → nat_le a b ≡ true → a ≤ b
    below a b e = grind (arith, nat_tests)

-- an identifier is found
pub found : (r : Option Id) (P : Type 0) → is_some r ≡ true → IfNone r P
found (Some id) P e = tt
found None P e = absurd cc

-- a backing file has an identifier, and nothing else has
pub backing_id-none : (bytes : List ℕ) (h : Header) → header_of bytes ≡ Ok h → (backing_id h bytes ≡ None → h.backing_file_offset ≡ 0) × (h.backing_file_offset ≡ 0 → backing_id h bytes ≡ None)
backing_id-none bytes h e = go (h.backing_file_offset == 0) refl
  where
    some : (r : Option Id) → is_some r ≡ true → r ≡ None → ⊥
    some (Some id) e f = absurd cc
    some None e f = absurd cc

    go : (b : Bool) → (h.backing_file_offset == 0) ≡ b → (backing_id h bytes ≡ None → h.backing_file_offset ≡ 0) × (h.backing_file_offset ≡ 0 → backing_id h bytes ≡ None)
    go true t = (λ _. eqb-true h.backing_file_offset 0 t, λ _. ap (λ (b : Bool). if b then None else id_of (last_part (take h.backing_file_size (drop h.backing_file_offset bytes)))) t)
    go false t =
        let there : h.backing_file_offset ≢ 0 = eqb-false h.backing_file_offset 0 t in (
          λ none. absurd (some (id_of (last_part (take h.backing_file_size (drop h.backing_file_offset bytes)))) (named bytes h e there).id
              (sym (ap (λ (b : Bool). if b then None else id_of (last_part (take h.backing_file_size (drop h.backing_file_offset bytes)))) t) ∙ none)),
          λ zero. absurd (there zero),
        )
