-- What a header that is read says of its head.
use Rattle.std.proofs.Common.{◌≡◌, ℕ, ◌≤◌, Bool, true, false, cond, List, length, take, Option, Result, Ok, Err, refl, sym, ap, ◌∙◌, subst, arith, nat_lt}
use Rattle.std.specs.Prelude.{◌&&◌}
use Rattle.std.proofs.lemmas.Bool.Decides.{nat_tests}
use Rattle.sd_names.specs.declared.fault.LayerFault.{LayerFault}
use Rattle.sd_names.specs.declared.fault.LayerFault.TheVariants.{HeaderShape, Short, Size}
use Rattle.sd_names.specs.declared.kinds.Format.{Format}
use Rattle.qcow_format.specs.declared.header.Header.{Header}
use Rattle.qcow_format.specs.Extension.{end_after, extensions_at}
use Rattle.qcow_format.specs.Format.{◌>>=◌, last_format, walked}
use Rattle.qcow_format.specs.Header.{field_fault, fields_of, fine_fields, has_aligned_tables, has_length, has_name, has_shape, head_size, header_of, is_closed, mapped, shape_of, sized, with_format}
use Rattle.qcow_format.proofs.Accepted.{bind_ok, fine_ok, sized_ok}

abbrev pub Formats : Type 0
Formats = Option (ℕ × Format)

-- where the extensions of a head end
abbrev pub end_in : List ℕ → Header → ℕ
end_in head h = end_after h.header_length (extensions_at head h.header_length)

-- the rules that a head keeps, with the backing format that it names
pub record Shaped (head : List ℕ) (h : Header) (found : Formats) : Type 0 where
  pub formats : last_format head (extensions_at head h.header_length) ≡ Ok found
  pub long : has_length h ≡ true
  pub aligned : has_aligned_tables h ≡ true
  pub named : has_name head h ≡ true
  pub closed : is_closed head (head_size h.cluster_bits) (end_in head h) ≡ true

both : (a b : Bool) → (a && b) ≡ true → (a ≡ true) × (b ≡ true)
both true true e = (refl, refl)
both true false e = absurd cc
both false b e = absurd cc

pub shaped : (head : List ℕ) (h : Header) (found : Formats) → shape_of head h ≡ Ok found → Shaped head h found
unfolding shape_of walked
shaped head h found is =
    let a = bind_ok (walked head h.header_length) (λ x. cond (has_shape head h x.0) (Ok x.1) (Err HeaderShape)) found is in
    let b = bind_ok (last_format head (extensions_at head h.header_length)) (λ f. Ok (end_in head h, f)) a.0 a.1 in
    let same : (end_in head h, b.0) ≡ a.0 = cc in
    go (has_shape head h (end_in head h)) refl b.0 b.1 (ap (λ (x : ℕ × Formats). cond (has_shape head h x.0) (Ok x.1) (Err HeaderShape)) same ∙ a.2)
  where
    go : (t : Bool) → has_shape head h (end_in head h) ≡ t → (f : Formats) → last_format head (extensions_at head h.header_length) ≡ Ok f
        → cond (has_shape head h (end_in head h)) (Ok f) (Err HeaderShape) ≡ Ok found → Shaped head h found
    go true t f last e =
        let e' : ◌≡◌ {A = Result Formats LayerFault} (Ok f) (Ok found) = sym (ap (λ b. cond b (Ok f) (Err HeaderShape)) t) ∙ e in
        let most = both ((has_length h && has_aligned_tables h) && has_name head h) (is_closed head (head_size h.cluster_bits) (end_in head h)) t in
        let named = both (has_length h && has_aligned_tables h) (has_name head h) most.0 in
        let first = both (has_length h) (has_aligned_tables h) named.0 in
        record { formats = last ∙ e'; long = first.0; aligned = first.1; named = named.1; closed = most.1 }
    go false t f last e =
        let e' : ◌≡◌ {A = Result Formats LayerFault} (Err HeaderShape) (Ok found) = sym (ap (λ b. cond b (Ok f) (Err HeaderShape)) t) ∙ e in
        absurd cc

-- and the other way round
pub shape_again : (head : List ℕ) (h : Header) (end : ℕ) (found : Formats) → last_format head (extensions_at head h.header_length) ≡ Ok found → end_in head h ≡ end
    → has_length h ≡ true → has_aligned_tables h ≡ true → has_name head h ≡ true → is_closed head (head_size h.cluster_bits) end ≡ true → shape_of head h ≡ Ok found
unfolding shape_of walked
shape_again head h end found formats ends long aligned named closed =
    let all : has_shape head h end ≡ true = four (has_length h) (has_aligned_tables h) (has_name head h) (is_closed head (head_size h.cluster_bits) end) long aligned named closed in
    ap (λ (r : Result Formats LayerFault). (r >>= paired) >>= λ x. cond (has_shape head h x.0) (Ok x.1) (Err HeaderShape)) formats
    ∙ ap (λ k. cond (has_shape head h k) (Ok found) (Err HeaderShape)) ends
    ∙ ap (λ b. cond b (Ok found) (Err HeaderShape)) all
  where
    paired : Formats → Result (ℕ × Formats) LayerFault
    paired f = Ok (end_in head h, f)

    four : (a b c d : Bool) → a ≡ true → b ≡ true → c ≡ true → d ≡ true → (a && b && c && d) ≡ true
    four a b c d e f g k = rw (e, f, g, k) refl

-- ---- of a header that is read

pub record Parts (bytes : List ℕ) (h : Header) : Type 0 where
  pub found : Formats
  pub shape : shape_of (take (head_size h.cluster_bits) bytes) h ≡ Ok found
  pub own : with_format h found ≡ h
  pub enough : 512 ≤ length bytes
  pub fields : Header
  pub read : fields_of bytes ≡ fields
  pub fine : fine_fields fields ≡ Ok fields
  pub with_found : with_format fields found ≡ h
  pub fits : nat_lt (mapped fields) fields.size ≡ false

own_shape : (bytes : List ℕ) (f : Header) (found : Formats) → shape_of (take (head_size f.cluster_bits) bytes) f ≡ Ok found → 512 ≤ length bytes
    → fields_of bytes ≡ f → fine_fields f ≡ Ok f → nat_lt (mapped f) f.size ≡ false → Parts bytes (with_format f found)
unfolding shape_of
own_shape bytes f found is enough read fine fits = record { found = found; shape = is; own = refl; enough = enough; fields = f; read = read; fine = fine; with_found = refl; fits = fits }

pub parts : (bytes : List ℕ) (g : Header) → header_of bytes ≡ Ok g → Parts bytes g
unfolding header_of
parts bytes g e = go (nat_lt (length bytes) 512) refl e
  where
    go : (b : Bool) → nat_lt (length bytes) 512 ≡ b → cond b (Err Short) (fine_fields (fields_of bytes) >>= λ h. shape_of (take (head_size h.cluster_bits) bytes) h >>= λ found. sized (with_format h found)) ≡ Ok g → Parts bytes g
    go true t e = absurd cc
    go false t e =
        let a = bind_ok (fine_fields (fields_of bytes)) (λ h. shape_of (take (head_size h.cluster_bits) bytes) h >>= λ found. sized (with_format h found)) g e in
        let b = bind_ok (shape_of (take (head_size a.0.cluster_bits) bytes) a.0) (λ found. sized (with_format a.0 found)) g a.2 in
        let c = sized_ok (with_format a.0 b.0) g (nat_lt (mapped a.0) a.0.size) b.2 in
        let none = fine_ok (fields_of bytes) a.0 (field_fault (fields_of bytes)) a.1 in
        let fine : fine_fields a.0 ≡ Ok a.0 = ap fine_fields (sym none.1) ∙ a.1 in
        subst (λ (x : Header). Parts bytes x) c.1 (own_shape bytes a.0 b.0 b.1 (large t) none.1 fine c.0)
      where
        large : nat_lt (length bytes) 512 ≡ false → 512 ≤ length bytes
        large t = grind (arith, nat_tests)

-- a head with these fields, which keeps the rules
pub read_with : (bytes : List ℕ) (next : Header) (found : Formats) (fields : Header) → fields_of bytes ≡ fields → fine_fields fields ≡ Ok fields → with_format fields found ≡ next
    → nat_lt (mapped fields) fields.size ≡ false → 512 ≤ length bytes → shape_of (take (head_size next.cluster_bits) bytes) next ≡ Ok found → header_of bytes ≡ Ok next
unfolding header_of shape_of
read_with bytes next found fields read fine whole fits enough shape =
    let long : nat_lt (length bytes) 512 ≡ false = grind (arith, nat_tests) in
    let bare : shape_of (take (head_size fields.cluster_bits) bytes) fields ≡ Ok found = subst (λ (x : Header). shape_of (take (head_size x.cluster_bits) bytes) x ≡ Ok found) (sym whole) shape in
    let end : sized (with_format fields found) ≡ Ok next = ap (λ b. cond b (Err (Size fields.size)) (Ok (with_format fields found))) fits ∙ ap (λ (x : Header). Ok x) whole in
    ap (λ b. cond b (Err Short) (fine_fields (fields_of bytes) >>= after)) long
    ∙ ap (λ f. fine_fields f >>= after) read
    ∙ ap (λ r. r >>= after) fine
    ∙ ap (λ r. r >>= λ found. sized (with_format fields found)) bare
    ∙ end
  where
    after : Header → Result Header LayerFault
    after x = shape_of (take (head_size x.cluster_bits) bytes) x >>= λ found. sized (with_format x found)

-- another head in which the fields are the same, and which keeps the rules
pub read_again : (bytes bytes' : List ℕ) (h : Header) (p : Parts bytes h) → fields_of bytes' ≡ fields_of bytes → 512 ≤ length bytes' → shape_of (take (head_size h.cluster_bits) bytes') h ≡ Ok p.found
    → header_of bytes' ≡ Ok h
read_again bytes bytes' h p same enough shape = read_with bytes' h p.found p.fields (same ∙ p.read) p.fine p.with_found p.fits enough shape
