-- What is read is a header.
use Rattle.std.proofs.Common.{◌≡◌, ℕ, zero, suc, ◌+◌, ◌*◌, ◌/◌, ◌%◌, ◌^◌, ◌<◌, ◌≤◌, Bool, true, false, cond, eqb, ltb, List, [], ◌∷◌, length, get_or, take, drop, Option, Some, None, Result, Ok, Err, refl, sym, ap, subst, ◌∙◌, arith}
use Rattle.std.specs.Prelude.{IfSome, IfOk, ◌&&◌, codes, unwrap_or, option_map}
use Rattle.std.specs.Str.{bytes_eq}
use Rattle.std.proofs.lemmas.Bool.{ltb-false}
use Rattle.std.proofs.lemmas.Bool.Decides.{nat_tests}
use Rattle.std.proofs.lemmas.Slice.Eq.{bytes_eq-Decides}
use Rattle.std.proofs.lemmas.List.{get_or-drop}
use Rattle.byteorder.specs.Numbers.{big_from-lt}
use Rattle.sd_names.specs.declared.fault.LayerFault.{LayerFault}
use Rattle.sd_names.specs.declared.fault.LayerFault.TheVariants.{HeaderShape, Size, Short}
use Rattle.sd_names.specs.declared.kinds.Format.{Format}
use Rattle.sd_names.specs.declared.kinds.Format.TheVariants.{Raw, Cow}
use Rattle.qcow_format.specs.Numbers.{backing_format}
use Rattle.qcow_format.specs.Bytes.{number}
use Rattle.qcow_format.specs.Extension.{placed_at, end_of, data_of, is_extension, extensions_up_to, extensions_at, end_after}
use Rattle.qcow_format.specs.declared.header.Header.{Header}
use Rattle.qcow_format.specs.Header.{name_of, fields_of_version_2, fields_of_version_3, fields_of, field_fault, fine_fields, head_size, has_length, has_aligned_tables, has_name, is_closed, has_shape, shape_of, mapped, sized, with_format, header_of}
use Rattle.qcow_format.specs.Written.{version_2_table, version_3_table, HaveWidth, IsHeader}
use Rattle.qcow_format.specs.Format.{◌>>=◌, format_named, format_at, last_format, walked}

-- a step that didn't fail
pub bind_ok : {A B : Type 0} (r : Result A LayerFault) (f : A → Result B LayerFault) (y : B) → (r >>= f) ≡ Ok y → (x : A) × (r ≡ Ok x) × (f x ≡ Ok y)
bind_ok (Ok x) f y e = (x, refl, e)
bind_ok (Err d) f y e = absurd cc

-- ---- where a backing format stands

named_length : (text : List ℕ) (f : Format) → format_named text ≡ Ok f → 3 ≤ length text
named_length text f e = go (bytes_eq text (codes "qcow2")) (bytes_eq text (codes "raw")) refl refl e
  where
    go : (a b : Bool) → bytes_eq text (codes "qcow2") ≡ a → bytes_eq text (codes "raw") ≡ b → cond a (Ok Cow) (cond b (Ok Raw) (Err HeaderShape)) ≡ Ok f → 3 ≤ length text
    go true b p q e = let is = (bytes_eq-Decides text (codes "qcow2")).0 p in rw is (omega arith)
    go false true p q e = let is = (bytes_eq-Decides text (codes "raw")).0 q in rw is (omega arith)
    go false false p q e = absurd cc

-- a place from `start` on, a multiple of 8, with 11 bytes at least up to 512
abbrev Stands : ℕ → ℕ → Type 0
Stands start at = (start ≤ at) × (at % 8 ≡ 0) × (at + 11 ≤ 512)

format_at_stands : (at : ℕ) (text : List ℕ) (g : ℕ × Format) → at % 8 ≡ 0 → format_at at text ≡ Ok g → Stands at g.0
unfolding format_at
format_at_stands at text g eight e = go (ltb 512 (at + 8 + length text)) refl e
  where
    go : (b : Bool) → ltb 512 (at + 8 + length text) ≡ b → cond b (Err HeaderShape) (format_named text >>= λ f. Ok (at, f)) ≡ Ok g → Stands at g.0
    go true p e = absurd cc
    go false p e =
        let fits = ltb-false 512 (at + 8 + length text) p in
        let step = bind_ok (format_named text) (λ f. Ok (at, f)) g e in
        let long = named_length text step.0 step.1 in
        let is : (at, step.0) ≡ g = cc in
        subst (λ (x : ℕ × Format). Stands at x.0) is (omega arith, eight, omega arith)

-- one extension, of a backing format or not, and those behind it
one_stands : (at : ℕ) (kind : Bool) (first : Result (ℕ × Format) LayerFault) (rest : Result (Option (ℕ × Format)) LayerFault) (g : ℕ × Format)
    → ((x : ℕ × Format) → first ≡ Ok x → Stands at x.0)
    → ((x : ℕ × Format) → rest ≡ Ok (Some x) → Stands at x.0)
    → cond kind (first >>= λ f. rest >>= λ later. Ok (Some (unwrap_or later f))) rest ≡ Ok (Some g)
    → Stands at g.0
one_stands at true first rest g here behind e =
    let a = bind_ok first (λ f. rest >>= λ later. Ok (Some (unwrap_or later f))) (Some g) e in
    let b = bind_ok rest (λ later. Ok (Some (unwrap_or later a.0))) (Some g) a.2 in
    go a.0 (here a.0 a.1) b.0 b.1 b.2
  where
    go : (f : ℕ × Format) → Stands at f.0 → (later : Option (ℕ × Format)) → rest ≡ Ok later
        → ◌≡◌ {A = Result (Option (ℕ × Format)) LayerFault} (Ok (Some (unwrap_or later f))) (Ok (Some g)) → Stands at g.0
    go f stands None p q = let is : f ≡ g = cc in subst (λ (x : ℕ × Format). Stands at x.0) is stands
    go f stands (Some x) p q = let is : x ≡ g = cc in subst (λ (y : ℕ × Format). Stands at y.0) is (behind x p)
one_stands at false first rest g here behind e = behind g e

behind_stands : (at size : ℕ) (x : ℕ) → Stands (at + 8 + (size + 7) / 8 * 8) x → Stands at x
behind_stands at size x s = (omega (arith, s.0), s.1, s.2)

pub formats_stand : (n : ℕ) (head : List ℕ) (at : ℕ) (g : ℕ × Format) → at % 8 ≡ 0 → last_format head (extensions_up_to n head at) ≡ Ok (Some g) → Stands at g.0
unfolding last_format extensions_up_to
formats_stand zero head at g eight e = absurd cc
formats_stand (suc n) head at g eight e =
    let p = placed_at head at in
    let behind = λ (x : ℕ × Format) (h : last_format head (extensions_up_to n head (end_of p)) ≡ Ok (Some x)). behind_stands at p.size x.0 (formats_stand n head (end_of p) x (omega arith) h) in
    go (is_extension head at) behind e
  where
    go : (b : Bool)
        → ((x : ℕ × Format) → last_format head (extensions_up_to n head (end_of (placed_at head at))) ≡ Ok (Some x) → Stands at x.0)
        → last_format head (cond b (placed_at head at ∷ extensions_up_to n head (end_of (placed_at head at))) []) ≡ Ok (Some g)
        → Stands at g.0
    go true behind e =
        one_stands at (eqb (placed_at head at).kind backing_format) (format_at at (data_of head (placed_at head at))) (last_format head (extensions_up_to n head (end_of (placed_at head at)))) g
        (λ x h. format_at_stands at (data_of head (placed_at head at)) x eight h) behind e
    go false behind e = absurd cc

-- ---- numbers

abbrev pub IsBytes : List ℕ → Type 0
IsBytes bytes = (i : ℕ) → get_or bytes i 0 < 256

number-lt : (n at : ℕ) (bytes : List ℕ) → IsBytes bytes → number n at bytes < 256 ^ n
unfolding number
number-lt n at bytes fits = big_from-lt 0 n (drop at bytes) (λ i. rw get_or-drop (fits (at + i)))

both_fit : (bytes : List ℕ) → IsBytes bytes → HaveWidth (version_2_table (fields_of_version_2 bytes))
unfolding fields_of_version_2
both_fit bytes fits = (
  number-lt 4 0 bytes fits,
  (
    number-lt 4 4 bytes fits,
    (
      number-lt 8 8 bytes fits,
      (
        number-lt 4 16 bytes fits,
        (
          number-lt 4 20 bytes fits,
          (
            number-lt 8 24 bytes fits,
            (
              number-lt 4 32 bytes fits,
              (
                number-lt 4 36 bytes fits,
                (
                  number-lt 8 40 bytes fits,
                  (
                    number-lt 8 48 bytes fits,
                    (number-lt 4 56 bytes fits, (number-lt 4 60 bytes fits, (number-lt 8 64 bytes fits, tt))),
                  ),
                ),
              ),
            ),
          ),
        ),
      ),
    ),
  ),
)

-- ---- the fields that were read

fields_fit : (bytes : List ℕ) → IsBytes bytes → HaveWidth (version_2_table (fields_of bytes)) × HaveWidth (version_3_table (fields_of bytes))
unfolding fields_of fields_of_version_2
fields_fit bytes fits = go (eqb (number 4 4 bytes) 3)
  where
    go : (b : Bool) → let h = cond b (fields_of_version_3 bytes) (fields_of_version_2 bytes) in HaveWidth (version_2_table h) × HaveWidth (version_3_table h)
    go true = (both_fit bytes fits, (number-lt 8 72 bytes fits, (number-lt 8 80 bytes fits, (number-lt 8 88 bytes fits, (number-lt 4 96 bytes fits, (number-lt 4 100 bytes fits, tt))))))
    go false = (both_fit bytes fits, (omega arith, (omega arith, (omega arith, (omega arith, (omega arith, tt))))))

fields_early : (bytes : List ℕ) → let h = fields_of bytes in h.version ≡ 2 → (h.compatible_features ≡ 0) × (h.autoclear_features ≡ 0) × (h.header_length ≡ 72)
unfolding fields_of fields_of_version_2
fields_early bytes = go (eqb (number 4 4 bytes) 3) refl
  where
    go : (b : Bool) → eqb (number 4 4 bytes) 3 ≡ b → let h = cond b (fields_of_version_3 bytes) (fields_of_version_2 bytes) in h.version ≡ 2 → (h.compatible_features ≡ 0) × (h.autoclear_features ≡ 0) × (h.header_length ≡ 72)
    go true is two = absurd (grind (arith, nat_tests))
    go false is two = (refl, refl, refl)

fields_named : (bytes : List ℕ) → let h = fields_of bytes in h.name ≡ name_of h.backing_file_offset h.backing_file_size
unfolding fields_of fields_of_version_2
fields_named bytes = go (eqb (number 4 4 bytes) 3)
  where
    go : (b : Bool) → let h = cond b (fields_of_version_3 bytes) (fields_of_version_2 bytes) in h.name ≡ name_of h.backing_file_offset h.backing_file_size
    go true = refl
    go false = refl

-- ---- the shape

and_left : (a b : Bool) → (a && b) ≡ true → a ≡ true
and_left true b e = refl
and_left false b e = absurd cc

shape_true : (head : List ℕ) (h : Header) (end : ℕ) (t : Bool) → has_shape head h end ≡ t → (f found : Option (ℕ × Format))
    → last_format head (extensions_at head h.header_length) ≡ Ok f → cond t (Ok f) (Err HeaderShape) ≡ Ok found
    → (has_length h ≡ true) × (last_format head (extensions_at head h.header_length) ≡ Ok found)
shape_true head h end true is f found last e =
    let same : f ≡ found = cc in (
      and_left (has_length h) (has_aligned_tables h) (and_left (has_length h && has_aligned_tables h) (has_name head h)
          (and_left (has_length h && has_aligned_tables h && has_name head h) (is_closed head (head_size h.cluster_bits) end) is)),
      last ∙ ap (λ (x : Option (ℕ × Format)). Ok x) same,
    )
shape_true head h end false is f found last e = absurd cc

shape_parts : (head : List ℕ) (h : Header) (found : Option (ℕ × Format)) → shape_of head h ≡ Ok found
    → (has_length h ≡ true) × (last_format head (extensions_at head h.header_length) ≡ Ok found)
unfolding shape_of walked
shape_parts head h found e =
    let a = bind_ok (walked head h.header_length) (λ x. cond (has_shape head h x.0) (Ok x.1) (Err HeaderShape)) found e in
    let b = bind_ok (last_format head (extensions_at head h.header_length)) (λ f. Ok (end_after h.header_length (extensions_at head h.header_length), f)) a.0 a.1 in
    let same : (end_after h.header_length (extensions_at head h.header_length), b.0) ≡ a.0 = cc in
    let same_found : b.0 ≡ a.0.1 = ap (λ (x : ℕ × Option (ℕ × Format)). x.1) same in
    shape_true head h a.0.0 (has_shape head h a.0.0) refl a.0.1 found (b.1 ∙ ap (λ (f : Option (ℕ × Format)). Ok f) same_found) a.2

length_eight : (h : Header) → has_length h ≡ true → (h.version ≡ 2 → h.header_length ≡ 72) → h.header_length % 8 ≡ 0
length_eight h is early = grind (arith, nat_tests)

length_late : (h : Header) → has_length h ≡ true → h.version ≡ 3 → 104 ≤ h.header_length
length_late h is three = grind (arith, nat_tests)

-- where a backing format was found
room : (head : List ℕ) (h : Header) (found : Option (ℕ × Format)) → h.header_length % 8 ≡ 0 → last_format head (extensions_at head h.header_length) ≡ Ok found
    → IfSome (option_map (λ f. f.0) found) (λ at. (h.header_length ≤ at) × (at + 16 ≤ 512))
room head h None eight e = tt
room head h (Some g) eight e =
    let s = formats_stand (length head) head h.header_length g eight e in
    (omega (arith, s.0), omega (arith, s.1, s.2))

format_fault : (h : Header) (found : Option (ℕ × Format)) → field_fault (with_format h found) ≡ field_fault h
unfolding field_fault
format_fault h found = refl

pub fine_ok : (h g : Header) (fault : Option LayerFault) → elim fault as (λ _. Result Header LayerFault) [ None ↦ Ok h | Some f ↦ Err f ] ≡ Ok g → (fault ≡ None) × (h ≡ g)
fine_ok h g None e = (refl, cc)
fine_ok h g (Some f) e = absurd cc

pub sized_ok : (h g : Header) (b : Bool) → cond b (Err (Size h.size)) (Ok h) ≡ Ok g → (b ≡ false) × (h ≡ g)
sized_ok h g true e = absurd cc
sized_ok h g false e = (refl, cc)

found_header : (bytes : List ℕ) (found : Option (ℕ × Format)) → IsBytes bytes → field_fault (fields_of bytes) ≡ None
    → shape_of (take (head_size (fields_of bytes).cluster_bits) bytes) (fields_of bytes) ≡ Ok found
    → (fields_of bytes).size ≤ mapped (fields_of bytes)
    → IsHeader (with_format (fields_of bytes) found)
found_header bytes found fits fine shape fit =
    let h = fields_of bytes in
    let parts = shape_parts (take (head_size h.cluster_bits) bytes) h found shape in
    let early = fields_early bytes in
    let eight = length_eight h parts.0 (λ two. (early two).2) in
    record {
      both_fit = (fields_fit bytes fits).0;
      later_fit = (fields_fit bytes fits).1;
      no_fault = format_fault h found ∙ fine;
      early = early;
      late = length_late h parts.0;
      named = fields_named bytes;
      room = room (take (head_size h.cluster_bits) bytes) h found eight parts.1;
      mapped = fit;
    }

is_header : (bytes : List ℕ) (g : Header) → IsBytes bytes → header_of bytes ≡ Ok g → IsHeader g
unfolding header_of
is_header bytes g fits e = go (ltb (length bytes) 512) e
  where
    go : (b : Bool) → cond b (Err Short) (fine_fields (fields_of bytes) >>= λ h. shape_of (take (head_size h.cluster_bits) bytes) h >>= λ found. sized (with_format h found)) ≡ Ok g → IsHeader g
    go true e = absurd cc
    go false e =
        let a = bind_ok (fine_fields (fields_of bytes)) (λ h. shape_of (take (head_size h.cluster_bits) bytes) h >>= λ found. sized (with_format h found)) g e in
        let fine = fine_ok (fields_of bytes) a.0 (field_fault (fields_of bytes)) a.1 in
        let e' = subst (λ (h : Header). (shape_of (take (head_size h.cluster_bits) bytes) h >>= λ found. sized (with_format h found)) ≡ Ok g) (sym fine.1) a.2 in
        let h = fields_of bytes in
        let b = bind_ok (shape_of (take (head_size h.cluster_bits) bytes) h) (λ found. sized (with_format h found)) g e' in
        let c = sized_ok (with_format h b.0) g (ltb (mapped h) h.size) b.2 in
        subst (λ (x : Header). IsHeader x) c.1 (found_header bytes b.0 fits fine.0 b.1 (ltb-false (mapped h) h.size c.0))

pub read_is_header : (bytes : List ℕ) (r : Result Header LayerFault) → IsBytes bytes → r ≡ header_of bytes → IfOk r IsHeader
read_is_header bytes (Ok h) fits e = is_header bytes h fits (sym e)
read_is_header bytes (Err f) fits e = tt
