-- A header that was written is read again.
use Rattle.std.proofs.Common.{◌≡◌, ℕ, ◌+◌, ◌≤◌, ◌⊎◌, inl, inr, Bool, true, false, cond, eqb, ltb, List, ◌++◌, length, take, Option, Some, None, Result, Ok, Err, refl, ◌∙◌, arith}
use Rattle.std.specs.Prelude.{IfSome, not, ◌||◌}
use Rattle.std.specs.Int.{w64, trailing_zeros}
use Rattle.std.proofs.lemmas.Bool.{le-ltb}
use Rattle.std.proofs.lemmas.Bool.Decides.{nat_tests}
use Rattle.std.proofs.lemmas.List.{get_or_append_left, length-append}
use Rattle.sd_names.specs.declared.fault.LayerFault.{LayerFault}
use Rattle.sd_names.specs.declared.fault.LayerFault.TheVariants.{Magic, Version, Bits, Encrypted, Snapshots, Feature, RefcountOrder}
use Rattle.sd_names.specs.declared.kinds.Format.{Format}
use Rattle.qcow_format.specs.declared.header.Header.{Header}
use Rattle.qcow_format.specs.Numbers.{magic}
use Rattle.qcow_format.specs.Bytes.{number}
use Rattle.qcow_format.specs.Header.{fields_of_version_2, fields_of, field_fault, fine_fields, head_size, shape_of, mapped, with_format, header_of}
use Rattle.qcow_format.specs.Written.{version_2_table, version_3_table, puts, format_bytes, put_format, put_fields, written, IsHeader}
use Rattle.qcow_format.proofs.Put.{length-format_bytes, length-put, number-same, number-put_before}
use Rattle.qcow_format.proofs.Table.{Stand, Read, length-puts, number-puts_before, puts_read, Read-same}

-- the header without a backing format
abbrev pub bare : Header → Header
bare h = record h { format_at = None; format = None }

pub stand_2 : (h : Header) → Stand 0 72 (version_2_table h)
stand_2 h = search (arith)

pub stand_3 : (h : Header) → Stand 72 104 (version_3_table h)
stand_3 h = search (arith)

-- the fields of version 2 stand wherever a version is written
read_both : (h : Header) (first : List ℕ) → IsHeader h → 512 ≤ length first → Read (put_fields h first) (version_2_table h)
read_both h first is fits = go (eqb h.version 3)
  where
    two : Read (puts (version_2_table h) first) (version_2_table h)
    two = puts_read 0 72 (version_2_table h) first (stand_2 h) is.both_fit (omega arith)

    go : (b : Bool) → Read (cond b (puts (version_3_table h) (puts (version_2_table h) first)) (puts (version_2_table h) first)) (version_2_table h)
    go true =
        Read-same 0 72 (version_2_table h) (puts (version_2_table h) first) (puts (version_3_table h) (puts (version_2_table h) first)) (stand_2 h)
        (λ n at le. number-puts_before n at 72 104 (version_3_table h) (puts (version_2_table h) first) le (stand_3 h) (omega (arith, length-puts 0 72 (version_2_table h) first (stand_2 h) (omega arith))))
        two
    go false = two

-- those of version 3 where it is written
read_later : (h : Header) (first : List ℕ) → IsHeader h → 512 ≤ length first → h.version ≡ 3 → Read (put_fields h first) (version_3_table h)
read_later h first is fits three =
    let test : eqb h.version 3 ≡ true = rw three refl in
    rw test (puts_read 72 104 (version_3_table h) (puts (version_2_table h) first) (stand_3 h) is.later_fit (omega (arith, length-puts 0 72 (version_2_table h) first (stand_2 h) (omega arith))))

pub length-put_fields : (h : Header) (first : List ℕ) → 512 ≤ length first → length (put_fields h first) ≡ length first
length-put_fields h first fits = go (eqb h.version 3)
  where
    two : length (puts (version_2_table h) first) ≡ length first
    two = length-puts 0 72 (version_2_table h) first (stand_2 h) (omega arith)

    go : (b : Bool) → length (cond b (puts (version_3_table h) (puts (version_2_table h) first)) (puts (version_2_table h) first)) ≡ length first
    go true = length-puts 72 104 (version_3_table h) (puts (version_2_table h) first) (stand_3 h) (omega (arith, two)) ∙ two
    go false = two

-- a backing format changes no number in front of it
number-put_format : (o : Option ℕ) (f : Option Format) (n at end : ℕ) (bytes : List ℕ) → IfSome o (λ k. (end ≤ k) × (k + 16 ≤ 512)) → 512 ≤ length bytes → at + n ≤ end
    → number n at (put_format o f bytes) ≡ number n at bytes
number-put_format (Some k) (Some f) n at end bytes room fits le = number-put_before n at k (format_bytes f) bytes (omega arith) (omega arith)
number-put_format (Some k) None n at end bytes room fits le = refl
number-put_format None f n at end bytes room fits le = refl

length-put_format : (o : Option ℕ) (f : Option Format) (end : ℕ) (bytes : List ℕ) → IfSome o (λ k. (end ≤ k) × (k + 16 ≤ 512)) → 512 ≤ length bytes
    → length (put_format o f bytes) ≡ length bytes
length-put_format (Some k) (Some f) end bytes room fits = length-put k (format_bytes f) bytes (omega (arith, length-format_bytes f))
length-put_format (Some k) None end bytes room fits = refl
length-put_format None f end bytes room fits = refl

-- bytes behind change no number
pub number-append : (n at : ℕ) (xs ys : List ℕ) → at + n ≤ length xs → number n at (xs ++ ys) ≡ number n at xs
number-append n at xs ys le = number-same n at (xs ++ ys) xs (λ k low high. get_or_append_left xs ys 0 k (omega arith))

-- what is written in front of a place is there in the whole
number-written : (h : Header) (first rest : List ℕ) (n at : ℕ) → IsHeader h → length first ≡ 512 → at + n ≤ h.header_length → at + n ≤ 512
    → number n at (written h first ++ rest) ≡ number n at (put_fields h first)
number-written h first rest n at is len le fits =
    let fields = length-put_fields h first (omega arith) in
    let whole = length-put_format h.format_at h.format h.header_length (put_fields h first) is.room (omega arith) in
    number-append n at (written h first) rest (omega arith)
    ∙ number-put_format h.format_at h.format n at h.header_length (put_fields h first) is.room (omega arith) le

-- no test holds where no fault is given
no_test : (a b c d e f g : Bool) (r s t u v w x : LayerFault)
    → cond a (Some r) (cond b (Some s) (cond c (Some t) (cond d (Some u) (cond e (Some v) (cond f (Some w) (cond g (Some x) None)))))) ≡ None
    → (b ≡ false) × (f ≡ false) × (g ≡ false)
no_test true b c d e f g r s t u v w x h = absurd cc
no_test false true c d e f g r s t u v w x h = absurd cc
no_test false false true d e f g r s t u v w x h = absurd cc
no_test false false false true e f g r s t u v w x h = absurd cc
no_test false false false false true f g r s t u v w x h = absurd cc
no_test false false false false false true g r s t u v w x h = absurd cc
no_test false false false false false false true r s t u v w x h = absurd cc
no_test false false false false false false false r s t u v w x h = (refl, refl, refl)

is_version : (v : ℕ) → not (eqb v 2 || eqb v 3) ≡ false → (v ≡ 2) ⊎ (v ≡ 3)
is_version v e = grind (arith, nat_tests)

is_equal : (a b : ℕ) → not (eqb a b) ≡ false → a ≡ b
is_equal a b e = grind (arith, nat_tests)

pub tests : (h : Header) → field_fault h ≡ None
    → ((h.version ≡ 2) ⊎ (h.version ≡ 3)) × (h.incompatible_features ≡ 0) × (h.refcount_order ≡ 4)
unfolding field_fault
tests h e =
    let t = no_test (not (eqb h.magic magic)) (not (eqb h.version 2 || eqb h.version 3)) (ltb h.cluster_bits 12 || ltb 21 h.cluster_bits)
    (not (eqb h.crypt_method 0)) (not (eqb h.nb_snapshots 0)) (not (eqb h.incompatible_features 0)) (not (eqb h.refcount_order 4))
    Magic Version Bits Encrypted Snapshots (Feature (trailing_zeros w64 h.incompatible_features)) RefcountOrder e in
    (is_version h.version t.0, is_equal h.incompatible_features 0 t.1, is_equal h.refcount_order 4 t.2)

fields_again_2 : (h : Header) (bytes : List ℕ) → IsHeader h → h.version ≡ 2 → Read bytes (version_2_table h) → fields_of bytes ≡ bare h
unfolding fields_of fields_of_version_2
fields_again_2 h bytes is two r =
    let t = tests h is.no_fault in
    let e = is.early two in
    rw (r.0, r.1.0, r.1.1.0, r.1.1.1.0, r.1.1.1.1.0, r.1.1.1.1.1.0, r.1.1.1.1.1.1.0, r.1.1.1.1.1.1.1.0, r.1.1.1.1.1.1.1.1.0, r.1.1.1.1.1.1.1.1.1.0, r.1.1.1.1.1.1.1.1.1.1.0, r.1.1.1.1.1.1.1.1.1.1.1.0, r.1.1.1.1.1.1.1.1.1.1.1.1.0, two, t.1, t.2, e.0, e.1, e.2, is.named) refl

fields_again_3 : (h : Header) (bytes : List ℕ) → IsHeader h → h.version ≡ 3 → Read bytes (version_2_table h) → Read bytes (version_3_table h) → fields_of bytes ≡ bare h
unfolding fields_of fields_of_version_2
fields_again_3 h bytes is three r s =
    rw (r.0, r.1.0, r.1.1.0, r.1.1.1.0, r.1.1.1.1.0, r.1.1.1.1.1.0, r.1.1.1.1.1.1.0, r.1.1.1.1.1.1.1.0, r.1.1.1.1.1.1.1.1.0, r.1.1.1.1.1.1.1.1.1.0, r.1.1.1.1.1.1.1.1.1.1.0, r.1.1.1.1.1.1.1.1.1.1.1.0, r.1.1.1.1.1.1.1.1.1.1.1.1.0, s.0, s.1.0, s.1.1.0, s.1.1.1.0, s.1.1.1.1.0, three, is.named) refl

-- enough of the first sector is there, in front of the backing format
whole_2 : (h : Header) (first rest : List ℕ) → IsHeader h → length first ≡ 512 → 72 ≤ h.header_length → Read (written h first ++ rest) (version_2_table h)
whole_2 h first rest is len long =
    Read-same 0 72 (version_2_table h) (put_fields h first) (written h first ++ rest) (stand_2 h)
    (λ n at le. number-written h first rest n at is len (omega arith) (omega arith))
    (read_both h first is (omega arith))

whole_3 : (h : Header) (first rest : List ℕ) → IsHeader h → length first ≡ 512 → h.version ≡ 3 → Read (written h first ++ rest) (version_3_table h)
whole_3 h first rest is len three =
    let long = is.late three in
    Read-same 72 104 (version_3_table h) (put_fields h first) (written h first ++ rest) (stand_3 h)
    (λ n at le. number-written h first rest n at is len (omega arith) (omega arith))
    (read_later h first is (omega arith) three)

fields_again : (h : Header) (first rest : List ℕ) → IsHeader h → length first ≡ 512 → fields_of (written h first ++ rest) ≡ bare h
fields_again h first rest is len = go (tests h is.no_fault).0
  where
    go : (h.version ≡ 2) ⊎ (h.version ≡ 3) → fields_of (written h first ++ rest) ≡ bare h
    go (inl two) = fields_again_2 h (written h first ++ rest) is two (whole_2 h first rest is len (omega (arith, (is.early two).2)))
    go (inr three) = fields_again_3 h (written h first ++ rest) is three (whole_2 h first rest is len (omega (arith, is.late three))) (whole_3 h first rest is len three)

length-whole : (h : Header) (first rest : List ℕ) → IsHeader h → length first ≡ 512 → 512 ≤ length (written h first ++ rest)
length-whole h first rest is len =
    let fields = length-put_fields h first (omega arith) in
    omega (arith, length-append (written h first) rest, length-put_format h.format_at h.format h.header_length (put_fields h first) is.room (omega arith))

-- the tests and the rest of a header don't look at its backing format
bare_fault : (h : Header) → field_fault (bare h) ≡ field_fault h
unfolding field_fault
bare_fault h = refl

is_fine : (h : Header) (fault : Option LayerFault) → fault ≡ None → elim fault as (λ _. Result Header LayerFault) [ None ↦ Ok h | Some f ↦ Err f ] ≡ Ok h
is_fine h None e = refl
is_fine h (Some f) e = absurd cc

bare_fine : (h : Header) → field_fault h ≡ None → fine_fields (bare h) ≡ Ok (bare h)
bare_fine h e = is_fine (bare h) (field_fault (bare h)) (bare_fault h ∙ e)

bare_shape : (head : List ℕ) (h : Header) → shape_of head (bare h) ≡ shape_of head h
unfolding shape_of
bare_shape head h = refl

pub header_again : (h : Header) (first rest : List ℕ) (found : Option (ℕ × Format)) → IsHeader h → length first ≡ 512
    → shape_of (take (head_size h.cluster_bits) (written h first ++ rest)) h ≡ Ok found → with_format h found ≡ h
    → header_of (written h first ++ rest) ≡ Ok h
unfolding header_of
header_again h first rest found is len shape own =
    let bytes = written h first ++ rest in
    let long : ltb (length bytes) 512 ≡ false = le-ltb (length bytes) 512 (length-whole h first rest is len) in
    let fields = fields_again h first rest is len in
    let fine = bare_fine h is.no_fault in
    let head = bare_shape (take (head_size h.cluster_bits) bytes) h ∙ shape in
    let sized : ltb (mapped h) h.size ≡ false = le-ltb (mapped h) h.size is.mapped in
    rw (long, fields, fine, head, own, sized) refl
