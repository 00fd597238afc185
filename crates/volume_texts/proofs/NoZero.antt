-- The text of a legible record has no zero byte.
use Rattle.std.proofs.Common.{◌≡◌, ◌==◌, ◌⊎◌, inl, inr, ℕ, ◌/◌, ◌^◌, ◌<◌, Bool, true, false, List, [], ◌∷◌, ◌++◌, get_or, refl, arith, codes, decimal, ltb}
use Rattle.std.specs.Char.{is_ascii_digit}
use Rattle.std.specs.List.{list_all}
use Rattle.std.proofs.lemmas.Bool.Decides.{nat_tests}
use Rattle.std.proofs.lemmas.Fmt.{digits_decimal}
use Rattle.std.proofs.lemmas.List.Elements.{All-nil, All-cons, All-append, All-from_get_or}
use Rattle.std.proofs.lemmas.List.Sums.{AllPass-from_list_all}
use Rattle.decimal_numbers.proofs.NumberLemmas.{own}
use Rattle.sd_names.specs.Id.{id_text}
use Rattle.sd_names.specs.Key.{key_name}
use Rattle.sd_names.specs.declared.fault.Key.{Key}
use Rattle.sd_names.specs.declared.fault.Key.TheVariants as key
use Rattle.sd_names.specs.declared.kinds.AllocKind.{AllocKind}
use Rattle.sd_names.specs.declared.kinds.AllocKind.TheVariants.{Sparse, Preallocated}
use Rattle.sd_names.specs.declared.kinds.Format.{Format}
use Rattle.sd_names.specs.declared.kinds.Format.TheVariants.{Raw, Cow}
use Rattle.sd_names.specs.declared.kinds.Legality.{Legality}
use Rattle.sd_names.specs.declared.kinds.Legality.TheVariants.{Legal, Illegal}
use Rattle.sd_names.specs.declared.kinds.VolType.{VolType}
use Rattle.sd_names.specs.declared.kinds.VolType.TheVariants.{Leaf, Internal}
use Rattle.sd_names.proofs.IdLemmas.{id_text-length, id_text-apart}
use Rattle.kv_text.specs.Text.{line}
use Rattle.volume_meta.specs.Text.{cap_line, first_lines, format_text, kind_text, last_lines, legality_text, line_of, merged_line, mtime_line, size_line, volume_text, voltype_text}
use Rattle.volume_meta.specs.declared.record.VolumeRecord.{VolumeRecord}
use Rattle.volume_texts.specs.Legible.{IsLegible}
use Rattle.whole_file.specs.Text.{HasNoZero}

positive : (c : ℕ) → ltb 0 c ≡ true → 0 < c
positive c h = grind (arith, nat_tests)

-- bytes that are tested one by one
pub plain : (bytes : List ℕ) → list_all (λ c. ltb 0 c) bytes ≡ true → HasNoZero bytes
plain bytes h =
    let each = AllPass-from_list_all (λ c. ltb 0 c) bytes h in
    λ k d within. positive (get_or bytes k d) (each k d within)

nothing : HasNoZero []
nothing = All-nil (λ b. 0 < b)

both : (a b : List ℕ) → HasNoZero a → HasNoZero b → HasNoZero (a ++ b)
both a b x y = All-append (λ c. 0 < c) a b x y

digit : (c : ℕ) → is_ascii_digit c ≡ true → 0 < c
digit c h = grind (arith, nat_tests)

number : (n : ℕ) → n < 2 ^ 64 → HasNoZero (decimal n)
number n h =
    let digits = AllPass-from_list_all is_ascii_digit (decimal n) (digits_decimal own n h) in
    λ k d within. digit (get_or (decimal n) k d) (digits k d within)

apart : (c : ℕ) → (47 < c) ⊎ (c ≡ 45) → 0 < c
apart c (inl h) = omega (arith, h)
apart c (inr h) = omega (arith, h)

id : (bytes : List ℕ) → HasNoZero (id_text bytes)
id bytes =
    All-from_get_or (λ (c : ℕ). 0 < c) (id_text bytes) 0
    (λ k within. apart (get_or (id_text bytes) k 0) (id_text-apart bytes k (rw (← id_text-length bytes) within)))

line_no_zero : (key value : List ℕ) → HasNoZero key → HasNoZero value → HasNoZero (line key value)
line_no_zero key value k v =
    both (key ++ 61 ∷ value) (10 ∷ []) (both key (61 ∷ value) k (All-cons (λ b. 0 < b) 61 value (omega arith) v)) (plain (10 ∷ []) refl)

of_key : (k : Key) (value : List ℕ) → HasNoZero (key_name k) → HasNoZero value → HasNoZero (line_of k value)
of_key k value name v = line_no_zero (key_name k) value name v

format : (f : Format) → HasNoZero (format_text f)
format Raw = plain (codes "RAW") refl
format Cow = plain (codes "COW") refl

legality : (l : Legality) → HasNoZero (legality_text l)
legality Legal = plain (codes "LEGAL") refl
legality Illegal = plain (codes "ILLEGAL") refl

kind : (k : AllocKind) → HasNoZero (kind_text k)
kind Sparse = plain (codes "SPARSE") refl
kind Preallocated = plain (codes "PREALLOCATED") refl

voltype : (v : VolType) → HasNoZero (voltype_text v)
voltype Leaf = plain (codes "LEAF") refl
voltype Internal = plain (codes "INTERNAL") refl

cap : (five : Bool) (n : ℕ) → n < 2 ^ 64 → HasNoZero (cap_line five n)
cap true n h = of_key key.Cap (decimal n) (plain (key_name key.Cap) refl) (number n h)
cap false n h = nothing

merged : (m : Bool) → HasNoZero (merged_line m)
merged true = of_key key.Merged (codes "TRUE") (plain (key_name key.Merged) refl) (plain (codes "TRUE") refl)
merged false = nothing

mtime : (five : Bool) → HasNoZero (mtime_line five)
mtime true = nothing
mtime false = of_key key.Mtime (codes "0") (plain (key_name key.Mtime) refl) (plain (codes "0") refl)

size : (five : Bool) (n : ℕ) → n < 2 ^ 64 → HasNoZero (size_line five n)
size true n h = nothing
size false n h = of_key key.Size (decimal (n / 512)) (plain (key_name key.Size) refl) (number (n / 512) (omega (arith, h)))

seven : (a b c d e f g : List ℕ) → HasNoZero a → HasNoZero b → HasNoZero c → HasNoZero d → HasNoZero e → HasNoZero f → HasNoZero g → HasNoZero (a ++ b ++ c ++ d ++ e ++ f ++ g)
seven a b c d e f g x y z u v w t =
    let two = both a b x y in
    let three = both (a ++ b) c two z in
    let four = both (a ++ b ++ c) d three u in
    let five = both (a ++ b ++ c ++ d) e four v in
    let six = both (a ++ b ++ c ++ d ++ e) f five w in
    both (a ++ b ++ c ++ d ++ e ++ f) g six t

module _ (r : VolumeRecord) (is : IsLegible r) where
  low : r.capacity < 2 ^ 64
  low = omega (arith, is.valid.capacity.most)

  first : (five : Bool) → HasNoZero (first_lines five r)
  unfolding first_lines
  first five =
      seven (cap_line five r.capacity) (line_of key.Ctime (decimal r.ctime)) (line_of key.Description r.description) (line_of key.DiskType r.disk_type) (line_of key.Domain (id_text r.domain.0)) (line_of key.Format (format_text r.format)) (line_of key.Gen (decimal r.generation))
      (cap five r.capacity low)
      (of_key key.Ctime (decimal r.ctime) (plain (key_name key.Ctime) refl) (number r.ctime is.valid.ctime))
      (of_key key.Description r.description (plain (key_name key.Description) refl) is.description)
      (of_key key.DiskType r.disk_type (plain (key_name key.DiskType) refl) is.disk_type)
      (of_key key.Domain (id_text r.domain.0) (plain (key_name key.Domain) refl) (id r.domain.0))
      (of_key key.Format (format_text r.format) (plain (key_name key.Format) refl) (format r.format))
      (of_key key.Gen (decimal r.generation) (plain (key_name key.Gen) refl) (number r.generation (omega (arith, is.valid.generation))))

  last : (five : Bool) → HasNoZero (last_lines five r)
  unfolding last_lines
  last five =
      let front = seven (line_of key.Image (id_text r.image.0)) (line_of key.Legality (legality_text r.legality)) (merged_line r.merged) (mtime_line five) (line_of key.Puuid (id_text r.parent.0)) (size_line five r.capacity) (line_of key.Alloc (kind_text r.kind))
      (of_key key.Image (id_text r.image.0) (plain (key_name key.Image) refl) (id r.image.0))
      (of_key key.Legality (legality_text r.legality) (plain (key_name key.Legality) refl) (legality r.legality))
      (merged r.merged)
      (mtime five)
      (of_key key.Puuid (id_text r.parent.0) (plain (key_name key.Puuid) refl) (id r.parent.0))
      (size five r.capacity low)
      (of_key key.Alloc (kind_text r.kind) (plain (key_name key.Alloc) refl) (kind r.kind)) in
      both (line_of key.Image (id_text r.image.0) ++ line_of key.Legality (legality_text r.legality) ++ merged_line r.merged ++ mtime_line five ++ line_of key.Puuid (id_text r.parent.0) ++ size_line five r.capacity ++ line_of key.Alloc (kind_text r.kind)) (line_of key.VolType (voltype_text r.voltype)) front
      (of_key key.VolType (voltype_text r.voltype) (plain (key_name key.VolType) refl) (voltype r.voltype))

  pub text_no_zero : (version : ℕ) → HasNoZero (volume_text version r)
  unfolding volume_text
  text_no_zero version =
      both (first_lines (version == 5) r ++ last_lines (version == 5) r) (codes "EOF\n") (both (first_lines (version == 5) r) (last_lines (version == 5) r) (first (version == 5)) (last (version == 5))) (plain (codes "EOF\n") refl)
