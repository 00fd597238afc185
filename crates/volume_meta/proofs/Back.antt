-- The text of a valid record, read again.
use Rattle.std.proofs.Common.{◌≡◌, ◌==◌, not, ℕ, ◌*◌, ◌/◌, ◌%◌, ◌^◌, ◌≤◌, Bool, true, false, cond, List, [], ◌∷◌, ◌++◌, length, refl, ap, ◌∙◌, arith, append_assoc, length-append, All, codes, decimal, Some, None, Ok, le-leb, eq-eqb}
use Rattle.std.specs.List.{filter_map}
use Rattle.std.specs.Result.{result_ok}
use Rattle.std.proofs.lemmas.List.{append-nil}
use Rattle.std.proofs.lemmas.List.Elements.{All-from_recursion}
use Rattle.sd_names.specs.Id.{id_text}
use Rattle.sd_names.specs.Key.{key_name}
use Rattle.sd_names.specs.declared.fault.Key.{Key}
use Rattle.sd_names.specs.declared.fault.Key.TheVariants as key
use Rattle.sd_names.specs.declared.kinds.AllocKind.{AllocKind}
use Rattle.sd_names.specs.declared.kinds.AllocKind.TheVariants.{Sparse, Preallocated}
use Rattle.sd_names.specs.declared.kinds.Format.{Format}
use Rattle.sd_names.specs.declared.kinds.Format.TheVariants.{Raw, Cow}
use Rattle.sd_names.specs.declared.kinds.Legality.{Legality}
use Rattle.sd_names.specs.declared.kinds.Legality.TheVariants.{Legal, Illegal}
use Rattle.sd_names.specs.declared.kinds.VolType.{VolType}
use Rattle.sd_names.specs.declared.kinds.VolType.TheVariants.{Leaf, Internal}
use Rattle.sd_names.proofs.IdLemmas.{id_text-length}
use Rattle.kv_text.specs.Lookup.{value_of}
use Rattle.kv_text.specs.Text.{KeyValue, IsOneLine, IsWritable, pairs, text_of}
use Rattle.kv_text.proofs.Line.{total, length-text_of}
use Rattle.kv_text.proofs.ReadBack.{items_closed, eof_closed, no_bad_line, all_pairs}
use Rattle.decimal_numbers.proofs.NumberLemmas.{number_of-decimal, decimal_short}
use Rattle.kv_text.proofs.ValuesBack.{decimal_one_line, id_of-id_text, this_id-id_text, id_one_line, description_back}
use Rattle.kv_text.specs.Keys.{first_missing, optional, shape_fault, value}
use Rattle.volume_meta.specs.Read.{fields_of, needed_keys, read_volume, with_fault}
use Rattle.volume_meta.specs.Text.{cap_line, line_of, merged_line, mtime_line, size_line, first_lines, format_text, kind_text, last_lines, legality_text, volume_text, voltype_text}
use Rattle.volume_meta.specs.Valid.{IsValid, MayBeMerged}
use Rattle.volume_meta.specs.Values.{capacity_of, disk_type_of, format_of, generation_of, kind_of, legality_of, merged_of, size_of, voltype_of}
use Rattle.volume_meta.specs.declared.record.VolumeRecord.{VolumeRecord}

abbrev pair_of : Key → List ℕ → KeyValue
pair_of k v = record { key = key_name k; value = v }

-- a pair that is written or not
abbrev given : Bool → KeyValue → List KeyValue → List KeyValue
given true p ps = p ∷ ps
given false p ps = ps

-- the pairs of a text
abbrev volume_pairs : Bool → Bool → VolumeRecord → List KeyValue
volume_pairs five merged r =
    given five (pair_of key.Cap (decimal r.capacity))
    (pair_of key.Ctime (decimal r.ctime)
    ∷ pair_of key.Description r.description
    ∷ pair_of key.DiskType r.disk_type
    ∷ pair_of key.Domain (id_text r.domain.0)
    ∷ pair_of key.Format (format_text r.format)
    ∷ pair_of key.Gen (decimal r.generation)
    ∷ pair_of key.Image (id_text r.image.0)
    ∷ pair_of key.Legality (legality_text r.legality)
    ∷ given merged (pair_of key.Merged (codes "TRUE"))
    (given (not five) (pair_of key.Mtime (codes "0"))
    (pair_of key.Puuid (id_text r.parent.0)
    ∷ given (not five) (pair_of key.Size (decimal (r.capacity / 512)))
    (pair_of key.Alloc (kind_text r.kind)
    ∷ pair_of key.VolType (voltype_text r.voltype)
    ∷ []))))

-- fifteen parts, one behind the other
joined : (cap a b c d e f g h m t p s k v : List ℕ) → ((((((cap ++ a) ++ b) ++ c) ++ d) ++ e) ++ f) ++ (((((((g ++ h) ++ m) ++ t) ++ p) ++ s) ++ k) ++ v) ≡ (cap ++ (a ++ (b ++ (c ++ (d ++ (e ++ (f ++ (g ++ (h ++ (m ++ (t ++ (p ++ (s ++ (k ++ (v ++ [])))))))))))))))
joined cap a b c d e f g h m t p s k v = simp (append_assoc, append-nil)

-- the lines of a text, one behind the other
abbrev flat : Bool → Bool → VolumeRecord → List ℕ
flat five merged r = (cap_line five r.capacity ++ (line_of key.Ctime (decimal r.ctime) ++ (line_of key.Description r.description ++ (line_of key.DiskType r.disk_type ++ (line_of key.Domain (id_text r.domain.0) ++ (line_of key.Format (format_text r.format) ++ (line_of key.Gen (decimal r.generation) ++ (line_of key.Image (id_text r.image.0) ++ (line_of key.Legality (legality_text r.legality) ++ (merged_line merged ++ (mtime_line five ++ (line_of key.Puuid (id_text r.parent.0) ++ (size_line five r.capacity ++ (line_of key.Alloc (kind_text r.kind) ++ (line_of key.VolType (voltype_text r.voltype) ++ [])))))))))))))))

flat_lines : (five : Bool) (r : VolumeRecord) → first_lines five r ++ last_lines five r ≡ flat five r.merged r
unfolding first_lines last_lines
flat_lines five r = joined (cap_line five r.capacity) (line_of key.Ctime (decimal r.ctime)) (line_of key.Description r.description) (line_of key.DiskType r.disk_type) (line_of key.Domain (id_text r.domain.0)) (line_of key.Format (format_text r.format)) (line_of key.Gen (decimal r.generation)) (line_of key.Image (id_text r.image.0)) (line_of key.Legality (legality_text r.legality)) (merged_line r.merged) (mtime_line five) (line_of key.Puuid (id_text r.parent.0)) (size_line five r.capacity) (line_of key.Alloc (kind_text r.kind)) (line_of key.VolType (voltype_text r.voltype))

-- they are the lines of the pairs
flat_pairs : (five merged : Bool) (r : VolumeRecord) → flat five merged r ≡ text_of (volume_pairs five merged r)
flat_pairs true true r = refl
flat_pairs true false r = refl
flat_pairs false true r = refl
flat_pairs false false r = refl

-- what the values of written keys mean
capacity_back : (n : ℕ) → n % 512 ≡ 0 → 512 ≤ n → n ≤ 2 ^ 40 → capacity_of (decimal n) ≡ Some n
unfolding capacity_of
capacity_back n blocks least most =
    rw (number_of-decimal n (omega arith), eq-eqb (n % 512) 0 blocks, le-leb 512 n least, le-leb n (2 ^ 40) most) refl

size_back : (n : ℕ) → n % 512 ≡ 0 → 512 ≤ n → n ≤ 2 ^ 40 → size_of (decimal (n / 512)) ≡ Some n
unfolding size_of
size_back n blocks least most =
    let some : 1 ≤ n / 512 = omega arith in
    let few : n / 512 ≤ 2 ^ 31 = omega arith in
    let whole : n / 512 * 512 ≡ n = omega arith in
    rw (number_of-decimal (n / 512) (omega arith), le-leb 1 (n / 512) some, le-leb (n / 512) (2 ^ 31) few, whole) refl

generation_back : (n : ℕ) → n ≤ 999 → generation_of (decimal n) ≡ Some n
unfolding generation_of
generation_back n h = rw (number_of-decimal n (omega arith), le-leb n 999 h) refl

disk_type_back : (d : List ℕ) → 1 ≤ length d → length d ≤ 16 → disk_type_of d ≡ Some d
unfolding disk_type_of
disk_type_back d some h = rw (le-leb 1 (length d) some, le-leb (length d) 16 h) refl

format_back : (f : Format) → format_of (format_text f) ≡ Some f
unfolding format_of
format_back Raw = refl
format_back Cow = refl

legality_back : (l : Legality) → legality_of (legality_text l) ≡ Some l
unfolding legality_of
legality_back Legal = refl
legality_back Illegal = refl

kind_back : (k : AllocKind) → kind_of (kind_text k) ≡ Some k
unfolding kind_of
kind_back Sparse = refl
kind_back Preallocated = refl

voltype_back : (v : VolType) → voltype_of (voltype_text v) ≡ Some v
unfolding voltype_of
voltype_back Leaf = refl
voltype_back Internal = refl

merged_back : (l : Legality) (merged : Bool) → MayBeMerged l merged → optional key.Merged false (merged_of l) (cond merged (Some (codes "TRUE")) None) ≡ Ok merged
unfolding merged_of
merged_back Legal true h = absurd (cc)
merged_back Legal false h = refl
merged_back Illegal true h = refl
merged_back Illegal false h = refl

-- the values that a text of these pairs has
record Says (five : Bool) (r : VolumeRecord) (ps : List KeyValue) : Type 0 where
  cap : value key.Cap ps ≡ cond five (Some (decimal r.capacity)) None
  ctime : value key.Ctime ps ≡ Some (decimal r.ctime)
  description : value key.Description ps ≡ Some r.description
  disk_type : value key.DiskType ps ≡ Some r.disk_type
  domain : value key.Domain ps ≡ Some (id_text r.domain.0)
  format : value key.Format ps ≡ Some (format_text r.format)
  generation : value key.Gen ps ≡ Some (decimal r.generation)
  image : value key.Image ps ≡ Some (id_text r.image.0)
  legality : value key.Legality ps ≡ Some (legality_text r.legality)
  merged : value key.Merged ps ≡ cond r.merged (Some (codes "TRUE")) None
  parent : value key.Puuid ps ≡ Some (id_text r.parent.0)
  size : value key.Size ps ≡ cond five None (Some (decimal (r.capacity / 512)))
  kind : value key.Alloc ps ≡ Some (kind_text r.kind)
  voltype : value key.VolType ps ≡ Some (voltype_text r.voltype)

says : (five merged : Bool) (r : VolumeRecord) → r.merged ≡ merged → Says five r (volume_pairs five merged r)
unfolding value_of
says true true r e = record { cap = refl; ctime = refl; description = refl; disk_type = refl; domain = refl; format = refl; generation = refl; image = refl; legality = refl; merged = rw e refl; parent = refl; size = refl; kind = refl; voltype = refl }
says true false r e = record { cap = refl; ctime = refl; description = refl; disk_type = refl; domain = refl; format = refl; generation = refl; image = refl; legality = refl; merged = rw e refl; parent = refl; size = refl; kind = refl; voltype = refl }
says false true r e = record { cap = refl; ctime = refl; description = refl; disk_type = refl; domain = refl; format = refl; generation = refl; image = refl; legality = refl; merged = rw e refl; parent = refl; size = refl; kind = refl; voltype = refl }
says false false r e = record { cap = refl; ctime = refl; description = refl; disk_type = refl; domain = refl; format = refl; generation = refl; image = refl; legality = refl; merged = rw e refl; parent = refl; size = refl; kind = refl; voltype = refl }

module _ (r : VolumeRecord) (ps : List KeyValue) (valid : IsValid r) where
  none_missing : (five : Bool) → Says five r ps → first_missing ps (needed_keys five) ≡ None
  unfolding first_missing
  none_missing true s = rw (s.cap, s.domain, s.format, s.image, s.legality, s.parent, s.kind, s.voltype) refl
  none_missing false s = rw (s.domain, s.format, s.image, s.legality, s.parent, s.size, s.kind, s.voltype) refl

  fields_back : (five : Bool) → Says five r ps → fields_of five r.domain r.image ps ≡ Ok r
  unfolding fields_of
  fields_back true s = rw (s.cap, capacity_back r.capacity valid.capacity.blocks valid.capacity.least valid.capacity.most, s.ctime, number_of-decimal r.ctime valid.ctime, s.description, description_back r.description valid.description, s.disk_type, disk_type_back r.disk_type valid.disk_type_some valid.disk_type, s.domain, this_id-id_text r.domain valid.domain, s.format, format_back r.format, s.generation, generation_back r.generation valid.generation, s.image, this_id-id_text r.image valid.image, s.legality, legality_back r.legality, s.merged, merged_back r.legality r.merged valid.merged, s.parent, id_of-id_text r.parent.0 valid.parent, s.kind, kind_back r.kind, s.voltype, voltype_back r.voltype) refl
  fields_back false s = rw (s.ctime, number_of-decimal r.ctime valid.ctime, s.description, description_back r.description valid.description, s.disk_type, disk_type_back r.disk_type valid.disk_type_some valid.disk_type, s.domain, this_id-id_text r.domain valid.domain, s.format, format_back r.format, s.generation, generation_back r.generation valid.generation, s.image, this_id-id_text r.image valid.image, s.legality, legality_back r.legality, s.merged, merged_back r.legality r.merged valid.merged, s.parent, id_of-id_text r.parent.0 valid.parent, s.size, size_back r.capacity valid.capacity.blocks valid.capacity.least valid.capacity.most, s.kind, kind_back r.kind, s.voltype, voltype_back r.voltype) refl

kind_line : (k : AllocKind) → IsOneLine (kind_text k)
kind_line Sparse = refl
kind_line Preallocated = refl

voltype_line : (v : VolType) → IsOneLine (voltype_text v)
voltype_line Leaf = refl
voltype_line Internal = refl

legality_line : (l : Legality) → IsOneLine (legality_text l)
legality_line Legal = refl
legality_line Illegal = refl

format_line : (f : Format) → IsOneLine (format_text f)
format_line Raw = refl
format_line Cow = refl

-- no value has a line feed
all_writable : (five merged : Bool) (r : VolumeRecord) → IsValid r → All IsWritable (volume_pairs five merged r)
all_writable true true r valid =
    let capacity = decimal_one_line r.capacity (omega (arith, valid.capacity.most)) in
    let size = decimal_one_line (r.capacity / 512) (omega (arith, valid.capacity.most)) in
    let ctime = decimal_one_line r.ctime valid.ctime in
    let generation = decimal_one_line r.generation (omega (arith, valid.generation)) in
    All-from_recursion IsWritable (volume_pairs true true r) (record { key = refl; divided = refl; value = capacity }, (record { key = refl; divided = refl; value = ctime }, (record { key = refl; divided = refl; value = valid.description_line }, (record { key = refl; divided = refl; value = valid.disk_type_line }, (record { key = refl; divided = refl; value = id_one_line r.domain.0 }, (record { key = refl; divided = refl; value = format_line r.format }, (record { key = refl; divided = refl; value = generation }, (record { key = refl; divided = refl; value = id_one_line r.image.0 }, (record { key = refl; divided = refl; value = legality_line r.legality }, (record { key = refl; divided = refl; value = refl }, (record { key = refl; divided = refl; value = id_one_line r.parent.0 }, (record { key = refl; divided = refl; value = kind_line r.kind }, (record { key = refl; divided = refl; value = voltype_line r.voltype }, tt)))))))))))))
all_writable true false r valid =
    let capacity = decimal_one_line r.capacity (omega (arith, valid.capacity.most)) in
    let size = decimal_one_line (r.capacity / 512) (omega (arith, valid.capacity.most)) in
    let ctime = decimal_one_line r.ctime valid.ctime in
    let generation = decimal_one_line r.generation (omega (arith, valid.generation)) in
    All-from_recursion IsWritable (volume_pairs true false r) (record { key = refl; divided = refl; value = capacity }, (record { key = refl; divided = refl; value = ctime }, (record { key = refl; divided = refl; value = valid.description_line }, (record { key = refl; divided = refl; value = valid.disk_type_line }, (record { key = refl; divided = refl; value = id_one_line r.domain.0 }, (record { key = refl; divided = refl; value = format_line r.format }, (record { key = refl; divided = refl; value = generation }, (record { key = refl; divided = refl; value = id_one_line r.image.0 }, (record { key = refl; divided = refl; value = legality_line r.legality }, (record { key = refl; divided = refl; value = id_one_line r.parent.0 }, (record { key = refl; divided = refl; value = kind_line r.kind }, (record { key = refl; divided = refl; value = voltype_line r.voltype }, tt))))))))))))
all_writable false true r valid =
    let capacity = decimal_one_line r.capacity (omega (arith, valid.capacity.most)) in
    let size = decimal_one_line (r.capacity / 512) (omega (arith, valid.capacity.most)) in
    let ctime = decimal_one_line r.ctime valid.ctime in
    let generation = decimal_one_line r.generation (omega (arith, valid.generation)) in
    All-from_recursion IsWritable (volume_pairs false true r) (record { key = refl; divided = refl; value = ctime }, (record { key = refl; divided = refl; value = valid.description_line }, (record { key = refl; divided = refl; value = valid.disk_type_line }, (record { key = refl; divided = refl; value = id_one_line r.domain.0 }, (record { key = refl; divided = refl; value = format_line r.format }, (record { key = refl; divided = refl; value = generation }, (record { key = refl; divided = refl; value = id_one_line r.image.0 }, (record { key = refl; divided = refl; value = legality_line r.legality }, (record { key = refl; divided = refl; value = refl }, (record { key = refl; divided = refl; value = refl }, (record { key = refl; divided = refl; value = id_one_line r.parent.0 }, (record { key = refl; divided = refl; value = size }, (record { key = refl; divided = refl; value = kind_line r.kind }, (record { key = refl; divided = refl; value = voltype_line r.voltype }, tt))))))))))))))
all_writable false false r valid =
    let capacity = decimal_one_line r.capacity (omega (arith, valid.capacity.most)) in
    let size = decimal_one_line (r.capacity / 512) (omega (arith, valid.capacity.most)) in
    let ctime = decimal_one_line r.ctime valid.ctime in
    let generation = decimal_one_line r.generation (omega (arith, valid.generation)) in
    All-from_recursion IsWritable (volume_pairs false false r) (record { key = refl; divided = refl; value = ctime }, (record { key = refl; divided = refl; value = valid.description_line }, (record { key = refl; divided = refl; value = valid.disk_type_line }, (record { key = refl; divided = refl; value = id_one_line r.domain.0 }, (record { key = refl; divided = refl; value = format_line r.format }, (record { key = refl; divided = refl; value = generation }, (record { key = refl; divided = refl; value = id_one_line r.image.0 }, (record { key = refl; divided = refl; value = legality_line r.legality }, (record { key = refl; divided = refl; value = refl }, (record { key = refl; divided = refl; value = id_one_line r.parent.0 }, (record { key = refl; divided = refl; value = size }, (record { key = refl; divided = refl; value = kind_line r.kind }, (record { key = refl; divided = refl; value = voltype_line r.voltype }, tt)))))))))))))

-- the whole text
text_is : (version : ℕ) (r : VolumeRecord) → volume_text version r ≡ text_of (volume_pairs (version == 5) r.merged r) ++ codes "EOF\n"
unfolding volume_text
text_is version r = ap (λ (l : List ℕ). l ++ codes "EOF\n") (flat_lines (version == 5) r ∙ flat_pairs (version == 5) r.merged r)

kind_short : (k : AllocKind) → length (kind_text k) ≤ 12
kind_short Sparse = omega arith
kind_short Preallocated = omega arith

voltype_short : (v : VolType) → length (voltype_text v) ≤ 8
voltype_short Leaf = omega arith
voltype_short Internal = omega arith

legality_short : (l : Legality) → length (legality_text l) ≤ 7
legality_short Legal = omega arith
legality_short Illegal = omega arith

format_short : (f : Format) → length (format_text f) ≤ 3
format_short Raw = omega arith
format_short Cow = omega arith

-- the lengths of values
record Short (r : VolumeRecord) : Type 0 where
  capacity : length (decimal r.capacity) ≤ 20
  size : length (decimal (r.capacity / 512)) ≤ 20
  ctime : length (decimal r.ctime) ≤ 20
  generation : length (decimal r.generation) ≤ 20
  description : length r.description ≤ 4096
  disk_type : length r.disk_type ≤ 16
  domain : length (id_text r.domain.0) ≡ 36
  image : length (id_text r.image.0) ≡ 36
  parent : length (id_text r.parent.0) ≡ 36
  format : length (format_text r.format) ≤ 3
  legality : length (legality_text r.legality) ≤ 7
  kind : length (kind_text r.kind) ≤ 12
  voltype : length (voltype_text r.voltype) ≤ 8

short : (r : VolumeRecord) → IsValid r → Short r
short r valid = record {
  capacity = decimal_short r.capacity (omega (arith, valid.capacity.most));
  size = decimal_short (r.capacity / 512) (omega (arith, valid.capacity.most));
  ctime = decimal_short r.ctime valid.ctime;
  generation = decimal_short r.generation (omega (arith, valid.generation));
  description = valid.description;
  disk_type = valid.disk_type;
  domain = id_text-length r.domain.0;
  image = id_text-length r.image.0;
  parent = id_text-length r.parent.0;
  format = format_short r.format;
  legality = legality_short r.legality;
  kind = kind_short r.kind;
  voltype = voltype_short r.voltype;
}

few : (five merged : Bool) (r : VolumeRecord) → Short r → total (volume_pairs five merged r) ≤ 8000
few true true r s = omega (arith, s)
few true false r s = omega (arith, s)
few false true r s = omega (arith, s)
few false false r s = omega (arith, s)

pub is_short : (version : ℕ) (r : VolumeRecord) → IsValid r → length (volume_text version r) ≤ 8192
is_short version r valid =
    let ps = volume_pairs (version == 5) r.merged r in
    let whole : length (volume_text version r) ≡ length (text_of ps ++ codes "EOF\n") = ap length (text_is version r) in
    omega (arith, whole, length-append (text_of ps) (codes "EOF\n"), length-text_of ps, few (version == 5) r.merged r (short r valid))

pub reads_back : (version : ℕ) (r : VolumeRecord) → IsValid r → read_volume version r.domain r.image (volume_text version r) ≡ Ok r
unfolding read_volume shape_fault
reads_back version r valid =
    let fits = le-leb (length (volume_text version r)) 8192 (is_short version r valid) in
    let five = version == 5 in
    let ps = volume_pairs five r.merged r in
    let all = all_writable five r.merged r valid in
    let said = says five r.merged r refl in
    let found : pairs (text_of ps ++ codes "EOF\n") ≡ ps = ap (filter_map result_ok) (items_closed ps all) ∙ all_pairs ps in
    rw (fits, text_is version r, eof_closed ps all, found, items_closed ps all, no_bad_line ps, none_missing r ps valid five said) (ap with_fault (fields_back r ps valid five said))
