-- A record that is read from a text without zero bytes has none, and a legible record's text reads as it.
use Rattle.std.proofs.Common.{◌≡◌, ◌==◌, ◌<◌, ℕ, ◌+◌, subst, Bool, true, false, cond, List, [], ◌∷◌, length, take, refl, ap, ◌∙◌, Option, Some, None, is_some, Result, Ok, Err, All, codes, fold, nat_le, if◌then◌else◌}
use Rattle.std.specs.Prelude.{IfSome, ◌&&◌, option_and_then}
use Rattle.std.specs.List.{filter_map, position, position_or_len, after_first, onto_first}
use Rattle.std.specs.Result.{result_ok}
use Rattle.std.specs.Str.{bytes_eq}
use Rattle.std.proofs.lemmas.List.Elements.{All-nil, All-cons, All-head, All-tail, All-drop}
use Rattle.sd_names.specs.Key.{key_name}
use Rattle.sd_names.specs.declared.fault.Key.{Key}
use Rattle.sd_names.specs.declared.fault.Key.TheVariants as key
use Rattle.sd_names.specs.declared.fault.VolumeFault.TheVariants.{NoEof, TooLong}
use Rattle.sd_names.specs.Id.{id_of}
use Rattle.sd_names.specs.declared.id.Id.{Id}
use Rattle.shared_disk.specs.Content.{Content, File}
use Rattle.sd_names.specs.declared.place.Place.{Place}
use Rattle.chain_model.proofs.Texts.{text_whole}
use Rattle.decimal_numbers.specs.Number.{number_of}
use Rattle.kv_text.specs.Ids.{this_id}
use Rattle.kv_text.specs.Keys.{◌>>=◌, description_of, meant, needed, optional, shape_fault, unless_fault, value}
use Rattle.kv_text.specs.Lookup.{value_of, value_so_far}
use Rattle.kv_text.specs.Text.{KeyValue, has_eof, is_eof, is_equals_sign, is_line_feed, item_of, items_from, lines, next_number, pairs}
use Rattle.kv_text.specs.declared.fault.TextFault.{TextFault}
use Rattle.volume_meta.proofs.Back.{reads_back}
use Rattle.volume_meta.specs.Read.{fields_of, in_five, in_others, needed_keys, read_volume, with_fault}
use Rattle.volume_meta.specs.Text.{volume_text}
use Rattle.volume_meta.specs.Values.{capacity_of, disk_type_of, format_of, generation_of, kind_of, legality_of, merged_of, size_of, voltype_of}
use Rattle.volume_meta.specs.declared.record.VolumeRecord.{VolumeRecord}
use Rattle.whole_file.specs.Text.{HasNoZero, HasText, IsTextFile}
use Rattle.volume_texts.proofs.NoZero.{plain, text_no_zero}
use Rattle.volume_texts.specs.Legible.{HasRecord, IsLegible, IsTextOf}

-- ---- values of a text without zero bytes

onto_plain : (x : ℕ) (parts : List (List ℕ)) → 0 < x → All HasNoZero parts → All HasNoZero (onto_first x parts)
onto_plain x [] some all = All-cons HasNoZero (x ∷ []) [] (All-cons (λ b. 0 < b) x [] some (All-nil (λ b. 0 < b))) (All-nil HasNoZero)
onto_plain x (part ∷ parts) some all =
    All-cons HasNoZero (x ∷ part) parts (All-cons (λ b. 0 < b) x part some (All-head HasNoZero part parts all)) (All-tail HasNoZero part parts all)

lines_plain : (text : List ℕ) → HasNoZero text → All HasNoZero (lines text)
lines_plain [] all = All-cons HasNoZero [] [] (All-nil (λ b. 0 < b)) (All-nil HasNoZero)
lines_plain (x ∷ text) all = cut x (lines text) (is_line_feed x) (All-head (λ b. 0 < b) x text all) (lines_plain text (All-tail (λ b. 0 < b) x text all))
  where
    cut : (x : ℕ) (ls : List (List ℕ)) (b : Bool) → 0 < x → All HasNoZero ls → All HasNoZero (cond b ([] ∷ ls) (onto_first x ls))
    cut x ls true some all = All-cons HasNoZero [] ls (All-nil (λ b. 0 < b)) all
    cut x ls false some all = onto_plain x ls some all

next_value : (key : List ℕ) (found : Option (List ℕ)) (p : KeyValue) → IfSome found HasNoZero → HasNoZero p.value → IfSome (value_so_far key found p) HasNoZero
next_value key found p so_far here = go (bytes_eq p.key key)
  where
    go : (b : Bool) → IfSome (cond b (Some p.value) found) HasNoZero
    go true = here
    go false = so_far

value_from : (key : List ℕ) (ls : List (List ℕ)) → All HasNoZero ls → (number : ℕ) (found : Option (List ℕ)) → IfSome found HasNoZero
    → IfSome (fold (value_so_far key) found (filter_map result_ok (items_from number ls))) HasNoZero
value_from key [] all number found h = h
value_from key (line ∷ more) all number found h =
    let here = All-head HasNoZero line more all in
    at_line key line here number (items_from (next_number number) more) found h
    (value_from key more (All-tail HasNoZero line more all) (next_number number))
  where
    at_line : (key line : List ℕ) → HasNoZero line → (number : ℕ) (is : List (Result KeyValue ℕ)) (found : Option (List ℕ)) → IfSome found HasNoZero
        → ((found : Option (List ℕ)) → IfSome found HasNoZero → IfSome (fold (value_so_far key) found (filter_map result_ok is)) HasNoZero)
        → IfSome (fold (value_so_far key) found (filter_map result_ok (cond (length line == 0) is (cond (is_eof line) [] (item_of number line ∷ is))))) HasNoZero
    at_line key line here number is found h next = empty (length line == 0)
      where
        pair : (b : Bool) → IfSome (fold (value_so_far key) found (filter_map result_ok (cond b (Ok (record { key = take (position_or_len is_equals_sign line) line; value = after_first is_equals_sign line })) (Err number) ∷ is))) HasNoZero
        pair true = next _ (next_value key found (record { key = take (position_or_len is_equals_sign line) line; value = after_first is_equals_sign line }) h (All-drop (λ (b : ℕ). 0 < b) (position_or_len is_equals_sign line + 1) line here))
        pair false = next found h

        eof : (b : Bool) → IfSome (fold (value_so_far key) found (filter_map result_ok (cond b [] (item_of number line ∷ is)))) HasNoZero
        eof true = h
        eof false = pair (is_some (position is_equals_sign line))

        empty : (b : Bool) → IfSome (fold (value_so_far key) found (filter_map result_ok (cond b is (cond (is_eof line) [] (item_of number line ∷ is))))) HasNoZero
        empty true = next found h
        empty false = eof (is_eof line)

value_plain : (k : Key) (text : List ℕ) → HasNoZero text → IfSome (value k (pairs text)) HasNoZero
unfolding value_of
value_plain k text all = value_from (key_name k) (lines text) (lines_plain text all) 1 None tt

-- ---- what a record has of them

bind_ok : {A B E P : Type 0} (x : Result A E) (f : A → Result B E) (b : B) → (x >>= f) ≡ Ok b → ((a : A) → x ≡ Ok a → f a ≡ Ok b → P) → P
bind_ok (Ok a) f b e next = next a refl e
bind_ok (Err fault) f b e next = absurd cc

same_ok : {A E : Type 0} (a b : A) → ◌≡◌ {A = Result A E} (Ok a) (Ok b) → a ≡ b
same_ok a b e = cc

-- the texts of a record that was read
abbrev description_in : Result VolumeRecord TextFault → Result (List ℕ) TextFault
description_in (Ok r) = Ok r.description
description_in (Err fault) = Err fault

abbrev disk_type_in : Result VolumeRecord TextFault → Result (List ℕ) TextFault
disk_type_in (Ok r) = Ok r.disk_type
disk_type_in (Err fault) = Err fault

abbrev domain_in : Result VolumeRecord TextFault → Result Id TextFault
domain_in (Ok r) = Ok r.domain
domain_in (Err fault) = Err fault

abbrev image_in : Result VolumeRecord TextFault → Result Id TextFault
image_in (Ok r) = Ok r.image
image_in (Err fault) = Err fault

pub record Texts (sd image : Id) (ps : List KeyValue) (r : VolumeRecord) : Type 0 where
  pub description : optional key.Description [] description_of (value key.Description ps) ≡ Ok r.description
  pub disk_type : optional key.DiskType (codes "DATA") disk_type_of (value key.DiskType ps) ≡ Ok r.disk_type
  pub own_domain : needed key.Domain (this_id sd) (value key.Domain ps) ≡ Ok r.domain
  pub own_image : needed key.Image (this_id image) (value key.Image ps) ≡ Ok r.image

texts_in : (five : Bool) (sd image : Id) (ps : List KeyValue) (r : VolumeRecord) → fields_of five sd image ps ≡ Ok r → Texts sd image ps r
unfolding fields_of
texts_in five sd image ps r e =
    bind_ok (in_five five (needed key.Cap capacity_of (value key.Cap ps))) _ r e (λ cap _ e.
    bind_ok (optional key.Ctime 0 number_of (value key.Ctime ps)) _ r e (λ ctime _ e.
    bind_ok (optional key.Description [] description_of (value key.Description ps)) _ r e (λ description is_description e.
    bind_ok (optional key.DiskType (codes "DATA") disk_type_of (value key.DiskType ps)) _ r e (λ disk_type is_disk_type e.
    bind_ok (needed key.Domain (this_id sd) (value key.Domain ps)) _ r e (λ domain is_domain e.
    bind_ok (needed key.Format format_of (value key.Format ps)) _ r e (λ format _ e.
    bind_ok (optional key.Gen 0 generation_of (value key.Gen ps)) _ r e (λ generation _ e.
    bind_ok (needed key.Image (this_id image) (value key.Image ps)) _ r e (λ own is_image e.
    bind_ok (needed key.Legality legality_of (value key.Legality ps)) _ r e (λ legality _ e.
    bind_ok (optional key.Merged false (merged_of legality) (value key.Merged ps)) _ r e (λ merged _ e.
    bind_ok (needed key.Puuid id_of (value key.Puuid ps)) _ r e (λ parent _ e.
    bind_ok (in_others cap (needed key.Size size_of (value key.Size ps))) _ r e (λ capacity _ e.
    bind_ok (needed key.Alloc kind_of (value key.Alloc ps)) _ r e (λ kind _ e.
    bind_ok (needed key.VolType voltype_of (value key.VolType ps)) _ r e (λ voltype _ e.
    record {
      description = is_description ∙ ap (λ (x : Result VolumeRecord TextFault). description_in x) e;
      disk_type = is_disk_type ∙ ap (λ (x : Result VolumeRecord TextFault). disk_type_in x) e;
      own_domain = is_domain ∙ ap (λ (x : Result VolumeRecord TextFault). domain_in x) e;
      own_image = is_image ∙ ap (λ (x : Result VolumeRecord TextFault). image_in x) e;
    }))))))))))))))

meant_ok : {X : Type 0} (k : Key) (o : Option X) (x : X) → meant k o ≡ Ok x → o ≡ Some x
meant_ok k None x e = absurd cc
meant_ok k (Some y) x e = cc

-- a text that means itself where it means anything
description_is : (v x : List ℕ) → description_of v ≡ Some x → v ≡ x
unfolding description_of
description_is v x e = go (nat_le (length v) 4096) e
  where
    go : (b : Bool) → cond b (Some v) None ≡ Some x → v ≡ x
    go true h = cc
    go false h = absurd cc

disk_type_is : (v x : List ℕ) → disk_type_of v ≡ Some x → v ≡ x
unfolding disk_type_of
disk_type_is v x e = go (nat_le 1 (length v) && nat_le (length v) 16) e
  where
    go : (b : Bool) → cond b (Some v) None ≡ Some x → v ≡ x
    go true h = cc
    go false h = absurd cc

plain_from : (k : Key) (default : List ℕ) (meaning : List ℕ → Option (List ℕ)) (found : Option (List ℕ)) (x : List ℕ) → HasNoZero default
    → ((v y : List ℕ) → meaning v ≡ Some y → v ≡ y) → IfSome found HasNoZero → optional k default meaning found ≡ Ok x → HasNoZero x
plain_from k default meaning None x plain itself all e = subst HasNoZero (same_ok default x e) plain
plain_from k default meaning (Some v) x plain itself all e = subst HasNoZero (itself v x (meant_ok k (meaning v) x e)) all

fields_read : (version : ℕ) (sd image : Id) (text : List ℕ) (r : VolumeRecord) → read_volume version sd image text ≡ Ok r → fields_of (version == 5) sd image (pairs text) ≡ Ok r
unfolding read_volume
fields_read version sd image text r e = short (nat_le (length text) 8192) (has_eof text) e
  where
    with_ok : (x : Result VolumeRecord TextFault) → with_fault x ≡ Ok r → x ≡ Ok r
    with_ok (Ok y) h = cc
    with_ok (Err y) h = absurd cc

    without : (o : Option TextFault) (x : Result VolumeRecord TextFault) → unless_fault o x ≡ Ok r → x ≡ Ok r
    without None x h = h
    without (Some y) x h = absurd cc

    short : (a b : Bool) → (if a then (if b then with_fault (unless_fault (shape_fault text (needed_keys (version == 5))) (fields_of (version == 5) sd image (pairs text))) else Err NoEof) else Err TooLong) ≡ Ok r → fields_of (version == 5) sd image (pairs text) ≡ Ok r
    short true true h = without (shape_fault text (needed_keys (version == 5))) _ (with_ok _ h)
    short true false h = absurd cc
    short false b h = absurd cc

pub description_plain : (version : ℕ) (sd image : Id) (text : List ℕ) (r : VolumeRecord) → HasNoZero text → read_volume version sd image text ≡ Ok r → HasNoZero r.description
description_plain version sd image text r all e =
    let is = texts_in (version == 5) sd image (pairs text) r (fields_read version sd image text r e) in
    plain_from key.Description [] description_of (value key.Description (pairs text)) r.description (All-nil (λ b. 0 < b)) description_is (value_plain key.Description text all) is.description

pub disk_type_plain : (version : ℕ) (sd image : Id) (text : List ℕ) (r : VolumeRecord) → HasNoZero text → read_volume version sd image text ≡ Ok r → HasNoZero r.disk_type
disk_type_plain version sd image text r all e =
    let is = texts_in (version == 5) sd image (pairs text) r (fields_read version sd image text r e) in
    plain_from key.DiskType (codes "DATA") disk_type_of (value key.DiskType (pairs text)) r.disk_type (plain (codes "DATA") refl) disk_type_is (value_plain key.DiskType text all) is.disk_type

-- ---- what is written

pub text_says : (version : ℕ) (r : VolumeRecord) (f : File) → IsLegible r → IsTextFile (volume_text version r) f → IsTextOf version r f
text_says version r f legible is = record {
  settled = is.settled;
  says = ap (λ (text : List ℕ). read_volume version r.domain r.image text) (text_whole (volume_text version r) f (text_no_zero r legible version) is) ∙ reads_back version r legible.valid;
}

pub has_record : (version : ℕ) (place : Place) (r : VolumeRecord) (d : Content) → IsLegible r → HasText d place (volume_text version r) → HasRecord version place r d
has_record version place r d legible has = (has.0, has.1, text_says version r has.0 legible has.2)

-- ---- the domain and the image of a record that is read

own_id : (id own : Id) (v : List ℕ) → this_id id v ≡ Some own → own ≡ id
unfolding this_id
own_id id own v e = go (id_of v) e
  where
    go : (o : Option Id) → option_and_then (λ found. if bytes_eq found.0 id.0 then Some id else None) o ≡ Some own → own ≡ id
    go None h = absurd cc
    go (Some found) h = by (bytes_eq found.0 id.0) h
      where
        by : (b : Bool) → cond b (Some id) None ≡ Some own → own ≡ id
        by true i = cc
        by false i = absurd cc

needed_own : (k : Key) (id own : Id) (found : Option (List ℕ)) → needed k (this_id id) found ≡ Ok own → own ≡ id
needed_own k id own None e = absurd cc
needed_own k id own (Some v) e = own_id id own v (meant_ok k (this_id id v) own e)

pub domain_is : (version : ℕ) (sd image : Id) (text : List ℕ) (r : VolumeRecord) → read_volume version sd image text ≡ Ok r → r.domain ≡ sd
domain_is version sd image text r e = needed_own key.Domain sd r.domain (value key.Domain (pairs text)) (texts_in (version == 5) sd image (pairs text) r (fields_read version sd image text r e)).own_domain

pub image_is : (version : ℕ) (sd image : Id) (text : List ℕ) (r : VolumeRecord) → read_volume version sd image text ≡ Ok r → r.image ≡ image
image_is version sd image text r e = needed_own key.Image image r.image (value key.Image (pairs text)) (texts_in (version == 5) sd image (pairs text) r (fields_read version sd image text r e)).own_image
