-- The text of a valid record, read again.
use Rattle.std.proofs.Common.{◌≡◌, ℕ, ◌^◌, ◌<◌, ◌≤◌, List, [], ◌∷◌, ◌++◌, length, map, filter, refl, sym, ap, ◌∙◌, arith, All, codes, decimal, Some, None, Ok, le-leb, eq-eqb}
use Rattle.std.specs.List.{concat, filter_map}
use Rattle.std.specs.Result.{result_ok}
use Rattle.std.proofs.lemmas.List.{append-nil, map-append}
use Rattle.std.proofs.lemmas.List.Concat.{flat_map-append}
use Rattle.std.proofs.lemmas.List.Elements.{All-append, All-cons, All-nil, filter-append}
use Rattle.std.proofs.lemmas.Slice.Eq.{bytes_eq-Decides}
use Rattle.hex.specs.Hex.{encode_lower, lower_digits}
use Rattle.hex.proofs.HexLemmas.{length-encode_with}
use Rattle.sha1.specs.Sha1.{sha1}
use Rattle.sd_names.specs.Id.{id_text}
use Rattle.sd_names.specs.Key.{key_name}
use Rattle.sd_names.specs.declared.fault.Key.TheVariants as key
use Rattle.sd_names.specs.declared.kinds.Role.{Role}
use Rattle.sd_names.specs.declared.kinds.Role.TheVariants.{Master, Regular}
use Rattle.sd_names.proofs.IdLemmas.{id_text-length}
use Rattle.kv_text.specs.Lookup.{value_of}
use Rattle.kv_text.specs.Text.{KeyValue, IsWritable, line, pairs, text_of, whole}
use Rattle.kv_text.proofs.Line.{total, length-text_of}
use Rattle.kv_text.proofs.ReadBack.{items_open, no_bad_line, all_pairs, empty_not}
use Rattle.decimal_numbers.proofs.NumberLemmas.{number_of-decimal, decimal_short}
use Rattle.kv_text.proofs.ValuesBack.{id_of-id_text, this_id-id_text, description_back}
use Rattle.domain_meta.specs.Checksum.{checksum_of, in_order, is_covered}
use Rattle.kv_text.specs.Keys.{first_missing, shape_fault, value}
use Rattle.domain_meta.specs.Read.{checked_fields, fields_of, needed_keys, read_domain, with_fault}
use Rattle.domain_meta.specs.Text.{domain_pairs, domain_text, domains_text, pair_of, role_text}
use Rattle.domain_meta.specs.Valid.{IsValid}
use Rattle.domain_meta.specs.Values.{class_of, master_version_of, role_of, version_of_role}
use Rattle.domain_meta.specs.declared.record.DomainRecord.{DomainRecord}
use Rattle.domain_meta.proofs.Digests.{digest_back, hex_line, sha1_length}
use Rattle.domain_meta.proofs.DomainsBack.{domains_back, domains_short}
use Rattle.domain_meta.proofs.OwnText.{all_writable, covered-text_of, own_checksum, own_lines}

-- the checksum that a record's text has
abbrev own : DomainRecord → List ℕ
own r = checksum_of (text_of (domain_pairs r))

abbrev digest_pair : DomainRecord → KeyValue
digest_pair r = pair_of key.ShaCksum (encode_lower (own r))

-- all pairs of a text
abbrev pairs_of : DomainRecord → List KeyValue
pairs_of r = domain_pairs r ++ digest_pair r ∷ []

text_is : (r : DomainRecord) → domain_text r ≡ text_of (pairs_of r)
unfolding domain_text
text_is r =
    sym (flat_map-append (λ (p : KeyValue). line p.key p.value) (domain_pairs r) (digest_pair r ∷ [])
    ∙ ap (λ (l : List ℕ). text_of (domain_pairs r) ++ l) (append-nil (line (key_name key.ShaCksum) (encode_lower (own r)))))

-- what the values of written keys mean
role_back : (role : Role) → role_of (role_text role) ≡ Some role
unfolding role_of
role_back Master = refl
role_back Regular = refl

class_back : class_of (codes "Data") ≡ Some tt
unfolding class_of
class_back = refl

version_small : (role : Role) → version_of_role role < 2 ^ 64
version_small Master = omega arith
version_small Regular = omega arith

master_back : (role : Role) (n : ℕ) → n ≡ version_of_role role → master_version_of (Some role) (decimal n) ≡ Some n
unfolding master_version_of
master_back role n e =
    let small : n < 2 ^ 64 = rw e (version_small role) in
    rw (number_of-decimal n small, eq-eqb n (version_of_role role) e) refl

-- the values that a text of these pairs has
record Says (r : DomainRecord) (ps : List KeyValue) : Type 0 where
  class : value key.Class ps ≡ Some (codes "Data")
  description : value key.Description ps ≡ Some r.description
  master_version : value key.MasterVersion ps ≡ Some (decimal r.master_version)
  domains : value key.PoolDomains ps ≡ Some (domains_text r.domains)
  pool : value key.PoolUuid ps ≡ Some (id_text r.pool.0)
  role : value key.Role ps ≡ Some (role_text r.role)
  sduuid : value key.SdUuid ps ≡ Some (id_text r.sduuid.0)
  version : value key.Version ps ≡ Some (decimal r.version)
  checksum : value key.ShaCksum ps ≡ Some (encode_lower (own r))

says : (r : DomainRecord) → Says r (pairs_of r)
unfolding value_of domain_pairs
says r = record { class = refl; description = refl; master_version = refl; domains = refl; pool = refl; role = refl; sduuid = refl; version = refl; checksum = refl }

none_missing : (r : DomainRecord) (ps : List KeyValue) → Says r ps → first_missing ps needed_keys ≡ None
unfolding first_missing
none_missing r ps s =
    rw (s.class, s.master_version, s.domains, s.pool, s.role, s.sduuid, s.version, s.checksum) refl

fields_back : (r : DomainRecord) (ps : List KeyValue) → IsValid r → Says r ps → fields_of r.sduuid ps ≡ Ok r
unfolding fields_of
fields_back r ps valid s =
    rw (s.class, class_back, s.description, description_back r.description valid.description, s.role, role_back r.role, s.master_version, master_back r.role r.master_version valid.master_version, s.domains, domains_back r.role r.domains valid.lists valid.domains, s.pool, id_of-id_text r.pool.0 valid.pool, s.sduuid, this_id-id_text r.sduuid valid.sduuid, s.version, number_of-decimal r.version valid.version) refl

-- the checksum's own line adds nothing to what is digested
last_out : (r : DomainRecord) → filter is_covered (map whole (pairs_of r)) ≡ map whole (domain_pairs r)
last_out r =
    ap (filter is_covered) (map-append whole (domain_pairs r) (digest_pair r ∷ []))
    ∙ filter-append is_covered (map whole (domain_pairs r)) (whole (digest_pair r) ∷ [])
    ∙ rw (empty_not (key_name key.ShaCksum) (encode_lower (own r))) (append-nil (filter is_covered (map whole (domain_pairs r))))
    ∙ own_lines r

all_pairs_writable : (r : DomainRecord) → IsValid r → All IsWritable (domain_pairs r)
all_pairs_writable r valid =
    all_writable r valid.one_line valid.version (rw valid.master_version (version_small r.role))

module _ (r : DomainRecord) (valid : IsValid r) where
  own_is : own r ≡ sha1 (concat (map whole (domain_pairs r)))
  own_is = own_checksum r (all_pairs_writable r valid)

  all : All IsWritable (pairs_of r)
  all = All-append IsWritable (domain_pairs r) (digest_pair r ∷ []) (all_pairs_writable r valid)
      (All-cons IsWritable (digest_pair r) [] (record { key = refl; divided = refl; value = rw own_is (hex_line (sha1 (concat (map whole (domain_pairs r))))) }) (All-nil IsWritable))

  same_checksum : checksum_of (text_of (pairs_of r)) ≡ own r
  unfolding checksum_of
  same_checksum =
      ap (λ (ls : List (List ℕ)). sha1 (concat (in_order ls))) (covered-text_of (pairs_of r) all ∙ last_out r ∙ sym (covered-text_of (domain_pairs r) (all_pairs_writable r valid) ∙ own_lines r))

  found : pairs (text_of (pairs_of r)) ≡ pairs_of r
  found = ap (filter_map result_ok) (items_open (pairs_of r) all) ∙ all_pairs (pairs_of r)

  shape_back : shape_fault (text_of (pairs_of r)) needed_keys ≡ None
  unfolding shape_fault
  shape_back = rw (found, items_open (pairs_of r) all, no_bad_line (pairs_of r), none_missing r (pairs_of r) (says r)) refl

  checked_back : checked_fields r.sduuid (text_of (pairs_of r)) ≡ Ok r
  unfolding checked_fields
  checked_back =
      let digest = rw (← own_is) at (digest_back (concat (map whole (domain_pairs r)))) in
      rw (found, (says r).checksum, digest, same_checksum, (bytes_eq-Decides (own r) (own r)).1 refl) (ap with_fault (fields_back r (pairs_of r) valid (says r)))

role_short : (role : Role) → length (role_text role) ≤ 7
role_short Master = omega arith
role_short Regular = omega arith

-- the lengths of values
record Short (r : DomainRecord) : Type 0 where
  description : length r.description ≤ 4096
  master_version : length (decimal r.master_version) ≤ 20
  domains : length (domains_text r.domains) ≤ 176
  pool : length (id_text r.pool.0) ≡ 36
  role : length (role_text r.role) ≤ 7
  sduuid : length (id_text r.sduuid.0) ≡ 36
  version : length (decimal r.version) ≤ 20
  checksum : length (encode_lower (own r)) ≡ 40

short : (r : DomainRecord) → IsValid r → Short r
short r valid =
    let digest : length (own r) ≡ 20 = rw (own_is r valid) (sha1_length (concat (map whole (domain_pairs r)))) in
    record {
      description = valid.description;
      master_version = decimal_short r.master_version (rw valid.master_version (version_small r.role));
      domains = domains_short r.role r.domains valid.lists;
      pool = id_text-length r.pool.0;
      role = role_short r.role;
      sduuid = id_text-length r.sduuid.0;
      version = decimal_short r.version valid.version;
      checksum = omega (arith, length-encode_with lower_digits (own r), digest);
    }

few : (r : DomainRecord) → Short r → total (pairs_of r) ≤ 8000
unfolding domain_pairs
few r s = omega (arith, s)

pub is_short : (r : DomainRecord) → IsValid r → length (domain_text r) ≤ 8192
is_short r valid =
    let whole : length (domain_text r) ≡ length (text_of (pairs_of r)) = ap length (text_is r) in
    omega (arith, whole, length-text_of (pairs_of r), few r (short r valid))

pub reads_back : (r : DomainRecord) → IsValid r → read_domain r.sduuid (domain_text r) ≡ Ok r
unfolding read_domain
reads_back r valid =
    let fits = le-leb (length (domain_text r)) 8192 (is_short r valid) in
    rw (fits, text_is r, shape_back r valid) (checked_back r valid)
