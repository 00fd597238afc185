-- What reading the texts tells of the first checks.
use Rattle.std.proofs.Common.{◌≡◌, ◌⊎◌, ℕ, zero, suc, ◌<◌, ◌≤◌, Bool, true, false, nat_le, ◌==◌, if◌then◌else◌, List, [], ◌∷◌, ◌++◌, length, map, take, drop, Option, Some, None, Result, Ok, Err, refl, sym, ap, ◌∙◌, subst, inl, inr, arith, length-append}
use Rattle.std.specs.List.{Contains}
use Rattle.std.specs.Option.{is_some, option_map}
use Rattle.std.proofs.lemmas.Bool.Decides.{nat_tests}
use Rattle.std.proofs.lemmas.List.{map-append, take_all}
use Rattle.sd_names.specs.declared.fault.VolumeFault.{VolumeFault}
use Rattle.sd_names.specs.declared.fault.VolumeFault.TheVariants.{Memory, NoEof, TooLong}
use Rattle.sd_names.specs.declared.id.Id.{Id}
use Rattle.sd_names.specs.declared.place.Name.TheVariants as name
use Rattle.sd_names.specs.declared.refusal.Refusal.{Refusal}
use Rattle.sd_names.specs.declared.refusal.Refusal.TheVariants.{ChainTooLong, MetaCorrupt}
use Rattle.shared_disk.specs.Content.{Content, File, without}
use Rattle.shared_disk.specs.Crash.{IsSettled}
use Rattle.shared_disk.specs.NameCalls.{place_in}
use Rattle.shared_disk.specs.Places.{id_is}
use Rattle.shared_disk.proofs.Outcomes.{contains_here, contains_more}
use Rattle.whole_file.specs.Read.{ReadsFile}
use Rattle.whole_file.specs.Text.{longest}
use Rattle.whole_file.specs.declared.read.Text.TheVariants as read
use Rattle.kv_text.specs.Keys.{shape_fault, unless_fault}
use Rattle.kv_text.specs.Text.{has_eof, pairs}
use Rattle.kv_text.specs.declared.fault.TextFault.{TextFault}
use Rattle.kv_text.specs.declared.fault.TextFault.TheVariants as fault
use Rattle.volume_meta.specs.Read.{fields_of, needed_keys, read_volume, with_fault}
use Rattle.volume_meta.specs.Valid.{IsValid}
use Rattle.volume_meta.specs.declared.record.VolumeRecord.{VolumeRecord}
use Rattle.chain_model.specs.Folder.{Volumes}
use Rattle.chain_model.specs.Opening.{AreVolumes, Check, FirstRefusal, IsBadText, count, text}
use Rattle.chain_model.specs.Records.{Image, stored_text, text_of}
use Rattle.chain_model.proofs.Texts.{text_seen}
use Rattle.chain_records.specs.Records.{ids_of, records_in}
use Rattle.chain_gathering.specs.Kept.{AreValid, first_file, first_id, ids_found, kept_with, next_has_file, next_of}
use Rattle.chain_gathering.specs.Knowing.{ArePassed, AreSettled, IsFirst, IsGathered, IsRead, IsThere, first_checks, volumes_in}
use Rattle.chain_gathering.specs.Stages.{dir_in, image_in}
use Rattle.chain_gathering.specs.declared.found.Found.{Found}
use Rattle.chain_gathering.specs.declared.gathered.Gathered.{Gathered}
use Rattle.chain_gathering.specs.declared.names.VolumeName.TheVariants.{Text}
use Rattle.chain_records.specs.declared.volume.Volume.{Volume}
use Rattle.chain_gathering.specs.declared.stages.Target.{Target}
use Rattle.chain_gathering.proofs.Lists.{IsSplit, length_ids, mapped_in, none_next, noted_front, noted_longer, snoc_cases, split_next}
use Rattle.chain_gathering.specs.Kept.{noted}
use Rattle.chain_gathering.specs.Steps.{AreOfFound}

-- ---- the first checks

-- the text of a volume has no fault
abbrev pub ReadsWell : Image → Volumes → Id → Type 0
ReadsWell i x v = (r : VolumeRecord) × (text_of i x v ≡ Some (Ok r))

no_refusal : (i : Image) (x : Volumes) (v : Id) (e : Refusal) → ReadsWell i x v → IsBadText v (text_of i x v) e → ⊥
no_refusal i x v e well bad = subst (λ (o : Option (Result VolumeRecord VolumeFault)). IsBadText v o e) well.1 bad

-- where texts have no fault, the first refusal is that of what follows them
pub texts_pass : (i : Image) (x : Volumes) (vs ws : List Id) (cs : List Check) (e : Refusal) → ((v : Id) → Contains ws v → ReadsWell i x v)
    → FirstRefusal i x vs cs e → FirstRefusal i x vs (map text ws ++ cs) e
texts_pass i x vs [] cs e well first = first
texts_pass i x vs (w ∷ ws) cs e well first =
    inr (λ other bad. no_refusal i x w other (well w (contains_here w ws)) bad, texts_pass i x vs ws cs e (λ v h. well v (contains_more w v ws h)) first)

pub count_passes : (i : Image) (x : Volumes) (vs : List Id) (cs : List Check) (e : Refusal) → length vs ≤ 32 → FirstRefusal i x vs cs e → FirstRefusal i x vs (count ∷ cs) e
count_passes i x vs cs e few first = inr (λ other many. absurd (omega (arith, few, many.0)), first)

pub are_passed : (i : Image) (x : Volumes) (vs : List Id) → length vs ≤ 32 → ((v : Id) → Contains vs v → ReadsWell i x v) → ArePassed i x vs
are_passed i x vs few well rest e first = count_passes i x vs (map text vs ++ rest) e few (texts_pass i x vs vs rest e well first)

-- too many volumes
pub too_many : (i : Image) (x : Volumes) (vs : List Id) (n : ℕ) → AreVolumes x vs → n ≡ length vs → 32 < n → IsFirst i x (ChainTooLong n)
too_many i x vs n are is many = (vs, are, λ rest. inl (subst (λ (m : ℕ). 32 < m) is many, ap (λ (m : ℕ). ChainTooLong m) is))

bad_text : (i : Image) (x : Volumes) (v : Id) (fault : VolumeFault) → text_of i x v ≡ Some (Err fault) → IsBadText v (text_of i x v) (MetaCorrupt v fault)
bad_text i x v fault is = subst (λ (o : Option (Result VolumeRecord VolumeFault)). IsBadText v o (MetaCorrupt v fault)) (sym is) refl

checks_split : (front back : List Id) (v : Id) (rest : List Check) → map text (front ++ v ∷ back) ++ rest ≡ map text front ++ (text v ∷ map text back ++ rest)
checks_split [] back v rest = refl
checks_split (u ∷ front) back v rest = ap (λ (cs : List Check). text u ∷ cs) (checks_split front back v rest)

-- the first text with a fault
pub bad_first : (i : Image) (x : Volumes) (vs front back : List Id) (v : Id) (fault : VolumeFault) → AreVolumes x vs → length vs ≤ 32 → vs ≡ front ++ v ∷ back
    → ((u : Id) → Contains front u → ReadsWell i x u) → text_of i x v ≡ Some (Err fault) → IsFirst i x (MetaCorrupt v fault)
bad_first i x vs front back v fault are few split well bad = (vs, are, λ rest. first rest)
  where
    first : (rest : List Check) → FirstRefusal i x vs (first_checks vs rest) (MetaCorrupt v fault)
    first rest =
        let here : FirstRefusal i x vs (text v ∷ map text back ++ rest) (MetaCorrupt v fault) = inl (bad_text i x v fault bad) in
        let them : FirstRefusal i x vs (map text front ++ (text v ∷ map text back ++ rest)) (MetaCorrupt v fault) = texts_pass i x vs front (text v ∷ map text back ++ rest) (MetaCorrupt v fault) well here in
        let same : map text front ++ (text v ∷ map text back ++ rest) ≡ map text vs ++ rest = sym (checks_split front back v rest) ∙ ap (λ (us : List Id). map text us ++ rest) (sym split) in
        count_passes i x vs (map text vs ++ rest) (MetaCorrupt v fault) few (subst (λ (cs : List Check). FirstRefusal i x vs cs (MetaCorrupt v fault)) same them)

-- ---- a text that was read

-- what a text's file says, where it is settled
pub text_is : (t : Target) (v : Id) (f : File) (d : Content) → IsThere (dir_in t) (Text v) d f
    → text_of (image_in t) (volumes_in (dir_in t) d) v ≡ Some (read_volume t.version t.sd t.image (stored_text f))
text_is t v f d there = ap (option_map (λ (g : File). read_volume t.version t.sd t.image (stored_text g))) there

no_others : (host : ℕ) (f : File) → IsSettled f → without host f.loose ≡ []
no_others host f s = ap (without host) s.loose

pub text_read : (t : Target) (host n : ℕ) (v : Id) (room : List ℕ) (d : Content) → AreSettled (dir_in t) d → ReadsFile (read.Bytes n) host (place_in (dir_in t) (name.Meta v)) room d
    → text_of (image_in t) (volumes_in (dir_in t) d) v ≡ Some (read_volume t.version t.sd t.image (take n room))
text_read t host n v room d settled reads =
    let s = settled (Text v) reads.0 reads.1 in
    let same : take n room ≡ stored_text reads.0 = reads.2 (no_others host reads.0 s) ∙ text_seen host reads.0 s in
    text_is t v reads.0 d reads.1 ∙ ap (λ (xs : List ℕ). Some (read_volume t.version t.sd t.image xs)) (sym same)

too_long : (version : ℕ) (sd image : Id) (xs : List ℕ) → longest < length xs → read_volume version sd image xs ≡ Err TooLong
unfolding read_volume
too_long version sd image xs long = let no : nat_le (length xs) 8192 ≡ false = grind (arith, nat_tests) in rw no refl

pub long_read : (t : Target) (host : ℕ) (v : Id) (room : List ℕ) (d : Content) → AreSettled (dir_in t) d → ReadsFile read.Long host (place_in (dir_in t) (name.Meta v)) room d
    → text_of (image_in t) (volumes_in (dir_in t) d) v ≡ Some (Err TooLong)
long_read t host v room d settled reads =
    let s = settled (Text v) reads.0 reads.1 in
    let long : longest < length (stored_text reads.0) = subst (λ (xs : List ℕ). longest < length xs) (text_seen host reads.0 s) (reads.2 (no_others host reads.0 s)) in
    text_is t v reads.0 d reads.1 ∙ ap (λ r. Some r) (too_long t.version t.sd t.image (stored_text reads.0) long)

-- ---- no text's fault is want of memory

no_memory : (r : Result VolumeRecord TextFault) → with_fault r ≡ Err Memory → ⊥
no_memory (Ok x) e = cc
no_memory (Err (fault.BadLine n)) e = cc
no_memory (Err (fault.MissingKey k)) e = cc
no_memory (Err (fault.BadValue k)) e = cc

pub never_memory : (version : ℕ) (sd image : Id) (xs : List ℕ) → read_volume version sd image xs ≡ Err Memory → ⊥
unfolding read_volume
never_memory version sd image xs e = go (nat_le (length xs) 8192) (has_eof xs) (unless_fault (shape_fault xs (needed_keys (version == 5))) (fields_of (version == 5) sd image (pairs xs))) e
  where
    go : (a b : Bool) (r : Result VolumeRecord TextFault) → (if a then (if b then with_fault r else Err NoEof) else Err TooLong) ≡ Err Memory → ⊥
    go true true r e = no_memory r e
    go true false r e = cc
    go false b r e = cc

-- ---- the records

-- each volume that was read has a text without a fault
pub read_well : (t : Target) (kept : Gathered) (d : Content) → IsRead t kept d → (v : Id) → Contains (take (length kept.records) (ids_found kept.found)) v
    → ReadsWell (image_in t) (volumes_in (dir_in t) d) v
read_well t kept d is v h =
    let r = mapped_in (λ (x : Volume). x.id) kept.records v (subst (λ (vs : List Id). Contains vs v) (sym is.order) h) in
    (r.0.meta, subst (λ (u : Id). text_of (image_in t) (volumes_in (dir_in t) d) u ≡ Some (Ok r.0.meta)) r.2 (is.texts r.0 r.1))

pub few_ids : (kept : Gathered) → length kept.found ≤ 32 → length (ids_found kept.found) ≤ 32
few_ids kept few = omega (arith, few, length_ids kept.found)

pub next_split : (kept : Gathered) (v : Id) → next_of kept ≡ Some v → IsSplit (ids_found kept.found) (length kept.records) v
next_split kept v e = split_next kept.found (length kept.records) v e

ids_snoc : (xs : List Volume) (x : Volume) → ids_of (xs ++ x ∷ []) ≡ ids_of xs ++ x.id ∷ []
ids_snoc xs x = map-append (λ (y : Volume). y.id) xs (x ∷ [])

-- the volume is one of those that were found, and has its file where it is told so
next_found : (ws : List Found) (k : ℕ) (v : Id) → first_id (drop k ws) ≡ Some v → (w : Found) × Contains ws w × (w.id ≡ v) × (w.has_file ≡ first_file (drop k ws))
next_found [] zero v e = absurd cc
next_found [] (suc k) v e = absurd cc
next_found (w ∷ ws) zero v e = (w, contains_here w ws, cc, refl)
next_found (w ∷ ws) (suc k) v e = let f = next_found ws k v e in (f.0, contains_more w f.0 ws f.1, f.2, f.3)

next_own : (t : Target) (kept : Gathered) (v : Id) (d : Content) → IsRead t kept d → next_of kept ≡ Some v → next_has_file kept ≡ is_some ((volumes_in (dir_in t) d).file v)
next_own t kept v d is next =
    let w = next_found kept.found (length kept.records) v next in
    sym w.3 ∙ is.files w.0 w.1 ∙ ap (λ (u : Id). is_some ((volumes_in (dir_in t) d).file u)) w.2

short_next : (k : ℕ) (ws : List Found) (v : Id) → first_id (drop k ws) ≡ Some v → k < length ws
short_next zero [] v e = absurd cc
short_next zero (w ∷ ws) v e = omega arith
short_next (suc k) [] v e = absurd cc
short_next (suc k) (w ∷ ws) v e = omega (arith, short_next k ws v e)

-- ---- records and the volumes that were found, on every disk

pub found_on : (kept : Gathered) (v : Id) (last : Option Id) → AreOfFound kept → AreOfFound (record { found = noted kept.found v last; records = kept.records })
found_on kept v last are = record {
  short = omega (arith, are.short, noted_longer kept.found v last);
  order = are.order ∙ sym (noted_front kept.found v last (length kept.records) are.short);
}

pub kept_on : (kept : Gathered) (v : Id) (r : VolumeRecord) → next_of kept ≡ Some v → AreOfFound kept → AreOfFound (kept_with kept v r)
kept_on kept v r next are =
    let more : length (kept.records ++ record { id = v; meta = r; has_file = next_has_file kept } ∷ []) ≡ suc (length kept.records) =
    omega (arith, length-append kept.records (record { id = v; meta = r; has_file = next_has_file kept } ∷ [])) in
    record {
      short = omega (arith, more, short_next (length kept.records) kept.found v next);
      order = ids_snoc kept.records (record { id = v; meta = r; has_file = next_has_file kept }) ∙ ap (λ (vs : List Id). vs ++ v ∷ []) are.order
          ∙ sym (next_split kept v next).next ∙ ap (λ (n : ℕ). take n (ids_found kept.found)) (sym more);
    }

-- each record is valid, and so is one more
record_snoc : (xs : List Volume) (y : Volume) (v : Id) (x : VolumeRecord) → records_in (xs ++ y ∷ []) v ≡ Some x → (records_in xs v ≡ Some x) ⊎ (y.meta ≡ x)
record_snoc [] y v x e = go (id_is y.id v) e
  where
    go : (b : Bool) → (if b then Some y.meta else None) ≡ Some x → (None ≡ Some x) ⊎ (y.meta ≡ x)
    go true e = inr cc
    go false e = absurd cc
record_snoc (z ∷ zs) y v x e = go (id_is z.id v) (λ f. record_snoc zs y v x f) e
  where
    go : (b : Bool) → (records_in (zs ++ y ∷ []) v ≡ Some x → (records_in zs v ≡ Some x) ⊎ (y.meta ≡ x)) → (if b then Some z.meta else records_in (zs ++ y ∷ []) v) ≡ Some x
        → ((if b then Some z.meta else records_in zs v) ≡ Some x) ⊎ (y.meta ≡ x)
    go true more e = inl e
    go false more e = more e

pub valid_none : AreValid []
valid_none v x e = absurd cc

pub valid_on : (kept : Gathered) (v : Id) (r : VolumeRecord) → IsValid r → AreValid kept.records → AreValid (kept_with kept v r).records
valid_on kept v r valid are u x e = go (record_snoc kept.records (record { id = v; meta = r; has_file = next_has_file kept }) u x e)
  where
    go : (records_in kept.records u ≡ Some x) ⊎ (r ≡ x) → IsValid x
    go (inl is) = are u x is
    go (inr is) = subst IsValid is valid

pub kept_whole : (kept : Gathered) → next_of kept ≡ None → AreOfFound kept → ids_of kept.records ≡ ids_found kept.found
kept_whole kept none are =
    are.order ∙ take_all (length kept.records) (ids_found kept.found) (omega (arith, length_ids kept.found, none_next kept.found (length kept.records) none))

-- one record more
pub read_on : (t : Target) (kept : Gathered) (v : Id) (r : VolumeRecord) (d : Content) → IsRead t kept d → next_of kept ≡ Some v
    → text_of (image_in t) (volumes_in (dir_in t) d) v ≡ Some (Ok r) → IsRead t (kept_with kept v r) d
read_on t kept v r d is next well =
    let on = kept_on kept v r next (record { short = is.short; order = is.order }) in
    record {
      settled = is.settled;
      are = is.are;
      few = is.few;
      files = is.files;
      short = on.short;
      order = on.order;
      texts = λ x h. said x (snoc_cases x (record { id = v; meta = r; has_file = next_has_file kept }) kept.records h);
      own = λ x h. file x (snoc_cases x (record { id = v; meta = r; has_file = next_has_file kept }) kept.records h);
    }
  where
    said : (x : Volume) → Contains kept.records x ⊎ (record { id = v; meta = r; has_file = next_has_file kept } ≡ x) → text_of (image_in t) (volumes_in (dir_in t) d) x.id ≡ Some (Ok x.meta)
    said x (inl h) = is.texts x h
    said x (inr e) = subst (λ (y : Volume). text_of (image_in t) (volumes_in (dir_in t) d) y.id ≡ Some (Ok y.meta)) e well

    file : (x : Volume) → Contains kept.records x ⊎ (record { id = v; meta = r; has_file = next_has_file kept } ≡ x) → x.has_file ≡ is_some ((volumes_in (dir_in t) d).file x.id)
    file x (inl h) = is.own x h
    file x (inr e) = subst (λ (y : Volume). y.has_file ≡ is_some ((volumes_in (dir_in t) d).file y.id)) e (next_own t kept v d is next)

-- the text that was read next has a fault
pub read_bad : (t : Target) (kept : Gathered) (v : Id) (fault : VolumeFault) (d : Content) → IsRead t kept d → next_of kept ≡ Some v
    → text_of (image_in t) (volumes_in (dir_in t) d) v ≡ Some (Err fault) → IsFirst (image_in t) (volumes_in (dir_in t) d) (MetaCorrupt v fault)
read_bad t kept v fault d is next bad =
    let split = next_split kept v next in
    bad_first (image_in t) (volumes_in (dir_in t) d) (ids_found kept.found) (take (length kept.records) (ids_found kept.found)) split.back v fault is.are (few_ids kept is.few) split.whole
    (read_well t kept d is) bad

-- all texts were read
pub read_all : (t : Target) (kept : Gathered) (d : Content) → IsRead t kept d → next_of kept ≡ None → IsGathered t kept d
read_all t kept d is none =
    let whole = kept_whole kept none (record { short = is.short; order = is.order }) in
    record {
      settled = is.settled;
      are = is.are;
      few = is.few;
      files = is.files;
      order = whole;
      texts = is.texts;
      own = is.own;
      passed = are_passed (image_in t) (volumes_in (dir_in t) d) (ids_found kept.found) (few_ids kept is.few)
          (λ v h. read_well t kept d is v (subst (λ (vs : List Id). Contains vs v) (sym whole ∙ is.order) h));
    }
