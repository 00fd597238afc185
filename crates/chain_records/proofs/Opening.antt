-- The checks of records are those of the opening.
use Rattle.std.proofs.Common.{◌≡◌, ◌⊎◌, Bool, true, false, List, [], ◌∷◌, ◌++◌, map, Option, Some, None, Result, Ok, Err, refl, sym, ap, ◌∙◌, subst, inl, inr, arith, append_assoc}
use Rattle.std.specs.Prelude.{if◌then◌else◌, option_and_then}
use Rattle.std.specs.Option.{is_some}
use Rattle.std.specs.List.{Contains}
use Rattle.std.proofs.lemmas.Bool.{false≢true}
use Rattle.sd_names.specs.declared.fault.VolumeFault.{VolumeFault}
use Rattle.sd_names.specs.declared.id.Id.{Id}
use Rattle.sd_names.specs.declared.refusal.Refusal.{Refusal}
use Rattle.sd_names.specs.declared.refusal.Refusal.TheVariants.{NoVolume}
use Rattle.shared_disk.specs.Content.{File}
use Rattle.shared_disk.proofs.Outcomes.{contains_here, contains_more, nothing_in, cons_cases}
use Rattle.volume_meta.specs.declared.record.VolumeRecord.{VolumeRecord}
use Rattle.chain_model.specs.Chain.{path_of}
use Rattle.chain_model.specs.Folder.{Volumes}
use Rattle.chain_model.specs.Opening.{Check, FirstRefusal, IsBadText, IsOpenable, IsOpenPath, IsStray, OpenFault, Refuses, both, capacity, checks, count, format, header, layer, parents, reading, ring, text, there}
use Rattle.chain_model.specs.Reading.{IsReading}
use Rattle.chain_model.specs.Records.{Image, Records, is_volume, record_in, records_of, text_of}
use Rattle.chain_model.proofs.Opened.{open_path}
use Rattle.chain_records.specs.declared.volume.Volume.{Volume}
use Rattle.chain_records.specs.Checks.{FirstIs, IsUnknown, RefusesBy, record_checks}
use Rattle.chain_records.specs.Records.{first_missing, ids_of, records_in}
use Rattle.chain_records.specs.Shown.{AreRead, IsShown}
use Rattle.chain_records.proofs.Lists.{length_ids, record_among, some_record}

pub same_records : (i : Image) (x : Volumes) (xs : List Volume) → AreRead i x xs → records_of i x ≡ records_in xs
same_records i x xs shown = λ j v. shown.records v j

-- ---- one check

stray_if : (i : Image) (x : Volumes) (xs : List Volume) → AreRead i x xs → (v : Id) (e : Refusal) → IsUnknown (records_in xs) v e
    → IsStray x (records_in xs) v e
stray_if i x xs shown v e is = (is.0, is.1.0, go (is_volume x is.0) refl, is.2)
  where
    no_record : (o : Option VolumeRecord) (y : VolumeRecord) → o ≡ None → o ≡ Some y → ⊥
    no_record o y p q = cc

    go : (b : Bool) → is_volume x is.0 ≡ b → b ≡ false
    go false t = refl
    go true t = let has = some_record xs is.0 (shown.are.all is.0 t) in absurd (no_record (records_in xs is.0) has.0 is.1.1 has.1)

stray_only : (i : Image) (x : Volumes) (xs : List Volume) → AreRead i x xs → (v : Id) (e : Refusal) → IsStray x (records_in xs) v e
    → IsUnknown (records_in xs) v e
stray_only i x xs shown v e is = (is.0, (is.1, go (records_in xs is.0) refl), is.3)
  where
    go : (o : Option VolumeRecord) → records_in xs is.0 ≡ o → o ≡ None
    go None t = refl
    go (Some y) t = absurd (false≢true (sym is.2 ∙ shown.are.each is.0 (record_among xs is.0 y t)))

-- a check that goes by the records
abbrev IsOfRecords : Check → Type 0
IsOfRecords count = ⊥
IsOfRecords (text v) = ⊥
IsOfRecords (there v) = ⊥
IsOfRecords (parents v) = Unit {0}
IsOfRecords ring = Unit {0}
IsOfRecords (format v) = Unit {0}
IsOfRecords (capacity v) = Unit {0}
IsOfRecords reading = Unit {0}
IsOfRecords (layer v) = ⊥
IsOfRecords (header v) = ⊥

refuses_if : (i : Image) (x : Volumes) (xs : List Volume) → AreRead i x xs → (c : Check) → IsOfRecords c → (e : Refusal) → RefusesBy (records_in xs) c e
    → Refuses i x (ids_of xs) c e
refuses_if i x xs shown count of e p = absurd of
refuses_if i x xs shown (text v) of e p = absurd of
refuses_if i x xs shown (there v) of e p = absurd of
refuses_if i x xs shown (parents v) of e p = subst (λ (r : Records). IsStray x r v e) (sym (same_records i x xs shown)) (stray_if i x xs shown v e p)
refuses_if i x xs shown ring of e p = subst (λ (r : Records). RefusesBy r ring e) (sym (same_records i x xs shown)) p
refuses_if i x xs shown (format v) of e p = subst (λ (r : Records). RefusesBy r (format v) e) (sym (same_records i x xs shown)) p
refuses_if i x xs shown (capacity v) of e p = subst (λ (r : Records). RefusesBy r (capacity v) e) (sym (same_records i x xs shown)) p
refuses_if i x xs shown reading of e p = subst (λ (r : Records). RefusesBy r reading e) (sym (same_records i x xs shown)) p
refuses_if i x xs shown (layer v) of e p = absurd of
refuses_if i x xs shown (header v) of e p = absurd of

refuses_only : (i : Image) (x : Volumes) (xs : List Volume) → AreRead i x xs → (c : Check) → IsOfRecords c → (e : Refusal) → Refuses i x (ids_of xs) c e
    → RefusesBy (records_in xs) c e
refuses_only i x xs shown count of e p = absurd of
refuses_only i x xs shown (text v) of e p = absurd of
refuses_only i x xs shown (there v) of e p = absurd of
refuses_only i x xs shown (parents v) of e p = stray_only i x xs shown v e (subst (λ (r : Records). IsStray x r v e) (same_records i x xs shown) p)
refuses_only i x xs shown ring of e p = subst (λ (r : Records). RefusesBy r ring e) (same_records i x xs shown) p
refuses_only i x xs shown (format v) of e p = subst (λ (r : Records). RefusesBy r (format v) e) (same_records i x xs shown) p
refuses_only i x xs shown (capacity v) of e p = subst (λ (r : Records). RefusesBy r (capacity v) e) (same_records i x xs shown) p
refuses_only i x xs shown reading of e p = subst (λ (r : Records). RefusesBy r reading e) (same_records i x xs shown) p
refuses_only i x xs shown (layer v) of e p = absurd of
refuses_only i x xs shown (header v) of e p = absurd of

-- ---- lists of checks

abbrev AllOfRecords : List Check → Type 0
AllOfRecords [] = Unit {0}
AllOfRecords (c ∷ cs) = IsOfRecords c × AllOfRecords cs

abbrev pub NoneRefuses : Image → Volumes → List Id → List Check → Type 0
NoneRefuses i x vs [] = Unit {0}
NoneRefuses i x vs (c ∷ cs) = ((e : Refusal) → Refuses i x vs c e → ⊥) × NoneRefuses i x vs cs

first_refuses : (i : Image) (x : Volumes) (xs : List Volume) → AreRead i x xs → (cs : List Check) → AllOfRecords cs → (e : Refusal)
    → FirstIs (records_in xs) cs (Some e) → FirstRefusal i x (ids_of xs) cs e
first_refuses i x xs shown [] of e f = absurd cc
first_refuses i x xs shown (c ∷ cs) of e (inl f) =
    let p = refuses_if i x xs shown c of.0 f.0 f.1 in
    let same : f.0 ≡ e = cc in
    inl (subst (λ (a : Refusal). Refuses i x (ids_of xs) c a) same p)
first_refuses i x xs shown (c ∷ cs) of e (inr f) =
    inr ((λ other p. f.0 other (refuses_only i x xs shown c of.0 other p)), first_refuses i x xs shown cs of.1 e f.1)

first_none : (i : Image) (x : Volumes) (xs : List Volume) → AreRead i x xs → (cs : List Check) → AllOfRecords cs → FirstIs (records_in xs) cs None
    → NoneRefuses i x (ids_of xs) cs
first_none i x xs shown [] of f = tt
first_none i x xs shown (c ∷ cs) of (inl f) = let e = f.2 in absurd cc
first_none i x xs shown (c ∷ cs) of (inr f) =
    ((λ other p. f.0 other (refuses_only i x xs shown c of.0 other p)), first_none i x xs shown cs of.1 f.1)

refusal_first : (i : Image) (x : Volumes) (vs : List Id) (cs ds : List Check) (e : Refusal) → FirstRefusal i x vs cs e → FirstRefusal i x vs (cs ++ ds) e
refusal_first i x vs [] ds e f = absurd f
refusal_first i x vs (c ∷ cs) ds e (inl f) = inl f
refusal_first i x vs (c ∷ cs) ds e (inr f) = inr (f.0, refusal_first i x vs cs ds e f.1)

refusal_rest : (i : Image) (x : Volumes) (vs : List Id) (cs ds : List Check) (e : Refusal) → NoneRefuses i x vs cs → FirstRefusal i x vs ds e
    → FirstRefusal i x vs (cs ++ ds) e
refusal_rest i x vs [] ds e none f = f
refusal_rest i x vs (c ∷ cs) ds e none f = inr (none.0, refusal_rest i x vs cs ds e none.1 f)

pub none_both : (i : Image) (x : Volumes) (vs : List Id) (cs ds : List Check) → NoneRefuses i x vs cs → NoneRefuses i x vs ds → NoneRefuses i x vs (cs ++ ds)
none_both i x vs [] ds none more = more
none_both i x vs (c ∷ cs) ds none more = (none.0, none_both i x vs cs ds none.1 more)

none_map : (i : Image) (x : Volumes) (all vs : List Id) (f : Id → Check) → ((v : Id) → Contains vs v → (e : Refusal) → Refuses i x all (f v) e → ⊥)
    → NoneRefuses i x all (map f vs)
none_map i x all [] f none = tt
none_map i x all (v ∷ vs) f none = (none v (contains_here v vs), none_map i x all vs f (λ u h. none u (contains_more v u vs h)))

none_of : (i : Image) (x : Volumes) (vs : List Id) (cs : List Check) → ((c : Check) → Contains cs c → (e : Refusal) → Refuses i x vs c e → ⊥)
    → NoneRefuses i x vs cs
none_of i x vs [] none = tt
none_of i x vs (c ∷ cs) none = (none c (contains_here c cs), none_of i x vs cs (λ d h. none d (contains_more c d cs h)))

pub none_at : (i : Image) (x : Volumes) (vs : List Id) (cs : List Check) → NoneRefuses i x vs cs → (c : Check) → Contains cs c → (e : Refusal)
    → Refuses i x vs c e → ⊥
none_at i x vs [] none c h e p = nothing_in c h
none_at i x vs (d ∷ ds) none c h e p =
    elim (cons_cases d c ds h) [
      | inl same ↦ none.0 e (subst (λ (a : Check). Refuses i x vs a e) (sym same) p)
      | inr g ↦ none_at i x vs ds none.1 c g e p
    ]

-- ---- the checks of an opening: those of count, texts and files, those of records, and those of layers

abbrev pub front : List Id → List Check
front vs = count ∷ map text vs ++ map there vs

regrouped : (f p q s : List Check) (c : Check) → ((f ++ p) ++ q) ++ (c ∷ s) ≡ (f ++ ((p ++ q) ++ (c ∷ []))) ++ s
regrouped f p q s c = simp append_assoc

pub checks_are : (vs path : List Id) → checks vs path ≡ (front vs ++ record_checks vs) ++ both layer header path
checks_are vs path = regrouped (front vs) (map parents vs) (ring ∷ both format capacity vs) (both layer header path) reading

not_bad : (v : Id) (o : Option (Result VolumeRecord VolumeFault)) (y : VolumeRecord) (e : Refusal) → option_and_then record_in o ≡ Some y
    → IsBadText v o e → ⊥
not_bad v None y e is p = p
not_bad v (Some (Ok x)) y e is p = p
not_bad v (Some (Err fault)) y e is p = absurd cc

no_file : (o : Option File) (f : File) → o ≡ None → o ≡ Some f → ⊥
no_file o f p q = cc

some_file : (o : Option File) → is_some o ≡ true → (f : File) × (o ≡ Some f)
some_file None e = absurd (false≢true e)
some_file (Some f) e = (f, refl)

file_missing : (o : Option File) → is_some o ≡ false → o ≡ None
file_missing None e = refl
file_missing (Some f) e = absurd (false≢true (sym e))

-- each volume tells whether its file is there
abbrev Flags : Volumes → List Volume → Type 0
Flags x xs = (y : Volume) → Contains xs y → y.has_file ≡ is_some (x.file y.id)

pub all_there : (x : Volumes) (xs : List Volume) → Flags x xs → first_missing xs ≡ None → (v : Id) → Contains (ids_of xs) v → (f : File) × (x.file v ≡ Some f)
all_there x [] flags none v h = absurd (nothing_in v h)
all_there x (y ∷ ys) flags none v h = go y.has_file refl none (all_there x ys (λ z g. flags z (contains_more y z ys g))) (cons_cases y.id v (ids_of ys) h)
  where
    go : (b : Bool) → y.has_file ≡ b → (if b then first_missing ys else Some y.id) ≡ None → (first_missing ys ≡ None → (v : Id) → Contains (ids_of ys) v
        → (f : File) × (x.file v ≡ Some f))
        → (y.id ≡ v) ⊎ Contains (ids_of ys) v → (f : File) × (x.file v ≡ Some f)
    go false t n more at = absurd cc
    go true t n more (inl e) = subst (λ (z : Id). (f : File) × (x.file z ≡ Some f)) e (some_file (x.file y.id) (sym (flags y (contains_here y ys)) ∙ t))
    go true t n more (inr g) = more n v g

first_file : (i : Image) (x : Volumes) (all : List Id) (xs : List Volume) (v : Id) → Flags x xs → first_missing xs ≡ Some v
    → FirstRefusal i x all (map there (ids_of xs)) (NoVolume v)
first_file i x all [] v flags some = absurd cc
first_file i x all (y ∷ ys) v flags some = go y.has_file refl some (first_file i x all ys v (λ z g. flags z (contains_more y z ys g)))
  where
    go : (b : Bool) → y.has_file ≡ b → (if b then first_missing ys else Some y.id) ≡ Some v → (first_missing ys ≡ Some v
        → FirstRefusal i x all (map there (ids_of ys)) (NoVolume v))
        → FirstRefusal i x all (map there (ids_of (y ∷ ys))) (NoVolume v)
    go true t n more =
        let file = some_file (x.file y.id) (sym (flags y (contains_here y ys)) ∙ t) in
        inr ((λ other p. no_file (x.file y.id) file.0 p.0 file.1), more n)
    go false t n more =
        let same : v ≡ y.id = cc in
        inl (file_missing (x.file y.id) (sym (flags y (contains_here y ys)) ∙ t), ap (λ (z : Id). NoVolume z) same)

pub texts_pass : (i : Image) (x : Volumes) (xs : List Volume) → AreRead i x xs → NoneRefuses i x (ids_of xs) (count ∷ map text (ids_of xs))
texts_pass i x xs read = (
  (λ e p. omega (arith, p.0, read.few, length_ids xs)),
  none_map i x (ids_of xs) (ids_of xs) text (λ v h e p. let has = some_record xs v h in not_bad v (text_of i x v) has.0 e (read.records v ∙ has.1) p),
)

front_passes : (i : Image) (x : Volumes) (xs : List Volume) → IsShown i x xs → NoneRefuses i x (ids_of xs) (front (ids_of xs))
front_passes i x xs shown =
    none_both i x (ids_of xs) (count ∷ map text (ids_of xs)) (map there (ids_of xs)) (texts_pass i x xs shown.read)
    (none_map i x (ids_of xs) (ids_of xs) there (λ v h e p. let file = all_there x xs shown.read.files shown.there v h in no_file
    (x.file v) file.0 p.0 file.1))

all_parents : (vs : List Id) → AllOfRecords (map parents vs)
all_parents [] = tt
all_parents (v ∷ vs) = (tt, all_parents vs)

all_values : (vs : List Id) → AllOfRecords (both format capacity vs)
all_values [] = tt
all_values (v ∷ vs) = (tt, (tt, all_values vs))

all_joined : (cs ds : List Check) → AllOfRecords cs → AllOfRecords ds → AllOfRecords (cs ++ ds)
all_joined [] ds a b = b
all_joined (c ∷ cs) ds a b = (a.0, all_joined cs ds a.1 b)

all_of_records : (vs : List Id) → AllOfRecords (record_checks vs)
all_of_records vs =
    all_joined (map parents vs ++ ring ∷ both format capacity vs) (reading ∷ [])
    (all_joined (map parents vs) (ring ∷ both format capacity vs) (all_parents vs) (tt, all_values vs)) (tt, tt)

open_path_of : (i : Image) (x : Volumes) (xs : List Volume) → AreRead i x xs → (path : List Id) × IsOpenPath (records_of i x) path
open_path_of i x xs shown = open_path (records_of i x) (ids_of xs) (λ v y e. record_among xs v y (sym (shown.records v) ∙ e))

pub refused_by_files : (i : Image) (x : Volumes) (xs : List Volume) (v : Id) → AreRead i x xs → first_missing xs ≡ Some v → OpenFault i x (NoVolume v)
refused_by_files i x xs v read missing =
    let opened = open_path_of i x xs read in
    let by_files = refusal_rest i x (ids_of xs) (count ∷ map text (ids_of xs)) (map there (ids_of xs)) (NoVolume v) (texts_pass i x xs read)
    (first_file i x (ids_of xs) xs v read.files missing) in
    let first =
    refusal_first i x (ids_of xs) (front (ids_of xs) ++ record_checks (ids_of xs)) (both layer header opened.0) (NoVolume v)
    (refusal_first i x (ids_of xs) (front (ids_of xs)) (record_checks (ids_of xs)) (NoVolume v) by_files) in
    record {
      volumes = ids_of xs;
      path = opened.0;
      are = read.are;
      opened = opened.1;
      first = subst (λ (cs : List Check). FirstRefusal i x (ids_of xs) cs (NoVolume v)) (sym (checks_are (ids_of xs) opened.0)) first;
    }

pub refused_by_records : (i : Image) (x : Volumes) (xs : List Volume) (e : Refusal) → IsShown i x xs
    → FirstIs (records_in xs) (record_checks (ids_of xs)) (Some e) → OpenFault i x e
refused_by_records i x xs e shown f =
    let opened = open_path_of i x xs shown.read in
    let by_records = first_refuses i x xs shown.read (record_checks (ids_of xs)) (all_of_records (ids_of xs)) e f in
    let first =
    refusal_first i x (ids_of xs) (front (ids_of xs) ++ record_checks (ids_of xs)) (both layer header opened.0) e
    (refusal_rest i x (ids_of xs) (front (ids_of xs)) (record_checks (ids_of xs)) e (front_passes i x xs shown) by_records) in
    record {
      volumes = ids_of xs;
      path = opened.0;
      are = shown.read.are;
      opened = opened.1;
      first = subst (λ (cs : List Check). FirstRefusal i x (ids_of xs) cs e) (sym (checks_are (ids_of xs) opened.0)) first;
    }

pub passes_before_layers : (i : Image) (x : Volumes) (xs : List Volume) → IsShown i x xs → FirstIs (records_in xs) (record_checks (ids_of xs)) None
    → NoneRefuses i x (ids_of xs) (front (ids_of xs) ++ record_checks (ids_of xs))
passes_before_layers i x xs shown f =
    none_both i x (ids_of xs) (front (ids_of xs)) (record_checks (ids_of xs)) (front_passes i x xs shown)
    (first_none i x xs shown.read (record_checks (ids_of xs)) (all_of_records (ids_of xs)) f)

pub refused_by_layers : (i : Image) (x : Volumes) (xs : List Volume) (v : Id) (vs : List Id) (e : Refusal) → IsShown i x xs
    → FirstIs (records_in xs) (record_checks (ids_of xs)) None → IsReading (records_in xs) v vs
    → FirstRefusal i x (ids_of xs) (both layer header (path_of (records_in xs) v vs)) e → OpenFault i x e
refused_by_layers i x xs v vs e shown f reads by_layers =
    let first =
    refusal_rest i x (ids_of xs) (front (ids_of xs) ++ record_checks (ids_of xs)) (both layer header (path_of (records_in xs) v vs)) e
    (passes_before_layers i x xs shown f) by_layers in
    record {
      volumes = ids_of xs;
      path = path_of (records_in xs) v vs;
      are = shown.read.are;
      opened = subst (λ (r : Records). IsOpenPath r (path_of (records_in xs) v vs)) (sym (same_records i x xs shown.read)) (inl (v, vs, reads, refl));
      first = subst (λ (cs : List Check). FirstRefusal i x (ids_of xs) cs e) (sym (checks_are (ids_of xs) (path_of (records_in xs) v vs))) first;
    }

pub opened_by_records : (i : Image) (x : Volumes) (xs : List Volume) (v : Id) (vs : List Id) → IsShown i x xs
    → FirstIs (records_in xs) (record_checks (ids_of xs)) None → IsReading (records_in xs) v vs
    → ((c : Check) → Contains (both layer header (path_of (records_in xs) v vs)) c → (e : Refusal) → Refuses i x (ids_of xs) c e → ⊥) → IsOpenable i x v vs
opened_by_records i x xs v vs shown f reads layers =
    let cs = both layer header (path_of (records_in xs) v vs) in
    let none =
    none_both i x (ids_of xs) (front (ids_of xs) ++ record_checks (ids_of xs)) cs (passes_before_layers i x xs shown f)
    (none_of i x (ids_of xs) cs layers) in
    let path = ap (λ (r : Records). path_of r v vs) (sym (same_records i x xs shown.read)) in
    let all = subst (λ (ds : List Check). NoneRefuses i x (ids_of xs) ds) (sym (checks_are (ids_of xs) (path_of (records_in xs) v vs))) none in
    record {
      volumes = ids_of xs;
      are = shown.read.are;
      reads = subst (λ (r : Records). IsReading r v vs) (sym (same_records i x xs shown.read)) reads;
      passes = subst (λ (ps : List Id). (c : Check) → Contains (checks (ids_of xs) ps) c → (e : Refusal) → Refuses i x (ids_of xs) c e
          → ⊥) path (none_at i x (ids_of xs) (checks (ids_of xs) (path_of (records_in xs) v vs)) all);
    }
