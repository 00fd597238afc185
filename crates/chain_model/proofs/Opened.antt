-- An image can be opened exactly where it has no first refusal.
use Rattle.std.proofs.Common.{◌≡◌, ◌⊎◌, Bool, true, false, List, [], ◌∷◌, Option, Some, None, Result, refl, sym, ap, ◌∙◌, subst, inl, inr}
use Rattle.std.specs.Prelude.{option_and_then}
use Rattle.std.specs.List.{Contains, list_any}
use Rattle.std.specs.Option.{is_some, option_map}
use Rattle.std.proofs.lemmas.Bool.{false≢true}
use Rattle.std.proofs.lemmas.Map.Made.{is_member-Decides}
use Rattle.sd_names.specs.declared.fault.VolumeFault.{VolumeFault}
use Rattle.sd_names.specs.declared.id.Id.{Id}
use Rattle.sd_names.specs.declared.refusal.Refusal.{Refusal}
use Rattle.sd_names.specs.declared.refusal.Refusal.TheVariants.{NoReadingVolume}
use Rattle.shared_disk.specs.Content.{File}
use Rattle.shared_disk.specs.Places.{id_is}
use Rattle.shared_disk.proofs.Outcomes.{contains_here, contains_more, nothing_in, cons_cases}
use Rattle.volume_meta.specs.declared.record.VolumeRecord.{VolumeRecord}
use Rattle.chain_model.specs.Folder.{Volumes}
use Rattle.chain_model.specs.Records.{Image, Records, holds_in, is_legal, legal_in, record_in, records_of}
use Rattle.chain_model.specs.Chain.{ComesToRing, IsBelow, path_of}
use Rattle.chain_model.specs.Reading.{IsReading}
use Rattle.chain_model.specs.Opening.{AreVolumes, Check, FirstRefusal, IsOpenable, IsOpenPath, OpenFault, Refuses, checks, reading}
use Rattle.chain_model.proofs.Asked.{asks_reading}
use Rattle.chain_model.proofs.Chains.{one_below}
use Rattle.chain_model.proofs.Refusals.{one_list, one_path}
use Rattle.chain_model.proofs.Rings.{chain_or_ring, id_is-Decides, no_chain}

-- ---- there is a reading volume, or there is none

-- the volume holds all LEGAL ones of some on its path, or misses one
holds_all : (r : Records) (ps ws : List Id) → ((u : Id) → Contains ws u → is_legal r u ≡ true → Contains ps u) ⊎ ((u : Id) × (is_legal r u ≡ true) × (Contains ps u → ⊥))
holds_all r ps [] = inl (λ u h. absurd (nothing_in u h))
holds_all r ps (w ∷ ws) = go (is_legal r w) refl (list_any (id_is w) ps) refl (holds_all r ps ws)
  where
    first : (u : Id) → (w ≡ u) ⊎ Contains ws u → (w ≡ u → Contains ps u) → (Contains ws u → Contains ps u) → Contains ps u
    first u (inl e) here more = here e
    first u (inr g) here more = more g

    go : (a : Bool) → is_legal r w ≡ a → (b : Bool) → list_any (id_is w) ps ≡ b
        → ((u : Id) → Contains ws u → is_legal r u ≡ true → Contains ps u) ⊎ ((u : Id) × (is_legal r u ≡ true) × (Contains ps u → ⊥))
        → ((u : Id) → Contains (w ∷ ws) u → is_legal r u ≡ true → Contains ps u) ⊎ ((u : Id) × (is_legal r u ≡ true) × (Contains ps u → ⊥))
    go a e b f (inr other) = inr other
    go false e b f (inl more) =
        inl (λ u h legal. first u (cons_cases w u ws h) (λ same. absurd (false≢true (sym e ∙ ap (λ (x : Id). is_legal r x) same ∙ legal))) (λ g. more u g legal))
    go true e true f (inl more) =
        inl (λ u h legal. first u (cons_cases w u ws h) (λ same. subst (λ (x : Id). Contains ps x) same ((is_member-Decides id_is-Decides ps w).0 f)) (λ g. more u g legal))
    go true e false f (inl more) = inr (w, e, λ h. false≢true (sym f ∙ (is_member-Decides id_is-Decides ps w).1 h))

-- each volume that is LEGAL has a record, so that it is one of these
legal_record : (o : Option VolumeRecord) → holds_in legal_in o ≡ true → (x : VolumeRecord) × (o ≡ Some x)
legal_record None e = absurd (false≢true e)
legal_record (Some x) e = (x, refl)

reads_or_not : (r : Records) (all : List Id) → ((v : Id) (x : VolumeRecord) → r v ≡ Some x → Contains all v) → (v : Id)
    → ((vs : List Id) × IsReading r v vs) ⊎ ((vs : List Id) → IsReading r v vs → ⊥)
reads_or_not r all known v = go (is_legal r v) refl (chain_or_ring r all known v)
  where
    of_path : is_legal r v ≡ true → (vs : List Id) → IsBelow r v vs
        → ((u : Id) → Contains all u → is_legal r u ≡ true → Contains (path_of r v vs) u) ⊎ ((u : Id) × (is_legal r u ≡ true) × (Contains (path_of r v vs) u → ⊥))
        → ((vs : List Id) × IsReading r v vs) ⊎ ((vs : List Id) → IsReading r v vs → ⊥)
    of_path e vs b (inl holds) =
        inl (vs, record { below = b; legal = e; all = λ u legal. let has = legal_record (r u) legal in holds u (known u has.0 has.1) legal })
    of_path e vs b (inr other) =
        inr (λ ws a. other.2 (subst (λ (us : List Id). Contains (path_of r v us) other.0) (one_below r v ws vs a.below b) (a.all other.0 other.1)))

    go : (t : Bool) → is_legal r v ≡ t → ((vs : List Id) × IsBelow r v vs) ⊎ ComesToRing r v → ((vs : List Id) × IsReading r v vs) ⊎ ((vs : List Id) → IsReading r v vs → ⊥)
    go false e chain = inr (λ vs a. false≢true (sym e ∙ a.legal))
    go true e (inr ring) = inr (λ vs a. no_chain r v vs ring a.below)
    go true e (inl b) = of_path e b.0 b.1 (holds_all r (path_of r v b.0) all)

reading_among : (r : Records) (all ws : List Id) → ((v : Id) (x : VolumeRecord) → r v ≡ Some x → Contains all v)
    → ((v : Id) × (vs : List Id) × IsReading r v vs) ⊎ ((v : Id) → Contains ws v → (vs : List Id) → IsReading r v vs → ⊥)
reading_among r all [] known = inr (λ v h vs a. nothing_in v h)
reading_among r all (w ∷ ws) known = go (reads_or_not r all known w) (reading_among r all ws known)
  where
    other : (v : Id) (vs : List Id) → (w ≡ v) ⊎ Contains ws v → ((us : List Id) → IsReading r w us → ⊥) → (Contains ws v → ⊥) → IsReading r v vs → ⊥
    other v vs (inl e) none more a = none vs (subst (λ (x : Id). IsReading r x vs) (sym e) a)
    other v vs (inr g) none more a = more g

    go : ((vs : List Id) × IsReading r w vs) ⊎ ((vs : List Id) → IsReading r w vs → ⊥)
        → ((v : Id) × (vs : List Id) × IsReading r v vs) ⊎ ((v : Id) → Contains ws v → (vs : List Id) → IsReading r v vs → ⊥)
        → ((v : Id) × (vs : List Id) × IsReading r v vs) ⊎ ((v : Id) → Contains (w ∷ ws) v → (vs : List Id) → IsReading r v vs → ⊥)
    go (inl a) rest = inl (w, a.0, a.1)
    go (inr none) (inl a) = inl a
    go (inr none) (inr rest) = inr (λ v h vs a. other v vs (cons_cases w v ws h) none (λ g. rest v g vs a) a)

pub open_path : (r : Records) (all : List Id) → ((v : Id) (x : VolumeRecord) → r v ≡ Some x → Contains all v) → (path : List Id) × IsOpenPath r path
open_path r all known = go (reading_among r all all known)
  where
    go : ((v : Id) × (vs : List Id) × IsReading r v vs) ⊎ ((v : Id) → Contains all v → (vs : List Id) → IsReading r v vs → ⊥) → (path : List Id) × IsOpenPath r path
    go (inl a) = (path_of r a.0 a.1, inl (a.0, a.1, a.2, refl))
    go (inr none) = ([], inr ((λ v vs a. let has = legal_record (r v) a.legal in none v (known v has.0 has.1) vs a), refl))

-- a record is read from a text that is there
pub text_there : (f : File → Result VolumeRecord VolumeFault) (o : Option File) (x : VolumeRecord) → option_and_then record_in (option_map f o) ≡ Some x → is_some o ≡ true
text_there f None x e = absurd cc
text_there f (Some g) x e = refl

-- ---- no check of an image that can be opened refuses

refuses_at : (i : Image) (x : Volumes) (vs : List Id) (cs : List Check) (e : Refusal) → FirstRefusal i x vs cs e → (c : Check) × Contains cs c × Refuses i x vs c e
refuses_at i x vs [] e f = absurd f
refuses_at i x vs (c ∷ cs) e (inl f) = (c, contains_here c cs, f)
refuses_at i x vs (c ∷ cs) e (inr f) = let rest = refuses_at i x vs cs e f.1 in (rest.0, contains_more c rest.0 cs rest.1, rest.2)

path_opened : (r : Records) (v : Id) (vs path : List Id) → IsReading r v vs → IsOpenPath r path → path ≡ path_of r v vs
path_opened r v vs path a o = one_path r path (path_of r v vs) o (inl (v, vs, a, refl))

pub openable_without : (i : Image) (x : Volumes) (v : Id) (vs : List Id) (e : Refusal) → IsOpenable i x v vs → OpenFault i x e → ⊥
openable_without i x v vs e o f =
    let volumes = one_list x f.volumes o.volumes f.are o.are in
    let path = path_opened (records_of i x) v vs f.path o.reads f.opened in
    let by_path = subst (λ (ps : List Id). FirstRefusal i x f.volumes (checks f.volumes ps) e) path f.first in
    let first = subst (λ (us : List Id). FirstRefusal i x us (checks us (path_of (records_of i x) v vs)) e) volumes by_path in
    let at = refuses_at i x o.volumes (checks o.volumes (path_of (records_of i x) v vs)) e first in
    o.passes at.0 at.1 e at.2

-- ---- and where none refuses, it can

none_refuses : (i : Image) (x : Volumes) (vs : List Id) (cs : List Check) → ((e : Refusal) → FirstRefusal i x vs cs e → ⊥) → (c : Check) → Contains cs c → (e : Refusal) → Refuses i x vs c e → ⊥
none_refuses i x vs [] none c h e f = nothing_in c h
none_refuses i x vs (d ∷ ds) none c h e f =
    elim (cons_cases d c ds h) [
      | inl same ↦ none e (inl (subst (λ (k : Check). Refuses i x vs k e) (sym same) f))
      | inr g ↦ none_refuses i x vs ds (λ other rest. none other (inr ((λ a p. none a (inl p)), rest))) c g e f
    ]

pub openable_if_none : (i : Image) (x : Volumes) (all : List Id) → AreVolumes x all → ((e : Refusal) → OpenFault i x e → ⊥) → (v : Id) × (vs : List Id) × IsOpenable i x v vs
openable_if_none i x all are none = go (opened.0) opened.1 (λ e first. none e (record { volumes = all; path = opened.0; are = are; opened = opened.1; first = first }))
  where
    opened : (path : List Id) × IsOpenPath (records_of i x) path
    opened = open_path (records_of i x) all (λ v y e. are.all v (text_there _ (x.text v) y e))

    go : (path : List Id) → IsOpenPath (records_of i x) path → ((e : Refusal) → FirstRefusal i x all (checks all path) e → ⊥) → (v : Id) × (vs : List Id) × IsOpenable i x v vs
    go path (inl a) refused =
        (a.0, a.1, record { volumes = all; are = are; reads = a.2; passes = subst (λ (ps : List Id). (c : Check) → Contains (checks all ps) c → (e : Refusal) → Refuses i x all c e → ⊥) a.3 (none_refuses i x all (checks all path) refused) })
    go path (inr n) refused = absurd (none_refuses i x all (checks all path) refused reading (asks_reading all path) NoReadingVolume (n.0, refl))
