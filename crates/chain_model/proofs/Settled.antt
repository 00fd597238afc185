-- Where an image can be opened and no parent on the chain is passed over, the headers tell the same chain.
use Rattle.std.proofs.Common.{◌≡◌, ◌⊎◌, ℕ, Bool, true, false, List, [], ◌∷◌, Option, Some, None, unwrap_or, refl, sym, ap, ◌∙◌, subst, inl, inr}
use Rattle.std.specs.Prelude.{◌≢◌, if◌then◌else◌, option_and_then}
use Rattle.std.specs.List.{Contains}
use Rattle.std.proofs.lemmas.Bool.{false≢true}
use Rattle.sd_names.specs.Id.{zero_id}
use Rattle.sd_names.specs.declared.fault.Key.TheVariants as key
use Rattle.sd_names.specs.declared.fault.VolumeFault.TheVariants.{BadValue}
use Rattle.sd_names.specs.declared.id.Id.{Id}
use Rattle.sd_names.specs.declared.kinds.Format.{Format}
use Rattle.sd_names.specs.declared.kinds.Format.TheVariants.{Raw, Cow}
use Rattle.sd_names.specs.declared.refusal.Refusal.{Refusal}
use Rattle.sd_names.specs.declared.refusal.Refusal.TheVariants.{MetaCorrupt, WrongParent}
use Rattle.shared_disk.specs.Content.{File}
use Rattle.shared_disk.specs.Places.{id_is}
use Rattle.shared_disk.proofs.Outcomes.{contains_here, contains_more}
use Rattle.shared_disk.proofs.Places.{id_is-itself, id_is-same}
use Rattle.volume_meta.specs.declared.record.VolumeRecord.{VolumeRecord}
use Rattle.chain_model.specs.Folder.{Volumes}
use Rattle.chain_model.specs.Records.{Image, Records, is_passed, parent, parent_in, records_of}
use Rattle.chain_model.specs.Chain.{AllCount, IsBelow, counting, path_of}
use Rattle.chain_model.specs.Up.{up_of}
use Rattle.chain_model.specs.Headers.{IsBacked, NameNext, backing, backing_by_record}
use Rattle.chain_model.specs.Flat.{first_of, flat}
use Rattle.chain_model.specs.Headers.{flat_by_headers}
use Rattle.chain_model.specs.Opening.{IsBadName, IsOpenable, format, header, named_by_header}
use Rattle.chain_model.proofs.Asked.{asks_format, asks_header}
use Rattle.chain_model.proofs.Chains.{cons_same, no_id, same_id}
use Rattle.chain_model.proofs.Opened.{text_there}

-- ---- the names of a path give a path, where the files are there

backed_if : (r : Records) (x : Volumes) (v : Id) (ws : List Id) → NameNext r x (v ∷ ws) → ((w : Id) → Contains ws w → (f : File) × (x.file w ≡ Some f)) → IsBacked r x v ws
backed_if r x v [] n files = n
backed_if r x v (w ∷ ws) n files = (n.0, files w (contains_here w ws), backed_if r x w ws n.1 (λ u h. files u (contains_more w u ws h)))

pub path_backed : (r : Records) (x : Volumes) (v : Id) (vs : List Id) → NameNext r x (path_of r v vs) → ((w : Id) → Contains (counting r vs) w → (f : File) × (x.file w ≡ Some f)) → IsBacked r x v (counting r vs)
path_backed r x v vs n files = backed_if r x v (counting r vs) n files

-- ---- what a header names that passes its check

parent_is : (y : VolumeRecord) (w : Id) → parent_in y ≡ Some w → (y.parent ≡ w) × (w ≢ zero_id)
parent_is y w e = go (id_is y.parent zero_id) refl e
  where
    go : (b : Bool) → id_is y.parent zero_id ≡ b → (if b then None else Some y.parent) ≡ Some w → (y.parent ≡ w) × (w ≢ zero_id)
    go true t e = absurd cc
    go false t e =
        let same : y.parent ≡ w = cc in
        (same, λ zero. false≢true (sym t ∙ ap (λ (p : Id). id_is p zero_id) (same ∙ zero) ∙ id_is-itself zero_id))

parent_zero : (y : VolumeRecord) → parent_in y ≡ None → y.parent ≡ zero_id
parent_zero y e = go (id_is y.parent zero_id) refl e
  where
    go : (b : Bool) → id_is y.parent zero_id ≡ b → (if b then None else Some y.parent) ≡ None → y.parent ≡ zero_id
    go true t e = id_is-same y.parent zero_id t
    go false t e = absurd cc

-- two identifiers are one or not
pub is_one : (a b : Id) → (a ≡ b) ⊎ (a ≢ b)
is_one a b = go (id_is a b) refl
  where
    go : (t : Bool) → id_is a b ≡ t → (a ≡ b) ⊎ (a ≢ b)
    go true e = inl (id_is-same a b e)
    go false e = inr (λ same. false≢true (sym e ∙ subst (λ (z : Id). id_is a z ≡ true) same (id_is-itself a)))

abbrev Passes : Volumes → Records → Id → Type 0
Passes x r u = (e : Refusal) → IsBadName x r u e → ⊥

-- both of what a header may name are one
names_that : (x : Volumes) (r : Records) (u w : Id) (us : List Id) (y : VolumeRecord) → Passes x r u → r u ≡ Some y → y.format ≡ Cow → IsBelow r u us → y.parent ≡ w → unwrap_or (up_of r us) zero_id ≡ w
    → named_by_header x r u ≡ w
names_that x r u w us y passes is cow below one two = go (is_one (named_by_header x r u) w)
  where
    go : (named_by_header x r u ≡ w) ⊎ (named_by_header x r u ≢ w) → named_by_header x r u ≡ w
    go (inl e) = e
    go (inr other) = absurd (passes (WrongParent u (named_by_header x r u)) (y, is, cow, us, below, (λ e. other (e ∙ one)), (λ e. other (e ∙ two)), refl))

named_some : (o : Option Id) (w : Id) → unwrap_or o zero_id ≡ w → w ≢ zero_id → o ≡ Some w
named_some None w e other = absurd (other (sym e))
named_some (Some a) w e other = ap (λ (z : Id). Some z) e

named_zero : (o : Option Id) (w : Id) → unwrap_or o zero_id ≡ zero_id → o ≡ Some w → w ≡ zero_id
named_zero None w e f = absurd cc
named_zero (Some a) w e f = let same : a ≡ w = cc in sym same ∙ e

-- a raw volume names none
raw_names_none : (y : VolumeRecord) (o : Option File) → y.format ≡ Raw → backing_by_record (Some y) o ≡ None
raw_names_none y None e = refl
raw_names_none y (Some f) e = rw e refl

none_names_none : (o : Option File) → backing_by_record None o ≡ None
none_names_none o = refl

-- ---- a chain on which no parent is passed over

all_count : (r : Records) (vs : List Id) → AllCount r vs → counting r vs ≡ vs
all_count r [] none = refl
all_count r (w ∷ ws) none = let here = none w (contains_here w ws) in rw here (ap (λ (us : List Id). w ∷ us) (all_count r ws (λ u h. none u (contains_more w u ws h))))

parent_counts : (r : Records) (w : Id) (ws : List Id) → is_passed r w ≡ false → up_of r (w ∷ ws) ≡ Some w
parent_counts r w ws e = rw e refl

-- a raw volume of the image has no parent
abbrev pub RawEnds : Records → Id → Type 0
RawEnds r w = (y : VolumeRecord) → r w ≡ Some y → y.format ≡ Raw → parent r w ≡ None

next_named : (x : Volumes) (r : Records) (u w : Id) (us : List Id) → Passes x r u → RawEnds r u → IsBelow r u (w ∷ us) → is_passed r w ≡ false → backing r x u ≡ Some w
next_named x r u w us passes raw below counts = go (r u) refl
  where
    of_format : (y : VolumeRecord) → r u ≡ Some y → (format : Format) → y.format ≡ format → parent_in y ≡ Some w → backing r x u ≡ Some w
    of_format y e Raw f p = absurd (no_id (parent r u) w (raw y e f) below.0)
    of_format y e Cow f p =
        let is = parent_is y w p in
        let up : unwrap_or (up_of r (w ∷ us)) zero_id ≡ w = ap (λ (o : Option Id). unwrap_or o zero_id) (parent_counts r w us counts) in
        named_some (backing r x u) w (names_that x r u w (w ∷ us) y passes e f below is.0 up) is.1

    go : (o : Option VolumeRecord) → r u ≡ o → backing r x u ≡ Some w
    go None e = absurd (no_id (parent r u) w (ap (λ (o : Option VolumeRecord). option_and_then parent_in o) e) below.0)
    go (Some y) e = of_format y e y.format refl (sym (ap (λ (o : Option VolumeRecord). option_and_then parent_in o) e) ∙ below.0)

-- the last volume of a chain names none, or the volume of zeros
last_named : (x : Volumes) (r : Records) (u a : Id) → Passes x r u → parent r u ≡ None → backing r x u ≡ Some a → a ≡ zero_id
last_named x r u a passes below b = go (r u) refl
  where
    of_format : (y : VolumeRecord) → r u ≡ Some y → (format : Format) → y.format ≡ format → parent_in y ≡ None → a ≡ zero_id
    of_format y e Raw f p = absurd (no_id (backing r x u) a (ap (λ (o : Option VolumeRecord). backing_by_record o (x.file u)) e ∙ raw_names_none y (x.file u) f) b)
    of_format y e Cow f p = named_zero (backing r x u) a (names_that x r u zero_id [] y passes e f below (parent_zero y p) refl) b

    go : (o : Option VolumeRecord) → r u ≡ o → a ≡ zero_id
    go None e = absurd (no_id (backing r x u) a (ap (λ (o : Option VolumeRecord). backing_by_record o (x.file u)) e ∙ none_names_none (x.file u)) b)
    go (Some y) e = of_format y e y.format refl (sym (ap (λ (o : Option VolumeRecord). option_and_then parent_in o) e) ∙ below)

no_such_file : (x : Volumes) (a : Id) (f : File) → a ≡ zero_id → x.file zero_id ≡ None → x.file a ≡ Some f → ⊥
no_such_file x a f e none some = no_file (x.file zero_id) f none (subst (λ (z : Id). x.file z ≡ Some f) e some)
  where
    no_file : (o : Option File) (g : File) → o ≡ None → o ≡ Some g → ⊥
    no_file o g p q = cc

follows : (x : Volumes) (r : Records) (u : Id) (us ws : List Id) → IsBelow r u us → AllCount r us → ((w : Id) → Contains (u ∷ us) w → Passes x r w × RawEnds r w) → x.file zero_id ≡ None → IsBacked r x u ws → ws ≡ us
follows x r u [] [] below counts passes none b = refl
follows x r u [] (a ∷ bs) below counts passes none b = absurd (no_such_file x a b.1.0 (last_named x r u a (passes u (contains_here u [])).0 below b.0) none b.1.1)
follows x r u (w ∷ us) [] below counts passes none b =
    let here = passes u (contains_here u (w ∷ us)) in
    absurd (no_id (backing r x u) w b (next_named x r u w us here.0 here.1 below (counts w (contains_here w us))))
follows x r u (w ∷ us) (a ∷ bs) below counts passes none b =
    let here = passes u (contains_here u (w ∷ us)) in
    let same = same_id (backing r x u) a w b.0 (next_named x r u w us here.0 here.1 below (counts w (contains_here w us))) in
    cons_same a w bs us same (
    follows x r w us bs below.1 (λ z h. counts z (contains_more w z us h)) (λ z h. passes z (contains_more u z (w ∷ us) h)) none
    (subst (λ (z : Id). IsBacked r x z bs) same b.2))

-- ---- the checks of an image that can be opened

pub raw_ends : (i : Image) (x : Volumes) (v : Id) (vs : List Id) (w : Id) → IsOpenable i x v vs → RawEnds (records_of i x) w
raw_ends i x v vs w o y is raw = go (parent (records_of i x) w) refl
  where
    go : (p : Option Id) → parent (records_of i x) w ≡ p → p ≡ None
    go None e = refl
    go (Some p) e =
        absurd (
        o.passes (format w) (asks_format o.volumes (path_of (records_of i x) v vs) w (o.are.all w (text_there _ (x.text w) y is))) (MetaCorrupt w (BadValue key.Format))
        (y, is, raw, (λ none. no_id (parent (records_of i x) w) p none e), refl))

pub chain_backed : (i : Image) (x : Volumes) (v : Id) (vs ws : List Id) → IsOpenable i x v vs → AllCount (records_of i x) vs → x.file zero_id ≡ None → IsBacked (records_of i x) x v ws → ws ≡ vs
chain_backed i x v vs ws o counts none b =
    let path : path_of (records_of i x) v vs ≡ v ∷ vs = ap (λ (us : List Id). v ∷ us) (all_count (records_of i x) vs counts) in
    follows x (records_of i x) v vs ws o.reads.below counts
    (λ w h. (o.passes (header w) (asks_header o.volumes (path_of (records_of i x) v vs) w (subst (λ (ps : List Id). Contains ps w) (sym path) h)), raw_ends i x v vs w o)) none b

pub chain_flat : (i : Image) (x : Volumes) (v : Id) (vs ws : List Id) (k : ℕ) → IsOpenable i x v vs → AllCount (records_of i x) vs → x.file zero_id ≡ None → IsBacked (records_of i x) x v ws
    → flat_by_headers (records_of i x) x v ws k ≡ flat (records_of i x) x v vs k
chain_flat i x v vs ws k o counts none b =
    let same = chain_backed i x v vs ws o counts none b ∙ sym (all_count (records_of i x) vs counts) in
    ap (λ (us : List Id). first_of (records_of i x) x (v ∷ us) k) same
