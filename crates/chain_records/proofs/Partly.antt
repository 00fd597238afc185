-- What stays on the way of settling, while some records are rewritten and others aren't.
use Rattle.std.proofs.Common.{◌≡◌, ◌⊎◌, ℕ, ◌<◌, nat_lt, Bool, true, false, List, [], ◌∷◌, Option, Some, None}
use Rattle.std.proofs.Common.{unwrap_or, refl, sym, ap, ◌∙◌, subst, inl, inr}
use Rattle.std.specs.Prelude.{if◌then◌else◌, option_and_then}
use Rattle.std.specs.List.{Contains}
use Rattle.sd_names.specs.declared.id.Id.{Id}
use Rattle.sd_names.specs.declared.kinds.Format.{Format}
use Rattle.sd_names.specs.declared.kinds.Format.TheVariants.{Cow, Raw}
use Rattle.sd_names.specs.declared.kinds.VolType.{VolType}
use Rattle.shared_disk.specs.Content.{File}
use Rattle.volume_meta.specs.declared.record.VolumeRecord.{VolumeRecord}
use Rattle.chain_model.specs.Chain.{IsBelow, counting, path_of}
use Rattle.chain_model.specs.Flat.{IsFlat, IsSectorOf, first_of, flat}
use Rattle.chain_model.specs.Folder.{Volumes}
use Rattle.chain_model.specs.Headers.{backing, backing_by_record, backing_in}
use Rattle.chain_model.specs.Own.{own, own_by, own_in, sector_by_format, sectors_of}
use Rattle.chain_model.specs.Reading.{IsReading}
use Rattle.chain_model.specs.Records.{Records, holds_in, is_legal, is_passed, legal_in, parent, parent_in, passed_in}
use Rattle.chain_model.specs.Up.{up_of}
use Rattle.chain_model.proofs.Chains.{one_below}
use Rattle.chain_records.specs.Paths.{HasChain}
use Rattle.chain_records.specs.Settling.{ArePartlyRewritten, IsRewritten}
use Rattle.chain_records.proofs.Settled.{counting_kept, counting_passed, legal_written, parent_rewritten, passed_rewritten, up_kept, up_passed}

-- ---- one volume

pub passed_alike : (r s : Records) (v : Id) (vs : List Id) → (s v ≡ r v) ⊎ IsRewritten r v (r v) (s v) → IsBelow r v vs → is_passed s v ≡ is_passed r v
passed_alike r s v vs (inl same) b = ap (λ (o : Option VolumeRecord). holds_in passed_in o) same
passed_alike r s v vs (inr is) b = passed_rewritten r s v vs is b

legal_of : (r s : Records) (v : Id) → (s v ≡ r v) ⊎ IsRewritten r v (r v) (s v) → is_legal s v ≡ is_legal r v
legal_of r s v (inl same) = ap (λ (o : Option VolumeRecord). holds_in legal_in o) same
legal_of r s v (inr is) = legal_written r v (r v) (s v) is

pub legal_alike : (r s : Records) (v : Id) → ArePartlyRewritten r s → is_legal s v ≡ is_legal r v
legal_alike r s v are = legal_of r s v (are v)

-- ---- chains

-- a chain of which the same volumes count
abbrev pub Alike : Records → Records → Id → List Id → Type 0
Alike r s v vs = (ws : List Id) × IsBelow s v ws × (counting s ws ≡ counting r vs)

next_alike : (r s : Records) (v w : Id) (ws : List Id) → parent s v ≡ Some w → is_passed s w ≡ is_passed r w → Alike r s w ws → Alike r s v (w ∷ ws)
next_alike r s v w ws e passed next = (w ∷ next.0, (e, next.1), go (is_passed r w) refl)
  where
    go : (t : Bool) → is_passed r w ≡ t → counting s (w ∷ next.0) ≡ counting r (w ∷ ws)
    go true t = counting_passed s w next.0 (passed ∙ t) ∙ next.2 ∙ sym (counting_passed r w ws t)
    go false t = counting_kept s w next.0 (passed ∙ t) ∙ ap (λ (us : List Id). w ∷ us) next.2 ∙ sym (counting_kept r w ws t)

skip_alike : (r s : Records) (v w : Id) (ws : List Id) → is_passed r w ≡ true → Alike r s v ws → Alike r s v (w ∷ ws)
skip_alike r s v w ws t past = (past.0, past.1, past.2 ∙ sym (counting_passed r w ws t))

-- of the chain of a volume, and of one whose parent is its parent that counts
pub chain_alike : (r s : Records) (a : Id) (us : List Id) → ArePartlyRewritten r s → IsBelow r a us → ((v : Id) → parent s v ≡ up_of r us
    → Alike r s v us) × Alike r s a us
chain_alike r s a [] are b = (first, own_chain (are a))
  where
    first : (v : Id) → parent s v ≡ None → Alike r s v []
    first v e = ([], e, refl)

    own_chain : (s a ≡ r a) ⊎ IsRewritten r a (r a) (s a) → Alike r s a []
    own_chain (inl same) = first a (ap (λ (o : Option VolumeRecord). option_and_then parent_in o) same ∙ b)
    own_chain (inr is) = first a (parent_rewritten r s a [] is b)
chain_alike r s a (w ∷ ws) are b = go (chain_alike r s w ws are b.1)
  where
    passed : is_passed s w ≡ is_passed r w
    passed = passed_alike r s w ws (are w) b.1

    from : ((v : Id) → parent s v ≡ up_of r ws → Alike r s v ws) → Alike r s w ws → (v : Id) → (t : Bool) → is_passed r w ≡ t
        → parent s v ≡ up_of r (w ∷ ws) → Alike r s v (w ∷ ws)
    from past next v true t e = skip_alike r s v w ws t (past v (e ∙ up_passed r w ws t))
    from past next v false t e = next_alike r s v w ws (e ∙ up_kept r w ws t) passed next

    own_chain : (s a ≡ r a) ⊎ IsRewritten r a (r a) (s a) → ((v : Id) → parent s v ≡ up_of r (w ∷ ws) → Alike r s v (w ∷ ws)) → Alike r s w ws
        → Alike r s a (w ∷ ws)
    own_chain (inl same) first next = next_alike r s a w ws (ap (λ (o : Option VolumeRecord). option_and_then parent_in o) same ∙ b.0) passed next
    own_chain (inr is) first next = first a (parent_rewritten r s a (w ∷ ws) is b)

    go : ((v : Id) → parent s v ≡ up_of r ws → Alike r s v ws) × Alike r s w ws → ((v : Id) → parent s v ≡ up_of r (w ∷ ws)
        → Alike r s v (w ∷ ws)) × Alike r s a (w ∷ ws)
    go both =
        let first = λ (v : Id) (e : parent s v ≡ up_of r (w ∷ ws)). from both.0 both.1 v (is_passed r w) refl e in
        (first, own_chain (are a) first both.1)

pub still_chain : (r s : Records) (v : Id) (vs : List Id) → ArePartlyRewritten r s → IsBelow r v vs → HasChain s v
still_chain r s v vs are b = let alike = (chain_alike r s v vs are b).1 in (alike.0, alike.1)

pub path_alike : (r s : Records) (v : Id) (vs ws : List Id) → ArePartlyRewritten r s → IsBelow r v vs → IsBelow s v ws → path_of s v ws ≡ path_of r v vs
path_alike r s v vs ws are b c =
    let alike = (chain_alike r s v vs are b).1 in
    let same = one_below s v ws alike.0 c alike.1 in
    ap (λ (us : List Id). path_of s v us) same ∙ ap (λ (us : List Id). v ∷ us) alike.2

pub reading_alike : (r s : Records) (v : Id) (vs : List Id) → ArePartlyRewritten r s → IsReading r v vs → (ws : List Id) × IsReading s v ws
reading_alike r s v vs are reads = (
  chain.0,
  record {
    below = chain.1;
    legal = legal_alike r s v are ∙ reads.legal;
    all = λ u legal. subst (λ (ps : List Id). Contains ps u) (sym (path_alike r s v vs chain.0 are reads.below chain.1)) (reads.all u (sym
        (legal_alike r s u are) ∙ legal));
  },
)
  where
    chain : HasChain s v
    chain = still_chain r s v vs are reads.below

-- ---- sectors and names

format_alike : (x : VolumeRecord) (p : Id) (t : VolType) (f : File) (k : ℕ) (format : Format)
    → sector_by_format format (record x { parent = p; voltype = t }) f k ≡ sector_by_format format x f k
format_alike x p t f k Raw = refl
format_alike x p t f k Cow = refl

own_in_alike : (x : VolumeRecord) (p : Id) (t : VolType) (f : File) (k : ℕ) → own_in (record x { parent = p; voltype = t }) f k ≡ own_in x f k
unfolding own_in
own_in_alike x p t f k = ap (λ (o : Option (List ℕ)). if nat_lt k (sectors_of x) then o else None) (format_alike x p t f k x.format)

own_written : (r : Records) (v : Id) (o a : Option VolumeRecord) → IsRewritten r v o a → (file : Option File) (k : ℕ) → own_by a file k ≡ own_by o file k
own_written r v None a is file k = ap (λ (z : Option VolumeRecord). own_by z file k) is
own_written r v (Some x) a is None k = ap (λ (z : Option VolumeRecord). own_by z None k) is.2
own_written r v (Some x) a is (Some f) k = ap (λ (z : Option VolumeRecord). own_by z (Some f) k) is.2 ∙ own_in_alike x is.0 is.1 f k

own_of : (r s : Records) (y : Volumes) (v : Id) (k : ℕ) → (s v ≡ r v) ⊎ IsRewritten r v (r v) (s v) → own s y v k ≡ own r y v k
own_of r s y v k (inl same) = ap (λ (o : Option VolumeRecord). own_by o (y.file v) k) same
own_of r s y v k (inr is) = own_written r v (r v) (s v) is (y.file v) k

pub own_alike : (r s : Records) (y : Volumes) (v : Id) (k : ℕ) → ArePartlyRewritten r s → own s y v k ≡ own r y v k
own_alike r s y v k are = own_of r s y v k (are v)

name_in_alike : (x : VolumeRecord) (p : Id) (t : VolType) (f : File) (format : Format)
    → backing_in format (record x { parent = p; voltype = t }) f ≡ backing_in format x f
name_in_alike x p t f Raw = refl
name_in_alike x p t f Cow = refl

name_written : (r : Records) (v : Id) (o a : Option VolumeRecord) → IsRewritten r v o a → (file : Option File)
    → backing_by_record a file ≡ backing_by_record o file
name_written r v None a is file = ap (λ (z : Option VolumeRecord). backing_by_record z file) is
name_written r v (Some x) a is None = ap (λ (z : Option VolumeRecord). backing_by_record z None) is.2
name_written r v (Some x) a is (Some f) = ap (λ (z : Option VolumeRecord). backing_by_record z (Some f)) is.2 ∙ name_in_alike x is.0 is.1 f x.format

name_of : (r s : Records) (y : Volumes) (v : Id) → (s v ≡ r v) ⊎ IsRewritten r v (r v) (s v) → backing s y v ≡ backing r y v
name_of r s y v (inl same) = ap (λ (o : Option VolumeRecord). backing_by_record o (y.file v)) same
name_of r s y v (inr is) = name_written r v (r v) (s v) is (y.file v)

pub name_alike : (r s : Records) (y : Volumes) (v : Id) → ArePartlyRewritten r s → backing s y v ≡ backing r y v
name_alike r s y v are = name_of r s y v (are v)

first_alike : (r s : Records) (y : Volumes) (vs : List Id) (k : ℕ) → ArePartlyRewritten r s → first_of s y vs k ≡ first_of r y vs k
first_alike r s y [] k are = refl
first_alike r s y (v ∷ vs) k are =
    ap (λ (o : Option (List ℕ)). unwrap_or o (first_of s y vs k)) (own_alike r s y v k are)
    ∙ ap (λ (rest : List ℕ). unwrap_or (own r y v k) rest) (first_alike r s y vs k are)

flat_alike : (r s : Records) (y : Volumes) (v : Id) (vs ws : List Id) (k : ℕ) → ArePartlyRewritten r s → IsBelow r v vs → IsBelow s v ws
    → flat s y v ws k ≡ flat r y v vs k
flat_alike r s y v vs ws k are b c =
    ap (λ (ps : List Id). first_of s y ps k) (path_alike r s v vs ws are b c) ∙ first_alike r s y (path_of r v vs) k are

pub same_record : (o : Option VolumeRecord) (a b : VolumeRecord) → o ≡ Some a → o ≡ Some b → a ≡ b
same_record o a b e f = cc

sector_written : (r : Records) (v : Id) (o a : Option VolumeRecord) (z : VolumeRecord) (k : ℕ) → IsRewritten r v o a → a ≡ Some z → k < sectors_of z
    → (x : VolumeRecord) × (o ≡ Some x) × (k < sectors_of x)
sector_written r v None a z k is e lt = absurd cc
sector_written r v (Some x) a z k is e lt =
    (x, refl, subst (λ (y : VolumeRecord). k < sectors_of y) (same_record a z (record x { parent = is.0; voltype = is.1 }) e is.2) lt)

sector_of : (r s : Records) (v : Id) (k : ℕ) → (s v ≡ r v) ⊎ IsRewritten r v (r v) (s v) → IsSectorOf s v k → IsSectorOf r v k
sector_of r s v k (inl same) at = (at.0, sym same ∙ at.1, at.2)
sector_of r s v k (inr is) at = sector_written r v (r v) (s v) at.0 k is at.1 at.2

pub flats_alike : (r s : Records) (flats : Id → ℕ → List ℕ) (y : Volumes) → ArePartlyRewritten r s → ((v : Id) → HasChain r v) → IsFlat r flats y
    → IsFlat s flats y
flats_alike r s flats y are chains reads u us legal c k at =
    let chain = chains u in
    flat_alike r s y u chain.0 us k are chain.1 c ∙ reads u chain.0 (sym (legal_alike r s u are) ∙ legal) chain.1 k (sector_of r s u k (are u) at)
