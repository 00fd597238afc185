-- The first volume without its file.
use Rattle.std.proofs.Common.{◌≡◌, Bool, true, false, if◌then◌else◌, List, [], ◌∷◌, ◌++◌, map, Option, Some, None, refl, sym, ap, ◌∙◌, subst, inl, inr}
use Rattle.std.specs.Option.{is_some}
use Rattle.std.proofs.lemmas.Bool.{false≢true}
use Rattle.sd_names.specs.declared.id.Id.{Id}
use Rattle.sd_names.specs.declared.refusal.Refusal.{Refusal}
use Rattle.sd_names.specs.declared.refusal.Refusal.TheVariants.{NoVolume}
use Rattle.shared_disk.specs.Content.{File}
use Rattle.shared_disk.proofs.Outcomes.{contains_here, contains_more}
use Rattle.chain_model.specs.Folder.{Volumes}
use Rattle.chain_model.specs.Opening.{Check, FirstRefusal, IsMissing, there}
use Rattle.chain_model.specs.Records.{Image}
use Rattle.chain_gathering.specs.Kept.{first_missing, ids_found}
use Rattle.chain_gathering.specs.Knowing.{AreThere}
use Rattle.chain_gathering.specs.declared.found.Found.{Found}

not_there : (o : Option File) → is_some o ≡ false → o ≡ None
not_there None e = refl
not_there (Some f) e = absurd (false≢true (sym e))

is_missing : (x : Volumes) (w : Found) → w.has_file ≡ is_some (x.file w.id) → w.has_file ≡ false → IsMissing x w.id (NoVolume w.id)
is_missing x w are none = (not_there (x.file w.id) (sym are ∙ none), refl)

not_missing : (x : Volumes) (w : Found) (e : Refusal) → w.has_file ≡ is_some (x.file w.id) → w.has_file ≡ true → IsMissing x w.id e → ⊥
not_missing x w e are has missing = false≢true (sym (ap is_some missing.0) ∙ sym are ∙ has)

rest_there : (x : Volumes) (w : Found) (ws : List Found) → AreThere x (w ∷ ws) → AreThere x ws
rest_there x w ws are u h = are u (contains_more w u ws h)

pub missing_first : (i : Image) (x : Volumes) (vs : List Id) (ws : List Found) (v : Id) (rest : List Check) → AreThere x ws → first_missing ws ≡ Some v
    → FirstRefusal i x vs (map there (ids_found ws) ++ rest) (NoVolume v)
missing_first i x vs [] v rest are first = absurd cc
missing_first i x vs (w ∷ ws) v rest are first = go w.has_file refl first (missing_first i x vs ws v rest (rest_there x w ws are))
  where
    go : (t : Bool) → w.has_file ≡ t → (if t then first_missing ws else Some w.id) ≡ Some v → (first_missing ws ≡ Some v → FirstRefusal i x vs (map there (ids_found ws) ++ rest) (NoVolume v))
        → FirstRefusal i x vs (map there (ids_found (w ∷ ws)) ++ rest) (NoVolume v)
    go true has first more = inr (λ other missing. not_missing x w other (are w (contains_here w ws)) has missing, more first)
    go false none first more =
        let same : w.id ≡ v = cc in
        inl (subst (λ (u : Id). IsMissing x w.id (NoVolume u)) same (is_missing x w (are w (contains_here w ws)) none))

pub missing_none : (i : Image) (x : Volumes) (vs : List Id) (ws : List Found) (rest : List Check) (e : Refusal) → AreThere x ws → first_missing ws ≡ None
    → FirstRefusal i x vs rest e → FirstRefusal i x vs (map there (ids_found ws) ++ rest) e
missing_none i x vs [] rest e are none first = first
missing_none i x vs (w ∷ ws) rest e are none first = go w.has_file refl none (λ more. missing_none i x vs ws rest e (rest_there x w ws are) more first)
  where
    go : (t : Bool) → w.has_file ≡ t → (if t then first_missing ws else Some w.id) ≡ None → (first_missing ws ≡ None → FirstRefusal i x vs (map there (ids_found ws) ++ rest) e)
        → FirstRefusal i x vs (map there (ids_found (w ∷ ws)) ++ rest) e
    go true has none more = inr (λ other missing. not_missing x w other (are w (contains_here w ws)) has missing, more none)
    go false gone none more = absurd cc
