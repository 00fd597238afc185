-- What volumes read as, by the chain and by the headers.
use Rattle.std.proofs.Common.{◌≡◌, ℕ, List, [], ◌∷◌, Option, unwrap_or, refl, ap, ap₂, subst}
use Rattle.sd_names.specs.declared.id.Id.{Id}
use Rattle.sd_names.specs.declared.place.Dir.{Dir}
use Rattle.shared_disk.specs.Content.{Content}
use Rattle.shared_disk.specs.Crash.{IsOutcome}
use Rattle.shared_disk.specs.NameCalls.{place_in}
use Rattle.chain_model.specs.Folder.{Folder, HoldSameVolumes, IsFolderOutcome, Volumes, folder_of, volumes_of}
use Rattle.chain_model.specs.Records.{Records}
use Rattle.chain_model.specs.Chain.{counting, path_of}
use Rattle.chain_model.specs.Own.{own}
use Rattle.chain_model.specs.Flat.{first_of, flat}
use Rattle.chain_model.specs.Headers.{IsBacked, NameNext, backing, flat_by_headers}
use Rattle.chain_model.proofs.Chains.{cons_same, no_id, same_id}

pub same_volumes : (F G : Folder) → HoldSameVolumes F G → volumes_of G ≡ volumes_of F
same_volumes F G h = λ i. record { text = λ v. h.text v i; file = λ v. h.file v i }

pub folder_outcome : (dir : Dir) (d o : Content) → IsOutcome d o → IsFolderOutcome (folder_of dir d) (folder_of dir o)
folder_outcome dir d o h name = h.files (place_in dir name)

backed_step : (r : Records) (x : Volumes) (v : Id) (ws us : List Id) → NameNext r x (v ∷ ws) → IsBacked r x v us → us ≡ ws
backed_step r x v [] [] n b = refl
backed_step r x v [] (u ∷ us) n b = absurd (no_id (backing r x v) u n b.0)
backed_step r x v (w ∷ ws) [] n b = absurd (no_id (backing r x v) w b n.0)
backed_step r x v (w ∷ ws) (u ∷ us) n b =
    let same = same_id (backing r x v) u w b.0 n.0 in
    cons_same u w us ws same (backed_step r x w ws us n.1 (subst (λ (y : Id). IsBacked r x y us) same b.2))

pub backed_path : (r : Records) (x : Volumes) (v : Id) (vs ws : List Id) → NameNext r x (path_of r v vs) → IsBacked r x v ws → ws ≡ counting r vs
backed_path r x v vs ws n b = backed_step r x v (counting r vs) ws n b

pub backed_flat : (r : Records) (x : Volumes) (v : Id) (vs ws : List Id) (k : ℕ) → NameNext r x (path_of r v vs) → IsBacked r x v ws → flat_by_headers r x v ws k ≡ flat r x v vs k
backed_flat r x v vs ws k n b = ap (λ (us : List Id). first_of r x (v ∷ us) k) (backed_path r x v vs ws n b)

first_alike : (r : Records) (x y : Volumes) (vs : List Id) (k : ℕ) → ((w : Id) → own r y w k ≡ own r x w k) → first_of r y vs k ≡ first_of r x vs k
first_alike r x y [] k same = refl
first_alike r x y (v ∷ vs) k same = ap₂ (λ (o : Option (List ℕ)) (s : List ℕ). unwrap_or o s) (same v) (first_alike r x y vs k same)

pub flat_alike : (r : Records) (x y : Volumes) (v : Id) (vs : List Id) (k : ℕ) → ((w : Id) → own r y w k ≡ own r x w k) → flat r y v vs k ≡ flat r x v vs k
flat_alike r x y v vs k same = first_alike r x y (path_of r v vs) k same
