-- What a volume reads as is what the first volume of its path holds, or zeros.
use Rattle.std.proofs.Common.{◌≡◌, ℕ, ◌≤◌, false, nat_lt, List, [], ◌∷◌, ◌++◌, Option, Some, None, unwrap_or, refl, ap, ◌∙◌}
use Rattle.std.specs.Prelude.{if◌then◌else◌}
use Rattle.std.specs.List.{Contains}
use Rattle.std.proofs.lemmas.Bool.{le-ltb}
use Rattle.sd_names.specs.declared.id.Id.{Id}
use Rattle.shared_disk.specs.Content.{File, zero_sector}
use Rattle.shared_disk.proofs.Outcomes.{contains_here, contains_more}
use Rattle.volume_meta.specs.declared.record.VolumeRecord.{VolumeRecord}
use Rattle.chain_model.specs.Folder.{Volumes}
use Rattle.chain_model.specs.Records.{Records}
use Rattle.chain_model.specs.Chain.{path_of}
use Rattle.chain_model.specs.Own.{own, own_in, sector_by_format, sectors_of}
use Rattle.chain_model.specs.Flat.{first_of, flat}

first_held : (r : Records) (x : Volumes) (ps : List Id) (w : Id) (ws : List Id) (k : ℕ) (s : List ℕ) → ((u : Id) → Contains ps u → own r x u k ≡ None) → own r x w k ≡ Some s → first_of r x (ps ++ w ∷ ws) k ≡ s
first_held r x [] w ws k s none held = ap (λ (o : Option (List ℕ)). unwrap_or o (first_of r x ws k)) held
first_held r x (p ∷ ps) w ws k s none held =
    ap (λ (o : Option (List ℕ)). unwrap_or o (first_of r x (ps ++ w ∷ ws) k)) (none p (contains_here p ps))
    ∙ first_held r x ps w ws k s (λ u h. none u (contains_more p u ps h)) held

pub reads_first : (r : Records) (x : Volumes) (v : Id) (vs ps : List Id) (w : Id) (ws : List Id) (k : ℕ) (s : List ℕ) → path_of r v vs ≡ ps ++ w ∷ ws
    → ((u : Id) → Contains ps u → own r x u k ≡ None) → own r x w k ≡ Some s → flat r x v vs k ≡ s
reads_first r x v vs ps w ws k s path none held = ap (λ (us : List Id). first_of r x us k) path ∙ first_held r x ps w ws k s none held

none_held : (r : Records) (x : Volumes) (ps : List Id) (k : ℕ) → ((u : Id) → Contains ps u → own r x u k ≡ None) → first_of r x ps k ≡ zero_sector
none_held r x [] k none = refl
none_held r x (p ∷ ps) k none =
    ap (λ (o : Option (List ℕ)). unwrap_or o (first_of r x ps k)) (none p (contains_here p ps)) ∙ none_held r x ps k (λ u h. none u (contains_more p u ps h))

pub reads_zeros : (r : Records) (x : Volumes) (v : Id) (vs : List Id) (k : ℕ) → ((u : Id) → Contains (path_of r v vs) u → own r x u k ≡ None) → flat r x v vs k ≡ zero_sector
reads_zeros r x v vs k none = none_held r x (path_of r v vs) k none

pub none_past_capacity : (x : VolumeRecord) (f : File) (k : ℕ) → sectors_of x ≤ k → own_in x f k ≡ None
unfolding own_in
none_past_capacity x f k le =
    let past : nat_lt k (sectors_of x) ≡ false = le-ltb k (sectors_of x) le in
    ap (λ b. if b then sector_by_format x.format x f k else None) past
