-- Which name or folder has a text, and that there is only one.
use Rattle.std.proofs.Common.{◌≡◌, ◌≢◌, ℕ, ◌+◌, List, [], ◌∷◌, ◌++◌, length, length-append, take, drop, ◌==◌, if◌then◌else◌, codes, Option, Some, None, IfSome, IfNone, append_assoc, refl, sym, ap, ◌∙◌}
use Rattle.std.proofs.lemmas.List.{take_at, drop_at, append-nil, take-append-drop}
use Rattle.std.specs.List.{IsSplitAt}
use Rattle.sd_names.specs.Id.{IsIdBytes, id_text}
use Rattle.sd_names.specs.Place.{name_text, name_rank}
use Rattle.sd_names.specs.declared.id.Id.{Id}
use Rattle.sd_names.specs.declared.place.Dir.{Dir}
use Rattle.sd_names.specs.declared.place.Dir.TheVariants.{Root, Domain, DomMd, Images, Image, Removed, Master, Tasks}
use Rattle.sd_names.specs.declared.place.Name.{Name}
use Rattle.sd_names.specs.declared.place.Name.TheVariants.{Metadata, MetadataNew, Leases, Inbox, Outbox, Volume, Meta, MetaNew, MetaVolatile, VolumeLease, Task, TaskNew}
use Rattle.sd_names.proofs.IdLemmas.{id_text-length}
use Rattle.sd_names.proofs.PlaceLemmas.{dir_path-injective, name_text-injective}
use Rattle.folder_layout.specs.Layout.{IsDomainFile, IsVolumeFile, IsTaskFile, IsNamed, IsFolderIn}

-- ---- the identifier that a text begins with

pub front_of : (id : Id) (rest text : List ℕ) → text ≡ id_text id.0 ++ rest → take 36 text ≡ id_text id.0
front_of id rest text e = rw e (take_at (id_text id.0) rest 36 (id_text-length id.0))

pub back_of : (id : Id) (rest text : List ℕ) → text ≡ id_text id.0 ++ rest → drop 36 text ≡ rest
back_of id rest text e = rw e (drop_at (id_text id.0) rest 36 (id_text-length id.0))

pub long_enough : (id : Id) (rest text : List ℕ) → text ≡ id_text id.0 ++ rest → length text ≡ 36 + length rest
long_enough id rest text e = rw e (length-append (id_text id.0) rest ∙ ap (λ (k : ℕ). k + length rest) (id_text-length id.0))

-- what stands behind the identifiers of one text is one
pub same_back : (a b : Id) (xs ys : List ℕ) → id_text a.0 ++ xs ≡ id_text b.0 ++ ys → xs ≡ ys
same_back a b xs ys e = sym (back_of a xs _ refl) ∙ back_of b ys _ e

-- an identifier alone
pub whole : (id : Id) → id_text id.0 ≡ id_text id.0 ++ []
whole id = sym (append-nil (id_text id.0))

-- the front and the back of a text make it
pub joined_id : (text front rest : List ℕ) (id : Id) → IsSplitAt text 36 front rest → id_text id.0 ≡ front → text ≡ id_text id.0 ++ rest
joined_id text front rest id split e = rw (e, split.1, split.2) (sym (take-append-drop 36 text))

-- ---- names

rank_of_task : (name : Name) → IsTaskFile name → name_rank name ≡ (if length (name_text name) == 36 then 1 else 0)
rank_of_task Metadata kind = absurd kind
rank_of_task MetadataNew kind = absurd kind
rank_of_task Leases kind = absurd kind
rank_of_task Inbox kind = absurd kind
rank_of_task Outbox kind = absurd kind
rank_of_task (Volume v) kind = absurd kind
rank_of_task (Meta v) kind = absurd kind
rank_of_task (MetaNew v) kind = absurd kind
rank_of_task (MetaVolatile v) kind = absurd kind
rank_of_task (VolumeLease v) kind = absurd kind
rank_of_task (Task t) kind = rw (id_text-length t.0) refl
rank_of_task (TaskNew t) kind = rw (long_enough t (codes ".new") _ refl) refl

rank_of_volume : (name : Name) → IsVolumeFile name → name_rank name ≡ 0
rank_of_volume (Task t) kind = absurd kind
rank_of_volume Metadata kind = refl
rank_of_volume MetadataNew kind = refl
rank_of_volume Leases kind = refl
rank_of_volume Inbox kind = refl
rank_of_volume Outbox kind = refl
rank_of_volume (Volume v) kind = refl
rank_of_volume (Meta v) kind = refl
rank_of_volume (MetaNew v) kind = refl
rank_of_volume (MetaVolatile v) kind = refl
rank_of_volume (VolumeLease v) kind = refl
rank_of_volume (TaskNew t) kind = refl

rank_of_domain_file : (name : Name) → IsDomainFile name → name_rank name ≡ 0
rank_of_domain_file (Task t) kind = absurd kind
rank_of_domain_file Metadata kind = refl
rank_of_domain_file MetadataNew kind = refl
rank_of_domain_file Leases kind = refl
rank_of_domain_file Inbox kind = refl
rank_of_domain_file Outbox kind = refl
rank_of_domain_file (Volume v) kind = refl
rank_of_domain_file (Meta v) kind = refl
rank_of_domain_file (MetaNew v) kind = refl
rank_of_domain_file (MetaVolatile v) kind = refl
rank_of_domain_file (VolumeLease v) kind = refl
rank_of_domain_file (TaskNew t) kind = refl

-- names of one kind have ranks by their texts
abbrev pub IsRanked : (Name → Type 0) → Type 0
IsRanked Kind = (a b : Name) → Kind a → Kind b → name_text a ≡ name_text b → name_rank a ≡ name_rank b

pub tasks_ranked : IsRanked IsTaskFile
tasks_ranked a b is_a is_b same =
    rank_of_task a is_a ∙ ap (λ (t : List ℕ). if length t == 36 then 1 else 0) same ∙ sym (rank_of_task b is_b)

pub volumes_ranked : IsRanked IsVolumeFile
volumes_ranked a b is_a is_b same = rank_of_volume a is_a ∙ sym (rank_of_volume b is_b)

pub domain_files_ranked : IsRanked IsDomainFile
domain_files_ranked a b is_a is_b same = rank_of_domain_file a is_a ∙ sym (rank_of_domain_file b is_b)

-- a text that gives a name of a kind, where there is one, gives the only one
pub found_name : (Kind : Name → Type 0) (text : List ℕ) (r : Option Name) → IsRanked Kind → IfSome r (IsNamed Kind text)
    → IfNone r ((name : Name) → IsNamed Kind text name → ⊥) → (name : Name) → IsNamed Kind text name → r ≡ Some name
found_name Kind text None ranked named refused name is = absurd (refused name is)
found_name Kind text (Some a) ranked named refused name is =
    let same : name_text a ≡ name_text name = named.spelled ∙ sym is.spelled in
    ap Some (name_text-injective a name named.ids is.ids same (ranked a name named.kind is.kind same))

pub no_domain_file : (text : List ℕ) (name : Name) → text ≢ codes "metadata" → text ≢ codes "metadata.new" → text ≢ codes "leases"
    → text ≢ codes "inbox" → text ≢ codes "outbox" → IsNamed IsDomainFile text name → ⊥
no_domain_file text Metadata a b c d e is = a (sym is.spelled)
no_domain_file text MetadataNew a b c d e is = b (sym is.spelled)
no_domain_file text Leases a b c d e is = c (sym is.spelled)
no_domain_file text Inbox a b c d e is = d (sym is.spelled)
no_domain_file text Outbox a b c d e is = e (sym is.spelled)
no_domain_file text (Volume v) a b c d e is = is.kind
no_domain_file text (Meta v) a b c d e is = is.kind
no_domain_file text (MetaNew v) a b c d e is = is.kind
no_domain_file text (MetaVolatile v) a b c d e is = is.kind
no_domain_file text (VolumeLease v) a b c d e is = is.kind
no_domain_file text (Task t) a b c d e is = is.kind
no_domain_file text (TaskNew t) a b c d e is = is.kind

-- the texts of an image's files begin with an identifier, and one of five ends stands behind it
pub volume_ends : (text : List ℕ) (name : Name) → IsNamed IsVolumeFile text name
    → (P : List ℕ → Type 0) → ((id : Id) (rest : List ℕ) → IsIdBytes id.0 → text ≡ id_text id.0 ++ rest → P rest)
    → (P [] → ⊥) → (P (codes ".meta") → ⊥) → (P (codes ".meta.new") → ⊥) → (P (codes ".meta.volatile") → ⊥) → (P (codes ".lease") → ⊥) → ⊥
volume_ends text (Volume v) is P ends a b c d e = a (ends v [] is.ids (sym is.spelled ∙ whole v))
volume_ends text (Meta v) is P ends a b c d e = b (ends v (codes ".meta") is.ids (sym is.spelled))
volume_ends text (MetaNew v) is P ends a b c d e = c (ends v (codes ".meta.new") is.ids (sym is.spelled))
volume_ends text (MetaVolatile v) is P ends a b c d e = d (ends v (codes ".meta.volatile") is.ids (sym is.spelled))
volume_ends text (VolumeLease v) is P ends a b c d e = e (ends v (codes ".lease") is.ids (sym is.spelled))
volume_ends text Metadata is P ends a b c d e = is.kind
volume_ends text MetadataNew is P ends a b c d e = is.kind
volume_ends text Leases is P ends a b c d e = is.kind
volume_ends text Inbox is P ends a b c d e = is.kind
volume_ends text Outbox is P ends a b c d e = is.kind
volume_ends text (Task t) is P ends a b c d e = is.kind
volume_ends text (TaskNew t) is P ends a b c d e = is.kind

-- those of tasks likewise, with one of two ends
pub task_ends : (text : List ℕ) (name : Name) → IsNamed IsTaskFile text name
    → (P : List ℕ → Type 0) → ((id : Id) (rest : List ℕ) → IsIdBytes id.0 → text ≡ id_text id.0 ++ rest → P rest)
    → (P [] → ⊥) → (P (codes ".new") → ⊥) → ⊥
task_ends text (Task t) is P ends a b = a (ends t [] is.ids (sym is.spelled ∙ whole t))
task_ends text (TaskNew t) is P ends a b = b (ends t (codes ".new") is.ids (sym is.spelled))
task_ends text Metadata is P ends a b = is.kind
task_ends text MetadataNew is P ends a b = is.kind
task_ends text Leases is P ends a b = is.kind
task_ends text Inbox is P ends a b = is.kind
task_ends text Outbox is P ends a b = is.kind
task_ends text (Volume v) is P ends a b = is.kind
task_ends text (Meta v) is P ends a b = is.kind
task_ends text (MetaNew v) is P ends a b = is.kind
task_ends text (MetaVolatile v) is P ends a b = is.kind
task_ends text (VolumeLease v) is P ends a b = is.kind

pub no_volume_file : (text : List ℕ) (name : Name) (id : Id) (rest : List ℕ) → text ≡ id_text id.0 ++ rest
    → rest ≢ [] → rest ≢ codes ".meta" → rest ≢ codes ".meta.new" → rest ≢ codes ".meta.volatile" → rest ≢ codes ".lease" → IsNamed IsVolumeFile text name → ⊥
no_volume_file text name id rest e a b c d f is =
    volume_ends text name is (λ (end : List ℕ). rest ≡ end) (λ other end ids other_e. same_back id other rest end (sym e ∙ other_e)) a b c d f

pub no_task_file : (text : List ℕ) (name : Name) (id : Id) (rest : List ℕ) → text ≡ id_text id.0 ++ rest
    → rest ≢ [] → rest ≢ codes ".new" → IsNamed IsTaskFile text name → ⊥
no_task_file text name id rest e a b is =
    task_ends text name is (λ (end : List ℕ). rest ≡ end) (λ other end ids other_e. same_back id other rest end (sym e ∙ other_e)) a b

pub no_volume_id : (text : List ℕ) (name : Name) → ((id : Id) (rest : List ℕ) → IsIdBytes id.0 → text ≢ id_text id.0 ++ rest) → IsNamed IsVolumeFile text name → ⊥
no_volume_id text name none is =
    volume_ends text name is (λ (end : List ℕ). ⊥) (λ id end ids e. none id end ids e) (λ f. f) (λ f. f) (λ f. f) (λ f. f) (λ f. f)

pub no_task_id : (text : List ℕ) (name : Name) → ((id : Id) (rest : List ℕ) → IsIdBytes id.0 → text ≢ id_text id.0 ++ rest) → IsNamed IsTaskFile text name → ⊥
no_task_id text name none is =
    task_ends text name is (λ (end : List ℕ). ⊥) (λ id end ids e. none id end ids e) (λ f. f) (λ f. f)

-- ---- folders

pub found_dir : (dir : Dir) (text : List ℕ) (r : Option Dir) → IfSome r (IsFolderIn dir text)
    → IfNone r ((q : Dir) → IsFolderIn dir text q → ⊥) → (q : Dir) → IsFolderIn dir text q → r ≡ Some q
found_dir dir text None inside refused q is = absurd (refused q is)
found_dir dir text (Some a) inside refused q is = ap Some (dir_path-injective a q inside.ids is.ids (inside.path ∙ sym is.path))

-- a folder of the shared folder is a domain's
pub root_ids : (text : List ℕ) (q : Dir) → IsFolderIn Root text q → ((sd : Id) → IsIdBytes sd.0 → text ≡ id_text sd.0 → ⊥) → ⊥
root_ids text Root is none = is.other refl
root_ids text (Domain sd) is none = none sd is.ids (sym is.path)
root_ids text (DomMd sd) is none = let e = is.inside in cc
root_ids text (Images sd) is none = let e = is.inside in cc
root_ids text (Image sd image) is none = let e = is.inside in cc
root_ids text (Removed sd image) is none = let e = is.inside in cc
root_ids text (Master sd) is none = let e = is.inside in cc
root_ids text (Tasks sd) is none = let e = is.inside in cc

-- a text behind a slash
tail_of : (a b : Id) (end text : List ℕ) → id_text a.0 ++ 47 ∷ end ≡ id_text b.0 ++ 47 ∷ text → text ≡ end
tail_of a b end text e = sym (ap (drop 1) (same_back a b (47 ∷ end) (47 ∷ text) e))

pub no_domain_folder : (sd : Id) (text : List ℕ) (q : Dir) → text ≢ codes "dom_md" → text ≢ codes "images" → text ≢ codes "master"
    → IsFolderIn (Domain sd) text q → ⊥
no_domain_folder sd text Root a b c is = is.other refl
no_domain_folder sd text (Domain s) a b c is = let e = is.inside in cc
no_domain_folder sd text (DomMd s) a b c is = a (tail_of s sd (codes "dom_md") text is.path)
no_domain_folder sd text (Images s) a b c is = b (tail_of s sd (codes "images") text is.path)
no_domain_folder sd text (Image s i) a b c is = let e = is.inside in cc
no_domain_folder sd text (Removed s i) a b c is = let e = is.inside in cc
no_domain_folder sd text (Master s) a b c is = c (tail_of s sd (codes "master") text is.path)
no_domain_folder sd text (Tasks s) a b c is = let e = is.inside in cc

-- the text behind the eight bytes between a domain's identifier and an image's
image_tail : (s sd : Id) (end text : List ℕ) → id_text s.0 ++ (codes "/images/" ++ end) ≡ id_text sd.0 ++ codes "/images" ++ 47 ∷ text → text ≡ end
image_tail s sd end text e =
    sym (ap (drop 8) (same_back s sd (codes "/images/" ++ end) (codes "/images" ++ 47 ∷ text) (e ∙ append_assoc (id_text sd.0) (codes "/images") (47 ∷ text))))

pub image_ids : (sd : Id) (text : List ℕ) (q : Dir) → IsFolderIn (Images sd) text q
    → ((image : Id) → IsIdBytes image.0 → text ≡ id_text image.0 → ⊥)
    → ((image : Id) → IsIdBytes image.0 → text ≡ codes "_remove_" ++ id_text image.0 → ⊥) → ⊥
image_ids sd text Root is a b = is.other refl
image_ids sd text (Domain s) is a b = let e = is.inside in cc
image_ids sd text (DomMd s) is a b = let e = is.inside in cc
image_ids sd text (Images s) is a b = let e = is.inside in cc
image_ids sd text (Image s i) is a b =
    a i is.ids.1 (image_tail s sd (id_text i.0) text (sym (append_assoc (id_text s.0) (codes "/images/") (id_text i.0)) ∙ is.path))
image_ids sd text (Removed s i) is a b =
    b i is.ids.1 (image_tail s sd (codes "_remove_" ++ id_text i.0) text (sym (append_assoc (id_text s.0) (codes "/images/_remove_") (id_text i.0)) ∙ is.path))
image_ids sd text (Master s) is a b = let e = is.inside in cc
image_ids sd text (Tasks s) is a b = let e = is.inside in cc

master_tail : (s sd : Id) (end text : List ℕ) → id_text s.0 ++ (codes "/master/" ++ end) ≡ id_text sd.0 ++ codes "/master" ++ 47 ∷ text → text ≡ end
master_tail s sd end text e =
    sym (ap (drop 8) (same_back s sd (codes "/master/" ++ end) (codes "/master" ++ 47 ∷ text) (e ∙ append_assoc (id_text sd.0) (codes "/master") (47 ∷ text))))

pub no_master_folder : (sd : Id) (text : List ℕ) (q : Dir) → text ≢ codes "tasks" → IsFolderIn (Master sd) text q → ⊥
no_master_folder sd text Root a is = is.other refl
no_master_folder sd text (Domain s) a is = let e = is.inside in cc
no_master_folder sd text (DomMd s) a is = let e = is.inside in cc
no_master_folder sd text (Images s) a is = let e = is.inside in cc
no_master_folder sd text (Image s i) a is = let e = is.inside in cc
no_master_folder sd text (Removed s i) a is = let e = is.inside in cc
no_master_folder sd text (Master s) a is = let e = is.inside in cc
no_master_folder sd text (Tasks s) a is = a (master_tail s sd (codes "tasks") text is.path)

-- ---- the folders that a text names

pub is_tasks : (sd : Id) (text : List ℕ) → IsIdBytes sd.0 → text ≡ codes "tasks" → IsFolderIn (Master sd) text (Tasks sd)
is_tasks sd text is e = record {
  ids = is;
  other = λ same. cc;
  inside = refl;
  path = rw e (sym (append_assoc (id_text sd.0) (codes "/master") (codes "/tasks")));
}

pub is_removed : (sd image : Id) (text : List ℕ) → IsIdBytes sd.0 → IsIdBytes image.0 → text ≡ codes "_remove_" ++ id_text image.0
    → IsFolderIn (Images sd) text (Removed sd image)
is_removed sd image text is_sd is_image e = record {
  ids = (is_sd, is_image);
  other = λ same. cc;
  inside = refl;
  path = rw e (append_assoc (id_text sd.0) (codes "/images/_remove_") (id_text image.0) ∙ sym (append_assoc (id_text sd.0) (codes "/images") (codes "/_remove_" ++ id_text image.0)));
}

pub removed_length : (image : Id) (text : List ℕ) → text ≡ codes "_remove_" ++ id_text image.0 → length text ≡ 44
removed_length image text e = rw e (length-append (codes "_remove_") (id_text image.0) ∙ ap (λ (k : ℕ). 8 + k) (id_text-length image.0))
