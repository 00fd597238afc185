-- What a text tells that was read and refused, and that a text that stands is read.
use Rattle.std.proofs.Common.{◌≡◌, ℕ, ◌≤◌, Bool, true, false, List, [], length, Option, Some, None, Result, Ok, Err, refl, sym, ap, subst, ◌∙◌, inl, inr, arith, ◌<◌, ◌⊎◌}
use Rattle.std.proofs.lemmas.Bool.{false≢true}
use Rattle.std.proofs.lemmas.Option.{none-some, same_Some}
use Rattle.kv_text.specs.Gives.{Gives}
use Rattle.sd_names.specs.declared.id.Id.{Id}
use Rattle.sd_names.specs.declared.place.Place.{Place}
use Rattle.sd_names.specs.declared.refusal.Refusal.{Refusal}
use Rattle.sd_names.specs.declared.refusal.Refusal.TheVariants.{DiskFault, OutOfMemory, TaskCorrupt}
use Rattle.shared_disk.specs.Content.{Content, File, Loose, without}
use Rattle.shared_disk.proofs.AtPlace.{no_file, one_file}
use Rattle.task_store.proofs.Back.{reads_back}
use Rattle.task_store.proofs.Short.{is_short, no_zero}
use Rattle.task_store.specs.ReadTask.{or_corrupt, task_of}
use Rattle.task_store.specs.TaskText.{IsValid, text_of as task_text}
use Rattle.task_store.specs.declared.task.Task.{Task}
use Rattle.task_files.specs.Read.{Finds, ReadsTask, SeesNone}
use Rattle.task_files.specs.TaskFile.{HasTask}
use Rattle.whole_file.proofs.Reading.{text_read_again}
use Rattle.whole_file.specs.Text.{IsTextFile, longest, text_of}

abbrev refusal_in : Result Task Refusal → Refusal
refusal_in (Ok t) = OutOfMemory
refusal_in (Err refusal) = refusal

abbrev is_task : Result Task Refusal → Bool
is_task (Ok t) = true
is_task (Err refusal) = false

pub refused : (host : ℕ) (place : Place) (id : Id) (faults : ℕ) (refusal : Refusal) (o : Option Task) (text : List ℕ) (d : Content) (f : File) → d.file place ≡ Some f → task_of id text ≡ o
    → length text ≤ longest → (without host f.loose ≡ [] → text ≡ text_of host f) → Gives {X = Task} OutOfMemory (Err refusal) (or_corrupt id o) → Finds (Err refusal) host place id faults d
refused host place id faults refusal None text d f there is short same (inl e) =
    subst (λ (r : Refusal). Finds (Err r) host place id faults d) (sym (ap refusal_in e)) (f, there, λ alone. inr (ap (λ (xs : List ℕ). task_of id xs) (sym (same alone)) ∙ is))
refused host place id faults refusal None text d f there is short same (inr e) = absurd (false≢true e.1)
refused host place id faults refusal (Some t) text d f there is short same (inl e) = absurd (false≢true (ap is_task e))
refused host place id faults refusal (Some t) text d f there is short same (inr e) =
    subst (λ (r : Refusal). Finds (Err r) host place id faults d) (sym e.0)
    (f, there, λ alone. (t, record { short = subst (λ (xs : List ℕ). length xs ≤ longest) (same alone) short; task = ap (λ (xs : List ℕ). task_of id xs) (sym (same alone)) ∙ is }))

-- the text of a task that stands in a file reads as that task, and is not too long
stored_text : (host : ℕ) (t : Task) (f : File) → IsValid t → IsTextFile (task_text t) f → text_of host f ≡ task_text t
stored_text host t f valid is = text_read_again host (task_text t) f (no_zero t valid.task) is

stored_task : (host : ℕ) (t : Task) (f : File) → IsValid t → IsTextFile (task_text t) f → task_of t.id (text_of host f) ≡ Some t
stored_task host t f valid is = ap (λ (xs : List ℕ). task_of t.id xs) (stored_text host t f valid is) ∙ reads_back t valid

not_long : (a b : ℕ) → a ≤ longest → b ≡ a → longest < b → ⊥
not_long a b short same long = omega (arith, short, same, long)

never_corrupt : (host : ℕ) (t : Task) (f : File) → IsValid t → IsTextFile (task_text t) f → SeesNone host t.id f → ⊥
never_corrupt host t f valid is (inl long) = not_long (length (task_text t)) (length (text_of host f)) (is_short t valid.task) (ap (λ (xs : List ℕ). length xs) (stored_text host t f valid is)) long
never_corrupt host t f valid is (inr none) = none-some t (sym none ∙ stored_task host t f valid is)

-- the file that was found is the one that stands there
found_file : (place : Place) (t : Task) (d : Content) (f : File) → HasTask place (Some t) d → d.file place ≡ Some f → IsTextFile (task_text t) f
found_file place t d f has there = subst (λ (g : File). IsTextFile (task_text t) g) (one_file has.0 f (d.file place) has.1 there) has.2

nobody_writes : (host : ℕ) (text : List ℕ) (f : File) → IsTextFile text f → without host f.loose ≡ []
nobody_writes host text f is = ap (λ (ls : List Loose). without host ls) is.settled.loose

pub stored : (host faults : ℕ) (place : Place) (t : Task) (result : Result (Option Task) Refusal) (d e : Content) → IsValid t → HasTask place (Some t) d → ReadsTask host place t.id faults result d e
    → (result ≡ Ok (Some t)) ⊎ ((result ≡ Err OutOfMemory) ⊎ (result ≡ Err (DiskFault faults)))
stored host faults place t (Ok None) d e valid has is = absurd (no_file has.0 (d.file place) is.1 has.1)
stored host faults place t (Ok (Some x)) d e valid has is =
    let f : File = is.1.0 in
    let here : IsTextFile (task_text t) f = found_file place t d f has is.1.1 in
    inl (ap (λ (y : Task). Ok (Some y)) (same_Some x t (sym (is.1.2 (nobody_writes host (task_text t) f here)).task ∙ stored_task host t f valid here)))
stored host faults place t (Err (TaskCorrupt y)) d e valid has is =
    let f : File = is.1.0 in
    let here : IsTextFile (task_text t) f = found_file place t d f has is.1.1 in
    absurd (never_corrupt host t f valid here (is.1.2 (nobody_writes host (task_text t) f here)))
stored host faults place t (Err OutOfMemory) d e valid has is = inr (inl refl)
stored host faults place t (Err refusal) d e valid has is = inr (inr (ap (λ (r : Refusal). Err r) is.1))

pub none_stored : (host faults : ℕ) (place : Place) (id : Id) (result : Result (Option Task) Refusal) (d e : Content) → HasTask place None d → ReadsTask host place id faults result d e
    → (result ≡ Ok None) ⊎ (result ≡ Err (DiskFault faults))
none_stored host faults place id (Ok None) d e none is = inl refl
none_stored host faults place id (Ok (Some x)) d e none is = absurd (no_file is.1.0 (d.file place) none is.1.1)
none_stored host faults place id (Err (TaskCorrupt y)) d e none is = absurd (no_file is.1.0 (d.file place) none is.1.1)
none_stored host faults place id (Err OutOfMemory) d e none is = absurd (no_file is.1.0 (d.file place) none is.1.1)
none_stored host faults place id (Err refusal) d e none is = inr (ap (λ (r : Refusal). Err r) is.1)
