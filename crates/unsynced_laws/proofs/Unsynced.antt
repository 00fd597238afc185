-- Whose unsynced writes a folder has behind each call.
use Rattle.std.proofs.Common.{◌≡◌, ◌≢◌, ℕ, ◌==◌, Bool, true, false, List, Option, Some, None, Result, Ok, Err, refl, sym, ap, subst, ◌∙◌, inl, inr}
use Rattle.std.proofs.lemmas.Bool.{false≢true}
use Rattle.std.specs.Prelude.{MatchBool}
use Rattle.sd_names.specs.declared.place.Dir.{Dir}
use Rattle.sd_names.specs.declared.place.Name.{Name}
use Rattle.sd_names.specs.declared.place.Place.{Place}
use Rattle.sd_names.specs.declared.turn.Turn.{Turn}
use Rattle.shared_disk.specs.Calls.{Creates, HasLength, IsCreated, IsPut, IsSame, MakesDir, ReadAt, Syncs, WriteAt, created, synced, wrote}
use Rattle.shared_disk.specs.Changes.{exchanged, grown}
use Rattle.shared_disk.specs.Content.{Content, File}
use Rattle.shared_disk.specs.Crash.{DownLeaves, IsAlso, IsDownFile}
use Rattle.shared_disk.specs.NameCalls.{IsDirMoved, IsRemoved, IsRenamed, MovesDir, NextDir, NextName, Removes, RemovesDir, Renames, place_in}
use Rattle.shared_disk.specs.Places.{dir_is, place_is}
use Rattle.shared_disk.specs.SectorCalls.{Exchanges, Grows, IsExchanged, IsGrown}
use Rattle.shared_disk.specs.declared.disk.DiskAnswer.{DiskAnswer}
use Rattle.shared_disk.specs.declared.disk.DiskAnswer.TheVariants.{NoFile, Exists, OutOfFile, NotEmpty, Failed}
use Rattle.shared_disk.specs.declared.disk.Exchanged.{Exchanged}
use Rattle.shared_disk.specs.declared.disk.Exchanged.TheVariants.{Done, Found}
use Rattle.shared_disk.proofs.Places.{dir_is-itself, dir_is-same, place_is-itself, place_is-same}
use Rattle.whole_file.specs.Replace.{CallOf, SyncsText, Writes, length_of, volatile_of}
use Rattle.whole_file.specs.Text.{padded}
use Rattle.whole_file.specs.declared.replace.Replace.{Replace}
use Rattle.whole_file.specs.declared.replace.Stage.{Stage}
use Rattle.whole_file.specs.declared.replace.Stage.TheVariants.{Begun, Cleared, Created, Written, Synced}
use Rattle.unsynced_laws.specs.Unsynced.{HasOnlyOf, IsOnlyOf, IsSettledAt, LeavesOnlyOf, LeavesOnlyOld, but}
use Rattle.unsynced_laws.proofs.Files.{created_only, down_only, exchanged_only, file_of_others, grown_only, synced_only, wrote_only}

some_same : (f g : File) → Some f ≡ Some g → f ≡ g
some_same f g e = cc

no_file : (g : File) → ◌≡◌ {A = Option File} None (Some g) → ⊥
no_file g e = cc

place_apart : (p q : Place) → place_is q p ≡ false → q ≢ p
place_apart p q t u = false≢true (sym t ∙ ap (λ (x : Place). place_is x p) u ∙ place_is-itself p)

dir_apart : (p q : Dir) → dir_is q p ≡ false → q ≢ p
dir_apart p q t u = false≢true (sym t ∙ ap (λ (x : Dir). dir_is x p) u ∙ dir_is-itself p)

-- ---- what stands at one place

module _ (those : ℕ → Bool) (d e : Content) (has : HasOnlyOf those d) where
  put_only : (place : Place) (new : Option File) → ((g : File) → new ≡ Some g → IsOnlyOf those g) → IsPut d place new e → HasOnlyOf those e
  put_only place new is put at f there = go (place_is at place) refl
    where
      go : (b : Bool) → place_is at place ≡ b → IsOnlyOf those f
      go true same = is f (sym put.here ∙ ap (λ (x : Place). e.file x) (sym (place_is-same at place same)) ∙ there)
      go false apart = has at f (sym (put.others at (place_apart place at apart)) ∙ there)

  file_only : (place : Place) (f new : File) → d.file place ≡ Some f → (IsOnlyOf those f → IsOnlyOf those new) → IsPut d place (Some new) e → HasOnlyOf those e
  file_only place f new there is put =
      put_only place (Some new) (λ g same. subst (λ (x : File). IsOnlyOf those x) (some_same new g same) (is (has place f there))) put

  same_only : IsSame d e → HasOnlyOf those e
  same_only same = subst (λ (x : Content). HasOnlyOf those x) (sym same) has

  -- no file has changed
  files_only : ((q : Place) → e.file q ≡ d.file q) → HasOnlyOf those e
  files_only files at f there = has at f (sym (files at) ∙ there)

  made_only : (host size : ℕ) (place : Place) → those host ≡ true → IsCreated d host place size e → HasOnlyOf those e
  made_only host size place own w =
      put_only place (Some (created host size))
      (λ g same. subst (λ (x : File). IsOnlyOf those x) (some_same (created host size) g same) (created_only those host size own)) w.put

  enlarged_only : (size : ℕ) (place : Place) → IsGrown d place size e → HasOnlyOf those e
  enlarged_only size place w = file_only place w.0 (grown size w.0) w.1 (λ x. grown_only those w.0 x size) w.2

  moved_on_only : (host sector : ℕ) (place : Place) (expect next : List ℕ) → IsExchanged d host place sector expect next e → HasOnlyOf those e
  moved_on_only host sector place expect next w =
      file_only place w.0 (exchanged sector next w.0) w.1 (λ x. exchanged_only those w.0 x sector next) w.4

  gone_only : (place : Place) → IsRemoved d place e → HasOnlyOf those e
  gone_only place w = put_only place None (λ g none. absurd (no_file g none)) w.2

  renamed_only : (from to : Place) → IsRenamed d from to e → HasOnlyOf those e
  renamed_only from to w at f there = go (place_is at to) (place_is at from) refl refl
    where
      go : (s t : Bool) → place_is at to ≡ s → place_is at from ≡ t → IsOnlyOf those f
      go true t is other =
          subst (λ (x : File). IsOnlyOf those x)
          (some_same w.file.0 f (sym w.file.2 ∙ ap (λ (x : Place). e.file x) (sym (place_is-same at to is)) ∙ there)) (has from w.file.0 w.file.1)
      go false true is was = absurd (no_file f (sym w.gone ∙ ap (λ (x : Place). e.file x) (sym (place_is-same at from was)) ∙ there))
      go false false is was = has at f (sym (w.others at (place_apart from at was) (place_apart to at is)) ∙ there)

  folder_moved_only : (from to : Dir) → IsDirMoved d from to e → HasOnlyOf those e
  folder_moved_only from to w at f there = go (dir_is at.dir to) (dir_is at.dir from) refl refl
    where
      in_dir : (q : Dir) → at.dir ≡ q → e.file (place_in q at.name) ≡ Some f
      in_dir q same = ap (λ (x : Dir). e.file (place_in x at.name)) (sym same) ∙ there

      go : (s t : Bool) → dir_is at.dir to ≡ s → dir_is at.dir from ≡ t → IsOnlyOf those f
      go true t is other = has (place_in from at.name) f (sym (w.files at.name) ∙ in_dir to (dir_is-same at.dir to is))
      go false true is was = absurd (no_file f (sym (w.left at.name) ∙ in_dir from (dir_is-same at.dir from was)))
      go false false is was = has at f (sym (w.others at (dir_apart from at.dir was) (dir_apart to at.dir is)) ∙ there)

-- ---- call by call

pub written : (d e : Content) (host at : ℕ) (place : Place) (bytes : List ℕ) (answer : Result (Unit {0}) DiskAnswer) → WriteAt d host place at bytes answer e
    → LeavesOnlyOf host d e
written d e host at place bytes (Ok t) w those own has =
    file_only those d e has place w.0 (wrote (λ _. true) host at bytes w.0) w.1 (λ x. wrote_only those w.0 x (λ _. true) host at bytes own) w.3
written d e host at place bytes (Err Failed) (inl same) those own has = same_only those d e has same
written d e host at place bytes (Err Failed) (inr w) those own has =
    file_only those d e has place w.0 (wrote w.3 host at bytes w.0) w.1 (λ x. wrote_only those w.0 x w.3 host at bytes own) w.4
written d e host at place bytes (Err NoFile) w those own has = same_only those d e has w.0
written d e host at place bytes (Err OutOfFile) w those own has = same_only those d e has w.0
written d e host at place bytes (Err Exists) w those own has = absurd w
written d e host at place bytes (Err NotEmpty) w those own has = absurd w

pub made : (d e : Content) (host size : ℕ) (place : Place) (answer : Result (Unit {0}) DiskAnswer) → Creates d host place size answer e → LeavesOnlyOf host d e
made d e host size place (Ok t) w those own has = made_only those d e has host size place own w
made d e host size place (Err Failed) (inl same) those own has = same_only those d e has same
made d e host size place (Err Failed) (inr w) those own has = made_only those d e has host size place own w
made d e host size place (Err NoFile) w those own has = same_only those d e has w.0
made d e host size place (Err Exists) w those own has = same_only those d e has w.0
made d e host size place (Err OutOfFile) w those own has = absurd w
made d e host size place (Err NotEmpty) w those own has = absurd w

pub put_out : (d e : Content) (host : ℕ) (place : Place) (answer : Result (Unit {0}) DiskAnswer) → Syncs d host place answer e → LeavesOnlyOld d e
put_out d e host place (Ok t) w those has =
    file_only those d e has place w.0 (synced host w.0) w.1 (λ x. synced_only those w.0 x host) w.2
put_out d e host place (Err Failed) w those has = same_only those d e has w
put_out d e host place (Err NoFile) w those has = same_only those d e has w.0
put_out d e host place (Err OutOfFile) w those has = absurd w
put_out d e host place (Err Exists) w those has = absurd w
put_out d e host place (Err NotEmpty) w those has = absurd w

pub enlarged : (d e : Content) (size : ℕ) (place : Place) (answer : Result (Unit {0}) DiskAnswer) → Grows d place size answer e → LeavesOnlyOld d e
enlarged d e size place (Ok t) w those has = enlarged_only those d e has size place w
enlarged d e size place (Err Failed) (inl same) those has = same_only those d e has same
enlarged d e size place (Err Failed) (inr w) those has = enlarged_only those d e has size place w
enlarged d e size place (Err NoFile) w those has = same_only those d e has w.0
enlarged d e size place (Err Exists) w those has = absurd w
enlarged d e size place (Err OutOfFile) w those has = absurd w
enlarged d e size place (Err NotEmpty) w those has = absurd w

pub moved_on : (d e : Content) (host sector : ℕ) (place : Place) (expect next : List ℕ) (answer : Result Exchanged DiskAnswer)
    → Exchanges d host place sector expect next answer e → LeavesOnlyOld d e
moved_on d e host sector place expect next (Ok Done) w those has = moved_on_only those d e has host sector place expect next w
moved_on d e host sector place expect next (Ok (Found bytes)) w those has = same_only those d e has w.0
moved_on d e host sector place expect next (Err Failed) (inl same) those has = same_only those d e has same
moved_on d e host sector place expect next (Err Failed) (inr w) those has = moved_on_only those d e has host sector place expect next w
moved_on d e host sector place expect next (Err NoFile) w those has = same_only those d e has w.0
moved_on d e host sector place expect next (Err OutOfFile) w those has = same_only those d e has w.0
moved_on d e host sector place expect next (Err Exists) w those has = absurd w
moved_on d e host sector place expect next (Err NotEmpty) w those has = absurd w

pub renamed : (d e : Content) (from : Place) (to : Name) (answer : Result (Unit {0}) DiskAnswer) → Renames d from to answer e → LeavesOnlyOld d e
renamed d e from to (Ok t) w those has = renamed_only those d e has from (place_in from.dir to) w
renamed d e from to (Err Failed) (inl same) those has = same_only those d e has same
renamed d e from to (Err Failed) (inr w) those has = renamed_only those d e has from (place_in from.dir to) w
renamed d e from to (Err NoFile) w those has = same_only those d e has w.0
renamed d e from to (Err Exists) w those has = absurd w
renamed d e from to (Err OutOfFile) w those has = absurd w
renamed d e from to (Err NotEmpty) w those has = absurd w

pub gone : (d e : Content) (place : Place) (answer : Result (Unit {0}) DiskAnswer) → Removes d place answer e → LeavesOnlyOld d e
gone d e place (Ok t) w those has = gone_only those d e has place w
gone d e place (Err Failed) (inl same) those has = same_only those d e has same
gone d e place (Err Failed) (inr w) those has = gone_only those d e has place w
gone d e place (Err NoFile) w those has = same_only those d e has w.0
gone d e place (Err Exists) w those has = absurd w
gone d e place (Err OutOfFile) w those has = absurd w
gone d e place (Err NotEmpty) w those has = absurd w

-- ---- folders

pub folder_made : (d e : Content) (dir : Dir) (answer : Result (Unit {0}) DiskAnswer) → MakesDir d dir answer e → LeavesOnlyOld d e
folder_made d e dir (Ok t) w those has = files_only those d e has w.put.files
folder_made d e dir (Err Failed) (inl same) those has = same_only those d e has same
folder_made d e dir (Err Failed) (inr w) those has = files_only those d e has w.put.files
folder_made d e dir (Err NoFile) w those has = same_only those d e has w.0
folder_made d e dir (Err Exists) w those has = same_only those d e has w.0
folder_made d e dir (Err OutOfFile) w those has = absurd w
folder_made d e dir (Err NotEmpty) w those has = absurd w

pub folder_gone : (d e : Content) (dir : Dir) (answer : Result (Unit {0}) DiskAnswer) → RemovesDir d dir answer e → LeavesOnlyOld d e
folder_gone d e dir (Ok t) w those has = files_only those d e has w.put.files
folder_gone d e dir (Err Failed) (inl same) those has = same_only those d e has same
folder_gone d e dir (Err Failed) (inr w) those has = files_only those d e has w.put.files
folder_gone d e dir (Err NoFile) w those has = same_only those d e has w.0
folder_gone d e dir (Err NotEmpty) w those has = same_only those d e has w.0
folder_gone d e dir (Err Exists) w those has = absurd w
folder_gone d e dir (Err OutOfFile) w those has = absurd w

pub folder_moved : (d e : Content) (from to : Dir) (answer : Result (Unit {0}) DiskAnswer) → MovesDir d from to answer e → LeavesOnlyOld d e
folder_moved d e from to (Ok t) w those has = folder_moved_only those d e has from to w
folder_moved d e from to (Err Failed) (inl same) those has = same_only those d e has same
folder_moved d e from to (Err Failed) (inr w) those has = folder_moved_only those d e has from to w
folder_moved d e from to (Err NoFile) w those has = same_only those d e has w.0
folder_moved d e from to (Err Exists) w those has = same_only those d e has w.0
folder_moved d e from to (Err OutOfFile) w those has = absurd w
folder_moved d e from to (Err NotEmpty) w those has = absurd w

-- ---- reads

pub read : (d e : Content) (host at : ℕ) (place : Place) (before after : List ℕ) (answer : Result ℕ DiskAnswer) → ReadAt d host place at before after answer e
    → LeavesOnlyOld d e
read d e host at place before after (Ok n) w those has = same_only those d e has w.0
read d e host at place before after (Err Failed) w those has = same_only those d e has w
read d e host at place before after (Err NoFile) w those has = same_only those d e has w.0
read d e host at place before after (Err Exists) w those has = absurd w
read d e host at place before after (Err OutOfFile) w those has = absurd w
read d e host at place before after (Err NotEmpty) w those has = absurd w

pub measured : (d e : Content) (place : Place) (answer : Result ℕ DiskAnswer) → HasLength d place answer e → LeavesOnlyOld d e
measured d e place (Ok n) w those has = same_only those d e has w.0
measured d e place (Err Failed) w those has = same_only those d e has w
measured d e place (Err NoFile) w those has = same_only those d e has w.0
measured d e place (Err Exists) w those has = absurd w
measured d e place (Err OutOfFile) w those has = absurd w
measured d e place (Err NotEmpty) w those has = absurd w

pub named : (d e : Content) (dir : Dir) (after : Option Name) (answer : Result (Option Name) DiskAnswer) → NextName d dir after answer e → LeavesOnlyOld d e
named d e dir after (Ok n) w those has = same_only those d e has w.0
named d e dir after (Err Failed) w those has = same_only those d e has w
named d e dir after (Err NoFile) w those has = same_only those d e has w.0
named d e dir after (Err Exists) w those has = absurd w
named d e dir after (Err OutOfFile) w those has = absurd w
named d e dir after (Err NotEmpty) w those has = absurd w

pub listed : (d e : Content) (dir : Dir) (after : Option Dir) (answer : Result (Option Dir) DiskAnswer) → NextDir d dir after answer e → LeavesOnlyOld d e
listed d e dir after (Ok n) w those has = same_only those d e has w.0
listed d e dir after (Err Failed) w those has = same_only those d e has w
listed d e dir after (Err NoFile) w those has = same_only those d e has w.0
listed d e dir after (Err Exists) w those has = absurd w
listed d e dir after (Err OutOfFile) w those has = absurd w
listed d e dir after (Err NotEmpty) w those has = absurd w

-- ---- crashes

down_there : (host : ℕ) (a b : Option File) (g : File) → IsAlso (IsDownFile host) a b → b ≡ Some g → (f : File) × (a ≡ Some f) × IsDownFile host f g
down_there host None None g w e = absurd (no_file g e)
down_there host None (Some h) g w e = absurd w
down_there host (Some f) None g w e = absurd (no_file g e)
down_there host (Some f) (Some h) g w e = (f, refl, subst (λ (x : File). IsDownFile host f x) (some_same h g e) w)

pub crashed : (d e : Content) (host : ℕ) (those : ℕ → Bool) → DownLeaves d host e → HasOnlyOf those d → HasOnlyOf (but those host) e
crashed d e host those down has at g there =
    let was = down_there host (d.file at) (e.file at) g (down.files at) there in down_only those was.0 (has at was.0 was.1) host g was.2

down_same : (host : ℕ) (a b : Option File) → IsAlso (IsDownFile host) a b → IsSettledAt host a → b ≡ a
down_same host None None w s = refl
down_same host None (Some g) w s = absurd w
down_same host (Some f) None w s = absurd w
down_same host (Some f) (Some g) w s = ap (λ (x : File). Some x) (file_of_others f g host s w)

pub crashed_elsewhere : (d e : Content) (host : ℕ) (place : Place) → DownLeaves d host e → IsSettledAt host (d.file place) → e.file place ≡ d.file place
crashed_elsewhere d e host place down s = down_same host (d.file place) (e.file place) (down.files place) s

-- ---- a replacement of a file's text

text_written : (r : Replace) (host faults : ℕ) (text : List ℕ) (turn : Turn Replace (Unit {0}) (Unit {0})) (d e : Content) (b : Bool)
    → MatchBool b (SyncsText r host faults turn d e) (Writes r host faults text turn d e) → LeavesOnlyOf host d e
text_written r host faults text turn d e true w those own has = put_out d e host (volatile_of r) w.0 w.1 those has
text_written r host faults text turn d e false w those own has = written d e host 0 (volatile_of r) (padded text) w.0 w.1 those own has

pub replaced : (r : Replace) (s : Stage) (host faults : ℕ) (text : List ℕ) (turn : Turn Replace (Unit {0}) (Unit {0})) (d e : Content)
    → CallOf s r host faults text turn d e → LeavesOnlyOf host d e
replaced r Begun host faults text turn d e w those own has = gone d e _ w.0 w.1 those has
replaced r Cleared host faults text turn d e w those own has = made d e host _ _ w.0 w.1 those own has
replaced r Created host faults text turn d e w those own has = text_written r host faults text turn d e (length_of r == 0) w those own has
replaced r Written host faults text turn d e w those own has = put_out d e host _ w.0 w.1 those has
replaced r Synced host faults text turn d e w those own has = renamed d e _ _ w.0 w.1 those has
