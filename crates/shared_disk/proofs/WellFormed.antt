-- Each call, a host's going down and all crashes leave a well-formed content well formed.
use Rattle.std.proofs.Common.{◌≡◌, ◌≢◌, ℕ, ◌+◌, ◌*◌, ◌<◌, ◌≤◌, ◌==◌, Bool, true, false, nat_lt, List, drop, replicate, if◌then◌else◌, Option, Some, None, Ok, Err, Result, unwrap_or, refl, sym, ap, subst, ◌∙◌, inl, inr, arith, length-take, length-drop}
use Rattle.std.specs.List.{All, Contains}
use Rattle.std.proofs.lemmas.Bool.{false≢true}
use Rattle.std.proofs.lemmas.Bool.Decides.{Decides-ltb}
use Rattle.std.proofs.lemmas.List.{length-replicate}
use Rattle.std.proofs.lemmas.List.Elements.{All-drop, All-replicate, All-take, Contains-append_cases}
use Rattle.std.proofs.lemmas.Option.{none-some, same_Some}
use Rattle.sd_names.specs.declared.place.Dir.{Dir}
use Rattle.sd_names.specs.declared.place.Dir.TheVariants.{Root}
use Rattle.sd_names.specs.declared.place.Name.{Name}
use Rattle.sd_names.specs.declared.place.Place.{Place}
use Rattle.shared_disk.specs.declared.disk.DiskAnswer.{DiskAnswer}
use Rattle.shared_disk.specs.declared.disk.DiskAnswer.TheVariants.{NoFile, Exists, OutOfFile, NotEmpty, Failed}
use Rattle.shared_disk.specs.declared.disk.Exchanged.{Exchanged}
use Rattle.shared_disk.specs.declared.disk.Exchanged.TheVariants.{Done, Found}
use Rattle.sd_names.specs.Place.{parent_of}
use Rattle.shared_disk.specs.Calls.{Creates, IsCreated, IsPut, IsSame, Syncs, WriteAt, created, sectors_in, synced, wrote}
use Rattle.shared_disk.specs.Changes.{exchanged, grown, raised}
use Rattle.shared_disk.specs.Content.{Content, File, Loose, own_of, sector_of, seen, writes, zero_sector}
use Rattle.shared_disk.specs.Crash.{DownLeaves, IsAlso, IsDownFile, IsDownSector, IsFileOutcome, IsOutcome, IsOutcomeSector, IsSector}
use Rattle.shared_disk.specs.NameCalls.{IsRemoved, IsRenamed, Removes, Renames, place_in}
use Rattle.shared_disk.specs.Places.{place_is}
use Rattle.shared_disk.specs.SectorCalls.{Exchanges, Grows, IsExchanged, IsGrown}
use Rattle.shared_disk.specs.WellFormed.{IsHost, IsWellFormed, IsWellFormedFile, IsWrite}
use Rattle.shared_disk.proofs.Changes.{apart_among}
use Rattle.shared_disk.proofs.Outcomes.{IsPieceWrite, no_host, nothing_in, own_among, unless_some, without_among, writes_among}
use Rattle.shared_disk.proofs.Places.{place_is-itself, place_is-same}

-- sectors of bytes
zeros_of : (n : ℕ) → n ≡ 512 → IsSector (replicate n 0)
zeros_of n is = record { len = length-replicate n 0 ∙ is; fits = All-replicate (λ b. b < 256) n 0 (omega arith) }

pub zeros_are : IsSector zero_sector
unfolding zero_sector
zeros_are = zeros_of 512 refl

-- a sector of some bytes
pub piece_sector : (bytes : List ℕ) (k : ℕ) → All (λ b. b < 256) bytes → k < sectors_in bytes → IsSector (sector_of bytes k)
piece_sector bytes k fit within = record {
  len = omega (arith, length-take 512 (drop (512 * k) bytes), length-drop (512 * k) bytes);
  fits = All-take (λ b. b < 256) 512 (drop (512 * k) bytes) (All-drop (λ b. b < 256) (512 * k) bytes fit);
}

either_sector : (t : Bool) (a b : List ℕ) → IsSector a → IsSector b → IsSector (if t then a else b)
either_sector true a b first second = first
either_sector false a b first second = second

sector_or : (o : Option (List ℕ)) (s : List ℕ) → ((b : List ℕ) → o ≡ Some b → IsSector b) → IsSector s → IsSector (unwrap_or o s)
sector_or None s own stable = stable
sector_or (Some b) s own stable = own b refl

-- what a host sees of a sector
pub seen_sector : (host k : ℕ) (f : File) → IsWellFormedFile f → IsSector (seen host f k)
seen_sector host k f ok = sector_or (own_of host k f.loose) (f.stable k)
    (λ b e. let w = own_among host k f.loose b e in subst (λ (x : List ℕ). IsSector x) w.is (ok.loose w.write w.among).bytes) (ok.stable k)

-- a file after each change
piece_write : (did : ℕ → Bool) (host at size : ℕ) (bytes : List ℕ) (l : Loose) → IsHost host → All (λ b. b < 256) bytes → at + sectors_in bytes ≤ size
    → IsPieceWrite did host at bytes (sectors_in bytes) l → IsWrite size l
piece_write did host at size bytes l is fit within w =
    subst (λ (x : Loose). IsWrite size x) w.is (record { host = is; within = omega (arith, w.within, within); bytes = piece_sector bytes w.index fit w.within })

wrote_file : (did : ℕ → Bool) (host at : ℕ) (bytes : List ℕ) (f : File) → IsHost host → All (λ b. b < 256) bytes → at + sectors_in bytes ≤ f.size → IsWellFormedFile f → IsWellFormedFile (wrote did host at bytes f)
wrote_file did host at bytes f is fit within ok = record {
  stable = ok.stable;
  loose = λ l h. elim (Contains-append_cases (writes did host at bytes (sectors_in bytes)) f.loose l h) [
    | inl g ↦ piece_write did host at f.size bytes l is fit within (writes_among did host at bytes (sectors_in bytes) l g)
    | inr g ↦ ok.loose l g
  ];
  fresh = ok.fresh;
}

synced_file : (host : ℕ) (f : File) → IsWellFormedFile f → IsWellFormedFile (synced host f)
synced_file host f ok = record {
  stable = λ k. seen_sector host k f ok;
  loose = λ l h. ok.loose l (without_among host f.loose l h);
  fresh = λ h e. ok.fresh h (unless_some host h f.fresh e);
}

created_file : (host size : ℕ) → IsHost host → IsWellFormedFile (created host size)
created_file host size is = record {
  stable = λ k. zeros_are;
  loose = λ l h. absurd (nothing_in l h);
  fresh = λ h e. subst (λ (x : ℕ). IsHost x) (same_Some host h e) is;
}

exchanged_file : (sector : ℕ) (next : List ℕ) (f : File) → IsSector next → IsWellFormedFile f → IsWellFormedFile (exchanged sector next f)
exchanged_file sector next f is ok = record {
  stable = λ k. either_sector (k == sector) next (f.stable k) is (ok.stable k);
  loose = λ l h. ok.loose l (apart_among sector f.loose l h).among;
  fresh = ok.fresh;
}

raised_file : (size : ℕ) (f : File) → f.size < size → IsWellFormedFile f → IsWellFormedFile (raised size f)
raised_file size f more ok = record {
  stable = λ k. either_sector (nat_lt k f.size) (f.stable k) zero_sector (ok.stable k) zeros_are;
  loose = λ l h. let w = ok.loose l h in record { host = w.host; within = omega (arith, w.within, more); bytes = w.bytes };
  fresh = ok.fresh;
}

grown_step : (size : ℕ) (f : File) (t : Bool) → nat_lt f.size size ≡ t → IsWellFormedFile f → IsWellFormedFile (grown size f)
grown_step size f true t ok = rw t (raised_file size f ((Decides-ltb f.size size).0 t) ok)
grown_step size f false t ok = rw t ok

down_sector : (host k : ℕ) (f : File) (b : List ℕ) → IsWellFormedFile f → IsDownSector host f k b → IsSector b
down_sector host k f b ok (inl w) = w.1
down_sector host k f b ok (inr (inl e)) = subst (λ (x : List ℕ). IsSector x) (sym e) (ok.stable k)
down_sector host k f b ok (inr (inr w)) = subst (λ (x : List ℕ). IsSector x) w.4 (ok.loose w.0 w.1).bytes

pub down_file_keeps : (host : ℕ) (f g : File) → IsWellFormedFile f → IsDownFile host f g → IsWellFormedFile g
down_file_keeps host f g ok down = record {
  stable = λ k. down_sector host k f (g.stable k) ok (down.sectors k);
  loose = λ l h. subst (λ (n : ℕ). IsWrite n l) (sym down.size) (ok.loose l (without_among host f.loose l (subst (λ (ls : List Loose). Contains ls l) down.loose h)));
  fresh = λ h e. ok.fresh h (unless_some host h f.fresh (sym down.fresh ∙ e));
}

outcome_sector : (k : ℕ) (f : File) (b : List ℕ) → IsWellFormedFile f → IsOutcomeSector f k b → IsSector b
outcome_sector k f b ok (inl e) = subst (λ (x : List ℕ). IsSector x) (sym e) (ok.stable k)
outcome_sector k f b ok (inr (inl w)) = subst (λ (x : List ℕ). IsSector x) w.3 (ok.loose w.0 w.1).bytes
outcome_sector k f b ok (inr (inr w)) = w.1

pub outcome_file_keeps : (f g : File) → IsWellFormedFile f → IsFileOutcome f g → IsWellFormedFile g
outcome_file_keeps f g ok out = record {
  stable = λ k. outcome_sector k f (g.stable k) ok (out.sectors k);
  loose = λ l h. absurd (nothing_in l (subst (λ (ls : List Loose). Contains ls l) out.settled.loose h));
  fresh = λ h e. absurd (no_host h (sym out.settled.fresh ∙ e));
}

-- a folder after a change of what stands at one place
Stands : Content → Place → Option File → Type 0
Stands d p new = (g : File) → new ≡ Some g → (d.dir p.dir ≡ true) × IsWellFormedFile g

put_step : (d e : Content) (p q : Place) (new : Option File) (f : File) (t : Bool) → place_is q p ≡ t → IsWellFormed d → Stands d p new → IsPut d p new e → e.file q ≡ Some f
    → (d.dir q.dir ≡ true) × IsWellFormedFile f
unfolding Stands
put_step d e p q new f true t ok is put here =
    let same = place_is-same q p t in
    let both = is f (sym put.here ∙ ap (λ (x : Place). e.file x) (sym same) ∙ here) in
    (ap (λ (x : Place). d.dir x.dir) same ∙ both.0, both.1)
put_step d e p q new f false t ok is put here =
    let was : d.file q ≡ Some f = sym (put.others q (λ u. false≢true (sym t ∙ ap (λ (x : Place). place_is x p) u ∙ place_is-itself p))) ∙ here in
    (ok.folders q f was, ok.files q f was)

put_keeps : (d e : Content) (p : Place) (new : Option File) → IsWellFormed d → Stands d p new → IsPut d p new e → IsWellFormed e
put_keeps d e p new ok is put = record {
  root = put.dirs Root ∙ ok.root;
  parents = λ q h. put.dirs (parent_of q) ∙ ok.parents q (sym (put.dirs q) ∙ h);
  folders = λ q f h. put.dirs q.dir ∙ (put_step d e p q new f (place_is q p) refl ok is put h).0;
  files = λ q f h. (put_step d e p q new f (place_is q p) refl ok is put h).1;
}

-- in place of a file
file_keeps : (d e : Content) (p : Place) (f new : File) → IsWellFormed d → d.file p ≡ Some f → (IsWellFormedFile f → IsWellFormedFile new) → IsPut d p (Some new) e → IsWellFormed e
unfolding Stands
file_keeps d e p f new ok there is put =
    put_keeps d e p (Some new) ok (λ g same. (ok.folders p f there, subst (λ (x : File). IsWellFormedFile x) (same_Some new g same) (is (ok.files p f there)))) put

pub same_keeps : (d e : Content) → IsWellFormed d → IsSame d e → IsWellFormed e
same_keeps d e ok same = subst (λ (x : Content). IsWellFormed x) (sym same) ok

pub write_keeps : (d e : Content) (host at : ℕ) (p : Place) (bytes : List ℕ) (answer : Result (Unit {0}) DiskAnswer) → IsHost host → All (λ b. b < 256) bytes → IsWellFormed d
    → WriteAt d host p at bytes answer e → IsWellFormed e
write_keeps d e host at p bytes (Ok t) is fit ok w = file_keeps d e p w.0 (wrote (λ _. true) host at bytes w.0) ok w.1 (wrote_file (λ _. true) host at bytes w.0 is fit w.2) w.3
write_keeps d e host at p bytes (Err Failed) is fit ok (inl same) = same_keeps d e ok same
write_keeps d e host at p bytes (Err Failed) is fit ok (inr w) = file_keeps d e p w.0 (wrote w.3 host at bytes w.0) ok w.1 (wrote_file w.3 host at bytes w.0 is fit w.2) w.4
write_keeps d e host at p bytes (Err NoFile) is fit ok w = same_keeps d e ok w.0
write_keeps d e host at p bytes (Err OutOfFile) is fit ok w = same_keeps d e ok w.0
write_keeps d e host at p bytes (Err Exists) is fit ok w = absurd w
write_keeps d e host at p bytes (Err NotEmpty) is fit ok w = absurd w

pub sync_keeps : (d e : Content) (host : ℕ) (p : Place) (answer : Result (Unit {0}) DiskAnswer) → IsWellFormed d → Syncs d host p answer e → IsWellFormed e
sync_keeps d e host p (Ok t) ok w = file_keeps d e p w.0 (synced host w.0) ok w.1 (synced_file host w.0) w.2
sync_keeps d e host p (Err Failed) ok w = same_keeps d e ok w
sync_keeps d e host p (Err NoFile) ok w = same_keeps d e ok w.0
sync_keeps d e host p (Err OutOfFile) ok w = absurd w
sync_keeps d e host p (Err Exists) ok w = absurd w
sync_keeps d e host p (Err NotEmpty) ok w = absurd w

made_keeps : (d e : Content) (host size : ℕ) (p : Place) → IsHost host → IsWellFormed d → IsCreated d host p size e → IsWellFormed e
unfolding Stands
made_keeps d e host size p is ok w =
    put_keeps d e p (Some (created host size)) ok (λ g same. (w.folder, subst (λ (x : File). IsWellFormedFile x) (same_Some (created host size) g same) (created_file host size is))) w.put

pub create_keeps : (d e : Content) (host size : ℕ) (p : Place) (answer : Result (Unit {0}) DiskAnswer) → IsHost host → IsWellFormed d → Creates d host p size answer e → IsWellFormed e
create_keeps d e host size p (Ok t) is ok w = made_keeps d e host size p is ok w
create_keeps d e host size p (Err Failed) is ok (inl same) = same_keeps d e ok same
create_keeps d e host size p (Err Failed) is ok (inr w) = made_keeps d e host size p is ok w
create_keeps d e host size p (Err NoFile) is ok w = same_keeps d e ok w.0
create_keeps d e host size p (Err Exists) is ok w = same_keeps d e ok w.0
create_keeps d e host size p (Err OutOfFile) is ok w = absurd w
create_keeps d e host size p (Err NotEmpty) is ok w = absurd w

grown_keeps : (d e : Content) (size : ℕ) (p : Place) → IsWellFormed d → IsGrown d p size e → IsWellFormed e
grown_keeps d e size p ok w = file_keeps d e p w.0 (grown size w.0) ok w.1 (grown_step size w.0 (nat_lt w.0.size size) refl) w.2

pub grow_keeps : (d e : Content) (size : ℕ) (p : Place) (answer : Result (Unit {0}) DiskAnswer) → IsWellFormed d → Grows d p size answer e → IsWellFormed e
grow_keeps d e size p (Ok t) ok w = grown_keeps d e size p ok w
grow_keeps d e size p (Err Failed) ok (inl same) = same_keeps d e ok same
grow_keeps d e size p (Err Failed) ok (inr w) = grown_keeps d e size p ok w
grow_keeps d e size p (Err NoFile) ok w = same_keeps d e ok w.0
grow_keeps d e size p (Err Exists) ok w = absurd w
grow_keeps d e size p (Err OutOfFile) ok w = absurd w
grow_keeps d e size p (Err NotEmpty) ok w = absurd w

exchanged_keeps : (d e : Content) (host sector : ℕ) (p : Place) (expect next : List ℕ) → IsSector next → IsWellFormed d → IsExchanged d host p sector expect next e → IsWellFormed e
exchanged_keeps d e host sector p expect next is ok w = file_keeps d e p w.0 (exchanged sector next w.0) ok w.1 (exchanged_file sector next w.0 is) w.4

pub exchange_keeps : (d e : Content) (host sector : ℕ) (p : Place) (expect next : List ℕ) (answer : Result Exchanged DiskAnswer) → IsSector next → IsWellFormed d
    → Exchanges d host p sector expect next answer e → IsWellFormed e
exchange_keeps d e host sector p expect next (Ok Done) is ok w = exchanged_keeps d e host sector p expect next is ok w
exchange_keeps d e host sector p expect next (Ok (Found bytes)) is ok w = same_keeps d e ok w.0
exchange_keeps d e host sector p expect next (Err Failed) is ok (inl same) = same_keeps d e ok same
exchange_keeps d e host sector p expect next (Err Failed) is ok (inr w) = exchanged_keeps d e host sector p expect next is ok w
exchange_keeps d e host sector p expect next (Err NoFile) is ok w = same_keeps d e ok w.0
exchange_keeps d e host sector p expect next (Err OutOfFile) is ok w = same_keeps d e ok w.0
exchange_keeps d e host sector p expect next (Err Exists) is ok w = absurd w
exchange_keeps d e host sector p expect next (Err NotEmpty) is ok w = absurd w

-- names and folders
removed_keeps : (d e : Content) (p : Place) → IsWellFormed d → IsRemoved d p e → IsWellFormed e
unfolding Stands
removed_keeps d e p ok w = put_keeps d e p None ok (λ g gone. absurd (none-some g gone)) w.2

pub remove_keeps : (d e : Content) (p : Place) (answer : Result (Unit {0}) DiskAnswer) → IsWellFormed d → Removes d p answer e → IsWellFormed e
remove_keeps d e p (Ok t) ok w = removed_keeps d e p ok w
remove_keeps d e p (Err Failed) ok (inl same) = same_keeps d e ok same
remove_keeps d e p (Err Failed) ok (inr w) = removed_keeps d e p ok w
remove_keeps d e p (Err NoFile) ok w = same_keeps d e ok w.0
remove_keeps d e p (Err Exists) ok w = absurd w
remove_keeps d e p (Err OutOfFile) ok w = absurd w
remove_keeps d e p (Err NotEmpty) ok w = absurd w

place_apart : (p q : Place) → place_is q p ≡ false → q ≢ p
place_apart p q t u = false≢true (sym t ∙ ap (λ (x : Place). place_is x p) u ∙ place_is-itself p)

renamed_step : (d e : Content) (from to q : Place) (f : File) (s t : Bool) → place_is q to ≡ s → place_is q from ≡ t → to.dir ≡ from.dir → IsWellFormed d → IsRenamed d from to e → e.file q ≡ Some f
    → (d.dir q.dir ≡ true) × IsWellFormedFile f
renamed_step d e from to q f true t is other beside ok w here =
    let same = place_is-same q to is in
    let file : w.file.0 ≡ f = same_Some w.file.0 f (sym w.file.2 ∙ ap (λ (x : Place). e.file x) (sym same) ∙ here) in
    (ap (λ (x : Place). d.dir x.dir) same ∙ ap (λ (x : Dir). d.dir x) beside ∙ ok.folders from w.file.0 w.file.1, subst (λ (x : File). IsWellFormedFile x) file (ok.files from w.file.0 w.file.1))
renamed_step d e from to q f false true is t beside ok w here =
    absurd (none-some f (sym w.gone ∙ ap (λ (x : Place). e.file x) (sym (place_is-same q from t)) ∙ here))
renamed_step d e from to q f false false s t beside ok w here =
    let was : d.file q ≡ Some f = sym (w.others q (place_apart from q t) (place_apart to q s)) ∙ here in
    (ok.folders q f was, ok.files q f was)

renamed_keeps : (d e : Content) (from to : Place) → to.dir ≡ from.dir → IsWellFormed d → IsRenamed d from to e → IsWellFormed e
renamed_keeps d e from to beside ok w = record {
  root = w.dirs Root ∙ ok.root;
  parents = λ q h. w.dirs (parent_of q) ∙ ok.parents q (sym (w.dirs q) ∙ h);
  folders = λ q f h. w.dirs q.dir ∙ (renamed_step d e from to q f (place_is q to) (place_is q from) refl refl beside ok w h).0;
  files = λ q f h. (renamed_step d e from to q f (place_is q to) (place_is q from) refl refl beside ok w h).1;
}

pub rename_keeps : (d e : Content) (from : Place) (to : Name) (answer : Result (Unit {0}) DiskAnswer) → IsWellFormed d → Renames d from to answer e → IsWellFormed e
rename_keeps d e from to (Ok t) ok w = renamed_keeps d e from (place_in from.dir to) refl ok w
rename_keeps d e from to (Err Failed) ok (inl same) = same_keeps d e ok same
rename_keeps d e from to (Err Failed) ok (inr w) = renamed_keeps d e from (place_in from.dir to) refl ok w
rename_keeps d e from to (Err NoFile) ok w = same_keeps d e ok w.0
rename_keeps d e from to (Err Exists) ok w = absurd w
rename_keeps d e from to (Err OutOfFile) ok w = absurd w
rename_keeps d e from to (Err NotEmpty) ok w = absurd w

-- folders whose files are related
was_there : (R : File → File → Type 0) (a b : Option File) (g : File) → IsAlso R a b → b ≡ Some g → (f : File) × (a ≡ Some f) × R f g
was_there R None None g w e = absurd (none-some g e)
was_there R None (Some h) g w e = absurd w
was_there R (Some f) None g w e = absurd w
was_there R (Some f) (Some h) g w e = (f, refl, subst (λ (x : File). R f x) (same_Some h g e) w)

related_keeps : (d e : Content) (R : File → File → Type 0) → IsWellFormed d → ((f g : File) → IsWellFormedFile f → R f g → IsWellFormedFile g) → ((q : Dir) → e.dir q ≡ d.dir q)
    → ((p : Place) → IsAlso R (d.file p) (e.file p)) → IsWellFormed e
related_keeps d e R ok each dirs files = record {
  root = dirs Root ∙ ok.root;
  parents = λ q h. dirs (parent_of q) ∙ ok.parents q (sym (dirs q) ∙ h);
  folders = λ p g h. let w = was_there R (d.file p) (e.file p) g (files p) h in dirs p.dir ∙ ok.folders p w.0 w.1;
  files = λ p g h. let w = was_there R (d.file p) (e.file p) g (files p) h in each w.0 g (ok.files p w.0 w.1) w.2;
}

-- a host that goes down, and all of them
pub down_keeps : (d e : Content) (host : ℕ) → IsWellFormed d → DownLeaves d host e → IsWellFormed e
down_keeps d e host ok down = related_keeps d e (IsDownFile host) ok (λ f g is w. down_file_keeps host f g is w) down.dirs down.files

pub outcome_keeps : (d o : Content) → IsWellFormed d → IsOutcome d o → IsWellFormed o
outcome_keeps d o ok out = related_keeps d o IsFileOutcome ok outcome_file_keeps out.dirs out.files
