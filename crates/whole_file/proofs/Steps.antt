-- What each step of a replacement leaves, from what its call left.
use Rattle.std.proofs.Common.{◌≡◌, ◌≢◌, eq-eqb, ℕ, zero, suc, ◌+◌, ◌-◌, ◌<◌, Bool, true, false, List, [], ◌++◌, length, Option, Some, None, Result, Ok, Err, unwrap_or, refl, sym, ap, ◌∙◌, subst, inl, inr, arith}
use Rattle.std.proofs.lemmas.Bool.{false≢true}
use Rattle.sd_names.specs.declared.place.Place.{Place}
use Rattle.sd_names.specs.declared.refusal.Refusal.TheVariants.{DiskFault}
use Rattle.sd_names.specs.declared.turn.Turn.{Turn}
use Rattle.sd_names.specs.declared.turn.Turn.TheVariants.{More, Done, Ended}
use Rattle.shared_disk.specs.Content.{Content, File, Loose, sector_of, unless_by, without, writes, zero_sector}
use Rattle.shared_disk.specs.Step.{GoesOn, TurnFollows}
use Rattle.shared_disk.specs.Calls.{Creates, IsCreated, IsPut, IsSame, Syncs, WriteAt, created, sectors_in, synced, wrote}
use Rattle.shared_disk.specs.Crash.{IsAlone}
use Rattle.shared_disk.specs.NameCalls.{Removes, Renames, IsRenamed}
use Rattle.shared_disk.specs.declared.disk.DiskAnswer.{DiskAnswer}
use Rattle.shared_disk.specs.declared.disk.DiskAnswer.TheVariants.{NoFile, Exists, OutOfFile, NotEmpty, Failed}
use Rattle.shared_disk.proofs.AtPlace.{kept_on_each, no_file, one_file}
use Rattle.shared_disk.proofs.OwnWrites.{own_within, without_writes}
use Rattle.whole_file.specs.Text.{HasText, IsTextFile, padded, sectors_for}
use Rattle.whole_file.specs.Replace.{After, ClearedBy, IsAt, IsLeft, IsOldOrNew, IsOldOrNewOnEach, IsReady, Knows, LeadsTo, Steps, length_of, stage_of, target_of, volatile_of}
use Rattle.whole_file.specs.declared.replace.Replace.{Replace}
use Rattle.whole_file.specs.declared.replace.Stage.{Stage}
use Rattle.whole_file.specs.declared.replace.Stage.TheVariants.{Cleared, Created, Written, Synced}
use Rattle.whole_file.proofs.Texts.{sectors_padded, text_stays}

pub old_or_new_on_each : (target : Place) (text : List ℕ) (d e : Content) → IsOldOrNew target text d e → IsOldOrNewOnEach target text d e
old_or_new_on_each target text d e (inl same) o out = inl (kept_on_each d e o target same out)
old_or_new_on_each target text d e (inr has) o out = inr (text_stays e o target text has out)

-- the next stage's knowledge
goes_on : (r next : Replace) (stage : Stage) (host : ℕ) (text : List ℕ) (e : Content) → IsAt r stage next → e.dir (target_of r).dir ≡ true
    → IsReady stage host text (volatile_of r) e → Knows next host text e
goes_on r next stage host text e g folder ready = record {
  folder = ap (λ (p : Place). e.dir p.dir) g.same.target ∙ folder;
  ready = subst (λ (s : Stage). IsReady s host text (volatile_of next) e) (sym g.now_in) (subst (λ (v : Place). IsReady stage host text v e) (sym g.same.volatile) ready);
}

after_more : (r : Replace) (stage : Stage) (host faults : ℕ) (text : List ℕ) (turn : Turn Replace (Unit {0}) (Unit {0})) (d e : Content) → GoesOn (IsAt r stage) turn
    → e.dir (target_of r).dir ≡ true → IsReady stage host text (volatile_of r) e → After turn r host faults text d e
after_more r stage host faults text (More next) d e g folder ready = goes_on r next stage host text e g folder ready
after_more r stage host faults text (Done t) d e g folder ready = absurd g
after_more r stage host faults text (Ended b x) d e g folder ready = absurd g

after_fault : (r : Replace) (host faults : ℕ) (text : List ℕ) (turn : Turn Replace (Unit {0}) (Unit {0})) (d e : Content) → turn ≡ Ended tt (DiskFault faults)
    → IsLeft host (volatile_of r) d e → After turn r host faults text d e
after_fault r host faults text turn d e is left = subst (λ (t : Turn Replace (Unit {0}) (Unit {0})). After t r host faults text d e) (sym is) (refl, left)

-- the target isn't the volatile file
target_apart : (r : Replace) → (target_of r).name ≢ (volatile_of r).name → target_of r ≢ volatile_of r
target_apart r other same = other (ap (λ (p : Place). p.name) same)

-- nothing has changed, or the volatile file alone
same_step : (r : Replace) (host faults : ℕ) (text : List ℕ) (turn : Turn Replace (Unit {0}) (Unit {0})) (d e : Content) → IsSame d e
    → After turn r host faults text d e → Steps r host faults text turn d e
same_step r host faults text turn d e same after =
    let target : e.file (target_of r) ≡ d.file (target_of r) = ap (λ (c : Content). c.file (target_of r)) same in
    record {
      apart = record { dirs = λ q. ap (λ (c : Content). c.dir q) same; files = λ q _ _. ap (λ (c : Content). c.file q) same };
      target = inl target;
      outcomes = old_or_new_on_each (target_of r) text d e (inl target);
      after = after;
    }

put_step : (r : Replace) (host faults : ℕ) (text : List ℕ) (turn : Turn Replace (Unit {0}) (Unit {0})) (d e : Content) (new : Option File)
    → (target_of r).name ≢ (volatile_of r).name → IsPut d (volatile_of r) new e
    → After turn r host faults text d e
    → Steps r host faults text turn d e
put_step r host faults text turn d e new other put after =
    let target : e.file (target_of r) ≡ d.file (target_of r) = put.others (target_of r) (target_apart r other) in
    record {
      apart = record { dirs = put.dirs; files = λ q _ apart. put.others q apart };
      target = inl target;
      outcomes = old_or_new_on_each (target_of r) text d e (inl target);
      after = after;
    }

-- the same after a fault, with what is left under the volatile name
same_fault : (r : Replace) (host faults : ℕ) (text : List ℕ) (turn : Turn Replace (Unit {0}) (Unit {0})) (d e : Content) → IsSame d e → turn ≡ Ended tt (DiskFault faults) → Steps r host faults text turn d e
same_fault r host faults text turn d e same is = same_step r host faults text turn d e same (after_fault r host faults text turn d e is (inl (ap (λ (c : Content). c.file (volatile_of r)) same)))

put_fault : (r : Replace) (host faults : ℕ) (text : List ℕ) (turn : Turn Replace (Unit {0}) (Unit {0})) (d e : Content) (new : Option File)
    → (target_of r).name ≢ (volatile_of r).name → IsPut d (volatile_of r) new e → IsLeft host (volatile_of r) d e → turn ≡ Ended tt (DiskFault faults) → Steps r host faults text turn d e
put_fault r host faults text turn d e new other put left is = put_step r host faults text turn d e new other put (after_fault r host faults text turn d e is left)

-- a host's own file, once it is synced, is no longer fresh
unless_own : (host : ℕ) → unless_by host (Some host) ≡ None
unless_own host = rw (eq-eqb host host refl) refl

-- no other host has anything unsynced in a file that this one made, whatever it wrote there
alone_made : (host size : ℕ) → IsAlone host (created host size)
alone_made host size = record { loose = refl; fresh = unless_own host }

alone_wrote : (host size : ℕ) (did : ℕ → Bool) (bytes : List ℕ) (f : File) → f ≡ created host size → IsAlone host (wrote did host 0 bytes f)
alone_wrote host size did bytes f made = record {
  loose = without_writes did host 0 (sectors_in bytes) bytes f.loose ∙ ap (λ (g : File). without host g.loose) made;
  fresh = ap (λ (g : File). unless_by host g.fresh) made ∙ unless_own host;
}

folder_after : (r : Replace) (host : ℕ) (text : List ℕ) (d e : Content) (new : Option File) → Knows r host text d → IsPut d (volatile_of r) new e → e.dir (target_of r).dir ≡ true
folder_after r host text d e new knows put = put.dirs (target_of r).dir ∙ knows.folder

folder_same : (r : Replace) (host : ℕ) (text : List ℕ) (d e : Content) → Knows r host text d → IsSame d e → e.dir (target_of r).dir ≡ true
folder_same r host text d e knows same = ap (λ (c : Content). c.dir (target_of r).dir) same ∙ knows.folder

pub clear_step : (r : Replace) (host faults : ℕ) (text : List ℕ) (turn : Turn Replace (Unit {0}) (Unit {0})) (d e : Content) → (target_of r).name ≢ (volatile_of r).name
    → Knows r host text d → (answer : Result (Unit {0}) DiskAnswer) → Removes d (volatile_of r) answer e → ClearedBy r faults answer turn → Steps r host faults text turn d e
clear_step r host faults text turn d e other knows (Ok u) removed by =
    put_step r host faults text turn d e None other removed.2 (after_more r Cleared host faults text turn d e by (folder_after r host text d e None knows removed.2) removed.2.here)
clear_step r host faults text turn d e other knows (Err NoFile) removed by =
    same_step r host faults text turn d e removed.0 (after_more r Cleared host faults text turn d e by (folder_same r host text d e knows removed.0) (ap (λ (c : Content). c.file (volatile_of r)) removed.0 ∙ removed.1))
clear_step r host faults text turn d e other knows (Err Failed) (inl same) by = same_fault r host faults text turn d e same by
clear_step r host faults text turn d e other knows (Err Failed) (inr removed) by = put_fault r host faults text turn d e None other removed.2 (inr (inl removed.2.here)) by
clear_step r host faults text turn d e other knows (Err Exists) removed by = absurd removed
clear_step r host faults text turn d e other knows (Err OutOfFile) removed by = absurd removed
clear_step r host faults text turn d e other knows (Err NotEmpty) removed by = absurd removed

-- the volatile file was made
made : (r : Replace) (host size : ℕ) (text : List ℕ) (d e : Content) → length text ≡ length_of r → IsCreated d host (volatile_of r) (sectors_for (length_of r)) e
    → e.file (volatile_of r) ≡ Some (created host (sectors_for (length text)))
made r host size text d e same is = is.put.here ∙ ap (λ (n : ℕ). Some (created host (sectors_for n))) (sym same)

pub create_step : (r : Replace) (host faults : ℕ) (text : List ℕ) (turn : Turn Replace (Unit {0}) (Unit {0})) (d e : Content) → (target_of r).name ≢ (volatile_of r).name
    → length text ≡ length_of r → stage_of r ≡ Cleared → Knows r host text d → (answer : Result (Unit {0}) DiskAnswer) → Creates d host (volatile_of r) (sectors_for (length_of r)) answer e
    → LeadsTo Created r faults answer turn → Steps r host faults text turn d e
create_step r host faults text turn d e other len stage knows (Ok u) is by =
    let size = sectors_for (length_of r) in
    put_step r host faults text turn d e (Some (created host size)) other is.put
    (after_more r Created host faults text turn d e by (folder_after r host text d e (Some (created host size)) knows is.put) (made r host size text d e len is))
create_step r host faults text turn d e other len stage knows (Err NoFile) is by = absurd (false≢true (sym is.1 ∙ knows.folder))
create_step r host faults text turn d e other len stage knows (Err Exists) is by =
    let free : d.file (volatile_of r) ≡ None = subst (λ (s : Stage). IsReady s host text (volatile_of r) d) stage knows.ready in
    absurd (no_file is.2 (d.file (volatile_of r)) free is.3)
create_step r host faults text turn d e other len stage knows (Err Failed) (inl same) by = same_fault r host faults text turn d e same by
create_step r host faults text turn d e other len stage knows (Err Failed) (inr is) by =
    let size = sectors_for (length_of r) in
    put_fault r host faults text turn d e (Some (created host size)) other is.put (inr (inr (created host size, is.put.here, alone_made host size))) by
create_step r host faults text turn d e other len stage knows (Err OutOfFile) is by = absurd is
create_step r host faults text turn d e other len stage knows (Err NotEmpty) is by = absurd is

-- the volatile file that is known to have been made is the one that a call found
found_made : (r : Replace) (host : ℕ) (text : List ℕ) (d : Content) (f : File) → stage_of r ≡ Created → Knows r host text d → d.file (volatile_of r) ≡ Some f
    → f ≡ created host (sectors_for (length text))
found_made r host text d f stage knows there =
    one_file f (created host (sectors_for (length text))) (d.file (volatile_of r)) there (subst (λ (s : Stage). IsReady s host text (volatile_of r) d) stage knows.ready)

pub write_step : (r : Replace) (host faults : ℕ) (text : List ℕ) (turn : Turn Replace (Unit {0}) (Unit {0})) (d e : Content) → (target_of r).name ≢ (volatile_of r).name
    → stage_of r ≡ Created → Knows r host text d → (answer : Result (Unit {0}) DiskAnswer) → WriteAt d host (volatile_of r) 0 (padded text) answer e
    → LeadsTo Written r faults answer turn → Steps r host faults text turn d e
write_step r host faults text turn d e other stage knows (Ok u) is by =
    let f = is.0 in
    let new : Option File = Some (wrote (λ _. true) host 0 (padded text) f) in
    let ready = is.3.here ∙ ap (λ (g : File). Some (wrote (λ _. true) host 0 (padded text) g)) (found_made r host text d f stage knows is.1) in
    put_step r host faults text turn d e new other is.3 (after_more r Written host faults text turn d e by (folder_after r host text d e new knows is.3) ready)
write_step r host faults text turn d e other stage knows (Err NoFile) is by =
    absurd (no_file (created host (sectors_for (length text))) (d.file (volatile_of r)) is.1 (subst (λ (s : Stage). IsReady s host text (volatile_of r) d) stage knows.ready))
write_step r host faults text turn d e other stage knows (Err OutOfFile) is by =
    let size : is.1.size ≡ sectors_for (length text) = ap (λ (g : File). g.size) (found_made r host text d is.1 stage knows is.2) in
    absurd (too_small is.1.size (sectors_in (padded text)) (size ∙ sym (sectors_padded text)) is.3)
  where
    too_small : (a b : ℕ) → a ≡ b → a < 0 + b → ⊥
    too_small a b same less = omega arith
write_step r host faults text turn d e other stage knows (Err Failed) (inl same) by = same_fault r host faults text turn d e same by
write_step r host faults text turn d e other stage knows (Err Failed) (inr is) by =
    let new = wrote is.3 host 0 (padded text) is.0 in
    let alone = alone_wrote host (sectors_for (length text)) is.3 (padded text) is.0 (found_made r host text d is.0 stage knows is.1) in
    put_fault r host faults text turn d e (Some new) other is.4 (inr (inr (new, is.4.here, alone))) by
write_step r host faults text turn d e other stage knows (Err Exists) is by = absurd is
write_step r host faults text turn d e other stage knows (Err NotEmpty) is by = absurd is

minus_zero : (k : ℕ) → k - 0 ≡ k
minus_zero k = omega arith

-- a sector of the text, once its whole file is synced
text_sector : (host size k : ℕ) (bytes : List ℕ) → size ≡ sectors_in bytes → k < size
    → (synced host (wrote (λ _. true) host 0 bytes (created host size))).stable k ≡ sector_of bytes k
text_sector host size k bytes whole within =
    ap (λ (o : Option (List ℕ)). unwrap_or o zero_sector) (own_within host 0 (sectors_in bytes) k bytes [] (omega arith) (omega arith)) ∙ ap (λ (j : ℕ). sector_of bytes j) (minus_zero k)

-- the volatile file once it is synced, whole
synced_text : (host : ℕ) (text : List ℕ) → IsTextFile text (synced host (wrote (λ _. true) host 0 (padded text) (created host (sectors_for (length text)))))
synced_text host text = record {
  size = refl;
  sectors = λ k within. text_sector host (sectors_for (length text)) k (padded text) (sym (sectors_padded text)) within;
  settled = record { loose = without_writes (λ _. true) host 0 (sectors_in (padded text)) (padded text) []; fresh = unless_own host };
}

-- the volatile file has the text, not yet synced
abbrev IsWritten : ℕ → List ℕ → Place → Content → Type 0
IsWritten host text volatile d = d.file volatile ≡ Some (wrote (λ _. true) host 0 (padded text) (created host (sectors_for (length text))))

pub sync_step : (r : Replace) (host faults : ℕ) (text : List ℕ) (turn : Turn Replace (Unit {0}) (Unit {0})) (d e : Content) → (target_of r).name ≢ (volatile_of r).name
    → IsWritten host text (volatile_of r) d → Knows r host text d → (answer : Result (Unit {0}) DiskAnswer) → Syncs d host (volatile_of r) answer e
    → LeadsTo Synced r faults answer turn → Steps r host faults text turn d e
sync_step r host faults text turn d e other written knows (Ok u) is by =
    let f = is.0 in
    let whole : File = wrote (λ _. true) host 0 (padded text) (created host (sectors_for (length text))) in
    let new : Option File = Some (synced host f) in
    let has : HasText e (volatile_of r) text = (synced host whole, is.2.here ∙ ap (λ (g : File). Some (synced host g)) (one_file f whole (d.file (volatile_of r)) is.1 written), synced_text host text) in
    put_step r host faults text turn d e new other is.2 (after_more r Synced host faults text turn d e by (folder_after r host text d e new knows is.2) has)
sync_step r host faults text turn d e other written knows (Err NoFile) is by =
    absurd (no_file (wrote (λ _. true) host 0 (padded text) (created host (sectors_for (length text)))) (d.file (volatile_of r)) is.1 written)
sync_step r host faults text turn d e other written knows (Err Failed) same by = same_fault r host faults text turn d e same by
sync_step r host faults text turn d e other written knows (Err Exists) is by = absurd is
sync_step r host faults text turn d e other written knows (Err OutOfFile) is by = absurd is
sync_step r host faults text turn d e other written knows (Err NotEmpty) is by = absurd is

-- what is known of a written file
pub written_by_stage : (r : Replace) (host : ℕ) (text : List ℕ) (d : Content) → stage_of r ≡ Written → Knows r host text d → IsWritten host text (volatile_of r) d
written_by_stage r host text d stage knows = subst (λ (s : Stage). IsReady s host text (volatile_of r) d) stage knows.ready

-- a file for an empty text is written as soon as it is made
nothing_to_write : (host n : ℕ) (bytes : List ℕ) (f : File) → n ≡ 0 → writes (λ _. true) host 0 bytes n ++ f.loose ≡ f.loose
nothing_to_write host zero bytes f none = refl
nothing_to_write host (suc n) bytes f none = absurd (not_zero n none)
  where
    not_zero : (n : ℕ) → suc n ≡ 0 → ⊥
    not_zero n is = omega (arith, is)

pub written_when_empty : (r : Replace) (host : ℕ) (text : List ℕ) (d : Content) → stage_of r ≡ Created → length text ≡ 0 → Knows r host text d → IsWritten host text (volatile_of r) d
written_when_empty r host text d stage empty knows =
    let f : File = created host (sectors_for (length text)) in
    let none : sectors_in (padded text) ≡ 0 = sectors_padded text ∙ ap (λ (n : ℕ). sectors_for n) empty in
    subst (λ (s : Stage). IsReady s host text (volatile_of r) d) stage knows.ready
    ∙ ap (λ (ls : List Loose). Some (record f { loose = ls })) (sym (nothing_to_write host (sectors_in (padded text)) (padded text) f none))

-- the target has the volatile file's text
renamed : (r : Replace) (text : List ℕ) (d e : Content) → HasText d (volatile_of r) text → IsRenamed d (volatile_of r) (target_of r) e → HasText e (target_of r) text
renamed r text d e has is = (has.0, is.file.2 ∙ ap (λ (g : File). Some g) (one_file is.file.0 has.0 (d.file (volatile_of r)) is.file.1 has.1), has.2)

rename_done : (r : Replace) (host faults : ℕ) (text : List ℕ) (turn : Turn Replace (Unit {0}) (Unit {0})) (d e : Content) → HasText d (volatile_of r) text
    → IsRenamed d (volatile_of r) (target_of r) e
    → After turn r host faults text d e
    → Steps r host faults text turn d e
rename_done r host faults text turn d e has is after =
    let new = renamed r text d e has is in
    record {
      apart = record { dirs = is.dirs; files = λ q target volatile. is.others q volatile target };
      target = inr new;
      outcomes = old_or_new_on_each (target_of r) text d e (inr new);
      after = after;
    }

pub rename_step : (r : Replace) (host faults : ℕ) (text : List ℕ) (turn : Turn Replace (Unit {0}) (Unit {0})) (d e : Content)
    → stage_of r ≡ Synced → Knows r host text d → (answer : Result (Unit {0}) DiskAnswer) → Renames d (volatile_of r) (target_of r).name answer e
    → TurnFollows answer faults turn (λ _. turn ≡ Done tt) → Steps r host faults text turn d e
rename_step r host faults text turn d e stage knows (Ok u) is by =
    let has : HasText d (volatile_of r) text = subst (λ (s : Stage). IsReady s host text (volatile_of r) d) stage knows.ready in
    let new : HasText e (target_of r) text × (e.file (volatile_of r) ≡ None) = (renamed r text d e has is, is.gone) in
    rename_done r host faults text turn d e has is
    (subst (λ (t : Turn Replace (Unit {0}) (Unit {0})). After t r host faults text d e) (sym by) new)
rename_step r host faults text turn d e stage knows (Err NoFile) is by =
    let has : HasText d (volatile_of r) text = subst (λ (s : Stage). IsReady s host text (volatile_of r) d) stage knows.ready in
    absurd (no_file has.0 (d.file (volatile_of r)) is.1 has.1)
rename_step r host faults text turn d e stage knows (Err Failed) (inl same) by = same_fault r host faults text turn d e same by
rename_step r host faults text turn d e stage knows (Err Failed) (inr is) by =
    let has : HasText d (volatile_of r) text = subst (λ (s : Stage). IsReady s host text (volatile_of r) d) stage knows.ready in
    rename_done r host faults text turn d e has is (after_fault r host faults text turn d e by (inr (inl is.gone)))
rename_step r host faults text turn d e stage knows (Err Exists) is by = absurd is
rename_step r host faults text turn d e stage knows (Err OutOfFile) is by = absurd is
rename_step r host faults text turn d e stage knows (Err NotEmpty) is by = absurd is
