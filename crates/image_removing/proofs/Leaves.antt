-- What each step of a removal leaves.
use Rattle.std.proofs.Common.{◌≡◌, ◌≢◌, ◌⊎◌, ℕ, Bool, true, false, Option, Some, None, Result, Ok, Err, refl, sym, ap, ◌∙◌, subst, inl, inr}
use Rattle.std.proofs.lemmas.Bool.{false≢true}
use Rattle.sd_names.specs.declared.place.Dir.{Dir}
use Rattle.sd_names.specs.declared.place.Name.{Name}
use Rattle.sd_names.specs.declared.place.Place.{Place}
use Rattle.sd_names.specs.declared.turn.Turn.TheVariants.{More, Done, Ended}
use Rattle.shared_disk.specs.Calls.{IsPut, IsSame}
use Rattle.shared_disk.specs.Content.{Content}
use Rattle.shared_disk.specs.NameCalls.{HasEntry, IsDirMoved, IsDirRemoved, IsNameAbove, MovesDir, NextName, Removes, RemovesDir, ShowsName, place_in}
use Rattle.shared_disk.specs.Places.{place_is}
use Rattle.shared_disk.specs.Refusal.{refusal_of}
use Rattle.shared_disk.specs.WellFormed.{IsWellFormed}
use Rattle.shared_disk.specs.declared.disk.DiskAnswer.{DiskAnswer}
use Rattle.shared_disk.specs.declared.disk.DiskAnswer.TheVariants.{NoFile, Exists, OutOfFile, NotEmpty, Failed}
use Rattle.shared_disk.proofs.AtPlace.{no_file}
use Rattle.shared_disk.proofs.Places.{place_is-itself, place_is-same}
use Rattle.image_removing.specs.Removing.{IsBehind, RemovalTurn, at_stage, own_folder, own_place, removed_folder, removed_place}
use Rattle.image_removing.specs.Steps.{After, AreAbove, AreAboveBut, EndedBy, Ends, HaveIds, IsBare, IsGone, IsOwnGone, IsRemovedLeft, KnowsIn, LeavesIn, ListedBy, Lists, MovedBy, Moves, RemovedBy, RemovesFile}
use Rattle.image_removing.specs.declared.removing.ImageRemoving.{ImageRemoving}
use Rattle.image_removing.specs.declared.removing.Pass.{Pass}
use Rattle.image_removing.specs.declared.removing.Pass.TheVariants.{Earlier, Moved}
use Rattle.image_removing.specs.declared.removing.Stage.{Stage}
use Rattle.image_removing.specs.declared.removing.Stage.TheVariants.{Listing, Removing, Ending, Moving}
use Rattle.image_removing.proofs.Orders.{none_inside, own_apart, same_or_above}

-- ---- turns

goes_on : (r : ImageRemoving) (s : Stage) (faults : ℕ) (turn : RemovalTurn) (e : Content) → turn ≡ More (at_stage r s) → KnowsIn s (own_folder r) (removed_folder r) e → After r faults turn e
goes_on r s faults turn e is k = subst (λ (x : RemovalTurn). After r faults x e) (sym is) k

is_done : (r : ImageRemoving) (faults : ℕ) (turn : RemovalTurn) (e : Content) → turn ≡ Done tt → IsGone r.sd r.image e → After r faults turn e
is_done r faults turn e is gone = subst (λ (x : RemovalTurn). After r faults x e) (sym is) gone

refused : (r : ImageRemoving) (faults : ℕ) (turn : RemovalTurn) (e : Content) → turn ≡ Ended tt (refusal_of Failed faults) → After r faults turn e
refused r faults turn e is = subst (λ (x : RemovalTurn). After r faults x e) (sym is) refl

behind : (r : ImageRemoving) (pass : Pass) (faults : ℕ) (turn : RemovalTurn) (e : Content) → IsBehind r pass turn → HaveIds (own_folder r) (removed_folder r) e → IsOwnGone pass (own_folder r) e
    → e.dir (removed_folder r) ≡ false → After r faults turn e
behind r Earlier faults turn e is ids gone none = goes_on r Moving faults turn e is (ids, none)
behind r Moved faults turn e is ids gone none = is_done r faults turn e is (record { own = gone; removed = none })

-- the image's own folder is as it was
own_kept : (pass : Pass) (own : Dir) (d e : Content) → e.dir own ≡ d.dir own → IsOwnGone pass own d → IsOwnGone pass own e
own_kept Earlier own d e same gone = tt
own_kept Moved own d e same gone = same ∙ gone

untouched : (s : Stage) (r : ImageRemoving) (faults : ℕ) (turn : RemovalTurn) (d e : Content) → IsSame d e → (KnowsIn s (own_folder r) (removed_folder r) d → After r faults turn d)
    → LeavesIn s r faults turn d e
untouched s r faults turn d e same after = record {
  dirs = λ q _ _. ap (λ (c : Content). c.dir q) same;
  others = λ q _ _. ap (λ (c : Content). c.file q) same;
  own = λ n. inl (ap (λ (c : Content). c.file (own_place r n)) same);
  removed = λ n. inl (ap (λ (c : Content). c.file (removed_place r n)) same);
  idle = λ _. same;
  after = λ k. subst (λ (c : Content). After r faults turn c) (sym same) (after k);
}

-- ---- a listing

next_met : (own removed : Dir) (pass : Pass) (after : Option Name) (n : Name) (d : Content) → KnowsIn (Listing pass after) own removed d → ShowsName d removed n
    → ((m : Name) → ShowsName d removed m → IsNameAbove after m → (m ≡ n) ⊎ IsNameAbove (Some n) m) → KnowsIn (Removing pass n) own removed d
next_met own removed pass after n d k shown least = (k.0, (λ m shows. least m shows (k.1.0 m shows), k.1.1))

pub list_leaves : (r : ImageRemoving) (pass : Pass) (after : Option Name) (faults : ℕ) (turn : RemovalTurn) (d e : Content) → Lists r pass after faults turn d e → LeavesIn (Listing pass after) r faults turn d e
list_leaves r pass after faults turn d e is = go is.0 is.1 is.2
  where
    go : (answer : Result (Option Name) DiskAnswer) → NextName d (removed_folder r) after answer e → ListedBy r pass faults answer turn → LeavesIn (Listing pass after) r faults turn d e
    go (Ok None) call by =
        untouched (Listing pass after) r faults turn d e call.0 (λ k. goes_on r (Ending pass) faults turn d by (k.0, (λ n shows. call.2 n shows (k.1.0 n shows), k.1.1)))
    go (Ok (Some n)) call by =
        untouched (Listing pass after) r faults turn d e call.0
        (λ k. goes_on r (Removing pass n) faults turn d by
        (next_met (own_folder r) (removed_folder r) pass after n d k call.2.0
        (λ m shows above. same_or_above n m (k.0 n (inr call.2.0)) (k.0 m (inr shows)) (call.2.2 m shows above))))
    go (Err NoFile) call by = untouched (Listing pass after) r faults turn d e call.0 (λ k. behind r pass faults turn d by k.0 k.1.1 call.1)
    go (Err Failed) call by = untouched (Listing pass after) r faults turn d e call (λ k. refused r faults turn d by)
    go (Err Exists) call by = absurd call
    go (Err OutOfFile) call by = absurd call
    go (Err NotEmpty) call by = absurd call

-- ---- a removal of a file

file_put : (r : ImageRemoving) (n m : Name) (d e : Content) → IsPut d (removed_place r n) None e → (e.file (removed_place r m) ≡ d.file (removed_place r m)) ⊎ (e.file (removed_place r m) ≡ None)
file_put r n m d e put = go (place_is (removed_place r m) (removed_place r n)) refl
  where
    go : (b : Bool) → place_is (removed_place r m) (removed_place r n) ≡ b → (e.file (removed_place r m) ≡ d.file (removed_place r m)) ⊎ (e.file (removed_place r m) ≡ None)
    go true is = inr (ap (λ (q : Place). e.file q) (place_is-same (removed_place r m) (removed_place r n) is) ∙ put.here)
    go false is = inl (put.others (removed_place r m) (λ same. false≢true (sym is ∙ ap (λ (q : Place). place_is q (removed_place r n)) same ∙ place_is-itself (removed_place r n))))

removed_left : (r : ImageRemoving) (m : Name) (d e : Content) → (e.file (removed_place r m) ≡ d.file (removed_place r m)) ⊎ (e.file (removed_place r m) ≡ None) → IsRemovedLeft r m d e
removed_left r m d e (inl same) = inl same
removed_left r m d e (inr none) = inr (inl none)

own_places : (r : ImageRemoving) (n m : Name) → own_place r m ≢ removed_place r n
own_places r n m same = own_apart r.sd r.image (ap (λ (q : Place). q.dir) same)

shown_before : (r : ImageRemoving) (n m : Name) (d e : Content) → IsPut d (removed_place r n) None e → ShowsName e (removed_folder r) m → ShowsName d (removed_folder r) m
shown_before r n m d e put shows = go (file_put r n m d e put)
  where
    go : (e.file (removed_place r m) ≡ d.file (removed_place r m)) ⊎ (e.file (removed_place r m) ≡ None) → ShowsName d (removed_folder r) m
    go (inl same) = (shows.0, sym same ∙ shows.1)
    go (inr none) = absurd (no_file shows.0 (e.file (removed_place r m)) none shows.1)

ids_put : (r : ImageRemoving) (n : Name) (d e : Content) → IsPut d (removed_place r n) None e → HaveIds (own_folder r) (removed_folder r) d → HaveIds (own_folder r) (removed_folder r) e
ids_put r n d e put ids m (inl shows) = ids m (inl (shows.0, sym (put.others (own_place r m) (own_places r n m)) ∙ shows.1))
ids_put r n d e put ids m (inr shows) = ids m (inr (shown_before r n m d e put shows))

-- what is left has a name above this one
above_gone : (removed : Dir) (n : Name) (d e : Content) → AreAboveBut removed n d → ((m : Name) → ShowsName e removed m → ShowsName d removed m) → e.file (place_in removed n) ≡ None → AreAbove removed (Some n) e
above_gone removed n d e above back gone m shows = go (above m (back m shows))
  where
    go : (m ≡ n) ⊎ IsNameAbove (Some n) m → IsNameAbove (Some n) m
    go (inl same) = absurd (no_file shows.0 (e.file (place_in removed m)) (ap (λ (x : Name). e.file (place_in removed x)) same ∙ gone) shows.1)
    go (inr is) = is

file_removed : (r : ImageRemoving) (pass : Pass) (n : Name) (faults : ℕ) (turn : RemovalTurn) (d e : Content) → IsPut d (removed_place r n) None e → (IsGone r.sd r.image d → ⊥)
    → (KnowsIn (Removing pass n) (own_folder r) (removed_folder r) d → After r faults turn e) → LeavesIn (Removing pass n) r faults turn d e
file_removed r pass n faults turn d e put some after = record {
  dirs = λ q _ _. put.dirs q;
  others = λ q _ apart. put.others q (λ same. apart (ap (λ (p : Place). p.dir) same));
  own = λ m. inl (put.others (own_place r m) (own_places r n m));
  removed = λ m. removed_left r m d e (file_put r n m d e put);
  idle = λ gone. absurd (some gone);
  after = after;
}

knows_removed : (r : ImageRemoving) (pass : Pass) (n : Name) (d e : Content) → IsPut d (removed_place r n) None e → KnowsIn (Removing pass n) (own_folder r) (removed_folder r) d
    → KnowsIn (Listing pass (Some n)) (own_folder r) (removed_folder r) e
knows_removed r pass n d e put k =
    (ids_put r n d e put k.0, (above_gone (removed_folder r) n d e k.1.0 (λ m shows. shown_before r n m d e put shows) put.here, own_kept pass (own_folder r) d e (put.dirs (own_folder r)) k.1.1))

pub remove_leaves : (r : ImageRemoving) (pass : Pass) (n : Name) (faults : ℕ) (turn : RemovalTurn) (d e : Content) → IsWellFormed d → RemovesFile r pass n faults turn d e
    → LeavesIn (Removing pass n) r faults turn d e
remove_leaves r pass n faults turn d e well is = go is.0 is.1 is.2
  where
    go : (answer : Result (Unit {0}) DiskAnswer) → Removes d (removed_place r n) answer e → RemovedBy r pass n faults answer turn → LeavesIn (Removing pass n) r faults turn d e
    go (Ok u) call by =
        file_removed r pass n faults turn d e call.2 (λ gone. false≢true (sym gone.removed ∙ well.folders (removed_place r n) call.0 call.1))
        (λ k. goes_on r (Listing pass (Some n)) faults turn e by (knows_removed r pass n d e call.2 k))
    go (Err NoFile) call by =
        untouched (Removing pass n) r faults turn d e call.0
        (λ k. goes_on r (Listing pass (Some n)) faults turn d by (k.0, (above_gone (removed_folder r) n d d k.1.0 (λ m shows. shows) call.1, k.1.1)))
    go (Err Failed) (inl same) by = untouched (Removing pass n) r faults turn d e same (λ k. refused r faults turn d by)
    go (Err Failed) (inr call) by =
        file_removed r pass n faults turn d e call.2 (λ gone. false≢true (sym gone.removed ∙ well.folders (removed_place r n) call.0 call.1)) (λ k. refused r faults turn e by)
    go (Err Exists) call by = absurd call
    go (Err OutOfFile) call by = absurd call
    go (Err NotEmpty) call by = absurd call

-- ---- the removal of the folder

folder_removed : (r : ImageRemoving) (pass : Pass) (faults : ℕ) (turn : RemovalTurn) (d e : Content) → IsDirRemoved d (removed_folder r) e
    → (KnowsIn (Ending pass) (own_folder r) (removed_folder r) d → After r faults turn e) → LeavesIn (Ending pass) r faults turn d e
folder_removed r pass faults turn d e call after = record {
  dirs = λ q _ apart. call.put.others q apart;
  others = λ q _ _. call.put.files q;
  own = λ n. inl (call.put.files (own_place r n));
  removed = λ n. inl (call.put.files (removed_place r n));
  idle = λ gone. absurd (false≢true (sym gone.removed ∙ call.there));
  after = after;
}

ids_same : (own removed : Dir) (d e : Content) → ((q : Place) → (q.dir ≡ own) ⊎ (q.dir ≡ removed) → e.file q ≡ d.file q) → HaveIds own removed d → HaveIds own removed e
ids_same own removed d e same ids n (inl shows) = ids n (inl (shows.0, sym (same (place_in own n) (inl refl)) ∙ shows.1))
ids_same own removed d e same ids n (inr shows) = ids n (inr (shows.0, sym (same (place_in removed n) (inr refl)) ∙ shows.1))

-- a folder without files has no entry
not_bare : (r : ImageRemoving) (d : Content) → IsBare (removed_folder r) d → HasEntry d (removed_folder r) → ⊥
not_bare r d bare (inl shows) = bare shows.0 shows.1
not_bare r d bare (inr shows) = none_inside r.sd r.image shows.0 shows.1.inside

pub end_leaves : (r : ImageRemoving) (pass : Pass) (faults : ℕ) (turn : RemovalTurn) (d e : Content) → Ends r pass faults turn d e → LeavesIn (Ending pass) r faults turn d e
end_leaves r pass faults turn d e is = go is.0 is.1 is.2
  where
    go : (answer : Result (Unit {0}) DiskAnswer) → RemovesDir d (removed_folder r) answer e → EndedBy r pass faults answer turn → LeavesIn (Ending pass) r faults turn d e
    go (Ok u) call by =
        folder_removed r pass faults turn d e call
        (λ k. behind r pass faults turn e by (ids_same (own_folder r) (removed_folder r) d e (λ q _. call.put.files q) k.0)
        (own_kept pass (own_folder r) d e (call.put.others (own_folder r) (own_apart r.sd r.image)) k.1.1) call.put.here)
    go (Err NoFile) call by = untouched (Ending pass) r faults turn d e call.0 (λ k. behind r pass faults turn d by k.0 k.1.1 call.1)
    go (Err NotEmpty) call by = untouched (Ending pass) r faults turn d e call.0 (λ k. absurd (not_bare r d k.1.0 call.2))
    go (Err Failed) (inl same) by = untouched (Ending pass) r faults turn d e same (λ k. refused r faults turn d by)
    go (Err Failed) (inr call) by = folder_removed r pass faults turn d e call (λ k. refused r faults turn e by)
    go (Err Exists) call by = absurd call
    go (Err OutOfFile) call by = absurd call

-- ---- the move

folder_moved : (r : ImageRemoving) (faults : ℕ) (turn : RemovalTurn) (d e : Content) → IsDirMoved d (own_folder r) (removed_folder r) e
    → (KnowsIn Moving (own_folder r) (removed_folder r) d → After r faults turn e) → LeavesIn Moving r faults turn d e
folder_moved r faults turn d e call after = record {
  dirs = λ q own removed. call.dirs q own removed;
  others = λ q own removed. call.others q own removed;
  own = λ n. inr (call.left n);
  removed = λ n. inr (inr (call.files n, call.left n));
  idle = λ gone. absurd (false≢true (sym gone.own ∙ call.there));
  after = after;
}

ids_moved : (r : ImageRemoving) (d e : Content) → IsDirMoved d (own_folder r) (removed_folder r) e → HaveIds (own_folder r) (removed_folder r) d → HaveIds (own_folder r) (removed_folder r) e
ids_moved r d e call ids n (inl shows) = absurd (no_file shows.0 (e.file (own_place r n)) (call.left n) shows.1)
ids_moved r d e call ids n (inr shows) = ids n (inl (shows.0, sym (call.files n) ∙ shows.1))

pub move_leaves : (r : ImageRemoving) (faults : ℕ) (turn : RemovalTurn) (d e : Content) → Moves r faults turn d e → LeavesIn Moving r faults turn d e
move_leaves r faults turn d e is = go is.0 is.1 is.2
  where
    go : (answer : Result (Unit {0}) DiskAnswer) → MovesDir d (own_folder r) (removed_folder r) answer e → MovedBy r faults answer turn → LeavesIn Moving r faults turn d e
    go (Ok u) call by =
        folder_moved r faults turn d e call (λ k. goes_on r (Listing Moved None) faults turn e by (ids_moved r d e call k.0, (λ n shows. tt, call.gone)))
    go (Err NoFile) call by = untouched Moving r faults turn d e call.0 (λ k. is_done r faults turn d by (record { own = call.1; removed = k.1 }))
    go (Err Exists) call by = untouched Moving r faults turn d e call.0 (λ k. absurd (false≢true (sym k.1 ∙ call.2)))
    go (Err Failed) (inl same) by = untouched Moving r faults turn d e same (λ k. refused r faults turn d by)
    go (Err Failed) (inr call) by = folder_moved r faults turn d e call (λ k. refused r faults turn e by)
    go (Err OutOfFile) call by = absurd call
    go (Err NotEmpty) call by = absurd call

-- ---- the stage of a step

pub in_stage : (s : Stage) (r : ImageRemoving) (faults : ℕ) (turn : RemovalTurn) (d e : Content) → r.stage ≡ s → LeavesIn s r faults turn d e → LeavesIn r.stage r faults turn d e
in_stage s r faults turn d e at leaves = subst (λ (x : Stage). LeavesIn x r faults turn d e) (sym at) leaves
