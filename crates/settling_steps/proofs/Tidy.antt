-- What a step of a tidying leaves.
use Rattle.std.proofs.Common.{◌≡◌, ◌⊎◌, ℕ, Bool, true, false, Option, Some, None, Result, Ok, Err, refl, sym, ap, ◌∙◌, subst, inl, inr}
use Rattle.std.proofs.lemmas.Bool.{false≢true}
use Rattle.std.proofs.lemmas.Option.{none-some}
use Rattle.sd_names.specs.Place.{NameHasIds}
use Rattle.sd_names.specs.declared.place.Dir.{Dir}
use Rattle.sd_names.specs.declared.place.Name.{Name}
use Rattle.sd_names.specs.declared.place.Place.{Place}
use Rattle.sd_names.specs.declared.turn.Turn.TheVariants.{More, Ended}
use Rattle.shared_disk.specs.Calls.{IsPut, IsSame}
use Rattle.shared_disk.specs.Content.{Content, File}
use Rattle.shared_disk.specs.NameCalls.{IsNameAbove, IsNextName, NextName, Removes, place_in}
use Rattle.shared_disk.specs.Places.{place_is}
use Rattle.shared_disk.specs.Refusal.{refusal_of}
use Rattle.shared_disk.specs.Step.{TurnFollows}
use Rattle.shared_disk.specs.declared.disk.DiskAnswer.{DiskAnswer}
use Rattle.shared_disk.specs.declared.disk.DiskAnswer.TheVariants.{NoFile, Exists, OutOfFile, NotEmpty, Failed}
use Rattle.shared_disk.proofs.AtPlace.{no_file}
use Rattle.shared_disk.proofs.Places.{place_is-itself, place_is-same}
use Rattle.settling_steps.specs.Leftovers.{After, AreAbove, IsLeftOver, IsTidy, Knows, KnowsNames, KnowsStage, LeavesIn, Lists, ListedNext, RemovedBy, RemovesName, TidyTurn, at_stage, met_stage, temporary_in}
use Rattle.settling_steps.specs.Names.{name_of, temporary_name}
use Rattle.settling_steps.specs.declared.leftovers.Stage.{Stage}
use Rattle.settling_steps.specs.declared.leftovers.Stage.TheVariants.{Listing, Removing}
use Rattle.settling_steps.specs.declared.leftovers.Tidying.{Tidying}
use Rattle.settling_steps.specs.declared.names.Temporary.{Temporary}
use Rattle.settling_steps.proofs.Orders.{name_is, named_back, same_or_above}

-- ---- a listing

untouched : (s : Stage) (t : Tidying) (faults : ℕ) (turn : TidyTurn) (d e : Content) → IsSame d e → (KnowsStage s t.dir d → After t faults turn e) → LeavesIn s t faults turn d e
untouched s t faults turn d e same after = record {
  dirs = λ q. ap (λ (c : Content). c.dir q) same;
  others = λ q _. ap (λ (c : Content). c.file q) same;
  temporary = λ o. inl (ap (λ (c : Content). c.file (temporary_in t.dir o)) same);
  after = after;
}

-- none is above the last name, so none is left
none_left : (dir : Dir) (after : Option Name) (d : Content) → AreAbove dir after d → IsNextName d dir after None → IsTidy dir d
none_left dir after d above next o = go (d.file (temporary_in dir o)) refl
  where
    go : (f : Option File) → d.file (temporary_in dir o) ≡ f → d.file (temporary_in dir o) ≡ None
    go None e = e
    go (Some f) e = absurd (next (name_of o) (f, e) (above o (f, e)))

-- the temporary names that are left are the next one, or above it
from_next : (dir : Dir) (after : Option Name) (n : Name) (d : Content) → KnowsNames dir d → NameHasIds n → AreAbove dir after d → IsNextName d dir after (Some n)
    → (o : Temporary) → IsLeftOver dir o d → (name_of o ≡ n) ⊎ IsNameAbove (Some n) (name_of o)
from_next dir after n d k ids above next o left = same_or_above n (name_of o) ids (k.ids o left) (next.2 (name_of o) left (above o left))

met : (t : Tidying) (n : Name) (found : Option Temporary) (d : Content) → temporary_name n ≡ found → KnowsNames t.dir d
    → ((o : Temporary) → IsLeftOver t.dir o d → (name_of o ≡ n) ⊎ IsNameAbove (Some n) (name_of o)) → Knows (at_stage t (met_stage n found)) d
met t n (Some p) d is k from = (k, λ o left. subst (λ (m : Name). (name_of o ≡ m) ⊎ IsNameAbove (Some m) (name_of o)) (sym (name_is n p is)) (from o left))
met t n None d is k from = (k, λ o left. go o (from o left))
  where
    go : (o : Temporary) → (name_of o ≡ n) ⊎ IsNameAbove (Some n) (name_of o) → IsNameAbove (Some n) (name_of o)
    go o (inl e) = absurd (none-some o (sym is ∙ ap temporary_name (sym e) ∙ named_back o))
    go o (inr above) = above

listed : (t : Tidying) (after : Option Name) (faults : ℕ) (turn : TidyTurn) (d : Content) (next : Option Name) → IsNextName d t.dir after next → ListedNext t turn next
    → KnowsStage (Listing after) t.dir d → After t faults turn d
listed t after faults turn d None is same k = subst (λ (x : TidyTurn). After t faults x d) (sym same) (none_left t.dir after d k.1 is)
listed t after faults turn d (Some n) is same k =
    subst (λ (x : TidyTurn). After t faults x d) (sym same.1) (met t n (temporary_name n) d refl k.0 (from_next t.dir after n d k.0 same.0 k.1 is))

refused : (t : Tidying) (faults : ℕ) (turn : TidyTurn) (e : Content) → turn ≡ Ended tt (refusal_of Failed faults) → After t faults turn e
refused t faults turn e same = subst (λ (x : TidyTurn). After t faults x e) (sym same) refl

pub list_leaves : (t : Tidying) (after : Option Name) (faults : ℕ) (turn : TidyTurn) (d e : Content) → Lists t after faults turn d e → LeavesIn (Listing after) t faults turn d e
list_leaves t after faults turn d e is = go is.0 is.1 is.2
  where
    go : (answer : Result (Option Name) DiskAnswer) → NextName d t.dir after answer e → TurnFollows answer faults turn (ListedNext t turn) → LeavesIn (Listing after) t faults turn d e
    go (Ok next) call follows = untouched (Listing after) t faults turn d e call.0 (λ k. subst (λ (c : Content). After t faults turn c) (sym call.0) (listed t after faults turn d next call.2 follows k))
    go (Err Failed) call follows = untouched (Listing after) t faults turn d e call (λ k. refused t faults turn e follows)
    go (Err NoFile) call follows = untouched (Listing after) t faults turn d e call.0 (λ k. absurd (false≢true (sym call.1 ∙ k.0.there)))
    go (Err Exists) call follows = absurd call
    go (Err OutOfFile) call follows = absurd call
    go (Err NotEmpty) call follows = absurd call

-- ---- a removal

above_gone : (dir : Dir) (o : Temporary) (d e : Content) → e.dir dir ≡ d.dir dir → ((p : Temporary) → IsLeftOver dir p e → IsLeftOver dir p d) → e.file (temporary_in dir o) ≡ None
    → KnowsStage (Removing o) dir d → KnowsStage (Listing (Some (name_of o))) dir e
above_gone dir o d e there back gone k =
    (record { there = there ∙ k.0.there; ids = λ p left. k.0.ids p (back p left) }, λ p left. go p left (k.1 p (back p left)))
  where
    go : (p : Temporary) → IsLeftOver dir p e → (name_of p ≡ name_of o) ⊎ IsNameAbove (Some (name_of o)) (name_of p) → IsNameAbove (Some (name_of o)) (name_of p)
    go p left (inl same) = absurd (no_file left.0 (e.file (temporary_in dir p)) (ap (λ (n : Name). e.file (place_in dir n)) same ∙ gone) left.1)
    go p left (inr above) = above

goes_on : (t : Tidying) (o : Temporary) (faults : ℕ) (turn : TidyTurn) (e : Content) → turn ≡ More (at_stage t (Listing (Some (name_of o))))
    → KnowsStage (Listing (Some (name_of o))) t.dir e → After t faults turn e
goes_on t o faults turn e same k = subst (λ (x : TidyTurn). After t faults x e) (sym same) k

temporary_put : (dir : Dir) (o p : Temporary) (d e : Content) → IsPut d (temporary_in dir o) None e
    → (e.file (temporary_in dir p) ≡ d.file (temporary_in dir p)) ⊎ (e.file (temporary_in dir p) ≡ None)
temporary_put dir o p d e put = go (place_is (temporary_in dir p) (temporary_in dir o)) refl
  where
    go : (b : Bool) → place_is (temporary_in dir p) (temporary_in dir o) ≡ b → (e.file (temporary_in dir p) ≡ d.file (temporary_in dir p)) ⊎ (e.file (temporary_in dir p) ≡ None)
    go true is = inr (ap (λ (q : Place). e.file q) (place_is-same (temporary_in dir p) (temporary_in dir o) is) ∙ put.here)
    go false is = inl (put.others (temporary_in dir p) (λ same. false≢true (sym is ∙ ap (λ (q : Place). place_is q (temporary_in dir o)) same ∙ place_is-itself (temporary_in dir o))))

left_before : (dir : Dir) (o p : Temporary) (d e : Content) → IsPut d (temporary_in dir o) None e → IsLeftOver dir p e → IsLeftOver dir p d
left_before dir o p d e put left = go (temporary_put dir o p d e put)
  where
    go : (e.file (temporary_in dir p) ≡ d.file (temporary_in dir p)) ⊎ (e.file (temporary_in dir p) ≡ None) → IsLeftOver dir p d
    go (inl same) = (left.0, sym same ∙ left.1)
    go (inr none) = absurd (no_file left.0 (e.file (temporary_in dir p)) none left.1)

removed : (o : Temporary) (t : Tidying) (faults : ℕ) (turn : TidyTurn) (d e : Content) → IsPut d (temporary_in t.dir o) None e → (KnowsStage (Removing o) t.dir d → After t faults turn e)
    → LeavesIn (Removing o) t faults turn d e
removed o t faults turn d e put after = record {
  dirs = put.dirs;
  others = λ q apart. put.others q (apart o);
  temporary = λ p. temporary_put t.dir o p d e put;
  after = after;
}

pub remove_leaves : (t : Tidying) (o : Temporary) (faults : ℕ) (turn : TidyTurn) (d e : Content) → RemovesName t o faults turn d e → LeavesIn (Removing o) t faults turn d e
remove_leaves t o faults turn d e is = go is.0 is.1 is.2
  where
    go : (answer : Result (Unit {0}) DiskAnswer) → Removes d (temporary_in t.dir o) answer e → RemovedBy t o faults answer turn → LeavesIn (Removing o) t faults turn d e
    go (Ok u) call follows =
        removed o t faults turn d e call.2 (λ k. goes_on t o faults turn e follows (above_gone t.dir o d e (call.2.dirs t.dir) (λ p left. left_before t.dir o p d e call.2 left) call.2.here k))
    go (Err NoFile) call follows =
        untouched (Removing o) t faults turn d e call.0
        (λ k. goes_on t o faults turn e follows
        (above_gone t.dir o d e (ap (λ (c : Content). c.dir t.dir) call.0) (λ p left. subst (λ (c : Content). IsLeftOver t.dir p c) call.0 left) (ap (λ (c : Content). c.file (temporary_in t.dir o)) call.0 ∙ call.1) k))
    go (Err Failed) (inl same) follows = untouched (Removing o) t faults turn d e same (λ k. refused t faults turn e follows)
    go (Err Failed) (inr gone) follows = removed o t faults turn d e gone.2 (λ k. refused t faults turn e follows)
    go (Err Exists) call follows = absurd call
    go (Err OutOfFile) call follows = absurd call
    go (Err NotEmpty) call follows = absurd call

-- ---- the stage of a step

pub list_step : (t : Tidying) (after : Option Name) (faults : ℕ) (turn : TidyTurn) (d e : Content) → t.stage ≡ Listing after → Lists t after faults turn d e → LeavesIn t.stage t faults turn d e
list_step t after faults turn d e at call = subst (λ (s : Stage). LeavesIn s t faults turn d e) (sym at) (list_leaves t after faults turn d e call)

pub remove_step : (t : Tidying) (o : Temporary) (faults : ℕ) (turn : TidyTurn) (d e : Content) → t.stage ≡ Removing o → RemovesName t o faults turn d e → LeavesIn t.stage t faults turn d e
remove_step t o faults turn d e at call = subst (λ (s : Stage). LeavesIn s t faults turn d e) (sym at) (remove_leaves t o faults turn d e call)
