-- Each step of the listing leaves fewer to come.
use Rattle.std.proofs.Common.{◌≡◌, ℕ, zero, suc, ◌+◌, ◌*◌, ◌<◌, Option, Some, None, Result, Ok, Err, sym, subst, arith}
use Rattle.sd_names.specs.Turn.{MatchTurn}
use Rattle.sd_names.specs.declared.id.Id.{Id}
use Rattle.sd_names.specs.declared.place.Dir.{Dir}
use Rattle.sd_names.specs.declared.place.Dir.TheVariants as dir
use Rattle.sd_names.specs.declared.refusal.Refusal.{Refusal}
use Rattle.sd_names.specs.declared.turn.Turn.{Turn}
use Rattle.sd_names.specs.declared.turn.Turn.TheVariants.{More, Done, Ended}
use Rattle.shared_disk.specs.Calls.{HasLength, IsSame}
use Rattle.shared_disk.specs.Content.{Content}
use Rattle.shared_disk.specs.NameCalls.{IsNextDir, NextDir}
use Rattle.shared_disk.specs.Step.{GoesOn, TurnFollows}
use Rattle.shared_disk.specs.declared.disk.DiskAnswer.{DiskAnswer}
use Rattle.shared_disk.specs.declared.disk.DiskAnswer.TheVariants.{NoFile, Exists, OutOfFile, NotEmpty, Failed}
use Rattle.pool_making.specs.Layout.{metadata_of}
use Rattle.pool_making.specs.Listing.{ListsAtMost}
use Rattle.pool_making.specs.Making.{IsAt, left_of, stage_of}
use Rattle.pool_making.specs.Steps.{CheckedBy, Falls, IsMost, ListedBy}
use Rattle.pool_making.specs.declared.making.MakePool.{MakePool}
use Rattle.pool_making.specs.declared.making.Stage.{Stage}
use Rattle.pool_making.specs.declared.making.Stage.TheVariants.{Listing, Checking, Searching}

abbrev Turns : Type 0
Turns = Turn MakePool (Unit {0}) (Unit {0})

-- what a turn leaves to do, from a stage that has so many steps left
abbrev Fewer : ℕ → Turns → Content → Type 0
Fewer left turn e = MatchTurn turn (λ next. (k : ℕ) × IsMost (stage_of next) k e × (left_of k (stage_of next) < left)) (λ _. 0 < left) (λ _ _. 0 < left)

fewer_more : (m : MakePool) (s : Stage) (left k : ℕ) (turn : Turns) (e : Content) → GoesOn (IsAt m s) turn → IsMost s k e → left_of k s < left → Fewer left turn e
fewer_more m s left k (More next) e at most less =
    (k, subst (λ (x : Stage). IsMost x k e) (sym at.now_in) most, subst (λ (x : Stage). left_of k x < left) (sym at.now_in) less)
fewer_more m s left k (Done u) e at most less = absurd at
fewer_more m s left k (Ended u refusal) e at most less = absurd at

fewer_ended : (left : ℕ) (turn : Turns) (refusal : Refusal) (e : Content) → turn ≡ Ended tt refusal → 0 < left → Fewer left turn e
fewer_ended left turn refusal e is some = subst (λ (t : Turns). Fewer left t e) (sym is) some

-- from the stage to its making
falls_in : (s : Stage) (m : MakePool) (turn : Turns) (d e : Content) → stage_of m ≡ s → ((n : ℕ) → IsMost s n d → Fewer (left_of n s) turn e) → Falls m turn d e
falls_in s m turn d e is fewer n most =
    subst (λ (x : Stage). Fewer (left_of n x) turn e) (sym is) (fewer n (subst (λ (x : Stage). IsMost x n d) is most))

some_left : (n : ℕ) → 0 < 2 * n + 21
some_left n = omega arith

-- one more folder was listed
listed : (m : MakePool) (s : Stage) (q : Dir) (after : Option Dir) (n : ℕ) (turn : Turns) (d e : Content) → GoesOn (IsAt m s) turn → IsNextDir d dir.Root after (Some q) → ListsAtMost n d after
    → ((k : ℕ) → ListsAtMost k d (Some q) → IsMost s k e) → ((k : ℕ) → left_of k s < 2 * suc k + 21) → Fewer (2 * n + 21) turn e
listed m s q after zero turn d e at next most kept less = absurd (most q next)
listed m s q after (suc k) turn d e at next most kept less = fewer_more m s (2 * suc k + 21) k turn e at (kept k (most q next)) (less k)

again : (q : Dir) (k : ℕ) (d e : Content) → IsSame d e → ListsAtMost k d (Some q) → ListsAtMost k e (Some q)
again q k d e same most = subst (λ (c : Content). ListsAtMost k c (Some q)) (sym same) most

list_less : (k : ℕ) → 2 * k + 21 < 2 * suc k + 21
list_less k = omega arith

check_less : (k : ℕ) → 2 * k + 22 < 2 * suc k + 21
check_less k = omega arith

folder_listed : (after : Option Dir) (m : MakePool) (q : Dir) (n : ℕ) (turn : Turns) (d e : Content) → IsSame d e → IsNextDir d dir.Root after (Some q) → ListedBy m (Some q) turn → ListsAtMost n d after
    → Fewer (2 * n + 21) turn e
folder_listed after m (dir.Domain p) n turn d e same next by most =
    listed m (Checking p) (dir.Domain p) after n turn d e by next most (λ k more. again (dir.Domain p) k d e same more) check_less
folder_listed after m dir.Root n turn d e same next by most = listed m (Listing (Some dir.Root)) dir.Root after n turn d e by next most (λ k more. again dir.Root k d e same more) list_less
folder_listed after m (dir.DomMd p) n turn d e same next by most =
    listed m (Listing (Some (dir.DomMd p))) (dir.DomMd p) after n turn d e by next most (λ k more. again (dir.DomMd p) k d e same more) list_less
folder_listed after m (dir.Images p) n turn d e same next by most =
    listed m (Listing (Some (dir.Images p))) (dir.Images p) after n turn d e by next most (λ k more. again (dir.Images p) k d e same more) list_less
folder_listed after m (dir.Image p i) n turn d e same next by most =
    listed m (Listing (Some (dir.Image p i))) (dir.Image p i) after n turn d e by next most (λ k more. again (dir.Image p i) k d e same more) list_less
folder_listed after m (dir.Removed p i) n turn d e same next by most =
    listed m (Listing (Some (dir.Removed p i))) (dir.Removed p i) after n turn d e by next most (λ k more. again (dir.Removed p i) k d e same more) list_less
folder_listed after m (dir.Master p) n turn d e same next by most =
    listed m (Listing (Some (dir.Master p))) (dir.Master p) after n turn d e by next most (λ k more. again (dir.Master p) k d e same more) list_less
folder_listed after m (dir.Tasks p) n turn d e same next by most =
    listed m (Listing (Some (dir.Tasks p))) (dir.Tasks p) after n turn d e by next most (λ k more. again (dir.Tasks p) k d e same more) list_less

search_less : (n : ℕ) → 20 < 2 * n + 21
search_less n = omega arith

list_fewer : (after : Option Dir) (m : MakePool) (faults : ℕ) (turn : Turns) (d e : Content) → (answer : Result (Option Dir) DiskAnswer) → NextDir d dir.Root after answer e
    → TurnFollows answer faults turn (λ next. ListedBy m next turn) → (n : ℕ) → ListsAtMost n d after → Fewer (2 * n + 21) turn e
list_fewer after m faults turn d e (Ok None) call by n most = fewer_more m Searching (2 * n + 21) 0 turn e by tt (search_less n)
list_fewer after m faults turn d e (Ok (Some q)) call by n most = folder_listed after m q n turn d e call.0 call.2 by most
list_fewer after m faults turn d e (Err x) call by n most = fewer_ended (2 * n + 21) turn _ e by (some_left n)

pub list_falls : (after : Option Dir) (m : MakePool) (faults : ℕ) (turn : Turns) (d e : Content) → stage_of m ≡ Listing after → (answer : Result (Option Dir) DiskAnswer)
    → NextDir d dir.Root after answer e → TurnFollows answer faults turn (λ next. ListedBy m next turn) → Falls m turn d e
list_falls after m faults turn d e is answer call by = falls_in (Listing after) m turn d e is (λ n most. list_fewer after m faults turn d e answer call by n most)

left_more : (n : ℕ) → 0 < 2 * n + 22
left_more n = omega arith

back_less : (n : ℕ) → 2 * n + 21 < 2 * n + 22
back_less n = omega arith

check_fewer : (q : Id) (m : MakePool) (faults : ℕ) (turn : Turns) (d e : Content) → (answer : Result ℕ DiskAnswer) → HasLength d (metadata_of q) answer e → CheckedBy m q faults answer turn
    → (n : ℕ) → ListsAtMost n d (Some (dir.Domain q)) → Fewer (2 * n + 22) turn e
check_fewer q m faults turn d e (Ok x) call by n most = fewer_ended (2 * n + 22) turn _ e by (left_more n)
check_fewer q m faults turn d e (Err NoFile) call by n most =
    fewer_more m (Listing (Some (dir.Domain q))) (2 * n + 22) n turn e by (again (dir.Domain q) n d e call.0 most) (back_less n)
check_fewer q m faults turn d e (Err Failed) call by n most = fewer_ended (2 * n + 22) turn _ e by (left_more n)
check_fewer q m faults turn d e (Err Exists) call by n most = absurd call
check_fewer q m faults turn d e (Err OutOfFile) call by n most = absurd call
check_fewer q m faults turn d e (Err NotEmpty) call by n most = absurd call

pub check_falls : (q : Id) (m : MakePool) (faults : ℕ) (turn : Turns) (d e : Content) → stage_of m ≡ Checking q → (answer : Result ℕ DiskAnswer) → HasLength d (metadata_of q) answer e
    → CheckedBy m q faults answer turn → Falls m turn d e
check_falls q m faults turn d e is answer call by = falls_in (Checking q) m turn d e is (λ n most. check_fewer q m faults turn d e answer call by n most)
