-- What a listing has passed, by the texts of an earlier moment.
use Rattle.std.proofs.Common.{◌≡◌, ℕ, Bool, true, false, Option, Some, None, Result, Ok, Err, refl, sym, subst}
use Rattle.std.proofs.lemmas.Bool.{false≢true}
use Rattle.sd_names.specs.Id.{IsIdBytes}
use Rattle.sd_names.specs.Turn.{MatchTurn}
use Rattle.sd_names.specs.declared.id.Id.{Id}
use Rattle.sd_names.specs.declared.place.Dir.{Dir}
use Rattle.sd_names.specs.declared.place.Dir.TheVariants as dir
use Rattle.sd_names.specs.declared.turn.Turn.{Turn}
use Rattle.sd_names.specs.declared.turn.Turn.TheVariants.{More, Done, Ended}
use Rattle.shared_disk.specs.Calls.{HasLength}
use Rattle.shared_disk.specs.Content.{Content}
use Rattle.shared_disk.specs.NameCalls.{IsNextDir, NextDir}
use Rattle.shared_disk.specs.Step.{GoesOn, TurnFollows}
use Rattle.shared_disk.specs.WellFormed.{IsWellFormed}
use Rattle.shared_disk.specs.declared.disk.DiskAnswer.{DiskAnswer}
use Rattle.shared_disk.specs.declared.disk.DiskAnswer.TheVariants.{NoFile, Exists, OutOfFile, NotEmpty, Failed}
use Rattle.pool_making.specs.Layout.{metadata_of}
use Rattle.pool_making.specs.Listing.{AreStillThere, HadNone, IsBelow, IsFirstFound, IsTo}
use Rattle.pool_making.specs.Making.{IsAt, stage_of}
use Rattle.pool_making.specs.Steps.{CheckedBy, ListedBy}
use Rattle.pool_making.specs.declared.making.MakePool.{MakePool}
use Rattle.pool_making.specs.declared.making.Stage.{Stage}
use Rattle.pool_making.specs.declared.making.Stage.TheVariants.{Listing, Checking, Searching}
use Rattle.pool_making.proofs.Listed.{is_below, is_left, is_to, under_root}

abbrev Turns : Type 0
Turns = Turn MakePool (Unit {0}) (Unit {0})

module _ (m : MakePool) (had : Id → Bool) (d : Content) (well : IsWellFormed d) (still : AreStillThere had d) where
  abbrev Told : Turns → Type 0
  Told turn = MatchTurn turn (λ next. HadNone had (stage_of next)) (λ _. Unit {0}) (λ _ refusal. IsFirstFound refusal had d)

  -- whoever has no text had none
  bare : (p : Id) → d.file (metadata_of p) ≡ None → had p ≡ false
  bare p none = go (had p) refl
    where
      go : (b : Bool) → had p ≡ b → had p ≡ false
      go true is = absurd (still p is none)
      go false is = is

  goes_on : (turn : Turns) (s : Stage) → GoesOn (IsAt m s) turn → HadNone had s → Told turn
  goes_on (More next) s at known = subst (λ (x : Stage). HadNone had x) (sym at.now_in) known
  goes_on (Done t) s at known = absurd at
  goes_on (Ended t e) s at known = absurd at

  ends : (turn : Turns) (faults : ℕ) (a : DiskAnswer) → TurnFollows {A = Unit {0}} (Err a) faults turn (λ _. ⊥) → Told turn
  ends turn faults NoFile is = subst (λ (t : Turns). Told t) (sym is) tt
  ends turn faults Exists is = subst (λ (t : Turns). Told t) (sym is) tt
  ends turn faults OutOfFile is = subst (λ (t : Turns). Told t) (sym is) tt
  ends turn faults NotEmpty is = subst (λ (t : Turns). Told t) (sym is) tt
  ends turn faults Failed is = subst (λ (t : Turns). Told t) (sym is) tt

  listed : (after : Option Dir) (next : Option Dir) (turn : Turns) → IsTo (λ p. had p ≡ false) after → IsNextDir d dir.Root after next → ListedBy m next turn
      → Told turn
  listed after None turn known next by = goes_on turn Searching by (λ p id. is_left (λ p. had p ≡ false) d well bare after p known next id)
  listed after (Some (dir.Domain q)) turn known next by =
      goes_on turn (Checking q) by (is_below (λ p. had p ≡ false) d well bare after q known next)
  listed after (Some dir.Root) turn known next by = absurd (next.0.other refl)
  listed after (Some (dir.DomMd p)) turn known next by = absurd (false≢true (under_root d (dir.DomMd p) next.0))
  listed after (Some (dir.Images p)) turn known next by = absurd (false≢true (under_root d (dir.Images p) next.0))
  listed after (Some (dir.Image p i)) turn known next by = absurd (false≢true (under_root d (dir.Image p i) next.0))
  listed after (Some (dir.Removed p i)) turn known next by = absurd (false≢true (under_root d (dir.Removed p i) next.0))
  listed after (Some (dir.Master p)) turn known next by = absurd (false≢true (under_root d (dir.Master p) next.0))
  listed after (Some (dir.Tasks p)) turn known next by = absurd (false≢true (under_root d (dir.Tasks p) next.0))

  pub lists : (after : Option Dir) (faults : ℕ) (turn : Turns) (e : Content) (answer : Result (Option Dir) DiskAnswer) → IsTo (λ p. had p ≡ false) after
      → NextDir d dir.Root after answer e → TurnFollows answer faults turn (λ next. ListedBy m next turn) → Told turn
  lists after faults turn e (Ok next) known call by = listed after next turn known call.2 by
  lists after faults turn e (Err a) known call by = ends turn faults a by

  pub checks : (q : Id) (faults : ℕ) (turn : Turns) (e : Content) (answer : Result ℕ DiskAnswer) → IsIdBytes q.0 → IsBelow (λ p. had p ≡ false) q
      → HasLength d (metadata_of q) answer e → CheckedBy m q faults answer turn → Told turn
  checks q faults turn e (Ok n) id known call by = subst (λ (t : Turns). Told t) (sym by) ((call.1, call.2), known)
  checks q faults turn e (Err NoFile) id known call by =
      goes_on turn (Listing (Some (dir.Domain q))) by (is_to (λ p. had p ≡ false) q known (bare q call.1) id)
  checks q faults turn e (Err Exists) id known call by = ends turn faults Exists by
  checks q faults turn e (Err OutOfFile) id known call by = ends turn faults OutOfFile by
  checks q faults turn e (Err NotEmpty) id known call by = ends turn faults NotEmpty by
  checks q faults turn e (Err Failed) id known call by = ends turn faults Failed by
