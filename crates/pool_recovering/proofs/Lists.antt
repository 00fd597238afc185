-- A step of the listing, on a disk that stands for a pool.
use Rattle.std.proofs.Common.{◌≡◌, ℕ, ◌+◌, List, ◌∷◌, Option, Some, None, length, refl, sym, ap, subst, ◌∙◌, inl, inr, arith}
use Rattle.sd_names.specs.UpSet.{Hosts}
use Rattle.sd_names.specs.declared.id.Id.{Id}
use Rattle.sd_names.specs.declared.place.Dir.TheVariants as dir
use Rattle.sd_names.specs.declared.refusal.Refusal.{Refusal}
use Rattle.sd_names.specs.declared.turn.Turn.TheVariants.{More, Done, Ended}
use Rattle.shared_disk.specs.Calls.{IsSame}
use Rattle.shared_disk.specs.Content.{Content}
use Rattle.task_store.specs.declared.task.Task.{Task}
use Rattle.pool_model.specs.Marks.{Mark, repeat, settle}
use Rattle.pool_model.specs.Pool.{Pool}
use Rattle.pool_model.specs.Rules.{Maker, Passing, here, spent}
use Rattle.pool_model.specs.Standing.{Stands}
use Rattle.pool_model.specs.Tasks.{AreTasks, IsOpen, NoneOpen}
use Rattle.pool_model.proofs.Kept.{standing_keeps}
use Rattle.pool_model.proofs.Roles.{nothing_changed, nothing_owned}
use Rattle.task_listing.specs.Listing.{HasAll, HaveIds as HaveListingIds, KnowsListing, Lists, Noted, domain_of}
use Rattle.task_listing.specs.declared.listing.ListedTasks.{ListedTasks}
use Rattle.task_listing.specs.declared.listing.TaskListing.{TaskListing}
use Rattle.task_settling.specs.Knowing.{HaveIds, KnowsTask}
use Rattle.task_settling.specs.Settling.{IsBehind}
use Rattle.task_settling.specs.declared.settling.TaskSettling.{TaskSettling}
use Rattle.task_settling.proofs.Begun.{begun_knows_pool}
use Rattle.task_settling.proofs.Facts.{built_clears}
use Rattle.pool_recovering.specs.Knowing.{Knows, ListsTasks}
use Rattle.pool_recovering.specs.Recovering.{HasListed, IsListed, IsTooMany, RecoveryTurn}
use Rattle.pool_recovering.specs.Steps.{After, Passes, RecoversPool, Stepped}
use Rattle.pool_recovering.specs.declared.recovering.PoolRecovery.TheVariants.{Listing, Settling}
use Rattle.pool_recovering.proofs.Left.{left_same}

one_id : (a b : Id) → Some a ≡ Some b → a ≡ b
one_id a b e = cc

none_more : (n k : ℕ) → k ≡ 0 → n ≡ n + k
none_more n k is = omega (arith, is)

module _ (h : ℕ) (up : Hosts) (master : Id) (l : TaskListing) (before : List Noted) (faults : ℕ) (d : Content) (p : Pool) (stands : Stands up d p) (ids : HaveIds d) (knows : ListsTasks h master l p) where
  pub listing_ids : HaveListingIds (domain_of l) d
  listing_ids n shows = ids (dir.Tasks (domain_of l)) n shows

  master_is : p.master ≡ Some master
  master_is = knows.listing.master ∙ ap (λ (i : Id). Some i) knows.domain

  -- nothing has changed
  pub nothing : (tasks : List Noted) (turn : RecoveryTurn) (e : Content) → IsSame d e → ((c : Maker) (ms : List Mark) (n : ℕ) → Passes c ms n p turn p)
      → After h master tasks faults turn d p → Stepped h up master tasks faults turn d p e
  nothing tasks turn e same passes after = subst (λ (x : Content). Stepped h up master tasks faults turn d p x) (sym same) (record {
    pool = p;
    passes = passes;
    stands = stands;
    after = after;
    keeps = standing_keeps up d p stands;
    owned = λ v. nothing_owned h up v p d;
    changes = nothing_changed h up p;
    leaves = left_same p;
  })

  pub listed_on : (next : TaskListing) → KnowsListing next p → ListsTasks h master next p
  listed_on next known = record { leads = knows.leads; domain = one_id (domain_of next) master (sym known.master ∙ master_is); listing = known }

  none_passes : (n count : ℕ) → NoneOpen p → count ≡ 0 → (c : Maker) (ms : List Mark) → Passing c (repeat settle ∷ ms) n p ms (n + count) p
  none_passes n count none is c ms = subst (λ (m : ℕ). Passing c (repeat settle ∷ ms) n p ms m p) (none_more n count is) (spent none here)

  task_known : (x : Task) → IsOpen p x.id x → KnowsTask h master x p
  task_known x opened = record { master_is = master_is; leads = knows.leads; opened = opened }

  settles : (ts : List Noted) (x : Task) (t : Id) (s : TaskSettling) → AreTasks p ts → IsOpen p x.id x → t ≡ x.id → IsBehind master x (length x.steps) s
      → Knows h master ts (Settling t s) d p
  settles ts x t s are opened same behind = record {
    domain = behind.master_is;
    task = ap (λ (y : Task). y.id) behind.task_is ∙ sym same;
    settling = begun_knows_pool up d p h master x stands ids (task_known x opened) s behind;
    listed = are;
  }

  -- what comes behind the list
  listed_by : (ts : List Noted) (o : Option Task) (turn : RecoveryTurn) (after : List Noted) (e : Content) → IsSame d e → HasAll ts o p
      → IsListed master ts o before turn after → Stepped h up master after faults turn d p e
  listed_by ts None (More next) after e same all is = absurd is
  listed_by ts None (Done count) after e same all (zero_is, list_is) = nothing after (Done count) e same (λ c ms n. none_passes n count all.1 zero_is c ms)
      (all.1, subst (λ (xs : List Noted). AreTasks p xs) (sym list_is) all.0)
  listed_by ts None (Ended u refusal) after e same all is = absurd is
  listed_by ts (Some x) (More (Listing next)) after e same all is = absurd is.0
  listed_by ts (Some x) (More (Settling t s)) after e same all (settling, list_is) = nothing after (More (Settling t s)) e same (λ c ms n. here)
      (settles after x t s (subst (λ (xs : List Noted). AreTasks p xs) (sym list_is) all.0) all.1 settling.0 settling.1)
  listed_by ts (Some x) (Done count) after e same all is = absurd is
  listed_by ts (Some x) (Ended u refusal) after e same all is =
      absurd (built_clears x.verb x.steps is.0.step (stands.tasks.built x.id x all.1) is.0.among is.0.clears)

  too_many : (ts : List Noted) (turn : RecoveryTurn) (after : List Noted) (e : Content) → IsSame d e → IsTooMany ts before turn after
      → Stepped h up master after faults turn d p e
  too_many ts turn after e same (many, ended, list_is) = subst (λ (z : RecoveryTurn). Stepped h up master after faults z d p e) (sym ended)
      (nothing after _ e same (λ c ms n. (n, here)) (inl refl))

  pub behind : (ts : List Noted) (o : Option Task) (turn : RecoveryTurn) (after : List Noted) (e : Content) → IsSame d e → HasAll ts o p
      → HasListed master ts o before turn after → Stepped h up master after faults turn d p e
  behind ts o turn after e same all (inl is) = listed_by ts o turn after e same all is
  behind ts o turn after e same all (inr is) = too_many ts turn after e same is

-- ---- the arms of a step

module _ (h : ℕ) (master : Id) (l : TaskListing) (before : List Noted) (faults : ℕ) (d e : Content) where
  pub list_more : (next : TaskListing) → Lists l h faults (More next) d e → RecoversPool (Listing l) h master before faults (More (Listing next)) before d e
  list_more next lists up p up_is stands ids knows =
      nothing h up master l before faults d p stands ids knows before (More (Listing next)) e lists.0 (λ c ms n. here)
      (listed_on h up master l before faults d p stands ids knows next
      (lists.1 up p stands (listing_ids h up master l before faults d p stands ids knows) knows.listing))

  pub list_done : (listed : ListedTasks) (turn : RecoveryTurn) (after : List Noted) → Lists l h faults (Done listed) d e
      → HasListed master listed.tasks listed.open_task before turn after → RecoversPool (Listing l) h master before faults turn after d e
  list_done listed turn after lists has up p up_is stands ids knows =
      behind h up master l before faults d p stands ids knows listed.tasks listed.open_task turn after e lists.0
      (lists.1 up p stands (listing_ids h up master l before faults d p stands ids knows) knows.listing) has

  pub list_ended : (refusal : Refusal) → Lists l h faults (Ended tt refusal) d e → RecoversPool (Listing l) h master before faults (Ended tt refusal) before d e
  list_ended refusal lists up p up_is stands ids knows =
      nothing h up master l before faults d p stands ids knows before (Ended tt refusal) e lists.0 (λ c ms n. (n, here))
      (lists.1 up p stands (listing_ids h up master l before faults d p stands ids knows) knows.listing)
