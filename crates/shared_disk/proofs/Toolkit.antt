-- What each call leaves on the outcomes of a folder, in terms of its outcomes from before: one lemma for each call.
-- A call that answers anything but Ok and Failed has changed nothing.
use Rattle.std.proofs.Common.{◌≡◌, ◌≢◌, ◌⊎◌, ℕ, ◌==◌, Bool, true, false, nat_lt, if◌then◌else◌, List, Option, Some, None, Ok, Err, unwrap_or, eqb-true, refl, sym, ap, subst, ◌∙◌, inl, inr}
use Rattle.std.specs.List.{Contains}
use Rattle.std.proofs.lemmas.Bool.{false≢true}
use Rattle.sd_names.specs.declared.place.Name.{Name}
use Rattle.sd_names.specs.declared.place.Place.{Place}
use Rattle.shared_disk.specs.Calls.{Creates, IsCreated, IsPut, IsSame, PartWritten, Syncs, WriteAt, created, synced, wrote}
use Rattle.shared_disk.specs.Changes.{IsChangedAt, apart_from, exchanged, grown}
use Rattle.shared_disk.specs.Content.{Content, File, Loose, Sees, own_of, seen}
use Rattle.shared_disk.specs.Crash.{DownLeaves, IsAlone, IsAloneAt, IsAlso, IsDownFile, IsFileOutcome, IsLaidOver, IsOutcome, IsSettled, IsSettledFor, with_file}
pub use Rattle.shared_disk.specs.Crash.{IsFromBefore}
use Rattle.shared_disk.specs.NameCalls.{IsRemoved, IsRenamed, Removes, Renames, place_in}
use Rattle.shared_disk.specs.Places.{place_is}
use Rattle.shared_disk.specs.SectorCalls.{Exchanges, Grows, IsExchanged}
use Rattle.shared_disk.specs.declared.disk.DiskAnswer.TheVariants.{Failed}
use Rattle.shared_disk.specs.declared.disk.Exchanged.TheVariants.{Done}
use Rattle.shared_disk.proofs.AtPlace.{also_none, also_some, one_file, put_same, settled_stays}
use Rattle.shared_disk.proofs.Changes.{exchanged_file}
use Rattle.shared_disk.proofs.NameOutcomes.{down_same, rename_outcome}
use Rattle.shared_disk.proofs.Others.{alone_at_file}
use Rattle.shared_disk.proofs.Outcomes.{alone_file, down_folder, frame, nothing_in, settled_itself, synced_file, with_here, write_file}
use Rattle.shared_disk.proofs.Places.{place_is-apart, place_is-itself, place_is-same}

-- An outcome is one from before but for what stands at a place, which was the first of these and is the second.
pub record IsPutBefore (d : Content) (p : Place) (was is : Option File) (o : Content) : Type 0 where
  pub before : Content
  pub outcome : IsOutcome d before
  pub there : before.file p ≡ was
  pub put : IsPut before p is o

-- any other place
pub from_before_other : (d o : Content) (p q : Place) (R : File → File → Type 0) → q ≢ p → IsFromBefore d p R o → (b : Content) × IsOutcome d b × (o.file q ≡ b.file q)
from_before_other d o p q R apart w = (w.before, w.outcome, w.put.others q apart)

pub put_before_other : (d o : Content) (p q : Place) (was is : Option File) → q ≢ p → IsPutBefore d p was is o → (b : Content) × IsOutcome d b × (o.file q ≡ b.file q)
put_before_other d o p q was is apart w = (w.before, w.outcome, w.put.others q apart)

-- a change of one file, whose outcomes come from its outcomes before
pub changed_on_each : (d e o : Content) (p : Place) (f new : File) (R : File → File → Type 0) → d.file p ≡ Some f → IsPut d p (Some new) e
    → ((y : File) → IsFileOutcome new y → (x : File) × IsFileOutcome f x × R x y) → IsOutcome e o → IsFromBefore d p R o
changed_on_each d e o p f new R was put each out =
    let now = also_some IsFileOutcome (e.file p) (o.file p) new (out.files p) put.here in
    let old = each now.0 now.2 in
    let both = frame d e o p f old.0 (Some new) put was old.1 out in
    record {
      before = with_file p old.0 o;
      outcome = both.0;
      was = old.0;
      is = now.0;
      there = with_here o p old.0;
      related = old.2;
      put = subst (λ (x : Option File). IsPut (with_file p old.0 o) p x o) now.1 both.1;
    }

-- nothing has changed
pub same_on_each : (d e o : Content) → IsSame d e → IsOutcome e o → IsOutcome d o
same_on_each d e o same out = subst (λ (x : Content). IsOutcome x o) same out

-- write_at: some of the written sectors are laid over
pub part_written_on_each : (d e o : Content) (host at : ℕ) (p : Place) (bytes : List ℕ) → PartWritten d host p at bytes e → IsOutcome e o
    → (did : ℕ → Bool) × IsFromBefore d p (IsLaidOver did at bytes) o
part_written_on_each d e o host at p bytes w out =
    (w.3, changed_on_each d e o p w.0 (wrote w.3 host at bytes w.0) (IsLaidOver w.3 at bytes) w.1 w.4 (write_file w.3 host at bytes w.0) out)

pub write_on_each : (d e o : Content) (host at : ℕ) (p : Place) (bytes : List ℕ) → WriteAt d host p at bytes (Ok tt) e → IsOutcome e o
    → IsFromBefore d p (IsLaidOver (λ _. true) at bytes) o
write_on_each d e o host at p bytes w out =
    changed_on_each d e o p w.0 (wrote (λ _. true) host at bytes w.0) (IsLaidOver (λ _. true) at bytes) w.1 w.3 (write_file (λ _. true) host at bytes w.0) out

pub failed_write_on_each : (d e o : Content) (host at : ℕ) (p : Place) (bytes : List ℕ) → WriteAt d host p at bytes (Err Failed) e → IsOutcome e o
    → IsOutcome d o ⊎ ((did : ℕ → Bool) × IsFromBefore d p (IsLaidOver did at bytes) o)
failed_write_on_each d e o host at p bytes (inl same) out = inl (same_on_each d e o same out)
failed_write_on_each d e o host at p bytes (inr w) out = inr (part_written_on_each d e o host at p bytes w out)

-- sync: no outcome is new, and the file of a host that is alone in it is as the host saw it
pub sync_on_each : (d e o : Content) (host : ℕ) (p : Place) → Syncs d host p (Ok tt) e → IsOutcome e o → IsOutcome d o
sync_on_each d e o host p w out =
    let now = also_some IsFileOutcome (e.file p) (o.file p) (synced host w.0) (out.files p) w.2.here in
    let both = frame d e o p w.0 now.0 (Some (synced host w.0)) w.2 w.1 (synced_file host w.0 now.0 now.2) out in
    let back : o ≡ with_file p now.0 o =
    put_same (with_file p now.0 o) o p (subst (λ (x : Option File). IsPut (with_file p now.0 o) p x o) (now.1 ∙ sym (with_here o p now.0)) both.1) in
    subst (λ (x : Content). IsOutcome d x) (sym back) both.0

pub record IsAsSeen (host : ℕ) (f g : File) : Type 0 where
  pub size : g.size ≡ f.size
  pub sectors : (k : ℕ) → g.stable k ≡ seen host f k
  pub settled : IsSettled g

pub sync_alone_on_each : (d e o : Content) (host : ℕ) (p : Place) (f : File) → d.file p ≡ Some f → IsAlone host f → Syncs d host p (Ok tt) e → IsOutcome e o
    → (g : File) × (o.file p ≡ Some g) × IsAsSeen host f g
sync_alone_on_each d e o host p f there alone w out =
    let here : e.file p ≡ Some (synced host f) = w.2.here ∙ ap (λ (x : File). Some (synced host x)) (one_file w.0 f (d.file p) w.1 there) in
    let now = also_some IsFileOutcome (e.file p) (o.file p) (synced host f) (out.files p) here in
    (now.0, now.1, record { size = now.2.size; sectors = alone_file host f now.0 alone now.2; settled = now.2.settled })

-- the same of one sector, where other hosts write other sectors of the file
pub sync_at_on_each : (d e o : Content) (host k : ℕ) (p : Place) (f : File) → d.file p ≡ Some f → IsAloneAt host k f → Syncs d host p (Ok tt) e → IsOutcome e o
    → (g : File) × (o.file p ≡ Some g) × (g.size ≡ f.size) × (g.stable k ≡ seen host f k)
sync_at_on_each d e o host k p f there alone w out =
    let here : e.file p ≡ Some (synced host f) = w.2.here ∙ ap (λ (x : File). Some (synced host x)) (one_file w.0 f (d.file p) w.1 there) in
    let now = also_some IsFileOutcome (e.file p) (o.file p) (synced host f) (out.files p) here in
    (now.0, now.1, now.2.size, alone_at_file host k f now.0 alone now.2)

-- a change of what stands at a place, whichever outcome it had there
put_at : (d e o : Content) (p q : Place) (was new : Option File) (t : Bool) → place_is q p ≡ t → IsAlso IsFileOutcome (d.file p) was → IsPut d p new e → IsOutcome e o
    → IsAlso IsFileOutcome (d.file q) (if place_is q p then was else o.file q)
put_at d e o p q was new true t w put out = rw t (subst (λ (r : Place). IsAlso IsFileOutcome (d.file r) was) (sym (place_is-same q p t)) w)
put_at d e o p q was new false t w put out =
    let same : e.file q ≡ d.file q = put.others q (λ u. false≢true (sym t ∙ subst (λ (r : Place). place_is q r ≡ true) u (place_is-itself q))) in
    rw t (subst (λ (x : Option File). IsAlso IsFileOutcome x (o.file q)) same (out.files q))

pub put_on_each : (d e o : Content) (p : Place) (was new : Option File) → IsAlso IsFileOutcome (d.file p) was → IsPut d p new e → IsOutcome e o → IsPutBefore d p was (o.file p) o
put_on_each d e o p was new w put out = record {
  before = record { dir = o.dir; file = λ q. if place_is q p then was else o.file q };
  outcome = record { dirs = λ q. out.dirs q ∙ put.dirs q; files = λ q. put_at d e o p q was new (place_is q p) refl w put out };
  there = rw (place_is-itself p) refl;
  put = record { dirs = λ q. refl; here = refl; others = λ q apart. rw (place_is-apart q p apart) refl };
}

-- create: a file of the length stands where none stood
pub record IsNew (d : Content) (p : Place) (size : ℕ) (o : Content) : Type 0 where
  pub file : File
  pub size_is : file.size ≡ size
  pub settled : IsSettled file
  pub put : IsPutBefore d p None (Some file) o

pub created_on_each : (d e o : Content) (host size : ℕ) (p : Place) → IsCreated d host p size e → IsOutcome e o → IsNew d p size o
created_on_each d e o host size p w out =
    let now = also_some IsFileOutcome (e.file p) (o.file p) (created host size) (out.files p) w.put.here in
    record {
      file = now.0;
      size_is = now.2.size;
      settled = now.2.settled;
      put = subst (λ (x : Option File). IsPutBefore d p None x o) now.1
          (put_on_each d e o p None (Some (created host size)) (subst (λ (x : Option File). IsAlso IsFileOutcome x None) (sym w.free) tt) w.put out);
    }

pub create_on_each : (d e o : Content) (host size : ℕ) (p : Place) → Creates d host p size (Ok tt) e → IsOutcome e o → IsNew d p size o
create_on_each d e o host size p w out = created_on_each d e o host size p w out

pub failed_create_on_each : (d e o : Content) (host size : ℕ) (p : Place) → Creates d host p size (Err Failed) e → IsOutcome e o → IsOutcome d o ⊎ IsNew d p size o
failed_create_on_each d e o host size p (inl same) out = inl (same_on_each d e o same out)
failed_create_on_each d e o host size p (inr w) out = inr (created_on_each d e o host size p w out)

-- remove: whichever outcome the file had, nothing stands there
pub removed_on_each : (d e o : Content) (p : Place) (f g : File) → d.file p ≡ Some f → IsFileOutcome f g → IsRemoved d p e → IsOutcome e o → IsPutBefore d p (Some g) None o
removed_on_each d e o p f g there w removed out =
    let none : o.file p ≡ None = also_none IsFileOutcome (e.file p) (o.file p) (out.files p) removed.2.here in
    subst (λ (x : Option File). IsPutBefore d p (Some g) x o) none
    (put_on_each d e o p (Some g) None (subst (λ (x : Option File). IsAlso IsFileOutcome x (Some g)) (sym there) w) removed.2 out)

pub remove_on_each : (d e o : Content) (p : Place) (f g : File) → d.file p ≡ Some f → IsFileOutcome f g → Removes d p (Ok tt) e → IsOutcome e o → IsPutBefore d p (Some g) None o
remove_on_each d e o p f g there w removed out = removed_on_each d e o p f g there w removed out

pub failed_remove_on_each : (d e o : Content) (p : Place) (f g : File) → d.file p ≡ Some f → IsFileOutcome f g → Removes d p (Err Failed) e → IsOutcome e o
    → IsOutcome d o ⊎ IsPutBefore d p (Some g) None o
failed_remove_on_each d e o p f g there w (inl same) out = inl (same_on_each d e o same out)
failed_remove_on_each d e o p f g there w (inr removed) out = inr (removed_on_each d e o p f g there w removed out)

-- rename: the file of an outcome from before stands at its new name
pub rename_on_each : (d e o : Content) (from : Place) (to : Name) → Renames d from to (Ok tt) e → IsOutcome e o → (b : Content) × IsOutcome d b × IsRenamed b from (place_in from.dir to) o
rename_on_each d e o from to moved out = rename_outcome d e o from (place_in from.dir to) moved out

pub failed_rename_on_each : (d e o : Content) (from : Place) (to : Name) → Renames d from to (Err Failed) e → IsOutcome e o
    → IsOutcome d o ⊎ ((b : Content) × IsOutcome d b × IsRenamed b from (place_in from.dir to) o)
failed_rename_on_each d e o from to (inl same) out = inl (same_on_each d e o same out)
failed_rename_on_each d e o from to (inr moved) out = inr (rename_outcome d e o from (place_in from.dir to) moved out)

-- a file with nothing unsynced
pub exchanged_settled : (sector : ℕ) (next : List ℕ) (f : File) → IsSettled f → IsSettled (exchanged sector next f)
exchanged_settled sector next f settled = record { loose = ap (λ (ls : List Loose). apart_from sector ls) settled.loose; fresh = settled.fresh }

grown_step : (size : ℕ) (f : File) (t : Bool) → nat_lt f.size size ≡ t → IsSettled f → IsSettled (grown size f)
grown_step size f true t settled = rw t (record { loose = settled.loose; fresh = settled.fresh })
grown_step size f false t settled = rw t settled

pub grown_settled : (size : ℕ) (f : File) → IsSettled f → IsSettled (grown size f)
grown_settled size f settled = grown_step size f (nat_lt f.size size) refl settled

pub sees_settled : (host k : ℕ) (f : File) (b : List ℕ) → IsSettled f → Sees host f k b → b ≡ f.stable k
sees_settled host k f b settled (inl is) = is ∙ ap (λ (ls : List Loose). unwrap_or (own_of host k ls) (f.stable k)) settled.loose
sees_settled host k f b settled (inr is) = absurd (nothing_in is.1.0 (subst (λ (ls : List Loose). Contains ls is.1.0) settled.loose is.1.1))

-- an exchange of a sector for itself changes nothing
sector_same : (sector k : ℕ) (f : File) (bytes : List ℕ) (t : Bool) → (k == sector) ≡ t → f.stable sector ≡ bytes → (exchanged sector bytes f).stable k ≡ f.stable k
sector_same sector k f bytes true t is = rw t (sym is ∙ ap (λ (j : ℕ). f.stable j) (sym (eqb-true k sector t)))
sector_same sector k f bytes false t is = rw t refl

pub exchanged_same : (sector : ℕ) (f : File) (bytes : List ℕ) → IsSettled f → f.stable sector ≡ bytes → exchanged sector bytes f ≡ f
exchanged_same sector f bytes settled is =
    let loose : apart_from sector f.loose ≡ f.loose = ap (λ (ls : List Loose). apart_from sector ls) settled.loose ∙ sym settled.loose in
    λ i. record { size = f.size; stable = λ k. sector_same sector k f bytes (k == sector) refl is i; loose = loose i; fresh = f.fresh }

-- what is put in place of a file with nothing unsynced, and has nothing unsynced, is there on each outcome
pub settled_on_each : (d e o : Content) (p : Place) (f new : File) → d.file p ≡ Some f → IsSettled f → IsSettled new → IsPut d p (Some new) e → IsOutcome e o → IsPutBefore d p (Some f) (Some new) o
settled_on_each d e o p f new there was is put out =
    subst (λ (x : Option File). IsPutBefore d p (Some f) x o) (settled_stays e o p new put.here is out)
    (put_on_each d e o p (Some f) (Some new) (subst (λ (x : Option File). IsAlso IsFileOutcome x (Some f)) (sym there) (settled_itself f was)) put out)

-- grow: the zeros are there on each outcome
pub grow_on_each : (d e o : Content) (size : ℕ) (p : Place) (f : File) → d.file p ≡ Some f → IsSettled f → Grows d p size (Ok tt) e → IsOutcome e o → IsPutBefore d p (Some f) (Some (grown size f)) o
grow_on_each d e o size p f there settled w out =
    let put : IsPut d p (Some (grown size f)) e = subst (λ (g : File). IsPut d p (Some (grown size g)) e) (one_file w.0 f (d.file p) w.1 there) w.2 in
    settled_on_each d e o p f (grown size f) there settled (grown_settled size f settled) put out

pub failed_grow_on_each : (d e o : Content) (size : ℕ) (p : Place) (f : File) → d.file p ≡ Some f → IsSettled f → Grows d p size (Err Failed) e → IsOutcome e o
    → IsOutcome d o ⊎ IsPutBefore d p (Some f) (Some (grown size f)) o
failed_grow_on_each d e o size p f there settled (inl same) out = inl (same_on_each d e o same out)
failed_grow_on_each d e o size p f there settled (inr w) out = inr (grow_on_each d e o size p f there settled w out)

-- exchange: the next bytes are there on each outcome
pub exchanged_on_each : (d e o : Content) (host sector : ℕ) (p : Place) (expect next : List ℕ) (f : File) → d.file p ≡ Some f → IsSettled f → IsExchanged d host p sector expect next e → IsOutcome e o
    → IsPutBefore d p (Some f) (Some (exchanged sector next f)) o
exchanged_on_each d e o host sector p expect next f there settled w out =
    let put : IsPut d p (Some (exchanged sector next f)) e = subst (λ (g : File). IsPut d p (Some (exchanged sector next g)) e) (one_file w.0 f (d.file p) w.1 there) w.4 in
    settled_on_each d e o p f (exchanged sector next f) there settled (exchanged_settled sector next f settled) put out

pub exchange_on_each : (d e o : Content) (host sector : ℕ) (p : Place) (expect next : List ℕ) (f : File) → d.file p ≡ Some f → IsSettled f
    → Exchanges d host p sector expect next (Ok Done) e → IsOutcome e o → IsPutBefore d p (Some f) (Some (exchanged sector next f)) o
exchange_on_each d e o host sector p expect next f there settled w out = exchanged_on_each d e o host sector p expect next f there settled w out

pub failed_exchange_on_each : (d e o : Content) (host sector : ℕ) (p : Place) (expect next : List ℕ) (f : File) → d.file p ≡ Some f → IsSettled f
    → Exchanges d host p sector expect next (Err Failed) e → IsOutcome e o → IsOutcome d o ⊎ IsPutBefore d p (Some f) (Some (exchanged sector next f)) o
failed_exchange_on_each d e o host sector p expect next f there settled (inl same) out = inl (same_on_each d e o same out)
failed_exchange_on_each d e o host sector p expect next f there settled (inr w) out = inr (exchanged_on_each d e o host sector p expect next f there settled w out)

-- the same of a file with unsynced writes that isn't fresh: all other sectors are as on an outcome from before
pub exchange_unsettled_on_each : (d e o : Content) (host sector : ℕ) (p : Place) (expect next : List ℕ) (f : File) → d.file p ≡ Some f → f.fresh ≡ None
    → Exchanges d host p sector expect next (Ok Done) e → IsOutcome e o → IsFromBefore d p (IsChangedAt sector next) o
exchange_unsettled_on_each d e o host sector p expect next f there old w out =
    let put : IsPut d p (Some (exchanged sector next f)) e = subst (λ (g : File). IsPut d p (Some (exchanged sector next g)) e) (one_file w.0 f (d.file p) w.1 there) w.4 in
    changed_on_each d e o p f (exchanged sector next f) (IsChangedAt sector next) there put (λ y is. exchanged_file sector next f y old is) out

-- down: a file in which the host has nothing unsynced is as it was, and no outcome is new
pub down_leaves_file : (d e : Content) (host : ℕ) (p : Place) (f : File) → DownLeaves d host e → d.file p ≡ Some f → IsSettledFor host f → e.file p ≡ Some f
down_leaves_file d e host p f down there settled =
    let now = also_some (IsDownFile host) (d.file p) (e.file p) f (down.files p) there in
    now.1 ∙ ap (λ (x : File). Some x) (down_same host f now.0 settled.loose settled.fresh now.2)

pub down_leaves_none : (d e : Content) (host : ℕ) (p : Place) → DownLeaves d host e → d.file p ≡ None → e.file p ≡ None
down_leaves_none d e host p down gone = also_none (IsDownFile host) (d.file p) (e.file p) (down.files p) gone

pub down_on_each : (d e o : Content) (host : ℕ) → DownLeaves d host e → IsOutcome e o → IsOutcome d o
down_on_each d e o host down out = down_folder host d e o down out
