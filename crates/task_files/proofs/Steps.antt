-- What a write and a removal leave, from what their calls left.
use Rattle.std.proofs.Common.{◌≡◌, ◌≢◌, ℕ, List, Option, Some, None, Result, Ok, Err, refl, sym, ap, subst, ◌∙◌, inl, inr}
use Rattle.std.proofs.lemmas.Option.{same_Some}
use Rattle.sd_names.specs.declared.place.Place.{Place}
use Rattle.sd_names.specs.declared.refusal.Refusal.{Refusal}
use Rattle.sd_names.specs.declared.turn.Turn.{Turn}
use Rattle.sd_names.specs.declared.turn.Turn.TheVariants.{More, Done, Ended}
use Rattle.shared_disk.specs.Calls.{IsPut, IsSame}
use Rattle.shared_disk.specs.Content.{Content}
use Rattle.shared_disk.specs.NameCalls.{Removes}
use Rattle.shared_disk.specs.Refusal.{refusal_of}
use Rattle.shared_disk.specs.declared.disk.DiskAnswer.{DiskAnswer}
use Rattle.shared_disk.specs.declared.disk.DiskAnswer.TheVariants.{NoFile, Exists, OutOfFile, NotEmpty, Failed}
use Rattle.task_store.specs.TaskText.{text_of}
use Rattle.task_store.specs.declared.task.Task.{Task}
use Rattle.task_files.proofs.Calls.{target_kept}
use Rattle.task_files.proofs.Lives.{goes_on_removed, goes_on_written, old_or_on_each}
use Rattle.task_files.specs.Remove.{AfterRemoval, RemoveLeaves}
use Rattle.task_files.specs.TaskFile.{IsOldOr}
use Rattle.task_files.specs.Write.{After, CallOf, Knows, WriteSteps, file_of, replacing, stage_of, volatile_of}
use Rattle.task_files.specs.declared.write.TaskWrite.{TaskWrite}
use Rattle.whole_file.specs.Replace.{After as AfterReplace, CallOf as ReplaceCall, Knows as KnowsReplace, Steps}

after_step : (w : TaskWrite) (host faults : ℕ) (t : Task) (turn : Turn TaskWrite (Unit {0}) (Unit {0})) (d e : Content) → file_of w ≢ volatile_of w → CallOf w host faults t turn d e
    → AfterReplace (replacing turn) w.replace host faults (text_of t) d e → After turn w host faults t d e
after_step w host faults t (More next) d e apart call after = (after, target_kept (stage_of w) w.replace next.replace host faults (text_of t) d e apart call)
after_step w host faults t (Done u) d e apart call after = after
after_step w host faults t (Ended u refusal) d e apart call after = after

leaves : (w : TaskWrite) (host faults : ℕ) (t : Task) (turn : Turn TaskWrite (Unit {0}) (Unit {0})) (d e : Content) → file_of w ≢ volatile_of w → CallOf w host faults t turn d e
    → Steps w.replace host faults (text_of t) (replacing turn) d e → WriteSteps w host faults t turn d e
leaves w host faults t turn d e apart call is = record {
  apart = is.apart;
  file = is.target;
  outcomes = is.outcomes;
  texts = λ ts has. goes_on_written d e (file_of w) t ts has is.target;
  after = after_step w host faults t turn d e apart call is.after;
}

-- A step of the bytes that were written as the task's text. What the disk tells after it is one content, of which the
-- replacement says which call led to it and what it leaves.
pub write_step : (w : TaskWrite) (host faults : ℕ) (t : Task) (turn : Turn TaskWrite (Unit {0}) (Unit {0})) (text : List ℕ) (d e f : Content) (told : Option Content) → file_of w ≢ volatile_of w
    → text ≡ text_of t → told ≡ Some f → ReplaceCall (stage_of w) w.replace host faults text (replacing turn) d f
    → told ≡ Some e → (KnowsReplace w.replace host text d → Steps w.replace host faults text (replacing turn) d e)
    → Knows w host t d → WriteSteps w host faults t turn d e
write_step w host faults t turn text d e f told apart is first call second steps knows =
    let same : f ≡ e = same_Some f e (sym first ∙ second) in
    let here : ReplaceCall (stage_of w) w.replace host faults text (replacing turn) d e = subst (λ (c : Content). ReplaceCall (stage_of w) w.replace host faults text (replacing turn) d c) same call in
    leaves w host faults t turn d e apart
    (subst (λ (xs : List ℕ). ReplaceCall (stage_of w) w.replace host faults xs (replacing turn) d e) is here)
    (subst (λ (xs : List ℕ). Steps w.replace host faults xs (replacing turn) d e) is (steps (subst (λ (xs : List ℕ). KnowsReplace w.replace host xs d) (sym is) knows)))

-- a removal that did nothing, and one that did its work
untouched : (place : Place) (faults : ℕ) (result : Result (Unit {0}) Refusal) (d e : Content) → IsSame d e → AfterRemoval result place faults d e → RemoveLeaves place faults result d e
untouched place faults result d e same after =
    let is : IsOldOr place None d e = inl (ap (λ (c : Content). c.file place) same) in
    record {
      apart = record { dirs = λ q. ap (λ (c : Content). c.dir q) same; files = λ q _. ap (λ (c : Content). c.file q) same };
      file = is;
      outcomes = old_or_on_each d e place None is;
      texts = λ ts has. goes_on_removed d e place ts has is;
      after = after;
    }

gone : (place : Place) (faults : ℕ) (result : Result (Unit {0}) Refusal) (d e : Content) → IsPut d place None e → AfterRemoval result place faults d e → RemoveLeaves place faults result d e
gone place faults result d e put after =
    let is : IsOldOr place None d e = inr put.here in
    record {
      apart = record { dirs = put.dirs; files = put.others };
      file = is;
      outcomes = old_or_on_each d e place None is;
      texts = λ ts has. goes_on_removed d e place ts has is;
      after = after;
    }

pub removed : (place : Place) (faults : ℕ) (d e : Content) → Removes d place (Ok tt) e → RemoveLeaves place faults (Ok tt) d e
removed place faults d e is = gone place faults (Ok tt) d e is.2 is

pub not_removed : (place : Place) (faults : ℕ) (x : DiskAnswer) (d e : Content) → Removes d place (Err x) e → RemoveLeaves place faults (Err (refusal_of x faults)) d e
not_removed place faults NoFile d e is = untouched place faults (Err (refusal_of NoFile faults)) d e is.0 is
not_removed place faults Failed d e (inl same) = untouched place faults (Err (refusal_of Failed faults)) d e same refl
not_removed place faults Failed d e (inr is) = gone place faults (Err (refusal_of Failed faults)) d e is.2 refl
not_removed place faults Exists d e is = absurd is
not_removed place faults OutOfFile d e is = absurd is
not_removed place faults NotEmpty d e is = absurd is
