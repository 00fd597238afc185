-- Steps that change nothing, and steps that the disk ended.
use Rattle.std.proofs.Common.{◌≡◌, inl, inr, ℕ, ◌+◌, ◌<◌, ◌≤◌, Bool, List, Option, None, Some, Err, refl, sym, ap, subst, arith}
use Rattle.sd_names.specs.declared.place.Place.{Place}
use Rattle.sd_names.specs.declared.refusal.Refusal.{Refusal}
use Rattle.sd_names.specs.declared.refusal.Refusal.TheVariants.{DiskFault}
use Rattle.sd_names.specs.declared.turn.Turn.TheVariants.{Ended}
use Rattle.shared_disk.specs.Calls.{HasLength, IsPut, IsSame, Syncs, WriteAt, sectors_in, wrote}
use Rattle.shared_disk.specs.Content.{Content, File}
use Rattle.shared_disk.specs.Refusal.{refusal_of}
use Rattle.shared_disk.specs.declared.disk.DiskAnswer.{DiskAnswer}
use Rattle.shared_disk.specs.declared.disk.DiskAnswer.TheVariants.{NoFile, Exists, OutOfFile, NotEmpty, Failed}
use Rattle.qcow_layer.specs.Seen.{IsReadRefusal}
use Rattle.qcow_layer.specs.declared.layer.Layer.{Layer}
use Rattle.qcow_layer.proofs.Pieces.{same_file}
use Rattle.image_model.specs.Layer.{l1_entry}
use Rattle.layer_laws.specs.Laws as laws
use Rattle.layer_writing.specs.Holding.{ComesBy, HoldSame, IsSpare, as_seen}
use Rattle.layer_writing.specs.Writer.{IsLeft, KnowsWriter}
use Rattle.layer_writing.proofs.Known.{comes_itself, unnamed_on_each}
use Rattle.layer_writing.proofs.Writes.{facts_left, facts_of}
use Rattle.layer_placing.specs.Knows.{StaySpare, StepsIn}
use Rattle.layer_placing.specs.declared.stage.Stage.{Stage}

pub same_put : (d e : Content) (p : Place) (f : File) → IsSame d e → d.file p ≡ Some f → IsPut d p (Some f) e
same_put d e p f same there = subst (λ (x : Content). IsPut d p (Some f) x) (sym same) (record { dirs = λ q. refl; here = there; others = λ q apart. refl })

pub writer_left : (l : Layer) (host : ℕ) (f : File) → KnowsWriter l host f → IsLeft l host f
writer_left l host f knows = facts_left l host f (facts_of l host f knows)

-- spare places that stay so are named by nothing on any outcome of a file that the writer knows
pub stay_known : (l m : Layer) (host : ℕ) (f now : File) → KnowsWriter m host now
    → ((place : ℕ) → IsSpare (laws.layer l.work.header (as_seen host f)) l.target.capacity place → IsSpare (laws.layer m.work.header (as_seen host now)) m.target.capacity place)
    → ((i : ℕ) → i < l.work.header.l1_size → l1_entry (laws.layer m.work.header (as_seen host now)) i ≡ l1_entry (laws.layer l.work.header (as_seen host f)) i)
    → StaySpare l m host f now
stay_known l m host f now knows spare tables = record { spare = spare; unnamed = λ place is. unnamed_on_each m host place now knows (spare place is).unnamed; tables = tables }

no_file : (f : File) (o : Option File) → o ≡ Some f → o ≡ None → ⊥
no_file f o e e' = cc

module _ (l : Layer) (host faults : ℕ) (stage : Stage) (f : File) (d e : Content) (there : d.file l.target.place ≡ Some f) where
  -- a fault that changed nothing
  fault : (r : Refusal) → r ≡ DiskFault faults → IsSame d e → IsLeft l host f → StepsIn l l host faults stage (Ended tt r) f d e
  fault r is same left = record {
    now = f;
    put = same_put d e l.target.place f same there;
    comes = comes_itself l.work.header l.target.capacity f;
    after = inl (is, left);
    spare = tt;
  }

  pub failed_read : (r : Refusal) → IsSame d e → IsReadRefusal l.target.place faults r d → IsLeft l host f → StepsIn l l host faults stage (Ended tt r) f d e
  failed_read r same (inl is) left = fault r is same left
  failed_read r same (inr gone) left = absurd (no_file f (d.file l.target.place) there gone.1)

  pub failed_sync : (a : DiskAnswer) → Syncs d host l.target.place (Err a) e → IsLeft l host f → StepsIn l l host faults stage (Ended tt (refusal_of a faults)) f d e
  failed_sync Failed call left = fault (DiskFault faults) refl call left
  failed_sync NoFile call left = absurd (no_file f (d.file l.target.place) there call.1)
  failed_sync Exists call left = absurd call
  failed_sync OutOfFile call left = absurd call
  failed_sync NotEmpty call left = absurd call

  pub failed_write : (a : DiskAnswer) (at : ℕ) (bytes : List ℕ) → WriteAt d host l.target.place at bytes (Err a) e → at + sectors_in bytes ≤ f.size → IsLeft l host f
      → ((did : ℕ → Bool) → IsLeft l host (wrote did host at bytes f)) → ((did : ℕ → Bool) → ComesBy (HoldSame l.work.header l.target.capacity) f (wrote did host at bytes f))
      → StepsIn l l host faults stage (Ended tt (refusal_of a faults)) f d e
  failed_write Failed at bytes (inl same) fits left each comes = fault (DiskFault faults) refl same left
  failed_write Failed at bytes (inr w) fits left each comes =
      let is : w.0 ≡ f = same_file d l.target.place f w.0 there w.1 in
      record {
        now = wrote w.3 host at bytes f;
        put = subst (λ (x : File). IsPut d l.target.place (Some (wrote w.3 host at bytes x)) e) is w.4;
        comes = comes w.3;
        after = inl (refl, each w.3);
        spare = tt;
      }
  failed_write NoFile at bytes call fits left each comes = absurd (no_file f (d.file l.target.place) there call.1)
  failed_write OutOfFile at bytes call fits left each comes =
      let is : call.1 ≡ f = same_file d l.target.place f call.1 there call.2 in
      let size : call.1.size ≡ f.size = ap (λ (x : File). x.size) is in
      absurd (omega (arith, call.3, size, fits))
  failed_write Exists at bytes call fits left each comes = absurd call
  failed_write NotEmpty at bytes call fits left each comes = absurd call

  pub failed_length : (a : DiskAnswer) → HasLength d l.target.place (Err a) e → IsLeft l host f → StepsIn l l host faults stage (Ended tt (refusal_of a faults)) f d e
  failed_length Failed call left = fault (DiskFault faults) refl call left
  failed_length NoFile call left = absurd (no_file f (d.file l.target.place) there call.1)
  failed_length Exists call left = absurd call
  failed_length OutOfFile call left = absurd call
  failed_length NotEmpty call left = absurd call
