-- A step of the writing of new clusters, and what is known behind it.
use Rattle.std.proofs.Common.{◌≡◌, ℕ, List, refl, sym, subst, inl}
use Rattle.shared_disk.specs.Content.{Content, File}
use Rattle.volume_meta.specs.declared.record.VolumeRecord.{VolumeRecord}
use Rattle.chain_model.specs.Folder.{Folder, Volumes}
use Rattle.chain_laws.specs.Laid.{Laying}
use Rattle.chain_laws.specs.Written.{FileWritten}
use Rattle.volume_chain.specs.declared.chain.Chain.{Chain}
use Rattle.guest_laws.specs.Write.{KnowsWrite}
use Rattle.guest_laws.proofs.Writes.{file_steps}
use Rattle.write_preparing.specs.Filled.{IsFilled}
use Rattle.write_preparing.specs.declared.placed.Placed.{Placed}
use Rattle.write_filling.specs.Filling as filling
use Rattle.write_filling.specs.Filling.{FillingsTurn, FillsOne}
use Rattle.write_filling.specs.declared.fillings.Fillings.{Fillings}
use Rattle.write_linking.specs.Linking as linking
use Rattle.write_linking.specs.declared.linking.WriteLinking.{WriteLinking}
use Rattle.guest_writing.specs.Knowing.{AreQuietBut, KnowsFilling, KnowsLinking}
use Rattle.guest_writing.specs.Way.{StageTurn}
use Rattle.guest_writing.specs.Writing.{Leaves, Writes}
use Rattle.guest_writing.proofs.Quiet.{only_here, quiet_kept}

-- what is said of the chain as it was is said of it as it is
pub writes_same : (c next : Chain) (l : Laying) (x : VolumeRecord) (old : Volumes) (host faults : ℕ) (start : Folder) (room : List ℕ) (turn : StageTurn) (d e : Content) → next ≡ c → Writes c c l x old host faults start room turn d e
    → Writes c next l x old host faults start room turn d e
writes_same c next l x old host faults start room turn d e same is = subst (λ (z : Chain). Writes c z l x old host faults start room turn d e) (sym same) is

written_itself : (l : Laying) (f : File) → FileWritten l f f
written_itself l f g out = (g, out, λ x says k less. inl refl)

module _ (c : Chain) (index : ℕ) (s : Fillings) (l : Laying) (x : VolumeRecord) (old : Volumes) (host faults : ℕ) (start : Folder) (before after : List ℕ) (d e : Content) (k : KnowsFilling index s c l x old host start before d)
    (turn : FillingsTurn) (one : FillsOne s c k.layer l x old host faults after turn k.file d e) where
  write : KnowsWrite c index k.layer l x host start one.now e
  write = file_steps c index k.layer l x host start k.file one.now d e k.write one.put one.written

  pub leaves : Leaves c l start d e
  leaves = record { only = only_here c index k.layer l x host start k.file one.now d e k.write one.put; comes = write.comes }

  quiet : AreQuietBut c index host e
  quiet = quiet_kept c index l.volume host d e k.write.others.shape k.write.path leaves.only k.quiet

  pub goes_on : (next : Fillings) → filling.Knows next c k.layer l x old host after one.now e → KnowsFilling index next c l x old host start after e
  goes_on next work = record { layer = k.layer; file = one.now; write = write; quiet = quiet; work = work }

  pub to_link : (placed : Placed) (next : WriteLinking) → linking.IsBegun placed next → IsFilled placed k.layer l x host one.now → KnowsLinking index next c l x host start e
  to_link placed next begun filled = record {
    layer = k.layer;
    file = one.now;
    write = write;
    quiet = quiet;
    begun = one.now;
    work = begun.knows k.layer l x host one.now one.now filled (written_itself l one.now);
  }
