-- A step of the sync and of the entries, and what is known behind it.
use Rattle.std.proofs.Common.{ℕ}
use Rattle.shared_disk.specs.Content.{Content}
use Rattle.shared_disk.specs.WellFormed.{IsWellFormed}
use Rattle.volume_meta.specs.declared.record.VolumeRecord.{VolumeRecord}
use Rattle.chain_model.specs.Folder.{Folder}
use Rattle.chain_laws.specs.Laid.{Laying}
use Rattle.volume_chain.specs.declared.chain.Chain.{Chain}
use Rattle.write_linking.specs.Linking as linking
use Rattle.write_linking.specs.Linking.{LinkingTurn}
use Rattle.write_linking.specs.declared.linking.WriteLinking.{WriteLinking}
use Rattle.guest_steps.specs.Linking.{IsLinkedIn, LinksChain}
use Rattle.guest_writing.specs.Knowing.{AreQuietBut, KnowsLinking}
use Rattle.guest_writing.specs.Writing.{IsDone, Leaves}
use Rattle.guest_writing.proofs.Quiet.{may_again, only_here, quiet_kept}

module _ (c : Chain) (index : ℕ) (s : WriteLinking) (l : Laying) (x : VolumeRecord) (host faults : ℕ) (start : Folder) (d e : Content) (k : KnowsLinking index s c l x host start d) (turn : LinkingTurn)
    (one : LinksChain c index k.layer l x host faults start turn k.begun d e) where
  pub leaves : Leaves c l start d e
  leaves = record { only = only_here c index k.layer l x host start k.file one.now d e k.write one.put; comes = one.write.comes }

  quiet : AreQuietBut c index host e
  quiet = quiet_kept c index l.volume host d e k.write.others.shape k.write.path leaves.only k.quiet

  pub goes_on : (next : WriteLinking) → linking.Knows next k.layer l x host k.begun one.now → KnowsLinking index next c l x host start e
  goes_on next work = record { layer = k.layer; file = one.now; write = one.write; quiet = quiet; begun = k.begun; work = work }

  pub is_done : IsWellFormed e → IsLinkedIn c k.layer l x host one.now e → IsDone c l host e
  is_done well is = (
    is.medium,
    (may_again c index k.layer l x host start one.now e one.write (record { writer = is.linked.writer; settled = is.linked.settled; formed = well.files k.layer.target.place one.now one.put.here }) quiet).quiet,
  )
