-- A step of the write to a raw volume, and what is known behind it.
use Rattle.std.proofs.Common.{◌≡◌, ◌⊎◌, ℕ, ◌+◌, ◌*◌, length, refl, sym, subst, inl, inr}
use Rattle.sd_names.specs.declared.refusal.Refusal.{Refusal}
use Rattle.sd_names.specs.declared.refusal.Refusal.TheVariants.{DiskFault, NoRoom}
use Rattle.shared_disk.specs.Content.{Content}
use Rattle.shared_disk.specs.Crash.{IsSettled}
use Rattle.volume_meta.specs.declared.record.VolumeRecord.{VolumeRecord}
use Rattle.chain_model.specs.Folder.{Folder}
use Rattle.chain_laws.specs.Laid.{Laying}
use Rattle.chain_gathering.specs.Knowing.{AreSettled}
use Rattle.raw_layer.specs.declared.write.Stage as stages
use Rattle.raw_layer.specs.declared.write.Stage.TheVariants.{Begun, Fits, Written}
use Rattle.volume_chain.specs.Chain.{dir_in}
use Rattle.volume_chain.specs.declared.chain.Chain.{Chain}
use Rattle.raw_writing.specs.Image.{IsOnMedium}
use Rattle.raw_writing.specs.Writing as raw
use Rattle.raw_writing.specs.Writing.{KnowsRawFile, WritingTurn}
use Rattle.raw_writing.specs.declared.writing.RawWriting.{RawWriting}
use Rattle.raw_writing.proofs.Image.{all_settled}
use Rattle.raw_layer.specs.Raw.{IsWriteRefusal}
use Rattle.guest_writing.specs.Knowing.{AreQuietBut, KnowsRaw}
use Rattle.guest_writing.specs.Writing.{IsDone, IsRefused, Leaves}
use Rattle.guest_writing.proofs.Quiet.{quiet_kept, quiet_raw}

module _ (w : RawWriting) (c : Chain) (l : Laying) (x : VolumeRecord) (host faults : ℕ) (start : Folder) (d e : Content) (k : KnowsRaw w c l x host start d) (turn : WritingTurn) (one : raw.Writes w c l x host faults start turn d e) where
  quiet : AreQuietBut c k.index host e
  quiet = quiet_kept c k.index l.volume host d e k.write.chain.shape k.path one.only k.quiet

  pub leaves : Leaves c l start d e
  leaves = record { only = one.only; comes = one.comes }

  pub goes_on : (next : RawWriting) → raw.Knows next c l x host start e → KnowsRaw next c l x host start e
  goes_on next write = record { index = k.index; path = k.path; bytes = k.bytes; opened = k.opened; write = write; quiet = quiet }

  pub is_done : IsOnMedium c l host e → IsDone c l host e
  is_done medium = (medium, quiet_raw c k.index k.bytes host e k.opened quiet)

  pub refuses : (refusal : Refusal) (count : ℕ) → raw.IsWritingRefusal w count refusal → (refusal ≡ DiskFault faults) ⊎ raw.LacksRoom c l refusal d e → IsRefused c c l host faults refusal d e
  refuses refusal count may (inl is) = inl is
  refuses refusal count may (inr lacks) = inr (record {
    room = 512 * lacks.file.size;
    wanted = 512 * l.part.at + length l.part.bytes;
    says = lacks.says;
    short = inl (record { file = lacks.file; there = lacks.there; short = lacks.short; room_is = refl; wanted_is = refl });
    same = lacks.same;
    may = record { chain = one.chain; settled = settled_now; quiet = quiet_raw c k.index k.bytes host e k.opened quiet };
  })
    where
      settled_file : (s : stages.Stage) → KnowsRawFile s host l.part k.write.file → IsWriteRefusal s w.write (w.write.at + count) (NoRoom l.volume (512 * lacks.file.size) (512 * l.part.at + length l.part.bytes)) → IsSettled k.write.file
      settled_file (Begun known) knows may' = knows.0
      settled_file Fits knows may' = knows.0
      settled_file Written knows may' = absurd may'

      settled_was : AreSettled (dir_in c.target) d
      settled_was = all_settled c l.volume d k.write.file k.write.rest k.write.there (settled_file w.write.stage k.write.stage (subst (λ (r : Refusal). IsWriteRefusal w.write.stage w.write (w.write.at + count) r) lacks.says may))

      settled_now : AreSettled (dir_in c.target) e
      settled_now = subst (λ (z : Content). AreSettled (dir_in c.target) z) (sym lacks.same) settled_was
