use Rattle.std.proofs.Common.{◌≡◌, Result, Ok, Err, refl, sym, subst, inl, inr}
use Rattle.std.proofs.lemmas.Bool.{false≢true}
use Rattle.kv_text.specs.Gives.{Gives}
use Rattle.sd_names.specs.declared.fault.VolumeFault.{VolumeFault}
use Rattle.sd_names.specs.declared.fault.VolumeFault.TheVariants as fault
use Rattle.sd_names.specs.declared.id.Id.{Id}
use Rattle.sd_names.specs.declared.refusal.Refusal.TheVariants.{OutOfMemory}
use Rattle.sd_names.specs.declared.turn.Turn.TheVariants.{Ended}
use Rattle.volume_meta.specs.declared.record.VolumeRecord.{VolumeRecord}
use Rattle.chain_gathering.specs.Kept.{AreValid}
use Rattle.chain_gathering.specs.Stages.{KeepsRecord}
use Rattle.chain_gathering.specs.Steps.{AreOfFound}
use Rattle.chain_gathering.specs.declared.gathered.Gathered.{Gathered}
use Rattle.chain_gathering.specs.declared.gathering.Gathering.{Gathering}
use Rattle.chain_gathering.proofs.Reading.{kept_on, never_memory, valid_on}
use Rattle.chain_gathering.proofs.gathering.Gathering.keep.Goals as goal

-- where there is no memory for a record, the text has no fault
no_room : (g : Gathering) (v : Id) (r : Result VolumeRecord VolumeFault) → (r ≡ Err fault.Memory → ⊥) → Gives fault.Memory (Err fault.Memory) r → KeepsRecord g v r (Ended tt OutOfMemory)
no_room g v (Ok x) never gives = inl refl
no_room g v (Err f) never (inl e) = absurd (never (sym e))
no_room g v (Err f) never (inr none) = absurd (false≢true none.1)

pub returns-in-Err-Memory-clause-turn : goal.returns-in-Err-Memory-clause-turn
returns-in-Err-Memory-clause-turn c =
    rw c.in-Bytes.is (no_room c.args.self c.args.id _ (never_memory _ _ _ _) (rw c.in-Err-Memory.field-0-is at c.in-Err-Memory.ensures.read))

pub returns-clause-order : goal.returns-clause-order
returns-clause-order c are = subst AreOfFound (sym c.keep.ensures) (kept_on c.args.self.kept c.args.id c.in-Ok.record c.requires.next are)

pub returns-clause-valid : goal.returns-clause-valid
returns-clause-valid c are = subst (λ (k : Gathered). AreValid k.records) (sym c.keep.ensures) (valid_on c.args.self.kept c.args.id c.in-Ok.record c.in-Ok.ensures.valid are)
