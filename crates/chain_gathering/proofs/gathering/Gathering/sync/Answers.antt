use Rattle.std.proofs.Common.{ℕ, Option, refl, sym, subst, arith}
use Rattle.sd_names.specs.declared.place.Name.{Name}
use Rattle.chain_gathering.specs.Kept.{AreValid}
use Rattle.chain_gathering.specs.Stages.{after_sync}
use Rattle.chain_gathering.specs.Steps.{AreOfFound, IsNearer}
use Rattle.chain_gathering.specs.declared.gathering.Gathering.{Gathering}
use Rattle.chain_gathering.specs.declared.names.VolumeName.{VolumeName}
use Rattle.chain_gathering.specs.declared.names.VolumeName.TheVariants.{Data, Text}
use Rattle.chain_gathering.specs.declared.stages.Seen.{Seen}
use Rattle.chain_gathering.specs.declared.stages.Stage.TheVariants.{Syncing}
use Rattle.chain_gathering.proofs.Lists.{noted_length}
use Rattle.chain_gathering.proofs.Reading.{found_on}
use Rattle.chain_gathering.proofs.gathering.Gathering.sync.Goals as goal

nearer : (cost : Option Name → ℕ) (g : Gathering) (seen : Seen) (o : VolumeName) → IsNearer cost g (Syncing seen o) (after_sync g seen o)
nearer cost g seen (Data v) = record { target = refl; falls = λ paid. omega arith }
nearer cost g seen (Text v) = record { target = refl; falls = λ paid. omega (arith, noted_length g.kept.found v seen.file) }

pub returns-in-Ok-clause-falls : goal.returns-in-Ok-clause-falls
returns-in-Ok-clause-falls g c cost =
    subst (λ (next : Gathering). IsNearer cost c.args.self (Syncing c.args.seen c.args.file) next) (sym c.synced.ensures) (nearer cost c.args.self c.args.seen c.args.file)

in_order : (g : Gathering) (seen : Seen) (o : VolumeName) → AreOfFound g.kept → AreOfFound (after_sync g seen o).kept
in_order g seen (Data v) are = are
in_order g seen (Text v) are = found_on g.kept v seen.file are

pub returns-in-Ok-clause-order : goal.returns-in-Ok-clause-order
returns-in-Ok-clause-order g c are =
    subst (λ (next : Gathering). AreOfFound next.kept) (sym c.synced.ensures) (in_order c.args.self c.args.seen c.args.file are)

still_valid : (g : Gathering) (seen : Seen) (o : VolumeName) → AreValid g.kept.records → AreValid (after_sync g seen o).kept.records
still_valid g seen (Data v) are = are
still_valid g seen (Text v) are = are

pub returns-in-Ok-clause-valid : goal.returns-in-Ok-clause-valid
returns-in-Ok-clause-valid g c are =
    subst (λ (next : Gathering). AreValid next.kept.records) (sym c.synced.ensures) (still_valid c.args.self c.args.seen c.args.file are)
