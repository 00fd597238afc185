use Rattle.std.proofs.Common.{◌≡◌, ◌≢◌, ℕ, None, Err, refl, sym, ap, subst, rules, arith}
use Rattle.sd_names.specs.declared.place.Dir.TheVariants as dir
use Rattle.sd_names.specs.declared.refusal.Refusal.{Refusal}
use Rattle.sd_names.specs.declared.turn.Turn.TheVariants.{Ended}
use Rattle.shared_disk.specs.NameCalls.{NextName}
use Rattle.shared_disk.specs.Refusal.{refusal_of}
use Rattle.shared_disk.specs.declared.disk.DiskAnswer.{DiskAnswer}
use Rattle.shared_disk.specs.declared.disk.DiskAnswer.TheVariants.{NoFile, Exists, OutOfFile, NotEmpty, Failed}
use Rattle.image_making.specs.declared.making.ImageMaking.{ImageMaking}
use Rattle.image_creating.specs.Calls.{AskedBy}
use Rattle.image_creating.specs.Creating.{CreateTurn, MayBeThere}
use Rattle.image_creating.specs.ImageTask.{domain_of, image_of}
use Rattle.image_creating.specs.declared.image_task.ImageTask.{ImageTask}
use Rattle.image_creating.proofs.image_task.ImageTask.ask.Goals as goal

pub returns-in-NoFile-clause-call : goal.returns-in-NoFile-clause-call
returns-in-NoFile-clause-call g c d tells =
    let call = c.in-Err.ensures.call d tells in
    let scan = c.begin-scan.ensures in (
      call.0,
      call.1,
      (
        Err NoFile,
        subst (λ (a : DiskAnswer). NextName d (dir.Image (domain_of c.args.self) (image_of c.args.self)) None (Err a) call.0) c.in-NoFile.is call.2,
        (c.begin-scan.result, c.at.ensures, record { domain = scan.domain; image = scan.image; made = scan.made; seen = scan.seen }),
      ),
    )

-- an answer of the disk may always be refused
may_be : (a : DiskAnswer) (n : ℕ) → MayBeThere (refusal_of a n)
may_be NoFile n = tt
may_be Exists n = tt
may_be OutOfFile n = tt
may_be NotEmpty n = tt
may_be Failed n = tt

other : (t : ImageTask) (m : ImageMaking) (faults : ℕ) (turn : CreateTurn) (a : DiskAnswer) → a ≢ NoFile → turn ≡ Ended tt (refusal_of a faults) → AskedBy t m faults (Err a) turn
other t m faults turn NoFile differs is = absurd (differs refl)
other t m faults turn Exists differs is = is
other t m faults turn OutOfFile differs is = is
other t m faults turn NotEmpty differs is = is
other t m faults turn Failed differs is = is

pub returns-in_default : goal.returns-in_default
returns-in_default g c = record {
  counts = search rules;
  counted = search rules;
  refusals = subst (λ (r : Refusal). MayBeThere r) (sym c.refusal_for.ensures) (may_be c.in-Err.answer _);
  keeps = omega arith;
  call = λ d tells.
      let call = c.in-Err.ensures.call d tells in
      (call.0, call.1, (Err c.in-Err.answer, call.2, other c.args.self c.args.making _ _ c.in-Err.answer c.in_default.not-NoFile (ap (λ (r : Refusal). Ended tt r) c.refusal_for.ensures)));
}
