use Rattle.std.proofs.Common.{◌≡◌, ℕ, ◌-◌, ◌*◌, ◌/◌, ◌≤◌, length, ap, ◌∙◌, arith}
use Rattle.std.proofs.lemmas.List.{length-drop, length-replicate, length-take}
use Rattle.chain_reading.proofs.Runs.{run_read}
use Rattle.chain_reading.proofs.running.Run.read.Goals as goal

pub returns-in-Done-clause-content : goal.returns-in-Done-clause-content
returns-in-Done-clause-content g c d tells =
    let t = c.in-Done.ensures.content d tells in (
      t.0,
      t.1,
      (
        t.2.0,
        λ f there settled low.
            let place : c.begin-reading.result.place ≡ c.args.place = c.begin-reading.ensures.place ∙ c.new-raw.ensures.place in
            let at : c.begin-reading.result.at / 512 ≡ c.args.self.now.sector = omega (arith, c.begin-reading.ensures.at, c.min.ensures, low) in
            let long : 512 * (c.args.self.now.to - c.args.self.now.from) ≤ length c.step.new.part = omega (arith, c.step.auto.part, length-take {A = ℕ}, length-drop {A = ℕ}, length-replicate {A = ℕ}) in
            run_read c.args.self.now c.begin-reading.result.place c.args.host (c.begin-reading.result.at / 512) c.step.new.part _ d f at long t.2.1 (ap d.file place ∙ there) settled,
      ),
    )
