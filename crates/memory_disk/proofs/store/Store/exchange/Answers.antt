use Rattle.std.proofs.Common.{◌≡◌, Some, refl, sym, ap, ◌∙◌, inl, arith}
use Rattle.std.proofs.lemmas.Bool.{false≢true}
use Rattle.memory_disk.specs.Store.{file_of, found}
use Rattle.memory_disk.proofs.Contents.{file_at}
use Rattle.memory_disk.proofs.PutSectors.{is_exchanged}
use Rattle.memory_disk.proofs.Slots.{found_slot}
use Rattle.memory_disk.proofs.store.Store.exchange.Goals as goal

pub returns-then-file-sector-clause-call : goal.returns-then-file-sector-clause-call
returns-then-file-sector-clause-call c =
    let at : found c.args.place 0 c.args.self.now.files.slots.items ≡ Some c.in-Some.found = cc in (
      refl,
      file_of c.args.self.now.stable c.args.self.now.log.items c.in-Some.found.0 c.in-Some.found.1,
      file_at c.args.self.now.dirs.items c.args.self.now.files.slots.items c.args.self.now.stable c.args.self.now.log.items c.args.place at,
      c.if-file-sector.true,
    )

pub put_stable-requires-clause-there : goal.put_stable-requires-clause-there
put_stable-requires-clause-there c =
    let at : found c.args.place 0 c.args.self.now.files.slots.items ≡ Some c.in-Some.found = cc in
    let is = (found_slot c.args.place c.args.self.now.files.slots.items c.in-Some.found.0 c.in-Some.found.1 at).0 in
    rw is (omega (arith, c.if-file-sector.false))

pub returns-then-not-is_same-clause-call : goal.returns-then-not-is_same-clause-call
returns-then-not-is_same-clause-call c =
    let at : found c.args.place 0 c.args.self.now.files.slots.items ≡ Some c.in-Some.found = cc in (
      refl,
      (
        file_of c.args.self.now.stable c.args.self.now.log.items c.in-Some.found.0 c.in-Some.found.1,
        file_at c.args.self.now.dirs.items c.args.self.now.files.slots.items c.args.self.now.stable c.args.self.now.log.items c.args.place at,
        omega (arith, c.if-file-sector.false),
        inl c.seen-seen.ensures,
        λ e. false≢true (sym c.if-not-is_same.true ∙ c.is_same.ensures.1 e),
      ),
    )

pub returns-clause-call : goal.returns-clause-call
returns-clause-call c =
    let at : found c.args.place 0 c.args.self.now.files.slots.items ≡ Some c.in-Some.found = cc in (
      file_of c.args.self.now.stable c.args.self.now.log.items c.in-Some.found.0 c.in-Some.found.1,
      file_at c.args.self.now.dirs.items c.args.self.now.files.slots.items c.args.self.now.stable c.args.self.now.log.items c.args.place at,
      omega (arith, c.if-file-sector.false),
      inl (sym (c.is_same.ensures.0 c.if-not-is_same.false) ∙ c.seen-seen.ensures),
      is_exchanged c.args.self.now.dirs.items c.put_stable.new.self.dirs.items c.args.self.now.files.slots.items c.put_stable.new.self.files.slots.items c.args.self.now.stable c.put_stable.new.self.stable
          c.args.self.now.log.items c.put_stable.new.self.log.items c.args.place c.in-Some.found.0 c.args.sector c.in-Some.found.1 c.args.next.now (ap (λ v. v.items) c.put_stable.ensures.dirs) (ap (λ v. v.slots.items) c.put_stable.ensures.files)
          c.args.self.now.files.apart at c.put_stable.ensures.log c.put_stable.ensures.stable,
    )
