use Rattle.std.proofs.Common.{◌≡◌, ◌/◌, Some, is_some, true, sym, ap, subst, ◌∙◌, refl, arith}
use Rattle.sd_names.specs.declared.place.Place.{Place}
use Rattle.memory_disk.specs.Store.{file_of, found, has_dir}
use Rattle.memory_disk.proofs.Contents.{file_at, is_put}
use Rattle.memory_disk.proofs.PutSectors.{grown_file}
use Rattle.memory_disk.proofs.Slots.{found_slot, number_at}
use Rattle.memory_disk.proofs.Within.{log_wider, put_housed, put_wider, stable_wider}
use Rattle.memory_disk.proofs.store.Store.grow.Goals as goal

pub put-requires-clause-there : goal.put-requires-clause-there
put-requires-clause-there c =
    let at : found c.args.place 0 c.args.self.now.files.slots.items ≡ Some (c.in-Some.number, c.in-Some.file) = cc in
    ap is_some (found_slot c.args.place c.args.self.now.files.slots.items c.in-Some.number c.in-Some.file at).0

pub put-requires-clause-own : goal.put-requires-clause-own
put-requires-clause-own c = λ i f is e.
    let at : found c.args.place 0 c.args.self.now.files.slots.items ≡ Some (c.in-Some.number, c.in-Some.file) = cc in
    let place = (found_slot c.args.place c.args.self.now.files.slots.items c.in-Some.number c.in-Some.file at).1 in
    number_at c.args.place c.args.self.now.files.slots.items c.in-Some.number c.in-Some.file c.args.self.now.files.apart at i f is (e ∙ c.grown_entry.ensures.place ∙ place)

pub invariant_of-self-clause-stable_within : goal.invariant_of-self-clause-stable_within
invariant_of-self-clause-stable_within c =
    let at : found c.args.place 0 c.args.self.now.files.slots.items ≡ Some (c.in-Some.number, c.in-Some.file) = cc in
    let is = (found_slot c.args.place c.args.self.now.files.slots.items c.in-Some.number c.in-Some.file at).0 in
    stable_wider c.args.self.now.files.slots.items c.put.new.self.slots.items c.args.self.now.stable
    (put_wider c.in-Some.number c.in-Some.file c.grown_entry.result c.args.self.now.files.slots.items c.put.new.self.slots.items c.put.ensures.put is (omega (arith, c.grown_entry.ensures.size))) c.args.self.now.stable_within

pub invariant_of-self-clause-log_within : goal.invariant_of-self-clause-log_within
invariant_of-self-clause-log_within c =
    let at : found c.args.place 0 c.args.self.now.files.slots.items ≡ Some (c.in-Some.number, c.in-Some.file) = cc in
    let is = (found_slot c.args.place c.args.self.now.files.slots.items c.in-Some.number c.in-Some.file at).0 in
    log_wider c.args.self.now.files.slots.items c.put.new.self.slots.items c.args.self.now.log.items
    (put_wider c.in-Some.number c.in-Some.file c.grown_entry.result c.args.self.now.files.slots.items c.put.new.self.slots.items c.put.ensures.put is (omega (arith, c.grown_entry.ensures.size))) c.args.self.now.log_within

pub invariant_of-self-clause-housed : goal.invariant_of-self-clause-housed
invariant_of-self-clause-housed c =
    let at : found c.args.place 0 c.args.self.now.files.slots.items ≡ Some (c.in-Some.number, c.in-Some.file) = cc in
    let is = (found_slot c.args.place c.args.self.now.files.slots.items c.in-Some.number c.in-Some.file at).0 in
    let there : has_dir c.args.self.now.dirs.items c.grown_entry.result.place.dir ≡ true =
    subst (λ (p : Place). has_dir c.args.self.now.dirs.items p.dir ≡ true) (sym c.grown_entry.ensures.place) (c.args.self.now.housed c.in-Some.number c.in-Some.file is) in
    put_housed c.args.self.now.dirs.items c.in-Some.number c.grown_entry.result c.args.self.now.files.slots.items c.put.new.self.slots.items c.put.ensures.put there c.args.self.now.housed

pub returns-in-Some-clause-call : goal.returns-in-Some-clause-call
returns-in-Some-clause-call c =
    let at : found c.args.place 0 c.args.self.now.files.slots.items ≡ Some (c.in-Some.number, c.in-Some.file) = cc in
    let is = (found_slot c.args.place c.args.self.now.files.slots.items c.in-Some.number c.in-Some.file at).0 in (
      file_of c.args.self.now.stable c.args.self.now.log.items c.in-Some.number c.in-Some.file,
      file_at c.args.self.now.dirs.items c.args.self.now.files.slots.items c.args.self.now.stable c.args.self.now.log.items c.args.place at,
      is_put c.args.self.now.dirs.items c.args.self.now.dirs.items c.args.self.now.files.slots.items c.put.new.self.slots.items c.args.self.now.stable c.args.self.now.stable c.args.self.now.log.items c.args.self.now.log.items c.args.place
          c.in-Some.number c.in-Some.file c.grown_entry.result _ refl c.put.new.self.apart at c.grown_entry.ensures.place c.put.ensures.put (λ m g apart. refl)
          (grown_file c.args.self.now.files.slots.items c.args.self.now.stable c.args.self.now.log.items c.in-Some.number (c.args.length / 512) c.in-Some.file c.grown_entry.result c.args.self.now.stable_within is c.grown_entry.ensures.size c.grown_entry.ensures.fresh),
    )
