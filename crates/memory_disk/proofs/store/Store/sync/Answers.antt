use Rattle.std.proofs.Common.{◌≡◌, ℕ, Some, is_some, ap, ◌∙◌, le_refl}
use Rattle.sd_names.specs.declared.place.Place.{Place}
use Rattle.memory_disk.specs.Files.{entry_synced}
use Rattle.memory_disk.specs.Store.{IsSlotPut, found, file_of}
use Rattle.memory_disk.specs.declared.entry.FileEntry.{FileEntry}
use Rattle.memory_disk.specs.declared.files.Files.{Files}
use Rattle.memory_disk.proofs.Contents.{file_at}
use Rattle.memory_disk.proofs.Slots.{found_slot, number_at}
use Rattle.memory_disk.proofs.Synced.{is_synced}
use Rattle.memory_disk.proofs.Within.{log_wider, put_housed, put_wider, stable_wider}
use Rattle.memory_disk.proofs.store.Store.sync.Goals as goal

-- the file that was found is there after its writes were settled
is_there : (p : Place) (a b : Files) (r : ℕ × FileEntry) → found p 0 a.slots.items ≡ Some r → b ≡ a → found p 0 b.slots.items ≡ Some r
is_there p a b r e same = ap (λ (x : Files). found p 0 x.slots.items) same ∙ e

-- its new entry
put_synced : (n host : ℕ) (f g : FileEntry) (before after : Files) → g ≡ entry_synced host f → IsSlotPut n (Some g) before.slots.items after.slots.items → IsSlotPut n (Some (entry_synced host f)) before.slots.items after.slots.items
put_synced n host f g before after e put = rw (← e) put

pub put-requires-clause-there : goal.put-requires-clause-there
put-requires-clause-there c =
    let at : found c.args.place 0 c.args.self.now.files.slots.items ≡ Some c.in-Some.found = cc in
    let there = is_there c.args.place c.args.self.now.files c.settle.new.self.files c.in-Some.found at c.settle.ensures.files in
    ap is_some (found_slot c.args.place c.settle.new.self.files.slots.items c.in-Some.found.0 c.in-Some.found.1 there).0

pub put-requires-clause-own : goal.put-requires-clause-own
put-requires-clause-own c = λ i f is e.
    let at : found c.args.place 0 c.args.self.now.files.slots.items ≡ Some c.in-Some.found = cc in
    let there = is_there c.args.place c.args.self.now.files c.settle.new.self.files c.in-Some.found at c.settle.ensures.files in
    let place = (found_slot c.args.place c.settle.new.self.files.slots.items c.in-Some.found.0 c.in-Some.found.1 there).1 in
    number_at c.args.place c.settle.new.self.files.slots.items c.in-Some.found.0 c.in-Some.found.1 c.settle.new.self.files.apart there i f is
    (e ∙ ap (λ (x : FileEntry). x.place) c.synced_entry.ensures ∙ place)

pub invariant_of-self-clause-stable_within : goal.invariant_of-self-clause-stable_within
invariant_of-self-clause-stable_within c =
    let at : found c.args.place 0 c.args.self.now.files.slots.items ≡ Some c.in-Some.found = cc in
    let there = is_there c.args.place c.args.self.now.files c.settle.new.self.files c.in-Some.found at c.settle.ensures.files in
    let is = (found_slot c.args.place c.settle.new.self.files.slots.items c.in-Some.found.0 c.in-Some.found.1 there).0 in
    let put = put_synced c.in-Some.found.0 c.args.host c.in-Some.found.1 c.synced_entry.result c.settle.new.self.files c.put.new.self c.synced_entry.ensures c.put.ensures.put in
    stable_wider c.settle.new.self.files.slots.items c.put.new.self.slots.items c.settle.new.self.stable
    (put_wider c.in-Some.found.0 c.in-Some.found.1 _ c.settle.new.self.files.slots.items c.put.new.self.slots.items put is (le_refl c.in-Some.found.1.size)) c.settle.new.self.stable_within

pub invariant_of-self-clause-log_within : goal.invariant_of-self-clause-log_within
invariant_of-self-clause-log_within c =
    let at : found c.args.place 0 c.args.self.now.files.slots.items ≡ Some c.in-Some.found = cc in
    let there = is_there c.args.place c.args.self.now.files c.settle.new.self.files c.in-Some.found at c.settle.ensures.files in
    let is = (found_slot c.args.place c.settle.new.self.files.slots.items c.in-Some.found.0 c.in-Some.found.1 there).0 in
    let put = put_synced c.in-Some.found.0 c.args.host c.in-Some.found.1 c.synced_entry.result c.settle.new.self.files c.put.new.self c.synced_entry.ensures c.put.ensures.put in
    log_wider c.settle.new.self.files.slots.items c.put.new.self.slots.items c.settle.new.self.log.items
    (put_wider c.in-Some.found.0 c.in-Some.found.1 _ c.settle.new.self.files.slots.items c.put.new.self.slots.items put is (le_refl c.in-Some.found.1.size)) c.settle.new.self.log_within

pub invariant_of-self-clause-housed : goal.invariant_of-self-clause-housed
invariant_of-self-clause-housed c =
    let at : found c.args.place 0 c.args.self.now.files.slots.items ≡ Some c.in-Some.found = cc in
    let there = is_there c.args.place c.args.self.now.files c.settle.new.self.files c.in-Some.found at c.settle.ensures.files in
    let is = (found_slot c.args.place c.settle.new.self.files.slots.items c.in-Some.found.0 c.in-Some.found.1 there).0 in
    let put = put_synced c.in-Some.found.0 c.args.host c.in-Some.found.1 c.synced_entry.result c.settle.new.self.files c.put.new.self c.synced_entry.ensures c.put.ensures.put in
    put_housed c.settle.new.self.dirs.items c.in-Some.found.0 (entry_synced c.args.host c.in-Some.found.1) c.settle.new.self.files.slots.items c.put.new.self.slots.items put
    (c.settle.new.self.housed c.in-Some.found.0 c.in-Some.found.1 is) c.settle.new.self.housed

pub returns-clause-call : goal.returns-clause-call
returns-clause-call c =
    let at : found c.args.place 0 c.args.self.now.files.slots.items ≡ Some c.in-Some.found = cc in
    let put = put_synced c.in-Some.found.0 c.args.host c.in-Some.found.1 c.synced_entry.result c.settle.new.self.files c.put.new.self c.synced_entry.ensures c.put.ensures.put in
    let from : IsSlotPut c.in-Some.found.0 (Some (entry_synced c.args.host c.in-Some.found.1)) c.args.self.now.files.slots.items c.put.new.self.slots.items =
    λ i. rw c.settle.ensures.files at (put i) in (
      file_of c.args.self.now.stable c.args.self.now.log.items c.in-Some.found.0 c.in-Some.found.1,
      file_at c.args.self.now.dirs.items c.args.self.now.files.slots.items c.args.self.now.stable c.args.self.now.log.items c.args.place at,
      is_synced c.args.self.now.dirs.items c.settle.new.self.dirs.items c.args.self.now.files.slots.items c.put.new.self.slots.items c.args.self.now.stable c.settle.new.self.stable c.args.self.now.log.items c.settle.new.self.log.items c.args.place
          c.in-Some.found.0 c.in-Some.found.1 c.args.host (ap (λ v. v.items) c.settle.ensures.dirs) c.put.new.self.apart at from c.settle.ensures.stable c.settle.ensures.log,
    )
