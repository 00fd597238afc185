use Rattle.std.proofs.Common.{◌≡◌, ◌≢◌, ℕ, Some, is_some, true, ap, sym, subst, ◌∙◌, refl, le_refl}
use Rattle.sd_names.specs.declared.place.Name.{Name}
use Rattle.sd_names.specs.declared.place.Place.{Place}
use Rattle.shared_disk.specs.NameCalls.{place_in}
use Rattle.memory_disk.specs.Store.{IsCleared, found, has_dir, slot}
use Rattle.memory_disk.specs.declared.entry.FileEntry.{FileEntry}
use Rattle.memory_disk.specs.declared.store.Store.{Store}
use Rattle.memory_disk.proofs.Renamed.{is_renamed}
use Rattle.memory_disk.proofs.Slots.{found_slot}
use Rattle.memory_disk.proofs.Within.{log_wider, put_housed, put_wider, stable_wider}
use Rattle.memory_disk.proofs.store.Store.rename.Goals as goal

other_place : (from : Place) (to : Name) → from.name ≢ to → from ≢ place_in from.dir to
other_place from to h e = h (ap (λ (p : Place). p.name) e)

-- the file is there still once its new place is free
is_left : (s t : Store) (from : Place) (to : Name) (r : ℕ × FileEntry) → found from 0 s.files.slots.items ≡ Some r → from.name ≢ to
    → IsCleared (place_in from.dir to) s.files.slots.items s.stable s.log.items t.files.slots.items t.stable t.log.items → slot r.0 t.files.slots.items ≡ Some r.1
is_left s t from to r e h c =
    let w = found_slot from s.files.slots.items r.0 r.1 e in
    c.others r.0 r.1 w.0 (λ u. other_place from to h (sym w.1 ∙ u))

pub put-requires-clause-there : goal.put-requires-clause-there
put-requires-clause-there c =
    let at : found c.args.from 0 c.args.self.now.files.slots.items ≡ Some c.in-Some.found = cc in
    ap is_some (is_left c.args.self.now c.clear_place.new.self c.args.from c.args.to c.in-Some.found at c.requires c.clear_place.ensures.cleared)

pub put-requires-clause-own : goal.put-requires-clause-own
put-requires-clause-own c = λ i f is at. absurd ((c.clear_place.ensures.cleared.kept i f is).1 at)

pub invariant_of-self-clause-stable_within : goal.invariant_of-self-clause-stable_within
invariant_of-self-clause-stable_within c =
    let at : found c.args.from 0 c.args.self.now.files.slots.items ≡ Some c.in-Some.found = cc in
    let left = is_left c.args.self.now c.clear_place.new.self c.args.from c.args.to c.in-Some.found at c.requires c.clear_place.ensures.cleared in
    stable_wider c.clear_place.new.self.files.slots.items c.put.new.self.slots.items c.clear_place.new.self.stable
    (put_wider c.in-Some.found.0 c.in-Some.found.1 _ c.clear_place.new.self.files.slots.items c.put.new.self.slots.items c.put.ensures.put left (le_refl c.in-Some.found.1.size)) c.clear_place.new.self.stable_within

pub invariant_of-self-clause-log_within : goal.invariant_of-self-clause-log_within
invariant_of-self-clause-log_within c =
    let at : found c.args.from 0 c.args.self.now.files.slots.items ≡ Some c.in-Some.found = cc in
    let left = is_left c.args.self.now c.clear_place.new.self c.args.from c.args.to c.in-Some.found at c.requires c.clear_place.ensures.cleared in
    log_wider c.clear_place.new.self.files.slots.items c.put.new.self.slots.items c.clear_place.new.self.log.items
    (put_wider c.in-Some.found.0 c.in-Some.found.1 _ c.clear_place.new.self.files.slots.items c.put.new.self.slots.items c.put.ensures.put left (le_refl c.in-Some.found.1.size)) c.clear_place.new.self.log_within

pub invariant_of-self-clause-housed : goal.invariant_of-self-clause-housed
invariant_of-self-clause-housed c =
    let at : found c.args.from 0 c.args.self.now.files.slots.items ≡ Some c.in-Some.found = cc in
    let left = is_left c.args.self.now c.clear_place.new.self c.args.from c.args.to c.in-Some.found at c.requires c.clear_place.ensures.cleared in
    let place : c.in-Some.found.1.place ≡ c.args.from = (found_slot c.args.from c.args.self.now.files.slots.items c.in-Some.found.0 c.in-Some.found.1 at).1 in
    let there : has_dir c.clear_place.new.self.dirs.items c.args.from.dir ≡ true =
    subst (λ (p : Place). has_dir c.clear_place.new.self.dirs.items p.dir ≡ true) place (c.clear_place.new.self.housed c.in-Some.found.0 c.in-Some.found.1 left) in
    put_housed c.clear_place.new.self.dirs.items c.in-Some.found.0 _ c.clear_place.new.self.files.slots.items c.put.new.self.slots.items c.put.ensures.put there c.clear_place.new.self.housed

pub returns-clause-call : goal.returns-clause-call
returns-clause-call c =
    let at : found c.args.from 0 c.args.self.now.files.slots.items ≡ Some c.in-Some.found = cc in
    is_renamed c.args.self.now.dirs.items c.clear_place.new.self.dirs.items c.args.self.now.files.slots.items c.clear_place.new.self.files.slots.items c.put.new.self.slots.items c.args.self.now.stable c.clear_place.new.self.stable
    c.args.self.now.log.items c.clear_place.new.self.log.items c.args.from (place_in c.args.from.dir c.args.to) c.in-Some.found.0 c.in-Some.found.1 _ (ap (λ v. v.items) c.clear_place.ensures.dirs) c.args.self.now.files.apart c.put.new.self.apart at
    (other_place c.args.from c.args.to c.requires) c.clear_place.ensures.cleared c.put.ensures.put refl refl refl
