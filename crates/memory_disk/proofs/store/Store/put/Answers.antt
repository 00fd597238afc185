use Rattle.std.proofs.Common.{None, ap, sym, subst, ◌∙◌}
use Rattle.shared_disk.specs.Calls.{IsPut}
use Rattle.shared_disk.specs.Content.{Content}
use Rattle.memory_disk.specs.Held.{held}
use Rattle.memory_disk.specs.Placed.{IsPlaced}
use Rattle.memory_disk.specs.Store.{found, slot_size}
use Rattle.memory_disk.proofs.Placing.{cleared_free, placed, put_bytes}
use Rattle.memory_disk.proofs.Renamed.{is_removed}
use Rattle.memory_disk.proofs.Slots.{found_slot}
use Rattle.memory_disk.proofs.store.Store.put.Goals as goal

pub add_file-number-requires-clause-free : goal.add_file-number-requires-clause-free
add_file-number-requires-clause-free c =
    ap (λ fs. found c.args.place 0 fs.slots.items) c.add_dirs.ensures.files
    ∙ cleared_free c.args.place c.add_room.new.self.files.slots.items c.clear_place.new.self.files.slots.items c.add_room.new.self.stable c.clear_place.new.self.stable c.add_room.new.self.log.items c.clear_place.new.self.log.items c.clear_place.ensures.cleared

pub put_sectors-requires-clause-size : goal.put_sectors-requires-clause-size
put_sectors-requires-clause-size c =
    let f = c.add_file-number.ensures.found in
    ap slot_size (found_slot c.args.place c.add_file-number.new.self.files.slots.items c.add_file-number.result f.0 f.1).0 ∙ f.2

pub returns-clause-call : goal.returns-clause-call
returns-clause-call c =
    let s = c.add_room.new.self in
    let a = c.clear_place.new.self in
    let b = c.add_file-number.new.self in
    let e = c.put_sectors.new.self in
    let f = c.add_file-number.ensures.found in
    let gone : IsPut (held s) c.args.place None (held a) =
    is_removed s.dirs.items a.dirs.items s.files.slots.items a.files.slots.items s.stable a.stable s.log.items a.log.items c.args.place (ap (λ v. v.items) c.clear_place.ensures.dirs) a.files.apart c.clear_place.ensures.cleared in
    let put = put_bytes b.dirs.items e.dirs.items b.files.slots.items e.files.slots.items b.stable e.stable b.log.items e.log.items c.args.place c.add_file-number.result f.0 c.args.bytes.now
    (ap (λ v. v.items) c.put_sectors.ensures.dirs) (ap (λ v. v.slots.items) c.put_sectors.ensures.files) (ap (λ v. v.items) c.put_sectors.ensures.log) b.files.apart f.1 f.2 f.3 c.add_file-number.ensures.none e.stable_within
    c.put_sectors.ensures.here c.put_sectors.ensures.others in
    subst (λ (o : Content). IsPlaced (held c.args.self.now) c.args.place c.args.bytes.now o) (sym c.fit.ensures.content)
    (placed (held c.args.self.now) (held a) (held c.add_dirs.new.self) (held b) (held e) c.args.place c.args.bytes.now _ _
    (subst (λ (o : Content). IsPut o c.args.place None (held a)) c.add_room.ensures.content gone) c.add_dirs.ensures.made c.add_dirs.ensures.others c.add_file-number.ensures.put put.0 put.1)
