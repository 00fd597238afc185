use Rattle.std.proofs.Common.{◌≡◌, true, List, length, Option, None, not, ap, sym, subst, ◌∙◌, refl, arith}
use Rattle.sd_names.specs.declared.place.Dir.{Dir}
use Rattle.memory_disk.specs.Held.{held}
use Rattle.memory_disk.specs.Listing.{IsLeastDir, IsLeastName}
use Rattle.shared_disk.specs.Places.{dir_is}
use Rattle.memory_disk.specs.Store.{has_dir}
use Rattle.memory_disk.specs.declared.entry.FileEntry.{FileEntry}
use Rattle.memory_disk.proofs.Folders.{entry_dir, entry_name, fewer_dirs, housed_kept, is_dir_removed, no_entry, no_file_in}
use Rattle.memory_disk.proofs.Listed.{is_next_dir, is_next_name}
use Rattle.memory_disk.proofs.Within.{filter_no_more}
use Rattle.memory_disk.proofs.store.Store.remove_dir.Goals as goal

pub returns-then-is_some-clause-call : goal.returns-then-is_some-clause-call
returns-then-is_some-clause-call c =
    let least = subst (λ (ss : List (Option FileEntry)). IsLeastName ss c.args.dir None c.least_name.result) c.deref-2.ensures.value c.least_name.ensures in
    let next = is_next_name c.args.self.now.dirs.items c.args.self.now.files.slots.items c.args.self.now.stable c.args.self.now.log.items c.args.dir None c.least_name.result c.args.self.now.files.apart least in
    (refl, cc, entry_name (held c.args.self.now) c.args.dir c.least_name.result next (sym c.is_some.ensures ∙ c.if-is_some.true))

pub returns-then-is_some-2-clause-call : goal.returns-then-is_some-2-clause-call
returns-then-is_some-2-clause-call c =
    let least = subst (λ (ds : List Dir). IsLeastDir ds c.args.dir None c.least_dir.result) c.deref-3.ensures.value c.least_dir.ensures in
    let next = is_next_dir c.args.self.now.dirs.items c.args.self.now.files.slots.items c.args.self.now.stable c.args.self.now.log.items c.args.dir None c.least_dir.result least in
    (refl, cc, entry_dir (held c.args.self.now) c.args.dir c.least_dir.result next (sym c.is_some-2.ensures ∙ c.if-is_some-2.true))

pub invariant_of-self-clause-used : goal.invariant_of-self-clause-used
invariant_of-self-clause-used c =
    let fewer = filter_no_more (λ (d : Dir). not (dir_is d c.args.dir)) c.args.self.now.dirs.items c.forget_dir.new.dirs.items c.forget_dir.ensures.items in
    omega (arith, fewer, c.args.self.now.used, c.args.self.now.dirs.ok, c.forget_dir.new.dirs.ok)

pub invariant_of-self-clause-housed : goal.invariant_of-self-clause-housed
invariant_of-self-clause-housed c =
    let least = subst (λ (ss : List (Option FileEntry)). IsLeastName ss c.args.dir None c.least_name.result) c.deref-2.ensures.value c.least_name.ensures in
    housed_kept c.args.self.now.dirs.items c.forget_dir.new.dirs.items c.args.self.now.files.slots.items c.args.dir c.forget_dir.ensures.items
    (no_file_in c.args.self.now.files.slots.items c.args.dir c.least_name.result least (sym c.is_some.ensures ∙ c.if-is_some.false)) c.args.self.now.housed

pub returns-clause-call : goal.returns-clause-call
returns-clause-call c =
    let least = subst (λ (ss : List (Option FileEntry)). IsLeastName ss c.args.dir None c.least_name.result) c.deref-2.ensures.value c.least_name.ensures in
    let next = is_next_name c.args.self.now.dirs.items c.args.self.now.files.slots.items c.args.self.now.stable c.args.self.now.log.items c.args.dir None c.least_name.result c.args.self.now.files.apart least in
    let least_sub = subst (λ (ds : List Dir). IsLeastDir ds c.args.dir None c.least_dir.result) c.deref-3.ensures.value c.least_dir.ensures in
    let next_sub = is_next_dir c.args.self.now.dirs.items c.args.self.now.files.slots.items c.args.self.now.stable c.args.self.now.log.items c.args.dir None c.least_dir.result least_sub in
    record {
      there = cc;
      empty = no_entry (held c.args.self.now) c.args.dir c.least_name.result c.least_dir.result next next_sub (sym c.is_some.ensures ∙ c.if-is_some.false) (sym c.is_some-2.ensures ∙ c.if-is_some-2.false);
      put = is_dir_removed c.args.self.now.dirs.items c.forget_dir.new.dirs.items c.args.self.now.files.slots.items c.args.self.now.stable c.args.self.now.log.items c.args.dir c.requires c.forget_dir.ensures.items;
    }

pub returns-clause-units : goal.returns-clause-units
returns-clause-units c =
    let there : has_dir c.args.self.now.dirs.items c.args.dir ≡ true = cc in
    let fewer = fewer_dirs c.args.dir c.args.self.now.dirs.items c.requires there in
    let left = ap length c.forget_dir.ensures.items in
    omega (arith, fewer, left, c.args.self.now.dirs.ok, c.forget_dir.new.dirs.ok)
