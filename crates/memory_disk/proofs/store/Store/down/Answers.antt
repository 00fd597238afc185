use Rattle.std.proofs.Common.{ap, subst₂, ◌∙◌, map}
use Rattle.std.specs.Option.{option_map}
use Rattle.memory_disk.specs.Files.{entry_synced}
use Rattle.memory_disk.specs.Settled.{IsSettling}
use Rattle.memory_disk.specs.Store.{not_by}
use Rattle.memory_disk.proofs.Settling.{is_down, settling_more}
use Rattle.memory_disk.proofs.Turning.{taken_more}
use Rattle.memory_disk.proofs.store.Store.down.Goals as goal

pub returns-clause-call : goal.returns-clause-call
returns-clause-call c =
    let files = ap (λ v. v.slots.items) c.fill_files.ensures.files in
    let log = ap (λ v. v.items) c.fill_files.ensures.log in
    let later : IsSettling c.args.host c.args.self.now.files.slots.items c.args.self.now.log.items c.fill_files.new.self.stable c.settle_host.new.self.stable =
    subst₂ (λ ss ws. IsSettling c.args.host ss ws c.fill_files.new.self.stable c.settle_host.new.self.stable) files log c.settle_host.ensures.at in
    is_down c.args.host c.args.self.now.dirs.items c.settle_host.new.self.dirs.items c.args.self.now.files.slots.items c.settle_host.new.self.files.slots.items c.args.self.now.log.items c.settle_host.new.self.log.items
    c.args.self.now.stable c.settle_host.new.self.stable (ap (λ v. v.items) (c.settle_host.ensures.dirs ∙ c.fill_files.ensures.dirs)) c.settle_host.new.self.files.apart
    (c.settle_host.ensures.slots ∙ ap (map (option_map (entry_synced c.args.host))) files) (c.settle_host.ensures.log ∙ ap (not_by c.args.host) log)
    (settling_more c.args.host c.args.self.now.files.slots.items c.args.self.now.log.items c.args.self.now.stable c.fill_files.new.self.stable c.settle_host.new.self.stable c.fill_files.ensures.at later)

pub returns-clause-picks : goal.returns-clause-picks
returns-clause-picks c = taken_more _ _ _ c.fill_files.ensures.picks c.settle_host.ensures.picks
