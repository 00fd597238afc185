use Rattle.std.proofs.Common.{true, refl, ap, subst, ◌∙◌}
use Rattle.sd_names.specs.declared.place.Dir.{Dir}
use Rattle.sd_names.specs.Place.{parent_of}
use Rattle.shared_disk.specs.Calls.{IsDirPut}
use Rattle.memory_disk.specs.Held.{held}
use Rattle.memory_disk.proofs.Placing.{path_made}
use Rattle.memory_disk.proofs.store.Store.add_dirs.Goals as goal

pub returns-clause-made : goal.returns-clause-made
returns-clause-made c = path_made (held c.args.self.now) (held c.add_dir.new.self) (held c.add_dir-2.new.self) (held c.add_dir-3.new.self) c.args.dir refl
    (subst (λ (q : Dir). IsDirPut (held c.args.self.now) q true (held c.add_dir.new.self)) (c.parent-2.ensures ∙ ap parent_of c.parent.ensures) c.add_dir.ensures.put)
    (subst (λ (q : Dir). IsDirPut (held c.add_dir.new.self) q true (held c.add_dir-2.new.self)) c.parent-3.ensures c.add_dir-2.ensures.put)
    c.add_dir-3.ensures.put

pub returns-clause-others : goal.returns-clause-others
returns-clause-others c = λ q. c.add_dir-3.ensures.put.files q ∙ c.add_dir-2.ensures.put.files q ∙ c.add_dir.ensures.put.files q

pub returns-clause-folder : goal.returns-clause-folder
returns-clause-folder c = c.add_dir-3.ensures.put.here
