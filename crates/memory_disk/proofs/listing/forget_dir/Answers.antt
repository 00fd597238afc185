use Rattle.std.proofs.Common.{rules, not}
use Rattle.std.proofs.lemmas.Fn.{filter_same}
use Rattle.sd_names.specs.declared.place.Dir.{Dir}
use Rattle.shared_disk.specs.Places.{dir_is}
use Rattle.memory_disk.proofs.listing.forget_dir.Goals as goal

pub returns-clause-items : goal.returns-clause-items
returns-clause-items c = filter_same _ (λ (d : Dir). not (dir_is d c.args.dir)) _ (λ x b f' k. search rules) _ _ c.retain.ensures.filtered
