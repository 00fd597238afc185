use Rattle.std.proofs.Common.{◌≡◌, rules}
use Rattle.sd_names.specs.Place.{dir_cmp}
use Rattle.sd_names.proofs.PlaceLemmas.{dir_cmp-decides}
use Rattle.sd_names.proofs.place.Dir.cmp.Goals as goal

pub returns-clause-equal : goal.returns-clause-equal
returns-clause-equal c =
    let order : c.cmp.result ≡ dir_cmp c.args.self.now c.args.other.now = search rules in
    dir_cmp-decides c.cmp.result c.args.self.now c.args.other.now c.has_ids.ensures c.has_ids-2.ensures order
