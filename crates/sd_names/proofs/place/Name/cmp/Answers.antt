use Rattle.std.proofs.Common.{◌≡◌, rules}
use Rattle.sd_names.specs.Place.{name_cmp}
use Rattle.sd_names.proofs.PlaceLemmas.{name_cmp-decides}
use Rattle.sd_names.proofs.place.Name.cmp.Goals as goal

pub returns-clause-equal : goal.returns-clause-equal
returns-clause-equal c =
    let order : c.then.result ≡ name_cmp c.args.self.now c.args.other.now = search rules in
    name_cmp-decides c.then.result c.args.self.now c.args.other.now c.has_ids.ensures c.has_ids-2.ensures order
