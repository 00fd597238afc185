use Rattle.std.proofs.Common.{◌≡◌, rules}
use Rattle.sd_names.specs.Place.{place_cmp}
use Rattle.sd_names.proofs.PlaceLemmas.{place_cmp-decides}
use Rattle.sd_names.proofs.place.Place.cmp.Goals as goal

pub returns-clause-equal : goal.returns-clause-equal
returns-clause-equal c =
    let order : c.then.result ≡ place_cmp c.args.self.now c.args.other.now = search rules in
    place_cmp-decides c.then.result c.args.self.now c.args.other.now c.has_ids.ensures c.has_ids-2.ensures order
