use Rattle.sd_names.proofs.PlaceLemmas.{dir_cmp-total, dir_cmp-equal}
use Rattle.sd_names.proofs.place.dir_order_is_total.Goals as goal

pub returns : goal.returns
returns c = record { total = dir_cmp-total; equal = dir_cmp-equal }
