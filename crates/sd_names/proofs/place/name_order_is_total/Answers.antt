use Rattle.sd_names.proofs.PlaceLemmas.{name_cmp-total, name_cmp-equal}
use Rattle.sd_names.proofs.place.name_order_is_total.Goals as goal

pub returns : goal.returns
returns c = record { total = name_cmp-total; equal = name_cmp-equal }
