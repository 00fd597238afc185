use Rattle.sd_names.proofs.PlaceLemmas.{place_cmp-total, place_cmp-equal}
use Rattle.sd_names.proofs.place.place_order_is_total.Goals as goal

pub returns : goal.returns
returns c = record { total = place_cmp-total; equal = place_cmp-equal }
