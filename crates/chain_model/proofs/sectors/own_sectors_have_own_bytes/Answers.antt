use Rattle.chain_model.proofs.Held.{none_past_capacity}
use Rattle.chain_model.proofs.OwnBytes.{layer_sector_bytes, raw_sector_bytes}
use Rattle.chain_model.proofs.sectors.own_sectors_have_own_bytes.Goals as goal

pub returns-clause-layer : goal.returns-clause-layer
returns-clause-layer c = layer_sector_bytes

pub returns-clause-raw : goal.returns-clause-raw
returns-clause-raw c = raw_sector_bytes

pub returns-clause-none : goal.returns-clause-none
returns-clause-none c = none_past_capacity
