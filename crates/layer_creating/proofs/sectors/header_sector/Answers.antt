use Rattle.std.proofs.Common.{◌∙◌, replicate, ap, sym, subst}
use Rattle.qcow_format.specs.declared.header.Header.{Header}
use Rattle.qcow_format.specs.Written.{HasRoom, written}
use Rattle.shared_disk.specs.Content.{zero_sector}
use Rattle.layer_creating.proofs.Headers.{has_room}
use Rattle.layer_creating.proofs.sectors.header_sector.Goals as goal

pub write-requires : goal.write-requires
write-requires c = subst (λ (h : Header). HasRoom h) (sym c.new_header.ensures) (has_room c.args.capacity c.args.backing)

pub returns : goal.returns
unfolding zero_sector
returns c = c.write.ensures ∙ ap (λ (h : Header). written h (replicate 512 0)) c.new_header.ensures
