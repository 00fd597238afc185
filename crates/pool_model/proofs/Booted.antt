-- A boot that is answered ok.
use Rattle.std.proofs.Common.{true, false, ap, ◌∙◌}
use Rattle.std.proofs.lemmas.List.{get_or-set_same}
use Rattle.sd_names.specs.UpSet.{Hosts, is_up}
use Rattle.pool_model.specs.Laws.{BootedAreUp}
use Rattle.pool_model.specs.Lines.{boot}

pub booted_are_up : BootedAreUp
booted_are_up s t n m h bytes within (boot down few becomes) =
    ap (λ (hosts : Hosts). is_up hosts h) becomes.up_is ∙ get_or-set_same s.up h true false within
