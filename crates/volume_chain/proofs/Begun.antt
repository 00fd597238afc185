-- A gathering stays of its image.
use Rattle.std.proofs.Common.{◌≡◌, ap, ◌∙◌}
use Rattle.chain_gathering.specs.Gathering as gather
use Rattle.chain_gathering.specs.Stages.{dir_in, image_in}
use Rattle.chain_gathering.specs.declared.gathering.Gathering.{Gathering}
use Rattle.chain_gathering.specs.declared.stages.Target as gathered
use Rattle.volume_chain.specs.Knowing.{IsOfImage}
use Rattle.volume_chain.specs.declared.chain.Target.{Target}

pub still_image : (t : Target) (g next : Gathering) → next.target ≡ g.target → (gather.HasValidRecords g → gather.HasValidRecords next) → IsOfImage t g → IsOfImage t next
still_image t g next same valid is = record {
  image = ap (λ (u : gathered.Target). image_in u) same ∙ is.image;
  folder = ap (λ (u : gathered.Target). dir_in u) same ∙ is.folder;
  valid = valid is.valid;
}
