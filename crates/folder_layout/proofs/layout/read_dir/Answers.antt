use Rattle.sd_names.specs.declared.place.Dir.TheVariants.{Root, Domain, Images}
use Rattle.folder_layout.proofs.LayoutLemmas.{found_dir}
use Rattle.folder_layout.proofs.layout.read_dir.Goals as goal

pub returns-in-Root-clause-found : goal.returns-in-Root-clause-found
returns-in-Root-clause-found c = λ q is.
    found_dir Root c.args.text.now c.read_domain.result c.read_domain.ensures.inside c.read_domain.ensures.refused q (rw c.in-Root.is at is)

pub returns-in-Domain-clause-found : goal.returns-in-Domain-clause-found
returns-in-Domain-clause-found c = λ q is.
    found_dir (Domain c.in-Domain.sd) c.args.text.now c.read_domain_folder.result c.read_domain_folder.ensures.inside c.read_domain_folder.ensures.refused q (rw c.in-Domain.is at is)

pub returns-in-Images-clause-found : goal.returns-in-Images-clause-found
returns-in-Images-clause-found c = λ q is.
    found_dir (Images c.in-Images.sd) c.args.text.now c.read_image_folder.result c.read_image_folder.ensures.inside c.read_image_folder.ensures.refused q (rw c.in-Images.is at is)
