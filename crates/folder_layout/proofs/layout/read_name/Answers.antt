use Rattle.folder_layout.specs.Layout.{IsDomainFile, IsVolumeFile, IsTaskFile}
use Rattle.folder_layout.proofs.LayoutLemmas.{found_name, domain_files_ranked, volumes_ranked, tasks_ranked}
use Rattle.folder_layout.proofs.layout.read_name.Goals as goal

pub returns-in-DomMd-clause-found : goal.returns-in-DomMd-clause-found
returns-in-DomMd-clause-found c = λ name is.
    found_name IsDomainFile c.args.text.now c.read_domain_file.result domain_files_ranked c.read_domain_file.ensures.named c.read_domain_file.ensures.refused name (rw c.in-DomMd.is at is)

pub returns-in-Image-clause-found : goal.returns-in-Image-clause-found
returns-in-Image-clause-found c = λ name is.
    found_name IsVolumeFile c.args.text.now c.read_volume_file.result volumes_ranked c.read_volume_file.ensures.named c.read_volume_file.ensures.refused name (rw c.in-Image.is at is)

pub returns-in-Removed-clause-found : goal.returns-in-Removed-clause-found
returns-in-Removed-clause-found c = λ name is.
    found_name IsVolumeFile c.args.text.now c.read_volume_file-in-Removed.result volumes_ranked c.read_volume_file-in-Removed.ensures.named c.read_volume_file-in-Removed.ensures.refused name (rw c.in-Removed.is at is)

pub returns-in-Tasks-clause-found : goal.returns-in-Tasks-clause-found
returns-in-Tasks-clause-found c = λ name is.
    found_name IsTaskFile c.args.text.now c.read_task_file.result tasks_ranked c.read_task_file.ensures.named c.read_task_file.ensures.refused name (rw c.in-Tasks.is at is)
