-- A made image as its chain sees it.
use Rattle.shared_disk.specs.Content.{Content}
use Rattle.chain_model.specs.Folder.{Volumes, folder_of as files_of, volumes_of}
use Rattle.chain_model.specs.Records.{Image}
use Rattle.image_making.specs.NewImage.{folder_of}
use Rattle.image_making.specs.declared.making.NewImage.{NewImage}

-- the image in its domain, and the files of its volumes
abbrev pub image_in : NewImage → Image
image_in x = record { domain = x.says.domain; id = x.says.image; version = x.version }

abbrev pub volumes_in : NewImage → Content → Volumes
volumes_in x d = volumes_of (files_of (folder_of x) d)
