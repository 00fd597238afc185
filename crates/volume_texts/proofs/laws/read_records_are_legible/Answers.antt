use Rattle.volume_texts.proofs.ReadBack.{description_plain, disk_type_plain}
use Rattle.volume_texts.proofs.laws.read_records_are_legible.Goals as goal

pub returns-clause-description : goal.returns-clause-description
returns-clause-description c version sd image text r all is = description_plain version sd image text r all is

pub returns-clause-disk_type : goal.returns-clause-disk_type
returns-clause-disk_type c version sd image text r all is = disk_type_plain version sd image text r all is
