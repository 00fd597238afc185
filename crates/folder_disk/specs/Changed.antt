-- What the system has done to names.
use Rattle.folder_disk.specs.declared.names.Change.{Change}
use Rattle.folder_disk.specs.declared.names.Changed.{Changed}

abbrev pub change_of : Changed → Change
change_of changed = changed.change
