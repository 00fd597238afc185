-- Which answers a call may give where it doesn't succeed.
use Rattle.shared_disk.specs.declared.disk.DiskAnswer.{DiskAnswer}
use Rattle.shared_disk.specs.declared.disk.DiskAnswer.TheVariants.{NoFile, Exists, OutOfFile, NotEmpty, Failed}

-- of a call on a file or a folder that may be missing
abbrev pub IsNoFile : DiskAnswer → Type 0
IsNoFile NoFile = Unit {0}
IsNoFile Failed = Unit {0}
IsNoFile _ = ⊥

-- of a call that makes something
abbrev pub IsNoFileOrExists : DiskAnswer → Type 0
IsNoFileOrExists Exists = Unit {0}
IsNoFileOrExists answer = IsNoFile answer

-- of a call on a part of a file
abbrev pub IsNoFileOrOutside : DiskAnswer → Type 0
IsNoFileOrOutside OutOfFile = Unit {0}
IsNoFileOrOutside answer = IsNoFile answer

-- of a call that removes a folder
abbrev pub IsNoFileOrNotEmpty : DiskAnswer → Type 0
IsNoFileOrNotEmpty NotEmpty = Unit {0}
IsNoFileOrNotEmpty answer = IsNoFile answer
