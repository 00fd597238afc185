-- A refusal's number, name and values, and the text that they make.
use Rattle.std.specs.Prelude.{ℕ, List, [], ◌∷◌, codes, decimal}
use Rattle.std.specs.List.{join_with_byte}
use Rattle.sd_names.specs.Id.{id_text}
use Rattle.sd_names.specs.Fault.{domain_fault_words, volume_fault_word, layer_fault_words, absence_name}
use Rattle.sd_names.specs.declared.refusal.Refusal.{Refusal}
use Rattle.sd_names.specs.declared.refusal.Refusal.TheVariants.{BadLine, LineTooLong, UnknownVerb, BadArgument, NotBuilt, HostDown, HostBusy, HostIdle, HostUp, TooManyHosts, OthersUp, NoPool, PoolExists, NoDomain, DomainExists, DomainCorrupt, WrongVersion, TooManyDomains, NotSpm, SpmHeld, LverMismatch, PrevMismatch, NoImage, ImageExists, ImageHeld, ImageNotOpen, LeaseAreaFull, ImageOpen, TooManyOpen, NoReadingVolume, LeaseCorrupt, NoVolume, VolumeExists, HasChildren, LastVolume, VolumeIllegal, MetaCorrupt, GenerationMismatch, WrongParent, ChainTooLong, BadCapacity, OutOfRange, NoRoom, Unaligned, LayerRefused, NotPrepared, MergeRunning, MergeNotReady, NotMerging, NoTask, TaskOpen, TaskExists, TasksFull, TaskCorrupt, BoxFull, DiskFault, ImageBroken, Vanished, OutOfMemory}

-- its number
abbrev pub refusal_number : Refusal → ℕ
refusal_number BadLine = 10
refusal_number LineTooLong = 11
refusal_number UnknownVerb = 12
refusal_number (BadArgument _) = 13
refusal_number NotBuilt = 14
refusal_number HostDown = 20
refusal_number HostBusy = 21
refusal_number HostIdle = 22
refusal_number HostUp = 23
refusal_number TooManyHosts = 24
refusal_number (OthersUp _) = 25
refusal_number NoPool = 30
refusal_number (PoolExists _) = 31
refusal_number NoDomain = 32
refusal_number DomainExists = 33
refusal_number (DomainCorrupt _) = 34
refusal_number (WrongVersion _) = 35
refusal_number TooManyDomains = 36
refusal_number NotSpm = 40
refusal_number (SpmHeld _ _) = 41
refusal_number (LverMismatch _ _) = 42
refusal_number (PrevMismatch _ _) = 43
refusal_number NoImage = 50
refusal_number ImageExists = 51
refusal_number (ImageHeld _) = 52
refusal_number ImageNotOpen = 53
refusal_number LeaseAreaFull = 54
refusal_number ImageOpen = 55
refusal_number TooManyOpen = 56
refusal_number NoReadingVolume = 57
refusal_number (LeaseCorrupt _) = 58
refusal_number (NoVolume _) = 60
refusal_number (VolumeExists _) = 61
refusal_number (HasChildren _) = 62
refusal_number LastVolume = 63
refusal_number (VolumeIllegal _) = 64
refusal_number (MetaCorrupt _ _) = 65
refusal_number (GenerationMismatch _ _) = 66
refusal_number (WrongParent _ _) = 67
refusal_number (ChainTooLong _) = 68
refusal_number (BadCapacity _ _) = 69
refusal_number (OutOfRange _ _) = 70
refusal_number (NoRoom _ _ _) = 71
refusal_number (Unaligned _ _) = 72
refusal_number (LayerRefused _ _) = 80
refusal_number NotPrepared = 90
refusal_number (MergeRunning _) = 91
refusal_number (MergeNotReady _ _) = 92
refusal_number NotMerging = 93
refusal_number NoTask = 100
refusal_number (TaskOpen _) = 101
refusal_number (TaskExists _) = 102
refusal_number TasksFull = 103
refusal_number (TaskCorrupt _) = 104
refusal_number BoxFull = 110
refusal_number (DiskFault _) = 120
refusal_number (ImageBroken _) = 121
refusal_number (Vanished _) = 122
refusal_number OutOfMemory = 130

-- its name
abbrev pub refusal_name : Refusal → List ℕ
refusal_name BadLine = codes "BadLine"
refusal_name LineTooLong = codes "LineTooLong"
refusal_name UnknownVerb = codes "UnknownVerb"
refusal_name (BadArgument _) = codes "BadArgument"
refusal_name NotBuilt = codes "NotBuilt"
refusal_name HostDown = codes "HostDown"
refusal_name HostBusy = codes "HostBusy"
refusal_name HostIdle = codes "HostIdle"
refusal_name HostUp = codes "HostUp"
refusal_name TooManyHosts = codes "TooManyHosts"
refusal_name (OthersUp _) = codes "OthersUp"
refusal_name NoPool = codes "NoPool"
refusal_name (PoolExists _) = codes "PoolExists"
refusal_name NoDomain = codes "NoDomain"
refusal_name DomainExists = codes "DomainExists"
refusal_name (DomainCorrupt _) = codes "DomainCorrupt"
refusal_name (WrongVersion _) = codes "WrongVersion"
refusal_name TooManyDomains = codes "TooManyDomains"
refusal_name NotSpm = codes "NotSpm"
refusal_name (SpmHeld _ _) = codes "SpmHeld"
refusal_name (LverMismatch _ _) = codes "LverMismatch"
refusal_name (PrevMismatch _ _) = codes "PrevMismatch"
refusal_name NoImage = codes "NoImage"
refusal_name ImageExists = codes "ImageExists"
refusal_name (ImageHeld _) = codes "ImageHeld"
refusal_name ImageNotOpen = codes "ImageNotOpen"
refusal_name LeaseAreaFull = codes "LeaseAreaFull"
refusal_name ImageOpen = codes "ImageOpen"
refusal_name TooManyOpen = codes "TooManyOpen"
refusal_name NoReadingVolume = codes "NoReadingVolume"
refusal_name (LeaseCorrupt _) = codes "LeaseCorrupt"
refusal_name (NoVolume _) = codes "NoVolume"
refusal_name (VolumeExists _) = codes "VolumeExists"
refusal_name (HasChildren _) = codes "HasChildren"
refusal_name LastVolume = codes "LastVolume"
refusal_name (VolumeIllegal _) = codes "VolumeIllegal"
refusal_name (MetaCorrupt _ _) = codes "MetaCorrupt"
refusal_name (GenerationMismatch _ _) = codes "GenerationMismatch"
refusal_name (WrongParent _ _) = codes "WrongParent"
refusal_name (ChainTooLong _) = codes "ChainTooLong"
refusal_name (BadCapacity _ _) = codes "BadCapacity"
refusal_name (OutOfRange _ _) = codes "OutOfRange"
refusal_name (NoRoom _ _ _) = codes "NoRoom"
refusal_name (Unaligned _ _) = codes "Unaligned"
refusal_name (LayerRefused _ _) = codes "LayerRefused"
refusal_name NotPrepared = codes "NotPrepared"
refusal_name (MergeRunning _) = codes "MergeRunning"
refusal_name (MergeNotReady _ _) = codes "MergeNotReady"
refusal_name NotMerging = codes "NotMerging"
refusal_name NoTask = codes "NoTask"
refusal_name (TaskOpen _) = codes "TaskOpen"
refusal_name (TaskExists _) = codes "TaskExists"
refusal_name TasksFull = codes "TasksFull"
refusal_name (TaskCorrupt _) = codes "TaskCorrupt"
refusal_name BoxFull = codes "BoxFull"
refusal_name (DiskFault _) = codes "DiskFault"
refusal_name (ImageBroken _) = codes "ImageBroken"
refusal_name (Vanished _) = codes "Vanished"
refusal_name OutOfMemory = codes "OutOfMemory"

-- the words of its values: numbers in decimal digits, identifiers as their text
abbrev pub refusal_values : Refusal → List (List ℕ)
refusal_values BadLine = []
refusal_values LineTooLong = []
refusal_values UnknownVerb = []
refusal_values (BadArgument argument) = decimal argument ∷ []
refusal_values NotBuilt = []
refusal_values HostDown = []
refusal_values HostBusy = []
refusal_values HostIdle = []
refusal_values HostUp = []
refusal_values TooManyHosts = []
refusal_values (OthersUp host) = decimal host ∷ []
refusal_values NoPool = []
refusal_values (PoolExists sd) = id_text sd.0 ∷ []
refusal_values NoDomain = []
refusal_values DomainExists = []
refusal_values (DomainCorrupt fault) = domain_fault_words fault
refusal_values (WrongVersion version) = decimal version ∷ []
refusal_values TooManyDomains = []
refusal_values NotSpm = []
refusal_values (SpmHeld host lver) = decimal host ∷ decimal lver ∷ []
refusal_values (LverMismatch asked found) = decimal asked ∷ decimal found ∷ []
refusal_values (PrevMismatch asked found) = decimal asked ∷ decimal found ∷ []
refusal_values NoImage = []
refusal_values ImageExists = []
refusal_values (ImageHeld host) = decimal host ∷ []
refusal_values ImageNotOpen = []
refusal_values LeaseAreaFull = []
refusal_values ImageOpen = []
refusal_values TooManyOpen = []
refusal_values NoReadingVolume = []
refusal_values (LeaseCorrupt slot) = decimal slot ∷ []
refusal_values (NoVolume v) = id_text v.0 ∷ []
refusal_values (VolumeExists v) = id_text v.0 ∷ []
refusal_values (HasChildren child) = id_text child.0 ∷ []
refusal_values LastVolume = []
refusal_values (VolumeIllegal v) = id_text v.0 ∷ []
refusal_values (MetaCorrupt v fault) = id_text v.0 ∷ volume_fault_word fault ∷ []
refusal_values (GenerationMismatch asked found) = decimal asked ∷ decimal found ∷ []
refusal_values (WrongParent v found) = id_text v.0 ∷ id_text found.0 ∷ []
refusal_values (ChainTooLong count) = decimal count ∷ []
refusal_values (BadCapacity asked bound) = decimal asked ∷ decimal bound ∷ []
refusal_values (OutOfRange end capacity) = decimal end ∷ decimal capacity ∷ []
refusal_values (NoRoom v room wanted) = id_text v.0 ∷ decimal room ∷ decimal wanted ∷ []
refusal_values (Unaligned at length) = decimal at ∷ decimal length ∷ []
refusal_values (LayerRefused v fault) = id_text v.0 ∷ layer_fault_words fault
refusal_values NotPrepared = []
refusal_values (MergeRunning base) = id_text base.0 ∷ []
refusal_values (MergeNotReady front end) = decimal front ∷ decimal end ∷ []
refusal_values NotMerging = []
refusal_values NoTask = []
refusal_values (TaskOpen task) = id_text task.0 ∷ []
refusal_values (TaskExists task) = id_text task.0 ∷ []
refusal_values TasksFull = []
refusal_values (TaskCorrupt task) = id_text task.0 ∷ []
refusal_values BoxFull = []
refusal_values (DiskFault count) = decimal count ∷ []
refusal_values (ImageBroken count) = decimal count ∷ []
refusal_values (Vanished answer) = absence_name answer ∷ []
refusal_values OutOfMemory = []

-- its text: number, name and values, with one space between
abbrev pub refusal_text : Refusal → List ℕ
refusal_text r = join_with_byte 32 (decimal (refusal_number r) ∷ refusal_name r ∷ refusal_values r)
