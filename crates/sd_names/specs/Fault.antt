-- The words in which a refusal prints what is wrong with a text or a layer.
use Rattle.std.specs.Prelude.{ℕ, List, [], ◌∷◌, Option, Some, None, codes, decimal, option_to_list}
use Rattle.std.specs.Option.{option_map}
use Rattle.hex.specs.Hex.{encode_lower}
use Rattle.sd_names.specs.Key.{key_name}
use Rattle.sd_names.specs.declared.fault.DomainFault.{DomainFault}
use Rattle.sd_names.specs.declared.fault.DomainFault.TheVariants as domain
use Rattle.sd_names.specs.declared.fault.VolumeFault.{VolumeFault}
use Rattle.sd_names.specs.declared.fault.VolumeFault.TheVariants as volume
use Rattle.sd_names.specs.declared.fault.LayerFault.{LayerFault}
use Rattle.sd_names.specs.declared.fault.LayerFault.TheVariants.{Short, Magic, Version, Bits, Encrypted, Snapshots, Feature, RefcountOrder, HeaderShape, Size, Compressed, MixedBits, OutOfFile, Shared, LowRefcount, Tail}
use Rattle.sd_names.specs.declared.absence.Absence.{Absence}
use Rattle.sd_names.specs.declared.absence.Absence.TheVariants as absence

-- of a domain's text: the fault, its line or key, and the two digests in lower-case hexadecimal digits
abbrev pub domain_fault_words : DomainFault → List (List ℕ)
domain_fault_words domain.TooLong = codes "TooLong" ∷ []
domain_fault_words (domain.BadLine line) = codes "BadLine" ∷ decimal line ∷ []
domain_fault_words (domain.MissingKey key) = codes "MissingKey" ∷ key_name key ∷ []
domain_fault_words (domain.BadValue key) = codes "BadValue" ∷ key_name key ∷ []
domain_fault_words (domain.Checksum found computed) = codes "Checksum" ∷ encode_lower found ∷ encode_lower computed ∷ []
domain_fault_words domain.Memory = codes "Memory" ∷ []

-- of a volume's text: one word, which is the key where a key is at fault
abbrev pub volume_fault_word : VolumeFault → List ℕ
volume_fault_word volume.TooLong = codes "TooLong"
volume_fault_word volume.NoEof = codes "NoEof"
volume_fault_word (volume.BadLine line) = codes "BadLine"
volume_fault_word (volume.MissingKey key) = key_name key
volume_fault_word (volume.BadValue key) = key_name key
volume_fault_word volume.Memory = codes "Memory"

-- of a layer: the fault's name, and its number where it has one
abbrev pub layer_fault_name : LayerFault → List ℕ
layer_fault_name Short = codes "Short"
layer_fault_name Magic = codes "Magic"
layer_fault_name Version = codes "Version"
layer_fault_name Bits = codes "Bits"
layer_fault_name Encrypted = codes "Encrypted"
layer_fault_name Snapshots = codes "Snapshots"
layer_fault_name (Feature _) = codes "Feature"
layer_fault_name RefcountOrder = codes "RefcountOrder"
layer_fault_name HeaderShape = codes "HeaderShape"
layer_fault_name (Size _) = codes "Size"
layer_fault_name (Compressed _) = codes "Compressed"
layer_fault_name (MixedBits _) = codes "MixedBits"
layer_fault_name (OutOfFile _) = codes "OutOfFile"
layer_fault_name (Shared _) = codes "Shared"
layer_fault_name (LowRefcount _) = codes "LowRefcount"
layer_fault_name (Tail _) = codes "Tail"

abbrev pub layer_fault_value : LayerFault → Option ℕ
layer_fault_value Short = None
layer_fault_value Magic = None
layer_fault_value Version = None
layer_fault_value Bits = None
layer_fault_value Encrypted = None
layer_fault_value Snapshots = None
layer_fault_value (Feature n) = Some n
layer_fault_value RefcountOrder = None
layer_fault_value HeaderShape = None
layer_fault_value (Size n) = Some n
layer_fault_value (Compressed n) = Some n
layer_fault_value (MixedBits n) = Some n
layer_fault_value (OutOfFile n) = Some n
layer_fault_value (Shared n) = Some n
layer_fault_value (LowRefcount n) = Some n
layer_fault_value (Tail n) = Some n

abbrev pub layer_fault_words : LayerFault → List (List ℕ)
layer_fault_words fault = layer_fault_name fault ∷ option_to_list (option_map decimal (layer_fault_value fault))

-- of an answer that what was known to be there rules out
abbrev pub absence_name : Absence → List ℕ
absence_name absence.NoFile = codes "NoFile"
absence_name absence.Exists = codes "Exists"
absence_name absence.OutOfFile = codes "OutOfFile"
absence_name absence.NotEmpty = codes "NotEmpty"
