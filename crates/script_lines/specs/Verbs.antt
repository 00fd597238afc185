-- The verbs of a script: the word and the arguments of each, and what a verb says.
use Rattle.std.specs.Prelude.{◌≡◌, ℕ, List, [], ◌∷◌, Option, IfSome, codes}
use Rattle.sd_names.specs.declared.verb.Verb.{Verb}
use Rattle.sd_names.specs.declared.verb.Verb.TheVariants as verb
use Rattle.script_lines.specs.Argument.{Kind, identifier, set_identifier, number, description, data_text, layout, Value, id_value, number_value, bytes_value, layout_value}
use Rattle.script_lines.specs.Reads.{Reads}
use Rattle.script_lines.specs.declared.arguments.Arguments.{Arguments}
use Rattle.script_lines.specs.declared.verb_names.VerbWord.{VerbWord}
use Rattle.script_lines.specs.declared.verb_names.VerbWord.TheVariants as word

-- a verb as a script writes it
abbrev pub verb_text : VerbWord → List ℕ
verb_text word.MakePool = codes "make-pool"
verb_text word.SpmStart = codes "spm-start"
verb_text word.SpmStop = codes "spm-stop"
verb_text word.AddDomain = codes "add-domain"
verb_text word.Create = codes "create"
verb_text word.Snapshot = codes "snapshot"
verb_text word.DeleteVolume = codes "delete-volume"
verb_text word.DeleteImage = codes "delete-image"
verb_text word.Copy = codes "copy"
verb_text word.Extend = codes "extend"
verb_text word.Describe = codes "describe"
verb_text word.Open = codes "open"
verb_text word.Close = codes "close"
verb_text word.Read = codes "read"
verb_text word.Write = codes "write"
verb_text word.PrepareMerge = codes "prepare-merge"
verb_text word.Merge = codes "merge"
verb_text word.FinalizeMerge = codes "finalize-merge"
verb_text word.LiveStart = codes "live-start"
verb_text word.LiveFill = codes "live-fill"
verb_text word.LiveSync = codes "live-sync"
verb_text word.LivePivot = codes "live-pivot"
verb_text word.BoxPost = codes "box-post"
verb_text word.BoxServe = codes "box-serve"
verb_text word.BoxCollect = codes "box-collect"
verb_text word.Tasks = codes "tasks"
verb_text word.ClearTask = codes "clear-task"
verb_text word.Recover = codes "recover"

-- its arguments
abbrev pub kinds_of : VerbWord → List Kind
kinds_of word.MakePool = identifier ∷ identifier ∷ number 4 5 ∷ description ∷ []
kinds_of word.SpmStart = identifier ∷ number 0 250 ∷ number 0 18446744073709551615 ∷ []
kinds_of word.SpmStop = []
kinds_of word.AddDomain = identifier ∷ identifier ∷ number 4 5 ∷ description ∷ []
kinds_of word.Create = identifier ∷ identifier ∷ set_identifier ∷ set_identifier ∷ layout ∷ number 0 18446744073709551615 ∷ description ∷ []
kinds_of word.Snapshot = identifier ∷ identifier ∷ set_identifier ∷ set_identifier ∷ set_identifier ∷ number 0 18446744073709551615 ∷ description ∷ []
kinds_of word.DeleteVolume = identifier ∷ identifier ∷ set_identifier ∷ set_identifier ∷ []
kinds_of word.DeleteImage = identifier ∷ identifier ∷ set_identifier ∷ []
kinds_of word.Copy = identifier ∷ identifier ∷ set_identifier ∷ set_identifier ∷ identifier ∷ set_identifier ∷ set_identifier ∷ layout ∷ []
kinds_of word.Extend = identifier ∷ identifier ∷ set_identifier ∷ set_identifier ∷ number 0 18446744073709551615 ∷ []
kinds_of word.Describe = identifier ∷ identifier ∷ set_identifier ∷ set_identifier ∷ description ∷ []
kinds_of word.Open = identifier ∷ set_identifier ∷ []
kinds_of word.Close = identifier ∷ set_identifier ∷ []
kinds_of word.Read = identifier ∷ set_identifier ∷ number 0 18446744073709551615 ∷ number 1 65536 ∷ []
kinds_of word.Write = identifier ∷ set_identifier ∷ number 0 18446744073709551615 ∷ data_text ∷ []
kinds_of word.PrepareMerge = identifier ∷ set_identifier ∷ set_identifier ∷ set_identifier ∷ []
kinds_of word.Merge = identifier ∷ set_identifier ∷ set_identifier ∷ set_identifier ∷ number 0 999 ∷ []
kinds_of word.FinalizeMerge = identifier ∷ set_identifier ∷ set_identifier ∷ set_identifier ∷ []
kinds_of word.LiveStart = identifier ∷ set_identifier ∷ set_identifier ∷ set_identifier ∷ []
kinds_of word.LiveFill = identifier ∷ set_identifier ∷ number 1 4294967295 ∷ []
kinds_of word.LiveSync = identifier ∷ set_identifier ∷ []
kinds_of word.LivePivot = identifier ∷ set_identifier ∷ []
kinds_of word.BoxPost = identifier ∷ set_identifier ∷ set_identifier ∷ number 0 18446744073709551615 ∷ number 0 4294967295 ∷ []
kinds_of word.BoxServe = identifier ∷ number 1 250 ∷ []
kinds_of word.BoxCollect = identifier ∷ []
kinds_of word.Tasks = []
kinds_of word.ClearTask = identifier ∷ []
kinds_of word.Recover = []

-- the word of a verb that was read
abbrev pub word_of : Verb → VerbWord
word_of (verb.MakePool _ _ _ _) = word.MakePool
word_of (verb.SpmStart _ _ _) = word.SpmStart
word_of verb.SpmStop = word.SpmStop
word_of (verb.AddDomain _ _ _ _) = word.AddDomain
word_of (verb.Create _ _ _ _ _ _ _ _) = word.Create
word_of (verb.Snapshot _ _ _ _ _ _ _) = word.Snapshot
word_of (verb.DeleteVolume _ _ _ _) = word.DeleteVolume
word_of (verb.DeleteImage _ _ _) = word.DeleteImage
word_of (verb.Copy _ _ _ _ _ _ _ _ _) = word.Copy
word_of (verb.Extend _ _ _ _ _) = word.Extend
word_of (verb.Describe _ _ _ _ _) = word.Describe
word_of (verb.Open _ _) = word.Open
word_of (verb.Close _ _) = word.Close
word_of (verb.Read _ _ _ _) = word.Read
word_of (verb.Write _ _ _ _) = word.Write
word_of (verb.PrepareMerge _ _ _ _) = word.PrepareMerge
word_of (verb.Merge _ _ _ _ _) = word.Merge
word_of (verb.FinalizeMerge _ _ _ _) = word.FinalizeMerge
word_of (verb.LiveStart _ _ _ _) = word.LiveStart
word_of (verb.LiveFill _ _ _) = word.LiveFill
word_of (verb.LiveSync _ _) = word.LiveSync
word_of (verb.LivePivot _ _) = word.LivePivot
word_of (verb.BoxPost _ _ _ _ _) = word.BoxPost
word_of (verb.BoxServe _ _) = word.BoxServe
word_of (verb.BoxCollect _) = word.BoxCollect
word_of verb.Tasks = word.Tasks
word_of (verb.ClearTask _) = word.ClearTask
word_of verb.Recover = word.Recover

-- and its arguments, in their order
abbrev pub values_of_verb : Verb → List Value
values_of_verb (verb.MakePool pool sd version text) = id_value pool.0 ∷ id_value sd.0 ∷ number_value version ∷ bytes_value text.now ∷ []
values_of_verb (verb.SpmStart sd prev lver) = id_value sd.0 ∷ number_value prev ∷ number_value lver ∷ []
values_of_verb verb.SpmStop = []
values_of_verb (verb.AddDomain task sd version text) = id_value task.0 ∷ id_value sd.0 ∷ number_value version ∷ bytes_value text.now ∷ []
values_of_verb (verb.Create task sd image v format kind size text) = id_value task.0 ∷ id_value sd.0 ∷ id_value image.0 ∷ id_value v.0 ∷ layout_value format kind ∷ number_value size ∷ bytes_value text.now ∷ []
values_of_verb (verb.Snapshot task sd image v w size text) = id_value task.0 ∷ id_value sd.0 ∷ id_value image.0 ∷ id_value v.0 ∷ id_value w.0 ∷ number_value size ∷ bytes_value text.now ∷ []
values_of_verb (verb.DeleteVolume task sd image v) = id_value task.0 ∷ id_value sd.0 ∷ id_value image.0 ∷ id_value v.0 ∷ []
values_of_verb (verb.DeleteImage task sd image) = id_value task.0 ∷ id_value sd.0 ∷ id_value image.0 ∷ []
values_of_verb (verb.Copy task sd image v to_sd to_image w format kind) = id_value task.0 ∷ id_value sd.0 ∷ id_value image.0 ∷ id_value v.0 ∷ id_value to_sd.0 ∷ id_value to_image.0 ∷ id_value w.0 ∷ layout_value format kind ∷ []
values_of_verb (verb.Extend task sd image v size) = id_value task.0 ∷ id_value sd.0 ∷ id_value image.0 ∷ id_value v.0 ∷ number_value size ∷ []
values_of_verb (verb.Describe task sd image v text) = id_value task.0 ∷ id_value sd.0 ∷ id_value image.0 ∷ id_value v.0 ∷ bytes_value text.now ∷ []
values_of_verb (verb.Open sd image) = id_value sd.0 ∷ id_value image.0 ∷ []
values_of_verb (verb.Close sd image) = id_value sd.0 ∷ id_value image.0 ∷ []
values_of_verb (verb.Read sd image at length) = id_value sd.0 ∷ id_value image.0 ∷ number_value at ∷ number_value length ∷ []
values_of_verb (verb.Write sd image at bytes) = id_value sd.0 ∷ id_value image.0 ∷ number_value at ∷ bytes_value bytes.now ∷ []
values_of_verb (verb.PrepareMerge sd image v w) = id_value sd.0 ∷ id_value image.0 ∷ id_value v.0 ∷ id_value w.0 ∷ []
values_of_verb (verb.Merge sd image v w generation) = id_value sd.0 ∷ id_value image.0 ∷ id_value v.0 ∷ id_value w.0 ∷ number_value generation ∷ []
values_of_verb (verb.FinalizeMerge sd image v w) = id_value sd.0 ∷ id_value image.0 ∷ id_value v.0 ∷ id_value w.0 ∷ []
values_of_verb (verb.LiveStart sd image v w) = id_value sd.0 ∷ id_value image.0 ∷ id_value v.0 ∷ id_value w.0 ∷ []
values_of_verb (verb.LiveFill sd image count) = id_value sd.0 ∷ id_value image.0 ∷ number_value count ∷ []
values_of_verb (verb.LiveSync sd image) = id_value sd.0 ∷ id_value image.0 ∷ []
values_of_verb (verb.LivePivot sd image) = id_value sd.0 ∷ id_value image.0 ∷ []
values_of_verb (verb.BoxPost sd image v length mark) = id_value sd.0 ∷ id_value image.0 ∷ id_value v.0 ∷ number_value length ∷ number_value mark ∷ []
values_of_verb (verb.BoxServe sd of) = id_value sd.0 ∷ number_value of ∷ []
values_of_verb (verb.BoxCollect sd) = id_value sd.0 ∷ []
values_of_verb verb.Tasks = []
values_of_verb (verb.ClearTask task) = id_value task.0 ∷ []
values_of_verb verb.Recover = []

-- a verb of this word was read from arguments, or one of them was refused
pub record ReadsVerb (name : VerbWord) (old new : Arguments) (read : Option Verb) : Type 0 where
  pub reads : Reads (kinds_of name) values_of_verb old new read
  pub named : IfSome read (λ said. word_of said ≡ name)
