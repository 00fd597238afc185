-- The verb of a word.
use Rattle.std.specs.Prelude.{ℕ, List, Option, Some, None, if◌then◌else◌, codes}
use Rattle.std.specs.Option.{option_or}
use Rattle.std.specs.Str.{bytes_eq}
use Rattle.script_lines.specs.declared.verb_names.VerbWord.{VerbWord}
use Rattle.script_lines.specs.declared.verb_names.VerbWord.TheVariants.{MakePool, SpmStart, SpmStop, AddDomain, Create, Snapshot, DeleteVolume, DeleteImage, Copy, Extend, Describe, Open, Close, Read, Write, PrepareMerge, Merge, FinalizeMerge, LiveStart, LiveFill, LiveSync, LivePivot, BoxPost, BoxServe, BoxCollect, Tasks, ClearTask, Recover}

-- the verbs of the pool and its tasks
unfoldable pub pool_verb : List ℕ → Option VerbWord
pool_verb word =
    if bytes_eq word (codes "make-pool") then Some MakePool
    else if bytes_eq word (codes "spm-start") then Some SpmStart
    else if bytes_eq word (codes "spm-stop") then Some SpmStop
    else if bytes_eq word (codes "add-domain") then Some AddDomain
    else if bytes_eq word (codes "tasks") then Some Tasks
    else if bytes_eq word (codes "clear-task") then Some ClearTask
    else if bytes_eq word (codes "recover") then Some Recover
    else None

-- the verbs that make or change images under a task
unfoldable pub volume_verb : List ℕ → Option VerbWord
volume_verb word =
    if bytes_eq word (codes "create") then Some Create
    else if bytes_eq word (codes "snapshot") then Some Snapshot
    else if bytes_eq word (codes "delete-volume") then Some DeleteVolume
    else if bytes_eq word (codes "delete-image") then Some DeleteImage
    else if bytes_eq word (codes "copy") then Some Copy
    else if bytes_eq word (codes "extend") then Some Extend
    else if bytes_eq word (codes "describe") then Some Describe
    else None

-- the verbs of a guest and of the mailbox
unfoldable pub guest_verb : List ℕ → Option VerbWord
guest_verb word =
    if bytes_eq word (codes "open") then Some Open
    else if bytes_eq word (codes "close") then Some Close
    else if bytes_eq word (codes "read") then Some Read
    else if bytes_eq word (codes "write") then Some Write
    else if bytes_eq word (codes "box-post") then Some BoxPost
    else if bytes_eq word (codes "box-serve") then Some BoxServe
    else if bytes_eq word (codes "box-collect") then Some BoxCollect
    else None

-- the verbs that merge volumes
unfoldable pub merge_verb : List ℕ → Option VerbWord
merge_verb word =
    if bytes_eq word (codes "prepare-merge") then Some PrepareMerge
    else if bytes_eq word (codes "merge") then Some Merge
    else if bytes_eq word (codes "finalize-merge") then Some FinalizeMerge
    else if bytes_eq word (codes "live-start") then Some LiveStart
    else if bytes_eq word (codes "live-fill") then Some LiveFill
    else if bytes_eq word (codes "live-sync") then Some LiveSync
    else if bytes_eq word (codes "live-pivot") then Some LivePivot
    else None

-- the verb of a word
abbrev pub verb_of : List ℕ → Option VerbWord
verb_of word = option_or (pool_verb word) (option_or (volume_verb word) (option_or (guest_verb word) (merge_verb word)))
