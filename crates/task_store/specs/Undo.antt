-- A step as a text has it: its kind and its values, words with one space between.
use Rattle.std.specs.Prelude.{ℕ, List, [], ◌∷◌, ◌++◌, codes, decimal}
use Rattle.sd_names.specs.Id.{IsIdBytes, id_text}
use Rattle.sd_names.specs.declared.id.Id.{Id}
use Rattle.task_store.specs.Values.{IsCapacity, IsDescription}
use Rattle.task_store.specs.declared.undo.Undo.{Undo}
use Rattle.task_store.specs.declared.undo.Undo.TheVariants.{RemoveImage, RemoveVolume, SetLeaf, DropDomain, FinishDelete, FinishRemove, FinishExtend, FinishDescribe}

abbrev pub kind_text : Undo → List ℕ
kind_text (RemoveImage _ _) = codes "RemoveImage"
kind_text (RemoveVolume _ _ _) = codes "RemoveVolume"
kind_text (SetLeaf _ _ _) = codes "SetLeaf"
kind_text (DropDomain _) = codes "DropDomain"
kind_text (FinishDelete _ _ _ _) = codes "FinishDelete"
kind_text (FinishRemove _ _) = codes "FinishRemove"
kind_text (FinishExtend _ _ _ _) = codes "FinishExtend"
kind_text (FinishDescribe _ _ _ _) = codes "FinishDescribe"

abbrev pub image_words : Id → Id → List (List ℕ) → List (List ℕ)
image_words sd image more = id_text sd.0 ∷ id_text image.0 ∷ more

abbrev pub volume_words : Id → Id → Id → List (List ℕ) → List (List ℕ)
volume_words sd image v more = image_words sd image (id_text v.0 ∷ more)

-- the words of its values
abbrev pub value_words : Undo → List (List ℕ)
value_words (RemoveImage sd image) = image_words sd image []
value_words (RemoveVolume sd image v) = volume_words sd image v []
value_words (SetLeaf sd image v) = volume_words sd image v []
value_words (DropDomain sd) = id_text sd.0 ∷ []
value_words (FinishDelete sd image v parent) = volume_words sd image v (id_text parent.0 ∷ [])
value_words (FinishRemove sd image) = image_words sd image []
value_words (FinishExtend sd image v capacity) = volume_words sd image v (decimal capacity ∷ [])
value_words (FinishDescribe sd image v word) = volume_words sd image v (word ∷ [])

-- words, each behind a space
abbrev pub spaced : List (List ℕ) → List ℕ
spaced [] = []
spaced (word ∷ words) = 32 ∷ word ++ spaced words

unfoldable pub undo_text : Undo → List ℕ
undo_text undo = kind_text undo ++ spaced (value_words undo)

-- a step whose capacity or description a script line can have
abbrev pub IsStep : Undo → Type 0
IsStep (FinishExtend sd image v capacity) = IsCapacity capacity
IsStep (FinishDescribe sd image v word) = IsDescription word
IsStep _ = Unit {0}

-- each identifier of a step has sixteen bytes, as every identifier of a program has
abbrev pub HasIds : Undo → Type 0
HasIds (RemoveImage sd image) = IsIdBytes sd.0 × IsIdBytes image.0
HasIds (RemoveVolume sd image v) = IsIdBytes sd.0 × IsIdBytes image.0 × IsIdBytes v.0
HasIds (SetLeaf sd image v) = IsIdBytes sd.0 × IsIdBytes image.0 × IsIdBytes v.0
HasIds (DropDomain sd) = IsIdBytes sd.0
HasIds (FinishDelete sd image v parent) = IsIdBytes sd.0 × IsIdBytes image.0 × IsIdBytes v.0 × IsIdBytes parent.0
HasIds (FinishRemove sd image) = IsIdBytes sd.0 × IsIdBytes image.0
HasIds (FinishExtend sd image v capacity) = IsIdBytes sd.0 × IsIdBytes image.0 × IsIdBytes v.0
HasIds (FinishDescribe sd image v word) = IsIdBytes sd.0 × IsIdBytes image.0 × IsIdBytes v.0
