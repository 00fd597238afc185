-- The steps of the code that lends their words, as steps.
use Rattle.task_store.specs.declared.reading.Lent.{Lent}
use Rattle.task_store.specs.declared.reading.Lent.TheVariants as lent
use Rattle.task_store.specs.declared.undo.Undo.{Undo}
use Rattle.task_store.specs.declared.undo.Undo.TheVariants.{RemoveImage, RemoveVolume, SetLeaf, DropDomain, FinishDelete, FinishRemove, FinishExtend, FinishDescribe}

abbrev pub undo_shown : Lent → Undo
undo_shown (lent.RemoveImage sd image) = RemoveImage sd image
undo_shown (lent.RemoveVolume sd image v) = RemoveVolume sd image v
undo_shown (lent.SetLeaf sd image v) = SetLeaf sd image v
undo_shown (lent.DropDomain sd) = DropDomain sd
undo_shown (lent.FinishDelete sd image v parent) = FinishDelete sd image v parent
undo_shown (lent.FinishRemove sd image) = FinishRemove sd image
undo_shown (lent.FinishExtend sd image v capacity) = FinishExtend sd image v capacity
undo_shown (lent.FinishDescribe sd image v word) = FinishDescribe sd image v word.now
