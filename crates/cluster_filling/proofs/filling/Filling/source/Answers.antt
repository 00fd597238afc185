use Rattle.std.proofs.Common.{inl}
use Rattle.cluster_filling.proofs.filling.Filling.source.Goals as goal

pub returns-else-is_read : goal.returns-else-is_read
returns-else-is_read c = inl (c.is_read.ensures c.if-is_read.false)
