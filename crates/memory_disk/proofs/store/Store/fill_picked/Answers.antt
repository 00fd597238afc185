use Rattle.memory_disk.proofs.store.Store.fill_picked.Goals as goal

pub returns-in-Old-clause-picks : goal.returns-in-Old-clause-picks
returns-in-Old-clause-picks c = (1, c.next.ensures.turned)
