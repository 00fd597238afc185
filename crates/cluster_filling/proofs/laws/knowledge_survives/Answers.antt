use Rattle.cluster_filling.proofs.Survives.{cluster_down, cluster_grown, cluster_untouched, filling_kept}
use Rattle.cluster_filling.proofs.laws.knowledge_survives.Goals as goal

pub returns-clause-filling : goal.returns-clause-filling
returns-clause-filling g p c host x part room d e was now = filling_kept p c host x part room d e was now

pub returns-clause-untouched : goal.returns-clause-untouched
returns-clause-untouched g k c host x part done d e same others was = cluster_untouched k c host x part done d e same others was

pub returns-clause-down : goal.returns-clause-down
returns-clause-down g k c host other x part done d e apart down was = cluster_down k c host other x part done d e apart down was

pub returns-clause-grown : goal.returns-clause-grown
returns-clause-grown g k c host x part done d e grown lengths few was = cluster_grown k c host x part done d e few grown lengths was
