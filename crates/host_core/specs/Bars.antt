-- What is decided before a verb begins.
use Rattle.std.specs.Prelude.{ℕ, List, Option, Some, None}
use Rattle.sd_names.specs.UpSet.{Hosts}
use Rattle.sd_names.specs.declared.refusal.Refusal.{Refusal}
use Rattle.sd_names.specs.declared.verb.Verb.{Verb as Said}
use Rattle.sd_names.specs.declared.verb.Verb.TheVariants as said
use Rattle.pool_model.specs.Bars.{Bar, Bars, FirstBar, NoBar}
use Rattle.pool_model.specs.Pool.{Pool}
use Rattle.pool_model.specs.State.{HostState, Kept}
use Rattle.host_core.specs.Knows.{HostKnows}
use Rattle.host_core.specs.Memory.{IsClearing, IsLeading, IsStopping, Leader, Memory}

-- one check: its refusal, or that it gives none
abbrev pub IsBarred : ℕ → Hosts → HostState → Bar → Pool → Option Refusal → Type 0
IsBarred h up x b p None = (e : Refusal) → Bars h up x b e p → ⊥
IsBarred h up x b p (Some e) = Bars h up x b e p

-- several: the refusal of the first that gives one, or that none does
abbrev pub AreBarred : ℕ → Hosts → HostState → List Bar → Pool → Option Refusal → Type 0
AreBarred h up x bs p None = NoBar h up x bs p
AreBarred h up x bs p (Some e) = FirstBar h up x bs e p

-- the verbs whose checks are decided: those of the pool, of the role and of tasks
abbrev pub IsDecided : Said → Type 0
IsDecided (said.MakePool pool sd version text) = Unit {0}
IsDecided (said.SpmStart sd prev lver) = Unit {0}
IsDecided said.SpmStop = Unit {0}
IsDecided said.Tasks = Unit {0}
IsDecided (said.ClearTask t) = Unit {0}
IsDecided said.Recover = Unit {0}
IsDecided _ = ⊥

-- What the checks ask of the pool: whether a task is there is asked of the manager's list, which has to say it truly. The
-- others ask the host alone.
abbrev pub BarsAsk : Said → Kept → Memory → Pool → Type 0
BarsAsk (said.ClearTask t) k x p = HostKnows k x p
BarsAsk _ k x p = Unit {0}

-- the host's memory is as the steps of the verb need it
abbrev pub IsReady : Said → Option Leader → Type 0
IsReady said.SpmStop leading = IsStopping leading
IsReady (said.ClearTask t) leading = IsClearing t leading
IsReady said.Tasks leading = IsLeading leading
IsReady _ leading = Unit {0}
