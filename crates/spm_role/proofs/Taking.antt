-- The exchange of the last step, of which the disk tells one content after it.
use Rattle.std.proofs.Common.{◌≡◌, ℕ, List, Option, Some, Result, sym, subst, ◌∙◌}
use Rattle.std.specs.Prelude.{MatchResult}
use Rattle.std.proofs.lemmas.Option.{same_Some}
use Rattle.sd_names.specs.UpSet.{Hosts}
use Rattle.sd_names.specs.declared.refusal.Refusal.{Refusal}
use Rattle.sd_names.specs.declared.turn.Turn.{Turn}
use Rattle.shared_disk.specs.Content.{Content}
use Rattle.lease_area.specs.Hold.{ByOneExchange, Stands, Takes, role_answer, role_answer_to}
use Rattle.lease_area.specs.Move.{next_sector, role_taken}
use Rattle.lease_area.specs.declared.sector.LeaseRecord.{LeaseRecord}
use Rattle.lease_area.specs.declared.sector.Sector.{Sector}
use Rattle.spm_role.specs.Start.{EndsBy, IsManagerBy, TakesRole, domain_of}
use Rattle.spm_role.specs.declared.spm.Spm.{Spm}
use Rattle.spm_role.specs.declared.start.SpmStart.{SpmStart}

pub takes : (s : SpmStart) (x : Sector) (host : ℕ) (up : Hosts) (faults : ℕ) (turn : Turn SpmStart Spm (Unit {0})) (taken : Result LeaseRecord Refusal) (d e f : Content) (told : Option Content)
    → told ≡ Some e → ByOneExchange host (domain_of s) 0 x (next_sector (role_taken up host x) x) (role_answer_to up host x faults) taken d e
    → told ≡ Some f → ((bytes : List ℕ) → Stands d (domain_of s) 0 bytes → Takes (domain_of s) 0 (role_answer up host x bytes) faults taken d f)
    → MatchResult taken (IsManagerBy turn) (EndsBy turn) → TakesRole s x host up faults turn d e
takes s x host up faults turn taken d e f told first by second leaves follows =
    let same : f ≡ e = same_Some f e (sym second ∙ first) in
    (taken, by, λ bytes stands. subst (λ (c : Content). Takes (domain_of s) 0 (role_answer up host x bytes) faults taken d c) same (leaves bytes stands), follows)
