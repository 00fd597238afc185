-- What each step of a scan of the leases file finds.
use Rattle.std.specs.Prelude.{◌≡◌, ◌⊎◌, ℕ, ◌+◌, ◌-◌, ◌*◌, ◌/◌, min, List, length, Some, None}
use Rattle.sd_names.specs.declared.id.Id.{Id}
use Rattle.sd_names.specs.declared.refusal.Refusal.TheVariants.{DiskFault}
use Rattle.sd_names.specs.declared.turn.Turn.{Turn}
use Rattle.sd_names.specs.Turn.{MatchTurn}
use Rattle.shared_disk.specs.Calls.{IsSame, ReadsAs}
use Rattle.shared_disk.specs.Content.{Content, File}
use Rattle.shared_disk.specs.Refusal.{refusal_of}
use Rattle.shared_disk.specs.declared.disk.DiskAnswer.TheVariants.{NoFile}
use Rattle.lease_area.specs.Hold.{leases_of}
use Rattle.lease_area.specs.Noted.{noted, sectors_of_step}
use Rattle.lease_area.specs.declared.scan.Scan.{Scan}
use Rattle.lease_area.specs.declared.scanned.Scanned.{Scanned}

-- a scan: of which domain, for which image, how many steps were made, and what was seen
abbrev pub scan_domain : Scan → Id
scan_domain s = s.sd

abbrev pub scan_image : Scan → Id
scan_image s = s.image

abbrev pub steps_made : Scan → ℕ
steps_made s = s.made

abbrev pub seen_by : Scan → Scanned
seen_by s = s.seen

-- how many more steps a scan takes
abbrev pub scan_left : Scan → ℕ
scan_left s = 8 - steps_made s

-- the same scan, one step further
pub record IsNext (s next : Scan) : Type 0 where
  pub sd : scan_domain next ≡ scan_domain s
  pub image : scan_image next ≡ scan_image s
  pub further : steps_made next ≡ steps_made s + 1

-- a step that has seen this: the eighth is the last
abbrev pub HasSeen : Scan → Scanned → Turn Scan Scanned (Unit {0}) → Type 0
HasSeen s seen turn = MatchTurn turn (λ next. IsNext s next × (seen_by next ≡ seen)) (λ scanned. (steps_made s ≡ 7) × (scanned ≡ seen)) (λ _ _. ⊥)

-- a scan is done in its eighth step
abbrev pub IsEighth : Scan → Turn Scan Scanned (Unit {0}) → Type 0
IsEighth s turn = MatchTurn turn (λ _. Unit {0}) (λ _. steps_made s ≡ 7) (λ _ _. Unit {0})

-- The part of the leases file that the step with this number, from 0, reads, as the host sees it: so many bytes. Before
-- it the scan has seen `seen`, and after it `now`: that, and what is to be seen in these bytes.
abbrev pub Looks : Id → Id → ℕ → ℕ → List ℕ → List ℕ → Scanned → Scanned → Content → Type 0
Looks sd image made host before room seen now d =
    (f : File) × (d.file (leases_of sd) ≡ Some f) × (count : ℕ) × (count ≡ min (length before) (512 * (f.size - sectors_of_step * made)))
    × ReadsAs host f (sectors_of_step * made) count before room
    × (now ≡ noted image (sectors_of_step * made) room (count / 512) seen)

-- a step of a scan; `faults` is the disk's count after it
abbrev pub ScanSteps : Scan → ℕ → ℕ → List ℕ → List ℕ → Turn Scan Scanned (Unit {0}) → Content → Content → Type 0
ScanSteps s host faults before room turn d e = IsSame d e × MatchTurn turn
    (λ next. Looks (scan_domain s) (scan_image s) (steps_made s) host before room (seen_by s) (seen_by next) d)
    (λ scanned. Looks (scan_domain s) (scan_image s) (steps_made s) host before room (seen_by s) scanned d)
    (λ _ refusal. (refusal ≡ DiskFault faults) ⊎ ((refusal ≡ refusal_of NoFile faults) × (d.file (leases_of (scan_domain s)) ≡ None)))
