-- What a step that reads sectors finds, in a leases file that is whole and has nothing unsynced.
use Rattle.std.proofs.Common.{◌≡◌, ◌≢◌, ℕ, ◌+◌, ◌-◌, ◌*◌, ◌/◌, ◌<◌, ◌≤◌, min, List, length, Option, Some, None, refl, sym, ap, ◌∙◌, subst, arith}
use Rattle.std.proofs.Math.Decide.{dec_lt}
use Rattle.shared_disk.specs.Calls.{ReadsAs}
use Rattle.shared_disk.specs.Content.{File, Sees, sector_of}
use Rattle.shared_disk.proofs.Toolkit.{sees_settled}
use Rattle.lease_area.specs.Record.{IsImageSlot}
use Rattle.lease_area.specs.Sector.{sector_bytes, sector_in}
use Rattle.lease_area.specs.declared.sector.Kind.TheVariants.{Task}
use Rattle.lease_area.specs.declared.sector.LeaseRecord.{LeaseRecord}
use Rattle.lease_area.specs.declared.sector.Sector.TheVariants.{Lease}
use Rattle.lease_area.proofs.First.{first_least, first_none}
use Rattle.image_creating.specs.Sectors.{IsArea}
use Rattle.image_clearing.proofs.Spelled.{spelled}
use Rattle.sector_freeing.specs.Finding.{least_task, task_of}
use Rattle.sector_freeing.specs.Inner.{base_of}
use Rattle.sector_freeing.specs.Knowing.{NoneBelow}
use Rattle.sector_freeing.proofs.Least.{found_at, none_at}

-- ---- the sectors of one step

step_in : (from : ℕ) → from < 1024 → 128 * (from / 128) + 128 ≤ 1024
step_in from high = omega (arith, high)

step_low : (from : ℕ) → 128 * (from / 128) ≤ from
step_low from = omega arith

step_at : (b : ℕ) → 512 * b / 512 ≡ b
step_at b = omega arith

pub step_next : (from : ℕ) → 128 * (from / 128) + 128 ≡ 128 * (from / 128 + 1)
step_next from = omega arith

whole_piece : (b size count len : ℕ) → b + 128 ≤ 1024 → size ≡ 1024 → len ≡ 65536 → count ≡ min len (512 * (size - b)) → count ≡ 65536
whole_piece b size count len within size_is len_is is = omega (arith, within, size_is, len_is, is)

in_piece : (k count : ℕ) → count ≡ 65536 → k < 128 → 512 * (k + 1) ≤ count
in_piece k count is below = omega (arith, is, below)

sectors_read : (count : ℕ) → count ≡ 65536 → count / 512 ≡ 128
sectors_read count is = omega (arith, is)

-- this sector of images is held for a task, with this lease, and none below it is
pub record IsLeastTask (slot : ℕ) (r : LeaseRecord) (f : File) : Type 0 where
  pub none : NoneBelow slot f
  pub slot_is : IsImageSlot slot
  pub bytes : f.stable slot ≡ sector_bytes (Lease r)
  pub reads : sector_in (sector_bytes (Lease r)) ≡ Some (Lease r)
  pub held : r.kind ≡ Task

-- what was found in the sectors of one step
abbrev pub IsFoundIn : ℕ → File → Option (ℕ × LeaseRecord) → Type 0
IsFoundIn from f None = NoneBelow (128 * (from / 128 + 1)) f
IsFoundIn from f (Some a) = IsLeastTask a.0 a.1 f

module _ (host from count : ℕ) (before room : List ℕ) (f : File) (low : 0 < from) (high : from < 1024) (area : IsArea f) (len : length before ≡ 65536)
    (count_is : count ≡ min (length before) (512 * (f.size - 512 * base_of from / 512))) (reads : ReadsAs host f (512 * base_of from / 512) count before room) where
  whole : count ≡ 65536
  whole = whole_piece (base_of from) f.size count (length before) (step_in from high) area.size len (subst (λ (a : ℕ). count ≡ min (length before) (512 * (f.size - a))) (step_at (base_of from)) count_is)

  bytes_read : (k : ℕ) → k < 128 → sector_of room k ≡ f.stable (base_of from + k)
  bytes_read k within =
      sees_settled host (base_of from + k) f (sector_of room k) area.settled
      (subst (λ (a : ℕ). Sees host f (a + k) (sector_of room k)) (step_at (base_of from)) (reads.sectors k (in_piece k count whole within)))

  abbrev task_here : ℕ → Option (ℕ × LeaseRecord)
  task_here j = task_of from (base_of from) room j

  -- a sector of this step in which no task was found
  none_here : (j k : ℕ) (r : LeaseRecord) → j < 128 → base_of from + j ≡ k → from ≤ k → task_here j ≡ None → sector_in (f.stable k) ≡ Some (Lease r) → r.kind ≢ Task
  none_here j k r within same above none is held =
      let there : sector_in (sector_of room j) ≡ Some (Lease r) = ap sector_in (bytes_read j within) ∙ ap (λ (x : ℕ). sector_in (f.stable x)) same ∙ is in
      let lower = none_at from (base_of from + j) (sector_in (sector_of room j)) r none there held in
      not_both (base_of from + j) k from same above lower
    where
      not_both : (a k from : ℕ) → a ≡ k → from ≤ k → a < from → ⊥
      not_both a k from same above lower = omega (arith, same, above, lower)

  none_to : (n : ℕ) → n ≤ 128 → ((j : ℕ) → j < n → task_here j ≡ None) → NoneBelow from f → NoneBelow (base_of from + n) f
  none_to n few none lower k r slot below is = elim (dec_lt k from) [ yes less ↦ lower k r slot less is | no above ↦ from_on (not_less k from above) ]
    where
      not_less : (a b : ℕ) → (a < b → ⊥) → b ≤ a
      not_less a b apart = elim (dec_lt a b) [ yes less ↦ absurd (apart less) | no more ↦ omega arith ]

      inside : (b k n : ℕ) → b ≤ k → k < b + n → k - b < n
      inside b k n above below = omega (arith, above, below)

      there : (b k : ℕ) → b ≤ k → b + (k - b) ≡ k
      there b k above = omega (arith, above)

      chain : (a b c : ℕ) → a ≤ b → b ≤ c → a ≤ c
      chain a b c first second = omega (arith, first, second)

      fits : (a n : ℕ) → a < n → n ≤ 128 → a < 128
      fits a n less few = omega (arith, less, few)

      from_on : from ≤ k → r.kind ≢ Task
      from_on above =
          let base = chain (base_of from) from k (step_low from) above in
          let less = inside (base_of from) k n base below in
          none_here (k - base_of from) k r (fits (k - base_of from) n less few) (there (base_of from) k base) above (none (k - base_of from) less) is

  none_read : least_task from (base_of from) room 128 ≡ None → NoneBelow from f → NoneBelow (128 * (from / 128 + 1)) f
  none_read none lower = subst (λ (n : ℕ). NoneBelow n f) (step_next from) (none_to 128 (omega arith) (first_none task_here 128 none) lower)

  some_read : (a : ℕ × LeaseRecord) → least_task from (base_of from) room 128 ≡ Some a → NoneBelow from f → IsLeastTask a.0 a.1 f
  some_read a some lower =
      let least = first_least task_here 128 a some in
      let found = found_at from (base_of from + least.k) (sector_in (sector_of room least.k)) a least.is in
      let lease_is : sector_in (f.stable a.0) ≡ Some (Lease a.1) = ap (λ (x : ℕ). sector_in (f.stable x)) found.number ∙ ap sector_in (sym (bytes_read least.k least.below)) ∙ found.lease in
      record {
        none = subst (λ (n : ℕ). NoneBelow n f) (sym found.number) (none_to least.k (below_all least.k least.below) least.before lower);
        slot_is = subst IsImageSlot (sym found.number) (record { low = higher from (base_of from + least.k) low found.low; high = inside (base_of from) least.k (step_in from high) least.below });
        bytes = spelled (f.stable a.0) a.1 lease_is;
        reads = ap sector_in (sym (spelled (f.stable a.0) a.1 lease_is)) ∙ lease_is;
        held = found.held;
      }
    where
      below_all : (k : ℕ) → k < 128 → k ≤ 128
      below_all k less = omega (arith, less)

      higher : (a b : ℕ) → 0 < a → a ≤ b → 0 < b
      higher a b some above = omega (arith, some, above)

      inside : (b k : ℕ) → b + 128 ≤ 1024 → k < 128 → b + k < 1024
      inside b k within less = omega (arith, within, less)

  found : (o : Option (ℕ × LeaseRecord)) → least_task from (base_of from) room 128 ≡ o → NoneBelow from f → IsFoundIn from f o
  found None none lower = none_read none lower
  found (Some a) some lower = some_read a some lower

  pub read_found : NoneBelow from f → IsFoundIn from f (least_task from (base_of from) room (count / 512))
  read_found lower =
      subst (λ (n : ℕ). IsFoundIn from f (least_task from (base_of from) room n)) (sym (sectors_read count whole)) (found (least_task from (base_of from) room 128) refl lower)
