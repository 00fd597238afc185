-- The lines of a script, one after the other, and their replies.
-- Claim: the replies of a session are those of such a run, whose last state the disk stands for.
use Rattle.std.specs.Prelude.{◌≡◌, ℕ, ◌+◌, ◌<◌, ◌≤◌, true, false, List, [], ◌∷◌, length, slice_set, Option, Some, None, Result, Ok, Err}
use Rattle.std.specs.List.{count_by}
use Rattle.sd_names.specs.UpSet.{Hosts, is_up}
use Rattle.sd_names.specs.declared.refusal.Refusal.{Refusal}
use Rattle.sd_names.specs.declared.refusal.Refusal.TheVariants.{DiskFault, HostBusy, HostDown, HostIdle, HostUp, OutOfMemory, TooManyHosts}
use Rattle.sd_names.specs.declared.verb.Verb.{Verb as Said}
use Rattle.script_lines.specs.declared.event.Line.{Line}
use Rattle.script_lines.specs.declared.event.Line.TheVariants as line
use Rattle.script_lines.specs.declared.reply.Reply.{Reply}
use Rattle.script_lines.specs.declared.reply.Reply.TheVariants as reply
use Rattle.shared_disk.specs.Calls.{Rose}
use Rattle.pool_model.specs.Bars.{Begins}
use Rattle.pool_model.specs.Downs.{DownPool}
use Rattle.pool_model.specs.Pool.{Pool}
use Rattle.pool_model.specs.State.{HostState, Running, State, booted}
use Rattle.pool_model.specs.Turns.{Answer, HostTurns, done, more, refused}
use Rattle.pool_model.specs.Verb.{verb_said}

-- ---- replies

abbrev pub reply_of : Answer → Reply
reply_of more = reply.More
reply_of (done payload bytes) = reply.Done payload
reply_of (refused e) = reply.Refused e

abbrev pub bytes_in : Answer → List ℕ
bytes_in more = []
bytes_in (done payload bytes) = bytes
bytes_in (refused e) = []

abbrev pub IsLast : Answer → Type 0
IsLast more = ⊥
IsLast (done payload bytes) = Unit {0}
IsLast (refused e) = Unit {0}

-- The disk's count of faults before and after a step: a fault is answered with the new count, and only where it rose.
abbrev pub CountedRefusal : Refusal → ℕ → ℕ → Type 0
CountedRefusal (DiskFault n) before after = Rose before after × (n ≡ after)
CountedRefusal e before after = after ≡ before

abbrev pub Counted : Answer → ℕ → ℕ → Type 0
Counted more before after = after ≡ before
Counted (done payload bytes) before after = after ≡ before
Counted (refused e) before after = CountedRefusal e before after

-- ---- moves of the whole state

-- the pool, the hosts that are up, and what this host keeps; all else is as before
pub record Becomes (s : State) (h : ℕ) (p : Pool) (up : Hosts) (x : HostState) (t : State) : Type 0 where
  pub pool : t.pool ≡ p
  pub moment : t.moment ≡ s.moment
  pub up_is : t.up ≡ up
  pub here : t.host h ≡ x
  pub others : (g : ℕ) → (g ≡ h → ⊥) → t.host g ≡ s.host g

-- a step of a host
abbrev pub Step : ℕ → State → Answer → State → Type 0
Step h s answer t = (y : HostState) × ((q : Pool) × HostTurns h s.up (s.host h) s.pool answer y q × Becomes s h q s.up y t)

-- so many steps of a host, of which each but the last left more to do, and the count of faults before and after them
pub data Steps (h : ℕ) : ℕ → State → ℕ → Answer → State → ℕ → Type 0 where
  last : {s t : State} {answer : Answer} {before after : ℕ} → Step h s answer t → Counted answer before after → Steps h 1 s before answer t after
  next : {s o t : State} {answer : Answer} {n before after : ℕ} → Step h s more o → Steps h n o before answer t after → Steps h (n + 1) s before answer t after

abbrev pub IsRunning : State → ℕ → Type 0
IsRunning s h = (run : Running) × ((s.host h).running ≡ Some run)

abbrev pub IsResting : State → ℕ → Type 0
IsResting s h = (s.host h).running ≡ None

abbrev pub BeginsAt : ℕ → Said → State → Result (Unit {0}) Refusal → State → Type 0
BeginsAt h v s result t = (y : HostState) × Begins h s.up s.moment (verb_said v) (s.host h) s.pool result y × Becomes s h s.pool s.up y t

-- as many hosts are up as there may be
abbrev pub most_hosts : ℕ
most_hosts = 16

abbrev pub hosts_up : State → ℕ
hosts_up s = count_by (λ b. b) s.up

-- ---- a line: its reply, the bytes that it gives, and the count of faults before and after it

pub data Moves : Line → State → ℕ → Option Reply → List ℕ → State → ℕ → Type 0 where
  silent : {s : State} {n : ℕ} → Moves line.Silent s n None [] s n
  wrong : {s : State} {n : ℕ} {e : Refusal} → Moves (line.Refused e) s n (Some (reply.Refused e)) [] s n
  -- boot
  boot_up : {s : State} {n h : ℕ} → is_up s.up h ≡ true → Moves (line.Boot h) s n (Some (reply.Refused HostUp)) [] s n
  boot_many : {s : State} {n h : ℕ} → is_up s.up h ≡ false → most_hosts ≤ hosts_up s → Moves (line.Boot h) s n (Some (reply.Refused TooManyHosts)) [] s n
  boot_memory : {s : State} {n h : ℕ} → is_up s.up h ≡ false → hosts_up s < most_hosts → Moves (line.Boot h) s n (Some (reply.Refused OutOfMemory)) [] s n
  boot : {s t : State} {n h : ℕ} → is_up s.up h ≡ false → hosts_up s < most_hosts → Becomes s h s.pool (slice_set s.up h true) booted t
      → Moves (line.Boot h) s n (Some reply.Plain) [] t n
  -- down
  down_down : {s : State} {n h : ℕ} → is_up s.up h ≡ false → Moves (line.Down h) s n (Some (reply.Refused HostDown)) [] s n
  down : {s t : State} {n h : ℕ} (q : Pool) → is_up s.up h ≡ true → DownPool h s.pool q → Becomes s h q (slice_set s.up h false) booted t
      → Moves (line.Down h) s n (Some reply.Plain) [] t n
  -- step and end
  step_down : {s : State} {n h count : ℕ} → is_up s.up h ≡ false → Moves (line.Step h count) s n (Some (reply.Refused HostDown)) [] s n
  step_idle : {s : State} {n h count : ℕ} → is_up s.up h ≡ true → IsResting s h → Moves (line.Step h count) s n (Some (reply.Refused HostIdle)) [] s n
  step_more : {s t : State} {n m h count : ℕ} → is_up s.up h ≡ true → Steps h count s n more t m → Moves (line.Step h count) s n (Some reply.More) [] t m
  step_last : {s t : State} {n m h count : ℕ} (k : ℕ) (a : Answer) → is_up s.up h ≡ true → k ≤ count → IsLast a → Steps h k s n a t m
      → Moves (line.Step h count) s n (Some (reply_of a)) (bytes_in a) t m
  end_down : {s : State} {n h : ℕ} → is_up s.up h ≡ false → Moves (line.End h) s n (Some (reply.Refused HostDown)) [] s n
  end_idle : {s : State} {n h : ℕ} → is_up s.up h ≡ true → IsResting s h → Moves (line.End h) s n (Some (reply.Refused HostIdle)) [] s n
  end : {s t : State} {n m h : ℕ} (k : ℕ) (a : Answer) → is_up s.up h ≡ true → IsLast a → Steps h k s n a t m
      → Moves (line.End h) s n (Some (reply_of a)) (bytes_in a) t m
  -- begin
  begin_down : {s : State} {n h : ℕ} {v : Said} → is_up s.up h ≡ false → Moves (line.Begin h v) s n (Some (reply.Refused HostDown)) [] s n
  begin_busy : {s : State} {n h : ℕ} {v : Said} → is_up s.up h ≡ true → IsRunning s h → Moves (line.Begin h v) s n (Some (reply.Refused HostBusy)) [] s n
  begin_barred : {s t : State} {n h : ℕ} {v : Said} (e : Refusal) → is_up s.up h ≡ true → IsResting s h → BeginsAt h v s (Err e) t
      → Moves (line.Begin h v) s n (Some (reply.Refused e)) [] t n
  begin : {s t : State} {n h : ℕ} {v : Said} → is_up s.up h ≡ true → IsResting s h → BeginsAt h v s (Ok tt) t
      → Moves (line.Begin h v) s n (Some reply.Begun) [] t n
  -- a whole verb
  whole_down : {s : State} {n h : ℕ} {v : Said} → is_up s.up h ≡ false → Moves (line.Whole h v) s n (Some (reply.Refused HostDown)) [] s n
  whole_busy : {s : State} {n h : ℕ} {v : Said} → is_up s.up h ≡ true → IsRunning s h → Moves (line.Whole h v) s n (Some (reply.Refused HostBusy)) [] s n
  whole_barred : {s t : State} {n h : ℕ} {v : Said} (e : Refusal) → is_up s.up h ≡ true → IsResting s h → BeginsAt h v s (Err e) t
      → Moves (line.Whole h v) s n (Some (reply.Refused e)) [] t n
  whole : {s o t : State} {n m h : ℕ} {v : Said} (k : ℕ) (a : Answer) → is_up s.up h ≡ true → IsResting s h → BeginsAt h v s (Ok tt) o
      → IsLast a → Steps h k o n a t m → Moves (line.Whole h v) s n (Some (reply_of a)) (bytes_in a) t m

-- as many numbers as there are of hosts, with 0, which is none
abbrev pub host_numbers : ℕ
host_numbers = 251

-- The first state: the pool that the disk stands for, with no host up, and room for each.
pub record IsFirst (s : State) (p : Pool) (moment : ℕ) : Type 0 where
  pub pool : s.pool ≡ p
  pub moment_is : s.moment ≡ moment
  pub size : length s.up ≡ host_numbers
  pub none : (h : ℕ) → is_up s.up h ≡ false
  pub known : (h : ℕ) → s.host h ≡ booted

-- a run over lines, with what each gave
pub data Runs : List Line → State → ℕ → List (Option Reply × List ℕ) → State → ℕ → Type 0 where
  none : {s : State} {n : ℕ} → Runs [] s n [] s n
  next : {l : Line} {ls : List Line} {s o t : State} {n m k : ℕ} {r : Option Reply} {bytes : List ℕ} {rs : List (Option Reply × List ℕ)}
      → Moves l s n r bytes o m → Runs ls o m rs t k → Runs (l ∷ ls) s n ((r, bytes) ∷ rs) t k
