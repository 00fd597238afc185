use Rattle.std.proofs.Common.{◌≡◌, ◌+◌, ◌*◌, ◌<◌, ◌≤◌, ◌++◌, map, length, take}
use Rattle.kv_text.specs.Text.{lines}
use Rattle.domain_meta.specs.Checksum.{covered_of}
use Rattle.domain_meta.proofs.checksum.covered.Given as goal

-- the lines so far and those that are left are all; each of the former has a byte and a line feed
abbrev pub invariant-loop-rest : goal.invariant-loop-rest
invariant-loop-rest l =
    record {
      lines : map (λ line. line.now) (take l.count l.found) ++ covered_of (lines l.rest) ≡ covered_of (lines l.text);
      room : 0 < length l.rest → 2 * l.count + length l.rest ≤ length l.text;
      count : l.count ≤ 4096;
      size : length l.found ≡ 4096;
    }

abbrev pub decreases-loop-rest : goal.decreases-loop-rest
decreases-loop-rest l = length l.rest
