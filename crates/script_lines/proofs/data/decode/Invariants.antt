use Rattle.std.proofs.Common.{◌≡◌, ◌≤◌, length, take, Some}
use Rattle.std.specs.List.{slice_split}
use Rattle.script_lines.specs.Data.{is_plus, appended, parts_of}
use Rattle.script_lines.proofs.data.decode.Given as goal

abbrev pub invariant-parts : goal.invariant-parts
invariant-parts l = record {
  within : l.count ≤ 65536;
  room : length l.into ≡ 65536;
  laid : parts_of (slice_split is_plus l.fn.word) ≡ appended (Some (take l.count l.into)) (parts_of (slice_split is_plus l.rest));
}

abbrev pub decreases-parts : goal.decreases-parts
decreases-parts l = length l.rest
