use Rattle.std.proofs.Common.{◌≡◌, map, take}
use Rattle.script_loop.specs.Script.{script_of}
use Rattle.script_loop.proofs.script.text_of.Given as goal

abbrev pub invariant-loop-line : goal.invariant-loop-line
invariant-loop-line l = l.text.items ≡ script_of (map (λ line. line.now) (take l.line-index l.lines))
