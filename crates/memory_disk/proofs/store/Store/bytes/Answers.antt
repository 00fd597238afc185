use Rattle.std.proofs.Common.{◌≡◌, ◌*◌, ◌-◌, ◌+◌, min, length, drop, Some, ◌∙◌, below_more, subst, arith, ℕ}
use Rattle.std.proofs.lemmas.List.{drop-set-lt, get_or-set_other, get_or-set_same, length-set}
use Rattle.memory_disk.specs.Store.{found, file_of}
use Rattle.memory_disk.proofs.Contents.{file_at}
use Rattle.memory_disk.proofs.Placing.{drop_one}
use Rattle.memory_disk.proofs.store.Store.bytes.Goals as goal
use Rattle.memory_disk.proofs.store.Store.bytes.Goals.{then-left-into, else-left-into}

pub loop-i-preserved : goal.loop-i-preserved
loop-i-preserved c = record {
  len = length-set c.loop-i.into c.loop-i.i c.byte.result ∙ c.loop-i.invariant.len;
  told = below_more _ _ (λ j h. get_or-set_other c.loop-i.into c.loop-i.i j c.byte.result 0 (λ e. omega (arith, e, h)) ∙ c.loop-i.invariant.told j h)
      (get_or-set_same c.loop-i.into c.loop-i.i c.byte.result 0 (omega arith) ∙ c.byte.ensures);
  rest = drop-set-lt (c.loop-i.i + 1) c.loop-i.into c.loop-i.i c.byte.result (omega arith) ∙ drop_one c.loop-i.i c.loop-i.into c.args.into.now c.loop-i.invariant.rest;
}

pub returns : goal.returns
returns c =
    let at : found c.args.place 0 c.args.self.now.files.slots.items ≡ Some c.in-Some.found = cc in
    let end : c.loop-i.i ≡ c.if-left-into.count = omega arith in
    let count : c.if-left-into.count ≡ min (length c.args.into.now) (512 * c.in-Some.found.1.size - c.args.at) =
    elim c.if-left-into.branch [ then-left-into w ↦ omega arith | else-left-into w ↦ omega arith ] in (
      file_of c.args.self.now.stable c.args.self.now.log.items c.in-Some.found.0 c.in-Some.found.1,
      file_at c.args.self.now.dirs.items c.args.self.now.files.slots.items c.args.self.now.stable c.args.self.now.log.items c.args.place at,
      record {
        count_is = count;
        bytes = λ j h. c.loop-i.invariant.told j (omega arith);
        rest = subst (λ (n : ℕ). drop n c.loop-i.into ≡ drop n c.args.into.now) end c.loop-i.invariant.rest;
      },
    )
