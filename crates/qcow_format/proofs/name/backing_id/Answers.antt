use Rattle.std.proofs.Common.{◌≡◌, ℕ, ◌-◌, List, length, take, drop, true, sym, ap, ◌∙◌, subst, arith}
use Rattle.std.specs.Option.{is_some}
use Rattle.std.proofs.lemmas.List.{take_rest, length-take, length-drop}
use Rattle.sd_names.specs.Id.{id_of}
use Rattle.qcow_format.specs.Name.{last_part}
use Rattle.qcow_format.proofs.Kept.{named, found}
use Rattle.qcow_format.proofs.name.backing_id.Goals as goal

pub slice_bounds-last_part_of-count : goal.slice_bounds-last_part_of-count
slice_bounds-last_part_of-count c = let n = (named c.args.head.now c.args.header.now c.requires c.if-header-eq0.false).within in omega (arith, n)

pub slice_bounds-last_part_of-start : goal.slice_bounds-last_part_of-start
slice_bounds-last_part_of-start c = let n = (named c.args.head.now c.args.header.now c.requires c.if-header-eq0.false).within in omega (arith, n)

pub slice_bounds-last_part_of-end-2 : goal.slice_bounds-last_part_of-end-2
slice_bounds-last_part_of-end-2 c =
    let at : ℕ = c.args.header.now.backing_file_offset in
    let size : ℕ = c.args.header.now.backing_file_size in
    let bytes : List ℕ = c.args.head.now in
    let n = (named bytes c.args.header.now c.requires c.if-header-eq0.false).within in
    omega (arith, n, length-take size (take (length bytes - at) (drop at bytes)), length-take (length bytes - at) (drop at bytes), length-drop at bytes)

pub returns-clause-none : goal.returns-clause-none
returns-clause-none c =
    let at : ℕ = c.args.header.now.backing_file_offset in
    let size : ℕ = c.args.header.now.backing_file_size in
    let bytes : List ℕ = c.args.head.now in
    let n = (named bytes c.args.header.now c.requires c.if-header-eq0.false).id in
    let text = c.last_part_of.ensures ∙ ap (λ (part : List ℕ). last_part (take size part)) (take_rest bytes at) in
    found c.read.result (at ≡ 0) (subst (λ r. is_some r ≡ true) (sym (c.read.ensures.value ∙ ap id_of text)) n)
