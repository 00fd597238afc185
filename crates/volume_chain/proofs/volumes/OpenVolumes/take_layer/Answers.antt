use Rattle.std.proofs.Common.{◌≡◌, ◌<◌, length, slice_get, Some, get_or, arith}
use Rattle.std.proofs.lemmas.Option.{slice_get-get_or}
use Rattle.volume_chain.specs.declared.volumes.OpenVolume.TheVariants as open_volume
use Rattle.volume_chain.proofs.Places.{put_back}
use Rattle.volume_chain.proofs.volumes.OpenVolumes.take_layer.Goals as goal

pub returns-in-Raw-clause-none : goal.returns-in-Raw-clause-none
returns-in-Raw-clause-none c =
    let items = c.self.inside.volumes.items in
    let within : c.args.at < length items = omega (arith, c.if-at-len.false, c.len.ensures) in
    let stood = slice_get-get_or items c.args.at c.index_mut.result.now within in
    let value = c.index_mut.ensures.value in
    let was = c.in-Raw.ensures.value in
    let is = c.in-Raw.is in
    let here : slice_get items c.args.at ≡ Some (open_volume.Raw c.in-Raw.length) = cc in
    let back = put_back items c.args.at c.replace.new.dest (open_volume.Raw c.in-Raw.length) here in
    let view = c.self.view_is in
    cc

pub returns-in-Raw-clause-other : goal.returns-in-Raw-clause-other
returns-in-Raw-clause-other c layer at =
    let items = c.self.inside.volumes.items in
    let within : c.args.at < length items = omega (arith, c.if-at-len.false, c.len.ensures) in
    let stood = slice_get-get_or items c.args.at c.index_mut.result.now within in
    let value = c.index_mut.ensures.value in
    let was = c.in-Raw.ensures.value in
    let is = c.in-Raw.is in
    let here : slice_get items c.args.at ≡ Some (open_volume.Raw c.in-Raw.length) = cc in
    let view = c.self.view_is in
    let both : Some (open_volume.Raw c.in-Raw.length) ≡ Some (open_volume.Cow layer) = cc in
    absurd cc
