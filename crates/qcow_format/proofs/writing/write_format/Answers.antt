use Rattle.std.proofs.Common.{◌≡◌, ◌+◌, ◌-◌, ◌∙◌, refl, arith}
use Rattle.qcow_format.specs.Bytes.{put}
use Rattle.qcow_format.proofs.Put.{length-format_bytes}
use Rattle.qcow_format.proofs.writing.write_format.Goals as goal

pub returns-clause-value : goal.returns-clause-value
unfolding put
returns-clause-value c =
    let written = c.copy_from_slice.ensures.after ∙ c.extension_of-extension.ensures in
    let size : c.args.at + 16 - c.args.at ≡ 16 = omega arith in
    rw (written, size, length-format_bytes c.args.format) refl
