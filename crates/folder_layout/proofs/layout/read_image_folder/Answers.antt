use Rattle.std.proofs.Common.{◌∙◌, length, ap, arith}
use Rattle.sd_names.proofs.IdLemmas.{id_text-length}
use Rattle.folder_layout.proofs.LayoutLemmas.{image_ids, removed_length, is_removed}
use Rattle.folder_layout.proofs.layout.read_image_folder.Goals as goal

pub returns-in-None-clause-refused : goal.returns-in-None-clause-refused
returns-in-None-clause-refused c = λ q is.
    image_ids c.args.sd.now c.args.text.now q is c.in-None.ensures.refused (λ image ids e. omega (arith, removed_length image c.args.text.now e, c.if-text-eq36.true))

pub returns-in-Some-read_removed_id-clause-inside : goal.returns-in-Some-read_removed_id-clause-inside
returns-in-Some-read_removed_id-clause-inside c =
    is_removed c.args.sd.now c.in-Some-read_removed_id.image c.args.text.now c.has_sixteen_bytes.ensures c.in-Some-read_removed_id.ensures.id c.in-Some-read_removed_id.ensures.text

pub returns-in-None-read_removed_id-clause-refused : goal.returns-in-None-read_removed_id-clause-refused
returns-in-None-read_removed_id-clause-refused c = λ q is.
    image_ids c.args.sd.now c.args.text.now q is (λ image ids e. c.if-text-eq36.false (ap length e ∙ id_text-length image.0)) c.in-None-read_removed_id.ensures.refused
