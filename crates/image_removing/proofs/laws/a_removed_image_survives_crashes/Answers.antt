use Rattle.std.proofs.Common.{◌∙◌}
use Rattle.sd_names.specs.declared.place.Dir.TheVariants as dir
use Rattle.image_removing.proofs.Kept.{no_files}
use Rattle.image_removing.proofs.laws.a_removed_image_survives_crashes.Goals as goal

pub returns-clause-gone : goal.returns-clause-gone
returns-clause-gone c sd image d o gone out = record { own = out.dirs (dir.Image sd image) ∙ gone.own; removed = out.dirs (dir.Removed sd image) ∙ gone.removed }

pub returns-clause-files : goal.returns-clause-files
returns-clause-files c sd image d q well gone inside = no_files sd image d q well gone inside
