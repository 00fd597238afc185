use Rattle.spm_role.proofs.Between.{none_between}
use Rattle.spm_role.proofs.laws.nobody_led_in_between.Goals as goal

pub returns : goal.returns
returns c first last moves is low same = none_between first last moves is low same
