use Rattle.image_model.proofs.Longer.{longer_header, longer_sound, longer_used}
use Rattle.image_model.proofs.layer.longer_files_say_the_same.Goals as goal

pub returns-clause-header : goal.returns-clause-header
returns-clause-header c n m capacity s r h le same is = longer_header n m s r same capacity h le is

pub returns-clause-sound : goal.returns-clause-sound
returns-clause-sound c n m capacity s r le same sound = longer_sound n m s r same capacity le sound

pub returns-clause-used : goal.returns-clause-used
returns-clause-used c n m k s r h same = longer_used n m s r same h k
