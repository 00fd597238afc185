use Rattle.layer_laws.proofs.Frames.{frame}
use Rattle.layer_laws.proofs.laws.frame.Goals as goal

pub returns : goal.returns
returns c n capacity p s s' h are is sound whole unnamed same = frame n capacity p s s' h are is sound whole same unnamed
