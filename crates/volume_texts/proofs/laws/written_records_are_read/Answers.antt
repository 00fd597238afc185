use Rattle.volume_texts.proofs.ReadBack.{text_says}
use Rattle.volume_texts.proofs.laws.written_records_are_read.Goals as goal

pub returns : goal.returns
returns c version r f legible is = text_says version r f legible is
