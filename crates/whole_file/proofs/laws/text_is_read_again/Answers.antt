use Rattle.whole_file.proofs.Reading.{text_read_again}
use Rattle.whole_file.proofs.laws.text_is_read_again.Goals as goal

pub returns : goal.returns
returns c host text f fine is = text_read_again host text f fine is
