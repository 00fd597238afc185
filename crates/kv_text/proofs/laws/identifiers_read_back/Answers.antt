use Rattle.kv_text.proofs.ValuesBack.{this_id-id_text}
use Rattle.kv_text.proofs.laws.identifiers_read_back.Goals as goal

pub returns : goal.returns
returns c = this_id-id_text
