use Rattle.chain_model.proofs.Texts.{text_seen, text_whole}
use Rattle.chain_model.proofs.chain.stored_texts_are_read.Goals as goal

pub returns-clause-seen : goal.returns-clause-seen
returns-clause-seen c = text_seen

pub returns-clause-whole : goal.returns-clause-whole
returns-clause-whole c = text_whole
