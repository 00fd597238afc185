use Rattle.chain_gathering.proofs.Texts.{texts_rise}
use Rattle.chain_gathering.proofs.laws.id_texts_are_in_order.Goals as goal

pub returns : goal.returns
returns c a b rest more is_a is_b less = texts_rise a b rest more is_a is_b less
