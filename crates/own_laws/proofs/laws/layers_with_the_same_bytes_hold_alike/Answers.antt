use Rattle.own_laws.proofs.Bytes.{bytes_hold}
use Rattle.own_laws.proofs.laws.layers_with_the_same_bytes_hold_alike.Goals as goal

pub returns-clause-bytes : goal.returns-clause-bytes
returns-clause-bytes c x h g f f' is now same k = bytes_hold x h g f f' k is now (λ i at. same i)

pub returns-clause-same : goal.returns-clause-same
returns-clause-same c x h f f' is now same k = bytes_hold x h h f f' k is now (λ i at. same.bytes i)
