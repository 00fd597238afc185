use Rattle.sd_names.specs.declared.place.Name.TheVariants as name
use Rattle.shared_disk.specs.NameCalls.{place_in}
use Rattle.chain_gathering.proofs.Alike.{some_of}
use Rattle.chain_gathering.proofs.Fewer.{no_more}
use Rattle.chain_gathering.proofs.laws.shown_texts_are_few.Goals as goal

pub returns : goal.returns
returns c dir d names vs all rising each = no_more vs names rising (λ v h. all (name.Meta v) (some_of (d.file (place_in dir (name.Meta v))) (each v h)))
