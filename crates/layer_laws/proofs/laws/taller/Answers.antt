use Rattle.layer_laws.proofs.Sound.{clean_of, sound_of}
use Rattle.layer_laws.proofs.Capacities.{clean_taller, header_taller, name_taller}
use Rattle.layer_laws.proofs.laws.taller.Goals as goal

pub returns : goal.returns
returns c file capacity larger h is sound le fits =
    let clean = clean_of file capacity h is sound in
    let header = header_taller file capacity larger h is fits in
    (header, sound_of file larger h header (clean_taller file capacity larger h le clean), name_taller file capacity larger h le clean)
