-- Each part stands behind the parts before it, and zeros behind it.
use Rattle.std.proofs.Common.{ℕ, List, [], ◌∷◌, ◌++◌, ◌∙◌, replicate, refl, arith, codes, length-append}
use Rattle.lease_area.specs.Sector.{record_bytes}
use Rattle.lease_area.proofs.sector.spelled.Goals as goal

pub returns : goal.returns
unfolding record_bytes
returns c =
    let head : List ℕ = codes "LEAS" ++ c.code_of.result ∷ c.args.owner ∷ replicate 2 0 in
    let magic = c.put.ensures.part [] 508 512 refl refl refl in
    let kind = c.put-2.ensures.part (codes "LEAS") 504 508 refl refl magic in
    let version = c.put-3.ensures.part head 496 504 refl (omega arith) kind in
    let image = c.put-4.ensures.part (head ++ c.to_be_bytes.result) 480 496 (omega (arith, length-append head c.to_be_bytes.result)) (omega arith) version in
    image ∙ rw (c.code_of.ensures, c.to_be_bytes.ensures) refl
