-- Each part stands behind the parts before it, and zeros behind it.
use Rattle.std.proofs.Common.{ℕ, List, [], ◌∷◌, ◌++◌, ◌∙◌, replicate, refl, arith, codes, length-append}
use Rattle.mail_box.specs.Spelling.{message_bytes}
use Rattle.mail_box.proofs.message.Message.write.Goals as goal

pub returns : goal.returns
unfolding message_bytes
returns c =
    let s = c.args.self.now in
    let head : List ℕ = codes "xtnd" ++ s.status ∷ replicate 3 0 in
    let magic = c.put.ensures.part [] 60 64 refl refl refl in
    let status = c.put-2.ensures.part (codes "xtnd") 56 60 refl refl magic in
    let image = c.put-3.ensures.part head 40 56 refl (omega arith) status in
    let volume = c.put-4.ensures.part (head ++ s.image.0) 24 40 (omega (arith, length-append head s.image.0)) (omega arith) image in
    let long = c.put-5.ensures.part (head ++ s.image.0 ++ s.volume.0) 16 24 (omega (arith, length-append head s.image.0, length-append (head ++ s.image.0) s.volume.0)) (omega arith) volume in
    let mark = c.put-6.ensures.part (head ++ s.image.0 ++ s.volume.0 ++ c.to_be_bytes.result) 12 16 (omega (arith, length-append head s.image.0, length-append (head ++ s.image.0) s.volume.0, length-append (head ++ s.image.0 ++ s.volume.0) c.to_be_bytes.result)) (omega arith) long in
    mark ∙ rw (c.to_be_bytes.ensures, c.to_be_bytes-2.ensures) refl
