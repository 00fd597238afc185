-- The fields of a message and the bytes of its slot.
use Rattle.std.proofs.Common.{◌≡◌, ℕ, ◌+◌, ◌-◌, ◌<◌, List, [], ◌∷◌, ◌++◌, length, take, drop, replicate, refl, sym, ap, ◌∙◌, arith, ◌^◌, append_assoc, length-append, true, le-leb, Some, Option, nat_le, slice_index, codes}
use Rattle.std.proofs.lemmas.Slice.Eq.{bytes_eq-Decides}
use Rattle.std.proofs.lemmas.List.{append-nil}
use Rattle.byte_parts.proofs.Parts.{middle}
use Rattle.byteorder.specs.Endian.{big_bytes, big_number}
use Rattle.byteorder.specs.Numbers.{big_number-reads_back}
use Rattle.mail_box.specs.Spelling.{message_bytes, IsMessage, fields_of, message_of}
use Rattle.mail_box.specs.declared.message.Message.{Message}

middle-two : (front part a b : List ℕ) (n k : ℕ) → length front ≡ n → length part ≡ k → take k (drop n (front ++ part ++ a ++ b)) ≡ part
middle-two front part a b n k h g =
    ap (λ (l : List ℕ). take k (drop n l)) (append_assoc (front ++ part) a b) ∙ middle front part (a ++ b) n k h g

middle-three : (front part a b c : List ℕ) (n k : ℕ) → length front ≡ n → length part ≡ k → take k (drop n (front ++ part ++ a ++ b ++ c)) ≡ part
middle-three front part a b c n k h g =
    ap (λ (l : List ℕ). take k (drop n l)) (append_assoc (front ++ part ++ a) b c) ∙ middle-two front part a (b ++ c) n k h g

middle-four : (front part a b c d : List ℕ) (n k : ℕ) → length front ≡ n → length part ≡ k → take k (drop n (front ++ part ++ a ++ b ++ c ++ d)) ≡ part
middle-four front part a b c d n k h g =
    ap (λ (l : List ℕ). take k (drop n l)) (append_assoc (front ++ part ++ a ++ b) c d) ∙ middle-three front part a b (c ++ d) n k h g

number_back : (n x : ℕ) (bytes : List ℕ) → x < 256 ^ n → bytes ≡ big_bytes n x → big_number n bytes ≡ x
number_back n x bytes h e =
    ap (big_number n) (e ∙ sym (append-nil (big_bytes n x))) ∙ big_number-reads_back n x [] h

-- the fields stand at their places
module _ (m : Message) (is : IsMessage m) where
  head : List ℕ
  head = codes "xtnd" ++ m.status ∷ replicate 3 0

  image_back : take 16 (drop 8 (message_bytes m)) ≡ m.image.0
  unfolding message_bytes head
  image_back = middle-four head m.image.0 m.volume.0 (big_bytes 8 m.length) (big_bytes 4 m.mark) (replicate 12 0) 8 16 refl is.image

  volume_back : take 16 (drop 24 (message_bytes m)) ≡ m.volume.0
  unfolding message_bytes head
  volume_back = middle-three (head ++ m.image.0) m.volume.0 (big_bytes 8 m.length) (big_bytes 4 m.mark) (replicate 12 0) 24 16 (omega (arith, length-append head m.image.0, is.image)) is.volume

  length_back : take 8 (drop 40 (message_bytes m)) ≡ big_bytes 8 m.length
  unfolding message_bytes head
  length_back = middle-two (head ++ m.image.0 ++ m.volume.0) (big_bytes 8 m.length) (big_bytes 4 m.mark) (replicate 12 0) 40 8 (omega (arith, length-append (head ++ m.image.0) m.volume.0, length-append head m.image.0, is.image, is.volume)) refl

  mark_back : take 4 (drop 48 (message_bytes m)) ≡ big_bytes 4 m.mark
  unfolding message_bytes head
  mark_back = middle (head ++ m.image.0 ++ m.volume.0 ++ big_bytes 8 m.length) (big_bytes 4 m.mark) (replicate 12 0) 48 4 (omega (arith, length-append (head ++ m.image.0 ++ m.volume.0) (big_bytes 8 m.length), length-append (head ++ m.image.0) m.volume.0, length-append head m.image.0, is.image, is.volume)) refl

  status_back : slice_index (message_bytes m) 4 ≡ m.status
  unfolding message_bytes
  status_back = refl

-- the record from its parts
same_message : (a b : Message) → a.status ≡ b.status → a.image.0 ≡ b.image.0 → a.volume.0 ≡ b.volume.0 → a.length ≡ b.length → a.mark ≡ b.mark → a ≡ b
same_message a b p q r s t = λ i. record {
  status = p i;
  image = record { 0 = q i };
  volume = record { 0 = r i };
  length = s i;
  mark = t i;
}

pub fields_of-message_bytes : (m : Message) → IsMessage m → fields_of (message_bytes m) ≡ m
fields_of-message_bytes m is = same_message (fields_of (message_bytes m)) m (status_back m is) (image_back m is) (volume_back m is) (number_back 8 m.length _ is.len (length_back m is)) (number_back 4 m.mark _ is.mark (mark_back m is))

pub message_of-message_bytes : (m : Message) → IsMessage m → message_of (message_bytes m) ≡ Some m
message_of-message_bytes m is =
    let same = (bytes_eq-Decides (message_bytes (fields_of (message_bytes m))) (message_bytes m)).1 (ap message_bytes (fields_of-message_bytes m is)) in
    let low : nat_le (fields_of (message_bytes m)).status 2 ≡ true = le-leb (fields_of (message_bytes m)).status 2 (rw (status_back m is) is.status) in
    rw (low, same) (ap {B = Option Message} Some (fields_of-message_bytes m is))
