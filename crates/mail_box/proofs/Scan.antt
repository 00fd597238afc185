-- One slot more or less.
use Rattle.std.proofs.Common.{◌≡◌, ℕ, suc, ◌+◌, ◌-◌, ◌<◌, ◌≤◌, Bool, true, false, cond, length, Option, List, [], ◌∷◌, Some, None, ap, ◌∙◌, arith, option_map}
use Rattle.std.specs.List.{filter_map, range_with_len, cons_option}
use Rattle.mail_box.specs.declared.message.Message.{Message}
use Rattle.mail_box.specs.Slots.{slot_at, is_sealed}
use Rattle.mail_box.specs.Spelling.{message_of, message_at, messages_from, messages_of}

messages_from-step : (slots : List (List ℕ)) (k : ℕ) → k < 63 → messages_from slots k ≡ cons_option (message_at slots k) (messages_from slots (k + 1))
messages_from-step slots k h =
    let e : 63 - k ≡ suc (63 - (k + 1)) = omega arith in
    ap (λ (n : ℕ). filter_map (message_at slots) (range_with_len k n)) e

pub messages_from-some : (slots : List (List ℕ)) (k : ℕ) (m : Message) → k < 63 → message_of (slot_at slots k) ≡ Some m → messages_from slots k ≡ (k, m) ∷ messages_from slots (k + 1)
messages_from-some slots k m h e =
    messages_from-step slots k h ∙ ap (λ o. cons_option (option_map (λ (m : Message). (k, m)) o) (messages_from slots (k + 1))) e

pub messages_from-none : (slots : List (List ℕ)) (k : ℕ) → k < 63 → message_of (slot_at slots k) ≡ None → messages_from slots k ≡ messages_from slots (k + 1)
messages_from-none slots k h e =
    messages_from-step slots k h ∙ ap (λ o. cons_option (option_map (λ (m : Message). (k, m)) o) (messages_from slots (k + 1))) e

-- there are no more messages than slots
cons_option-length : {X : Type 0} (o : Option X) (xs : List X) → length (cons_option o xs) ≤ suc (length xs)
cons_option-length None xs = omega arith
cons_option-length (Some x) xs = omega arith

filter_map-length : {X Y : Type 0} (h : X → Option Y) (xs : List X) → length (filter_map h xs) ≤ length xs
filter_map-length h [] = omega arith
filter_map-length h (x ∷ xs) =
    let e = cons_option-length (h x) (filter_map h xs) in let f = filter_map-length h xs in omega (arith, e, f)

pub messages_of-length : (slots : List (List ℕ)) → length (messages_of slots) ≤ 63
messages_of-length slots = go (is_sealed slots)
  where
    go : (sealed : Bool) → length (cond sealed (messages_from slots 0) []) ≤ 63
    go true = filter_map-length (message_at slots) (range_with_len 0 63)
    go false = omega arith
