-- Bytes above the space: what a word is made of. They are no space, no line feed and no zero.
use Rattle.std.proofs.Common.{◌≡◌, ◌⊎◌, inl, inr, ℕ, ◌<◌, ◌^◌, true, false, List, [], ◌∷◌, ◌++◌, get_or, refl, ap, ◌∙◌, arith, decimal, codes, All, ltb}
use Rattle.std.specs.Char.{is_ascii_digit, is_ascii_graphic}
use Rattle.std.specs.List.{list_all, slice_split}
use Rattle.std.proofs.lemmas.Bool.{ltb-true}
use Rattle.std.proofs.lemmas.Bool.Decides.{nat_tests}
use Rattle.std.proofs.lemmas.Fmt.{digits_decimal}
use Rattle.std.proofs.lemmas.List.Elements.{All-nil, All-cons, All-head, All-tail, All-append, All-from_get_or, All-from_recursion, All-weaker}
use Rattle.std.proofs.lemmas.List.{append-nil}
use Rattle.std.proofs.lemmas.List.Splits.{slice_split_at, slice_split_none}
use Rattle.std.proofs.lemmas.List.Folds.{list_any_none}
use Rattle.std.proofs.lemmas.List.Sums.{AllPass-from_list_all}
use Rattle.sd_names.specs.Id.{id_text}
use Rattle.sd_names.proofs.IdLemmas.{id_text-length, id_text-apart}
use Rattle.decimal_numbers.proofs.NumberLemmas.{own}
use Rattle.kv_text.specs.Text.{IsOneLine, is_line_feed}
use Rattle.task_store.specs.Parts.{is_byte}
use Rattle.task_store.specs.Undo.{IsStep, kind_text, spaced, undo_text, value_words}
use Rattle.task_store.specs.Values.{IsDescription}
use Rattle.task_store.specs.declared.undo.Undo.{Undo}
use Rattle.task_store.specs.declared.undo.Undo.TheVariants.{RemoveImage, RemoveVolume, SetLeaf, DropDomain, FinishDelete, FinishRemove, FinishExtend, FinishDescribe}

abbrev pub IsWord : List ℕ → Type 0
IsWord word = All (λ c. 32 < c) word

id_byte : (c : ℕ) → (47 < c) ⊎ (c ≡ 45) → 32 < c
id_byte c (inl h) = omega arith
id_byte c (inr h) = omega arith

pub id_word : (bytes : List ℕ) → IsWord (id_text bytes)
id_word bytes =
    All-from_get_or (λ (c : ℕ). 32 < c) (id_text bytes) 0
    (λ k within. id_byte (get_or (id_text bytes) k 0) (id_text-apart bytes k (rw (← id_text-length bytes) within)))

digit_byte : (c : ℕ) → is_ascii_digit c ≡ true → 32 < c
digit_byte c h = grind (arith, nat_tests)

graphic_byte : (c : ℕ) → is_ascii_graphic c ≡ true → 32 < c
graphic_byte c h = grind (arith, nat_tests)

pub decimal_word : (n : ℕ) → n < 2 ^ 64 → IsWord (decimal n)
decimal_word n h =
    let digits = AllPass-from_list_all is_ascii_digit (decimal n) (digits_decimal own n h) in
    All-from_get_or (λ (c : ℕ). 32 < c) (decimal n) 0 (λ k within. digit_byte (get_or (decimal n) k 0) (digits k 0 within))

pub description_word : (word : List ℕ) → IsDescription word → IsWord word
description_word word is =
    let printed = AllPass-from_list_all is_ascii_graphic word is.printed in
    All-from_get_or (λ (c : ℕ). 32 < c) word 0 (λ k within. graphic_byte (get_or word k 0) (printed k 0 within))

no_space : (c : ℕ) → 32 < c → is_byte 32 c ≡ false
no_space c h = grind (arith, nat_tests)

no_line_feed : (c : ℕ) → 31 < c → is_line_feed c ≡ false
no_line_feed c h = grind (arith, nat_tests)

pub spaceless : (word : List ℕ) → IsWord word → All (λ c. is_byte 32 c ≡ false) word
spaceless word all = All-weaker (λ c. 32 < c) (λ c. is_byte 32 c ≡ false) no_space word all

-- bytes from the space on, as a step's value has them
abbrev pub IsPrinted : List ℕ → Type 0
IsPrinted bytes = All (λ c. 31 < c) bytes

at_least : (c : ℕ) → 32 < c → 31 < c
at_least c h = omega arith

pub printed : (word : List ℕ) → IsWord word → IsPrinted word
printed word all = All-weaker (λ c. 32 < c) (λ c. 31 < c) at_least word all

pub one_line : (bytes : List ℕ) → IsPrinted bytes → IsOneLine bytes
one_line bytes all =
    list_any_none is_line_feed bytes (All-weaker (λ c. 31 < c) (λ c. is_line_feed c ≡ false) no_line_feed bytes all)

-- a word that is written out
pub tested : (word : List ℕ) → list_all (λ c. ltb 32 c) word ≡ true → IsWord word
tested word h =
    let all = AllPass-from_list_all (λ c. ltb 32 c) word h in
    All-from_get_or (λ (c : ℕ). 32 < c) word 0 (λ k within. ltb-true 32 (get_or word k 0) (all k 0 within))

pub kind_word : (u : Undo) → IsWord (kind_text u)
kind_word (RemoveImage sd image) = tested (codes "RemoveImage") refl
kind_word (RemoveVolume sd image v) = tested (codes "RemoveVolume") refl
kind_word (SetLeaf sd image v) = tested (codes "SetLeaf") refl
kind_word (DropDomain sd) = tested (codes "DropDomain") refl
kind_word (FinishDelete sd image v parent) = tested (codes "FinishDelete") refl
kind_word (FinishRemove sd image) = tested (codes "FinishRemove") refl
kind_word (FinishExtend sd image v capacity) = tested (codes "FinishExtend") refl
kind_word (FinishDescribe sd image v word) = tested (codes "FinishDescribe") refl

pub value_word : (u : Undo) → IsStep u → All IsWord (value_words u)
value_word (RemoveImage sd image) s =
    All-from_recursion IsWord (value_words (RemoveImage sd image)) (id_word sd.0, (id_word image.0, tt))
value_word (RemoveVolume sd image v) s =
    All-from_recursion IsWord (value_words (RemoveVolume sd image v)) (id_word sd.0, (id_word image.0, (id_word v.0, tt)))
value_word (SetLeaf sd image v) s =
    All-from_recursion IsWord (value_words (SetLeaf sd image v)) (id_word sd.0, (id_word image.0, (id_word v.0, tt)))
value_word (DropDomain sd) s = All-from_recursion IsWord (value_words (DropDomain sd)) (id_word sd.0, tt)
value_word (FinishDelete sd image v parent) s =
    All-from_recursion IsWord (value_words (FinishDelete sd image v parent)) (id_word sd.0, (id_word image.0, (id_word v.0, (id_word parent.0, tt))))
value_word (FinishRemove sd image) s =
    All-from_recursion IsWord (value_words (FinishRemove sd image)) (id_word sd.0, (id_word image.0, tt))
value_word (FinishExtend sd image v capacity) s =
    All-from_recursion IsWord (value_words (FinishExtend sd image v capacity)) (id_word sd.0, (id_word image.0, (id_word v.0, (decimal_word capacity (omega (arith, s.most)), tt))))
value_word (FinishDescribe sd image v word) s =
    All-from_recursion IsWord (value_words (FinishDescribe sd image v word)) (id_word sd.0, (id_word image.0, (id_word v.0, (description_word word s, tt))))

spaced_printed : (ws : List (List ℕ)) → All IsWord ws → IsPrinted (spaced ws)
spaced_printed [] all = All-nil (λ c. 31 < c)
spaced_printed (w ∷ ws) all =
    All-cons (λ c. 31 < c) 32 (w ++ spaced ws) (omega arith)
    (All-append (λ c. 31 < c) w (spaced ws) (printed w (All-head IsWord w ws all)) (spaced_printed ws (All-tail IsWord w ws all)))

-- the text of a step
pub undo_printed : (u : Undo) → IsStep u → IsPrinted (undo_text u)
unfolding undo_text
undo_printed u s =
    All-append (λ c. 31 < c) (kind_text u) (spaced (value_words u)) (printed (kind_text u) (kind_word u)) (spaced_printed (value_words u) (value_word u s))

-- the words of a text that is cut at its spaces
pub split_spaced : (k : List ℕ) (ws : List (List ℕ)) → IsWord k → All IsWord ws → slice_split (is_byte 32) (k ++ spaced ws) ≡ k ∷ ws
split_spaced k [] word all = rw (append-nil k) (slice_split_none (is_byte 32) k (spaceless k word))
split_spaced k (w ∷ ws) word all =
    slice_split_at (is_byte 32) k 32 (w ++ spaced ws) (spaceless k word) refl
    ∙ ap (λ (l : List (List ℕ)). k ∷ l) (split_spaced w ws (All-head IsWord w ws all) (All-tail IsWord w ws all))
