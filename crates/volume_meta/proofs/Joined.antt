-- Lines that were written one behind the other.
use Rattle.std.proofs.Common.{◌≡◌, ℕ, ◌+◌, List, ◌++◌, length, take, ap, sym, ◌∙◌, arith, append_assoc, length-append}
use Rattle.std.proofs.lemmas.List.{take_at}

joined-two : (w a b w1 w2 : List ℕ) → w1 ≡ w ++ a → w2 ≡ w1 ++ b → w2 ≡ w ++ (a ++ b)
joined-two w a b w1 w2 e f = f ∙ ap (λ (l : List ℕ). l ++ b) e ∙ append_assoc w a b

pub joined-seven : (w a b c d e f g w1 w2 w3 w4 w5 w6 w7 : List ℕ) → w1 ≡ w ++ a → w2 ≡ w1 ++ b → w3 ≡ w2 ++ c → w4 ≡ w3 ++ d → w5 ≡ w4 ++ e → w6 ≡ w5 ++ f → w7 ≡ w6 ++ g → w7 ≡ w ++ (a ++ b ++ c ++ d ++ e ++ f ++ g)
joined-seven w a b c d e f g w1 w2 w3 w4 w5 w6 w7 p q r s t u v =
    let two = joined-two w a b w1 w2 p q in
    let three = joined-two w (a ++ b) c w2 w3 two r in
    let four = joined-two w (a ++ b ++ c) d w3 w4 three s in
    let five = joined-two w (a ++ b ++ c ++ d) e w4 w5 four t in
    let six = joined-two w (a ++ b ++ c ++ d ++ e) f w5 w6 five u in
    joined-two w (a ++ b ++ c ++ d ++ e ++ f) g w6 w7 six v

pub joined-eight : (w a b c d e f g h w1 w2 w3 w4 w5 w6 w7 w8 : List ℕ) → w1 ≡ w ++ a → w2 ≡ w1 ++ b → w3 ≡ w2 ++ c → w4 ≡ w3 ++ d → w5 ≡ w4 ++ e → w6 ≡ w5 ++ f → w7 ≡ w6 ++ g → w8 ≡ w7 ++ h → w8 ≡ w ++ (a ++ b ++ c ++ d ++ e ++ f ++ g ++ h)
joined-eight w a b c d e f g h w1 w2 w3 w4 w5 w6 w7 w8 p q r s t u v x =
    joined-two w (a ++ b ++ c ++ d ++ e ++ f ++ g) h w7 w8 (joined-seven w a b c d e f g w1 w2 w3 w4 w5 w6 w7 p q r s t u v) x

-- a front and four bytes, of what stands behind them
pub take-front-four : (n : ℕ) (front ys rest all : List ℕ) → length front ≡ n → length ys ≡ 4 → front ≡ all → take (n + 4) (front ++ (ys ++ rest)) ≡ all ++ ys
take-front-four n front ys rest all h g e =
    let long : length (front ++ ys) ≡ n + 4 = omega (arith, length-append front ys) in
    ap (take (n + 4)) (sym (append_assoc front ys rest)) ∙ take_at (front ++ ys) rest (n + 4) long ∙ ap (λ (l : List ℕ). l ++ ys) e
