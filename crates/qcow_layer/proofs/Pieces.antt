-- What a read gives, sector by sector.
use Rattle.std.proofs.Common.{◌≡◌, ◌⊎◌, ℕ, zero, suc, ◌+◌, ◌-◌, ◌*◌, ◌<◌, ◌≤◌, min, List, [], ◌++◌, length, take, drop, replicate, Some, sym, ap, ◌∙◌, subst, inl, inr, arith}
use Rattle.std.specs.List.{flat_map, range_with_len}
use Rattle.std.proofs.lemmas.Bool.{cases_lt}
use Rattle.std.proofs.lemmas.List.{drop-drop, drop-replicate, take-replicate}
use Rattle.std.proofs.Math.Seq.{take-add, take-length}
use Rattle.sd_names.specs.declared.place.Place.{Place}
use Rattle.shared_disk.specs.Content.{Content, File, seen, without, sector_of}
use Rattle.shared_disk.specs.Calls.{ReadsAs}
use Rattle.image_model.specs.File.{sector_in}
use Rattle.qcow_layer.specs.Seen.{IsSeen, head_of}
use Rattle.shared_disk.proofs.NameOutcomes.{alone_sees}
use Rattle.layer_walk.proofs.Numbers.{past_end}

-- past what was read the room is as it was, zeros
zeros_in : (w total count j : ℕ) (xs : List ℕ) → drop count xs ≡ drop count (replicate total 0) → count ≤ j → j + w ≤ total → take w (drop j xs) ≡ replicate w 0
zeros_in w total count j xs same above within =
    let split : count + (j - count) ≡ j = omega arith in
    ap (λ n. take w (drop n xs)) (sym split)
    ∙ ap (take w) (sym (drop-drop (j - count) count xs) ∙ ap (drop (j - count)) same ∙ drop-drop (j - count) count (replicate total 0) ∙ drop-replicate (count + (j - count)) total 0)
    ∙ take-replicate w (total - (count + (j - count))) 0 (omega arith)

rest_zero : (m count k : ℕ) (xs : List ℕ) → drop count xs ≡ drop count (replicate (512 * m) 0) → count ≤ 512 * k → k < m → sector_of xs k ≡ replicate 512 0
rest_zero m count k xs same above within = zeros_in 512 (512 * m) count (512 * k) xs same above (omega arith)

pub sector_read : (host m at n count k : ℕ) (sectors : ℕ → List ℕ) (f : File) (xs : List ℕ) → count ≤ f.size → without host f.loose ≡ []
    → ((j : ℕ) → j < f.size → seen host f j ≡ sector_in count sectors j)
    → n ≡ min (512 * m) (512 * (f.size - at)) → ReadsAs host f at n (replicate (512 * m) 0) xs → k < m → sector_of xs k ≡ sector_in count sectors (at + k)
sector_read host m at n count k sectors f xs long alone same is reads within = go (cases_lt (at + k) f.size)
  where
    go : (at + k < f.size) ⊎ (f.size ≤ at + k) → sector_of xs k ≡ sector_in count sectors (at + k)
    go (inl below) = alone_sees host (at + k) f (sector_of xs k) alone (reads.sectors k (omega (arith, is, below, within))) ∙ same (at + k) below
    go (inr above) = rest_zero m n k xs reads.rest (omega (arith, is, above)) within ∙ sym (past_end count (at + k) sectors (omega (arith, long, above)))

pub one_sector : (sector : ℕ → List ℕ) (at : ℕ) (xs : List ℕ) → length xs ≡ 512 → sector_of xs 0 ≡ sector (at + 0) → xs ≡ sector at
one_sector sector at xs len e = sym (ap (λ n. take n xs) (sym len) ∙ take-length xs) ∙ e ∙ ap sector (omega arith)

pieces_of : (w : ℕ) (sector : ℕ → List ℕ) (a m : ℕ) (xs : List ℕ) → ((k : ℕ) → a ≤ k → k < a + m → take w (drop (w * k) xs) ≡ sector k)
    → flat_map sector (range_with_len a m) ≡ take (w * m) (drop (w * a) xs)
pieces_of w sector a zero xs same = ap (λ n. take n (drop (w * a) xs)) (nothing w)
  where
    nothing : (w : ℕ) → 0 ≡ w * zero
    nothing w = omega arith
pieces_of w sector a (suc m) xs same =
    ap (λ ys. ys ++ flat_map sector (range_with_len (a + 1) m)) (sym (same a (omega arith) (omega arith)))
    ∙ ap (λ ys. take w (drop (w * a) xs) ++ ys) (pieces_of w sector (a + 1) m xs (λ k low lt. same k (omega (arith, low)) (omega (arith, lt))) ∙ ap (take (w * m)) (ap (λ n. drop n xs) (one_more w a) ∙ sym (drop-drop w (w * a) xs)))
    ∙ sym (take-add w (w * m) (drop (w * a) xs))
    ∙ ap (λ n. take n (drop (w * a) xs)) (sum w m)
  where
    one_more : (w a : ℕ) → w * (a + 1) ≡ w * a + w
    one_more w a = omega arith

    sum : (w m : ℕ) → w + w * m ≡ w * suc m
    sum w m = omega arith

pub whole_head : (host n count : ℕ) (sectors : ℕ → List ℕ) (f : File) (xs : List ℕ) → count ≤ f.size → without host f.loose ≡ []
    → ((j : ℕ) → j < f.size → seen host f j ≡ sector_in count sectors j)
    → length xs ≡ 512 * 128 → n ≡ min (512 * 128) (512 * (f.size - 0)) → ReadsAs host f 0 n (replicate (512 * 128) 0) xs → xs ≡ head_of count sectors
unfolding head_of
whole_head host n count sectors f xs long alone same len is reads =
    sym (pieces_of 512 (sector_in count sectors) 0 128 xs (λ k low lt. sector_read host 128 0 n count k sectors f xs long alone same is reads (omega (arith, lt)) ∙ ap (sector_in count sectors) (omega arith))
    ∙ ap (λ j. take j xs) (sym len) ∙ take-length xs)

pub same_file : (d : Content) (place : Place) (f g : File) → d.file place ≡ Some f → d.file place ≡ Some g → g ≡ f
same_file d place f g e h = cc

pub sector_seen : (host : ℕ) (place : Place) (k n : ℕ) (d : Content) (f : File) (xs : List ℕ) → d.file place ≡ Some f → length xs ≡ 512
    → n ≡ min 512 (512 * (f.size - k)) → ReadsAs host f k n (replicate 512 0) xs
    → (count : ℕ) (sectors : ℕ → List ℕ) → IsSeen host place count sectors d → xs ≡ sector_in count sectors k
sector_seen host place k n d f xs there len is reads count sectors knows =
    let e : knows.file ≡ f = same_file d place f knows.file there knows.there in
    one_sector (sector_in count sectors) k xs len
    (sector_read host 1 k n count 0 sectors f xs (subst (λ (g : File). count ≤ g.size) e knows.long) (subst (λ (g : File). without host g.loose ≡ []) e knows.alone)
    (subst (λ (g : File). (j : ℕ) → j < g.size → seen host g j ≡ sector_in count sectors j) e knows.same) is reads (omega arith))

pub head_seen : (host : ℕ) (place : Place) (n : ℕ) (d : Content) (f : File) (xs : List ℕ) → d.file place ≡ Some f → length xs ≡ 512 * 128
    → n ≡ min (512 * 128) (512 * (f.size - 0)) → ReadsAs host f 0 n (replicate (512 * 128) 0) xs
    → (count : ℕ) (sectors : ℕ → List ℕ) → IsSeen host place count sectors d → xs ≡ head_of count sectors
head_seen host place n d f xs there len is reads count sectors knows =
    let e : knows.file ≡ f = same_file d place f knows.file there knows.there in
    whole_head host n count sectors f xs (subst (λ (g : File). count ≤ g.size) e knows.long) (subst (λ (g : File). without host g.loose ≡ []) e knows.alone)
    (subst (λ (g : File). (j : ℕ) → j < g.size → seen host g j ≡ sector_in count sectors j) e knows.same) len is reads
