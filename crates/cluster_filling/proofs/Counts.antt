-- How many pieces are left.
use Rattle.std.proofs.Common.{◌≡◌, ℕ, zero, suc, ◌+◌, ◌-◌, ◌*◌, ◌<◌, refl, ap, ◌∙◌, arith}
use Rattle.sd_names.specs.declared.turn.Turn.TheVariants.{More, Done, Ended}
use Rattle.volume_chain.specs.declared.chain.Chain.{Chain}
use Rattle.cluster_filling.specs.Filling.{FillTurn, IsNext, here, piece_of}
use Rattle.cluster_filling.specs.Left.{FallsIn, cluster_steps, left_in, many, pieces_steps, read_steps, reads_steps, steps_behind, steps_left}
use Rattle.cluster_filling.specs.declared.cluster.Cluster.{Cluster}
use Rattle.cluster_filling.specs.declared.filling.Filling.{Filling}
use Rattle.cluster_filling.specs.declared.filling.Stage.{Stage}
use Rattle.cluster_filling.specs.declared.filling.Stage.TheVariants.{Begun, Read}

-- the piece that is written next is one of those that are left
pub begun_left : (p : Filling) (c : Chain) → left_in Begun p c ≡ 4 + read_steps c p.cluster.below (here p) (piece_of p) + steps_behind p c
begun_left p c =
    let more = p.more in
    let one : many (p.cluster.count - p.done) ≡ suc (many (p.cluster.count - p.done) - 1) = omega (arith, more) in
    ap (λ n. pieces_steps p.cluster c n p.done) one

pub next_left : (p next : Filling) (c : Chain) → IsNext p next → left_in Begun next c ≡ steps_behind p c
next_left p next c is =
    let more : next.done < next.cluster.count = next.more in
    let count : next.cluster.count ≡ p.cluster.count = ap (λ (k : Cluster). k.count) is.cluster in
    let done : next.done ≡ p.done + 128 = omega (arith, more, count, is.done) in
    let n : many (next.cluster.count - next.done) ≡ many (p.cluster.count - p.done) - 1 = omega (arith, more, count, done) in
    ap (λ (k : Cluster). pieces_steps k c (many (next.cluster.count - next.done)) next.done) is.cluster
    ∙ ap (λ m. pieces_steps p.cluster c m next.done) n
    ∙ ap (λ m. pieces_steps p.cluster c (many (p.cluster.count - p.done) - 1) m) done

pub next_steps : (p next : Filling) (c : Chain) → IsNext p next → steps_left next c ≡ steps_behind p c
next_steps p next c is = ap (λ (s : Stage). left_in s next c) is.stage_is ∙ next_left p next c is

-- a piece of which nothing is read is written in one step
pub begin_falls : (p : Filling) (c : Chain) (turn : FillTurn) → FallsIn Read p c turn → FallsIn Begun p c turn
begin_falls p c (More next) falls = let all = begun_left p c in omega (arith, all, falls)
begin_falls p c (Done b) falls = let all = begun_left p c in omega (arith, all)
begin_falls p c (Ended b refusal) falls = tt

-- four steps for each piece, beside what the volumes cost
pieces_cost : (k : Cluster) (c : Chain) (n done : ℕ) → pieces_steps k c n done ≡ 4 * n + reads_steps k c n done
pieces_cost k c zero done = refl
pieces_cost k c (suc n) done = let rest = pieces_cost k c n (done + 128) in omega (arith, rest)

pub cluster_cost : (k : Cluster) (c : Chain) → cluster_steps k c ≡ 4 * many k.count + reads_steps k c (many k.count) 0
cluster_cost k c = pieces_cost k c (many k.count) 0
