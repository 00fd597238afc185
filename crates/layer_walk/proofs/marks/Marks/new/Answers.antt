use Rattle.std.proofs.Common.{◌≡◌, ℕ, ◌*◌, ◌%◌, ◌≤◌, max, ap, ◌∙◌, subst, sym, arith}
use Rattle.std.specs.Int.{div_ceil}
use Rattle.layer_walk.specs.Bits.{room_of}
use Rattle.layer_walk.specs.Marks.{map_size}
use Rattle.layer_walk.proofs.Rooms.{map_enough, whole_words}
use Rattle.layer_walk.proofs.marks.Marks.new.Goals as goal

room_is : (room count words bytes cluster : ℕ) → room ≡ 64 * div_ceil (count * 256) 64 → count ≡ div_ceil words 256 → words ≡ div_ceil bytes cluster → room ≡ map_size bytes cluster
room_is room count words bytes cluster e f g = e ∙ whole_words count ∙ ap (λ n. n * 256) (f ∙ ap (λ n. div_ceil n 256) g)

enough : (room size roof cluster : ℕ) → 4096 ≤ cluster → room ≡ map_size (max size roof) cluster → size ≤ room * cluster
enough room size roof cluster wide e =
    let le = map_enough (max size roof) cluster (omega (arith, wide)) in
    let le' : max size roof ≤ room * cluster = subst (λ n. max size roof ≤ n * cluster) (sym e) le in
    omega (arith, le')

pub invariant_of-result : goal.invariant_of-result
invariant_of-result c =
    let room = room_is (room_of c.in_ok-free.free) c.div_ceil.result c.div_ceil-clusters.result (max c.args.size c.args.roof) c.args.cluster c.in_ok-free.ensures.room c.div_ceil.ensures
    (c.div_ceil-clusters.ensures ∙ ap (λ n. div_ceil n c.args.cluster) c.max.ensures) in
    record {
      some = c.requires;
      fits = c.ranges.size.fits;
      room = enough (room_of c.in_ok-free.free) c.args.size c.args.roof c.args.cluster c.requires room;
      whole = even (room_of c.in_ok-free.free) _ room;
    }
  where
    even : (room sectors : ℕ) → room ≡ sectors * 256 → room % 256 ≡ 0
    even room sectors e = omega (arith, e)
