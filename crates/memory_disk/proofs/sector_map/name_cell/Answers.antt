-- What the index names, from what the map says of the key that was written.
use Rattle.std.proofs.Common.{◌≡◌, ◌<◌, Some, Ok, Err, Option, Result, OnOk, IsOk, refl, subst, sym}
use Rattle.std.specs.HashMap.{spare}
use Rattle.std.specs.Option.{IsSome}
use Rattle.memory_disk.proofs.sector_map.name_cell.Goals as goal

ok_gives : {T E P : Type 0} (r : Result T E) → IsOk r → OnOk r P → P
ok_gives (Ok x) ok p = p
ok_gives (Err e) ok p = absurd (cc)

is_some_of : {T : Type 0} (x : Option T) (v : T) → Some v ≡ x → IsSome x
is_some_of {T} x v e = subst (λ (o : Option T). IsSome o) e refl

pub returns-in-Some-clause-names : goal.returns-in-Some-clause-names
returns-in-Some-clause-names c = λ q.
    ((c.get_mut.follows.holds c.args.number).3 (is_some_of _ c.in-Some.named.now c.in-Some.ensures.value)).0 q

pub returns-clause-names : goal.returns-clause-names
returns-clause-names c = λ q.
    let same : c.get_mut.follows.lender-at-none ≡ c.args.index.now = c.get_mut.follows.holds-at-none in
    let room : 0 < spare c.args.index.now = c.requires.room (sym c.in_default.ensures.value) in
    let done = ok_gives c.insert.result (c.insert.ensures.succeeds (rw same room)) c.insert.ensures.updates in
    rw (← same) (done.0 q)
