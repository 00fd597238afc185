-- A rising list of volumes is no longer than a list of names that has their texts.
use Rattle.std.proofs.Common.{◌≡◌, ◌≢◌, ◌⊎◌, ◌+◌, ◌≤◌, List, [], ◌∷◌, length, sym, ◌∙◌, subst, inl, inr, arith}
use Rattle.std.specs.List.{Contains}
use Rattle.std.specs.List.Sorted.{IsStrictlySortedBy}
use Rattle.std.specs.declared.cmp.Ordering.TheVariants.{Less}
use Rattle.std.proofs.lemmas.Cmp.{tied_itself}
use Rattle.std.proofs.lemmas.Map.Keys.{sorted_tail}
use Rattle.sd_names.specs.declared.id.Id.{Id}
use Rattle.sd_names.specs.declared.place.Name.{Name}
use Rattle.sd_names.specs.declared.place.Name.TheVariants as name
use Rattle.shared_disk.proofs.Outcomes.{contains_here, contains_more, nothing_in, cons_cases}
use Rattle.chain_model.specs.Opening.{id_cmp}
use Rattle.chain_gathering.proofs.Lists.{rising_head}
use Rattle.chain_gathering.proofs.Orders.{id_cmp-total}

-- a list without one of its names
record Without (ns : List Name) (n : Name) : Type 0 where
  rest : List Name
  one : length ns ≡ length rest + 1
  others : (m : Name) → Contains ns m → m ≢ n → Contains rest m

without_first : (x n : Name) (ns : List Name) → x ≡ n → Without (x ∷ ns) n
without_first x n ns e = record { rest = ns; one = omega arith; others = λ m h other. go m other (cons_cases x m ns h) }
  where
    go : (m : Name) → m ≢ n → (x ≡ m) ⊎ Contains ns m → Contains ns m
    go m other (inl same) = absurd (other (sym same ∙ e))
    go m other (inr c) = c

without_later : (x n : Name) (ns : List Name) → Without ns n → Without (x ∷ ns) n
without_later x n ns w = record { rest = x ∷ w.rest; one = omega (arith, w.one); others = λ m h other. go m other (cons_cases x m ns h) }
  where
    go : (m : Name) → m ≢ n → (x ≡ m) ⊎ Contains ns m → Contains (x ∷ w.rest) m
    go m other (inl same) = subst (λ (k : Name). Contains (x ∷ w.rest) k) same (contains_here x w.rest)
    go m other (inr c) = contains_more x m w.rest (w.others m c other)

without_one : (ns : List Name) (n : Name) → Contains ns n → Without ns n
without_one [] n h = absurd (nothing_in n h)
without_one (x ∷ ns) n h = go (cons_cases x n ns h) (λ c. without_one ns n c)
  where
    go : (x ≡ n) ⊎ Contains ns n → (Contains ns n → Without ns n) → Without (x ∷ ns) n
    go (inl e) more = without_first x n ns e
    go (inr c) more = without_later x n ns (more c)

not_text : (v u : Id) → id_cmp v u ≡ Less → name.Meta u ≢ name.Meta v
not_text v u less e =
    let same : u ≡ v = cc in
    let tied = tied_itself id_cmp-total v in
    let itself : id_cmp v v ≡ Less = subst (λ (w : Id). id_cmp v w ≡ Less) same less in
    cc

pub no_more : (vs : List Id) (ns : List Name) → IsStrictlySortedBy id_cmp vs → ((v : Id) → Contains vs v → Contains ns (name.Meta v)) → length vs ≤ length ns
no_more [] ns rising among = omega arith
no_more (v ∷ vs) ns rising among =
    let w = without_one ns (name.Meta v) (among v (contains_here v vs)) in
    let less = no_more vs w.rest (sorted_tail id_cmp v vs rising)
    (λ u h. w.others (name.Meta u) (among u (contains_more v u vs h)) (not_text v u (rising_head v u vs rising h))) in
    omega (arith, w.one, less)
