-- What stays where each parent is rewritten to the one that counts.
use Rattle.std.proofs.Common.{◌≡◌, ◌⊎◌, Bool, true, false, ◌&&◌, not, List, [], ◌∷◌, Option, Some, None, unwrap_or, refl, sym, ap, ◌∙◌, subst, inl, inr}
use Rattle.std.specs.Prelude.{◌≢◌, if◌then◌else◌, option_and_then}
use Rattle.std.specs.List.{Contains}
use Rattle.std.specs.Option.{is_some}
use Rattle.std.proofs.lemmas.Bool.{false≢true}
use Rattle.sd_names.specs.Id.{zero_id}
use Rattle.sd_names.specs.declared.id.Id.{Id}
use Rattle.sd_names.specs.declared.kinds.VolType.{VolType}
use Rattle.shared_disk.specs.Places.{id_is}
use Rattle.shared_disk.proofs.Outcomes.{contains_here, contains_more, nothing_in, cons_cases}
use Rattle.shared_disk.proofs.Places.{id_is-itself, id_is-same}
use Rattle.volume_meta.specs.declared.record.VolumeRecord.{VolumeRecord}
use Rattle.chain_model.specs.Chain.{AllCount, IsBelow, counting, path_of}
use Rattle.chain_model.specs.Folder.{Volumes}
use Rattle.chain_model.specs.Headers.{NameNext, backing}
use Rattle.chain_model.specs.Reading.{IsReading}
use Rattle.chain_model.specs.Records.{Records, holds_in, is_legal, is_passed, legal_in, parent, parent_in, passed_in}
use Rattle.chain_model.specs.Up.{up_of}
use Rattle.chain_model.proofs.Chains.{below_one, no_id, passed_has_parent, same_id}
use Rattle.chain_records.specs.Paths.{HasChain}
use Rattle.chain_records.specs.Settling.{AreRewritten, HasPassedParent, IsOver, IsRewritten, NameUps}

-- ---- the parent that counts

pub up_passed : (r : Records) (w : Id) (ws : List Id) → is_passed r w ≡ true → up_of r (w ∷ ws) ≡ up_of r ws
up_passed r w ws e = rw e refl

pub up_kept : (r : Records) (w : Id) (ws : List Id) → is_passed r w ≡ false → up_of r (w ∷ ws) ≡ Some w
up_kept r w ws e = rw e refl

pub counting_passed : (r : Records) (w : Id) (ws : List Id) → is_passed r w ≡ true → counting r (w ∷ ws) ≡ counting r ws
counting_passed r w ws e = rw e refl

pub counting_kept : (r : Records) (w : Id) (ws : List Id) → is_passed r w ≡ false → counting r (w ∷ ws) ≡ w ∷ counting r ws
counting_kept r w ws e = rw e refl

parent_in_not_zero : (x : VolumeRecord) (w : Id) → parent_in x ≡ Some w → w ≢ zero_id
parent_in_not_zero x w e zero = go (id_is x.parent zero_id) refl e
  where
    go : (b : Bool) → id_is x.parent zero_id ≡ b → (if b then None else Some x.parent) ≡ Some w → ⊥
    go true t f = absurd cc
    go false t f =
        let same : x.parent ≡ w = cc in
        false≢true (sym t ∙ ap (λ (p : Id). id_is p zero_id) (same ∙ zero) ∙ id_is-itself zero_id)

parent_not_zero : (o : Option VolumeRecord) (w : Id) → option_and_then parent_in o ≡ Some w → w ≢ zero_id
parent_not_zero None w e = absurd cc
parent_not_zero (Some x) w e = parent_in_not_zero x w e

up_not_zero : (r : Records) (v q : Id) (vs : List Id) → IsBelow r v vs → up_of r vs ≡ Some q → q ≢ zero_id
up_not_zero r v q [] b e = absurd cc
up_not_zero r v q (w ∷ ws) b e = go (is_passed r w) refl (up_not_zero r w q ws b.1)
  where
    go : (t : Bool) → is_passed r w ≡ t → (up_of r ws ≡ Some q → q ≢ zero_id) → q ≢ zero_id
    go true t more = more (sym (up_passed r w ws t) ∙ e)
    go false t more = subst (λ (z : Id). z ≢ zero_id) (same_id (up_of r (w ∷ ws)) w q (up_kept r w ws t) e) (parent_not_zero (r v) w b.0)

-- some volume counts below a volume that has a parent
some_up : (r : Records) (v w : Id) (ws : List Id) → IsBelow r v (w ∷ ws) → (q : Id) × (up_of r (w ∷ ws) ≡ Some q)
some_up r v w [] b = go (is_passed r w) refl
  where
    go : (t : Bool) → is_passed r w ≡ t → (q : Id) × (up_of r (w ∷ []) ≡ Some q)
    go true t = absurd (passed_has_parent (r w) t b.1)
    go false t = (w, up_kept r w [] t)
some_up r v w (u ∷ us) b = go (is_passed r w) refl (some_up r w u us b.1)
  where
    go : (t : Bool) → is_passed r w ≡ t → ((q : Id) × (up_of r (u ∷ us) ≡ Some q)) → (q : Id) × (up_of r (w ∷ u ∷ us) ≡ Some q)
    go true t more = (more.0, up_passed r w (u ∷ us) t ∙ more.1)
    go false t more = (w, up_kept r w (u ∷ us) t)

-- ---- a record that is rewritten

parent_written : (x : VolumeRecord) (p : Id) (t : VolType) (o : Option Id) → p ≡ unwrap_or o zero_id → ((q : Id) → o ≡ Some q → q ≢ zero_id)
    → parent_in (record x { parent = p; voltype = t }) ≡ o
parent_written x p t None e other = let is : id_is p zero_id ≡ true = ap (λ (z : Id). id_is z zero_id) e ∙ id_is-itself zero_id in rw is refl
parent_written x p t (Some q) e other = go (id_is p zero_id) refl
  where
    go : (b : Bool) → id_is p zero_id ≡ b → (if b then None else Some p) ≡ Some q
    go true f = absurd (other q refl (sym e ∙ id_is-same p zero_id f))
    go false f = ap (λ (z : Id). Some z) e

no_record_no_up : (r : Records) (v : Id) (vs : List Id) → r v ≡ None → IsBelow r v vs → up_of r vs ≡ None
no_record_no_up r v [] e b = refl
no_record_no_up r v (w ∷ ws) e b = absurd (no_id (parent r v) w (ap (λ (o : Option VolumeRecord). option_and_then parent_in o) e) b.0)

pub parent_rewritten : (r s : Records) (v : Id) (vs : List Id) → IsRewritten r v (r v) (s v) → IsBelow r v vs → parent s v ≡ up_of r vs
parent_rewritten r s v vs done b = go (r v) refl done
  where
    go : (o : Option VolumeRecord) → r v ≡ o → IsRewritten r v o (s v) → parent s v ≡ up_of r vs
    go None e is = ap (λ (o : Option VolumeRecord). option_and_then parent_in o) is ∙ sym (no_record_no_up r v vs e b)
    go (Some x) e is =
        ap (λ (o : Option VolumeRecord). option_and_then parent_in o) is.2
        ∙ parent_written x is.0 is.1 (up_of r vs) (is.3 vs b) (λ q f. up_not_zero r v q vs b f)

parent_after : (r s : Records) (v : Id) (vs : List Id) → AreRewritten r s → IsBelow r v vs → parent s v ≡ up_of r vs
parent_after r s v vs are b = parent_rewritten r s v vs (are v) b

pub legal_written : (r : Records) (v : Id) (o a : Option VolumeRecord) → IsRewritten r v o a → holds_in legal_in a ≡ holds_in legal_in o
legal_written r v None a is = ap (λ (z : Option VolumeRecord). holds_in legal_in z) is
legal_written r v (Some x) a is = ap (λ (z : Option VolumeRecord). holds_in legal_in z) is.2

pub legal_after : (r s : Records) (v : Id) → AreRewritten r s → is_legal s v ≡ is_legal r v
legal_after r s v are = legal_written r v (r v) (s v) (are v)

passed_written : (r : Records) (v : Id) (o a : Option VolumeRecord) → IsRewritten r v o a
    → is_some (option_and_then parent_in a) ≡ is_some (option_and_then parent_in o) → holds_in passed_in a ≡ holds_in passed_in o
passed_written r v None a is e = ap (λ (z : Option VolumeRecord). holds_in passed_in z) is
passed_written r v (Some x) a is e =
    let same = sym (ap (λ (z : Option VolumeRecord). is_some (option_and_then parent_in z)) is.2) ∙ e in
    ap (λ (z : Option VolumeRecord). holds_in passed_in z) is.2 ∙ ap (λ (b : Bool). not (legal_in x) && (x.merged && b)) same

some_parent : (r s : Records) (v : Id) (vs : List Id) → IsRewritten r v (r v) (s v) → IsBelow r v vs → is_some (parent s v) ≡ is_some (parent r v)
some_parent r s v [] is b = ap (λ (o : Option Id). is_some o) (parent_rewritten r s v [] is b ∙ sym b)
some_parent r s v (w ∷ ws) is b =
    let up = some_up r v w ws b in
    ap (λ (o : Option Id). is_some o) (parent_rewritten r s v (w ∷ ws) is b ∙ up.1) ∙ sym (ap (λ (o : Option Id). is_some o) b.0)

pub passed_rewritten : (r s : Records) (v : Id) (vs : List Id) → IsRewritten r v (r v) (s v) → IsBelow r v vs → is_passed s v ≡ is_passed r v
passed_rewritten r s v vs is b = passed_written r v (r v) (s v) is (some_parent r s v vs is b)

passed_after : (r s : Records) (v : Id) (vs : List Id) → AreRewritten r s → IsBelow r v vs → is_passed s v ≡ is_passed r v
passed_after r s v vs are b = passed_rewritten r s v vs (are v) b

-- ---- chains and paths

from_up : (r s : Records) (v a : Id) (us : List Id) → AreRewritten r s → IsBelow r a us → parent s v ≡ up_of r us → IsBelow s v (counting r us)
from_up r s v a [] are b e = e
from_up r s v a (w ∷ ws) are b e = go (is_passed r w) refl (from_up r s v w ws are b.1) (from_up r s w w ws are b.1 (parent_after r s w ws are b.1))
  where
    go : (t : Bool) → is_passed r w ≡ t → (parent s v ≡ up_of r ws → IsBelow s v (counting r ws)) → IsBelow s w (counting r ws)
        → IsBelow s v (counting r (w ∷ ws))
    go true t past next = subst (λ (us : List Id). IsBelow s v us) (sym (counting_passed r w ws t)) (past (e ∙ up_passed r w ws t))
    go false t past next = subst (λ (us : List Id). IsBelow s v us) (sym (counting_kept r w ws t)) (e ∙ up_kept r w ws t, next)

pub below_after : (r s : Records) (v : Id) (vs : List Id) → AreRewritten r s → IsBelow r v vs → IsBelow s v (counting r vs)
below_after r s v vs are b = from_up r s v v vs are b (parent_after r s v vs are b)

pub counted : (r : Records) (w : Id) (vs : List Id) → Contains (counting r vs) w → Contains vs w × (is_passed r w ≡ false)
counted r w [] h = absurd (nothing_in w h)
counted r w (u ∷ us) h = go (is_passed r u) refl (counted r w us)
  where
    cases : is_passed r u ≡ false → (u ≡ w) ⊎ Contains (counting r us) w → (Contains (counting r us) w → Contains us w × (is_passed r w ≡ false))
        → Contains (u ∷ us) w × (is_passed r w ≡ false)
    cases t (inl e) more = (subst (λ (z : Id). Contains (u ∷ us) z) e (contains_here u us), subst (λ (z : Id). is_passed r z ≡ false) e t)
    cases t (inr g) more = (contains_more u w us (more g).0, (more g).1)

    go : (t : Bool) → is_passed r u ≡ t → (Contains (counting r us) w → Contains us w × (is_passed r w ≡ false))
        → Contains (u ∷ us) w × (is_passed r w ≡ false)
    go true t more = let rest = more (subst (λ (ws : List Id). Contains ws w) (counting_passed r u us t) h) in (contains_more u w us rest.0, rest.1)
    go false t more = cases t (cons_cases u w (counting r us) (subst (λ (ws : List Id). Contains ws w) (counting_kept r u us t) h)) more

pub counts_after : (r s : Records) (v : Id) (vs : List Id) → AreRewritten r s → IsBelow r v vs → AllCount s (counting r vs)
counts_after r s v vs are b w h =
    let has = counted r w vs h in
    let rest = below_one r v w vs b has.0 in
    passed_after r s w rest.0 are rest.1 ∙ has.1

all_counted : (s : Records) (us : List Id) → AllCount s us → counting s us ≡ us
all_counted s [] none = refl
all_counted s (w ∷ ws) none =
    counting_kept s w ws (none w (contains_here w ws)) ∙ ap (λ (us : List Id). w ∷ us) (all_counted s ws (λ u h. none u (contains_more w u ws h)))

pub path_after : (r s : Records) (v : Id) (vs : List Id) → AreRewritten r s → IsBelow r v vs → path_of s v (counting r vs) ≡ path_of r v vs
path_after r s v vs are b = ap (λ (us : List Id). v ∷ us) (all_counted s (counting r vs) (counts_after r s v vs are b))

pub reading_after : (r s : Records) (v : Id) (vs : List Id) → AreRewritten r s → IsReading r v vs → IsReading s v (counting r vs)
reading_after r s v vs are reads = record {
  below = below_after r s v vs are reads.below;
  legal = legal_after r s v are ∙ reads.legal;
  all = λ u legal. subst (λ (ps : List Id). Contains ps u) (sym (path_after r s v vs are reads.below)) (reads.all u (sym (legal_after r s u are) ∙ legal));
}

pub named_after : (r s : Records) (v u : Id) → AreRewritten r s → IsOver r u v → parent s u ≡ Some v
named_after r s v u are over = parent_after r s u over.0 are over.1 ∙ over.2

pub only_named : (r s : Records) (v u : Id) → AreRewritten r s → HasChain r u → parent s u ≡ Some v → IsOver r u v
only_named r s v u are chain e = (chain.0, chain.1, sym (parent_after r s u chain.0 are chain.1) ∙ e)

-- ---- headers

next_from : (r s : Records) (y : Volumes) (v a : Id) (us : List Id) → IsBelow r a us → ((u : Id) (ws : List Id) → Contains (counting r us) u
    → IsBelow r u ws → backing s y u ≡ up_of r ws)
    → backing s y v ≡ up_of r us → NameNext s y (v ∷ counting r us)
next_from r s y v a [] b names e = e
next_from r s y v a (w ∷ ws) b names e = go (is_passed r w) refl (next_from r s y v w ws b.1) (next_from r s y w w ws b.1)
  where
    go : (t : Bool) → is_passed r w ≡ t
        → (((u : Id) (us : List Id) → Contains (counting r ws) u → IsBelow r u us → backing s y u ≡ up_of r us) → backing s y v ≡ up_of r ws
        → NameNext s y (v ∷ counting r ws))
        → (((u : Id) (us : List Id) → Contains (counting r ws) u → IsBelow r u us → backing s y u ≡ up_of r us) → backing s y w ≡ up_of r ws
        → NameNext s y (w ∷ counting r ws))
        → NameNext s y (v ∷ counting r (w ∷ ws))
    go true t past next =
        let same = counting_passed r w ws t in
        subst (λ (us : List Id). NameNext s y (v ∷ us)) (sym same)
        (past (λ u us h c. names u us (subst (λ (ps : List Id). Contains ps u) (sym same) h) c) (e ∙ up_passed r w ws t))
    go false t past next =
        let same = counting_kept r w ws t in
        let among = λ (u : Id) (h : Contains (w ∷ counting r ws) u). subst (λ (ps : List Id). Contains ps u) (sym same) h in
        subst (λ (us : List Id). NameNext s y (v ∷ us)) (sym same) (
          e ∙ up_kept r w ws t,
          next (λ u us h c. names u us (among u (contains_more w u (counting r ws) h)) c) (names w ws (among w (contains_here w (counting r ws))) b.1),
        )

pub names_after : (r s : Records) (y : Volumes) (v : Id) (vs : List Id) → AreRewritten r s → IsBelow r v vs → NameUps r s y (path_of r v vs)
    → NameNext s y (path_of s v (counting r vs))
names_after r s y v vs are b names =
    subst (λ (ps : List Id). NameNext s y ps) (sym (path_after r s v vs are b))
    (next_from r s y v v vs b (λ u us h c. names u us (contains_more v u (counting r vs) h) c) (names v vs (contains_here v (counting r vs)) b))

-- ---- parents that stay

parent_names : (x : VolumeRecord) (o : Option Id) → parent_in x ≡ o → x.parent ≡ unwrap_or o zero_id
parent_names x o e = go (id_is x.parent zero_id) refl o e
  where
    go : (b : Bool) → id_is x.parent zero_id ≡ b → (o : Option Id) → (if b then None else Some x.parent) ≡ o → x.parent ≡ unwrap_or o zero_id
    go true t None f = id_is-same x.parent zero_id t
    go true t (Some w) f = absurd cc
    go false t None f = absurd cc
    go false t (Some w) f = cc

pub parent_stays : (r : Records) (v : Id) (x : VolumeRecord) (vs : List Id) → r v ≡ Some x → IsBelow r v vs → (HasPassedParent r v → ⊥)
    → x.parent ≡ unwrap_or (up_of r vs) zero_id
parent_stays r v x [] e b none = parent_names x None (sym (ap (λ (o : Option VolumeRecord). option_and_then parent_in o) e) ∙ b)
parent_stays r v x (w ∷ ws) e b none = go (is_passed r w) refl
  where
    go : (t : Bool) → is_passed r w ≡ t → x.parent ≡ unwrap_or (up_of r (w ∷ ws)) zero_id
    go true t = absurd (none (w, b.0, t))
    go false t =
        parent_names x (Some w) (sym (ap (λ (o : Option VolumeRecord). option_and_then parent_in o) e) ∙ b.0)
        ∙ sym (ap (λ (o : Option Id). unwrap_or o zero_id) (up_kept r w ws t))

pub up_reached : (r : Records) (v : Id) (vs : List Id) → IsBelow r v vs → HasPassedParent r v → (up : Id) × IsOver r v up
up_reached r v [] b has = absurd (no_id (parent r v) has.0 b has.1)
up_reached r v (w ∷ ws) b has = let up = some_up r v w ws b in (up.0, (w ∷ ws, b, up.1))
