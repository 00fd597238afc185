-- Each volume has one parent that counts, also where merged volumes form a ring.
use Rattle.std.proofs.Common.{◌≡◌, ◌⊎◌, ℕ, zero, suc, Bool, true, false, List, [], ◌∷◌, length, Option, Some, None, refl, sym, ap, ◌∙◌, subst, inl, inr, arith}
use Rattle.std.specs.List.{Contains, IsDistinct, list_any}
use Rattle.std.proofs.lemmas.Bool.{false≢true}
use Rattle.std.proofs.lemmas.Map.Keys.{IsDistinct-cons}
use Rattle.std.proofs.lemmas.Map.Made.{is_member-Decides, length-le_from_is_member}
use Rattle.sd_names.specs.declared.id.Id.{Id}
use Rattle.shared_disk.specs.Places.{id_is}
use Rattle.shared_disk.proofs.Outcomes.{nothing_in, cons_cases}
use Rattle.volume_meta.specs.declared.record.VolumeRecord.{VolumeRecord}
use Rattle.chain_model.specs.Records.{Records, is_passed, parent}
use Rattle.chain_model.specs.Up.{IsUp, LeadsTo, next, past}
use Rattle.chain_model.proofs.Chains.{no_id, passed_has_parent, same_id}
use Rattle.chain_model.proofs.Rings.{id_is-Decides, id_is-laws, none_is}
use Rattle.chain_model.proofs.Texts.{passed_only}

-- ---- one volume is reached

not_both : (r : Records) (w : Id) → is_passed r w ≡ true → is_passed r w ≡ false → ⊥
not_both r w e f = false≢true (sym f ∙ e)

one_reached : (r : Records) (v w u : Id) → LeadsTo r v w → LeadsTo r v u → w ≡ u
one_reached r v w u (next e c) (next f d) = same_id (parent r v) w u e f
one_reached r v w u (next e c) (past {w = m} f d more) = absurd (not_both r w (subst (λ (x : Id). is_passed r x ≡ true) (same_id (parent r v) m w f e) d) c)
one_reached r v w u (past {w = m} e c more) (next f d) = absurd (not_both r u (subst (λ (x : Id). is_passed r x ≡ true) (same_id (parent r v) m u e f) c) d)
one_reached r v w u (past {w = m} e c more) (past {w = n} f d rest) = one_reached r m w u more (subst (λ (x : Id). LeadsTo r x u) (same_id (parent r v) n m f e) rest)

no_leap : (r : Records) (v w : Id) → parent r v ≡ None → LeadsTo r v w → ⊥
no_leap r v w e (next f c) = no_id (parent r v) w e f
no_leap r v w e (past {w = m} f c more) = no_id (parent r v) m e f

-- ---- or the walk goes round through merged volumes

data PassesTo (r : Records) : Id → Id → Type 0 where
  once : {v w : Id} → parent r v ≡ Some w → is_passed r w ≡ true → PassesTo r v w
  more : {v w u : Id} → parent r v ≡ Some w → is_passed r w ≡ true → PassesTo r w u → PassesTo r v u

-- the next volume is merged, and the walk goes on to the same
step_on : (r : Records) (v m u : Id) → PassesTo r u u → PassesTo r v u → parent r v ≡ Some m → (is_passed r m ≡ true) × PassesTo r m u
step_on r v m u round (once e c) f =
    let same = same_id (parent r v) u m e f in (subst (λ (x : Id). is_passed r x ≡ true) same c, subst (λ (x : Id). PassesTo r x u) same round)
step_on r v m u round (more {w = w} e c rest) f =
    let same = same_id (parent r v) w m e f in (subst (λ (x : Id). is_passed r x ≡ true) same c, subst (λ (x : Id). PassesTo r x u) same rest)

never_reached : (r : Records) (v u w : Id) → PassesTo r u u → PassesTo r v u → LeadsTo r v w → ⊥
never_reached r v u w round p (next e c) = not_both r w (step_on r v w u round p e).0 c
never_reached r v u w round p (past {w = m} e c rest) = never_reached r m u w round (step_on r v m u round p e).1 rest

-- merged volumes by their parents
abbrev Merged : Records → Id → List Id → Type 0
Merged r v [] = Unit {0}
Merged r v (w ∷ ws) = (parent r v ≡ Some w) × (is_passed r w ≡ true) × Merged r w ws

abbrev Walked : Records → ℕ → Id → Type 0
Walked r n v = ((w : Id) × LeadsTo r v w) ⊎ ((parent r v ≡ None) ⊎ ((us : List Id) × Merged r v us × (length us ≡ n)))

walk : (r : Records) (n : ℕ) (v : Id) → Walked r n v
walk r zero v = inr (inr ([], tt, refl))
walk r (suc n) v = go (parent r v) refl (λ w. walk r n w)
  where
    on : (w : Id) → parent r v ≡ Some w → is_passed r w ≡ true → Walked r n w → Walked r (suc n) v
    on w e c (inl l) = inl (l.0, past e c l.1)
    on w e c (inr (inl none)) = absurd (passed_has_parent (r w) c none)
    on w e c (inr (inr m)) = inr (inr (w ∷ m.0, (e, c, m.1), omega (arith, m.2)))

    at : (w : Id) → parent r v ≡ Some w → (b : Bool) → is_passed r w ≡ b → Walked r n w → Walked r (suc n) v
    at w e false c rest = inl (w, next e c)
    at w e true c rest = on w e c rest

    go : (o : Option Id) → parent r v ≡ o → ((w : Id) → Walked r n w) → Walked r (suc n) v
    go None e rest = inr (inl e)
    go (Some w) e rest = at w e (is_passed r w) refl (rest w)

passes : (r : Records) (v u : Id) (us : List Id) → Merged r v us → Contains us u → PassesTo r v u
passes r v u [] m h = absurd (nothing_in u h)
passes r v u (w ∷ ws) m h =
    elim (cons_cases w u ws h) [ inl e ↦ subst (λ (x : Id). PassesTo r v x) e (once m.0 m.1) | inr g ↦ more m.0 m.1 (passes r w u ws m.2 g) ]

merged_one : (r : Records) (v u : Id) (us : List Id) → Merged r v us → Contains us u → is_passed r u ≡ true
merged_one r v u [] m h = absurd (nothing_in u h)
merged_one r v u (w ∷ ws) m h =
    elim (cons_cases w u ws h) [ inl e ↦ subst (λ (x : Id). is_passed r x ≡ true) e m.1 | inr g ↦ merged_one r w u ws m.2 g ]

abbrev GoesRound : Records → Id → Type 0
GoesRound r v = (u : Id) × PassesTo r u u × PassesTo r v u

apart_or_round : (r : Records) (v : Id) (us : List Id) → Merged r v us → GoesRound r v ⊎ IsDistinct id_is us
unfolding IsDistinct
apart_or_round r v [] m = inr tt
apart_or_round r v (w ∷ ws) m = go (list_any (id_is w) ws) refl (apart_or_round r w ws m.2)
  where
    go : (b : Bool) → list_any (id_is w) ws ≡ b → GoesRound r w ⊎ IsDistinct id_is ws → GoesRound r v ⊎ IsDistinct id_is (w ∷ ws)
    go b e (inl round) = inl (round.0, round.1, more m.0 m.1 round.2)
    go true e (inr d) = inl (w, passes r w w ws m.2 ((is_member-Decides id_is-Decides ws w).0 e), once m.0 m.1)
    go false e (inr d) = inr (IsDistinct-cons id_is w ws (none_is w ws e) d)

abbrev Known : Records → List Id → Type 0
Known r all = (v : Id) (x : VolumeRecord) → r v ≡ Some x → Contains all v

-- a volume that counts is reached, or there is no parent, or the walk goes round
decided : (r : Records) (all : List Id) (v : Id) → Known r all → ((w : Id) × LeadsTo r v w) ⊎ ((parent r v ≡ None) ⊎ GoesRound r v)
decided r all v known = go (walk r (suc (length all)) v)
  where
    among : (us : List Id) → Merged r v us → (q : Id) → list_any (id_is q) us ≡ true → list_any (id_is q) all ≡ true
    among us m q t =
        let has = passed_only r q (merged_one r v q us m ((is_member-Decides id_is-Decides us q).0 t)) in
        (is_member-Decides id_is-Decides all q).1 (known q has.0 has.1)

    long : (us : List Id) → Merged r v us → length us ≡ suc (length all) → GoesRound r v ⊎ IsDistinct id_is us → GoesRound r v
    long us m len (inl round) = round
    long us m len (inr d) = let most = length-le_from_is_member id_is-laws us all d (among us m) in absurd (omega (arith, most, len))

    go : Walked r (suc (length all)) v → ((w : Id) × LeadsTo r v w) ⊎ ((parent r v ≡ None) ⊎ GoesRound r v)
    go (inl l) = inl l
    go (inr (inl none)) = inr (inl none)
    go (inr (inr m)) = inr (inr (long m.0 m.1 m.2 (apart_or_round r v m.0 m.1)))

pub some_counts : (r : Records) (all : List Id) (v : Id) → Known r all → (up : Option Id) × IsUp r v up
some_counts r all v known = go (decided r all v known)
  where
    go : ((w : Id) × LeadsTo r v w) ⊎ ((parent r v ≡ None) ⊎ GoesRound r v) → (up : Option Id) × IsUp r v up
    go (inl l) = (
      Some l.0,
      record {
        base = λ e. absurd (no_leap r v l.0 e l.1);
        reached = λ w m. ap (λ (x : Id). Some x) (one_reached r v l.0 w l.1 m);
        ring = λ none. absurd (none l.0 l.1);
      },
    )
    go (inr (inl e)) = (None, record { base = λ f. refl; reached = λ w l. absurd (no_leap r v w e l); ring = λ none. sym e })
    go (inr (inr round)) = (parent r v, record { base = λ e. e; reached = λ w l. absurd (never_reached r v round.0 w round.1 round.2 l); ring = λ none. refl })

pub one_counts : (r : Records) (all : List Id) (v : Id) (a b : Option Id) → Known r all → IsUp r v a → IsUp r v b → a ≡ b
one_counts r all v a b known p q = go (decided r all v known)
  where
    go : ((w : Id) × LeadsTo r v w) ⊎ ((parent r v ≡ None) ⊎ GoesRound r v) → a ≡ b
    go (inl l) = p.reached l.0 l.1 ∙ sym (q.reached l.0 l.1)
    go (inr (inl e)) = p.base e ∙ sym (q.base e)
    go (inr (inr round)) =
        let none : (w : Id) → LeadsTo r v w → ⊥ = λ w l. never_reached r v round.0 w round.1 round.2 l in
        p.ring none ∙ sym (q.ring none)
