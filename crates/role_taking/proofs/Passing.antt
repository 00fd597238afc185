-- The checks and the change of `spm-start` before its recovery: what passes, and what refuses, in the pool of the moment.
use Rattle.std.proofs.Common.{◌≡◌, ◌≢◌, ℕ, ◌==◌, ◌||◌, not, true, false, Bool, List, ◌∷◌, Option, Some, None, Result, Ok, Err, refl, sym, ap, subst, ◌∙◌, inl, inr, ◌⊎◌, arith}
use Rattle.std.proofs.lemmas.Bool.{eqb-true, false≢true}
use Rattle.std.proofs.lemmas.Bool.Decides.{nat_tests}
use Rattle.std.specs.List.{list_any}
use Rattle.std.specs.Prelude.{if◌then◌else◌}
use Rattle.sd_names.specs.UpSet.{Hosts}
use Rattle.sd_names.specs.declared.fault.DomainFault.{DomainFault}
use Rattle.sd_names.specs.declared.kinds.Role.{Role}
use Rattle.sd_names.specs.declared.kinds.Role.TheVariants.{Master, Regular}
use Rattle.sd_names.specs.declared.refusal.Refusal.{Refusal}
use Rattle.sd_names.specs.declared.refusal.Refusal.TheVariants.{DiskFault, DomainCorrupt, LverMismatch, NoDomain, NoPool, OutOfMemory, PrevMismatch, SpmHeld, WrongVersion}
use Rattle.domain_meta.specs.declared.record.DomainRecord.{DomainRecord}
use Rattle.lease_area.specs.Move.{is_open, owner_of, taken_by, version_of}
use Rattle.lease_area.specs.declared.sector.Kind.TheVariants.{Guest}
use Rattle.lease_area.specs.declared.sector.Sector.{Sector}
use Rattle.spm_role.specs.Look.{look_answer}
use Rattle.spm_role.specs.Master.{as_master}
use Rattle.pool_model.specs.Kept.{StillKept}
use Rattle.pool_model.specs.Laws.{with_role}
use Rattle.pool_model.specs.Marks as mark
use Rattle.pool_model.specs.Marks.{Check, Mark, check, has_text, is_master, known_version, owner_is, readable, recovery, unled}
use Rattle.pool_model.specs.Pool.{Pool}
use Rattle.pool_model.specs.Rules.{Maker, Passes, Passing, Refuses, changed, here, passed, text_of}
use Rattle.pool_model.specs.State.{HostState, Kept, Running}
use Rattle.pool_model.specs.Turns.{FreedUnless, HostTurns, IsRefused, is_take, maker, more, refused}
use Rattle.pool_model.proofs.OneDomain.{Said}
use Rattle.role_taking.specs.Asked.{Asked}
use Rattle.role_taking.specs.Marks.{all_marks, next_steps, role_marks, running_with, runs, verb_of}
use Rattle.role_taking.proofs.Texts.{master_read}

no_said : (o : Option Said) (t : Said) → o ≡ None → o ≡ Some t → ⊥
no_said o t e f = cc

one_said : (o : Option Said) (t u : Said) → o ≡ Some t → o ≡ Some u → t ≡ u
one_said o t u e f = cc

ok_err : (r : DomainRecord) (f : DomainFault) → ◌≡◌ {A = Said} (Ok r) (Err f) → ⊥
ok_err r f e = cc

same_ok : (r s : DomainRecord) → ◌≡◌ {A = Said} (Ok r) (Ok s) → r ≡ s
same_ok r s e = cc

same_read : (r s : DomainRecord) → ◌≡◌ {A = Result DomainRecord Refusal} (Ok r) (Ok s) → r ≡ s
same_read r s e = cc

read_err : (r : DomainRecord) (e : Refusal) → ◌≡◌ {A = Result DomainRecord Refusal} (Ok r) (Err e) → ⊥
read_err r e is = cc

err_read : (r : DomainRecord) (e : Refusal) → ◌≡◌ {A = Result DomainRecord Refusal} (Err e) (Ok r) → ⊥
err_read r e is = cc

same_err : (e f : Refusal) → ◌≡◌ {A = Result DomainRecord Refusal} (Err e) (Err f) → e ≡ f
same_err e f is = cc

same_look_err : (e f : Refusal) → ◌≡◌ {A = Result Sector Refusal} (Err e) (Err f) → e ≡ f
same_look_err e f is = cc

look_ok_err : (s : Sector) (e : Refusal) → ◌≡◌ {A = Result Sector Refusal} (Ok s) (Err e) → ⊥
look_ok_err s e is = cc

look_err_ok : (s : Sector) (e : Refusal) → ◌≡◌ {A = Result Sector Refusal} (Err e) (Ok s) → ⊥
look_err_ok s e is = cc

same_look : (s t : Sector) → ◌≡◌ {A = Result Sector Refusal} (Ok s) (Ok t) → s ≡ t
same_look s t is = cc

not_regular : Regular ≡ Master → ⊥
not_regular e = cc

or_cases : (a b : Bool) → (a || b) ≡ true → (a ≡ true) ⊎ (b ≡ true)
or_cases true b e = inl refl
or_cases false b e = inr e

eq_test : (a b : ℕ) → a ≡ b → (a == b) ≡ true
eq_test a b e = grind (arith, nat_tests, e)

module _ (h : ℕ) (up : Hosts) (a : Asked) (k : Kept) (steps : ℕ) (x : HostState) (p : Pool) where
  abbrev pub run : List Mark → Running
  run ms = running_with a k steps ms

  abbrev pub by : List Mark → Maker
  by ms = maker h up (run ms)

  -- no image's lease was taken, so none is given back
  kept : (b : Bool) (ms : List Mark) → FreedUnless b (by ms) (verb_of a) p p
  kept true ms = refl
  kept false ms = refl

  -- a check refuses with these behind it
  abbrev pub Barred : List Mark → Refusal → Type 0
  Barred ms e = IsRefused (by ms) (run ms) (runs x (Some (run ms))) p e (runs x None) p

  barred : (ms : List Mark) (at : Check) (ns : List Mark) (e : Refusal) → Passing (by ms) ms 0 p (check at ∷ ns) 0 p → Refuses (by ms) at e p → Barred ms e
  barred ms at ns e passing refuses = record {
    at = at;
    marks = ns;
    tally = 0;
    pool = p;
    passing = passing;
    refuses = refuses;
    gives = kept (list_any is_take ns) ms;
    running = refl;
    idle = record { role_is = refl; opened = λ s. refl };
  }

  -- ---- turns

  -- more is to do
  pub on_turn : (ms ns : List Mark) (q : Pool) (l : Kept) → StillKept k l → Passing (by ms) ms 0 p ns 0 q
      → HostTurns h up (runs x (Some (run ms))) p more (runs x (Some (running_with a l (next_steps steps) ns))) q
  on_turn ms ns q l still passing = (
    run ms,
    refl,
    record {
      marks = ns;
      tally = 0;
      kept = l;
      passing = passing;
      keeps = still;
      running = refl;
      idle = record { role_is = refl; opened = λ s. refl };
    },
  )

  -- there is no memory
  pub lacking_turn : (ms : List Mark) → HostTurns h up (runs x (Some (run ms))) p (refused OutOfMemory) (runs x None) p
  lacking_turn ms = (
    run ms,
    refl,
    record {
      marks = ms;
      tally = 0;
      pool = p;
      passing = here;
      may = tt;
      gives = kept (list_any is_take ms) ms;
      running = refl;
      idle = record { role_is = refl; opened = λ s. refl };
    },
  )

  -- the disk failed
  pub faulty_turn : (faults : ℕ) (ms ns : List Mark) (q : Pool) → Passing (by ms) ms 0 p ns 0 q
      → HostTurns h up (runs x (Some (run ms))) p (refused (DiskFault faults)) (runs x None) q
  faulty_turn faults ms ns q passing = (
    run ms,
    refl,
    record {
      marks = ns;
      tally = 0;
      pool = q;
      passing = passing;
      gives = inl refl;
      running = refl;
      cut = record { role_is = refl; opened = λ s. refl };
    },
  )

  -- the verb is refused so
  abbrev pub RefusedWith : List Mark → Refusal → Type 0
  RefusedWith ms e = HostTurns h up (runs x (Some (run ms))) p (refused e) (runs x None) p

  -- ---- the text

  abbrev pub texts : Maker
  texts = by (all_marks a)

  has_passes : (t : Said) → text_of p a.sd ≡ Some t → Passes texts (has_text a.sd) p
  has_passes t is e refuses = no_said (text_of p a.sd) t refuses.0 is

  readable_passes : (r : DomainRecord) → text_of p a.sd ≡ Some (Ok r) → Passes texts (readable a.sd) p
  readable_passes r is e (fault, said, rest) = ok_err r fault (one_said (text_of p a.sd) (Ok r) (Err fault) is said)

  version_passes : (r : DomainRecord) → text_of p a.sd ≡ Some (Ok r) → (r.version ≡ 4) ⊎ (r.version ≡ 5) → Passes texts (known_version a.sd) p
  version_passes r is (inl four) e (s, said, not_four, not_five, rest) =
      not_four (ap (λ (y : DomainRecord). y.version) (sym (same_ok r s (one_said (text_of p a.sd) (Ok r) (Ok s) is said))) ∙ four)
  version_passes r is (inr five) e (s, said, not_four, not_five, rest) =
      not_five (ap (λ (y : DomainRecord). y.version) (sym (same_ok r s (one_said (text_of p a.sd) (Ok r) (Ok s) is said))) ∙ five)

  master_passes : (r : DomainRecord) → text_of p a.sd ≡ Some (Ok r) → r.role ≡ Master → Passes texts (is_master a.sd) p
  master_passes r is role e (s, said, not_master, rest) =
      not_master (ap (λ (y : DomainRecord). y.role) (sym (same_ok r s (one_said (text_of p a.sd) (Ok r) (Ok s) is said))) ∙ role)

  -- which version a text has
  version_is : (r : DomainRecord) → (r.version == 4 || r.version == 5) ≡ true → (r.version ≡ 4) ⊎ (r.version ≡ 5)
  version_is r e = by_case (or_cases (r.version == 4) (r.version == 5) e)
    where
      by_case : ((r.version == 4) ≡ true) ⊎ ((r.version == 5) ≡ true) → (r.version ≡ 4) ⊎ (r.version ≡ 5)
      by_case (inl four) = inl (eqb-true r.version 4 four)
      by_case (inr five) = inr (eqb-true r.version 5 five)

  version_other : (r : DomainRecord) → (r.version == 4 || r.version == 5) ≡ false → (r.version ≢ 4) × (r.version ≢ 5)
  version_other r e = (
    λ four. false≢true (sym e ∙ or_left (r.version == 4) (r.version == 5) (eq_test r.version 4 four)),
    λ five. false≢true (sym e ∙ or_right (r.version == 4) (r.version == 5) (eq_test r.version 5 five)),
  )
    where
      or_left : (m n : Bool) → m ≡ true → (m || n) ≡ true
      or_left true n e = refl
      or_left false n e = absurd (false≢true e)

      or_right : (m n : Bool) → n ≡ true → (m || n) ≡ true
      or_right true n e = refl
      or_right false n e = e

  -- the text is a master's of version 4 or 5: what is asked of it passes
  pub text_passes : (r : DomainRecord) → text_of p a.sd ≡ Some (Ok r) → (r.version ≡ 4) ⊎ (r.version ≡ 5) → r.role ≡ Master
      → Passing texts (all_marks a) 0 p (role_marks a) 0 p
  text_passes r is version role = passed (has_passes (Ok r) is) (passed (readable_passes r is) (passed (version_passes r is version) (passed (master_passes r is role) here)))

  -- what is read of a text tells that it is such a one
  by_role : (r s : DomainRecord) (role : Role) → r.role ≡ role → as_master role r ≡ Ok s → (r.role ≡ Master) × (r ≡ s)
  by_role r s Master which is = (which, same_read r s is)
  by_role r s Regular which is = absurd (err_read s NoPool is)

  by_version : (r s : DomainRecord) (b : Bool) → (r.version == 4 || r.version == 5) ≡ b → (if b then as_master r.role r else Err (WrongVersion r.version)) ≡ Ok s
      → ((r.version ≡ 4) ⊎ (r.version ≡ 5)) × (r.role ≡ Master) × (r ≡ s)
  by_version r s true e is = let told = by_role r s r.role refl is in (version_is r e, told.0, told.1)
  by_version r s false e is = absurd (err_read s (WrongVersion r.version) is)

  pub text_told : (o : Option Said) (s : DomainRecord) → text_of p a.sd ≡ o → master_read o ≡ Ok s
      → (text_of p a.sd ≡ Some (Ok s)) × ((s.version ≡ 4) ⊎ (s.version ≡ 5)) × (s.role ≡ Master)
  text_told None s is read = absurd (err_read s NoDomain read)
  text_told (Some (Err fault)) s is read = absurd (err_read s (DomainCorrupt fault) read)
  text_told (Some (Ok r)) s is read =
      let told = by_version r s (r.version == 4 || r.version == 5) refl read in
      subst (λ (y : DomainRecord). (text_of p a.sd ≡ Some (Ok y)) × ((y.version ≡ 4) ⊎ (y.version ≡ 5)) × (y.role ≡ Master)) told.2 (is, told.0, told.1)

  -- and else it is refused
  refused_role : (r : DomainRecord) (role : Role) (e : Refusal) → text_of p a.sd ≡ Some (Ok r) → (r.version ≡ 4) ⊎ (r.version ≡ 5) → r.role ≡ role
      → as_master role r ≡ Err e → RefusedWith (all_marks a) e
  refused_role r Master e is version role read = absurd (read_err r e read)
  refused_role r Regular e is version role read = subst (λ (f : Refusal). RefusedWith (all_marks a) f) (same_err NoPool e read) (
    run (all_marks a),
    refl,
    barred (all_marks a) (is_master a.sd) (role_marks a) NoPool
        (passed (has_passes (Ok r) is) (passed (readable_passes r is) (passed (version_passes r is version) here)))
        (r, is, (λ master. not_regular (sym role ∙ master)), refl),
  )

  refused_version : (r : DomainRecord) (b : Bool) (e : Refusal) → text_of p a.sd ≡ Some (Ok r) → (r.version == 4 || r.version == 5) ≡ b
      → (if b then as_master r.role r else Err (WrongVersion r.version)) ≡ Err e → RefusedWith (all_marks a) e
  refused_version r true e is which read = refused_role r r.role e is (version_is r which) refl read
  refused_version r false e is which read = subst (λ (f : Refusal). RefusedWith (all_marks a) f) (same_err (WrongVersion r.version) e read) (
    run (all_marks a),
    refl,
    barred (all_marks a) (known_version a.sd) (check (is_master a.sd) ∷ role_marks a) (WrongVersion r.version)
        (passed (has_passes (Ok r) is) (passed (readable_passes r is) here))
        (let other = version_other r which in (r, is, other.0, other.1, refl)),
  )

  pub text_refused : (o : Option Said) (e : Refusal) → text_of p a.sd ≡ o → master_read o ≡ Err e → RefusedWith (all_marks a) e
  text_refused None e is read = subst (λ (f : Refusal). RefusedWith (all_marks a) f) (same_err NoDomain e read) (
    run (all_marks a),
    refl,
    barred (all_marks a) (has_text a.sd) _ NoDomain here (is, refl),
  )
  text_refused (Some (Err fault)) e is read = subst (λ (f : Refusal). RefusedWith (all_marks a) f) (same_err (DomainCorrupt fault) e read) (
    run (all_marks a),
    refl,
    barred (all_marks a) (readable a.sd) _ (DomainCorrupt fault) (passed (has_passes (Err fault) is) here) (fault, is, refl),
  )
  text_refused (Some (Ok r)) e is read = refused_version r (r.version == 4 || r.version == 5) e is refl read

  -- ---- sector 0

  abbrev pub roles : Maker
  roles = by (role_marks a)

  abbrev pub first : Sector
  first = p.sector a.sd 0

  -- what the checks of sector 0 say, by their tests
  abbrev LookBy : Bool → Bool → Bool → Result Sector Refusal
  LookBy o b c =
      if not o then Err (SpmHeld (owner_of first) (version_of first))
      else if not b then Err (PrevMismatch a.prev (owner_of first))
      else if not c then Err (LverMismatch a.lver (version_of first))
      else Ok first

  unled_passes : is_open up h (owner_of first) ≡ true → Passes roles (unled a.sd) p
  unled_passes may e (shut, rest) = false≢true (sym shut ∙ may)

  owner_passes : owner_of first ≡ a.prev → Passes roles (owner_is a.sd a.prev) p
  owner_passes is e (other, rest) = other is

  lver_passes : version_of first ≡ a.lver → Passes roles (mark.version_is a.sd a.lver) p
  lver_passes is e (other, rest) = other is

  look_told : (s : Sector) (o b c : Bool) → is_open up h (owner_of first) ≡ o → (owner_of first == a.prev) ≡ b → (version_of first == a.lver) ≡ c → LookBy o b c ≡ Ok s
      → (is_open up h (owner_of first) ≡ true) × (owner_of first ≡ a.prev) × (version_of first ≡ a.lver) × (first ≡ s)
  look_told s true true true may owner version is = (may, eqb-true (owner_of first) a.prev owner, eqb-true (version_of first) a.lver version, same_look first s is)
  look_told s false b c may owner version is = absurd (look_err_ok s _ is)
  look_told s true false c may owner version is = absurd (look_err_ok s _ is)
  look_told s true true false may owner version is = absurd (look_err_ok s _ is)

  look_refused : (e : Refusal) (o b c : Bool) → is_open up h (owner_of first) ≡ o → (owner_of first == a.prev) ≡ b → (version_of first == a.lver) ≡ c → LookBy o b c ≡ Err e
      → RefusedWith (role_marks a) e
  look_refused e true true true may owner version is = absurd (look_ok_err first e is)
  look_refused e false b c may owner version is = subst (λ (f : Refusal). RefusedWith (role_marks a) f) (same_look_err _ e is) (
    run (role_marks a),
    refl,
    barred (role_marks a) (unled a.sd) _ (SpmHeld (owner_of first) (version_of first)) here (may, refl),
  )
  look_refused e true false c may owner version is = subst (λ (f : Refusal). RefusedWith (role_marks a) f) (same_look_err _ e is) (
    run (role_marks a),
    refl,
    barred (role_marks a) (owner_is a.sd a.prev) _ (PrevMismatch a.prev (owner_of first)) (passed (unled_passes may) here)
        ((λ same. false≢true (sym owner ∙ eq_test (owner_of first) a.prev same)), refl),
  )
  look_refused e true true false may owner version is = subst (λ (f : Refusal). RefusedWith (role_marks a) f) (same_look_err _ e is) (
    run (role_marks a),
    refl,
    barred (role_marks a) (mark.version_is a.sd a.lver) _ (LverMismatch a.lver (version_of first))
        (passed (unled_passes may) (passed (owner_passes (eqb-true (owner_of first) a.prev owner)) here))
        ((λ same. false≢true (sym version ∙ eq_test (version_of first) a.lver same)), refl),
  )

  pub sector_refused : (e : Refusal) → look_answer up h a.prev a.lver (Some first) ≡ Err e → RefusedWith (role_marks a) e
  sector_refused e is = look_refused e (is_open up h (owner_of first)) (owner_of first == a.prev) (version_of first == a.lver) refl refl refl is

  pub sector_told : (s : Sector) → look_answer up h a.prev a.lver (Some first) ≡ Ok s
      → (is_open up h (owner_of first) ≡ true) × (owner_of first ≡ a.prev) × (version_of first ≡ a.lver) × (first ≡ s)
  sector_told s is = look_told s (is_open up h (owner_of first)) (owner_of first == a.prev) (version_of first == a.lver) refl refl refl is

  -- the role is taken
  pub role_passes : p.master ≡ Some a.sd → is_open up h (owner_of first) ≡ true → owner_of first ≡ a.prev → version_of first ≡ a.lver
      → Passing roles (role_marks a) 0 p recovery 0 (with_role p a.sd (taken_by h Guest first))
  role_passes master may owner version = passed (unled_passes may) (passed (owner_passes owner) (passed (lver_passes version) (changed
      (record { master = master; opened = may; owner = owner; version = version; led = refl }) here)))
