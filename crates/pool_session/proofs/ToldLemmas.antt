-- What a disk tells after several calls.
use Rattle.std.proofs.Common.{Option, Result, Ok, Err, IfOk}
use Rattle.sd_names.specs.declared.refusal.Refusal.{Refusal}
use Rattle.shared_disk.specs.Content.{Content}
use Rattle.shared_disk.specs.Calls.{Told}

pub told_as : (a b : Option Content) (R S : Content → Content → Type 0) → ((d e : Content) → R d e → S d e) → Told a b R → Told a b S
told_as a b R S f told d tells =
    let after = told d tells in
    (after.0, after.1, f d after.0 after.2)

-- after two calls
pub told_since : (a b c : Option Content) (R S T : Content → Content → Type 0) → ((d between e : Content) → R d between → S between e → T d e)
    → Told a b R → Told b c S → Told a c T
told_since a b c R S T f first second d tells =
    let between = first d tells in
    let after = second between.0 between.1 in
    (after.0, after.1, f d between.0 after.0 between.2 after.2)

-- after a last part of the work, which was done
pub ok_since : (r : Result (Unit {0}) Refusal) (a b c : Option Content) (R S T : Content → Content → Type 0) → ((d between e : Content) → R d between → S between e → T d e)
    → Told a b R → IfOk r (λ _. Told b c S) → IfOk r (λ _. Told a c T)
ok_since (Ok t) a b c R S T f first second = told_since a b c R S T f first second
ok_since (Err refusal) a b c R S T f first second = tt
