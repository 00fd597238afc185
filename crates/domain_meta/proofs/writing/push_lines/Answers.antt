use Rattle.std.proofs.Common.{refl, ℕ, List, subst}
use Rattle.sha1.specs.Sha1.{Holds}
use Rattle.domain_meta.specs.Text.{domain_pairs}
use Rattle.domain_meta.proofs.OwnText.{joined-eight}
use Rattle.domain_meta.proofs.writing.push_lines.Goals as goal

pub returns-clause-written : goal.returns-clause-written
unfolding domain_pairs
returns-clause-written c =
    let description = rw c.as_slice.ensures at c.push-2.ensures.written in
    let domains = rw (c.as_slice-3.ensures.value, c.domains_text-domains.ensures, c.as_slice-2.ensures) at c.push-3.ensures.written in
    let pool = rw c.text.ensures.text at c.push-4.ensures.written in
    let role = rw c.role_text.ensures.text at c.push-5.ensures.written in
    let sduuid = rw c.text-2.ensures.text at c.push-6.ensures.written in
    joined-eight _ _ _ _ _ _ _ _ _ _ _ _ _ _ _ _ _ c.push.ensures.written description c.push_number.ensures.written domains pool role sduuid c.push_number-2.ensures.written

pub returns-clause-digested : goal.returns-clause-digested
unfolding domain_pairs
returns-clause-digested c = λ m held.
    let class = c.push.ensures.digested m held in
    let description = rw c.as_slice.ensures at (c.push-2.ensures.digested _ class) in
    let master = c.push_number.ensures.digested _ description in
    let domains = rw (c.as_slice-3.ensures.value, c.domains_text-domains.ensures, c.as_slice-2.ensures) at (c.push-3.ensures.digested _ master) in
    let pool = rw c.text.ensures.text at (c.push-4.ensures.digested _ domains) in
    let role = rw c.role_text.ensures.text at (c.push-5.ensures.digested _ pool) in
    let sduuid = rw c.text-2.ensures.text at (c.push-6.ensures.digested _ role) in
    let version = c.push_number-2.ensures.digested _ sduuid in
    subst (λ (l : List ℕ). Holds c.push_number-2.new.hasher l) (joined-eight m _ _ _ _ _ _ _ _ _ _ _ _ _ _ _ _ refl refl refl refl refl refl refl refl) version
