-- What a step of a start leaves of the boxes and of images.
use Rattle.std.proofs.Common.{refl, sym, subst, inl, inr}
use Rattle.sd_names.specs.declared.id.Id.{Id}
use Rattle.lease_area.specs.declared.sector.LeaseRecord.{LeaseRecord}
use Rattle.pool_model.specs.Laws.{with_role}
use Rattle.pool_model.specs.Pool.{Pool}
use Rattle.pool_model.proofs.Roles.{names_stood}
use Rattle.role_taking.specs.Taking.{IsRoleChange}
use Rattle.pool_recovering.specs.Steps.{Leaves}
use Rattle.role_starting.specs.Steps.{LeavesGuests}

same_left : (p : Pool) → LeavesGuests p p
same_left p = record { boxes = λ side sd g. refl; guests = λ sd i g some guest. guest; images = λ sd i m there. there }

role_left : (p : Pool) (sd : Id) (r : LeaseRecord) → LeavesGuests p (with_role p sd r)
role_left p sd r = record {
  boxes = λ side a g. refl;
  guests = λ a i g some guest. (guest.0, (guest.1.0, names_stood p sd r a i guest.0 guest.1.0 guest.1.1, guest.1.2, guest.1.3));
  images = λ a i m there. there;
}

pub taking_left : (sd : Id) (p q : Pool) → IsRoleChange sd p q → LeavesGuests p q
taking_left sd p q (inl same) = subst (λ (o : Pool). LeavesGuests p o) (sym same) (same_left p)
taking_left sd p q (inr (r, same)) = subst (λ (o : Pool). LeavesGuests p o) (sym same) (role_left p sd r)

pub recovery_left : (p q : Pool) → Leaves p q → LeavesGuests p q
recovery_left p q leaves = record { boxes = leaves.boxes; guests = leaves.guests; images = leaves.images }
