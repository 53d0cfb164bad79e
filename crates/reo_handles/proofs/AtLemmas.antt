-- Calls at a handle in which a session is open.
use Rattle.std.proofs.Common.{◌≡◌, sym, subst}
use Rattle.std.specs.Prelude.{Option, Some}
use Rattle.reo_handles.specs.Statuses.{AtOpen}
use Rattle.reo_handles.specs.declared.session.Session.{Session}
use Rattle.reo_handles.specs.declared.status.CallStatus.{CallStatus}

module _ (Does : Session → Session → CallStatus → Type 0) (a b : Option Session) (s : Session) (status : CallStatus) where
  -- The session was read, and put back as it was.
  pub at_read : (read : Session) → a ≡ Some s → b ≡ Some s → read ≡ s → Does read read status → AtOpen Does a b status
  at_read read was is same does =
      subst (λ (o : Option Session). AtOpen Does o b status) (sym was)
      (subst (λ (o : Option Session). AtOpen Does (Some s) o status) (sym is)
      (subst (λ (x : Session). Does x x status) same does))

  -- It was changed, and put back so.
  pub at_changed : (t old new : Session) → a ≡ Some s → b ≡ Some t → old ≡ s → new ≡ t → Does old new status → AtOpen Does a b status
  at_changed t old new was is same changed does =
      subst (λ (o : Option Session). AtOpen Does o b status) (sym was)
      (subst (λ (o : Option Session). AtOpen Does (Some s) o status) (sym is)
      (subst (λ (x : Session). Does s x status) changed
      (subst (λ (x : Session). Does x new status) same does)))
