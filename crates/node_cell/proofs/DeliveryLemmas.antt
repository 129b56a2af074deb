-- Events that a cell takes, and those that it doesn't take.
use Rattle.std.proofs.Common.{◌≡◌, ◌++◌, ℕ, refl, sym, ap, subst, inr}
use Rattle.node_step.specs.declared.event.Event.{Event}
use Rattle.node_step.specs.declared.outputs.Outputs.{Outputs}
use Rattle.step_fault.specs.declared.fault.StepFault.{StepFault}
use Rattle.cell_parts.specs.Journal.{CellView, EnteredView, Enters, IsRefused, Makes, Skips}
use Rattle.cell_parts.specs.Undelivered.{undelivered_after}

-- a step was made and entered, and all else is as before
pub enters_so : (old new : CellView) (ticket : ℕ) (event : Event) (entered : EnteredView) → Makes old.state old.journal ticket event entered new.state new.journal
    → new.config ≡ old.config → new.node ≡ old.node → new.undelivered ≡ undelivered_after event old.undelivered entered.outputs.released
    → new.outbox ≡ old.outbox ++ entered.outputs.sent → Enters old event entered new
enters_so old new ticket event entered makes config node undelivered outbox =
    record {
      makes = subst (λ at. Makes old.state old.journal at event entered new.state new.journal) (sym (ap (λ (outputs : Outputs). outputs.ticket) makes.step.outputs_are)) makes;
      undelivered = undelivered;
      outbox = outbox;
      rest = rw (sym config, sym node) refl;
    }

-- the ticket was entered as skipped, and all else is as before
pub is_refused_so : (old new : CellView) (ticket : ℕ) (event : Event) (fault : StepFault) → Skips old.state old.journal ticket event fault new.state new.journal
    → new.config ≡ old.config → new.node ≡ old.node → new.undelivered ≡ old.undelivered → new.outbox ≡ old.outbox → IsRefused old event fault new
is_refused_so old new ticket event fault skips config node undelivered outbox =
    inr (record {
      ticket = ticket;
      skips = skips;
      rest = rw (sym config, sym node, sym skips.unchanged, sym undelivered, sym outbox) refl;
    })
