use Rattle.std.proofs.Common.{◌∙◌}
use Rattle.slot_store.proofs.Changed.{length_changed}
use Rattle.slot_store.proofs.SlotCommit.{placed_committed, committed_ok, committed_err}
use Rattle.slot_store.proofs.store.SlotStoreSlotParts.commit_in_slot.Goals as goal

pub invariant_of-self : goal.invariant_of-self
invariant_of-self c = (
  length_changed c.self.inside.maps.items _ _ ∙ c.self.invariant.0,
  placed_committed c.self.inside.maps.items c.index.result c.args.slot c.index_mut.result.now c.commit.new.store c.args.plan c.args.self.now c.commit.result
      c.self.invariant.0 c.self.invariant.1 c.index.ensures.below c.index_mut.ensures.value c.index.ensures.same c.self.view_is c.requires c.commit.ensures.ok c.commit.ensures.err,
)

pub returns-clause-ok : goal.returns-clause-ok
returns-clause-ok c = committed_ok c.self.inside.maps.items c.index.result c.args.slot c.index_mut.result.now c.commit.new.store c.args.plan c.args.self.now c.commit.result
    c.self.invariant.0 c.self.invariant.1 c.index.ensures.below c.index_mut.ensures.value c.index.ensures.same c.self.view_is c.requires c.commit.ensures.ok c.commit.ensures.err

pub returns-clause-err : goal.returns-clause-err
returns-clause-err c = committed_err c.self.inside.maps.items c.index.result c.args.slot c.index_mut.result.now c.commit.new.store c.args.plan c.args.self.now c.commit.result
    c.self.invariant.0 c.self.invariant.1 c.index.ensures.below c.index_mut.ensures.value c.index.ensures.same c.self.view_is c.requires c.commit.ensures.ok c.commit.ensures.err
