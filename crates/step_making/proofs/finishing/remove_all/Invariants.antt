use Rattle.std.proofs.Common.{◌≡◌, take}
use Rattle.node_step.specs.Copies.{without}
use Rattle.step_making.proofs.finishing.remove_all.Given as goal

-- the keys so far are removed
abbrev pub invariant-loop-key : goal.invariant-loop-key
invariant-loop-key g l =
    let contents = g.S.Store.contents in
    contents l.store ≡ without (contents l.initial.store) (take l.key-index l.keys)
