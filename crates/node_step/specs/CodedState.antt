-- That a node's state can be written down, which the prover asks of what a lock may hold (ours). No clause speaks of it.
use Rattle.std.specs.Cmp.Lexicographic.{slice_cmp}
use Rattle.std.specs.Coded.{Coded, codes, coded_list, coded_ℕ}
use Rattle.std.specs.FinMap as map
use Rattle.std.specs.Ordering.{nat_cmp}
use Rattle.keyspace.specs.declared.value.Value.{Value}
use Rattle.slot_state.specs.declared.running.Move.{Move}
use Rattle.node_step.specs.State.{NodeState}

pub coded_state : Coded NodeState
coded_state =
    Prim.hlevel (
      codes,
      let stored : Coded Value = Prim.hlevel codes in map.code {R = slice_cmp nat_cmp} (coded_list coded_ℕ) stored,
      let move : Coded Move = Prim.hlevel codes in map.code {R = nat_cmp} coded_ℕ move,
      map.code {R = nat_cmp} coded_ℕ coded_ℕ,
    )
