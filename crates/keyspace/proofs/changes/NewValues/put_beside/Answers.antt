use Rattle.std.proofs.Common.{◌≡◌, sym, ◌∙◌}
use Rattle.std.specs.List.{list_any}
use Rattle.std.specs.Map.{keys_of}
use Rattle.std.specs.Option.{option_copied}
use Rattle.keyspace.proofs.KeysLeft.{apart_fails, named, none_apart, none_put, one_put, put_there}
use Rattle.keyspace.specs.Leaving.{puts_beside}
use Rattle.keyspace.proofs.changes.NewValues.put_beside.Goals as goal
use Rattle.keyspace.proofs.changes.NewValues.put_beside.Goals.{in_default-via-in-Some+else-puts_beside, in_default-via-in_default}

pub returns-in-Some-clause-some : goal.returns-in-Some-clause-some
returns-in-Some-clause-some c some keyspace = put_there _ _ _ (sym c.if-puts_beside.ensures) keyspace

pub returns-in_default-clause-some : goal.returns-in_default-clause-some
returns-in_default-clause-some c some keyspace = one_put _ _ _ (sym c.any_put.ensures ∙ some) keyspace

pub returns-in_default-clause-none : goal.returns-in_default-clause-none
returns-in_default-clause-none c none key =
    let test = puts_beside c.args.self.now (option_copied c.args.gone) in
    let first = c.self.inside.first in
    let more = c.self.inside.more.entries in
    let all : list_any test (named first more) ≡ list_any test (keys_of more) =
    elim c.in_default.branch [
      | in_default-via-in-Some+else-puts_beside w ↦ apart_fails test first more _ _ w.in-Some.is (sym w.if-puts_beside.ensures)
      | in_default-via-in_default w ↦ none_apart test first more w.in_default.is
    ] in
    none_put first more c.args.self.now c.self.view_is (option_copied c.args.gone) (all ∙ sym c.any_put.ensures ∙ none) key
