use Rattle.std.proofs.Common.{ap, ◌∙◌}
use Rattle.std.specs.BTreeMap.{insert_entry}
use Rattle.std.specs.Map.{lookup}
use Rattle.key_map.specs.Form.{entries_of}
use Rattle.key_map.specs.KeyMap.{is_key}
use Rattle.key_map.proofs.Outcomes.{ok_leads, rising_after}
use Rattle.key_map.proofs.Places.{compare, lookup_puts}
use Rattle.key_map.proofs.key_map.KeyMap.insert.Goals as goal

pub invariant_of-self : goal.invariant_of-self
invariant_of-self g c =
    rising_after c.insert.result c.args.key c.args.value (entries_of c.self.inside.form) (entries_of c.insert.new.self) c.self.invariant c.insert.ensures.entries c.insert.ensures.err

pub returns-clause-updates : goal.returns-clause-updates
returns-clause-updates g c =
    ok_leads c.insert.result (λ put other.
    ap (lookup (is_key other)) (put ∙ ap (λ m. insert_entry compare m.entries c.args.key c.args.value) c.self.view_is)
    ∙ lookup_puts c.args.key c.args.value other c.args.self.now.entries) c.insert.ensures.entries
