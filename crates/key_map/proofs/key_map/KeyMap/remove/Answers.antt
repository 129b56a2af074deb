use Rattle.std.proofs.Common.{None, sym, ap, subst, cond, ◌∙◌}
use Rattle.std.specs.Map.{lookup}
use Rattle.key_map.specs.Form.{entries_of}
use Rattle.key_map.specs.KeyMap.{IsRising, is_key}
use Rattle.key_map.proofs.Places.{lookup_removes, rising_removes}
use Rattle.key_map.proofs.key_map.KeyMap.remove.Goals as goal

pub invariant_of-self : goal.invariant_of-self
invariant_of-self g c = subst IsRising (sym c.remove.ensures.entries) (rising_removes c.args.key.now (entries_of c.self.inside.form) c.self.invariant)

pub returns-clause-updates : goal.returns-clause-updates
returns-clause-updates g c = λ other.
    let key = c.args.key.now in
    ap (lookup (is_key other)) c.remove.ensures.entries ∙ lookup_removes key other (entries_of c.self.inside.form) c.self.invariant
    ∙ ap (λ m. cond (is_key key other) None (lookup (is_key other) m.entries)) c.self.view_is
