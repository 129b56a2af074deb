use Rattle.std.proofs.Common.{refl, sym, ap, subst, ◌∙◌}
use Rattle.std.specs.Map.{lookup, set_value}
use Rattle.key_map.specs.Form.{entries_of}
use Rattle.key_map.specs.KeyMap.{IsRising, is_key}
use Rattle.key_map.proofs.Outcomes.{map_of}
use Rattle.key_map.proofs.Places.{lookup_writes, rising_writes}
use Rattle.key_map.proofs.key_map.KeyMap.get_mut.Goals as goal

pub invariant_of-self-lent : goal.invariant_of-self-lent
invariant_of-self-lent g c = λ _. (
  λ w. subst IsRising (sym (c.get_mut.follows.holds w)) (rising_writes c.args.key.now w (entries_of c.self.inside.form) c.self.invariant),
  subst IsRising (sym c.get_mut.follows.holds-at-none) c.self.invariant,
)

pub returns : goal.returns
returns g c =
    let key = c.args.key.now in
    let written = λ (w : g.row.V.Denot). c.get_mut.follows.holds w ∙ ap (λ m. set_value (is_key key) m.entries w) c.self.view_is in (
      (
        refl,
        (λ w. (written w, λ there other. ap (lookup (is_key other)) (written w) ∙ lookup_writes key w other c.args.self.now.entries there)),
        ap map_of c.get_mut.follows.holds-at-none ∙ c.self.view_is,
      ),
      record { lends = tt; value = c.get_mut.ensures.value ∙ ap (λ m. lookup (is_key key) m.entries) c.self.view_is },
    )
