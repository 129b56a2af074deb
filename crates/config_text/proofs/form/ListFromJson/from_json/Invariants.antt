use Rattle.std.proofs.Common.{◌≡◌, drop}
use Rattle.serde_json.specs.View.{items_view}
use Rattle.config_text.specs.Form.{each}
use Rattle.config_text.proofs.FormLemmas.{before}
use Rattle.config_text.proofs.form.ListFromJson.from_json.Given as goal

abbrev pub invariant-loop-value : goal.invariant-loop-value
invariant-loop-value g l = each g.T.FromJson.form (items_view l.value-items) ≡ before l.items.items (each g.T.FromJson.form (items_view (drop l.value-index l.value-items)))
