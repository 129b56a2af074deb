use Rattle.std.proofs.Common.{◌∙◌, refl, inr, rules}
use Rattle.config_text.proofs.TextLemmas.{value_of-utf8, value_of-none}
use Rattle.config_text.proofs.reading.value_of.Goals as goal

pub returns-in-Ok : goal.returns-in-Ok
returns-in-Ok c = record {
  value = value_of-utf8 c.args.text.now c.in-Ok.ensures.ok.0 ∙ c.in-Ok.ensures.ok.1;
  fault = tt;
}

pub returns-in-Err-2-clause-fault : goal.returns-in-Err-2-clause-fault
returns-in-Err-2-clause-fault c = inr (refl, value_of-none c.args.text.now (λ utf8. c.in-Err.ensures.err (search rules) utf8))
