use Rattle.std.proofs.Common.{rules, ◌≡◌, ◌∙◌, ap}
use Rattle.simulator.specs.Lines.{words}
use Rattle.simulator.specs.Script.{request_of}
use Rattle.simulator.proofs.Requests.{request_read}
use Rattle.simulator.proofs.script.request_of.Goals as goal

pub returns : goal.returns
returns c =
    let items : c.in_ok-words_in.field-0.items ≡ words c.args.request.now = search rules in
    request_read c.in_ok-words_in.field-0.items c.new.result c.new.ensures.words c.new.ensures.request c.new.ensures.whole ∙ ap request_of items
