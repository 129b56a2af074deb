use Rattle.std.proofs.Common.{arith}
use Rattle.std.proofs.lemmas.List.{nil_from_length}
use Rattle.std.proofs.lemmas.Bool.Decides.{nat_tests}
use Rattle.repl_stream.proofs.TurnLemmas.{has_bytes, same_turned_back, turned_back}
use Rattle.repl_stream.proofs.pages.Pages.reopen.Goals as goal

pub returns-clause-keeps : goal.returns-clause-keeps
returns-clause-keeps c = λ kept keeps.
    let back = c.turn_back.ensures in
    turned_back c.args.self.now c.turn_back.new.self kept keeps (nil_from_length _ (grind (arith, nat_tests))) back.last back.empty back.rest back.count back.capacity back.len

pub returns-clause-bytes : goal.returns-clause-bytes
returns-clause-bytes c =
    let back = c.turn_back.ensures in
    same_turned_back c.args.self.now c.turn_back.new.self (nil_from_length _ (grind (arith, nat_tests))) back.last back.empty back.rest (omega arith)

pub returns-clause-some : goal.returns-clause-some
returns-clause-some c = λ kept some keeps.
    has_bytes c.args.self.now kept c.turn_back.new.self.last some c.requires.some keeps (nil_from_length _ (grind (arith, nat_tests))) c.turn_back.ensures.last
